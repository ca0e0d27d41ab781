-- How deep in blocks and how far in a sum each rule goes; that what is read is within the limits, and that no list runs out of turns.
use Rattle.std.proofs.Common.{◌≡◌, ℕ, zero, suc, ◌+◌, ◌-◌, ◌<◌, ◌≤◌, ◌==◌, Bool, true, false, cond, List, [], ◌∷◌, length, refl, ap, sym, subst, arith, Some, None}
use Rattle.std.proofs.lemmas.Bool.{eqb-true}
use denote.Enum.Bare.{same_true}
use Rattle.slice_parse.specs.contracts.lexeme.Fixed.{the_type}
use Rattle.slice_ast.specs.Code.{Code, End, PlainProc, Head, ACut, ALet, AJoin, AGive, AnIf, APick, ACall, put, puts}
use Rattle.slice_ast.specs.declared.tree.Name.{Name}
use Rattle.slice_ast.specs.declared.tree.Number.{Number}
use Rattle.slice_ast.specs.declared.tree.AgentRef.{AgentRef}
use Rattle.slice_ast.specs.declared.tree.Fraction.{Fraction}
use Rattle.slice_ast.specs.declared.tree.Cmp.{Cmp}
use Rattle.slice_ast.specs.declared.tree.Sum.{Sum}
use Rattle.slice_ast.specs.declared.tree.Kind.{Kind}
use Rattle.slice_parse.specs.declared.lexeme.Fixed.{Fixed}
use Rattle.slice_parse.specs.declared.lexeme.Fixed.TheVariants as fixed
use Rattle.slice_parse.specs.declared.lexeme.What.{What}
use Rattle.slice_parse.specs.declared.lexeme.What.TheVariants as what
use Rattle.slice_parse.specs.Combinators.{Token, Deep, Long, Parser, pure, next_is, many}
use Rattle.slice_parse.specs.Lexemes.{is, is_sign, starts, expect, name_in, number_in, ref_in, fixed_as, sign_of, cmp_of, kind_of, name, number, agent_ref, sign, comparison, kind_word}
use Rattle.slice_ast.specs.Spellable.{Each}
use Rattle.slice_ast.specs.Limits.{IsShort, IsShortArg, IsCodeWithin, IsWithinLimits}
use Rattle.slice_parse.specs.Rules.{after_comma, listed, in_parens, denominator, fraction, value_operand, named_operand, plain_operand, fraction_operand, operand_rule, after_fraction, fraction_term, plain_term, term, signed_term, more_terms, sum, names, as_names, param, params, agent_arg, piece_arg, number_arg, argument, args, cut_head, let_head, join_head, give_head, pick_head, call_head, if_end, Braced, if_head, head, heads, yields, body, block, proc, procs, program}
use Rattle.slice_parse.proofs.FromLeaves.{place_is}
use Rattle.slice_parse.proofs.LimitSteps.{Spot, step_fixed, Why, Steps, Steady, steady_bind, weaker, steady_turn, steady_when, steady_pure, steady_stop, steady_syntax, steady_one, steady_many, steady_finish}

abbrev pub Any : {A : Type 0} → A → Type 0
Any a = Unit {0}

abbrev pub At : ℕ → Spot → Type 0
At d s = s.depth ≡ d

abbrev pub InSum : ℕ → ℕ → Spot → Type 0
InSum d k s = (s.depth ≡ d) × (s.signs ≡ k)

calm : {A : Type 0} {V : A → Type 0} {P Q : Spot → Type 0} {p : Parser A} {n : ℕ} → Steady n 1 V P Q p → Steady n 0 V P Q p
calm {n = n} x = weaker n n 1 (omega arith) x

-- a word, by what its step does
steady_word : (n : ℕ) (f : Fixed) (P Q : Spot → Type 0) → ((s : Spot) → P s → Steps Q s (what.Fixed f)) → Steady n 1 Any P Q (expect f)
steady_word n f P Q h = steady_one _ Any P Q (λ s t a q e. (subst (λ (w : What). Steps Q s w) (sym (place_is f t.what t.at a e).0) (h s q), tt)) n

-- a word that changes nothing
plain_word : {P : Spot → Type 0} (n : ℕ) (f : Fixed) → ((s : Spot) → step_fixed s f ≡ Some s) → Steady n 1 Any P P (expect f)
plain_word {P = P} n f h = steady_word n f P P (λ s q. record { next = s; steps = h s; holds = q })

-- a word that a sum follows
sum_word : {d : ℕ} (n : ℕ) (f : Fixed) → ((s : Spot) → step_fixed s f ≡ Some (record { depth = s.depth; signs = 0 })) → Steady n 1 Any (At d) (InSum d 0) (expect f)
sum_word {d = d} n f h = steady_word n f (At d) (InSum d 0) (λ s q. record { next = record { depth = s.depth; signs = 0 }; steps = h s; holds = (q, refl) })

name_steps : (P : Spot → Type 0) (w : What) (at : ℕ) (a : Name) (s : Spot) → P s → name_in w at ≡ Some a → Steps P s w
name_steps P (what.Fixed c) at a s q e = cc
name_steps P (what.Name w) at a s q e = record { next = s; steps = refl; holds = q }
name_steps P (what.Number n) at a s q e = record { next = s; steps = refl; holds = q }

eat_name : {P : Spot → Type 0} (n : ℕ) → Steady n 1 Any P P name
eat_name {P = P} n = steady_one _ Any P P (λ s t a q e. (name_steps P t.what t.at a s q e, tt)) n

number_steps : (P : Spot → Type 0) (w : What) (at : ℕ) (a : Number) (s : Spot) → P s → number_in w at ≡ Some a → Steps P s w
number_steps P (what.Fixed c) at a s q e = cc
number_steps P (what.Name w) at a s q e = record { next = s; steps = refl; holds = q }
number_steps P (what.Number n) at a s q e = record { next = s; steps = refl; holds = q }

eat_number : {P : Spot → Type 0} (n : ℕ) → Steady n 1 Any P P number
eat_number {P = P} n = steady_one _ Any P P (λ s t a q e. (number_steps P t.what t.at a s q e, tt)) n

ref_steps : (P : Spot → Type 0) (w : What) (at : ℕ) (a : AgentRef) (s : Spot) → P s → ref_in w at ≡ Some a → Steps P s w
ref_steps P (what.Fixed c) at a s q e = cc
ref_steps P (what.Name w) at a s q e = record { next = s; steps = refl; holds = q }
ref_steps P (what.Number n) at a s q e = record { next = s; steps = refl; holds = q }

eat_ref : {P : Spot → Type 0} (n : ℕ) → Steady n 1 Any P P agent_ref
eat_ref {P = P} n = steady_one _ Any P P (λ s t a q e. (ref_steps P t.what t.at a s q e, tt)) n

-- a number below the limit isn't at it
below : (k m : ℕ) (b : Bool) → (k == m) ≡ b → (k ≡ m → ⊥) → b ≡ false
below k m true e h = absurd (h (eqb-true k m e))
below k m false e h = refl

one_more : (m : ℕ) (k : ℕ) (x : Spot) → (k ≡ m → ⊥) → cond (k == m) None (Some x) ≡ Some x
one_more m k x h = ap (λ b. cond b None (Some x)) (below k m (k == m) refl h)

abbrev next_sign : Spot → Spot
next_sign s = record { depth = s.depth; signs = s.signs + 1 }

sign_steps : (d k : ℕ) (w : What) (b : Bool) (s : Spot) → k < 63 → InSum d k s → fixed_as sign_of w ≡ Some b → Steps (InSum d (suc k)) s w
sign_steps d k (what.Fixed fixed.Plus) b s l q e = record { next = next_sign s; steps = one_more 63 s.signs (next_sign s) (λ x. let y : s.signs ≡ k = q.1 in absurd (omega arith)); holds = (q.0, (let y : s.signs ≡ k = q.1 in omega arith)) }
sign_steps d k (what.Fixed fixed.Minus) b s l q e = record { next = next_sign s; steps = one_more 63 s.signs (next_sign s) (λ x. let y : s.signs ≡ k = q.1 in absurd (omega arith)); holds = (q.0, (let y : s.signs ≡ k = q.1 in omega arith)) }
sign_steps d k (what.Fixed c) b s l q e = cc
sign_steps d k (what.Name w) b s l q e = cc
sign_steps d k (what.Number n) b s l q e = cc

eat_sign : (n d k : ℕ) → k < 63 → Steady n 1 Any (InSum d k) (InSum d (suc k)) sign
eat_sign n d k l = steady_one _ Any (InSum d k) (InSum d (suc k)) (λ s t b q e. (sign_steps d k t.what b s l q e, tt)) n

cmp_steps : (d : ℕ) (w : What) (o : Cmp) (s : Spot) → At d s → fixed_as cmp_of w ≡ Some o → Steps (InSum d 0) s w
cmp_steps d (what.Fixed fixed.Less) o s q e = record { next = record { depth = s.depth; signs = 0 }; steps = refl; holds = (q, refl) }
cmp_steps d (what.Fixed fixed.AtMost) o s q e = record { next = record { depth = s.depth; signs = 0 }; steps = refl; holds = (q, refl) }
cmp_steps d (what.Fixed fixed.More) o s q e = record { next = record { depth = s.depth; signs = 0 }; steps = refl; holds = (q, refl) }
cmp_steps d (what.Fixed fixed.AtLeast) o s q e = record { next = record { depth = s.depth; signs = 0 }; steps = refl; holds = (q, refl) }
cmp_steps d (what.Fixed c) o s q e = cc
cmp_steps d (what.Name w) o s q e = cc
cmp_steps d (what.Number n) o s q e = cc

eat_cmp : {d : ℕ} (n : ℕ) → Steady n 1 Any (At d) (InSum d 0) comparison
eat_cmp {d = d} n = steady_one _ Any (At d) (InSum d 0) (λ s t o q e. (cmp_steps d t.what o s q e, tt)) n

kind_steps : (d : ℕ) (w : What) (k : Kind) (s : Spot) → At d s → fixed_as kind_of w ≡ Some k → Steps (At d) s w
kind_steps d (what.Fixed fixed.Agent) k s q e = record { next = s; steps = refl; holds = q }
kind_steps d (what.Fixed fixed.Piece) k s q e = record { next = s; steps = refl; holds = q }
kind_steps d (what.Fixed fixed.Number) k s q e = record { next = record { depth = s.depth; signs = 0 }; steps = refl; holds = q }
kind_steps d (what.Fixed c) k s q e = cc
kind_steps d (what.Name w) k s q e = cc
kind_steps d (what.Number n) k s q e = cc

eat_kind : {d : ℕ} (n : ℕ) → Steady n 1 Any (At d) (At d) kind_word
eat_kind {d = d} n = steady_one _ Any (At d) (At d) (λ s t k q e. (kind_steps d t.what k s q e, tt)) n

module _ (n : ℕ) where
  limit_denominator : {P : Spot → Type 0} → Steady n 0 Any P P denominator
  unfolding denominator
  limit_denominator = (steady_when _ _ _ (steady_bind n 0 _ _ (calm (plain_word n fixed.Slash (λ s. refl))) (λ v0 w0. (steady_bind n 0 _ _ (calm (eat_number n)) (λ v1 w1. (steady_pure _ (tt)))))) (steady_pure _ tt))

  limit_fraction : {P : Spot → Type 0} → Steady n 0 Any P P fraction
  unfolding fraction
  limit_fraction = (steady_bind n 0 _ _ (calm (eat_number n)) (λ v0 w0. (steady_bind n 0 _ _ limit_denominator (λ v1 w1. (steady_pure _ (tt))))))

  limit_plain : {P : Spot → Type 0} → Steady n 0 Any P P plain_operand
  unfolding plain_operand value_operand named_operand
  limit_plain = (steady_when _ _ _ (steady_bind n 0 _ _ (calm (plain_word n fixed.Value (λ s. refl))) (λ v0 w0. (steady_bind n 0 _ _ (calm (plain_word n fixed.OpenParen (λ s. refl))) (λ v1 w1. (steady_bind n 0 _ _ (calm (eat_ref n)) (λ v2 w2. (steady_bind n 0 _ _ (calm (plain_word n fixed.Comma (λ s. refl))) (λ v3 w3. (steady_bind n 0 _ _ (calm (eat_name n)) (λ v4 w4. (steady_bind n 0 _ _ (calm (plain_word n fixed.CloseParen (λ s. refl))) (λ v5 w5. (steady_pure _ (tt)))))))))))))) (steady_bind n 0 _ _ (calm (eat_name n)) (λ v0 w0. (steady_pure _ (tt)))))

  limit_operand : {P : Spot → Type 0} → Steady n 0 Any P P operand_rule
  unfolding operand_rule fraction_operand
  limit_operand = (steady_when _ _ _ (steady_bind n 0 _ _ limit_fraction (λ v0 w0. (steady_pure _ (tt)))) limit_plain)

  limit_after : {P : Spot → Type 0} (minus : Bool) (f : Fraction) → Steady n 0 Any P P (after_fraction minus f)
  unfolding after_fraction
  limit_after minus f = (steady_when _ _ _ (steady_bind n 0 _ _ (calm (plain_word n fixed.Star (λ s. refl))) (λ v0 w0. (steady_bind n 0 _ _ limit_operand (λ v1 w1. (steady_pure _ (tt)))))) (steady_pure _ tt))

  limit_term : {P : Spot → Type 0} (minus : Bool) → Steady n 0 Any P P (term minus)
  unfolding term fraction_term plain_term
  limit_term minus = (steady_when _ _ _ (steady_bind n 0 _ _ limit_fraction (λ f w. limit_after minus f)) (steady_bind n 0 _ _ limit_plain (λ v0 w0. (steady_pure _ (tt)))))

  limit_signed : (d k : ℕ) → k < 63 → Steady n 1 Any (InSum d k) (InSum d (suc k)) signed_term
  unfolding signed_term
  limit_signed d k l = steady_bind n 1 _ _ (eat_sign n d k l) (λ minus w. limit_term minus)

  long_here : (d k : ℕ) → k + 0 ≡ 63 → (ts : List Token) (s : Spot) → length ts ≤ n → InSum d k s → next_is is_sign ts ≡ true → Why Long s ts
  long_here d k e [] s h q g = cc
  long_here d k e (t ∷ ts) s h q g = (record { token = t; after = ts; split = refl; is = g }, (let y : s.signs ≡ k = q.1 in omega arith))

  limit_more : (d k t : ℕ) → k + t ≡ 63 → Steady n 0 (λ xs. length xs ≤ t) (InSum d k) (At d) (many Long is_sign signed_term t)
  unfolding many
  limit_more d k zero e = steady_turn (λ s q. q) (λ s q. q.0) (λ xs v. v) (steady_stop is_sign Long (pure []) (long_here d k e) (steady_pure [] (omega arith)))
  limit_more d k (suc t) e =
      steady_when _ _ _
      (steady_bind n 0 _ _ (calm (limit_signed d k (omega arith))) (λ x v. steady_bind n 0 _ _ (limit_more d (suc k) t (omega arith)) (λ xs w. steady_pure (x ∷ xs) (omega arith))))
      (steady_turn (λ s q. q) (λ s q. q.0) (λ xs v. v) (steady_pure [] (omega arith)))

  limit_sum : (d : ℕ) → Steady n 0 IsShort (InSum d 0) (At d) (sum 63)
  unfolding sum more_terms
  limit_sum d = (steady_bind n 0 _ _ (limit_term false) (λ v0 w0. (steady_bind n 0 _ _ (limit_more d 0 63 refl) (λ v1 w1. (steady_pure _ (omega arith))))))

  limit_listed : {A : Type 0} {V : A → Type 0} {P : Spot → Type 0} (item : Parser A) → Steady n 0 V P P item → Steady n 0 (Each V) P P (listed item n)
  unfolding listed after_comma
  limit_listed item x = (steady_bind n 0 _ _ x (λ v0 w0. (steady_bind n 0 _ _ (steady_many n (is fixed.Comma) _ (steady_bind n 1 _ _ (plain_word n fixed.Comma (λ s. refl)) (λ u w. x)) n (omega arith)) (λ v1 w1. (steady_pure _ (w0, w1))))))

  limit_parens : {A : Type 0} {V : A → Type 0} {P : Spot → Type 0} (item : Parser A) → Steady n 0 V P P item → Steady n 0 (Each V) P P (in_parens item n)
  unfolding in_parens
  limit_parens item x = (steady_bind n 0 _ _ (calm (plain_word n fixed.OpenParen (λ s. refl))) (λ v0 w0. (steady_bind n 0 _ _ (steady_when _ _ _ (steady_pure [] tt) (limit_listed item x)) (λ v1 w1. (steady_bind n 0 _ _ (calm (plain_word n fixed.CloseParen (λ s. refl))) (λ v2 w2. (steady_pure _ (w1))))))))

  limit_names : {P : Spot → Type 0} → Steady n 0 Any P P (names n)
  unfolding names
  limit_names = steady_turn (λ s q. q) (λ s q. q) (λ xs v. tt) (limit_listed _ (calm (eat_name n)))

  limit_as_names : {P : Spot → Type 0} → Steady n 0 Any P P (as_names n)
  unfolding as_names
  limit_as_names = (steady_when _ _ _ (steady_bind n 0 _ _ (calm (plain_word n fixed.As (λ s. refl))) (λ u w. limit_names)) (steady_pure _ tt))

  limit_params : {d : ℕ} → Steady n 0 Any (At d) (At d) (params n)
  unfolding params param
  limit_params {d = d} = steady_turn (λ s q. q) (λ s q. q) (λ xs v. tt) (limit_parens {V = Any} {P = At d} _ (steady_bind n 0 _ _ (calm (eat_kind n)) (λ v0 w0. (steady_bind n 0 _ _ (calm (eat_name n)) (λ v1 w1. (steady_pure _ (tt)))))))

  limit_argument : {d : ℕ} → Steady n 0 IsShortArg (At d) (At d) (argument 63)
  unfolding argument agent_arg piece_arg number_arg
  limit_argument {d = d} = (steady_when _ _ _ (steady_bind n 0 _ _ (calm (plain_word n fixed.Agent (λ s. refl))) (λ v0 w0. (steady_bind n 0 _ _ (calm (eat_ref n)) (λ v1 w1. (steady_pure _ (tt)))))) (steady_when _ _ _ (steady_bind n 0 _ _ (calm (plain_word n fixed.Piece (λ s. refl))) (λ v0 w0. (steady_bind n 0 _ _ (calm (eat_name n)) (λ v1 w1. (steady_pure _ (tt)))))) (steady_bind n 0 _ _ (calm (sum_word n fixed.Number (λ s. refl))) (λ v0 w0. (steady_bind n 0 _ _ (limit_sum d) (λ v1 w1. (steady_pure _ (w1))))))))

  limit_args : {d : ℕ} → Steady n 0 (Each IsShortArg) (At d) (At d) (args 63 n)
  unfolding args
  limit_args = limit_parens _ limit_argument

  limit_if_end : {P : Spot → Type 0} (close : ℕ) → Steady n 0 Any P P (if_end n close)
  unfolding if_end
  limit_if_end close = (steady_when _ _ _ (steady_bind n 0 _ _ (calm (plain_word n fixed.As (λ s. refl))) (λ v0 w0. (steady_bind n 0 _ _ limit_names (λ v1 w1. (steady_bind n 0 _ _ (calm (plain_word n fixed.Semicolon (λ s. refl))) (λ v2 w2. (steady_pure _ (tt)))))))) (steady_pure _ tt))

  abbrev WithinHead : ℕ → Head → Type 0
  WithinHead b h = IsCodeWithin b (put h End)

  limit_cut : {b d : ℕ} → Steady n 1 (WithinHead b) (At d) (At d) (cut_head 63)
  unfolding cut_head
  limit_cut {d = d} = (steady_bind n 1 _ _ (plain_word n fixed.Cut (λ s. refl)) (λ v0 w0. (steady_bind n 0 _ _ (calm (eat_ref n)) (λ v1 w1. (steady_bind n 0 _ _ (calm (eat_name n)) (λ v2 w2. (steady_bind n 0 _ _ (calm (sum_word n fixed.At (λ s. refl))) (λ v3 w3. (steady_bind n 0 _ _ (limit_sum d) (λ v4 w4. (steady_bind n 0 _ _ (calm (plain_word n fixed.As (λ s. refl))) (λ v5 w5. (steady_bind n 0 _ _ (calm (eat_name n)) (λ v6 w6. (steady_bind n 0 _ _ (calm (plain_word n fixed.Comma (λ s. refl))) (λ v7 w7. (steady_bind n 0 _ _ (calm (eat_name n)) (λ v8 w8. (steady_bind n 0 _ _ (calm (plain_word n fixed.Semicolon (λ s. refl))) (λ v9 w9. (steady_pure _ (w4, tt))))))))))))))))))))))

  limit_let : {b d : ℕ} → Steady n 1 (WithinHead b) (At d) (At d) (let_head 63)
  unfolding let_head
  limit_let {d = d} = (steady_bind n 1 _ _ (plain_word n fixed.Let (λ s. refl)) (λ v0 w0. (steady_bind n 0 _ _ (calm (eat_name n)) (λ v1 w1. (steady_bind n 0 _ _ (calm (sum_word n fixed.Equals (λ s. refl))) (λ v2 w2. (steady_bind n 0 _ _ (limit_sum d) (λ v3 w3. (steady_bind n 0 _ _ (calm (plain_word n fixed.Semicolon (λ s. refl))) (λ v4 w4. (steady_pure _ (w3, tt))))))))))))

  limit_join : {b d : ℕ} → Steady n 1 (WithinHead b) (At d) (At d) join_head
  unfolding join_head
  limit_join = (steady_bind n 1 _ _ (plain_word n fixed.Join (λ s. refl)) (λ v0 w0. (steady_bind n 0 _ _ (calm (eat_name n)) (λ v1 w1. (steady_bind n 0 _ _ (calm (plain_word n fixed.Comma (λ s. refl))) (λ v2 w2. (steady_bind n 0 _ _ (calm (eat_name n)) (λ v3 w3. (steady_bind n 0 _ _ (calm (plain_word n fixed.As (λ s. refl))) (λ v4 w4. (steady_bind n 0 _ _ (calm (eat_name n)) (λ v5 w5. (steady_bind n 0 _ _ (calm (plain_word n fixed.Semicolon (λ s. refl))) (λ v6 w6. (steady_pure _ (tt))))))))))))))))

  limit_give : {b d : ℕ} → Steady n 1 (WithinHead b) (At d) (At d) give_head
  unfolding give_head
  limit_give = (steady_bind n 1 _ _ (plain_word n fixed.Give (λ s. refl)) (λ v0 w0. (steady_bind n 0 _ _ (calm (eat_name n)) (λ v1 w1. (steady_bind n 0 _ _ (calm (plain_word n fixed.To (λ s. refl))) (λ v2 w2. (steady_bind n 0 _ _ (calm (eat_ref n)) (λ v3 w3. (steady_bind n 0 _ _ (calm (plain_word n fixed.Semicolon (λ s. refl))) (λ v4 w4. (steady_pure _ (tt))))))))))))

  limit_pick : {b d : ℕ} → Steady n 1 (WithinHead b) (At d) (At d) (pick_head n)
  unfolding pick_head
  limit_pick = (steady_bind n 1 _ _ (plain_word n fixed.Pick (λ s. refl)) (λ v0 w0. (steady_bind n 0 _ _ (calm (eat_ref n)) (λ v1 w1. (steady_bind n 0 _ _ (calm (plain_word n fixed.From (λ s. refl))) (λ v2 w2. (steady_bind n 0 _ _ limit_names (λ v3 w3. (steady_bind n 0 _ _ (calm (plain_word n fixed.As (λ s. refl))) (λ v4 w4. (steady_bind n 0 _ _ limit_names (λ v5 w5. (steady_bind n 0 _ _ (calm (plain_word n fixed.Semicolon (λ s. refl))) (λ v6 w6. (steady_pure _ (tt))))))))))))))))

  limit_call : {b d : ℕ} → Steady n 1 (WithinHead b) (At d) (At d) (call_head 63 n)
  unfolding call_head
  limit_call = (steady_bind n 1 _ _ (plain_word n fixed.Call (λ s. refl)) (λ v0 w0. (steady_bind n 0 _ _ (calm (eat_name n)) (λ v1 w1. (steady_bind n 0 _ _ limit_args (λ v2 w2. (steady_bind n 0 _ _ limit_as_names (λ v3 w3. (steady_bind n 0 _ _ (calm (plain_word n fixed.Semicolon (λ s. refl))) (λ v4 w4. (steady_pure _ (w2, tt))))))))))))

  -- a block that is read where so many may stand one inside the other
  abbrev WithinBlock : ℕ → Braced → Type 0
  WithinBlock zero a = ⊥
  WithinBlock (suc b) a = IsCodeWithin b a.block.code

  within_if : (b : ℕ) (l : Sum) (o : Cmp) (r : Sum) (y m : Braced) (xs : List Name) (e : ℕ) → IsShort l → IsShort r → WithinBlock b y → WithinBlock b m → WithinHead b (AnIf l o r y.block m.block xs e)
  within_if zero l o r y m xs e p q v w = v
  within_if (suc b) l o r y m xs e p q v w = (p, q, v, w, tt)

  limit_if : {b d : ℕ} (inner : Parser Braced) → Steady n 0 (WithinBlock b) (At d) (At d) inner → Steady n 1 (WithinHead b) (At d) (At d) (if_head 63 n inner)
  unfolding if_head
  limit_if {b = b} {d = d} inner x = (steady_bind n 1 _ _ (sum_word n fixed.If (λ s. refl)) (λ v0 w0. (steady_bind n 0 _ _ (limit_sum d) (λ v1 w1. (steady_bind n 0 _ _ (calm (eat_cmp n)) (λ v2 w2. (steady_bind n 0 _ _ (limit_sum d) (λ v3 w3. (steady_bind n 0 _ _ x (λ v4 w4. (steady_bind n 0 _ _ (calm (plain_word n fixed.Else (λ s. refl))) (λ v5 w5. (steady_bind n 0 _ _ x (λ v6 w6. (steady_bind n 0 _ _ (limit_if_end v6.close) (λ v7 w7. (steady_pure _ (within_if b v1 v2 v3 v4 v6 v7.names v7.end w1 w3 w4 w6))))))))))))))))))

  limit_head : {b d : ℕ} (inner : Parser Braced) → Steady n 0 (WithinBlock b) (At d) (At d) inner → Steady n 1 (WithinHead b) (At d) (At d) (head 63 n inner)
  unfolding head
  limit_head inner x = (steady_when _ _ _ limit_cut (steady_when _ _ _ limit_let (steady_when _ _ _ limit_join (steady_when _ _ _ limit_give (steady_when _ _ _ (limit_if inner x) (steady_when _ _ _ limit_pick limit_call))))))

  within_put : (b : ℕ) (h : Head) (c : Code) → WithinHead b h → IsCodeWithin b c → IsCodeWithin b (put h c)
  within_put b (ACut a p s l r) c w v = (w.0, v)
  within_put b (ALet x s) c w v = (w.0, v)
  within_put b (AJoin p q x) c w v = v
  within_put b (AGive p a) c w v = v
  within_put zero (AnIf l o r y m xs e) c w v = w
  within_put (suc b) (AnIf l o r y m xs e) c w v = (w.0, w.1, w.2, w.3, v)
  within_put b (APick a ps xs e) c w v = v
  within_put b (ACall f xs ns e) c w v = (w.0, v)

  within_puts : (b : ℕ) (hs : List Head) → Each (WithinHead b) hs → IsCodeWithin b (puts hs End)
  within_puts b [] w = tt
  within_puts b (h ∷ hs) w = within_put b h (puts hs End) w.0 (within_puts b hs w.1)

  limit_heads : {b d : ℕ} (inner : Parser Braced) → Steady n 0 (WithinBlock b) (At d) (At d) inner → Steady n 0 (λ hs. IsCodeWithin b (puts hs End)) (At d) (At d) (heads 63 n inner)
  unfolding heads
  limit_heads {b = b} inner x = steady_turn (λ s q. q) (λ s q. q) (λ hs w. within_puts b hs w) (steady_many n starts _ (limit_head inner x) n (omega arith))

  limit_yields : {P : Spot → Type 0} → Steady n 0 Any P P (yields n)
  unfolding yields
  limit_yields = (steady_when _ _ _ (steady_bind n 0 _ _ (calm (plain_word n fixed.Yield (λ s. refl))) (λ v0 w0. (steady_bind n 0 _ _ limit_names (λ v1 w1. (steady_bind n 0 _ _ (calm (plain_word n fixed.Semicolon (λ s. refl))) (λ v2 w2. (steady_pure _ (tt)))))))) (steady_pure _ tt))

  abbrev deeper : Spot → Spot
  deeper s = record { depth = s.depth + 1; signs = s.signs }

  eat_open : (d : ℕ) → d < 64 → Steady n 1 Any (At d) (At (suc d)) (expect fixed.OpenBrace)
  eat_open d l = steady_word n fixed.OpenBrace (At d) (At (suc d)) (λ s q. record { next = deeper s; steps = one_more 64 s.depth (deeper s) (λ x. let y : s.depth ≡ d = q in absurd (omega arith)); holds = (let y : s.depth ≡ d = q in omega arith) })

  eat_close : (d : ℕ) → Steady n 1 Any (At (suc d)) (At d) (expect fixed.CloseBrace)
  eat_close d = steady_word n fixed.CloseBrace (At (suc d)) (At d) (λ s q. record { next = record { depth = s.depth - 1; signs = s.signs }; steps = refl; holds = (let y : s.depth ≡ suc d = q in omega arith) })

  open_here : (w : What) (at : ℕ) → is fixed.OpenBrace (record { what = w; at = at }) ≡ true → w ≡ what.Fixed fixed.OpenBrace
  open_here (what.Fixed c) at e = ap (λ f. what.Fixed f) (same_true the_type tt c fixed.OpenBrace e)
  open_here (what.Name w) at e = cc
  open_here (what.Number m) at e = cc

  deep_here : (d : ℕ) → d + 0 ≡ 64 → (ts : List Token) (s : Spot) → length ts ≤ n → At d s → next_is (is fixed.OpenBrace) ts ≡ true → Why Deep s ts
  deep_here d e [] s h q g = cc
  deep_here d e (t ∷ ts) s h q g = (record { token = t; after = ts; split = refl; is = open_here t.what t.at g }, (let y : s.depth ≡ d = q in omega arith))

  limit_block : (d b : ℕ) → d + b ≡ 64 → Steady n 0 (WithinBlock b) (At d) (At d) (block 63 n b)
  unfolding block body
  limit_block d zero e = steady_stop (is fixed.OpenBrace) Deep _ (deep_here d e) steady_syntax
  limit_block d (suc b) e = (steady_bind n 0 _ _ (calm (eat_open d (omega arith))) (λ v0 w0. (steady_bind n 0 _ _ (limit_heads _ (limit_block (suc d) b (omega arith))) (λ v1 w1. (steady_bind n 0 _ _ limit_yields (λ v2 w2. (steady_bind n 0 _ _ (calm (eat_close d)) (λ v3 w3. (steady_pure _ w1)))))))))

  abbrev WithinProc : PlainProc → Type 0
  WithinProc q = IsCodeWithin 63 q.body.code

  limit_proc : Steady n 1 WithinProc (At 0) (At 0) (proc 63 n 64)
  unfolding proc
  limit_proc = (steady_bind n 1 _ _ (plain_word n fixed.Procedure (λ s. refl)) (λ v0 w0. (steady_bind n 0 _ _ (calm (eat_name n)) (λ v1 w1. (steady_bind n 0 _ _ limit_params (λ v2 w2. (steady_bind n 0 _ _ (limit_block 0 64 refl) (λ v3 w3. (steady_pure _ w3)))))))))

  pub limit_program : Steady n 0 IsWithinLimits (At 0) (At 0) (program 63 n 63)
  unfolding program procs
  limit_program = (steady_bind n 0 _ _ (steady_many n (is fixed.Procedure) _ limit_proc n (omega arith)) (λ v0 w0. (steady_bind n 0 _ _ (calm (plain_word n fixed.Protocol (λ s. refl))) (λ v1 w1. (steady_bind n 0 _ _ (calm (eat_name n)) (λ v2 w2. (steady_bind n 0 _ _ (calm (plain_word n fixed.Agents (λ s. refl))) (λ v3 w3. (steady_bind n 0 _ _ (calm (eat_number n)) (λ v4 w4. (steady_bind n 0 _ _ (calm (eat_open 0 (omega arith))) (λ v5 w5. (steady_bind n 0 _ _ (limit_heads _ (limit_block 1 63 refl)) (λ v6 w6. (steady_bind n 0 _ _ (calm (eat_close 0)) (λ v7 w7. (steady_bind n 0 _ _ (steady_finish n) (λ v8 w8. (steady_pure _ (w0, w6))))))))))))))))))))
