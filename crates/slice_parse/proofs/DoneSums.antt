-- What each rule of one token, of sums and of lists reads.
use Rattle.std.proofs.Common.{◌≡◌, ℕ, Bool, true, false, ◌≤◌, length, cond, List, [], ◌∷◌, ◌++◌, refl, ap, sym, subst, ◌∙◌, append_assoc, Option, Some, None, codes}
use Rattle.slice_ast.specs.Tokens.{Mark, Plain, Spelled, Digits, Final, listed as listed_marks, more_listed, name_marks, names_after, ref_marks, den_marks, fraction_marks, operand_marks, factor_marks, term_marks, more_marks, terms_marks, sum_marks, cmp_text, arg_marks, kind_text, param_marks, sign as sign_text}
use Rattle.slice_ast.specs.declared.tree.Name.{Name}
use Rattle.slice_ast.specs.declared.tree.Number.{Number}
use Rattle.slice_ast.specs.declared.tree.Fraction.{Fraction}
use Rattle.slice_ast.specs.declared.tree.Operand.{Operand}
use Rattle.slice_ast.specs.declared.tree.Operand.TheVariants as operand
use Rattle.slice_ast.specs.declared.tree.Term.{Term}
use Rattle.slice_ast.specs.declared.tree.Sum.{Sum}
use Rattle.slice_ast.specs.declared.tree.AgentRef.{AgentRef}
use Rattle.slice_ast.specs.declared.tree.AgentRef.TheVariants as ref
use Rattle.slice_ast.specs.declared.tree.Cmp.{Cmp}
use Rattle.slice_ast.specs.declared.tree.Kind.{Kind}
use Rattle.slice_ast.specs.declared.tree.Cmp.TheVariants as cmp
use Rattle.slice_ast.specs.declared.tree.Kind.TheVariants as kind
use Rattle.slice_ast.specs.declared.tree.Param.{Param}
use Rattle.slice_ast.specs.declared.tree.Arg.{Arg}
use Rattle.slice_ast.specs.declared.tree.Arg.TheVariants as arg
use Rattle.slice_parse.specs.declared.lexeme.Fixed.{Fixed}
use Rattle.slice_parse.specs.declared.lexeme.Fixed.TheVariants as fixed
use Rattle.slice_parse.specs.declared.lexeme.What.{What}
use Rattle.slice_parse.specs.declared.lexeme.What.TheVariants as what
use Rattle.slice_parse.specs.Combinators.{Token, Good, Parser, Long, Tired, ◌>>=◌, ◌>>◌, pure, next_is, when}
use Rattle.slice_parse.specs.Lexemes.{fixed_text, is, is_what, is_number, is_number_what, is_sign, is_sign_what, place_if, name_in, number_in, ref_in, fixed_as, sign_of, cmp_of, kind_of, expect, name as one_name, number, agent_ref, sign, comparison, kind_word}
use Rattle.slice_ast.specs.Spellable.{Each}
use Rattle.slice_parse.proofs.Matching.{Matches, also, what_of, is_at, plain_fixed}
use Rattle.slice_parse.proofs.DoneSteps.{Done, Any, Free, Not, done_marks, done_less, then_is, then_any, last_is, last_any, done_true, done_false, done_nothing, by_mark, when_false, done_one, done_many, goes_on}
use denote.Enum.Bare.{true_same}
use Rattle.slice_parse.specs.contracts.lexeme.Fixed.{the_type}
use Rattle.slice_parse.specs.Rules.{after_comma, listed, in_parens, denominator, fraction, value_operand, named_operand, plain_operand, fraction_operand, operand_rule, term_of, after_fraction, fraction_term, plain_term, term, signed_term, more_terms, sum, names, as_names, param, params, agent_arg, piece_arg, number_arg, argument, args}

pub leaf_is : {A B : Type 0} {G : List Token → Type 0} {ms ns : List Mark} {S : B → Type 0} (p : Parser A) (k : A → Parser B) (b : A)
    → Done Free p ms (λ a. a ≡ b) → Done G (k b) ns S → Done G (p >>= k) (ms ++ ns) S
leaf_is p k b first next = then_is p k b first next (λ us r m g. tt)

pub leaf_any : {A B : Type 0} {G : List Token → Type 0} {ms ns : List Mark} {S : B → Type 0} (p : Parser A) (k : A → Parser B)
    → Done Free p ms Any → ((a : A) → Done G (k a) ns S) → Done G (p >>= k) (ms ++ ns) S
leaf_any p k first next = then_any p k first next (λ us r m g. tt)

pub leaf_last_is : {A B : Type 0} {F : List Token → Type 0} {ms : List Mark} {S : B → Type 0} (p : Parser A) (k : A → Parser B) (b : A) (v : B)
    → Done Free p ms (λ a. a ≡ b) → ((r : List Token) → k b r ≡ Good v r) → S v → Done F (p >>= k) ms S
leaf_last_is p k b v first next s = last_is p k b v (done_less (λ r f. tt) first) (λ r f. next r) s

pub leaf_last_any : {A B : Type 0} {F : List Token → Type 0} {ms : List Mark} {S : B → Type 0} (p : Parser A) (k : A → Parser B) (v : B)
    → Done Free p ms Any → ((a : A) (r : List Token) → k a r ≡ Good v r) → S v → Done F (p >>= k) ms S
leaf_last_any p k v first next s = last_any p k v (done_less (λ r f. tt) first) next s

-- ---- one token

place_own : (f : Fixed) (at : ℕ) → place_if f (what.Fixed f) at ≡ Some at
place_own f at = ap (λ b. cond b (Some at) None) (true_same the_type f f refl)

place_some : (f : Fixed) (w : What) (at : ℕ) → w ≡ what.Fixed f → place_if f w at ≡ Some at
place_some f w at e = ap (λ x. place_if f x at) e ∙ place_own f at

pub done_word : (f : Fixed) → Done Free (expect f) (Plain (fixed_text f) ∷ []) Any
done_word f = done_one _ _ (λ t i. record { value = t.at; takes = place_some f t.what t.at (i.kind ∙ plain_fixed f); is = tt })

pub done_end : (f : Fixed) (end : ℕ) → Done Free (expect f) (Final (fixed_text f) end ∷ []) (λ a. a ≡ end)
done_end f end = done_one _ _ (λ t i. record { value = t.at; takes = place_some f t.what t.at (i.kind ∙ plain_fixed f); is = sym i.place })

-- the brace that closes a block, whether its place is told or not
pub done_closing : (m : Mark) → what_of m ≡ what.Fixed fixed.CloseBrace → Done Free (expect fixed.CloseBrace) (m ∷ []) (λ a. is_at m a)
done_closing m e = done_one _ _ (λ t i. record { value = t.at; takes = place_some fixed.CloseBrace t.what t.at (i.kind ∙ e); is = i.place })

pub done_name : (n : Name) → Done Free one_name (Spelled n ∷ []) (λ x. x ≡ n)
done_name n = done_one _ _ (λ t i. record { value = n; takes = ap (λ w. name_in w t.at) i.kind ∙ ap (λ a. Some (record { word = n.word; at = a })) (sym i.place); is = refl })

pub done_number : (n : Number) → Done Free number (Digits n ∷ []) (λ x. x ≡ n)
done_number n = done_one _ _ (λ t i. record { value = n; takes = ap (λ w. number_in w t.at) i.kind ∙ ap (λ a. Some (record { value = n.value; at = a })) (sym i.place); is = refl })

pub done_ref : (a : AgentRef) → Done Free agent_ref (ref_marks a) (λ x. x ≡ a)
done_ref (ref.Fixed n) = done_one _ _ (λ t i. record { value = ref.Fixed n; takes = ap (λ w. ref_in w t.at) i.kind ∙ ap (λ a. Some (ref.Fixed (record { value = n.value; at = a }))) (sym i.place); is = refl })
done_ref (ref.Named n) = done_one _ _ (λ t i. record { value = ref.Named n; takes = ap (λ w. ref_in w t.at) i.kind ∙ ap (λ a. Some (ref.Named (record { word = n.word; at = a }))) (sym i.place); is = refl })

done_sign : (b : Bool) → Done Free sign (Plain (sign_text b) ∷ []) (λ x. x ≡ b)
done_sign true = done_one _ _ (λ t i. record { value = true; takes = ap (λ w. fixed_as sign_of w) i.kind; is = refl })
done_sign false = done_one _ _ (λ t i. record { value = false; takes = ap (λ w. fixed_as sign_of w) i.kind; is = refl })

pub done_cmp : (o : Cmp) → Done Free comparison (Plain (cmp_text o) ∷ []) (λ x. x ≡ o)
done_cmp cmp.Less = done_one _ _ (λ t i. record { value = cmp.Less; takes = ap (λ w. fixed_as cmp_of w) i.kind; is = refl })
done_cmp cmp.AtMost = done_one _ _ (λ t i. record { value = cmp.AtMost; takes = ap (λ w. fixed_as cmp_of w) i.kind; is = refl })
done_cmp cmp.More = done_one _ _ (λ t i. record { value = cmp.More; takes = ap (λ w. fixed_as cmp_of w) i.kind; is = refl })
done_cmp cmp.AtLeast = done_one _ _ (λ t i. record { value = cmp.AtLeast; takes = ap (λ w. fixed_as cmp_of w) i.kind; is = refl })

done_kind : (k : Kind) → Done Free kind_word (Plain (kind_text k) ∷ []) (λ x. x ≡ k)
done_kind kind.Agent = done_one _ _ (λ t i. record { value = kind.Agent; takes = ap (λ w. fixed_as kind_of w) i.kind; is = refl })
done_kind kind.Piece = done_one _ _ (λ t i. record { value = kind.Piece; takes = ap (λ w. fixed_as kind_of w) i.kind; is = refl })
done_kind kind.Number = done_one _ _ (λ t i. record { value = kind.Number; takes = ap (λ w. fixed_as kind_of w) i.kind; is = refl })

-- ---- sums

abbrev pub NoSlash : List Token → Type 0
NoSlash r = Not (is fixed.Slash) r

abbrev pub AfterTerm : List Token → Type 0
AfterTerm r = NoSlash r × Not (is fixed.Star) r

abbrev pub AfterSum : List Token → Type 0
AfterSum r = NoSlash r × (Not (is fixed.Star) r × Not is_sign r)

pub sum_then : {m : Mark} {ms : List Mark} (G : List Token → Type 0) → is_what fixed.Slash (what_of m) ≡ false → is_what fixed.Star (what_of m) ≡ false → is_sign_what (what_of m) ≡ false → (us r : List Token) → Matches (m ∷ ms) us → G r → AfterSum (us ++ r)
sum_then G a b c us r m g = (by_mark (is_what fixed.Slash) false a us r m, (by_mark (is_what fixed.Star) false b us r m, by_mark is_sign_what false c us r m))

pub done_absent : {A : Type 0} {F : List Token → Type 0} (test : Token → Bool) (p : Parser A) (v : A) → ((r : List Token) → F r → next_is test r ≡ false) → Done F (when test p (pure v)) [] (λ x. x ≡ v)
done_absent test p v h = done_nothing _ v refl (λ r f. ap (λ b. cond b (p r) (Good v r)) (h r f))

pub absent_is : {A : Type 0} {F : List Token → Type 0} {R : A → Type 0} (test : Token → Bool) (p : Parser A) (v : A) → R v → ((r : List Token) → F r → next_is test r ≡ false) → Done F (when test p (pure v)) [] R
absent_is test p v w h = done_nothing _ v w (λ r f. ap (λ b. cond b (p r) (Good v r)) (h r f))

done_denominator : (den : Option Number) → Done NoSlash denominator (den_marks den) (λ x. x ≡ den)
unfolding denominator
done_denominator None = done_absent (is fixed.Slash) _ None (λ r f. f)
done_denominator (Some n) = done_true (is fixed.Slash) _ _ (λ us r m f. by_mark (is_what fixed.Slash) true refl us r m) (leaf_any _ _ (done_word fixed.Slash) (λ u1. (leaf_last_is _ _ (n) (Some n) (done_number n) (λ r. refl) refl)))

done_fraction : (f : Fraction) → Done NoSlash fraction (fraction_marks f) (λ x. x ≡ f)
unfolding fraction
done_fraction f = (leaf_is _ _ f.num (done_number f.num) (last_is _ _ f.den f (done_denominator f.den) (λ r h. refl) refl))

done_named : {F : List Token → Type 0} (x : Name) → Done F plain_operand (Spelled x ∷ []) (λ o. o ≡ operand.Named x)
unfolding plain_operand named_operand
done_named x = done_false (is fixed.Value) _ _ (λ us r m f. by_mark (is_what fixed.Value) false refl us r m) (leaf_last_is _ _ (x) (operand.Named x) (done_name x) (λ r. refl) refl)

done_value : {F : List Token → Type 0} (a : AgentRef) (p : Name) → Done F plain_operand (operand_marks (operand.Value a p)) (λ o. o ≡ operand.Value a p)
unfolding plain_operand value_operand
done_value a p = done_true (is fixed.Value) _ _ (λ us r m f. by_mark (is_what fixed.Value) true refl us r m) (leaf_any _ _ (done_word fixed.Value) (λ u4. (leaf_any _ _ (done_word fixed.OpenParen) (λ u3. (leaf_is _ _ (a) (done_ref a) (leaf_any _ _ (done_word fixed.Comma) (λ u2. (leaf_is _ _ (p) (done_name p) (leaf_last_any _ _ (operand.Value a p) (done_word fixed.CloseParen) (λ a r. refl) refl)))))))))

done_operand : (o : Operand) → Done NoSlash operand_rule (operand_marks o) (λ x. x ≡ o)
unfolding operand_rule fraction_operand
done_operand (operand.Fraction f) = done_true is_number _ _ (λ us r m h. by_mark is_number_what true refl us r m) (last_is _ _ f (operand.Fraction f) (done_fraction f) (λ r h. refl) refl)
done_operand (operand.Named x) = done_false is_number _ _ (λ us r m h. by_mark is_number_what false refl us r m) (done_named x)
done_operand (operand.Value a p) = done_false is_number _ _ (λ us r m h. by_mark is_number_what false refl us r m) (done_value a p)

done_parts : (minus : Bool) (factor : Option Fraction) (o : Operand) → Done AfterTerm (term minus) (factor_marks factor ++ operand_marks o) (λ t. t ≡ term_of minus factor o)
unfolding term fraction_term plain_term after_fraction
done_parts minus None (operand.Fraction f) =
    done_true is_number _ _ (λ us r m h. by_mark is_number_what true refl us r m)
    (last_is _ _ f (term_of minus None (operand.Fraction f)) (done_less (λ r h. h.0) (done_fraction f)) (λ r h. when_false (is fixed.Star) (expect fixed.Star >> ◌>>=◌ {B = Term} operand_rule (λ o. pure (term_of minus (Some f) o))) (pure (term_of minus None (operand.Fraction f))) r _ h.1 refl) refl)
done_parts minus None (operand.Named x) =
    done_false is_number _ _ (λ us r m h. by_mark is_number_what false refl us r m)
    (last_is _ _ (operand.Named x) (term_of minus None (operand.Named x)) (done_named x) (λ r h. refl) refl)
done_parts minus None (operand.Value a p) =
    done_false is_number _ _ (λ us r m h. by_mark is_number_what false refl us r m)
    (last_is _ _ (operand.Value a p) (term_of minus None (operand.Value a p)) (done_value a p) (λ r h. refl) refl)
done_parts minus (Some f) o =
    done_true is_number _ _ (λ us r m h. by_mark is_number_what true refl us r m)
    (done_marks _ (fraction_marks f ++ (Plain (codes "*") ∷ operand_marks o)) (append_assoc (fraction_marks f) (Plain (codes "*") ∷ []) (operand_marks o))
    (then_is _ _ f (done_fraction f)
    (done_true (is fixed.Star) _ _ (λ us r m h. by_mark (is_what fixed.Star) true refl us r m)
    (leaf_any _ _ (done_word fixed.Star) (λ u. last_is _ _ o (term_of minus (Some f) o) (done_less (λ r h. h.0) (done_operand o)) (λ r h. refl) refl)))
    (λ us r m h. by_mark (is_what fixed.Slash) false refl us r m)))

pub done_term : (t : Term) → Done AfterTerm (term t.minus) (term_marks t) (λ x. x ≡ t)
done_term t = done_parts t.minus t.factor t.operand

abbrev signed_marks : Term → List Mark
signed_marks t = Plain (sign_text t.minus) ∷ term_marks t

done_signed : (t : Term) → Done AfterTerm signed_term (signed_marks t) (λ x. x ≡ t)
unfolding signed_term
done_signed t = leaf_is _ _ t.minus (done_sign t.minus) (done_term t)

sign_is : (b : Bool) → is_sign_what (what_of (Plain (sign_text b))) ≡ true
sign_is true = refl
sign_is false = refl

sign_no_slash : (b : Bool) → is_what fixed.Slash (what_of (Plain (sign_text b))) ≡ false
sign_no_slash true = refl
sign_no_slash false = refl

sign_no_star : (b : Bool) → is_what fixed.Star (what_of (Plain (sign_text b))) ≡ false
sign_no_star true = refl
sign_no_star false = refl

abbrev Always : {A : Type 0} → A → Type 0
Always a = Unit {0}

always : {A : Type 0} (xs : List A) → Each Always xs
always [] = tt
always (x ∷ xs) = (tt, always xs)

term_after : (x : Term) → Always x → (us r : List Token) → Matches (signed_marks x) us → AfterTerm (us ++ r)
term_after x v us r m = (by_mark (is_what fixed.Slash) false (sign_no_slash x.minus) us r m, by_mark (is_what fixed.Star) false (sign_no_star x.minus) us r m)

done_more : (ts : List Term) (n : ℕ) → length ts ≤ n → Done AfterSum (more_terms n) (more_marks ts) (λ xs. xs ≡ ts)
unfolding more_terms
done_more ts n l = done_many signed_marks Always more_marks refl (λ x xs. refl) Long is_sign signed_term
    (λ x v. done_signed x) (λ x v us r m. by_mark is_sign_what true (sign_is x.minus) us r m) term_after (λ r f. f.1.1) (λ r f. (f.0, f.1.0)) ts (always ts) n l

-- a sum of one term or more, the first with no sign, and at most so many after it
abbrev pub SumFits : ℕ → List Term → Type 0
SumFits n [] = ⊥
SumFits n (t ∷ ts) = (t.minus ≡ false) × (length ts ≤ n)

more_follow : (ts : List Term) (us r : List Token) → Matches (more_marks ts) us → AfterSum r → AfterTerm (us ++ r)
more_follow ts us r m f = goes_on {F = AfterSum} {Fi = AfterTerm} signed_marks Always more_marks refl (λ x xs. refl) Long is_sign signed_term
    (λ x v. done_signed x) (λ x v us r m. by_mark is_sign_what true (sign_is x.minus) us r m) term_after (λ r f. f.1.1) (λ r f. (f.0, f.1.0)) ts (always ts) us r m f

done_terms : (n : ℕ) (ts : List Term) → SumFits n ts → Done AfterSum (sum n) (terms_marks ts) (λ s. s ≡ record { terms = ts })
unfolding sum
done_terms n [] w = absurd w
done_terms n (t ∷ ts) w =
    then_is _ _ t (subst (λ (b : Bool). Done AfterTerm (term b) (term_marks t) (λ x. x ≡ t)) w.0 (done_term t))
    (last_is _ _ ts (record { terms = t ∷ ts }) (done_more ts n w.1) (λ r f. refl) refl)
    (more_follow ts)

pub done_sum : (n : ℕ) (s : Sum) → SumFits n s.terms → Done AfterSum (sum n) (sum_marks s) (λ x. x ≡ s)
done_sum n s w = done_terms n s.terms w

-- ---- lists

-- at most so many items after the first
abbrev pub FitsList : {A : Type 0} → ℕ → List A → Type 0
FitsList n [] = Unit {0}
FitsList n (x ∷ xs) = length xs ≤ n

abbrev pub FitsSome : {A : Type 0} → ℕ → List A → Type 0
FitsSome n [] = ⊥
FitsSome n (x ∷ xs) = length xs ≤ n

-- the next token is this one
pub record Next (f : Fixed) (r : List Token) : Type 0 where
  pub token : Token
  pub after : List Token
  pub split : r ≡ token ∷ after
  pub kind : token.what ≡ what.Fixed f

pub next_test : {f : Fixed} {r : List Token} (test : What → Bool) → Next f r → next_is (λ t. test t.what) r ≡ test (what.Fixed f)
next_test test n = ap (λ ts. next_is (λ t. test t.what) ts) n.split ∙ ap test n.kind

next_mark : {f : Fixed} {m : Mark} {ms : List Mark} → what_of m ≡ what.Fixed f → (us r : List Token) → Matches (m ∷ ms) us → Next f (us ++ r)
next_mark e [] r m = elim m [ ]
next_mark e (t ∷ us) r (also i m) = record { token = t; after = us ++ r; split = refl; kind = i.kind ∙ e }

module _ {A : Type 0} {F Fi : List Token → Type 0} (marks : A → List Mark) (V : A → Type 0) (item : Parser A)
    (each : (x : A) → V x → Done Fi item (marks x) (λ y. y ≡ x))
    (comma : (us r : List Token) (ms : List Mark) → Matches (Plain (codes ",") ∷ ms) us → Fi (us ++ r))
    (stop : (r : List Token) → F r → Not (is fixed.Comma) r)
    (end : (r : List Token) → F r → Fi r) where
  comma_marks : A → List Mark
  comma_marks x = Plain (codes ",") ∷ marks x

  after_each : (x : A) → V x → Done Fi (after_comma item) (comma_marks x) (λ y. y ≡ x)
  unfolding comma_marks after_comma
  after_each x v = leaf_any _ _ (done_word fixed.Comma) (λ u. each x v)

  done_listed : (turns : ℕ) (x : A) (xs : List A) → Each V (x ∷ xs) → length xs ≤ turns → Done F (listed item turns) (listed_marks marks (x ∷ xs)) (λ ys. ys ≡ x ∷ xs)
  unfolding listed comma_marks
  done_listed turns x xs v l =
      then_is _ _ x (each x v.0)
      (last_is _ _ xs (x ∷ xs)
      (done_many comma_marks V (more_listed marks) refl (λ y ys. refl) Tired (is fixed.Comma) (after_comma item) after_each (λ y w us r m. by_mark (is_what fixed.Comma) true refl us r m) (λ y w us r m. comma us r (marks y) m) stop end xs v.1 turns l)
      (λ r f. refl) refl)
      (goes_on {F = F} {Fi = Fi} comma_marks V (more_listed marks) refl (λ y ys. refl) Tired (is fixed.Comma) (after_comma item) after_each (λ y w us r m. by_mark (is_what fixed.Comma) true refl us r m) (λ y w us r m. comma us r (marks y) m) stop end xs v.1)

pub done_names : (n : ℕ) (xs : List Name) → FitsSome n xs → Done (Not (is fixed.Comma)) (names n) (listed_marks name_marks xs) (λ ys. ys ≡ xs)
unfolding names
done_names n [] l = absurd l
done_names n (x ∷ xs) l = done_listed {F = Not (is fixed.Comma)} {Fi = Free} name_marks Always one_name (λ y v. done_name y) (λ us r ms m. tt) (λ r f. f) (λ r f. tt) n x xs (always (x ∷ xs)) l

abbrev pub AfterAs : List Token → Type 0
AfterAs r = Not (is fixed.As) r × Not (is fixed.Comma) r

pub done_as_names : (n : ℕ) (xs : List Name) → FitsList n xs → Done AfterAs (as_names n) (names_after (codes "as") xs) (λ ys. ys ≡ xs)
unfolding as_names
done_as_names n [] l = done_absent (is fixed.As) _ [] (λ r f. f.0)
done_as_names n (x ∷ xs) l = done_true (is fixed.As) _ _ (λ us r m f. by_mark (is_what fixed.As) true refl us r m) (leaf_any _ _ (done_word fixed.As) (λ u. done_less (λ r f. f.1) (done_names n (x ∷ xs) l)))

-- items in parentheses
module _ {A : Type 0} {Fi : List Token → Type 0} (marks : A → List Mark) (V : A → Type 0) (item : Parser A)
    (each : (x : A) → V x → Done Fi item (marks x) (λ y. y ≡ x))
    (comma : (us r : List Token) (ms : List Mark) → Matches (Plain (codes ",") ∷ ms) us → Fi (us ++ r))
    (begin : (x : A) (ms : List Mark) (us r : List Token) → Matches (marks x ++ ms) us → next_is (is fixed.CloseParen) (us ++ r) ≡ false)
    (close : (r : List Token) → Next fixed.CloseParen r → Fi r) where
  done_inside : (turns : ℕ) (xs : List A) → Each V xs → FitsList turns xs → Done (Next fixed.CloseParen) (when (is fixed.CloseParen) (pure []) (listed item turns)) (listed_marks marks xs) (λ ys. ys ≡ xs)
  done_inside turns [] v l = done_nothing _ [] refl (λ r f. ap (λ b. cond b (Good [] r) (listed item turns r)) (next_test (is_what fixed.CloseParen) f))
  done_inside turns (x ∷ xs) v l = done_false (is fixed.CloseParen) _ _ (λ us r m f. begin x (more_listed marks xs) us r m)
      (done_listed {F = Next fixed.CloseParen} {Fi = Fi} marks V item each comma (λ r f. next_test (is_what fixed.Comma) f) close turns x xs v l)

  done_parens : {F : List Token → Type 0} (turns : ℕ) (xs : List A) → Each V xs → FitsList turns xs → Done F (in_parens item turns) (Plain (codes "(") ∷ (listed_marks marks xs ++ Plain (codes ")") ∷ [])) (λ ys. ys ≡ xs)
  unfolding in_parens
  done_parens turns xs v l =
      leaf_any _ _ (done_word fixed.OpenParen) (λ u. then_is _ _ xs (done_inside turns xs v l) (leaf_last_any _ _ xs (done_word fixed.CloseParen) (λ a r. refl) refl) (λ us r m g. next_mark refl us r m))

done_param : (x : Param) → Done Free param (param_marks x) (λ y. y ≡ x)
unfolding param
done_param x = leaf_is _ _ x.kind (done_kind x.kind) (leaf_last_is _ _ x.name x (done_name x.name) (λ r. refl) refl)

kind_begin : (k : Kind) → is_what fixed.CloseParen (what_of (Plain (kind_text k))) ≡ false
kind_begin kind.Agent = refl
kind_begin kind.Piece = refl
kind_begin kind.Number = refl

pub done_params : {F : List Token → Type 0} (turns : ℕ) (xs : List Param) → FitsList turns xs → Done F (params turns) (Plain (codes "(") ∷ (listed_marks param_marks xs ++ Plain (codes ")") ∷ [])) (λ ys. ys ≡ xs)
unfolding params
done_params turns xs l = done_parens {Fi = Free} param_marks Always param (λ x v. done_param x) (λ us r ms m. tt) (λ x ms us r m. by_mark (is_what fixed.CloseParen) false (kind_begin x.kind) us r m) (λ r f. tt) turns xs (always xs) l

-- an argument whose sum has at most so many terms after the first
abbrev pub FitsArg : ℕ → Arg → Type 0
FitsArg t (arg.Agent a) = Unit {0}
FitsArg t (arg.Piece p) = Unit {0}
FitsArg t (arg.Number s) = SumFits t s.terms

done_argument : (t : ℕ) (x : Arg) → FitsArg t x → Done AfterSum (argument t) (arg_marks x) (λ y. y ≡ x)
unfolding argument agent_arg piece_arg number_arg
done_argument t (arg.Agent a) w = done_true (is fixed.Agent) _ _ (λ us r m f. by_mark (is_what fixed.Agent) true refl us r m) (leaf_any _ _ (done_word fixed.Agent) (λ u5. (leaf_last_is _ _ (a) (arg.Agent a) (done_ref a) (λ r. refl) refl)))
done_argument t (arg.Piece p) w =
    done_false (is fixed.Agent) _ _ (λ us r m f. by_mark (is_what fixed.Agent) false refl us r m)
    (done_true (is fixed.Piece) _ _ (λ us r m f. by_mark (is_what fixed.Piece) true refl us r m) (leaf_any _ _ (done_word fixed.Piece) (λ u6. (leaf_last_is _ _ (p) (arg.Piece p) (done_name p) (λ r. refl) refl))))
done_argument t (arg.Number s) w =
    done_false (is fixed.Agent) _ _ (λ us r m f. by_mark (is_what fixed.Agent) false refl us r m)
    (done_false (is fixed.Piece) _ _ (λ us r m f. by_mark (is_what fixed.Piece) false refl us r m)
    (leaf_any _ _ (done_word fixed.Number) (λ u7. (last_is _ _ (s) (arg.Number s) (done_sum t s w) (λ r f. refl) refl))))

arg_begin : (x : Arg) (ms : List Mark) (us r : List Token) → Matches (arg_marks x ++ ms) us → next_is (is fixed.CloseParen) (us ++ r) ≡ false
arg_begin (arg.Agent a) ms us r m = by_mark (is_what fixed.CloseParen) false refl us r m
arg_begin (arg.Piece p) ms us r m = by_mark (is_what fixed.CloseParen) false refl us r m
arg_begin (arg.Number s) ms us r m = by_mark (is_what fixed.CloseParen) false refl us r m

pub done_args : {F : List Token → Type 0} (t turns : ℕ) (xs : List Arg) → Each (FitsArg t) xs → FitsList turns xs → Done F (args t turns) (Plain (codes "(") ∷ (listed_marks arg_marks xs ++ Plain (codes ")") ∷ [])) (λ ys. ys ≡ xs)
unfolding args
done_args t turns xs v l = done_parens {Fi = AfterSum} arg_marks (FitsArg t) (argument t) (λ x w. done_argument t x w) (λ us r ms m. sum_then Free refl refl refl us r m tt) arg_begin
    (λ r f. (next_test (is_what fixed.Slash) f, (next_test (is_what fixed.Star) f, next_test is_sign_what f))) turns xs v l
