-- Sums and lists: what they read, and what begins so.
use Rattle.std.proofs.Common.{◌≡◌, ℕ, Bool, true, false, List, [], ◌∷◌, ◌++◌, refl, ap, sym, append_assoc, append-nil, Some, None, codes}
use Rattle.slice_ast.specs.Tokens.{Mark, Plain, Spelled, Digits, more_listed, name_marks, names_after, ref_marks, den_marks, fraction_marks, operand_marks, term_marks, more_marks, sum_marks, arg_marks, param_marks, sign as sign_text}
use Rattle.slice_ast.specs.Tokens as tok
use Rattle.slice_ast.specs.declared.tree.Name.{Name}
use Rattle.slice_ast.specs.declared.tree.Fraction.{Fraction}
use Rattle.slice_ast.specs.declared.tree.Operand.{Operand}
use Rattle.slice_ast.specs.declared.tree.Operand.TheVariants as operand
use Rattle.slice_ast.specs.declared.tree.Term.{Term}
use Rattle.slice_ast.specs.declared.tree.Sum.{Sum}
use Rattle.slice_ast.specs.declared.tree.Kind.TheVariants as kind
use Rattle.slice_ast.specs.declared.tree.Param.{Param}
use Rattle.slice_ast.specs.declared.tree.Arg.{Arg}
use Rattle.slice_ast.specs.declared.tree.Arg.TheVariants as arg
use Rattle.slice_parse.specs.declared.lexeme.Fixed.TheVariants as fixed
use Rattle.slice_parse.specs.declared.lexeme.What.{What}
use Rattle.slice_parse.specs.declared.lexeme.What.TheVariants as what
use Rattle.slice_parse.specs.Combinators.{Parser, Long, Tired, pure, when}
use Rattle.slice_parse.specs.Lexemes.{fixed_text, is, is_sign, is_sign_what, name as one_name}
use Rattle.slice_ast.specs.Spellable.{Each, EachOfSome, HasName, CanSpellDen, CanSpellFraction, CanSpellOperand, CanSpellTerm, CanSpellSum, CanSpellArg, CanSpellParam}
use Rattle.slice_parse.proofs.FromSteps.{From, Onward, from_bind, from_when, from_pure, from_many, from_under}
use Rattle.slice_parse.proofs.FromLeaves.{by, word_marks, from_expect, name0, name0_ok, num0, num0_ok, ref0, from_name, from_number, from_ref, sign_marks, from_sign, from_kind}
use Rattle.slice_parse.specs.Rules.{after_comma, listed, in_parens, denominator, fraction, value_operand, named_operand, plain_operand, fraction_operand, operand_rule, term_of, after_fraction, fraction_term, plain_term, term, signed_term, more_terms, sum, names, as_names, param, params, agent_arg, piece_arg, number_arg, argument, args}

pub from_denominator : From den_marks CanSpellDen [] denominator
unfolding denominator
from_denominator =
    from_when _ _ _
    (from_bind [] _ _ (from_expect fixed.Slash) (λ u0 w_u0.
    (from_bind _ _ _ from_number (λ d w_d.
    (from_pure (Some d) refl (w_d)))
    (λ d w_d. by (Some d) ([]) refl (w_d))))
    (λ u0 w_u0. by (Some num0) (Digits num0 ∷ []) refl (num0_ok)))
    (from_pure None refl tt)

pub from_fraction : From fraction_marks CanSpellFraction [] fraction
unfolding fraction
from_fraction =
    (from_bind [] _ _ from_number (λ n w_n.
    (from_bind _ _ _ from_denominator (λ d w_d.
    (from_pure (record { num = n; den = d }) refl (w_n, w_d)))
    (λ d w_d. by (record { num = n; den = d }) ([]) (simp append-nil) (w_n, w_d))))
    (λ n w_n. by (record { num = n; den = None }) ((den_marks None ++ [])) refl (w_n, tt)))

abbrev pub frac0 : Fraction
frac0 = record { num = num0; den = None }

pub from_value : From operand_marks CanSpellOperand [] value_operand
unfolding value_operand
from_value =
    (from_bind [] _ _ (from_expect fixed.Value) (λ u0 w_u0.
    (from_bind _ _ _ (from_expect fixed.OpenParen) (λ u1 w_u1.
    (from_bind _ _ _ from_ref (λ a w_a.
    (from_bind _ _ _ (from_expect fixed.Comma) (λ u3 w_u3.
    (from_bind _ _ _ from_name (λ p w_p.
    (from_bind _ _ _ (from_expect fixed.CloseParen) (λ u5 w_u5.
    (from_pure (operand.Value a p) (simp append_assoc) (w_a, w_p)))
    (λ u5 w_u5. by (operand.Value a p) ([]) (simp append_assoc) (w_a, w_p))))
    (λ p w_p. by (operand.Value a p) (Plain (fixed_text fixed.CloseParen) ∷ []) (simp append_assoc) (w_a, w_p))))
    (λ u3 w_u3. by (operand.Value a name0) (Spelled name0 ∷ Plain (fixed_text fixed.CloseParen) ∷ []) (simp append_assoc) (w_a, name0_ok))))
    (λ a w_a. by (operand.Value a name0) (Plain (fixed_text fixed.Comma) ∷ Spelled name0 ∷ Plain (fixed_text fixed.CloseParen) ∷ []) refl (w_a, name0_ok))))
    (λ u1 w_u1. by (operand.Value ref0 name0) ((ref_marks ref0 ++ Plain (fixed_text fixed.Comma) ∷ Spelled name0 ∷ Plain (fixed_text fixed.CloseParen) ∷ [])) refl (name0_ok, name0_ok))))
    (λ u0 w_u0. by (operand.Value ref0 name0) (Plain (fixed_text fixed.OpenParen) ∷ (ref_marks ref0 ++ Plain (fixed_text fixed.Comma) ∷ Spelled name0 ∷ Plain (fixed_text fixed.CloseParen) ∷ [])) refl (name0_ok, name0_ok)))

from_named : From operand_marks CanSpellOperand [] named_operand
unfolding named_operand
from_named =
    (from_bind [] _ _ from_name (λ x w_x.
    (from_pure (operand.Named x) refl (w_x)))
    (λ x w_x. by (operand.Named x) ([]) refl (w_x)))

pub from_plain_operand : From operand_marks CanSpellOperand [] plain_operand
unfolding plain_operand
from_plain_operand = from_when _ _ _ from_value from_named

from_fraction_operand : From operand_marks CanSpellOperand [] fraction_operand
unfolding fraction_operand
from_fraction_operand =
    (from_bind [] _ _ from_fraction (λ f w_f.
    (from_pure (operand.Fraction f) refl (w_f)))
    (λ f w_f. by (operand.Fraction f) ([]) (simp append-nil) (w_f)))

pub from_operand : From operand_marks CanSpellOperand [] operand_rule
unfolding operand_rule
from_operand = from_when _ _ _ from_fraction_operand from_plain_operand

-- a term with this sign
abbrev pub Signed : Bool → Term → Type 0
Signed minus t = (t.minus ≡ minus) × CanSpellTerm t

abbrev op0 : Operand
op0 = operand.Named name0

abbrev term0 : Bool → Term
term0 minus = term_of minus None op0

from_after_fraction : (minus : Bool) (f : Fraction) → CanSpellFraction f → From term_marks (Signed minus) (fraction_marks f) (after_fraction minus f)
unfolding after_fraction
from_after_fraction minus f w =
    from_when _ _ _
    (from_bind (fraction_marks f) _ _ (from_expect fixed.Star) (λ u w_u.
    (from_bind _ _ _ from_operand (λ o w_o. from_pure (term_of minus (Some f) o) refl (refl, (w, w_o)))
    (λ o w_o. by (term_of minus (Some f) o) [] (sym (append-nil _)) (refl, (w, w_o)))))
    (λ u w_u. by (term_of minus (Some f) op0) (operand_marks op0) refl (refl, (w, name0_ok))))
    (from_pure (term_of minus None (operand.Fraction f)) refl (refl, (tt, w)))

from_fraction_term : (minus : Bool) → From term_marks (Signed minus) [] (fraction_term minus)
unfolding fraction_term
from_fraction_term minus = from_bind [] _ _ from_fraction (λ f w. from_after_fraction minus f w) (λ f w. by (term_of minus None (operand.Fraction f)) [] (sym (append-nil _)) (refl, (tt, w)))

from_plain_term : (minus : Bool) → From term_marks (Signed minus) [] (plain_term minus)
unfolding plain_term
from_plain_term minus = from_bind [] _ _ from_plain_operand (λ o w. from_pure (term_of minus None o) refl (refl, (tt, w))) (λ o w. by (term_of minus None o) [] (sym (append-nil _)) (refl, (tt, w)))

pub from_term : (minus : Bool) → From term_marks (Signed minus) [] (term minus)
unfolding term
from_term minus = from_when _ _ _ (from_fraction_term minus) (from_plain_term minus)

-- a term after its sign
abbrev pub signed_marks : Term → List Mark
signed_marks t = Plain (sign_text t.minus) ∷ term_marks t

from_signed : From signed_marks CanSpellTerm [] signed_term
unfolding signed_term
from_signed =
    from_bind [] _ _ from_sign (λ minus u. from_under (sign_marks minus) _ (from_term minus) (λ t w. (ap (λ m. Plain (sign_text m) ∷ term_marks t) w.0, w.1)))
    (λ minus u. by (term0 minus) (operand_marks op0) refl (tt, name0_ok))

sign_onward : (w : What) (at : ℕ) → is_sign_what w ≡ true → Onward more_marks (Each CanSpellTerm) [] (record { what = w; at = at })
sign_onward (what.Fixed fixed.Plus) at h = record { mark = Plain (codes "+"); is = record { kind = refl; place = tt }; finish = by (term0 false ∷ []) _ refl ((tt, name0_ok), tt) }
sign_onward (what.Fixed fixed.Minus) at h = record { mark = Plain (codes "-"); is = record { kind = refl; place = tt }; finish = by (term0 true ∷ []) _ refl ((tt, name0_ok), tt) }
sign_onward (what.Fixed c) at h = cc
sign_onward (what.Name w) at h = cc
sign_onward (what.Number n) at h = cc

pub from_more : (terms : ℕ) → From more_marks (Each CanSpellTerm) [] (more_terms terms)
unfolding more_terms
from_more terms = from_many signed_marks CanSpellTerm more_marks refl (λ t ts. refl) Long is_sign signed_term from_signed (λ l t h. sign_onward t.what t.at h) terms

pub from_sum : (terms : ℕ) → From sum_marks CanSpellSum [] (sum terms)
unfolding sum
from_sum terms =
    from_bind [] _ _ (from_term false) (λ t w.
    (from_bind _ _ _ (from_more terms) (λ ts ws. from_pure (record { terms = t ∷ ts }) refl (w.0, w.1, ws))
    (λ ts ws. by (record { terms = t ∷ ts }) [] (sym (append-nil _)) (w.0, w.1, ws))))
    (λ t w. by (record { terms = t ∷ [] }) [] refl (w.0, w.1, tt))

pub sum0 : Sum
sum0 = record { terms = term0 false ∷ [] }

pub sum0_ok : CanSpellSum sum0
unfolding sum0
sum0_ok = (refl, (tt, name0_ok), tt)

pub sum0_marks : sum_marks sum0 ≡ Spelled name0 ∷ []
unfolding sum0
sum0_marks = refl

-- lists with commas between, of items with these marks
module _ {A : Type 0} (marks : A → List Mark) (W : A → Type 0) (item : Parser A) (f : From marks W [] item) (x0 : A) (w0 : W x0) where
  from_after_comma : From (λ x. Plain (codes ",") ∷ marks x) W [] (after_comma item)
  unfolding after_comma
  from_after_comma =
      from_bind [] _ _ (from_expect fixed.Comma) (λ u w. from_under (word_marks fixed.Comma 0) _ f (λ x v. (refl, v)))
      (λ u w. by x0 (marks x0) refl w0)

  pub from_listed : (turns : ℕ) → From (tok.listed marks) (EachOfSome W) [] (listed item turns)
  unfolding listed
  from_listed turns =
      from_bind [] _ _ f (λ x w.
      from_bind _ _ _ (from_many (λ y. Plain (codes ",") ∷ marks y) W (more_listed marks) refl (λ y ys. refl) Tired (is fixed.Comma) (after_comma item) from_after_comma (λ l t h. absurd l) turns)
      (λ xs ws. from_pure (x ∷ xs) refl (w, ws))
      (λ xs ws. by (x ∷ xs) [] (sym (append-nil _)) (w, ws)))
      (λ x w. by (x ∷ []) [] refl (w, tt))

  some_each : (xs : List A) → EachOfSome W xs → Each W xs
  some_each [] h = absurd h
  some_each (x ∷ xs) h = h

  abbrev pub paren_marks : List A → List Mark
  paren_marks xs = Plain (codes "(") ∷ (tok.listed marks xs ++ Plain (codes ")") ∷ [])

  from_inside : (turns : ℕ) → From (tok.listed marks) (Each W) [] (when (is fixed.CloseParen) (pure []) (listed item turns))
  from_inside turns = from_when _ _ _ (from_pure [] refl tt) (from_under [] _ (from_listed turns) (λ xs w. (refl, some_each xs w)))

  pub from_parens : (turns : ℕ) → From paren_marks (Each W) [] (in_parens item turns)
  unfolding in_parens
  from_parens turns =
      (from_bind [] _ _ (from_expect fixed.OpenParen) (λ u0 w_u0.
      (from_bind _ _ _ (from_inside turns) (λ xs w_xs.
      (from_bind _ _ _ (from_expect fixed.CloseParen) (λ u2 w_u2.
      (from_pure (xs) (simp append_assoc) (w_xs)))
      (λ u2 w_u2. by (xs) ([]) (simp append_assoc) (w_xs))))
      (λ xs w_xs. by (xs) (Plain (fixed_text fixed.CloseParen) ∷ []) refl (w_xs))))
      (λ u0 w_u0. by ([]) ((tok.listed marks [] ++ Plain (fixed_text fixed.CloseParen) ∷ [])) refl (tt)))

pub from_names : (turns : ℕ) → From (tok.listed name_marks) (EachOfSome HasName) [] (names turns)
unfolding names
from_names turns = from_listed name_marks HasName one_name from_name name0 name0_ok turns

abbrev pub names0 : List Name
names0 = name0 ∷ []

pub names0_ok : EachOfSome HasName names0
names0_ok = (name0_ok, tt)

pub some_names : (xs : List Name) → EachOfSome HasName xs → Each HasName xs
some_names [] w = absurd w
some_names (x ∷ xs) w = w

pub after_some : (word : List ℕ) (xs : List Name) → EachOfSome HasName xs → names_after word xs ≡ Plain word ∷ tok.listed name_marks xs
after_some word [] w = absurd w
after_some word (x ∷ xs) w = refl

pub from_as_names : (turns : ℕ) → From (names_after (codes "as")) (Each HasName) [] (as_names turns)
unfolding as_names
from_as_names turns =
    from_when _ _ _
    (from_bind [] _ _ (from_expect fixed.As) (λ u w. from_under (word_marks fixed.As 0) _ (from_names turns) (λ xs v. (after_some (codes "as") xs v, some_names xs v)))
    (λ u w. by names0 (Spelled name0 ∷ []) refl names0_ok))
    (from_pure [] refl tt)

abbrev pub param0 : Param
param0 = record { kind = kind.Agent; name = name0 }

from_param : From param_marks CanSpellParam [] param
unfolding param
from_param =
    (from_bind [] _ _ from_kind (λ k w_k.
    (from_bind _ _ _ from_name (λ x w_x.
    (from_pure (record { kind = k; name = x }) refl (w_x)))
    (λ x w_x. by (record { kind = k; name = x }) ([]) refl (w_x))))
    (λ k w_k. by (record { kind = k; name = name0 }) (Spelled name0 ∷ []) refl (name0_ok)))

abbrev pub params_marks : List Param → List Mark
params_marks xs = Plain (codes "(") ∷ (tok.listed param_marks xs ++ Plain (codes ")") ∷ [])

pub from_params : (turns : ℕ) → From params_marks (Each CanSpellParam) [] (params turns)
unfolding params
from_params turns = from_parens param_marks CanSpellParam param from_param param0 name0_ok turns

from_agent_arg : From arg_marks CanSpellArg [] agent_arg
unfolding agent_arg
from_agent_arg =
    (from_bind [] _ _ (from_expect fixed.Agent) (λ u0 w_u0.
    (from_bind _ _ _ from_ref (λ a w_a.
    (from_pure (arg.Agent a) refl (w_a)))
    (λ a w_a. by (arg.Agent a) ([]) (simp append-nil) (w_a))))
    (λ u0 w_u0. by (arg.Agent ref0) ((ref_marks ref0 ++ [])) refl (name0_ok)))

from_piece_arg : From arg_marks CanSpellArg [] piece_arg
unfolding piece_arg
from_piece_arg =
    (from_bind [] _ _ (from_expect fixed.Piece) (λ u0 w_u0.
    (from_bind _ _ _ from_name (λ p w_p.
    (from_pure (arg.Piece p) refl (w_p)))
    (λ p w_p. by (arg.Piece p) ([]) refl (w_p))))
    (λ u0 w_u0. by (arg.Piece name0) (Spelled name0 ∷ []) refl (name0_ok)))

from_number_arg : (terms : ℕ) → From arg_marks CanSpellArg [] (number_arg terms)
unfolding number_arg sum0
from_number_arg terms =
    (from_bind [] _ _ (from_expect fixed.Number) (λ u0 w_u0.
    (from_bind _ _ _ (from_sum terms) (λ s w_s.
    (from_pure (arg.Number s) refl (w_s)))
    (λ s w_s. by (arg.Number s) ([]) (simp append-nil) (w_s))))
    (λ u0 w_u0. by (arg.Number sum0) ((sum_marks sum0 ++ [])) refl (sum0_ok)))

pub from_argument : (terms : ℕ) → From arg_marks CanSpellArg [] (argument terms)
unfolding argument
from_argument terms = from_when _ _ _ from_agent_arg (from_when _ _ _ from_piece_arg (from_number_arg terms))

abbrev pub args_marks : List Arg → List Mark
args_marks xs = Plain (codes "(") ∷ (tok.listed arg_marks xs ++ Plain (codes ")") ∷ [])

pub from_args : (terms turns : ℕ) → From args_marks (Each CanSpellArg) [] (args terms turns)
unfolding args
from_args terms turns = from_parens arg_marks CanSpellArg (argument terms) (from_argument terms) (arg.Piece name0) name0_ok turns
