-- The rules of one token: what they read, and what begins so.
use Rattle.std.proofs.Common.{◌≡◌, ℕ, Bool, true, false, cond, List, [], ◌∷◌, ◌++◌, refl, ap, sym, subst, ◌∙◌, Some, None, codes, arith}
use denote.Enum.Bare.{same_true}
use Rattle.slice_parse.specs.contracts.lexeme.Fixed.{the_type}
use Rattle.slice_ast.specs.Tokens.{Mark, Plain, Digits, Final, name_marks, ref_marks, cmp_text, kind_text, sign as sign_text}
use Rattle.slice_ast.specs.declared.tree.Name.{Name}
use Rattle.slice_ast.specs.declared.tree.Number.{Number}
use Rattle.slice_ast.specs.declared.tree.AgentRef.{AgentRef}
use Rattle.slice_ast.specs.declared.tree.AgentRef.TheVariants as ref
use Rattle.slice_ast.specs.declared.tree.Cmp.{Cmp}
use Rattle.slice_ast.specs.declared.tree.Cmp.TheVariants as cmp
use Rattle.slice_ast.specs.declared.tree.Kind.{Kind}
use Rattle.slice_ast.specs.declared.tree.Kind.TheVariants as kind
use Rattle.slice_parse.specs.declared.lexeme.Fixed.{Fixed}
use Rattle.slice_parse.specs.declared.lexeme.Fixed.TheVariants as fixed
use Rattle.slice_parse.specs.declared.lexeme.What.{What}
use Rattle.slice_parse.specs.declared.lexeme.What.TheVariants as what
use Rattle.slice_parse.specs.Lexemes.{fixed_text, is_same, place_if, name_in, number_in, ref_in, fixed_as, sign_of, cmp_of, kind_of, expect, name, number, agent_ref, sign, comparison, kind_word}
use Rattle.slice_ast.specs.Spellable.{HasName, HasDigits, CanSpellRef}
use Rattle.slice_parse.specs.Classes.{IsSoundWhat}
use Rattle.slice_parse.proofs.Matching.{none, also, plain_fixed}
use Rattle.slice_parse.proofs.FromSteps.{From, Finish, Single, from_one}

abbrev pub by : {B : Type 0} {marks : B → List Mark} {W : B → Type 0} {before : List Mark} (value : B) (more : List Mark) → marks value ≡ before ++ more → W value → Finish marks W before
by value more whole w = record { value = value; more = more; whole = whole; spelled = w }

abbrev pub Any : {A : Type 0} → A → Type 0
Any a = Unit {0}

abbrev pub word_marks : Fixed → ℕ → List Mark
word_marks f at = Plain (fixed_text f) ∷ []

abbrev pub end_marks : Fixed → ℕ → List Mark
end_marks f at = Final (fixed_text f) at ∷ []

cond_some : (b : Bool) (at a : ℕ) → cond b (Some at) None ≡ Some a → (b ≡ true) × (at ≡ a)
cond_some true at a h = (refl, cc)
cond_some false at a h = cc

pub place_is : (word : Fixed) (w : What) (at a : ℕ) → place_if word w at ≡ Some a → (w ≡ what.Fixed word) × (at ≡ a)
place_is word (what.Fixed c) at a h = let x = cond_some (is_same c word) at a h in (ap (λ f. what.Fixed f) (same_true the_type tt c word x.0), x.1)
place_is word (what.Name w) at a h = cc
place_is word (what.Number n) at a h = cc

pub from_expect : (f : Fixed) → From (word_marks f) Any [] (expect f)
from_expect f = from_one _ (by 0 (word_marks f 0) refl tt) (λ t a h s. record { same = also (record { kind = (place_is f t.what t.at a h).0 ∙ sym (plain_fixed f); place = tt }) none; spelled = tt })

pub from_end : (f : Fixed) → From (end_marks f) Any [] (expect f)
from_end f = from_one _ (by 0 (end_marks f 0) refl tt) (λ t a h s. let x = place_is f t.what t.at a h in record { same = also (record { kind = x.0 ∙ sym (plain_fixed f); place = sym x.1 }) none; spelled = tt })

pub name0 : Name
name0 = record { word = codes "a"; at = 0 }

pub name0_ok : HasName name0
unfolding name0
name0_ok = refl

pub num0 : Number
num0 = record { value = 0; at = 0 }

pub num0_ok : HasDigits num0
unfolding num0
num0_ok = omega arith

abbrev pub ref0 : AgentRef
ref0 = ref.Named name0

single_name : (w : What) (at : ℕ) (n : Name) → name_in w at ≡ Some n → IsSoundWhat w → Single name_marks HasName n (record { what = w; at = at })
single_name (what.Fixed c) at n h s = cc
single_name (what.Number v) at n h s = cc
single_name (what.Name v) at n h s =
    let e : record { word = v; at = at } ≡ n = cc in
    subst (λ (x : Name). Single name_marks HasName x (record { what = what.Name v; at = at })) e (record { same = also (record { kind = refl; place = refl }) none; spelled = s })

pub from_name : From name_marks HasName [] name
from_name = from_one _ (by name0 (name_marks name0) refl name0_ok) (λ t n h s. single_name t.what t.at n h s)

abbrev pub number_marks : Number → List Mark
number_marks n = Digits n ∷ []

single_number : (w : What) (at : ℕ) (n : Number) → number_in w at ≡ Some n → IsSoundWhat w → Single number_marks HasDigits n (record { what = w; at = at })
single_number (what.Fixed c) at n h s = cc
single_number (what.Name v) at n h s = cc
single_number (what.Number v) at n h s =
    let e : record { value = v; at = at } ≡ n = cc in
    subst (λ (x : Number). Single number_marks HasDigits x (record { what = what.Number v; at = at })) e (record { same = also (record { kind = refl; place = refl }) none; spelled = s })

pub from_number : From number_marks HasDigits [] number
from_number = from_one _ (by num0 (number_marks num0) refl num0_ok) (λ t n h s. single_number t.what t.at n h s)

single_ref : (w : What) (at : ℕ) (a : AgentRef) → ref_in w at ≡ Some a → IsSoundWhat w → Single ref_marks CanSpellRef a (record { what = w; at = at })
single_ref (what.Fixed c) at a h s = cc
single_ref (what.Name v) at a h s =
    let e : ref.Named (record { word = v; at = at }) ≡ a = cc in
    subst (λ (x : AgentRef). Single ref_marks CanSpellRef x (record { what = what.Name v; at = at })) e (record { same = also (record { kind = refl; place = refl }) none; spelled = s })
single_ref (what.Number v) at a h s =
    let e : ref.Fixed (record { value = v; at = at }) ≡ a = cc in
    subst (λ (x : AgentRef). Single ref_marks CanSpellRef x (record { what = what.Number v; at = at })) e (record { same = also (record { kind = refl; place = refl }) none; spelled = s })

pub from_ref : From ref_marks CanSpellRef [] agent_ref
from_ref = from_one _ (by ref0 (ref_marks ref0) refl name0_ok) (λ t a h s. single_ref t.what t.at a h s)

abbrev pub sign_marks : Bool → List Mark
sign_marks minus = Plain (sign_text minus) ∷ []

single_sign : (w : What) (at : ℕ) (b : Bool) → fixed_as sign_of w ≡ Some b → Single sign_marks Any b (record { what = w; at = at })
single_sign (what.Fixed fixed.Plus) at b h =
    let e : false ≡ b = cc in subst (λ (x : Bool). Single sign_marks Any x (record { what = what.Fixed fixed.Plus; at = at })) e (record { same = also (record { kind = refl; place = tt }) none; spelled = tt })
single_sign (what.Fixed fixed.Minus) at b h =
    let e : true ≡ b = cc in subst (λ (x : Bool). Single sign_marks Any x (record { what = what.Fixed fixed.Minus; at = at })) e (record { same = also (record { kind = refl; place = tt }) none; spelled = tt })
single_sign (what.Fixed c) at b h = cc
single_sign (what.Name v) at b h = cc
single_sign (what.Number v) at b h = cc

pub from_sign : From sign_marks Any [] sign
from_sign = from_one _ (by false (sign_marks false) refl tt) (λ t b h s. single_sign t.what t.at b h)

abbrev pub cmp_marks : Cmp → List Mark
cmp_marks o = Plain (cmp_text o) ∷ []

abbrev CmpOf : Fixed → Cmp → Type 0
CmpOf f o = (at : ℕ) → Single cmp_marks Any o (record { what = what.Fixed f; at = at })

single_cmp : (w : What) (at : ℕ) (o : Cmp) → fixed_as cmp_of w ≡ Some o → Single cmp_marks Any o (record { what = w; at = at })
single_cmp (what.Fixed fixed.Less) at o h = let e : cmp.Less ≡ o = cc in subst (CmpOf fixed.Less) e (λ at. record { same = also (record { kind = refl; place = tt }) none; spelled = tt }) at
single_cmp (what.Fixed fixed.AtMost) at o h = let e : cmp.AtMost ≡ o = cc in subst (CmpOf fixed.AtMost) e (λ at. record { same = also (record { kind = refl; place = tt }) none; spelled = tt }) at
single_cmp (what.Fixed fixed.More) at o h = let e : cmp.More ≡ o = cc in subst (CmpOf fixed.More) e (λ at. record { same = also (record { kind = refl; place = tt }) none; spelled = tt }) at
single_cmp (what.Fixed fixed.AtLeast) at o h = let e : cmp.AtLeast ≡ o = cc in subst (CmpOf fixed.AtLeast) e (λ at. record { same = also (record { kind = refl; place = tt }) none; spelled = tt }) at
single_cmp (what.Fixed c) at o h = cc
single_cmp (what.Name v) at o h = cc
single_cmp (what.Number v) at o h = cc

pub from_cmp : From cmp_marks Any [] comparison
from_cmp = from_one _ (by cmp.Less (cmp_marks cmp.Less) refl tt) (λ t o h s. single_cmp t.what t.at o h)

abbrev pub kind_marks : Kind → List Mark
kind_marks k = Plain (kind_text k) ∷ []

abbrev KindOf : Fixed → Kind → Type 0
KindOf f k = (at : ℕ) → Single kind_marks Any k (record { what = what.Fixed f; at = at })

single_kind : (w : What) (at : ℕ) (k : Kind) → fixed_as kind_of w ≡ Some k → Single kind_marks Any k (record { what = w; at = at })
single_kind (what.Fixed fixed.Agent) at k h = let e : kind.Agent ≡ k = cc in subst (KindOf fixed.Agent) e (λ at. record { same = also (record { kind = refl; place = tt }) none; spelled = tt }) at
single_kind (what.Fixed fixed.Piece) at k h = let e : kind.Piece ≡ k = cc in subst (KindOf fixed.Piece) e (λ at. record { same = also (record { kind = refl; place = tt }) none; spelled = tt }) at
single_kind (what.Fixed fixed.Number) at k h = let e : kind.Number ≡ k = cc in subst (KindOf fixed.Number) e (λ at. record { same = also (record { kind = refl; place = tt }) none; spelled = tt }) at
single_kind (what.Fixed c) at k h = cc
single_kind (what.Name v) at k h = cc
single_kind (what.Number v) at k h = cc

pub from_kind : From kind_marks Any [] kind_word
from_kind = from_one _ (by kind.Agent (kind_marks kind.Agent) refl tt) (λ t k h s. single_kind t.what t.at k h)
