-- What terms over atom numbers stand for.
use Rattle.std.proofs.Common.{◌≡◌, ◌∙◌, ℕ, zero, suc, refl, sym, ap, subst, Bool, true, false, List, [], ◌∷◌, ◌++◌, pos}
use Rattle.std.specs.Prelude.{⊤, map, if◌then◌else◌}
use Rattle.std.proofs.lemmas.List.{map-append}
use Rattle.slice_num.specs.Rational.{Rational, plus, times, minus, whole}
use Rattle.slice_num.proofs.FieldLaws.{plus_zero_right, times_zero, minus_same}
use Rattle.slice_linear.specs.declared.forms.Term.{Term}
use Rattle.slice_num.specs.declared.key.Key.{Key}
use Rattle.slice_linear.specs.Terms.{coef_of, coefs_of, whole_key, IsFormSum, IsFormDifference, IsFormMultiple}
use Rattle.slice_atoms.specs.Addresses.{Letter, L, R, Address, Cake, Atom, Halves, atoms, begins}
use Rattle.slice_atoms.specs.Forms.{add_form, sub_form, scale_form, all_coefs, agent_coefs}
use Rattle.slice_atoms.specs.Numbers.{Numbering, IsNumbering, name_of, cake_of, unknowns, agent_keys, all_keys}
use Rattle.slice_paths.specs.Spots.{coef_in, form_of}

-- ---- atoms are apart: none lies in another
abbrev pub ApartFrom : Address → List Address → Type 0
ApartFrom A [] = ⊤
ApartFrom A (B ∷ Bs) = (begins A B ≡ false) × ((begins B A ≡ false) × ApartFrom A Bs)

abbrev pub Apart : List Address → Type 0
Apart [] = ⊤
Apart (A ∷ As) = ApartFrom A As × Apart As

from_letter : (d : Letter) (A : Address) (Bs : List Address) → ApartFrom A Bs → ApartFrom (d ∷ A) (map (λ B. d ∷ B) Bs)
from_letter d A [] h = tt
from_letter L A (B ∷ Bs) h = (h.0, (h.1.0, from_letter L A Bs h.1.1))
from_letter R A (B ∷ Bs) h = (h.0, (h.1.0, from_letter R A Bs h.1.1))

apart_letter : (d : Letter) (As : List Address) → Apart As → Apart (map (λ B. d ∷ B) As)
apart_letter d [] h = tt
apart_letter d (A ∷ As) h = (from_letter d A As h.0, apart_letter d As h.1)

from_other : (A : Address) (Bs : List Address) → ApartFrom (L ∷ A) (map (λ B. R ∷ B) Bs)
from_other A [] = tt
from_other A (B ∷ Bs) = (refl, (refl, from_other A Bs))

from_both : (A : Address) (Bs Cs : List Address) → ApartFrom A Bs → ApartFrom A Cs → ApartFrom A (Bs ++ Cs)
from_both A [] Cs h k = k
from_both A (B ∷ Bs) Cs h k = (h.0, (h.1.0, from_both A Bs Cs h.1.1 k))

apart_both : (As Bs : List Address) → Apart (map (λ B. L ∷ B) As) → Apart (map (λ B. R ∷ B) Bs) → Apart (map (λ B. L ∷ B) As ++ map (λ B. R ∷ B) Bs)
apart_both [] Bs h k = k
apart_both (A ∷ As) Bs h k = (from_both (L ∷ A) (map (λ B. L ∷ B) As) (map (λ B. R ∷ B) Bs) h.0 (from_other A Bs), apart_both As Bs h.1 k)

pub atoms_apart : (k : Cake) → Apart (atoms k)
atoms_apart Atom = (tt, tt)
atoms_apart (Halves l r) = apart_both (atoms l) (atoms r) (apart_letter L (atoms l) (atoms_apart l)) (apart_letter R (atoms r) (atoms_apart r))

pub begins_self : (A : Address) → begins A A ≡ true
begins_self [] = refl
begins_self (L ∷ A) = begins_self A
begins_self (R ∷ A) = begins_self A

-- ---- coefficients in the atoms' order
skip : (name : ℕ → Address) (m : ℕ) (ms : List ℕ) (ts : List Term) (a : ℕ) (As : List Address) → ApartFrom (name m) As
    → map (coef_in name (m ∷ ms) ts a) As ≡ map (coef_in name ms ts a) As
skip name m ms ts a [] h = refl
skip name m ms ts a (A ∷ As) h =
    λ i. (if h.1.0 i then coef_of ts (record { agent = a; atom = m }) else coef_in name ms ts a A) ∷ skip name m ms ts a As h.1.1 i

hits : (name : ℕ → Address) (ms : List ℕ) (ts : List Term) (a : ℕ) → Apart (map name ms) → map (coef_in name ms ts a) (map name ms) ≡ coefs_of ts (unknowns a ms)
hits name [] ts a h = refl
hits name (m ∷ ms) ts a h =
    λ i. (if begins_self (name m) i then coef_of ts (record { agent = a; atom = m }) else coef_in name ms ts a (name m)) ∷ (skip name m ms ts a (map name ms) h.0 ∙ hits name ms ts a h.1) i

agents_hit : (v : Numbering) (n : ℕ) (ts : List Term) → IsNumbering v → agent_coefs n (cake_of v.olds) (form_of v ts).at ≡ coefs_of ts (agent_keys n v.order)
agents_hit v zero ts h = refl
agents_hit v (suc n) ts h =
    let name = name_of v.olds in
    let order : map (coef_in name v.order ts (suc n)) (atoms (cake_of v.olds)) ≡ coefs_of ts (unknowns (suc n) v.order) =
    sym (ap (map (coef_in name v.order ts (suc n))) h.named) ∙ hits name v.order ts (suc n) (subst Apart (sym h.named) (atoms_apart (cake_of v.olds))) in
    (λ i. agents_hit v n ts h i ++ order i) ∙ sym (map-append (coef_of ts) (agent_keys n v.order) (unknowns (suc n) v.order))

-- the code's coefficients are those of the form that it stands for
pub terms_mean_forms : (v : Numbering) (n : ℕ) (ts : List Term) → IsNumbering v → all_coefs n (cake_of v.olds) (form_of v ts) ≡ coefs_of ts (all_keys n v.order)
terms_mean_forms v n ts h = ap (λ (qs : List Rational). coef_of ts whole_key ∷ qs) (agents_hit v n ts h)

-- ---- sums
sum_in_atoms : (name : ℕ → Address) (ms : List ℕ) (xs ys zs : List Term) → IsFormSum xs ys zs → (a : ℕ) (B : Address) → coef_in name ms zs a B ≡ plus (coef_in name ms xs a B) (coef_in name ms ys a B)
sum_in_atoms name [] xs ys zs h a B = sym (plus_zero_right (whole (pos 0)))
sum_in_atoms name (m ∷ ms) xs ys zs h a B = by (begins B (name m)) (sum_in_atoms name ms xs ys zs h a B)
  where
    k : Key
    k = record { agent = a; atom = m }

    by : (b : Bool) → coef_in name ms zs a B ≡ plus (coef_in name ms xs a B) (coef_in name ms ys a B)
        → (if b then coef_of zs k else coef_in name ms zs a B) ≡ plus (if b then coef_of xs k else coef_in name ms xs a B) (if b then coef_of ys k else coef_in name ms ys a B)
    by true e = h k
    by false e = e

pub sums_mean_sums : (v : Numbering) (xs ys zs : List Term) → IsFormSum xs ys zs → form_of v zs ≡ add_form (form_of v xs) (form_of v ys)
sums_mean_sums v xs ys zs h = λ i. record { whole_of = h whole_key i; at = λ a B. sum_in_atoms (name_of v.olds) v.order xs ys zs h a B i }

difference_in_atoms : (name : ℕ → Address) (ms : List ℕ) (xs ys zs : List Term) → IsFormDifference xs ys zs → (a : ℕ) (B : Address) → coef_in name ms zs a B ≡ minus (coef_in name ms xs a B) (coef_in name ms ys a B)
difference_in_atoms name [] xs ys zs h a B = sym (minus_same (whole (pos 0)) (whole (pos 0)) refl)
difference_in_atoms name (m ∷ ms) xs ys zs h a B = by (begins B (name m)) (difference_in_atoms name ms xs ys zs h a B)
  where
    k : Key
    k = record { agent = a; atom = m }

    by : (b : Bool) → coef_in name ms zs a B ≡ minus (coef_in name ms xs a B) (coef_in name ms ys a B)
        → (if b then coef_of zs k else coef_in name ms zs a B) ≡ minus (if b then coef_of xs k else coef_in name ms xs a B) (if b then coef_of ys k else coef_in name ms ys a B)
    by true e = h k
    by false e = e

pub differences_mean_differences : (v : Numbering) (xs ys zs : List Term) → IsFormDifference xs ys zs → form_of v zs ≡ sub_form (form_of v xs) (form_of v ys)
differences_mean_differences v xs ys zs h = λ i. record { whole_of = h whole_key i; at = λ a B. difference_in_atoms (name_of v.olds) v.order xs ys zs h a B i }

multiple_in_atoms : (name : ℕ → Address) (ms : List ℕ) (c : Rational) (xs zs : List Term) → IsFormMultiple c xs zs → (a : ℕ) (B : Address) → coef_in name ms zs a B ≡ times c (coef_in name ms xs a B)
multiple_in_atoms name [] c xs zs h a B = sym (times_zero c)
multiple_in_atoms name (m ∷ ms) c xs zs h a B = by (begins B (name m)) (multiple_in_atoms name ms c xs zs h a B)
  where
    k : Key
    k = record { agent = a; atom = m }

    by : (b : Bool) → coef_in name ms zs a B ≡ times c (coef_in name ms xs a B) → (if b then coef_of zs k else coef_in name ms zs a B) ≡ times c (if b then coef_of xs k else coef_in name ms xs a B)
    by true e = h k
    by false e = e

pub multiples_mean_multiples : (v : Numbering) (c : Rational) (xs zs : List Term) → IsFormMultiple c xs zs → form_of v zs ≡ scale_form c (form_of v xs)
multiples_mean_multiples v c xs zs h = λ i. record { whole_of = h whole_key i; at = λ a B. multiple_in_atoms (name_of v.olds) v.order c xs zs h a B i }
