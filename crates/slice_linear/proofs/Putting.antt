-- Keys put one after another, and two in the place of one.
use Rattle.std.proofs.Common.{◌≡◌, ◌∙◌, ◌||◌, arith, refl, sym, ap, Bool, true, false, List, [], ◌∷◌, pos}
use Rattle.std.specs.Prelude.{if◌then◌else◌}
use Rattle.std.proofs.lemmas.Bool.Decides.{nat_tests}
use Rattle.slice_num.specs.Rational.{Rational, whole}
use Rattle.slice_num.specs.declared.key.Key.{Key}
use Rattle.slice_linear.specs.declared.forms.Term.{Term}
use Rattle.slice_linear.specs.Terms.{is_same, coef_of, is_among, AreDifferent, IsReplaced}
use Rattle.slice_linear.specs.TermOrder.{AreTerms}
use Rattle.slice_linear.proofs.Coefs.{same_self}

abbrev one : Rational
one = whole (pos 1)

abbrev none : Rational
none = whole (pos 0)

pub same_as : (a b : Key) → is_same a b ≡ true → a ≡ b
same_as a b e =
    let p : a.agent ≡ b.agent = grind (arith, nat_tests) in
    let q : a.atom ≡ b.atom = grind (arith, nat_tests) in
    λ i. record { agent = p i; atom = q i }

-- these keys are still to be put
pub record Putting (keys rest : List Key) (ts : List Term) : Type 0 where
  pub terms : AreTerms ts
  pub different : AreDifferent rest
  pub absent : (k : Key) → is_among rest k ≡ true → coef_of ts k ≡ whole (pos 0)
  pub so_far : (k : Key) → (if is_among rest k then whole (pos 1) else coef_of ts k) ≡ (if is_among keys k then whole (pos 1) else whole (pos 0))

pub putting_first : (keys : List Key) → AreDifferent keys → Putting keys keys []
putting_first keys d = record { terms = tt; different = d; absent = λ k e. refl; so_far = λ k. refl }

pub putting_here : (keys : List Key) (key : Key) (rest : List Key) (ts : List Term) → Putting keys (key ∷ rest) ts → coef_of ts key ≡ whole (pos 0)
putting_here keys key rest ts p = p.absent key (ap (λ (b : Bool). b || is_among rest key) (same_self key))

pub putting_next :
    (keys : List Key) (key : Key) (rest : List Key) (ts us : List Term) → Putting keys (key ∷ rest) ts → AreTerms us
    → ((k : Key) → coef_of us k ≡ (if is_same key k then whole (pos 1) else coef_of ts k)) → Putting keys rest us
putting_next keys key rest ts us p t h = record {
  terms = t;
  different = p.different.1;
  absent = λ k e. h k ∙ absent k e (is_same key k) refl;
  so_far = λ k. ap (λ (c : Rational). if is_among rest k then one else c) (h k) ∙ join k (is_among rest k) (is_same key k) ∙ p.so_far k;
}
  where
    or_right : (a b : Bool) → b ≡ true → a || b ≡ true
    or_right a b e = grind arith

    absent : (k : Key) → is_among rest k ≡ true → (b : Bool) → is_same key k ≡ b → (if b then one else coef_of ts k) ≡ none
    absent k e true f = let g : is_among rest key ≡ true = ap (is_among rest) (same_as key k f) ∙ e in let n = p.different.0 in let w : ⊥ = cc in absurd w
    absent k e false f = p.absent k (or_right (is_same key k) (is_among rest k) e)

    join : (k : Key) (a b : Bool) → (if a then one else (if b then one else coef_of ts k)) ≡ (if b || a then one else coef_of ts k)
    join k true true = refl
    join k true false = refl
    join k false true = refl
    join k false false = refl

pub putting_last : (keys : List Key) (ts : List Term) → Putting keys [] ts → (k : Key) → coef_of ts k ≡ (if is_among keys k then whole (pos 1) else whole (pos 0))
putting_last keys ts p k = p.so_far k

-- two in the place of one
pub replaced :
    (old left right : Key) (xs rest one_in both_in : List Term) → is_same left right ≡ false
    → ((k : Key) → coef_of rest k ≡ (if is_same old k then none else coef_of xs k))
    → ((k : Key) → coef_of one_in k ≡ (if is_same left k then coef_of xs old else coef_of rest k))
    → ((k : Key) → coef_of both_in k ≡ (if is_same right k then coef_of xs old else coef_of one_in k))
    → IsReplaced old left right xs both_in
replaced old left right xs rest one_in both_in d h1 h2 h3 k = h3 k ∙ ap (λ (c : Rational). if is_same right k then coef_of xs old else c) (h2 k ∙ ap (λ (c : Rational). if is_same left k then coef_of xs old else c) (h1 k)) ∙ by (is_same right k) (is_same left k)
  where
    by : (b a : Bool) → (if b then coef_of xs old else (if a then coef_of xs old else (if is_same old k then none else coef_of xs k))) ≡ (if a || b then coef_of xs old else (if is_same old k then none else coef_of xs k))
    by true true = refl
    by true false = refl
    by false true = refl
    by false false = refl

pub unreplaced :
    (old left right : Key) (xs rest : List Term) → coef_of xs left ≡ none → coef_of xs right ≡ none → coef_of xs old ≡ none
    → ((k : Key) → coef_of rest k ≡ (if is_same old k then none else coef_of xs k))
    → IsReplaced old left right xs rest
unreplaced old left right xs rest hl hr ho h k = h k ∙ by (is_same left k) (is_same right k) (is_same old k) refl refl refl
  where
    at : (j : Key) → coef_of xs j ≡ none → is_same j k ≡ true → coef_of xs k ≡ none
    at j e f = ap (coef_of xs) (sym (same_as j k f)) ∙ e

    by : (a b c : Bool) → is_same left k ≡ a → is_same right k ≡ b → is_same old k ≡ c
        → (if c then none else coef_of xs k) ≡ (if a || b then coef_of xs old else (if c then none else coef_of xs k))
    by false false c p q r = refl
    by true b true p q r = sym ho
    by true b false p q r = at left hl p ∙ sym ho
    by false true true p q r = sym ho
    by false true false p q r = at right hr q ∙ sym ho
