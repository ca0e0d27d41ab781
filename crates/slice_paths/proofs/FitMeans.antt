-- The numbers of forms fit where those of their terms fit, key by key.
use Rattle.std.proofs.Common.{◌≡◌, ◌∙◌, ℕ, refl, sym, ap, subst, arith, Bool, true, false, List, [], ◌∷◌, pos}
use Rattle.std.specs.Prelude.{map, ◌&&◌, ◌||◌}
use Rattle.slice_num.specs.Rational.{Rational, times, negated, whole}
use Rattle.slice_num.specs.Fitting.{rational_fits}
use Rattle.slice_num.proofs.FieldLaws.{times_zero}
use Rattle.slice_linear.specs.declared.forms.Term.{Term}
use Rattle.slice_num.specs.declared.key.Key.{Key}
use Rattle.slice_linear.specs.Terms.{coef_of, is_same, is_among, sum_fits, SumsFit, DifferencesFit, ProductsFit}
use Rattle.slice_linear.proofs.Coefs.{fits_left}
use Rattle.slice_linear.proofs.Lists.{zero_fits}
use Rattle.slice_linear.proofs.Putting.{same_as}
use Rattle.slice_atoms.specs.FormFits.{sums_fit, products_fit, add_fits, sub_fits, scale_fits}
use Rattle.slice_atoms.specs.Numbers.{Numbering, IsNumbering, cake_of, all_keys}
use Rattle.slice_paths.specs.Spots.{form_of, IsWithin}
use Rattle.slice_paths.proofs.Means.{terms_mean_forms}

and_left : (a b : Bool) → a && b ≡ true → a ≡ true
and_left a b e = grind arith

and_right : (a b : Bool) → a && b ≡ true → b ≡ true
and_right a b e = grind arith

and_both : (a b : Bool) → a ≡ true → b ≡ true → a && b ≡ true
and_both a b e f = grind arith

-- for any two functions of keys
sums_in : (F G : Key → Rational) (ks : List Key) → ((k : Key) → sum_fits (F k) (G k) ≡ true) → sums_fit (map F ks) (map G ks) ≡ true
sums_in F G [] h = refl
sums_in F G (k ∷ ks) h = and_both (sum_fits (F k) (G k)) (sums_fit (map F ks) (map G ks)) (h k) (sums_in F G ks h)

sums_out : (F G : Key → Rational) (ks : List Key) → sums_fit (map F ks) (map G ks) ≡ true → (k : Key) → is_among ks k ≡ true → sum_fits (F k) (G k) ≡ true
sums_out F G [] h k e = let w : ⊥ = cc in absurd w
sums_out F G (j ∷ js) h k e = by (is_same j k) refl (sums_out F G js (and_right (sum_fits (F j) (G j)) (sums_fit (map F js) (map G js)) h) k)
  where
    by : (b : Bool) → is_same j k ≡ b → (is_among js k ≡ true → sum_fits (F k) (G k) ≡ true) → sum_fits (F k) (G k) ≡ true
    by true f go = subst (λ (x : Key). sum_fits (F x) (G x) ≡ true) (same_as j k f) (and_left (sum_fits (F j) (G j)) (sums_fit (map F js) (map G js)) h)
    by false f go = go (sym (ap (λ (b : Bool). b || is_among js k) f) ∙ e)

all_sums : (F G : Key → Rational) (ks : List Key) → ((k : Key) → is_among ks k ≡ false → F k ≡ whole (pos 0)) → sums_fit (map F ks) (map G ks) ≡ true → (k : Key) → sum_fits (F k) (G k) ≡ true
all_sums F G ks none h k = by (is_among ks k) refl
  where
    by : (b : Bool) → is_among ks k ≡ b → sum_fits (F k) (G k) ≡ true
    by true e = sums_out F G ks h k e
    by false e = ap (λ (q : Rational). sum_fits q (G k)) (none k e) ∙ fits_left (G k)

products_in : (c : Rational) (F : Key → Rational) (ks : List Key) → ((k : Key) → rational_fits (times c (F k)) ≡ true) → products_fit c (map F ks) ≡ true
products_in c F [] h = refl
products_in c F (k ∷ ks) h = and_both (rational_fits (times c (F k))) (products_fit c (map F ks)) (h k) (products_in c F ks h)

products_out : (c : Rational) (F : Key → Rational) (ks : List Key) → products_fit c (map F ks) ≡ true → (k : Key) → is_among ks k ≡ true → rational_fits (times c (F k)) ≡ true
products_out c F [] h k e = let w : ⊥ = cc in absurd w
products_out c F (j ∷ js) h k e = by (is_same j k) refl (products_out c F js (and_right (rational_fits (times c (F j))) (products_fit c (map F js)) h) k)
  where
    by : (b : Bool) → is_same j k ≡ b → (is_among js k ≡ true → rational_fits (times c (F k)) ≡ true) → rational_fits (times c (F k)) ≡ true
    by true f go = subst (λ (x : Key). rational_fits (times c (F x)) ≡ true) (same_as j k f) (and_left (rational_fits (times c (F j))) (products_fit c (map F js)) h)
    by false f go = go (sym (ap (λ (b : Bool). b || is_among js k) f) ∙ e)

all_products : (c : Rational) (F : Key → Rational) (ks : List Key) → ((k : Key) → is_among ks k ≡ false → F k ≡ whole (pos 0)) → products_fit c (map F ks) ≡ true → (k : Key) → rational_fits (times c (F k)) ≡ true
all_products c F ks none h k = by (is_among ks k) refl
  where
    by : (b : Bool) → is_among ks k ≡ b → rational_fits (times c (F k)) ≡ true
    by true e = products_out c F ks h k e
    by false e = ap (λ (q : Rational). rational_fits (times c q)) (none k e) ∙ ap rational_fits (times_zero c) ∙ zero_fits

map_map : (F : Rational → Rational) (G : Key → Rational) (ks : List Key) → map F (map G ks) ≡ map (λ k. F (G k)) ks
map_map F G [] = refl
map_map F G (k ∷ ks) = ap (λ (qs : List Rational). F (G k) ∷ qs) (map_map F G ks)

-- the numbers of two forms' sum, their difference and the first's multiples fit where those of the terms do
pub record FitsAs (v : Numbering) (n : ℕ) (xs ys : List Term) : Type 0 where
  pub sums_in : SumsFit xs ys → add_fits n (cake_of v.olds) (form_of v xs) (form_of v ys) ≡ true
  pub sums_out : add_fits n (cake_of v.olds) (form_of v xs) (form_of v ys) ≡ true → SumsFit xs ys
  pub differences_in : DifferencesFit xs ys → sub_fits n (cake_of v.olds) (form_of v xs) (form_of v ys) ≡ true
  pub differences_out : sub_fits n (cake_of v.olds) (form_of v xs) (form_of v ys) ≡ true → DifferencesFit xs ys
  pub products_in : (c : Rational) → ProductsFit c xs → scale_fits n (cake_of v.olds) c (form_of v xs) ≡ true
  pub products_out : (c : Rational) → scale_fits n (cake_of v.olds) c (form_of v xs) ≡ true → ProductsFit c xs

pub forms_fit_as_terms : (v : Numbering) (n : ℕ) (xs ys : List Term) → IsNumbering v → IsWithin (all_keys n v.order) xs → FitsAs v n xs ys
forms_fit_as_terms v n xs ys h p =
    let ks = all_keys n v.order in
    let ex = terms_mean_forms v n xs h in
    let ey = terms_mean_forms v n ys h in
    let sums : add_fits n (cake_of v.olds) (form_of v xs) (form_of v ys) ≡ sums_fit (map (coef_of xs) ks) (map (coef_of ys) ks) = λ i. sums_fit (ex i) (ey i) in
    let differences : sub_fits n (cake_of v.olds) (form_of v xs) (form_of v ys) ≡ sums_fit (map (coef_of xs) ks) (map (λ k. negated (coef_of ys k)) ks) =
    (λ i. sums_fit (ex i) (map negated (ey i))) ∙ ap (sums_fit (map (coef_of xs) ks)) (map_map negated (coef_of ys) ks) in
    record {
      sums_in = λ f. sums ∙ sums_in (coef_of xs) (coef_of ys) ks f;
      sums_out = λ e. all_sums (coef_of xs) (coef_of ys) ks p (sym sums ∙ e);
      differences_in = λ f. differences ∙ sums_in (coef_of xs) (λ k. negated (coef_of ys k)) ks f;
      differences_out = λ e. all_sums (coef_of xs) (λ k. negated (coef_of ys k)) ks p (sym differences ∙ e);
      products_in = λ c f. ap (products_fit c) ex ∙ products_in c (coef_of xs) ks f;
      products_out = λ c e. all_products c (coef_of xs) ks p (sym (ap (products_fit c) ex) ∙ e);
    }
