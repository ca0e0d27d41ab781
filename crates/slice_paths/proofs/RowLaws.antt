-- The code's rows are those of the way.
use Rattle.std.proofs.Common.{◌≡◌, ◌∙◌, ℕ, suc, ◌≤◌, ◌==◌, arith, refl, sym, ap, subst, Bool, true, false, List, [], ◌∷◌, ◌++◌, append_assoc, pos}
use Rattle.std.specs.Prelude.{map, if◌then◌else◌, ◌&&◌, ◌||◌, nat_le}
use Rattle.std.proofs.lemmas.Bool.Decides.{nat_tests}
use Rattle.std.proofs.lemmas.List.{map-append}
use Rattle.slice_num.specs.Rational.{Rational, whole, plus, negated}
use Rattle.slice_num.proofs.FieldLaws.{plus_zero_right}
use Rattle.slice_linear.specs.declared.forms.FormFault.{FormFault}
use Rattle.slice_linear.specs.declared.forms.FormFault.TheVariants.{Overflow, Memory}
use Rattle.slice_linear.specs.declared.forms.Term.{Term}
use Rattle.slice_linear.specs.declared.row.RowKind.{RowKind}
use Rattle.slice_linear.specs.declared.row.RowKind.TheVariants.{Above}
use Rattle.slice_linear.specs.Rows.{LinearRow}
use Rattle.slice_linear.specs.LowestRow.{lowest, lowest_fits}
use Rattle.slice_linear.specs.Terms.{coef_of, coefs_of, whole_key, is_same, is_among, IsKeySum, IsWholeForm, IsFormDifference, DifferencesFit, AreDifferent, sum_fits, is_zero}
use Rattle.slice_atoms.specs.Addresses.{Address, Cake}
use Rattle.slice_atoms.specs.Forms.{Form, fixed_form, piece_form, sub_form, all_coefs}
use Rattle.slice_atoms.specs.Numbers.{Numbering, IsNumbering, name_of, cake_of, unknowns, all_keys, one_at, sum_over}
use Rattle.slice_atoms.proofs.Cuts.{unknowns_differ}
use Rattle.slice_paths.specs.Places.{Condition, whole_condition, first_conditions}
use Rattle.slice_paths.specs.Goals.{row_of}
use Rattle.slice_paths.specs.Events.{row_fits, rows_fit}
use Rattle.slice_paths.specs.Same.{SameAt}
use Rattle.slice_paths.specs.Spots.{form_of, condition_of}
use Rattle.slice_paths.specs.RowsMade.{row_at, row_fits_at, condition_row, condition_rows_fit}
use Rattle.slice_paths.specs.declared.spot.Condition as held
use Rattle.slice_paths.proofs.Means.{Apart, atoms_apart, terms_mean_forms, differences_mean_differences}
use Rattle.slice_paths.proofs.Pieces.{hit_of, SomeIn, lies_some}
use Rattle.slice_paths.proofs.Depends.{coefs_same, same_sub}
use Rattle.slice_paths.proofs.SumLaws.{whole_stands}
use Rattle.slice_paths.proofs.Among.{unknowns_among}

pub order_differs : (v : Numbering) (a : ℕ) → IsNumbering v → AreDifferent (unknowns a v.order)
order_differs v a h = unknowns_differ (record v { pieces = v.order ∷ [] }) a 0 (record { named = h.named; given = h.given; once = h.once; held = λ g. omega arith })

-- the sum of all atoms' unknowns stands for the whole cake
pub order_means : (v : Numbering) (a : ℕ) (zs : List Term) → IsNumbering v → 1 ≤ a → IsKeySum (unknowns a v.order) zs → SameAt (cake_of v.olds) (form_of v zs) (piece_form a ([] ∷ []))
order_means v a zs h one s = record {
  whole = s whole_key ∙ ap (λ (z : Bool). if z then whole (pos 1) else whole (pos 0)) (unknowns_among a v.order whole_key ∙ (let e : (a == 0) ≡ false = grind (arith, nat_tests) in ap (λ (z : Bool). z && nat_le 1 (sum_over (one_at 0) v.order)) e));
  parts = λ b B l.
      (let k = hit_of (name_of v.olds) v.order B (subst Apart (sym h.named) (atoms_apart (cake_of v.olds))) (subst (λ (As : List Address). SomeIn As B) (sym h.named) (lies_some (cake_of v.olds) B l)) in
      k.at zs b ∙ s (record { agent = b; atom = k.m }) ∙ ap (λ (z : Bool). if z then whole (pos 1) else whole (pos 0)) (unknowns_among a v.order (record { agent = b; atom = k.m })) ∙ by b k.m k.inside (b == a) refl);
}
  where
    by : (b m : ℕ) → 1 ≤ sum_over (one_at m) v.order → (z : Bool) → (b == a) ≡ z
        → (if (a == b) && nat_le 1 (sum_over (one_at m) v.order) then whole (pos 1) else whole (pos 0)) ≡ (if z then plus (whole (pos 1)) (whole (pos 0)) else whole (pos 0))
    by b m c true e =
        let t : (a == b) && nat_le 1 (sum_over (one_at m) v.order) ≡ true = grind (arith, nat_tests) in
        ap (λ (z : Bool). if z then whole (pos 1) else whole (pos 0)) t ∙ sym (plus_zero_right (whole (pos 1)))
    by b m c false e =
        let t : (a == b) && nat_le 1 (sum_over (one_at m) v.order) ≡ false = grind (arith, nat_tests) in
        ap (λ (z : Bool). if z then whole (pos 1) else whole (pos 0)) t

zero_zero : is_zero (whole (pos 0)) ≡ true
unfolding Rattle.slice_num.specs.Rational.ratio Rattle.slice_num.specs.Gcd.gcd_of Rattle.slice_num.specs.Gcd.gcd_steps
zero_zero = refl

less_zero : is_zero (negated (whole (pos 0))) ≡ true
unfolding Rattle.slice_num.specs.Rational.ratio Rattle.slice_num.specs.Gcd.gcd_of Rattle.slice_num.specs.Gcd.gcd_steps negated
less_zero = refl

-- the difference to the whole always fits
pub whole_fits : (v : Numbering) (a : ℕ) (c : Rational) (xs ys : List Term) → 1 ≤ a → IsKeySum (unknowns a v.order) xs → IsWholeForm c ys → DifferencesFit xs ys
whole_fits v a c xs ys one s w k = by (is_same whole_key k) refl
  where
    either : (x y : Rational) → is_zero x || is_zero y ≡ true → sum_fits x y ≡ true
    either x y e = grind arith

    by : (b : Bool) → is_same whole_key k ≡ b → sum_fits (coef_of xs k) (negated (coef_of ys k)) ≡ true
    by true e =
        let n : (a == k.agent) ≡ false = grind (arith, nat_tests) in
        let u : is_among (unknowns a v.order) k ≡ false = unknowns_among a v.order k ∙ ap (λ (z : Bool). z && nat_le 1 (sum_over (one_at k.atom) v.order)) n in
        let x : coef_of xs k ≡ whole (pos 0) = s k ∙ ap (λ (z : Bool). if z then whole (pos 1) else whole (pos 0)) u in
        let z : is_zero (coef_of xs k) ≡ true = ap is_zero x ∙ zero_zero in
        either (coef_of xs k) (negated (coef_of ys k)) (grind arith)
    by false e =
        let y : coef_of ys k ≡ whole (pos 0) = w k ∙ ap (λ (z : Bool). if z then c else whole (pos 0)) e in
        let z : is_zero (negated (coef_of ys k)) ≡ true = ap (λ (q : Rational). is_zero (negated q)) y ∙ less_zero in
        either (coef_of xs k) (negated (coef_of ys k)) (grind arith)

pub sum_means : (v : Numbering) (a : ℕ) (xs ys zs : List Term) → IsNumbering v → 1 ≤ a → IsKeySum (unknowns a v.order) xs → IsWholeForm (whole (pos 1)) ys → IsFormDifference xs ys zs
    → SameAt (cake_of v.olds) (form_of v zs) (whole_condition a).form
sum_means v a xs ys zs h one s w d =
    let f : form_of v ys ≡ fixed_form (whole (pos 1)) = (whole_stands v 0 (whole (pos 1)) ys h w).is in
    subst (λ (g : Form). SameAt (cake_of v.olds) g (whole_condition a).form) (sym (differences_mean_differences v xs ys zs d ∙ ap (sub_form (form_of v xs)) f))
    (same_sub (cake_of v.olds) (form_of v xs) (piece_form a ([] ∷ [])) (fixed_form (whole (pos 1))) (fixed_form (whole (pos 1))) (order_means v a xs h one s) (record { whole = refl; parts = λ b B l. refl }))

-- ---- rows
pub coefs_as : (v : Numbering) (n : ℕ) (ts : List Term) (f : Form) → IsNumbering v → SameAt (cake_of v.olds) (form_of v ts) f → coefs_of ts (all_keys n v.order) ≡ all_coefs n (cake_of v.olds) f
coefs_as v n ts f h s = sym (terms_mean_forms v n ts h) ∙ coefs_same n (cake_of v.olds) (form_of v ts) f s

pub row_as : (v : Numbering) (n : ℕ) (kind : RowKind) (ts : List Term) (f : Form) → IsNumbering v → SameAt (cake_of v.olds) (form_of v ts) f → row_at (all_keys n v.order) kind ts ≡ row_of n (cake_of v.olds) (record { kind = kind; form = f })
row_as v n kind ts f h s = λ i. record { kind = kind; coefs = lowest (coefs_as v n ts f h s i) }

pub fits_as : (v : Numbering) (n : ℕ) (ts : List Term) (f : Form) → IsNumbering v → SameAt (cake_of v.olds) (form_of v ts) f → row_fits_at (all_keys n v.order) ts ≡ lowest_fits (all_coefs n (cake_of v.olds) f)
fits_as v n ts f h s = ap lowest_fits (coefs_as v n ts f h s)

pub conditions_as : (v : Numbering) (n : ℕ) (cs : List held.Condition) → IsNumbering v → map (condition_row (all_keys n v.order)) cs ≡ map (row_of n (cake_of v.olds)) (map (condition_of v) cs)
conditions_as v n [] h = refl
conditions_as v n (c ∷ cs) h = λ i. record { kind = c.kind; coefs = lowest (sym (terms_mean_forms v n c.form h) i) } ∷ conditions_as v n cs h i

pub conditions_fit_as : (v : Numbering) (n : ℕ) (cs : List held.Condition) → IsNumbering v → condition_rows_fit (all_keys n v.order) cs ≡ rows_fit n (cake_of v.olds) (map (condition_of v) cs)
conditions_fit_as v n [] h = refl
conditions_fit_as v n (c ∷ cs) h = λ i. lowest_fits (sym (terms_mean_forms v n c.form h) i) && conditions_fit_as v n cs h i

pub fit_append : (n : ℕ) (k : Cake) (cs ds : List Condition) → rows_fit n k (cs ++ ds) ≡ rows_fit n k cs && rows_fit n k ds
fit_append n k [] ds = refl
fit_append n k (c ∷ cs) ds = let h = fit_append n k cs ds in grind arith

pub whole_means : (v : Numbering) (zs : List Term) → IsNumbering v → IsWholeForm (whole (pos 1)) zs → SameAt (cake_of v.olds) (form_of v zs) (fixed_form (whole (pos 1)))
whole_means v zs h w = subst (λ (g : Form). SameAt (cake_of v.olds) (form_of v zs) g) (whole_stands v 0 (whole (pos 1)) zs h w).is (record { whole = refl; parts = λ a B l. refl })

pub only : {a c : Bool} → a ≡ c → a && true ≡ c
only {a = a} {c = c} e = grind arith

-- rows that are put one after another
put_both : (old mid new ls ms : List LinearRow) → mid ≡ old ++ ls → new ≡ mid ++ ms → new ≡ old ++ (ls ++ ms)
put_both old mid new ls ms a b = b ∙ ap (λ (xs : List LinearRow). xs ++ ms) a ∙ append_assoc old ls ms

pub firsts_put : (v : Numbering) (n : ℕ) (old mid new : List LinearRow) → mid ≡ old ++ map (row_of v.agents (cake_of v.olds)) (first_conditions n)
    → new ≡ mid ++ row_of v.agents (cake_of v.olds) (whole_condition (suc n)) ∷ [] → new ≡ old ++ map (row_of v.agents (cake_of v.olds)) (first_conditions (suc n))
firsts_put v n old mid new a b =
    put_both old mid new (map (row_of v.agents (cake_of v.olds)) (first_conditions n)) (row_of v.agents (cake_of v.olds) (whole_condition (suc n)) ∷ []) a b
    ∙ ap (λ (xs : List LinearRow). old ++ xs) (sym (map-append (row_of v.agents (cake_of v.olds)) (first_conditions n) (whole_condition (suc n) ∷ [])))

pub firsts_fit : (v : Numbering) (n : ℕ) (b c d : Bool) → rows_fit v.agents (cake_of v.olds) (first_conditions n) ≡ b → row_fits v.agents (cake_of v.olds) (whole_condition (suc n)) ≡ c → b && c ≡ d
    → rows_fit v.agents (cake_of v.olds) (first_conditions (suc n)) ≡ d
firsts_fit v n b c d e f g = fit_append v.agents (cake_of v.olds) (first_conditions n) (whole_condition (suc n) ∷ []) ∙ (λ i. e i && only f i) ∙ g

pub firsts_break : (v : Numbering) (n : ℕ) → rows_fit v.agents (cake_of v.olds) (first_conditions n) ≡ false → rows_fit v.agents (cake_of v.olds) (first_conditions (suc n)) ≡ false
firsts_break v n e = firsts_fit v n false (row_fits v.agents (cake_of v.olds) (whole_condition (suc n))) false e refl refl

-- the rows of a spot, from those that are put one after another
pub rows_as :
    (v : Numbering) (cs : List held.Condition) (own : List Term) (firsts : List Condition) (first second third : List LinearRow) → IsNumbering v
    → first ≡ map (row_of v.agents (cake_of v.olds)) firsts → second ≡ first ++ map (condition_row (all_keys v.agents v.order)) cs
    → third ≡ second ++ row_at (all_keys v.agents v.order) Above own ∷ []
    → third ≡ map (row_of v.agents (cake_of v.olds)) ((firsts ++ map (condition_of v) cs) ++ record { kind = Above; form = form_of v own } ∷ [])
rows_as v cs own firsts first second third h a b c =
    let f = row_of v.agents (cake_of v.olds) in
    let e : row_at (all_keys v.agents v.order) Above own ≡ f (record { kind = Above; form = form_of v own }) = λ i. record { kind = Above; coefs = lowest (sym (terms_mean_forms v v.agents own h) i) } in
    c
    ∙ (λ i. (b ∙ (λ j. a j ++ conditions_as v v.agents cs h j) ∙ sym (map-append f firsts (map (condition_of v) cs))) i ++ e i ∷ [])
    ∙ sym (map-append f (firsts ++ map (condition_of v) cs) (record { kind = Above; form = form_of v own } ∷ []))

pub rows_fit_as :
    (v : Numbering) (cs : List held.Condition) (own : List Term) (firsts : List Condition) (x y z d : Bool) → IsNumbering v
    → rows_fit v.agents (cake_of v.olds) firsts ≡ x → condition_rows_fit (all_keys v.agents v.order) cs ≡ y → row_fits_at (all_keys v.agents v.order) own ≡ z → (x && y) && z ≡ d
    → rows_fit v.agents (cake_of v.olds) ((firsts ++ map (condition_of v) cs) ++ record { kind = Above; form = form_of v own } ∷ []) ≡ d
rows_fit_as v cs own firsts x y z d h a b c e =
    let k = cake_of v.olds in
    let o : row_fits_at (all_keys v.agents v.order) own ≡ lowest_fits (all_coefs v.agents k (form_of v own)) = ap lowest_fits (sym (terms_mean_forms v v.agents own h)) in
    fit_append v.agents k (firsts ++ map (condition_of v) cs) (record { kind = Above; form = form_of v own } ∷ [])
    ∙ (λ i. (fit_append v.agents k firsts (map (condition_of v) cs) ∙ (λ j. a j && (sym (conditions_fit_as v v.agents cs h) ∙ b) j)) i && only (sym o ∙ c) i)
    ∙ e

-- a refusal that isn't an overflow is want of memory
pub only_memory : (e : FormFault) → (e ≡ Overflow → ⊥) → e ≡ Memory
only_memory Overflow h = absurd (h refl)
only_memory Memory h = refl
