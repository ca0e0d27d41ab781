-- What sources and terms stand for.
use Rattle.std.proofs.Common.{◌≡◌, ◌∙◌, ℕ, zero, suc, ◌<◌, ◌≤◌, arith, refl, sym, ap, subst, Bool, true, false, List, [], ◌∷◌, length, get_or, pos, take, drop, ◌-◌, Ok, Err}
use Rattle.std.specs.Prelude.{map, if◌then◌else◌, ◌||◌, ◌&&◌, slice_index_or, Option, Some, None, IfErr, IfOk}
use Rattle.std.proofs.lemmas.Bool.Decides.{nat_tests}
use Rattle.slice_num.specs.Rational.{Rational, whole, times, plus, minus}
use Rattle.slice_num.proofs.FieldLaws.{times_zero, minus_same, plus_zero_right}
use Rattle.slice_core.specs.declared.node.LinTerm.{LinTerm}
use Rattle.slice_core.specs.declared.node.Source.{Source}
use Rattle.slice_core.specs.declared.node.Source.TheVariants.{Const, Reg}
use Rattle.slice_linear.specs.declared.forms.Term.{Term}
use Rattle.slice_num.specs.declared.key.Key.{Key}
use Rattle.slice_linear.specs.Terms.{coef_of, whole_key, is_same, is_among, IsWholeForm, IsFormMultiple, ProductsFit}
use Rattle.slice_atoms.specs.Addresses.{Address, begins}
use Rattle.slice_atoms.specs.Forms.{Form, fixed_form, scale_form, add_form, sub_form}
use Rattle.slice_atoms.specs.Numbers.{Numbering, IsNumbering, AllNumbers, name_of, cake_of, agent_keys, all_keys}
use Rattle.slice_paths.specs.Places.{source_form, term_form, scaled_form, added_form}
use Rattle.slice_paths.specs.Spots.{coef_in, form_of, IsWithin}
use Rattle.slice_atoms.specs.FormFits.{scale_fits, add_fits, sub_fits}
use Rattle.slice_paths.specs.Events.{scaled_fits, added_fits, terms_fit}
use Rattle.std.proofs.lemmas.Grind.{common_steps}
use Rattle.std.specs.declared.result.Result.{Result}
use Rattle.slice_paths.specs.Sums.{IsAdded, AddedFit, RestMeans, RestBreaks, SumMeans, SumBreaks, MeansOver, BreaksOver, AllWithin, StandsFor, SourceMeans, TermMeans, TermBreaks}
use Rattle.slice_paths.proofs.Means.{multiples_mean_multiples, sums_mean_sums, differences_mean_differences}
use Rattle.slice_paths.proofs.FitMeans.{forms_fit_as_terms}

-- no atom has number 0, which stands for the whole
whole_in_atoms : (name : ℕ → Address) (most : ℕ) (ms : List ℕ) (c : Rational) (zs : List Term) → AllNumbers most ms → IsWholeForm c zs → (a : ℕ) (B : Address) → coef_in name ms zs a B ≡ whole (pos 0)
whole_in_atoms name most [] c zs n h a B = refl
whole_in_atoms name most (m ∷ ms) c zs n h a B = by (begins B (name m)) (whole_in_atoms name most ms c zs n.2 h a B)
  where
    k : Key
    k = record { agent = a; atom = m }

    other : is_same whole_key k ≡ false
    other = let p = n.0 in grind (arith, nat_tests)

    by : (b : Bool) → coef_in name ms zs a B ≡ whole (pos 0) → (if b then coef_of zs k else coef_in name ms zs a B) ≡ whole (pos 0)
    by true e = h k ∙ ap (λ (z : Bool). if z then c else whole (pos 0)) other
    by false e = e

pub whole_stands : (v : Numbering) (n : ℕ) (c : Rational) (zs : List Term) → IsNumbering v → IsWholeForm c zs → StandsFor v n zs (fixed_form c)
whole_stands v n c zs h w = record {
  is = λ i. record { whole_of = w whole_key i; at = λ a B. whole_in_atoms (name_of v.olds) _ v.order c zs h.given w a B i };
  within = λ k e. w k ∙ ap (λ (z : Bool). if z then c else whole (pos 0)) (first (is_same whole_key k) (is_among (agent_keys n v.order) k) e);
}
  where
    first : (a b : Bool) → a || b ≡ false → a ≡ false
    first true b e = let w : ⊥ = cc in absurd w
    first false b e = refl

reg_stands : (v : Numbering) (n : ℕ) (rs : List (List Term)) (i : ℕ) (d : List Term) (f : Form) → i < length rs → AllWithin n v.order rs → StandsFor v n (get_or rs i d) (slice_index_or (map (form_of v) rs) i f)
reg_stands v n [] i d f h w = absurd (omega arith)
reg_stands v n (r ∷ rs) zero d f h w = record { is = refl; within = w.0 }
reg_stands v n (r ∷ rs) (suc i) d f h w = reg_stands v n rs i d f (omega arith) w.1

pub const_means : (rs : List (List Term)) (c : Rational) (zs : List Term) → IsWholeForm c zs → SourceMeans rs (Const c) zs
const_means rs c zs w = λ v n h k. (whole_stands v n c zs h w, refl)

pub reg_means : (rs : List (List Term)) (i : ℕ) (d : List Term) → i < length rs → SourceMeans rs (Reg i) (get_or rs i d)
reg_means rs i d h = λ v n c k. (reg_stands v n rs i d (fixed_form (whole (pos 0))) h k, refl)

abbrev Scaled : List (List Term) → List Term → Source → Option Rational → Type 0
Scaled rs zs s o = MeansOver rs zs (λ fs. scaled_form o (source_form fs s)) (λ n v fs. scaled_fits n (cake_of v.olds) o (source_form fs s))

abbrev ScaledBreaks : List (List Term) → Source → Option Rational → Type 0
ScaledBreaks rs s o = BreaksOver rs (λ n v fs. scaled_fits n (cake_of v.olds) o (source_form fs s))

pub plain_means : (rs : List (List Term)) (t : LinTerm) (zs : List Term) → t.factor ≡ None → SourceMeans rs t.source zs → TermMeans rs t zs
plain_means rs t zs e s = subst (Scaled rs zs t.source) (sym e) s

pub scaled_means : (rs : List (List Term)) (t : LinTerm) (c : Rational) (xs zs : List Term) → t.factor ≡ Some c → SourceMeans rs t.source xs → IsFormMultiple c xs zs → ProductsFit c xs → TermMeans rs t zs
scaled_means rs t c xs zs e s m f = subst (Scaled rs zs t.source) (sym e) (λ v n h k.
    (let a = (s v n h k).0 in
    let is : form_of v zs ≡ scale_form c (source_form (map (form_of v) rs) t.source) = multiples_mean_multiples v c xs zs m ∙ ap (scale_form c) a.is in
    let within : IsWithin (all_keys n v.order) zs = λ k e. m k ∙ ap (times c) (a.within k e) ∙ times_zero c in
    let fit : scale_fits n (cake_of v.olds) c (source_form (map (form_of v) rs) t.source) ≡ true = ap (scale_fits n (cake_of v.olds) c) (sym a.is) ∙ (forms_fit_as_terms v n xs xs h a.within).products_in c f in
    (record { is = is; within = within }, fit)))

pub scaled_breaks : (rs : List (List Term)) (t : LinTerm) (c : Rational) (xs : List Term) → t.factor ≡ Some c → SourceMeans rs t.source xs → (ProductsFit c xs → ⊥) → TermBreaks rs t
scaled_breaks rs t c xs e s f = subst (ScaledBreaks rs t.source) (sym e) (λ v n h k.
    (let a = (s v n h k).0 in
    let by : (b : Bool) → scale_fits n (cake_of v.olds) c (form_of v xs) ≡ b → b ≡ false = λ b g. none b (λ t. f ((forms_fit_as_terms v n xs xs h a.within).products_out c (g ∙ t))) in
    ap (scale_fits n (cake_of v.olds) c) (sym a.is) ∙ by (scale_fits n (cake_of v.olds) c (form_of v xs)) refl))
  where
    none : (b : Bool) → (b ≡ true → ⊥) → b ≡ false
    none true h = absurd (h refl)
    none false h = refl

pub both_ok : {T E : Type 0} (r : Result T E) (P Q : T → Type 0) → IfOk r P → IfOk r Q → IfOk r (λ x. P x × Q x)
both_ok (Ok x) P Q p q = (p, q)
both_ok (Err e) P Q p q = tt

pub all_err : {T E : Type 0} (r : Result T E) (P Q : E → Type 0) → ((x : E) → P x → Q x) → IfErr r P → IfErr r Q
all_err (Ok x) P Q f h = tt
all_err (Err e) P Q f h = f e h

-- ---- a term added to a sum
pub added_means :
    (rs : List (List Term)) (b : Bool) (t : LinTerm) (total xs zs : List Term) → t.minus ≡ b → IsAdded b total xs zs → AddedFit b total xs
    → (v : Numbering) (n : ℕ) (f : Form) → IsNumbering v → StandsFor v n total f → StandsFor v n xs (term_form (map (form_of v) rs) t)
    → StandsFor v n zs (added_form b f (term_form (map (form_of v) rs) t)) × (added_fits n (cake_of v.olds) b f (term_form (map (form_of v) rs) t) ≡ true)
added_means rs true t total xs zs e m d v n f h a x =
    let is = differences_mean_differences v total xs zs m ∙ (λ i. sub_form (a.is i) (x.is i)) in
    let within : IsWithin (all_keys n v.order) zs = λ k o. m k ∙ (λ i. minus (a.within k o i) (x.within k o i)) ∙ minus_same (whole (pos 0)) (whole (pos 0)) refl in
    let fit : sub_fits n (cake_of v.olds) f (term_form (map (form_of v) rs) t) ≡ true = (λ i. sub_fits n (cake_of v.olds) (sym a.is i) (sym x.is i)) ∙ (forms_fit_as_terms v n total xs h a.within).differences_in d in
    (record { is = is; within = within }, fit)
added_means rs false t total xs zs e m d v n f h a x =
    let is = sums_mean_sums v total xs zs m ∙ (λ i. add_form (a.is i) (x.is i)) in
    let within : IsWithin (all_keys n v.order) zs = λ k o. m k ∙ (λ i. plus (a.within k o i) (x.within k o i)) ∙ plus_zero_right (whole (pos 0)) in
    let fit : add_fits n (cake_of v.olds) f (term_form (map (form_of v) rs) t) ≡ true = (λ i. add_fits n (cake_of v.olds) (sym a.is i) (sym x.is i)) ∙ (forms_fit_as_terms v n total xs h a.within).sums_in d in
    (record { is = is; within = within }, fit)

added_out :
    (rs : List (List Term)) (b : Bool) (t : LinTerm) (total xs : List Term) (v : Numbering) (n : ℕ) (f : Form) → IsNumbering v → StandsFor v n total f → StandsFor v n xs (term_form (map (form_of v) rs) t)
    → added_fits n (cake_of v.olds) b f (term_form (map (form_of v) rs) t) ≡ true → AddedFit b total xs
added_out rs true t total xs v n f h a x e = (forms_fit_as_terms v n total xs h a.within).differences_out ((λ i. sub_fits n (cake_of v.olds) (a.is i) (x.is i)) ∙ e)
added_out rs false t total xs v n f h a x e = (forms_fit_as_terms v n total xs h a.within).sums_out ((λ i. add_fits n (cake_of v.olds) (a.is i) (x.is i)) ∙ e)

both_true : (a b : Bool) → a ≡ true → b ≡ true → a && b ≡ true
both_true a b e f = grind arith

first_false : (a b : Bool) → a ≡ false → a && b ≡ false
first_false a b f = grind arith

second_false : (a b : Bool) → b ≡ false → a && b ≡ false
second_false a b f = grind arith

-- ---- the terms after a total
pub rest_next :
    (rs : List (List Term)) (total x next : List Term) (t : LinTerm) (ts : List LinTerm) (zs : List Term) → TermMeans rs t x → IsAdded t.minus total x next → AddedFit t.minus total x
    → RestMeans rs next ts zs → RestMeans rs total (t ∷ ts) zs
rest_next rs total x next t ts zs tm i d r v n f h w a =
    let y = tm v n h w in
    let m = added_means rs t.minus t total x next refl i d v n f h a y.0 in
    let z = r v n (added_form t.minus f (term_form (map (form_of v) rs) t)) h w m.0 in
    (z.0, both_true _ _ y.1 (both_true _ _ m.1 z.1))

pub rest_breaks_term : (rs : List (List Term)) (total : List Term) (t : LinTerm) (ts : List LinTerm) → TermBreaks rs t → RestBreaks rs total (t ∷ ts)
rest_breaks_term rs total t ts b v n f h w a = first_false _ _ (b v n h w)

pub rest_breaks_add :
    (rs : List (List Term)) (total x : List Term) (t : LinTerm) (ts : List LinTerm) → TermMeans rs t x → (AddedFit t.minus total x → ⊥) → RestBreaks rs total (t ∷ ts)
rest_breaks_add rs total x t ts tm no_fit v n f h w a =
    let y = tm v n h w in
    let out = added_out rs t.minus t total x v n f h a y.0 in
    second_false _ _ (ap (λ (z : Bool). z && terms_fit n (cake_of v.olds) (map (form_of v) rs) (added_form t.minus f (term_form (map (form_of v) rs) t)) ts)
    (none (added_fits n (cake_of v.olds) t.minus f (term_form (map (form_of v) rs) t)) (λ e. no_fit (out e))))
  where
    none : (b : Bool) → (b ≡ true → ⊥) → b ≡ false
    none true h = absurd (h refl)
    none false h = refl

pub rest_breaks_rest :
    (rs : List (List Term)) (total x next : List Term) (t : LinTerm) (ts : List LinTerm) → TermMeans rs t x → IsAdded t.minus total x next → AddedFit t.minus total x
    → RestBreaks rs next ts → RestBreaks rs total (t ∷ ts)
rest_breaks_rest rs total x next t ts tm i d r v n f h w a =
    let y = tm v n h w in
    let m = added_means rs t.minus t total x next refl i d v n f h a y.0 in
    second_false _ _ (second_false _ _ (r v n (added_form t.minus f (term_form (map (form_of v) rs) t)) h w m.0))

-- a list by its first item and the others
pub by_first : (ts : List LinTerm) (t : LinTerm) → 1 ≤ length ts → t ≡ get_or ts 0 t → ts ≡ t ∷ take (length ts - 1) (drop 1 ts)
by_first [] t h e = absurd (omega arith)
by_first (x ∷ ts) t h e = let r : take (length (x ∷ ts) - 1) ts ≡ ts = grind (arith, common_steps) in λ i. sym e i ∷ sym r i

-- ---- whole sums
pub sum_first : (rs : List (List Term)) (x : List Term) (t : LinTerm) (ts : List LinTerm) (zs : List Term) → TermMeans rs t x → RestMeans rs x ts zs → SumMeans rs (t ∷ ts) zs
sum_first rs x t ts zs tm r v n h w =
    let y = tm v n h w in
    let z = r v n (term_form (map (form_of v) rs) t) h w y.0 in
    (z.0, both_true _ _ y.1 z.1)

pub sum_breaks_term : (rs : List (List Term)) (t : LinTerm) (ts : List LinTerm) → TermBreaks rs t → SumBreaks rs (t ∷ ts)
sum_breaks_term rs t ts b v n h w = first_false _ _ (b v n h w)

pub sum_breaks_rest : (rs : List (List Term)) (x : List Term) (t : LinTerm) (ts : List LinTerm) → TermMeans rs t x → RestBreaks rs x ts → SumBreaks rs (t ∷ ts)
sum_breaks_rest rs x t ts tm r v n h w =
    let y = tm v n h w in
    second_false _ _ (r v n (term_form (map (form_of v) rs) t) h w y.0)

pub no_terms : (ts : List LinTerm) → length ts < 1 → ts ≡ []
no_terms [] h = refl
no_terms (t ∷ ts) h = absurd (omega arith)

pub sum_none : (rs : List (List Term)) (zs : List Term) → ((k : Key) → coef_of zs k ≡ whole (pos 0)) → SumMeans rs [] zs
sum_none rs zs z v n h w = (whole_stands v n (whole (pos 0)) zs h (λ k. z k ∙ by (is_same whole_key k)), refl)
  where
    by : (b : Bool) → whole (pos 0) ≡ (if b then whole (pos 0) else whole (pos 0))
    by true = refl
    by false = refl
