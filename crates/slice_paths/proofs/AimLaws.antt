-- What the rows of a goal tell of what comes next.
use Rattle.std.proofs.Common.{◌≡◌, ◌∙◌, ℕ, ◌<◌, ◌≤◌, arith, refl, sym, ap, subst, Bool, true, false, List, [], ◌∷◌, ◌++◌}
use Rattle.std.specs.Prelude.{◌&&◌, nat_lt, if◌then◌else◌, IfOk, Ok, Err}
use Rattle.std.specs.declared.result.Result.{Result}
use Rattle.std.proofs.lemmas.Bool.Decides.{nat_tests}
use Rattle.slice_num.specs.declared.choice.Choice.{Choice}
use Rattle.slice_linear.specs.Rows.{LinearRow}
use Rattle.slice_linear.specs.Terms.{IsFormDifference, DifferencesFit}
use Rattle.slice_linear.specs.declared.forms.FormFault.{FormFault}
use Rattle.slice_linear.specs.declared.forms.FormFault.TheVariants as form_fault
use Rattle.slice_linear.specs.declared.forms.Term.{Term}
use Rattle.slice_linear.specs.declared.row.RowKind.TheVariants.{Above}
use Rattle.slice_atoms.specs.FormFits.{sub_fits}
use Rattle.slice_atoms.specs.Forms.{Form, sub_form}
use Rattle.slice_atoms.specs.Numbers.{cake_of}
use Rattle.slice_paths.specs.Events.{Event, Meets, Found, found, rows_fit, next_goal, NextGoal, Gives, Overflows, OverLimit, goal_at}
use Rattle.slice_paths.specs.Goals.{Goal, rows_of}
use Rattle.slice_paths.specs.Places.{Way}
use Rattle.slice_paths.specs.Same.{SameAt}
use Rattle.slice_paths.specs.Spots.{Known, form_of, way_of}
use Rattle.slice_paths.specs.Steps.{IsKnown, IsOver}
use Rattle.slice_paths.specs.Walking.{RowsTell, RowsFail, GoalComes, GoalFails, fault_of}
use Rattle.slice_paths.specs.declared.goal.GoalFault.{GoalFault}
use Rattle.slice_paths.specs.declared.goal.GoalFault.TheVariants.{GoalLimit, Memory}
use Rattle.slice_paths.specs.declared.goal.GoalKind.{GoalKind}
use Rattle.slice_atoms.specs.Addresses.{Cake}
use Rattle.slice_paths.proofs.Depends.{found_same, same_self}
use Rattle.slice_paths.proofs.FitMeans.{forms_fit_as_terms}
use Rattle.slice_paths.proofs.Means.{differences_mean_differences}
use Rattle.slice_paths.proofs.StepLaws.{same_conditions}

-- ---- what comes next at a goal
under : (given : ℕ) → given < 1000000 → nat_lt given 1000000 ≡ true
under given l = grind (arith, nat_tests)

over : (given : ℕ) → 1000000 ≤ given → nat_lt given 1000000 ≡ false
over given l = grind (arith, nat_tests)

at_limit : (b : Bool) (x y : NextGoal) → b ≡ true → (if b then x else y) ≡ x
at_limit b x y e = ap (λ (c : Bool). if c then x else y) e

past_limit : (b : Bool) (x y : NextGoal) → b ≡ false → (if b then x else y) ≡ y
past_limit b x y e = ap (λ (c : Bool). if c then x else y) e

gives_goal : (given : ℕ) (t : Found) (es : List Event) → given < 1000000 → t.fit ≡ true → next_goal (Meets t ∷ es) given ≡ Gives (goal_at given t) es
gives_goal given t es l f =
    at_limit (nat_lt given 1000000) (if t.fit then Gives (goal_at given t) es else Overflows) OverLimit (under given l)
    ∙ at_limit t.fit (Gives (goal_at given t) es) Overflows f

breaks_goal : (given : ℕ) (t : Found) (es : List Event) → given < 1000000 → t.fit ≡ false → next_goal (Meets t ∷ es) given ≡ Overflows
breaks_goal given t es l f =
    at_limit (nat_lt given 1000000) (if t.fit then Gives (goal_at given t) es else Overflows) OverLimit (under given l)
    ∙ past_limit t.fit (Gives (goal_at given t) es) Overflows f

limits_goal : (given : ℕ) (t : Found) (es : List Event) → 1000000 ≤ given → next_goal (Meets t ∷ es) given ≡ OverLimit
limits_goal given t es l = past_limit (nat_lt given 1000000) (if t.fit then Gives (goal_at given t) es else Overflows) OverLimit (over given l)

-- ---- the goal of two forms over the atoms, and of those that they stand for
found_as : (n : ℕ) (s : Known) (trace : List Choice) (kind : GoalKind) (xs ys : List Term) (f g : Form) → SameAt (cake_of s.atoms.olds) (form_of s.atoms xs) f → SameAt (cake_of s.atoms.olds) (form_of s.atoms ys) g
    → found n (record (way_of s) { trace = trace }) kind f g ≡ found n (record (way_of s) { trace = trace }) kind (form_of s.atoms xs) (form_of s.atoms ys)
found_as n s trace kind xs ys f g p q =
    let k : Way = record (way_of s) { trace = trace } in
    sym (found_same n k k.conditions k.cuts kind (form_of s.atoms xs) f (form_of s.atoms ys) g (same_conditions k.cake k.conditions) p q)

-- ---- rows that were made
pub record Differs (n : ℕ) (s : Known) (xs ys zs : List Term) : Type 0 where
  pub agents : n ≡ s.atoms.agents
  pub known : IsKnown s
  pub over : IsOver s xs
  pub difference : IsFormDifference xs ys zs
  pub fits : DifferencesFit xs ys

difference_fits : (n : ℕ) (s : Known) (xs ys : List Term) → n ≡ s.atoms.agents → IsKnown s → IsOver s xs → DifferencesFit xs ys
    → sub_fits n (cake_of s.atoms.olds) (form_of s.atoms xs) (form_of s.atoms ys) ≡ true
difference_fits n s xs ys a k o f =
    ap (λ (x : ℕ). sub_fits x (cake_of s.atoms.olds) (form_of s.atoms xs) (form_of s.atoms ys)) a
    ∙ (forms_fit_as_terms s.atoms s.atoms.agents xs ys k.numbering o).differences_in f

own_row_fits : ℕ → Known → Form → Bool
own_row_fits n s own = rows_fit n (way_of s).cake ((way_of s).conditions ++ record { kind = Above; form = own } ∷ [])

both : (a b : Bool) → a ≡ true → b ≡ true → a && b ≡ true
both a b e f = λ i. e i && f i

second : (a b : Bool) → b ≡ false → a && b ≡ false
second true b e = e
second false b e = refl

pub rows_tell : (n given : ℕ) (s : Known) (xs ys zs : List Term) (rows : List LinearRow) → given < 1000000 → n ≡ s.atoms.agents → IsKnown s → IsOver s xs → IsFormDifference xs ys zs → DifferencesFit xs ys
    → rows ≡ rows_of n (way_of s) (form_of s.atoms zs)
    → rows_fit n (way_of s).cake ((way_of s).conditions ++ record { kind = Above; form = form_of s.atoms zs } ∷ []) ≡ true
    → (f g : Form) → SameAt (cake_of s.atoms.olds) (form_of s.atoms xs) f → SameAt (cake_of s.atoms.olds) (form_of s.atoms ys) g → RowsTell n given f g s rows
unfolding own_row_fits
rows_tell n given s xs ys zs rows few a k o d fit r rf f g p q trace kind es =
    let way : Way = record (way_of s) { trace = trace } in
    let t : Found = found n way kind (form_of s.atoms xs) (form_of s.atoms ys) in
    let own = differences_mean_differences s.atoms xs ys zs d in
    let fits : t.fit ≡ true = both (sub_fits n (cake_of s.atoms.olds) (form_of s.atoms xs) (form_of s.atoms ys)) (own_row_fits n s (sub_form (form_of s.atoms xs) (form_of s.atoms ys)))
    (difference_fits n s xs ys a k o fit) (ap (own_row_fits n s) (sym own) ∙ rf) in
    let made : t.rows ≡ rows = ap (rows_of n (way_of s)) (sym own) ∙ sym r in
    ap (λ (x : Found). next_goal (Meets x ∷ es) given) (found_as n s trace kind xs ys f g p q)
    ∙ gives_goal given t es few fits
    ∙ ap (λ (x : List LinearRow). Gives (record { number = given; trace = trace; kind = kind; query = s.queries; rows = x }) es) made

pub rows_limit : (n given : ℕ) (s : Known) (f g : Form) → 1000000 ≤ given → RowsFail n given f g s GoalLimit
rows_limit n given s f g l trace kind es = limits_goal given (found n (record (way_of s) { trace = trace }) kind f g) es l

-- the difference doesn't fit
none_fit : (n : ℕ) (s : Known) (xs ys : List Term) → n ≡ s.atoms.agents → IsKnown s → IsOver s xs → (DifferencesFit xs ys → ⊥)
    → sub_fits n (cake_of s.atoms.olds) (form_of s.atoms xs) (form_of s.atoms ys) ≡ false
none_fit n s xs ys a k o f =
    ap (λ (x : ℕ). sub_fits x (cake_of s.atoms.olds) (form_of s.atoms xs) (form_of s.atoms ys)) a
    ∙ none (sub_fits s.atoms.agents (cake_of s.atoms.olds) (form_of s.atoms xs) (form_of s.atoms ys)) (λ e. f ((forms_fit_as_terms s.atoms s.atoms.agents xs ys k.numbering o).differences_out e))
  where
    none : (b : Bool) → (b ≡ true → ⊥) → b ≡ false
    none true h = absurd (h refl)
    none false h = refl

pub difference_fails : (n given : ℕ) (s : Known) (xs ys : List Term) (fault : FormFault) → given < 1000000 → n ≡ s.atoms.agents → IsKnown s → IsOver s xs
    → (fault ≡ form_fault.Overflow → DifferencesFit xs ys → ⊥)
    → (f g : Form) → SameAt (cake_of s.atoms.olds) (form_of s.atoms xs) f → SameAt (cake_of s.atoms.olds) (form_of s.atoms ys) g → RowsFail n given f g s (fault_of given fault)
unfolding own_row_fits
difference_fails n given s xs ys form_fault.Memory few a k o none f g p q trace kind es = tt
difference_fails n given s xs ys form_fault.Overflow few a k o none f g p q trace kind es =
    let way : Way = record (way_of s) { trace = trace } in
    let t : Found = found n way kind (form_of s.atoms xs) (form_of s.atoms ys) in
    let fits : t.fit ≡ false = ap (λ (b : Bool). b && own_row_fits n s (sub_form (form_of s.atoms xs) (form_of s.atoms ys))) (none_fit n s xs ys a k o (none refl)) in
    (ap (λ (x : Found). next_goal (Meets x ∷ es) given) (found_as n s trace kind xs ys f g p q) ∙ breaks_goal given t es few fits, refl)

pub rows_fail : (n given : ℕ) (s : Known) (xs ys zs : List Term) (fault : FormFault) → given < 1000000 → IsFormDifference xs ys zs
    → (fault ≡ form_fault.Overflow → rows_fit n (way_of s).cake ((way_of s).conditions ++ record { kind = Above; form = form_of s.atoms zs } ∷ []) ≡ false)
    → (f g : Form) → SameAt (cake_of s.atoms.olds) (form_of s.atoms xs) f → SameAt (cake_of s.atoms.olds) (form_of s.atoms ys) g → RowsFail n given f g s (fault_of given fault)
unfolding own_row_fits
rows_fail n given s xs ys zs form_fault.Memory few d none f g p q trace kind es = tt
rows_fail n given s xs ys zs form_fault.Overflow few d none f g p q trace kind es =
    let way : Way = record (way_of s) { trace = trace } in
    let t : Found = found n way kind (form_of s.atoms xs) (form_of s.atoms ys) in
    let own = differences_mean_differences s.atoms xs ys zs d in
    let fits : t.fit ≡ false = second (sub_fits n (cake_of s.atoms.olds) (form_of s.atoms xs) (form_of s.atoms ys)) (own_row_fits n s (sub_form (form_of s.atoms xs) (form_of s.atoms ys)))
    (ap (own_row_fits n s) (sym own) ∙ none refl) in
    (ap (λ (x : Found). next_goal (Meets x ∷ es) given) (found_as n s trace kind xs ys f g p q) ∙ breaks_goal given t es few fits, refl)

-- ---- goals with their rows
pub told : (n given : ℕ) (s : Known) (f g : Form) (rows : List LinearRow) (trace : List Choice) (kind : GoalKind) (goal : Goal) → RowsTell n given f g s rows
    → goal ≡ record { number = given; trace = trace; kind = kind; query = s.queries; rows = rows } → GoalComes given (Meets (found n (record (way_of s) { trace = trace }) kind f g)) goal
told n given s f g rows trace kind goal tell e es = tell trace kind es ∙ ap (λ (x : Goal). Gives x es) (sym e)

pub memory_fails : (given : ℕ) (e : Event) (fault : GoalFault) → fault ≡ Memory → GoalFails given e fault
memory_fails given e fault is = subst (GoalFails given e) (sym is) (λ es. tt)

pub if_ok : {T E : Type 0} (r : Result T E) (P : Type 0) → P → IfOk r (λ x. P)
if_ok (Ok x) P h = h
if_ok (Err e) P h = tt

pub same_as : (k : Cake) (f g : Form) → f ≡ g → SameAt k f g
same_as k f g e = subst (SameAt k f) e (same_self k f)
