-- Whole numbers in proportion to fractions, and what rows of whole numbers say of forms.
use Rattle.std.specs.Prelude.{ℕ, ◌<◌, ◌≡◌, ◌↔◌, List, [], ◌∷◌, ℤ, ⊤, pos}
use Rattle.slice_num.specs.Rational.{Rational, plus, times, whole, IsBelow, IsAtMost}
use Rattle.slice_linear.specs.declared.row.RowKind.{RowKind}
use Rattle.slice_linear.specs.declared.row.RowKind.TheVariants.{Zero, AtLeast, Above}
use Rattle.slice_linear.specs.Rows.{dot, KindHolds}
use Rattle.slice_linear.specs.LowestRow.{lowest, IsInLowestForm}

-- each whole number is k times its fraction
abbrev pub AllTimes : Rational → List ℤ → List Rational → Type 0
AllTimes k [] [] = ⊤
AllTimes k (z ∷ zs) (q ∷ qs) = (whole z ≡ times k q) × AllTimes k zs qs
AllTimes k [] (q ∷ qs) = ⊥
AllTimes k (z ∷ zs) [] = ⊥

-- the whole numbers are in proportion to the fractions, by a factor above 0, and in lowest form
pub record AreLowest (zs : List ℤ) (qs : List Rational) : Type 0 where
  pub factor : Rational
  pub above : IsBelow (whole (pos 0)) factor
  pub in_proportion : AllTimes factor zs qs
  pub lowest_form : IsInLowestForm zs

-- `lowest` makes them so
abbrev pub RowsAreLowest : Type 0
RowsAreLowest = (qs : List Rational) → AreLowest (lowest qs) qs

-- whole numbers that are a whole number of times the fractions
pub record CommonMultiple (vs : List Rational) : Type 0 where
  pub factor : ℕ
  pub above : 0 < factor
  pub numbers : List ℤ
  pub each : AllTimes (whole (pos factor)) numbers vs

-- fractions have some
abbrev pub FractionsHaveMultiples : Type 0
FractionsHaveMultiples = (vs : List Rational) → CommonMultiple vs

-- a form's sum at these values of its unknowns: coefficients times values
abbrev pub dot_of : List Rational → List Rational → Rational
dot_of [] vs = whole (pos 0)
dot_of (q ∷ qs) [] = whole (pos 0)
dot_of (q ∷ qs) (v ∷ vs) = plus (times q v) (dot_of qs vs)

-- what a row of that kind says of its form's sum: it is 0, at least 0, above 0
abbrev pub Meets : RowKind → Rational → Type 0
Meets Zero q = q ≡ whole (pos 0)
Meets AtLeast q = IsAtMost (whole (pos 0)) q
Meets Above q = IsBelow (whole (pos 0)) q

-- a row in lowest whole numbers holds at whole numbers exactly where its form says so at the values that they are in
-- proportion to
abbrev pub RowsMeanTheirForms : Type 0
RowsMeanTheirForms =
    (kind : RowKind) (qs vs : List Rational) (d : Rational) (xs : List ℤ) → IsBelow (whole (pos 0)) d → AllTimes d xs vs
    → KindHolds kind (dot (lowest qs) xs) ↔ Meets kind (dot_of qs vs)
