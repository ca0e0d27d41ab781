-- The tests of an entry by stages. Clauses of private functions and proofs cite them; no definition rests on them.
use Rattle.std.specs.Prelude.{◌&&◌, ℕ, ◌≤◌, ◌≡◌, ℤ, List, [], ◌∷◌, length, codes, not, Option, is_some}
use Rattle.serde_json.specs.Data.{Data}
use Rattle.slice_json.specs.Reading.{items_at}
use Rattle.slice_step.specs.ValuationFile.{first_failed, has_steps, numbers_at, are_ends, are_heights, are_zero}
use Rattle.slice_step.specs.declared.fault.ValuationFault.{ValuationFault}
use Rattle.slice_step.specs.declared.fault.ValuationFault.TheVariants as fault

-- the first fault of the arrays of an entry
abbrev pub form_fault : ℕ → Data → Option ValuationFault
form_fault agent d =
    first_failed (
    (has_steps (items_at (codes "ends") d) (items_at (codes "heights") d), fault.Shape agent)
    ∷ (is_some (numbers_at (codes "ends") d) && is_some (numbers_at (codes "heights") d), fault.NotWhole agent)
    ∷ []
    )

-- the first fault of its numbers
abbrev pub numbers_fault : ℕ → List ℤ → List ℤ → Option ValuationFault
numbers_fault agent es hs =
    first_failed ((are_ends es, fault.EndsOrder agent) ∷ (are_heights hs, fault.HeightRange agent) ∷ (not (are_zero hs), fault.NoTotal agent) ∷ [])

-- as many ends as heights, from 1 to 1,000
pub record AreSteps (es hs : List ℤ) : Type 0 where
  pub same : length es ≡ length hs
  pub some : 1 ≤ length es
  pub few : length es ≤ 1000
