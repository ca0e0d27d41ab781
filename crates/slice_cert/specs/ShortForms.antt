-- The short form of a line: multipliers that refute a goal may refute the rows behind choices on its way already.
use Rattle.std.specs.Prelude.{ℕ, zero, suc, ◌+◌, ◌-◌, ◌==◌, if◌then◌else◌, ℤ, pos, List, [], ◌∷◌, length, take}
use Rattle.slice_cert.specs.declared.line.Line.{Line}
use Rattle.slice_cert.specs.declared.line.Line.TheVariants.{Refutation, Cover}

-- one more where some follow; else one where the multiplier isn't 0
abbrev pub counted_from : ℤ → ℕ → ℕ
counted_from m (suc n) = suc (suc n)
counted_from (pos zero) zero = 0
counted_from m zero = 1

-- how many multipliers there are up to the last that isn't 0
abbrev pub used : List ℤ → ℕ
used [] = 0
used (m ∷ ms) = counted_from m (used ms)

-- the least number of passed choices with all multipliers behind theirs 0, where the row of the cake and one for each of so
-- many agents come before those of the choices
abbrev pub needed : ℕ → List ℤ → ℕ
needed agents ms = used ms - (1 + agents)

-- the goal's line where the multiplier of its own row, the last, isn't 0; else the line that covers this goal and all later
-- ones with the same first choices, as few choices as the multipliers need
abbrev pub short_line : (agents goal : ℕ) → List ℤ → Line
short_line agents goal ms = if used ms == length ms then Refutation goal ms else Cover goal (needed agents ms) (take (1 + agents + needed agents ms) ms)
