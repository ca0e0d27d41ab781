-- What was done with the pieces of a cake.
use Rattle.std.specs.Prelude.{ℕ, List}
use Rattle.slice_num.specs.Rational.{Rational, IsAtMost}
use Rattle.slice_num.specs.declared.interval.Interval.{Interval}

-- what each agent was given, what nobody was given, and for how many more stretches room is kept there
pub record Ledger : Type 0 where
  pub shares : List (List Interval)
  pub left : List Interval
  pub spare : ℕ

-- the point lies in the stretch, or at one of its ends
abbrev pub IsWithin : Rational → Interval → Type 0
IsWithin y i = IsAtMost i.from y × IsAtMost y i.to
