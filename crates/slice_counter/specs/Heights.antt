-- Heights that are too great.
use Rattle.std.specs.Prelude.{◌≡◌, ℕ, ◌+◌, ◌-◌, ◌*◌, ◌<◌, ◌≤◌, ◌≤ℤ◌, ◌<ℤ◌, ◌^◌, pos, ℤ, List, ⊤}
use Rattle.slice_num.specs.Rational.{whole}
use Rattle.slice_num.specs.declared.cut_answer.CutAnswer.{CutAnswer}
use Rattle.slice_core.specs.Agents.{IsAgent}
use Rattle.slice_linear.specs.Sums.{at}
use Rattle.slice_counter.specs.declared.counter.CounterFault.{CounterFault}
use Rattle.slice_counter.specs.declared.counter.CounterFault.TheVariants.{HeightLimit, Memory}
use Rattle.slice_counter.specs.declared.trail.Mark.{Mark}

-- the agent's number of that atom, counted from 0, is over the greatest height, and none before it is, by agent and then atom
pub record IsFirstHigh (agents atoms : ℕ) (xs : List ℤ) (agent atom : ℕ) : Type 0 where
  pub is_agent : IsAgent agents agent
  pub is_atom : atom < atoms
  pub high : pos (10 ^ 18) <ℤ (at xs (1 + (agent - 1) * atoms + atom))
  pub first : (i : ℕ) → 1 ≤ i → i < 1 + (agent - 1) * atoms + atom → (at xs i) ≤ℤ pos (10 ^ 18)

-- why a solution gives no counterexample: it names the first such number. Want of memory may come at any time
abbrev pub HighIs : ℕ → ℕ → List ℤ → CounterFault → Type 0
HighIs agents atoms xs (HeightLimit agent atom) = IsFirstHigh agents atoms xs agent atom
HighIs agents atoms xs Memory = ⊤

-- ---- for clauses of private functions and proofs

-- it names the agent and the atom of that unknown
abbrev pub FaultAt : ℕ → ℕ → CounterFault → Type 0
FaultAt unknown atoms (HeightLimit agent atom) = (1 ≤ agent) × (atom < atoms) × (unknown ≡ 1 + (agent - 1) * atoms + atom)
FaultAt unknown atoms Memory = ⊥

-- the cut is answered by the boundary of its two sides
abbrev pub answer_at : Mark → CutAnswer
answer_at m = record { part = m.part; point = whole (pos m.left) }
