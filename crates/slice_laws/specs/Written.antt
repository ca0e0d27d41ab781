-- What the lines say that `verify` wrote, in whatever it ends: a counterexample, a refusal, or that no envy is left.
use Rattle.std.specs.Prelude.{◌≡◌, ◌+◌, ◌≤◌, ℕ, List, [], ◌∷◌, length, drop, take}
use Rattle.std.specs.List.{All}
use Rattle.slice_core.specs.Tree.{Core}
use Rattle.slice_paths.specs.Events.{Event, NoMore, next_goal}
use Rattle.slice_paths.specs.Goals.{Goal, goals}
use Rattle.slice_paths.specs.RunLaws.{IsRefuted}
use Rattle.slice_cert.specs.declared.line.Line.{Line}
use Rattle.slice_check.specs.Certificate.{Takes}
use Rattle.slice_verify.specs.Report.{IsReached, TakeFirst}

-- the lines take goals from n on up to m, in their order, as those of a certificate do: each takes so many of the goals that
-- come, with multipliers that refute the first one's rows, or those behind choices that they all share
abbrev pub TakeUpTo : Core → (n : ℕ) → List Goal → List Line → (m : ℕ) → Type 0
TakeUpTo core n gs [] m = m ≡ n
TakeUpTo core n gs (l ∷ ls) m = (count : ℕ) × (count ≤ length gs) × Takes core 2 n gs l count × TakeUpTo core (n + count) (drop count gs) ls m

-- the lines that were written take the core's first goals, and each of these is refuted
abbrev pub LinesRefuteGoals : Type 0
LinesRefuteGoals =
    (core : Core) (ls : List Line) (n : ℕ) (ahead : List Event) → TakeFirst core ls n ahead → TakeUpTo core 0 (goals core) ls n × All (IsRefuted core) (take n (goals core))

-- the goal that comes next after them is the core's goal of that number
abbrev pub ReachedGoalsFollow : Type 0
ReachedGoalsFollow = (core : Core) (ls : List Line) (g : Goal) → IsReached core ls g → (later : List Goal) × (drop g.number (goals core) ≡ g ∷ later)

-- where none comes next, they took all
abbrev pub LinesTakeAll : Type 0
LinesTakeAll = (core : Core) (ls : List Line) (n : ℕ) (ahead : List Event) → TakeFirst core ls n ahead → next_goal ahead n ≡ NoMore → n ≡ length (goals core)
