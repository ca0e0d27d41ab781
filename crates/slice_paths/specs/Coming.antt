-- The goals that a stream gives yet.
use Rattle.std.specs.Prelude.{◌≡◌, ℕ, ◌+◌, ◌<◌, nat_lt, ⊤, List, [], ◌∷◌, ◌++◌, Some, None, if◌then◌else◌}
use Rattle.slice_num.specs.declared.choice.Choice.{Choice}
use Rattle.slice_core.specs.Tree.{Core}
use Rattle.std.specs.declared.option.Option.{Option}
use Rattle.slice_linear.specs.Rows.{AreRowsOver, width}
use Rattle.slice_paths.specs.Events.{Event, Meets, Breaks, NextGoal, Gives, NoMore, Overflows, OverLimit, next_goal, goal_at, goal_limit, events_of}
use Rattle.slice_paths.specs.Fronts.{events_after}
use Rattle.slice_paths.specs.Goals.{Goal, goals}
use Rattle.slice_paths.specs.declared.goal.GoalFault.TheVariants as fault
use Rattle.slice_paths.specs.declared.goal.GoalFault.{GoalFault}

-- how many goals were given, those that come yet, and what comes after them: the end where there is no fault
pub record Coming : Type 0 where
  pub given : ℕ
  pub goals : List Goal
  pub fault : Option GoalFault

-- goals with numbers from n on, at most a million of them, with rows over the same unknowns that fit
abbrev pub AreGoals : ℕ → List Goal → Type 0
AreGoals n [] = ⊤
AreGoals n (g ∷ gs) = (g.number ≡ n) × (n < 1000000) × AreRowsOver (width g.rows) g.rows × AreGoals (n + 1) gs

-- ---- what a stream gives that has these events ahead
abbrev pub goals_ahead : List Event → ℕ → List Goal
goals_ahead [] given = []
goals_ahead (Breaks ∷ es) given = []
goals_ahead (Meets t ∷ es) given = if nat_lt given goal_limit then (if t.fit then goal_at given t ∷ goals_ahead es (given + 1) else []) else []

abbrev pub fault_ahead : List Event → ℕ → Option GoalFault
fault_ahead [] given = None
fault_ahead (Breaks ∷ es) given = Some (fault.Overflow given)
fault_ahead (Meets t ∷ es) given = if nat_lt given goal_limit then (if t.fit then fault_ahead es (given + 1) else Some (fault.Overflow given)) else Some fault.GoalLimit

abbrev pub coming_of : List Event → ℕ → Coming
coming_of ahead given = record { given = given; goals = goals_ahead ahead given; fault = fault_ahead ahead given }

-- the goals of a core, as they come from the start
abbrev pub coming_on : Core → Coming
coming_on core = coming_of (events_of core) 0

-- what a call's next_goal says of what was coming
abbrev pub SaysOf : NextGoal → Coming → Type 0
SaysOf (Gives g rest) c =
    (c.goals ≡ g ∷ goals_ahead rest (c.given + 1)) × (c.fault ≡ fault_ahead rest (c.given + 1)) × (g.number ≡ c.given) × (g.number < 1000000)
SaysOf NoMore c = (c.goals ≡ []) × (c.fault ≡ None)
SaysOf Overflows c = (c.goals ≡ []) × (c.fault ≡ Some (fault.Overflow c.given))
SaysOf OverLimit c = (c.goals ≡ []) × (c.fault ≡ Some fault.GoalLimit)

-- so the calls of a stream give what is coming
abbrev pub AnswersCome : Type 0
AnswersCome = (ahead : List Event) (given : ℕ) → SaysOf (next_goal ahead given) (coming_of ahead given)

-- the goals that come are the first of the core's; all of them, where no fault comes
pub record ComeFirst (core : Core) : Type 0 where
  pub rest : List Goal
  pub are : goals core ≡ goals_ahead (events_of core) 0 ++ rest
  pub all : fault_ahead (events_of core) 0 ≡ None → rest ≡ []

abbrev pub GoalsComeFirst : Type 0
GoalsComeFirst = (core : Core) → ComeFirst core

-- the goals that come are numbered in order, and the rows of each are over the same unknowns and fit
abbrev pub ComingGoalsFit : Type 0
ComingGoalsFit = (core : Core) → AreGoals 0 (goals_ahead (events_of core) 0)

-- and so are those that come behind all that follows the first passed choices of a trace
abbrev pub GoalsBehindFit : Type 0
GoalsBehindFit = (core : Core) (passed given : ℕ) (trace : List Choice) → AreGoals given (goals_ahead (events_after core passed trace) given)
