-- What a stream's answers give is what is coming.
use Rattle.std.proofs.Common.{◌≡◌, ℕ, ◌+◌, ◌++◌, List, [], ◌∷◌, Bool, true, false, Option, Some, None, arith, refl}
use Rattle.std.specs.Prelude.{nat_lt, if◌then◌else◌}
use Rattle.std.proofs.lemmas.Bool.Decides.{nat_tests}
use Rattle.slice_paths.specs.Coming.{goals_ahead, fault_ahead, SaysOf, AnswersCome, GoalsComeFirst}
use Rattle.slice_paths.specs.Events.{Event, Meets, Breaks, Gives, Overflows, OverLimit, goal_at, goal_limit, events_of, Tell}
use Rattle.slice_paths.specs.Goals.{Goal, goals}
use Rattle.slice_paths.specs.declared.goal.GoalFault.{GoalFault}
use Rattle.slice_paths.specs.declared.goal.GoalFault.TheVariants as fault
use Rattle.slice_paths.proofs.Tells.{events_tell_goals}

pub answers_come : AnswersCome
answers_come [] given = (refl, refl)
answers_come (Breaks ∷ es) given = (refl, refl)
answers_come (Meets t ∷ es) given = by (nat_lt given goal_limit) t.fit refl
  where
    by : (x y : Bool) → nat_lt given goal_limit ≡ x
        → SaysOf (if x then (if y then Gives (goal_at given t) es else Overflows) else OverLimit)
        (record {
          given = given;
          goals = if x then (if y then goal_at given t ∷ goals_ahead es (given + 1) else []) else [];
          fault = if x then (if y then fault_ahead es (given + 1) else Some (fault.Overflow given)) else Some fault.GoalLimit;
        })
    by true true e = (refl, refl, refl, grind (arith, nat_tests))
    by true false e = (refl, refl)
    by false y e = (refl, refl)

-- the list begins with those, and there is no more where no fault comes
record Splits (gs first : List Goal) (f : Option GoalFault) : Type 0 where
  rest : List Goal
  are : gs ≡ first ++ rest
  all : f ≡ None → rest ≡ []

no_fault : {A : Type 0} (f : GoalFault) → Some f ≡ None → A
no_fault f e = absurd cc

firsts : (es : List Event) (given : ℕ) (gs : List Goal) → Tell es gs given → Splits gs (goals_ahead es given) (fault_ahead es given)
firsts [] given gs h = record { rest = []; are = h; all = λ e. refl }
firsts (Breaks ∷ es) given gs h = record { rest = gs; are = refl; all = λ e. no_fault (fault.Overflow given) e }
firsts (Meets t ∷ es) given [] h = absurd h
firsts (Meets t ∷ es) given (g ∷ gs) h = by (nat_lt given goal_limit) t.fit (firsts es (given + 1) gs h.1)
  where
    by : (x y : Bool) → Splits gs (goals_ahead es (given + 1)) (fault_ahead es (given + 1))
        → Splits (g ∷ gs) (if x then (if y then goal_at given t ∷ goals_ahead es (given + 1) else []) else [])
        (if x then (if y then fault_ahead es (given + 1) else Some (fault.Overflow given)) else Some fault.GoalLimit)
    by true true s = record { rest = s.rest; are = λ i. h.0 i ∷ s.are i; all = s.all }
    by true false s = record { rest = g ∷ gs; are = refl; all = λ e. no_fault (fault.Overflow given) e }
    by false y s = record { rest = g ∷ gs; are = refl; all = λ e. no_fault fault.GoalLimit e }

pub goals_come_first : GoalsComeFirst
goals_come_first core =
    let s = firsts (events_of core) 0 (goals core) (events_tell_goals core) in
    record { rest = s.rest; are = s.are; all = s.all }
