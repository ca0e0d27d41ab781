-- What the next goal of a stream is.
use Rattle.std.proofs.Common.{◌≡◌, ℕ, ◌+◌, arith, sym, subst, ◌∷◌, Option, Some, None}
use Rattle.std.specs.Prelude.{Result, Ok, Err, IfOk, MatchOption, ⊤, is_some, if◌then◌else◌}
use Rattle.slice_paths.specs.Coming.{AnswersCome, AreGoals, SaysOf, coming_of, goals_ahead}
use Rattle.slice_paths.specs.Events.{NextGoal, Gives, next_goal}
use Rattle.slice_paths.specs.Goals.{Goal}
use Rattle.slice_paths.specs.Streams.{Stream, TellsRest, IsGivenLast}
use Rattle.slice_paths.specs.Told.{IsNextGoal}
use Rattle.slice_paths.specs.declared.goal.GoalFault.{GoalFault}
use Rattle.slice_verify.specs.Working.{GoesOn, IsNextOf, NoneComes}

next_of : (s t : Stream) (g : Goal) → AnswersCome → GoesOn s → next_goal s.ahead s.given ≡ Gives g t.ahead → t.given ≡ s.given + 1 → t.core ≡ s.core → TellsRest t → IsGivenLast t g → IsNextOf s g t
next_of s t g answers goes e given same rest last =
    let says = subst (λ (x : NextGoal). SaysOf x (coming_of s.ahead s.given)) e (answers s.ahead s.given) in
    let fit : AreGoals s.given (g ∷ goals_ahead t.ahead (s.given + 1)) = subst (AreGoals s.given) says.0 goes.fit in
    let few = fit.1 in
    record {
      comes = e;
      number = says.2;
      last = last;
      rows = fit.2;
      goes = record { rest = rest; few = omega (arith, given, few); fit = subst (λ (k : ℕ). AreGoals k (goals_ahead t.ahead k)) (sym given) fit.3 };
      same_core = same;
    }

pub next_is : (s t : Stream) (r : Result (Option Goal) GoalFault) → AnswersCome → GoesOn s → IfOk r (λ o. IsNextGoal o t.ahead (next_goal s.ahead s.given)) → IfOk r (λ o. t.given ≡ s.given + (if is_some o then 1 else 0)) → t.core ≡ s.core
    → IfOk r (λ o. TellsRest t × MatchOption o ⊤ (λ g. IsGivenLast t g)) → IfOk r (λ o. MatchOption o (NoneComes s t) (λ g. IsNextOf s g t))
next_is s t (Err e) answers goes ok given same rest = tt
next_is s t (Ok None) answers goes ok given same rest = (ok, omega (arith, given))
next_is s t (Ok (Some g)) answers goes ok given same rest = next_of s t g answers goes ok given same rest.0 rest.1
