-- `print`, `check`, `paths`, `run` and `replay` come to the end of their work.
use Rattle.std.proofs.Common.{◌≡◌, ◌∙◌, ℕ, ◌+◌, List, [], ◌∷◌, ◌++◌, length, Bool, true, false, Some, None, refl, sym, ap, subst, arith, append_assoc, append-nil}
use Rattle.std.specs.Prelude.{nat_lt, if◌then◌else◌}
use Rattle.slice_json.specs.Texts.{line_of}
use Rattle.slice_ast.specs.Layout.{canonical_text}
use Rattle.slice_parse.specs.Laws.{ReadProgramsAreUnique}
use Rattle.slice_expand.specs.ProgramRun.{ProgramEnd}
use Rattle.slice_core.specs.Tree.{Core}
use Rattle.slice_paths.specs.Coming.{goals_ahead, fault_ahead}
use Rattle.slice_paths.specs.Events.{Event, Meets, Breaks, events_of, goal_at, goal_limit}
use Rattle.slice_paths.specs.Goals.{Goal, goals}
use Rattle.slice_paths.specs.declared.goal.GoalFault.TheVariants as goal_fault
use Rattle.slice_paths.proofs.ComingLaws.{goals_come_first}
use Rattle.slice_run.specs.Walk.{Told, Walked, Good, Refused, InRange, outcome, Least, Given}
use Rattle.slice_run.specs.declared.outcome.RunFault.{RunFault}
use Rattle.slice_run.specs.declared.outcome.RunFault.TheVariants as fault
use Rattle.slice_report.specs.CoreReport.{core_json}
use Rattle.slice_report.specs.GoalReport.{count_json, goal_json}
use Rattle.slice_report.specs.RunReport.{told_json}
use Rattle.slice_report.specs.declared.refusal.Refusal.TheVariants.{FormOverflow, GoalLimit}
use Rattle.slice_top.specs.Answers.{answer_of, one_line, after_line, goes, goals_answer, refused, IsCheckAnswer, IsPathsAnswer, IsRunAnswer, IsReplayAnswer}
use Rattle.slice_top.specs.Commands.{check, print, paths, run, replay}
use Rattle.slice_laws.specs.Completeness.{CanBeMade, goal_lines, MakeARun, PrintGivesTheText, CheckGivesTheCounts, PathsGivesTheGoals, RunTellsARunInRange, ReplayTellsARunInRange}
use Rattle.slice_top.specs.Headline.{run_on}
use Rattle.slice_laws.specs.Laws.{IsRefusedSo}
use Rattle.slice_top.specs.Runs.{told_status}
use Rattle.slice_top.specs.declared.status.Status.TheVariants as status
use Rattle.slice_laws.proofs.Onward.{onward}
use Rattle.slice_laws.proofs.ToldRuns.{run_tells, run_stops, replay_tells, replay_refuses}
use Rattle.slice_laws.proofs.UniqueAnswers.{answer_unique}

pub print_gives_the_text : ReadProgramsAreUnique → PrintGivesTheText
print_gives_the_text once files f p a h answer =
    answer_unique once files (Some (print f)) a (answer_of (canonical_text p) status.Good) answer (goes h.text h.file (goes p h.spelled refl))

pub check_gives_the_counts : ReadProgramsAreUnique → CheckGivesTheCounts
check_gives_the_counts once files f p core a h answer = onward once files (check f) f p core IsCheckAnswer (λ x w. w) h a (one_line (core_json core) status.Good) answer refl

-- ---- goals

-- where none is refused, all that are ahead are written
all_written : (es : List Event) (given : ℕ) → fault_ahead es given ≡ None
    → goals_answer es given ≡ answer_of (goal_lines (goals_ahead es given) ++ line_of (count_json (given + length (goals_ahead es given)))) status.Good
all_written [] given e = let same : given + 0 ≡ given = omega arith in ap (λ n. one_line (count_json n) status.Good) (sym same)
all_written (Breaks ∷ es) given e = absurd (let bad : Some (goal_fault.Overflow given) ≡ None = e in cc)
all_written (Meets t ∷ es) given e = by (nat_lt given goal_limit) t.fit (all_written es (given + 1)) e
  where
    rest : List Goal
    rest = goals_ahead es (given + 1)

    made : Bool → Bool → List Goal
    made x y = if x then (if y then goal_at given t ∷ rest else []) else []

    by : (x y : Bool) → (fault_ahead es (given + 1) ≡ None → goals_answer es (given + 1) ≡ answer_of (goal_lines rest ++ line_of (count_json ((given + 1) + length rest))) status.Good)
        → (if x then (if y then fault_ahead es (given + 1) else Some (goal_fault.Overflow given)) else Some goal_fault.GoalLimit) ≡ None
        → (if x then (if y then after_line (goal_json (goal_at given t)) (goals_answer es (given + 1)) else refused (FormOverflow given)) else refused GoalLimit) ≡ answer_of (goal_lines (made x y) ++ line_of (count_json (given + length (made x y)))) status.Good
    by true true later e =
        let line : List ℕ = line_of (goal_json (goal_at given t)) in
        let count : (given + 1) + length rest ≡ given + length (goal_at given t ∷ rest) = omega arith in
        ap (after_line (goal_json (goal_at given t))) (later e)
        ∙ ap (λ text. answer_of text status.Good)
        (ap (λ n. line ++ (goal_lines rest ++ line_of (count_json n))) count ∙ sym (append_assoc line (goal_lines rest) (line_of (count_json (given + length (goal_at given t ∷ rest))))))
    by true false later e = absurd (let bad : Some (goal_fault.Overflow given) ≡ None = e in cc)
    by false y later e = absurd (let bad : Some goal_fault.GoalLimit ≡ None = e in cc)

-- those that are given are all
pub all_goals : (core : Core) → CanBeMade core → goals core ≡ goals_ahead (events_of core) 0
all_goals core none =
    let first = goals_come_first core in
    first.are ∙ ap (λ gs. goals_ahead (events_of core) 0 ++ gs) (first.all none) ∙ append-nil (goals_ahead (events_of core) 0)

pub paths_gives_the_goals : ReadProgramsAreUnique → PathsGivesTheGoals
paths_gives_the_goals once files f p core a h none answer =
    let gs = goals_ahead (events_of core) 0 in
    let count : 0 + length gs ≡ length gs = omega arith in
    onward once files (paths f) f p core IsPathsAnswer (λ x w. w) h a (goals_answer (events_of core) 0) answer refl
    ∙ all_written (events_of core) 0 none
    ∙ ap (λ n. answer_of (goal_lines gs ++ line_of (count_json n)) status.Good) count
    ∙ ap (λ xs. answer_of (goal_lines xs ++ line_of (count_json (length xs))) status.Good) (sym (all_goals core none))

-- ---- runs

not_in_range : (w : Walked Told) (query : ℕ) → w ≡ Refused (fault.Overflow query) → InRange w → ⊥
not_in_range w query e r = subst InRange e r

least_good : (w : Walked Told) → InRange w → ((f : RunFault) → w ≡ Refused f → (query : ℕ) × (f ≡ fault.Overflow query)) → (t : Told) × (w ≡ Good t)
least_good (Good t) r stops = (t, refl)
least_good (Refused f) r stops = let s = stops f refl in absurd (not_in_range (Refused f) s.0 (ap Refused s.1) r)

pub run_tells_a_run_in_range : ReadProgramsAreUnique → RunTellsARunInRange
run_tells_a_run_in_range once files f v bytes p core vs a h file said range answer =
    let good = least_good (outcome vs core Least) range (λ x e. run_stops h.text bytes p core vs x h.spelled h.made said e) in
    let t = good.0 in (
      t,
      (
        run_tells h.text bytes p core vs t h.spelled h.made said good.1,
        onward once files (run f v) f p core (IsRunAnswer (Some files) v) (λ x w. w) h a (one_line (told_json t) (told_status t)) answer (goes bytes file (goes vs said (goes t good.1 refl))),
      ),
    )

-- a run that is made is refused for no answer
no_refusal : (f : RunFault) (e : ProgramEnd) → MakeARun e → IsRefusedSo f e → (query : ℕ) × (f ≡ fault.Overflow query)
no_refusal (fault.Overflow query) e m h = (query, refl)
no_refusal (fault.BadAnswer query) e m h = absurd (subst MakeARun h m)
no_refusal (fault.TooFewAnswers query) e m h = absurd (subst MakeARun h m)
no_refusal fault.TooManyAnswers e m h = absurd (subst MakeARun h m)
no_refusal fault.Memory e m h = absurd h

pub replay_tells_a_run_in_range : ReadProgramsAreUnique → ReplayTellsARunInRange
replay_tells_a_run_in_range once files f v bytes p core vs ys a h file said made range answer =
    let good = least_good (outcome vs core (Given ys)) range (λ x e. no_refusal x (run_on vs p ys) made (replay_refuses h.text bytes p core vs ys x h.spelled h.made said e)) in
    let t = good.0 in (
      t,
      (
        replay_tells h.text bytes p core vs ys t h.spelled h.made said good.1,
        onward once files (replay f v) f p core (IsReplayAnswer (Some files) v) (λ x w. w) h a (one_line (told_json t) (told_status t)) answer (goes bytes file (goes (vs, ys) said (goes t good.1 refl))),
      ),
    )
