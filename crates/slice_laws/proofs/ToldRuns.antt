-- What is told of a core's run is told of the program's.
use Rattle.std.proofs.Common.{◌≡◌, ℕ, ◌<◌, List, [], ◌∷◌, ◌++◌, take, ap, sym, subst, refl}
use Rattle.slice_num.specs.Pieces.{joined}
use Rattle.slice_num.specs.Valuation.{Valuation, IsValuationList}
use Rattle.slice_num.specs.declared.cut_answer.CutAnswer.{CutAnswer}
use Rattle.slice_ast.specs.Code.{PlainProgram}
use Rattle.slice_parse.specs.Laws.{IsProgramOf}
use Rattle.slice_core.specs.Division.{AreDisjoint, MakeUpCake, IsDivision}
use Rattle.slice_core.specs.Measures.{worth_of, length_of}
use Rattle.slice_core.specs.Run.{Piece, Ending}
use Rattle.slice_core.specs.Run as core
use Rattle.slice_core.specs.Tree.{Core}
use Rattle.slice_core.specs.WellFormed.{IsWellFormed}
use Rattle.slice_core.proofs.Kept.{runs_divide}
use Rattle.slice_expand.specs.Expansion.{core_of}
use Rattle.slice_expand.specs.Kept.{without_trace}
use Rattle.slice_expand.specs.ProgramRun.{ProgramEnd}
use Rattle.slice_step.specs.ValuationFile.{IsValuationFile, IsReplayFile}
use Rattle.slice_run.specs.Outcomes.{Divides}
use Rattle.slice_run.specs.RunLaws.{Tells, TellsValues, IsBad, IsTold, IsLeastTold, run_on as core_run_on}
use Rattle.slice_run.specs.Walk.{Told, Divided, Halted, Refused, outcome, Least, Given}
use Rattle.slice_run.specs.declared.outcome.RunFault.{RunFault}
use Rattle.slice_run.specs.declared.outcome.RunFault.TheVariants as fault
use Rattle.slice_run.proofs.GivenRun.{given_walks}
use Rattle.slice_run.proofs.LeastRun.{least_walks}
use Rattle.slice_report.proofs.TellsEnvy.{tells_envy}
use Rattle.slice_top.specs.Cores.{IsCoreOf}
use Rattle.slice_top.proofs.CoreRuns.{core_formed, kept}
use Rattle.slice_laws.specs.Laws.{TellsEnd, IsToldOf, IsBadEnd, IsRefusedSo, RunTellsTheLeastRun, RunStopsAtNumbers, ReplayTellsTheRun, ReplayRefusesTheRun}

-- ---- the trace aside

tells_end : (e : Ending) (t : Told) → Tells e t → TellsEnd (without_trace e) t
tells_end (core.Done s) (Divided queries shares left values) h = h
tells_end (core.Done s) (Halted queries query at) h = absurd h
tells_end (core.Stuck side s) (Divided queries shares left values) h = absurd h
tells_end (core.Stuck side s) (Halted queries query at) h = h
tells_end (core.Few query) t h = absurd h
tells_end (core.Bad query) t h = absurd h
tells_end core.Many t h = absurd h

bad_end : (e : Ending) → IsBad e → IsBadEnd (without_trace e)
bad_end (core.Done s) h = absurd h
bad_end (core.Stuck side s) h = absurd h
bad_end (core.Few query) h = absurd h
bad_end (core.Bad query) h = tt
bad_end core.Many h = absurd h

divides_told : (l : ℕ) (e : Ending) (t : Told) → IsDivision l e → Tells e t → Divides l t
divides_told l (core.Done s) (Divided queries shares left values) d h =
    let pieces = joined s.board.pieces in
    let one = subst (λ (x : List Piece). AreDisjoint x pieces × MakeUpCake l x pieces) h.1 d in
    subst (λ (x : Piece). AreDisjoint shares x × MakeUpCake l shares x) h.2 one
divides_told l (core.Done s) (Halted queries query at) d h = absurd h
divides_told l (core.Stuck side s) (Divided queries shares left values) d h = absurd h
divides_told l (core.Stuck side s) (Halted queries query at) d h = tt
divides_told l (core.Few query) t d h = absurd h
divides_told l (core.Bad query) t d h = absurd h
divides_told l core.Many t d h = absurd h

refused_end : (f : RunFault) (vs : List Valuation) (e : Ending) → IsTold vs e (Refused f) → IsRefusedSo f (without_trace e)
refused_end (fault.Overflow query) vs e h = tt
refused_end (fault.BadAnswer query) vs e h = ap without_trace h
refused_end (fault.TooFewAnswers query) vs e h = ap without_trace h
refused_end fault.TooManyAnswers vs e h = ap without_trace h
refused_end fault.Memory vs e h = absurd h

least_stop : (f : RunFault) (vs : List Valuation) (ending : List CutAnswer → Ending) → IsLeastTold vs ending (Refused f) → (query : ℕ) × (f ≡ fault.Overflow query)
least_stop (fault.Overflow query) vs ending h = (query, refl)
least_stop (fault.BadAnswer query) vs ending h = absurd h
least_stop (fault.TooFewAnswers query) vs ending h = absurd h
least_stop fault.TooManyAnswers vs ending h = absurd h
least_stop fault.Memory vs ending h = absurd h

told_run : (vs : List Valuation) (p : PlainProgram) (ys : List CutAnswer) (t : Told) → IsWellFormed (core_of p) → Tells (core_run_on vs (core_of p) ys) t → TellsValues vs t → IsToldOf vs p ys t
told_run vs p ys t formed tells values = record {
  ends = subst (λ (e : ProgramEnd). TellsEnd e t) (kept vs p ys) (tells_end (core_run_on vs (core_of p) ys) t tells);
  values = values;
  envy = tells_envy vs t values;
  division = divides_told (length_of vs) (core_run_on vs (core_of p) ys) t (runs_divide (worth_of vs) (core_of p) (length_of vs) ys formed.agents_there) tells;
}

-- the valuations that are read are one for each agent
agents_same : (p : PlainProgram) (core : Core) → IsCoreOf p core → core.agents ≡ (core_of p).agents
agents_same p core made = ap (λ (c : Core). c.agents) made.same

values_list : (bytes : List ℕ) (p : PlainProgram) (core : Core) (vs : List Valuation) → IsCoreOf p core → IsValuationFile bytes core.agents vs → IsValuationList (core_of p).agents vs
values_list bytes p core vs made said = subst (λ n. IsValuationList n vs) (agents_same p core made) said.hold.list

replay_list : (bytes : List ℕ) (p : PlainProgram) (core : Core) (vs : List Valuation) (ys : List CutAnswer) → IsCoreOf p core → IsReplayFile bytes core.agents vs ys → IsValuationList (core_of p).agents vs
replay_list bytes p core vs ys made said = subst (λ n. IsValuationList n vs) (agents_same p core made) said.hold.list

-- there is an agent
pub some_agent : (text : List ℕ) (p : PlainProgram) (core : Core) → IsProgramOf text p → IsCoreOf p core → 0 < core.agents
some_agent text p core is made = rw (agents_same p core made) (core_formed text p core is made).some_agent

-- what the walks of its core say
pub least_said : (text bytes : List ℕ) (p : PlainProgram) (core : Core) (vs : List Valuation) → IsProgramOf text p → IsCoreOf p core → IsValuationFile bytes core.agents vs
    → IsLeastTold vs (core_run_on vs (core_of p)) (outcome vs core Least)
least_said text bytes p core vs is made said =
    subst (λ (c : Core). IsLeastTold vs (core_run_on vs (core_of p)) (outcome vs c Least)) (sym made.same)
    (least_walks vs (core_of p) (core_formed text p core is made) (values_list bytes p core vs made said))

pub given_said : (text bytes : List ℕ) (p : PlainProgram) (core : Core) (vs : List Valuation) (ys : List CutAnswer) → IsProgramOf text p → IsCoreOf p core → IsReplayFile bytes core.agents vs ys
    → IsTold vs (core_run_on vs (core_of p) ys) (outcome vs core (Given ys))
given_said text bytes p core vs ys is made said =
    subst (λ (c : Core). IsTold vs (core_run_on vs (core_of p) ys) (outcome vs c (Given ys))) (sym made.same)
    (given_walks vs (core_of p) ys (core_formed text p core is made) (replay_list bytes p core vs ys made said))

-- ---- the laws

pub run_tells : RunTellsTheLeastRun
run_tells text bytes p core vs t is made said good =
    let formed = core_formed text p core is made in
    let h = subst (IsLeastTold vs (core_run_on vs (core_of p))) good (least_said text bytes p core vs is made said) in
    let run = h.0 in
    record {
      answers = run.answers;
      told = told_run vs p run.answers t formed run.told h.1;
      least = λ k y z e q. subst IsBadEnd (kept vs p (take k run.answers ++ z ∷ [])) (bad_end (core_run_on vs (core_of p) (take k run.answers ++ z ∷ [])) (run.least k y z e q));
    }

pub run_stops : RunStopsAtNumbers
run_stops text bytes p core vs f is made said stopped =
    least_stop f vs (core_run_on vs (core_of p)) (subst (IsLeastTold vs (core_run_on vs (core_of p))) stopped (least_said text bytes p core vs is made said))

pub replay_tells : ReplayTellsTheRun
replay_tells text bytes p core vs ys t is made said good =
    let h = subst (IsTold vs (core_run_on vs (core_of p) ys)) good (given_said text bytes p core vs ys is made said) in
    told_run vs p ys t (core_formed text p core is made) h.0 h.1

pub replay_refuses : ReplayRefusesTheRun
replay_refuses text bytes p core vs ys f is made said stopped =
    let e = core_run_on vs (core_of p) ys in
    let h = subst (IsTold vs e) stopped (given_said text bytes p core vs ys is made said) in
    subst (IsRefusedSo f) (kept vs p ys) (refused_end f vs e h)
