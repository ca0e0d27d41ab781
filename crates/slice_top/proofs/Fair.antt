-- Where each goal of a program's core is refuted, every run of the program is fair.
use Rattle.std.proofs.Common.{◌≡◌, ◌∙◌, ℕ, ◌++◌, List, [], length, refl, ap, sym, subst}
use Rattle.std.specs.List.{All}
use Rattle.slice_num.specs.Valuation.{Valuation, IsValuationList}
use Rattle.slice_num.specs.declared.cut_answer.CutAnswer.{CutAnswer}
use Rattle.slice_ast.specs.Code.{PlainProgram}
use Rattle.slice_parse.specs.Laws.{IsProgramOf}
use Rattle.slice_core.specs.Agents.{IsAgent}
use Rattle.slice_core.specs.Division.{IsDivision, IsFair}
use Rattle.slice_core.specs.Measures.{worth_of, length_of}
use Rattle.slice_core.specs.Run.{Ending}
use Rattle.slice_core.specs.Run as core
use Rattle.slice_core.specs.Tree.{Core}
use Rattle.slice_core.specs.WellFormed.{IsWellFormed}
use Rattle.slice_core.proofs.Kept.{runs_divide}
use Rattle.slice_core.proofs.MeasureLaws.{share_values_are_measures}
use Rattle.slice_paths.specs.Goals.{goals}
use Rattle.slice_paths.specs.RunLaws.{IsRefuted}
use Rattle.slice_paths.proofs.OnTheWay.{refuted_on_the_way}
use Rattle.slice_expand.specs.Expansion.{core_of}
use Rattle.slice_expand.specs.Kept.{without_trace}
use Rattle.slice_expand.specs.ProgramRun.{Few}
use Rattle.slice_run.specs.RunLaws.{run_on as core_run_on}
use Rattle.slice_run.proofs.Follows.{IsOver}
use Rattle.slice_top.specs.Cores.{IsCoreOf}
use Rattle.slice_top.specs.Headline.{IsFairEnd, IsDoneEnd, EveryRunIsFair, run_on}
use Rattle.slice_top.proofs.GoingOn.{CanEnd, core_goes_on, IsUnrefused, core_unrefused}
use Rattle.slice_top.proofs.CoreRuns.{core_formed, kept}

-- a core's run that is fair and divides the cake ends the program's run so
fair_end : (vs : List Valuation) (n l : ℕ) (e : Ending) → length vs ≡ n → IsFair n (worth_of vs) e → IsDivision l e → IsFairEnd vs (without_trace e)
fair_end vs n l (core.Done s) q fair division =
    (division.0, λ a b p r envies. fair a b (subst (λ m. IsAgent m a) q p) (subst (λ m. IsAgent m b) q r) envies)
fair_end vs n l (core.Stuck at s) q fair division = fair
fair_end vs n l (core.Few query) q fair division = tt
fair_end vs n l (core.Bad query) q fair division = tt
fair_end vs n l core.Many q fair division = tt

-- a run that is over and fair is done
done_end : (n : ℕ) (vs : List Valuation) (e : Ending) → IsOver e → IsFair n (worth_of vs) e → IsDoneEnd (without_trace e)
done_end n vs (core.Done s) over fair = tt
done_end n vs (core.Stuck at s) over fair = absurd fair
done_end n vs (core.Few query) over fair = absurd over
done_end n vs (core.Bad query) over fair = absurd over
done_end n vs core.Many over fair = absurd over

-- a core's run that wants an answer can be brought to its end
few_ends : (e : Ending) (goes : List CutAnswer → Ending) (query : ℕ) → without_trace e ≡ Few query → CanEnd e goes → (more : List CutAnswer) × IsOver (goes more)
few_ends (core.Done s) goes query few can = cc
few_ends (core.Stuck at s) goes query few can = cc
few_ends (core.Few other) goes query few can = can
few_ends (core.Bad other) goes query few can = cc
few_ends core.Many goes query few can = cc

module _ (p : PlainProgram) (formed : IsWellFormed (core_of p)) (none : All (IsRefuted (core_of p)) (goals (core_of p))) where
  is_fair : (vs : List Valuation) → IsValuationList p.agents.value vs → (ys : List CutAnswer) → IsFair (core_of p).agents (worth_of vs) (core_run_on vs (core_of p) ys)
  is_fair vs list ys = refuted_on_the_way (core_of p) formed.agents_there none (worth_of vs) (length_of vs) ys (share_values_are_measures (core_of p).agents vs list)

  every_run : (vs : List Valuation) → IsValuationList p.agents.value vs → (ys : List CutAnswer) → IsFairEnd vs (run_on vs p ys)
  every_run vs list ys =
      subst (IsFairEnd vs) (kept vs p ys)
      (fair_end vs (core_of p).agents (length_of vs) (core_run_on vs (core_of p) ys) list.one_each (is_fair vs list ys) (runs_divide (worth_of vs) (core_of p) (length_of vs) ys formed.agents_there))

  run_goes_on : (vs : List Valuation) → IsValuationList p.agents.value vs → (ys : List CutAnswer) (query : ℕ) → run_on vs p ys ≡ Few query → (more : List CutAnswer) × IsDoneEnd (run_on vs p (ys ++ more))
  run_goes_on vs list ys query few =
      let core_run = λ (zs : List CutAnswer). core_run_on vs (core_of p) zs in
      let m = few_ends (core_run ys) (λ more. core_run (ys ++ more)) query (kept vs p ys ∙ few) (core_goes_on vs (core_of p) formed list ys) in
      let zs = ys ++ m.0 in
      (m.0, subst IsDoneEnd (kept vs p zs) (done_end (core_of p).agents vs (core_run zs) m.1 (is_fair vs list zs)))

  -- the run that goes on from no answers
  some_run : (vs : List Valuation) → IsValuationList p.agents.value vs → (ys : List CutAnswer) × IsDoneEnd (run_on vs p ys)
  some_run vs list = by (core_run_on vs (core_of p) []) refl (core_unrefused vs (core_of p))
    where
      by : (e : Ending) → core_run_on vs (core_of p) [] ≡ e → IsUnrefused e → (ys : List CutAnswer) × IsDoneEnd (run_on vs p ys)
      by (core.Done s) q h = ([], subst IsDoneEnd (ap without_trace (sym q) ∙ kept vs p []) tt)
      by (core.Stuck at s) q h = absurd (subst (IsFairEnd vs) (sym (kept vs p []) ∙ ap without_trace q) (every_run vs list []))
      by (core.Few query) q h = run_goes_on vs list [] query (sym (kept vs p []) ∙ ap without_trace q)
      by (core.Bad query) q h = absurd h
      by core.Many q h = absurd h

  pub every_fair : EveryRunIsFair p
  every_fair = record { fair = every_run; some = some_run; on = run_goes_on }

-- where each goal of its core is refuted, by its own rows or by those after a front of its choices
pub refuted_program_fair : (text : List ℕ) (p : PlainProgram) (c : Core) → IsProgramOf text p → IsCoreOf p c → All (IsRefuted c) (goals c) → EveryRunIsFair p
refuted_program_fair text p c is made refuted =
    every_fair p (core_formed text p c is made) (subst (λ (c : Core). All (IsRefuted c) (goals c)) made.same refuted)
