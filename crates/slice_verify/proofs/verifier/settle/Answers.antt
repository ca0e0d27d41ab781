use Rattle.std.proofs.Common.{◌≡◌, ◌∙◌, ℕ, ap, subst, sym, arith}
use Rattle.slice_io.specs.Told.{appended}
use Rattle.slice_core.specs.Cores.{core_of}
use Rattle.slice_cert.specs.CertLines.{line_text}
use Rattle.slice_cert.specs.declared.line.Line.{Line}
use Rattle.slice_cert.specs.ShortForms.{short_line}
use Rattle.slice_check.specs.Upgrading.{HasPassed, ReadsBack}
use Rattle.slice_check.proofs.RowCount.{few_rows}
use Rattle.slice_verify.specs.Working.{IsPassed, PassStops, goal_line}
use Rattle.slice_verify.proofs.Passing.{err_map, on_map_three}
use Rattle.slice_verify.proofs.Settling.{pass_stops}
use Rattle.slice_verify.proofs.Takes.{has_passed, last_is_goal}
use Rattle.slice_verify.proofs.verifier.settle.Goals as goal

pub short_line-line-requires : goal.short_line-line-requires
short_line-line-requires g c =
    let long = c.requires.refuted.refutes.same_length in
    let few = few_rows (core_of c.args.core.now) c.args.goal.now c.args.core.now.formed (last_is_goal (core_of c.args.core.now) c.args.goals.now c.args.goal.now (ap core_of c.requires.core) c.requires.last) in
    record { few = omega (arith, long, few) }

pub pass_over-requires-clause-has : goal.pass_over-requires-clause-has
pass_over-requires-clause-has g c =
    let core = core_of c.args.core.now in
    let ms = c.args.multipliers.items in
    let is : c.short_line-line.result ≡ goal_line core c.args.goal.now ms =
    c.short_line-line.ensures.line ∙ ap (λ (n : ℕ). short_line n c.number.result ms) c.agents.ensures.value ∙ ap (λ (n : ℕ). short_line core.agents n ms) c.number.ensures in
    subst (HasPassed c.args.goals.now) (sym is) (has_passed c.covers_are_fronts.ensures c.goals_have_covers.ensures core c.args.goals.now c.args.goal.now ms (ap core_of c.requires.core) c.requires.last c.requires.refuted.refutes)

pub returns-clause-decided : goal.returns-clause-decided
returns-clause-decided g c =
    let core = core_of c.args.core.now in
    let ms = c.args.multipliers.items in
    let is : c.short_line-line.result ≡ goal_line core c.args.goal.now ms =
    c.short_line-line.ensures.line ∙ ap (λ (n : ℕ). short_line n c.number.result ms) c.agents.ensures.value ∙ ap (λ (n : ℕ). short_line core.agents n ms) c.number.ensures in
    let put = c.in_ok-put_line.ensures {u = tt} in
    on_map_three c.pass_over.result _ _ _ _ c.pass_over.ensures.passed c.pass_over.ensures.rest c.pass_over.ensures.few (λ p r f. record {
      multipliers = ms;
      out = (c.requires.refuted, put.out ∙ ap (λ (l : Line). appended (g.K.Sink.told c.args.sink.now) (line_text l)) is);
      reads = subst ReadsBack is put.line;
      passed = subst (λ (l : Line). IsPassed c.args.goals.now l c.pass_over.new.goals) is p;
      rest = r;
      few = f c.requires.goes.few;
      same_core = c.pass_over.ensures.core;
    })

pub returns-clause-stops : goal.returns-clause-stops
returns-clause-stops g c =
    let core = core_of c.args.core.now in
    let ms = c.args.multipliers.items in
    let is : c.short_line-line.result ≡ goal_line core c.args.goal.now ms =
    c.short_line-line.ensures.line ∙ ap (λ (n : ℕ). short_line n c.number.result ms) c.agents.ensures.value ∙ ap (λ (n : ℕ). short_line core.agents n ms) c.number.ensures in
    let put = c.in_ok-put_line.ensures {u = tt} in
    err_map c.pass_over.result _ _ c.pass_over.ensures.stops (λ e h.
    pass_stops core c.args.goal.now c.args.goals.now ms (g.K.Sink.told c.args.sink.now) (g.K.Sink.told c.put_line.new.sink) e
    (c.requires.refuted, put.out ∙ ap (λ (l : Line). appended (g.K.Sink.told c.args.sink.now) (line_text l)) is)
    (subst (λ (l : Line). PassStops c.args.goals.now l e) is h))
