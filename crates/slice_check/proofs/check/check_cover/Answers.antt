use Rattle.std.proofs.Common.{◌≡◌, inl, sym, subst, ℕ, List, Some}
use Rattle.slice_core.specs.Cores.{core_of}
use Rattle.slice_check.specs.Steps.{stop_for}
use Rattle.slice_check.specs.Verdicts.{HaveOneWidth, IsVerdict}
use Rattle.slice_linear.specs.Rows.{LinearRow}
use Rattle.slice_check.proofs.Giving.{cover_has, cover_says, cover_width}
use Rattle.slice_check.proofs.Passing.{passed_on}
use Rattle.slice_check.proofs.check.check_cover.Goals as goal

pub judge-requires : goal.judge-requires
judge-requires c =
    let are = rw c.in-Ok-Some.field-0-is at (c.in-Ok-Some.ensures {u = tt}) in
    record { rows = subst HaveOneWidth (sym c.as_slice.ensures.value) (cover_width (core_of c.args.goals.now.core) c.args.passed c.args.goals.now.last c.in-Ok-Some.rows.items c.covers_are_fronts.ensures are) }

pub pass_over-requires-clause-has : goal.pass_over-requires-clause-has
pass_over-requires-clause-has c =
    let are = rw c.in-Ok-Some.field-0-is at (c.in-Ok-Some.ensures {u = tt}) in
    cover_has (core_of c.args.goals.now.core) c.args.passed c.args.goals.now.last c.in-Ok-Some.rows.items c.covers_are_fronts.ensures are

pub returns-in_err-judge-in-Ok-Some-clause-stop : goal.returns-in_err-judge-in-Ok-Some-clause-stop
returns-in_err-judge-in-Ok-Some-clause-stop c =
    let h = (c.in_err-judge-in-Ok-Some.ensures {u = tt}).stop in
    let are = rw c.in-Ok-Some.field-0-is at (c.in-Ok-Some.ensures {u = tt}) in
    let told = subst (λ (n : ℕ). stop_for n h.0 ≡ Some c.in_err-judge-in-Ok-Some.field-0.0) c.number-in-Ok-Some.ensures h.1 in
    let verdict = subst (λ (rows : List LinearRow). IsVerdict rows c.args.multipliers.now h.0) c.as_slice.ensures.value h.2 in
    let says = cover_says c.args.goals.now c.args.goal.now c.args.passed c.in-Ok-Some.rows.items c.args.multipliers.now h.0 c.requires.last are verdict in
    passed_on c.from_residual.result _ c.in_err-judge-in-Ok-Some.field-0.0 c.from_residual.ensures.1 (inl (h.0, told, says))
