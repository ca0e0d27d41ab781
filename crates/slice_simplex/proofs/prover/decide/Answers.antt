use Rattle.std.proofs.Common.{rules, IfErr}
use Rattle.slice_simplex.specs.ProverAnswer.{FaultMeans}
use Rattle.slice_simplex.proofs.Differ.{errors_show}
use Rattle.slice_simplex.proofs.prover.decide.Goals as goal

pub returns-in_err-pivots-clause-bases : goal.returns-in_err-pivots-clause-bases
returns-in_err-pivots-clause-bases c =
    let h : IfErr c.from_residual.result (λ e. FaultMeans c.args.rows.now c.args.limit e) = search rules in
    errors_show c.args.rows.now c.args.limit c.from_residual.result h

pub returns-clause-bases : goal.returns-clause-bases
returns-clause-bases c =
    let h : IfErr c.end.result (λ e. FaultMeans c.args.rows.now c.args.limit e) = search rules in
    errors_show c.args.rows.now c.args.limit c.end.result h
