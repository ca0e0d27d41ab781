use Rattle.std.proofs.Common.{subst, sym}
use Rattle.slice_ast.specs.View.{program_of}
use Rattle.slice_top.specs.Cores.{RefusesRules}
use Rattle.slice_top.specs.Stops.{StopsFor}
use Rattle.slice_top.proofs.Faults.{stops_rules}
use Rattle.slice_top.proofs.cores.check_program.Goals as goal

pub returns-in-Err-clause-err : goal.returns-in-Err-clause-err
returns-in-Err-clause-err c =
    let p = program_of c.args.program in
    subst (StopsFor (RefusesRules p)) (sym c.rule_stop.ensures) (stops_rules p c.in-Err.fault c.in-Err.ensures.first c.in-Err.ensures.named)
