use Rattle.slice_core.specs.Cores.{core_of}
use Rattle.slice_verify.specs.declared.verifier.VerifyFault.TheVariants.{Memory}
use Rattle.slice_verify.proofs.Passing.{passed_on}
use Rattle.slice_verify.proofs.Ends.{nothing_stops}
use Rattle.slice_verify.proofs.verifier.verify.Goals as goal

pub returns-in_err-goals-clause-fault : goal.returns-in_err-goals-clause-fault
returns-in_err-goals-clause-fault g c = passed_on c.from_residual.result _ Memory c.from_residual.ensures.1 (nothing_stops (core_of c.args.core.now) (g.K.Sink.told c.args.sink.now))
