use Rattle.slice_ast.specs.View.{program_of}
use Rattle.slice_affine.proofs.CheckLemmas.{meets_rules, first_fault}
use Rattle.slice_affine.proofs.UniqueLemmas.{tells_name}
use Rattle.slice_affine.proofs.program.check.Goals as goal

pub invariant_of-result : goal.invariant_of-result
invariant_of-result c = record { parsed = c.requires; meets = meets_rules (program_of c.args.program) c.requires c.in-Ok.ensures }

pub returns-in-Err-clause-first : goal.returns-in-Err-clause-first
returns-in-Err-clause-first c = λ h. first_fault (program_of c.args.program) c.in-Err.fault c.requires (c.in-Err.ensures h)

pub returns-in-Err-clause-named : goal.returns-in-Err-clause-named
returns-in-Err-clause-named c = tells_name (program_of c.args.program) c.in-Err.fault c.requires c.in-Err.ensures
