use Rattle.slice_ast.specs.View.{program_of}
use Rattle.slice_affine.proofs.CountLemmas.{counts_kept}
use Rattle.slice_affine.proofs.kept.Checked.program.Goals as goal

pub returns-clause-counts : goal.returns-clause-counts
returns-clause-counts c = counts_kept (program_of c.args.self.now.program) c.args.self.now.meets
