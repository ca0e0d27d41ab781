use Rattle.slice_ast.specs.View.{program_of}
use Rattle.slice_ast.proofs.LayoutLemmas.{printed}
use Rattle.slice_ast.proofs.page.print.Goals as goal

pub returns : goal.returns
returns c =
    printed (program_of c.args.program.now) c.new.result.items c.page.inside.text.items c.extend_from_slice.new.self.items c.write.new.out c.page.inside.last c.page.inside.depth
    c.new.ensures.items c.page.view_is c.in_ok-write.ensures c.in_ok-extend_from_slice.ensures.items
