use Rattle.slice_ast.proofs.LayoutLemmas.{number-put}
use Rattle.slice_ast.proofs.page.PageTakesTokens.put_number.Goals as goal

pub returns : goal.returns
returns c =
    number-put c.args.self.now c.args.value c.ranges.value.fits c.self.inside.text.items c.push_gap.new.text.items c.push_decimal.new.text.items c.self.inside.last c.self.inside.depth
    c.self.view_is c.in_ok-push_gap.ensures c.in_ok-push_decimal.ensures
