use Rattle.std.proofs.Common.{◌≡◌, ◌∙◌, [], false, get_or, arith, sym, is_err}
use Rattle.std.proofs.lemmas.Grind.{common_steps}
use Rattle.slice_num.specs.Valuation.{cake}
use Rattle.slice_num.specs.Pieces.{piece_at}
use Rattle.slice_core.specs.Run.{cut_on}
use Rattle.slice_run.specs.Pieces.{cut_part}
use Rattle.slice_run.specs.Tables.{board_of}
use Rattle.slice_run.proofs.Boards.{cut_board-at}
use Rattle.slice_run.proofs.Walking.{on_ok, part_is}
use Rattle.slice_run.proofs.table.Table.cut_there.Goals as goal

pub returns-clause-ok : goal.returns-clause-ok
returns-clause-ok c =
    let p = c.args.piece in
    let y = c.args.answer.now in
    let piece = piece_at c.args.self.now.pieces p in
    let i = get_or piece y.part (cake 0) in
    let there = part_is piece y.part c.requires.lies.there in
    let passed : is_err c.cut.result ≡ false = sym c.is_err-2.ensures.value ∙ c.if-is_err-2.false in
    let pieces : c.cut.new.self ≡ cut_part c.args.self.now.pieces p y.part i y.point = on_ok c.cut.result _ passed (c.cut.ensures.ok i there) in
    let book : c.cut.new.book ≡ c.args.self.now.book = on_ok c.cut.result _ passed c.cut.ensures.book in
    let queries : c.push.new.self.items ≡ (cut_on c.args.agent p c.args.amount.now y [] [] (board_of c.args.self.now)).queries = grind (arith, common_steps, c.unwrap.ensures, c.push.ensures.items, c.reserve.ensures.items) in
    (λ j. record { pieces = pieces j; shares = (book j).shares; queries = queries j })
    ∙ sym (cut_board-at c.args.agent p c.args.amount.now y (board_of c.args.self.now) i there)

pub returns-clause-pieces : goal.returns-clause-pieces
returns-clause-pieces c =
    let passed : is_err c.cut.result ≡ false = sym c.is_err-2.ensures.value ∙ c.if-is_err-2.false in
    record { answer = c.args.answer.now; lies = c.requires.lies; is = λ i there. on_ok c.cut.result _ passed (c.cut.ensures.ok i there) }
