use Rattle.std.proofs.Common.{◌≡◌, ◌∙◌, arith, length, to_z-of_z}
use Rattle.slice_tableau.proofs.SparseLaws.{ends, wider}
use Rattle.slice_tableau.proofs.DenseLaws.{seen, wide, written}
use Rattle.slice_tableau.proofs.row.SparseRow.put.Goals as goal

pub put-requires-clause-before : goal.put-requires-clause-before
put-requires-clause-before c = ends 0 c.args.col c.self.inside.width c.self.inside.cells.items c.self.invariant.0
    (λ j le. seen c.self.inside.width c.self.inside.cells.items c.args.self.now c.self.invariant.0 c.self.view_is j ∙ c.requires.zeros j le)

pub put-requires-clause-room : goal.put-requires-clause-room
put-requires-clause-room c =
    let w : c.self.inside.width ≡ length c.args.self.now = wide c.self.inside.width c.self.inside.cells.items c.args.self.now c.self.view_is in
    let there = c.requires.there in
    let room = c.self.invariant.1 in
    omega arith

pub invariant_of-self : goal.invariant_of-self
invariant_of-self c =
    let w : c.self.inside.width ≡ length c.args.self.now = wide c.self.inside.width c.self.inside.cells.items c.args.self.now c.self.view_is in
    let there = c.requires.there in
    let room = c.self.invariant.1 in
    (wider 0 _ c.self.inside.width _ (omega arith) c.put.ensures.rising, rw c.put.ensures.room room)

pub returns : goal.returns
returns c =
    let w : c.self.inside.width ≡ length c.args.self.now = wide c.self.inside.width c.self.inside.cells.items c.args.self.now c.self.view_is in
    let there = c.requires.there in
    written c.self.inside.width c.self.inside.cells.items c.put.new.out.items c.args.self.now c.args.col c.args.value c.self.invariant.0 c.self.view_is (omega arith) (rw (to_z-of_z c.ranges.value) at c.put.ensures.numbers)
