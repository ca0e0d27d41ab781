use Rattle.std.proofs.Common.{arith, sym, subst}
use Rattle.slice_core.specs.Nodes.{tree_of}
use Rattle.slice_paths.specs.Walking.{CanGo}
use Rattle.slice_paths.proofs.GoLaws.{gives}
use Rattle.slice_paths.proofs.RetraceLaws.{give_strode}
use Rattle.slice_paths.proofs.retrace.stride_give.Goals as goal

pub returns : goal.returns
returns c = λ n cs old h.
    (let a = c.args in
    let next = tree_of a.next.now in
    let k = c.in-Ok.ensures.ok in
    record {
      ready = record { known = k.known h.known; goes = subst (CanGo n next) (sym c.in-Ok.ensures.tally) (gives n a.piece a.agent next _ h.goes) };
      deeper = omega arith;
      made = omega arith;
      all_ready = λ x. x;
      strode = λ fs ks ds at. give_strode n cs old fs ks ds a.piece a.agent next a.spot c.give.new.self k at;
    })
