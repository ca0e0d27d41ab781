use Rattle.std.proofs.Common.{arith, sym, subst}
use Rattle.slice_core.specs.Nodes.{tree_of}
use Rattle.slice_paths.specs.Walking.{CanGo}
use Rattle.slice_paths.proofs.GoLaws.{joins}
use Rattle.slice_paths.proofs.RetraceLaws.{join_strode}
use Rattle.slice_paths.proofs.retrace.stride_join.Goals as goal

pub returns : goal.returns
returns c = λ n cs old h.
    (let a = c.args in
    let next = tree_of a.next.now in
    let k = c.in-Ok.ensures.ok h.known in
    record {
      ready = record { known = k.known; goes = subst (CanGo n next) (sym c.in-Ok.ensures.tally) (joins n a.first a.second a.piece next _ h.known.gifts h.goes) };
      deeper = omega arith;
      made = omega arith;
      all_ready = λ x. x;
      strode = λ fs ks ds at. join_strode n cs old fs ks ds a.first a.second a.piece next a.spot c.join.new.self k at;
    })
