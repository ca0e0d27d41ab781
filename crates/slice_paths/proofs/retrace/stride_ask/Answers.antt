use Rattle.std.proofs.Common.{arith, sym, subst}
use Rattle.slice_core.specs.Nodes.{tree_of}
use Rattle.slice_paths.specs.Walking.{CanGo}
use Rattle.slice_paths.proofs.GoLaws.{asks}
use Rattle.slice_paths.proofs.RetraceLaws.{ask_strode}
use Rattle.slice_paths.proofs.retrace.stride_ask.Goals as goal

pub returns : goal.returns
returns c = λ n r cs old h.
    (let a = c.args in
    let next = tree_of a.next.now in
    let k = c.in-Ok.ensures.ok h.known in
    record {
      ready = record { known = k.known; goes = subst (CanGo n next) (sym c.in-Ok.ensures.tally) (asks n a.agent a.piece r next _ h.goes) };
      deeper = omega arith;
      made = omega arith;
      all_ready = λ x. x;
      strode = λ fs ks ds at. ask_strode n cs old fs ks ds a.agent a.piece r next a.spot c.ask.new.self k at;
    })
