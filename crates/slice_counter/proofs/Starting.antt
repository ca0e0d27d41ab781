-- The trail before any choice.
use Rattle.std.proofs.Common.{◌≡◌, ◌≤◌, arith, refl, sym, ap, subst, List, [], ◌∷◌, length}
use Rattle.slice_num.specs.declared.choice.Choice.{Choice}
use Rattle.slice_core.specs.Sizes.{most_cuts}
use Rattle.slice_core.specs.Tree.{Core, Tree}
use Rattle.slice_paths.specs.Places.{first_way}
use Rattle.slice_paths.specs.Ways.{way_of}
use Rattle.slice_counter.specs.Marks.{parts_of, LeadsTo}
use Rattle.slice_counter.specs.declared.trail.Trail.{Trail}

pub starts : (core : Core) (tree : Tree) (trace : List Choice) (t : Trail) → parts_of t ≡ (0 ∷ []) ∷ [] → t.cuts.items ≡ [] → most_cuts core.tree ≤ 64 → tree ≡ core.tree → LeadsTo (way_of core trace) tree trace t
starts core tree trace t pieces marks few is = subst (λ (s : Tree). LeadsTo (way_of core trace) s trace t) (sym is) (record {
  regs = [];
  way = first_way core.agents;
  same = refl;
  shows = record {
    pieces = pieces;
    marks = marks;
    atoms = let e = ap length marks in omega (arith, e);
    cut = tt;
    counted = λ g. omega arith;
  };
  few = let e = ap length marks in omega (arith, e, few);
})
