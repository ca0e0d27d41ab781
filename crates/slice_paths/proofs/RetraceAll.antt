-- Strides, one after another.
use Rattle.std.proofs.Common.{◌≡◌, ◌∙◌, ℕ, suc, sym, ap, List, [], ◌++◌, drop, append_assoc}
use Rattle.std.specs.Prelude.{Option, Some, None}
use Rattle.slice_num.specs.declared.choice.Choice.{Choice}
use Rattle.slice_core.specs.Nodes.{tree_of}
use Rattle.slice_core.specs.Tree.{Tree}
use Rattle.slice_paths.specs.Ahead.{ahead_of}
use Rattle.slice_paths.specs.Events.{Event}
use Rattle.slice_paths.specs.Fronts.{way_behind, events_behind}
use Rattle.slice_paths.specs.Places.{Way}
use Rattle.slice_paths.specs.Retraced.{way_with, still, IsStride, IsNoStride, IsRetraced, IsTooShort, Retraces}
use Rattle.slice_paths.specs.Spots.{Known}
use Rattle.slice_paths.specs.Walking.{Ready}
use Rattle.slice_paths.specs.declared.frames.Frame.{Frame}
use Rattle.slice_paths.specs.declared.retrace.Stride.{Stride}

-- no choice is to be passed
pub none_passed : (n passed : ℕ) (tree : Tree) (s : Known) (cs : List Choice) (old : List Frame) → passed ≡ 0 → Ready n tree s → IsRetraced n passed tree s cs old old s
none_passed n passed tree s cs old e h = record {
  ready = (tree, h);
  all_ready = λ x. x;
  each = λ fs ks ds at. record {
    regs = fs;
    conditions = ks;
    cuts = ds;
    stands = at;
    way = ap (λ (k : ℕ). way_behind k tree fs (way_with s ks ds) cs) e;
    ahead = ap (λ (k : ℕ). events_behind n k tree fs (way_with s ks ds) cs ++ ahead_of n old []) (sym e);
  };
}

-- no stride leads on
pub too_short : (k passed : ℕ) (tree : Tree) (s : Known) (cs : List Choice) → passed ≡ suc k → IsNoStride tree s cs → IsTooShort passed tree s cs
too_short k passed tree s cs e h = record { no_way = λ fs ks ds at. ap (λ (m : ℕ). way_behind m tree fs (way_with s ks ds) cs) e ∙ h.no_way fs ks ds k }

-- a stride, and then the rest
pub strode_on : (n k passed left : ℕ) (tree : Tree) (s : Known) (cs rest : List Choice) (old mid new : List Frame) (o : Stride) (t : Option Known) → passed ≡ suc k → left ≡ still o.passed k → rest ≡ drop o.taken cs
    → IsStride n tree s cs old mid o → Retraces n left (tree_of o.node.now) o.spot rest mid new t → Retraces n passed tree s cs old new t
strode_on n k passed left tree s cs rest old mid new o None e l r h g = record {
  no_way = λ fs ks ds at.
      (let x = h.strode fs ks ds at in
      ap (λ (m : ℕ). way_behind m tree fs (way_with s ks ds) cs) e
      ∙ x.same_way k
      ∙ (λ i. way_behind (sym l i) (tree_of o.node.now) x.regs (way_with o.spot x.conditions x.cuts) (sym r i))
      ∙ g.no_way x.regs x.conditions x.cuts x.stands);
}
strode_on n k passed left tree s cs rest old mid new o (Some t) e l r h g = record {
  ready = g.ready;
  all_ready = λ z. g.all_ready (h.all_ready z);
  each = λ fs ks ds at.
      (let x = h.strode fs ks ds at in
      let y = g.each x.regs x.conditions x.cuts x.stands in
      let W : Way = way_with s ks ds in
      let V : Way = way_with o.spot x.conditions x.cuts in
      record {
        regs = y.regs;
        conditions = y.conditions;
        cuts = y.cuts;
        stands = y.stands;
        way =
            ap (λ (m : ℕ). way_behind m tree fs W cs) e
            ∙ x.same_way k
            ∙ (λ i. way_behind (sym l i) (tree_of o.node.now) x.regs V (sym r i))
            ∙ y.way;
        ahead =
            y.ahead
            ∙ (λ i. events_behind n (l i) (tree_of o.node.now) x.regs V (r i) ++ x.ahead i)
            ∙ sym (append_assoc (events_behind n (still o.passed k) (tree_of o.node.now) x.regs V (drop o.taken cs)) x.more (ahead_of n old []))
            ∙ ap (λ (es : List Event). es ++ ahead_of n old []) (sym (ap (λ (m : ℕ). events_behind n m tree fs W cs) e ∙ x.same_behind k));
      });
}
