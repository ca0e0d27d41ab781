use Rattle.std.proofs.Common.{◌≡◌, map, length, ◌++◌}
use Rattle.std.specs.Vec.Iter.{into_iter_items, into_iter_len}
use Rattle.slice_step.specs.UnitSteps.{unit_steps}
use Rattle.slice_step.proofs.valuations.Valuations.from_unit_steps.Given as goal

abbrev pub invariant-loop-list : goal.invariant-loop-list
invariant-loop-list l = record {
  all : l.yielded ++ into_iter_items l.list-iterator ≡ l.fn.heights.items;
  counted : into_iter_len l.list-iterator ≡ length (into_iter_items l.list-iterator);
  made : l.items.items ≡ map (λ hs. unit_steps hs.items) l.yielded;
}
