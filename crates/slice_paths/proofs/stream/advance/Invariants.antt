use Rattle.std.proofs.Common.{◌≡◌, []}
use Rattle.slice_paths.specs.Ahead.{ahead_of}
use Rattle.slice_paths.specs.Walking.{AllReady, steps_of}
use Rattle.slice_paths.proofs.stream.advance.Given as goal

abbrev pub invariant-loop-frame : goal.invariant-loop-frame
invariant-loop-frame l = record {
  ready : AllReady l.agents l.frames.items;
  ahead : ahead_of l.agents l.frames.items [] ≡ ahead_of l.agents l.fn.frames.items [];
}

abbrev pub decreases-loop-frame : goal.decreases-loop-frame
decreases-loop-frame l = steps_of l.agents l.frames.items
