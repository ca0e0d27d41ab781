use Rattle.std.proofs.Common.{◌≡◌, ◌+◌, ◌++◌, drop, take}
use Rattle.slice_io.specs.Gathered.{has_end}
use Rattle.slice_io.specs.Lines.{first_line, after_line, line_bytes}
use Rattle.slice_io.proofs.lines.first_part.Given as goal

abbrev pub invariant-loop-i : goal.invariant-loop-i
invariant-loop-i l = record {
  ends : has_end l.part ≡ has_end (drop l.i l.part);
  first : first_line l.part ≡ take l.i l.part ++ first_line (drop l.i l.part);
  after : after_line l.part ≡ after_line (drop l.i l.part);
  bytes : line_bytes l.part ≡ l.i + line_bytes (drop l.i l.part);
}
