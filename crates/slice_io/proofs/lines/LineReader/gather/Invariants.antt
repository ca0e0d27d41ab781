use Rattle.std.proofs.Common.{◌≡◌, ◌↔◌, ◌-◌, ◌+◌, ◌≤◌, ℕ, List, [], length, None, Some}
use Rattle.slice_io.specs.Files.{told_file}
use Rattle.slice_io.specs.Gathered.{Gathers}
use Rattle.slice_io.specs.Lines.{StandsIn, IsSameReader}
use Rattle.slice_io.proofs.lines.LineReader.gather.Given as goal

abbrev pub invariant-loop-self : goal.invariant-loop-self
invariant-loop-self g l = record {
  same : g.S.Shelf.told l.shelf ≡ g.S.Shelf.told l.initial.shelf;
  asked : g.S.Shelf.CanAsk l.shelf l.self.name;
  rule : (n : List ℕ) → g.S.Shelf.CanAsk l.initial.shelf n ↔ g.S.Shelf.CanAsk l.shelf n;
  later : g.S.Shelf.faults l.initial.shelf ≤ g.S.Shelf.faults l.shelf;
  given : l.self.given ≡ l.initial.self.given;
  keeps : IsSameReader l.initial.self l.self;
  line : length l.self.line ≤ l.self.line_limit;
  on : l.initial.self.place + length l.self.line ≤ l.self.place;
  within : l.self.place ≤ l.self.limit;
  gathers : (file : List ℕ) → told_file (g.S.Shelf.told l.initial.shelf) l.initial.self.name ≡ Some (Some file) → StandsIn l.initial.self file → Gathers l.self file;
  missing : told_file (g.S.Shelf.told l.initial.shelf) l.initial.self.name ≡ Some None → l.initial.self.ahead ≡ [] → l.self.ahead ≡ [];
}

abbrev pub decreases-loop-self : goal.decreases-loop-self
decreases-loop-self g l = l.self.limit - l.self.place
