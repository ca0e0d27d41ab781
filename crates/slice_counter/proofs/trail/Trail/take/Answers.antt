use Rattle.std.proofs.Common.{◌≡◌, ap, [], arith, List, ℕ}
use Rattle.std.proofs.lemmas.List.{map-set}
use Rattle.std.proofs.Math.ListN.{set}
use Rattle.std.proofs.lemmas.Grind.{common_steps}
use Rattle.slice_counter.specs.Marks.{parts_of}
use Rattle.slice_counter.proofs.trail.Trail.take.Goals as goal

pub returns-then-at-len-clause-pieces : goal.returns-then-at-len-clause-pieces
returns-then-at-len-clause-pieces c =
    let empty : c.replace.new.dest.items ≡ [] = grind (arith, common_steps) in
    simp map-set (ap (λ (ys : List ℕ). set (parts_of c.args.self.now) c.args.piece ys) empty)
