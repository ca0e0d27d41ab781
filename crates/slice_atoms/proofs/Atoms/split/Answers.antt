use Rattle.std.proofs.Common.{◌≤◌, sym, subst, List, ℕ}
use Rattle.std.specs.Prelude.{slice_index_or}
use Rattle.slice_atoms.specs.Numbers.{IsNumbering, sum_over, one_at}
use Rattle.slice_atoms.proofs.Cuts.{part_there}
use Rattle.slice_atoms.proofs.Atoms.split.Goals as goal

pub returns-clause-there : goal.returns-clause-there
returns-clause-there c =
    let h : IsNumbering c.args.self.now = subst IsNumbering c.self.view_is c.self.invariant in
    let t = part_there c.args.self.now c.args.piece c.args.part h c.requires.there in
    subst (λ (xs : List ℕ). 1 ≤ sum_over (one_at (slice_index_or xs c.args.part 0)) c.args.self.now.order) (sym c.parts_of.ensures.value) t
