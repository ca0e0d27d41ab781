use Rattle.std.proofs.Common.{◌≡◌, ◌∙◌, arith, sym, ap, subst}
use Rattle.std.specs.Prelude.{map}
use Rattle.std.proofs.lemmas.Grind.{common_steps}
use Rattle.slice_num.specs.Pieces.{join_pieces}
use Rattle.slice_atoms.specs.Numbers.{Numbering, IsNumbering, name_of}
use Rattle.slice_atoms.proofs.Cuts.{numbering_join}
use Rattle.slice_atoms.proofs.Addressed.{joined_map}
use Rattle.slice_atoms.proofs.Atoms.join.Goals as goal

pub invariant_of-self-2 : goal.invariant_of-self-2
invariant_of-self-2 c =
    let s = c.args.self.now in
    let h : IsNumbering s = subst IsNumbering c.self.view_is c.self.invariant in
    let j = numbering_join s c.args.first c.args.second h in
    let e : map (λ p. p.items) c.put_joined.new.pieces.items ≡ join_pieces s.pieces c.args.first c.args.second = grind (arith, common_steps) in
    let v = sym c.self.view_is in
    subst IsNumbering (λ i. record { agents = (v i).agents; olds = (v i).olds; order = (v i).order; pieces = sym e i }) j

pub returns-clause-addresses : goal.returns-clause-addresses
returns-clause-addresses c =
    let s = c.args.self.now in
    let e : map (λ p. p.items) c.put_joined.new.pieces.items ≡ join_pieces s.pieces c.args.first c.args.second = grind (arith, common_steps) in
    let v = sym c.self.view_is in
    (λ i. map (map (name_of (sym (ap (λ (k : Numbering). k.olds) v) i))) (e i)) ∙ joined_map (name_of s.olds) s.pieces c.args.first c.args.second
