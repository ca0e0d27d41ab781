use Rattle.std.proofs.Common.{◌≡◌, ◌∙◌, ◌++◌, ◌∷◌, arith, sym, ap, subst, [], take, drop, ◌+◌}
use Rattle.std.specs.Prelude.{map}
use Rattle.std.proofs.lemmas.Grind.{common_steps}
use Rattle.slice_num.specs.Pieces.{piece_at, cut_pieces}
use Rattle.slice_atoms.specs.Addresses.{Atom}
use Rattle.slice_atoms.specs.Numbers.{IsNumbering, part_of, next_atom, split_in, cake_of, name_of}
use Rattle.slice_atoms.proofs.Cuts.{numbering_cut, cake_put}
use Rattle.slice_atoms.proofs.Addressed.{addresses_cut}
use Rattle.slice_atoms.proofs.Atoms.cut.Goals as goal

pub invariant_of-self-2 : goal.invariant_of-self-2
invariant_of-self-2 c =
    let s = c.args.self.now in
    let p = c.args.piece in
    let n = c.args.part in
    let h : IsNumbering s = subst IsNumbering c.self.view_is c.self.invariant in
    let j = numbering_cut s p n h c.requires.there in
    let a : c.push.new.self.items ≡ s.olds ++ part_of s p n ∷ [] = grind (arith, common_steps) in
    let b : c.split_order.new.order.items ≡ split_in (part_of s p n) (next_atom s) (next_atom s + 1) s.order = grind (arith, common_steps) in
    let d : map (λ p. p.items) c.put_halves.new.pieces.items ≡ cut_pieces s.pieces p (take n (piece_at s.pieces p) ++ next_atom s ∷ []) ((next_atom s + 1) ∷ drop (n + 1) (piece_at s.pieces p)) = grind (arith, common_steps) in
    let v = sym c.self.view_is in
    subst IsNumbering (λ i. record { agents = (v i).agents; olds = sym a i; order = sym b i; pieces = sym d i }) j

pub returns-clause-cake : goal.returns-clause-cake
returns-clause-cake c =
    let s = c.args.self.now in
    let a : c.push.new.self.items ≡ s.olds ++ part_of s c.args.piece c.args.part ∷ [] = grind (arith, common_steps) in
    ap cake_of a ∙ cake_put ([] ∷ []) Atom s.olds (part_of s c.args.piece c.args.part)

pub returns-clause-addresses : goal.returns-clause-addresses
returns-clause-addresses c =
    let s = c.args.self.now in
    let p = c.args.piece in
    let n = c.args.part in
    let h : IsNumbering s = subst IsNumbering c.self.view_is c.self.invariant in
    let a : c.push.new.self.items ≡ s.olds ++ part_of s p n ∷ [] = grind (arith, common_steps) in
    let d : map (λ p. p.items) c.put_halves.new.pieces.items ≡ cut_pieces s.pieces p (take n (piece_at s.pieces p) ++ next_atom s ∷ []) ((next_atom s + 1) ∷ drop (n + 1) (piece_at s.pieces p)) = grind (arith, common_steps) in
    (λ i. map (map (name_of (a i))) (d i)) ∙ addresses_cut s p n h c.requires.there
