-- Bounds of the numbers of a trail.
use Rattle.std.proofs.Common.{◌≡◌, ℕ, ◌≤◌, arith, refl, sym, subst, List, [], ◌∷◌, map, length}
use Rattle.std.specs.List.{All}
use Rattle.std.proofs.lemmas.List.Elements.{All-nil, All-cons}
use Rattle.slice_num.specs.Pieces.{piece_at}
use Rattle.slice_atoms.specs.Addresses.{Address, Cake, Atom, Halves, atom_count}
use Rattle.slice_atoms.specs.Counts.{over, count_in}
use Rattle.slice_paths.specs.Places.{PassedCut, Way}
use Rattle.slice_paths.proofs.Counts.{all_emptied}
use Rattle.slice_counter.specs.Counter.{boundary}
use Rattle.slice_counter.specs.Marks.{atoms_before, parts_of, Shows}
use Rattle.slice_counter.specs.declared.trail.Mark.{Mark}
use Rattle.slice_counter.specs.declared.trail.Trail.{Trail}
use Rattle.slice_counter.proofs.Positions.{before_below, boundary_below}

abbrev AreSmall : List ℕ → Type 0
AreSmall ns = All (λ (n : ℕ). n ≤ 64) ns

small_parts : (k : Cake) (xs : List Address) → atom_count k ≤ 65 → AreSmall (map (atoms_before k) xs)
small_parts k [] h = All-nil _
small_parts k (B ∷ xs) h = All-cons (λ (n : ℕ). n ≤ 64) (atoms_before k B) (map (atoms_before k) xs) (let l = before_below k B in omega (arith, l, h)) (small_parts k xs h)

small_pieces : (k : Cake) (xss : List (List Address)) → atom_count k ≤ 65 → All AreSmall (map (map (atoms_before k)) xss)
small_pieces k [] h = All-nil _
small_pieces k (xs ∷ xss) h = All-cons AreSmall (map (atoms_before k) xs) (map (map (atoms_before k)) xss) (small_parts k xs h) (small_pieces k xss h)

small_cuts : (k : Cake) (ds : List PassedCut) → atom_count k ≤ 65 → All (λ (m : Mark). m.left ≤ 64) (map (λ (d : PassedCut). record { part = d.part; left = boundary k d.address }) ds)
small_cuts k [] h = All-nil _
small_cuts k (d ∷ ds) h =
    All-cons (λ (m : Mark). m.left ≤ 64) (record { part = d.part; left = boundary k d.address }) (map (λ (c : PassedCut). record { part = c.part; left = boundary k c.address }) ds)
    (let l = boundary_below k d.address in omega (arith, l, h)) (small_cuts k ds h)

pub parts_small : (k : Way) (t : Trail) → Shows k t → length t.cuts.items ≤ 64 → All (λ (ns : List ℕ). All (λ (n : ℕ). n ≤ 64) ns) (parts_of t)
parts_small k t s h = subst (All AreSmall) (sym s.pieces) (small_pieces k.cake k.pieces (omega (arith, s.atoms, h)))

pub marks_small : (k : Way) (t : Trail) → Shows k t → length t.cuts.items ≤ 64 → All (λ (m : Mark). m.left ≤ 64) t.cuts.items
marks_small k t s h = subst (All (λ (m : Mark). m.left ≤ 64)) (sym s.marks) (small_cuts k.cake k.cuts (omega (arith, s.atoms, h)))

pub count_ones : (xs : List Address) → count_in (λ A. 1) xs ≡ length xs
count_ones [] = refl
count_ones (x ∷ xs) = let e = count_ones xs in omega (arith, e)

over_ones : (k : Cake) → over k (λ A. 1) ≡ atom_count k
over_ones Atom = refl
over_ones (Halves l r) = let e = over_ones l in let f = over_ones r in omega (arith, e, f)

-- a piece has no more parts than there are atoms
pub few_parts : (k : Way) (t : Trail) (p : ℕ) → Shows k t → length t.cuts.items ≤ 64 → length (piece_at k.pieces p) ≤ 65
few_parts k t p s h =
    let one = all_emptied (λ A. 1) k.pieces p in
    let two = count_ones (piece_at k.pieces p) in
    let three = over_ones k.cake in
    let four = s.counted (λ A. 1) in
    let five = s.atoms in
    omega (arith, one, two, three, four, five, h)
