-- A trail after a cut is passed.
use Rattle.std.proofs.Common.{◌≡◌, ◌∙◌, ℕ, zero, suc, ◌+◌, ◌≤◌, arith, refl, sym, ap, subst, List, [], ◌∷◌, ◌++◌, map, take, drop, length, Option, Some, None}
use Rattle.std.proofs.Math.Numerals.{add-one}
use Rattle.std.specs.Prelude.{option_map}
use Rattle.std.specs.List.{slice_get, take-map, drop-map}
use Rattle.std.proofs.lemmas.List.{map-append, length-map, length-append, length-take-le}
use Rattle.std.proofs.lemmas.Option.{slice_get-map, slice_get_within}
use Rattle.slice_num.specs.declared.choice.Choice.{Choice}
use Rattle.slice_num.specs.Pieces.{piece_at, emptied, cut_pieces}
use Rattle.slice_core.specs.Tree.{Tree, Cut}
use Rattle.slice_core.specs.declared.node.Lin.{Lin}
use Rattle.slice_atoms.specs.Addresses.{Address, Cake, halved, left_of, right_of}
use Rattle.slice_atoms.specs.Counts.{over, count_in, all_of}
use Rattle.slice_atoms.specs.Forms.{Form}
use Rattle.slice_atoms.proofs.AtomOrder.{IsAtom}
use Rattle.slice_atoms.proofs.PartCounts.{AllParts, AllPieces, atom_made, over_halved, atoms_all}
use Rattle.slice_paths.specs.Places.{PassedCut, Way, cut_way, sum_form}
use Rattle.slice_paths.specs.Ways.{in_part}
use Rattle.slice_paths.proofs.Counts.{count_append, all_append, all_emptied, piece_map, emptied_map}
use Rattle.slice_paths.proofs.Parts.{piece_all}
use Rattle.slice_counter.specs.Counter.{boundary}
use Rattle.slice_counter.specs.Marks.{atoms_before, marks_of, moved, moved_mark, parts_of, cut_parts, part_taken, IsCut, AreCut, Shows, LeadsTo}
use Rattle.slice_counter.specs.declared.trail.Mark.{Mark}
use Rattle.slice_counter.specs.declared.trail.Trail.{Trail}
use Rattle.slice_counter.proofs.Positions.{before_moved, left_before, right_before, cut_here, cut_stays, boundary_here, boundary_moved, one_more_atom}
use Rattle.slice_counter.proofs.Taken.{going, in_part_at, at_cut_on}

pub some_more : {A B : Type 0} (f : A → B) (o : Option A) (y : B) → option_map f o ≡ Some y → (x : A) × (o ≡ Some x) × (f x ≡ y)
some_more f None y e = let z : None ≡ Some y = e in cc
some_more f (Some x) y e = let z : Some (f x) ≡ Some y = e in (x, refl, cc)

-- the part of the way's piece that a number of the trail stands for
pub part_of : (k : Way) (t : Trail) (p part atom : ℕ) → Shows k t → slice_get (piece_at (parts_of t) p) part ≡ Some atom → (A : Address) × (slice_get (piece_at k.pieces p) part ≡ Some A) × (atoms_before k.cake A ≡ atom)
part_of k t p part atom s e =
    let ps = piece_at k.pieces p in
    let f = atoms_before k.cake in
    let here : piece_at (parts_of t) p ≡ map f ps = ap (λ (xs : List (List ℕ)). piece_at xs p) s.pieces ∙ piece_map f k.pieces p in
    some_more f (slice_get ps part) atom (sym (slice_get-map f ps part) ∙ (ap (λ (xs : List ℕ). slice_get xs part) (sym here) ∙ e))

part_is : (P : Address → Type 0) (xs : List Address) (i : ℕ) (A : Address) → AllParts P xs → slice_get xs i ≡ Some A → P A
part_is P [] i A h e = let z : None ≡ Some A = e in cc
part_is P (B ∷ xs) zero A h e = let z : Some B ≡ Some A = e in let same : B ≡ A = cc in subst P same h.0
part_is P (B ∷ xs) (suc i) A h e = part_is P xs i A h.1 e

pub all_atoms : (k : Way) → ((g : Address → ℕ) → all_of g k.pieces ≤ over k.cake g) → AllPieces (IsAtom k.cake) k.pieces
all_atoms k h = atoms_all k.cake k.pieces (λ g. 0) (λ g. omega (arith, h g))

-- ---- the pieces
parts_moved : (A : Address) (k : Cake) (xs : List Address) → IsAtom k A → AllParts (IsAtom k) xs → map (moved (atoms_before k A)) (map (atoms_before k) xs) ≡ map (atoms_before (halved A k)) xs
parts_moved A k [] h g = refl
parts_moved A k (B ∷ xs) h g =
    ap (λ n. n ∷ map (moved (atoms_before k A)) (map (atoms_before k) xs)) (sym (before_moved A k B h (atom_made k B g.0)))
    ∙ ap (λ ns. atoms_before (halved A k) B ∷ ns) (parts_moved A k xs h g.1)

pieces_moved : (A : Address) (k : Cake) (xs : List (List Address)) → IsAtom k A → AllPieces (IsAtom k) xs → map (map (moved (atoms_before k A))) (map (map (atoms_before k)) xs) ≡ map (map (atoms_before (halved A k))) xs
pieces_moved A k [] h g = refl
pieces_moved A k (x ∷ xs) h g =
    ap (λ ns. ns ∷ map (map (moved (atoms_before k A))) (map (map (atoms_before k)) xs)) (parts_moved A k x h g.0)
    ∙ ap (λ ys. map (atoms_before (halved A k)) x ∷ ys) (pieces_moved A k xs h g.1)

cut_map : (f : Address → ℕ) (xs : List (List Address)) (p part atom : ℕ) (B C : Address) → f B ≡ atom → f C ≡ atom + 1
    → cut_parts p part atom (map (map f) xs) ≡ map (map f) (cut_pieces xs p (take part (piece_at xs p) ++ B ∷ []) (C ∷ drop (suc part) (piece_at xs p)))
cut_map f xs p part atom B C left right =
    let ps = piece_at xs p in
    let here = piece_map f xs p in
    let front : take part (piece_at (map (map f) xs) p) ++ atom ∷ [] ≡ map f (take part ps ++ B ∷ []) =
    ap (λ ys. take part ys ++ atom ∷ []) here
    ∙ (ap (λ ys. ys ++ atom ∷ []) (take-map f part ps)
    ∙ (ap (λ n. map f (take part ps) ++ n ∷ []) (sym left) ∙ sym (map-append f (take part ps) (B ∷ [])))) in
    let back : (atom + 1) ∷ drop (part + 1) (piece_at (map (map f) xs) p) ≡ map f (C ∷ drop (suc part) ps) =
    ap (λ j. (atom + 1) ∷ drop j (piece_at (map (map f) xs) p)) (add-one part)
    ∙ (ap (λ ys. (atom + 1) ∷ drop (suc part) ys) here
    ∙ (ap (λ ys. (atom + 1) ∷ ys) (drop-map f (suc part) ps) ∙ ap (λ n. n ∷ map f (drop (suc part) ps)) (sym right))) in
    ap (λ ys. ys ++ (take part (piece_at (map (map f) xs) p) ++ atom ∷ []) ∷ ((atom + 1) ∷ drop (part + 1) (piece_at (map (map f) xs) p)) ∷ []) (emptied_map f xs p)
    ∙ (ap (λ y. map (map f) (emptied xs p) ++ y ∷ ((atom + 1) ∷ drop (part + 1) (piece_at (map (map f) xs) p)) ∷ []) front
    ∙ (ap (λ y. map (map f) (emptied xs p) ++ map f (take part ps ++ B ∷ []) ∷ y ∷ []) back
    ∙ sym (map-append (map f) (emptied xs p) ((take part ps ++ B ∷ []) ∷ (C ∷ drop (suc part) ps) ∷ []))))

-- ---- counts
split_count : (g : Address → ℕ) (xs : List Address) (i : ℕ) (A : Address) → slice_get xs i ≡ Some A → count_in g xs ≡ count_in g (take i xs) + (g A + count_in g (drop (suc i) xs))
split_count g [] i A e = let z : None ≡ Some A = e in cc
split_count g (B ∷ xs) zero A e = let z : Some B ≡ Some A = e in let same : B ≡ A = cc in let e = ap g same in omega (arith, e)
split_count g (B ∷ xs) (suc i) A e = let h = split_count g xs i A e in omega (arith, h)

cut_count : (g : Address → ℕ) (k : Way) (p part : ℕ) (A : Address) → slice_get (piece_at k.pieces p) part ≡ Some A → IsAtom k.cake A → all_of g k.pieces ≤ over k.cake g
    → all_of g (cut_pieces k.pieces p (take part (piece_at k.pieces p) ++ left_of A ∷ []) (right_of A ∷ drop (suc part) (piece_at k.pieces p))) ≤ over (halved A k.cake) g
cut_count g k p part A e is h =
    let ps = piece_at k.pieces p in
    let one = all_append g (emptied k.pieces p) ((take part ps ++ left_of A ∷ []) ∷ (right_of A ∷ drop (suc part) ps) ∷ []) in
    let two = all_emptied g k.pieces p in
    let three = count_append g (take part ps) (left_of A ∷ []) in
    let four = split_count g ps part A e in
    let five = over_halved A k.cake g is in
    omega (arith, one, two, three, four, five, h)

-- ---- cuts
cuts_moved : (A : Address) (k : Cake) (ds : List PassedCut) → IsAtom k A → AreCut k ds
    → map (moved_mark (atoms_before k A)) (map (λ (d : PassedCut). record { part = d.part; left = boundary k d.address }) ds) ≡ map (λ (d : PassedCut). record { part = d.part; left = boundary (halved A k) d.address }) ds
cuts_moved A k [] h g = refl
cuts_moved A k (d ∷ ds) h g =
    let mark : ℕ → Mark = λ n. record { part = d.part; left = n } in
    ap (λ n. mark n ∷ map (moved_mark (atoms_before k A)) (map (λ (c : PassedCut). record { part = c.part; left = boundary k c.address }) ds)) (sym (boundary_moved A k d.address h g.0))
    ∙ ap (λ ms. mark (boundary (halved A k) d.address) ∷ ms) (cuts_moved A k ds h g.1)

all_cut : (A : Address) (k : Cake) (ds : List PassedCut) (d : PassedCut) → AreCut k ds → IsCut (halved A k) d.address → AreCut (halved A k) (ds ++ d ∷ [])
all_cut A k [] d h g = (g, tt)
all_cut A k (c ∷ ds) d h g = (cut_stays A k c.address h.0, all_cut A k ds d h.1 g)

-- ---- all of it
module _ (k : Way) (t u : Trail) (s : Shows k t) (a p part atom : ℕ) (amount : Form) (A : Address) (here : slice_get (piece_at k.pieces p) part ≡ Some A) (number : atoms_before k.cake A ≡ atom)
    (pieces : parts_of u ≡ cut_parts p part atom (map (map (moved atom)) (parts_of t))) (marks : u.cuts.items ≡ map (moved_mark atom) t.cuts.items ++ (record { part = part; left = atom + 1 }) ∷ []) where
  abbrev ps : List Address
  ps = piece_at k.pieces p

  abbrev after_cut : Way
  after_cut = cut_way a p amount (take part ps) A (drop (suc part) ps) k

  is_atom : IsAtom k.cake A
  is_atom = part_is (IsAtom k.cake) ps part A (piece_all (IsAtom k.cake) k.pieces p (all_atoms k s.counted)) here

  long : length (take part ps) ≡ part
  long = length-take-le part ps (let l = slice_get_within ps part A here in omega (arith, l))

  moved_are : map (map (moved atom)) (parts_of t) ≡ map (map (atoms_before (halved A k.cake))) k.pieces
  moved_are =
      ap (λ n. map (map (moved n)) (parts_of t)) (sym number)
      ∙ (ap (map (map (moved (atoms_before k.cake A)))) s.pieces ∙ pieces_moved A k.cake k.pieces is_atom (all_atoms k s.counted))

  marks_are : u.cuts.items ≡ marks_of after_cut
  marks_are =
      marks
      ∙ (ap (λ ms. map (moved_mark atom) ms ++ (record { part = part; left = atom + 1 }) ∷ []) s.marks
      ∙ (ap (λ n. map (moved_mark n) (marks_of k) ++ (record { part = part; left = n + 1 }) ∷ []) (sym number)
      ∙ (ap (λ ms. ms ++ (record { part = part; left = atoms_before k.cake A + 1 }) ∷ []) (cuts_moved A k.cake k.cuts is_atom s.cut)
      ∙ (ap (λ n. map to_mark k.cuts ++ (record { part = part; left = n }) ∷ []) (sym (boundary_here A k.cake is_atom))
      ∙ (ap (λ n. map to_mark k.cuts ++ (record { part = n; left = boundary (halved A k.cake) A }) ∷ []) (sym long)
      ∙ sym (map-append to_mark k.cuts (record { part = length (take part ps); address = A } ∷ [])))))))
    where
      to_mark : PassedCut → Mark
      to_mark d = record { part = d.part; left = boundary (halved A k.cake) d.address }

  count_is : length u.cuts.items ≡ length t.cuts.items + 1
  count_is = ap length marks ∙ (length-append (map (moved_mark atom) t.cuts.items) _ ∙ ap (λ n. n + 1) (length-map t.cuts.items (moved_mark atom)))

  pub cut_shown : Shows after_cut u
  cut_shown = record {
    pieces =
        pieces
        ∙ (ap (cut_parts p part atom) moved_are
        ∙ cut_map (atoms_before (halved A k.cake)) k.pieces p part atom (left_of A) (right_of A) (left_before A k.cake is_atom ∙ number) (right_before A k.cake is_atom ∙ ap (λ n. n + 1) number));
    marks = marks_are;
    atoms = let e = one_more_atom A k.cake is_atom in let f = s.atoms in let g = count_is in omega (arith, e, f, g);
    cut = all_cut A k.cake k.cuts (record { part = length (take part ps); address = A }) s.cut (cut_here A k.cake is_atom);
    counted = λ g. cut_count g k p part A here is_atom (s.counted g);
  }

  pub one_more_cut : length u.cuts.items ≡ length t.cuts.items + 1
  one_more_cut = count_is

pub lead_cut : (end : Way) (a p : ℕ) (amount : Lin) (l r : ℕ) (next : Tree) (cs : List Choice) (t u : Trail) (part atom : ℕ) → part_taken cs ≡ Some part → slice_get (piece_at (parts_of t) p) part ≡ Some atom
    → LeadsTo end (Cut a p amount l r next) cs t → parts_of u ≡ cut_parts p part atom (map (map (moved atom)) (parts_of t))
    → u.cuts.items ≡ map (moved_mark atom) t.cuts.items ++ (record { part = part; left = atom + 1 }) ∷ [] → LeadsTo end next (drop (suc part) cs) u
lead_cut end a p amount l r next cs t u part atom e here h pieces marks =
    let k = h.way in
    let found = part_of k t p part atom h.shows here in
    let A = found.0 in
    let form = sum_form h.regs amount.terms in
    let more = one_more_cut k t u h.shows a p part atom form A found.1 found.2 pieces marks in
    let few = h.few in
    record {
      regs = h.regs;
      way = cut_way a p form (take part (piece_at k.pieces p)) A (drop (suc part) (piece_at k.pieces p)) k;
      same = sym (in_part_at (going a p form next h.regs k) k [] (piece_at k.pieces p) cs part A e found.1) ∙ (sym (at_cut_on (in_part (going a p form next h.regs k) k [] (piece_at k.pieces p)) k cs part e) ∙ h.same);
      shows = cut_shown k t u h.shows a p part atom form A found.1 found.2 pieces marks;
      few = omega (arith, more, few);
    }
