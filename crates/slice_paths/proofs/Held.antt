-- What each step does to what a run holds.
use Rattle.std.proofs.Common.{◌≡◌, ◌∙◌, ℕ, zero, suc, ◌+◌, ◌-◌, ◌<◌, arith, refl, sym, ap, subst, List, [], ◌∷◌, ◌++◌, map, length, length-append, replicate}
use Rattle.std.proofs.lemmas.List.{length-replicate, map-append}
use Rattle.slice_num.specs.Rational.{Rational}
use Rattle.slice_num.specs.declared.interval.Interval.{Interval}
use Rattle.slice_num.specs.declared.choice.Choice.{Choice}
use Rattle.slice_core.specs.Agents.{IsAgent}
use Rattle.slice_num.specs.Pieces.{piece_at, emptied, given, join_pieces, passed}
use Rattle.slice_core.specs.Run.{Piece, State, ask_on, cut_on, join_on, give_on, with_board, chosen, before_point, after_point, left_piece, right_piece}
use Rattle.slice_num.specs.declared.cut_answer.CutAnswer.{CutAnswer}
use Rattle.slice_linear.specs.declared.row.RowKind.{RowKind}
use Rattle.slice_atoms.specs.Addresses.{Address, left_of, right_of}
use Rattle.slice_atoms.specs.Forms.{Form}
use Rattle.slice_atoms.proofs.AtomOrder.{IsAtom}
use Rattle.slice_atoms.proofs.PartCounts.{AllParts, AllPieces, count_in, all_of, over_halved, atoms_all}
use Rattle.slice_paths.specs.Places.{Way, first_way, ask_way, choose_way, test_way, join_way, give_way, cut_way}
use Rattle.slice_paths.proofs.Fits.{Held}
use Rattle.slice_paths.proofs.Counts.{count_append, all_append, all_emptied, piece_map, emptied_map, given_map, all_given, length_given}
use Rattle.slice_paths.proofs.Parts.{parts_all, piece_all, emptied_all, append_all, map_same, map_all_same, pieces_all, passed_map}

module _ (n : ℕ) (f : Address → Interval) (s : State) (k : Way) (h : Held n f s k) where
  -- every part is an atom
  pub held_atoms : AllPieces (IsAtom k.cake) k.pieces
  held_atoms = atoms_all k.cake k.pieces (λ g. all_of g k.shares) (λ g. let e = h.conserved g in omega (arith, e))

  pub share_atoms : AllPieces (IsAtom k.cake) k.shares
  share_atoms = atoms_all k.cake k.shares (λ g. all_of g k.pieces) (λ g. let e = h.conserved g in omega (arith, e))

  pub piece_is : (p : ℕ) → piece_at s.board.pieces p ≡ map f (piece_at k.pieces p)
  piece_is p = ap (λ (ps : List Piece). piece_at ps p) h.pieces ∙ piece_map f k.pieces p

  pub share_is : (p : ℕ) → piece_at s.board.shares p ≡ map f (piece_at k.shares p)
  share_is p = ap (λ (ps : List Piece). piece_at ps p) h.shares ∙ piece_map f k.shares p

  -- the parts of a piece
  pub part_atoms : (p : ℕ) (before : List Address) (A : Address) (after : List Address) → before ++ A ∷ after ≡ piece_at k.pieces p → AllParts (IsAtom k.cake) before × (IsAtom k.cake A × AllParts (IsAtom k.cake) after)
  part_atoms p before A after parts =
      let r = append_all (IsAtom k.cake) before (A ∷ after) (subst (AllParts (IsAtom k.cake)) (sym parts) (piece_all (IsAtom k.cake) k.pieces p held_atoms)) in (r.0, (r.1.0, r.1.1))

  -- ---- steps
  pub held_chosen : (cs : List Choice) → Held n f (chosen cs s) (choose_way cs k)
  held_chosen cs = record { pieces = h.pieces; shares = h.shares; room = h.room; conserved = h.conserved; trace = ap (λ (x : List Choice). x ++ cs) h.trace; queries = h.queries }

  pub held_tested : (kind : RowKind) (form : Form) (x : Choice) → Held n f (chosen (x ∷ []) s) (test_way kind form x k)
  held_tested kind form x = record { pieces = h.pieces; shares = h.shares; room = h.room; conserved = h.conserved; trace = ap (λ (y : List Choice). y ++ x ∷ []) h.trace; queries = h.queries }

  pub held_asked : (a : ℕ) (v : Rational) → Held n f (with_board (ask_on a v s.board) s) (ask_way k)
  held_asked a v = record { pieces = h.pieces; shares = h.shares; room = h.room; conserved = h.conserved; trace = h.trace; queries = length-append s.board.queries _ ∙ ap (λ (q : ℕ). q + 1) h.queries }

  pub held_joined : (p q : ℕ) → Held n f (with_board (join_on p q s.board) s) (join_way p q k)
  held_joined p q = record {
    pieces = ap (λ (ps : List Piece). join_pieces ps p q) h.pieces ∙ there;
    shares = h.shares;
    room = h.room;
    conserved = λ g. omega (arith, h.conserved g, all_append g (emptied (emptied k.pieces p) q) ((piece_at k.pieces p ++ piece_at (emptied k.pieces p) q) ∷ []), all_emptied g (emptied k.pieces p) q, all_emptied g k.pieces p, count_append g (piece_at k.pieces p) (piece_at (emptied k.pieces p) q));
    trace = h.trace;
    queries = h.queries;
  }
    where
      there : join_pieces (map (map f) k.pieces) p q ≡ map (map f) (join_pieces k.pieces p q)
      there = simp (emptied_map, piece_map, map-append)

  pub held_given : (p a : ℕ) → IsAgent n a → Held n f (with_board (give_on p a s.board) s) (give_way p a k)
  held_given p a is = record {
    pieces = ap (λ (ps : List Piece). emptied ps p) h.pieces ∙ emptied_map f k.pieces p;
    shares = (λ i. given (h.shares i) (a - 1) (piece_is p i)) ∙ given_map f k.shares (a - 1) (piece_at k.pieces p);
    room = length_given k.shares (a - 1) (piece_at k.pieces p) ∙ h.room;
    conserved = λ g. let l : a - 1 < length k.shares = omega (arith, h.room, is.0, is.1) in omega (arith, h.conserved g, all_emptied g k.pieces p, all_given g k.shares (a - 1) (piece_at k.pieces p) l);
    trace = h.trace;
    queries = h.queries;
  }

  -- a cut: the other atoms stay where they are
  pub held_cut : (g : Address → Interval) (a p : ℕ) (e : Form) (v : Rational) (y : CutAnswer) (before : List Address) (A : Address) (after : List Address) (ys : List CutAnswer)
      → before ++ A ∷ after ≡ piece_at k.pieces p → ((B : Address) → IsAtom k.cake B → f B ≡ g B) → g (left_of A) ≡ before_point (f A) y.point → g (right_of A) ≡ after_point (f A) y.point
      → Held n g
      (record { board = cut_on a p v y (left_piece (map f before) (f A) y.point) (right_piece (f A) y.point (map f after)) s.board; answers = ys; trace = s.trace ++ passed (map f before) })
      (cut_way a p e before A after k)
  held_cut g a p e v y before A after ys parts stays left right = record {
    pieces = (λ i. made i ++ left_is i ∷ right_is i ∷ []) ∙ sym (map-append (map g) (emptied k.pieces p) ((before ++ left_of A ∷ []) ∷ (right_of A ∷ after) ∷ []));
    shares = h.shares ∙ map_all_same f g k.shares (pieces_all stays k.shares share_atoms);
    room = h.room;
    conserved = λ m. let o = over_halved A k.cake m atoms.1.0 in
        omega (arith, o, h.conserved m, all_append m (emptied k.pieces p) ((before ++ left_of A ∷ []) ∷ (right_of A ∷ after) ∷ []), all_emptied m k.pieces p, count_append m before (left_of A ∷ []), count_append m before (A ∷ after), ap (count_in m) parts);
    trace = λ i. h.trace i ++ passed_map f before i;
    queries = length-append s.board.queries _ ∙ ap (λ (q : ℕ). q + 1) h.queries;
  }
    where
      atoms : AllParts (IsAtom k.cake) before × (IsAtom k.cake A × AllParts (IsAtom k.cake) after)
      atoms = part_atoms p before A after parts

      made : emptied s.board.pieces p ≡ map (map g) (emptied k.pieces p)
      made = ap (λ (ps : List Piece). emptied ps p) h.pieces ∙ emptied_map f k.pieces p ∙ map_all_same f g (emptied k.pieces p) (pieces_all stays (emptied k.pieces p) (emptied_all (IsAtom k.cake) k.pieces p held_atoms))

      left_is : left_piece (map f before) (f A) y.point ≡ map g (before ++ left_of A ∷ [])
      left_is = (λ i. map_same f g before (parts_all stays before atoms.0) i ++ sym left i ∷ []) ∙ sym (map-append g before (left_of A ∷ []))

      right_is : right_piece (f A) y.point (map f after) ≡ map g (right_of A ∷ after)
      right_is = λ i. sym right i ∷ map_same f g after (parts_all stays after atoms.1.1) i

-- before anything was done
pub first_held : (n : ℕ) (f : Address → Interval) (s : State) → s.board.pieces ≡ (f [] ∷ []) ∷ [] → s.board.shares ≡ replicate n [] → s.board.queries ≡ [] → s.trace ≡ [] → Held n f s (first_way n)
first_held n f s pieces shares queries trace = record { pieces = pieces; shares = shares ∙ empties n; room = length-replicate n []; conserved = λ g. omega (arith, zeros g n); trace = trace; queries = ap length queries }
  where
    empties : (m : ℕ) → replicate m [] ≡ map (map f) (replicate m [])
    empties zero = refl
    empties (suc m) = ap (λ (x : List Piece). [] ∷ x) (empties m)

    zeros : (g : Address → ℕ) (m : ℕ) → all_of g (replicate m []) ≡ 0
    zeros g zero = refl
    zeros g (suc m) = omega (arith, zeros g m)
