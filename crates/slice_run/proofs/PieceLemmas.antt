-- What using a piece changes.
use Rattle.std.proofs.Common.{◌≡◌, ◌+◌, ◌-◌, ◌≤◌, ◌++◌, ◌∷◌, ℕ, zero, suc, List, [], length, arith, refl, ap, append_assoc, append-nil, length-append}
use Rattle.slice_num.specs.Pieces.{piece_at, emptied, joined}
use Rattle.slice_core.specs.Run.{Piece}
use Rattle.slice_run.specs.Pieces.{Ledger, with_rest}

-- the stretches of a piece that was used are no longer among the others
pub length-joined-emptied : (pieces : List Piece) (p : ℕ) → length (joined (emptied pieces p)) + length (piece_at pieces p) ≡ length (joined pieces)
length-joined-emptied [] p = refl
length-joined-emptied (x ∷ xs) zero = omega (arith, length-append x (joined xs))
length-joined-emptied (x ∷ xs) (suc p) = omega (arith, length-append x (joined xs), length-append x (joined (emptied xs p)), length-joined-emptied xs p)

-- one piece is left, and then the others
pub with_rest-cons : (b : Ledger) (piece : Piece) (pieces : List Piece) → with_rest (record b { left = b.left ++ piece; spare = b.spare - length piece }) pieces ≡ with_rest b (piece ∷ pieces)
with_rest-cons b piece pieces = λ i. record b { left = append_assoc b.left piece (joined pieces) i; spare = fewer i }
  where
    fewer : b.spare - length piece - length (joined pieces) ≡ b.spare - length (piece ++ joined pieces)
    fewer = omega (arith, length-append piece (joined pieces))

pub with_rest-used : (b : Ledger) (pieces : List Piece) → with_rest b ([] ∷ pieces) ≡ with_rest b pieces
with_rest-used b pieces = refl

pub with_rest-none : (b : Ledger) → with_rest b [] ≡ b
with_rest-none b = λ i. record b { left = append-nil b.left i; spare = all i }
  where
    all : b.spare - 0 ≡ b.spare
    all = omega arith

-- room is kept for a piece that was taken out, and then for the others
pub room_back : (pieces rest : List Piece) (p : ℕ) (back : Piece) (spare : ℕ) → rest ≡ emptied pieces p → back ≡ piece_at pieces p → length (joined pieces) ≤ spare → length back ≤ spare
room_back pieces rest p back spare r b h = omega (arith, length-joined-emptied pieces p, ap length b)

pub room_rest : (pieces rest : List Piece) (p : ℕ) (back : Piece) (spare : ℕ) → rest ≡ emptied pieces p → back ≡ piece_at pieces p → length (joined pieces) ≤ spare → length (joined rest) ≤ spare - length back
room_rest pieces rest p back spare r b h = omega (arith, length-joined-emptied pieces p, ap length b, ap (λ xs. length (joined xs)) r)

-- room is kept for two pieces that were taken out, and then for the others
pub room_two : (pieces one two : List Piece) (p q : ℕ) (first second : Piece) (spare : ℕ) → one ≡ emptied pieces p → two ≡ emptied one q → first ≡ piece_at pieces p → second ≡ piece_at one q → length (joined pieces) ≤ spare
    → length first + (length second + length (joined two)) ≤ spare
room_two pieces one two p q first second spare e f b a h =
    omega (arith, length-joined-emptied pieces p, length-joined-emptied one q, ap length b, ap length a, ap (λ (xs : List Piece). length (joined xs)) e, ap (λ (xs : List Piece). length (joined xs)) f)
