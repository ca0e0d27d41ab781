-- How much of something lies in the parts of pieces: it stays the same when pieces are used, cut, joined and given.
use Rattle.std.proofs.Common.{◌≡◌, ◌∙◌, ℕ, zero, suc, ◌+◌, ◌<◌, ◌++◌, List, [], ◌∷◌, length, arith, refl, ap, sym, append_assoc}
use Rattle.slice_num.specs.Pieces.{piece_at, emptied, given, cut_pieces, join_pieces, joined}

-- the sum over all parts
abbrev pub sum_of : {A : Type 0} → (A → ℕ) → List A → ℕ
sum_of f [] = 0
sum_of f (x ∷ xs) = f x + sum_of f xs

pub sum_of-append : {A : Type 0} (f : A → ℕ) (xs ys : List A) → sum_of f (xs ++ ys) ≡ sum_of f xs + sum_of f ys
sum_of-append f [] ys = omega arith
sum_of-append f (x ∷ xs) ys = omega (arith, sum_of-append f xs ys)

pub joined-append : {A : Type 0} (xs ys : List (List A)) → joined (xs ++ ys) ≡ joined xs ++ joined ys
joined-append [] ys = refl
joined-append (x ∷ xs) ys = ap (λ r. x ++ r) (joined-append xs ys) ∙ sym (append_assoc x (joined xs) (joined ys))

-- the parts of a piece that was used are no longer among the others
pub sum_of-emptied : {A : Type 0} (f : A → ℕ) (pieces : List (List A)) (p : ℕ) → sum_of f (joined (emptied pieces p)) + sum_of f (piece_at pieces p) ≡ sum_of f (joined pieces)
sum_of-emptied f [] p = refl
sum_of-emptied f (x ∷ xs) zero = omega (arith, sum_of-append f x (joined xs))
sum_of-emptied f (x ∷ xs) (suc p) = omega (arith, sum_of-append f x (joined xs), sum_of-append f x (joined (emptied xs p)), sum_of-emptied f xs p)

-- the parts that are given come to the shares
pub sum_of-given : {A : Type 0} (f : A → ℕ) (shares : List (List A)) (a : ℕ) (piece : List A) → a < length shares → sum_of f (joined (given shares a piece)) ≡ sum_of f (joined shares) + sum_of f piece
sum_of-given f [] a piece h = absurd (omega (arith, h))
sum_of-given f (x ∷ xs) zero piece h = omega (arith, sum_of-append f (x ++ piece) (joined xs), sum_of-append f x piece, sum_of-append f x (joined xs))
sum_of-given f (x ∷ xs) (suc a) piece h = omega (arith, sum_of-append f x (joined xs), sum_of-append f x (joined (given xs a piece)), sum_of-given f xs a piece (omega (arith, h)))

-- a cut replaces a part by two
pub sum_of-cut : {A : Type 0} (f : A → ℕ) (pieces : List (List A)) (p : ℕ) (before : List A) (i : A) (after : List A) (x y : A) → piece_at pieces p ≡ before ++ i ∷ after
    → sum_of f (joined (cut_pieces pieces p (before ++ x ∷ []) (y ∷ after))) + f i ≡ sum_of f (joined pieces) + (f x + f y)
sum_of-cut {A} f pieces p before i after x y e =
    let left : List A = before ++ x ∷ [] in
    let right : List A = y ∷ after in
    let all : sum_of f (joined (cut_pieces pieces p left right)) ≡ sum_of f (joined (emptied pieces p) ++ (left ++ (right ++ []))) = ap (sum_of f) (joined-append (emptied pieces p) (left ∷ right ∷ [])) in
    let split = sum_of-append f (joined (emptied pieces p)) (left ++ (right ++ [])) in
    let two = sum_of-append f left (right ++ []) in
    let one = sum_of-append f before (x ∷ []) in
    let last : sum_of f (right ++ []) ≡ sum_of f right + 0 = sum_of-append f right [] in
    let rest = sum_of-emptied f pieces p in
    let was : sum_of f (piece_at pieces p) ≡ sum_of f before + (f i + sum_of f after) = ap (sum_of f) e ∙ sum_of-append f before (i ∷ after) in
    let single : sum_of f (x ∷ []) ≡ f x + 0 = refl in
    let cons : sum_of f right ≡ f y + sum_of f after = refl in
    omega (arith, all, split, two, one, last, rest, was, single, cons)

-- a join keeps all parts
pub sum_of-join : {A : Type 0} (f : A → ℕ) (pieces : List (List A)) (p q : ℕ) → sum_of f (joined (join_pieces pieces p q)) ≡ sum_of f (joined pieces)
sum_of-join {A} f pieces p q =
    let once : List (List A) = emptied pieces p in
    let new : List A = piece_at pieces p ++ piece_at once q in
    let all : sum_of f (joined (join_pieces pieces p q)) ≡ sum_of f (joined (emptied once q) ++ (new ++ [])) = ap (sum_of f) (joined-append (emptied once q) (new ∷ [])) in
    let split = sum_of-append f (joined (emptied once q)) (new ++ []) in
    let last : sum_of f (new ++ []) ≡ sum_of f new + 0 = sum_of-append f new [] in
    let two = sum_of-append f (piece_at pieces p) (piece_at once q) in
    let first = sum_of-emptied f pieces p in
    let second = sum_of-emptied f once q in
    omega (arith, all, split, last, two, first, second)
