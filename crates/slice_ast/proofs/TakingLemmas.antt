-- Tokens that are taken in parts.
use Rattle.std.proofs.Common.{◌≡◌, ℕ, suc, ◌+◌, ◌<◌, ◌≤◌, List, [], ◌∷◌, ◌++◌, length, get_or, drop, drop-cons, add-one, codes, refl, ap, sym, ◌∙◌, map, append-nil, append_assoc, Result, Ok, Err}
use Rattle.std.specs.Result.{OnOk}
use Rattle.std.proofs.lemmas.List.{drop_all}
use Rattle.slice_ast.specs.Tokens.{Mark, text_of, more_listed, listed}
use Rattle.slice_ast.specs.Taking.{taken}

-- first these, then those
pub taken-append : {S : Type 0} (after : S → List ℕ → S) (s : S) (xs ys : List Mark) → taken after s (xs ++ ys) ≡ taken after (taken after s xs) ys
taken-append after s [] ys = refl
taken-append after s (x ∷ xs) ys = taken-append after (after s (text_of x)) xs ys

pub ruleset taking = taken-append

-- one more item of a list, with its comma
pub more_listed-turn : {A S : Type 0} (item : A → List Mark) (after : S → List ℕ → S) (s : S) (xs : List A) (i : ℕ) (x : A) → i < length xs → x ≡ get_or xs i x
    → taken after s (more_listed item (drop i xs)) ≡ taken after (taken after (after s (codes ",")) (item x)) (more_listed item (drop (i + 1) xs))
more_listed-turn item after s xs i x h e =
    let d = drop-cons xs i x h in
    ap (λ ys. taken after s (more_listed item ys)) d
    ∙ taken-append after (after s (codes ",")) (item (get_or xs i x)) (more_listed item (drop (suc i) xs))
    ∙ rw (add-one, ← e) refl

-- the first item, then the others
pub listed-cons : {A S : Type 0} (item : A → List Mark) (after : S → List ℕ → S) (s : S) (x : A) (xs : List A) → taken after s (listed item (x ∷ xs)) ≡ taken after (taken after s (item x)) (more_listed item xs)
listed-cons item after s x xs = taken-append after s (item x) (more_listed item xs)

-- no further item
pub more_listed-end : {A S : Type 0} (item : A → List Mark) (after : S → List ℕ → S) (s : S) (xs : List A) (i : ℕ) → length xs ≤ i → taken after s (more_listed item (drop i xs)) ≡ s
more_listed-end item after s xs i h = ap (λ ys. taken after s (more_listed item ys)) (drop_all i xs h)

-- what follows from what is said of an `Ok`
pub on_ok : {T E P Q : Type 0} (r : Result T E) → (P → Q) → OnOk r P → OnOk r Q
on_ok (Ok x) f h = f h
on_ok (Err e) f h = tt

-- a list at whose end each token is put
pub taken-listed : (texts : List (List ℕ)) (xs : List Mark) → taken (λ ts t. ts ++ t ∷ []) texts xs ≡ texts ++ map text_of xs
taken-listed texts [] = sym (append-nil texts)
taken-listed texts (x ∷ xs) = taken-listed (texts ++ text_of x ∷ []) xs ∙ append_assoc texts (text_of x ∷ []) (map text_of xs)

pub ruleset listing = taken-listed
