-- Lists of lists in a `Vec`, and numbers put beside each other.
use Rattle.std.proofs.Common.{◌≡◌, ◌∙◌, ℕ, zero, suc, ◌+◌, ◌<◌, arith, refl, sym, ap, List, [], ◌∷◌, ◌++◌, length, map, take, drop, get_or}
use Rattle.std.specs.Prelude.{slice_set, slice_index_or, IfOk, Ok, Err}
use Rattle.std.specs.declared.result.Result.{Result}
use Rattle.std.proofs.lemmas.Grind.{common_steps}
use Rattle.std.proofs.lemmas.Bool.Decides.{nat_tests}
use Rattle.slice_atoms.specs.Numbers.{split_in}

pub map_set : {A B : Type 0} (f : A → B) (xs : List A) (i : ℕ) (v : A) → map f (slice_set xs i v) ≡ slice_set (map f xs) i (f v)
map_set f [] i v = refl
map_set f (x ∷ xs) zero v = refl
map_set f (x ∷ xs) (suc i) v = ap (λ ys. f x ∷ ys) (map_set f xs i v)

pub map_at : {A B : Type 0} (f : A → B) (xs : List A) (i : ℕ) (d : A) (e : B) → i < length xs → slice_index_or (map f xs) i e ≡ f (slice_index_or xs i d)
map_at f [] i d e h = absurd (omega arith)
map_at f (x ∷ xs) zero d e h = refl
map_at f (x ∷ xs) (suc i) d e h = map_at f xs i d e (omega arith)

pub all_ok : {T E : Type 0} (r : Result T E) (P Q : T → Type 0) → ((x : T) → P x → Q x) → IfOk r P → IfOk r Q
all_ok (Ok x) P Q f h = f x h
all_ok (Err e) P Q f h = tt

set_after : (ys : List ℕ) (l x r : ℕ) (rest : List ℕ) → slice_set (ys ++ l ∷ x ∷ rest) (length ys + 1) r ≡ ys ++ l ∷ r ∷ rest
set_after [] l x r rest = refl
set_after (y ∷ ys) l x r rest = ap (λ (n : ℕ). slice_set (y ∷ (ys ++ l ∷ x ∷ rest)) n r) (let e : length (y ∷ ys) + 1 ≡ suc (length ys + 1) = omega arith in e) ∙ ap (λ (zs : List ℕ). y ∷ zs) (set_after ys l x r rest)

pub split_put : (old l r : ℕ) (xs : List ℕ) (i d : ℕ) → i < length xs → get_or xs i d ≡ old → take i xs ++ split_in old l r (drop i xs) ≡ split_in old l r xs
    → slice_set (take i xs ++ l ∷ drop i xs) (i + 1) r ≡ split_in old l r xs
split_put old l r xs i d h e f =
    let p : drop i xs ≡ old ∷ drop (i + 1) xs = grind (arith, common_steps) in
    let q : split_in old l r (old ∷ drop (i + 1) xs) ≡ l ∷ r ∷ drop (i + 1) xs = grind (arith, nat_tests) in
    let n : length (take i xs) ≡ i = grind (arith, common_steps) in
    (λ j. slice_set (take i xs ++ l ∷ p j) (sym n j + 1) r)
    ∙ set_after (take i xs) l old r (drop (i + 1) xs)
    ∙ sym (ap (λ (ys : List ℕ). take i xs ++ ys) (ap (split_in old l r) p ∙ q))
    ∙ f
