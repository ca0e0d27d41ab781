-- The longest front of a list whose elements pass a test.
use Rattle.std.proofs.Common.{◌≡◌, ℕ, suc, ◌+◌, ◌<◌, ◌≤◌, Bool, true, false, List, [], ◌∷◌, ◌++◌, length, take, drop, get_or, refl, ap, ◌∙◌, ⊎_elim, arith}
use Rattle.std.specs.List.{list_all, prefix_len}
use Rattle.std.proofs.lemmas.Bool.{and_parts, and_from, cases_Bool, cond-true, cond-false}
use Rattle.std.proofs.lemmas.List.{drop_more}
use Rattle.std.proofs.lemmas.List.Sums.{prefix_len-le-length}
use Rattle.slice_lex.specs.Text.{begins}

pub prefix_first : (p : ℕ → Bool) (c : ℕ) (cs : List ℕ) → p c ≡ true → prefix_len p (c ∷ cs) ≡ suc (prefix_len p cs)
prefix_first p c cs h = cond-true (p c) (1 + prefix_len p cs) 0 h ∙ omega arith

pub prefix_none : (p : ℕ → Bool) (bytes : List ℕ) → begins p bytes ≡ false → prefix_len p bytes ≡ 0
prefix_none p [] h = refl
prefix_none p (c ∷ cs) h = cond-false (p c) _ _ h

pub prefix_within : (p : ℕ → Bool) (bytes : List ℕ) → prefix_len p bytes ≤ length bytes
prefix_within p bytes = prefix_len-le-length p bytes

-- it passes, and what comes behind it doesn't
pub front_passes : (p : ℕ → Bool) (bytes : List ℕ) → list_all p (take (prefix_len p bytes) bytes) ≡ true
front_passes p [] = refl
front_passes p (c ∷ cs) =
    ⊎_elim
    (λ h. ap (λ n. list_all p (take n (c ∷ cs))) (prefix_first p c cs h) ∙ and_from (p c) _ h (front_passes p cs))
    (λ h. ap (λ n. list_all p (take n (c ∷ cs))) (prefix_none p (c ∷ cs) h))
    (cases_Bool (p c))

pub front_ends : (p : ℕ → Bool) (bytes : List ℕ) → begins p (drop (prefix_len p bytes) bytes) ≡ false
front_ends p [] = refl
front_ends p (c ∷ cs) =
    ⊎_elim
    (λ h. ap (λ n. begins p (drop n (c ∷ cs))) (prefix_first p c cs h) ∙ front_ends p cs)
    (λ h. ap (λ n. begins p (drop n (c ∷ cs))) (prefix_none p (c ∷ cs) h) ∙ h)
    (cases_Bool (p c))

-- and that tells which front it is
pub front_is : (p : ℕ → Bool) (front rest : List ℕ) → list_all p front ≡ true → begins p rest ≡ false → prefix_len p (front ++ rest) ≡ length front
front_is p [] rest all end = prefix_none p rest end
front_is p (c ∷ cs) rest all end =
    let h = and_parts (p c) (list_all p cs) all in
    prefix_first p c (cs ++ rest) h.0 ∙ ap suc (front_is p cs rest h.1 end)

pub begins_at : (p : ℕ → Bool) (bytes : List ℕ) (at : ℕ) (b : Bool) → at < length bytes → p (get_or bytes at 0) ≡ b → begins p (drop at bytes) ≡ b
begins_at p bytes at b below h = ap (begins p) (drop_more bytes at 0 below) ∙ h
