-- Pieces that are held: live, and no two of them the same.
use Rattle.std.proofs.Common.{◌≡◌, ◌≢◌, ℕ, zero, suc, ◌+◌, ◌<◌, ◌≤◌, Bool, true, List, [], ◌∷◌, ◌++◌, length, refl, ap, sym, subst, arith, length-append, append_assoc}
use Rattle.slice_core.specs.WellFormed.{IsLive, spent}

abbrev pub NotIn : ℕ → List ℕ → Type 0
NotIn p [] = Unit {0}
NotIn p (q ∷ qs) = (p ≢ q) × NotIn p qs

abbrev pub Good : List Bool → List ℕ → Type 0
Good live [] = Unit {0}
Good live (p ∷ ps) = IsLive live p × NotIn p ps × Good live ps

pub not_in_append : (p : ℕ) (xs ys : List ℕ) → NotIn p xs → NotIn p ys → NotIn p (xs ++ ys)
not_in_append p [] ys h g = g
not_in_append p (x ∷ xs) ys h g = (h.0, not_in_append p xs ys h.1 g)

pub not_in_left : (p : ℕ) (xs ys : List ℕ) → NotIn p (xs ++ ys) → NotIn p xs
not_in_left p [] ys h = tt
not_in_left p (x ∷ xs) ys h = (h.0, not_in_left p xs ys h.1)

pub not_in_right : (p : ℕ) (xs ys : List ℕ) → NotIn p (xs ++ ys) → NotIn p ys
not_in_right p [] ys h = h
not_in_right p (x ∷ xs) ys h = not_in_right p xs ys h.1

-- one of them is taken out
pub record Taken (live : List Bool) (p : ℕ) (rest : List ℕ) : Type 0 where
  pub live_one : IsLive live p
  pub apart : NotIn p rest
  pub good : Good live rest

pub good_take : (live : List Bool) (b : List ℕ) (p : ℕ) (a : List ℕ) → Good live (b ++ p ∷ a) → Taken live p (b ++ a)
good_take live [] p a h = record { live_one = h.0; apart = h.1; good = h.2 }
good_take live (x ∷ b) p a h =
    let k = good_take live b p a h.2 in
    let n = not_in_right x b (p ∷ a) h.1 in
    record { live_one = k.live_one; apart = ((λ e. n.0 (sym e)), k.apart); good = (h.0, not_in_append x b a (not_in_left x b (p ∷ a) h.1) n.1, k.good) }

-- and put in elsewhere
pub good_put : (live : List Bool) (b : List ℕ) (p : ℕ) (a : List ℕ) → Taken live p (b ++ a) → Good live (b ++ p ∷ a)
good_put live [] p a t = (t.live_one, t.apart, t.good)
good_put live (x ∷ b) p a t =
    let h = t.good in
    let n = t.apart in (
      h.0,
      not_in_append x b (p ∷ a) (not_in_left x b a h.1) ((λ e. n.0 (sym e)), not_in_right x b a h.1),
      good_put live b p a (record { live_one = t.live_one; apart = n.1; good = h.2 }),
    )

pub good_right : (live : List Bool) (xs ys : List ℕ) → Good live (xs ++ ys) → Good live ys
good_right live [] ys h = h
good_right live (x ∷ xs) ys h = good_right live xs ys h.2

set_other : (live : List Bool) (p q : ℕ) → p ≢ q → IsLive live q → IsLive (spent live p) q
set_other [] p q n h = h
set_other (b ∷ bs) zero zero n h = absurd (n refl)
set_other (b ∷ bs) zero (suc q) n h = h
set_other (b ∷ bs) (suc p) zero n h = h
set_other (b ∷ bs) (suc p) (suc q) n h = set_other bs p q (λ e. n (ap (λ k. suc k) e)) h

-- the others stay good
pub good_spent : (live : List Bool) (p : ℕ) (xs : List ℕ) → NotIn p xs → Good live xs → Good (spent live p) xs
good_spent live p [] n h = tt
good_spent live p (x ∷ xs) n h = (set_other live p x n.0 h.0, h.1, good_spent live p xs n.1 h.2)

live_more : (live more : List Bool) (q : ℕ) → IsLive live q → IsLive (live ++ more) q
live_more [] more q h = cc
live_more (b ∷ bs) more zero h = h
live_more (b ∷ bs) more (suc q) h = live_more bs more q h

pub good_more : (live more : List Bool) (xs : List ℕ) → Good live xs → Good (live ++ more) xs
good_more live more [] h = tt
good_more live more (x ∷ xs) h = (live_more live more x h.0, h.1, good_more live more xs h.2)

live_below : (live : List Bool) (q : ℕ) → IsLive live q → q < length live
live_below [] q h = cc
live_below (b ∷ bs) zero h = omega arith
live_below (b ∷ bs) (suc q) h = omega (arith, live_below bs q h)

above_apart : (n : ℕ) (live : List Bool) → length live ≤ n → (xs : List ℕ) → Good live xs → NotIn n xs
above_apart n live l [] h = tt
above_apart n live l (x ∷ xs) h = ((λ e. absurd (omega (arith, l, e, live_below live x h.0))), above_apart n live l xs h.2)

live_seam : (live more : List Bool) → IsLive (live ++ true ∷ more) (length live)
live_seam [] more = refl
live_seam (b ∷ bs) more = live_seam bs more

-- a new piece
pub good_new : (live : List Bool) (k : ℕ) (xs : List ℕ) → k ≡ length live → Good live xs → Good (live ++ true ∷ []) (k ∷ xs)
good_new live k xs e h =
    (subst (λ (n : ℕ). IsLive (live ++ true ∷ []) n) (sym e) (live_seam live []), above_apart k live (omega (arith, e)) xs h, good_more live (true ∷ []) xs h)

-- two new pieces, the second first
pub good_two : (live : List Bool) (k : ℕ) (xs : List ℕ) → k ≡ length live → Good live xs → Good (live ++ true ∷ true ∷ []) ((k + 1) ∷ k ∷ xs)
good_two live k xs e h =
    let one = good_new live k xs e h in
    let len : k + 1 ≡ length (live ++ true ∷ []) = omega (arith, e, length-append live (true ∷ [])) in
    subst (λ (l : List Bool). Good l ((k + 1) ∷ k ∷ xs)) (append_assoc live (true ∷ []) (true ∷ [])) (good_new (live ++ true ∷ []) (k + 1) (k ∷ xs) len one)
