-- The running best is the first piece of greatest value.
use Rattle.std.proofs.Common.{◌≡◌, ℕ, Bool, true, false, cond, List, [], ◌∷◌, ◌++◌, refl, ap, ◌∙◌}
use Rattle.std.specs.Prelude.{◌&&◌}
use Rattle.slice_num.specs.Rational.{Rational, IsBelow, IsAtMost}
use Rattle.slice_num.proofs.FieldLaws.{below-is, below-not, at_most_below, weak, at_most_self}
use Rattle.slice_num.specs.Fitting.{at_most}
use Rattle.slice_expand.specs.ProgramRun.{is_greatest, behind_first, to_front, picked}

abbrev pub AllBelow : (ℕ → Rational) → ℕ → List ℕ → Type 0
AllBelow v best [] = Unit {0}
AllBelow v best (p ∷ ps) = IsBelow (v p) (v best) × AllBelow v best ps

abbrev pub AllAtMost : (ℕ → Rational) → ℕ → List ℕ → Type 0
AllAtMost v best [] = Unit {0}
AllAtMost v best (p ∷ ps) = IsAtMost (v p) (v best) × AllAtMost v best ps

pub all_below_append : (v : ℕ → Rational) (best : ℕ) (ps qs : List ℕ) → AllBelow v best ps → AllBelow v best qs → AllBelow v best (ps ++ qs)
all_below_append v best [] qs h k = k
all_below_append v best (p ∷ ps) qs h k = (h.0, all_below_append v best ps qs h.1 k)

pub all_at_most_append : (v : ℕ → Rational) (best : ℕ) (ps qs : List ℕ) → AllAtMost v best ps → AllAtMost v best qs → AllAtMost v best (ps ++ qs)
all_at_most_append v best [] qs h k = k
all_at_most_append v best (p ∷ ps) qs h k = (h.0, all_at_most_append v best ps qs h.1 k)

all_weak : (v : ℕ → Rational) (best : ℕ) (ps : List ℕ) → AllBelow v best ps → AllAtMost v best ps
all_weak v best [] h = tt
all_weak v best (p ∷ ps) h = (weak (v p) (v best) h.0, all_weak v best ps h.1)

-- a better one is above those that were at most the best
pub all_below_later : (v : ℕ → Rational) (best p : ℕ) → IsBelow (v best) (v p) → (ps : List ℕ) → AllAtMost v best ps → AllBelow v p ps
all_below_later v best p l [] h = tt
all_below_later v best p l (q ∷ ps) h = (at_most_below (v q) (v best) (v p) h.0 l, all_below_later v best p l ps h.1)

pub strictly_later : (v : ℕ → Rational) (best p : ℕ) → IsBelow (v best) (v p) → (ps : List ℕ) → AllBelow v best ps → AllBelow v p ps
strictly_later v best p l ps h = all_below_later v best p l ps (all_weak v best ps h)

at_most-is : (a b : Rational) → IsAtMost a b → at_most a b ≡ true
at_most-is a b h = ap (λ t. cond t false true) (below-not b a h)

at_most-not : (a b : Rational) → IsBelow b a → at_most a b ≡ false
at_most-not a b h = ap (λ t. cond t false true) (below-is b a h)

greatest-is : (v : ℕ → Rational) (best : ℕ) (ps : List ℕ) → AllAtMost v best ps → is_greatest v ps best ≡ true
greatest-is v best [] h = refl
greatest-is v best (p ∷ ps) h = ap (λ t. t && is_greatest v ps best) (at_most-is (v p) (v best) h.0) ∙ greatest-is v best ps h.1

and-false : (b : Bool) → (b && false) ≡ false
and-false true = refl
and-false false = refl

-- a smaller one isn't greatest
greatest-not : (v : ℕ → Rational) (best p : ℕ) → IsBelow (v p) (v best) → (before after : List ℕ) → is_greatest v (before ++ best ∷ after) p ≡ false
greatest-not v best p l [] after = ap (λ t. t && is_greatest v after p) (at_most-not (v best) (v p) l)
greatest-not v best p l (q ∷ qs) after = ap (λ t. at_most (v q) (v p) && t) (greatest-not v best p l qs after) ∙ and-false (at_most (v q) (v p))

to_front-is : (v : ℕ → Rational) (test : ℕ → Bool) (best : ℕ) (before after : List ℕ) → test best ≡ true → ((p : ℕ) → IsBelow (v p) (v best) → test p ≡ false) → AllBelow v best before
    → to_front test (before ++ best ∷ after) ≡ best ∷ (before ++ after)
to_front-is v test best [] after t f h = ap (λ b. cond b (best ∷ after) (behind_first best (to_front test after))) t
to_front-is v test best (p ∷ ps) after t f h =
    ap (λ b. cond b (p ∷ (ps ++ best ∷ after)) (behind_first p (to_front test (ps ++ best ∷ after)))) (f p h.0)
    ∙ ap (λ qs. behind_first p qs) (to_front-is v test best ps after t f h.1)

-- those before are below the best, and those after at most the best
pub picked-is : (v : ℕ → Rational) (best : ℕ) (before after : List ℕ) → AllBelow v best before → AllAtMost v best after → picked v (before ++ best ∷ after) ≡ best ∷ (before ++ after)
picked-is v best before after h k =
    to_front-is v (is_greatest v (before ++ best ∷ after)) best before after
    (greatest-is v best (before ++ best ∷ after) (all_at_most_append v best before (best ∷ after) (all_weak v best before h) (at_most_self (v best), k)))
    (λ p l. greatest-not v best p l before after) h
