-- The lines that are written, one after another.
use Rattle.std.proofs.Common.{◌≡◌, inl, inr, ℕ, suc, ◌+◌, ◌<◌, ◌≤◌, arith, refl, sym, ap, subst, List, [], ◌∷◌, ◌++◌, length}
use Rattle.slice_core.specs.Tree.{Core}
use Rattle.slice_cert.specs.declared.line.Line.{Line}
use Rattle.slice_check.specs.Upgrades.{AreShortened, IsShortened}

-- a line more whose goal is taken
pub shortened_over : (core : Core) (n taken : ℕ) (ls : List Line) (written : List Line) (last : ℕ) (l : Line) → AreShortened core n taken ls written last → n + length ls < last → AreShortened core n taken (ls ++ l ∷ []) written last
shortened_over core n taken [] written last l h lt = let e = h.1 in inl (omega (arith, lt, e), h)
shortened_over core n taken (x ∷ ls) written last l (inl h) lt = inl (h.0, shortened_over core (n + 1) taken ls written last l h.1 (omega (arith, lt)))
shortened_over core n taken (x ∷ ls) written last l (inr h) lt = inr (h.0, h.1, h.2, h.3, h.4, h.5, shortened_over core (n + 1) (n + h.2) ls h.3 last l h.6 (omega (arith, lt)))

-- a line more whose short form is written
pub shortened_more : (core : Core) (n taken : ℕ) (ls : List Line) (written : List Line) (last : ℕ) (l s : Line) (count : ℕ) → AreShortened core n taken ls written last → last ≤ n + length ls → IsShortened core (n + length ls) l s count
    → AreShortened core n taken (ls ++ l ∷ []) (written ++ s ∷ []) (n + length ls + count)
shortened_more core n taken [] written last l s count h le is =
    let none : n + 0 ≡ n = omega arith in
    let e = h.1 in
    inr (omega (arith, le, e), s, count, [], subst (λ (k : ℕ). IsShortened core k l s count) none is, ap (λ (ls : List Line). ls ++ s ∷ []) h.0, (refl, ap (λ (k : ℕ). k + count) none))
shortened_more core n taken (x ∷ ls) written last l s count (inl h) le is =
    let e : n + suc (length ls) ≡ n + 1 + length ls = omega arith in
    inl (
      h.0,
      subst (λ (k : ℕ). AreShortened core (n + 1) taken (ls ++ l ∷ []) (written ++ s ∷ []) (k + count)) (sym e)
          (shortened_more core (n + 1) taken ls written last l s count h.1 (omega (arith, le)) (subst (λ (k : ℕ). IsShortened core k l s count) e is)),
    )
shortened_more core n taken (x ∷ ls) written last l s count (inr h) le is =
    let e : n + suc (length ls) ≡ n + 1 + length ls = omega arith in
    inr (
      h.0,
      h.1,
      h.2,
      h.3 ++ s ∷ [],
      h.4,
      ap (λ (ks : List Line). ks ++ s ∷ []) h.5,
      subst (λ (k : ℕ). AreShortened core (n + 1) (n + h.2) (ls ++ l ∷ []) (h.3 ++ s ∷ []) (k + count)) (sym e)
          (shortened_more core (n + 1) (n + h.2) ls h.3 last l s count h.6 (omega (arith, le)) (subst (λ (k : ℕ). IsShortened core k l s count) e is)),
    )
