-- A gap is as long as what follows it allows.
use Rattle.std.proofs.Common.{◌≡◌, ℕ, Bool, true, false, List, [], ◌∷◌, ◌++◌, sym, refl, ap, ◌∙◌, subst, inl, inr, append_assoc}
use Rattle.std.specs.Prelude.{◌⊎◌, not}
use Rattle.std.specs.List.{list_all}
use Rattle.std.proofs.lemmas.Bool.{and_parts, or_left, true≢false, not-true}
use Rattle.slice_lex.specs.Text.{is_layout, is_line_end, is_gap_byte, begins, ends_line, Gap, no_gap, layout, comment}

cons_head : (x y : ℕ) (xs ys : List ℕ) → x ∷ xs ≡ y ∷ ys → x ≡ y
cons_head x y xs ys e = cc

cons_tail : (x y : ℕ) (xs ys : List ℕ) → x ∷ xs ≡ y ∷ ys → xs ≡ ys
cons_tail x y xs ys e = cc

nil_is_no_cons : (x : ℕ) (xs : List ℕ) → [] ≡ x ∷ xs → ⊥
nil_is_no_cons x xs e = cc

hash_is_no_layout : (c : ℕ) → is_layout c ≡ true → c ≡ 35 → ⊥
hash_is_no_layout c h e = true≢false (sym h ∙ ap is_layout e)

layout_begins : (c : ℕ) → is_layout c ≡ true → is_gap_byte c ≡ true
layout_begins c h = or_left (is_layout c) _ h

-- a gap that isn't empty begins with a byte of layout or `#`
pub gap_first : {gap after : List ℕ} → Gap gap after → (gap ≡ []) ⊎ ((more : List ℕ) → begins is_gap_byte (gap ++ more) ≡ true)
gap_first (no_gap after) = inl refl
gap_first (layout c gap after h g) = inr (λ more. layout_begins c h)
gap_first (comment text gap after h end g) = inr (λ more. refl)

not_both : (b : Bool) → b ≡ true → b ≡ false → ⊥
not_both b h k = true≢false (sym h ∙ k)

begins_gap_false : (a b : List ℕ) → a ≡ b → begins is_gap_byte a ≡ false → begins is_gap_byte b ≡ true → ⊥
begins_gap_false a b e h k = not_both (begins is_gap_byte b) k (sym (ap (begins is_gap_byte) e) ∙ h)

-- two comments that end where their lines do have one text
comments_same : (a b x y : List ℕ) → list_all (λ c. not (is_line_end c)) a ≡ true → list_all (λ c. not (is_line_end c)) b ≡ true → ends_line x ≡ true → ends_line y ≡ true → a ++ x ≡ b ++ y → (a ≡ b) × (x ≡ y)
comments_same [] [] x y p q h k e = (refl, e)
comments_same [] (d ∷ b) x y p q h k e =
    let here : ends_line (d ∷ (b ++ y)) ≡ true = subst (λ z. ends_line z ≡ true) e h in
    absurd (not_both (is_line_end d) here (not-true _ (and_parts (not (is_line_end d)) _ q).0))
comments_same (c ∷ a) [] x y p q h k e =
    let here : ends_line (c ∷ (a ++ x)) ≡ true = subst (λ z. ends_line z ≡ true) (sym e) k in
    absurd (not_both (is_line_end c) here (not-true _ (and_parts (not (is_line_end c)) _ p).0))
comments_same (c ∷ a) (d ∷ b) x y p q h k e =
    let r = comments_same a b x y (and_parts (not (is_line_end c)) _ p).1 (and_parts (not (is_line_end d)) _ q).1 h k (cons_tail c d (a ++ x) (b ++ y) e) in
    let first = cons_head c d (a ++ x) (b ++ y) e in
    (ap (λ z. z ∷ a) first ∙ ap (λ z. d ∷ z) r.0, r.1)

-- two gaps before what begins no gap are one
pub gaps_same : {g a : List ℕ} → Gap g a → (k b : List ℕ) → Gap k b → g ++ a ≡ k ++ b → begins is_gap_byte a ≡ false → begins is_gap_byte b ≡ false → (g ≡ k) × (a ≡ b)
gaps_same (no_gap a) k b (no_gap b2) e p q = (refl, e)
gaps_same (no_gap a) k b (layout d k2 b2 h more) e p q = absurd (begins_gap_false a _ e p (layout_begins d h))
gaps_same (no_gap a) k b (comment text k2 b2 h end more) e p q = absurd (begins_gap_false a _ e p refl)
gaps_same (layout c g a h more) k b (no_gap b2) e p q = absurd (begins_gap_false _ _ (sym e) q (layout_begins c h))
gaps_same (layout c g a h more) k b (layout d k2 b2 h2 more2) e p q =
    let r = gaps_same more k2 b2 more2 (cons_tail c d (g ++ a) (k2 ++ b2) e) p q in
    (ap (λ z. z ∷ g) (cons_head c d (g ++ a) (k2 ++ b2) e) ∙ ap (λ z. d ∷ z) r.0, r.1)
gaps_same (layout c g a h more) k b (comment text k2 b2 h2 end more2) e p q =
    absurd (hash_is_no_layout c h (cons_head c 35 (g ++ a) ((text ++ k2) ++ b2) e))
gaps_same (comment text g a h end more) k b (no_gap b2) e p q = absurd (begins_gap_false _ _ (sym e) q refl)
gaps_same (comment text g a h end more) k b (layout d k2 b2 h2 more2) e p q =
    absurd (hash_is_no_layout d h2 (sym (cons_head 35 d ((text ++ g) ++ a) (k2 ++ b2) e)))
gaps_same (comment text g a h end more) k b (comment text2 k2 b2 h2 end2 more2) e p q =
    let tails : text ++ (g ++ a) ≡ text2 ++ (k2 ++ b2) = sym (append_assoc text g a) ∙ cons_tail 35 35 ((text ++ g) ++ a) ((text2 ++ k2) ++ b2) e ∙ append_assoc text2 k2 b2 in
    let c = comments_same text text2 (g ++ a) (k2 ++ b2) h h2 end end2 tails in
    let r = gaps_same more k2 b2 more2 c.1 p q in
    (ap (λ z. 35 ∷ (z ++ g)) c.0 ∙ ap (λ z. 35 ∷ (text2 ++ z)) r.0, r.1)
