-- A canonical text spells its tokens.
use Rattle.std.proofs.Common.{◌≡◌, ℕ, zero, suc, ◌-◌, Bool, true, false, ◌&&◌, ◌||◌, List, [], ◌∷◌, ◌++◌, codes, if◌then◌else◌, refl, sym, ap, subst}
use Rattle.std.specs.Prelude.{bytes_eq}
use Rattle.std.proofs.lemmas.Slice.Eq.{bytes_eq-Decides}
use Rattle.slice_num.specs.Name.{is_among}
use Rattle.slice_lex.specs.Text.{is_number, is_word_or_number, Gap, no_gap, layout, need_gap, Follow, Spells}
use Rattle.slice_ast.specs.Spellable.{Each}
use Rattle.slice_ast.specs.Layout.{ends_line, touches, depth_after, indent, new_line, gap, laid_after, canonical}

-- what holds of each of a list holds of what is among it
at_among : (P : List ℕ → Type 0) (t : List ℕ) (ws : List (List ℕ)) → Each P ws → is_among t ws ≡ true → P t
at_among P t [] h e = cc
at_among P t (w ∷ ws) h e = by_test (bytes_eq t w) refl e (at_among P t ws h.1)
  where
    by_test : (b : Bool) → bytes_eq t w ≡ b → (b || is_among t ws) ≡ true → (is_among t ws ≡ true → P t) → P t
    by_test true q k there = subst P (sym ((bytes_eq-Decides t w).0 q)) h.0
    by_test false q k there = there k

Apart : List ℕ → Type 0
Apart t = is_word_or_number t ≡ false

sign_before : (t : List ℕ) → is_among t (codes "(" ∷ codes "/" ∷ []) ≡ true → Apart t
unfolding is_number Apart
sign_before t e = at_among Apart t (codes "(" ∷ codes "/" ∷ []) (refl, (refl, tt)) e

sign_after : (t : List ℕ) → is_among t (codes "," ∷ codes ";" ∷ codes ")" ∷ codes "(" ∷ codes "/" ∷ []) ≡ true → Apart t
unfolding is_number Apart
sign_after t e = at_among Apart t (codes "," ∷ codes ";" ∷ codes ")" ∷ codes "(" ∷ codes "/" ∷ []) (refl, (refl, (refl, (refl, (refl, tt))))) e

-- spaces are a gap
indent-Gap : (n : ℕ) (after : List ℕ) → Gap (indent n) after
indent-Gap zero after = no_gap after
indent-Gap (suc n) after = layout 32 (32 ∷ indent n) after refl (layout 32 (indent n) after refl (indent-Gap n after))

by_tests : (a b : Bool) (n : ℕ) (after : List ℕ) → Gap (if a then 10 ∷ indent n else (if b then [] else codes " ")) after
by_tests true b n after = layout 10 (indent n) after refl (indent-Gap n after)
by_tests false true n after = no_gap after
by_tests false false n after = layout 32 [] after refl (no_gap after)

-- what the layout puts between two tokens is a gap
gap-Gap : (depth : ℕ) (t next after : List ℕ) → Gap (gap depth t next) after
gap-Gap depth t next after = by_tests (ends_line t next) (touches t next) (if bytes_eq next (codes "}") then depth - 1 else depth) after

-- and it is empty only beside a sign
gap-empty : (depth : ℕ) (t next : List ℕ) (texts : List (List ℕ)) → gap depth t next ≡ [] → need_gap t (next ∷ texts) ≡ false
unfolding Apart
gap-empty depth t next texts e =
    by_test (ends_line t next) (is_among t (codes "(" ∷ codes "/" ∷ [])) (is_among next (codes "," ∷ codes ";" ∷ codes ")" ∷ codes "(" ∷ codes "/" ∷ [])) refl refl e
  where
    both : (a b : Bool) → b ≡ false → (a && b) ≡ false
    both true b h = h
    both false b h = refl

    by_test : (a b c : Bool) → is_among t (codes "(" ∷ codes "/" ∷ []) ≡ b → is_among next (codes "," ∷ codes ";" ∷ codes ")" ∷ codes "(" ∷ codes "/" ∷ []) ≡ c
        → (if a then new_line depth next else (if b || c then [] else codes " ")) ≡ [] → (is_word_or_number t && is_word_or_number next) ≡ false
    by_test true b c p q h = cc
    by_test false true c p q h = ap (λ x. x && is_word_or_number next) (sign_before t p)
    by_test false false true p q h = both (is_word_or_number t) (is_word_or_number next) (sign_after next q)
    by_test false false false p q h = cc

-- a token and what is laid out after it
follow-laid : (depth : ℕ) (t : List ℕ) (texts : List (List ℕ)) → Follow (t ∷ texts) (t ++ laid_after depth t texts)
follow-laid depth t [] = (10 ∷ [], ([], (refl, layout 10 [] [] refl (no_gap []), λ h. refl, refl)))
follow-laid depth t (next ∷ texts) =
    (gap depth t next, (next ++ laid_after (depth_after depth next) next texts, (refl, gap-Gap depth t next _, gap-empty depth t next texts, follow-laid (depth_after depth next) next texts)))

pub spells-canonical : (texts : List (List ℕ)) → Spells (canonical texts) texts
spells-canonical [] = ([], ([], (refl, no_gap [], refl)))
spells-canonical (t ∷ texts) = ([], (canonical (t ∷ texts), (refl, no_gap _, follow-laid (depth_after 0 t) t texts)))
