-- What a page holds is the canonical text of the tokens that it took.
use Rattle.std.proofs.Common.{◌≡◌, ℕ, zero, suc, ◌+◌, ◌≤◌, ◌<◌, ◌^◌, ◌%◌, Bool, true, false, ◌&&◌, ◌||◌, not, List, [], ◌∷◌, ◌++◌, map, codes, decimal, if◌then◌else◌, refl, sym, ap, ◌∙◌, append_assoc, add-one, arith}
use Rattle.std.specs.Prelude.{bytes_eq}
use Rattle.std.proofs.lemmas.Fmt.{decimal_by_steps}
use Rattle.std.proofs.lemmas.Slice.Eq.{bytes_eq-Decides}
use Rattle.slice_num.specs.Name.{is_among, is_digit}
use Rattle.slice_ast.specs.Code.{PlainProgram, PlainProc}
use Rattle.std.proofs.lemmas.Bool.Decides.{nat_tests}
use Rattle.slice_ast.specs.Tokens.{Mark, text_of, procs_marks, protocol_marks, program_marks}
use Rattle.slice_ast.specs.Taking.{taken}
use Rattle.slice_ast.specs.Layout.{depth_after, indent, new_line, gap, laid_after, canonical, canonical_text}
use Rattle.slice_ast.specs.Paging.{Layout, last_of, gap_after, placed}
use Rattle.slice_ast.specs.declared.page.Last.{Last}
use Rattle.slice_ast.specs.declared.page.Last.TheVariants.{Nothing, LineEnd, Brace, Tight, Loose}

-- two spaces more, at the end
pub indent-suc : (n : ℕ) → indent (n + 1) ≡ indent n ++ 32 ∷ 32 ∷ []
indent-suc n = rw add-one (later n)
  where
    later : (n : ℕ) → indent (suc n) ≡ indent n ++ 32 ∷ 32 ∷ []
    later zero = refl
    later (suc n) = ap (λ xs. 32 ∷ 32 ∷ xs) (later n)

pub indent-push : (text : List ℕ) (n : ℕ) → (text ++ indent n) ++ 32 ∷ 32 ∷ [] ≡ text ++ indent (n + 1)
indent-push text n = append_assoc text (indent n) (32 ∷ 32 ∷ []) ∙ ap (λ xs. text ++ xs) (sym (indent-suc n))

pub ruleset indenting = indent-push

-- `}` isn't among the signs without a space after them
brace-tight : (token : List ℕ) → bytes_eq token (codes "}") ≡ true → is_among token (codes "(" ∷ codes "/" ∷ []) ≡ false
brace-tight token e = ap (λ t. is_among t (codes "(" ∷ codes "/" ∷ [])) ((bytes_eq-Decides token (codes "}")).0 e)

-- `else` and `as` aren't among those without a space before them
word-joined : (next : List ℕ) → is_among next (codes "else" ∷ codes "as" ∷ []) ≡ true → is_among next (codes "," ∷ codes ";" ∷ codes ")" ∷ codes "(" ∷ codes "/" ∷ []) ≡ false
word-joined next e = by_test (bytes_eq next (codes "else")) (bytes_eq next (codes "as")) refl refl e
  where
    joined : List ℕ → Bool
    joined t = is_among t (codes "," ∷ codes ";" ∷ codes ")" ∷ codes "(" ∷ codes "/" ∷ [])

    by_test : (a b : Bool) → bytes_eq next (codes "else") ≡ a → bytes_eq next (codes "as") ≡ b → (a || (b || false)) ≡ true → is_among next (codes "," ∷ codes ";" ∷ codes ")" ∷ codes "(" ∷ codes "/" ∷ []) ≡ false
    by_test true b p q h = ap (λ t. is_among t (codes "," ∷ codes ";" ∷ codes ")" ∷ codes "(" ∷ codes "/" ∷ [])) ((bytes_eq-Decides next (codes "else")).0 p)
    by_test false true p q h = ap (λ t. is_among t (codes "," ∷ codes ";" ∷ codes ")" ∷ codes "(" ∷ codes "/" ∷ [])) ((bytes_eq-Decides next (codes "as")).0 q)
    by_test false false p q h = cc

-- the gap by the kind of the token before it
by_tests : Bool → Bool → Bool → Bool → Bool → List ℕ → List ℕ
by_tests a b c e j line = if a || (b && not e) then line else (if c || j then [] else codes " ")

kind_of : Bool → Bool → Bool → Last
kind_of a b c = if a then LineEnd else (if b then Brace else (if c then Tight else Loose))

by_kind : Last → Bool → Bool → List ℕ → List ℕ
by_kind Nothing e j line = []
by_kind LineEnd e j line = line
by_kind Brace e j line = if e then codes " " else line
by_kind Tight e j line = []
by_kind Loose e j line = if j then [] else codes " "

same_gap : (a b c e j : Bool) (line : List ℕ) → (b ≡ true → c ≡ false) → (e ≡ true → j ≡ false) → by_kind (kind_of a b c) e j line ≡ by_tests a b c e j line
unfolding by_tests kind_of by_kind
same_gap true b c e j line p q = refl
same_gap false true c true j line p q = rw (p refl, q refl) refl
same_gap false true c false j line p q = refl
same_gap false false true e j line p q = refl
same_gap false false false e true line p q = refl
same_gap false false false e false line p q = refl

gap_after-by_kind : (l : Last) (depth : ℕ) (next : List ℕ)
    → gap_after l depth next ≡ by_kind l (is_among next (codes "else" ∷ codes "as" ∷ [])) (is_among next (codes "," ∷ codes ";" ∷ codes ")" ∷ codes "(" ∷ codes "/" ∷ [])) (new_line depth next)
unfolding by_kind
gap_after-by_kind Nothing depth next = refl
gap_after-by_kind LineEnd depth next = refl
gap_after-by_kind Brace depth next = refl
gap_after-by_kind Tight depth next = refl
gap_after-by_kind Loose depth next = refl

-- the gap that a page leaves is the one of the layout
gap_after-last_of : (token next : List ℕ) (depth : ℕ) → gap_after (last_of token) depth next ≡ gap depth token next
unfolding by_tests kind_of
gap_after-last_of token next depth =
    gap_after-by_kind (last_of token) depth next
    ∙ same_gap (is_among token (codes "{" ∷ codes ";" ∷ [])) (bytes_eq token (codes "}")) (is_among token (codes "(" ∷ codes "/" ∷ []))
    (is_among next (codes "else" ∷ codes "as" ∷ [])) (is_among next (codes "," ∷ codes ";" ∷ codes ")" ∷ codes "(" ∷ codes "/" ∷ [])) (new_line depth next)
    (brace-tight token) (word-joined next)

-- a page that took a token, and then others
text-taken : (xs : List Mark) (page : Layout) (token : List ℕ) → page.last ≡ last_of token → (taken placed page xs).text ++ 10 ∷ [] ≡ page.text ++ laid_after page.depth token (map text_of xs)
text-taken [] page token e = refl
text-taken (x ∷ xs) page token e =
    let next = text_of x in
    let rest = laid_after (depth_after page.depth next) next (map text_of xs) in
    let g = ap (λ l. gap_after l page.depth next) e ∙ gap_after-last_of token next page.depth in
    text-taken xs (placed page next) next refl
    ∙ append_assoc (page.text ++ gap_after page.last page.depth next) next rest
    ∙ append_assoc page.text (gap_after page.last page.depth next) (next ++ rest)
    ∙ ap (λ ys. page.text ++ (ys ++ (next ++ rest))) g

-- a page that took one token or more
text-canonical : (x : Mark) (xs : List Mark) → (taken placed (record { text = []; last = Nothing; depth = 0 }) (x ∷ xs)).text ++ 10 ∷ [] ≡ canonical (map text_of (x ∷ xs))
text-canonical x xs = text-taken xs (placed (record { text = []; last = Nothing; depth = 0 }) (text_of x)) (text_of x) refl

-- the list isn't empty
IsSome : List Mark → Type 0
IsSome [] = ⊥
IsSome (x ∷ xs) = Unit {0}

text-some : (xs : List Mark) → IsSome xs → (taken placed (record { text = []; last = Nothing; depth = 0 }) xs).text ++ 10 ∷ [] ≡ canonical (map text_of xs)
unfolding IsSome
text-some [] h = absurd h
text-some (x ∷ xs) h = text-canonical x xs

some-procs : (procs : List PlainProc) (xs : List Mark) → IsSome xs → IsSome (procs_marks procs ++ xs)
unfolding IsSome
some-procs [] xs h = h
some-procs (p ∷ ps) xs h = tt

-- a program has a token
pub text-canonical_text : (p : PlainProgram) → (taken placed (record { text = []; last = Nothing; depth = 0 }) (program_marks p)).text ++ 10 ∷ [] ≡ canonical_text p
unfolding IsSome
text-canonical_text p = text-some (program_marks p) (some-procs p.procs (protocol_marks p.name p.agents p.body) tt)

-- a digit comes first
pub record StartsWithDigit (text : List ℕ) : Type 0 where
  pub first : ℕ
  pub rest : List ℕ
  pub is : text ≡ first ∷ rest
  pub low : 48 ≤ first
  pub high : first ≤ 57

-- a number begins with a digit
pub decimal-starts : (n : ℕ) → n < 2 ^ 64 → StartsWithDigit (decimal n)
decimal-starts n h =
    decimal_by_steps (λ n ds. StartsWithDigit ds)
    (λ n b. record { first = 48 + n; rest = []; is = refl; low = omega arith; high = omega arith })
    (λ n ds b s. record { first = s.first; rest = s.rest ++ (48 + n % 10) ∷ []; is = ap (λ ys. ys ++ (48 + n % 10) ∷ []) s.is; low = s.low; high = s.high })
    n h

-- so it is no text that begins otherwise
other_first : (c x : ℕ) (cs xs : List ℕ) → 48 ≤ c → c ≤ 57 → is_digit x ≡ false → bytes_eq (c ∷ cs) (x ∷ xs) ≡ false
other_first c x cs xs low high h = grind (arith, nat_tests)

pub bytes_eq-number : (text : List ℕ) (x : ℕ) (xs : List ℕ) → StartsWithDigit text → is_digit x ≡ false → bytes_eq text (x ∷ xs) ≡ false
bytes_eq-number text x xs s h = rw s.is (other_first s.first x s.rest xs s.low s.high h)

-- a number is as `0` for the gap before it
gap_after-number : (last : Last) (depth : ℕ) (t : List ℕ) → StartsWithDigit t → gap_after last depth t ≡ gap_after last depth (codes "0")
gap_after-number Nothing depth t s = refl
gap_after-number LineEnd depth t s = simp (bytes_eq-number t 125 [] s refl)
gap_after-number Brace depth t s = simp (bytes_eq-number t 101 (codes "lse") s refl, bytes_eq-number t 97 (codes "s") s refl, bytes_eq-number t 125 [] s refl)
gap_after-number Tight depth t s = refl
gap_after-number Loose depth t s =
    simp (bytes_eq-number t 44 [] s refl, bytes_eq-number t 59 [] s refl, bytes_eq-number t 41 [] s refl, bytes_eq-number t 40 [] s refl, bytes_eq-number t 47 [] s refl)

placed-digits : (page : Layout) (t : List ℕ) → StartsWithDigit t → placed page t ≡ record { text = page.text ++ gap_after page.last page.depth (codes "0") ++ t; last = Loose; depth = page.depth }
placed-digits page t s =
    ap (λ g. record { text = page.text ++ g ++ t; last = last_of t; depth = depth_after page.depth t }) (gap_after-number page.last page.depth t s)
    ∙ simp (bytes_eq-number t 123 [] s refl, bytes_eq-number t 59 [] s refl, bytes_eq-number t 125 [] s refl, bytes_eq-number t 40 [] s refl, bytes_eq-number t 47 [] s refl)

-- a page after a number
pub placed-number : (page : Layout) (n : ℕ) → n < 2 ^ 64 → placed page (decimal n) ≡ record { text = page.text ++ gap_after page.last page.depth (codes "0") ++ decimal n; last = Loose; depth = page.depth }
placed-number page n h = placed-digits page (decimal n) (decimal-starts n h)

-- the same, as a page is written
pub number-put : (page : Layout) (n : ℕ) → n < 2 ^ 64 → (text middle new : List ℕ) (last : Last) (depth : ℕ) → record { text = text; last = last; depth = depth } ≡ page
    → middle ≡ text ++ gap_after last depth (codes "0") → new ≡ middle ++ decimal n → record { text = new; last = Loose; depth = depth } ≡ placed page (decimal n)
number-put page n h text middle new last depth v a b =
    ap (λ t. record { text = t; last = Loose; depth = depth }) (b ∙ ap (λ t. t ++ decimal n) a)
    ∙ sym (placed-number (record { text = text; last = last; depth = depth }) n h)
    ∙ ap (λ q. placed q (decimal n)) v

-- a page that took all of a program's tokens, and then the end of its last line
pub printed : (p : PlainProgram) (start inside new : List ℕ) (page : Layout) (last : Last) (depth : ℕ) → start ≡ [] → record { text = inside; last = last; depth = depth } ≡ page
    → page ≡ taken placed (record { text = start; last = Nothing; depth = 0 }) (program_marks p) → new ≡ inside ++ 10 ∷ [] → new ≡ canonical_text p
printed p start inside new page last depth n v a b =
    b ∙ ap (λ q. q.text ++ 10 ∷ []) (v ∙ a)
    ∙ ap (λ t. (taken placed (record { text = t; last = Nothing; depth = 0 }) (program_marks p)).text ++ 10 ∷ []) n
    ∙ text-canonical_text p
