-- The lines of a list that is told in parts.
use Rattle.std.proofs.lemmas.Bool.Decides.{nat_tests}
use Rattle.std.proofs.lemmas.List.{drop-drop}
use Rattle.std.specs.List.{Contains}
use Rattle.std.proofs.Common.{◌≡◌, ◌∙◌, ◌+◌, ◌<◌, ◌≤◌, ◌++◌, ◌==◌, ℕ, zero, suc, drop, List, [], ◌∷◌, length, ap, sym, refl, arith, Bool, true, false, if◌then◌else◌, true≢false}
use Rattle.slice_io.specs.Gathered.{has_end}
use Rattle.slice_io.specs.Lines.{first_line, after_line, line_bytes, first_with, lines_of, rest_from}

-- ---- the first part has no LF
pub first_past : (xs ys : List ℕ) → has_end xs ≡ false → first_line (xs ++ ys) ≡ xs ++ first_line ys
first_past [] ys = λ e. refl
first_past (c ∷ cs) ys = elim (c == 10) as (λ b. (if b then true else has_end cs) ≡ false → (if b then [] else c ∷ first_line (cs ++ ys)) ≡ c ∷ (cs ++ first_line ys)) [
  | true ↦ λ e. absurd (true≢false e)
  | false ↦ λ e. ap (λ (xs : List ℕ). c ∷ xs) (first_past cs ys e)
]

pub after_past : (xs ys : List ℕ) → has_end xs ≡ false → after_line (xs ++ ys) ≡ after_line ys
after_past [] ys = λ e. refl
after_past (c ∷ cs) ys = elim (c == 10) as (λ b. (if b then true else has_end cs) ≡ false → (if b then cs ++ ys else after_line (cs ++ ys)) ≡ after_line ys) [
  | true ↦ λ e. absurd (true≢false e)
  | false ↦ λ e. after_past cs ys e
]

pub bytes_past : (xs ys : List ℕ) → has_end xs ≡ false → line_bytes (xs ++ ys) ≡ length xs + line_bytes ys
bytes_past [] ys = λ e. omega arith
bytes_past (c ∷ cs) ys = elim (c == 10) as (λ b. (if b then true else has_end cs) ≡ false → (if b then 1 else suc (line_bytes (cs ++ ys))) ≡ suc (length cs) + line_bytes ys) [
  | true ↦ λ e. absurd (true≢false e)
  | false ↦ λ e. omega (arith, bytes_past cs ys e)
]

pub no_end_in : (xs ys : List ℕ) → has_end xs ≡ false → has_end ys ≡ false → has_end (xs ++ ys) ≡ false
no_end_in [] ys = λ e f. f
no_end_in (c ∷ cs) ys = elim (c == 10) as (λ b. (if b then true else has_end cs) ≡ false → has_end ys ≡ false → (if b then true else has_end (cs ++ ys)) ≡ false) [
  | true ↦ λ e f. e
  | false ↦ λ e f. no_end_in cs ys e f
]

-- ---- the first part has one
pub first_in : (xs ys : List ℕ) → has_end xs ≡ true → first_line (xs ++ ys) ≡ first_line xs
first_in [] ys = λ e. absurd (true≢false (sym e))
first_in (c ∷ cs) ys = elim (c == 10) as (λ b. (if b then true else has_end cs) ≡ true → (if b then [] else c ∷ first_line (cs ++ ys)) ≡ (if b then [] else c ∷ first_line cs)) [
  | true ↦ λ e. refl
  | false ↦ λ e. ap (λ (xs : List ℕ). c ∷ xs) (first_in cs ys e)
]

pub after_in : (xs ys : List ℕ) → has_end xs ≡ true → after_line (xs ++ ys) ≡ after_line xs ++ ys
after_in [] ys = λ e. absurd (true≢false (sym e))
after_in (c ∷ cs) ys = elim (c == 10) as (λ b. (if b then true else has_end cs) ≡ true → (if b then cs ++ ys else after_line (cs ++ ys)) ≡ (if b then cs else after_line cs) ++ ys) [
  | true ↦ λ e. refl
  | false ↦ λ e. after_in cs ys e
]

pub bytes_in : (xs ys : List ℕ) → has_end xs ≡ true → line_bytes (xs ++ ys) ≡ line_bytes xs
bytes_in [] ys = λ e. absurd (true≢false (sym e))
bytes_in (c ∷ cs) ys = elim (c == 10) as (λ b. (if b then true else has_end cs) ≡ true → (if b then 1 else suc (line_bytes (cs ++ ys))) ≡ (if b then 1 else suc (line_bytes cs))) [
  | true ↦ λ e. refl
  | false ↦ λ e. ap suc (bytes_in cs ys e)
]

-- ---- lengths
pub bytes_and_rest : (xs : List ℕ) → line_bytes xs + length (after_line xs) ≡ length xs
bytes_and_rest [] = refl
bytes_and_rest (c ∷ cs) = elim (c == 10) as (λ b. (if b then 1 else suc (line_bytes cs)) + length (if b then cs else after_line cs) ≡ suc (length cs)) [
  | true ↦ omega arith
  | false ↦ omega (arith, bytes_and_rest cs)
]

pub line_in_bytes : (xs : List ℕ) → length (first_line xs) ≤ line_bytes xs
line_in_bytes [] = omega arith
line_in_bytes (c ∷ cs) = elim (c == 10) as (λ b. length (if b then [] else c ∷ first_line cs) ≤ (if b then 1 else suc (line_bytes cs))) [
  | true ↦ omega arith
  | false ↦ omega (arith, line_in_bytes cs)
]

pub some_bytes : (c : ℕ) (cs : List ℕ) → 1 ≤ line_bytes (c ∷ cs)
some_bytes c cs = elim (c == 10) as (λ b. 1 ≤ (if b then 1 else suc (line_bytes cs))) [ true ↦ omega arith | false ↦ omega arith ]

pub first_alone : (xs : List ℕ) → has_end xs ≡ false → first_line xs ≡ xs
first_alone [] = λ e. refl
first_alone (c ∷ cs) = elim (c == 10) as (λ b. (if b then true else has_end cs) ≡ false → (if b then [] else c ∷ first_line cs) ≡ c ∷ cs) [
  | true ↦ λ e. absurd (true≢false e)
  | false ↦ λ e. ap (λ (xs : List ℕ). c ∷ xs) (first_alone cs e)
]

pub after_alone : (xs : List ℕ) → has_end xs ≡ false → after_line xs ≡ []
after_alone [] = λ e. refl
after_alone (c ∷ cs) = elim (c == 10) as (λ b. (if b then true else has_end cs) ≡ false → (if b then cs else after_line cs) ≡ []) [
  | true ↦ λ e. absurd (true≢false e)
  | false ↦ λ e. after_alone cs e
]

pub bytes_alone : (xs : List ℕ) → has_end xs ≡ false → line_bytes xs ≡ length xs
bytes_alone [] = λ e. refl
bytes_alone (c ∷ cs) = elim (c == 10) as (λ b. (if b then true else has_end cs) ≡ false → (if b then 1 else suc (line_bytes cs)) ≡ suc (length cs)) [
  | true ↦ λ e. absurd (true≢false e)
  | false ↦ λ e. ap suc (bytes_alone cs e)
]

-- ---- the lines of a file are the first line, and the lines of what stands after it
pub lines_step : (xs : List ℕ) → 0 < length xs → lines_of xs ≡ first_line xs ∷ lines_of (after_line xs)
lines_step [] lt = absurd (omega (arith, lt))
lines_step (c ∷ []) lt = elim (c == 10) as (λ b. (if b then [] ∷ [] else (c ∷ []) ∷ []) ≡ (if b then [] else c ∷ []) ∷ lines_of (if b then [] else [])) [ true ↦ refl | false ↦ refl ]
lines_step (c ∷ d ∷ ds) lt = elim (c == 10) as (λ b. (if b then [] ∷ lines_of (d ∷ ds) else first_with c (lines_of (d ∷ ds))) ≡ (if b then [] else c ∷ first_line (d ∷ ds)) ∷ lines_of (if b then d ∷ ds else after_line (d ∷ ds))) [
  | true ↦ refl
  | false ↦ ap (first_with c) (lines_step (d ∷ ds) (omega arith))
]

-- ---- and what is left after some lines has the lines that are left
pub lines_after : (xs : List ℕ) → lines_of (after_line xs) ≡ drop 1 (lines_of xs)
lines_after [] = refl
lines_after (c ∷ cs) = ap (drop 1) (sym (lines_step (c ∷ cs) (omega arith)))

pub lines_left : (i : ℕ) (file : List ℕ) → lines_of (rest_from i file) ≡ drop i (lines_of file)
lines_left zero file = refl
lines_left (suc i) file =
    let e : i + 1 ≡ suc i = omega arith in
    lines_after (rest_from i file) ∙ ap (drop 1) (lines_left i file) ∙ drop-drop 1 i (lines_of file) ∙ ap (λ (n : ℕ). drop n (lines_of file)) e

-- ---- a line and its LF before what stands after them
lines_joined_at : (c : ℕ) (cs rest : List ℕ) (b : Bool) → (c == 10) ≡ b → ¬ Contains (c ∷ cs) 10 → lines_of (cs ++ 10 ∷ rest) ≡ cs ∷ lines_of rest
    → (if b then [] ∷ lines_of (cs ++ 10 ∷ rest) else first_with c (lines_of (cs ++ 10 ∷ rest))) ≡ (c ∷ cs) ∷ lines_of rest
lines_joined_at c cs rest true e none is = let same : c ≡ 10 = grind (arith, nat_tests) in absurd (none (0, omega arith, same))
lines_joined_at c cs rest false e none is = ap (first_with c) is

pub lines_joined : (line rest : List ℕ) → ¬ Contains line 10 → lines_of (line ++ 10 ∷ rest) ≡ line ∷ lines_of rest
lines_joined [] rest none = refl
lines_joined (c ∷ cs) rest none = lines_joined_at c cs rest (c == 10) refl none (lines_joined cs rest (λ h. none (suc h.0, omega (arith, h.1), h.2)))
