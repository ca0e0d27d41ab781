-- The last line of a text.
use Rattle.std.proofs.Common.{◌≡◌, ◌∙◌, ap, refl, ℕ, List, [], ◌∷◌, ◌++◌, append_assoc}
use Rattle.std.specs.Prelude.{◌==◌, Bool, true, false, if◌then◌else◌}
use Rattle.serde_json.specs.Data.{Data}
use Rattle.serde_json.specs.Written.{compact_text}
use Rattle.slice_io.specs.Lines.{first_with, lines_of}
use Rattle.slice_io.proofs.Gathering.{lines_joined}
use Rattle.slice_json.specs.Texts.{line_of}
use Rattle.slice_json.proofs.LineEnds.{no_end_in_text}
use Rattle.slice_top.specs.Demos.{last_of, last_line}
use Rattle.slice_top.specs.Reports.{AreLines, none, ended}

-- the lines before an LF come before those after it
record Splits (xs ys : List ℕ) : Type 0 where
  first : List ℕ
  more : List (List ℕ)
  are : lines_of (xs ++ 10 ∷ ys) ≡ first ∷ (more ++ lines_of ys)

split_at : (c : ℕ) (cs ys : List ℕ) (b : Bool) → (s : Splits cs ys)
    → (first : List ℕ) × (more : List (List ℕ)) × ((if b then [] ∷ lines_of (cs ++ 10 ∷ ys) else first_with c (lines_of (cs ++ 10 ∷ ys))) ≡ first ∷ (more ++ lines_of ys))
split_at c cs ys true s = ([], s.first ∷ s.more, ap (λ (ls : List (List ℕ)). [] ∷ ls) s.are)
split_at c cs ys false s = (c ∷ s.first, s.more, ap (first_with c) s.are)

splits : (xs ys : List ℕ) → Splits xs ys
splits [] ys = record { first = []; more = []; are = refl }
splits (c ∷ cs) ys = let s = split_at c cs ys (c == 10) (splits cs ys) in record { first = s.0; more = s.1; are = s.2 }

last_behind : (ls : List (List ℕ)) (line : List ℕ) → last_of (ls ++ line ∷ []) ≡ line ++ 10 ∷ []
last_behind [] line = refl
last_behind (l ∷ []) line = refl
last_behind (l ∷ k ∷ ls) line = last_behind (k ∷ ls) line

one_line_alone : (d : Data) → lines_of (line_of d) ≡ compact_text d ∷ []
one_line_alone d = lines_joined (compact_text d) [] (no_end_in_text d)

-- a line behind whole lines is the last
pub line_is_last : (out : List ℕ) (d : Data) → AreLines out → last_line (out ++ line_of d) ≡ line_of d
line_is_last out d (none e) = ap (λ xs. last_line (xs ++ line_of d)) e ∙ ap last_of (one_line_alone d)
line_is_last out d (ended before e) =
    let s = splits before (line_of d) in
    ap (λ xs. last_line (xs ++ line_of d)) e ∙ ap last_line (append_assoc before (10 ∷ []) (line_of d)) ∙ ap last_of s.are
    ∙ ap (λ ls. last_of (s.first ∷ (s.more ++ ls))) (one_line_alone d) ∙ last_behind (s.first ∷ s.more) (compact_text d)

-- so it is behind other lines
pub line_behind_is_last : (out : List ℕ) (before : List (List ℕ)) (d : Data) → lines_of (out ++ line_of d) ≡ before ++ lines_of (line_of d) → last_line (out ++ line_of d) ≡ line_of d
line_behind_is_last out before d e = ap last_of e ∙ ap (λ ls. last_of (before ++ ls)) (one_line_alone d) ∙ last_behind before (compact_text d)
