-- What the private functions of a reader say of a line that is read in parts.
use Rattle.std.specs.Prelude.{◌≡◌, ℕ, suc, ◌+◌, ◌==◌, List, [], ◌∷◌, ◌++◌, length, Bool, true, false, if◌then◌else◌}
use Rattle.slice_io.specs.Lines.{Reading, first_line, after_line, line_bytes, rest_from, start_of}

-- there is an LF
abbrev pub has_end : List ℕ → Bool
has_end [] = false
has_end (c ∷ cs) = if c == 10 then true else has_end cs

-- the reader has a part of the line that follows those that it gave
pub record Gathers (r : Reading) (file : List ℕ) : Type 0 where
  pub later : List ℕ
  pub whole : rest_from r.given file ≡ r.line ++ (r.ahead ++ later)
  pub no_end : has_end r.line ≡ false
  pub place : r.place ≡ start_of r.given file + length r.line

-- the reader has that line, and stands after it
pub record HasGathered (r : Reading) (file : List ℕ) : Type 0 where
  pub place : r.place ≡ start_of (suc r.given) file
  pub later : List ℕ
  pub whole : rest_from (suc r.given) file ≡ r.ahead ++ later

-- the reader after it took what is ahead of the line's end, or all
abbrev pub after_part : Reading → Reading
after_part r = record r { place = r.place + line_bytes r.ahead; line = r.line ++ first_line r.ahead; ahead = after_line r.ahead }
