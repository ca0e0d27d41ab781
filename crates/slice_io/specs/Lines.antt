-- The lines of a file, and what reading one of them says under limits.
use Rattle.std.specs.Prelude.{◌≡◌, ℕ, zero, suc, ◌+◌, ◌-◌, ◌<◌, ◌≤◌, ◌==◌, ⊤, List, [], ◌∷◌, ◌++◌, length, Bool, if◌then◌else◌}
use Rattle.std.specs.declared.option.Option.{Option}
use Rattle.std.specs.declared.option.Option.TheVariants.{None, Some}
use Rattle.slice_io.specs.Causes.{counted}
use Rattle.slice_io.specs.declared.lines.LineFault.{LineFault}
use Rattle.slice_io.specs.declared.lines.LineFault.TheVariants.{ReadFault, LineTooLong, TooLong, Memory}

-- the bytes before the first LF, which is 10, or all
abbrev pub first_line : List ℕ → List ℕ
first_line [] = []
first_line (c ∷ cs) = if c == 10 then [] else c ∷ first_line cs

-- what stands after the first LF
abbrev pub after_line : List ℕ → List ℕ
after_line [] = []
after_line (c ∷ cs) = if c == 10 then cs else after_line cs

-- how many bytes the first line has, with its LF where there is one
abbrev pub line_bytes : List ℕ → ℕ
line_bytes [] = 0
line_bytes (c ∷ cs) = if c == 10 then 1 else suc (line_bytes cs)

-- a byte before the first of the lines
abbrev pub first_with : ℕ → List (List ℕ) → List (List ℕ)
first_with c [] = (c ∷ []) ∷ []
first_with c (l ∷ ls) = (c ∷ l) ∷ ls

-- the lines of a file: each ends at LF, the last needs none, and an empty file has no line
abbrev pub lines_of : List ℕ → List (List ℕ)
lines_of [] = []
lines_of (c ∷ cs) = if c == 10 then [] ∷ lines_of cs else first_with c (lines_of cs)

-- what is left of the file after so many lines
abbrev pub rest_from : ℕ → List ℕ → List ℕ
rest_from zero file = file
rest_from (suc i) file = after_line (rest_from i file)

-- how many bytes stand before that
abbrev pub start_of : ℕ → List ℕ → ℕ
start_of i file = length file - length (rest_from i file)

-- line i of a file, from 0, under the limits of a line's bytes without LF and of a file's bytes; none after the last
abbrev pub LineIs : ℕ → ℕ → List ℕ → ℕ → Option (List ℕ) → Type 0
LineIs line_limit limit file i None = rest_from i file ≡ []
LineIs line_limit limit file i (Some line) =
    (0 < length (rest_from i file)) × (line ≡ first_line (rest_from i file)) × (length line ≤ line_limit)
    × (start_of i file + line_bytes (rest_from i file) ≤ limit)

-- why line i is refused: the fault whose byte comes first, that of the line where both belong to one byte
abbrev pub LineRefused : ℕ → ℕ → List ℕ → ℕ → LineFault → Type 0
LineRefused line_limit limit file i (LineTooLong line) =
    (line ≡ counted i) × (line_limit < length (first_line (rest_from i file))) × (start_of i file + line_limit ≤ limit)
LineRefused line_limit limit file i TooLong =
    (limit < start_of i file + line_bytes (rest_from i file))
    × (line_limit < length (first_line (rest_from i file)) → limit < start_of i file + line_limit)
LineRefused line_limit limit file i ReadFault = ⊤
LineRefused line_limit limit file i Memory = ⊤

-- a reader: its file's name, its limits, how many lines it gave, how many bytes it looked at,
-- the line that it reads or gave, and the bytes that were read and not looked at
pub record Reading : Type 0 where
  pub name : List ℕ
  pub line_limit : ℕ
  pub limit : ℕ
  pub given : ℕ
  pub place : ℕ
  pub line : List ℕ
  pub ahead : List ℕ

-- the reader stands in that file after the lines that it gave
pub record StandsIn (r : Reading) (file : List ℕ) : Type 0 where
  pub place : r.place ≡ start_of r.given file
  pub later : List ℕ
  pub whole : rest_from r.given file ≡ r.ahead ++ later

-- a reader that looked at nothing
abbrev pub fresh : List ℕ → ℕ → ℕ → Reading
fresh name line_limit limit = record { name = name; line_limit = line_limit; limit = limit; given = 0; place = 0; line = []; ahead = [] }

-- the file and the limits of a reader stay
abbrev pub IsSameReader : Reading → Reading → Type 0
IsSameReader old new = (new.name ≡ old.name) × (new.line_limit ≡ old.line_limit) × (new.limit ≡ old.limit)

-- the line where the reader went on to one
abbrev pub line_given : Bool → Reading → Option (List ℕ)
line_given more r = if more then Some r.line else None

-- how many lines were given then
abbrev pub given_after : ℕ → Bool → ℕ
given_after n more = if more then n + 1 else n
