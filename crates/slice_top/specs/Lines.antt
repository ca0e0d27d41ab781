-- The first line of some bytes.
use Rattle.std.specs.Prelude.{◌+◌, ℕ, nat_eq, List, length, Option, None, Some}
use Rattle.std.specs.List.{position}

-- where the first LF stands
abbrev pub first_end : List ℕ → Option ℕ
first_end bytes = position (λ b. nat_eq b 10) bytes

-- how many of so many bytes the first line has, by where its LF stands
abbrev pub length_to : ℕ → Option ℕ → ℕ
length_to count None = count
length_to count (Some at) = at + 1

-- how many bytes the first line has, with its LF; all of them where there is none
abbrev pub first_line_length : List ℕ → ℕ
first_line_length bytes = length_to (length bytes) (first_end bytes)
