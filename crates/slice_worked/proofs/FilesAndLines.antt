-- Definitions computed on small files.
use Rattle.std.proofs.Common.{◌≡◌, [], ◌∷◌, refl}
use Rattle.std.specs.Prelude.{codes, None, Some}
use Rattle.slice_io.specs.Files.{Files, file_of}
use Rattle.slice_io.specs.Lines.{lines_of, first_line, line_bytes, rest_from, start_of}

-- of two files with one name the first counts, and a name is told whole
files : Files
files = (codes "a", codes "one") ∷ (codes "ab", codes "two") ∷ (codes "a", codes "three") ∷ []

the_first_counts : file_of (codes "a") files ≡ Some (codes "one")
unfolding files
the_first_counts = refl

no_front_of_a_name : file_of (codes "ab") files ≡ Some (codes "two")
unfolding files
no_front_of_a_name = refl

not_there : file_of (codes "b") files ≡ None
unfolding files
not_there = refl

-- a line ends at LF, the last one needs none
two_lines : lines_of (codes "a\nbc") ≡ codes "a" ∷ codes "bc" ∷ []
two_lines = refl

ended : lines_of (codes "a\nbc\n") ≡ codes "a" ∷ codes "bc" ∷ []
ended = refl

-- an empty file has no line, and an LF alone is an empty one
no_line : lines_of [] ≡ []
no_line = refl

empty_lines : lines_of (codes "\n\n") ≡ [] ∷ [] ∷ []
empty_lines = refl

-- after one line of "a", LF, "bc", LF
rest : rest_from 1 (codes "a\nbc\n") ≡ codes "bc\n"
rest = refl

start : start_of 1 (codes "a\nbc\n") ≡ 2
start = refl

first : first_line (codes "bc\n") ≡ codes "bc"
first = refl

with_its_end : line_bytes (codes "bc\n") ≡ 3
with_its_end = refl

without_end : line_bytes (codes "bc") ≡ 2
without_end = refl

past_the_last : rest_from 3 (codes "a\nbc\n") ≡ []
past_the_last = refl
