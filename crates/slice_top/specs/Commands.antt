-- The commands, as rows of words.
use Rattle.std.specs.Prelude.{ℕ, ◌-◌, List, [], ◌∷◌, length, nat_lt, ◌&&◌, codes, if◌then◌else◌, option_map, Option, Some, None}
use Rattle.std.specs.Str.{bytes_eq}

-- what is asked for; files go by name, and `demo` by a number of rounds
pub data Command : Type 0 where
  check : (protocol : List ℕ) → Command
  print : (protocol : List ℕ) → Command
  paths : (protocol : List ℕ) → Command
  verify : (protocol : List ℕ) → Command
  run : (protocol values : List ℕ) → Command
  replay : (protocol values : List ℕ) → Command
  certify : (protocol certificate : List ℕ) → Command
  upgrade : (protocol certificate : List ℕ) → Command
  demo : (rounds : ℕ) → Command

-- the number of rounds that is written as one digit from 1 to 8
abbrev pub rounds_of : List ℕ → Option ℕ
rounds_of [] = None
rounds_of (digit ∷ []) = if nat_lt 48 digit && nat_lt digit 57 then Some (digit - 48) else None
rounds_of (digit ∷ next ∷ rest) = None

-- `demo N`: the protocol `rounds` of N rounds is made and verified, and its certificate checked
abbrev pub of_rounds : List ℕ → Option Command
of_rounds n = option_map demo (rounds_of n)

-- `check F`: the protocol in the file F is checked and counted; `print F`: it is written as its canonical text; `paths F`: what
-- has to be refuted of it is written; `verify F`: it is refuted, or met by a run; or `demo N`
abbrev pub of_one_word : List ℕ → List ℕ → Option Command
of_one_word word f =
    if bytes_eq word (codes "check") then Some (check f)
    else (if bytes_eq word (codes "print") then Some (print f)
    else (if bytes_eq word (codes "paths") then Some (paths f)
    else (if bytes_eq word (codes "verify") then Some (verify f)
    else (if bytes_eq word (codes "demo") then of_rounds f else None))))

-- `run F V`: the protocol in the file F is run on the valuations in the file V; `replay F V`: with the answers to its cuts
-- that stand there too; `certify F C`: the certificate in the file C is checked for it; `upgrade F C`: and written in version 2
abbrev pub of_two_files : List ℕ → List ℕ → List ℕ → Option Command
of_two_files word f v =
    if bytes_eq word (codes "run") then Some (run f v)
    else (if bytes_eq word (codes "replay") then Some (replay f v)
    else (if bytes_eq word (codes "certify") then Some (certify f v)
    else (if bytes_eq word (codes "upgrade") then Some (upgrade f v) else None)))

-- the command of these words, those after the program's name; the name of a file is any text that isn't empty
abbrev pub command_of : List (List ℕ) → Option Command
command_of [] = None
command_of (c ∷ []) = None
command_of (c ∷ f ∷ []) = if nat_lt 0 (length f) then of_one_word c f else None
command_of (c ∷ f ∷ v ∷ []) = if nat_lt 0 (length f) && nat_lt 0 (length v) then of_two_files c f v else None
command_of (c ∷ f ∷ v ∷ w ∷ ws) = None
