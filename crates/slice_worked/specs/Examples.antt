-- What the examples show of the headline.
use Rattle.std.specs.Prelude.{ℕ, List}
use Rattle.slice_io.specs.Files.{Files}
use Rattle.slice_ast.specs.Code.{PlainProgram}
use Rattle.slice_top.specs.Headline.{EveryRunIsFair, HoldsFairProgram}

-- a file that holds a fair program, and a program of which not every run is fair
abbrev pub FairAndUnfairProgramsExist : Type 0
FairAndUnfairProgramsExist = ((files : Files) × (name : List ℕ) × HoldsFairProgram files name) × ((p : PlainProgram) × (EveryRunIsFair p → ⊥))
