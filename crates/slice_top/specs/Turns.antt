-- When a command reads a file.
use Rattle.std.specs.Prelude.{◌≡◌, ℕ, ◌⊎◌, List, Option, Some, None}
use Rattle.slice_io.specs.Files.{Files}
use Rattle.slice_ast.specs.Code.{PlainProgram}
use Rattle.slice_core.specs.Tree.{Core}
use Rattle.slice_parse.specs.Laws.{IsProgramOf}
use Rattle.slice_top.specs.Commands.{Command, check, print, paths, verify, run, replay, certify, upgrade, demo}
use Rattle.slice_top.specs.FilesRead.{IsFileOf, RefusesFile}
use Rattle.slice_top.specs.Cores.{IsCoreOf, RefusesCore}
use Rattle.slice_top.specs.Programs.{RefusesText}
use Rattle.slice_report.specs.declared.refusal.Refusal.{Refusal}

-- the text is that of a program that keeps the rules and passes no limit, and this is its core
pub record IsCoreOfText (text : List ℕ) (core : Core) : Type 0 where
  pub program : PlainProgram
  pub spelled : IsProgramOf text program
  pub made : IsCoreOf program core

-- a file of that name is there, isn't too long, and has the text of this program
pub record HoldsProgram (told : Option Files) (name : List ℕ) (program : PlainProgram) : Type 0 where
  pub text : List ℕ
  pub file : IsFileOf told name text
  pub spelled : IsProgramOf text program

-- the file is refused, or its text
pub data RefusesSpelling (told : Option Files) (name : List ℕ) (r : Refusal) : Type 0 where
  by_file : RefusesFile told name r → RefusesSpelling told name r
  by_text : (text : List ℕ) → IsFileOf told name text → RefusesText text r → RefusesSpelling told name r

-- a file of that name is there, isn't too long, and has such a text
pub record HoldsCore (told : Option Files) (name : List ℕ) (core : Core) : Type 0 where
  pub text : List ℕ
  pub file : IsFileOf told name text
  pub of_text : IsCoreOfText text core

-- the text is refused, or the program that it spells
pub data RefusesCoreOfText (text : List ℕ) (r : Refusal) : Type 0 where
  in_text : RefusesText text r → RefusesCoreOfText text r
  in_program : (p : PlainProgram) → IsProgramOf text p → RefusesCore p r → RefusesCoreOfText text r

-- the protocol's file is refused, or its text
pub data RefusesProtocol (told : Option Files) (name : List ℕ) (r : Refusal) : Type 0 where
  in_file : RefusesFile told name r → RefusesProtocol told name r
  in_core : (text : List ℕ) → IsFileOf told name text → RefusesCoreOfText text r → RefusesProtocol told name r

-- the second file's turn has come: the protocol in the first has a core. Of a shelf that tells nothing it has come at once
abbrev pub IsSecondTurn : Option Files → List ℕ → Type 0
IsSecondTurn told f = (core : Core) × HoldsCore told f core

-- the command reads the file of this name: that of the protocol, and a second one once the protocol has a core; `demo` reads none
abbrev pub Reads : Option Files → Command → List ℕ → Type 0
Reads told (check f) name = name ≡ f
Reads told (print f) name = name ≡ f
Reads told (paths f) name = name ≡ f
Reads told (verify f) name = name ≡ f
Reads told (run f v) name = (name ≡ f) ⊎ ((name ≡ v) × IsSecondTurn told f)
Reads told (replay f v) name = (name ≡ f) ⊎ ((name ≡ v) × IsSecondTurn told f)
Reads told (certify f c) name = (name ≡ f) ⊎ ((name ≡ c) × IsSecondTurn told f)
Reads told (upgrade f c) name = (name ≡ f) ⊎ ((name ≡ c) × IsSecondTurn told f)
Reads told (demo n) name = ⊥

abbrev pub ReadsFor : Option Files → Option Command → List ℕ → Type 0
ReadsFor told None name = ⊥
ReadsFor told (Some c) name = Reads told c name
