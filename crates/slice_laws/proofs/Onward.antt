-- What follows once the protocol's file is read.
use Rattle.std.proofs.Common.{◌≡◌, ℕ, List, Some}
use Rattle.slice_io.specs.Files.{Files}
use Rattle.slice_ast.specs.Code.{PlainProgram}
use Rattle.slice_parse.specs.Laws.{ReadProgramsAreUnique}
use Rattle.slice_core.specs.Tree.{Core}
use Rattle.slice_top.specs.Answers.{Answer, goes, WithCore, IsAnswer}
use Rattle.slice_top.specs.Commands.{Command}
use Rattle.slice_laws.specs.Completeness.{HoldsProtocol}
use Rattle.slice_laws.proofs.UniqueAnswers.{answer_unique}

-- the answer that goes on so is the only one
pub onward : ReadProgramsAreUnique → (files : Files) (k : Command) (f : List ℕ) (p : PlainProgram) (core : Core) (Next : Core → Answer → Type 0) → ((x : Answer) → WithCore (Some files) f Next x → IsAnswer (Some files) (Some k) x)
    → HoldsProtocol files f p core → (a b : Answer) → IsAnswer (Some files) (Some k) a → Next core b → a ≡ b
onward once files k f p core Next is_answer h a b answer next = answer_unique once files (Some k) a b answer (is_answer b (goes h.text h.file (goes p h.spelled (goes core h.made next))))
