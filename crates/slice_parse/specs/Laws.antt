-- What holds of every text and what it is parsed as.
use Rattle.std.specs.Prelude.{◌≡◌, ◌≢◌, ℕ, List, ◌⊎◌}
use Rattle.slice_lex.specs.Text.{Spells}
use Rattle.slice_ast.specs.Code.{PlainProgram}
use Rattle.slice_ast.specs.Tokens.{tokens}
use Rattle.slice_ast.specs.Spellable.{IsSpellable}
use Rattle.slice_ast.specs.Limits.{IsWithinLimits}
use Rattle.slice_ast.specs.Bare.{without_places}
use Rattle.slice_ast.specs.Places.{IsRead}
use Rattle.slice_parse.specs.declared.parser.ParseFault.{ParseFault}
use Rattle.slice_parse.specs.declared.parser.ParseFault.TheVariants.{Memory}
use Rattle.slice_parse.specs.Parsing.{IsFaultOf}

-- the text spells this program, which is within the limits
pub record IsTextOf (text : List ℕ) (p : PlainProgram) : Type 0 where
  pub spelled : Spells text (tokens p)
  pub spellable : IsSpellable p
  pub within : IsWithinLimits p

-- the text is read as this program: it spells it, and the places in it are where its tokens begin
pub record IsProgramOf (text : List ℕ) (p : PlainProgram) : Type 0 where
  pub spelled : IsTextOf text p
  pub read : IsRead text p

-- the text itself has this fault first: it isn't want of memory
pub record HasFault (text : List ℕ) (fault : ParseFault) : Type 0 where
  pub own : fault ≢ Memory
  pub first : IsFaultOf text fault

-- a text has one fault
abbrev pub FaultsAreUnique : Type 0
FaultsAreUnique = (text : List ℕ) (f g : ParseFault) → HasFault text f → HasFault text g → f ≡ g

-- and no program beside it
abbrev pub FaultyTextsHaveNoProgram : Type 0
FaultyTextsHaveNoProgram = (text : List ℕ) (f : ParseFault) (p : PlainProgram) → HasFault text f → IsTextOf text p → ⊥

-- a text spells one program, places aside
abbrev pub ProgramsAreUnique : Type 0
ProgramsAreUnique = (text : List ℕ) (p q : PlainProgram) → IsTextOf text p → IsTextOf text q → (tokens p ≡ tokens q) × (without_places p ≡ without_places q)

-- and is read as one program, with its places
abbrev pub ReadProgramsAreUnique : Type 0
ReadProgramsAreUnique = (text : List ℕ) (p q : PlainProgram) → IsProgramOf text p → IsProgramOf text q → p ≡ q

-- each text is read as a program or has a fault
abbrev pub EachTextIsParsed : Type 0
EachTextIsParsed = (text : List ℕ) → ((p : PlainProgram) × IsProgramOf text p) ⊎ ((f : ParseFault) × HasFault text f)
