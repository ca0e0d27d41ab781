-- What is out when the program ends, and with what status.
use Rattle.std.specs.Prelude.{◌≡◌, ◌⊎◌, ℕ, List, [], ◌∷◌, ◌++◌, take, codes, Option, Some}
use Rattle.slice_io.specs.Files.{Files}
use Rattle.slice_io.specs.Told.{appended}
use Rattle.slice_core.specs.Tree.{Core}
use Rattle.slice_report.specs.declared.refusal.Refusal.TheVariants.{ReadFault}
use Rattle.slice_top.specs.Certificates.{IsOutMeanwhile}
use Rattle.slice_top.specs.Commands.{Command, upgrade}
use Rattle.slice_top.specs.Turns.{HoldsCore, ReadsFor}
use Rattle.slice_top.specs.Answers.{Answer, IsAnswer, refused}
use Rattle.slice_top.specs.declared.status.Status.{Status}
use Rattle.slice_top.specs.declared.status.Status.TheVariants as status

abbrev pub memory_line : List ℕ
memory_line = codes "{\"refused\":\"memory\"}\n"

-- the bytes are whole lines, or none
pub data AreLines (bytes : List ℕ) : Type 0 where
  none : bytes ≡ [] → AreLines bytes
  ended : (before : List ℕ) → bytes ≡ before ++ 10 ∷ [] → AreLines bytes

-- what is out of an answer of this kind while it is made: nothing, or its first lines
pub data IsOut (Kind : Answer → Type 0) (bytes : List ℕ) : Type 0 where
  nothing : bytes ≡ [] → IsOut Kind bytes
  first_lines : (a : Answer) → Kind a → AreLines bytes → (rest : List ℕ) → a.text ≡ bytes ++ rest → IsOut Kind bytes

-- what is out where this file can't be read: nothing; but of `upgrade`, which writes while it reads its second file, the lines that
-- it wrote meanwhile, which some answer begins with
abbrev pub IsOutAt : Option Files → Option Command → List ℕ → List ℕ → Type 0
IsOutAt told (Some (upgrade f c)) file bytes =
    (bytes ≡ []) ⊎ ((file ≡ c) × IsOut (IsAnswer told (Some (upgrade f c))) bytes × (core : Core) × HoldsCore told f core × IsOutMeanwhile told c core bytes)
IsOutAt told k file bytes = bytes ≡ []

-- the command reads the file of this name after these bytes
abbrev pub ReadsAfter : Option Files → Option Command → List ℕ → List ℕ → Type 0
ReadsAfter told k file bytes = ReadsFor told k file × IsOutAt told k file bytes

-- all bytes of a report: the answer's text; or that a file whose turn came couldn't be read; or the first lines of an answer,
-- and that memory was wanted
pub data Whole (told : Option Files) (c : Option Command) (bytes : List ℕ) (s : Status) : Type 0 where
  answered : (a : Answer) → IsAnswer told c a → s ≡ a.status → bytes ≡ a.text → Whole told c bytes s
  unread : (file out : List ℕ) → ReadsAfter told c file out → s ≡ status.ReadFault → bytes ≡ out ++ (refused (ReadFault file)).text → Whole told c bytes s
  starved : (out : List ℕ) → IsOut (IsAnswer told c) out → s ≡ status.Memory → bytes ≡ out ++ memory_line → Whole told c bytes s

-- the report is out whole, or was cut off where a write failed
pub data Report (told : Option Files) (c : Option Command) (bytes : List ℕ) (s : Status) : Type 0 where
  whole : Whole told c bytes s → Report told c bytes s
  cut : (all : List ℕ) (other : Status) → Whole told c all other → (count : ℕ) → bytes ≡ take count all → s ≡ status.WriteFault → Report told c bytes s

-- a report was written after what was out before
pub record Reports (told : Option Files) (c : Option Command) (before after : Option (List ℕ)) (s : Status) : Type 0 where
  pub bytes : List ℕ
  pub out : after ≡ appended before bytes
  pub is : Report told c bytes s
