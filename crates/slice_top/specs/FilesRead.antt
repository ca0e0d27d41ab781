-- How a file is read.
use Rattle.std.specs.Prelude.{◌≡◌, ℕ, ◌<◌, ◌≤◌, List, length, Option, Some, None}
use Rattle.slice_io.specs.Files.{Files, told_file, IsFile}
use Rattle.slice_report.specs.declared.refusal.Refusal.{Refusal}
use Rattle.slice_report.specs.declared.refusal.Refusal.TheVariants.{ReadFault, TooLong}

-- the most bytes of a file
abbrev pub limit : ℕ
limit = 1048576

-- a file of that name, not too long, has these bytes; any bytes where the shelf tells nothing
pub record IsFileOf (told : Option Files) (name bytes : List ℕ) : Type 0 where
  pub there : IsFile (told_file told name) bytes
  pub short : length bytes ≤ limit

-- a file of that name is too long
pub record IsLongFile (told : Option Files) (name : List ℕ) : Type 0 where
  pub bytes : List ℕ
  pub there : IsFile (told_file told name) bytes
  pub long : limit < length bytes

-- no file of that name is there, or it is too long
abbrev pub RefusesFile : Option Files → List ℕ → Refusal → Type 0
RefusesFile told name (ReadFault file) = (file ≡ name) × (told_file told name ≡ Some None)
RefusesFile told name (TooLong file) = (file ≡ name) × IsLongFile told name
RefusesFile told name r = ⊥
