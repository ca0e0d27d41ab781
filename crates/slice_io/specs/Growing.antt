-- What one file and a growing sink hold, and what a write leaves of the latter.
use Rattle.std.specs.Prelude.{ℕ, List, [], ◌∷◌, ◌++◌}
use Rattle.std.specs.declared.result.Result.{Result}
use Rattle.std.specs.declared.result.Result.TheVariants.{Ok, Err}
use Rattle.slice_io.specs.Causes.{counted}
use Rattle.slice_io.specs.Files.{Files}

-- one file: its name and its bytes
pub record HeldFile : Type 0 where
  pub name : List ℕ
  pub bytes : List ℕ

-- the files of a shelf that holds this one alone
abbrev pub files_held : HeldFile → Files
files_held f = (f.name, f.bytes) ∷ []

-- a sink that grows: its bytes so far, and the count of writes that failed
pub record GrownBytes : Type 0 where
  pub bytes : List ℕ
  pub faults : ℕ

-- the sink after a write: the bytes more, or one more fault
abbrev pub after_growth : {E : Type 0} → GrownBytes → Result ℕ E → List ℕ → GrownBytes
after_growth s (Ok n) bytes = record s { bytes = s.bytes ++ bytes }
after_growth s (Err e) bytes = record s { faults = counted s.faults }
