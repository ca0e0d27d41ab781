-- Stages in a row: why work stops, and the answers that follow.
use Rattle.std.proofs.Common.{ℕ, ◌+◌, ◌<◌, ◌≤◌, List, length, Option, Some, None, refl, arith}
use Rattle.std.specs.Prelude.{replicate, Result, Ok, Err, IfErr, IfOk}
use Rattle.std.proofs.lemmas.List.{length-replicate}
use Rattle.slice_io.specs.Causes.{Rose}
use Rattle.slice_io.specs.Files.{Files, told_file, IsFile, IsLonger}
use Rattle.slice_ast.specs.Code.{PlainProgram}
use Rattle.slice_core.specs.Tree.{Core}
use Rattle.slice_report.specs.declared.refusal.Refusal.{Refusal}
use Rattle.slice_top.specs.Answers.{Answer, stops, goes, OfText, WithProgram, WithCore, refused}
use Rattle.slice_top.specs.FilesRead.{IsLongFile, limit}
use Rattle.slice_top.specs.Turns.{HoldsProgram, RefusesSpelling, by_file, by_text, HoldsCore, IsCoreOfText, RefusesCoreOfText, in_text, in_program, RefusesProtocol, in_file, in_core}
use Rattle.slice_top.specs.Stops.{StopsBy, StopsFor}
use Rattle.slice_top.specs.declared.stop.Stop.{Stop}
use Rattle.slice_top.specs.declared.stop.Stop.TheVariants as stop

-- ---- stops

-- one cause for another
pub stops_for : (P Q : Refusal → Type 0) → ((r : Refusal) → P r → Q r) → (s : Stop) → StopsFor P s → StopsFor Q s
stops_for P Q f (stop.Refused r) h = (f r h.0, h.1)
stops_for P Q f (stop.Unread file) h = h
stops_for P Q f stop.Memory h = tt
stops_for P Q f stop.Unwritten h = h

-- work that reads no file in work that does
pub stops_from : (P Q : Refusal → Type 0) (T : List ℕ → Type 0) (rose : Type 0) → ((r : Refusal) → P r → Q r) → (s : Stop) → StopsFor P s → StopsBy Q T rose s
stops_from P Q T rose f (stop.Refused r) h = (f r h.0, h.1)
stops_from P Q T rose f (stop.Unread file) h = absurd h
stops_from P Q T rose f stop.Memory h = tt
stops_from P Q T rose f stop.Unwritten h = h

-- a cause, a turn and a count for others
pub stops_by : (P Q : Refusal → Type 0) (T U : List ℕ → Type 0) (rose rise : Type 0) → ((r : Refusal) → P r → Q r) → ((file : List ℕ) → T file → U file) → (rose → rise) → (s : Stop) → StopsBy P T rose s → StopsBy Q U rise s
stops_by P Q T U rose rise f g up (stop.Refused r) h = (f r h.0, h.1)
stops_by P Q T U rose rise f g up (stop.Unread file) h = (g file h.0, (up h.1.0, h.1.1))
stops_by P Q T U rose rise f g up stop.Memory h = tt
stops_by P Q T U rose rise f g up stop.Unwritten h = h

pub rose_earlier : (a b n : ℕ) → a ≤ b → Rose b n → Rose a n
rose_earlier a b n h r = omega (arith, h, r)

pub rose_later : (a b n : ℕ) → b ≤ n → Rose a b → Rose a n
rose_later a b n h r = omega (arith, h, r)

-- ---- results

pub if_err_so : {T : Type 0} (P Q : Stop → Type 0) → ((s : Stop) → P s → Q s) → (r : Result T Stop) → IfErr r P → IfErr r Q
if_err_so P Q f (Ok x) h = tt
if_err_so P Q f (Err e) h = f e h

pub if_ok_so : {T E : Type 0} (P Q : T → Type 0) → ((x : T) → P x → Q x) → (r : Result T E) → IfOk r P → IfOk r Q
if_ok_so P Q f (Ok x) h = f x h
if_ok_so P Q f (Err e) h = tt

-- ---- a long file

-- some bytes are more than n
some_more : (n : ℕ) → (bytes : List ℕ) × (n < length bytes)
some_more n = (replicate (n + 1) 0, simp length-replicate (omega arith))

long_of : (o : Option (Option (List ℕ))) (n : ℕ) → IsLonger o n → (bytes : List ℕ) × (IsFile o bytes × (n < length bytes))
long_of None n h = let more = some_more n in (more.0, (tt, more.1))
long_of (Some None) n h = absurd h
long_of (Some (Some bytes)) n h = (bytes, (refl, h))

-- a file that is longer than the limit has bytes, more than the limit
pub long_file : (told : Option Files) (name : List ℕ) → IsLonger (told_file told name) limit → IsLongFile told name
long_file told name h = let l = long_of (told_file told name) limit h in record { bytes = l.0; there = l.1.0; long = l.1.1 }

-- ---- the program and the core of a protocol

-- what follows from the program
pub with_program : (told : Option Files) (f : List ℕ) (Next : PlainProgram → Answer → Type 0) (p : PlainProgram) (a : Answer) → HoldsProgram told f p → Next p a → WithProgram told f Next a
with_program told f Next p a h next = goes h.text h.file (goes p h.spelled next)

-- it is refused
pub no_program : (told : Option Files) (f : List ℕ) (Next : PlainProgram → Answer → Type 0) (r : Refusal) → RefusesSpelling told f r → WithProgram told f Next (refused r)
no_program told f Next r (by_file h) = stops r h refl
no_program told f Next r (by_text text file h) = goes text file (stops r h refl)

-- what follows from the core
pub with_core : (told : Option Files) (f : List ℕ) (Next : Core → Answer → Type 0) (core : Core) (a : Answer) → HoldsCore told f core → Next core a → WithCore told f Next a
with_core told f Next core a h next = goes h.text h.file (goes h.of_text.program h.of_text.spelled (goes core h.of_text.made next))

-- it is refused
pub no_core : (told : Option Files) (f : List ℕ) (Next : Core → Answer → Type 0) (r : Refusal) → RefusesProtocol told f r → WithCore told f Next (refused r)
no_core told f Next r (in_file h) = stops r h refl
no_core told f Next r (in_core text file (in_text h)) = goes text file (stops r h refl)
no_core told f Next r (in_core text file (in_program p is h)) = goes text file (goes p is (stops r h refl))

-- ---- the core of a text

-- what follows from the core
pub with_core_of_text : (text : List ℕ) (Next : Core → Answer → Type 0) (core : Core) (a : Answer) → IsCoreOfText text core → Next core a → OfText text Next a
with_core_of_text text Next core a h next = goes h.program h.spelled (goes core h.made next)

-- it is refused
pub no_core_of_text : (text : List ℕ) (Next : Core → Answer → Type 0) (r : Refusal) → RefusesCoreOfText text r → OfText text Next (refused r)
no_core_of_text text Next r (in_text h) = stops r h refl
no_core_of_text text Next r (in_program p is h) = goes p is (stops r h refl)
