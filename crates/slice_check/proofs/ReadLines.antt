-- What a reader says under the limits of certificates.
use Rattle.std.proofs.Common.{◌≡◌, ◌<◌, ◌+◌, ℕ, List, Some, subst, sym, refl, arith, Bool, true, inl, inr}
use Rattle.slice_io.specs.Lines.{Reading, LineIs, LineRefused, line_given}
use Rattle.slice_io.specs.declared.lines.LineFault.{LineFault}
use Rattle.slice_io.specs.declared.lines.LineFault.TheVariants.{ReadFault, LineTooLong, TooLong, Memory}
use Rattle.slice_io.proofs.LineSteps.{line_moved, refused_moved}
use Rattle.slice_core.specs.Tree.{Core}
use Rattle.slice_check.specs.Certificate.{IsRead, IsClosed, line_limit, file_limit}
use Rattle.slice_check.specs.Steps.{Stops, stop_of, end_stop_of}

-- the line that was read
pub line_read : (r after : Reading) (file text : List ℕ) (more : Bool) → r.line_limit ≡ line_limit → r.limit ≡ file_limit → more ≡ true → text ≡ after.line
    → LineIs r.line_limit r.limit file r.given (line_given more after) → LineIs line_limit file_limit file r.given (Some text)
line_read r after file text more l m t e h =
    subst (λ (xs : List ℕ). LineIs line_limit file_limit file r.given (Some xs)) (sym e)
    (line_moved r.line_limit r.limit r.given line_limit file_limit r.given file (Some after.line) l m refl (subst (λ (b : Bool). LineIs r.line_limit r.limit file r.given (line_given b after)) t h))

-- the fault of the line
pub line_refused : (r : Reading) (file : List ℕ) (e f : LineFault) → r.line_limit ≡ line_limit → r.limit ≡ file_limit → e ≡ f
    → LineRefused r.line_limit r.limit file r.given e → LineRefused line_limit file_limit file r.given f
line_refused r file e f l m s h =
    subst (λ (x : LineFault). LineRefused line_limit file_limit file r.given x) s (refused_moved r.line_limit r.limit r.given line_limit file_limit r.given file e l m refl h)

-- the number of a line that is too long
pub long_number : (i line : ℕ) (file : List ℕ) → i < 2000000 → LineRefused line_limit file_limit file i (LineTooLong line) → line ≡ i + 1
long_number i line file few h = omega (arith, h.0)

-- a line that is refused stops the checker
pub refused_stops : (core : Core) (r : Reading) (file : List ℕ) (e : LineFault) → r.line_limit ≡ line_limit → r.limit ≡ file_limit → r.given < 2000000 → IsRead core file r.given
    → LineRefused r.line_limit r.limit file r.given e → Stops core file (stop_of e)
refused_stops core r file ReadFault l m few d h = tt
refused_stops core r file Memory l m few d h = tt
refused_stops core r file TooLong l m few d h = (r.given, inl d, line_refused r file TooLong TooLong l m refl h)
refused_stops core r file (LineTooLong line) l m few d h =
    let k = line_refused r file (LineTooLong line) (LineTooLong line) l m refl h in
    (r.given, long_number r.given line file few k, d, k)

-- a line that is refused after the closing line
pub end_stops : (core : Core) (count : ℕ) (r : Reading) (file : List ℕ) (e : LineFault) → r.line_limit ≡ line_limit → r.limit ≡ file_limit → r.given < 2000000 → IsClosed core file count r.given
    → LineRefused r.line_limit r.limit file r.given e → Stops core file (end_stop_of e)
end_stops core count r file ReadFault l m few d h = tt
end_stops core count r file Memory l m few d h = tt
end_stops core count r file TooLong l m few d h = (r.given, inr (count, d), line_refused r file TooLong TooLong l m refl h)
end_stops core count r file (LineTooLong line) l m few d h =
    let k = line_refused r file (LineTooLong line) (LineTooLong line) l m refl h in
    let n = long_number r.given line file few k in
    (r.given, count, n, inr (d, inr (subst (λ (x : ℕ). LineRefused line_limit file_limit file r.given (LineTooLong x)) n k)))
