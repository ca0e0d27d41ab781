-- Where a line is refused, none stands.
use Rattle.std.proofs.Common.{◌≡◌, ◌⊎◌, inl, inr, ℕ, List, refl}
use Rattle.slice_io.specs.Lines.{Reading, LineRefused}
use Rattle.slice_io.specs.declared.lines.LineFault.{LineFault}
use Rattle.slice_io.specs.declared.lines.LineFault.TheVariants.{ReadFault, LineTooLong, TooLong, Memory}
use Rattle.slice_cert.specs.declared.line.Line.{Line}
use Rattle.slice_check.specs.Certificate.{SaysLine, line_limit, file_limit}
use Rattle.slice_check.specs.Steps.{stop_of}
use Rattle.slice_check.specs.Upgrading.{IsMoot}
use Rattle.slice_check.proofs.ReadLines.{line_refused}
use Rattle.slice_check.proofs.Walks.{long_line, past_line}

pub refused_none : (r : Reading) (file : List ℕ) (e : LineFault) → r.line_limit ≡ line_limit → r.limit ≡ file_limit → LineRefused r.line_limit r.limit file r.given e
    → IsMoot (stop_of e) ⊎ ((l : Line) → SaysLine file r.given l → ⊥)
refused_none r file ReadFault l m h = inl tt
refused_none r file Memory l m h = inl tt
refused_none r file TooLong l m h = inr (λ k s. past_line file r.given s.0 (line_refused r file TooLong TooLong l m refl h) s.1)
refused_none r file (LineTooLong line) l m h = inr (λ k s. long_line file r.given s.0 (line, line_refused r file (LineTooLong line) (LineTooLong line) l m refl h) s.1)
