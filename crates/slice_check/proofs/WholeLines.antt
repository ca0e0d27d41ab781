-- Whole lines are out, whatever the file holds.
use Rattle.std.proofs.Common.{◌≡◌, ◌∙◌, inl, inr, ℕ, ℤ, sym, ap, subst, List, [], ◌∷◌, ◌++◌, map, append-nil}
use Rattle.std.specs.declared.option.Option.{Option}
use Rattle.slice_num.specs.Pieces.{joined}
use Rattle.slice_io.specs.Told.{appended, appended-append, FrontIsOut}
use Rattle.slice_core.specs.Tree.{Core}
use Rattle.slice_core.proofs.Counting.{joined-append}
use Rattle.slice_paths.specs.Goals.{Goal}
use Rattle.slice_cert.specs.declared.line.Line.{Line}
use Rattle.slice_cert.specs.CertLines.{line_text}
use Rattle.slice_cert.specs.ShortForms.{short_line}
use Rattle.slice_check.specs.declared.upgrade.Halt.{Halt}
use Rattle.slice_check.specs.declared.upgrade.Halt.TheVariants as halt
use Rattle.slice_check.specs.Upgrades.{WholeLinesOut}
use Rattle.slice_check.specs.Upgrading.{HaltsBehind, LineHalts, ShortHalts}
use Rattle.slice_check.proofs.LinesOut.{front_behind, map-append, nothing_out, one_out}

pub no_lines : (old : Option (List ℕ)) → WholeLinesOut old old
no_lines old = ([], nothing_out old)

pub one_line : (old new : Option (List ℕ)) (l : Line) → new ≡ appended old (line_text l) → WholeLinesOut old new
one_line old new l e = (l ∷ [], one_out old new (line_text l) e)

-- the bytes of some lines and of others behind them
both : (ls ks : List Line) → joined (map line_text (ls ++ ks)) ≡ joined (map line_text ls) ++ joined (map line_text ks)
both ls ks = ap joined (map-append ls ks) ∙ joined-append (map line_text ls) (map line_text ks)

pub lines_then : (old now new : Option (List ℕ)) → WholeLinesOut old now → WholeLinesOut now new → WholeLinesOut old new
lines_then old now new x y = (
  x.0 ++ y.0,
  y.1 ∙ ap (λ (o : Option (List ℕ)). appended o (joined (map line_text y.0))) x.1 ∙ appended-append old (joined (map line_text x.0)) (joined (map line_text y.0)) ∙ ap (appended old) (sym (both x.0 y.0)),
)

pub halts_then : (old now new : Option (List ℕ)) (h : Halt) → WholeLinesOut old now → HaltsBehind now new h → HaltsBehind old new h
halts_then old now new (halt.Stopped s) x y = lines_then old now new x y
halts_then old now new halt.WriteFault x y =
    (x.0 ++ y.0, subst (FrontIsOut old new) (sym (both x.0 y.0)) (front_behind old now new (joined (map line_text x.0)) (joined (map line_text y.0)) x.1 y.1))

-- a line isn't out
pub line_halts : (old new : Option (List ℕ)) (l : Line) (h : Halt) → LineHalts old new (line_text l) h → HaltsBehind old new h
line_halts old new l (halt.Stopped s) x = ([], x.1 ∙ nothing_out old)
line_halts old new l halt.WriteFault x = (l ∷ [], subst (FrontIsOut old new) (sym (append-nil (line_text l))) x)

-- nor the short form of one
pub short_halts_behind : (core : Core) (g : Goal) (m : List ℤ) (old new : Option (List ℕ)) (h : Halt) → ShortHalts core g m old new h → HaltsBehind old new h
short_halts_behind core g m old new (halt.Stopped s) x = elim x.1 [
  | inl same ↦ ([], same ∙ nothing_out old)
  | inr o ↦ one_line old new (short_line core.agents g.number m) o.1.out
]
short_halts_behind core g m old new halt.WriteFault x = (short_line core.agents g.number m ∷ [], subst (FrontIsOut old new) (sym (append-nil (line_text (short_line core.agents g.number m)))) x.2)
