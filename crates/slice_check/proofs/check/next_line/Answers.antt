use Rattle.std.proofs.Common.{◌∙◌, ◌⊎◌, inl, inr, sym, subst}
use Rattle.slice_cert.specs.declared.line.Line.{Line}
use Rattle.slice_check.specs.Certificate.{SaysLine}
use Rattle.slice_check.specs.Upgrading.{IsMoot}
use Rattle.slice_check.proofs.NoLine.{refused_none}
use Rattle.slice_check.proofs.Walks.{bad_says, ended_line}
use Rattle.slice_check.specs.declared.answer.Stop.{Stop}
use Rattle.slice_check.proofs.ReadLines.{line_read, refused_stops}
use Rattle.slice_check.proofs.check.next_line.Goals as goal
use Rattle.slice_check.specs.Steps.{Stops}

pub returns-in-Ok-clause-line : goal.returns-in-Ok-clause-line
returns-in-Ok-clause-line g c file told s =
    let a = c.in-Ok-true.ensures {u = tt} in
    let l = line_read c.args.lines.now c.advance.new.self file c.line.result.now c.in-Ok-true.field-0 c.requires.limits.0 c.requires.limits.1 c.in-Ok-true.field-0-test c.line.ensures (a.line file told s) in
    ((c.line.result.now, l, (c.in-Ok.ensures {u = tt}).line), a.stands file told s)

pub returns-in-Err-BadLine-clause-stop : goal.returns-in-Err-BadLine-clause-stop
returns-in-Err-BadLine-clause-stop g c core file told s r =
    let a = c.in-Ok-true.ensures {u = tt} in
    let l = line_read c.args.lines.now c.advance.new.self file c.line.result.now c.in-Ok-true.field-0 c.requires.limits.0 c.requires.limits.1 c.in-Ok-true.field-0-test c.line.ensures (a.line file told s) in
    let n = rw c.in-Ok-true.field-0-test at a.given in
    (c.args.lines.now.given, c.given.ensures ∙ n, inl (r, (c.line.result.now, l, (c.in-Err-BadLine.ensures {u = tt}).bad c.in-Err-BadLine.field-0-is)))

pub returns-in-Ok-false-clause-stop : goal.returns-in-Ok-false-clause-stop
returns-in-Ok-false-clause-stop g c core file told s r =
    let a = c.in-Ok-false.ensures {u = tt} in
    let l = rw c.in-Ok-false.field-0-test at (a.line file told s) in
    (c.args.lines.now.given, r, l)

pub returns-in-Err-clause-stop : goal.returns-in-Err-clause-stop
returns-in-Err-clause-stop g c core file told s r =
    let a = c.in-Err.ensures {u = tt} in
    subst (λ (x : Stop). Stops core file x) (sym c.stop_of.ensures)
    (refused_stops core c.args.lines.now file c.in-Err.fault c.requires.limits.0 c.requires.limits.1 c.requires.few r (a.refused file told s))

pub returns-in-Err-BadLine-clause-none : goal.returns-in-Err-BadLine-clause-none
returns-in-Err-BadLine-clause-none g c file told s =
    let a = c.in-Ok-true.ensures {u = tt} in
    let l = line_read c.args.lines.now c.advance.new.self file c.line.result.now c.in-Ok-true.field-0 c.requires.limits.0 c.requires.limits.1 c.in-Ok-true.field-0-test c.line.ensures (a.line file told s) in
    inr (λ k says. bad_says file c.args.lines.now.given k (c.line.result.now, l, (c.in-Err-BadLine.ensures {u = tt}).bad c.in-Err-BadLine.field-0-is) says)

pub returns-in-Ok-false-clause-none : goal.returns-in-Ok-false-clause-none
returns-in-Ok-false-clause-none g c file told s =
    let a = c.in-Ok-false.ensures {u = tt} in
    let l = rw c.in-Ok-false.field-0-test at (a.line file told s) in
    inr (λ k says. ended_line file c.args.lines.now.given says.0 l says.1)

pub returns-in-Err-clause-none : goal.returns-in-Err-clause-none
returns-in-Err-clause-none g c file told s =
    let a = c.in-Err.ensures {u = tt} in
    subst (λ (x : Stop). IsMoot x ⊎ ((l : Line) → SaysLine file c.args.lines.now.given l → ⊥)) (sym c.stop_of.ensures)
    (refused_none c.args.lines.now file c.in-Err.fault c.requires.limits.0 c.requires.limits.1 (a.refused file told s))
