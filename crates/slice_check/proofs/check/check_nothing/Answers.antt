use Rattle.std.proofs.Common.{◌∙◌, sym, subst, inl, inr}
use Rattle.slice_check.specs.declared.answer.Stop.{Stop}
use Rattle.slice_check.proofs.ReadLines.{line_read, end_stops}
use Rattle.slice_check.proofs.check.check_nothing.Goals as goal
use Rattle.slice_check.specs.Steps.{Stops}

pub returns-in-Ok-true-clause-stop : goal.returns-in-Ok-true-clause-stop
returns-in-Ok-true-clause-stop g c core count file told s d =
    let a = c.in-Ok-true.ensures {u = tt} in
    let l = line_read c.args.lines.now c.advance.new.self file c.advance.new.self.line c.in-Ok-true.field-0 c.requires.limits.0 c.requires.limits.1 c.in-Ok-true.field-0-test (λ t. c.advance.new.self.line) (a.line file told s) in
    let n = rw c.in-Ok-true.field-0-test at a.given in
    (c.args.lines.now.given, count, c.given.ensures ∙ n, inr (d, inl (c.advance.new.self.line, l)))

pub returns-in-Ok-false-clause-ends : goal.returns-in-Ok-false-clause-ends
returns-in-Ok-false-clause-ends g c file told s = rw c.in-Ok-false.field-0-test at ((c.in-Ok-false.ensures {u = tt}).line file told s)

pub returns-in-Err-clause-stop : goal.returns-in-Err-clause-stop
returns-in-Err-clause-stop g c core count file told s d =
    subst (λ (x : Stop). Stops core file x) (sym c.end_stop_of.ensures)
    (end_stops core count c.args.lines.now file c.in-Err.fault c.requires.limits.0 c.requires.limits.1 c.requires.few d ((c.in-Err.ensures {u = tt}).refused file told s))
