use Rattle.std.proofs.Common.{subst, inl, ℕ, List}
use Rattle.slice_core.specs.Cores.{core_of}
use Rattle.slice_cert.specs.declared.line.Line.{Line}
use Rattle.slice_cert.specs.declared.line.Line.TheVariants.{Header}
use Rattle.slice_check.specs.Certificate.{SaysLine}
use Rattle.slice_check.specs.Faults.{HeaderDiffers}
use Rattle.slice_check.proofs.Passing.{passed_on}
use Rattle.slice_check.proofs.Standing.{reached_first}
use Rattle.slice_check.proofs.check.check_header.Goals as goal

pub returns-in_err-line-clause-stop : goal.returns-in_err-line-clause-stop
returns-in_err-line-clause-stop g c =
    passed_on c.from_residual.result _ c.in_err-line.field-0.0 c.from_residual.ensures.1 (λ file told s. (c.in_err-line.ensures {u = tt}).stop (core_of c.args.core.now) file told s (inl c.requires.first))

pub returns-in-Err-clause-stop : goal.returns-in-Err-clause-stop
returns-in-Err-clause-stop g c file told s =
    let core = core_of c.args.core.now in
    let l = (c.in_ok-line.ensures {u = tt}).line file told s in (
      c.in_ok-line.line,
      subst (λ (i : ℕ). SaysLine file i c.in_ok-line.line) c.requires.first l.0,
      subst (λ (n : List ℕ). HeaderDiffers n core.agents c.in_ok-line.line c.in-Err.field) c.name.ensures
          (subst (λ (k : ℕ). HeaderDiffers c.name.result.now k c.in_ok-line.line c.in-Err.field) c.agents.ensures.value ((c.in-Err.ensures {u = tt}).differs)),
    )

pub returns-clause-stands : goal.returns-clause-stands
returns-clause-stands g c file told s =
    let core = core_of c.args.core.now in
    let l = (c.in_ok-line.ensures {u = tt}).line file told s in
    let h = (c.in-Ok.ensures {u = tt}).ok in
    let at_first = subst (λ (i : ℕ). SaysLine file i c.in_ok-line.line) c.requires.first l.0 in
    let header = subst (λ (x : Line). SaysLine file 0 x) h.1 at_first in (
      reached_first core file c.in-Ok.version h.0
          (subst (λ (n : List ℕ). SaysLine file 0 (Header c.in-Ok.version n core.agents)) c.name.ensures (subst (λ (k : ℕ). SaysLine file 0 (Header c.in-Ok.version c.name.result.now k)) c.agents.ensures.value header)),
      l.1,
    )
