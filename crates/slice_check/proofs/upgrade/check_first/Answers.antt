use Rattle.std.proofs.Common.{◌⊎◌, refl, subst, inl, ℕ, List}
use Rattle.slice_core.specs.Cores.{core_of}
use Rattle.slice_cert.specs.declared.line.Line.{Line}
use Rattle.slice_cert.specs.declared.line.Line.TheVariants.{Header}
use Rattle.slice_check.specs.Certificate.{SaysLine}
use Rattle.slice_check.specs.Upgrading.{DiffersFirst, IsMoot}
use Rattle.slice_check.proofs.Standing.{reached_first}
use Rattle.slice_check.proofs.Upgraded.{first_stops, differs_stops}
use Rattle.slice_check.proofs.upgrade.check_first.Goals as goal

pub returns-in-Err-clause-stop : goal.returns-in-Err-clause-stop
returns-in-Err-clause-stop g c file told s =
    let h = c.in-Err.ensures {u = tt} in
    first_stops (core_of c.args.core.now) file c.in-Err.stop
    (subst (λ (i : ℕ). IsMoot c.in-Err.stop ⊎ ((l : Line) → SaysLine file i l → ⊥)) c.requires.first (h.none file told s))
    (h.stop (core_of c.args.core.now) file told s (inl c.requires.first))

pub returns-in-Err-first_of-clause-stop : goal.returns-in-Err-first_of-clause-stop
returns-in-Err-first_of-clause-stop g c file told s =
    let core = core_of c.args.core.now in
    let l = (c.in-Ok.ensures {u = tt}).line file told s in
    differs_stops core file c.in-Ok.line c.in-Err-first_of.field (subst (λ (i : ℕ). SaysLine file i c.in-Ok.line) c.requires.first l.0)
    (subst (λ (n : List ℕ). DiffersFirst n core.agents c.in-Ok.line c.in-Err-first_of.field) c.name.ensures
    (subst (λ (k : ℕ). DiffersFirst c.name.result.now k c.in-Ok.line c.in-Err-first_of.field) c.agents.ensures.value ((c.in-Err-first_of.ensures {u = tt}).differs)))

pub returns-clause-stands : goal.returns-clause-stands
returns-clause-stands g c file told s =
    let core = core_of c.args.core.now in
    let l = (c.in-Ok.ensures {u = tt}).line file told s in
    let at_first = subst (λ (i : ℕ). SaysLine file i c.in-Ok.line) c.requires.first l.0 in
    let header = subst (λ (x : Line). SaysLine file 0 x) ((c.in-Ok-first_of.ensures {u = tt}).ok) at_first in (
      reached_first core file 1 (inl refl)
          (subst (λ (n : List ℕ). SaysLine file 0 (Header 1 n core.agents)) c.name.ensures (subst (λ (k : ℕ). SaysLine file 0 (Header 1 c.name.result.now k)) c.agents.ensures.value header)),
      l.1,
    )
