use Rattle.std.proofs.Common.{◌≡◌, ◌∙◌, ℕ, ap, sym, subst, refl, inr, arith, length}
use Rattle.slice_core.specs.Cores.{core_of}
use Rattle.slice_core.specs.Tree.{Core}
use Rattle.slice_core.specs.WellFormed.{IsWellFormed}
use Rattle.slice_io.specs.Told.{appended}
use Rattle.slice_cert.specs.CertLines.{line_text}
use Rattle.slice_cert.specs.declared.line.Line.{Line}
use Rattle.slice_cert.specs.ShortForms.{short_line}
use Rattle.slice_check.specs.Upgrading.{HasPassed, IsShortOut, IsTakenBy, LineHalts, ReadsBack, ShortHalts}
use Rattle.slice_check.proofs.Passing.{if_ok, if_err}
use Rattle.slice_check.proofs.RowCount.{few_rows}
use Rattle.slice_check.proofs.Shorten.{Laws, has_passed, last_is_goal, short_halts, short_out, some_short, taken_somehow}
use Rattle.slice_check.proofs.upgrade.put_short.Goals as goal

pub short_line-line-requires : goal.short_line-line-requires
short_line-line-requires g c =
    let s = c.args.goals.now in
    let long = c.requires.refuted.same_length in
    let same = ap length (c.in-Ok.ensures {u = tt}).items in
    let formed = subst IsWellFormed (sym (ap core_of c.requires.core)) c.args.core.now.formed in
    let few = few_rows (core_of s.core) c.args.goal.now formed (last_is_goal s c.args.goal.now c.requires.last) in
    record { few = omega (arith, long, few, same) }

pub returns-in-Err-clause-halts : goal.returns-in-Err-clause-halts
returns-in-Err-clause-halts g c =
    let s = c.args.goals.now in
    let m = c.args.multipliers.now in
    let n = c.args.goal.now.number in
    let old = g.K.Sink.told c.args.sink.now in
    let new = g.K.Sink.told c.put_line.new.sink in
    let core : Core = core_of c.args.core.now in
    let same : core_of s.core ≡ core = ap core_of c.requires.core in
    let laws : Laws = record { fronts = c.covers_are_fronts.ensures; have = c.goals_have_covers.ensures; short = c.short_forms_refute.ensures; over = c.skips_pass_over_those_that_share.ensures } in
    let is : c.short_line-line.result ≡ short_line core.agents n m =
    c.short_line-line.ensures.line ∙ ap (λ (k : ℕ). short_line k c.number.result c.in-Ok.kept.items) c.agents.ensures.value
    ∙ ap (λ (k : ℕ). short_line core.agents k c.in-Ok.kept.items) c.number.ensures ∙ ap (short_line core.agents n) (c.in-Ok.ensures {u = tt}).items in
    let formed = subst IsWellFormed (sym same) c.args.core.now.formed in
    let h = subst (λ (l : Line). LineHalts old new (line_text l) c.in-Err.halt) (is ∙ ap (λ (k : Core). short_line k.agents n m) (sym same)) ((c.in-Err.ensures {u = tt}).halts) in
    let x = some_short laws s c.args.goal.now m formed c.requires.last c.requires.refuted c.requires.few in
    subst (λ (k : Core). ShortHalts k c.args.goal.now m old new c.in-Err.halt) same (short_halts (core_of s.core) c.args.goal.now m x.0 old new c.in-Err.halt x.1 h)

pub taken_by-requires-clause-has : goal.taken_by-requires-clause-has
taken_by-requires-clause-has g c =
    let s = c.args.goals.now in
    let m = c.args.multipliers.now in
    let n = c.args.goal.now.number in
    let core : Core = core_of c.args.core.now in
    let same : core_of s.core ≡ core = ap core_of c.requires.core in
    let laws : Laws = record { fronts = c.covers_are_fronts.ensures; have = c.goals_have_covers.ensures; short = c.short_forms_refute.ensures; over = c.skips_pass_over_those_that_share.ensures } in
    let is : c.short_line-line.result ≡ short_line core.agents n m =
    c.short_line-line.ensures.line ∙ ap (λ (k : ℕ). short_line k c.number.result c.in-Ok.kept.items) c.agents.ensures.value
    ∙ ap (λ (k : ℕ). short_line core.agents k c.in-Ok.kept.items) c.number.ensures ∙ ap (short_line core.agents n) (c.in-Ok.ensures {u = tt}).items in
    subst (HasPassed s) (sym (is ∙ ap (λ (k : Core). short_line k.agents n m) (sym same))) (has_passed laws s c.args.goal.now m c.requires.last c.requires.refuted)

pub returns-clause-out : goal.returns-clause-out
returns-clause-out g c =
    let s = c.args.goals.now in
    let m = c.args.multipliers.now in
    let n = c.args.goal.now.number in
    let old = g.K.Sink.told c.args.sink.now in
    let new = g.K.Sink.told c.put_line.new.sink in
    let core : Core = core_of c.args.core.now in
    let same : core_of s.core ≡ core = ap core_of c.requires.core in
    let laws : Laws = record { fronts = c.covers_are_fronts.ensures; have = c.goals_have_covers.ensures; short = c.short_forms_refute.ensures; over = c.skips_pass_over_those_that_share.ensures } in
    let is : c.short_line-line.result ≡ short_line core.agents n m =
    c.short_line-line.ensures.line ∙ ap (λ (k : ℕ). short_line k c.number.result c.in-Ok.kept.items) c.agents.ensures.value
    ∙ ap (λ (k : ℕ). short_line core.agents k c.in-Ok.kept.items) c.number.ensures ∙ ap (short_line core.agents n) (c.in-Ok.ensures {u = tt}).items in
    let here = is ∙ ap (λ (k : Core). short_line k.agents n m) (sym same) in
    let formed = subst IsWellFormed (sym same) c.args.core.now.formed in
    let put = c.in-Ok-put_line.ensures {u = tt} in
    if_ok c.taken_by.result _ _ (λ t h. subst (λ (k : Core). IsShortOut k c.args.goal.now m old new t) same
    (short_out laws s c.args.goal.now m t old new formed c.requires.last c.requires.refuted c.requires.few (subst ReadsBack here put.line) (put.out ∙ ap (λ (l : Line). appended old (line_text l)) here)
    (subst (λ (l : Line). IsTakenBy s l t) here h))) c.taken_by.ensures.taken

pub returns-clause-halts : goal.returns-clause-halts
returns-clause-halts g c =
    let s = c.args.goals.now in
    let m = c.args.multipliers.now in
    let n = c.args.goal.now.number in
    let old = g.K.Sink.told c.args.sink.now in
    let new = g.K.Sink.told c.put_line.new.sink in
    let core : Core = core_of c.args.core.now in
    let same : core_of s.core ≡ core = ap core_of c.requires.core in
    let laws : Laws = record { fronts = c.covers_are_fronts.ensures; have = c.goals_have_covers.ensures; short = c.short_forms_refute.ensures; over = c.skips_pass_over_those_that_share.ensures } in
    let is : c.short_line-line.result ≡ short_line core.agents n m =
    c.short_line-line.ensures.line ∙ ap (λ (k : ℕ). short_line k c.number.result c.in-Ok.kept.items) c.agents.ensures.value
    ∙ ap (λ (k : ℕ). short_line core.agents k c.in-Ok.kept.items) c.number.ensures ∙ ap (short_line core.agents n) (c.in-Ok.ensures {u = tt}).items in
    let here = is ∙ ap (λ (k : Core). short_line k.agents n m) (sym same) in
    let formed = subst IsWellFormed (sym same) c.args.core.now.formed in
    let put = c.in-Ok-put_line.ensures {u = tt} in
    let t = taken_somehow laws s c.args.goal.now m c.requires.last c.requires.refuted in
    let out = subst (λ (k : Core). IsShortOut k c.args.goal.now m old new t.0) same
    (short_out laws s c.args.goal.now m t.0 old new formed c.requires.last c.requires.refuted c.requires.few (subst ReadsBack here put.line) (put.out ∙ ap (λ (l : Line). appended old (line_text l)) here) t.1) in
    if_err c.taken_by.result _ _ (λ h e. subst (ShortHalts core c.args.goal.now m old new) (sym e) (refl, inr (t.0, out))) c.taken_by.ensures.halts
