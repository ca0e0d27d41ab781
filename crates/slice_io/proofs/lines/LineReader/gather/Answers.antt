use Rattle.std.proofs.Common.{rules, ◌≡◌, ◌∙◌, ◌≤◌, true, arith, sym, ap, Bool, length, Some, subst, ℕ, List, length-append}
use Rattle.std.specs.Result.{IsErrAnd, IfErr}
use Rattle.std.specs.declared.result.Result.{Result}
use Rattle.std.specs.declared.result.Result.TheVariants.{Ok, Err}
use Rattle.slice_io.specs.declared.lines.LineFault.{LineFault}
use Rattle.slice_io.specs.Gathered.{after_part}
use Rattle.slice_io.specs.Lines.{Reading, LineRefused, rest_from, first_line}
use Rattle.slice_io.proofs.LineSteps.{last_line, part_ended, part_on, part_refused, part_moves, line_moved, refused_moved}
use Rattle.slice_io.proofs.lines.LineReader.gather.Goals as goal

pub returns-then-not-branch-clause-line : goal.returns-then-not-branch-clause-line
returns-then-not-branch-clause-line g c file told s e =
    let i = c.loop-self.invariant in
    let r = c.ready.new.self in
    let d = c.in_ok-ready.ensures {u = tt} in
    let h = d.gathers file (search rules) (i.gathers file told s) in
    let t : c.has_bytes.result ≡ true = search rules in
    let rest : rest_from r.given file ≡ r.line = ap (λ (x : ℕ). rest_from x file) d.keeps.0 ∙ h.1 c.if-not-branch.true ∙ sym d.line.0 in
    let b = last_line r file h.0 rest (d.some.1 c.if-not-branch.true) (c.has_bytes.ensures.0 t) (omega (arith, ap length d.line.0, i.line, d.keeps.1.1)) (omega (arith, d.line.1, i.within, d.keeps.1.2)) in
    (line_moved r.line_limit r.limit r.given _ _ _ file (Some r.line) (d.keeps.1.1 ∙ i.keeps.1) (d.keeps.1.2 ∙ i.keeps.2) (d.keeps.0 ∙ i.given) b.0, b.1)

pub returns-then-not-branch-clause-on : goal.returns-then-not-branch-clause-on
returns-then-not-branch-clause-on g c e =
    let t : c.has_bytes.result ≡ true = search rules in
    let d = c.in_ok-ready.ensures {u = tt} in
    omega (arith, c.loop-self.invariant.on, ap length d.line.0, d.line.1, c.has_bytes.ensures.0 t)

ok_is_err : (b : Bool) (e : LineFault) → ◌≡◌ {A = Result Bool LineFault} (Ok b) (Err e) → ⊥
ok_is_err b e h = cc

err_at : (x y : LineFault) → x ≡ y → ◌≡◌ {A = Result Bool LineFault} (Err x) (Err y)
err_at x y e = λ t. Err (e t)

if_err : {T : Type 0} (o : Result T LineFault) (P Q : LineFault → Type 0) → IsErrAnd o Q → ((e : LineFault) → Q e → P e) → IfErr o P
if_err (Ok x) P Q h f = tt
if_err (Err e) P Q h f = f e h

pub returns-in_err-take_part-clause-refused : goal.returns-in_err-take_part-clause-refused
returns-in_err-take_part-clause-refused g c = let e = c.in_err-take_part.ensures {u = tt} in if_err c.from_residual-in_err-take_part.result _ _ c.from_residual-in_err-take_part.ensures.1 (λ x q file told s.
    let i = c.loop-self.invariant in
    let r = c.ready.new.self in
    let d = c.in_ok-ready.ensures {u = tt} in
    let h = d.gathers file (search rules) (i.gathers file told s) in
    let short : length r.line ≤ r.line_limit = omega (arith, ap length d.line.0, i.line, d.keeps.1.1) in
    let f = part_refused r file c.in_err-take_part.field-0.0 h.0 short (λ n eq. e.line n (err_at _ _ eq)) (λ eq. e.long (err_at _ _ eq)) in
    subst (λ (x : LineFault). LineRefused c.args.self.now.line_limit c.args.self.now.limit file c.args.self.now.given x) (sym q)
    (refused_moved r.line_limit r.limit r.given _ _ _ file c.in_err-take_part.field-0.0 (d.keeps.1.1 ∙ i.keeps.1) (d.keeps.1.2 ∙ i.keeps.2) (d.keeps.0 ∙ i.given) f))

pub returns-then-branch-clause-line : goal.returns-then-branch-clause-line
returns-then-branch-clause-line g c file told s e =
    let i = c.loop-self.invariant in
    let r = c.ready.new.self in
    let d = c.in_ok-ready.ensures {u = tt} in
    let p = c.in_ok-take_part.ensures {u = tt} in
    let h = d.gathers file (search rules) (i.gathers file told s) in
    let b = part_ended r c.take_part.new.self file h.0 p.part.1 (sym p.part.0 ∙ c.if-branch.true) p.bounds.0 p.bounds.1 in
    (line_moved r.line_limit r.limit r.given _ _ _ file (Some c.take_part.new.self.line) (d.keeps.1.1 ∙ i.keeps.1) (d.keeps.1.2 ∙ i.keeps.2) (d.keeps.0 ∙ i.given) b.0, b.1)

pub returns-then-branch-clause-on : goal.returns-then-branch-clause-on
returns-then-branch-clause-on g c e =
    let d = c.in_ok-ready.ensures {u = tt} in
    let p = c.in_ok-take_part.ensures {u = tt} in
    let m = part_moves c.ready.new.self (d.some.0 c.if-not-branch.false) in
    let q : c.take_part.new.self.place ≡ (after_part c.ready.new.self).place = ap (λ (x : Reading). x.place) p.part.1 in
    omega (arith, m.0, q, c.loop-self.invariant.on, d.line.1)

pub loop-self-smaller : goal.loop-self-smaller
loop-self-smaller g c =
    let d = c.in_ok-ready.ensures {u = tt} in
    let p = c.in_ok-take_part.ensures {u = tt} in
    let m = part_moves c.ready.new.self (d.some.0 c.if-not-branch.false) in
    let q : c.take_part.new.self.place ≡ (after_part c.ready.new.self).place = ap (λ (x : Reading). x.place) p.part.1 in
    omega (arith, m.0, q, d.line.1, p.bounds.1, p.keeps.1.2, d.keeps.1.2)

pub loop-self-preserved : goal.loop-self-preserved
loop-self-preserved g c =
    let i = c.loop-self.invariant in
    let d = c.in_ok-ready.ensures {u = tt} in
    let p = c.in_ok-take_part.ensures {u = tt} in
    let m = part_moves c.ready.new.self (d.some.0 c.if-not-branch.false) in
    let q : c.take_part.new.self.place ≡ (after_part c.ready.new.self).place = ap (λ (x : Reading). x.place) p.part.1 in
    let k : length c.take_part.new.self.line ≡ length (after_part c.ready.new.self).line = ap (λ (x : Reading). length x.line) p.part.1 in
    record {
      same = search rules;
      asked = subst (λ (n : List ℕ). g.S.Shelf.CanAsk c.ready.new.shelf n) (sym (p.keeps.1.0 ∙ d.keeps.1.0)) ((d.rule c.loop-self.self.name).0 i.asked);
      rule = λ n. (λ a. (d.rule n).0 ((i.rule n).0 a), λ a. (i.rule n).1 ((d.rule n).1 a));
      later = search rules;
      given = search rules;
      keeps = search rules;
      line = omega (arith, k, length-append c.ready.new.self.line (first_line c.ready.new.self.ahead), p.bounds.0, p.keeps.1.1);
      on = omega (arith, m.0, m.1, q, k, i.on, d.line.1, ap length d.line.0);
      within = omega (arith, p.bounds.1, q, p.keeps.1.2);
      gathers = λ file told s. let h = d.gathers file (search rules) (i.gathers file told s) in part_on c.ready.new.self c.take_part.new.self file h.0 p.part.1 (sym p.part.0 ∙ c.if-branch.false);
      missing = λ told e. absurd (ok_is_err _ _ (d.missing (search rules) (i.missing told e)));
    }
