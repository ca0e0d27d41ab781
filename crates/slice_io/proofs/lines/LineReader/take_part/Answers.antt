use Rattle.std.proofs.Common.{◌≡◌, ◌∙◌, ◌-◌, ◌++◌, ◌≤◌, List, ℕ, ap, sym, arith, take, drop, rules}
use Rattle.std.proofs.lemmas.List.{length-take}
use Rattle.slice_io.specs.Gathered.{has_end}
use Rattle.slice_io.specs.Lines.{Reading}
use Rattle.slice_io.proofs.LineParts.{taken}
use Rattle.slice_io.proofs.lines.LineReader.take_part.Goals as goal

pub returns-clause-part : goal.returns-clause-part
returns-clause-part c =
    let p = c.first_part-count.ensures in
    let s = c.self.inside in
    let part : List ℕ = take (s.to - s.from) (drop s.from c.deref.result.now) in
    let same : c.deref.result.now ≡ s.block.items = c.deref.ensures.value in
    let ahead : take (s.to - s.from) (drop s.from s.block.items) ≡ part = ap (λ (xs : List ℕ). take (s.to - s.from) (drop s.from xs)) (sym same) in
    let line : c.extend_from_slice.new.self.items ≡ s.line.items ++ take c.first_part-count.result.0 part = search rules in
    let le : c.first_part-count.result.1 ≤ s.to - s.from = omega (arith, p.within, length-take (s.to - s.from) (drop s.from c.deref.result.now)) in (
      p.end ∙ ap has_end (sym ahead ∙ ap (λ (r : Reading). r.ahead) c.self.view_is),
      taken c.args.self.now _ s.block.items part _ s.from s.to _ _ c.self.view_is ahead (sym ahead) le p.bytes p.after p.line line,
    )
