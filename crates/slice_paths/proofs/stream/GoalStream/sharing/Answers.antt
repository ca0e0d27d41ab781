use Rattle.std.proofs.Common.{◌≡◌, ◌∙◌, ◌+◌, ◌-◌, ◌<◌, Err, drop, sym, ap, subst, arith}
use Rattle.slice_core.specs.Cores.{core_of}
use Rattle.slice_paths.specs.Counting.{goals_under, IsCounted}
use Rattle.slice_paths.specs.Fronts.{ShareFirst}
use Rattle.slice_paths.specs.Goals.{goals}
use Rattle.slice_paths.specs.Streams.{Stream}
use Rattle.slice_paths.specs.declared.goal.SkipFault.{SkipFault}
use Rattle.slice_paths.proofs.GivenLaws.{passes_last}
use Rattle.slice_paths.proofs.stream.GoalStream.sharing.Goals as goal

pub returns-in-Err-clause-limit : goal.returns-in-Err-clause-limit
returns-in-Err-clause-limit c = λ e.
    (let s = c.args.self.now in
    let x = c.self.inside in
    let is = c.self.view_is in
    let h = passes_last s c.requires.last.0 c.args.passed c.requires.rest c.requires.last.1 c.requires.has in
    let many = goals_under (core_of x.core.now) c.args.passed c.as_slice.result.now x.kind in
    let same : many ≡ goals_under (core_of s.core) c.args.passed s.last s.kind = λ i. goals_under (core_of (is i).core) c.args.passed ((c.as_slice.ensures.value ∙ ap (λ (v : Stream). v.last) is) i) (is i).kind in
    let over : 1000000 < x.given + many = subst (λ (f : SkipFault). IsCounted (x.given + many) (Err f)) e c.in-Err.ensures in
    (goals_under (core_of s.core) c.args.passed s.last s.kind, h.share, omega (arith, over, same, ap (λ (v : Stream). v.given) is)))

pub returns-in-Ok-clause-ok : goal.returns-in-Ok-clause-ok
returns-in-Ok-clause-ok c =
    let s = c.args.self.now in
    let x = c.self.inside in
    let is = c.self.view_is in
    let h = passes_last s c.requires.last.0 c.args.passed c.requires.rest c.requires.last.1 c.requires.has in
    let many = goals_under (core_of x.core.now) c.args.passed c.as_slice.result.now x.kind in
    let same : many ≡ goals_under (core_of s.core) c.args.passed s.last s.kind = λ i. goals_under (core_of (is i).core) c.args.passed ((c.as_slice.ensures.value ∙ ap (λ (v : Stream). v.last) is) i) (is i).kind in
    let left : c.in-Ok.given - x.given ≡ goals_under (core_of s.core) c.args.passed s.last s.kind = omega (arith, c.in-Ok.ensures.0, same) in (
      subst (ShareFirst (core_of s.core) c.args.passed s.last (drop s.given (goals (core_of s.core)))) (sym left) h.share,
      omega (arith, c.in-Ok.ensures.0, c.in-Ok.ensures.1, ap (λ (v : Stream). v.given) is),
    )
