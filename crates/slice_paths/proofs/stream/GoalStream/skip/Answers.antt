use Rattle.std.proofs.Common.{◌≡◌, ◌∙◌, ℕ, [], drop, sym, ap, arith}
use Rattle.slice_core.specs.Cores.{core_of}
use Rattle.slice_paths.specs.Ahead.{ahead_of}
use Rattle.slice_paths.specs.Counting.{goals_under}
use Rattle.slice_paths.specs.Fronts.{way_behind, events_after}
use Rattle.slice_paths.specs.Goals.{goals}
use Rattle.slice_paths.specs.Places.{first_way}
use Rattle.slice_paths.specs.Streams.{Stream}
use Rattle.slice_paths.proofs.GivenLaws.{one_share, passes_last, rest_after_skip}
use Rattle.slice_paths.proofs.stream.GoalStream.skip.Goals as goal

pub frames_behind-requires : goal.frames_behind-requires
frames_behind-requires c = λ e.
    (let s = c.args.self.now in
    let is = c.self.view_is in
    let h = passes_last s c.requires.last.0 c.args.passed c.requires.rest c.requires.last.1 c.requires.has in
    let last : c.as_slice.result.now ≡ s.last = c.as_slice.ensures.value ∙ ap (λ (v : Stream). v.last) is in
    h.way ((λ i. way_behind c.args.passed (core_of (sym is i).core).tree [] (first_way (core_of (sym is i).core).agents) (sym last i)) ∙ e))

pub returns-in-Ok-frames_behind-clause-ok : goal.returns-in-Ok-frames_behind-clause-ok
returns-in-Ok-frames_behind-clause-ok c =
    let s = c.args.self.now in
    let is = c.self.view_is in
    let last : c.as_slice.result.now ≡ s.last = c.as_slice.ensures.value ∙ ap (λ (v : Stream). v.last) is in (
      c.in-Ok.ensures.ok.0,
      omega (arith, ap (λ (v : Stream). v.given) is),
      ap (λ (n : ℕ). ahead_of n c.in-Ok-frames_behind.frames.items []) c.self.invariant.1
          ∙ c.in-Ok-frames_behind.ensures.ahead
          ∙ (λ i. events_after (core_of (is i).core) c.args.passed (last i)),
    )

pub returns-in-Ok-frames_behind-clause-rest : goal.returns-in-Ok-frames_behind-clause-rest
returns-in-Ok-frames_behind-clause-rest c =
    let s = c.args.self.now in
    let is = c.self.view_is in
    let h = passes_last s c.requires.last.0 c.args.passed c.requires.rest c.requires.last.1 c.requires.has in
    let many : c.in-Ok.skipped ≡ goals_under (core_of s.core) c.args.passed s.last s.kind =
    one_share (core_of s.core) c.args.passed s.last (drop s.given (goals (core_of s.core))) c.in-Ok.skipped (goals_under (core_of s.core) c.args.passed s.last s.kind) c.in-Ok.ensures.ok.0 h.share in
    let last : c.as_slice.result.now ≡ s.last = c.as_slice.ensures.value ∙ ap (λ (v : Stream). v.last) is in
    rest_after_skip s _ c.args.passed h
    (ap (λ (n : ℕ). ahead_of n c.in-Ok-frames_behind.frames.items []) c.self.invariant.1
    ∙ c.in-Ok-frames_behind.ensures.ahead
    ∙ (λ i. events_after (core_of (is i).core) c.args.passed (last i)))
    (omega (arith, many, ap (λ (v : Stream). v.given) is))
    (ap (λ (v : Stream). v.core) is)
