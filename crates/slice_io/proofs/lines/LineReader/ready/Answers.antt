use Rattle.std.proofs.Common.{◌≡◌, [], true, false, not, Bool, true≢false}
use Rattle.slice_io.proofs.LineSteps.{filled, ended}
use Rattle.slice_io.proofs.lines.LineReader.ready.Goals as goal

not_false : (b : Bool) → not b ≡ false → b ≡ true
not_false true e = λ t. true
not_false false e = absurd (true≢false e)

pub returns-then-is_spent-clause-gathers : goal.returns-then-is_spent-clause-gathers
returns-then-is_spent-clause-gathers g c file told h =
    let spent : c.args.self.now.ahead ≡ [] = c.is_spent.ensures.0 (c.if-is_spent.true) in
    let f = c.in_ok-fill.ensures {u = tt} in
    let b = f.bytes file told in (
      filled c.args.self.now c.fill.new.self file h spent f.keeps.0 f.line.0 f.line.1 b.0,
      λ e. ended c.args.self.now file h spent (b.1 (c.is_spent-then-is_spent.ensures.0 (not_false c.is_spent-then-is_spent.result e))),
    )
