use Rattle.std.proofs.Common.{length, ◌-◌}
use Rattle.slice_lex.proofs.Turns.{IsReadTo}
use Rattle.slice_lex.proofs.lexer.lex.Given as goal

abbrev pub invariant-loop-at : goal.invariant-loop-at
invariant-loop-at l = IsReadTo l.bytes l.tokens.items l.at

abbrev pub decreases-loop-at : goal.decreases-loop-at
decreases-loop-at l = length l.bytes - l.at
