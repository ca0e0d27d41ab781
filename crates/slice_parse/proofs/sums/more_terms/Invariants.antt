use Rattle.std.proofs.Common.{◌≡◌, ◌-◌}
use Rattle.slice_parse.specs.Combinators.{Long, many}
use Rattle.slice_parse.specs.Lexemes.{is_sign}
use Rattle.slice_parse.specs.Rules.{more_terms, signed_term}
use Rattle.slice_parse.specs.Reads.{with_front}
use Rattle.slice_parse.proofs.sums.more_terms.Given as goal

abbrev pub invariant-loop-turn : goal.invariant-loop-turn
invariant-loop-turn l = more_terms l.most l.fn.tokens ≡ with_front l.found (many Long is_sign signed_term (l.most - l._turn) l.tokens)
