use Rattle.std.proofs.Common.{◌≡◌, ◌-◌}
use Rattle.slice_parse.specs.declared.lexeme.Fixed.TheVariants.{Comma}
use Rattle.slice_parse.specs.Combinators.{Tired, many}
use Rattle.slice_parse.specs.Lexemes.{is}
use Rattle.slice_parse.specs.Rules.{after_comma, argument}
use Rattle.slice_parse.specs.Reads.{with_front}
use Rattle.slice_parse.proofs.lists.more_args.Given as goal

abbrev pub invariant-loop-turn : goal.invariant-loop-turn
invariant-loop-turn l =
    many Tired (is Comma) (after_comma (argument 63)) l.turns l.fn.tokens
    ≡ with_front l.found (many Tired (is Comma) (after_comma (argument 63)) (l.turns - l._turn) l.tokens)
