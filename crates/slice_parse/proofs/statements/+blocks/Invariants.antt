use Rattle.std.proofs.Common.{◌≡◌, ◌-◌, ◌+◌, ◌*◌, map}
use Rattle.slice_ast.specs.View.{head_of}
use Rattle.slice_parse.specs.Combinators.{Tired, many}
use Rattle.slice_parse.specs.Lexemes.{starts}
use Rattle.slice_parse.specs.Rules.{head, heads, block}
use Rattle.slice_parse.specs.Reads.{with_front}
use Rattle.slice_parse.proofs.statements.+blocks.Given as goal

abbrev pub decreases-block : goal.decreases-block
decreases-block l = 5 * l.depth

abbrev pub decreases-if_ : goal.decreases-if_
decreases-if_ l = 5 * l.depth + 1

abbrev pub decreases-statement : goal.decreases-statement
decreases-statement l = 5 * l.depth + 2

abbrev pub decreases-statements : goal.decreases-statements
decreases-statements l = 5 * l.depth + 3

abbrev pub decreases-body : goal.decreases-body
decreases-body l = 5 * l.depth + 4

abbrev pub invariant-statements-loop-turn : goal.invariant-statements-loop-turn
invariant-statements-loop-turn l =
    heads 63 l.turns (block 63 l.turns l.depth) l.fn.tokens
    ≡ with_front (map head_of l.found) (many Tired starts (head 63 l.turns (block 63 l.turns l.depth)) (l.turns - l._turn) l.tokens)
