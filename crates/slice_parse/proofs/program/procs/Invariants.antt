use Rattle.std.proofs.Common.{◌≡◌, ◌-◌, map}
use Rattle.slice_ast.specs.View.{proc_of}
use Rattle.slice_parse.specs.declared.lexeme.Fixed.TheVariants.{Procedure}
use Rattle.slice_parse.specs.Combinators.{Tired, many}
use Rattle.slice_parse.specs.Lexemes.{is}
use Rattle.slice_parse.specs.Rules.{proc, procs}
use Rattle.slice_parse.specs.Reads.{with_front}
use Rattle.slice_parse.proofs.program.procs.Given as goal

abbrev pub invariant-loop-turn : goal.invariant-loop-turn
invariant-loop-turn l =
    procs 63 l.turns l.depth l.fn.tokens
    ≡ with_front (map proc_of l.found) (many Tired (is Procedure) (proc 63 l.turns l.depth) (l.turns - l._turn) l.tokens)
