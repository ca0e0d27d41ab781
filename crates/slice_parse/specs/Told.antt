-- What the rules give, as `parse` tells it.
use Rattle.std.specs.Prelude.{◌≡◌, ℕ, List, [], ◌∷◌, Result, Ok, Err}
use Rattle.slice_lex.specs.declared.token.LexFault.{LexFault}
use Rattle.slice_lex.specs.declared.token.LexFault.TheVariants as lexfault
use Rattle.slice_ast.specs.declared.tree.Program.{Program}
use Rattle.slice_ast.specs.Code.{PlainProgram}
use Rattle.slice_ast.specs.View.{program_of}
use Rattle.slice_parse.specs.declared.parser.ParseFault.{ParseFault}
use Rattle.slice_parse.specs.declared.parser.ParseFault.TheVariants.{Lex, Syntax, DeepBlock, LongSum, Memory}
use Rattle.slice_parse.specs.declared.cursor.Stop.{Stop}
use Rattle.slice_parse.specs.declared.cursor.Stop.TheVariants as stop
use Rattle.slice_parse.specs.Combinators as step

-- the place of the next token, or else the end
abbrev pub next_place : List step.Token → ℕ → ℕ
next_place [] end = end
next_place (t ∷ ts) end = t.at

-- a fault of the rules at this place
abbrev pub fault_of : step.Fault → ℕ → ParseFault
fault_of step.Syntax at = Syntax at
fault_of step.Deep at = DeepBlock at
fault_of step.Long at = LongSum at
fault_of step.Tired at = Syntax at

-- what the rules give; the text has this length
abbrev pub told : step.Outcome PlainProgram → ℕ → Result PlainProgram ParseFault
told (step.Good p rest) end = Ok p
told (step.Bad fault rest) end = Err (fault_of fault (next_place rest end))

-- the answer is this one, unless memory ran out
abbrev pub Answers : Result PlainProgram ParseFault → Result Program ParseFault → Type 0
Answers wanted (Ok p) = wanted ≡ Ok (program_of p)
Answers wanted (Err Memory) = Unit {0}
Answers wanted (Err (Lex fault)) = ⊥
Answers wanted (Err (Syntax at)) = wanted ≡ Err (Syntax at)
Answers wanted (Err (DeepBlock at)) = wanted ≡ Err (DeepBlock at)
Answers wanted (Err (LongSum at)) = wanted ≡ Err (LongSum at)

-- a fault of the lexer, where want of memory is the parser's own
abbrev pub of_lexer : LexFault → ParseFault
of_lexer (lexfault.BadByte at) = Lex (lexfault.BadByte at)
of_lexer (lexfault.LongWord at) = Lex (lexfault.LongWord at)
of_lexer (lexfault.LongNumber at) = Lex (lexfault.LongNumber at)
of_lexer (lexfault.LeadingZero at) = Lex (lexfault.LeadingZero at)
of_lexer lexfault.Memory = Memory

-- a fault of the parser, which stopped at this place
abbrev pub fault_at : Stop → ℕ → ParseFault
fault_at stop.Memory at = Memory
fault_at stop.Syntax at = Syntax at
fault_at stop.Deep at = DeepBlock at
fault_at stop.Long at = LongSum at
fault_at stop.Tired at = Syntax at
