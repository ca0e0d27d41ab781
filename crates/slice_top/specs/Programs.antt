-- How a text is read as a program.
use Rattle.std.specs.Prelude.{◌≡◌, ℕ, List, Option, Some, None}
use Rattle.slice_lex.specs.declared.token.LexFault.TheVariants as lex
use Rattle.slice_parse.specs.declared.parser.ParseFault.{ParseFault}
use Rattle.slice_parse.specs.declared.parser.ParseFault.TheVariants as parser
use Rattle.slice_parse.specs.Parsing.{IsFaultOf}
use Rattle.slice_report.specs.declared.refusal.Refusal.{Refusal}
use Rattle.slice_report.specs.declared.refusal.Refusal.TheVariants.{BadByte, LongWord, LongNumber, LeadingZero, Syntax, DeepBlock, LongSum}

-- the refusal for a fault of a text; want of memory is none
abbrev pub text_refusal : ParseFault → Option Refusal
text_refusal (parser.Lex (lex.BadByte at)) = Some (BadByte at)
text_refusal (parser.Lex (lex.LongWord at)) = Some (LongWord at)
text_refusal (parser.Lex (lex.LongNumber at)) = Some (LongNumber at)
text_refusal (parser.Lex (lex.LeadingZero at)) = Some (LeadingZero at)
text_refusal (parser.Lex lex.Memory) = None
text_refusal (parser.Syntax at) = Some (Syntax at)
text_refusal (parser.DeepBlock at) = Some (DeepBlock at)
text_refusal (parser.LongSum at) = Some (LongSum at)
text_refusal parser.Memory = None

-- the text has a fault, the first in it
abbrev pub RefusesText : List ℕ → Refusal → Type 0
RefusesText text r = (f : ParseFault) × ((text_refusal f ≡ Some r) × IsFaultOf text f)
