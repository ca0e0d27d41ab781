-- The limits of a program: no block stands inside 64 others, and no sum has more than 64 terms.
use Rattle.std.specs.Prelude.{ℕ, zero, suc, ◌≤◌, length}
use Rattle.slice_ast.specs.Code.{Code, End, Cut, Let, Join, Give, If, Pick, Call, PlainProgram}
use Rattle.slice_ast.specs.Spellable.{Each}
use Rattle.slice_ast.specs.declared.tree.Sum.{Sum}
use Rattle.slice_ast.specs.declared.tree.Arg.{Arg}
use Rattle.slice_ast.specs.declared.tree.Arg.TheVariants as arg

-- a sum of at most 64 terms
abbrev pub IsShort : Sum → Type 0
IsShort s = length s.terms ≤ 64

-- an argument whose sum, where it is one, is short
abbrev pub IsShortArg : Arg → Type 0
IsShortArg (arg.Agent a) = Unit {0}
IsShortArg (arg.Piece p) = Unit {0}
IsShortArg (arg.Number s) = IsShort s

-- the statements of a block, where so many further blocks may stand inside each other in it
abbrev pub IsCodeWithin : ℕ → Code → Type 0
IsCodeWithin room End = Unit {0}
IsCodeWithin room (Cut a p s l r rest) = IsShort s × IsCodeWithin room rest
IsCodeWithin room (Let n s rest) = IsShort s × IsCodeWithin room rest
IsCodeWithin room (Join p q n rest) = IsCodeWithin room rest
IsCodeWithin room (Give p a rest) = IsCodeWithin room rest
IsCodeWithin zero (If l o r y ys n ns names end rest) = ⊥
IsCodeWithin (suc room) (If l o r y ys n ns names end rest) = IsShort l × IsShort r × IsCodeWithin room y × IsCodeWithin room n × IsCodeWithin (suc room) rest
IsCodeWithin room (Pick a ps ns end rest) = IsCodeWithin room rest
IsCodeWithin room (Call f xs ns end rest) = Each IsShortArg xs × IsCodeWithin room rest

-- the block of the protocol or of a procedure is the first of at most 64
abbrev pub IsWithinLimits : PlainProgram → Type 0
IsWithinLimits p = Each (λ q. IsCodeWithin 63 q.body.code) p.procs × IsCodeWithin 63 p.body
