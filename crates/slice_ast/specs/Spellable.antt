-- The programs that the grammar can spell, and the limits within which a parser reads them.
use Rattle.std.specs.Prelude.{◌≡◌, ◌<◌, ◌^◌, List, [], ◌∷◌, Option, Some, None, false, IsTrue}
use Rattle.slice_num.specs.Name.{is_name}
use Rattle.slice_ast.specs.Code.{Code, End, Cut, Let, Join, Give, If, Pick, Call, PlainBlock, PlainProc, PlainProgram}
use Rattle.slice_ast.specs.declared.tree.Name.{Name}
use Rattle.slice_ast.specs.declared.tree.Number.{Number}
use Rattle.slice_ast.specs.declared.tree.AgentRef.{AgentRef}
use Rattle.slice_ast.specs.declared.tree.AgentRef.TheVariants as ref
use Rattle.slice_ast.specs.declared.tree.Fraction.{Fraction}
use Rattle.slice_ast.specs.declared.tree.Operand.{Operand}
use Rattle.slice_ast.specs.declared.tree.Operand.TheVariants as operand
use Rattle.slice_ast.specs.declared.tree.Term.{Term}
use Rattle.slice_ast.specs.declared.tree.Sum.{Sum}
use Rattle.slice_ast.specs.declared.tree.Param.{Param}
use Rattle.slice_ast.specs.declared.tree.Arg.{Arg}
use Rattle.slice_ast.specs.declared.tree.Arg.TheVariants as arg

-- P holds of each item
abbrev pub Each : {A : Type 0} → (A → Type 0) → List A → Type 0
Each P [] = Unit {0}
Each P (x ∷ xs) = P x × Each P xs

-- P holds of each item, and there is one
abbrev pub EachOfSome : {A : Type 0} → (A → Type 0) → List A → Type 0
EachOfSome P [] = ⊥
EachOfSome P (x ∷ xs) = P x × Each P xs

-- its word is a name: a word that isn't reserved
abbrev pub HasName : Name → Type 0
HasName n = IsTrue (is_name n.word)

-- it has at most 18 digits
abbrev pub HasDigits : Number → Type 0
HasDigits n = n.value < 10 ^ 18

-- an agent's number or name
abbrev pub CanSpellRef : AgentRef → Type 0
CanSpellRef (ref.Fixed n) = HasDigits n
CanSpellRef (ref.Named x) = HasName x

-- a denominator, where there is one
abbrev pub CanSpellDen : Option Number → Type 0
CanSpellDen None = Unit {0}
CanSpellDen (Some d) = HasDigits d

-- both parts of a fraction
abbrev pub CanSpellFraction : Fraction → Type 0
CanSpellFraction f = HasDigits f.num × CanSpellDen f.den

-- a factor, where there is one
abbrev pub CanSpellFactor : Option Fraction → Type 0
CanSpellFactor None = Unit {0}
CanSpellFactor (Some f) = CanSpellFraction f

-- an operand of one of the three kinds
abbrev pub CanSpellOperand : Operand → Type 0
CanSpellOperand (operand.Fraction f) = CanSpellFraction f
CanSpellOperand (operand.Named x) = HasName x
CanSpellOperand (operand.Value a p) = CanSpellRef a × HasName p

-- a term, whatever its sign
abbrev pub CanSpellTerm : Term → Type 0
CanSpellTerm t = CanSpellFactor t.factor × CanSpellOperand t.operand

-- a sum has a term, and the first has no sign
abbrev pub CanSpellTerms : List Term → Type 0
CanSpellTerms [] = ⊥
CanSpellTerms (t ∷ ts) = (t.minus ≡ false) × CanSpellTerm t × Each CanSpellTerm ts

-- a sum
abbrev pub CanSpellSum : Sum → Type 0
CanSpellSum s = CanSpellTerms s.terms

-- an argument of one of the three kinds
abbrev pub CanSpellArg : Arg → Type 0
CanSpellArg (arg.Agent a) = CanSpellRef a
CanSpellArg (arg.Piece p) = HasName p
CanSpellArg (arg.Number s) = CanSpellSum s

-- a parameter
abbrev pub CanSpellParam : Param → Type 0
CanSpellParam p = HasName p.name

-- statements; a `pick` has pieces and names, the names of an `if` and a call may be left out
abbrev pub CanSpellCode : Code → Type 0
CanSpellCode End = Unit {0}
CanSpellCode (Cut a p s l r rest) = CanSpellRef a × HasName p × CanSpellSum s × HasName l × HasName r × CanSpellCode rest
CanSpellCode (Let n s rest) = HasName n × CanSpellSum s × CanSpellCode rest
CanSpellCode (Join p q n rest) = HasName p × HasName q × HasName n × CanSpellCode rest
CanSpellCode (Give p a rest) = HasName p × CanSpellRef a × CanSpellCode rest
CanSpellCode (If l o r y ys n ns names end rest) =
    CanSpellSum l × CanSpellSum r × CanSpellCode y × Each HasName ys × CanSpellCode n × Each HasName ns × Each HasName names × CanSpellCode rest
CanSpellCode (Pick a ps ns end rest) = CanSpellRef a × EachOfSome HasName ps × EachOfSome HasName ns × CanSpellCode rest
CanSpellCode (Call f xs ns end rest) = HasName f × Each CanSpellArg xs × Each HasName ns × CanSpellCode rest

-- a block, which may yield nothing
abbrev pub CanSpellBlock : PlainBlock → Type 0
CanSpellBlock b = CanSpellCode b.code × Each HasName b.yields

-- a procedure
abbrev pub CanSpellProc : PlainProc → Type 0
CanSpellProc p = HasName p.name × Each CanSpellParam p.params × CanSpellBlock p.body

-- the grammar can spell the program: names are names, numbers have at most 18 digits, and no list is empty that the grammar wants to have an item
abbrev pub IsSpellable : PlainProgram → Type 0
IsSpellable p = Each CanSpellProc p.procs × HasName p.name × HasDigits p.agents × CanSpellCode p.body
