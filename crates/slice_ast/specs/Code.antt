-- A program as plain data: what its tree says, without boxes and vectors.
use Rattle.std.specs.Prelude.{ℕ, List, [], ◌∷◌}
use Rattle.slice_ast.specs.declared.tree.Name.{Name}
use Rattle.slice_ast.specs.declared.tree.Number.{Number}
use Rattle.slice_ast.specs.declared.tree.AgentRef.{AgentRef}
use Rattle.slice_ast.specs.declared.tree.Sum.{Sum}
use Rattle.slice_ast.specs.declared.tree.Cmp.{Cmp}
use Rattle.slice_ast.specs.declared.tree.Arg.{Arg}
use Rattle.slice_ast.specs.declared.tree.Param.{Param}

-- the statements of a block: each with those after it
pub data Code : Type 0 where
  End : Code
  Cut : (agent : AgentRef) (piece : Name) (amount : Sum) (left right : Name) (rest : Code) → Code
  Let : (name : Name) (sum : Sum) (rest : Code) → Code
  Join : (first second name : Name) (rest : Code) → Code
  Give : (piece : Name) (agent : AgentRef) (rest : Code) → Code
  If : (left : Sum) (cmp : Cmp) (right : Sum) (yes : Code) (yes_yields : List Name) (no : Code) (no_yields : List Name) (names : List Name) (end : ℕ) (rest : Code) → Code
  Pick : (agent : AgentRef) (pieces names : List Name) (end : ℕ) (rest : Code) → Code
  Call : (callee : Name) (args : List Arg) (names : List Name) (end : ℕ) (rest : Code) → Code

-- statements in braces, and the names that they yield
pub record PlainBlock : Type 0 where
  pub code : Code
  pub yields : List Name

-- a procedure
pub record PlainProc : Type 0 where
  pub name : Name
  pub params : List Param
  pub body : PlainBlock

-- a program: its procedures in order, then its protocol
pub record PlainProgram : Type 0 where
  pub procs : List PlainProc
  pub name : Name
  pub agents : Number
  pub body : Code

-- a statement alone
pub data Head : Type 0 where
  ACut : (agent : AgentRef) (piece : Name) (amount : Sum) (left right : Name) → Head
  ALet : (name : Name) (sum : Sum) → Head
  AJoin : (first second name : Name) → Head
  AGive : (piece : Name) (agent : AgentRef) → Head
  AnIf : (left : Sum) (cmp : Cmp) (right : Sum) (yes no : PlainBlock) (names : List Name) (end : ℕ) → Head
  APick : (agent : AgentRef) (pieces names : List Name) (end : ℕ) → Head
  ACall : (callee : Name) (args : List Arg) (names : List Name) (end : ℕ) → Head

-- a statement before others
abbrev pub put : Head → Code → Code
put (ACut a p s l r) c = Cut a p s l r c
put (ALet n s) c = Let n s c
put (AJoin p q n) c = Join p q n c
put (AGive p a) c = Give p a c
put (AnIf l o r y n ns e) c = If l o r y.code y.yields n.code n.yields ns e c
put (APick a ps ns e) c = Pick a ps ns e c
put (ACall f xs ns e) c = Call f xs ns e c

-- statements in a row, before others
abbrev pub puts : List Head → Code → Code
puts [] c = c
puts (h ∷ hs) c = put h (puts hs c)
