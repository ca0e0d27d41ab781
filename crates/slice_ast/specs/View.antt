-- A tree as plain data.
use Rattle.std.specs.Prelude.{List, map}
use Rattle.slice_ast.specs.Code.{Code, End, PlainBlock, PlainProc, PlainProgram, Head, ACut, ALet, AJoin, AGive, AnIf, APick, ACall, puts}
use Rattle.slice_ast.specs.declared.tree.Program.{Program}
use Rattle.slice_ast.specs.declared.tree.Proc.{Proc}
use Rattle.slice_ast.specs.declared.tree.Stmt.{Stmt}
use Rattle.slice_ast.specs.declared.tree.Block.{Block}
use Rattle.slice_ast.specs.declared.tree.Stmt.TheOpen.{Stmt-F, Block-F}
use Rattle.slice_ast.specs.declared.tree.Stmt.TheFolds.{fold-Stmt, fold-Block}

-- a statement whose blocks are plain data already
abbrev pub head_step : Stmt-F Head PlainBlock → Head
head_step (Stmt-F.Cut a p s l r) = ACut a p s l r
head_step (Stmt-F.Let n s) = ALet n s
head_step (Stmt-F.Join p q n) = AJoin p q n
head_step (Stmt-F.Give p a) = AGive p a
head_step (Stmt-F.If l o r y n ns e) = AnIf l o r y n ns e
head_step (Stmt-F.Pick a ps ns e) = APick a ps ns e
head_step (Stmt-F.Call f xs ns e) = ACall f xs ns e

-- a block whose statements are plain data already
abbrev pub block_step : Block-F Head PlainBlock → PlainBlock
block_step b = record { code = puts b.stmts End; yields = b.yields }

-- the plain data of a statement
abbrev pub head_of : Stmt → Head
head_of = fold-Stmt Head PlainBlock head_step block_step

-- the plain data of a block
abbrev pub block_of : Block → PlainBlock
block_of = fold-Block Head PlainBlock head_step block_step

-- the plain data of statements in a row
abbrev pub code_of : List Stmt → Code
code_of stmts = puts (map head_of stmts) End

-- the plain data of a procedure
abbrev pub proc_of : Proc → PlainProc
proc_of p = record { name = p.name; params = p.params; body = block_of p.body }

-- the plain data of a program
abbrev pub program_of : Program → PlainProgram
program_of p = record { procs = map proc_of p.procs; name = p.name; agents = p.agents; body = code_of p.body }
