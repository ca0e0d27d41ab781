-- Programs without places: each of them is 0.
use Rattle.std.specs.Prelude.{List, map, Option, Some, None}
use Rattle.slice_ast.specs.Code.{Code, End, Cut, Let, Join, Give, If, Pick, Call, PlainBlock, PlainProc, PlainProgram}
use Rattle.slice_ast.specs.declared.tree.Name.{Name}
use Rattle.slice_ast.specs.declared.tree.Number.{Number}
use Rattle.slice_ast.specs.declared.tree.AgentRef.{AgentRef}
use Rattle.slice_ast.specs.declared.tree.AgentRef.TheVariants as ref
use Rattle.slice_ast.specs.declared.tree.Fraction.{Fraction}
use Rattle.slice_ast.specs.declared.tree.Operand.{Operand}
use Rattle.slice_ast.specs.declared.tree.Operand.TheVariants as operand
use Rattle.slice_ast.specs.declared.tree.Term.{Term}
use Rattle.slice_ast.specs.declared.tree.Sum.{Sum}
use Rattle.slice_ast.specs.declared.tree.Param.{Param}
use Rattle.slice_ast.specs.declared.tree.Arg.{Arg}
use Rattle.slice_ast.specs.declared.tree.Arg.TheVariants as arg

-- a name without its place
abbrev pub bare_name : Name → Name
bare_name n = record { word = n.word; at = 0 }

-- a number without its place
abbrev pub bare_number : Number → Number
bare_number n = record { value = n.value; at = 0 }

-- an agent without its place
abbrev pub bare_ref : AgentRef → AgentRef
bare_ref (ref.Fixed n) = ref.Fixed (bare_number n)
bare_ref (ref.Named x) = ref.Named (bare_name x)

-- a denominator without its place
abbrev pub bare_den : Option Number → Option Number
bare_den None = None
bare_den (Some d) = Some (bare_number d)

-- a fraction without places
abbrev pub bare_fraction : Fraction → Fraction
bare_fraction f = record { num = bare_number f.num; den = bare_den f.den }

-- a factor without places
abbrev pub bare_factor : Option Fraction → Option Fraction
bare_factor None = None
bare_factor (Some f) = Some (bare_fraction f)

-- an operand without places
abbrev pub bare_operand : Operand → Operand
bare_operand (operand.Fraction f) = operand.Fraction (bare_fraction f)
bare_operand (operand.Named x) = operand.Named (bare_name x)
bare_operand (operand.Value a p) = operand.Value (bare_ref a) (bare_name p)

-- a term without places
abbrev pub bare_term : Term → Term
bare_term t = record { minus = t.minus; factor = bare_factor t.factor; operand = bare_operand t.operand }

-- a sum without places
abbrev pub bare_sum : Sum → Sum
bare_sum s = record { terms = map bare_term s.terms }

-- an argument without places
abbrev pub bare_arg : Arg → Arg
bare_arg (arg.Agent a) = arg.Agent (bare_ref a)
bare_arg (arg.Piece p) = arg.Piece (bare_name p)
bare_arg (arg.Number s) = arg.Number (bare_sum s)

-- a parameter without its place
abbrev pub bare_param : Param → Param
bare_param p = record { kind = p.kind; name = bare_name p.name }

-- names without their places
abbrev pub bare_names : List Name → List Name
bare_names = map bare_name

-- statements without places
abbrev pub bare_code : Code → Code
bare_code End = End
bare_code (Cut a p s l r rest) = Cut (bare_ref a) (bare_name p) (bare_sum s) (bare_name l) (bare_name r) (bare_code rest)
bare_code (Let n s rest) = Let (bare_name n) (bare_sum s) (bare_code rest)
bare_code (Join p q n rest) = Join (bare_name p) (bare_name q) (bare_name n) (bare_code rest)
bare_code (Give p a rest) = Give (bare_name p) (bare_ref a) (bare_code rest)
bare_code (If l o r y ys n ns names end rest) =
    If (bare_sum l) o (bare_sum r) (bare_code y) (bare_names ys) (bare_code n) (bare_names ns) (bare_names names) 0 (bare_code rest)
bare_code (Pick a ps ns end rest) = Pick (bare_ref a) (bare_names ps) (bare_names ns) 0 (bare_code rest)
bare_code (Call f xs ns end rest) = Call (bare_name f) (map bare_arg xs) (bare_names ns) 0 (bare_code rest)

-- a block without places
abbrev pub bare_block : PlainBlock → PlainBlock
bare_block b = record { code = bare_code b.code; yields = bare_names b.yields }

-- a procedure without places
abbrev pub bare_proc : PlainProc → PlainProc
bare_proc p = record { name = bare_name p.name; params = map bare_param p.params; body = bare_block p.body }

-- the program with 0 for each of its places
abbrev pub without_places : PlainProgram → PlainProgram
without_places p = record { procs = map bare_proc p.procs; name = bare_name p.name; agents = bare_number p.agents; body = bare_code p.body }
