-- What the rules say of numbers alone, whatever names are in scope.
use Rattle.std.specs.Prelude.{◌≡◌, ℕ, ◌≤◌, true, List, [], ◌∷◌, ◌++◌, length, Option, Some, None}
use Rattle.slice_ast.specs.Code.{Code, End, Cut, Let, Join, Give, If, Pick, Call, PlainProc, PlainProgram}
use Rattle.slice_ast.specs.Spellable.{Each}
use Rattle.slice_ast.specs.declared.tree.Name.{Name}
use Rattle.slice_ast.specs.declared.tree.Number.{Number}
use Rattle.slice_ast.specs.declared.tree.AgentRef.{AgentRef}
use Rattle.slice_ast.specs.declared.tree.AgentRef.TheVariants as ref
use Rattle.slice_ast.specs.declared.tree.Fraction.{Fraction}
use Rattle.slice_ast.specs.declared.tree.Operand.{Operand}
use Rattle.slice_ast.specs.declared.tree.Operand.TheVariants as operand
use Rattle.slice_ast.specs.declared.tree.Term.{Term}
use Rattle.slice_ast.specs.declared.tree.Sum.{Sum}
use Rattle.slice_ast.specs.declared.tree.Arg.{Arg}
use Rattle.slice_ast.specs.declared.tree.Arg.TheVariants as arg
use Rattle.slice_affine.specs.Looks.{fit, procedure}

-- an agent's number is from 1 to the count
abbrev pub IsAgentOf : ℕ → AgentRef → Type 0
IsAgentOf count (ref.Fixed n) = (1 ≤ n.value) × (n.value ≤ count)
IsAgentOf count (ref.Named x) = Unit {0}

-- a denominator, where there is one, isn't 0
abbrev pub IsDen : Option Number → Type 0
IsDen None = Unit {0}
IsDen (Some d) = 1 ≤ d.value

-- a factor's denominator isn't 0
abbrev pub KeepsFactor : Option Fraction → Type 0
KeepsFactor None = Unit {0}
KeepsFactor (Some f) = IsDen f.den

-- an operand's denominator isn't 0, and its agent is in range
abbrev pub KeepsOperand : ℕ → Operand → Type 0
KeepsOperand count (operand.Fraction f) = IsDen f.den
KeepsOperand count (operand.Named x) = Unit {0}
KeepsOperand count (operand.Value a p) = IsAgentOf count a

-- the same of a factor and its operand
abbrev pub KeepsTerm : ℕ → Term → Type 0
KeepsTerm count t = KeepsFactor t.factor × KeepsOperand count t.operand

-- the same of all terms
abbrev pub KeepsSum : ℕ → Sum → Type 0
KeepsSum count s = Each (KeepsTerm count) s.terms

-- the same of an argument
abbrev pub KeepsArg : ℕ → Arg → Type 0
KeepsArg count (arg.Agent a) = IsAgentOf count a
KeepsArg count (arg.Piece p) = Unit {0}
KeepsArg count (arg.Number s) = KeepsSum count s

-- the call is of one of these procedures, with arguments as its parameters and as many names as it yields
abbrev pub IsCallOf : List PlainProc → Name → List Arg → List Name → Type 0
IsCallOf procs f xs ns = (q : PlainProc) × (procedure procs f.word ≡ Some q) × (fit xs q.params ≡ true) × (length ns ≡ length q.body.yields)

-- the statements of a block, where there are `count` agents and these procedures were defined earlier: agents are in range, no denominator is 0, and what is bound is as many as what it is bound to
abbrev pub CodeKeepsCounts : ℕ → List PlainProc → Code → Type 0
CodeKeepsCounts count procs End = Unit {0}
CodeKeepsCounts count procs (Cut a p s l r rest) = IsAgentOf count a × KeepsSum count s × CodeKeepsCounts count procs rest
CodeKeepsCounts count procs (Let n s rest) = KeepsSum count s × CodeKeepsCounts count procs rest
CodeKeepsCounts count procs (Join p q n rest) = CodeKeepsCounts count procs rest
CodeKeepsCounts count procs (Give p a rest) = IsAgentOf count a × CodeKeepsCounts count procs rest
CodeKeepsCounts count procs (If l o r one one_yields other other_yields names end rest) =
    KeepsSum count l × KeepsSum count r × CodeKeepsCounts count procs one × CodeKeepsCounts count procs other
    × (length names ≡ length one_yields) × (length names ≡ length other_yields) × CodeKeepsCounts count procs rest
CodeKeepsCounts count procs (Pick a ps ns end rest) = IsAgentOf count a × (2 ≤ length ps) × (length ns ≡ length ps) × CodeKeepsCounts count procs rest
CodeKeepsCounts count procs (Call f xs ns end rest) = Each (KeepsArg count) xs × IsCallOf procs f xs ns × CodeKeepsCounts count procs rest

-- the procedures that are left after these earlier ones, and the protocol
abbrev pub ProcsKeepCounts : PlainProgram → List PlainProc → List PlainProc → Type 0
ProcsKeepCounts p earlier [] = CodeKeepsCounts p.agents.value earlier p.body
ProcsKeepCounts p earlier (q ∷ qs) = CodeKeepsCounts p.agents.value earlier q.body.code × ProcsKeepCounts p (earlier ++ q ∷ []) qs

-- the program has 1 to 16 agents, and all its blocks keep to the counts
abbrev pub KeepsCounts : PlainProgram → Type 0
KeepsCounts p = (1 ≤ p.agents.value) × (p.agents.value ≤ 16) × ProcsKeepCounts p [] p.procs
