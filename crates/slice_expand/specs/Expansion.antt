-- The core of a program: calls are put in line, names become numbers, and what follows an `if` or a `pick` stands under
-- each arm.
use Rattle.std.specs.Prelude.{ℕ, ◌+◌, pos, true, false, if◌then◌else◌, List, [], ◌∷◌, ◌++◌, None}
use Rattle.std.specs.Str.{bytes_eq}
use Rattle.slice_num.specs.Rational.{whole}
use Rattle.slice_ast.specs.Code.{Code, PlainProc, PlainProgram}
use Rattle.slice_ast.specs.Code as code
use Rattle.slice_ast.specs.declared.tree.Operand.{Operand}
use Rattle.slice_ast.specs.declared.tree.Operand.TheVariants as operand
use Rattle.slice_ast.specs.declared.tree.Term.{Term}
use Rattle.slice_ast.specs.declared.tree.Cmp.{Cmp}
use Rattle.slice_ast.specs.declared.tree.Cmp.TheVariants as cmp
use Rattle.slice_ast.specs.declared.tree.Arg.{Arg}
use Rattle.slice_ast.specs.declared.tree.Arg.TheVariants as arg
use Rattle.slice_core.specs.Tree.{Core}
use Rattle.slice_core.specs.declared.node.Lin.{Lin}
use Rattle.slice_core.specs.declared.node.LinTerm.{LinTerm}
use Rattle.slice_core.specs.declared.node.Source.{Source}
use Rattle.slice_core.specs.declared.node.Source.TheVariants.{Const, Reg}
use Rattle.slice_expand.specs.Scope.{Meaning, AnAgent, APiece, ANumber, Scope, look, looks, bound, bind, agent_at, piece_named, pieces_named, as_pieces, fraction_value, factor_value, first_scope}
use Rattle.slice_expand.specs.ProgramRun.{param_names}
use Rattle.slice_expand.specs.Marked.{Marked, Called, Ask, Set, Cut, Join, Test, Give, End, plain}

-- what the names stand for in a core: numbers are told by their registers
abbrev pub Names : Type 0
Names = Scope ℕ

-- where the number of a name comes from; 0 where it is no number
abbrev pub source_of : Meaning ℕ → Source
source_of (AnAgent a) = Const (whole (pos 0))
source_of (APiece p) = Const (whole (pos 0))
source_of (ANumber r) = Reg r

-- how many queries an operand makes, and terms in a row
abbrev pub operand_asks : Operand → ℕ
operand_asks (operand.Fraction f) = 0
operand_asks (operand.Named x) = 0
operand_asks (operand.Value a x) = 1

abbrev pub asks_of : List Term → ℕ
asks_of [] = 0
asks_of (t ∷ ts) = operand_asks t.operand + asks_of ts

-- an operand whose query, where it makes one, is answered in that register
abbrev pub operand_source : Names → ℕ → Operand → Source
operand_source names r (operand.Fraction f) = Const (fraction_value f)
operand_source names r (operand.Named x) = source_of (look names x.word)
operand_source names r (operand.Value a x) = Reg r

-- terms whose queries are answered in the registers from that one on
abbrev pub terms_lin : Names → ℕ → List Term → List LinTerm
terms_lin names r [] = []
terms_lin names r (t ∷ ts) =
    record { minus = t.minus; factor = factor_value t.factor; source = operand_source names r t.operand } ∷ terms_lin names (r + operand_asks t.operand) ts

abbrev pub sum_lin : Names → ℕ → List Term → Lin
sum_lin names r ts = record { terms = terms_lin names r ts }

-- the query of an operand, where it makes one, and what follows
abbrev pub operand_ask : Names → ℕ → Operand → Marked → Marked
operand_ask names r (operand.Fraction f) next = next
operand_ask names r (operand.Named x) next = next
operand_ask names r (operand.Value a x) next = Ask (agent_at names a) (piece_named names x) r next

-- the queries of terms, answered in the registers from that one on
abbrev pub asks : Names → ℕ → List Term → Marked → Marked
asks names r [] next = next
asks names r (t ∷ ts) next = operand_ask names r t.operand (asks names (r + operand_asks t.operand) ts next)

-- the test of a comparison
abbrev pub test : Cmp → Lin → Lin → Marked → Marked → Marked
test cmp.Less left right at_yes at_no = Test right left true at_yes at_no
test cmp.AtMost left right at_yes at_no = Test right left false at_yes at_no
test cmp.More left right at_yes at_no = Test left right true at_yes at_no
test cmp.AtLeast left right at_yes at_no = Test left right false at_yes at_no

-- ---- picks

-- a piece that was asked, and the register of the answer
pub record Offer : Type 0 where
  pub piece : ℕ
  pub reg : ℕ

-- the offers of pieces that are asked in order, in the registers from that one on
abbrev pub offers : ℕ → List ℕ → List Offer
offers r [] = []
offers r (p ∷ ps) = record { piece = p; reg = r } ∷ offers (r + 1) ps

abbrev pub count : {A : Type 0} → List A → ℕ
count [] = 0
count (x ∷ xs) = 1 + count xs

-- the queries of offers to an agent
abbrev pub offer_asks : ℕ → List Offer → Marked → Marked
offer_asks a [] next = next
offer_asks a (o ∷ os) next = Ask a o.piece o.reg (offer_asks a os next)

abbrev pub offered : List Offer → List ℕ
offered [] = []
offered (o ∷ os) = o.piece ∷ offered os

-- the sum that is one register
abbrev pub one_reg : ℕ → Lin
one_reg r = record { terms = record { minus = false; factor = None; source = Reg r } ∷ [] }

-- the best so far against each that is left: it stays where it is at least as much. Others stand before and after the
-- best in their order
abbrev pub contest : (before : List Offer) (best : Offer) (after left : List Offer) → (List ℕ → Marked) → Marked
contest before best after [] go = go (best.piece ∷ offered (before ++ after))
contest before best after (o ∷ os) go =
    Test (one_reg best.reg) (one_reg o.reg) false
    (contest before best (after ++ o ∷ []) os go)
    (contest (before ++ best ∷ after) o [] os go)

-- the first is the best so far
abbrev pub contest_all : List Offer → (List ℕ → Marked) → Marked
contest_all [] go = go []
contest_all (o ∷ os) go = contest [] o [] os go

-- ---- statements

-- what comes after a block: its names, and the next register and piece
abbrev pub Then : Type 0
Then = Names → (reg piece : ℕ) → Marked

-- what a call of a name becomes, with its arguments, and with what comes after its yields
abbrev pub Inline : Type 0
Inline = List ℕ → List (Meaning ℕ) → (reg piece : ℕ) → (List (Meaning ℕ) → (reg piece : ℕ) → Marked) → Marked

-- the arguments of a call, each number in a register
abbrev pub args_set : Names → List Arg → ℕ → (List (Meaning ℕ) → ℕ → Marked) → Marked
args_set names [] r go = go [] r
args_set names (arg.Agent a ∷ xs) r go = args_set names xs r (λ ms q. go (AnAgent (agent_at names a) ∷ ms) q)
args_set names (arg.Piece x ∷ xs) r go = args_set names xs r (λ ms q. go (APiece (piece_named names x) ∷ ms) q)
args_set names (arg.Number e ∷ xs) r go =
    let q = r + asks_of e.terms in
    asks names r e.terms (Set q (sum_lin names r e.terms) (args_set names xs (q + 1) (λ ms s. go (ANumber q ∷ ms) s)))

-- the statements, and then what comes after; r and p are the next register and the next piece
abbrev pub expand : Inline → Code → Names → (r p : ℕ) → Then → Marked
expand inline code.End names r p go = go names r p
expand inline (code.Cut a x e left right rest) names r p go =
    asks names r e.terms (Cut (agent_at names a) (piece_named names x) (sum_lin names r e.terms) p (p + 1)
    (expand inline rest (bound right (APiece (p + 1)) (bound left (APiece p) names)) (r + asks_of e.terms) (p + 2) go))
expand inline (code.Let x e rest) names r p go =
    let q = r + asks_of e.terms in
    asks names r e.terms (Set q (sum_lin names r e.terms) (expand inline rest (bound x (ANumber q) names) (q + 1) p go))
expand inline (code.Join x y z rest) names r p go =
    Join (piece_named names x) (piece_named names y) p (expand inline rest (bound z (APiece p) names) r (p + 1) go)
expand inline (code.Give x a rest) names r p go =
    Give (piece_named names x) (agent_at names a) (expand inline rest names r p go)
expand inline (code.If left c right one ys other zs xs at rest) names r p go =
    let q = r + asks_of left.terms in
    let s = q + asks_of right.terms in
    asks names r left.terms (asks names q right.terms (test c (sum_lin names r left.terms) (sum_lin names q right.terms)
    (expand inline one names s p (λ inner t u. expand inline rest (bind xs (looks inner ys) names) t u go))
    (expand inline other names s p (λ inner t u. expand inline rest (bind xs (looks inner zs) names) t u go))))
expand inline (code.Pick a xs ys at rest) names r p go =
    let os = offers r (pieces_named names xs) in
    offer_asks (agent_at names a) os (contest_all os (λ ps. expand inline rest (bind ys (as_pieces ps) names) (r + count xs) p go))
expand inline (code.Call f xs ys at rest) names r p go =
    Called (args_set names xs r (λ ms q. inline f.word ms q p (λ yields s u. expand inline rest (bind ys yields names) s u go)))

-- no procedure is there to be called
abbrev pub no_inline : Inline
no_inline f args r p go = go [] r p

-- a procedure put in line: its statements under its own names, and what it yields
abbrev pub inlined : PlainProc → Inline → List (Meaning ℕ) → (reg piece : ℕ) → (List (Meaning ℕ) → (reg piece : ℕ) → Marked) → Marked
inlined d inline args r p go =
    expand inline d.body.code (bind (param_names d.params) args []) r p (λ names s u. go (looks names d.body.yields) s u)

-- one more procedure is there, in which those before it are put in line
abbrev pub inline_with : PlainProc → Inline → Inline
inline_with d inline f args r p go =
    if bytes_eq d.name.word f then inlined d inline args r p go else inline f args r p go

-- procedures in the order of the text
abbrev pub inline_after : Inline → List PlainProc → Inline
inline_after inline [] = inline
inline_after inline (d ∷ ds) = inline_after (inline_with d inline) ds

-- a program's core with its calls marked
abbrev pub marked : PlainProgram → Marked
marked p = expand (inline_after no_inline p.procs) p.body first_scope 0 1 (λ names r u. End)

-- a program's core
abbrev pub core_of : PlainProgram → Core
core_of p = record { name = p.name.word; agents = p.agents.value; tree = plain (marked p) }
