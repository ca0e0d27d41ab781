-- How a program is written: its tokens, by the grammar, one case for each rule.
use Rattle.std.specs.Prelude.{ℕ, List, [], ◌∷◌, ◌++◌, map, codes, decimal, Option, Some, None, Bool, true, false}
use Rattle.slice_ast.specs.Code.{Code, End, Cut, Let, Join, Give, If, Pick, Call, PlainBlock, PlainProc, PlainProgram, Head, put}
use Rattle.slice_ast.specs.declared.tree.Name.{Name}
use Rattle.slice_ast.specs.declared.tree.Number.{Number}
use Rattle.slice_ast.specs.declared.tree.AgentRef.{AgentRef}
use Rattle.slice_ast.specs.declared.tree.AgentRef.TheVariants as ref
use Rattle.slice_ast.specs.declared.tree.Fraction.{Fraction}
use Rattle.slice_ast.specs.declared.tree.Operand.{Operand}
use Rattle.slice_ast.specs.declared.tree.Operand.TheVariants as operand
use Rattle.slice_ast.specs.declared.tree.Term.{Term}
use Rattle.slice_ast.specs.declared.tree.Sum.{Sum}
use Rattle.slice_ast.specs.declared.tree.Cmp.{Cmp}
use Rattle.slice_ast.specs.declared.tree.Cmp.TheVariants as cmp
use Rattle.slice_ast.specs.declared.tree.Kind.{Kind}
use Rattle.slice_ast.specs.declared.tree.Kind.TheVariants as kind
use Rattle.slice_ast.specs.declared.tree.Param.{Param}
use Rattle.slice_ast.specs.declared.tree.Arg.{Arg}
use Rattle.slice_ast.specs.declared.tree.Arg.TheVariants as arg

-- a token: a keyword or a sign, a name, a number, or the last token of a statement, whose place the tree keeps
pub data Mark : Type 0 where
  Plain : (text : List ℕ) → Mark
  Spelled : (name : Name) → Mark
  Digits : (number : Number) → Mark
  Final : (text : List ℕ) (at : ℕ) → Mark

-- the bytes of a token
abbrev pub text_of : Mark → List ℕ
text_of (Plain text) = text
text_of (Spelled name) = name.word
text_of (Digits number) = decimal number.value
text_of (Final text at) = text

-- the place that the tree gives a token, where it gives one
abbrev pub place_of : Mark → Option ℕ
place_of (Plain text) = None
place_of (Spelled name) = Some name.at
place_of (Digits number) = Some number.at
place_of (Final text at) = Some at

-- the items after the first of a list, each with a comma before it
abbrev pub more_listed : {A : Type 0} → (A → List Mark) → List A → List Mark
more_listed item [] = []
more_listed item (x ∷ xs) = Plain (codes ",") ∷ (item x ++ more_listed item xs)

-- a list with commas between
abbrev pub listed : {A : Type 0} → (A → List Mark) → List A → List Mark
listed item [] = []
listed item (x ∷ xs) = item x ++ more_listed item xs

-- name = a word that isn't reserved
abbrev pub name_marks : Name → List Mark
name_marks n = Spelled n ∷ []

-- a keyword and the names after it, where there are any
abbrev pub names_after : List ℕ → List Name → List Mark
names_after word [] = []
names_after word (n ∷ ns) = Plain word ∷ listed name_marks (n ∷ ns)

-- agentref = number | name
abbrev pub ref_marks : AgentRef → List Mark
ref_marks (ref.Fixed n) = Digits n ∷ []
ref_marks (ref.Named x) = Spelled x ∷ []

-- the second part of a fraction, where it has one: "/" number
abbrev pub den_marks : Option Number → List Mark
den_marks None = []
den_marks (Some d) = Plain (codes "/") ∷ Digits d ∷ []

-- fraction = number ["/" number]
abbrev pub fraction_marks : Fraction → List Mark
fraction_marks f = Digits f.num ∷ den_marks f.den

-- operand = fraction | name | "value" "(" agentref "," name ")"
abbrev pub operand_marks : Operand → List Mark
operand_marks (operand.Fraction f) = fraction_marks f
operand_marks (operand.Named x) = Spelled x ∷ []
operand_marks (operand.Value a p) = Plain (codes "value") ∷ Plain (codes "(") ∷ (ref_marks a ++ Plain (codes ",") ∷ Spelled p ∷ Plain (codes ")") ∷ [])

-- the first part of a term, where it has one: fraction "*"
abbrev pub factor_marks : Option Fraction → List Mark
factor_marks None = []
factor_marks (Some f) = fraction_marks f ++ Plain (codes "*") ∷ []

-- term = [fraction "*"] operand; its sign stands before it
abbrev pub term_marks : Term → List Mark
term_marks t = factor_marks t.factor ++ operand_marks t.operand

-- the sign of a term after the first: "+" | "-"
abbrev pub sign : Bool → List ℕ
sign false = codes "+"
sign true = codes "-"

-- the terms after the first, each with its sign
abbrev pub more_marks : List Term → List Mark
more_marks [] = []
more_marks (t ∷ ts) = Plain (sign t.minus) ∷ (term_marks t ++ more_marks ts)

-- the terms of a sum; the first has no sign
abbrev pub terms_marks : List Term → List Mark
terms_marks [] = []
terms_marks (t ∷ ts) = term_marks t ++ more_marks ts

-- sum = term (("+" | "-") term)*
abbrev pub sum_marks : Sum → List Mark
sum_marks s = terms_marks s.terms

-- cmp = "<" | "<=" | ">" | ">="
abbrev pub cmp_text : Cmp → List ℕ
cmp_text cmp.Less = codes "<"
cmp_text cmp.AtMost = codes "<="
cmp_text cmp.More = codes ">"
cmp_text cmp.AtLeast = codes ">="

-- arg = "agent" agentref | "piece" name | "number" sum
abbrev pub arg_marks : Arg → List Mark
arg_marks (arg.Agent a) = Plain (codes "agent") ∷ ref_marks a
arg_marks (arg.Piece p) = Plain (codes "piece") ∷ Spelled p ∷ []
arg_marks (arg.Number s) = Plain (codes "number") ∷ sum_marks s

-- the keyword of a parameter
abbrev pub kind_text : Kind → List ℕ
kind_text kind.Agent = codes "agent"
kind_text kind.Piece = codes "piece"
kind_text kind.Number = codes "number"

-- param = ("agent" | "piece" | "number") name
abbrev pub param_marks : Param → List Mark
param_marks p = Plain (kind_text p.kind) ∷ Spelled p.name ∷ []

-- what a block yields, where it does: "yield" names ";"
abbrev pub yield_marks : List Name → List Mark
yield_marks [] = []
yield_marks (n ∷ ns) = names_after (codes "yield") (n ∷ ns) ++ Plain (codes ";") ∷ []

-- what an `if` tests: "if" sum cmp sum
abbrev pub test_marks : Sum → Cmp → Sum → List Mark
test_marks l o r = Plain (codes "if") ∷ (sum_marks l ++ Plain (cmp_text o) ∷ sum_marks r)

-- the end of an `if`: the brace of its second block, then its names, where it has any
abbrev pub if_end : List Name → ℕ → List Mark
if_end [] end = Final (codes "}") end ∷ []
if_end (n ∷ ns) end = Plain (codes "}") ∷ (names_after (codes "as") (n ∷ ns) ++ Final (codes ";") end ∷ [])

-- the statements of a block
abbrev pub code_marks : Code → List Mark
code_marks End = []
code_marks (Cut a p s l r rest) =
    Plain (codes "cut") ∷ (ref_marks a ++ Spelled p ∷ Plain (codes "at") ∷ (sum_marks s
    ++ Plain (codes "as") ∷ Spelled l ∷ Plain (codes ",") ∷ Spelled r ∷ Plain (codes ";") ∷ code_marks rest))
code_marks (Let n s rest) = Plain (codes "let") ∷ Spelled n ∷ Plain (codes "=") ∷ (sum_marks s ++ Plain (codes ";") ∷ code_marks rest)
code_marks (Join p q n rest) =
    Plain (codes "join") ∷ Spelled p ∷ Plain (codes ",") ∷ Spelled q ∷ Plain (codes "as") ∷ Spelled n ∷ Plain (codes ";") ∷ code_marks rest
code_marks (Give p a rest) = Plain (codes "give") ∷ Spelled p ∷ Plain (codes "to") ∷ (ref_marks a ++ Plain (codes ";") ∷ code_marks rest)
code_marks (If l o r y ys n ns names end rest) =
    test_marks l o r ++ Plain (codes "{") ∷ (code_marks y ++ (yield_marks ys ++ Plain (codes "}") ∷ Plain (codes "else")
    ∷ Plain (codes "{") ∷ (code_marks n ++ (yield_marks ns ++ (if_end names end ++ code_marks rest)))))
code_marks (Pick a ps ns end rest) =
    Plain (codes "pick") ∷ (ref_marks a ++ (names_after (codes "from") ps ++ (names_after (codes "as") ns ++ Final (codes ";") end ∷ code_marks rest)))
code_marks (Call f xs ns end rest) =
    Plain (codes "call") ∷ Spelled f ∷ Plain (codes "(") ∷ (listed arg_marks xs
    ++ Plain (codes ")") ∷ (names_after (codes "as") ns ++ Final (codes ";") end ∷ code_marks rest))

-- a statement alone
abbrev pub head_marks : Head → List Mark
head_marks h = code_marks (put h End)

-- a block up to the brace that ends it
abbrev pub open_marks : PlainBlock → List Mark
open_marks b = Plain (codes "{") ∷ (code_marks b.code ++ yield_marks b.yields)

-- block = "{" stmt* ["yield" names ";"] "}"
abbrev pub block_marks : PlainBlock → List Mark
block_marks b = open_marks b ++ Plain (codes "}") ∷ []

-- proc = "procedure" name "(" [param ("," param)*] ")" block
abbrev pub proc_marks : PlainProc → List Mark
proc_marks p =
    Plain (codes "procedure") ∷ Spelled p.name ∷ Plain (codes "(") ∷ (listed param_marks p.params
    ++ Plain (codes ")") ∷ block_marks p.body)

-- procedures in order
abbrev pub procs_marks : List PlainProc → List Mark
procs_marks [] = []
procs_marks (p ∷ ps) = proc_marks p ++ procs_marks ps

-- the protocol: its name, the number of its agents, and its block, which yields nothing
abbrev pub protocol_marks : Name → Number → Code → List Mark
protocol_marks name agents code =
    Plain (codes "protocol") ∷ Spelled name ∷ Plain (codes "agents") ∷ Digits agents ∷ Plain (codes "{") ∷ (code_marks code ++ Plain (codes "}") ∷ [])

-- program = proc* "protocol" name "agents" number "{" stmt* "}"
abbrev pub program_marks : PlainProgram → List Mark
program_marks p = procs_marks p.procs ++ protocol_marks p.name p.agents p.body

-- the texts of a program's tokens
abbrev pub tokens : PlainProgram → List (List ℕ)
tokens p = map text_of (program_marks p)
