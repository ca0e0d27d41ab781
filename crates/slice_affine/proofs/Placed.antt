-- Where the parts of a block stand.
use Rattle.std.specs.Prelude.{ℕ, List, [], ◌∷◌, ◌++◌, map, Option, Some, None}
use Rattle.std.specs.List.{flat_map}
use Rattle.slice_ast.specs.Code.{Code, End, Cut, Let, Join, Give, If, Pick, Call, PlainProc, PlainProgram}
use Rattle.slice_ast.specs.declared.tree.Name.{Name}
use Rattle.slice_ast.specs.declared.tree.Number.{Number}
use Rattle.slice_ast.specs.declared.tree.AgentRef.{AgentRef}
use Rattle.slice_ast.specs.declared.tree.AgentRef.TheVariants as ref
use Rattle.slice_ast.specs.declared.tree.Fraction.{Fraction}
use Rattle.slice_ast.specs.declared.tree.Operand.{Operand}
use Rattle.slice_ast.specs.declared.tree.Operand.TheVariants as operand
use Rattle.slice_ast.specs.declared.tree.Term.{Term}
use Rattle.slice_ast.specs.declared.tree.Sum.{Sum}
use Rattle.slice_ast.specs.declared.tree.Arg.{Arg}
use Rattle.slice_ast.specs.declared.tree.Arg.TheVariants as arg
use Rattle.slice_affine.proofs.Spans.{RiseTo}

abbrev pub names_at : List Name → List ℕ
names_at ns = map (λ n. n.at) ns

abbrev pub ref_at : AgentRef → List ℕ
ref_at (ref.Fixed n) = n.at ∷ []
ref_at (ref.Named x) = x.at ∷ []

abbrev pub den_at : Option Number → List ℕ
den_at None = []
den_at (Some d) = d.at ∷ []

abbrev pub fraction_at : Fraction → List ℕ
fraction_at f = f.num.at ∷ den_at f.den

abbrev pub factor_at : Option Fraction → List ℕ
factor_at None = []
factor_at (Some f) = fraction_at f

abbrev pub operand_at : Operand → List ℕ
operand_at (operand.Fraction f) = fraction_at f
operand_at (operand.Named x) = x.at ∷ []
operand_at (operand.Value a p) = ref_at a ++ p.at ∷ []

abbrev pub term_at : Term → List ℕ
term_at t = factor_at t.factor ++ operand_at t.operand

abbrev pub sum_at : Sum → List ℕ
sum_at m = flat_map term_at m.terms

abbrev pub arg_at : Arg → List ℕ
arg_at (arg.Agent a) = ref_at a
arg_at (arg.Piece p) = p.at ∷ []
arg_at (arg.Number m) = sum_at m

-- the places of each statement, of its test alone for an `if`
abbrev pub cut_at : AgentRef → Name → Sum → Name → Name → List ℕ
cut_at a p m l r = ref_at a ++ p.at ∷ (sum_at m ++ l.at ∷ r.at ∷ [])

abbrev pub let_at : Name → Sum → List ℕ
let_at n m = n.at ∷ sum_at m

abbrev pub join_at : Name → Name → Name → List ℕ
join_at p q n = p.at ∷ q.at ∷ n.at ∷ []

abbrev pub give_at : Name → AgentRef → List ℕ
give_at p a = p.at ∷ ref_at a

abbrev pub pick_at : AgentRef → List Name → List Name → ℕ → List ℕ
pick_at a ps ns end = ref_at a ++ (names_at ps ++ (names_at ns ++ end ∷ []))

abbrev pub call_at : Name → List Arg → List Name → ℕ → List ℕ
call_at f xs ns end = f.at ∷ (flat_map arg_at xs ++ (names_at ns ++ end ∷ []))

-- the places of a block and its yields rise, statement by statement
abbrev pub Placed : ℕ → Code → List Name → ℕ → Type 0
Placed lo End ys hi = RiseTo lo (names_at ys) hi
Placed lo (Cut a p m l r rest) ys hi = (mid : ℕ) × RiseTo lo (cut_at a p m l r) mid × Placed mid rest ys hi
Placed lo (Let n m rest) ys hi = (mid : ℕ) × RiseTo lo (let_at n m) mid × Placed mid rest ys hi
Placed lo (Join p q n rest) ys hi = (mid : ℕ) × RiseTo lo (join_at p q n) mid × Placed mid rest ys hi
Placed lo (Give p a rest) ys hi = (mid : ℕ) × RiseTo lo (give_at p a) mid × Placed mid rest ys hi
Placed lo (If l o r one one_yields other other_yields names end rest) ys hi =
    (a : ℕ) × (b : ℕ) × (c : ℕ) × (d : ℕ) × RiseTo lo (sum_at l ++ sum_at r) a × Placed a one one_yields b × Placed b other other_yields c
    × RiseTo c (names_at names ++ end ∷ []) d × Placed d rest ys hi
Placed lo (Pick a ps ns end rest) ys hi = (mid : ℕ) × RiseTo lo (pick_at a ps ns end) mid × Placed mid rest ys hi
Placed lo (Call f xs ns end rest) ys hi = (mid : ℕ) × RiseTo lo (call_at f xs ns end) mid × Placed mid rest ys hi

-- the same of a program: its procedures, then its protocol
abbrev pub PlacedProcs : ℕ → PlainProgram → List PlainProc → ℕ → Type 0
PlacedProcs lo p [] hi = (mid : ℕ) × RiseTo lo (p.agents.at ∷ []) mid × Placed mid p.body [] hi
PlacedProcs lo p (q ∷ qs) hi =
    (a : ℕ) × (b : ℕ) × RiseTo lo (q.name.at ∷ names_at (map (λ x. x.name) q.params)) a × Placed a q.body.code q.body.yields b × PlacedProcs b p qs hi
