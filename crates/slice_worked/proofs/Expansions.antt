-- Definitions computed on small programs: their runs, their cores and their limits.
use Rattle.std.proofs.Common.{◌≡◌, ℕ, List, [], ◌∷◌, ℤ, pos, false, refl}
use Rattle.std.specs.Prelude.{codes, None, Some, Option, map, slice_index_or}
use Rattle.slice_num.specs.Gcd.{gcd_of, gcd_steps}
use Rattle.slice_num.specs.Rational.{Rational, ratio, whole, plus, times}
use Rattle.slice_num.specs.Arithmetic.{inverse}
use Rattle.slice_num.specs.Valuation.{Valuation, value}
use Rattle.slice_num.specs.Pieces.{joined}
use Rattle.slice_num.specs.declared.interval.Interval.{Interval}
use Rattle.slice_num.specs.declared.choice.Side.{Side}
use Rattle.slice_num.specs.declared.choice.Side.TheVariants as side
use Rattle.slice_num.specs.declared.cut_answer.CutAnswer.{CutAnswer}
use Rattle.slice_ast.specs.Code as code
use Rattle.slice_ast.specs.Code.{PlainProc, PlainProgram}
use Rattle.slice_ast.specs.declared.tree.Name.{Name}
use Rattle.slice_ast.specs.declared.tree.Number.{Number}
use Rattle.slice_ast.specs.declared.tree.AgentRef.{AgentRef}
use Rattle.slice_ast.specs.declared.tree.AgentRef.TheVariants as ref
use Rattle.slice_ast.specs.declared.tree.Fraction.{Fraction}
use Rattle.slice_ast.specs.declared.tree.Operand.{Operand}
use Rattle.slice_ast.specs.declared.tree.Operand.TheVariants as operand
use Rattle.slice_ast.specs.declared.tree.Sum.{Sum}
use Rattle.slice_ast.specs.declared.tree.Cmp.TheVariants as cmp
use Rattle.slice_ast.specs.declared.tree.Kind.TheVariants as kind
use Rattle.slice_ast.specs.declared.tree.Arg.TheVariants as arg
use Rattle.slice_core.specs.Measures.{worth_of}
use Rattle.slice_core.specs.Run.{Board}
use Rattle.slice_core.specs.Tree.{Cut, Ask, Test, Give, End}
use Rattle.slice_core.specs.declared.query.Query.{Query}
use Rattle.slice_core.specs.declared.node.Lin.{Lin}
use Rattle.slice_core.specs.declared.node.Source.{Source}
use Rattle.slice_core.specs.declared.node.Source.TheVariants.{Const, Reg}
use Rattle.slice_expand.specs.ProgramRun.{ProgramEnd, Done, Stuck, Few, Bad, Many, run_program, picked}
use Rattle.slice_expand.specs.Expansion as expansion
use Rattle.slice_expand.specs.Limits.{events, ACall, ANode, first_limit}

-- ---- programs as plain data, places aside

abbrev named : List ℕ → Name
named text = record { word = text; at = 0 }

abbrev number : ℕ → Number
number n = record { value = n; at = 0 }

abbrev agent : ℕ → AgentRef
agent a = ref.Fixed (number a)

abbrev fraction : ℕ → ℕ → Fraction
fraction n d = record { num = number n; den = Some (number d) }

abbrev sum_of : Option Fraction → Operand → Sum
sum_of factor x = record { terms = record { minus = false; factor = factor; operand = x } ∷ [] }

abbrev value_to : AgentRef → Name → Sum
value_to a x = sum_of None (operand.Value a x)

cake : Name
cake = named (codes "cake")

left : Name
left = named (codes "l")

right : Name
right = named (codes "r")

-- agent 1 cuts the cake into halves, agent 2 takes the one that it prefers
cut_and_choose : PlainProgram
cut_and_choose = record {
  procs = [];
  name = named (codes "cc");
  agents = number 2;
  body =
      code.Cut (agent 1) cake (sum_of None (operand.Fraction (fraction 1 2))) left right
      (code.If (value_to (agent 2) left) cmp.AtLeast (value_to (agent 2) right)
      (code.Give left (agent 2) (code.Give right (agent 1) code.End)) []
      (code.Give right (agent 2) (code.Give left (agent 1) code.End)) []
      [] 0 code.End);
}

-- ---- runs. Agent 1 likes the first and the last of three units, agent 2 likes all alike

tastes : List Valuation
tastes = record { ends = 1 ∷ 2 ∷ 3 ∷ []; heights = 1 ∷ 0 ∷ 1 ∷ [] } ∷ record { ends = 3 ∷ []; heights = 1 ∷ [] } ∷ []

abbrev answer : Rational → CutAnswer
answer point = record { part = 0; point = point }

-- a fraction by its two parts
abbrev parts : Rational → ℤ × ℕ
parts q = (q.num, q.den)

abbrev ends_of : Interval → (ℤ × ℕ) × (ℤ × ℕ)
ends_of i = (parts i.from, parts i.to)

-- how a run ended: the answers to its queries, the shares and what is left; where it is stuck, after so many queries; or why
-- it was refused
data Told : Type 0 where
  Shared : (answers : List (ℤ × ℕ)) (shares : List (List ((ℤ × ℕ) × (ℤ × ℕ)))) (left : List ((ℤ × ℕ) × (ℤ × ℕ))) → Told
  Halted : (at : Side) (answers : List (ℤ × ℕ)) → Told
  Refused : (kind query : ℕ) → Told

abbrev answers_on : Board → List (ℤ × ℕ)
answers_on b = map (λ (q : Query). parts q.answer) b.queries

abbrev told : ProgramEnd → Told
told (Done b) = Shared (answers_on b) (map (map ends_of) b.shares) (map ends_of (joined b.pieces))
told (Stuck at b) = Halted at (answers_on b)
told (Few query) = Refused 0 query
told (Bad query) = Refused 1 query
told Many = Refused 2 0

abbrev run_with : PlainProgram → List CutAnswer → Told
run_with p ys = told (run_program (worth_of tastes) p 3 ys)

abbrev at : ℕ → Rational
at n = whole (pos n)

abbrev over : ℕ → ℕ → ℤ × ℕ
over n d = (pos n, d)

-- the least right answer is 1: agent 2 prefers what lies to the right
least : run_with cut_and_choose (answer (at 1) ∷ []) ≡ Shared (over 1 1 ∷ over 1 3 ∷ over 2 3 ∷ []) (((over 0 1, over 1 1) ∷ []) ∷ ((over 1 1, over 3 1) ∷ []) ∷ []) []
unfolding cut_and_choose cake left right tastes value plus times inverse ratio gcd_of gcd_steps
least = refl

-- 2 is right as well, since the middle is worth nothing to agent 1: then it prefers what lies to the left
greatest : run_with cut_and_choose (answer (at 2) ∷ []) ≡ Shared (over 2 1 ∷ over 2 3 ∷ over 1 3 ∷ []) (((over 2 1, over 3 1) ∷ []) ∷ ((over 0 1, over 2 1) ∷ []) ∷ []) []
unfolding cut_and_choose cake left right tastes value plus times inverse ratio gcd_of gcd_steps
greatest = refl

-- a wrong answer, too few, too many
wrong : run_with cut_and_choose (answer (ratio (pos 5) 2) ∷ []) ≡ Refused 1 0
unfolding cut_and_choose cake left right tastes value plus times inverse ratio gcd_of gcd_steps
wrong = refl

no_answer : run_with cut_and_choose [] ≡ Refused 0 0
unfolding cut_and_choose cake left right tastes value plus times inverse ratio gcd_of gcd_steps
no_answer = refl

one_too_many : run_with cut_and_choose (answer (at 2) ∷ answer (at 2) ∷ []) ≡ Refused 2 0
unfolding cut_and_choose cake left right tastes value plus times inverse ratio gcd_of gcd_steps
one_too_many = refl

-- more is asked for than the cake is worth
asks_too_much : PlainProgram
asks_too_much = record {
  procs = [];
  name = named (codes "p");
  agents = number 2;
  body = code.Cut (agent 1) cake (sum_of None (operand.Fraction (fraction 3 2))) left right code.End;
}

stuck : run_with asks_too_much [] ≡ Halted side.High []
unfolding asks_too_much cake left right tastes value plus times inverse ratio gcd_of gcd_steps
stuck = refl

-- a procedure cuts a piece and yields its parts turned around; the arms of an `if` yield them in either order
holder : Name
holder = named (codes "a")

piece : Name
piece = named (codes "w")

part : Name
part = named (codes "n")

turned : PlainProc
turned = record {
  name = named (codes "turned");
  params = record { kind = kind.Agent; name = holder } ∷ record { kind = kind.Number; name = part } ∷ record { kind = kind.Piece; name = piece } ∷ [];
  body = record { code = code.Cut (ref.Named holder) piece (sum_of None (operand.Named part)) left right code.End; yields = right ∷ left ∷ [] };
}

with_yields : PlainProgram
with_yields = record {
  procs = turned ∷ [];
  name = named (codes "p");
  agents = number 2;
  body =
      code.Call turned.name (arg.Agent (agent 1) ∷ arg.Number (sum_of (Some (fraction 1 2)) (operand.Value (agent 1) cake)) ∷ arg.Piece cake ∷ []) (left ∷ right ∷ []) 0
      (code.If (value_to (agent 2) left) cmp.More (value_to (agent 2) right) code.End (left ∷ right ∷ []) code.End (right ∷ left ∷ []) (piece ∷ part ∷ []) 0
      (code.Give piece (agent 2) (code.Give part (agent 1) code.End)));
}

-- `l` is [2, 3), worth 1/3 to agent 2, and `r` is [0, 2): agent 2 gets that one
yielded : run_with with_yields (answer (at 2) ∷ []) ≡ Shared (over 1 1 ∷ over 2 1 ∷ over 1 3 ∷ over 2 3 ∷ []) (((over 2 1, over 3 1) ∷ []) ∷ ((over 0 1, over 2 1) ∷ []) ∷ []) []
unfolding with_yields turned holder piece part cake left right tastes value plus times inverse ratio gcd_of gcd_steps
yielded = refl

-- of pieces worth 1, 2, 2 and 0 the first of greatest value comes first, and the others stay in their order
worths : ℕ → Rational
worths p = slice_index_or (at 1 ∷ at 2 ∷ at 2 ∷ at 0 ∷ []) p (at 0)

first_greatest : picked worths (0 ∷ 1 ∷ 2 ∷ 3 ∷ []) ≡ 1 ∷ 0 ∷ 2 ∷ 3 ∷ []
unfolding worths ratio gcd_of gcd_steps
first_greatest = refl

the_other_way : picked worths (3 ∷ 2 ∷ 1 ∷ 0 ∷ []) ≡ 2 ∷ 3 ∷ 1 ∷ 0 ∷ []
unfolding worths ratio gcd_of gcd_steps
the_other_way = refl

-- ---- cores

abbrev single : Source → Lin
single s = record { terms = record { minus = false; factor = None; source = s } ∷ [] }

core_of_cut_and_choose : (expansion.core_of cut_and_choose).tree ≡ Cut 1 0 (single (Const (ratio (pos 1) 2))) 1 2 (Ask 2 1 0 (Ask 2 2 1 (Test (single (Reg 0)) (single (Reg 1)) false
    (Give 1 2 (Give 2 1 End)) (Give 2 2 (Give 1 1 End)))))
unfolding cut_and_choose cake left right
core_of_cut_and_choose = refl

-- the call is counted before the nodes of its arguments, and makes none of its own
met : events (expansion.marked with_yields) 0 0 ≡ ACall ∷ ANode 1 0 ∷ ANode 2 0 ∷ ANode 3 1 ∷ ANode 4 1 ∷ ANode 5 1 ∷ ANode 6 1 ∷ ANode 7 1 ∷ ANode 8 1 ∷ ANode 9 1 ∷ ANode 7 1 ∷ ANode 8 1 ∷ ANode 9 1 ∷ []
unfolding with_yields turned holder piece part cake left right
met = refl

no_limit : first_limit cut_and_choose ≡ None
unfolding cut_and_choose cake left right
no_limit = refl
