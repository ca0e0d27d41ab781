-- The protocol `rounds`: in each round agent 1 cuts off two parts of one worth, and agent 2 takes the one that it prefers.
use Rattle.std.specs.Prelude.{ℕ, zero, suc, ◌+◌, ◌-◌, ◌*◌, List, [], ◌∷◌, ◌++◌, codes, None, Some, false}
use Rattle.slice_ast.specs.Code.{Head, ACut, AGive, AnIf, End, PlainBlock, PlainProgram, puts}
use Rattle.slice_ast.specs.Layout.{canonical_text}
use Rattle.slice_ast.specs.declared.tree.Name.{Name}
use Rattle.slice_ast.specs.declared.tree.Number.{Number}
use Rattle.slice_ast.specs.declared.tree.AgentRef.{AgentRef}
use Rattle.slice_ast.specs.declared.tree.AgentRef.TheVariants as ref
use Rattle.slice_ast.specs.declared.tree.Operand.{Operand}
use Rattle.slice_ast.specs.declared.tree.Operand.TheVariants as operand
use Rattle.slice_ast.specs.declared.tree.Sum.{Sum}
use Rattle.slice_ast.specs.declared.tree.Cmp.TheVariants as cmp

-- a name that stands nowhere yet, and so its place is 0
abbrev pub named : List ℕ → Name
named text = record { word = text; at = 0 }

-- a number that stands nowhere yet
abbrev pub number : ℕ → Number
number n = record { value = n; at = 0 }

-- an agent by its number
abbrev pub agent : ℕ → AgentRef
agent a = ref.Fixed (number a)

-- a sum of one term
abbrev pub only : Operand → Sum
only x = record { terms = record { minus = false; factor = None; operand = x } ∷ [] }

-- the fraction 1/parts
abbrev pub one_of : ℕ → Sum
one_of parts = only (operand.Fraction (record { num = number 1; den = Some (number parts) }))

-- what a piece is worth to an agent
abbrev pub worth : ℕ → Name → Sum
worth a piece = only (operand.Value (agent a) piece)

-- a letter and the digit of a number below 10
abbrev pub lettered : List ℕ → ℕ → Name
lettered letter i = named (letter ++ (48 + i) ∷ [])

-- the two pieces of round i that are shared out: l1, l2, .. and q1, q2, ..
abbrev pub l : ℕ → Name
l i = lettered (codes "l") i

abbrev pub q : ℕ → Name
q i = lettered (codes "q") i

-- what the first cut of round i leaves: s1, s2, ..
abbrev pub s : ℕ → Name
s i = lettered (codes "s") i

-- what is left after round i: r1, r2, ..
abbrev pub r : ℕ → Name
r i = lettered (codes "r") i

-- what is left of the cake after so many rounds
abbrev pub left_after : ℕ → Name
left_after zero = named (codes "cake")
left_after (suc i) = r (suc i)

-- agent 1 cuts off a piece what is worth 1/parts of the cake to it: that is left, and the rest is right
abbrev pub cut_off : ℕ → Name → Name → Name → Head
cut_off parts piece left right = ACut (agent 1) piece (one_of parts) left right

-- agent 2 is given one piece, and then agent 1 another
abbrev pub gifts : Name → Name → PlainBlock
gifts to_2 to_1 = record { code = puts (AGive to_2 (agent 2) ∷ AGive to_1 (agent 1) ∷ []) End; yields = [] }

-- agent 2 takes the one of two pieces that it prefers, and the first where they are worth the same; agent 1 gets the other
abbrev pub choice : Name → Name → Head
choice first second = AnIf (worth 2 first) cmp.AtLeast (worth 2 second) (gifts first second) (gifts second first) [] 0

-- round i, after which r(i) is left
abbrev pub round : ℕ → ℕ → List Head
round parts i = cut_off parts (left_after (i - 1)) (l i) (s i) ∷ cut_off parts (s i) (q i) (r i) ∷ choice (l i) (q i) ∷ []

-- the last round shares out all that is left
abbrev pub last_round : ℕ → ℕ → List Head
last_round parts n = cut_off parts (left_after (n - 1)) (l n) (q n) ∷ choice (l n) (q n) ∷ []

-- the first so many rounds
abbrev pub first_rounds : ℕ → ℕ → List Head
first_rounds parts zero = []
first_rounds parts (suc i) = first_rounds parts i ++ round parts (suc i)

-- the protocol `rounds` for two agents, of n rounds, in which 2 * n shares of one worth to agent 1 are given
abbrev pub rounds_program : ℕ → PlainProgram
rounds_program n = record { procs = []; name = named (codes "rounds"); agents = number 2; body = puts (first_rounds (2 * n) (n - 1) ++ last_round (2 * n) n) End }

-- its canonical text
abbrev pub rounds_text : ℕ → List ℕ
rounds_text n = canonical_text (rounds_program n)
