-- Walks computed on cut and choose, and on a core one of whose numbers doesn't fit.
use Rattle.std.proofs.Common.{◌≡◌, ◌<◌, ℕ, List, [], ◌∷◌, ℤ, pos, false, refl, arith}
use Rattle.std.specs.Prelude.{codes, map, None, Some}
use Rattle.slice_num.specs.Gcd.{gcd_of, gcd_steps}
use Rattle.slice_num.specs.Rational.{Rational, ratio, whole, plus, times, negated}
use Rattle.slice_num.specs.Arithmetic.{inverse}
use Rattle.slice_num.specs.Fitting.{sum_in, product_in}
use Rattle.slice_num.specs.Valuation.{Valuation}
use Rattle.slice_num.specs.declared.interval.Interval.{Interval}
use Rattle.slice_num.specs.declared.choice.Side.{Side}
use Rattle.slice_num.specs.declared.choice.Side.TheVariants as side
use Rattle.slice_num.specs.declared.cut_answer.CutAnswer.{CutAnswer}
use Rattle.slice_core.specs.Tree.{Core, Cut, Ask, Set, Test, Give, End}
use Rattle.slice_core.specs.WellFormed.{IsWellFormed, IsSumOver}
use Rattle.slice_core.specs.Agents.{IsAgent}
use Rattle.slice_core.specs.declared.query.Query.{Query}
use Rattle.slice_core.specs.declared.node.Lin.{Lin}
use Rattle.slice_core.specs.declared.node.Source.{Source}
use Rattle.slice_core.specs.declared.node.Source.TheVariants.{Const, Reg}
use Rattle.slice_step.specs.Arithmetic.{place_in, reached_in}
use Rattle.slice_run.specs.Walk.{Walked, Good, Refused, Told, Divided, Halted, Least, Given, outcome}
use Rattle.slice_run.specs.declared.outcome.RunFault.TheVariants.{Overflow, BadAnswer, TooFewAnswers}

abbrev single : Source → Lin
single s = record { terms = record { minus = false; factor = None; source = s } ∷ [] }

-- agent 1 halves the cake, agent 2 takes the part that it likes better
cut_and_choose : Core
cut_and_choose = record {
  name = codes "cc";
  agents = 2;
  tree = Cut 1 0 (single (Const (ratio (pos 1) 2))) 1 2 (Ask 2 1 0 (Ask 2 2 1 (Test (single (Reg 0)) (single (Reg 1)) false
      (Give 1 2 (Give 2 1 End)) (Give 2 2 (Give 1 1 End)))));
}

it_is_well_formed : IsWellFormed cut_and_choose
unfolding cut_and_choose
it_is_well_formed = record {
  named = refl;
  some_agent = omega arith;
  few_agents = omega arith;
  agents_there = (first, (second, (second, ((second, (first, record {})), (second, (first, record {}))))));
  numbered = (omega arith, (refl, (record {}, record {})), refl, refl, (omega arith, refl, (omega arith, refl, (over 0 (omega arith), over 1 (omega arith), (omega arith, (omega arith, record {})), (omega arith, (omega arith, record {}))))));
  single_use = (refl, (refl, (refl, ((refl, (refl, record {})), (refl, (refl, record {}))))));
  few_nodes = omega arith;
  few_deep = omega arith;
  few_cuts = omega arith;
}
  where
    first : IsAgent 2 1
    first = (omega arith, omega arith)

    second : IsAgent 2 2
    second = (omega arith, omega arith)

    over : (n : ℕ) → n < 2 → IsSumOver 2 (single (Reg n)).terms
    over n l = (refl, (l, record {}))

-- agent 1 likes the first and the last of three units, agent 2 likes all alike
tastes : List Valuation
tastes = record { ends = 1 ∷ 2 ∷ 3 ∷ []; heights = 1 ∷ 0 ∷ 1 ∷ [] } ∷ record { ends = 3 ∷ []; heights = 1 ∷ [] } ∷ []

-- a fraction by its two parts
abbrev parts : Rational → ℤ × ℕ
parts q = (q.num, q.den)

abbrev ends_of : Interval → (ℤ × ℕ) × (ℤ × ℕ)
ends_of i = (parts i.from, parts i.to)

-- what is told, fractions by their parts
data Seen : Type 0 where
  Shared : (answers : List (ℤ × ℕ)) (shares : List (List ((ℤ × ℕ) × (ℤ × ℕ)))) (left : List ((ℤ × ℕ) × (ℤ × ℕ))) (values : List (List (ℤ × ℕ))) → Seen
  AtCut : (query : ℕ) (at : Side) → Seen
  No : (kind query : ℕ) → Seen

abbrev seen : Walked Told → Seen
seen (Good (Divided queries shares left values)) =
    Shared (map (λ (q : Query). parts q.answer) queries) (map (map ends_of) shares) (map ends_of left) (map (map parts) values)
seen (Good (Halted queries query at)) = AtCut query at
seen (Refused (Overflow query)) = No 0 query
seen (Refused (BadAnswer query)) = No 1 query
seen (Refused (TooFewAnswers query)) = No 2 query
seen (Refused fault) = No 3 0

abbrev over : ℕ → ℕ → ℤ × ℕ
over n d = (pos n, d)

abbrev answer : Rational → CutAnswer
answer point = record { part = 0; point = point }

-- both agents get the same values, whichever half agent 2 takes
abbrev values : List (List (ℤ × ℕ))
values = (over 1 2 ∷ over 1 2 ∷ []) ∷ (over 1 3 ∷ over 2 3 ∷ []) ∷ []

-- the least right answer is 1
least : seen (outcome tastes cut_and_choose Least) ≡ Shared (over 1 1 ∷ over 1 3 ∷ over 2 3 ∷ []) (((over 0 1, over 1 1) ∷ []) ∷ ((over 1 1, over 3 1) ∷ []) ∷ []) [] values
unfolding cut_and_choose tastes place_in reached_in sum_in product_in plus times negated inverse ratio gcd_of gcd_steps
least = refl

-- 2 is right as well
given : seen (outcome tastes cut_and_choose (Given (answer (whole (pos 2)) ∷ []))) ≡ Shared (over 2 1 ∷ over 2 3 ∷ over 1 3 ∷ []) (((over 2 1, over 3 1) ∷ []) ∷ ((over 0 1, over 2 1) ∷ []) ∷ []) [] values
unfolding cut_and_choose tastes place_in reached_in sum_in product_in plus times negated inverse ratio gcd_of gcd_steps
given = refl

wrong : seen (outcome tastes cut_and_choose (Given (answer (ratio (pos 5) 2) ∷ []))) ≡ No 1 0
unfolding cut_and_choose tastes place_in reached_in sum_in product_in plus times negated inverse ratio gcd_of gcd_steps
wrong = refl

none : seen (outcome tastes cut_and_choose (Given [])) ≡ No 2 0
unfolding cut_and_choose tastes place_in reached_in sum_in product_in plus times negated inverse ratio gcd_of gcd_steps
none = refl

one_too_many : seen (outcome tastes cut_and_choose (Given (answer (whole (pos 2)) ∷ answer (whole (pos 2)) ∷ []))) ≡ No 3 0
unfolding cut_and_choose tastes place_in reached_in sum_in product_in plus times negated inverse ratio gcd_of gcd_steps
one_too_many = refl

-- ---- numbers that don't fit

uniform : List Valuation
uniform = record { ends = 1 ∷ []; heights = 1 ∷ [] } ∷ record { ends = 1 ∷ []; heights = 1 ∷ [] } ∷ []

-- twice the greatest number that fits
too_great : Core
too_great = record {
  name = codes "o";
  agents = 2;
  tree = Set 0 (record { terms = record { minus = false; factor = Some (whole (pos 0x7fff_ffff_ffff_ffff_ffff_ffff_ffff_ffff)); source = Const (whole (pos 2)) } ∷ [] }) End;
}

first_number : seen (outcome uniform too_great Least) ≡ No 0 0
unfolding too_great uniform place_in reached_in sum_in product_in plus times negated inverse ratio gcd_of gcd_steps
first_number = refl

-- more than the whole is asked for
asks_too_much : Core
asks_too_much = record { name = codes "p"; agents = 2; tree = Cut 1 0 (single (Const (whole (pos 2)))) 1 2 End }

stuck : seen (outcome uniform asks_too_much Least) ≡ AtCut 0 side.High
unfolding asks_too_much uniform place_in reached_in sum_in product_in plus times negated inverse ratio gcd_of gcd_steps
stuck = refl
