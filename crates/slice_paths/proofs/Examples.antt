-- Goals of known cores, computed.
use Rattle.std.proofs.Common.{◌≡◌, ℕ, zero, suc, List, [], ◌∷◌, ℤ, pos, negsuc, refl, false}
use Rattle.std.specs.Prelude.{None, codes, map}
use Rattle.slice_num.specs.Gcd.{gcd_of, gcd_steps}
use Rattle.slice_num.specs.Rational.{Rational, ratio, plus, times, negated}
use Rattle.slice_num.specs.declared.choice.Choice.{Choice}
use Rattle.slice_num.specs.declared.choice.Choice.TheVariants.{Go, No, Yes, Low, High}
use Rattle.slice_core.specs.Tree.{Core, Ask, Cut, Join, Test, Give, End}
use Rattle.slice_core.specs.declared.node.Lin.{Lin}
use Rattle.slice_core.specs.declared.node.Source.TheVariants.{Const, Reg}
use Rattle.slice_linear.specs.declared.row.RowKind.TheVariants.{Zero, AtLeast, Above}
use Rattle.slice_linear.specs.declared.row.RowKind.{RowKind}
use Rattle.slice_linear.specs.Rows.{LinearRow}
use Rattle.slice_paths.specs.Counting.{goals_on, goals_under}
use Rattle.slice_paths.specs.Goals.{Goal, goals}
use Rattle.slice_paths.specs.declared.goal.GoalKind.TheVariants as goal_kind

abbrev known : Rational → Lin
known c = record { terms = record { minus = false; factor = None; source = Const c } ∷ [] }

abbrev register : ℕ → Lin
register n = record { terms = record { minus = false; factor = None; source = Reg n } ∷ [] }

abbrev row : RowKind → List ℤ → LinearRow
row kind coefs = record { kind = kind; coefs = coefs }

-- one cuts in half, the other chooses
cut_and_choose : Core
cut_and_choose = record {
  name = codes "cc";
  agents = 2;
  tree = Cut 1 0 (known (ratio (pos 1) 2)) 1 2 (Ask 2 1 0 (Ask 2 2 1 (Test (register 0) (register 1) false (Give 1 2 (Give 2 1 End)) (Give 2 2 (Give 1 1 End)))));
}

abbrev minus_one : ℤ
minus_one = negsuc 0

-- the common rows, over N, 1l, 1r, 2l, 2r
abbrev to_test : List LinearRow → List LinearRow
to_test rest =
    row Above (pos 1 ∷ pos 0 ∷ pos 0 ∷ pos 0 ∷ pos 0 ∷ [])
    ∷ row Zero (minus_one ∷ pos 1 ∷ pos 1 ∷ pos 0 ∷ pos 0 ∷ [])
    ∷ row Zero (minus_one ∷ pos 0 ∷ pos 0 ∷ pos 1 ∷ pos 1 ∷ [])
    ∷ row Zero (minus_one ∷ pos 2 ∷ pos 0 ∷ pos 0 ∷ pos 0 ∷ [])
    ∷ rest

abbrev one_more : ℤ → ℤ → ℤ → ℤ → List ℤ
one_more a b c d = pos 0 ∷ a ∷ b ∷ c ∷ d ∷ []

goals_of_cut_and_choose :
    goals cut_and_choose
    ≡ record {
      number = 0;
      trace = Low ∷ [];
      kind = goal_kind.Low;
      query = 0;
      rows =
          row Above (pos 1 ∷ pos 0 ∷ pos 0 ∷ []) ∷ row Zero (minus_one ∷ pos 1 ∷ pos 0 ∷ []) ∷ row Zero (minus_one ∷ pos 0 ∷ pos 1 ∷ []) ∷ row Above (minus_one ∷ pos 0 ∷ pos 0 ∷ []) ∷ [];
    }
    ∷ record {
      number = 1;
      trace = High ∷ [];
      kind = goal_kind.High;
      query = 0;
      rows =
          row Above (pos 1 ∷ pos 0 ∷ pos 0 ∷ []) ∷ row Zero (minus_one ∷ pos 1 ∷ pos 0 ∷ []) ∷ row Zero (minus_one ∷ pos 0 ∷ pos 1 ∷ []) ∷ row Above (pos 1 ∷ negsuc 1 ∷ pos 0 ∷ []) ∷ [];
    }
    ∷ record { number = 2; trace = Go ∷ Yes ∷ []; kind = goal_kind.Envy 1 2; query = 3; rows = to_test (row AtLeast (one_more (pos 0) (pos 0) (pos 1) minus_one) ∷ row Above (one_more (pos 1) minus_one (pos 0) (pos 0)) ∷ []) }
    ∷ record { number = 3; trace = Go ∷ Yes ∷ []; kind = goal_kind.Envy 2 1; query = 3; rows = to_test (row AtLeast (one_more (pos 0) (pos 0) (pos 1) minus_one) ∷ row Above (one_more (pos 0) (pos 0) minus_one (pos 1)) ∷ []) }
    ∷ record { number = 4; trace = Go ∷ No ∷ []; kind = goal_kind.Envy 1 2; query = 3; rows = to_test (row Above (one_more (pos 0) (pos 0) minus_one (pos 1)) ∷ row Above (one_more minus_one (pos 1) (pos 0) (pos 0)) ∷ []) }
    ∷ record { number = 5; trace = Go ∷ No ∷ []; kind = goal_kind.Envy 2 1; query = 3; rows = to_test (row Above (one_more (pos 0) (pos 0) minus_one (pos 1)) ∷ row Above (one_more (pos 0) (pos 0) (pos 1) minus_one) ∷ []) }
    ∷ []
unfolding cut_and_choose plus times negated ratio gcd_of gcd_steps
goals_of_cut_and_choose = refl

-- the halves are joined and cut again: the second cut may be answered in either part
joined_and_cut : Core
joined_and_cut = record {
  name = codes "p";
  agents = 2;
  tree = Cut 1 0 (known (ratio (pos 1) 2)) 1 2 (Join 1 2 3 (Cut 1 3 (known (ratio (pos 1) 2)) 4 5 (Give 4 1 (Give 5 2 End))));
}

abbrev traces : List Goal → List (List Choice)
traces gs = map (λ (g : Goal). g.trace) gs

traces_of_joined : traces (goals joined_and_cut) ≡ (Low ∷ []) ∷ (High ∷ []) ∷ (Go ∷ Low ∷ []) ∷ (Go ∷ High ∷ []) ∷ (Go ∷ Go ∷ []) ∷ (Go ∷ Go ∷ []) ∷ (Go ∷ No ∷ Go ∷ []) ∷ (Go ∷ No ∷ Go ∷ []) ∷ []
unfolding joined_and_cut plus times negated ratio gcd_of gcd_steps
traces_of_joined = refl

abbrev rows_at : List Goal → ℕ → List LinearRow
rows_at [] i = []
rows_at (g ∷ gs) zero = g.rows
rows_at (g ∷ gs) (suc i) = rows_at gs i

-- goal 6, over N, 1L, 1RL, 1RR, 2L, 2RL, 2RR
rows_of_joined :
    rows_at (goals joined_and_cut) 6
    ≡ row Above (pos 1 ∷ pos 0 ∷ pos 0 ∷ pos 0 ∷ pos 0 ∷ pos 0 ∷ pos 0 ∷ [])
    ∷ row Zero (minus_one ∷ pos 1 ∷ pos 1 ∷ pos 1 ∷ pos 0 ∷ pos 0 ∷ pos 0 ∷ [])
    ∷ row Zero (minus_one ∷ pos 0 ∷ pos 0 ∷ pos 0 ∷ pos 1 ∷ pos 1 ∷ pos 1 ∷ [])
    ∷ row Zero (minus_one ∷ pos 2 ∷ pos 0 ∷ pos 0 ∷ pos 0 ∷ pos 0 ∷ pos 0 ∷ [])
    ∷ row Zero (minus_one ∷ pos 2 ∷ pos 2 ∷ pos 0 ∷ pos 0 ∷ pos 0 ∷ pos 0 ∷ [])
    ∷ row Above (pos 0 ∷ minus_one ∷ minus_one ∷ pos 1 ∷ pos 0 ∷ pos 0 ∷ pos 0 ∷ [])
    ∷ []
unfolding joined_and_cut plus times negated ratio gcd_of gcd_steps
rows_of_joined = refl

-- ---- how many goals there are
count_of_cut_and_choose : goals_on 2 cut_and_choose.tree (1 ∷ []) ≡ 6
unfolding cut_and_choose
count_of_cut_and_choose = refl

count_of_joined : goals_on 2 joined_and_cut.tree (1 ∷ []) ≡ 8
unfolding joined_and_cut
count_of_joined = refl

-- behind Low, where no choice is passed: all others
behind_low : goals_under cut_and_choose 0 (Low ∷ []) goal_kind.Low ≡ 5
unfolding cut_and_choose
behind_low = refl

-- behind the first pair, of those that share no choice, the cut, and the cut and the test
behind_pair : goals_under cut_and_choose 0 (Go ∷ Yes ∷ []) (goal_kind.Envy 1 2) ≡ 3
unfolding cut_and_choose
behind_pair = refl

behind_pair_cut : goals_under cut_and_choose 1 (Go ∷ Yes ∷ []) (goal_kind.Envy 1 2) ≡ 3
unfolding cut_and_choose
behind_pair_cut = refl

behind_pair_test : goals_under cut_and_choose 2 (Go ∷ Yes ∷ []) (goal_kind.Envy 1 2) ≡ 1
unfolding cut_and_choose
behind_pair_test = refl

-- behind Low of the second cut, of those that share the first: High, and two pairs in each of two parts
behind_second : goals_under joined_and_cut 1 (Go ∷ Low ∷ []) goal_kind.Low ≡ 5
unfolding joined_and_cut
behind_second = refl

-- behind the first pair in the first part, of those that share both cuts
behind_part : goals_under joined_and_cut 2 (Go ∷ Go ∷ []) (goal_kind.Envy 1 2) ≡ 1
unfolding joined_and_cut
behind_part = refl
