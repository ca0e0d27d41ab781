-- Certificates of version 2: the first choices of a trace, the rows behind them, the goals that share them and what comes up
-- after these, computed on a test whose first arm no run takes, and on a piece of two parts that is cut.
use Rattle.std.proofs.Common.{◌≡◌, ◌<◌, ℕ, zero, suc, List, [], ◌∷◌, ℤ, pos, negsuc, false, refl, drop, take, arith}
use Rattle.std.proofs.lemmas.Int.{ints}
use Rattle.std.specs.Prelude.{None, Some, codes}
use Rattle.std.specs.List.{All}
use Rattle.slice_num.specs.Gcd.{gcd_of, gcd_steps}
use Rattle.slice_num.specs.Rational.{Rational, ratio, whole, plus, times, negated}
use Rattle.slice_num.specs.declared.choice.Choice.{Choice}
use Rattle.slice_num.specs.declared.choice.Choice.TheVariants.{Low, Go, No, Yes}
use Rattle.slice_core.specs.Tree.{Core, Cut, Join, Test, Give, End}
use Rattle.slice_core.specs.declared.node.Lin.{Lin}
use Rattle.slice_core.specs.declared.node.Source.TheVariants.{Const}
use Rattle.slice_linear.specs.Rows.{LinearRow, weighted, Refutes, KindTakes, kind_at}
use Rattle.slice_linear.specs.Sums.{at}
use Rattle.slice_linear.specs.declared.row.RowKind.{RowKind}
use Rattle.slice_linear.specs.declared.row.RowKind.TheVariants.{Zero, AtLeast, Above}
use Rattle.slice_paths.specs.Events.{events_of}
use Rattle.slice_paths.specs.Fronts.{Shares, ShareFirst, cover_rows, events_after, front_of}
use Rattle.slice_paths.specs.Goals.{Goal, goals}
use Rattle.slice_paths.specs.declared.goal.GoalKind.TheVariants as goal_kind
use Rattle.slice_cert.specs.ShortForms.{needed, short_line, used}
use Rattle.slice_cert.specs.declared.line.Line.{Line}
use Rattle.slice_cert.specs.declared.line.Line.TheVariants.{Refutation, Cover}
use Rattle.slice_check.specs.Certificate.{TakeInOrder}

abbrev known : Rational → Lin
known c = record { terms = record { minus = false; factor = None; source = Const c } ∷ [] }

abbrev row : RowKind → List ℤ → LinearRow
row kind coefs = record { kind = kind; coefs = coefs }

abbrev minus_one : ℤ
minus_one = negsuc 0

-- agent 1 is given the cake where 0 is at least 1, and nobody anything elsewhere
dead_arm : Core
dead_arm = record { name = codes "z"; agents = 2; tree = Test (known (whole (pos 0))) (known (whole (pos 1))) false (Give 0 1 End) End }

-- the halves are joined and cut again: the second cut may be answered in either part
joined_and_cut : Core
joined_and_cut = record {
  name = codes "p";
  agents = 2;
  tree = Cut 1 0 (known (ratio (pos 1) 2)) 1 2 (Join 1 2 3 (Cut 1 3 (known (ratio (pos 1) 2)) 4 5 (Give 4 1 (Give 5 2 End))));
}

-- ---- the first choices of a trace

no_choice : front_of 0 dead_arm.tree (Yes ∷ []) ≡ Some []
unfolding dead_arm
no_choice = refl

the_test : front_of 1 dead_arm.tree (Yes ∷ []) ≡ Some (Yes ∷ [])
unfolding dead_arm
the_test = refl

no_second_choice : front_of 2 dead_arm.tree (Yes ∷ []) ≡ None
unfolding dead_arm
no_second_choice = refl

-- an answer in the second part is one choice that is passed, and a cut that is stuck none
the_first_cut : front_of 1 joined_and_cut.tree (Go ∷ No ∷ Go ∷ []) ≡ Some (Go ∷ [])
unfolding joined_and_cut
the_first_cut = refl

both_cuts : front_of 2 joined_and_cut.tree (Go ∷ No ∷ Go ∷ []) ≡ Some (Go ∷ No ∷ Go ∷ [])
unfolding joined_and_cut
both_cuts = refl

stuck_at_the_second : front_of 2 joined_and_cut.tree (Go ∷ Low ∷ []) ≡ None
unfolding joined_and_cut
stuck_at_the_second = refl

-- ---- the rows behind them

-- of the whole and of both agents, over N, 1, 2
abbrev first_rows : List LinearRow → List LinearRow
first_rows rest =
    row Above (pos 1 ∷ pos 0 ∷ pos 0 ∷ [])
    ∷ row Zero (minus_one ∷ pos 1 ∷ pos 0 ∷ [])
    ∷ row Zero (minus_one ∷ pos 0 ∷ pos 1 ∷ [])
    ∷ rest

abbrev rows_at_yes : List LinearRow
rows_at_yes = first_rows (row AtLeast (minus_one ∷ pos 0 ∷ pos 0 ∷ []) ∷ [])

rows_of_no_choice : cover_rows dead_arm 0 (Yes ∷ []) ≡ Some (first_rows [])
unfolding dead_arm plus times negated ratio gcd_of gcd_steps
rows_of_no_choice = refl

rows_of_the_test : cover_rows dead_arm 1 (Yes ∷ []) ≡ Some rows_at_yes
unfolding dead_arm plus times negated ratio gcd_of gcd_steps
rows_of_the_test = refl

no_rows : cover_rows dead_arm 2 (Yes ∷ []) ≡ None
unfolding dead_arm plus times negated ratio gcd_of gcd_steps
no_rows = refl

-- over N, 1L, 1R, 2L, 2R: the second cut isn't among them
rows_of_the_first_cut :
    cover_rows joined_and_cut 1 (Go ∷ No ∷ Go ∷ [])
    ≡ Some (row Above (pos 1 ∷ pos 0 ∷ pos 0 ∷ pos 0 ∷ pos 0 ∷ [])
    ∷ row Zero (minus_one ∷ pos 1 ∷ pos 1 ∷ pos 0 ∷ pos 0 ∷ [])
    ∷ row Zero (minus_one ∷ pos 0 ∷ pos 0 ∷ pos 1 ∷ pos 1 ∷ [])
    ∷ row Zero (minus_one ∷ pos 2 ∷ pos 0 ∷ pos 0 ∷ pos 0 ∷ [])
    ∷ [])
unfolding joined_and_cut plus times negated ratio gcd_of gcd_steps
rows_of_the_first_cut = refl

-- ---- the goals that share them

abbrev goal : ℕ → Choice → (a b : ℕ) → List LinearRow → Goal
goal number c a b rows = record { number = number; trace = c ∷ []; kind = goal_kind.Envy a b; query = 0; rows = rows }

abbrev rows_at_no : List LinearRow
rows_at_no = first_rows (row Above (pos 1 ∷ pos 0 ∷ pos 0 ∷ []) ∷ row Above (pos 0 ∷ pos 0 ∷ pos 0 ∷ []) ∷ [])

abbrev known_goals : List Goal
known_goals =
    goal 0 Yes 1 2 (first_rows (row AtLeast (minus_one ∷ pos 0 ∷ pos 0 ∷ []) ∷ row Above (pos 0 ∷ minus_one ∷ pos 0 ∷ []) ∷ []))
    ∷ goal 1 Yes 2 1 (first_rows (row AtLeast (minus_one ∷ pos 0 ∷ pos 0 ∷ []) ∷ row Above (pos 0 ∷ pos 0 ∷ pos 1 ∷ []) ∷ []))
    ∷ goal 2 No 1 2 rows_at_no
    ∷ goal 3 No 2 1 rows_at_no
    ∷ []

goals_of_dead_arm : goals dead_arm ≡ known_goals
unfolding dead_arm plus times negated ratio gcd_of gcd_steps
goals_of_dead_arm = refl

two_share_the_test : ShareFirst dead_arm 1 (Yes ∷ []) known_goals 2
unfolding dead_arm
two_share_the_test = (omega arith, yes, no)
  where
    yes : All (Shares dead_arm 1 (Yes ∷ [])) (take 2 known_goals)
    yes zero d l = refl
    yes (suc zero) d l = refl
    yes (suc (suc k)) d l = absurd (omega (arith, l))

    no : All (λ (g : Goal). Shares dead_arm 1 (Yes ∷ []) g → ⊥) (drop 2 known_goals)
    no zero d l e = cc
    no (suc zero) d l e = cc
    no (suc (suc k)) d l e = absurd (omega (arith, l))

-- after them those at no come up
what_comes_up_after : events_after dead_arm 1 (Yes ∷ []) ≡ drop 2 (events_of dead_arm)
unfolding dead_arm plus times negated ratio gcd_of gcd_steps
what_comes_up_after = refl

nothing_after_the_last : events_after dead_arm 1 (No ∷ []) ≡ []
unfolding dead_arm plus times negated ratio gcd_of gcd_steps
nothing_after_the_last = refl

-- ---- the lines that take them

-- the whole is above 0, and its opposite at least 0
abbrev multipliers_at_yes : List ℤ
multipliers_at_yes = pos 1 ∷ pos 0 ∷ pos 0 ∷ pos 1 ∷ []

-- nothing would be above 0
abbrev multipliers_at_no : List ℤ
multipliers_at_no = pos 0 ∷ pos 0 ∷ pos 0 ∷ pos 0 ∷ pos 1 ∷ []

test_refuted : Refutes rows_at_yes multipliers_at_yes
test_refuted = record {
  same_length = refl;
  signs = signs;
  at_most_zero = λ j. let e = nothing_is_left j in omega (arith, ints, e);
  strict = (0, omega arith, record {}, omega (arith, ints));
}
  where
    signs : (i : ℕ) → i < 4 → KindTakes (kind_at rows_at_yes i) (at multipliers_at_yes i)
    signs zero l = omega (arith, ints)
    signs (suc zero) l = record {}
    signs (suc (suc zero)) l = record {}
    signs (suc (suc (suc zero))) l = omega (arith, ints)
    signs (suc (suc (suc (suc i)))) l = absurd (omega (arith, l))

    nothing_is_left : (j : ℕ) → weighted rows_at_yes multipliers_at_yes j ≡ pos 0
    nothing_is_left zero = refl
    nothing_is_left (suc zero) = refl
    nothing_is_left (suc (suc zero)) = refl
    nothing_is_left (suc (suc (suc j))) = refl

envy_of_nothing_refuted : Refutes rows_at_no multipliers_at_no
envy_of_nothing_refuted = record {
  same_length = refl;
  signs = signs;
  at_most_zero = λ j. let e = nothing_is_left j in omega (arith, ints, e);
  strict = (4, omega arith, record {}, omega (arith, ints));
}
  where
    signs : (i : ℕ) → i < 5 → KindTakes (kind_at rows_at_no i) (at multipliers_at_no i)
    signs zero l = omega (arith, ints)
    signs (suc zero) l = record {}
    signs (suc (suc zero)) l = record {}
    signs (suc (suc (suc zero))) l = omega (arith, ints)
    signs (suc (suc (suc (suc zero)))) l = omega (arith, ints)
    signs (suc (suc (suc (suc (suc i))))) l = absurd (omega (arith, l))

    nothing_is_left : (j : ℕ) → weighted rows_at_no multipliers_at_no j ≡ pos 0
    nothing_is_left zero = refl
    nothing_is_left (suc zero) = refl
    nothing_is_left (suc (suc zero)) = refl
    nothing_is_left (suc (suc (suc j))) = refl

abbrev lines : List Line
lines = Cover 0 1 multipliers_at_yes ∷ Refutation 2 multipliers_at_no ∷ Refutation 3 multipliers_at_no ∷ []

three_lines_take_four_goals : TakeInOrder dead_arm 2 0 known_goals lines
three_lines_take_four_goals = (
  2,
  omega arith,
  (refl, refl, (rows_at_yes, rows_of_the_test, test_refuted, two_share_the_test)),
  (
    1,
    omega arith,
    (refl, refl, envy_of_nothing_refuted),
    (1, omega arith, (refl, refl, envy_of_nothing_refuted), refl),
  ),
)

-- ---- short forms: five multipliers are for the whole, two agents, the test and the goal's own row

two_zeros_last : used (pos 1 ∷ pos 0 ∷ minus_one ∷ pos 0 ∷ pos 0 ∷ []) ≡ 3
two_zeros_last = refl

no_choice_needed : needed 2 (pos 1 ∷ pos 0 ∷ minus_one ∷ pos 0 ∷ pos 0 ∷ []) ≡ 0
no_choice_needed = refl

a_cover_line : short_line 2 0 (pos 1 ∷ pos 0 ∷ pos 0 ∷ pos 1 ∷ pos 0 ∷ []) ≡ Cover 0 1 multipliers_at_yes
a_cover_line = refl

its_own_row_is_used : short_line 2 2 multipliers_at_no ≡ Refutation 2 multipliers_at_no
its_own_row_is_used = refl
