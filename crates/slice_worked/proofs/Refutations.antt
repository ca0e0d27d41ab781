-- Definitions computed on the rows of cut and choose.
use Rattle.std.proofs.Common.{◌≡◌, ◌<◌, ℕ, zero, suc, List, [], ◌∷◌, ℤ, pos, negsuc, refl, arith}
use Rattle.std.proofs.lemmas.Int.{ints}
use Rattle.slice_num.specs.Gcd.{gcd_of, gcd_steps}
use Rattle.slice_num.specs.Rational.{ratio, whole}
use Rattle.slice_linear.specs.Rows.{LinearRow, dot, weighted, Refutes, KindTakes, kind_at}
use Rattle.slice_linear.specs.Sums.{at}
use Rattle.slice_linear.specs.LowestRow.{lowest}
use Rattle.slice_linear.specs.declared.row.RowKind.{RowKind}
use Rattle.slice_linear.specs.declared.row.RowKind.TheVariants.{Zero, AtLeast, Above}

abbrev row : RowKind → List ℤ → LinearRow
row kind coefs = record { kind = kind; coefs = coefs }

abbrev minus_one : ℤ
minus_one = negsuc 0

-- ---- rows in lowest whole numbers

halved : lowest (ratio minus_one 2 ∷ whole (pos 1) ∷ whole (pos 0) ∷ []) ≡ minus_one ∷ pos 2 ∷ pos 0 ∷ []
unfolding ratio gcd_of gcd_steps
halved = refl

divided_by_four : lowest (whole (pos 4) ∷ whole (negsuc 7) ∷ []) ≡ pos 1 ∷ negsuc 1 ∷ []
unfolding ratio gcd_of gcd_steps
divided_by_four = refl

zeros_stay : lowest (whole (pos 0) ∷ whole (pos 0) ∷ []) ≡ pos 0 ∷ pos 0 ∷ []
unfolding ratio gcd_of gcd_steps
zeros_stay = refl

-- ---- a goal of cut and choose: agent 2 prefers the left part, and agent 1 envies it. Over the whole, then what each part is
-- worth to agent 1 and to agent 2

rows : List LinearRow
rows =
    row Above (pos 1 ∷ pos 0 ∷ pos 0 ∷ pos 0 ∷ pos 0 ∷ [])
    ∷ row Zero (minus_one ∷ pos 1 ∷ pos 1 ∷ pos 0 ∷ pos 0 ∷ [])
    ∷ row Zero (minus_one ∷ pos 0 ∷ pos 0 ∷ pos 1 ∷ pos 1 ∷ [])
    ∷ row Zero (minus_one ∷ pos 2 ∷ pos 0 ∷ pos 0 ∷ pos 0 ∷ [])
    ∷ row AtLeast (pos 0 ∷ pos 0 ∷ pos 0 ∷ pos 1 ∷ minus_one ∷ [])
    ∷ row Above (pos 0 ∷ pos 1 ∷ minus_one ∷ pos 0 ∷ pos 0 ∷ [])
    ∷ []

-- the second row, less the fourth, and the last: nothing is left of any unknown
multipliers : List ℤ
multipliers = pos 0 ∷ pos 1 ∷ pos 0 ∷ minus_one ∷ pos 0 ∷ pos 1 ∷ []

nothing_is_left : (j : ℕ) → weighted rows multipliers j ≡ pos 0
unfolding rows multipliers
nothing_is_left zero = refl
nothing_is_left (suc zero) = refl
nothing_is_left (suc (suc zero)) = refl
nothing_is_left (suc (suc (suc zero))) = refl
nothing_is_left (suc (suc (suc (suc zero)))) = refl
nothing_is_left (suc (suc (suc (suc (suc j))))) = refl

signs : (i : ℕ) → i < 6 → KindTakes (kind_at rows i) (at multipliers i)
unfolding rows multipliers
signs zero l = omega (arith, ints)
signs (suc zero) l = record {}
signs (suc (suc zero)) l = record {}
signs (suc (suc (suc zero))) l = record {}
signs (suc (suc (suc (suc zero)))) l = omega (arith, ints)
signs (suc (suc (suc (suc (suc zero))))) l = omega (arith, ints)
signs (suc (suc (suc (suc (suc (suc i)))))) l = absurd (omega (arith, l))

refuted : Refutes rows multipliers
unfolding rows multipliers
refuted = record {
  same_length = refl;
  signs = signs;
  at_most_zero = λ j. let e = nothing_is_left j in omega (arith, ints, e);
  strict = (5, omega arith, record {}, omega (arith, ints));
}

-- where the whole is worth 2, and each part 1 to each agent, all rows hold but the last
sums : List ℤ
sums = pos 2 ∷ pos 1 ∷ pos 1 ∷ pos 1 ∷ pos 1 ∷ []

holds_but_the_last : dot (pos 0 ∷ pos 1 ∷ minus_one ∷ pos 0 ∷ pos 0 ∷ []) sums ≡ pos 0
unfolding sums
holds_but_the_last = refl

cut_at_the_half : dot (minus_one ∷ pos 2 ∷ pos 0 ∷ pos 0 ∷ pos 0 ∷ []) sums ≡ pos 0
unfolding sums
cut_at_the_half = refl

-- unknowns past the numbers count as 0
a_short_list : dot (pos 1 ∷ pos 5 ∷ []) (pos 2 ∷ []) ≡ pos 2
a_short_list = refl
