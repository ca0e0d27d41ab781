-- A counterexample from a known solution, computed.
use Rattle.std.proofs.Common.{◌≡◌, ◌<◌, ◌≤◌, ◌≤ℤ◌, ◌^◌, ℕ, zero, suc, List, [], ◌∷◌, map, ℤ, pos, negsuc, refl, false, arith}
use Rattle.std.specs.Prelude.{None, codes}
use Rattle.std.proofs.lemmas.Int.{ints}
use Rattle.slice_num.specs.Gcd.{gcd_of, gcd_steps}
use Rattle.slice_num.specs.Rational.{Rational, ratio, plus, times, negated, whole}
use Rattle.slice_num.specs.declared.choice.Choice.{Choice}
use Rattle.slice_num.specs.declared.choice.Choice.TheVariants.{Go}
use Rattle.slice_core.specs.Tree.{Core, Cut, Join, Give, End}
use Rattle.slice_core.specs.declared.node.Lin.{Lin}
use Rattle.slice_core.specs.declared.node.Source.TheVariants.{Const}
use Rattle.slice_num.specs.declared.choice.Choice.TheVariants as choice
use Rattle.slice_paths.specs.Ways.{way_of}
use Rattle.slice_counter.specs.Counter.{valuations_of, answers_of}
use Rattle.slice_counter.specs.Heights.{IsFirstHigh}
use Rattle.slice_linear.specs.Rows.{LinearRow, dot}
use Rattle.slice_linear.specs.Sums.{at}
use Rattle.slice_linear.specs.declared.row.RowKind.TheVariants.{Zero, Above}

abbrev known : Rational → Lin
known c = record { terms = record { minus = false; factor = None; source = Const c } ∷ [] }

-- the halves are joined and cut again, here in the second part
joined_and_cut : Core
joined_and_cut = record {
  name = codes "p";
  agents = 2;
  tree = Cut 1 0 (known (ratio (pos 1) 2)) 1 2 (Join 1 2 3 (Cut 1 3 (known (ratio (pos 1) 2)) 4 5 (Give 4 1 (Give 5 2 End))));
}

abbrev trace : List Choice
trace = Go ∷ choice.No ∷ Go ∷ []

-- agent 2 likes the first two atoms alone
abbrev solution : List ℤ
solution = pos 2 ∷ pos 1 ∷ pos 0 ∷ pos 1 ∷ pos 1 ∷ pos 1 ∷ pos 0 ∷ []

steps : valuations_of 2 (way_of joined_and_cut trace).cake solution ≡ record { ends = 1 ∷ 2 ∷ 3 ∷ []; heights = 1 ∷ 0 ∷ 1 ∷ [] } ∷ record { ends = 1 ∷ 2 ∷ 3 ∷ []; heights = 1 ∷ 1 ∷ 0 ∷ [] } ∷ []
unfolding joined_and_cut plus times negated ratio gcd_of gcd_steps
steps = refl

answers : answers_of (way_of joined_and_cut trace) ≡ record { part = 0; point = whole (pos 1) } ∷ record { part = 1; point = whole (pos 2) } ∷ []
unfolding joined_and_cut plus times negated ratio gcd_of gcd_steps
answers = refl

-- ---- heights that are too great

-- agent 1 cuts slivers of 1/999999999999999999 and 1/999999999999999998 off the cake; then the whole is asked for of the rest
abbrev rows : List LinearRow
rows =
    record { kind = Above; coefs = pos 1 ∷ pos 0 ∷ pos 0 ∷ pos 0 ∷ [] }
    ∷ record { kind = Zero; coefs = negsuc 0 ∷ pos 1 ∷ pos 1 ∷ pos 1 ∷ [] }
    ∷ record { kind = Zero; coefs = negsuc 0 ∷ pos 999999999999999999 ∷ pos 0 ∷ pos 0 ∷ [] }
    ∷ record { kind = Zero; coefs = negsuc 0 ∷ pos 0 ∷ pos 999999999999999998 ∷ pos 0 ∷ [] }
    ∷ record { kind = Above; coefs = pos 1 ∷ pos 0 ∷ pos 0 ∷ negsuc 0 ∷ [] }
    ∷ []

abbrev slivers : List ℤ
slivers = pos 999999999999999997000000000000000002 ∷ pos 999999999999999998 ∷ pos 999999999999999999 ∷ pos 999999999999999995000000000000000005 ∷ []

sums : map (λ (r : LinearRow). dot r.coefs slivers) rows ≡ pos 999999999999999997000000000000000002 ∷ pos 0 ∷ pos 0 ∷ pos 0 ∷ pos 1999999999999999997 ∷ []
sums = refl

-- the third atom is worth too much
first_high : IsFirstHigh 1 3 slivers 1 2
first_high = record { is_agent = (omega arith, omega arith); is_atom = omega arith; high = omega (arith, ints); first = low }
  where
    low : (i : ℕ) → 1 ≤ i → i < 3 → (at slivers i) ≤ℤ pos (10 ^ 18)
    low zero h l = absurd (omega (arith, h))
    low (suc zero) h l = omega (arith, ints)
    low (suc (suc zero)) h l = omega (arith, ints)
    low (suc (suc (suc i))) h l = absurd (omega (arith, l))
