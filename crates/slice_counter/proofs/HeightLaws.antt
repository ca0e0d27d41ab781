-- Numbers as heights.
use Rattle.std.proofs.Common.{◌≡◌, ◌∙◌, ℕ, suc, ◌+◌, ◌-◌, ◌*◌, ◌<◌, ◌≤◌, ◌≤ℤ◌, ◌<ℤ◌, ◌^◌, arith, refl, sym, ap, subst, List, [], ◌∷◌, ◌++◌, map, take, drop, length, ℤ, pos, append_assoc, inl, inr}
use Rattle.std.specs.Prelude.{unsigned_abs}
use Rattle.std.specs.List.{All}
use Rattle.std.proofs.lemmas.List.{drop-drop}
use Rattle.std.proofs.lemmas.Bool.{cases_lt}
use Rattle.std.proofs.Math.Seq.{take-length}
use Rattle.std.proofs.Math.Nat.{mul-le-mul_left}
use Rattle.slice_num.specs.Rational.{whole}
use Rattle.slice_num.specs.Valuation.{Valuation, IsSmall, IsValuationList}
use Rattle.slice_linear.specs.Sums.{at}
use Rattle.slice_linear.specs.Rows.{LinearRow, IsSolution}
use Rattle.slice_linear.proofs.SolutionLaws.{solution_not_below}
use Rattle.slice_atoms.specs.Addresses.{Cake}
use Rattle.slice_paths.specs.Places.{PassedCut}
use Rattle.slice_step.specs.ValuationShape.{IsSmallList}
use Rattle.slice_counter.specs.Counter.{IsLow, lists_of, boundary}
use Rattle.slice_counter.specs.Heights.{HighIs, FaultAt, answer_at}
use Rattle.slice_counter.specs.declared.counter.CounterFault.{CounterFault}
use Rattle.slice_counter.specs.declared.counter.CounterFault.TheVariants.{HeightLimit, Memory}

pub heights_step : (xss all : List (List ℕ)) (agents agent size : ℕ) (zs : List ℤ) (hs : List ℕ) → agent < agents → hs ≡ map unsigned_abs (take size (drop (agent * size) zs))
    → xss ++ lists_of (agents - agent) size (drop (agent * size) zs) ≡ all → (xss ++ hs ∷ []) ++ lists_of (agents - (agent + 1)) size (drop ((agent + 1) * size) zs) ≡ all
heights_step xss all agents agent size zs hs l is e =
    let rest = drop (agent * size) zs in
    let less : agents - agent ≡ suc (agents - (agent + 1)) = omega arith in
    let far : drop ((agent + 1) * size) zs ≡ drop size rest = ap (λ (j : ℕ). drop j zs) (omega arith) ∙ sym (drop-drop size (agent * size) zs) in
    append_assoc xss (hs ∷ []) (lists_of (agents - (agent + 1)) size (drop ((agent + 1) * size) zs))
    ∙ (ap (λ (us : List ℤ). xss ++ hs ∷ lists_of (agents - (agent + 1)) size us) far
    ∙ (ap (λ (ns : List ℕ). xss ++ ns ∷ lists_of (agents - (agent + 1)) size (drop size rest)) is
    ∙ (ap (λ (n : ℕ). xss ++ lists_of n size rest) (sym less) ∙ e)))

pub all_numbers : (xs : List ℤ) → take (length xs - 1) (drop 1 xs) ≡ drop 1 xs
all_numbers [] = refl
all_numbers (x ∷ xs) = ap (λ (n : ℕ). take n xs) (omega arith) ∙ take-length xs

after_first : (P : ℤ → Type 0) (xs : List ℤ) → All P xs → All P (drop 1 xs)
after_first P [] h = h
after_first P (x ∷ xs) h = λ i d l. h (suc i) d (omega (arith, l))

pub low_numbers : (rows : List LinearRow) (xs : List ℤ) → IsSolution rows xs → IsLow xs → All (λ z. (pos 0 ≤ℤ z) × (z ≤ℤ pos (10 ^ 18))) (take (length xs - 1) (drop 1 xs))
low_numbers rows xs s low =
    let above = after_first (λ (z : ℤ). pos 0 ≤ℤ z) xs (solution_not_below rows xs s) in
    subst (All (λ (z : ℤ). (pos 0 ≤ℤ z) × (z ≤ℤ pos (10 ^ 18)))) (sym (all_numbers xs)) (λ i d l. (above i d l, low i d l))

pub map_twice : {A B C : Type 0} (f : A → B) (g : B → C) (xs : List A) → map (λ x. g (f x)) xs ≡ map g (map f xs)
map_twice f g [] = refl
map_twice f g (x ∷ xs) = ap (λ ys. g (f x) ∷ ys) (map_twice f g xs)

pub marks_answered : (k : Cake) (ds : List PassedCut) → map answer_at (map (λ (d : PassedCut). record { part = d.part; left = boundary k d.address }) ds) ≡ map (λ (d : PassedCut). record { part = d.part; point = whole (pos (boundary k d.address)) }) ds
marks_answered k [] = refl
marks_answered k (d ∷ ds) = ap (λ ys. answer_at (record { part = d.part; left = boundary k d.address }) ∷ ys) (marks_answered k ds)

pub small_list : (n : ℕ) (vs : List Valuation) → 0 < n → IsValuationList n vs → All IsSmall vs → IsSmallList vs
small_list n vs some h small = (omega (arith, some, h.one_each), subst (λ (m : ℕ). IsValuationList m vs) (sym h.one_each) h, small)

-- ---- the first number that is too great
below_times : (q m n r : ℕ) → q * n + r < m * n → q < m
below_times q m n r h = elim (cases_lt q m) [
  | inl l ↦ l
  | inr l ↦ let e : n * m ≤ n * q = mul-le-mul_left n l in absurd (omega (arith, h, e))
]

pub few_unknowns : (a b : ℕ) → a ≤ 16 → b ≤ 65 → a * b ≤ 1040
few_unknowns a b h g = let e : a * b ≤ a * 65 = mul-le-mul_left a g in omega (arith, e, h)

pub fault_is : (agents atoms number : ℕ) (xs : List ℤ) (e : CounterFault) → FaultAt number atoms e → number < 1 + agents * atoms → pos (10 ^ 18) <ℤ (at xs number) → ((i : ℕ) → 1 ≤ i → i < number → (at xs i) ≤ℤ pos (10 ^ 18)) → HighIs agents atoms xs e
fault_is agents atoms number xs (HeightLimit agent atom) f l high first =
    let is = f.2 in
    let less = below_times (agent - 1) agents atoms atom (omega (arith, l, is)) in
    record {
      is_agent = (f.0, omega (arith, less));
      is_atom = f.1;
      high = subst (λ (n : ℕ). pos (10 ^ 18) <ℤ (at xs n)) is high;
      first = λ i some less_. first i some (omega (arith, less_, is));
    }
fault_is agents atoms number xs Memory f l high first = absurd f

pub lists_seen : (n m size count : ℕ) (xs : List ℤ) (us : List (List ℕ)) → us ≡ lists_of m count (take (length xs - 1) (drop 1 xs)) → m ≡ n → count ≡ size → us ≡ lists_of n size (drop 1 xs)
lists_seen n m size count xs us e f g =
    e ∙ (ap (λ (k : ℕ). lists_of k count (take (length xs - 1) (drop 1 xs))) f
    ∙ (ap (λ (k : ℕ). lists_of n k (take (length xs - 1) (drop 1 xs))) g ∙ ap (lists_of n size) (all_numbers xs)))
