use Rattle.std.proofs.Common.{ℕ, zero, suc, ◌≡◌, arith, ap, sym, refl, ◌∙◌, ℤ, pos, ◌*ℤ◌, neg_ℤ, ◌≤ℤ◌, ◌<ℤ◌, List, length}
use Rattle.slice_linear.proofs.Ring.{linear, mul_nonneg, mul_pos, mul_zero, mul_neg, mul_comm_z, mul_left_comm}
use Rattle.slice_linear.proofs.SumLaws.{sum_ext, sum_scale, sum_swap, sum_pos, sum_nonneg}
use Rattle.slice_linear.specs.Sums.{at, sum_to}
use Rattle.slice_linear.specs.Rows.{RefutedRowsHaveNoSolution, Refutes, IsSolution, dot, weighted, KindHolds, KindTakes, IsAbove, kind_at, coefs_at}
use Rattle.slice_linear.specs.Rows.{LinearRow}
use Rattle.slice_linear.specs.declared.row.RowKind.{RowKind}
use Rattle.slice_linear.specs.declared.row.RowKind.TheVariants.{Zero, AtLeast, Above}

-- the multiple of a row that holds isn't below 0
term_nonneg : (k : RowKind) (m s : ℤ) → KindTakes k m → KindHolds k s → pos 0 ≤ℤ (m *ℤ s)
term_nonneg Zero m s t h = let e : m *ℤ s ≡ pos 0 = ap (λ (x : ℤ). m *ℤ x) h ∙ mul_zero m in omega (arith, linear)
term_nonneg AtLeast m s t h = mul_nonneg m s t h
term_nonneg Above m s t h = let w : pos 0 ≤ℤ s = omega (arith, linear) in mul_nonneg m s t w

term_pos : (k : RowKind) (m s : ℤ) → IsAbove k → pos 0 <ℤ m → KindHolds k s → pos 0 <ℤ (m *ℤ s)
term_pos Zero m s a p h = absurd a
term_pos AtLeast m s a p h = absurd a
term_pos Above m s a p h = mul_pos m s p h

-- the weighted sums at the xs are the multiples of the rows' sums
weighed : (n w : ℕ) (m x : ℕ → ℤ) (a : ℕ → ℕ → ℤ) → sum_to n (λ i. m i *ℤ sum_to w (λ j. a i j *ℤ x j)) ≡ sum_to w (λ j. x j *ℤ sum_to n (λ i. m i *ℤ a i j))
weighed n w m x a =
    sum_ext n _ _ (λ i l. sym (sum_scale w (m i) (λ j. a i j *ℤ x j)))
    ∙ sum_swap n w (λ i j. m i *ℤ (a i j *ℤ x j))
    ∙ sum_ext w _ _ (λ j l. sum_ext n _ _ (λ i l2. simp (mul_comm_z, mul_left_comm)) ∙ sum_scale n (x j) (λ i. m i *ℤ a i j))

sum_neg : (n : ℕ) (f g : ℕ → ℤ) → sum_to n (λ j. f j *ℤ neg_ℤ (g j)) ≡ neg_ℤ (sum_to n (λ j. f j *ℤ g j))
sum_neg zero f g = refl
sum_neg (suc n) f g = omega (arith, linear, sum_neg n f g, mul_neg (f n) (g n))

pub refuted_has_no_solution : (rows : List LinearRow) (m xs : List ℤ) → Refutes rows m → IsSolution rows xs → ⊥
refuted_has_no_solution rows m xs r s =
    let n = length rows in
    let w = length xs in
    let above : pos 0 <ℤ sum_to n (λ i. at m i *ℤ dot (coefs_at rows i) xs) =
    sum_pos n (λ i. at m i *ℤ dot (coefs_at rows i) xs) r.strict.0 r.strict.1
    (λ i l. term_nonneg (kind_at rows i) (at m i) (dot (coefs_at rows i) xs) (r.signs i l) (s.each_holds i l))
    (term_pos (kind_at rows r.strict.0) (at m r.strict.0) (dot (coefs_at rows r.strict.0) xs) r.strict.2 r.strict.3 (s.each_holds r.strict.0 r.strict.1)) in
    let below : pos 0 ≤ℤ sum_to w (λ j. at xs j *ℤ neg_ℤ (weighted rows m j)) =
    sum_nonneg w (λ j. at xs j *ℤ neg_ℤ (weighted rows m j)) (λ j l. mul_nonneg (at xs j) (neg_ℤ (weighted rows m j)) (s.none_below j) (let h = r.at_most_zero j in omega (arith, linear))) in
    let same = weighed n w (at m) (at xs) (λ i j. at (coefs_at rows i) j) in
    let minus : sum_to w (λ j. at xs j *ℤ neg_ℤ (weighted rows m j)) ≡ neg_ℤ (sum_to w (λ j. at xs j *ℤ weighted rows m j)) = sum_neg w (λ j. at xs j) (λ j. weighted rows m j) in
    omega (arith, linear)

pub refuted_rows_have_no_solution : RefutedRowsHaveNoSolution
refuted_rows_have_no_solution rows m r xs s = refuted_has_no_solution rows m xs r s
