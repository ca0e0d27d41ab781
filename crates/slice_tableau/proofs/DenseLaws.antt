-- A row as the list of all its numbers.
use Rattle.std.proofs.Common.{ℕ, suc, ◌<◌, ◌≡◌, ◌∙◌, inl, inr, ap, sym, refl, arith, List, [], ◌∷◌, length, get_or, set, replicate, cond, eqb, map, get_or-set_other, ℤ, pos, ◌*ℤ◌, ◌<ℤ◌, unsigned_abs}
use Rattle.std.specs.Prelude.{int_div}
use Rattle.std.specs.Int.{◌∣◌}
use Rattle.std.proofs.lemmas.Bool.{cases_lt, cases_eq, eq-eqb, ne_eqb}
use Rattle.std.proofs.lemmas.List.{get_or_past, ext_get_or, length-map, get_or-map, length-set, length-replicate, get_or-replicate}
use Rattle.std.proofs.lemmas.Grind.{get_or-set_at}
use Rattle.std.proofs.lemmas.List.FromFn.{get_or-map-range_with_len, length-map-range_with_len, fill_by_all}
use Rattle.slice_linear.specs.Sums.{at}
use Rattle.slice_linear.proofs.Ring.{mul_zero}
use Rattle.slice_tableau.specs.declared.sparse.Cell.{Cell}
use Rattle.slice_tableau.specs.Sparse.{number_at, dense, IsRising, over}
use Rattle.slice_tableau.proofs.ClearLaws.{exact}
use Rattle.slice_tableau.proofs.SparseLaws.{at_first, at_other, zero_past}
use Rattle.slice_tableau.proofs.SparseGcd.{DividesAll, first_of, rest_of}

pub dense_long : (w : ℕ) (cs : List Cell) → length (dense w cs) ≡ w
dense_long w cs = length-map-range_with_len (number_at cs) 0 w

pub dense_at : (w : ℕ) (cs : List Cell) (j : ℕ) → IsRising 0 w cs → at (dense w cs) j ≡ number_at cs j
dense_at w cs j r = elim (cases_lt j w) [
  | inl lt ↦ get_or-map-range_with_len (number_at cs) 0 w j j (pos 0) lt (omega arith)
  | inr ge ↦ get_or_past (dense w cs) j (pos 0) (omega (arith, dense_long w cs)) ∙ sym (zero_past 0 w cs j r ge)
]

pub dense_is : (w : ℕ) (cs : List Cell) (xs : List ℤ) → length xs ≡ w → ((j : ℕ) → j < w → at xs j ≡ number_at cs j) → dense w cs ≡ xs
dense_is w cs xs long h = sym (fill_by_all (number_at cs) xs w (pos 0) long h)

-- a row whose cells were divided one by one
pub divided_cells : (g : ℤ) (old new : List Cell) → length new ≡ length old → ((i : ℕ) (d : Cell) → i < length old → get_or new i d ≡ over g (get_or old i d)) → new ≡ map (over g) old
divided_cells g old new long h = ext_get_or record { col = 0; value = pos 0 } new (map (over g) old) (long ∙ sym (length-map old (over g)))
    (λ i lt. h i _ (omega arith) ∙ sym (get_or-map (over g) old i record { col = 0; value = pos 0 } record { col = 0; value = pos 0 } (omega arith)))

exact_at : (g v : ℤ) → pos 0 <ℤ g → (unsigned_abs g ∣ unsigned_abs v) → g *ℤ int_div v g ≡ v
exact_at g v p h = exact v g p h

pub divide_number : (g : ℤ) (end : ℕ) (cs : List Cell) (j : ℕ) → pos 0 <ℤ g → IsRising 0 end cs → DividesAll (unsigned_abs g) cs → g *ℤ number_at (map (over g) cs) j ≡ number_at cs j
divide_number g end [] j p r d = mul_zero g
divide_number g end (c ∷ cs) j p r d = elim (cases_eq j c.col) [
  | inl e ↦ ap (λ (x : ℤ). g *ℤ x) (at_first (over g c) (map (over g) cs) j (sym e)) ∙ exact c.value g p (first_of _ c cs d) ∙ sym (at_first c cs j (sym e))
  | inr ne ↦ ap (λ (x : ℤ). g *ℤ x) (at_other (over g c) (map (over g) cs) j ne)
      ∙ divide_number g end cs j p (lower end c cs r) (rest_of _ end c cs r d) ∙ sym (at_other c cs j ne)
]
  where
    lower : (end : ℕ) (c : Cell) (cs : List Cell) → IsRising 0 end (c ∷ cs) → IsRising 0 end cs
    lower end c [] r = tt
    lower end c (b ∷ cs) r = (omega arith, r.3.1, r.3.2, r.3.3)

pub divide_rising : (g : ℤ) (from end : ℕ) (cs : List Cell) → pos 0 <ℤ g → IsRising from end cs → DividesAll (unsigned_abs g) cs → IsRising from end (map (over g) cs)
divide_rising g from end [] p r d = tt
divide_rising g from end (c ∷ cs) p r d = (
  r.0,
  r.1,
  (λ z. r.2 (sym (exact c.value g p (first_of _ c cs d)) ∙ ap (λ (x : ℤ). g *ℤ x) z ∙ mul_zero g)),
  divide_rising g (suc c.col) end cs p r.3 (rest_of _ end c cs (omega arith, r.1, r.2, r.3) d),
)

-- the value that contracts see, column by column
pub seen : (w : ℕ) (cs : List Cell) (v : List ℤ) → IsRising 0 w cs → dense w cs ≡ v → (j : ℕ) → number_at cs j ≡ at v j
seen w cs v r e j = sym (dense_at w cs j r) ∙ ap (λ x. at x j) e

pub wide : (w : ℕ) (cs : List Cell) (v : List ℤ) → dense w cs ≡ v → w ≡ length v
wide w cs v e = sym (dense_long w cs) ∙ ap length e

-- a number that is written at one column
pub written : (w : ℕ) (cs ds : List Cell) (v : List ℤ) (col : ℕ) (value : ℤ) → IsRising 0 w cs → dense w cs ≡ v → col < w
    → ((j : ℕ) → number_at ds j ≡ cond (eqb j col) value (number_at cs j)) → dense w ds ≡ set v col value
written w cs ds v col value r e lt new = dense_is w ds (set v col value) (length-set v col value ∙ sym (wide w cs v e)) (λ j lj. elim (cases_eq j col) [
  | inl same ↦ get_or-set_at v col j value (pos 0) same (omega (arith, wide w cs v e)) ∙ sym (new j ∙ (rw (eq-eqb j col same) refl))
  | inr ne ↦ get_or-set_other v col j value (pos 0) ne ∙ sym (seen w cs v r e j) ∙ sym (new j ∙ (rw (ne_eqb j col ne) refl))
])

-- a row without cells
pub empty_is : (w : ℕ) → dense w [] ≡ replicate w (pos 0)
empty_is w = dense_is w [] (replicate w (pos 0)) (length-replicate w (pos 0)) (λ j lt. get_or-replicate w j (pos 0) (pos 0) lt)
