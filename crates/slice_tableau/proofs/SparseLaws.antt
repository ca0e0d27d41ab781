-- Rows that are kept as their numbers that aren't 0.
use Rattle.std.proofs.Common.{ℕ, suc, ◌+◌, ◌<◌, ◌≤◌, ◌≡◌, ◌≢◌, ◌∙◌, inl, inr, ap, sym, refl, arith, List, [], ◌∷◌, ◌++◌, length, cond, eqb, ℤ, pos}
use Rattle.std.proofs.lemmas.Bool.{cases_lt, cases_eq, eq-eqb, ne_eqb}
use Rattle.slice_tableau.specs.declared.sparse.Cell.{Cell}
use Rattle.slice_tableau.specs.Sparse.{number_at, IsRising}

-- the number at the first cell's column, and at another one
pub at_first : (c : Cell) (cs : List Cell) (j : ℕ) → c.col ≡ j → number_at (c ∷ cs) j ≡ c.value
at_first c cs j e = rw (eq-eqb j c.col (sym e)) refl

pub at_other : (c : Cell) (cs : List Cell) (j : ℕ) → j ≢ c.col → number_at (c ∷ cs) j ≡ number_at cs j
at_other c cs j ne = rw (ne_eqb j c.col ne) refl

-- before the first column all is 0
pub zero_before : (from end : ℕ) (cs : List Cell) (j : ℕ) → IsRising from end cs → j < from → number_at cs j ≡ pos 0
zero_before from end [] j r lt = refl
zero_before from end (c ∷ cs) j r lt = let le = r.0 in at_other c cs j (λ e. omega arith) ∙ zero_before (suc c.col) end cs j r.3 (omega arith)

-- and past the last one
pub zero_past : (from end : ℕ) (cs : List Cell) (j : ℕ) → IsRising from end cs → end ≤ j → number_at cs j ≡ pos 0
zero_past from end [] j r le = refl
zero_past from end (c ∷ cs) j r le = let lt = r.1 in at_other c cs j (λ e. omega arith) ∙ zero_past (suc c.col) end cs j r.3 le

-- the bounds may be wider
pub wider : (from end more : ℕ) (cs : List Cell) → end ≤ more → IsRising from end cs → IsRising from more cs
wider from end more [] le r = tt
wider from end more (c ∷ cs) le r = let lt = r.1 in (r.0, omega arith, r.2, wider (suc c.col) end more cs le r.3)

pub earlier : (from less end : ℕ) (cs : List Cell) → less ≤ from → IsRising from end cs → IsRising less end cs
earlier from less end [] le r = tt
earlier from less end (c ∷ cs) le r = let h = r.0 in (omega arith, r.1, r.2, r.3)

-- a row without a cell at its first column
pub later : (col end : ℕ) (c : Cell) (cs : List Cell) → c.col ≢ col → IsRising col end (c ∷ cs) → IsRising (suc col) end (c ∷ cs)
later col end c cs ne r = let h = r.0 in let s : col ≢ c.col = λ e. ne (sym e) in (omega arith, r.1, r.2, r.3)

-- there are no more cells than columns
pub few : (from end : ℕ) (cs : List Cell) → from ≤ end → IsRising from end cs → from + length cs ≤ end
few from end [] le r = omega arith
few from end (c ∷ cs) le r = let a = r.0 in let b = r.1 in let h = few (suc c.col) end cs (omega arith) r.3 in omega arith

-- a cell after all others
pub append_rising : (from end : ℕ) (cs : List Cell) (c : Cell) → from ≤ end → end ≤ c.col → c.value ≢ pos 0 → IsRising from end cs → IsRising from (suc c.col) (cs ++ c ∷ [])
append_rising from end [] c fe le ne r = (omega arith, omega arith, ne, tt)
append_rising from end (d ∷ cs) c fe le ne r = let b = r.1 in (r.0, omega arith, r.2, append_rising (suc d.col) end cs c (omega arith) le ne r.3)

pub append_number : (from end : ℕ) (cs : List Cell) (c : Cell) (j : ℕ) → end ≤ c.col → IsRising from end cs → number_at (cs ++ c ∷ []) j ≡ cond (eqb j c.col) c.value (number_at cs j)
append_number from end [] c j le r = refl
append_number from end (d ∷ cs) c j le r = let lt = r.1 in elim (cases_eq j d.col) [
  | inl e ↦ at_first d (cs ++ c ∷ []) j (sym e) ∙ sym (rw (ne_eqb j c.col (λ s. omega arith)) (at_first d cs j (sym e)))
  | inr ne ↦ at_other d (cs ++ c ∷ []) j ne ∙ append_number (suc d.col) end cs c j le r.3 ∙ ap (λ x. cond (eqb j c.col) c.value x) (sym (at_other d cs j ne))
]

-- a column without a cell
pub skip_number : (from end : ℕ) (cs : List Cell) (j : ℕ) (x : ℤ) → x ≡ pos 0 → IsRising from end cs → number_at cs j ≡ cond (eqb j end) x (number_at cs j)
skip_number from end cs j x z r = elim (cases_eq j end) [
  | inl e ↦ zero_past from end cs j r (omega arith) ∙ sym (rw (eq-eqb j end e) z)
  | inr ne ↦ sym (rw (ne_eqb j end ne) refl)
]

-- a row that is 0 from a column on has no cells there
pub ends : (from col end : ℕ) (cs : List Cell) → IsRising from end cs → ((j : ℕ) → col ≤ j → number_at cs j ≡ pos 0) → IsRising from col cs
ends from col end [] r z = tt
ends from col end (c ∷ cs) r z = elim (cases_lt c.col col) [
  | inl lt ↦ (r.0, lt, r.2, ends (suc c.col) col end cs r.3 (later_zeros c cs (suc c.col) col end r.3 lt z))
  | inr ge ↦ absurd (r.2 (sym (at_first c cs c.col refl) ∙ z c.col ge))
]
  where
    later_zeros : (c : Cell) (cs : List Cell) (from col end : ℕ) → IsRising from end cs → c.col < col → ((j : ℕ) → col ≤ j → number_at (c ∷ cs) j ≡ pos 0) → (j : ℕ) → col ≤ j → number_at cs j ≡ pos 0
    later_zeros c cs from col end r lt z j le = sym (at_other c cs j (λ e. omega arith)) ∙ z j le
