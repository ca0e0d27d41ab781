-- A basis has one tableau, and a tableau has one lawful choice.
use Rattle.std.proofs.Common.{ℕ, suc, ◌+◌, ◌<◌, ◌≤◌, ◌≡◌, ◌∙◌, ap, sym, subst, arith, List, [], length, get_or, ℤ, pos, neg_ℤ, ◌-ℤ◌, ◌*ℤ◌, ◌<ℤ◌, inl, inr}
use Rattle.std.proofs.lemmas.Bool.{cases_order, cases_eq}
use Rattle.std.proofs.lemmas.List.{ext_get_or}
use Rattle.slice_linear.proofs.Ring.{linear}
use Rattle.slice_linear.specs.Rows.{LinearRow, width}
use Rattle.slice_tableau.specs.Basis.{IsBasisTable}
use Rattle.slice_tableau.specs.System.{lines, start_cell, own_column}
use Rattle.slice_tableau.specs.Table.{Table, IsTableauOf, IsEntering, IsLeaving, cell_at, basic_at, list_at}
use Rattle.slice_tableau.proofs.LexLaws.{lex_not_both, lex_same}
use Rattle.slice_tableau.proofs.RunBridge.{table_is}
use Rattle.slice_tableau.proofs.Unique.{basis_row_is_unique}

-- tables of one basis have the same rows
pub same_rows : (n : ℕ) (start : ℕ → ℕ → ℤ) (own basis next : ℕ → ℕ) (table made : ℕ → ℕ → ℤ) → IsBasisTable n start own basis table → IsBasisTable n start own next made
    → ((l : ℕ) → l < n → next l ≡ basis l) → (l : ℕ) → l < n → (j : ℕ) → made l j ≡ table l j
same_rows n start own basis next table made t u e l ll j =
    let y = u.rows l ll in
    basis_row_is_unique n start own basis l (made l) (table l) t.independent
    record {
      combination = y.combination;
      above = subst (λ (x : ℕ). pos 0 <ℤ (made l x)) (e l ll) y.above;
      elsewhere = λ k lk ne. ap (made l) (sym (e k lk)) ∙ y.elsewhere k lk ne;
      lowest = y.lowest;
    }
    (t.rows l ll) j

pub same_basis : (rows : List LinearRow) (t u : Table) → IsTableauOf rows t → IsTableauOf rows u → t.basis ≡ u.basis → t ≡ u
same_basis rows t u a b e =
    let tall : t.height ≡ u.height = a.height_is ∙ sym b.height_is in
    let wide : t.unknowns ≡ u.unknowns = a.unknowns_is ∙ sym b.unknowns_is in
    let row : (l : ℕ) → l < length t.cells → get_or t.cells l [] ≡ get_or u.cells l [] = λ l ll.
    let here : l ≤ t.height = (let s = a.sizes.rows in omega arith) in
    let there : l ≤ u.height = omega arith in
    ext_get_or (pos 0) (get_or t.cells l []) (get_or u.cells l [])
    (a.sizes.width l here ∙ (λ i. wide i + tall i + 3) ∙ sym (b.sizes.width l there))
    (λ j lj. same_rows (suc (length (lines rows))) (start_cell (width rows) rows) (own_column (width rows) (length (lines rows))) (basic_at u) (basic_at t) (cell_at u) (cell_at t)
    (table_is rows u b) (table_is rows t a) (λ k lk. ap (λ (x : List ℕ). get_or x k 0) e) l (let h = a.height_is in omega arith) j) in
    let cells : t.cells ≡ u.cells = ext_get_or [] t.cells u.cells (a.sizes.rows ∙ ap suc tall ∙ sym b.sizes.rows) row in
    λ i. record { unknowns = wide i; height = tall i; cells = cells i; basis = e i }

pub same_column : (t : Table) (c d : ℕ) → IsEntering t c → IsEntering t d → c ≡ d
same_column t c d a b = elim (cases_order c d) [
  | inl same ↦ same
  | inr (inl less) ↦ absurd (let p = b.least c less in let q = a.below in omega (arith, linear))
  | inr (inr more) ↦ absurd (let p = a.least d more in let q = b.below in omega (arith, linear))
]

pub same_row : (t : Table) (c r s : ℕ) → IsLeaving t c r → IsLeaving t c s → r ≡ s
same_row t c r s a b = elim (cases_eq r s) [
  | inl same ↦ same
  | inr ne ↦ absurd (
      let p : ℤ = cell_at t r c in
      let q : ℤ = cell_at t s c in
      let x = a.least s b.in_range (λ e. ne (sym e)) b.above in
      let y = b.least r a.in_range ne a.above in
      lex_not_both (suc t.height) (λ i. p *ℤ list_at t s i -ℤ q *ℤ list_at t r i) x
      (lex_same (suc t.height) (λ i. q *ℤ list_at t r i -ℤ p *ℤ list_at t s i) (λ i. neg_ℤ (p *ℤ list_at t s i -ℤ q *ℤ list_at t r i)) (λ i. omega (arith, linear)) y))
]
