-- A row of the list and a number of a list, as the definitions and the code read them.
use Rattle.std.proofs.Common.{SFits, ◌∙◌, ◌≡◌, ◌<◌, ℕ, zero, suc, List, [], ◌∷◌, length, get_or, ap, sym, subst, arith, ℤ, pos, refl}
use Rattle.std.specs.Prelude.{◌<ℤ◌}
use Rattle.std.specs.Int.{w128}
use Rattle.std.specs.List.{All}
use Rattle.std.proofs.lemmas.List.Elements.{All-head, All-tail}
use Rattle.std.proofs.lemmas.Int.{to_z-of_z}
use Rattle.slice_num.proofs.Wrapped.{W}
use Rattle.slice_linear.specs.Rows.{LinearRow, kind_at, coefs_at, KindTakes, IsAbove}
use Rattle.slice_linear.specs.declared.row.RowKind.{RowKind}
use Rattle.slice_check.specs.Verdicts.{HaveOneWidth}

pub kind_is : (rows : List LinearRow) (i : ℕ) (r : LinearRow) → i < length rows → kind_at rows i ≡ (get_or rows i r).kind
kind_is [] i r lt = absurd (omega arith)
kind_is (x ∷ rows) zero r lt = refl
kind_is (x ∷ rows) (suc i) r lt = kind_is rows i r (omega arith)

pub coefs_is : (rows : List LinearRow) (i : ℕ) (r : LinearRow) → i < length rows → coefs_at rows i ≡ (get_or rows i r).coefs
coefs_is [] i r lt = absurd (omega arith)
coefs_is (x ∷ rows) zero r lt = refl
coefs_is (x ∷ rows) (suc i) r lt = coefs_is rows i r (omega arith)

pub kind_of : (rows : List LinearRow) (i : ℕ) (r : LinearRow) → i < length rows → r ≡ get_or rows i r → kind_at rows i ≡ r.kind
kind_of rows i r lt e = kind_is rows i r lt ∙ ap (λ (x : LinearRow). x.kind) (sym e)

pub takes_in : (rows : List LinearRow) (i : ℕ) (r : LinearRow) (z : ℤ) → i < length rows → r ≡ get_or rows i r → SFits w128 z → KindTakes (kind_at rows i) z → KindTakes r.kind (W z)
takes_in rows i r z lt e f t = subst (λ (k : RowKind). KindTakes k (W z)) (kind_of rows i r lt e) (subst (λ (x : ℤ). KindTakes (kind_at rows i) x) (sym (to_z-of_z w128 z f)) t)

pub takes_out : (rows : List LinearRow) (i : ℕ) (r : LinearRow) (z : ℤ) → i < length rows → r ≡ get_or rows i r → SFits w128 z → KindTakes r.kind (W z) → KindTakes (kind_at rows i) z
takes_out rows i r z lt e f t = subst (λ (k : RowKind). KindTakes k z) (sym (kind_of rows i r lt e)) (subst (λ (x : ℤ). KindTakes r.kind x) (to_z-of_z w128 z f) t)

-- a row of that kind and a number above 0 make a sum strict
pub strict_in : (rows : List LinearRow) (i : ℕ) (r : LinearRow) (z : ℤ) → i < length rows → r ≡ get_or rows i r → SFits w128 z → IsAbove (kind_at rows i) → pos 0 <ℤ z → IsAbove r.kind × (pos 0 <ℤ W z)
strict_in rows i r z lt e f a p = (subst IsAbove (kind_of rows i r lt e) a, subst (λ (x : ℤ). pos 0 <ℤ x) (sym (to_z-of_z w128 z f)) p)

pub strict_out : (rows : List LinearRow) (i : ℕ) (r : LinearRow) (z : ℤ) → i < length rows → r ≡ get_or rows i r → SFits w128 z → IsAbove r.kind × (pos 0 <ℤ W z) → IsAbove (kind_at rows i) × (pos 0 <ℤ z)
strict_out rows i r z lt e f s = (subst IsAbove (sym (kind_of rows i r lt e)) s.0, subst (λ (x : ℤ). pos 0 <ℤ x) (to_z-of_z w128 z f) s.1)

pub coefs_of : (rows : List LinearRow) (i : ℕ) (r : LinearRow) → i < length rows → r ≡ get_or rows i r → coefs_at rows i ≡ r.coefs
coefs_of rows i r lt e = coefs_is rows i r lt ∙ ap (λ (x : LinearRow). x.coefs) (sym e)

-- rows over as many unknowns
over_all : (rows : List LinearRow) (w i : ℕ) → All (λ (r : LinearRow). length r.coefs ≡ w) rows → i < length rows → length (coefs_at rows i) ≡ w
over_all [] w i h lt = absurd (omega arith)
over_all (r ∷ rows) w zero h lt = All-head (λ (x : LinearRow). length x.coefs ≡ w) r rows h
over_all (r ∷ rows) w (suc i) h lt = over_all rows w i (All-tail (λ (x : LinearRow). length x.coefs ≡ w) r rows h) (omega arith)

pub one_width : (rows : List LinearRow) (w : ℕ) → All (λ (r : LinearRow). length r.coefs ≡ w) rows → HaveOneWidth rows
one_width rows w h i lt = over_all rows w i h lt ∙ sym (over_all rows w 0 h (omega arith))
