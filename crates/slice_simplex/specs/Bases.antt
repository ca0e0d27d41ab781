-- No basis comes twice in a pivot run.
use Rattle.std.specs.Prelude.{ℕ, suc, ◌≤◌, ◌≡◌, List, [], ◌∷◌, length}
use Rattle.slice_linear.specs.Rows.{LinearRow}
use Rattle.slice_tableau.specs.Table.{Table, basic_at}
use Rattle.slice_tableau.specs.Run.{IsPivotRun}
use Rattle.slice_simplex.specs.declared.prover.ProveFault.{ProveFault}
use Rattle.slice_simplex.specs.declared.prover.ProveFault.TheVariants.{PivotLimit, Overflow, Memory}

-- each column of u's basis is one of t's
abbrev pub HasColumnsOf : Table → Table → Type 0
HasColumnsOf t u = (l : ℕ) → l ≤ u.height → (k : ℕ) × (k ≤ t.height) × (basic_at u l ≡ basic_at t k)

-- both bases have the same columns
pub record HaveSameColumns (t u : Table) : Type 0 where
  pub there : HasColumnsOf t u
  pub back : HasColumnsOf u t

-- none of the tables has the columns of t
abbrev pub NoneWithColumnsOf : Table → List Table → Type 0
NoneWithColumnsOf t [] = Unit {0}
NoneWithColumnsOf t (u ∷ us) = (HaveSameColumns t u → ⊥) × NoneWithColumnsOf t us

-- no two of the tables have the same columns
abbrev pub AllDiffer : List Table → Type 0
AllDiffer [] = Unit {0}
AllDiffer (t ∷ ts) = NoneWithColumnsOf t ts × AllDiffer ts

-- the first n tableaux of the pivot run exist, and no two of them have the same basic columns
pub record HasBases (rows : List LinearRow) (n : ℕ) : Type 0 where
  pub tables : List Table
  pub run : IsPivotRun rows tables
  pub count : length tables ≡ n
  pub differ : AllDiffer tables

-- what a refusal shows of the rows: at the limit, that so many bases and one more exist
abbrev pub FaultShows : List LinearRow → ℕ → ProveFault → Type 0
FaultShows rows limit PivotLimit = HasBases rows (suc limit)
FaultShows rows limit (Overflow pivots i j) = Unit {0}
FaultShows rows limit Memory = Unit {0}
