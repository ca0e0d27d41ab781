-- No basis comes twice in a pivot run, since the objective row rises.
use Rattle.std.proofs.Common.{ℕ, suc, ◌+◌, ap, arith, List, [], ◌∷◌, length, map, Ok, Err}
use Rattle.slice_linear.specs.Rows.{LinearRow, width}
use Rattle.std.specs.declared.result.Result.{Result}
use Rattle.std.specs.Result.{IfErr}
use Rattle.slice_tableau.specs.System.{lines, start_cell, own_column, list_column}
use Rattle.slice_tableau.specs.Table.{Table, IsTableauOf, IsFirst}
use Rattle.slice_tableau.specs.Run.{IsPivotRun, begins, goes_on}
use Rattle.slice_tableau.proofs.RunLaws.{Each, Distinct, known}
use Rattle.slice_tableau.proofs.RunLaws as laws
use Rattle.slice_simplex.specs.Bases.{HaveSameColumns, NoneWithColumnsOf, AllDiffer, HasBases, FaultShows}
use Rattle.slice_simplex.specs.ProverAnswer.{IsAtLimit, FaultMeans}
use Rattle.slice_simplex.specs.declared.prover.ProveFault.{ProveFault}
use Rattle.slice_simplex.specs.declared.prover.ProveFault.TheVariants.{PivotLimit, Overflow, Memory}
use Rattle.slice_tableau.proofs.RunBridge.{stage, table_is, step_is}
use Rattle.slice_tableau.proofs.RunRises.{last_is}
use Rattle.slice_simplex.proofs.Tables.{run_is_high}

-- the run as one of stages
record StageRun (rows : List LinearRow) (tables : List Table) : Type 0 where
  first : Table
  is_first : IsFirst rows first
  run : laws.IsRun (length (lines rows)) (start_cell (width rows) rows) (own_column (width rows) (length (lines rows))) (list_column (width rows) (length (lines rows))) (stage first) (map stage tables)

stage_run : (rows : List LinearRow) (t : Table) (before : List Table) → IsPivotRun rows (t ∷ before) → StageRun rows (t ∷ before)
stage_run rows t before (begins x f) = record { first = x; is_first = f; run = laws.begins }
stage_run rows t before (goes_on x xs y run s) =
    let r = stage_run rows x xs run in
    record { first = r.first; is_first = r.is_first; run = laws.goes_on (stage x) (map stage xs) (stage y) r.run (step_is rows x y s) }

-- the same columns, told of stages
columns_of : (rows : List LinearRow) (t u : Table) → IsTableauOf rows t → IsTableauOf rows u → HaveSameColumns t u → laws.HasColumnsOf (suc (length (lines rows))) (stage t) (stage u)
columns_of rows t u a b h l ll =
    let x = h.there l (let e = b.height_is in omega arith) in
    let le = x.1 in
    (x.0, (let e = a.height_is in omega arith), x.2)

-- each table of a run is one of the rows
EachIsOf : List LinearRow → List Table → Type 0
EachIsOf rows [] = Unit {0}
EachIsOf rows (t ∷ ts) = IsTableauOf rows t × EachIsOf rows ts

each_is_of : (rows : List LinearRow) (t : Table) (before : List Table) → IsPivotRun rows (t ∷ before) → EachIsOf rows (t ∷ before)
unfolding EachIsOf
each_is_of rows t before (begins x f) = (f.of_rows, tt)
each_is_of rows t before (goes_on x xs y run s) = (s.new, each_is_of rows x xs run)

none_with : (rows : List LinearRow) (t : Table) (us : List Table) → IsTableauOf rows t → EachIsOf rows us → Each (λ a. laws.HasColumnsOf (suc (length (lines rows))) (stage t) a → ⊥) (map stage us) → NoneWithColumnsOf t us
unfolding EachIsOf
none_with rows t [] of each h = tt
none_with rows t (u ∷ us) of each h = ((λ s. h.0 (columns_of rows t u of each.0 s)), none_with rows t us of each.1 h.1)

all_differ : (rows : List LinearRow) (ts : List Table) → EachIsOf rows ts → Distinct (suc (length (lines rows))) (map stage ts) → AllDiffer ts
unfolding EachIsOf
all_differ rows [] each d = tt
all_differ rows (t ∷ ts) each d = (none_with rows t ts each.0 each.1 d.0, all_differ rows ts each.1 d.1)

pub run_differs : (rows : List LinearRow) (t : Table) (before : List Table) → IsPivotRun rows (t ∷ before) → AllDiffer (t ∷ before)
run_differs rows t before run =
    let m = length (lines rows) in
    let w = width rows in
    let r = stage_run rows t before run in
    let k = known m (start_cell w rows) (own_column w m) (list_column w m) (w + 2 + m) (stage r.first) (table_is rows r.first r.is_first.of_rows) (run_is_high rows r.first [] (begins r.first r.is_first)) (last_is rows r.first r.is_first.of_rows)
    (stage t) (map stage before) r.run in
    all_differ rows (t ∷ before) (each_is_of rows t before run) k.distinct

pub limit_shows : (rows : List LinearRow) (limit : ℕ) → IsAtLimit rows limit → HasBases rows (suc limit)
limit_shows rows limit a = record {
  tables = a.last ∷ a.made.before;
  run = a.made.run;
  count = ap suc a.made.count;
  differ = run_differs rows a.last a.made.before a.made.run;
}

-- what a refusal means shows more
pub fault_shows : (rows : List LinearRow) (limit : ℕ) (e : ProveFault) → FaultMeans rows limit e → FaultShows rows limit e
fault_shows rows limit PivotLimit h = limit_shows rows limit h
fault_shows rows limit (Overflow pivots i j) h = tt
fault_shows rows limit Memory h = tt

pub errors_show : {P : Type 0} (rows : List LinearRow) (limit : ℕ) (r : Result P ProveFault) → IfErr r (λ e. FaultMeans rows limit e) → IfErr r (λ e. FaultShows rows limit e)
errors_show rows limit (Ok p) h = tt
errors_show rows limit (Err e) h = fault_shows rows limit e h
