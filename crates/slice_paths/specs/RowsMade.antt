-- Terms as rows over unknowns in their order.
use Rattle.std.specs.Prelude.{◌&&◌, Bool, true, List, [], ◌∷◌}
use Rattle.slice_num.specs.declared.key.Key.{Key}
use Rattle.slice_linear.specs.LowestRow.{lowest, lowest_fits}
use Rattle.slice_linear.specs.Rows.{LinearRow}
use Rattle.slice_linear.specs.Terms.{coefs_of}
use Rattle.slice_linear.specs.declared.forms.Term.{Term}
use Rattle.slice_linear.specs.declared.row.RowKind.{RowKind}
use Rattle.slice_paths.specs.declared.spot.Condition as held

-- terms as a row over these unknowns
abbrev pub row_at : List Key → RowKind → List Term → LinearRow
row_at ks kind ts = record { kind = kind; coefs = lowest (coefs_of ts ks) }

-- whether the numbers of that row fit
abbrev pub row_fits_at : List Key → List Term → Bool
row_fits_at ks ts = lowest_fits (coefs_of ts ks)

-- a condition as a row
abbrev pub condition_row : List Key → held.Condition → LinearRow
condition_row ks c = row_at ks c.kind c.form

-- whether the numbers of all these conditions' rows fit
abbrev pub condition_rows_fit : List Key → List held.Condition → Bool
condition_rows_fit ks [] = true
condition_rows_fit ks (c ∷ cs) = row_fits_at ks c.form && condition_rows_fit ks cs
