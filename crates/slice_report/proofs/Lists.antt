-- Lists of lists as JSON.
use Rattle.std.proofs.Common.{◌≡◌, List, map, Vec, Global, ap, sym}
use Rattle.std.proofs.lemmas.Simd.{map-map}
use Rattle.serde_json.specs.Data.{Data, array}
use Rattle.serde_json.specs.View.{items_of}
use Rattle.slice_num.specs.Rational.{Rational}
use Rattle.slice_num.specs.declared.interval.Interval.{Interval}
use Rattle.slice_json.specs.Texts.{list_of, fraction, interval_json}
use Rattle.slice_report.specs.RunReport.{piece_json, row_json}

lists_listed : {A : Type 0} (f : A → Data) (xs : List (Vec A Global)) → list_of (λ (v : Vec A Global). list_of f v.items) xs ≡ list_of (list_of f) (map (λ (v : Vec A Global). v.items) xs)
lists_listed f xs = ap (λ ds. array (items_of ds)) (sym (map-map (list_of f) (λ v. v.items) xs))

pub pieces_listed : (xs : List (Vec Interval Global)) → list_of (λ (v : Vec Interval Global). list_of interval_json v.items) xs ≡ list_of piece_json (map (λ (v : Vec Interval Global). v.items) xs)
pieces_listed xs = lists_listed interval_json xs

pub rows_listed : (xs : List (Vec Rational Global)) → list_of (λ (v : Vec Rational Global). list_of fraction v.items) xs ≡ list_of row_json (map (λ (v : Vec Rational Global). v.items) xs)
rows_listed xs = lists_listed fraction xs
