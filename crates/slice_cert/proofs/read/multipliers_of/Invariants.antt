use Rattle.std.proofs.Common.{◌≡◌, map, take}
use Rattle.std.specs.List.{All}
use Rattle.serde_json.specs.View.{view}
use Rattle.slice_num.specs.Rational.{Fits}
use Rattle.slice_json.specs.Texts.{signed}
use Rattle.slice_cert.proofs.read.multipliers_of.Given as goal

abbrev pub invariant-loop-item : goal.invariant-loop-item
invariant-loop-item l = record { fit : All Fits l.numbers.items; are : map view (take l.item-index l.items.items) ≡ map signed l.numbers.items }
