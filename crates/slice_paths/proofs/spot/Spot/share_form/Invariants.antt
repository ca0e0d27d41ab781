use Rattle.std.proofs.Common.{◌≡◌, take}
use Rattle.slice_atoms.specs.Numbers.{unknowns}
use Rattle.slice_paths.proofs.ShareLaws.{owned}
use Rattle.slice_paths.proofs.spot.Spot.share_form.Given as goal

abbrev pub invariant-loop-gift : goal.invariant-loop-gift
invariant-loop-gift l = l.keys.items ≡ unknowns l.fn.agent (owned l.fn.owner l.fn.self.atoms.pieces (take l.gift-index l.fn.self.gifts))
