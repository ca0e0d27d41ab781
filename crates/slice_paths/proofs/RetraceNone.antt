-- Choices that lead nowhere.
use Rattle.std.proofs.Common.{◌≡◌, ◌∙◌, ℕ, refl, ap, Bool, List, [], length}
use Rattle.std.specs.Prelude.{None}
use Rattle.std.proofs.lemmas.List.{length-map}
use Rattle.slice_num.specs.declared.choice.Choice.{Choice}
use Rattle.slice_num.specs.Pieces.{piece_at}
use Rattle.slice_core.specs.Tree.{Tree, Cut, Test, End}
use Rattle.slice_core.specs.declared.node.Lin.{Lin}
use Rattle.slice_atoms.specs.Numbers.{name_of, addresses_of}
use Rattle.slice_atoms.specs.Addresses.{Address}
use Rattle.slice_paths.specs.Retraced.{part_in, arm_in, IsNoStride}
use Rattle.slice_paths.specs.Spots.{Known, way_of}
use Rattle.slice_paths.specs.Walking.{Ready}
use Rattle.slice_paths.proofs.Counts.{piece_map}
use Rattle.slice_paths.proofs.GoLaws.{cuts}
use Rattle.slice_paths.proofs.RetraceCut.{unanswered}
use Rattle.slice_paths.proofs.RetraceLaws.{arm_none}
use Rattle.slice_paths.proofs.StepLaws.{not_given}

-- a cut that they answer in none of the piece's parts
pub no_cut : (n a p l r l0 r0 : ℕ) (amount : Lin) (next : Tree) (s : Known) (cs : List Choice) → Ready n (Cut a p amount l0 r0 next) s → part_in (length (piece_at s.atoms.pieces p)) cs ≡ None → IsNoStride (Cut a p amount l r next) s cs
no_cut n a p l r l0 r0 amount next s cs h e =
    let g = cuts n a p amount l0 r0 next _ h.goes in
    let held : piece_at (way_of s).pieces p ≡ _ = not_given (addresses_of s.atoms) s.gifts p (g.held p g.is_live) ∙ piece_map (name_of s.atoms.olds) s.atoms.pieces p in
    let long : length (piece_at (way_of s).pieces p) ≡ length (piece_at s.atoms.pieces p) = ap (λ (ps : List Address). length ps) held ∙ length-map (piece_at s.atoms.pieces p) (name_of s.atoms.olds) in
    record { no_way = λ fs ks ds k. unanswered _ None [] (piece_at (way_of s).pieces p) (length (piece_at s.atoms.pieces p)) cs long e }

-- a test of which they take no arm
pub no_arm : (left right : Lin) (strict : Bool) (y z : Tree) (s : Known) (cs : List Choice) → arm_in cs ≡ None → IsNoStride (Test left right strict y z) s cs
no_arm left right strict y z s cs e = record { no_way = λ fs ks ds k. arm_none cs _ _ None e }

-- an end
pub no_end : (s : Known) (cs : List Choice) → IsNoStride End s cs
no_end s cs = record { no_way = λ fs ks ds k. refl }
