-- What is ahead of a stream: what its frames leave, the last one first.
use Rattle.std.specs.Prelude.{ℕ, zero, suc, ◌+◌, ◌-◌, ◌==◌, Bool, if◌then◌else◌, List, [], ◌∷◌, ◌++◌, map, take, drop, ⊤}
use Rattle.slice_num.specs.Pieces.{piece_at, each_part}
use Rattle.slice_num.specs.declared.choice.Choice.TheVariants as choice
use Rattle.slice_core.specs.Nodes.{tree_of}
use Rattle.slice_core.specs.Tree.{Tree}
use Rattle.slice_atoms.specs.FormFits.{sub_fits}
use Rattle.slice_atoms.specs.Forms.{Form, sub_form}
use Rattle.slice_paths.specs.Events.{Event, Meets, Breaks, events, where_fit, low_goal, high_goal, envy_goal, cut_fits}
use Rattle.slice_paths.specs.Places.{Way, cut_way, test_way, yes_kind, no_kind}
use Rattle.slice_paths.specs.Spots.{Known, regs_of, way_of, form_of}
use Rattle.slice_paths.specs.declared.frames.Frame.{Frame}
use Rattle.slice_paths.specs.declared.frames.Onward.{Onward}
use Rattle.slice_paths.specs.declared.frames.Onward.TheVariants.{End, One, Two}
use Rattle.slice_paths.specs.declared.frames.Rest.{Rest}
use Rattle.slice_paths.specs.declared.frames.Rest.TheVariants.{Walk, Low, High, Parts, No, Pairs}

-- what follows answers to a cut in the parts of the piece, from one on
abbrev pub parts_from : ℕ → ℕ → ℕ → Form → ℕ → Tree → List Form → Way → List Event
parts_from agents a p amount part next regs k =
    each_part (take part (piece_at k.pieces p)) (drop part (piece_at k.pieces p)) (λ before A after.
    where_fit (cut_fits agents a amount before A k) (events agents next regs (cut_way a p amount before A after k)))

-- what follows the no of a test with these sides
abbrev pub no_from : ℕ → Form → Form → Bool → Tree → List Form → Way → List Event
no_from agents left right strict next regs k =
    where_fit (sub_fits agents k.cake right left) (events agents next regs (test_way (no_kind strict) (sub_form right left) choice.No k))

-- what follows the yes of a test with these sides, and then its no
abbrev pub test_from : ℕ → Form → Form → Bool → Tree → Tree → List Form → Way → List Event
test_from agents left right strict at_yes at_no regs k =
    where_fit (sub_fits agents k.cake left right) (events agents at_yes regs (test_way (yes_kind strict) (sub_form left right) choice.Yes k))
    ++ no_from agents left right strict at_no regs k

-- the pairs of agent a with so many agents from b on, but for itself
abbrev pub pairs_after : ℕ → ℕ → ℕ → List (ℕ × ℕ)
pairs_after a b zero = []
pairs_after a b (suc more) = (if a == b then [] else (a, b) ∷ []) ++ pairs_after a (b + 1) more

-- the pairs of so many agents from a on, each with each other one
abbrev pub pairs_beyond : ℕ → ℕ → ℕ → List (ℕ × ℕ)
pairs_beyond agents a zero = []
pairs_beyond agents a (suc more) = pairs_after a 1 agents ++ pairs_beyond agents (a + 1) more

-- those of so many agents from a on, the first with so many from b on
abbrev pub pairs_left : (agents a b : ℕ) → (others more : ℕ) → List (ℕ × ℕ)
pairs_left agents a b zero more = []
pairs_left agents a b (suc others) more = pairs_after a b more ++ pairs_beyond agents (a + 1) others

-- the pairs of agents from (a, b) on
abbrev pub pairs_from : ℕ → ℕ → ℕ → List (ℕ × ℕ)
pairs_from agents a b = pairs_left agents a b (agents + 1 - a) (agents + 1 - b)

-- what a spot leaves with what is left to do there
abbrev pub left_at : ℕ → Rest → Known → List Event
left_at agents (Walk node) s = events agents (tree_of node.now) (regs_of s) (way_of s)
left_at agents (Low cut) s =
    low_goal agents (form_of s.atoms cut.amount) (way_of s)
    ∷ high_goal agents cut.agent cut.piece (form_of s.atoms cut.amount) (way_of s)
    ∷ parts_from agents cut.agent cut.piece (form_of s.atoms cut.amount) 0 (tree_of cut.next.now) (regs_of s) (way_of s)
left_at agents (High cut) s =
    high_goal agents cut.agent cut.piece (form_of s.atoms cut.amount) (way_of s)
    ∷ parts_from agents cut.agent cut.piece (form_of s.atoms cut.amount) 0 (tree_of cut.next.now) (regs_of s) (way_of s)
left_at agents (Parts cut part) s =
    parts_from agents cut.agent cut.piece (form_of s.atoms cut.amount) part (tree_of cut.next.now) (regs_of s) (way_of s)
left_at agents (No test) s =
    no_from agents (form_of s.atoms test.left) (form_of s.atoms test.right) test.strict (tree_of test.next.now) (regs_of s) (way_of s)
left_at agents (Pairs a b) s = map (envy_goal agents (way_of s)) (pairs_from agents a b)

-- the frames' events, the last frame's first
abbrev pub ahead_of : ℕ → List Frame → List Event → List Event
ahead_of agents [] after = after
ahead_of agents (f ∷ fs) after = ahead_of agents fs (left_at agents f.rest f.spot ++ after)

-- the frames that a step leaves, the last one first
abbrev pub frames_of : Onward → List Frame
frames_of End = []
frames_of (One f) = f ∷ []
frames_of (Two f g) = f ∷ g ∷ []

-- their events
abbrev pub onward_events : ℕ → Onward → List Event
onward_events agents End = []
onward_events agents (One f) = left_at agents f.rest f.spot
onward_events agents (Two f g) = left_at agents g.rest g.spot ++ left_at agents f.rest f.spot

-- a number doesn't fit before any goal comes up
abbrev pub BreaksFirst : List Event → Type 0
BreaksFirst [] = ⊥
BreaksFirst (Breaks ∷ es) = ⊤
BreaksFirst (Meets t ∷ es) = ⊥
