-- What a walk needs at each frame to go on, and that it ends.
use Rattle.std.specs.Prelude.{◌≡◌, ℕ, ◌+◌, ◌-◌, ◌*◌, ◌^◌, ◌<◌, ◌≤◌, true, Bool, List, [], ◌∷◌, ◌++◌, length, Option, Some, None, ⊤}
use Rattle.slice_num.specs.declared.choice.Choice.{Choice}
use Rattle.slice_core.specs.Agents.{IsAgent}
use Rattle.slice_core.specs.Nodes.{tree_of}
use Rattle.slice_core.specs.Sizes.{depth, most_cuts}
use Rattle.slice_core.specs.Tree.{Tree, Ask, Set, Cut, Join, Test, Give, End}
use Rattle.slice_core.specs.WellFormed.{IsFormed, IsLive, spent}
use Rattle.slice_linear.specs.Rows.{LinearRow}
use Rattle.slice_linear.specs.declared.forms.FormFault.{FormFault}
use Rattle.slice_linear.specs.declared.forms.FormFault.TheVariants as form_fault
use Rattle.slice_linear.specs.declared.forms.Term.{Term}
use Rattle.slice_atoms.specs.Forms.{Form}
use Rattle.slice_paths.specs.Ahead.{left_at, ahead_of, parts_from, no_from, test_from, onward_events, BreaksFirst}
use Rattle.slice_paths.specs.Events.{Event, Meets, events, found, next_goal, Gives}
use Rattle.slice_paths.specs.Goals.{Goal}
use Rattle.slice_paths.specs.Spots.{Known, Tally, tally_of, form_of, regs_of, way_of}
use Rattle.slice_paths.specs.Steps.{IsKnown, IsNotGiven, IsOver}
use Rattle.slice_paths.specs.Told.{IsRefusal}
use Rattle.slice_paths.specs.declared.frames.Frame.{Frame}
use Rattle.slice_paths.specs.declared.frames.Onward.{Onward}
use Rattle.slice_paths.specs.declared.frames.Onward.TheVariants as onward
use Rattle.slice_paths.specs.declared.frames.Rest.{Rest}
use Rattle.slice_paths.specs.declared.frames.Rest.TheVariants as rest
use Rattle.slice_paths.specs.declared.frames.Step.{Step}
use Rattle.slice_paths.specs.declared.frames.Step.TheVariants as step
use Rattle.slice_paths.specs.declared.goal.GoalFault.{GoalFault}
use Rattle.slice_paths.specs.declared.goal.GoalFault.TheVariants as goal_fault
use Rattle.slice_paths.specs.declared.goal.GoalKind.{GoalKind}

-- ---- what is needed

-- so many agents can go on with this tree from a spot of this tally: no live piece was given, and the limits of a core are
-- kept
pub record CanGo (agents : ℕ) (tree : Tree) (t : Tally) : Type 0 where
  pub agents_are : t.agents ≡ agents
  pub few_agents : agents ≤ 16
  pub live : List Bool
  pub made : length live ≡ t.pieces
  pub held : (p : ℕ) → IsLive live p → IsNotGiven p t.gifts
  pub formed : IsFormed agents live t.regs tree
  pub few_cuts : t.cuts + most_cuts tree ≤ 64
  pub few_queries : t.queries + depth tree ≤ 512
  pub few_pieces : t.pieces + 2 * depth tree ≤ 1025

-- the same from a cut that is met, before it is answered: its agent and its piece are there, and the tree follows
pub record CanCut (agents agent piece : ℕ) (next : Tree) (t : Tally) : Type 0 where
  pub agents_are : t.agents ≡ agents
  pub few_agents : agents ≤ 16
  pub agent_there : IsAgent agents agent
  pub live : List Bool
  pub made : length live ≡ t.pieces
  pub held : (p : ℕ) → IsLive live p → IsNotGiven p t.gifts
  pub is_live : IsLive live piece
  pub formed : IsFormed agents (spent live piece ++ true ∷ true ∷ []) t.regs next
  pub few_cuts : t.cuts + 1 + most_cuts next ≤ 64
  pub few_queries : t.queries + 1 + depth next ≤ 512
  pub few_pieces : t.pieces + 2 + 2 * depth next ≤ 1025

-- a spot from which so many agents can go on with the tree
pub record Ready (agents : ℕ) (tree : Tree) (s : Known) : Type 0 where
  pub known : IsKnown s
  pub goes : CanGo agents tree (tally_of s)

-- a cut of that amount can be answered at a spot
pub record CutReady (agents agent piece : ℕ) (amount : List Term) (next : Tree) (s : Known) : Type 0 where
  pub known : IsKnown s
  pub over : IsOver s amount
  pub goes : CanCut agents agent piece next (tally_of s)

-- the no of a test with these sides can be passed at a spot
pub record NoReady (agents : ℕ) (left right : List Term) (next : Tree) (s : Known) : Type 0 where
  pub known : IsKnown s
  pub left_over : IsOver s left
  pub right_over : IsOver s right
  pub goes : CanGo agents next (tally_of s)

-- and its yes, where both trees can follow
pub record YesReady (agents : ℕ) (left right : List Term) (at_yes at_no : Tree) (s : Known) : Type 0 where
  pub known : IsKnown s
  pub left_over : IsOver s left
  pub right_over : IsOver s right
  pub yes_goes : CanGo agents at_yes (tally_of s)
  pub no_goes : CanGo agents at_no (tally_of s)

-- the pairs of agents can be told at a spot
pub record PairsReady (agents a b : ℕ) (s : Known) : Type 0 where
  pub known : IsKnown s
  pub agents_are : s.atoms.agents ≡ agents
  pub few_agents : agents ≤ 16
  pub first : 1 ≤ a
  pub second : 1 ≤ b

-- what is left at a spot can be done there
abbrev pub RestReady : ℕ → Rest → Known → Type 0
RestReady agents (rest.Walk node) s = Ready agents (tree_of node.now) s
RestReady agents (rest.Low cut) s = CutReady agents cut.agent cut.piece cut.amount (tree_of cut.next.now) s
RestReady agents (rest.High cut) s = CutReady agents cut.agent cut.piece cut.amount (tree_of cut.next.now) s
RestReady agents (rest.Parts cut part) s = CutReady agents cut.agent cut.piece cut.amount (tree_of cut.next.now) s
RestReady agents (rest.No test) s = NoReady agents test.left test.right (tree_of test.next.now) s
RestReady agents (rest.Pairs a b) s = PairsReady agents a b s

-- so at each frame
abbrev pub AllReady : ℕ → List Frame → Type 0
AllReady agents [] = ⊤
AllReady agents (f ∷ fs) = RestReady agents f.rest f.spot × AllReady agents fs

-- and at those that a step leaves
abbrev pub OnwardReady : ℕ → Onward → Type 0
OnwardReady agents onward.End = ⊤
OnwardReady agents (onward.One f) = RestReady agents f.rest f.spot
OnwardReady agents (onward.Two f g) = RestReady agents f.rest f.spot × RestReady agents g.rest g.spot

-- ---- the walk ends

-- more steps than the pairs from (a, b) on take
abbrev pub pair_steps : ℕ → ℕ → ℕ → ℕ
pair_steps agents a b = 1 + ((agents + 1 - a) * (agents + 2) + (agents + 1 - b))

-- more than so many parts take, where each takes that many
abbrev pub part_steps : ℕ → ℕ → ℕ
part_steps each parts = 1 + parts * (1 + each)

-- more than the walk takes from a node on; no piece has so many parts as a u32 can count
abbrev pub steps : ℕ → Tree → ℕ
steps agents (Ask a p r next) = 1 + steps agents next
steps agents (Set r sum next) = 1 + steps agents next
steps agents (Cut a p amount l r next) = 3 + part_steps (steps agents next) (2 ^ 32)
steps agents (Join p q r next) = 1 + steps agents next
steps agents (Test left right strict at_yes at_no) = 2 + (steps agents at_yes + steps agents at_no)
steps agents (Give p a next) = 1 + steps agents next
steps agents End = 1 + pair_steps agents 1 1

-- more than what is left takes
abbrev pub steps_at : ℕ → Rest → ℕ
steps_at agents (rest.Walk node) = steps agents (tree_of node.now)
steps_at agents (rest.Low cut) = 2 + part_steps (steps agents (tree_of cut.next.now)) (2 ^ 32)
steps_at agents (rest.High cut) = 1 + part_steps (steps agents (tree_of cut.next.now)) (2 ^ 32)
steps_at agents (rest.Parts cut part) = part_steps (steps agents (tree_of cut.next.now)) (2 ^ 32 - part)
steps_at agents (rest.No test) = 1 + steps agents (tree_of test.next.now)
steps_at agents (rest.Pairs a b) = pair_steps agents a b

-- the same of all frames
abbrev pub steps_of : ℕ → List Frame → ℕ
steps_of agents [] = 0
steps_of agents (f ∷ fs) = steps_at agents f.rest + steps_of agents fs

-- and of those that a step leaves
abbrev pub onward_steps : ℕ → Onward → ℕ
onward_steps agents onward.End = 0
onward_steps agents (onward.One f) = steps_at agents f.rest
onward_steps agents (onward.Two f g) = steps_at agents f.rest + steps_at agents g.rest

-- ---- steps

-- a step that gives no goal leaves frames with the same events, at which the walk can go on, and which take fewer steps
pub record Leads (agents : ℕ) (ahead : List Event) (most : ℕ) (o : Onward) : Type 0 where
  pub comes : ahead ≡ onward_events agents o
  pub ready : OnwardReady agents o
  pub fewer : onward_steps agents o < most

-- so from a node on
abbrev pub WalkLeads : ℕ → Tree → Known → Onward → Type 0
WalkLeads agents tree s o = Leads agents (events agents tree (regs_of s) (way_of s)) (steps agents tree) o

-- a number on the way from there doesn't fit before any goal
abbrev pub WalkBreaks : ℕ → Tree → Known → FormFault → Type 0
WalkBreaks agents tree s fault = fault ≡ form_fault.Overflow → BreaksFirst (events agents tree (regs_of s) (way_of s))

-- so from one of the parts in which a cut may be answered
abbrev pub PartLeads : (agents agent piece : ℕ) (amount : List Term) (part : ℕ) (next : Tree) → Known → Onward → Type 0
PartLeads agents agent piece amount part next s o =
    Leads agents (parts_from agents agent piece (form_of s.atoms amount) part next (regs_of s) (way_of s)) (part_steps (steps agents next) (2 ^ 32 - part)) o

abbrev pub PartBreaks : (agents agent piece : ℕ) (amount : List Term) (part : ℕ) (next : Tree) → Known → FormFault → Type 0
PartBreaks agents agent piece amount part next s fault =
    fault ≡ form_fault.Overflow → BreaksFirst (parts_from agents agent piece (form_of s.atoms amount) part next (regs_of s) (way_of s))

-- so from the no of a test
abbrev pub NoLeads : (agents : ℕ) (left right : List Term) (strict : Bool) (next : Tree) → Known → Onward → Type 0
NoLeads agents left right strict next s o =
    Leads agents (no_from agents (form_of s.atoms left) (form_of s.atoms right) strict next (regs_of s) (way_of s)) (1 + steps agents next) o

abbrev pub NoBreaks : (agents : ℕ) (left right : List Term) (strict : Bool) (next : Tree) → Known → FormFault → Type 0
NoBreaks agents left right strict next s fault =
    fault ≡ form_fault.Overflow → BreaksFirst (no_from agents (form_of s.atoms left) (form_of s.atoms right) strict next (regs_of s) (way_of s))

-- so from the yes of a test, and its no behind it
abbrev pub YesLeads : (agents : ℕ) (left right : List Term) (strict : Bool) (at_yes at_no : Tree) → Known → Onward → Type 0
YesLeads agents left right strict at_yes at_no s o =
    Leads agents (test_from agents (form_of s.atoms left) (form_of s.atoms right) strict at_yes at_no (regs_of s) (way_of s)) (2 + (steps agents at_yes + steps agents at_no)) o

abbrev pub YesBreaks : (agents : ℕ) (left right : List Term) (strict : Bool) (at_yes at_no : Tree) → Known → FormFault → Type 0
YesBreaks agents left right strict at_yes at_no s fault =
    fault ≡ form_fault.Overflow → BreaksFirst (test_from agents (form_of s.atoms left) (form_of s.atoms right) strict at_yes at_no (regs_of s) (way_of s))

-- ---- goals

-- with these rows the goal of the forms f less g at a spot comes next, whatever its kind and the choices to it
abbrev pub RowsTell : (agents given : ℕ) (f g : Form) → Known → List LinearRow → Type 0
RowsTell agents given f g s rows =
    (trace : List Choice) (kind : GoalKind) (es : List Event)
    → next_goal (Meets (found agents (record (way_of s) { trace = trace }) kind f g) ∷ es) given
    ≡ Gives (record { number = given; trace = trace; kind = kind; query = s.queries; rows = rows }) es

-- or none comes, for this fault
abbrev pub RowsFail : (agents given : ℕ) (f g : Form) → Known → GoalFault → Type 0
RowsFail agents given f g s fault =
    (trace : List Choice) (kind : GoalKind) (es : List Event)
    → IsRefusal fault given (next_goal (Meets (found agents (record (way_of s) { trace = trace }) kind f g) ∷ es) given)

-- this goal comes next at that event
abbrev pub GoalComes : (given : ℕ) → Event → Goal → Type 0
GoalComes given e g = (es : List Event) → next_goal (e ∷ es) given ≡ Gives g es

abbrev pub GoalFails : (given : ℕ) → Event → GoalFault → Type 0
GoalFails given e fault = (es : List Event) → IsRefusal fault given (next_goal (e ∷ es) given)

-- a step from what is left at a spot: a quiet one, or a goal that comes next, with what is ahead behind it
pub record GoalTold (agents given : ℕ) (r : Rest) (s : Known) (g : Goal) (f : Frame) : Type 0 where
  pub comes : (es : List Event) → next_goal (left_at agents r s ++ es) given ≡ Gives g (left_at agents f.rest f.spot ++ es)
  pub few : given < 1000000
  pub ready : RestReady agents f.rest f.spot

abbrev pub IsStep : (agents given : ℕ) → Rest → Known → Step → Type 0
IsStep agents given r s (step.Quiet o) = Leads agents (left_at agents r s) (steps_at agents r) o
IsStep agents given r s (step.Told g f) = GoalTold agents given r s g f

-- or no step, for this fault
abbrev pub IsNoStep : (agents given : ℕ) → Rest → Known → GoalFault → Type 0
IsNoStep agents given r s fault = (es : List Event) → IsRefusal fault given (next_goal (left_at agents r s ++ es) given)

-- a turn of the stream at its last frame, before which it had these frames: a quiet one, which takes a step; or a goal that
-- comes next
pub record QuietTurn (agents : ℕ) (f : Frame) (old new : List Frame) : Type 0 where
  pub comes : left_at agents f.rest f.spot ++ ahead_of agents old [] ≡ ahead_of agents new []
  pub fewer : steps_of agents new < steps_at agents f.rest + steps_of agents old

pub record GoalTurn (agents given : ℕ) (f : Frame) (old : List Frame) (g : Goal) (new : List Frame) : Type 0 where
  pub comes : next_goal (left_at agents f.rest f.spot ++ ahead_of agents old []) given ≡ Gives g (ahead_of agents new [])
  pub few : given < 1000000

abbrev pub IsTurn : (agents given : ℕ) → Frame → List Frame → Option Goal → List Frame → Type 0
IsTurn agents given f old None new = QuietTurn agents f old new
IsTurn agents given f old (Some g) new = GoalTurn agents given f old g new

-- the fault of a form as one of a goal, after so many goals
abbrev pub fault_of : ℕ → FormFault → GoalFault
fault_of given form_fault.Overflow = goal_fault.Overflow given
fault_of given form_fault.Memory = goal_fault.Memory
