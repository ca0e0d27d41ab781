-- How many goals there are. That depends on the tree and on how many parts the pieces have, and on no form.
use Rattle.std.specs.Prelude.{◌≡◌, ℕ, zero, suc, ◌+◌, ◌-◌, ◌<◌, ◌≤◌, List, [], ◌∷◌, ◌++◌, length, drop, Option, Some, None, Ok, Err, ⊤, slice_set, slice_index_or}
use Rattle.std.specs.declared.result.Result.{Result}
use Rattle.slice_num.specs.declared.choice.Choice.{Choice}
use Rattle.slice_core.specs.Tree.{Tree, Core, Ask, Set, Cut, Join, Test, Give, End}
use Rattle.slice_paths.specs.Ahead.{pairs_from}
use Rattle.slice_paths.specs.Events.{Tell}
use Rattle.slice_paths.specs.Fronts.{taken_arm, front_of, way_behind, events_after, ShareFirst}
use Rattle.slice_paths.specs.Goals.{Goal, goals, pairs}
use Rattle.slice_paths.specs.Places.{first_way}
use Rattle.slice_paths.specs.Retraced.{part_in}
use Rattle.slice_paths.specs.declared.goal.GoalKind.{GoalKind}
use Rattle.slice_paths.specs.declared.goal.GoalKind.TheVariants.{Low, High, Envy}
use Rattle.slice_paths.specs.declared.goal.SkipFault.{SkipFault}
use Rattle.slice_paths.specs.declared.goal.SkipFault.TheVariants.{GoalLimit, Memory}

-- ---- parts

-- of how many parts the piece of that number is, by a list of all of them; one that was used, or isn't there, has none
abbrev pub part_count : List ℕ → ℕ → ℕ
part_count counts p = slice_index_or counts p 0

-- after a piece was used
abbrev pub used_counts : List ℕ → ℕ → List ℕ
used_counts counts p = slice_set counts p 0

-- after it was cut into pieces of so many parts
abbrev pub cut_counts : List ℕ → ℕ → ℕ → ℕ → List ℕ
cut_counts counts p left right = used_counts counts p ++ left ∷ right ∷ []

-- after it was joined with another one
abbrev pub join_counts : List ℕ → ℕ → ℕ → List ℕ
join_counts counts p q = used_counts (used_counts counts p) q ++ (part_count counts p + part_count (used_counts counts p) q) ∷ []

-- of how many parts all pieces are
abbrev pub all_parts : List ℕ → ℕ
all_parts [] = 0
all_parts (c ∷ cs) = c + all_parts cs

-- a sum over the parts of a piece in which it can be cut, so many of them behind so many others: what is summed depends on
-- how many parts the left piece and the right one then have
abbrev pub over_parts : (ℕ → ℕ → ℕ) → ℕ → ℕ → ℕ
over_parts number before zero = 0
over_parts number before (suc more) = number (before + 1) (suc more) + over_parts number (before + 1) more

-- ---- all goals

-- how many goals a tree has where the pieces are of so many parts: at a cut Low, High, and those that follow an answer in
-- each part; at an end one for each pair
abbrev pub goals_on : ℕ → Tree → List ℕ → ℕ
goals_on agents (Ask a p r next) counts = goals_on agents next counts
goals_on agents (Set r sum next) counts = goals_on agents next counts
goals_on agents (Cut a p amount l r next) counts = 2 + over_parts (λ left right. goals_on agents next (cut_counts counts p left right)) 0 (part_count counts p)
goals_on agents (Join p q r next) counts = goals_on agents next (join_counts counts p q)
goals_on agents (Test left right strict at_yes at_no) counts = goals_on agents at_yes counts + goals_on agents at_no counts
goals_on agents (Give p a next) counts = goals_on agents next (used_counts counts p)
goals_on agents End counts = length (pairs agents agents)

-- those of them that follow answers to a cut of the piece of that number, in its parts from one on
abbrev pub goals_in_parts : ℕ → Tree → List ℕ → ℕ → ℕ → ℕ
goals_in_parts agents next counts p from = over_parts (λ left right. goals_on agents next (cut_counts counts p left right)) from (part_count counts p - from)

-- ---- those behind one

-- how many choices are left to pass after one more
abbrev pub one_less : ℕ → ℕ
one_less zero = zero
one_less (suc more) = more

-- nothing where choices are still to be passed
abbrev pub once_passed : ℕ → ℕ → ℕ
once_passed zero n = n
once_passed (suc more) n = 0

-- by the part in which a cut is answered; or otherwise
abbrev pub by_part : Option ℕ → (ℕ → ℕ) → ℕ → ℕ
by_part None number other = other
by_part (Some part) number other = number part

-- behind Low or High of a cut, where so many goals follow an answer
abbrev pub left_at_cut : GoalKind → ℕ → ℕ
left_at_cut Low follow = 1 + follow
left_at_cut High follow = follow
left_at_cut (Envy a b) follow = 0

-- behind a pair at an end
abbrev pub left_at_end : ℕ → GoalKind → ℕ
left_at_end agents Low = 0
left_at_end agents High = 0
left_at_end agents (Envy a b) = length (pairs_from agents a (b + 1))

-- how many goals of a tree come behind the one of that kind to which these choices lead, and have the same first so many
-- passed choices
abbrev pub goals_left : (agents passed : ℕ) → Tree → List ℕ → List Choice → GoalKind → ℕ
goals_left agents passed (Ask a p r next) counts cs kind = goals_left agents passed next counts cs kind
goals_left agents passed (Set r sum next) counts cs kind = goals_left agents passed next counts cs kind
goals_left agents passed (Cut a p amount l r next) counts cs kind =
    by_part (part_in (part_count counts p) cs)
    (λ part.
    goals_left agents (one_less passed) next (cut_counts counts p (part + 1) (part_count counts p - part)) (drop (part + 1) cs) kind
    + once_passed passed (goals_in_parts agents next counts p (part + 1)))
    (left_at_cut kind (goals_in_parts agents next counts p 0))
goals_left agents passed (Join p q r next) counts cs kind = goals_left agents passed next (join_counts counts p q) cs kind
goals_left agents passed (Test left right strict at_yes at_no) counts cs kind =
    taken_arm
    (λ cs. goals_left agents (one_less passed) at_yes counts cs kind + once_passed passed (goals_on agents at_no counts))
    (λ cs. goals_left agents (one_less passed) at_no counts cs kind)
    0 cs
goals_left agents passed (Give p a next) counts cs kind = goals_left agents passed next (used_counts counts p) cs kind
goals_left agents passed End counts cs kind = left_at_end agents kind

-- the same of a core, whose cake is one part
abbrev pub goals_under : Core → ℕ → List Choice → GoalKind → ℕ
goals_under core passed trace kind = goals_left core.agents passed core.tree (1 ∷ []) trace kind

-- what counts to that total come to: it is within the goals that may be given, or it isn't, want of memory aside
abbrev pub IsCounted : ℕ → Result ℕ SkipFault → Type 0
IsCounted total (Ok n) = (n ≡ total) × (n ≤ 1000000)
IsCounted total (Err GoalLimit) = 1000000 < total
IsCounted total (Err Memory) = ⊤

-- ---- what that says of the goals

-- behind a goal come, in order, those that have its first so many passed choices, and then the others; these are told by
-- what comes up behind all that follows these choices
pub record PassesOver (core : Core) (passed : ℕ) (g : Goal) (later : List Goal) : Type 0 where
  pub way : way_behind passed core.tree [] (first_way core.agents) g.trace ≡ None → ⊥
  pub share : ShareFirst core passed g.trace later (goals_under core passed g.trace g.kind)
  pub tell : Tell (events_after core passed g.trace) (drop (goals_under core passed g.trace g.kind) later) (g.number + 1 + goals_under core passed g.trace g.kind)

abbrev pub SkipsPassOver : Type 0
SkipsPassOver =
    (core : Core) (passed : ℕ) (g : Goal) (later : List Goal) → drop g.number (goals core) ≡ g ∷ later → (front_of passed core.tree g.trace ≡ None → ⊥)
    → PassesOver core passed g later
