-- The first passed choices of a trace: the way behind them, its rows, and what comes up behind all that follows them. A cut
-- that was answered is one passed choice, whatever its part, and so is a test.
use Rattle.std.specs.Prelude.{◌≡◌, ◌≤◌, ℕ, zero, suc, Option, Some, None, List, [], ◌∷◌, ◌++◌, map, take, drop, length}
use Rattle.std.specs.List.{All}
use Rattle.slice_num.specs.Pieces.{piece_at, each_part}
use Rattle.slice_num.specs.declared.choice.Choice.{Choice}
use Rattle.slice_num.specs.declared.choice.Choice.TheVariants.{Go, Yes, No}
use Rattle.slice_core.specs.Tree.{Tree, Core, Ask, Set, Cut, Join, Test, Give, End}
use Rattle.slice_linear.specs.Rows.{LinearRow}
use Rattle.slice_atoms.specs.Addresses.{Address}
use Rattle.slice_atoms.specs.FormFits.{sub_fits}
use Rattle.slice_atoms.specs.Forms.{Form, piece_form, sub_form}
use Rattle.slice_paths.specs.Events.{Event, events, where_fit, cut_fits}
use Rattle.slice_paths.specs.Goals.{Goal, row_of}
use Rattle.slice_paths.specs.Places.{Way, sum_form, yes_kind, no_kind, first_way, ask_way, test_way, join_way, give_way, cut_way}

-- ---- choices

-- at a cut each No skips a part of the piece, and Go takes the next one; other choices answer no cut
abbrev pub answered_in : {R : Type 0} → (List Address → Address → List Address → List Choice → R) → R → List Address → List Address → List Choice → R
answered_in go other before (A ∷ after) (No ∷ cs) = answered_in go other (before ++ A ∷ []) after cs
answered_in go other before (A ∷ after) (Go ∷ cs) = go before A after cs
answered_in go other before parts cs = other

-- at a test the arm that is taken; other choices take none
abbrev pub taken_arm : {R : Type 0} → (List Choice → R) → (List Choice → R) → R → List Choice → R
taken_arm yes_arm no_arm other (Yes ∷ cs) = yes_arm cs
taken_arm yes_arm no_arm other (No ∷ cs) = no_arm cs
taken_arm yes_arm no_arm other cs = other

-- a choice before these, where they are there
abbrev pub with_first : Choice → Option (List Choice) → Option (List Choice)
with_first c None = None
with_first c (Some cs) = Some (c ∷ cs)

-- the choices through the answer to a cut: each No skips a part of the piece, and Go takes the next one
abbrev pub front_at_cut : (List Choice → Option (List Choice)) → List Choice → Option (List Choice)
front_at_cut on (No ∷ cs) = with_first No (front_at_cut on cs)
front_at_cut on (Go ∷ cs) = with_first Go (on cs)
front_at_cut on cs = None

-- and through a test
abbrev pub front_at_test : (List Choice → Option (List Choice)) → (List Choice → Option (List Choice)) → List Choice → Option (List Choice)
front_at_test yes_arm no_arm (Yes ∷ cs) = with_first Yes (yes_arm cs)
front_at_test yes_arm no_arm (No ∷ cs) = with_first No (no_arm cs)
front_at_test yes_arm no_arm cs = None

-- the choices of a trace through its first so many passed ones; none where it has fewer
abbrev pub front_of : ℕ → Tree → List Choice → Option (List Choice)
front_of zero tree cs = Some []
front_of (suc more) (Ask a p r next) cs = front_of (suc more) next cs
front_of (suc more) (Set r sum next) cs = front_of (suc more) next cs
front_of (suc more) (Cut a p amount l r next) cs = front_at_cut (front_of more next) cs
front_of (suc more) (Join p q r next) cs = front_of (suc more) next cs
front_of (suc more) (Test left right strict at_yes at_no) cs = front_at_test (front_of more at_yes) (front_of more at_no) cs
front_of (suc more) (Give p a next) cs = front_of (suc more) next cs
front_of (suc more) End cs = None

-- the goal has the same first so many passed choices as the trace (said of traces that have so many)
abbrev pub Shares : Core → ℕ → List Choice → Goal → Type 0
Shares core passed trace g = front_of passed core.tree g.trace ≡ front_of passed core.tree trace

-- of these goals in order the first so many have them, and no other does
abbrev pub ShareFirst : Core → ℕ → List Choice → List Goal → ℕ → Type 0
ShareFirst core passed trace gs count =
    (count ≤ length gs) × All (Shares core passed trace) (take count gs) × All (λ (g : Goal). Shares core passed trace g → ⊥) (drop count gs)

-- ---- the way behind so many passed choices

-- the way from this one, where the registers hold these forms, behind the first so many choices that are passed; none where
-- there are fewer
abbrev pub way_behind : ℕ → Tree → List Form → Way → List Choice → Option Way
way_behind zero tree regs k cs = Some k
way_behind (suc more) (Ask a p r next) regs k cs = way_behind (suc more) next (regs ++ piece_form a (piece_at k.pieces p) ∷ []) (ask_way k) cs
way_behind (suc more) (Set r sum next) regs k cs = way_behind (suc more) next (regs ++ sum_form regs sum.terms ∷ []) k cs
way_behind (suc more) (Cut a p amount l r next) regs k cs =
    answered_in (λ before A after. way_behind more next regs (cut_way a p (sum_form regs amount.terms) before A after k)) None [] (piece_at k.pieces p) cs
way_behind (suc more) (Join p q r next) regs k cs = way_behind (suc more) next regs (join_way p q k) cs
way_behind (suc more) (Test left right strict at_yes at_no) regs k cs =
    taken_arm
    (way_behind more at_yes regs (test_way (yes_kind strict) (sub_form (sum_form regs left.terms) (sum_form regs right.terms)) Yes k))
    (way_behind more at_no regs (test_way (no_kind strict) (sub_form (sum_form regs right.terms) (sum_form regs left.terms)) No k))
    None cs
way_behind (suc more) (Give p a next) regs k cs = way_behind (suc more) next regs (give_way p a k) cs
way_behind (suc more) End regs k cs = None

-- the rows of a way, without that of a goal
abbrev pub rows_on : ℕ → Way → List LinearRow
rows_on agents k = map (row_of agents k.cake) k.conditions

-- the rows of those of a way that is there
abbrev pub rows_where : ℕ → Option Way → Option (List LinearRow)
rows_where agents None = None
rows_where agents (Some k) = Some (rows_on agents k)

-- the rows of a core behind the first so many passed choices of a trace; none where it has fewer
abbrev pub cover_rows : Core → ℕ → List Choice → Option (List LinearRow)
cover_rows core passed trace = rows_where core.agents (way_behind passed core.tree [] (first_way core.agents) trace)

-- ---- what comes up behind all that follows them

-- what comes up after all that begins with the first so many passed choices: at a cut what follows an answer in a later
-- part, at the yes of a test its no
abbrev pub events_behind : ℕ → ℕ → Tree → List Form → Way → List Choice → List Event
events_behind agents zero tree regs k cs = []
events_behind agents (suc more) (Ask a p r next) regs k cs = events_behind agents (suc more) next (regs ++ piece_form a (piece_at k.pieces p) ∷ []) (ask_way k) cs
events_behind agents (suc more) (Set r sum next) regs k cs = events_behind agents (suc more) next (regs ++ sum_form regs sum.terms ∷ []) k cs
events_behind agents (suc more) (Cut a p amount l r next) regs k cs =
    answered_in (λ before A after cs.
    events_behind agents more next regs (cut_way a p (sum_form regs amount.terms) before A after k) cs
    ++ each_part (before ++ A ∷ []) after (λ b B c.
    where_fit (cut_fits agents a (sum_form regs amount.terms) b B k) (events agents next regs (cut_way a p (sum_form regs amount.terms) b B c k))))
    [] [] (piece_at k.pieces p) cs
events_behind agents (suc more) (Join p q r next) regs k cs = events_behind agents (suc more) next regs (join_way p q k) cs
events_behind agents (suc more) (Test left right strict at_yes at_no) regs k cs =
    taken_arm (λ cs.
    events_behind agents more at_yes regs (test_way (yes_kind strict) (sub_form (sum_form regs left.terms) (sum_form regs right.terms)) Yes k) cs
    ++ where_fit (sub_fits agents k.cake (sum_form regs right.terms) (sum_form regs left.terms))
    (events agents at_no regs (test_way (no_kind strict) (sub_form (sum_form regs right.terms) (sum_form regs left.terms)) No k)))
    (events_behind agents more at_no regs (test_way (no_kind strict) (sub_form (sum_form regs right.terms) (sum_form regs left.terms)) No k))
    [] cs
events_behind agents (suc more) (Give p a next) regs k cs = events_behind agents (suc more) next regs (give_way p a k) cs
events_behind agents (suc more) End regs k cs = []

-- what comes up after all that follows the first so many passed choices of a trace of a core
abbrev pub events_after : Core → ℕ → List Choice → List Event
events_after core passed trace = events_behind core.agents passed core.tree [] (first_way core.agents) trace
