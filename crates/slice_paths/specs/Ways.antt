-- The way that makes given choices.
use Rattle.std.specs.Prelude.{List, [], ◌∷◌, ◌++◌, map}
use Rattle.slice_num.specs.declared.choice.Choice.{Choice}
use Rattle.slice_num.specs.declared.choice.Choice.TheVariants.{Low, High, Go, Yes, No}
use Rattle.slice_core.specs.Tree.{Tree, Core, Ask, Set, Cut, Join, Test, Give, End}
use Rattle.slice_num.specs.Pieces.{piece_at}
use Rattle.slice_linear.specs.Rows.{LinearRow}
use Rattle.slice_atoms.specs.Addresses.{Address}
use Rattle.slice_atoms.specs.Forms.{Form, piece_form, sub_form}
use Rattle.slice_paths.specs.Goals.{row_of}
use Rattle.slice_paths.specs.Places.{Way, sum_form, yes_kind, no_kind, first_way, ask_way, choose_way, test_way, join_way, give_way, cut_way}

-- each No skips a part of the piece, and Go takes the next one
abbrev pub in_part : (List Address → Address → List Address → List Choice → Way) → Way → List Address → List Address → List Choice → Way
in_part go other before (A ∷ after) (No ∷ cs) = in_part go other (before ++ A ∷ []) after cs
in_part go other before (A ∷ after) (Go ∷ cs) = go before A after cs
in_part go other before parts cs = other

-- at a cut: stuck, or on
abbrev pub at_cut : (List Choice → Way) → Way → List Choice → Way
at_cut on k (Low ∷ cs) = choose_way (Low ∷ []) k
at_cut on k (High ∷ cs) = choose_way (High ∷ []) k
at_cut on k cs = on cs

-- at a test: the arm that is taken
abbrev pub at_test : (List Choice → Way) → (List Choice → Way) → Way → List Choice → Way
at_test yes_arm no_arm k (Yes ∷ cs) = yes_arm cs
at_test yes_arm no_arm k (No ∷ cs) = no_arm cs
at_test yes_arm no_arm k cs = k

-- the way that goes on from this one by the choices, where the registers hold these forms
abbrev pub way_by : Tree → List Form → Way → List Choice → Way
way_by (Ask a p r next) regs k cs = way_by next (regs ++ piece_form a (piece_at k.pieces p) ∷ []) (ask_way k) cs
way_by (Set r sum next) regs k cs = way_by next (regs ++ sum_form regs sum.terms ∷ []) k cs
way_by (Cut a p amount l r next) regs k cs =
    at_cut (in_part (λ before A after. way_by next regs (cut_way a p (sum_form regs amount.terms) before A after k)) k [] (piece_at k.pieces p)) k cs
way_by (Join p q r next) regs k cs = way_by next regs (join_way p q k) cs
way_by (Test left right strict at_yes at_no) regs k cs =
    at_test
    (way_by at_yes regs (test_way (yes_kind strict) (sub_form (sum_form regs left.terms) (sum_form regs right.terms)) Yes k))
    (way_by at_no regs (test_way (no_kind strict) (sub_form (sum_form regs right.terms) (sum_form regs left.terms)) No k))
    k cs
way_by (Give p a next) regs k cs = way_by next regs (give_way p a k) cs
way_by End regs k cs = k

-- the way of a core that makes these choices
abbrev pub way_of : Core → List Choice → Way
way_of core trace = way_by core.tree [] (first_way core.agents) trace

-- the rows that hold where these choices were made: those of a goal without its own
abbrev pub rows_after : Core → List Choice → List LinearRow
rows_after core trace = map (row_of core.agents (way_of core trace).cake) (way_of core trace).conditions
