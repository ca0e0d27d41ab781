-- The places where a run of a core can end, depth first, with the conditions on the way to each.
use Rattle.std.specs.Prelude.{ℕ, zero, suc, ◌+◌, ◌-◌, pos, Bool, true, false, if◌then◌else◌, List, [], ◌∷◌, ◌++◌, length, replicate, slice_index_or, Option, Some, None}
use Rattle.slice_num.specs.Rational.{Rational, whole}
use Rattle.slice_num.specs.declared.choice.Side.{Side}
use Rattle.slice_num.specs.declared.choice.Side.TheVariants as side
use Rattle.slice_num.specs.declared.choice.Choice.{Choice}
use Rattle.slice_num.specs.declared.choice.Choice.TheVariants as choice
use Rattle.slice_core.specs.Tree.{Tree, Ask, Set, Cut, Join, Test, Give, End}
use Rattle.slice_num.specs.Pieces.{piece_at, emptied, given, cut_pieces, join_pieces, each_part, passed}
use Rattle.slice_core.specs.declared.node.LinTerm.{LinTerm}
use Rattle.slice_core.specs.declared.node.Source.{Source}
use Rattle.slice_core.specs.declared.node.Source.TheVariants.{Const, Reg}
use Rattle.slice_linear.specs.declared.row.RowKind.{RowKind}
use Rattle.slice_linear.specs.declared.row.RowKind.TheVariants.{Zero, AtLeast, Above}
use Rattle.slice_atoms.specs.Addresses.{Address, Cake, Atom, halved, left_of, right_of}
use Rattle.slice_atoms.specs.Forms.{Form, fixed_form, piece_form, add_form, sub_form, scale_form}

-- ---- sums of a core, over forms

abbrev pub source_form : List Form → Source → Form
source_form regs (Const c) = fixed_form c
source_form regs (Reg n) = slice_index_or regs n (fixed_form (whole (pos 0)))

-- a form, maybe times a factor
abbrev pub scaled_form : Option Rational → Form → Form
scaled_form None f = f
scaled_form (Some c) f = scale_form c f

-- a term is added to a sum, or subtracted
abbrev pub added_form : Bool → Form → Form → Form
added_form true sum f = sub_form sum f
added_form false sum f = add_form sum f

abbrev pub term_form : List Form → LinTerm → Form
term_form regs t = scaled_form t.factor (source_form regs t.source)

-- the terms are added to a sum, one after another
abbrev pub terms_form : List Form → Form → List LinTerm → Form
terms_form regs sum [] = sum
terms_form regs sum (t ∷ ts) = terms_form regs (added_form t.minus sum (term_form regs t)) ts

-- a sum; its first term has no sign
abbrev pub sum_form : List Form → List LinTerm → Form
sum_form regs [] = fixed_form (whole (pos 0))
sum_form regs (t ∷ ts) = terms_form regs (term_form regs t) ts

-- ---- ways

-- a form, and what it has to come to: 0, at least 0, or above 0
pub record Condition : Type 0 where
  pub kind : RowKind
  pub form : Form

-- a cut that was passed: the number of the part in its piece, from 0, and the part's address
pub record PassedCut : Type 0 where
  pub part : ℕ
  pub address : Address

-- one way that a run can go: the pieces by number and the shares by agent, each with its parts; the cake as it was cut;
-- what holds of the agents' values if a run goes so; how many queries were answered; the cuts among them; and the choices
-- so far
pub record Way : Type 0 where
  pub pieces : List (List Address)
  pub shares : List (List Address)
  pub cake : Cake
  pub conditions : List Condition
  pub queries : ℕ
  pub cuts : List PassedCut
  pub trace : List Choice

-- the agent's values of all atoms make up the whole
abbrev pub whole_condition : ℕ → Condition
whole_condition a = record { kind = Zero; form = sub_form (piece_form a ([] ∷ [])) (fixed_form (whole (pos 1))) }

abbrev pub whole_conditions : ℕ → List Condition
whole_conditions zero = []
whole_conditions (suc n) = whole_conditions n ++ whole_condition (suc n) ∷ []

-- what holds on every way: the whole is above 0, and each agent's values make it up
abbrev pub first_conditions : ℕ → List Condition
first_conditions agents = record { kind = Above; form = fixed_form (whole (pos 1)) } ∷ whole_conditions agents

-- before anything was done: the whole cake as piece 0, no shares yet
abbrev pub first_way : ℕ → Way
first_way agents = record {
  pieces = ([] ∷ []) ∷ [];
  shares = replicate agents [];
  cake = Atom;
  conditions = first_conditions agents;
  queries = 0;
  cuts = [];
  trace = [];
}

-- an agent was asked
abbrev pub ask_way : Way → Way
ask_way k = record k { queries = k.queries + 1 }

-- these choices were made
abbrev pub choose_way : List Choice → Way → Way
choose_way cs k = record k { trace = k.trace ++ cs }

-- a choice was made, and the condition holds
abbrev pub test_way : RowKind → Form → Choice → Way → Way
test_way kind f c k = record k { conditions = k.conditions ++ record { kind = kind; form = f } ∷ []; trace = k.trace ++ c ∷ [] }

-- the two pieces became one
abbrev pub join_way : ℕ → ℕ → Way → Way
join_way p q k = record k { pieces = join_pieces k.pieces p q }

-- the piece of number p went to the agent
abbrev pub give_way : ℕ → ℕ → Way → Way
give_way p a k = record k { pieces = emptied k.pieces p; shares = given k.shares (a - 1) (piece_at k.pieces p) }

-- the agent cut the piece of number p in its part A, which comes after the parts `before`: the left piece is worth the
-- amount
abbrev pub cut_way : ℕ → ℕ → Form → List Address → Address → List Address → Way → Way
cut_way a p amount before A after k = record {
  pieces = cut_pieces k.pieces p (before ++ left_of A ∷ []) (right_of A ∷ after);
  shares = k.shares;
  cake = halved A k.cake;
  conditions = k.conditions ++ record { kind = Zero; form = sub_form (piece_form a (before ++ left_of A ∷ [])) amount } ∷ [];
  queries = k.queries + 1;
  cuts = k.cuts ++ record { part = length before; address = A } ∷ [];
  trace = k.trace ++ passed before;
}

-- ---- places

-- how a run ends at a place: at its end; or stuck at a cut, with the form that is above 0 then
pub data Stop : Type 0 where
  AtEnd : Stop
  AtCut : (at : Side) (own : Form) → Stop

pub record Place : Type 0 where
  pub stop : Stop
  pub way : Way

-- stuck, as the amount is below 0
abbrev pub low_place : Form → Way → Place
low_place amount k = record { stop = AtCut side.Low (sub_form (fixed_form (whole (pos 0))) amount); way = choose_way (choice.Low ∷ []) k }

-- stuck, as the amount is above what the piece is worth to the agent
abbrev pub high_place : ℕ → ℕ → Form → Way → Place
high_place a p amount k = record { stop = AtCut side.High (sub_form amount (piece_form a (piece_at k.pieces p))); way = choose_way (choice.High ∷ []) k }

-- what `left minus right` is at yes, and `right minus left` at no
abbrev pub yes_kind : Bool → RowKind
yes_kind strict = if strict then Above else AtLeast

abbrev pub no_kind : Bool → RowKind
no_kind strict = if strict then AtLeast else Above

-- the places that follow, where the registers hold these forms: at a cut Low, High, and what follows an answer in each
-- part of the piece in order; at a test yes before no
abbrev pub places : Tree → List Form → Way → List Place
places (Ask a p r next) regs k = places next (regs ++ piece_form a (piece_at k.pieces p) ∷ []) (ask_way k)
places (Set r sum next) regs k = places next (regs ++ sum_form regs sum.terms ∷ []) k
places (Cut a p amount l r next) regs k =
    low_place (sum_form regs amount.terms) k
    ∷ high_place a p (sum_form regs amount.terms) k
    ∷ each_part [] (piece_at k.pieces p) (λ before A after. places next regs (cut_way a p (sum_form regs amount.terms) before A after k))
places (Join p q r next) regs k = places next regs (join_way p q k)
places (Test left right strict at_yes at_no) regs k =
    places at_yes regs (test_way (yes_kind strict) (sub_form (sum_form regs left.terms) (sum_form regs right.terms)) choice.Yes k)
    ++ places at_no regs (test_way (no_kind strict) (sub_form (sum_form regs right.terms) (sum_form regs left.terms)) choice.No k)
places (Give p a next) regs k = places next regs (give_way p a k)
places End regs k = record { stop = AtEnd; way = k } ∷ []
