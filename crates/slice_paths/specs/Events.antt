-- What the goals of a core tell one after another, where numbers may not fit.
use Rattle.std.specs.Prelude.{ℕ, ◌≡◌, ◌+◌, ◌-◌, ◌&&◌, nat_lt, pos, Bool, true, false, if◌then◌else◌, List, [], ◌∷◌, ◌++◌, map, Option, Some, None, ⊤}
use Rattle.slice_num.specs.Rational.{Rational, whole}
use Rattle.slice_num.specs.declared.choice.Choice.{Choice}
use Rattle.slice_num.specs.declared.choice.Choice.TheVariants as choice
use Rattle.slice_core.specs.Tree.{Tree, Core, Ask, Set, Cut, Join, Test, Give, End}
use Rattle.slice_num.specs.Pieces.{piece_at, each_part}
use Rattle.slice_core.specs.declared.node.LinTerm.{LinTerm}
use Rattle.slice_linear.specs.Rows.{LinearRow}
use Rattle.slice_linear.specs.LowestRow.{lowest_fits}
use Rattle.slice_linear.specs.declared.row.RowKind.TheVariants.{Above}
use Rattle.slice_atoms.specs.Addresses.{Address, Cake, halved, left_of}
use Rattle.slice_atoms.specs.Forms.{Form, fixed_form, piece_form, sub_form, all_coefs}
use Rattle.slice_atoms.specs.FormFits.{add_fits, sub_fits, scale_fits}
use Rattle.slice_paths.specs.Places.{Condition, Way, source_form, term_form, added_form, sum_form, first_way, ask_way, choose_way, cut_way, test_way, join_way, give_way, yes_kind, no_kind}
use Rattle.slice_paths.specs.Goals.{Goal, rows_of, pairs, goals}
use Rattle.slice_paths.specs.declared.goal.GoalKind.{GoalKind}
use Rattle.slice_paths.specs.declared.goal.GoalKind.TheVariants as goal_kind

-- ---- whether the numbers of the forms on a way fit, at the atoms of the moment

-- a form, maybe times a factor
abbrev pub scaled_fits : ℕ → Cake → Option Rational → Form → Bool
scaled_fits agents cake None f = true
scaled_fits agents cake (Some c) f = scale_fits agents cake c f

abbrev pub term_fits : ℕ → Cake → List Form → LinTerm → Bool
term_fits agents cake regs t = scaled_fits agents cake t.factor (source_form regs t.source)

-- a term is added to a sum, or subtracted
abbrev pub added_fits : ℕ → Cake → Bool → Form → Form → Bool
added_fits agents cake true sum f = sub_fits agents cake sum f
added_fits agents cake false sum f = add_fits agents cake sum f

abbrev pub terms_fit : ℕ → Cake → List Form → Form → List LinTerm → Bool
terms_fit agents cake regs sum [] = true
terms_fit agents cake regs sum (t ∷ ts) =
    term_fits agents cake regs t
    && (added_fits agents cake t.minus sum (term_form regs t) && terms_fit agents cake regs (added_form t.minus sum (term_form regs t)) ts)

abbrev pub sum_fits : ℕ → Cake → List Form → List LinTerm → Bool
sum_fits agents cake regs [] = true
sum_fits agents cake regs (t ∷ ts) = term_fits agents cake regs t && terms_fit agents cake regs (term_form regs t) ts

-- ---- events

-- a goal but for its number, and whether the numbers of its rows fit
pub record Found : Type 0 where
  pub trace : List Choice
  pub kind : GoalKind
  pub query : ℕ
  pub rows : List LinearRow
  pub fit : Bool

-- what comes up next: a goal; or a form on the way, one of whose numbers doesn't fit
pub data Event : Type 0 where
  Meets : (found : Found) → Event
  Breaks : Event

abbrev pub row_fits : ℕ → Cake → Condition → Bool
row_fits agents cake c = lowest_fits (all_coefs agents cake c.form)

abbrev pub rows_fit : ℕ → Cake → List Condition → Bool
rows_fit agents cake [] = true
rows_fit agents cake (c ∷ cs) = row_fits agents cake c && rows_fit agents cake cs

-- a goal whose own form is the difference of these two; the difference is made with the goal's rows
abbrev pub found : ℕ → Way → GoalKind → Form → Form → Found
found agents k kind f g = record {
  trace = k.trace;
  kind = kind;
  query = k.queries;
  rows = rows_of agents k (sub_form f g);
  fit = sub_fits agents k.cake f g && rows_fit agents k.cake (k.conditions ++ record { kind = Above; form = sub_form f g } ∷ []);
}

-- what follows where the numbers fit
abbrev pub where_fit : Bool → List Event → List Event
where_fit true es = es
where_fit false es = Breaks ∷ []

-- the goals at a cut: stuck as the amount is below 0, and as it is above what the piece is worth
abbrev pub low_goal : ℕ → Form → Way → Event
low_goal agents amount k = Meets (found agents (choose_way (choice.Low ∷ []) k) goal_kind.Low (fixed_form (whole (pos 0))) amount)

abbrev pub high_goal : ℕ → ℕ → ℕ → Form → Way → Event
high_goal agents a p amount k = Meets (found agents (choose_way (choice.High ∷ []) k) goal_kind.High amount (piece_form a (piece_at k.pieces p)))

-- the goals at an end: each pair's envy
abbrev pub envy_goal : ℕ → Way → ℕ × ℕ → Event
envy_goal agents k p = Meets (found agents k (goal_kind.Envy p.0 p.1) (piece_form p.0 (piece_at k.shares (p.1 - 1))) (piece_form p.0 (piece_at k.shares (p.0 - 1))))

-- a cut that is answered in that part of the piece
abbrev pub cut_fits : ℕ → ℕ → Form → List Address → Address → Way → Bool
cut_fits agents a amount before A k = sub_fits agents (halved A k.cake) (piece_form a (before ++ left_of A ∷ [])) amount

-- what comes up from here on, in the order of places. A form is made where it is met, over the atoms of the moment: that
-- of a passed choice when it is passed, over the atoms behind it
abbrev pub events : ℕ → Tree → List Form → Way → List Event
events agents (Ask a p r next) regs k = events agents next (regs ++ piece_form a (piece_at k.pieces p) ∷ []) (ask_way k)
events agents (Set r sum next) regs k =
    where_fit (sum_fits agents k.cake regs sum.terms) (events agents next (regs ++ sum_form regs sum.terms ∷ []) k)
events agents (Cut a p amount l r next) regs k =
    where_fit (sum_fits agents k.cake regs amount.terms)
    (low_goal agents (sum_form regs amount.terms) k
    ∷ high_goal agents a p (sum_form regs amount.terms) k
    ∷ each_part [] (piece_at k.pieces p) (λ before A after.
    where_fit (cut_fits agents a (sum_form regs amount.terms) before A k)
    (events agents next regs (cut_way a p (sum_form regs amount.terms) before A after k))))
events agents (Join p q r next) regs k = events agents next regs (join_way p q k)
events agents (Test left right strict at_yes at_no) regs k =
    where_fit (sum_fits agents k.cake regs left.terms && sum_fits agents k.cake regs right.terms)
    (where_fit (sub_fits agents k.cake (sum_form regs left.terms) (sum_form regs right.terms))
    (events agents at_yes regs (test_way (yes_kind strict) (sub_form (sum_form regs left.terms) (sum_form regs right.terms)) choice.Yes k))
    ++ where_fit (sub_fits agents k.cake (sum_form regs right.terms) (sum_form regs left.terms))
    (events agents at_no regs (test_way (no_kind strict) (sub_form (sum_form regs right.terms) (sum_form regs left.terms)) choice.No k)))
events agents (Give p a next) regs k = events agents next regs (give_way p a k)
events agents End regs k = map (envy_goal agents k) (pairs agents agents)

abbrev pub events_of : Core → List Event
events_of core = events core.agents core.tree [] (first_way core.agents)

-- ---- answers

-- so many goals may be given
abbrev pub goal_limit : ℕ
goal_limit = 1000000

-- what a call answers, where so many goals were given before: the next goal, and what is ahead then; none; a number that
-- doesn't fit; or one goal too many
pub data NextGoal : Type 0 where
  Gives : (goal : Goal) (ahead : List Event) → NextGoal
  NoMore : NextGoal
  Overflows : NextGoal
  OverLimit : NextGoal

abbrev pub goal_at : ℕ → Found → Goal
goal_at number t = record { number = number; trace = t.trace; kind = t.kind; query = t.query; rows = t.rows }

-- the limit comes after the forms of the way to a goal, and before its rows
abbrev pub next_goal : List Event → ℕ → NextGoal
next_goal [] given = NoMore
next_goal (Breaks ∷ es) given = Overflows
next_goal (Meets t ∷ es) given = if nat_lt given goal_limit then (if t.fit then Gives (goal_at given t) es else Overflows) else OverLimit

-- a stream of goals: what is ahead, and how many goals were given
pub record Stream : Type 0 where
  pub ahead : List Event
  pub given : ℕ

-- ---- what they tell

-- the events tell these goals as they come, up to the first number that doesn't fit; without one, all of them
abbrev pub Tell : List Event → List Goal → ℕ → Type 0
Tell [] gs number = gs ≡ []
Tell (Breaks ∷ es) gs number = ⊤
Tell (Meets t ∷ es) [] number = ⊥
Tell (Meets t ∷ es) (g ∷ gs) number = (g ≡ goal_at number t) × Tell es gs (number + 1)

-- the events of a core tell its goals
abbrev pub EventsTellGoals : Type 0
EventsTellGoals = (core : Core) → Tell (events_of core) (goals core) 0
