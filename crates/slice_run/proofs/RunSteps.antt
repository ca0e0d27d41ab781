-- A cut of a run, as it is answered.
use Rattle.std.proofs.Common.{◌≡◌, ◌∙◌, ℕ, ◌+◌, ◌++◌, ◌∷◌, List, [], length, pos, Bool, true, false, ap, sym, subst}
use Rattle.std.specs.Prelude.{⊤, if◌then◌else◌}
use Rattle.slice_num.specs.Rational.{Rational, whole}
use Rattle.slice_num.specs.Fitting.{below}
use Rattle.slice_num.specs.declared.choice.Side.TheVariants as side
use Rattle.slice_num.specs.declared.choice.Choice.{Choice}
use Rattle.slice_num.specs.declared.choice.Choice.TheVariants as choice
use Rattle.slice_core.specs.Tree.{Tree, Ask, Set, Cut, Join, Test, Give, End}
use Rattle.slice_num.specs.Pieces.{piece_at}
use Rattle.slice_core.specs.Run.{Piece, Board, ask_on, join_on, give_on, Worth, State, Ending, Done, Stuck, Few, Bad, Many, with_board, chosen, goes_yes, halted, sum_value, cut_at, run}
use Rattle.slice_core.proofs.CutLaws.{cut_part, cut_answered, cut_cases, cut_at-is}
use Rattle.slice_num.specs.declared.cut_answer.CutAnswer.{CutAnswer}
use Rattle.slice_core.proofs.Endings.{choose, ended_by, cut_by, cut_state, GoesOn}
use Rattle.slice_num.proofs.Parts.{part_by, part_at}
use Rattle.slice_run.specs.RunLaws.{IsBad}
use Rattle.slice_step.specs.Exact.{IsWrong, IsLeastAnswer}
use Rattle.slice_step.proofs.LeastAnswer.{least_right, right_within}
use Rattle.slice_run.proofs.Ordered.{AllOrdered}
use Rattle.slice_run.proofs.Sound.{Sound, sound_ask, sound_set, sound_cut, sound_join, sound_yes, sound_no, sound_give}

-- what lies on a table, the answers that are left and the choices so far
abbrev pub state : Board → List CutAnswer → List Choice → State
state b ys trace = record { board = b; answers = ys; trace = trace }

pub run_low : (w : Piece → Rational) (a p : ℕ) (amount : Rational) (go : State → Ending) (s : State) → below amount (whole (pos 0)) ≡ true → cut_at w a p amount go s ≡ halted side.Low s
run_low w a p amount go s e = rw e

pub run_high : (w : Piece → Rational) (a p : ℕ) (amount : Rational) (go : State → Ending) (s : State) → below amount (whole (pos 0)) ≡ false → below (w (piece_at s.board.pieces p)) amount ≡ true
    → cut_at w a p amount go s ≡ halted side.High s
run_high w a p amount go s e f = rw (e, f)

open_cases : (w : Piece → Rational) (a p : ℕ) (amount : Rational) (go : State → Ending) (s : State) → below amount (whole (pos 0)) ≡ false → below (w (piece_at s.board.pieces p)) amount ≡ false
    → cut_cases w a p amount go s ≡ cut_answered w a p amount go s s.answers
open_cases w a p amount go s e f = rw (e, f)

pub run_open : (w : Piece → Rational) (a p : ℕ) (amount : Rational) (go : State → Ending) (s : State) → below amount (whole (pos 0)) ≡ false → below (w (piece_at s.board.pieces p)) amount ≡ false
    → cut_at w a p amount go s ≡ cut_answered w a p amount go s s.answers
run_open w a p amount go s e f = cut_at-is w a p amount go s ∙ open_cases w a p amount go s e f

-- a cut that has a right answer
pub record IsOpen (w : Piece → Rational) (p : ℕ) (amount : Rational) (b : Board) : Type 0 where
  pub low : below amount (whole (pos 0)) ≡ false
  pub high : below (w (piece_at b.pieces p)) amount ≡ false

pub run_past : (w : Piece → Rational) (a p : ℕ) (amount : Rational) (go : State → Ending) (b : Board) (y : CutAnswer) (ys : List CutAnswer) (trace : List Choice) (l : IsLeastAnswer w (piece_at b.pieces p) amount y) → IsOpen w p amount b
    → cut_at w a p amount go (state b (y ∷ ys) trace) ≡ go (cut_state a p amount y ys l.before l.here l.after (state b (y ∷ ys) trace))
run_past w a p amount go b y ys trace l o =
    run_open w a p amount go (state b (y ∷ ys) trace) o.low o.high
    ∙ part_at (piece_at b.pieces p) l.before l.here l.after y.part (Bad (length b.queries)) (cut_part w a p amount y ys go (state b (y ∷ ys) trace)) l.parts l.number
    ∙ ap (λ (t : Bool). if t then go (cut_state a p amount y ys l.before l.here l.after (state b (y ∷ ys) trace)) else Bad (length b.queries)) (least_right w (piece_at b.pieces p) amount y l)

pub bad_along : (e f : Ending) → e ≡ f → IsBad f → IsBad e
bad_along e f q k = subst IsBad (sym q) k

pub run_wrong : (w : Piece → Rational) (a p : ℕ) (amount : Rational) (go : State → Ending) (b : Board) (z : CutAnswer) (zs : List CutAnswer) (trace : List Choice) → IsWrong w (piece_at b.pieces p) amount z → IsOpen w p amount b
    → IsBad (cut_at w a p amount go (state b (z ∷ zs) trace))
run_wrong w a p amount go b z zs trace wrong o =
    bad_along _ _ (run_open w a p amount go (state b (z ∷ zs) trace) o.low o.high)
    (part_by IsBad [] (piece_at b.pieces p) z.part (Bad (length b.queries)) (cut_part w a p amount z zs go (state b (z ∷ zs) trace)) tt
    (λ before i after parts number.
    subst (λ (t : Bool). IsBad (if t then go (cut_state a p amount z zs before i after (state b (z ∷ zs) trace)) else Bad (length b.queries))) (sym (wrong before i after parts number)) tt))

-- ---- the shares of a run that is done stand in order
abbrev pub OrderedEnd : Ending → Type 0
OrderedEnd (Done s) = AllOrdered s.board.shares
OrderedEnd (Stuck at s) = ⊤
OrderedEnd (Few query) = ⊤
OrderedEnd (Bad query) = ⊤
OrderedEnd Many = ⊤

pub run_ordered : (w : Worth) (agents count : ℕ) (tree : Tree) (regs : List Rational) (s : State) → Sound agents count tree s.board → OrderedEnd (run w tree regs s)
unfolding GoesOn
run_ordered w agents count (Ask a p r next) regs s h =
    let v = w a (piece_at s.board.pieces p) in
    run_ordered w agents (count + 1) next (regs ++ v ∷ []) (with_board (ask_on a v s.board) s) (sound_ask agents count a p r next s.board v h)
run_ordered w agents count (Set r sum next) regs s h = run_ordered w agents (count + 1) next (regs ++ sum_value regs sum.terms ∷ []) s (sound_set agents count r sum next s.board h)
run_ordered w agents count (Cut a p amount l r next) regs s h =
    let share = sum_value regs amount.terms in
    cut_by OrderedEnd (w a) a p share (run w next regs) s (λ k. tt) (λ k. tt) tt (λ at halt. tt)
    (λ y ys before i after k.
    let ends = right_within (w a) before i y.point share k.right in
    run_ordered w agents count next regs (cut_state a p share y ys before i after s) (sound_cut agents count a p amount l r next s.board share y before i after h k.parts ends.0 ends.1))
run_ordered w agents count (Join p q r next) regs s h = run_ordered w agents count next regs (with_board (join_on p q s.board) s) (sound_join agents count p q r next s.board h)
run_ordered w agents count (Test left right strict at_yes at_no) regs s h =
    choose OrderedEnd (goes_yes strict (sum_value regs left.terms) (sum_value regs right.terms)) _ _
    (λ e. run_ordered w agents count at_yes regs (chosen (choice.Yes ∷ []) s) (sound_yes agents count left right strict at_yes at_no s.board h))
    (λ e. run_ordered w agents count at_no regs (chosen (choice.No ∷ []) s) (sound_no agents count left right strict at_yes at_no s.board h))
run_ordered w agents count (Give p a next) regs s h = run_ordered w agents count next regs (with_board (give_on p a s.board) s) (sound_give agents count p a next s.board h)
run_ordered w agents count End regs s h = ended_by OrderedEnd (Done s) s.answers h.shares tt
