-- A run that was answered rightly so far can be brought to its end: at each cut that is still to be answered the least right answer
-- is taken.
use Rattle.std.proofs.Common.{◌≡◌, ◌∙◌, ℕ, ◌+◌, ◌++◌, ◌∷◌, List, [], length, pos, Bool, true, false, refl, ap, sym, subst}
use Rattle.std.specs.List.{All}
use Rattle.std.specs.Prelude.{⊤, if◌then◌else◌}
use Rattle.slice_num.specs.Rational.{Rational, whole}
use Rattle.slice_num.specs.Fitting.{below}
use Rattle.slice_num.specs.Pieces.{piece_at}
use Rattle.slice_num.specs.Valuation.{Valuation, IsValuation, IsValuationList}
use Rattle.slice_num.specs.declared.choice.Choice.{Choice}
use Rattle.slice_num.specs.declared.choice.Choice.TheVariants as choice
use Rattle.slice_num.specs.declared.choice.Side.{Side}
use Rattle.slice_num.specs.declared.choice.Side.TheVariants as side
use Rattle.slice_num.specs.declared.cut_answer.CutAnswer.{CutAnswer}
use Rattle.slice_num.specs.declared.interval.Interval.{Interval}
use Rattle.slice_num.proofs.Parts.{part_by, part_at}
use Rattle.slice_core.specs.Measures.{worth_of, length_of}
use Rattle.slice_core.specs.Run.{Piece, Board, first_board, ask_on, join_on, give_on, Worth, State, Ending, Done, Stuck, Few, Bad, Many, is_right, halted, goes_yes, sum_value, cut_at, run}
use Rattle.slice_core.specs.Tree.{Core, Tree, Ask, Set, Cut, Join, Test, Give, End}
use Rattle.slice_core.specs.WellFormed.{IsWellFormed}
use Rattle.slice_core.proofs.CutLaws.{cut_part, cut_answered, cut_at-is}
use Rattle.slice_core.proofs.Endings.{choose, ended_by, cut_state}
use Rattle.slice_core.proofs.FormedLaws.{core_formed}
use Rattle.slice_step.proofs.LeastAnswer.{right_within}
use Rattle.slice_run.specs.RunLaws.{run_on}
use Rattle.slice_run.proofs.Follows.{IsOver, follows}
use Rattle.slice_run.proofs.RunSteps.{state, IsOpen, run_low, run_high, run_open}
use Rattle.slice_run.proofs.Sound.{Sound, sound_first, sound_ask, sound_set, sound_cut, sound_join, sound_yes, sound_no, sound_give}

-- `goes` tells how a run that ends so goes with more answers: where it wants one, some answers bring it to its end, or to a cut that
-- has no right one
abbrev pub CanEnd : Ending → (List CutAnswer → Ending) → Type 0
CanEnd (Done s) goes = ⊤
CanEnd (Stuck at s) goes = ⊤
CanEnd (Few query) goes = (more : List CutAnswer) × IsOver (goes more)
CanEnd (Bad query) goes = ⊤
CanEnd Many goes = ⊤

along : (e : Ending) (f g : List CutAnswer → Ending) → ((more : List CutAnswer) → g more ≡ f more) → CanEnd e f → CanEnd e g
along (Done s) f g h k = tt
along (Stuck at s) f g h k = tt
along (Few query) f g h k = (k.0, subst IsOver (sym (h k.0)) k.1)
along (Bad query) f g h k = tt
along Many f g h k = tt

choose_ends : (t : Bool) (x y : Ending) (f g : List CutAnswer → Ending) → CanEnd x f → CanEnd y g → CanEnd (if t then x else y) (λ more. if t then f more else g more)
choose_ends true x y f g h k = h
choose_ends false x y f g h k = k

-- ---- a cut
-- the run goes on after each right answer
abbrev GoesPast : (Piece → Rational) → ℕ → ℕ → Rational → (State → Ending) → Board → List Choice → Type 0
GoesPast w a p amount go b trace =
    (y : CutAnswer) (ys : List CutAnswer) (before : Piece) (i : Interval) (after : Piece) → piece_at b.pieces p ≡ before ++ i ∷ after → is_right w before i y.point amount ≡ true
    → CanEnd (go (cut_state a p amount y ys before i after (state b (y ∷ ys) trace))) (λ more. go (cut_state a p amount y (ys ++ more) before i after (state b (y ∷ ys ++ more) trace)))

-- a right answer is taken
run_right : (w : Piece → Rational) (a p : ℕ) (amount : Rational) (go : State → Ending) (b : Board) (trace : List Choice) → IsOpen w p amount b → (y : CutAnswer) (ys : List CutAnswer) (before : Piece) (i : Interval) (after : Piece)
    → piece_at b.pieces p ≡ before ++ i ∷ after → y.part ≡ length before → is_right w before i y.point amount ≡ true
    → cut_at w a p amount go (state b (y ∷ ys) trace) ≡ go (cut_state a p amount y ys before i after (state b (y ∷ ys) trace))
run_right w a p amount go b trace o y ys before i after parts number right =
    run_open w a p amount go (state b (y ∷ ys) trace) o.low o.high
    ∙ part_at (piece_at b.pieces p) before i after y.part (Bad (length b.queries)) (cut_part w a p amount y ys go (state b (y ∷ ys) trace)) parts number
    ∙ ap (λ (t : Bool). if t then go (cut_state a p amount y ys before i after (state b (y ∷ ys) trace)) else Bad (length b.queries)) right

-- some answers bring the run to its end from the cut on
abbrev HasEnd : (Piece → Rational) → ℕ → ℕ → Rational → (State → Ending) → Board → List Choice → Type 0
HasEnd w a p amount go b trace = (more : List CutAnswer) × IsOver (cut_at w a p amount go (state b more trace))

open_ends : (w : Piece → Rational) (a p : ℕ) (amount : Rational) (go : State → Ending) (b : Board) (trace : List Choice) → IsOpen w p amount b → HasEnd w a p amount go b trace → GoesPast w a p amount go b trace
    → (ys : List CutAnswer) → CanEnd (cut_answered w a p amount go (state b ys trace) ys) (λ more. cut_at w a p amount go (state b (ys ++ more) trace))
open_ends w a p amount go b trace o some past [] = some
open_ends w a p amount go b trace o some past (y ∷ ys) =
    let goes = λ (more : List CutAnswer). cut_at w a p amount go (state b (y ∷ ys ++ more) trace) in
    part_by (λ (e : Ending). CanEnd e goes) [] (piece_at b.pieces p) y.part (Bad (length b.queries)) (cut_part w a p amount y ys go (state b (y ∷ ys) trace)) tt
    (λ before i after parts number.
    choose (λ (e : Ending). CanEnd e goes) (is_right w before i y.point amount) (go (cut_state a p amount y ys before i after (state b (y ∷ ys) trace))) (Bad (length b.queries))
    (λ right.
    along (go (cut_state a p amount y ys before i after (state b (y ∷ ys) trace))) (λ more. go (cut_state a p amount y (ys ++ more) before i after (state b (y ∷ ys ++ more) trace))) goes
    (λ more. run_right w a p amount go b trace o y (ys ++ more) before i after parts number right) (past y ys before i after parts right))
    (λ wrong. tt))

cut_ends : (w : Piece → Rational) (a p : ℕ) (amount : Rational) (go : State → Ending) (b : Board) (trace : List Choice) → HasEnd w a p amount go b trace → GoesPast w a p amount go b trace
    → (ys : List CutAnswer) → CanEnd (cut_at w a p amount go (state b ys trace)) (λ more. cut_at w a p amount go (state b (ys ++ more) trace))
cut_ends w a p amount go b trace some past ys = by (below amount (whole (pos 0))) refl (below (w (piece_at b.pieces p)) amount) refl
  where
    goes : List CutAnswer → Ending
    goes more = cut_at w a p amount go (state b (ys ++ more) trace)

    halt : (at : Side) → CanEnd (halted at (state b ys trace)) goes
    halt at = ended_by (λ (e : Ending). CanEnd e goes) (Stuck at _) ys tt tt

    by : (low : Bool) → below amount (whole (pos 0)) ≡ low → (high : Bool) → below (w (piece_at b.pieces p)) amount ≡ high → CanEnd (cut_at w a p amount go (state b ys trace)) goes
    by true e high f = subst (λ (x : Ending). CanEnd x goes) (sym (run_low w a p amount go (state b ys trace) e)) (halt side.Low)
    by false e true f = subst (λ (x : Ending). CanEnd x goes) (sym (run_high w a p amount go (state b ys trace) e f)) (halt side.High)
    by false e false f =
        subst (λ (x : Ending). CanEnd x goes) (sym (run_open w a p amount go (state b ys trace) e f))
        (open_ends w a p amount go b trace (record { low = e; high = f }) some past ys)

-- ---- the nodes
goes_on : (vs : List Valuation) → All IsValuation vs → (agents : ℕ) → length vs ≡ agents → (count : ℕ) (tree : Tree) (regs : List Rational) (b : Board) → Sound agents count tree b → (trace : List Choice) (ys : List CutAnswer)
    → CanEnd (run (worth_of vs) tree regs (state b ys trace)) (λ more. run (worth_of vs) tree regs (state b (ys ++ more) trace))
goes_on vs valid agents many count (Ask a p r next) regs b s trace ys =
    let x = worth_of vs a (piece_at b.pieces p) in
    goes_on vs valid agents many (count + 1) next (regs ++ x ∷ []) (ask_on a x b) (sound_ask agents count a p r next b x s) trace ys
goes_on vs valid agents many count (Set r sum next) regs b s trace ys =
    goes_on vs valid agents many (count + 1) next (regs ++ sum_value regs sum.terms ∷ []) b (sound_set agents count r sum next b s) trace ys
goes_on vs valid agents many count (Cut a p amount l r next) regs b s trace ys =
    let share = sum_value regs amount.terms in
    let least = follows vs valid agents many count (Cut a p amount l r next) regs b s trace in
    cut_ends (worth_of vs a) a p share (run (worth_of vs) next regs) b trace (least.answers, least.over)
    (λ y zs before i after parts right.
    let ends = right_within (worth_of vs a) before i y.point share right in
    let after_cut = cut_state a p share y zs before i after (state b (y ∷ zs) trace) in
    goes_on vs valid agents many count next regs after_cut.board (sound_cut agents count a p amount l r next b share y before i after s parts ends.0 ends.1) after_cut.trace zs)
    ys
goes_on vs valid agents many count (Join p q r next) regs b s trace ys =
    goes_on vs valid agents many count next regs (join_on p q b) (sound_join agents count p q r next b s) trace ys
goes_on vs valid agents many count (Test left right strict at_yes at_no) regs b s trace ys =
    choose_ends (goes_yes strict (sum_value regs left.terms) (sum_value regs right.terms)) _ _ _ _
    (goes_on vs valid agents many count at_yes regs b (sound_yes agents count left right strict at_yes at_no b s) (trace ++ choice.Yes ∷ []) ys)
    (goes_on vs valid agents many count at_no regs b (sound_no agents count left right strict at_yes at_no b s) (trace ++ choice.No ∷ []) ys)
goes_on vs valid agents many count (Give p a next) regs b s trace ys =
    goes_on vs valid agents many count next regs (give_on p a b) (sound_give agents count p a next b s) trace ys
goes_on vs valid agents many count End regs b s trace [] = tt
goes_on vs valid agents many count End regs b s trace (y ∷ ys) = tt

-- the run of a core that wants an answer can be brought to its end
pub core_goes_on : (vs : List Valuation) (core : Core) → IsWellFormed core → IsValuationList core.agents vs → (ys : List CutAnswer) → CanEnd (run_on vs core ys) (λ more. run_on vs core (ys ++ more))
core_goes_on vs core formed list ys =
    goes_on vs list.valuations core.agents list.one_each 0 core.tree [] (first_board core.agents (length_of vs)) (sound_first core.agents (length_of vs) core.tree (core_formed core formed)) [] ys

-- ---- a run without answers
-- no answer was refused, and none remains
abbrev pub IsUnrefused : Ending → Type 0
IsUnrefused (Done s) = ⊤
IsUnrefused (Stuck at s) = ⊤
IsUnrefused (Few query) = ⊤
IsUnrefused (Bad query) = ⊥
IsUnrefused Many = ⊥

unrefused : (w : Worth) (tree : Tree) (regs : List Rational) (b : Board) (trace : List Choice) → IsUnrefused (run w tree regs (state b [] trace))
unrefused w (Ask a p r next) regs b trace = unrefused w next (regs ++ w a (piece_at b.pieces p) ∷ []) (ask_on a (w a (piece_at b.pieces p)) b) trace
unrefused w (Set r sum next) regs b trace = unrefused w next (regs ++ sum_value regs sum.terms ∷ []) b trace
unrefused w (Cut a p amount l r next) regs b trace =
    let share = sum_value regs amount.terms in
    subst IsUnrefused (sym (cut_at-is (w a) a p share (run w next regs) (state b [] trace)))
    (choose IsUnrefused (below share (whole (pos 0))) _ _ (λ low. tt) (λ low. choose IsUnrefused (below (w a (piece_at b.pieces p)) share) _ _ (λ high. tt) (λ high. tt)))
unrefused w (Join p q r next) regs b trace = unrefused w next regs (join_on p q b) trace
unrefused w (Test left right strict at_yes at_no) regs b trace =
    choose IsUnrefused (goes_yes strict (sum_value regs left.terms) (sum_value regs right.terms)) _ _
    (λ e. unrefused w at_yes regs b (trace ++ choice.Yes ∷ [])) (λ e. unrefused w at_no regs b (trace ++ choice.No ∷ []))
unrefused w (Give p a next) regs b trace = unrefused w next regs (give_on p a b) trace
unrefused w End regs b trace = tt

pub core_unrefused : (vs : List Valuation) (core : Core) → IsUnrefused (run_on vs core [])
core_unrefused vs core = unrefused (worth_of vs) core.tree [] (first_board core.agents (length_of vs)) []
