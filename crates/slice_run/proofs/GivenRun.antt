-- The walk with given answers shows the run with these answers, unless a number stops it.
use Rattle.std.proofs.Common.{◌≡◌, ◌∙◌, ℕ, ◌+◌, ◌++◌, ◌∷◌, List, [], length, map, pos, Bool, true, false, refl, ap, sym, subst}
use Rattle.std.specs.List.{All}
use Rattle.std.specs.Prelude.{◌&&◌, if◌then◌else◌}
use Rattle.slice_num.specs.Rational.{Rational, whole}
use Rattle.slice_num.specs.Fitting.{Fitting, Fitted, Unfit, next, below, at_most, same_as}
use Rattle.slice_num.specs.Valuation.{Valuation, IsValuation}
use Rattle.slice_num.specs.declared.interval.Interval.{Interval}
use Rattle.slice_num.specs.declared.choice.Side.TheVariants as side
use Rattle.slice_num.specs.declared.choice.Choice.{Choice}
use Rattle.slice_num.specs.declared.choice.Choice.TheVariants as choice
use Rattle.slice_core.specs.Tree.{Tree, Ask, Set, Cut, Join, Test, Give, End}
use Rattle.slice_num.specs.Pieces.{piece_at, passed, is_held}
use Rattle.slice_core.specs.Run.{Piece, Board, first_board, ask_on, cut_on, join_on, give_on, left_piece, right_piece, Ending, Bad, sum_value, goes_yes, cut_at, run}
use Rattle.slice_core.proofs.CutLaws.{cut_part}
use Rattle.slice_core.specs.declared.node.Lin.{Lin}
use Rattle.slice_num.specs.declared.cut_answer.CutAnswer.{CutAnswer}
use Rattle.slice_core.proofs.Endings.{cut_state}
use Rattle.slice_core.proofs.FormedLaws.{core_formed, ask_formed, cut_formed}
use Rattle.slice_num.proofs.Parts.{part_at, parts_both}
use Rattle.slice_step.specs.Arithmetic.{share_in, is_right_at}
use Rattle.slice_run.specs.Sums.{lin_in}
use Rattle.slice_run.specs.Walk.{Walked, Refused, walk_on, InRange, Given, Halt, AtCut, halt, cut_board, cut_answered, walk_cut, walk}
use Rattle.slice_run.specs.RunLaws.{run_on, GivenWalksAreRuns}
use Rattle.slice_run.specs.declared.outcome.RunFault.TheVariants.{BadAnswer}
use Rattle.slice_step.proofs.Exact.{share_in-exact}
use Rattle.slice_step.proofs.LeastAnswer.{at_most-out}
use Rattle.slice_step.proofs.InOrder.{PieceInOrder, piece_all}
use Rattle.slice_run.proofs.Ordered.{ordered_at, piece_split, left_ordered}
use Rattle.slice_run.proofs.Sound.{Sound, sound_first, sound_ask, sound_set, sound_cut, sound_join, sound_yes, sound_no, sound_give}
use Rattle.slice_run.proofs.Shown.{shown, Agrees, halted_shown, on_number, lin_exact, valid_at, share_exact}
use Rattle.slice_run.proofs.RunSteps.{state, run_low, run_high, run_open}
use Rattle.slice_run.proofs.LeastRun.{told_shown, ordered_core}
use Rattle.slice_core.specs.Measures.{valuation_of, length_of, worth_of}

-- what holds of a walk after the exact number holds of the walk
after_number : {A : Type 0} (e : Ending) (query : ℕ) (m : Fitting A) (go : A → Walked Halt) (value : A) → ((x : A) → m ≡ Fitted x → x ≡ value) → Agrees e (go value) → Agrees e (walk_on query m go)
after_number e query m go value exact h range =
    on_number (λ (w : Walked Halt). shown e ≡ w) query m go
    (λ x fits in_range. let is : go value ≡ go x = ap go (sym (exact x fits)) in h (subst InRange (sym is) in_range) ∙ is)
    range

choose_agrees : (t : Bool) (e f : Ending) (x y : Walked Halt) → Agrees e x → Agrees f y → Agrees (if t then e else f) (if t then x else y)
choose_agrees true e f x y h k = h
choose_agrees false e f x y h k = k

-- a run along another one
ends_along : (e f : Ending) (w : Walked Halt) → e ≡ f → Agrees f w → Agrees e w
ends_along e f w q h = subst (λ (x : Ending). Agrees x w) (sym q) h

-- ---- a cut
-- an answer in a part: the point lies in the part, and what lies before it is worth the amount
part_agrees : (low high right : Bool) (query : ℕ) (go : Ending) (m : Fitting Rational) (amount : Rational) (on : Walked Halt) → (low ≡ true → high ≡ true → (x : Rational) → m ≡ Fitted x → same_as x amount ≡ right) → (low ≡ true → high ≡ true → Agrees go on)
    → Agrees (if low && (high && right) then go else Bad query)
    (walk_on query (if low && high then next m (λ worth. Fitted (same_as worth amount)) else Fitted false) (λ is. if is then on else Refused (BadAnswer query)))
part_agrees true true right query go (Fitted x) amount on exact h range = by right (same_as x amount) (exact refl refl x refl) range
  where
    by : (t u : Bool) → u ≡ t → InRange (if u then on else Refused (BadAnswer query)) → shown (if t then go else Bad query) ≡ (if u then on else Refused (BadAnswer query))
    by true true e r = h refl refl r
    by true false e r = cc
    by false true e r = cc
    by false false e r = refl
part_agrees true true right query go Unfit amount on exact h range = absurd range
part_agrees true false right query go m amount on exact h range = refl
part_agrees false high right query go m amount on exact h range = refl

-- what is known of the tree that follows
abbrev Later : List Valuation → ℕ → ℕ → Tree → Type 0
Later vs agents count next =
    (regs : List Rational) (ys : List CutAnswer) (b : Board) → Sound agents count next b → (trace : List Choice) → Agrees (run (worth_of vs) next regs (state b ys trace)) (walk vs next regs (Given ys) b)

-- a cut at hand
record AtHand (vs : List Valuation) (agents count a p : ℕ) (amount : Lin) (l r : ℕ) (next : Tree) (b : Board) : Type 0 where
  valuation : IsValuation (valuation_of vs a)
  later : Later vs agents count next
  sound : Sound agents count (Cut a p amount l r next) b

-- what follows the test of an answer
abbrev after_answer : List Valuation → ℕ → ℕ → Rational → Tree → List Rational → Board → CutAnswer → List CutAnswer → Fitting Bool → Walked Halt
after_answer vs a p share next regs b y ys m =
    walk_on (length b.queries) m (λ right. if right then walk vs next regs (Given ys) (cut_board a p share y b) else Refused (BadAnswer (length b.queries)))

answer_agrees : (vs : List Valuation) (agents count a p : ℕ) (amount : Lin) (l r : ℕ) (next : Tree) (regs : List Rational) (b : Board) (trace : List Choice) (share : Rational) → AtHand vs agents count a p amount l r next b
    → (y : CutAnswer) (ys : List CutAnswer) (before : Piece) (i : Interval) (after : Piece) → piece_at b.pieces p ≡ before ++ i ∷ after
    → y.part ≡ length before
    → Agrees (cut_part (worth_of vs a) a p share y ys (run (worth_of vs) next regs) (state b (y ∷ ys) trace) before i after) (after_answer vs a p share next regs b y ys (is_right_at (valuation_of vs a) share y.point before i after))
answer_agrees vs agents count a p amount l r next regs b trace share g y ys before i after parts number =
    let v = valuation_of vs a in
    let left = left_piece before i y.point in
    let s = piece_split before i after (subst PieceInOrder parts (ordered_at b.pieces p g.sound.pieces)) in
    part_agrees (at_most i.from y.point) (at_most y.point i.to) (same_as (worth_of vs a left) share) (length b.queries) (run (worth_of vs) next regs (cut_state a p share y ys before i after (state b (y ∷ ys) trace)))
    (share_in v left) share (walk vs next regs (Given ys) (cut_board a p share y b))
    (λ low high x fits. ap (λ (q : Rational). same_as q share) (share_in-exact v left x g.valuation (piece_all left (left_ordered before i y.point s.front s.here (at_most-out i.from y.point low))) fits))
    (λ low high.
    subst (λ (c : Board). Agrees (run (worth_of vs) next regs (cut_state a p share y ys before i after (state b (y ∷ ys) trace))) (walk vs next regs (Given ys) c))
    (sym (part_at (piece_at b.pieces p) before i after y.part b (λ front j rest. cut_on a p share y (left_piece front j y.point) (right_piece j y.point rest) b) parts number))
    (g.later regs ys (cut_on a p share y left (right_piece i y.point after) b)
    (sound_cut agents count a p amount l r next b share y before i after g.sound parts (at_most-out i.from y.point low) (at_most-out y.point i.to high)) (trace ++ passed before)))

open_agrees : (vs : List Valuation) (agents count a p : ℕ) (amount : Lin) (l r : ℕ) (next : Tree) (regs : List Rational) (b : Board) (trace : List Choice) (share : Rational) (ys : List CutAnswer) → AtHand vs agents count a p amount l r next b
    → below share (whole (pos 0)) ≡ false → below (worth_of vs a (piece_at b.pieces p)) share ≡ false
    → Agrees (cut_at (worth_of vs a) a p share (run (worth_of vs) next regs) (state b ys trace)) (cut_answered (valuation_of vs a) a p share (walk vs next regs) (Given ys) b)
open_agrees vs agents count a p amount l r next regs b trace share [] g low high =
    ends_along _ _ (cut_answered (valuation_of vs a) a p share (walk vs next regs) (Given []) b) (run_open (worth_of vs a) a p share (run (worth_of vs) next regs) (state b [] trace) low high) (λ range. refl)
open_agrees vs agents count a p amount l r next regs b trace share (y ∷ ys) g low high =
    ends_along _ _ (cut_answered (valuation_of vs a) a p share (walk vs next regs) (Given (y ∷ ys)) b) (run_open (worth_of vs a) a p share (run (worth_of vs) next regs) (state b (y ∷ ys) trace) low high)
    (parts_both (λ (e : Ending) (m : Fitting Bool). Agrees e (after_answer vs a p share next regs b y ys m)) [] (piece_at b.pieces p) y.part (Bad (length b.queries)) (cut_part (worth_of vs a) a p share y ys (run (worth_of vs) next regs) (state b (y ∷ ys) trace))
    (Fitted false) (is_right_at (valuation_of vs a) share y.point) (λ range. refl)
    (λ before i after parts number. answer_agrees vs agents count a p amount l r next regs b trace share g y ys before i after parts number))

-- what follows the share-value of the piece
abbrev after_held : List Valuation → ℕ → ℕ → Rational → Tree → List Rational → List CutAnswer → Board → Bool → Walked Halt
after_held vs a p share next regs ys b t = if t then halt (Given ys) (AtCut side.High b) else cut_answered (valuation_of vs a) a p share (walk vs next regs) (Given ys) b

cut_agrees : (vs : List Valuation) (agents count a p : ℕ) (amount : Lin) (l r : ℕ) (next : Tree) (regs : List Rational) (b : Board) (trace : List Choice) (share : Rational) (ys : List CutAnswer) → AtHand vs agents count a p amount l r next b
    → Agrees (cut_at (worth_of vs a) a p share (run (worth_of vs) next regs) (state b ys trace)) (walk_cut (valuation_of vs a) a p share (walk vs next regs) (Given ys) b)
cut_agrees vs agents count a p amount l r next regs b trace share ys g = by (below share (whole (pos 0))) refl
  where
    held_by : below share (whole (pos 0)) ≡ false → (t : Bool) → below (worth_of vs a (piece_at b.pieces p)) share ≡ t
        → Agrees (cut_at (worth_of vs a) a p share (run (worth_of vs) next regs) (state b ys trace)) (after_held vs a p share next regs ys b t)
    held_by low true e =
        ends_along _ _ (halt (Given ys) (AtCut side.High b)) (run_high (worth_of vs a) a p share (run (worth_of vs) next regs) (state b ys trace) low e) (λ range. halted_shown side.High b ys trace)
    held_by low false e = open_agrees vs agents count a p amount l r next regs b trace share ys g low e

    low_by : (t : Bool) → below share (whole (pos 0)) ≡ t
        → Agrees (cut_at (worth_of vs a) a p share (run (worth_of vs) next regs) (state b ys trace))
        (if t then halt (Given ys) (AtCut side.Low b) else walk_on (length b.queries) (share_in (valuation_of vs a) (piece_at b.pieces p)) (λ held. after_held vs a p share next regs ys b (below held share)))
    low_by true e =
        ends_along _ _ (halt (Given ys) (AtCut side.Low b)) (run_low (worth_of vs a) a p share (run (worth_of vs) next regs) (state b ys trace) e) (λ range. halted_shown side.Low b ys trace)
    low_by false e =
        after_number _ (length b.queries) (share_in (valuation_of vs a) (piece_at b.pieces p)) (λ held. after_held vs a p share next regs ys b (below held share)) (worth_of vs a (piece_at b.pieces p))
        (λ held fits. share_exact (valuation_of vs a) b.pieces p held g.valuation g.sound.pieces fits)
        (held_by e (below (worth_of vs a (piece_at b.pieces p)) share) refl)

    by : (t : Bool) → below share (whole (pos 0)) ≡ t → Agrees (cut_at (worth_of vs a) a p share (run (worth_of vs) next regs) (state b ys trace)) (walk_cut (valuation_of vs a) a p share (walk vs next regs) (Given ys) b)
    by t e =
        subst (Agrees (cut_at (worth_of vs a) a p share (run (worth_of vs) next regs) (state b ys trace)))
        (ap (λ (u : Bool). if u then halt (Given ys) (AtCut side.Low b) else walk_on (length b.queries) (share_in (valuation_of vs a) (piece_at b.pieces p)) (λ held. after_held vs a p share next regs ys b (below held share))) (sym e))
        (low_by t e)

-- ---- the nodes
pub given_agrees : (vs : List Valuation) → All IsValuation vs → (agents : ℕ) → length vs ≡ agents → (count : ℕ) (tree : Tree) (regs : List Rational) (ys : List CutAnswer) (b : Board) → Sound agents count tree b → (trace : List Choice)
    → Agrees (run (worth_of vs) tree regs (state b ys trace)) (walk vs tree regs (Given ys) b)
given_agrees vs valid agents many count (Ask a p r next) regs ys b s trace =
    let v = valuation_of vs a in
    let x = worth_of vs a (piece_at b.pieces p) in
    let is = valid_at vs agents a valid many (ask_formed agents (map is_held b.pieces) count a p r next s.formed).agent in
    after_number _ (length b.queries) (share_in v (piece_at b.pieces p)) (λ worth. walk vs next (regs ++ worth ∷ []) (Given ys) (ask_on a worth b)) x (λ held fits. share_exact v b.pieces p held is s.pieces fits)
    (given_agrees vs valid agents many (count + 1) next (regs ++ x ∷ []) ys (ask_on a x b) (sound_ask agents count a p r next b x s) trace)
given_agrees vs valid agents many count (Set r sum next) regs ys b s trace =
    let x = sum_value regs sum.terms in
    after_number _ (length b.queries) (lin_in regs sum.terms) (λ value. walk vs next (regs ++ value ∷ []) (Given ys) b) x (lin_exact regs sum.terms)
    (given_agrees vs valid agents many (count + 1) next (regs ++ x ∷ []) ys b (sound_set agents count r sum next b s) trace)
given_agrees vs valid agents many count (Cut a p amount l r next) regs ys b s trace =
    let x = sum_value regs amount.terms in
    after_number _ (length b.queries) (lin_in regs amount.terms) (λ share. walk_cut (valuation_of vs a) a p share (walk vs next regs) (Given ys) b) x (lin_exact regs amount.terms)
    (cut_agrees vs agents count a p amount l r next regs b trace x ys
    (record {
      valuation = valid_at vs agents a valid many (cut_formed agents (map is_held b.pieces) count a p amount l r next s.formed).agent;
      later = λ rs zs c k t. given_agrees vs valid agents many count next rs zs c k t;
      sound = s;
    }))
given_agrees vs valid agents many count (Join p q r next) regs ys b s trace =
    given_agrees vs valid agents many count next regs ys (join_on p q b) (sound_join agents count p q r next b s) trace
given_agrees vs valid agents many count (Test left right strict at_yes at_no) regs ys b s trace =
    let x = sum_value regs left.terms in
    let y = sum_value regs right.terms in
    after_number _ (length b.queries) (lin_in regs left.terms) (λ u. walk_on (length b.queries) (lin_in regs right.terms) (λ t. if goes_yes strict u t then walk vs at_yes regs (Given ys) b else walk vs at_no regs (Given ys) b)) x (lin_exact regs left.terms)
    (after_number _ (length b.queries) (lin_in regs right.terms) (λ t. if goes_yes strict x t then walk vs at_yes regs (Given ys) b else walk vs at_no regs (Given ys) b) y (lin_exact regs right.terms)
    (choose_agrees (goes_yes strict x y) _ _ _ _
    (given_agrees vs valid agents many count at_yes regs ys b (sound_yes agents count left right strict at_yes at_no b s) (trace ++ choice.Yes ∷ []))
    (given_agrees vs valid agents many count at_no regs ys b (sound_no agents count left right strict at_yes at_no b s) (trace ++ choice.No ∷ []))))
given_agrees vs valid agents many count (Give p a next) regs ys b s trace =
    given_agrees vs valid agents many count next regs ys (give_on p a b) (sound_give agents count p a next b s) trace
given_agrees vs valid agents many count End regs [] b s trace = λ range. refl
given_agrees vs valid agents many count End regs (y ∷ ys) b s trace = λ range. refl

pub given_walks : GivenWalksAreRuns
given_walks vs core ys formed list =
    let b = first_board core.agents (length_of vs) in
    told_shown vs list.valuations (run_on vs core ys) (walk vs core.tree [] (Given ys) b) (ordered_core vs core ys formed)
    (given_agrees vs list.valuations core.agents list.one_each 0 core.tree [] ys b (sound_first core.agents (length_of vs) core.tree (core_formed core formed)) [])
