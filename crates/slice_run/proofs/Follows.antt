-- Every core has a least run, and where its numbers fit the walk that takes the least answers shows it.
use Rattle.std.proofs.Common.{◌≡◌, ◌∙◌, ℕ, zero, suc, ◌+◌, ◌++◌, ◌∷◌, List, [], length, map, take, pos, Bool, true, false, Some, None, refl, ap, sym, subst}
use Rattle.std.specs.List.{All}
use Rattle.std.specs.Prelude.{⊤, if◌then◌else◌}
use Rattle.slice_num.specs.Rational.{Rational, whole}
use Rattle.slice_num.specs.Fitting.{Fitting, Fitted, below}
use Rattle.slice_num.specs.Valuation.{Valuation, IsValuation, share_value}
use Rattle.slice_num.specs.declared.interval.Interval.{Interval}
use Rattle.slice_num.specs.declared.choice.Side.{Side}
use Rattle.slice_num.specs.declared.choice.Side.TheVariants as side
use Rattle.slice_num.specs.declared.choice.Choice.{Choice}
use Rattle.slice_num.specs.declared.choice.Choice.TheVariants as choice
use Rattle.slice_num.proofs.FieldLaws.{below-false}
use Rattle.slice_core.specs.Tree.{Tree, Ask, Set, Cut, Join, Test, Give, End}
use Rattle.slice_num.specs.Pieces.{piece_at, passed, is_held}
use Rattle.slice_core.specs.Run.{Piece, Board, ask_on, cut_on, join_on, give_on, left_piece, right_piece, Ending, Done, Stuck, Few, Bad, Many, State, sum_value, goes_yes, cut_at, run}
use Rattle.slice_core.specs.declared.node.Lin.{Lin}
use Rattle.slice_num.specs.declared.cut_answer.CutAnswer.{CutAnswer}
use Rattle.slice_core.proofs.FormedLaws.{ask_formed, cut_formed, part_of}
use Rattle.slice_num.proofs.Parts.{part_at}
use Rattle.slice_step.specs.Arithmetic.{share_in, least_answer_in}
use Rattle.slice_run.specs.Sums.{lin_in}
use Rattle.slice_run.specs.Walk.{Walked, Good, walk_on, InRange, Onward, Least, Halt, AtCut, halt, cut_board, cut_answered, walk_cut, walk}
use Rattle.slice_run.specs.RunLaws.{AreLeast}
use Rattle.slice_step.specs.Exact.{CanCut, IsLeastAnswer, Precedes}
use Rattle.slice_step.proofs.LeastAnswer.{answer_exists, answer_found, one_least}
use Rattle.slice_step.proofs.InOrder.{PieceInOrder}
use Rattle.slice_run.proofs.Ordered.{ordered_at}
use Rattle.slice_run.proofs.Sound.{Sound, sound_ask, sound_set, sound_cut, sound_join, sound_yes, sound_no, sound_give}
use Rattle.slice_run.proofs.Shown.{shown, on_number, lin_exact, valid_at, share_exact}
use Rattle.slice_run.proofs.RunSteps.{state, run_low, run_high, run_past, run_wrong, bad_along, IsOpen}
use Rattle.slice_core.specs.Measures.{valuation_of, worth_of}

-- a run that came to its end, or is stuck
abbrev pub IsOver : Ending → Type 0
IsOver (Done s) = ⊤
IsOver (Stuck at s) = ⊤
IsOver (Few query) = ⊥
IsOver (Bad query) = ⊥
IsOver Many = ⊥

-- the answers of the least run, and the walk that takes the least ones
pub record Follows (ending : List CutAnswer → Ending) (w : Walked Halt) : Type 0 where
  pub answers : List CutAnswer
  pub over : IsOver (ending answers)
  pub least : AreLeast ending answers
  pub same : InRange w → shown (ending answers) ≡ w

-- no answer was given, so that none can be preceded
none_given : (ending : List CutAnswer → Ending) → AreLeast ending []
none_given ending k y z g h = let none : None ≡ Some y = g in cc

-- ---- a cut
-- what is known of the tree that follows
abbrev Later : List Valuation → ℕ → ℕ → Tree → Type 0
Later vs agents count next =
    (regs : List Rational) (b : Board) → Sound agents count next b → (trace : List Choice) → Follows (λ ys. run (worth_of vs) next regs (state b ys trace)) (walk vs next regs Least b)

-- a cut at hand, whose amount is known
pub record AtHand (vs : List Valuation) (agents count a p : ℕ) (amount : Lin) (l r : ℕ) (next : Tree) (b : Board) : Type 0 where
  pub valuation : IsValuation (valuation_of vs a)
  pub later : Later vs agents count next
  pub sound : Sound agents count (Cut a p amount l r next) b

abbrev cut_ending : List Valuation → ℕ → ℕ → Rational → Tree → List Rational → Board → List Choice → List CutAnswer → Ending
cut_ending vs a p share next regs b trace ys = cut_at (worth_of vs a) a p share (run (worth_of vs) next regs) (state b ys trace)

abbrev cut_walk : List Valuation → ℕ → ℕ → Rational → Tree → List Rational → Board → Walked Halt
cut_walk vs a p share next regs b = walk_cut (valuation_of vs a) a p share (walk vs next regs) Least b

-- the cut is stuck
stuck_follows : (ending : List CutAnswer → Ending) (w : Walked Halt) (at : Side) (s : State) → ending [] ≡ Stuck at s → (InRange w → Good (AtCut at s.board) ≡ w) → Follows ending w
stuck_follows ending w at s e h = record {
  answers = [];
  over = subst IsOver (sym e) tt;
  least = none_given ending;
  same = λ r. ap shown e ∙ h r;
}

-- the walk at the least answer
abbrev after_answer : ℕ → ℕ → Rational → Onward → Board → CutAnswer → Walked Halt
after_answer a p share go b y = go Least (cut_board a p share y b)

-- the cut is answered by the least right answer
past_follows : (vs : List Valuation) (agents count a p : ℕ) (amount : Lin) (l r : ℕ) (next : Tree) (regs : List Rational) (b : Board) (trace : List Choice) (share : Rational) → AtHand vs agents count a p amount l r next b
    → IsOpen (worth_of vs a) p share b → (y : CutAnswer) (k : IsLeastAnswer (worth_of vs a) (piece_at b.pieces p) share y) (w : Walked Halt)
    → (InRange w → InRange (walk vs next regs Least (cut_on a p share y (left_piece k.before k.here y.point) (right_piece k.here y.point k.after) b)) × (walk vs next regs Least (cut_on a p share y (left_piece k.before k.here y.point) (right_piece k.here y.point k.after) b) ≡ w))
    → Follows (cut_ending vs a p share next regs b trace) w
past_follows vs agents count a p amount l r next regs b trace share g o y k w onward =
    let f = g.later regs (cut_on a p share y (left_piece k.before k.here y.point) (right_piece k.here y.point k.after) b) (sound_cut agents count a p amount l r next b share y k.before k.here k.after g.sound k.parts k.low k.high) (trace ++ passed k.before) in
    let past = λ (ys : List CutAnswer). run_past (worth_of vs a) a p share (run (worth_of vs) next regs) b y ys trace k o in
    record {
      answers = y ∷ f.answers;
      over = subst IsOver (sym (past f.answers)) f.over;
      least = least_of f.answers f.least past;
      same = λ r. ap shown (past f.answers) ∙ f.same (onward r).0 ∙ (onward r).1;
    }
  where
    least_of : (ys : List CutAnswer) → AreLeast (λ zs. run (worth_of vs) next regs (state (cut_on a p share y (left_piece k.before k.here y.point) (right_piece k.here y.point k.after) b) zs (trace ++ passed k.before))) ys
        → ((zs : List CutAnswer) → cut_ending vs a p share next regs b trace (y ∷ zs) ≡ run (worth_of vs) next regs (state (cut_on a p share y (left_piece k.before k.here y.point) (right_piece k.here y.point k.after) b) zs (trace ++ passed k.before)))
        → AreLeast (cut_ending vs a p share next regs b trace) (y ∷ ys)
    least_of ys least past zero x z h precedes =
        let is : y ≡ x = cc in
        run_wrong (worth_of vs a) a p share (run (worth_of vs) next regs) b z [] trace (k.least z (subst (λ (t : CutAnswer). Precedes z t) (sym is) precedes)) o
    least_of ys least past (suc n) x z h precedes = bad_along _ _ (past (take n ys ++ z ∷ [])) (least n x z h precedes)

-- the cut has a least right answer
open_follows : (vs : List Valuation) (agents count a p : ℕ) (amount : Lin) (l r : ℕ) (next : Tree) (regs : List Rational) (b : Board) (trace : List Choice) (share : Rational) → AtHand vs agents count a p amount l r next b
    → IsOpen (worth_of vs a) p share b → (w : Walked Halt)
    → (InRange w → InRange (cut_answered (valuation_of vs a) a p share (walk vs next regs) Least b) × (cut_answered (valuation_of vs a) a p share (walk vs next regs) Least b ≡ w))
    → Follows (cut_ending vs a p share next regs b trace) w
open_follows vs agents count a p amount l r next regs b trace share g o w onward =
    let v = valuation_of vs a in
    let some = part_of b.pieces p (cut_formed agents (map is_held b.pieces) count a p amount l r next g.sound.formed).is_live in
    let ordered : PieceInOrder (some.first ∷ some.others) = subst PieceInOrder some.is (ordered_at b.pieces p g.sound.pieces) in
    let can : CanCut v (some.first ∷ some.others) share = record { low = below-false share (whole (pos 0)) o.low; high = below-false (share_value v (some.first ∷ some.others)) share (ap (λ (ps : Piece). below (share_value v ps) share) (sym some.is) ∙ o.high) } in
    let has = answer_exists v share some.first some.others g.valuation ordered can in
    let k : IsLeastAnswer (share_value v) (piece_at b.pieces p) share has.answer = subst (λ (ps : Piece). IsLeastAnswer (share_value v) ps share has.answer) (sym some.is) has.least in
    past_follows vs agents count a p amount l r next regs b trace share g o has.answer k w
    (λ r. by some.first some.others some.is ordered can has.answer k (onward r).0 (onward r).1)
  where
    -- the answer that the walk takes is that one
    by : (i : Interval) (is : Piece) → piece_at b.pieces p ≡ i ∷ is → PieceInOrder (i ∷ is) → CanCut (valuation_of vs a) (i ∷ is) share → (y : CutAnswer) (k : IsLeastAnswer (worth_of vs a) (piece_at b.pieces p) share y)
        → InRange (cut_answered (valuation_of vs a) a p share (walk vs next regs) Least b) → cut_answered (valuation_of vs a) a p share (walk vs next regs) Least b ≡ w
        → InRange (walk vs next regs Least (cut_on a p share y (left_piece k.before k.here y.point) (right_piece k.here y.point k.after) b)) × (walk vs next regs Least (cut_on a p share y (left_piece k.before k.here y.point) (right_piece k.here y.point k.after) b) ≡ w)
    by i is e ordered can y k range same =
        let there : walk_on (length b.queries) (least_answer_in (valuation_of vs a) (piece_at b.pieces p) share) (after_answer a p share (walk vs next regs) b) ≡ after_answer a p share (walk vs next regs) b y =
        on_number (λ (x : Walked Halt). x ≡ after_answer a p share (walk vs next regs) b y) (length b.queries) (least_answer_in (valuation_of vs a) (piece_at b.pieces p) share) (after_answer a p share (walk vs next regs) b)
        (λ z fits in_range.
        ap (after_answer a p share (walk vs next regs) b)
        (one_least (share_value (valuation_of vs a)) (piece_at b.pieces p) share y z k
        (subst (λ (ps : Piece). IsLeastAnswer (share_value (valuation_of vs a)) ps share z) (sym e)
        (answer_found (valuation_of vs a) share i is z g.valuation ordered can (ap (λ (ps : Piece). least_answer_in (valuation_of vs a) ps share) (sym e) ∙ fits)))))
        range in
        let whole_walk = there
        ∙ ap (walk vs next regs Least)
        (part_at (piece_at b.pieces p) k.before k.here k.after y.part b (λ before i after. cut_on a p share y (left_piece before i y.point) (right_piece i y.point after) b) k.parts k.number) in
        (subst InRange whole_walk range, sym whole_walk ∙ same)

-- ---- the nodes
-- a cut of that amount, whatever comes of it
cut_follows : (vs : List Valuation) (agents count a p : ℕ) (amount : Lin) (l r : ℕ) (next : Tree) (regs : List Rational) (b : Board) (trace : List Choice) (share : Rational) → AtHand vs agents count a p amount l r next b
    → Follows (cut_ending vs a p share next regs b trace) (cut_walk vs a p share next regs b)
cut_follows vs agents count a p amount l r next regs b trace share g = by (below share (whole (pos 0))) refl
  where
    v : Valuation
    v = valuation_of vs a

    after_held : Rational → Walked Halt
    after_held held = if below held share then halt Least (AtCut side.High b) else cut_answered (valuation_of vs a) a p share (walk vs next regs) Least b

    -- after the share-value of the piece
    held_walk : Walked Halt
    held_walk = walk_on (length b.queries) (share_in (valuation_of vs a) (piece_at b.pieces p)) (λ held.
        if below held share then halt Least (AtCut side.High b) else cut_answered (valuation_of vs a) a p share (walk vs next regs) Least b)

    held_is : (t : Bool) → below (worth_of vs a (piece_at b.pieces p)) share ≡ t
        → InRange (walk_on (length b.queries) (share_in (valuation_of vs a) (piece_at b.pieces p)) (λ held. if below held share then halt Least (AtCut side.High b) else cut_answered (valuation_of vs a) a p share (walk vs next regs) Least b))
        → walk_on (length b.queries) (share_in (valuation_of vs a) (piece_at b.pieces p)) (λ held. if below held share then halt Least (AtCut side.High b) else cut_answered (valuation_of vs a) a p share (walk vs next regs) Least b)
        ≡ (if t then halt Least (AtCut side.High b) else cut_answered (valuation_of vs a) a p share (walk vs next regs) Least b)
    held_is t e range =
        on_number (λ (x : Walked Halt). x ≡ (if t then halt Least (AtCut side.High b) else cut_answered (valuation_of vs a) a p share (walk vs next regs) Least b)) (length b.queries) (share_in (valuation_of vs a) (piece_at b.pieces p)) _
        (λ held fits in_range.
        ap (λ (u : Bool). if u then halt Least (AtCut side.High b) else cut_answered (valuation_of vs a) a p share (walk vs next regs) Least b)
        (ap (λ (q : Rational). below q share) (share_exact (valuation_of vs a) b.pieces p held g.valuation g.sound.pieces fits) ∙ e))
        range

    held_by : below share (whole (pos 0)) ≡ false → (t : Bool) → below (worth_of vs a (piece_at b.pieces p)) share ≡ t
        → Follows (cut_ending vs a p share next regs b trace) (walk_on (length b.queries) (share_in (valuation_of vs a) (piece_at b.pieces p)) (λ held. if below held share then halt Least (AtCut side.High b) else cut_answered (valuation_of vs a) a p share (walk vs next regs) Least b))
    held_by low true e =
        stuck_follows (cut_ending vs a p share next regs b trace) _ side.High _ (run_high (worth_of vs a) a p share (run (worth_of vs) next regs) (state b [] trace) low e)
        (λ r. sym (held_is true e r))
    held_by low false e =
        open_follows vs agents count a p amount l r next regs b trace share g (record { low = low; high = e }) _
        (λ r. (subst InRange (held_is false e r) r, sym (held_is false e r)))

    by : (t : Bool) → below share (whole (pos 0)) ≡ t → Follows (cut_ending vs a p share next regs b trace) (cut_walk vs a p share next regs b)
    by true e =
        stuck_follows (cut_ending vs a p share next regs b trace) (cut_walk vs a p share next regs b) side.Low _ (run_low (worth_of vs a) a p share (run (worth_of vs) next regs) (state b [] trace) e)
        (λ r. ap (λ (t : Bool). if t then halt Least (AtCut side.Low b) else walk_on (length b.queries) (share_in (valuation_of vs a) (piece_at b.pieces p)) (λ held. if below held share then halt Least (AtCut side.High b) else cut_answered (valuation_of vs a) a p share (walk vs next regs) Least b)) (sym e))
    by false e =
        subst (Follows (cut_ending vs a p share next regs b trace))
        (ap (λ (t : Bool). if t then halt Least (AtCut side.Low b) else walk_on (length b.queries) (share_in (valuation_of vs a) (piece_at b.pieces p)) (λ held. if below held share then halt Least (AtCut side.High b) else cut_answered (valuation_of vs a) a p share (walk vs next regs) Least b)) (sym e))
        (held_by e (below (worth_of vs a (piece_at b.pieces p)) share) refl)

-- a walk that goes on as another one, where it is in range
along : (ending : List CutAnswer → Ending) (w x : Walked Halt) → (InRange w → w ≡ x) → Follows ending x → Follows ending w
along ending w x h f = record {
  answers = f.answers;
  over = f.over;
  least = f.least;
  same = λ r. f.same (subst InRange (h r) r) ∙ sym (h r);
}

-- a number that fits is the exact one
number_is : {A : Type 0} (query : ℕ) (m : Fitting A) (go : A → Walked Halt) (value : A) → ((x : A) → m ≡ Fitted x → x ≡ value) → InRange (walk_on query m go) → walk_on query m go ≡ go value
number_is query m go value exact r = on_number (λ (x : Walked Halt). x ≡ go value) query m go (λ x fits in_range. ap go (exact x fits)) r

choose_follows : (t : Bool) (f g : List CutAnswer → Ending) (x y : Walked Halt) → Follows f x → Follows g y → Follows (λ ys. if t then f ys else g ys) (if t then x else y)
choose_follows true f g x y h k = h
choose_follows false f g x y h k = k

pub follows : (vs : List Valuation) → All IsValuation vs → (agents : ℕ) → length vs ≡ agents → (count : ℕ) (tree : Tree) (regs : List Rational) (b : Board) → Sound agents count tree b → (trace : List Choice)
    → Follows (λ ys. run (worth_of vs) tree regs (state b ys trace)) (walk vs tree regs Least b)
follows vs valid agents many count (Ask a p r next) regs b s trace =
    let v = valuation_of vs a in
    let x = worth_of vs a (piece_at b.pieces p) in
    let is = valid_at vs agents a valid many (ask_formed agents (map is_held b.pieces) count a p r next s.formed).agent in
    along _ _ (walk vs next (regs ++ x ∷ []) Least (ask_on a x b))
    (number_is (length b.queries) (share_in v (piece_at b.pieces p)) (λ worth. walk vs next (regs ++ worth ∷ []) Least (ask_on a worth b)) x (λ held fits. share_exact v b.pieces p held is s.pieces fits))
    (follows vs valid agents many (count + 1) next (regs ++ x ∷ []) (ask_on a x b) (sound_ask agents count a p r next b x s) trace)
follows vs valid agents many count (Set r sum next) regs b s trace =
    let x = sum_value regs sum.terms in
    along _ _ (walk vs next (regs ++ x ∷ []) Least b)
    (number_is (length b.queries) (lin_in regs sum.terms) (λ value. walk vs next (regs ++ value ∷ []) Least b) x (lin_exact regs sum.terms))
    (follows vs valid agents many (count + 1) next (regs ++ x ∷ []) b (sound_set agents count r sum next b s) trace)
follows vs valid agents many count (Cut a p amount l r next) regs b s trace =
    let x = sum_value regs amount.terms in
    along _ _ (cut_walk vs a p x next regs b)
    (number_is (length b.queries) (lin_in regs amount.terms) (λ share. walk_cut (valuation_of vs a) a p share (walk vs next regs) Least b) x (lin_exact regs amount.terms))
    (cut_follows vs agents count a p amount l r next regs b trace x
    (record {
      valuation = valid_at vs agents a valid many (cut_formed agents (map is_held b.pieces) count a p amount l r next s.formed).agent;
      later = λ rs c t. follows vs valid agents many count next rs c t;
      sound = s;
    }))
follows vs valid agents many count (Join p q r next) regs b s trace =
    follows vs valid agents many count next regs (join_on p q b) (sound_join agents count p q r next b s) trace
follows vs valid agents many count (Test left right strict at_yes at_no) regs b s trace =
    let x = sum_value regs left.terms in
    let y = sum_value regs right.terms in
    along _ _ (if goes_yes strict x y then walk vs at_yes regs Least b else walk vs at_no regs Least b)
    (λ r.
    let one = number_is (length b.queries) (lin_in regs left.terms) (λ u. walk_on (length b.queries) (lin_in regs right.terms) (λ t. if goes_yes strict u t then walk vs at_yes regs Least b else walk vs at_no regs Least b)) x (lin_exact regs left.terms) r in
    one ∙ number_is (length b.queries) (lin_in regs right.terms) (λ t. if goes_yes strict x t then walk vs at_yes regs Least b else walk vs at_no regs Least b) y (lin_exact regs right.terms) (subst InRange one r))
    (choose_follows (goes_yes strict x y) _ _ _ _
    (follows vs valid agents many count at_yes regs b (sound_yes agents count left right strict at_yes at_no b s) (trace ++ choice.Yes ∷ []))
    (follows vs valid agents many count at_no regs b (sound_no agents count left right strict at_yes at_no b s) (trace ++ choice.No ∷ [])))
follows vs valid agents many count (Give p a next) regs b s trace =
    follows vs valid agents many count next regs (give_on p a b) (sound_give agents count p a next b s) trace
follows vs valid agents many count End regs b s trace = record { answers = []; over = tt; least = none_given (λ ys. run (worth_of vs) End regs (state b ys trace)); same = λ r. refl }
