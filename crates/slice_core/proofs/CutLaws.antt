-- A cut in a run, case by case: what it comes to and how the run goes on, told at once.
use Rattle.std.proofs.Common.{◌≡◌, ℕ, zero, suc, ◌++◌, List, [], ◌∷◌, length, pos, Bool, true, false, refl}
use Rattle.std.specs.Prelude.{if◌then◌else◌}
use Rattle.slice_num.specs.Rational.{Rational, whole}
use Rattle.slice_num.specs.Fitting.{below}
use Rattle.slice_num.specs.Pieces.{piece_at, with_part, passed}
use Rattle.slice_num.specs.declared.interval.Interval.{Interval}
use Rattle.slice_num.specs.declared.choice.Side.TheVariants as side
use Rattle.slice_num.specs.declared.cut_answer.CutAnswer.{CutAnswer}
use Rattle.slice_core.specs.Run.{Piece, State, Ending, Few, Bad, is_right, left_piece, right_piece, Halts, Wrong, cutting_part, cutting_answered, cut_on, halted, past_cut, cut_at}

-- a run at a cut that was answered in that part of the piece
abbrev pub cut_part :
    (Piece → Rational) → ℕ → ℕ → Rational → CutAnswer → List CutAnswer → (State → Ending) → State → Piece → Interval → Piece → Ending
cut_part w a p amount y ys go s before i after =
    if is_right w before i y.point amount
    then go (record { board = cut_on a p amount y (left_piece before i y.point) (right_piece i y.point after) s.board; answers = ys; trace = s.trace ++ passed before })
    else Bad (length s.board.queries)

-- a run at a cut that takes the next answer
abbrev pub cut_answered : (Piece → Rational) → ℕ → ℕ → Rational → (State → Ending) → State → List CutAnswer → Ending
cut_answered w a p amount go s [] = Few (length s.board.queries)
cut_answered w a p amount go s (y ∷ ys) =
    with_part [] (piece_at s.board.pieces p) y.part (Bad (length s.board.queries)) (cut_part w a p amount y ys go s)

-- a run at a cut
abbrev pub cut_cases : (Piece → Rational) → ℕ → ℕ → Rational → (State → Ending) → State → Ending
cut_cases w a p amount go s =
    if below amount (whole (pos 0)) then halted side.Low s
    else (if below (w (piece_at s.board.pieces p)) amount then halted side.High s
    else cut_answered w a p amount go s s.answers)

if_over : {A B : Type 0} (f : A → B) (b : Bool) (x y : A) → f (if b then x else y) ≡ (if b then f x else f y)
if_over f true x y = refl
if_over f false x y = refl

-- what is done with the choice of a part can be done at each part
part_over : {A R S : Type 0} (f : R → S) (done xs : List A) (k : ℕ) (other : R) (go : List A → A → List A → R) (on : List A → A → List A → S)
    → ((before : List A) (x : A) (after : List A) → f (go before x after) ≡ on before x after) → f (with_part done xs k other go) ≡ with_part done xs k (f other) on
part_over f done [] k other go on h = refl
part_over f done (x ∷ xs) zero other go on h = h done x xs
part_over f done (x ∷ xs) (suc k) other go on h = part_over f (done ++ x ∷ []) xs k other go on h

answered_is : (w : Piece → Rational) (a p : ℕ) (amount : Rational) (go : State → Ending) (s : State) (ys : List CutAnswer)
    → past_cut a p amount go s (cutting_answered w (piece_at s.board.pieces p) amount ys) ≡ cut_answered w a p amount go s ys
answered_is w a p amount go s [] = refl
answered_is w a p amount go s (y ∷ ys) =
    part_over (past_cut a p amount go s) [] (piece_at s.board.pieces p) y.part Wrong (cutting_part w amount y ys) (cut_part w a p amount y ys go s)
    (λ before i after. if_over (past_cut a p amount go s) (is_right w before i y.point amount) _ Wrong)

pub cut_at-is : (w : Piece → Rational) (a p : ℕ) (amount : Rational) (go : State → Ending) (s : State) → cut_at w a p amount go s ≡ cut_cases w a p amount go s
cut_at-is w a p amount go s = by (below amount (whole (pos 0))) (below (w (piece_at s.board.pieces p)) amount)
  where
    by : (x y : Bool)
        → past_cut a p amount go s (if x then Halts side.Low else (if y then Halts side.High else cutting_answered w (piece_at s.board.pieces p) amount s.answers))
        ≡ (if x then halted side.Low s else (if y then halted side.High s else cut_answered w a p amount go s s.answers))
    by true y = refl
    by false true = refl
    by false false = answered_is w a p amount go s s.answers
