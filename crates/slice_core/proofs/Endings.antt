-- What holds of each way in which a cut can end holds of the cut.
use Rattle.std.proofs.Common.{◌≡◌, ℕ, ◌++◌, List, [], ◌∷◌, length, pos, Bool, true, false, refl, sym, subst}
use Rattle.std.specs.Prelude.{if◌then◌else◌}
use Rattle.slice_num.specs.Rational.{Rational, whole}
use Rattle.slice_num.specs.Fitting.{below}
use Rattle.slice_num.specs.declared.interval.Interval.{Interval}
use Rattle.slice_num.specs.declared.choice.Side.{Side}
use Rattle.slice_num.specs.declared.choice.Side.TheVariants as side
use Rattle.slice_num.specs.Pieces.{piece_at, passed}
use Rattle.slice_core.specs.Run.{Piece, State, Ending, Stuck, Few, Bad, Many, ended, halted, cut_on, is_right, left_piece, right_piece, cut_at}
use Rattle.slice_core.proofs.CutLaws.{cut_part, cut_answered, cut_at-is}
use Rattle.slice_num.specs.declared.cut_answer.CutAnswer.{CutAnswer}
use Rattle.slice_num.proofs.Parts.{part_by}

pub choose : {A : Type 0} (P : A → Type 0) (b : Bool) (x y : A) → (b ≡ true → P x) → (b ≡ false → P y) → P (if b then x else y)
choose P true x y f g = f refl
choose P false x y f g = g refl

pub ended_by : (P : Ending → Type 0) (e : Ending) (ys : List CutAnswer) → P e → P Many → P (ended e ys)
ended_by P e [] h k = h
ended_by P e (y ∷ ys) h k = k

-- the state after a right cut
abbrev pub cut_state : ℕ → ℕ → Rational → CutAnswer → List CutAnswer → Piece → Interval → Piece → State → State
cut_state a p amount y ys before i after s =
    record { board = cut_on a p amount y (left_piece before i y.point) (right_piece i y.point after) s.board; answers = ys; trace = s.trace ++ passed before }

-- a cut that was answered rightly, in that part
pub record Passes (w : Piece → Rational) (p : ℕ) (amount : Rational) (s : State) (y : CutAnswer) (ys : List CutAnswer) (before : Piece) (i : Interval) (after : Piece) : Type 0 where
  pub given_as : s.answers ≡ y ∷ ys
  pub parts : piece_at s.board.pieces p ≡ before ++ i ∷ after
  pub number : y.part ≡ length before
  pub right : is_right w before i y.point amount ≡ true

unfoldable pub GoesOn : (Ending → Type 0) → (Piece → Rational) → ℕ → ℕ → Rational → (State → Ending) → State → Type 0
GoesOn P w a p amount go s =
    (y : CutAnswer) (ys : List CutAnswer) (before : Piece) (i : Interval) (after : Piece) → Passes w p amount s y ys before i after → P (go (cut_state a p amount y ys before i after s))

pub cut_by : (P : Ending → Type 0) (w : Piece → Rational) (a p : ℕ) (amount : Rational) (go : State → Ending) (s : State)
    → ((n : ℕ) → P (Few n)) → ((n : ℕ) → P (Bad n)) → P Many → ((at : Side) (halt : State) → P (Stuck at halt)) → GoesOn P w a p amount go s → P (cut_at w a p amount go s)
unfolding GoesOn
cut_by P w a p amount go s few bad many stuck on =
    subst P (sym (cut_at-is w a p amount go s))
    (choose P (below amount (whole (pos 0))) (halted side.Low s) (if (below (w (piece_at s.board.pieces p)) amount) then halted side.High s else cut_answered w a p amount go s s.answers)
    (λ e. halt side.Low)
    (λ e. choose P (below (w (piece_at s.board.pieces p)) amount) (halted side.High s) (cut_answered w a p amount go s s.answers) (λ f. halt side.High) (λ f. answered s.answers refl)))
  where
    halt : (at : Side) → P (halted at s)
    halt at = ended_by P (Stuck at _) s.answers (stuck at _) many

    answered : (ys : List CutAnswer) → s.answers ≡ ys → P (cut_answered w a p amount go s ys)
    answered [] e = few _
    answered (y ∷ ys) e =
        part_by P [] (piece_at s.board.pieces p) y.part (Bad (length s.board.queries)) (cut_part w a p amount y ys go s) (bad _)
        (λ before i after parts number.
        choose P (is_right w before i y.point amount) (go (cut_state a p amount y ys before i after s)) (Bad (length s.board.queries))
        (λ f. on y ys before i after (record { given_as = e; parts = parts; number = number; right = f })) (λ f. bad _))
