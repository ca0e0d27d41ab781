-- A given answer, by the number of its part.
use Rattle.std.proofs.Common.{◌≡◌, ◌∙◌, ◌≤◌, ◌<◌, ◌+◌, ◌++◌, ◌∷◌, ℕ, zero, suc, List, [], length, take, drop, get_or, Bool, true, false, refl, ap, sym, subst, arith}
use Rattle.std.specs.Prelude.{slice_get, Some, ◌&&◌, if◌then◌else◌}
use Rattle.slice_num.specs.Rational.{Rational, IsAtMost}
use Rattle.slice_num.specs.Fitting.{Fitting, Fitted, next, at_most, same_as}
use Rattle.slice_num.specs.Valuation.{Valuation}
use Rattle.slice_num.specs.declared.interval.Interval.{Interval}
use Rattle.slice_num.specs.Pieces.{with_part}
use Rattle.slice_core.specs.Run.{Piece, left_piece}
use Rattle.slice_num.specs.declared.cut_answer.CutAnswer.{CutAnswer}
use Rattle.slice_num.proofs.Parts.{part_none, part_at}
use Rattle.slice_step.specs.Arithmetic.{share_in, is_right_at, is_right_in}
use Rattle.slice_step.specs.Exact.{IsLeastAnswer, LiesIn}
use Rattle.std.proofs.lemmas.Option.{slice_get_within}
use Rattle.slice_step.proofs.LeastAnswer.{at_most-out, both_true}

pub get_some : {A : Type 0} (xs : List A) (k : ℕ) (x : A) → k < length xs → x ≡ get_or xs k x → slice_get xs k ≡ Some x
get_some [] k x h e = absurd (omega (arith, h))
get_some (y ∷ ys) zero x h e = ap Some (sym e)
get_some (y ∷ ys) (suc k) x h e = get_some ys k x (omega (arith, h)) e

-- a part by its number
pub record PartAt {A : Type 0} (xs : List A) (k : ℕ) (i : A) : Type 0 where
  pub split : xs ≡ take k xs ++ i ∷ drop (k + 1) xs
  pub number : k ≡ length (take k xs)

pub part_split : {A : Type 0} (xs : List A) (k : ℕ) (i : A) → slice_get xs k ≡ Some i → PartAt xs k i
part_split {A = A} xs k i h = let n : suc k ≡ k + 1 = omega arith in record { split = by xs k h ∙ ap (λ m. take k xs ++ i ∷ drop m xs) n; number = long xs k h }
  where
    by : (xs : List A) (k : ℕ) → slice_get xs k ≡ Some i → xs ≡ take k xs ++ i ∷ drop (suc k) xs
    by [] k h = cc
    by (x ∷ xs) zero h = (let e : x ≡ i = cc in ap (λ z. z ∷ xs) e)
    by (x ∷ xs) (suc k) h = ap (λ zs. x ∷ zs) (by xs k h)

    long : (xs : List A) (k : ℕ) → slice_get xs k ≡ Some i → k ≡ length (take k xs)
    long [] k h = cc
    long (x ∷ xs) zero h = refl
    long (x ∷ xs) (suc k) h = ap suc (long xs k h)

pub with_part-at : {A R : Type 0} (xs : List A) (k : ℕ) (i : A) (other : R) (go : List A → A → List A → R) → slice_get xs k ≡ Some i → with_part [] xs k other go ≡ go (take k xs) i (drop (k + 1) xs)
with_part-at xs k i other go h = let s = part_split xs k i h in part_at xs (take k xs) i (drop (k + 1) xs) k other go s.split s.number

pub right_none : (v : Valuation) (piece : Piece) (amount : Rational) (y : CutAnswer) → length piece ≤ y.part → is_right_in v piece amount y ≡ Fitted false
right_none v piece amount y h = part_none [] piece y.part (Fitted false) (is_right_at v amount y.point) h

-- the test at the answer's part
right_part : (v : Valuation) (piece : Piece) (amount : Rational) (y : CutAnswer) (i : Interval) → y.part < length piece → i ≡ get_or piece y.part i
    → is_right_in v piece amount y ≡ is_right_at v amount y.point (take y.part piece) i (drop (y.part + 1) piece)
right_part v piece amount y i h e = with_part-at piece y.part i (Fitted false) (is_right_at v amount y.point) (get_some piece y.part i h e)

pub right_outside : (v : Valuation) (piece : Piece) (amount : Rational) (y : CutAnswer) (i : Interval) → y.part < length piece → i ≡ get_or piece y.part i → (at_most i.from y.point && at_most y.point i.to) ≡ false
    → is_right_in v piece amount y ≡ Fitted false
right_outside v piece amount y i h e out =
    right_part v piece amount y i h e
    ∙ ap (λ (t : Bool). if t then next (share_in v (left_piece (take y.part piece) i y.point)) (λ worth. Fitted (same_as worth amount)) else Fitted false) out

pub right_inside : (v : Valuation) (piece : Piece) (amount : Rational) (y : CutAnswer) (i : Interval) (m : Fitting Rational) → y.part < length piece → i ≡ get_or piece y.part i → (at_most i.from y.point && at_most y.point i.to) ≡ true
    → m ≡ share_in v (left_piece (take y.part piece) i y.point) → next m (λ worth. Fitted (same_as worth amount)) ≡ is_right_in v piece amount y
right_inside v piece amount y i m h e inside is =
    ap (λ (k : Fitting Rational). next k (λ worth. Fitted (same_as worth amount))) is
    ∙ ap (λ (t : Bool). if t then next (share_in v (left_piece (take y.part piece) i y.point)) (λ worth. Fitted (same_as worth amount)) else Fitted false) (sym inside)
    ∙ sym (right_part v piece amount y i h e)

pub lies_in : (piece : Piece) (y : CutAnswer) (i : Interval) → y.part < length piece → i ≡ get_or piece y.part i → (at_most i.from y.point && at_most y.point i.to) ≡ true → LiesIn piece y
lies_in piece y i h e inside =
    let both = both_true (at_most i.from y.point) (at_most y.point i.to) inside in
    record {
      there = h;
      within = λ j k. (let same : Some i ≡ Some j = sym (get_some piece y.part i h e) ∙ k in let is : i ≡ j = cc in
          (subst_from i j is (at_most-out i.from y.point both.0), subst_to i j is (at_most-out y.point i.to both.1)));
    }
  where
    subst_from : (i j : Interval) → i ≡ j → IsAtMost i.from y.point → IsAtMost j.from y.point
    subst_from i j e h = subst (λ (k : Interval). IsAtMost k.from y.point) e h

    subst_to : (i j : Interval) → i ≡ j → IsAtMost y.point i.to → IsAtMost y.point j.to
    subst_to i j e h = subst (λ (k : Interval). IsAtMost y.point k.to) e h

-- ---- a least right answer lies in the piece
get_split : {A : Type 0} (before : List A) (x : A) (after : List A) → slice_get (before ++ x ∷ after) (length before) ≡ Some x
get_split [] x after = refl
get_split (y ∷ before) x after = get_split before x after

pub least_lies : (w : Piece → Rational) (piece : Piece) (amount : Rational) (y : CutAnswer) → IsLeastAnswer w piece amount y → LiesIn piece y
least_lies w piece amount y l =
    let at : slice_get piece y.part ≡ Some l.here = (λ k. slice_get (l.parts k) (l.number k)) ∙ get_split l.before l.here l.after in
    record {
      there = slice_get_within piece y.part l.here at;
      within = λ j k. (let same : Some l.here ≡ Some j = sym at ∙ k in let is : l.here ≡ j = cc in
          subst (λ (i : Interval). IsAtMost i.from y.point × IsAtMost y.point i.to) is (l.low, l.high));
    }
