-- No step makes or loses a point of the cake.
use Rattle.std.proofs.Common.{◌≡◌, ◌∙◌, ℕ, zero, suc, ◌+◌, ◌-◌, ◌≤◌, ◌<◌, arith, refl, ap, sym, subst, Bool, true, false, List, [], ◌∷◌, ◌++◌, append_assoc, length, length-set, replicate, pos}
use Rattle.std.proofs.lemmas.List.{length-replicate}
use Rattle.std.specs.Prelude.{if◌then◌else◌, ◌&&◌}
use Rattle.slice_num.specs.Rational.{Rational, whole, IsAtMost}
use Rattle.slice_num.specs.Fitting.{below}
use Rattle.slice_num.specs.Valuation.{cake}
use Rattle.slice_num.specs.declared.interval.Interval.{Interval}
use Rattle.slice_num.proofs.FieldLaws.{below-true, below-false, below-is, below-not, below_trans}
use Rattle.slice_core.specs.Tree.{Tree, Ask, Set, Cut, Join, Test, Give, End}
use Rattle.slice_num.specs.Pieces.{piece_at, emptied, given, joined, with_part}
use Rattle.slice_core.specs.Agents.{IsAgent, HasAgents}
use Rattle.slice_core.specs.Division.{lies_in, times_in, IsDivision, RunsDivide}
use Rattle.slice_core.specs.Run.{Piece, Worth, Board, State, Ending, Done, Bad, run, start, ended, chosen, cut_on, join_on, give_on, before_point, after_point, left_piece, right_piece, is_right, cut_at, goes_yes, sum_value}
use Rattle.slice_core.proofs.CutLaws.{cut_part, cut_answered, cut_at-is}
use Rattle.slice_num.specs.declared.cut_answer.CutAnswer.{CutAnswer}

choose : {A : Type 0} (P : A → Type 0) (b : Bool) (x y : A) → (b ≡ true → P x) → (b ≡ false → P y) → P (if b then x else y)
choose P true x y h k = h refl
choose P false x y h k = k refl

both_true : (x y : Bool) → (x && y) ≡ true → (x ≡ true) × (y ≡ true)
both_true true true e = (e, e)
both_true true false e = (cc, e)
both_true false y e = (e, cc)

flip : (b : Bool) → (if b then false else true) ≡ true → b ≡ false
flip true e = cc
flip false e = refl

abbrev one_of : Bool → ℕ
one_of b = if b then 1 else 0

-- 1 where the point lies in the stretch
abbrev one_in : Rational → Interval → ℕ
one_in t i = one_of (lies_in t i)

-- a point lies in one side of a cut
sides : (t : Rational) (i : Interval) (y : Rational) → IsAtMost i.from y → IsAtMost y i.to → one_in t (before_point i y) + one_in t (after_point i y) ≡ one_in t i
sides t i y h k = by (below t i.from) (below t y) (below t i.to) refl refl refl
  where
    clash : {b : Bool} → b ≡ true → b ≡ false → ⊥
    clash u v = cc

    by : (p q r : Bool) → below t i.from ≡ p → below t y ≡ q → below t i.to ≡ r
        → one_of ((if p then false else true) && q) + one_of ((if q then false else true) && r) ≡ one_of ((if p then false else true) && r)
    by true true r e f g = refl
    by true false r e f g = absurd (clash (below-is t y (below_trans t i.from y (below-true t i.from e) h)) f)
    by false true true e f g = refl
    by false true false e f g = absurd (clash (below-is t i.to (below_trans t y i.to (below-true t y f) k)) g)
    by false false true e f g = refl
    by false false false e f g = refl

-- ---- counts
times-append : (t : Rational) (xs ys : List Interval) → times_in t (xs ++ ys) ≡ times_in t xs + times_in t ys
times-append t [] ys = omega arith
times-append t (x ∷ xs) ys = omega (arith, times-append t xs ys)

abbrev held : Rational → List Piece → ℕ
held t ps = times_in t (joined ps)

held-append : (t : Rational) (ps qs : List Piece) → held t (ps ++ qs) ≡ held t ps + held t qs
held-append t [] qs = omega arith
held-append t (p ∷ ps) qs = omega (arith, times-append t p (joined (ps ++ qs)), times-append t p (joined ps), held-append t ps qs)

held_emptied : (t : Rational) (ps : List Piece) (p : ℕ) → held t (emptied ps p) + times_in t (piece_at ps p) ≡ held t ps
held_emptied t [] p = refl
held_emptied t (x ∷ ps) zero = omega (arith, times-append t x (joined ps))
held_emptied t (x ∷ ps) (suc p) = omega (arith, times-append t x (joined ps), times-append t x (joined (emptied ps p)), held_emptied t ps p)

held_given : (t : Rational) (ps : List Piece) (a : ℕ) (piece : Piece) → a < length ps → held t (given ps a piece) ≡ held t ps + times_in t piece
held_given t [] a piece h = absurd (omega arith)
held_given t (x ∷ ps) zero piece h = omega (arith, times-append t (x ++ piece) (joined ps), times-append t x piece, times-append t x (joined ps))
held_given t (x ∷ ps) (suc a) piece h = omega (arith, times-append t x (joined ps), times-append t x (joined (given ps a piece)), held_given t ps a piece (omega (arith, h)))

held_one : (t : Rational) (x : Piece) → held t (x ∷ []) ≡ times_in t x
held_one t x = times-append t x [] ∙ omega arith

held_two : (t : Rational) (x y : Piece) → held t (x ∷ y ∷ []) ≡ times_in t x + times_in t y
held_two t x y = times-append t x (y ++ []) ∙ ap (λ (n : ℕ). times_in t x + n) (held_one t y)

-- ---- what is kept
record Kept (agents length_ : ℕ) (b : Board) : Type 0 where
  each : (t : Rational) → held t b.shares + held t b.pieces ≡ one_in t (cake length_)
  room : length b.shares ≡ agents

module _ (agents length_ : ℕ) where
  kept_joined : (b : Board) (p q : ℕ) → Kept agents length_ b → Kept agents length_ (join_on p q b)
  kept_joined b p q k = record {
    each = λ t.
        let both = piece_at b.pieces p ++ piece_at (emptied b.pieces p) q in
        omega (arith, k.each t, held-append t (emptied (emptied b.pieces p) q) (both ∷ []), held_one t both, times-append t (piece_at b.pieces p) (piece_at (emptied b.pieces p) q), held_emptied t (emptied b.pieces p) q, held_emptied t b.pieces p);
    room = k.room;
  }

  kept_given : (b : Board) (p a : ℕ) → IsAgent agents a → Kept agents length_ b → Kept agents length_ (give_on p a b)
  kept_given b p a is k = record {
    each = λ t. let l : a - 1 < length b.shares = omega (arith, k.room, is.0, is.1) in omega (arith, k.each t, held_emptied t b.pieces p, held_given t b.shares (a - 1) (piece_at b.pieces p) l);
    room = length-set b.shares (a - 1) _ ∙ k.room;
  }

  kept_cut : (b : Board) (a p : ℕ) (v : Rational) (y : CutAnswer) (before : Piece) (i : Interval) (after : Piece) → before ++ i ∷ after ≡ piece_at b.pieces p → IsAtMost i.from y.point → IsAtMost y.point i.to → Kept agents length_ b
      → Kept agents length_ (cut_on a p v y (left_piece before i y.point) (right_piece i y.point after) b)
  kept_cut b a p v y before i after parts lo hi k = record {
    each = λ t.
        let x = left_piece before i y.point in
        let z = right_piece i y.point after in
        omega (arith, k.each t, held-append t (emptied b.pieces p) (x ∷ z ∷ []), held_two t x z, times-append t before (before_point i y.point ∷ []), sides t i y.point lo hi, held_emptied t b.pieces p, ap (times_in t) parts, times-append t before (i ∷ after));
    room = k.room;
  }

  module _ (w : Worth) where
    abbrev Divides : Tree → Type 0
    Divides next = (regs : List Rational) (s : State) → Kept agents length_ s.board → IsDivision length_ (run w next regs s)

    ended_divides : (e : Ending) (ys : List CutAnswer) → IsDivision length_ e → IsDivision length_ (ended e ys)
    ended_divides e [] h = h
    ended_divides e (y ∷ ys) h = tt

    part_divides : (go : Piece → Interval → Piece → Ending) (q : ℕ) (all_parts before after : Piece) (i : ℕ) → before ++ after ≡ all_parts → ((b : Piece) (x : Interval) (r : Piece) → b ++ x ∷ r ≡ all_parts → IsDivision length_ (go b x r))
        → IsDivision length_ (with_part before after i (Bad q) go)
    part_divides go q all_parts before [] i e h = tt
    part_divides go q all_parts before (x ∷ after) zero e h = h before x after e
    part_divides go q all_parts before (x ∷ after) (suc i) e h = part_divides go q all_parts (before ++ x ∷ []) after i (append_assoc before (x ∷ []) after ∙ e) h

    cut_divides : (next : Tree) → Divides next → (a p : ℕ) (v : Rational) (regs : List Rational) (s : State) → Kept agents length_ s.board → IsDivision length_ (cut_at (w a) a p v (run w next regs) s)
    cut_divides next later a p v regs s k =
        subst (IsDivision length_) (sym (cut_at-is (w a) a p v (run w next regs) s))
        (choose (IsDivision length_) (below v (whole (pos 0))) _ _ (λ e. ended_divides _ s.answers tt) (λ e.
        choose (IsDivision length_) (below (w a (piece_at s.board.pieces p)) v) _ _ (λ f. ended_divides _ s.answers tt) (λ f. answered s.answers)))
      where
        part : (y : CutAnswer) (ys : List CutAnswer) (b : Piece) (i : Interval) (r : Piece) → b ++ i ∷ r ≡ piece_at s.board.pieces p → IsDivision length_ (cut_part (w a) a p v y ys (run w next regs) s b i r)
        part y ys b i r parts =
            choose (IsDivision length_) (is_right (w a) b i y.point v) _ _
            (λ e. let x = both_true _ _ e in let z = both_true _ _ x.1 in
            later regs _ (kept_cut s.board a p v y b i r parts (below-false y.point i.from (flip _ x.0)) (below-false i.to y.point (flip _ z.0)) k))
            (λ e. tt)

        answered : (ys : List CutAnswer) → IsDivision length_ (cut_answered (w a) a p v (run w next regs) s ys)
        answered [] = tt
        answered (y ∷ ys) = part_divides (cut_part (w a) a p v y ys (run w next regs) s) _ (piece_at s.board.pieces p) [] (piece_at s.board.pieces p) y.part refl (part y ys)

    end_divides : (s : State) → Kept agents length_ s.board → IsDivision length_ (Done s)
    end_divides s k = (
      λ t. at_most_one t (lies_in t (cake length_)) (times-append t (joined s.board.shares) (joined s.board.pieces) ∙ k.each t),
      λ t lo hi. times-append t (joined s.board.shares) (joined s.board.pieces) ∙ k.each t ∙ inside t (below t (whole (pos 0))) (below t (whole (pos length_))) (below-not t (whole (pos 0)) lo) (below-is t (whole (pos length_)) hi),
    )
      where
        at_most_one : (t : Rational) (b : Bool) → times_in t (joined s.board.shares ++ joined s.board.pieces) ≡ one_of b → times_in t (joined s.board.shares ++ joined s.board.pieces) ≤ 1
        at_most_one t true e = omega (arith, e)
        at_most_one t false e = omega (arith, e)

        inside : (t : Rational) (p q : Bool) → p ≡ false → q ≡ true → one_of ((if p then false else true) && q) ≡ 1
        inside t true q e f = cc
        inside t false true e f = refl
        inside t false false e f = cc

    divides : (tree : Tree) → HasAgents agents tree → Divides tree
    divides (Ask a p r next) is regs s k = divides next is.1 _ _ (record { each = k.each; room = k.room })
    divides (Set r sum next) is regs s k = divides next is _ s k
    divides (Cut a p amount l r next) is regs s k = cut_divides next (divides next is.1) a p (sum_value regs amount.terms) regs s k
    divides (Join p q r next) is regs s k = divides next is regs _ (kept_joined s.board p q k)
    divides (Test left right strict at_yes at_no) is regs s k =
        choose (IsDivision length_) (goes_yes strict (sum_value regs left.terms) (sum_value regs right.terms)) _ _
        (λ e. divides at_yes is.0 regs (chosen _ s) (record { each = k.each; room = k.room })) (λ e. divides at_no is.1 regs (chosen _ s) (record { each = k.each; room = k.room }))
    divides (Give p a next) is regs s k = divides next is.1 regs _ (kept_given s.board p a is.0 k)
    divides End is regs s k = ended_divides (Done s) s.answers (end_divides s k)

pub runs_divide : RunsDivide
runs_divide w core length_ ys is =
    divides core.agents length_ w core.tree is [] (start core.agents length_ ys) (record { each = λ t. omega (arith, none t core.agents, held_one t (cake length_ ∷ [])); room = length-replicate core.agents [] })
  where
    none : (t : Rational) (n : ℕ) → held t (replicate n []) ≡ 0
    none t zero = refl
    none t (suc n) = none t n
