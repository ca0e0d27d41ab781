-- How a run fits a way: what is kept from step to step.
use Rattle.std.proofs.Common.{◌≡◌, map, ℕ, zero, suc, ◌+◌, ◌⊎◌, List, [], ◌∷◌, length, pos}
use Rattle.slice_num.specs.Rational.{Rational, plus, times, whole, IsBelow}
use Rattle.slice_num.specs.declared.interval.Interval.{Interval}
use Rattle.slice_core.specs.Run.{Piece, Worth, State, Ending, Done, Stuck, Few, Bad, Many, before_point, after_point}
use Rattle.slice_linear.specs.Proportion.{Meets}
use Rattle.slice_atoms.specs.Addresses.{L, R, Address}
use Rattle.slice_atoms.specs.AtomLaws.{IsMade}
use Rattle.slice_atoms.specs.Forms.{Form}
use Rattle.slice_atoms.proofs.AtomOrder.{IsAtom}
use Rattle.slice_atoms.proofs.PartCounts.{over, all_of}
use Rattle.slice_paths.specs.Places.{Condition, Way, Stop, AtEnd, AtCut, Place}
use Rattle.slice_paths.specs.Points.{Points, Uncut, At, cake_of, IsInside, stretch_of}
use Rattle.slice_paths.specs.RunLaws.{EndsAt}

abbrev pub none : Rational
none = whole (pos 0)

abbrev pub one : Rational
one = whole (pos 1)

abbrev pub IsIn : {A : Type 0} → A → List A → Type 0
IsIn x [] = ⊥
IsIn x (y ∷ ys) = (x ≡ y) ⊎ IsIn x ys

-- ---- points

-- the atom of that address is cut at the point
abbrev pub pointed : Address → Rational → Points → Points
pointed [] y Uncut = At y Uncut Uncut
pointed [] y (At x l r) = At x l r
pointed (a ∷ A) y Uncut = Uncut
pointed (L ∷ A) y (At x l r) = At x (pointed A y l) r
pointed (R ∷ A) y (At x l r) = At x l (pointed A y r)

-- the address was made; and it was not cut
abbrev pub IsNode : Points → Address → Type 0
IsNode t A = IsMade (cake_of t) A

abbrev pub IsLeaf : Points → Address → Type 0
IsLeaf t A = IsAtom (cake_of t) A

-- ---- what forms come to

-- f 1 + .. + f n
abbrev pub sum_agents : ℕ → (ℕ → Rational) → Rational
sum_agents zero f = none
sum_agents (suc n) f = plus (sum_agents n f) (f (suc n))

-- the sum over the atoms of coefficient times value
abbrev pub amount : (Piece → Rational) → Points → Interval → (Address → Rational) → Rational
amount w Uncut c f = times (f []) (w (c ∷ []))
amount w (At y l r) c f = plus (amount w l (before_point c y) (λ A. f (L ∷ A))) (amount w r (after_point c y) (λ A. f (R ∷ A)))

abbrev pub form_value : Worth → ℕ → Points → Interval → Form → Rational
form_value w n t c f = plus f.whole_of (sum_agents n (λ a. amount (w a) t c (f.at a)))

-- the coefficients don't differ below an atom
abbrev pub IsFlat : Points → (Address → Rational) → Type 0
IsFlat Uncut f = (A : Address) → f A ≡ f []
IsFlat (At y l r) f = IsFlat l (λ A. f (L ∷ A)) × IsFlat r (λ A. f (R ∷ A))

-- a number of a run is what the form comes to
pub record Means (w : Worth) (n : ℕ) (t : Points) (c : Interval) (v : Rational) (f : Form) : Type 0 where
  pub value : form_value w n t c f ≡ v
  pub flat : (a : ℕ) → IsFlat t (f.at a)

abbrev pub AllMean : Worth → ℕ → Points → Interval → List Rational → List Form → Type 0
AllMean w n t c [] [] = Unit {0}
AllMean w n t c (v ∷ vs) (f ∷ fs) = Means w n t c v f × AllMean w n t c vs fs
AllMean w n t c [] (f ∷ fs) = ⊥
AllMean w n t c (v ∷ vs) [] = ⊥

pub record IsTrueOf (w : Worth) (n : ℕ) (t : Points) (c : Interval) (d : Condition) : Type 0 where
  pub sign : Meets d.kind (form_value w n t c d.form)
  pub flat : (a : ℕ) → IsFlat t (d.form.at a)

abbrev pub AllTrue : Worth → ℕ → Points → Interval → List Condition → Type 0
AllTrue w n t c [] = Unit {0}
AllTrue w n t c (d ∷ ds) = IsTrueOf w n t c d × AllTrue w n t c ds

-- ---- runs

-- a run holds the pieces and shares of a way, as stretches; each atom is a part of one of them; and the choices and queries
-- are the same
pub record Held (n : ℕ) (f : Address → Interval) (s : State) (k : Way) : Type 0 where
  pub pieces : s.board.pieces ≡ map (map f) k.pieces
  pub shares : s.board.shares ≡ map (map f) k.shares
  pub room : length k.shares ≡ n
  pub conserved : (g : Address → ℕ) → all_of g k.pieces + all_of g k.shares ≡ over k.cake g
  pub trace : s.trace ≡ k.trace
  pub queries : length s.board.queries ≡ k.queries

-- on these points, and the conditions hold
pub record Fit (w : Worth) (n : ℕ) (c : Interval) (t : Points) (s : State) (k : Way) : Type 0 where
  pub held : Held n (stretch_of t c) s k
  pub inside : IsInside t c
  pub same_cake : cake_of t ≡ k.cake
  pub holds : AllTrue w n t c k.conditions

-- the own form of a stuck cut is above 0
abbrev pub OwnHolds : Worth → ℕ → Points → Interval → Stop → Type 0
OwnHolds w n t c AtEnd = Unit {0}
OwnHolds w n t c (AtCut at own) = IsBelow none (form_value w n t c own)

pub record Reached (w : Worth) (n : ℕ) (c : Interval) (ps : List Place) (e : Ending) (s : State) : Type 0 where
  pub place : Place
  pub is_one : IsIn place ps
  pub ends : EndsAt place.stop e
  pub cuts : Points
  pub fit : Fit w n c cuts s place.way
  pub own : OwnHolds w n cuts c place.stop

abbrev pub Reaches : Worth → ℕ → Interval → List Place → Ending → Type 0
Reaches w n c ps (Done s) = Reached w n c ps (Done s) s
Reaches w n c ps (Stuck at s) = Reached w n c ps (Stuck at s) s
Reaches w n c ps (Few query) = Unit {0}
Reaches w n c ps (Bad query) = Unit {0}
Reaches w n c ps Many = Unit {0}
