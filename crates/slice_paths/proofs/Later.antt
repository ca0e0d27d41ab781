-- Places later on a way: the cake is cut further, and conditions are only added.
use Rattle.std.proofs.Common.{◌≡◌, ◌∙◌, refl, sym, subst, List, [], ◌∷◌, ◌++◌, inl, inr, append_assoc}
use Rattle.slice_num.specs.Rational.{Rational}
use Rattle.slice_num.specs.declared.interval.Interval.{Interval}
use Rattle.slice_core.specs.Tree.{Tree, Ask, Set, Cut, Join, Test, Give, End}
use Rattle.slice_num.specs.Pieces.{piece_at, each_part}
use Rattle.slice_core.specs.Run.{before_point, after_point}
use Rattle.slice_atoms.specs.Addresses.{L, R, Address, Cake, Atom, Halves, halved, left_of, right_of}
use Rattle.slice_num.specs.declared.choice.Choice.{Choice}
use Rattle.slice_num.specs.declared.choice.Choice.TheVariants as choice
use Rattle.slice_linear.specs.declared.row.RowKind.{RowKind}
use Rattle.slice_atoms.specs.Forms.{Form, sub_form}
use Rattle.slice_paths.specs.Places.{Condition, Way, Place, places, sum_form, test_way, yes_kind, no_kind}
use Rattle.slice_paths.specs.Points.{Points, Uncut, At, stretch_of, IsInside}
use Rattle.slice_atoms.specs.AtomLaws.{IsMade}
use Rattle.slice_atoms.proofs.AtomOrder.{IsAtom}
use Rattle.slice_paths.proofs.Fits.{IsIn, IsNode}
use Rattle.slice_paths.proofs.Parts.{in_left, in_either}

-- all that was cut in the first is cut in the second
abbrev pub Refines : Cake → Cake → Type 0
Refines Atom k = Unit {0}
Refines (Halves l r) Atom = ⊥
Refines (Halves l r) (Halves x y) = Refines l x × Refines r y

pub refines_self : (k : Cake) → Refines k k
refines_self Atom = tt
refines_self (Halves l r) = (refines_self l, refines_self r)

pub refines_trans : (a b c : Cake) → Refines a b → Refines b c → Refines a c
refines_trans Atom b c h k = tt
refines_trans (Halves l r) Atom c h k = absurd h
refines_trans (Halves l r) (Halves x y) Atom h k = absurd k
refines_trans (Halves l r) (Halves x y) (Halves u v) h k = (refines_trans l x u h.0 k.0, refines_trans r y v h.1 k.1)

pub refines_halved : (A : Address) (k : Cake) → Refines k (halved A k)
refines_halved [] Atom = tt
refines_halved [] (Halves l r) = refines_self (Halves l r)
refines_halved (a ∷ A) Atom = tt
refines_halved (L ∷ A) (Halves l r) = (refines_halved A l, refines_self r)
refines_halved (R ∷ A) (Halves l r) = (refines_self l, refines_halved A r)

-- what was made stays so
pub made_refined : (k m : Cake) (A : Address) → IsMade k A → Refines k m → IsMade m A
made_refined k m [] h r = tt
made_refined Atom m (a ∷ A) h r = absurd h
made_refined (Halves x y) Atom (a ∷ A) h r = absurd r
made_refined (Halves x y) (Halves u v) (L ∷ A) h r = made_refined x u A h r.0
made_refined (Halves x y) (Halves u v) (R ∷ A) h r = made_refined y v A h r.1

pub halves_made : (k : Cake) (A : Address) → IsAtom k A → IsMade (halved A k) (left_of A) × IsMade (halved A k) (right_of A)
halves_made Atom [] h = (tt, tt)
halves_made Atom (a ∷ A) h = absurd h
halves_made (Halves x y) [] h = absurd h
halves_made (Halves x y) (L ∷ A) h = halves_made x A h
halves_made (Halves x y) (R ∷ A) h = halves_made y A h

-- the point at which a node was cut
abbrev pub point_of : Points → Interval → Address → Rational
point_of t c A = (stretch_of t c (left_of A)).to

pub halves_end : (t : Points) (c : Interval) (A : Address) → IsNode t (left_of A) → (stretch_of t c (left_of A) ≡ before_point (stretch_of t c A) (point_of t c A)) × (stretch_of t c (right_of A) ≡ after_point (stretch_of t c A) (point_of t c A))
halves_end Uncut c [] h = absurd h
halves_end (At y l r) c [] h = (refl, refl)
halves_end Uncut c (a ∷ A) h = absurd h
halves_end (At y l r) c (L ∷ A) h = halves_end l (before_point c y) A h
halves_end (At y l r) c (R ∷ A) h = halves_end r (after_point c y) A h

pub inside_node : (t : Points) (c : Interval) (A : Address) → IsNode t A → IsInside t c → (u : Points) × IsInside u (stretch_of t c A)
inside_node t c [] h i = (t, i)
inside_node Uncut c (a ∷ A) h i = absurd h
inside_node (At y l r) c (L ∷ A) h i = inside_node l (before_point c y) A h i.0
inside_node (At y l r) c (R ∷ A) h i = inside_node r (after_point c y) A h i.1

-- ---- where a place can stand
pub record InPart (x : Place) (parts : List Address) (go : List Address → Address → List Address → List Place) : Type 0 where
  pub before : List Address
  pub part : Address
  pub after : List Address
  pub parts_are : before ++ part ∷ after ≡ parts
  pub is_one : IsIn x (go before part after)

pub in_each : (x : Place) (before after parts : List Address) (go : List Address → Address → List Address → List Place) → before ++ after ≡ parts → IsIn x (each_part before after go) → InPart x parts go
in_each x before [] parts go e h = absurd h
in_each x before (A ∷ after) parts go e h = elim (in_either x (go before A after) _ h) [
  | inl k ↦ record { before = before; part = A; after = after; parts_are = e; is_one = k }
  | inr k ↦ in_each x (before ++ A ∷ []) after parts go (append_assoc before (A ∷ []) after ∙ e) k
]

pub record IsLater (k m : Way) : Type 0 where
  pub cake : Refines k.cake m.cake
  pub conditions : (d : Condition) → IsIn d k.conditions → IsIn d m.conditions

later_same : (k m : Way) → k.cake ≡ m.cake → k.conditions ≡ m.conditions → IsLater k m
later_same k m e f = record { cake = subst (Refines k.cake) e (refines_self k.cake); conditions = λ d. subst (IsIn d) f }

-- a test, by the two ways that go on from it
later_test : (x : Place) (k : Way) (kind : RowKind) (f : Form) (c : Choice) (kind2 : RowKind) (f2 : Form) (c2 : Choice) (ps qs : Way → List Place)
    → ((m : Way) → IsIn x (ps m) → IsLater m x.way) → ((m : Way) → IsIn x (qs m) → IsLater m x.way) → IsIn x (ps (test_way kind f c k) ++ qs (test_way kind2 f2 c2 k)) → IsLater k x.way
later_test x k kind f c kind2 f2 c2 ps qs one_ two h = elim (in_either x (ps (test_way kind f c k)) (qs (test_way kind2 f2 c2 k)) h) [
  | inl g ↦ let r = one_ (test_way kind f c k) g in record { cake = r.cake; conditions = λ d i. r.conditions d (in_left d k.conditions (record { kind = kind; form = f } ∷ []) i) }
  | inr g ↦ let r = two (test_way kind2 f2 c2 k) g in record { cake = r.cake; conditions = λ d i. r.conditions d (in_left d k.conditions (record { kind = kind2; form = f2 } ∷ []) i) }
]

pub later : (core : Tree) (fs : List Form) (k : Way) (x : Place) → IsIn x (places core fs k) → IsLater k x.way
later (Ask a p r next) fs k x h = let g = later next _ _ x h in record { cake = g.cake; conditions = g.conditions }
later (Set r sum next) fs k x h = later next _ _ x h
later (Join p q r next) fs k x h = let g = later next _ _ x h in record { cake = g.cake; conditions = g.conditions }
later (Give p a next) fs k x h = let g = later next _ _ x h in record { cake = g.cake; conditions = g.conditions }
later End fs k x (inl e) = subst (λ (y : Place). IsLater k y.way) (sym e) (later_same k k refl refl)
later End fs k x (inr h) = absurd h
later (Test left right strict y n) fs k x h =
    later_test x k (yes_kind strict) (sub_form (sum_form fs left.terms) (sum_form fs right.terms)) choice.Yes (no_kind strict) (sub_form (sum_form fs right.terms) (sum_form fs left.terms)) choice.No
    (places y fs) (places n fs) (λ m. later y fs m x) (λ m. later n fs m x) h
later (Cut a p amount l r next) fs k x (inl e) = subst (λ (y : Place). IsLater k y.way) (sym e) (later_same k _ refl refl)
later (Cut a p amount l r next) fs k x (inr (inl e)) = subst (λ (y : Place). IsLater k y.way) (sym e) (later_same k _ refl refl)
later (Cut a p amount l r next) fs k x (inr (inr h)) =
    let g = in_each x [] (piece_at k.pieces p) (piece_at k.pieces p) _ refl h in
    let z = later next _ _ x g.is_one in
    record {
      cake = refines_trans k.cake (halved g.part k.cake) x.way.cake (refines_halved g.part k.cake) z.cake;
      conditions = λ d i. z.conditions d (in_left d k.conditions _ i);
    }
