-- What some way has, told by recursion on the flow.
use Rattle.std.proofs.Common.{ℕ, List, [], ◌∷◌, ◌++◌, ◌⊎◌, inl, inr, ⊎_elim, refl, subst}
use Rattle.slice_affine.specs.Scope.{Binding}
use Rattle.slice_affine.specs.Ways.{Event, Flow, Stop, Then, Split, IsWay, IsIn, Uses, ComesAfter, ComesAfterOnAWay}

-- one of these events uses the piece at this place
abbrev pub HasUse : List Event → Binding → ℕ → Type 0
HasUse [] k q = ⊥
HasUse (e ∷ w) k q = Uses e k q ⊎ HasUse w k q

-- on some way the piece is used at this place
abbrev pub UsedIn : Flow → Binding → ℕ → Type 0
UsedIn Stop k q = ⊥
UsedIn (Then l rest) k q = HasUse l.events k q ⊎ UsedIn rest k q
UsedIn (Split a b rest) k q = UsedIn a k q ⊎ (UsedIn b k q ⊎ UsedIn rest k q)

-- uses before a flow
abbrev pub Prior : Type 1
Prior = Binding → ℕ → Type 0

abbrev pub Plus : Prior → List Event → Prior
Plus P w k q = P k q ⊎ HasUse w k q

abbrev pub Joined : Prior → Flow → Flow → Prior
Joined P a b k q = P k q ⊎ (UsedIn a k q ⊎ UsedIn b k q)

-- the late event comes after a use, be it before these events or among them
abbrev pub Comes : Prior → List Event → ℕ → Event → Type 0
Comes P w q late = (P late.piece q × IsIn late w) ⊎ ComesAfter w q late

-- so in a flow
abbrev pub Late : Prior → Flow → ℕ → Event → Type 0
Late P Stop q late = ⊥
Late P (Then l rest) q late = Comes P l.events q late ⊎ Late (Plus P l.events) rest q late
Late P (Split a b rest) q late = Late P a q late ⊎ (Late P b q late ⊎ Late (Joined P a b) rest q late)

pub in_left : {A : Type 0} (x : A) (u v : List A) → IsIn x u → IsIn x (u ++ v)
in_left x [] v h = absurd h
in_left x (y ∷ u) v h = ⊎_elim (λ e. inl e) (λ r. inr (in_left x u v r)) h

pub in_right : {A : Type 0} (x : A) (u v : List A) → IsIn x v → IsIn x (u ++ v)
in_right x [] v h = h
in_right x (y ∷ u) v h = inr (in_right x u v h)

pub in_parts : {A : Type 0} (x : A) (u v : List A) → IsIn x (u ++ v) → IsIn x u ⊎ IsIn x v
in_parts x [] v h = inr h
in_parts x (y ∷ u) v h = ⊎_elim (λ e. inl (inl e)) (λ r. ⊎_elim (λ a. inl (inr a)) (λ b. inr b) (in_parts x u v r)) h

use_left : (u v : List Event) (k q : ℕ) → HasUse u k q → HasUse (u ++ v) k q
use_left [] v k q h = absurd h
use_left (y ∷ u) v k q h = ⊎_elim (λ e. inl e) (λ r. inr (use_left u v k q r)) h

use_right : (u v : List Event) (k q : ℕ) → HasUse v k q → HasUse (u ++ v) k q
use_right [] v k q h = h
use_right (y ∷ u) v k q h = inr (use_right u v k q h)

use_parts : (u v : List Event) (k q : ℕ) → HasUse (u ++ v) k q → HasUse u k q ⊎ HasUse v k q
use_parts [] v k q h = inr h
use_parts (y ∷ u) v k q h = ⊎_elim (λ e. inl (inl e)) (λ r. ⊎_elim (λ a. inl (inr a)) (λ b. inr b) (use_parts u v k q r)) h

after_left : (u v : List Event) (q : ℕ) (late : Event) → ComesAfter u q late → ComesAfter (u ++ v) q late
after_left [] v q late h = absurd h
after_left (y ∷ u) v q late h = ⊎_elim (λ e. inl (e.0, in_left late u v e.1)) (λ r. inr (after_left u v q late r)) h

after_right : (u v : List Event) (q : ℕ) (late : Event) → ComesAfter v q late → ComesAfter (u ++ v) q late
after_right [] v q late h = h
after_right (y ∷ u) v q late h = inr (after_right u v q late h)

after_across : (u v : List Event) (q : ℕ) (late : Event) → HasUse u late.piece q → IsIn late v → ComesAfter (u ++ v) q late
after_across [] v q late h i = absurd h
after_across (y ∷ u) v q late h i = ⊎_elim (λ e. inl (e, in_right late u v i)) (λ r. inr (after_across u v q late r i)) h

-- an event of two lists that comes after a use comes so in the first, or in the second after the first
after_parts : (u v : List Event) (q : ℕ) (late : Event) → ComesAfter (u ++ v) q late → ComesAfter u q late ⊎ ((HasUse u late.piece q × IsIn late v) ⊎ ComesAfter v q late)
after_parts [] v q late h = inr (inr h)
after_parts (y ∷ u) v q late h = ⊎_elim
    (λ e. ⊎_elim (λ a. inl (inl (e.0, a))) (λ b. inr (inl (inl e.0, b))) (in_parts late u v e.1))
    (λ r. ⊎_elim (λ a. inl (inr a)) (λ b. inr (⊎_elim (λ x. inl (inr x.0, x.1)) (λ x. inr x) b)) (after_parts u v q late r)) h

comes_parts : (P : Prior) (u v : List Event) (q : ℕ) (late : Event) → Comes P (u ++ v) q late → Comes P u q late ⊎ Comes (Plus P u) v q late
comes_parts P u v q late h = ⊎_elim
    (λ p. ⊎_elim (λ a. inl (inl (p.0, a))) (λ b. inr (inl (inl p.0, b))) (in_parts late u v p.1))
    (λ r. ⊎_elim (λ a. inl (inr a)) (λ b. inr (⊎_elim (λ x. inl (inr x.0, x.1)) (λ x. inr x) b)) (after_parts u v q late r)) h

pub comes_left : (P : Prior) (u v : List Event) (q : ℕ) (late : Event) → Comes P u q late → Comes P (u ++ v) q late
comes_left P u v q late h = ⊎_elim (λ p. inl (p.0, in_left late u v p.1)) (λ r. inr (after_left u v q late r)) h

pub comes_right : (P : Prior) (u v : List Event) (q : ℕ) (late : Event) → Comes (Plus P u) v q late → Comes P (u ++ v) q late
comes_right P u v q late h = ⊎_elim
    (λ p. ⊎_elim (λ a. inl (a, in_right late u v p.1)) (λ b. inr (after_across u v q late b p.1)) p.0)
    (λ r. inr (after_right u v q late r)) h

comes_more : (P Q : Prior) (w : List Event) (q : ℕ) (late : Event) → ((k p : ℕ) → P k p → Q k p) → Comes P w q late → Comes Q w q late
comes_more P Q w q late f h = ⊎_elim (λ p. inl (f late.piece q p.0, p.1)) (λ r. inr r) h

pub late_more : (t : Flow) (P Q : Prior) (q : ℕ) (late : Event) → ((k p : ℕ) → P k p → Q k p) → Late P t q late → Late Q t q late
late_more Stop P Q q late f h = h
late_more (Then l rest) P Q q late f h = ⊎_elim
    (λ a. inl (comes_more P Q l.events q late f a))
    (λ b. inr (late_more rest (Plus P l.events) (Plus Q l.events) q late (λ k p x. ⊎_elim (λ y. inl (f k p y)) (λ y. inr y) x) b)) h
late_more (Split a b rest) P Q q late f h = ⊎_elim
    (λ x. inl (late_more a P Q q late f x))
    (λ y. inr (⊎_elim
    (λ x. inl (late_more b P Q q late f x))
    (λ x. inr (late_more rest (Joined P a b) (Joined Q a b) q late (λ k p z. ⊎_elim (λ s. inl (f k p s)) (λ s. inr s) z) x)) y)) h

-- there is a way through each flow
pub a_way : (t : Flow) → (w : List Event) × IsWay t w
a_way Stop = ([], refl)
a_way (Then l rest) = let r = a_way rest in (l.events ++ r.0, (r.0, refl, r.1))
a_way (Split a b rest) = let x = a_way a in let r = a_way rest in (x.0 ++ r.0, (x.0, r.0, refl, inl x.1, r.1))

-- what a way uses is used on some way
pub way_uses : (t : Flow) (w : List Event) (k q : ℕ) → IsWay t w → HasUse w k q → UsedIn t k q
way_uses Stop w k q way h = subst (λ (x : List Event). HasUse x k q) way h
way_uses (Then l rest) w k q way h =
    ⊎_elim (λ a. inl a) (λ b. inr (way_uses rest way.0 k q way.2 b)) (use_parts l.events way.0 k q (subst (λ (x : List Event). HasUse x k q) way.1 h))
way_uses (Split a b rest) w k q way h =
    ⊎_elim
    (λ x. ⊎_elim (λ y. inl (way_uses a way.0 k q y x)) (λ y. inr (inl (way_uses b way.0 k q y x))) way.3)
    (λ x. inr (inr (way_uses rest way.1 k q way.4 x)))
    (use_parts way.0 way.1 k q (subst (λ (x : List Event). HasUse x k q) way.2 h))

pub uses_way : (t : Flow) (k q : ℕ) → UsedIn t k q → (w : List Event) × IsWay t w × HasUse w k q
uses_way Stop k q h = absurd h
uses_way (Then l rest) k q h = ⊎_elim
    (λ a. let r = a_way rest in (l.events ++ r.0, (r.0, refl, r.1), use_left l.events r.0 k q a))
    (λ b. let r = uses_way rest k q b in (l.events ++ r.0, (r.0, refl, r.1), use_right l.events r.0 k q r.2)) h
uses_way (Split a b rest) k q h = ⊎_elim
    (λ x. let u = uses_way a k q x in let r = a_way rest in (u.0 ++ r.0, (u.0, r.0, refl, inl u.1, r.1), use_left u.0 r.0 k q u.2))
    (λ y. ⊎_elim
    (λ x. let u = uses_way b k q x in let r = a_way rest in (u.0 ++ r.0, (u.0, r.0, refl, inr u.1, r.1), use_left u.0 r.0 k q u.2))
    (λ x. let u = a_way a in let r = uses_way rest k q x in (u.0 ++ r.0, (u.0, r.0, refl, inl u.1, r.1), use_right u.0 r.0 k q r.2)) y) h

-- what comes late on a way comes late in the flow
pub way_late : (t : Flow) (P : Prior) (w : List Event) (q : ℕ) (late : Event) → IsWay t w → Comes P w q late → Late P t q late
way_late Stop P w q late way h = let x : Comes P [] q late = subst (λ (x : List Event). Comes P x q late) way h in ⊎_elim (λ p. p.1) (λ r. r) x
way_late (Then l rest) P w q late way h =
    ⊎_elim (λ a. inl a) (λ b. inr (way_late rest (Plus P l.events) way.0 q late way.2 b))
    (comes_parts P l.events way.0 q late (subst (λ (x : List Event). Comes P x q late) way.1 h))
way_late (Split a b rest) P w q late way h =
    ⊎_elim
    (λ x. ⊎_elim (λ y. inl (way_late a P way.0 q late y x)) (λ y. inr (inl (way_late b P way.0 q late y x))) way.3)
    (λ x. inr (inr (way_late rest (Joined P a b) way.1 q late way.4 (comes_more (Plus P way.0) (Joined P a b) way.1 q late more x))))
    (comes_parts P way.0 way.1 q late (subst (λ (x : List Event). Comes P x q late) way.2 h))
  where
    more : (k p : ℕ) → Plus P way.0 k p → Joined P a b k p
    more k p h = ⊎_elim (λ y. inl y) (λ y. inr (⊎_elim (λ z. inl (way_uses a way.0 k p z y)) (λ z. inr (way_uses b way.0 k p z y)) way.3)) h

pub late_way : (t : Flow) (P : Prior) (q : ℕ) (late : Event) → Late P t q late → (w : List Event) × IsWay t w × Comes P w q late
late_way Stop P q late h = absurd h
late_way (Then l rest) P q late h = ⊎_elim
    (λ a. let r = a_way rest in (l.events ++ r.0, (r.0, refl, r.1), comes_left P l.events r.0 q late a))
    (λ b. let r = late_way rest (Plus P l.events) q late b in (l.events ++ r.0, (r.0, refl, r.1), comes_right P l.events r.0 q late r.2)) h
late_way (Split a b rest) P q late h = ⊎_elim
    (λ x. let u = late_way a P q late x in let r = a_way rest in (u.0 ++ r.0, (u.0, r.0, refl, inl u.1, r.1), comes_left P u.0 r.0 q late u.2))
    (λ y. ⊎_elim
    (λ x. let u = late_way b P q late x in let r = a_way rest in (u.0 ++ r.0, (u.0, r.0, refl, inr u.1, r.1), comes_left P u.0 r.0 q late u.2))
    (λ x. let r = late_way rest (Joined P a b) q late x in behind r.0 r.1 r.2) y) h
  where
    behind : (v : List Event) → IsWay rest v → Comes (Joined P a b) v q late → (w : List Event) × IsWay (Split a b rest) w × Comes P w q late
    behind v way c = ⊎_elim
        (λ p. ⊎_elim
        (λ x. let u = a_way a in (u.0 ++ v, (u.0, v, refl, inl u.1, way), comes_right P u.0 v q late (inl (inl x, p.1))))
        (λ y. ⊎_elim
        (λ x. let u = uses_way a late.piece q x in (u.0 ++ v, (u.0, v, refl, inl u.1, way), comes_right P u.0 v q late (inl (inr u.2, p.1))))
        (λ x. let u = uses_way b late.piece q x in (u.0 ++ v, (u.0, v, refl, inr u.1, way), comes_right P u.0 v q late (inl (inr u.2, p.1)))) y) p.0)
        (λ r. let u = a_way a in (u.0 ++ v, (u.0, v, refl, inl u.1, way), comes_right P u.0 v q late (inr r))) c

-- nothing was used before
abbrev pub Nothing : Prior
Nothing k q = ⊥

pub late_on_a_way : (t : Flow) (q : ℕ) (late : Event) → Late Nothing t q late → ComesAfterOnAWay t q late
late_on_a_way t q late h = let r = late_way t Nothing q late h in (r.0, r.1, ⊎_elim (λ p. absurd p.0) (λ x. x) r.2)

pub on_a_way_late : (t : Flow) (q : ℕ) (late : Event) → ComesAfterOnAWay t q late → Late Nothing t q late
on_a_way_late t q late h = way_late t Nothing h.0 q late h.1 (inr h.2)
