-- The pass finds what some way has, and stops at the first fault.
use Rattle.std.proofs.Common.{◌≡◌, ℕ, ◌<◌, ◌≤◌, Bool, true, false, ◌&&◌, ◌==◌, List, [], ◌∷◌, ◌++◌, ◌⊎◌, inl, inr, ⊎_elim, Option, Some, None, refl, ap, sym, subst, ◌∙◌, arith, eq-eqb, eqb-true}
use Rattle.std.specs.Prelude.{if◌then◌else◌}
use Rattle.slice_affine.specs.Scope.{Binding}
use Rattle.slice_affine.specs.Faults.{place_of, is_before}
use Rattle.slice_affine.proofs.Scan.{least}
use Rattle.slice_affine.specs.Ways.{Event, Stage, Flow, Stop, Then, Split, IsIn, Uses, HasAlone, Stands, IsFirst}
use Rattle.slice_affine.proofs.Scan.{Used, unused, noted, noted_all, told, twice, stage_faults, Scanned, Fine, Bad, and_then, unless_fault, scan}
use Rattle.slice_affine.specs.Pass.{lesser}
use Rattle.slice_affine.proofs.Spans.{AreOnce, Lies, Spans}
use Rattle.slice_affine.proofs.WayLemmas.{Prior, HasUse, UsedIn, Plus, Joined, Comes, Late, Nothing, late_on_a_way, on_a_way_late, in_left, in_right, in_parts}
use Rattle.slice_affine.proofs.LeastLemmas.{Told, least_none, least_some, not_before, same_before, Keeps, keeps_same, keeps_lesser}
use Rattle.slice_affine.specs.declared.fault.AffineFault.{AffineFault}
use Rattle.slice_affine.specs.declared.fault.AffineFault.TheVariants.{UsedTwice}

-- for each binding the least place of a use is kept
pub record Exact (us : Used) (P : Prior) : Type 0 where
  pub at : (k : Binding) → Keeps (us k) (P k)

exact_same : (us : Used) (P Q : Prior) → ((k q : ℕ) → P k q → Q k q) → ((k q : ℕ) → Q k q → P k q) → Exact us P → Exact us Q
exact_same us P Q f g x = record { at = λ k. keeps_same (us k) (P k) (Q k) (f k) (g k) (x.at k) }

abbrev With : Prior → Event → Prior
With P e k q = P k q ⊎ Uses e k q

exact_noted : (us : Used) (P : Prior) (e : Event) → Exact us P → Exact (noted us e) (With P e)
exact_noted us P e x = record { at = λ k. by k e.is_use (e.piece == k) refl refl (x.at k) }
  where
    here : (k : ℕ) → e.is_use ≡ true → (e.piece == k) ≡ true → Keeps (Some e.name.at) (Uses e k)
    here k x y = ((x, eqb-true e.piece k y, refl), λ q u. omega (arith, u.2))

    by : (k : ℕ) (u b : Bool) → e.is_use ≡ u → (e.piece == k) ≡ b → Keeps (us k) (P k) → Keeps (if u && b then lesser (us k) (Some e.name.at) else us k) (With P e k)
    by k true true x y h = keeps_lesser (us k) (Some e.name.at) (P k) (Uses e k) h (here k x y)
    by k true false x y h = keeps_same (us k) (P k) (With P e k) (λ q a. inl a) (λ q a. ⊎_elim (λ z. z) (λ u. absurd (clash (eq-eqb e.piece k u.1) y)) a) h
      where
        clash : {b : Bool} → b ≡ true → b ≡ false → ⊥
        clash x y = cc
    by k false b x y h = keeps_same (us k) (P k) (With P e k) (λ q a. inl a) (λ q a. ⊎_elim (λ z. z) (λ u. absurd (clash u.0 x)) a) h
      where
        clash : {b : Bool} → b ≡ true → b ≡ false → ⊥
        clash x y = cc

pub exact_after : (es : List Event) (us : Used) (P : Prior) → Exact us P → Exact (noted_all us es) (Plus P es)
exact_after [] us P x = exact_same us P (Plus P []) (λ k q h. inl h) (λ k q h. ⊎_elim (λ z. z) (λ z. absurd z) h) x
exact_after (e ∷ es) us P x = exact_same (noted_all (noted us e) es) (Plus (With P e) es) (Plus P (e ∷ es))
    (λ k q h. ⊎_elim (λ a. ⊎_elim (λ z. inl z) (λ z. inr (inl z)) a) (λ a. inr (inr a)) h)
    (λ k q h. ⊎_elim (λ a. inl (inl a)) (λ a. ⊎_elim (λ z. inl (inr z)) (λ z. inr z) a) h)
    (exact_after es (noted us e) (With P e) (exact_noted us P e x))

comes_in : (P : Prior) (es : List Event) (q : ℕ) (late : Event) → Comes P es q late → IsIn late es
comes_in P [] q late h = ⊎_elim (λ p. p.1) (λ r. absurd r) h
comes_in P (e ∷ es) q late h = ⊎_elim (λ p. p.1) (λ r. ⊎_elim (λ u. inr u.1) (λ u. inr (comes_in P es q late (inr u))) r) h

comes_further : (P : Prior) (e : Event) (es : List Event) (q : ℕ) (late : Event) → Comes (With P e) es q late → Comes P (e ∷ es) q late
comes_further P e es q late h = ⊎_elim (λ p. ⊎_elim (λ x. inl (x, inr p.1)) (λ x. inr (inl (x, p.1))) p.0) (λ r. inr (inr r)) h

comes_first : (P : Prior) (e : Event) (es : List Event) (q : ℕ) (late : Event) → Comes P (e ∷ es) q late → ((late ≡ e) × P late.piece q) ⊎ Comes (With P e) es q late
comes_first P e es q late h = ⊎_elim
    (λ p. ⊎_elim (λ s. inl (s, p.0)) (λ i. inr (inl (inl p.0, i))) p.1)
    (λ r. ⊎_elim (λ u. inr (inl (inr u.0, u.1))) (λ u. inr (inr u)) r) h

-- the fault of an event that comes after a use, with the least place of one
pub record Found (C : ℕ → Event → Type 0) (f : AffineFault) : Type 0 where
  pub late : Event
  pub first : ℕ
  pub is : f ≡ UsedTwice late.name.word late.name.at first
  pub comes : C first late
  pub least : (q : ℕ) → C q late → first ≤ q

twice_found : (es : List Event) (us : Used) (P : Prior) → Exact us P → AreOnce es → (f : AffineFault) → IsIn f (twice us es) → Found (Comes P es) f
twice_found [] us P x once f h = absurd h
twice_found (e ∷ es) us P x once f h = ⊎_elim
    (λ i. here (us e.piece) (x.at e.piece) i)
    (λ i. there (twice_found es (noted us e) (With P e) (exact_noted us P e x) once.1 f i))
    (in_parts f (told (us e.piece) e) (twice (noted us e) es) h)
  where
    only : (q : ℕ) → Comes P (e ∷ es) q e → P e.piece q
    only q c = ⊎_elim (λ a. a.1) (λ b. absurd (once.0 (comes_in (With P e) es q e b))) (comes_first P e es q e c)

    here : (o : Option ℕ) → Keeps o (P e.piece) → IsIn f (told o e) → Found (Comes P (e ∷ es)) f
    here None k i = absurd i
    here (Some first) k i = ⊎_elim
        (λ s. record { late = e; first = first; is = s; comes = inl (k.0, inl refl); least = λ q c. k.1 q (only q c) })
        (λ z. absurd z) i

    there : Found (Comes (With P e) es) f → Found (Comes P (e ∷ es)) f
    there r = record {
      late = r.late;
      first = r.first;
      is = r.is;
      comes = comes_further P e es r.first r.late r.comes;
      least = λ q c. ⊎_elim
          (λ a. absurd (once.0 (subst (λ (z : Event). IsIn z es) a.0 (comes_in (With P e) es r.first r.late r.comes))))
          (λ b. r.least q b) (comes_first P e es q r.late c);
    }

twice_covers : (es : List Event) (us : Used) (P : Prior) → Exact us P → (q : ℕ) (late : Event) → Comes P es q late
    → (first : ℕ) × IsIn (UsedTwice late.name.word late.name.at first) (twice us es)
twice_covers [] us P x q late c = absurd (comes_in P [] q late c)
twice_covers (e ∷ es) us P x q late c = ⊎_elim
    (λ a. here (us e.piece) (x.at e.piece) a.0 (subst (λ (z : Event). P z.piece q) a.0 a.1))
    (λ b. let r = twice_covers es (noted us e) (With P e) (exact_noted us P e x) q late b in
    (r.0, in_right (UsedTwice late.name.word late.name.at r.0) (told (us e.piece) e) (twice (noted us e) es) r.1))
    (comes_first P e es q late c)
  where
    here : (o : Option ℕ) → Keeps o (P e.piece) → late ≡ e → P e.piece q → (first : ℕ) × IsIn (UsedTwice late.name.word late.name.at first) (told o e ++ twice (noted us e) es)
    here None k s p = absurd (k q p)
    here (Some first) k s p = (first, inl (ap (λ (z : Event). UsedTwice z.name.word z.name.at first) s))

-- no fault stands in the flow
pub record Clear (P : Prior) (t : Flow) : Type 0 where
  pub alone : (f : AffineFault) → HasAlone t f → ⊥
  pub late : (q : ℕ) (late : Event) → Late P t q late → ⊥

-- it is the first that stands in the flow
pub record FirstIn (P : Prior) (t : Flow) (f : AffineFault) : Type 0 where
  pub stands : HasAlone t f ⊎ Found (Late P t) f
  pub alone : (g : AffineFault) → HasAlone t g → is_before g f ≡ false
  pub late : (q : ℕ) (late : Event) → Late P t q late → is_before (UsedTwice late.name.word late.name.at q) f ≡ false

abbrev pub Outcome : Prior → Flow → Scanned → Type 0
Outcome P t (Fine vs) = Clear P t × Exact vs (λ k q. P k q ⊎ UsedIn t k q)
Outcome P t (Bad f) = FirstIn P t f

pub spans_on : (t : Flow) (lo hi : ℕ) → Spans lo hi t → lo ≤ hi
spans_on Stop lo hi s = s
spans_on (Then l rest) lo hi s = let a : lo ≤ s.0 = s.1 in let b : s.0 ≤ hi = spans_on rest s.0 hi s.3 in omega arith
spans_on (Split a b rest) lo hi s = let x : lo ≤ s.0 = s.2 in let y : s.0 ≤ s.1 = s.3 in let z : s.1 ≤ hi = spans_on rest s.1 hi s.6 in omega arith

-- from lo on and before hi
abbrev In : ℕ → ℕ → ℕ → Type 0
In lo hi p = (lo ≤ p) × (p < hi)

wider : (a b c d p : ℕ) → a ≤ b → c ≤ d → In b c p → In a d p
wider a b c d p x y h = let u = h.0 in let v = h.1 in (omega arith, omega arith)

alone_in : (t : Flow) (lo hi : ℕ) → Spans lo hi t → (f : AffineFault) → HasAlone t f → In lo hi (place_of f)
alone_in Stop lo hi s f h = absurd h
alone_in (Then l rest) lo hi s f h =
    let on : s.0 ≤ hi = spans_on rest s.0 hi s.3 in
    ⊎_elim (λ a. wider lo lo s.0 hi (place_of f) (omega arith) on (s.2.faults f a))
    (λ b. ⊎_elim (λ a. wider lo lo s.0 hi (place_of f) (omega arith) on (s.2.rebinds f a))
    (λ a. wider lo s.0 hi hi (place_of f) s.1 (omega arith) (alone_in rest s.0 hi s.3 f a)) b) h
alone_in (Split a b rest) lo hi s f h =
    let on : s.1 ≤ hi = spans_on rest s.1 hi s.6 in
    let over : s.0 ≤ s.1 = s.3 in
    let from : lo ≤ s.0 = s.2 in
    ⊎_elim (λ x. wider lo lo s.0 hi (place_of f) (omega arith) (omega arith) (alone_in a lo s.0 s.4 f x))
    (λ y. ⊎_elim (λ x. wider lo s.0 s.1 hi (place_of f) from on (alone_in b s.0 s.1 s.5 f x))
    (λ x. wider lo s.1 hi hi (place_of f) (omega arith) (omega arith) (alone_in rest s.1 hi s.6 f x)) y) h

late_in : (t : Flow) (lo hi : ℕ) → Spans lo hi t → (P : Prior) (q : ℕ) (late : Event) → Late P t q late → In lo hi late.name.at
late_in Stop lo hi s P q late h = absurd h
late_in (Then l rest) lo hi s P q late h =
    let on : s.0 ≤ hi = spans_on rest s.0 hi s.3 in
    ⊎_elim (λ a. wider lo lo s.0 hi late.name.at (omega arith) on (s.2.events late (comes_in P l.events q late a)))
    (λ b. wider lo s.0 hi hi late.name.at s.1 (omega arith) (late_in rest s.0 hi s.3 (Plus P l.events) q late b)) h
late_in (Split a b rest) lo hi s P q late h =
    let on : s.1 ≤ hi = spans_on rest s.1 hi s.6 in
    let over : s.0 ≤ s.1 = s.3 in
    let from : lo ≤ s.0 = s.2 in
    ⊎_elim (λ x. wider lo lo s.0 hi late.name.at (omega arith) (omega arith) (late_in a lo s.0 s.4 P q late x))
    (λ y. ⊎_elim (λ x. wider lo s.0 s.1 hi late.name.at from on (late_in b s.0 s.1 s.5 P q late x))
    (λ x. wider lo s.1 hi hi late.name.at (omega arith) (omega arith) (late_in rest s.1 hi s.6 (Joined P a b) q late x)) y) h

-- a first fault stands where its flow does
first_in : (t : Flow) (lo hi : ℕ) → Spans lo hi t → (P : Prior) (f : AffineFault) → FirstIn P t f → In lo hi (place_of f)
first_in t lo hi s P f h = ⊎_elim
    (λ a. alone_in t lo hi s f a)
    (λ r. subst (λ (z : AffineFault). In lo hi (place_of z)) (sym r.is) (late_in t lo hi s P r.first r.late r.comes)) h.stands

at_stage : (l : Stage) (rest : Flow) (lo mid hi : ℕ) → Lies lo mid l → Spans mid hi rest → (us : Used) (P : Prior) → Exact us P
    → (f : AffineFault) → Told (stage_faults us l) f → FirstIn P (Then l rest) f
at_stage l rest lo mid hi lies s us P x f t = record { stands = stands; alone = alone; late = late }
  where
    twos : List AffineFault
    twos = twice us l.events

    found : IsIn f twos → Found (Comes P l.events) f
    found h = twice_found l.events us P x lies.once f h

    parts : IsIn f l.faults ⊎ (IsIn f twos ⊎ IsIn f l.rebinds)
    parts = ⊎_elim (λ a. inl a) (λ b. inr (in_parts f twos l.rebinds b)) (in_parts f l.faults (twos ++ l.rebinds) t.among)

    inside : In lo mid (place_of f)
    inside = ⊎_elim (λ a. lies.faults f a) (λ b. ⊎_elim
        (λ a. let r = found a in subst (λ (z : AffineFault). In lo mid (place_of z)) (sym r.is) (lies.events r.late (comes_in P l.events r.first r.late r.comes)))
        (λ a. lies.rebinds f a) b) parts

    behind : (p : ℕ) → In mid hi p → place_of f < p
    behind p h = let a = h.0 in let b = inside.1 in omega arith

    stands : HasAlone (Then l rest) f ⊎ Found (Late P (Then l rest)) f
    stands = ⊎_elim (λ a. inl (inl a)) (λ b. ⊎_elim
        (λ a. let r = found a in inr (record {
          late = r.late;
          first = r.first;
          is = r.is;
          comes = inl r.comes;
          least = λ q c. ⊎_elim (λ y. r.least q y)
              (λ y. absurd (apart r.late.name.at (lies.events r.late (comes_in P l.events r.first r.late r.comes)) (late_in rest mid hi s (Plus P l.events) q r.late y))) c;
        }))
        (λ a. inl (inr (inl a))) b) parts
      where
        apart : (p : ℕ) → In lo mid p → In mid hi p → ⊥
        apart p h k = let a = h.1 in let b = k.0 in omega arith

    alone : (g : AffineFault) → HasAlone (Then l rest) g → is_before g f ≡ false
    alone g h = ⊎_elim
        (λ a. t.first g (in_left g l.faults (twos ++ l.rebinds) a))
        (λ b. ⊎_elim
        (λ a. t.first g (in_right g l.faults (twos ++ l.rebinds) (in_right g twos l.rebinds a)))
        (λ a. not_before g f (behind (place_of g) (alone_in rest mid hi s g a))) b) h

    late : (q : ℕ) (e : Event) → Late P (Then l rest) q e → is_before (UsedTwice e.name.word e.name.at q) f ≡ false
    late q e h = ⊎_elim
        (λ a. let r = twice_covers l.events us P x q e a in
        let one : AffineFault = UsedTwice e.name.word e.name.at r.0 in
        same_before (UsedTwice e.name.word e.name.at q) one f refl refl
        ∙ t.first one (in_right one l.faults (twos ++ l.rebinds) (in_left one twos l.rebinds r.1)))
        (λ a. not_before (UsedTwice e.name.word e.name.at q) f (behind e.name.at (late_in rest mid hi s (Plus P l.events) q e a))) h

after_stage : (l : Stage) (rest : Flow) (lo mid hi : ℕ) → Lies lo mid l → Spans mid hi rest → (us : Used) (P : Prior) → Exact us P
    → ((f : AffineFault) → IsIn f (stage_faults us l) → ⊥) → (s : Scanned) → Outcome (Plus P l.events) rest s → Outcome P (Then l rest) s
after_stage l rest lo mid hi lies s us P x none (Fine vs) o = (
  record {
    alone = λ f h. ⊎_elim (λ a. none f (in_left f l.faults (twice us l.events ++ l.rebinds) a))
        (λ b. ⊎_elim (λ a. none f (in_right f l.faults (twice us l.events ++ l.rebinds) (in_right f (twice us l.events) l.rebinds a))) (λ a. o.0.alone f a) b) h;
    late = λ q e h. ⊎_elim
        (λ a. let r = twice_covers l.events us P x q e a in
        let one : AffineFault = UsedTwice e.name.word e.name.at r.0 in
        none one (in_right one l.faults (twice us l.events ++ l.rebinds) (in_left one (twice us l.events) l.rebinds r.1)))
        (λ a. o.0.late q e a) h;
  },
  exact_same vs (λ k q. Plus P l.events k q ⊎ UsedIn rest k q) (λ k q. P k q ⊎ (HasUse l.events k q ⊎ UsedIn rest k q))
      (λ k q h. ⊎_elim (λ a. ⊎_elim (λ z. inl z) (λ z. inr (inl z)) a) (λ a. inr (inr a)) h)
      (λ k q h. ⊎_elim (λ a. inl (inl a)) (λ a. ⊎_elim (λ z. inl (inr z)) (λ z. inr z) a) h) o.1,
)
after_stage l rest lo mid hi lies s us P x none (Bad f) o = record {
  stands = ⊎_elim (λ a. inl (inr (inr a))) (λ r. inr (record {
    late = r.late;
    first = r.first;
    is = r.is;
    comes = inr r.comes;
    least = λ q c. ⊎_elim
        (λ y. let w = twice_covers l.events us P x q r.late y in
        let one : AffineFault = UsedTwice r.late.name.word r.late.name.at w.0 in
        absurd (none one (in_right one l.faults (twice us l.events ++ l.rebinds) (in_left one (twice us l.events) l.rebinds w.1))))
        (λ y. r.least q y) c;
  })) o.stands;
  alone = λ g h. ⊎_elim (λ a. absurd (none g (in_left g l.faults (twice us l.events ++ l.rebinds) a)))
      (λ b. ⊎_elim (λ a. absurd (none g (in_right g l.faults (twice us l.events ++ l.rebinds) (in_right g (twice us l.events) l.rebinds a)))) (λ a. o.alone g a) b) h;
  late = λ q e h. ⊎_elim
      (λ a. let r = twice_covers l.events us P x q e a in
      let one : AffineFault = UsedTwice e.name.word e.name.at r.0 in
      absurd (none one (in_right one l.faults (twice us l.events ++ l.rebinds) (in_left one (twice us l.events) l.rebinds r.1))))
      (λ a. o.late q e a) h;
}

in_one : (a b rest : Flow) (lo m n hi : ℕ) → m ≤ n → Spans lo m a → Spans m n b → Spans n hi rest → (P : Prior) (f : AffineFault) → FirstIn P a f → FirstIn P (Split a b rest) f
in_one a b rest lo m n hi over sa sb sr P f o = record {
  stands = ⊎_elim (λ x. inl (inl x)) (λ r. inr (record {
    late = r.late;
    first = r.first;
    is = r.is;
    comes = inl r.comes;
    least = λ q c. let p = (late_in a lo m sa P r.first r.late r.comes).1 in
        ⊎_elim (λ y. r.least q y) (λ z. ⊎_elim
        (λ y. let k = (late_in b m n sb P q r.late y).0 in absurd (omega arith))
        (λ y. let k = (late_in rest n hi sr (Joined P a b) q r.late y).0 in absurd (omega arith)) z) c;
  })) o.stands;
  alone = λ g h. ⊎_elim (λ x. o.alone g x) (λ z. ⊎_elim
      (λ y. let k = (alone_in b m n sb g y).0 in not_before g f (omega (arith, on)))
      (λ y. let k = (alone_in rest n hi sr g y).0 in not_before g f (omega (arith, on))) z) h;
  late = λ q e h. ⊎_elim (λ x. o.late q e x) (λ z. ⊎_elim
      (λ y. let k = (late_in b m n sb P q e y).0 in not_before (UsedTwice e.name.word e.name.at q) f (omega (arith, on)))
      (λ y. let k = (late_in rest n hi sr (Joined P a b) q e y).0 in not_before (UsedTwice e.name.word e.name.at q) f (omega (arith, on))) z) h;
}
  where
    on : place_of f < m
    on = (first_in a lo m sa P f o).1

in_other : (a b rest : Flow) (m n hi : ℕ) → Spans m n b → Spans n hi rest → (P : Prior) (f : AffineFault) → Clear P a → FirstIn P b f → FirstIn P (Split a b rest) f
in_other a b rest m n hi sb sr P f clear o = record {
  stands = ⊎_elim (λ x. inl (inr (inl x))) (λ r. inr (record {
    late = r.late;
    first = r.first;
    is = r.is;
    comes = inr (inl r.comes);
    least = λ q c. let p = (late_in b m n sb P r.first r.late r.comes).1 in
        ⊎_elim (λ y. absurd (clear.late q r.late y)) (λ z. ⊎_elim
        (λ y. r.least q y)
        (λ y. let k = (late_in rest n hi sr (Joined P a b) q r.late y).0 in absurd (omega arith)) z) c;
  })) o.stands;
  alone = λ g h. ⊎_elim (λ x. absurd (clear.alone g x)) (λ z. ⊎_elim
      (λ y. o.alone g y)
      (λ y. let k = (alone_in rest n hi sr g y).0 in not_before g f (omega (arith, on))) z) h;
  late = λ q e h. ⊎_elim (λ x. absurd (clear.late q e x)) (λ z. ⊎_elim
      (λ y. o.late q e y)
      (λ y. let k = (late_in rest n hi sr (Joined P a b) q e y).0 in not_before (UsedTwice e.name.word e.name.at q) f (omega (arith, on))) z) h;
}
  where
    on : place_of f < n
    on = (first_in b m n sb P f o).1

in_rest : (a b rest : Flow) (P : Prior) → Clear P a → Clear P b → (s : Scanned) → Outcome (Joined P a b) rest s → Outcome P (Split a b rest) s
in_rest a b rest P ca cb (Fine vs) o = (
  record {
    alone = λ f h. ⊎_elim (λ x. ca.alone f x) (λ z. ⊎_elim (λ y. cb.alone f y) (λ y. o.0.alone f y) z) h;
    late = λ q e h. ⊎_elim (λ x. ca.late q e x) (λ z. ⊎_elim (λ y. cb.late q e y) (λ y. o.0.late q e y) z) h;
  },
  exact_same vs (λ k q. Joined P a b k q ⊎ UsedIn rest k q) (λ k q. P k q ⊎ (UsedIn a k q ⊎ (UsedIn b k q ⊎ UsedIn rest k q)))
      (λ k q h. ⊎_elim (λ x. ⊎_elim (λ z. inl z) (λ z. inr (⊎_elim (λ y. inl y) (λ y. inr (inl y)) z)) x) (λ x. inr (inr (inr x))) h)
      (λ k q h. ⊎_elim (λ x. inl (inl x)) (λ z. ⊎_elim (λ y. inl (inr (inl y))) (λ y. ⊎_elim (λ u. inl (inr (inr u))) (λ u. inr u) y) z) h) o.1,
)
in_rest a b rest P ca cb (Bad f) o = record {
  stands = ⊎_elim (λ x. inl (inr (inr x))) (λ r. inr (record {
    late = r.late;
    first = r.first;
    is = r.is;
    comes = inr (inr r.comes);
    least = λ q c. ⊎_elim (λ y. absurd (ca.late q r.late y)) (λ z. ⊎_elim (λ y. absurd (cb.late q r.late y)) (λ y. r.least q y) z) c;
  })) o.stands;
  alone = λ g h. ⊎_elim (λ x. absurd (ca.alone g x)) (λ z. ⊎_elim (λ y. absurd (cb.alone g y)) (λ y. o.alone g y) z) h;
  late = λ q e h. ⊎_elim (λ x. absurd (ca.late q e x)) (λ z. ⊎_elim (λ y. absurd (cb.late q e y)) (λ y. o.late q e y) z) h;
}

exact_joined : (us vs : Used) (P : Prior) (a b : Flow) → Exact us (λ k q. P k q ⊎ UsedIn a k q) → Exact vs (λ k q. P k q ⊎ UsedIn b k q) → Exact (λ k. lesser (us k) (vs k)) (Joined P a b)
exact_joined us vs P a b x y = exact_same (λ k. lesser (us k) (vs k)) (λ k q. (P k q ⊎ UsedIn a k q) ⊎ (P k q ⊎ UsedIn b k q)) (Joined P a b)
    (λ k q h. ⊎_elim (λ z. ⊎_elim (λ u. inl u) (λ u. inr (inl u)) z) (λ z. ⊎_elim (λ u. inl u) (λ u. inr (inr u)) z) h)
    (λ k q h. ⊎_elim (λ z. inl (inl z)) (λ z. ⊎_elim (λ u. inl (inr u)) (λ u. inr (inr u)) z) h)
    (record { at = λ k. keeps_lesser (us k) (vs k) (λ q. P k q ⊎ UsedIn a k q) (λ q. P k q ⊎ UsedIn b k q) (x.at k) (y.at k) })

pub scan_is : (t : Flow) (lo hi : ℕ) → Spans lo hi t → (us : Used) (P : Prior) → Exact us P → Outcome P t (scan t us)
scan_is Stop lo hi s us P x = (
  record { alone = λ f h. h; late = λ q e h. h },
  exact_same us P (λ k q. P k q ⊎ ⊥) (λ k q h. inl h) (λ k q h. ⊎_elim (λ z. z) (λ z. absurd z) h) x,
)
scan_is (Then l rest) lo hi s us P x = by (least (stage_faults us l)) refl (scan_is rest s.0 hi s.3 (noted_all us l.events) (Plus P l.events) (exact_after l.events us P x))
  where
    by : (o : Option AffineFault) → least (stage_faults us l) ≡ o → Outcome (Plus P l.events) rest (scan rest (noted_all us l.events))
        → Outcome P (Then l rest) (unless_fault o (scan rest (noted_all us l.events)))
    by None n o = after_stage l rest lo s.0 hi s.2 s.3 us P x (least_none (stage_faults us l) n) (scan rest (noted_all us l.events)) o
    by (Some f) n o = at_stage l rest lo s.0 hi s.2 s.3 us P x f (least_some (stage_faults us l) f n)
scan_is (Split a b rest) lo hi s us P x =
    by (scan a us) (scan_is a lo s.0 s.4 us P x) (scan b us) (scan_is b s.0 s.1 s.5 us P x)
    (λ ws z. scan_is rest s.1 hi s.6 ws (Joined P a b) z)
  where
    by : (o : Scanned) → Outcome P a o → (r : Scanned) → Outcome P b r → ((ws : Used) → Exact ws (Joined P a b) → Outcome (Joined P a b) rest (scan rest ws))
        → Outcome P (Split a b rest) (and_then o (λ u. and_then r (λ v. scan rest (λ k. lesser (u k) (v k)))))
    by (Bad f) o r p k = in_one a b rest lo s.0 s.1 hi s.3 s.4 s.5 s.6 P f o
    by (Fine u) o (Bad f) p k = in_other a b rest s.0 s.1 hi s.5 s.6 P f o.0 p
    by (Fine u) o (Fine v) p k = in_rest a b rest P o.0 p.0 (scan rest (λ j. lesser (u j) (v j))) (k (λ j. lesser (u j) (v j)) (exact_joined u v P a b o.1 p.1))

nothing_used : Exact unused Nothing
nothing_used = record { at = λ k q h. h }

-- a flow in which nothing stands is passed
pub scan_fine : (t : Flow) (lo hi : ℕ) → Spans lo hi t → (vs : Used) → scan t unused ≡ Fine vs → (f : AffineFault) → Stands t f → ⊥
scan_fine t lo hi s vs e f h =
    let o : Outcome Nothing t (Fine vs) = subst (λ (z : Scanned). Outcome Nothing t z) e (scan_is t lo hi s unused Nothing nothing_used) in
    ⊎_elim (λ a. o.0.alone f a) (λ b. o.0.late b.1 b.0 (on_a_way_late t b.1 b.0 b.3)) h

-- and otherwise the fault is the first that stands
pub scan_bad : (t : Flow) (lo hi : ℕ) → Spans lo hi t → (f : AffineFault) → scan t unused ≡ Bad f → IsFirst t f
scan_bad t lo hi s f e = record {
  stands = ⊎_elim (λ a. inl a)
      (λ r. inr (r.late, r.first, r.is, late_on_a_way t r.first r.late r.comes, λ q c. r.least q (on_a_way_late t q r.late c))) o.stands;
  first = λ g h. ⊎_elim (λ a. o.alone g a)
      (λ b. subst (λ (z : AffineFault). is_before z f ≡ false) (sym b.2) (o.late b.1 b.0 (on_a_way_late t b.1 b.0 b.3))) h;
}
  where
    o : Outcome Nothing t (Bad f)
    o = subst (λ (z : Scanned). Outcome Nothing t z) e (scan_is t lo hi s unused Nothing nothing_used)
