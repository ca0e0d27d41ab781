-- A parsed program meets the rules or has a first fault, and one alone; and the name that a fault tells is a name.
use Rattle.std.proofs.Common.{◌≡◌, ◌≢◌, ℕ, ◌<◌, ◌≤◌, Bool, false, ◌||◌, ◌&&◌, ◌==◌, List, [], ◌∷◌, ◌++◌, ◌⊎◌, inl, inr, ⊎_elim, Option, Some, None, refl, ap, sym, subst, ◌∙◌, arith}
use Rattle.std.specs.Prelude.{nat_lt, if◌then◌else◌}
use Rattle.std.proofs.lemmas.Bool.Decides.{nat_tests}
use Rattle.slice_ast.specs.Code.{PlainProgram}
use Rattle.slice_ast.specs.Tokens.{Mark, Spelled, program_marks}
use Rattle.slice_ast.specs.Spellable.{HasName}
use Rattle.slice_ast.specs.declared.tree.Name.{Name}
use Rattle.slice_affine.specs.Faults.{place_of, rank_of, is_before, TellsName}
use Rattle.slice_affine.specs.Ways.{Event, Flow, Stop, Then, Split, IsWay, IsIn, ComesAfter, ComesAfterOnAWay, IsUsedTwice, HasAlone, Stands}
use Rattle.slice_affine.specs.Rules.{flow_of, MeetsRules, IsFirstFault}
use Rattle.slice_affine.specs.Conditions.{IsParsed}
use Rattle.slice_affine.specs.ProgramPass.{program_fault}
use Rattle.slice_affine.proofs.Spans.{Spans}
use Rattle.slice_affine.proofs.ScanLemmas.{spans_on}
use Rattle.slice_affine.proofs.SpanLemmas.{program_span}
use Rattle.slice_affine.proofs.MarkLemmas.{program_placed}
use Rattle.slice_affine.proofs.NamedLemmas.{AllStages, named, IsOf, Sound, procs_sound}
use Rattle.slice_affine.proofs.TokenLemmas.{program_named, names_unique}
use Rattle.slice_affine.proofs.CheckLemmas.{IsTold, program_told, first_fault}
use Rattle.slice_affine.specs.declared.fault.AffineFault.{AffineFault}
use Rattle.slice_affine.specs.declared.fault.AffineFault.TheVariants.{Unbound, Rebound, UsedTwice, AgentRange, Arity, YieldCount, ZeroDen, ProcLimit, Memory}

-- ---- events of a flow
abbrev EventIn : Flow → Event → Type 0
EventIn Stop e = ⊥
EventIn (Then s rest) e = IsIn e s.events ⊎ EventIn rest e
EventIn (Split a b rest) e = EventIn a e ⊎ (EventIn b e ⊎ EventIn rest e)

parts : (e : Event) (u v : List Event) → IsIn e (u ++ v) → IsIn e u ⊎ IsIn e v
parts e [] v h = inr h
parts e (y ∷ u) v h = ⊎_elim (λ x. inl (inl x)) (λ r. ⊎_elim (λ a. inl (inr a)) (λ b. inr b) (parts e u v r)) h

way_event : (t : Flow) (w : List Event) → IsWay t w → (e : Event) → IsIn e w → EventIn t e
way_event Stop w h e i = subst (λ (z : List Event). IsIn e z) h i
way_event (Then s rest) w h e i = ⊎_elim (λ a. inl a) (λ a. inr (way_event rest h.0 h.2 e a)) (parts e s.events h.0 (subst (λ (z : List Event). IsIn e z) h.1 i))
way_event (Split a b rest) w h e i = ⊎_elim
    (λ x. ⊎_elim (λ y. inl (way_event a h.0 y e x)) (λ y. inr (inl (way_event b h.0 y e x))) h.3)
    (λ x. inr (inr (way_event rest h.1 h.4 e x)))
    (parts e h.0 h.1 (subst (λ (z : List Event). IsIn e z) h.2 i))

late_in_way : (w : List Event) (first : ℕ) (late : Event) → ComesAfter w first late → IsIn late w
late_in_way [] first late h = absurd h
late_in_way (e ∷ w) first late h = ⊎_elim (λ p. inr p.1) (λ r. inr (late_in_way w first late r)) h

late_event : (t : Flow) (first : ℕ) (late : Event) → ComesAfterOnAWay t first late → EventIn t late
late_event t first late h = way_event t h.0 h.1 late (late_in_way h.0 first late h.2)

event_has : (ms : List Mark) (t : Flow) → AllStages (Sound ms) t → (e : Event) → EventIn t e → IsIn (Spelled e.name) ms
event_has ms Stop h e i = absurd i
event_has ms (Then s rest) h e i = ⊎_elim (λ a. h.0.has e a) (λ a. event_has ms rest h.1 e a) i
event_has ms (Split a b rest) h e i = ⊎_elim (λ x. event_has ms a h.0 e x) (λ y. ⊎_elim (λ x. event_has ms b h.1 e x) (λ x. event_has ms rest h.2 e x) y) i

alone_of : (ms : List Mark) (t : Flow) → AllStages (Sound ms) t → (f : AffineFault) → HasAlone t f → IsOf ms f
alone_of ms Stop h f i = absurd i
alone_of ms (Then s rest) h f i = ⊎_elim (λ a. h.0.faults f a) (λ y. ⊎_elim (λ a. h.0.rebinds f a) (λ a. alone_of ms rest h.1 f a) y) i
alone_of ms (Split a b rest) h f i = ⊎_elim (λ x. alone_of ms a h.0 f x) (λ y. ⊎_elim (λ x. alone_of ms b h.1 f x) (λ x. alone_of ms rest h.2 f x) y) i

-- the events of a flow stand where it does
event_span : (t : Flow) (lo hi : ℕ) → Spans lo hi t → (e : Event) → EventIn t e → (lo ≤ e.name.at) × (e.name.at < hi)
event_span Stop lo hi s e i = absurd i
event_span (Then l rest) lo hi s e (inl i) =
    let p = s.2.events e i in let on = spans_on rest s.0 hi s.3 in (p.0, omega (arith, p.1, on))
event_span (Then l rest) lo hi s e (inr i) =
    let p = event_span rest s.0 hi s.3 e i in (omega (arith, p.0, s.1), p.1)
event_span (Split a b rest) lo hi s e (inl i) =
    let p = event_span a lo s.0 s.4 e i in let on = spans_on rest s.1 hi s.6 in (p.0, omega (arith, p.1, s.3, on))
event_span (Split a b rest) lo hi s e (inr (inl i)) =
    let p = event_span b s.0 s.1 s.5 e i in let on = spans_on rest s.1 hi s.6 in (omega (arith, p.0, s.2), omega (arith, p.1, on))
event_span (Split a b rest) lo hi s e (inr (inr i)) =
    let p = event_span rest s.1 hi s.6 e i in (omega (arith, p.0, s.2, s.3), p.1)

-- at one place stands one event
event_same : (ms : List Mark) (t : Flow) (lo hi : ℕ) → Spans lo hi t → AllStages (Sound ms) t → (e d : Event) → EventIn t e → EventIn t d → e.name.at ≡ d.name.at → e ≡ d
event_same ms Stop lo hi s h e d i j q = absurd i
event_same ms (Then l rest) lo hi s h e d (inl i) (inl j) q = h.0.same e d i j q
event_same ms (Then l rest) lo hi s h e d (inr i) (inr j) q = event_same ms rest s.0 hi s.3 h.1 e d i j q
event_same ms (Then l rest) lo hi s h e d (inl i) (inr j) q =
    let x = s.2.events e i in let y = event_span rest s.0 hi s.3 d j in absurd (omega (arith, x.1, y.0, q))
event_same ms (Then l rest) lo hi s h e d (inr i) (inl j) q =
    let x = s.2.events d j in let y = event_span rest s.0 hi s.3 e i in absurd (omega (arith, x.1, y.0, q))
event_same ms (Split a b rest) lo hi s h e d (inl i) (inl j) q = event_same ms a lo s.0 s.4 h.0 e d i j q
event_same ms (Split a b rest) lo hi s h e d (inl i) (inr (inl j)) q =
    let x = event_span a lo s.0 s.4 e i in let y = event_span b s.0 s.1 s.5 d j in absurd (omega (arith, x.1, y.0, q))
event_same ms (Split a b rest) lo hi s h e d (inl i) (inr (inr j)) q =
    let x = event_span a lo s.0 s.4 e i in let y = event_span rest s.1 hi s.6 d j in absurd (omega (arith, x.1, y.0, s.3, q))
event_same ms (Split a b rest) lo hi s h e d (inr (inl i)) (inl j) q =
    let x = event_span a lo s.0 s.4 d j in let y = event_span b s.0 s.1 s.5 e i in absurd (omega (arith, x.1, y.0, q))
event_same ms (Split a b rest) lo hi s h e d (inr (inl i)) (inr (inl j)) q = event_same ms b s.0 s.1 s.5 h.1 e d i j q
event_same ms (Split a b rest) lo hi s h e d (inr (inl i)) (inr (inr j)) q =
    let x = event_span b s.0 s.1 s.5 e i in let y = event_span rest s.1 hi s.6 d j in absurd (omega (arith, x.1, y.0, q))
event_same ms (Split a b rest) lo hi s h e d (inr (inr i)) (inl j) q =
    let x = event_span a lo s.0 s.4 d j in let y = event_span rest s.1 hi s.6 e i in absurd (omega (arith, x.1, y.0, s.3, q))
event_same ms (Split a b rest) lo hi s h e d (inr (inr i)) (inr (inl j)) q =
    let x = event_span b s.0 s.1 s.5 d j in let y = event_span rest s.1 hi s.6 e i in absurd (omega (arith, x.1, y.0, q))
event_same ms (Split a b rest) lo hi s h e d (inr (inr i)) (inr (inr j)) q = event_same ms rest s.1 hi s.6 h.2 e d i j q

-- ---- what a parsed program's flow is
sound : (p : PlainProgram) → IsParsed p → AllStages (Sound (program_marks p)) (flow_of p)
sound p h = let q = program_placed p h.places in procs_sound (program_marks p) (names_unique (program_marks p) 0 h.places) p [] p.procs 0 q.0 q.1 (λ m i. i)

-- ---- names
tells : (ms : List Mark) → ((n : Name) → IsIn (Spelled n) ms → HasName n) → (f : AffineFault) → IsOf ms f → TellsName f
tells ms h (Unbound word at) i = h (named word at) i
tells ms h (Rebound word at) i = h (named word at) i
tells ms h (UsedTwice word at first) i = absurd i
tells ms h (AgentRange at) i = tt
tells ms h (Arity at) i = tt
tells ms h (YieldCount at) i = tt
tells ms h (ZeroDen at) i = tt
tells ms h (ProcLimit at) i = tt
tells ms h Memory i = absurd i

pub faults_tell_names : (p : PlainProgram) (f : AffineFault) → IsParsed p → Stands (flow_of p) f → TellsName f
faults_tell_names p f h s = by s
  where
    by : Stands (flow_of p) f → TellsName f
    by (inl a) = tells (program_marks p) (program_named p h.spellable) f (alone_of (program_marks p) (flow_of p) (sound p h) f a)
    by (inr u) =
        let n : HasName u.0.name = program_named p h.spellable u.0.name (event_has (program_marks p) (flow_of p) (sound p h) u.0 (late_event (flow_of p) u.1 u.0 u.3)) in
        subst (λ (z : AffineFault). TellsName z) (sym u.2) n

-- ---- faults
abbrev word_of : AffineFault → List ℕ
word_of (Unbound word at) = word
word_of (Rebound word at) = word
word_of f = []

-- a fault from its rank, its place and its name
abbrev made : ℕ → ℕ → List ℕ → AffineFault
made r at word =
    if r == 0 then Unbound word at else
    if r == 1 then Rebound word at else
    if r == 3 then AgentRange at else
    if r == 4 then Arity at else
    if r == 5 then YieldCount at else
    if r == 6 then ZeroDen at else
    ProcLimit at

made_is : (ms : List Mark) (f : AffineFault) → IsOf ms f → f ≡ made (rank_of f) (place_of f) (word_of f)
made_is ms (Unbound word at) i = refl
made_is ms (Rebound word at) i = refl
made_is ms (UsedTwice word at first) i = absurd i
made_is ms (AgentRange at) i = refl
made_is ms (Arity at) i = refl
made_is ms (YieldCount at) i = refl
made_is ms (ZeroDen at) i = refl
made_is ms (ProcLimit at) i = refl
made_is ms Memory i = absurd i

not_twice : (ms : List Mark) (f : AffineFault) → IsOf ms f → rank_of f ≡ 2 → ⊥
not_twice ms (Unbound word at) i e = absurd (omega (arith, e))
not_twice ms (Rebound word at) i e = absurd (omega (arith, e))
not_twice ms (UsedTwice word at first) i e = i
not_twice ms (AgentRange at) i e = absurd (omega (arith, e))
not_twice ms (Arity at) i e = absurd (omega (arith, e))
not_twice ms (YieldCount at) i e = absurd (omega (arith, e))
not_twice ms (ZeroDen at) i e = absurd (omega (arith, e))
not_twice ms (ProcLimit at) i e = absurd (omega (arith, e))
not_twice ms Memory i e = i

-- it tells a name, or none
name_or_none : (ms : List Mark) (f : AffineFault) → IsOf ms f → (IsIn (Spelled (named (word_of f) (place_of f))) ms × (rank_of f < 2)) ⊎ ((word_of f ≡ []) × (2 ≤ rank_of f))
name_or_none ms (Unbound word at) i = let s : 0 < 2 = omega arith in inl (i, s)
name_or_none ms (Rebound word at) i = let s : 1 < 2 = omega arith in inl (i, s)
name_or_none ms (UsedTwice word at first) i = absurd i
name_or_none ms (AgentRange at) i = let s : 2 ≤ 3 = omega arith in inr (refl, s)
name_or_none ms (Arity at) i = let s : 2 ≤ 4 = omega arith in inr (refl, s)
name_or_none ms (YieldCount at) i = let s : 2 ≤ 5 = omega arith in inr (refl, s)
name_or_none ms (ZeroDen at) i = let s : 2 ≤ 6 = omega arith in inr (refl, s)
name_or_none ms (ProcLimit at) i = let s : 2 ≤ 7 = omega arith in inr (refl, s)
name_or_none ms Memory i = absurd i

word_same : (ms : List Mark) → ((m n : Name) → IsIn (Spelled m) ms → IsIn (Spelled n) ms → m.at ≡ n.at → m ≡ n)
    → (f g : AffineFault) → IsOf ms f → IsOf ms g → place_of f ≡ place_of g → rank_of f ≡ rank_of g → word_of f ≡ word_of g
word_same ms unique f g i j p r = by (name_or_none ms f i) (name_or_none ms g j)
  where
    by : (IsIn (Spelled (named (word_of f) (place_of f))) ms × (rank_of f < 2)) ⊎ ((word_of f ≡ []) × (2 ≤ rank_of f))
        → (IsIn (Spelled (named (word_of g) (place_of g))) ms × (rank_of g < 2)) ⊎ ((word_of g ≡ []) × (2 ≤ rank_of g)) → word_of f ≡ word_of g
    by (inl a) (inl b) = ap (λ (v : Name). v.word) (unique (named (word_of f) (place_of f)) (named (word_of g) (place_of g)) a.0 b.0 p)
    by (inr a) (inr b) = a.0 ∙ sym b.0
    by (inl a) (inr b) = absurd (omega (arith, a.1, b.1, r))
    by (inr a) (inl b) = absurd (omega (arith, a.1, b.1, r))

alone_same : (ms : List Mark) → ((m n : Name) → IsIn (Spelled m) ms → IsIn (Spelled n) ms → m.at ≡ n.at → m ≡ n)
    → (f g : AffineFault) → IsOf ms f → IsOf ms g → place_of f ≡ place_of g → rank_of f ≡ rank_of g → f ≡ g
alone_same ms unique f g i j p r =
    made_is ms f i ∙ ap (λ n. made n (place_of f) (word_of f)) r ∙ ap (λ n. made (rank_of g) n (word_of f)) p
    ∙ ap (made (rank_of g) (place_of g)) (word_same ms unique f g i j p r) ∙ sym (made_is ms g j)

abbrev before : ℕ → ℕ → ℕ → ℕ → Bool
before p r q s = nat_lt p q || ((p == q) && nat_lt r s)

tie_place : (p r q s : ℕ) → before p r q s ≡ false → before q s p r ≡ false → p ≡ q
tie_place p r q s h k = grind (arith, nat_tests)

tie_rank : (p r q s : ℕ) → before p r q s ≡ false → before q s p r ≡ false → r ≡ s
tie_rank p r q s h k = grind (arith, nat_tests)

ties : (f g : AffineFault) → is_before f g ≡ false → is_before g f ≡ false → (place_of f ≡ place_of g) × (rank_of f ≡ rank_of g)
unfolding is_before
ties f g h k = (tie_place (place_of f) (rank_of f) (place_of g) (rank_of g) h k, tie_rank (place_of f) (rank_of f) (place_of g) (rank_of g) h k)

twice_same : (ms : List Mark) (t : Flow) (lo hi : ℕ) → Spans lo hi t → AllStages (Sound ms) t → (f g : AffineFault) → IsUsedTwice t f → IsUsedTwice t g → place_of f ≡ place_of g → f ≡ g
twice_same ms t lo hi s h f g u v p =
    let at : u.0.name.at ≡ v.0.name.at = sym (ap place_of u.2) ∙ p ∙ ap place_of v.2 in
    let e : u.0 ≡ v.0 = event_same ms t lo hi s h u.0 v.0 (late_event t u.1 u.0 u.3) (late_event t v.1 v.0 v.3) at in
    let a : u.1 ≤ v.1 = u.4 v.1 (subst (λ (z : Event). ComesAfterOnAWay t v.1 z) (sym e) v.3) in
    let b : v.1 ≤ u.1 = v.4 u.1 (subst (λ (z : Event). ComesAfterOnAWay t u.1 z) e u.3) in
    let n : u.1 ≡ v.1 = omega arith in
    u.2 ∙ ap (λ (z : Event). UsedTwice z.name.word z.name.at u.1) e ∙ ap (λ n. UsedTwice v.0.name.word v.0.name.at n) n ∙ sym v.2

first_same : (ms : List Mark) → ((m n : Name) → IsIn (Spelled m) ms → IsIn (Spelled n) ms → m.at ≡ n.at → m ≡ n) → (t : Flow) (lo hi : ℕ) → Spans lo hi t → AllStages (Sound ms) t
    → (f g : AffineFault) → (place_of f ≡ place_of g) × (rank_of f ≡ rank_of g) → Stands t f → Stands t g → f ≡ g
first_same ms unique t lo hi s h f g e (inl a) (inl b) = alone_same ms unique f g (alone_of ms t h f a) (alone_of ms t h g b) e.0 e.1
first_same ms unique t lo hi s h f g e (inr a) (inr b) = twice_same ms t lo hi s h f g a b e.0
first_same ms unique t lo hi s h f g e (inl a) (inr b) = absurd (not_twice ms f (alone_of ms t h f a) (e.1 ∙ ap rank_of b.2))
first_same ms unique t lo hi s h f g e (inr a) (inl b) = absurd (not_twice ms g (alone_of ms t h g b) (sym e.1 ∙ ap rank_of a.2))

pub first_faults_unique : (p : PlainProgram) → IsParsed p → (f g : AffineFault) → IsFirstFault p f → IsFirstFault p g → f ≡ g
first_faults_unique p h f g x y =
    let q = program_placed p h.places in
    first_same (program_marks p) (names_unique (program_marks p) 0 h.places) (flow_of p) 0 q.0 (program_span p q.0 q.1) (sound p h) f g
    (ties f g (y.first f x.stands) (x.first g y.stands)) x.stands y.stands

pub stands_not_memory : (p : PlainProgram) → IsParsed p → Stands (flow_of p) Memory → ⊥
stands_not_memory p h (inl a) = alone_of (program_marks p) (flow_of p) (sound p h) Memory a
stands_not_memory p h (inr u) = let bad : Memory ≡ UsedTwice u.0.name.word u.0.name.at u.1 = u.2 in absurd cc

pub first_faults_exist : (p : PlainProgram) → IsParsed p → MeetsRules p ⊎ ((f : AffineFault) × IsFirstFault p f)
first_faults_exist p h = by (program_fault p) (program_told p h.places)
  where
    by : (o : Option AffineFault) → IsTold p o → MeetsRules p ⊎ ((f : AffineFault) × IsFirstFault p f)
    by None i = inl i
    by (Some f) i = inr (f, i)

-- a first fault, or want of memory, tells a name where it tells one
pub tells_name : (p : PlainProgram) (f : AffineFault) → IsParsed p → (f ≢ Memory → program_fault p ≡ Some f) → TellsName f
tells_name p f h k = by f k
  where
    stands : (f : AffineFault) → program_fault p ≡ Some f → TellsName f
    stands f e = faults_tell_names p f h (first_fault p f h e).stands

    by : (f : AffineFault) → (f ≢ Memory → program_fault p ≡ Some f) → TellsName f
    by (Unbound word at) k = stands (Unbound word at) (k (λ e. let bad : Unbound word at ≡ Memory = e in cc))
    by (Rebound word at) k = stands (Rebound word at) (k (λ e. let bad : Rebound word at ≡ Memory = e in cc))
    by (UsedTwice word at first) k = stands (UsedTwice word at first) (k (λ e. let bad : UsedTwice word at first ≡ Memory = e in cc))
    by (AgentRange at) k = tt
    by (Arity at) k = tt
    by (YieldCount at) k = tt
    by (ZeroDen at) k = tt
    by (ProcLimit at) k = tt
    by Memory k = tt
