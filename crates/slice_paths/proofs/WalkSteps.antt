-- What a step from a node comes to.
use Rattle.std.proofs.Common.{◌≡◌, ◌∙◌, ℕ, ◌+◌, ◌<◌, arith, refl, sym, ap, subst, Bool, true, false, List, [], ◌∷◌, ◌++◌, length}
use Rattle.std.specs.Prelude.{◌&&◌}
use Rattle.slice_core.specs.Tree.{Tree, Ask, Set, Join, Test, Give}
use Rattle.slice_core.specs.declared.node.Lin.{Lin}
use Rattle.slice_linear.specs.declared.forms.FormFault.{FormFault}
use Rattle.slice_linear.specs.declared.forms.FormFault.TheVariants as form_fault
use Rattle.slice_linear.specs.declared.forms.Term.{Term}
use Rattle.slice_linear.specs.declared.row.RowKind.{RowKind}
use Rattle.slice_atoms.specs.FormFits.{sub_fits}
use Rattle.slice_atoms.specs.Forms.{sub_form}
use Rattle.slice_atoms.specs.Numbers.{cake_of}
use Rattle.slice_num.specs.declared.choice.Choice.TheVariants as choice
use Rattle.slice_paths.specs.Ahead.{BreaksFirst, test_from, no_from}
use Rattle.slice_paths.specs.Events.{Event, Meets, Breaks, events, where_fit, sum_fits, next_goal, Overflows}
use Rattle.slice_paths.specs.Places.{sum_form, test_way, yes_kind, no_kind}
use Rattle.slice_paths.specs.Spots.{Known, tally_of, form_of, regs_of, way_of}
use Rattle.slice_paths.specs.Steps.{IsAsked, IsSet, IsBroken, GivenTo, IsJoined, IsPassed, IsNoDifference}
use Rattle.slice_paths.specs.Sums.{SumMeans, SumBreaks}
use Rattle.slice_paths.specs.Walking.{CanGo, Ready, YesReady, NoReady, WalkBreaks, NoBreaks, YesBreaks, steps}
use Rattle.slice_paths.proofs.GoLaws.{asks, sets, joins, gives, tests_yes, tests_no}

-- ---- what comes first
pub refused : (es after : List Event) (given : ℕ) → BreaksFirst es → next_goal (es ++ after) given ≡ Overflows
refused [] after given h = absurd h
refused (Breaks ∷ es) after given h = refl
refused (Meets t ∷ es) after given h = absurd h

pub breaks_before : (es after : List Event) → BreaksFirst es → BreaksFirst (es ++ after)
breaks_before [] after h = absurd h
breaks_before (Breaks ∷ es) after h = tt
breaks_before (Meets t ∷ es) after h = absurd h

pub breaks : (b : Bool) (es : List Event) → b ≡ false → BreaksFirst (where_fit b es)
breaks b es e = subst (λ (x : Bool). BreaksFirst (where_fit x es)) (sym e) tt

pub goes : (b : Bool) (es : List Event) → b ≡ true → where_fit b es ≡ es
goes b es e = ap (λ (x : Bool). where_fit x es) e

-- ---- one node on
-- the same comes up from the next node at t as from the node at s
pub record Onto (tree next : Tree) (s t : Known) : Type 0 where
  pub comes : events s.atoms.agents tree (regs_of s) (way_of s) ≡ events s.atoms.agents next (regs_of t) (way_of t)
  pub ready : Ready s.atoms.agents next t
  pub fewer : steps s.atoms.agents next < steps s.atoms.agents tree

pub ask_onto : (a p r q : ℕ) (next : Tree) (s t : Known) → Ready s.atoms.agents (Ask a p q next) s → IsAsked a p s t
    → tally_of t ≡ record (tally_of s) { regs = length s.regs + 1; queries = s.queries + 1 } → Onto (Ask a p r next) next s t
ask_onto a p r q next s t h asked e =
    let n = s.atoms.agents in
    let k = asked h.known in
    record {
      comes = sym (k.comes n r next);
      ready = record { known = k.known; goes = subst (CanGo n next) (sym e) (asks n a p q next (tally_of s) h.goes) };
      fewer = omega arith;
    }

pub set_onto : (r q : ℕ) (sum : Lin) (next : Tree) (s t : Known) → Ready s.atoms.agents (Set q sum next) s → IsSet sum.terms s t
    → tally_of t ≡ record (tally_of s) { regs = length s.regs + 1 } → Onto (Set r sum next) next s t
set_onto r q sum next s t h is_set e =
    let n = s.atoms.agents in
    let k = is_set h.known in
    record {
      comes =
          goes (sum_fits n (cake_of s.atoms.olds) (regs_of s) sum.terms) (events n next (regs_of s ++ sum_form (regs_of s) sum.terms ∷ []) (way_of s)) k.fit
          ∙ (λ i. events n next (sym k.regs i) (sym k.way i));
      ready = record { known = k.known; goes = subst (CanGo n next) (sym e) (sets n q sum next (tally_of s) h.goes) };
      fewer = omega arith;
    }

pub set_breaks_first : (r q : ℕ) (sum : Lin) (next : Tree) (s : Known) (fault : FormFault) → Ready s.atoms.agents (Set q sum next) s
    → (fault ≡ form_fault.Overflow → IsBroken sum.terms s) → WalkBreaks s.atoms.agents (Set r sum next) s fault
set_breaks_first r q sum next s fault h broken e =
    let n = s.atoms.agents in
    breaks (sum_fits n (cake_of s.atoms.olds) (regs_of s) sum.terms) (events n next (regs_of s ++ sum_form (regs_of s) sum.terms ∷ []) (way_of s)) (broken e h.known)

pub join_onto : (p q r : ℕ) (next : Tree) (s t : Known) → Ready s.atoms.agents (Join p q r next) s → IsJoined p q s t
    → tally_of t ≡ record (tally_of s) { pieces = length s.atoms.pieces + 1 } → Onto (Join p q r next) next s t
join_onto p q r next s t h joined e =
    let n = s.atoms.agents in
    let k = joined h.known in
    record {
      comes = λ i. events n next (sym k.regs i) (sym k.way i);
      ready = record { known = k.known; goes = subst (CanGo n next) (sym e) (joins n p q r next (tally_of s) h.known.gifts h.goes) };
      fewer = omega arith;
    }

pub give_onto : (p a : ℕ) (next : Tree) (s t : Known) → Ready s.atoms.agents (Give p a next) s → GivenTo a p s t
    → tally_of t ≡ record (tally_of s) { gifts = s.gifts ++ record { agent = a; piece = p } ∷ [] } → Onto (Give p a next) next s t
give_onto p a next s t h k e =
    let n = s.atoms.agents in
    record {
      comes = λ i. events n next (sym k.regs i) (sym k.way i);
      ready = record { known = k.known h.known; goes = subst (CanGo n next) (sym e) (gives n p a next (tally_of s) h.goes) };
      fewer = omega arith;
    }

-- ---- tests
-- both sides of a test were made
pub record Sided (left right : Lin) (strict : Bool) (at_yes at_no : Tree) (s : Known) (xs ys : List Term) : Type 0 where
  pub comes : events s.atoms.agents (Test left right strict at_yes at_no) (regs_of s) (way_of s)
      ≡ test_from s.atoms.agents (form_of s.atoms xs) (form_of s.atoms ys) strict at_yes at_no (regs_of s) (way_of s)
  pub ready : YesReady s.atoms.agents xs ys at_yes at_no s

both : (a b : Bool) → a ≡ true → b ≡ true → a && b ≡ true
both a b e f = (λ i. e i && f i)

pub sided : (left right : Lin) (strict : Bool) (at_yes at_no : Tree) (s : Known) (xs ys : List Term) → Ready s.atoms.agents (Test left right strict at_yes at_no) s
    → SumMeans s.regs left.terms xs → SumMeans s.regs right.terms ys → Sided left right strict at_yes at_no s xs ys
sided left right strict at_yes at_no s xs ys h l r =
    let n = s.atoms.agents in
    let x = l s.atoms n h.known.numbering h.known.regs in
    let y = r s.atoms n h.known.numbering h.known.regs in
    record {
      comes =
          goes (sum_fits n (cake_of s.atoms.olds) (regs_of s) left.terms && sum_fits n (cake_of s.atoms.olds) (regs_of s) right.terms)
          (test_from n (sum_form (regs_of s) left.terms) (sum_form (regs_of s) right.terms) strict at_yes at_no (regs_of s) (way_of s))
          (both (sum_fits n (cake_of s.atoms.olds) (regs_of s) left.terms) (sum_fits n (cake_of s.atoms.olds) (regs_of s) right.terms) x.1 y.1)
          ∙ (λ i. test_from n (sym x.0.is i) (sym y.0.is i) strict at_yes at_no (regs_of s) (way_of s));
      ready = record {
        known = h.known;
        left_over = x.0.within;
        right_over = y.0.within;
        yes_goes = tests_yes n left right strict at_yes at_no (tally_of s) h.goes;
        no_goes = tests_no n left right strict at_yes at_no (tally_of s) h.goes;
      };
    }

none_left : (a b : Bool) → a ≡ false → a && b ≡ false
none_left a b e = ap (λ (x : Bool). x && b) e

none_right : (a b : Bool) → b ≡ false → a && b ≡ false
none_right true b e = e
none_right false b e = refl

pub left_breaks : (left right : Lin) (strict : Bool) (at_yes at_no : Tree) (s : Known) (fault : FormFault) → Ready s.atoms.agents (Test left right strict at_yes at_no) s
    → (fault ≡ form_fault.Overflow → SumBreaks s.regs left.terms) → WalkBreaks s.atoms.agents (Test left right strict at_yes at_no) s fault
left_breaks left right strict at_yes at_no s fault h broken e =
    let n = s.atoms.agents in
    breaks (sum_fits n (cake_of s.atoms.olds) (regs_of s) left.terms && sum_fits n (cake_of s.atoms.olds) (regs_of s) right.terms)
    (test_from n (sum_form (regs_of s) left.terms) (sum_form (regs_of s) right.terms) strict at_yes at_no (regs_of s) (way_of s))
    (none_left (sum_fits n (cake_of s.atoms.olds) (regs_of s) left.terms) (sum_fits n (cake_of s.atoms.olds) (regs_of s) right.terms) (broken e s.atoms n h.known.numbering h.known.regs))

pub right_breaks : (left right : Lin) (strict : Bool) (at_yes at_no : Tree) (s : Known) (fault : FormFault) → Ready s.atoms.agents (Test left right strict at_yes at_no) s
    → (fault ≡ form_fault.Overflow → SumBreaks s.regs right.terms) → WalkBreaks s.atoms.agents (Test left right strict at_yes at_no) s fault
right_breaks left right strict at_yes at_no s fault h broken e =
    let n = s.atoms.agents in
    breaks (sum_fits n (cake_of s.atoms.olds) (regs_of s) left.terms && sum_fits n (cake_of s.atoms.olds) (regs_of s) right.terms)
    (test_from n (sum_form (regs_of s) left.terms) (sum_form (regs_of s) right.terms) strict at_yes at_no (regs_of s) (way_of s))
    (none_right (sum_fits n (cake_of s.atoms.olds) (regs_of s) left.terms) (sum_fits n (cake_of s.atoms.olds) (regs_of s) right.terms) (broken e s.atoms n h.known.numbering h.known.regs))

-- a test's arm was taken: the same comes up from its tree
pub record Armed (events_here : List Event) (n : ℕ) (next : Tree) (t : Known) : Type 0 where
  pub comes : events_here ≡ events n next (regs_of t) (way_of t)
  pub ready : Ready n next t

pub yes_armed : (left right : List Term) (strict : Bool) (at_yes at_no : Tree) (s t : Known) → YesReady s.atoms.agents left right at_yes at_no s
    → IsPassed (yes_kind strict) left right choice.Yes s t → tally_of t ≡ tally_of s
    → Armed (where_fit (sub_fits s.atoms.agents (cake_of s.atoms.olds) (form_of s.atoms left) (form_of s.atoms right))
    (events s.atoms.agents at_yes (regs_of s) (test_way (yes_kind strict) (sub_form (form_of s.atoms left) (form_of s.atoms right)) choice.Yes (way_of s)))) s.atoms.agents at_yes t
yes_armed left right strict at_yes at_no s t h passed e =
    let n = s.atoms.agents in
    let k = passed h.known h.left_over h.right_over in
    record {
      comes =
          goes (sub_fits n (cake_of s.atoms.olds) (form_of s.atoms left) (form_of s.atoms right))
          (events n at_yes (regs_of s) (test_way (yes_kind strict) (sub_form (form_of s.atoms left) (form_of s.atoms right)) choice.Yes (way_of s))) k.fit
          ∙ (λ i. events n at_yes (sym k.regs i) (sym k.way i));
      ready = record { known = k.known; goes = subst (CanGo n at_yes) (sym e) h.yes_goes };
    }

pub no_armed : (left right : List Term) (strict : Bool) (next : Tree) (n : ℕ) (s t : Known) → n ≡ s.atoms.agents → NoReady n left right next s
    → IsPassed (no_kind strict) right left choice.No s t → tally_of t ≡ tally_of s
    → Armed (no_from n (form_of s.atoms left) (form_of s.atoms right) strict next (regs_of s) (way_of s)) n next t
no_armed left right strict next n s t a h passed e =
    let k = passed h.known h.right_over h.left_over in
    record {
      comes =
          goes (sub_fits n (cake_of s.atoms.olds) (form_of s.atoms right) (form_of s.atoms left))
          (events n next (regs_of s) (test_way (no_kind strict) (sub_form (form_of s.atoms right) (form_of s.atoms left)) choice.No (way_of s)))
          (ap (λ (x : ℕ). sub_fits x (cake_of s.atoms.olds) (form_of s.atoms right) (form_of s.atoms left)) a ∙ k.fit)
          ∙ (λ i. events n next (sym k.regs i) (sym k.way i));
      ready = record { known = k.known; goes = subst (CanGo n next) (sym e) h.goes };
    }

pub yes_breaks : (left right : List Term) (strict : Bool) (at_yes at_no : Tree) (s : Known) (fault : FormFault) → YesReady s.atoms.agents left right at_yes at_no s
    → (fault ≡ form_fault.Overflow → IsNoDifference left right s) → YesBreaks s.atoms.agents left right strict at_yes at_no s fault
yes_breaks left right strict at_yes at_no s fault h none e =
    let n = s.atoms.agents in
    let fit = sub_fits n (cake_of s.atoms.olds) (form_of s.atoms left) (form_of s.atoms right) in
    let here : List Event = events n at_yes (regs_of s) (test_way (yes_kind strict) (sub_form (form_of s.atoms left) (form_of s.atoms right)) choice.Yes (way_of s)) in
    breaks_before (where_fit fit here) (no_from n (form_of s.atoms left) (form_of s.atoms right) strict at_no (regs_of s) (way_of s))
    (breaks fit here (none e h.known h.left_over))

pub no_breaks : (left right : List Term) (strict : Bool) (next : Tree) (n : ℕ) (s : Known) (fault : FormFault) → n ≡ s.atoms.agents → NoReady n left right next s
    → (fault ≡ form_fault.Overflow → IsNoDifference right left s) → NoBreaks n left right strict next s fault
no_breaks left right strict next n s fault a h none e =
    breaks (sub_fits n (cake_of s.atoms.olds) (form_of s.atoms right) (form_of s.atoms left))
    (events n next (regs_of s) (test_way (no_kind strict) (sub_form (form_of s.atoms right) (form_of s.atoms left)) choice.No (way_of s)))
    (ap (λ (x : ℕ). sub_fits x (cake_of s.atoms.olds) (form_of s.atoms right) (form_of s.atoms left)) a ∙ none e h.known h.right_over)

-- ---- from a copy of the spot
pub yes_from : (left right : List Term) (strict : Bool) (at_yes at_no : Tree) (s copy t : Known) (kind : RowKind) → copy ≡ s → kind ≡ yes_kind strict → YesReady s.atoms.agents left right at_yes at_no s
    → IsPassed kind left right choice.Yes copy t → tally_of t ≡ tally_of copy
    → Armed (where_fit (sub_fits s.atoms.agents (cake_of s.atoms.olds) (form_of s.atoms left) (form_of s.atoms right))
    (events s.atoms.agents at_yes (regs_of s) (test_way (yes_kind strict) (sub_form (form_of s.atoms left) (form_of s.atoms right)) choice.Yes (way_of s)))) s.atoms.agents at_yes t
yes_from left right strict at_yes at_no s copy t kind same is h passed e =
    yes_armed left right strict at_yes at_no s t h
    (subst (λ (x : Known). IsPassed (yes_kind strict) left right choice.Yes x t) same (subst (λ (x : RowKind). IsPassed x left right choice.Yes copy t) is passed))
    (e ∙ ap tally_of same)

pub yes_breaks_from : (left right : List Term) (strict : Bool) (at_yes at_no : Tree) (s copy : Known) (fault : FormFault) → copy ≡ s → YesReady s.atoms.agents left right at_yes at_no s
    → (fault ≡ form_fault.Overflow → IsNoDifference left right copy) → YesBreaks s.atoms.agents left right strict at_yes at_no s fault
yes_breaks_from left right strict at_yes at_no s copy fault same h none = yes_breaks left right strict at_yes at_no s fault h (λ o. subst (IsNoDifference left right) same (none o))
