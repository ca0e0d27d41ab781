-- Where the conditions of a place hold on a cake with its cuts, the run with those cuts as answers comes to it.
use Rattle.std.proofs.Common.{◌≡◌, ◌∙◌, ℕ, zero, suc, arith, refl, sym, ap, subst, Bool, true, false, List, [], ◌∷◌, ◌++◌, map, get_or, length, inl, inr, append_assoc, append-nil}
use Rattle.std.specs.Prelude.{if◌then◌else◌, ◌&&◌, Option, Some, None}
use Rattle.std.proofs.lemmas.List.{length-map, map-append}
use Rattle.slice_num.specs.Rational.{Rational, plus, minus, times, IsAtMost, IsBelow}
use Rattle.slice_num.specs.Fitting.{below, at_most, same_as}
use Rattle.slice_num.specs.declared.interval.Interval.{Interval}
use Rattle.slice_num.specs.declared.choice.Side.TheVariants as side
use Rattle.slice_num.specs.declared.choice.Choice.{Choice}
use Rattle.slice_num.specs.declared.choice.Choice.TheVariants as choice
use Rattle.slice_num.proofs.FieldLaws.{minus_above_out, minus_least_out, minus_same_out, below-is, below-not, plus_least, at_most_trans, weak}
use Rattle.slice_num.proofs.Laws.{plus_assoc}
use Rattle.slice_num.proofs.Equality.{equal_Decides}
use Rattle.slice_core.specs.Tree.{Tree, Ask, Set, Cut, Join, Test, Give, End}
use Rattle.slice_num.specs.Pieces.{piece_at, with_part, passed}
use Rattle.slice_core.specs.Agents.{IsAgent, HasAgents}
use Rattle.slice_core.specs.Measures.{IsMeasure, AreMeasures}
use Rattle.slice_core.specs.Run.{Piece, Worth, State, Ending, Done, Stuck, Few, Bad, run, cut_on, chosen, source_value, scaled, added, term_value, terms_value, sum_value, halted, before_point, after_point, left_piece, right_piece, is_right, goes_yes}
use Rattle.slice_core.proofs.CutLaws.{cut_part, cut_at-is}
use Rattle.slice_num.specs.declared.cut_answer.CutAnswer.{CutAnswer}
use Rattle.slice_core.specs.declared.node.Lin.{Lin}
use Rattle.slice_core.specs.declared.node.LinTerm.{LinTerm}
use Rattle.slice_core.specs.declared.node.Source.{Source}
use Rattle.slice_core.specs.declared.node.Source.TheVariants.{Const, Reg}
use Rattle.slice_linear.specs.declared.row.RowKind.TheVariants.{Zero}
use Rattle.slice_linear.specs.Proportion.{Meets}
use Rattle.slice_atoms.specs.Addresses.{Address, halved, left_of, right_of}
use Rattle.slice_atoms.specs.Forms.{Form, fixed_form, piece_form, sub_form}
use Rattle.slice_paths.specs.Places.{Condition, PassedCut, Way, Stop, AtEnd, AtCut, Place, places, source_form, scaled_form, added_form, term_form, terms_form, sum_form, low_place, high_place, yes_kind, no_kind, test_way, cut_way}
use Rattle.slice_paths.specs.Points.{Points, cake_of, IsInside, stretch_of}
use Rattle.slice_atoms.proofs.AtomOrder.{IsAtom}
use Rattle.slice_atoms.proofs.PartCounts.{AllParts, AllPieces, atom_made}
use Rattle.slice_paths.proofs.Fits.{none, IsIn, IsNode, form_value, OwnHolds, Held}
use Rattle.slice_paths.proofs.Amounts.{value_add, value_sub, value_scale, value_fixed, means_piece, inside_order}
use Rattle.slice_paths.proofs.Held.{held_atoms, share_atoms, piece_is, share_is, part_atoms, held_chosen, held_tested, held_asked, held_joined, held_given, held_cut}
use Rattle.slice_paths.proofs.Parts.{in_right, in_either, parts_all, piece_all, append_all, all_append_in}
use Rattle.slice_paths.proofs.Later.{Refines, refines_trans, refines_halved, made_refined, halves_made, point_of, halves_end, inside_node, in_each, IsLater, later}

-- the part of that number
with_part_at : {A R : Type 0} (pre before : List A) (x : A) (after : List A) (i : ℕ) (other : R) (go : List A → A → List A → R) → i ≡ length before → with_part pre (before ++ x ∷ after) i other go ≡ go (pre ++ before) x after
with_part_at pre [] x after zero other go e = ap (λ b. go b x after) (sym (append-nil pre))
with_part_at pre [] x after (suc i) other go e = absurd (omega (arith, e))
with_part_at pre (y ∷ before) x after zero other go e = absurd (omega (arith, e))
with_part_at pre (y ∷ before) x after (suc i) other go e = with_part_at (pre ++ y ∷ []) before x after i other go (omega (arith, e)) ∙ ap (λ b. go b x after) (append_assoc pre (y ∷ []) before)

abbrev pub with_answers : List CutAnswer → State → State
with_answers ys s = record { board = s.board; answers = ys; trace = s.trace }

abbrev pub end_at : Stop → State → Ending
end_at AtEnd s = Done s
end_at (AtCut at own) s = Stuck at s

at_most_is : (a b : Rational) → IsAtMost a b → at_most a b ≡ true
at_most_is a b h = ap (λ (x : Bool). if x then false else true) (below-not b a h)

same_is : (a b : Rational) → a ≡ b → same_as a b ≡ true
same_is a b h = (equal_Decides a b (same_as a b) refl).1 h

-- a right answer passes the test
right_in : (w : Piece → Rational) (before : Piece) (i : Interval) (y v : Rational) → IsAtMost i.from y → IsAtMost y i.to → w (left_piece before i y) ≡ v → is_right w before i y v ≡ true
right_in w before i y v lo hi e = all_true (at_most i.from y) (at_most y i.to) (same_as (w (left_piece before i y)) v) (at_most_is i.from y lo) (at_most_is y i.to hi) (same_is (w (left_piece before i y)) v e)
  where
    all_true : (p q r : Bool) → p ≡ true → q ≡ true → r ≡ true → (p && (q && r)) ≡ true
    all_true p q r e f g = cc

module _ (w : Worth) (n length_ : ℕ) (measures : AreMeasures n length_ w) (c : Interval) (t : Points) (inside : IsInside t c) where
  abbrev pub AllValue : List Rational → List Form → Type 0
  AllValue [] [] = Unit {0}
  AllValue (v ∷ vs) (f ∷ fs) = (form_value w n t c f ≡ v) × AllValue vs fs
  AllValue [] (f ∷ fs) = ⊥
  AllValue (v ∷ vs) [] = ⊥

  -- each cut was made on the cake
  abbrev pub AllCut : List PassedCut → Type 0
  AllCut [] = Unit {0}
  AllCut (d ∷ ds) = IsNode t (left_of d.address) × AllCut ds

  cut_push : (ds : List PassedCut) (d : PassedCut) → AllCut ds → IsNode t (left_of d.address) → AllCut (ds ++ d ∷ [])
  cut_push [] d h k = (k, tt)
  cut_push (x ∷ ds) d h k = (h.0, cut_push ds d h.1 k)

  pub record Tracks (s : State) (k : Way) : Type 0 where
    pub held : Held n (stretch_of t c) s k
    pub cut_there : AllCut k.cuts

  value_at : (vs : List Rational) (fs : List Form) → AllValue vs fs → (i : ℕ) → form_value w n t c (get_or fs i (fixed_form none)) ≡ get_or vs i none
  value_at [] [] h i = value_fixed w n t c none
  value_at [] (f ∷ fs) h i = absurd h
  value_at (v ∷ vs) [] h i = absurd h
  value_at (v ∷ vs) (f ∷ fs) h zero = h.0
  value_at (v ∷ vs) (f ∷ fs) h (suc i) = value_at vs fs h.1 i

  value_push : (vs : List Rational) (fs : List Form) (v : Rational) (f : Form) → AllValue vs fs → form_value w n t c f ≡ v → AllValue (vs ++ v ∷ []) (fs ++ f ∷ [])
  value_push [] [] v f h k = (k, tt)
  value_push [] (g ∷ fs) v f h k = absurd h
  value_push (u ∷ vs) [] v f h k = absurd h
  value_push (u ∷ vs) (g ∷ fs) v f h k = (h.0, value_push vs fs v f h.1 k)

  pub value_minus : (f g : Form) (u v : Rational) → form_value w n t c f ≡ u → form_value w n t c g ≡ v → form_value w n t c (sub_form f g) ≡ minus u v
  value_minus f g u v e h = value_sub w n t c f g ∙ (λ i. minus (e i) (h i))

  module _ (vs : List Rational) (fs : List Form) (h : AllValue vs fs) where
    value_source : (x : Source) → form_value w n t c (source_form fs x) ≡ source_value vs x
    value_source (Const v) = value_fixed w n t c v
    value_source (Reg i) = value_at vs fs h i

    value_scaled : (o : Option Rational) (v : Rational) (f : Form) → form_value w n t c f ≡ v → form_value w n t c (scaled_form o f) ≡ scaled o v
    value_scaled None v f e = e
    value_scaled (Some k) v f e = value_scale w n t c k f ∙ ap (times k) e

    value_added : (b : Bool) (u v : Rational) (f g : Form) → form_value w n t c f ≡ u → form_value w n t c g ≡ v → form_value w n t c (added_form b f g) ≡ added b u v
    value_added true u v f g e k = value_minus f g u v e k
    value_added false u v f g e k = value_add w n t c f g ∙ (λ i. plus (e i) (k i))

    value_term : (x : LinTerm) → form_value w n t c (term_form fs x) ≡ term_value vs x
    value_term x = value_scaled x.factor (source_value vs x.source) (source_form fs x.source) (value_source x.source)

    value_terms : (u : Rational) (f : Form) (xs : List LinTerm) → form_value w n t c f ≡ u → form_value w n t c (terms_form fs f xs) ≡ terms_value vs u xs
    value_terms u f [] e = e
    value_terms u f (x ∷ xs) e =
        value_terms (added x.minus u (term_value vs x)) (added_form x.minus f (term_form fs x)) xs (value_added x.minus u (term_value vs x) f (term_form fs x) e (value_term x))

    value_sum : (xs : List LinTerm) → form_value w n t c (sum_form fs xs) ≡ sum_value vs xs
    value_sum [] = value_fixed w n t c none
    value_sum (x ∷ xs) = value_terms (term_value vs x) (term_form fs x) xs (value_term x)

  tracked_nodes : (k : Way) (ps : List (List Address)) (p : ℕ) → AllPieces (IsAtom k.cake) ps → Refines k.cake (cake_of t) → AllParts (IsNode t) (piece_at ps p)
  tracked_nodes k ps p all r = parts_all (λ B l. made_refined k.cake (cake_of t) B (atom_made k.cake B l) r) (piece_at ps p) (piece_all (IsAtom k.cake) ps p all)

  value_piece : (a : ℕ) (Ps : List Address) → IsAgent n a → AllParts (IsNode t) Ps → form_value w n t c (piece_form a Ps) ≡ w a (map (stretch_of t c) Ps)
  value_piece a Ps is h = (means_piece w n t c length_ a Ps (measures a is) is h inside).value

  value_held : (s : State) (k : Way) (a p : ℕ) → Tracks s k → Refines k.cake (cake_of t) → IsAgent n a → form_value w n t c (piece_form a (piece_at k.pieces p)) ≡ w a (piece_at s.board.pieces p)
  value_held s k a p h r is =
      value_piece a (piece_at k.pieces p) is (tracked_nodes k k.pieces p (held_atoms n (stretch_of t c) s k h.held) r) ∙ ap (w a) (sym (piece_is n (stretch_of t c) s k h.held p))

  -- what a share is worth to an agent
  pub value_share : (s : State) (k : Way) (a q : ℕ) → Tracks s k → Refines k.cake (cake_of t) → IsAgent n a → form_value w n t c (piece_form a (piece_at k.shares q)) ≡ w a (piece_at s.board.shares q)
  value_share s k a q h r is =
      value_piece a (piece_at k.shares q) is (tracked_nodes k k.shares q (share_atoms n (stretch_of t c) s k h.held) r) ∙ ap (w a) (sym (share_is n (stretch_of t c) s k h.held q))

  -- the right answer to a cut
  abbrev pub answer_to : PassedCut → CutAnswer
  answer_to d = record { part = d.part; point = point_of t c d.address }

  -- the run from here, with the answers to the cuts that follow, ends at the place
  pub record Followed (core : Tree) (vs : List Rational) (s : State) (k : Way) (x : Place) : Type 0 where
    pub answers : List CutAnswer
    pub answers_are : map answer_to k.cuts ++ answers ≡ map answer_to x.way.cuts
    pub state : State
    pub ends : run w core vs (with_answers answers s) ≡ end_at x.stop state
    pub tracks : Tracks state x.way

  pub record IsTrueAt (x : Place) : Type 0 where
    pub same_cake : cake_of t ≡ x.way.cake
    pub each : (d : Condition) → IsIn d x.way.conditions → Meets d.kind (form_value w n t c d.form)
    pub own : OwnHolds w n t c x.stop

  -- answers don't matter
  with_no_answers : {s : State} {k : Way} → Held n (stretch_of t c) s k → Held n (stretch_of t c) (with_answers [] s) k
  with_no_answers h = record { pieces = h.pieces; shares = h.shares; room = h.room; conserved = h.conserved; trace = h.trace; queries = h.queries }

  -- what follows comes to its places, from each tracking state on
  abbrev Follows : Tree → Type 0
  Follows next = (vs : List Rational) (fs : List Form) (s : State) (k : Way) (x : Place) → IsIn x (places next fs k) → AllValue vs fs → Tracks s k → IsTrueAt x → Followed next vs s k x

  follows_test : (y z : Tree) → Follows y → Follows z → (left right : Lin) (strict : Bool) → Follows (Test left right strict y z)
  follows_test y z one_ two left right strict vs fs s k x is values h good = elim (in_either x (places y fs ym) (places z fs zm) is) [ inl i ↦ yes_way i | inr i ↦ no_way i ]
    where
      u : Rational
      u = sum_value vs left.terms

      v : Rational
      v = sum_value vs right.terms

      fu : Form
      fu = sum_form fs left.terms

      fv : Form
      fv = sum_form fs right.terms

      eu : form_value w n t c fu ≡ u
      eu = value_sum vs fs values left.terms

      ev : form_value w n t c fv ≡ v
      ev = value_sum vs fs values right.terms

      ym : Way
      ym = test_way (yes_kind strict) (sub_form fu fv) choice.Yes k

      zm : Way
      zm = test_way (no_kind strict) (sub_form fv fu) choice.No k

      tracked : (d : Condition) (x : Choice) → Tracks (chosen (x ∷ []) s) (test_way d.kind d.form x k)
      tracked d x = record { cut_there = h.cut_there; held = held_tested n (stretch_of t c) s k h.held d.kind d.form x }

      goes : (b : Bool) → Meets (yes_kind b) (minus u v) → goes_yes b u v ≡ true
      goes true e = below-is v u (minus_above_out u v e)
      goes false e = at_most_is v u (minus_least_out u v e)

      stays : (b : Bool) → Meets (no_kind b) (minus v u) → goes_yes b u v ≡ false
      stays true e = below-not v u (minus_least_out v u e)
      stays false e = ap (λ (b : Bool). if b then false else true) (below-is u v (minus_above_out v u e))

      yes_way : IsIn x (places y fs ym) → Followed (Test left right strict y z) vs s k x
      yes_way i =
          let g = one_ vs fs (chosen (choice.Yes ∷ []) s) ym x i values (tracked (record { kind = yes_kind strict; form = sub_form fu fv }) choice.Yes) good in
          let holds = good.each (record { kind = yes_kind strict; form = sub_form fu fv }) ((later y fs ym x i).conditions _ (in_right _ k.conditions _ (inl refl))) in
          record {
            answers = g.answers;
            answers_are = g.answers_are;
            state = g.state;
            tracks = g.tracks;
            ends = ap (λ (b : Bool). if b then run w y vs (with_answers g.answers (chosen (choice.Yes ∷ []) s)) else run w z vs (with_answers g.answers (chosen (choice.No ∷ []) s))) (goes strict (subst (Meets (yes_kind strict)) (value_minus fu fv u v eu ev) holds)) ∙ g.ends;
          }

      no_way : IsIn x (places z fs zm) → Followed (Test left right strict y z) vs s k x
      no_way i =
          let g = two vs fs (chosen (choice.No ∷ []) s) zm x i values (tracked (record { kind = no_kind strict; form = sub_form fv fu }) choice.No) good in
          let holds = good.each (record { kind = no_kind strict; form = sub_form fv fu }) ((later z fs zm x i).conditions _ (in_right _ k.conditions _ (inl refl))) in
          record {
            answers = g.answers;
            answers_are = g.answers_are;
            state = g.state;
            tracks = g.tracks;
            ends = ap (λ (b : Bool). if b then run w y vs (with_answers g.answers (chosen (choice.Yes ∷ []) s)) else run w z vs (with_answers g.answers (chosen (choice.No ∷ []) s))) (stays strict (subst (Meets (no_kind strict)) (value_minus fv fu v u ev eu) holds)) ∙ g.ends;
          }

  -- a stuck cut
  module _ (a p l r : ℕ) (amount : Lin) (next : Tree) (vs : List Rational) (fs : List Form) (s : State) (k : Way) (values : AllValue vs fs) (h : Tracks s k) where
    follows_low : IsTrueAt (low_place (sum_form fs amount.terms) k) → Followed (Cut a p amount l r next) vs s k (low_place (sum_form fs amount.terms) k)
    follows_low good = record {
      answers = [];
      answers_are = append-nil (map answer_to k.cuts);
      state = chosen (choice.Low ∷ []) (with_answers [] s);
      ends = cut_at-is (w a) a p v (run w next vs) (with_answers [] s) ∙ ap (λ (b : Bool). if b then halted side.Low (with_answers [] s) else (if below (w a (piece_at s.board.pieces p)) v then halted side.High (with_answers [] s) else Few (length s.board.queries)))
          (below-is v none (minus_above_out none v (subst (λ (q : Rational). IsBelow none q) (value_minus (fixed_form none) (sum_form fs amount.terms) none v (value_fixed w n t c none) (value_sum vs fs values amount.terms)) good.own)));
      tracks = record { cut_there = h.cut_there; held = with_no_answers (held_chosen n (stretch_of t c) s k h.held (choice.Low ∷ [])) };
    }
      where
        v : Rational
        v = sum_value vs amount.terms

    follows_high : IsAgent n a → Refines k.cake (cake_of t) → IsTrueAt (high_place a p (sum_form fs amount.terms) k) → Followed (Cut a p amount l r next) vs s k (high_place a p (sum_form fs amount.terms) k)
    follows_high is fine good = record {
      answers = [];
      answers_are = append-nil (map answer_to k.cuts);
      state = chosen (choice.High ∷ []) (with_answers [] s);
      ends = cut_at-is (w a) a p v (run w next vs) (with_answers [] s) ∙ ap (λ (b : Bool). if b then halted side.Low (with_answers [] s) else (if below held v then halted side.High (with_answers [] s) else Few (length s.board.queries))) (below-not v none (at_most_trans none held v ((measures a is).not_below (piece_at s.board.pieces p)) (weak held v above)))
          ∙ ap (λ (b : Bool). if b then halted side.High (with_answers [] s) else Few (length s.board.queries)) (below-is held v above);
      tracks = record { cut_there = h.cut_there; held = with_no_answers (held_chosen n (stretch_of t c) s k h.held (choice.High ∷ [])) };
    }
      where
        v : Rational
        v = sum_value vs amount.terms

        held : Rational
        held = w a (piece_at s.board.pieces p)

        above : IsBelow held v
        above = minus_above_out v held (subst (λ (q : Rational). IsBelow none q) (value_minus (sum_form fs amount.terms) (piece_form a (piece_at k.pieces p)) v held (value_sum vs fs values amount.terms) (value_held s k a p h fine is)) good.own)

    -- a passed cut
    follows_cut : Follows next → (x : Place) → IsAgent n a → IsTrueAt x → (b : List Address) (A : Address) (q : List Address) → b ++ A ∷ q ≡ piece_at k.pieces p
        → IsIn x (places next fs (cut_way a p (sum_form fs amount.terms) b A q k)) → Followed (Cut a p amount l r next) vs s k x
    follows_cut more x is good b A q parts i = record {
      answers = answer ∷ g.answers;
      state = g.state;
      tracks = g.tracks;
      answers_are = sym (append_assoc (map answer_to k.cuts) (answer ∷ []) g.answers) ∙ ap (λ (zs : List CutAnswer). zs ++ g.answers) (sym (map-append answer_to k.cuts (record { part = length b; address = A } ∷ []))) ∙ g.answers_are;
      ends =
          cut_at-is (w a) a p v (run w next vs) s1
          ∙ ap (λ (z : Bool). if z then halted side.Low s1 else (if below held v then halted side.High s1 else rest)) (below-not v none (subst (λ (z : Rational). IsAtMost none z) right (m.not_below X)))
          ∙ ap (λ (z : Bool). if z then halted side.High s1 else rest) (below-not held v at_most_held)
          ∙ ap (λ (P : Piece). with_part [] P (length b) (Bad (length s.board.queries)) (cut_part (w a) a p v answer g.answers (run w next vs) s1)) (piece_is n (stretch_of t c) s k h.held p ∙ ap (map f) (sym parts) ∙ map-append f b (A ∷ q))
          ∙ with_part_at [] (map f b) (f A) (map f q) (length b) (Bad (length s.board.queries)) (cut_part (w a) a p v answer g.answers (run w next vs) s1) (sym (length-map b f))
          ∙ ap (λ (z : Bool). if z then done else Bad (length s.board.queries)) (right_in (w a) (map f b) (f A) y v lo hi right)
          ∙ g.ends;
    }
      where
        f : Address → Interval
        f = stretch_of t c

        m : IsMeasure length_ (w a)
        m = measures a is

        v : Rational
        v = sum_value vs amount.terms

        e : Form
        e = sum_form fs amount.terms

        k' : Way
        k' = cut_way a p e b A q k

        y : Rational
        y = point_of t c A

        answer : CutAnswer
        answer = record { part = length b; point = y }

        held : Rational
        held = w a (piece_at s.board.pieces p)

        after : IsLater k' x.way
        after = later next fs k' x i

        fine : Refines (halved A k.cake) (cake_of t)
        fine = subst (Refines (halved A k.cake)) (sym good.same_cake) after.cake

        coarse : Refines k.cake (cake_of t)
        coarse = refines_trans k.cake (halved A k.cake) (cake_of t) (refines_halved A k.cake) fine

        nodes : AllParts (IsNode t) (b ++ A ∷ q)
        nodes = subst (AllParts (IsNode t)) (sym parts) (tracked_nodes k k.pieces p (held_atoms n (stretch_of t c) s k h.held) coarse)

        atom : IsAtom k.cake A
        atom = (part_atoms n (stretch_of t c) s k h.held p b A q parts).1.0

        halves : IsNode t (left_of A) × IsNode t (right_of A)
        halves = let m = halves_made k.cake A atom in (made_refined (halved A k.cake) (cake_of t) (left_of A) m.0 fine, made_refined (halved A k.cake) (cake_of t) (right_of A) m.1 fine)

        ends_are : (f (left_of A) ≡ before_point (f A) y) × (f (right_of A) ≡ after_point (f A) y)
        ends_are = halves_end t c A halves.0

        X : Piece
        X = left_piece (map f b) (f A) y

        Y : Piece
        Y = right_piece (f A) y (map f q)

        left_is : map f (b ++ left_of A ∷ []) ≡ X
        left_is = map-append f b (left_of A ∷ []) ∙ ap (λ (z : Interval). map f b ++ z ∷ []) ends_are.0

        right_is : map f (right_of A ∷ q) ≡ Y
        right_is = ap (λ (z : Interval). z ∷ map f q) ends_are.1

        left_nodes : AllParts (IsNode t) (b ++ left_of A ∷ [])
        left_nodes = all_append_in (IsNode t) b (left_of A ∷ []) (append_all (IsNode t) b (A ∷ q) nodes).0 (halves.0, tt)

        right : w a X ≡ v
        right = minus_same_out (w a X) v
            (sym (value_minus (piece_form a (b ++ left_of A ∷ [])) e (w a X) v (value_piece a (b ++ left_of A ∷ []) is left_nodes ∙ ap (w a) left_is) (value_sum vs fs values amount.terms))
            ∙ good.each (record { kind = Zero; form = sub_form (piece_form a (b ++ left_of A ∷ [])) e }) (after.conditions _ (in_right _ k.conditions _ (inl refl))))

        lo : IsAtMost (f A).from y
        lo = let u = inside_node t c (left_of A) halves.0 inside in subst (λ (z : Interval). IsAtMost z.from z.to) ends_are.0 (inside_order u.0 (f (left_of A)) u.1)

        hi : IsAtMost y (f A).to
        hi = let u = inside_node t c (right_of A) halves.1 inside in subst (λ (z : Interval). IsAtMost z.from z.to) ends_are.1 (inside_order u.0 (f (right_of A)) u.1)

        -- the two pieces make up what was cut
        held_split : held ≡ plus (w a X) (w a Y)
        held_split =
            ap (w a) (piece_is n (stretch_of t c) s k h.held p ∙ ap (map f) (sym parts) ∙ map-append f b (A ∷ q))
            ∙ m.joined (map f b) (f A ∷ map f q)
            ∙ ap (plus (w a (map f b))) (m.joined (f A ∷ []) (map f q) ∙ ap (λ (z : Rational). plus z (w a (map f q))) (m.cut (f A) y lo hi) ∙ plus_assoc (w a (before_point (f A) y ∷ [])) (w a (after_point (f A) y ∷ [])) (w a (map f q)) ∙ ap (plus (w a (before_point (f A) y ∷ []))) (sym (m.joined (after_point (f A) y ∷ []) (map f q))))
            ∙ sym (plus_assoc (w a (map f b)) (w a (before_point (f A) y ∷ [])) (w a Y))
            ∙ ap (λ (z : Rational). plus z (w a Y)) (sym (m.joined (map f b) (before_point (f A) y ∷ [])))

        at_most_held : IsAtMost v held
        at_most_held = subst (λ (z : Rational). IsAtMost z held) right (subst (λ (z : Rational). IsAtMost (w a X) z) (sym held_split) (plus_least (w a X) (w a Y) (m.not_below Y)))

        after_cut : List CutAnswer → State
        after_cut ys = record { board = cut_on a p v answer X Y s.board; answers = ys; trace = s.trace ++ passed (map f b) }

        tracked : Tracks (after_cut []) k'
        tracked = record {
          cut_there = cut_push k.cuts (record { part = length b; address = A }) h.cut_there halves.0;
          held = held_cut n (stretch_of t c) s k h.held f a p e v answer b A q [] parts (λ B l. refl) ends_are.0 ends_are.1;
        }

        g : Followed next vs (after_cut []) k' x
        g = more vs fs (after_cut []) k' x i values tracked good

        s1 : State
        s1 = with_answers (answer ∷ g.answers) s

        done : Ending
        done = run w next vs (after_cut g.answers)

        rest : Ending
        rest = with_part [] (piece_at s.board.pieces p) (length b) (Bad (length s.board.queries)) (cut_part (w a) a p v answer g.answers (run w next vs) s1)

  follows_end : Follows End
  follows_end vs fs s k x (inl e) values h good = record {
    answers = [];
    answers_are = append-nil (map answer_to k.cuts) ∙ ap (λ (y : Place). map answer_to y.way.cuts) (sym e);
    state = with_answers [] s;
    ends = ap (λ (y : Place). end_at y.stop (with_answers [] s)) (sym e);
    tracks = subst (λ (y : Place). Tracks (with_answers [] s) y.way) (sym e) (record { cut_there = h.cut_there; held = with_no_answers h.held });
  }
  follows_end vs fs s k x (inr e) values h good = absurd e

  follows_any_cut : (a p l r : ℕ) (amount : Lin) (next : Tree) → IsAgent n a → Follows next → Follows (Cut a p amount l r next)
  follows_any_cut a p l r amount next is more vs fs s k x (inl e) values h good =
      subst (λ (q : Place). Followed (Cut a p amount l r next) vs s k q) (sym e) (follows_low a p l r amount next vs fs s k values h (subst IsTrueAt e good))
  follows_any_cut a p l r amount next is more vs fs s k x (inr (inl e)) values h good =
      let fine : Refines k.cake (cake_of t) = subst (Refines k.cake) (sym good.same_cake) (later (Cut a p amount l r next) fs k x (inr (inl e))).cake in
      subst (λ (q : Place). Followed (Cut a p amount l r next) vs s k q) (sym e) (follows_high a p l r amount next vs fs s k values h is fine (subst IsTrueAt e good))
  follows_any_cut a p l r amount next is more vs fs s k x (inr (inr i)) values h good =
      let q = in_each x [] (piece_at k.pieces p) (piece_at k.pieces p) _ refl i in
      follows_cut a p l r amount next vs fs s k values h more x is good q.before q.part q.after q.parts_are q.is_one

  pub follows : (core : Tree) → HasAgents n core → Follows core
  follows (Ask a p r next) is vs fs s k x i values h good =
      let fine : Refines k.cake (cake_of t) = subst (Refines k.cake) (sym good.same_cake) (later (Ask a p r next) fs k x i).cake in
      let g = follows next is.1 _ _ _ _ x i (value_push vs fs _ _ values (value_held s k a p h fine is.0)) (record { cut_there = h.cut_there; held = held_asked n (stretch_of t c) s k h.held a _ }) good in
      record { answers = g.answers; answers_are = g.answers_are; state = g.state; ends = g.ends; tracks = g.tracks }
  follows (Set r sum next) is vs fs s k x i values h good =
      let g = follows next is _ _ s k x i (value_push vs fs _ _ values (value_sum vs fs values sum.terms)) h good in
      record { answers = g.answers; answers_are = g.answers_are; state = g.state; ends = g.ends; tracks = g.tracks }
  follows (Join p q r next) is vs fs s k x i values h good =
      let g = follows next is vs fs _ _ x i values (record { cut_there = h.cut_there; held = held_joined n (stretch_of t c) s k h.held p q }) good in
      record { answers = g.answers; answers_are = g.answers_are; state = g.state; ends = g.ends; tracks = g.tracks }
  follows (Give p a next) is vs fs s k x i values h good =
      let g = follows next is.1 vs fs _ _ x i values (record { cut_there = h.cut_there; held = held_given n (stretch_of t c) s k h.held p a is.0 }) good in
      record { answers = g.answers; answers_are = g.answers_are; state = g.state; ends = g.ends; tracks = g.tracks }
  follows End is vs fs s k x i values h good = follows_end vs fs s k x i values h good
  follows (Test left right strict y z) is vs fs s k x i values h good = follows_test y z (follows y is.0) (follows z is.1) left right strict vs fs s k x i values h good
  follows (Cut a p amount l r next) is vs fs s k x i values h good = follows_any_cut a p l r amount next is.0 (follows next is.1) vs fs s k x i values h good
