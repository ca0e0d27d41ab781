-- Each run comes to a place whose conditions hold.
use Rattle.std.proofs.Common.{◌≡◌, ◌∙◌, ℕ, zero, suc, ◌≤◌, arith, refl, sym, ap, subst, Bool, true, false, List, [], ◌∷◌, ◌++◌, map, get_or, length, inl, inr, append_assoc, pos}
use Rattle.std.specs.Prelude.{if◌then◌else◌, ◌&&◌, Option, Some, None}
use Rattle.std.proofs.lemmas.List.{map-append}
use Rattle.std.proofs.lemmas.Int.{ints}
use Rattle.slice_num.specs.Rational.{Rational, minus, whole, IsAtMost, IsBelow}
use Rattle.slice_num.specs.Fitting.{below, at_most}
use Rattle.slice_num.specs.Valuation.{cake}
use Rattle.slice_num.specs.declared.interval.Interval.{Interval}
use Rattle.slice_num.specs.declared.choice.Side.TheVariants as side
use Rattle.slice_num.specs.declared.choice.Choice.{Choice}
use Rattle.slice_num.specs.declared.choice.Choice.TheVariants as choice
use Rattle.slice_num.proofs.FieldLaws.{one_above, minus_above, minus_same, minus_least, whole_at_most, below-true, below-false}
use Rattle.slice_num.proofs.Equality.{equal_Decides}
use Rattle.slice_core.specs.Tree.{Tree, Ask, Set, Cut, Join, Test, Give, End}
use Rattle.slice_num.specs.Pieces.{piece_at, with_part, each_part, passed}
use Rattle.slice_core.specs.Agents.{IsAgent, HasAgents}
use Rattle.slice_core.specs.Measures.{AreMeasures}
use Rattle.slice_core.specs.Run.{Piece, Worth, State, Ending, Done, Stuck, Few, Bad, Many, run, start, ask_on, cut_on, join_on, give_on, with_board, chosen, source_value, scaled, added, term_value, terms_value, sum_value, ended, left_piece, right_piece, is_right, goes_yes}
use Rattle.slice_core.proofs.CutLaws.{cut_part, cut_answered, cut_at-is}
use Rattle.slice_num.specs.declared.cut_answer.CutAnswer.{CutAnswer}
use Rattle.slice_core.specs.declared.node.Lin.{Lin}
use Rattle.slice_core.specs.declared.node.LinTerm.{LinTerm}
use Rattle.slice_core.specs.declared.node.Source.{Source}
use Rattle.slice_core.specs.declared.node.Source.TheVariants.{Const, Reg}
use Rattle.slice_linear.specs.declared.row.RowKind.{RowKind}
use Rattle.slice_linear.specs.Proportion.{Meets}
use Rattle.slice_atoms.specs.Addresses.{Address, Cake, halved, left_of}
use Rattle.slice_atoms.specs.Forms.{Form, fixed_form, piece_form, sub_form}
use Rattle.slice_paths.specs.Places.{Condition, Way, AtEnd, Place, places, source_form, scaled_form, added_form, term_form, terms_form, sum_form, low_place, high_place, yes_kind, no_kind, whole_condition, whole_conditions, first_way, ask_way, choose_way, test_way, join_way, give_way, cut_way}
use Rattle.slice_paths.specs.Points.{Points, Uncut, stretch_of}
use Rattle.slice_atoms.specs.AtomLaws.{IsMade}
use Rattle.slice_atoms.proofs.AtomOrder.{IsAtom}
use Rattle.slice_atoms.proofs.PartCounts.{AllParts, AllPieces, atom_made}
use Rattle.slice_paths.proofs.Fits.{none, one, IsIn, pointed, IsNode, IsLeaf, form_value, Means, AllMean, IsTrueOf, AllTrue, Fit, Reached, Reaches}
use Rattle.slice_paths.proofs.Shapes.{cake_of_pointed, ends_stay, node_left, ends_left, ends_right, node_stays, inside_pointed}
use Rattle.slice_paths.proofs.Held.{held_atoms, share_atoms, piece_is, share_is, part_atoms, held_chosen, held_tested, held_asked, held_joined, held_given, held_cut, first_held}
use Rattle.slice_paths.proofs.Amounts.{flat_pointed, value_pointed, means_add, means_sub, means_scale, means_fixed, means_piece}
use Rattle.slice_paths.proofs.Parts.{choose, in_left, in_right, parts_all, piece_all, all_append_in, map_same}

-- ---- tests
both_true : (x y : Bool) → (x && y) ≡ true → (x ≡ true) × (y ≡ true)
both_true true true e = (e, e)
both_true true false e = (cc, e)
both_true false y e = (e, cc)

flip : (b : Bool) → (if b then false else true) ≡ true → b ≡ false
flip true e = cc
flip false e = refl

flop : (b : Bool) → (if b then false else true) ≡ false → b ≡ true
flop true e = refl
flop false e = cc

pub at_most_true : (a b : Rational) → at_most a b ≡ true → IsAtMost a b
at_most_true a b e = below-false b a (flip (below b a) e)

-- what a right answer to a cut says
pub right_is : (w : Piece → Rational) (before : Piece) (i : Interval) (y v : Rational) → is_right w before i y v ≡ true → IsAtMost i.from y × IsAtMost y i.to × (w (left_piece before i y) ≡ v)
right_is w before i y v e =
    let a = both_true _ _ e in
    let b = both_true _ _ a.1 in
    (at_most_true i.from y a.0, at_most_true y i.to b.0, (equal_Decides (w (left_piece before i y)) v _ refl).0 b.1)

module _ (w : Worth) (n : ℕ) (c : Interval) where
  reached_more : (ps qs : List Place) (e : Ending) (s : State) → ((x : Place) → IsIn x ps → IsIn x qs) → Reached w n c ps e s → Reached w n c qs e s
  reached_more ps qs e s h r = record { place = r.place; is_one = h r.place r.is_one; ends = r.ends; cuts = r.cuts; fit = r.fit; own = r.own }

  reaches_more : (ps qs : List Place) (e : Ending) → ((x : Place) → IsIn x ps → IsIn x qs) → Reaches w n c ps e → Reaches w n c qs e
  reaches_more ps qs (Done s) h r = reached_more ps qs (Done s) s h r
  reaches_more ps qs (Stuck at s) h r = reached_more ps qs (Stuck at s) s h r
  reaches_more ps qs (Few q) h r = tt
  reaches_more ps qs (Bad q) h r = tt
  reaches_more ps qs Many h r = tt

  ended_reaches : (ps : List Place) (e : Ending) (ys : List CutAnswer) → Reaches w n c ps e → Reaches w n c ps (ended e ys)
  ended_reaches ps e [] h = h
  ended_reaches ps e (y ∷ ys) h = tt

  -- registers and conditions
  module _ (t : Points) where
    pub mean_at : (vs : List Rational) (fs : List Form) → AllMean w n t c vs fs → (i : ℕ) → Means w n t c (get_or vs i none) (get_or fs i (fixed_form none))
    mean_at [] [] h i = means_fixed w n t c none
    mean_at [] (f ∷ fs) h i = absurd h
    mean_at (v ∷ vs) [] h i = absurd h
    mean_at (v ∷ vs) (f ∷ fs) h zero = h.0
    mean_at (v ∷ vs) (f ∷ fs) h (suc i) = mean_at vs fs h.1 i

    pub mean_push : (vs : List Rational) (fs : List Form) (v : Rational) (f : Form) → AllMean w n t c vs fs → Means w n t c v f → AllMean w n t c (vs ++ v ∷ []) (fs ++ f ∷ [])
    mean_push [] [] v f h k = (k, tt)
    mean_push [] (g ∷ fs) v f h k = absurd h
    mean_push (u ∷ vs) [] v f h k = absurd h
    mean_push (u ∷ vs) (g ∷ fs) v f h k = (h.0, mean_push vs fs v f h.1 k)

    pub hold_push : (ds : List Condition) (d : Condition) → AllTrue w n t c ds → IsTrueOf w n t c d → AllTrue w n t c (ds ++ d ∷ [])
    hold_push [] d h k = (k, tt)
    hold_push (x ∷ ds) d h k = (h.0, hold_push ds d h.1 k)

    module _ (vs : List Rational) (fs : List Form) (h : AllMean w n t c vs fs) where
      means_source : (x : Source) → Means w n t c (source_value vs x) (source_form fs x)
      means_source (Const v) = means_fixed w n t c v
      means_source (Reg i) = mean_at vs fs h i

      means_scaled : (o : Option Rational) (v : Rational) (f : Form) → Means w n t c v f → Means w n t c (scaled o v) (scaled_form o f)
      means_scaled None v f m = m
      means_scaled (Some k) v f m = means_scale w n t c k v f m

      means_added : (b : Bool) (u v : Rational) (f g : Form) → Means w n t c u f → Means w n t c v g → Means w n t c (added b u v) (added_form b f g)
      means_added true u v f g m k = means_sub w n t c u v f g m k
      means_added false u v f g m k = means_add w n t c u v f g m k

      means_term : (x : LinTerm) → Means w n t c (term_value vs x) (term_form fs x)
      means_term x = means_scaled x.factor (source_value vs x.source) (source_form fs x.source) (means_source x.source)

      means_terms : (u : Rational) (f : Form) (xs : List LinTerm) → Means w n t c u f → Means w n t c (terms_value vs u xs) (terms_form fs f xs)
      means_terms u f [] m = m
      means_terms u f (x ∷ xs) m =
          means_terms (added x.minus u (term_value vs x)) (added_form x.minus f (term_form fs x)) xs
          (means_added x.minus u (term_value vs x) f (term_form fs x) m (means_term x))

      pub means_sum : (xs : List LinTerm) → Means w n t c (sum_value vs xs) (sum_form fs xs)
      means_sum [] = means_fixed w n t c none
      means_sum (x ∷ xs) = means_terms (term_value vs x) (term_form fs x) xs (means_term x)

module _ (w : Worth) (n length_ : ℕ) (c : Interval) (measures : AreMeasures n length_ w) where
  -- parts of what is held were made
  held_made : (t : Points) (s : State) (k : Way) (ps : List (List Address)) (p : ℕ) → Fit w n c t s k → AllPieces (IsAtom k.cake) ps → AllParts (IsNode t) (piece_at ps p)
  held_made t s k ps p fit all = subst (λ (x : Cake). AllParts (IsMade x) (piece_at ps p)) (sym fit.same_cake) (parts_all (atom_made k.cake) (piece_at ps p) (piece_all (IsAtom k.cake) ps p all))

  pub means_held : (t : Points) (s : State) (k : Way) (a p : ℕ) → Fit w n c t s k → IsAgent n a → Means w n t c (w a (piece_at s.board.pieces p)) (piece_form a (piece_at k.pieces p))
  means_held t s k a p fit is =
      subst (λ (x : Piece). Means w n t c (w a x) (piece_form a (piece_at k.pieces p))) (sym (piece_is n (stretch_of t c) s k fit.held p))
      (means_piece w n t c length_ a (piece_at k.pieces p) (measures a is) is (held_made t s k k.pieces p fit (held_atoms n (stretch_of t c) s k fit.held)) fit.inside)

  -- what a share is worth to an agent
  pub means_share : (t : Points) (s : State) (k : Way) (a q : ℕ) → Fit w n c t s k → IsAgent n a → Means w n t c (w a (piece_at s.board.shares q)) (piece_form a (piece_at k.shares q))
  means_share t s k a q fit is =
      subst (λ (x : Piece). Means w n t c (w a x) (piece_form a (piece_at k.shares q))) (sym (share_is n (stretch_of t c) s k fit.held q))
      (means_piece w n t c length_ a (piece_at k.shares q) (measures a is) is (held_made t s k k.shares q fit (share_atoms n (stretch_of t c) s k fit.held)) fit.inside)

  pub fit_chosen : (t : Points) (s : State) (k : Way) (cs : List Choice) → Fit w n c t s k → Fit w n c t (chosen cs s) (choose_way cs k)
  fit_chosen t s k cs fit = record { held = held_chosen n (stretch_of t c) s k fit.held cs; inside = fit.inside; same_cake = fit.same_cake; holds = fit.holds }

  pub fit_tested : (t : Points) (s : State) (k : Way) (kind : RowKind) (f : Form) (x : Choice) → Fit w n c t s k → IsTrueOf w n t c (record { kind = kind; form = f }) → Fit w n c t (chosen (x ∷ []) s) (test_way kind f x k)
  fit_tested t s k kind f x fit h = record { held = held_tested n (stretch_of t c) s k fit.held kind f x; inside = fit.inside; same_cake = fit.same_cake; holds = hold_push w n c t k.conditions _ fit.holds h }

  pub fit_asked : (t : Points) (s : State) (k : Way) (a : ℕ) (v : Rational) → Fit w n c t s k → Fit w n c t (with_board (ask_on a v s.board) s) (ask_way k)
  fit_asked t s k a v fit = record { held = held_asked n (stretch_of t c) s k fit.held a v; inside = fit.inside; same_cake = fit.same_cake; holds = fit.holds }

  pub fit_joined : (t : Points) (s : State) (k : Way) (p q : ℕ) → Fit w n c t s k → Fit w n c t (with_board (join_on p q s.board) s) (join_way p q k)
  fit_joined t s k p q fit = record { held = held_joined n (stretch_of t c) s k fit.held p q; inside = fit.inside; same_cake = fit.same_cake; holds = fit.holds }

  pub fit_given : (t : Points) (s : State) (k : Way) (p a : ℕ) → IsAgent n a → Fit w n c t s k → Fit w n c t (with_board (give_on p a s.board) s) (give_way p a k)
  fit_given t s k p a is fit = record { held = held_given n (stretch_of t c) s k fit.held p a is; inside = fit.inside; same_cake = fit.same_cake; holds = fit.holds }

  -- what a cut does
  means_pointed : (t : Points) (A : Address) (y v : Rational) (f : Form) → IsLeaf t A → IsAtMost (stretch_of t c A).from y → IsAtMost y (stretch_of t c A).to → Means w n t c v f → Means w n (pointed A y t) c v f
  means_pointed t A y v f l p q h = record { value = value_pointed w n length_ t c A y f measures h.flat l p q ∙ h.value; flat = λ a. flat_pointed t A y (f.at a) (h.flat a) }

  all_mean_pointed : (t : Points) (A : Address) (y : Rational) (vs : List Rational) (fs : List Form) → IsLeaf t A → IsAtMost (stretch_of t c A).from y → IsAtMost y (stretch_of t c A).to → AllMean w n t c vs fs → AllMean w n (pointed A y t) c vs fs
  all_mean_pointed t A y [] [] l p q h = tt
  all_mean_pointed t A y [] (f ∷ fs) l p q h = absurd h
  all_mean_pointed t A y (v ∷ vs) [] l p q h = absurd h
  all_mean_pointed t A y (v ∷ vs) (f ∷ fs) l p q h = (means_pointed t A y v f l p q h.0, all_mean_pointed t A y vs fs l p q h.1)

  all_true_pointed : (t : Points) (A : Address) (y : Rational) (ds : List Condition) → IsLeaf t A → IsAtMost (stretch_of t c A).from y → IsAtMost y (stretch_of t c A).to → AllTrue w n t c ds → AllTrue w n (pointed A y t) c ds
  all_true_pointed t A y [] l p q h = tt
  all_true_pointed t A y (d ∷ ds) l p q h =
      (record { sign = subst (Meets d.kind) (sym (value_pointed w n length_ t c A y d.form measures h.0.flat l p q)) h.0.sign; flat = λ a. flat_pointed t A y (d.form.at a) (h.0.flat a) }, all_true_pointed t A y ds l p q h.1)

  fit_cut : (t : Points) (s : State) (k : Way) (a p : ℕ) (e : Form) (v : Rational) (y : CutAnswer) (before after : List Address) (A : Address) (ys : List CutAnswer)
      → Fit w n c t s k → IsAgent n a → before ++ A ∷ after ≡ piece_at k.pieces p → Means w n t c v e
      → IsAtMost (stretch_of t c A).from y.point → IsAtMost y.point (stretch_of t c A).to
      → w a (left_piece (map (stretch_of t c) before) (stretch_of t c A) y.point) ≡ v
      → Fit w n c (pointed A y.point t)
      (record { board = cut_on a p v y (left_piece (map (stretch_of t c) before) (stretch_of t c A) y.point) (right_piece (stretch_of t c A) y.point (map (stretch_of t c) after)) s.board; answers = ys; trace = s.trace ++ passed (map (stretch_of t c) before) })
      (cut_way a p e before A after k)
  fit_cut t s k a p e v y before after A ys fit is parts h lo hi right = record {
    held = held_cut n f s k fit.held g a p e v y before A after ys parts (λ B l. sym (ends_stay A y.point t c B (leaf_made B l))) (ends_left A y.point t c leaf) (ends_right A y.point t c leaf);
    inside = inside_pointed A y.point t c leaf fit.inside lo hi;
    same_cake = cake_of_pointed A y.point t ∙ ap (halved A) fit.same_cake;
    holds = hold_push w n c t' k.conditions _ (all_true_pointed t A y.point k.conditions leaf lo hi fit.holds) (record { sign = own.value ∙ minus_same _ v (ap (w a) (sym left) ∙ right); flat = own.flat });
  }
    where
      t' : Points
      t' = pointed A y.point t

      f : Address → Interval
      f = stretch_of t c

      g : Address → Interval
      g = stretch_of (pointed A y.point t) c

      atoms : AllParts (IsAtom k.cake) before × (IsAtom k.cake A × AllParts (IsAtom k.cake) after)
      atoms = part_atoms n f s k fit.held p before A after parts

      leaf : IsLeaf t A
      leaf = subst (λ (x : Cake). IsAtom x A) (sym fit.same_cake) atoms.1.0

      leaf_made : (B : Address) → IsAtom k.cake B → IsNode t B
      leaf_made B l = subst (λ (x : Cake). IsMade x B) (sym fit.same_cake) (atom_made k.cake B l)

      left : left_piece (map f before) (f A) y.point ≡ map g (before ++ left_of A ∷ [])
      left = (λ i. map_same f g before (parts_all (λ B l. sym (ends_stay A y.point t c B (leaf_made B l))) before atoms.0) i ++ sym (ends_left A y.point t c leaf) i ∷ []) ∙ sym (map-append g before (left_of A ∷ []))

      nodes : AllParts (IsNode t') (before ++ left_of A ∷ [])
      nodes = all_append_in (IsNode t') before (left_of A ∷ []) (parts_all (λ B l. node_stays A y.point t B (leaf_made B l)) before atoms.0) (node_left A y.point t leaf, tt)

      own : Means w n t' c (minus (w a (map g (before ++ left_of A ∷ []))) v) (sub_form (piece_form a (before ++ left_of A ∷ [])) e)
      own = means_sub w n t' c _ v (piece_form a (before ++ left_of A ∷ [])) e (means_piece w n t' c length_ a (before ++ left_of A ∷ []) (measures a is) is nodes (inside_pointed A y.point t c leaf fit.inside lo hi)) (means_pointed t A y.point v e leaf lo hi h)

  -- an answer that passes the test
  pub part_fit : (t : Points) (vs : List Rational) (fs : List Form) (s : State) (k : Way) (a p : ℕ) (e : Form) (v : Rational) (y : CutAnswer) (before after : List Address) (A : Address) (ys : List CutAnswer)
      → AllMean w n t c vs fs → Fit w n c t s k → IsAgent n a → before ++ A ∷ after ≡ piece_at k.pieces p → Means w n t c v e → is_right (w a) (map (stretch_of t c) before) (stretch_of t c A) y.point v ≡ true
      → AllMean w n (pointed A y.point t) c vs fs × Fit w n c (pointed A y.point t) (record { board = cut_on a p v y (left_piece (map (stretch_of t c) before) (stretch_of t c A) y.point) (right_piece (stretch_of t c A) y.point (map (stretch_of t c) after)) s.board; answers = ys; trace = s.trace ++ passed (map (stretch_of t c) before) }) (cut_way a p e before A after k)
  part_fit t vs fs s k a p e v y before after A ys means fit is parts mv right =
      let d = right_is (w a) (map (stretch_of t c) before) (stretch_of t c A) y.point v right in
      let leaf = subst (λ (x : Cake). IsAtom x A) (sym fit.same_cake) (part_atoms n (stretch_of t c) s k fit.held p before A after parts).1.0 in
      (all_mean_pointed t A y.point vs fs leaf d.0 d.1 means, fit_cut t s k a p e v y before after A ys fit is parts mv d.0 d.1 d.2)

  -- each part of the piece
  part_reaches : (f : Address → Interval) (q : ℕ) (go : List Interval → Interval → List Interval → Ending) (kgo : List Address → Address → List Address → List Place) (all_parts before after : List Address) (i : ℕ) → before ++ after ≡ all_parts
      → ((b : List Address) (A : Address) (r : List Address) → b ++ A ∷ r ≡ all_parts → Reaches w n c (kgo b A r) (go (map f b) (f A) (map f r)))
      → Reaches w n c (each_part before after kgo) (with_part (map f before) (map f after) i (Bad q) go)
  part_reaches f q go kgo all_parts before [] i e h = tt
  part_reaches f q go kgo all_parts before (A ∷ after) zero e h =
      reaches_more w n c (kgo before A after) _ _ (λ x. in_left x (kgo before A after) _) (h before A after e)
  part_reaches f q go kgo all_parts before (A ∷ after) (suc i) e h =
      reaches_more w n c (each_part (before ++ A ∷ []) after kgo) _ _ (λ x. in_right x (kgo before A after) _)
      (subst (λ (b : List Interval). Reaches w n c (each_part (before ++ A ∷ []) after kgo) (with_part b (map f after) i (Bad q) go)) (map-append f before (A ∷ []))
      (part_reaches f q go kgo all_parts (before ++ A ∷ []) after i (append_assoc before (A ∷ []) after ∙ e) h))

  -- what follows reaches its places, from each fitting state on
  abbrev Follows : Tree → Type 0
  Follows next = (t : Points) (vs : List Rational) (fs : List Form) (s : State) (k : Way) → AllMean w n t c vs fs → Fit w n c t s k → Reaches w n c (places next fs k) (run w next vs s)

  -- a cut, where what follows does
  cut_reaches : (next : Tree) → Follows next → (a p l r : ℕ) (amount : Lin) → IsAgent n a → Follows (Cut a p amount l r next)
  cut_reaches next later a p l r amount is t vs fs s k means fit =
      subst (Reaches w n c (places (Cut a p amount l r next) fs k)) (sym (cut_at-is (w a) a p v (run w next vs) s))
      (choose (Reaches w n c (places (Cut a p amount l r next) fs k)) (below v none) _ _
      (λ e. ended_reaches w n c _ (Stuck side.Low (chosen (choice.Low ∷ []) s)) s.answers (record { place = low_place f k; is_one = inl refl; ends = refl; cuts = t; fit = fit_chosen t s k (choice.Low ∷ []) fit; own = low_own e }))
      (λ e. choose (Reaches w n c (places (Cut a p amount l r next) fs k)) (below held v) _ _
      (λ e'. ended_reaches w n c _ (Stuck side.High (chosen (choice.High ∷ []) s)) s.answers (record { place = high_place a p f k; is_one = inr (inl refl); ends = refl; cuts = t; fit = fit_chosen t s k (choice.High ∷ []) fit; own = high_own e' }))
      (λ e'. answered s.answers)))
    where
      v : Rational
      v = sum_value vs amount.terms

      f : Form
      f = sum_form fs amount.terms

      mv : Means w n t c v f
      mv = means_sum w n c t vs fs means amount.terms

      held : Rational
      held = w a (piece_at s.board.pieces p)

      mh : Means w n t c held (piece_form a (piece_at k.pieces p))
      mh = means_held t s k a p fit is

      low_own : below v none ≡ true → IsBelow none (form_value w n t c (sub_form (fixed_form none) f))
      low_own e = subst (λ (x : Rational). IsBelow none x) (sym (means_sub w n t c none v (fixed_form none) f (means_fixed w n t c none) mv).value) (minus_above none v (below-true v none e))

      high_own : below held v ≡ true → IsBelow none (form_value w n t c (sub_form f (piece_form a (piece_at k.pieces p))))
      high_own e = subst (λ (x : Rational). IsBelow none x) (sym (means_sub w n t c v held f (piece_form a (piece_at k.pieces p)) mv mh).value) (minus_above v held (below-true held v e))

      kgo : List Address → Address → List Address → List Place
      kgo b A r = places next fs (cut_way a p f b A r k)

      part : (y : CutAnswer) (ys : List CutAnswer) (b : List Address) (A : Address) (r : List Address) → b ++ A ∷ r ≡ piece_at k.pieces p
          → Reaches w n c (kgo b A r) (cut_part (w a) a p v y ys (run w next vs) s (map (stretch_of t c) b) (stretch_of t c A) (map (stretch_of t c) r))
      part y ys b A r e =
          choose (Reaches w n c (kgo b A r)) (is_right (w a) (map (stretch_of t c) b) (stretch_of t c A) y.point v) _ _
          (λ x. let g = part_fit t vs fs s k a p f v y b r A ys means fit is e mv x in later (pointed A y.point t) vs fs _ _ g.0 g.1)
          (λ x. tt)

      answered : (xs : List CutAnswer) → Reaches w n c (places (Cut a p amount l r next) fs k) (cut_answered (w a) a p v (run w next vs) s xs)
      answered [] = tt
      answered (x ∷ ys) =
          reaches_more w n c (each_part [] (piece_at k.pieces p) kgo) _ _ (λ z h. inr (inr h))
          (subst (λ (P : Piece). Reaches w n c (each_part [] (piece_at k.pieces p) kgo) (with_part [] P x.part (Bad (length s.board.queries)) (cut_part (w a) a p v x ys (run w next vs) s))) (sym (piece_is n (stretch_of t c) s k fit.held p))
          (part_reaches (stretch_of t c) (length s.board.queries) (cut_part (w a) a p v x ys (run w next vs) s) kgo (piece_at k.pieces p) [] (piece_at k.pieces p) x.part refl (λ b A r e. part x ys b A r e)))

  -- what the arm that is taken says
  pub yes_true : (t : Points) (b : Bool) (u v : Rational) (f g : Form) → Means w n t c u f → Means w n t c v g → goes_yes b u v ≡ true → IsTrueOf w n t c (record { kind = yes_kind b; form = sub_form f g })
  yes_true t b u v f g mu mv = by b
    where
      m : Means w n t c (minus u v) (sub_form f g)
      m = means_sub w n t c u v f g mu mv

      by : (b : Bool) → goes_yes b u v ≡ true → IsTrueOf w n t c (record { kind = yes_kind b; form = sub_form f g })
      by true e = record { sign = subst (λ (x : Rational). IsBelow none x) (sym m.value) (minus_above u v (below-true v u e)); flat = m.flat }
      by false e = record { sign = subst (λ (x : Rational). IsAtMost none x) (sym m.value) (minus_least u v (at_most_true v u e)); flat = m.flat }

  pub no_true : (t : Points) (b : Bool) (u v : Rational) (f g : Form) → Means w n t c u f → Means w n t c v g → goes_yes b u v ≡ false → IsTrueOf w n t c (record { kind = no_kind b; form = sub_form g f })
  no_true t b u v f g mu mv = by b
    where
      m : Means w n t c (minus v u) (sub_form g f)
      m = means_sub w n t c v u g f mv mu

      by : (b : Bool) → goes_yes b u v ≡ false → IsTrueOf w n t c (record { kind = no_kind b; form = sub_form g f })
      by true e = record { sign = subst (λ (x : Rational). IsAtMost none x) (sym m.value) (minus_least v u (below-false v u e)); flat = m.flat }
      by false e = record { sign = subst (λ (x : Rational). IsBelow none x) (sym m.value) (minus_above v u (below-true u v (flop (below u v) e))); flat = m.flat }

  -- a test, where what follows does
  test_reaches : (at_yes at_no : Tree) → Follows at_yes → Follows at_no → (left right : Lin) (strict : Bool) → Follows (Test left right strict at_yes at_no)
  test_reaches at_yes at_no yes_later no_later left right strict t vs fs s k means fit =
      choose (Reaches w n c (places (Test left right strict at_yes at_no) fs k)) (goes_yes strict (sum_value vs left.terms) (sum_value vs right.terms)) (run w at_yes vs (chosen (choice.Yes ∷ []) s)) (run w at_no vs (chosen (choice.No ∷ []) s))
      (λ e. reaches_more w n c (places at_yes fs y) _ _ (λ x. in_left x (places at_yes fs y) (places at_no fs z)) (yes_later t vs fs _ y means (fit_tested t s k (yes_kind strict) _ choice.Yes fit (yes_true t strict _ _ fu fv mu mv e))))
      (λ e. reaches_more w n c (places at_no fs z) _ _ (λ x. in_right x (places at_yes fs y) (places at_no fs z)) (no_later t vs fs _ z means (fit_tested t s k (no_kind strict) _ choice.No fit (no_true t strict _ _ fu fv mu mv e))))
    where
      fu : Form
      fu = sum_form fs left.terms

      fv : Form
      fv = sum_form fs right.terms

      mu : Means w n t c (sum_value vs left.terms) fu
      mu = means_sum w n c t vs fs means left.terms

      mv : Means w n t c (sum_value vs right.terms) fv
      mv = means_sum w n c t vs fs means right.terms

      y : Way
      y = test_way (yes_kind strict) (sub_form fu fv) choice.Yes k

      z : Way
      z = test_way (no_kind strict) (sub_form fv fu) choice.No k

  reaches : (core : Tree) → HasAgents n core → Follows core
  reaches (Ask a p r next) is t vs fs s k means fit = reaches next is.1 t _ _ _ _ (mean_push w n c t vs fs _ _ means (means_held t s k a p fit is.0)) (fit_asked t s k a _ fit)
  reaches (Set r sum next) is t vs fs s k means fit = reaches next is t _ _ s k (mean_push w n c t vs fs _ _ means (means_sum w n c t vs fs means sum.terms)) fit
  reaches (Cut a p amount l r next) is t vs fs s k means fit = cut_reaches next (reaches next is.1) a p l r amount is.0 t vs fs s k means fit
  reaches (Join p q r next) is t vs fs s k means fit = reaches next is t vs fs _ _ means (fit_joined t s k p q fit)
  reaches (Test left right strict at_yes at_no) is t vs fs s k means fit = test_reaches at_yes at_no (reaches at_yes is.0) (reaches at_no is.1) left right strict t vs fs s k means fit
  reaches (Give p a next) is t vs fs s k means fit = reaches next is.1 t vs fs _ _ means (fit_given t s k p a is.0 fit)
  reaches End is t vs fs s k means fit = ended_reaches w n c _ (Done s) s.answers (record { place = record { stop = AtEnd; way = k }; is_one = inl refl; ends = tt; cuts = t; fit = fit; own = tt })

-- from the uncut cake
pub first_fit : (w : Worth) (n length_ : ℕ) → AreMeasures n length_ w → (ys : List CutAnswer) → Fit w n (cake length_) Uncut (start n length_ ys) (first_way n)
first_fit w n length_ measures ys = record {
  held = first_held n (stretch_of Uncut c) (start n length_ ys) refl refl refl refl;
  inside = order;
  same_cake = refl;
  holds = (record { sign = subst (λ (x : Rational). IsBelow none x) (sym (means_fixed w n Uncut c one).value) one_above; flat = (means_fixed w n Uncut c one).flat }, agents n (omega arith));
}
  where
    c : Interval
    c = cake length_

    order : IsAtMost (whole (pos 0)) (whole (pos length_))
    order = whole_at_most (pos 0) (pos length_) (omega (arith, ints))

    agent : (a : ℕ) → IsAgent n a → IsTrueOf w n Uncut c (whole_condition a)
    agent a is =
        let m = means_sub w n Uncut c (w a (c ∷ [])) one (piece_form a ([] ∷ [])) (fixed_form one) (means_piece w n Uncut c length_ a ([] ∷ []) (measures a is) is (tt, tt) order) (means_fixed w n Uncut c one) in
        record { sign = m.value ∙ minus_same _ one (measures a is).whole_cake; flat = m.flat }

    agents : (m : ℕ) → m ≤ n → AllTrue w n Uncut c (whole_conditions m)
    agents zero h = tt
    agents (suc m) h = hold_push w n c Uncut (whole_conditions m) _ (agents m (omega arith)) (agent (suc m) (omega arith, h))

pub runs_reach : (w : Worth) (n length_ : ℕ) → AreMeasures n length_ w → (core : Tree) → HasAgents n core → (ys : List CutAnswer) → Reaches w n (cake length_) (places core [] (first_way n)) (run w core [] (start n length_ ys))
runs_reach w n length_ measures core is ys = reaches w n length_ (cake length_) measures core is Uncut [] [] (start n length_ ys) (first_way n) tt (first_fit w n length_ measures ys)
