-- A run fits each way that it passed.
use Rattle.std.proofs.Common.{◌≡◌, ◌∙◌, ℕ, zero, suc, refl, sym, ap, subst, Bool, List, [], ◌∷◌, ◌++◌, map, length, ◌⊎◌, inl, inr, append_assoc, append-nil}
use Rattle.std.proofs.lemmas.List.{map-append}
use Rattle.slice_num.specs.Rational.{Rational}
use Rattle.slice_num.specs.Fitting.{below}
use Rattle.slice_num.specs.Valuation.{cake}
use Rattle.slice_num.specs.declared.interval.Interval.{Interval}
use Rattle.slice_num.specs.declared.choice.Side.TheVariants as side
use Rattle.slice_num.specs.declared.choice.Choice.{Choice}
use Rattle.slice_num.specs.declared.choice.Choice.TheVariants.{Low, High, Go, Yes, No}
use Rattle.slice_num.specs.declared.choice.Choice.TheVariants as choice
use Rattle.slice_core.specs.Tree.{Tree, Core, Ask, Set, Cut, Join, Test, Give, End}
use Rattle.slice_num.specs.Pieces.{piece_at, with_part, passed}
use Rattle.slice_core.specs.Agents.{IsAgent, HasAgents}
use Rattle.slice_core.specs.Measures.{AreMeasures}
use Rattle.slice_core.specs.Run.{Piece, Worth, State, Ending, Done, Stuck, Few, Bad, Many, run, run_core, start, chosen, sum_value, ended, is_right, goes_yes}
use Rattle.slice_core.proofs.CutLaws.{cut_part, cut_answered, cut_at-is}
use Rattle.slice_num.specs.declared.cut_answer.CutAnswer.{CutAnswer}
use Rattle.slice_core.specs.declared.node.Lin.{Lin}
use Rattle.slice_atoms.specs.Addresses.{Address}
use Rattle.slice_atoms.specs.Forms.{Form, sub_form}
use Rattle.slice_paths.specs.Places.{Way, sum_form, yes_kind, no_kind, first_way, test_way, cut_way}
use Rattle.slice_paths.specs.Ways.{in_part, at_cut, way_by}
use Rattle.slice_paths.specs.Points.{Points, Uncut, stretch_of}
use Rattle.slice_paths.proofs.Fits.{none, pointed, Means, AllMean, Fit}
use Rattle.slice_paths.proofs.Held.{piece_is}
use Rattle.slice_paths.proofs.Parts.{choose}
use Rattle.slice_paths.proofs.Obeys.{mean_push, means_sum, means_held, fit_chosen, fit_tested, fit_asked, fit_joined, fit_given, part_fit, yes_true, no_true, first_fit}

-- ---- choices at a cut
nothing_taken : (go : List Address → Address → List Address → List Choice → Way) (k : Way) (before parts : List Address) → in_part go k before parts [] ≡ k
nothing_taken go k before [] = refl
nothing_taken go k before (A ∷ after) = refl

-- a front of the choices at a passed cut ends while parts are skipped, or goes on behind the cut
front_of_cut : (go : List Address → Address → List Address → List Choice → Way) (k : Way) (skipped b : List Address) (A : Address) (r : List Address) (front rest more : List Choice) → front ++ rest ≡ passed b ++ more
    → (in_part go k skipped (b ++ A ∷ r) front ≡ k) ⊎ ((on : List Choice) × (on ++ rest ≡ more) × (in_part go k skipped (b ++ A ∷ r) front ≡ go (skipped ++ b) A r on))
front_of_cut go k skipped b A r [] rest more e = inl (nothing_taken go k skipped (b ++ A ∷ r))
front_of_cut go k skipped [] A r (Go ∷ front) rest more e = inr (front, ap tail e, ap (λ (x : List Address). go x A r front) (sym (append-nil skipped)))
  where
    tail : List Choice → List Choice
    tail [] = []
    tail (x ∷ xs) = xs
front_of_cut go k skipped [] A r (No ∷ front) rest more e = absurd (other e)
  where
    other : No ∷ (front ++ rest) ≡ Go ∷ more → ⊥
    other f = cc
front_of_cut go k skipped [] A r (Low ∷ front) rest more e = absurd (other e)
  where
    other : Low ∷ (front ++ rest) ≡ Go ∷ more → ⊥
    other f = cc
front_of_cut go k skipped [] A r (High ∷ front) rest more e = absurd (other e)
  where
    other : High ∷ (front ++ rest) ≡ Go ∷ more → ⊥
    other f = cc
front_of_cut go k skipped [] A r (Yes ∷ front) rest more e = absurd (other e)
  where
    other : Yes ∷ (front ++ rest) ≡ Go ∷ more → ⊥
    other f = cc
front_of_cut go k skipped (x ∷ b) A r (No ∷ front) rest more e =
    by (front_of_cut go k (skipped ++ x ∷ []) b A r front rest more (ap tail e))
  where
    tail : List Choice → List Choice
    tail [] = []
    tail (y ∷ ys) = ys

    by : (in_part go k (skipped ++ x ∷ []) (b ++ A ∷ r) front ≡ k) ⊎ ((on : List Choice) × (on ++ rest ≡ more) × (in_part go k (skipped ++ x ∷ []) (b ++ A ∷ r) front ≡ go ((skipped ++ x ∷ []) ++ b) A r on))
        → (in_part go k (skipped ++ x ∷ []) (b ++ A ∷ r) front ≡ k) ⊎ ((on : List Choice) × (on ++ rest ≡ more) × (in_part go k (skipped ++ x ∷ []) (b ++ A ∷ r) front ≡ go (skipped ++ x ∷ b) A r on))
    by (inl h) = inl h
    by (inr h) = inr (h.0, h.1, h.2 ∙ ap (λ (y : List Address). go y A r h.0) (append_assoc skipped (x ∷ []) b))
front_of_cut go k skipped (x ∷ b) A r (Go ∷ front) rest more e = absurd (other e)
  where
    other : Go ∷ (front ++ rest) ≡ No ∷ (passed b ++ more) → ⊥
    other f = cc
front_of_cut go k skipped (x ∷ b) A r (Low ∷ front) rest more e = absurd (other e)
  where
    other : Low ∷ (front ++ rest) ≡ No ∷ (passed b ++ more) → ⊥
    other f = cc
front_of_cut go k skipped (x ∷ b) A r (High ∷ front) rest more e = absurd (other e)
  where
    other : High ∷ (front ++ rest) ≡ No ∷ (passed b ++ more) → ⊥
    other f = cc
front_of_cut go k skipped (x ∷ b) A r (Yes ∷ front) rest more e = absurd (other e)
  where
    other : Yes ∷ (front ++ rest) ≡ No ∷ (passed b ++ more) → ⊥
    other f = cc

-- such a front isn't stuck
front_is_on : (on : List Choice → Way) (k : Way) (b : List Address) (front rest more : List Choice) → front ++ rest ≡ passed b ++ more → at_cut on k front ≡ on front
front_is_on on k b [] rest more e = refl
front_is_on on k b (Go ∷ front) rest more e = refl
front_is_on on k b (No ∷ front) rest more e = refl
front_is_on on k b (Yes ∷ front) rest more e = refl
front_is_on on k b (Low ∷ front) rest more e = absurd (other b e)
  where
    other : (b : List Address) → Low ∷ (front ++ rest) ≡ passed b ++ more → ⊥
    other [] f = cc
    other (x ∷ b) f = cc
front_is_on on k b (High ∷ front) rest more e = absurd (other b e)
  where
    other : (b : List Address) → High ∷ (front ++ rest) ≡ passed b ++ more → ⊥
    other [] f = cc
    other (x ∷ b) f = cc

module _ (w : Worth) (n length_ : ℕ) (c : Interval) (measures : AreMeasures n length_ w) where
  -- some state fits the way
  abbrev pub FitAt : Way → Type 0
  FitAt m = (t : Points) × (s : State) × Fit w n c t s m

  -- the choices from a way on, and a state that fits after each front of them
  pub record PassesBy (core : Tree) (fs : List Form) (k : Way) (s : State) : Type 0 where
    pub more : List Choice
    pub trace : s.trace ≡ k.trace ++ more
    pub each : (front rest : List Choice) → front ++ rest ≡ more → FitAt (way_by core fs k front)

  abbrev pub Passes : Tree → List Form → Way → Ending → Type 0
  Passes core fs k (Done s) = PassesBy core fs k s
  Passes core fs k (Stuck at s) = PassesBy core fs k s
  Passes core fs k (Few q) = Unit {0}
  Passes core fs k (Bad q) = Unit {0}
  Passes core fs k Many = Unit {0}

  ended_passes : (core : Tree) (fs : List Form) (k : Way) (e : Ending) (ys : List CutAnswer) → Passes core fs k e → Passes core fs k (ended e ys)
  ended_passes core fs k e [] h = h
  ended_passes core fs k e (y ∷ ys) h = tt

  -- the same choices from an earlier way on
  passes_from : (core next : Tree) (fs gs : List Form) (k m : Way) (e : Ending) → ((s : State) → PassesBy next gs m s → PassesBy core fs k s) → Passes next gs m e → Passes core fs k e
  passes_from core next fs gs k m (Done s) f h = f s h
  passes_from core next fs gs k m (Stuck at s) f h = f s h
  passes_from core next fs gs k m (Few q) f h = tt
  passes_from core next fs gs k m (Bad q) f h = tt
  passes_from core next fs gs k m Many f h = tt

  -- a stuck cut
  stuck_passes : (a p l r : ℕ) (amount : Lin) (next : Tree) (fs : List Form) (t : Points) (s : State) (k : Way) (x : Choice) → (x ≡ Low) ⊎ (x ≡ High) → Fit w n c t s k → PassesBy (Cut a p amount l r next) fs k (chosen (x ∷ []) s)
  stuck_passes a p l r amount next fs t s k x which fit = record { more = x ∷ []; trace = ap (λ (y : List Choice). y ++ x ∷ []) fit.held.trace; each = each }
    where
      go : List Address → Address → List Address → List Choice → Way
      go before A after cs = way_by next fs (cut_way a p (sum_form fs amount.terms) before A after k) cs

      stop : (y : Choice) (front : List Choice) → (y ≡ Low) ⊎ (y ≡ High) → FitAt (at_cut (in_part go k [] (piece_at k.pieces p)) k (y ∷ front))
      stop y front (inl e) = subst (λ (z : Choice). FitAt (at_cut (in_part go k [] (piece_at k.pieces p)) k (z ∷ front))) (sym e) (t, chosen (Low ∷ []) s, fit_chosen w n length_ c measures t s k (Low ∷ []) fit)
      stop y front (inr e) = subst (λ (z : Choice). FitAt (at_cut (in_part go k [] (piece_at k.pieces p)) k (z ∷ front))) (sym e) (t, chosen (High ∷ []) s, fit_chosen w n length_ c measures t s k (High ∷ []) fit)

      head : List Choice → Choice
      head [] = Go
      head (y ∷ ys) = y

      each : (front rest : List Choice) → front ++ rest ≡ x ∷ [] → FitAt (way_by (Cut a p amount l r next) fs k front)
      each [] rest e = subst FitAt (sym (nothing_taken go k [] (piece_at k.pieces p))) (t, s, fit)
      each (y ∷ front) rest e = stop y front (elim which [ inl f ↦ inl (ap head e ∙ f) | inr f ↦ inr (ap head e ∙ f) ])

  -- a passed cut
  cut_passes : (a p l r : ℕ) (amount : Lin) (next : Tree) (fs : List Form) (t : Points) (s0 : State) (k : Way) (b : List Address) (A : Address) (r2 : List Address) → b ++ A ∷ r2 ≡ piece_at k.pieces p → Fit w n c t s0 k
      → (s : State) → PassesBy next fs (cut_way a p (sum_form fs amount.terms) b A r2 k) s → PassesBy (Cut a p amount l r next) fs k s
  cut_passes a p l r amount next fs t s0 k b A r2 parts fit s h = record { more = passed b ++ h.more; trace = h.trace ∙ append_assoc k.trace (passed b) h.more; each = each }
    where
      go : List Address → Address → List Address → List Choice → Way
      go before B after cs = way_by next fs (cut_way a p (sum_form fs amount.terms) before B after k) cs

      each : (front rest : List Choice) → front ++ rest ≡ passed b ++ h.more → FitAt (way_by (Cut a p amount l r next) fs k front)
      each front rest e =
          subst FitAt (sym (front_is_on (in_part go k [] (piece_at k.pieces p)) k b front rest h.more e))
          (subst (λ (ps : List Address). FitAt (in_part go k [] ps front)) parts
          (elim (front_of_cut go k [] b A r2 front rest h.more e) [
            | inl f ↦ subst FitAt (sym f) (t, s0, fit)
            | inr f ↦ subst FitAt (sym f.2) (h.each f.0 rest f.1)
          ]))

  arm_passes : (left right : Lin) (strict : Bool) (y z : Tree) (fs : List Form) (t : Points) (s0 : State) (k : Way) → Fit w n c t s0 k
      → ((s : State) → PassesBy y fs (test_way (yes_kind strict) (sub_form (sum_form fs left.terms) (sum_form fs right.terms)) choice.Yes k) s → PassesBy (Test left right strict y z) fs k s)
      × ((s : State) → PassesBy z fs (test_way (no_kind strict) (sub_form (sum_form fs right.terms) (sum_form fs left.terms)) choice.No k) s → PassesBy (Test left right strict y z) fs k s)
  arm_passes left right strict y z fs t s0 k fit = (
    λ s h. record { more = Yes ∷ h.more; trace = h.trace ∙ append_assoc k.trace (Yes ∷ []) h.more; each = each_yes s h },
    λ s h. record { more = No ∷ h.more; trace = h.trace ∙ append_assoc k.trace (No ∷ []) h.more; each = each_no s h },
  )
    where
      ym : Way
      ym = test_way (yes_kind strict) (sub_form (sum_form fs left.terms) (sum_form fs right.terms)) choice.Yes k

      zm : Way
      zm = test_way (no_kind strict) (sub_form (sum_form fs right.terms) (sum_form fs left.terms)) choice.No k

      tail : List Choice → List Choice
      tail [] = []
      tail (x ∷ xs) = xs

      each_yes : (s : State) (h : PassesBy y fs ym s) (front rest : List Choice) → front ++ rest ≡ Yes ∷ h.more → FitAt (way_by (Test left right strict y z) fs k front)
      each_yes s h [] rest e = (t, s0, fit)
      each_yes s h (Yes ∷ front) rest e = h.each front rest (ap tail e)
      each_yes s h (No ∷ front) rest e = absurd (other e)
        where
          other : No ∷ (front ++ rest) ≡ Yes ∷ h.more → ⊥
          other f = cc
      each_yes s h (Low ∷ front) rest e = (t, s0, fit)
      each_yes s h (High ∷ front) rest e = (t, s0, fit)
      each_yes s h (Go ∷ front) rest e = (t, s0, fit)

      each_no : (s : State) (h : PassesBy z fs zm s) (front rest : List Choice) → front ++ rest ≡ No ∷ h.more → FitAt (way_by (Test left right strict y z) fs k front)
      each_no s h [] rest e = (t, s0, fit)
      each_no s h (No ∷ front) rest e = h.each front rest (ap tail e)
      each_no s h (Yes ∷ front) rest e = absurd (other e)
        where
          other : Yes ∷ (front ++ rest) ≡ No ∷ h.more → ⊥
          other f = cc
      each_no s h (Low ∷ front) rest e = (t, s0, fit)
      each_no s h (High ∷ front) rest e = (t, s0, fit)
      each_no s h (Go ∷ front) rest e = (t, s0, fit)

  -- whichever part the answer names
  any_part : (P : Ending → Type 0) (f : Address → Interval) (q : ℕ) (go : List Interval → Interval → List Interval → Ending) (all_parts before after : List Address) (i : ℕ) → before ++ after ≡ all_parts → P (Bad q)
      → ((b : List Address) (A : Address) (r : List Address) → b ++ A ∷ r ≡ all_parts → P (go (map f b) (f A) (map f r))) → P (with_part (map f before) (map f after) i (Bad q) go)
  any_part P f q go all_parts before [] i e bad h = bad
  any_part P f q go all_parts before (A ∷ after) zero e bad h = h before A after e
  any_part P f q go all_parts before (A ∷ after) (suc i) e bad h =
      subst (λ (b : List Interval). P (with_part b (map f after) i (Bad q) go)) (map-append f before (A ∷ []))
      (any_part P f q go all_parts (before ++ A ∷ []) after i (append_assoc before (A ∷ []) after ∙ e) bad h)

  abbrev PassesOn : Tree → Type 0
  PassesOn next = (t : Points) (vs : List Rational) (fs : List Form) (s : State) (k : Way) → AllMean w n t c vs fs → Fit w n c t s k → Passes next fs k (run w next vs s)

  any_cut_passes : (next : Tree) → PassesOn next → (a p l r : ℕ) (amount : Lin) → IsAgent n a → PassesOn (Cut a p amount l r next)
  any_cut_passes next later a p l r amount is t vs fs s k means fit =
      subst P (sym (cut_at-is (w a) a p v (run w next vs) s))
      (choose P (below v none) _ _ (λ e. ended_passes (Cut a p amount l r next) fs k (Stuck side.Low (chosen (Low ∷ []) s)) s.answers (stuck_passes a p l r amount next fs t s k Low (inl refl) fit))
      (λ e. choose P (below (w a (piece_at s.board.pieces p)) v) _ _ (λ e'. ended_passes (Cut a p amount l r next) fs k (Stuck side.High (chosen (High ∷ []) s)) s.answers (stuck_passes a p l r amount next fs t s k High (inr refl) fit))
      (λ e'. answered s.answers)))
    where
      v : Rational
      v = sum_value vs amount.terms

      f : Form
      f = sum_form fs amount.terms

      P : Ending → Type 0
      P e = Passes (Cut a p amount l r next) fs k e

      answered : (xs : List CutAnswer) → Passes (Cut a p amount l r next) fs k (cut_answered (w a) a p v (run w next vs) s xs)
      answered [] = tt
      answered (y ∷ ys) =
          subst (λ (Q : Piece). Passes (Cut a p amount l r next) fs k (with_part [] Q y.part (Bad (length s.board.queries)) (cut_part (w a) a p v y ys (run w next vs) s))) (sym (piece_is n (stretch_of t c) s k fit.held p))
          (any_part (Passes (Cut a p amount l r next) fs k) (stretch_of t c) (length s.board.queries) (cut_part (w a) a p v y ys (run w next vs) s) (piece_at k.pieces p) [] (piece_at k.pieces p) y.part refl tt (λ b A q e.
          choose (Passes (Cut a p amount l r next) fs k) (is_right (w a) (map (stretch_of t c) b) (stretch_of t c A) y.point v) _ _
          (λ x. let g = part_fit w n length_ c measures t vs fs s k a p f v y b q A ys means fit is e (means_sum w n c t vs fs means amount.terms) x in
          passes_from (Cut a p amount l r next) next fs fs k (cut_way a p f b A q k) _ (cut_passes a p l r amount next fs t s k b A q e fit) (later (pointed A y.point t) vs fs _ _ g.0 g.1))
          (λ x. tt)))

  passes : (core : Tree) → HasAgents n core → PassesOn core
  passes (Ask a p r next) is t vs fs s k means fit =
      passes_from (Ask a p r next) next fs _ k _ _ (λ s2 h. record { more = h.more; trace = h.trace; each = h.each })
      (passes next is.1 t _ _ _ _ (mean_push w n c t vs fs _ _ means (means_held w n length_ c measures t s k a p fit is.0)) (fit_asked w n length_ c measures t s k a _ fit))
  passes (Set r sum next) is t vs fs s k means fit =
      passes_from (Set r sum next) next fs _ k _ _ (λ s2 h. record { more = h.more; trace = h.trace; each = h.each })
      (passes next is t _ _ s k (mean_push w n c t vs fs _ _ means (means_sum w n c t vs fs means sum.terms)) fit)
  passes (Join p q r next) is t vs fs s k means fit =
      passes_from (Join p q r next) next fs _ k _ _ (λ s2 h. record { more = h.more; trace = h.trace; each = h.each }) (passes next is t vs fs _ _ means (fit_joined w n length_ c measures t s k p q fit))
  passes (Give p a next) is t vs fs s k means fit =
      passes_from (Give p a next) next fs _ k _ _ (λ s2 h. record { more = h.more; trace = h.trace; each = h.each }) (passes next is.1 t vs fs _ _ means (fit_given w n length_ c measures t s k p a is.0 fit))
  passes End is t vs fs s k means fit = ended_passes End fs k (Done s) s.answers (record { more = []; trace = fit.held.trace ∙ sym (append-nil k.trace); each = λ front rest e. (t, s, fit) })
  passes (Cut a p amount l r next) is t vs fs s k means fit = any_cut_passes next (passes next is.1) a p l r amount is.0 t vs fs s k means fit
  passes (Test left right strict y z) is t vs fs s k means fit =
      choose (Passes (Test left right strict y z) fs k) (goes_yes strict (sum_value vs left.terms) (sum_value vs right.terms)) _ _
      (λ e. passes_from (Test left right strict y z) y fs fs k _ _ (arm_passes left right strict y z fs t s k fit).0 (passes y is.0 t vs fs _ _ means (fit_tested w n length_ c measures t s k (yes_kind strict) _ choice.Yes fit (yes_true w n length_ c measures t strict _ _ _ _ mu mv e))))
      (λ e. passes_from (Test left right strict y z) z fs fs k _ _ (arm_passes left right strict y z fs t s k fit).1 (passes z is.1 t vs fs _ _ means (fit_tested w n length_ c measures t s k (no_kind strict) _ choice.No fit (no_true w n length_ c measures t strict _ _ _ _ mu mv e))))
    where
      mu : Means w n t c (sum_value vs left.terms) (sum_form fs left.terms)
      mu = means_sum w n c t vs fs means left.terms

      mv : Means w n t c (sum_value vs right.terms) (sum_form fs right.terms)
      mv = means_sum w n c t vs fs means right.terms

-- from the uncut cake
pub runs_pass : (core : Core) (w : Worth) (length_ : ℕ) (measures : AreMeasures core.agents length_ w) → HasAgents core.agents core.tree → (ys : List CutAnswer) → Passes w core.agents length_ (cake length_) measures core.tree [] (first_way core.agents) (run_core w core length_ ys)
runs_pass core w length_ measures is ys =
    passes w core.agents length_ (cake length_) measures core.tree is Uncut [] [] (start core.agents length_ ys) (first_way core.agents) tt (first_fit w core.agents length_ measures ys)
