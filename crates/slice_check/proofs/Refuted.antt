-- The goals of a certified core are refuted, so its runs are fair.
use Rattle.std.proofs.Common.{◌≡◌, ◌∙◌, inl, inr, ◌+◌, ◌++◌, ℕ, zero, suc, List, [], ◌∷◌, take, drop, ap, sym, subst, refl, take-append-drop, get_or, Some, None}
use Rattle.std.specs.declared.option.Option.{Option}
use Rattle.std.specs.List.{All}
use Rattle.std.proofs.lemmas.List.Elements.{All-nil, All-cons, All-append, All-same}
use Rattle.slice_num.specs.declared.choice.Choice.{Choice}
use Rattle.slice_num.specs.declared.choice.Choice.TheVariants.{Low, High, Go, Yes, No}
use Rattle.slice_num.specs.declared.cut_answer.CutAnswer.{CutAnswer}
use Rattle.slice_core.specs.Agents.{HasAgents}
use Rattle.slice_core.specs.Division.{IsFair}
use Rattle.slice_core.specs.Measures.{AreMeasures}
use Rattle.slice_core.specs.Run.{Worth, run_core}
use Rattle.slice_core.specs.Tree.{Tree, Core, Ask, Set, Cut, Join, Test, Give, End}
use Rattle.slice_linear.specs.Rows.{HaveNoSolution}
use Rattle.slice_linear.proofs.Motzkin.{refuted_rows_have_no_solution}
use Rattle.slice_paths.specs.Fronts.{Shares, front_at_cut, front_at_test, front_of, with_first}
use Rattle.slice_paths.specs.Goals.{Goal, goals}
use Rattle.slice_paths.specs.RunLaws.{IsRefuted}
use Rattle.slice_paths.specs.Ways.{rows_after}
use Rattle.slice_paths.proofs.FrontLaws.{covers_are_fronts}
use Rattle.slice_paths.proofs.OnTheWay.{refuted_on_the_way}
use Rattle.slice_cert.specs.declared.line.Line.{Line}
use Rattle.slice_cert.specs.declared.line.Line.TheVariants.{Header, Refutation, Cover, Closing}
use Rattle.slice_check.specs.Certificate.{Accepts, TakeInOrder, Takes}

-- ---- what the first passed choices are
abbrev IsFront : List Choice → List Choice → Type 0
IsFront cs front = (rest : List Choice) × (front ++ rest ≡ cs)

-- so what is found is a front
abbrev GivesFronts : (List Choice → Option (List Choice)) → Type 0
GivesFronts f = (cs front : List Choice) → f cs ≡ Some front → IsFront cs front

put_first : (c : Choice) (o : Option (List Choice)) (cs front : List Choice) → with_first c o ≡ Some front → ((later : List Choice) → o ≡ Some later → IsFront cs later) → IsFront (c ∷ cs) front
put_first c None cs front e f = absurd cc
put_first c (Some later) cs front e f =
    let h = f later refl in
    let same : c ∷ later ≡ front = cc in
    (h.0, ap (λ (xs : List Choice). xs ++ h.0) (sym same) ∙ ap (λ (xs : List Choice). c ∷ xs) h.1)

at_cut : (on : List Choice → Option (List Choice)) → GivesFronts on → GivesFronts (front_at_cut on)
at_cut on f [] front e = absurd cc
at_cut on f (Low ∷ cs) front e = absurd cc
at_cut on f (High ∷ cs) front e = absurd cc
at_cut on f (Yes ∷ cs) front e = absurd cc
at_cut on f (No ∷ cs) front e = put_first No (front_at_cut on cs) cs front e (λ later h. at_cut on f cs later h)
at_cut on f (Go ∷ cs) front e = put_first Go (on cs) cs front e (λ later h. f cs later h)

at_test : (yes_arm no_arm : List Choice → Option (List Choice)) → GivesFronts yes_arm → GivesFronts no_arm → GivesFronts (front_at_test yes_arm no_arm)
at_test yes_arm no_arm f g [] front e = absurd cc
at_test yes_arm no_arm f g (Low ∷ cs) front e = absurd cc
at_test yes_arm no_arm f g (High ∷ cs) front e = absurd cc
at_test yes_arm no_arm f g (Go ∷ cs) front e = absurd cc
at_test yes_arm no_arm f g (Yes ∷ cs) front e = put_first Yes (yes_arm cs) cs front e (λ later h. f cs later h)
at_test yes_arm no_arm f g (No ∷ cs) front e = put_first No (no_arm cs) cs front e (λ later h. g cs later h)

fronts : (passed : ℕ) (t : Tree) → GivesFronts (front_of passed t)
fronts zero t cs front e = let same : [] ≡ front = cc in (cs, ap (λ (xs : List Choice). xs ++ cs) (sym same))
fronts (suc more) (Ask a p r next) cs front e = fronts (suc more) next cs front e
fronts (suc more) (Set r sum next) cs front e = fronts (suc more) next cs front e
fronts (suc more) (Cut a p amount l r next) cs front e = at_cut (front_of more next) (fronts more next) cs front e
fronts (suc more) (Join p q r next) cs front e = fronts (suc more) next cs front e
fronts (suc more) (Test left right strict y n) cs front e = at_test (front_of more y) (front_of more n) (fronts more y) (fronts more n) cs front e
fronts (suc more) (Give p a next) cs front e = fronts (suc more) next cs front e
fronts (suc more) End cs front e = absurd cc

-- ---- the goals that a line takes
module _ (core : Core) where
  shared_refuted : (passed : ℕ) (trace front : List Choice) (gs : List Goal) → front_of passed core.tree trace ≡ Some front → HaveNoSolution (rows_after core front) → All (Shares core passed trace) gs → All (IsRefuted core) gs
  shared_refuted passed trace front gs e h all k d lt =
      let g = get_or gs k d in
      let f = fronts passed core.tree g.trace front (all k d lt ∙ e) in
      inr (front, f.0, f.1, h)

  line_refuted : (version n count : ℕ) (l : Line) (gs : List Goal) → Takes core version n gs l count → All (IsRefuted core) (take count gs)
  line_refuted version n count (Header v protocol agents) gs t = absurd t
  line_refuted version n count (Closing total) gs t = absurd t
  line_refuted version n count (Refutation goal m) [] t = absurd t.2
  line_refuted version n count (Refutation goal m) (g ∷ gs) t =
      let one : IsRefuted core g = inl (refuted_rows_have_no_solution g.rows m t.2) in
      All-same (IsRefuted core) (take count (g ∷ gs)) (g ∷ []) (ap (λ (k : ℕ). take k (g ∷ gs)) t.1) (All-cons (IsRefuted core) g [] one (All-nil (IsRefuted core)))
  line_refuted version n count (Cover goal passed m) [] t = absurd t.2
  line_refuted version n count (Cover goal passed m) (g ∷ gs) t =
      let c = t.2 in
      let f = covers_are_fronts core passed g.trace c.0 c.1 in
      shared_refuted passed g.trace f.0 (take count (g ∷ gs)) f.2 (subst HaveNoSolution f.4 (refuted_rows_have_no_solution c.0 m c.2)) c.3.1

  pub lines_refuted : (version n : ℕ) (ls : List Line) (gs : List Goal) → TakeInOrder core version n gs ls → All (IsRefuted core) gs
  lines_refuted version n [] gs t = All-same (IsRefuted core) gs [] t (All-nil (IsRefuted core))
  lines_refuted version n (l ∷ ls) gs t =
      All-same (IsRefuted core) gs (take t.0 gs ++ drop t.0 gs) (sym (take-append-drop t.0 gs))
      (All-append (IsRefuted core) (take t.0 gs) (drop t.0 gs) (line_refuted version n t.0 l gs t.2) (lines_refuted version (n + t.0) ls (drop t.0 gs) t.3))

-- ---- certified cores
pub certified_goals_are_refuted : (core : Core) (file : List ℕ) → Accepts core file → All (IsRefuted core) (goals core)
certified_goals_are_refuted core file a = lines_refuted core a.version 0 a.body (goals core) a.takes

pub certified_cores_are_fair : (core : Core) (file : List ℕ) → HasAgents core.agents core.tree → Accepts core file
    → (w : Worth) (length_ : ℕ) (ys : List CutAnswer) → AreMeasures core.agents length_ w → IsFair core.agents w (run_core w core length_ ys)
certified_cores_are_fair core file agents a = refuted_on_the_way core agents (certified_goals_are_refuted core file a)
