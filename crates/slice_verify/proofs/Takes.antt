-- What the line of a refuted goal takes.
use Rattle.std.proofs.Common.{◌≡◌, ◌∙◌, ℕ, zero, suc, ◌+◌, ◌<◌, ◌≤◌, arith, refl, sym, ap, subst, List, [], ◌∷◌, length, take, drop, get_or, ℤ, inl}
use Rattle.std.specs.List.{All, Contains}
use Rattle.std.proofs.lemmas.List.Elements.{All-nil, All-cons, All-take, All-drop, All-contains_itself}
use Rattle.slice_num.specs.declared.choice.Choice.{Choice}
use Rattle.slice_core.specs.Cores.{core_of}
use Rattle.slice_core.specs.Tree.{Core}
use Rattle.slice_linear.specs.Rows.{Refutes}
use Rattle.slice_linear.proofs.Motzkin.{refuted_rows_have_no_solution}
use Rattle.slice_paths.specs.Coming.{AreGoals, GoalsBehindFit, goals_ahead}
use Rattle.slice_paths.specs.Events.{Event, goal_limit}
use Rattle.slice_paths.specs.FrontLaws.{CoversAreFronts, GoalsHaveCovers, ShortFormsRefute}
use Rattle.slice_paths.specs.Fronts.{ShareFirst, Shares, events_after, front_of}
use Rattle.slice_paths.specs.Goals.{Goal, goals}
use Rattle.slice_paths.specs.RunLaws.{IsRefuted}
use Rattle.slice_paths.specs.Streams.{Stream, IsGivenLast}
use Rattle.slice_cert.specs.declared.line.Line.{Line}
use Rattle.slice_cert.specs.declared.line.Line.TheVariants.{Refutation, Cover}
use Rattle.slice_cert.specs.ShortForms.{needed, used}
use Rattle.slice_cert.proofs.Used.{short_is}
use Rattle.slice_check.specs.Certificate.{RefutesFirst, CoversFirst, Takes}
use Rattle.slice_check.specs.Upgrading.{HasPassed, ShareThem}
use Rattle.slice_check.proofs.Covers.{has_cover, cover_refuted, has_front, shared_refuted}
use Rattle.slice_verify.specs.Report.{LeadsTo}
use Rattle.slice_verify.specs.Working.{AreTooMany, GoesOn, IsPassed, goal_line}

-- ---- the goal given last
contains_dropped : (n : ℕ) (xs : List Goal) (x : Goal) (rest : List Goal) → drop n xs ≡ x ∷ rest → Contains xs x
contains_dropped zero xs x rest e = subst (λ (ys : List Goal). Contains ys x) (sym e) (0, omega arith, refl)
contains_dropped (suc n) [] x rest e = absurd cc
contains_dropped (suc n) (y ∷ xs) x rest e = let h = contains_dropped n xs x rest e in (suc h.0, (let l = h.1 in omega (arith, l)), h.2)

pub last_is_goal : (core : Core) (s : Stream) (g : Goal) → core_of s.core ≡ core → IsGivenLast s g → Contains (goals core) g
last_is_goal core s g same l = subst (λ (c : Core). Contains (goals c) g) same (contains_dropped g.number (goals (core_of s.core)) g (drop s.given (goals (core_of s.core))) l.stands)

last_stands : (core : Core) (s : Stream) (g : Goal) → core_of s.core ≡ core → IsGivenLast s g → drop g.number (goals core) ≡ g ∷ drop s.given (goals core)
last_stands core s g same l = subst (λ (c : Core). drop g.number (goals c) ≡ g ∷ drop s.given (goals c)) same l.stands

-- it has the passed choices that its line speaks of
pub has_passed : CoversAreFronts → GoalsHaveCovers → (core : Core) (s : Stream) (g : Goal) (m : List ℤ) → core_of s.core ≡ core → IsGivenLast s g → Refutes g.rows m → HasPassed s (goal_line core g m)
has_passed fronts have core s g m same l r =
    short_is (HasPassed s) core.agents g.number m (λ e. tt)
    (λ few e.
    let c = has_cover have core g m (last_is_goal core s g same l) r.same_length few in
    has_front fronts core g m c (ap (λ (k : Core). front_of (needed core.agents m) k.tree g.trace) (sym same) ∙ ap (λ (cs : List Choice). front_of (needed core.agents m) (core_of s.core).tree cs) (sym l.last) ∙ e))

-- ---- the goals that the line takes

-- the line takes the goal given last before s, and others up to t: so many, all refuted
pub record LineTakes (core : Core) (g : Goal) (s : Stream) (l : Line) (t : Stream) : Type 0 where
  pub count : ℕ
  pub some : 0 < count
  pub given : t.given ≡ g.number + count
  pub within : count ≤ length (drop g.number (goals core))
  pub leads : LeadsTo core g.number g s.ahead l t.given t.ahead
  pub takes : Takes core 2 g.number (drop g.number (goals core)) l count
  pub refuted : All (IsRefuted core) (take count (drop g.number (goals core)))
  pub fit : AreGoals t.given (goals_ahead t.ahead t.given)

plain_takes : (core : Core) (g : Goal) (s : Stream) (m : List ℤ) → core_of s.core ≡ core → IsGivenLast s g → GoesOn s → Refutes g.rows m → LineTakes core g s (Refutation g.number m) s
plain_takes core g s m same l goes r =
    let stands = last_stands core s g same l in
    let some : length (drop g.number (goals core)) ≡ suc (length (drop s.given (goals core))) = ap length stands in
    record {
      count = 1;
      some = omega arith;
      given = l.number;
      within = omega (arith, some);
      leads = (l.number, refl);
      takes = (refl, refl, subst (λ (gs : List Goal). RefutesFirst gs m) (sym stands) r);
      refuted = subst (λ (gs : List Goal). All (IsRefuted core) (take 1 gs)) (sym stands) (All-cons (IsRefuted core) g [] (inl (refuted_rows_have_no_solution g.rows m r)) (All-nil _));
      fit = goes.fit;
    }

-- those that share the passed choices, and the goal itself
share_more : (core : Core) (passed : ℕ) (trace : List Choice) (g : Goal) (gs : List Goal) (n : ℕ) → Shares core passed trace g → ShareFirst core passed trace gs n → ShareFirst core passed trace (g ∷ gs) (n + 1)
share_more core passed trace g gs n s h =
    let one : suc n ≡ n + 1 = omega arith in
    let l = h.0 in
    subst (ShareFirst core passed trace (g ∷ gs)) one (omega (arith, l), All-cons (Shares core passed trace) g (take n gs) s h.1, h.2)

pub share_with : (core : Core) (s : Stream) (g : Goal) (passed n : ℕ) → core_of s.core ≡ core → IsGivenLast s g → ShareThem s passed n → ShareFirst core passed g.trace (drop g.number (goals core)) (n + 1)
share_with core s g passed n same l h =
    let here : ShareFirst core passed s.last (drop s.given (goals core)) n = subst (λ (c : Core). ShareFirst c passed s.last (drop s.given (goals c)) n) same h in
    subst (λ (gs : List Goal). ShareFirst core passed g.trace gs (n + 1)) (sym (last_stands core s g same l))
    (share_more core passed g.trace g (drop s.given (goals core)) n refl (subst (λ (cs : List Choice). ShareFirst core passed cs (drop s.given (goals core)) n) l.last here))

-- the goals of a part of the list
of_list : (core : Core) (n k : ℕ) → All (Contains (goals core)) (take k (drop n (goals core)))
of_list core n k = All-take (Contains (goals core)) k (drop n (goals core)) (All-drop (Contains (goals core)) n (goals core) (All-contains_itself (goals core)))

cover_takes : CoversAreFronts → GoalsHaveCovers → ShortFormsRefute → GoalsBehindFit → (core : Core) (g : Goal) (s t : Stream) (m : List ℤ) → core_of s.core ≡ core → IsGivenLast s g → Refutes g.rows m → used m < length m
    → IsPassed s (Cover g.number (needed core.agents m) (take (1 + core.agents + needed core.agents m) m)) t
    → LineTakes core g s (Cover g.number (needed core.agents m) (take (1 + core.agents + needed core.agents m) m)) t
cover_takes fronts have short fit core g s t m same l r few p =
    let k : ℕ = needed core.agents m in
    let gs : List Goal = drop g.number (goals core) in
    let stands = last_stands core s g same l in
    let is = last_is_goal core s g same l in
    let c = has_cover have core g m is r.same_length few in
    let refutes = cover_refuted short core g m c is r in
    let share = share_with core s g k p.0 same l p.1 in
    let ahead : t.ahead ≡ events_after core k g.trace = p.3 ∙ ap (λ (x : Core). events_after x k s.last) same ∙ ap (events_after core k) l.last in
    let given : t.given ≡ g.number + (p.0 + 1) = (let a = p.2 in let b = l.number in omega (arith, a, b)) in
    record {
      count = p.0 + 1;
      some = omega arith;
      given = given;
      within = share.0;
      leads = (p.0 + 1, share, given, ahead);
      takes = (
        refl,
        refl,
        subst (λ (xs : List Goal). CoversFirst core k xs (take (1 + core.agents + k) m) (p.0 + 1)) (sym stands)
            (c.rows, c.are, refutes, subst (λ (xs : List Goal). ShareFirst core k g.trace xs (p.0 + 1)) stands share),
      );
      refuted = λ i d lt. shared_refuted fronts have core k g.trace c.rows (take (1 + core.agents + k) m) c.are refutes (get_or (take (p.0 + 1) gs) i d) (of_list core g.number (p.0 + 1) i d lt) (share.1 i d lt);
      fit = subst (λ (es : List Event). AreGoals t.given (goals_ahead es t.given)) (sym ahead) (fit core k t.given g.trace);
    }

pub line_takes : CoversAreFronts → GoalsHaveCovers → ShortFormsRefute → GoalsBehindFit → (core : Core) (g : Goal) (s t : Stream) (m : List ℤ) → core_of s.core ≡ core → IsGivenLast s g → GoesOn s → Refutes g.rows m
    → IsPassed s (goal_line core g m) t → LineTakes core g s (goal_line core g m) t
line_takes fronts have short fit core g s t m same l goes r p =
    short_is (λ x. IsPassed s x t → LineTakes core g s x t) core.agents g.number m
    (λ e p. subst (LineTakes core g s (Refutation g.number m)) (sym p) (plain_takes core g s m same l goes r))
    (λ few p. cover_takes fronts have short fit core g s t m same l r few p) p

-- ---- too many
abbrev pub LeadsPast : Core → Goal → List Event → Line → Type 0
LeadsPast core g later l = (n : ℕ) × (es : List Event) × LeadsTo core g.number g later l n es × (goal_limit < n)

pub too_many : (core : Core) (g : Goal) (s : Stream) (m : List ℤ) → core_of s.core ≡ core → IsGivenLast s g → AreTooMany s (goal_line core g m) → LeadsPast core g s.ahead (goal_line core g m)
too_many core g s m same l h =
    short_is (λ x. AreTooMany s x → LeadsPast core g s.ahead x) core.agents g.number m (λ e p. absurd p)
    (λ few p. (
      g.number + (p.0 + 1),
      events_after core (needed core.agents m) g.trace,
      (p.0 + 1, share_with core s g (needed core.agents m) p.0 same l p.1, refl, refl),
      (let a = p.2 in let b = l.number in omega (arith, a, b)),
    )) h
