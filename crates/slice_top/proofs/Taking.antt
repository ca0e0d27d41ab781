-- What the lines of `verify` take, and what is ahead behind them.
use Rattle.std.proofs.Common.{◌≡◌, ◌∙◌, ℕ, zero, suc, ◌+◌, ◌<◌, ◌≤◌, arith, refl, sym, ap, subst, List, [], ◌∷◌, ◌++◌, length, take, drop, ℤ, append-nil}
use Rattle.std.specs.List.{Contains}
use Rattle.std.proofs.lemmas.List.{drop-drop, length-drop}
use Rattle.slice_core.specs.Tree.{Core}
use Rattle.slice_linear.specs.Rows.{AreRowsOver, Refutes, width}
use Rattle.slice_paths.specs.Coming.{AreGoals, SaysOf, coming_of, goals_ahead}
use Rattle.slice_paths.specs.Events.{Event, NextGoal, Gives, NoMore, Tell, events_of, goal_limit, next_goal}
use Rattle.slice_paths.specs.Fronts.{ShareFirst, events_after}
use Rattle.slice_paths.specs.Goals.{Goal, goals}
use Rattle.slice_paths.proofs.ComingLaws.{answers_come}
use Rattle.slice_paths.proofs.GoalCovers.{goals_have_covers}
use Rattle.slice_paths.proofs.GoodRows.{coming_goals_fit, goals_behind_fit}
use Rattle.slice_paths.proofs.ShortForms.{short_forms_refute}
use Rattle.slice_paths.proofs.Tells.{events_tell_goals}
use Rattle.slice_cert.specs.declared.line.Line.{Line}
use Rattle.slice_cert.specs.declared.line.Line.TheVariants.{Header, Refutation, Cover, Closing}
use Rattle.slice_cert.specs.ShortForms.{needed, short_line, used}
use Rattle.slice_cert.proofs.Used.{short_is}
use Rattle.slice_check.specs.Certificate.{CoversFirst, RefutesFirst, TakeInOrder, Takes}
use Rattle.slice_check.proofs.Ahead.{IsGiven, given, none_left, plain_tells, share_count, skipped}
use Rattle.slice_check.proofs.Covers.{cover_refuted, has_cover}
use Rattle.slice_verify.specs.Report.{AreTaken, IsTaken, LeadsTo, TakeFirst}

-- ---- what is ahead

-- where n goals were taken: what is ahead tells the others, and the rows of those that come are over the same unknowns and fit
pub record Stands (core : Core) (n : ℕ) (ahead : List Event) : Type 0 where
  pub tells : Tell ahead (drop n (goals core)) n
  pub fit : AreGoals n (goals_ahead ahead n)

pub stands_first : (core : Core) → Stands core 0 (events_of core)
stands_first core = record { tells = events_tell_goals core; fit = coming_goals_fit core }

stands_at : (core : Core) (n m : ℕ) (ahead later : List Event) → n ≡ m → ahead ≡ later → Stands core n ahead → Stands core m later
stands_at core n m ahead later e f s = subst (λ (es : List Event). Stands core m es) f (subst (λ (k : ℕ). Stands core k ahead) e s)

-- goal n, which comes next, is one of the core's, and its rows are over the same unknowns
pub record Comes (core : Core) (n : ℕ) (g : Goal) (later : List Event) : Type 0 where
  pub first : IsGiven n g later (drop n (goals core))
  pub is_goal : Contains (goals core) g
  pub rows : AreRowsOver (width g.rows) g.rows
  pub behind : Stands core (n + 1) later

pub contains_dropped : (n : ℕ) (xs : List Goal) (x : Goal) (rest : List Goal) → drop n xs ≡ x ∷ rest → Contains xs x
contains_dropped zero xs x rest e = subst (λ (ys : List Goal). Contains ys x) (sym e) (0, omega arith, refl)
contains_dropped (suc n) [] x rest e = absurd cc
contains_dropped (suc n) (y ∷ xs) x rest e = let h = contains_dropped n xs x rest e in (suc h.0, (let l = h.1 in omega (arith, l)), h.2)

pub comes : (core : Core) (n : ℕ) (ahead : List Event) (g : Goal) (later : List Event) → Stands core n ahead → next_goal ahead n ≡ Gives g later → Comes core n g later
comes core n ahead g later s e =
    let x = given ahead n g later (drop n (goals core)) e s.tells in
    let says = subst (λ (y : NextGoal). SaysOf y (coming_of ahead n)) e (answers_come ahead n) in
    let fit : AreGoals n (g ∷ goals_ahead later (n + 1)) = subst (AreGoals n) says.0 s.fit in
    record {
      first = x;
      is_goal = contains_dropped n (goals core) g x.rest x.are;
      rows = fit.2;
      behind = record { tells = plain_tells n g later (goals core) x; fit = fit.3 };
    }

-- ---- a line

-- the line of goal n takes so many goals, and these events are ahead then
pub record Leads (core : Core) (n : ℕ) (g : Goal) (later : List Event) (l : Line) : Type 0 where
  pub count : ℕ
  pub some : 1 ≤ count
  pub within : count ≤ length (drop n (goals core))
  pub ahead : List Event
  pub leads : LeadsTo core n g later l (n + count) ahead
  pub takes : Takes core 2 n (drop n (goals core)) l count
  pub stands : Stands core (n + count) ahead

plain_leads : (core : Core) (n : ℕ) (g : Goal) (later : List Event) (m : List ℤ) → Comes core n g later → Refutes g.rows m → Leads core n g later (Refutation n m)
plain_leads core n g later m c r =
    let x = c.first in
    let long : length (drop n (goals core)) ≡ suc (length x.rest) = ap length x.are in
    record {
      count = 1;
      some = omega arith;
      within = omega (arith, long);
      ahead = later;
      leads = (refl, refl);
      takes = (refl, refl, subst (λ (gs : List Goal). RefutesFirst gs m) (sym x.are) r);
      stands = c.behind;
    }

cover_leads : (core : Core) (n : ℕ) (g : Goal) (later : List Event) (m : List ℤ) → Comes core n g later → Refutes g.rows m → used m < length m
    → Leads core n g later (Cover n (needed core.agents m) (take (1 + core.agents + needed core.agents m) m))
cover_leads core n g later m c r few =
    let x = c.first in
    let passed : ℕ = needed core.agents m in
    let front : List ℤ = take (1 + core.agents + passed) m in
    let cover = has_cover goals_have_covers core g m c.is_goal r.same_length few in
    let refutes = cover_refuted short_forms_refute core g m cover c.is_goal r in
    let s = skipped core n passed g later cover.rows x cover.are in
    record {
      count = s.count;
      some = s.one;
      within = s.share.0;
      ahead = events_after core passed g.trace;
      leads = (s.count, s.share, refl, refl);
      takes = (
        refl,
        refl,
        subst (λ (gs : List Goal). CoversFirst core passed gs front s.count) (sym x.are)
            (cover.rows, cover.are, refutes, subst (λ (gs : List Goal). ShareFirst core passed g.trace gs s.count) x.are s.share),
      );
      stands = record { tells = s.tells; fit = goals_behind_fit core passed (n + s.count) g.trace };
    }

-- the short form of a goal's line
pub short_leads : (core : Core) (n : ℕ) (g : Goal) (later : List Event) (m : List ℤ) → Comes core n g later → Refutes g.rows m → Leads core n g later (short_line core.agents n m)
short_leads core n g later m c r = short_is (Leads core n g later) core.agents n m (λ e. plain_leads core n g later m c r) (λ few. cover_leads core n g later m c r few)

-- it leads to one place
pub leads_one : (core : Core) (n : ℕ) (g : Goal) (later : List Event) (l : Line) (j k : ℕ) (es fs : List Event) → LeadsTo core n g later l j es → LeadsTo core n g later l k fs → (j ≡ k) × (es ≡ fs)
leads_one core n g later (Header version protocol agents) j k es fs x y = absurd x
leads_one core n g later (Closing total) j k es fs x y = absurd x
leads_one core n g later (Refutation goal m) j k es fs x y = (x.0 ∙ sym y.0, x.1 ∙ sym y.1)
leads_one core n g later (Cover goal passed m) j k es fs x y =
    let same = share_count core passed g.trace (drop n (goals core)) x.0 y.0 x.1 y.1 in
    (x.2 ∙ ap (λ (c : ℕ). n + c) same ∙ sym y.2, x.3 ∙ sym y.3)

-- a line that was written
pub line_leads : (core : Core) (n : ℕ) (ahead : List Event) (l : Line) (t : IsTaken core n ahead l) → Stands core n ahead → Leads core n t.goal t.later l
line_leads core n ahead l t s =
    subst (Leads core n t.goal t.later) (sym t.line) (short_leads core n t.goal t.later t.multipliers (comes core n ahead t.goal t.later s t.comes) t.refuted.refutes)

pub stands_next : (core : Core) (n : ℕ) (ahead : List Event) (l : Line) (t : IsTaken core n ahead l) (m : ℕ) (later : List Event) → Stands core n ahead → LeadsTo core n t.goal t.later l m later → Stands core m later
stands_next core n ahead l t m later s h =
    let x = line_leads core n ahead l t s in
    let same = leads_one core n t.goal t.later l (n + x.count) m x.ahead later x.leads h in
    stands_at core (n + x.count) m x.ahead later same.0 same.1 x.stands

-- ---- lines

-- what is ahead behind lines that take the goals from n on up to m; with others that take the rest in order they take all
pub record Took (core : Core) (n : ℕ) (ls : List Line) (m : ℕ) (later : List Event) : Type 0 where
  pub stands : Stands core m later
  pub takes : (more : List Line) → TakeInOrder core 2 m (drop m (goals core)) more → TakeInOrder core 2 n (drop n (goals core)) (ls ++ more)
  pub within : n ≤ length (goals core) → m ≤ length (goals core)
  pub few : n ≤ goal_limit → m ≤ goal_limit

pub took : (core : Core) (n : ℕ) (ahead : List Event) (ls : List Line) (m : ℕ) (later : List Event) → Stands core n ahead → AreTaken core n ahead ls m later → Took core n ls m later
took core n ahead [] m later s h = record {
  stands = stands_at core n m ahead later (sym h.0) (sym h.1) s;
  takes = λ more o. subst (λ (k : ℕ). TakeInOrder core 2 k (drop k (goals core)) more) h.0 o;
  within = λ le. omega (arith, le, h.0);
  few = λ le. omega (arith, le, h.0);
}
took core n ahead (l ∷ ls) m later s h =
    let gs : List Goal = goals core in
    let x = line_leads core n ahead l h.0 s in
    let same = leads_one core n h.0.goal h.0.later l (n + x.count) h.1 x.ahead h.2 x.leads h.3 in
    let rest = took core h.1 h.2 ls m later (stands_next core n ahead l h.0 h.1 h.2 s h.3) h.5 in
    let left : drop h.1 gs ≡ drop x.count (drop n gs) = ap (λ (k : ℕ). drop k gs) (sym same.0) ∙ sym (drop-drop x.count n gs) in
    record {
      stands = rest.stands;
      takes = λ more o. (
        x.count,
        x.within,
        x.takes,
        subst (λ (k : ℕ). TakeInOrder core 2 k (drop x.count (drop n gs)) (ls ++ more)) (sym same.0) (subst (λ (hs : List Goal). TakeInOrder core 2 h.1 hs (ls ++ more)) left (rest.takes more o)),
      );
      within = λ le. rest.within (let w = x.within in let long = length-drop n gs in let e = same.0 in omega (arith, le, w, long, e));
      few = λ le. rest.few h.4;
    }

pub took_first : (core : Core) (ls : List Line) (n : ℕ) (ahead : List Event) → TakeFirst core ls n ahead → Took core 0 ls n ahead
took_first core ls n ahead t = took core 0 (events_of core) ls n ahead (stands_first core) t

-- others after them
pub taken_on : (core : Core) (n : ℕ) (ahead : List Event) (ls : List Line) (m : ℕ) (mid : List Event) (ks : List Line) (k : ℕ) (later : List Event)
    → AreTaken core n ahead ls m mid → AreTaken core m mid ks k later → AreTaken core n ahead (ls ++ ks) k later
taken_on core n ahead [] m mid ks k later h o =
    subst (λ (es : List Event). AreTaken core n es ks k later) h.1 (subst (λ (j : ℕ). AreTaken core j mid ks k later) h.0 o)
taken_on core n ahead (l ∷ ls) m mid ks k later h o = (h.0, h.1, h.2, h.3, h.4, taken_on core h.1 h.2 ls m mid ks k later h.5 o)

-- where no goal comes any more, they take all
pub all_taken : (core : Core) (ls : List Line) (n : ℕ) (ahead : List Event) → TakeFirst core ls n ahead → next_goal ahead n ≡ NoMore → TakeInOrder core 2 0 (goals core) ls × (n ≡ length (goals core))
all_taken core ls n ahead t e =
    let x = took_first core ls n ahead t in
    let left = none_left ahead n (drop n (goals core)) e x.stands.tells in
    let none_ : length (drop n (goals core)) ≡ 0 = ap length left in
    let long = length-drop n (goals core) in
    let within = x.within (omega arith) in
    (subst (TakeInOrder core 2 0 (goals core)) (append-nil ls) (x.takes [] left), omega (arith, none_, long, within))
