-- What stands after the goals that were taken.
use Rattle.std.proofs.Common.{◌≡◌, ◌∙◌, ℕ, ◌-◌, ◌<◌, ◌≤◌, arith, refl, sym, ap, subst, List, [], ◌∷◌, ◌++◌, length, drop, ℤ, Option, append_assoc}
use Rattle.std.specs.Prelude.{take}
use Rattle.std.specs.List.{All}
use Rattle.std.proofs.lemmas.List.{drop-drop, take-append-drop}
use Rattle.std.proofs.lemmas.List.Elements.{All-append}
use Rattle.slice_io.specs.Told.{appended}
use Rattle.slice_core.specs.Cores.{core_of}
use Rattle.slice_core.specs.Tree.{Core}
use Rattle.slice_core.specs.WellFormed.{IsWellFormed}
use Rattle.slice_paths.specs.Coming.{AreGoals, ComingGoalsFit, GoalsBehindFit, goals_ahead}
use Rattle.slice_paths.specs.Events.{Event, Gives, events_of, goal_limit, next_goal}
use Rattle.slice_paths.specs.FrontLaws.{CoversAreFronts, GoalsHaveCovers, ShortFormsRefute}
use Rattle.slice_paths.specs.Goals.{Goal, goals}
use Rattle.slice_paths.specs.RunLaws.{IsRefuted}
use Rattle.slice_paths.specs.Streams.{Stream, TellsRest}
use Rattle.slice_cert.specs.declared.line.Line.{Line}
use Rattle.slice_cert.specs.declared.line.Line.TheVariants.{Header}
use Rattle.slice_cert.specs.CertLines.{line_text}
use Rattle.slice_check.specs.Certificate.{TakeInOrder}
use Rattle.slice_check.specs.Upgrades.{AreOut}
use Rattle.slice_check.specs.Upgrading.{AllBrief, AllReadBack, ReadsBack}
use Rattle.slice_check.proofs.Certified.{brief_more, read_more}
use Rattle.slice_check.proofs.LinesOut.{one_out, one_more_out, texts_more}
use Rattle.slice_check.proofs.RowCount.{few_rows}
use Rattle.slice_check.proofs.Short.{short_line_short}
use Rattle.slice_verify.specs.Report.{IsTaken, LeadsTo, AreTaken, TakeFirst, IsReached, texts_after}
use Rattle.slice_verify.specs.Working.{GoesOn, IsNextOf, IsSettled, goal_line}
use Rattle.slice_verify.proofs.Takes.{LineTakes, last_is_goal, line_takes}

-- what is said of the first n goals: with lines that take the others in order these lines take all; and where the others are
-- refuted, all are
pub record AreRefuted (core : Core) (ls : List Line) (n : ℕ) : Type 0 where
  pub takes : (more : List Line) → TakeInOrder core 2 n (drop n (goals core)) more → TakeInOrder core 2 0 (goals core) (ls ++ more)
  pub all : All (IsRefuted core) (drop n (goals core)) → All (IsRefuted core) (goals core)

-- the lines so far take the first n goals, these events are ahead, and the lines are out
pub record Standing (core : Core) (old now : Option (List ℕ)) (n : ℕ) (ahead : List Event) : Type 0 where
  pub lines : List Line
  pub taken : TakeFirst core lines n ahead
  pub refuted : AreRefuted core lines n
  pub short : AllBrief lines
  pub read : AllReadBack (Header 2 core.name core.agents ∷ lines)
  pub out : AreOut old now (texts_after core lines)

-- ---- the start
pub starts : (core : Core) (old now : Option (List ℕ)) (n : ℕ) (ahead : List Event) → n ≡ 0 → ahead ≡ events_of core
    → ReadsBack (Header 2 core.name core.agents) → now ≡ appended old (line_text (Header 2 core.name core.agents)) → Standing core old now n ahead
starts core old now n ahead none_ all back out =
    subst (λ (k : ℕ). Standing core old now k ahead) (sym none_) (subst (Standing core old now 0) (sym all) (record {
      lines = [];
      taken = (refl, refl);
      refuted = record { takes = λ more t. t; all = λ h. h };
      short = tt;
      read = (back, tt);
      out = one_out old now (line_text (Header 2 core.name core.agents)) out;
    }))

pub goes_first : (core : Core) (s : Stream) → ComingGoalsFit → s.given ≡ 0 → s.ahead ≡ events_of core → TellsRest s → GoesOn s
goes_first core s fit none_ all rest = record {
  rest = rest;
  few = omega (arith, none_);
  fit = subst (λ (k : ℕ). AreGoals k (goals_ahead s.ahead k)) (sym none_) (subst (λ (es : List Event). AreGoals 0 (goals_ahead es 0)) (sym all) (fit core));
}

-- ---- a goal came
abbrev pub reached : (core : Core) (old now : Option (List ℕ)) (s t : Stream) (g : Goal) (h : Standing core old now s.given s.ahead) → IsNextOf s g t → IsReached core h.lines g
reached core old now s t g h n = record {
  ahead = s.ahead;
  later = t.ahead;
  taken = subst (λ (k : ℕ). TakeFirst core h.lines k s.ahead) (sym n.number) h.taken;
  comes = subst (λ (k : ℕ). next_goal s.ahead k ≡ Gives g t.ahead) (sym n.number) n.comes;
}

-- ---- a line more

-- the line takes goals from n on up to m
abbrev LeadsOn : Core → ℕ → List Event → Line → ℕ → List Event → Type 0
LeadsOn core n ahead l m later = (t : IsTaken core n ahead l) × LeadsTo core n t.goal t.later l m later × (m ≤ goal_limit)

taken_more : (core : Core) (n : ℕ) (ahead : List Event) (ls : List Line) (l : Line) (m : ℕ) (mid : List Event) (k : ℕ) (later : List Event)
    → AreTaken core n ahead ls m mid → LeadsOn core m mid l k later → AreTaken core n ahead (ls ++ l ∷ []) k later
taken_more core n ahead [] l m mid k later h o =
    let p = subst (λ (es : List Event). LeadsOn core n es l k later) h.1 (subst (λ (j : ℕ). LeadsOn core j mid l k later) h.0 o) in
    (p.0, k, later, p.1, p.2, (refl, refl))
taken_more core n ahead (x ∷ ls) l m mid k later h o = (h.0, h.1, h.2, h.3, h.4, taken_more core h.1 h.2 ls l m mid k later h.5 o)

refuted_more : (core : Core) (ls : List Line) (g : Goal) (s : Stream) (l : Line) (t : Stream) → AreRefuted core ls g.number → LineTakes core g s l t → AreRefuted core (ls ++ l ∷ []) t.given
refuted_more core ls g s l t h x =
    let gs : List Goal = goals core in
    let left : drop t.given gs ≡ drop x.count (drop g.number gs) = ap (λ (k : ℕ). drop k gs) x.given ∙ sym (drop-drop x.count g.number gs) in
    record {
      takes = λ more o. subst (TakeInOrder core 2 0 gs) (sym (append_assoc ls (l ∷ []) more))
          (h.takes (l ∷ more) (x.count, x.within, x.takes, subst (λ (k : ℕ). TakeInOrder core 2 k (drop x.count (drop g.number gs)) more) x.given (subst (λ (hs : List Goal). TakeInOrder core 2 t.given hs more) left o)));
      all = λ a. h.all (subst (All (IsRefuted core)) (take-append-drop x.count (drop g.number gs))
          (All-append (IsRefuted core) (take x.count (drop g.number gs)) (drop x.count (drop g.number gs)) x.refuted (subst (All (IsRefuted core)) left a)));
    }

-- the laws that a further line needs
pub record Laws : Type 0 where
  pub fronts : CoversAreFronts
  pub have : GoalsHaveCovers
  pub short : ShortFormsRefute
  pub fit : GoalsBehindFit

-- the goal is refuted, its line is out, and the other goals that it takes were passed over
pub goes_on : Laws → (core : Core) → IsWellFormed core → (old now out : Option (List ℕ)) (s t u : Stream) (g : Goal) → core_of s.core ≡ core → Standing core old now s.given s.ahead → IsNextOf s g t → IsSettled core g t u now out
    → Standing core old out u.given u.ahead
goes_on laws core formed old now out s t u g same h n d =
    let m : List ℤ = d.multipliers in
    let l : Line = goal_line core g m in
    let here : core_of t.core ≡ core = ap core_of n.same_core ∙ same in
    let r = reached core old now s t g h n in
    let x = line_takes laws.fronts laws.have laws.short laws.fit core g t u m here n.last n.goes d.out.0.refutes d.passed in
    let first : AreRefuted core h.lines g.number = subst (AreRefuted core h.lines) (sym n.number) h.refuted in
    record {
      lines = h.lines ++ l ∷ [];
      taken = taken_more core 0 (events_of core) h.lines l g.number s.ahead u.given u.ahead r.taken
          (record { goal = g; later = t.ahead; comes = r.comes; multipliers = m; refuted = d.out.0; line = refl }, x.leads, d.few);
      refuted = refuted_more core h.lines g t l u first x;
      short = brief_more h.lines l h.short (let rows = few_rows core g formed (last_is_goal core t g here n.last) in let long = d.out.0.refutes.same_length in let text = short_line_short core.agents g.number m in omega (arith, rows, long, text));
      read = read_more (Header 2 core.name core.agents ∷ h.lines) l h.read d.reads;
      out = subst (AreOut old out) (sym (texts_more core h.lines l)) (one_more_out old now out (texts_after core h.lines) (line_text l) h.out d.out.1);
    }

pub went_on : Laws → (core : Core) → (s t u : Stream) (g : Goal) (now out : Option (List ℕ)) → core_of s.core ≡ core → IsNextOf s g t → IsSettled core g t u now out → GoesOn u
went_on laws core s t u g now out same n d =
    let here : core_of t.core ≡ core = ap core_of n.same_core ∙ same in
    let x = line_takes laws.fronts laws.have laws.short laws.fit core g t u d.multipliers here n.last n.goes d.out.0.refutes d.passed in
    record { rest = d.rest; few = d.few; fit = x.fit }

-- fewer goals are left
pub fewer : (core : Core) (s t u : Stream) (g : Goal) (now out : Option (List ℕ)) → Laws → core_of s.core ≡ core → IsNextOf s g t → IsSettled core g t u now out → length (goals core) - u.given < length (goals core) - s.given
fewer core s t u g now out laws same n d =
    let here : core_of t.core ≡ core = ap core_of n.same_core ∙ same in
    let there : core_of u.core ≡ core = ap core_of d.same_core ∙ here in
    let x = line_takes laws.fronts laws.have laws.short laws.fit core g t u d.multipliers here n.last n.goes d.out.0.refutes d.passed in
    let some = x.some in
    let given = x.given in
    let number = n.number in
    let within : u.given ≤ length (goals core) = subst (λ (c : Core). u.given ≤ length (goals c)) there d.rest.within in
    omega (arith, some, given, number, within)
