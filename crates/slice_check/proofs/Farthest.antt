-- How far the lines of a file are right in version 1, and what is written of them then: what is written before a line goes on
-- to an end.
use Rattle.std.proofs.Common.{◌≡◌, ◌∙◌, ◌⊎◌, inl, inr, ◌+◌, ◌<◌, ℕ, zero, suc, ℤ, List, [], ◌∷◌, ◌++◌, length, drop, take, map, sym, ap, subst, refl, arith, Some, append_assoc, append-nil}
use Rattle.std.specs.declared.option.Option.{Option}
use Rattle.std.specs.List.{Contains}
use Rattle.std.proofs.lemmas.Bool.{cases_lt, cases_eq}
use Rattle.std.proofs.lemmas.List.{nil_from_length}
use Rattle.slice_num.specs.Pieces.{joined}
use Rattle.slice_core.specs.Tree.{Core}
use Rattle.slice_linear.specs.Rows.{LinearRow, Refutes}
use Rattle.slice_paths.specs.Events.{Event, NextGoal, Gives, NoMore, Overflows, OverLimit, events_of, goal_limit, next_goal}
use Rattle.slice_paths.specs.Fronts.{ShareFirst}
use Rattle.slice_paths.specs.Goals.{Goal, goals}
use Rattle.slice_paths.proofs.GoalCovers.{goals_have_covers}
use Rattle.slice_paths.proofs.ShortForms.{short_forms_refute}
use Rattle.slice_cert.specs.declared.line.Line.{Line}
use Rattle.slice_cert.specs.declared.line.Line.TheVariants.{Header, Refutation, Cover, Closing}
use Rattle.slice_cert.specs.CertLines.{line_text}
use Rattle.slice_cert.specs.ShortForms.{needed, short_line, used}
use Rattle.slice_cert.proofs.Used.{short_is}
use Rattle.slice_check.specs.declared.answer.CertAnswer.TheVariants.{Accepted, Rejected}
use Rattle.slice_check.specs.declared.answer.CertFault.{CertFault}
use Rattle.slice_check.specs.declared.answer.CertFault.TheVariants.{ReadFault, TooLong, GoalLimit, FormOverflow, Overflow, Memory}
use Rattle.slice_check.specs.declared.answer.HeaderField.TheVariants.{Version}
use Rattle.slice_check.specs.declared.answer.Rejection.TheVariants as rejection
use Rattle.slice_check.specs.declared.upgrade.UpgradeFault.TheVariants.{Cert}
use Rattle.slice_check.specs.declared.verdict.Verdict.{Verdict}
use Rattle.slice_check.specs.declared.verdict.Verdict.TheVariants as verdict
use Rattle.slice_check.specs.Certificate.{AllPass, AtEnd, CoversFirst, Passes, RefutesFirst, SaysLine, Stands, Takes}
use Rattle.slice_check.specs.Completeness.{IsDecided}
use Rattle.slice_check.specs.Faults.{Fails, IsUnread}
use Rattle.slice_check.specs.Upgrades.{AreShortened, AreWritten, BeginsVersion2, IsLast, IsOfVersion2, IsShortened, IsUpgradeEnd, LinesAreOut, Shortens, UpgradeFails, UpgradesGoOn, texts_of}
use Rattle.slice_check.specs.Upgrading.{RefutesNot}
use Rattle.slice_check.specs.Verdicts.{HaveOneWidth, IsVerdict}
use Rattle.slice_check.proofs.Accepting.{stands_few, stands_first, stands_next, stands_tells}
use Rattle.slice_check.proofs.Ahead.{IsGiven, given, skipped}
use Rattle.slice_check.proofs.Covers.{cover_refuted, has_cover}
use Rattle.slice_check.proofs.Giving.{contains_dropped}
use Rattle.slice_check.proofs.LinesOut.{map-append}
use Rattle.slice_check.proofs.NoFurther.{last_at_goal, last_at_none}
use Rattle.slice_check.proofs.OneUpgrade.{end_is_last, first_version, not_second, written_at}
use Rattle.slice_check.proofs.OneVerdict.{one_verdict}
use Rattle.slice_check.proofs.Shortened.{shortened_more, shortened_over}
use Rattle.slice_check.proofs.SomeStop.{Comes, ended, long, past, bad, line, comes, files_decided, goal_width}
use Rattle.slice_check.proofs.SomeVerdict.{some_verdict}
use Rattle.slice_check.proofs.Telling.{Told, tell_both, tell_same}
use Rattle.slice_check.proofs.Upgraded.{one_says}
use Rattle.slice_check.proofs.Walks.{bad_says, ended_line, long_line, past_line}

-- ---- verdicts and lines

-- multipliers refute rows, or they don't
tell_yes : (rows : List LinearRow) (m : List ℤ) (v : Verdict) → IsVerdict rows m v → Told (IsVerdict rows m verdict.Yes)
tell_yes rows m verdict.Yes h = inl h
tell_yes rows m verdict.Length h = inr (λ y. let e = one_verdict rows m verdict.Length verdict.Yes h y in absurd cc)
tell_yes rows m (verdict.Sign row) h = inr (λ y. let e = one_verdict rows m (verdict.Sign row) verdict.Yes h y in absurd cc)
tell_yes rows m (verdict.Sum unknown) h = inr (λ y. let e = one_verdict rows m (verdict.Sum unknown) verdict.Yes h y in absurd cc)
tell_yes rows m verdict.NoStrict h = inr (λ y. let e = one_verdict rows m verdict.NoStrict verdict.Yes h y in absurd cc)
tell_yes rows m (verdict.Overflow unknown) h = inr (λ y. let e = one_verdict rows m (verdict.Overflow unknown) verdict.Yes h y in absurd cc)

-- a line stands at a place, or none does
tell_says : (file : List ℕ) (i : ℕ) → i < 2000000 → ((l : Line) × SaysLine file i l) ⊎ ((l : Line) → SaysLine file i l → ⊥)
tell_says file i few = by (comes file i few)
  where
    by : Comes file i → ((l : Line) × SaysLine file i l) ⊎ ((l : Line) → SaysLine file i l → ⊥)
    by (ended none) = inr (λ l h. ended_line file i h.0 none h.1)
    by (long r) = inr (λ l h. long_line file i h.0 (i + 1, r) h.1)
    by (past r) = inr (λ l h. past_line file i h.0 r h.1)
    by (bad text is none) = inr (λ l h. bad_says file i l (text, is, none) h)
    by (line l s) = inl (l, s)

-- line i refutes a goal
abbrev RefutesAt : List ℕ → ℕ → Goal → Type 0
RefutesAt file i g = (m : List ℤ) × SaysLine file i (Refutation g.number m) × IsVerdict g.rows m verdict.Yes

tell_refutes : (file : List ℕ) (i : ℕ) (g : Goal) → i < 2000000 → HaveOneWidth g.rows → RefutesAt file i g ⊎ RefutesNot file i g
tell_refutes file i g few width = elim (tell_says file i few) [
  | inr none ↦ inr (λ m h y. none (Refutation g.number m) h)
  | inl s ↦ by s.0 s.1
]
  where
    by : (l : Line) → SaysLine file i l → RefutesAt file i g ⊎ RefutesNot file i g
    by (Header version protocol agents) s = inr (λ m h y. let e = one_says file i (Header version protocol agents) (Refutation g.number m) s h in absurd cc)
    by (Cover goal passed k) s = inr (λ m h y. let e = one_says file i (Cover goal passed k) (Refutation g.number m) s h in absurd cc)
    by (Closing total) s = inr (λ m h y. let e = one_says file i (Closing total) (Refutation g.number m) s h in absurd cc)
    by (Refutation goal k) s = elim (cases_eq goal g.number) [
      | inr apart ↦ inr (λ m h y. let e = one_says file i (Refutation goal k) (Refutation g.number m) s h in let same : goal ≡ g.number = cc in apart same)
      | inl same ↦ elim (tell_yes g.rows k (some_verdict g.rows k width).0 (some_verdict g.rows k width).1) [
        | inl yes_ ↦ inl (k, subst (λ (n : ℕ). SaysLine file i (Refutation n k)) same s, yes_)
        | inr not ↦ inr (λ m h y. let e = one_says file i (Refutation goal k) (Refutation g.number m) s h in let are : m ≡ k = cc in not (subst (λ (x : List ℤ). IsVerdict g.rows x verdict.Yes) are y))
      ]
    ]

-- ---- a line more

next_body : (core : Core) (file : List ℕ) (version n m i : ℕ) (ahead later : List Event) (l : Line) (st : Stands core file version n ahead i) (s : SaysLine file i l) (p : Passes core version n ahead l m later)
    → (stands_next core file version n m i ahead later l st s p).body ≡ st.body ++ l ∷ []
unfolding stands_next
next_body core file version n m i ahead later l st s p = refl

module _ (core : Core) where
  -- in version 1 a line takes one goal
  one_goal : (n m : ℕ) (ahead later : List Event) (l : Line) → Passes core 1 n ahead l m later → m ≡ n + 1
  one_goal n m ahead later (Header version protocol agents) p = absurd p
  one_goal n m ahead later (Refutation goal k) p = p.4
  one_goal n m ahead later (Cover goal passed k) p = let two = p.5 in absurd (omega (arith, two))
  one_goal n m ahead later (Closing total) p = absurd p

  pub each_one : (ls : List Line) (n m : ℕ) (ahead later : List Event) → AllPass core 1 n ahead ls m later → m ≡ n + length ls
  each_one [] n m ahead later p = let same = p.0 in omega (arith, same)
  each_one (l ∷ ls) n m ahead later p =
      let first = one_goal n p.0 ahead p.1 l p.2 in
      let rest = each_one ls p.0 m p.1 later p.3 in
      omega (arith, first, rest)

  -- the short form of a goal's line takes some goals
  short_takes : (n : ℕ) (g : Goal) (later : List Event) (m : List ℤ) → IsGiven n g later (drop n (goals core)) → Refutes g.rows m → (count : ℕ) × Takes core 2 n (drop n (goals core)) (short_line core.agents n m) count
  short_takes n g later m x r = short_is (λ (l : Line). (count : ℕ) × Takes core 2 n (drop n (goals core)) l count) core.agents n m (λ e. plain) (λ few. covered few)
    where
      is_goal : Contains (goals core) g
      is_goal = contains_dropped n (goals core) g x.rest x.are

      plain : (count : ℕ) × Takes core 2 n (drop n (goals core)) (Refutation n m) count
      plain = (1, (refl, refl, subst (λ (gs : List Goal). RefutesFirst gs m) (sym x.are) r))

      covered : used m < length m → (count : ℕ) × Takes core 2 n (drop n (goals core)) (Cover n (needed core.agents m) (take (1 + core.agents + needed core.agents m) m)) count
      covered few =
          let passed : ℕ = needed core.agents m in
          let front : List ℤ = take (1 + core.agents + passed) m in
          let c = has_cover goals_have_covers core g m is_goal r.same_length few in
          let refutes = cover_refuted short_forms_refute core g m c is_goal r in
          let s = skipped core n passed g later c.rows x c.are in
          (s.count, (refl, refl, subst (λ (gs : List Goal). CoversFirst core passed gs front s.count) (sym x.are) (c.rows, c.are, refutes, subst (λ (gs : List Goal). ShareFirst core passed g.trace gs s.count) x.are s.share)))

  module _ (file : List ℕ) where
    -- ---- from line to line

    -- the line is right too, and this is written more
    record Further (i : ℕ) (w : List Line) (s : Shortens core file i w) : Type 0 where
      more : List Line
      next : Shortens core file (i + 1) (w ++ more)
      goal : next.goal ≡ s.goal + 1

    further : (i : ℕ) (w : List Line) (s : Shortens core file i w) (g : Goal) (later : List Event) → next_goal s.ahead s.goal ≡ Gives g later → RefutesAt file i g → Further i w s
    further i w s g later e r = elim (cases_lt s.goal s.taken) [
      | inl lt ↦ record {
        more = [];
        next = record {
          goal = s.goal + 1;
          ahead = later;
          stands = there;
          taken = s.taken;
          short = with_body (w ++ []) s.taken (subst (λ (v : List Line). AreShortened core 0 0 (s.stands.body ++ l ∷ []) v s.taken) (sym (append-nil w)) (shortened_over core 0 0 s.stands.body w s.taken l s.short (omega (arith, lt, count))));
        };
        goal = refl;
      }
      | inr le ↦ record {
        more = short_line core.agents s.goal m ∷ [];
        next = record {
          goal = s.goal + 1;
          ahead = later;
          stands = there;
          taken = 0 + length s.stands.body + takes.0;
          short = with_body (w ++ short_line core.agents s.goal m ∷ []) (0 + length s.stands.body + takes.0)
              (shortened_more core 0 0 s.stands.body w s.taken l (short_line core.agents s.goal m) takes.0 s.short (omega (arith, le, count)) is_short);
        };
        goal = refl;
      }
    ]
      where
        m : List ℤ
        m = r.0

        l : Line
        l = Refutation s.goal m

        first : IsGiven s.goal g later (drop s.goal (goals core))
        first = given s.ahead s.goal g later (drop s.goal (goals core)) e (stands_tells core file 1 s.goal s.ahead i s.stands)

        says : SaysLine file i l
        says = subst (λ (n : ℕ). SaysLine file i (Refutation n m)) first.number r.1

        there : Stands core file 1 (s.goal + 1) later (i + 1)
        there = stands_next core file 1 s.goal (s.goal + 1) i s.ahead later l s.stands says (g, e, refl, r.2, refl)

        with_body : (v : List Line) (last : ℕ) → AreShortened core 0 0 (s.stands.body ++ l ∷ []) v last → AreShortened core 0 0 there.body v last
        with_body v last h =
            subst (λ (ls : List Line). AreShortened core 0 0 ls v last) (sym (next_body core file 1 s.goal (s.goal + 1) i s.ahead later l s.stands says (g, e, refl, r.2, refl))) h

        count : s.goal ≡ 0 + length s.stands.body
        count = each_one s.stands.body 0 s.goal (events_of core) s.ahead s.stands.passes

        takes : (count : ℕ) × Takes core 2 s.goal (drop s.goal (goals core)) (short_line core.agents s.goal m) count
        takes = short_takes s.goal g later m first r.2.0

        is_short : IsShortened core (0 + length s.stands.body) l (short_line core.agents s.goal m) takes.0
        is_short = subst (λ (n : ℕ). IsShortened core n l (short_line core.agents s.goal m) takes.0) count (m, refl, refl, takes.1)

    next_or_last : (i : ℕ) (w : List Line) (s : Shortens core file i w) → Further i w s ⊎ IsLast core file i
    next_or_last i w s = by (next_goal s.ahead s.goal) refl
      where
        none_next : (x : NextGoal) → next_goal s.ahead s.goal ≡ x → ((g : Goal) (later : List Event) → x ≡ Gives g later → ⊥) → IsLast core file i
        none_next x e none = last_at_none core file s.goal i s.ahead s.stands (λ g later h. none g later (sym e ∙ h))

        goal_next : (g : Goal) (later : List Event) → next_goal s.ahead s.goal ≡ Gives g later → Further i w s ⊎ IsLast core file i
        goal_next g later e =
            let x = given s.ahead s.goal g later (drop s.goal (goals core)) e (stands_tells core file 1 s.goal s.ahead i s.stands) in
            let few = stands_few core file 1 s.goal s.ahead i s.stands in
            let first = few.0 in
            let within = few.1 in
            elim (tell_refutes file i g (omega (arith, first, within)) (goal_width core s.goal g x.rest x.are)) [
              | inl r ↦ inl (further i w s g later e r)
              | inr not ↦ inr (last_at_goal core file s.goal i s.ahead later g s.stands e x.number not)
            ]

        by : (x : NextGoal) → next_goal s.ahead s.goal ≡ x → Further i w s ⊎ IsLast core file i
        by (Gives g later) e = goal_next g later e
        by NoMore e = inr (none_next NoMore e (λ g later h. absurd cc))
        by Overflows e = inr (none_next Overflows e (λ g later h. absurd cc))
        by OverLimit e = inr (none_next OverLimit e (λ g later h. absurd cc))

    -- ---- to the last line that is right

    -- this is written more up to there
    record Farthest (w : List Line) : Type 0 where
      at : ℕ
      more : List Line
      written : Shortens core file at (w ++ more)
      last : IsLast core file at

    farthest : (fuel i : ℕ) (w : List Line) (s : Shortens core file i w) → goal_limit < s.goal + fuel → Farthest w
    farthest zero i w s enough = let few = (stands_few core file 1 s.goal s.ahead i s.stands).1 in absurd (omega (arith, enough, few))
    farthest (suc fuel) i w s enough = elim (next_or_last i w s) [
      | inr last ↦ record { at = i; more = []; written = subst (Shortens core file i) (sym (append-nil w)) s; last = last }
      | inl x ↦
          let goal = x.goal in
          let f = farthest fuel (i + 1) (w ++ x.more) x.next (omega (arith, enough, goal)) in
          record { at = f.at; more = x.more ++ f.more; written = subst (Shortens core file f.at) (append_assoc w x.more f.more) f.written; last = f.last }
    ]

    -- ---- the end

    fails : (old new : Option (List ℕ)) (f : CertFault) → (IsUnread f → ⊥) → (BeginsVersion2 file → ⊥) → Fails core file f → LinesAreOut core file old new → UpgradeFails core file old new (Cert f)
    fails old new ReadFault u none h lines = absurd (u tt)
    fails old new TooLong u none h lines = (none, h, lines)
    fails old new GoalLimit u none h lines = (none, h, lines)
    fails old new (FormOverflow goal) u none h lines = (none, h, lines)
    fails old new (Overflow goal unknown) u none h lines = (none, h, lines)
    fails old new Memory u none h lines = absurd (u tt)

    -- where these are all texts before the closing line
    module _ (i : ℕ) (ls : List Line) (s : Shortens core file i ls) (last : IsLast core file i) where
      lines_out : LinesAreOut core file (Some []) (Some (joined (texts_of core ls ++ [])))
      lines_out = (i, texts_of core ls, written_at core file i ls s, last, ap (λ (ts : List (List ℕ)). Some (joined ts)) (append-nil (texts_of core ls)))

      none : BeginsVersion2 file → ⊥
      none = not_second core file s.stands.header

      -- the last line that is right stands where all goals are taken
      at_end : (n j : ℕ) → AtEnd core file n j → AtEnd core file n i
      at_end n j e =
          let stands = subst (λ (version : ℕ). Stands core file version n e.ahead j) (first_version core file e.version n j e.ahead s.stands.header e.stands) e.stands in
          let le = last n j e.ahead stands in
          let ge = end_is_last core file n j s.stands.header e s.goal i s.ahead s.stands in
          let same : j ≡ i = omega (arith, le, ge) in
          subst (AtEnd core file n) same e

      end_by : IsDecided core file → (rest : List (List ℕ)) × IsUpgradeEnd core file (joined (texts_of core ls ++ rest))
      end_by (inl (Accepted total, h)) =
          let closing : List (List ℕ) = line_text (Closing total) ∷ [] in
          let closed = h.2.1 in
          (closing, inl (Accepted total, (none, h, texts_of core ls ++ closing, (i, ls, at_end total closed.at closed.ends, s, refl), refl)))
      end_by (inl (Rejected r, h)) = ([], inl (Rejected r, (inr (none, h), lines_out)))
      end_by (inr (f, (u, h))) = ([], inr (f, u, fails (Some []) (Some (joined (texts_of core ls ++ []))) f u none h lines_out))

    -- more lines of them, and the end
    goes_on : (w : List Line) → Farthest w → (rest : List (List ℕ)) × IsUpgradeEnd core file (joined (texts_of core w ++ rest))
    goes_on w x =
        let d = end_by x.at (w ++ x.more) x.written x.last (files_decided core file) in
        let same : texts_of core (w ++ x.more) ++ d.0 ≡ texts_of core w ++ (map line_text x.more ++ d.0) =
        ap (λ (ts : List (List ℕ)). (line_text (Header 2 core.name core.agents) ∷ ts) ++ d.0) (map-append w x.more) ∙ append_assoc (texts_of core w) (map line_text x.more) d.0 in
        (map line_text x.more ++ d.0, subst (λ (ts : List (List ℕ)). IsUpgradeEnd core file (joined ts)) same d.1)

    -- ---- from the first line on

    abbrev First : Type 0
    First = SaysLine file 0 (Header 1 core.name core.agents)

    tell_head : (l : Line) → SaysLine file 0 l → First ⊎ ((First → ⊥) × Told (BeginsVersion2 file))
    tell_head (Refutation goal m) s =
        inr ((λ h. let e = one_says file 0 (Refutation goal m) (Header 1 core.name core.agents) s h in absurd cc), inr (λ b. subst IsOfVersion2 (one_says file 0 b.0 (Refutation goal m) b.1 s) b.2))
    tell_head (Cover goal passed m) s =
        inr ((λ h. let e = one_says file 0 (Cover goal passed m) (Header 1 core.name core.agents) s h in absurd cc), inr (λ b. subst IsOfVersion2 (one_says file 0 b.0 (Cover goal passed m) b.1 s) b.2))
    tell_head (Closing total) s =
        inr ((λ h. let e = one_says file 0 (Closing total) (Header 1 core.name core.agents) s h in absurd cc), inr (λ b. subst IsOfVersion2 (one_says file 0 b.0 (Closing total) b.1 s) b.2))
    tell_head (Header version protocol agents) s = elim (cases_eq version 2) [
      | inl two ↦ inr ((λ h. not_second core file h (Header version protocol agents, s, two)), inl (Header version protocol agents, s, two))
      | inr other ↦ elim (tell_both (cases_eq version 1) (tell_both (tell_same protocol core.name) (cases_eq agents core.agents))) [
        | inl e ↦ inl (subst (λ (l : Line). SaysLine file 0 l) (λ j. Header (e.0 j) (e.1.0 j) (e.1.1 j)) s)
        | inr not ↦ inr (
          (λ h.
              let e = one_says file 0 (Header version protocol agents) (Header 1 core.name core.agents) s h in
              let v : version ≡ 1 = cc in
              let p : protocol ≡ core.name = cc in
              let a : agents ≡ core.agents = cc in
              not (v, (p, a))),
          inr (λ b. other (subst IsOfVersion2 (one_says file 0 b.0 (Header version protocol agents) b.1 s) b.2)),
        )
      ]
    ]

    tell_first : First ⊎ ((First → ⊥) × Told (BeginsVersion2 file))
    tell_first = elim (tell_says file 0 (omega arith)) [
      | inl s ↦ tell_head s.0 s.1
      | inr none ↦ inr ((λ h. none (Header 1 core.name core.agents) h), inr (λ b. none b.0 b.1))
    ]

    first_shortens : First → Shortens core file 1 []
    first_shortens h =
        let st = stands_first core file 1 (inl refl) h in
        let next = st.next in
        let empty : st.body ≡ [] = nil_from_length st.body (omega (arith, next)) in
        record { goal = 0; ahead = events_of core; stands = st; taken = 0; short = subst (λ (ls : List Line). AreShortened core 0 0 ls [] 0) (sym empty) (refl, refl) }

    -- the first line isn't right
    module _ (no_first : First → ⊥) where
      nothing_out : LinesAreOut core file (Some []) (Some (joined []))
      nothing_out = (0, [], refl, (λ n j ahead t. absurd (no_first t.header)), refl)

      other_end : (BeginsVersion2 file → ⊥) → IsDecided core file → IsUpgradeEnd core file (joined [])
      other_end none (inl (Accepted total, h)) =
          let st = h.2.1.ends.stands in
          elim st.known [
            | inl one ↦ absurd (no_first (subst (λ (version : ℕ). SaysLine file 0 (Header version core.name core.agents)) one st.header))
            | inr two ↦ absurd (none (Header h.2.1.ends.version core.name core.agents, st.header, two))
          ]
      other_end none (inl (Rejected r, h)) = inl (Rejected r, (inr (none, h), nothing_out))
      other_end none (inr (f, (u, h))) = inr (f, u, fails (Some []) (Some (joined [])) f u none h nothing_out)

      no_first_end : Told (BeginsVersion2 file) → IsUpgradeEnd core file (joined [])
      no_first_end (inl second) = inl (Rejected (rejection.HeaderDiffers Version), (inl (second, refl), nothing_out))
      no_first_end (inr none) = other_end none (files_decided core file)

    from_start : (rest : List (List ℕ)) × IsUpgradeEnd core file (joined ([] ++ rest))
    from_start = elim tell_first [
      | inr x ↦ ([], no_first_end x.0 x.1)
      | inl h ↦
          let s = first_shortens h in
          let start = s.goal in
          let d = goes_on [] (farthest 1000001 1 [] s (omega arith)) in
          (texts_of core [] ++ d.0, d.1)
    ]

    written_on : (i : ℕ) (texts : List (List ℕ)) → AreWritten core file i texts → (rest : List (List ℕ)) × IsUpgradeEnd core file (joined (texts ++ rest))
    written_on zero texts e = let d = from_start in (d.0, subst (λ (ts : List (List ℕ)). IsUpgradeEnd core file (joined (ts ++ d.0))) (sym e) d.1)
    written_on (suc i) texts w =
        let d = goes_on w.0 (farthest 1000001 (suc i) w.0 w.1 (omega arith)) in
        (d.0, subst (λ (ts : List (List ℕ)). IsUpgradeEnd core file (joined (ts ++ d.0))) (sym w.2) d.1)

pub upgrades_go_on : UpgradesGoOn
upgrades_go_on core file i texts w = written_on core file i texts w
