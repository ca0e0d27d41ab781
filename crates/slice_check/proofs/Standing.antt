-- How the checker goes on from line to line, and ends.
use Rattle.std.proofs.Common.{◌≡◌, ◌∙◌, ◌≤◌, ◌+◌, ◌++◌, ℕ, suc, ℤ, List, [], ◌∷◌, Bool, true, false, length, drop, ap, sym, subst, refl, arith, append_assoc, length-append, length-drop}
use Rattle.std.specs.Prelude.{nat_lt, if◌then◌else◌}
use Rattle.std.proofs.lemmas.List.{append-nil, drop-drop, nil_from_length}
use Rattle.slice_io.specs.Lines.{lines_of, rest_from}
use Rattle.slice_io.proofs.Gathering.{lines_step}
use Rattle.slice_core.specs.Cores.{core_of}
use Rattle.slice_core.specs.Tree.{Core}
use Rattle.slice_paths.specs.Events.{Event, Meets, Breaks, Gives, NoMore, Overflows, OverLimit, Tell, events_of, goal_at, goal_limit, next_goal}
use Rattle.slice_paths.specs.Fronts.{ShareFirst}
use Rattle.slice_paths.specs.Goals.{Goal, goals}
use Rattle.slice_paths.specs.Streams.{Stream, TellsRest, IsGivenLast}
use Rattle.slice_cert.specs.declared.line.Line.{Line}
use Rattle.slice_cert.specs.declared.line.Line.TheVariants.{Header, Refutation, Cover, Closing}
use Rattle.slice_check.specs.declared.verdict.Verdict.TheVariants.{Yes}
use Rattle.slice_check.specs.Verdicts.{IsVerdict}
use Rattle.slice_check.specs.Certificate.{Accepts, AllPass, AreLines, AreShort, CoversFirst, IsVersion, Passes, RefutesFirst, SaysLine, SaysLines, TakeInOrder, Takes}
use Rattle.slice_check.specs.Steps.{IsCovered, Reached}

-- after the header
pub reached_first : (core : Core) (file : List ℕ) (version : ℕ) → IsVersion version → SaysLine file 0 (Header version core.name core.agents) → Reached core file version 0 (events_of core) 1
reached_first core file version v s = record {
  stands = record { header = s; known = v; body = []; lines = tt; next = refl; passes = (refl, refl) };
  takes = λ ls t. t;
}

says_more : (file : List ℕ) (ls : List Line) (i : ℕ) (l : Line) → SaysLines file i ls → SaysLine file (i + length ls) l → SaysLines file i (ls ++ l ∷ [])
says_more file [] i l s h = let e : i + 0 ≡ i = omega arith in (subst (λ (k : ℕ). SaysLine file k l) e h, tt)
says_more file (x ∷ ls) i l s h = let e : i + suc (length ls) ≡ (i + 1) + length ls = omega arith in (s.0, says_more file ls (i + 1) l s.1 (subst (λ (k : ℕ). SaysLine file k l) e h))

-- ---- one more line
passes_more : (core : Core) (version : ℕ) (ls : List Line) (n : ℕ) (ahead : List Event) (m : ℕ) (later : List Event) (l : Line) (k : ℕ) (last : List Event)
    → AllPass core version n ahead ls m later → Passes core version m later l k last → AllPass core version n ahead (ls ++ l ∷ []) k last
passes_more core version [] n ahead m later l k last a p =
    (k, last, subst (λ (x : ℕ). Passes core version x ahead l k last) a.0 (subst (λ (es : List Event). Passes core version m es l k last) a.1 p), (refl, refl))
passes_more core version (x ∷ ls) n ahead m later l k last a p = (a.0, a.1, a.2, passes_more core version ls a.0 a.1 m later l k last a.3 p)

reached_next : (core : Core) (file : List ℕ) (version n i m : ℕ) (ahead later : List Event) (l : Line) (count : ℕ) → Reached core file version n ahead i → SaysLine file i l → Passes core version n ahead l m later
    → count ≤ length (drop n (goals core)) → Takes core version n (drop n (goals core)) l count → m ≡ n + count → Reached core file version m later (i + 1)
reached_next core file version n i m ahead later l count r says p within takes e =
    let s = r.stands in
    let place : i ≡ 1 + length s.body = omega (arith, s.next) in
    let left : drop m (goals core) ≡ drop count (drop n (goals core)) = ap (λ (x : ℕ). drop x (goals core)) e ∙ sym (drop-drop count n (goals core)) in
    record {
      stands = record {
        header = s.header;
        known = s.known;
        body = s.body ++ l ∷ [];
        lines = says_more file s.body 1 l s.lines (subst (λ (k : ℕ). SaysLine file k l) place says);
        next = omega (arith, s.next, length-append s.body (l ∷ []));
        passes = passes_more core version s.body 0 (events_of core) n ahead l m later s.passes p;
      };
      takes = λ ls t. subst (TakeInOrder core version 0 (goals core)) (sym (append_assoc s.body (l ∷ []) ls))
          (r.takes (l ∷ ls) (count, within, takes, subst (λ (k : ℕ). TakeInOrder core version k (drop count (drop n (goals core))) ls) e (subst (λ (gs : List Goal). TakeInOrder core version m gs ls) left t)));
    }

-- after a line that takes the goal given last
pub plain_next : (file : List ℕ) (version i : ℕ) (g : Goal) (ahead : List Event) (m : List ℤ) (s : Stream) → Reached (core_of s.core) file version g.number ahead i → next_goal ahead g.number ≡ Gives g s.ahead → IsGivenLast s g
    → SaysLine file i (Refutation g.number m) → IsVerdict g.rows m Yes → Reached (core_of s.core) file version s.given s.ahead (i + 1)
plain_next file version i g ahead m s r comes last says v =
    let gs = drop s.given (goals (core_of s.core)) in
    let some : length (drop g.number (goals (core_of s.core))) ≡ suc (length gs) = ap length last.stands in
    reached_next (core_of s.core) file version g.number i s.given ahead s.ahead (Refutation g.number m) 1 r says (g, comes, refl, v, last.number) (omega (arith, some))
    (refl, refl, subst (λ (xs : List Goal). RefutesFirst xs m) (sym last.stands) v.0) last.number

-- and that line stands behind the others
pub plain_body : (file : List ℕ) (version i : ℕ) (g : Goal) (ahead : List Event) (m : List ℤ) (s : Stream) (r : Reached (core_of s.core) file version g.number ahead i) (comes : next_goal ahead g.number ≡ Gives g s.ahead) (last : IsGivenLast s g)
    (says : SaysLine file i (Refutation g.number m)) (v : IsVerdict g.rows m Yes) → (plain_next file version i g ahead m s r comes last says v).stands.body ≡ r.stands.body ++ Refutation g.number m ∷ []
unfolding plain_next reached_next
plain_body file version i g ahead m s r comes last says v = refl

-- after a line that takes all that follow its passed choices
pub cover_next : (file : List ℕ) (version i passed : ℕ) (g : Goal) (ahead : List Event) (m : List ℤ) (s t : Stream) → Reached (core_of s.core) file version g.number ahead i → next_goal ahead g.number ≡ Gives g s.ahead → IsGivenLast s g
    → SaysLine file i (Cover g.number passed m) → version ≡ 2 → IsCovered s g passed m t → t.given ≤ 1000000 → Reached (core_of s.core) file version t.given t.ahead (i + 1)
cover_next file version i passed g ahead m s t r comes last says two c few =
    let core = core_of s.core in
    let o = c.over in
    let first = subst (λ (xs : List Goal). ShareFirst core passed g.trace xs o.count) last.stands o.share in
    reached_next core file version g.number i t.given ahead t.ahead (Cover g.number passed m) o.count r says
    (g, s.ahead, c.rows, o.count, comes, two, refl, c.are_rows, c.refuted, o.share, o.given, few, o.ahead) o.share.0
    (two, refl, subst (λ (xs : List Goal). CoversFirst core passed xs m o.count) (sym last.stands) (c.rows, c.are_rows, c.refuted.0, first)) o.given

-- ---- the end
none_left : (ahead : List Event) (gs : List Goal) (n : ℕ) → Tell ahead gs n → next_goal ahead n ≡ NoMore → gs ≡ []
none_left [] gs n t e = t
none_left (Breaks ∷ es) gs n t e = absurd cc
none_left (Meets f ∷ es) gs n t e = by (nat_lt n goal_limit) f.fit e
  where
    by : (x y : Bool) → (if x then (if y then Gives (goal_at n f) es else Overflows) else OverLimit) ≡ NoMore → gs ≡ []
    by true true h = absurd cc
    by true false h = absurd cc
    by false y h = absurd cc

-- where nothing comes, all goals were given
pub all_given : (s : Stream) → TellsRest s → next_goal s.ahead s.given ≡ NoMore → s.given ≡ length (goals (core_of s.core))
all_given s r e =
    let gs = goals (core_of s.core) in
    let none : length (drop s.given gs) ≡ 0 = ap length (none_left s.ahead (drop s.given gs) s.given r.tells e) in
    omega (arith, none, length-drop s.given gs, r.within)

-- the lines to the end of the file are all its lines
all_lines : (ls : List Line) (i : ℕ) (file : List ℕ) → SaysLines file i ls → rest_from (i + length ls) file ≡ [] → AreLines (lines_of (rest_from i file)) ls × AreShort (lines_of (rest_from i file))
all_lines [] i file s e =
    let k : i + 0 ≡ i = omega arith in
    let none : rest_from i file ≡ [] = subst (λ (n : ℕ). rest_from n file ≡ []) k e in
    subst (λ (xs : List ℕ). AreLines (lines_of xs) [] × AreShort (lines_of xs)) (sym none) (tt, tt)
all_lines (l ∷ ls) i file s e =
    let k : i + suc (length ls) ≡ (i + 1) + length ls = omega arith in
    let j : i + 1 ≡ suc i = omega arith in
    let rest = all_lines ls (i + 1) file s.1 (subst (λ (n : ℕ). rest_from n file ≡ []) k e) in
    let more = subst (λ (n : ℕ). AreLines (lines_of (rest_from n file)) ls × AreShort (lines_of (rest_from n file))) j rest in
    let line = s.0.1 in
    let step : lines_of (rest_from i file) ≡ s.0.0 ∷ lines_of (rest_from (suc i) file) = lines_step (rest_from i file) line.0 ∙ ap (λ (t : List ℕ). t ∷ lines_of (rest_from (suc i) file)) (sym line.1) in
    subst (λ (ts : List (List ℕ)). AreLines ts (l ∷ ls) × AreShort ts) (sym step) ((s.0.2, more.0), (line.2, more.1))

-- after the closing line nothing comes
pub accepted : (core : Core) (file : List ℕ) (version n i : ℕ) (ahead : List Event) → Reached core file version n ahead i → n ≡ length (goals core) → SaysLine file i (Closing n) → rest_from (i + 1) file ≡ [] → Accepts core file
accepted core file version n i ahead r all closing none =
    let s = r.stands in
    let total = length (goals core) in
    let place : i ≡ 1 + length s.body = omega (arith, s.next) in
    let last = subst (λ (k : ℕ). SaysLine file i (Closing k)) all closing in
    let whole : SaysLines file 1 (s.body ++ Closing total ∷ []) = says_more file s.body 1 (Closing total) s.lines (subst (λ (k : ℕ). SaysLine file k (Closing total)) place last) in
    let end : i + 1 ≡ 0 + length (Header version core.name core.agents ∷ (s.body ++ Closing total ∷ [])) = omega (arith, s.next, length-append s.body (Closing total ∷ [])) in
    let lines = all_lines (Header version core.name core.agents ∷ (s.body ++ Closing total ∷ [])) 0 file (s.header, whole) (subst (λ (k : ℕ). rest_from k file ≡ []) end none) in
    let past : length (drop n (goals core)) ≡ 0 = omega (arith, all, length-drop n (goals core)) in
    record {
      short = lines.1;
      version = version;
      known = s.known;
      body = s.body;
      takes = subst (TakeInOrder core version 0 (goals core)) (append-nil s.body) (r.takes [] (nil_from_length (drop n (goals core)) past));
      lines = lines.0;
    }
