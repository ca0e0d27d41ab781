-- What stands before a line: the goals that are taken, and what is ahead. A file that stands to its end is a certificate.
use Rattle.std.proofs.Common.{◌≡◌, ◌∙◌, ◌+◌, ◌≤◌, ◌++◌, ℕ, suc, List, [], ◌∷◌, length, drop, ap, sym, subst, refl, arith, length-append, length-drop}
use Rattle.std.proofs.lemmas.List.{drop-drop}
use Rattle.slice_io.specs.Lines.{lines_of, rest_from}
use Rattle.slice_io.proofs.Gathering.{lines_step}
use Rattle.slice_core.specs.Tree.{Core}
use Rattle.slice_paths.specs.Events.{Event, NoMore, Tell, events_of, goal_limit, next_goal}
use Rattle.slice_paths.specs.Goals.{goals}
use Rattle.slice_paths.proofs.Tells.{events_tell_goals}
use Rattle.slice_cert.specs.declared.line.Line.{Line}
use Rattle.slice_cert.specs.declared.line.Line.TheVariants.{Header, Closing}
use Rattle.slice_check.specs.Certificate.{Accepts, AllPass, AreLines, AreShort, IsVersion, Passes, SaysLine, SaysLines, Stands, TakeInOrder}
use Rattle.slice_check.proofs.Ahead.{none_left, taken}

-- ---- one more line
pub says_more : (file : List ℕ) (ls : List Line) (i : ℕ) (l : Line) → SaysLines file i ls → SaysLine file (i + length ls) l → SaysLines file i (ls ++ l ∷ [])
says_more file [] i l s h = let e : i + 0 ≡ i = omega arith in (subst (λ (k : ℕ). SaysLine file k l) e h, tt)
says_more file (x ∷ ls) i l s h = let e : i + suc (length ls) ≡ (i + 1) + length ls = omega arith in (s.0, says_more file ls (i + 1) l s.1 (subst (λ (k : ℕ). SaysLine file k l) e h))

pub pass_more : (core : Core) (version n k m : ℕ) (ahead mid later : List Event) (ls : List Line) (l : Line) → AllPass core version n ahead ls k mid → Passes core version k mid l m later → AllPass core version n ahead (ls ++ l ∷ []) m later
pass_more core version n k m ahead mid later [] l p q =
    (m, later, subst (λ (es : List Event). Passes core version n es l m later) p.1 (subst (λ (j : ℕ). Passes core version j mid l m later) p.0 q), (refl, refl))
pass_more core version n k m ahead mid later (x ∷ ls) l p q = (p.0, p.1, p.2, pass_more core version p.0 k m p.1 mid later ls l p.3 q)

pub stands_first : (core : Core) (file : List ℕ) (version : ℕ) → IsVersion version → SaysLine file 0 (Header version core.name core.agents) → Stands core file version 0 (events_of core) 1
stands_first core file version known s = record { header = s; known = known; body = []; lines = tt; next = refl; passes = (refl, refl) }

unfoldable pub stands_next : (core : Core) (file : List ℕ) (version n m i : ℕ) (ahead later : List Event) (l : Line) → Stands core file version n ahead i → SaysLine file i l → Passes core version n ahead l m later → Stands core file version m later (i + 1)
stands_next core file version n m i ahead later l st s p =
    let place : i ≡ 1 + length st.body = omega (arith, st.next) in
    record {
      header = st.header;
      known = st.known;
      body = st.body ++ l ∷ [];
      lines = says_more file st.body 1 l st.lines (subst (λ (k : ℕ). SaysLine file k l) place s);
      next = omega (arith, st.next, length-append st.body (l ∷ []));
      passes = pass_more core version 0 n m (events_of core) ahead later st.body l st.passes p;
    }

-- ---- the goals that are taken
record Passed (core : Core) (n m : ℕ) (later : List Event) (many : ℕ) : Type 0 where
  tells : Tell later (drop m (goals core)) m
  within : m ≤ length (goals core)
  few : m ≤ goal_limit
  each : n + many ≤ m

all_passed : (core : Core) (version n m : ℕ) (ahead later : List Event) (ls : List Line) → AllPass core version n ahead ls m later → Tell ahead (drop n (goals core)) n → n ≤ length (goals core) → n ≤ goal_limit → Passed core n m later (length ls)
all_passed core version n m ahead later [] p t w f = record {
  tells = subst (λ (es : List Event). Tell es (drop m (goals core)) m) (sym p.1) (subst (λ (k : ℕ). Tell ahead (drop k (goals core)) k) (sym p.0) t);
  within = omega (arith, p.0, w);
  few = omega (arith, p.0, f);
  each = omega (arith, p.0);
}
all_passed core version n m ahead later (l ∷ ls) p t w f =
    let x = taken core version n ahead l p.0 p.1 p.2 t in
    let r = all_passed core version p.0 m p.1 later ls p.3 x.tells (omega (arith, w, x.there, x.behind, length-drop n (goals core))) x.few in
    record { tells = r.tells; within = r.within; few = r.few; each = omega (arith, r.each, x.one, x.behind) }

stands_passed : (core : Core) (file : List ℕ) (version n : ℕ) (ahead : List Event) (i : ℕ) (st : Stands core file version n ahead i) → Passed core 0 n ahead (length st.body)
stands_passed core file version n ahead i st = all_passed core version 0 n (events_of core) ahead st.body st.passes (events_tell_goals core) (omega arith) (omega arith)

pub stands_tells : (core : Core) (file : List ℕ) (version n : ℕ) (ahead : List Event) (i : ℕ) → Stands core file version n ahead i → Tell ahead (drop n (goals core)) n
stands_tells core file version n ahead i st = (stands_passed core file version n ahead i st).tells

-- each line takes a goal, and no more goals are taken than may be given
pub stands_few : (core : Core) (file : List ℕ) (version n : ℕ) (ahead : List Event) (i : ℕ) → Stands core file version n ahead i → (i ≤ n + 1) × (n ≤ goal_limit)
stands_few core file version n ahead i st = let p = stands_passed core file version n ahead i st in (omega (arith, st.next, p.each), p.few)

-- ---- the end of the goals
pub all_taken : (core : Core) (file : List ℕ) (version n : ℕ) (ahead : List Event) (i : ℕ) → Stands core file version n ahead i → next_goal ahead n ≡ NoMore → n ≡ length (goals core)
all_taken core file version n ahead i st e =
    let p = stands_passed core file version n ahead i st in
    let none : length (drop n (goals core)) ≡ 0 = ap length (none_left ahead n (drop n (goals core)) e p.tells) in
    omega (arith, none, length-drop n (goals core), p.within)

in_order : (core : Core) (version n m : ℕ) (ahead later : List Event) (ls : List Line) → AllPass core version n ahead ls m later → Tell ahead (drop n (goals core)) n → drop m (goals core) ≡ [] → TakeInOrder core version n (drop n (goals core)) ls
in_order core version n m ahead later [] p t e = ap (λ (k : ℕ). drop k (goals core)) (sym p.0) ∙ e
in_order core version n m ahead later (l ∷ ls) p t e =
    let gs = goals core in
    let x = taken core version n ahead l p.0 p.1 p.2 t in
    let rest = in_order core version p.0 m p.1 later ls p.3 x.tells e in
    let here = subst (λ (k : ℕ). TakeInOrder core version k (drop k gs) ls) x.behind rest in
    (x.count, x.there, x.takes, rw (drop-drop x.count n gs) here)

-- the lines to the end of the file are all its lines
all_lines : (ls : List Line) (i : ℕ) (file : List ℕ) → SaysLines file i ls → rest_from (i + length ls) file ≡ [] → AreLines (lines_of (rest_from i file)) ls × AreShort (lines_of (rest_from i file))
all_lines [] i file s e =
    let k : i + 0 ≡ i = omega arith in
    let none : rest_from i file ≡ [] = subst (λ (n : ℕ). rest_from n file ≡ []) k e in
    subst (λ (xs : List ℕ). AreLines (lines_of xs) [] × AreShort (lines_of xs)) (sym none) (tt, tt)
all_lines (l ∷ ls) i file s e =
    let k : i + suc (length ls) ≡ (i + 1) + length ls = omega arith in
    let j : i + 1 ≡ suc i = omega arith in
    let rest = all_lines ls (i + 1) file s.1 (subst (λ (n : ℕ). rest_from n file ≡ []) k e) in
    let more = subst (λ (n : ℕ). AreLines (lines_of (rest_from n file)) ls × AreShort (lines_of (rest_from n file))) j rest in
    let line = s.0.1 in
    let step : lines_of (rest_from i file) ≡ s.0.0 ∷ lines_of (rest_from (suc i) file) = lines_step (rest_from i file) line.0 ∙ ap (λ (t : List ℕ). t ∷ lines_of (rest_from (suc i) file)) (sym line.1) in
    subst (λ (ts : List (List ℕ)). AreLines ts (l ∷ ls) × AreShort ts) (sym step) ((s.0.2, more.0), (line.2, more.1))

-- after the closing line nothing comes
pub accepted : (core : Core) (file : List ℕ) (version n : ℕ) (ahead : List Event) (i : ℕ) → Stands core file version n ahead i → next_goal ahead n ≡ NoMore → SaysLine file i (Closing n) → rest_from (i + 1) file ≡ [] → Accepts core file
accepted core file version n ahead i st e closing none =
    let total = length (goals core) in
    let same = all_taken core file version n ahead i st e in
    let left = none_left ahead n (drop n (goals core)) e (stands_tells core file version n ahead i st) in
    let place : i ≡ 1 + length st.body = omega (arith, st.next) in
    let head = Header version core.name core.agents in
    let last : SaysLine file i (Closing total) = subst (λ (k : ℕ). SaysLine file i (Closing k)) same closing in
    let whole : SaysLines file 1 (st.body ++ Closing total ∷ []) = says_more file st.body 1 (Closing total) st.lines (subst (λ (k : ℕ). SaysLine file k (Closing total)) place last) in
    let end : i + 1 ≡ 0 + length (head ∷ (st.body ++ Closing total ∷ [])) = omega (arith, st.next, length-append st.body (Closing total ∷ [])) in
    let lines = all_lines (head ∷ (st.body ++ Closing total ∷ [])) 0 file (st.header, whole) (subst (λ (k : ℕ). rest_from k file ≡ []) end none) in
    record {
      short = lines.1;
      version = version;
      known = st.known;
      body = st.body;
      takes = in_order core version 0 n (events_of core) ahead st.body st.passes (events_tell_goals core) left;
      lines = lines.0;
    }
