-- A report of `verify` that ends well is a certificate.
use Rattle.std.proofs.Common.{◌≡◌, ◌∙◌, ℕ, ◌+◌, ◌<◌, ◌≤◌, arith, sym, ap, subst, ℤ, pos, inl, inr, List, [], ◌∷◌, ◌++◌, length, append-nil}
use Rattle.std.specs.List.{All}
use Rattle.std.proofs.lemmas.List.{get_or_default}
use Rattle.std.proofs.lemmas.List.Elements.{All-take}
use Rattle.std.proofs.lemmas.List.FromFn.{length-map-range_with_len}
use Rattle.slice_num.specs.Pieces.{joined}
use Rattle.slice_num.specs.Rational.{Fits}
use Rattle.slice_core.specs.Tree.{Core}
use Rattle.slice_core.specs.WellFormed.{IsWellFormed}
use Rattle.slice_linear.specs.Sums.{at}
use Rattle.slice_linear.specs.Rows.{LinearRow, AreRowsOver, width}
use Rattle.slice_paths.specs.Events.{Event, NextGoal, events_of, next_goal}
use Rattle.slice_simplex.specs.Ends.{end_multiplier, end_multipliers, end_solution}
use Rattle.slice_simplex.specs.ProverAnswer.{IsProverAnswer, RefutedBy}
use Rattle.slice_simplex.proofs.EndFacts.{end_decides}
use Rattle.slice_simplex.proofs.Made.{end_of}
use Rattle.slice_simplex.proofs.Once.{same_multipliers, not_both_ends}
use Rattle.slice_cert.specs.declared.line.Line.{Line}
use Rattle.slice_cert.specs.declared.line.Line.TheVariants.{Header, Closing}
use Rattle.slice_cert.specs.CertLines.{MayStand, line_text}
use Rattle.slice_cert.specs.ShortForms.{needed, short_line, used}
use Rattle.slice_cert.proofs.Used.{short_is}
use Rattle.slice_check.specs.Certificate.{Accepts, line_limit}
use Rattle.slice_check.specs.Upgrading.{AllBrief, AllReadBack, ReadsBack}
use Rattle.slice_check.proofs.Certified.{certified}
use Rattle.slice_check.proofs.RowCount.{few_rows}
use Rattle.slice_check.proofs.Short.{short_line_short}
use Rattle.slice_verify.specs.Report.{AreTaken, IsTaken, pivot_limit, texts_after}
use Rattle.slice_top.specs.Answers.{Answer, Closes, IsVerifyAnswer}
use Rattle.slice_top.specs.declared.status.Status.TheVariants as status
use Rattle.slice_top.proofs.Decided.{texts_on}
use Rattle.slice_top.proofs.Good.{closed_well}
use Rattle.slice_top.proofs.Taking.{Stands, all_taken, comes, stands_first, stands_next, took_first}
use Rattle.slice_laws.proofs.FittingTables.{multipliers_fit}
use Rattle.slice_laws.proofs.LinesBack.{line_back}

-- ---- multipliers

-- those that the prover gives fit
given_fit : (rows : List LinearRow) (m : List ℤ) → AreRowsOver (width rows) rows → IsProverAnswer rows pivot_limit (RefutedBy m) → All Fits m
given_fit rows m are is i d lt =
    let run = is.1 in
    let same : end_multipliers rows run.last ≡ m = elim (end_decides rows run.last (end_of rows run.pivots run.last run.ends)) [
      | inl a ↦ same_multipliers rows (end_multipliers rows run.last) m a is.0
      | inr b ↦ absurd (not_both_ends rows m (end_solution run.last) is.0 b)
    ] in
    let long : length m ≡ length rows = ap length (sym same) ∙ length-map-range_with_len (end_multiplier rows run.last) 0 (length rows) in
    subst Fits (get_or_default m i (pos 0) d lt)
    (subst (λ (xs : List ℤ). Fits (at xs i)) same (multipliers_fit rows run.pivots run.last are run.ends i (omega (arith, lt, long))))

-- ---- lines

-- the short form of a line may stand in a certificate
pub may_stand : (agents n : ℕ) (m : List ℤ) → n < 1000000 → length m ≤ 529 → All Fits m → MayStand (short_line agents n m)
may_stand agents n m goal few fit =
    short_is MayStand agents n m (λ e. (omega (arith, goal), fit))
    (λ lt. (omega (arith, goal), (let front : needed agents m ≤ used m = omega arith in omega (arith, few, lt, front)), All-take Fits (1 + agents + needed agents m) m fit))

-- each line reads back, and none is too long
record AreRight (ls : List Line) : Type 0 where
  read : AllReadBack ls
  short : AllBrief ls

all_right : (core : Core) → IsWellFormed core → (n : ℕ) (ahead : List Event) (ls : List Line) (m : ℕ) (later : List Event) → Stands core n ahead → AreTaken core n ahead ls m later → AreRight ls
all_right core formed n ahead [] m later s h = record { read = tt; short = tt }
all_right core formed n ahead (l ∷ ls) m later s h =
    let t : IsTaken core n ahead l = h.0 in
    let c = comes core n ahead t.goal t.later s t.comes in
    let long = t.refuted.refutes.same_length in
    let rows = few_rows core t.goal formed c.is_goal in
    let goal = c.first.few in
    let text = short_line_short core.agents n t.multipliers in
    let may = may_stand core.agents n t.multipliers (omega (arith, goal)) (omega (arith, long, rows)) (given_fit t.goal.rows t.multipliers c.rows t.refuted.ends) in
    let rest = all_right core formed h.1 h.2 ls m later (stands_next core n ahead l t h.1 h.2 s h.3) h.5 in
    record {
      read = (subst ReadsBack (sym t.line) (line_back (short_line core.agents n t.multipliers) may), rest.read);
      short = (subst (λ (k : Line). length (line_text k) ≤ line_limit) (sym t.line) (omega (arith, long, rows, text)), rest.short);
    }

-- ---- the report

pub good_is_accepted : (core : Core) (a : Answer) → IsWellFormed core → IsVerifyAnswer core a → a.status ≡ status.Good → Accepts core a.text
good_is_accepted core a formed (ls, n, ahead, taken, b, c, e) good =
    let none = closed_well core n (next_goal ahead n) b c (sym (ap (λ (x : Answer). x.status) e) ∙ good) in
    let closing = subst (λ (x : NextGoal). Closes core n x b) none c in
    let all = all_taken core ls n ahead taken none in
    let right = all_right core formed 0 (events_of core) ls n ahead (stands_first core) taken in
    let front = line_back (Header 2 core.name core.agents) (formed.named, omega arith, (let agents = formed.few_agents in omega (arith, agents))) in
    let few = (took_first core ls n ahead taken).few (omega arith) in
    let back = line_back (Closing n) (omega (arith, few)) in
    let is = certified core ls n formed all.0 all.1 (front, right.read) right.short back in
    let out : List ℕ = joined (texts_after core ls) in
    let whole : a.text ≡ joined (texts_after core (ls ++ Closing n ∷ [])) =
    ap (λ (x : Answer). x.text) e ∙ ap (λ (x : Answer). out ++ x.text) closing
    ∙ sym (texts_on core ls (Closing n ∷ []) ∙ ap (λ xs. out ++ xs) (append-nil (line_text (Closing n)))) in
    subst (Accepts core) (sym whole) is
