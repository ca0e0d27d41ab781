-- The goals of a core have a report, whatever lines it begins with.
use Rattle.std.proofs.Common.{◌≡◌, ◌∙◌, ◌⊎◌, inl, inr, ℕ, zero, suc, ◌+◌, ◌-◌, ◌*◌, ◌/◌, ◌%◌, ◌<◌, ◌≤◌, ◌^◌, ◌≤ℤ◌, ◌<ℤ◌, ◌-ℤ◌, List, [], ◌∷◌, length, drop, ap, sym, subst, refl, arith, ℤ, pos}
use Rattle.std.specs.List.{All, Contains}
use Rattle.std.proofs.Math.Nat.{div-add-mod, mod-lt, mul_comm}
use Rattle.std.proofs.lemmas.Bool.{cases_lt}
use Rattle.std.proofs.lemmas.List.{get_or_default, length-drop}
use Rattle.slice_num.specs.Pieces.{joined}
use Rattle.slice_linear.proofs.Ring.{linear, sign}
use Rattle.slice_linear.specs.Sums.{at}
use Rattle.slice_linear.specs.Rows.{LinearRow, AreRowsOver, width}
use Rattle.slice_core.specs.Tree.{Core}
use Rattle.slice_atoms.specs.Addresses.{Cake, Atom, Halves, atom_count}
use Rattle.slice_paths.specs.Events.{Event, NextGoal, Gives, NoMore, Overflows, OverLimit, events_of, goal_limit, next_goal}
use Rattle.slice_paths.specs.Goals.{Goal, goals}
use Rattle.slice_paths.specs.Ways.{way_of}
use Rattle.slice_paths.proofs.GoalLaws.{rows_over_unknowns}
use Rattle.slice_simplex.specs.ProverAnswer.{ProverAnswer, IsProverAnswer, RefutedBy, SolvedBy, AtLimit, Unfit}
use Rattle.slice_simplex.proofs.EndFacts.{multipliers_refute, solution_solves}
use Rattle.slice_simplex.proofs.SomeAnswer.{answer_exists}
use Rattle.slice_cert.specs.declared.line.Line.{Line}
use Rattle.slice_cert.specs.declared.line.Line.TheVariants.{Closing}
use Rattle.slice_cert.specs.CertLines.{line_text}
use Rattle.slice_cert.specs.ShortForms.{short_line}
use Rattle.slice_counter.specs.Counter.{IsLow}
use Rattle.slice_counter.specs.Heights.{IsFirstHigh}
use Rattle.slice_counter.specs.declared.counter.CounterFault.TheVariants.{HeightLimit}
use Rattle.slice_counter.proofs.HeightLaws.{fault_is}
use Rattle.slice_verify.specs.Report.{AreTaken, IsTaken, LeadsTo, pivot_limit, texts_after}
use Rattle.slice_report.specs.declared.refusal.Refusal.TheVariants as refusal
use Rattle.slice_top.specs.Answers.{Answer, answer_of, one_line, after_text, refused, Counters, low, high, Closes, IsVerifyAnswer, counterexample_json}
use Rattle.slice_top.specs.declared.status.Status.TheVariants as status
use Rattle.slice_top.proofs.Taking.{Stands, comes, short_leads, stands_first}

-- ---- heights

-- one of two numbers is above the other
cases_z : (x y : ℤ) → (x <ℤ y) ⊎ (y ≤ℤ x)
cases_z x y = elim (sign (x -ℤ y)) [
  | inl l ↦ inl (omega (arith, linear))
  | inr (inl e) ↦ inr (omega (arith, linear))
  | inr (inr l) ↦ inr (omega (arith, linear))
]

-- the first number from 1 on, before n, that is above the greatest height, or that there is none
first_over : (xs : List ℤ) (n : ℕ)
    → ((i : ℕ) → 1 ≤ i → i < n → (at xs i) ≤ℤ pos (10 ^ 18))
    ⊎ ((j : ℕ) × ((1 ≤ j) × ((j < n) × ((pos (10 ^ 18) <ℤ (at xs j)) × ((i : ℕ) → 1 ≤ i → i < j → (at xs i) ≤ℤ pos (10 ^ 18))))))
first_over xs zero = inl (λ i some l. absurd (omega (arith, l)))
first_over xs (suc zero) = inl (λ i some l. absurd (omega (arith, some, l)))
first_over xs (suc (suc n)) = elim (first_over xs (suc n)) [
  | inr f ↦ inr (f.0, (f.1.0, (omega (arith, f.1.1.0), f.1.1.1)))
  | inl none ↦ elim (cases_z (pos (10 ^ 18)) (at xs (suc n))) [
    | inl over ↦ inr (suc n, (omega arith, (omega arith, (over, none))))
    | inr small ↦ inl (λ i some l. one_more i some l none small)
  ]
]
  where
    one_more : (i : ℕ) → 1 ≤ i → i < suc (suc n) → ((i : ℕ) → 1 ≤ i → i < suc n → (at xs i) ≤ℤ pos (10 ^ 18)) → (at xs (suc n)) ≤ℤ pos (10 ^ 18) → (at xs i) ≤ℤ pos (10 ^ 18)
    one_more i some l none small = elim (cases_lt i (suc n)) [
      | inl less ↦ none i some less
      | inr more ↦ let e : suc n ≡ i = omega (arith, l, more) in subst (λ k. (at xs k) ≤ℤ pos (10 ^ 18)) e small
    ]

low_of : (xs : List ℤ) → ((i : ℕ) → 1 ≤ i → i < length xs → (at xs i) ≤ℤ pos (10 ^ 18)) → IsLow xs
low_of [] h = λ k d l. absurd (omega (arith, l))
low_of (x ∷ xs) h = λ k d l. subst (λ z. z ≤ℤ pos (10 ^ 18)) (get_or_default xs k (pos 0) d l) (h (suc k) (omega arith) (omega (arith, l)))

some_atom : (k : Cake) → 0 < atom_count k
some_atom Atom = omega arith
some_atom (Halves l r) = omega (arith, some_atom l)

-- the first unknown that is over the greatest height is an agent's number of an atom
first_high : (agents atoms j : ℕ) (xs : List ℤ) → 0 < atoms → 1 ≤ j → j < 1 + agents * atoms → pos (10 ^ 18) <ℤ (at xs j) → ((i : ℕ) → 1 ≤ i → i < j → (at xs i) ≤ℤ pos (10 ^ 18))
    → IsFirstHigh agents atoms xs ((j - 1) / atoms + 1) ((j - 1) % atoms)
first_high agents atoms j xs some one less over none =
    let q = (j - 1) / atoms in
    let r = (j - 1) % atoms in
    let split : atoms * q + r ≡ j - 1 = div-add-mod (j - 1) atoms in
    let back : q + 1 - 1 ≡ q = omega arith in
    let turned : (q + 1 - 1) * atoms ≡ atoms * q = ap (λ k. k * atoms) back ∙ mul_comm q atoms in
    fault_is agents atoms j xs (HeightLimit (q + 1) r) (omega arith, mod-lt (j - 1) some, omega (arith, one, split, turned)) less over none

first_row : (w : ℕ) (rows : List LinearRow) → 0 < length rows → All (λ (r : LinearRow). length r.coefs ≡ w) rows → width rows ≡ w
first_row w [] l h = absurd (omega arith)
first_row w (r ∷ rs) l h = h 0 r (omega arith)

-- a solution of a goal's rows has a number for each unknown
pub long_solution : (core : Core) (g : Goal) (xs : List ℤ) → Contains (goals core) g → AreRowsOver (width g.rows) g.rows → IsProverAnswer g.rows pivot_limit (SolvedBy xs) → length xs ≡ 1 + core.agents * atom_count (way_of core g.trace).cake
long_solution core g xs is rows solved =
    (solution_solves g.rows xs solved.0).one_each ∙ first_row (1 + core.agents * atom_count (way_of core g.trace).cake) g.rows rows.some_row (rows_over_unknowns core g is)

-- what a solution comes to
countered : (core : Core) (g : Goal) (xs : List ℤ) → Contains (goals core) g → AreRowsOver (width g.rows) g.rows → IsProverAnswer g.rows pivot_limit (SolvedBy xs) → (a : Answer) × Counters core g xs a
countered core g xs is rows solved =
    let atoms = atom_count (way_of core g.trace).cake in
    let long = long_solution core g xs is rows solved in
    elim (first_over xs (length xs)) [
      | inl none ↦ (one_line (counterexample_json core g xs) status.Negative, low (low_of xs none) refl)
      | inr f ↦
          let agent = (f.0 - 1) / atoms + 1 in
          let atom = (f.0 - 1) % atoms in (
            refused (refusal.HeightLimit g.number agent atom),
            high agent atom (first_high core.agents atoms f.0 xs (some_atom (way_of core g.trace).cake) f.1.0 (omega (arith, f.1.1.0, long)) f.1.1.1.0 f.1.1.1.1) refl,
          )
    ]

-- ---- the rest of a report

-- further lines, behind those that take n goals, and what closes the report
pub record Rest (core : Core) (n : ℕ) (ahead : List Event) : Type 0 where
  pub lines : List Line
  pub goals : ℕ
  pub later : List Event
  pub taken : AreTaken core n ahead lines goals later
  pub answer : Answer
  pub closes : Closes core goals (next_goal later goals) answer

module _ (core : Core) where
  closed : (n : ℕ) (ahead : List Event) (x : NextGoal) (a : Answer) → next_goal ahead n ≡ x → Closes core n x a → Rest core n ahead
  closed n ahead x a e c = record {
    lines = [];
    goals = n;
    later = ahead;
    taken = (refl, refl);
    answer = a;
    closes = subst (λ (y : NextGoal). Closes core n y a) (sym e) c;
  }

  one_more : (n : ℕ) (ahead : List Event) (l : Line) (t : IsTaken core n ahead l) (m : ℕ) (mid : List Event) → LeadsTo core n t.goal t.later l m mid → m ≤ goal_limit → Rest core m mid → Rest core n ahead
  one_more n ahead l t m mid leads few r = record {
    lines = l ∷ r.lines;
    goals = r.goals;
    later = r.later;
    taken = (t, m, mid, leads, few, r.taken);
    answer = r.answer;
    closes = r.closes;
  }

  -- where fewer goals are left there is one
  abbrev Goes : ℕ → Type 0
  Goes n = (m : ℕ) (mid : List Event) → length (drop m (goals core)) < length (drop n (goals core)) → Stands core m mid → Rest core m mid

  module _ (n : ℕ) (ahead : List Event) (s : Stands core n ahead) (goes : Goes n) where
    -- the goal is refuted: the rest goes on behind its line, unless that covers too many goals
    refuted : (g : Goal) (later : List Event) → next_goal ahead n ≡ Gives g later → (m : List ℤ) → IsProverAnswer g.rows pivot_limit (RefutedBy m) → Rest core n ahead
    refuted g later e m is =
        let c = comes core n ahead g later s e in
        let l : Line = short_line core.agents n m in
        let refutes = multipliers_refute g.rows m c.rows is.0 in
        let t : IsTaken core n ahead l = record { goal = g; later = later; comes = e; multipliers = m; refuted = record { ends = is; refutes = refutes }; line = refl } in
        let x = short_leads core n g later m c refutes in
        let one = x.some in
        let within = x.within in
        let left = length-drop n (goals core) in
        let fewer = length-drop (n + x.count) (goals core) in
        elim (cases_lt goal_limit (n + x.count)) [
          | inl past ↦ closed n ahead (Gives g later) (after_text (line_text l) (refused refusal.GoalLimit)) e (RefutedBy m, is, (n + x.count, x.ahead, x.leads, past, refl))
          | inr few ↦ one_more n ahead l t (n + x.count) x.ahead x.leads few (goes (n + x.count) x.ahead (omega (arith, one, within, left, fewer)) x.stands)
        ]

    answered : (g : Goal) (later : List Event) → next_goal ahead n ≡ Gives g later → (p : ProverAnswer) → IsProverAnswer g.rows pivot_limit p → Rest core n ahead
    answered g later e (RefutedBy m) is = refuted g later e m is
    answered g later e (SolvedBy xs) is =
        let c = comes core n ahead g later s e in
        let a = countered core g xs c.is_goal c.rows is in
        closed n ahead (Gives g later) a.0 e (SolvedBy xs, is, a.1)
    answered g later e AtLimit is = closed n ahead (Gives g later) (refused (refusal.PivotLimit n)) e (AtLimit, is, refl)
    answered g later e (Unfit pivots row col) is = closed n ahead (Gives g later) (refused (refusal.ProverOverflow n pivots row col)) e (Unfit pivots row col, is, refl)

    rest_of : (x : NextGoal) → next_goal ahead n ≡ x → Rest core n ahead
    rest_of NoMore e = closed n ahead NoMore (answer_of (line_text (Closing n)) status.Good) e refl
    rest_of Overflows e = closed n ahead Overflows (refused (refusal.FormOverflow n)) e refl
    rest_of OverLimit e = closed n ahead OverLimit (refused refusal.GoalLimit) e refl
    rest_of (Gives g later) e = answered g later e (answer_exists g.rows pivot_limit).0 (answer_exists g.rows pivot_limit).1

  -- by the number of goals that are left
  rest_by : (left n : ℕ) (ahead : List Event) → length (drop n (goals core)) ≤ left → Stands core n ahead → Rest core n ahead
  rest_by zero n ahead few s = rest_of n ahead s (λ m mid fewer t. absurd (omega (arith, few, fewer))) (next_goal ahead n) refl
  rest_by (suc left) n ahead few s = rest_of n ahead s (λ m mid fewer t. rest_by left m mid (omega (arith, few, fewer)) t) (next_goal ahead n) refl

  pub some_rest : (n : ℕ) (ahead : List Event) → Stands core n ahead → Rest core n ahead
  some_rest n ahead s = rest_by (length (drop n (goals core))) n ahead (omega arith) s

  -- a report
  pub some_verified : (a : Answer) × IsVerifyAnswer core a
  some_verified =
      let r = some_rest 0 (events_of core) (stands_first core) in
      (after_text (joined (texts_after core r.lines)) r.answer, (r.lines, r.goals, r.later, r.taken, r.answer, r.closes, refl))
