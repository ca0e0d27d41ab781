-- Something is said of each file: line by line the checker goes on, or something stops it.
use Rattle.std.specs.Prelude.{nat_lt, if◌then◌else◌}
use Rattle.std.proofs.Common.{Bool, true, false, ◌≡◌, ◌≢◌, ◌∙◌, ◌⊎◌, inl, inr, ◌+◌, ◌*◌, ◌<◌, ◌≤◌, ℕ, zero, suc, ℤ, List, [], ◌∷◌, length, drop, get_or, ap, sym, subst, refl, arith, Some, None, length-drop}
use Rattle.std.specs.declared.option.Option.{Option}
use Rattle.std.specs.List.{All}
use Rattle.std.proofs.lemmas.Bool.{cases_lt, cases_eq}
use Rattle.std.proofs.lemmas.List.{get_or-drop}
use Rattle.slice_io.specs.Lines.{first_line, line_bytes, rest_from, start_of, LineIs, LineRefused}
use Rattle.slice_io.specs.declared.lines.LineFault.TheVariants as line_fault
use Rattle.slice_io.proofs.Gathering.{line_in_bytes}
use Rattle.slice_core.specs.Tree.{Core}
use Rattle.slice_linear.specs.Rows.{LinearRow, width}
use Rattle.slice_atoms.specs.Addresses.{atom_count}
use Rattle.slice_paths.specs.Coming.{fault_ahead}
use Rattle.slice_paths.specs.declared.goal.GoalFault.TheVariants as goal_fault
use Rattle.slice_paths.specs.Events.{Event, Meets, Breaks, NextGoal, Gives, NoMore, Overflows, OverLimit, events_of, goal_limit, next_goal}
use Rattle.slice_paths.specs.Fronts.{cover_rows, events_after}
use Rattle.slice_paths.specs.Goals.{Goal, goals}
use Rattle.slice_paths.specs.Ways.{way_of}
use Rattle.slice_paths.proofs.FrontLaws.{covers_are_fronts}
use Rattle.slice_paths.proofs.GoalLaws.{rows_over_unknowns}
use Rattle.slice_cert.specs.declared.line.Line.{Line}
use Rattle.slice_cert.specs.declared.line.Line.TheVariants.{Header, Refutation, Cover, Closing}
use Rattle.slice_cert.specs.CertLines.{IsLine}
use Rattle.slice_cert.specs.Kinds.{IsClosing}
use Rattle.slice_check.specs.declared.verdict.Verdict.{Verdict}
use Rattle.slice_check.specs.declared.verdict.Verdict.TheVariants as verdict
use Rattle.slice_check.specs.declared.answer.HeaderField.{HeaderField}
use Rattle.slice_check.specs.declared.answer.HeaderField.TheVariants.{Kind, Version, Protocol, Agents}
use Rattle.slice_check.specs.declared.answer.Rejection.{Rejection}
use Rattle.slice_check.specs.declared.answer.Rejection.TheVariants as rejection
use Rattle.slice_check.specs.declared.answer.CertFault.TheVariants as cert_fault
use Rattle.slice_check.specs.declared.answer.CertAnswer.TheVariants.{Accepted, Rejected}
use Rattle.slice_check.specs.Verdicts.{HaveOneWidth, IsVerdict}
use Rattle.slice_check.specs.Certificate.{AtEnd, AtGoal, IsClosed, IsRead, IsVersion, SaysLine, Stands, line_limit, file_limit}
use Rattle.slice_check.specs.Faults.{CoverSays, HeaderDiffers, IsOutOfOrder, IsThere, LineSays, Rejects}
use Rattle.slice_check.specs.Completeness.{FilesAreDecided, IsDecided}
use Rattle.slice_check.proofs.Accepting.{accepted, all_taken, stands_few, stands_first, stands_next, stands_tells}
use Rattle.slice_check.proofs.Ahead.{IsGiven, given, skipped}
use Rattle.slice_check.proofs.RowsAt.{coefs_is}
use Rattle.slice_check.proofs.SomeLine.{tell_line}
use Rattle.slice_check.proofs.SomeVerdict.{some_verdict}
use Rattle.slice_check.proofs.Telling.{tell_same}

-- ---- a line

-- what comes at line i: the end, a line that is too long or lies past the file's limit, bytes that are no line, or a line
pub data Comes (file : List ℕ) (i : ℕ) : Type 0 where
  ended : rest_from i file ≡ [] → Comes file i
  long : LineRefused line_limit file_limit file i (line_fault.LineTooLong (i + 1)) → Comes file i
  past : LineRefused line_limit file_limit file i line_fault.TooLong → Comes file i
  bad : (text : List ℕ) → LineIs line_limit file_limit file i (Some text) → ((l : Line) → IsLine text l → ⊥) → Comes file i
  line : (l : Line) → SaysLine file i l → Comes file i

some_left : (xs : List ℕ) → (xs ≡ []) ⊎ (0 < length xs)
some_left [] = inl refl
some_left (c ∷ cs) = inr (omega arith)

read_as : (file : List ℕ) (i : ℕ) (text : List ℕ) → LineIs line_limit file_limit file i (Some text) → Comes file i
read_as file i text is = elim (tell_line text) [
  | inl l ↦ line l.0 (text, is, l.1)
  | inr none ↦ bad text is (λ l h. none (l, h))
]

pub comes : (file : List ℕ) (i : ℕ) → i < 2000000 → Comes file i
comes file i few = elim (some_left (rest_from i file)) [
  | inl none ↦ ended none
  | inr some ↦ elim (cases_lt line_limit (length (first_line (rest_from i file)))) [
    | inl over ↦ elim (cases_lt file_limit (start_of i file + line_limit)) [
      | inl late ↦ past (omega (arith, late, over, line_in_bytes (rest_from i file)), λ o. late)
      | inr within ↦ long (omega (arith, few), over, within)
    ]
    | inr short ↦ elim (cases_lt file_limit (start_of i file + line_bytes (rest_from i file))) [
      | inl late ↦ past (late, λ o. absurd (omega (arith, o, short)))
      | inr within ↦ read_as file i (first_line (rest_from i file)) (some, refl, short, within)
    ]
  ]
]

-- ---- rows

-- rows with so many coefficients each are over as many unknowns
one_width : (w : ℕ) (rows : List LinearRow) → All (λ (r : LinearRow). length r.coefs ≡ w) rows → HaveOneWidth rows
one_width w [] h i lt = absurd (omega (arith, lt))
one_width w (r ∷ rows) h i lt = ap length (coefs_is (r ∷ rows) i r lt) ∙ h i r lt ∙ sym (h 0 r (omega arith))

-- so are the rows of a goal of a core
pub goal_width : (core : Core) (n : ℕ) (g : Goal) (rest : List Goal) → drop n (goals core) ≡ g ∷ rest → HaveOneWidth g.rows
goal_width core n g rest e = one_width (1 + core.agents * atom_count (way_of core g.trace).cake) g.rows (rows_over_unknowns core g (n, there, is))
  where
    there : n < length (goals core)
    there = let len : length (drop n (goals core)) ≡ suc (length rest) = ap length e in omega (arith, len, length-drop n (goals core))

    is : get_or (goals core) n g ≡ g
    is =
        let none : n ≡ n + 0 = omega arith in
        ap (λ (k : ℕ). get_or (goals core) k g) none ∙ sym (get_or-drop n (goals core) 0 g) ∙ ap (λ (gs : List Goal). get_or gs 0 g) e

module _ (core : Core) (file : List ℕ) where
  rejected : (r : Rejection) → Rejects core file r → IsDecided core file
  rejected r h = inl (Rejected r, h)

  -- ---- a line that is read
  read_at : (i : ℕ) → i < 2000000 → IsRead core file i → ((l : Line) × SaysLine file i l) ⊎ IsDecided core file
  read_at i few r = by (comes file i few)
    where
      by : Comes file i → ((l : Line) × SaysLine file i l) ⊎ IsDecided core file
      by (ended none) = inr (rejected rejection.NotClosed (i, r, none))
      by (long h) = inr (rejected (rejection.LineTooLong (i + 1)) (i, refl, r, h))
      by (past h) = inr (inr (cert_fault.TooLong, (λ u. u, (i, inl r, h))))
      by (bad text is none) = inr (rejected (rejection.BadLine (i + 1)) (i, refl, inl (r, (text, is, none))))
      by (line l s) = inl (l, s)

  -- ---- the header
  tell_field : (l : Line) → ((version : ℕ) × IsVersion version × (l ≡ Header version core.name core.agents)) ⊎ ((field : HeaderField) × HeaderDiffers core.name core.agents l field)
  tell_field (Refutation goal m) = inr (Kind, refl)
  tell_field (Cover goal passed m) = inr (Kind, refl)
  tell_field (Closing total) = inr (Kind, refl)
  tell_field (Header version protocol agents) = elim (tell_version version) [
    | inr v ↦ inr (Version, v)
    | inl v ↦ elim (tell_same protocol core.name) [
      | inr p ↦ inr (Protocol, (v, p))
      | inl p ↦ elim (cases_eq agents core.agents) [
        | inr n ↦ inr (Agents, (v, p, n))
        | inl n ↦ inl (version, v, λ i. Header version (p i) (n i))
      ]
    ]
  ]
    where
      tell_version : (version : ℕ) → IsVersion version ⊎ (IsVersion version → ⊥)
      tell_version version = elim (cases_eq version 1) [
        | inl one ↦ inl (inl one)
        | inr more ↦ elim (cases_eq version 2) [
          | inl two ↦ inl (inr two)
          | inr other ↦ inr (λ v. elim v [ inl a ↦ more a | inr b ↦ other b ])
        ]
      ]

  headed : ((version : ℕ) × Stands core file version 0 (events_of core) 1) ⊎ IsDecided core file
  headed = elim (read_at 0 (omega arith) (inl refl)) [
    | inr h ↦ inr h
    | inl s ↦ elim (tell_field s.0) [
      | inl v ↦ inl (v.0, stands_first core file v.0 v.1 (subst (λ (l : Line). SaysLine file 0 l) v.2 s.1))
      | inr d ↦ inr (rejected (rejection.HeaderDiffers d.0) (s.0, s.1, d.1))
    ]
  ]

  -- ---- a goal's line

  -- the lines before a later line are right, and take more goals
  abbrev Later : ℕ → Type 0
  Later n = (version m i : ℕ) × (ahead : List Event) × Stands core file version m ahead i × (n < m) × (m ≤ goal_limit)

  module _ (version n i : ℕ) (ahead : List Event) (st : Stands core file version n ahead i) (g : Goal) (later : List Event) (e : next_goal ahead n ≡ Gives g later) where
    at_goal : AtGoal core file version n i g
    at_goal = record { ahead = ahead; later = later; stands = st; comes = e }

    first : IsGiven n g later (drop n (goals core))
    first = given ahead n g later (drop n (goals core)) e (stands_tells core file version n ahead i st)

    order : (l : Line) → SaysLine file i l → IsOutOfOrder version n l → IsDecided core file
    order l s o = rejected (rejection.GoalOrder (i + 1)) (version, i, n, g, l, refl, at_goal, s, o)

    judged : (l : Line) (w : Verdict) → SaysLine file i l → LineSays core version n g l w → (w ≡ verdict.Yes → Later n ⊎ IsDecided core file) → Later n ⊎ IsDecided core file
    judged l verdict.Yes s h yes_ = yes_ refl
    judged l verdict.Length s h yes_ = inr (rejected (rejection.Length n) (version, i, g, l, at_goal, s, h))
    judged l (verdict.Sign row) s h yes_ = inr (rejected (rejection.Sign n row) (version, i, g, l, at_goal, s, h))
    judged l (verdict.Sum unknown) s h yes_ = inr (rejected (rejection.Sum n unknown) (version, i, g, l, at_goal, s, h))
    judged l verdict.NoStrict s h yes_ = inr (rejected (rejection.NoStrict n) (version, i, g, l, at_goal, s, h))
    judged l (verdict.Overflow unknown) s h yes_ = inr (inr (cert_fault.Overflow n unknown, (λ u. u, (version, i, g, l, at_goal, s, h))))

    plain : (goal : ℕ) (m : List ℤ) → SaysLine file i (Refutation goal m) → Later n ⊎ IsDecided core file
    plain goal m s = elim (cases_eq goal n) [
      | inr apart ↦ inr (order (Refutation goal m) s apart)
      | inl same ↦
          let v = some_verdict g.rows m (goal_width core n g first.rest first.are) in
          judged (Refutation goal m) v.0 s (same, v.1) (λ y.
          let few = first.few in
          let is : IsVerdict g.rows m verdict.Yes = subst (IsVerdict g.rows m) y v.1 in
          inl (version, n + 1, i + 1, later, stands_next core file version n (n + 1) i ahead later (Refutation goal m) st s (g, e, same, is, refl), omega arith, omega (arith, few)))
    ]

    covering : (goal passed : ℕ) (m : List ℤ) → version ≡ 2 → SaysLine file i (Cover goal passed m) → Later n ⊎ IsDecided core file
    covering goal passed m two s = elim (cases_eq goal n) [
      | inr apart ↦ inr (order (Cover goal passed m) s (two, apart))
      | inl same ↦ by same (cover_rows core passed g.trace) refl
    ]
      where
        more : goal ≡ n → (rows : List LinearRow) → cover_rows core passed g.trace ≡ Some rows → IsVerdict rows m verdict.Yes → Later n ⊎ IsDecided core file
        more same rows c v =
            let k = skipped core n passed g later rows first c in
            let one = k.one in
            elim (cases_lt goal_limit (n + k.count)) [
              | inl over ↦
                  let two_there = subst (λ (x : ℕ). AtGoal core file x n i g) two at_goal in
                  let line_there = subst (λ (x : ℕ). SaysLine file i (Cover x passed m)) same s in
                  let says : CoverSays (cover_rows core passed g.trace) m verdict.Yes = subst (λ (o : Option (List LinearRow)). CoverSays o m verdict.Yes) (sym c) v in
                  inr (inr (cert_fault.GoalLimit, (λ u. u, inr (n, i, passed, k.count, g, m, two_there, line_there, says, k.share, over))))
              | inr within ↦
                  let es = events_after core passed g.trace in
                  inl (
                    version,
                    n + k.count,
                    i + 1,
                    es,
                    stands_next core file version n (n + k.count) i ahead es (Cover goal passed m) st s (g, later, rows, k.count, e, two, same, c, v, k.share, refl, within, refl),
                    omega (arith, one),
                    within,
                  )
            ]

        by : goal ≡ n → (o : Option (List LinearRow)) → cover_rows core passed g.trace ≡ o → Later n ⊎ IsDecided core file
        by same None c = judged (Cover goal passed m) verdict.Length s (two, same, subst (λ (o : Option (List LinearRow)). CoverSays o m verdict.Length) (sym c) refl) (λ y. absurd cc)
        by same (Some rows) c =
            let v = some_verdict rows m (one_width (width rows) rows (covers_are_fronts core passed g.trace rows c).5) in
            judged (Cover goal passed m) v.0 s (two, same, subst (λ (o : Option (List LinearRow)). CoverSays o m v.0) (sym c) v.1) (λ y. more same rows c (subst (IsVerdict rows m) y v.1))

    taken_by : (l : Line) → SaysLine file i l → Later n ⊎ IsDecided core file
    taken_by (Header v protocol agents) s = inr (order (Header v protocol agents) s tt)
    taken_by (Closing total) s = inr (rejected (rejection.Missing n) (version, i, total, g, at_goal, s))
    taken_by (Refutation goal m) s = plain goal m s
    taken_by (Cover goal passed m) s = elim st.known [
      | inl one ↦ inr (rejected (rejection.BadLine (i + 1)) (i, refl, inr (n, g, Cover goal passed m, subst (λ (x : ℕ). AtGoal core file x n i g) one at_goal, s, tt)))
      | inr two ↦ covering goal passed m two s
    ]

    goal_taken : i < 2000000 → Later n ⊎ IsDecided core file
    goal_taken few = elim (read_at i few (inr (inl (version, n, g, at_goal)))) [
      | inr h ↦ inr h
      | inl s ↦ taken_by s.0 s.1
    ]

  -- ---- the closing line, and what comes after it
  module _ (version n i : ℕ) (ahead : List Event) (st : Stands core file version n ahead i) (e : next_goal ahead n ≡ NoMore) (few : i + 1 < 2000000) where
    at_end : AtEnd core file n i
    at_end = record { version = version; ahead = ahead; stands = st; ends = e }

    closed : SaysLine file i (Closing n) → IsDecided core file
    closed s = by (comes file (i + 1) few)
      where
        shut : IsClosed core file n (i + 1)
        shut = record { at = i; next = refl; ends = at_end; closes = s }

        extra : IsThere file (i + 1) → IsDecided core file
        extra there = rejected (rejection.Extra ((i + 1) + 1)) (i + 1, n, refl, inr (shut, there))

        by : Comes file (i + 1) → IsDecided core file
        by (ended none) = inl (Accepted n, (accepted core file version n ahead i st e s none, all_taken core file version n ahead i st e, (i + 1, shut, none)))
        by (long h) = extra (inr h)
        by (past h) = inr (cert_fault.TooLong, (λ u. u, (i + 1, inr (n, shut), h)))
        by (bad text is none) = extra (inl (text, is))
        by (line l t) = extra (inl (t.0, t.1))

    extra_line : (l : Line) → SaysLine file i l → (IsClosing l → ⊥) → IsDecided core file
    extra_line l s c = rejected (rejection.Extra (i + 1)) (i, n, refl, inl (at_end, (l, s, c)))

    ended_by : (l : Line) → SaysLine file i l → IsDecided core file
    ended_by (Header v protocol agents) s = extra_line (Header v protocol agents) s (λ c. c)
    ended_by (Refutation goal m) s = extra_line (Refutation goal m) s (λ c. c)
    ended_by (Cover goal passed m) s = extra_line (Cover goal passed m) s (λ c. c)
    ended_by (Closing total) s = elim (cases_eq total n) [
      | inl same ↦ closed (subst (λ (k : ℕ). SaysLine file i (Closing k)) same s)
      | inr apart ↦ rejected (rejection.ClosingDiffers (i + 1)) (i, n, total, refl, at_end, s, apart)
    ]

    end_read : IsDecided core file
    end_read = elim (read_at i (omega (arith, few)) (inr (inr (n, at_end)))) [
      | inr h ↦ h
      | inl s ↦ ended_by s.0 s.1
    ]

  -- ---- from line to line
  next_line : (version n i : ℕ) (ahead : List Event) → Stands core file version n ahead i → Later n ⊎ IsDecided core file
  next_line version n i ahead st = by (next_goal ahead n) refl
    where
      few : (i ≤ n + 1) × (n ≤ goal_limit)
      few = stands_few core file version n ahead i st

      by : (x : NextGoal) → next_goal ahead n ≡ x → Later n ⊎ IsDecided core file
      by (Gives g later) e = goal_taken version n i ahead st g later e (omega (arith, few.0, few.1))
      by NoMore e = inr (end_read version n i ahead st e (omega (arith, few.0, few.1)))
      by Overflows e = inr (inr (cert_fault.FormOverflow n, (λ u. u, (version, i, ahead, st, e))))
      by OverLimit e = inr (inr (cert_fault.GoalLimit, (λ u. u, inl (version, n, i, ahead, st, e))))

  lines_read : (fuel version n i : ℕ) (ahead : List Event) → goal_limit < n + fuel → Stands core file version n ahead i → IsDecided core file
  lines_read zero version n i ahead enough st = let few = stands_few core file version n ahead i st in absurd (omega (arith, enough, few.1))
  lines_read (suc fuel) version n i ahead enough st = elim (next_line version n i ahead st) [
    | inr h ↦ h
    | inl x ↦ lines_read fuel x.0 x.1 x.2 x.3 (omega (arith, enough, x.5)) x.4
  ]

  decided : IsDecided core file
  decided = elim headed [
    | inr h ↦ h
    | inl x ↦ lines_read 1000001 x.0 0 1 (events_of core) (omega arith) x.1
  ]

pub files_decided : FilesAreDecided
files_decided core file = decided core file

-- ---- goals that are made

-- want of memory keeps no goal from being made
pub fault_not_memory : (es : List Event) (given : ℕ) → fault_ahead es given ≢ Some goal_fault.Memory
fault_not_memory [] given e = cc
fault_not_memory (Breaks ∷ es) given e = cc
fault_not_memory (Meets t ∷ es) given e = by (nat_lt given goal_limit) t.fit (fault_not_memory es (given + 1)) e
  where
    by : (x y : Bool) → fault_ahead es (given + 1) ≢ Some goal_fault.Memory → (if x then (if y then fault_ahead es (given + 1) else Some (goal_fault.Overflow given)) else Some goal_fault.GoalLimit) ≡ Some goal_fault.Memory → ⊥
    by true true later e = later e
    by true false later e = cc
    by false y later e = cc
