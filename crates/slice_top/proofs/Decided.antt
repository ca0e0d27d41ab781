-- What the verifier says of a core, as an answer.
use Rattle.std.proofs.Common.{◌≡◌, ◌∙◌, ℕ, ◌+◌, inl, inr, List, [], ◌∷◌, ◌++◌, map, ap, sym, subst, refl, arith, append_assoc, append-nil, Option, ℤ}
use Rattle.std.proofs.lemmas.Bool.{cases_lt}
use Rattle.std.proofs.lemmas.List.{length-append, take-append-le}
use Rattle.slice_io.specs.Told.{appended, FrontIsOut}
use Rattle.serde_json.specs.Written.{compact_text}
use Rattle.serde_json.specs.Data.{Data}
use Rattle.slice_num.specs.Pieces.{joined}
use Rattle.slice_json.specs.Texts.{line_of}
use Rattle.slice_core.specs.Tree.{Core}
use Rattle.slice_core.proofs.Counting.{joined-append}
use Rattle.slice_paths.specs.Events.{Event, NextGoal, Gives, NoMore, Overflows, OverLimit, events_of, goal_limit, next_goal}
use Rattle.slice_paths.specs.Goals.{Goal}
use Rattle.slice_simplex.specs.ProverAnswer.{ProverAnswer, IsProverAnswer, RefutedBy, SolvedBy, AtLimit, Unfit}
use Rattle.slice_cert.specs.declared.line.Line.{Line}
use Rattle.slice_cert.specs.declared.line.Line.TheVariants.{Header, Closing}
use Rattle.slice_cert.specs.CertLines.{line_text, line_json}
use Rattle.slice_cert.specs.ShortForms.{short_line}
use Rattle.slice_counter.specs.CounterLine.{counter_json, counter_text}
use Rattle.slice_counter.specs.declared.counter.Counterexample.{Counterexample}
use Rattle.slice_check.proofs.LinesOut.{map-append}
use Rattle.slice_verify.specs.Report.{IsTaken, LeadsTo, TakeFirst, IsReached, PassesLimit, IsDecision, IsStop, IsCounterOf, texts_after, closing_text, DecisionIs, Begins, none, begun, covered, AreRight, part, whole, FaultIs, pivot_limit}
use Rattle.slice_verify.specs.declared.verifier.Decision.{Decision}
use Rattle.slice_verify.specs.declared.verifier.Decision.TheVariants.{EnvyFree, Found}
use Rattle.slice_verify.specs.declared.verifier.VerifyFault.{VerifyFault}
use Rattle.slice_verify.specs.declared.verifier.VerifyFault.TheVariants as fault
use Rattle.slice_report.specs.Refusals.{refused_json}
use Rattle.slice_report.specs.declared.refusal.Refusal.{Refusal}
use Rattle.slice_report.specs.declared.refusal.Refusal.TheVariants.{GoalLimit, FormOverflow, ProverOverflow, PivotLimit, HeightLimit}
use Rattle.slice_top.proofs.LastLines.{line_is_last}
use Rattle.slice_top.proofs.SomeDecisions.{some_rest}
use Rattle.slice_top.proofs.Taking.{line_leads, taken_on, took_first}
use Rattle.slice_top.specs.Answers.{Answer, answer_of, after_text, refused, low, high, Closes, ClosesAt, IsVerifyAnswer, counterexample_json}
use Rattle.slice_top.specs.Decisions.{decided_status, verify_stop}
use Rattle.slice_top.specs.Demos.{last_line}
use Rattle.slice_top.specs.Reports.{AreLines, nothing, first_lines, IsOut}
use Rattle.slice_top.specs.Reports as report
use Rattle.slice_top.specs.Settled.{WroteFront, Ends, LinesStop}
use Rattle.slice_top.specs.Statuses.{refused_status}
use Rattle.slice_top.specs.declared.status.Status.{Status}
use Rattle.slice_top.specs.declared.status.Status.TheVariants as status

-- ---- lines

-- a line behind some bytes
pub line_behind : (out : List ℕ) (d : Data) → AreLines (out ++ line_of d)
line_behind out d = report.ended (out ++ compact_text d) (sym (append_assoc out (compact_text d) (10 ∷ [])))

pub lines_before : (line rest : List ℕ) → AreLines line → AreLines rest → AreLines (line ++ rest)
lines_before line rest h (report.none e) = subst AreLines (sym (append-nil line) ∙ ap (λ xs. line ++ xs) (sym e)) h
lines_before line rest h (report.ended before e) = report.ended (line ++ before) (ap (λ xs. line ++ xs) e ∙ sym (append_assoc line before (10 ∷ [])))

pub joined_lines : (ls : List Line) → AreLines (joined (map line_text ls))
joined_lines [] = report.none refl
joined_lines (l ∷ ls) = lines_before (line_text l) (joined (map line_text ls)) (line_behind [] (line_json l)) (joined_lines ls)

-- a text behind others
text_behind : (texts : List (List ℕ)) (text : List ℕ) → joined (texts ++ text ∷ []) ≡ joined texts ++ text
text_behind texts text = joined-append texts (text ∷ []) ∙ ap (λ xs. joined texts ++ xs) (append-nil text)

-- the line of a counterexample
counter_is : (c : Counterexample) → counter_text c ≡ line_of (counter_json c.goal c.kind c.query c.valuations c.cuts.items)
unfolding counter_text
counter_is c = refl

same_line : (core : Core) (g : Goal) (xs : List ℤ) (c : Counterexample) → IsCounterOf core g xs c → counter_text c ≡ line_of (counterexample_json core g xs)
same_line core g xs c is = counter_is c ∙ (λ i. line_of (counter_json (is.number i) (is.kind i) (is.query i) (is.valuations i) (is.cuts i)))

answer_text : (xs ys : List ℕ) (s : Status) → xs ≡ ys → answer_of xs s ≡ answer_of ys s
answer_text xs ys s e = ap (λ t. answer_of t s) e

module _ (core : Core) where
  -- ---- lines, and what closes the report behind them

  -- further lines
  pub texts_on : (ls ks : List Line) → joined (texts_after core (ls ++ ks)) ≡ joined (texts_after core ls) ++ joined (map line_text ks)
  texts_on ls ks = ap joined (map-append (Header 2 core.name core.agents ∷ ls) ks) ∙ joined-append (texts_after core ls) (map line_text ks)

  told_by : (ls : List Line) (n : ℕ) (ahead : List Event) (x : NextGoal) (b : Answer) → TakeFirst core ls n ahead → next_goal ahead n ≡ x → Closes core n x b → IsVerifyAnswer core (after_text (joined (texts_after core ls)) b)
  told_by ls n ahead x b t e c = (ls, n, ahead, t, b, subst (λ (y : NextGoal). Closes core n y b) (sym e) c, refl)

  -- a goal that is reached, with the prover's answer on it
  told_at : (ls : List Line) (g : Goal) (b : Answer) → (r : IsReached core ls g) → (p : ProverAnswer) → IsProverAnswer g.rows pivot_limit p → ClosesAt core g.number g r.later p b
      → IsVerifyAnswer core (after_text (joined (texts_after core ls)) b)
  told_at ls g b r p is c = told_by ls g.number r.ahead (Gives g r.later) b r.taken r.comes (p, is, c)

  -- the last line covers too many goals
  told_past : (ls : List Line) → PassesLimit core ls → IsVerifyAnswer core (after_text (joined (texts_after core ls)) (refused GoalLimit))
  told_past ls p =
      let c = p.covers in
      let front = joined (texts_after core p.before) in
      let line = line_text p.last in
      let b : Answer = after_text line (refused GoalLimit) in
      let leads = subst (λ (l : Line). LeadsTo core p.number c.goal c.later l p.goals p.later) c.line p.leads in
      let last : b ≡ after_text (line_text (short_line core.agents p.number c.multipliers)) (refused GoalLimit) = ap (λ (l : Line). after_text (line_text l) (refused GoalLimit)) c.line in
      let told = told_by p.before p.number p.ahead (Gives c.goal c.later) b p.taken c.comes (RefutedBy c.multipliers, c.refuted.ends, (p.goals, p.later, leads, p.too_many, last)) in
      let all : joined (texts_after core ls) ≡ front ++ line =
      ap (λ (ks : List Line). joined (texts_after core ks)) p.split ∙ texts_on p.before (p.last ∷ []) ∙ ap (λ xs. front ++ xs) (append-nil line) in
      subst (IsVerifyAnswer core)
      (answer_text (front ++ b.text) (joined (texts_after core ls) ++ (refused GoalLimit).text) b.status
      (sym (append_assoc front line (refused GoalLimit).text) ∙ ap (λ xs. xs ++ (refused GoalLimit).text) (sym all))) told

  -- ---- decisions

  abbrev closing_answer : Decision → Answer
  closing_answer d = answer_of (closing_text d) (decided_status d)

  decides : (ls : List Line) (d : Decision) → IsDecision core ls d → IsVerifyAnswer core (after_text (joined (texts_after core ls)) (closing_answer d))
  decides ls (EnvyFree n) (ahead, taken, none_) = told_by ls n ahead NoMore (closing_answer (EnvyFree n)) taken none_ refl
  decides ls (Found c) (g, xs, r, solved, is) =
      told_at ls g (closing_answer (Found c)) r (SolvedBy xs) solved
      (low is.low (answer_text (closing_text (Found c)) (line_of (counterexample_json core g xs)) status.Negative (same_line core g xs c is)))

  ended_lines : (ls : List Line) (d : Decision) → AreLines (joined (texts_after core ls) ++ closing_text d)
  ended_lines ls (EnvyFree n) = line_behind (joined (texts_after core ls)) (line_json (Closing n))
  ended_lines ls (Found c) =
      subst (λ text. AreLines (joined (texts_after core ls) ++ text)) (sym (counter_is c)) (line_behind (joined (texts_after core ls)) (counter_json c.goal c.kind c.query c.valuations c.cuts.items))

  after_all : (ls : List Line) → AreLines (joined (texts_after core ls))
  after_all ls = joined_lines (Header 2 core.name core.agents ∷ ls)

  -- the report that ends with a counterexample, whose line is the last
  pub found_ends : (c : Counterexample) (ls : List Line) → IsDecision core ls (Found c)
      → (report : Answer) × (IsVerifyAnswer core report × ((report.status ≡ status.Negative) × (answer_of (counter_text c) status.Negative ≡ answer_of (last_line report.text) report.status)))
  found_ends c ls h =
      let before = joined (texts_after core ls) in
      let d = counter_json c.goal c.kind c.query c.valuations c.cuts.items in
      let last : last_line (before ++ counter_text c) ≡ counter_text c = ap (λ t. last_line (before ++ t)) (counter_is c) ∙ line_is_last before d (after_all ls) ∙ sym (counter_is c) in
      (after_text before (closing_answer (Found c)), (decides ls (Found c) h, (refl, ap (λ t. answer_of t status.Negative) (sym last))))

  pub decision_ends : (old new : Option (List ℕ)) (d : Decision) → DecisionIs core old new d → Ends (IsVerifyAnswer core) old new [] (decided_status d)
  decision_ends old new d h =
      let texts = texts_after core h.0 in
      let same = text_behind texts (closing_text d) in
      record {
        out = joined texts ++ closing_text d;
        told = h.2 ∙ ap (appended old) same;
        is = (ended_lines h.0 d, subst (λ xs. IsVerifyAnswer core (answer_of xs (decided_status d))) (sym (append-nil (joined texts ++ closing_text d))) (decides h.0 d h.1));
      }

  -- ---- stops

  -- the refusal's line comes after the lines so far
  refused_ends : (old new : Option (List ℕ)) (ls : List Line) (r : Refusal) → new ≡ appended old (joined (texts_after core ls)) → IsVerifyAnswer core (after_text (joined (texts_after core ls)) (refused r))
      → Ends (IsVerifyAnswer core) old new (line_of (refused_json r)) (refused_status r)
  refused_ends old new ls r out is = record { out = joined (texts_after core ls); told = out; is = (after_all ls, is) }

  limit_told : (ls : List Line) → IsStop core ls fault.GoalLimit → IsVerifyAnswer core (after_text (joined (texts_after core ls)) (refused GoalLimit))
  limit_told ls (inl (n, ahead, taken, over)) = told_by ls n ahead OverLimit (refused GoalLimit) taken over refl
  limit_told ls (inr past) = told_past ls past

  stop_ends : (sink : Type 0) (old new : Option (List ℕ)) (ls : List Line) (e : VerifyFault) → IsStop core ls e → new ≡ appended old (joined (texts_after core ls)) → LinesStop (IsVerifyAnswer core) sink old new (verify_stop e)
  stop_ends sink old new ls fault.GoalLimit h out = (refused_ends old new ls GoalLimit out (limit_told ls h), tt)
  stop_ends sink old new ls (fault.FormOverflow goal) (ahead, taken, breaks) out =
      (refused_ends old new ls (FormOverflow goal) out (told_by ls goal ahead Overflows (refused (FormOverflow goal)) taken breaks refl), tt)
  stop_ends sink old new ls (fault.PivotLimit goal) (g, r, e, a, bases) out =
      (refused_ends old new ls (PivotLimit goal) out (told_at ls g (refused (PivotLimit goal)) r AtLimit a (ap (λ k. refused (PivotLimit k)) e)), tt)
  stop_ends sink old new ls (fault.PivotOverflow goal pivots row col) (g, r, e, a) out = (
    refused_ends old new ls (ProverOverflow goal pivots row col) out
        (told_at ls g (refused (ProverOverflow goal pivots row col)) r (Unfit pivots row col) a (ap (λ k. refused (ProverOverflow k pivots row col)) e)),
    tt,
  )
  stop_ends sink old new ls (fault.HeightLimit goal agent atom) (g, xs, r, e, a, first) out = (
    refused_ends old new ls (HeightLimit goal agent atom) out
        (told_at ls g (refused (HeightLimit goal agent atom)) r (SolvedBy xs) a (high agent atom first (ap (λ k. refused (HeightLimit k agent atom)) e))),
    tt,
  )
  stop_ends sink old new ls fault.WriteFault h out = absurd h
  stop_ends sink old new ls fault.Memory h out = absurd h

  -- ---- lines with which a report begins go on to an answer

  abbrev GoesOn : List Line → Type 0
  GoesOn ls = (b : Answer) × IsVerifyAnswer core (after_text (joined (texts_after core ls)) b)

  goes_on : (ls : List Line) (n : ℕ) (ahead : List Event) → TakeFirst core ls n ahead → GoesOn ls
  goes_on ls n ahead taken =
      let r = some_rest core n ahead (took_first core ls n ahead taken).stands in
      let front = joined (texts_after core ls) in
      let more = joined (map line_text r.lines) in
      let all = taken_on core 0 (events_of core) ls n ahead r.lines r.goals r.later taken r.taken in
      let told = told_by (ls ++ r.lines) r.goals r.later (next_goal r.later r.goals) r.answer all refl r.closes in
      let same = ap (λ xs. xs ++ r.answer.text) (texts_on ls r.lines) ∙ append_assoc front more r.answer.text in
      (after_text more r.answer, subst (IsVerifyAnswer core) (answer_text (joined (texts_after core (ls ++ r.lines)) ++ r.answer.text) (front ++ (more ++ r.answer.text)) r.answer.status same) told)

  -- a line more, which may cover too many goals
  goes_past : (ls : List Line) (n : ℕ) (ahead : List Event) (l : Line) → TakeFirst core ls n ahead → IsTaken core n ahead l → GoesOn (ls ++ l ∷ [])
  goes_past ls n ahead l taken c =
      let x = line_leads core n ahead l c (took_first core ls n ahead taken).stands in
      elim (cases_lt goal_limit (n + x.count)) [
        | inl past ↦ (
          refused GoalLimit,
          told_past (ls ++ l ∷ []) (record {
            before = ls;
            last = l;
            split = refl;
            number = n;
            ahead = ahead;
            taken = taken;
            covers = c;
            goals = n + x.count;
            later = x.ahead;
            leads = x.leads;
            too_many = past;
          }),
        )
        | inr few ↦ goes_on (ls ++ l ∷ []) (n + x.count) x.ahead
            (taken_on core 0 (events_of core) ls n ahead (l ∷ []) (n + x.count) x.ahead taken (c, n + x.count, x.ahead, x.leads, few, (refl, refl)))
      ]

  first_out : (texts : List (List ℕ)) (ls : List Line) → texts ≡ texts_after core ls → GoesOn ls → IsOut (IsVerifyAnswer core) (joined texts)
  first_out texts ls e next =
      subst (λ ts. IsOut (IsVerifyAnswer core) (joined ts)) (sym e) (first_lines (after_text (joined (texts_after core ls)) next.0) next.1 (after_all ls) next.0.text refl)

  started : (texts : List (List ℕ)) → Begins core texts → IsOut (IsVerifyAnswer core) (joined texts)
  started texts (none e) = nothing (ap joined e)
  started texts (begun ls n ahead taken e) = first_out texts ls e (goes_on ls n ahead taken)
  started texts (covered ls n ahead l taken c e) = first_out texts (ls ++ l ∷ []) e (goes_past ls n ahead l taken c)

  front_more : (old new : Option (List ℕ)) (xs ys : List ℕ) → FrontIsOut old new xs → FrontIsOut old new (xs ++ ys)
  front_more old new xs ys f = record {
    count = f.count;
    within = omega (arith, f.within, length-append xs ys);
    out = f.out ∙ ap (appended old) (sym (take-append-le f.count xs ys f.within));
  }

  front_on : (old new : Option (List ℕ)) (texts : List (List ℕ)) (ls : List Line) → texts ≡ texts_after core ls → GoesOn ls → FrontIsOut old new (joined texts) → WroteFront old new (IsVerifyAnswer core)
  front_on old new texts ls e next f = record {
    answer = after_text (joined (texts_after core ls)) next.0;
    is = next.1;
    front = front_more old new (joined (texts_after core ls)) next.0.text (subst (λ ts. FrontIsOut old new (joined ts)) e f);
  }

  front_of : (old new : Option (List ℕ)) (texts : List (List ℕ)) → AreRight core texts → FrontIsOut old new (joined texts) → WroteFront old new (IsVerifyAnswer core)
  front_of old new texts (part (none e)) f =
      let next = goes_on [] 0 (events_of core) (refl, refl) in
      let text = joined (texts_after core []) ++ next.0.text in
      record {
        answer = after_text (joined (texts_after core [])) next.0;
        is = next.1;
        front = front_more old new [] text (subst (λ ts. FrontIsOut old new (joined ts)) e f);
      }
  front_of old new texts (part (begun ls n ahead taken e)) f = front_on old new texts ls e (goes_on ls n ahead taken) f
  front_of old new texts (part (covered ls n ahead l taken c e)) f = front_on old new texts (ls ++ l ∷ []) e (goes_past ls n ahead l taken c) f
  front_of old new texts (whole ls d is e) f = record {
    answer = after_text (joined (texts_after core ls)) (closing_answer d);
    is = decides ls d is;
    front = subst (FrontIsOut old new) (ap joined e ∙ text_behind (texts_after core ls) (closing_text d)) f;
  }

  pub fault_stops : (sink : Type 0) (old new : Option (List ℕ)) (e : VerifyFault) → FaultIs core old new e → (e ≡ fault.WriteFault → sink) → LinesStop (IsVerifyAnswer core) sink old new (verify_stop e)
  fault_stops sink old new fault.GoalLimit h rose = stop_ends sink old new h.0 fault.GoalLimit h.1 h.2
  fault_stops sink old new (fault.FormOverflow goal) h rose = stop_ends sink old new h.0 (fault.FormOverflow goal) h.1 h.2
  fault_stops sink old new (fault.PivotLimit goal) h rose = stop_ends sink old new h.0 (fault.PivotLimit goal) h.1 h.2
  fault_stops sink old new (fault.PivotOverflow goal pivots row col) h rose = stop_ends sink old new h.0 (fault.PivotOverflow goal pivots row col) h.1 h.2
  fault_stops sink old new (fault.HeightLimit goal agent atom) h rose = stop_ends sink old new h.0 (fault.HeightLimit goal agent atom) h.1 h.2
  fault_stops sink old new fault.WriteFault h rose = (front_of old new h.0 h.1 h.2, rose refl)
  fault_stops sink old new fault.Memory h rose = record { out = joined h.0; told = h.2; is = started h.0 h.1 }
