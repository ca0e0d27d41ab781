-- Goals are told line by line.
use Rattle.std.proofs.Common.{◌≡◌, ◌<◌, ◌∙◌, ℕ, suc, ◌+◌, Bool, true, false, List, [], ◌∷◌, ◌++◌, length, take, Option, Result, Ok, Err, ap, sym, subst, refl, arith, append_assoc}
use Rattle.std.specs.Prelude.{nat_lt, if◌then◌else◌, IfOk, IfErr}
use Rattle.std.proofs.Math.Seq.{take-append-add}
use Rattle.std.proofs.lemmas.List.{length-append, take-append-le}
use Rattle.slice_io.specs.Told.{appended, appended-append, FrontIsOut}
use Rattle.serde_json.specs.Written.{compact_text}
use Rattle.slice_json.specs.Texts.{line_of}
use Rattle.slice_paths.specs.Events.{Event, Meets, Breaks, NextGoal, Gives, NoMore, Overflows, OverLimit, next_goal, goal_at, goal_limit}
use Rattle.slice_paths.specs.Told.{IsRefusal}
use Rattle.slice_paths.specs.declared.goal.GoalFault.{GoalFault}
use Rattle.slice_paths.specs.declared.goal.GoalFault.TheVariants as fault
use Rattle.slice_report.specs.GoalReport.{count_json, goal_json}
use Rattle.slice_report.specs.Refusals.{refused_json}
use Rattle.slice_report.specs.declared.refusal.Refusal.TheVariants.{GoalLimit, FormOverflow}
use Rattle.slice_top.proofs.Endings.{appended_nothing}
use Rattle.slice_top.specs.Answers.{Answer, answer_of, one_line, after_line, refused, goals_answer}
use Rattle.slice_top.specs.Goals.{goal_refusal}
use Rattle.slice_top.specs.Reports.{AreLines, none, ended, IsOut, first_lines}
use Rattle.slice_top.specs.Settled.{Wrote, Ends, LinesStop, LineStops}
use Rattle.slice_top.specs.Statuses.{refused_status}
use Rattle.slice_top.specs.Stops.{stop_for}
use Rattle.slice_top.specs.declared.status.Status.{Status}
use Rattle.slice_top.specs.declared.status.Status.TheVariants as status
use Rattle.slice_top.specs.declared.work.Output.{Output}
use Rattle.slice_top.specs.declared.stop.Stop.{Stop}
use Rattle.slice_top.specs.declared.stop.Stop.TheVariants as stop

-- ---- what the next goal says of the answer

-- the answer, from what a stream gives next after so many goals
abbrev told_next : NextGoal → ℕ → Answer
told_next (Gives g rest) given = after_line (goal_json g) (goals_answer rest (given + 1))
told_next NoMore given = one_line (count_json given) status.Good
told_next Overflows given = refused (FormOverflow given)
told_next OverLimit given = refused GoalLimit

answer_next : (es : List Event) (given : ℕ) → goals_answer es given ≡ told_next (next_goal es given) given
answer_next [] given = refl
answer_next (Breaks ∷ es) given = refl
answer_next (Meets t ∷ es) given = by (nat_lt given goal_limit) t.fit
  where
    by : (low fit : Bool)
        → (if low then (if fit then after_line (goal_json (goal_at given t)) (goals_answer es (given + 1)) else refused (FormOverflow given)) else refused GoalLimit)
        ≡ told_next (if low then (if fit then Gives (goal_at given t) es else Overflows) else OverLimit) given
    by true true = refl
    by true false = refl
    by false fit = refl

-- a goal that is given is ahead no more
pub fewer_ahead : (es : List Event) (given : ℕ) (g : _) (rest : List Event) → next_goal es given ≡ Gives g rest → length rest < length es
fewer_ahead [] given g rest e = absurd cc
fewer_ahead (Breaks ∷ es) given g rest e = absurd cc
fewer_ahead (Meets t ∷ es) given g rest e = by (nat_lt given goal_limit) t.fit e
  where
    by : (low fit : Bool) → (if low then (if fit then Gives (goal_at given t) es else Overflows) else OverLimit) ≡ Gives g rest → length rest < length (Meets t ∷ es)
    by true true e =
        let same : es ≡ rest = cc in
        let longer : length (Meets t ∷ es) ≡ suc (length es) = refl in
        omega (arith, ap length same, longer)
    by true false e = absurd cc
    by false fit e = absurd cc

-- ---- lines

line_ended : (out line : List ℕ) → AreLines (out ++ (line ++ 10 ∷ []))
line_ended out line = ended (out ++ line) (sym (append_assoc out line (10 ∷ [])))

-- what was written goes on to the answer, of which this is still to be told
pub record Continues (whole : Answer) (es : List Event) (given : ℕ) (out : List ℕ) : Type 0 where
  pub are : AreLines out
  pub text : whole.text ≡ out ++ (goals_answer es given).text
  pub status : whole.status ≡ (goals_answer es given).status

module _ (whole : Answer) (before : Option (List ℕ)) where
  pub begun : (es : List Event) → whole ≡ goals_answer es 0 → Wrote before before (Continues whole es 0)
  begun es e = record { out = []; told = appended_nothing before; is = record { are = none refl; text = ap (λ a. a.text) e; status = ap (λ a. a.status) e } }

  -- a goal's line was written
  pub went_on : (mid after : Option (List ℕ)) (es rest : List Event) (given : ℕ) (g : _) → Wrote before mid (Continues whole es given) → next_goal es given ≡ Gives g rest
      → after ≡ appended mid (line_of (goal_json g)) → Wrote before after (Continues whole rest (given + 1))
  went_on mid after es rest given g w e put =
      let line = line_of (goal_json g) in
      let is : goals_answer es given ≡ after_line (goal_json g) (goals_answer rest (given + 1)) = answer_next es given ∙ ap (λ n. told_next n given) e in
      record {
        out = w.out ++ line;
        told = put ∙ ap (λ m. appended m line) w.told ∙ appended-append before w.out line;
        is = record {
          are = line_ended w.out (compact_text (goal_json g));
          text = w.is.text ∙ ap (λ a. w.out ++ a.text) is ∙ sym (append_assoc w.out line (goals_answer rest (given + 1)).text);
          status = w.is.status ∙ ap (λ a. a.status) is;
        };
      }

  -- the last line is still to be written
  ended_so : (after : Option (List ℕ)) (es : List Event) (given : ℕ) (line : List ℕ) (s : Status) → Wrote before after (Continues whole es given) → goals_answer es given ≡ answer_of line s
      → Ends (λ a. a ≡ whole) before after line s
  ended_so after es given line s w e = record {
    out = w.out;
    told = w.told;
    is = (w.is.are, λ i. record { text = sym (w.is.text ∙ ap (λ a. w.out ++ a.text) e) i; status = sym (w.is.status ∙ ap (λ a. a.status) e) i });
  }

  pub ended_all : (after : Option (List ℕ)) (es : List Event) (given : ℕ) (bytes : List ℕ) (s : Status) → Wrote before after (Continues whole es given) → next_goal es given ≡ NoMore
      → bytes ≡ line_of (count_json given) → s ≡ status.Good → Ends (λ a. a ≡ whole) before after bytes s
  ended_all after es given bytes s w e line good =
      ended_so after es given bytes s w (answer_next es given ∙ ap (λ n. told_next n given) e ∙ (λ i. answer_of (sym line i) (sym good i)))

  -- memory was wanted
  starved_so : (after : Option (List ℕ)) (es : List Event) (given : ℕ) → Wrote before after (Continues whole es given) → Wrote before after (IsOut (λ a. a ≡ whole))
  starved_so after es given w = record { out = w.out; told = w.told; is = first_lines whole refl w.is.are (goals_answer es given).text w.is.text }

  -- no goal is given
  pub stopped_so : (sink : Type 0) (after : Option (List ℕ)) (es : List Event) (given : ℕ) (f : GoalFault) → Wrote before after (Continues whole es given) → IsRefusal f given (next_goal es given)
      → LinesStop (λ a. a ≡ whole) sink before after (stop_for (goal_refusal f))
  stopped_so sink after es given fault.GoalLimit w e =
      (ended_so after es given (line_of (refused_json GoalLimit)) (refused_status GoalLimit) w (answer_next es given ∙ ap (λ n. told_next n given) e), tt)
  stopped_so sink after es given (fault.Overflow goal) w e = (
    ended_so after es given (line_of (refused_json (FormOverflow goal))) (refused_status (FormOverflow goal)) w
        (answer_next es given ∙ ap (λ n. told_next n given) e.0 ∙ ap (λ n. refused (FormOverflow n)) (sym e.1)),
    tt,
  )
  stopped_so sink after es given fault.Memory w e = starved_so after es given w

  -- a goal's line isn't written
  pub line_stopped : (rose sink : Type 0) → (rose → sink) → (mid after : Option (List ℕ)) (es rest : List Event) (given : ℕ) (g : _) (s : Stop) → Wrote before mid (Continues whole es given) → next_goal es given ≡ Gives g rest
      → LineStops (line_of (goal_json g)) rose mid after s → LinesStop (λ a. a ≡ whole) sink before after s
  line_stopped rose sink up mid after es rest given g (stop.Refused r) w e h = absurd h
  line_stopped rose sink up mid after es rest given g (stop.Unread file) w e h = absurd h
  line_stopped rose sink up mid after es rest given g stop.Memory w e h = starved_so after es given (record { out = w.out; told = h ∙ w.told; is = w.is })
  line_stopped rose sink up mid after es rest given g stop.Unwritten w e h =
      let line = line_of (goal_json g) in
      let later = (goals_answer rest (given + 1)).text in
      let is : whole.text ≡ w.out ++ (line ++ later) = w.is.text ∙ ap (λ a. w.out ++ a.text) (answer_next es given ∙ ap (λ n. told_next n given) e) in
      (record { answer = whole; is = refl; front = front_in mid after line later w.out w.told is h.0 }, up h.1)
    where
      front_in : (mid after : Option (List ℕ)) (line later out : List ℕ) → mid ≡ appended before out → whole.text ≡ out ++ (line ++ later) → FrontIsOut mid after line → FrontIsOut before after whole.text
      front_in mid after line later out told is f = record {
        count = length out + f.count;
        within = let size = ap length is ∙ length-append out (line ++ later) ∙ ap (λ n. length out + n) (length-append line later) in omega (arith, f.within, size);
        out = f.out ∙ ap (λ m. appended m (take f.count line)) told ∙ appended-append before out (take f.count line)
            ∙ ap (λ xs. appended before (out ++ xs)) (sym (take-append-le f.count line later f.within)) ∙ ap (appended before) (sym (take-append-add out (line ++ later) f.count))
            ∙ ap (λ xs. appended before (take (length out + f.count) xs)) (sym is);
      }

  -- ---- the last line, or that memory was wanted

  pub told_all : (after : Option (List ℕ)) (es : List Event) (given count : ℕ) (r : Result Output Stop) → Wrote before after (Continues whole es given) → next_goal es given ≡ NoMore → count ≡ given
      → IfOk r (λ l. l.status ≡ status.Good) → IfOk r (λ l. l.bytes.items ≡ line_of (count_json count)) → IfOk r (λ l. Ends (λ a. a ≡ whole) before after l.bytes.items l.status)
  told_all after es given count (Ok l) w e n good line = ended_all after es given l.bytes.items l.status w e (line ∙ ap (λ k. line_of (count_json k)) n) good
  told_all after es given count (Err s) w e n good line = tt

  pub starved_all : (sink : Type 0) (after : Option (List ℕ)) (es : List Event) (given : ℕ) (r : Result Output Stop) → Wrote before after (Continues whole es given) → IfErr r (λ s. s ≡ stop.Memory)
      → IfErr r (λ s. LinesStop (λ a. a ≡ whole) sink before after s)
  starved_all sink after es given (Ok l) w e = tt
  starved_all sink after es given (Err s) w e = subst (λ s. LinesStop (λ a. a ≡ whole) sink before after s) (sym e) (starved_so after es given w)
