-- How the work ends, with what stands then.
use Rattle.std.proofs.Common.{◌≡◌, ◌∙◌, ℕ, refl, sym, ap, subst, List, [], ◌∷◌, ◌++◌, inl, inr, ℤ, Option}
use Rattle.std.specs.List.{All}
use Rattle.slice_io.specs.Told.{appended}
use Rattle.slice_num.specs.Valuation.{Valuation, IsValuationList}
use Rattle.slice_num.specs.declared.cut_answer.CutAnswer.{CutAnswer}
use Rattle.slice_core.specs.Cores.{core_of}
use Rattle.slice_core.specs.Tree.{Core}
use Rattle.slice_core.specs.Agents.{HasAgents}
use Rattle.slice_core.specs.Division.{IsFair}
use Rattle.slice_core.specs.Measures.{worth_of, length_of}
use Rattle.slice_core.specs.Run.{run_core}
use Rattle.slice_core.proofs.MeasureLaws.{share_values_are_measures}
use Rattle.slice_paths.specs.Events.{Event, Overflows, events_of, next_goal}
use Rattle.slice_paths.specs.Goals.{Goal, goals}
use Rattle.slice_paths.specs.RunLaws.{IsRefuted, RefutedOnTheWayMeansFair}
use Rattle.slice_paths.specs.Streams.{Stream}
use Rattle.slice_paths.specs.Told.{IsRefusal}
use Rattle.slice_paths.specs.declared.goal.GoalFault.{GoalFault}
use Rattle.slice_paths.specs.declared.goal.GoalFault.TheVariants as goal_fault
use Rattle.slice_simplex.specs.ProverAnswer.{IsProverAnswer, SolvedBy}
use Rattle.slice_cert.specs.declared.line.Line.{Line}
use Rattle.slice_cert.specs.declared.line.Line.TheVariants.{Header}
use Rattle.slice_cert.specs.CertLines.{line_text}
use Rattle.slice_check.proofs.LinesOut.{nothing_out, one_more_out, front_out, texts_more}
use Rattle.slice_counter.specs.declared.counter.Counterexample.{Counterexample}
use Rattle.slice_check.specs.Upgrades.{AreOut}
use Rattle.slice_verify.specs.Report.{IsTaken, TakeFirst, IsReached, IsCounterOf, IsDecision, texts_after, report_texts, closing_text, DecisionIs, Begins, none, begun, covered, part, whole, FaultIs, pivot_limit}
use Rattle.slice_verify.specs.Working.{IsNextOf, NoneComes, GoalStops, LineIsOut, LineStops, goal_line, stop_at}
use Rattle.slice_verify.specs.declared.verifier.Decision.{Decision}
use Rattle.slice_verify.specs.declared.verifier.Decision.TheVariants.{EnvyFree, Found}
use Rattle.slice_verify.specs.declared.verifier.VerifyFault.{VerifyFault}
use Rattle.slice_verify.specs.declared.verifier.VerifyFault.TheVariants.{GoalLimit, FormOverflow, PivotLimit, PivotOverflow, HeightLimit, WriteFault, Memory}
use Rattle.slice_verify.proofs.Standing.{Standing, reached}
use Rattle.slice_verify.proofs.Takes.{too_many}

-- ---- decisions

-- no goal comes any more, and nothing keeps one from coming
pub all_decided : (core : Core) (old now : Option (List ℕ)) (s t : Stream) (n : ℕ) (h : Standing core old now s.given s.ahead) → NoneComes s t → n ≡ t.given → IsDecision core h.lines (EnvyFree n)
all_decided core old now s t n h none_ count =
    let same : s.given ≡ n = sym (count ∙ none_.1) in
    subst (λ (k : ℕ). IsDecision core h.lines (EnvyFree k)) same (s.ahead, h.taken, none_.0)

-- the next goal's rows have a solution, which gives a counterexample
pub found_decided : (core : Core) (old now : Option (List ℕ)) (s t : Stream) (g : Goal) (c : Counterexample) (h : Standing core old now s.given s.ahead) → IsNextOf s g t
    → (xs : List ℤ) → IsProverAnswer g.rows pivot_limit (SolvedBy xs) → IsCounterOf core g xs c → IsDecision core h.lines (Found c)
found_decided core old now s t g c h n xs a is = (g, xs, reached core old now s t g h n, a, is)

-- the closing line is out
pub decision_is : (core : Core) (old now new : Option (List ℕ)) (n : ℕ) (ahead : List Event) (d : Decision) (h : Standing core old now n ahead) → IsDecision core h.lines d → new ≡ appended now (closing_text d) → DecisionIs core old new d
decision_is core old now new n ahead d h is out = (h.lines, is, one_more_out old now new (texts_after core h.lines) (closing_text d) h.out out)

-- ---- stops

-- the lines so far are such with which a report begins
begins : (core : Core) (old now : Option (List ℕ)) (n : ℕ) (ahead : List Event) (h : Standing core old now n ahead) → Begins core (texts_after core h.lines)
begins core old now n ahead h = begun h.lines n ahead h.taken refl

-- the closing line isn't out
pub close_stops : (core : Core) (old now new : Option (List ℕ)) (n : ℕ) (ahead : List Event) (d : Decision) (e : VerifyFault) (h : Standing core old now n ahead) → IsDecision core h.lines d → LineStops now new (closing_text d) e → FaultIs core old new e
close_stops core old now new n ahead d GoalLimit h is x = absurd x
close_stops core old now new n ahead d (FormOverflow k) h is x = absurd x
close_stops core old now new n ahead d (PivotLimit k) h is x = absurd x
close_stops core old now new n ahead d (PivotOverflow k p i j) h is x = absurd x
close_stops core old now new n ahead d (HeightLimit k a b) h is x = absurd x
close_stops core old now new n ahead d WriteFault h is x = (report_texts core h.lines d, whole h.lines d is refl, front_out old now new (texts_after core h.lines) (closing_text d) h.out x)
close_stops core old now new n ahead d Memory h is x = (texts_after core h.lines, begins core old now n ahead h, x ∙ h.out)

-- the first line isn't out
pub header_stops : (core : Core) (old new : Option (List ℕ)) (e : VerifyFault) → LineStops old new (line_text (Header 2 core.name core.agents)) e → FaultIs core old new e
header_stops core old new GoalLimit h = absurd h
header_stops core old new (FormOverflow k) h = absurd h
header_stops core old new (PivotLimit k) h = absurd h
header_stops core old new (PivotOverflow k p i j) h = absurd h
header_stops core old new (HeightLimit k a b) h = absurd h
header_stops core old new WriteFault h =
    (texts_after core [], part (begun [] 0 (events_of core) (refl, refl) refl), front_out old old new [] (line_text (Header 2 core.name core.agents)) (nothing_out old) h)
header_stops core old new Memory h = ([], none refl, h ∙ nothing_out old)

-- nothing is out
pub nothing_stops : (core : Core) (old : Option (List ℕ)) → FaultIs core old old Memory
nothing_stops core old = ([], none refl, nothing_out old)

-- no goal can be made any more
pub stream_stops : (core : Core) (old now : Option (List ℕ)) (n : ℕ) (ahead : List Event) (e : GoalFault) → Standing core old now n ahead → IsRefusal e n (next_goal ahead n) → FaultIs core old now (stop_at e)
stream_stops core old now n ahead goal_fault.GoalLimit h r = (h.lines, inl (n, ahead, h.taken, r), h.out)
stream_stops core old now n ahead (goal_fault.Overflow k) h r =
    (h.lines, subst (λ (j : ℕ). (es : List Event) × TakeFirst core h.lines j es × (next_goal es j ≡ Overflows)) (sym r.1) (ahead, h.taken, r.0), h.out)
stream_stops core old now n ahead goal_fault.Memory h r = (texts_after core h.lines, begins core old now n ahead h, h.out)

-- the line of the next goal
abbrev taken_by : (core : Core) (ls : List Line) (g : Goal) (m : List ℤ) (now new : Option (List ℕ)) (r : IsReached core ls g) → LineIsOut core g m now new → IsTaken core g.number r.ahead (goal_line core g m)
taken_by core ls g m now new r o = record { goal = g; later = r.later; comes = r.comes; multipliers = m; refuted = o.0; line = refl }

out_with : (core : Core) (old now new : Option (List ℕ)) (ls : List Line) (g : Goal) (m : List ℤ) → AreOut old now (texts_after core ls) → LineIsOut core g m now new → AreOut old new (texts_after core (ls ++ goal_line core g m ∷ []))
out_with core old now new ls g m out o =
    subst (AreOut old new) (sym (texts_more core ls (goal_line core g m))) (one_more_out old now new (texts_after core ls) (line_text (goal_line core g m)) out o.1)

-- the next goal isn't decided, or its line isn't out, or not all that it takes is passed over
pub goal_stops : (core : Core) (old now new : Option (List ℕ)) (s t : Stream) (g : Goal) (e : VerifyFault) → core_of s.core ≡ core → Standing core old now s.given s.ahead → IsNextOf s g t → GoalStops core g t now new e → FaultIs core old new e
goal_stops core old now new s t g GoalLimit same h n x =
    let r = reached core old now s t g h n in
    let here : core_of t.core ≡ core = ap core_of n.same_core ∙ same in
    let many = too_many core g t x.0 here n.last x.2 in (
      h.lines ++ goal_line core g x.0 ∷ [],
      inr (record {
        before = h.lines;
        last = goal_line core g x.0;
        split = refl;
        number = g.number;
        ahead = s.ahead;
        taken = r.taken;
        covers = taken_by core h.lines g x.0 now new r x.1;
        goals = many.0;
        later = many.1;
        leads = many.2;
        too_many = many.3;
      }),
      out_with core old now new h.lines g x.0 h.out x.1,
    )
goal_stops core old now new s t g (FormOverflow k) same h n x = absurd x
goal_stops core old now new s t g (PivotLimit k) same h n x = (h.lines, (g, reached core old now s t g h n, x.0, x.1, x.2), x.3 ∙ h.out)
goal_stops core old now new s t g (PivotOverflow k p i j) same h n x = (h.lines, (g, reached core old now s t g h n, x.0, x.1), x.2 ∙ h.out)
goal_stops core old now new s t g (HeightLimit k a b) same h n x = (h.lines, (g, x.0, reached core old now s t g h n, x.1, x.2, x.3), x.4 ∙ h.out)
goal_stops core old now new s t g WriteFault same h n x =
    let r = reached core old now s t g h n in
    let l : Line = goal_line core g x.0 in (
      texts_after core h.lines ++ line_text l ∷ [],
      part (covered h.lines g.number s.ahead l r.taken (record { goal = g; later = t.ahead; comes = r.comes; multipliers = x.0; refuted = x.1; line = refl }) (sym (texts_more core h.lines l))),
      front_out old now new (texts_after core h.lines) (line_text l) h.out x.2,
    )
goal_stops core old now new s t g Memory same h n (inl x) = (texts_after core h.lines, begins core old now s.given s.ahead h, x ∙ h.out)
goal_stops core old now new s t g Memory same h n (inr x) =
    let r = reached core old now s t g h n in
    let l : Line = goal_line core g x.0 in
    (texts_after core (h.lines ++ l ∷ []), covered h.lines g.number s.ahead l r.taken (taken_by core h.lines g x.0 now new r x.1) refl, out_with core old now new h.lines g x.0 h.out x.1)

-- ---- runs
pub runs_are_fair : RefutedOnTheWayMeansFair → (core : Core) → HasAgents core.agents core.tree → All (IsRefuted core) (goals core)
    → (vs : List Valuation) → IsValuationList core.agents vs → (ys : List CutAnswer) → IsFair core.agents (worth_of vs) (run_core (worth_of vs) core (length_of vs) ys)
runs_are_fair fair core agents refuted vs list ys = fair core agents refuted (worth_of vs) (length_of vs) ys (share_values_are_measures core.agents vs list)
