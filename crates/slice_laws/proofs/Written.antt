-- What the lines say that `verify` wrote.
use Rattle.std.proofs.Common.{◌≡◌, ◌∙◌, ℕ, ◌+◌, inl, sym, ap, subst, List, [], ◌∷◌, ◌++◌, take, drop, get_or}
use Rattle.std.specs.List.{All, Contains}
use Rattle.std.proofs.Math.Seq.{take-add}
use Rattle.std.proofs.lemmas.List.{drop-drop}
use Rattle.std.proofs.lemmas.List.Elements.{All-nil, All-cons, All-append, All-same, All-take, All-drop, All-contains_itself}
use Rattle.slice_core.specs.Tree.{Core}
use Rattle.slice_linear.proofs.Motzkin.{refuted_rows_have_no_solution}
use Rattle.slice_paths.specs.Events.{Event, events_of}
use Rattle.slice_paths.specs.Goals.{Goal, goals}
use Rattle.slice_paths.specs.RunLaws.{IsRefuted}
use Rattle.slice_paths.proofs.FrontLaws.{covers_are_fronts}
use Rattle.slice_paths.proofs.GoalCovers.{goals_have_covers}
use Rattle.slice_cert.specs.declared.line.Line.{Line}
use Rattle.slice_cert.specs.declared.line.Line.TheVariants.{Header, Refutation, Cover, Closing}
use Rattle.slice_check.specs.Certificate.{Takes}
use Rattle.slice_verify.specs.Report.{AreTaken}
use Rattle.slice_check.proofs.Covers.{shared_refuted}
use Rattle.slice_top.proofs.Taking.{Stands, all_taken, comes, leads_one, line_leads, stands_first, stands_next, took_first}
use Rattle.slice_laws.specs.Written.{LinesRefuteGoals, LinesTakeAll, ReachedGoalsFollow, TakeUpTo}

-- ---- a line

-- the goals of a part of the list
part_of : (core : Core) (n count : ℕ) → All (Contains (goals core)) (take count (drop n (goals core)))
part_of core n count = All-take (Contains (goals core)) count (drop n (goals core)) (All-drop (Contains (goals core)) n (goals core) (All-contains_itself (goals core)))

line_refutes : (core : Core) (n count : ℕ) (line : Line) → Takes core 2 n (drop n (goals core)) line count → All (IsRefuted core) (take count (drop n (goals core)))
line_refutes core n count line t = by line (drop n (goals core)) (part_of core n count) t
  where
    by : (l : Line) (gs : List Goal) → All (Contains (goals core)) (take count gs) → Takes core 2 n gs l count → All (IsRefuted core) (take count gs)
    by (Header version protocol agents) gs h t = absurd t
    by (Closing total) gs h t = absurd t
    by (Refutation goal m) [] h t = absurd t.2
    by (Refutation goal m) (g ∷ gs) h t =
        let one : IsRefuted core g = inl (refuted_rows_have_no_solution g.rows m t.2) in
        All-same (IsRefuted core) (take count (g ∷ gs)) (g ∷ []) (ap (λ (k : ℕ). take k (g ∷ gs)) t.1) (All-cons (IsRefuted core) g [] one (All-nil (IsRefuted core)))
    by (Cover goal passed m) [] h t = absurd t.2
    by (Cover goal passed m) (g ∷ gs) h t =
        let c = t.2 in
        λ i d lt. shared_refuted covers_are_fronts goals_have_covers core passed g.trace c.0 m c.1 c.2 (get_or (take count (g ∷ gs)) i d) (h i d lt) (c.3.1 i d lt)

-- ---- lines
lines_take : (core : Core) (n : ℕ) (ahead : List Event) (ls : List Line) (m : ℕ) (later : List Event) → Stands core n ahead → AreTaken core n ahead ls m later → TakeUpTo core n (drop n (goals core)) ls m
lines_take core n ahead [] m later s h = h.0
lines_take core n ahead (l ∷ ls) m later s h =
    let gs : List Goal = goals core in
    let x = line_leads core n ahead l h.0 s in
    let same = leads_one core n h.0.goal h.0.later l (n + x.count) h.1 x.ahead h.2 x.leads h.3 in
    let left : drop h.1 gs ≡ drop x.count (drop n gs) = ap (λ (k : ℕ). drop k gs) (sym same.0) ∙ sym (drop-drop x.count n gs) in
    let rest = lines_take core h.1 h.2 ls m later (stands_next core n ahead l h.0 h.1 h.2 s h.3) h.5 in
    (x.count, x.within, x.takes, subst (λ (k : ℕ). TakeUpTo core k (drop x.count (drop n gs)) ls m) (sym same.0) (subst (λ (hs : List Goal). TakeUpTo core h.1 hs ls m) left rest))

lines_refute : (core : Core) (n : ℕ) (ls : List Line) (m : ℕ) → TakeUpTo core n (drop n (goals core)) ls m → All (IsRefuted core) (take n (goals core)) → All (IsRefuted core) (take m (goals core))
lines_refute core n [] m t h = subst (λ (k : ℕ). All (IsRefuted core) (take k (goals core))) (sym t) h
lines_refute core n (l ∷ ls) m t h =
    let gs : List Goal = goals core in
    let more = All-same (IsRefuted core) (take (n + t.0) gs) (take n gs ++ take t.0 (drop n gs)) (take-add n t.0 gs) (All-append (IsRefuted core) (take n gs) (take t.0 (drop n gs)) h (line_refutes core n t.0 l t.2)) in
    lines_refute core (n + t.0) ls m (subst (λ (hs : List Goal). TakeUpTo core (n + t.0) hs ls m) (drop-drop t.0 n gs) t.3) more

pub lines_refute_goals : LinesRefuteGoals
lines_refute_goals core ls n ahead t =
    let takes = lines_take core 0 (events_of core) ls n ahead (stands_first core) t in
    (takes, lines_refute core 0 ls n takes (All-nil (IsRefuted core)))

-- ---- what comes next
pub reached_goals_follow : ReachedGoalsFollow
reached_goals_follow core ls g r =
    let next = (comes core g.number r.ahead g r.later (took_first core ls g.number r.ahead r.taken).stands r.comes).first in
    (next.rest, next.are)

pub lines_take_all : LinesTakeAll
lines_take_all core ls n ahead t none_ = (all_taken core ls n ahead t none_).1
