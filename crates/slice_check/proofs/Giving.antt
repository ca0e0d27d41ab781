-- The goals that a stream gives, and those that it passes over.
use Rattle.std.proofs.Common.{◌≡◌, ◌∙◌, ◌<◌, ◌+◌, ℕ, zero, suc, List, [], ◌∷◌, take, drop, ap, sym, subst, refl, arith}
use Rattle.std.specs.List.{Contains}
use Rattle.std.specs.Prelude.{ℤ, ⊤, Option, Some, None, MatchOption, is_some, if◌then◌else◌}
use Rattle.std.proofs.lemmas.List.Elements.{All-cons}
use Rattle.slice_num.specs.declared.choice.Choice.{Choice}
use Rattle.slice_core.specs.Cores.{core_of}
use Rattle.slice_core.specs.Tree.{Core}
use Rattle.slice_linear.specs.Rows.{LinearRow, width}
use Rattle.slice_paths.specs.Coming.{AnswersCome, SaysOf, coming_of}
use Rattle.slice_paths.specs.Events.{NextGoal, Gives, NoMore, next_goal}
use Rattle.slice_paths.specs.Fronts.{ShareFirst, Shares, cover_rows, events_after, front_of}
use Rattle.slice_paths.specs.FrontLaws.{CoversAreFronts}
use Rattle.slice_paths.specs.Goals.{Goal, goals}
use Rattle.slice_paths.specs.RunLaws.{RowsAreOverUnknowns}
use Rattle.slice_paths.specs.Streams.{Stream, TellsRest, IsGivenLast}
use Rattle.slice_paths.specs.Told.{IsNextGoal}
use Rattle.slice_check.specs.Faults.{CoverSays}
use Rattle.slice_check.specs.Steps.{AreTooMany, IsCovered, IsNext, IsPassedOver}
use Rattle.slice_check.specs.Verdicts.{HaveOneWidth, IsVerdict}
use Rattle.slice_check.specs.declared.verdict.Verdict.{Verdict}
use Rattle.slice_check.specs.declared.verdict.Verdict.TheVariants.{Yes}
use Rattle.slice_check.proofs.RowsAt.{one_width}

-- ---- the next goal
pub contains_dropped : (n : ℕ) (xs : List Goal) (x : Goal) (rest : List Goal) → drop n xs ≡ x ∷ rest → Contains xs x
contains_dropped zero xs x rest e = subst (λ (ys : List Goal). Contains ys x) (sym e) (0, omega arith, refl)
contains_dropped (suc n) [] x rest e = absurd cc
contains_dropped (suc n) (y ∷ xs) x rest e = let h = contains_dropped n xs x rest e in (suc h.0, omega (arith, h.1), h.2)

pub next_is : (s t : Stream) (g : Goal) → AnswersCome → RowsAreOverUnknowns → next_goal s.ahead s.given ≡ Gives g t.ahead → t.given ≡ s.given + 1 → t.core ≡ s.core → TellsRest t → IsGivenLast t g → IsNext s g t
next_is s t g answers over e n c r l =
    let says = subst (λ (x : NextGoal). SaysOf x (coming_of s.ahead s.given)) e (answers s.ahead s.given) in
    record {
      comes = e;
      number = says.2;
      last = l;
      went = record { same_core = c; more = omega (arith, n); few = omega (arith, n, says.2, says.3); rest = r };
      few = says.3;
      rows = one_width g.rows _ (over (core_of t.core) g (contains_dropped g.number (goals (core_of t.core)) g _ l.stands));
    }

pub next_or_none : (s t : Stream) (o : Option Goal) → AnswersCome → RowsAreOverUnknowns → IsNextGoal o t.ahead (next_goal s.ahead s.given) → t.given ≡ s.given + (if is_some o then 1 else 0) → t.core ≡ s.core
    → TellsRest t × MatchOption o ⊤ (λ (g : Goal). IsGivenLast t g) → MatchOption o ((next_goal s.ahead s.given ≡ NoMore) × (t.given ≡ s.given)) (λ (g : Goal). IsNext s g t)
next_or_none s t None answers over e n c r = (e, omega (arith, n))
next_or_none s t (Some g) answers over e n c r = next_is s t g answers over e n c r.0 r.1

-- ---- goals that share their first passed choices
share_more : (core : Core) (passed : ℕ) (trace : List Choice) (g : Goal) (gs : List Goal) (n : ℕ) → Shares core passed trace g → ShareFirst core passed trace gs n → ShareFirst core passed trace (g ∷ gs) (n + 1)
share_more core passed trace g gs n s h =
    let one : suc n ≡ n + 1 = omega arith in
    subst (ShareFirst core passed trace (g ∷ gs)) one (omega (arith, h.0), All-cons (Shares core passed trace) g (take n gs) s h.1, h.2)

-- those after the goal given last, and it
pub share_with : (s : Stream) (g : Goal) (passed n : ℕ) → IsGivenLast s g → ShareFirst (core_of s.core) passed s.last (drop s.given (goals (core_of s.core))) n
    → ShareFirst (core_of s.core) passed g.trace (drop g.number (goals (core_of s.core))) (n + 1)
share_with s g passed n l h =
    let core = core_of s.core in
    subst (λ (gs : List Goal). ShareFirst core passed g.trace gs (n + 1)) (sym l.stands)
    (share_more core passed g.trace g (drop s.given (goals core)) n refl (subst (λ (cs : List Choice). ShareFirst core passed cs (drop s.given (goals core)) n) l.last h))

pub passed_over : (s t : Stream) (g : Goal) (passed n : ℕ) → IsGivenLast s g → ShareFirst (core_of s.core) passed s.last (drop s.given (goals (core_of s.core))) n → t.given ≡ s.given + n
    → t.ahead ≡ events_after (core_of s.core) passed s.last → IsPassedOver s g passed t
passed_over s t g passed n l h e a = record {
  count = n + 1;
  share = share_with s g passed n l h;
  given = omega (arith, e, l.number);
  ahead = a ∙ ap (events_after (core_of s.core) passed) l.last;
}

pub too_many : (s : Stream) (g : Goal) (passed n : ℕ) → IsGivenLast s g → ShareFirst (core_of s.core) passed s.last (drop s.given (goals (core_of s.core))) n → 1000000 < s.given + n → AreTooMany (core_of s.core) g passed
too_many s g passed n l h lt = (n + 1, share_with s g passed n l h, omega (arith, lt, l.number))

-- ---- covers
pub cover_width : (core : Core) (passed : ℕ) (trace : List Choice) (rows : List LinearRow) → CoversAreFronts → cover_rows core passed trace ≡ Some rows → HaveOneWidth rows
cover_width core passed trace rows law e = one_width rows (width rows) (law core passed trace rows e).5

pub cover_has : (core : Core) (passed : ℕ) (trace : List Choice) (rows : List LinearRow) → CoversAreFronts → cover_rows core passed trace ≡ Some rows → front_of passed core.tree trace ≡ None → ⊥
cover_has core passed trace rows law e none = let is = (law core passed trace rows e).2 in cc

-- the rows of the goal given last
pub cover_last : (s : Stream) (g : Goal) (passed : ℕ) (o : Option (List LinearRow)) → IsGivenLast s g → cover_rows (core_of s.core) passed s.last ≡ o → cover_rows (core_of s.core) passed g.trace ≡ o
cover_last s g passed o l e = ap (cover_rows (core_of s.core) passed) (sym l.last) ∙ e

pub cover_says : (s : Stream) (g : Goal) (passed : ℕ) (rows : List LinearRow) (m : List ℤ) (v : Verdict) → IsGivenLast s g → cover_rows (core_of s.core) passed s.last ≡ Some rows → IsVerdict rows m v
    → CoverSays (cover_rows (core_of s.core) passed g.trace) m v
cover_says s g passed rows m v l e h = subst (λ (o : Option (List LinearRow)). CoverSays o m v) (sym (cover_last s g passed (Some rows) l e)) h

pub covered : (s t : Stream) (g : Goal) (passed : ℕ) (rows : List LinearRow) (m : List ℤ) → IsGivenLast s g → cover_rows (core_of s.core) passed s.last ≡ Some rows → IsVerdict rows m Yes → IsPassedOver s g passed t → IsCovered s g passed m t
covered s t g passed rows m l e v o = record { rows = rows; are_rows = cover_last s g passed (Some rows) l e; refuted = v; over = o }
