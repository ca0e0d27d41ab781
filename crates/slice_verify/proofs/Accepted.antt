-- The lines of a report that closes without envy are a certificate.
use Rattle.std.proofs.Common.{◌≡◌, ◌∙◌, ℕ, ◌≤◌, arith, sym, ap, subst, Bool, true, false, List, [], ◌∷◌, ◌++◌, length, drop, Option, append-nil}
use Rattle.std.specs.Prelude.{nat_lt, if◌then◌else◌}
use Rattle.std.specs.List.{All}
use Rattle.std.proofs.lemmas.List.{length-drop}
use Rattle.std.proofs.lemmas.List.Elements.{All-nil}
use Rattle.slice_num.specs.Pieces.{joined}
use Rattle.slice_io.specs.Told.{appended}
use Rattle.slice_core.specs.Cores.{core_of}
use Rattle.slice_core.specs.Tree.{Core}
use Rattle.slice_core.specs.WellFormed.{IsWellFormed}
use Rattle.slice_paths.specs.Events.{Event, Meets, Breaks, Gives, NoMore, Overflows, OverLimit, Tell, goal_at, goal_limit, next_goal}
use Rattle.slice_paths.specs.Goals.{Goal, goals}
use Rattle.slice_paths.specs.RunLaws.{IsRefuted}
use Rattle.slice_paths.specs.Streams.{Stream}
use Rattle.slice_cert.specs.declared.line.Line.TheVariants.{Closing}
use Rattle.slice_cert.specs.CertLines.{line_text}
use Rattle.slice_check.specs.Certificate.{TakeInOrder}
use Rattle.slice_check.specs.Upgrading.{ReadsBack}
use Rattle.slice_check.proofs.Certified.{certified}
use Rattle.slice_check.proofs.LinesOut.{one_more_out, texts_more}
use Rattle.slice_verify.specs.Report.{IsAccepted, texts_after}
use Rattle.slice_verify.specs.Working.{GoesOn, NoneComes}
use Rattle.slice_verify.specs.declared.verifier.Decision.TheVariants.{EnvyFree}
use Rattle.slice_verify.proofs.Standing.{Standing}

-- ---- all goals
none_left : (ahead : List Event) (gs : List Goal) (n : ℕ) → Tell ahead gs n → next_goal ahead n ≡ NoMore → gs ≡ []
none_left [] gs n t e = t
none_left (Breaks ∷ es) gs n t e = absurd cc
none_left (Meets f ∷ es) gs n t e = by (nat_lt n goal_limit) f.fit e
  where
    by : (x y : Bool) → (if x then (if y then Gives (goal_at n f) es else Overflows) else OverLimit) ≡ NoMore → gs ≡ []
    by true true h = absurd cc
    by true false h = absurd cc
    by false y h = absurd cc

-- where no goal comes any more, all were given
pub all_given : (core : Core) (s : Stream) → core_of s.core ≡ core → GoesOn s → next_goal s.ahead s.given ≡ NoMore → drop s.given (goals core) ≡ []
all_given core s same g e = none_left s.ahead (drop s.given (goals core)) s.given (subst (λ (c : Core). Tell s.ahead (drop s.given (goals c)) s.given) same g.rest.tells) e

all_counted : (core : Core) (s : Stream) → core_of s.core ≡ core → GoesOn s → drop s.given (goals core) ≡ [] → s.given ≡ length (goals core)
all_counted core s same g e =
    let none_ : length (drop s.given (goals core)) ≡ 0 = ap length e in
    let long = length-drop s.given (goals core) in
    let within : s.given ≤ length (goals core) = subst (λ (c : Core). s.given ≤ length (goals c)) same g.rest.within in
    omega (arith, none_, long, within)

pub all_refuted : (core : Core) (old now : Option (List ℕ)) (s : Stream) → core_of s.core ≡ core → GoesOn s → Standing core old now s.given s.ahead → next_goal s.ahead s.given ≡ NoMore → All (IsRefuted core) (goals core)
all_refuted core old now s same g h e = h.refuted.all (subst (All (IsRefuted core)) (sym (all_given core s same g e)) (All-nil _))

-- ---- the whole report

pub accepted : (core : Core) (old now new : Option (List ℕ)) (s t : Stream) (n : ℕ) → IsWellFormed core → core_of s.core ≡ core → GoesOn s → Standing core old now s.given s.ahead → NoneComes s t → n ≡ t.given → ReadsBack (Closing n)
    → new ≡ appended now (line_text (Closing n)) → IsAccepted core old new (EnvyFree n)
accepted core old now new s t n formed same goes h none_ count back e =
    let left = all_given core s same goes none_.0 in
    let takes = subst (TakeInOrder core 2 0 (goals core)) (append-nil h.lines) (h.refuted.takes [] left) in (
      joined (texts_after core (h.lines ++ Closing n ∷ [])),
      certified core h.lines n formed takes (count ∙ none_.1 ∙ all_counted core s same goes left) h.read h.short back,
      one_more_out old now new (texts_after core h.lines) (line_text (Closing n)) h.out e ∙ ap (λ (ts : List (List ℕ)). appended old (joined ts)) (sym (texts_more core h.lines (Closing n))),
    )
