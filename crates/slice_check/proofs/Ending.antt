-- What the whole upgrade answers, from where it ends.
use Rattle.std.proofs.Common.{◌≡◌, ◌∙◌, ◌⊎◌, inl, inr, ℕ, zero, suc, arith, refl, sym, subst, List, [], ◌∷◌, ◌++◌, length, map, Option, append-nil}
use Rattle.slice_num.specs.Pieces.{joined}
use Rattle.slice_io.specs.Told.{appended, FrontIsOut}
use Rattle.slice_core.specs.Tree.{Core}
use Rattle.slice_paths.specs.Events.{Event, Gives, NoMore, events_of, next_goal}
use Rattle.slice_paths.specs.Goals.{goals}
use Rattle.slice_cert.specs.declared.line.Line.{Line}
use Rattle.slice_cert.specs.declared.line.Line.TheVariants.{Header, Closing}
use Rattle.slice_cert.specs.CertLines.{line_text}
use Rattle.slice_check.specs.declared.answer.CertAnswer.TheVariants.{Accepted}
use Rattle.slice_check.specs.declared.answer.CertFault.{CertFault}
use Rattle.slice_check.specs.declared.answer.CertFault.TheVariants as cert_fault
use Rattle.slice_check.specs.declared.answer.Stop.{Stop}
use Rattle.slice_check.specs.declared.answer.Stop.TheVariants as stop
use Rattle.slice_check.specs.declared.upgrade.Halt.{Halt}
use Rattle.slice_check.specs.declared.upgrade.Halt.TheVariants as halt
use Rattle.slice_check.specs.declared.upgrade.UpgradeFault.TheVariants.{Cert}
use Rattle.slice_check.specs.Certificate.{AtEnd, SaysLine, Stands}
use Rattle.slice_check.specs.Faults.{IsAnswer}
use Rattle.slice_check.specs.Steps.{ReachedEnd, Stops}
use Rattle.slice_check.specs.Upgrades.{AreOut, AreShortened, AreWritten, BeginsVersion2, IsLast, IsOfVersion2, Shortens, UpgradeFails, UpgradeIs, texts_of}
use Rattle.slice_check.specs.Upgrading.{BeginHalts, CloseHalts, GoalsHalt, IsMoot, IsPut, IsReadTo, LinesHalt, SaysFirst}
use Rattle.slice_check.proofs.LinesOut.{front_behind, front_out, more_out, nothing_out, one_more_out}
use Rattle.slice_check.proofs.NoFurther.{last_at_none}
use Rattle.slice_check.proofs.Upgraded.{one_says}

-- ---- the header

-- a file that begins with a header of version 1 begins with none of version 2
not_second : (core : Core) (file : List ℕ) → SaysLine file 0 (Header 1 core.name core.agents) → BeginsVersion2 file → ⊥
not_second core file says b = let e : 1 ≡ 2 = subst IsOfVersion2 (one_says file 0 b.0 (Header 1 core.name core.agents) b.1 says) b.2 in omega (arith, e)

-- then what stops the checker stops the upgrade
says_first : (core : Core) (file : List ℕ) (s : Stop) → SaysLine file 0 (Header 1 core.name core.agents) → Stops core file s → SaysFirst core file s
says_first core file (stop.Rejected r) says h = inr (not_second core file says, h)
says_first core file (stop.Failed f) says h = (not_second core file says, h)

-- ---- what is written of the lines before line i is out

-- why it stops: a read or memory; or it goes no further, and this is wrong
abbrev Why : Core → List ℕ → ℕ → Stop → Type 0
Why core file i s = IsMoot s ⊎ (IsLast core file i × SaysFirst core file s)

fault_is : (core : Core) (file : List ℕ) (old new : Option (List ℕ)) (f : CertFault) (i : ℕ) (texts : List (List ℕ)) → AreWritten core file i texts → AreOut old new texts → Why core file i (stop.Failed f) → UpgradeFails core file old new (Cert f)
fault_is core file old new cert_fault.ReadFault i texts w out x = (i, texts, w, out)
fault_is core file old new cert_fault.Memory i texts w out x = (i, texts, w, out)
fault_is core file old new cert_fault.TooLong i texts w out (inl moot) = absurd moot
fault_is core file old new cert_fault.TooLong i texts w out (inr x) = (x.1.0, x.1.1, (i, texts, w, x.0, out))
fault_is core file old new cert_fault.GoalLimit i texts w out (inl moot) = absurd moot
fault_is core file old new cert_fault.GoalLimit i texts w out (inr x) = (x.1.0, x.1.1, (i, texts, w, x.0, out))
fault_is core file old new (cert_fault.FormOverflow goal) i texts w out (inl moot) = absurd moot
fault_is core file old new (cert_fault.FormOverflow goal) i texts w out (inr x) = (x.1.0, x.1.1, (i, texts, w, x.0, out))
fault_is core file old new (cert_fault.Overflow goal unknown) i texts w out (inl moot) = absurd moot
fault_is core file old new (cert_fault.Overflow goal unknown) i texts w out (inr x) = (x.1.0, x.1.1, (i, texts, w, x.0, out))

stop_is : (core : Core) (file : List ℕ) (old new : Option (List ℕ)) (s : Stop) (i : ℕ) (texts : List (List ℕ)) → AreWritten core file i texts → AreOut old new texts → Why core file i s → LinesHalt core file old new (halt.Stopped s)
stop_is core file old new (stop.Rejected r) i texts w out (inl moot) = absurd moot
stop_is core file old new (stop.Rejected r) i texts w out (inr x) = (x.1, (i, texts, w, x.0, out))
stop_is core file old new (stop.Failed f) i texts w out x = fault_is core file old new f i texts w out x

are_written : (core : Core) (file : List ℕ) (i : ℕ) (written : List Line) → Shortens core file i written → AreWritten core file i (texts_of core written)
are_written core file zero written s = let e = s.stands.next in absurd (omega (arith, e))
are_written core file (suc i) written s = (written, s, refl)

-- ---- at the first line
pub begin_ends : (core : Core) (file : List ℕ) (old new : Option (List ℕ)) (h : Halt) → BeginHalts core file old new h → LinesHalt core file old new h
begin_ends core file old new (halt.Stopped s) x = stop_is core file old new s 0 [] refl (x.1 ∙ nothing_out old) x.0
begin_ends core file old new halt.WriteFault x =
    let first : Stands core file 1 0 (events_of core) 1 = record { header = x.0; known = inl refl; body = []; lines = tt; next = refl; passes = (refl, refl) } in
    let short : Shortens core file 1 [] = record { goal = 0; ahead = events_of core; stands = first; taken = 0; short = (refl, refl) } in
    (texts_of core [], inl (1, are_written core file 1 [] short), subst (FrontIsOut old new) (sym (append-nil (line_text (Header 2 core.name core.agents)))) x.1)

-- ---- at a goal
pub goals_end : (core : Core) (file : List ℕ) (old now new : Option (List ℕ)) (h : Halt) → now ≡ appended old (line_text (Header 2 core.name core.agents)) → GoalsHalt core file now new h → LinesHalt core file old new h
goals_end core file old now new (halt.Stopped s) first x =
    stop_is core file old new s x.0 (texts_of core x.1) (are_written core file x.0 x.1 x.2) (more_out old now new (line_text (Header 2 core.name core.agents)) (map line_text x.1) first x.3) (by x.5)
  where
    by : IsMoot s ⊎ IsLast core file x.0 → Why core file x.0 s
    by (inl moot) = inl moot
    by (inr last) = inr (last, says_first core file s x.2.stands.header x.4)
goals_end core file old now new halt.WriteFault first x =
    (texts_of core x.1, inl (x.0, are_written core file x.0 x.1 x.2), front_behind old now new (line_text (Header 2 core.name core.agents)) (joined (map line_text x.1)) first x.3)

-- ---- at the closing line

-- the lines of all goals are read, and what is written of them is out behind the header
pub record AllPut (core : Core) (file : List ℕ) (old now : Option (List ℕ)) (n i : ℕ) : Type 0 where
  pub written : List Line
  pub short : Shortens core file i written
  pub ends : AtEnd core file n i
  pub last : IsLast core file i
  pub out : AreOut old now (texts_of core written)

pub all_put : (core : Core) (file : List ℕ) (old first now : Option (List ℕ)) (n i taken : ℕ) (ahead : List Event) (body : List Line) → first ≡ appended old (line_text (Header 2 core.name core.agents))
    → IsPut core first now n taken body → next_goal ahead n ≡ NoMore → IsReadTo core file n ahead i body → AllPut core file old now n i
all_put core file old first now n i taken ahead body header p none r =
    let s = r.reached.stands in
    record {
      written = p.written;
      short = record { goal = n; ahead = ahead; stands = s; taken = p.last; short = subst (λ (ls : List Line). AreShortened core 0 0 ls p.written p.last) (sym r.are) p.short };
      ends = record { version = 1; ahead = ahead; stands = s; ends = none };
      last = last_at_none core file n i ahead s (λ g later e. let f : NoMore ≡ Gives g later = sym none ∙ e in cc);
      out = more_out old first now (line_text (Header 2 core.name core.agents)) (map line_text p.written) header p.out;
    }

pub close_ends : (core : Core) (file : List ℕ) (old now new : Option (List ℕ)) (n i : ℕ) (h : Halt) → AllPut core file old now n i → (h ≡ halt.WriteFault → IsAnswer core file (Accepted n)) → CloseHalts core file n now new h → LinesHalt core file old new h
close_ends core file old now new n i (halt.Stopped s) a accepted x =
    stop_is core file old new s i (texts_of core a.written) (are_written core file i a.written a.short) (x.1 ∙ a.out) (inr (a.last, says_first core file s a.short.stands.header x.0))
close_ends core file old now new n i halt.WriteFault a accepted x = (
  texts_of core a.written ++ line_text (Closing n) ∷ [],
  inr (n, (i, a.written, a.ends, a.short, refl), accepted refl),
  front_out old now new (texts_of core a.written) (line_text (Closing n)) a.out x,
)

pub lines_end : (core : Core) (file : List ℕ) (old now new : Option (List ℕ)) (n i : ℕ) → AllPut core file old now n i → IsAnswer core file (Accepted n) → new ≡ appended now (line_text (Closing n)) → UpgradeIs core file old new (Accepted n)
lines_end core file old now new n i a answer closing = (
  not_second core file a.short.stands.header,
  answer,
  texts_of core a.written ++ line_text (Closing n) ∷ [],
  (i, a.written, a.ends, a.short, refl),
  one_more_out old now new (texts_of core a.written) (line_text (Closing n)) a.out closing,
)

pub reached_end : (core : Core) (file : List ℕ) (n i : ℕ) (ahead : List Event) (body : List Line) → IsReadTo core file n ahead i body → next_goal ahead n ≡ NoMore → n ≡ length (goals core) → ReachedEnd core file n i
reached_end core file n i ahead body r none all = record { version = 1; ahead = ahead; reached = r.reached; ends = none; all = all }
