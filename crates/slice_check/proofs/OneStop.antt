-- One thing is said of a file.
use Rattle.std.proofs.Common.{◌≡◌, ℕ, List, arith}
use Rattle.slice_core.specs.Tree.{Core}
use Rattle.slice_check.specs.declared.answer.Rejection.{Rejection}
use Rattle.slice_check.specs.declared.answer.CertFault.{CertFault}
use Rattle.slice_check.specs.declared.answer.CertFault.TheVariants.{ReadFault, TooLong, GoalLimit, FormOverflow, Overflow, Memory}
use Rattle.slice_check.specs.declared.answer.CertAnswer.{CertAnswer}
use Rattle.slice_check.specs.declared.answer.CertAnswer.TheVariants.{Rejected}
use Rattle.slice_check.specs.Faults.{Fails, IsAnswer, IsUnread, Rejects}
use Rattle.slice_check.proofs.Walks.{End, Answers, Faults, Heading, one_end}
use Rattle.slice_check.proofs.Halting.{Said, said_ends}

one_said : (core : Core) (file : List ℕ) (e f : End) → Said core file e → Said core file f → e ≡ f
one_said core file e f a b =
    let x = said_ends core file e a in
    let y = said_ends core file f b in
    one_end core file x.0 y.0 Heading e f (omega arith) x.1 y.1

pub one_rejection : (core : Core) (file : List ℕ) (r s : Rejection) → Rejects core file r → Rejects core file s → r ≡ s
one_rejection core file r s a b = let e = one_said core file (Answers (Rejected r)) (Answers (Rejected s)) a b in cc

pub one_answer : (core : Core) (file : List ℕ) (a b : CertAnswer) → IsAnswer core file a → IsAnswer core file b → a ≡ b
one_answer core file a b p q = let e = one_said core file (Answers a) (Answers b) p q in cc

pub one_fault : (core : Core) (file : List ℕ) (f g : CertFault) → (IsUnread f → ⊥) → (IsUnread g → ⊥) → Fails core file f → Fails core file g → f ≡ g
one_fault core file f g u v a b = let e = one_said core file (Faults f) (Faults g) (a, u) (b, v) in cc

neither : (core : Core) (file : List ℕ) (a : CertAnswer) (f : CertFault) → IsAnswer core file a → Fails core file f → (IsUnread f → ⊥) → ⊥
neither core file a f p q u = let e = one_said core file (Answers a) (Faults f) p (q, u) in cc

pub answer_or_fault : (core : Core) (file : List ℕ) (a : CertAnswer) (f : CertFault) → IsAnswer core file a → Fails core file f → IsUnread f
answer_or_fault core file a ReadFault p q = tt
answer_or_fault core file a Memory p q = tt
answer_or_fault core file a TooLong p q = absurd (neither core file a TooLong p q (λ u. u))
answer_or_fault core file a GoalLimit p q = absurd (neither core file a GoalLimit p q (λ u. u))
answer_or_fault core file a (FormOverflow goal) p q = absurd (neither core file a (FormOverflow goal) p q (λ u. u))
answer_or_fault core file a (Overflow goal unknown) p q = absurd (neither core file a (Overflow goal unknown) p q (λ u. u))
