-- What is written of a certificate of version 1, and what is answered then.
use Rattle.std.specs.Prelude.{◌≡◌, ◌⊎◌, ℕ, zero, suc, ◌+◌, ◌<◌, ◌≤◌, ⊤, ℤ, List, [], ◌∷◌, ◌++◌, drop, map}
use Rattle.std.specs.declared.option.Option.{Option}
use Rattle.std.specs.declared.option.Option.TheVariants.{Some}
use Rattle.slice_num.specs.Pieces.{joined}
use Rattle.slice_io.specs.Told.{appended, FrontIsOut}
use Rattle.slice_core.specs.Tree.{Core}
use Rattle.slice_paths.specs.Events.{Event}
use Rattle.slice_paths.specs.Goals.{goals}
use Rattle.slice_cert.specs.declared.line.Line.{Line}
use Rattle.slice_cert.specs.declared.line.Line.TheVariants.{Header, Refutation, Cover, Closing}
use Rattle.slice_cert.specs.CertLines.{line_text}
use Rattle.slice_cert.specs.ShortForms.{short_line}
use Rattle.slice_check.specs.declared.answer.HeaderField.TheVariants.{Version}
use Rattle.slice_check.specs.declared.answer.Rejection.{Rejection}
use Rattle.slice_check.specs.declared.answer.Rejection.TheVariants as rejection
use Rattle.slice_check.specs.declared.answer.CertAnswer.{CertAnswer}
use Rattle.slice_check.specs.declared.answer.CertAnswer.TheVariants.{Accepted, Rejected}
use Rattle.slice_check.specs.declared.answer.CertFault.{CertFault}
use Rattle.slice_check.specs.declared.answer.CertFault.TheVariants.{ReadFault, Memory}
use Rattle.slice_check.specs.declared.upgrade.UpgradeFault.{UpgradeFault}
use Rattle.slice_check.specs.declared.upgrade.UpgradeFault.TheVariants.{Cert, WriteFault}
use Rattle.slice_check.specs.Certificate.{Accepts, AtEnd, SaysLine, Stands, Takes}
use Rattle.slice_check.specs.Faults.{Fails, IsAnswer, IsUnread, Rejects}

-- ---- lines

-- the second line is the short form of the first, that of goal n, and takes so many goals
abbrev pub IsShortened : Core → ℕ → Line → Line → ℕ → Type 0
IsShortened core n l s count =
    (m : List ℤ) × (l ≡ Refutation n m) × (s ≡ short_line core.agents n m) × Takes core 2 n (drop n (goals core)) s count

-- of the lines of goals from n on, where written lines took all goals before another one, these are written: the short form
-- of each whose goal no written line took. Then the goals before the last number are taken
abbrev pub AreShortened : Core → (n taken : ℕ) → List Line → List Line → ℕ → Type 0
AreShortened core n taken [] written last = (written ≡ []) × (last ≡ taken)
AreShortened core n taken (l ∷ ls) written last =
    ((n < taken) × AreShortened core (n + 1) taken ls written last)
    ⊎ ((taken ≤ n) × (s : Line) × (count : ℕ) × (later : List Line) × IsShortened core n l s count × (written ≡ s ∷ later)
    × AreShortened core (n + 1) (n + count) ls later last)

-- the lines before line i are right in version 1, and these are written of them
pub record Shortens (core : Core) (file : List ℕ) (i : ℕ) (written : List Line) : Type 0 where
  pub goal : ℕ
  pub ahead : List Event
  pub stands : Stands core file 1 goal ahead i
  pub taken : ℕ
  pub short : AreShortened core 0 0 stands.body written taken

-- ---- texts

-- of a header of version 2, and of these lines
abbrev pub texts_of : Core → List Line → List (List ℕ)
texts_of core written = map line_text (Header 2 core.name core.agents ∷ written)

-- what is out once the lines before line i are found right, and no more is: nothing where i is the first
abbrev pub AreWritten : Core → List ℕ → ℕ → List (List ℕ) → Type 0
AreWritten core file zero texts = texts ≡ []
AreWritten core file (suc i) texts = (written : List Line) × Shortens core file (suc i) written × (texts ≡ texts_of core written)

-- written in all, where the certificate has so many goals
abbrev pub AreWhole : Core → List ℕ → ℕ → List (List ℕ) → Type 0
AreWhole core file total texts =
    (i : ℕ) × (written : List Line) × AtEnd core file total i × Shortens core file i written × (texts ≡ texts_of core written ++ line_text (Closing total) ∷ [])

-- texts written so far, before some line; or all, where the certificate is accepted
abbrev pub AreRight : Core → List ℕ → List (List ℕ) → Type 0
AreRight core file texts = ((i : ℕ) × AreWritten core file i texts) ⊎ ((total : ℕ) × AreWhole core file total texts × IsAnswer core file (Accepted total))

-- these texts, one after another, were put behind what was out
abbrev pub AreOut : Option (List ℕ) → Option (List ℕ) → List (List ℕ) → Type 0
AreOut old new texts = new ≡ appended old (joined texts)

-- no more lines from the first on are right in version 1 than those before line i
abbrev pub IsLast : Core → List ℕ → ℕ → Type 0
IsLast core file i = (n j : ℕ) (ahead : List Event) → Stands core file 1 n ahead j → j ≤ i

-- what is written of all lines that are right is out
abbrev pub LinesAreOut : Core → List ℕ → Option (List ℕ) → Option (List ℕ) → Type 0
LinesAreOut core file old new = (i : ℕ) × (texts : List (List ℕ)) × AreWritten core file i texts × IsLast core file i × AreOut old new texts

-- ---- answers

-- a line that is a header of version 2
abbrev pub IsOfVersion2 : Line → Type 0
IsOfVersion2 (Header version protocol agents) = version ≡ 2
IsOfVersion2 (Refutation goal multipliers) = ⊥
IsOfVersion2 (Cover goal passed multipliers) = ⊥
IsOfVersion2 (Closing goals) = ⊥

-- the file's first line is one
abbrev pub BeginsVersion2 : List ℕ → Type 0
BeginsVersion2 file = (l : Line) × SaysLine file 0 l × IsOfVersion2 l

-- what is wrong with a file that should be of version 1: its header is of version 2; otherwise what the checker says
abbrev pub RejectsVersion1 : Core → List ℕ → Rejection → Type 0
RejectsVersion1 core file r = (BeginsVersion2 file × (r ≡ rejection.HeaderDiffers Version)) ⊎ ((BeginsVersion2 file → ⊥) × Rejects core file r)

-- the whole is out where the certificate is accepted; otherwise the lines before what is wrong
abbrev pub UpgradeIs : Core → List ℕ → Option (List ℕ) → Option (List ℕ) → CertAnswer → Type 0
UpgradeIs core file old new (Accepted total) =
    (BeginsVersion2 file → ⊥) × IsAnswer core file (Accepted total) × (texts : List (List ℕ)) × AreWhole core file total texts × AreOut old new texts
UpgradeIs core file old new (Rejected r) = RejectsVersion1 core file r × LinesAreOut core file old new

-- why nothing is answered, and the lines so far are out: of a failed read and of memory some of them, with a fault of the
-- sink a front of their bytes
abbrev pub UpgradeFails : Core → List ℕ → Option (List ℕ) → Option (List ℕ) → UpgradeFault → Type 0
UpgradeFails core file old new WriteFault = (texts : List (List ℕ)) × AreRight core file texts × FrontIsOut old new (joined texts)
UpgradeFails core file old new (Cert ReadFault) = (i : ℕ) × (texts : List (List ℕ)) × AreWritten core file i texts × AreOut old new texts
UpgradeFails core file old new (Cert Memory) = (i : ℕ) × (texts : List (List ℕ)) × AreWritten core file i texts × AreOut old new texts
UpgradeFails core file old new (Cert f) = (BeginsVersion2 file → ⊥) × Fails core file f × LinesAreOut core file old new

-- where the file isn't there: a read failed, or memory was wanted, and nothing is out
abbrev pub IsMissing : Option (List ℕ) → Option (List ℕ) → UpgradeFault → Type 0
IsMissing old new WriteFault = ⊥
IsMissing old new (Cert f) = IsUnread f × (new ≡ old)

-- where the certificate is accepted, the bytes that were put behind the others are one
abbrev pub IsUpgraded : Core → Option (List ℕ) → Option (List ℕ) → CertAnswer → Type 0
IsUpgraded core old new (Accepted total) = (bytes : List ℕ) × Accepts core bytes × (new ≡ appended old bytes)
IsUpgraded core old new (Rejected r) = ⊤

-- ---- lines, whatever the file holds

-- whole lines were put behind what was out
abbrev pub WholeLinesOut : Option (List ℕ) → Option (List ℕ) → Type 0
WholeLinesOut old new = (ls : List Line) × AreOut old new (map line_text ls)

-- whole lines are out; with a fault of the sink a front of the bytes of some
abbrev pub LinesStop : Option (List ℕ) → Option (List ℕ) → UpgradeFault → Type 0
LinesStop old new WriteFault = (ls : List Line) × FrontIsOut old new (joined (map line_text ls))
LinesStop old new (Cert f) = WholeLinesOut old new

-- ---- laws

-- where these are all bytes that are written, put behind nothing: this is answered, or this is why nothing is, failed reads and
-- want of memory aside
abbrev pub IsUpgradeEnd : Core → List ℕ → List ℕ → Type 0
IsUpgradeEnd core file out =
    ((a : CertAnswer) × UpgradeIs core file (Some []) (Some out) a)
    ⊎ ((f : CertFault) × (IsUnread f → ⊥) × UpgradeFails core file (Some []) (Some out) (Cert f))

-- what is written before a line is accepted goes on to such an end
abbrev pub UpgradesGoOn : Type 0
UpgradesGoOn = (core : Core) (file : List ℕ) (i : ℕ) (texts : List (List ℕ)) → AreWritten core file i texts → (rest : List (List ℕ)) × IsUpgradeEnd core file (joined (texts ++ rest))
