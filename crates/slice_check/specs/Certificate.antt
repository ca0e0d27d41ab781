-- Which files are certificates, and how far a file is right.
use Rattle.std.specs.Prelude.{◌≡◌, ◌⊎◌, ℕ, ◌+◌, ◌≤◌, ⊤, ℤ, List, [], ◌∷◌, ◌++◌, length, drop, Some}
use Rattle.slice_io.specs.Lines.{lines_of, LineIs}
use Rattle.slice_linear.specs.Rows.{LinearRow, Refutes}
use Rattle.slice_core.specs.Tree.{Core}
use Rattle.slice_paths.specs.Events.{Event, Gives, NoMore, events_of, goal_limit, next_goal}
use Rattle.slice_paths.specs.Fronts.{ShareFirst, cover_rows, events_after}
use Rattle.slice_paths.specs.Goals.{Goal, goals}
use Rattle.slice_cert.specs.declared.line.Line.{Line}
use Rattle.slice_cert.specs.declared.line.Line.TheVariants.{Header, Refutation, Cover, Closing}
use Rattle.slice_cert.specs.CertLines.{IsLine}
use Rattle.slice_check.specs.declared.verdict.Verdict.TheVariants.{Yes}
use Rattle.slice_check.specs.Verdicts.{IsVerdict}

-- how many bytes a line may have without its LF, and a file
abbrev pub line_limit : ℕ
line_limit = 1048576

abbrev pub file_limit : ℕ
file_limit = 268435456

-- ---- certificates

-- the versions of certificates: a line of the first refutes one goal; the second has lines, too, that refute the next goal
-- and all later ones with the same first passed choices
abbrev pub IsVersion : ℕ → Type 0
IsVersion version = (version ≡ 1) ⊎ (version ≡ 2)

-- the multipliers refute the first goal
abbrev pub RefutesFirst : List Goal → List ℤ → Type 0
RefutesFirst [] m = ⊥
RefutesFirst (g ∷ gs) m = Refutes g.rows m

-- the multipliers refute the rows behind the first passed choices of the first goal; it and all later goals with the same
-- ones are so many, and come first
abbrev pub CoversFirst : Core → ℕ → List Goal → List ℤ → ℕ → Type 0
CoversFirst core passed [] m count = ⊥
CoversFirst core passed (g ∷ gs) m count =
    (rows : List LinearRow) × (cover_rows core passed g.trace ≡ Some rows) × Refutes rows m × ShareFirst core passed g.trace (g ∷ gs) count

-- the line takes the next goals, so many of them, where n were taken
abbrev pub Takes : Core → (version n : ℕ) → List Goal → Line → ℕ → Type 0
Takes core version n gs (Header v protocol agents) count = ⊥
Takes core version n gs (Refutation goal multipliers) count = (goal ≡ n) × (count ≡ 1) × RefutesFirst gs multipliers
Takes core version n gs (Cover goal passed multipliers) count = (version ≡ 2) × (goal ≡ n) × CoversFirst core passed gs multipliers count
Takes core version n gs (Closing total) count = ⊥

-- the lines take the goals in order, each once, where n were taken
abbrev pub TakeInOrder : Core → (version n : ℕ) → List Goal → List Line → Type 0
TakeInOrder core version n gs [] = gs ≡ []
TakeInOrder core version n gs (l ∷ ls) =
    (count : ℕ) × (count ≤ length gs) × Takes core version n gs l count × TakeInOrder core version (n + count) (drop count gs) ls

-- each text has at most so many bytes
abbrev pub AreShort : List (List ℕ) → Type 0
AreShort [] = ⊤
AreShort (text ∷ texts) = (length text ≤ line_limit) × AreShort texts

-- each of the texts is the line at its place
abbrev pub AreLines : List (List ℕ) → List Line → Type 0
AreLines [] [] = ⊤
AreLines [] (l ∷ ls) = ⊥
AreLines (text ∷ texts) [] = ⊥
AreLines (text ∷ texts) (l ∷ ls) = IsLine text l × AreLines texts ls

-- the file is a certificate of the core: a header, lines that take its goals in order, the closing line, and nothing more
pub record Accepts (core : Core) (file : List ℕ) : Type 0 where
  pub short : AreShort (lines_of file)
  pub version : ℕ
  pub known : IsVersion version
  pub body : List Line
  pub takes : TakeInOrder core version 0 (goals core) body
  pub lines : AreLines (lines_of file) (Header version core.name core.agents ∷ (body ++ Closing (length (goals core)) ∷ []))

-- ---- how far a file is right

-- line i of the file, from 0, is the line
abbrev pub SaysLine : List ℕ → ℕ → Line → Type 0
SaysLine file i l = (text : List ℕ) × LineIs line_limit file_limit file i (Some text) × IsLine text l

-- the lines from i on begin with these
abbrev pub SaysLines : List ℕ → ℕ → List Line → Type 0
SaysLines file i [] = ⊤
SaysLines file i (l ∷ ls) = SaysLine file i l × SaysLines file (i + 1) ls

-- the line takes goal n, which comes next where these events are ahead, and its sums fit; then m goals are taken, and the
-- later events are ahead. A line that covers goals passes over what is behind the same choices, unless it passes the limit
abbrev pub Passes : Core → (version n : ℕ) → List Event → Line → ℕ → List Event → Type 0
Passes core version n ahead (Header v protocol agents) m later = ⊥
Passes core version n ahead (Refutation goal multipliers) m later =
    (g : Goal) × (next_goal ahead n ≡ Gives g later) × (goal ≡ n) × IsVerdict g.rows multipliers Yes × (m ≡ n + 1)
Passes core version n ahead (Cover goal passed multipliers) m later =
    (g : Goal) × (rest : List Event) × (rows : List LinearRow) × (count : ℕ)
    × (next_goal ahead n ≡ Gives g rest) × (version ≡ 2) × (goal ≡ n) × (cover_rows core passed g.trace ≡ Some rows) × IsVerdict rows multipliers Yes
    × ShareFirst core passed g.trace (drop n (goals core)) count × (m ≡ n + count) × (m ≤ goal_limit) × (later ≡ events_after core passed g.trace)
Passes core version n ahead (Closing total) m later = ⊥

-- the lines do so one after another
abbrev pub AllPass : Core → (version n : ℕ) → List Event → List Line → ℕ → List Event → Type 0
AllPass core version n ahead [] m later = (m ≡ n) × (later ≡ ahead)
AllPass core version n ahead (l ∷ ls) m later =
    (k : ℕ) × (mid : List Event) × Passes core version n ahead l k mid × AllPass core version k mid ls m later

-- the lines before line i are right: a header of that version, and lines that take the first n goals; then these events
-- are ahead
pub record Stands (core : Core) (file : List ℕ) (version n : ℕ) (ahead : List Event) (i : ℕ) : Type 0 where
  pub header : SaysLine file 0 (Header version core.name core.agents)
  pub known : IsVersion version
  pub body : List Line
  pub lines : SaysLines file 1 body
  pub next : i ≡ length body + 1
  pub passes : AllPass core version 0 (events_of core) body n ahead

-- the lines before line i are right, and goal n comes next
pub record AtGoal (core : Core) (file : List ℕ) (version n i : ℕ) (g : Goal) : Type 0 where
  pub ahead : List Event
  pub later : List Event
  pub stands : Stands core file version n ahead i
  pub comes : next_goal ahead n ≡ Gives g later

-- the lines before line i are right, and take all goals, which are n
pub record AtEnd (core : Core) (file : List ℕ) (n i : ℕ) : Type 0 where
  pub version : ℕ
  pub ahead : List Event
  pub stands : Stands core file version n ahead i
  pub ends : next_goal ahead n ≡ NoMore

-- line i is read as a line of the certificate: the first one; that of the next goal; or the closing line
abbrev pub IsRead : Core → List ℕ → ℕ → Type 0
IsRead core file i = (i ≡ 0) ⊎ (((version n : ℕ) × (g : Goal) × AtGoal core file version n i g) ⊎ ((n : ℕ) × AtEnd core file n i))

-- the file closes before line i, after n goals
pub record IsClosed (core : Core) (file : List ℕ) (n i : ℕ) : Type 0 where
  pub at : ℕ
  pub next : i ≡ at + 1
  pub ends : AtEnd core file n at
  pub closes : SaysLine file at (Closing n)
