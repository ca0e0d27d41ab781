-- What the short form of a line of version 1 takes.
use Rattle.std.proofs.Common.{◌≡◌, ◌∙◌, ℕ, suc, ◌+◌, ◌<◌, ◌≤◌, min, arith, refl, sym, ap, subst, List, length, take, drop, ℤ, None, inl}
use Rattle.std.specs.declared.option.Option.{Option}
use Rattle.slice_io.specs.Told.{appended}
use Rattle.slice_core.specs.Cores.{core_of}
use Rattle.slice_core.specs.Tree.{Core}
use Rattle.slice_core.specs.WellFormed.{IsWellFormed}
use Rattle.slice_linear.specs.Rows.{Refutes}
use Rattle.slice_paths.specs.Counting.{SkipsPassOver, goals_under}
use Rattle.slice_paths.specs.Events.{goal_limit}
use Rattle.slice_paths.specs.FrontLaws.{CoversAreFronts, GoalsHaveCovers, ShortFormsRefute}
use Rattle.slice_paths.specs.Fronts.{ShareFirst, front_of}
use Rattle.slice_paths.specs.Goals.{Goal, goals}
use Rattle.slice_paths.specs.Streams.{Stream, IsGivenLast}
use Rattle.std.specs.List.{Contains}
use Rattle.slice_cert.specs.declared.line.Line.{Line}
use Rattle.slice_cert.specs.declared.line.Line.TheVariants.{Refutation, Cover}
use Rattle.slice_cert.specs.CertLines.{line_text}
use Rattle.slice_cert.specs.ShortForms.{needed, used, short_line}
use Rattle.slice_cert.proofs.Used.{short_is}
use Rattle.slice_check.specs.declared.upgrade.Halt.{Halt}
use Rattle.slice_check.specs.declared.upgrade.Halt.TheVariants as halt
use Rattle.slice_check.specs.Certificate.{CoversFirst, RefutesFirst, Takes, line_limit}
use Rattle.slice_check.specs.Upgrading.{HasPassed, IsShort, IsShortOut, IsTakenBy, LineHalts, ReadsBack, ShareThem, ShortHalts}
use Rattle.slice_check.proofs.Covers.{has_cover, cover_refuted, has_front}
use Rattle.slice_check.proofs.Giving.{contains_dropped, share_with}
use Rattle.slice_check.proofs.RowCount.{few_rows}
use Rattle.slice_check.proofs.Short.{short_line_short}

-- the laws that this needs
pub record Laws : Type 0 where
  pub fronts : CoversAreFronts
  pub have : GoalsHaveCovers
  pub short : ShortFormsRefute
  pub over : SkipsPassOver

-- the goal given last is one of the core's
pub last_is_goal : (s : Stream) (g : Goal) → IsGivenLast s g → Contains (goals (core_of s.core)) g
last_is_goal s g l = contains_dropped g.number (goals (core_of s.core)) g (drop s.given (goals (core_of s.core))) l.stands

-- it has the passed choices that its line speaks of
pub has_passed : Laws → (s : Stream) (g : Goal) (m : List ℤ) → IsGivenLast s g → Refutes g.rows m → HasPassed s (short_line (core_of s.core).agents g.number m)
has_passed laws s g m l r =
    let core = core_of s.core in
    short_is (HasPassed s) core.agents g.number m (λ e. tt)
    (λ few e.
    let c = has_cover laws.have core g m (last_is_goal s g l) r.same_length few in
    has_front laws.fronts core g m c (ap (front_of (needed core.agents m) core.tree) (sym l.last) ∙ e))

-- a line of the goal takes so many goals, some
abbrev TakesSome : Core → Goal → Line → ℕ → Type 0
TakesSome core g l count = Takes core 2 g.number (drop g.number (goals core)) l count × (0 < count) × (count ≤ length (drop g.number (goals core)))

plain_takes : (s : Stream) (g : Goal) (m : List ℤ) → IsGivenLast s g → Refutes g.rows m → TakesSome (core_of s.core) g (Refutation g.number m) 1
plain_takes s g m l r =
    let core = core_of s.core in
    let some : length (drop g.number (goals core)) ≡ suc (length (drop s.given (goals core))) = ap length l.stands in
    ((refl, refl, subst (λ (gs : List Goal). RefutesFirst gs m) (sym l.stands) r), omega arith, omega (arith, some))

cover_takes : Laws → (s : Stream) (g : Goal) (m : List ℤ) (n : ℕ) → IsGivenLast s g → Refutes g.rows m → used m < length m → ShareThem s (needed (core_of s.core).agents m) n
    → TakesSome (core_of s.core) g (Cover g.number (needed (core_of s.core).agents m) (take (1 + (core_of s.core).agents + needed (core_of s.core).agents m) m)) (n + 1)
cover_takes laws s g m n l r few h =
    let core = core_of s.core in
    let k : ℕ = needed core.agents m in
    let is = last_is_goal s g l in
    let c = has_cover laws.have core g m is r.same_length few in
    let refutes = cover_refuted laws.short core g m c is r in
    let share = share_with s g k n l h in (
      (
        refl,
        refl,
        subst (λ (gs : List Goal). CoversFirst core k gs (take (1 + core.agents + k) m) (n + 1)) (sym l.stands)
            (c.rows, c.are, refutes, subst (λ (gs : List Goal). ShareFirst core k g.trace gs (n + 1)) l.stands share),
      ),
      omega arith,
      share.0,
    )

brief : (s : Stream) (g : Goal) (m : List ℤ) → IsWellFormed (core_of s.core) → IsGivenLast s g → Refutes g.rows m → length (line_text (short_line (core_of s.core).agents g.number m)) ≤ line_limit
brief s g m formed l r =
    let core = core_of s.core in
    let rows = few_rows core g formed (last_is_goal s g l) in
    let long = r.same_length in
    let text = short_line_short core.agents g.number m in
    omega (arith, rows, long, text)

-- it takes so many where these are the goals that are taken then
abbrev TakenSo : Stream → Goal → Line → ℕ → Type 0
TakenSo s g l t = (count : ℕ) × TakesSome (core_of s.core) g l count × (t ≡ min (g.number + count) goal_limit)

taken_so : Laws → (s : Stream) (g : Goal) (m : List ℤ) (t : ℕ) → IsGivenLast s g → Refutes g.rows m → g.number < 1000000 → IsTakenBy s (short_line (core_of s.core).agents g.number m) t
    → TakenSo s g (short_line (core_of s.core).agents g.number m) t
taken_so laws s g m t l r few h =
    short_is (λ x. IsTakenBy s x t → TakenSo s g x t) (core_of s.core).agents g.number m
    (λ e b. (1, plain_takes s g m l r, (let n = l.number in omega (arith, b, n, few))))
    (λ e b. (b.0 + 1, cover_takes laws s g m b.0 l r e b.1, (let n = l.number in let c = b.2 in omega (arith, c, n)))) h

pub short_out : Laws → (s : Stream) (g : Goal) (m : List ℤ) (t : ℕ) (old new : Option (List ℕ)) → IsWellFormed (core_of s.core) → IsGivenLast s g → Refutes g.rows m → g.number < 1000000
    → ReadsBack (short_line (core_of s.core).agents g.number m) → new ≡ appended old (line_text (short_line (core_of s.core).agents g.number m))
    → IsTakenBy s (short_line (core_of s.core).agents g.number m) t → IsShortOut (core_of s.core) g m old new t
short_out laws s g m t old new formed l r few reads out h =
    let x = taken_so laws s g m t l r few h in
    record {
      count = x.0;
      short = record { takes = x.1.0; some = x.1.1; within = x.1.2; brief = brief s g m formed l r };
      reads = reads;
      out = out;
      taken = x.2;
    }

-- so many share them
pub shared : Laws → (s : Stream) (g : Goal) (passed : ℕ) → IsGivenLast s g → (front_of passed (core_of s.core).tree g.trace ≡ None → ⊥) → ShareThem s passed (goals_under (core_of s.core) passed g.trace g.kind)
shared laws s g passed l has =
    let core = core_of s.core in
    let n : ℕ = goals_under core passed g.trace g.kind in
    let p = laws.over core passed g (drop s.given (goals core)) l.stands has in
    subst (λ cs. ShareFirst core passed cs (drop s.given (goals core)) n) (sym l.last) p.share

-- up to which goal all are taken, whether it is known or not
pub taken_somehow : Laws → (s : Stream) (g : Goal) (m : List ℤ) → IsGivenLast s g → Refutes g.rows m → (t : ℕ) × IsTakenBy s (short_line (core_of s.core).agents g.number m) t
taken_somehow laws s g m l r =
    let core = core_of s.core in
    short_is (λ x. (t : ℕ) × IsTakenBy s x t) core.agents g.number m (λ e. (s.given, refl))
    (λ few.
    let k : ℕ = needed core.agents m in
    let c = has_cover laws.have core g m (last_is_goal s g l) r.same_length few in
    let n : ℕ = goals_under core k g.trace g.kind in
    (min (s.given + n) goal_limit, (n, shared laws s g k l (has_front laws.fronts core g m c), refl)))

pub some_short : Laws → (s : Stream) (g : Goal) (m : List ℤ) → IsWellFormed (core_of s.core) → IsGivenLast s g → Refutes g.rows m → g.number < 1000000 → (count : ℕ) × IsShort (core_of s.core) g m count
some_short laws s g m formed l r few =
    let t = taken_somehow laws s g m l r in
    let x = taken_so laws s g m t.0 l r few t.1 in
    (x.0, record { takes = x.1.0; some = x.1.1; within = x.1.2; brief = brief s g m formed l r })

-- the line isn't out
pub short_halts : (core : Core) (g : Goal) (m : List ℤ) (count : ℕ) (old new : Option (List ℕ)) (h : Halt) → IsShort core g m count → LineHalts old new (line_text (short_line core.agents g.number m)) h → ShortHalts core g m old new h
short_halts core g m count old new (halt.Stopped s) short x = (x.0, inl x.1)
short_halts core g m count old new halt.WriteFault short x = (count, short, x)
