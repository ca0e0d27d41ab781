-- What is out of the lines of the goals so far, from goal to goal, and where the work stops.
use Rattle.std.proofs.Common.{◌≡◌, ◌∙◌, ◌⊎◌, inl, inr, ℕ, ℤ, ◌+◌, ◌<◌, ◌≤◌, arith, refl, sym, ap, subst, List, [], ◌∷◌, ◌++◌, length, length-append, length-drop}
use Rattle.std.specs.declared.option.Option.{Option}
use Rattle.std.proofs.lemmas.List.{nil_from_length}
use Rattle.slice_core.specs.Cores.{core_of}
use Rattle.slice_core.specs.Tree.{Core}
use Rattle.slice_paths.specs.Events.{Event, Gives, next_goal}
use Rattle.slice_paths.specs.Goals.{Goal, goals}
use Rattle.slice_paths.specs.Streams.{Stream, IsGivenLast}
use Rattle.slice_cert.specs.declared.line.Line.{Line}
use Rattle.slice_cert.specs.declared.line.Line.TheVariants.{Refutation}
use Rattle.slice_cert.specs.CertLines.{line_text}
use Rattle.slice_cert.specs.ShortForms.{short_line}
use Rattle.slice_check.specs.declared.answer.Stop.{Stop}
use Rattle.slice_check.specs.declared.upgrade.Halt.{Halt}
use Rattle.slice_check.specs.declared.upgrade.Halt.TheVariants as halt
use Rattle.slice_check.specs.declared.verdict.Verdict.TheVariants.{Yes}
use Rattle.slice_check.specs.Certificate.{SaysLine, line_limit}
use Rattle.slice_check.specs.Steps.{IsGoalStop, Reached, Stops}
use Rattle.slice_check.specs.Upgrades.{AreShortened, IsLast, IsShortened, Shortens}
use Rattle.slice_check.specs.Upgrading.{AllBrief, AllReadBack, GoalHalts, GoalsHalt, IsDone, IsMoot, IsPut, IsReadTo, IsShort, IsShortOut, ReadsBack, RefutesNot, ShortHalts}
use Rattle.slice_check.specs.Verdicts.{IsVerdict}
use Rattle.slice_check.proofs.LinesOut.{nothing_out, line_out, front_of_line_out}
use Rattle.slice_check.proofs.NoFurther.{last_at_goal, stop_is_last}
use Rattle.slice_check.proofs.Shortened.{shortened_over, shortened_more}
use Rattle.slice_check.proofs.Standing.{plain_body, plain_next}
use Rattle.slice_check.proofs.Stopping.{goals_stop}

-- ---- before the first goal
pub put_first : (core : Core) (old : Option (List ℕ)) (n : ℕ) → n ≡ 0 → IsPut core old old n 0 []
put_first core old n none = subst (λ (k : ℕ). IsPut core old old k 0 []) (sym none) (record {
  written = [];
  last = 0;
  short = (refl, refl);
  long = refl;
  some = omega arith;
  within = omega arith;
  counted = omega arith;
  read = tt;
  brief = tt;
  out = nothing_out old;
})

pub read_first : (core : Core) (file : List ℕ) (n i : ℕ) (ahead : List Event) → n ≡ 0 → i ≡ 1 → Reached core file 1 0 ahead 1 → IsReadTo core file n ahead i []
read_first core file n i ahead none first r =
    let next = r.stands.next in
    let empty : r.stands.body ≡ [] = nil_from_length r.stands.body (omega (arith, next)) in
    subst (λ (k : ℕ). IsReadTo core file k ahead i []) (sym none) (subst (λ (k : ℕ). IsReadTo core file 0 ahead k []) (sym first) (record { reached = r; are = empty }))

-- ---- one goal more
read_more : (ls : List Line) (l : Line) → AllReadBack ls → ReadsBack l → AllReadBack (ls ++ l ∷ [])
read_more [] l h r = (r, tt)
read_more (x ∷ ls) l h r = (h.0, read_more ls l h.1 r)

brief_more : (ls : List Line) (l : Line) → AllBrief ls → length (line_text l) ≤ line_limit → AllBrief (ls ++ l ∷ [])
brief_more [] l h k = (k, tt)
brief_more (x ∷ ls) l h k = (h.0, brief_more ls l h.1 k)

-- the short form of the goal's line is written, too
short_next : (core : Core) (g : Goal) (m : List ℤ) (count last : ℕ) (body written : List Line) → AreShortened core 0 0 body written last → last ≤ g.number → g.number ≡ length body → IsShort core g m count
    → AreShortened core 0 0 (body ++ Refutation g.number m ∷ []) (written ++ short_line core.agents g.number m ∷ []) (g.number + count)
short_next core g m count last body written h le e s =
    let l : Line = Refutation g.number m in
    let k : Line = short_line core.agents g.number m in
    let place : g.number ≡ 0 + length body = omega (arith, e) in
    let is : IsShortened core (0 + length body) l k count = subst (λ (x : ℕ). IsShortened core x l k count) place (m, refl, refl, s.takes) in
    subst (λ (x : ℕ). AreShortened core 0 0 (body ++ l ∷ []) (written ++ k ∷ []) (x + count)) (sym place) (shortened_more core 0 0 body written last l k count h (omega (arith, le, e)) is)

pub put_next : (core : Core) (old now new : Option (List ℕ)) (g : Goal) (m : List ℤ) (n taken t : ℕ) (body : List Line) → IsPut core old now g.number taken body → g.number < 1000000 → n ≡ g.number + 1 → IsDone core g m taken now new t
    → IsPut core old new n t (body ++ Refutation g.number m ∷ [])
put_next core old now new g m n taken t body p few next (inl d) =
    let l : Line = Refutation g.number m in
    let lt = d.0 in
    let long = p.long in
    let counted = p.counted in
    record {
      written = p.written;
      last = p.last;
      short = shortened_over core 0 0 body p.written p.last l p.short (omega (arith, lt, long, counted));
      long = omega (arith, length-append body (l ∷ []), long, next);
      some = omega (arith, lt, counted, next);
      within = p.within;
      counted = d.1 ∙ counted;
      read = p.read;
      brief = p.brief;
      out = d.2 ∙ p.out;
    }
put_next core old now new g m n taken t body p few next (inr d) =
    let l : Line = Refutation g.number m in
    let k : Line = short_line core.agents g.number m in
    let le = d.0 in
    let o = d.1 in
    let long = p.long in
    let counted = p.counted in
    let some = o.short.some in
    let within = o.short.within in
    record {
      written = p.written ++ k ∷ [];
      last = g.number + o.count;
      short = short_next core g m o.count p.last body p.written p.short (omega (arith, le, counted, few)) (sym long) o.short;
      long = omega (arith, length-append body (l ∷ []), long, next);
      some = omega (arith, some, next);
      within = omega (arith, some, within, length-drop g.number (goals core));
      counted = o.taken;
      read = read_more p.written k p.read o.reads;
      brief = brief_more p.written k p.brief o.short.brief;
      out = line_out old now new p.written k p.out o.out;
    }

pub read_next : (core : Core) (file : List ℕ) (i : ℕ) (g : Goal) (ahead : List Event) (m : List ℤ) (s : Stream) (body : List Line) → core_of s.core ≡ core → IsReadTo core file g.number ahead i body → next_goal ahead g.number ≡ Gives g s.ahead → IsGivenLast s g
    → SaysLine file i (Refutation g.number m) → IsVerdict g.rows m Yes → IsReadTo core file s.given s.ahead (i + 1) (body ++ Refutation g.number m ∷ [])
read_next core file i g ahead m s body same x comes last says v =
    let l : Line = Refutation g.number m in
    let here : IsReadTo (core_of s.core) file g.number ahead i body = subst (λ (k : Core). IsReadTo k file g.number ahead i body) (sym same) x in
    subst (λ (k : Core). IsReadTo k file s.given s.ahead (i + 1) (body ++ l ∷ [])) same (record {
      reached = plain_next file 1 i g ahead m s here.reached comes last says v;
      are = plain_body file 1 i g ahead m s here.reached comes last says v ∙ ap (λ (ls : List Line). ls ++ l ∷ []) here.are;
    })

-- ---- where the work stops
shortens : (core : Core) (file : List ℕ) (n i last : ℕ) (ahead : List Event) (body written : List Line) → IsReadTo core file n ahead i body → AreShortened core 0 0 body written last → Shortens core file i written
shortens core file n i last ahead body written x h = record {
  goal = n;
  ahead = ahead;
  stands = x.reached.stands;
  taken = last;
  short = subst (λ (ls : List Line). AreShortened core 0 0 ls written last) (sym x.are) h;
}

-- no goal is made
pub none_halts : (core : Core) (file : List ℕ) (old now : Option (List ℕ)) (i taken : ℕ) (t : Stream) (body : List Line) (s : Stop) → IsPut core old now t.given taken body → IsReadTo core file t.given t.ahead i body → IsGoalStop t s
    → GoalsHalt core file old now (halt.Stopped s)
none_halts core file old now i taken t body s p x h =
    (i, p.written, shortens core file t.given i p.last t.ahead body p.written x p.short, p.out, goals_stop core file 1 i t s x.reached h, stop_is_last core file i t s x.reached.stands h)

-- what stands at a goal that comes next, whose line is line i
pub record StandsAt (core : Core) (file : List ℕ) (old now : Option (List ℕ)) (i taken : ℕ) (g : Goal) (s : Stream) : Type 0 where
  pub same : core_of s.core ≡ core
  pub body : List Line
  pub ahead : List Event
  pub put : IsPut core old now g.number taken body
  pub read : IsReadTo core file g.number ahead i body
  pub comes : next_goal ahead g.number ≡ Gives g s.ahead
  pub last : IsGivenLast s g
  pub few : g.number < 1000000

-- these are written then
here : (core : Core) (file : List ℕ) (old now : Option (List ℕ)) (i taken : ℕ) (g : Goal) (s : Stream) (a : StandsAt core file old now i taken g s) → Shortens core file i a.put.written
here core file old now i taken g s a = shortens core file g.number i a.put.last a.ahead a.body a.put.written a.read a.put.short

-- and with the short form of its line
there : (core : Core) (file : List ℕ) (old now : Option (List ℕ)) (i taken count : ℕ) (g : Goal) (s : Stream) (m : List ℤ) (a : StandsAt core file old now i taken g s) → SaysLine file i (Refutation g.number m) → IsVerdict g.rows m Yes
    → taken ≤ g.number → IsShort core g m count → Shortens core file (i + 1) (a.put.written ++ short_line core.agents g.number m ∷ [])
there core file old now i taken count g s m a says v le short =
    let counted = a.put.counted in
    let few = a.few in
    shortens core file s.given (i + 1) (g.number + count) s.ahead (a.body ++ Refutation g.number m ∷ []) (a.put.written ++ short_line core.agents g.number m ∷ [])
    (read_next core file i g a.ahead m s a.body a.same a.read a.comes a.last says v)
    (short_next core g m count a.put.last a.body a.put.written a.put.short (omega (arith, le, counted, few)) (sym a.put.long) short)

not_right : (core : Core) (file : List ℕ) (old now : Option (List ℕ)) (i taken : ℕ) (g : Goal) (s : Stream) (t : Stop) → StandsAt core file old now i taken g s → IsMoot t ⊎ RefutesNot file i g → IsMoot t ⊎ IsLast core file i
not_right core file old now i taken g s t a (inl moot) = inl moot
not_right core file old now i taken g s t a (inr wrong) = inr (last_at_goal core file g.number i a.ahead s.ahead g a.read.reached.stands a.comes refl wrong)

short_stops : (core : Core) (file : List ℕ) (old now new : Option (List ℕ)) (i taken : ℕ) (g : Goal) (s : Stream) (m : List ℤ) (h : Halt) → StandsAt core file old now i taken g s → SaysLine file i (Refutation g.number m) → IsVerdict g.rows m Yes
    → taken ≤ g.number → ShortHalts core g m now new h → GoalsHalt core file old new h
short_stops core file old now new i taken g s m (halt.Stopped t) a says v le x = by x.1
  where
    moot : IsMoot t
    moot = subst IsMoot (sym x.0) tt

    stops : Stops core file t
    stops = subst (Stops core file) (sym x.0) tt

    by : (new ≡ now) ⊎ ((k : ℕ) × IsShortOut core g m now new k) → GoalsHalt core file old new (halt.Stopped t)
    by (inl same) = (i, a.put.written, here core file old now i taken g s a, same ∙ a.put.out, stops, inl moot)
    by (inr o) = (
      i + 1,
      a.put.written ++ short_line core.agents g.number m ∷ [],
      there core file old now i taken o.1.count g s m a says v le o.1.short,
      line_out old now new a.put.written (short_line core.agents g.number m) a.put.out o.1.out,
      stops,
      inl moot,
    )
short_stops core file old now new i taken g s m halt.WriteFault a says v le x = (
  i + 1,
  a.put.written ++ short_line core.agents g.number m ∷ [],
  there core file old now i taken x.0 g s m a says v le x.1,
  front_of_line_out old now new a.put.written (short_line core.agents g.number m) a.put.out x.2,
)

pub goal_halts : (core : Core) (file : List ℕ) (old now new : Option (List ℕ)) (i taken : ℕ) (g : Goal) (s : Stream) (h : Halt) → StandsAt core file old now i taken g s → GoalHalts core g taken now new h file i → GoalsHalt core file old new h
goal_halts core file old now new i taken g s h a (inl x) =
    subst (GoalsHalt core file old new) (sym x.1) (i, a.put.written, here core file old now i taken g s a, x.2 ∙ a.put.out, x.3, not_right core file old now i taken g s x.0 a x.4)
goal_halts core file old now new i taken g s h a (inr x) = short_stops core file old now new i taken g s x.0 h a x.1 x.2 x.3 x.4
