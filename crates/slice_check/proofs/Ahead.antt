-- The goals that the events ahead tell, and how many of them a line takes.
use Rattle.std.proofs.Common.{◌≡◌, ◌∙◌, ℕ, zero, suc, ◌+◌, ◌<◌, ◌≤◌, Bool, true, false, List, [], ◌∷◌, length, take, drop, ap, sym, subst, refl, arith, Some, None}
use Rattle.std.specs.Prelude.{nat_lt, if◌then◌else◌}
use Rattle.std.specs.List.{All}
use Rattle.std.proofs.lemmas.Bool.Decides.{nat_tests}
use Rattle.std.proofs.lemmas.List.{drop-drop}
use Rattle.std.proofs.lemmas.List.Elements.{All-cons, All-tail}
use Rattle.slice_num.specs.declared.choice.Choice.{Choice}
use Rattle.slice_core.specs.Tree.{Core}
use Rattle.slice_linear.specs.Rows.{LinearRow}
use Rattle.slice_paths.specs.Counting.{goals_under}
use Rattle.slice_paths.specs.Events.{Event, Meets, Breaks, Gives, NoMore, Overflows, OverLimit, Tell, goal_at, goal_limit, next_goal}
use Rattle.slice_paths.specs.Fronts.{ShareFirst, Shares, cover_rows, events_after, front_of}
use Rattle.slice_paths.specs.Goals.{Goal, goals}
use Rattle.slice_paths.proofs.FrontLaws.{covers_are_fronts}
use Rattle.slice_paths.proofs.SkipLaws.{skips_pass_over}
use Rattle.slice_cert.specs.declared.line.Line.{Line}
use Rattle.slice_cert.specs.declared.line.Line.TheVariants.{Header, Refutation, Cover, Closing}
use Rattle.slice_check.specs.Certificate.{CoversFirst, Passes, RefutesFirst, Takes}

-- ---- so many goals have the first passed choices
so_many : (P : Goal → Type 0) (gs : List Goal) (c d : ℕ) → c ≤ length gs → d ≤ length gs → All P (take c gs) → All (λ (g : Goal). P g → ⊥) (drop c gs) → All P (take d gs) → All (λ (g : Goal). P g → ⊥) (drop d gs) → c ≡ d
so_many P gs zero zero a b p q r s = refl
so_many P [] zero (suc d) a b p q r s = absurd (omega arith)
so_many P (g ∷ gs) zero (suc d) a b p q r s = absurd (q 0 g (omega arith) (r 0 g (omega arith)))
so_many P [] (suc c) zero a b p q r s = absurd (omega arith)
so_many P (g ∷ gs) (suc c) zero a b p q r s = absurd (s 0 g (omega arith) (p 0 g (omega arith)))
so_many P [] (suc c) (suc d) a b p q r s = absurd (omega arith)
so_many P (g ∷ gs) (suc c) (suc d) a b p q r s = ap suc (so_many P gs c d (omega (arith, a)) (omega (arith, b)) (All-tail P g (take c gs) p) q (All-tail P g (take d gs) r) s)

pub share_count : (core : Core) (passed : ℕ) (trace : List Choice) (gs : List Goal) (c d : ℕ) → ShareFirst core passed trace gs c → ShareFirst core passed trace gs d → c ≡ d
share_count core passed trace gs c d p q = so_many (Shares core passed trace) gs c d p.0 q.0 p.1 p.2 q.1 q.2

share_more : (core : Core) (passed : ℕ) (g : Goal) (later : List Goal) (count : ℕ) → ShareFirst core passed g.trace later count → ShareFirst core passed g.trace (g ∷ later) (suc count)
share_more core passed g later count s = (omega (arith, s.0), All-cons (Shares core passed g.trace) g (take count later) refl s.1, s.2)

-- ---- the goal that comes next

-- goal n is the first of these, and what is ahead then tells the others
pub record IsGiven (n : ℕ) (g : Goal) (later : List Event) (gs : List Goal) : Type 0 where
  pub number : g.number ≡ n
  pub rest : List Goal
  pub are : gs ≡ g ∷ rest
  pub tells : Tell later rest (n + 1)
  pub few : n < goal_limit

pub given : (ahead : List Event) (n : ℕ) (g : Goal) (later : List Event) (gs : List Goal) → next_goal ahead n ≡ Gives g later → Tell ahead gs n → IsGiven n g later gs
given [] n g later gs e h = absurd cc
given (Breaks ∷ es) n g later gs e h = absurd cc
given (Meets t ∷ es) n g later [] e h = absurd h
given (Meets t ∷ es) n g later (x ∷ xs) e h = by (nat_lt n goal_limit) t.fit refl e
  where
    by : (a b : Bool) → nat_lt n goal_limit ≡ a → (if a then (if b then Gives (goal_at n t) es else Overflows) else OverLimit) ≡ Gives g later → IsGiven n g later (x ∷ xs)
    by true true lt f =
        let first : goal_at n t ≡ g = cc in
        let more : es ≡ later = cc in
        record {
          number = ap (λ (x : Goal). x.number) (sym first);
          rest = xs;
          are = λ i. (h.0 ∙ first) i ∷ xs;
          tells = subst (λ (ys : List Event). Tell ys xs (n + 1)) more h.1;
          few = grind (arith, nat_tests);
        }
    by true false lt f = absurd cc
    by false b lt f = absurd cc

pub none_left : (ahead : List Event) (n : ℕ) (gs : List Goal) → next_goal ahead n ≡ NoMore → Tell ahead gs n → gs ≡ []
none_left [] n gs e h = h
none_left (Breaks ∷ es) n gs e h = absurd cc
none_left (Meets t ∷ es) n gs e h = by (nat_lt n goal_limit) t.fit e
  where
    by : (a b : Bool) → (if a then (if b then Gives (goal_at n t) es else Overflows) else OverLimit) ≡ NoMore → gs ≡ []
    by true true f = absurd cc
    by true false f = absurd cc
    by false b f = absurd cc

-- ---- what is ahead behind a line

-- behind the line of one goal
pub plain_tells : (n : ℕ) (g : Goal) (later : List Event) (gs : List Goal) → IsGiven n g later (drop n gs) → Tell later (drop (n + 1) gs) (n + 1)
plain_tells n g later gs x = subst (λ (xs : List Goal). Tell later xs (n + 1)) (sym (ap (drop 1) x.are) ∙ drop-drop 1 n gs) x.tells

-- behind a line that covers goals: how many there are, and what is ahead then
pub record Skips (core : Core) (n passed : ℕ) (g : Goal) : Type 0 where
  pub count : ℕ
  pub one : 1 ≤ count
  pub share : ShareFirst core passed g.trace (drop n (goals core)) count
  pub tells : Tell (events_after core passed g.trace) (drop (n + count) (goals core)) (n + count)

-- a line that passes takes the next goals, so many of them
pub record Taken (core : Core) (version n : ℕ) (l : Line) (m : ℕ) (later : List Event) : Type 0 where
  pub count : ℕ
  pub one : 1 ≤ count
  pub there : count ≤ length (drop n (goals core))
  pub takes : Takes core version n (drop n (goals core)) l count
  pub behind : m ≡ n + count
  pub few : m ≤ goal_limit
  pub tells : Tell later (drop m (goals core)) m

pub has_front : (core : Core) (passed : ℕ) (trace : List Choice) (rows : List LinearRow) → cover_rows core passed trace ≡ Some rows → front_of passed core.tree trace ≡ None → ⊥
has_front core passed trace rows e f = let h = covers_are_fronts core passed trace rows e in let g : None ≡ Some h.0 = sym f ∙ h.2 in cc

pub skipped : (core : Core) (n passed : ℕ) (g : Goal) (later : List Event) (rows : List LinearRow) → IsGiven n g later (drop n (goals core)) → cover_rows core passed g.trace ≡ Some rows → Skips core n passed g
skipped core n passed g later rows x e =
    let gs = goals core in
    let s = skips_pass_over core passed g x.rest (ap (λ (k : ℕ). drop k gs) x.number ∙ x.are) (has_front core passed g.trace rows e) in
    let more = goals_under core passed g.trace g.kind in
    let one_more : n + 1 + more ≡ n + suc more = omega arith in
    let left : drop more x.rest ≡ drop (n + suc more) gs = ap (drop more) (sym (ap (drop 1) x.are) ∙ drop-drop 1 n gs) ∙ drop-drop more (n + 1) gs ∙ ap (λ (k : ℕ). drop k gs) one_more in
    let many : g.number + 1 + more ≡ n + suc more = omega (arith, x.number) in
    record {
      count = suc more;
      one = omega arith;
      share = subst (λ (xs : List Goal). ShareFirst core passed g.trace xs (suc more)) (sym x.are) (share_more core passed g x.rest more s.share);
      tells = subst (λ (xs : List Goal). Tell (events_after core passed g.trace) xs (n + suc more)) left (subst (λ (k : ℕ). Tell (events_after core passed g.trace) (drop more x.rest) k) many s.tell);
    }

pub taken : (core : Core) (version n : ℕ) (ahead : List Event) (l : Line) (m : ℕ) (later : List Event) → Passes core version n ahead l m later → Tell ahead (drop n (goals core)) n → Taken core version n l m later
taken core version n ahead (Header v protocol agents) m later p t = absurd p
taken core version n ahead (Closing total) m later p t = absurd p
taken core version n ahead (Refutation goal multipliers) m later p t =
    let x = given ahead n p.0 later (drop n (goals core)) p.1 t in
    let len : length (drop n (goals core)) ≡ suc (length x.rest) = ap length x.are in
    record {
      count = 1;
      one = omega arith;
      there = omega (arith, len);
      takes = (p.2, refl, subst (λ (xs : List Goal). RefutesFirst xs multipliers) (sym x.are) p.3.0);
      behind = p.4;
      few = omega (arith, p.4, x.few);
      tells = subst (λ (k : ℕ). Tell later (drop k (goals core)) k) (sym p.4) (plain_tells n p.0 later (goals core) x);
    }
taken core version n ahead (Cover goal passed multipliers) m later p t =
    let g = p.0 in
    let x = given ahead n g p.1 (drop n (goals core)) p.4 t in
    let s = skipped core n passed g p.1 p.2 x p.7 in
    let same : s.count ≡ p.3 = share_count core passed g.trace (drop n (goals core)) s.count p.3 s.share p.9 in
    let many : n + s.count ≡ m = omega (arith, same, p.10) in
    record {
      count = p.3;
      one = omega (arith, same, s.one);
      there = p.9.0;
      takes = (p.5, p.6, subst (λ (xs : List Goal). CoversFirst core passed xs multipliers p.3) (sym x.are) (p.2, p.7, p.8.0, subst (λ (xs : List Goal). ShareFirst core passed g.trace xs p.3) x.are p.9));
      behind = p.10;
      few = p.11;
      tells = subst (λ (es : List Event). Tell es (drop m (goals core)) m) (sym p.12)
          (subst (λ (k : ℕ). Tell (events_after core passed g.trace) (drop k (goals core)) k) many s.tells);
    }
