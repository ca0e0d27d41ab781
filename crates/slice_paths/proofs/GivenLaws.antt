-- What a stream's calls leave of the goals.
use Rattle.std.proofs.Common.{◌≡◌, ◌∙◌, ℕ, zero, suc, ◌+◌, ◌≤◌, arith, refl, sym, ap, subst, Bool, true, false, List, [], ◌∷◌, length, take, drop}
use Rattle.std.specs.Prelude.{nat_lt, if◌then◌else◌, None}
use Rattle.std.proofs.lemmas.List.{drop-drop, length-drop}
use Rattle.std.proofs.lemmas.List.Elements.{All-head, All-tail}
use Rattle.slice_num.specs.declared.choice.Choice.{Choice}
use Rattle.slice_core.specs.Cores.{core_of}
use Rattle.slice_core.specs.Tree.{Core as CoreOf}
use Rattle.slice_core.specs.declared.core_tree.Core.{Core}
use Rattle.slice_paths.specs.Counting.{goals_under}
use Rattle.slice_paths.specs.Events.{Event, Meets, Breaks, Gives, NoMore, Overflows, OverLimit, next_goal, goal_at, goal_limit, Tell}
use Rattle.slice_paths.specs.Fronts.{front_of, way_behind, events_after, Shares, ShareFirst}
use Rattle.slice_paths.specs.Goals.{Goal, goals}
use Rattle.slice_paths.specs.Places.{first_way}
use Rattle.slice_paths.specs.Streams.{Stream, TellsRest, IsGivenLast}
use Rattle.slice_paths.proofs.SkipLaws.{skips_pass_over}

-- ---- one goal less
suc_more : (n : ℕ) → suc n + 1 ≡ suc (n + 1)
suc_more n = omega arith

drop_next : {A : Type 0} (xs : List A) (n : ℕ) (y : A) (ys : List A) → drop n xs ≡ y ∷ ys → (drop (n + 1) xs ≡ ys) × (n + 1 ≤ length xs)
drop_next [] zero y ys e = absurd cc
drop_next [] (suc n) y ys e = absurd cc
drop_next (x ∷ xs) zero y ys e = (cc, omega arith)
drop_next (x ∷ xs) (suc n) y ys e = let h = drop_next xs n y ys e in (ap (λ (m : ℕ). drop m (x ∷ xs)) (suc_more n) ∙ h.0, omega (arith, h.1))

record GivesNext (gs : List Goal) (given : ℕ) (g : Goal) (rest : List Event) : Type 0 where
  others : List Goal
  are : gs ≡ g ∷ others
  number : g.number ≡ given
  tell : Tell rest others (given + 1)

gives_next : (es : List Event) (gs : List Goal) (given : ℕ) (g : Goal) (rest : List Event) → Tell es gs given → next_goal es given ≡ Gives g rest → GivesNext gs given g rest
gives_next [] gs given g rest t e = absurd cc
gives_next (Breaks ∷ es) gs given g rest t e = absurd cc
gives_next (Meets f ∷ es) [] given g rest t e = absurd t
gives_next (Meets f ∷ es) (x ∷ xs) given g rest t e = by (nat_lt given goal_limit) f.fit e
  where
    by : (p q : Bool) → (if p then (if q then Gives (goal_at given f) es else Overflows) else OverLimit) ≡ Gives g rest → GivesNext (x ∷ xs) given g rest
    by true true k =
        let same : goal_at given f ≡ g = cc in
        let onward : es ≡ rest = cc in
        record {
          others = xs;
          are = ap (λ (y : Goal). y ∷ xs) (t.0 ∙ same);
          number = ap (λ (y : Goal). y.number) (sym same);
          tell = subst (λ (fs : List Event). Tell fs xs (given + 1)) onward t.1;
        }
    by true false k = absurd cc
    by false q k = absurd cc

no_more : (es : List Event) (gs : List Goal) (given : ℕ) → Tell es gs given → next_goal es given ≡ NoMore → gs ≡ []
no_more [] gs given t e = t
no_more (Breaks ∷ es) gs given t e = absurd cc
no_more (Meets f ∷ es) [] given t e = absurd t
no_more (Meets f ∷ es) (x ∷ xs) given t e = by (nat_lt given goal_limit) f.fit e
  where
    by : (p q : Bool) → (if p then (if q then Gives (goal_at given f) es else Overflows) else OverLimit) ≡ NoMore → x ∷ xs ≡ []
    by true true k = absurd cc
    by true false k = absurd cc
    by false q k = absurd cc

-- ---- after a call
pub rest_at_end : (s t : Stream) → TellsRest s → next_goal s.ahead s.given ≡ NoMore → t.ahead ≡ [] → t.given ≡ s.given → t.core ≡ s.core → TellsRest t
rest_at_end s t h e a n k =
    let none : drop t.given (goals (core_of t.core)) ≡ [] = (λ i. drop (n i) (goals (core_of (k i)))) ∙ no_more s.ahead (drop s.given (goals (core_of s.core))) s.given h.tells e in
    record {
      tells = subst (λ (es : List Event). Tell es (drop t.given (goals (core_of t.core))) t.given) (sym a) none;
      within = omega (arith, h.within, n, ap (λ (c : Core). length (goals (core_of c))) k);
    }

pub rest_after_goal : (s t : Stream) (g : Goal) → TellsRest s → next_goal s.ahead s.given ≡ Gives g t.ahead → t.given ≡ s.given + 1 → t.core ≡ s.core → t.last ≡ g.trace → t.kind ≡ g.kind → TellsRest t × IsGivenLast t g
rest_after_goal s t g h e n k l d =
    let gs = goals (core_of s.core) in
    let x = gives_next s.ahead (drop s.given gs) s.given g t.ahead h.tells e in
    let y = drop_next gs s.given g x.others x.are in
    let left : drop t.given (goals (core_of t.core)) ≡ x.others = (λ i. drop (n i) (goals (core_of (k i)))) ∙ y.0 in (
      record {
        tells = subst (λ (m : ℕ). Tell t.ahead (drop t.given (goals (core_of t.core))) m) (sym n) (subst (λ (xs : List Goal). Tell t.ahead xs (s.given + 1)) (sym left) x.tell);
        within = omega (arith, y.1, n, ap (λ (c : Core). length (goals (core_of c))) k);
      },
      record {
        stands = (λ i. drop (x.number i) (goals (core_of (k i)))) ∙ x.are ∙ ap (λ (zs : List Goal). g ∷ zs) (sym left);
        number = omega (arith, n, x.number);
        last = l;
        kind = d;
      },
    )

-- ---- how many share the first passed choices is one number
pub one_share : (core : CoreOf) (passed : ℕ) (trace : List Choice) (gs : List Goal) (n m : ℕ) → ShareFirst core passed trace gs n → ShareFirst core passed trace gs m → n ≡ m
one_share core passed trace gs zero zero h k = refl
one_share core passed trace [] zero (suc m) h k = absurd (omega (arith, k.0))
one_share core passed trace [] (suc n) m h k = absurd (omega (arith, h.0))
one_share core passed trace (g ∷ gs) zero (suc m) h k =
    absurd (All-head (λ (x : Goal). Shares core passed trace x → ⊥) g gs h.2 (All-head (Shares core passed trace) g (take m gs) k.1))
one_share core passed trace (g ∷ gs) (suc n) zero h k =
    absurd (All-head (λ (x : Goal). Shares core passed trace x → ⊥) g gs k.2 (All-head (Shares core passed trace) g (take n gs) h.1))
one_share core passed trace (g ∷ gs) (suc n) (suc m) h k =
    let P = Shares core passed trace in
    ap suc (one_share core passed trace gs n m (omega (arith, h.0), All-tail P g (take n gs) h.1, h.2) (omega (arith, k.0), All-tail P g (take m gs) k.1, k.2))

-- ---- those that share the first passed choices of the goal given last
pub record PassesLast (s : Stream) (passed : ℕ) : Type 0 where
  pub way : way_behind passed (core_of s.core).tree [] (first_way (core_of s.core).agents) s.last ≡ None → ⊥
  pub share : ShareFirst (core_of s.core) passed s.last (drop s.given (goals (core_of s.core))) (goals_under (core_of s.core) passed s.last s.kind)
  pub tell : Tell (events_after (core_of s.core) passed s.last) (drop (s.given + goals_under (core_of s.core) passed s.last s.kind) (goals (core_of s.core))) (s.given + goals_under (core_of s.core) passed s.last s.kind)
  pub within : s.given + goals_under (core_of s.core) passed s.last s.kind ≤ length (goals (core_of s.core))

pub passes_last : (s : Stream) (g : Goal) (passed : ℕ) → TellsRest s → IsGivenLast s g → (front_of passed (core_of s.core).tree s.last ≡ None → ⊥) → PassesLast s passed
passes_last s g passed h is has =
    let core = core_of s.core in
    let gs = goals core in
    let p = skips_pass_over core passed g (drop s.given gs) is.stands (λ e. has (ap (front_of passed core.tree) is.last ∙ e)) in
    let many = goals_under core passed g.trace g.kind in
    let same : many ≡ goals_under core passed s.last s.kind = λ i. goals_under core passed (sym is.last i) (sym is.kind i) in
    let share : ShareFirst core passed s.last (drop s.given gs) (goals_under core passed s.last s.kind) =
    subst (λ (cs : List Choice). ShareFirst core passed cs (drop s.given gs) (goals_under core passed s.last s.kind)) (sym is.last) (subst (ShareFirst core passed g.trace (drop s.given gs)) same p.share) in
    let from : g.number + 1 + many ≡ s.given + many = omega (arith, is.number) in
    let told : Tell (events_after core passed g.trace) (drop (s.given + many) gs) (s.given + many) =
    subst (λ (n : ℕ). Tell (events_after core passed g.trace) (drop (s.given + many) gs) n) from
    (subst (λ (xs : List Goal). Tell (events_after core passed g.trace) xs (g.number + 1 + many)) (drop-drop many s.given gs) p.tell) in
    record {
      way = λ e. p.way (ap (way_behind passed core.tree [] (first_way core.agents)) (sym is.last) ∙ e);
      share = share;
      tell =
          subst (λ (cs : List Choice). Tell (events_after core passed cs) (drop (s.given + goals_under core passed s.last s.kind) gs) (s.given + goals_under core passed s.last s.kind)) (sym is.last)
          (subst (λ (m : ℕ). Tell (events_after core passed g.trace) (drop (s.given + m) gs) (s.given + m)) same told);
      within = omega (arith, share.0, length-drop s.given gs, h.within);
    }

-- after they were passed over
pub rest_after_skip : (s t : Stream) (passed : ℕ) → PassesLast s passed → t.ahead ≡ events_after (core_of s.core) passed s.last → t.given ≡ s.given + goals_under (core_of s.core) passed s.last s.kind → t.core ≡ s.core → TellsRest t
rest_after_skip s t passed h a n k =
    let many = s.given + goals_under (core_of s.core) passed s.last s.kind in
    record {
      tells = subst (λ (es : List Event). Tell es (drop t.given (goals (core_of t.core))) t.given) (sym a)
          (subst (λ (gs : List Goal). Tell (events_after (core_of s.core) passed s.last) (drop t.given gs) t.given) (ap (λ (c : Core). goals (core_of c)) (sym k))
          (subst (λ (m : ℕ). Tell (events_after (core_of s.core) passed s.last) (drop m (goals (core_of s.core))) m) (sym n) h.tell));
      within = omega (arith, h.within, n, ap (λ (c : Core). length (goals (core_of c))) k);
    }
