-- A counterexample isn't fair.
use Rattle.std.specs.List.{Contains}
use Rattle.std.proofs.Common.{◌≡◌, ◌∙◌, ℕ, refl, sym, ap, subst, [], inl, inr}
use Rattle.slice_num.specs.declared.choice.Side.TheVariants as side
use Rattle.slice_core.specs.Agents.{IsAgent}
use Rattle.slice_core.specs.Division.{IsFair}
use Rattle.slice_core.specs.Measures.{worth_of, length_of}
use Rattle.slice_core.specs.Run.{Ending, Done, Stuck, Few, Bad, Many, run_core}
use Rattle.slice_paths.specs.Places.{Way, Stop, AtEnd, AtCut, places, first_way}
use Rattle.slice_core.specs.Tree.{Core}
use Rattle.slice_paths.specs.Goals.{pairs, envy_form, Aim, aims_at, Goal, goals}
use Rattle.slice_paths.specs.RunLaws.{EndsAs}
use Rattle.slice_paths.specs.declared.goal.GoalKind.{GoalKind}
use Rattle.slice_paths.specs.declared.goal.GoalKind.TheVariants.{Low, High, Envy}
use Rattle.slice_paths.proofs.Fits.{IsIn}
use Rattle.slice_paths.proofs.Solutions.{map_out, first_of_pair, second_of_pair}
use Rattle.slice_paths.proofs.GoalLaws.{aims_out, of_aim}
use Rattle.slice_counter.specs.Counter.{CounterexamplesAreUnfair}

pair_agents : (p : ℕ × ℕ) (n : ℕ) → IsIn p (pairs n n) → IsAgent n p.0 × IsAgent n p.1
pair_agents p n h = (first_of_pair p n n h, second_of_pair p n n h)

envy_agents : (n : ℕ) (stop : Stop) (k : Way) (aim : Aim) (a b : ℕ) → IsIn aim (aims_at n stop k) → aim.kind ≡ Envy a b → IsAgent n a × IsAgent n b
envy_agents n (AtCut side.Low own) k aim a b (inl e) f = let g = ap (λ (x : Aim). x.kind) e in cc
envy_agents n (AtCut side.High own) k aim a b (inl e) f = let g = ap (λ (x : Aim). x.kind) e in cc
envy_agents n (AtCut at own) k aim a b (inr h) f = absurd h
envy_agents n AtEnd k aim a b h f =
    let r = map_out (λ (p : ℕ × ℕ). record { way = k; kind = Envy p.0 p.1; own = envy_form p.0 p.1 k }) aim (pairs n n) h in
    let g : Envy r.0.0 r.0.1 ≡ Envy a b = sym (ap (λ (x : Aim). x.kind) r.2) ∙ f in
    let is = pair_agents r.0 n r.1 in
    (subst (IsAgent n) (ap first_agent g) is.0, subst (IsAgent n) (ap second_agent g) is.1)
  where
    first_agent : GoalKind → ℕ
    first_agent (Envy x y) = x
    first_agent Low = 0
    first_agent High = 0

    second_agent : GoalKind → ℕ
    second_agent (Envy x y) = y
    second_agent Low = 0
    second_agent High = 0

-- who envies and is envied in a goal are agents
pub envious_are_agents : (core : Core) (g : Goal) → Contains (goals core) g → (a b : ℕ) → g.kind ≡ Envy a b → IsAgent core.agents a × IsAgent core.agents b
envious_are_agents core g one_ a b e =
    let o = of_aim core g one_ in
    let p = aims_out core.agents (places core.tree [] (first_way core.agents)) o.aim o.is_one in
    envy_agents core.agents p.0.stop p.0.way o.aim a b p.2 (sym (ap (λ (x : Goal). x.kind) o.is) ∙ e)

pub counterexamples_are_unfair : CounterexamplesAreUnfair
counterexamples_are_unfair core vs ys g one_ c fair = by g.kind refl (run_core (worth_of vs) core (length_of vs) ys) c.ends fair
  where
    by : (kind : GoalKind) → g.kind ≡ kind → (e : Ending) → EndsAs (worth_of vs) kind e → IsFair core.agents (worth_of vs) e → ⊥
    by (Envy a b) k (Done s) h f = let is = envious_are_agents core g one_ a b k in f a b is.0 is.1 h
    by Low k (Done s) h f = h
    by High k (Done s) h f = h
    by kind k (Stuck at s) h f = f
    by kind k (Few q) h f = h
    by kind k (Bad q) h f = h
    by kind k Many h f = h
