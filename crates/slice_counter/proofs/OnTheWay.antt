-- Where a goal's rows have a solution, those on its way have one.
use Rattle.std.proofs.Common.{◌≡◌, ◌∙◌, ℕ, zero, suc, ◌+◌, ◌*◌, ◌<◌, arith, refl, sym, ap, subst, List, [], ◌∷◌, ◌++◌, length, get_or, ℤ, pos, ◌+ℤ◌, ◌*ℤ◌, inl, inr}
use Rattle.std.specs.List.{All}
use Rattle.std.proofs.lemmas.Int.{ints}
use Rattle.std.proofs.lemmas.List.Elements.{All-nil, All-cons}
use Rattle.slice_num.specs.declared.choice.Choice.{Choice}
use Rattle.slice_core.specs.Tree.{Core}
use Rattle.slice_core.specs.Agents.{HasAgents}
use Rattle.slice_linear.specs.Rows.{LinearRow, KindHolds, Holds, IsSolution, NotBelow, dot}
use Rattle.slice_linear.specs.declared.row.RowKind.TheVariants.{Above}
use Rattle.slice_linear.proofs.Dots.{dot-nil, dot-cons}
use Rattle.slice_linear.proofs.Ring.{mul_zero}
use Rattle.slice_linear.proofs.SolutionLaws.{solution_in, solution_not_below, solution_holds}
use Rattle.slice_atoms.specs.Addresses.{atom_count}
use Rattle.slice_paths.specs.Places.{Way, Stop, AtEnd, AtCut, Place, places, first_way}
use Rattle.slice_paths.specs.Goals.{rows_of, pairs, envy_form, Aim, aims_at, Goal}
use Rattle.slice_paths.specs.Ways.{way_of, rows_after}
use Rattle.slice_paths.specs.declared.goal.GoalKind.TheVariants.{Envy}
use Rattle.slice_paths.proofs.Fits.{IsIn}
use Rattle.slice_paths.proofs.Solutions.{map_out}
use Rattle.slice_paths.proofs.GoalLaws.{aims_out, of_aim, rows_over_unknowns}
use Rattle.slice_counter.specs.Counter.{GoalsAreSolvedOnTheirWay}
use Rattle.slice_counter.proofs.Counters.{solution_parts, meets, solved_on_the_way}

-- ---- so many numbers of a solution, with zeros where it has fewer
abbrev padded : ℕ → List ℤ → List ℤ
padded zero xs = []
padded (suc n) [] = pos 0 ∷ padded n []
padded (suc n) (x ∷ xs) = x ∷ padded n xs

padded_long : (n : ℕ) (xs : List ℤ) → length (padded n xs) ≡ n
padded_long zero xs = refl
padded_long (suc n) [] = ap suc (padded_long n [])
padded_long (suc n) (x ∷ xs) = ap suc (padded_long n xs)

padded_not_below : (n : ℕ) (xs : List ℤ) → All NotBelow xs → All NotBelow (padded n xs)
padded_not_below zero xs h = All-nil NotBelow
padded_not_below (suc n) [] h = All-cons NotBelow (pos 0) (padded n []) (omega (arith, ints)) (padded_not_below n [] h)
padded_not_below (suc n) (x ∷ xs) h = All-cons NotBelow x (padded n xs) (h 0 x (omega arith)) (padded_not_below n xs (λ i d l. h (suc i) d (omega (arith, l))))

dot_padded : (cs xs : List ℤ) → dot cs (padded (length cs) xs) ≡ dot cs xs
dot_padded [] xs = dot-nil (padded 0 xs) ∙ sym (dot-nil xs)
dot_padded (c ∷ cs) [] =
    let e = mul_zero c in
    let h : dot cs (padded (length cs) []) ≡ pos 0 = dot_padded cs [] in
    dot-cons c (pos 0) cs (padded (length cs) []) ∙ omega (arith, ints, e, h)
dot_padded (c ∷ cs) (x ∷ xs) = dot-cons c x cs (padded (length cs) xs) ∙ ap (λ (s : ℤ). c *ℤ x +ℤ s) (dot_padded cs xs) ∙ sym (dot-cons c x cs xs)

padded_holds : (n : ℕ) (r : LinearRow) (xs : List ℤ) → length r.coefs ≡ n → Holds xs r → Holds (padded n xs) r
padded_holds n r xs e h = subst (KindHolds r.kind) (sym (ap (λ (m : ℕ). dot r.coefs (padded m xs)) (sym e) ∙ dot_padded r.coefs xs)) h

padded_solves : (n : ℕ) (rows : List LinearRow) (xs : List ℤ) → All (λ (r : LinearRow). length r.coefs ≡ n) rows → IsSolution rows xs → IsSolution rows (padded n xs)
padded_solves n rows xs wide s =
    solution_in rows (padded n xs) (padded_not_below n xs (solution_not_below rows xs s))
    (λ i d l. padded_holds n (get_or rows i d) xs (wide i d l) (solution_holds rows xs s i d l))

-- ---- goals
abbrev SolvedOn : Core → List Choice → Type 0
SolvedOn core trace = (front rest : List Choice) → front ++ rest ≡ trace → (ys : List ℤ) × IsSolution (rows_after core front) ys

module _ (core : Core) (is : HasAgents core.agents core.tree) (some_agent : 0 < core.agents) where
  abbrev Solves : Aim → Type 0
  Solves aim = (xs : List ℤ) → length xs ≡ 1 + core.agents * atom_count aim.way.cake → IsSolution (rows_of core.agents aim.way aim.own) xs → SolvedOn core aim.way.trace

  solves : (stop : Stop) (k : Way) → IsIn {A = Place} (record { stop = stop; way = k }) (places core.tree [] (first_way core.agents)) → (aim : Aim) → IsIn aim (aims_at core.agents stop k) → Solves aim
  solves (AtCut at own) k one_ aim (inl e) =
      let p : Place = record { stop = AtCut at own; way = k } in
      subst Solves (sym e)
      (solution_parts core k own (λ xs. SolvedOn core k.trace) (λ total zs b l rows h.
      solved_on_the_way core is some_agent p one_ total zs b l rows (meets core is some_agent p one_ total zs b l rows (record { kind = Above; form = own }) h)))
  solves (AtCut at own) k one_ aim (inr h) = absurd h
  solves AtEnd k one_ aim i =
      let f : ℕ × ℕ → Aim = λ q. record { way = k; kind = Envy q.0 q.1; own = envy_form q.0 q.1 k } in
      let r = map_out f aim (pairs core.agents core.agents) i in
      subst Solves (sym r.2)
      (solution_parts core k (envy_form r.0.0 r.0.1 k) (λ xs. SolvedOn core k.trace) (λ total zs b l rows h. solved_on_the_way core is some_agent (record { stop = AtEnd; way = k }) one_ total zs b l rows tt))

-- a goal and its way
abbrev IsSolvedOn : Core → List ℤ → Goal → Way → Type 0
IsSolvedOn core xs g k = length xs ≡ 1 + core.agents * atom_count k.cake → IsSolution g.rows xs → SolvedOn core g.trace

pub goals_are_solved_on_their_way : GoalsAreSolvedOnTheirWay
goals_are_solved_on_their_way core g xs is some_agent one_ s =
    let o = of_aim core g one_ in
    let p = aims_out core.agents (places core.tree [] (first_way core.agents)) o.aim o.is_one in
    let n : ℕ = 1 + core.agents * atom_count (way_of core g.trace).cake in
    subst (IsSolvedOn core (padded n xs) g) (sym o.way_is)
    (subst (λ (x : Goal). IsSolvedOn core (padded n xs) x o.aim.way) (sym o.is) (solves core is some_agent p.0.stop p.0.way p.1 o.aim p.2 (padded n xs)))
    (padded_long n xs) (padded_solves n g.rows xs (rows_over_unknowns core g one_) s)
