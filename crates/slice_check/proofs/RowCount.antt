-- How many rows a goal has.
use Rattle.std.proofs.Common.{◌≡◌, ◌∙◌, ℕ, zero, suc, ◌+◌, ◌≤◌, max, arith, refl, sym, ap, subst, List, [], ◌∷◌, ◌++◌, ◌⊎◌, inl, inr, length}
use Rattle.std.specs.List.{Contains}
use Rattle.std.proofs.lemmas.List.{length-append, length-map}
use Rattle.slice_num.specs.declared.choice.Choice.TheVariants as choice
use Rattle.slice_num.specs.Pieces.{piece_at}
use Rattle.slice_core.specs.Tree.{Tree, Core, Ask, Set, Cut, Join, Test, Give, End}
use Rattle.slice_core.specs.Sizes.{depth}
use Rattle.slice_core.specs.WellFormed.{IsWellFormed}
use Rattle.slice_linear.specs.declared.row.RowKind.TheVariants.{Above, Zero}
use Rattle.slice_atoms.specs.Addresses.{left_of}
use Rattle.slice_atoms.specs.Forms.{Form, piece_form, sub_form}
use Rattle.slice_paths.specs.Places.{Condition, Way, Place, places, sum_form, yes_kind, no_kind, first_way, test_way, whole_condition, whole_conditions}
use Rattle.slice_paths.specs.Goals.{Goal, goals, row_of}
use Rattle.slice_paths.proofs.Fits.{IsIn}
use Rattle.slice_paths.proofs.Parts.{in_either}
use Rattle.slice_paths.proofs.Later.{in_each}
use Rattle.slice_paths.proofs.GoalLaws.{of_aim, aims_out, aim_way}

one_more : (cs : List Condition) (c : Condition) → length (cs ++ c ∷ []) ≡ length cs + 1
one_more cs c = length-append cs (c ∷ [])

-- each node on a way adds a condition at most
few_conditions : (core : Tree) (fs : List Form) (k : Way) (x : Place) → IsIn x (places core fs k) → length x.way.conditions + 1 ≤ length k.conditions + depth core
few_conditions (Ask a p r next) fs k x h = let z = few_conditions next _ _ x h in omega (arith, z)
few_conditions (Set r sum next) fs k x h = let z = few_conditions next _ _ x h in omega (arith, z)
few_conditions (Join p q r next) fs k x h = let z = few_conditions next _ _ x h in omega (arith, z)
few_conditions (Give p a next) fs k x h = let z = few_conditions next _ _ x h in omega (arith, z)
few_conditions End fs k x (inl e) = let f = ap (λ (y : Place). length y.way.conditions) e in omega (arith, f)
few_conditions End fs k x (inr h) = absurd h
few_conditions (Test left right strict y n) fs k x h =
    by (in_either x (places y fs ym) (places n fs nm) h) (few_conditions y fs ym x) (few_conditions n fs nm x)
  where
    ym : Way
    ym = test_way (yes_kind strict) (sub_form (sum_form fs left.terms) (sum_form fs right.terms)) choice.Yes k

    nm : Way
    nm = test_way (no_kind strict) (sub_form (sum_form fs right.terms) (sum_form fs left.terms)) choice.No k

    by : IsIn x (places y fs ym) ⊎ IsIn x (places n fs nm) → (IsIn x (places y fs ym) → length x.way.conditions + 1 ≤ length ym.conditions + depth y) → (IsIn x (places n fs nm) → length x.way.conditions + 1 ≤ length nm.conditions + depth n)
        → length x.way.conditions + 1 ≤ length k.conditions + (1 + max (depth y) (depth n))
    by (inl i) f g = let r = f i in let l = one_more k.conditions (record { kind = yes_kind strict; form = sub_form (sum_form fs left.terms) (sum_form fs right.terms) }) in omega (arith, r, l)
    by (inr i) f g = let r = g i in let l = one_more k.conditions (record { kind = no_kind strict; form = sub_form (sum_form fs right.terms) (sum_form fs left.terms) }) in omega (arith, r, l)
few_conditions (Cut a p amount l r next) fs k x (inl e) = let f = ap (λ (y : Place). length y.way.conditions) e in omega (arith, f)
few_conditions (Cut a p amount l r next) fs k x (inr (inl e)) = let f = ap (λ (y : Place). length y.way.conditions) e in omega (arith, f)
few_conditions (Cut a p amount l r next) fs k x (inr (inr h)) =
    let g = in_each x [] (piece_at k.pieces p) (piece_at k.pieces p) _ refl h in
    let z = few_conditions next _ _ x g.is_one in
    let y = one_more k.conditions (record { kind = Zero; form = sub_form (piece_form a (g.before ++ left_of g.part ∷ [])) (sum_form fs amount.terms) }) in
    omega (arith, z, y)

agents_long : (n : ℕ) → length (whole_conditions n) ≡ n
agents_long zero = refl
agents_long (suc n) = one_more (whole_conditions n) (whole_condition (suc n)) ∙ (let e = agents_long n in omega (arith, e))

-- N > 0, each agent's sum, a row for each passed cut and each test, and the goal's own
pub few_rows : (core : Core) (g : Goal) → IsWellFormed core → Contains (goals core) g → length g.rows ≤ 529
few_rows core g formed h =
    let o = of_aim core g h in
    let p = aims_out core.agents (places core.tree [] (first_way core.agents)) o.aim o.is_one in
    let own : Condition = record { kind = Above; form = o.aim.own } in
    let way = aim_way core.agents p.0.stop p.0.way o.aim p.2 in
    let long = length-map (o.aim.way.conditions ++ own ∷ []) (row_of core.agents o.aim.way.cake) in
    let more = one_more o.aim.way.conditions own in
    let same = ap (λ (k : Way). length k.conditions) way in
    let few = few_conditions core.tree [] (first_way core.agents) p.0 p.1 in
    let all = agents_long core.agents in
    let deep = formed.few_deep in
    let some = formed.few_agents in
    subst (λ (x : Goal). length x.rows ≤ 529) (sym o.is) (omega (arith, long, more, same, few, all, deep, some))
