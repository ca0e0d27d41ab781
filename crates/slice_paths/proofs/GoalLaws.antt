-- What a goal of a core is.
use Rattle.std.proofs.Common.{◌≤◌, ◌≡◌, ◌∙◌, ℕ, zero, suc, ◌+◌, ◌*◌, arith, refl, sym, ap, subst, Bool, true, false, List, [], ◌∷◌, map, length, length-append, ◌==◌, inl, inr}
use Rattle.std.specs.Prelude.{if◌then◌else◌}
use Rattle.std.specs.List.{All, Contains}
use Rattle.std.proofs.lemmas.List.{length-map}
use Rattle.std.proofs.lemmas.List.Elements.{All-nil, All-cons}
use Rattle.slice_num.specs.Rational.{Rational}
use Rattle.slice_num.specs.Gcd.{divided}
use Rattle.slice_core.specs.Sizes.{most_cuts}
use Rattle.slice_core.specs.Tree.{Core}
use Rattle.slice_linear.specs.Rows.{LinearRow}
use Rattle.slice_linear.specs.LowestRow.{common_den, cleared, gcd_all, lowest}
use Rattle.slice_atoms.specs.Addresses.{Address, Cake, Atom, Halves, atoms, atom_count}
use Rattle.slice_atoms.specs.Forms.{agent_coefs, all_coefs}
use Rattle.slice_paths.specs.Places.{Condition, Way, Stop, AtEnd, AtCut, Place, places, first_way}
use Rattle.slice_paths.specs.Goals.{row_of, pairs, Aim, aims_at, aims, aims_of, Goal, goal_of, numbered, goals}
use Rattle.slice_paths.specs.Ways.{way_of}
use Rattle.slice_paths.specs.RunLaws.{RowsAreOverUnknowns}
use Rattle.slice_paths.proofs.Fits.{IsIn}
use Rattle.slice_paths.proofs.Parts.{in_either, contains_out}
use Rattle.slice_paths.proofs.Found.{place_found, place_atoms}
use Rattle.slice_paths.proofs.Solutions.{map_out}

-- ---- which aim and which place it comes from
pub aims_out : (n : ℕ) (ps : List Place) (aim : Aim) → IsIn aim (aims n ps) → (p : Place) × IsIn p ps × IsIn aim (aims_at n p.stop p.way)
aims_out n [] aim h = absurd h
aims_out n (p ∷ ps) aim h = elim (in_either aim (aims_at n p.stop p.way) (aims n ps) h) [
  | inl l ↦ (p, inl refl, l)
  | inr r ↦ let g = aims_out n ps aim r in (g.0, inr g.1, g.2)
]

numbered_out : (n q : ℕ) (as_ : List Aim) (g : Goal) → IsIn g (numbered n q as_) → (aim : Aim) × (i : ℕ) × IsIn aim as_ × (g ≡ goal_of n i aim)
numbered_out n q [] g h = absurd h
numbered_out n q (a ∷ as_) g (inl e) = (a, q, inl refl, e)
numbered_out n q (a ∷ as_) g (inr h) = let r = numbered_out n (q + 1) as_ g h in (r.0, r.1, inr r.2, r.3)

pub aim_way : (n : ℕ) (stop : Stop) (k : Way) (aim : Aim) → IsIn aim (aims_at n stop k) → aim.way ≡ k
aim_way n (AtCut at own) k aim (inl e) = ap (λ (x : Aim). x.way) e
aim_way n (AtCut at own) k aim (inr h) = absurd h
aim_way n AtEnd k aim h = ap (λ (x : Aim). x.way) (map_out _ aim (pairs n n) h).2

-- a goal of a core is that of an aim, whose way makes its choices
pub record OfAim (core : Core) (g : Goal) : Type 0 where
  pub aim : Aim
  pub number : ℕ
  pub is_one : IsIn aim (aims_of core)
  pub is : g ≡ goal_of core.agents number aim
  pub way_is : way_of core g.trace ≡ aim.way

pub of_aim : (core : Core) (g : Goal) → Contains (goals core) g → OfAim core g
of_aim core g h =
    let r = numbered_out core.agents 0 (aims_of core) g (contains_out g (goals core) h) in
    let p = aims_out core.agents (places core.tree [] (first_way core.agents)) r.0 r.2 in
    let e = aim_way core.agents p.0.stop p.0.way r.0 p.2 in
    record {
      aim = r.0;
      number = r.1;
      is_one = r.2;
      is = r.3;
      way_is = ap (λ (x : Goal). way_of core x.trace) r.3 ∙ ap (λ (k : Way). way_of core k.trace) e ∙ place_found core p.0 p.1 ∙ sym e;
    }

-- the atoms of its way are at most one more than the cuts on a way
pub goal_atoms : (core : Core) (g : Goal) → Contains (goals core) g → atom_count (way_of core g.trace).cake ≤ 1 + most_cuts core.tree
goal_atoms core g h =
    let o = of_aim core g h in
    let p = aims_out core.agents (places core.tree [] (first_way core.agents)) o.aim o.is_one in
    let e = ap (λ (k : Way). atom_count k.cake) (o.way_is ∙ aim_way core.agents p.0.stop p.0.way o.aim p.2) in
    omega (arith, e, place_atoms core p.0 p.1)

-- ---- how long its rows are
length_lowest : (qs : List Rational) → length (lowest qs) ≡ length qs
length_lowest qs = by (gcd_all (cleared (common_den qs) qs) == 0)
  where
    long : length (cleared (common_den qs) qs) ≡ length qs
    long = length-map qs _

    by : (b : Bool) → length (if b then cleared (common_den qs) qs else map (λ z. divided z (gcd_all (cleared (common_den qs) qs))) (cleared (common_den qs) qs)) ≡ length qs
    by true = long
    by false = length-map (cleared (common_den qs) qs) _ ∙ long

pub count_atoms : (k : Cake) → length (atoms k) ≡ atom_count k
count_atoms Atom = refl
count_atoms (Halves l r) = simp (length-append, length-map, count_atoms l, count_atoms r)

length_agents : (n : ℕ) (k : Cake) (f : ℕ → Address → Rational) → length (agent_coefs n k f) ≡ n * atom_count k
length_agents zero k f = omega arith
length_agents (suc n) k f =
    let e = length-append (agent_coefs n k f) (map (f (suc n)) (atoms k)) in
    omega (arith, e, length_agents n k f, length-map (atoms k) (f (suc n)), count_atoms k)

pub length_row : (n : ℕ) (k : Cake) (d : Condition) → length (row_of n k d).coefs ≡ 1 + n * atom_count k
length_row n k d = length_lowest (all_coefs n k d.form) ∙ omega (arith, length_agents n k d.form.at)

pub length_rows : (n : ℕ) (k : Cake) (ds : List Condition) → All (λ (r : LinearRow). length r.coefs ≡ 1 + n * atom_count k) (map (row_of n k) ds)
length_rows n k [] = All-nil _
length_rows n k (d ∷ ds) = All-cons (λ (r : LinearRow). length r.coefs ≡ 1 + n * atom_count k) (row_of n k d) (map (row_of n k) ds) (length_row n k d) (length_rows n k ds)

pub rows_over_unknowns : RowsAreOverUnknowns
rows_over_unknowns core g h =
    let o = of_aim core g h in
    subst (λ (x : Cake). All (λ (r : LinearRow). length r.coefs ≡ 1 + core.agents * atom_count x) g.rows) (ap (λ (k : Way). k.cake) (sym o.way_is))
    (subst (λ (x : Goal). All (λ (r : LinearRow). length r.coefs ≡ 1 + core.agents * atom_count o.aim.way.cake) x.rows) (sym o.is)
    (length_rows core.agents o.aim.way.cake _))
