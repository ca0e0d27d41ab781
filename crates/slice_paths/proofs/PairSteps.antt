-- What an end comes to, pair by pair.
use Rattle.std.proofs.Common.{◌≡◌, ◌≢◌, ℕ, ◌+◌, ◌<◌, ◌≤◌, arith, refl, sym, ap, List, ◌∷◌, map}
use Rattle.slice_core.specs.Tree.{End}
use Rattle.slice_paths.specs.Ahead.{left_at}
use Rattle.slice_paths.specs.Events.{envy_goal}
use Rattle.slice_paths.specs.Spots.{Known, way_of}
use Rattle.slice_paths.specs.Walking.{Ready, PairsReady, Leads, WalkLeads, steps_at}
use Rattle.slice_paths.specs.declared.frames.Onward.TheVariants as onward
use Rattle.slice_paths.specs.declared.frames.Rest.TheVariants as rest
use Rattle.slice_paths.proofs.PairLaws.{pairs_first, pairs_none, pairs_row, pairs_same, pairs_other, row_fewer, pair_fewer}

pub end_leads : (s : Known) → Ready s.atoms.agents End s → WalkLeads s.atoms.agents End s (onward.One (record { rest = rest.Pairs 1 1; spot = s }))
end_leads s h =
    let n = s.atoms.agents in
    record {
      comes = ap (λ (ps : List (ℕ × ℕ)). map (envy_goal n (way_of s)) ps) (sym (pairs_first n));
      ready = record { known = h.known; agents_are = refl; few_agents = h.goes.few_agents; first = omega arith; second = omega arith };
      fewer = omega arith;
    }

pub none_leads : (n a b : ℕ) (s : Known) → n < a → Leads n (left_at n (rest.Pairs a b) s) (steps_at n (rest.Pairs a b)) onward.End
none_leads n a b s l = record {
  comes = ap (λ (ps : List (ℕ × ℕ)). map (envy_goal n (way_of s)) ps) (pairs_none n a b l);
  ready = tt;
  fewer = omega arith;
}

pub row_leads : (n a b : ℕ) (s : Known) → PairsReady n a b s → a ≤ n → n < b → Leads n (left_at n (rest.Pairs a b) s) (steps_at n (rest.Pairs a b)) (onward.One (record { rest = rest.Pairs (a + 1) 1; spot = s }))
row_leads n a b s h l m = record {
  comes = ap (λ (ps : List (ℕ × ℕ)). map (envy_goal n (way_of s)) ps) (pairs_row n a b l m);
  ready = record { known = h.known; agents_are = h.agents_are; few_agents = h.few_agents; first = omega arith; second = omega arith };
  fewer = row_fewer n a b l;
}

pub same_leads : (n a b : ℕ) (s : Known) → PairsReady n a b s → a ≤ n → b ≤ n → a ≡ b → Leads n (left_at n (rest.Pairs a b) s) (steps_at n (rest.Pairs a b)) (onward.One (record { rest = rest.Pairs a (b + 1); spot = s }))
same_leads n a b s h l m e = record {
  comes = ap (λ (ps : List (ℕ × ℕ)). map (envy_goal n (way_of s)) ps) (pairs_same n a b l m e);
  ready = record { known = h.known; agents_are = h.agents_are; few_agents = h.few_agents; first = h.first; second = omega arith };
  fewer = pair_fewer n a b m;
}

pub other_comes : (n a b : ℕ) (s : Known) → a ≤ n → b ≤ n → a ≢ b → left_at n (rest.Pairs a b) s ≡ envy_goal n (way_of s) (a, b) ∷ left_at n (rest.Pairs a (b + 1)) s
other_comes n a b s l m e = ap (λ (ps : List (ℕ × ℕ)). map (envy_goal n (way_of s)) ps) (pairs_other n a b l m e)
