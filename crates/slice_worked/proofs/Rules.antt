-- Definitions computed on a program that uses a piece twice, and on parts of statements.
use Rattle.std.proofs.Common.{◌≡◌, ℕ, List, [], ◌∷◌, true, false, inl, inr, refl}
use Rattle.std.specs.Prelude.{codes, None, Some}
use Rattle.slice_ast.specs.Code as code
use Rattle.slice_ast.specs.Code.{PlainProgram}
use Rattle.slice_ast.specs.declared.tree.Name.{Name}
use Rattle.slice_ast.specs.declared.tree.Number.{Number}
use Rattle.slice_ast.specs.declared.tree.AgentRef.TheVariants as ref
use Rattle.slice_ast.specs.declared.tree.Operand.TheVariants as operand
use Rattle.slice_ast.specs.declared.tree.Sum.{Sum}
use Rattle.slice_ast.specs.declared.tree.Fraction.{Fraction}
use Rattle.slice_ast.specs.declared.tree.Cmp.TheVariants as cmp
use Rattle.slice_affine.specs.Faults.{is_before}
use Rattle.slice_affine.specs.Looks.{rebound, agent_range, den_faults, pick_faults, if_faults, call_faults}
use Rattle.slice_affine.specs.Ways.{Event, ComesAfterOnAWay}
use Rattle.slice_affine.specs.Rules.{flow_of, count_stage}
use Rattle.slice_affine.specs.declared.fault.AffineFault.TheVariants.{Unbound, Rebound, UsedTwice, AgentRange, YieldCount, ZeroDen}

abbrev named : List ℕ → ℕ → Name
named text at = record { word = text; at = at }

abbrev number : ℕ → ℕ → Number
number n at = record { value = n; at = at }

abbrev sum_of : Fraction → Sum
sum_of f = record { terms = record { minus = false; factor = None; operand = operand.Fraction f } ∷ [] }

-- ---- protocol p agents 2 { cut 1 cake at 1/2 as l, r; if 1 >= 0 { give l to 1; } else { } give l to 2; }

used_twice : PlainProgram
used_twice = record {
  procs = [];
  name = named (codes "p") 9;
  agents = number 2 18;
  body =
      code.Cut (ref.Fixed (number 1 26)) (named (codes "cake") 28) (sum_of (record { num = number 1 36; den = Some (number 2 38) })) (named (codes "l") 43) (named (codes "r") 46)
      (code.If (sum_of (record { num = number 1 52; den = None })) cmp.AtLeast (sum_of (record { num = number 0 57; den = None }))
      (code.Give (named (codes "l") 66) (ref.Fixed (number 1 71)) code.End) [] code.End [] [] 83
      (code.Give (named (codes "l") 90) (ref.Fixed (number 2 95)) code.End));
}

-- `l` is the piece that the name at 43 binds
abbrev give_at : ℕ → Event
give_at at = record { is_use = true; piece = 44; name = named (codes "l") at }

abbrev cut_of_cake : Event
cut_of_cake = record { is_use = true; piece = 0; name = named (codes "cake") 28 }

-- on the way through the first arm the gift at 90 comes after that at 66, though the second arm gives nothing
after_the_first_gift : ComesAfterOnAWay (flow_of used_twice) 66 (give_at 90)
unfolding used_twice
after_the_first_gift = (
  cut_of_cake ∷ give_at 66 ∷ give_at 90 ∷ [],
  (
    cut_of_cake ∷ give_at 66 ∷ give_at 90 ∷ [],
    refl,
    (
      give_at 66 ∷ give_at 90 ∷ [],
      refl,
      (
        give_at 66 ∷ give_at 90 ∷ [],
        refl,
        (
          give_at 66 ∷ [],
          give_at 90 ∷ [],
          refl,
          inl ([], refl, ([], refl, refl)),
          (give_at 90 ∷ [], refl, ([], refl, ([], refl, refl))),
        ),
      ),
    ),
  ),
  inr (inl ((refl, refl, refl), inl refl)),
)

-- ---- faults of one part of a statement

in_scope_already : rebound (codes "cake" ∷ codes "l" ∷ []) (named (codes "l") 43 ∷ []) ≡ Rebound (codes "l") 43 ∷ []
in_scope_already = refl

bound_twice_at_once : rebound [] (named (codes "l") 43 ∷ named (codes "l") 46 ∷ []) ≡ Rebound (codes "l") 46 ∷ []
bound_twice_at_once = refl

agent_nought : agent_range 2 (number 0 26) ≡ AgentRange 26 ∷ []
agent_nought = refl

last_agent : agent_range 2 (number 2 26) ≡ []
last_agent = refl

one_agent_more : agent_range 2 (number 3 26) ≡ AgentRange 26 ∷ []
one_agent_more = refl

no_agents : (count_stage (number 0 18)).faults ≡ AgentRange 18 ∷ []
no_agents = refl

sixteen_agents : (count_stage (number 16 18)).faults ≡ []
sixteen_agents = refl

seventeen_agents : (count_stage (number 17 18)).faults ≡ AgentRange 18 ∷ []
seventeen_agents = refl

over_nought : den_faults (Some (number 0 38)) ≡ ZeroDen 38 ∷ []
over_nought = refl

pick_of_one : pick_faults (named (codes "l") 40 ∷ []) (named (codes "m") 50 ∷ []) 51 ≡ YieldCount 51 ∷ []
pick_of_one = refl

one_arm_yields : if_faults (named (codes "l") 40 ∷ []) [] (named (codes "m") 50 ∷ []) 51 ≡ YieldCount 51 ∷ []
one_arm_yields = refl

no_procedure : call_faults [] (named (codes "f") 30) [] [] 35 ≡ Unbound (codes "f") 30 ∷ []
no_procedure = refl

-- the lesser place is told, and at one place Unbound before UsedTwice
by_place : is_before (AgentRange 5) (Unbound (codes "l") 6) ≡ true
unfolding is_before
by_place = refl

at_one_place : is_before (Unbound (codes "l") 6) (UsedTwice (codes "l") 6 3) ≡ true
unfolding is_before
at_one_place = refl
