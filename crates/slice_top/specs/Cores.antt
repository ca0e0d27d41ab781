-- How a program is checked and expanded.
use Rattle.std.specs.Prelude.{◌≡◌, ◌⊎◌, Option, Some, None}
use Rattle.slice_ast.specs.Code.{PlainProgram}
use Rattle.slice_affine.specs.declared.fault.AffineFault.{AffineFault}
use Rattle.slice_affine.specs.declared.fault.AffineFault.TheVariants as rule
use Rattle.slice_affine.specs.Rules.{MeetsRules, IsFirstFault}
use Rattle.slice_core.specs.Tree.{Core}
use Rattle.slice_expand.specs.declared.fault.ExpandFault.{ExpandFault}
use Rattle.slice_expand.specs.declared.fault.ExpandFault.TheVariants as expansion
use Rattle.slice_expand.specs.Expansion.{core_of}
use Rattle.slice_expand.specs.Limits.{first_limit}
use Rattle.slice_report.specs.declared.refusal.Refusal.{Refusal}
use Rattle.slice_report.specs.declared.refusal.Refusal.TheVariants.{Unbound, Rebound, UsedTwice, AgentRange, Arity, YieldCount, ZeroDen, ProcLimit, NodeLimit, DepthLimit, CutLimit, CallLimit}

-- the refusal for a rule that is broken; want of memory is none
abbrev pub rule_refusal : AffineFault → Option Refusal
rule_refusal (rule.Unbound name at) = Some (Unbound name at)
rule_refusal (rule.Rebound name at) = Some (Rebound name at)
rule_refusal (rule.UsedTwice name at first) = Some (UsedTwice name at first)
rule_refusal (rule.AgentRange at) = Some (AgentRange at)
rule_refusal (rule.Arity at) = Some (Arity at)
rule_refusal (rule.YieldCount at) = Some (YieldCount at)
rule_refusal (rule.ZeroDen at) = Some (ZeroDen at)
rule_refusal (rule.ProcLimit at) = Some (ProcLimit at)
rule_refusal rule.Memory = None

-- the program breaks a rule, this one first
abbrev pub RefusesRules : PlainProgram → Refusal → Type 0
RefusesRules p r = (f : AffineFault) × ((rule_refusal f ≡ Some r) × IsFirstFault p f)

-- the refusal for a limit that is passed; want of memory is none
abbrev pub limit_refusal : ExpandFault → Option Refusal
limit_refusal expansion.NodeLimit = Some NodeLimit
limit_refusal expansion.DepthLimit = Some DepthLimit
limit_refusal expansion.CutLimit = Some CutLimit
limit_refusal expansion.CallLimit = Some CallLimit
limit_refusal expansion.Memory = None

-- the program keeps the rules and passes a limit of expansion, this one first
pub record RefusesLimits (p : PlainProgram) (r : Refusal) : Type 0 where
  pub rules : MeetsRules p
  pub fault : ExpandFault
  pub told : limit_refusal fault ≡ Some r
  pub first : first_limit p ≡ Some fault

abbrev pub RefusesCore : PlainProgram → Refusal → Type 0
RefusesCore p r = RefusesRules p r ⊎ RefusesLimits p r

-- the program keeps the rules and passes no limit, and this is its core
pub record IsCoreOf (p : PlainProgram) (core : Core) : Type 0 where
  pub rules : MeetsRules p
  pub limits : first_limit p ≡ None
  pub same : core ≡ core_of p
