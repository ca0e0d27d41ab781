-- The faults of the crates below as refusals.
use Rattle.std.proofs.Common.{◌≡◌, ◌≢◌, ℕ, List, Some, refl}
use Rattle.slice_lex.specs.declared.token.LexFault.TheVariants as lex
use Rattle.slice_parse.specs.declared.parser.ParseFault.{ParseFault}
use Rattle.slice_parse.specs.declared.parser.ParseFault.TheVariants as parser
use Rattle.slice_parse.specs.Parsing.{IsFaultOf}
use Rattle.slice_ast.specs.Code.{PlainProgram}
use Rattle.slice_affine.specs.declared.fault.AffineFault.{AffineFault}
use Rattle.slice_affine.specs.declared.fault.AffineFault.TheVariants as rule
use Rattle.slice_affine.specs.Faults.{TellsName}
use Rattle.slice_affine.specs.Rules.{MeetsRules, IsFirstFault}
use Rattle.slice_expand.specs.declared.fault.ExpandFault.{ExpandFault}
use Rattle.slice_expand.specs.declared.fault.ExpandFault.TheVariants as expansion
use Rattle.slice_expand.specs.Limits.{first_limit, IsFirst}
use Rattle.slice_run.specs.declared.outcome.RunFault.{RunFault}
use Rattle.slice_run.specs.declared.outcome.RunFault.TheVariants as fault
use Rattle.slice_step.specs.ValuationFile.{valuations_fault, replay_fault}
use Rattle.slice_step.specs.declared.fault.ValuationFault.{ValuationFault}
use Rattle.slice_step.specs.declared.fault.ValuationFault.TheVariants as values
use Rattle.slice_run.specs.Outcomes.{FaultIs}
use Rattle.slice_run.specs.Walk.{Told, Walked}
use Rattle.slice_top.specs.Programs.{RefusesText, text_refusal}
use Rattle.slice_top.specs.Cores.{RefusesRules, RefusesLimits, rule_refusal, limit_refusal}
use Rattle.slice_top.specs.Values.{RefusesValues, RefusesReplay, values_refusal}
use Rattle.slice_top.specs.Runs.{RefusesRun, run_refusal}
use Rattle.slice_top.specs.Stops.{StopsFor, stop_for}

pub stops_text : (text : List ℕ) (f : ParseFault) → IsFaultOf text f → StopsFor (RefusesText text) (stop_for (text_refusal f))
stops_text text (parser.Lex (lex.BadByte at)) h = ((parser.Lex (lex.BadByte at), (refl, h)), tt)
stops_text text (parser.Lex (lex.LongWord at)) h = ((parser.Lex (lex.LongWord at), (refl, h)), tt)
stops_text text (parser.Lex (lex.LongNumber at)) h = ((parser.Lex (lex.LongNumber at), (refl, h)), tt)
stops_text text (parser.Lex (lex.LeadingZero at)) h = ((parser.Lex (lex.LeadingZero at), (refl, h)), tt)
stops_text text (parser.Lex lex.Memory) h = tt
stops_text text (parser.Syntax at) h = ((parser.Syntax at, (refl, h)), tt)
stops_text text (parser.DeepBlock at) h = ((parser.DeepBlock at, (refl, h)), tt)
stops_text text (parser.LongSum at) h = ((parser.LongSum at, (refl, h)), tt)
stops_text text parser.Memory h = tt

pub stops_rules : (p : PlainProgram) (f : AffineFault) → (f ≢ rule.Memory → IsFirstFault p f) → TellsName f → StopsFor (RefusesRules p) (stop_for (rule_refusal f))
stops_rules p (rule.Unbound name at) h n = ((rule.Unbound name at, (refl, h (λ e. cc))), n)
stops_rules p (rule.Rebound name at) h n = ((rule.Rebound name at, (refl, h (λ e. cc))), n)
stops_rules p (rule.UsedTwice name at first) h n = ((rule.UsedTwice name at first, (refl, h (λ e. cc))), n)
stops_rules p (rule.AgentRange at) h n = ((rule.AgentRange at, (refl, h (λ e. cc))), tt)
stops_rules p (rule.Arity at) h n = ((rule.Arity at, (refl, h (λ e. cc))), tt)
stops_rules p (rule.YieldCount at) h n = ((rule.YieldCount at, (refl, h (λ e. cc))), tt)
stops_rules p (rule.ZeroDen at) h n = ((rule.ZeroDen at, (refl, h (λ e. cc))), tt)
stops_rules p (rule.ProcLimit at) h n = ((rule.ProcLimit at, (refl, h (λ e. cc))), tt)
stops_rules p rule.Memory h n = tt

pub stops_limits : (p : PlainProgram) (f : ExpandFault) → MeetsRules p → IsFirst f (first_limit p) → StopsFor (RefusesLimits p) (stop_for (limit_refusal f))
stops_limits p expansion.NodeLimit m h = (record { rules = m; fault = expansion.NodeLimit; told = refl; first = h }, tt)
stops_limits p expansion.DepthLimit m h = (record { rules = m; fault = expansion.DepthLimit; told = refl; first = h }, tt)
stops_limits p expansion.CutLimit m h = (record { rules = m; fault = expansion.CutLimit; told = refl; first = h }, tt)
stops_limits p expansion.CallLimit m h = (record { rules = m; fault = expansion.CallLimit; told = refl; first = h }, tt)
stops_limits p expansion.Memory m h = tt

pub stops_values : (bytes : List ℕ) (agents : ℕ) (f : ValuationFault) → (f ≢ values.Memory → valuations_fault bytes agents ≡ Some f) → StopsFor (RefusesValues bytes agents) (stop_for (values_refusal f))
stops_values bytes agents values.Json h = ((values.Json, (refl, h (λ e. cc))), tt)
stops_values bytes agents (values.Shape agent) h = (((values.Shape agent), (refl, h (λ e. cc))), tt)
stops_values bytes agents values.AgentCount h = ((values.AgentCount, (refl, h (λ e. cc))), tt)
stops_values bytes agents (values.NotWhole agent) h = (((values.NotWhole agent), (refl, h (λ e. cc))), tt)
stops_values bytes agents (values.EndsOrder agent) h = (((values.EndsOrder agent), (refl, h (λ e. cc))), tt)
stops_values bytes agents (values.HeightRange agent) h = (((values.HeightRange agent), (refl, h (λ e. cc))), tt)
stops_values bytes agents (values.NoTotal agent) h = (((values.NoTotal agent), (refl, h (λ e. cc))), tt)
stops_values bytes agents (values.LengthsDiffer agent) h = (((values.LengthsDiffer agent), (refl, h (λ e. cc))), tt)
stops_values bytes agents (values.CutForm index) h = (((values.CutForm index), (refl, h (λ e. cc))), tt)
stops_values bytes agents values.Memory h = tt

pub stops_replay : (bytes : List ℕ) (agents : ℕ) (f : ValuationFault) → (f ≢ values.Memory → replay_fault bytes agents ≡ Some f) → StopsFor (RefusesReplay bytes agents) (stop_for (values_refusal f))
stops_replay bytes agents values.Json h = ((values.Json, (refl, h (λ e. cc))), tt)
stops_replay bytes agents (values.Shape agent) h = (((values.Shape agent), (refl, h (λ e. cc))), tt)
stops_replay bytes agents values.AgentCount h = ((values.AgentCount, (refl, h (λ e. cc))), tt)
stops_replay bytes agents (values.NotWhole agent) h = (((values.NotWhole agent), (refl, h (λ e. cc))), tt)
stops_replay bytes agents (values.EndsOrder agent) h = (((values.EndsOrder agent), (refl, h (λ e. cc))), tt)
stops_replay bytes agents (values.HeightRange agent) h = (((values.HeightRange agent), (refl, h (λ e. cc))), tt)
stops_replay bytes agents (values.NoTotal agent) h = (((values.NoTotal agent), (refl, h (λ e. cc))), tt)
stops_replay bytes agents (values.LengthsDiffer agent) h = (((values.LengthsDiffer agent), (refl, h (λ e. cc))), tt)
stops_replay bytes agents (values.CutForm index) h = (((values.CutForm index), (refl, h (λ e. cc))), tt)
stops_replay bytes agents values.Memory h = tt

pub stops_run : (w : Walked Told) (f : RunFault) → FaultIs f w → StopsFor (RefusesRun w) (stop_for (run_refusal f))
stops_run w (fault.Overflow query) h = ((fault.Overflow query, (refl, h)), tt)
stops_run w (fault.BadAnswer query) h = ((fault.BadAnswer query, (refl, h)), tt)
stops_run w (fault.TooFewAnswers query) h = ((fault.TooFewAnswers query, (refl, h)), tt)
stops_run w fault.TooManyAnswers h = ((fault.TooManyAnswers, (refl, h)), tt)
stops_run w fault.Memory h = tt
