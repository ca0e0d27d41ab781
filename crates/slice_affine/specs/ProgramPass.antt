-- The pass over a program: each procedure once, then the protocol. It serves the contracts of private functions: a reader who believes Faults, Scope, Looks, Ways and Rules needs nothing of this file.
use Rattle.std.specs.Prelude.{ℕ, ◌&&◌, ◌==◌, nat_le, is_some, length, if◌then◌else◌, List, [], ◌∷◌, ◌++◌, Option, Some, None, codes}
use Rattle.slice_ast.specs.Code.{PlainProc, PlainProgram}
use Rattle.slice_ast.specs.declared.tree.Kind.TheVariants as kind
use Rattle.slice_ast.specs.declared.tree.Name.{Name}
use Rattle.slice_ast.specs.declared.tree.Number.{Number}
use Rattle.slice_ast.specs.declared.tree.Param.{Param}
use Rattle.slice_affine.specs.Looks.{unless, procedure}
use Rattle.slice_affine.specs.Pass.{State, Passed, Went, Failed, then_pass, tell, looked, stepped, bound_one, pass}
use Rattle.slice_affine.specs.declared.fault.AffineFault.{AffineFault}
use Rattle.slice_affine.specs.declared.fault.AffineFault.TheVariants.{Rebound, AgentRange, ProcLimit}

-- nothing is in scope, and nothing was found
abbrev pub fresh : ℕ → State
fresh count = record { count = count; names = []; trail = []; found = None }

-- the cake is in scope
abbrev pub fresh_cake : ℕ → State
fresh_cake count = record { count = count; names = (codes "cake", (kind.Piece, None)) ∷ []; trail = []; found = None }

-- a parameter is bound
abbrev pub bound_param : Param → State → State
bound_param p s = bound_one p.kind p.name s

-- the procedure's name is that of an earlier one, or it is the 65th
abbrev pub defined_twice : List PlainProc → Name → List AffineFault
defined_twice earlier n = if is_some (procedure earlier n.word) then Rebound n.word n.at ∷ [] else []

abbrev pub past_limit : List PlainProc → Name → List AffineFault
past_limit earlier n = if length earlier == 64 then ProcLimit n.at ∷ [] else []

-- the head of a procedure
abbrev pub head_step : List PlainProc → PlainProc → State → State
head_step earlier p s = stepped bound_param p.params (looked (past_limit earlier p.name) (looked (defined_twice earlier p.name) s))

abbrev pub proc_pass : ℕ → List PlainProc → PlainProc → Passed
proc_pass count earlier p = then_pass (tell (head_step earlier p (fresh count))) (pass earlier p.body.code p.body.yields)

-- the number of agents
abbrev pub count_faults : Number → List AffineFault
count_faults n = unless (nat_le 1 n.value && nat_le n.value 16) (AgentRange n.at)

abbrev pub protocol_pass : List PlainProc → PlainProgram → Passed
protocol_pass procs p = then_pass (tell (looked (count_faults p.agents) (fresh_cake p.agents.value))) (pass procs p.body [])

-- the fault that a pass ends with, where it does
abbrev pub fault_of : Passed → Option AffineFault
fault_of (Went s) = None
fault_of (Failed f) = Some f

-- the first of two faults, where there are two
abbrev pub or_else : Option AffineFault → Option AffineFault → Option AffineFault
or_else None g = g
or_else (Some f) g = Some f

abbrev pub procs_fault : PlainProgram → List PlainProc → List PlainProc → Option AffineFault
procs_fault p earlier [] = fault_of (protocol_pass earlier p)
procs_fault p earlier (q ∷ qs) = or_else (fault_of (proc_pass p.agents.value earlier q)) (procs_fault p (earlier ++ q ∷ []) qs)

abbrev pub program_fault : PlainProgram → Option AffineFault
program_fault p = procs_fault p [] p.procs
