-- The rules of a program, and the first fault of one that breaks them.
use Rattle.std.specs.Prelude.{ℕ, Bool, true, false, ◌&&◌, ◌==◌, nat_le, is_some, length, if◌then◌else◌, List, [], ◌∷◌, ◌++◌, map, Option, Some}
use Rattle.std.specs.List.{flat_map}
use Rattle.std.specs.Map.{keys_of}
use Rattle.slice_ast.specs.Code.{Code, End, Cut, Let, Join, Give, If, Pick, Call, PlainProc, PlainProgram}
use Rattle.slice_ast.specs.declared.tree.Kind.{Kind}
use Rattle.slice_ast.specs.declared.tree.Kind.TheVariants as kind
use Rattle.slice_ast.specs.declared.tree.Name.{Name}
use Rattle.slice_ast.specs.declared.tree.Number.{Number}
use Rattle.slice_affine.specs.Scope.{Scope, Binding, look, bind, bind_number, params_scope, cake_scope}
use Rattle.slice_affine.specs.Looks.{unless, rebound, ref_faults, sum_faults, arg_faults, pieces_faults, sum_asks, arg_asks, arg_uses, if_faults, pick_faults, call_faults, procedure}
use Rattle.slice_affine.specs.Ways.{Event, Stage, Flow, Stop, Then, Split, Stands, IsFirst}
use Rattle.slice_affine.specs.declared.fault.AffineFault.{AffineFault}
use Rattle.slice_affine.specs.declared.fault.AffineFault.TheVariants.{Rebound, AgentRange, ProcLimit}

-- the event of a name that stands for a piece; another name has none
abbrev pub event_of : Bool → Name → Option (Kind × Binding) → List Event
event_of is_use n (Some (kind.Piece, b)) = record { is_use = is_use; piece = b; name = n } ∷ []
event_of is_use n m = []

-- the events of names, looked up in the scope
abbrev pub events : Bool → Scope Binding → List Name → List Event
events is_use scope names = flat_map (λ n. event_of is_use n (look scope n.word)) names

-- pieces that `value` asks
abbrev pub askings : Scope Binding → List Name → List Event
askings = events false

-- pieces that are used
abbrev pub uses : Scope Binding → List Name → List Event
uses = events true

-- a statement whose parts have these faults: it asks these pieces, then uses these, then binds these names
abbrev pub stage : Scope Binding → List AffineFault → List Name → List Name → List Name → Stage
stage scope faults asked used names = record { faults = faults; events = askings scope asked ++ uses scope used; rebinds = rebound (keys_of scope) names }

-- the flow of statements and of what their block yields, one case for each statement: there are `count` agents, these procedures were defined earlier, and these names are in scope
module _ (count : ℕ) (earlier : List PlainProc) where
  abbrev pub block_flow : Scope Binding → Code → List Name → Flow
  block_flow scope End ys = Then (stage scope (pieces_faults scope ys) [] ys []) Stop
  block_flow scope (Cut a p s l r rest) ys =
      Then (stage scope (ref_faults count scope a ++ pieces_faults scope (p ∷ []) ++ sum_faults count scope s) (sum_asks s) (p ∷ []) (l ∷ r ∷ []))
      (block_flow (bind (l ∷ r ∷ []) scope) rest ys)
  block_flow scope (Let n s rest) ys =
      Then (stage scope (sum_faults count scope s) (sum_asks s) [] (n ∷ []))
      (block_flow (bind_number n scope) rest ys)
  block_flow scope (Join p q n rest) ys =
      Then (stage scope (pieces_faults scope (p ∷ q ∷ [])) [] (p ∷ q ∷ []) (n ∷ []))
      (block_flow (bind (n ∷ []) scope) rest ys)
  block_flow scope (Give p a rest) ys =
      Then (stage scope (pieces_faults scope (p ∷ []) ++ ref_faults count scope a) [] (p ∷ []) [])
      (block_flow scope rest ys)
  block_flow scope (If l o r one one_yields other other_yields names end rest) ys =
      Then (stage scope (sum_faults count scope l ++ sum_faults count scope r) (sum_asks l ++ sum_asks r) [] [])
      (Split (block_flow scope one one_yields) (block_flow scope other other_yields)
      (Then (stage scope (if_faults one_yields other_yields names end) [] [] names)
      (block_flow (bind names scope) rest ys)))
  block_flow scope (Pick a ps ns end rest) ys =
      Then (stage scope (ref_faults count scope a ++ pieces_faults scope ps ++ pick_faults ps ns end) [] ps ns)
      (block_flow (bind ns scope) rest ys)
  block_flow scope (Call f xs ns end rest) ys =
      Then (stage scope (call_faults earlier f xs ns end ++ flat_map (arg_faults count scope) xs) (flat_map arg_asks xs) (flat_map arg_uses xs) ns)
      (block_flow (bind ns scope) rest ys)

-- the head of a procedure: its name isn't that of an earlier one, it isn't the 65th, and no parameter repeats
abbrev pub head_stage : List PlainProc → PlainProc → Stage
head_stage earlier p = record {
  faults = (if is_some (procedure earlier p.name.word) then Rebound p.name.word p.name.at ∷ [] else []) ++ (if length earlier == 64 then ProcLimit p.name.at ∷ [] else []);
  events = [];
  rebinds = rebound [] (map (λ q. q.name) p.params);
}

-- the protocol has 1 to 16 agents
abbrev pub count_stage : Number → Stage
count_stage n = record { faults = unless (nat_le 1 n.value && nat_le n.value 16) (AgentRange n.at); events = []; rebinds = [] }

-- the flow of the procedures that are left after these earlier ones, and of the protocol: a way through it is a way through the block of one procedure, or through the protocol's. Each block begins with its own names alone
abbrev pub procs_flow : PlainProgram → List PlainProc → List PlainProc → Flow
procs_flow p earlier [] = Then (count_stage p.agents) (block_flow p.agents.value earlier cake_scope p.body [])
procs_flow p earlier (q ∷ qs) =
    Then (head_stage earlier q)
    (Split (block_flow p.agents.value earlier (params_scope q.params) q.body.code q.body.yields) (procs_flow p (earlier ++ q ∷ []) qs) Stop)

-- the flow of a program
abbrev pub flow_of : PlainProgram → Flow
flow_of p = procs_flow p [] p.procs

-- the program meets every rule: no fault stands in it
abbrev pub MeetsRules : PlainProgram → Type 0
MeetsRules p = (f : AffineFault) → Stands (flow_of p) f → ⊥

-- the fault is the first that stands in the program
abbrev pub IsFirstFault : PlainProgram → AffineFault → Type 0
IsFirstFault p f = IsFirst (flow_of p) f
