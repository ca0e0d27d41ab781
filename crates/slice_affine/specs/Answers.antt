-- What a step of the checker answers. It serves the contracts of private functions: a reader who believes Faults, Scope, Looks, Ways and Rules needs nothing of this file.
use Rattle.std.specs.Prelude.{◌≡◌, ◌≢◌, Result, Ok, Err, Option, Some, None}
use Rattle.std.specs.Prelude.{List}
use Rattle.slice_affine.specs.Pass.{State, Passed, Went, Failed, Closed, Left, Broken}
use Rattle.slice_affine.specs.declared.trail.Use.{Use}
use Rattle.slice_affine.specs.declared.fault.AffineFault.{AffineFault}
use Rattle.slice_affine.specs.declared.fault.AffineFault.TheVariants.{Memory}

-- the step goes on with the state that it left, or tells the fault, unless memory ran out
abbrev pub Goes : Passed → Result (Unit {0}) AffineFault → State → Type 0
Goes p (Ok u) s = p ≡ Went s
Goes p (Err f) s = f ≢ Memory → p ≡ Failed f

-- the same of a block inside, with the uses that it made
abbrev pub Closes : {A : Type 0} → (A → List Use) → Closed → Result A AffineFault → State → Type 0
Closes uses p (Ok u) s = p ≡ Left (uses u) s
Closes uses p (Err f) s = f ≢ Memory → p ≡ Broken f

-- the same of a pass of which only the fault is told
abbrev pub Ends : Option AffineFault → Result (Unit {0}) AffineFault → Type 0
Ends o (Ok u) = o ≡ None
Ends o (Err f) = f ≢ Memory → o ≡ Some f
