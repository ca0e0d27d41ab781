-- A procedure that was found. It serves the contracts of private functions: a reader who believes Faults, Scope, Looks, Ways and Rules needs nothing of this file.
use Rattle.std.specs.Prelude.{Option}
use Rattle.std.specs.Borrow.{Bor}
use Rattle.std.specs.Option.{option_map}
use Rattle.slice_ast.specs.Code.{PlainProc}
use Rattle.slice_ast.specs.View.{proc_of}
use Rattle.slice_ast.specs.declared.tree.Proc.{Proc}

abbrev pub found_of : Option (Bor Proc) → Option PlainProc
found_of o = option_map (λ p. proc_of p.now) o
