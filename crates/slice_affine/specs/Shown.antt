-- What contracts see of the checker's tables. It serves the contracts of private functions: a reader who believes Faults, Scope, Looks, Ways and Rules needs nothing of this file.
use Rattle.std.specs.Prelude.{ℕ, List, Option}
use Rattle.std.specs.Borrow.{Bor}
use Rattle.slice_ast.specs.declared.tree.Kind.{Kind}
use Rattle.slice_affine.specs.declared.names.Standing.{Standing}

-- a standing as a pair
abbrev pub stands : Standing → Kind × Option ℕ
stands s = (s.kind, s.used)

-- an entry of the table
abbrev pub shown : Bor (List ℕ) × Standing → List ℕ × (Kind × Option ℕ)
shown e = (e.0.now, stands e.1)
