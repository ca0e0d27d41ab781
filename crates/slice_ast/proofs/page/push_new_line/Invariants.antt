use Rattle.std.proofs.Common.{◌≡◌, ◌++◌}
use Rattle.slice_ast.specs.Layout.{indent}
use Rattle.slice_ast.proofs.page.push_new_line.Given as goal

-- the spaces of the turns so far are there
abbrev pub invariant-loop : goal.invariant-loop
invariant-loop l = l.text.items ≡ l.initial.text.items ++ indent l.counter
