use Rattle.std.proofs.Common.{◌≡◌}
use Rattle.slice_expand.specs.Scope.{look}
use Rattle.slice_expand.specs.Stand.{scope_of, link_scope}
use Rattle.slice_expand.proofs.names.Link.look.Given as goal

abbrev pub invariant-loop-link : goal.invariant-loop-link
invariant-loop-link l = look (scope_of l.link) l.word ≡ look (link_scope l.self) l.word
