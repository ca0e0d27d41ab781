use Rattle.std.proofs.Common.{◌≡◌, map, [], replicate}
use Rattle.slice_piece.proofs.book.Book.new.Given as goal

abbrev pub invariant-loop-agent : goal.invariant-loop-agent
invariant-loop-agent l = map (λ s. s.items) l.shares.items ≡ replicate l.agent []
