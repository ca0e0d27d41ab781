use Rattle.std.proofs.Common.{take}
use Rattle.slice_parse.specs.Classes.{AreToldApart}
use Rattle.slice_parse.proofs.lexemes.lexemes.Given as goal

abbrev pub invariant-loop-token : goal.invariant-loop-token
invariant-loop-token l = AreToldApart l.file (take l.token-index l.tokens) l.found
