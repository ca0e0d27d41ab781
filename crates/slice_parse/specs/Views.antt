-- What is read as plain data.
use Rattle.slice_ast.specs.View.{block_of}
use Rattle.slice_parse.specs.declared.statements.ClosedBlock.{ClosedBlock}
use Rattle.slice_parse.specs.Rules.{Braced}

-- the plain data of a block with its last place
abbrev pub braced_of : ClosedBlock → Braced
braced_of b = record { block = block_of b.block; close = b.close }
