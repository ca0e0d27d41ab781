use Rattle.slice_paths.proofs.retrace.+part_taken.Given as goal

abbrev pub decreases-part_taken : goal.decreases-part_taken
decreases-part_taken l = l.parts
