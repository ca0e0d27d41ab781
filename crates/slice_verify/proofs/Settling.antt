-- How the line of a refuted goal is written and the goals that it takes are passed over.
use Rattle.std.proofs.Common.{ℕ, List, ℤ, Option, inr}
use Rattle.slice_core.specs.Tree.{Core}
use Rattle.slice_paths.specs.Goals.{Goal}
use Rattle.slice_paths.specs.Streams.{Stream}
use Rattle.slice_verify.specs.Working.{GoalStops, LineIsOut, PassStops, goal_line}
use Rattle.slice_verify.specs.declared.verifier.VerifyFault.{VerifyFault}
use Rattle.slice_verify.specs.declared.verifier.VerifyFault.TheVariants.{GoalLimit, FormOverflow, PivotLimit, PivotOverflow, HeightLimit, WriteFault, Memory}

-- the line is out, and not all that it takes is passed over
pub pass_stops : (core : Core) (g : Goal) (s : Stream) (m : List ℤ) (old new : Option (List ℕ)) (e : VerifyFault) → LineIsOut core g m old new → PassStops s (goal_line core g m) e → GoalStops core g s old new e
pass_stops core g s m old new GoalLimit o h = (m, o, h)
pass_stops core g s m old new (FormOverflow k) o h = absurd h
pass_stops core g s m old new (PivotLimit k) o h = absurd h
pass_stops core g s m old new (PivotOverflow k p i j) o h = absurd h
pass_stops core g s m old new (HeightLimit k a b) o h = absurd h
pass_stops core g s m old new WriteFault o h = absurd h
pass_stops core g s m old new Memory o h = inr (m, o)
