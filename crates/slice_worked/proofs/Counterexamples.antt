-- The closing lines of two counterexamples, computed.
use Rattle.std.proofs.Common.{◌≡◌, ℕ, List, [], ◌∷◌, pos, refl}
use Rattle.std.specs.Prelude.{codes}
use Rattle.slice_num.specs.Gcd.{gcd_of, gcd_steps}
use Rattle.slice_num.specs.Rational.{ratio, whole}
use Rattle.slice_counter.specs.CounterLine.{counter_json}
use Rattle.slice_json.specs.Texts.{line_of}
use Rattle.json.specs.Print.{escape_byte}
use Rattle.std.specs.Fmt.{digits}
use Rattle.slice_paths.specs.declared.goal.GoalKind.TheVariants as goal_kind

abbrev envied : List ℕ
envied = line_of (counter_json 2 (goal_kind.Envy 1 2) 1
    (record { ends = 1 ∷ 2 ∷ []; heights = 1 ∷ 2 ∷ [] } ∷ record { ends = 1 ∷ 2 ∷ []; heights = 3 ∷ 0 ∷ [] } ∷ [])
    (record { part = 0; point = whole (pos 1) } ∷ []))

envy_line : envied ≡ codes "{\"closing\":\"counterexample\",\"cuts\":[\"1\"],\"goal\":2,\"outcome\":{\"agent\":1,\"envies\":2},\"valuations\":[{\"ends\":[1,2],\"heights\":[1,2]},{\"ends\":[1,2],\"heights\":[3,0]}]}\n"
unfolding digits escape_byte ratio gcd_of gcd_steps
envy_line = refl

-- the part is told where it isn't the first, and the query where the run is stuck
abbrev halted : List ℕ
halted = line_of (counter_json 1 goal_kind.High 0 (record { ends = 1 ∷ []; heights = 1 ∷ [] } ∷ []) (record { part = 1; point = ratio (pos 3) 2 } ∷ []))

stuck_line : halted ≡ codes "{\"closing\":\"counterexample\",\"cuts\":[[1,\"3/2\"]],\"goal\":1,\"outcome\":{\"query\":0,\"side\":\"high\"},\"valuations\":[{\"ends\":[1],\"heights\":[1]}]}\n"
unfolding digits escape_byte ratio gcd_of gcd_steps
stuck_line = refl
