use Rattle.std.proofs.Common.{◌≡◌, ◌∙◌, ℕ, List, ap, arith}
use Rattle.slice_paths.specs.Counting.{part_count, used_counts}
use Rattle.slice_paths.proofs.CountSteps.{few_joined}
use Rattle.slice_paths.proofs.counting.after_join.Goals as goal

pub overflow_add-parts : goal.overflow_add-parts
overflow_add-parts c =
    let a = c.args in
    let second : c.parts_of-2.result ≡ part_count (used_counts a.counts.now a.first) a.second =
    c.parts_of-2.ensures ∙ ap (λ (cs : List ℕ). part_count cs a.second) (c.as_slice.ensures.value ∙ c.in_ok-alone.ensures) in
    omega (arith, c.parts_of.ensures, second, few_joined a.counts.now a.first a.second, c.requires)
