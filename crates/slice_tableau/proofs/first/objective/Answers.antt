use Rattle.std.proofs.Common.{◌+◌, ◌≡◌, ◌∙◌, ap, length, pos, replicate}
use Rattle.std.proofs.lemmas.List.{length-replicate}
use Rattle.slice_linear.specs.Sums.{at}
use Rattle.slice_tableau.proofs.FirstLaws.{objective_is, all_zero}
use Rattle.slice_tableau.proofs.first.objective.Goals as goal

pub returns : goal.returns
returns c =
    let old : c.in_ok-line.line ≡ replicate (c.args.size.unknowns + c.args.size.height + 3) (pos 0) = c.in_ok-line.ensures in
    let long : length c.in_ok-line.line ≡ c.args.size.unknowns + c.args.size.height + 3 = ap length old ∙ length-replicate (c.args.size.unknowns + c.args.size.height + 3) (pos 0) in
    rw (c.put-2.ensures, c.put.ensures) (objective_is c.args.size.unknowns c.args.size.height c.in_ok-line.line long (λ j. ap (λ x. at x j) old ∙ all_zero (c.args.size.unknowns + c.args.size.height + 3) j))
