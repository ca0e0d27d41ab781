use Rattle.std.proofs.Common.{◌+◌, ◌≡◌, ◌∙◌, ap, length, pos, to_z-of_z, replicate}
use Rattle.std.proofs.lemmas.List.{length-replicate}
use Rattle.slice_tableau.proofs.FirstLaws.{line_is}
use Rattle.slice_tableau.proofs.first.line.Goals as goal

pub returns : goal.returns
returns c =
    let old : c.in_ok-line.line ≡ replicate (c.args.size.unknowns + c.args.size.height + 3) (pos 0) = c.in_ok-line.ensures in
    let long : length c.put_coefs.new.row ≡ c.args.size.unknowns + c.args.size.height + 3 = c.put_coefs.ensures.width ∙ ap length old ∙ length-replicate (c.args.size.unknowns + c.args.size.height + 3) (pos 0) in
    rw (c.put-3.ensures, c.put-2.ensures, c.put.ensures, to_z-of_z c.ranges.t, to_z-of_z c.ranges.right)
    (line_is c.args.size.unknowns c.args.size.height c.args.place record { sign = c.args.sign; coefs = c.args.coefs.now; t = c.args.t; right = c.args.right } c.put_coefs.new.row
    c.requires.place long c.requires.width (λ j lt. simp (to_z-of_z c.ranges.sign) at (c.put_coefs.ensures.front j lt)) c.put_coefs.ensures.rest)
