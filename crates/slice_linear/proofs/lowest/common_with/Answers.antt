use Rattle.std.proofs.Common.{ap, sym, pos, ◌≡◌, ◌∙◌, rules}
use Rattle.std.specs.Prelude.{unsigned_abs}
use Rattle.slice_num.specs.Gcd.{gcd_of}
use Rattle.slice_linear.proofs.Multiples.{gcd_zeros}
use Rattle.slice_linear.proofs.lowest.common_with.Goals as goal

pub returns-then-b-eq0-clause-value : goal.returns-then-b-eq0-clause-value
returns-then-b-eq0-clause-value c =
    let a : c.args.a ≡ pos 0 = search rules in
    let b : c.args.b ≡ pos 0 = search rules in
    sym ((λ i. pos (gcd_of (unsigned_abs (a i)) (unsigned_abs (b i)))) ∙ ap pos gcd_zeros)
