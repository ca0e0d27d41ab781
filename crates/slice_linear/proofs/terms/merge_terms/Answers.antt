use Rattle.std.proofs.Common.{◌≡◌, false, true, arith}
use Rattle.std.proofs.lemmas.Grind.{common_steps}
use Rattle.slice_linear.proofs.Merge.{merge, merge_fits}
use Rattle.slice_linear.proofs.MergeLaws.{merged}
use Rattle.slice_linear.proofs.terms.merge_terms.Goals as goal

pub returns-clause-sum : goal.returns-clause-sum
returns-clause-sum c =
    let m = merged c.args.xs.now c.args.ys.now c.requires.left c.requires.right in
    let e : c.loop-i.made.items ≡ merge c.args.xs.now c.args.ys.now = grind (arith, common_steps) in
    rw e m.sums

pub returns-clause-fits : goal.returns-clause-fits
returns-clause-fits c =
    let m = merged c.args.xs.now c.args.ys.now c.requires.left c.requires.right in
    let f : merge_fits c.args.xs.now c.args.ys.now ≡ true = grind (arith, common_steps) in
    m.all_fit f

pub returns-clause-terms : goal.returns-clause-terms
returns-clause-terms c =
    let m = merged c.args.xs.now c.args.ys.now c.requires.left c.requires.right in
    let e : c.loop-i.made.items ≡ merge c.args.xs.now c.args.ys.now = grind (arith, common_steps) in
    rw e m.terms

pub returns-in-Err-clause-overflow : goal.returns-in-Err-clause-overflow
returns-in-Err-clause-overflow c = λ o h.
    let m = merged c.args.xs.now c.args.ys.now c.requires.left c.requires.right in
    let f = c.in-Err.ensures.overflow o in
    let g : merge_fits c.args.xs.now c.args.ys.now ≡ true = m.fit_is h in
    let k : merge_fits c.args.xs.now c.args.ys.now ≡ false = grind (arith, common_steps) in
    cc
