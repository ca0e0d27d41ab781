use Rattle.std.proofs.Common.{◌≡◌, ℕ, sym, subst, rules, length, List, ℤ}
use Rattle.std.proofs.lemmas.List.{with_items_is}
use Rattle.slice_num.specs.Rational.{Fits}
use Rattle.slice_linear.specs.Sums.{at}
use Rattle.slice_simplex.proofs.solution.end_solution.Goals as goal

pub returns-clause-fits : goal.returns-clause-fits
returns-clause-fits c =
    let full : length c.reduce.new.numbers ≡ c.in_ok-numbers.numbers.len = search rules in
    let items = with_items_is c.in_ok-numbers.numbers c.reduce.new.numbers full in
    subst (λ (x : List ℤ). (j : ℕ) → Fits (at x j)) (sym items) c.reduce.ensures.fit
