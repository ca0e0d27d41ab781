use Rattle.std.proofs.Common.{◌≡◌, ◌-◌, ℕ, suc, true, false, refl, [], ◌∷◌, ◌++◌, List, map, sym, subst, arith}
use Rattle.slice_linear.specs.Rows.{LinearRow}
use Rattle.slice_atoms.specs.Numbers.{cake_of}
use Rattle.slice_paths.specs.Places.{whole_condition, first_conditions}
use Rattle.slice_paths.specs.Goals.{row_of}
use Rattle.slice_paths.specs.Events.{row_fits, rows_fit}
use Rattle.slice_paths.proofs.SpotLaws.{on_ok}
use Rattle.slice_paths.proofs.SumLaws.{all_err}
use Rattle.slice_paths.proofs.RowLaws.{firsts_put, firsts_fit, firsts_break}
use Rattle.slice_paths.proofs.rows.+put_first.Goals as goal

pub returns-in-Ok-clause-ok : goal.returns-in-Ok-clause-ok
returns-in-Ok-clause-ok t c =
    let v = c.args.atoms.now in
    let n = c.args.agents - 1 in
    let e : suc n ≡ c.args.agents = omega arith in
    let old : List LinearRow = c.args.rows.now.items in
    let mid : List LinearRow = c.put_first.new.rows.items in
    let new : List LinearRow = c.put_sum.new.rows.items in
    on_ok c.put_sum.result _ _
    (λ h. subst (λ (m : ℕ). new ≡ old ++ map (row_of v.agents (cake_of v.olds)) (first_conditions m)) e
    (firsts_put v n old mid new c.in-Ok.ensures.ok (subst (λ (m : ℕ). new ≡ mid ++ row_of v.agents (cake_of v.olds) (whole_condition m) ∷ []) (sym e) h))) c.put_sum.ensures.ok

pub returns-in-Ok-clause-fit : goal.returns-in-Ok-clause-fit
returns-in-Ok-clause-fit t c =
    let v = c.args.atoms.now in
    let n = c.args.agents - 1 in
    let e : suc n ≡ c.args.agents = omega arith in
    on_ok c.put_sum.result _ _
    (λ h. subst (λ (m : ℕ). rows_fit v.agents (cake_of v.olds) (first_conditions m) ≡ true) e
    (firsts_fit v n true true true c.in-Ok.ensures.fit (subst (λ (m : ℕ). row_fits v.agents (cake_of v.olds) (whole_condition m) ≡ true) (sym e) h) refl)) c.put_sum.ensures.fit

pub returns-in-Ok-clause-err : goal.returns-in-Ok-clause-err
returns-in-Ok-clause-err t c =
    let v = c.args.atoms.now in
    let n = c.args.agents - 1 in
    let e : suc n ≡ c.args.agents = omega arith in
    all_err c.put_sum.result _ _
    (λ x h o. subst (λ (m : ℕ). rows_fit v.agents (cake_of v.olds) (first_conditions m) ≡ false) e
    (firsts_fit v n true false false c.in-Ok.ensures.fit (subst (λ (m : ℕ). row_fits v.agents (cake_of v.olds) (whole_condition m) ≡ false) (sym e) (h o)) refl)) c.put_sum.ensures.err

pub returns-in-Err-clause-err : goal.returns-in-Err-clause-err
returns-in-Err-clause-err t c =
    let v = c.args.atoms.now in
    let n = c.args.agents - 1 in
    let e : suc n ≡ c.args.agents = omega arith in
    λ o. subst (λ (m : ℕ). rows_fit v.agents (cake_of v.olds) (first_conditions m) ≡ false) e (firsts_break v n (c.in-Err.ensures.err o))
