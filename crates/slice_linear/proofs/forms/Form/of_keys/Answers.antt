use Rattle.std.proofs.Common.{◌≡◌, ◌∙◌, arith, ap, subst, drop, ◌+◌, get_or, List, ◌∷◌}
use Rattle.std.proofs.lemmas.Grind.{common_steps}
use Rattle.std.specs.Prelude.{if◌then◌else◌}
use Rattle.slice_num.specs.Rational.{Rational}
use Rattle.slice_num.specs.declared.key.Key.{Key}
use Rattle.slice_linear.specs.Terms.{is_zero, is_same, coef_of}
use Rattle.slice_linear.proofs.Coefs.{one_some}
use Rattle.slice_linear.proofs.Putting.{Putting, putting_next}
use Rattle.slice_linear.proofs.forms.Form.of_keys.Goals as goal

pub place-requires-clause-some : goal.place-requires-clause-some
place-requires-clause-some c = ap is_zero c.whole.ensures ∙ one_some

pub loop-key-preserved : goal.loop-key-preserved
loop-key-preserved c =
    let i = c.loop-key.key-index in
    let d : Key = record { agent = 0; atom = 0 } in
    let e : drop i c.args.keys.now ≡ get_or c.args.keys.now i d ∷ drop (i + 1) c.args.keys.now = grind (arith, common_steps) in
    let p = subst (λ (ks : List Key). Putting c.args.keys.now ks c.loop-key.terms.items) e c.loop-key.invariant in
    putting_next c.args.keys.now (get_or c.args.keys.now i d) (drop (i + 1) c.args.keys.now) c.loop-key.terms.items c.place.new.terms.items p c.in_ok-place.ensures.terms
    (λ k. c.in_ok-place.ensures.coefs k ∙ ap (λ (q : Rational). if is_same (get_or c.args.keys.now i d) k then q else coef_of c.loop-key.terms.items k) c.whole.ensures)
