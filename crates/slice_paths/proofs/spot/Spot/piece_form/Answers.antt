use Rattle.std.proofs.Common.{◌∙◌, List, ap, subst}
use Rattle.slice_num.specs.Pieces.{piece_at}
use Rattle.slice_num.specs.declared.key.Key.{Key}
use Rattle.slice_linear.specs.Terms.{IsKeySum}
use Rattle.slice_atoms.specs.Numbers.{unknowns}
use Rattle.slice_atoms.proofs.Items.{all_ok}
use Rattle.slice_paths.specs.Spots.{Known}
use Rattle.slice_paths.proofs.StepLaws.{value_of}
use Rattle.slice_paths.proofs.spot.Spot.piece_form.Goals as goal

pub returns-clause-value : goal.returns-clause-value
returns-clause-value c =
    let s : Known = c.args.self.now in
    let a = c.args.agent in
    let p = c.args.piece in
    let e = c.as_slice.ensures.value ∙ c.in_ok-keys.ensures.value ∙ ap (λ (x : Known). unknowns a (piece_at x.atoms.pieces p)) c.self.view_is in
    all_ok c.of_keys.result _ _ (λ f z k g n. value_of s a p f k g n (subst (λ (ks : List Key). IsKeySum ks f) e z)) c.of_keys.ensures
