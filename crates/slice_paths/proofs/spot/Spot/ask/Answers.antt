use Rattle.std.proofs.Common.{◌∙◌, ◌+◌, sym, subst}
use Rattle.slice_paths.specs.Spots.{Known}
use Rattle.slice_paths.specs.Steps.{IsAsked}
use Rattle.slice_paths.proofs.StepLaws.{asked}
use Rattle.slice_paths.proofs.spot.Spot.ask.Goals as goal

pub returns-clause-ok : goal.returns-clause-ok
returns-clause-ok c =
    let s : Known = c.args.self.now in
    let a = c.args.agent in
    let p = c.args.piece in
    let f = c.in_ok-form.form in
    subst (λ (x : Known). IsAsked a p s (record x { queries = x.queries + 1 })) (sym (c.self.view_is ∙ c.in_ok-put_register.ensures)) (asked s a p f c.requires.agent c.requires.held c.in_ok-form.ensures.form)
