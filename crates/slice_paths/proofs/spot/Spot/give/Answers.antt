use Rattle.std.proofs.Common.{sym, subst}
use Rattle.slice_paths.specs.Steps.{GivenTo}
use Rattle.slice_paths.specs.declared.spot.Gift.{Gift}
use Rattle.slice_paths.proofs.SpotLaws.{given_to, on_ok}
use Rattle.slice_paths.proofs.spot.Spot.give.Goals as goal

pub returns-clause-ok : goal.returns-clause-ok
returns-clause-ok c =
    let s = c.args.self.now in
    let g : Gift = record { agent = c.args.agent; piece = c.args.piece } in
    on_ok c.put_gift.result _ _ (λ e. subst (GivenTo c.args.agent c.args.piece s) (sym e) (given_to s g c.requires.there c.requires.owner c.requires.held)) c.put_gift.ensures
