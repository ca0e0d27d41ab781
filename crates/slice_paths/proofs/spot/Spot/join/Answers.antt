use Rattle.std.proofs.Common.{◌≡◌, ◌∙◌, sym, ap, subst}
use Rattle.slice_num.specs.Pieces.{join_pieces}
use Rattle.slice_paths.specs.Spots.{Known}
use Rattle.slice_paths.specs.Steps.{IsJoined}
use Rattle.slice_paths.proofs.SpotLaws.{joined_to, on_ok}
use Rattle.slice_paths.proofs.spot.Spot.join.Goals as goal

pub returns-clause-ok : goal.returns-clause-ok
returns-clause-ok c =
    let s : Known = c.args.self.now in
    let p = c.args.first in
    let q = c.args.second in
    let v = c.self.view_is in
    let r = c.requires in
    on_ok c.join.result _ _
    (λ e. (let w : record {
      atoms = c.join.new.self;
      regs = c.self.inside.regs.items;
      conditions = c.self.inside.conditions.items;
      gifts = c.self.inside.gifts.items;
      trace = c.self.inside.trace.items;
      queries = c.self.inside.queries;
    } ≡ record s { atoms = record s.atoms { pieces = join_pieces s.atoms.pieces p q } } = λ i. record {
      atoms = (e ∙ ap (λ (k : Known). record k.atoms { pieces = join_pieces k.atoms.pieces p q }) v) i;
      regs = (v i).regs;
      conditions = (v i).conditions;
      gifts = (v i).gifts;
      trace = (v i).trace;
      queries = (v i).queries;
    } in
    subst (IsJoined p q s) (sym w) (joined_to s p q r.differ r.first r.second r.first_held r.second_held))) c.join.ensures.ok
