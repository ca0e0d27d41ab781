use Rattle.std.proofs.Common.{◌≡◌, ◌∙◌, sym, ap, subst}
use Rattle.slice_linear.specs.Terms.{AreDifferent}
use Rattle.slice_atoms.specs.Numbers.{IsNumbering, unknowns}
use Rattle.slice_atoms.proofs.Cuts.{unknowns_differ}
use Rattle.slice_atoms.proofs.Items.{all_ok}
use Rattle.slice_atoms.proofs.Atoms.unknowns_of.Goals as goal

pub returns-clause-differ : goal.returns-clause-differ
returns-clause-differ c =
    let h : IsNumbering c.args.self.now = subst IsNumbering c.self.view_is c.self.invariant in
    let d = unknowns_differ c.args.self.now c.args.agent c.args.piece h in
    all_ok c.keys_of.result (λ k. k.items ≡ unknowns c.args.agent c.parts_of.result.now) (λ k. AreDifferent k.items)
    (λ k e. subst AreDifferent (sym (e ∙ ap (unknowns c.args.agent) c.parts_of.ensures.value)) d) c.keys_of.ensures

pub returns-clause-formed : goal.returns-clause-formed
returns-clause-formed c = subst IsNumbering c.self.view_is c.self.invariant
