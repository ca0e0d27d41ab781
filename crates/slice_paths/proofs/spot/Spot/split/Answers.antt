use Rattle.std.proofs.Common.{◌∙◌, ◌≤◌, ◌<◌, ◌+◌, ◌*◌, ℕ, List, length, map, sym, ap, subst}
use Rattle.slice_num.specs.Pieces.{piece_at}
use Rattle.slice_linear.specs.declared.forms.Term.{Term}
use Rattle.slice_atoms.specs.Numbers.{part_of, next_atom}
use Rattle.slice_atoms.specs.declared.Split.{Split}
use Rattle.slice_atoms.proofs.Cuts.{number_given, part_there}
use Rattle.slice_paths.specs.Spots.{Known}
use Rattle.slice_paths.specs.Steps.{IsKnown, AllCanSplit}
use Rattle.slice_paths.specs.declared.spot.Condition as held
use Rattle.slice_paths.proofs.CutSteps.{all_can}
use Rattle.slice_paths.proofs.spot.Spot.split.Goals as goal

pub replace_forms-requires-clause-old : goal.replace_forms-requires-clause-old
replace_forms-requires-clause-old c =
    let v = c.self.inside.atoms in
    let k = subst IsKnown (sym c.self.view_is) c.requires.known in
    let q = subst (λ (s : Known). c.args.part < length (piece_at s.atoms.pieces c.args.piece)) (sym c.self.view_is) c.requires.there in
    let g = number_given (2 * length v.olds + 1) (part_of v c.args.piece c.args.part) v.order k.numbering.given (part_there v c.args.piece c.args.part k.numbering q) in
    subst (λ (x : Split). 1 ≤ x.old) (sym c.in_ok-split.ensures.split) g.0

pub replace_forms-requires-clause-can : goal.replace_forms-requires-clause-can
replace_forms-requires-clause-can c =
    let v = c.self.inside.atoms in
    let k = subst IsKnown (sym c.self.view_is) c.requires.known in
    let q = subst (λ (s : Known). c.args.part < length (piece_at s.atoms.pieces c.args.piece)) (sym c.self.view_is) c.requires.there in
    let e = c.requires.agents ∙ sym (ap (λ (s : Known). s.atoms.agents) c.self.view_is) in
    let h = all_can v v.agents c.args.piece c.args.part c.self.inside.regs.items k.numbering q k.regs in
    subst (λ (x : Split). AllCanSplit c.args.agents x.old x.left x.right c.as_slice.result.now) (sym c.in_ok-split.ensures.split)
    (subst (λ (rs : List (List Term)). AllCanSplit c.args.agents (part_of v c.args.piece c.args.part) (next_atom v) (next_atom v + 1) rs) (sym c.as_slice.ensures.value)
    (subst (λ (n : ℕ). AllCanSplit n (part_of v c.args.piece c.args.part) (next_atom v) (next_atom v + 1) c.self.inside.regs.items) (sym e) h))

pub replace_conditions-requires-clause-old : goal.replace_conditions-requires-clause-old
replace_conditions-requires-clause-old c =
    let v = c.self.inside.atoms in
    let k = subst IsKnown (sym c.self.view_is) c.requires.known in
    let q = subst (λ (s : Known). c.args.part < length (piece_at s.atoms.pieces c.args.piece)) (sym c.self.view_is) c.requires.there in
    let g = number_given (2 * length v.olds + 1) (part_of v c.args.piece c.args.part) v.order k.numbering.given (part_there v c.args.piece c.args.part k.numbering q) in
    subst (λ (x : Split). 1 ≤ x.old) (sym c.in_ok-split.ensures.split) g.0

pub replace_conditions-requires-clause-can : goal.replace_conditions-requires-clause-can
replace_conditions-requires-clause-can c =
    let v = c.self.inside.atoms in
    let k = subst IsKnown (sym c.self.view_is) c.requires.known in
    let q = subst (λ (s : Known). c.args.part < length (piece_at s.atoms.pieces c.args.piece)) (sym c.self.view_is) c.requires.there in
    let e = c.requires.agents ∙ sym (ap (λ (s : Known). s.atoms.agents) c.self.view_is) in
    let h = all_can v v.agents c.args.piece c.args.part (map (λ (d : held.Condition). d.form) c.self.inside.conditions.items) k.numbering q k.conditions in
    subst (λ (x : Split). AllCanSplit c.args.agents x.old x.left x.right (map (λ (d : held.Condition). d.form) c.as_slice-2.result.now)) (sym c.in_ok-split.ensures.split)
    (subst (λ (cs : List held.Condition). AllCanSplit c.args.agents (part_of v c.args.piece c.args.part) (next_atom v) (next_atom v + 1) (map (λ (d : held.Condition). d.form) cs)) (sym c.as_slice-2.ensures.value)
    (subst (λ (n : ℕ). AllCanSplit n (part_of v c.args.piece c.args.part) (next_atom v) (next_atom v + 1) (map (λ (d : held.Condition). d.form) c.self.inside.conditions.items)) (sym e) h))
