use Rattle.std.proofs.Common.{◌≡◌, ◌∙◌, ℕ, suc, ◌+◌, arith, sym, ap, subst, List, drop}
use Rattle.std.proofs.lemmas.List.{drop-drop}
use Rattle.std.proofs.lemmas.Option.{slice_get_within}
use Rattle.slice_num.specs.declared.choice.Choice.{Choice}
use Rattle.slice_num.specs.Pieces.{piece_at}
use Rattle.slice_counter.specs.Marks.{LeadsTo}
use Rattle.slice_counter.proofs.Bounds.{parts_small, marks_small, few_parts}
use Rattle.slice_counter.proofs.Passing.{cut_ends, cut_past}
use Rattle.slice_counter.proofs.CutPassed.{part_of, lead_cut}
use Rattle.slice_counter.proofs.walk.pass.Goals as goal

pub cut-requires-clause-parts : goal.cut-requires-clause-parts
cut-requires-clause-parts c =
    let h = c.requires.leads.6 in
    parts_small h.way c.args.trail.now h.shows (let f = h.few in omega (arith, f))

pub cut-requires-clause-marks : goal.cut-requires-clause-marks
cut-requires-clause-marks c =
    let h = c.requires.leads.6 in
    marks_small h.way c.args.trail.now h.shows (let f = h.few in omega (arith, f))

pub cut-requires-clause-few : goal.cut-requires-clause-few
cut-requires-clause-few c =
    let h = c.requires.leads.6 in
    let few = few_parts h.way c.args.trail.now c.args.piece h.shows (let f = h.few in omega (arith, f)) in
    let found = part_of h.way c.args.trail.now c.args.piece c.in-Some.part c.in-Some-atom.atom h.shows (sym c.in-Some-atom.ensures) in
    let within = slice_get_within (piece_at h.way.pieces c.args.piece) c.in-Some.part found.0 found.1 in
    omega (arith, few, within)

pub returns-in_ok-cut-in-Some-atom : goal.returns-in_ok-cut-in-Some-atom
returns-in_ok-cut-in-Some-atom c = λ end a amount l r next h.
    let at = c.args.at in
    let part = c.in-Some.part in
    let cs = c.args.trace.now in
    let here = c.in-Some.ensures.within in
    let led = lead_cut end a c.args.piece amount l r next (drop at cs) c.args.trail.now c.cut.new.self part c.in-Some-atom.atom (sym c.in-Some.ensures.taken) (sym c.in-Some-atom.ensures) h c.in_ok-cut-in-Some-atom.ensures.pieces c.in_ok-cut-in-Some-atom.ensures.cuts in
    let next_at : at + suc part ≡ at + part + 1 = omega arith in
    (omega (arith, here), subst (λ (ds : List Choice). LeadsTo end next ds c.cut.new.self) (drop-drop (suc part) at cs ∙ ap (λ (j : ℕ). drop j cs) next_at) led)

pub returns-in-None-atom : goal.returns-in-None-atom
returns-in-None-atom c = λ end a amount l r next h. cut_past end a c.args.piece amount l r next (drop c.args.at c.args.trace.now) c.args.trail.now c.in-Some.part (sym c.in-Some.ensures.taken) (sym c.in-None-atom.ensures) h

pub returns-in-None : goal.returns-in-None
returns-in-None c = λ end a amount l r next h. cut_ends end a c.args.piece amount l r next (drop c.args.at c.args.trace.now) c.args.trail.now (sym c.in-None.ensures.taken) h
