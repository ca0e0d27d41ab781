use Rattle.std.proofs.Common.{◌≡◌, ◌∙◌, ◌+◌, ℕ, List, length, refl, sym, ap, subst, arith}
use Rattle.slice_core.specs.Nodes.{tree_of}
use Rattle.slice_core.specs.Tree.{Cut}
use Rattle.slice_linear.specs.declared.forms.Term.{Term}
use Rattle.slice_paths.specs.Spots.{Known, tally_of}
use Rattle.slice_paths.specs.Steps.{IsOver, CutTo}
use Rattle.slice_paths.specs.Sums.{SumMeans}
use Rattle.slice_paths.specs.Walking.{Ready, CutReady, AllReady}
use Rattle.slice_paths.specs.declared.frames.Frame.{Frame}
use Rattle.slice_paths.specs.declared.frames.Rest.TheVariants as rest
use Rattle.slice_paths.proofs.PartSteps.{met, cut_armed}
use Rattle.slice_paths.proofs.RetraceCut.{cut_strode, choices_long}
use Rattle.slice_paths.proofs.StreamLaws.{ready_put}
use Rattle.slice_paths.proofs.retrace.answer_cut.Goals as goal

pub answer-requires-clause-over : goal.answer-requires-clause-over
answer-requires-clause-over c =
    let a = c.args in
    let h = c.requires.ready in
    let am = c.in-Ok.amount in
    let m = subst (λ (rs : List (List Term)). SumMeans rs a.amount.now.terms am) (c.as_slice.ensures.value ∙ ap (λ (k : Known). k.regs) c.spot.view_is) c.in-Ok.ensures.ok in
    let here = subst (λ (x : ℕ). Ready x (Cut a.agent a.piece a.amount.now h.0 h.1 (tree_of a.next.now)) a.spot) (sym h.2.goes.agents_are) h.2 in
    let o = met a.agent a.piece a.amount.now h.0 h.1 h.0 h.1 (tree_of a.next.now) a.spot am here m in
    subst (λ (x : Known). IsOver x am) (sym c.in-Ok-copy.ensures) o.ready.over

pub overflow_add-rest : goal.overflow_add-rest
overflow_add-rest c = omega (arith, c.requires.there, c.requires.few)

pub returns : goal.returns
returns c = λ l r cs taken.
    (let a = c.args in
    let n = a.agents in
    let s = a.spot in
    let next = tree_of a.next.now in
    let h = c.requires.ready in
    let am = c.in-Ok.amount in
    let t = c.answer.new.self in
    let m = subst (λ (rs : List (List Term)). SumMeans rs a.amount.now.terms am) (c.as_slice.ensures.value ∙ ap (λ (k : Known). k.regs) c.spot.view_is) c.in-Ok.ensures.ok in
    let here = subst (λ (x : ℕ). Ready x (Cut a.agent a.piece a.amount.now h.0 h.1 next) s) (sym h.2.goes.agents_are) h.2 in
    let o = subst (λ (x : ℕ). CutReady x a.agent a.piece am next s) h.2.goes.agents_are (met a.agent a.piece a.amount.now l r h.0 h.1 next s am here m).ready in
    let same = c.in-Ok-copy.ensures in
    let k = subst (λ (x : Known). CutTo a.agent a.piece a.part am x t) same c.in-Ok-answer.ensures.ok in
    let e = subst (λ (x : Known). tally_of t ≡ record (tally_of x) { pieces = length x.atoms.pieces + 2; cuts = length x.atoms.olds + 1; queries = x.queries + 1 }) same c.in-Ok-answer.ensures.tally in
    let behind : Frame = record { rest = rest.Parts (record { agent = a.agent; piece = a.piece; amount = am; next = a.next }) (a.part + 1); spot = s } in
    record {
      ready = (cut_armed n a.agent a.piece am a.part next s t o k e).ready;
      deeper = omega arith;
      made = choices_long _ cs a.part taken;
      all_ready = λ x. subst (AllReady n) (sym c.in-Ok-put_frame.ensures.ok) (ready_put n a.behind.now.items behind x o);
      strode = λ fs ks ds at. cut_strode n a.agent a.piece l r a.amount.now next s t am a.part h.2.known m k cs a.behind.now.items fs ks ds at c.put_frame.new.frames.items behind c.requires.there taken c.in-Ok-put_frame.ensures.ok refl;
    })
