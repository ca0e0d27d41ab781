use Rattle.std.proofs.Common.{◌≡◌, ◌∙◌, ◌≤◌, ◌+◌, ◌*◌, ℕ, length, sym, ap, subst, arith}
use Rattle.slice_atoms.specs.Numbers.{part_of, next_atom}
use Rattle.slice_atoms.specs.declared.Split.{Split}
use Rattle.slice_atoms.proofs.Cuts.{number_given, part_there}
use Rattle.slice_paths.specs.Spots.{Known, tally_of, IsSplit}
use Rattle.slice_paths.specs.Steps.{CanSplit, CutTo}
use Rattle.slice_paths.proofs.Among.{can_split}
use Rattle.slice_paths.proofs.CutSteps.{Answering, queries_kept, answered, answer_counted, not_answered}
use Rattle.slice_paths.proofs.spot.Spot.answer.Goals as goal

pub replace_form-requires-clause-old : goal.replace_form-requires-clause-old
replace_form-requires-clause-old c =
    let v = c.args.self.now.atoms in
    let g = number_given (2 * length v.olds + 1) (part_of v c.args.piece c.args.part) v.order c.requires.known.numbering.given (part_there v c.args.piece c.args.part c.requires.known.numbering c.requires.there) in
    subst (λ (x : Split). 1 ≤ x.old) (sym c.in-Ok.ensures.split) g.0

pub replace_form-requires-clause-can : goal.replace_form-requires-clause-can
replace_form-requires-clause-can c =
    let v = c.args.self.now.atoms in
    let r = c.requires in
    let h = can_split v v.agents c.args.piece c.args.part c.args.amount.now r.known.numbering r.there r.over in
    subst (λ (x : Split). CanSplit c.args.agents x.old x.left x.right c.args.amount.now) (sym c.in-Ok.ensures.split)
    (subst (λ (n : ℕ). CanSplit n (part_of v c.args.piece c.args.part) (next_atom v) (next_atom v + 1) c.args.amount.now) (sym r.agents) h)

pub returns-in-Err-pass-clause-err : goal.returns-in-Err-pass-clause-err
returns-in-Err-pass-clause-err c =
    let s : Known = c.args.self.now in
    let s1 : Known = c.split.new.self in
    let s2 : Known = c.skip.new.self in
    let a = c.args.agent in
    let p = c.args.piece in
    let part = c.args.part in
    let left = c.pieces-left.result in
    let am = c.args.amount.now in
    let am' = c.in-Ok-replace_form.amount in
    let own = c.in-Ok-skip.own in
    let r = c.requires in
    let h : Answering s s1 s2 a p part left am am' own = record {
      known = r.known;
      first = r.agent.0;
      last = r.agent.1;
      there = r.there;
      not_held = r.held;
      over = r.over;
      halved = c.in-Ok.ensures.ok;
      split = subst (λ (x : Split). IsSplit x.old x.left x.right am am') c.in-Ok.ensures.split c.in-Ok-replace_form.ensures;
      is_left = c.pieces-left.ensures ∙ ap (λ (k : Known). length k.atoms.pieces) c.self.view_is;
      own_form = c.in-Ok-skip.ensures.form;
      skipped = c.in-Ok-skip.ensures.new;
    } in
    λ o. not_answered s s1 s2 a p part left am am' own h (c.in-Err-pass.ensures.err o)

pub overflow_add-self : goal.overflow_add-self
overflow_add-self c =
    let s : Known = c.args.self.now in
    let s1 : Known = c.split.new.self in
    let s2 : Known = c.skip.new.self in
    let a = c.args.agent in
    let p = c.args.piece in
    let part = c.args.part in
    let left = c.pieces-left.result in
    let am = c.args.amount.now in
    let am' = c.in-Ok-replace_form.amount in
    let own = c.in-Ok-skip.own in
    let r = c.requires in
    let h : Answering s s1 s2 a p part left am am' own = record {
      known = r.known;
      first = r.agent.0;
      last = r.agent.1;
      there = r.there;
      not_held = r.held;
      over = r.over;
      halved = c.in-Ok.ensures.ok;
      split = subst (λ (x : Split). IsSplit x.old x.left x.right am am') c.in-Ok.ensures.split c.in-Ok-replace_form.ensures;
      is_left = c.pieces-left.ensures ∙ ap (λ (k : Known). length k.atoms.pieces) c.self.view_is;
      own_form = c.in-Ok-skip.ensures.form;
      skipped = c.in-Ok-skip.ensures.new;
    } in
    let t : Known = c.pass.new.self in
    let q = queries_kept s s1 s2 t a p part left am am' own h c.in-Ok-pass.ensures.ok in
    let e : c.self-2.inside.queries ≡ t.queries = ap (λ (k : Known). k.queries) c.self-2.view_is in
    let few = r.few_queries in
    omega (arith, q, e, few)

pub returns-clause-ok : goal.returns-clause-ok
returns-clause-ok c =
    let s : Known = c.args.self.now in
    let s1 : Known = c.split.new.self in
    let s2 : Known = c.skip.new.self in
    let a = c.args.agent in
    let p = c.args.piece in
    let part = c.args.part in
    let left = c.pieces-left.result in
    let am = c.args.amount.now in
    let am' = c.in-Ok-replace_form.amount in
    let own = c.in-Ok-skip.own in
    let r = c.requires in
    let h : Answering s s1 s2 a p part left am am' own = record {
      known = r.known;
      first = r.agent.0;
      last = r.agent.1;
      there = r.there;
      not_held = r.held;
      over = r.over;
      halved = c.in-Ok.ensures.ok;
      split = subst (λ (x : Split). IsSplit x.old x.left x.right am am') c.in-Ok.ensures.split c.in-Ok-replace_form.ensures;
      is_left = c.pieces-left.ensures ∙ ap (λ (k : Known). length k.atoms.pieces) c.self.view_is;
      own_form = c.in-Ok-skip.ensures.form;
      skipped = c.in-Ok-skip.ensures.new;
    } in
    let t : Known = c.pass.new.self in
    subst (λ (x : Known). CutTo a p part am s (record x { queries = x.queries + 1 })) (sym c.self-2.view_is) (answered s s1 s2 t a p part left am am' own h c.in-Ok-pass.ensures.ok)

pub returns-clause-tally : goal.returns-clause-tally
returns-clause-tally c =
    let s : Known = c.args.self.now in
    let s1 : Known = c.split.new.self in
    let s2 : Known = c.skip.new.self in
    let a = c.args.agent in
    let p = c.args.piece in
    let part = c.args.part in
    let left = c.pieces-left.result in
    let am = c.args.amount.now in
    let am' = c.in-Ok-replace_form.amount in
    let own = c.in-Ok-skip.own in
    let r = c.requires in
    let h : Answering s s1 s2 a p part left am am' own = record {
      known = r.known;
      first = r.agent.0;
      last = r.agent.1;
      there = r.there;
      not_held = r.held;
      over = r.over;
      halved = c.in-Ok.ensures.ok;
      split = subst (λ (x : Split). IsSplit x.old x.left x.right am am') c.in-Ok.ensures.split c.in-Ok-replace_form.ensures;
      is_left = c.pieces-left.ensures ∙ ap (λ (k : Known). length k.atoms.pieces) c.self.view_is;
      own_form = c.in-Ok-skip.ensures.form;
      skipped = c.in-Ok-skip.ensures.new;
    } in
    let t : Known = c.pass.new.self in
    ap (λ (x : Known). tally_of (record x { queries = x.queries + 1 })) c.self-2.view_is ∙ answer_counted s s1 s2 t a p part left am am' own h c.in-Ok-pass.ensures.tally
