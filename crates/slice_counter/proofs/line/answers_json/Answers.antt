use Rattle.std.proofs.Common.{◌≡◌, ◌∙◌, ◌+◌, ◌++◌, ◌∷◌, [], List, map, take, ap, sym, subst}
use Rattle.serde_json.specs.View.{view, items_of}
use Rattle.slice_num.specs.declared.cut_answer.CutAnswer.{CutAnswer}
use Rattle.slice_step.specs.ValuationFile.{AllAnswer}
use Rattle.slice_counter.specs.CounterLine.{answer_json}
use Rattle.slice_counter.proofs.Lists.{take_here, json_more, json_all}
use Rattle.slice_counter.proofs.Replays.{one_more_said}
use Rattle.slice_counter.proofs.line.answers_json.Goals as goal

pub loop-answer-preserved : goal.loop-answer-preserved
loop-answer-preserved c =
    let ys = c.args.answers.now in
    let i = c.loop-answer.answer-index in
    let y = c.answer-item.result in
    let here : take (i + 1) ys ≡ take i ys ++ y ∷ [] = take_here ys i y c.loop-answer-test.true (sym c.answer-item.is) in
    record {
      json = ap (map view) c.in_ok-push.ensures.items ∙ (json_more answer_json c.loop-answer.values.items c.in_ok-answer_json.field-0 (take i ys) y c.loop-answer.invariant.json c.in_ok-answer_json.ensures.json ∙ ap (map answer_json) (sym here));
      said = subst (λ (zs : List CutAnswer). AllAnswer (items_of (map answer_json zs)) zs) (sym here) (one_more_said (take i ys) y c.loop-answer.invariant.said c.in_ok-answer_json.ensures.said);
    }

pub returns-clause-json : goal.returns-clause-json
returns-clause-json c = json_all answer_json c.loop-answer.values c.args.answers.now c.loop-answer.answer-index c.loop-answer.invariant.json c.loop-answer-test.false c.loop-answer.auto.answer-index-end
