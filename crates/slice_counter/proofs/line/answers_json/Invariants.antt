use Rattle.std.proofs.Common.{◌≡◌, map, take}
use Rattle.serde_json.specs.View.{view, items_of}
use Rattle.slice_step.specs.ValuationFile.{AllAnswer}
use Rattle.slice_counter.specs.CounterLine.{answer_json}
use Rattle.slice_counter.proofs.line.answers_json.Given as goal

abbrev pub invariant-loop-answer : goal.invariant-loop-answer
invariant-loop-answer l = record {
  json : map view l.values.items ≡ map answer_json (take l.answer-index l.answers);
  said : AllAnswer (items_of (map answer_json (take l.answer-index l.answers))) (take l.answer-index l.answers);
}
