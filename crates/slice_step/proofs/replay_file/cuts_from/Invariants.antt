use Rattle.std.proofs.Common.{◌≡◌, ◌++◌, List, drop}
use Rattle.serde_json.specs.View.{items_view}
use Rattle.slice_num.specs.declared.cut_answer.CutAnswer.{CutAnswer}
use Rattle.slice_step.specs.ValuationFile.{AllAnswer, cuts_fault}
use Rattle.slice_step.proofs.replay_file.cuts_from.Given as goal

abbrev pub invariant-loop-i : goal.invariant-loop-i
invariant-loop-i l = record {
  said : (ys : List CutAnswer) → AllAnswer (items_view (drop l.i l.entries.items)) ys → AllAnswer (items_view l.entries.items) (l.cuts.items ++ ys);
  faults : cuts_fault l.i (items_view (drop l.i l.entries.items)) ≡ cuts_fault 0 (items_view l.entries.items);
}
