use Rattle.std.proofs.Common.{◌∙◌, ◌++◌, ◌∷◌, [], List, ℕ, length, map, ap, sym, subst}
use Rattle.serde_json.specs.View.{items_of}
use Rattle.slice_num.specs.declared.cut_answer.CutAnswer.{CutAnswer}
use Rattle.slice_step.specs.ValuationFile.{IsReplayFile, AllAnswer}
use Rattle.slice_counter.specs.CounterLine.{answer_json, counter_json, counter_text, plain-counter_json}
use Rattle.slice_counter.proofs.LineRead.{line_read}
use Rattle.slice_counter.proofs.Replays.{few_levels, replay_said}
use Rattle.slice_counter.proofs.line.line_bytes.Goals as goal

pub returns-clause-text : goal.returns-clause-text
unfolding counter_text
returns-clause-text c =
    let r = c.args.counter.now in
    let text = rw c.in_ok-value.ensures at c.in_ok-bytes.ensures.text in
    c.in_ok-push.ensures.items ∙ ap (λ (us : List ℕ). us ++ 10 ∷ []) (text (plain-counter_json r.goal r.kind r.query r.valuations r.cuts.items))

pub returns-clause-replay : goal.returns-clause-replay
returns-clause-replay c =
    let r = c.args.counter.now in
    let back = rw c.in_ok-value.ensures at c.in_ok-bytes.ensures.reads_back in
    let read_as = back (few_levels r.goal r.kind r.query r.valuations r.cuts.items) in
    let line = line_read c.in_ok-bytes.bytes.items (counter_json r.goal r.kind r.query r.valuations r.cuts.items) c.in_ok-bytes.ensures.utf8 c.in_ok-bytes.ensures.compact read_as in
    let cuts = subst (λ (ys : List CutAnswer). AllAnswer (items_of (map answer_json ys)) ys) c.deref.ensures.value c.in_ok-cuts.ensures.said in
    subst (λ (bytes : List ℕ). IsReplayFile bytes (length r.valuations) r.valuations r.cuts.items) (sym c.in_ok-push.ensures.items)
    (replay_said (c.in_ok-bytes.bytes.items ++ 10 ∷ []) r.goal r.kind r.query r.valuations r.cuts.items line c.len-bounds.ensures.bounds cuts)
