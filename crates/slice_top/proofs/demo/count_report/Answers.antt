use Rattle.std.proofs.Common.{◌∙◌, ap, refl, List, ℕ}
use Rattle.slice_core.specs.Cores.{core_of}
use Rattle.slice_json.specs.Texts.{line_of}
use Rattle.slice_report.specs.DemoReport.{demo_json}
use Rattle.slice_top.specs.Answers.{CountsReport, answer_of, goes, refused, stops}
use Rattle.slice_top.specs.Demos.{RefusesReport}
use Rattle.slice_top.specs.declared.status.Status.TheVariants as status
use Rattle.slice_top.proofs.Stages.{stops_for}
use Rattle.slice_top.proofs.demo.count_report.Goals as goal

pub returns-in-Err-clause-err : goal.returns-in-Err-clause-err
returns-in-Err-clause-err c =
    let core = core_of c.args.core.now in
    let report = c.args.report.items in
    stops_for (RefusesReport core report) (λ r. CountsReport core report (refused r)) (λ r h. stops r h refl) c.in-Err.stop c.in-Err.ensures.err

pub returns-clause-ok : goal.returns-clause-ok
returns-clause-ok c =
    let core = core_of c.args.core.now in
    goes c.in-Ok.goals c.in-Ok.ensures.ok
    (ap (λ (l : List ℕ). answer_of l status.Good) (c.in-Ok-demo_line.ensures ∙ ap (λ n. line_of (demo_json core c.in-Ok.goals n)) (c.len-length.ensures ∙ c.args.report.ok.0)))
