use Rattle.std.proofs.Common.{◌∙◌, Some, sym, ap}
use Rattle.slice_core.specs.Nodes.{tree_of}
use Rattle.slice_atoms.proofs.Items.{all_ok}
use Rattle.slice_paths.proofs.RetraceNone.{no_arm}
use Rattle.slice_paths.proofs.retrace.stride_test.Goals as goal

pub returns-in-None : goal.returns-in-None
returns-in-None c = λ n h. no_arm c.args.left.now c.args.right.now c.args.strict (tree_of c.args.yes.now) (tree_of c.args.no.now) c.args.spot c.args.by.choices.now (sym c.arm_taken.ensures ∙ c.in-None.is)

pub returns-then-taken : goal.returns-then-taken
returns-then-taken c = all_ok c.stride_yes.result _ _ (λ o f n h. f n c.args.by.choices.now h (sym c.arm_taken.ensures ∙ c.in-Some.is ∙ ap Some c.if-taken.true)) c.stride_yes.ensures

pub returns-else-taken : goal.returns-else-taken
returns-else-taken c =
    all_ok c.stride_no.result _ _ (λ o f n h. f n (tree_of c.args.yes.now) c.args.by.choices.now c.args.behind.now.items h (sym c.arm_taken.ensures ∙ c.in-Some.is ∙ ap Some c.if-taken.false)) c.stride_no.ensures
