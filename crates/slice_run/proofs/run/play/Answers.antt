use Rattle.std.proofs.Common.{◌≡◌, ◌∙◌, ℕ, true, ◌++◌, ◌∷◌, [], length, replicate, ap, subst, arith}
use Rattle.std.proofs.lemmas.List.{length-replicate}
use Rattle.slice_core.specs.WellFormed.{IsFormed}
use Rattle.slice_core.specs.Cores.{core_of}
use Rattle.slice_core.specs.Nodes.{tree_of}
use Rattle.slice_core.proofs.FormedLaws.{core_formed}
use Rattle.slice_num.specs.Pieces.{joined}
use Rattle.slice_core.specs.Run.{Board}
use Rattle.slice_run.specs.Answers.{answers_of}
use Rattle.slice_run.specs.Tables.{board_of}
use Rattle.slice_run.proofs.Ready.{ready_first}
use Rattle.slice_run.proofs.Told.{Begins, on_ok_is, if_ok_is, if_err_is, ok_along, err_along, told_whole, first_fault}
use Rattle.slice_run.proofs.run.play.Goals as goal

pub walk-stop-requires-clause-ready : goal.walk-stop-requires-clause-ready
walk-stop-requires-clause-ready c =
    let vs = c.args.valuations.now in
    let core = c.args.core.now in
    let formed = c.agents-agents.ensures.formed in
    let table : Board = record { pieces = c.in-Ok-start.pieces; shares = c.in-Ok.book.shares; queries = c.new-2.result.items } in
    let shares : length c.in-Ok.book.shares ≡ length vs = ap length (c.in-Ok.ensures.shares ∙ ap (λ n. replicate n []) (c.agents-agents.ensures.value ∙ c.requires.agents)) ∙ length-replicate (length vs) [] in
    ready_first (length vs) c.length.result (length c.new-3.result.items) (tree_of core.root) (tree_of c.root.result.now) table c.root.ensures
    (subst (λ (n : ℕ). IsFormed n (true ∷ []) 0 (tree_of core.root)) c.requires.agents (core_formed (core_of core) formed)) formed.few_cuts formed.few_deep c.in-Ok-start.ensures shares (ap length c.new-2.ensures.items) (ap length c.new-3.ensures.items)

pub returns-in-Ok-stop-clause-ok : goal.returns-in-Ok-stop-clause-ok
returns-in-Ok-stop-clause-ok c =
    let vs = c.args.valuations.now in
    let core = c.args.core.now in
    let table : Board = record { pieces = c.in-Ok-start.pieces; shares = c.in-Ok.book.shares; queries = c.new-2.result.items } in
    let begins : Begins vs core.agents c.length.result table c.new-3.result.items = record {
      some = omega (arith, c.requires.agents, c.agents-agents.ensures.formed.some_agent);
      long = c.length.ensures.of_each;
      pieces = c.in-Ok-start.ensures;
      shares = c.in-Ok.ensures.shares ∙ ap (λ n. replicate n []) c.agents-agents.ensures.value;
      queries = c.new-2.ensures.items;
      registers = c.new-3.ensures.items;
    } in
    let was : c.walk-stop.new.table.book.left ≡ [] = on_ok_is c.walk-stop.result c.in-Ok-stop.stop _ c.in-Ok-stop.is c.walk-stop.ensures.left ∙ c.in-Ok.ensures.left in
    let left : c.leave_all.new.book.left ≡ joined c.walk-stop.new.table.pieces = ap (λ b. b.left) c.leave_all.ensures ∙ ap (λ xs. xs ++ joined c.walk-stop.new.table.pieces) was in
    ok_along c.finish.result _ _
    (told_whole vs (tree_of core.root) (tree_of c.root.result.now) core.agents c.length.result table (board_of c.walk-stop.new.table) c.new-3.result.items (answers_of c.args.answers.now) c.in-Ok-stop.stop c.leave_all.new.book c.root.ensures begins
    (if_ok_is c.walk-stop.result c.in-Ok-stop.stop _ c.in-Ok-stop.is c.walk-stop.ensures.ok) (ap (λ b. b.shares) c.leave_all.ensures) left)
    c.finish.ensures.ok

pub returns-in-Ok-stop-clause-err : goal.returns-in-Ok-stop-clause-err
returns-in-Ok-stop-clause-err c =
    let vs = c.args.valuations.now in
    let core = c.args.core.now in
    let table : Board = record { pieces = c.in-Ok-start.pieces; shares = c.in-Ok.book.shares; queries = c.new-2.result.items } in
    let begins : Begins vs core.agents c.length.result table c.new-3.result.items = record {
      some = omega (arith, c.requires.agents, c.agents-agents.ensures.formed.some_agent);
      long = c.length.ensures.of_each;
      pieces = c.in-Ok-start.ensures;
      shares = c.in-Ok.ensures.shares ∙ ap (λ n. replicate n []) c.agents-agents.ensures.value;
      queries = c.new-2.ensures.items;
      registers = c.new-3.ensures.items;
    } in
    let was : c.walk-stop.new.table.book.left ≡ [] = on_ok_is c.walk-stop.result c.in-Ok-stop.stop _ c.in-Ok-stop.is c.walk-stop.ensures.left ∙ c.in-Ok.ensures.left in
    let left : c.leave_all.new.book.left ≡ joined c.walk-stop.new.table.pieces = ap (λ b. b.left) c.leave_all.ensures ∙ ap (λ xs. xs ++ joined c.walk-stop.new.table.pieces) was in
    err_along c.finish.result _ _
    (told_whole vs (tree_of core.root) (tree_of c.root.result.now) core.agents c.length.result table (board_of c.walk-stop.new.table) c.new-3.result.items (answers_of c.args.answers.now) c.in-Ok-stop.stop c.leave_all.new.book c.root.ensures begins
    (if_ok_is c.walk-stop.result c.in-Ok-stop.stop _ c.in-Ok-stop.is c.walk-stop.ensures.ok) (ap (λ b. b.shares) c.leave_all.ensures) left)
    c.finish.ensures.err

pub returns-in-Err-clause-err : goal.returns-in-Err-clause-err
returns-in-Err-clause-err c =
    let vs = c.args.valuations.now in
    let core = c.args.core.now in
    let table : Board = record { pieces = c.in-Ok-start.pieces; shares = c.in-Ok.book.shares; queries = c.new-2.result.items } in
    let begins : Begins vs core.agents c.length.result table c.new-3.result.items = record {
      some = omega (arith, c.requires.agents, c.agents-agents.ensures.formed.some_agent);
      long = c.length.ensures.of_each;
      pieces = c.in-Ok-start.ensures;
      shares = c.in-Ok.ensures.shares ∙ ap (λ n. replicate n []) c.agents-agents.ensures.value;
      queries = c.new-2.ensures.items;
      registers = c.new-3.ensures.items;
    } in
    first_fault vs (tree_of core.root) (tree_of c.root.result.now) core.agents c.length.result table c.new-3.result.items (answers_of c.args.answers.now) c.in-Err.fault c.root.ensures begins
    (if_err_is c.walk-stop.result c.in-Err.fault _ c.in-Err.is c.walk-stop.ensures.err)
