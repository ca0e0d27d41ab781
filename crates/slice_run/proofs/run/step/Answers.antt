use Rattle.std.proofs.Common.{◌≡◌, ◌∙◌, ◌≤◌, List, length, sym, ap, subst, arith, Err}
use Rattle.std.specs.Prelude.{map, Some, None, Bool}
use Rattle.std.proofs.lemmas.Grind.{common_steps}
use Rattle.slice_core.specs.Sizes.{depth}
use Rattle.slice_core.specs.WellFormed.{IsLive}
use Rattle.slice_num.specs.Rational.{Rational}
use Rattle.slice_core.specs.Nodes.{tree_of}
use Rattle.slice_num.specs.Pieces.{is_held, emptied, joined}
use Rattle.slice_core.specs.Tree.{Tree}
use Rattle.slice_core.specs.Tree as core
use Rattle.slice_core.proofs.FormedLaws.{cut_formed, join_formed, give_formed, held_emptied}
use Rattle.slice_run.specs.Answers.{answers_of}
use Rattle.slice_run.specs.Tables.{Ready, board_of, IsCut}
use Rattle.slice_run.specs.Walk.{walk}
use Rattle.slice_core.proofs.NodeLaws.{tree_of-Ask, tree_of-Set, tree_of-Cut, tree_of-Join, tree_of-Give}
use Rattle.slice_run.proofs.Ready.{piece_there, piece_some, few_parts, ready_ask, ready_set, ready_cut, ready_join, ready_give}
use Rattle.slice_run.proofs.Walking.{walk_asks, ask_faults, walk_sets, walk_cuts, cut_faults, if_err_from}
use Rattle.slice_run.proofs.run.step.Goals as goal

pub returns-in_err-ask-in-Ask-clause-err : goal.returns-in_err-ask-in-Ask-clause-err
returns-in_err-ask-in-Ask-clause-err c =
    let vs = c.args.valuations.now in
    let n = c.in-Ask in
    let t = c.args.table.now in
    let tree : tree_of c.args.node.now ≡ core.Ask n.agent n.piece n.reg (tree_of n.next) = ap tree_of n.is ∙ tree_of-Ask n.agent n.piece n.reg n.next in
    let e : c.from_residual.result ≡ Err c.in_err-ask-in-Ask.field-0.0 = grind (arith, common_steps) in
    if_err_from c.from_residual.result c.in_err-ask-in-Ask.field-0.0 _ e
    (ask_faults vs (tree_of c.args.node.now) (tree_of n.next) n.agent n.piece n.reg t.registers.items (answers_of c.args.answers.now) (board_of t) c.get.result.now c.in_err-ask-in-Ask.field-0.0 tree c.get.ensures c.in_err-ask-in-Ask.ensures.err)

pub cut-requires-clause-there : goal.cut-requires-clause-there
cut-requires-clause-there c =
    let n = c.in-Cut in
    let t = c.args.table.now in
    let tree : tree_of c.args.node.now ≡ core.Cut n.agent n.piece n.amount n.left n.right (tree_of n.next) = ap tree_of n.is ∙ tree_of-Cut n.agent n.piece n.amount n.left n.right n.next in
    let k = subst (λ (s : Tree). Ready (length c.args.valuations.now) (length t.registers.items) s (board_of t)) tree c.requires.ready in
    piece_there t.pieces n.piece (cut_formed (length c.args.valuations.now) (map is_held t.pieces) (length t.registers.items) n.agent n.piece n.amount n.left n.right (tree_of n.next) k.formed).is_live

pub cut-requires-clause-some : goal.cut-requires-clause-some
cut-requires-clause-some c =
    let n = c.in-Cut in
    let t = c.args.table.now in
    let tree : tree_of c.args.node.now ≡ core.Cut n.agent n.piece n.amount n.left n.right (tree_of n.next) = ap tree_of n.is ∙ tree_of-Cut n.agent n.piece n.amount n.left n.right n.next in
    let k = subst (λ (s : Tree). Ready (length c.args.valuations.now) (length t.registers.items) s (board_of t)) tree c.requires.ready in
    piece_some t.pieces n.piece (cut_formed (length c.args.valuations.now) (map is_held t.pieces) (length t.registers.items) n.agent n.piece n.amount n.left n.right (tree_of n.next) k.formed).is_live

pub cut-requires-clause-parts : goal.cut-requires-clause-parts
cut-requires-clause-parts c =
    let t = c.args.table.now in
    let all : length (joined t.pieces) ≤ 65 = omega (arith, c.requires.ready.room) in
    omega (arith, few_parts t.pieces c.in-Cut.piece 65 all)

pub returns-in_err-cut-in-Cut-clause-err : goal.returns-in_err-cut-in-Cut-clause-err
returns-in_err-cut-in-Cut-clause-err c =
    let vs = c.args.valuations.now in
    let n = c.in-Cut in
    let t = c.args.table.now in
    let tree : tree_of c.args.node.now ≡ core.Cut n.agent n.piece n.amount n.left n.right (tree_of n.next) = ap tree_of n.is ∙ tree_of-Cut n.agent n.piece n.amount n.left n.right n.next in
    let e : c.from_residual-in_err-cut-in-Cut.result ≡ Err c.in_err-cut-in-Cut.field-0.0 = grind (arith, common_steps) in
    if_err_from c.from_residual-in_err-cut-in-Cut.result c.in_err-cut-in-Cut.field-0.0 _ e
    (cut_faults vs (tree_of c.args.node.now) (tree_of n.next) n.agent n.piece n.amount n.left n.right t.registers.items (answers_of c.args.answers.now) (board_of t) c.get-in-Cut.result.now c.in_err-cut-in-Cut.field-0.0 tree c.get-in-Cut.ensures c.in_err-cut-in-Cut.ensures.err)

pub join-requires-clause-first_held : goal.join-requires-clause-first_held
join-requires-clause-first_held c =
    let n = c.in-Join in
    let t = c.args.table.now in
    let tree : tree_of c.args.node.now ≡ core.Join n.first n.second n.piece (tree_of n.next) = ap tree_of n.is ∙ tree_of-Join n.first n.second n.piece n.next in
    let k = subst (λ (s : Tree). Ready (length c.args.valuations.now) (length t.registers.items) s (board_of t)) tree c.requires.ready in
    piece_some t.pieces n.first (join_formed (length c.args.valuations.now) (map is_held t.pieces) (length t.registers.items) n.first n.second n.piece (tree_of n.next) k.formed).first

pub join-requires-clause-second_held : goal.join-requires-clause-second_held
join-requires-clause-second_held c =
    let n = c.in-Join in
    let t = c.args.table.now in
    let tree : tree_of c.args.node.now ≡ core.Join n.first n.second n.piece (tree_of n.next) = ap tree_of n.is ∙ tree_of-Join n.first n.second n.piece n.next in
    let k = subst (λ (s : Tree). Ready (length c.args.valuations.now) (length t.registers.items) s (board_of t)) tree c.requires.ready in
    let f = join_formed (length c.args.valuations.now) (map is_held t.pieces) (length t.registers.items) n.first n.second n.piece (tree_of n.next) k.formed in
    piece_some (emptied t.pieces n.first) n.second (subst (λ (us : List Bool). IsLive us n.second) (sym (held_emptied t.pieces n.first)) f.second)

pub give-requires-clause-held : goal.give-requires-clause-held
give-requires-clause-held c =
    let n = c.in-Give in
    let t = c.args.table.now in
    let tree : tree_of c.args.node.now ≡ core.Give n.piece n.agent (tree_of n.next) = ap tree_of n.is ∙ tree_of-Give n.piece n.agent n.next in
    let k = subst (λ (s : Tree). Ready (length c.args.valuations.now) (length t.registers.items) s (board_of t)) tree c.requires.ready in
    piece_some t.pieces n.piece (give_formed (length c.args.valuations.now) (map is_held t.pieces) (length t.registers.items) n.piece n.agent (tree_of n.next) k.formed).is_live

pub give-requires-clause-from_one : goal.give-requires-clause-from_one
give-requires-clause-from_one c =
    let n = c.in-Give in
    let t = c.args.table.now in
    let tree : tree_of c.args.node.now ≡ core.Give n.piece n.agent (tree_of n.next) = ap tree_of n.is ∙ tree_of-Give n.piece n.agent n.next in
    let k = subst (λ (s : Tree). Ready (length c.args.valuations.now) (length t.registers.items) s (board_of t)) tree c.requires.ready in
    (give_formed (length c.args.valuations.now) (map is_held t.pieces) (length t.registers.items) n.piece n.agent (tree_of n.next) k.formed).agent.0

pub give-requires-clause-there : goal.give-requires-clause-there
give-requires-clause-there c =
    let n = c.in-Give in
    let t = c.args.table.now in
    let tree : tree_of c.args.node.now ≡ core.Give n.piece n.agent (tree_of n.next) = ap tree_of n.is ∙ tree_of-Give n.piece n.agent n.next in
    let k = subst (λ (s : Tree). Ready (length c.args.valuations.now) (length t.registers.items) s (board_of t)) tree c.requires.ready in
    let range = (give_formed (length c.args.valuations.now) (map is_held t.pieces) (length t.registers.items) n.piece n.agent (tree_of n.next) k.formed).agent in
    omega (arith, range.1, k.shares)

pub returns-in_ok-ask-in-Ask-clause-ok : goal.returns-in_ok-ask-in-Ask-clause-ok
returns-in_ok-ask-in-Ask-clause-ok c =
    let vs = c.args.valuations.now in
    let n = c.in-Ask in
    let t = c.args.table.now in
    let tree : tree_of c.args.node.now ≡ core.Ask n.agent n.piece n.reg (tree_of n.next) = ap tree_of n.is ∙ tree_of-Ask n.agent n.piece n.reg n.next in
    let next : tree_of n.next ≡ tree_of c.get-in-Ask.result.now = sym (ap tree_of c.get-in-Ask.ensures) in
    walk_asks vs (tree_of c.args.node.now) (tree_of n.next) n.agent n.piece n.reg t.registers.items c.ask.new.self.registers.items (answers_of c.args.answers.now) (board_of t) (board_of c.ask.new.self) c.get.result.now tree c.get.ensures c.in_ok-ask-in-Ask.ensures.ok
    ∙ ap (λ (s : Tree). walk vs s c.ask.new.self.registers.items (answers_of c.args.answers.now) (board_of c.ask.new.self)) next

pub returns-in_ok-ask-in-Ask-clause-ready : goal.returns-in_ok-ask-in-Ask-clause-ready
returns-in_ok-ask-in-Ask-clause-ready c =
    let vs = c.args.valuations.now in
    let n = c.in-Ask in
    let t = c.args.table.now in
    let tree : tree_of c.args.node.now ≡ core.Ask n.agent n.piece n.reg (tree_of n.next) = ap tree_of n.is ∙ tree_of-Ask n.agent n.piece n.reg n.next in
    let next : tree_of n.next ≡ tree_of c.get-in-Ask.result.now = sym (ap tree_of c.get-in-Ask.ensures) in
    let e = c.in_ok-ask-in-Ask.ensures in (
      subst (λ (s : Tree). Ready (length vs) (length c.ask.new.self.registers.items) s (board_of c.ask.new.self)) next
          (ready_ask (length vs) (length t.registers.items) (length c.ask.new.self.registers.items) n.agent n.piece n.reg (tree_of c.args.node.now) (tree_of n.next) (board_of t) (board_of c.ask.new.self) tree e.registers e.pieces (ap (λ b. b.shares) e.book) e.queries c.requires.ready),
      omega (arith, ap depth tree, ap depth next),
    )

pub returns-in_ok-set-in-Set-clause-ok : goal.returns-in_ok-set-in-Set-clause-ok
returns-in_ok-set-in-Set-clause-ok c =
    let vs = c.args.valuations.now in
    let n = c.in-Set in
    let t = c.args.table.now in
    let tree : tree_of c.args.node.now ≡ core.Set n.reg n.sum (tree_of n.next) = ap tree_of n.is ∙ tree_of-Set n.reg n.sum n.next in
    let next : tree_of n.next ≡ tree_of c.get-in-Set.result.now = sym (ap tree_of c.get-in-Set.ensures) in
    let e = c.in_ok-set-in-Set.ensures in
    let board : board_of c.set.new.self ≡ board_of t = λ i. record { pieces = e.pieces i; shares = (e.book i).shares; queries = (e.queries i).items } in
    walk_sets vs (tree_of c.args.node.now) (tree_of n.next) n.reg n.sum t.registers.items c.set.new.self.registers.items (answers_of c.args.answers.now) (board_of t) (board_of c.set.new.self) tree board e.ok
    ∙ ap (λ (s : Tree). walk vs s c.set.new.self.registers.items (answers_of c.args.answers.now) (board_of c.set.new.self)) next

pub returns-in_ok-set-in-Set-clause-ready : goal.returns-in_ok-set-in-Set-clause-ready
returns-in_ok-set-in-Set-clause-ready c =
    let vs = c.args.valuations.now in
    let n = c.in-Set in
    let t = c.args.table.now in
    let tree : tree_of c.args.node.now ≡ core.Set n.reg n.sum (tree_of n.next) = ap tree_of n.is ∙ tree_of-Set n.reg n.sum n.next in
    let next : tree_of n.next ≡ tree_of c.get-in-Set.result.now = sym (ap tree_of c.get-in-Set.ensures) in
    let e = c.in_ok-set-in-Set.ensures in (
      subst (λ (s : Tree). Ready (length vs) (length c.set.new.self.registers.items) s (board_of c.set.new.self)) next
          (ready_set (length vs) (length t.registers.items) (length c.set.new.self.registers.items) n.reg n.sum (tree_of c.args.node.now) (tree_of n.next) (board_of t) (board_of c.set.new.self) tree e.registers e.pieces (ap (λ b. b.shares) e.book) (ap (λ q. q.items) e.queries) c.requires.ready),
      omega (arith, ap depth tree, ap depth next),
    )

pub returns-in-None-clause-ok : goal.returns-in-None-clause-ok
returns-in-None-clause-ok c =
    let vs = c.args.valuations.now in
    let n = c.in-Cut in
    let t = c.args.table.now in
    let tree : tree_of c.args.node.now ≡ core.Cut n.agent n.piece n.amount n.left n.right (tree_of n.next) = ap tree_of n.is ∙ tree_of-Cut n.agent n.piece n.amount n.left n.right n.next in
    let next : tree_of n.next ≡ tree_of c.get-in-None.result.now = sym (ap tree_of c.get-in-None.ensures) in
    let e = c.in_ok-cut-in-Cut.ensures in
    let regs : c.cut.new.self.registers.items ≡ t.registers.items = ap (λ r. r.items) e.registers in
    walk_cuts vs (tree_of c.args.node.now) (tree_of n.next) n.agent n.piece n.amount n.left n.right t.registers.items (answers_of c.args.answers.now) (answers_of c.cut.new.answers) (board_of t) (board_of c.cut.new.self)
    c.get-in-Cut.result.now None tree c.get-in-Cut.ensures (rw c.in-None.is at e.ok)
    ∙ (λ i. walk vs (next i) (sym regs i) (answers_of c.cut.new.answers) (board_of c.cut.new.self))

pub returns-in-None-clause-ready : goal.returns-in-None-clause-ready
returns-in-None-clause-ready c =
    let vs = c.args.valuations.now in
    let n = c.in-Cut in
    let t = c.args.table.now in
    let tree : tree_of c.args.node.now ≡ core.Cut n.agent n.piece n.amount n.left n.right (tree_of n.next) = ap tree_of n.is ∙ tree_of-Cut n.agent n.piece n.amount n.left n.right n.next in
    let next : tree_of n.next ≡ tree_of c.get-in-None.result.now = sym (ap tree_of c.get-in-None.ensures) in
    let e = c.in_ok-cut-in-Cut.ensures in
    let regs : c.cut.new.self.registers.items ≡ t.registers.items = ap (λ r. r.items) e.registers in
    let cut : IsCut t.pieces n.piece c.cut.new.self.pieces = rw c.in-None.is at e.pieces in (
      subst (λ (s : Tree). Ready (length vs) (length c.cut.new.self.registers.items) s (board_of c.cut.new.self)) next
          (subst (λ (rs : List Rational). Ready (length vs) (length rs) (tree_of n.next) (board_of c.cut.new.self)) (sym regs)
          (ready_cut (length vs) (length t.registers.items) n.agent n.piece n.amount n.left n.right (tree_of c.args.node.now) (tree_of n.next) (board_of t) (board_of c.cut.new.self) tree cut (ap (λ b. b.shares) e.book) e.queries c.requires.ready)),
      omega (arith, ap depth tree, ap depth next),
    )

pub returns-in-Some-clause-ok : goal.returns-in-Some-clause-ok
returns-in-Some-clause-ok c =
    let vs = c.args.valuations.now in
    let n = c.in-Cut in
    let t = c.args.table.now in
    let tree : tree_of c.args.node.now ≡ core.Cut n.agent n.piece n.amount n.left n.right (tree_of n.next) = ap tree_of n.is ∙ tree_of-Cut n.agent n.piece n.amount n.left n.right n.next in
    walk_cuts vs (tree_of c.args.node.now) (tree_of n.next) n.agent n.piece n.amount n.left n.right t.registers.items (answers_of c.args.answers.now) (answers_of c.cut.new.answers) (board_of t) (board_of c.cut.new.self)
    c.get-in-Cut.result.now (Some c.in-Some.side) tree c.get-in-Cut.ensures (rw c.in-Some.is at c.in_ok-cut-in-Cut.ensures.ok)

pub returns-in_ok-join-in-Join-clause-ready : goal.returns-in_ok-join-in-Join-clause-ready
returns-in_ok-join-in-Join-clause-ready c =
    let vs = c.args.valuations.now in
    let n = c.in-Join in
    let t = c.args.table.now in
    let tree : tree_of c.args.node.now ≡ core.Join n.first n.second n.piece (tree_of n.next) = ap tree_of n.is ∙ tree_of-Join n.first n.second n.piece n.next in
    let next : tree_of n.next ≡ tree_of c.get-in-Join.result.now = sym (ap tree_of c.get-in-Join.ensures) in
    let e = c.in_ok-join-in-Join.ensures in
    let regs : c.join.new.self.registers.items ≡ t.registers.items = ap (λ r. r.items) e.registers in (
      subst (λ (s : Tree). Ready (length vs) (length c.join.new.self.registers.items) s (board_of c.join.new.self)) next
          (subst (λ (rs : List Rational). Ready (length vs) (length rs) (tree_of n.next) (board_of c.join.new.self)) (sym regs)
          (ready_join (length vs) (length t.registers.items) n.first n.second n.piece (tree_of c.args.node.now) (tree_of n.next) (board_of t) (board_of c.join.new.self) tree e.ok c.requires.ready)),
      omega (arith, ap depth tree, ap depth next),
    )

pub returns-in_ok-give-in-Give-clause-ready : goal.returns-in_ok-give-in-Give-clause-ready
returns-in_ok-give-in-Give-clause-ready c =
    let vs = c.args.valuations.now in
    let n = c.in-Give in
    let t = c.args.table.now in
    let tree : tree_of c.args.node.now ≡ core.Give n.piece n.agent (tree_of n.next) = ap tree_of n.is ∙ tree_of-Give n.piece n.agent n.next in
    let next : tree_of n.next ≡ tree_of c.get-in-Give.result.now = sym (ap tree_of c.get-in-Give.ensures) in
    let e = c.in_ok-give-in-Give.ensures in
    let regs : c.give.new.self.registers.items ≡ t.registers.items = ap (λ r. r.items) e.registers in (
      subst (λ (s : Tree). Ready (length vs) (length c.give.new.self.registers.items) s (board_of c.give.new.self)) next
          (subst (λ (rs : List Rational). Ready (length vs) (length rs) (tree_of n.next) (board_of c.give.new.self)) (sym regs)
          (ready_give (length vs) (length t.registers.items) n.piece n.agent (tree_of c.args.node.now) (tree_of n.next) (board_of t) (board_of c.give.new.self) tree e.ok c.requires.ready)),
      omega (arith, ap depth tree, ap depth next),
    )
