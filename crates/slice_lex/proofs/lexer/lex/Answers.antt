use Rattle.std.proofs.Common.{sym, ap, ◌∙◌, subst, arith, not}
use Rattle.std.proofs.lemmas.Result.{err_from_is_err_and}
use Rattle.slice_lex.specs.Text.{is_line_end}
use Rattle.slice_lex.proofs.Steps.{run_is, run_within}
use Rattle.slice_lex.proofs.Turns.{IsReadTo, turn_layout, turn_comment, turn_token, end_of_file, fault_here, pushed_items}
use Rattle.slice_lex.proofs.Spelled.{lexed_spelled}
use Rattle.slice_lex.proofs.Places.{each_token, tokens_in_order}
use Rattle.slice_lex.proofs.Answered.{spelled_texts, spelled_no_fault}
use Rattle.slice_lex.proofs.lexer.lex.Goals as goal

pub loop-at-preserved-then-is_layout : goal.loop-at-preserved-then-is_layout
loop-at-preserved-then-is_layout c =
    turn_layout c.args.bytes.now c.loop-at.tokens.items c.loop-at.at c.loop-at-test.true (sym c.if-is_layout.ensures) c.loop-at.invariant

pub overflow_add-at-then-bytes-at-eq35 : goal.overflow_add-at-then-bytes-at-eq35
overflow_add-at-then-bytes-at-eq35 c =
    let within = run_within (λ b. not (is_line_end b)) c.args.bytes.now c.loop-at.at c.line_length-at.result c.loop-at-test.true (run_is (λ b. not (is_line_end b)) c.args.bytes.now c.loop-at.at _ c.line_length-at.ensures.count) in
    omega (arith, within)

pub loop-at-preserved-then-bytes-at-eq35 : goal.loop-at-preserved-then-bytes-at-eq35
loop-at-preserved-then-bytes-at-eq35 c =
    turn_comment c.args.bytes.now c.loop-at.tokens.items c.loop-at.at c.line_length-at.result c.loop-at-test.true c.if-bytes-at-eq35.true
    (run_is (λ b. not (is_line_end b)) c.args.bytes.now c.loop-at.at _ c.line_length-at.ensures.count) c.loop-at.invariant

pub returns-in_err-token-clause-fault : goal.returns-in_err-token-clause-fault
returns-in_err-token-clause-fault c =
    let p = err_from_is_err_and c.from_residual.result c.from_residual.ensures.1 in
    rw (p.1, p.2) (λ known. fault_here c.args.bytes.now c.loop-at.tokens.items c.loop-at.at c.in_err-token.field-0.0 c.in_err-token.ensures.fault c.loop-at.invariant)

pub loop-at-preserved : goal.loop-at-preserved
loop-at-preserved c =
    let turn = turn_token c.args.bytes.now c.loop-at.tokens.items c.loop-at.at c.in_ok-token.token c.in_ok-token.ensures.token c.loop-at.invariant in
    let items = pushed_items c.loop-at.tokens.items c.push.new.self.items c.push.result c.in_ok-token.token c.push.ensures.items (c.is_err.ensures.negation ∙ ap not c.if-is_err.false) in
    subst (λ ts. IsReadTo c.args.bytes.now ts c.in_ok-token.token.to) (sym items) turn

pub returns-clause-tokens : goal.returns-clause-tokens
returns-clause-tokens c =
    end_of_file c.args.bytes.now c.loop-at.tokens.items c.loop-at.at c.loop-at-test.false c.loop-at.invariant

pub returns-in_err-token-clause-complete : goal.returns-in_err-token-clause-complete
returns-in_err-token-clause-complete c =
    let p = err_from_is_err_and c.from_residual.result c.from_residual.ensures.1 in
    let fault = fault_here c.args.bytes.now c.loop-at.tokens.items c.loop-at.at c.in_err-token.field-0.0 c.in_err-token.ensures.fault c.loop-at.invariant in
    rw (p.1, p.2) (λ texts are angles spells. absurd (spelled_no_fault c.args.bytes.now c.in_err-token.field-0.0 fault texts are angles spells))

pub returns-clause-each : goal.returns-clause-each
returns-clause-each c = each_token c.args.bytes.now c.loop-at.tokens.items (returns-clause-tokens c)

pub returns-clause-in_order : goal.returns-clause-in_order
returns-clause-in_order c = tokens_in_order c.args.bytes.now c.loop-at.tokens.items (returns-clause-tokens c)

pub returns-clause-spelled : goal.returns-clause-spelled
returns-clause-spelled c = (lexed_spelled c.args.bytes.now c.loop-at.tokens.items (returns-clause-tokens c)).0

pub returns-clause-complete : goal.returns-clause-complete
returns-clause-complete c = spelled_texts c.args.bytes.now c.loop-at.tokens.items (returns-clause-tokens c)
