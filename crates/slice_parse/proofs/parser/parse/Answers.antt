use Rattle.std.proofs.Common.{rules, arith, ap, sym, subst, ◌∙◌}
use Rattle.std.proofs.lemmas.Grind.{common_steps}
use Rattle.slice_ast.specs.Tokens.{tokens}
use Rattle.slice_parse.specs.Classes.{AreToldApart}
use Rattle.slice_parse.specs.Parsing.{IsFaultOf}
use Rattle.slice_parse.specs.Told.{of_lexer}
use Rattle.slice_ast.proofs.CalmLemmas.{program-tokens, program-apart}
use Rattle.slice_parse.proofs.Parsed.{lexer_fault, spelled_answer, is_read_answer, spellable_answer, within_answer, complete_told, fault_answer}
use Rattle.slice_parse.proofs.Reading.{read_is_exact}
use Rattle.slice_parse.proofs.parser.parse.Goals as goal

pub returns-in-Err : goal.returns-in-Err
returns-in-Err c = record {
  spelled = tt;
  places = tt;
  spellable = tt;
  within = tt;
  complete = λ p s w x. c.of_lexer.ensures ∙ ap of_lexer (c.in-Err.ensures.complete (tokens p) (program-tokens p s) (program-apart p s) x);
  fault = subst (IsFaultOf c.args.bytes.now) (sym c.of_lexer.ensures) (lexer_fault c.args.bytes.now c.in-Err.fault c.in-Err.ensures.fault);
}

pub returns-clause-spelled : goal.returns-clause-spelled
returns-clause-spelled c =
    let apart : AreToldApart c.args.bytes.now c.in-Ok.tokens.items c.as_slice-2.result.now = first_of (search rules, grind (arith, common_steps)) in
    spelled_answer read_is_exact c.args.bytes.now c.in-Ok.tokens.items c.as_slice-2.result.now c.in-Ok.ensures.tokens apart c.read.result c.in-Ok.ensures.spelled c.read.ensures

pub returns-clause-places : goal.returns-clause-places
returns-clause-places c =
    let apart : AreToldApart c.args.bytes.now c.in-Ok.tokens.items c.as_slice-2.result.now = first_of (search rules, grind (arith, common_steps)) in
    is_read_answer read_is_exact c.args.bytes.now c.in-Ok.tokens.items c.as_slice-2.result.now c.in-Ok.ensures.tokens apart c.read.result c.read.ensures

pub returns-clause-spellable : goal.returns-clause-spellable
returns-clause-spellable c =
    let apart : AreToldApart c.args.bytes.now c.in-Ok.tokens.items c.as_slice-2.result.now = first_of (search rules, grind (arith, common_steps)) in
    spellable_answer read_is_exact c.args.bytes.now c.in-Ok.tokens.items c.as_slice-2.result.now c.in-Ok.ensures.tokens apart c.read.result c.read.ensures

pub returns-clause-within : goal.returns-clause-within
returns-clause-within c =
    let apart : AreToldApart c.args.bytes.now c.in-Ok.tokens.items c.as_slice-2.result.now = first_of (search rules, grind (arith, common_steps)) in
    within_answer read_is_exact c.args.bytes.now c.in-Ok.tokens.items c.as_slice-2.result.now c.in-Ok.ensures.tokens apart c.read.result c.read.ensures

pub returns-clause-complete : goal.returns-clause-complete
returns-clause-complete c p s w x =
    let apart : AreToldApart c.args.bytes.now c.in-Ok.tokens.items c.as_slice-2.result.now = first_of (search rules, grind (arith, common_steps)) in
    complete_told read_is_exact c.args.bytes.now c.in-Ok.tokens.items c.as_slice-2.result.now c.in-Ok.ensures.tokens apart p s w
    (c.in-Ok.ensures.complete (tokens p) (program-tokens p s) (program-apart p s) x) c.read.result c.read.ensures

pub returns-clause-fault : goal.returns-clause-fault
returns-clause-fault c =
    let apart : AreToldApart c.args.bytes.now c.in-Ok.tokens.items c.as_slice-2.result.now = first_of (search rules, grind (arith, common_steps)) in
    fault_answer read_is_exact c.args.bytes.now c.in-Ok.tokens.items c.as_slice-2.result.now c.in-Ok.ensures.tokens apart c.read.result c.read.ensures
