use Rattle.std.proofs.Common.{◌∙◌, ap, sym}
use Rattle.slice_top.specs.Programs.{text_refusal}
use Rattle.slice_top.specs.Stops.{stop_for}
use Rattle.slice_top.proofs.programs.text_stop.Goals as goal

pub returns-in-Lex : goal.returns-in-Lex
returns-in-Lex c = c.lexer_stop.ensures ∙ ap (λ f. stop_for (text_refusal f)) (sym c.in-Lex.is)
