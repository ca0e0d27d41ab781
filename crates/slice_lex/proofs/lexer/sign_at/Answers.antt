use Rattle.std.proofs.Common.{sym, inl, refl}
use Rattle.std.specs.Prelude.{◌==◌}
use Rattle.slice_lex.proofs.Steps.{begins_is, stray_byte, wide_sign}
use Rattle.slice_lex.proofs.lexer.sign_at.Goals as goal

pub returns-then-not-is_sign_byte-clause-fault : goal.returns-then-not-is_sign_byte-clause-fault
returns-then-not-is_sign_byte-clause-fault c =
    inl (refl, stray_byte c.args.file.now c.args.at c.requires.within c.requires.no_word c.requires.no_number c.requires.no_gap (sym c.if-not-is_sign_byte.ensures))

pub returns-then-begins_with_equals-clause-token : goal.returns-then-begins_with_equals-clause-token
returns-then-begins_with_equals-clause-token c =
    wide_sign c.args.file.now c.args.at c.requires.within (sym c.if-is_angle.ensures) (begins_is (λ b. b == 61) c.args.file.now _ _ c.if-begins_with_equals.ensures)
