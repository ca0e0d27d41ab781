use Rattle.std.proofs.Common.{◌≡◌, ◌∙◌, ◌++◌, ◌∷◌, [], List, ℕ, ap, Some}
use Rattle.std.specs.Str.{IsUtf8}
use Rattle.serde_json.specs.Read.{read}
use Rattle.serde_json.specs.Written.{compact_text}
use Rattle.slice_cert.specs.CertLines.{line_json}
use Rattle.slice_cert.proofs.Plain.{plain_line}
use Rattle.slice_cert.proofs.Written.{few_levels, written}
use Rattle.slice_cert.proofs.write.line_bytes.Goals as goal

pub returns-clause-text : goal.returns-clause-text
returns-clause-text c =
    let value = rw c.in_ok-value.ensures at c.in_ok-bytes.ensures.text in
    let text : c.in_ok-bytes.bytes.items ≡ compact_text (line_json c.args.line.now) = value (plain_line c.args.line.now) in
    c.in_ok-push.ensures.items ∙ ap (λ (us : List ℕ). us ++ 10 ∷ []) text

pub returns-clause-line : goal.returns-clause-line
returns-clause-line c =
    let value = rw c.in_ok-value.ensures at c.in_ok-bytes.ensures.text in
    let text : c.in_ok-bytes.bytes.items ≡ compact_text (line_json c.args.line.now) = value (plain_line c.args.line.now) in
    let back = rw c.in_ok-value.ensures at c.in_ok-bytes.ensures.reads_back in
    let same : read (compact_text (line_json c.args.line.now)) ≡ Some (line_json c.args.line.now) = rw text at back (few_levels c.args.line.now) in
    let valid : IsUtf8 (compact_text (line_json c.args.line.now)) = rw text at c.in_ok-bytes.ensures.utf8 in
    written c.args.line.now c.push.new.self.items c.requires.may c.texts_hold_no_line_end.ensures valid same (c.in_ok-push.ensures.items ∙ ap (λ (us : List ℕ). us ++ 10 ∷ []) text)
