use Rattle.std.proofs.Common.{◌≡◌, ◌∙◌, Some, List, ℕ, ap, sym, arith, codes}
use Rattle.serde_json.specs.View.{view}
use Rattle.std.specs.Prelude.{IsTrue}
use Rattle.slice_num.specs.Name.{is_name}
use Rattle.slice_json.specs.Texts.{whole, text}
use Rattle.slice_cert.proofs.Values.{text_there}
use Rattle.slice_cert.proofs.read.header.Goals as goal

pub returns : goal.returns
returns c =
    let p = c.in-Ok-Ok in
    let word : c.in-Ok.protocol ≡ c.in-Some-text_at.protocol.now = c.in-Ok.ensures {u = tt} ∙ c.as_bytes-2.ensures.value in
    let said = text_there (codes "protocol") c.in-Some-text_at.protocol.now (view c.args.value.now) (sym (c.in-Some-text_at.ensures {u = tt})) in
    let name : IsTrue (is_name c.as_bytes.result.now) = sym c.is_name.ensures ∙ c.if-not-is_name.false in (
      c.has_keys.ensures.0 c.if-not-has_keys.false,
      (
        c.in-Some.ensures {u = tt} ∙ ap (λ (n : ℕ). Some (whole n)) (sym (p.ensures.1)),
        (
          c.in-Some-number_at.ensures {u = tt} ∙ ap (λ (n : ℕ). Some (whole n)) (sym (p.ensures'.1)),
          (said ∙ ap (λ (s : List ℕ). Some (text s)) (sym word), tt),
        ),
      ),
      (ap is_name (word ∙ sym c.as_bytes.ensures.value) ∙ name, omega (arith, p.ensures'.0, p.ensures'.1), omega (arith, p.ensures.0, p.ensures.1)),
    )
