-- The tokens of a file lie in it, one after another.
use Rattle.std.proofs.Common.{◌≡◌, ℕ, ◌+◌, ◌<◌, ◌≤◌, true, List, [], ◌∷◌, ◌++◌, None, length, sym, ap, ◌∙◌, arith, append_assoc, length-append}
use Rattle.std.specs.List.{All, AllByRecursion}
use Rattle.std.proofs.lemmas.Bool.{true≢false}
use Rattle.std.proofs.lemmas.List.Elements.{All-from_recursion}
use Rattle.slice_lex.specs.declared.token.Token.{Token}
use Rattle.slice_lex.specs.declared.token.TokenKind.{TokenKind}
use Rattle.slice_lex.specs.declared.token.TokenKind.TheVariants.{Word, Number, Sign}
use Rattle.slice_lex.specs.Text.{is_number, is_sign}
use Rattle.slice_lex.specs.Lexing.{is_of_kind, IsRead, Tokens, IsLexing, text_of, IsTokenOf, AreInOrder}
use Rattle.slice_lex.proofs.Spelled.{text_here}

no_token_is_empty : (k : TokenKind) → is_of_kind k [] ≡ true → ⊥
unfolding is_number is_sign
no_token_is_empty Word h = true≢false (sym h)
no_token_is_empty Number h = true≢false (sym h)
no_token_is_empty Sign h = true≢false (sym h)

some_bytes : (k : TokenKind) (text : List ℕ) → is_of_kind k text ≡ true → 0 < length text
some_bytes k [] h = absurd (no_token_is_empty k h)
some_bytes k (c ∷ cs) h = omega arith

earlier : (ts : List Token) (a b : ℕ) → a ≤ b → AreInOrder b ts → AreInOrder a ts
earlier [] a b h s = tt
earlier (t ∷ ts) a b h s = (let first = s.0 in omega (arith, h, first), s.1)

read_in_order : (ts : List Token) (at : ℕ) (bytes : List ℕ) → IsRead ts None at bytes → AreInOrder at ts
read_in_order [] at bytes h = tt
read_in_order (t ∷ ts) at bytes h =
    let a = h.after in
    (omega (arith, h.token.from), earlier ts t.to (t.to + length a.gap) (omega arith) (read_in_order ts (t.to + length a.gap) a.rest a.after))

pub tokens_in_order : (file : List ℕ) (ts : List Token) → IsLexing file (Tokens ts) → AreInOrder 0 ts
tokens_in_order file ts h = earlier ts 0 (0 + length h.gap) (omega arith) (read_in_order ts (0 + length h.gap) h.rest h.after)

read_each : (ts : List Token) (file front bytes : List ℕ) (at : ℕ) → file ≡ front ++ bytes → at ≡ length front → IsRead ts None at bytes → AllByRecursion (IsTokenOf file) ts
read_each [] file front bytes at whole here h = tt
read_each (t ∷ ts) file front bytes at whole here h =
    let a = h.after in
    let split : bytes ≡ h.text ++ (a.gap ++ a.rest) = h.whole ∙ ap (λ bs. h.text ++ bs) a.whole in
    let behind = front ++ (h.text ++ a.gap) in
    let all : file ≡ behind ++ a.rest =
    whole ∙ ap (λ bs. front ++ bs) (split ∙ sym (append_assoc h.text a.gap a.rest)) ∙ sym (append_assoc front (h.text ++ a.gap) a.rest) in
    let place : t.to + length a.gap ≡ length behind = omega (arith, h.token.to, here, length-append front (h.text ++ a.gap), length-append h.text a.gap) in
    let text : text_of file t ≡ h.text =
    ap (λ f. text_of f t) (whole ∙ ap (λ bs. front ++ bs) h.whole)
    ∙ text_here front h.text h.rest t (h.token.from ∙ here) (h.token.to ∙ ap (λ k. k + length h.text) here) in
    let long = ap length whole in
    let some = some_bytes t.kind h.text h.token.kind in
    let part = ap length h.whole in (
      record {
        some = omega (arith, h.token.from, h.token.to, some);
        within = omega (arith, h.token.to, here, long, part, length-append front bytes, length-append h.text h.rest);
        kind = ap (is_of_kind t.kind) text ∙ h.token.kind;
      },
      read_each ts file behind a.rest (t.to + length a.gap) all place a.after,
    )

pub each_token : (file : List ℕ) (ts : List Token) → IsLexing file (Tokens ts) → All (IsTokenOf file) ts
each_token file ts h =
    All-from_recursion (IsTokenOf file) ts (read_each ts file h.gap h.rest (0 + length h.gap) h.whole (omega arith) h.after)
