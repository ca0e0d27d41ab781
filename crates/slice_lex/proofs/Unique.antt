-- A file is read in one way alone.
use Rattle.std.proofs.Common.{◌≡◌, ℕ, ◌+◌, false, List, [], ◌∷◌, ◌++◌, Option, Some, None, length, drop, sym, refl, ap, ◌∙◌, subst}
use Rattle.std.proofs.lemmas.List.{drop_at}
use Rattle.slice_lex.specs.declared.token.Token.{Token}
use Rattle.slice_lex.specs.declared.token.TokenKind.{TokenKind}
use Rattle.slice_lex.specs.declared.token.LexFault.{LexFault}
use Rattle.slice_lex.specs.Text.{is_gap_byte, begins}
use Rattle.slice_lex.specs.Lexing.{AfterGap, AfterToken, IsRead, Tokens, Fault}
use Rattle.slice_lex.specs.Laws.{LexingsAreUnique}
use Rattle.slice_lex.proofs.Gaps.{gaps_same}
use Rattle.slice_lex.proofs.Nexts.{Skip, Stop, Took, Wrong, next, token_next, fault_next, end_next, gap_next}

-- the token that a token of this kind and length at this place is
token_at : ℕ → TokenKind → ℕ → Token
token_at at k n = record { kind = k; from = at; to = at + n }

token_is : (t : Token) (k : TokenKind) (from to : ℕ) → t.kind ≡ k → t.from ≡ from → t.to ≡ to → t ≡ record { kind = k; from = from; to = to }
token_is t k from to a b c =
    ap (λ (x : TokenKind). let u : Token = record { kind = x; from = t.from; to = t.to } in u) a
    ∙ ap (λ (x : ℕ). let u : Token = record { kind = k; from = x; to = t.to } in u) b
    ∙ ap (λ (x : ℕ). let u : Token = record { kind = k; from = from; to = x } in u) c

-- what is read first is what begins there
first_next : (t : Token) (P : ℕ → List ℕ → Type 0) (at : ℕ) (bytes : List ℕ) (r : AfterToken t P at bytes) → next at bytes ≡ Took t.kind (length r.text)
first_next t P at bytes r = ap (next at) r.whole ∙ token_next at r.text r.rest t.kind r.token.kind r.token.longest

no_gap_before : (ts : List Token) (end : Option LexFault) (at : ℕ) (bytes : List ℕ) → IsRead ts end at bytes → begins is_gap_byte bytes ≡ false
no_gap_before [] None at bytes h = gap_next at bytes (λ e. let f = end_next at bytes h in let clash : Skip ≡ Stop = sym e ∙ f in cc)
no_gap_before [] (Some fault) at bytes h = gap_next at bytes (λ e. let f = fault_next fault at bytes h in let clash : Skip ≡ Wrong fault = sym e ∙ f in cc)
no_gap_before (t ∷ ts) end at bytes h =
    gap_next at bytes (λ e. let f = first_next t (AfterGap (IsRead ts end)) at bytes h in let clash : Skip ≡ Took t.kind (length h.text) = sym e ∙ f in cc)

same_rest : (text rest text2 rest2 bytes : List ℕ) → bytes ≡ text ++ rest → bytes ≡ text2 ++ rest2 → length text ≡ length text2 → rest ≡ rest2
same_rest text rest text2 rest2 bytes a b e =
    sym (drop_at text rest (length text) refl) ∙ ap (drop (length text)) (sym a ∙ b) ∙ drop_at text2 rest2 (length text) (sym e)

took_kind : (k l : TokenKind) (n m : ℕ) → Took k n ≡ Took l m → (k ≡ l) × (n ≡ m)
took_kind k l n m e = (let h : k ≡ l = cc in h, let h : n ≡ m = cc in h)

-- two readings with a gap before each are one where they are without
gapped_same : (ts us : List Token) (e f : Option LexFault) (at : ℕ) (bytes : List ℕ) → ((place : ℕ) (rest : List ℕ) → IsRead ts e place rest → IsRead us f place rest → (ts ≡ us) × (e ≡ f)) → AfterGap (IsRead ts e) at bytes → AfterGap (IsRead us f) at bytes → (ts ≡ us) × (e ≡ f)
gapped_same ts us e f at bytes same a b =
    let gaps = gaps_same a.is_gap b.gap b.rest b.is_gap (sym a.whole ∙ b.whole) (no_gap_before ts e _ a.rest a.after) (no_gap_before us f _ b.rest b.after) in
    same (at + length a.gap) a.rest a.after
    (subst (λ place. IsRead us f place a.rest) (ap (λ g. at + length g) (sym gaps.0)) (subst (IsRead us f (at + length b.gap)) (sym gaps.1) b.after))

-- two readings of tokens and of an end are one
reads_same : (ts us : List Token) (e f : Option LexFault) (at : ℕ) (bytes : List ℕ) → IsRead ts e at bytes → IsRead us f at bytes → (ts ≡ us) × (e ≡ f)
reads_same [] [] None None at bytes h k = (refl, refl)
reads_same [] [] None (Some g) at bytes h k =
    let a = end_next at bytes h in let b = fault_next g at bytes k in let clash : Stop ≡ Wrong g = sym a ∙ b in cc
reads_same [] [] (Some g) None at bytes h k =
    let a = fault_next g at bytes h in let b = end_next at bytes k in let clash : Wrong g ≡ Stop = sym a ∙ b in cc
reads_same [] [] (Some g) (Some g2) at bytes h k =
    let a = fault_next g at bytes h in let b = fault_next g2 at bytes k in let both : Wrong g ≡ Wrong g2 = sym a ∙ b in
    (refl, let same : g ≡ g2 = cc in ap (λ x. Some x) same)
reads_same [] (u ∷ us) None f at bytes h k =
    let a = end_next at bytes h in let b = first_next u (AfterGap (IsRead us f)) at bytes k in let clash : Stop ≡ Took u.kind (length k.text) = sym a ∙ b in cc
reads_same [] (u ∷ us) (Some g) f at bytes h k =
    let a = fault_next g at bytes h in let b = first_next u (AfterGap (IsRead us f)) at bytes k in let clash : Wrong g ≡ Took u.kind (length k.text) = sym a ∙ b in cc
reads_same (t ∷ ts) [] e None at bytes h k =
    let a = first_next t (AfterGap (IsRead ts e)) at bytes h in let b = end_next at bytes k in let clash : Took t.kind (length h.text) ≡ Stop = sym a ∙ b in cc
reads_same (t ∷ ts) [] e (Some g) at bytes h k =
    let a = first_next t (AfterGap (IsRead ts e)) at bytes h in let b = fault_next g at bytes k in let clash : Took t.kind (length h.text) ≡ Wrong g = sym a ∙ b in cc
reads_same (t ∷ ts) (u ∷ us) e f at bytes h k =
    let a = first_next t (AfterGap (IsRead ts e)) at bytes h in
    let b = first_next u (AfterGap (IsRead us f)) at bytes k in
    let same = took_kind t.kind u.kind (length h.text) (length k.text) (sym a ∙ b) in
    let token : t ≡ u = token_is t u.kind u.from u.to same.0 (h.token.from ∙ sym k.token.from) (h.token.to ∙ ap (λ n. at + n) same.1 ∙ sym k.token.to) in
    let rest : h.rest ≡ k.rest = same_rest h.text h.rest k.text k.rest bytes h.whole k.whole same.1 in
    let later = gapped_same ts us e f t.to h.rest (λ place more. reads_same ts us e f place more) h.after
    (subst (λ (x : Token). AfterGap (IsRead us f) x.to h.rest) (sym token) (subst (AfterGap (IsRead us f) u.to) (sym rest) k.after)) in
    (ap (λ x. x ∷ ts) token ∙ ap (λ xs. u ∷ xs) later.0, later.1)

files_same : (file : List ℕ) (ts us : List Token) (e f : Option LexFault) → AfterGap (IsRead ts e) 0 file → AfterGap (IsRead us f) 0 file → (ts ≡ us) × (e ≡ f)
files_same file ts us e f = gapped_same ts us e f 0 file (λ place more. reads_same ts us e f place more)

pub lexings_unique : LexingsAreUnique
lexings_unique file (Tokens ts) (Tokens us) h k = ap Tokens (files_same file ts us None None h k).0
lexings_unique file (Tokens ts) (Fault f) h k = let e = (files_same file ts k.0 None (Some f) h k.1).1 in cc
lexings_unique file (Fault f) (Tokens us) h k = let e = (files_same file h.0 us (Some f) None h.1 k).1 in cc
lexings_unique file (Fault f) (Fault g) h k =
    let e = (files_same file h.0 k.0 (Some f) (Some g) h.1 k.1).1 in let same : f ≡ g = cc in ap Fault same
