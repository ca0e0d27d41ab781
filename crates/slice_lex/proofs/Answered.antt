-- What a lexing of a file says where the file spells tokens.
use Rattle.std.proofs.Common.{◌≡◌, ℕ, true, List, ap, ◌∙◌}
use Rattle.std.specs.List.{list_all}
use Rattle.slice_lex.specs.declared.token.Token.{Token}
use Rattle.slice_lex.specs.declared.token.LexFault.{LexFault}
use Rattle.slice_lex.specs.Text.{is_token, Spells, no_angle_before_equals}
use Rattle.slice_lex.specs.Lexing.{Tokens, Fault, IsLexing, texts_of}
use Rattle.slice_lex.proofs.Unique.{lexings_unique}
use Rattle.slice_lex.proofs.Spelled.{spelled_lexed}

tokens_same : (ts us : List Token) → Tokens ts ≡ Tokens us → ts ≡ us
tokens_same ts us e = cc

no_fault : (ts : List Token) (fault : LexFault) → Tokens ts ≡ Fault fault → ⊥
no_fault ts fault e = cc

pub spelled_texts : (file : List ℕ) (ts : List Token) → IsLexing file (Tokens ts) → (texts : List (List ℕ)) → list_all is_token texts ≡ true → no_angle_before_equals texts ≡ true → Spells file texts → texts_of file ts ≡ texts
spelled_texts file ts h texts are angles spells =
    let r = spelled_lexed file texts are angles spells in
    ap (texts_of file) (tokens_same ts r.0 (lexings_unique file (Tokens ts) (Tokens r.0) h r.1.0)) ∙ r.1.1

pub spelled_no_fault : (file : List ℕ) (fault : LexFault) → IsLexing file (Fault fault) → (texts : List (List ℕ)) → list_all is_token texts ≡ true → no_angle_before_equals texts ≡ true → Spells file texts → ⊥
spelled_no_fault file fault h texts are angles spells =
    let r = spelled_lexed file texts are angles spells in
    no_fault r.0 fault (lexings_unique file (Tokens r.0) (Fault fault) r.1.0 h)
