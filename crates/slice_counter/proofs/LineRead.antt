-- A line is read as the value that it was written of: the LF at its end changes no token.
use Rattle.std.proofs.Common.{◌≡◌, ◌∙◌, ℕ, Bool, true, false, cond, ◌&&◌, List, [], ◌∷◌, ◌++◌, Option, Some, None, refl, sym, ap, ap₂, append_assoc, append-nil}
use Rattle.std.specs.Prelude.{option_and_then}
use Rattle.std.specs.Str.{IsUtf8}
use Rattle.std.proofs.lemmas.Str.{IsUtf8-append}
use Rattle.json.specs.Token.{Token, begin_object, end_object, begin_array, end_array, key, string, number, boolean, null, bad}
use Rattle.json.specs.Word.{ends_word, word}
use Rattle.json.specs.Lex.{token, comma, colon, string_token, lex, between, fresh, punctuate, tokens}
use Rattle.json.specs.Print.{escape, quoted, token_text, begins, ends, separator, print_from, print, IsPrintable, ArePrintable}
use Rattle.json.specs.Json as json
use Rattle.json.specs.Tree.{json_tokens}
use Rattle.json.proofs.Printed.Strings.{content-escape, lex-escape}
use Rattle.json.proofs.Printed.Numbers.{lex-number, in_word-ended}
use Rattle.json.proofs.Printed.Trees.{ArePrintable-json_tokens}
use Rattle.json.proofs.Printed.Utf8.{IsUtf8-are_ascii}
use Rattle.json.proofs.Unique.Spelling.{value-json_tokens_back}
use Rattle.json.proofs.Numbered.{value-HasNumbers, ArePrintableOrBad-tokens}
use Rattle.serde_json.specs.Data.{Data}
use Rattle.serde_json.specs.Read.{read, of_json, max_depth}
use Rattle.slice_json.specs.Reading.{json_of}
use Rattle.slice_json.proofs.Steps.{json_of_text}

-- where what follows gives the same lexemes, so does the text of a token before it
quoted_read : (s r : List ℕ) → lex between (quoted s ++ r) ≡ token (string s) ∷ lex between r
unfolding lex
quoted_read s r = ap (λ l. lex between (34 ∷ l)) (append_assoc (escape s) (34 ∷ []) r) ∙ ap₂ (λ o l. token (string_token o) ∷ l) (content-escape s r) (lex-escape s r)

text_same : (t : Token) (r q : List ℕ) → IsPrintable t → (ends t ≡ true → ends_word r ≡ true) → (ends t ≡ true → ends_word q ≡ true) → lex between r ≡ lex between q → lex between (token_text t ++ r) ≡ lex between (token_text t ++ q)
unfolding lex word
text_same begin_object r q h f g e = ap (λ l. token begin_object ∷ l) e
text_same end_object r q h f g e = ap (λ l. token end_object ∷ l) e
text_same begin_array r q h f g e = ap (λ l. token begin_array ∷ l) e
text_same end_array r q h f g e = ap (λ l. token end_array ∷ l) e
text_same (key s) r q h f g e =
    ap (lex between) (append_assoc (quoted s) (58 ∷ []) r)
    ∙ (quoted_read s (58 ∷ r) ∙ (ap (λ l. token (string s) ∷ colon ∷ l) e ∙ (sym (quoted_read s (58 ∷ q)) ∙ sym (ap (lex between) (append_assoc (quoted s) (58 ∷ []) q)))))
text_same (string s) r q h f g e = quoted_read s r ∙ (ap (λ l. token (string s) ∷ l) e ∙ sym (quoted_read s q))
text_same (number s) r q h f g e = lex-number s r h (f refl) ∙ (ap (λ l. token (number s) ∷ l) e ∙ sym (lex-number s q h (g refl)))
text_same (boolean true) r q h f g e = ap₂ (λ b l. token (cond b (boolean true) bad) ∷ l) (f refl ∙ sym (g refl)) (in_word-ended r (f refl) ∙ (e ∙ sym (in_word-ended q (g refl))))
text_same (boolean false) r q h f g e = ap₂ (λ b l. token (cond b (boolean false) bad) ∷ l) (f refl ∙ sym (g refl)) (in_word-ended r (f refl) ∙ (e ∙ sym (in_word-ended q (g refl))))
text_same null r q h f g e = ap₂ (λ b l. token (cond b null bad) ∷ l) (f refl ∙ sym (g refl)) (in_word-ended r (f refl) ∙ (e ∙ sym (in_word-ended q (g refl))))
text_same bad r q h f g e = absurd h

comma_same : (b : Bool) (r q : List ℕ) → lex between r ≡ lex between q → lex between (cond b (44 ∷ []) [] ++ r) ≡ lex between (cond b (44 ∷ []) [] ++ q)
unfolding lex
comma_same true r q e = ap (λ l. comma ∷ l) e
comma_same false r q e = e

-- after a value stands a comma, a closing bracket or what follows
value_ends : (ts : List Token) (r : List ℕ) → ends_word r ≡ true → ends_word (print_from true ts ++ r) ≡ true
unfolding print_from
value_ends [] r e = e
value_ends (begin_object ∷ ts) r e = refl
value_ends (end_object ∷ ts) r e = refl
value_ends (begin_array ∷ ts) r e = refl
value_ends (end_array ∷ ts) r e = refl
value_ends (key s ∷ ts) r e = refl
value_ends (string s ∷ ts) r e = refl
value_ends (number s ∷ ts) r e = refl
value_ends (boolean b ∷ ts) r e = refl
value_ends (null ∷ ts) r e = refl
value_ends (bad ∷ ts) r e = refl

print_same : (c : Bool) (ts : List Token) (r q : List ℕ) → ArePrintable ts → ends_word r ≡ true → ends_word q ≡ true → lex between r ≡ lex between q → lex between (print_from c ts ++ r) ≡ lex between (print_from c ts ++ q)
unfolding print_from ArePrintable
print_same c [] r q h f g e = e
print_same c (t ∷ ts) r q h f g e =
    let rest = print_from (ends t) ts in
    let grouped : (s : List ℕ) → (separator c t ++ (token_text t ++ rest)) ++ s ≡ separator c t ++ (token_text t ++ (rest ++ s)) =
    λ s. append_assoc (separator c t) (token_text t ++ rest) s ∙ ap (λ l. separator c t ++ l) (append_assoc (token_text t) rest s) in
    ap (lex between) (grouped r)
    ∙ (comma_same (c && begins t) (token_text t ++ (rest ++ r)) (token_text t ++ (rest ++ q))
    (text_same t (rest ++ r) (rest ++ q) h.0 (λ k. ap (λ b. ends_word (print_from b ts ++ r)) k ∙ value_ends ts r f) (λ k. ap (λ b. ends_word (print_from b ts ++ q)) k ∙ value_ends ts q g)
    (print_same (ends t) ts r q h.1 f g e))
    ∙ sym (ap (lex between) (grouped q)))

end_same : lex between (10 ∷ []) ≡ lex between []
unfolding lex
end_same = refl

tokens_same : (ts : List Token) → ArePrintable ts → tokens (print ts ++ 10 ∷ []) ≡ tokens (print ts)
tokens_same ts h = ap (punctuate fresh) (print_same false ts (10 ∷ []) [] h refl refl end_same ∙ ap (lex between) (append-nil (print ts)))

found : {A B : Type 0} (f : A → Option B) (o : Option A) (b : B) → option_and_then f o ≡ Some b → (a : A) × (o ≡ Some a)
found f None b e = let z : None ≡ Some b = e in cc
found f (Some a) b e = (a, refl)

none_left : (j i : json.Json) (ts : List Token) → json.if_last j ts ≡ Some i → ts ≡ []
none_left j i [] e = refl
none_left j i (t ∷ ts) e = let z : None ≡ Some i = e in cc

read_with_end : (text : List ℕ) (d : Data) → text ≡ print (tokens text) → read text ≡ Some d → read (text ++ 10 ∷ []) ≡ Some d
read_with_end text d printed e =
    let j = found of_json (option_and_then (λ p. json.if_last p.0 p.1) (json.value max_depth (tokens text))) d e in
    let p = found (λ q. json.if_last q.0 q.1) (json.value max_depth (tokens text)) j.0 j.1 in
    let ended : p.0.1 ≡ [] = none_left p.0.0 j.0 p.0.1 (ap (option_and_then (λ q. json.if_last q.0 q.1)) (sym p.1) ∙ j.1) in
    let spelled : tokens text ≡ json_tokens p.0.0 =
    value-json_tokens_back max_depth (tokens text) p.0.1 p.0.0 p.1 ∙ (ap (λ ts. json_tokens p.0.0 ++ ts) ended ∙ append-nil (json_tokens p.0.0)) in
    let whole : text ≡ print (json_tokens p.0.0) = printed ∙ ap print spelled in
    let numbers = value-HasNumbers max_depth (tokens text) p.0.1 p.0.0 (ArePrintableOrBad-tokens text) p.1 in
    let same : tokens (text ++ 10 ∷ []) ≡ tokens text =
    ap (λ t. tokens (t ++ 10 ∷ [])) whole ∙ (tokens_same (json_tokens p.0.0) (ArePrintable-json_tokens p.0.0 numbers) ∙ ap tokens (sym whole)) in
    ap (λ us. option_and_then of_json (option_and_then (λ q. json.if_last q.0 q.1) (json.value max_depth us))) same ∙ e

-- the line of a value is read as this value
pub line_read : (text : List ℕ) (d : Data) → IsUtf8 text → text ≡ print (tokens text) → read text ≡ Some d → json_of (text ++ 10 ∷ []) ≡ Some d
line_read text d valid printed e =
    json_of_text (text ++ 10 ∷ []) d (IsUtf8-append text (10 ∷ []) valid (IsUtf8-are_ascii (10 ∷ []) refl)) (read_with_end text d printed e)
