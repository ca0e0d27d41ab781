-- The steps that every rule of the grammar is made of.
use Rattle.std.specs.Prelude.{ℕ, zero, suc, Bool, false, if◌then◌else◌, List, [], ◌∷◌, Option, Some, None}
use Rattle.slice_parse.specs.declared.lexeme.Lexeme.{Lexeme}

-- a token, told apart, with its place
abbrev pub Token : Type 0
Token = Lexeme

-- why reading stops: at a wrong token, at a brace that opens a block inside too many others, at the sign before a term too many, or with no turn left for a list
pub data Fault : Type 0 where
  Syntax : Fault
  Deep : Fault
  Long : Fault
  Tired : Fault

-- what was read and the tokens after it, or a fault and the tokens from the wrong one on
pub data Outcome (A : Type 0) : Type 0 where
  Good : (value : A) (rest : List Token) → Outcome A
  Bad : (fault : Fault) (rest : List Token) → Outcome A

-- what a rule gives of the tokens that are left
abbrev pub Parser : Type 0 → Type 0
Parser A = List Token → Outcome A

-- a rule after what another one gave
abbrev pub and_then : {A B : Type 0} → Outcome A → (A → Parser B) → Outcome B
and_then (Good a rest) f = f a rest
and_then (Bad fault rest) f = Bad fault rest

-- one rule after another, which may depend on what the first gave
infixl 10 ◌>>=◌
abbrev pub ◌>>=◌ : {A B : Type 0} → Parser A → (A → Parser B) → Parser B
p >>= f = λ ts. and_then (p ts) f

-- one rule after another
infixl 10 ◌>>◌
abbrev pub ◌>>◌ : {A B : Type 0} → Parser A → Parser B → Parser B
p >> q = p >>= (λ _. q)

-- a rule that reads nothing
abbrev pub pure : {A : Type 0} → A → Parser A
pure a = λ ts. Good a ts

-- a rule that stops at once
abbrev pub fail : {A : Type 0} → Fault → Parser A
fail fault = λ ts. Bad fault ts

-- there is a next token, and it passes the test
abbrev pub next_is : (Token → Bool) → List Token → Bool
next_is test [] = false
next_is test (t ∷ ts) = test t

-- one rule where the next token passes the test, and else another
abbrev pub when : {A : Type 0} → (Token → Bool) → Parser A → Parser A → Parser A
when test p q = λ ts. if next_is test ts then p ts else q ts

-- a token that may be what is wanted
abbrev pub taken : {A : Type 0} → Option A → Token → List Token → Outcome A
taken None t ts = Bad Syntax (t ∷ ts)
taken (Some a) t ts = Good a ts

-- one token, where it is what is wanted
abbrev pub one : {A : Type 0} → (Token → Option A) → Parser A
one f [] = Bad Syntax []
one f (t ∷ ts) = taken (f t) t ts

-- no token is left
abbrev pub finish : Parser (Unit {0})
finish [] = Good tt []
finish (t ∷ ts) = Bad Syntax (t ∷ ts)

-- items one after the other while the next token passes the test, at most so many; where it passes once more, that is the fault
unfoldable pub many : {A : Type 0} → Fault → (Token → Bool) → Parser A → ℕ → Parser (List A)
many fault test item zero = when test (fail fault) (pure [])
many fault test item (suc n) = when test (do
  x ← item
  xs ← many fault test item n
  pure (x ∷ xs)) (pure [])
