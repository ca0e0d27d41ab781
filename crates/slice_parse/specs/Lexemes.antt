-- Tokens: their texts, and the rules of one token.
use Rattle.std.specs.Prelude.{ℕ, Bool, true, false, if◌then◌else◌, List, codes, decimal, Option, Some, None}
use denote.Enum.Bare.{sameb}
use Rattle.slice_ast.specs.declared.tree.Name.{Name}
use Rattle.slice_ast.specs.declared.tree.Number.{Number}
use Rattle.slice_ast.specs.declared.tree.AgentRef.{AgentRef}
use Rattle.slice_ast.specs.declared.tree.AgentRef.TheVariants as ref
use Rattle.slice_ast.specs.declared.tree.Cmp.{Cmp}
use Rattle.slice_ast.specs.declared.tree.Cmp.TheVariants as cmp
use Rattle.slice_ast.specs.declared.tree.Kind.{Kind}
use Rattle.slice_ast.specs.declared.tree.Kind.TheVariants as kind
use Rattle.slice_parse.specs.contracts.lexeme.Fixed.{the_type}
use Rattle.slice_parse.specs.declared.lexeme.Fixed.{Fixed}
use Rattle.slice_parse.specs.declared.lexeme.Fixed.TheVariants as fixed
use Rattle.slice_parse.specs.declared.lexeme.What.{What}
use Rattle.slice_parse.specs.declared.lexeme.What.TheVariants as what
use Rattle.slice_parse.specs.Combinators.{Token, Parser, one}

-- the text of a keyword or a sign
abbrev pub fixed_text : Fixed → List ℕ
fixed_text fixed.Agent = codes "agent"
fixed_text fixed.Agents = codes "agents"
fixed_text fixed.As = codes "as"
fixed_text fixed.At = codes "at"
fixed_text fixed.Call = codes "call"
fixed_text fixed.Cut = codes "cut"
fixed_text fixed.Else = codes "else"
fixed_text fixed.From = codes "from"
fixed_text fixed.Give = codes "give"
fixed_text fixed.If = codes "if"
fixed_text fixed.Join = codes "join"
fixed_text fixed.Let = codes "let"
fixed_text fixed.Number = codes "number"
fixed_text fixed.Pick = codes "pick"
fixed_text fixed.Piece = codes "piece"
fixed_text fixed.Procedure = codes "procedure"
fixed_text fixed.Protocol = codes "protocol"
fixed_text fixed.To = codes "to"
fixed_text fixed.Value = codes "value"
fixed_text fixed.Yield = codes "yield"
fixed_text fixed.OpenBrace = codes "{"
fixed_text fixed.CloseBrace = codes "}"
fixed_text fixed.OpenParen = codes "("
fixed_text fixed.CloseParen = codes ")"
fixed_text fixed.Comma = codes ","
fixed_text fixed.Semicolon = codes ";"
fixed_text fixed.Plus = codes "+"
fixed_text fixed.Minus = codes "-"
fixed_text fixed.Star = codes "*"
fixed_text fixed.Slash = codes "/"
fixed_text fixed.Equals = codes "="
fixed_text fixed.Less = codes "<"
fixed_text fixed.AtMost = codes "<="
fixed_text fixed.More = codes ">"
fixed_text fixed.AtLeast = codes ">="

-- the text of what a token is
abbrev pub what_text : What → List ℕ
what_text (what.Fixed word) = fixed_text word
what_text (what.Name word) = word
what_text (what.Number value) = decimal value

-- the bytes of a token
abbrev pub text_of : Token → List ℕ
text_of t = what_text t.what

-- `==` on keywords and signs
abbrev pub is_same : Fixed → Fixed → Bool
is_same = sameb the_type

-- it is this keyword or sign
abbrev pub is_what : Fixed → What → Bool
is_what word (what.Fixed c) = is_same c word
is_what word (what.Name w) = false
is_what word (what.Number n) = false

-- the token is this keyword or sign
abbrev pub is : Fixed → Token → Bool
is word t = is_what word t.what

-- it is a number
abbrev pub is_number_what : What → Bool
is_number_what (what.Fixed c) = false
is_number_what (what.Name w) = false
is_number_what (what.Number n) = true

-- the token is a number
abbrev pub is_number : Token → Bool
is_number t = is_number_what t.what

-- the keywords that statements begin with
abbrev pub begins_stmt : Fixed → Bool
begins_stmt fixed.Cut = true
begins_stmt fixed.Let = true
begins_stmt fixed.Join = true
begins_stmt fixed.Give = true
begins_stmt fixed.If = true
begins_stmt fixed.Pick = true
begins_stmt fixed.Call = true
begins_stmt _ = false

-- a statement begins with it
abbrev pub starts_what : What → Bool
starts_what (what.Fixed c) = begins_stmt c
starts_what (what.Name w) = false
starts_what (what.Number n) = false

-- a statement begins with the token
abbrev pub starts : Token → Bool
starts t = starts_what t.what

-- true for `-`, false for `+`
abbrev pub sign_of : Fixed → Option Bool
sign_of fixed.Plus = Some false
sign_of fixed.Minus = Some true
sign_of _ = None

-- the comparison that the sign stands for
abbrev pub cmp_of : Fixed → Option Cmp
cmp_of fixed.Less = Some cmp.Less
cmp_of fixed.AtMost = Some cmp.AtMost
cmp_of fixed.More = Some cmp.More
cmp_of fixed.AtLeast = Some cmp.AtLeast
cmp_of _ = None

-- the kind of parameter that the keyword stands for
abbrev pub kind_of : Fixed → Option Kind
kind_of fixed.Agent = Some kind.Agent
kind_of fixed.Piece = Some kind.Piece
kind_of fixed.Number = Some kind.Number
kind_of _ = None

-- what a keyword or sign stands for, and None at another token
abbrev pub fixed_as : {A : Type 0} → (Fixed → Option A) → What → Option A
fixed_as f (what.Fixed c) = f c
fixed_as f (what.Name w) = None
fixed_as f (what.Number n) = None

-- it is `+` or `-`
abbrev pub is_sign_fixed : Fixed → Bool
is_sign_fixed fixed.Plus = true
is_sign_fixed fixed.Minus = true
is_sign_fixed _ = false

-- it is the sign `+` or `-`
abbrev pub is_sign_what : What → Bool
is_sign_what (what.Fixed c) = is_sign_fixed c
is_sign_what (what.Name w) = false
is_sign_what (what.Number n) = false

-- the token is `+` or `-`
abbrev pub is_sign : Token → Bool
is_sign t = is_sign_what t.what

-- the place of this keyword or sign
abbrev pub place_if : Fixed → What → ℕ → Option ℕ
place_if word (what.Fixed c) at = if is_same c word then Some at else None
place_if word (what.Name w) at = None
place_if word (what.Number n) at = None

-- the name that stands here
abbrev pub name_in : What → ℕ → Option Name
name_in (what.Fixed c) at = None
name_in (what.Name w) at = Some (record { word = w; at = at })
name_in (what.Number n) at = None

-- the number that stands here
abbrev pub number_in : What → ℕ → Option Number
number_in (what.Fixed c) at = None
number_in (what.Name w) at = None
number_in (what.Number n) at = Some (record { value = n; at = at })

-- the agent that stands here: by number or by name
abbrev pub ref_in : What → ℕ → Option AgentRef
ref_in (what.Fixed c) at = None
ref_in (what.Name w) at = Some (ref.Named (record { word = w; at = at }))
ref_in (what.Number n) at = Some (ref.Fixed (record { value = n; at = at }))

-- this keyword or sign; its place is read
abbrev pub expect : Fixed → Parser ℕ
expect word = one (λ t. place_if word t.what t.at)

-- name
abbrev pub name : Parser Name
name = one (λ t. name_in t.what t.at)

-- number
abbrev pub number : Parser Number
number = one (λ t. number_in t.what t.at)

-- agentref = number | name
abbrev pub agent_ref : Parser AgentRef
agent_ref = one (λ t. ref_in t.what t.at)

-- "+" | "-"
abbrev pub sign : Parser Bool
sign = one (λ t. fixed_as sign_of t.what)

-- cmp = "<" | "<=" | ">" | ">="
abbrev pub comparison : Parser Cmp
comparison = one (λ t. fixed_as cmp_of t.what)

-- "agent" | "piece" | "number"
abbrev pub kind_word : Parser Kind
kind_word = one (λ t. fixed_as kind_of t.what)
