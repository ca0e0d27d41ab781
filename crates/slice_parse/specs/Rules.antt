-- The rules of sums, lists and statements. Every list is read with a number of turns, and every sum with how many terms it may have after the first.
use Rattle.std.specs.Prelude.{ℕ, zero, suc, Bool, false, List, [], ◌∷◌, Option, Some, None, length}
use Rattle.slice_ast.specs.Code.{End, PlainBlock, PlainProc, PlainProgram, Head, ACut, ALet, AJoin, AGive, AnIf, APick, ACall, puts}
use Rattle.slice_ast.specs.declared.tree.Name.{Name}
use Rattle.slice_ast.specs.declared.tree.Number.{Number}
use Rattle.slice_ast.specs.declared.tree.Fraction.{Fraction}
use Rattle.slice_ast.specs.declared.tree.Operand.{Operand}
use Rattle.slice_ast.specs.declared.tree.Operand.TheVariants as operand
use Rattle.slice_ast.specs.declared.tree.Term.{Term}
use Rattle.slice_ast.specs.declared.tree.Sum.{Sum}
use Rattle.slice_ast.specs.declared.tree.Param.{Param}
use Rattle.slice_ast.specs.declared.tree.Arg.{Arg}
use Rattle.slice_ast.specs.declared.tree.Arg.TheVariants as arg
use Rattle.slice_parse.specs.declared.lexeme.Fixed.TheVariants as fixed
use Rattle.slice_parse.specs.declared.statements.Ended.{Ended}
use Rattle.slice_parse.specs.Combinators.{Parser, Syntax, Deep, Long, Tired, ◌>>=◌, ◌>>◌, pure, fail, when, finish, many}
use Rattle.slice_parse.specs.Lexemes.{is, is_number, is_sign, starts, expect, name, number, agent_ref, sign, comparison, kind_word}

-- what stands after a comma
unfoldable pub after_comma : {A : Type 0} → Parser A → Parser A
after_comma item = do
  expect fixed.Comma
  item

-- one item or more, with commas between
unfoldable pub listed : {A : Type 0} → Parser A → ℕ → Parser (List A)
listed item turns = do
  x ← item
  xs ← many Tired (is fixed.Comma) (after_comma item) turns
  pure (x ∷ xs)

-- items in parentheses, with commas between; there may be none
unfoldable pub in_parens : {A : Type 0} → Parser A → ℕ → Parser (List A)
in_parens item turns = do
  expect fixed.OpenParen
  xs ← when (is fixed.CloseParen) (pure []) (listed item turns)
  expect fixed.CloseParen
  pure xs

-- ---- sums

-- what stands after the numerator
unfoldable pub denominator : Parser (Option Number)
denominator = when (is fixed.Slash) (do
  expect fixed.Slash
  d ← number
  pure (Some d)) (pure None)

-- fraction = number ["/" number]
unfoldable pub fraction : Parser Fraction
fraction = do
  n ← number
  d ← denominator
  pure (record { num = n; den = d })

-- "value" "(" agentref "," name ")"
unfoldable pub value_operand : Parser Operand
value_operand = do
  expect fixed.Value
  expect fixed.OpenParen
  a ← agent_ref
  expect fixed.Comma
  p ← name
  expect fixed.CloseParen
  pure (operand.Value a p)

-- a name as an operand
unfoldable pub named_operand : Parser Operand
named_operand = do
  x ← name
  pure (operand.Named x)

-- an operand that begins with no number
unfoldable pub plain_operand : Parser Operand
plain_operand = when (is fixed.Value) value_operand named_operand

-- a fraction as an operand
unfoldable pub fraction_operand : Parser Operand
fraction_operand = do
  f ← fraction
  pure (operand.Fraction f)

-- operand = fraction | name | "value" "(" agentref "," name ")"
unfoldable pub operand_rule : Parser Operand
operand_rule = when is_number fraction_operand plain_operand

-- a term of its parts
abbrev pub term_of : Bool → Option Fraction → Operand → Term
term_of minus factor o = record { minus = minus; factor = factor; operand = o }

-- what stands after a fraction that begins a term: `*` and an operand, or else nothing
unfoldable pub after_fraction : Bool → Fraction → Parser Term
after_fraction minus f = when (is fixed.Star) (do
  expect fixed.Star
  o ← operand_rule
  pure (term_of minus (Some f) o)) (pure (term_of minus None (operand.Fraction f)))

-- a term that begins with a fraction
unfoldable pub fraction_term : Bool → Parser Term
fraction_term minus = do
  f ← fraction
  after_fraction minus f

-- a term that begins with no number
unfoldable pub plain_term : Bool → Parser Term
plain_term minus = do
  o ← plain_operand
  pure (term_of minus None o)

-- a term after its sign
unfoldable pub term : Bool → Parser Term
term minus = when is_number (fraction_term minus) (plain_term minus)

-- ("+" | "-") term
unfoldable pub signed_term : Parser Term
signed_term = do
  minus ← sign
  term minus

-- the terms after the first
unfoldable pub more_terms : ℕ → Parser (List Term)
more_terms terms = many Long is_sign signed_term terms

-- sum = term (("+" | "-") term)*
unfoldable pub sum : ℕ → Parser Sum
sum terms = do
  t ← term false
  ts ← more_terms terms
  pure (record { terms = t ∷ ts })

-- ---- lists

-- names = name ("," name)*
unfoldable pub names : ℕ → Parser (List Name)
names turns = listed name turns

-- `as` and names, or nothing
unfoldable pub as_names : ℕ → Parser (List Name)
as_names turns = when (is fixed.As) (do
  expect fixed.As
  names turns) (pure [])

-- param = ("agent" | "piece" | "number") name
unfoldable pub param : Parser Param
param = do
  k ← kind_word
  x ← name
  pure (record { kind = k; name = x })

-- "(" [param ("," param)*] ")"
unfoldable pub params : ℕ → Parser (List Param)
params turns = in_parens param turns

-- "agent" agentref
unfoldable pub agent_arg : Parser Arg
agent_arg = do
  expect fixed.Agent
  a ← agent_ref
  pure (arg.Agent a)

-- "piece" name
unfoldable pub piece_arg : Parser Arg
piece_arg = do
  expect fixed.Piece
  p ← name
  pure (arg.Piece p)

-- "number" sum
unfoldable pub number_arg : ℕ → Parser Arg
number_arg terms = do
  expect fixed.Number
  s ← sum terms
  pure (arg.Number s)

-- arg = "agent" agentref | "piece" name | "number" sum
unfoldable pub argument : ℕ → Parser Arg
argument terms = when (is fixed.Agent) agent_arg (when (is fixed.Piece) piece_arg (number_arg terms))

-- "(" [arg ("," arg)*] ")"
unfoldable pub args : ℕ → ℕ → Parser (List Arg)
args terms turns = in_parens (argument terms) turns

-- ---- statements

-- "cut" agentref name "at" sum "as" name "," name ";"
unfoldable pub cut_head : ℕ → Parser Head
cut_head terms = do
  expect fixed.Cut
  a ← agent_ref
  p ← name
  expect fixed.At
  s ← sum terms
  expect fixed.As
  l ← name
  expect fixed.Comma
  r ← name
  expect fixed.Semicolon
  pure (ACut a p s l r)

-- "let" name "=" sum ";"
unfoldable pub let_head : ℕ → Parser Head
let_head terms = do
  expect fixed.Let
  x ← name
  expect fixed.Equals
  s ← sum terms
  expect fixed.Semicolon
  pure (ALet x s)

-- "join" name "," name "as" name ";"
unfoldable pub join_head : Parser Head
join_head = do
  expect fixed.Join
  p ← name
  expect fixed.Comma
  q ← name
  expect fixed.As
  x ← name
  expect fixed.Semicolon
  pure (AJoin p q x)

-- "give" name "to" agentref ";"
unfoldable pub give_head : Parser Head
give_head = do
  expect fixed.Give
  p ← name
  expect fixed.To
  a ← agent_ref
  expect fixed.Semicolon
  pure (AGive p a)

-- "pick" agentref "from" names "as" names ";"
unfoldable pub pick_head : ℕ → Parser Head
pick_head turns = do
  expect fixed.Pick
  a ← agent_ref
  expect fixed.From
  ps ← names turns
  expect fixed.As
  xs ← names turns
  e ← expect fixed.Semicolon
  pure (APick a ps xs e)

-- "call" name "(" [arg ("," arg)*] ")" ["as" names] ";"
unfoldable pub call_head : ℕ → ℕ → Parser Head
call_head terms turns = do
  expect fixed.Call
  f ← name
  xs ← args terms turns
  ns ← as_names turns
  e ← expect fixed.Semicolon
  pure (ACall f xs ns e)

-- the names of an `if` and the place of its last token, where its second block closes at this place
unfoldable pub if_end : ℕ → ℕ → Parser Ended
if_end turns close = when (is fixed.As) (do
  expect fixed.As
  xs ← names turns
  e ← expect fixed.Semicolon
  pure (record { names = xs; end = e })) (pure (record { names = []; end = close }))

-- a block, and the place of the brace that closes it
pub record Braced : Type 0 where
  pub block : PlainBlock
  pub close : ℕ

-- "if" sum cmp sum block "else" block ["as" names ";"]
unfoldable pub if_head : ℕ → ℕ → Parser Braced → Parser Head
if_head terms turns block = do
  expect fixed.If
  l ← sum terms
  o ← comparison
  r ← sum terms
  a ← block
  expect fixed.Else
  b ← block
  z ← if_end turns b.close
  pure (AnIf l o r a.block b.block z.names z.end)

-- one statement
unfoldable pub head : ℕ → ℕ → Parser Braced → Parser Head
head terms turns block =
    when (is fixed.Cut) (cut_head terms)
    (when (is fixed.Let) (let_head terms)
    (when (is fixed.Join) join_head
    (when (is fixed.Give) give_head
    (when (is fixed.If) (if_head terms turns block)
    (when (is fixed.Pick) (pick_head turns)
    (call_head terms turns))))))

-- stmt*
unfoldable pub heads : ℕ → ℕ → Parser Braced → Parser (List Head)
heads terms turns block = many Tired starts (head terms turns block) turns

-- ---- blocks

-- `yield` and names, or nothing
unfoldable pub yields : ℕ → Parser (List Name)
yields turns = when (is fixed.Yield) (do
  expect fixed.Yield
  xs ← names turns
  expect fixed.Semicolon
  pure xs) (pure [])

-- a block, where the blocks inside are read by `inner`
unfoldable pub body : ℕ → ℕ → Parser Braced → Parser Braced
body terms turns inner = do
  expect fixed.OpenBrace
  hs ← heads terms turns inner
  ys ← yields turns
  e ← expect fixed.CloseBrace
  pure (record { block = record { code = puts hs End; yields = ys }; close = e })

-- a block of at most so many blocks, one inside the other
unfoldable pub block : ℕ → ℕ → ℕ → Parser Braced
block terms turns zero = when (is fixed.OpenBrace) (fail Deep) (fail Syntax)
block terms turns (suc depth) = body terms turns (block terms turns depth)

-- ---- programs

-- proc = "procedure" name "(" [param ("," param)*] ")" block
unfoldable pub proc : ℕ → ℕ → ℕ → Parser PlainProc
proc terms turns depth = do
  expect fixed.Procedure
  x ← name
  ps ← params turns
  b ← block terms turns depth
  pure (record { name = x; params = ps; body = b.block })

-- proc*
unfoldable pub procs : ℕ → ℕ → ℕ → Parser (List PlainProc)
procs terms turns depth = many Tired (is fixed.Procedure) (proc terms turns depth) turns

-- a program whose blocks hold at most so many others, one inside the other
unfoldable pub program : ℕ → ℕ → ℕ → Parser PlainProgram
program terms turns depth = do
  ps ← procs terms turns (suc depth)
  expect fixed.Protocol
  x ← name
  expect fixed.Agents
  n ← number
  expect fixed.OpenBrace
  hs ← heads terms turns (block terms turns depth)
  expect fixed.CloseBrace
  finish
  pure (record { procs = ps; name = x; agents = n; body = puts hs End })

-- a program whose sums have at most 64 terms, with no block inside 64 others
unfoldable pub read : Parser PlainProgram
read ts = program 63 (length ts) 63 ts
