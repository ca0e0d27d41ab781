-- The run of a program on answers to its cuts, over an environment from names to agents, pieces and numbers.
use Rattle.std.specs.Prelude.{ℕ, ◌+◌, pos, Bool, true, ◌&&◌, if◌then◌else◌, List, [], ◌∷◌, length}
use Rattle.std.specs.Str.{bytes_eq}
use Rattle.slice_num.specs.Rational.{Rational, whole}
use Rattle.slice_num.specs.Fitting.{below, at_most}
use Rattle.slice_num.specs.declared.choice.Side.{Side}
use Rattle.slice_ast.specs.Code.{Code, End, Cut, Let, Join, Give, If, Pick, Call, PlainProc, PlainProgram}
use Rattle.slice_ast.specs.declared.tree.Name.{Name}
use Rattle.slice_ast.specs.declared.tree.Operand.{Operand}
use Rattle.slice_ast.specs.declared.tree.Operand.TheVariants as operand
use Rattle.slice_ast.specs.declared.tree.Term.{Term}
use Rattle.slice_ast.specs.declared.tree.Cmp.{Cmp}
use Rattle.slice_ast.specs.declared.tree.Cmp.TheVariants as cmp
use Rattle.slice_ast.specs.declared.tree.Param.{Param}
use Rattle.slice_ast.specs.declared.tree.Arg.{Arg}
use Rattle.slice_ast.specs.declared.tree.Arg.TheVariants as arg
use Rattle.slice_num.specs.declared.cut_answer.CutAnswer.{CutAnswer}
use Rattle.slice_num.specs.Pieces.{piece_at}
use Rattle.slice_core.specs.Run.{Board, Worth, first_board, ask_on, cut_on, join_on, give_on, scaled, added, Cutting, Halts, Short, Wrong, Halves, cutting}
use Rattle.slice_expand.specs.Scope.{Meaning, AnAgent, APiece, ANumber, Scope, look, looks, bound, bind, agent_at, piece_named, pieces_named, as_pieces, fraction_value, factor_value, first_scope}

-- what the names stand for in a run
abbrev pub Env : Type 0
Env = Scope Rational

-- what lies on the table (pieces by number, shares, queries), and the answers to cuts that are left
pub record RunState : Type 0 where
  pub board : Board
  pub answers : List CutAnswer

-- how a run ends: at the program's end; stuck at a cut that has no right answer, since its amount is below 0 or above what
-- the piece is worth; or refused, at the query of that number for want of an answer or for a wrong one, or since answers
-- remain
pub data ProgramEnd : Type 0 where
  Done : (board : Board) → ProgramEnd
  Stuck : (at : Side) (board : Board) → ProgramEnd
  Few : (query : ℕ) → ProgramEnd
  Bad : (query : ℕ) → ProgramEnd
  Many : ProgramEnd

-- answers that remain refuse a run
abbrev pub unless_more : List CutAnswer → ProgramEnd → ProgramEnd
unless_more [] end = end
unless_more (y ∷ ys) end = Many

-- ---- sums

-- the number that a name stands for; 0 where it is no number
abbrev pub number_of : Meaning Rational → Rational
number_of (AnAgent a) = whole (pos 0)
number_of (APiece p) = whole (pos 0)
number_of (ANumber v) = v

-- what the piece of that number is worth to the agent
abbrev pub worth_on : Worth → ℕ → ℕ → Board → Rational
worth_on w a p b = w a (piece_at b.pieces p)

-- a fraction; the number of a name; or what a piece is worth to an agent
abbrev pub operand_value : Worth → Env → Board → Operand → Rational
operand_value w env b (operand.Fraction f) = fraction_value f
operand_value w env b (operand.Named x) = number_of (look env x.word)
operand_value w env b (operand.Value a x) = worth_on w (agent_at env a) (piece_named env x) b

-- an operand, maybe times a factor
abbrev pub term_value : Worth → Env → Board → Term → Rational
term_value w env b t = scaled (factor_value t.factor) (operand_value w env b t.operand)

-- the terms are added to a sum, one after another
abbrev pub terms_value : Worth → Env → Board → Rational → List Term → Rational
terms_value w env b sum [] = sum
terms_value w env b sum (t ∷ ts) = terms_value w env b (added t.minus sum (term_value w env b t)) ts

-- a sum; its first term has no sign
abbrev pub sum_value : Worth → Env → Board → List Term → Rational
sum_value w env b [] = whole (pos 0)
sum_value w env b (t ∷ ts) = terms_value w env b (term_value w env b t) ts

-- the agent was asked for the piece of that number
abbrev pub ask_piece : Worth → ℕ → ℕ → Board → Board
ask_piece w a p b = ask_on a (worth_on w a p b) b

-- an operand asks where it is a value
abbrev pub operand_asked : Worth → Env → Operand → Board → Board
operand_asked w env (operand.Fraction f) b = b
operand_asked w env (operand.Named x) b = b
operand_asked w env (operand.Value a x) b = ask_piece w (agent_at env a) (piece_named env x) b

-- a sum asks for its values from left to right. Asking changes no piece, so all its values are those of the board before
abbrev pub terms_asked : Worth → Env → List Term → Board → Board
terms_asked w env [] b = b
terms_asked w env (t ∷ ts) b = terms_asked w env ts (operand_asked w env t.operand b)

-- whether two numbers compare so
abbrev pub compares : Cmp → Rational → Rational → Bool
compares cmp.Less a b = below a b
compares cmp.AtMost a b = at_most a b
compares cmp.More a b = below b a
compares cmp.AtLeast a b = at_most b a

-- ---- picks

-- the agent was asked for each of the pieces
abbrev pub all_asked : Worth → ℕ → List ℕ → Board → Board
all_asked w a [] b = b
all_asked w a (p ∷ ps) b = all_asked w a ps (ask_piece w a p b)

-- none of the pieces has a greater value than p
abbrev pub is_greatest : (ℕ → Rational) → List ℕ → ℕ → Bool
is_greatest v [] p = true
is_greatest v (q ∷ qs) p = at_most (v q) (v p) && is_greatest v qs p

-- an item put behind the first
abbrev pub behind_first : {A : Type 0} → A → List A → List A
behind_first x [] = x ∷ []
behind_first x (y ∷ ys) = y ∷ x ∷ ys

-- the first item that passes the test, then the others in their order
abbrev pub to_front : {A : Type 0} → (A → Bool) → List A → List A
to_front test [] = []
to_front test (x ∷ xs) = if test x then x ∷ xs else behind_first x (to_front test xs)

-- the first piece of greatest value, then the others in their order
abbrev pub picked : (ℕ → Rational) → List ℕ → List ℕ
picked v ps = to_front (is_greatest v ps) ps

-- ---- statements

-- what comes after a block
abbrev pub After : Type 0
After = Env → RunState → ProgramEnd

-- what a call of a name comes to, with its arguments, and with what comes after its yields
abbrev pub Calls : Type 0
Calls = List ℕ → List (Meaning Rational) → RunState → (List (Meaning Rational) → RunState → ProgramEnd) → ProgramEnd

-- a run goes on after a cut
abbrev pub after_cut : ℕ → ℕ → Rational → (RunState → ProgramEnd) → RunState → Cutting → ProgramEnd
after_cut a p amount go s (Halts at) = unless_more s.answers (Stuck at s.board)
after_cut a p amount go s Short = Few (length s.board.queries)
after_cut a p amount go s Wrong = Bad (length s.board.queries)
after_cut a p amount go s (Halves before left right y ys) = go (record { board = cut_on a p amount y left right s.board; answers = ys })

-- a board after one more step
abbrev pub with_board : Board → RunState → RunState
with_board b s = record { board = b; answers = s.answers }

-- what an argument stands for
abbrev pub arg_value : Worth → Env → Board → Arg → Meaning Rational
arg_value w env b (arg.Agent a) = AnAgent (agent_at env a)
arg_value w env b (arg.Piece x) = APiece (piece_named env x)
arg_value w env b (arg.Number e) = ANumber (sum_value w env b e.terms)

-- the same of arguments in a row
abbrev pub arg_values : Worth → Env → Board → List Arg → List (Meaning Rational)
arg_values w env b [] = []
arg_values w env b (x ∷ xs) = arg_value w env b x ∷ arg_values w env b xs

-- a number argument asks for its values
abbrev pub arg_asked : Worth → Env → Arg → Board → Board
arg_asked w env (arg.Agent a) b = b
arg_asked w env (arg.Piece x) b = b
arg_asked w env (arg.Number e) b = terms_asked w env e.terms b

-- number arguments ask in order
abbrev pub args_asked : Worth → Env → List Arg → Board → Board
args_asked w env [] b = b
args_asked w env (x ∷ xs) b = args_asked w env xs (arg_asked w env x b)

-- the names of parameters
abbrev pub param_names : List Param → List Name
param_names [] = []
param_names (p ∷ ps) = p.name ∷ param_names ps

-- the statements, and then what comes after. New pieces get the next numbers on the board. A block's names are those around
-- it and its own, which end with it; what it yields gets the names of the statement
abbrev pub run_code : Worth → Calls → Code → Env → RunState → After → ProgramEnd
run_code w calls End env s go = go env s
run_code w calls (Cut a x e left right rest) env s go =
    let p = piece_named env x in
    let amount = sum_value w env s.board e.terms in
    let new = length s.board.pieces in
    after_cut (agent_at env a) p amount
    (λ t. run_code w calls rest (bound right (APiece (new + 1)) (bound left (APiece new) env)) t go)
    (with_board (terms_asked w env e.terms s.board) s)
    (cutting (w (agent_at env a)) (piece_at s.board.pieces p) amount s.answers)
run_code w calls (Let x e rest) env s go =
    run_code w calls rest (bound x (ANumber (sum_value w env s.board e.terms)) env) (with_board (terms_asked w env e.terms s.board) s) go
run_code w calls (Join x y z rest) env s go =
    run_code w calls rest (bound z (APiece (length s.board.pieces)) env) (with_board (join_on (piece_named env x) (piece_named env y) s.board) s) go
run_code w calls (Give x a rest) env s go =
    run_code w calls rest env (with_board (give_on (piece_named env x) (agent_at env a) s.board) s) go
run_code w calls (If l c r one ys other zs names at rest) env s go =
    let t = with_board (terms_asked w env r.terms (terms_asked w env l.terms s.board)) s in
    if compares c (sum_value w env s.board l.terms) (sum_value w env s.board r.terms)
    then run_code w calls one env t (λ inner u. run_code w calls rest (bind names (looks inner ys) env) u go)
    else run_code w calls other env t (λ inner u. run_code w calls rest (bind names (looks inner zs) env) u go)
run_code w calls (Pick a xs names at rest) env s go =
    let ps = pieces_named env xs in
    let agent = agent_at env a in
    run_code w calls rest (bind names (as_pieces (picked (λ p. worth_on w agent p s.board) ps)) env) (with_board (all_asked w agent ps s.board) s) go
run_code w calls (Call f xs names at rest) env s go =
    calls f.word (arg_values w env s.board xs) (with_board (args_asked w env xs s.board) s)
    (λ yields t. run_code w calls rest (bind names yields env) t go)

-- no procedure is there to be called: nothing is done
abbrev pub no_calls : Calls
no_calls f args s go = go [] s

-- the calls where one more procedure is there, which can call those before it
abbrev pub calls_with : Worth → PlainProc → Calls → Calls
calls_with w d calls f args s go =
    if bytes_eq d.name.word f
    then run_code w calls d.body.code (bind (param_names d.params) args []) s (λ env t. go (looks env d.body.yields) t)
    else calls f args s go

-- the calls of procedures in the order of the text
abbrev pub calls_after : Worth → Calls → List PlainProc → Calls
calls_after w calls [] = calls
calls_after w calls (d ∷ ds) = calls_after w (calls_with w d calls) ds

-- a run from there on
abbrev pub walk_from : Worth → PlainProgram → RunState → ProgramEnd
walk_from w p s = run_code w (calls_after w no_calls p.procs) p.body first_scope s (λ env t. unless_more t.answers (Done t.board))

-- the run of a program with these answers, where pieces are worth w to the agents, on a cake of that length
abbrev pub run_program : Worth → PlainProgram → ℕ → List CutAnswer → ProgramEnd
run_program w p length ys = walk_from w p (record { board = first_board p.agents.value length; answers = ys })
