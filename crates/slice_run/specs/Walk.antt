-- A run in the order in which its numbers are made: it stops at the first number that doesn't fit.
use Rattle.std.specs.Prelude.{ℕ, pos, if◌then◌else◌, ⊤, List, [], ◌∷◌, ◌++◌, length}
use Rattle.slice_num.specs.Rational.{Rational, whole}
use Rattle.slice_num.specs.Fitting.{Fitting, Fitted, Unfit, next, below}
use Rattle.slice_num.specs.Valuation.{Valuation}
use Rattle.slice_num.specs.declared.choice.Side.{Side}
use Rattle.slice_num.specs.declared.choice.Side.TheVariants as side
use Rattle.slice_core.specs.Measures.{valuation_of, length_of}
use Rattle.slice_core.specs.Tree.{Tree, Core, Ask, Set, Cut, Join, Test, Give, End}
use Rattle.slice_num.specs.Pieces.{piece_at, joined, with_part}
use Rattle.slice_core.specs.Run.{Piece, Board, first_board, ask_on, cut_on, join_on, give_on, left_piece, right_piece, goes_yes}
use Rattle.slice_core.specs.declared.query.Query.{Query}
use Rattle.slice_num.specs.declared.cut_answer.CutAnswer.{CutAnswer}
use Rattle.slice_step.specs.Arithmetic.{share_in, least_answer_in, is_right_in}
use Rattle.slice_run.specs.Sums.{lin_in}
use Rattle.slice_run.specs.declared.outcome.RunFault.{RunFault}
use Rattle.slice_run.specs.declared.outcome.RunFault.TheVariants.{Overflow, BadAnswer, TooFewAnswers, TooManyAnswers, Memory}

-- what a walk comes to, or why it was given up
pub data Walked (A : Type 0) : Type 0 where
  Good : A → Walked A
  Refused : (fault : RunFault) → Walked A

-- what follows a number of that query
abbrev pub walk_on : {A B : Type 0} → ℕ → Fitting A → (A → Walked B) → Walked B
walk_on query (Fitted x) go = go x
walk_on query Unfit go = Refused (Overflow query)

-- what follows a walk that came to its end
abbrev pub then_walk : {A B : Type 0} → Walked A → (A → Walked B) → Walked B
then_walk (Good x) go = go x
then_walk (Refused fault) go = Refused fault

-- no number stopped the walk
abbrev pub InRange : {A : Type 0} → Walked A → Type 0
InRange (Good x) = ⊤
InRange (Refused (Overflow query)) = ⊥
InRange (Refused (BadAnswer query)) = ⊤
InRange (Refused (TooFewAnswers query)) = ⊤
InRange (Refused TooManyAnswers) = ⊤
InRange (Refused Memory) = ⊤

-- who answers the cuts: the least right answers are taken, or those that are left of a list
pub data Answers : Type 0 where
  Least : Answers
  Given : (left : List CutAnswer) → Answers

-- where a walk halts: at the end, or at a cut that has no right answer
pub data Halt : Type 0 where
  AtEnd : (board : Board) → Halt
  AtCut : (at : Side) (board : Board) → Halt

-- a walk that halts, unless answers remain
abbrev pub halt : Answers → Halt → Walked Halt
halt Least h = Good h
halt (Given []) h = Good h
halt (Given (y ∷ ys)) h = Refused TooManyAnswers

-- what follows a query's answers and board
abbrev pub Onward : Type 0
Onward = Answers → Board → Walked Halt

-- the board after the cut was answered so; the same where the piece has no such part
abbrev pub cut_board : ℕ → ℕ → Rational → CutAnswer → Board → Board
cut_board a p amount y b =
    with_part [] (piece_at b.pieces p) y.part b (λ before i after. cut_on a p amount y (left_piece before i y.point) (right_piece i y.point after) b)

-- a cut that has a right answer takes the least one, or the next of the list, which is refused where it is wrong
abbrev pub cut_answered : Valuation → ℕ → ℕ → Rational → Onward → Answers → Board → Walked Halt
cut_answered v a p amount go Least b =
    walk_on (length b.queries) (least_answer_in v (piece_at b.pieces p) amount) (λ y. go Least (cut_board a p amount y b))
cut_answered v a p amount go (Given []) b = Refused (TooFewAnswers (length b.queries))
cut_answered v a p amount go (Given (y ∷ ys)) b =
    walk_on (length b.queries) (is_right_in v (piece_at b.pieces p) amount y) (λ right.
    if right then go (Given ys) (cut_board a p amount y b) else Refused (BadAnswer (length b.queries)))

-- a cut: the amount is compared with 0, then with the piece's share-value
abbrev pub walk_cut : Valuation → ℕ → ℕ → Rational → Onward → Answers → Board → Walked Halt
walk_cut v a p amount go answers b =
    if below amount (whole (pos 0)) then halt answers (AtCut side.Low b)
    else walk_on (length b.queries) (share_in v (piece_at b.pieces p)) (λ held.
    if below held amount then halt answers (AtCut side.High b)
    else cut_answered v a p amount go answers b)

-- the nodes in order, from a board on, where the registers hold these numbers
abbrev pub walk : List Valuation → Tree → List Rational → Answers → Board → Walked Halt
walk vs (Ask a p r next) regs answers b =
    walk_on (length b.queries) (share_in (valuation_of vs a) (piece_at b.pieces p)) (λ worth. walk vs next (regs ++ worth ∷ []) answers (ask_on a worth b))
walk vs (Set r sum next) regs answers b =
    walk_on (length b.queries) (lin_in regs sum.terms) (λ value. walk vs next (regs ++ value ∷ []) answers b)
walk vs (Cut a p amount l r next) regs answers b =
    walk_on (length b.queries) (lin_in regs amount.terms) (λ share. walk_cut (valuation_of vs a) a p share (walk vs next regs) answers b)
walk vs (Join p q r next) regs answers b = walk vs next regs answers (join_on p q b)
walk vs (Test left right strict at_yes at_no) regs answers b =
    walk_on (length b.queries) (lin_in regs left.terms) (λ x.
    walk_on (length b.queries) (lin_in regs right.terms) (λ y.
    if goes_yes strict x y then walk vs at_yes regs answers b else walk vs at_no regs answers b))
walk vs (Give p a next) regs answers b = walk vs next regs answers (give_on p a b)
walk vs End regs answers b = halt answers (AtEnd b)

-- an agent's share-values of all shares, in their order
abbrev pub row_in : Valuation → List Piece → Fitting (List Rational)
row_in v [] = Fitted []
row_in v (p ∷ ps) = next (share_in v p) (λ x. next (row_in v ps) (λ xs. Fitted (x ∷ xs)))

-- each agent's share-values of all shares, agent by agent
abbrev pub values_in : List Valuation → List Piece → Fitting (List (List Rational))
values_in [] shares = Fitted []
values_in (v ∷ vs) shares = next (row_in v shares) (λ row. next (values_in vs shares) (λ rows. Fitted (row ∷ rows)))

-- what is told of a run: the queries, the shares, what is left and each agent's share-values of all shares; or the
-- queries, the number of the query that is stuck and its side
pub data Told : Type 0 where
  Divided : (queries : List Query) (shares : List Piece) (left : Piece) (values : List (List Rational)) → Told
  Halted : (queries : List Query) (query : ℕ) (at : Side) → Told

-- at the end the share-values are made
abbrev pub tell : List Valuation → Halt → Walked Told
tell vs (AtEnd b) =
    walk_on (length b.queries) (values_in vs b.shares) (λ values. Good (Divided b.queries b.shares (joined b.pieces) values))
tell vs (AtCut at b) = Good (Halted b.queries (length b.queries) at)

-- what is told of the run of a core, from the uncut cake
abbrev pub outcome : List Valuation → Core → Answers → Walked Told
outcome vs core answers = then_walk (walk vs core.tree [] answers (first_board core.agents (length_of vs))) (tell vs)
