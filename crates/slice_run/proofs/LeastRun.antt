-- A least run exists, and the walk tells it.
use Rattle.std.proofs.Common.{◌≡◌, ◌∙◌, suc, ◌∷◌, List, [], length, map, refl, ap, sym, subst, arith}
use Rattle.std.specs.Prelude.{⊤}
use Rattle.std.specs.List.{All}
use Rattle.slice_num.specs.Rational.{Rational}
use Rattle.slice_num.specs.Fitting.{Fitting, Fitted, Unfit, next-out}
use Rattle.slice_num.specs.Valuation.{Valuation, IsValuation, IsValuationList, share_value}
use Rattle.slice_core.specs.Tree.{Core}
use Rattle.slice_core.specs.WellFormed.{IsWellFormed}
use Rattle.slice_num.specs.Pieces.{joined}
use Rattle.slice_core.specs.Run.{Piece, Board, first_board, Ending, Done, Stuck, Few, Bad, Many}
use Rattle.slice_num.specs.declared.cut_answer.CutAnswer.{CutAnswer}
use Rattle.slice_run.specs.Walk.{Walked, Good, Refused, walk_on, then_walk, InRange, Least, Halt, AtEnd, AtCut, walk, row_in, values_in, Told, Divided, Halted, tell, outcome}
use Rattle.slice_run.specs.RunLaws.{run_on, Tells, TellsValues, IsTold, AreLeast, IsLeastTold, LeastRunsExist, LeastWalksAreLeastRuns}
use Rattle.slice_run.specs.declared.outcome.RunFault.TheVariants.{Overflow, BadAnswer, TooFewAnswers, TooManyAnswers, Memory}
use Rattle.slice_step.proofs.Exact.{share_in-exact}
use Rattle.slice_run.proofs.Ordered.{AllOrdered}
use Rattle.slice_step.proofs.InOrder.{piece_all}
use Rattle.slice_core.proofs.FormedLaws.{core_formed}
use Rattle.slice_run.proofs.Sound.{sound_first}
use Rattle.slice_run.proofs.Shown.{shown}
use Rattle.slice_run.proofs.RunSteps.{state, OrderedEnd, run_ordered}
use Rattle.slice_run.proofs.Follows.{IsOver, Follows, follows}
use Rattle.slice_core.specs.Measures.{length_of, worth_of}

-- ---- the share-values
row_exact : (v : Valuation) (shares : List Piece) (r : List Rational) → IsValuation v → AllOrdered shares → row_in v shares ≡ Fitted r → r ≡ map (share_value v) shares
row_exact v [] r valid h q = cc
row_exact v (p ∷ ps) r valid h q =
    let one = next-out _ _ r q in
    let others = next-out _ _ r one.then_is in
    let first = share_in-exact v p one.first valid (piece_all p h.0) one.is in
    let rest = row_exact v ps others.first valid h.1 others.is in
    let all : one.first ∷ others.first ≡ r = (let e = others.then_is in cc) in
    sym all ∙ (λ i. first i ∷ rest i)

rows_exact : (shares : List Piece) (vs : List Valuation) (rs : List (List Rational)) → All IsValuation vs → AllOrdered shares → values_in vs shares ≡ Fitted rs → rs ≡ map (λ v. map (share_value v) shares) vs
rows_exact shares [] rs valid h q = cc
rows_exact shares (v ∷ vs) rs valid h q =
    let later : All IsValuation vs = λ k d l. valid (suc k) d (omega (arith, l)) in
    let here : IsValuation v = valid 0 v (omega arith) in
    let one = next-out _ _ rs q in
    let others = next-out _ _ rs one.then_is in
    let first = row_exact v shares one.first here h one.is in
    let rest = rows_exact shares vs others.first later h others.is in
    let all : one.first ∷ others.first ≡ rs = (let e = others.then_is in cc) in
    sym all ∙ (λ i. first i ∷ rest i)

-- ---- what is told of an end
-- a run that ended so, and whose walk shows it, is told so
pub told_shown : (vs : List Valuation) → All IsValuation vs → (e : Ending) (w : Walked Halt) → OrderedEnd e → (InRange w → shown e ≡ w) → IsTold vs e (then_walk w (tell vs))
told_shown vs valid e (Refused (Overflow q)) ordered h = tt
told_shown vs valid e (Refused (BadAnswer q)) ordered h = by e (h tt)
  where
    by : (e : Ending) → shown e ≡ Refused (BadAnswer q) → e ≡ Bad q
    by (Done s) k = cc
    by (Stuck at s) k = cc
    by (Few n) k = cc
    by (Bad n) k = cc
    by Many k = cc
told_shown vs valid e (Refused (TooFewAnswers q)) ordered h = by e (h tt)
  where
    by : (e : Ending) → shown e ≡ Refused (TooFewAnswers q) → e ≡ Few q
    by (Done s) k = cc
    by (Stuck at s) k = cc
    by (Few n) k = cc
    by (Bad n) k = cc
    by Many k = cc
told_shown vs valid e (Refused TooManyAnswers) ordered h = by e (h tt)
  where
    by : (e : Ending) → shown e ≡ Refused TooManyAnswers → e ≡ Many
    by (Done s) k = cc
    by (Stuck at s) k = cc
    by (Few n) k = cc
    by (Bad n) k = cc
    by Many k = cc
told_shown vs valid e (Refused Memory) ordered h = by e (h tt)
  where
    by : (e : Ending) → shown e ≡ Refused Memory → ⊥
    by (Done s) k = cc
    by (Stuck at s) k = cc
    by (Few n) k = cc
    by (Bad n) k = cc
    by Many k = cc
told_shown vs valid e (Good (AtCut at b)) ordered h = by e (h tt)
  where
    by : (e : Ending) → shown e ≡ Good (AtCut at b) → Tells e (Halted b.queries (length b.queries) at) × ⊤
    by (Done s) k = cc
    by (Stuck from s) k =
        let board : s.board ≡ b = cc in
        let side : from ≡ at = cc in
        ((ap (λ x. x.queries) board, ap (λ x. length x.queries) board, side), tt)
    by (Few n) k = cc
    by (Bad n) k = cc
    by Many k = cc
told_shown vs valid e (Good (AtEnd b)) ordered h = by e ordered (h tt) (values_in vs b.shares) refl
  where
    by : (e : Ending) → OrderedEnd e → shown e ≡ Good (AtEnd b) → (m : Fitting (List (List Rational))) → values_in vs b.shares ≡ m
        → IsTold vs e (walk_on (length b.queries) m (λ values. Good (Divided b.queries b.shares (joined b.pieces) values)))
    by (Done s) order k Unfit f = tt
    by (Done s) order k (Fitted values) f =
        let board : s.board ≡ b = cc in
        let shares : AllOrdered b.shares = subst (λ (x : Board). AllOrdered x.shares) board order in
        ((ap (λ x. x.queries) board, ap (λ x. x.shares) board, ap (λ x. joined x.pieces) board), rows_exact b.shares vs values valid shares f)
    by (Stuck at s) order k m f = cc
    by (Few n) order k m f = cc
    by (Bad n) order k m f = cc
    by Many order k m f = cc

-- a run that is over can be told
over_told : (vs : List Valuation) (e : Ending) → IsOver e → (t : Told) × (Tells e t × TellsValues vs t)
over_told vs (Done s) h = (Divided s.board.queries s.board.shares (joined s.board.pieces) (map (λ v. map (share_value v) s.board.shares) vs), ((refl, refl, refl), refl))
over_told vs (Stuck at s) h = (Halted s.board.queries (length s.board.queries) at, ((refl, refl, refl), tt))
over_told vs (Few q) h = absurd h
over_told vs (Bad q) h = absurd h
over_told vs Many h = absurd h

-- ---- the least run of a core
follows_core : (vs : List Valuation) (core : Core) → IsWellFormed core → IsValuationList core.agents vs → Follows (run_on vs core) (walk vs core.tree [] Least (first_board core.agents (length_of vs)))
follows_core vs core formed list = follows vs list.valuations core.agents list.one_each 0 core.tree [] (first_board core.agents (length_of vs)) (sound_first core.agents (length_of vs) core.tree (core_formed core formed)) []

pub ordered_core : (vs : List Valuation) (core : Core) (ys : List CutAnswer) → IsWellFormed core → OrderedEnd (run_on vs core ys)
ordered_core vs core ys formed = run_ordered (worth_of vs) core.agents 0 core.tree [] (state (first_board core.agents (length_of vs)) ys []) (sound_first core.agents (length_of vs) core.tree (core_formed core formed))

pub least_runs_exist : LeastRunsExist
least_runs_exist vs core formed list =
    let f = follows_core vs core formed list in
    let t = over_told vs (run_on vs core f.answers) f.over in
    record { told = t.0; least = record { answers = f.answers; told = t.1.0; least = f.least }; values = t.1.1 }

-- what is told of a run that is over, with least answers, is told of the least run
least_told : (vs : List Valuation) (ending : List CutAnswer → Ending) (ys : List CutAnswer) → IsOver (ending ys) → AreLeast ending ys → (w : Walked Told) → IsTold vs (ending ys) w → IsLeastTold vs ending w
least_told vs ending ys over least (Good t) h = (record { answers = ys; told = h.0; least = least }, h.1)
least_told vs ending ys over least (Refused (Overflow q)) h = tt
least_told vs ending ys over least (Refused (BadAnswer q)) h = subst IsOver h over
least_told vs ending ys over least (Refused (TooFewAnswers q)) h = subst IsOver h over
least_told vs ending ys over least (Refused TooManyAnswers) h = subst IsOver h over
least_told vs ending ys over least (Refused Memory) h = h

pub least_walks : LeastWalksAreLeastRuns
least_walks vs core formed list =
    let f = follows_core vs core formed list in
    least_told vs (run_on vs core) f.answers f.over f.least (outcome vs core Least)
    (told_shown vs list.valuations (run_on vs core f.answers) (walk vs core.tree [] Least (first_board core.agents (length_of vs))) (ordered_core vs core f.answers formed) f.same)
