-- From the walk over the table to what is told.
use Rattle.std.proofs.Common.{◌≡◌, ◌∙◌, ℕ, ◌<◌, ◌∷◌, List, [], length, replicate, refl, ap, sym, subst, arith, Ok, Err, OnOk}
use Rattle.std.specs.Prelude.{IfOk, IfErr}
use Rattle.std.specs.List.{All}
use Rattle.std.specs.declared.result.Result.{Result}
use Rattle.slice_num.specs.Rational.{Rational}
use Rattle.slice_num.specs.Valuation.{Valuation, cake, cake_length}
use Rattle.slice_core.specs.Tree.{Tree}
use Rattle.slice_num.specs.Pieces.{joined}
use Rattle.slice_core.specs.Run.{Piece, Board, first_board, Ending, Done, Stuck, Few, Bad, Many}
use Rattle.slice_run.specs.Pieces.{Ledger}
use Rattle.slice_core.specs.Division.{AreDisjoint, MakeUpCake, IsDivision}
use Rattle.slice_run.specs.Walk.{Walked, Good, then_walk, Answers, Halt, walk, tell, Told, Divided, Halted}
use Rattle.slice_run.specs.RunLaws.{Tells, TellsValues, IsTold, IsLeastTold, IsLeastRun}
use Rattle.slice_run.specs.Outcomes.{told_of, FaultIs, RefusalIs, IsStop, Divides}
use Rattle.slice_run.specs.Tables.{halt_of, tell_left}
use Rattle.slice_num.specs.declared.cut_answer.CutAnswer.{CutAnswer}
use Rattle.slice_run.specs.declared.table.Stop.{Stop}
use Rattle.slice_run.specs.declared.table.Stop.TheVariants.{End, Stuck as StuckAt}
use Rattle.slice_run.specs.declared.outcome.Outcome.{Outcome}
use Rattle.slice_run.specs.declared.outcome.RunFault.{RunFault}
use Rattle.slice_run.specs.declared.outcome.RunFault.TheVariants.{Overflow, BadAnswer, TooFewAnswers, TooManyAnswers, Memory}
use Rattle.slice_run.proofs.Walking.{fault_along}
use Rattle.slice_core.specs.Measures.{length_of}

pub on_ok_is : {T E : Type 0} (r : Result T E) (x : T) (P : Type 0) → r ≡ Ok x → OnOk r P → P
on_ok_is (Ok y) x P e h = h
on_ok_is (Err y) x P e h = cc

pub if_ok_is : {T E : Type 0} (r : Result T E) (x : T) (P : T → Type 0) → r ≡ Ok x → IfOk r P → P x
if_ok_is r x P e h = rw e at h

pub if_err_is : {T E : Type 0} (r : Result T E) (x : E) (P : E → Type 0) → r ≡ Err x → IfErr r P → P x
if_err_is r x P e h = rw e at h

pub if_ok_then : {T E : Type 0} (r : Result T E) (P Q : T → Type 0) → IfOk r P → ((x : T) → P x → Q x) → IfOk r Q
if_ok_then (Ok x) P Q h f = f x h
if_ok_then (Err e) P Q h f = tt

pub if_err_then : {T E : Type 0} (r : Result T E) (P Q : E → Type 0) → IfErr r P → ((x : E) → P x → Q x) → IfErr r Q
if_err_then (Ok x) P Q h f = tt
if_err_then (Err e) P Q h f = f e h

-- the length that all valuations have
pub length_is : (vs : List Valuation) (n : ℕ) → 0 < length vs → All (λ v. n ≡ cake_length v) vs → n ≡ length_of vs
length_is [] n some h = absurd (omega (arith, some))
length_is (v ∷ vs) n some h = h 0 v (omega arith)

-- what is told where the walk halted
pub tell_is : (vs : List Valuation) (stop : Stop) (b : Board) → tell vs (halt_of stop b) ≡ tell_left vs stop b.queries b.shares (joined b.pieces)
tell_is vs End b = refl
tell_is vs (StuckAt at) b = refl

pub ok_along : {E : Type 0} (r : Result Outcome E) (m n : Walked Told) → m ≡ n → IfOk r (λ o. n ≡ Good (told_of o)) → IfOk r (λ o. m ≡ Good (told_of o))
ok_along (Ok o) m n e h = e ∙ h
ok_along (Err f) m n e h = tt

pub err_along : {T : Type 0} (r : Result T RunFault) (m n : Walked Told) → m ≡ n → IfErr r (λ f. FaultIs f n) → IfErr r (λ f. FaultIs f m)
err_along (Ok o) m n e h = tt
err_along (Err f) m n e h = fault_along f m n e h

-- a fault of the walk is the run's
pub walk_fault : (f : RunFault) (w : Walked Halt) (vs : List Valuation) → FaultIs f w → FaultIs f (then_walk w (tell vs))
walk_fault (Overflow q) w vs h = ap (λ x. then_walk x (tell vs)) h
walk_fault (BadAnswer q) w vs h = ap (λ x. then_walk x (tell vs)) h
walk_fault (TooFewAnswers q) w vs h = ap (λ x. then_walk x (tell vs)) h
walk_fault TooManyAnswers w vs h = ap (λ x. then_walk x (tell vs)) h
walk_fault Memory w vs h = tt

-- the table at the start
pub record Begins (vs : List Valuation) (agents n : ℕ) (table : Board) (regs : List Rational) : Type 0 where
  pub some : 0 < length vs
  pub long : All (λ v. n ≡ cake_length v) vs
  pub pieces : table.pieces ≡ (cake n ∷ []) ∷ []
  pub shares : table.shares ≡ replicate agents []
  pub queries : table.queries ≡ []
  pub registers : regs ≡ []

walk_first : (vs : List Valuation) (tree root : Tree) (agents n : ℕ) (table : Board) (regs : List Rational) (answers : Answers) → root ≡ tree → Begins vs agents n table regs
    → walk vs tree [] answers (first_board agents (length_of vs)) ≡ walk vs root regs answers table
walk_first vs tree root agents n table regs answers r h =
    let e = h.pieces ∙ ap (λ (m : ℕ). (cake m ∷ []) ∷ []) (length_is vs n h.some h.long) in
    let board : table ≡ first_board agents (length_of vs) = λ i. record { pieces = e i; shares = h.shares i; queries = h.queries i } in
    λ i. walk vs (sym r i) (sym h.registers i) answers (sym board i)

-- what is told of the run, from the facts of its parts
pub told_whole : (vs : List Valuation) (tree root : Tree) (agents n : ℕ) (table after : Board) (regs : List Rational) (answers : Answers) (stop : Stop) (book : Ledger) → root ≡ tree → Begins vs agents n table regs
    → walk vs root regs answers table ≡ Good (halt_of stop after) → book.shares ≡ after.shares → book.left ≡ joined after.pieces
    → then_walk (walk vs tree [] answers (first_board agents (length_of vs))) (tell vs) ≡ tell_left vs stop after.queries book.shares book.left
told_whole vs tree root agents n table after regs answers stop book r h w bs bl =
    ap (λ x. then_walk x (tell vs)) (walk_first vs tree root agents n table regs answers r h ∙ w)
    ∙ tell_is vs stop after
    ∙ (λ i. tell_left vs stop after.queries (sym bs i) (sym bl i))

pub first_fault : (vs : List Valuation) (tree root : Tree) (agents n : ℕ) (table : Board) (regs : List Rational) (answers : Answers) (f : RunFault) → root ≡ tree → Begins vs agents n table regs
    → FaultIs f (walk vs root regs answers table) → FaultIs f (then_walk (walk vs tree [] answers (first_board agents (length_of vs))) (tell vs))
first_fault vs tree root agents n table regs answers f r h w =
    walk_fault f (walk vs tree [] answers (first_board agents (length_of vs))) vs (fault_along f _ _ (walk_first vs tree root agents n table regs answers r h) w)

-- ---- from what is told to what the run is
pub least_of : (vs : List Valuation) (ending : List CutAnswer → Ending) (w : Walked Told) (t : Told) → IsLeastTold vs ending w → w ≡ Good t → IsLeastRun ending t × TellsValues vs t
least_of vs ending w t h e = subst (IsLeastTold vs ending) e h

pub told_of_run : (vs : List Valuation) (e : Ending) (w : Walked Told) (t : Told) → IsTold vs e w → w ≡ Good t → Tells e t × TellsValues vs t
told_of_run vs e w t h k = subst (IsTold vs e) k h

pub stops_of : (vs : List Valuation) (ending : List CutAnswer → Ending) (w : Walked Told) (f : RunFault) → IsLeastTold vs ending w → FaultIs f w → IsStop f
stops_of vs ending w (Overflow q) h k = tt
stops_of vs ending w (BadAnswer q) h k = subst (IsLeastTold vs ending) k h
stops_of vs ending w (TooFewAnswers q) h k = subst (IsLeastTold vs ending) k h
stops_of vs ending w TooManyAnswers h k = subst (IsLeastTold vs ending) k h
stops_of vs ending w Memory h k = tt

pub refusal_of : (vs : List Valuation) (e : Ending) (w : Walked Told) (f : RunFault) → IsTold vs e w → FaultIs f w → RefusalIs f e
refusal_of vs e w (Overflow q) h k = tt
refusal_of vs e w (BadAnswer q) h k = subst (IsTold vs e) k h
refusal_of vs e w (TooFewAnswers q) h k = subst (IsTold vs e) k h
refusal_of vs e w TooManyAnswers h k = subst (IsTold vs e) k h
refusal_of vs e w Memory h k = tt

-- a division that is told is that of a run
pub told_divides : (n : ℕ) (e : Ending) (t : Told) → Tells e t → IsDivision n e → Divides n t
told_divides n (Done s) (Divided queries shares left values) h d = subst (λ (x : List Piece × Piece). AreDisjoint x.0 x.1 × MakeUpCake n x.0 x.1) (λ i. (h.1 i, h.2 i)) d
told_divides n e (Halted queries query at) h d = tt
told_divides n (Stuck from s) (Divided queries shares left values) h d = absurd h
told_divides n (Few q) (Divided queries shares left values) h d = absurd h
told_divides n (Bad q) (Divided queries shares left values) h d = absurd h
told_divides n Many (Divided queries shares left values) h d = absurd h
