-- Steps of the walk, as the interpreter takes them.
use Rattle.std.proofs.Common.{◌≡◌, ◌∙◌, ℕ, ◌-◌, ◌<◌, ◌∷◌, ◌++◌, Bool, List, [], length, get_or, false, ap, sym, Ok, Err, OnOk}
use Rattle.std.specs.Prelude.{is_err, slice_get, Option, Some, if◌then◌else◌, IfErr}
use Rattle.std.proofs.lemmas.Option.{get_or_from_slice_get, slice_get-get_or}
use Rattle.std.specs.declared.result.Result.{Result}
use Rattle.slice_num.specs.Rational.{Rational}
use Rattle.slice_num.specs.Valuation.{Valuation, cake}
use Rattle.slice_num.specs.declared.choice.Side.{Side}
use Rattle.slice_core.specs.Tree.{Tree, Ask, Set, Cut, Join, Test, Give}
use Rattle.slice_num.specs.Pieces.{piece_at}
use Rattle.slice_core.specs.Run.{Piece, Board, ask_on, join_on, give_on, goes_yes}
use Rattle.slice_core.specs.declared.node.Lin.{Lin}
use Rattle.slice_step.specs.Arithmetic.{share_in}
use Rattle.slice_run.specs.Sums.{lin_in}
use Rattle.slice_run.specs.Outcomes.{FaultIs}
use Rattle.slice_run.specs.Tables.{after}
use Rattle.slice_run.specs.Walk.{Walked, walk_on, Answers, Onward, Halt, walk_cut, walk}
use Rattle.slice_run.specs.declared.outcome.RunFault.{RunFault}
use Rattle.slice_run.specs.declared.outcome.RunFault.TheVariants.{Overflow, BadAnswer, TooFewAnswers, TooManyAnswers, Memory}
use Rattle.slice_core.specs.Measures.{valuation_of}

pub on_ok : {T E : Type 0} (r : Result T E) (P : Type 0) → is_err r ≡ false → OnOk r P → P
on_ok (Ok x) P e h = h
on_ok (Err x) P e h = cc

pub fault_along : {A : Type 0} (f : RunFault) (m n : Walked A) → m ≡ n → FaultIs f n → FaultIs f m
fault_along (Overflow q) m n e h = e ∙ h
fault_along (BadAnswer q) m n e h = e ∙ h
fault_along (TooFewAnswers q) m n e h = e ∙ h
fault_along TooManyAnswers m n e h = e ∙ h
fault_along Memory m n e h = tt

-- the agent's valuation
pub valuation_is : (vs : List Valuation) (a : ℕ) (v : Valuation) → slice_get vs (a - 1) ≡ Some v → valuation_of vs a ≡ v
valuation_is vs a v h = get_or_from_slice_get vs (a - 1) v (record { ends = []; heights = [] }) h

-- a part that is there
pub part_is : (piece : Piece) (k : ℕ) → k < length piece → slice_get piece k ≡ Some (get_or piece k (cake 0))
part_is piece k h = slice_get-get_or piece k (cake 0) h

-- ---- the nodes of the walk
pub walk_asks : (vs : List Valuation) (tree next : Tree) (a p r : ℕ) (regs after_regs : List Rational) (answers : Answers) (b after_b : Board) (v : Valuation) → tree ≡ Ask a p r next → slice_get vs (a - 1) ≡ Some v
    → ((go : List Rational → Board → Walked Halt) → walk_on (length b.queries) (share_in v (piece_at b.pieces p)) (λ x. go (regs ++ x ∷ []) (ask_on a x b)) ≡ go after_regs after_b)
    → walk vs tree regs answers b ≡ walk vs next after_regs answers after_b
walk_asks vs tree next a p r regs after_regs answers b after_b v t g h =
    ap (λ (s : Tree). walk vs s regs answers b) t
    ∙ ap (λ (w : Valuation). walk_on (length b.queries) (share_in w (piece_at b.pieces p)) (λ x. walk vs next (regs ++ x ∷ []) answers (ask_on a x b))) (valuation_is vs a v g)
    ∙ h (λ rs c. walk vs next rs answers c)

pub ask_faults : (vs : List Valuation) (tree next : Tree) (a p r : ℕ) (regs : List Rational) (answers : Answers) (b : Board) (v : Valuation) (f : RunFault) → tree ≡ Ask a p r next → slice_get vs (a - 1) ≡ Some v
    → ((go : Rational → Walked Halt) → FaultIs f (walk_on (length b.queries) (share_in v (piece_at b.pieces p)) go)) → FaultIs f (walk vs tree regs answers b)
ask_faults vs tree next a p r regs answers b v f t g h =
    let e : walk vs tree regs answers b ≡ walk_on (length b.queries) (share_in v (piece_at b.pieces p)) (λ x. walk vs next (regs ++ x ∷ []) answers (ask_on a x b)) =
    ap (λ (s : Tree). walk vs s regs answers b) t
    ∙ ap (λ (w : Valuation). walk_on (length b.queries) (share_in w (piece_at b.pieces p)) (λ x. walk vs next (regs ++ x ∷ []) answers (ask_on a x b))) (valuation_is vs a v g) in
    fault_along f _ _ e (h (λ x. walk vs next (regs ++ x ∷ []) answers (ask_on a x b)))

pub walk_sets : (vs : List Valuation) (tree next : Tree) (r : ℕ) (sum : Lin) (regs after_regs : List Rational) (answers : Answers) (b after_b : Board) → tree ≡ Set r sum next → after_b ≡ b
    → ((go : List Rational → Walked Halt) → walk_on (length b.queries) (lin_in regs sum.terms) (λ x. go (regs ++ x ∷ [])) ≡ go after_regs) → walk vs tree regs answers b ≡ walk vs next after_regs answers after_b
walk_sets vs tree next r sum regs after_regs answers b after_b t f h =
    ap (λ (s : Tree). walk vs s regs answers b) t ∙ h (λ rs. walk vs next rs answers b) ∙ ap (walk vs next after_regs answers) (sym f)

-- a cut of the agent's valuation
cut_known : (vs : List Valuation) (tree next : Tree) (a p : ℕ) (amount : Lin) (l r : ℕ) (regs : List Rational) (answers : Answers) (b : Board) (v : Valuation) → tree ≡ Cut a p amount l r next → slice_get vs (a - 1) ≡ Some v
    → walk vs tree regs answers b ≡ walk_on (length b.queries) (lin_in regs amount.terms) (λ share. walk_cut v a p share (walk vs next regs) answers b)
cut_known vs tree next a p amount l r regs answers b v t g =
    ap (λ (s : Tree). walk vs s regs answers b) t
    ∙ ap (λ (w : Valuation). walk_on (length b.queries) (lin_in regs amount.terms) (λ share. walk_cut w a p share (walk vs next regs) answers b)) (valuation_is vs a v g)

pub walk_cuts : (vs : List Valuation) (tree next : Tree) (a p : ℕ) (amount : Lin) (l r : ℕ) (regs : List Rational) (answers after_answers : Answers) (b after_b : Board) (v : Valuation) (o : Option Side) → tree ≡ Cut a p amount l r next → slice_get vs (a - 1) ≡ Some v
    → ((go : Onward) → walk_on (length b.queries) (lin_in regs amount.terms) (λ share. walk_cut v a p share go answers b) ≡ after o go after_answers after_b) → walk vs tree regs answers b ≡ after o (walk vs next regs) after_answers after_b
walk_cuts vs tree next a p amount l r regs answers after_answers b after_b v o t g h = cut_known vs tree next a p amount l r regs answers b v t g ∙ h (walk vs next regs)

pub cut_faults : (vs : List Valuation) (tree next : Tree) (a p : ℕ) (amount : Lin) (l r : ℕ) (regs : List Rational) (answers : Answers) (b : Board) (v : Valuation) (f : RunFault) → tree ≡ Cut a p amount l r next → slice_get vs (a - 1) ≡ Some v
    → ((go : Onward) → FaultIs f (walk_on (length b.queries) (lin_in regs amount.terms) (λ share. walk_cut v a p share go answers b))) → FaultIs f (walk vs tree regs answers b)
cut_faults vs tree next a p amount l r regs answers b v f t g h = fault_along f _ _ (cut_known vs tree next a p amount l r regs answers b v t g) (h (walk vs next regs))

pub walk_joins : (vs : List Valuation) (tree next : Tree) (p q r : ℕ) (regs : List Rational) (answers : Answers) (b after_b : Board) → tree ≡ Join p q r next → after_b ≡ join_on p q b → walk vs tree regs answers b ≡ walk vs next regs answers after_b
walk_joins vs tree next p q r regs answers b after_b t e = ap (λ (s : Tree). walk vs s regs answers b) t ∙ ap (walk vs next regs answers) (sym e)

pub walk_gives : (vs : List Valuation) (tree next : Tree) (p a : ℕ) (regs : List Rational) (answers : Answers) (b after_b : Board) → tree ≡ Give p a next → after_b ≡ give_on p a b → walk vs tree regs answers b ≡ walk vs next regs answers after_b
walk_gives vs tree next p a regs answers b after_b t e = ap (λ (s : Tree). walk vs s regs answers b) t ∙ ap (walk vs next regs answers) (sym e)

pub walk_tests : (vs : List Valuation) (tree at_yes at_no : Tree) (left right : Lin) (strict : Bool) (regs : List Rational) (answers : Answers) (b : Board) (t : Bool) → tree ≡ Test left right strict at_yes at_no
    → ((go : Bool → Walked Halt) → walk_on (length b.queries) (lin_in regs left.terms) (λ x. walk_on (length b.queries) (lin_in regs right.terms) (λ y. go (goes_yes strict x y))) ≡ go t)
    → walk vs tree regs answers b ≡ (if t then walk vs at_yes regs answers b else walk vs at_no regs answers b)
walk_tests vs tree at_yes at_no left right strict regs answers b t e h =
    ap (λ (s : Tree). walk vs s regs answers b) e ∙ h (λ u. if u then walk vs at_yes regs answers b else walk vs at_no regs answers b)

pub test_faults : (vs : List Valuation) (tree at_yes at_no : Tree) (left right : Lin) (strict : Bool) (regs : List Rational) (answers : Answers) (b : Board) (f : RunFault) → tree ≡ Test left right strict at_yes at_no
    → ((go : Rational → Rational → Walked Halt) → FaultIs f (walk_on (length b.queries) (lin_in regs left.terms) (λ x. walk_on (length b.queries) (lin_in regs right.terms) (λ y. go x y)))) → FaultIs f (walk vs tree regs answers b)
test_faults vs tree at_yes at_no left right strict regs answers b f e h =
    fault_along f _ _ (ap (λ (s : Tree). walk vs s regs answers b) e) (h (λ x y. if goes_yes strict x y then walk vs at_yes regs answers b else walk vs at_no regs answers b))

-- a fault that a `?` hands on
pub if_err_from : {T : Type 0} (r : Result T RunFault) (f : RunFault) (P : RunFault → Type 0) → r ≡ Err f → P f → IfErr r P
if_err_from r f P e h = rw e h
