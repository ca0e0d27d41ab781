-- Statements one after the other.
use Rattle.std.proofs.Common.{◌≡◌, ℕ, suc, ◌+◌, ◌<◌, ◌≤◌, List, length, get_or, drop, drop-cons, add-one, refl, ap, sym, ◌∙◌}
use Rattle.std.proofs.lemmas.List.{drop_all}
use Rattle.slice_ast.specs.Code.{Code, PlainBlock, PlainProc, Head, ACut, ALet, AJoin, AGive, AnIf, APick, ACall, put}
use Rattle.slice_ast.specs.View.{head_of, code_of, block_of, head_step, block_step}
use Rattle.slice_ast.specs.declared.tree.Name.{Name}
use Rattle.slice_ast.specs.declared.tree.Stmt.{Stmt}
use Rattle.slice_ast.specs.declared.tree.Block.{Block}
use Rattle.slice_ast.specs.declared.tree.Stmt.TheFolds.{fold_out-Block}
use Rattle.slice_affine.specs.Pass.{State, Passed, Went, Failed, Closed, Left, Broken, then_pass, then_closed, tell, pass, one_pass, block_pass, test_step, end_step, remarked, yield_step}
use Rattle.slice_affine.specs.declared.trail.Use.{Use}

passed_then : (p : Passed) (f g : State → Passed) → then_pass (then_pass p f) g ≡ then_pass p (λ s. then_pass (f s) g)
passed_then (Went s) f g = refl
passed_then (Failed e) f g = refl

closed_then : (p : Closed) (f : List Use → State → Passed) (g : State → Passed) → then_pass (then_closed p f) g ≡ then_closed p (λ u s. then_pass (f u s) g)
closed_then (Left u s) f g = refl
closed_then (Broken e) f g = refl

same_pass : (p : Passed) (f g : State → Passed) → ((s : State) → f s ≡ g s) → then_pass p f ≡ then_pass p g
same_pass (Went s) f g h = h s
same_pass (Failed e) f g h = refl

same_closed : (p : Closed) (f g : List Use → State → Passed) → ((u : List Use) (s : State) → f u s ≡ g u s) → then_closed p f ≡ then_closed p g
same_closed (Left u s) f g h = h u s
same_closed (Broken e) f g h = refl

-- a statement, then those after it
pub pass_put : (procs : List PlainProc) (h : Head) (c : Code) (ys : List Name) (s : State) → pass procs (put h c) ys s ≡ then_pass (one_pass procs h s) (pass procs c ys)
pass_put procs (ACut a p m l r) c ys s = refl
pass_put procs (ALet n m) c ys s = refl
pass_put procs (AJoin p q n) c ys s = refl
pass_put procs (AGive p a) c ys s = refl
pass_put procs (APick a ps ns end) c ys s = refl
pass_put procs (ACall f xs ns end) c ys s = refl
pass_put procs (AnIf l o r y n names end) c ys s =
    let go : State → Passed = pass procs c ys in
    let last : List Use → List Use → State → Passed = λ (uses : List Use) (more : List Use) (v : State). tell (end_step y.yields n.yields names end (remarked more (remarked uses v))) in
    let second : List Use → State → Passed = λ (uses : List Use) (u : State). then_closed (block_pass procs n u) (last uses) in
    let first : State → Passed = λ (t : State). then_closed (block_pass procs y t) second in
    sym (passed_then (tell (test_step l r s)) first go
    ∙ same_pass (tell (test_step l r s)) (λ t. then_pass (first t) go) (λ t. then_closed (block_pass procs y t) (λ uses u. then_closed (block_pass procs n u) (λ more v. then_pass (last uses more v) go)))
    (λ t. closed_then (block_pass procs y t) second go
    ∙ same_closed (block_pass procs y t) (λ uses u. then_pass (second uses u) go) (λ uses u. then_closed (block_pass procs n u) (λ more v. then_pass (last uses more v) go))
    (λ uses u. closed_then (block_pass procs n u) (last uses) go)))

pub code_next : (procs : List PlainProc) (xs : List Stmt) (i : ℕ) (x : Stmt) (ys : List Name) (s : State) → i < length xs → x ≡ get_or xs i x
    → pass procs (code_of (drop i xs)) ys s ≡ then_pass (one_pass procs (head_of x) s) (pass procs (code_of (drop (i + 1) xs)) ys)
code_next procs xs i x ys s h e =
    ap (λ l. pass procs (code_of l) ys s) (drop-cons xs i x h)
    ∙ pass_put procs (head_of (get_or xs i x)) (code_of (drop (suc i) xs)) ys s ∙ rw (add-one, ← e) refl

pub code_end : (procs : List PlainProc) (xs : List Stmt) (i : ℕ) (ys : List Name) (s : State) → length xs ≤ i → pass procs (code_of (drop i xs)) ys s ≡ tell (yield_step ys s)
code_end procs xs i ys s h = ap (λ l. pass procs (code_of l) ys s) (drop_all i xs h)

pub block_parts : (b : Block) → block_of b ≡ record { code = code_of b.stmts; yields = b.yields }
block_parts b = fold_out-Block Head PlainBlock head_step block_step b
