-- Statements in a row, and the statements of a block.
use Rattle.std.proofs.Common.{◌≡◌, ℕ, suc, ◌+◌, ◌<◌, ◌≤◌, List, [], ◌∷◌, ◌++◌, length, get_or, drop, drop-cons, add-one, map, codes, refl, sym, ap, ◌∙◌, append_assoc, append-nil, Result}
use Rattle.std.specs.Result.{OnOk}
use Rattle.std.proofs.lemmas.List.{drop_all}
use Rattle.slice_ast.specs.Code.{Code, PlainBlock, Head, ACut, ALet, AJoin, AGive, AnIf, APick, ACall, put}
use Rattle.slice_ast.specs.View.{head_of, block_of, code_of, proc_of, head_step, block_step}
use Rattle.slice_ast.specs.Tokens.{code_marks, head_marks, open_marks, yield_marks, test_marks, if_end, names_after, proc_marks, procs_marks, Plain, Final}
use Rattle.slice_ast.specs.Taking.{taken}
use Rattle.slice_ast.proofs.TakingLemmas.{taken-append, on_ok}
use Rattle.slice_ast.specs.declared.tree.Stmt.{Stmt}
use Rattle.slice_ast.specs.declared.tree.Block.{Block}
use Rattle.slice_ast.specs.declared.tree.Proc.{Proc}
use Rattle.slice_ast.specs.declared.tree.Name.{Name}
use Rattle.slice_ast.specs.declared.tree.Sum.{Sum}
use Rattle.slice_ast.specs.declared.tree.Cmp.{Cmp}
use Rattle.slice_ast.specs.declared.tree.Stmt.TheFolds.{fold_out-Block, fold-roll-Stmt}
use Rattle.slice_ast.specs.declared.tree.Stmt.TheOpen.{Stmt-F}
use Rattle.slice_ast.specs.declared.tree.Stmt.TheVariants as variant

-- a statement's tokens, then those of the ones after it
pub code_marks-put : (h : Head) (c : Code) → code_marks (put h c) ≡ head_marks h ++ code_marks c
code_marks-put (ACut a p s l r) c = simp append_assoc
code_marks-put (ALet n s) c = simp append_assoc
code_marks-put (AJoin p q n) c = refl
code_marks-put (AGive p a) c = simp append_assoc
code_marks-put (AnIf l o r y n ns e) c = simp append_assoc
code_marks-put (APick a ps ns e) c = simp append_assoc
code_marks-put (ACall f xs ns e) c = simp append_assoc

pub code_marks-cons : (s : Stmt) (ss : List Stmt) → code_marks (code_of (s ∷ ss)) ≡ head_marks (head_of s) ++ code_marks (code_of ss)
code_marks-cons s ss = code_marks-put (head_of s) (code_of ss)

-- the plain data of a block is that of its parts
pub block_of-parts : (b : Block) → block_of b ≡ record { code = code_of b.stmts; yields = b.yields }
block_of-parts b = fold_out-Block Head PlainBlock head_step block_step b

pub block_marks-parts : (b : Block) → open_marks (block_of b) ≡ open_marks (record { code = code_of b.stmts; yields = b.yields })
block_marks-parts b = ap open_marks (block_of-parts b)

-- one more statement of a row
pub code-turn : {S : Type 0} (after : S → List ℕ → S) (s : S) (ss : List Stmt) (i : ℕ) (x : Stmt) → i < length ss → x ≡ get_or ss i x
    → taken after s (code_marks (code_of (drop i ss))) ≡ taken after (taken after s (head_marks (head_of x))) (code_marks (code_of (drop (i + 1) ss)))
code-turn after s ss i x h e =
    let d = drop-cons ss i x h in
    ap (λ ys. taken after s (code_marks (code_of ys))) d
    ∙ ap (taken after s) (code_marks-cons (get_or ss i x) (drop (suc i) ss))
    ∙ taken-append after s (head_marks (head_of (get_or ss i x))) (code_marks (code_of (drop (suc i) ss)))
    ∙ rw (add-one, ← e) refl

-- no further statement
pub code-end : {S : Type 0} (after : S → List ℕ → S) (s : S) (ss : List Stmt) (i : ℕ) → length ss ≤ i → taken after s (code_marks (code_of (drop i ss))) ≡ s
code-end after s ss i h = ap (λ ys. taken after s (code_marks (code_of ys))) (drop_all i ss h)

-- the brace, the statements, the yields
pub open_marks-taken : {S : Type 0} (after : S → List ℕ → S) (s : S) (b : Block) → taken after s (open_marks (block_of b)) ≡ taken after (taken after (after s (codes "{")) (code_marks (code_of b.stmts))) (yield_marks b.yields)
open_marks-taken after s b = ap (taken after s) (block_marks-parts b) ∙ taken-append after (after s (codes "{")) (code_marks (code_of b.stmts)) (yield_marks b.yields)

-- the same of procedures
pub procs-turn : {S : Type 0} (after : S → List ℕ → S) (s : S) (ps : List Proc) (i : ℕ) (x : Proc) → i < length ps → x ≡ get_or ps i x
    → taken after s (procs_marks (map proc_of (drop i ps))) ≡ taken after (taken after s (proc_marks (proc_of x))) (procs_marks (map proc_of (drop (i + 1) ps)))
procs-turn after s ps i x h e =
    let d = drop-cons ps i x h in
    ap (λ ys. taken after s (procs_marks (map proc_of ys))) d
    ∙ taken-append after s (proc_marks (proc_of (get_or ps i x))) (procs_marks (map proc_of (drop (suc i) ps)))
    ∙ rw (add-one, ← e) refl

pub procs-end : {S : Type 0} (after : S → List ℕ → S) (s : S) (ps : List Proc) (i : ℕ) → length ps ≤ i → taken after s (procs_marks (map proc_of (drop i ps))) ≡ s
procs-end after s ps i h = ap (λ ys. taken after s (procs_marks (map proc_of ys))) (drop_all i ps h)

-- the test, the first block, `} else`, the second block, the end
head_marks-if : (l : Sum) (o : Cmp) (r : Sum) (y n : PlainBlock) (ns : List Name) (e : ℕ)
    → head_marks (AnIf l o r y n ns e) ≡ test_marks l o r ++ (open_marks y ++ Plain (codes "}") ∷ Plain (codes "else") ∷ (open_marks n ++ if_end ns e))
head_marks-if l o r y n ns e = simp (append_assoc, append-nil)

-- the place of the last token isn't written
if_end-place : {S : Type 0} (after : S → List ℕ → S) (s : S) (ns : List Name) (e : ℕ) → taken after s (if_end ns e) ≡ taken after s (if_end ns 0)
if_end-place after s [] e = refl
if_end-place after s (n ∷ ns) e =
    taken-append after (after s (codes "}")) (names_after (codes "as") (n ∷ ns)) (Final (codes ";") e ∷ [])
    ∙ sym (taken-append after (after s (codes "}")) (names_after (codes "as") (n ∷ ns)) (Final (codes ";") 0 ∷ []))

pub taken-if : {S : Type 0} (after : S → List ℕ → S) (s : S) (l : Sum) (o : Cmp) (r : Sum) (y n : PlainBlock) (ns : List Name) (e : ℕ)
    → taken after s (head_marks (AnIf l o r y n ns e))
    ≡ taken after (taken after (after (after (taken after (taken after s (test_marks l o r)) (open_marks y)) (codes "}")) (codes "else")) (open_marks n)) (if_end ns 0)
taken-if after s l o r y n ns e =
    ap (taken after s) (head_marks-if l o r y n ns e)
    ∙ taken-append after s (test_marks l o r) (open_marks y ++ Plain (codes "}") ∷ Plain (codes "else") ∷ (open_marks n ++ if_end ns e))
    ∙ taken-append after (taken after s (test_marks l o r)) (open_marks y) (Plain (codes "}") ∷ Plain (codes "else") ∷ (open_marks n ++ if_end ns e))
    ∙ taken-append after (after (after (taken after (taken after s (test_marks l o r)) (open_marks y)) (codes "}")) (codes "else")) (open_marks n) (if_end ns e)
    ∙ if_end-place after (taken after (after (after (taken after (taken after s (test_marks l o r)) (open_marks y)) (codes "}")) (codes "else")) (open_marks n)) ns e

pub ruleset branches = taken-if

-- an `if` that is written in six steps
pub if-written : {S T E : Type 0} (after : S → List ℕ → S) (s a b c d f g : S) (stmt : Stmt) (l : Sum) (o : Cmp) (r : Sum) (y n : Block) (ns : List Name) (e : ℕ) (x : Result T E)
    → head_of stmt ≡ AnIf l o r (block_of y) (block_of n) ns e
    → a ≡ taken after s (test_marks l o r) → b ≡ taken after a (open_marks (block_of y)) → c ≡ after b (codes "}") → d ≡ after c (codes "else")
    → f ≡ taken after d (open_marks (block_of n)) → OnOk x (g ≡ taken after f (if_end ns 0)) → OnOk x (g ≡ taken after s (head_marks (head_of stmt)))
if-written after s a b c d f g stmt l o r y n ns e x is p q t u v =
    let w = taken-if after s l o r (block_of y) (block_of n) ns e in
    let k = ap head_marks is in
    on_ok x (λ h. cc)

pub head_of-If : (l : Sum) (o : Cmp) (r : Sum) (y n : Block) (ns : List Name) (e : ℕ) → head_of (variant.If l o r y n ns e) ≡ AnIf l o r (block_of y) (block_of n) ns e
head_of-If l o r y n ns e = ap head_of (sym (variant.rolls-If l o r y n ns e)) ∙ fold-roll-Stmt Head PlainBlock head_step block_step (Stmt-F.If l o r y n ns e)
