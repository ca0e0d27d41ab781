-- The queries and the value of a sum in a core are those of the program.
use Rattle.std.proofs.Common.{◌≡◌, ℕ, ◌+◌, List, [], ◌∷◌, ◌++◌, length, refl, ap, ◌∙◌, arith, length-append, pos}
use Rattle.std.proofs.lemmas.Option.{get_or_from_slice_get}
use Rattle.slice_num.specs.Rational.{Rational, whole}
use Rattle.slice_ast.specs.declared.tree.Operand.{Operand}
use Rattle.slice_ast.specs.declared.tree.Operand.TheVariants as operand
use Rattle.slice_ast.specs.declared.tree.Term.{Term}
use Rattle.slice_num.specs.Pieces.{piece_at}
use Rattle.slice_core.specs.Run.{Piece, Board, Worth, State, with_board, ask_on, run, source_value, scaled, added}
use Rattle.slice_core.specs.Run as core
use Rattle.slice_expand.specs.Scope.{agent_at, piece_named, look, factor_value}
use Rattle.slice_expand.specs.ProgramRun.{Env, operand_value, term_value, terms_value, sum_value, operand_asked, terms_asked, worth_on}
use Rattle.slice_expand.specs.Expansion.{Names, operand_asks, asks_of, operand_source, terms_lin, operand_ask, asks}
use Rattle.slice_expand.specs.Marked.{Marked, plain}
use Rattle.slice_expand.proofs.Grows.{Extends, extends_all, extends_through, extends_append, get_last}
use Rattle.slice_expand.proofs.Agrees.{Agree, same_later, agree_later, look_same, same_number, piece_same, agent_same}

-- the registers after the queries of an operand, and of terms in a row
abbrev pub operand_regs : Worth → Env → Operand → Board → List Rational → List Rational
operand_regs w env (operand.Fraction f) b regs = regs
operand_regs w env (operand.Named x) b regs = regs
operand_regs w env (operand.Value a x) b regs = regs ++ worth_on w (agent_at env a) (piece_named env x) b ∷ []

abbrev pub terms_regs : Worth → Env → List Term → Board → List Rational → List Rational
terms_regs w env [] b regs = regs
terms_regs w env (t ∷ ts) b regs = terms_regs w env ts (operand_asked w env t.operand b) (operand_regs w env t.operand b regs)

operand_grows : (w : Worth) (env : Env) (o : Operand) (b : Board) (regs : List Rational) → Extends regs (operand_regs w env o b regs)
operand_grows w env (operand.Fraction f) b regs = extends_all regs
operand_grows w env (operand.Named x) b regs = extends_all regs
operand_grows w env (operand.Value a x) b regs = extends_append regs (worth_on w (agent_at env a) (piece_named env x) b ∷ [])

pub terms_grow : (w : Worth) (env : Env) (ts : List Term) (b : Board) (regs : List Rational) → Extends regs (terms_regs w env ts b regs)
terms_grow w env [] b regs = extends_all regs
terms_grow w env (t ∷ ts) b regs = extends_through (operand_grows w env t.operand b regs) (terms_grow w env ts (operand_asked w env t.operand b) (operand_regs w env t.operand b regs))

operand_length : (w : Worth) (env : Env) (o : Operand) (b : Board) (regs : List Rational) (r : ℕ) → r ≡ length regs → r + operand_asks o ≡ length (operand_regs w env o b regs)
operand_length w env (operand.Fraction f) b regs r e = omega (arith, e)
operand_length w env (operand.Named x) b regs r e = omega (arith, e)
operand_length w env (operand.Value a x) b regs r e = omega (arith, e, length-append regs (worth_on w (agent_at env a) (piece_named env x) b ∷ []))

pub terms_length : (w : Worth) (env : Env) (ts : List Term) (b : Board) (regs : List Rational) (r : ℕ) → r ≡ length regs → r + asks_of ts ≡ length (terms_regs w env ts b regs)
terms_length w env [] b regs r e = omega (arith, e)
terms_length w env (t ∷ ts) b regs r e =
    let later = terms_length w env ts (operand_asked w env t.operand b) (operand_regs w env t.operand b regs) (r + operand_asks t.operand) (operand_length w env t.operand b regs r e) in
    omega (arith, later)

operand_pieces : (w : Worth) (env : Env) (o : Operand) (b : Board) → (operand_asked w env o b).pieces ≡ b.pieces
operand_pieces w env (operand.Fraction f) b = refl
operand_pieces w env (operand.Named x) b = refl
operand_pieces w env (operand.Value a x) b = refl

-- queries leave the pieces as they are
pub terms_pieces : (w : Worth) (env : Env) (ts : List Term) (b : Board) → (terms_asked w env ts b).pieces ≡ b.pieces
terms_pieces w env [] b = refl
terms_pieces w env (t ∷ ts) b = terms_pieces w env ts (operand_asked w env t.operand b) ∙ operand_pieces w env t.operand b

operand_same : (w : Worth) (env : Env) (b c : Board) → b.pieces ≡ c.pieces → (o : Operand) → operand_value w env b o ≡ operand_value w env c o
operand_same w env b c e (operand.Fraction f) = refl
operand_same w env b c e (operand.Named x) = refl
operand_same w env b c e (operand.Value a x) = ap (λ (ps : List Piece). w (agent_at env a) (piece_at ps (piece_named env x))) e

-- values depend on the pieces alone
terms_same : (w : Worth) (env : Env) (b c : Board) → b.pieces ≡ c.pieces → (sum : Rational) (ts : List Term) → terms_value w env b sum ts ≡ terms_value w env c sum ts
terms_same w env b c e sum [] = refl
terms_same w env b c e sum (t ∷ ts) =
    terms_same w env b c e (added t.minus sum (term_value w env b t)) ts
    ∙ ap (λ v. terms_value w env c (added t.minus sum (scaled (factor_value t.factor) v)) ts) (operand_same w env b c e t.operand)

pub sum_same : (w : Worth) (env : Env) (b c : Board) → b.pieces ≡ c.pieces → (ts : List Term) → sum_value w env b ts ≡ sum_value w env c ts
sum_same w env b c e [] = refl
sum_same w env b c e (t ∷ ts) =
    terms_same w env b c e (term_value w env b t) ts
    ∙ ap (λ v. terms_value w env c (scaled (factor_value t.factor) v) ts) (operand_same w env b c e t.operand)

run_operand : (w : Worth) (o : Operand) (names : Names) (env : Env) (regs : List Rational) (s : State) (r : ℕ) → Agree regs names env → (next : Marked)
    → run w (plain (operand_ask names r o next)) regs s ≡ run w (plain next) (operand_regs w env o s.board regs) (with_board (operand_asked w env o s.board) s)
run_operand w (operand.Fraction f) names env regs s r h next = refl
run_operand w (operand.Named x) names env regs s r h next = refl
run_operand w (operand.Value a x) names env regs s r h next =
    ap (λ i. run w (plain next) (regs ++ w i (piece_at s.board.pieces (piece_named names x)) ∷ []) (with_board (ask_on i (w i (piece_at s.board.pieces (piece_named names x))) s.board) s)) (agent_same regs names env h a)
    ∙ ap (λ p. run w (plain next) (regs ++ w (agent_at env a) (piece_at s.board.pieces p) ∷ []) (with_board (ask_on (agent_at env a) (w (agent_at env a) (piece_at s.board.pieces p)) s.board) s)) (piece_same regs names env h x)

pub run_asks : (w : Worth) (ts : List Term) (names : Names) (env : Env) (regs : List Rational) (s : State) (r : ℕ) → Agree regs names env → (next : Marked)
    → run w (plain (asks names r ts next)) regs s ≡ run w (plain next) (terms_regs w env ts s.board regs) (with_board (terms_asked w env ts s.board) s)
run_asks w [] names env regs s r h next = refl
run_asks w (t ∷ ts) names env regs s r h next =
    run_operand w t.operand names env regs s r h (asks names (r + operand_asks t.operand) ts next)
    ∙ run_asks w ts names env (operand_regs w env t.operand s.board regs) (with_board (operand_asked w env t.operand s.board) s) (r + operand_asks t.operand)
    (agree_later regs (operand_regs w env t.operand s.board regs) (operand_grows w env t.operand s.board regs) names env h) next

operand_is : (w : Worth) (o : Operand) (names : Names) (env : Env) (regs all : List Rational) (b : Board) (r : ℕ) → r ≡ length regs → Agree regs names env → Extends (operand_regs w env o b regs) all
    → source_value all (operand_source names r o) ≡ operand_value w env b o
operand_is w (operand.Fraction f) names env regs all b r e h ext = refl
operand_is w (operand.Named x) names env regs all b r e h ext = same_number all (look names x.word) (look env x.word) (same_later regs all ext (look names x.word) (look env x.word) (look_same regs names env h x.word))
operand_is w (operand.Value a x) names env regs all b r e h ext =
    let v = worth_on w (agent_at env a) (piece_named env x) b in
    get_or_from_slice_get all r v (whole (pos 0)) (ext.kept r v (get_last regs v r e))

terms_is : (w : Worth) (ts : List Term) (names : Names) (env : Env) (regs all : List Rational) (b : Board) (r : ℕ) → r ≡ length regs → Agree regs names env → Extends (terms_regs w env ts b regs) all → (sum : Rational)
    → core.terms_value all sum (terms_lin names r ts) ≡ terms_value w env b sum ts
terms_is w [] names env regs all b r e h ext sum = refl
terms_is w (t ∷ ts) names env regs all b r e h ext sum =
    let mid = operand_regs w env t.operand b regs in
    let c = operand_asked w env t.operand b in
    let grown = operand_grows w env t.operand b regs in
    let here = operand_is w t.operand names env regs all b r e h (extends_through (terms_grow w env ts c mid) ext) in
    let v = added t.minus sum (term_value w env b t) in
    ap (λ x. core.terms_value all (added t.minus sum (scaled (factor_value t.factor) x)) (terms_lin names (r + operand_asks t.operand) ts)) here
    ∙ terms_is w ts names env mid all c (r + operand_asks t.operand) (operand_length w env t.operand b regs r e) (agree_later regs mid grown names env h) ext v
    ∙ terms_same w env c b (operand_pieces w env t.operand b) v ts

pub sum_is : (w : Worth) (ts : List Term) (names : Names) (env : Env) (regs all : List Rational) (b : Board) (r : ℕ) → r ≡ length regs → Agree regs names env → Extends (terms_regs w env ts b regs) all
    → core.sum_value all (terms_lin names r ts) ≡ sum_value w env b ts
sum_is w [] names env regs all b r e h ext = refl
sum_is w (t ∷ ts) names env regs all b r e h ext =
    let mid = operand_regs w env t.operand b regs in
    let c = operand_asked w env t.operand b in
    let grown = operand_grows w env t.operand b regs in
    let here = operand_is w t.operand names env regs all b r e h (extends_through (terms_grow w env ts c mid) ext) in
    let v = term_value w env b t in
    ap (λ x. core.terms_value all (scaled (factor_value t.factor) x) (terms_lin names (r + operand_asks t.operand) ts)) here
    ∙ terms_is w ts names env mid all c (r + operand_asks t.operand) (operand_length w env t.operand b regs r e) (agree_later regs mid grown names env h) ext v
    ∙ terms_same w env c b (operand_pieces w env t.operand b) v ts
