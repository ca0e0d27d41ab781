-- The core of a program runs as the program.
use Rattle.std.proofs.Common.{◌≡◌, ℕ, ◌+◌, Bool, true, false, cond, List, [], ◌∷◌, ◌++◌, length, refl, ap, sym, subst, ◌∙◌, arith, length-append}
use Rattle.std.specs.Prelude.{slice_set}
use Rattle.std.specs.Str.{bytes_eq}
use Rattle.std.proofs.lemmas.List.{length-set}
use Rattle.slice_num.specs.Rational.{Rational}
use Rattle.slice_num.specs.Fitting.{below, at_most}
use Rattle.slice_num.specs.declared.choice.Side.{Side}
use Rattle.slice_num.specs.declared.choice.Choice.{Choice}
use Rattle.slice_num.specs.declared.choice.Choice.TheVariants as choice
use Rattle.slice_ast.specs.Code.{Code, PlainProc}
use Rattle.slice_ast.specs.Code as code
use Rattle.slice_ast.specs.declared.tree.Name.{Name}
use Rattle.slice_ast.specs.declared.tree.Cmp.{Cmp}
use Rattle.slice_ast.specs.declared.tree.Cmp.TheVariants as cmp
use Rattle.slice_ast.specs.declared.tree.Arg.{Arg}
use Rattle.slice_ast.specs.declared.tree.Arg.TheVariants as arg
use Rattle.slice_num.specs.declared.cut_answer.CutAnswer.{CutAnswer}
use Rattle.slice_core.specs.declared.node.Lin.{Lin}
use Rattle.slice_num.specs.Pieces.{piece_at, passed}
use Rattle.slice_core.specs.Run.{Piece, Board, Worth, State, Ending, with_board, cut_on, join_on, give_on, chosen, run, start, Cutting, Halts, Short, Wrong, Halves, cutting, stuck_choice}
use Rattle.slice_core.specs.Run as core
use Rattle.slice_expand.specs.Scope.{Scope, Meaning, AnAgent, APiece, ANumber, looks, bound, bind, agent_at, piece_named, pieces_named, as_pieces, first_scope}
use Rattle.slice_expand.specs.ProgramRun.{Env, RunState, ProgramEnd, Stuck, unless_more, After, Calls, run_code, compares, picked, worth_on, sum_value, terms_asked, all_asked, arg_value, arg_values, args_asked, param_names, no_calls, calls_with, calls_after}
use Rattle.slice_expand.specs.ProgramRun as program
use Rattle.slice_expand.specs.Expansion.{Names, Then, Inline, expand, asks_of, sum_lin, test, offers, offer_asks, contest_all, count, args_set, no_inline, inline_with, inline_after}
use Rattle.slice_expand.specs.Marked.{Marked, plain}
use Rattle.slice_expand.specs.Marked as mark
use Rattle.slice_expand.specs.Kept.{without_trace, RunIsKept}
use Rattle.slice_expand.proofs.Grows.{Extends, extends_all, extends_through, extends_append, get_last}
use Rattle.slice_expand.proofs.Agrees.{Agree, AgreeAll, agree_later, looks_same, bind_same, piece_same, pieces_same, agent_same, as_pieces_same}
use Rattle.slice_expand.proofs.SumRuns.{terms_regs, terms_grow, terms_length, terms_pieces, sum_same, run_asks, sum_is}
use Rattle.slice_expand.proofs.Contests.{bare, all_regs, all_grow, all_length, all_pieces, run_offers, offers_held, offered_is, Ends, run_contest_all}

-- names, registers and pieces stand for the same
record Fit (regs : List Rational) (names : Names) (env : Env) (r p : ℕ) (s : State) : Type 0 where
  agree : Agree regs names env
  reg : r ≡ length regs
  made : p ≡ length s.board.pieces

record Goes (w : Worth) (base : List Rational) (go : Then) (k : After) : Type 0 where
  on : (regs : List Rational) (names : Names) (env : Env) (r p : ℕ) (s : State) → Extends base regs → Fit regs names env r p s → without_trace (run w (plain (go names r p)) regs s) ≡ k env (bare s)

-- what comes after a call
record Returns (w : Worth) (base : List Rational) (go : List (Meaning ℕ) → ℕ → ℕ → Marked) (k : List (Meaning Rational) → RunState → ProgramEnd) : Type 0 where
  on : (regs : List Rational) (ms : List (Meaning ℕ)) (vs : List (Meaning Rational)) (r p : ℕ) (s : State) → Extends base regs → AgreeAll regs ms vs → r ≡ length regs → p ≡ length s.board.pieces
      → without_trace (run w (plain (go ms r p)) regs s) ≡ k vs (bare s)

record CallGoes (w : Worth) (inline : Inline) (calls : Calls) : Type 0 where
  on : (f : List ℕ) (ms : List (Meaning ℕ)) (vs : List (Meaning Rational)) (regs : List Rational) (r p : ℕ) (s : State) → AgreeAll regs ms vs → r ≡ length regs → p ≡ length s.board.pieces
      → (go : List (Meaning ℕ) → ℕ → ℕ → Marked) (k : List (Meaning Rational) → RunState → ProgramEnd) → Returns w regs go k
      → without_trace (run w (plain (inline f ms r p go)) regs s) ≡ calls f vs (bare s) k

goes_later : {w : Worth} {base next : List Rational} {go : Then} {k : After} → Extends base next → Goes w base go k → Goes w next go k
goes_later ext g = record { on = λ regs names env r p s e fit. g.on regs names env r p s (extends_through ext e) fit }

-- a run that is stuck
halted_same : (at : Side) (last : Choice) (s : State) (ys : List CutAnswer) → without_trace (core.ended (core.Stuck at (chosen (last ∷ []) s)) ys) ≡ unless_more ys (Stuck at s.board)
halted_same at last s [] = refl
halted_same at last s (y ∷ ys) = refl

cut_same : (a p : ℕ) (amount : Rational) (s : State) (go : State → Ending) (k : RunState → ProgramEnd) → ((t : State) → length t.board.pieces ≡ length s.board.pieces + 2 → without_trace (go t) ≡ k (bare t))
    → (c : Cutting) → without_trace (core.past_cut a p amount go s c) ≡ program.after_cut a p amount k (bare s) c
cut_same a p amount s go k h (Halts at) = halted_same at (stuck_choice at) s s.answers
cut_same a p amount s go k h Short = refl
cut_same a p amount s go k h Wrong = refl
cut_same a p amount s go k h (Halves before left right y ys) =
    h (record { board = cut_on a p amount y left right s.board; answers = ys; trace = s.trace ++ passed before })
    (length-append (slice_set s.board.pieces p []) (left ∷ right ∷ []) ∙ ap (λ n. n + 2) (length-set s.board.pieces p []))

chosen_same : (b : Bool) (one other : Ending) (x y : ProgramEnd) → without_trace one ≡ x → without_trace other ≡ y → without_trace (cond b one other) ≡ cond b x y
chosen_same true one other x y e f = e
chosen_same false one other x y e f = f

tested : (compares : Rational → Rational → Bool) (a b u v : Rational) (one other : Ending) (x y : ProgramEnd) → a ≡ u → b ≡ v → without_trace one ≡ x → without_trace other ≡ y → without_trace (cond (compares a b) one other) ≡ cond (compares u v) x y
tested compares a b u v one other x y e f h k =
    ap (λ (t : Rational). without_trace (cond (compares t b) one other)) e ∙ ap (λ (t : Rational). without_trace (cond (compares u t) one other)) f ∙ chosen_same (compares u v) one other x y h k

joined_length : (p q : ℕ) (b : Board) → length (join_on p q b).pieces ≡ length b.pieces + 1
joined_length p q b =
    length-append (slice_set (slice_set b.pieces p []) q []) ((piece_at b.pieces p ++ piece_at (slice_set b.pieces p []) q) ∷ [])
    ∙ ap (λ (n : ℕ). n + 1) (length-set (slice_set b.pieces p []) q [] ∙ length-set b.pieces p [])

pub count_pieces : {N : Type 0} (scope : Scope N) (xs : List Name) → count xs ≡ count (pieces_named scope xs)
count_pieces scope [] = refl
count_pieces scope (x ∷ xs) = ap (λ (n : ℕ). 1 + n) (count_pieces scope xs)

-- a test goes the way of the comparison
test_same : (w : Worth) (c : Cmp) (l r : Lin) (at_yes at_no : Marked) (regs : List Rational) (s : State) (x y : ProgramEnd) (u v : Rational) → core.sum_value regs l.terms ≡ u → core.sum_value regs r.terms ≡ v
    → without_trace (run w (plain at_yes) regs (chosen (choice.Yes ∷ []) s)) ≡ x → without_trace (run w (plain at_no) regs (chosen (choice.No ∷ []) s)) ≡ y
    → without_trace (run w (plain (test c l r at_yes at_no)) regs s) ≡ cond (compares c u v) x y
test_same w cmp.Less l r at_yes at_no regs s x y u v e f h k = tested (λ a b. below a b) _ _ u v _ _ x y e f h k
test_same w cmp.AtMost l r at_yes at_no regs s x y u v e f h k = tested (λ a b. at_most a b) _ _ u v _ _ x y e f h k
test_same w cmp.More l r at_yes at_no regs s x y u v e f h k = tested (λ a b. below b a) _ _ u v _ _ x y e f h k
test_same w cmp.AtLeast l r at_yes at_no regs s x y u v e f h k = tested (λ a b. at_most b a) _ _ u v _ _ x y e f h k

arg_value_same : (w : Worth) (env : Env) (b c : Board) → b.pieces ≡ c.pieces → (x : Arg) → arg_value w env b x ≡ arg_value w env c x
arg_value_same w env b c e (arg.Agent a) = refl
arg_value_same w env b c e (arg.Piece x) = refl
arg_value_same w env b c e (arg.Number n) = ap (λ v. ANumber v) (sum_same w env b c e n.terms)

arg_values_same : (w : Worth) (env : Env) (b c : Board) → b.pieces ≡ c.pieces → (xs : List Arg) → arg_values w env b xs ≡ arg_values w env c xs
arg_values_same w env b c e [] = refl
arg_values_same w env b c e (x ∷ xs) = ap (λ v. v ∷ arg_values w env b xs) (arg_value_same w env b c e x) ∙ ap (λ vs. arg_value w env c x ∷ vs) (arg_values_same w env b c e xs)

args_pieces : (w : Worth) (env : Env) (xs : List Arg) (b : Board) → (args_asked w env xs b).pieces ≡ b.pieces
args_pieces w env [] b = refl
args_pieces w env (arg.Agent a ∷ xs) b = args_pieces w env xs b
args_pieces w env (arg.Piece x ∷ xs) b = args_pieces w env xs b
args_pieces w env (arg.Number n ∷ xs) b = args_pieces w env xs (terms_asked w env n.terms b) ∙ terms_pieces w env n.terms b

-- what is done with arguments
record Args (w : Worth) (base : List Rational) (go : List (Meaning ℕ) → ℕ → Marked) (vs : List (Meaning Rational)) (t : State) (end : ProgramEnd) : Type 0 where
  on : (regs : List Rational) (ms : List (Meaning ℕ)) (r : ℕ) → Extends base regs → AgreeAll regs ms vs → r ≡ length regs → without_trace (run w (plain (go ms r)) regs t) ≡ end

run_args : (w : Worth) (xs : List Arg) (names : Names) (env : Env) (regs : List Rational) (s : State) (r : ℕ) → Agree regs names env → r ≡ length regs
    → (go : List (Meaning ℕ) → ℕ → Marked) (end : ProgramEnd) → Args w regs go (arg_values w env s.board xs) (with_board (args_asked w env xs s.board) s) end
    → without_trace (run w (plain (args_set names xs r go)) regs s) ≡ end
run_args w [] names env regs s r h e go end k = k.on regs [] r (extends_all regs) tt e
run_args w (arg.Agent a ∷ xs) names env regs s r h e go end k =
    run_args w xs names env regs s r h e _ end (record {
      on = λ more ms q ext same len.
          k.on more (AnAgent (agent_at names a) ∷ ms) q ext (agent_same regs names env h a, same) len;
    })
run_args w (arg.Piece x ∷ xs) names env regs s r h e go end k =
    run_args w xs names env regs s r h e _ end (record {
      on = λ more ms q ext same len.
          k.on more (APiece (piece_named names x) ∷ ms) q ext (piece_same regs names env h x, same) len;
    })
run_args w (arg.Number n ∷ xs) names env regs s r h e go end k =
    let ts = n.terms in
    let q = r + asks_of ts in
    let mid = terms_regs w env ts s.board regs in
    let b = terms_asked w env ts s.board in
    let v = sum_value w env s.board ts in
    let all = mid ++ v ∷ [] in
    let grown = extends_through (terms_grow w env ts s.board regs) (extends_append mid (v ∷ [])) in
    let len : q ≡ length mid = terms_length w env ts s.board regs r e in
    let next = args_set names xs (q + 1) (λ ms i. go (ANumber q ∷ ms) i) in
    ap without_trace (run_asks w ts names env regs s r h (mark.Set q (sum_lin names r ts) next))
    ∙ ap (λ x. without_trace (run w (plain next) (mid ++ x ∷ []) (with_board b s))) (sum_is w ts names env regs mid s.board r e h (extends_all mid))
    ∙ run_args w xs names env all (with_board b s) (q + 1) (agree_later regs all grown names env h) (omega (arith, length-append mid (v ∷ []), len)) _ end
    (record {
      on = λ more ms i ext same l.
          k.on more (ANumber q ∷ ms) i (extends_through grown ext)
          (ext.kept q v (get_last mid v q len), subst (λ (vs : List (Meaning Rational)). AgreeAll more ms vs) (arg_values_same w env b s.board (terms_pieces w env ts s.board) xs) same) l;
    })

module _ (w : Worth) (inline : Inline) (calls : Calls) (cg : CallGoes w inline calls) where
  keeps : (c : Code) (regs : List Rational) (names : Names) (env : Env) (r p : ℕ) (s : State) → Fit regs names env r p s → (go : Then) (k : After) → Goes w regs go k
      → without_trace (run w (plain (expand inline c names r p go)) regs s) ≡ run_code w calls c env (bare s) k
  keeps code.End regs names env r p s fit go k g = g.on regs names env r p s (extends_all regs) fit
  keeps (code.Cut a x e left right rest) regs names env r p s fit go k g =
      let ts = e.terms in
      let mid = terms_regs w env ts s.board regs in
      let t = with_board (terms_asked w env ts s.board) s in
      let grown = terms_grow w env ts s.board regs in
      let same = terms_pieces w env ts s.board in
      let new = length s.board.pieces in
      let inner = bound right (APiece (p + 1)) (bound left (APiece p) names) in
      let outer = bound right (APiece (new + 1)) (bound left (APiece new) env) in
      let next = expand inline rest inner (r + asks_of ts) (p + 2) go in
      let i = agent_at env a in
      let x' = piece_named env x in
      let v = sum_value w env s.board ts in
      ap without_trace (run_asks w ts names env regs s r fit.agree _)
      ∙ ap (λ (j : ℕ). without_trace (core.cut_at (w j) j (piece_named names x) (core.sum_value mid (sum_lin names r ts).terms) (run w (plain next) mid) t)) (agent_same regs names env fit.agree a)
      ∙ ap (λ (j : ℕ). without_trace (core.cut_at (w i) i j (core.sum_value mid (sum_lin names r ts).terms) (run w (plain next) mid) t)) (piece_same regs names env fit.agree x)
      ∙ ap (λ (q : Rational). without_trace (core.cut_at (w i) i x' q (run w (plain next) mid) t)) (sum_is w ts names env regs mid s.board r fit.reg fit.agree (extends_all mid))
      ∙ cut_same i x' v t (run w (plain next) mid) (λ u. run_code w calls rest outer u k) (λ u len.
      keeps rest mid inner outer (r + asks_of ts) (p + 2) u
      (record { agree = (refl, ap (λ (j : ℕ). j + 1) fit.made, (refl, fit.made, agree_later regs mid grown names env fit.agree)); reg = terms_length w env ts s.board regs r fit.reg; made = omega (arith, len, ap (λ (ps : List Piece). length ps) same, fit.made) })
      go k (goes_later grown g))
      (cutting (w i) (piece_at t.board.pieces x') v s.answers)
      ∙ ap (λ (ps : List Piece). program.after_cut i x' v (λ u. run_code w calls rest outer u k) (bare t) (cutting (w i) (piece_at ps x') v s.answers)) same
  keeps (code.Let x e rest) regs names env r p s fit go k g =
      let ts = e.terms in
      let q = r + asks_of ts in
      let mid = terms_regs w env ts s.board regs in
      let t = with_board (terms_asked w env ts s.board) s in
      let v = sum_value w env s.board ts in
      let all = mid ++ v ∷ [] in
      let grown = extends_through (terms_grow w env ts s.board regs) (extends_append mid (v ∷ [])) in
      let len : q ≡ length mid = terms_length w env ts s.board regs r fit.reg in
      let next = expand inline rest (bound x (ANumber q) names) (q + 1) p go in
      ap without_trace (run_asks w ts names env regs s r fit.agree _)
      ∙ ap (λ (y : Rational). without_trace (run w (plain next) (mid ++ y ∷ []) t)) (sum_is w ts names env regs mid s.board r fit.reg fit.agree (extends_all mid))
      ∙ keeps rest all (bound x (ANumber q) names) (bound x (ANumber v) env) (q + 1) p t
      (record { agree = (refl, get_last mid v q len, agree_later regs all grown names env fit.agree); reg = omega (arith, length-append mid (v ∷ []), len); made = fit.made ∙ sym (ap (λ (ps : List Piece). length ps) (terms_pieces w env ts s.board)) })
      go k (goes_later grown g)
  keeps (code.Join x y z rest) regs names env r p s fit go k g =
      let new = length s.board.pieces in
      let inner = bound z (APiece p) names in
      let next = expand inline rest inner r (p + 1) go in
      let t = with_board (join_on (piece_named env x) (piece_named env y) s.board) s in
      ap (λ (i : ℕ). without_trace (run w (plain next) regs (with_board (join_on i (piece_named names y) s.board) s))) (piece_same regs names env fit.agree x)
      ∙ ap (λ (i : ℕ). without_trace (run w (plain next) regs (with_board (join_on (piece_named env x) i s.board) s))) (piece_same regs names env fit.agree y)
      ∙ keeps rest regs inner (bound z (APiece new) env) r (p + 1) t
      (record { agree = (refl, fit.made, fit.agree); reg = fit.reg; made = omega (arith, fit.made, joined_length (piece_named env x) (piece_named env y) s.board) }) go k g
  keeps (code.Give x a rest) regs names env r p s fit go k g =
      let next = expand inline rest names r p go in
      let t = with_board (give_on (piece_named env x) (agent_at env a) s.board) s in
      ap (λ (i : ℕ). without_trace (run w (plain next) regs (with_board (give_on i (agent_at names a) s.board) s))) (piece_same regs names env fit.agree x)
      ∙ ap (λ (i : ℕ). without_trace (run w (plain next) regs (with_board (give_on (piece_named env x) i s.board) s))) (agent_same regs names env fit.agree a)
      ∙ keeps rest regs names env r p t (record { agree = fit.agree; reg = fit.reg; made = fit.made ∙ sym (length-set s.board.pieces (piece_named env x) []) }) go k g
  keeps (code.If left c right one ys other zs xs at rest) regs names env r p s fit go k g =
      let ls = left.terms in
      let rs = right.terms in
      let q = r + asks_of ls in
      let b1 = terms_asked w env ls s.board in
      let s1 = with_board b1 s in
      let r1 = terms_regs w env ls s.board regs in
      let b2 = terms_asked w env rs b1 in
      let s2 = with_board b2 s in
      let r2 = terms_regs w env rs b1 r1 in
      let grown1 = terms_grow w env ls s.board regs in
      let grown2 = terms_grow w env rs b1 r1 in
      let grown = extends_through grown1 grown2 in
      let agree1 = agree_later regs r1 grown1 names env fit.agree in
      let agree2 = agree_later r1 r2 grown2 names env agree1 in
      let len1 : q ≡ length r1 = terms_length w env ls s.board regs r fit.reg in
      let len2 = terms_length w env rs b1 r1 q len1 in
      let made = fit.made ∙ sym (ap (λ (ps : List Piece). length ps) (terms_pieces w env rs b1 ∙ terms_pieces w env ls s.board)) in
      let go_on : List Name → Then = λ yields. λ inner t u. expand inline rest (bind xs (looks inner yields) names) t u go in
      let k_on : List Name → After = λ yields. λ inner u. run_code w calls rest (bind xs (looks inner yields) env) u k in
      let later : (yields : List Name) → Goes w r2 (go_on yields) (k_on yields) = λ yields. record {
        on = λ more inner outer t u end ext f.
            keeps rest more (bind xs (looks inner yields) names) (bind xs (looks outer yields) env) t u end
            (record { agree = bind_same more xs _ _ names env (looks_same more inner outer f.agree yields) (agree_later regs more (extends_through grown ext) names env fit.agree); reg = f.reg; made = f.made }) go k (goes_later (extends_through grown ext) g);
      } in
      ap without_trace (run_asks w ls names env regs s r fit.agree _ ∙ run_asks w rs names env r1 s1 q agree1 _)
      ∙ test_same w c (sum_lin names r ls) (sum_lin names q rs) _ _ r2 s2 _ _ _ _
      (sum_is w ls names env regs r2 s.board r fit.reg fit.agree grown2)
      (sum_is w rs names env r1 r2 b1 q len1 agree1 (extends_all r2) ∙ sum_same w env b1 s.board (terms_pieces w env ls s.board) rs)
      (keeps one r2 names env (q + asks_of rs) p (chosen (choice.Yes ∷ []) s2) (record { agree = agree2; reg = len2; made = made }) (go_on ys) (k_on ys) (later ys))
      (keeps other r2 names env (q + asks_of rs) p (chosen (choice.No ∷ []) s2) (record { agree = agree2; reg = len2; made = made }) (go_on zs) (k_on zs) (later zs))
  keeps (code.Pick a xs ys at rest) regs names env r p s fit go k g =
      let ps = pieces_named env xs in
      let i = agent_at env a in
      let v : ℕ → Rational = λ n. worth_on w i n s.board in
      let mid = all_regs w i ps s.board regs in
      let t = with_board (all_asked w i ps s.board) s in
      let grown = all_grow w i ps s.board regs in
      let go_on = λ (qs : List ℕ). expand inline rest (bind ys (as_pieces qs) names) (r + count xs) p go in
      let end = λ (qs : List ℕ). run_code w calls rest (bind ys (as_pieces qs) env) (bare t) k in
      let len : r + count xs ≡ length mid = ap (λ (n : ℕ). r + n) (count_pieces env xs) ∙ all_length w i ps s.board regs r fit.reg in
      let ends : Ends w mid (bare t) go_on end = record {
        on = λ qs u e.
            keeps rest mid (bind ys (as_pieces qs) names) (bind ys (as_pieces qs) env) (r + count xs) p u
            (record { agree = bind_same mid ys _ _ names env (as_pieces_same mid qs) (agree_later regs mid grown names env fit.agree); reg = len; made = fit.made ∙ sym (ap (λ (qs : List Piece). length qs) (all_pieces w i ps s.board)) ∙ sym (ap (λ (x : RunState). length x.board.pieces) e) }) go k (goes_later grown g)
            ∙ ap (λ (x : RunState). run_code w calls rest (bind ys (as_pieces qs) env) x k) e;
      } in
      ap (λ (qs : List ℕ). without_trace (run w (plain (offer_asks (agent_at names a) (offers r qs) (contest_all (offers r qs) go_on))) regs s)) (pieces_same regs names env fit.agree xs)
      ∙ ap (λ (j : ℕ). without_trace (run w (plain (offer_asks j (offers r ps) (contest_all (offers r ps) go_on))) regs s)) (agent_same regs names env fit.agree a)
      ∙ ap without_trace (run_offers w i ps regs s r (contest_all (offers r ps) go_on))
      ∙ run_contest_all w mid v (bare t) go_on end ends (offers r ps) (offers_held w i ps s.board regs r fit.reg) t refl
      ∙ ap (λ (qs : List ℕ). end (picked v qs)) (offered_is r ps)
  keeps (code.Call f xs ys at rest) regs names env r p s fit go k g =
      let vs = arg_values w env s.board xs in
      let t = with_board (args_asked w env xs s.board) s in
      let k_on = λ (us : List (Meaning Rational)) (u : RunState). run_code w calls rest (bind ys us env) u k in
      run_args w xs names env regs s r fit.agree fit.reg _ (calls f.word vs (bare t) k_on) (record {
        on = λ more ms q ext same len.
            cg.on f.word ms vs more q p t same len (fit.made ∙ sym (ap (λ (ps : List Piece). length ps) (args_pieces w env xs s.board))) _ k_on
            (record {
              on = λ last ms' us i j u ext' same' len' made'.
                  keeps rest last (bind ys ms' names) (bind ys us env) i j u
                  (record { agree = bind_same last ys ms' us names env same' (agree_later regs last (extends_through ext ext') names env fit.agree); reg = len'; made = made' }) go k (goes_later (extends_through ext ext') g);
            });
      })

call_one : (w : Worth) (d : PlainProc) (inline : Inline) (calls : Calls) → CallGoes w inline calls → CallGoes w (inline_with d inline) (calls_with w d calls)
call_one w d inline calls cg = record {
  on = λ f ms vs regs r p s same len made go k h.
      either (bytes_eq d.name.word f) _ _ regs s _ _
      (keeps w inline calls cg d.body.code regs (bind (param_names d.params) ms []) (bind (param_names d.params) vs []) r p s
      (record { agree = bind_same regs (param_names d.params) ms vs [] [] same tt; reg = len; made = made }) _ _
      (record { on = λ more names env q u t ext fit. h.on more _ _ q u t ext (looks_same more names env fit.agree d.body.yields) fit.reg fit.made }))
      (cg.on f ms vs regs r p s same len made go k h);
}
  where
    either : (b : Bool) (one other : Marked) (regs : List Rational) (s : State) (x y : ProgramEnd) → without_trace (run w (plain one) regs s) ≡ x → without_trace (run w (plain other) regs s) ≡ y → without_trace (run w (plain (cond b one other)) regs s) ≡ cond b x y
    either true one other regs s x y e h = e
    either false one other regs s x y e h = h

call_none : (w : Worth) → CallGoes w no_inline no_calls
call_none w = record { on = λ f ms vs regs r p s same len made go k h. h.on regs [] [] r p s (extends_all regs) tt len made }

call_all : (w : Worth) (ds : List PlainProc) (inline : Inline) (calls : Calls) → CallGoes w inline calls → CallGoes w (inline_after inline ds) (calls_after w calls ds)
call_all w [] inline calls cg = cg
call_all w (d ∷ ds) inline calls cg = call_all w ds (inline_with d inline) (calls_with w d calls) (call_one w d inline calls cg)

done_same : (s : State) (ys : List CutAnswer) → without_trace (core.ended (core.Done s) ys) ≡ unless_more ys (program.Done s.board)
done_same s [] = refl
done_same s (y ∷ ys) = refl

pub run_is_kept : RunIsKept
run_is_kept w p n ys =
    keeps w (inline_after no_inline p.procs) (calls_after w no_calls p.procs) (call_all w p.procs no_inline no_calls (call_none w)) p.body [] first_scope first_scope 0 1 (start p.agents.value n ys)
    (record { agree = (refl, refl, tt); reg = refl; made = refl }) _ _
    (record { on = λ regs names env r u s ext fit. done_same s s.answers })
