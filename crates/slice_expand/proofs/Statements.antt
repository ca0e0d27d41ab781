-- What statements come to where expansion stands.
use Rattle.std.proofs.Common.{◌≡◌, ℕ, ◌+◌, ◌<◌, None, List, [], ◌∷◌, ◌++◌, refl, ap, sym, subst, ◌∙◌, arith, append_assoc, append-nil, length-append}
use Rattle.slice_ast.specs.Code.{PlainProc, Head, ACut, ALet, AJoin, AGive, ACall}
use Rattle.slice_ast.specs.declared.tree.Name.{Name}
use Rattle.slice_ast.specs.declared.tree.AgentRef.{AgentRef}
use Rattle.slice_ast.specs.declared.tree.Sum.{Sum}
use Rattle.slice_ast.specs.declared.tree.Arg.{Arg}
use Rattle.slice_ast.specs.declared.tree.Arg.TheVariants as arg
use Rattle.slice_expand.specs.declared.fault.ExpandFault.{ExpandFault}
use Rattle.slice_expand.specs.Scope.{Meaning, AnAgent, APiece, ANumber, bind, looks, agent_at, piece_named}
use Rattle.slice_expand.specs.ProgramRun.{param_names}
use Rattle.slice_expand.specs.Marked.{Marked}
use Rattle.slice_expand.specs.Marked as mark
use Rattle.slice_expand.specs.Expansion.{Names, Then, expand, no_inline, inline_after, inlined, args_set, sum_lin}
use Rattle.slice_expand.specs.Trail.{PlainTrail, Building, Good, Made, FaultIs, and_then, build, called, set, terms_in, args_onto, args_in, call_in, cut_in, let_in, join_in, give_in}
use Rattle.slice_expand.specs.Frames.{Rest, rest_from, rest_end, Spot, build_at, with_head, moved, inside_call}
use Rattle.slice_expand.proofs.Builds.{and_then_assoc, and_then_same, terms_built, set_built, call_built, cut_done, let_done, join_done, give_done}
use Rattle.slice_expand.proofs.Spotted.{rest_last}
use Rattle.slice_expand.proofs.Grown.{CalledOnce, Deeper, cut_grown, let_grown, join_grown, give_grown}
use Rattle.slice_expand.specs.Spots.{Called, Taken, Later, left_of}

-- a fault on the way is the whole's fault
pub fault_on : {A B : Type 0} (e : ExpandFault) (x : Building A) (f : A → Building B) (whole : Building B) → whole ≡ and_then x f → FaultIs e x → FaultIs e whole
fault_on ExpandFault.NodeLimit x f whole is h = is ∙ ap (λ y. and_then y f) h
fault_on ExpandFault.DepthLimit x f whole is h = is ∙ ap (λ y. and_then y f) h
fault_on ExpandFault.CutLimit x f whole is h = is ∙ ap (λ y. and_then y f) h
fault_on ExpandFault.CallLimit x f whole is h = is ∙ ap (λ y. and_then y f) h
fault_on ExpandFault.Memory x f whole is h = tt

pub fault_same : {A : Type 0} (e : ExpandFault) (x y : Building A) → y ≡ x → FaultIs e x → FaultIs e y
fault_same e x y is h = subst (λ (z : Building _). FaultIs e z) (sym is) h

-- what comes after the statements of the innermost block
abbrev pub then_at : Spot → Then
then_at s = λ names r p. rest_from rest_end s.outer s.top.targets (looks names s.top.yields) r p

-- a statement with no arms
straight_at : (h : Head) (x : Building (Names × PlainTrail)) (s : Spot) → build_at (with_head h s) ≡ and_then x (λ o. build_at (moved o s)) → (o : Names × PlainTrail) → x ≡ Good o → build_at (with_head h s) ≡ build_at (moved o s)
straight_at h x s e o g = e ∙ ap (λ y. and_then y (λ o. build_at (moved o s))) g

pub cut_at : (s : Spot) (a : AgentRef) (x : Name) (e : Sum) (l r : Name) → build_at (with_head (ACut a x e l r) s) ≡ and_then (cut_in a x e l r s.top.names s.trail) (λ o. build_at (moved o s))
cut_at s a x e l r = cut_done (inline_after no_inline s.top.procs) a x e l r s.top.code s.top.names s.trail (then_at s)

pub let_at : (s : Spot) (x : Name) (e : Sum) → build_at (with_head (ALet x e) s) ≡ and_then (let_in x e s.top.names s.trail) (λ o. build_at (moved o s))
let_at s x e = let_done (inline_after no_inline s.top.procs) x e s.top.code s.top.names s.trail (then_at s)

pub join_at : (s : Spot) (x y z : Name) → build_at (with_head (AJoin x y z) s) ≡ and_then (join_in x y z s.top.names s.trail) (λ o. build_at (moved o s))
join_at s x y z = join_done (inline_after no_inline s.top.procs) x y z s.top.code s.top.names s.trail (then_at s)

pub give_at : (s : Spot) (x : Name) (a : AgentRef) → build_at (with_head (AGive x a) s) ≡ and_then (give_in x a s.top.names s.trail) (λ o. build_at (moved o s))
give_at s x a = give_done (inline_after no_inline s.top.procs) x a s.top.code s.top.names s.trail (then_at s)

-- ---- calls

-- what follows the arguments
abbrev pub Given : Type 0
Given = List (Meaning ℕ) → (r p : ℕ) → Marked

abbrev pub given_then : Given → List (Meaning ℕ) × PlainTrail → Building Made
given_then go o = build (go o.0 o.1.regs o.1.pieces) o.1

args_built : (ms : List (Meaning ℕ)) (names : Names) (xs : List Arg) (t : PlainTrail) (go : Given)
    → build (args_set names xs t.regs (λ us q. go (ms ++ us) q t.pieces)) t ≡ and_then (args_onto ms names xs t) (given_then go)
args_built ms names [] t go = ap (λ us. build (go us t.regs t.pieces) t) (append-nil ms)
args_built ms names (arg.Agent a ∷ xs) t go =
    let m = AnAgent (agent_at names a) in
    (λ i. build (args_set names xs t.regs (λ us q. go (sym (append_assoc ms (m ∷ []) us) i) q t.pieces)) t)
    ∙ args_built (ms ++ m ∷ []) names xs t go
args_built ms names (arg.Piece x ∷ xs) t go =
    let m = APiece (piece_named names x) in
    (λ i. build (args_set names xs t.regs (λ us q. go (sym (append_assoc ms (m ∷ []) us) i) q t.pieces)) t)
    ∙ args_built (ms ++ m ∷ []) names xs t go
args_built ms names (arg.Number e ∷ xs) t go =
    let lin = sum_lin names t.regs e.terms in
    let asked = terms_in names e.terms t in
    let one : PlainTrail → Building (Meaning ℕ × PlainTrail) = λ u. and_then (set lin u) (λ v. Good (ANumber u.regs, v)) in
    let more : Meaning ℕ × PlainTrail → Building (List (Meaning ℕ) × PlainTrail) = λ o. args_onto (ms ++ o.0 ∷ []) names xs o.1 in
    let last : Meaning ℕ × PlainTrail → Building Made = λ o. and_then (more o) (given_then go) in
    terms_built names e.terms t (λ r q. mark.Set r lin (args_set names xs (r + 1) (λ us s. go (ms ++ ANumber r ∷ us) s q)))
    ∙ and_then_same asked _ (λ u. and_then (one u) last) (λ u.
    set_built lin u (λ r q. args_set names xs r (λ us s. go (ms ++ ANumber u.regs ∷ us) s q))
    ∙ and_then_same (set lin u) _ (λ v. last (ANumber u.regs, v)) (λ v.
    (λ i. build (args_set names xs v.regs (λ us q. go (sym (append_assoc ms (ANumber u.regs ∷ []) us) i) q v.pieces)) v)
    ∙ args_built (ms ++ ANumber u.regs ∷ []) names xs v go)
    ∙ sym (and_then_assoc (set lin u) (λ v. Good (ANumber u.regs, v)) last))
    ∙ sym (and_then_assoc asked one last)
    ∙ sym (and_then_assoc (and_then asked one) more (given_then go))

-- the procedure of a name in place of its call
abbrev pub called_then : Spot → List Name → Name → Given
called_then s ys f ms q p =
    inline_after no_inline s.top.procs f.word ms q p (λ yields r u. expand (inline_after no_inline s.top.procs) s.top.code (bind ys yields s.top.names) r u (then_at s))

pub call_done : (s : Spot) (f : Name) (xs : List Arg) (ys : List Name) (at : ℕ)
    → build_at (with_head (ACall f xs ys at) s) ≡ and_then (call_in s.top.names xs s.trail) (given_then (called_then s ys f))
call_done s f xs ys at =
    call_built s.trail (λ r p. args_set s.top.names xs r (λ ms q. called_then s ys f ms q p))
    ∙ and_then_same (called s.trail) _ _ (λ u. args_built [] s.top.names xs u (called_then s ys f))
    ∙ sym (and_then_assoc (called s.trail) (args_in s.top.names xs) (given_then (called_then s ys f)))

bind_none : (ys : List Name) (names : Names) → bind ys [] names ≡ names
bind_none [] names = refl
bind_none (y ∷ ys) names = refl

-- nothing is called
pub call_none : (s : Spot) (f : Name) (xs : List Arg) (ys : List Name) (at : ℕ) (o : List (Meaning ℕ) × PlainTrail) → call_in s.top.names xs s.trail ≡ Good o
    → inline_after no_inline s.top.procs f.word ≡ no_inline f.word → build_at (with_head (ACall f xs ys at) s) ≡ build_at (moved (s.top.names, o.1) s)
call_none s f xs ys at o e h =
    call_done s f xs ys at ∙ ap (λ x. and_then x (given_then (called_then s ys f))) e
    ∙ ap (λ (i : List (Meaning ℕ) → ℕ → ℕ → Given → Marked). build (i o.0 o.1.regs o.1.pieces (λ yields r u. expand (inline_after no_inline s.top.procs) s.top.code (bind ys yields s.top.names) r u (then_at s))) o.1) h
    ∙ ap (λ names. build (expand (inline_after no_inline s.top.procs) s.top.code names o.1.regs o.1.pieces (then_at s)) o.1) (bind_none ys s.top.names)

-- a procedure is called
pub call_some : (s : Spot) (f : Name) (xs : List Arg) (ys : List Name) (at : ℕ) (o : List (Meaning ℕ) × PlainTrail) (d : PlainProc) (earlier : List PlainProc) → call_in s.top.names xs s.trail ≡ Good o
    → inline_after no_inline s.top.procs f.word ≡ inlined d (inline_after no_inline earlier) → build_at (with_head (ACall f xs ys at) s) ≡ build_at (inside_call d earlier o.0 ys (moved (s.top.names, o.1) s))
call_some s f xs ys at o d earlier e h =
    call_done s f xs ys at ∙ ap (λ x. and_then x (given_then (called_then s ys f))) e
    ∙ ap (λ (i : List (Meaning ℕ) → ℕ → ℕ → Given → Marked). build (i o.0 o.1.regs o.1.pieces (λ yields r u. expand (inline_after no_inline s.top.procs) s.top.code (bind ys yields s.top.names) r u (then_at s))) o.1) h
    ∙ ap (λ (rest : Rest). build (expand (inline_after no_inline earlier) d.body.code (bind (param_names d.params) o.0 []) o.1.regs o.1.pieces (λ names r u. rest ys (looks names d.body.yields) r u)) o.1) (sym (rest_last rest_end s.outer s.top))

pub call_fault : (s : Spot) (f : Name) (xs : List Arg) (ys : List Name) (at : ℕ) (e : ExpandFault) → FaultIs e (call_in s.top.names xs s.trail) → FaultIs e (build_at (with_head (ACall f xs ys at) s))
call_fault s f xs ys at e h = fault_on e (call_in s.top.names xs s.trail) (given_then (called_then s ys f)) (build_at (with_head (ACall f xs ys at) s)) (call_done s f xs ys at) h

-- the counts inside a call
pub called_inside : (s new : Spot) (d : PlainProc) (earlier : List PlainProc) (ms : List (Meaning ℕ)) (ys : List Name) (t : PlainTrail) → CalledOnce s.trail t → new ≡ inside_call d earlier ms ys (moved (s.top.names, t) s) → Called s new
called_inside s new d earlier ms ys t h e =
    subst (λ (x : Spot). Called s x) (sym e) (record { calls = h.calls; most = h.most; deeper = h.deeper; within = h.within; outer = omega (arith, length-append s.outer (s.top ∷ [])) })

-- ---- statements that are done

moved_left : (o : Names × PlainTrail) (s : Spot) → Deeper s.trail o.1 → left_of (moved o s) < left_of s
moved_left o s h = omega (arith, h.deeper, h.within, h.calls)

moved_later : (o : Names × PlainTrail) (s : Spot) → Deeper s.trail o.1 → Later s (moved o s)
moved_later o s h = record { deeper = omega (arith, h.deeper); within = λ k. h.within }

taken_by : (h : Head) (x : Building (Names × PlainTrail)) (s : Spot) (o : Names × PlainTrail) → build_at (with_head h s) ≡ and_then x (λ o. build_at (moved o s)) → x ≡ Good o → Deeper s.trail o.1 → Taken None h s (moved o s)
taken_by h x s o e g d = (moved_later o s d, straight_at h x s e o g, moved_left o s d)

pub cut_taken : (s : Spot) (h : Head) (a : AgentRef) (x : Name) (e : Sum) (l r : Name) (o : Names × PlainTrail) → h ≡ ACut a x e l r → cut_in a x e l r s.top.names s.trail ≡ Good o → Taken None h s (moved o s)
cut_taken s h a x e l r o is g = subst (λ (k : Head). Taken None k s (moved o s)) (sym is) (taken_by (ACut a x e l r) _ s o (cut_at s a x e l r) g (cut_grown a x e l r s.top.names s.trail o g))

pub let_taken : (s : Spot) (h : Head) (x : Name) (e : Sum) (o : Names × PlainTrail) → h ≡ ALet x e → let_in x e s.top.names s.trail ≡ Good o → Taken None h s (moved o s)
let_taken s h x e o is g = subst (λ (k : Head). Taken None k s (moved o s)) (sym is) (taken_by (ALet x e) _ s o (let_at s x e) g (let_grown x e s.top.names s.trail o g))

pub join_taken : (s : Spot) (h : Head) (x y z : Name) (o : Names × PlainTrail) → h ≡ AJoin x y z → join_in x y z s.top.names s.trail ≡ Good o → Taken None h s (moved o s)
join_taken s h x y z o is g = subst (λ (k : Head). Taken None k s (moved o s)) (sym is) (taken_by (AJoin x y z) _ s o (join_at s x y z) g (join_grown x y z s.top.names s.trail o g))

pub give_taken : (s : Spot) (h : Head) (x : Name) (a : AgentRef) (o : Names × PlainTrail) → h ≡ AGive x a → give_in x a s.top.names s.trail ≡ Good o → Taken None h s (moved o s)
give_taken s h x a o is g = subst (λ (k : Head). Taken None k s (moved o s)) (sym is) (taken_by (AGive x a) _ s o (give_at s x a) g (give_grown x a s.top.names s.trail o g))

pub cut_fault : (s : Spot) (h : Head) (a : AgentRef) (x : Name) (e : Sum) (l r : Name) (f : ExpandFault) → h ≡ ACut a x e l r → FaultIs f (cut_in a x e l r s.top.names s.trail) → FaultIs f (build_at (with_head h s))
cut_fault s h a x e l r f is k = fault_on f (cut_in a x e l r s.top.names s.trail) (λ o. build_at (moved o s)) (build_at (with_head h s)) (ap (λ (g : Head). build_at (with_head g s)) is ∙ cut_at s a x e l r) k

pub let_fault : (s : Spot) (h : Head) (x : Name) (e : Sum) (f : ExpandFault) → h ≡ ALet x e → FaultIs f (let_in x e s.top.names s.trail) → FaultIs f (build_at (with_head h s))
let_fault s h x e f is k = fault_on f (let_in x e s.top.names s.trail) (λ o. build_at (moved o s)) (build_at (with_head h s)) (ap (λ (g : Head). build_at (with_head g s)) is ∙ let_at s x e) k

pub join_fault : (s : Spot) (h : Head) (x y z : Name) (f : ExpandFault) → h ≡ AJoin x y z → FaultIs f (join_in x y z s.top.names s.trail) → FaultIs f (build_at (with_head h s))
join_fault s h x y z f is k = fault_on f (join_in x y z s.top.names s.trail) (λ o. build_at (moved o s)) (build_at (with_head h s)) (ap (λ (g : Head). build_at (with_head g s)) is ∙ join_at s x y z) k

pub give_fault : (s : Spot) (h : Head) (x : Name) (a : AgentRef) (f : ExpandFault) → h ≡ AGive x a → FaultIs f (give_in x a s.top.names s.trail) → FaultIs f (build_at (with_head h s))
give_fault s h x a f is k = fault_on f (give_in x a s.top.names s.trail) (λ o. build_at (moved o s)) (build_at (with_head h s)) (ap (λ (g : Head). build_at (with_head g s)) is ∙ give_at s x a) k

pub call_taken : (s new : Spot) (h : Head) (f : Name) (xs : List Arg) (ys : List Name) (at : ℕ) → h ≡ ACall f xs ys at → build_at (with_head (ACall f xs ys 0) s) ≡ build_at new → Called s new → Taken None h s new
call_taken s new h f xs ys at is e c =
    (record { deeper = c.deeper; within = c.within }, ap (λ (g : Head). build_at (with_head g s)) is ∙ e, omega (arith, c.calls, c.most, c.deeper, c.within, c.outer))
