-- The procedure that a call finds, and its parameters.
use Rattle.std.proofs.Common.{◌≡◌, ℕ, zero, suc, min, drop, take, ◌+◌, ◌-◌, ◌<◌, ◌≤◌, true, false, cond, arith, length, slice_index_or, map, List, [], ◌∷◌, ◌++◌, refl, ap, sym, subst, ◌∙◌}
use Rattle.std.specs.Str.{bytes_eq}
use Rattle.std.proofs.lemmas.List.{take_more}
use Rattle.std.proofs.lemmas.List.{map-append}
use Rattle.slice_ast.specs.Code.{PlainProc}
use Rattle.slice_ast.specs.View.{proc_of}
use Rattle.slice_ast.specs.declared.tree.Proc.{Proc}
use Rattle.slice_ast.specs.declared.tree.Param.{Param}
use Rattle.slice_expand.specs.Scope.{Scope, bind}
use Rattle.slice_expand.specs.ProgramRun.{param_names}
use Rattle.slice_expand.specs.Expansion.{Inline, no_inline, inline_with, inline_after, inlined}
use Rattle.slice_expand.specs.Stand.{meanings_of}
use Rattle.slice_expand.specs.declared.names.Meaning as declared
use Rattle.slice_expand.proofs.Stands.{bind_over}

inline_last : (inline : Inline) (ds : List PlainProc) (d : PlainProc) → inline_after inline (ds ++ d ∷ []) ≡ inline_with d (inline_after inline ds)
inline_last inline [] d = refl
inline_last inline (c ∷ ds) d = inline_last (inline_with c inline) ds d

at_last : (ps : List Proc) (n : ℕ) (last : Proc) (f : List ℕ) → 0 < n → n ≤ length ps → last ≡ slice_index_or ps (n - 1) last
    → inline_after no_inline (map proc_of (take n ps)) f ≡ inline_with (proc_of last) (inline_after no_inline (map proc_of (take (n - 1) ps))) f
at_last ps n last f p h e =
    let one : n ≡ (n - 1) + 1 = omega arith in
    ap (λ k. inline_after no_inline (map proc_of (take k ps)) f) one
    ∙ ap (λ qs. inline_after no_inline (map proc_of qs) f) (take_more ps (n - 1) last (omega arith))
    ∙ ap (λ d. inline_after no_inline (map proc_of (take (n - 1) ps ++ d ∷ [])) f) (sym e)
    ∙ ap (λ qs. inline_after no_inline qs f) (map-append proc_of (take (n - 1) ps) (last ∷ []))
    ∙ ap (λ i. i f) (inline_last no_inline (map proc_of (take (n - 1) ps)) (proc_of last))

pub callee_found : (ps : List Proc) (n : ℕ) (last : Proc) (f : List ℕ) → 0 < n → n ≤ length ps → last ≡ slice_index_or ps (n - 1) last → bytes_eq last.name.word f ≡ true
    → inline_after no_inline (map proc_of (take n ps)) f ≡ inlined (proc_of last) (inline_after no_inline (map proc_of (take (n - 1) ps)))
callee_found ps n last f p h e t =
    let before = inline_after no_inline (map proc_of (take (n - 1) ps)) in
    at_last ps n last f p h e ∙ ap (λ b. λ args r q go. cond b (inlined (proc_of last) before args r q go) (before f args r q go)) t

pub callee_passed : (ps : List Proc) (n : ℕ) (last : Proc) (f : List ℕ) → 0 < n → n ≤ length ps → last ≡ slice_index_or ps (n - 1) last → bytes_eq last.name.word f ≡ false
    → inline_after no_inline (map proc_of (take n ps)) f ≡ inline_after no_inline (map proc_of (take (n - 1) ps)) f
callee_passed ps n last f p h e t =
    let before = inline_after no_inline (map proc_of (take (n - 1) ps)) in
    at_last ps n last f p h e ∙ ap (λ b. λ args r q go. cond b (inlined (proc_of last) before args r q go) (before f args r q go)) t

params_drop : (i : ℕ) (ps : List Param) → param_names (drop i ps) ≡ drop i (param_names ps)
params_drop zero ps = refl
params_drop (suc i) [] = refl
params_drop (suc i) (p ∷ ps) = params_drop i ps

params_length : (ps : List Param) → length (param_names ps) ≡ length ps
params_length [] = refl
params_length (p ∷ ps) = omega (arith, params_length ps)

pub params_over : (i : ℕ) (ps : List Param) (ms : List declared.Meaning) (scope : Scope ℕ) → min (length ps) (length ms) ≤ i → bind (param_names (drop i ps)) (meanings_of (drop i ms)) scope ≡ scope
params_over i ps ms scope h =
    ap (λ ns. bind ns (meanings_of (drop i ms)) scope) (params_drop i ps)
    ∙ bind_over i (param_names ps) ms scope (subst (λ (n : ℕ). min n (length ms) ≤ i) (sym (params_length ps)) h)
