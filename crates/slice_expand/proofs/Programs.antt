-- A program that was checked is clean, and its core is well formed.
use Rattle.std.proofs.Common.{◌≡◌, ◌∙◌, ℕ, ◌≤◌, ◌++◌, List, [], ◌∷◌, length, map, Bool, true, false, ◌&&◌, ◌==◌, cond, Option, Some, None, arith, refl, ap, sym, bytes_eq, is_some}
use Rattle.std.specs.Prelude.{⊤, if◌then◌else◌, nat_le, codes}
use Rattle.std.proofs.lemmas.Bool.Decides.{nat_tests}
use Rattle.slice_ast.specs.Code.{PlainProc, PlainProgram}
use Rattle.slice_ast.specs.declared.tree.Kind.{Kind}
use Rattle.slice_ast.specs.declared.tree.Kind.TheVariants as kind
use Rattle.slice_ast.specs.declared.tree.Name.{Name}
use Rattle.slice_ast.specs.declared.tree.Param.{Param}
use Rattle.slice_affine.specs.Conditions.{HasRisingPlaces}
use Rattle.slice_affine.specs.Scope.{entry, params_scope, cake_scope}
use Rattle.slice_affine.proofs.Scan.{Used, unused as none_used, Scanned, Fine, Bad, scan, and_then}
use Rattle.slice_affine.specs.Pass.{lesser}
use Rattle.slice_affine.specs.Ways.{Flow, Stop, Split}
use Rattle.slice_affine.specs.Looks.{rebound, fit, procedure}
use Rattle.slice_affine.specs.Rules.{block_flow, head_stage, count_stage, procs_flow, flow_of, MeetsRules}
use Rattle.slice_affine.specs.declared.fault.AffineFault.{AffineFault}
use Rattle.slice_affine.specs.declared.fault.AffineFault.TheVariants.{Rebound, ProcLimit, AgentRange}
use Rattle.slice_affine.proofs.ScanLemmas.{scan_bad}
use Rattle.slice_affine.proofs.SpanLemmas.{program_span}
use Rattle.slice_affine.proofs.MarkLemmas.{program_placed}
use Rattle.slice_expand.specs.CoreLaws.{CheckedCoresAreWellFormed}
use Rattle.slice_expand.proofs.Clean.{Unused, Spent, Sorts, bind_sorts, param_sorts, kind_sort, Spends, arg_sorts, Callable, Clean, no_callable, either, callable_with, callable_after, CleanProcs}
use Rattle.slice_expand.specs.ProgramRun.{param_names}
use Rattle.slice_expand.proofs.Agreed.{eq_is, is_eq, not_both, turned, Agrees, IsSort, entries, sorts_in, names_in, agrees_entries}
use Rattle.slice_expand.proofs.Lines.{none_left, unless_none, and_left, and_right, opened, split, spends}
use Rattle.slice_expand.proofs.Cleans.{CallsAgree, fit_sorts, clean_of}
use Rattle.slice_expand.proofs.LimitLaws.{small_core}
use Rattle.slice_expand.proofs.Numbers.{cores_are_numbered}
use Rattle.slice_expand.proofs.Singles.{cores_are_single_use}

-- ---- procedures
proc_here : (ps : List PlainProc) (q : PlainProc) → procedure ps q.name.word ≡ None → procedure (ps ++ q ∷ []) q.name.word ≡ Some q
proc_here [] q h = ap (λ b. cond b (Some q) None) (is_eq q.name.word q.name.word refl)
proc_here (p ∷ ps) q h = by (bytes_eq q.name.word p.name.word) h (proc_here ps q)
  where
    by : (b : Bool) → cond b (Some p) (procedure ps q.name.word) ≡ None → (procedure ps q.name.word ≡ None → procedure (ps ++ q ∷ []) q.name.word ≡ Some q)
        → cond b (Some p) (procedure (ps ++ q ∷ []) q.name.word) ≡ Some q
    by true k f = let bad : Some p ≡ None = k in absurd cc
    by false k f = f k

proc_other : (ps : List PlainProc) (q : PlainProc) (word : List ℕ) → bytes_eq word q.name.word ≡ false → procedure (ps ++ q ∷ []) word ≡ procedure ps word
proc_other [] q word h = ap (λ b. cond b (Some q) None) h
proc_other (p ∷ ps) q word h = ap (λ r. cond (bytes_eq word p.name.word) (Some p) r) (proc_other ps q word h)

abbrev proc_of : Option PlainProc → PlainProc → PlainProc
proc_of None q = q
proc_of (Some p) q = p

either_in : (b : Bool) (A B : Type 0) → (b ≡ true → A) → (b ≡ false → B) → either b A B
either_in true A B f g = f refl
either_in false A B f g = g refl

calls_more : (earlier : List PlainProc) (calls : Callable) (q : PlainProc) → CallsAgree earlier calls → procedure earlier q.name.word ≡ None → CallsAgree (earlier ++ q ∷ []) (callable_with q calls)
calls_more earlier calls q agree new word p xs m found fits many =
    either_in (bytes_eq q.name.word word) ((arg_sorts xs ≡ param_sorts q.params) × (m ≡ length q.body.yields)) (calls word (arg_sorts xs) m)
    (λ e.
    let same : Some q ≡ Some p = sym (proc_here earlier q new) ∙ ap (procedure (earlier ++ q ∷ [])) (eq_is q.name.word word e) ∙ found in
    let is : q ≡ p = ap (λ o. proc_of o q) same in
    (fit_sorts xs q.params (ap (λ (r : PlainProc). fit xs r.params) is ∙ fits), many ∙ sym (ap (λ (r : PlainProc). length r.body.yields) is)))
    (λ e. agree word p xs m (sym (proc_other earlier q word (turned q.name.word word e)) ∙ found) fits many)

none_if : (o : Option PlainProc) (f : AffineFault) → (if is_some o then f ∷ [] else []) ≡ [] → o ≡ None
none_if None f h = refl
none_if (Some p) f h = absurd cc

-- ---- parameters, and the cake
abbrev as_params : List Param → List (Kind × Name)
as_params [] = []
as_params (p ∷ ps) = (p.kind, p.name) ∷ as_params ps

param_entries : (ps : List Param) → entries (as_params ps) ≡ params_scope ps
param_entries [] = refl
param_entries (p ∷ ps) = ap (λ es. entry p.kind p.name ∷ es) (param_entries ps)

param_names_are : (ps : List Param) → names_in (as_params ps) ≡ map (λ (q : Param). q.name) ps
param_names_are [] = refl
param_names_are (p ∷ ps) = ap (λ xs. p.name ∷ xs) (param_names_are ps)

param_sorts_are : (ps : List Param) (ss : Sorts) → sorts_in (as_params ps) ss ≡ bind_sorts (param_names ps) (param_sorts ps) ss
param_sorts_are [] ss = refl
param_sorts_are (p ∷ ps) ss = param_sorts_are ps (record { word = p.name.word; sort = kind_sort p.kind } ∷ ss)

agrees_params : (ps : List Param) → rebound [] (map (λ (q : Param). q.name) ps) ≡ [] → Agrees (params_scope ps) none_used (bind_sorts (param_names ps) (param_sorts ps) [])
agrees_params ps new =
    coe 0 1 (i. Agrees (param_entries ps i) none_used (param_sorts_are ps [] i))
    (agrees_entries (as_params ps) [] [] none_used [] (λ word h. refl) (ap (rebound []) (param_names_are ps) ∙ new) (λ word. tt))

abbrev cake_sorts : Sorts
cake_sorts = record { word = codes "cake"; sort = Unused } ∷ []

agrees_cake : Agrees cake_scope none_used cake_sorts
agrees_cake word = by (bytes_eq word (codes "cake")) (bytes_eq (codes "cake") word) refl refl
  where
    by : (a b : Bool) → bytes_eq word (codes "cake") ≡ a → bytes_eq (codes "cake") word ≡ b → IsSort none_used (cond a (Some (kind.Piece, 0)) None) (if b then Unused else Spent)
    by false b e f = tt
    by true true e f = λ h. refl
    by true false e f = not_both (bytes_eq (codes "cake") word) (is_eq (codes "cake") word (sym (eq_is word (codes "cake") e))) f

-- ---- programs
record IsCleaned (p : PlainProgram) (calls : Callable) (qs : List PlainProc) : Type 0 where
  procs : CleanProcs p.agents.value calls qs
  body : Clean p.agents.value (callable_after calls qs) p.body cake_sorts (λ scope. ⊤)
  some : 1 ≤ p.agents.value
  few : p.agents.value ≤ 16

cleaned : (p : PlainProgram) (qs earlier : List PlainProc) (calls : Callable) (vs : Used) → CallsAgree earlier calls → scan (procs_flow p earlier qs) none_used ≡ Fine vs → IsCleaned p calls qs
cleaned p [] earlier calls vs agree h =
    let n : ℕ = p.agents.value in
    let main : Flow = block_flow n earlier cake_scope p.body [] in
    let o = opened none_used (count_stage p.agents) (scan main none_used) vs h in
    let range = unless_none (nat_le 1 n && nat_le n 16) (AgentRange p.agents.at) o.looks in
    let low = and_left (nat_le 1 n) (nat_le n 16) range in
    let high = and_right (nat_le 1 n) (nat_le n 16) range in
    record {
      procs = tt;
      body = clean_of n earlier calls agree p.body [] cake_scope none_used vs cake_sorts (λ scope. ⊤) agrees_cake o.goes_on (λ scope' us' ss' a r e. tt);
      some = grind (arith, nat_tests);
      few = grind (arith, nat_tests);
    }
cleaned p (q ∷ qs) earlier calls vs agree h =
    let n : ℕ = p.agents.value in
    let block : Flow = block_flow n earlier (params_scope q.params) q.body.code q.body.yields in
    let others : Flow = procs_flow p (earlier ++ q ∷ []) qs in
    let o = opened none_used (head_stage earlier q) (scan (Split block others Stop) none_used) vs h in
    let new = none_if (procedure earlier q.name.word) (Rebound q.name.word q.name.at)
    (none_left (if is_some (procedure earlier q.name.word) then Rebound q.name.word q.name.at ∷ [] else []) (if length earlier == 64 then ProcLimit q.name.at ∷ [] else []) o.looks) in
    let s1 = split (scan block none_used) (λ u. and_then (scan others none_used) (λ v. scan Stop (λ k. lesser (u k) (v k)))) vs o.goes_on in
    let s2 = split (scan others none_used) (λ v. scan Stop (λ k. lesser (s1.first k) (v k))) vs s1.then_is in
    let rest = cleaned p qs (earlier ++ q ∷ []) (callable_with q calls) s2.first (calls_more earlier calls q agree new) s2.is in
    record {
      procs = (
        clean_of n earlier calls agree q.body.code q.body.yields (params_scope q.params) none_used s1.first (bind_sorts (param_names q.params) (param_sorts q.params) []) (λ scope. Spends q.body.yields scope (λ after. ⊤))
            (agrees_params q.params o.rebinds) s1.is
            (λ scope' us' ss' a r e. spends n scope' q.body.yields us' ss' (λ after. ⊤) a e.bound e.uses (λ t b k. tt)),
        rest.procs,
      );
      body = rest.body;
      some = rest.some;
      few = rest.few;
    }

no_calls : CallsAgree [] no_callable
no_calls word p xs m found fits many = let bad : None ≡ Some p = found in absurd cc

cleaned_of : (p : PlainProgram) → HasRisingPlaces p → MeetsRules p → IsCleaned p no_callable p.procs
cleaned_of p rising meets = by (scan (flow_of p) none_used) refl
  where
    by : (x : Scanned) → scan (flow_of p) none_used ≡ x → IsCleaned p no_callable p.procs
    by (Fine vs) e = cleaned p p.procs [] no_callable vs no_calls e
    by (Bad f) e =
        let placed = program_placed p rising in
        absurd (meets f (scan_bad (flow_of p) 0 placed.0 (program_span p placed.0 placed.1) f e).stands)

pub checked_cores_are_well_formed : CheckedCoresAreWellFormed
checked_cores_are_well_formed p spelled rising meets limits =
    let c = cleaned_of p rising meets in
    let small = small_core p limits in
    let single = cores_are_single_use p (c.procs, c.body) in
    record {
      named = spelled.1;
      some_agent = c.some;
      few_agents = c.few;
      agents_there = single.1;
      numbered = cores_are_numbered p spelled;
      single_use = single.0;
      few_nodes = small.few_nodes;
      few_deep = small.few_deep;
      few_cuts = small.few_cuts;
    }
