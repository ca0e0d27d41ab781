-- The pass over a program is the pass over its flow.
use Rattle.std.proofs.Common.{◌≡◌, ℕ, zero, suc, ◌≤◌, Bool, true, false, List, [], ◌∷◌, ◌++◌, Option, Some, None, map, refl, ap, sym, subst, ◌∙◌, arith, append-nil, append_assoc, is_some, codes}
use Rattle.std.specs.Prelude.{slice_get, if◌then◌else◌}
use Rattle.slice_ast.specs.Code.{PlainProc, PlainProgram}
use Rattle.slice_ast.specs.declared.tree.Kind.{Kind}
use Rattle.slice_ast.specs.declared.tree.Kind.TheVariants as kind
use Rattle.slice_ast.specs.declared.tree.Name.{Name}
use Rattle.slice_ast.specs.declared.tree.Param.{Param}
use Rattle.slice_affine.specs.Scope.{Scope, Binding, look, entry, params_scope, cake_scope}
use Rattle.slice_affine.specs.Looks.{rebound}
use Rattle.slice_affine.proofs.Scan.{least}
use Rattle.slice_affine.specs.Ways.{Stage, Flow}
use Rattle.slice_affine.specs.Rules.{block_flow, head_stage, count_stage, procs_flow, flow_of}
use Rattle.slice_affine.proofs.Scan.{unused, stage_faults, Scanned, Fine, Bad, and_then, unless_fault, scan}
use Rattle.slice_affine.specs.Pass.{lesser}
use Rattle.slice_affine.proofs.Spans.{RiseTo}
use Rattle.slice_affine.proofs.Placed.{Placed, PlacedProcs, names_at}
use Rattle.slice_affine.specs.Pass as pass
use Rattle.slice_affine.specs.Pass.{State, Ledger, Passed, Went, Failed, then_pass, tell, told_of, looked, stepped}
use Rattle.slice_affine.specs.ProgramPass.{fresh, fresh_cake, bound_param, defined_twice, past_limit, head_step, count_faults, protocol_pass, fault_of, or_else, procs_fault, program_fault}
use Rattle.slice_affine.proofs.FoundLemmas.{noted_append, none_least, noted_nothing, nothing_found}
use Rattle.slice_affine.proofs.PartLemmas.{of_kind, seen, sight}
use Rattle.slice_affine.proofs.StageLemmas.{Scoped, both_nothing}
use Rattle.slice_affine.proofs.SimLemmas.{Sim, Words, words_again, words_more, new, scoped_one, scoped_wider}
use Rattle.slice_affine.proofs.CodeLemmas.{Same, code_same}
use Rattle.slice_affine.specs.declared.fault.AffineFault.{AffineFault}
use Rattle.slice_affine.specs.declared.fault.AffineFault.TheVariants.{Rebound}

abbrev names_of : List Param → List Name
names_of ps = map (λ p. p.name) ps

record ParamsAre (ps : List Param) (words : List (List ℕ)) (s t : State) : Type 0 where
  found : t.found ≡ pass.noted s.found (rebound words (names_of ps))
  names : rebound words (names_of ps) ≡ [] → t.names ≡ s.names ++ map (λ p. new p.kind p.name) ps
  count : t.count ≡ s.count

params_are : (ps : List Param) (words : List (List ℕ)) (s : State) → Words words s.names → ParamsAre ps words s (stepped bound_param ps s)
params_are [] words s h = record { found = sym (noted_nothing s.found); names = λ z. sym (append-nil s.names); count = refl }
params_are (p ∷ ps) words s h =
    let again : State = looked (Rebound p.name.word p.name.at ∷ []) s in
    let more : State = record s { names = s.names ++ new p.kind p.name ∷ [] } in
    by (is_some (look s.names p.name.word)) refl (λ e. params_are ps (p.name.word ∷ words) again (words_again words s.names p.name.word h e))
    (params_are ps (p.name.word ∷ words) more (words_more words s.names p.name.word (p.kind, None) h))
  where
    reb : List AffineFault
    reb = rebound (p.name.word ∷ words) (names_of ps)

    by : (b : Bool) → is_some (look s.names p.name.word) ≡ b
        → (is_some (look s.names p.name.word) ≡ true → ParamsAre ps (p.name.word ∷ words) (looked (Rebound p.name.word p.name.at ∷ []) s) (stepped bound_param ps (looked (Rebound p.name.word p.name.at ∷ []) s)))
        → ParamsAre ps (p.name.word ∷ words) (record s { names = s.names ++ new p.kind p.name ∷ [] }) (stepped bound_param ps (record s { names = s.names ++ new p.kind p.name ∷ [] }))
        → ParamsAre (p ∷ ps) words s (stepped bound_param (p ∷ ps) s)
    by true e a m =
        let r = a e in
        let faults : rebound words (names_of (p ∷ ps)) ≡ Rebound p.name.word p.name.at ∷ reb = ap (λ b. (if b then Rebound p.name.word p.name.at ∷ [] else []) ++ reb) (h p.name.word ∙ e) in
        let same : stepped bound_param (p ∷ ps) s ≡ stepped bound_param ps (looked (Rebound p.name.word p.name.at ∷ []) s) = ap (λ b. stepped bound_param ps (if b then looked (Rebound p.name.word p.name.at ∷ []) s else record s { names = s.names ++ new p.kind p.name ∷ [] })) e in
        record {
          found = ap (λ (t : State). t.found) same ∙ r.found ∙ sym (noted_append (Rebound p.name.word p.name.at ∷ []) reb s.found) ∙ ap (pass.noted s.found) (sym faults);
          names = λ z. absurd (clash (sym faults ∙ z));
          count = ap (λ (t : State). t.count) same ∙ r.count;
        }
      where
        clash : Rebound p.name.word p.name.at ∷ reb ≡ [] → ⊥
        clash z = cc
    by false e a m =
        let faults : rebound words (names_of (p ∷ ps)) ≡ reb = ap (λ b. (if b then Rebound p.name.word p.name.at ∷ [] else []) ++ reb) (h p.name.word ∙ e) in
        let same : stepped bound_param (p ∷ ps) s ≡ stepped bound_param ps (record s { names = s.names ++ new p.kind p.name ∷ [] }) = ap (λ b. stepped bound_param ps (if b then looked (Rebound p.name.word p.name.at ∷ []) s else record s { names = s.names ++ new p.kind p.name ∷ [] })) e in
        record {
          found = ap (λ (t : State). t.found) same ∙ m.found ∙ ap (pass.noted s.found) (sym faults);
          names = λ z. ap (λ (t : State). t.names) same ∙ m.names (sym faults ∙ z) ∙ append_assoc s.names (new p.kind p.name ∷ []) (map (λ x. new x.kind x.name) ps);
          count = ap (λ (t : State). t.count) same ∙ m.count;
        }

scoped_params : (ps : List Param) (lo hi : ℕ) (scope : Scope Binding) → RiseTo lo (names_at (names_of ps)) hi → Scoped lo scope → Scoped hi (scope ++ params_scope ps)
scoped_params [] lo hi scope r s = subst (λ (z : Scope Binding). Scoped hi z) (sym (append-nil scope)) (scoped_wider lo hi scope r s)
scoped_params (p ∷ ps) lo hi scope r s =
    subst (λ (z : Scope Binding). Scoped hi z) (append_assoc scope (entry p.kind p.name ∷ []) (params_scope ps))
    (scoped_params ps (suc p.name.at) hi (scope ++ entry p.kind p.name ∷ []) r.1 (scoped_one lo scope p.kind p.name s r.0))

nothing_kept : (k : Kind) (b : ℕ) → of_kind unused k b ≡ None
nothing_kept kind.Agent b = refl
nothing_kept kind.Piece b = refl
nothing_kept kind.Number b = refl

params_seen : (ps : List Param) → map (λ p. new p.kind p.name) ps ≡ sight unused (params_scope ps)
params_seen [] = refl
params_seen (p ∷ ps) =
    ap (λ (o : Option ℕ). (p.name.word, (p.kind, o)) ∷ map (λ x. new x.kind x.name) ps) (sym (nothing_kept p.kind (suc p.name.at)))
    ∙ ap (λ (l : Ledger). seen unused (entry p.kind p.name) ∷ l) (params_seen ps)

empty_scoped : (lo : ℕ) → Scoped lo []
empty_scoped lo = record { apart = λ i j d e x y z. absurd (clash x); below = λ i d x. absurd (clash x) }
  where
    clash : {d : List ℕ × (Kind × Binding)} → None ≡ Some d → ⊥
    clash h = cc

cake_scoped : (lo : ℕ) → Scoped lo cake_scope
cake_scoped lo = record { apart = apart; below = below }
  where
    only : (i : ℕ) (d : List ℕ × (Kind × Binding)) → slice_get cake_scope i ≡ Some d → (i ≡ 0) × (d.1.1 ≡ 0)
    only zero d h =
        let same : (codes "cake", (kind.Piece, 0)) ≡ d = cc in
        (refl, ap (λ (v : List ℕ × (Kind × Binding)). v.1.1) (sym same))
    only (suc i) d h = cc

    apart : (i j : ℕ) (d e : List ℕ × (Kind × Binding)) → slice_get cake_scope i ≡ Some d → slice_get cake_scope j ≡ Some e → d.1.1 ≡ e.1.1 → i ≡ j
    apart i j d e x y z = (only i d x).0 ∙ sym (only j e y).0

    below : (i : ℕ) (d : List ℕ × (Kind × Binding)) → slice_get cake_scope i ≡ Some d → d.1.1 ≤ lo
    below i d x = let r : d.1.1 ≡ 0 = (only i d x).1 in omega arith

-- both tell the same fault, or none
abbrev pub Alike : Option AffineFault → Scanned → Type 0
Alike None (Fine vs) = Unit {0}
Alike None (Bad g) = ⊥
Alike (Some f) (Fine vs) = ⊥
Alike (Some f) (Bad g) = f ≡ g

same_alike : (agents hi : ℕ) (scope : Scope Binding) (s : State) (p : Passed) (r : Scanned) → Same agents hi scope s p r → Alike (fault_of p) r
same_alike agents hi scope s (Went t) (Fine vs) h = tt
same_alike agents hi scope s (Went t) (Bad g) h = h
same_alike agents hi scope s (Failed f) (Fine vs) h = h
same_alike agents hi scope s (Failed f) (Bad g) h = h

-- a head, then a block
head_then : (l : Stage) (t : State) (go : State → Passed) (rest : Flow) → t.found ≡ least (stage_faults unused l) → l.events ≡ []
    → (least (stage_faults unused l) ≡ None → Alike (fault_of (go t)) (scan rest unused)) → Alike (fault_of (then_pass (tell t) go)) (unless_fault (least (stage_faults unused l)) (scan rest unused))
head_then l t go rest h e f = by (least (stage_faults unused l)) refl
  where
    by : (o : Option AffineFault) → least (stage_faults unused l) ≡ o → Alike (fault_of (then_pass (told_of t.found t) go)) (unless_fault (least (stage_faults unused l)) (scan rest unused))
    by None x =
        subst (λ (o : Option AffineFault). Alike (fault_of (then_pass (told_of o t) go)) (unless_fault (least (stage_faults unused l)) (scan rest unused))) (sym (h ∙ x))
        (subst (λ (o : Option AffineFault). Alike (fault_of (go t)) (unless_fault o (scan rest unused))) (sym x) (f x))
    by (Some g) x =
        subst (λ (o : Option AffineFault). Alike (fault_of (then_pass (told_of o t) go)) (unless_fault (least (stage_faults unused l)) (scan rest unused))) (sym (h ∙ x))
        (subst (λ (o : Option AffineFault). Alike (Some g) (unless_fault o (scan rest unused))) (sym x) refl)

protocol_same : (p : PlainProgram) (procs : List PlainProc) (lo hi : ℕ) → PlacedProcs lo p [] hi → Alike (fault_of (protocol_pass procs p)) (scan (procs_flow p procs []) unused)
protocol_same p procs lo hi h =
    let agents = p.agents.value in
    let s : State = fresh_cake agents in
    let t : State = looked (count_faults p.agents) s in
    let l : Stage = count_stage p.agents in
    let found : t.found ≡ least (stage_faults unused l) = none_least (count_faults p.agents) ∙ ap least (sym (append-nil (count_faults p.agents))) in
    head_then l t (pass.pass procs p.body []) (block_flow agents procs cake_scope p.body []) found refl (λ x.
    let sim : Sim agents h.0 cake_scope unused t = record { names = refl; found = found ∙ x; count = refl; scoped = cake_scoped h.0; later = λ k y. refl } in
    same_alike agents hi cake_scope t (pass.pass procs p.body [] t) (scan (block_flow agents procs cake_scope p.body []) unused)
    (code_same agents procs p.body [] h.0 hi cake_scope unused t h.2 sim))

proc_same : (agents : ℕ) (procs : List PlainProc) (q : PlainProc) (lo a b : ℕ) → RiseTo lo (q.name.at ∷ names_at (names_of q.params)) a → Placed a q.body.code q.body.yields b
    → (least (stage_faults unused (head_stage procs q)) ≡ None → Alike (fault_of (pass.pass procs q.body.code q.body.yields (head_step procs q (fresh agents)))) (scan (block_flow agents procs (params_scope q.params) q.body.code q.body.yields) unused))
    × ((head_step procs q (fresh agents)).found ≡ least (stage_faults unused (head_stage procs q)))
proc_same agents procs q lo a b rise placed = (block, found)
  where
    dt : List AffineFault
    dt = defined_twice procs q.name

    pl : List AffineFault
    pl = past_limit procs q.name

    reb : List AffineFault
    reb = rebound [] (names_of q.params)

    s2 : State
    s2 = looked pl (looked dt (fresh agents))

    t : State
    t = head_step procs q (fresh agents)

    are : ParamsAre q.params [] s2 t
    are = params_are q.params [] s2 (λ w. refl)

    found : t.found ≡ least ((dt ++ pl) ++ reb)
    found = are.found ∙ ap (λ o. pass.noted o reb) (sym (noted_append dt pl None)) ∙ sym (noted_append (dt ++ pl) reb None) ∙ none_least ((dt ++ pl) ++ reb)

    block : least ((dt ++ pl) ++ reb) ≡ None → Alike (fault_of (pass.pass procs q.body.code q.body.yields t)) (scan (block_flow agents procs (params_scope q.params) q.body.code q.body.yields) unused)
    block x =
        let no_reb : reb ≡ [] = (both_nothing (dt ++ pl) reb (nothing_found ((dt ++ pl) ++ reb) x)).1 in
        let rise2 : RiseTo (suc q.name.at) (names_at (names_of q.params)) a = rise.1 in
        let sim : Sim agents a (params_scope q.params) unused t = record {
          names = are.names no_reb ∙ params_seen q.params;
          found = found ∙ x;
          count = are.count;
          scoped = scoped_params q.params (suc q.name.at) a [] rise2 (empty_scoped (suc q.name.at));
          later = λ k y. refl;
        } in
        same_alike agents b (params_scope q.params) t (pass.pass procs q.body.code q.body.yields t) (scan (block_flow agents procs (params_scope q.params) q.body.code q.body.yields) unused)
        (code_same agents procs q.body.code q.body.yields a b (params_scope q.params) unused t placed sim)

alike_then : (o : Option AffineFault) (r : Scanned) (o2 : Option AffineFault) (r2 : Scanned) → Alike o r → Alike o2 r2 → Alike (or_else o o2) (and_then r (λ u. and_then r2 (λ v. Fine (λ k. lesser (u k) (v k)))))
alike_then None (Fine u) None (Fine v) h k = tt
alike_then None (Fine u) None (Bad g) h k = k
alike_then None (Fine u) (Some f) (Fine v) h k = k
alike_then None (Fine u) (Some f) (Bad g) h k = k
alike_then None (Bad g) o2 r2 h k = absurd h
alike_then (Some f) (Fine u) o2 r2 h k = absurd h
alike_then (Some f) (Bad g) o2 r2 h k = h

pub procs_same : (p : PlainProgram) (qs earlier : List PlainProc) (lo hi : ℕ) → PlacedProcs lo p qs hi → Alike (procs_fault p earlier qs) (scan (procs_flow p earlier qs) unused)
procs_same p [] earlier lo hi h = protocol_same p earlier lo hi h
procs_same p (q ∷ qs) earlier lo hi h =
    let agents = p.agents.value in
    let x = proc_same agents earlier q lo h.0 h.1 h.2 h.3 in
    let rest = procs_same p qs (earlier ++ q ∷ []) h.1 hi h.4 in
    by (least (stage_faults unused (head_stage earlier q))) refl x.0 x.1 rest
  where
    o2 : Option AffineFault
    o2 = procs_fault p (earlier ++ q ∷ []) qs

    r2 : Scanned
    r2 = scan (procs_flow p (earlier ++ q ∷ []) qs) unused

    t : State
    t = head_step earlier q (fresh p.agents.value)

    r : Scanned
    r = scan (block_flow p.agents.value earlier (params_scope q.params) q.body.code q.body.yields) unused

    both : Scanned
    both = and_then r (λ u. and_then r2 (λ v. Fine (λ k. lesser (u k) (v k))))

    go : State → Passed
    go = pass.pass earlier q.body.code q.body.yields

    by : (o : Option AffineFault) → least (stage_faults unused (head_stage earlier q)) ≡ o
        → (least (stage_faults unused (head_stage earlier q)) ≡ None → Alike (fault_of (go t)) r) → t.found ≡ least (stage_faults unused (head_stage earlier q)) → Alike o2 r2
        → Alike (or_else (fault_of (then_pass (told_of t.found t) go)) o2) (unless_fault (least (stage_faults unused (head_stage earlier q))) both)
    by None e f found rest =
        subst (λ (o : Option AffineFault). Alike (or_else (fault_of (then_pass (told_of o t) go)) o2) (unless_fault (least (stage_faults unused (head_stage earlier q))) both)) (sym (found ∙ e))
        (subst (λ (o : Option AffineFault). Alike (or_else (fault_of (go t)) o2) (unless_fault o both)) (sym e) (alike_then (fault_of (go t)) r o2 r2 (f e) rest))
    by (Some g) e f found rest =
        subst (λ (o : Option AffineFault). Alike (or_else (fault_of (then_pass (told_of o t) go)) o2) (unless_fault (least (stage_faults unused (head_stage earlier q))) both)) (sym (found ∙ e))
        (subst (λ (o : Option AffineFault). Alike (Some g) (unless_fault o both)) (sym e) refl)

pub program_same : (p : PlainProgram) (hi : ℕ) → PlacedProcs 0 p p.procs hi → Alike (program_fault p) (scan (flow_of p) unused)
program_same p hi h = procs_same p p.procs [] 0 hi h
