-- The checker's pass over a block is the pass over its flow.
use Rattle.std.proofs.Common.{◌≡◌, ℕ, suc, ◌≤◌, List, [], ◌∷◌, ◌++◌, Option, Some, None, map, refl, ap, sym, subst, ◌∙◌, arith, append-nil, append_assoc}
use Rattle.std.specs.Prelude.{slice_get}
use Rattle.std.specs.List.{flat_map}
use Rattle.std.specs.Option.{option_map}
use Rattle.slice_ast.specs.Code.{Code, End, Cut, Let, Join, Give, If, Pick, Call, PlainProc}
use Rattle.slice_ast.specs.declared.tree.Kind.{Kind}
use Rattle.slice_ast.specs.declared.tree.Kind.TheVariants as kind
use Rattle.slice_ast.specs.declared.tree.Name.{Name}
use Rattle.slice_ast.specs.declared.tree.AgentRef.{AgentRef}
use Rattle.slice_ast.specs.declared.tree.Sum.{Sum}
use Rattle.slice_ast.specs.declared.tree.Arg.{Arg}
use Rattle.slice_affine.specs.Scope.{Scope, Binding, entry}
use Rattle.slice_affine.specs.Looks.{unbound, ref_faults, sum_faults, arg_faults, pieces_faults, sum_asks, arg_asks, arg_uses, if_faults, pick_faults, call_faults}
use Rattle.slice_affine.proofs.Scan.{least}
use Rattle.slice_affine.specs.Ways.{Stage, Flow, Stop, Then, Split}
use Rattle.slice_affine.specs.Rules.{stage, block_flow}
use Rattle.slice_affine.proofs.Scan.{Used, noted_all, stage_faults, Scanned, Fine, Bad, and_then, unless_fault, scan}
use Rattle.slice_affine.specs.Pass.{lesser}
use Rattle.slice_affine.proofs.Spans.{RiseTo}
use Rattle.slice_affine.proofs.Placed.{Placed, names_at, ref_at, sum_at, arg_at, cut_at, let_at, join_at, give_at, pick_at, call_at}
use Rattle.slice_affine.specs.Pass.{State, Ledger, Passed, Went, Failed, then_pass, then_closed, closed, tell, told_of, looked, looked_ref, looked_name, looked_sum, looked_args, asked_sum, asked_args, used, bound, remarked, remarked_one, inside, outside, pass, cut_step, let_step, join_step, give_step, test_step, end_step, pick_step, call_step, yield_step}
use Rattle.slice_affine.proofs.FoundLemmas.{looked_append}
use Rattle.slice_affine.proofs.TrailLemmas.{Trailed, trailed_then, trailed_bound, back, trailed_remarked, remarked_get, remarked_found, remarked_count, both_unused, marks, marks_both, onto, same_items, clears}
use Rattle.slice_affine.proofs.StepLemmas.{stepped_append}
use Rattle.slice_affine.proofs.PartLemmas.{of_kind, mean, seen, sight, asks_told, sum_looked, args_looked, pieces_looked, sum_asked, args_asked, sums_asked, args_used, ref_seen, sum_seen, pieces_seen, args_seen}
use Rattle.slice_affine.proofs.StageLemmas.{get_sight, same_state}
use Rattle.slice_affine.proofs.SimLemmas.{Sim, StageIs, stage_is, scoped_wider, rise_on, get_more}
use Rattle.slice_affine.specs.declared.trail.Use.{Use}
use Rattle.slice_affine.specs.declared.fault.AffineFault.{AffineFault}

-- the two passes end alike
abbrev pub Same : ℕ → ℕ → Scope Binding → State → Passed → Scanned → Type 0
Same agents hi scope s (Went t) (Fine vs) = (more : Scope Binding) × Sim agents hi (scope ++ more) vs t × Trailed s t
Same agents hi scope s (Went t) (Bad g) = ⊥
Same agents hi scope s (Failed f) (Fine vs) = ⊥
Same agents hi scope s (Failed f) (Bad g) = f ≡ g

before : (agents hi : ℕ) (scope more : Scope Binding) (s t : State) → Trailed s t → (p : Passed) (r : Scanned) → Same agents hi (scope ++ more) t p r → Same agents hi scope s p r
before agents hi scope more s t k (Went u) (Fine vs) h =
    (more ++ h.0, subst (λ (z : Scope Binding). Sim agents hi z vs u) (append_assoc scope more h.0) h.1, trailed_then s t u k h.2)
before agents hi scope more s t k (Went u) (Bad g) h = h
before agents hi scope more s t k (Failed f) (Fine vs) h = h
before agents hi scope more s t k (Failed f) (Bad g) h = h

-- a stage, then what comes after it
step : (agents mid hi : ℕ) (scope more next : Scope Binding) (us : Used) (l : Stage) (s t : State) (go : State → Passed) (rest : Flow)
    → StageIs agents mid scope more us l s t → scope ++ more ≡ next
    → (Sim agents mid next (noted_all us l.events) t → Same agents hi next t (go t) (scan rest (noted_all us l.events)))
    → Same agents hi scope s (then_pass (tell t) go) (scan (Then l rest) us)
step agents mid hi scope more next us l s t go rest h e f = by (least (stage_faults us l)) refl
  where
    by : (o : Option AffineFault) → least (stage_faults us l) ≡ o → Same agents hi scope s (then_pass (told_of t.found t) go) (unless_fault (least (stage_faults us l)) (scan rest (noted_all us l.events)))
    by None x =
        let r = h.fine x in
        let go_on : Same agents hi scope s (go t) (scan rest (noted_all us l.events)) =
        before agents hi scope more s t r.1 (go t) (scan rest (noted_all us l.events))
        (subst (λ (z : Scope Binding). Same agents hi z t (go t) (scan rest (noted_all us l.events))) (sym e)
        (f (subst (λ (z : Scope Binding). Sim agents mid z (noted_all us l.events) t) e r.0))) in
        subst (λ (o : Option AffineFault). Same agents hi scope s (then_pass (told_of o t) go) (unless_fault (least (stage_faults us l)) (scan rest (noted_all us l.events)))) (sym (h.found ∙ x))
        (subst (λ (o : Option AffineFault). Same agents hi scope s (go t) (unless_fault o (scan rest (noted_all us l.events)))) (sym x) go_on)
    by (Some g) x =
        subst (λ (o : Option AffineFault). Same agents hi scope s (then_pass (told_of o t) go) (unless_fault (least (stage_faults us l)) (scan rest (noted_all us l.events)))) (sym (h.found ∙ x))
        (subst (λ (o : Option AffineFault). Same agents hi scope s (Failed g) (unless_fault o (scan rest (noted_all us l.events)))) (sym x) refl)

pub rise_parts : (xs ys : List ℕ) (lo hi : ℕ) → RiseTo lo (xs ++ ys) hi → (mid : ℕ) × RiseTo lo xs mid × RiseTo mid ys hi
rise_parts [] ys lo hi h = let r : lo ≤ lo = omega arith in (lo, r, h)
rise_parts (x ∷ xs) ys lo hi h = let r = rise_parts xs ys (suc x) hi h.1 in (r.0, (h.0, r.1), r.2)

pub rise_to : (xs : List ℕ) (lo hi top : ℕ) → hi ≤ top → RiseTo lo xs hi → RiseTo lo xs top
rise_to [] lo hi top h r = omega arith
rise_to (x ∷ xs) lo hi top h r = (r.0, rise_to xs (suc x) hi top h r.1)

pub rise_from : (xs : List ℕ) (low lo hi : ℕ) → low ≤ lo → RiseTo lo xs hi → RiseTo low xs hi
rise_from [] low lo hi h r = omega arith
rise_from (x ∷ xs) low lo hi h r = let a : lo ≤ x = r.0 in (omega arith, r.1)

-- the first and the last of several parts
pub rise_first : (xs ys : List ℕ) (lo hi : ℕ) → RiseTo lo (xs ++ ys) hi → RiseTo lo xs hi
rise_first xs ys lo hi h = let r = rise_parts xs ys lo hi h in rise_to xs lo r.0 hi (rise_on ys r.0 hi r.2) r.1

pub rise_last : (xs ys : List ℕ) (lo hi : ℕ) → RiseTo lo (xs ++ ys) hi → RiseTo lo ys hi
rise_last xs ys lo hi h = let r = rise_parts xs ys lo hi h in rise_from ys lo r.0 hi (rise_on xs lo r.0 r.1) r.2

none_rises : (xs : List ℕ) (lo hi : ℕ) → RiseTo lo xs hi → RiseTo lo [] hi
none_rises xs lo hi h = rise_on xs lo hi h

module _ (agents : ℕ) (procs : List PlainProc) (scope : Scope Binding) (us : Used) (s : State) (names : s.names ≡ sight us scope) (count : s.count ≡ agents) where
  ref_as : (a : AgentRef) → ref_faults s.count s.names a ≡ ref_faults agents scope a
  ref_as a = ap (λ c. ref_faults c s.names a) count ∙ ap (λ (l : Ledger). ref_faults agents l a) names ∙ ref_seen agents us scope a

  sum_as : (m : Sum) → sum_faults s.count s.names m ≡ sum_faults agents scope m
  sum_as m = ap (λ c. sum_faults c s.names m) count ∙ ap (λ (l : Ledger). sum_faults agents l m) names ∙ sum_seen agents us scope m

  pieces_as : (ps : List Name) → pieces_faults s.names ps ≡ pieces_faults scope ps
  pieces_as ps = ap (λ (l : Ledger). pieces_faults l ps) names ∙ pieces_seen agents us scope ps

  args_as : (xs : List Arg) → flat_map (arg_faults s.count s.names) xs ≡ flat_map (arg_faults agents scope) xs
  args_as xs = ap (λ c. flat_map (arg_faults c s.names) xs) count ∙ ap (λ (l : Ledger). flat_map (arg_faults agents l) xs) names ∙ args_seen agents us scope xs

  both : {a b c d : List AffineFault} → a ≡ b → c ≡ d → a ++ c ≡ b ++ d
  both x y = cc

  cut_is : (a : AgentRef) (p : Name) (m : Sum) (l r : Name)
      → cut_step a p m l r s ≡ bound kind.Piece (l ∷ r ∷ []) (used (p ∷ []) (looked ((ref_faults agents scope a ++ pieces_faults scope (p ∷ []) ++ sum_faults agents scope m) ++ asks_told s.names (sum_asks m)) s))
  cut_is a p m l r =
      let R = ref_faults s.count s.names a in
      let P = unbound s.names kind.Piece p in
      let M = sum_faults s.count s.names m in
      let A = asks_told s.names (sum_asks m) in
      let e : asked_sum m (looked_sum m (looked_name kind.Piece p (looked_ref a s))) ≡ looked ((ref_faults agents scope a ++ pieces_faults scope (p ∷ []) ++ sum_faults agents scope m) ++ A) s =
      ap (asked_sum m) (sum_looked m (looked P (looked R s))) ∙ sum_asked m (looked M (looked P (looked R s)))
      ∙ ap (λ t. looked A (looked M t)) (sym (looked_append R P s)) ∙ ap (looked A) (sym (looked_append (R ++ P) M s)) ∙ sym (looked_append ((R ++ P) ++ M) A s)
      ∙ ap (λ fs. looked (fs ++ A) s) (both (both (ref_as a) (sym (append-nil P) ∙ pieces_as (p ∷ []))) (sum_as m)) in
      ap (λ t. bound kind.Piece (l ∷ r ∷ []) (used (p ∷ []) t)) e

  let_is : (n : Name) (m : Sum) → let_step n m s ≡ bound kind.Number (n ∷ []) (used [] (looked (sum_faults agents scope m ++ asks_told s.names (sum_asks m)) s))
  let_is n m =
      let M = sum_faults s.count s.names m in
      let A = asks_told s.names (sum_asks m) in
      ap (bound kind.Number (n ∷ [])) (ap (asked_sum m) (sum_looked m s) ∙ sum_asked m (looked M s) ∙ sym (looked_append M A s) ∙ ap (λ fs. looked (fs ++ A) s) (sum_as m))

  join_is : (p q n : Name) → join_step p q n s ≡ bound kind.Piece (n ∷ []) (used (p ∷ q ∷ []) (looked (pieces_faults scope (p ∷ q ∷ []) ++ []) s))
  join_is p q n = ap (λ t. bound kind.Piece (n ∷ []) (used (p ∷ q ∷ []) t))
      (pieces_looked (p ∷ q ∷ []) s ∙ ap (λ fs. looked fs s) (pieces_as (p ∷ q ∷ []) ∙ sym (append-nil (pieces_faults scope (p ∷ q ∷ [])))))

  give_is : (p : Name) (a : AgentRef) → give_step p a s ≡ bound kind.Piece [] (used (p ∷ []) (looked ((pieces_faults scope (p ∷ []) ++ ref_faults agents scope a) ++ []) s))
  give_is p a =
      let P = unbound s.names kind.Piece p in
      let R = ref_faults s.count s.names a in
      ap (used (p ∷ [])) (sym (looked_append P R s) ∙ ap (λ fs. looked fs s) (both (sym (append-nil P) ∙ pieces_as (p ∷ [])) (ref_as a) ∙ sym (append-nil (pieces_faults scope (p ∷ []) ++ ref_faults agents scope a))))

  test_is : (l r : Sum) → test_step l r s ≡ bound kind.Piece [] (used [] (looked ((sum_faults agents scope l ++ sum_faults agents scope r) ++ asks_told s.names (sum_asks l ++ sum_asks r)) s))
  test_is l r =
      let L = sum_faults s.count s.names l in
      let R = sum_faults s.count s.names r in
      let A = asks_told s.names (sum_asks l ++ sum_asks r) in
      ap (λ t. asked_sum r (asked_sum l (looked_sum r t))) (sum_looked l s) ∙ ap (λ t. asked_sum r (asked_sum l t)) (sum_looked r (looked L s) ∙ sym (looked_append L R s))
      ∙ sums_asked l r (looked (L ++ R) s) ∙ sym (looked_append (L ++ R) A s) ∙ ap (λ fs. looked (fs ++ A) s) (both (sum_as l) (sum_as r))

  end_is : (ys ns ms : List Name) (end : ℕ) → end_step ys ns ms end s ≡ bound kind.Piece ms (used [] (looked (if_faults ys ns ms end ++ []) s))
  end_is ys ns ms end = ap (λ fs. bound kind.Piece ms (looked fs s)) (sym (append-nil (if_faults ys ns ms end)))

  pick_is : (a : AgentRef) (ps ns : List Name) (end : ℕ)
      → pick_step a ps ns end s ≡ bound kind.Piece ns (used ps (looked ((ref_faults agents scope a ++ pieces_faults scope ps ++ pick_faults ps ns end) ++ []) s))
  pick_is a ps ns end =
      let R = ref_faults s.count s.names a in
      let P = pieces_faults s.names ps in
      let F = pick_faults ps ns end in
      ap (λ t. bound kind.Piece ns (used ps t))
      (ap (looked F) (pieces_looked ps (looked R s) ∙ sym (looked_append R P s)) ∙ sym (looked_append (R ++ P) F s)
      ∙ ap (λ fs. looked fs s) (both (both (ref_as a) (pieces_as ps)) refl ∙ sym (append-nil (ref_faults agents scope a ++ pieces_faults scope ps ++ F))))

  call_is : (f : Name) (xs : List Arg) (ns : List Name) (end : ℕ)
      → call_step procs f xs ns end s ≡ bound kind.Piece ns (used (flat_map arg_uses xs) (looked ((call_faults procs f xs ns end ++ flat_map (arg_faults agents scope) xs) ++ asks_told s.names (flat_map arg_asks xs)) s))
  call_is f xs ns end =
      let C = call_faults procs f xs ns end in
      let X = flat_map (arg_faults s.count s.names) xs in
      let A = asks_told s.names (flat_map arg_asks xs) in
      ap (bound kind.Piece ns)
      (args_used xs (asked_args xs (looked_args xs (looked C s)))
      ∙ ap (used (flat_map arg_uses xs)) (ap (asked_args xs) (args_looked xs (looked C s) ∙ sym (looked_append C X s)) ∙ args_asked xs (looked (C ++ X) s) ∙ sym (looked_append (C ++ X) A s)
      ∙ ap (λ fs. looked ((C ++ fs) ++ A) s) (args_as xs)))

  yield_is : (ys : List Name) → yield_step ys s ≡ bound kind.Piece [] (used ys (looked (pieces_faults scope ys ++ []) s))
  yield_is ys = ap (used ys) (pieces_looked ys s ∙ ap (λ fs. looked fs s) (pieces_as ys ∙ sym (append-nil (pieces_faults scope ys))))

pub rise_tail : (x : ℕ) (xs : List ℕ) (lo hi : ℕ) → RiseTo lo (x ∷ xs) hi → RiseTo lo xs hi
rise_tail x xs lo hi h = let a : lo ≤ x = h.0 in rise_from xs lo (suc x) hi (omega arith) h.1

then_went : (p : Passed) → then_pass p (λ s. Went s) ≡ p
then_went (Went s) = refl
then_went (Failed f) = refl

pub placed_on : (c : Code) (ys : List Name) (lo hi : ℕ) → Placed lo c ys hi → lo ≤ hi
placed_on End ys lo hi h = rise_on (names_at ys) lo hi h
placed_on (Cut a p m l r rest) ys lo hi h = let x : lo ≤ h.0 = rise_on (cut_at a p m l r) lo h.0 h.1 in let y : h.0 ≤ hi = placed_on rest ys h.0 hi h.2 in omega arith
placed_on (Let n m rest) ys lo hi h = let x : lo ≤ h.0 = rise_on (let_at n m) lo h.0 h.1 in let y : h.0 ≤ hi = placed_on rest ys h.0 hi h.2 in omega arith
placed_on (Join p q n rest) ys lo hi h = let x : lo ≤ h.0 = rise_on (join_at p q n) lo h.0 h.1 in let y : h.0 ≤ hi = placed_on rest ys h.0 hi h.2 in omega arith
placed_on (Give p a rest) ys lo hi h = let x : lo ≤ h.0 = rise_on (give_at p a) lo h.0 h.1 in let y : h.0 ≤ hi = placed_on rest ys h.0 hi h.2 in omega arith
placed_on (If l o r one one_yields other other_yields names end rest) ys lo hi h =
    let v : lo ≤ h.0 = rise_on (sum_at l ++ sum_at r) lo h.0 h.4 in
    let w : h.0 ≤ h.1 = placed_on one one_yields h.0 h.1 h.5 in
    let x : h.1 ≤ h.2 = placed_on other other_yields h.1 h.2 h.6 in
    let y : h.2 ≤ h.3 = rise_on (names_at names ++ end ∷ []) h.2 h.3 h.7 in
    let z : h.3 ≤ hi = placed_on rest ys h.3 hi h.8 in omega arith
placed_on (Pick a ps ns end rest) ys lo hi h = let x : lo ≤ h.0 = rise_on (pick_at a ps ns end) lo h.0 h.1 in let y : h.0 ≤ hi = placed_on rest ys h.0 hi h.2 in omega arith
placed_on (Call f xs ns end rest) ys lo hi h = let x : lo ≤ h.0 = rise_on (call_at f xs ns end) lo h.0 h.1 in let y : h.0 ≤ hi = placed_on rest ys h.0 hi h.2 in omega arith

sim_later : (agents lo hi : ℕ) (scope : Scope Binding) (us : Used) (s t : State) → lo ≤ hi → Sim agents lo scope us s → t.names ≡ s.names → t.found ≡ None → t.count ≡ agents → Sim agents hi scope us t
sim_later agents lo hi scope us s t h sim n f c = record {
  names = n ∙ sim.names;
  found = f;
  count = c;
  scoped = scoped_wider lo hi scope h sim.scoped;
  later = λ k x. sim.later k (omega arith);
}

-- after both blocks of an `if`: the uses of both are noted, each binding with the lesser place
record Joined (agents c : ℕ) (scope : Scope Binding) (us : Used) (t q : State) : Type 0 where
  sim : Sim agents c scope us q
  trailed : Trailed t q

joined : (agents a b c : ℕ) (scope more others : Scope Binding) (us v1 v2 : Used) (t u1 w1 : State) → a ≤ b → b ≤ c → Sim agents a scope us t
    → Sim agents b (scope ++ more) v1 u1 → Trailed (inside t) u1
    → Sim agents c (scope ++ others) v2 w1 → Trailed (inside (outside t u1)) w1
    → Joined agents c scope (λ k. lesser (v1 k) (v2 k)) t (remarked w1.trail (remarked u1.trail (outside (outside t u1) w1)))
joined agents a b c scope more others us v1 v2 t u1 w1 ab bc sim s1 k1 s2 k2 =
    subst (λ (z : State). Joined agents c scope (λ k. lesser (v1 k) (v2 k)) t z) (stepped_append remarked_one u1.trail w1.trail v)
    (record {
      sim = record {
        names = same_items q.names (sight both_used scope) at;
        found = remarked_found uses v ∙ s2.found;
        count = remarked_count uses v ∙ s2.count;
        scoped = scoped_wider a c scope (omega arith) sim.scoped;
        later = λ k h. ap (λ o. lesser o (v2 k)) (s1.later k (omega arith)) ∙ s2.later k h;
      };
      trailed = trailed_then t v q (trailed_bound t v refl (λ j e h. ap (λ (l : Ledger). slice_get l j) v_names ∙ h)) (trailed_remarked uses v (λ j e h.
          both_unused u1.trail w1.trail j e.1
          (ap (λ (xs : List Use). clears xs j e.1) k1.trail ∙ k1.unused j e (ap (λ (l : Ledger). slice_get l j) (sym v_names) ∙ h))
          (ap (λ (xs : List Use). clears xs j e.1) k2.trail ∙ k2.unused j e (ap (λ (l : Ledger). slice_get l j) (u_names ∙ sym v_names) ∙ h))));
    })
  where
    uses : List Use
    uses = u1.trail ++ w1.trail

    u : State
    u = outside t u1

    v : State
    v = outside u w1

    q : State
    q = remarked uses v

    both_used : Used
    both_used k = lesser (v1 k) (v2 k)

    u_names : u.names ≡ t.names
    u_names = back (inside t) u1 refl k1

    v_names : v.names ≡ t.names
    v_names = back (inside u) w1 refl k2 ∙ u_names

    mark_one : (w : Used) (x : State) (y : State) (b : ℕ) (scope' : Scope Binding) → x.names ≡ sight us scope → Sim agents b (scope ++ scope') w y → (k : Trailed (inside x) y)
        → (j : ℕ) (d : List ℕ × (Kind × Binding)) → slice_get scope j ≡ Some d → marks y.trail j (mean us d.1) ≡ mean w d.1
    mark_one w x y b scope' n s k j d h =
        let there : slice_get x.names j ≡ Some (seen us d) = ap (λ (l : Ledger). slice_get l j) n ∙ get_sight us scope j ∙ ap (option_map (seen us)) h in
        let left : slice_get y.names j ≡ Some (onto (marks k.uses j) (seen us d)) = k.marked j (seen us d) there in
        let right : slice_get y.names j ≡ Some (seen w d) = ap (λ (l : Ledger). slice_get l j) s.names ∙ get_sight w (scope ++ scope') j ∙ ap (option_map (seen w)) (get_more scope scope' j d h) in
        let same : Some (onto (marks k.uses j) (seen us d)) ≡ Some (seen w d) = sym left ∙ right in
        let inner : onto (marks k.uses j) (seen us d) ≡ seen w d = cc in
        ap (λ (xs : List Use). marks xs j (mean us d.1)) k.trail ∙ ap (λ (e : List ℕ × (Kind × Option ℕ)). e.1) inner

    kinds : (k : Kind) (b : ℕ) → lesser (of_kind v1 k b) (of_kind v2 k b) ≡ of_kind both_used k b
    kinds kind.Agent b = refl
    kinds kind.Piece b = refl
    kinds kind.Number b = refl

    one : (j : ℕ) (d : List ℕ × (Kind × Binding)) → slice_get scope j ≡ Some d → onto (marks uses j) (seen us d) ≡ seen both_used d
    one j d h =
        let x = mark_one v1 t u1 b more sim.names s1 k1 j d h in
        let y = mark_one v2 u w1 c others (u_names ∙ sim.names) s2 k2 j d h in
        ap (λ (m : Kind × Option ℕ). (d.0, m)) (marks_both u1.trail w1.trail j (mean us d.1)
        ∙ ap (λ (o : Option ℕ). (d.1.0, o)) (ap (λ (m : Kind × Option ℕ). lesser m.1 (marks w1.trail j (mean us d.1)).1) x
        ∙ ap (λ (m : Kind × Option ℕ). lesser (of_kind v1 d.1.0 d.1.1) m.1) y ∙ kinds d.1.0 d.1.1))

    at : (j : ℕ) → slice_get q.names j ≡ slice_get (sight both_used scope) j
    at j =
        remarked_get uses v j ∙ ap (option_map (onto (marks uses j))) (ap (λ (l : Ledger). slice_get l j) (v_names ∙ sim.names) ∙ get_sight us scope j)
        ∙ by (slice_get scope j) refl ∙ sym (get_sight both_used scope j)
      where
        by : (o : Option (List ℕ × (Kind × Binding))) → slice_get scope j ≡ o → option_map (onto (marks uses j)) (option_map (seen us) o) ≡ option_map (seen both_used) o
        by None h = refl
        by (Some d) h = ap (λ e. Some e) (one j d h)

module _ (agents : ℕ) (procs : List PlainProc) where
  -- what the second half of an `if` does, for all states that the first half leads to
  halves : (hi a b c : ℕ) (scope : Scope Binding) (us : Used) (t : State) (p : Passed) (r : Scanned) (second : State → Passed) (r2 : Scanned) (last : State → Passed) (rest : Used → Scanned)
      → a ≤ b → b ≤ c → Sim agents a scope us t → Same agents b scope (inside t) p r
      → ((u : State) → Sim agents b scope us u → Same agents c scope (inside u) (second (inside u)) r2)
      → ((q : State) (v : Used) → Sim agents c scope v q → Same agents hi scope q (last q) (rest v))
      → Same agents hi scope t (then_closed (closed t p) (λ uses u. then_closed (closed u (second (inside u))) (λ more v. last (remarked more (remarked uses v)))))
      (and_then r (λ v1. and_then r2 (λ v2. rest (λ k. lesser (v1 k) (v2 k)))))
  halves hi a b c scope us t (Failed f) (Bad g) second r2 last rest ab bc sim h k l = h
  halves hi a b c scope us t (Failed f) (Fine v1) second r2 last rest ab bc sim h k l = absurd h
  halves hi a b c scope us t (Went u1) (Bad g) second r2 last rest ab bc sim h k l = absurd h
  halves hi a b c scope us t (Went u1) (Fine v1) second r2 last rest ab bc sim h k l = by (second (inside u)) r2 (k u u_sim)
    where
      u : State
      u = outside t u1

      u_sim : Sim agents b scope us u
      u_sim = sim_later agents a b scope us t u ab sim (back (inside t) u1 refl h.2) h.1.found h.1.count

      by : (p2 : Passed) (r2 : Scanned) → Same agents c scope (inside u) p2 r2
          → Same agents hi scope t (then_closed (closed u p2) (λ more v. last (remarked more (remarked u1.trail v)))) (and_then r2 (λ v2. rest (λ k. lesser (v1 k) (v2 k))))
      by (Failed f) (Bad g) x = x
      by (Failed f) (Fine v2) x = absurd x
      by (Went w1) (Bad g) x = absurd x
      by (Went w1) (Fine v2) x =
          let q : State = remarked w1.trail (remarked u1.trail (outside u w1)) in
          let j = joined agents a b c scope h.0 x.0 us v1 v2 t u1 w1 ab bc sim h.1 h.2 x.1 x.2 in
          let both_used : Used = λ (k : ℕ). lesser (v1 k) (v2 k) in
          before agents hi scope [] t q j.trailed (last q) (rest both_used)
          (subst (λ (z : Scope Binding). Same agents hi z q (last q) (rest both_used)) (sym (append-nil scope)) (l q both_used j.sim))

  pub code_same : (c : Code) (ys : List Name) (lo hi : ℕ) (scope : Scope Binding) (us : Used) (s : State) → Placed lo c ys hi → Sim agents lo scope us s
      → Same agents hi scope s (pass procs c ys s) (scan (block_flow agents procs scope c ys) us)
  code_same End ys lo hi scope us s h sim =
      let l : Stage = stage scope (pieces_faults scope ys) [] ys [] in
      let r = stage_is agents lo hi scope us s (pieces_faults scope ys) [] ys [] kind.Piece sim (none_rises (names_at ys) lo hi h) in
      let t : State = bound kind.Piece [] (used ys (looked (pieces_faults scope ys ++ []) s)) in
      subst (λ (p : Passed). Same agents hi scope s p (scan (Then l Stop) us)) (then_went (tell t) ∙ ap tell (sym (yield_is agents procs scope us s sim.names sim.count ys)))
      (step agents hi hi scope [] scope us l s t (λ z. Went z) Stop r (append-nil scope)
      (λ m. ([], subst (λ (z : Scope Binding). Sim agents hi z (noted_all us l.events) t) (sym (append-nil scope)) m, same_state t)))
  code_same (Cut a p m l r rest) ys lo hi scope us s h sim =
      let faults = ref_faults agents scope a ++ pieces_faults scope (p ∷ []) ++ sum_faults agents scope m in
      let ns : List Name = l ∷ r ∷ [] in
      let more : Scope Binding = map (entry kind.Piece) ns in
      let t : State = bound kind.Piece ns (used (p ∷ []) (looked (faults ++ asks_told s.names (sum_asks m)) s)) in
      let x : Stage = stage scope faults (sum_asks m) (p ∷ []) ns in
      let rise = rise_last (sum_at m) (l.at ∷ r.at ∷ []) lo h.0 (rise_tail p.at (sum_at m ++ l.at ∷ r.at ∷ []) lo h.0 (rise_last (ref_at a) (p.at ∷ (sum_at m ++ l.at ∷ r.at ∷ [])) lo h.0 h.1)) in
      subst (λ (z : State). Same agents hi scope s (then_pass (tell z) (pass procs rest ys)) (scan (Then x (block_flow agents procs (scope ++ more) rest ys)) us)) (sym (cut_is agents procs scope us s sim.names sim.count a p m l r))
      (step agents h.0 hi scope more (scope ++ more) us x s t (pass procs rest ys) (block_flow agents procs (scope ++ more) rest ys)
      (stage_is agents lo h.0 scope us s faults (sum_asks m) (p ∷ []) ns kind.Piece sim rise) refl
      (λ m'. code_same rest ys h.0 hi (scope ++ more) (noted_all us x.events) t h.2 m'))
  code_same (Let n m rest) ys lo hi scope us s h sim =
      let faults = sum_faults agents scope m in
      let ns : List Name = n ∷ [] in
      let more : Scope Binding = map (entry kind.Number) ns in
      let t : State = bound kind.Number ns (used [] (looked (faults ++ asks_told s.names (sum_asks m)) s)) in
      let x : Stage = stage scope faults (sum_asks m) [] ns in
      let rise : RiseTo lo (names_at ns) h.0 = rise_first (n.at ∷ []) (sum_at m) lo h.0 h.1 in
      subst (λ (z : State). Same agents hi scope s (then_pass (tell z) (pass procs rest ys)) (scan (Then x (block_flow agents procs (scope ++ more) rest ys)) us)) (sym (let_is agents procs scope us s sim.names sim.count n m))
      (step agents h.0 hi scope more (scope ++ more) us x s t (pass procs rest ys) (block_flow agents procs (scope ++ more) rest ys)
      (stage_is agents lo h.0 scope us s faults (sum_asks m) [] ns kind.Number sim rise) refl
      (λ m'. code_same rest ys h.0 hi (scope ++ more) (noted_all us x.events) t h.2 m'))
  code_same (Join p q n rest) ys lo hi scope us s h sim =
      let faults = pieces_faults scope (p ∷ q ∷ []) in
      let ns : List Name = n ∷ [] in
      let more : Scope Binding = map (entry kind.Piece) ns in
      let t : State = bound kind.Piece ns (used (p ∷ q ∷ []) (looked (faults ++ []) s)) in
      let x : Stage = stage scope faults [] (p ∷ q ∷ []) ns in
      let rise : RiseTo lo (names_at ns) h.0 = rise_last (p.at ∷ q.at ∷ []) (n.at ∷ []) lo h.0 h.1 in
      subst (λ (z : State). Same agents hi scope s (then_pass (tell z) (pass procs rest ys)) (scan (Then x (block_flow agents procs (scope ++ more) rest ys)) us)) (sym (join_is agents procs scope us s sim.names sim.count p q n))
      (step agents h.0 hi scope more (scope ++ more) us x s t (pass procs rest ys) (block_flow agents procs (scope ++ more) rest ys)
      (stage_is agents lo h.0 scope us s faults [] (p ∷ q ∷ []) ns kind.Piece sim rise) refl
      (λ m'. code_same rest ys h.0 hi (scope ++ more) (noted_all us x.events) t h.2 m'))
  code_same (Give p a rest) ys lo hi scope us s h sim =
      let faults = pieces_faults scope (p ∷ []) ++ ref_faults agents scope a in
      let t : State = bound kind.Piece [] (used (p ∷ []) (looked (faults ++ []) s)) in
      let x : Stage = stage scope faults [] (p ∷ []) [] in
      subst (λ (z : State). Same agents hi scope s (then_pass (tell z) (pass procs rest ys)) (scan (Then x (block_flow agents procs scope rest ys)) us)) (sym (give_is agents procs scope us s sim.names sim.count p a))
      (step agents h.0 hi scope [] scope us x s t (pass procs rest ys) (block_flow agents procs scope rest ys)
      (stage_is agents lo h.0 scope us s faults [] (p ∷ []) [] kind.Piece sim (none_rises (p.at ∷ ref_at a) lo h.0 h.1)) (append-nil scope)
      (λ m'. code_same rest ys h.0 hi scope (noted_all us x.events) t h.2 m'))
  code_same (Pick a ps ns end rest) ys lo hi scope us s h sim =
      let faults = ref_faults agents scope a ++ pieces_faults scope ps ++ pick_faults ps ns end in
      let more : Scope Binding = map (entry kind.Piece) ns in
      let t : State = bound kind.Piece ns (used ps (looked (faults ++ []) s)) in
      let x : Stage = stage scope faults [] ps ns in
      let rise = rise_first (names_at ns) (end ∷ []) lo h.0 (rise_last (names_at ps) (names_at ns ++ end ∷ []) lo h.0 (rise_last (ref_at a) (names_at ps ++ (names_at ns ++ end ∷ [])) lo h.0 h.1)) in
      subst (λ (z : State). Same agents hi scope s (then_pass (tell z) (pass procs rest ys)) (scan (Then x (block_flow agents procs (scope ++ more) rest ys)) us)) (sym (pick_is agents procs scope us s sim.names sim.count a ps ns end))
      (step agents h.0 hi scope more (scope ++ more) us x s t (pass procs rest ys) (block_flow agents procs (scope ++ more) rest ys)
      (stage_is agents lo h.0 scope us s faults [] ps ns kind.Piece sim rise) refl
      (λ m'. code_same rest ys h.0 hi (scope ++ more) (noted_all us x.events) t h.2 m'))
  code_same (Call f xs ns end rest) ys lo hi scope us s h sim =
      let faults = call_faults procs f xs ns end ++ flat_map (arg_faults agents scope) xs in
      let more : Scope Binding = map (entry kind.Piece) ns in
      let t : State = bound kind.Piece ns (used (flat_map arg_uses xs) (looked (faults ++ asks_told s.names (flat_map arg_asks xs)) s)) in
      let x : Stage = stage scope faults (flat_map arg_asks xs) (flat_map arg_uses xs) ns in
      let rise = rise_first (names_at ns) (end ∷ []) lo h.0 (rise_last (flat_map arg_at xs) (names_at ns ++ end ∷ []) lo h.0 (rise_tail f.at (flat_map arg_at xs ++ (names_at ns ++ end ∷ [])) lo h.0 h.1)) in
      subst (λ (z : State). Same agents hi scope s (then_pass (tell z) (pass procs rest ys)) (scan (Then x (block_flow agents procs (scope ++ more) rest ys)) us)) (sym (call_is agents procs scope us s sim.names sim.count f xs ns end))
      (step agents h.0 hi scope more (scope ++ more) us x s t (pass procs rest ys) (block_flow agents procs (scope ++ more) rest ys)
      (stage_is agents lo h.0 scope us s faults (flat_map arg_asks xs) (flat_map arg_uses xs) ns kind.Piece sim rise) refl
      (λ m'. code_same rest ys h.0 hi (scope ++ more) (noted_all us x.events) t h.2 m'))
  code_same (If l o r one one_yields other other_yields names end rest) ys lo hi scope us s h sim =
      let faults = sum_faults agents scope l ++ sum_faults agents scope r in
      let asked = sum_asks l ++ sum_asks r in
      let t : State = bound kind.Piece [] (used [] (looked (faults ++ asks_told s.names asked) s)) in
      let x : Stage = stage scope faults asked [] [] in
      let more : Scope Binding = map (entry kind.Piece) names in
      let z : Stage = stage scope (if_faults one_yields other_yields names end) [] [] names in
      let tail : Flow = Then z (block_flow agents procs (scope ++ more) rest ys) in
      let both : Flow = Split (block_flow agents procs scope one one_yields) (block_flow agents procs scope other other_yields) tail in
      let last : State → Passed = λ (q : State). then_pass (tell (end_step one_yields other_yields names end q)) (pass procs rest ys) in
      let go : State → Passed = λ (t : State). then_closed (closed t (pass procs one one_yields (inside t))) (λ uses u. then_closed (closed u (pass procs other other_yields (inside u))) (λ more v. last (remarked more (remarked uses v)))) in
      let rise = rise_first (names_at names) (end ∷ []) h.2 h.3 h.7 in
      subst (λ (w : State). Same agents hi scope s (then_pass (tell w) go) (scan (Then x both) us)) (sym (test_is agents procs scope us s sim.names sim.count l r))
      (step agents h.0 hi scope [] scope us x s t go both
      (stage_is agents lo h.0 scope us s faults asked [] [] kind.Piece sim (none_rises (sum_at l ++ sum_at r) lo h.0 h.4)) (append-nil scope)
      (λ m. halves hi h.0 h.1 h.2 scope (noted_all us x.events) t (pass procs one one_yields (inside t)) (scan (block_flow agents procs scope one one_yields) (noted_all us x.events))
      (pass procs other other_yields) (scan (block_flow agents procs scope other other_yields) (noted_all us x.events)) last (λ v. scan tail v)
      (placed_on one one_yields h.0 h.1 h.5) (placed_on other other_yields h.1 h.2 h.6) m
      (code_same one one_yields h.0 h.1 scope (noted_all us x.events) (inside t) h.5 (sim_later agents h.0 h.0 scope (noted_all us x.events) t (inside t) (omega arith) m refl m.found m.count))
      (λ u w. code_same other other_yields h.1 h.2 scope (noted_all us x.events) (inside u) h.6 (sim_later agents h.1 h.1 scope (noted_all us x.events) u (inside u) (omega arith) w refl w.found w.count))
      (λ q v w.
      let e : State = bound kind.Piece names (used [] (looked (if_faults one_yields other_yields names end ++ []) q)) in
      subst (λ (y : State). Same agents hi scope q (then_pass (tell y) (pass procs rest ys)) (scan tail v)) (sym (end_is agents procs scope v q w.names w.count one_yields other_yields names end))
      (step agents h.3 hi scope more (scope ++ more) v z q e (pass procs rest ys) (block_flow agents procs (scope ++ more) rest ys)
      (stage_is agents h.2 h.3 scope v q (if_faults one_yields other_yields names end) [] [] names kind.Piece w rise) refl
      (λ m'. code_same rest ys h.3 hi (scope ++ more) (noted_all v z.events) e h.8 m')))))
