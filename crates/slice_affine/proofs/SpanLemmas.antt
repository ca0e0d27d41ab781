-- The stages of a program stand in their order.
use Rattle.std.proofs.Common.{ℕ, ◌≤◌, ◌&&◌, ◌==◌, List, [], ◌∷◌, ◌++◌, inl, inr, ⊎_elim, map, length, refl, subst, arith, is_some}
use Rattle.std.specs.Prelude.{if◌then◌else◌, nat_le}
use Rattle.std.specs.List.{flat_map}
use Rattle.slice_ast.specs.Code.{Code, End, Cut, Let, Join, Give, If, Pick, Call, PlainProc, PlainProgram}
use Rattle.slice_ast.specs.declared.tree.Name.{Name}
use Rattle.slice_ast.specs.declared.tree.AgentRef.{AgentRef}
use Rattle.slice_ast.specs.declared.tree.Sum.{Sum}
use Rattle.slice_ast.specs.declared.tree.Arg.{Arg}
use Rattle.slice_affine.specs.Scope.{Scope, Binding, params_scope, cake_scope, bind, bind_number}
use Rattle.slice_affine.specs.Looks.{procedure, call_faults, if_faults, pick_faults, ref_faults, sum_faults, arg_faults, pieces_faults, sum_asks, arg_asks, arg_uses}
use Rattle.slice_affine.specs.Faults.{place_of}
use Rattle.slice_affine.specs.Ways.{IsIn}
use Rattle.slice_affine.specs.Rules.{stage, block_flow, head_stage, procs_flow, flow_of}
use Rattle.slice_affine.proofs.Spans.{Lies, Spans, RiseTo}
use Rattle.slice_affine.proofs.Placed.{Placed, PlacedProcs, names_at, ref_at, sum_at, arg_at, cut_at, let_at, join_at, give_at, pick_at, call_at}
use Rattle.slice_affine.proofs.WayLemmas.{in_left, in_right, in_parts}
use Rattle.slice_affine.proofs.SimLemmas.{rise_on}
use Rattle.slice_affine.proofs.CodeLemmas.{rise_first, rise_last, rise_tail, placed_on}
use Rattle.slice_affine.proofs.PlaceLemmas.{at_same, at_wider, unless_at, if_at, flat_at, ref_in, sum_in, arg_in, pieces_in, rebound_in, call_in, rise_in, stage_lies, names_append, two_rise, flat_rise, flat_in, sum_rise, arg_rise, use_rise, sum_asked_in, arg_asked_in, arg_used_in}
use Rattle.slice_affine.specs.declared.fault.AffineFault.{AffineFault}
use Rattle.slice_affine.specs.declared.fault.AffineFault.TheVariants.{Rebound, YieldCount, ProcLimit, AgentRange}

single : (x y : ℕ) (xs : List ℕ) → IsIn x (y ∷ []) → IsIn x (y ∷ xs)
single x y xs i = ⊎_elim (λ e. inl e) (λ z. absurd z) i

none_in : (xs : List ℕ) (x : ℕ) → IsIn x [] → IsIn x xs
none_in xs x i = absurd i

module _ (count : ℕ) (procs : List PlainProc) where
  cut_lies : (scope : Scope Binding) (a : AgentRef) (p : Name) (m : Sum) (l r : Name) (lo mid : ℕ) → RiseTo lo (cut_at a p m l r) mid
      → Lies lo mid (stage scope (ref_faults count scope a ++ pieces_faults scope (p ∷ []) ++ sum_faults count scope m) (sum_asks m) (p ∷ []) (l ∷ r ∷ []))
  cut_lies scope a p m l r lo mid h =
      let xs = cut_at a p m l r in
      let ns : List ℕ = l.at ∷ r.at ∷ [] in
      let rest : List ℕ = p.at ∷ (sum_at m ++ ns) in
      let R = ref_faults count scope a in
      let P = pieces_faults scope (p ∷ []) in
      let M = sum_faults count scope m in
      let ip : (x : ℕ) → IsIn x (p.at ∷ []) → IsIn x xs = λ x i. in_right x (ref_at a) rest (single x p.at (sum_at m ++ ns) i) in
      let is : (x : ℕ) → IsIn x (sum_at m) → IsIn x xs = λ x i. in_right x (ref_at a) rest (inr (in_left x (sum_at m) ns i)) in
      let after = rise_last (ref_at a) rest lo mid h in
      stage_lies scope ((R ++ P) ++ M) (sum_asks m) (p ∷ []) (l ∷ r ∷ []) xs lo mid h
      (at_same (R ++ P) M xs
      (at_same R P xs (at_wider R (ref_at a) xs (λ x i. in_left x (ref_at a) rest i) (ref_in count scope a)) (at_wider P (p.at ∷ []) xs ip (pieces_in count scope (p ∷ []))))
      (at_wider M (sum_at m) xs is (sum_in count scope m)))
      (λ x i. is x (sum_asked_in m x i)) ip (λ x i. in_right x (ref_at a) rest (inr (in_right x (sum_at m) ns i)))
      (sum_rise m lo mid (rise_first (sum_at m) ns lo mid (rise_tail p.at (sum_at m ++ ns) lo mid after)))
      (rise_first (p.at ∷ []) (sum_at m ++ ns) lo mid after)

  let_lies : (scope : Scope Binding) (n : Name) (m : Sum) (lo mid : ℕ) → RiseTo lo (let_at n m) mid → Lies lo mid (stage scope (sum_faults count scope m) (sum_asks m) [] (n ∷ []))
  let_lies scope n m lo mid h =
      let xs = let_at n m in
      stage_lies scope (sum_faults count scope m) (sum_asks m) [] (n ∷ []) xs lo mid h
      (at_wider (sum_faults count scope m) (sum_at m) xs (λ x i. inr i) (sum_in count scope m))
      (λ x i. inr (sum_asked_in m x i)) (none_in xs) (λ x i. single x n.at (sum_at m) i)
      (sum_rise m lo mid (rise_tail n.at (sum_at m) lo mid h)) (rise_on xs lo mid h)

  join_lies : (scope : Scope Binding) (p q n : Name) (lo mid : ℕ) → RiseTo lo (join_at p q n) mid → Lies lo mid (stage scope (pieces_faults scope (p ∷ q ∷ [])) [] (p ∷ q ∷ []) (n ∷ []))
  join_lies scope p q n lo mid h =
      let xs = join_at p q n in
      let ps : List ℕ = p.at ∷ q.at ∷ [] in
      let ip : (x : ℕ) → IsIn x ps → IsIn x xs = λ x i. in_left x ps (n.at ∷ []) i in
      stage_lies scope (pieces_faults scope (p ∷ q ∷ [])) [] (p ∷ q ∷ []) (n ∷ []) xs lo mid h
      (at_wider (pieces_faults scope (p ∷ q ∷ [])) ps xs ip (pieces_in count scope (p ∷ q ∷ [])))
      (none_in xs) ip (λ x i. in_right x ps (n.at ∷ []) i) (rise_on xs lo mid h) (rise_first ps (n.at ∷ []) lo mid h)

  give_lies : (scope : Scope Binding) (p : Name) (a : AgentRef) (lo mid : ℕ) → RiseTo lo (give_at p a) mid → Lies lo mid (stage scope (pieces_faults scope (p ∷ []) ++ ref_faults count scope a) [] (p ∷ []) [])
  give_lies scope p a lo mid h =
      let xs = give_at p a in
      let P = pieces_faults scope (p ∷ []) in
      let R = ref_faults count scope a in
      stage_lies scope (P ++ R) [] (p ∷ []) [] xs lo mid h
      (at_same P R xs (at_wider P (p.at ∷ []) xs (λ x i. single x p.at (ref_at a) i) (pieces_in count scope (p ∷ []))) (at_wider R (ref_at a) xs (λ x i. inr i) (ref_in count scope a)))
      (none_in xs) (λ x i. single x p.at (ref_at a) i) (none_in xs) (rise_on xs lo mid h) (rise_first (p.at ∷ []) (ref_at a) lo mid h)

  test_lies : (scope : Scope Binding) (l r : Sum) (lo mid : ℕ) → RiseTo lo (sum_at l ++ sum_at r) mid
      → Lies lo mid (stage scope (sum_faults count scope l ++ sum_faults count scope r) (sum_asks l ++ sum_asks r) [] [])
  test_lies scope l r lo mid h =
      let xs : List ℕ = sum_at l ++ sum_at r in
      let L = sum_faults count scope l in
      let R = sum_faults count scope r in
      let terms = λ (m : Sum). m.terms in
      stage_lies scope (L ++ R) (sum_asks l ++ sum_asks r) [] [] xs lo mid h
      (at_same L R xs (at_wider L (sum_at l) xs (λ x i. in_left x (sum_at l) (sum_at r) i) (sum_in count scope l)) (at_wider R (sum_at r) xs (λ x i. in_right x (sum_at l) (sum_at r) i) (sum_in count scope r)))
      (λ x i. ⊎_elim (λ a. in_left x (sum_at l) (sum_at r) (sum_asked_in l x a)) (λ a. in_right x (sum_at l) (sum_at r) (sum_asked_in r x a))
      (in_parts x (names_at (sum_asks l)) (names_at (sum_asks r)) (subst (λ (z : List ℕ). IsIn x z) (names_append (sum_asks l) (sum_asks r)) i)))
      (none_in xs) (none_in xs)
      (both l r lo mid h)
      (rise_on xs lo mid h)
    where
      both : (l r : Sum) (lo mid : ℕ) → RiseTo lo (sum_at l ++ sum_at r) mid → RiseTo lo (names_at (sum_asks l ++ sum_asks r)) mid
      both l r lo mid h = two_rise sum_asks sum_at (λ m a b x. sum_rise m a b x) l r lo mid h

  end_lies : (scope : Scope Binding) (ys zs ns : List Name) (end lo mid : ℕ) → RiseTo lo (names_at ns ++ end ∷ []) mid → Lies lo mid (stage scope (if_faults ys zs ns end) [] [] ns)
  end_lies scope ys zs ns end lo mid h =
      let xs : List ℕ = names_at ns ++ end ∷ [] in
      stage_lies scope (if_faults ys zs ns end) [] [] ns xs lo mid h
      (unless_at ((length ns == length ys) && (length ns == length zs)) (YieldCount end) xs (in_right end (names_at ns) (end ∷ []) (inl refl)))
      (none_in xs) (none_in xs) (λ x i. in_left x (names_at ns) (end ∷ []) i) (rise_on xs lo mid h) (rise_on xs lo mid h)

  pick_lies : (scope : Scope Binding) (a : AgentRef) (ps ns : List Name) (end lo mid : ℕ) → RiseTo lo (pick_at a ps ns end) mid
      → Lies lo mid (stage scope (ref_faults count scope a ++ pieces_faults scope ps ++ pick_faults ps ns end) [] ps ns)
  pick_lies scope a ps ns end lo mid h =
      let xs = pick_at a ps ns end in
      let last : List ℕ = names_at ns ++ end ∷ [] in
      let rest : List ℕ = names_at ps ++ last in
      let R = ref_faults count scope a in
      let P = pieces_faults scope ps in
      let F = pick_faults ps ns end in
      let ip : (x : ℕ) → IsIn x (names_at ps) → IsIn x xs = λ x i. in_right x (ref_at a) rest (in_left x (names_at ps) last i) in
      let il : (x : ℕ) → IsIn x last → IsIn x xs = λ x i. in_right x (ref_at a) rest (in_right x (names_at ps) last i) in
      stage_lies scope ((R ++ P) ++ F) [] ps ns xs lo mid h
      (at_same (R ++ P) F xs
      (at_same R P xs (at_wider R (ref_at a) xs (λ x i. in_left x (ref_at a) rest i) (ref_in count scope a)) (at_wider P (names_at ps) xs ip (pieces_in count scope ps)))
      (unless_at (nat_le 2 (length ps) && (length ns == length ps)) (YieldCount end) xs (il end (in_right end (names_at ns) (end ∷ []) (inl refl)))))
      (none_in xs) ip (λ x i. il x (in_left x (names_at ns) (end ∷ []) i)) (rise_on xs lo mid h)
      (rise_first (names_at ps) last lo mid (rise_last (ref_at a) rest lo mid h))

  call_lies : (scope : Scope Binding) (f : Name) (gs : List Arg) (ns : List Name) (end lo mid : ℕ) → RiseTo lo (call_at f gs ns end) mid
      → Lies lo mid (stage scope (call_faults procs f gs ns end ++ flat_map (arg_faults count scope) gs) (flat_map arg_asks gs) (flat_map arg_uses gs) ns)
  call_lies scope f gs ns end lo mid h =
      let xs = call_at f gs ns end in
      let A : List ℕ = flat_map arg_at gs in
      let last : List ℕ = names_at ns ++ end ∷ [] in
      let C = call_faults procs f gs ns end in
      let X = flat_map (arg_faults count scope) gs in
      let ia : (x : ℕ) → IsIn x A → IsIn x xs = λ x i. inr (in_left x A last i) in
      let il : (x : ℕ) → IsIn x last → IsIn x xs = λ x i. inr (in_right x A last i) in
      let ic : (x : ℕ) → IsIn x (f.at ∷ end ∷ []) → IsIn x xs = λ x i. ⊎_elim (λ e. inl e) (λ j. il x (in_right x (names_at ns) (end ∷ []) j)) i in
      let rise : RiseTo lo A mid = rise_first A last lo mid (rise_tail f.at (A ++ last) lo mid h) in
      stage_lies scope (C ++ X) (flat_map arg_asks gs) (flat_map arg_uses gs) ns xs lo mid h
      (at_same C X xs (at_wider C (f.at ∷ end ∷ []) xs ic (call_in procs f gs ns end)) (at_wider X A xs ia (flat_at (arg_faults count scope) arg_at (arg_in count scope) gs)))
      (λ x i. ia x (flat_in arg_asks arg_at arg_asked_in gs x i)) (λ x i. ia x (flat_in arg_uses arg_at arg_used_in gs x i)) (λ x i. il x (in_left x (names_at ns) (end ∷ []) i))
      (flat_rise arg_asks arg_at arg_rise gs lo mid rise) (flat_rise arg_uses arg_at use_rise gs lo mid rise)

  pub spans : (c : Code) (ys : List Name) (lo hi : ℕ) (scope : Scope Binding) → Placed lo c ys hi → Spans lo hi (block_flow count procs scope c ys)
  spans End ys lo hi scope h = (
    hi,
    rise_on (names_at ys) lo hi h,
    stage_lies scope (pieces_faults scope ys) [] ys [] (names_at ys) lo hi h (pieces_in count scope ys) (none_in (names_at ys)) (λ x i. i) (none_in (names_at ys)) (rise_on (names_at ys) lo hi h) h,
    omega arith,
  )
  spans (Cut a p m l r rest) ys lo hi scope h = (h.0, rise_on (cut_at a p m l r) lo h.0 h.1, cut_lies scope a p m l r lo h.0 h.1, spans rest ys h.0 hi (bind (l ∷ r ∷ []) scope) h.2)
  spans (Let n m rest) ys lo hi scope h = (h.0, rise_on (let_at n m) lo h.0 h.1, let_lies scope n m lo h.0 h.1, spans rest ys h.0 hi (bind_number n scope) h.2)
  spans (Join p q n rest) ys lo hi scope h = (h.0, rise_on (join_at p q n) lo h.0 h.1, join_lies scope p q n lo h.0 h.1, spans rest ys h.0 hi (bind (n ∷ []) scope) h.2)
  spans (Give p a rest) ys lo hi scope h = (h.0, rise_on (give_at p a) lo h.0 h.1, give_lies scope p a lo h.0 h.1, spans rest ys h.0 hi scope h.2)
  spans (Pick a ps ns end rest) ys lo hi scope h = (h.0, rise_on (pick_at a ps ns end) lo h.0 h.1, pick_lies scope a ps ns end lo h.0 h.1, spans rest ys h.0 hi (bind ns scope) h.2)
  spans (Call f xs ns end rest) ys lo hi scope h = (h.0, rise_on (call_at f xs ns end) lo h.0 h.1, call_lies scope f xs ns end lo h.0 h.1, spans rest ys h.0 hi (bind ns scope) h.2)
  spans (If l o r one one_yields other other_yields names end rest) ys lo hi scope h = (
    h.0,
    rise_on (sum_at l ++ sum_at r) lo h.0 h.4,
    test_lies scope l r lo h.0 h.4,
    (
      h.1,
      h.2,
      placed_on one one_yields h.0 h.1 h.5,
      placed_on other other_yields h.1 h.2 h.6,
      spans one one_yields h.0 h.1 scope h.5,
      spans other other_yields h.1 h.2 scope h.6,
      (h.3, rise_on (names_at names ++ end ∷ []) h.2 h.3 h.7, end_lies scope one_yields other_yields names end h.2 h.3 h.7, spans rest ys h.3 hi (bind names scope) h.8),
    ),
  )

head_lies : (procs : List PlainProc) (q : PlainProc) (lo mid : ℕ) → RiseTo lo (q.name.at ∷ names_at (map (λ x. x.name) q.params)) mid → Lies lo mid (head_stage procs q)
head_lies procs q lo mid h =
    let ns : List Name = map (λ x. x.name) q.params in
    let xs : List ℕ = q.name.at ∷ names_at ns in
    let D : List AffineFault = if is_some (procedure procs q.name.word) then Rebound q.name.word q.name.at ∷ [] else [] in
    let L : List AffineFault = if length procs == 64 then ProcLimit q.name.at ∷ [] else [] in
    record {
      faults = λ f i. rise_in xs lo mid (place_of f) h (at_same D L xs
          (if_at (is_some (procedure procs q.name.word)) (Rebound q.name.word q.name.at) xs (inl refl))
          (if_at (length procs == 64) (ProcLimit q.name.at) xs (inl refl)) f i);
      rebinds = λ f i. rise_in xs lo mid (place_of f) h (inr (rebound_in [] ns f i));
      events = λ e i. absurd i;
      once = tt;
    }

pub procs_span : (p : PlainProgram) (qs earlier : List PlainProc) (lo hi : ℕ) → PlacedProcs lo p qs hi → Spans lo hi (procs_flow p earlier qs)
procs_span p [] earlier lo hi h =
    let n = p.agents in (
      h.0,
      rise_on (n.at ∷ []) lo h.0 h.1,
      record {
        faults = λ f i. rise_in (n.at ∷ []) lo h.0 (place_of f) h.1 (unless_at (nat_le 1 n.value && nat_le n.value 16) (AgentRange n.at) (n.at ∷ []) (inl refl) f i);
        rebinds = λ f i. absurd i;
        events = λ e i. absurd i;
        once = tt;
      },
      spans n.value earlier p.body [] h.0 hi cake_scope h.2,
    )
procs_span p (q ∷ qs) earlier lo hi h = (
  h.0,
  rise_on (q.name.at ∷ names_at (map (λ x. x.name) q.params)) lo h.0 h.2,
  head_lies earlier q lo h.0 h.2,
  (
    h.1,
    hi,
    placed_on q.body.code q.body.yields h.0 h.1 h.3,
    procs_on p qs h.1 hi h.4,
    spans p.agents.value earlier q.body.code q.body.yields h.0 h.1 (params_scope q.params) h.3,
    procs_span p qs (earlier ++ q ∷ []) h.1 hi h.4,
    omega arith,
  ),
)
  where
    procs_on : (p : PlainProgram) (qs : List PlainProc) (lo hi : ℕ) → PlacedProcs lo p qs hi → lo ≤ hi
    procs_on p [] lo hi h = let a : lo ≤ h.0 = rise_on (p.agents.at ∷ []) lo h.0 h.1 in let b : h.0 ≤ hi = placed_on p.body [] h.0 hi h.2 in omega arith
    procs_on p (q ∷ qs) lo hi h =
        let a : lo ≤ h.0 = rise_on (q.name.at ∷ names_at (map (λ x. x.name) q.params)) lo h.0 h.2 in
        let b : h.0 ≤ h.1 = placed_on q.body.code q.body.yields h.0 h.1 h.3 in
        let c : h.1 ≤ hi = procs_on p qs h.1 hi h.4 in omega arith

pub program_span : (p : PlainProgram) (hi : ℕ) → PlacedProcs 0 p p.procs hi → Spans 0 hi (flow_of p)
program_span p hi h = procs_span p p.procs [] 0 hi h
