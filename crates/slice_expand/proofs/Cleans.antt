-- The code of a program that was checked is clean.
use Rattle.std.proofs.Common.{◌≡◌, ◌∙◌, ℕ, ◌-◌, ◌++◌, List, [], ◌∷◌, length, drop, map, true, false, ◌&&◌, ◌==◌, Option, Some, None, arith, refl, ap, sym, subst}
use Rattle.std.specs.Prelude.{nat_le}
use Rattle.std.specs.List.{flat_map}
use Rattle.std.specs.Map.{keys_of}
use Rattle.std.proofs.lemmas.Bool.Decides.{nat_tests}
use Rattle.slice_ast.specs.Code.{Code, End, Cut, Let, Join, Give, If, Pick, Call, PlainProc}
use Rattle.slice_ast.specs.declared.tree.Kind.{Kind}
use Rattle.slice_ast.specs.declared.tree.Kind.TheVariants as kind
use Rattle.slice_ast.specs.declared.tree.Name.{Name}
use Rattle.slice_ast.specs.declared.tree.Param.{Param}
use Rattle.slice_ast.specs.declared.tree.Arg.{Arg}
use Rattle.slice_ast.specs.declared.tree.Arg.TheVariants as arg
use Rattle.slice_affine.specs.Scope.{Scope, Binding, entry, bind, bind_number}
use Rattle.slice_affine.proofs.Scan.{Used, noted_all, twice, Fine, scan, and_then}
use Rattle.slice_affine.specs.Pass.{lesser}
use Rattle.slice_affine.specs.Ways.{Stage, Flow, Stop, Then, Split}
use Rattle.slice_affine.specs.Looks.{unless, rebound, is_kind, fit, arg_kind, procedure, faults_calling, call_faults, if_faults, pick_faults, ref_faults, sum_faults, arg_faults, pieces_faults, sum_asks, arg_asks, arg_uses}
use Rattle.slice_affine.specs.Rules.{events, stage, block_flow}
use Rattle.slice_affine.specs.declared.fault.AffineFault.TheVariants.{Arity, YieldCount}
use Rattle.slice_expand.proofs.Clean.{AgentSort, NumberSort, Unused, Sort, Sorts, sorted, bind_sorts, unused, kind_sort, param_sorts, Spends, arg_sorts, arg_pieces, Callable, Clean}
use Rattle.slice_expand.proofs.Agreed.{not_both, Agrees, IsLater, lesser_none, agrees_later, keys_self, entries, sorts_in, names_in, agrees_entries, Over, Reaches, over_self, over_entries, over_later, over_out}
use Rattle.slice_expand.proofs.Lines.{none_left, none_right, unless_none, and_left, and_right, opened, fine_same, split, asked, each_left, each_right, IsFree, agent_ok, terms_ok, args_ok, arg_uses_are, arg_pieces_bound, spends}

-- ---- new names of one kind
abbrev as_pieces : List Name → List (Kind × Name)
as_pieces [] = []
as_pieces (x ∷ xs) = (kind.Piece, x) ∷ as_pieces xs

names_are : (xs : List Name) → names_in (as_pieces xs) ≡ xs
names_are [] = refl
names_are (x ∷ xs) = ap (λ ys. x ∷ ys) (names_are xs)

entries_are : (xs : List Name) → entries (as_pieces xs) ≡ map (entry kind.Piece) xs
entries_are [] = refl
entries_are (x ∷ xs) = ap (λ ys. entry kind.Piece x ∷ ys) (entries_are xs)

sorts_are : (xs : List Name) (ss : Sorts) → sorts_in (as_pieces xs) ss ≡ bind_sorts xs (unused xs) ss
sorts_are [] ss = refl
sorts_are (x ∷ xs) ss = sorts_are xs (sorted x Unused ss)

-- names are bound to pieces
agrees_bind : (xs : List Name) (scope : Scope Binding) (us : Used) (ss : Sorts) → rebound (keys_of scope) xs ≡ [] → Agrees scope us ss → Agrees (bind xs scope) us (bind_sorts xs (unused xs) ss)
agrees_bind xs scope us ss new a =
    coe 0 1 (i. Agrees (scope ++ entries_are xs i) us (sorts_are xs ss i))
    (agrees_entries (as_pieces xs) (keys_of scope) scope us ss (keys_self scope) (ap (rebound (keys_of scope)) (names_are xs) ∙ new) a)

over_bind : (xs : List Name) (base : Scope Binding) (n : ℕ) (scope : Scope Binding) (us : Used) (ss : Sorts) → Over base n scope us ss → Over base n (bind xs scope) us (bind_sorts xs (unused xs) ss)
over_bind xs base n scope us ss o = coe 0 1 (i. Over base n (scope ++ entries_are xs i) us (sorts_are xs ss i)) (over_entries (as_pieces xs) base n scope us ss o)

agrees_number : (x : Name) (scope : Scope Binding) (us : Used) (ss : Sorts) → rebound (keys_of scope) (x ∷ []) ≡ [] → Agrees scope us ss → Agrees (bind_number x scope) us (sorted x NumberSort ss)
agrees_number x scope us ss new a = agrees_entries ((kind.Number, x) ∷ []) (keys_of scope) scope us ss (keys_self scope) new a

over_number : (x : Name) (base : Scope Binding) (n : ℕ) (scope : Scope Binding) (us : Used) (ss : Sorts) → Over base n scope us ss → Over base n (bind_number x scope) us (sorted x NumberSort ss)
over_number x base n scope us ss o = over_entries ((kind.Number, x) ∷ []) base n scope us ss o

-- ---- calls
-- what may be called, by the procedures that were defined earlier
abbrev pub CallsAgree : List PlainProc → Callable → Type 0
CallsAgree earlier calls = (word : List ℕ) (p : PlainProc) (xs : List Arg) (m : ℕ) → procedure earlier word ≡ Some p → fit xs p.params ≡ true → m ≡ length p.body.yields → calls word (arg_sorts xs) m

kind_same : (x : Arg) (k : Kind) → is_kind (arg_kind x) k ≡ true → (xs : List Arg) (ss : List Sort) → arg_sorts xs ≡ ss → arg_sorts (x ∷ xs) ≡ kind_sort k ∷ ss
kind_same (arg.Agent a) kind.Agent h xs ss e = ap (λ r. AgentSort ∷ r) e
kind_same (arg.Agent a) kind.Piece h xs ss e = not_both false h refl
kind_same (arg.Agent a) kind.Number h xs ss e = not_both false h refl
kind_same (arg.Piece x) kind.Agent h xs ss e = not_both false h refl
kind_same (arg.Piece x) kind.Piece h xs ss e = ap (λ r. Unused ∷ r) e
kind_same (arg.Piece x) kind.Number h xs ss e = not_both false h refl
kind_same (arg.Number s) kind.Agent h xs ss e = not_both false h refl
kind_same (arg.Number s) kind.Piece h xs ss e = not_both false h refl
kind_same (arg.Number s) kind.Number h xs ss e = ap (λ r. NumberSort ∷ r) e

pub fit_sorts : (xs : List Arg) (ps : List Param) → fit xs ps ≡ true → arg_sorts xs ≡ param_sorts ps
fit_sorts [] [] h = refl
fit_sorts [] (p ∷ ps) h = not_both false h refl
fit_sorts (x ∷ xs) [] h = not_both false h refl
fit_sorts (x ∷ xs) (p ∷ ps) h = kind_same x p.kind (and_left (is_kind (arg_kind x) p.kind) (fit xs ps) h) xs (param_sorts ps) (fit_sorts xs ps (and_right (is_kind (arg_kind x) p.kind) (fit xs ps) h))

same_count : (m n : ℕ) → (m == n) ≡ true → m ≡ n
same_count m n h = grind (arith, nat_tests)

callee_ok : (earlier : List PlainProc) (calls : Callable) → CallsAgree earlier calls → (f : Name) (xs : List Arg) (ys : List Name) (at : ℕ) → call_faults earlier f xs ys at ≡ [] → calls f.word (arg_sorts xs) (length ys)
callee_ok earlier calls agree f xs ys at h = by (procedure earlier f.word) refl h
  where
    by : (o : Option PlainProc) → procedure earlier f.word ≡ o → faults_calling o f xs ys at ≡ [] → calls f.word (arg_sorts xs) (length ys)
    by None e g = absurd cc
    by (Some p) e g =
        let fits = unless_none (fit xs p.params) (Arity f.at) (none_left (unless (fit xs p.params) (Arity f.at)) (unless (length ys == length p.body.yields) (YieldCount at)) g) in
        let many = unless_none (length ys == length p.body.yields) (YieldCount at) (none_right (unless (fit xs p.params) (Arity f.at)) (unless (length ys == length p.body.yields) (YieldCount at)) g) in
        agree f.word p xs (length ys) e fits (same_count (length ys) (length p.body.yields) many)

-- ---- the end of a block
pub record IsEnd (n : ℕ) (scope : Scope Binding) (us : Used) (ys : List Name) (vs : Used) : Type 0 where
  pub bound : pieces_faults scope ys ≡ []
  pub uses : twice us (events true scope ys) ≡ []
  pub last : noted_all us (events true scope ys) ≡ vs

end_of : (n : ℕ) (scope : Scope Binding) (us : Used) (ys : List Name) (vs : Used) → scan (Then (stage scope (pieces_faults scope ys) [] ys []) Stop) us ≡ Fine vs → IsEnd n scope us ys vs
end_of n scope us ys vs h =
    let o = opened us (stage scope (pieces_faults scope ys) [] ys []) (Fine (noted_all us (events true scope ys))) vs h in
    record { bound = o.looks; uses = o.events; last = fine_same (noted_all us (events true scope ys)) vs o.goes_on }

-- what follows a block that ended so
abbrev pub Goes : (n : ℕ) (ys : List Name) (vs : Used) (scope : Scope Binding) (us : Used) (ss : Sorts) → (Sorts → Type 0) → Type 0
Goes n ys vs scope us ss go = (scope' : Scope Binding) (us' : Used) (ss' : Sorts) → Agrees scope' us' ss' → Reaches scope us ss scope' us' ss' → IsEnd n scope' us' ys vs → go ss'

goes_later : (n : ℕ) (ys : List Name) (vs : Used) (scope scope2 : Scope Binding) (us us2 : Used) (ss ss2 : Sorts) (go : Sorts → Type 0)
    → Reaches scope us ss scope2 us2 ss2 → Goes n ys vs scope us ss go → Goes n ys vs scope2 us2 ss2 go
goes_later n ys vs scope scope2 us us2 ss ss2 go r g scope' us' ss' a q e = g scope' us' ss' a (λ base m o. q base m (r base m o)) e

lesser_left : (u v : Used) → IsLater u (λ k. lesser (u k) (v k))
lesser_left u v k h = (lesser_none (u k) (v k) h).0

lesser_right : (u v : Used) → IsLater v (λ k. lesser (u k) (v k))
lesser_right u v k h = (lesser_none (u k) (v k) h).1

-- an arm of an `if`: what it yields is used, and its names are gone
arm_ends : (n : ℕ) (ys xs : List Name) (scope : Scope Binding) (us : Used) (ss : Sorts) (u w : Used) (next : Sorts → Type 0) → length xs ≡ length ys → Agrees scope us ss → IsLater u w
    → ((old : Sorts) → Agrees scope w old → Reaches scope us ss scope w old → next old)
    → Goes n ys u scope us ss (λ inner. Spends ys inner (λ after. (length xs ≡ length ys) × next (drop (length after - length ss) after)))
arm_ends n ys xs scope us ss u w next many a later f scope' us' inner b reach e =
    spends n scope' ys us' inner _ b e.bound e.uses
    (λ after c r.
    let o : Over scope (length ss) scope' u after = subst (λ (z : Used). Over scope (length ss) scope' z after) e.last (r scope (length ss) (reach scope (length ss) (over_self scope us ss a))) in (
      many,
      f (drop (length after - length ss) after) (agrees_later scope u w (drop (length after - length ss) after) later o.agrees)
          (λ base m p. over_later base m scope u w (drop (length after - length ss) after) later
          (over_out base m scope scope' us u ss after o.long p (subst (λ (z : Used). Over base m scope' z after) e.last (r base m (reach base m p))))),
    ))

-- ---- statements
module _ (n : ℕ) (earlier : List PlainProc) (calls : Callable) (agree : CallsAgree earlier calls) where
  pub clean_of : (c : Code) (ys : List Name) (scope : Scope Binding) (us vs : Used) (ss : Sorts) (go : Sorts → Type 0) → Agrees scope us ss
      → scan (block_flow n earlier scope c ys) us ≡ Fine vs → Goes n ys vs scope us ss go → Clean n calls c ss go
  clean_of End ys scope us vs ss go a h g = g scope us ss a (λ base m o. o) (end_of n scope us ys vs h)
  clean_of (Cut a x s l r rest) ys scope us vs ss go a0 h g =
      let inner : Scope Binding = bind (l ∷ r ∷ []) scope in
      let more : Flow = block_flow n earlier inner rest ys in
      let here : Stage = stage scope (ref_faults n scope a ++ pieces_faults scope (x ∷ []) ++ sum_faults n scope s) (sum_asks s) (x ∷ []) (l ∷ r ∷ []) in
      let o = opened us here (scan more (noted_all us here.events)) vs h in
      let q = asked scope us (sum_asks s) (events true scope (x ∷ [])) o.events in
      let now : Used = noted_all us (events true scope (x ∷ [])) in
      let next : scan more now ≡ Fine vs = subst (λ (w : Used). scan more w ≡ Fine vs) q.after o.goes_on in
      let two = none_left (ref_faults n scope a ++ pieces_faults scope (x ∷ [])) (sum_faults n scope s) o.looks in
      let used = spends n scope (x ∷ []) us ss (λ t. Clean n calls rest (sorted r Unused (sorted l Unused t)) go) a0 (none_right (ref_faults n scope a) (pieces_faults scope (x ∷ [])) two) q.uses
      (λ t b reach. clean_of rest ys inner now vs (sorted r Unused (sorted l Unused t)) go (agrees_bind (l ∷ r ∷ []) scope now t o.rebinds b) next
      (goes_later n ys vs scope inner us now ss (sorted r Unused (sorted l Unused t)) go (λ base m p. over_bind (l ∷ r ∷ []) base m scope now t (reach base m p)) g)) in (
        agent_ok n scope us ss a a0 (none_left (ref_faults n scope a) (pieces_faults scope (x ∷ [])) two),
        terms_ok n scope us ss s.terms a0 (none_right (ref_faults n scope a ++ pieces_faults scope (x ∷ [])) (sum_faults n scope s) o.looks) q.free,
        used.0,
        used.1,
      )
  clean_of (Let x s rest) ys scope us vs ss go a0 h g =
      let inner : Scope Binding = bind_number x scope in
      let more : Flow = block_flow n earlier inner rest ys in
      let here : Stage = stage scope (sum_faults n scope s) (sum_asks s) [] (x ∷ []) in
      let o = opened us here (scan more (noted_all us here.events)) vs h in
      let q = asked scope us (sum_asks s) [] o.events in
      let next : scan more us ≡ Fine vs = subst (λ (w : Used). scan more w ≡ Fine vs) q.after o.goes_on in (
        terms_ok n scope us ss s.terms a0 o.looks q.free,
        clean_of rest ys inner us vs (sorted x NumberSort ss) go (agrees_number x scope us ss o.rebinds a0) next
            (goes_later n ys vs scope inner us us ss (sorted x NumberSort ss) go (λ base m p. over_number x base m scope us ss p) g),
      )
  clean_of (Join p q x rest) ys scope us vs ss go a0 h g =
      let inner : Scope Binding = bind (x ∷ []) scope in
      let more : Flow = block_flow n earlier inner rest ys in
      let here : Stage = stage scope (pieces_faults scope (p ∷ q ∷ [])) [] (p ∷ q ∷ []) (x ∷ []) in
      let now : Used = noted_all us (events true scope (p ∷ q ∷ [])) in
      let o = opened us here (scan more now) vs h in
      let used = spends n scope (p ∷ q ∷ []) us ss (λ t. Clean n calls rest (sorted x Unused t) go) a0 o.looks o.events
      (λ t b reach. clean_of rest ys inner now vs (sorted x Unused t) go (agrees_bind (x ∷ []) scope now t o.rebinds b) o.goes_on
      (goes_later n ys vs scope inner us now ss (sorted x Unused t) go (λ base m k. over_bind (x ∷ []) base m scope now t (reach base m k)) g)) in
      (used.0, used.1.0, used.1.1)
  clean_of (Give x a rest) ys scope us vs ss go a0 h g =
      let more : Flow = block_flow n earlier scope rest ys in
      let here : Stage = stage scope (pieces_faults scope (x ∷ []) ++ ref_faults n scope a) [] (x ∷ []) [] in
      let now : Used = noted_all us (events true scope (x ∷ [])) in
      let o = opened us here (scan more now) vs h in
      let used = spends n scope (x ∷ []) us ss (λ t. Clean n calls rest t go) a0 (none_left (pieces_faults scope (x ∷ [])) (ref_faults n scope a) o.looks) o.events
      (λ t b reach. clean_of rest ys scope now vs t go b o.goes_on (goes_later n ys vs scope scope us now ss t go reach g)) in
      (agent_ok n scope us ss a a0 (none_right (pieces_faults scope (x ∷ [])) (ref_faults n scope a) o.looks), used.0, used.1)
  clean_of (If l c r one oy other zy xs at rest) ys scope us vs ss go a0 h g =
      let inner : Scope Binding = bind xs scope in
      let more : Flow = block_flow n earlier inner rest ys in
      let tail : Flow = Then (stage scope (if_faults oy zy xs at) [] [] xs) more in
      let first : Flow = block_flow n earlier scope one oy in
      let second : Flow = block_flow n earlier scope other zy in
      let here : Stage = stage scope (sum_faults n scope l ++ sum_faults n scope r) (sum_asks l ++ sum_asks r) [] [] in
      let o = opened us here (scan (Split first second tail) (noted_all us here.events)) vs h in
      let q = asked scope us (sum_asks l ++ sum_asks r) [] o.events in
      let next : scan (Split first second tail) us ≡ Fine vs = subst (λ (w : Used). scan (Split first second tail) w ≡ Fine vs) q.after o.goes_on in
      let s1 = split (scan first us) (λ u. and_then (scan second us) (λ v. scan tail (λ k. lesser (u k) (v k)))) vs next in
      let s2 = split (scan second us) (λ v. scan tail (λ k. lesser (s1.first k) (v k))) vs s1.then_is in
      let w : Used = λ k. lesser (s1.first k) (s2.first k) in
      let e = opened w (stage scope (if_faults oy zy xs at) [] [] xs) (scan more w) vs s2.then_is in
      let counts = unless_none ((length xs == length oy) && (length xs == length zy)) (YieldCount at) e.looks in
      let rest_ok : (old : Sorts) → Agrees scope w old → Reaches scope us ss scope w old → Clean n calls rest (bind_sorts xs (unused xs) old) go =
      λ old b reach. clean_of rest ys inner w vs (bind_sorts xs (unused xs) old) go (agrees_bind xs scope w old e.rebinds b) e.goes_on
      (goes_later n ys vs scope inner us w ss (bind_sorts xs (unused xs) old) go (λ base m p. over_bind xs base m scope w old (reach base m p)) g) in (
        terms_ok n scope us ss l.terms a0 (none_left (sum_faults n scope l) (sum_faults n scope r) o.looks) (each_left (IsFree scope us) (sum_asks l) (sum_asks r) q.free),
        terms_ok n scope us ss r.terms a0 (none_right (sum_faults n scope l) (sum_faults n scope r) o.looks) (each_right (IsFree scope us) (sum_asks l) (sum_asks r) q.free),
        clean_of one oy scope us s1.first ss _ a0 s1.is
            (arm_ends n oy xs scope us ss s1.first w (λ old. Clean n calls rest (bind_sorts xs (unused xs) old) go) (same_count (length xs) (length oy) (and_left (length xs == length oy) (length xs == length zy) counts)) a0 (lesser_left s1.first s2.first) rest_ok),
        clean_of other zy scope us s2.first ss _ a0 s2.is
            (arm_ends n zy xs scope us ss s2.first w (λ old. Clean n calls rest (bind_sorts xs (unused xs) old) go) (same_count (length xs) (length zy) (and_right (length xs == length oy) (length xs == length zy) counts)) a0 (lesser_right s1.first s2.first) rest_ok),
      )
  clean_of (Pick a ps ns at rest) ys scope us vs ss go a0 h g =
      let inner : Scope Binding = bind ns scope in
      let more : Flow = block_flow n earlier inner rest ys in
      let here : Stage = stage scope (ref_faults n scope a ++ pieces_faults scope ps ++ pick_faults ps ns at) [] ps ns in
      let now : Used = noted_all us (events true scope ps) in
      let o = opened us here (scan more now) vs h in
      let two = none_left (ref_faults n scope a ++ pieces_faults scope ps) (pick_faults ps ns at) o.looks in
      let counts = unless_none (nat_le 2 (length ps) && (length ns == length ps)) (YieldCount at) (none_right (ref_faults n scope a ++ pieces_faults scope ps) (pick_faults ps ns at) o.looks) in (
        agent_ok n scope us ss a a0 (none_left (ref_faults n scope a) (pieces_faults scope ps) two),
        spends n scope ps us ss (λ t. (length ns ≡ length ps) × Clean n calls rest (bind_sorts ns (unused ns) t) go) a0 (none_right (ref_faults n scope a) (pieces_faults scope ps) two) o.events
            (λ t b reach. (
              same_count (length ns) (length ps) (and_right (nat_le 2 (length ps)) (length ns == length ps) counts),
              clean_of rest ys inner now vs (bind_sorts ns (unused ns) t) go (agrees_bind ns scope now t o.rebinds b) o.goes_on
                  (goes_later n ys vs scope inner us now ss (bind_sorts ns (unused ns) t) go (λ base m p. over_bind ns base m scope now t (reach base m p)) g),
            )),
      )
  clean_of (Call f xs ns at rest) ys scope us vs ss go a0 h g =
      let inner : Scope Binding = bind ns scope in
      let more : Flow = block_flow n earlier inner rest ys in
      let here : Stage = stage scope (call_faults earlier f xs ns at ++ flat_map (arg_faults n scope) xs) (flat_map arg_asks xs) (flat_map arg_uses xs) ns in
      let o = opened us here (scan more (noted_all us here.events)) vs h in
      let q = asked scope us (flat_map arg_asks xs) (events true scope (flat_map arg_uses xs)) o.events in
      let now : Used = noted_all us (events true scope (arg_pieces xs)) in
      let same : noted_all us here.events ≡ now = q.after ∙ ap (λ (zs : List Name). noted_all us (events true scope zs)) (sym (arg_uses_are xs)) in
      let next : scan more now ≡ Fine vs = subst (λ (w : Used). scan more w ≡ Fine vs) same o.goes_on in
      let args = none_right (call_faults earlier f xs ns at) (flat_map (arg_faults n scope) xs) o.looks in (
        args_ok n scope us ss xs a0 args q.free,
        spends n scope (arg_pieces xs) us ss (λ t. calls f.word (arg_sorts xs) (length ns) × Clean n calls rest (bind_sorts ns (unused ns) t) go) a0 (arg_pieces_bound n scope xs args)
            (subst (λ (zs : List Name). twice us (events true scope zs) ≡ []) (sym (arg_uses_are xs)) q.uses)
            (λ t b reach. (
              callee_ok earlier calls agree f xs ns at (none_left (call_faults earlier f xs ns at) (flat_map (arg_faults n scope) xs) o.looks),
              clean_of rest ys inner now vs (bind_sorts ns (unused ns) t) go (agrees_bind ns scope now t o.rebinds b) next
                  (goes_later n ys vs scope inner us now ss (bind_sorts ns (unused ns) t) go (λ base m p. over_bind ns base m scope now t (reach base m p)) g),
            )),
      )
