-- The places of a program whose tokens' places rise.
use Rattle.std.proofs.Common.{◌≡◌, ℕ, suc, ◌≤◌, List, [], ◌∷◌, ◌++◌, Option, Some, None, map, refl, ap, sym, subst, ◌∙◌, arith, append-nil, append_assoc, codes}
use Rattle.std.specs.List.{flat_map}
use Rattle.slice_ast.specs.Code.{Code, End, Cut, Let, Join, Give, If, Pick, Call, PlainProc, PlainProgram}
use Rattle.slice_ast.specs.Tokens.{Mark, Plain, Spelled, Final, place_of, more_listed, listed, name_marks, names_after, ref_marks, den_marks, fraction_marks, operand_marks, factor_marks, term_marks, more_marks, terms_marks, sum_marks, cmp_text, arg_marks, param_marks, yield_marks, test_marks, if_end, code_marks, open_marks, block_marks, proc_marks, procs_marks, protocol_marks, program_marks}
use Rattle.slice_ast.specs.declared.tree.Name.{Name}
use Rattle.slice_ast.specs.declared.tree.Number.{Number}
use Rattle.slice_ast.specs.declared.tree.AgentRef.{AgentRef}
use Rattle.slice_ast.specs.declared.tree.AgentRef.TheVariants as ref
use Rattle.slice_ast.specs.declared.tree.Fraction.{Fraction}
use Rattle.slice_ast.specs.declared.tree.Operand.{Operand}
use Rattle.slice_ast.specs.declared.tree.Operand.TheVariants as operand
use Rattle.slice_ast.specs.declared.tree.Term.{Term}
use Rattle.slice_ast.specs.declared.tree.Sum.{Sum}
use Rattle.slice_ast.specs.declared.tree.Cmp.{Cmp}
use Rattle.slice_ast.specs.declared.tree.Param.{Param}
use Rattle.slice_ast.specs.declared.tree.Arg.{Arg}
use Rattle.slice_ast.specs.declared.tree.Arg.TheVariants as arg
use Rattle.slice_affine.proofs.Spans.{RiseTo}
use Rattle.slice_affine.specs.Conditions.{maybe, places, Rise, HasRisingPlaces}
use Rattle.slice_affine.proofs.Placed.{Placed, PlacedProcs, names_at, ref_at, den_at, fraction_at, factor_at, operand_at, term_at, sum_at, arg_at, cut_at, let_at, join_at, give_at, pick_at, call_at}
use Rattle.slice_affine.proofs.CodeLemmas.{rise_parts, rise_tail}

maybe_append : (o : Option ℕ) (xs ys : List ℕ) → maybe o xs ++ ys ≡ maybe o (xs ++ ys)
maybe_append None xs ys = refl
maybe_append (Some at) xs ys = refl

places_append : (xs ys : List Mark) → places (xs ++ ys) ≡ places xs ++ places ys
places_append [] ys = refl
places_append (m ∷ xs) ys = ap (maybe (place_of m)) (places_append xs ys) ∙ sym (maybe_append (place_of m) (places xs) (places ys))

-- marks whose places are known, before others
after : (xs ys : List Mark) (a : List ℕ) → places xs ≡ a → places (xs ++ ys) ≡ a ++ places ys
after xs ys a h = places_append xs ys ∙ ap (λ z. z ++ places ys) h

ref_places : (a : AgentRef) → places (ref_marks a) ≡ ref_at a
ref_places (ref.Fixed n) = refl
ref_places (ref.Named x) = refl

den_places : (d : Option Number) → places (den_marks d) ≡ den_at d
den_places None = refl
den_places (Some d) = refl

fraction_places : (f : Fraction) → places (fraction_marks f) ≡ fraction_at f
fraction_places f = ap (λ z. f.num.at ∷ z) (den_places f.den)

operand_places : (o : Operand) → places (operand_marks o) ≡ operand_at o
operand_places (operand.Fraction f) = fraction_places f
operand_places (operand.Named x) = refl
operand_places (operand.Value a p) = after (ref_marks a) (Plain (codes ",") ∷ Spelled p ∷ Plain (codes ")") ∷ []) (ref_at a) (ref_places a)

factor_places : (f : Option Fraction) → places (factor_marks f) ≡ factor_at f
factor_places None = refl
factor_places (Some f) = after (fraction_marks f) (Plain (codes "*") ∷ []) (fraction_at f) (fraction_places f) ∙ append-nil (fraction_at f)

term_places : (t : Term) → places (term_marks t) ≡ term_at t
term_places t = after (factor_marks t.factor) (operand_marks t.operand) (factor_at t.factor) (factor_places t.factor) ∙ ap (λ z. factor_at t.factor ++ z) (operand_places t.operand)

more_places : (ts : List Term) → places (more_marks ts) ≡ flat_map term_at ts
more_places [] = refl
more_places (t ∷ ts) = after (term_marks t) (more_marks ts) (term_at t) (term_places t) ∙ ap (λ z. term_at t ++ z) (more_places ts)

terms_places : (ts : List Term) → places (terms_marks ts) ≡ flat_map term_at ts
terms_places [] = refl
terms_places (t ∷ ts) = after (term_marks t) (more_marks ts) (term_at t) (term_places t) ∙ ap (λ z. term_at t ++ z) (more_places ts)

sum_places : (m : Sum) → places (sum_marks m) ≡ sum_at m
sum_places m = terms_places m.terms

arg_places : (x : Arg) → places (arg_marks x) ≡ arg_at x
arg_places (arg.Agent a) = ref_places a
arg_places (arg.Piece p) = refl
arg_places (arg.Number m) = sum_places m

more_listed_places : {A : Type 0} (item : A → List Mark) (at : A → List ℕ) → ((x : A) → places (item x) ≡ at x) → (xs : List A) → places (more_listed item xs) ≡ flat_map at xs
more_listed_places item at h [] = refl
more_listed_places item at h (x ∷ xs) = after (item x) (more_listed item xs) (at x) (h x) ∙ ap (λ z. at x ++ z) (more_listed_places item at h xs)

listed_places : {A : Type 0} (item : A → List Mark) (at : A → List ℕ) → ((x : A) → places (item x) ≡ at x) → (xs : List A) → places (listed item xs) ≡ flat_map at xs
listed_places item at h [] = refl
listed_places item at h (x ∷ xs) = after (item x) (more_listed item xs) (at x) (h x) ∙ ap (λ z. at x ++ z) (more_listed_places item at h xs)

one_each : (ns : List Name) → flat_map (λ n. n.at ∷ []) ns ≡ names_at ns
one_each [] = refl
one_each (n ∷ ns) = ap (λ z. n.at ∷ z) (one_each ns)

names_places : (w : List ℕ) (ns : List Name) → places (names_after w ns) ≡ names_at ns
names_places w [] = refl
names_places w (n ∷ ns) = listed_places name_marks (λ n. n.at ∷ []) (λ n. refl) (n ∷ ns) ∙ one_each (n ∷ ns)

yield_places : (ns : List Name) → places (yield_marks ns) ≡ names_at ns
yield_places [] = refl
yield_places (n ∷ ns) = after (names_after (codes "yield") (n ∷ ns)) (Plain (codes ";") ∷ []) (names_at (n ∷ ns)) (names_places (codes "yield") (n ∷ ns)) ∙ append-nil (names_at (n ∷ ns))

if_end_places : (ns : List Name) (end : ℕ) → places (if_end ns end) ≡ names_at ns ++ end ∷ []
if_end_places [] end = refl
if_end_places (n ∷ ns) end = after (names_after (codes "as") (n ∷ ns)) (Final (codes ";") end ∷ []) (names_at (n ∷ ns)) (names_places (codes "as") (n ∷ ns))

each_param : (ps : List Param) → flat_map (λ p. p.name.at ∷ []) ps ≡ names_at (map (λ p. p.name) ps)
each_param [] = refl
each_param (p ∷ ps) = ap (λ z. p.name.at ∷ z) (each_param ps)

params_places : (ps : List Param) → places (listed param_marks ps) ≡ names_at (map (λ p. p.name) ps)
params_places ps = listed_places param_marks (λ p. p.name.at ∷ []) (λ p. refl) ps ∙ each_param ps

-- the first part of places that rise, and what is left with what comes behind
parted : (xs rest ys whole : List ℕ) (lo hi : ℕ) → whole ≡ xs ++ rest → RiseTo lo (whole ++ ys) hi → (mid : ℕ) × RiseTo lo xs mid × RiseTo mid (rest ++ ys) hi
parted xs rest ys whole lo hi e h =
    rise_parts xs (rest ++ ys) lo hi (subst (λ (z : List ℕ). RiseTo lo z hi) (ap (λ z. z ++ ys) e ∙ append_assoc xs rest ys) h)

cut_places : (a : AgentRef) (p : Name) (m : Sum) (l r : Name) (rest : Code) → places (code_marks (Cut a p m l r rest)) ≡ cut_at a p m l r ++ places (code_marks rest)
cut_places a p m l r rest =
    let R = places (code_marks rest) in
    let ns : List ℕ = l.at ∷ r.at ∷ [] in
    let tail : List Mark = Plain (codes "as") ∷ Spelled l ∷ Plain (codes ",") ∷ Spelled r ∷ Plain (codes ";") ∷ code_marks rest in
    after (ref_marks a) (Spelled p ∷ Plain (codes "at") ∷ (sum_marks m ++ tail)) (ref_at a) (ref_places a)
    ∙ ap (λ z. ref_at a ++ p.at ∷ z) (after (sum_marks m) tail (sum_at m) (sum_places m) ∙ sym (append_assoc (sum_at m) ns R))
    ∙ sym (append_assoc (ref_at a) (p.at ∷ (sum_at m ++ ns)) R)

let_places : (n : Name) (m : Sum) (rest : Code) → places (code_marks (Let n m rest)) ≡ let_at n m ++ places (code_marks rest)
let_places n m rest = ap (λ z. n.at ∷ z) (after (sum_marks m) (Plain (codes ";") ∷ code_marks rest) (sum_at m) (sum_places m))

give_places : (p : Name) (a : AgentRef) (rest : Code) → places (code_marks (Give p a rest)) ≡ give_at p a ++ places (code_marks rest)
give_places p a rest = ap (λ z. p.at ∷ z) (after (ref_marks a) (Plain (codes ";") ∷ code_marks rest) (ref_at a) (ref_places a))

last_places : (w : List ℕ) (ns : List Name) (end : ℕ) (rest : Code) → places (names_after w ns ++ Final (codes ";") end ∷ code_marks rest) ≡ (names_at ns ++ end ∷ []) ++ places (code_marks rest)
last_places w ns end rest = after (names_after w ns) (Final (codes ";") end ∷ code_marks rest) (names_at ns) (names_places w ns) ∙ sym (append_assoc (names_at ns) (end ∷ []) (places (code_marks rest)))

pick_places : (a : AgentRef) (ps ns : List Name) (end : ℕ) (rest : Code) → places (code_marks (Pick a ps ns end rest)) ≡ pick_at a ps ns end ++ places (code_marks rest)
pick_places a ps ns end rest =
    let R = places (code_marks rest) in
    let last : List ℕ = names_at ns ++ end ∷ [] in
    let tail : List Mark = names_after (codes "as") ns ++ Final (codes ";") end ∷ code_marks rest in
    after (ref_marks a) (names_after (codes "from") ps ++ tail) (ref_at a) (ref_places a)
    ∙ ap (λ z. ref_at a ++ z) (after (names_after (codes "from") ps) tail (names_at ps) (names_places (codes "from") ps) ∙ ap (λ z. names_at ps ++ z) (last_places (codes "as") ns end rest)
    ∙ sym (append_assoc (names_at ps) last R))
    ∙ sym (append_assoc (ref_at a) (names_at ps ++ last) R)

call_places : (f : Name) (xs : List Arg) (ns : List Name) (end : ℕ) (rest : Code) → places (code_marks (Call f xs ns end rest)) ≡ call_at f xs ns end ++ places (code_marks rest)
call_places f xs ns end rest =
    let A = flat_map arg_at xs in
    let tail : List Mark = Plain (codes ")") ∷ (names_after (codes "as") ns ++ Final (codes ";") end ∷ code_marks rest) in
    ap (λ z. f.at ∷ z) (after (listed arg_marks xs) tail A (listed_places arg_marks arg_at arg_places xs) ∙ ap (λ z. A ++ z) (last_places (codes "as") ns end rest)
    ∙ sym (append_assoc A (names_at ns ++ end ∷ []) (places (code_marks rest))))

-- the places of an `if`, part by part
if_places : (l : Sum) (o : Cmp) (r : Sum) (y : Code) (ys : List Name) (n : Code) (zs ns : List Name) (end : ℕ) (rest : Code)
    → places (code_marks (If l o r y ys n zs ns end rest))
    ≡ (sum_at l ++ sum_at r) ++ (places (code_marks y) ++ (names_at ys ++ (places (code_marks n) ++ (names_at zs ++ ((names_at ns ++ end ∷ []) ++ places (code_marks rest))))))
if_places l o r y ys n zs ns end rest =
    let R = code_marks rest in
    let five : List Mark = if_end ns end ++ R in
    let four : List Mark = yield_marks zs ++ five in
    let three : List Mark = Plain (codes "}") ∷ Plain (codes "else") ∷ Plain (codes "{") ∷ (code_marks n ++ four) in
    let two : List Mark = yield_marks ys ++ three in
    let one : List Mark = Plain (codes "{") ∷ (code_marks y ++ two) in
    let test : places (test_marks l o r) ≡ sum_at l ++ sum_at r =
    after (sum_marks l) (Plain (cmp_text o) ∷ sum_marks r) (sum_at l) (sum_places l) ∙ ap (λ z. sum_at l ++ z) (sum_places r) in
    after (test_marks l o r) one (sum_at l ++ sum_at r) test
    ∙ ap (λ z. (sum_at l ++ sum_at r) ++ z) (places_append (code_marks y) two
    ∙ ap (λ z. places (code_marks y) ++ z) (after (yield_marks ys) three (names_at ys) (yield_places ys)
    ∙ ap (λ z. names_at ys ++ z) (places_append (code_marks n) four
    ∙ ap (λ z. places (code_marks n) ++ z) (after (yield_marks zs) five (names_at zs) (yield_places zs)
    ∙ ap (λ z. names_at zs ++ z) (after (if_end ns end) R (names_at ns ++ end ∷ []) (if_end_places ns end))))))

pub placed_of : (c : Code) (ys : List Name) (lo hi : ℕ) → RiseTo lo (places (code_marks c) ++ names_at ys) hi → Placed lo c ys hi
placed_of End ys lo hi h = h
placed_of (Cut a p m l r rest) ys lo hi h =
    let q = parted (cut_at a p m l r) (places (code_marks rest)) (names_at ys) (places (code_marks (Cut a p m l r rest))) lo hi (cut_places a p m l r rest) h in
    (q.0, q.1, placed_of rest ys q.0 hi q.2)
placed_of (Let n m rest) ys lo hi h =
    let q = parted (let_at n m) (places (code_marks rest)) (names_at ys) (places (code_marks (Let n m rest))) lo hi (let_places n m rest) h in
    (q.0, q.1, placed_of rest ys q.0 hi q.2)
placed_of (Join p q n rest) ys lo hi h =
    let k = parted (join_at p q n) (places (code_marks rest)) (names_at ys) (places (code_marks (Join p q n rest))) lo hi refl h in
    (k.0, k.1, placed_of rest ys k.0 hi k.2)
placed_of (Give p a rest) ys lo hi h =
    let q = parted (give_at p a) (places (code_marks rest)) (names_at ys) (places (code_marks (Give p a rest))) lo hi (give_places p a rest) h in
    (q.0, q.1, placed_of rest ys q.0 hi q.2)
placed_of (Pick a ps ns end rest) ys lo hi h =
    let q = parted (pick_at a ps ns end) (places (code_marks rest)) (names_at ys) (places (code_marks (Pick a ps ns end rest))) lo hi (pick_places a ps ns end rest) h in
    (q.0, q.1, placed_of rest ys q.0 hi q.2)
placed_of (Call f xs ns end rest) ys lo hi h =
    let q = parted (call_at f xs ns end) (places (code_marks rest)) (names_at ys) (places (code_marks (Call f xs ns end rest))) lo hi (call_places f xs ns end rest) h in
    (q.0, q.1, placed_of rest ys q.0 hi q.2)
placed_of (If l o r y ys n zs ns end rest) us lo hi h =
    let U = names_at us in
    let R = places (code_marks rest) in
    let E : List ℕ = names_at ns ++ end ∷ [] in
    let Y = places (code_marks y) in
    let N = places (code_marks n) in
    let five : List ℕ = E ++ R in
    let four : List ℕ = N ++ (names_at zs ++ five) in
    let a = parted (sum_at l ++ sum_at r) (Y ++ (names_at ys ++ four)) U (places (code_marks (If l o r y ys n zs ns end rest))) lo hi (if_places l o r y ys n zs ns end rest) h in
    let b = parted (Y ++ names_at ys) four U (Y ++ (names_at ys ++ four)) a.0 hi (sym (append_assoc Y (names_at ys) four)) a.2 in
    let c = parted (N ++ names_at zs) five U four b.0 hi (sym (append_assoc N (names_at zs) five)) b.2 in
    let d = parted E R U five c.0 hi refl c.2 in
    (a.0, b.0, c.0, d.0, a.1, placed_of y ys a.0 b.0 b.1, placed_of n zs b.0 c.0 c.1, d.1, placed_of rest us d.0 hi d.2)

proc_places : (q : PlainProc) (rest : List Mark) → places (proc_marks q ++ rest) ≡ (q.name.at ∷ names_at (map (λ x. x.name) q.params)) ++ ((places (code_marks q.body.code) ++ names_at q.body.yields) ++ places rest)
proc_places q rest =
    let P = names_at (map (λ x. x.name) q.params) in
    let B : List ℕ = places (code_marks q.body.code) ++ names_at q.body.yields in
    let opens : places (open_marks q.body) ≡ B = places_append (code_marks q.body.code) (yield_marks q.body.yields) ∙ ap (λ z. places (code_marks q.body.code) ++ z) (yield_places q.body.yields) in
    let body : places (block_marks q.body) ≡ B = after (open_marks q.body) (Plain (codes "}") ∷ []) B opens ∙ append-nil B in
    let one : places (proc_marks q) ≡ (q.name.at ∷ P) ++ B =
    ap (λ z. q.name.at ∷ z) (after (listed param_marks q.params) (Plain (codes ")") ∷ block_marks q.body) P (params_places q.params) ∙ ap (λ z. P ++ z) body) in
    after (proc_marks q) rest ((q.name.at ∷ P) ++ B) one ∙ append_assoc (q.name.at ∷ P) B (places rest)

protocol_placed : (p : PlainProgram) (lo hi : ℕ) → RiseTo lo (places (protocol_marks p.name p.agents p.body)) hi → PlacedProcs lo p [] hi
protocol_placed p lo hi h =
    let C = places (code_marks p.body) in
    let e : places (protocol_marks p.name p.agents p.body) ≡ p.name.at ∷ p.agents.at ∷ (C ++ []) = ap (λ z. p.name.at ∷ p.agents.at ∷ z) (places_append (code_marks p.body) (Plain (codes "}") ∷ [])) in
    let r = rise_tail p.name.at (p.agents.at ∷ (C ++ [])) lo hi (subst (λ (z : List ℕ). RiseTo lo z hi) e h) in
    let q = rise_parts (p.agents.at ∷ []) (C ++ []) lo hi r in
    (q.0, q.1, placed_of p.body [] q.0 hi q.2)

procs_placed : (p : PlainProgram) (qs : List PlainProc) (lo hi : ℕ) → RiseTo lo (places (procs_marks qs ++ protocol_marks p.name p.agents p.body)) hi → PlacedProcs lo p qs hi
procs_placed p [] lo hi h = protocol_placed p lo hi h
procs_placed p (q ∷ qs) lo hi h =
    let rest : List Mark = procs_marks qs ++ protocol_marks p.name p.agents p.body in
    let H : List ℕ = q.name.at ∷ names_at (map (λ x. x.name) q.params) in
    let B : List ℕ = places (code_marks q.body.code) ++ names_at q.body.yields in
    let e : places ((proc_marks q ++ procs_marks qs) ++ protocol_marks p.name p.agents p.body) ≡ H ++ (B ++ places rest) =
    ap places (append_assoc (proc_marks q) (procs_marks qs) (protocol_marks p.name p.agents p.body)) ∙ proc_places q rest in
    let a = rise_parts H (B ++ places rest) lo hi (subst (λ (z : List ℕ). RiseTo lo z hi) e h) in
    let b = rise_parts B (places rest) a.0 hi a.2 in
    (a.0, b.0, a.1, placed_of q.body.code q.body.yields a.0 b.0 b.1, procs_placed p qs b.0 hi b.2)

bounded : (xs : List ℕ) (lo : ℕ) → Rise lo xs → (hi : ℕ) × RiseTo lo xs hi
bounded [] lo h = let r : lo ≤ lo = omega arith in (lo, r)
bounded (x ∷ xs) lo h = let q = bounded xs (suc x) h.1 in (q.0, (h.0, q.1))

pub program_placed : (p : PlainProgram) → HasRisingPlaces p → (hi : ℕ) × PlacedProcs 0 p p.procs hi
program_placed p h = let q = bounded (places (program_marks p)) 0 h in (q.0, procs_placed p p.procs 0 q.0 q.1)
