-- The tokens of a program tell it, places aside.
use Rattle.std.proofs.Common.{◌≡◌, ℕ, Bool, true, false, ◌||◌, List, [], ◌∷◌, ◌++◌, map, codes, refl, sym, ap, subst, ◌∙◌}
use Rattle.std.specs.Prelude.{bytes_eq}
use Rattle.std.proofs.lemmas.Slice.Eq.{bytes_eq-Decides}
use Rattle.slice_num.specs.Name.{is_among}
use Rattle.slice_ast.specs.Code.{Code, End, Cut, Let, Join, Give, If, Pick, Call, PlainBlock, PlainProc, PlainProgram}
use Rattle.slice_ast.specs.Tokens.{Mark, Plain, Final, text_of, listed, names_after, ref_marks, sum_marks, cmp_text, arg_marks, param_marks, yield_marks, if_end, code_marks, block_marks, proc_marks, procs_marks, protocol_marks, program_marks, tokens}
use Rattle.slice_ast.specs.Spellable.{Each, HasName, CanSpellArg, CanSpellParam, CanSpellCode, CanSpellBlock, CanSpellProc, IsSpellable}
use Rattle.slice_ast.specs.Bare.{bare_arg, bare_param, bare_names, bare_code, bare_block, bare_proc, without_places}
use Rattle.slice_ast.proofs.CalmLemmas.{each-of-some}
use Rattle.slice_ast.proofs.Parts.{Texts, onto, onto-append, parts, Same, head, next, differs, first_is, Lacks, lacks, name_same, number_same, ref_same, EndsSum, sum_same, EndsItem, listed_same, names_same, arg_told, arg_starts, param_told, param_starts}
use Rattle.slice_ast.specs.declared.tree.Name.{Name}
use Rattle.slice_ast.specs.declared.tree.Cmp.{Cmp}
use Rattle.slice_ast.specs.declared.tree.Cmp.TheVariants as cmp

-- the statements of a block end here
ends_code : Texts → Bool
ends_code [] = false
ends_code (t ∷ ts) = is_among t (codes "yield" ∷ codes "}" ∷ [])

ends-lacks : (w : List ℕ) (r : Texts) → ends_code r ≡ true → bytes_eq (codes "yield") w ≡ false → bytes_eq (codes "}") w ≡ false → Lacks w r
unfolding ends_code
ends-lacks w [] h p q = refl
ends-lacks w (t ∷ ts) h p q = by_test (bytes_eq t (codes "yield")) (bytes_eq t (codes "}")) refl refl h
  where
    by_test : (a b : Bool) → bytes_eq t (codes "yield") ≡ a → bytes_eq t (codes "}") ≡ b → (a || (b || false)) ≡ true → bytes_eq t w ≡ false
    by_test true b x y z = ap (λ u. bytes_eq u w) ((bytes_eq-Decides t (codes "yield")).0 x) ∙ p
    by_test false true x y z = ap (λ u. bytes_eq u w) ((bytes_eq-Decides t (codes "}")).0 y) ∙ q
    by_test false false x y z = cc

-- only no statement at all ends there
code_first : (d : Code) (s : Texts) → ends_code (onto (code_marks d) s) ≡ true → d ≡ End
unfolding ends_code
code_first End s h = refl
code_first (Cut a p m l q rest) s h = cc
code_first (Let n m rest) s h = cc
code_first (Join p q n rest) s h = cc
code_first (Give p a rest) s h = cc
code_first (If l o r y ys n ns names end rest) s h = cc
code_first (Pick a ps ns end rest) s h = cc
code_first (Call f xs ns end rest) s h = cc

lacks-as : (c : Code) (r : Texts) → ends_code r ≡ true → Lacks (codes "as") (onto (code_marks c) r)
lacks-as End r h = ends-lacks (codes "as") r h refl refl
lacks-as (Cut a p m l q rest) r h = refl
lacks-as (Let n m rest) r h = refl
lacks-as (Join p q n rest) r h = refl
lacks-as (Give p a rest) r h = refl
lacks-as (If l o x y ys n ns names end rest) r h = refl
lacks-as (Pick a ps ns end rest) r h = refl
lacks-as (Call f xs ns end rest) r h = refl

semicolon : (t : Texts) → EndsItem (codes ";" ∷ t)
semicolon t = record { sum = record { slash = refl; star = refl; plus = refl; minus = refl }; comma = refl }

as_ends : (t : Texts) → EndsSum (codes "as" ∷ t)
as_ends t = record { slash = refl; star = refl; plus = refl; minus = refl }

brace_ends : (t : Texts) → EndsSum (codes "{" ∷ t)
brace_ends t = record { slash = refl; star = refl; plus = refl; minus = refl }

cmp_ends : (o : Cmp) (t : Texts) → EndsSum (cmp_text o ∷ t)
cmp_ends cmp.Less t = record { slash = refl; star = refl; plus = refl; minus = refl }
cmp_ends cmp.AtMost t = record { slash = refl; star = refl; plus = refl; minus = refl }
cmp_ends cmp.More t = record { slash = refl; star = refl; plus = refl; minus = refl }
cmp_ends cmp.AtLeast t = record { slash = refl; star = refl; plus = refl; minus = refl }

cmp_same : (o p : Cmp) → cmp_text o ≡ cmp_text p → o ≡ p
cmp_same cmp.Less cmp.Less e = refl
cmp_same cmp.AtMost cmp.AtMost e = refl
cmp_same cmp.More cmp.More e = refl
cmp_same cmp.AtLeast cmp.AtLeast e = refl
cmp_same o p e = absurd (differs e refl)

-- `yield`, or the brace at once
yields_same : (ys zs : List Name) (r s : Texts) → first_is (codes "}") r ≡ true → first_is (codes "}") s ≡ true → Each HasName ys → Each HasName zs → onto (yield_marks ys) r ≡ onto (yield_marks zs) s
    → Same (bare_names ys) (bare_names zs) r s
yields_same [] [] r s f g h k e = record { value = refl; rest = e }
yields_same [] (z ∷ zs) r s f g h k e = let q = subst (λ t. first_is (codes "}") t ≡ true) e f in cc
yields_same (y ∷ ys) [] r s f g h k e = let q = subst (λ t. first_is (codes "}") t ≡ true) (sym e) g in cc
yields_same (y ∷ ys) (z ∷ zs) r s f g h k e =
    let q = names_same (codes "yield") (y ∷ ys) (z ∷ zs) (codes ";" ∷ r) (codes ";" ∷ s) refl refl refl (semicolon r) (semicolon s) h k
    (parts (names_after (codes "yield") (y ∷ ys)) (Plain (codes ";") ∷ []) (names_after (codes "yield") (z ∷ zs)) (Plain (codes ";") ∷ []) r s e) in
    record { value = q.value; rest = next q.rest }

ends-yields : (ys : List Name) (r : Texts) → first_is (codes "}") r ≡ true → ends_code (onto (yield_marks ys) r) ≡ true
unfolding ends_code
ends-yields [] [] h = cc
ends-yields [] (t ∷ ts) h = ap (λ u. is_among u (codes "yield" ∷ codes "}" ∷ [])) ((bytes_eq-Decides t (codes "}")).0 h)
ends-yields (y ∷ ys) r h = refl

-- the end of an `if`
if_end_same : (ns ms : List Name) (a b : ℕ) (r s : Texts) → Lacks (codes "as") r → Lacks (codes "as") s → Each HasName ns → Each HasName ms → onto (if_end ns a) r ≡ onto (if_end ms b) s
    → Same (bare_names ns) (bare_names ms) r s
if_end_same [] [] a b r s f g h k e = record { value = refl; rest = next e }
if_end_same [] (m ∷ ms) a b r s f g h k e = absurd (lacks (codes "as") r _ refl f (next e))
if_end_same (n ∷ ns) [] a b r s f g h k e = absurd (lacks (codes "as") s _ refl g (sym (next e)))
if_end_same (n ∷ ns) (m ∷ ms) a b r s f g h k e =
    let q = names_same (codes "as") (n ∷ ns) (m ∷ ms) (codes ";" ∷ r) (codes ";" ∷ s) refl refl refl (semicolon r) (semicolon s) h k
    (parts (names_after (codes "as") (n ∷ ns)) (Final (codes ";") a ∷ []) (names_after (codes "as") (m ∷ ms)) (Final (codes ";") b ∷ []) r s (next e)) in
    record { value = q.value; rest = next q.rest }

if_end-brace : (ns : List Name) (a : ℕ) (ms : List Mark) (r : Texts) → first_is (codes "}") (onto (if_end ns a ++ ms) r) ≡ true
if_end-brace [] a ms r = refl
if_end-brace (n ∷ ns) a ms r = refl

-- `as`, or the semicolon at once
as_or-ends : (ns : List Name) (e : ℕ) (ms : List Mark) (r : Texts) → EndsItem (onto (names_after (codes "as") ns ++ Final (codes ";") e ∷ ms) r)
as_or-ends [] e ms r = semicolon _
as_or-ends (n ∷ ns) e ms r = record { sum = as_ends _; comma = refl }

as_or-lacks : (ns : List Name) (e : ℕ) (ms : List Mark) (r : Texts) → Lacks (codes "from") (onto (names_after (codes "as") ns ++ Final (codes ";") e ∷ ms) r)
as_or-lacks [] e ms r = refl
as_or-lacks (n ∷ ns) e ms r = refl

as_same : (ns ms : List Name) (a b : ℕ) (xs ys : List Mark) (r s : Texts) → Each HasName ns → Each HasName ms
    → onto (names_after (codes "as") ns ++ Final (codes ";") a ∷ xs) r ≡ onto (names_after (codes "as") ms ++ Final (codes ";") b ∷ ys) s → Same (bare_names ns) (bare_names ms) (onto xs r) (onto ys s)
as_same ns ms a b xs ys r s h k e =
    let q = names_same (codes "as") ns ms (codes ";" ∷ onto xs r) (codes ";" ∷ onto ys s) refl refl refl (semicolon _) (semicolon _) h k
    (parts (names_after (codes "as") ns) (Final (codes ";") a ∷ xs) (names_after (codes "as") ms) (Final (codes ";") b ∷ ys) r s e) in
    record { value = q.value; rest = next q.rest }

code_same : (c d : Code) (r s : Texts) → ends_code r ≡ true → ends_code s ≡ true → CanSpellCode c → CanSpellCode d → onto (code_marks c) r ≡ onto (code_marks d) s → Same (bare_code c) (bare_code d) r s
code_same End d r s f g h k e =
    let q = code_first d s (subst (λ t. ends_code t ≡ true) e f) in
    record { value = ap bare_code (sym q); rest = e ∙ ap (λ x. onto (code_marks x) s) q }
code_same c End r s f g h k e =
    let q = code_first c r (subst (λ t. ends_code t ≡ true) (sym e) g) in
    record { value = ap bare_code q; rest = sym (ap (λ x. onto (code_marks x) r) q) ∙ e }
code_same (Cut a p m l q c) (Cut a2 p2 m2 l2 q2 d) r s f g h k e =
    let x1 = ref_same a a2 _ _ h.0 k.0 (parts (ref_marks a) _ (ref_marks a2) _ r s (next e)) in
    let x2 = name_same p p2 _ _ x1.rest in
    let x3 = sum_same m m2 _ _ (as_ends _) (as_ends _) h.2 k.2 (parts (sum_marks m) _ (sum_marks m2) _ r s (next x2.rest)) in
    let x4 = name_same l l2 _ _ (next x3.rest) in
    let x5 = name_same q q2 _ _ (next x4.rest) in
    let x6 = code_same c d r s f g h.5 k.5 (next x5.rest) in
    record { value = λ i. Cut (x1.value i) (x2.value i) (x3.value i) (x4.value i) (x5.value i) (x6.value i); rest = x6.rest }
code_same (Let n m c) (Let n2 m2 d) r s f g h k e =
    let x1 = name_same n n2 _ _ (next e) in
    let x2 = sum_same m m2 _ _ ((semicolon _).sum) ((semicolon _).sum) h.1 k.1 (parts (sum_marks m) _ (sum_marks m2) _ r s (next x1.rest)) in
    let x3 = code_same c d r s f g h.2 k.2 (next x2.rest) in
    record { value = λ i. Let (x1.value i) (x2.value i) (x3.value i); rest = x3.rest }
code_same (Join p q n c) (Join p2 q2 n2 d) r s f g h k e =
    let x1 = name_same p p2 _ _ (next e) in
    let x2 = name_same q q2 _ _ (next x1.rest) in
    let x3 = name_same n n2 _ _ (next x2.rest) in
    let x4 = code_same c d r s f g h.3 k.3 (next x3.rest) in
    record { value = λ i. Join (x1.value i) (x2.value i) (x3.value i) (x4.value i); rest = x4.rest }
code_same (Give p a c) (Give p2 a2 d) r s f g h k e =
    let x1 = name_same p p2 _ _ (next e) in
    let x2 = ref_same a a2 _ _ h.1 k.1 (parts (ref_marks a) _ (ref_marks a2) _ r s (next x1.rest)) in
    let x3 = code_same c d r s f g h.2 k.2 (next x2.rest) in
    record { value = λ i. Give (x1.value i) (x2.value i) (x3.value i); rest = x3.rest }
code_same (If l o m y ys n ns names end c) (If l2 o2 m2 y2 ys2 n2 ns2 names2 end2 d) r s f g h k e =
    let p1 = parts (sum_marks l ++ Plain (cmp_text o) ∷ sum_marks m) _ (sum_marks l2 ++ Plain (cmp_text o2) ∷ sum_marks m2) _ r s (next e) in
    let p2 = parts (sum_marks l) _ (sum_marks l2) _ _ _ p1 in
    let x1 = sum_same l l2 _ _ (cmp_ends o _) (cmp_ends o2 _) h.0 k.0 p2 in
    let x0 = cmp_same o o2 (head x1.rest) in
    let x2 = sum_same m m2 _ _ (brace_ends _) (brace_ends _) h.1 k.1 (next x1.rest) in
    let p3 = parts (code_marks y) _ (code_marks y2) _ r s (next x2.rest) in
    let x3 = code_same y y2 _ _ (ends_at ys _ r) (ends_at ys2 _ s) h.2 k.2 p3 in
    let x4 = yields_same ys ys2 _ _ refl refl h.3 k.3 (parts (yield_marks ys) _ (yield_marks ys2) _ r s x3.rest) in
    let p5 = parts (code_marks n) _ (code_marks n2) _ r s (next (next (next x4.rest))) in
    let x5 = code_same n n2 _ _ (ends_end ns names end (code_marks c) r) (ends_end ns2 names2 end2 (code_marks d) s) h.4 k.4 p5 in
    let x6 = yields_same ns ns2 _ _ (if_end-brace names end (code_marks c) r) (if_end-brace names2 end2 (code_marks d) s) h.5 k.5 (parts (yield_marks ns) _ (yield_marks ns2) _ r s x5.rest) in
    let x7 = if_end_same names names2 end end2 _ _ (lacks-as c r f) (lacks-as d s g) h.6 k.6 (parts (if_end names end) _ (if_end names2 end2) _ r s x6.rest) in
    let x8 = code_same c d r s f g h.7 k.7 x7.rest in
    record { value = λ i. If (x1.value i) (x0 i) (x2.value i) (x3.value i) (x4.value i) (x5.value i) (x6.value i) (x7.value i) 0 (x8.value i); rest = x8.rest }
  where
    ends_at : (zs : List Name) (ms : List Mark) (t : Texts) → ends_code (onto (yield_marks zs ++ Plain (codes "}") ∷ ms) t) ≡ true
    ends_at zs ms t = subst (λ u. ends_code u ≡ true) (sym (onto-append (yield_marks zs) (Plain (codes "}") ∷ ms) t)) (ends-yields zs _ refl)

    ends_end : (zs ws : List Name) (a : ℕ) (ms : List Mark) (t : Texts) → ends_code (onto (yield_marks zs ++ (if_end ws a ++ ms)) t) ≡ true
    ends_end zs ws a ms t = subst (λ u. ends_code u ≡ true) (sym (onto-append (yield_marks zs) (if_end ws a ++ ms) t)) (ends-yields zs _ (if_end-brace ws a ms t))
code_same (Pick a ps ns end c) (Pick a2 ps2 ns2 end2 d) r s f g h k e =
    let x1 = ref_same a a2 _ _ h.0 k.0 (parts (ref_marks a) _ (ref_marks a2) _ r s (next e)) in
    let x2 = names_same (codes "from") ps ps2 _ _ refl (as_or-lacks ns end (code_marks c) r) (as_or-lacks ns2 end2 (code_marks d) s) (as_or-ends ns end (code_marks c) r) (as_or-ends ns2 end2 (code_marks d) s)
    (each-of-some HasName ps h.1) (each-of-some HasName ps2 k.1) (parts (names_after (codes "from") ps) _ (names_after (codes "from") ps2) _ r s x1.rest) in
    let x3 = as_same ns ns2 end end2 (code_marks c) (code_marks d) r s (each-of-some HasName ns h.2) (each-of-some HasName ns2 k.2) x2.rest in
    let x4 = code_same c d r s f g h.3 k.3 x3.rest in
    record { value = λ i. Pick (x1.value i) (x2.value i) (x3.value i) 0 (x4.value i); rest = x4.rest }
code_same (Call n xs ns end c) (Call n2 xs2 ns2 end2 d) r s f g h k e =
    let x1 = name_same n n2 _ _ (next e) in
    let x2 = listed_same arg_marks bare_arg CanSpellArg arg_told arg_starts xs xs2 _ _ h.1 k.1 (parts (listed arg_marks xs) _ (listed arg_marks xs2) _ r s (next x1.rest)) in
    let x3 = as_same ns ns2 end end2 (code_marks c) (code_marks d) r s h.2 k.2 x2.rest in
    let x4 = code_same c d r s f g h.3 k.3 x3.rest in
    record { value = λ i. Call (x1.value i) (x2.value i) (x3.value i) 0 (x4.value i); rest = x4.rest }
code_same c d r s f g h k e = absurd (differs (head e) refl)

block_same : (a b : PlainBlock) (r s : Texts) → CanSpellBlock a → CanSpellBlock b → onto (block_marks a) r ≡ onto (block_marks b) s → Same (bare_block a) (bare_block b) r s
block_same a b r s h k e =
    let p1 = parts (code_marks a.code ++ yield_marks a.yields) (Plain (codes "}") ∷ []) (code_marks b.code ++ yield_marks b.yields) (Plain (codes "}") ∷ []) r s (next e) in
    let p2 = parts (code_marks a.code) (yield_marks a.yields) (code_marks b.code) (yield_marks b.yields) (codes "}" ∷ r) (codes "}" ∷ s) p1 in
    let x1 = code_same a.code b.code _ _ (ends-yields a.yields (codes "}" ∷ r) refl) (ends-yields b.yields (codes "}" ∷ s) refl) h.0 k.0 p2 in
    let x2 = yields_same a.yields b.yields (codes "}" ∷ r) (codes "}" ∷ s) refl refl h.1 k.1 x1.rest in
    record { value = λ i. record { code = x1.value i; yields = x2.value i }; rest = next x2.rest }

proc_same : (a b : PlainProc) (r s : Texts) → CanSpellProc a → CanSpellProc b → onto (proc_marks a) r ≡ onto (proc_marks b) s → Same (bare_proc a) (bare_proc b) r s
proc_same a b r s h k e =
    let x1 = name_same a.name b.name _ _ (next e) in
    let x2 = listed_same param_marks bare_param CanSpellParam param_told param_starts a.params b.params _ _ h.1 k.1 (parts (listed param_marks a.params) _ (listed param_marks b.params) _ r s (next x1.rest)) in
    let x3 = block_same a.body b.body r s h.2 k.2 x2.rest in
    record { value = λ i. record { name = x1.value i; params = x2.value i; body = x3.value i }; rest = x3.rest }

procs_same : (ps qs : List PlainProc) (r s : Texts) → Each CanSpellProc ps → Each CanSpellProc qs → onto (procs_marks ps) (codes "protocol" ∷ r) ≡ onto (procs_marks qs) (codes "protocol" ∷ s)
    → Same (map bare_proc ps) (map bare_proc qs) r s
procs_same [] [] r s h k e = record { value = refl; rest = next e }
procs_same [] (q ∷ qs) r s h k e = absurd (differs (head e) refl)
procs_same (p ∷ ps) [] r s h k e = absurd (differs (head e) refl)
procs_same (p ∷ ps) (q ∷ qs) r s h k e =
    let x1 = proc_same p q _ _ h.0 k.0 (parts (proc_marks p) (procs_marks ps) (proc_marks q) (procs_marks qs) (codes "protocol" ∷ r) (codes "protocol" ∷ s) e) in
    let x2 = procs_same ps qs r s h.1 k.1 x1.rest in
    record { value = λ i. x1.value i ∷ x2.value i; rest = x2.rest }

onto-tokens : (ms : List Mark) → onto ms [] ≡ map text_of ms
onto-tokens [] = refl
onto-tokens (m ∷ ms) = ap (λ ts. text_of m ∷ ts) (onto-tokens ms)

pub program_same : (p q : PlainProgram) → IsSpellable p → IsSpellable q → tokens p ≡ tokens q → without_places p ≡ without_places q
unfolding ends_code
program_same p q h k e =
    let x0 = parts (procs_marks p.procs) (protocol_marks p.name p.agents p.body) (procs_marks q.procs) (protocol_marks q.name q.agents q.body) [] []
    (onto-tokens (program_marks p) ∙ e ∙ sym (onto-tokens (program_marks q))) in
    let x1 = procs_same p.procs q.procs _ _ h.0 k.0 x0 in
    let x2 = name_same p.name q.name _ _ x1.rest in
    let x3 = number_same p.agents q.agents _ _ h.2 k.2 (next x2.rest) in
    let x4 = code_same p.body q.body (codes "}" ∷ []) (codes "}" ∷ []) refl refl h.3 k.3 (parts (code_marks p.body) (Plain (codes "}") ∷ []) (code_marks q.body) (Plain (codes "}") ∷ []) [] [] (next x3.rest)) in
    λ i. record { procs = x1.value i; name = x2.value i; agents = x3.value i; body = x4.value i }
