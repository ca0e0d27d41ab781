-- The core of a clean program uses each piece at most once.
use Rattle.std.proofs.Common.{◌≡◌, ℕ, suc, ◌+◌, ◌-◌, Bool, true, false, cond, List, [], ◌∷◌, ◌++◌, length, drop, refl, ap, sym, subst, ◌∙◌, arith, length-append, append_assoc, append-nil}
use Rattle.std.proofs.lemmas.List.{length-set}
use Rattle.std.specs.Str.{bytes_eq}
use Rattle.slice_ast.specs.Code.{Code, PlainProc, PlainProgram}
use Rattle.slice_ast.specs.Code as code
use Rattle.slice_ast.specs.declared.tree.Name.{Name}
use Rattle.slice_ast.specs.declared.tree.AgentRef.{AgentRef}
use Rattle.slice_ast.specs.declared.tree.AgentRef.TheVariants as ref
use Rattle.slice_ast.specs.declared.tree.Term.{Term}
use Rattle.slice_ast.specs.declared.tree.Cmp.{Cmp}
use Rattle.slice_ast.specs.declared.tree.Cmp.TheVariants as cmp
use Rattle.slice_ast.specs.declared.tree.Operand.{Operand}
use Rattle.slice_ast.specs.declared.tree.Operand.TheVariants as operand
use Rattle.slice_ast.specs.declared.tree.Param.{Param}
use Rattle.slice_ast.specs.declared.tree.Arg.{Arg}
use Rattle.slice_ast.specs.declared.tree.Arg.TheVariants as arg
use Rattle.slice_core.specs.Tree.{Tree}
use Rattle.slice_core.specs.declared.node.Lin.{Lin}
use Rattle.slice_core.specs.Agents.{IsAgent, HasAgents}
use Rattle.slice_core.specs.WellFormed.{spent, IsSingleUse}
use Rattle.slice_expand.specs.Scope.{Binding, Meaning, AnAgent, APiece, ANumber, look, looks, bound, bind, agent_of, piece_of, agent_at, piece_named, pieces_named, as_pieces}
use Rattle.slice_expand.specs.ProgramRun.{param_names}
use Rattle.slice_expand.specs.Marked.{Marked, plain}
use Rattle.slice_expand.specs.Expansion.{core_of, Names, Then, Inline, operand_asks, asks_of, operand_ask, asks, test, Offer, offers, count, offer_asks, offered, contest, contest_all, args_set, expand, no_inline, inline_with, inline_after}
use Rattle.slice_expand.proofs.Clean.{Sort, AgentSort, NumberSort, Unused, Spent, Sorted, Sorts, sort_at, spend, sorted, bind_sorts, unused, AgentOk, TermsOk, OperandOk, Spends, ArgsOk, arg_pieces, arg_sorts, param_sorts, Callable, Clean, CleanProc, CleanProcs, no_callable, callable_with, callable_after, either, CleanProgram}
use Rattle.slice_expand.proofs.Held.{NotIn, not_in_append, not_in_left, not_in_right, Good, Taken, good_take, good_put, good_right, good_spent, good_new, good_two}

-- agents are in range
abbrev SortFits : ℕ → Meaning ℕ → Sort → Type 0
SortFits n m AgentSort = IsAgent n (agent_of m)
SortFits n m NumberSort = Unit {0}
SortFits n m Unused = Unit {0}
SortFits n m Spent = Unit {0}

abbrev Aligned : ℕ → Names → Sorts → Type 0
Aligned n [] [] = Unit {0}
Aligned n (b ∷ bs) (s ∷ ss) = (b.word ≡ s.word) × SortFits n b.meaning s.sort × Aligned n bs ss
Aligned n [] (s ∷ ss) = ⊥
Aligned n (b ∷ bs) [] = ⊥

-- the pieces of the names that weren't used
abbrev hold : Sort → Meaning ℕ → List ℕ → List ℕ
hold AgentSort m ps = ps
hold NumberSort m ps = ps
hold Unused m ps = piece_of m ∷ ps
hold Spent m ps = ps

abbrev held : Names → Sorts → List ℕ
held [] ss = []
held (b ∷ bs) [] = []
held (b ∷ bs) (s ∷ ss) = hold s.sort b.meaning (held bs ss)

abbrev Fine : ℕ → List Bool → Tree → Type 0
Fine n live t = IsSingleUse live t × HasAgents n t

-- one is taken out of a list
record Out (p : ℕ) (xs ys : List ℕ) : Type 0 where
  before : List ℕ
  after : List ℕ
  from : xs ≡ before ++ p ∷ after
  to : ys ≡ before ++ after

hold_out : (s : Sort) (m : Meaning ℕ) (p : ℕ) (xs ys : List ℕ) → Out p xs ys → Out p (hold s m xs) (hold s m ys)
hold_out AgentSort m p xs ys o = o
hold_out NumberSort m p xs ys o = o
hold_out Unused m p xs ys o = record { before = piece_of m ∷ o.before; after = o.after; from = ap (λ zs. piece_of m ∷ zs) o.from; to = ap (λ zs. piece_of m ∷ zs) o.to }
hold_out Spent m p xs ys o = o

cond_length : (b : Bool) (s : Sorted) (ss ts : Sorts) (word : List ℕ) → length ts ≡ length ss → length (cond b (record { word = s.word; sort = Spent } ∷ ss) (s ∷ ts)) ≡ suc (length ss)
cond_length true s ss ts word h = refl
cond_length false s ss ts word h = ap (λ k. suc k) h

spend_length : (ss : Sorts) (word : List ℕ) → length (spend ss word) ≡ length ss
spend_length [] word = refl
spend_length (s ∷ ss) word = cond_length (bytes_eq s.word word) s ss (spend ss word) word (spend_length ss word)

cond_aligned : (n : ℕ) (t : Bool) (b : Binding ℕ) (bs : Names) (s : Sorted) (ss ts : Sorts) → Aligned n (b ∷ bs) (s ∷ ss) → Aligned n bs ts → Aligned n (b ∷ bs) (cond t (record { word = s.word; sort = Spent } ∷ ss) (s ∷ ts))
cond_aligned n true b bs s ss ts h g = (h.0, tt, h.2)
cond_aligned n false b bs s ss ts h g = (h.0, h.1, g)

spend_aligned : (n : ℕ) (bs : Names) (ss : Sorts) → Aligned n bs ss → (word : List ℕ) → Aligned n bs (spend ss word)
spend_aligned n [] [] h word = h
spend_aligned n (b ∷ bs) (s ∷ ss) h word = cond_aligned n (bytes_eq s.word word) b bs s ss (spend ss word) h (spend_aligned n bs ss h.2 word)
spend_aligned n [] (s ∷ ss) h word = absurd h
spend_aligned n (b ∷ bs) [] h word = absurd h

cond_held : (t : Bool) (b : Binding ℕ) (bs : Names) (s : Sorted) (ss ts : Sorts) (m : Meaning ℕ) (x : Sort) → (x ≡ Unused → Out (piece_of m) (held bs ss) (held bs ts)) → cond t s.sort x ≡ Unused
    → Out (piece_of (cond t b.meaning m)) (held (b ∷ bs) (s ∷ ss)) (held (b ∷ bs) (cond t (record { word = s.word; sort = Spent } ∷ ss) (s ∷ ts)))
cond_held true b bs s ss ts m x h f = record { before = []; after = held bs ss; from = ap (λ (y : Sort). hold y b.meaning (held bs ss)) f; to = refl }
cond_held false b bs s ss ts m x h f = hold_out s.sort b.meaning (piece_of m) (held bs ss) (held bs ts) (h f)

-- the piece of a name that wasn't used
take_held : (n : ℕ) (bs : Names) (ss : Sorts) → Aligned n bs ss → (word : List ℕ) → sort_at ss word ≡ Unused → Out (piece_of (look bs word)) (held bs ss) (held bs (spend ss word))
take_held n [] [] h word e = cc
take_held n (b ∷ bs) (s ∷ ss) h word e =
    subst (λ (w : List ℕ). Out (piece_of (cond (bytes_eq w word) b.meaning (look bs word))) (held (b ∷ bs) (s ∷ ss)) (held (b ∷ bs) (spend (s ∷ ss) word))) (sym h.0)
    (cond_held (bytes_eq s.word word) b bs s ss (spend ss word) (look bs word) (sort_at ss word) (take_held n bs ss h.2 word) e)
take_held n [] (s ∷ ss) h word e = absurd h
take_held n (b ∷ bs) [] h word e = absurd h

cond_agent : (n : ℕ) (t : Bool) (s x : Sort) (m k : Meaning ℕ) → SortFits n m s → (x ≡ AgentSort → IsAgent n (agent_of k)) → cond t s x ≡ AgentSort → IsAgent n (agent_of (cond t m k))
cond_agent n true s x m k h g f = subst (λ (y : Sort). SortFits n m y) f h
cond_agent n false s x m k h g f = g f

agent_fits : (n : ℕ) (bs : Names) (ss : Sorts) → Aligned n bs ss → (word : List ℕ) → sort_at ss word ≡ AgentSort → IsAgent n (agent_of (look bs word))
agent_fits n [] [] h word e = cc
agent_fits n (b ∷ bs) (s ∷ ss) h word e =
    subst (λ (w : List ℕ). IsAgent n (agent_of (cond (bytes_eq w word) b.meaning (look bs word)))) (sym h.0)
    (cond_agent n (bytes_eq s.word word) s.sort (sort_at ss word) b.meaning (look bs word) h.1 (agent_fits n bs ss h.2 word) e)
agent_fits n [] (s ∷ ss) h word e = absurd h
agent_fits n (b ∷ bs) [] h word e = absurd h

agent_in : (n : ℕ) (bs : Names) (ss : Sorts) → Aligned n bs ss → (a : AgentRef) → AgentOk n ss a → IsAgent n (agent_at bs a)
agent_in n bs ss h (ref.Fixed m) e = e
agent_in n bs ss h (ref.Named x) e = agent_fits n bs ss h x.word e

-- a name is used: its piece is live, and apart from the others
taken : (n : ℕ) (live : List Bool) (bs : Names) (ss : Sorts) (more : List ℕ) → Aligned n bs ss → Good live (held bs ss ++ more) → (word : List ℕ) → sort_at ss word ≡ Unused
    → Taken live (piece_of (look bs word)) (held bs (spend ss word) ++ more)
taken n live bs ss more h g word e =
    let o = take_held n bs ss h word e in
    let p = piece_of (look bs word) in
    let g' = subst (λ (xs : List ℕ). Good live xs) (ap (λ (xs : List ℕ). xs ++ more) o.from ∙ append_assoc o.before (p ∷ o.after) more) g in
    subst (λ (xs : List ℕ). Taken live p xs) (sym (ap (λ (xs : List ℕ). xs ++ more) o.to ∙ append_assoc o.before o.after more)) (good_take live o.before p (o.after ++ more) g')

used : (n : ℕ) (live : List Bool) (bs : Names) (ss : Sorts) (more : List ℕ) → Aligned n bs ss → Good live (held bs ss ++ more) → (word : List ℕ) → sort_at ss word ≡ Unused
    → Good (spent live (piece_of (look bs word))) (held bs (spend ss word) ++ more)
used n live bs ss more h g word e =
    let t = taken n live bs ss more h g word e in
    good_spent live (piece_of (look bs word)) (held bs (spend ss word) ++ more) t.apart t.good

-- ---- sums

operand_fine : (n : ℕ) (live : List Bool) (bs : Names) (ss : Sorts) (more : List ℕ) → Aligned n bs ss → Good live (held bs ss ++ more) → (o : Operand) → OperandOk n ss o → (r : ℕ) (next : Marked) → Fine n live (plain next)
    → Fine n live (plain (operand_ask bs r o next))
operand_fine n live bs ss more h g (operand.Fraction f) c r next k = k
operand_fine n live bs ss more h g (operand.Named x) c r next k = k
operand_fine n live bs ss more h g (operand.Value a x) c r next k =
    ((((taken n live bs ss more h g x.word c.1).live_one), k.0), (agent_in n bs ss h a c.0, k.1))

asks_fine : (n : ℕ) (live : List Bool) (bs : Names) (ss : Sorts) (more : List ℕ) → Aligned n bs ss → Good live (held bs ss ++ more) → (ts : List Term) → TermsOk n ss ts → (r : ℕ) (next : Marked) → Fine n live (plain next)
    → Fine n live (plain (asks bs r ts next))
asks_fine n live bs ss more h g [] c r next k = k
asks_fine n live bs ss more h g (t ∷ ts) c r next k =
    operand_fine n live bs ss more h g t.operand c.0 r (asks bs (r + operand_asks t.operand) ts next) (asks_fine n live bs ss more h g ts c.1 (r + operand_asks t.operand) next k)

test_fine : (n : ℕ) (live : List Bool) (c : Cmp) (a b : Lin) (y m : Marked) → Fine n live (plain y) → Fine n live (plain m) → Fine n live (plain (test c a b y m))
test_fine n live cmp.Less a b y m h g = ((h.0, g.0), (h.1, g.1))
test_fine n live cmp.AtMost a b y m h g = ((h.0, g.0), (h.1, g.1))
test_fine n live cmp.More a b y m h g = ((h.0, g.0), (h.1, g.1))
test_fine n live cmp.AtLeast a b y m h g = ((h.0, g.0), (h.1, g.1))

-- ---- pieces that are used in a row

-- the pieces of names, held beside the rest
record SpentAll (n : ℕ) (live : List Bool) (bs : Names) (ss : Sorts) (ps more : List ℕ) (go : Sorts → Type 0) : Type 0 where
  sorts : Sorts
  aligned : Aligned n bs sorts
  same : length sorts ≡ length ss
  good : Good live (held bs sorts ++ (ps ++ more))
  next : go sorts

spends : (n : ℕ) (live : List Bool) (bs : Names) (xs : List Name) (ss : Sorts) (acc more : List ℕ) (go : Sorts → Type 0) → Aligned n bs ss → Good live (held bs ss ++ (acc ++ more)) → Spends xs ss go
    → SpentAll n live bs ss (acc ++ pieces_named bs xs) more go
spends n live bs [] ss acc more go h g c =
    record { sorts = ss; aligned = h; same = refl; good = subst (λ (ps : List ℕ). Good live (held bs ss ++ (ps ++ more))) (sym (append-nil acc)) g; next = c }
spends n live bs (x ∷ xs) ss acc more go h g c =
    let p = piece_named bs x in
    let t = taken n live bs ss (acc ++ more) h g x.word c.0 in
    let ss' = spend ss x.word in
    let put = good_put live (held bs ss' ++ acc) p more (subst (λ (ps : List ℕ). Taken live p ps) (sym (append_assoc (held bs ss') acc more)) t) in
    let g' : Good live (held bs ss' ++ ((acc ++ p ∷ []) ++ more)) =
    subst (λ (ps : List ℕ). Good live ps) (append_assoc (held bs ss') acc (p ∷ more) ∙ ap (λ (ps : List ℕ). held bs ss' ++ ps) (sym (append_assoc acc (p ∷ []) more))) put in
    let o = spends n live bs xs ss' (acc ++ p ∷ []) more go (spend_aligned n bs ss h x.word) g' c.1 in
    record {
      sorts = o.sorts;
      aligned = o.aligned;
      same = o.same ∙ spend_length ss x.word;
      good = subst (λ (ps : List ℕ). Good live (held bs o.sorts ++ (ps ++ more))) (append_assoc acc (p ∷ []) (pieces_named bs xs)) o.good;
      next = o.next;
    }

-- meanings as pieces
abbrev meant : List (Meaning ℕ) → List ℕ
meant [] = []
meant (m ∷ ms) = piece_of m ∷ meant ms

meant_looks : (bs : Names) (xs : List Name) → meant (looks bs xs) ≡ pieces_named bs xs
meant_looks bs [] = refl
meant_looks bs (x ∷ xs) = ap (λ ps. piece_named bs x ∷ ps) (meant_looks bs xs)

meant_as : (ps : List ℕ) → meant (as_pieces ps) ≡ ps
meant_as [] = refl
meant_as (p ∷ ps) = ap (λ qs. p ∷ qs) (meant_as ps)

-- ---- names are bound

-- scopes that only grew on top
record Above (bs : Names) (k : ℕ) (cs : Names) (l : ℕ) : Type 0 where
  extra : Names
  is : cs ≡ extra ++ bs
  long : l ≡ length extra + k

above_none : (bs : Names) (k : ℕ) → Above bs k bs k
above_none bs k = record { extra = []; is = refl; long = omega arith }

above_one : (bs : Names) (k : ℕ) (b : Binding ℕ) (cs : Names) (l : ℕ) → Above (b ∷ bs) (k + 1) cs l → Above bs k cs l
above_one bs k b cs l a = record { extra = a.extra ++ b ∷ []; is = a.is ∙ sym (append_assoc a.extra (b ∷ []) bs); long = omega (arith, a.long, length-append a.extra (b ∷ [])) }

above_same : (bs : Names) (k l : ℕ) (cs : Names) (m : ℕ) → k ≡ l → Above bs k cs m → Above bs l cs m
above_same bs k l cs m e a = subst (λ (n : ℕ). Above bs n cs m) e a

above_through : (bs : Names) (k : ℕ) (cs : Names) (l : ℕ) (ds : Names) (m : ℕ) → Above bs k cs l → Above cs l ds m → Above bs k ds m
above_through bs k cs l ds m a b =
    record { extra = b.extra ++ a.extra; is = b.is ∙ ap (λ (xs : Names). b.extra ++ xs) a.is ∙ sym (append_assoc b.extra a.extra bs); long = omega (arith, a.long, b.long, length-append b.extra a.extra) }

aligned_length : (n : ℕ) (bs : Names) (ss : Sorts) → Aligned n bs ss → length bs ≡ length ss
aligned_length n [] [] h = refl
aligned_length n (b ∷ bs) (s ∷ ss) h = ap (λ k. suc k) (aligned_length n bs ss h.2)
aligned_length n [] (s ∷ ss) h = absurd h
aligned_length n (b ∷ bs) [] h = absurd h

aligned_drop : (n : ℕ) (extra bs : Names) (ss : Sorts) → Aligned n (extra ++ bs) ss → Aligned n bs (drop (length extra) ss)
aligned_drop n [] bs ss h = h
aligned_drop n (b ∷ extra) bs [] h = absurd h
aligned_drop n (b ∷ extra) bs (s ∷ ss) h = aligned_drop n extra bs ss h.2

hold_tail : (live : List Bool) (s : Sort) (m : Meaning ℕ) (xs more : List ℕ) → Good live (hold s m xs ++ more) → Good live (xs ++ more)
hold_tail live AgentSort m xs more g = g
hold_tail live NumberSort m xs more g = g
hold_tail live Unused m xs more g = g.2
hold_tail live Spent m xs more g = g

held_drop : (n : ℕ) (live : List Bool) (extra bs : Names) (ss : Sorts) (more : List ℕ) → Aligned n (extra ++ bs) ss → Good live (held (extra ++ bs) ss ++ more) → Good live (held bs (drop (length extra) ss) ++ more)
held_drop n live [] bs ss more h g = g
held_drop n live (b ∷ extra) bs [] more h g = absurd h
held_drop n live (b ∷ extra) bs (s ∷ ss) more h g = held_drop n live extra bs ss more h.2 (hold_tail live s.sort b.meaning (held (extra ++ bs) ss) more g)

-- ---- names that are bound to pieces

record Bound (n : ℕ) (live : List Bool) (bs : Names) (ss : Sorts) (cs : Names) (ts : Sorts) (more : List ℕ) : Type 0 where
  aligned : Aligned n cs ts
  good : Good live (held cs ts ++ more)
  above : Above bs (length ss) cs (length ts)

bound_all : (n : ℕ) (live : List Bool) (xs : List Name) (ms : List (Meaning ℕ)) (bs : Names) (ss : Sorts) (more : List ℕ) → length xs ≡ length ms → Aligned n bs ss → Good live (held bs ss ++ (meant ms ++ more))
    → Bound n live bs ss (bind xs ms bs) (bind_sorts xs (unused xs) ss) more
bound_all n live [] [] bs ss more e h g = record { aligned = h; good = g; above = above_none bs (length ss) }
bound_all n live [] (m ∷ ms) bs ss more e h g = absurd (omega (arith, e))
bound_all n live (x ∷ xs) [] bs ss more e h g = absurd (omega (arith, e))
bound_all n live (x ∷ xs) (m ∷ ms) bs ss more e h g =
    let front = good_put live [] (piece_of m) (held bs ss ++ (meant ms ++ more)) (good_take live (held bs ss) (piece_of m) (meant ms ++ more) g) in
    let o = bound_all n live xs ms (bound x m bs) (sorted x Unused ss) more (omega (arith, e)) (refl, tt, h) front in
    record { aligned = o.aligned; good = o.good; above = above_one bs (length ss) (record { word = x.word; meaning = m }) _ _ (above_same _ _ _ _ _ (omega arith) o.above) }

-- arguments
abbrev AllFit : ℕ → List (Meaning ℕ) → List Sort → Type 0
AllFit n [] [] = Unit {0}
AllFit n (m ∷ ms) (s ∷ ss) = SortFits n m s × AllFit n ms ss
AllFit n [] (s ∷ ss) = ⊥
AllFit n (m ∷ ms) [] = ⊥

abbrev hold_all : List (Meaning ℕ) → List Sort → List ℕ
hold_all [] ss = []
hold_all (m ∷ ms) [] = []
hold_all (m ∷ ms) (s ∷ ss) = hold s m (hold_all ms ss)

hold_front : (live : List Bool) (s : Sort) (m : Meaning ℕ) (hs ps more : List ℕ) → Good live (hs ++ (hold s m ps ++ more)) → Good live (hold s m hs ++ (ps ++ more))
hold_front live AgentSort m hs ps more g = g
hold_front live NumberSort m hs ps more g = g
hold_front live Unused m hs ps more g = good_put live [] (piece_of m) (hs ++ (ps ++ more)) (good_take live hs (piece_of m) (ps ++ more) g)
hold_front live Spent m hs ps more g = g

record Entered (n : ℕ) (live : List Bool) (cs : Names) (ts : Sorts) (more : List ℕ) : Type 0 where
  aligned : Aligned n cs ts
  good : Good live (held cs ts ++ more)

entered : (n : ℕ) (live : List Bool) (xs : List Name) (ms : List (Meaning ℕ)) (us : List Sort) (bs : Names) (ss : Sorts) (more : List ℕ) → AllFit n ms us → Aligned n bs ss → Good live (held bs ss ++ (hold_all ms us ++ more))
    → length xs ≡ length us → Entered n live (bind xs ms bs) (bind_sorts xs us ss) more
entered n live [] [] [] bs ss more a h g e = record { aligned = h; good = g }
entered n live (x ∷ xs) (m ∷ ms) (u ∷ us) bs ss more a h g e =
    entered n live xs ms us (bound x m bs) (sorted x u ss) more a.1 (refl, a.0, h) (hold_front live u m (held bs ss) (hold_all ms us) more g) (omega (arith, e))
entered n live [] (m ∷ ms) (u ∷ us) bs ss more a h g e = absurd (omega (arith, e))
entered n live (x ∷ xs) [] [] bs ss more a h g e = absurd (omega (arith, e))
entered n live xs [] (u ∷ us) bs ss more a h g e = absurd a
entered n live xs (m ∷ ms) [] bs ss more a h g e = absurd a

-- two runs of pieces change places
swap_not : (p : ℕ) (xs ys more : List ℕ) → NotIn p (xs ++ (ys ++ more)) → NotIn p (ys ++ (xs ++ more))
swap_not p xs ys more h =
    let r = not_in_right p xs (ys ++ more) h in
    not_in_append p ys (xs ++ more) (not_in_left p ys more r) (not_in_append p xs more (not_in_left p xs (ys ++ more) h) (not_in_right p ys more r))

swap : (live : List Bool) (xs ys more : List ℕ) → Good live (xs ++ (ys ++ more)) → Good live (ys ++ (xs ++ more))
swap live xs [] more g = g
swap live xs (y ∷ ys) more g =
    let t = good_take live xs y (ys ++ more) g in
    (t.live_one, swap_not y xs ys more t.apart, swap live xs ys more t.good)

-- ---- picks

offers_fine : (n a r : ℕ) (live : List Bool) (ps more : List ℕ) → IsAgent n a → Good live (ps ++ more) → (next : Marked) → Fine n live (plain next) → Fine n live (plain (offer_asks a (offers r ps) next))
offers_fine n a r live [] more i g next k = k
offers_fine n a r live (p ∷ ps) more i g next k =
    let o = offers_fine n a (r + 1) live ps more i g.2 next k in
    ((g.0, o.0), (i, o.1))

record Ends (n : ℕ) (live : List Bool) (hs more : List ℕ) (m : ℕ) (go : List ℕ → Marked) : Type 0 where
  on : (qs : List ℕ) → Good live (hs ++ (qs ++ more)) → length qs ≡ m → Fine n live (plain (go qs))

-- one of a run comes first
to_first : (live : List Bool) (hs b : List ℕ) (p : ℕ) (a more : List ℕ) → Good live (hs ++ ((b ++ p ∷ a) ++ more)) → Good live (hs ++ ((p ∷ (b ++ a)) ++ more))
to_first live hs b p a more g =
    let g1 = subst (λ (xs : List ℕ). Good live xs) (ap (λ (xs : List ℕ). hs ++ xs) (append_assoc b (p ∷ a) more) ∙ sym (append_assoc hs b (p ∷ (a ++ more)))) g in
    let t = good_take live (hs ++ b) p (a ++ more) g1 in
    good_put live hs p ((b ++ a) ++ more) (subst (λ (xs : List ℕ). Taken live p xs) (append_assoc hs b (a ++ more) ∙ ap (λ (xs : List ℕ). hs ++ xs) (sym (append_assoc b a more))) t)

offered_append : (os ts : List Offer) → offered (os ++ ts) ≡ offered os ++ offered ts
offered_append [] ts = refl
offered_append (o ∷ os) ts = ap (λ qs. o.piece ∷ qs) (offered_append os ts)

contest_fine : (n : ℕ) (live : List Bool) (hs more : List ℕ) (m : ℕ) (go : List ℕ → Marked) → Ends n live hs more m go → (left before : List Offer) (best : Offer) (after : List Offer) (all : List ℕ)
    → all ≡ offered before ++ best.piece ∷ (offered after ++ offered left) → Good live (hs ++ (all ++ more)) → length all ≡ m → Fine n live (plain (contest before best after left go))
contest_fine n live hs more m go h [] before best after all e g l =
    let e' : all ≡ offered before ++ best.piece ∷ offered after = e ∙ ap (λ (qs : List ℕ). offered before ++ best.piece ∷ qs) (append-nil (offered after)) in
    let one = to_first live hs (offered before) best.piece (offered after) more (subst (λ (qs : List ℕ). Good live (hs ++ (qs ++ more))) e' g) in
    h.on (best.piece ∷ offered (before ++ after)) (subst (λ (qs : List ℕ). Good live (hs ++ ((best.piece ∷ qs) ++ more))) (sym (offered_append before after)) one)
    (omega (arith, l, ap (λ (qs : List ℕ). length qs) e', ap (λ (qs : List ℕ). length qs) (offered_append before after), length-append (offered before) (best.piece ∷ offered after), length-append (offered before) (offered after)))
contest_fine n live hs more m go h (o ∷ os) before best after all e g l =
    let y = contest_fine n live hs more m go h os before best (after ++ o ∷ []) all
    (e ∙ ap (λ qs. offered before ++ best.piece ∷ qs) (sym (append_assoc (offered after) (o.piece ∷ []) (offered os)) ∙ ap (λ qs. qs ++ offered os) (sym (offered_append after (o ∷ []))))) g l in
    let z = contest_fine n live hs more m go h os (before ++ best ∷ after) o [] all
    (e ∙ sym (append_assoc (offered before) (best.piece ∷ offered after) (o.piece ∷ offered os)) ∙ ap (λ qs. qs ++ o.piece ∷ offered os) (sym (offered_append before (best ∷ after)))) g l in
    ((y.0, z.0), (y.1, z.1))

contest_all_fine : (n : ℕ) (live : List Bool) (hs more : List ℕ) (m : ℕ) (go : List ℕ → Marked) → Ends n live hs more m go → (os : List Offer) → Good live (hs ++ (offered os ++ more)) → length (offered os) ≡ m → Fine n live (plain (contest_all os go))
contest_all_fine n live hs more m go h [] g l = h.on [] g l
contest_all_fine n live hs more m go h (o ∷ os) g l = contest_fine n live hs more m go h os [] o [] (o.piece ∷ offered os) refl g l

-- ---- statements

record Goes (n : ℕ) (bs : Names) (k : ℕ) (more : List ℕ) (go : Then) (post : Sorts → Type 0) : Type 0 where
  on : (cs : Names) (ts : Sorts) (r p : ℕ) (live : List Bool) → Above bs k cs (length ts) → Aligned n cs ts → Good live (held cs ts ++ more) → post ts → p ≡ length live → Fine n live (plain (go cs r p))

record Returns (n m : ℕ) (more : List ℕ) (go : List (Meaning ℕ) → ℕ → ℕ → Marked) : Type 0 where
  on : (ms : List (Meaning ℕ)) (r p : ℕ) (live : List Bool) → length ms ≡ m → Good live (meant ms ++ more) → p ≡ length live → Fine n live (plain (go ms r p))

record CallGoes (n : ℕ) (inline : Inline) (calls : Callable) : Type 0 where
  on : (f : List ℕ) (ms : List (Meaning ℕ)) (us : List Sort) (m r p : ℕ) (live : List Bool) (more : List ℕ) → calls f us m → AllFit n ms us → Good live (hold_all ms us ++ more) → p ≡ length live
      → (go : List (Meaning ℕ) → ℕ → ℕ → Marked) → Returns n m more go → Fine n live (plain (inline f ms r p go))

record Args (n : ℕ) (live : List Bool) (ps : List ℕ) (us : List Sort) (go : List (Meaning ℕ) → ℕ → Marked) : Type 0 where
  on : (ms : List (Meaning ℕ)) (q : ℕ) → AllFit n ms us → hold_all ms us ≡ ps → Fine n live (plain (go ms q))

args_fine : (n : ℕ) (live : List Bool) (bs : Names) (ss : Sorts) (more : List ℕ) → Aligned n bs ss → Good live (held bs ss ++ more) → (xs : List Arg) → ArgsOk n ss xs → (r : ℕ) (go : List (Meaning ℕ) → ℕ → Marked)
    → Args n live (pieces_named bs (arg_pieces xs)) (arg_sorts xs) go → Fine n live (plain (args_set bs xs r go))
args_fine n live bs ss more h g [] c r go k = k.on [] r tt refl
args_fine n live bs ss more h g (arg.Agent a ∷ xs) c r go k =
    args_fine n live bs ss more h g xs c.1 r _ (record { on = λ ms q f e. k.on (AnAgent (agent_at bs a) ∷ ms) q (agent_in n bs ss h a c.0, f) e })
args_fine n live bs ss more h g (arg.Piece x ∷ xs) c r go k =
    args_fine n live bs ss more h g xs c.1 r _ (record { on = λ ms q f e. k.on (APiece (piece_named bs x) ∷ ms) q (tt, f) (ap (λ (ps : List ℕ). piece_named bs x ∷ ps) e) })
args_fine n live bs ss more h g (arg.Number t ∷ xs) c r go k =
    asks_fine n live bs ss more h g t.terms c.0 r _ (args_fine n live bs ss more h g xs c.1 (r + asks_of t.terms + 1) _ (record { on = λ ms q f e. k.on (ANumber (r + asks_of t.terms) ∷ ms) q (tt, f) e }))

looks_length : (bs : Names) (xs : List Name) → length (looks bs xs) ≡ length xs
looks_length bs [] = refl
looks_length bs (x ∷ xs) = ap (λ k. suc k) (looks_length bs xs)

named_length : (bs : Names) (xs : List Name) → length (pieces_named bs xs) ≡ length xs
named_length bs [] = refl
named_length bs (x ∷ xs) = ap (λ k. suc k) (named_length bs xs)

as_length : (ps : List ℕ) → length (as_pieces {N = ℕ} ps) ≡ length ps
as_length [] = refl
as_length (p ∷ ps) = ap (λ k. suc k) (as_length ps)

offered_is : (r : ℕ) (ps : List ℕ) → offered (offers r ps) ≡ ps
offered_is r [] = refl
offered_is r (p ∷ ps) = ap (λ qs. p ∷ qs) (offered_is (r + 1) ps)

-- the statements of a block, after others on top
goes_on : (n : ℕ) (bs : Names) (k : ℕ) (cs : Names) (l : ℕ) (more : List ℕ) (go : Then) (post : Sorts → Type 0) → Above bs k cs l → Goes n bs k more go post → Goes n cs l more go post
goes_on n bs k cs l more go post a g = record { on = λ ds ts r p live b h gd c e. g.on ds ts r p live (above_through bs k cs l ds (length ts) a b) h gd c e }

module _ (n : ℕ) (inline : Inline) (calls : Callable) (cg : CallGoes n inline calls) where
  forms : (c : Code) (bs : Names) (ss : Sorts) (r p : ℕ) (live : List Bool) (more : List ℕ) (go : Then) (post : Sorts → Type 0) → p ≡ length live → Aligned n bs ss → Good live (held bs ss ++ more) → Clean n calls c ss post
      → Goes n bs (length ss) more go post → Fine n live (plain (expand inline c bs r p go))
  forms code.End bs ss r p live more go post e h g c k = k.on bs ss r p live (above_none bs (length ss)) h g c e
  forms (code.Cut a x t left right rest) bs ss r p live more go post e h g c k =
      let q = piece_named bs x in
      let one = taken n live bs ss more h g x.word c.2 in
      let ss' = spend ss x.word in
      let len : p ≡ length (spent live q) = e ∙ sym (length-set live q false) in
      let live' = spent live q ++ true ∷ true ∷ [] in
      let up : Above bs (length ss) (bound right (APiece (p + 1)) (bound left (APiece p) bs)) (length (sorted right Unused (sorted left Unused ss'))) =
      record { extra = record { word = right.word; meaning = APiece (p + 1) } ∷ record { word = left.word; meaning = APiece p } ∷ []; is = refl; long = omega (arith, spend_length ss x.word) } in
      let rest' = forms rest (bound right (APiece (p + 1)) (bound left (APiece p) bs)) (sorted right Unused (sorted left Unused ss')) (r + asks_of t.terms) (p + 2) live' more go post
      (omega (arith, len, length-append (spent live q) (true ∷ true ∷ []))) (refl, tt, (refl, tt, spend_aligned n bs ss h x.word))
      (good_two (spent live q) p (held bs ss' ++ more) len (used n live bs ss more h g x.word c.2)) c.3 (goes_on n bs (length ss) _ _ more go post up k) in
      asks_fine n live bs ss more h g t.terms c.1 r _ ((one.live_one, rest'.0), (agent_in n bs ss h a c.0, rest'.1))
  forms (code.Let x t rest) bs ss r p live more go post e h g c k =
      let q = r + asks_of t.terms in
      let up : Above bs (length ss) (bound x (ANumber q) bs) (length (sorted x NumberSort ss)) = record { extra = record { word = x.word; meaning = ANumber q } ∷ []; is = refl; long = omega arith } in
      let rest' = forms rest (bound x (ANumber q) bs) (sorted x NumberSort ss) (q + 1) p live more go post e (refl, tt, h) g c.1 (goes_on n bs (length ss) _ _ more go post up k) in
      asks_fine n live bs ss more h g t.terms c.0 r _ rest'
  forms (code.Join x y z rest) bs ss r p live more go post e h g c k =
      let px = piece_named bs x in
      let py = piece_named bs y in
      let one = taken n live bs ss more h g x.word c.0 in
      let g1 = used n live bs ss more h g x.word c.0 in
      let s1 = spend ss x.word in
      let h1 = spend_aligned n bs ss h x.word in
      let two = taken n (spent live px) bs s1 more h1 g1 y.word c.1 in
      let g2 = used n (spent live px) bs s1 more h1 g1 y.word c.1 in
      let s2 = spend s1 y.word in
      let gone = spent (spent live px) py in
      let len : p ≡ length gone = e ∙ sym (length-set (spent live px) py false ∙ length-set live px false) in
      let up : Above bs (length ss) (bound z (APiece p) bs) (length (sorted z Unused s2)) =
      record { extra = record { word = z.word; meaning = APiece p } ∷ []; is = refl; long = omega (arith, spend_length s1 y.word, spend_length ss x.word) } in
      let rest' = forms rest (bound z (APiece p) bs) (sorted z Unused s2) r (p + 1) (gone ++ true ∷ []) more go post (omega (arith, len, length-append gone (true ∷ [])))
      (refl, tt, spend_aligned n bs s1 h1 y.word) (good_new gone p (held bs s2 ++ more) len g2) c.2 (goes_on n bs (length ss) _ _ more go post up k) in
      ((one.live_one, two.live_one, rest'.0), rest'.1)
  forms (code.Give x a rest) bs ss r p live more go post e h g c k =
      let q = piece_named bs x in
      let one = taken n live bs ss more h g x.word c.1 in
      let s1 = spend ss x.word in
      let up : Above bs (length ss) bs (length s1) = record { extra = []; is = refl; long = omega (arith, spend_length ss x.word) } in
      let rest' = forms rest bs s1 r p (spent live q) more go post (e ∙ sym (length-set live q false)) (spend_aligned n bs ss h x.word) (used n live bs ss more h g x.word c.1) c.2 (goes_on n bs (length ss) bs (length s1) more go post up k) in
      ((one.live_one, rest'.0), (agent_in n bs ss h a c.0, rest'.1))
  forms (code.If l cm r' one ys other zs xs at rest) bs ss r p live more go post e h g c k =
      let after : List Name → Sorts → Type 0 = λ yields inner. Spends yields inner (λ ts. (length xs ≡ length yields) × Clean n calls rest (bind_sorts xs (unused xs) (drop (length ts - length ss) ts)) post) in
      let later : (yields : List Name) → Goes n bs (length ss) more (λ inner t u. expand inline rest (bind xs (looks inner yields) bs) t u go) (after yields) = λ yields. record {
        on = λ cs ts t u live' up h' g' c' e'.
            let o = spends n live' cs yields ts [] more _ h' g' c' in
            let ds = o.sorts in
            let size : length ds - length ss ≡ length up.extra = omega (arith, o.same, up.long) in
            let suffix = drop (length up.extra) ds in
            let h1 : Aligned n (up.extra ++ bs) ds = subst (λ (ns : Names). Aligned n ns ds) up.is o.aligned in
            let g1 : Good live' (held (up.extra ++ bs) ds ++ (pieces_named cs yields ++ more)) = subst (λ (ns : Names). Good live' (held ns ds ++ (pieces_named cs yields ++ more))) up.is o.good in
            let h2 = aligned_drop n up.extra bs ds h1 in
            let g2 = held_drop n live' up.extra bs ds (pieces_named cs yields ++ more) h1 g1 in
            let g3 = subst (λ (ps : List ℕ). Good live' (held bs suffix ++ (ps ++ more))) (sym (meant_looks cs yields)) g2 in
            let b = bound_all n live' xs (looks cs yields) bs suffix more (o.next.0 ∙ sym (looks_length cs yields)) h2 g3 in
            let same : length suffix ≡ length ss = sym (aligned_length n bs suffix h2) ∙ aligned_length n bs ss h in
            forms rest (bind xs (looks cs yields) bs) (bind_sorts xs (unused xs) suffix) t u live' more go post e' b.aligned b.good
            (subst (λ (d : ℕ). Clean n calls rest (bind_sorts xs (unused xs) (drop d ds)) post) size o.next.1)
            (goes_on n bs (length ss) _ _ more go post (above_same bs (length suffix) (length ss) _ _ same b.above) k);
      } in
      asks_fine n live bs ss more h g l.terms c.0 r _ (asks_fine n live bs ss more h g r'.terms c.1 (r + asks_of l.terms) _
      (test_fine n live cm _ _ _ _ (forms one bs ss _ p live more _ (after ys) e h g c.2 (later ys)) (forms other bs ss _ p live more _ (after zs) e h g c.3 (later zs))))
  forms (code.Pick a xs ys at rest) bs ss r p live more go post e h g c k =
      let ps = pieces_named bs xs in
      let o = spends n live bs xs ss [] more _ h g c.1 in
      let ds = o.sorts in
      let up : Above bs (length ss) bs (length ds) = record { extra = []; is = refl; long = omega (arith, o.same) } in
      offers_fine n (agent_at bs a) r live ps more (agent_in n bs ss h a c.0) (good_right live (held bs ds) (ps ++ more) o.good) _
      (contest_all_fine n live (held bs ds) more (length xs) _ (record {
        on = λ qs gq lq.
            let b = bound_all n live ys (as_pieces qs) bs ds more (omega (arith, o.next.0, lq, as_length qs)) o.aligned (subst (λ (zs : List ℕ). Good live (held bs ds ++ (zs ++ more))) (sym (meant_as qs)) gq) in
            forms rest (bind ys (as_pieces qs) bs) (bind_sorts ys (unused ys) ds) (r + count xs) p live more go post e b.aligned b.good o.next.1
            (goes_on n bs (length ss) _ _ more go post (above_through bs (length ss) bs (length ds) _ _ up b.above) k);
      })
      (offers r ps) (subst (λ (zs : List ℕ). Good live (held bs ds ++ (zs ++ more))) (sym (offered_is r ps)) o.good) (ap (λ (zs : List ℕ). length zs) (offered_is r ps) ∙ named_length bs xs))
  forms (code.Call f xs ys at rest) bs ss r p live more go post e h g c k =
      let ps = pieces_named bs (arg_pieces xs) in
      let o = spends n live bs (arg_pieces xs) ss [] more _ h g c.1 in
      let ds = o.sorts in
      let hs = held bs ds in
      let up : Above bs (length ss) bs (length ds) = record { extra = []; is = refl; long = omega (arith, o.same) } in
      args_fine n live bs ss more h g xs c.0 r _ (record {
        on = λ ms q fit is.
            cg.on f.word ms (arg_sorts xs) (length ys) q p live (hs ++ more) o.next.0 fit (subst (λ (zs : List ℕ). Good live (zs ++ (hs ++ more))) (sym is) (swap live hs ps more o.good)) e _
            (record {
              on = λ us t u live' len g' e'.
                  let b = bound_all n live' ys us bs ds more (sym len) o.aligned (swap live' (meant us) hs more g') in
                  forms rest (bind ys us bs) (bind_sorts ys (unused ys) ds) t u live' more go post e' b.aligned b.good o.next.1
                  (goes_on n bs (length ss) _ _ more go post (above_through bs (length ss) bs (length ds) _ _ up b.above) k);
            });
      })

sorts_length : (ps : List Param) → length (param_names ps) ≡ length (param_sorts ps)
sorts_length [] = refl
sorts_length (p ∷ ps) = ap (λ k. suc k) (sorts_length ps)

call_one : (n : ℕ) (d : PlainProc) (inline : Inline) (calls : Callable) → CleanProc n calls d → CallGoes n inline calls → CallGoes n (inline_with d inline) (callable_with d calls)
call_one n d inline calls cd cg = record {
  on = λ f ms us m r p live more ok fit g e go k.
      by (bytes_eq d.name.word f) f ms us m r p live more ok fit g e go k;
}
  where
    by : (t : Bool) (f : List ℕ) (ms : List (Meaning ℕ)) (us : List Sort) (m r p : ℕ) (live : List Bool) (more : List ℕ) → either t ((us ≡ param_sorts d.params) × (m ≡ length d.body.yields)) (calls f us m) → AllFit n ms us → Good live (hold_all ms us ++ more) → p ≡ length live
        → (go : List (Meaning ℕ) → ℕ → ℕ → Marked) → Returns n m more go
        → Fine n live (plain (cond t (expand inline d.body.code (bind (param_names d.params) ms []) r p (λ names s u. go (looks names d.body.yields) s u)) (inline f ms r p go)))
    by false f ms us m r p live more ok fit g e go k = cg.on f ms us m r p live more ok fit g e go k
    by true f ms us m r p live more ok fit g e go k =
        let fit' = subst (λ (vs : List Sort). AllFit n ms vs) ok.0 fit in
        let g' = subst (λ (vs : List Sort). Good live (hold_all ms vs ++ more)) ok.0 g in
        let i = entered n live (param_names d.params) ms (param_sorts d.params) [] [] more fit' tt g' (sorts_length d.params) in
        forms n inline calls cg d.body.code _ _ r p live more _ _ e i.aligned i.good cd (record {
          on = λ cs ts s u live' up h' gd c' e'.
              let o = spends n live' cs d.body.yields ts [] more _ h' gd c' in
              k.on (looks cs d.body.yields) s u live' (looks_length cs d.body.yields ∙ sym ok.1)
              (subst (λ (zs : List ℕ). Good live' (zs ++ more)) (sym (meant_looks cs d.body.yields)) (good_right live' (held cs o.sorts) (pieces_named cs d.body.yields ++ more) o.good)) e';
        })

call_none : (n : ℕ) → CallGoes n no_inline no_callable
call_none n = record { on = λ f ms us m r p live more ok fit g e go k. absurd ok }

call_all : (n : ℕ) (ds : List PlainProc) (inline : Inline) (calls : Callable) → CleanProcs n calls ds → CallGoes n inline calls → CallGoes n (inline_after inline ds) (callable_after calls ds)
call_all n [] inline calls c cg = cg
call_all n (d ∷ ds) inline calls c cg = call_all n ds (inline_with d inline) (callable_with d calls) c.1 (call_one n d inline calls c.0 cg)

-- the core of a clean program uses each piece at most once on each way, and names its agents alone
pub cores_are_single_use : (p : PlainProgram) → CleanProgram p → IsSingleUse (true ∷ []) (core_of p).tree × HasAgents p.agents.value (core_of p).tree
cores_are_single_use p c =
    let n = p.agents.value in
    forms n (inline_after no_inline p.procs) (callable_after no_callable p.procs) (call_all n p.procs no_inline no_callable c.0 (call_none n)) p.body _ _ 0 1 (true ∷ []) [] _ _ refl (refl, tt, tt) (refl, tt, tt) c.1
    (record { on = λ cs ts r q live up h g d e. (tt, tt) })
