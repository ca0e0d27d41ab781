-- The core of a program is numbered.
use Rattle.std.proofs.Common.{◌≡◌, ℕ, ◌+◌, ◌<◌, ◌≤◌, Bool, true, false, cond, List, [], ◌∷◌, ◌++◌, refl, ap, sym, subst, arith}
use Rattle.std.specs.Str.{bytes_eq}
use Rattle.slice_ast.specs.Code.{Code, PlainProc, PlainProgram}
use Rattle.slice_ast.specs.Code as code
use Rattle.slice_ast.specs.Spellable.{CanSpellCode, CanSpellTerms, CanSpellArg, CanSpellProc, Each, IsSpellable}
use Rattle.slice_ast.specs.declared.tree.Name.{Name}
use Rattle.slice_ast.specs.declared.tree.Term.{Term}
use Rattle.slice_ast.specs.declared.tree.Cmp.{Cmp}
use Rattle.slice_ast.specs.declared.tree.Cmp.TheVariants as cmp
use Rattle.slice_ast.specs.declared.tree.Operand.{Operand}
use Rattle.slice_ast.specs.declared.tree.Operand.TheVariants as operand
use Rattle.slice_ast.specs.declared.tree.Arg.{Arg}
use Rattle.slice_ast.specs.declared.tree.Arg.TheVariants as arg
use Rattle.slice_core.specs.declared.node.Lin.{Lin}
use Rattle.slice_core.specs.WellFormed.{IsBound, AreBound, IsSumOver, IsNumbered}
use Rattle.slice_expand.specs.Scope.{Meaning, AnAgent, APiece, ANumber, look, looks, bound, bind, agent_at, piece_of, piece_named, pieces_named, as_pieces}
use Rattle.slice_expand.specs.ProgramRun.{param_names}
use Rattle.slice_expand.specs.Marked.{Marked, plain}
use Rattle.slice_expand.specs.Marked as mark
use Rattle.slice_expand.specs.Expansion.{core_of, Names, Then, Inline, source_of, operand_asks, asks_of, operand_source, terms_lin, sum_lin, operand_ask, asks, test, Offer, offers, count, offer_asks, offered, contest, contest_all, args_set, expand, no_inline, inline_with, inline_after}
use Rattle.slice_expand.proofs.Keeps.{count_pieces}

-- among the first r registers and k pieces
abbrev In : (r k : ℕ) → Meaning ℕ → Type 0
In r k (AnAgent a) = Unit {0}
In r k (APiece p) = p < k
In r k (ANumber n) = n < r

abbrev AllIn : (r k : ℕ) → List (Meaning ℕ) → Type 0
AllIn r k [] = Unit {0}
AllIn r k (m ∷ ms) = In r k m × AllIn r k ms

abbrev NamesIn : (r k : ℕ) → Names → Type 0
NamesIn r k [] = Unit {0}
NamesIn r k (b ∷ bs) = In r k b.meaning × NamesIn r k bs

abbrev PiecesIn : ℕ → List ℕ → Type 0
PiecesIn k [] = Unit {0}
PiecesIn k (p ∷ ps) = (p < k) × PiecesIn k ps

in_later : (r k s l : ℕ) → r ≤ s → k ≤ l → (m : Meaning ℕ) → In r k m → In s l m
in_later r k s l p q (AnAgent a) h = tt
in_later r k s l p q (APiece x) h = omega (arith, h, q)
in_later r k s l p q (ANumber n) h = omega (arith, h, p)

names_later : (r k s l : ℕ) → r ≤ s → k ≤ l → (names : Names) → NamesIn r k names → NamesIn s l names
names_later r k s l p q [] h = tt
names_later r k s l p q (b ∷ bs) h = (in_later r k s l p q b.meaning h.0, names_later r k s l p q bs h.1)

all_later : (r k s l : ℕ) → r ≤ s → k ≤ l → (ms : List (Meaning ℕ)) → AllIn r k ms → AllIn s l ms
all_later r k s l p q [] h = tt
all_later r k s l p q (m ∷ ms) h = (in_later r k s l p q m h.0, all_later r k s l p q ms h.1)

in_cond : (r k : ℕ) (b : Bool) (m n : Meaning ℕ) → In r k m → In r k n → In r k (cond b m n)
in_cond r k true m n h g = h
in_cond r k false m n h g = g

look_in : (r k : ℕ) → 0 < k → (names : Names) → NamesIn r k names → (word : List ℕ) → In r k (look names word)
look_in r k l [] h word = l
look_in r k l (b ∷ bs) h word = in_cond r k (bytes_eq b.word word) b.meaning (look bs word) h.0 (look_in r k l bs h.1 word)

looks_in : (r k : ℕ) → 0 < k → (names : Names) → NamesIn r k names → (xs : List Name) → AllIn r k (looks names xs)
looks_in r k l names h [] = tt
looks_in r k l names h (x ∷ xs) = (look_in r k l names h x.word, looks_in r k l names h xs)

bind_in : (r k : ℕ) (xs : List Name) (ms : List (Meaning ℕ)) (names : Names) → AllIn r k ms → NamesIn r k names → NamesIn r k (bind xs ms names)
bind_in r k [] ms names a h = h
bind_in r k (x ∷ xs) [] names a h = h
bind_in r k (x ∷ xs) (m ∷ ms) names a h = bind_in r k xs ms (bound x m names) a.1 (a.0, h)

piece_in : (r k : ℕ) → 0 < k → (m : Meaning ℕ) → In r k m → piece_of m < k
piece_in r k l (AnAgent a) h = l
piece_in r k l (APiece p) h = h
piece_in r k l (ANumber n) h = l

named_in : (r k : ℕ) → 0 < k → (names : Names) → NamesIn r k names → (x : Name) → piece_named names x < k
named_in r k l names h x = piece_in r k l (look names x.word) (look_in r k l names h x.word)

all_named_in : (r k : ℕ) → 0 < k → (names : Names) → NamesIn r k names → (xs : List Name) → PiecesIn k (pieces_named names xs)
all_named_in r k l names h [] = tt
all_named_in r k l names h (x ∷ xs) = (named_in r k l names h x, all_named_in r k l names h xs)

as_pieces_in : (r k : ℕ) (ps : List ℕ) → PiecesIn k ps → AllIn r k (as_pieces ps)
as_pieces_in r k [] h = tt
as_pieces_in r k (p ∷ ps) h = (h.0, as_pieces_in r k ps h.1)

source_in : (r k : ℕ) (m : Meaning ℕ) → In r k m → IsBound r (source_of m)
source_in r k (AnAgent a) h = tt
source_in r k (APiece p) h = tt
source_in r k (ANumber n) h = h

-- ---- sums

operand_in : (names : Names) (o : Operand) (r s k : ℕ) → 0 < k → r + operand_asks o ≤ s → NamesIn s k names → IsBound s (operand_source names r o)
operand_in names (operand.Fraction f) r s k l e h = tt
operand_in names (operand.Named x) r s k l e h = source_in s k (look names x.word) (look_in s k l names h x.word)
operand_in names (operand.Value a x) r s k l e h = omega (arith, e)

terms_in : (names : Names) (ts : List Term) (r s k : ℕ) → 0 < k → r + asks_of ts ≤ s → NamesIn s k names → AreBound s (terms_lin names r ts)
terms_in names [] r s k l e h = tt
terms_in names (t ∷ ts) r s k l e h = (operand_in names t.operand r s k l (omega (arith, e)) h, terms_in names ts (r + operand_asks t.operand) s k l (omega (arith, e)) h)

sum_in : (names : Names) (ts : List Term) (r s k : ℕ) → 0 < k → r + asks_of ts ≤ s → NamesIn s k names → CanSpellTerms ts → IsSumOver s (sum_lin names r ts).terms
sum_in names [] r s k l e h c = absurd c
sum_in names (t ∷ ts) r s k l e h c = (c.0, terms_in names (t ∷ ts) r s k l e h)

operand_numbered : (names : Names) (o : Operand) (r k : ℕ) → 0 < k → NamesIn r k names → (next : Marked) → IsNumbered (r + operand_asks o) k (plain next) → IsNumbered r k (plain (operand_ask names r o next))
operand_numbered names (operand.Fraction f) r k l h next g = subst (λ (n : ℕ). IsNumbered n k (plain next)) (omega arith) g
operand_numbered names (operand.Named x) r k l h next g = subst (λ (n : ℕ). IsNumbered n k (plain next)) (omega arith) g
operand_numbered names (operand.Value a x) r k l h next g = (named_in r k l names h x, refl, g)

asks_numbered : (names : Names) (ts : List Term) (r k : ℕ) → 0 < k → NamesIn r k names → (next : Marked) → IsNumbered (r + asks_of ts) k (plain next) → IsNumbered r k (plain (asks names r ts next))
asks_numbered names [] r k l h next g = subst (λ (n : ℕ). IsNumbered n k (plain next)) (omega arith) g
asks_numbered names (t ∷ ts) r k l h next g =
    let e : r + (operand_asks t.operand + asks_of ts) ≡ (r + operand_asks t.operand) + asks_of ts = omega arith in
    operand_numbered names t.operand r k l h (asks names (r + operand_asks t.operand) ts next)
    (asks_numbered names ts (r + operand_asks t.operand) k l (names_later r k (r + operand_asks t.operand) k (omega arith) (omega arith) names h) next
    (subst (λ (n : ℕ). IsNumbered n k (plain next)) e g))

test_numbered : (c : Cmp) (a b : Lin) (y n : Marked) (r k : ℕ) → IsSumOver r a.terms → IsSumOver r b.terms → IsNumbered r k (plain y) → IsNumbered r k (plain n) → IsNumbered r k (plain (test c a b y n))
test_numbered cmp.Less a b y n r k h g u v = (g, h, u, v)
test_numbered cmp.AtMost a b y n r k h g u v = (g, h, u, v)
test_numbered cmp.More a b y n r k h g u v = (h, g, u, v)
test_numbered cmp.AtLeast a b y n r k h g u v = (h, g, u, v)

-- ---- picks

abbrev OffersIn : (r k : ℕ) → List Offer → Type 0
OffersIn r k [] = Unit {0}
OffersIn r k (o ∷ os) = (o.reg < r) × (o.piece < k) × OffersIn r k os

offers_in : (r s k : ℕ) (ps : List ℕ) → r + count ps ≤ s → PiecesIn k ps → OffersIn s k (offers r ps)
offers_in r s k [] e h = tt
offers_in r s k (p ∷ ps) e h = (omega (arith, e), h.0, offers_in (r + 1) s k ps (omega (arith, e)) h.1)

offers_append : (r k : ℕ) (os ts : List Offer) → OffersIn r k os → OffersIn r k ts → OffersIn r k (os ++ ts)
offers_append r k [] ts h g = g
offers_append r k (o ∷ os) ts h g = (h.0, h.1, offers_append r k os ts h.2 g)

offered_in : (r k : ℕ) (os : List Offer) → OffersIn r k os → PiecesIn k (offered os)
offered_in r k [] h = tt
offered_in r k (o ∷ os) h = (h.1, offered_in r k os h.2)

offers_numbered : (a r k : ℕ) (ps : List ℕ) → PiecesIn k ps → (next : Marked) → IsNumbered (r + count ps) k (plain next) → IsNumbered r k (plain (offer_asks a (offers r ps) next))
offers_numbered a r k [] h next g = subst (λ (n : ℕ). IsNumbered n k (plain next)) (omega arith) g
offers_numbered a r k (p ∷ ps) h next g =
    let e : r + (1 + count ps) ≡ (r + 1) + count ps = omega arith in
    (h.0, refl, offers_numbered a (r + 1) k ps h.1 next (subst (λ (n : ℕ). IsNumbered n k (plain next)) e g))

record Ends (r k : ℕ) (go : List ℕ → Marked) : Type 0 where
  on : (ps : List ℕ) → PiecesIn k ps → IsNumbered r k (plain (go ps))

contest_numbered : (r k : ℕ) (go : List ℕ → Marked) → Ends r k go → (left before : List Offer) (best : Offer) (after : List Offer) → OffersIn r k left → OffersIn r k before → (best.reg < r) × (best.piece < k) → OffersIn r k after
    → IsNumbered r k (plain (contest before best after left go))
contest_numbered r k go h [] before best after l b c a = h.on (best.piece ∷ offered (before ++ after)) (c.1, offered_in r k (before ++ after) (offers_append r k before after b a))
contest_numbered r k go h (o ∷ os) before best after l b c a = (
  (refl, (c.0, tt)),
  (refl, (l.0, tt)),
  contest_numbered r k go h os before best (after ++ o ∷ []) l.2 b c (offers_append r k after (o ∷ []) a (l.0, l.1, tt)),
  contest_numbered r k go h os (before ++ best ∷ after) o [] l.2 (offers_append r k before (best ∷ after) b (c.0, c.1, a)) (l.0, l.1) tt,
)

contest_all_numbered : (r k : ℕ) (go : List ℕ → Marked) → Ends r k go → (os : List Offer) → OffersIn r k os → IsNumbered r k (plain (contest_all os go))
contest_all_numbered r k go h [] l = h.on [] tt
contest_all_numbered r k go h (o ∷ os) l = contest_numbered r k go h os [] o [] l.2 tt (l.0, l.1) tt

-- ---- statements

record Goes (r k : ℕ) (go : Then) : Type 0 where
  on : (names : Names) (s l : ℕ) → r ≤ s → k ≤ l → NamesIn s l names → IsNumbered s l (plain (go names s l))

record Returns (r k : ℕ) (go : List (Meaning ℕ) → ℕ → ℕ → Marked) : Type 0 where
  on : (ms : List (Meaning ℕ)) (s l : ℕ) → r ≤ s → k ≤ l → AllIn s l ms → IsNumbered s l (plain (go ms s l))

record CallGoes (inline : Inline) : Type 0 where
  on : (f : List ℕ) (ms : List (Meaning ℕ)) (r k : ℕ) → 0 < k → AllIn r k ms → (go : List (Meaning ℕ) → ℕ → ℕ → Marked) → Returns r k go → IsNumbered r k (plain (inline f ms r k go))

record Args (r k : ℕ) (go : List (Meaning ℕ) → ℕ → Marked) : Type 0 where
  on : (ms : List (Meaning ℕ)) (s : ℕ) → r ≤ s → AllIn s k ms → IsNumbered s k (plain (go ms s))

args_numbered : (names : Names) (xs : List Arg) (r k : ℕ) → 0 < k → NamesIn r k names → Each CanSpellArg xs → (go : List (Meaning ℕ) → ℕ → Marked) → Args r k go → IsNumbered r k (plain (args_set names xs r go))
args_numbered names [] r k l h c go g = g.on [] r (omega arith) tt
args_numbered names (arg.Agent a ∷ xs) r k l h c go g = args_numbered names xs r k l h c.1 _ (record { on = λ ms s e i. g.on (AnAgent (agent_at names a) ∷ ms) s e (tt, i) })
args_numbered names (arg.Piece x ∷ xs) r k l h c go g = args_numbered names xs r k l h c.1 _ (record { on = λ ms s e i. g.on (APiece (piece_named names x) ∷ ms) s e (named_in r k l names h x, i) })
args_numbered names (arg.Number n ∷ xs) r k l h c go g =
    let q = r + asks_of n.terms in
    let up = names_later r k q k (omega arith) (omega arith) names h in
    asks_numbered names n.terms r k l h (mark.Set q (sum_lin names r n.terms) (args_set names xs (q + 1) (λ ms s. go (ANumber q ∷ ms) s))) (
      refl,
      sum_in names n.terms r q k l (omega arith) up c.0,
      args_numbered names xs (q + 1) k l (names_later q k (q + 1) k (omega arith) (omega arith) names up) c.1 _
          (record { on = λ ms s e i. g.on (ANumber q ∷ ms) s (omega (arith, e)) (omega (arith, e), i) }),
    )

module _ (inline : Inline) (cg : CallGoes inline) where
  numbered : (c : Code) → CanSpellCode c → (names : Names) (r k : ℕ) → 0 < k → NamesIn r k names → (go : Then) → Goes r k go → IsNumbered r k (plain (expand inline c names r k go))
  numbered code.End c names r k l h go g = g.on names r k (omega arith) (omega arith) h
  numbered (code.Cut a x e left right rest) c names r k l h go g =
      let q = r + asks_of e.terms in
      let up = names_later r k q k (omega arith) (omega arith) names h in
      let more = names_later q k q (k + 2) (omega arith) (omega arith) names up in
      asks_numbered names e.terms r k l h _ (
        named_in r k l names h x,
        sum_in names e.terms r q k l (omega arith) up c.2,
        refl,
        refl,
        numbered rest c.5 _ q (k + 2) (omega arith) (omega arith, (omega arith, more)) go (record { on = λ ns s m i j n. g.on ns s m (omega (arith, i)) (omega (arith, j)) n }),
      )
  numbered (code.Let x e rest) c names r k l h go g =
      let q = r + asks_of e.terms in
      let up = names_later r k q k (omega arith) (omega arith) names h in
      asks_numbered names e.terms r k l h _ (
        refl,
        sum_in names e.terms r q k l (omega arith) up c.1,
        numbered rest c.2 _ (q + 1) k l (omega arith, names_later q k (q + 1) k (omega arith) (omega arith) names up) go (record { on = λ ns s m i j n. g.on ns s m (omega (arith, i)) j n }),
      )
  numbered (code.Join x y z rest) c names r k l h go g = (
    named_in r k l names h x,
    named_in r k l names h y,
    refl,
    numbered rest c.3 _ r (k + 1) (omega arith) (omega arith, names_later r k r (k + 1) (omega arith) (omega arith) names h) go (record { on = λ ns s m i j n. g.on ns s m i (omega (arith, j)) n }),
  )
  numbered (code.Give x a rest) c names r k l h go g = (named_in r k l names h x, numbered rest c.2 names r k l h go g)
  numbered (code.If left c' right one ys other zs xs at rest) c names r k l h go g =
      let q = r + asks_of left.terms in
      let s = q + asks_of right.terms in
      let up = names_later r k q k (omega arith) (omega arith) names h in
      let top = names_later q k s k (omega arith) (omega arith) names up in
      let later : (yields : List Name) → Goes s k (λ inner t u. expand inline rest (bind xs (looks inner yields) names) t u go) = λ yields. record {
        on = λ inner t u i j n.
            numbered rest c.7 _ t u (omega (arith, j)) (bind_in t u xs (looks inner yields) names (looks_in t u (omega (arith, j)) inner n yields) (names_later s k t u i j names top)) go
            (record { on = λ ns v w i' j' n'. g.on ns v w (omega (arith, i, i')) (omega (arith, j, j')) n' });
      } in
      asks_numbered names left.terms r k l h _ (asks_numbered names right.terms q k l up _
      (test_numbered c' _ _ _ _ s k (sum_in names left.terms r s k l (omega arith) top c.0) (sum_in names right.terms q s k l (omega arith) top c.1)
      (numbered one c.2 names s k l top _ (later ys)) (numbered other c.4 names s k l top _ (later zs))))
  numbered (code.Pick a xs ys at rest) c names r k l h go g =
      let ps = pieces_named names xs in
      let inside = all_named_in r k l names h xs in
      let s = r + count xs in
      let top = names_later r k s k (omega arith) (omega arith) names h in
      let same : r + count ps ≡ s = ap (λ (n : ℕ). r + n) (sym (count_pieces names xs)) in
      offers_numbered (agent_at names a) r k ps inside _
      (subst (λ (n : ℕ). IsNumbered n k (plain (contest_all (offers r ps) (λ qs. expand inline rest (bind ys (as_pieces qs) names) s k go)))) (sym same)
      (contest_all_numbered s k _ (record {
        on = λ qs i.
            numbered rest c.3 _ s k l (bind_in s k ys (as_pieces qs) names (as_pieces_in s k qs i) top) go
            (record { on = λ ns v w i' j' n'. g.on ns v w (omega (arith, i')) j' n' });
      })
      (offers r ps) (offers_in r s k ps (omega (arith, same)) inside)))
  numbered (code.Call f xs ys at rest) c names r k l h go g =
      args_numbered names xs r k l h c.1 _ (record {
        on = λ ms q e i.
            cg.on f.word ms q k l i _ (record {
              on = λ us s u e' j n.
                  numbered rest c.3 _ s u (omega (arith, j)) (bind_in s u ys us names n (names_later r k s u (omega (arith, e, e')) j names h)) go
                  (record { on = λ ns v w i' j' n'. g.on ns v w (omega (arith, e, e', i')) (omega (arith, j, j')) n' });
            });
      })

inline_one : (d : PlainProc) → CanSpellProc d → (inline : Inline) → CallGoes inline → CallGoes (inline_with d inline)
inline_one d c inline cg = record {
  on = λ f ms r k l i go h.
      either (bytes_eq d.name.word f) r k _ _
      (numbered inline cg d.body.code c.2.0 (bind (param_names d.params) ms []) r k l (bind_in r k (param_names d.params) ms [] i tt) _
      (record { on = λ names s u e j n. h.on _ s u e j (looks_in s u (omega (arith, l, j)) names n d.body.yields) }))
      (cg.on f ms r k l i go h);
}
  where
    either : (b : Bool) (r k : ℕ) (one other : Marked) → IsNumbered r k (plain one) → IsNumbered r k (plain other) → IsNumbered r k (plain (cond b one other))
    either true r k one other h g = h
    either false r k one other h g = g

inline_all : (ds : List PlainProc) → Each CanSpellProc ds → (inline : Inline) → CallGoes inline → CallGoes (inline_after inline ds)
inline_all [] c inline cg = cg
inline_all (d ∷ ds) c inline cg = inline_all ds c.1 (inline_with d inline) (inline_one d c.0 inline cg)

inline_none : CallGoes no_inline
inline_none = record { on = λ f ms r k l i go h. h.on [] r k (omega arith) (omega arith) tt }

-- the core of a program that the grammar can spell numbers its registers and pieces in order
pub cores_are_numbered : (p : PlainProgram) → IsSpellable p → IsNumbered 0 1 (core_of p).tree
cores_are_numbered p c =
    numbered (inline_after no_inline p.procs) (inline_all p.procs c.0 no_inline inline_none) p.body c.3 _ 0 1 (omega arith) (omega arith, tt) _ (record { on = λ names s l i j n. tt })
