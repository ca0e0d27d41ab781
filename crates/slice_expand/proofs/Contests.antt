-- A pick in a core runs as that of the program.
use Rattle.std.proofs.Common.{◌≡◌, ℕ, ◌+◌, Bool, true, false, cond, List, [], ◌∷◌, ◌++◌, length, refl, ap, sym, subst, ◌∙◌, Some, arith, length-append, append_assoc, append-nil, pos}
use Rattle.std.specs.Prelude.{slice_get}
use Rattle.std.proofs.lemmas.Option.{get_or_from_slice_get}
use Rattle.slice_num.specs.Rational.{Rational, whole, IsBelow, IsAtMost}
use Rattle.slice_num.specs.Fitting.{below, at_most}
use Rattle.slice_num.specs.declared.choice.Choice.TheVariants as choice
use Rattle.slice_num.proofs.FieldLaws.{below-true, below-false}
use Rattle.slice_core.specs.Run.{Board, Worth, State, Ending, with_board, chosen, run}
use Rattle.slice_core.specs.Run as core
use Rattle.slice_expand.specs.ProgramRun.{ProgramEnd, RunState, ask_piece, all_asked, worth_on, picked}
use Rattle.slice_expand.specs.Expansion.{Offer, offers, offer_asks, offered, contest, contest_all, one_reg, count}
use Rattle.slice_expand.specs.Marked.{Marked, plain}
use Rattle.slice_expand.specs.Kept.{without_trace}
use Rattle.slice_expand.proofs.Grows.{Extends, extends_all, extends_through, extends_append, get_last}
use Rattle.slice_expand.proofs.Picks.{AllBelow, AllAtMost, all_at_most_append, all_below_append, all_below_later, strictly_later, picked-is}

-- a run's state without its trace
abbrev pub bare : State → RunState
bare s = record { board = s.board; answers = s.answers }

-- the registers after pieces were ask_piece
abbrev pub all_regs : Worth → ℕ → List ℕ → Board → List Rational → List Rational
all_regs w a [] b regs = regs
all_regs w a (p ∷ ps) b regs = all_regs w a ps (ask_piece w a p b) (regs ++ worth_on w a p b ∷ [])

-- each register compares the value of its piece
abbrev pub AllHeld : List Rational → (ℕ → Rational) → List Offer → Type 0
AllHeld regs v [] = Unit {0}
AllHeld regs v (o ∷ os) = (slice_get regs o.reg ≡ Some (v o.piece)) × AllHeld regs v os

pub all_grow : (w : Worth) (a : ℕ) (ps : List ℕ) (b : Board) (regs : List Rational) → Extends regs (all_regs w a ps b regs)
all_grow w a [] b regs = extends_all regs
all_grow w a (p ∷ ps) b regs = extends_through (extends_append regs (worth_on w a p b ∷ [])) (all_grow w a ps (ask_piece w a p b) (regs ++ worth_on w a p b ∷ []))

pub all_length : (w : Worth) (a : ℕ) (ps : List ℕ) (b : Board) (regs : List Rational) (r : ℕ) → r ≡ length regs → r + count ps ≡ length (all_regs w a ps b regs)
all_length w a [] b regs r e = omega (arith, e)
all_length w a (p ∷ ps) b regs r e =
    let later = all_length w a ps (ask_piece w a p b) (regs ++ worth_on w a p b ∷ []) (r + 1) (omega (arith, e, length-append regs (worth_on w a p b ∷ []))) in
    omega (arith, later)

pub all_pieces : (w : Worth) (a : ℕ) (ps : List ℕ) (b : Board) → (all_asked w a ps b).pieces ≡ b.pieces
all_pieces w a [] b = refl
all_pieces w a (p ∷ ps) b = all_pieces w a ps (ask_piece w a p b)

pub run_offers : (w : Worth) (a : ℕ) (ps : List ℕ) (regs : List Rational) (s : State) (r : ℕ) (next : Marked)
    → run w (plain (offer_asks a (offers r ps) next)) regs s ≡ run w (plain next) (all_regs w a ps s.board regs) (with_board (all_asked w a ps s.board) s)
run_offers w a [] regs s r next = refl
run_offers w a (p ∷ ps) regs s r next = run_offers w a ps (regs ++ worth_on w a p s.board ∷ []) (with_board (ask_piece w a p s.board) s) (r + 1) next

pub offers_held : (w : Worth) (a : ℕ) (ps : List ℕ) (b : Board) (regs : List Rational) (r : ℕ) → r ≡ length regs → AllHeld (all_regs w a ps b regs) (λ p. worth_on w a p b) (offers r ps)
offers_held w a [] b regs r e = tt
offers_held w a (p ∷ ps) b regs r e =
    let more = regs ++ worth_on w a p b ∷ [] in (
      (all_grow w a ps (ask_piece w a p b) more).kept r (worth_on w a p b) (get_last regs (worth_on w a p b) r e),
      offers_held w a ps (ask_piece w a p b) more (r + 1) (omega (arith, e, length-append regs (worth_on w a p b ∷ []))),
    )

pub offered_is : (r : ℕ) (ps : List ℕ) → offered (offers r ps) ≡ ps
offered_is r [] = refl
offered_is r (p ∷ ps) = ap (λ qs. p ∷ qs) (offered_is (r + 1) ps)

offered_append : (os ts : List Offer) → offered (os ++ ts) ≡ offered os ++ offered ts
offered_append [] ts = refl
offered_append (o ∷ os) ts = ap (λ qs. o.piece ∷ qs) (offered_append os ts)

held_append : (regs : List Rational) (v : ℕ → Rational) (os ts : List Offer) → AllHeld regs v os → AllHeld regs v ts → AllHeld regs v (os ++ ts)
held_append regs v [] ts h k = k
held_append regs v (o ∷ os) ts h k = (h.0, held_append regs v os ts h.1 k)

one_value : (regs : List Rational) (v : Rational) (r : ℕ) → slice_get regs r ≡ Some v → core.sum_value regs (one_reg r).terms ≡ v
one_value regs v r h = get_or_from_slice_get regs r v (whole (pos 0)) h

-- a test of two values
compared : (a b x y : Rational) (one other : Ending) (end : ProgramEnd) → x ≡ a → y ≡ b → (IsAtMost b a → without_trace one ≡ end) → (IsBelow a b → without_trace other ≡ end)
    → without_trace (cond (at_most y x) one other) ≡ end
compared a b x y one other end e f h k = ap (λ t. without_trace (cond (at_most y t) one other)) e ∙ ap (λ t. without_trace (cond (at_most t a) one other)) f ∙ by (below a b) refl
  where
    by : (t : Bool) → below a b ≡ t → without_trace (cond (at_most b a) one other) ≡ end
    by true l = ap (λ t. without_trace (cond (cond t false true) one other)) l ∙ k (below-true a b l)
    by false l = ap (λ t. without_trace (cond (cond t false true) one other)) l ∙ h (below-false a b l)

-- what is done with the pieces in their new order
pub record Ends (w : Worth) (regs : List Rational) (here : RunState) (go : List ℕ → Marked) (end : List ℕ → ProgramEnd) : Type 0 where
  pub on : (ps : List ℕ) (s : State) → bare s ≡ here → without_trace (run w (plain (go ps)) regs s) ≡ end ps

pub run_contest : (w : Worth) (regs : List Rational) (v : ℕ → Rational) (here : RunState) (go : List ℕ → Marked) (end : List ℕ → ProgramEnd) → Ends w regs here go end
    → (left before : List Offer) (best : Offer) (after : List Offer) (all : List ℕ) → all ≡ offered before ++ best.piece ∷ (offered after ++ offered left)
    → AllHeld regs v left → AllHeld regs v before → slice_get regs best.reg ≡ Some (v best.piece) → AllHeld regs v after
    → AllBelow v best.piece (offered before) → AllAtMost v best.piece (offered after)
    → (s : State) → bare s ≡ here → without_trace (run w (plain (contest before best after left go)) regs s) ≡ end (picked v all)
run_contest w regs v here go end h [] before best after all e hl hb ho ha lo hi s q =
    h.on (best.piece ∷ offered (before ++ after)) s q
    ∙ ap (λ qs. end (best.piece ∷ qs)) (offered_append before after)
    ∙ ap end (sym (picked-is v best.piece (offered before) (offered after) lo hi))
    ∙ ap (λ qs. end (picked v qs)) (ap (λ qs. offered before ++ best.piece ∷ qs) (sym (append-nil (offered after))) ∙ sym e)
run_contest w regs v here go end h (o ∷ os) before best after all e hl hb ho ha lo hi s q =
    compared (v best.piece) (v o.piece) (core.sum_value regs (one_reg best.reg).terms) (core.sum_value regs (one_reg o.reg).terms) _ _ (end (picked v all))
    (one_value regs (v best.piece) best.reg ho) (one_value regs (v o.piece) o.reg hl.0)
    (λ l. run_contest w regs v here go end h os before best (after ++ o ∷ []) all
    (e ∙ ap (λ qs. offered before ++ best.piece ∷ qs) (sym (append_assoc (offered after) (o.piece ∷ []) (offered os)) ∙ ap (λ qs. qs ++ offered os) (sym (offered_append after (o ∷ [])))))
    hl.1 hb ho (held_append regs v after (o ∷ []) ha (hl.0, tt)) lo
    (subst (λ (qs : List ℕ). AllAtMost v best.piece qs) (sym (offered_append after (o ∷ []))) (all_at_most_append v best.piece (offered after) (o.piece ∷ []) hi (l, tt)))
    (chosen (choice.Yes ∷ []) s) q)
    (λ l. run_contest w regs v here go end h os (before ++ best ∷ after) o [] all
    (e ∙ sym (append_assoc (offered before) (best.piece ∷ offered after) (o.piece ∷ offered os)) ∙ ap (λ qs. qs ++ o.piece ∷ offered os) (sym (offered_append before (best ∷ after))))
    hl.1 (held_append regs v before (best ∷ after) hb (ho, ha)) hl.0 tt
    (subst (λ (qs : List ℕ). AllBelow v o.piece qs) (sym (offered_append before (best ∷ after)))
    (all_below_append v o.piece (offered before) (best.piece ∷ offered after) (strictly_later v best.piece o.piece l (offered before) lo)
    (l, all_below_later v best.piece o.piece l (offered after) hi)))
    tt (chosen (choice.No ∷ []) s) q)

pub run_contest_all : (w : Worth) (regs : List Rational) (v : ℕ → Rational) (here : RunState) (go : List ℕ → Marked) (end : List ℕ → ProgramEnd) → Ends w regs here go end
    → (os : List Offer) → AllHeld regs v os → (s : State) → bare s ≡ here → without_trace (run w (plain (contest_all os go)) regs s) ≡ end (picked v (offered os))
run_contest_all w regs v here go end h [] held s q = h.on [] s q
run_contest_all w regs v here go end h (o ∷ os) held s q = run_contest w regs v here go end h os [] o [] (o.piece ∷ offered os) refl held.1 tt held.0 tt tt tt s q
