-- A core has one least run: where two lists of answers first differ, the earlier answer is refused by one of them and goes on in the other.
use Rattle.std.proofs.Common.{◌≡◌, ◌∙◌, ℕ, suc, ◌++◌, ◌∷◌, List, [], length, take, pos, Bool, true, false, inl, inr, refl, ap, sym, subst}
use Rattle.std.specs.Prelude.{⊤, if◌then◌else◌}
use Rattle.slice_num.specs.Rational.{Rational, whole}
use Rattle.slice_num.specs.Fitting.{below}
use Rattle.slice_num.specs.declared.choice.Side.{Side}
use Rattle.slice_num.specs.declared.choice.Side.TheVariants as side
use Rattle.slice_num.specs.declared.choice.Choice.{Choice}
use Rattle.slice_num.specs.declared.choice.Choice.TheVariants as choice
use Rattle.slice_core.specs.Tree.{Tree, Ask, Set, Cut, Join, Test, Give, End}
use Rattle.slice_num.specs.Pieces.{piece_at}
use Rattle.slice_core.specs.Run.{Piece, Board, ask_on, join_on, give_on, Worth, State, Ending, Done, Stuck, Few, Bad, Many, sum_value, goes_yes, halted, is_right, cut_at, run, first_board}
use Rattle.slice_core.proofs.CutLaws.{cut_part, cut_answered, cut_at-is}
use Rattle.slice_num.specs.declared.cut_answer.CutAnswer.{CutAnswer}
use Rattle.slice_core.proofs.Endings.{cut_state}
use Rattle.slice_num.proofs.Parts.{parts_both}
use Rattle.slice_run.specs.Walk.{Told, Divided, Halted}
use Rattle.slice_run.specs.RunLaws.{Tells, IsBad, AreLeast, AreAlike, LeastRunsAreUnique}
use Rattle.slice_step.proofs.LeastAnswer.{answer_order}
use Rattle.slice_run.proofs.RunSteps.{state}
use Rattle.slice_run.proofs.Follows.{IsOver}

-- with one more answer or several, a run that ended has answers left, and one that was refused for a wrong answer still is
abbrev Longer : Ending → Ending → Type 0
Longer (Done s) f = f ≡ Many
Longer (Stuck at s) f = f ≡ Many
Longer (Few query) f = ⊤
Longer (Bad query) f = IsBad f
Longer Many f = ⊤

choose_both : (b : Bool) (x y u v : Ending) → Longer x u → Longer y v → Longer (if b then x else y) (if b then u else v)
choose_both true x y u v h k = h
choose_both false x y u v h k = k

halted_longer : (at : Side) (b : Board) (trace : List Choice) (xs : List CutAnswer) (z : CutAnswer) (more : List CutAnswer)
    → Longer (halted at (state b xs trace)) (halted at (state b (xs ++ z ∷ more) trace))
halted_longer at b trace [] z more = refl
halted_longer at b trace (x ∷ xs) z more = tt

abbrev GoesLonger : (State → Ending) → CutAnswer → List CutAnswer → Type 0
GoesLonger go z more =
    (b : Board) (trace : List Choice) (xs : List CutAnswer) → Longer (go (state b xs trace)) (go (state b (xs ++ z ∷ more) trace))

answered_longer : (w : Piece → Rational) (a p : ℕ) (amount : Rational) (go : State → Ending) (b : Board) (trace : List Choice) (xs : List CutAnswer) (z : CutAnswer) (more : List CutAnswer) → GoesLonger go z more
    → Longer (cut_answered w a p amount go (state b xs trace) xs) (cut_answered w a p amount go (state b (xs ++ z ∷ more) trace) (xs ++ z ∷ more))
answered_longer w a p amount go b trace [] z more goes = tt
answered_longer w a p amount go b trace (y ∷ ys) z more goes =
    parts_both Longer [] (piece_at b.pieces p) y.part (Bad (length b.queries)) (cut_part w a p amount y ys go (state b (y ∷ ys) trace)) (Bad (length b.queries)) (cut_part w a p amount y (ys ++ z ∷ more) go (state b (y ∷ ys ++ z ∷ more) trace)) tt
    (λ before i after parts number.
    choose_both (is_right w before i y.point amount) _ _ _ _
    (goes (cut_state a p amount y ys before i after (state b (y ∷ ys) trace)).board (cut_state a p amount y ys before i after (state b (y ∷ ys) trace)).trace ys) tt)

along : (e f x y : Ending) → e ≡ x → f ≡ y → Longer x y → Longer e f
along e f x y p q h = subst (λ u. Longer u f) (sym p) (subst (Longer x) (sym q) h)

cut_longer : (w : Piece → Rational) (a p : ℕ) (share : Rational) (go : State → Ending) (b : Board) (trace : List Choice) (xs : List CutAnswer) (z : CutAnswer) (more : List CutAnswer) → GoesLonger go z more
    → Longer (cut_at w a p share go (state b xs trace)) (cut_at w a p share go (state b (xs ++ z ∷ more) trace))
cut_longer w a p share go b trace xs z more goes =
    along _ _ _ _ (cut_at-is w a p share go (state b xs trace)) (cut_at-is w a p share go (state b (xs ++ z ∷ more) trace))
    (choose_both (below share (whole (pos 0))) _ _ _ _ (halted_longer side.Low b trace xs z more)
    (choose_both (below (w (piece_at b.pieces p)) share) _ _ _ _ (halted_longer side.High b trace xs z more)
    (answered_longer w a p share go b trace xs z more goes)))

run_longer : (w : Worth) (tree : Tree) (regs : List Rational) (z : CutAnswer) (more : List CutAnswer) → GoesLonger (run w tree regs) z more
run_longer w (Ask a p r next) regs z more b trace xs = run_longer w next (regs ++ w a (piece_at b.pieces p) ∷ []) z more (ask_on a (w a (piece_at b.pieces p)) b) trace xs
run_longer w (Set r sum next) regs z more b trace xs = run_longer w next (regs ++ sum_value regs sum.terms ∷ []) z more b trace xs
run_longer w (Cut a p amount l r next) regs z more b trace xs =
    cut_longer (w a) a p (sum_value regs amount.terms) (run w next regs) b trace xs z more (run_longer w next regs z more)
run_longer w (Join p q r next) regs z more b trace xs = run_longer w next regs z more (join_on p q b) trace xs
run_longer w (Test left right strict at_yes at_no) regs z more b trace xs =
    choose_both (goes_yes strict (sum_value regs left.terms) (sum_value regs right.terms)) _ _ _ _
    (run_longer w at_yes regs z more b (trace ++ choice.Yes ∷ []) xs) (run_longer w at_no regs z more b (trace ++ choice.No ∷ []) xs)
run_longer w (Give p a next) regs z more b trace xs = run_longer w next regs z more (give_on p a b) trace xs
run_longer w End regs z more b trace [] = refl
run_longer w End regs z more b trace (x ∷ xs) = tt

-- ---- the answers of a least run
abbrev IsLonger : (List CutAnswer → Ending) → Type 0
IsLonger f = (xs : List CutAnswer) (z : CutAnswer) (more : List CutAnswer) → Longer (f xs) (f (xs ++ z ∷ more))

-- a run that ended doesn't end so with more answers
not_both_ends : (e f : Ending) → Longer e f → IsOver e → IsOver f → ⊥
not_both_ends (Done s) f h k l = let none : IsOver Many = subst IsOver h l in none
not_both_ends (Stuck at s) f h k l = let none : IsOver Many = subst IsOver h l in none
not_both_ends (Few query) f h k l = k
not_both_ends (Bad query) f h k l = k
not_both_ends Many f h k l = k

bad_ends : (e : Ending) → IsBad e → IsOver e → ⊥
bad_ends (Done s) h k = h
bad_ends (Stuck at s) h k = h
bad_ends (Few query) h k = h
bad_ends (Bad query) h k = k
bad_ends Many h k = h

bad_longer : (e f : Ending) → Longer e f → IsBad e → IsBad f
bad_longer (Done s) f h k = absurd k
bad_longer (Stuck at s) f h k = absurd k
bad_longer (Few query) f h k = absurd k
bad_longer (Bad query) f h k = h
bad_longer Many f h k = absurd k

-- an answer that is refused at once doesn't begin the answers of a run that ended
refused_first : (f : List CutAnswer → Ending) → IsLonger f → (y : CutAnswer) (ys : List CutAnswer) → IsBad (f (y ∷ [])) → IsOver (f (y ∷ ys)) → ⊥
refused_first f longer y [] bad ends = bad_ends (f (y ∷ [])) bad ends
refused_first f longer y (r ∷ rs) bad ends = bad_ends (f (y ∷ r ∷ rs)) (bad_longer (f (y ∷ [])) (f (y ∷ r ∷ rs)) (longer (y ∷ []) r rs) bad) ends

same_answers : (f : List CutAnswer → Ending) → IsLonger f → (ys zs : List CutAnswer) → IsOver (f ys) → IsOver (f zs) → AreLeast f ys → AreLeast f zs → ys ≡ zs
same_answers f longer [] [] h k least_y least_z = refl
same_answers f longer [] (z ∷ zs) h k least_y least_z = absurd (not_both_ends (f []) (f (z ∷ zs)) (longer [] z zs) h k)
same_answers f longer (y ∷ ys) [] h k least_y least_z = absurd (not_both_ends (f []) (f (y ∷ ys)) (longer [] y ys) k h)
same_answers f longer (y ∷ ys) (z ∷ zs) h k least_y least_z = elim (answer_order y z) [
  | inl lt ↦ absurd (refused_first f longer y ys (least_z 0 z y refl lt) h)
  | inr more ↦ elim more [
    | inr gt ↦ absurd (refused_first f longer z zs (least_y 0 y z refl gt) k)
    | inl e ↦
        ap (λ xs. y ∷ xs)
        (same_answers (λ xs. f (y ∷ xs)) (λ xs. longer (y ∷ xs)) ys zs h (subst (λ (x : CutAnswer). IsOver (f (x ∷ zs))) (sym e) k) (λ n. least_y (suc n))
        (λ n u v g lt. subst (λ (x : CutAnswer). IsBad (f (x ∷ take n zs ++ v ∷ []))) (sym e) (least_z (suc n) u v g lt)))
        ∙ ap (λ x. x ∷ zs) e
  ]
]

-- ---- what is told
tells_over : (e : Ending) (t : Told) → Tells e t → IsOver e
tells_over (Done s) t h = tt
tells_over (Stuck at s) t h = tt
tells_over (Few query) t h = h
tells_over (Bad query) t h = h
tells_over Many t h = h

tells_alike : (e : Ending) (s t : Told) → Tells e s → Tells e t → AreAlike s t
tells_alike (Done x) (Divided qs shares left vs) (Divided qs2 shares2 left2 vs2) h k = (sym h.0 ∙ k.0, sym h.1 ∙ k.1, sym h.2 ∙ k.2)
tells_alike (Done x) (Divided qs shares left vs) (Halted qs2 q2 at2) h k = absurd k
tells_alike (Done x) (Halted qs q at) t h k = absurd h
tells_alike (Stuck from x) (Divided qs shares left vs) t h k = absurd h
tells_alike (Stuck from x) (Halted qs q at) (Divided qs2 shares2 left2 vs2) h k = absurd k
tells_alike (Stuck from x) (Halted qs q at) (Halted qs2 q2 at2) h k = (sym h.0 ∙ k.0, sym h.1 ∙ k.1, sym h.2 ∙ k.2)
tells_alike (Few query) s t h k = absurd h
tells_alike (Bad query) s t h k = absurd h
tells_alike Many s t h k = absurd h

pub least_runs_unique : LeastRunsAreUnique
least_runs_unique w core length s t l m =
    let f = λ (ys : List CutAnswer). run w core.tree [] (state (first_board core.agents length) ys []) in
    let same : l.answers ≡ m.answers = same_answers f (λ xs z more. run_longer w core.tree [] z more (first_board core.agents length) [] xs) l.answers m.answers (tells_over (f l.answers) s l.told) (tells_over (f m.answers) t m.told) l.least m.least in
    tells_alike (f l.answers) s t l.told (subst (λ (ys : List CutAnswer). Tells (f ys) t) (sym same) m.told)
