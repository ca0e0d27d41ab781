-- What a run's end shows of a walk, and the numbers of a walk where they fit.
use Rattle.std.proofs.Common.{◌≡◌, ◌∙◌, ℕ, ◌-◌, ◌<◌, ◌∷◌, List, [], true, false, Some, None, Option, Bool, refl, ap, arith}
use Rattle.std.specs.Prelude.{length}
use Rattle.std.specs.List.{All}
use Rattle.std.proofs.lemmas.List.Elements.{All-get_or}
use Rattle.slice_num.specs.Rational.{Rational}
use Rattle.slice_num.specs.Fitting.{Fitting, Fitted, Unfit, next-out, sum_in-exact, product_in-exact}
use Rattle.slice_num.specs.Valuation.{Valuation, IsValuation, share_value}
use Rattle.slice_num.specs.declared.choice.Side.{Side}
use Rattle.slice_num.specs.declared.choice.Choice.{Choice}
use Rattle.slice_core.specs.Agents.{IsAgent}
use Rattle.slice_num.specs.Pieces.{piece_at}
use Rattle.slice_core.specs.Run.{Piece, Board, Ending, Done, Stuck, Few, Bad, Many, halted, source_value, scaled, added, term_value, terms_value, sum_value}
use Rattle.slice_core.specs.declared.node.LinTerm.{LinTerm}
use Rattle.slice_num.specs.declared.cut_answer.CutAnswer.{CutAnswer}
use Rattle.slice_core.proofs.FormedLaws.{agent_place}
use Rattle.slice_step.specs.Arithmetic.{share_in}
use Rattle.slice_run.specs.Sums.{scaled_in, added_in, term_in, terms_in, lin_in}
use Rattle.slice_run.specs.Walk.{Walked, Good, Refused, walk_on, InRange, Given, Halt, AtEnd, AtCut, halt}
use Rattle.slice_run.specs.declared.outcome.RunFault.TheVariants.{BadAnswer, TooFewAnswers, TooManyAnswers}
use Rattle.slice_step.proofs.Exact.{share_in-exact}
use Rattle.slice_run.proofs.Ordered.{AllOrdered, ordered_at}
use Rattle.slice_step.proofs.InOrder.{piece_all}
use Rattle.slice_core.specs.Measures.{valuation_of}

-- how a walk ends beside a run that ends so
abbrev pub shown : Ending → Walked Halt
shown (Done s) = Good (AtEnd s.board)
shown (Stuck at s) = Good (AtCut at s.board)
shown (Few query) = Refused (TooFewAnswers query)
shown (Bad query) = Refused (BadAnswer query)
shown Many = Refused TooManyAnswers

-- where no number stops the walk, it ends as the run
abbrev pub Agrees : Ending → Walked Halt → Type 0
Agrees e w = InRange w → shown e ≡ w

pub halted_shown : (at : Side) (b : Board) (ys : List CutAnswer) (trace : List Choice) → shown (halted at (record { board = b; answers = ys; trace = trace })) ≡ halt (Given ys) (AtCut at b)
halted_shown at b [] trace = refl
halted_shown at b (y ∷ ys) trace = refl

-- what holds after a number that fits holds of the walk
pub on_number : {A : Type 0} (P : Walked Halt → Type 0) (query : ℕ) (m : Fitting A) (go : A → Walked Halt) → ((x : A) → m ≡ Fitted x → InRange (go x) → P (go x)) → InRange (walk_on query m go) → P (walk_on query m go)
on_number P query (Fitted x) go f r = f x refl r
on_number P query Unfit go f r = absurd r

-- ---- sums
scaled_exact : (c : Option Rational) (v r : Rational) → scaled_in c v ≡ Fitted r → r ≡ scaled c v
scaled_exact None v r h = cc
scaled_exact (Some c) v r h = product_in-exact c v r h

added_exact : (minus : Bool) (sum v r : Rational) → added_in minus sum v ≡ Fitted r → r ≡ added minus sum v
added_exact true sum v r h = sum_in-exact _ _ r h
added_exact false sum v r h = sum_in-exact sum v r h

term_exact : (regs : List Rational) (t : LinTerm) (r : Rational) → term_in regs t ≡ Fitted r → r ≡ term_value regs t
term_exact regs t r h = scaled_exact t.factor (source_value regs t.source) r h

terms_exact : (regs : List Rational) (sum : Rational) (ts : List LinTerm) (r : Rational) → terms_in regs sum ts ≡ Fitted r → r ≡ terms_value regs sum ts
terms_exact regs sum [] r h = cc
terms_exact regs sum (t ∷ ts) r h =
    let one = next-out _ _ r h in
    let both = next-out _ _ r one.then_is in
    terms_exact regs both.first ts r both.then_is
    ∙ ap (λ (q : Rational). terms_value regs q ts) (added_exact t.minus sum one.first both.first both.is ∙ ap (added t.minus sum) (term_exact regs t one.first one.is))

pub lin_exact : (regs : List Rational) (ts : List LinTerm) (r : Rational) → lin_in regs ts ≡ Fitted r → r ≡ sum_value regs ts
lin_exact regs [] r h = cc
lin_exact regs (t ∷ ts) r h =
    let one = next-out _ _ r h in
    terms_exact regs one.first ts r one.then_is ∙ ap (λ (q : Rational). terms_value regs q ts) (term_exact regs t one.first one.is)

-- ---- share-values
pub valid_at : (vs : List Valuation) (agents a : ℕ) → All IsValuation vs → length vs ≡ agents → IsAgent agents a → IsValuation (valuation_of vs a)
valid_at vs agents a valid count agent =
    let there : a - 1 < length vs = omega (arith, agent_place agents a agent, count) in
    All-get_or IsValuation vs (a - 1) (record { ends = []; heights = [] }) there valid

pub share_exact : (v : Valuation) (pieces : List Piece) (p : ℕ) (r : Rational) → IsValuation v → AllOrdered pieces → share_in v (piece_at pieces p) ≡ Fitted r → r ≡ share_value v (piece_at pieces p)
share_exact v pieces p r valid ordered h = share_in-exact v (piece_at pieces p) r valid (piece_all (piece_at pieces p) (ordered_at pieces p ordered)) h
