-- The JSON of a counterexample says its valuations and its answers.
use Rattle.std.proofs.Common.{◌≡◌, ◌∙◌, ℕ, ◌≤◌, ◌<◌, ◌^◌, ◌==◌, pos, List, [], ◌∷◌, ◌++◌, map, length, Bool, true, false, Some, refl, sym, ap, arith}
use Rattle.std.specs.Prelude.{nat_lt, if◌then◌else◌, option_map}
use Rattle.std.proofs.lemmas.Bool.Decides.{nat_tests}
use Rattle.serde_json.specs.Data.{depth, items_depth}
use Rattle.serde_json.specs.Read.{max_depth}
use Rattle.serde_json.specs.View.{items_of}
use Rattle.slice_num.specs.Rational.{Rational}
use Rattle.slice_num.specs.Arithmetic.{FitsRational}
use Rattle.slice_num.specs.FractionText.{fraction_text}
use Rattle.slice_num.specs.FractionReading.{fraction_read}
use Rattle.slice_num.specs.Valuation.{Valuation}
use Rattle.slice_num.specs.declared.cut_answer.CutAnswer.{CutAnswer}
use Rattle.slice_num.proofs.Written.{text_writes, fraction_in}
use Rattle.slice_json.specs.Texts.{whole, fraction, pair_of}
use Rattle.slice_json.specs.Reading.{json_of, wholes_of}
use Rattle.slice_step.specs.ValuationFile.{Says, AllSay, AllAnswer, IsReplayFile, cut_of}
use Rattle.slice_step.specs.ValuationShape.{IsSmallList}
use Rattle.slice_paths.specs.declared.goal.GoalKind.{GoalKind}
use Rattle.slice_paths.specs.declared.goal.GoalKind.TheVariants.{Low, High, Envy}
use Rattle.slice_counter.specs.CounterLine.{answer_json, valuation_json, outcome_json, counter_json}

-- ---- valuations
wholes_said : (ns : List ℕ) → wholes_of (items_of (map whole ns)) ≡ Some (map (λ n. pos n) ns)
wholes_said [] = refl
wholes_said (n ∷ ns) = ap (option_map (λ zs. pos n ∷ zs)) (wholes_said ns)

valuation_said : (v : Valuation) → Says (valuation_json v) v
valuation_said v = record { ends = wholes_said v.ends; heights = wholes_said v.heights }

valuations_said : (vs : List Valuation) → AllSay (items_of (map valuation_json vs)) vs
valuations_said [] = tt
valuations_said (v ∷ vs) = (valuation_said v, valuations_said vs)

-- ---- answers
fraction_said : (q : Rational) → FitsRational q → fraction_read (fraction_text q) ≡ Some q
fraction_said q h = fraction_in (fraction_text q) q (text_writes q h)

pub answer_said : (y : CutAnswer) → y.part < 2 ^ 32 → FitsRational y.point → cut_of (answer_json y) ≡ Some y
answer_said y few fits = by (y.part == 0) refl
  where
    first : y.part ≡ 0 → option_map (λ q. record { part = 0; point = q }) (fraction_read (fraction_text y.point)) ≡ Some y
    first e = ap (option_map (λ q. record { part = 0; point = q })) (fraction_said y.point fits) ∙ ap (λ n. Some (record { part = n; point = y.point })) (sym e)

    by : (b : Bool) → (y.part == 0) ≡ b → cut_of (if b then fraction y.point else pair_of whole fraction (y.part, y.point)) ≡ Some y
    by true e = first (grind (arith, nat_tests))
    by false e =
        let small : nat_lt y.part (2 ^ 32) ≡ true = grind (arith, nat_tests) in
        rw small (ap (option_map (λ q. record { part = y.part; point = q })) (fraction_said y.point fits))

pub one_more_said : (ys : List CutAnswer) (y : CutAnswer) → AllAnswer (items_of (map answer_json ys)) ys → cut_of (answer_json y) ≡ Some y → AllAnswer (items_of (map answer_json (ys ++ y ∷ []))) (ys ++ y ∷ [])
one_more_said [] y h e = (e, tt)
one_more_said (z ∷ ys) y h e = (h.0, one_more_said ys y h.1 e)

-- ---- the whole
wholes_depth : (ns : List ℕ) → items_depth (items_of (map whole ns)) ≡ 0
wholes_depth [] = refl
wholes_depth (n ∷ ns) = omega (arith, wholes_depth ns)

valuations_depth : (vs : List Valuation) → items_depth (items_of (map valuation_json vs)) ≤ 2
valuations_depth [] = omega arith
valuations_depth (v ∷ vs) = omega (arith, wholes_depth v.ends, wholes_depth v.heights, valuations_depth vs)

answer_depth : (y : CutAnswer) (b : Bool) → depth (if b then fraction y.point else pair_of whole fraction (y.part, y.point)) ≤ 1
answer_depth y true = omega arith
answer_depth y false = omega arith

answers_depth : (ys : List CutAnswer) → items_depth (items_of (map answer_json ys)) ≤ 1
answers_depth [] = omega arith
answers_depth (y ∷ ys) = omega (arith, answer_depth y (y.part == 0), answers_depth ys)

outcome_depth : (query : ℕ) (k : GoalKind) → depth (outcome_json query k) ≡ 1
outcome_depth query Low = omega arith
outcome_depth query High = omega arith
outcome_depth query (Envy a b) = omega arith

pub few_levels : (goal : ℕ) (kind : GoalKind) (query : ℕ) (vs : List Valuation) (ys : List CutAnswer) → depth (counter_json goal kind query vs ys) ≤ max_depth
few_levels goal kind query vs ys = omega (arith, outcome_depth query kind, valuations_depth vs, answers_depth ys)

pub replay_said : (bytes : List ℕ) (goal : ℕ) (kind : GoalKind) (query : ℕ) (vs : List Valuation) (ys : List CutAnswer) → json_of bytes ≡ Some (counter_json goal kind query vs ys) → IsSmallList vs
    → AllAnswer (items_of (map answer_json ys)) ys → IsReplayFile bytes (length vs) vs ys
replay_said bytes goal kind query vs ys e h said = record {
  top = counter_json goal kind query vs ys;
  entries = items_of (map valuation_json vs);
  cuts = items_of (map answer_json ys);
  json = e;
  valuations = refl;
  answers = refl;
  hold = record { said = valuations_said vs; list = h.1; small = h.2 };
  said = said;
}
