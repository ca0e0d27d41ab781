-- The closing line of a counterexample.
use Rattle.std.specs.Prelude.{◌≡◌, ℕ, ◌==◌, Bool, true, false, if◌then◌else◌, refl, List, codes}
use Rattle.serde_json.specs.Data.{Data, object, member, no_members}
use Rattle.serde_json.specs.Written.{has_float}
use Rattle.slice_num.specs.Valuation.{Valuation}
use Rattle.slice_num.specs.declared.cut_answer.CutAnswer.{CutAnswer}
use Rattle.slice_json.specs.Texts.{whole, text, list_of, pair_of, fraction, line_of, plain-list_of}
use Rattle.slice_counter.specs.declared.counter.Counterexample.{Counterexample}
use Rattle.slice_paths.specs.declared.goal.GoalKind.{GoalKind}
use Rattle.slice_paths.specs.declared.goal.GoalKind.TheVariants.{Low, High, Envy}

-- an answer to a cut: its point, as a text; where its part isn't the first, the pair of the part and that text
abbrev pub answer_json : CutAnswer → Data
answer_json y = if y.part == 0 then fraction y.point else pair_of whole fraction (y.part, y.point)

-- an agent's valuation: where its steps end, and how high they are
abbrev pub valuation_json : Valuation → Data
valuation_json v = object (member (codes "ends") (list_of whole v.ends) (member (codes "heights") (list_of whole v.heights) no_members))

-- how the run ends: stuck at that query, or with an agent that envies another
abbrev pub outcome_json : ℕ → GoalKind → Data
outcome_json query Low = object (member (codes "query") (whole query) (member (codes "side") (text (codes "low")) no_members))
outcome_json query High = object (member (codes "query") (whole query) (member (codes "side") (text (codes "high")) no_members))
outcome_json query (Envy a b) = object (member (codes "agent") (whole a) (member (codes "envies") (whole b) no_members))

-- the counterexample to the goal of that number and kind, after so many queries: the answers to its cuts, the goal's number,
-- how the run ends, and the valuations, agent by agent
abbrev pub counter_json : ℕ → GoalKind → ℕ → List Valuation → List CutAnswer → Data
counter_json goal kind query vs ys =
    object (member (codes "closing") (text (codes "counterexample")) (member (codes "cuts") (list_of answer_json ys) (member (codes "goal") (whole goal)
    (member (codes "outcome") (outcome_json query kind) (member (codes "valuations") (list_of valuation_json vs) no_members)))))

-- the closing line of a counterexample, with its LF
unfoldable pub counter_text : Counterexample → List ℕ
counter_text c = line_of (counter_json c.goal c.kind c.query c.valuations c.cuts.items)

-- ---- it has no float

plain-answer : (y : CutAnswer) (b : Bool) → has_float (if b then fraction y.point else pair_of whole fraction (y.part, y.point)) ≡ false
plain-answer y true = refl
plain-answer y false = refl

plain-valuation : (v : Valuation) → has_float (valuation_json v) ≡ false
plain-valuation v = rw (plain-list_of whole (λ n. refl) v.ends, plain-list_of whole (λ n. refl) v.heights)

plain-outcome : (query : ℕ) (k : GoalKind) → has_float (outcome_json query k) ≡ false
plain-outcome query Low = refl
plain-outcome query High = refl
plain-outcome query (Envy a b) = refl

pub plain-counter_json : (goal : ℕ) (kind : GoalKind) (query : ℕ) (vs : List Valuation) (ys : List CutAnswer) → has_float (counter_json goal kind query vs ys) ≡ false
plain-counter_json goal kind query vs ys =
    rw (plain-list_of answer_json (λ y. plain-answer y (y.part == 0)) ys, plain-outcome query kind, plain-list_of valuation_json plain-valuation vs)
