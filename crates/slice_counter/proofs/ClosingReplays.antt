-- The closing line of the counterexample that a solution gives is a replay file.
use Rattle.std.proofs.Common.{◌≡◌, ◌∙◌, ℕ, zero, suc, ◌≤◌, ◌<◌, ◌^◌, pos, ℤ, unsigned_abs, List, [], ◌∷◌, map, take, drop, length, refl, sym, ap, subst, arith, length-take}
use Rattle.std.specs.List.{AllByRecursion}
use Rattle.std.proofs.lemmas.List.Elements.{recursion_from_All}
use Rattle.std.proofs.lemmas.List.{length-map}
use Rattle.serde_json.specs.View.{items_of}
use Rattle.slice_num.specs.Arithmetic.{FitsRational}
use Rattle.slice_num.specs.Rational.{Fits, Rational, whole}
use Rattle.slice_num.specs.Valuation.{IsSmall, IsValuationList}
use Rattle.slice_num.specs.declared.cut_answer.CutAnswer.{CutAnswer}
use Rattle.slice_num.proofs.Whole.{whole_num, whole_den}
use Rattle.slice_atoms.specs.Addresses.{Cake, atom_count}
use Rattle.slice_paths.specs.Places.{PassedCut}
use Rattle.slice_paths.specs.Ways.{way_of}
use Rattle.slice_paths.specs.declared.goal.GoalKind.{GoalKind}
use Rattle.slice_paths.specs.declared.goal.GoalKind.TheVariants.{Low, High, Envy}
use Rattle.slice_paths.proofs.GoalLaws.{goal_atoms}
use Rattle.slice_step.specs.ValuationFile.{AllAnswer, IsReplayFile}
use Rattle.slice_step.specs.UnitSteps.{unit_steps}
use Rattle.slice_counter.specs.Counter.{valuations_of, answers_of, boundary, lists_of}
use Rattle.slice_counter.specs.CounterLine.{answer_json, counter_json}
use Rattle.slice_json.specs.Texts.{line_of}
use Rattle.slice_counter.specs.ReplayLaw.{ClosingLinesReplay}
use Rattle.slice_counter.proofs.Counters.{solutions_give_counterexamples}
use Rattle.slice_counter.proofs.FewParts.{AreNear, few_of_goal}
use Rattle.slice_counter.proofs.LineBack.{AreWords, IsNear, counter_back}
use Rattle.slice_counter.proofs.Positions.{boundary_below}
use Rattle.slice_counter.proofs.Replays.{answer_said, replay_said}
use Rattle.slice_counter.proofs.ShortLine.{HasFewSteps, counter_short}
use Rattle.slice_counter.proofs.Unfair.{envious_are_agents}
use Rattle.slice_counter.proofs.UnitSteps.{length_units}

-- ---- answers

near_answers : (k : Cake) (ds : List PassedCut) → atom_count k ≤ 65 → AreNear ds → AllByRecursion IsNear (map (λ (d : PassedCut). record { part = d.part; point = whole (pos (boundary k d.address)) }) ds)
near_answers k [] few h = tt
near_answers k (d ∷ ds) few h = let b = boundary_below k d.address in ((h.0, (boundary k d.address, (omega (arith, b, few), refl))), near_answers k ds few h.1)

fits_whole : (q : Rational) (n : ℕ) → n ≤ 65 → q ≡ whole (pos n) → FitsRational q
fits_whole q n le e =
    let num : q.num ≡ pos n = ap (λ (x : Rational). x.num) e ∙ whole_num (pos n) in
    let den : q.den ≡ 1 = ap (λ (x : Rational). x.den) e ∙ whole_den (pos n) in
    (subst Fits (sym num) (let small : n < 2 ^ 127 = omega (arith, le) in small), omega (arith, den))

answers_said : (ys : List CutAnswer) → AllByRecursion IsNear ys → AllAnswer (items_of (map answer_json ys)) ys
answers_said [] h = tt
answers_said (y ∷ ys) h = let near = h.0 in (answer_said y (let le = near.0 in omega (arith, le)) (fits_whole y.point near.1.0 near.1.1.0 near.1.1.1), answers_said ys h.1)

-- ---- valuations

few_steps : (n size : ℕ) (zs : List ℤ) → size ≤ 65 → AllByRecursion HasFewSteps (map unit_steps (lists_of n size zs))
few_steps zero size zs few = tt
few_steps (suc n) size zs few =
    let hs = map unsigned_abs (take size zs) in
    let long = length-map (take size zs) unsigned_abs in
    let cut = length-take size zs in
    let ends = length_units 0 (length hs) in
    ((omega (arith, long, cut, ends, few), omega (arith, long, cut, few)), few_steps n size (drop size zs) few)

words : (n : ℕ) (kind : GoalKind) → n ≤ 16 → ((a b : ℕ) → kind ≡ Envy a b → (a ≤ n) × (b ≤ n)) → AreWords kind
words n Low few h = tt
words n High few h = tt
words n (Envy a b) few h = let is = h a b refl in (omega (arith, is.0, few), omega (arith, is.1, few))

-- ---- the law

pub closing_lines_replay : ClosingLinesReplay
closing_lines_replay core g xs formed is_goal number long low solves =
    let k = way_of core g.trace in
    let vs = valuations_of core.agents k.cake xs in
    let ys = answers_of k in
    let line = line_of (counter_json g.number g.kind g.query vs ys) in
    let counter = solutions_give_counterexamples core g xs formed.agents_there formed.some_agent formed.few_cuts is_goal long low solves in
    let atoms : atom_count k.cake ≤ 65 = omega (arith, goal_atoms core g is_goal, formed.few_cuts) in
    let few = few_of_goal core g formed.few_cuts formed.few_deep is_goal in
    let near = near_answers k.cake k.cuts atoms few.0.near in
    let kind = words core.agents g.kind formed.few_agents (λ a b e. let is = envious_are_agents core g is_goal a b e in (is.0.1, is.1.1)) in
    let back = counter_back g.number g.query g.kind vs ys number (omega (arith, few.1)) kind (recursion_from_All IsSmall vs counter.small) near in
    let many = counter.valuations.one_each in
    let list = subst (λ (n : ℕ). IsValuationList n vs) (sym many) counter.valuations in
    let file = replay_said line g.number g.kind g.query vs ys back (omega (arith, many, formed.some_agent), list, counter.small) (answers_said ys near) in
    let cuts : length ys ≡ length k.cuts = length-map {B = CutAnswer} k.cuts (λ (d : PassedCut). record { part = d.part; point = whole (pos (boundary k.cake d.address)) }) in
    record {
      file = subst (λ (n : ℕ). IsReplayFile line n vs ys) many file;
      short = counter_short g.number g.query g.kind vs ys (omega (arith, many, formed.few_agents)) (few_steps core.agents (atom_count k.cake) (drop 1 xs) atoms) (omega (arith, cuts, few.0.cuts));
    }
