-- The envy that is told is that of the share-values.
use Rattle.std.proofs.Common.{◌≡◌, ◌∙◌, ◌<◌, ◌≤◌, ◌-◌, ℕ, pos, List, [], map, length, slice_index_or, arith, ap, sym}
use Rattle.std.proofs.lemmas.List.{get_or-map}
use Rattle.std.proofs.Math.ListN.{get_or-map as get_or-map-default}
use Rattle.slice_num.specs.Rational.{Rational, whole}
use Rattle.slice_num.specs.Valuation.{Valuation, share_value}
use Rattle.slice_num.proofs.FieldLaws.{below-true, below-is}
use Rattle.slice_num.proofs.Values.{share_of_nothing}
use Rattle.slice_core.specs.Measures.{worth_of, valuation_of}
use Rattle.slice_num.specs.Pieces.{piece_at}
use Rattle.slice_core.specs.Run.{Piece}
use Rattle.slice_run.specs.Walk.{Divided, Halted}
use Rattle.slice_report.specs.EnvyLaws.{ToldEnvyIsEnvy}
use Rattle.slice_report.specs.RunReport.{value_of}

-- what is told of an agent and a share is the agent's share-value of it
value_is : (vs : List Valuation) (shares : List Piece) (values : List (List Rational)) (a b : ℕ) → values ≡ map (λ v. map (share_value v) shares) vs
    → 0 < a → a ≤ length vs → value_of values a b ≡ worth_of vs a (piece_at shares (b - 1))
value_is vs shares values a b is a0 a1 =
    let v = valuation_of vs a in
    ap (λ rows. slice_index_or (slice_index_or rows (a - 1) []) (b - 1) (whole (pos 0))) is
    ∙ ap (λ row. slice_index_or row (b - 1) (whole (pos 0))) (get_or-map (λ w. map (share_value w) shares) vs (a - 1) (record { ends = []; heights = [] }) [] (omega arith))
    ∙ ap (λ none. slice_index_or (map (share_value v) shares) (b - 1) none) (sym (share_of_nothing v))
    ∙ get_or-map-default (share_value v) shares (b - 1) []

pub tells_envy : ToldEnvyIsEnvy
tells_envy vs (Divided queries shares left values) is =
    λ a b a0 a1.
    let own = value_is vs shares values a a is a0 a1 in
    let other = value_is vs shares values a b is a0 a1 in (
      λ h. rw (own, other) at (below-true (value_of values a a) (value_of values a b) h),
      λ h. below-is (value_of values a a) (value_of values a b) (rw (← own, ← other) at h),
    )
tells_envy vs (Halted queries query at) is = tt
