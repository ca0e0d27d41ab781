-- The answers of a file, one after another.
use Rattle.std.proofs.Common.{◌≡◌, ◌≢◌, ◌≤◌, ◌++◌, ◌∷◌, ℕ, List, [], length, drop, None, refl, sym, subst, append-nil}
use Rattle.std.proofs.Math.ListN.{drop_of_length-le}
use Rattle.serde_json.specs.View.{items_view}
use Rattle.serde_json.specs.declared.value.Value.{Value}
use Rattle.slice_num.specs.declared.cut_answer.CutAnswer.{CutAnswer}
use Rattle.slice_step.specs.ValuationFile.{AllAnswer, pair_in}

-- an array of another length says no answer
pub no_pair : (vs : List Value) → length vs ≢ 2 → None ≡ pair_in (items_view vs)
no_pair [] h = refl
no_pair (v ∷ []) h = refl
no_pair (v ∷ w ∷ []) h = absurd (h refl)
no_pair (v ∷ w ∷ x ∷ vs) h = refl

-- all answers are read
pub all_answered : (entries : List Value) (i : ℕ) (ys : List CutAnswer) → length entries ≤ i
    → ((zs : List CutAnswer) → AllAnswer (items_view (drop i entries)) zs → AllAnswer (items_view entries) (ys ++ zs)) → AllAnswer (items_view entries) ys
all_answered entries i ys h said =
    let over = drop_of_length-le entries h in
    subst (λ zs. AllAnswer (items_view entries) zs) (append-nil ys) (said [] (subst (λ (es : List Value). AllAnswer (items_view es) []) (sym over) tt))
