-- The items of a list by number.
use Rattle.std.proofs.Common.{◌≡◌, ◌∙◌, ◌+◌, ◌<◌, ◌++◌, ◌∷◌, ℕ, List, [], length, take, get_or, slice_set, arith, ap, sym}
use Rattle.std.specs.Prelude.{slice_get, Some}
use Rattle.std.proofs.lemmas.Option.{get_or_from_slice_get}
use Rattle.std.proofs.lemmas.List.{take_more_set}
use Rattle.std.proofs.Math.Seq.{take-set-lt}

-- the item of that number
pub item_is : {A : Type 0} (xs : List A) (k : ℕ) (x i : A) → x ≡ get_or xs k x → slice_get xs k ≡ Some i → x ≡ i
item_is xs k x i e h = e ∙ get_or_from_slice_get xs k i x h

-- the items up to one, which is replaced
pub replaced_last : {A : Type 0} (xs cut : List A) (k : ℕ) (x : A) → k < length xs → cut ≡ take (k + 1) xs → slice_set cut k x ≡ take k xs ++ x ∷ []
replaced_last xs cut k x h e =
    let lt : k < k + 1 = omega arith in
    ap (λ zs. slice_set zs k x) e ∙ sym (take-set-lt (k + 1) xs k x lt) ∙ take_more_set xs k x h
