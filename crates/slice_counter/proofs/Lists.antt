-- Lists as JSON, one item after another.
use Rattle.std.proofs.Common.{◌≡◌, ◌∙◌, ℕ, ◌+◌, ◌<◌, ◌≤◌, List, [], ◌∷◌, ◌++◌, map, take, length, get_or, Vec, Global, ap, sym, arith}
use Rattle.std.proofs.lemmas.List.{map-append, take_more}
use Rattle.std.proofs.Math.Seq.{take-length}
use Rattle.serde_json.specs.Data.{Data, array}
use Rattle.serde_json.specs.View.{view, items_of}
use Rattle.serde_json.specs.declared.value.Value.{Value, Array}
use Rattle.serde_json.proofs.Views.{view-Array}
use Rattle.slice_json.specs.Texts.{list_of}

pub take_here : {A : Type 0} (xs : List A) (i : ℕ) (x : A) → i < length xs → get_or xs i x ≡ x → take (i + 1) xs ≡ take i xs ++ x ∷ []
take_here xs i x l e = take_more xs i x l ∙ ap (λ y. take i xs ++ y ∷ []) e

pub json_more : {A : Type 0} (f : A → Data) (done : List Value) (v : Value) (front : List A) (x : A) → map view done ≡ map f front → view v ≡ f x → map view (done ++ v ∷ []) ≡ map f (front ++ x ∷ [])
json_more f done v front x e g = map-append view done (v ∷ []) ∙ ((λ i. e i ++ g i ∷ []) ∙ sym (map-append f front (x ∷ [])))

pub json_all : {A : Type 0} (f : A → Data) (values : Vec Value Global) (xs : List A) (i : ℕ) → map view values.items ≡ map f (take i xs) → length xs ≤ i → i ≤ length xs → view (Array values) ≡ list_of f xs
json_all f values xs i e low high =
    let all : take i xs ≡ xs = ap (λ (n : ℕ). take n xs) (omega (arith, low, high)) ∙ take-length xs in
    view-Array values ∙ ap (λ (ds : List Data). array (items_of ds)) (e ∙ ap (map f) all)
