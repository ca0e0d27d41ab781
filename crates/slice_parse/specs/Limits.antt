-- The two limits in the texts of tokens, which may be the first ones of a program: no block stands inside 64 others, and no sum has more than 64 terms.
use Rattle.std.specs.Prelude.{◌≡◌, ℕ, ◌+◌, ◌-◌, if◌then◌else◌, Bool, List, [], ◌∷◌, ◌++◌, fold, codes, IsTrue, ◌⊎◌, bytes_eq}
use Rattle.slice_num.specs.Name.{is_among}

-- how many braces are open behind these tokens
abbrev pub open_braces : List (List ℕ) → ℕ
open_braces = fold (λ n t. if bytes_eq t (codes "{") then n + 1 else (if bytes_eq t (codes "}") then n - 1 else n)) 0

-- the words and signs behind which a sum begins
abbrev pub begins_sum : List ℕ → Bool
begins_sum t = is_among t (codes "at" ∷ codes "=" ∷ codes "if" ∷ codes "<" ∷ codes "<=" ∷ codes ">" ∷ codes ">=" ∷ codes "number" ∷ [])

-- the signs before the terms of a sum
abbrev pub is_plus_or_minus : List ℕ → Bool
is_plus_or_minus t = is_among t (codes "+" ∷ codes "-" ∷ [])

-- how many of its signs the last sum has in these tokens
abbrev pub signs_of_sum : List (List ℕ) → ℕ
signs_of_sum = fold (λ n t. if begins_sum t then 0 else (if is_plus_or_minus t then n + 1 else n)) 0

-- the token opens a block inside 64 others, where these come before it
abbrev pub OpensTooDeep : List (List ℕ) → List ℕ → Type 0
OpensTooDeep front t = (t ≡ codes "{") × (open_braces front ≡ 64)

-- the token is the sign before the 65th term of a sum, where these come before it
abbrev pub MakesTooLong : List (List ℕ) → List ℕ → Type 0
MakesTooLong front t = IsTrue (is_plus_or_minus t) × (signs_of_sum front ≡ 63)

-- none of the tokens is such a brace or sign
abbrev pub KeepLimits : List (List ℕ) → Type 0
KeepLimits texts = (front : List (List ℕ)) (t : List ℕ) (back : List (List ℕ)) → texts ≡ front ++ t ∷ back → OpensTooDeep front t ⊎ MakesTooLong front t → ⊥
