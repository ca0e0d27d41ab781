-- The order in which a form keeps its terms.
use Rattle.std.specs.Prelude.{◌≡◌, ◌==◌, ◌&&◌, ◌||◌, nat_lt, Bool, true, false, List, [], ◌∷◌, ⊤}
use Rattle.slice_num.specs.declared.key.Key.{Key}
use Rattle.slice_linear.specs.declared.forms.Term.{Term}
use Rattle.slice_linear.specs.Terms.{coef_of, is_zero}

-- keys are ordered by agent, and for one agent by atom
abbrev pub is_before : Key → Key → Bool
is_before a b = nat_lt a.agent b.agent || (a.agent == b.agent && nat_lt a.atom b.atom)

-- all keys come after that one
abbrev pub AllAfter : Key → List Term → Type 0
AllAfter k [] = ⊤
AllAfter k (t ∷ ts) = (is_before k t.key ≡ true) × AllAfter k ts

-- the keys rise, and no coefficient is 0
abbrev pub AreTerms : List Term → Type 0
AreTerms [] = ⊤
AreTerms (t ∷ ts) = (is_zero t.coef ≡ false) × (AllAfter t.key ts × AreTerms ts)

-- forms with the same coefficients are the same
abbrev pub FormsAreTold : Type 0
FormsAreTold = (xs ys : List Term) → AreTerms xs → AreTerms ys → ((k : Key) → coef_of xs k ≡ coef_of ys k) → xs ≡ ys
