-- What is found in the tree of names after one more.
use Rattle.std.proofs.Common.{◌≡◌, refl, sym, subst, ◌∙◌, ap, Bool, true, false, List, [], ◌∷◌, ◌⊎◌, inl, inr, ℕ, suc, bytes_eq, if◌then◌else◌}
use Rattle.std.proofs.lemmas.Slice.Eq.{bytes_eq-Decides}
use Rattle.slice_expand.specs.Scope.{Scope, Binding, look}
use Rattle.slice_expand.specs.Index.{Index, Nowhere, Fork, here_of, zero_of, one_of, child_of, found, put, bit_at, bits_below, bits_of, IsIndexed}

-- the bits after the first
abbrev rest_of : List Bool → List Bool
rest_of [] = []
rest_of (b ∷ bs) = bs

-- whether the first bit is set
abbrev first_of : List Bool → Bool
first_of [] = false
first_of (b ∷ bs) = b

abbrev has_first : List Bool → Bool
has_first [] = false
has_first (b ∷ bs) = true

-- these bits lead to the new scope, or they are others and lead where they led
pub put_found : (t : Index) (p q : List Bool) (s : Scope ℕ) → (found (put t p s) q ≡ s) ⊎ ((p ≡ q → ⊥) × (found (put t p s) q ≡ found t q))
put_found t [] [] s = inl refl
put_found t [] (true ∷ q) s = inr ((λ e. let bad : false ≡ true = ap has_first e in absurd cc), refl)
put_found t [] (false ∷ q) s = inr ((λ e. let bad : false ≡ true = ap has_first e in absurd cc), refl)
put_found t (true ∷ p) [] s = inr ((λ e. let bad : true ≡ false = ap has_first e in absurd cc), refl)
put_found t (false ∷ p) [] s = inr ((λ e. let bad : true ≡ false = ap has_first e in absurd cc), refl)
put_found t (true ∷ p) (false ∷ q) s = inr ((λ e. let bad : true ≡ false = ap first_of e in absurd cc), refl)
put_found t (false ∷ p) (true ∷ q) s = inr ((λ e. let bad : false ≡ true = ap first_of e in absurd cc), refl)
put_found t (true ∷ p) (true ∷ q) s = by (put_found (one_of t) p q s)
  where
    by : (found (put (one_of t) p s) q ≡ s) ⊎ ((p ≡ q → ⊥) × (found (put (one_of t) p s) q ≡ found (one_of t) q))
        → (found (put (one_of t) p s) q ≡ s) ⊎ ((true ∷ p ≡ true ∷ q → ⊥) × (found (put (one_of t) p s) q ≡ found (one_of t) q))
    by (inl e) = inl e
    by (inr (n, e)) = inr ((λ h. n (ap rest_of h)), e)
put_found t (false ∷ p) (false ∷ q) s = by (put_found (zero_of t) p q s)
  where
    by : (found (put (zero_of t) p s) q ≡ s) ⊎ ((p ≡ q → ⊥) × (found (put (zero_of t) p s) q ≡ found (zero_of t) q))
        → (found (put (zero_of t) p s) q ≡ s) ⊎ ((false ∷ p ≡ false ∷ q → ⊥) × (found (put (zero_of t) p s) q ≡ found (zero_of t) q))
    by (inl e) = inl e
    by (inr (n, e)) = inr ((λ h. n (ap rest_of h)), e)

-- a word of other bits is another word
other_word : (a b : List ℕ) → (bits_of a ≡ bits_of b → ⊥) → bytes_eq a b ≡ false
other_word a b n = by (bytes_eq a b) refl
  where
    by : (x : Bool) → bytes_eq a b ≡ x → x ≡ false
    by true e = absurd (n (ap bits_of ((bytes_eq-Decides a b).0 e)))
    by false e = refl

-- a name more is found by the bits of its word, and all others as before
pub indexed_more : (t : Index) (scope : Scope ℕ) (b : Binding ℕ) → IsIndexed t scope → IsIndexed (put t (bits_of b.word) (b ∷ scope)) (b ∷ scope)
indexed_more t scope b h word = by (put_found t (bits_of b.word) (bits_of word) (b ∷ scope))
  where
    by : (found (put t (bits_of b.word) (b ∷ scope)) (bits_of word) ≡ b ∷ scope)
        ⊎ ((bits_of b.word ≡ bits_of word → ⊥) × (found (put t (bits_of b.word) (b ∷ scope)) (bits_of word) ≡ found t (bits_of word)))
        → look (found (put t (bits_of b.word) (b ∷ scope)) (bits_of word)) word ≡ look (b ∷ scope) word
    by (inl e) = ap (λ s. look s word) e
    by (inr (n, e)) = ap (λ s. look s word) e ∙ h word ∙ ap (λ c. if c then b.meaning else look scope word) (sym (other_word b.word word n))

-- the same of a tree and names that are known to be these
pub indexed_by : (t u : Index) (scope next : Scope ℕ) (b : Binding ℕ) → IsIndexed t scope → next ≡ b ∷ scope → u ≡ put t (bits_of b.word) next → IsIndexed u next
indexed_by t u scope next b h n e =
    let first : IsIndexed (put t (bits_of b.word) next) next = subst (λ (s : Scope ℕ). IsIndexed (put t (bits_of b.word) s) s) (sym n) (indexed_more t scope b h) in
    subst (λ (i : Index). IsIndexed i next) (sym e) first

-- nothing is found in an empty tree
nothing_found : (bits : List Bool) → found Nowhere bits ≡ []
nothing_found [] = refl
nothing_found (true ∷ bits) = nothing_found bits
nothing_found (false ∷ bits) = nothing_found bits

pub none_indexed : IsIndexed Nowhere []
none_indexed word = ap (λ (s : Scope ℕ). look s word) (nothing_found (bits_of word))

-- a tree by its last bit
pub put_one : (t : Index) (word : List ℕ) (n m : ℕ) (s : Scope ℕ) → n ≡ suc m → bit_at word m ≡ true
    → put t (bits_below word n) s ≡ Fork (here_of t) (zero_of t) (put (one_of t) (bits_below word m) s)
put_one t word n m s next bit = ap (λ k. put t (bits_below word k) s) next ∙ ap (λ b. put t (b ∷ bits_below word m) s) bit

pub put_zero : (t : Index) (word : List ℕ) (n m : ℕ) (s : Scope ℕ) → n ≡ suc m → bit_at word m ≡ false
    → put t (bits_below word n) s ≡ Fork (here_of t) (put (zero_of t) (bits_below word m) s) (one_of t)
put_zero t word n m s next bit = ap (λ k. put t (bits_below word k) s) next ∙ ap (λ b. put t (b ∷ bits_below word m) s) bit

-- what is found by the last bit, and then by the others
pub found_next : (t : Index) (word : List ℕ) (n m : ℕ) → n ≡ suc m → found t (bits_below word n) ≡ found (child_of (bit_at word m) t) (bits_below word m)
found_next t word n m next = ap (λ k. found t (bits_below word k)) next
