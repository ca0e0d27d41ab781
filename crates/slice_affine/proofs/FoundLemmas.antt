-- Faults found one after the other.
use Rattle.std.proofs.Common.{◌≡◌, ℕ, Bool, true, false, ◌||◌, ◌&&◌, ◌==◌, cond, List, [], ◌∷◌, ◌++◌, Option, Some, None, refl, ap, sym, ◌∙◌, arith}
use Rattle.std.specs.Prelude.{nat_lt, if◌then◌else◌}
use Rattle.std.proofs.lemmas.Bool.Decides.{nat_tests}
use Rattle.slice_affine.specs.Faults.{place_of, rank_of, is_before}
use Rattle.slice_affine.specs.Pass.{earlier}
use Rattle.slice_affine.proofs.Scan.{least}
use Rattle.slice_affine.specs.Pass.{State, looked, noted}
use Rattle.slice_affine.specs.declared.fault.AffineFault.{AffineFault}

abbrev before : ℕ → ℕ → ℕ → ℕ → Bool
before p r q s = nat_lt p q || ((p == q) && nat_lt r s)

-- g before f, h not before g: h isn't before f
-- not g before f, h before g ..
trans_lt : (p r q s o t : ℕ) → before p r q s ≡ true → before q s o t ≡ true → before p r o t ≡ true
trans_lt p r q s o t h k = grind (arith, nat_tests)

trans_ge : (p r q s o t : ℕ) → before p r q s ≡ false → before q s o t ≡ false → before p r o t ≡ false
trans_ge p r q s o t h k = grind (arith, nat_tests)

-- of three, whichever two are compared first
assoc_some : (f g h : AffineFault) → earlier (earlier (Some f) (Some g)) (Some h) ≡ earlier (Some f) (earlier (Some g) (Some h))
unfolding earlier is_before
assoc_some f g h = by (is_before g f) (is_before h g) (is_before h f) refl refl refl
  where
    by : (a b c : Bool) → is_before g f ≡ a → is_before h g ≡ b → is_before h f ≡ c
        → earlier (cond a (Some g) (Some f)) (Some h) ≡ earlier (Some f) (cond b (Some h) (Some g))
    by true true c x y z =
        let w : is_before h f ≡ true = trans_lt (place_of h) (rank_of h) (place_of g) (rank_of g) (place_of f) (rank_of f) y x in
        ap (λ v. cond v (Some h) (Some g)) y ∙ sym (ap (λ v. cond v (Some h) (Some f)) w)
    by true false c x y z = ap (λ v. cond v (Some h) (Some g)) y ∙ sym (ap (λ v. cond v (Some g) (Some f)) x)
    by false true c x y z = refl
    by false false c x y z =
        let w : is_before h f ≡ false = trans_ge (place_of h) (rank_of h) (place_of g) (rank_of g) (place_of f) (rank_of f) y x in
        ap (λ v. cond v (Some h) (Some f)) w ∙ sym (ap (λ v. cond v (Some g) (Some f)) x)

pub earlier_assoc : (a b c : Option AffineFault) → earlier (earlier a b) c ≡ earlier a (earlier b c)
unfolding earlier
earlier_assoc None b c = refl
earlier_assoc (Some f) None c = refl
earlier_assoc (Some f) (Some g) None = by (is_before g f)
  where
    by : (b : Bool) → earlier (if b then Some g else Some f) None ≡ (if b then Some g else Some f)
    by true = refl
    by false = refl
earlier_assoc (Some f) (Some g) (Some h) = assoc_some f g h

earlier_none : (a : Option AffineFault) → earlier a None ≡ a
unfolding earlier
earlier_none None = refl
earlier_none (Some f) = refl

-- found one after the other, the one that is told is the least of all
pub noted_least : (fs : List AffineFault) (o : Option AffineFault) → noted o fs ≡ earlier o (least fs)
unfolding noted least
noted_least [] o = sym (earlier_none o)
noted_least (f ∷ fs) o = noted_least fs (earlier o (Some f)) ∙ earlier_assoc o (Some f) (least fs)

pub noted_append : (fs gs : List AffineFault) (o : Option AffineFault) → noted o (fs ++ gs) ≡ noted (noted o fs) gs
unfolding noted
noted_append [] gs o = refl
noted_append (f ∷ fs) gs o = noted_append fs gs (earlier o (Some f))

pub none_least : (fs : List AffineFault) → noted None fs ≡ least fs
unfolding earlier
none_least fs = noted_least fs None

pub noted_nothing : (o : Option AffineFault) → noted o [] ≡ o
unfolding noted
noted_nothing o = refl

-- where nothing is told, nothing was found
pub nothing_found : (fs : List AffineFault) → least fs ≡ None → fs ≡ []
unfolding least earlier
nothing_found [] h = refl
nothing_found (f ∷ fs) h = by (least fs) h
  where
    by : (o : Option AffineFault) → earlier (Some f) o ≡ None → (f ∷ fs) ≡ []
    by None x = cc
    by (Some g) x = by_test (is_before g f) x
      where
        by_test : (b : Bool) → (if b then Some g else Some f) ≡ None → (f ∷ fs) ≡ []
        by_test true y = cc
        by_test false y = cc

pub looked_append : (fs gs : List AffineFault) (s : State) → looked (fs ++ gs) s ≡ looked gs (looked fs s)
looked_append fs gs s = ap (λ o. record s { found = o }) (noted_append fs gs s.found)

pub looked_nothing : (s : State) → looked [] s ≡ s
unfolding noted
looked_nothing s = refl
