-- A form whose atom was split stands for the same.
use Rattle.std.proofs.Common.{◌≡◌, ◌∙◌, ℕ, ◌+◌, ◌*◌, ◌<◌, ◌≤◌, ◌==◌, arith, refl, sym, ap, subst, Bool, true, false, List, [], ◌∷◌, ◌++◌, length, pos}
use Rattle.std.specs.Prelude.{if◌then◌else◌, ◌||◌}
use Rattle.std.proofs.lemmas.Bool.Decides.{nat_tests}
use Rattle.slice_num.specs.Rational.{whole}
use Rattle.slice_num.specs.Pieces.{piece_at}
use Rattle.slice_linear.specs.declared.forms.Term.{Term}
use Rattle.slice_linear.specs.Terms.{coef_of}
use Rattle.slice_atoms.specs.Addresses.{Letter, L, R, Address, Cake, Atom, begins}
use Rattle.slice_atoms.specs.Numbers.{Numbering, IsNumbering, name_of, cake_of, part_of, next_atom, cut_at, one_at, sum_over}
use Rattle.slice_atoms.proofs.Cuts.{numbering_cut, cake_put, split_sums, number_given, name_stays, name_left, name_right, part_there}
use Rattle.slice_paths.specs.Same.{LiesIn, SameAt}
use Rattle.slice_paths.specs.Spots.{coef_in, form_of, IsSplit}
use Rattle.slice_paths.proofs.Means.{Apart, atoms_apart}
use Rattle.slice_paths.proofs.Pieces.{Hit, hit_of, SomeIn, lies_some}
use Rattle.slice_paths.proofs.Depends.{lies_before}

-- what begins with a longer address begins with the shorter one
begins_longer : (B A : Address) (d : Letter) → begins B (A ++ d ∷ []) ≡ true → begins B A ≡ true
begins_longer B [] d e = refl
begins_longer [] (x ∷ A) d e = cc
begins_longer (L ∷ B) (L ∷ A) d e = begins_longer B A d e
begins_longer (R ∷ B) (R ∷ A) d e = begins_longer B A d e
begins_longer (L ∷ B) (R ∷ A) d e = cc
begins_longer (R ∷ B) (L ∷ A) d e = cc

hit_in : (v : Numbering) (B : Address) → IsNumbering v → LiesIn (cake_of v.olds) B → Hit (name_of v.olds) v.order B
hit_in v B h l = hit_of (name_of v.olds) v.order B (subst Apart (sym h.named) (atoms_apart (cake_of v.olds))) (subst (λ (As : List Address). SomeIn As B) (sym h.named) (lies_some (cake_of v.olds) B l))

-- an atom of the order in which the address lies is the one
the_hit : (name : ℕ → Address) (order : List ℕ) (B : Address) (k : Hit name order B) (j : ℕ) → 1 ≤ sum_over (one_at j) order → begins B (name j) ≡ true → j ≡ k.m
the_hit name order B k j c e = by (j == k.m) refl
  where
    by : (b : Bool) → (j == k.m) ≡ b → j ≡ k.m
    by true f = grind (arith, nat_tests)
    by false f = let n = k.others j c f in let w : ⊥ = cc in absurd w

-- a form whose atom was split stands for the same, where the cake is cut there
pub splits_mean_the_same :
    (v : Numbering) (p part : ℕ) (xs zs : List Term) → IsNumbering v → part < length (piece_at v.pieces p) → IsSplit (part_of v p part) (next_atom v) (next_atom v + 1) xs zs
    → SameAt (cake_of (cut_at p part v).olds) (form_of (cut_at p part v) zs) (form_of v xs)
splits_mean_the_same v p part xs zs h q s = record { whole = s.0; parts = λ a B l. at_address a B l }
  where
    old : ℕ
    old = part_of v p part

    l : ℕ
    l = next_atom v

    new : Numbering
    new = cut_at p part v

    at_address : (a : ℕ) (B : Address) → LiesIn (cake_of new.olds) B → coef_in (name_of new.olds) new.order zs a B ≡ coef_in (name_of v.olds) v.order xs a B
    at_address a B lies =
        let lies_old : LiesIn (cake_of v.olds) B = lies_before (name_of v.olds old) (cake_of v.olds) B (subst (λ (k : Cake). LiesIn k B) (cake_put ([] ∷ []) Atom v.olds old) lies) in
        let k = hit_in v B h lies_old in
        let j = hit_in new B (numbering_cut v p part h q) lies in
        j.at zs a ∙ s.1 a j.m ∙ by a B k j (j.m == l) (j.m == (l + 1)) refl refl ∙ sym (k.at xs a)
      where
        by : (a : ℕ) (B : Address) (k : Hit (name_of v.olds) v.order B) (j : Hit (name_of new.olds) new.order B) (b c : Bool) → (j.m == l) ≡ b → (j.m == (l + 1)) ≡ c
            → (if b || c then coef_of xs (record { agent = a; atom = old }) else (if j.m == old then whole (pos 0) else coef_of xs (record { agent = a; atom = j.m })))
            ≡ coef_of xs (record { agent = a; atom = k.m })
        by a B k j true c e f =
            let n : j.m ≡ l = grind (arith, nat_tests) in
            let g = begins_longer B (name_of v.olds old) L (sym (ap (begins B) (ap (name_of new.olds) n ∙ name_left v.olds old)) ∙ j.is) in
            ap (λ (m : ℕ). coef_of xs (record { agent = a; atom = m })) (the_hit (name_of v.olds) v.order B k old (part_there v p part h q) g)
        by a B k j false true e f =
            let n : j.m ≡ l + 1 = grind (arith, nat_tests) in
            let g = begins_longer B (name_of v.olds old) R (sym (ap (begins B) (ap (name_of new.olds) n ∙ name_right v.olds old)) ∙ j.is) in
            ap (λ (m : ℕ). coef_of xs (record { agent = a; atom = m })) (the_hit (name_of v.olds) v.order B k old (part_there v p part h q) g)
        by a B k j false false e f =
            let x : one_at j.m l ≡ 0 = grind (arith, nat_tests) in
            let y : one_at j.m (l + 1) ≡ 0 = grind (arith, nat_tests) in
            let t = split_sums v p part h q (one_at j.m) in
            let i = j.inside in
            let o = h.once j.m in
            let c : 1 ≤ sum_over (one_at j.m) v.order = omega (arith, x, y, t, i) in
            let z : one_at j.m old ≡ 0 = omega (arith, x, y, t, i, o) in
            let g = number_given (2 * length v.olds + 1) j.m v.order h.given c in
            let is : begins B (name_of v.olds j.m) ≡ true = sym (ap (begins B) (name_stays v.olds old j.m g.0 g.1)) ∙ j.is in
            let n : (j.m == old) ≡ false = grind (arith, nat_tests) in
            ap (λ (b : Bool). if b then whole (pos 0) else coef_of xs (record { agent = a; atom = j.m })) n
            ∙ ap (λ (m : ℕ). coef_of xs (record { agent = a; atom = m })) (the_hit (name_of v.olds) v.order B k j.m c is)
