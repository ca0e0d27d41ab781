-- A place's way is the one that makes its choices.
use Rattle.std.proofs.Common.{◌≡◌, ◌∙◌, ℕ, refl, sym, ap, subst, List, [], ◌∷◌, ◌++◌, ◌⊎◌, inl, inr, append_assoc, append-nil, ◌+◌, ◌≤◌, max, arith}
use Rattle.slice_num.specs.declared.choice.Choice.{Choice}
use Rattle.slice_num.specs.declared.choice.Choice.TheVariants.{Low, High, Yes, No}
use Rattle.slice_num.specs.declared.choice.Choice.TheVariants as choice
use Rattle.slice_core.specs.Tree.{Tree, Core, Ask, Set, Cut, Join, Test, Give, End}
use Rattle.slice_num.specs.Pieces.{piece_at, passed}
use Rattle.slice_core.specs.declared.node.Lin.{Lin}
use Rattle.slice_core.specs.Sizes.{most_cuts}
use Rattle.slice_atoms.specs.Addresses.{L, R, Address, Cake, Atom, Halves, halved, atom_count}
use Rattle.slice_atoms.specs.Forms.{Form, sub_form}
use Rattle.slice_paths.specs.Places.{Way, Place, places, sum_form, yes_kind, no_kind, first_way, test_way, cut_way}
use Rattle.slice_paths.specs.Ways.{in_part, at_cut, way_by, way_of}
use Rattle.slice_paths.proofs.Fits.{IsIn}
use Rattle.slice_paths.proofs.Parts.{in_either}
use Rattle.slice_paths.proofs.Later.{in_each}

pub in_part_passed : (go : List Address → Address → List Address → List Choice → Way) (other : Way) (pre before : List Address) (A : Address) (after : List Address) (cs : List Choice) → in_part go other pre (before ++ A ∷ after) (passed before ++ cs) ≡ go (pre ++ before) A after cs
in_part_passed go other pre [] A after cs = ap (λ (b : List Address). go b A after cs) (sym (append-nil pre))
in_part_passed go other pre (x ∷ before) A after cs = in_part_passed go other (pre ++ x ∷ []) before A after cs ∙ ap (λ (b : List Address). go b A after cs) (append_assoc pre (x ∷ []) before)

pub at_cut_passed : (on : List Choice → Way) (k : Way) (before : List Address) (cs : List Choice) → at_cut on k (passed before ++ cs) ≡ on (passed before ++ cs)
at_cut_passed on k [] cs = refl
at_cut_passed on k (x ∷ before) cs = refl

-- the choices from a way on
record Found (core : Tree) (fs : List Form) (k : Way) (x : Place) : Type 0 where
  choices : List Choice
  trace : x.way.trace ≡ k.trace ++ choices
  way_is : way_by core fs k choices ≡ x.way

found_cut : (a p l r : ℕ) (amount : Lin) (next : Tree) (fs : List Form) (k : Way) (x : Place) (b : List Address) (A : Address) (q : List Address) → b ++ A ∷ q ≡ piece_at k.pieces p
    → Found next fs (cut_way a p (sum_form fs amount.terms) b A q k) x → Found (Cut a p amount l r next) fs k x
found_cut a p l r amount next fs k x b A q parts f = record {
  choices = passed b ++ f.choices;
  trace = f.trace ∙ append_assoc k.trace (passed b) f.choices;
  way_is =
      at_cut_passed (in_part go k [] (piece_at k.pieces p)) k b f.choices
      ∙ ap (λ (ps : List Address). in_part go k [] ps (passed b ++ f.choices)) (sym parts)
      ∙ in_part_passed go k [] b A q f.choices
      ∙ f.way_is;
}
  where
    go : List Address → Address → List Address → List Choice → Way
    go before B after = way_by next fs (cut_way a p (sum_form fs amount.terms) before B after k)

found : (core : Tree) (fs : List Form) (k : Way) (x : Place) → IsIn x (places core fs k) → Found core fs k x
found (Ask a p r next) fs k x h = let g = found next _ _ x h in record { choices = g.choices; trace = g.trace; way_is = g.way_is }
found (Set r sum next) fs k x h = let g = found next _ _ x h in record { choices = g.choices; trace = g.trace; way_is = g.way_is }
found (Join p q r next) fs k x h = let g = found next _ _ x h in record { choices = g.choices; trace = g.trace; way_is = g.way_is }
found (Give p a next) fs k x h = let g = found next _ _ x h in record { choices = g.choices; trace = g.trace; way_is = g.way_is }
found End fs k x (inl e) = subst (Found End fs k) (sym e) (record { choices = []; trace = sym (append-nil k.trace); way_is = refl })
found End fs k x (inr h) = absurd h
found (Test left right strict y n) fs k x h =
    by (in_either x (places y fs ym) (places n fs nm) h) (found y fs ym x) (found n fs nm x)
  where
    ym : Way
    ym = test_way (yes_kind strict) (sub_form (sum_form fs left.terms) (sum_form fs right.terms)) choice.Yes k

    nm : Way
    nm = test_way (no_kind strict) (sub_form (sum_form fs right.terms) (sum_form fs left.terms)) choice.No k

    by : IsIn x (places y fs ym) ⊎ IsIn x (places n fs nm) → (IsIn x (places y fs ym) → Found y fs ym x) → (IsIn x (places n fs nm) → Found n fs nm x) → Found (Test left right strict y n) fs k x
    by (inl i) f g = let r = f i in record { choices = Yes ∷ r.choices; trace = r.trace ∙ append_assoc k.trace (Yes ∷ []) r.choices; way_is = r.way_is }
    by (inr i) f g = let r = g i in record { choices = No ∷ r.choices; trace = r.trace ∙ append_assoc k.trace (No ∷ []) r.choices; way_is = r.way_is }
found (Cut a p amount l r next) fs k x (inl e) = subst (Found (Cut a p amount l r next) fs k) (sym e) (record { choices = Low ∷ []; trace = refl; way_is = refl })
found (Cut a p amount l r next) fs k x (inr (inl e)) = subst (Found (Cut a p amount l r next) fs k) (sym e) (record { choices = High ∷ []; trace = refl; way_is = refl })
found (Cut a p amount l r next) fs k x (inr (inr h)) =
    let g = in_each x [] (piece_at k.pieces p) (piece_at k.pieces p) _ refl h in
    found_cut a p l r amount next fs k x g.before g.part g.after g.parts_are (found next _ _ x g.is_one)

-- so each place of a core is told by its choices
pub place_found : (core : Core) (x : Place) → IsIn x (places core.tree [] (first_way core.agents)) → way_of core x.way.trace ≡ x.way
place_found core x h =
    let f = found core.tree [] (first_way core.agents) x h in
    ap (λ (cs : List Choice). way_of core cs) f.trace ∙ f.way_is

-- ---- how many atoms there are
halved_count : (A : Address) (k : Cake) → atom_count (halved A k) ≤ atom_count k + 1
halved_count [] Atom = omega arith
halved_count [] (Halves l r) = omega arith
halved_count (a ∷ A) Atom = omega arith
halved_count (L ∷ A) (Halves l r) = let h = halved_count A l in omega (arith, h)
halved_count (R ∷ A) (Halves l r) = let h = halved_count A r in omega (arith, h)

few_atoms : (core : Tree) (fs : List Form) (k : Way) (x : Place) → IsIn x (places core fs k) → atom_count x.way.cake ≤ atom_count k.cake + most_cuts core
few_atoms (Ask a p r next) fs k x h = few_atoms next _ _ x h
few_atoms (Set r sum next) fs k x h = few_atoms next _ _ x h
few_atoms (Join p q r next) fs k x h = few_atoms next _ _ x h
few_atoms (Give p a next) fs k x h = few_atoms next _ _ x h
few_atoms End fs k x (inl e) = let f = ap (λ (y : Place). atom_count y.way.cake) e in omega (arith, f)
few_atoms End fs k x (inr h) = absurd h
few_atoms (Test left right strict y n) fs k x h =
    by (in_either x (places y fs ym) (places n fs nm) h) (few_atoms y fs ym x) (few_atoms n fs nm x)
  where
    ym : Way
    ym = test_way (yes_kind strict) (sub_form (sum_form fs left.terms) (sum_form fs right.terms)) choice.Yes k

    nm : Way
    nm = test_way (no_kind strict) (sub_form (sum_form fs right.terms) (sum_form fs left.terms)) choice.No k

    by : IsIn x (places y fs ym) ⊎ IsIn x (places n fs nm) → (IsIn x (places y fs ym) → atom_count x.way.cake ≤ atom_count k.cake + most_cuts y) → (IsIn x (places n fs nm) → atom_count x.way.cake ≤ atom_count k.cake + most_cuts n)
        → atom_count x.way.cake ≤ atom_count k.cake + max (most_cuts y) (most_cuts n)
    by (inl i) f g = let r = f i in omega (arith, r)
    by (inr i) f g = let r = g i in omega (arith, r)
few_atoms (Cut a p amount l r next) fs k x (inl e) = let f = ap (λ (y : Place). atom_count y.way.cake) e in omega (arith, f)
few_atoms (Cut a p amount l r next) fs k x (inr (inl e)) = let f = ap (λ (y : Place). atom_count y.way.cake) e in omega (arith, f)
few_atoms (Cut a p amount l r next) fs k x (inr (inr h)) =
    let g = in_each x [] (piece_at k.pieces p) (piece_at k.pieces p) _ refl h in
    let z = few_atoms next _ _ x g.is_one in
    let y = halved_count g.part k.cake in
    omega (arith, z, y)

pub place_atoms : (core : Core) (x : Place) → IsIn x (places core.tree [] (first_way core.agents)) → atom_count x.way.cake ≤ 1 + most_cuts core.tree
place_atoms core x h = few_atoms core.tree [] (first_way core.agents) x h
