-- Which part the choices take.
use Rattle.std.proofs.Common.{◌≡◌, ◌∙◌, ℕ, zero, suc, refl, sym, ap, List, [], ◌∷◌, ◌++◌, take, drop, Option, Some, None, append_assoc, append-nil}
use Rattle.std.specs.Prelude.{option_map}
use Rattle.std.specs.List.{slice_get}
use Rattle.slice_num.specs.declared.choice.Choice.{Choice}
use Rattle.slice_num.specs.declared.choice.Choice.TheVariants.{Low, High, Go, Yes, No}
use Rattle.slice_atoms.specs.Addresses.{Address}
use Rattle.slice_atoms.specs.Forms.{Form}
use Rattle.slice_core.specs.Tree.{Tree}
use Rattle.slice_paths.specs.Places.{Way, cut_way}
use Rattle.slice_paths.specs.Ways.{in_part, at_cut, way_by}
use Rattle.slice_counter.specs.Marks.{part_taken}

abbrev pub Goes : Type 0
Goes = List Address → Address → List Address → List Choice → Way

-- what follows a cut that takes a part
abbrev pub going : ℕ → ℕ → Form → Tree → List Form → Way → Goes
going a p amount next regs k before A after = way_by next regs (cut_way a p amount before A after k)

not_first : (o : Option ℕ) → option_map suc o ≡ Some 0 → ⊥
not_first None e = cc
not_first (Some n) e = let z : Some (suc n) ≡ Some 0 = e in cc

one_less : (o : Option ℕ) (n : ℕ) → option_map suc o ≡ Some (suc n) → o ≡ Some n
one_less None n e = let z : None ≡ Some (suc n) = e in cc
one_less (Some m) n e = let z : Some (suc m) ≡ Some (suc n) = e in cc

none_before : (o : Option ℕ) → option_map suc o ≡ None → o ≡ None
none_before None e = refl
none_before (Some m) e = let z : Some (suc m) ≡ None = e in cc

pub in_part_at : (go : Goes) (other : Way) (pre parts : List Address) (cs : List Choice) (part : ℕ) (A : Address) → part_taken cs ≡ Some part → slice_get parts part ≡ Some A
    → in_part go other pre parts cs ≡ go (pre ++ take part parts) A (drop (suc part) parts) (drop (suc part) cs)
in_part_at go other pre [] cs part A e h = let z : None ≡ Some A = h in cc
in_part_at go other pre (B ∷ parts) [] part A e h = let z : None ≡ Some part = e in cc
in_part_at go other pre (B ∷ parts) (Low ∷ cs) part A e h = let z : None ≡ Some part = e in cc
in_part_at go other pre (B ∷ parts) (High ∷ cs) part A e h = let z : None ≡ Some part = e in cc
in_part_at go other pre (B ∷ parts) (Yes ∷ cs) part A e h = let z : None ≡ Some part = e in cc
in_part_at go other pre (B ∷ parts) (Go ∷ cs) zero A e h =
    let z : Some B ≡ Some A = h in
    let same : B ≡ A = cc in
    ap (λ C. go pre C parts cs) same ∙ ap (λ b. go b A parts cs) (sym (append-nil pre))
in_part_at go other pre (B ∷ parts) (Go ∷ cs) (suc part) A e h = let z : Some zero ≡ Some (suc part) = e in cc
in_part_at go other pre (B ∷ parts) (No ∷ cs) zero A e h = absurd (not_first (part_taken cs) e)
in_part_at go other pre (B ∷ parts) (No ∷ cs) (suc part) A e h =
    in_part_at go other (pre ++ B ∷ []) parts cs part A (one_less (part_taken cs) part e) h
    ∙ ap (λ b. go b A (drop (suc part) parts) (drop (suc part) cs)) (append_assoc pre (B ∷ []) (take part parts))

pub in_part_past : (go : Goes) (other : Way) (pre parts : List Address) (cs : List Choice) (part : ℕ) → part_taken cs ≡ Some part → slice_get parts part ≡ None → in_part go other pre parts cs ≡ other
in_part_past go other pre [] cs part e h = refl
in_part_past go other pre (B ∷ parts) [] part e h = refl
in_part_past go other pre (B ∷ parts) (Low ∷ cs) part e h = refl
in_part_past go other pre (B ∷ parts) (High ∷ cs) part e h = refl
in_part_past go other pre (B ∷ parts) (Yes ∷ cs) part e h = refl
in_part_past go other pre (B ∷ parts) (Go ∷ cs) zero e h = let z : Some B ≡ None = h in cc
in_part_past go other pre (B ∷ parts) (Go ∷ cs) (suc part) e h = let z : Some zero ≡ Some (suc part) = e in cc
in_part_past go other pre (B ∷ parts) (No ∷ cs) zero e h = absurd (not_first (part_taken cs) e)
in_part_past go other pre (B ∷ parts) (No ∷ cs) (suc part) e h = in_part_past go other (pre ++ B ∷ []) parts cs part (one_less (part_taken cs) part e) h

pub in_part_none : (go : Goes) (other : Way) (pre parts : List Address) (cs : List Choice) → part_taken cs ≡ None → in_part go other pre parts cs ≡ other
in_part_none go other pre [] cs e = refl
in_part_none go other pre (B ∷ parts) [] e = refl
in_part_none go other pre (B ∷ parts) (Low ∷ cs) e = refl
in_part_none go other pre (B ∷ parts) (High ∷ cs) e = refl
in_part_none go other pre (B ∷ parts) (Yes ∷ cs) e = refl
in_part_none go other pre (B ∷ parts) (Go ∷ cs) e = let z : Some zero ≡ None = e in cc
in_part_none go other pre (B ∷ parts) (No ∷ cs) e = in_part_none go other (pre ++ B ∷ []) parts cs (none_before (part_taken cs) e)

-- a cut goes on where a part is taken
pub at_cut_on : (on : List Choice → Way) (k : Way) (cs : List Choice) (part : ℕ) → part_taken cs ≡ Some part → at_cut on k cs ≡ on cs
at_cut_on on k [] part e = refl
at_cut_on on k (Low ∷ cs) part e = let z : None ≡ Some part = e in cc
at_cut_on on k (High ∷ cs) part e = let z : None ≡ Some part = e in cc
at_cut_on on k (Yes ∷ cs) part e = refl
at_cut_on on k (Go ∷ cs) part e = refl
at_cut_on on k (No ∷ cs) part e = refl
