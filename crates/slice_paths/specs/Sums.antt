-- The code's sums of terms beside the sums of forms.
use Rattle.std.specs.Prelude.{◌≡◌, ℕ, Bool, true, false, List, [], ◌∷◌, map, ⊤}
use Rattle.slice_core.specs.declared.node.LinTerm.{LinTerm}
use Rattle.slice_core.specs.declared.node.Source.{Source}
use Rattle.slice_linear.specs.Terms.{IsFormSum, IsFormDifference, SumsFit, DifferencesFit}
use Rattle.slice_linear.specs.declared.forms.Term.{Term}
use Rattle.slice_atoms.specs.Forms.{Form}
use Rattle.slice_atoms.specs.Numbers.{Numbering, IsNumbering, cake_of, all_keys}
use Rattle.slice_paths.specs.Events.{term_fits, terms_fit, sum_fits}
use Rattle.slice_paths.specs.Places.{source_form, term_form, terms_form, sum_form}
use Rattle.slice_paths.specs.Spots.{form_of, IsWithin}

-- forms have coefficients at the unknowns of n agents and these atoms alone
abbrev pub AllWithin : ℕ → List ℕ → List (List Term) → Type 0
AllWithin n order [] = ⊤
AllWithin n order (r ∷ rs) = IsWithin (all_keys n order) r × AllWithin n order rs

-- the terms stand for the form, and have coefficients at the unknowns alone
pub record StandsFor (v : Numbering) (n : ℕ) (zs : List Term) (f : Form) : Type 0 where
  pub is : form_of v zs ≡ f
  pub within : IsWithin (all_keys n v.order) zs

-- what is made over registers stands for what is made over their forms, and its numbers fit; so for any atoms
abbrev pub MeansOver : List (List Term) → List Term → (List Form → Form) → (ℕ → Numbering → List Form → Bool) → Type 0
MeansOver rs zs form fit =
    (v : Numbering) (n : ℕ) → IsNumbering v → AllWithin n v.order rs → StandsFor v n zs (form (map (form_of v) rs)) × (fit n v (map (form_of v) rs) ≡ true)

-- or they don't fit
abbrev pub BreaksOver : List (List Term) → (ℕ → Numbering → List Form → Bool) → Type 0
BreaksOver rs fit = (v : Numbering) (n : ℕ) → IsNumbering v → AllWithin n v.order rs → fit n v (map (form_of v) rs) ≡ false

-- zs is the form of a number or a register
abbrev pub SourceMeans : List (List Term) → Source → List Term → Type 0
SourceMeans rs s zs = MeansOver rs zs (λ fs. source_form fs s) (λ n v fs. true)

abbrev pub term_fit : LinTerm → ℕ → Numbering → List Form → Bool
term_fit t n v fs = term_fits n (cake_of v.olds) fs t

-- zs is the form of a term without its sign
abbrev pub TermMeans : List (List Term) → LinTerm → List Term → Type 0
TermMeans rs t zs = MeansOver rs zs (λ fs. term_form fs t) (term_fit t)

-- or its numbers don't fit
abbrev pub TermBreaks : List (List Term) → LinTerm → Type 0
TermBreaks rs t = BreaksOver rs (term_fit t)

-- zs is total with xs added, or subtracted
abbrev pub IsAdded : Bool → List Term → List Term → List Term → Type 0
IsAdded true total xs zs = IsFormDifference total xs zs
IsAdded false total xs zs = IsFormSum total xs zs

-- the numbers of that fit
abbrev pub AddedFit : Bool → List Term → List Term → Type 0
AddedFit true total xs = DifferencesFit total xs
AddedFit false total xs = SumsFit total xs

-- zs is a total, which stands for some form, with these terms added one after another
abbrev pub RestMeans : List (List Term) → List Term → List LinTerm → List Term → Type 0
RestMeans rs total ts zs =
    (v : Numbering) (n : ℕ) (f : Form) → IsNumbering v → AllWithin n v.order rs → StandsFor v n total f
    → StandsFor v n zs (terms_form (map (form_of v) rs) f ts) × (terms_fit n (cake_of v.olds) (map (form_of v) rs) f ts ≡ true)

-- or a number of that doesn't fit
abbrev pub RestBreaks : List (List Term) → List Term → List LinTerm → Type 0
RestBreaks rs total ts =
    (v : Numbering) (n : ℕ) (f : Form) → IsNumbering v → AllWithin n v.order rs → StandsFor v n total f → terms_fit n (cake_of v.olds) (map (form_of v) rs) f ts ≡ false

-- zs is a sum
abbrev pub SumMeans : List (List Term) → List LinTerm → List Term → Type 0
SumMeans rs ts zs = MeansOver rs zs (λ fs. sum_form fs ts) (λ n v fs. sum_fits n (cake_of v.olds) fs ts)

-- or a number of it doesn't fit
abbrev pub SumBreaks : List (List Term) → List LinTerm → Type 0
SumBreaks rs ts = BreaksOver rs (λ n v fs. sum_fits n (cake_of v.olds) fs ts)
