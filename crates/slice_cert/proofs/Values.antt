-- What is found in a value.
use Rattle.std.proofs.Common.{◌≡◌, ◌∙◌, sym, ◌<◌, codes, ℕ, zero, suc, ℤ, pos, List, [], ◌∷◌, map, length, get_or, ap, arith, Some, None, refl, option_and_then, true}
use Rattle.std.specs.declared.option.Option.{Option}
use Rattle.serde_json.specs.Data.{Data, null, boolean, number, string, array, object, Items}
use Rattle.serde_json.specs.Find.{get, as_str, as_array}
use Rattle.slice_json.specs.Reading.{text_at, text_is, items_at}
use Rattle.serde_json.specs.View.{view, items_of, items_view}
use Rattle.std.specs.List.{All}
use Rattle.std.proofs.lemmas.Slice.Eq.{bytes_eq-Decides}
use Rattle.slice_num.specs.Rational.{Fits}
use Rattle.slice_cert.specs.declared.line.Line.{Line}
use Rattle.slice_cert.specs.declared.line.Line.TheVariants.{Header, Refutation, Cover, Closing}
use Rattle.slice_cert.specs.CertLines.{Says}
use Rattle.slice_cert.specs.Kinds.{IsRefutation, IsCover}
use Rattle.serde_json.specs.declared.value.Value.{Value}
use Rattle.slice_json.specs.Texts.{text, signed, list_of}

some_at : (o : Option Data) (s : List ℕ) → option_and_then as_str o ≡ Some s → o ≡ Some (text s)
some_at None s e = cc
some_at (Some null) s e = cc
some_at (Some (boolean b)) s e = cc
some_at (Some (number n)) s e = cc
some_at (Some (string t)) s e = let f : t ≡ s = cc in λ i. Some (string (f i))
some_at (Some (array ds)) s e = cc
some_at (Some (object ms)) s e = cc

-- a text that is there
pub text_there : (key s : List ℕ) (d : Data) → text_at key d ≡ Some s → get key d ≡ Some (text s)
text_there key s d e = some_at (get key d) s e

array_at : (o : Option Data) (ds : Items) → option_and_then as_array o ≡ Some ds → o ≡ Some (array ds)
array_at None ds e = cc
array_at (Some null) ds e = cc
array_at (Some (boolean b)) ds e = cc
array_at (Some (number n)) ds e = cc
array_at (Some (string t)) ds e = cc
array_at (Some (array es)) ds e = let f : es ≡ ds = cc in λ i. Some (array (f i))
array_at (Some (object ms)) ds e = cc

pub array_there : (key : List ℕ) (ds : Items) (d : Data) → items_at key d ≡ Some ds → get key d ≡ Some (array ds)
array_there key ds d e = array_at (get key d) ds e

-- item i of values that are these texts
pub item_is : (vs : List Value) (zs : List ℤ) (i : ℕ) (v : Value) → i < length vs → v ≡ get_or vs i v → map view vs ≡ map signed zs → (i < length zs) × (view v ≡ signed (get_or zs i (pos 0)))
item_is [] zs i v lt e h = absurd (omega arith)
item_is (x ∷ vs) [] i v lt e h = cc
item_is (x ∷ vs) (z ∷ zs) zero v lt e h = let f : view x ≡ signed z = cc in (omega arith, ap view e ∙ f)
item_is (x ∷ vs) (z ∷ zs) (suc i) v lt e h = let f : map view vs ≡ map signed zs = cc in let r = item_is vs zs i v (omega arith) e f in (omega (arith, r.0), r.1)

pub items_same : (xs ys : List Data) → items_of xs ≡ items_of ys → xs ≡ ys
items_same [] [] e = refl
items_same [] (y ∷ ys) e = cc
items_same (x ∷ xs) [] e = cc
items_same (x ∷ xs) (y ∷ ys) e = let f : items_of xs ≡ items_of ys = cc in let g : x ≡ y = cc in let h = items_same xs ys f in λ i. g i ∷ h i

says_of : (o : Option (List ℕ)) (wanted : List ℕ) → text_is wanted o ≡ true → o ≡ Some wanted
says_of None wanted e = cc
says_of (Some s) wanted e = ap Some (((bytes_eq-Decides s wanted).0 e))

pub says_in : (key wanted : List ℕ) (d : Data) → text_is wanted (text_at key d) ≡ true → get key d ≡ Some (text wanted)
says_in key wanted d e = text_there key wanted d (says_of (text_at key d) wanted e)

pub says_out : (key wanted : List ℕ) (d : Data) → get key d ≡ Some (text wanted) → text_is wanted (text_at key d) ≡ true
says_out key wanted d e = ap (λ (o : Option Data). text_is wanted (option_and_then as_str o)) e ∙ (bytes_eq-Decides wanted wanted).1 refl

-- where no numbers are those of the array, the value is no refutation
pub no_refutation : (d : Data) (vs : List Value) (l : Line) → get (codes "multipliers") d ≡ Some (array (items_view vs)) → ((zs : List ℤ) → All Fits zs → map view vs ≡ map signed zs → ⊥) → IsRefutation l → Says d l → ⊥
no_refutation d vs (Header version protocol agents) e none is s = absurd is
no_refutation d vs (Cover goal passed zs) e none is s = absurd is
no_refutation d vs (Closing goals) e none is s = absurd is
no_refutation d vs (Refutation goal zs) e none is s =
    let two : Some (array (items_view vs)) ≡ Some (list_of signed zs) = sym e ∙ s.1.1.0 in
    let same : items_view vs ≡ items_of (map signed zs) = cc in
    none zs s.2.1 (items_same (map view vs) (map signed zs) same)

-- nor a line that covers goals
pub no_cover : (d : Data) (vs : List Value) (l : Line) → get (codes "multipliers") d ≡ Some (array (items_view vs)) → ((zs : List ℤ) → All Fits zs → map view vs ≡ map signed zs → ⊥) → IsCover l → Says d l → ⊥
no_cover d vs (Header version protocol agents) e none is s = absurd is
no_cover d vs (Refutation goal zs) e none is s = absurd is
no_cover d vs (Closing goals) e none is s = absurd is
no_cover d vs (Cover goal passed zs) e none is s =
    let two : Some (array (items_view vs)) ≡ Some (list_of signed zs) = sym e ∙ s.1.1.1.0 in
    let same : items_view vs ≡ items_of (map signed zs) = cc in
    none zs s.2.2 (items_same (map view vs) (map signed zs) same)

-- the texts of numbers are there, where the array's values are these texts
pub texts_there : (d : Data) (vs : List Value) (zs us : List ℤ) → get (codes "multipliers") d ≡ Some (array (items_view vs)) → map view vs ≡ map signed zs → us ≡ zs
    → get (codes "multipliers") d ≡ Some (list_of signed us)
texts_there d vs zs us e f g = e ∙ ap (λ (ds : List Data). Some (array (items_of ds))) f ∙ ap (λ (xs : List ℤ). Some (list_of signed xs)) (sym g)
