-- What an agent values a share at: the unknowns of all pieces that its owner was given.
use Rattle.std.proofs.Common.{◌≡◌, ◌∙◌, ◌≢◌, ℕ, zero, suc, ◌+◌, ◌-◌, ◌≤◌, ◌<◌, ◌==◌, arith, refl, sym, ap, subst, Bool, true, false, List, [], ◌∷◌, ◌++◌, append_assoc, length, take}
use Rattle.std.specs.Prelude.{map, replicate, slice_index_or, if◌then◌else◌}
use Rattle.std.proofs.lemmas.Bool.Decides.{nat_tests}
use Rattle.std.proofs.lemmas.List.{map-append}
use Rattle.slice_num.specs.Pieces.{piece_at, emptied, given}
use Rattle.slice_num.specs.declared.key.Key.{Key}
use Rattle.slice_core.specs.Agents.{IsAgent}
use Rattle.slice_linear.specs.Terms.{IsKeySum, AreDifferent}
use Rattle.slice_linear.specs.declared.forms.Term.{Term}
use Rattle.slice_atoms.specs.Addresses.{Address}
use Rattle.slice_atoms.specs.Forms.{piece_form}
use Rattle.slice_atoms.specs.Numbers.{Numbering, IsNumbering, name_of, cake_of, unknowns, sum_over, sum_over_all}
use Rattle.slice_atoms.proofs.Cuts.{sum_append, all_emptied, unknowns_differ}
use Rattle.slice_paths.specs.Same.{SameAt}
use Rattle.slice_paths.specs.Spots.{Known, form_of, way_of, with_gifts}
use Rattle.slice_paths.specs.Steps.{IsNotGiven, AreGifts, AreOwned, IsKnown, IsValueOf}
use Rattle.slice_paths.specs.declared.spot.Gift.{Gift}
use Rattle.slice_paths.proofs.Among.{piece_within}
use Rattle.slice_paths.proofs.Counts.{piece_map, length_given}
use Rattle.slice_paths.proofs.Pieces.{pieces_mean_pieces}
use Rattle.slice_paths.proofs.StepLaws.{other_piece}

-- the atoms of what one gift brings to the owner
abbrev pub brought : ℕ → List (List ℕ) → Gift → List ℕ
brought o ps g = if g.agent == o then piece_at ps g.piece else []

-- the atoms of the owner's share
abbrev pub owned : ℕ → List (List ℕ) → List Gift → List ℕ
owned o ps [] = []
owned o ps (g ∷ gs) = brought o ps g ++ owned o ps gs

-- the pieces that the owner wasn't given
abbrev pub kept : ℕ → List (List ℕ) → List Gift → List (List ℕ)
kept o ps [] = ps
kept o ps (g ∷ gs) = kept o (if g.agent == o then emptied ps g.piece else ps) gs

owned_put : (o : ℕ) (ps : List (List ℕ)) (gs : List Gift) (g : Gift) → owned o ps (gs ++ g ∷ []) ≡ owned o ps gs ++ brought o ps g
owned_put o ps [] g = append_nil (brought o ps g)
  where
    append_nil : (xs : List ℕ) → xs ++ [] ≡ xs
    append_nil [] = refl
    append_nil (x ∷ xs) = ap (λ (ys : List ℕ). x ∷ ys) (append_nil xs)
owned_put o ps (x ∷ gs) g = ap (λ (ys : List ℕ). brought o ps x ++ ys) (owned_put o ps gs g) ∙ sym (append_assoc (brought o ps x) (owned o ps gs) (brought o ps g))

-- ---- gift by gift
take_put : (gs : List Gift) (i : ℕ) (d : Gift) → i < length gs → take (i + 1) gs ≡ take i gs ++ slice_index_or gs i d ∷ []
take_put [] i d h = absurd (omega arith)
take_put (g ∷ gs) zero d h = refl
take_put (g ∷ gs) (suc i) d h =
    let e : suc i + 1 ≡ suc (i + 1) = omega arith in
    ap (λ (n : ℕ). take n (g ∷ gs)) e ∙ ap (λ (xs : List Gift). g ∷ xs) (take_put gs i d (omega arith))

pub take_all : (gs : List Gift) (i : ℕ) → length gs ≤ i → take i gs ≡ gs
take_all [] zero h = refl
take_all [] (suc i) h = refl
take_all (g ∷ gs) zero h = absurd (omega arith)
take_all (g ∷ gs) (suc i) h = ap (λ (xs : List Gift). g ∷ xs) (take_all gs i (omega arith))

unknowns_brought : (a o : ℕ) (ps : List (List ℕ)) (g : Gift) → (if g.agent == o then unknowns a (piece_at ps g.piece) else []) ≡ unknowns a (brought o ps g)
unknowns_brought a o ps g = by (g.agent == o)
  where
    by : (b : Bool) → (if b then unknowns a (piece_at ps g.piece) else []) ≡ unknowns a (if b then piece_at ps g.piece else [])
    by true = refl
    by false = refl

pub put_next : (a o : ℕ) (ps : List (List ℕ)) (gs : List Gift) (i : ℕ) (d : Gift) → i < length gs
    → unknowns a (owned o ps (take i gs)) ++ (if (slice_index_or gs i d).agent == o then unknowns a (piece_at ps (slice_index_or gs i d).piece) else []) ≡ unknowns a (owned o ps (take (i + 1) gs))
put_next a o ps gs i d h =
    let g : Gift = slice_index_or gs i d in
    ap (λ (ks : List Key). unknowns a (owned o ps (take i gs)) ++ ks) (unknowns_brought a o ps g)
    ∙ sym (map-append (λ m. record { agent = a; atom = m }) (owned o ps (take i gs)) (brought o ps g))
    ∙ ap (unknowns a) (sym (owned_put o ps (take i gs) g))
    ∙ ap (λ (xs : List Gift). unknowns a (owned o ps xs)) (sym (take_put gs i d h))

pub gift_there : (made : ℕ) (gs : List Gift) (i : ℕ) (d : Gift) → i < length gs → AreGifts made gs → (slice_index_or gs i d).piece < made
gift_there made [] i d h a = absurd (omega arith)
gift_there made (g ∷ gs) zero d h a = a.0
gift_there made (g ∷ gs) (suc i) d h a = gift_there made gs i d (omega arith) a.2

-- ---- the share and the other pieces are pieces of the same atoms
owned_same : (o : ℕ) (ps : List (List ℕ)) (p : ℕ) (gs : List Gift) → IsNotGiven p gs → owned o (emptied ps p) gs ≡ owned o ps gs
owned_same o ps p [] h = refl
owned_same o ps p (g ∷ gs) h = λ i. (if g.agent == o then other_piece ps p g.piece (λ e. h.0 (sym e)) i else []) ++ owned_same o ps p gs h.1 i

all_held : (f : ℕ → ℕ) (o made : ℕ) (ps : List (List ℕ)) (gs : List Gift) → AreGifts made gs → sum_over f (owned o ps gs) + sum_over_all f (kept o ps gs) ≡ sum_over_all f ps
all_held f o made ps [] h = omega arith
all_held f o made ps (g ∷ gs) h = by (g.agent == o) (all_held f o made (emptied ps g.piece) gs h.2) (all_held f o made ps gs h.2)
  where
    by : (b : Bool) → sum_over f (owned o (emptied ps g.piece) gs) + sum_over_all f (kept o (emptied ps g.piece) gs) ≡ sum_over_all f (emptied ps g.piece)
        → sum_over f (owned o ps gs) + sum_over_all f (kept o ps gs) ≡ sum_over_all f ps
        → sum_over f ((if b then piece_at ps g.piece else []) ++ owned o ps gs) + sum_over_all f (kept o (if b then emptied ps g.piece else ps) gs) ≡ sum_over_all f ps
    by true e d =
        let a = sum_append f (piece_at ps g.piece) (owned o ps gs) in
        let b = ap (sum_over f) (owned_same o ps g.piece gs h.1) in
        let c = all_emptied f ps g.piece in
        omega (arith, a, b, c, e)
    by false e d = d

abbrev pub shared : ℕ → Numbering → List Gift → Numbering
shared o v gs = record v { pieces = owned o v.pieces gs ∷ kept o v.pieces gs }

is_shared : (o made : ℕ) (v : Numbering) (gs : List Gift) → IsNumbering v → AreGifts made gs → IsNumbering (shared o v gs)
is_shared o made v gs h a = record { named = h.named; given = h.given; once = h.once; held = λ f. all_held f o made v.pieces gs a ∙ h.held f }

pub share_differs : (o made a : ℕ) (v : Numbering) (gs : List Gift) → IsNumbering v → AreGifts made gs → AreDifferent (unknowns a (owned o v.pieces gs))
share_differs o made a v gs h g = unknowns_differ (shared o v gs) a 0 (is_shared o made v gs h g)

-- ---- the share's parts
given_own : (shares : List (List Address)) (i : ℕ) (ps : List Address) → i < length shares → piece_at (given shares i ps) i ≡ piece_at shares i ++ ps
given_own [] i ps h = absurd (omega arith)
given_own (x ∷ xs) zero ps h = refl
given_own (x ∷ xs) (suc i) ps h = given_own xs i ps (omega arith)

given_other : (shares : List (List Address)) (i j : ℕ) (ps : List Address) → i ≢ j → piece_at (given shares i ps) j ≡ piece_at shares j
given_other [] i j ps n = refl
given_other (x ∷ xs) zero zero ps n = absurd (n refl)
given_other (x ∷ xs) zero (suc j) ps n = refl
given_other (x ∷ xs) (suc i) zero ps n = refl
given_other (x ∷ xs) (suc i) (suc j) ps n = given_other xs i j ps (λ e. n (ap suc e))

share_at : (f : ℕ → Address) (n o : ℕ) (ps : List (List ℕ)) (shares : List (List Address)) (gs : List Gift) → 1 ≤ o → o ≤ length shares → AreOwned n gs
    → piece_at (with_gifts (map (map f) ps) shares gs) (o - 1) ≡ piece_at shares (o - 1) ++ map f (owned o ps gs)
share_at f n o ps shares [] one few h = sym (append_nil (piece_at shares (o - 1)))
  where
    append_nil : (xs : List Address) → xs ++ [] ≡ xs
    append_nil [] = refl
    append_nil (x ∷ xs) = ap (λ (ys : List Address). x ∷ ys) (append_nil xs)
share_at f n o ps shares (g ∷ gs) one few h =
    let part : List Address = piece_at (map (map f) ps) g.piece in
    let more : List (List Address) = given shares (g.agent - 1) part in
    let l = length_given shares (g.agent - 1) part in
    share_at f n o ps more gs one (omega (arith, l, few)) h.1 ∙ by (g.agent == o) refl
  where
    by : (b : Bool) → (g.agent == o) ≡ b
        → piece_at (given shares (g.agent - 1) (piece_at (map (map f) ps) g.piece)) (o - 1) ++ map f (owned o ps gs)
        ≡ piece_at shares (o - 1) ++ map f ((if b then piece_at ps g.piece else []) ++ owned o ps gs)
    by true e =
        let same : g.agent ≡ o = grind (arith, nat_tests) in
        let there : o - 1 < length shares = omega (arith, one, few) in
        let part : List Address = piece_at (map (map f) ps) g.piece in
        (λ i. (ap (λ (a : ℕ). piece_at (given shares (a - 1) part) (o - 1)) same ∙ given_own shares (o - 1) part there ∙ ap (λ (x : List Address). piece_at shares (o - 1) ++ x) (piece_map f ps g.piece)) i ++ map f (owned o ps gs))
        ∙ append_assoc (piece_at shares (o - 1)) (map f (piece_at ps g.piece)) (map f (owned o ps gs))
        ∙ ap (λ (x : List Address). piece_at shares (o - 1) ++ x) (sym (map-append f (piece_at ps g.piece) (owned o ps gs)))
    by false e =
        let owner = h.0.0 in
        let other : g.agent - 1 ≢ o - 1 = λ d. (let same : g.agent ≡ o = omega (arith, one, owner, d) in let w : ⊥ = grind (arith, nat_tests) in w) in
        ap (λ (x : List Address). x ++ map f (owned o ps gs)) (given_other shares (g.agent - 1) (o - 1) (piece_at (map (map f) ps) g.piece) other)

abbrev no_part : List Address
no_part = []

none_yet : (n i : ℕ) → piece_at (replicate n no_part) i ≡ no_part
none_yet zero i = refl
none_yet (suc n) zero = refl
none_yet (suc n) (suc i) = none_yet n i

so_many : (n : ℕ) → length (replicate n no_part) ≡ n
so_many zero = refl
so_many (suc n) = ap suc (so_many n)

-- the sum of the share's unknowns is its value on the way
pub share_value : (s : Known) (a o : ℕ) (zs : List Term) → IsKnown s → IsAgent s.atoms.agents a → IsAgent s.atoms.agents o → IsKeySum (unknowns a (owned o s.atoms.pieces s.gifts)) zs
    → IsValueOf a (piece_at (way_of s).shares (o - 1)) s zs
share_value s a o zs k g h z =
    let v = s.atoms in
    let n = v.agents in
    let w = shared o v s.gifts in
    let i = is_shared o (length v.pieces) v s.gifts k.numbering k.gifts in
    let l = so_many n in
    let e : piece_at (way_of s).shares (o - 1) ≡ map (name_of v.olds) (owned o v.pieces s.gifts) =
    share_at (name_of v.olds) n o v.pieces (replicate n []) s.gifts h.0 (let few = h.1 in omega (arith, l, few)) k.owners ∙ ap (λ (x : List Address). x ++ map (name_of v.olds) (owned o v.pieces s.gifts)) (none_yet n (o - 1)) in
    record {
      same = subst (λ (ps : List Address). SameAt (cake_of v.olds) (form_of v zs) (piece_form a ps)) (sym e) (pieces_mean_pieces w a 0 zs i g.0 z);
      over = piece_within w n a 0 zs i g.0 g.1 z;
    }
