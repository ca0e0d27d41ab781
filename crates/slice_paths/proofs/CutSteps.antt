-- What an answered cut does to a spot.
use Rattle.std.proofs.Common.{◌≡◌, ◌∙◌, ℕ, zero, suc, ◌+◌, ◌*◌, ◌≤◌, ◌<◌, arith, refl, sym, ap, subst, List, [], ◌∷◌, ◌++◌, append_assoc, length, length-append, take, drop}
use Rattle.std.specs.Prelude.{map, replicate, slice_index_or}
use Rattle.std.proofs.lemmas.List.{map-append}
use Rattle.slice_num.specs.declared.choice.Choice.{Choice}
use Rattle.slice_num.specs.declared.choice.Choice.TheVariants as choice
use Rattle.slice_num.specs.Pieces.{piece_at, emptied, cut_pieces, passed}
use Rattle.slice_linear.specs.declared.row.RowKind.TheVariants.{Zero}
use Rattle.slice_linear.specs.declared.forms.Term.{Term}
use Rattle.slice_linear.specs.Terms.{IsKeySum}
use Rattle.slice_atoms.specs.Addresses.{Address, Cake, Atom, halved, left_of, right_of}
use Rattle.slice_atoms.specs.Forms.{Form, piece_form, sub_form}
use Rattle.slice_atoms.specs.FormFits.{sub_fits}
use Rattle.slice_atoms.specs.Numbers.{Numbering, IsNumbering, name_of, cake_of, addresses_of, unknowns, part_of, next_atom, cut_at, one_at, sum_over, sum_over_all}
use Rattle.slice_atoms.proofs.Cuts.{numbering_cut, cake_put, name_stays, name_left, name_right, number_given, piece_among, all_emptied, sum_part, one_same}
use Rattle.slice_paths.specs.Places.{Condition, Way, first_conditions, cut_way, test_way}
use Rattle.slice_paths.specs.Events.{events, cut_fits}
use Rattle.slice_paths.specs.Same.{SameAt, SameForms, SameConditions}
use Rattle.slice_paths.specs.Spots.{Known, Tally, form_of, condition_of, regs_of, way_of, tally_of, without_gifts, with_gifts, IsSplit}
use Rattle.slice_paths.specs.Sums.{AllWithin}
use Rattle.slice_paths.specs.Steps.{IsNotGiven, AreGifts, IsKnown, IsOver, PassedTo, IsPassed, IsNoDifference, AllCanSplit, AllSplit, ConditionsSplit, HalvedTo, CutTo, IsNoCut, parts_at}
use Rattle.slice_paths.specs.declared.spot.Condition as held
use Rattle.slice_paths.specs.declared.spot.Gift.{Gift}
use Rattle.slice_paths.proofs.Counts.{piece_map, emptied_map}
use Rattle.slice_paths.proofs.Depends.{depends, same_sub, sub_fits_same, conditions_put}
use Rattle.slice_paths.proofs.Pieces.{pieces_mean_pieces}
use Rattle.slice_paths.proofs.Splits.{splits_mean_the_same}
use Rattle.slice_paths.proofs.StepLaws.{not_given, other_piece, same_conditions}
use Rattle.slice_paths.proofs.SpotLaws.{without_emptied, emptied_length, without_append, piece_append, SamePieces, shares_same, gifts_more, map_length}
use Rattle.slice_paths.proofs.Among.{can_split, split_within, piece_within}

-- ---- forms
pub all_can : (v : Numbering) (n p part : ℕ) (rs : List (List Term)) → IsNumbering v → part < length (piece_at v.pieces p) → AllWithin n v.order rs
    → AllCanSplit n (part_of v p part) (next_atom v) (next_atom v + 1) rs
all_can v n p part [] h q w = tt
all_can v n p part (r ∷ rs) h q w = (can_split v n p part r h q w.0, all_can v n p part rs h q w.1)

all_within : (v : Numbering) (n p part : ℕ) (rs zs : List (List Term)) → IsNumbering v → part < length (piece_at v.pieces p) → AllWithin n v.order rs
    → AllSplit (part_of v p part) (next_atom v) (next_atom v + 1) rs zs → AllWithin n (cut_at p part v).order zs
all_within v n p part [] [] h q w s = tt
all_within v n p part (r ∷ rs) (z ∷ zs) h q w s = (split_within v n p part r z h q w.0 s.0, all_within v n p part rs zs h q w.1 s.1)
all_within v n p part [] (z ∷ zs) h q w s = absurd s
all_within v n p part (r ∷ rs) [] h q w s = absurd s

conditions_within : (v : Numbering) (n p part : ℕ) (rs zs : List held.Condition) → IsNumbering v → part < length (piece_at v.pieces p) → AllWithin n v.order (map (λ c. c.form) rs)
    → ConditionsSplit (part_of v p part) (next_atom v) (next_atom v + 1) rs zs → AllWithin n (cut_at p part v).order (map (λ c. c.form) zs)
conditions_within v n p part [] [] h q w s = tt
conditions_within v n p part (r ∷ rs) (z ∷ zs) h q w s = (split_within v n p part r.form z.form h q w.0 s.1, conditions_within v n p part rs zs h q w.1 s.2)
conditions_within v n p part [] (z ∷ zs) h q w s = absurd s
conditions_within v n p part (r ∷ rs) [] h q w s = absurd s

same_sym : (k : Cake) (f g : Form) → SameAt k f g → SameAt k g f
same_sym k f g h = record { whole = sym h.whole; parts = λ a B l. sym (h.parts a B l) }

split_same : (v : Numbering) (p part : ℕ) (x z : List Term) → IsNumbering v → part < length (piece_at v.pieces p) → IsSplit (part_of v p part) (next_atom v) (next_atom v + 1) x z
    → SameAt (cake_of (cut_at p part v).olds) (form_of v x) (form_of (cut_at p part v) z)
split_same v p part x z h q s = same_sym (cake_of (cut_at p part v).olds) (form_of (cut_at p part v) z) (form_of v x) (splits_mean_the_same v p part x z h q s)

forms_split : (v : Numbering) (p part : ℕ) (rs zs : List (List Term)) → IsNumbering v → part < length (piece_at v.pieces p)
    → AllSplit (part_of v p part) (next_atom v) (next_atom v + 1) rs zs → SameForms (cake_of (cut_at p part v).olds) (map (form_of v) rs) (map (form_of (cut_at p part v)) zs)
forms_split v p part [] [] h q s = tt
forms_split v p part (r ∷ rs) (z ∷ zs) h q s = (split_same v p part r z h q s.0, forms_split v p part rs zs h q s.1)
forms_split v p part [] (z ∷ zs) h q s = absurd s
forms_split v p part (r ∷ rs) [] h q s = absurd s

conditions_split : (v : Numbering) (p part : ℕ) (firsts : List Condition) (rs zs : List held.Condition) → IsNumbering v → part < length (piece_at v.pieces p)
    → ConditionsSplit (part_of v p part) (next_atom v) (next_atom v + 1) rs zs
    → SameConditions (cake_of (cut_at p part v).olds) (firsts ++ map (condition_of v) rs) (firsts ++ map (condition_of (cut_at p part v)) zs)
conditions_split v p part (f ∷ fs) rs zs h q s =
    let e = (same_conditions (cake_of (cut_at p part v).olds) (f ∷ [])).1.0 in
    (refl, (e, conditions_split v p part fs rs zs h q s))
conditions_split v p part [] [] [] h q s = tt
conditions_split v p part [] (r ∷ rs) (z ∷ zs) h q s = (s.0, (split_same v p part r.form z.form h q s.1, conditions_split v p part [] rs zs h q s.2))
conditions_split v p part [] [] (z ∷ zs) h q s = absurd s
conditions_split v p part [] (r ∷ rs) [] h q s = absurd s

-- ---- pieces
map_take : (f : ℕ → Address) (xs : List ℕ) (i : ℕ) → map f (take i xs) ≡ take i (map f xs)
map_take f xs zero = refl
map_take f [] (suc i) = refl
map_take f (x ∷ xs) (suc i) = ap (λ ys. f x ∷ ys) (map_take f xs i)

map_drop : (f : ℕ → Address) (xs : List ℕ) (i : ℕ) → map f (drop i xs) ≡ drop i (map f xs)
map_drop f xs zero = refl
map_drop f [] (suc i) = refl
map_drop f (x ∷ xs) (suc i) = map_drop f xs i

-- a list by a part of it
by_part : (f : ℕ → Address) (xs : List ℕ) (i : ℕ) → i < length xs → map f xs ≡ take i (map f xs) ++ f (slice_index_or xs i 0) ∷ drop (i + 1) (map f xs)
by_part f [] i h = absurd (omega arith)
by_part f (x ∷ xs) zero h = refl
by_part f (x ∷ xs) (suc i) h =
    let e : i + 1 ≡ suc i = omega arith in
    let d : suc i + 1 ≡ suc (suc i) = omega arith in
    ap (λ ys. f x ∷ ys) (by_part f xs i (omega arith) ∙ ap (λ (j : ℕ). take i (map f xs) ++ f (slice_index_or xs i 0) ∷ drop j (map f xs)) e)
    ∙ ap (λ (j : ℕ). f x ∷ take i (map f xs) ++ f (slice_index_or xs i 0) ∷ drop j (f x ∷ map f xs)) (sym d)

stay : (v : Numbering) (old : ℕ) (ms : List ℕ) → IsNumbering v → ((m : ℕ) → sum_over (one_at m) ms ≤ sum_over (one_at m) v.order) → map (name_of (v.olds ++ old ∷ [])) ms ≡ map (name_of v.olds) ms
stay v old [] h l = refl
stay v old (m ∷ ms) h l =
    let o = one_same m in
    let c : 1 ≤ sum_over (one_at m) v.order = omega (arith, o, l m) in
    let g = number_given (2 * length v.olds + 1) m v.order h.given c in
    λ i. name_stays v.olds old m g.0 g.1 i ∷ stay v old ms h (λ j. omega (arith, l j)) i

stay_all : (v : Numbering) (old : ℕ) (ps : List (List ℕ)) → IsNumbering v → ((m : ℕ) → sum_over_all (one_at m) ps ≤ sum_over (one_at m) v.order) → map (map (name_of (v.olds ++ old ∷ []))) ps ≡ map (map (name_of v.olds)) ps
stay_all v old [] h l = refl
stay_all v old (p ∷ ps) h l = λ i. stay v old p h (λ j. omega (arith, l j)) i ∷ stay_all v old ps h (λ j. omega (arith, l j)) i

left_cut : (v : Numbering) (p part : ℕ) → IsNumbering v → part < length (piece_at v.pieces p)
    → map (name_of (cut_at p part v).olds) (take part (piece_at v.pieces p) ++ next_atom v ∷ []) ≡ take part (map (name_of v.olds) (piece_at v.pieces p)) ++ left_of (name_of v.olds (part_of v p part)) ∷ []
left_cut v p part h q =
    let old = part_of v p part in
    let ms = piece_at v.pieces p in
    let few : (m : ℕ) → sum_over (one_at m) (take part ms) ≤ sum_over (one_at m) v.order = λ m.
    omega (arith, sum_part (one_at m) ms part q, piece_among (one_at m) v.pieces p, h.held (one_at m)) in
    map-append (name_of (v.olds ++ old ∷ [])) (take part ms) (next_atom v ∷ [])
    ∙ (λ i. (stay v old (take part ms) h few ∙ map_take (name_of v.olds) ms part) i ++ name_left v.olds old i ∷ [])

right_cut : (v : Numbering) (p part : ℕ) → IsNumbering v → part < length (piece_at v.pieces p)
    → map (name_of (cut_at p part v).olds) ((next_atom v + 1) ∷ drop (part + 1) (piece_at v.pieces p)) ≡ right_of (name_of v.olds (part_of v p part)) ∷ drop (part + 1) (map (name_of v.olds) (piece_at v.pieces p))
right_cut v p part h q =
    let old = part_of v p part in
    let ms = piece_at v.pieces p in
    let few : (m : ℕ) → sum_over (one_at m) (drop (part + 1) ms) ≤ sum_over (one_at m) v.order = λ m.
    omega (arith, sum_part (one_at m) ms part q, piece_among (one_at m) v.pieces p, h.held (one_at m)) in
    λ i. name_right v.olds old i ∷ (stay v old (drop (part + 1) ms) h few ∙ map_drop (name_of v.olds) ms (part + 1)) i

addresses_cut : (v : Numbering) (p part : ℕ) → IsNumbering v → part < length (piece_at v.pieces p)
    → addresses_of (cut_at p part v)
    ≡ cut_pieces (addresses_of v) p (take part (map (name_of v.olds) (piece_at v.pieces p)) ++ left_of (name_of v.olds (part_of v p part)) ∷ [])
    (right_of (name_of v.olds (part_of v p part)) ∷ drop (part + 1) (map (name_of v.olds) (piece_at v.pieces p)))
addresses_cut v p part h q =
    let old = part_of v p part in
    let ms = piece_at v.pieces p in
    let x : List ℕ = take part ms ++ next_atom v ∷ [] in
    let y : List ℕ = (next_atom v + 1) ∷ drop (part + 1) ms in
    let few : (m : ℕ) → sum_over_all (one_at m) (emptied v.pieces p) ≤ sum_over (one_at m) v.order = λ m. omega (arith, all_emptied (one_at m) v.pieces p, h.held (one_at m)) in
    map-append (map (name_of (v.olds ++ old ∷ []))) (emptied v.pieces p) (x ∷ y ∷ [])
    ∙ (λ i. (stay_all v old (emptied v.pieces p) h few ∙ sym (emptied_map (name_of v.olds) v.pieces p)) i ++ left_cut v p part h q i ∷ right_cut v p part h q i ∷ [])

without_cut : (ps qs : List (List Address)) (gs : List Gift) (p : ℕ) → AreGifts (length ps) gs → without_gifts (emptied ps p ++ qs) gs ≡ emptied (without_gifts ps gs) p ++ qs
without_cut ps qs gs p h =
    without_append (emptied ps p) qs gs (subst (λ (z : ℕ). AreGifts z gs) (sym (emptied_length ps p)) h) ∙ ap (λ (xs : List (List Address)). xs ++ qs) (without_emptied ps gs p)

same_cut : (ps qs : List (List Address)) (gs : List Gift) (p : ℕ) → AreGifts (length ps) gs → IsNotGiven p gs → SamePieces (emptied ps p ++ qs) ps gs
same_cut ps qs [] p h m = tt
same_cut ps qs (g ∷ gs) p h m =
    ((piece_append (emptied ps p) qs g.piece (subst (λ (l : ℕ). g.piece < l) (sym (emptied_length ps p)) h.0) ∙ other_piece ps p g.piece (λ f. m.0 (sym f))), same_cut ps qs gs p h.2 m.1)

piece_next : (ps : List (List ℕ)) (x y : List ℕ) → piece_at (ps ++ x ∷ y ∷ []) (length ps) ≡ x
piece_next [] x y = refl
piece_next (p ∷ ps) x y = piece_next ps x y

numbers_length : (ps : List (List ℕ)) (p : ℕ) → length (emptied ps p) ≡ length ps
numbers_length [] p = refl
numbers_length (x ∷ ps) zero = refl
numbers_length (x ∷ ps) (suc p) = ap suc (numbers_length ps p)

pub left_piece_at : (v : Numbering) (p part : ℕ) → piece_at (cut_at p part v).pieces (length v.pieces) ≡ take part (piece_at v.pieces p) ++ next_atom v ∷ []
left_piece_at v p part =
    let x : List ℕ = take part (piece_at v.pieces p) ++ next_atom v ∷ [] in
    let y : List ℕ = (next_atom v + 1) ∷ drop (part + 1) (piece_at v.pieces p) in
    ap (piece_at (emptied v.pieces p ++ x ∷ y ∷ [])) (sym (numbers_length v.pieces p)) ∙ piece_next (emptied v.pieces p) x y

pub cut_length : (v : Numbering) (p part : ℕ) → length (cut_at p part v).pieces ≡ length v.pieces + 2
cut_length v p part =
    let x : List ℕ = take part (piece_at v.pieces p) ++ next_atom v ∷ [] in
    let y : List ℕ = (next_atom v + 1) ∷ drop (part + 1) (piece_at v.pieces p) in
    length-append (emptied v.pieces p) (x ∷ y ∷ []) ∙ ap (λ (n : ℕ). n + 2) (numbers_length v.pieces p)

-- ---- choices
passed_before : (i : ℕ) (xs : List Address) → i ≤ length xs → passed (take i xs) ≡ replicate i choice.No ++ choice.Go ∷ []
passed_before zero xs h = refl
passed_before (suc i) [] h = absurd (omega arith)
passed_before (suc i) (x ∷ xs) h = ap (λ cs. choice.No ∷ cs) (passed_before i xs (omega arith))

-- ---- the whole step
abbrev pub halved_spot : Known → ℕ → ℕ → List (List Term) → List held.Condition → Known
halved_spot s p part rs cs = record s { atoms = cut_at p part s.atoms; regs = rs; conditions = cs; trace = s.trace ++ replicate part choice.No }

pub known_halved : (s : Known) (p part : ℕ) (rs : List (List Term)) (cs : List held.Condition) (cho : List Choice) → IsKnown s → part < length (piece_at s.atoms.pieces p)
    → AllSplit (part_of s.atoms p part) (next_atom s.atoms) (next_atom s.atoms + 1) s.regs rs
    → ConditionsSplit (part_of s.atoms p part) (next_atom s.atoms) (next_atom s.atoms + 1) s.conditions cs
    → IsKnown (record s { atoms = cut_at p part s.atoms; regs = rs; conditions = cs; trace = cho })
known_halved s p part rs cs cho k q a b =
    let v = s.atoms in
    record {
      numbering = numbering_cut v p part k.numbering q;
      regs = all_within v v.agents p part s.regs rs k.numbering q k.regs a;
      conditions = conditions_within v v.agents p part s.conditions cs k.numbering q k.conditions b;
      gifts = subst (λ (z : ℕ). AreGifts z s.gifts) (sym (cut_length v p part)) (gifts_more (length v.pieces) 2 s.gifts k.gifts);
      owners = k.owners;
    }

-- the own form of the answer's condition, and that of the definition
own_same : (s : Known) (a p part : ℕ) (am am' own : List Term) → IsKnown s → 1 ≤ a → part < length (piece_at s.atoms.pieces p)
    → IsSplit (part_of s.atoms p part) (next_atom s.atoms) (next_atom s.atoms + 1) am am'
    → IsKeySum (unknowns a (piece_at (cut_at p part s.atoms).pieces (length s.atoms.pieces))) own
    → SameAt (cake_of (cut_at p part s.atoms).olds) (piece_form a (take part (parts_at s p) ++ left_of (name_of s.atoms.olds (part_of s.atoms p part)) ∷ [])) (form_of (cut_at p part s.atoms) own)
own_same s a p part am am' own k one q sp so =
    let v = s.atoms in
    let w = cut_at p part v in
    let e = ap (map (name_of w.olds)) (left_piece_at v p part) ∙ left_cut v p part k.numbering q in
    same_sym (cake_of w.olds) (form_of w own) (piece_form a (take part (parts_at s p) ++ left_of (name_of v.olds (part_of v p part)) ∷ []))
    (subst (λ (ps : List Address). SameAt (cake_of w.olds) (form_of w own) (piece_form a ps)) e (pieces_mean_pieces w a (length v.pieces) own (numbering_cut v p part k.numbering q) one so))

-- the numbers of the answer's condition fit alike
pub fits_alike : (s : Known) (a p part : ℕ) (am am' own : List Term) → IsKnown s → 1 ≤ a → part < length (piece_at s.atoms.pieces p)
    → IsSplit (part_of s.atoms p part) (next_atom s.atoms) (next_atom s.atoms + 1) am am'
    → IsKeySum (unknowns a (piece_at (cut_at p part s.atoms).pieces (length s.atoms.pieces))) own
    → cut_fits s.atoms.agents a (form_of s.atoms am) (take part (parts_at s p)) (name_of s.atoms.olds (part_of s.atoms p part)) (way_of s)
    ≡ sub_fits s.atoms.agents (cake_of (cut_at p part s.atoms).olds) (form_of (cut_at p part s.atoms) own) (form_of (cut_at p part s.atoms) am')
fits_alike s a p part am am' own k one q sp so =
    let v = s.atoms in
    let w = cut_at p part v in
    let held : Form = piece_form a (take part (parts_at s p) ++ left_of (name_of v.olds (part_of v p part)) ∷ []) in
    ap (λ (c : Cake). sub_fits v.agents c held (form_of v am)) (sym (cake_put ([] ∷ []) Atom v.olds (part_of v p part)))
    ∙ sub_fits_same v.agents (cake_of w.olds) held (form_of w own) (form_of v am) (form_of w am') (own_same s a p part am am' own k one q sp so) (split_same v p part am am' k.numbering q sp)

pub cut_to :
    (s t : Known) (a p part : ℕ) (am am' own : List Term) (rs : List (List Term)) (cs : List held.Condition)
    → IsKnown s → 1 ≤ a → part < length (piece_at s.atoms.pieces p) → IsNotGiven p s.gifts
    → AllSplit (part_of s.atoms p part) (next_atom s.atoms) (next_atom s.atoms + 1) s.regs rs
    → ConditionsSplit (part_of s.atoms p part) (next_atom s.atoms) (next_atom s.atoms + 1) s.conditions cs
    → IsSplit (part_of s.atoms p part) (next_atom s.atoms) (next_atom s.atoms + 1) am am'
    → IsKeySum (unknowns a (piece_at (cut_at p part s.atoms).pieces (length s.atoms.pieces))) own
    → PassedTo Zero own am' choice.Go (halved_spot s p part rs cs) t
    → CutTo a p part am s (record t { queries = s.queries + 1 })
cut_to s t a p part am am' own rs cs k one q m sr sc sp so d =
    let v = s.atoms in
    let w = cut_at p part v in
    let old = part_of v p part in
    let A : Address = name_of v.olds old in
    let ps : List (List Address) = addresses_of v in
    let P : List Address = parts_at s p in
    let before : List Address = take part P in
    let after : List Address = drop (part + 1) P in
    let f : Form = form_of v am in
    let way : Way = way_of s in
    let c : Way = cut_way a p f before A after way in
    let len = map_length (name_of v.olds) v.pieces in
    let h : AreGifts (length ps) s.gifts = subst (λ (z : ℕ). AreGifts z s.gifts) (sym len) k.gifts in
    let own_held = own_same s a p part am am' own k one q sp so in
    let diff : Form = sub_form (form_of w own) (form_of w am') in
    let firsts : List Condition = first_conditions v.agents in
    let conds : List Condition = (firsts ++ map (condition_of w) cs) ++ record { kind = Zero; form = diff } ∷ [] in
    let cake : cake_of w.olds ≡ halved A way.cake = cake_put ([] ∷ []) Atom v.olds old in
    let held : Form = piece_form a (before ++ left_of A ∷ []) in
    let same_conds : SameConditions (cake_of w.olds) c.conditions conds =
    conditions_put (cake_of w.olds) (firsts ++ map (condition_of v) s.conditions) (firsts ++ map (condition_of w) cs) Zero (sub_form held f) diff
    (conditions_split v p part firsts s.conditions cs k.numbering q sc) (same_sub (cake_of w.olds) held (form_of w own) f (form_of w am') own_held (split_same v p part am am' k.numbering q sp)) in
    let regs : SameForms (cake_of w.olds) (regs_of s) (map (form_of w) rs) = forms_split v p part s.regs rs k.numbering q sr in
    let e = addresses_cut v p part k.numbering q in
    let W : List (List Address) = without_gifts ps s.gifts in
    let long : part ≤ length P = (let l = length_map (name_of v.olds) (piece_at v.pieces p) in omega (arith, l, q)) in
    let ways : record (test_way Zero diff choice.Go (way_of (halved_spot s p part rs cs))) { queries = s.queries + 1 } ≡ record c { conditions = conds; cuts = [] } = λ i. record {
      pieces = (ap (λ (xs : List (List Address)). without_gifts xs s.gifts) e ∙ without_cut ps ((before ++ left_of A ∷ []) ∷ (right_of A ∷ after) ∷ []) s.gifts p h) i;
      shares = (ap (λ (xs : List (List Address)). with_gifts xs (replicate v.agents []) s.gifts) e
          ∙ shares_same (cut_pieces ps p (before ++ left_of A ∷ []) (right_of A ∷ after)) ps (replicate v.agents []) s.gifts (same_cut ps ((before ++ left_of A ∷ []) ∷ (right_of A ∷ after) ∷ []) s.gifts p h m)) i;
      cake = cake i;
      conditions = conds;
      queries = s.queries + 1;
      cuts = [];
      trace = (append_assoc s.trace (replicate part choice.No) (choice.Go ∷ []) ∙ ap (λ (x : List Choice). s.trace ++ x) (sym (passed_before part P long))) i;
    } in
    record {
      piece = not_given ps s.gifts p m ∙ piece_map (name_of v.olds) v.pieces p ∙ by_part (name_of v.olds) (piece_at v.pieces p) part q;
      fit = fits_alike s a p part am am' own k one q sp so ∙ d.fit;
      same_regs = subst (SameForms c.cake (regs_of s)) (sym d.regs) (subst (λ (x : Cake). SameForms x (regs_of s) (map (form_of w) rs)) cake regs);
      same_conditions = subst (SameConditions c.cake c.conditions) (sym (ap (λ (x : Way). x.conditions) d.way)) (subst (λ (x : Cake). SameConditions x c.conditions conds) cake same_conds);
      way = ap (λ (x : Way). record x { queries = s.queries + 1 }) d.way ∙ ways ∙ ap (λ (xs : List Condition). record c { conditions = xs; cuts = [] }) (sym (ap (λ (x : Way). x.conditions) d.way));
      comes = λ n next.
          (ap (λ (fs : List Form). events n next fs (record (way_of t) { queries = s.queries + 1 })) d.regs
          ∙ ap (λ (x : Way). events n next (map (form_of w) rs) (record x { queries = s.queries + 1 })) d.way
          ∙ ap (events n next (map (form_of w) rs)) ways
          ∙ sym (depends n next (regs_of s) (map (form_of w) rs) c conds []
          (subst (λ (x : Cake). SameForms x (regs_of s) (map (form_of w) rs)) cake regs) (subst (λ (x : Cake). SameConditions x c.conditions conds) cake same_conds)));
      known = record { numbering = d.known.numbering; regs = d.known.regs; conditions = d.known.conditions; gifts = d.known.gifts; owners = d.known.owners };
    }
  where
    length_map : (f : ℕ → Address) (xs : List ℕ) → length (map f xs) ≡ length xs
    length_map f [] = refl
    length_map f (x ∷ xs) = ap suc (length_map f xs)

-- what is known as the answer's condition is told
pub record Answering (s s1 s2 : Known) (a p part left : ℕ) (am am' own : List Term) : Type 0 where
  pub known : IsKnown s
  pub first : 1 ≤ a
  pub last : a ≤ s.atoms.agents
  pub there : part < length (piece_at s.atoms.pieces p)
  pub not_held : IsNotGiven p s.gifts
  pub over : IsOver s am
  pub halved : HalvedTo p part s s1
  pub split : IsSplit (part_of s.atoms p part) (next_atom s.atoms) (next_atom s.atoms + 1) am am'
  pub is_left : left ≡ length s.atoms.pieces
  pub own_form : IsKeySum (unknowns a (piece_at s1.atoms.pieces left)) own
  pub skipped : s2 ≡ record s1 { trace = s1.trace ++ replicate part choice.No }

spot_is : (s s1 s2 : Known) (a p part left : ℕ) (am am' own : List Term) → Answering s s1 s2 a p part left am am' own → s2 ≡ halved_spot s p part s1.regs s1.conditions
spot_is s s1 s2 a p part left am am' own h = h.skipped ∙ ap (λ (k : Known). record k { trace = k.trace ++ replicate part choice.No; regs = s1.regs; conditions = s1.conditions }) h.halved.is

own_is : (s s1 s2 : Known) (a p part left : ℕ) (am am' own : List Term) → Answering s s1 s2 a p part left am am' own
    → IsKeySum (unknowns a (piece_at (cut_at p part s.atoms).pieces (length s.atoms.pieces))) own
own_is s s1 s2 a p part left am am' own h =
    subst (λ (n : ℕ). IsKeySum (unknowns a (piece_at (cut_at p part s.atoms).pieces n)) own) h.is_left
    (subst (λ (v : Numbering). IsKeySum (unknowns a (piece_at v.pieces left)) own) (ap (λ (k : Known). k.atoms) h.halved.is) h.own_form)

pub passed_now : (s s1 s2 t : Known) (a p part left : ℕ) (am am' own : List Term) → Answering s s1 s2 a p part left am am' own → IsPassed Zero own am' choice.Go s2 t
    → PassedTo Zero own am' choice.Go (halved_spot s p part s1.regs s1.conditions) t
passed_now s s1 s2 t a p part left am am' own h d =
    let v = s.atoms in
    let k = known_halved s p part s1.regs s1.conditions (s.trace ++ replicate part choice.No) h.known h.there h.halved.regs h.halved.conditions in
    let o = piece_within (cut_at p part v) v.agents a (length v.pieces) own (numbering_cut v p part h.known.numbering h.there) h.first h.last (own_is s s1 s2 a p part left am am' own h) in
    let w = split_within v v.agents p part am am' h.known.numbering h.there h.over h.split in
    subst (λ (x : Known). IsPassed Zero own am' choice.Go x t) (spot_is s s1 s2 a p part left am am' own h) d k o w

pub queries_kept : (s s1 s2 t : Known) (a p part left : ℕ) (am am' own : List Term) → Answering s s1 s2 a p part left am am' own → IsPassed Zero own am' choice.Go s2 t → t.queries ≡ s.queries
queries_kept s s1 s2 t a p part left am am' own h d = ap (λ (k : Way). k.queries) (passed_now s s1 s2 t a p part left am am' own h d).way

pub answered : (s s1 s2 t : Known) (a p part left : ℕ) (am am' own : List Term) → Answering s s1 s2 a p part left am am' own → IsPassed Zero own am' choice.Go s2 t
    → CutTo a p part am s (record t { queries = t.queries + 1 })
answered s s1 s2 t a p part left am am' own h d =
    subst (λ (n : ℕ). CutTo a p part am s (record t { queries = n + 1 })) (sym (queries_kept s s1 s2 t a p part left am am' own h d))
    (cut_to s t a p part am am' own s1.regs s1.conditions h.known h.first h.there h.not_held h.halved.regs h.halved.conditions h.split (own_is s s1 s2 a p part left am am' own h)
    (passed_now s s1 s2 t a p part left am am' own h d))

split_length : (old l r : ℕ) (xs zs : List (List Term)) → AllSplit old l r xs zs → length zs ≡ length xs
split_length old l r [] [] h = refl
split_length old l r (x ∷ xs) (z ∷ zs) h = ap suc (split_length old l r xs zs h.1)
split_length old l r [] (z ∷ zs) h = absurd h
split_length old l r (x ∷ xs) [] h = absurd h

pub answer_counted : (s s1 s2 t : Known) (a p part left : ℕ) (am am' own : List Term) → Answering s s1 s2 a p part left am am' own → tally_of t ≡ tally_of s2
    → tally_of (record t { queries = t.queries + 1 }) ≡ record (tally_of s) { pieces = length s.atoms.pieces + 2; cuts = length s.atoms.olds + 1; queries = s.queries + 1 }
answer_counted s s1 s2 t a p part left am am' own h e =
    let v = s.atoms in
    let old = part_of v p part in
    let regs = split_length old (next_atom v) (next_atom v + 1) s.regs s1.regs h.halved.regs in
    let f : tally_of s2 ≡ record (tally_of s) { pieces = length v.pieces + 2; cuts = length v.olds + 1 } = ap tally_of (spot_is s s1 s2 a p part left am am' own h)
    ∙ (λ i. record { agents = v.agents; pieces = cut_length v p part i; cuts = length-append v.olds (old ∷ []) i; regs = regs i; queries = s.queries; gifts = s.gifts }) in
    ap (λ (x : Tally). record x { queries = x.queries + 1 }) (e ∙ f)

pub not_answered : (s s1 s2 : Known) (a p part left : ℕ) (am am' own : List Term) → Answering s s1 s2 a p part left am am' own → IsNoDifference own am' s2 → IsNoCut a p part am s
not_answered s s1 s2 a p part left am am' own h d =
    let v = s.atoms in
    let k = known_halved s p part s1.regs s1.conditions (s.trace ++ replicate part choice.No) h.known h.there h.halved.regs h.halved.conditions in
    let own' = own_is s s1 s2 a p part left am am' own h in
    let o = piece_within (cut_at p part v) v.agents a (length v.pieces) own (numbering_cut v p part h.known.numbering h.there) h.first h.last own' in
    fits_alike s a p part am am' own h.known h.first h.there h.split own'
    ∙ subst (IsNoDifference own am') (spot_is s s1 s2 a p part left am am' own h) d k o
