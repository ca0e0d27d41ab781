-- What a cut that is met comes to, part by part.
use Rattle.std.proofs.Common.{◌≡◌, ◌∙◌, ℕ, zero, suc, ◌+◌, ◌-◌, ◌*◌, ◌<◌, ◌≤◌, arith, refl, sym, ap, subst, List, [], ◌∷◌, ◌++◌, map, length, take, drop, get_or}
use Rattle.std.specs.Prelude.{◌^◌}
use Rattle.std.proofs.Math.ListN.{get_or-map}
use Rattle.std.proofs.lemmas.List.{drop_more, take_more, drop_all, append-nil, length-map, length-append}
use Rattle.slice_num.specs.Pieces.{piece_at, each_part}
use Rattle.slice_core.specs.Tree.{Tree, Cut}
use Rattle.slice_core.specs.declared.node.Lin.{Lin}
use Rattle.slice_linear.specs.declared.forms.FormFault.{FormFault}
use Rattle.slice_linear.specs.declared.forms.FormFault.TheVariants as form_fault
use Rattle.slice_linear.specs.declared.forms.Term.{Term}
use Rattle.slice_atoms.specs.Addresses.{Address, L, R, Cake, Atom, Halves, halved, atoms}
use Rattle.slice_atoms.specs.Forms.{Form}
use Rattle.slice_atoms.specs.Numbers.{Numbering, IsNumbering, name_of, name_in, halves, cake_from, cake_of, addresses_of, part_of, sum_over, sum_over_all}
use Rattle.slice_paths.specs.Ahead.{BreaksFirst, parts_from}
use Rattle.slice_paths.specs.Events.{Event, events, where_fit, sum_fits, cut_fits, low_goal, high_goal}
use Rattle.slice_paths.specs.Places.{sum_form, cut_way}
use Rattle.slice_paths.specs.Spots.{Known, tally_of, form_of, regs_of, way_of}
use Rattle.slice_paths.specs.Steps.{IsNotGiven, parts_at, CutTo, IsNoCut}
use Rattle.slice_paths.specs.Sums.{SumMeans, SumBreaks}
use Rattle.slice_paths.specs.Walking.{CanGo, Ready, CutReady, PartBreaks, WalkBreaks, steps, part_steps}
use Rattle.slice_paths.proofs.Counts.{piece_map}
use Rattle.slice_paths.proofs.GoLaws.{cuts, answers}
use Rattle.slice_paths.proofs.StepLaws.{not_given}
use Rattle.slice_paths.proofs.WalkSteps.{Armed, goes, breaks, breaks_before}

-- ---- how many parts a piece has
one : ℕ → ℕ
one m = 1

length_one : (xs : List ℕ) → length xs ≡ sum_over one xs
unfolding one
length_one [] = refl
length_one (x ∷ xs) = omega (arith, length_one xs)

in_all : (ps : List (List ℕ)) (p : ℕ) → sum_over one (piece_at ps p) ≤ sum_over_all one ps
in_all [] p = omega arith
in_all (x ∷ ps) zero = omega arith
in_all (x ∷ ps) (suc p) = omega (arith, in_all ps p)

one_more : (A : Address) (k : Cake) → length (atoms (halved A k)) ≤ length (atoms k) + 1
one_more [] Atom = omega arith
one_more [] (Halves l r) = omega arith
one_more (a ∷ A) Atom = omega arith
one_more (L ∷ A) (Halves l r) =
    omega (
      arith,
      one_more A l,
      length-append (map (λ (B : Address). L ∷ B) (atoms (halved A l))) (map (λ (B : Address). R ∷ B) (atoms r)),
      length-append (map (λ (B : Address). L ∷ B) (atoms l)) (map (λ (B : Address). R ∷ B) (atoms r)),
      length-map (atoms (halved A l)) (λ (B : Address). L ∷ B),
      length-map (atoms l) (λ (B : Address). L ∷ B),
    )
one_more (R ∷ A) (Halves l r) =
    omega (
      arith,
      one_more A r,
      length-append (map (λ (B : Address). L ∷ B) (atoms l)) (map (λ (B : Address). R ∷ B) (atoms (halved A r))),
      length-append (map (λ (B : Address). L ∷ B) (atoms l)) (map (λ (B : Address). R ∷ B) (atoms r)),
      length-map (atoms (halved A r)) (λ (B : Address). R ∷ B),
      length-map (atoms r) (λ (B : Address). R ∷ B),
    )

few_from : (names : List Address) (cake : Cake) (olds : List ℕ) → length (atoms (cake_from names cake olds)) ≤ length (atoms cake) + length olds
few_from names cake [] = omega arith
few_from names cake (old ∷ olds) =
    omega (arith, few_from (names ++ halves (name_in names old)) (halved (name_in names old) cake) olds, one_more (name_in names old) cake)

pub few_parts : (v : Numbering) (p : ℕ) → IsNumbering v → length (piece_at v.pieces p) ≤ length v.olds + 1
few_parts v p h =
    let many : length v.order ≡ length (atoms (cake_of v.olds)) = sym (length-map v.order (name_of v.olds)) ∙ ap (λ (xs : List Address). length xs) h.named in
    omega (arith, length_one (piece_at v.pieces p), in_all v.pieces p, h.held one, length_one v.order, many, few_from ([] ∷ []) Atom v.olds)

-- ---- the parts of the piece
-- the parts of a piece that was not given, on the way and by number
parts_held : (s : Known) (p : ℕ) → IsNotGiven p s.gifts → piece_at (way_of s).pieces p ≡ parts_at s p
parts_held s p g = not_given (addresses_of s.atoms) s.gifts p g ∙ piece_map (name_of s.atoms.olds) s.atoms.pieces p

-- what follows an answer in a part
pub here_from : ℕ → ℕ → ℕ → Form → ℕ → Tree → Known → List Event
here_from n a p amount part next s =
    where_fit (cut_fits n a amount (take part (parts_at s p)) (name_of s.atoms.olds (part_of s.atoms p part)) (way_of s))
    (events n next (regs_of s) (cut_way a p amount (take part (parts_at s p)) (name_of s.atoms.olds (part_of s.atoms p part)) (drop (part + 1) (parts_at s p)) (way_of s)))

each_next : {A R : Type 0} (xs : List A) (i : ℕ) (d x : A) (go : List A → A → List A → List R) → i < length xs → get_or xs i d ≡ x
    → each_part (take i xs) (drop i xs) go ≡ go (take i xs) x (drop (i + 1) xs) ++ each_part (take (i + 1) xs) (drop (i + 1) xs) go
each_next {A} xs i d x go l e =
    let cut : drop i xs ≡ x ∷ drop (i + 1) xs = drop_more xs i d l ∙ ap (λ (y : A). y ∷ drop (i + 1) xs) e in
    let more : take i xs ++ x ∷ [] ≡ take (i + 1) xs = sym (take_more xs i d l ∙ ap (λ (y : A). take i xs ++ y ∷ []) e) in
    ap (λ (ys : List A). each_part (take i xs) ys go) cut
    ∙ ap (λ (ys : List A). go (take i xs) x (drop (i + 1) xs) ++ each_part ys (drop (i + 1) xs) go) more

parts_next : (n a p : ℕ) (amount : Form) (part : ℕ) (next : Tree) (s : Known) → IsNotGiven p s.gifts → part < length (piece_at s.atoms.pieces p)
    → parts_from n a p amount part next (regs_of s) (way_of s) ≡ here_from n a p amount part next s ++ parts_from n a p amount (part + 1) next (regs_of s) (way_of s)
unfolding here_from
parts_next n a p amount part next s g l =
    let k = way_of s in
    let f = name_of s.atoms.olds in
    let ms = piece_at s.atoms.pieces p in
    let go : List Address → Address → List Address → List Event = λ before A after.
    where_fit (cut_fits n a amount before A k) (events n next (regs_of s) (cut_way a p amount before A after k)) in
    let held = parts_held s p g in
    let there : part < length (parts_at s p) = omega (arith, l, length-map ms f) in
    ap (λ (ps : List Address). each_part (take part ps) (drop part ps) go) held
    ∙ each_next (parts_at s p) part (f 0) (f (part_of s.atoms p part)) go there (get_or-map f ms part 0)
    ∙ ap (λ (ps : List Address). here_from n a p amount part next s ++ each_part (take (part + 1) ps) (drop (part + 1) ps) go) (sym held)

pub parts_end : (n a p : ℕ) (amount : Form) (part : ℕ) (next : Tree) (s : Known) → IsNotGiven p s.gifts → length (piece_at s.atoms.pieces p) ≤ part
    → parts_from n a p amount part next (regs_of s) (way_of s) ≡ []
parts_end n a p amount part next s g l =
    let k = way_of s in
    let go : List Address → Address → List Address → List Event = λ before A after.
    where_fit (cut_fits n a amount before A k) (events n next (regs_of s) (cut_way a p amount before A after k)) in
    let few : length (parts_at s p) ≤ part = omega (arith, l, length-map (piece_at s.atoms.pieces p) (name_of s.atoms.olds)) in
    ap (λ (ps : List Address). each_part (take part ps) (drop part ps) go) (parts_held s p g)
    ∙ ap (λ (ys : List Address). each_part (take part (parts_at s p)) ys go) (drop_all part (parts_at s p) few)

-- ---- a cut that is answered in a part
pub cut_armed : (n a p : ℕ) (amount : List Term) (part : ℕ) (next : Tree) (s t : Known) → CutReady n a p amount next s → CutTo a p part amount s t
    → tally_of t ≡ record (tally_of s) { pieces = length s.atoms.pieces + 2; cuts = length s.atoms.olds + 1; queries = s.queries + 1 }
    → Armed (here_from n a p (form_of s.atoms amount) part next s) n next t
unfolding here_from
cut_armed n a p amount part next s t h k e =
    let amount_form = form_of s.atoms amount in
    let before : List Address = take part (parts_at s p) in
    let at = name_of s.atoms.olds (part_of s.atoms p part) in
    let after : List Address = drop (part + 1) (parts_at s p) in
    record {
      comes =
          goes (cut_fits n a amount_form before at (way_of s)) (events n next (regs_of s) (cut_way a p amount_form before at after (way_of s)))
          (ap (λ (x : ℕ). cut_fits x a amount_form before at (way_of s)) (sym h.goes.agents_are) ∙ k.fit)
          ∙ sym (k.comes n next);
      ready = record { known = k.known; goes = subst (CanGo n next) (sym e) (answers n a p next (tally_of s) h.known.gifts h.goes) };
    }

pub part_breaks : (n a p : ℕ) (amount : List Term) (part : ℕ) (next : Tree) (s : Known) (fault : FormFault) → CutReady n a p amount next s → part < length (piece_at s.atoms.pieces p)
    → (fault ≡ form_fault.Overflow → IsNoCut a p part amount s) → PartBreaks n a p amount part next s fault
unfolding here_from
part_breaks n a p amount part next s fault h l none e =
    let amount_form = form_of s.atoms amount in
    let before : List Address = take part (parts_at s p) in
    let at = name_of s.atoms.olds (part_of s.atoms p part) in
    let after : List Address = drop (part + 1) (parts_at s p) in
    subst BreaksFirst (sym (parts_next n a p amount_form part next s (h.goes.held p h.goes.is_live) l))
    (breaks_before (here_from n a p amount_form part next s) (parts_from n a p amount_form (part + 1) next (regs_of s) (way_of s))
    (breaks (cut_fits n a amount_form before at (way_of s)) (events n next (regs_of s) (cut_way a p amount_form before at after (way_of s)))
    (ap (λ (x : ℕ). cut_fits x a amount_form before at (way_of s)) (sym h.goes.agents_are) ∙ none e)))

-- ---- the steps that are left
times_more : (k m : ℕ) → (k + 1) * m ≡ m + k * m
times_more k m = grind arith

part_more : (each part : ℕ) → part < 2 ^ 32 → part_steps each (2 ^ 32 - part) ≡ 1 + ((1 + each) + (2 ^ 32 - (part + 1)) * (1 + each))
part_more each part l =
    let one_less : 2 ^ 32 - part ≡ (2 ^ 32 - (part + 1)) + 1 = omega (arith, l) in
    ap (λ (x : ℕ). 1 + x * (1 + each)) one_less ∙ ap (λ (x : ℕ). 1 + x) (times_more (2 ^ 32 - (part + 1)) (1 + each))

-- ---- steps at a part
pub record LastPart (n a p : ℕ) (amount : List Term) (part : ℕ) (next : Tree) (s t : Known) : Type 0 where
  pub comes : parts_from n a p (form_of s.atoms amount) part next (regs_of s) (way_of s) ≡ events n next (regs_of t) (way_of t)
  pub ready : Ready n next t
  pub fewer : steps n next < part_steps (steps n next) (2 ^ 32 - part)

pub last_leads : (n a p : ℕ) (amount : List Term) (part : ℕ) (next : Tree) (s t : Known) → CutReady n a p amount next s → part < 2 ^ 32 → part + 1 ≡ length (piece_at s.atoms.pieces p) → CutTo a p part amount s t
    → tally_of t ≡ record (tally_of s) { pieces = length s.atoms.pieces + 2; cuts = length s.atoms.olds + 1; queries = s.queries + 1 } → LastPart n a p amount part next s t
last_leads n a p amount part next s t h fits last k e =
    let f = form_of s.atoms amount in
    let g = h.goes.held p h.goes.is_live in
    let armed = cut_armed n a p amount part next s t h k e in
    let behind = parts_end n a p f (part + 1) next s g (omega (arith, last)) in
    record {
      comes = parts_next n a p f part next s g (omega (arith, last)) ∙ (λ i. armed.comes i ++ behind i) ∙ append-nil (events n next (regs_of t) (way_of t));
      ready = armed.ready;
      fewer = omega (arith, part_more (steps n next) part fits);
    }

pub record EarlyPart (n a p : ℕ) (amount : List Term) (part : ℕ) (next : Tree) (s t : Known) : Type 0 where
  pub comes : parts_from n a p (form_of s.atoms amount) part next (regs_of s) (way_of s)
      ≡ events n next (regs_of t) (way_of t) ++ parts_from n a p (form_of s.atoms amount) (part + 1) next (regs_of s) (way_of s)
  pub ready : Ready n next t
  pub fewer : part_steps (steps n next) (2 ^ 32 - (part + 1)) + steps n next < part_steps (steps n next) (2 ^ 32 - part)

pub early_leads : (n a p : ℕ) (amount : List Term) (part : ℕ) (next : Tree) (s t : Known) → CutReady n a p amount next s → part < 2 ^ 32 → part + 1 < length (piece_at s.atoms.pieces p) → CutTo a p part amount s t
    → tally_of t ≡ record (tally_of s) { pieces = length s.atoms.pieces + 2; cuts = length s.atoms.olds + 1; queries = s.queries + 1 } → EarlyPart n a p amount part next s t
early_leads n a p amount part next s t h fits early k e =
    let f = form_of s.atoms amount in
    let g = h.goes.held p h.goes.is_live in
    let armed = cut_armed n a p amount part next s t h k e in
    record {
      comes = parts_next n a p f part next s g (omega (arith, early)) ∙ ap (λ (es : List Event). es ++ parts_from n a p f (part + 1) next (regs_of s) (way_of s)) armed.comes;
      ready = armed.ready;
      fewer = omega (arith, part_more (steps n next) part fits);
    }

-- ---- a cut that is met
pub record Met (a p : ℕ) (amount : Lin) (l r : ℕ) (next : Tree) (s : Known) (zs : List Term) : Type 0 where
  pub comes : events s.atoms.agents (Cut a p amount l r next) (regs_of s) (way_of s)
      ≡ low_goal s.atoms.agents (form_of s.atoms zs) (way_of s)
      ∷ high_goal s.atoms.agents a p (form_of s.atoms zs) (way_of s)
      ∷ parts_from s.atoms.agents a p (form_of s.atoms zs) 0 next (regs_of s) (way_of s)
  pub ready : CutReady s.atoms.agents a p zs next s

goals_at : ℕ → ℕ → ℕ → Tree → Known → Form → List Event
goals_at n a p next s f = low_goal n f (way_of s) ∷ high_goal n a p f (way_of s) ∷ parts_from n a p f 0 next (regs_of s) (way_of s)

pub met : (a p : ℕ) (amount : Lin) (l r l0 r0 : ℕ) (next : Tree) (s : Known) (zs : List Term) → Ready s.atoms.agents (Cut a p amount l0 r0 next) s → SumMeans s.regs amount.terms zs
    → Met a p amount l r next s zs
unfolding goals_at
met a p amount l r l0 r0 next s zs h m =
    let n = s.atoms.agents in
    let x = m s.atoms n h.known.numbering h.known.regs in
    record {
      comes =
          goes (sum_fits n (cake_of s.atoms.olds) (regs_of s) amount.terms) (goals_at n a p next s (sum_form (regs_of s) amount.terms)) x.1
          ∙ ap (goals_at n a p next s) (sym x.0.is);
      ready = record { known = h.known; over = x.0.within; goes = cuts n a p amount l0 r0 next (tally_of s) h.goes };
    }

pub cut_breaks : (a p : ℕ) (amount : Lin) (l r l0 r0 : ℕ) (next : Tree) (s : Known) (fault : FormFault) → Ready s.atoms.agents (Cut a p amount l0 r0 next) s
    → (fault ≡ form_fault.Overflow → SumBreaks s.regs amount.terms) → WalkBreaks s.atoms.agents (Cut a p amount l r next) s fault
unfolding goals_at
cut_breaks a p amount l r l0 r0 next s fault h broken e =
    let n = s.atoms.agents in
    breaks (sum_fits n (cake_of s.atoms.olds) (regs_of s) amount.terms) (goals_at n a p next s (sum_form (regs_of s) amount.terms)) (broken e s.atoms n h.known.numbering h.known.regs)

-- ---- from a copy of the spot
pub early_breaks : (n a p : ℕ) (amount : List Term) (part : ℕ) (next : Tree) (s copy : Known) (fault : FormFault) → copy ≡ s → CutReady n a p amount next s → part < length (piece_at s.atoms.pieces p)
    → (fault ≡ form_fault.Overflow → IsNoCut a p part amount copy) → PartBreaks n a p amount part next s fault
early_breaks n a p amount part next s copy fault same h l none = part_breaks n a p amount part next s fault h l (λ o. subst (IsNoCut a p part amount) same (none o))

pub early_from : (n a p : ℕ) (amount : List Term) (part : ℕ) (next : Tree) (s copy t : Known) → copy ≡ s → CutReady n a p amount next s → part < 2 ^ 32 → part + 1 < length (piece_at s.atoms.pieces p) → CutTo a p part amount copy t
    → tally_of t ≡ record (tally_of copy) { pieces = length copy.atoms.pieces + 2; cuts = length copy.atoms.olds + 1; queries = copy.queries + 1 } → EarlyPart n a p amount part next s t
early_from n a p amount part next s copy t same h fits early k e =
    early_leads n a p amount part next s t h fits early (subst (λ (x : Known). CutTo a p part amount x t) same k)
    (subst (λ (x : Known). tally_of t ≡ record (tally_of x) { pieces = length x.atoms.pieces + 2; cuts = length x.atoms.olds + 1; queries = x.queries + 1 }) same e)
