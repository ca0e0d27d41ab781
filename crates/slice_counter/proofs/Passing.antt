-- How a trail passes tests and cuts.
use Rattle.std.proofs.Common.{◌≡◌, ◌∙◌, ℕ, zero, ◌≤◌, arith, refl, sym, ap, subst, List, [], ◌∷◌, map, drop, Option, Some, None, true, false, Bool}
use Rattle.std.specs.Prelude.{option_map}
use Rattle.std.specs.List.{slice_get}
use Rattle.std.proofs.lemmas.Option.{slice_get-map}
use Rattle.slice_num.specs.declared.choice.Choice.{Choice}
use Rattle.slice_num.specs.declared.choice.Choice.TheVariants.{Low, High, Go, Yes, No}
use Rattle.slice_core.specs.Sizes.{most_cuts}
use Rattle.slice_num.specs.Pieces.{piece_at}
use Rattle.slice_core.specs.Tree.{Tree, Cut, Test}
use Rattle.slice_core.specs.declared.node.Lin.{Lin}
use Rattle.slice_atoms.specs.Addresses.{Address, Cake, atom_count}
use Rattle.slice_atoms.specs.Counts.{over, all_of}
use Rattle.slice_atoms.specs.Forms.{sub_form}
use Rattle.slice_paths.specs.Places.{PassedCut, Way, test_way, choose_way, sum_form, yes_kind, no_kind}
use Rattle.slice_paths.specs.Ways.{in_part}
use Rattle.slice_paths.proofs.Counts.{piece_map}
use Rattle.slice_counter.specs.Counter.{boundary}
use Rattle.slice_counter.specs.Marks.{atoms_before, parts_of, part_taken, arm_taken, AreCut, Shows, LeadsTo, Tells}
use Rattle.slice_counter.specs.declared.trail.Trail.{Trail}
use Rattle.slice_counter.proofs.Leading.{tells_here}
use Rattle.slice_counter.proofs.Taken.{going, in_part_past, in_part_none, at_cut_on}

-- ---- tests
shows_as : (k w : Way) (t : Trail) → Shows k t → w.pieces ≡ k.pieces → w.cake ≡ k.cake → w.cuts ≡ k.cuts → Shows w t
shows_as k w t s p c d = record {
  pieces = s.pieces ∙ (ap (λ (m : Cake). map (map (atoms_before m)) k.pieces) (sym c) ∙ ap (map (map (atoms_before w.cake))) (sym p));
  marks = s.marks ∙ (ap (λ (m : Cake). map (λ (e : PassedCut). record { part = e.part; left = boundary m e.address }) k.cuts) (sym c) ∙ ap (map (λ (e : PassedCut). record { part = e.part; left = boundary w.cake e.address })) (sym d));
  atoms = ap atom_count c ∙ s.atoms;
  cut = subst (λ (m : Cake). AreCut m w.cuts) (sym c) (subst (AreCut k.cake) (sym d) s.cut);
  counted = λ g. subst (λ (m : Cake). all_of g w.pieces ≤ over m g) (sym c) (subst (λ (ps : List (List Address)). all_of g ps ≤ over k.cake g) (sym p) (s.counted g));
}

pub lead_yes : (end : Way) (l r : Lin) (strict : Bool) (y n : Tree) (cs : List Choice) (t : Trail) → arm_taken cs ≡ Some true → LeadsTo end (Test l r strict y n) cs t → LeadsTo end y (drop 1 cs) t
lead_yes end l r strict y n [] t e h = let z : None ≡ Some true = e in cc
lead_yes end l r strict y n (Low ∷ cs) t e h = let z : None ≡ Some true = e in cc
lead_yes end l r strict y n (High ∷ cs) t e h = let z : None ≡ Some true = e in cc
lead_yes end l r strict y n (Go ∷ cs) t e h = let z : None ≡ Some true = e in cc
lead_yes end l r strict y n (No ∷ cs) t e h = let z : Some false ≡ Some true = e in cc
lead_yes end l r strict y n (Yes ∷ cs) t e h =
    let w = test_way (yes_kind strict) (sub_form (sum_form h.regs l.terms) (sum_form h.regs r.terms)) Yes h.way in
    record { regs = h.regs; way = w; same = h.same; shows = shows_as h.way w t h.shows refl refl refl; few = let f = h.few in omega (arith, f) }

pub lead_no : (end : Way) (l r : Lin) (strict : Bool) (y n : Tree) (cs : List Choice) (t : Trail) → arm_taken cs ≡ Some false → LeadsTo end (Test l r strict y n) cs t → LeadsTo end n (drop 1 cs) t
lead_no end l r strict y n [] t e h = let z : None ≡ Some false = e in cc
lead_no end l r strict y n (Low ∷ cs) t e h = let z : None ≡ Some false = e in cc
lead_no end l r strict y n (High ∷ cs) t e h = let z : None ≡ Some false = e in cc
lead_no end l r strict y n (Go ∷ cs) t e h = let z : None ≡ Some false = e in cc
lead_no end l r strict y n (Yes ∷ cs) t e h = let z : Some true ≡ Some false = e in cc
lead_no end l r strict y n (No ∷ cs) t e h =
    let w = test_way (no_kind strict) (sub_form (sum_form h.regs r.terms) (sum_form h.regs l.terms)) No h.way in
    record { regs = h.regs; way = w; same = h.same; shows = shows_as h.way w t h.shows refl refl refl; few = let f = h.few in omega (arith, f) }

pub test_ends : (end : Way) (l r : Lin) (strict : Bool) (y n : Tree) (cs : List Choice) (t : Trail) → arm_taken cs ≡ None → LeadsTo end (Test l r strict y n) cs t → Tells end t
test_ends end l r strict y n [] t e h = tells_here end h.way t (most_cuts (Test l r strict y n)) h.shows h.same h.few
test_ends end l r strict y n (Low ∷ cs) t e h = tells_here end h.way t (most_cuts (Test l r strict y n)) h.shows h.same h.few
test_ends end l r strict y n (High ∷ cs) t e h = tells_here end h.way t (most_cuts (Test l r strict y n)) h.shows h.same h.few
test_ends end l r strict y n (Go ∷ cs) t e h = tells_here end h.way t (most_cuts (Test l r strict y n)) h.shows h.same h.few
test_ends end l r strict y n (Yes ∷ cs) t e h = let z : Some true ≡ None = e in cc
test_ends end l r strict y n (No ∷ cs) t e h = let z : Some false ≡ None = e in cc

-- ---- cuts that aren't passed
pub cut_ends : (end : Way) (a p : ℕ) (amount : Lin) (l r : ℕ) (next : Tree) (cs : List Choice) (t : Trail) → part_taken cs ≡ None → LeadsTo end (Cut a p amount l r next) cs t → Tells end t
cut_ends end a p amount l r next (Low ∷ cs) t e h = tells_here end (choose_way (Low ∷ []) h.way) t (most_cuts (Cut a p amount l r next)) (shows_as h.way _ t h.shows refl refl refl) h.same h.few
cut_ends end a p amount l r next (High ∷ cs) t e h = tells_here end (choose_way (High ∷ []) h.way) t (most_cuts (Cut a p amount l r next)) (shows_as h.way _ t h.shows refl refl refl) h.same h.few
cut_ends end a p amount l r next [] t e h = tells_here end h.way t (most_cuts (Cut a p amount l r next)) h.shows (sym (in_part_none (going a p (sum_form h.regs amount.terms) next h.regs h.way) h.way [] (piece_at h.way.pieces p) [] e) ∙ h.same) h.few
cut_ends end a p amount l r next (Go ∷ cs) t e h = let z : Some zero ≡ None = e in cc
cut_ends end a p amount l r next (Yes ∷ cs) t e h = tells_here end h.way t (most_cuts (Cut a p amount l r next)) h.shows (sym (in_part_none (going a p (sum_form h.regs amount.terms) next h.regs h.way) h.way [] (piece_at h.way.pieces p) (Yes ∷ cs) e) ∙ h.same) h.few
cut_ends end a p amount l r next (No ∷ cs) t e h = tells_here end h.way t (most_cuts (Cut a p amount l r next)) h.shows (sym (in_part_none (going a p (sum_form h.regs amount.terms) next h.regs h.way) h.way [] (piece_at h.way.pieces p) (No ∷ cs) e) ∙ h.same) h.few

no_more : {A B : Type 0} (f : A → B) (o : Option A) → option_map f o ≡ None → o ≡ None
no_more f None e = refl
no_more f (Some x) e = let z : Some (f x) ≡ None = e in cc

pub cut_past : (end : Way) (a p : ℕ) (amount : Lin) (l r : ℕ) (next : Tree) (cs : List Choice) (t : Trail) (part : ℕ) → part_taken cs ≡ Some part → slice_get (piece_at (parts_of t) p) part ≡ None → LeadsTo end (Cut a p amount l r next) cs t → Tells end t
cut_past end a p amount l r next cs t part e none h =
    let k = h.way in
    let ps = piece_at k.pieces p in
    let f = atoms_before k.cake in
    let here : piece_at (parts_of t) p ≡ map f ps = ap (λ (xs : List (List ℕ)). piece_at xs p) h.shows.pieces ∙ piece_map f k.pieces p in
    let gone : slice_get ps part ≡ None = no_more f (slice_get ps part) (sym (slice_get-map f ps part) ∙ (ap (λ (xs : List ℕ). slice_get xs part) (sym here) ∙ none)) in
    tells_here end k t (most_cuts (Cut a p amount l r next)) h.shows (sym (in_part_past (going a p (sum_form h.regs amount.terms) next h.regs k) k [] ps cs part e gone) ∙ (sym (at_cut_on (in_part (going a p (sum_form h.regs amount.terms) next h.regs k) k [] ps) k cs part e) ∙ h.same)) h.few
