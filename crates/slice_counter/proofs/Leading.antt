-- How a trail goes on, node by node.
use Rattle.std.proofs.Common.{◌≡◌, ◌∙◌, ℕ, ◌+◌, ◌≤◌, arith, refl, sym, ap, subst, List, [], ◌∷◌, ◌++◌, map, length}
use Rattle.std.proofs.lemmas.List.{map-append}
use Rattle.slice_num.specs.declared.choice.Choice.{Choice}
use Rattle.slice_core.specs.Sizes.{most_cuts}
use Rattle.slice_num.specs.Pieces.{piece_at, emptied, join_pieces}
use Rattle.slice_core.specs.Tree.{Tree, Ask, Set, Join, Give, End}
use Rattle.slice_core.specs.declared.node.Lin.{Lin}
use Rattle.slice_atoms.specs.Addresses.{Address, Cake, atom_count}
use Rattle.slice_atoms.specs.Counts.{over, all_of}
use Rattle.slice_atoms.specs.Forms.{piece_form}
use Rattle.slice_paths.specs.Places.{PassedCut, Way, ask_way, join_way, give_way, sum_form}
use Rattle.slice_paths.specs.Ways.{way_by}
use Rattle.slice_paths.proofs.Counts.{count_append, all_append, all_emptied, piece_map, emptied_map}
use Rattle.slice_counter.specs.Counter.{boundary}
use Rattle.slice_counter.specs.Marks.{atoms_before, parts_of, AreCut, Shows, LeadsTo, Tells}
use Rattle.slice_counter.specs.declared.trail.Trail.{Trail}

-- ---- nodes that make no choice
pub lead_ask : (end : Way) (a p r : ℕ) (next : Tree) (cs : List Choice) (t : Trail) → LeadsTo end (Ask a p r next) cs t → LeadsTo end next cs t
lead_ask end a p r next cs t h = record {
  regs = h.regs ++ piece_form a (piece_at h.way.pieces p) ∷ [];
  way = ask_way h.way;
  same = h.same;
  shows = let s = h.shows in record { pieces = s.pieces; marks = s.marks; atoms = s.atoms; cut = s.cut; counted = s.counted };
  few = h.few;
}

pub lead_set : (end : Way) (r : ℕ) (sum : Lin) (next : Tree) (cs : List Choice) (t : Trail) → LeadsTo end (Set r sum next) cs t → LeadsTo end next cs t
lead_set end r sum next cs t h = record { regs = h.regs ++ sum_form h.regs sum.terms ∷ []; way = h.way; same = h.same; shows = h.shows; few = h.few }

joined_map : {A B : Type 0} (f : A → B) (xs : List (List A)) (p q : ℕ) → join_pieces (map (map f) xs) p q ≡ map (map f) (join_pieces xs p q)
joined_map f xs p q =
    let one = emptied_map f xs p in
    let two = emptied_map f (emptied xs p) q in
    let first = piece_map f xs p in
    let second = piece_map f (emptied xs p) q in
    ap (λ ys. emptied ys q ++ (piece_at (map (map f) xs) p ++ piece_at ys q) ∷ []) one
    ∙ (ap (λ ys. ys ++ (piece_at (map (map f) xs) p ++ piece_at (map (map f) (emptied xs p)) q) ∷ []) two
    ∙ (ap (λ y. map (map f) (emptied (emptied xs p) q) ++ (y ++ piece_at (map (map f) (emptied xs p)) q) ∷ []) first
    ∙ (ap (λ y. map (map f) (emptied (emptied xs p) q) ++ (map f (piece_at xs p) ++ y) ∷ []) second
    ∙ (ap (λ y. map (map f) (emptied (emptied xs p) q) ++ y ∷ []) (sym (map-append f (piece_at xs p) (piece_at (emptied xs p) q)))
    ∙ sym (map-append (map f) (emptied (emptied xs p) q) ((piece_at xs p ++ piece_at (emptied xs p) q) ∷ []))))))

joined_count : (g : Address → ℕ) (xs : List (List Address)) (p q : ℕ) → all_of g (join_pieces xs p q) ≡ all_of g xs
joined_count g xs p q =
    let one = all_emptied g xs p in
    let two = all_emptied g (emptied xs p) q in
    let three = all_append g (emptied (emptied xs p) q) ((piece_at xs p ++ piece_at (emptied xs p) q) ∷ []) in
    let four = count_append g (piece_at xs p) (piece_at (emptied xs p) q) in
    omega (arith, one, two, three, four)

-- the same cuts of the same cake
same_cuts : (end : Way) (tree next : Tree) (cs : List Choice) (t u : Trail) (h : LeadsTo end tree cs t) (way : Way) → way_by next h.regs way cs ≡ end → way.cake ≡ h.way.cake → way.cuts ≡ h.way.cuts
    → u.cuts ≡ t.cuts → parts_of u ≡ map (map (atoms_before h.way.cake)) way.pieces → ((g : Address → ℕ) → all_of g way.pieces ≤ over h.way.cake g) → most_cuts next ≡ most_cuts tree → LeadsTo end next cs u
same_cuts end tree next cs t u h way same cake cuts marks pieces counted few =
    let s = h.shows in
    record {
      regs = h.regs;
      way = way;
      same = same;
      shows = record {
        pieces = pieces ∙ ap (λ (k : Cake). map (map (atoms_before k)) way.pieces) (sym cake);
        marks = ap (λ v. v.items) marks ∙ (s.marks ∙ (ap (λ (k : Cake). map (λ (d : PassedCut). record { part = d.part; left = boundary k d.address }) h.way.cuts) (sym cake) ∙ ap (map (λ (d : PassedCut). record { part = d.part; left = boundary way.cake d.address })) (sym cuts)));
        atoms = ap atom_count cake ∙ (s.atoms ∙ ap (λ v. 1 + length v.items) (sym marks));
        cut = subst (λ (k : Cake). AreCut k way.cuts) (sym cake) (subst (AreCut h.way.cake) (sym cuts) s.cut);
        counted = λ g. subst (λ (k : Cake). all_of g way.pieces ≤ over k g) (sym cake) (counted g);
      };
      few = subst (λ n. n + most_cuts next ≤ 64) (ap (λ v. length v.items) (sym marks)) (subst (λ n. length t.cuts.items + n ≤ 64) (sym few) h.few);
    }

pub lead_join : (end : Way) (p q r : ℕ) (next : Tree) (cs : List Choice) (t u : Trail) → LeadsTo end (Join p q r next) cs t → parts_of u ≡ join_pieces (parts_of t) p q → u.cuts ≡ t.cuts → LeadsTo end next cs u
lead_join end p q r next cs t u h is marks =
    let k = h.way in
    same_cuts end (Join p q r next) next cs t u h (join_way p q k) h.same refl refl marks
    (is ∙ (ap (λ ys. join_pieces ys p q) h.shows.pieces ∙ joined_map (atoms_before k.cake) k.pieces p q))
    (λ g. subst (λ n. n ≤ over k.cake g) (sym (joined_count g k.pieces p q)) (h.shows.counted g))
    refl

pub lead_give : (end : Way) (p a : ℕ) (next : Tree) (cs : List Choice) (t u : Trail) → LeadsTo end (Give p a next) cs t → parts_of u ≡ emptied (parts_of t) p → u.cuts ≡ t.cuts → LeadsTo end next cs u
lead_give end p a next cs t u h is marks =
    let k = h.way in
    same_cuts end (Give p a next) next cs t u h (give_way p a k) h.same refl refl marks
    (is ∙ (ap (λ ys. emptied ys p) h.shows.pieces ∙ emptied_map (atoms_before k.cake) k.pieces p))
    (λ g. let one = all_emptied g k.pieces p in let two = h.shows.counted g in omega (arith, one, two))
    refl

-- ---- the end, and tests
pub tells_here : (end w : Way) (t : Trail) (n : ℕ) → Shows w t → w ≡ end → length t.cuts.items + n ≤ 64 → Tells end t
tells_here end w t n s e few = subst (λ (k : Way). Tells k t) e (record { marks = s.marks; atoms = s.atoms; few = omega (arith, few) })

pub lead_end : (end : Way) (cs : List Choice) (t : Trail) → LeadsTo end End cs t → Tells end t
lead_end end cs t h = tells_here end h.way t 0 h.shows h.same h.few
