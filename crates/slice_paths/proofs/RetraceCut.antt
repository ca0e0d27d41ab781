-- A cut that is answered once more stands at the way behind it.
use Rattle.std.proofs.Common.{◌≡◌, ◌∙◌, ℕ, zero, suc, ◌+◌, ◌<◌, ◌≤◌, arith, refl, sym, ap, true, List, [], ◌∷◌, ◌++◌, length, take, drop, append_assoc}
use Rattle.std.specs.Prelude.{Option, Some, None}
use Rattle.std.proofs.lemmas.List.{append-nil, length-map}
use Rattle.slice_num.specs.declared.choice.Choice.{Choice}
use Rattle.slice_num.specs.declared.choice.Choice.TheVariants.{Low, High, Go, Yes, No}
use Rattle.slice_num.specs.Pieces.{piece_at, each_part}
use Rattle.slice_core.specs.Tree.{Tree, Cut}
use Rattle.slice_core.specs.declared.node.Lin.{Lin}
use Rattle.slice_linear.specs.declared.forms.Term.{Term}
use Rattle.slice_linear.specs.declared.row.RowKind.TheVariants.{Zero}
use Rattle.slice_atoms.specs.Addresses.{Address, halved, left_of}
use Rattle.slice_atoms.specs.Forms.{Form, piece_form, sub_form}
use Rattle.slice_atoms.specs.Numbers.{name_of, part_of}
use Rattle.slice_paths.specs.Ahead.{ahead_of, left_at, parts_from}
use Rattle.slice_paths.specs.Events.{Event, events, where_fit, cut_fits}
use Rattle.slice_paths.specs.Fronts.{answered_in, way_behind, events_behind}
use Rattle.slice_paths.specs.Places.{Condition, PassedCut, Way, sum_form, cut_way}
use Rattle.slice_paths.specs.Retraced.{part_in, one_more, way_with, StandsAt, Strode}
use Rattle.slice_paths.specs.Same.{SameAt}
use Rattle.slice_paths.specs.Spots.{Known, form_of, regs_of, way_of}
use Rattle.slice_paths.specs.Steps.{IsKnown, CutTo, parts_at, answer_way}
use Rattle.slice_paths.specs.Sums.{SumMeans}
use Rattle.slice_paths.specs.declared.frames.Frame.{Frame}
use Rattle.slice_paths.proofs.Depends.{depends, same_self, same_sub, same_halved, conditions_put, forms_halved, conditions_halved, sub_fits_same, each_part_same}
use Rattle.slice_paths.proofs.RetraceLaws.{forms_turn, forms_on, conditions_turn, conditions_on, stands_by, side_same}
use Rattle.slice_paths.proofs.StreamLaws.{ahead_put}

plus_one : (i : ℕ) → suc i + 1 ≡ suc (i + 1)
plus_one i = omega arith

-- ---- choices that answer a cut
some_suc : (m : ℕ) (o : Option ℕ) (i : ℕ) → o ≡ Some m → one_more o ≡ Some i → i ≡ suc m
some_suc m o i e f = number (sym (ap one_more e) ∙ f)
  where
    value : Option ℕ → ℕ
    value None = 0
    value (Some x) = x

    number : Some (suc m) ≡ Some i → i ≡ suc m
    number g = sym (ap value g)

-- a part is skipped
answered_no : {R : Type 0} (go : List Address → Address → List Address → List Choice → R) (other : R) (pre before : List Address) (A : Address) (after : List Address) (parts : ℕ) (cs : List Choice) (o : Option ℕ)
    → part_in parts cs ≡ o → length (before ++ A ∷ after) ≡ suc parts → one_more (part_in parts cs) ≡ Some (length before)
    → ((x : Address) (b : List Address) → length (b ++ A ∷ after) ≡ parts → part_in parts cs ≡ Some (length b) → answered_in go other (pre ++ x ∷ []) (b ++ A ∷ after) cs ≡ go ((pre ++ x ∷ []) ++ b) A after (drop (length b + 1) cs))
    → answered_in go other pre (before ++ A ∷ after) (No ∷ cs) ≡ go (pre ++ before) A after (drop (length before + 1) (No ∷ cs))
answered_no go other pre before A after parts cs None p k f on = absurd (none_is (length before) (sym (ap one_more p) ∙ f))
  where
    none_is : (i : ℕ) → None ≡ Some i → ⊥
    none_is i g = cc
answered_no go other pre [] A after parts cs (Some m) p k f on = absurd (let g = some_suc m (part_in parts cs) 0 p f in omega (arith, g))
answered_no go other pre (x ∷ b) A after parts cs (Some m) p k f on =
    let g = some_suc m (part_in parts cs) (length (x ∷ b)) p f in
    let same : m ≡ length b = omega (arith, g) in
    on x b (omega (arith, k)) (p ∙ ap Some same)
    ∙ ap (λ (y : List Address). go y A after (drop (length b + 1) cs)) (append_assoc pre (x ∷ []) b)
    ∙ ap (λ (i : ℕ). go (pre ++ x ∷ b) A after (drop i (No ∷ cs))) (sym (plus_one (length b)))

-- the part that they name is the one that is taken
pub answered : {R : Type 0} (go : List Address → Address → List Address → List Choice → R) (other : R) (pre before : List Address) (A : Address) (after : List Address) (parts : ℕ) (cs : List Choice)
    → length (before ++ A ∷ after) ≡ parts → part_in parts cs ≡ Some (length before) → answered_in go other pre (before ++ A ∷ after) cs ≡ go (pre ++ before) A after (drop (length before + 1) cs)
answered go other pre before A after zero cs l e = absurd cc
answered go other pre before A after (suc parts) [] l e = absurd cc
answered go other pre before A after (suc parts) (Low ∷ cs) l e = absurd cc
answered go other pre before A after (suc parts) (High ∷ cs) l e = absurd cc
answered go other pre before A after (suc parts) (Yes ∷ cs) l e = absurd cc
answered go other pre [] A after (suc parts) (Go ∷ cs) l e = ap (λ (b : List Address). go b A after cs) (sym (append-nil pre))
answered go other pre (x ∷ before) A after (suc parts) (Go ∷ cs) l e = absurd cc
answered go other pre before A after (suc parts) (No ∷ cs) l e =
    answered_no go other pre before A after parts cs (part_in parts cs) refl l e (λ x b m k. answered go other (pre ++ x ∷ []) b A after parts cs m k)

-- there are more choices than parts that they skip
pub choices_long : (parts : ℕ) (cs : List Choice) (i : ℕ) → part_in parts cs ≡ Some i → i + 1 ≤ length cs
choices_long zero cs i e = absurd cc
choices_long (suc parts) [] i e = absurd cc
choices_long (suc parts) (Low ∷ cs) i e = absurd cc
choices_long (suc parts) (High ∷ cs) i e = absurd cc
choices_long (suc parts) (Yes ∷ cs) i e = absurd cc
choices_long (suc parts) (Go ∷ cs) i e = let f : 0 ≡ i = value e in omega (arith, f)
  where
    value : Some 0 ≡ Some i → 0 ≡ i
    value g = cc
choices_long (suc parts) (No ∷ cs) i e = longer (part_in parts cs) refl (λ m. choices_long parts cs m)
  where
    longer : (o : Option ℕ) → part_in parts cs ≡ o → ((m : ℕ) → part_in parts cs ≡ Some m → m + 1 ≤ length cs) → i + 1 ≤ length (No ∷ cs)
    longer None p on = absurd (none_is (sym (ap one_more p) ∙ e))
      where
        none_is : None ≡ Some i → ⊥
        none_is g = cc
    longer (Some m) p on = let g = some_suc m (part_in parts cs) i p e in let l = on m p in omega (arith, g, l)

-- where they name none, none is taken
pub unanswered : {R : Type 0} (go : List Address → Address → List Address → List Choice → R) (other : R) (pre after : List Address) (parts : ℕ) (cs : List Choice) → length after ≡ parts → part_in parts cs ≡ None → answered_in go other pre after cs ≡ other
unanswered go other pre [] parts [] l e = refl
unanswered go other pre [] parts (Low ∷ cs) l e = refl
unanswered go other pre [] parts (High ∷ cs) l e = refl
unanswered go other pre [] parts (Go ∷ cs) l e = refl
unanswered go other pre [] parts (Yes ∷ cs) l e = refl
unanswered go other pre [] parts (No ∷ cs) l e = refl
unanswered go other pre (A ∷ after) zero cs l e = absurd (omega (arith, l))
unanswered go other pre (A ∷ after) (suc parts) [] l e = refl
unanswered go other pre (A ∷ after) (suc parts) (Low ∷ cs) l e = refl
unanswered go other pre (A ∷ after) (suc parts) (High ∷ cs) l e = refl
unanswered go other pre (A ∷ after) (suc parts) (Go ∷ cs) l e = absurd cc
unanswered go other pre (A ∷ after) (suc parts) (Yes ∷ cs) l e = refl
unanswered go other pre (A ∷ after) (suc parts) (No ∷ cs) l e = unanswered go other (pre ++ A ∷ []) after parts cs (omega (arith, l)) (none (part_in parts cs) e)
  where
    none : (o : Option ℕ) → one_more o ≡ None → o ≡ None
    none None f = refl
    none (Some m) f = absurd cc

-- ---- parts of a list
split_front : {B : Type 0} (xs : List B) (x : B) (ys : List B) (i : ℕ) → i ≡ length xs → take (i + 1) (xs ++ x ∷ ys) ≡ xs ++ x ∷ []
split_front [] x ys zero e = refl
split_front [] x ys (suc i) e = absurd (omega (arith, e))
split_front (y ∷ xs) x ys zero e = absurd (omega (arith, e))
split_front (y ∷ xs) x ys (suc i) e = ap (λ (j : ℕ). take j (y ∷ (xs ++ x ∷ ys))) (plus_one i) ∙ ap (λ (zs : List _). y ∷ zs) (split_front xs x ys i (omega (arith, e)))

split_back : {B : Type 0} (xs : List B) (x : B) (ys : List B) (i : ℕ) → i ≡ length xs → drop (i + 1) (xs ++ x ∷ ys) ≡ ys
split_back [] x ys zero e = refl
split_back [] x ys (suc i) e = absurd (omega (arith, e))
split_back (y ∷ xs) x ys zero e = absurd (omega (arith, e))
split_back (y ∷ xs) x ys (suc i) e = ap (λ (j : ℕ). drop j (y ∷ (xs ++ x ∷ ys))) (plus_one i) ∙ split_back xs x ys i (omega (arith, e))

before_long : {B : Type 0} (xs : List B) (i : ℕ) → i < length xs → length (take i xs) ≡ i
before_long [] i b = absurd (omega (arith, b))
before_long (x ∷ xs) zero b = refl
before_long (x ∷ xs) (suc i) b = ap suc (before_long xs i (omega (arith, b)))

whole_long : {B : Type 0} (xs : List B) (x : B) (i : ℕ) → i < length xs → length (take i xs ++ x ∷ drop (i + 1) xs) ≡ length xs
whole_long [] x i b = absurd (omega (arith, b))
whole_long (y ∷ xs) x zero b = refl
whole_long (y ∷ xs) x (suc i) b = ap (λ (j : ℕ). length (take (suc i) (y ∷ xs) ++ x ∷ drop j (y ∷ xs))) (plus_one i) ∙ ap suc (whole_long xs x i (omega (arith, b)))

module _ (n a p l r : ℕ) (amount : Lin) (next : Tree) (s t : Known) (am : List Term) (part : ℕ) (known : IsKnown s) (means : SumMeans s.regs amount.terms am) (k : CutTo a p part am s t)
    (cs : List Choice) (old : List Frame) (fs : List Form) (ks : List Condition) (ds : List PassedCut) (at : StandsAt s fs ks) where
  abbrev W : Way
  W = way_of s

  abbrev made : Form
  made = form_of s.atoms am

  abbrev f : Form
  f = sum_form fs amount.terms

  abbrev before : List Address
  before = take part (parts_at s p)

  abbrev A : Address
  A = name_of s.atoms.olds (part_of s.atoms p part)

  abbrev after : List Address
  after = drop (part + 1) (parts_at s p)

  abbrev left : Form
  left = piece_form a (before ++ left_of A ∷ [])

  abbrev conditions_then : List Condition
  conditions_then = ks ++ record { kind = Zero; form = sub_form left f } ∷ []

  abbrev cuts_then : List PassedCut
  cuts_then = ds ++ record { part = length before; address = A } ∷ []

  abbrev V : Way
  V = way_with s ks ds

  same_amount : SameAt W.cake made f
  same_amount = side_same s fs amount am known means at.regs

  way_then : cut_way a p f before A after V ≡ way_with t conditions_then cuts_then
  way_then = ap (λ (x : Way). record x { conditions = conditions_then; cuts = cuts_then }) (sym k.way)

  stands : StandsAt t fs conditions_then
  stands =
      let q = halved A W.cake in
      stands_by t (record (answer_way a p part am s) { conditions = (way_of t).conditions; cuts = [] }) fs conditions_then k.way
      (forms_on q (regs_of t) (regs_of s) fs (forms_turn q (regs_of s) (regs_of t) k.same_regs) (forms_halved A W.cake (regs_of s) fs at.regs))
      (conditions_on q (way_of t).conditions (answer_way a p part am s).conditions conditions_then (conditions_turn q (answer_way a p part am s).conditions (way_of t).conditions k.same_conditions)
      (conditions_put q W.conditions ks Zero (sub_form left made) (sub_form left f) (conditions_halved A W.cake W.conditions ks at.conditions)
      (same_sub q left left made f (same_self q left) (same_halved A W.cake made f same_amount))))

  -- what follows an answer in a part, over the spot's forms and over these
  go_made : List Address → Address → List Address → List Event
  go_made b B c = where_fit (cut_fits n a made b B W) (events n next (regs_of s) (cut_way a p made b B c W))

  go_then : List Address → Address → List Address → List Event
  go_then b B c = where_fit (cut_fits n a f b B V) (events n next fs (cut_way a p f b B c V))

  part_same : (b : List Address) (B : Address) (c : List Address) → go_made b B c ≡ go_then b B c
  unfolding go_made go_then
  part_same b B c =
      let here = piece_form a (b ++ left_of B ∷ []) in
      let q = halved B W.cake in
      let e = same_halved B W.cake made f same_amount in
      let cond = conditions_put q W.conditions ks Zero (sub_form here made) (sub_form here f) (conditions_halved B W.cake W.conditions ks at.conditions) (same_sub q here here made f (same_self q here) e) in
      let d = depends n next (regs_of s) fs (cut_way a p made b B c W) (ks ++ record { kind = Zero; form = sub_form here f } ∷ []) (ds ++ record { part = length b; address = B } ∷ []) (forms_halved B W.cake (regs_of s) fs at.regs) cond in
      λ i. where_fit (sub_fits_same n q here here made f (same_self q here) e i) (d i)

  long : part < length (piece_at s.atoms.pieces p) → length before ≡ part
  long h = let e = length-map (piece_at s.atoms.pieces p) (name_of s.atoms.olds) in before_long (parts_at s p) part (omega (arith, e, h))

  parts_long : part < length (piece_at s.atoms.pieces p) → length (before ++ A ∷ after) ≡ length (piece_at s.atoms.pieces p)
  parts_long h = let e = length-map (piece_at s.atoms.pieces p) (name_of s.atoms.olds) in whole_long (parts_at s p) A part (omega (arith, e, h)) ∙ e

  -- what the frame of the later parts has ahead
  later_same : part < length (piece_at s.atoms.pieces p) → parts_from n a p made (part + 1) next (regs_of s) W ≡ each_part (before ++ A ∷ []) after go_then
  unfolding go_made
  later_same h =
      let e = long h in
      ap (λ (ps : List Address). each_part (take (part + 1) ps) (drop (part + 1) ps) go_made) k.piece
      ∙ (λ i. each_part (split_front before A after part (sym e) i) (split_back before A after part (sym e) i) go_made)
      ∙ each_part_same go_made go_then part_same (before ++ A ∷ []) after

  pub cut_strode : (new : List Frame) (behind : Frame) → part < length (piece_at s.atoms.pieces p) → part_in (length (piece_at s.atoms.pieces p)) cs ≡ Some part
      → new ≡ old ++ behind ∷ [] → left_at n behind.rest behind.spot ≡ parts_from n a p made (part + 1) next (regs_of s) W
      → Strode n (Cut a p amount l r next) s cs (drop (part + 1) cs) next t true old new fs ks ds
  unfolding go_then
  cut_strode new behind there taken put is =
      let e = long there in
      let many : length (before ++ A ∷ after) ≡ length (piece_at s.atoms.pieces p) = parts_long there in
      let named : part_in (length (piece_at s.atoms.pieces p)) cs ≡ Some (length before) = taken ∙ ap Some (sym e) in
      let rest_is : drop (length before + 1) cs ≡ drop (part + 1) cs = ap (λ (i : ℕ). drop (i + 1) cs) e in
      record {
        regs = fs;
        conditions = conditions_then;
        cuts = cuts_then;
        more = each_part (before ++ A ∷ []) after go_then;
        stands = stands;
        same_way = λ m.
            (let go : List Address → Address → List Address → List Choice → Option Way = λ b B c. way_behind m next fs (cut_way a p f b B c V) in
            ap (λ (ps : List Address). answered_in go None [] ps cs) k.piece
            ∙ answered go None [] before A after (length (piece_at s.atoms.pieces p)) cs many named
            ∙ (λ i. way_behind m next fs (way_then i) (rest_is i)));
        same_behind = λ m.
            (let go : List Address → Address → List Address → List Choice → List Event = λ b B c xs. events_behind n m next fs (cut_way a p f b B c V) xs ++ each_part (b ++ B ∷ []) c go_then in
            ap (λ (ps : List Address). answered_in go [] [] ps cs) k.piece
            ∙ answered go [] [] before A after (length (piece_at s.atoms.pieces p)) cs many named
            ∙ (λ i. events_behind n m next fs (way_then i) (rest_is i) ++ each_part (before ++ A ∷ []) after go_then));
        ahead = ap (λ (gs : List Frame). ahead_of n gs []) put ∙ ahead_put n old behind [] ∙ ap (λ (es : List Event). es ++ ahead_of n old []) (is ∙ later_same there);
      }
