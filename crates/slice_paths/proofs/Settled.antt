-- The forms on a way have one coefficient on each atom of its cake: what a form is made from was there before.
use Rattle.std.proofs.Common.{◌≡◌, ℕ, zero, suc, refl, sym, ap, subst, Bool, true, false, List, [], ◌∷◌, ◌++◌, get_or, pos, ◌==◌}
use Rattle.std.specs.Prelude.{⊤, if◌then◌else◌, Option, Some, None}
use Rattle.std.specs.List.{All}
use Rattle.std.proofs.lemmas.List.Elements.{All-nil, All-cons}
use Rattle.slice_num.specs.Rational.{Rational, plus, minus, times, whole}
use Rattle.slice_num.specs.declared.choice.Choice.{Choice}
use Rattle.slice_num.specs.declared.choice.Choice.TheVariants.{Low, High, Go, Yes, No}
use Rattle.slice_num.specs.Pieces.{piece_at, emptied}
use Rattle.slice_core.specs.Tree.{Tree, Ask, Set, Cut, Join, Test, Give, End}
use Rattle.slice_core.specs.declared.node.LinTerm.{LinTerm}
use Rattle.slice_core.specs.declared.node.Source.{Source}
use Rattle.slice_core.specs.declared.node.Source.TheVariants.{Const, Reg}
use Rattle.slice_linear.specs.declared.row.RowKind.{RowKind}
use Rattle.slice_atoms.specs.Addresses.{L, R, Address, Cake, Atom, Halves, halved, left_of, right_of}
use Rattle.slice_atoms.specs.AtomLaws.{IsMade}
use Rattle.slice_atoms.specs.Forms.{Form, fixed_form, piece_form, add_form, sub_form, scale_form}
use Rattle.slice_atoms.proofs.AtomOrder.{prefixes_kept}
use Rattle.slice_atoms.proofs.PartCounts.{AllParts, AllPieces}
use Rattle.slice_paths.specs.Fronts.{way_behind}
use Rattle.slice_paths.specs.Places.{Condition, Way, source_form, scaled_form, added_form, term_form, terms_form, sum_form, yes_kind, no_kind, whole_condition, whole_conditions, first_way, ask_way, test_way, join_way, give_way, cut_way}
use Rattle.slice_paths.proofs.FrontLaws.{some_same, none_some, taken}
use Rattle.slice_paths.proofs.Later.{refines_halved, made_refined}
use Rattle.slice_paths.proofs.Parts.{contains_in, parts_all, pieces_all, piece_all, emptied_all, append_all, all_append_in}
use Rattle.slice_paths.proofs.Slots.{IsSettled, settled_finer}

-- ---- lists
abbrev pub Each : {A : Type 0} → (A → Type 0) → List A → Type 0
Each P [] = ⊤
Each P (x ∷ xs) = P x × Each P xs

each_put : {A : Type 0} (P : A → Type 0) (xs : List A) (x : A) → Each P xs → P x → Each P (xs ++ x ∷ [])
each_put P [] x h k = (k, tt)
each_put P (y ∷ xs) x h k = (h.0, each_put P xs x h.1 k)

each_map : {A : Type 0} (P Q : A → Type 0) → ((x : A) → P x → Q x) → (xs : List A) → Each P xs → Each Q xs
each_map P Q f [] h = tt
each_map P Q f (x ∷ xs) h = (f x h.0, each_map P Q f xs h.1)

all_of_parts : (P : Address → Type 0) (xs : List Address) → AllParts P xs → All P xs
all_of_parts P [] h = All-nil P
all_of_parts P (x ∷ xs) h = All-cons P x xs h.0 (all_of_parts P xs h.1)

pieces_append : (P : Address → Type 0) (xs ys : List (List Address)) → AllPieces P xs → AllPieces P ys → AllPieces P (xs ++ ys)
pieces_append P [] ys h k = k
pieces_append P (x ∷ xs) ys h k = (h.0, pieces_append P xs ys h.1 k)

-- the parts of what was made, after it was cut
halves_of_made : (k : Cake) (A : Address) → IsMade k A → IsMade (halved A k) (left_of A) × IsMade (halved A k) (right_of A)
halves_of_made Atom [] h = (tt, tt)
halves_of_made Atom (a ∷ A) h = absurd h
halves_of_made (Halves x y) [] h = (tt, tt)
halves_of_made (Halves x y) (L ∷ A) h = halves_of_made x A h
halves_of_made (Halves x y) (R ∷ A) h = halves_of_made y A h

-- ---- how forms are made
settled_fixed : (k : Cake) (c : Rational) → IsSettled k (fixed_form c)
settled_fixed k c a A B i = refl

settled_piece : (k : Cake) (a : ℕ) (parts : List Address) → AllParts (IsMade k) parts → IsSettled k (piece_form a parts)
settled_piece k a parts h b A B i = ap (λ (q : Rational). if b == a then q else whole (pos 0)) (prefixes_kept k A B parts (contains_in A _ i) (all_of_parts (IsMade k) parts h))

settled_add : (k : Cake) (f g : Form) → IsSettled k f → IsSettled k g → IsSettled k (add_form f g)
settled_add k f g s t a A B i = λ j. plus (s a A B i j) (t a A B i j)

settled_sub : (k : Cake) (f g : Form) → IsSettled k f → IsSettled k g → IsSettled k (sub_form f g)
settled_sub k f g s t a A B i = λ j. minus (s a A B i j) (t a A B i j)

settled_scale : (k : Cake) (c : Rational) (f : Form) → IsSettled k f → IsSettled k (scale_form c f)
settled_scale k c f s a A B i = ap (times c) (s a A B i)

module _ (k : Cake) (regs : List Form) (h : Each (IsSettled k) regs) where
  settled_at : (fs : List Form) → Each (IsSettled k) fs → (i : ℕ) → IsSettled k (get_or fs i (fixed_form (whole (pos 0))))
  settled_at [] g i = settled_fixed k (whole (pos 0))
  settled_at (f ∷ fs) g zero = g.0
  settled_at (f ∷ fs) g (suc i) = settled_at fs g.1 i

  settled_source : (x : Source) → IsSettled k (source_form regs x)
  settled_source (Const c) = settled_fixed k c
  settled_source (Reg i) = settled_at regs h i

  settled_scaled : (o : Option Rational) (f : Form) → IsSettled k f → IsSettled k (scaled_form o f)
  settled_scaled None f s = s
  settled_scaled (Some c) f s = settled_scale k c f s

  settled_added : (b : Bool) (f g : Form) → IsSettled k f → IsSettled k g → IsSettled k (added_form b f g)
  settled_added true f g s t = settled_sub k f g s t
  settled_added false f g s t = settled_add k f g s t

  settled_term : (x : LinTerm) → IsSettled k (term_form regs x)
  settled_term x = settled_scaled x.factor (source_form regs x.source) (settled_source x.source)

  settled_terms : (f : Form) (xs : List LinTerm) → IsSettled k f → IsSettled k (terms_form regs f xs)
  settled_terms f [] s = s
  settled_terms f (x ∷ xs) s = settled_terms (added_form x.minus f (term_form regs x)) xs (settled_added x.minus f (term_form regs x) s (settled_term x))

  settled_sum : (xs : List LinTerm) → IsSettled k (sum_form regs xs)
  settled_sum [] = settled_fixed k (whole (pos 0))
  settled_sum (x ∷ xs) = settled_terms (term_form regs x) xs (settled_term x)

-- ---- ways
abbrev pub AllSettled : Cake → List Condition → Type 0
AllSettled k ds = Each (λ (d : Condition). IsSettled k d.form) ds

-- all parts were made, and all forms are settled
pub record IsSound (k : Way) (regs : List Form) : Type 0 where
  pub pieces : AllPieces (IsMade k.cake) k.pieces
  pub forms : Each (IsSettled k.cake) regs
  pub conditions : AllSettled k.cake k.conditions

sound_register : (k : Way) (regs : List Form) (f : Form) → IsSound k regs → IsSettled k.cake f → IsSound k (regs ++ f ∷ [])
sound_register k regs f s t = record { pieces = s.pieces; forms = each_put (IsSettled k.cake) regs f s.forms t; conditions = s.conditions }

sound_ask : (k : Way) (regs : List Form) (a p : ℕ) → IsSound k regs → IsSound (ask_way k) (regs ++ piece_form a (piece_at k.pieces p) ∷ [])
sound_ask k regs a p s =
    let r = sound_register k regs (piece_form a (piece_at k.pieces p)) s (settled_piece k.cake a (piece_at k.pieces p) (piece_all (IsMade k.cake) k.pieces p s.pieces)) in
    record { pieces = r.pieces; forms = r.forms; conditions = r.conditions }

sound_join : (k : Way) (regs : List Form) (p q : ℕ) → IsSound k regs → IsSound (join_way p q k) regs
sound_join k regs p q s =
    let rest = emptied k.pieces p in
    let kept = emptied_all (IsMade k.cake) k.pieces p s.pieces in
    let both = all_append_in (IsMade k.cake) (piece_at k.pieces p) (piece_at rest q) (piece_all (IsMade k.cake) k.pieces p s.pieces) (piece_all (IsMade k.cake) rest q kept) in
    record {
      pieces = pieces_append (IsMade k.cake) (emptied rest q) ((piece_at k.pieces p ++ piece_at rest q) ∷ []) (emptied_all (IsMade k.cake) rest q kept) (both, tt);
      forms = s.forms;
      conditions = s.conditions;
    }

sound_give : (k : Way) (regs : List Form) (p a : ℕ) → IsSound k regs → IsSound (give_way p a k) regs
sound_give k regs p a s = record { pieces = emptied_all (IsMade k.cake) k.pieces p s.pieces; forms = s.forms; conditions = s.conditions }

sound_test : (k : Way) (regs : List Form) (kind : RowKind) (f g : Form) (c : Choice) → IsSound k regs → IsSettled k.cake f → IsSettled k.cake g → IsSound (test_way kind (sub_form f g) c k) regs
sound_test k regs kind f g c s t u =
    record { pieces = s.pieces; forms = s.forms; conditions = each_put (λ (d : Condition). IsSettled k.cake d.form) k.conditions _ s.conditions (settled_sub k.cake f g t u) }

sound_cut : (k : Way) (regs : List Form) (a p : ℕ) (f : Form) (before : List Address) (A : Address) (after : List Address) → before ++ A ∷ after ≡ piece_at k.pieces p → IsSound k regs → IsSettled k.cake f
    → IsSound (cut_way a p f before A after k) regs
sound_cut k regs a p f before A after parts s t = record {
  pieces = pieces_append (IsMade m) (emptied k.pieces p) ((before ++ left_of A ∷ []) ∷ (right_of A ∷ after) ∷ []) (pieces_all stays (emptied k.pieces p) (emptied_all (IsMade k.cake) k.pieces p s.pieces)) (left, (right, tt));
  forms = each_map (IsSettled k.cake) (IsSettled m) (settled_finer k.cake m (refines_halved A k.cake)) regs s.forms;
  conditions = each_put (λ (d : Condition). IsSettled m d.form) k.conditions _
      (each_map (λ (d : Condition). IsSettled k.cake d.form) (λ (d : Condition). IsSettled m d.form) (λ d. settled_finer k.cake m (refines_halved A k.cake) d.form) k.conditions s.conditions)
      (settled_sub m (piece_form a (before ++ left_of A ∷ [])) f (settled_piece m a (before ++ left_of A ∷ []) left) (settled_finer k.cake m (refines_halved A k.cake) f t));
}
  where
    m : Cake
    m = halved A k.cake

    stays : (B : Address) → IsMade k.cake B → IsMade m B
    stays B h = made_refined k.cake m B h (refines_halved A k.cake)

    made : AllParts (IsMade k.cake) before × AllParts (IsMade k.cake) (A ∷ after)
    made = append_all (IsMade k.cake) before (A ∷ after) (subst (AllParts (IsMade k.cake)) (sym parts) (piece_all (IsMade k.cake) k.pieces p s.pieces))

    halves : IsMade m (left_of A) × IsMade m (right_of A)
    halves = halves_of_made k.cake A made.1.0

    left : AllParts (IsMade m) (before ++ left_of A ∷ [])
    left = all_append_in (IsMade m) before (left_of A ∷ []) (parts_all stays before made.0) (halves.0, tt)

    right : AllParts (IsMade m) (right_of A ∷ after)
    right = (halves.1, parts_all stays after made.1.1)

whole_settled : (n : ℕ) → AllSettled Atom (whole_conditions n)
whole_settled zero = tt
whole_settled (suc n) =
    each_put (λ (d : Condition). IsSettled Atom d.form) (whole_conditions n) (whole_condition (suc n)) (whole_settled n)
    (settled_sub Atom (piece_form (suc n) ([] ∷ [])) (fixed_form (whole (pos 1))) (settled_piece Atom (suc n) ([] ∷ []) (tt, tt)) (settled_fixed Atom (whole (pos 1))))

pub first_sound : (n : ℕ) → IsSound (first_way n) []
first_sound n = record { pieces = ((tt, tt), tt); forms = tt; conditions = (settled_fixed Atom (whole (pos 1)), whole_settled n) }

-- so are the conditions behind so many passed choices
pub behind_settled : (n : ℕ) (t : Tree) (regs : List Form) (k : Way) (cs : List Choice) (m : Way) → way_behind n t regs k cs ≡ Some m → IsSound k regs → AllSettled m.cake m.conditions
behind_settled zero t regs k cs m e s = subst (λ (w : Way). AllSettled w.cake w.conditions) (some_same k m e) s.conditions
behind_settled (suc n) (Ask a p r next) regs k cs m e s = behind_settled (suc n) next (regs ++ piece_form a (piece_at k.pieces p) ∷ []) (ask_way k) cs m e (sound_ask k regs a p s)
behind_settled (suc n) (Set r sum next) regs k cs m e s =
    behind_settled (suc n) next (regs ++ sum_form regs sum.terms ∷ []) k cs m e (sound_register k regs (sum_form regs sum.terms) s (settled_sum k.cake regs s.forms sum.terms))
behind_settled (suc n) (Cut a p amount l r next) regs k cs m e s =
    let x = taken (λ before A after. way_behind n next regs (cut_way a p (sum_form regs amount.terms) before A after k)) [] (piece_at k.pieces p) cs m e in
    behind_settled n next regs (cut_way a p (sum_form regs amount.terms) x.before x.part x.after k) x.more m x.goes
    (sound_cut k regs a p (sum_form regs amount.terms) x.before x.part x.after x.parts_are s (settled_sum k.cake regs s.forms amount.terms))
behind_settled (suc n) (Join p q r next) regs k cs m e s = behind_settled (suc n) next regs (join_way p q k) cs m e (sound_join k regs p q s)
behind_settled (suc n) (Give p a next) regs k cs m e s = behind_settled (suc n) next regs (give_way p a k) cs m e (sound_give k regs p a s)
behind_settled (suc n) End regs k cs m e s = none_some m e
behind_settled (suc n) (Test left right strict y z) regs k [] m e s = none_some m e
behind_settled (suc n) (Test left right strict y z) regs k (Low ∷ cs) m e s = none_some m e
behind_settled (suc n) (Test left right strict y z) regs k (High ∷ cs) m e s = none_some m e
behind_settled (suc n) (Test left right strict y z) regs k (Go ∷ cs) m e s = none_some m e
behind_settled (suc n) (Test left right strict y z) regs k (Yes ∷ cs) m e s =
    let f = sum_form regs left.terms in
    let g = sum_form regs right.terms in
    behind_settled n y regs (test_way (yes_kind strict) (sub_form f g) Yes k) cs m e
    (sound_test k regs (yes_kind strict) f g Yes s (settled_sum k.cake regs s.forms left.terms) (settled_sum k.cake regs s.forms right.terms))
behind_settled (suc n) (Test left right strict y z) regs k (No ∷ cs) m e s =
    let f = sum_form regs left.terms in
    let g = sum_form regs right.terms in
    behind_settled n z regs (test_way (no_kind strict) (sub_form g f) No k) cs m e
    (sound_test k regs (no_kind strict) g f No s (settled_sum k.cake regs s.forms right.terms) (settled_sum k.cake regs s.forms left.terms))
