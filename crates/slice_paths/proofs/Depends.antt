-- The events depend on the coefficients of the atoms alone, and not on which cuts were passed: by induction on the tree.
use Rattle.std.proofs.Common.{◌≡◌, ◌∙◌, ℕ, zero, suc, ◌-◌, refl, sym, ap, Bool, true, false, List, [], ◌∷◌, ◌++◌, length, pos}
use Rattle.std.specs.Prelude.{map, ◌&&◌, slice_index_or, Option, Some, None}
use Rattle.std.proofs.lemmas.List.{map-append}
use Rattle.slice_num.specs.Rational.{Rational, plus, times, negated, minus, whole}
use Rattle.slice_num.specs.declared.choice.Choice.TheVariants as choice
use Rattle.slice_core.specs.Tree.{Tree, Ask, Set, Cut, Join, Test, Give, End}
use Rattle.slice_num.specs.Pieces.{piece_at, each_part}
use Rattle.slice_core.specs.declared.node.LinTerm.{LinTerm}
use Rattle.slice_core.specs.declared.node.Source.{Source}
use Rattle.slice_core.specs.declared.node.Source.TheVariants.{Const, Reg}
use Rattle.slice_linear.specs.declared.row.RowKind.{RowKind}
use Rattle.slice_linear.specs.declared.row.RowKind.TheVariants.{Zero, Above}
use Rattle.slice_linear.specs.LowestRow.{lowest, lowest_fits}
use Rattle.slice_atoms.specs.Addresses.{Letter, L, R, Address, Cake, Atom, Halves, atoms, halved, left_of}
use Rattle.slice_atoms.specs.Forms.{Form, fixed_form, piece_form, add_form, sub_form, scale_form, all_coefs, agent_coefs}
use Rattle.slice_atoms.specs.FormFits.{sums_fit, products_fit, add_fits, sub_fits}
use Rattle.slice_paths.specs.Places.{Condition, PassedCut, Way, source_form, scaled_form, term_form, added_form, terms_form, sum_form, ask_way, choose_way, cut_way, test_way, join_way, give_way, yes_kind, no_kind}
use Rattle.slice_paths.specs.Goals.{row_of, pairs}
use Rattle.slice_paths.specs.declared.goal.GoalKind.{GoalKind}
use Rattle.slice_paths.specs.declared.goal.GoalKind.TheVariants as goal_kind
use Rattle.slice_paths.specs.Events.{Event, Meets, found, envy_goal, rows_fit, where_fit, scaled_fits, term_fits, added_fits, terms_fit, sum_fits, cut_fits, events}
use Rattle.slice_paths.specs.Same.{LiesIn, SameAt, SameForms, SameConditions}

-- ---- coefficients
map_letter : (d : Letter) (F : Address → Rational) (xs : List Address) → map F (map (λ A. d ∷ A) xs) ≡ map (λ A. F (d ∷ A)) xs
map_letter d F [] = refl
map_letter d F (x ∷ xs) = ap (λ (ys : List Rational). F (d ∷ x) ∷ ys) (map_letter d F xs)

atoms_same : (k : Cake) (F G : Address → Rational) → ((B : Address) → LiesIn k B → F B ≡ G B) → map F (atoms k) ≡ map G (atoms k)
atoms_same Atom F G h = ap (λ (q : Rational). q ∷ []) (h [] tt)
atoms_same (Halves l r) F G h =
    map-append F (map (λ A. L ∷ A) (atoms l)) (map (λ A. R ∷ A) (atoms r))
    ∙ (λ i. (map_letter L F (atoms l) ∙ atoms_same l (λ A. F (L ∷ A)) (λ A. G (L ∷ A)) (λ B. h (L ∷ B)) ∙ sym (map_letter L G (atoms l))) i
    ++ (map_letter R F (atoms r) ∙ atoms_same r (λ A. F (R ∷ A)) (λ A. G (R ∷ A)) (λ B. h (R ∷ B)) ∙ sym (map_letter R G (atoms r))) i)
    ∙ sym (map-append G (map (λ A. L ∷ A) (atoms l)) (map (λ A. R ∷ A) (atoms r)))

agents_same : (n : ℕ) (k : Cake) (F G : ℕ → Address → Rational) → ((a : ℕ) (B : Address) → LiesIn k B → F a B ≡ G a B) → agent_coefs n k F ≡ agent_coefs n k G
agents_same zero k F G h = refl
agents_same (suc n) k F G h = λ i. agents_same n k F G h i ++ atoms_same k (F (suc n)) (G (suc n)) (h (suc n)) i

pub coefs_same : (n : ℕ) (k : Cake) (f g : Form) → SameAt k f g → all_coefs n k f ≡ all_coefs n k g
coefs_same n k f g h = λ i. h.whole i ∷ agents_same n k f.at g.at h.parts i

-- ---- forms
pub same_self : (k : Cake) (f : Form) → SameAt k f f
same_self k f = record { whole = refl; parts = λ a B h. refl }

same_add : (k : Cake) (f f' g g' : Form) → SameAt k f f' → SameAt k g g' → SameAt k (add_form f g) (add_form f' g')
same_add k f f' g g' p q = record { whole = λ i. plus (p.whole i) (q.whole i); parts = λ a B h i. plus (p.parts a B h i) (q.parts a B h i) }

pub same_sub : (k : Cake) (f f' g g' : Form) → SameAt k f f' → SameAt k g g' → SameAt k (sub_form f g) (sub_form f' g')
same_sub k f f' g g' p q = record { whole = λ i. minus (p.whole i) (q.whole i); parts = λ a B h i. minus (p.parts a B h i) (q.parts a B h i) }

same_scale : (k : Cake) (c : Rational) (f f' : Form) → SameAt k f f' → SameAt k (scale_form c f) (scale_form c f')
same_scale k c f f' p = record { whole = λ i. times c (p.whole i); parts = λ a B h i. times c (p.parts a B h i) }

-- what lies in an atom still lies in that which it was a part of
pub lies_before : (A : Address) (k : Cake) (B : Address) → LiesIn (halved A k) B → LiesIn k B
lies_before [] Atom B h = tt
lies_before [] (Halves l r) B h = h
lies_before (d ∷ A) Atom B h = tt
lies_before (L ∷ A) (Halves l r) [] h = h
lies_before (L ∷ A) (Halves l r) (L ∷ B) h = lies_before A l B h
lies_before (L ∷ A) (Halves l r) (R ∷ B) h = h
lies_before (R ∷ A) (Halves l r) [] h = h
lies_before (R ∷ A) (Halves l r) (L ∷ B) h = h
lies_before (R ∷ A) (Halves l r) (R ∷ B) h = lies_before A r B h

pub same_halved : (A : Address) (k : Cake) (f g : Form) → SameAt k f g → SameAt (halved A k) f g
same_halved A k f g p = record { whole = p.whole; parts = λ a B h. p.parts a B (lies_before A k B h) }

pub forms_halved : (A : Address) (k : Cake) (fs gs : List Form) → SameForms k fs gs → SameForms (halved A k) fs gs
forms_halved A k [] [] h = tt
forms_halved A k (f ∷ fs) (g ∷ gs) h = (same_halved A k f g h.0, forms_halved A k fs gs h.1)
forms_halved A k [] (g ∷ gs) h = absurd h
forms_halved A k (f ∷ fs) [] h = absurd h

pub conditions_halved : (A : Address) (k : Cake) (cs ds : List Condition) → SameConditions k cs ds → SameConditions (halved A k) cs ds
conditions_halved A k [] [] h = tt
conditions_halved A k (c ∷ cs) (d ∷ ds) h = (h.0, (same_halved A k c.form d.form h.1.0, conditions_halved A k cs ds h.1.1))
conditions_halved A k [] (d ∷ ds) h = absurd h
conditions_halved A k (c ∷ cs) [] h = absurd h

pub forms_put : (k : Cake) (fs gs : List Form) (f g : Form) → SameForms k fs gs → SameAt k f g → SameForms k (fs ++ f ∷ []) (gs ++ g ∷ [])
forms_put k [] [] f g h p = (p, tt)
forms_put k (x ∷ fs) (y ∷ gs) f g h p = (h.0, forms_put k fs gs f g h.1 p)
forms_put k [] (y ∷ gs) f g h p = absurd h
forms_put k (x ∷ fs) [] f g h p = absurd h

pub conditions_put : (k : Cake) (cs ds : List Condition) (kind : RowKind) (f g : Form) → SameConditions k cs ds → SameAt k f g
    → SameConditions k (cs ++ record { kind = kind; form = f } ∷ []) (ds ++ record { kind = kind; form = g } ∷ [])
conditions_put k [] [] kind f g h p = (refl, (p, tt))
conditions_put k (x ∷ cs) (y ∷ ds) kind f g h p = (h.0, (h.1.0, conditions_put k cs ds kind f g h.1.1 p))
conditions_put k [] (y ∷ ds) kind f g h p = absurd h
conditions_put k (x ∷ cs) [] kind f g h p = absurd h

form_at : (k : Cake) (fs gs : List Form) (i : ℕ) (d : Form) → SameForms k fs gs → SameAt k (slice_index_or fs i d) (slice_index_or gs i d)
form_at k [] [] i d h = same_self k d
form_at k (f ∷ fs) (g ∷ gs) zero d h = h.0
form_at k (f ∷ fs) (g ∷ gs) (suc i) d h = form_at k fs gs i d h.1
form_at k [] (g ∷ gs) i d h = absurd h
form_at k (f ∷ fs) [] i d h = absurd h

-- ---- sums
source_same : (k : Cake) (rs ss : List Form) (s : Source) → SameForms k rs ss → SameAt k (source_form rs s) (source_form ss s)
source_same k rs ss (Const c) h = same_self k (fixed_form c)
source_same k rs ss (Reg n) h = form_at k rs ss n (fixed_form (whole (pos 0))) h

scaled_same : (k : Cake) (c : Option Rational) (f g : Form) → SameAt k f g → SameAt k (scaled_form c f) (scaled_form c g)
scaled_same k None f g h = h
scaled_same k (Some c) f g h = same_scale k c f g h

term_same : (k : Cake) (rs ss : List Form) (t : LinTerm) → SameForms k rs ss → SameAt k (term_form rs t) (term_form ss t)
term_same k rs ss t h = scaled_same k t.factor _ _ (source_same k rs ss t.source h)

added_same : (k : Cake) (b : Bool) (f f' g g' : Form) → SameAt k f f' → SameAt k g g' → SameAt k (added_form b f g) (added_form b f' g')
added_same k true f f' g g' p q = same_sub k f f' g g' p q
added_same k false f f' g g' p q = same_add k f f' g g' p q

terms_same : (k : Cake) (rs ss : List Form) (f g : Form) (ts : List LinTerm) → SameForms k rs ss → SameAt k f g → SameAt k (terms_form rs f ts) (terms_form ss g ts)
terms_same k rs ss f g [] h p = p
terms_same k rs ss f g (t ∷ ts) h p = terms_same k rs ss (added_form t.minus f (term_form rs t)) (added_form t.minus g (term_form ss t)) ts h (added_same k t.minus f g (term_form rs t) (term_form ss t) p (term_same k rs ss t h))

pub sum_same : (k : Cake) (rs ss : List Form) (ts : List LinTerm) → SameForms k rs ss → SameAt k (sum_form rs ts) (sum_form ss ts)
sum_same k rs ss [] h = same_self k (fixed_form (whole (pos 0)))
sum_same k rs ss (t ∷ ts) h = terms_same k rs ss (term_form rs t) (term_form ss t) ts h (term_same k rs ss t h)

-- ---- what fits
add_fits_same : (n : ℕ) (k : Cake) (f f' g g' : Form) → SameAt k f f' → SameAt k g g' → add_fits n k f g ≡ add_fits n k f' g'
add_fits_same n k f f' g g' p q = λ i. sums_fit (coefs_same n k f f' p i) (coefs_same n k g g' q i)

pub sub_fits_same : (n : ℕ) (k : Cake) (f f' g g' : Form) → SameAt k f f' → SameAt k g g' → sub_fits n k f g ≡ sub_fits n k f' g'
sub_fits_same n k f f' g g' p q = λ i. sums_fit (coefs_same n k f f' p i) (map negated (coefs_same n k g g' q i))

scaled_fits_same : (n : ℕ) (k : Cake) (c : Option Rational) (f g : Form) → SameAt k f g → scaled_fits n k c f ≡ scaled_fits n k c g
scaled_fits_same n k None f g h = refl
scaled_fits_same n k (Some c) f g h = ap (products_fit c) (coefs_same n k f g h)

term_fits_same : (n : ℕ) (k : Cake) (rs ss : List Form) (t : LinTerm) → SameForms k rs ss → term_fits n k rs t ≡ term_fits n k ss t
term_fits_same n k rs ss t h = scaled_fits_same n k t.factor _ _ (source_same k rs ss t.source h)

added_fits_same : (n : ℕ) (k : Cake) (b : Bool) (f f' g g' : Form) → SameAt k f f' → SameAt k g g' → added_fits n k b f g ≡ added_fits n k b f' g'
added_fits_same n k true f f' g g' p q = sub_fits_same n k f f' g g' p q
added_fits_same n k false f f' g g' p q = add_fits_same n k f f' g g' p q

terms_fit_same : (n : ℕ) (k : Cake) (rs ss : List Form) (f g : Form) (ts : List LinTerm) → SameForms k rs ss → SameAt k f g → terms_fit n k rs f ts ≡ terms_fit n k ss g ts
terms_fit_same n k rs ss f g [] h p = refl
terms_fit_same n k rs ss f g (t ∷ ts) h p =
    λ i. term_fits_same n k rs ss t h i
    && (added_fits_same n k t.minus f g (term_form rs t) (term_form ss t) p (term_same k rs ss t h) i
    && terms_fit_same n k rs ss (added_form t.minus f (term_form rs t)) (added_form t.minus g (term_form ss t)) ts h (added_same k t.minus f g (term_form rs t) (term_form ss t) p (term_same k rs ss t h)) i)

sum_fits_same : (n : ℕ) (k : Cake) (rs ss : List Form) (ts : List LinTerm) → SameForms k rs ss → sum_fits n k rs ts ≡ sum_fits n k ss ts
sum_fits_same n k rs ss [] h = refl
sum_fits_same n k rs ss (t ∷ ts) h = λ i. term_fits_same n k rs ss t h i && terms_fit_same n k rs ss (term_form rs t) (term_form ss t) ts h (term_same k rs ss t h) i

-- ---- rows and goals
row_same : (n : ℕ) (k : Cake) (c d : Condition) → c.kind ≡ d.kind → SameAt k c.form d.form → row_of n k c ≡ row_of n k d
row_same n k c d e h = λ i. record { kind = e i; coefs = lowest (coefs_same n k c.form d.form h i) }

pub rows_same : (n : ℕ) (k : Cake) (cs ds : List Condition) → SameConditions k cs ds → map (row_of n k) cs ≡ map (row_of n k) ds
rows_same n k [] [] h = refl
rows_same n k (c ∷ cs) (d ∷ ds) h = λ i. row_same n k c d h.0 h.1.0 i ∷ rows_same n k cs ds h.1.1 i
rows_same n k [] (d ∷ ds) h = absurd h
rows_same n k (c ∷ cs) [] h = absurd h

rows_fit_same : (n : ℕ) (k : Cake) (cs ds : List Condition) → SameConditions k cs ds → rows_fit n k cs ≡ rows_fit n k ds
rows_fit_same n k [] [] h = refl
rows_fit_same n k (c ∷ cs) (d ∷ ds) h = λ i. lowest_fits (coefs_same n k c.form d.form h.1.0 i) && rows_fit_same n k cs ds h.1.1 i
rows_fit_same n k [] (d ∷ ds) h = absurd h
rows_fit_same n k (c ∷ cs) [] h = absurd h

pub found_same :
    (n : ℕ) (k : Way) (cs : List Condition) (ds : List PassedCut) (kind : GoalKind) (f f' g g' : Form) → SameConditions k.cake k.conditions cs → SameAt k.cake f f' → SameAt k.cake g g'
    → found n k kind f g ≡ found n (record k { conditions = cs; cuts = ds }) kind f' g'
found_same n k cs ds kind f f' g g' h p q =
    let own = same_sub k.cake f f' g g' p q in
    let all = conditions_put k.cake k.conditions cs Above (sub_form f g) (sub_form f' g') h own in
    λ i. record {
      trace = k.trace;
      kind = kind;
      query = k.queries;
      rows = rows_same n k.cake _ _ all i;
      fit = sub_fits_same n k.cake f f' g g' p q i && rows_fit_same n k.cake _ _ all i;
    }

pub each_part_same :
    (es fs : List Address → Address → List Address → List Event) → ((before : List Address) (A : Address) (after : List Address) → es before A after ≡ fs before A after)
    → (before after : List Address) → each_part before after es ≡ each_part before after fs
each_part_same es fs h before [] = refl
each_part_same es fs h before (A ∷ after) = λ i. h before A after i ++ each_part_same es fs h (before ++ A ∷ []) after i

envies_same : (n : ℕ) (k : Way) (cs : List Condition) (ds : List PassedCut) (ps : List (ℕ × ℕ)) → SameConditions k.cake k.conditions cs → map (envy_goal n k) ps ≡ map (envy_goal n (record k { conditions = cs; cuts = ds })) ps
envies_same n k cs ds [] h = refl
envies_same n k cs ds (p ∷ ps) h =
    let b = piece_form p.0 (piece_at k.shares (p.1 - 1)) in
    let a = piece_form p.0 (piece_at k.shares (p.0 - 1)) in
    λ i. Meets (found_same n k cs ds (goal_kind.Envy p.0 p.1) b b a a h (same_self k.cake b) (same_self k.cake a) i) ∷ envies_same n k cs ds ps h i

-- other registers and conditions with these coefficients, and other cuts, tell the same events
pub depends :
    (agents : ℕ) (t : Tree) (regs others : List Form) (k : Way) (cs : List Condition) (ds : List PassedCut)
    → SameForms k.cake regs others → SameConditions k.cake k.conditions cs → events agents t regs k ≡ events agents t others (record k { conditions = cs; cuts = ds })
depends n (Ask a p r next) rs ss k cs ds h c = depends n next (rs ++ piece_form a (piece_at k.pieces p) ∷ []) (ss ++ piece_form a (piece_at k.pieces p) ∷ []) (ask_way k) cs ds (forms_put k.cake rs ss _ _ h (same_self k.cake (piece_form a (piece_at k.pieces p)))) c
depends n (Set r sum next) rs ss k cs ds h c =
    λ i. where_fit (sum_fits_same n k.cake rs ss sum.terms h i) (depends n next (rs ++ sum_form rs sum.terms ∷ []) (ss ++ sum_form ss sum.terms ∷ []) k cs ds (forms_put k.cake rs ss _ _ h (sum_same k.cake rs ss sum.terms h)) c i)
depends n (Cut a p amount l r next) rs ss k cs ds h c =
    let e = sum_form rs amount.terms in
    let f = sum_form ss amount.terms in
    let s = sum_same k.cake rs ss amount.terms h in
    let held = piece_form a (piece_at k.pieces p) in
    let none = fixed_form (whole (pos 0)) in
    let low = found_same n (choose_way (choice.Low ∷ []) k) cs ds goal_kind.Low none none e f c (same_self k.cake none) s in
    let high = found_same n (choose_way (choice.High ∷ []) k) cs ds goal_kind.High e f held held c s (same_self k.cake held) in
    let k' : Way = record k { conditions = cs; cuts = ds } in
    let es : List Address → Address → List Address → List Event = λ before A after. where_fit (cut_fits n a e before A k) (events n next rs (cut_way a p e before A after k)) in
    let fs : List Address → Address → List Address → List Event = λ before A after. where_fit (cut_fits n a f before A k') (events n next ss (cut_way a p f before A after k')) in
    let one : (before : List Address) (A : Address) (after : List Address) → es before A after ≡ fs before A after = λ before A after.
    (let left = piece_form a (before ++ left_of A ∷ []) in
    let q = halved A k.cake in
    let t = same_halved A k.cake e f s in
    let fit = sub_fits_same n q left left e f (same_self q left) t in
    let cond = conditions_put q k.conditions cs Zero (sub_form left e) (sub_form left f) (conditions_halved A k.cake k.conditions cs c) (same_sub q left left e f (same_self q left) t) in
    let rest = depends n next rs ss (cut_way a p e before A after k) (cs ++ record { kind = Zero; form = sub_form left f } ∷ []) (ds ++ record { part = length before; address = A } ∷ []) (forms_halved A k.cake rs ss h) cond in
    λ i. where_fit (fit i) (rest i)) in
    λ i. where_fit (sum_fits_same n k.cake rs ss amount.terms h i) (Meets (low i) ∷ Meets (high i) ∷ each_part_same es fs one [] (piece_at k.pieces p) i)
depends n (Join p q r next) rs ss k cs ds h c = depends n next rs ss (join_way p q k) cs ds h c
depends n (Test left right strict y z) rs ss k cs ds h c =
    let f = sum_form rs left.terms in
    let f' = sum_form ss left.terms in
    let g = sum_form rs right.terms in
    let g' = sum_form ss right.terms in
    let p = sum_same k.cake rs ss left.terms h in
    let q = sum_same k.cake rs ss right.terms h in
    let more = same_sub k.cake f f' g g' p q in
    let less = same_sub k.cake g g' f f' q p in
    let yes = depends n y rs ss (test_way (yes_kind strict) (sub_form f g) choice.Yes k) (cs ++ record { kind = yes_kind strict; form = sub_form f' g' } ∷ []) ds h (conditions_put k.cake k.conditions cs (yes_kind strict) (sub_form f g) (sub_form f' g') c more) in
    let no_ = depends n z rs ss (test_way (no_kind strict) (sub_form g f) choice.No k) (cs ++ record { kind = no_kind strict; form = sub_form g' f' } ∷ []) ds h (conditions_put k.cake k.conditions cs (no_kind strict) (sub_form g f) (sub_form g' f') c less) in
    λ i. where_fit (sum_fits_same n k.cake rs ss left.terms h i && sum_fits_same n k.cake rs ss right.terms h i)
    (where_fit (sub_fits_same n k.cake f f' g g' p q i) (yes i) ++ where_fit (sub_fits_same n k.cake g g' f f' q p i) (no_ i))
depends n (Give p a next) rs ss k cs ds h c = depends n next rs ss (give_way p a k) cs ds h c
depends n End rs ss k cs ds h c = envies_same n k cs ds (pairs n n) c
