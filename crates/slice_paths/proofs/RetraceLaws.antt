-- A spot that is walked to once more stands at the way behind the choices.
use Rattle.std.proofs.Common.{◌≡◌, ◌∙◌, ℕ, suc, ◌≤◌, arith, refl, sym, ap, subst, Bool, true, false, List, [], ◌∷◌, ◌++◌, length, drop}
use Rattle.std.specs.Prelude.{Some, None}
use Rattle.std.proofs.lemmas.List.{append-nil}
use Rattle.slice_num.specs.declared.choice.Choice.{Choice}
use Rattle.slice_num.specs.declared.choice.Choice.TheVariants.{Low, High, Go, Yes, No}
use Rattle.slice_num.specs.Pieces.{piece_at}
use Rattle.slice_core.specs.Tree.{Tree, Ask, Set, Join, Test, Give}
use Rattle.slice_core.specs.declared.node.Lin.{Lin}
use Rattle.slice_linear.specs.declared.forms.Term.{Term}
use Rattle.slice_linear.specs.declared.row.RowKind.{RowKind}
use Rattle.slice_atoms.specs.Addresses.{Cake}
use Rattle.slice_atoms.specs.Forms.{Form, piece_form, sub_form}
use Rattle.slice_atoms.specs.FormFits.{sub_fits}
use Rattle.slice_paths.specs.Ahead.{ahead_of, left_at, no_from}
use Rattle.slice_paths.specs.Events.{Event, events, where_fit}
use Rattle.slice_paths.specs.Fronts.{taken_arm, way_behind, events_behind}
use Rattle.slice_paths.specs.Places.{Condition, PassedCut, Way, sum_form, yes_kind, no_kind, ask_way, test_way, join_way, give_way}
use Rattle.slice_paths.specs.Retraced.{arm_in, way_with, StandsAt, Strode}
use Rattle.slice_paths.specs.Same.{SameAt, SameForms, SameConditions}
use Rattle.slice_paths.specs.Spots.{Known, form_of, regs_of, way_of}
use Rattle.slice_paths.specs.Steps.{IsKnown, AskedTo, SetTo, JoinedTo, GivenTo, PassedTo}
use Rattle.slice_paths.specs.Sums.{SumMeans}
use Rattle.slice_paths.specs.declared.frames.Frame.{Frame}
use Rattle.slice_paths.proofs.Depends.{depends, same_self, same_sub, forms_put, conditions_put, sum_same, sub_fits_same}
use Rattle.slice_paths.proofs.StreamLaws.{ahead_put}

-- ---- the same in the atoms
same_turn : (k : Cake) (f g : Form) → SameAt k f g → SameAt k g f
same_turn k f g h = record { whole = sym h.whole; parts = λ a B l. sym (h.parts a B l) }

same_on : (k : Cake) (f g h : Form) → SameAt k f g → SameAt k g h → SameAt k f h
same_on k f g h p q = record { whole = p.whole ∙ q.whole; parts = λ a B l. p.parts a B l ∙ q.parts a B l }

pub forms_turn : (k : Cake) (fs gs : List Form) → SameForms k fs gs → SameForms k gs fs
forms_turn k [] [] h = tt
forms_turn k (f ∷ fs) (g ∷ gs) h = (same_turn k f g h.0, forms_turn k fs gs h.1)
forms_turn k [] (g ∷ gs) h = absurd h
forms_turn k (f ∷ fs) [] h = absurd h

pub forms_on : (k : Cake) (fs gs hs : List Form) → SameForms k fs gs → SameForms k gs hs → SameForms k fs hs
forms_on k [] [] hs p q = q
forms_on k (f ∷ fs) (g ∷ gs) (h ∷ hs) p q = (same_on k f g h p.0 q.0, forms_on k fs gs hs p.1 q.1)
forms_on k (f ∷ fs) (g ∷ gs) [] p q = absurd q
forms_on k [] (g ∷ gs) hs p q = absurd p
forms_on k (f ∷ fs) [] hs p q = absurd p

pub conditions_turn : (k : Cake) (cs ds : List Condition) → SameConditions k cs ds → SameConditions k ds cs
conditions_turn k [] [] h = tt
conditions_turn k (c ∷ cs) (d ∷ ds) h = (sym h.0, (same_turn k c.form d.form h.1.0, conditions_turn k cs ds h.1.1))
conditions_turn k [] (d ∷ ds) h = absurd h
conditions_turn k (c ∷ cs) [] h = absurd h

pub conditions_on : (k : Cake) (cs ds es : List Condition) → SameConditions k cs ds → SameConditions k ds es → SameConditions k cs es
conditions_on k [] [] es p q = q
conditions_on k (c ∷ cs) (d ∷ ds) (e ∷ es) p q = (p.0 ∙ q.0, (same_on k c.form d.form e.form p.1.0 q.1.0, conditions_on k cs ds es p.1.1 q.1.1))
conditions_on k (c ∷ cs) (d ∷ ds) [] p q = absurd q
conditions_on k [] (d ∷ ds) es p q = absurd p
conditions_on k (c ∷ cs) [] es p q = absurd p

-- where a spot has that way
pub stands_by : (t : Known) (m : Way) (fs : List Form) (cs : List Condition) → way_of t ≡ m → SameForms m.cake (regs_of t) fs → SameConditions m.cake m.conditions cs → StandsAt t fs cs
stands_by t m fs cs e p q = record {
  regs = subst (λ (x : Way). SameForms x.cake (regs_of t) fs) (sym e) p;
  conditions = subst (λ (x : Way). SameConditions x.cake x.conditions cs) (sym e) q;
}

-- ---- a stride that passes no choice
module _ (n : ℕ) (cs : List Choice) (old : List Frame) (fs : List Form) (ks : List Condition) (ds : List PassedCut) where
  -- the way on is the spot's, but for its conditions and cuts
  quiet : (tree next : Tree) (s t : Known) (m : Way) (gs : List Form) → way_of t ≡ m → SameForms m.cake (regs_of t) gs → SameConditions m.cake m.conditions ks
      → ((k : ℕ) → way_behind (suc k) tree fs (way_with s ks ds) cs ≡ way_behind (suc k) next gs (record m { conditions = ks; cuts = ds }) cs)
      → ((k : ℕ) → events_behind n (suc k) tree fs (way_with s ks ds) cs ≡ events_behind n (suc k) next gs (record m { conditions = ks; cuts = ds }) cs)
      → Strode n tree s cs cs next t false old old fs ks ds
  quiet tree next s t m gs e p q w b = record {
    regs = gs;
    conditions = ks;
    cuts = ds;
    more = [];
    stands = stands_by t m gs ks e p q;
    same_way = λ k. w k ∙ ap (λ (x : Way). way_behind (suc k) next gs (record x { conditions = ks; cuts = ds }) cs) (sym e);
    same_behind = λ k.
        b k
        ∙ ap (λ (x : Way). events_behind n (suc k) next gs (record x { conditions = ks; cuts = ds }) cs) (sym e)
        ∙ sym (append-nil (events_behind n (suc k) next gs (way_with t ks ds) cs));
    ahead = refl;
  }

  pub ask_strode : (a p r : ℕ) (next : Tree) (s t : Known) → AskedTo a p s t → StandsAt s fs ks → Strode n (Ask a p r next) s cs cs next t false old old fs ks ds
  ask_strode a p r next s t h at =
      let held = piece_form a (piece_at (way_of s).pieces p) in
      quiet (Ask a p r next) next s t (ask_way (way_of s)) (fs ++ held ∷ []) h.way
      (forms_on (way_of s).cake (regs_of t) (regs_of s ++ held ∷ []) (fs ++ held ∷ []) h.same_regs (forms_put (way_of s).cake (regs_of s) fs held held at.regs (same_self (way_of s).cake held)))
      at.conditions (λ k. refl) (λ k. refl)

  pub set_strode : (r : ℕ) (sum : Lin) (next : Tree) (s t : Known) → SetTo sum.terms s t → StandsAt s fs ks → Strode n (Set r sum next) s cs cs next t false old old fs ks ds
  set_strode r sum next s t h at =
      let made = sum_form (regs_of s) sum.terms in
      let same = sum_form fs sum.terms in
      quiet (Set r sum next) next s t (way_of s) (fs ++ same ∷ []) h.way
      (subst (λ (gs : List Form). SameForms (way_of s).cake gs (fs ++ same ∷ [])) (sym h.regs) (forms_put (way_of s).cake (regs_of s) fs made same at.regs (sum_same (way_of s).cake (regs_of s) fs sum.terms at.regs)))
      at.conditions (λ k. refl) (λ k. refl)

  pub join_strode : (p q r : ℕ) (next : Tree) (s t : Known) → JoinedTo p q s t → StandsAt s fs ks → Strode n (Join p q r next) s cs cs next t false old old fs ks ds
  join_strode p q r next s t h at =
      quiet (Join p q r next) next s t (join_way p q (way_of s)) fs h.way (subst (λ (gs : List Form). SameForms (way_of s).cake gs fs) (sym h.regs) at.regs) at.conditions (λ k. refl) (λ k. refl)

  pub give_strode : (p a : ℕ) (next : Tree) (s t : Known) → GivenTo a p s t → StandsAt s fs ks → Strode n (Give p a next) s cs cs next t false old old fs ks ds
  give_strode p a next s t h at =
      quiet (Give p a next) next s t (give_way p a (way_of s)) fs h.way (subst (λ (gs : List Form). SameForms (way_of s).cake gs fs) (sym h.regs) at.regs) at.conditions (λ k. refl) (λ k. refl)

-- ---- a stride that passes a test
pub arm_yes : {R : Type 0} (cs : List Choice) (y z : List Choice → R) (other : R) → arm_in cs ≡ Some true → taken_arm y z other cs ≡ y (drop 1 cs)
arm_yes [] y z other e = absurd cc
arm_yes (Low ∷ cs) y z other e = absurd cc
arm_yes (High ∷ cs) y z other e = absurd cc
arm_yes (Go ∷ cs) y z other e = absurd cc
arm_yes (Yes ∷ cs) y z other e = refl
arm_yes (No ∷ cs) y z other e = absurd cc

pub arm_no : {R : Type 0} (cs : List Choice) (y z : List Choice → R) (other : R) → arm_in cs ≡ Some false → taken_arm y z other cs ≡ z (drop 1 cs)
arm_no [] y z other e = absurd cc
arm_no (Low ∷ cs) y z other e = absurd cc
arm_no (High ∷ cs) y z other e = absurd cc
arm_no (Go ∷ cs) y z other e = absurd cc
arm_no (Yes ∷ cs) y z other e = absurd cc
arm_no (No ∷ cs) y z other e = refl

pub arm_none : {R : Type 0} (cs : List Choice) (y z : List Choice → R) (other : R) → arm_in cs ≡ None → taken_arm y z other cs ≡ other
arm_none [] y z other e = refl
arm_none (Low ∷ cs) y z other e = refl
arm_none (High ∷ cs) y z other e = refl
arm_none (Go ∷ cs) y z other e = refl
arm_none (Yes ∷ cs) y z other e = absurd cc
arm_none (No ∷ cs) y z other e = absurd cc

pub arm_long : (cs : List Choice) (b : Bool) → arm_in cs ≡ Some b → 1 ≤ length cs
arm_long [] b e = absurd cc
arm_long (c ∷ cs) b e = omega arith

-- a sum that was made has the coefficients that it has over the forms
pub side_same : (s : Known) (fs : List Form) (sum : Lin) (zs : List Term) → IsKnown s → SumMeans s.regs sum.terms zs → SameForms (way_of s).cake (regs_of s) fs → SameAt (way_of s).cake (form_of s.atoms zs) (sum_form fs sum.terms)
side_same s fs sum zs k m h =
    subst (λ (f : Form). SameAt (way_of s).cake f (sum_form fs sum.terms)) (sym (m s.atoms s.atoms.agents k.numbering k.regs).0.is) (sum_same (way_of s).cake (regs_of s) fs sum.terms h)

module _ (n : ℕ) (left right : Lin) (strict : Bool) (at_yes at_no : Tree) (s t : Known) (xs ys : List Term) (known : IsKnown s) (l : SumMeans s.regs left.terms xs) (r : SumMeans s.regs right.terms ys)
    (cs : List Choice) (old : List Frame) (fs : List Form) (ks : List Condition) (ds : List PassedCut) (at : StandsAt s fs ks) where
  abbrev W : Way
  W = way_of s

  abbrev f : Form
  f = sum_form fs left.terms

  abbrev g : Form
  g = sum_form fs right.terms

  left_same : SameAt W.cake (form_of s.atoms xs) f
  left_same = side_same s fs left xs known l at.regs

  right_same : SameAt W.cake (form_of s.atoms ys) g
  right_same = side_same s fs right ys known r at.regs

  passed_at : (kind : RowKind) (upper lower : List Term) (c : Choice) (u v : Form) → PassedTo kind upper lower c s t → SameAt W.cake (form_of s.atoms upper) u → SameAt W.cake (form_of s.atoms lower) v
      → StandsAt t fs (ks ++ record { kind = kind; form = sub_form u v } ∷ [])
  passed_at kind upper lower c u v h p q =
      stands_by t (test_way kind (sub_form (form_of s.atoms upper) (form_of s.atoms lower)) c W) fs (ks ++ record { kind = kind; form = sub_form u v } ∷ []) h.way
      (subst (λ (gs : List Form). SameForms W.cake gs fs) (sym h.regs) at.regs)
      (conditions_put W.cake W.conditions ks kind (sub_form (form_of s.atoms upper) (form_of s.atoms lower)) (sub_form u v) at.conditions (same_sub W.cake (form_of s.atoms upper) u (form_of s.atoms lower) v p q))

  passed_way : (kind : RowKind) (upper lower : List Term) (c : Choice) (u v : Form) → PassedTo kind upper lower c s t
      → test_way kind (sub_form u v) c (way_with s ks ds) ≡ way_with t (ks ++ record { kind = kind; form = sub_form u v } ∷ []) ds
  passed_way kind upper lower c u v h = ap (λ (x : Way). record x { conditions = ks ++ record { kind = kind; form = sub_form u v } ∷ []; cuts = ds }) (sym h.way)

  -- what the no of a test has ahead, over the spot's forms and over these
  no_same : no_from n (form_of s.atoms xs) (form_of s.atoms ys) strict at_no (regs_of s) W
      ≡ where_fit (sub_fits n W.cake g f) (events n at_no fs (test_way (no_kind strict) (sub_form g f) No (way_with s ks ds)))
  no_same =
      let own = sub_form (form_of s.atoms ys) (form_of s.atoms xs) in
      let same = same_sub W.cake (form_of s.atoms ys) g (form_of s.atoms xs) f right_same left_same in
      let d = depends n at_no (regs_of s) fs (test_way (no_kind strict) own No W) (ks ++ record { kind = no_kind strict; form = sub_form g f } ∷ []) ds at.regs (conditions_put W.cake W.conditions ks (no_kind strict) own (sub_form g f) at.conditions same) in
      λ i. where_fit (sub_fits_same n W.cake (form_of s.atoms ys) g (form_of s.atoms xs) f right_same left_same i) (d i)

  pub yes_strode : (new : List Frame) (behind : Frame) → PassedTo (yes_kind strict) xs ys Yes s t → arm_in cs ≡ Some true
      → new ≡ old ++ behind ∷ [] → left_at n behind.rest behind.spot ≡ no_from n (form_of s.atoms xs) (form_of s.atoms ys) strict at_no (regs_of s) W
      → Strode n (Test left right strict at_yes at_no) s cs (drop 1 cs) at_yes t true old new fs ks ds
  yes_strode new behind h e put is = record {
    regs = fs;
    conditions = ks ++ record { kind = yes_kind strict; form = sub_form f g } ∷ [];
    cuts = ds;
    more = where_fit (sub_fits n W.cake g f) (events n at_no fs (test_way (no_kind strict) (sub_form g f) No (way_with s ks ds)));
    stands = passed_at (yes_kind strict) xs ys Yes f g h left_same right_same;
    same_way = λ k.
        arm_yes cs (way_behind k at_yes fs (test_way (yes_kind strict) (sub_form f g) Yes (way_with s ks ds))) (way_behind k at_no fs (test_way (no_kind strict) (sub_form g f) No (way_with s ks ds))) None e
        ∙ ap (λ (x : Way). way_behind k at_yes fs x (drop 1 cs)) (passed_way (yes_kind strict) xs ys Yes f g h);
    same_behind = λ k.
        arm_yes cs
        (λ more_. events_behind n k at_yes fs (test_way (yes_kind strict) (sub_form f g) Yes (way_with s ks ds)) more_ ++ where_fit (sub_fits n W.cake g f) (events n at_no fs (test_way (no_kind strict) (sub_form g f) No (way_with s ks ds))))
        (events_behind n k at_no fs (test_way (no_kind strict) (sub_form g f) No (way_with s ks ds))) [] e
        ∙ ap (λ (x : Way). events_behind n k at_yes fs x (drop 1 cs) ++ where_fit (sub_fits n W.cake g f) (events n at_no fs (test_way (no_kind strict) (sub_form g f) No (way_with s ks ds)))) (passed_way (yes_kind strict) xs ys Yes f g h);
    ahead = ap (λ (gs : List Frame). ahead_of n gs []) put ∙ ahead_put n old behind [] ∙ ap (λ (es : List Event). es ++ ahead_of n old []) (is ∙ no_same);
  }

  pub no_strode : PassedTo (no_kind strict) ys xs No s t → arm_in cs ≡ Some false → Strode n (Test left right strict at_yes at_no) s cs (drop 1 cs) at_no t true old old fs ks ds
  no_strode h e = record {
    regs = fs;
    conditions = ks ++ record { kind = no_kind strict; form = sub_form g f } ∷ [];
    cuts = ds;
    more = [];
    stands = passed_at (no_kind strict) ys xs No g f h right_same left_same;
    same_way = λ k.
        arm_no cs (way_behind k at_yes fs (test_way (yes_kind strict) (sub_form f g) Yes (way_with s ks ds))) (way_behind k at_no fs (test_way (no_kind strict) (sub_form g f) No (way_with s ks ds))) None e
        ∙ ap (λ (x : Way). way_behind k at_no fs x (drop 1 cs)) (passed_way (no_kind strict) ys xs No g f h);
    same_behind = λ k.
        arm_no cs
        (λ more_. events_behind n k at_yes fs (test_way (yes_kind strict) (sub_form f g) Yes (way_with s ks ds)) more_ ++ where_fit (sub_fits n W.cake g f) (events n at_no fs (test_way (no_kind strict) (sub_form g f) No (way_with s ks ds))))
        (events_behind n k at_no fs (test_way (no_kind strict) (sub_form g f) No (way_with s ks ds))) [] e
        ∙ ap (λ (x : Way). events_behind n k at_no fs x (drop 1 cs)) (passed_way (no_kind strict) ys xs No g f h)
        ∙ sym (append-nil (events_behind n k at_no fs (way_with t (ks ++ record { kind = no_kind strict; form = sub_form g f } ∷ []) ds) (drop 1 cs)));
    ahead = refl;
  }
