-- For which passed choices a goal has rows, and how many.
use Rattle.std.proofs.Common.{◌≡◌, ◌∙◌, ℕ, zero, suc, ◌+◌, ◌<◌, arith, refl, sym, ap, subst, List, [], ◌∷◌, ◌++◌, ◌⊎◌, inl, inr, Bool, length, length-append, append_assoc, append-nil}
use Rattle.std.specs.Prelude.{Option, Some, None}
use Rattle.std.specs.List.{Contains}
use Rattle.std.proofs.lemmas.List.{length-map}
use Rattle.slice_num.specs.declared.choice.Choice.{Choice}
use Rattle.slice_num.specs.declared.choice.Choice.TheVariants.{Low, High, Go, Yes, No}
use Rattle.slice_num.specs.Pieces.{piece_at, passed}
use Rattle.slice_core.specs.Tree.{Tree, Core, Ask, Set, Cut, Join, Test, Give, End}
use Rattle.slice_core.specs.declared.node.Lin.{Lin}
use Rattle.slice_linear.specs.Rows.{LinearRow}
use Rattle.slice_linear.specs.declared.row.RowKind.{RowKind}
use Rattle.slice_linear.specs.declared.row.RowKind.TheVariants.{Zero, Above}
use Rattle.slice_atoms.specs.Addresses.{Address, left_of}
use Rattle.slice_atoms.specs.Forms.{Form, piece_form, sub_form}
use Rattle.slice_paths.specs.FrontLaws.{GoalsHaveCovers}
use Rattle.slice_paths.specs.Fronts.{answered_in, with_first, front_at_cut, front_of, way_behind, rows_on, rows_where, cover_rows}
use Rattle.slice_paths.specs.Goals.{row_of, Goal, goals}
use Rattle.slice_paths.specs.Places.{Condition, Way, Place, places, sum_form, yes_kind, no_kind, whole_condition, whole_conditions, first_conditions, first_way, ask_way, choose_way, test_way, join_way, give_way, cut_way}
use Rattle.slice_paths.proofs.Fits.{IsIn}
use Rattle.slice_paths.proofs.Parts.{in_either}
use Rattle.slice_paths.proofs.Later.{in_each}
use Rattle.slice_paths.proofs.GoalLaws.{aims_out, aim_way, of_aim}
use Rattle.slice_paths.proofs.FrontLaws.{some_same, none_some, taken, covers_are_fronts}

some_none : {A B : Type 0} (x : A) → Some x ≡ None → B
some_none x e = absurd cc

put_long : (ds : List Condition) (d : Condition) → length (ds ++ d ∷ []) ≡ length ds + 1
put_long ds d = length-append ds (d ∷ [])

cut_long : (a p : ℕ) (f : Form) (before : List Address) (A : Address) (after : List Address) (k : Way) → length (cut_way a p f before A after k).conditions ≡ length k.conditions + 1
cut_long a p f before A after k = put_long k.conditions (record { kind = Zero; form = sub_form (piece_form a (before ++ left_of A ∷ [])) f })

test_long : (kind : RowKind) (f : Form) (c : Choice) (k : Way) → length (test_way kind f c k).conditions ≡ length k.conditions + 1
test_long kind f c k = put_long k.conditions (record { kind = kind; form = f })

-- ---- each passed choice has one condition
pub behind_long : (n : ℕ) (t : Tree) (regs : List Form) (k : Way) (cs : List Choice) (m : Way) → way_behind n t regs k cs ≡ Some m → length m.conditions ≡ length k.conditions + n
behind_long zero t regs k cs m e = let f = ap (λ (x : Way). length x.conditions) (some_same k m e) in omega (arith, f)
behind_long (suc n) (Ask a p r next) regs k cs m e = behind_long (suc n) next (regs ++ piece_form a (piece_at k.pieces p) ∷ []) (ask_way k) cs m e
behind_long (suc n) (Set r sum next) regs k cs m e = behind_long (suc n) next (regs ++ sum_form regs sum.terms ∷ []) k cs m e
behind_long (suc n) (Cut a p amount l r next) regs k cs m e =
    let x = taken (λ before A after. way_behind n next regs (cut_way a p (sum_form regs amount.terms) before A after k)) [] (piece_at k.pieces p) cs m e in
    let h = behind_long n next regs (cut_way a p (sum_form regs amount.terms) x.before x.part x.after k) x.more m x.goes in
    omega (arith, h, cut_long a p (sum_form regs amount.terms) x.before x.part x.after k)
behind_long (suc n) (Join p q r next) regs k cs m e = behind_long (suc n) next regs (join_way p q k) cs m e
behind_long (suc n) (Give p a next) regs k cs m e = behind_long (suc n) next regs (give_way p a k) cs m e
behind_long (suc n) End regs k cs m e = none_some m e
behind_long (suc n) (Test left right strict y z) regs k [] m e = none_some m e
behind_long (suc n) (Test left right strict y z) regs k (Low ∷ cs) m e = none_some m e
behind_long (suc n) (Test left right strict y z) regs k (High ∷ cs) m e = none_some m e
behind_long (suc n) (Test left right strict y z) regs k (Go ∷ cs) m e = none_some m e
behind_long (suc n) (Test left right strict y z) regs k (Yes ∷ cs) m e =
    let h = behind_long n y regs (test_way (yes_kind strict) (sub_form (sum_form regs left.terms) (sum_form regs right.terms)) Yes k) cs m e in
    omega (arith, h, test_long (yes_kind strict) (sub_form (sum_form regs left.terms) (sum_form regs right.terms)) Yes k)
behind_long (suc n) (Test left right strict y z) regs k (No ∷ cs) m e =
    let h = behind_long n z regs (test_way (no_kind strict) (sub_form (sum_form regs right.terms) (sum_form regs left.terms)) No k) cs m e in
    omega (arith, h, test_long (no_kind strict) (sub_form (sum_form regs right.terms) (sum_form regs left.terms)) No k)

-- ---- where a way has too few
-- where no way is behind so many of the choices, there are fewer, and too few conditions
abbrev IsShort : Tree → List Form → Way → Way → List Choice → ℕ → Type 0
IsShort t regs k x cs n = way_behind n t regs k cs ≡ None → (front_of n t cs ≡ None) × (length x.conditions < length k.conditions + n)

-- the choices to a place from a way on
record Chosen (t : Tree) (regs : List Form) (k : Way) (x : Place) : Type 0 where
  choices : List Choice
  trace : x.way.trace ≡ k.trace ++ choices
  short : (n : ℕ) → IsShort t regs k x.way choices n

from_one : (P : ℕ → Type 0) → P zero → ((n : ℕ) → P (suc n)) → (n : ℕ) → P n
from_one P h g zero = h
from_one P h g (suc n) = g n

answered_passed : {R : Type 0} (go : List Address → Address → List Address → List Choice → R) (other : R) (pre before : List Address) (A : Address) (after : List Address) (cs : List Choice)
    → answered_in go other pre (before ++ A ∷ after) (passed before ++ cs) ≡ go (pre ++ before) A after cs
answered_passed go other pre [] A after cs = ap (λ (b : List Address). go b A after cs) (sym (append-nil pre))
answered_passed go other pre (x ∷ before) A after cs = answered_passed go other (pre ++ x ∷ []) before A after cs ∙ ap (λ (b : List Address). go b A after cs) (append_assoc pre (x ∷ []) before)

front_none : (on : List Choice → Option (List Choice)) (before : List Address) (cs : List Choice) → on cs ≡ None → front_at_cut on (passed before ++ cs) ≡ None
front_none on [] cs e = ap (with_first Go) e
front_none on (x ∷ before) cs e = ap (with_first No) (front_none on before cs e)

-- a stuck cut has passed no choice
stuck_short : (a p l r : ℕ) (amount : Lin) (next : Tree) (regs : List Form) (k x : Way) (c : Choice) → (c ≡ Low) ⊎ (c ≡ High) → x.conditions ≡ k.conditions → (n : ℕ) → IsShort (Cut a p amount l r next) regs k x (c ∷ []) n
stuck_short a p l r amount next regs k x c which e zero = λ f. some_none k f
stuck_short a p l r amount next regs k x c which e (suc n) = λ f. (none which, let g = ap (λ (ds : List Condition). length ds) e in omega (arith, g))
  where
    none : (c ≡ Low) ⊎ (c ≡ High) → front_at_cut (front_of n next) (c ∷ []) ≡ None
    none (inl h) = ap (λ (d : Choice). front_at_cut (front_of n next) (d ∷ [])) h
    none (inr h) = ap (λ (d : Choice). front_at_cut (front_of n next) (d ∷ [])) h

chosen_cut : (a p l r : ℕ) (amount : Lin) (next : Tree) (regs : List Form) (k : Way) (x : Place) (b : List Address) (A : Address) (q : List Address) → b ++ A ∷ q ≡ piece_at k.pieces p
    → Chosen next regs (cut_way a p (sum_form regs amount.terms) b A q k) x → Chosen (Cut a p amount l r next) regs k x
chosen_cut a p l r amount next regs k x b A q parts h = record {
  choices = passed b ++ h.choices;
  trace = h.trace ∙ append_assoc k.trace (passed b) h.choices;
  short = from_one (IsShort (Cut a p amount l r next) regs k x.way (passed b ++ h.choices)) (λ e. some_none k e) more;
}
  where
    go : ℕ → List Address → Address → List Address → List Choice → Option Way
    go n before B after cs = way_behind n next regs (cut_way a p (sum_form regs amount.terms) before B after k) cs

    more : (n : ℕ) → IsShort (Cut a p amount l r next) regs k x.way (passed b ++ h.choices) (suc n)
    more n e =
        let same = sym (answered_passed (go n) None [] b A q h.choices) ∙ ap (λ (ps : List Address). answered_in (go n) None [] ps (passed b ++ h.choices)) parts in
        let r = h.short n (same ∙ e) in
        (front_none (front_of n next) b h.choices r.0, let g = r.1 in omega (arith, g, cut_long a p (sum_form regs amount.terms) b A q k))

chosen_yes : (left right : Lin) (strict : Bool) (y z : Tree) (regs : List Form) (k : Way) (x : Place) → Chosen y regs (test_way (yes_kind strict) (sub_form (sum_form regs left.terms) (sum_form regs right.terms)) Yes k) x
    → Chosen (Test left right strict y z) regs k x
chosen_yes left right strict y z regs k x h = record {
  choices = Yes ∷ h.choices;
  trace = h.trace ∙ append_assoc k.trace (Yes ∷ []) h.choices;
  short = from_one (IsShort (Test left right strict y z) regs k x.way (Yes ∷ h.choices)) (λ e. some_none k e)
      (λ n e. let r = h.short n e in (ap (with_first Yes) r.0, let g = r.1 in omega (arith, g, test_long (yes_kind strict) (sub_form (sum_form regs left.terms) (sum_form regs right.terms)) Yes k)));
}

chosen_no : (left right : Lin) (strict : Bool) (y z : Tree) (regs : List Form) (k : Way) (x : Place) → Chosen z regs (test_way (no_kind strict) (sub_form (sum_form regs right.terms) (sum_form regs left.terms)) No k) x
    → Chosen (Test left right strict y z) regs k x
chosen_no left right strict y z regs k x h = record {
  choices = No ∷ h.choices;
  trace = h.trace ∙ append_assoc k.trace (No ∷ []) h.choices;
  short = from_one (IsShort (Test left right strict y z) regs k x.way (No ∷ h.choices)) (λ e. some_none k e)
      (λ n e. let r = h.short n e in (ap (with_first No) r.0, let g = r.1 in omega (arith, g, test_long (no_kind strict) (sub_form (sum_form regs right.terms) (sum_form regs left.terms)) No k)));
}

chosen : (t : Tree) (regs : List Form) (k : Way) (x : Place) → IsIn x (places t regs k) → Chosen t regs k x
chosen (Ask a p r next) regs k x i =
    let h = chosen next _ _ x i in
    record { choices = h.choices; trace = h.trace; short = from_one (IsShort (Ask a p r next) regs k x.way h.choices) (λ e. some_none k e) (λ n. h.short (suc n)) }
chosen (Set r sum next) regs k x i =
    let h = chosen next _ _ x i in
    record { choices = h.choices; trace = h.trace; short = from_one (IsShort (Set r sum next) regs k x.way h.choices) (λ e. some_none k e) (λ n. h.short (suc n)) }
chosen (Join p q r next) regs k x i =
    let h = chosen next _ _ x i in
    record { choices = h.choices; trace = h.trace; short = from_one (IsShort (Join p q r next) regs k x.way h.choices) (λ e. some_none k e) (λ n. h.short (suc n)) }
chosen (Give p a next) regs k x i =
    let h = chosen next _ _ x i in
    record { choices = h.choices; trace = h.trace; short = from_one (IsShort (Give p a next) regs k x.way h.choices) (λ e. some_none k e) (λ n. h.short (suc n)) }
chosen End regs k x (inl e) =
    subst (Chosen End regs k) (sym e)
    (record { choices = []; trace = sym (append-nil k.trace); short = from_one (IsShort End regs k k []) (λ f. some_none k f) (λ n f. (refl, omega arith)) })
chosen End regs k x (inr h) = absurd h
chosen (Test left right strict y z) regs k x i =
    by (in_either x (places y regs ym) (places z regs zm) i) (chosen y regs ym x) (chosen z regs zm x)
  where
    ym : Way
    ym = test_way (yes_kind strict) (sub_form (sum_form regs left.terms) (sum_form regs right.terms)) Yes k

    zm : Way
    zm = test_way (no_kind strict) (sub_form (sum_form regs right.terms) (sum_form regs left.terms)) No k

    by : IsIn x (places y regs ym) ⊎ IsIn x (places z regs zm) → (IsIn x (places y regs ym) → Chosen y regs ym x) → (IsIn x (places z regs zm) → Chosen z regs zm x) → Chosen (Test left right strict y z) regs k x
    by (inl j) f g = chosen_yes left right strict y z regs k x (f j)
    by (inr j) f g = chosen_no left right strict y z regs k x (g j)
chosen (Cut a p amount l r next) regs k x (inl e) =
    subst (Chosen (Cut a p amount l r next) regs k) (sym e) (record { choices = Low ∷ []; trace = refl; short = stuck_short a p l r amount next regs k (choose_way (Low ∷ []) k) Low (inl refl) refl })
chosen (Cut a p amount l r next) regs k x (inr (inl e)) =
    subst (Chosen (Cut a p amount l r next) regs k) (sym e) (record { choices = High ∷ []; trace = refl; short = stuck_short a p l r amount next regs k (choose_way (High ∷ []) k) High (inr refl) refl })
chosen (Cut a p amount l r next) regs k x (inr (inr i)) =
    let g = in_each x [] (piece_at k.pieces p) (piece_at k.pieces p) _ refl i in
    chosen_cut a p l r amount next regs k x g.before g.part g.after g.parts_are (chosen next _ _ x g.is_one)

-- ---- goals
whole_long : (n : ℕ) → length (whole_conditions n) ≡ n
whole_long zero = refl
whole_long (suc n) = let h = whole_long n in omega (arith, h, put_long (whole_conditions n) (whole_condition (suc n)))

first_long : (n : ℕ) → length (first_conditions n) ≡ 1 + n
first_long n = let h = whole_long n in omega (arith, h)

no_way : (n : ℕ) (o : Option Way) → rows_where n o ≡ None → o ≡ None
no_way n None e = refl
no_way n (Some k) e = some_none (rows_on n k) e

-- a goal without rows behind so many choices has fewer, and too few rows
record Lacks (core : Core) (g : Goal) (n : ℕ) : Type 0 where
  front : front_of n core.tree g.trace ≡ None
  rows : length g.rows < 1 + core.agents + n + 1

lacks : (core : Core) (g : Goal) (n : ℕ) → Contains (goals core) g → cover_rows core n g.trace ≡ None → Lacks core g n
lacks core g n one_ e =
    let o = of_aim core g one_ in
    let p = aims_out core.agents (places core.tree [] (first_way core.agents)) o.aim o.is_one in
    let w = aim_way core.agents p.0.stop p.0.way o.aim p.2 in
    let h = chosen core.tree [] (first_way core.agents) p.0 p.1 in
    let trace : g.trace ≡ h.choices = ap (λ (x : Goal). x.trace) o.is ∙ ap (λ (k : Way). k.trace) w ∙ h.trace in
    let s = h.short n (ap (way_behind n core.tree [] (first_way core.agents)) (sym trace) ∙ no_way core.agents (way_behind n core.tree [] (first_way core.agents) g.trace) e) in
    let own : Condition = record { kind = Above; form = o.aim.own } in
    let long : length g.rows ≡ length o.aim.way.conditions + 1 = ap (λ (x : Goal). length x.rows) o.is ∙ length-map (o.aim.way.conditions ++ own ∷ []) (row_of core.agents o.aim.way.cake) ∙ put_long o.aim.way.conditions own in
    let same : length o.aim.way.conditions ≡ length p.0.way.conditions = ap (λ (k : Way). length k.conditions) w in
    let few = s.1 in
    record {
      front = ap (front_of n core.tree) trace ∙ s.0;
      rows = omega (arith, long, same, few, first_long core.agents);
    }

cover_long : (core : Core) (n : ℕ) (trace : List Choice) (rows : List LinearRow) → cover_rows core n trace ≡ Some rows → length rows ≡ 1 + core.agents + n
cover_long core n trace rows e = by (way_behind n core.tree [] (first_way core.agents) trace) refl e
  where
    by : (o : Option Way) → way_behind n core.tree [] (first_way core.agents) trace ≡ o → rows_where core.agents o ≡ Some rows → length rows ≡ 1 + core.agents + n
    by None p f = none_some rows f
    by (Some m) p f =
        let same : length (rows_on core.agents m) ≡ length rows = ap (λ (rs : List LinearRow). length rs) (some_same (rows_on core.agents m) rows f) in
        omega (arith, same, length-map m.conditions (row_of core.agents m.cake), behind_long n core.tree [] (first_way core.agents) trace m p, first_long core.agents)

no_front : (core : Core) (n : ℕ) (trace : List Choice) → front_of n core.tree trace ≡ None → cover_rows core n trace ≡ None
no_front core n trace e = by (cover_rows core n trace) refl
  where
    by : (o : Option (List LinearRow)) → cover_rows core n trace ≡ o → o ≡ None
    by None p = refl
    by (Some rows) p = let f = covers_are_fronts core n trace rows p in none_some f.0 (sym e ∙ f.2)

pub goals_have_covers : GoalsHaveCovers
goals_have_covers core g n one_ = (
  (λ e. (lacks core g n one_ e).front, no_front core n g.trace),
  λ rows e. cover_long core n g.trace rows e,
  λ enough e. let few = (lacks core g n one_ e).rows in absurd (omega (arith, few, enough)),
)
