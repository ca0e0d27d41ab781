-- The rows behind the first passed choices are those after a front of the choices.
use Rattle.std.proofs.Common.{◌≡◌, ◌∙◌, ℕ, zero, suc, refl, sym, ap, subst, List, [], ◌∷◌, ◌++◌, map, append_assoc, append-nil}
use Rattle.std.specs.Prelude.{Option, Some, None, length}
use Rattle.std.specs.List.{All}
use Rattle.std.proofs.lemmas.List.Elements.{All-nil}
use Rattle.slice_num.specs.declared.choice.Choice.{Choice}
use Rattle.slice_num.specs.declared.choice.Choice.TheVariants.{Low, High, Go, Yes, No}
use Rattle.slice_num.specs.Pieces.{piece_at, passed}
use Rattle.slice_core.specs.Tree.{Tree, Core, Ask, Set, Cut, Join, Test, Give, End}
use Rattle.slice_core.specs.declared.node.Lin.{Lin}
use Rattle.slice_linear.specs.Rows.{LinearRow, width}
use Rattle.slice_atoms.specs.Addresses.{Address, Cake}
use Rattle.slice_atoms.specs.Forms.{Form, piece_form, sub_form}
use Rattle.slice_paths.specs.FrontLaws.{CoversAreFronts}
use Rattle.slice_paths.specs.Fronts.{answered_in, with_first, front_at_cut, front_of, way_behind, rows_on, rows_where}
use Rattle.slice_paths.specs.Goals.{row_of}
use Rattle.slice_paths.specs.Places.{Condition, Way, sum_form, yes_kind, no_kind, first_way, ask_way, test_way, join_way, give_way, cut_way}
use Rattle.slice_paths.specs.Ways.{in_part, way_by, way_of, rows_after}
use Rattle.slice_paths.proofs.Found.{in_part_passed, at_cut_passed}
use Rattle.slice_paths.proofs.GoalLaws.{length_row, length_rows}

-- the same cake and conditions
abbrev Alike : Way → Way → Type 0
Alike k m = (k.cake ≡ m.cake) × (k.conditions ≡ m.conditions)

pub some_same : {A : Type 0} (x y : A) → Some x ≡ Some y → x ≡ y
some_same {A} x y e = ap (value x) e
  where
    value : A → Option A → A
    value d None = d
    value d (Some z) = z

pub none_some : {A B : Type 0} (x : A) → None ≡ Some x → B
none_some x e = absurd cc

no_choice : (go : List Address → Address → List Address → List Choice → Way) (k : Way) (before parts : List Address) → in_part go k before parts [] ≡ k
no_choice go k before [] = refl
no_choice go k before (A ∷ after) = refl

-- without choices nothing is passed
stays : (t : Tree) (regs : List Form) (k : Way) → Alike (way_by t regs k []) k
stays (Ask a p r next) regs k = let h = stays next (regs ++ piece_form a (piece_at k.pieces p) ∷ []) (ask_way k) in (h.0, h.1)
stays (Set r sum next) regs k = stays next (regs ++ sum_form regs sum.terms ∷ []) k
stays (Cut a p amount l r next) regs k =
    let e = no_choice (λ before A after. way_by next regs (cut_way a p (sum_form regs amount.terms) before A after k)) k [] (piece_at k.pieces p) in
    (ap (λ (x : Way). x.cake) e, ap (λ (x : Way). x.conditions) e)
stays (Join p q r next) regs k = let h = stays next regs (join_way p q k) in (h.0, h.1)
stays (Test left right strict y z) regs k = (refl, refl)
stays (Give p a next) regs k = let h = stays next regs (give_way p a k) in (h.0, h.1)
stays End regs k = (refl, refl)

record Behind (n : ℕ) (t : Tree) (regs : List Form) (k : Way) (cs : List Choice) (m : Way) : Type 0 where
  front : List Choice
  rest : List Choice
  is_front : front_of n t cs ≡ Some front
  are : front ++ rest ≡ cs
  alike : Alike (way_by t regs k front) m

-- the part that is taken
pub record Taken {R : Type 0} (go : List Address → Address → List Address → List Choice → Option R) (pre parts : List Address) (cs : List Choice) (m : R) : Type 0 where
  pub before : List Address
  pub part : Address
  pub after : List Address
  pub more : List Choice
  pub parts_are : before ++ part ∷ after ≡ parts
  pub choices_are : passed before ++ more ≡ cs
  pub goes : go (pre ++ before) part after more ≡ Some m

pub taken : {R : Type 0} (go : List Address → Address → List Address → List Choice → Option R) (pre parts : List Address) (cs : List Choice) (m : R) → answered_in go None pre parts cs ≡ Some m → Taken go pre parts cs m
taken go pre [] [] m e = none_some m e
taken go pre [] (Low ∷ cs) m e = none_some m e
taken go pre [] (High ∷ cs) m e = none_some m e
taken go pre [] (Go ∷ cs) m e = none_some m e
taken go pre [] (Yes ∷ cs) m e = none_some m e
taken go pre [] (No ∷ cs) m e = none_some m e
taken go pre (A ∷ after) [] m e = none_some m e
taken go pre (A ∷ after) (Low ∷ cs) m e = none_some m e
taken go pre (A ∷ after) (High ∷ cs) m e = none_some m e
taken go pre (A ∷ after) (Yes ∷ cs) m e = none_some m e
taken go pre (A ∷ after) (Go ∷ cs) m e = record { before = []; part = A; after = after; more = cs; parts_are = refl; choices_are = refl; goes = ap (λ (b : List Address). go b A after cs) (append-nil pre) ∙ e }
taken go pre (A ∷ after) (No ∷ cs) m e =
    let h = taken go (pre ++ A ∷ []) after cs m e in
    record {
      before = A ∷ h.before;
      part = h.part;
      after = h.after;
      more = h.more;
      parts_are = ap (λ (xs : List Address). A ∷ xs) h.parts_are;
      choices_are = ap (λ (xs : List Choice). No ∷ xs) h.choices_are;
      goes = ap (λ (b : List Address). go b h.part h.after h.more) (sym (append_assoc pre (A ∷ []) h.before)) ∙ h.goes;
    }

-- a cut that is passed in this part
pub cut_goes : (a p l r : ℕ) (amount : Lin) (next : Tree) (regs : List Form) (k : Way) (before : List Address) (A : Address) (after : List Address) (cs : List Choice) → before ++ A ∷ after ≡ piece_at k.pieces p
    → way_by (Cut a p amount l r next) regs k (passed before ++ cs) ≡ way_by next regs (cut_way a p (sum_form regs amount.terms) before A after k) cs
cut_goes a p l r amount next regs k before A after cs parts =
    at_cut_passed (in_part go k [] (piece_at k.pieces p)) k before cs
    ∙ ap (λ (ps : List Address). in_part go k [] ps (passed before ++ cs)) (sym parts)
    ∙ in_part_passed go k [] before A after cs
  where
    go : List Address → Address → List Address → List Choice → Way
    go b B c ds = way_by next regs (cut_way a p (sum_form regs amount.terms) b B c k) ds

front_passed : (on : List Choice → Option (List Choice)) (before : List Address) (more front : List Choice) → on more ≡ Some front → front_at_cut on (passed before ++ more) ≡ Some (passed before ++ front)
front_passed on [] more front e = ap (with_first Go) e
front_passed on (x ∷ before) more front e = ap (with_first No) (front_passed on before more front e)

behind : (n : ℕ) (t : Tree) (regs : List Form) (k : Way) (cs : List Choice) (m : Way) → way_behind n t regs k cs ≡ Some m → Behind n t regs k cs m
behind zero t regs k cs m e = record { front = []; rest = cs; is_front = refl; are = refl; alike = subst (Alike (way_by t regs k [])) (some_same k m e) (stays t regs k) }
behind (suc n) (Ask a p r next) regs k cs m e =
    let h = behind (suc n) next (regs ++ piece_form a (piece_at k.pieces p) ∷ []) (ask_way k) cs m e in
    record { front = h.front; rest = h.rest; is_front = h.is_front; are = h.are; alike = h.alike }
behind (suc n) (Set r sum next) regs k cs m e =
    let h = behind (suc n) next (regs ++ sum_form regs sum.terms ∷ []) k cs m e in
    record { front = h.front; rest = h.rest; is_front = h.is_front; are = h.are; alike = h.alike }
behind (suc n) (Cut a p amount l r next) regs k cs m e =
    let x = taken (λ before A after. way_behind n next regs (cut_way a p (sum_form regs amount.terms) before A after k)) [] (piece_at k.pieces p) cs m e in
    let h = behind n next regs (cut_way a p (sum_form regs amount.terms) x.before x.part x.after k) x.more m x.goes in
    record {
      front = passed x.before ++ h.front;
      rest = h.rest;
      is_front = ap (front_at_cut (front_of n next)) (sym x.choices_are) ∙ front_passed (front_of n next) x.before x.more h.front h.is_front;
      are = append_assoc (passed x.before) h.front h.rest ∙ ap (λ (xs : List Choice). passed x.before ++ xs) h.are ∙ x.choices_are;
      alike = subst (λ (w : Way). Alike w m) (sym (cut_goes a p l r amount next regs k x.before x.part x.after h.front x.parts_are)) h.alike;
    }
behind (suc n) (Join p q r next) regs k cs m e =
    let h = behind (suc n) next regs (join_way p q k) cs m e in
    record { front = h.front; rest = h.rest; is_front = h.is_front; are = h.are; alike = h.alike }
behind (suc n) (Give p a next) regs k cs m e =
    let h = behind (suc n) next regs (give_way p a k) cs m e in
    record { front = h.front; rest = h.rest; is_front = h.is_front; are = h.are; alike = h.alike }
behind (suc n) End regs k cs m e = none_some m e
behind (suc n) (Test left right strict y z) regs k [] m e = none_some m e
behind (suc n) (Test left right strict y z) regs k (Low ∷ cs) m e = none_some m e
behind (suc n) (Test left right strict y z) regs k (High ∷ cs) m e = none_some m e
behind (suc n) (Test left right strict y z) regs k (Go ∷ cs) m e = none_some m e
behind (suc n) (Test left right strict y z) regs k (Yes ∷ cs) m e =
    let h = behind n y regs (test_way (yes_kind strict) (sub_form (sum_form regs left.terms) (sum_form regs right.terms)) Yes k) cs m e in
    record { front = Yes ∷ h.front; rest = h.rest; is_front = ap (with_first Yes) h.is_front; are = ap (λ (xs : List Choice). Yes ∷ xs) h.are; alike = h.alike }
behind (suc n) (Test left right strict y z) regs k (No ∷ cs) m e =
    let h = behind n z regs (test_way (no_kind strict) (sub_form (sum_form regs right.terms) (sum_form regs left.terms)) No k) cs m e in
    record { front = No ∷ h.front; rest = h.rest; is_front = ap (with_first No) h.is_front; are = ap (λ (xs : List Choice). No ∷ xs) h.are; alike = h.alike }

rows_alike : (n : ℕ) (k m : Way) → Alike k m → map (row_of n k.cake) k.conditions ≡ rows_on n m
rows_alike n k m h = λ i. map (row_of n (h.0 i)) (h.1 i)

-- the rows of a way are over as many unknowns
one_width : (n : ℕ) (k : Cake) (ds : List Condition) → All (λ (r : LinearRow). length r.coefs ≡ width (map (row_of n k) ds)) (map (row_of n k) ds)
one_width n k [] = All-nil _
one_width n k (d ∷ ds) = subst (λ (w : ℕ). All (λ (r : LinearRow). length r.coefs ≡ w) (map (row_of n k) (d ∷ ds))) (sym (length_row n k d)) (length_rows n k (d ∷ ds))

abbrev IsFront : Core → ℕ → List Choice → List LinearRow → Type 0
IsFront core n trace rows =
    (front : List Choice) × (rest : List Choice) × (front_of n core.tree trace ≡ Some front) × (front ++ rest ≡ trace) × (rows ≡ rows_after core front)
    × All (λ (r : LinearRow). length r.coefs ≡ width rows) rows

pub covers_are_fronts : CoversAreFronts
covers_are_fronts core passed_ trace rows e = by (way_behind passed_ core.tree [] (first_way core.agents) trace) refl e
  where
    by : (o : Option Way) → way_behind passed_ core.tree [] (first_way core.agents) trace ≡ o → rows_where core.agents o ≡ Some rows → IsFront core passed_ trace rows
    by None p f = none_some rows f
    by (Some m) p f =
        let h = behind passed_ core.tree [] (first_way core.agents) trace m p in
        let same = some_same (rows_on core.agents m) rows f in (
          h.front,
          h.rest,
          h.is_front,
          h.are,
          sym same ∙ sym (rows_alike core.agents (way_of core h.front) m h.alike),
          subst (λ (rs : List LinearRow). All (λ (r : LinearRow). length r.coefs ≡ width rs) rs) same (one_width core.agents m.cake m.conditions),
        )
