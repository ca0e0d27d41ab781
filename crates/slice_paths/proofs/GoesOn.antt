-- What a way keeps from that behind its first passed choices: its cake is cut further, and conditions are only added.
use Rattle.std.proofs.Common.{◌≡◌, ◌∙◌, ℕ, zero, suc, sym, ap, subst, List, [], ◌∷◌, ◌++◌, append_assoc, append-nil}
use Rattle.std.specs.Prelude.{Some}
use Rattle.slice_num.specs.declared.choice.Choice.{Choice}
use Rattle.slice_num.specs.declared.choice.Choice.TheVariants.{Low, High, Go, Yes, No}
use Rattle.slice_num.specs.Pieces.{piece_at}
use Rattle.slice_core.specs.Tree.{Tree, Ask, Set, Cut, Join, Test, Give, End}
use Rattle.slice_linear.specs.declared.row.RowKind.{RowKind}
use Rattle.slice_linear.specs.declared.row.RowKind.TheVariants.{Zero}
use Rattle.slice_atoms.specs.Addresses.{Address, halved, left_of}
use Rattle.slice_atoms.specs.Forms.{Form, piece_form, sub_form}
use Rattle.slice_paths.specs.Fronts.{way_behind}
use Rattle.slice_paths.specs.Places.{Condition, Way, sum_form, yes_kind, no_kind, ask_way, choose_way, test_way, join_way, give_way, cut_way}
use Rattle.slice_paths.specs.Ways.{in_part, at_cut, way_by}
use Rattle.slice_paths.proofs.FrontLaws.{some_same, none_some, taken, cut_goes}
use Rattle.slice_paths.proofs.Later.{Refines, refines_self, refines_trans, refines_halved}

pub record GoesOn (k m : Way) : Type 0 where
  pub cake : Refines k.cake m.cake
  pub more : List Condition
  pub conditions : k.conditions ++ more ≡ m.conditions

on_itself : (k : Way) → GoesOn k k
on_itself k = record { cake = refines_self k.cake; more = []; conditions = append-nil k.conditions }

on_chosen : (k : Way) (cs : List Choice) → GoesOn k (choose_way cs k)
on_chosen k cs = record { cake = refines_self k.cake; more = []; conditions = append-nil k.conditions }

on_tested : (k : Way) (kind : RowKind) (f : Form) (c : Choice) (m : Way) → GoesOn (test_way kind f c k) m → GoesOn k m
on_tested k kind f c m h = record {
  cake = h.cake;
  more = record { kind = kind; form = f } ∷ h.more;
  conditions = sym (append_assoc k.conditions (record { kind = kind; form = f } ∷ []) h.more) ∙ h.conditions;
}

on_cut : (k : Way) (a p : ℕ) (f : Form) (before : List Address) (A : Address) (after : List Address) (m : Way) → GoesOn (cut_way a p f before A after k) m → GoesOn k m
on_cut k a p f before A after m h =
    let c : Condition = record { kind = Zero; form = sub_form (piece_form a (before ++ left_of A ∷ [])) f } in
    record {
      cake = refines_trans k.cake (halved A k.cake) m.cake (refines_halved A k.cake) h.cake;
      more = c ∷ h.more;
      conditions = sym (append_assoc k.conditions (c ∷ []) h.more) ∙ h.conditions;
    }

-- whatever choices follow
on_in_part : (go : List Address → Address → List Address → List Choice → Way) (k : Way) (pre parts : List Address) (cs : List Choice)
    → ((before : List Address) (A : Address) (after : List Address) (ds : List Choice) → GoesOn k (go before A after ds)) → GoesOn k (in_part go k pre parts cs)
on_in_part go k pre [] [] h = on_itself k
on_in_part go k pre [] (Low ∷ cs) h = on_itself k
on_in_part go k pre [] (High ∷ cs) h = on_itself k
on_in_part go k pre [] (Go ∷ cs) h = on_itself k
on_in_part go k pre [] (Yes ∷ cs) h = on_itself k
on_in_part go k pre [] (No ∷ cs) h = on_itself k
on_in_part go k pre (A ∷ after) [] h = on_itself k
on_in_part go k pre (A ∷ after) (Low ∷ cs) h = on_itself k
on_in_part go k pre (A ∷ after) (High ∷ cs) h = on_itself k
on_in_part go k pre (A ∷ after) (Yes ∷ cs) h = on_itself k
on_in_part go k pre (A ∷ after) (Go ∷ cs) h = h pre A after cs
on_in_part go k pre (A ∷ after) (No ∷ cs) h = on_in_part go k (pre ++ A ∷ []) after cs h

on_at_cut : (on : List Choice → Way) (k : Way) (cs : List Choice) → ((ds : List Choice) → GoesOn k (on ds)) → GoesOn k (at_cut on k cs)
on_at_cut on k [] h = h []
on_at_cut on k (Low ∷ cs) h = on_chosen k (Low ∷ [])
on_at_cut on k (High ∷ cs) h = on_chosen k (High ∷ [])
on_at_cut on k (Go ∷ cs) h = h (Go ∷ cs)
on_at_cut on k (Yes ∷ cs) h = h (Yes ∷ cs)
on_at_cut on k (No ∷ cs) h = h (No ∷ cs)

goes_on : (t : Tree) (regs : List Form) (k : Way) (cs : List Choice) → GoesOn k (way_by t regs k cs)
goes_on (Ask a p r next) regs k cs = let h = goes_on next (regs ++ piece_form a (piece_at k.pieces p) ∷ []) (ask_way k) cs in record { cake = h.cake; more = h.more; conditions = h.conditions }
goes_on (Set r sum next) regs k cs = goes_on next (regs ++ sum_form regs sum.terms ∷ []) k cs
goes_on (Cut a p amount l r next) regs k cs =
    let go : List Address → Address → List Address → List Choice → Way = λ before A after. way_by next regs (cut_way a p (sum_form regs amount.terms) before A after k) in
    on_at_cut (in_part go k [] (piece_at k.pieces p)) k cs (λ ds. on_in_part go k [] (piece_at k.pieces p) ds (λ before A after es.
    on_cut k a p (sum_form regs amount.terms) before A after (go before A after es) (goes_on next regs (cut_way a p (sum_form regs amount.terms) before A after k) es)))
goes_on (Join p q r next) regs k cs = let h = goes_on next regs (join_way p q k) cs in record { cake = h.cake; more = h.more; conditions = h.conditions }
goes_on (Give p a next) regs k cs = let h = goes_on next regs (give_way p a k) cs in record { cake = h.cake; more = h.more; conditions = h.conditions }
goes_on End regs k cs = on_itself k
goes_on (Test left right strict y z) regs k [] = on_itself k
goes_on (Test left right strict y z) regs k (Low ∷ cs) = on_itself k
goes_on (Test left right strict y z) regs k (High ∷ cs) = on_itself k
goes_on (Test left right strict y z) regs k (Go ∷ cs) = on_itself k
goes_on (Test left right strict y z) regs k (Yes ∷ cs) =
    let f = sub_form (sum_form regs left.terms) (sum_form regs right.terms) in
    on_tested k (yes_kind strict) f Yes (way_by y regs (test_way (yes_kind strict) f Yes k) cs) (goes_on y regs (test_way (yes_kind strict) f Yes k) cs)
goes_on (Test left right strict y z) regs k (No ∷ cs) =
    let f = sub_form (sum_form regs right.terms) (sum_form regs left.terms) in
    on_tested k (no_kind strict) f No (way_by z regs (test_way (no_kind strict) f No k) cs) (goes_on z regs (test_way (no_kind strict) f No k) cs)

-- the way of some choices goes on from that behind the first passed ones
pub goes_on_behind : (n : ℕ) (t : Tree) (regs : List Form) (k : Way) (cs : List Choice) (m : Way) → way_behind n t regs k cs ≡ Some m → GoesOn m (way_by t regs k cs)
goes_on_behind zero t regs k cs m e = subst (λ (w : Way). GoesOn w (way_by t regs k cs)) (some_same k m e) (goes_on t regs k cs)
goes_on_behind (suc n) (Ask a p r next) regs k cs m e = goes_on_behind (suc n) next (regs ++ piece_form a (piece_at k.pieces p) ∷ []) (ask_way k) cs m e
goes_on_behind (suc n) (Set r sum next) regs k cs m e = goes_on_behind (suc n) next (regs ++ sum_form regs sum.terms ∷ []) k cs m e
goes_on_behind (suc n) (Cut a p amount l r next) regs k cs m e =
    let x = taken (λ before A after. way_behind n next regs (cut_way a p (sum_form regs amount.terms) before A after k)) [] (piece_at k.pieces p) cs m e in
    let same = sym (cut_goes a p l r amount next regs k x.before x.part x.after x.more x.parts_are) ∙ ap (λ (ds : List Choice). way_by (Cut a p amount l r next) regs k ds) x.choices_are in
    subst (GoesOn m) same (goes_on_behind n next regs (cut_way a p (sum_form regs amount.terms) x.before x.part x.after k) x.more m x.goes)
goes_on_behind (suc n) (Join p q r next) regs k cs m e = goes_on_behind (suc n) next regs (join_way p q k) cs m e
goes_on_behind (suc n) (Give p a next) regs k cs m e = goes_on_behind (suc n) next regs (give_way p a k) cs m e
goes_on_behind (suc n) End regs k cs m e = none_some m e
goes_on_behind (suc n) (Test left right strict y z) regs k [] m e = none_some m e
goes_on_behind (suc n) (Test left right strict y z) regs k (Low ∷ cs) m e = none_some m e
goes_on_behind (suc n) (Test left right strict y z) regs k (High ∷ cs) m e = none_some m e
goes_on_behind (suc n) (Test left right strict y z) regs k (Go ∷ cs) m e = none_some m e
goes_on_behind (suc n) (Test left right strict y z) regs k (Yes ∷ cs) m e =
    goes_on_behind n y regs (test_way (yes_kind strict) (sub_form (sum_form regs left.terms) (sum_form regs right.terms)) Yes k) cs m e
goes_on_behind (suc n) (Test left right strict y z) regs k (No ∷ cs) m e =
    goes_on_behind n z regs (test_way (no_kind strict) (sub_form (sum_form regs right.terms) (sum_form regs left.terms)) No k) cs m e
