-- What a step of the walk does to what comes up.
use Rattle.std.proofs.Common.{◌≡◌, ◌∙◌, ◌≢◌, ℕ, zero, suc, ◌+◌, refl, sym, ap, subst, List, [], ◌∷◌, ◌++◌}
use Rattle.std.specs.Prelude.{map}
use Rattle.std.proofs.lemmas.List.{map-append}
use Rattle.slice_core.specs.Agents.{IsAgent}
use Rattle.slice_num.specs.Pieces.{piece_at, emptied}
use Rattle.slice_linear.specs.declared.forms.Term.{Term}
use Rattle.slice_linear.specs.Terms.{IsKeySum}
use Rattle.slice_atoms.specs.Addresses.{Address, Cake}
use Rattle.slice_atoms.specs.Forms.{Form, piece_form}
use Rattle.slice_atoms.specs.Numbers.{name_of, cake_of, addresses_of, unknowns, all_keys}
use Rattle.slice_paths.specs.Places.{Condition, ask_way}
use Rattle.slice_paths.specs.Events.{events}
use Rattle.slice_paths.specs.Same.{SameAt, SameForms, SameConditions}
use Rattle.slice_paths.specs.Spots.{Known, form_of, regs_of, way_of, without_gifts, IsWithin}
use Rattle.slice_paths.specs.Steps.{IsNotGiven, IsKnown, IsValueOf, IsAsked}
use Rattle.slice_paths.specs.Sums.{AllWithin}
use Rattle.slice_paths.specs.declared.spot.Gift.{Gift}
use Rattle.slice_paths.proofs.Among.{piece_within}
use Rattle.slice_paths.proofs.Counts.{piece_map}
use Rattle.slice_paths.proofs.Depends.{depends, same_self, forms_put}
use Rattle.slice_paths.proofs.Pieces.{pieces_mean_pieces}

pub other_piece : {A : Type 0} (ps : List (List A)) (q p : ℕ) → q ≢ p → piece_at (emptied ps q) p ≡ piece_at ps p
other_piece [] q p n = refl
other_piece (x ∷ ps) zero zero n = absurd (n refl)
other_piece (x ∷ ps) zero (suc p) n = refl
other_piece (x ∷ ps) (suc q) zero n = refl
other_piece (x ∷ ps) (suc q) (suc p) n = other_piece ps q p (λ e. n (ap suc e))

pub not_given : (ps : List (List Address)) (gs : List Gift) (p : ℕ) → IsNotGiven p gs → piece_at (without_gifts ps gs) p ≡ piece_at ps p
not_given ps [] p h = refl
not_given ps (g ∷ gs) p h = not_given (emptied ps g.piece) gs p h.1 ∙ other_piece ps g.piece p h.0

pub same_forms : (k : Cake) (fs : List Form) → SameForms k fs fs
same_forms k [] = tt
same_forms k (f ∷ fs) = (same_self k f, same_forms k fs)

pub same_conditions : (k : Cake) (cs : List Condition) → SameConditions k cs cs
same_conditions k [] = tt
same_conditions k (c ∷ cs) = (refl, (same_self k c.form, same_conditions k cs))

pub within_put : (n : ℕ) (order : List ℕ) (rs : List (List Term)) (r : List Term) → AllWithin n order rs → IsWithin (all_keys n order) r → AllWithin n order (rs ++ r ∷ [])
within_put n order [] r h w = (w, tt)
within_put n order (x ∷ rs) r h w = (h.0, within_put n order rs r h.1 w)

-- the sum of a piece's unknowns is the piece's value on the way
pub value_of : (s : Known) (a p : ℕ) (zs : List Term) → IsKnown s → IsAgent s.atoms.agents a → IsNotGiven p s.gifts → IsKeySum (unknowns a (piece_at s.atoms.pieces p)) zs
    → IsValueOf a (piece_at (way_of s).pieces p) s zs
value_of s a p zs k g n z =
    let v = s.atoms in
    let held : piece_at (way_of s).pieces p ≡ map (name_of v.olds) (piece_at v.pieces p) = not_given (addresses_of v) s.gifts p n ∙ piece_map (name_of v.olds) v.pieces p in
    record {
      same = subst (λ (ps : List Address). SameAt (cake_of v.olds) (form_of v zs) (piece_form a ps)) (sym held) (pieces_mean_pieces v a p zs k.numbering g.0 z);
      over = piece_within v v.agents a p zs k.numbering g.0 g.1 z;
    }

pub asked : (s : Known) (a p : ℕ) (zs : List Term) → IsAgent s.atoms.agents a → IsNotGiven p s.gifts → IsKeySum (unknowns a (piece_at s.atoms.pieces p)) zs
    → IsAsked a p s (record s { regs = s.regs ++ zs ∷ []; queries = s.queries + 1 })
asked s a p zs g n z h =
    let v = s.atoms in
    let k = way_of s in
    let x = value_of s a p zs h g n z in
    let held = piece_form a (piece_at k.pieces p) in
    record {
      same_regs = subst (λ (fs : List Form). SameForms (cake_of v.olds) fs (regs_of s ++ held ∷ [])) (sym (map-append (form_of v) s.regs (zs ∷ [])))
          (forms_put (cake_of v.olds) (regs_of s) (regs_of s) (form_of v zs) held (same_forms (cake_of v.olds) (regs_of s)) x.same);
      way = refl;
      comes = λ m r next.
          (ap (λ (fs : List Form). events m next fs (ask_way k)) (map-append (form_of v) s.regs (zs ∷ []))
          ∙ depends m next (regs_of s ++ form_of v zs ∷ []) (regs_of s ++ held ∷ []) (ask_way k) k.conditions k.cuts
          (forms_put (cake_of v.olds) (regs_of s) (regs_of s) (form_of v zs) held (same_forms (cake_of v.olds) (regs_of s)) x.same) (same_conditions (cake_of v.olds) k.conditions));
      known = record { numbering = h.numbering; regs = within_put v.agents v.order s.regs zs h.regs x.over; conditions = h.conditions; gifts = h.gifts; owners = h.owners };
    }
