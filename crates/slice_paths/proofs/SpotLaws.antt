-- What setting a register, a gift, a join and a choice do to a spot.
use Rattle.std.proofs.Common.{◌≡◌, ◌∙◌, ◌≢◌, ℕ, zero, suc, ◌+◌, ◌-◌, ◌<◌, arith, refl, sym, ap, subst, Bool, true, false, List, [], ◌∷◌, ◌++◌, append_assoc, length, pos, Ok, Err}
use Rattle.std.specs.Prelude.{⊤, map, replicate, OnOk}
use Rattle.std.specs.declared.result.Result.{Result}
use Rattle.std.proofs.lemmas.List.{map-append}
use Rattle.std.proofs.lemmas.Grind.{common_steps}
use Rattle.slice_num.specs.Rational.{whole, minus}
use Rattle.slice_num.specs.declared.choice.Choice.{Choice}
use Rattle.slice_num.proofs.FieldLaws.{minus_same}
use Rattle.slice_num.specs.Pieces.{piece_at, emptied, given, join_pieces}
use Rattle.slice_core.specs.Agents.{IsAgent}
use Rattle.slice_core.specs.declared.node.LinTerm.{LinTerm}
use Rattle.slice_linear.specs.declared.row.RowKind.{RowKind}
use Rattle.slice_linear.specs.declared.forms.Term.{Term}
use Rattle.slice_linear.specs.Terms.{IsFormDifference, DifferencesFit}
use Rattle.slice_atoms.specs.Addresses.{Address}
use Rattle.slice_atoms.specs.Forms.{Form}
use Rattle.slice_atoms.specs.FormFits.{sub_fits}
use Rattle.slice_atoms.specs.Numbers.{name_of, cake_of, addresses_of, all_keys}
use Rattle.slice_atoms.proofs.Cuts.{numbering_join}
use Rattle.slice_paths.specs.Places.{Condition, sum_form, first_conditions}
use Rattle.slice_paths.specs.Spots.{Known, form_of, condition_of, regs_of, way_of, without_gifts, with_gifts, IsWithin}
use Rattle.slice_paths.specs.Sums.{AllWithin, SumMeans, SumBreaks}
use Rattle.slice_paths.specs.Steps.{IsNotGiven, AreGifts, AreOwned, IsOver, IsSet, IsBroken, GivenTo, IsJoined, IsPassed, IsNoDifference}
use Rattle.slice_paths.specs.declared.spot.Condition as held
use Rattle.slice_paths.specs.declared.spot.Gift.{Gift}
use Rattle.slice_paths.proofs.Counts.{piece_map, emptied_map}
use Rattle.slice_paths.proofs.Means.{differences_mean_differences}
use Rattle.slice_paths.proofs.FitMeans.{forms_fit_as_terms}
use Rattle.slice_paths.proofs.StepLaws.{not_given, other_piece, within_put}

pub on_ok : {T E : Type 0} (r : Result T E) (P Q : Type 0) → (P → Q) → OnOk r P → OnOk r Q
on_ok (Ok x) P Q f h = f h
on_ok (Err e) P Q f h = tt

-- ---- registers
pub set_to : (s : Known) (ts : List LinTerm) (zs : List Term) → SumMeans s.regs ts zs → IsSet ts s (record s { regs = s.regs ++ zs ∷ [] })
set_to s ts zs m k =
    let v = s.atoms in
    let a = m v v.agents k.numbering k.regs in
    let is : form_of v zs ≡ sum_form (regs_of s) ts = a.0.is in
    record {
      fit = a.1;
      regs = map-append (form_of v) s.regs (zs ∷ []) ∙ ap (λ (f : Form). regs_of s ++ f ∷ []) is;
      way = refl;
      known = record { numbering = k.numbering; regs = within_put v.agents v.order s.regs zs k.regs a.0.within; conditions = k.conditions; gifts = k.gifts; owners = k.owners };
    }

pub set_breaks : (s : Known) (ts : List LinTerm) → SumBreaks s.regs ts → IsBroken ts s
set_breaks s ts b k = b s.atoms s.atoms.agents k.numbering k.regs

-- ---- gifts
without_put : (ps : List (List Address)) (gs : List Gift) (g : Gift) → without_gifts ps (gs ++ g ∷ []) ≡ emptied (without_gifts ps gs) g.piece
without_put ps [] g = refl
without_put ps (x ∷ gs) g = without_put (emptied ps x.piece) gs g

with_put : (ps shares : List (List Address)) (gs : List Gift) (g : Gift) → with_gifts ps shares (gs ++ g ∷ []) ≡ given (with_gifts ps shares gs) (g.agent - 1) (piece_at ps g.piece)
with_put ps shares [] g = refl
with_put ps shares (x ∷ gs) g = with_put ps (given shares (x.agent - 1) (piece_at ps x.piece)) gs g

not_given_put : (gs : List Gift) (g : Gift) (p : ℕ) → IsNotGiven p gs → g.piece ≢ p → IsNotGiven p (gs ++ g ∷ [])
not_given_put [] g p h n = (n, tt)
not_given_put (x ∷ gs) g p h n = (h.0, not_given_put gs g p h.1 n)

gifts_put : (made : ℕ) (gs : List Gift) (g : Gift) → AreGifts made gs → g.piece < made → IsNotGiven g.piece gs → AreGifts made (gs ++ g ∷ [])
gifts_put made [] g h l n = (l, tt, tt)
gifts_put made (x ∷ gs) g h l n = (h.0, not_given_put gs g x.piece h.1 (λ e. n.0 (sym e)), gifts_put made gs g h.2 l n.1)

owned_put : (n : ℕ) (gs : List Gift) (g : Gift) → AreOwned n gs → IsAgent n g.agent → AreOwned n (gs ++ g ∷ [])
owned_put n [] g h a = (a, tt)
owned_put n (x ∷ gs) g h a = (h.0, owned_put n gs g h.1 a)

pub given_to : (s : Known) (g : Gift) → g.piece < length s.atoms.pieces → IsAgent s.atoms.agents g.agent → IsNotGiven g.piece s.gifts → GivenTo g.agent g.piece s (record s { gifts = s.gifts ++ g ∷ [] })
given_to s g l a n =
    let ps = addresses_of s.atoms in
    let sh : List (List Address) = with_gifts ps (replicate s.atoms.agents []) s.gifts in
    let h = sym (not_given ps s.gifts g.piece n) in
    record {
      regs = refl;
      way = λ i. record (way_of s) {
        pieces = without_put ps s.gifts g i;
        shares = (with_put ps (replicate s.atoms.agents []) s.gifts g ∙ ap (given sh (g.agent - 1)) h) i;
      };
      known = λ k. record { numbering = k.numbering; regs = k.regs; conditions = k.conditions; gifts = gifts_put (length s.atoms.pieces) s.gifts g k.gifts l n; owners = owned_put s.atoms.agents s.gifts g k.owners a };
    }

-- ---- choices
conditions_map : (n : ℕ) (order : List ℕ) (cs : List held.Condition) (c : held.Condition) → AllWithin n order (map (λ c. c.form) cs) → IsWithin (all_keys n order) c.form
    → AllWithin n order (map (λ c. c.form) (cs ++ c ∷ []))
conditions_map n order [] c h w = (w, tt)
conditions_map n order (x ∷ cs) c h w = (h.0, conditions_map n order cs c h.1 w)

pub passed_to :
    (s : Known) (kind : RowKind) (upper lower zs : List Term) (c : Choice) → IsFormDifference upper lower zs → DifferencesFit upper lower
    → IsPassed kind upper lower c s (record s { conditions = s.conditions ++ record { kind = kind; form = zs } ∷ []; trace = s.trace ++ c ∷ [] })
passed_to s kind upper lower zs c d f k u l =
    let v = s.atoms in
    let is = differences_mean_differences v upper lower zs d in
    let within : IsOver s zs = λ x o. d x ∙ (λ i. minus (u x o i) (l x o i)) ∙ minus_same (whole (pos 0)) (whole (pos 0)) refl in
    let own : Condition = record { kind = kind; form = form_of v zs } in
    record {
      fit = (forms_fit_as_terms v v.agents upper lower k.numbering u).differences_in f;
      regs = refl;
      way = λ i. record (way_of s) {
        conditions = ((ap (λ (cs : List Condition). first_conditions v.agents ++ cs) (map-append (condition_of v) s.conditions (record { kind = kind; form = zs } ∷ []))
            ∙ sym (append_assoc (first_conditions v.agents) (map (condition_of v) s.conditions) (own ∷ [])))
            ∙ ap (λ (g : Form). (first_conditions v.agents ++ map (condition_of v) s.conditions) ++ record { kind = kind; form = g } ∷ []) is) i;
        trace = s.trace ++ c ∷ [];
      };
      known = record { numbering = k.numbering; regs = k.regs; conditions = conditions_map v.agents v.order s.conditions (record { kind = kind; form = zs }) k.conditions within; gifts = k.gifts; owners = k.owners };
    }

pub no_difference : (s : Known) (upper lower : List Term) → (DifferencesFit upper lower → ⊥) → IsNoDifference upper lower s
no_difference s upper lower f k u =
    let v = s.atoms in
    none (sub_fits v.agents (cake_of v.olds) (form_of v upper) (form_of v lower)) (λ e. f ((forms_fit_as_terms v v.agents upper lower k.numbering u).differences_out e))
  where
    none : (b : Bool) → (b ≡ true → ⊥) → b ≡ false
    none true h = absurd (h refl)
    none false h = refl

-- ---- joins
pub set_swap : (ps : List (List Address)) (p q : ℕ) → emptied (emptied ps p) q ≡ emptied (emptied ps q) p
set_swap [] p q = refl
set_swap (x ∷ ps) zero zero = refl
set_swap (x ∷ ps) zero (suc q) = refl
set_swap (x ∷ ps) (suc p) zero = refl
set_swap (x ∷ ps) (suc p) (suc q) = ap (λ ys. x ∷ ys) (set_swap ps p q)

pub without_emptied : (ps : List (List Address)) (gs : List Gift) (p : ℕ) → without_gifts (emptied ps p) gs ≡ emptied (without_gifts ps gs) p
without_emptied ps [] p = refl
without_emptied ps (g ∷ gs) p = ap (λ xs. without_gifts xs gs) (set_swap ps p g.piece) ∙ without_emptied (emptied ps g.piece) gs p

pub emptied_length : (ps : List (List Address)) (p : ℕ) → length (emptied ps p) ≡ length ps
emptied_length [] p = refl
emptied_length (x ∷ ps) zero = refl
emptied_length (x ∷ ps) (suc p) = ap suc (emptied_length ps p)

pub emptied_append : (ps qs : List (List Address)) (p : ℕ) → p < length ps → emptied (ps ++ qs) p ≡ emptied ps p ++ qs
emptied_append [] qs p h = absurd (omega arith)
emptied_append (x ∷ ps) qs zero h = refl
emptied_append (x ∷ ps) qs (suc p) h = ap (λ ys. x ∷ ys) (emptied_append ps qs p (omega arith))

-- pieces that were made after the gifts
pub without_append : (ps qs : List (List Address)) (gs : List Gift) → AreGifts (length ps) gs → without_gifts (ps ++ qs) gs ≡ without_gifts ps gs ++ qs
without_append ps qs [] h = refl
without_append ps qs (g ∷ gs) h =
    ap (λ xs. without_gifts xs gs) (emptied_append ps qs g.piece h.0)
    ∙ without_append (emptied ps g.piece) qs gs (subst (λ (m : ℕ). AreGifts m gs) (sym (emptied_length ps g.piece)) h.2)

pub piece_append : (ps qs : List (List Address)) (p : ℕ) → p < length ps → piece_at (ps ++ qs) p ≡ piece_at ps p
piece_append [] qs p h = absurd (omega arith)
piece_append (x ∷ ps) qs zero h = refl
piece_append (x ∷ ps) qs (suc p) h = piece_append ps qs p (omega arith)

-- shares depend on the given pieces alone
abbrev pub SamePieces : List (List Address) → List (List Address) → List Gift → Type 0
SamePieces ps qs [] = ⊤
SamePieces ps qs (g ∷ gs) = (piece_at ps g.piece ≡ piece_at qs g.piece) × SamePieces ps qs gs

pub shares_same : (ps qs shares : List (List Address)) (gs : List Gift) → SamePieces ps qs gs → with_gifts ps shares gs ≡ with_gifts qs shares gs
shares_same ps qs shares [] h = refl
shares_same ps qs shares (g ∷ gs) h =
    ap (λ (x : List Address). with_gifts ps (given shares (g.agent - 1) x) gs) h.0 ∙ shares_same ps qs (given shares (g.agent - 1) (piece_at qs g.piece)) gs h.1

same_joined : (ps : List (List Address)) (gs : List Gift) (p q : ℕ) (x : List Address) → AreGifts (length ps) gs → IsNotGiven p gs → IsNotGiven q gs → SamePieces (emptied (emptied ps p) q ++ x ∷ []) ps gs
same_joined ps [] p q x h m n = tt
same_joined ps (g ∷ gs) p q x h m n =
    let e = emptied_length (emptied ps p) q ∙ emptied_length ps p in (
      (piece_append (emptied (emptied ps p) q) (x ∷ []) g.piece (subst (λ (l : ℕ). g.piece < l) (sym e) h.0)
          ∙ other_piece (emptied ps p) q g.piece (λ f. n.0 (sym f)) ∙ other_piece ps p g.piece (λ f. m.0 (sym f))),
      same_joined ps gs p q x h.2 m.1 n.1,
    )

joined_map : (f : ℕ → Address) (ps : List (List ℕ)) (p q : ℕ) → map (map f) (join_pieces ps p q) ≡ join_pieces (map (map f) ps) p q
joined_map f ps p q =
    let y : map f (piece_at ps p) ++ map f (piece_at (emptied ps p) q) ≡ piece_at (map (map f) ps) p ++ piece_at (emptied (map (map f) ps) p) q =
    λ j. sym (piece_map f ps p) j ++ (sym (piece_map f (emptied ps p) q) ∙ ap (λ (xs : List (List Address)). piece_at xs q) (sym (emptied_map f ps p))) j in
    map-append (map f) (emptied (emptied ps p) q) ((piece_at ps p ++ piece_at (emptied ps p) q) ∷ [])
    ∙ (λ i. (sym (emptied_map f (emptied ps p) q) ∙ ap (λ (xs : List (List Address)). emptied xs q) (sym (emptied_map f ps p))) i
    ++ (map-append f (piece_at ps p) (piece_at (emptied ps p) q)
    ∙ y) i ∷ [])

-- the pieces of a way after a join
without_joined :
    (ps : List (List Address)) (gs : List Gift) (p q : ℕ) → p ≢ q → p < length ps → q < length ps → AreGifts (length ps) gs → IsNotGiven p gs → IsNotGiven q gs
    → without_gifts (join_pieces ps p q) gs ≡ join_pieces (without_gifts ps gs) p q
without_joined ps gs p q d k l h m n =
    let x : List Address = piece_at ps p ++ piece_at (emptied ps p) q in
    let len = emptied_length (emptied ps p) q ∙ emptied_length ps p in
    let w : List (List Address) = without_gifts ps gs in
    let y : x ≡ piece_at w p ++ piece_at (emptied w p) q = λ j. sym (not_given ps gs p m) j ++ (other_piece ps p q d ∙ sym (not_given ps gs q n) ∙ sym (other_piece w p q d)) j in
    without_append (emptied (emptied ps p) q) (x ∷ []) gs (subst (λ (z : ℕ). AreGifts z gs) (sym len) h)
    ∙ (λ i. (without_emptied (emptied ps p) gs q ∙ ap (λ (xs : List (List Address)). emptied xs q) (without_emptied ps gs p)) i
    ++ y i ∷ [])

pub gifts_more : (made more : ℕ) (gs : List Gift) → AreGifts made gs → AreGifts (made + more) gs
gifts_more made more [] h = tt
gifts_more made more (g ∷ gs) h = let l = h.0 in (omega (arith, l), h.1, gifts_more made more gs h.2)

pub map_length : (f : ℕ → Address) (ps : List (List ℕ)) → length (map (map f) ps) ≡ length ps
map_length f [] = refl
map_length f (x ∷ ps) = ap suc (map_length f ps)

pub joined_length : (ps : List (List ℕ)) (p q : ℕ) → length (join_pieces ps p q) ≡ length ps + 1
joined_length ps p q = grind (arith, common_steps)

pub joined_to : (s : Known) (p q : ℕ) → p ≢ q → p < length s.atoms.pieces → q < length s.atoms.pieces → IsNotGiven p s.gifts → IsNotGiven q s.gifts
    → IsJoined p q s (record s { atoms = record s.atoms { pieces = join_pieces s.atoms.pieces p q } })
joined_to s p q d a b m n k =
    let v = s.atoms in
    let ps = addresses_of v in
    let f = name_of v.olds in
    let len = map_length f v.pieces in
    let h : AreGifts (length ps) s.gifts = subst (λ (z : ℕ). AreGifts z s.gifts) (sym len) k.gifts in
    let j : addresses_of (record v { pieces = join_pieces v.pieces p q }) ≡ join_pieces ps p q = joined_map f v.pieces p q in
    record {
      regs = refl;
      way = λ i. record (way_of s) {
        pieces = (ap (λ (xs : List (List Address)). without_gifts xs s.gifts) j
            ∙ without_joined ps s.gifts p q d (subst (λ (z : ℕ). p < z) (sym len) a) (subst (λ (z : ℕ). q < z) (sym len) b) h m n) i;
        shares = (ap (λ (xs : List (List Address)). with_gifts xs (replicate v.agents []) s.gifts) j
            ∙ shares_same (join_pieces ps p q) ps (replicate v.agents []) s.gifts (same_joined ps s.gifts p q (piece_at ps p ++ piece_at (emptied ps p) q) h m n)) i;
      };
      known = record {
        numbering = numbering_join v p q k.numbering;
        regs = k.regs;
        conditions = k.conditions;
        gifts = subst (λ (z : ℕ). AreGifts z s.gifts) (sym (joined_length v.pieces p q)) (gifts_more (length v.pieces) 1 s.gifts k.gifts);
        owners = k.owners;
      };
    }
