-- The entries of a file, one after another.
use Rattle.std.proofs.Common.{◌≡◌, ◌≢◌, ◌∙◌, ℕ, suc, ◌+◌, ◌<◌, ◌==◌, Bool, true, false, if◌then◌else◌, List, [], ◌∷◌, ◌++◌, length, drop, Option, Some, None, ℤ, pos, codes, arith, refl, sym, ap, subst, append_assoc, append-nil, length-append}
use Rattle.std.specs.Prelude.{slice_index_or}
use Rattle.std.specs.List.{All}
use Rattle.std.proofs.lemmas.Bool.Decides.{nat_tests}
use Rattle.std.proofs.lemmas.List.Elements.{All-push, All-nil, All-cons, All-weaker, All-get_or}
use Rattle.std.proofs.Math.Seq.{drop-cons}
use Rattle.std.proofs.Math.ListN.{drop_of_length-le}
use Rattle.serde_json.specs.Data.{Data}
use Rattle.serde_json.specs.Events.{items_len}
use Rattle.serde_json.specs.View.{view, items_view}
use Rattle.serde_json.specs.declared.value.Value.{Value}
use Rattle.slice_num.specs.Valuation.{Valuation, IsValuation, IsSmall, cake_length}
use Rattle.slice_step.specs.ValuationShape.{IsSmallValuation}
use Rattle.slice_step.specs.ValuationFile.{Says, AllSay, Hold, last_number, or_nothing, numbers, entry_fault, or_else, each_fault, first_end, entries_fault}
use Rattle.slice_step.specs.declared.fault.ValuationFault.{ValuationFault}
use Rattle.slice_step.specs.declared.fault.ValuationFault.TheVariants as fault
use Rattle.slice_step.proofs.EntryLaws.{counts, last_is}

-- the entry at i, and the later ones
pub entry_at : (es : List Value) (i : ℕ) (e : Value) → i < length es → e ≡ slice_index_or es i e → drop i es ≡ e ∷ drop (i + 1) es
entry_at es i e h read =
    let one : suc i ≡ i + 1 = omega arith in
    drop-cons es i e h ∙ ap (λ (n : ℕ). slice_index_or es i e ∷ drop n es) one ∙ ap (λ (w : Value). w ∷ drop (i + 1) es) (sym read)

-- the first i entries are read
pub record SoFar (entries : List Value) (i cake_end : ℕ) (items : List Valuation) : Type 0 where
  pub count : length items ≡ i
  pub first : first_end (items_view entries) ≡ pos cake_end
  pub said : (vs : List Valuation) → AllSay (items_view (drop i entries)) vs → AllSay (items_view entries) (items ++ vs)
  pub faults : each_fault (i + 1) (pos cake_end) (items_view (drop i entries)) ≡ each_fault 1 (pos cake_end) (items_view entries)
  pub small : All IsSmallValuation items
  pub long : All (λ v. cake_length v ≡ cake_end) items

pub end_said : (d : Data) (v : Valuation) → Says d v → last_number (pos 0) (numbers (codes "ends") d) ≡ pos (cake_length v)
end_said d v s = ap (λ o. last_number (pos 0) (or_nothing o)) s.ends ∙ last_is 0 v.ends

pub first_read : (entries : List Value) (e : Value) (v : Valuation) → 0 < length entries → e ≡ slice_index_or entries 0 e → Says (view e) v → IsSmallValuation v
    → entry_fault 1 (pos (cake_length v)) (view e) ≡ None → SoFar entries 1 (cake_length v) (v ∷ [])
first_read [] e v h read s small none = absurd (omega (arith, h))
first_read (d ∷ ds) e v h read s small none = record {
  count = refl;
  first = ap (λ (x : Value). last_number (pos 0) (numbers (codes "ends") (view x))) (sym read) ∙ end_said (view e) v s;
  said = λ vs more. (subst (λ (x : Value). Says (view x) v) read s, more);
  faults = sym (ap (λ (x : Value). or_else (entry_fault 1 (pos (cake_length v)) (view x)) (each_fault 2 (pos (cake_length v)) (items_view ds))) (sym read) ∙ ap (λ o. or_else o (each_fault 2 (pos (cake_length v)) (items_view ds))) none);
  small = All-cons IsSmallValuation v [] small (All-nil IsSmallValuation);
  long = All-cons (λ w. cake_length w ≡ cake_length v) v [] refl (All-nil (λ w. cake_length w ≡ cake_length v));
}

pub next_read : (entries : List Value) (i cake_end : ℕ) (items : List Valuation) (e : Value) (v : Valuation) → SoFar entries i cake_end items → i < length entries → e ≡ slice_index_or entries i e
    → Says (view e) v → IsSmallValuation v → cake_length v ≡ cake_end → entry_fault (i + 1) (pos cake_end) (view e) ≡ None → SoFar entries (i + 1) cake_end (items ++ v ∷ [])
next_read entries i cake_end items e v far h read s small long none =
    let at = entry_at entries i e h read in
    record {
      count = (let n = length-append items (v ∷ []) in let m = far.count in omega (arith, n, m));
      first = far.first;
      said = λ vs more. subst (λ ws. AllSay (items_view entries) ws) (sym (append_assoc items (v ∷ []) vs)) (far.said (v ∷ vs) (subst (λ (es : List Value). AllSay (items_view es) (v ∷ vs)) (sym at) (s, more)));
      faults = (let two : i + 1 + 1 ≡ suc (i + 1) = omega arith in ap (λ n. each_fault n (pos cake_end) (items_view (drop (i + 1) entries))) two)
          ∙ sym (ap (λ o. or_else o (each_fault (suc (i + 1)) (pos cake_end) (items_view (drop (i + 1) entries)))) none)
          ∙ sym (ap (λ (es : List Value). each_fault (i + 1) (pos cake_end) (items_view es)) at)
          ∙ far.faults;
      small = All-push IsSmallValuation items v far.small small;
      long = All-push (λ w. cake_length w ≡ cake_end) items v far.long long;
    }

pub fault_read : (entries : List Value) (i cake_end : ℕ) (items : List Valuation) (e : Value) (f : ValuationFault) → SoFar entries i cake_end items → i < length entries → e ≡ slice_index_or entries i e
    → entry_fault (i + 1) (pos cake_end) (view e) ≡ Some f → each_fault 1 (pos cake_end) (items_view entries) ≡ Some f
fault_read entries i cake_end items e f far h read some =
    sym far.faults
    ∙ ap (λ (es : List Value). each_fault (i + 1) (pos cake_end) (items_view es)) (entry_at entries i e h read)
    ∙ ap (λ o. or_else o (each_fault (suc (i + 1)) (pos cake_end) (items_view (drop (i + 1) entries)))) some

-- as many entries as agents
if_is : {A : Type 0} (b : Bool) (x y : A) → b ≡ true → (if b then x else y) ≡ x
if_is true x y e = refl
if_is false x y e = cc

as_many : (entries : List Value) (agents : ℕ) → length entries ≡ agents → (items_len (items_view entries) == agents) ≡ true
as_many entries agents e = let n = counts entries in grind (arith, nat_tests)

pub not_as_many : (entries : List Value) (agents : ℕ) → length entries ≢ agents → entries_fault agents (items_view entries) ≡ Some fault.AgentCount
not_as_many entries agents h = if_not (items_len (items_view entries) == agents) _ _ (λ t. h (sym (counts entries) ∙ same_out (items_len (items_view entries)) agents t))
  where
    if_not : {A : Type 0} (b : Bool) (x y : A) → (b ≡ true → ⊥) → (if b then x else y) ≡ y
    if_not true x y h = absurd (h refl)
    if_not false x y h = refl

    same_out : (m n : ℕ) → (m == n) ≡ true → m ≡ n
    same_out m n h = grind (arith, nat_tests)

pub entries_each : (entries : List Value) (agents : ℕ) (o : Option ValuationFault) → length entries ≡ agents → each_fault 1 (first_end (items_view entries)) (items_view entries) ≡ o → entries_fault agents (items_view entries) ≡ o
entries_each entries agents o e is = if_is _ _ _ (as_many entries agents e) ∙ is

pub first_refused : (entries : List Value) (agents : ℕ) (e : Value) (f : ValuationFault) → length entries ≡ agents → 0 < length entries → e ≡ slice_index_or entries 0 e
    → ((cake_end : ℤ) → entry_fault 1 cake_end (view e) ≡ Some f) → entries_fault agents (items_view entries) ≡ Some f
first_refused [] agents e f n h read some = absurd (omega (arith, h))
first_refused (d ∷ ds) agents e f n h read some =
    entries_each (d ∷ ds) agents (Some f) n
    (ap (λ o. or_else o (each_fault 2 (first_end (items_view (d ∷ ds))) (items_view ds))) (subst (λ (x : Value). entry_fault 1 (first_end (items_view (d ∷ ds))) (view x) ≡ Some f) read (some _)))

pub later_refused : (entries : List Value) (agents i cake_end : ℕ) (items : List Valuation) (e : Value) (f : ValuationFault) → length entries ≡ agents → SoFar entries i cake_end items → i < length entries → e ≡ slice_index_or entries i e
    → entry_fault (i + 1) (pos cake_end) (view e) ≡ Some f → entries_fault agents (items_view entries) ≡ Some f
later_refused entries agents i cake_end items e f n far h read some =
    entries_each entries agents (Some f) n (ap (λ z. each_fault 1 z (items_view entries)) far.first ∙ fault_read entries i cake_end items e f far h read some)

-- all entries are read
pub record Done (entries : List Value) (agents : ℕ) (items : List Valuation) : Type 0 where
  pub hold : Hold (items_view entries) agents items
  pub none : entries_fault agents (items_view entries) ≡ None
  pub small : All IsSmallValuation items

pub all_read : (entries : List Value) (agents i cake_end : ℕ) (items : List Valuation) → length entries ≡ agents → i ≡ length entries → SoFar entries i cake_end items → Done entries agents items
all_read entries agents i cake_end items n e far =
    let over : drop i entries ≡ [] = drop_of_length-le entries (omega (arith, e)) in
    record {
      hold = record {
        said = subst (λ vs. AllSay (items_view entries) vs) (append-nil items) (far.said [] (subst (λ (es : List Value). AllSay (items_view es) []) (sym over) tt));
        list = record {
          one_each = far.count ∙ e ∙ n;
          valuations = All-weaker IsSmallValuation IsValuation (λ v h. h.0) items far.small;
          one_cake = λ k d l. (let one = All-get_or (λ v. cake_length v ≡ cake_end) items k d l far.long in
              All-weaker (λ v. cake_length v ≡ cake_end) (λ w. cake_length (slice_index_or items k d) ≡ cake_length w) (λ w is. one ∙ sym is) items far.long);
        };
        small = All-weaker IsSmallValuation IsSmall (λ v h. h.1) items far.small;
      };
      none = entries_each entries agents None n
          (ap (λ z. each_fault 1 z (items_view entries)) far.first ∙ sym far.faults ∙ ap (λ (es : List Value). each_fault (i + 1) (pos cake_end) (items_view es)) over);
      small = far.small;
    }
