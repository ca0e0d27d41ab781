-- What the first rows of a goal say of a solution: the whole is above 0, and each agent's heights make it up.
use Rattle.std.proofs.Common.{◌≡◌, ◌∙◌, ℕ, zero, suc, ◌+◌, ◌-◌, ◌*◌, ◌≤◌, ◌<◌, arith, refl, sym, ap, subst, Bool, true, false, List, [], ◌∷◌, ◌++◌, map, length, length-append, length-take, length-drop, ◌==◌, get_or, take, drop, ℤ, pos, negsuc, ◌≤ℤ◌, ◌<ℤ◌, sum, append_assoc, append-nil}
use Rattle.std.specs.Prelude.{if◌then◌else◌, unsigned_abs}
use Rattle.std.specs.List.{All}
use Rattle.std.proofs.lemmas.Int.{ints}
use Rattle.std.proofs.lemmas.List.{length-map, map-append, take-append-drop}
use Rattle.std.proofs.lemmas.List.Elements.{All-nil, All-cons}
use Rattle.std.proofs.lemmas.Bool.Decides.{nat_tests}
use Rattle.slice_num.specs.Rational.{Rational, plus, minus, negated, times, whole, IsBelow}
use Rattle.slice_num.proofs.Laws.{plus_zero, plus_comm}
use Rattle.slice_num.proofs.FieldLaws.{one_above, one_times, times_one, times_comm, zero_times, times_negated, plus_zero_right, minus_zero, minus_same_out, whole_plus, whole_same, whole_below_out}
use Rattle.slice_core.specs.Agents.{IsAgent}
use Rattle.slice_linear.specs.Rows.{Holds}
use Rattle.slice_linear.specs.LowestRow.{lowest}
use Rattle.slice_linear.specs.Proportion.{AllTimes, Meets, dot_of}
use Rattle.slice_linear.proofs.LowestLaws.{lowest_factor}
use Rattle.slice_linear.proofs.Dots.{dot-append, kind_in}
use Rattle.slice_atoms.specs.Addresses.{Address, Cake, atoms, times_held}
use Rattle.slice_atoms.specs.Forms.{fixed_form, agent_coefs, all_coefs}
use Rattle.slice_paths.specs.Places.{Condition, whole_condition}
use Rattle.slice_paths.specs.Goals.{row_of}
use Rattle.slice_linear.specs.declared.row.RowKind.TheVariants.{Above}
use Rattle.slice_paths.proofs.Fits.{none, one, sum_agents}
use Rattle.slice_paths.proofs.AgentSums.{agents_one}
use Rattle.slice_counter.specs.Counter.{lists_of}
use Rattle.slice_counter.proofs.UnitSteps.{sum-cons}

-- ---- the numbers agent by agent
abbrev pub numbers_of : (ℕ → List ℕ) → ℕ → List ℤ
numbers_of heights zero = []
numbers_of heights (suc n) = numbers_of heights n ++ map pos (heights (suc n))

numbers_same : (f g : ℕ → List ℕ) (n : ℕ) → ((a : ℕ) → 1 ≤ a → a ≤ n → f a ≡ g a) → numbers_of f n ≡ numbers_of g n
numbers_same f g zero h = refl
numbers_same f g (suc n) h = λ i. numbers_same f g n (λ a p q. h a p (omega arith)) i ++ map pos (h (suc n) (omega arith) (omega arith) i)

-- the first agent's come first
numbers_first : (f : ℕ → List ℕ) (n : ℕ) → numbers_of f (suc n) ≡ map pos (f 1) ++ numbers_of (λ a. f (suc a)) n
numbers_first f zero = sym (append-nil (map pos (f 1)))
numbers_first f (suc n) = ap (λ (zs : List ℤ). zs ++ map pos (f (suc (suc n)))) (numbers_first f n) ∙ append_assoc (map pos (f 1)) (numbers_of (λ a. f (suc a)) n) (map pos (f (suc (suc n))))

-- the list of agent a
abbrev pub list_at : List (List ℕ) → ℕ → List ℕ
list_at hss a = get_or hss (a - 1) []

abbrev flat : List (List ℕ) → List ℤ
flat [] = []
flat (hs ∷ hss) = map pos hs ++ flat hss

flat_numbers : (hss : List (List ℕ)) → flat hss ≡ numbers_of (list_at hss) (length hss)
flat_numbers [] = refl
flat_numbers (hs ∷ hss) =
    ap (λ (zs : List ℤ). map pos hs ++ zs) (flat_numbers hss ∙ numbers_same (list_at hss) (λ a. list_at (hs ∷ hss) (suc a)) (length hss) later)
    ∙ sym (numbers_first (list_at (hs ∷ hss)) (length hss))
  where
    later : (a : ℕ) → 1 ≤ a → a ≤ length hss → list_at hss a ≡ list_at (hs ∷ hss) (suc a)
    later zero p q = absurd (omega (arith, p))
    later (suc a) p q = ap (λ (i : ℕ). get_or hss i []) (minus_one a) ∙ ap (λ (i : ℕ). get_or (hs ∷ hss) i []) (sym (minus_two a))
      where
        minus_one : (x : ℕ) → suc x - 1 ≡ x
        minus_one x = omega arith

        minus_two : (x : ℕ) → suc (suc x) - 1 ≡ suc x
        minus_two x = omega arith

abbrev pub NotBelow : ℤ → Type 0
NotBelow z = pos 0 ≤ℤ z

back_from_abs : (zs : List ℤ) → All NotBelow zs → map pos (map unsigned_abs zs) ≡ zs
back_from_abs [] h = refl
back_from_abs (z ∷ zs) h = λ i. one_back z (h 0 z (omega arith)) i ∷ back_from_abs zs (λ j d l. h (suc j) d (omega (arith, l))) i
  where
    one_back : (x : ℤ) → pos 0 ≤ℤ x → pos (unsigned_abs x) ≡ x
    one_back (pos n) p = refl
    one_back (negsuc n) p = absurd (omega (arith, ints, p))

all_take_of : (P : ℤ → Type 0) (k : ℕ) (zs : List ℤ) → All P zs → All P (take k zs)
all_take_of P zero zs h = All-nil P
all_take_of P (suc k) [] h = h
all_take_of P (suc k) (z ∷ zs) h = All-cons P z (take k zs) (h 0 z (omega arith)) (all_take_of P k zs (λ j d l. h (suc j) d (omega (arith, l))))

all_drop_of : (P : ℤ → Type 0) (k : ℕ) (zs : List ℤ) → All P zs → All P (drop k zs)
all_drop_of P zero zs h = h
all_drop_of P (suc k) [] h = h
all_drop_of P (suc k) (z ∷ zs) h = all_drop_of P k zs (λ j d l. h (suc j) d (omega (arith, l)))

pub length_lists : (n size : ℕ) (zs : List ℤ) → length (lists_of n size zs) ≡ n
length_lists zero size zs = refl
length_lists (suc n) size zs = ap suc (length_lists n size (drop size zs))

flat_lists : (n size : ℕ) (zs : List ℤ) → All NotBelow zs → length zs ≡ n * size → flat (lists_of n size zs) ≡ zs
flat_lists zero size [] h e = refl
flat_lists zero size (z ∷ zs) h e = absurd (omega (arith, e))
flat_lists (suc n) size zs h e =
    (λ i. back_from_abs (take size zs) (all_take_of NotBelow size zs h) i ++ flat_lists n size (drop size zs) (all_drop_of NotBelow size zs h) (omega (arith, length-drop size zs, e)) i)
    ∙ take-append-drop size zs

pub numbers_are : (n size : ℕ) (zs : List ℤ) → All NotBelow zs → length zs ≡ n * size → zs ≡ numbers_of (list_at (lists_of n size zs)) n
numbers_are n size zs h e =
    sym (flat_lists n size zs h e) ∙ flat_numbers (lists_of n size zs) ∙ ap (numbers_of (list_at (lists_of n size zs))) (length_lists n size zs)

pub lists_long : (n size : ℕ) (zs : List ℤ) (i : ℕ) → i < n → length zs ≡ n * size → length (get_or (lists_of n size zs) i []) ≡ size
lists_long zero size zs i l e = absurd (omega (arith, l))
lists_long (suc n) size zs zero l e = length-map (take size zs) unsigned_abs ∙ length-take size zs ∙ omega (arith, e)
lists_long (suc n) size zs (suc i) l e = lists_long n size (drop size zs) i (omega (arith, l)) (omega (arith, length-drop size zs, e))

-- heights are no greater than the numbers
abs_up_to : (m : ℕ) (zs : List ℤ) → All (λ z. z ≤ℤ pos m) zs → All NotBelow zs → All (λ (h : ℕ). h ≤ m) (map unsigned_abs zs)
abs_up_to m [] h b = All-nil _
abs_up_to m (z ∷ zs) h b = All-cons (λ (x : ℕ). x ≤ m) (unsigned_abs z) (map unsigned_abs zs) (one_up_to z (h 0 z (omega arith)) (b 0 z (omega arith))) (abs_up_to m zs (λ j d l. h (suc j) d (omega (arith, l))) (λ j d l. b (suc j) d (omega (arith, l))))
  where
    one_up_to : (x : ℤ) → x ≤ℤ pos m → pos 0 ≤ℤ x → unsigned_abs x ≤ m
    one_up_to (pos n) p q = omega (arith, ints, p)
    one_up_to (negsuc n) p q = absurd (omega (arith, ints, q))

pub lists_up_to : (n size m : ℕ) (zs : List ℤ) (i : ℕ) → i < n → All (λ z. z ≤ℤ pos m) zs → All NotBelow zs → All (λ (h : ℕ). h ≤ m) (get_or (lists_of n size zs) i [])
lists_up_to zero size m zs i l h b = absurd (omega (arith, l))
lists_up_to (suc n) size m zs zero l h b = abs_up_to m (take size zs) (all_take_of (λ z. z ≤ℤ pos m) size zs h) (all_take_of NotBelow size zs b)
lists_up_to (suc n) size m zs (suc i) l h b = lists_up_to n size m (drop size zs) i (omega (arith, l)) (all_drop_of (λ z. z ≤ℤ pos m) size zs h) (all_drop_of NotBelow size zs b)

pub list_long : (n size : ℕ) (zs : List ℤ) (a : ℕ) → IsAgent n a → length zs ≡ n * size → length (list_at (lists_of n size zs) a) ≡ size
list_long n size zs a is e = lists_long n size zs (a - 1) (omega (arith, is.0, is.1)) e

-- ---- rows over the numbers themselves
abbrev wholes : List ℤ → List Rational
wholes zs = map whole zs

self_times : (zs : List ℤ) → AllTimes one zs (wholes zs)
self_times [] = tt
self_times (z ∷ zs) = (sym (one_times (whole z)), self_times zs)

pub row_back : (n : ℕ) (k : Cake) (xs : List ℤ) (d : Condition) → Holds xs (row_of n k d) → Meets d.kind (dot_of (all_coefs n k d.form) (wholes xs))
row_back n k xs d h =
    let f = lowest_factor (all_coefs n k d.form) in
    kind_in d.kind f.factor one (lowest (all_coefs n k d.form)) xs (all_coefs n k d.form) (wholes xs) f.above one_above f.each (self_times xs) h

-- the sum over the agents' lists
module _ (n : ℕ) (k : Cake) (heights : ℕ → List ℕ) (long : (a : ℕ) → IsAgent n a → length (heights a) ≡ length (atoms k)) where
  abbrev part : (ℕ → Address → Rational) → ℕ → Rational
  part f b = dot_of (map (f b) (atoms k)) (wholes (map pos (heights b)))

  lengths : (f : ℕ → Address → Rational) (m : ℕ) → m ≤ n → length (agent_coefs m k f) ≡ length (wholes (numbers_of heights m))
  lengths f zero h = refl
  lengths f (suc m) h =
      length-append (agent_coefs m k f) (map (f (suc m)) (atoms k))
      ∙ (λ i. lengths f m (omega arith) i + (length-map (atoms k) (f (suc m)) ∙ sym (long (suc m) (omega arith, h)) ∙ sym (length-map (heights (suc m)) pos) ∙ sym (length-map (map pos (heights (suc m))) whole)) i)
      ∙ sym (length-append (wholes (numbers_of heights m)) (wholes (map pos (heights (suc m)))))
      ∙ ap length (sym (map-append whole (numbers_of heights m) (map pos (heights (suc m)))))

  agents_split : (f : ℕ → Address → Rational) (m : ℕ) → m ≤ n → dot_of (agent_coefs m k f) (wholes (numbers_of heights m)) ≡ sum_agents m (part f)
  agents_split f zero h = refl
  agents_split f (suc m) h =
      ap (dot_of (agent_coefs (suc m) k f)) (map-append whole (numbers_of heights m) (map pos (heights (suc m))))
      ∙ dot-append (agent_coefs m k f) (map (f (suc m)) (atoms k)) (wholes (numbers_of heights m)) (wholes (map pos (heights (suc m)))) (lengths f m (omega arith))
      ∙ ap (λ (q : Rational). plus q (part f (suc m))) (agents_split f m (omega arith))

zeros : (as_ : List Address) (f : Address → Rational) (vs : List Rational) → ((A : Address) → f A ≡ none) → dot_of (map f as_) vs ≡ none
zeros [] f vs h = refl
zeros (x ∷ as_) f [] h = refl
zeros (x ∷ as_) f (v ∷ vs) h = (λ i. plus ((ap (λ (q : Rational). times q v) (h x) ∙ zero_times v) i) (zeros as_ f vs h i)) ∙ plus_zero none

ones : (as_ : List Address) (f : Address → Rational) (hs : List ℕ) → ((A : Address) → f A ≡ one) → length as_ ≡ length hs → dot_of (map f as_) (wholes (map pos hs)) ≡ whole (pos (sum hs))
ones [] f [] h e = refl
ones [] f (y ∷ hs) h e = absurd (omega (arith, e))
ones (x ∷ as_) f [] h e = absurd (omega (arith, e))
ones (x ∷ as_) f (y ∷ hs) h e =
    (λ i. plus ((ap (λ (q : Rational). times q (whole (pos y))) (h x) ∙ one_times (whole (pos y))) i) (ones as_ f hs h (omega (arith, e)) i))
    ∙ sym (whole_plus (pos y) (pos (sum hs))) ∙ ap (λ (z : ℕ). whole (pos z)) (sym (sum-cons y hs))

agents_zero : (n : ℕ) (f : ℕ → Rational) → ((a : ℕ) → f a ≡ none) → sum_agents n f ≡ none
agents_zero zero f h = refl
agents_zero (suc n) f h = (λ i. plus (agents_zero n f h i) (h (suc n) i)) ∙ plus_zero none

module _ (n : ℕ) (k : Cake) (total : ℤ) (heights : ℕ → List ℕ) (long : (a : ℕ) → IsAgent n a → length (heights a) ≡ length (atoms k)) where
  abbrev xs : List ℤ
  xs = total ∷ numbers_of heights n

  -- the whole is above 0
  pub total_above : Holds xs (row_of n k (record { kind = Above; form = fixed_form one })) → pos 0 <ℤ total
  total_above h =
      whole_below_out (pos 0) total
      (subst (λ (q : Rational). IsBelow none q)
      (ap (plus (times one (whole total))) (agents_split n k heights long (λ b B. none) n (omega arith) ∙ agents_zero n _ (λ b. zeros (atoms k) (λ B. none) (wholes (map pos (heights b))) (λ A. refl))) ∙ plus_zero_right (times one (whole total)) ∙ one_times (whole total))
      (row_back n k xs (record { kind = Above; form = fixed_form one }) h))

  -- each agent's heights make up the whole
  pub heights_full : (a : ℕ) → IsAgent n a → Holds xs (row_of n k (whole_condition a)) → pos (sum (heights a)) ≡ total
  heights_full a is h = whole_same (pos (sum (heights a))) total (minus_same_out (whole (pos (sum (heights a)))) (whole total) (sym is_minus ∙ row_back n k xs (whole_condition a) h))
    where
      f : ℕ → Address → Rational
      f b B = minus (if b == a then times_held ([] ∷ []) B else none) none

      not_same : (b : ℕ) → (b ≡ a → ⊥) → (b == a) ≡ false
      not_same b ne = grind (arith, nat_tests)

      same : (b : ℕ) → (b == b) ≡ true
      same b = grind (arith, nat_tests)

      other : (e : Bool) → e ≡ false → (B : Address) → minus (if e then times_held ([] ∷ []) B else none) none ≡ none
      other true e B = cc
      other false e B = minus_zero none

      here : (e : Bool) → e ≡ true → (B : Address) → minus (if e then times_held ([] ∷ []) B else none) none ≡ one
      here true e B = minus_zero (plus one none) ∙ plus_zero_right one
      here false e B = cc

      alone : sum_agents n (part n k heights long f) ≡ whole (pos (sum (heights a)))
      alone =
          agents_one n a (part n k heights long f) is.0 is.1 (λ b ne. zeros (atoms k) (f b) (wholes (map pos (heights b))) (other (b == a) (not_same b ne)))
          ∙ ones (atoms k) (f a) (heights a) (here (a == a) (same a)) (sym (long a is))

      less : times (minus none one) (whole total) ≡ negated (whole total)
      less = ap (λ (q : Rational). times q (whole total)) (plus_zero (negated one)) ∙ times_comm (negated one) (whole total) ∙ times_negated (whole total) one ∙ ap negated (times_one (whole total))

      is_minus : dot_of (all_coefs n k (whole_condition a).form) (wholes xs) ≡ minus (whole (pos (sum (heights a)))) (whole total)
      is_minus = (λ i. plus (less i) ((agents_split n k heights long f n (omega arith) ∙ alone) i)) ∙ plus_comm (negated (whole total)) (whole (pos (sum (heights a))))
