-- The unknowns of atoms, and an atom that makes way for two others.
use Rattle.std.proofs.Common.{◌≡◌, ◌∙◌, ℕ, zero, suc, ◌+◌, ◌*◌, ◌≤◌, ◌<◌, ◌==◌, arith, refl, sym, ap, Bool, true, false, List, [], ◌∷◌, ◌++◌, length, get_or, pos}
use Rattle.std.specs.Prelude.{map, if◌then◌else◌, ◌||◌, ◌&&◌, nat_le}
use Rattle.std.proofs.lemmas.Bool.Decides.{nat_tests}
use Rattle.slice_num.specs.Rational.{Rational, whole}
use Rattle.slice_num.specs.Pieces.{piece_at}
use Rattle.slice_linear.specs.declared.forms.Term.{Term}
use Rattle.slice_num.specs.declared.key.Key.{Key}
use Rattle.slice_linear.specs.Terms.{coef_of, whole_key, is_same, is_among, IsReplaced, IsKeySum}
use Rattle.slice_atoms.specs.Numbers.{Numbering, IsNumbering, unknowns, agent_keys, all_keys, one_at, sum_over, part_of, next_atom, split_in}
use Rattle.slice_atoms.proofs.Cuts.{number_given, part_there, split_sums, piece_among}
use Rattle.slice_paths.specs.Spots.{IsWithin, IsSplit}
use Rattle.slice_paths.specs.Steps.{CanSplit, AllCanSplit, AllSplit, ConditionsSplit}
use Rattle.slice_paths.specs.declared.spot.Condition as held

abbrev pub is_one_of : ℕ → ℕ → Bool
is_one_of n a = nat_le 1 a && nat_le a n

pub unknowns_among : (a : ℕ) (ms : List ℕ) (k : Key) → is_among (unknowns a ms) k ≡ (a == k.agent) && nat_le 1 (sum_over (one_at k.atom) ms)
unknowns_among a [] k = grind (arith, nat_tests)
unknowns_among a (m ∷ ms) k = by (m == k.atom) refl (unknowns_among a ms k)
  where
    by : (b : Bool) → (m == k.atom) ≡ b → is_among (unknowns a ms) k ≡ (a == k.agent) && nat_le 1 (sum_over (one_at k.atom) ms)
        → is_among (unknowns a (m ∷ ms)) k ≡ (a == k.agent) && nat_le 1 (sum_over (one_at k.atom) (m ∷ ms))
    by true e h =
        let o : one_at k.atom m ≡ 1 = grind (arith, nat_tests) in
        let t : nat_le 1 (one_at k.atom m + sum_over (one_at k.atom) ms) ≡ true = grind (arith, nat_tests) in
        grind (arith, nat_tests)
    by false e h =
        let o : one_at k.atom m ≡ 0 = grind (arith, nat_tests) in
        let t : nat_le 1 (one_at k.atom m + sum_over (one_at k.atom) ms) ≡ nat_le 1 (sum_over (one_at k.atom) ms) = (let u : one_at k.atom m + sum_over (one_at k.atom) ms ≡ sum_over (one_at k.atom) ms = omega (arith, o) in ap (nat_le 1) u) in
        grind (arith, nat_tests)

among_append : (js ks : List Key) (k : Key) → is_among (js ++ ks) k ≡ is_among js k || is_among ks k
among_append [] ks k = refl
among_append (j ∷ js) ks k = let h = among_append js ks k in grind arith

keys_among : (n : ℕ) (order : List ℕ) (k : Key) → is_among (agent_keys n order) k ≡ is_one_of n k.agent && nat_le 1 (sum_over (one_at k.atom) order)
keys_among zero order k = grind (arith, nat_tests)
keys_among (suc n) order k =
    let a = among_append (agent_keys n order) (unknowns (suc n) order) k in
    let b = keys_among n order k in
    let c = unknowns_among (suc n) order k in
    let d : is_one_of (suc n) k.agent ≡ is_one_of n k.agent || (suc n == k.agent) = grind (arith, nat_tests) in
    grind arith

pub all_among : (n : ℕ) (order : List ℕ) (k : Key) → is_among (all_keys n order) k ≡ is_same whole_key k || (is_one_of n k.agent && nat_le 1 (sum_over (one_at k.atom) order))
all_among n order k = ap (λ (b : Bool). is_same whole_key k || b) (keys_among n order k)

none_of : (x : ℕ) → (1 ≤ x → ⊥) → x ≡ 0
none_of zero f = refl
none_of (suc x) f = absurd (f (omega arith))

new_number : (v : Numbering) (m : ℕ) → IsNumbering v → 2 * length v.olds + 1 < m → sum_over (one_at m) v.order ≡ 0
new_number v m h l = none_of (sum_over (one_at m) v.order) (λ c. (let g = number_given (2 * length v.olds + 1) m v.order h.given c in let b = g.1 in omega (arith, b, l)))

-- the unknowns of a piece are among all
pub piece_within : (v : Numbering) (n a p : ℕ) (zs : List Term) → IsNumbering v → 1 ≤ a → a ≤ n → IsKeySum (unknowns a (piece_at v.pieces p)) zs → IsWithin (all_keys n v.order) zs
piece_within v n a p zs h one few s k e =
    s k ∙ ap (λ (b : Bool). if b then whole (pos 1) else whole (pos 0)) (by (is_among (unknowns a (piece_at v.pieces p)) k) refl)
  where
    by : (b : Bool) → is_among (unknowns a (piece_at v.pieces p)) k ≡ b → b ≡ false
    by false f = refl
    by true f =
        let g = sym (unknowns_among a (piece_at v.pieces p) k) ∙ f in
        let c = piece_among (one_at k.atom) v.pieces p in
        let d = h.held (one_at k.atom) in
        let i : k.agent ≡ a = grind (arith, nat_tests) in
        let j : 1 ≤ sum_over (one_at k.atom) (piece_at v.pieces p) = grind (arith, nat_tests) in
        let l : 1 ≤ sum_over (one_at k.atom) v.order = omega (arith, c, d, j) in
        let o = sym (all_among n v.order k) ∙ e in
        let w : ⊥ = grind (arith, nat_tests) in
        absurd w

-- ---- an atom makes way for two others
pub can_split : (v : Numbering) (n p part : ℕ) (xs : List Term) → IsNumbering v → part < length (piece_at v.pieces p) → IsWithin (all_keys n v.order) xs
    → CanSplit n (part_of v p part) (next_atom v) (next_atom v + 1) xs
can_split v n p part xs h q w =
    let old = part_of v p part in
    let g = number_given (2 * length v.olds + 1) old v.order h.given (part_there v p part h q) in
    let one = g.0 in
    record {
      left_new = λ a. fresh (next_atom v) a (omega arith);
      right_new = λ a. fresh (next_atom v + 1) a (omega arith);
      nobody = λ a e. w (record { agent = a; atom = old }) (all_among n v.order (record { agent = a; atom = old }) ∙ (let x : is_same whole_key (record { agent = a; atom = old }) ≡ false = grind (arith, nat_tests) in grind arith));
    }
  where
    fresh : (m a : ℕ) → 2 * length v.olds + 1 < m → coef_of xs (record { agent = a; atom = m }) ≡ whole (pos 0)
    fresh m a l =
        let z = new_number v m h l in
        let t : nat_le 1 (sum_over (one_at m) v.order) ≡ false = ap (nat_le 1) z in
        let x : is_same whole_key (record { agent = a; atom = m }) ≡ false = grind (arith, nat_tests) in
        w (record { agent = a; atom = m }) (all_among n v.order (record { agent = a; atom = m }) ∙ grind arith)

pub split_within : (v : Numbering) (n p part : ℕ) (xs zs : List Term) → IsNumbering v → part < length (piece_at v.pieces p) → IsWithin (all_keys n v.order) xs
    → IsSplit (part_of v p part) (next_atom v) (next_atom v + 1) xs zs → IsWithin (all_keys n (split_in (part_of v p part) (next_atom v) (next_atom v + 1) v.order)) zs
split_within v n p part xs zs h q w s k e = s.1 k.agent k.atom ∙ by (k.atom == l || k.atom == r) (k.atom == old) refl refl
  where
    old : ℕ
    old = part_of v p part

    l : ℕ
    l = next_atom v

    r : ℕ
    r = next_atom v + 1

    by : (b c : Bool) → (k.atom == l || k.atom == r) ≡ b → (k.atom == old) ≡ c
        → (if b then coef_of xs (record { agent = k.agent; atom = old }) else (if c then whole (pos 0) else coef_of xs (record { agent = k.agent; atom = k.atom }))) ≡ whole (pos 0)
    by true c f g =
        let there = number_given (2 * length v.olds + 1) old v.order h.given (part_there v p part h q) in
        let one = there.0 in
        let few = there.1 in
        let t = split_sums v p part h q (one_at k.atom) in
        let z : one_at k.atom old ≡ 0 = grind (arith, nat_tests) in
        let y : 1 ≤ one_at k.atom l + one_at k.atom r = grind (arith, nat_tests) in
        let m : 1 ≤ sum_over (one_at k.atom) (split_in old l r v.order) = omega (arith, t, z, y) in
        let o = sym (all_among n (split_in old l r v.order) k) ∙ e in
        let d : is_one_of n k.agent ≡ false = grind (arith, nat_tests) in
        let x : is_same whole_key (record { agent = k.agent; atom = old }) ≡ false = grind (arith, nat_tests) in
        w (record { agent = k.agent; atom = old }) (all_among n v.order (record { agent = k.agent; atom = old }) ∙ grind arith)
    by false true f g = refl
    by false false f g =
        let t = split_sums v p part h q (one_at k.atom) in
        let z : one_at k.atom old ≡ 0 = grind (arith, nat_tests) in
        let y : one_at k.atom l + one_at k.atom r ≡ 0 = grind (arith, nat_tests) in
        let m : sum_over (one_at k.atom) (split_in old l r v.order) ≡ sum_over (one_at k.atom) v.order = omega (arith, t, z, y) in
        let o = sym (all_among n (split_in old l r v.order) k) ∙ e in
        w k (all_among n v.order k ∙ ap (λ (x : ℕ). is_same whole_key k || (is_one_of n k.agent && nat_le 1 x)) (sym m) ∙ o)

-- ---- agent by agent
abbrev pub split_coef : ℕ → ℕ → ℕ → List Term → Key → Rational
split_coef old l r xs k =
    if k.atom == l || k.atom == r then coef_of xs (record { agent = k.agent; atom = old }) else (if k.atom == old then whole (pos 0) else coef_of xs k)

abbrev pub SplitTo : ℕ → ℕ → ℕ → ℕ → List Term → List Term → Type 0
SplitTo i old l r xs zs = (k : Key) → coef_of zs k ≡ (if is_one_of i k.agent then split_coef old l r xs k else coef_of xs k)

pub split_none : (old l r : ℕ) (xs : List Term) → SplitTo 0 old l r xs xs
split_none old l r xs k = let e : is_one_of 0 k.agent ≡ false = grind (arith, nat_tests) in sym (ap (λ (b : Bool). if b then split_coef old l r xs k else coef_of xs k) e)

pub split_later : (i old l r m : ℕ) (xs zs : List Term) → SplitTo i old l r xs zs → coef_of zs (record { agent = i + 1; atom = m }) ≡ coef_of xs (record { agent = i + 1; atom = m })
split_later i old l r m xs zs s =
    let k : Key = record { agent = i + 1; atom = m } in
    let e : is_one_of i (i + 1) ≡ false = grind (arith, nat_tests) in
    s k ∙ ap (λ (b : Bool). if b then split_coef old l r xs k else coef_of xs k) e

pub split_next : (i old l r : ℕ) (xs zs ws : List Term) → SplitTo i old l r xs zs
    → IsReplaced (record { agent = i + 1; atom = old }) (record { agent = i + 1; atom = l }) (record { agent = i + 1; atom = r }) zs ws → SplitTo (i + 1) old l r xs ws
split_next i old l r xs zs ws s h k = h k ∙ by (k.agent == i + 1) refl
  where
    o : Key
    o = record { agent = i + 1; atom = old }

    replaced : Bool → Bool → Rational
    replaced b c = if b then coef_of zs o else (if c then whole (pos 0) else coef_of zs k)

    by : (a : Bool) → (k.agent == i + 1) ≡ a
        → (if is_same (record { agent = i + 1; atom = l }) k || is_same (record { agent = i + 1; atom = r }) k then coef_of zs o else (if is_same o k then whole (pos 0) else coef_of zs k))
        ≡ (if is_one_of (i + 1) k.agent then split_coef old l r xs k else coef_of xs k)
    by true e =
        let f : k.agent ≡ i + 1 = grind (arith, nat_tests) in
        let x : (is_same (record { agent = i + 1; atom = l }) k || is_same (record { agent = i + 1; atom = r }) k) ≡ (k.atom == l || k.atom == r) = grind (arith, nat_tests) in
        let y : is_same o k ≡ (k.atom == old) = grind (arith, nat_tests) in
        let z : is_one_of (i + 1) k.agent ≡ true = grind (arith, nat_tests) in
        let u : is_one_of i k.agent ≡ false = grind (arith, nat_tests) in
        let same : coef_of zs k ≡ coef_of xs k = s k ∙ ap (λ (b : Bool). if b then split_coef old l r xs k else coef_of xs k) u in
        let first : coef_of zs o ≡ coef_of xs (record { agent = k.agent; atom = old }) = split_later i old l r old xs zs s ∙ ap (λ (a : ℕ). coef_of xs (record { agent = a; atom = old })) (sym f) in
        (λ j. if x j then first j else (if y j then whole (pos 0) else same j)) ∙ sym (ap (λ (b : Bool). if b then split_coef old l r xs k else coef_of xs k) z)
    by false e =
        let x : (is_same (record { agent = i + 1; atom = l }) k || is_same (record { agent = i + 1; atom = r }) k) ≡ false = grind (arith, nat_tests) in
        let y : is_same o k ≡ false = grind (arith, nat_tests) in
        let z : is_one_of i k.agent ≡ is_one_of (i + 1) k.agent = grind (arith, nat_tests) in
        (λ j. if x j then coef_of zs o else (if y j then whole (pos 0) else coef_of zs k)) ∙ s k ∙ ap (λ (b : Bool). if b then split_coef old l r xs k else coef_of xs k) z

pub split_all : (n old l r : ℕ) (xs zs : List Term) → 1 ≤ old → 1 ≤ l → 1 ≤ r → CanSplit n old l r xs → SplitTo n old l r xs zs → IsSplit old l r xs zs
split_all n old l r xs zs d e f c s = (let g : is_one_of n 0 ≡ false = grind (arith, nat_tests) in s whole_key ∙ ap (λ (b : Bool). if b then split_coef old l r xs whole_key else coef_of xs whole_key) g, λ a m. at a m)
  where
    at : (a m : ℕ) → coef_of zs (record { agent = a; atom = m }) ≡ split_coef old l r xs (record { agent = a; atom = m })
    at a m = s k ∙ by (is_one_of n a) (m == l) (m == r) (m == old) refl refl refl refl
      where
        k : Key
        k = record { agent = a; atom = m }

        by : (b x y z : Bool) → is_one_of n a ≡ b → (m == l) ≡ x → (m == r) ≡ y → (m == old) ≡ z
            → (if b then split_coef old l r xs k else coef_of xs k) ≡ split_coef old l r xs k
        by true x y z i j t u = refl
        by false true y z i j t u =
            let g : m ≡ l = grind (arith, nat_tests) in
            let w : (m == l || m == r) ≡ true = grind arith in
            ap (λ (q : ℕ). coef_of xs (record { agent = a; atom = q })) g ∙ c.left_new a ∙ sym (c.nobody a i)
            ∙ sym (ap (λ (q : Bool). if q then coef_of xs (record { agent = a; atom = old }) else (if m == old then whole (pos 0) else coef_of xs k)) w)
        by false false true z i j t u =
            let g : m ≡ r = grind (arith, nat_tests) in
            let w : (m == l || m == r) ≡ true = grind arith in
            ap (λ (q : ℕ). coef_of xs (record { agent = a; atom = q })) g ∙ c.right_new a ∙ sym (c.nobody a i)
            ∙ sym (ap (λ (q : Bool). if q then coef_of xs (record { agent = a; atom = old }) else (if m == old then whole (pos 0) else coef_of xs k)) w)
        by false false false true i j t u =
            let g : m ≡ old = grind (arith, nat_tests) in
            let w : (m == l || m == r) ≡ false = grind arith in
            ap (λ (q : ℕ). coef_of xs (record { agent = a; atom = q })) g ∙ c.nobody a i
            ∙ sym (λ q. if w q then coef_of xs (record { agent = a; atom = old }) else (if u q then whole (pos 0) else coef_of xs k))
        by false false false false i j t u =
            let w : (m == l || m == r) ≡ false = grind arith in
            sym (λ q. if w q then coef_of xs (record { agent = a; atom = old }) else (if u q then whole (pos 0) else coef_of xs k))

-- ---- all forms
pub can_at : (n old l r : ℕ) (xs : List (List Term)) (i : ℕ) (d : List Term) → i < length xs → AllCanSplit n old l r xs → CanSplit n old l r (get_or xs i d)
can_at n old l r [] i d h c = absurd (omega arith)
can_at n old l r (x ∷ xs) zero d h c = c.0
can_at n old l r (x ∷ xs) (suc i) d h c = can_at n old l r xs i d (omega arith) c.1

pub can_at_condition : (n old l r : ℕ) (cs : List held.Condition) (i : ℕ) (d : held.Condition) → i < length cs → AllCanSplit n old l r (map (λ c. c.form) cs) → CanSplit n old l r (get_or cs i d).form
can_at_condition n old l r [] i d h c = absurd (omega arith)
can_at_condition n old l r (x ∷ xs) zero d h c = c.0
can_at_condition n old l r (x ∷ xs) (suc i) d h c = can_at_condition n old l r xs i d (omega arith) c.1

pub split_put : (old l r : ℕ) (xs zs : List (List Term)) (x z : List Term) → AllSplit old l r xs zs → IsSplit old l r x z → AllSplit old l r (xs ++ x ∷ []) (zs ++ z ∷ [])
split_put old l r [] [] x z h s = (s, tt)
split_put old l r (y ∷ ys) (w ∷ ws) x z h s = (h.0, split_put old l r ys ws x z h.1 s)
split_put old l r [] (w ∷ ws) x z h s = absurd h
split_put old l r (y ∷ ys) [] x z h s = absurd h

pub split_condition_put : (old l r : ℕ) (xs zs : List held.Condition) (x z : held.Condition) → ConditionsSplit old l r xs zs → x.kind ≡ z.kind → IsSplit old l r x.form z.form
    → ConditionsSplit old l r (xs ++ x ∷ []) (zs ++ z ∷ [])
split_condition_put old l r [] [] x z h k s = (k, s, tt)
split_condition_put old l r (y ∷ ys) (w ∷ ws) x z h k s = (h.0, h.1, split_condition_put old l r ys ws x z h.2 k s)
split_condition_put old l r [] (w ∷ ws) x z h k s = absurd h
split_condition_put old l r (y ∷ ys) [] x z h k s = absurd h
