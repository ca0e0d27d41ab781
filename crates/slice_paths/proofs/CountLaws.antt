-- A count over parts is the number of goals.
use Rattle.std.proofs.Common.{◌≡◌, ◌∙◌, ℕ, zero, suc, ◌+◌, ◌-◌, ◌==◌, arith, refl, sym, ap, subst, Bool, true, false, List, [], ◌∷◌, ◌++◌, length, map, drop, append-nil, length-append}
use Rattle.std.specs.Prelude.{⊤, if◌then◌else◌, Option, Some, None}
use Rattle.std.proofs.lemmas.List.{length-map}
use Rattle.slice_num.specs.declared.choice.Choice.{Choice}
use Rattle.slice_num.specs.declared.choice.Choice.TheVariants.{Low, High, Yes, No}
use Rattle.slice_num.specs.Pieces.{piece_at, emptied, cut_pieces, join_pieces, each_part, passed}
use Rattle.slice_core.specs.Tree.{Tree, Ask, Set, Cut, Join, Test, Give, End}
use Rattle.slice_core.specs.declared.node.Lin.{Lin}
use Rattle.slice_atoms.specs.Addresses.{Address, left_of, right_of}
use Rattle.slice_atoms.specs.Forms.{Form, piece_form, sub_form}
use Rattle.slice_paths.specs.Ahead.{pairs_after, pairs_beyond, pairs_left, pairs_from}
use Rattle.slice_paths.specs.Counting.{part_count, used_counts, cut_counts, join_counts, over_parts, goals_on, goals_in_parts, one_less, once_passed, by_part, left_at_cut, goals_left}
use Rattle.slice_paths.specs.Goals.{Aim, aims, pairs, envy_form}
use Rattle.slice_paths.specs.Places.{Way, Place, places, sum_form, yes_kind, no_kind, ask_way, cut_way, test_way, join_way, give_way}
use Rattle.slice_paths.specs.Retraced.{part_in, one_more}
use Rattle.slice_paths.specs.declared.goal.GoalKind.{GoalKind}
use Rattle.slice_paths.specs.declared.goal.GoalKind.TheVariants as goal_kind
use Rattle.slice_paths.proofs.PairLaws.{beyond_pairs}
use Rattle.slice_paths.proofs.Tells.{aims_both}

-- ---- of how many parts each piece is
abbrev pub counts_of : List (List Address) → List ℕ
counts_of [] = []
counts_of (x ∷ xs) = length x ∷ counts_of xs

counts_put : (xs ys : List (List Address)) → counts_of (xs ++ ys) ≡ counts_of xs ++ counts_of ys
counts_put [] ys = refl
counts_put (x ∷ xs) ys = ap (λ (cs : List ℕ). length x ∷ cs) (counts_put xs ys)

pub counts_used : (xs : List (List Address)) (p : ℕ) → counts_of (emptied xs p) ≡ used_counts (counts_of xs) p
counts_used [] p = refl
counts_used (x ∷ xs) zero = refl
counts_used (x ∷ xs) (suc p) = ap (λ (cs : List ℕ). length x ∷ cs) (counts_used xs p)

pub count_at : (xs : List (List Address)) (p : ℕ) → part_count (counts_of xs) p ≡ length (piece_at xs p)
count_at [] p = refl
count_at (x ∷ xs) zero = refl
count_at (x ∷ xs) (suc p) = count_at xs p

counts_cut : (xs : List (List Address)) (p : ℕ) (left right : List Address) → counts_of (cut_pieces xs p left right) ≡ cut_counts (counts_of xs) p (length left) (length right)
counts_cut xs p left right = counts_put (emptied xs p) (left ∷ right ∷ []) ∙ ap (λ (cs : List ℕ). cs ++ length left ∷ length right ∷ []) (counts_used xs p)

pub counts_joined : (xs : List (List Address)) (p q : ℕ) → counts_of (join_pieces xs p q) ≡ join_counts (counts_of xs) p q
counts_joined xs p q =
    let first = piece_at xs p in
    let second = piece_at (emptied xs p) q in
    let both : length (first ++ second) ≡ part_count (counts_of xs) p + part_count (used_counts (counts_of xs) p) q =
    length-append first second
    ∙ (λ i. sym (count_at xs p) i + (sym (count_at (emptied xs p) q) ∙ ap (λ (cs : List ℕ). part_count cs q) (counts_used xs p)) i) in
    let used : counts_of (emptied (emptied xs p) q) ≡ used_counts (used_counts (counts_of xs) p) q =
    counts_used (emptied xs p) q ∙ ap (λ (cs : List ℕ). used_counts cs q) (counts_used xs p) in
    counts_put (emptied (emptied xs p) q) ((first ++ second) ∷ [])
    ∙ (λ i. used i ++ both i ∷ [])

-- those behind a cut in the part A
pub counts_behind : (a p : ℕ) (f : Form) (before : List Address) (A : Address) (after : List Address) (k : Way)
    → counts_of (cut_way a p f before A after k).pieces ≡ cut_counts (counts_of k.pieces) p (length before + 1) (suc (length after))
counts_behind a p f before A after k =
    counts_cut k.pieces p (before ++ left_of A ∷ []) (right_of A ∷ after)
    ∙ ap (λ (m : ℕ). cut_counts (counts_of k.pieces) p m (suc (length after))) (length-append before (left_of A ∷ []))

-- ---- all goals
pub parts_number : (n : ℕ) (number : ℕ → ℕ → ℕ) (ps : List Address → Address → List Address → List Place)
    → ((before : List Address) (A : Address) (after : List Address) → length (aims n (ps before A after)) ≡ number (length before + 1) (suc (length after)))
    → (before after : List Address) → length (aims n (each_part before after ps)) ≡ over_parts number (length before) (length after)
parts_number n number ps h before [] = refl
parts_number n number ps h before (A ∷ after) =
    let here = aims n (ps before A after) in
    let later = aims n (each_part (before ++ A ∷ []) after ps) in
    ap (λ (xs : List Aim). length xs) (aims_both n (ps before A after) (each_part (before ++ A ∷ []) after ps))
    ∙ length-append here later
    ∙ (λ i. h before A after i + (parts_number n number ps h (before ++ A ∷ []) after ∙ ap (λ (m : ℕ). over_parts number m (length after)) (length-append before (A ∷ []))) i)

two_more : (m : ℕ) → suc (suc m) ≡ 2 + m
two_more m = omega arith

pub aims_number : (n : ℕ) (t : Tree) (regs : List Form) (k : Way) → length (aims n (places t regs k)) ≡ goals_on n t (counts_of k.pieces)
aims_number n (Ask a p r next) regs k = aims_number n next (regs ++ piece_form a (piece_at k.pieces p) ∷ []) (ask_way k)
aims_number n (Set r sum next) regs k = aims_number n next (regs ++ sum_form regs sum.terms ∷ []) k
aims_number n (Cut a p amount l r next) regs k =
    let f = sum_form regs amount.terms in
    let counts = counts_of k.pieces in
    let number : ℕ → ℕ → ℕ = λ left right. goals_on n next (cut_counts counts p left right) in
    let ps : List Address → Address → List Address → List Place = λ before A after. places next regs (cut_way a p f before A after k) in
    let each : (before : List Address) (A : Address) (after : List Address) → length (aims n (ps before A after)) ≡ number (length before + 1) (suc (length after)) =
    λ before A after. aims_number n next regs (cut_way a p f before A after k) ∙ ap (goals_on n next) (counts_behind a p f before A after k) in
    let follow : length (aims n (each_part [] (piece_at k.pieces p) ps)) ≡ over_parts number 0 (part_count counts p) =
    parts_number n number ps each [] (piece_at k.pieces p) ∙ ap (over_parts number 0) (sym (count_at k.pieces p)) in
    ap (λ (m : ℕ). suc (suc m)) follow ∙ two_more (over_parts number 0 (part_count counts p))
aims_number n (Join p q r next) regs k = aims_number n next regs (join_way p q k) ∙ ap (goals_on n next) (counts_joined k.pieces p q)
aims_number n (Test left right strict y z) regs k =
    let f = sum_form regs left.terms in
    let g = sum_form regs right.terms in
    let yes_way = test_way (yes_kind strict) (sub_form f g) Yes k in
    let no_way = test_way (no_kind strict) (sub_form g f) No k in
    ap (λ (xs : List Aim). length xs) (aims_both n (places y regs yes_way) (places z regs no_way))
    ∙ length-append (aims n (places y regs yes_way)) (aims n (places z regs no_way))
    ∙ (λ i. aims_number n y regs yes_way i + aims_number n z regs no_way i)
aims_number n (Give p a next) regs k = aims_number n next regs (give_way p a k) ∙ ap (goals_on n next) (counts_used k.pieces p)
aims_number n End regs k =
    let aim : ℕ × ℕ → Aim = λ p. record { way = k; kind = goal_kind.Envy p.0 p.1; own = envy_form p.0 p.1 k } in
    ap (λ (xs : List Aim). length xs) (append-nil (map aim (pairs n n))) ∙ length-map (pairs n n) aim

-- ---- a cut that is answered
part_passed : (c : ℕ) (before : List Address) (A : Address) (after : List Address) (cs : List Choice) → c ≡ length (before ++ A ∷ after) → part_in c (passed before ++ cs) ≡ Some (length before)
part_passed zero [] A after cs e = absurd (omega (arith, e))
part_passed zero (x ∷ before) A after cs e = absurd (omega (arith, e))
part_passed (suc c) [] A after cs e = refl
part_passed (suc c) (x ∷ before) A after cs e = ap one_more (part_passed c before A after cs (omega (arith, e)))

rest_passed : (before : List Address) (cs : List Choice) → drop (length before + 1) (passed before ++ cs) ≡ cs
rest_passed [] cs = refl
rest_passed (x ∷ before) cs = ap (λ (i : ℕ). drop i (No ∷ (passed before ++ cs))) (more (length before)) ∙ rest_passed before cs
  where
    more : (m : ℕ) → suc m + 1 ≡ suc (m + 1)
    more m = omega arith

-- what is left is left behind the answer, and in the later parts where all choices were passed
pub left_in_part : (n m a p l r : ℕ) (amount : Lin) (next : Tree) (counts : List ℕ) (before : List Address) (A : Address) (after : List Address) (cs : List Choice) (kind : GoalKind)
    → part_count counts p ≡ length (before ++ A ∷ after)
    → goals_left n m (Cut a p amount l r next) counts (passed before ++ cs) kind
    ≡ goals_left n (one_less m) next (cut_counts counts p (length before + 1) (suc (length after))) cs kind
    + once_passed m (over_parts (λ left right. goals_on n next (cut_counts counts p left right)) (length before + 1) (length after))
left_in_part n m a p l r amount next counts before A after cs kind e =
    let number : ℕ → ℕ → ℕ = λ left right. goals_on n next (cut_counts counts p left right) in
    let c = part_count counts p in
    let i = length before in
    let many : c ≡ i + suc (length after) = e ∙ length-append before (A ∷ after) in
    let here : c - i ≡ suc (length after) = omega (arith, many) in
    let later : c - (i + 1) ≡ length after = omega (arith, many) in
    let go : ℕ → ℕ = λ part. goals_left n (one_less m) next (cut_counts counts p (part + 1) (c - part)) (drop (part + 1) (passed before ++ cs)) kind + once_passed m (over_parts number (part + 1) (c - (part + 1))) in
    ap (λ (o : Option ℕ). by_part o go (left_at_cut kind (goals_in_parts n next counts p 0))) (part_passed c before A after cs e)
    ∙ (λ j. goals_left n (one_less m) next (cut_counts counts p (i + 1) (here j)) (rest_passed before cs j) kind + once_passed m (over_parts number (i + 1) (later j)))

pub none_off : (c : ℕ) → c - 0 ≡ c
none_off c = omega arith

-- Low and High answer no cut
pub part_low : (c : ℕ) (cs : List Choice) → part_in c (Low ∷ cs) ≡ None
part_low zero cs = refl
part_low (suc c) cs = refl

pub part_high : (c : ℕ) (cs : List Choice) → part_in c (High ∷ cs) ≡ None
part_high zero cs = refl
part_high (suc c) cs = refl

-- ---- pairs: behind each come those from the next one on
abbrev pub EachPair : ℕ → List (ℕ × ℕ) → Type 0
EachPair n [] = ⊤
EachPair n (p ∷ ps) = (ps ≡ pairs_from n p.0 (p.1 + 1)) × EachPair n ps

each_row : (n a b more others : ℕ) (rest : List (ℕ × ℕ)) → a + others ≡ n → b + more ≡ n + 1 → rest ≡ pairs_beyond n (a + 1) others → EachPair n rest → EachPair n (pairs_after a b more ++ rest)
each_row n a b zero others rest e f is h = h
each_row n a b (suc more) others rest e f is h = by (a == b) (each_row n a (b + 1) more others rest e (omega (arith, f)) is h)
  where
    some : suc others ≡ n + 1 - a
    some = omega (arith, e)

    left : more ≡ n + 1 - (b + 1)
    left = omega (arith, f)

    behind : pairs_after a (b + 1) more ++ rest ≡ pairs_from n a (b + 1)
    behind = ap (λ (ps : List (ℕ × ℕ)). pairs_after a (b + 1) more ++ ps) is ∙ (λ i. pairs_left n a (b + 1) (some i) (left i))

    by : (t : Bool) → EachPair n (pairs_after a (b + 1) more ++ rest) → EachPair n (((if t then [] else (a, b) ∷ []) ++ pairs_after a (b + 1) more) ++ rest)
    by true k = k
    by false k = (behind, k)

each_beyond : (n a others : ℕ) → a + others ≡ n + 1 → EachPair n (pairs_beyond n a others)
each_beyond n a zero e = tt
each_beyond n a (suc others) e =
    each_row n a 1 n others (pairs_beyond n (a + 1) others) (omega (arith, e)) (omega arith) refl (each_beyond n (a + 1) others (omega (arith, e)))

pub each_pair : (n : ℕ) → EachPair n (pairs n n)
each_pair n = subst (EachPair n) (beyond_pairs n n) (each_beyond n 1 n (omega arith))
