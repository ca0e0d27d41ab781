-- How long the line of a counterexample is at most.
use Rattle.std.proofs.Common.{ℕ, zero, suc, ◌+◌, ◌*◌, ◌/◌, ◌%◌, ◌≤◌, ◌==◌, ℤ, pos, negsuc, List, [], ◌∷◌, ◌++◌, map, length, arith, Bool, true, false, cond, nat_lt, codes}
use Rattle.std.specs.Prelude.{if◌then◌else◌}
use Rattle.std.specs.List.{AllByRecursion}
use Rattle.std.specs.Char.{digit_char}
use Rattle.std.specs.Fmt.{digits, digits_onto, digit_glyph, decimal, signed_decimal}
use Rattle.std.proofs.lemmas.List.{length-append}
use Rattle.json.specs.Print.{escape_letter, escape_byte, escape, quoted}
use Rattle.serde_json.specs.Data.{Data}
use Rattle.serde_json.specs.View.{items_of}
use Rattle.serde_json.specs.Written.{compact_text, items_text, comma_if}
use Rattle.slice_num.specs.FractionText.{fraction_text}
use Rattle.slice_num.specs.Rational.{Rational}
use Rattle.slice_num.specs.Valuation.{Valuation}
use Rattle.slice_num.specs.declared.cut_answer.CutAnswer.{CutAnswer}
use Rattle.slice_json.specs.Texts.{whole, fraction, pair_of, list_of, line_of}
use Rattle.slice_paths.specs.declared.goal.GoalKind.{GoalKind}
use Rattle.slice_paths.specs.declared.goal.GoalKind.TheVariants.{Low, High, Envy}
use Rattle.slice_counter.specs.CounterLine.{answer_json, valuation_json, outcome_json, counter_json}

-- ---- numbers: no text has more than 64 digits

onto : (k base : ℕ) (upper : Bool) (n : ℕ) (acc : List ℕ) → length (digits_onto k base upper n acc) ≤ k + length acc
onto zero base upper n acc = omega arith
onto (suc k) base upper n acc =
    elim (n / base == 0) as (λ b. length (if b then digit_glyph upper (n % base) ∷ acc else digits_onto k base upper (n / base) (digit_glyph upper (n % base) ∷ acc)) ≤ suc k + length acc) [
      | true ↦ omega arith
      | false ↦ let h = onto k base upper (n / base) (digit_glyph upper (n % base) ∷ acc) in omega (arith, h)
    ]

pub decimal_short : (n : ℕ) → length (decimal n) ≤ 64
unfolding digits
decimal_short n = let h = onto 64 10 false n [] in omega (arith, h)

pub signed_short : (z : ℤ) → length (signed_decimal z) ≤ 65
signed_short (pos n) = let h = decimal_short n in omega (arith, h)
signed_short (negsuc n) = let h = decimal_short (suc n) in omega (arith, h)

-- ---- strings: a byte is written as six at most

escaped_short : (x : ℕ) → length (escape_byte x) ≤ 6
unfolding escape_byte
escaped_short x =
    elim (nat_lt 0 (escape_letter x)) as (λ b. length (cond b (92 ∷ escape_letter x ∷ []) (cond (nat_lt x 32) (92 ∷ 117 ∷ 48 ∷ 48 ∷ digit_char (x / 16) ∷ digit_char (x % 16) ∷ []) (x ∷ []))) ≤ 6) [
      | true ↦ omega arith
      | false ↦ elim (nat_lt x 32) as (λ b. length (cond b (92 ∷ 117 ∷ 48 ∷ 48 ∷ digit_char (x / 16) ∷ digit_char (x % 16) ∷ []) (x ∷ [])) ≤ 6) [ true ↦ omega arith | false ↦ omega arith ]
    ]

pub escape_short : (s : List ℕ) → length (escape s) ≤ 6 * length s
escape_short [] = omega arith
escape_short (x ∷ xs) = let h = escape_short xs in let e = escaped_short x in let l = length-append (escape_byte x) (escape xs) in omega (arith, h, e, l)

pub quoted_short : (s : List ℕ) → length (quoted s) ≤ 6 * length s + 2
quoted_short s = let h = escape_short s in let l = length-append (escape s) (34 ∷ []) in omega (arith, h, l)

-- ---- lists

comma_short : (later : Bool) → length (comma_if later) ≤ 1
comma_short true = omega arith
comma_short false = omega arith

item_short : (later : Bool) (d : Data) (b rest : ℕ) (tail : List ℕ) → length (compact_text d) ≤ b → length tail ≤ rest → length (comma_if later ++ (compact_text d ++ tail)) ≤ 1 + b + rest
item_short later d b rest tail h t =
    let c = comma_short later in
    let one = length-append (comma_if later) (compact_text d ++ tail) in
    let two = length-append (compact_text d) tail in
    omega (arith, c, one, two, h, t)

numbers_short : (later : Bool) (ns : List ℕ) → length (items_text later (items_of (map whole ns))) ≤ 65 * length ns + 1
numbers_short later [] = omega arith
numbers_short later (n ∷ ns) =
    let h = item_short later (whole n) 64 (65 * length ns + 1) (items_text true (items_of (map whole ns))) (decimal_short n) (numbers_short true ns) in omega (arith, h)

array_short : (ns : List ℕ) → length (compact_text (list_of whole ns)) ≤ 65 * length ns + 2
array_short ns = let h = numbers_short false ns in omega (arith, h)

-- ---- answers

fraction_short : (q : Rational) → length (compact_text (fraction q)) ≤ 800
fraction_short q =
    let text : length (fraction_text q) ≤ 130 = by (q.den == 1) in
    let h = quoted_short (fraction_text q) in
    omega (arith, text, h)
  where
    by : (b : Bool) → length (if b then signed_decimal q.num else signed_decimal q.num ++ 47 ∷ decimal q.den) ≤ 130
    by true = let n = signed_short q.num in omega (arith, n)
    by false =
        let n = signed_short q.num in
        let d = decimal_short q.den in
        let l = length-append (signed_decimal q.num) (47 ∷ decimal q.den) in
        omega (arith, n, d, l)

answer_short : (y : CutAnswer) → length (compact_text (answer_json y)) ≤ 900
answer_short y = by (y.part == 0)
  where
    by : (b : Bool) → length (compact_text (if b then fraction y.point else pair_of whole fraction (y.part, y.point))) ≤ 900
    by true = let h = fraction_short y.point in omega (arith, h)
    by false =
        let p = decimal_short y.part in
        let q = fraction_short y.point in
        let a = length-append (decimal y.part) (44 ∷ (compact_text (fraction y.point) ++ 93 ∷ [])) in
        let b = length-append (compact_text (fraction y.point)) (93 ∷ []) in
        omega (arith, p, q, a, b)

answers_short : (later : Bool) (ys : List CutAnswer) → length (items_text later (items_of (map answer_json ys))) ≤ 901 * length ys + 1
answers_short later [] = omega arith
answers_short later (y ∷ ys) =
    let h = item_short later (answer_json y) 900 (901 * length ys + 1) (items_text true (items_of (map answer_json ys))) (answer_short y) (answers_short true ys) in omega (arith, h)

-- ---- valuations

-- no more than 65 steps
abbrev pub HasFewSteps : Valuation → Type 0
HasFewSteps v = (length v.ends ≤ 65) × (length v.heights ≤ 65)

valuation_short : (v : Valuation) → HasFewSteps v → length (compact_text (valuation_json v)) ≤ 9000
unfolding escape_byte
valuation_short v few =
    let ends : List ℕ = compact_text (list_of whole v.ends) in
    let heights : List ℕ = compact_text (list_of whole v.heights) in
    let e = array_short v.ends in
    let h = array_short v.heights in
    let a = length-append heights (125 ∷ []) in
    let b = length-append ends (codes ",\"heights\":" ++ (heights ++ 125 ∷ [])) in
    omega (arith, e, h, a, b, few.0, few.1)

valuations_short : (later : Bool) (vs : List Valuation) → AllByRecursion HasFewSteps vs → length (items_text later (items_of (map valuation_json vs))) ≤ 9001 * length vs + 1
valuations_short later [] h = omega arith
valuations_short later (v ∷ vs) h =
    let r = item_short later (valuation_json v) 9000 (9001 * length vs + 1) (items_text true (items_of (map valuation_json vs))) (valuation_short v h.0) (valuations_short true vs h.1) in omega (arith, r)

-- ---- the line

outcome_short : (query : ℕ) (kind : GoalKind) → length (compact_text (outcome_json query kind)) ≤ 200
unfolding escape_byte
outcome_short query Low = let n = decimal_short query in let a = length-append (decimal query) (codes ",\"side\":\"low\"}") in omega (arith, n, a)
outcome_short query High = let n = decimal_short query in let a = length-append (decimal query) (codes ",\"side\":\"high\"}") in omega (arith, n, a)
outcome_short query (Envy a b) =
    let n = decimal_short a in
    let m = decimal_short b in
    let c = length-append (decimal b) (125 ∷ []) in
    let d = length-append (decimal a) (codes ",\"envies\":" ++ (decimal b ++ 125 ∷ [])) in
    omega (arith, n, m, c, d)

pub counter_short : (goal query : ℕ) (kind : GoalKind) (vs : List Valuation) (ys : List CutAnswer) → length vs ≤ 16 → AllByRecursion HasFewSteps vs → length ys ≤ 64 → length (line_of (counter_json goal kind query vs ys)) ≤ 1048576
unfolding escape_byte
counter_short goal query kind vs ys few steps cuts =
    let v : List ℕ = compact_text (list_of valuation_json vs) in
    let o : List ℕ = compact_text (outcome_json query kind) in
    let n : List ℕ = decimal goal in
    let y : List ℕ = compact_text (list_of answer_json ys) in
    let last : List ℕ = v ++ 125 ∷ [] in
    let third : List ℕ = o ++ (codes ",\"valuations\":" ++ last) in
    let second : List ℕ = n ++ (codes ",\"outcome\":" ++ third) in
    let first : List ℕ = y ++ (codes ",\"goal\":" ++ second) in
    let lv = valuations_short false vs steps in
    let lo = outcome_short query kind in
    let ln = decimal_short goal in
    let ly = answers_short false ys in
    let a = length-append v (125 ∷ []) in
    let b = length-append o (codes ",\"valuations\":" ++ last) in
    let c = length-append n (codes ",\"outcome\":" ++ third) in
    let d = length-append y (codes ",\"goal\":" ++ second) in
    let e = length-append (compact_text (counter_json goal kind query vs ys)) (10 ∷ []) in
    omega (arith, lv, lo, ln, ly, a, b, c, d, e, few, cuts)
