-- How long numbers and strings are as text.
use Rattle.std.proofs.Common.{ℕ, zero, suc, ◌+◌, ◌*◌, ◌/◌, ◌%◌, ◌≤◌, ◌==◌, ℤ, pos, negsuc, List, [], ◌∷◌, length, arith, Bool, true, false, cond, nat_lt}
use Rattle.std.specs.Prelude.{if◌then◌else◌}
use Rattle.std.specs.Char.{digit_char}
use Rattle.std.specs.Fmt.{digits, digits_onto, digit_glyph, decimal, signed_decimal}
use Rattle.std.proofs.lemmas.List.{length-append}
use Rattle.json.specs.Print.{escape_letter, escape_byte, escape, quoted}

-- ---- numbers: no text has more than 64 digits

onto : (k base : ℕ) (upper : Bool) (n : ℕ) (acc : List ℕ) → length (digits_onto k base upper n acc) ≤ k + length acc
onto zero base upper n acc = omega arith
onto (suc k) base upper n acc =
    elim (n / base == 0) as (λ b. length (if b then digit_glyph upper (n % base) ∷ acc else digits_onto k base upper (n / base) (digit_glyph upper (n % base) ∷ acc)) ≤ suc k + length acc) [
      | true ↦ omega arith
      | false ↦ let h = onto k base upper (n / base) (digit_glyph upper (n % base) ∷ acc) in omega (arith, h)
    ]

pub decimal_short : (n : ℕ) → length (decimal n) ≤ 64
unfolding digits
decimal_short n = let h = onto 64 10 false n [] in omega (arith, h)

pub signed_short : (z : ℤ) → length (signed_decimal z) ≤ 65
signed_short (pos n) = let h = decimal_short n in omega (arith, h)
signed_short (negsuc n) = let h = decimal_short (suc n) in omega (arith, h)

-- ---- strings: a byte is written as six at most

escaped_short : (x : ℕ) → length (escape_byte x) ≤ 6
unfolding escape_byte
escaped_short x =
    elim (nat_lt 0 (escape_letter x)) as (λ b. length (cond b (92 ∷ escape_letter x ∷ []) (cond (nat_lt x 32) (92 ∷ 117 ∷ 48 ∷ 48 ∷ digit_char (x / 16) ∷ digit_char (x % 16) ∷ []) (x ∷ []))) ≤ 6) [
      | true ↦ omega arith
      | false ↦ elim (nat_lt x 32) as (λ b. length (cond b (92 ∷ 117 ∷ 48 ∷ 48 ∷ digit_char (x / 16) ∷ digit_char (x % 16) ∷ []) (x ∷ [])) ≤ 6) [ true ↦ omega arith | false ↦ omega arith ]
    ]

pub escape_short : (s : List ℕ) → length (escape s) ≤ 6 * length s
escape_short [] = omega arith
escape_short (x ∷ xs) = let h = escape_short xs in let e = escaped_short x in let l = length-append (escape_byte x) (escape xs) in omega (arith, h, e, l)

pub quoted_short : (s : List ℕ) → length (quoted s) ≤ 6 * length s + 2
quoted_short s = let h = escape_short s in let l = length-append (escape s) (34 ∷ []) in omega (arith, h, l)
