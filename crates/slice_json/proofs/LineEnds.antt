-- The compact text of a value holds no LF, which is 10.
use Rattle.std.proofs.Common.{◌≡◌, ◌≢◌, ◌+◌, ◌/◌, ◌%◌, ◌==◌, ℕ, zero, suc, ℤ, pos, negsuc, List, [], ◌∷◌, ◌++◌, arith, Bool, true, false, cond, nat_lt, if◌then◌else◌, refl}
use Rattle.std.specs.List.{Contains}
use Rattle.std.specs.Char.{digit_char}
use Rattle.std.specs.Fmt.{digits, digits_onto, digit_glyph, decimal, signed_decimal}
use Rattle.std.proofs.lemmas.Bool.Decides.{nat_tests}
use Rattle.json.specs.Print.{escape_letter, escape_byte, escape, quoted}
use Rattle.serde_json.specs.Data.{Num, unsigned, negative, float, Data, null, boolean, number, string, array, object, Items, no_items, item, Members, no_members, member}
use Rattle.serde_json.specs.Written.{compact_text, items_text, members_text, number_text, comma_if}

-- no byte is LF, byte by byte
abbrev NoEnd : List ℕ → Type 0
NoEnd [] = Unit {0}
NoEnd (c ∷ cs) = (c ≢ 10) × NoEnd cs

joined : (xs ys : List ℕ) → NoEnd xs → NoEnd ys → NoEnd (xs ++ ys)
joined [] ys h k = k
joined (x ∷ xs) ys h k = (h.0, joined xs ys h.1 k)

not_within : (xs : List ℕ) → NoEnd xs → Contains xs 10 → ⊥
not_within [] h c = absurd (omega (arith, c.1))
not_within (x ∷ xs) h (zero, lt, e) = h.0 e
not_within (x ∷ xs) h (suc k, lt, e) = not_within xs h.1 (k, omega (arith, lt), e)

-- ---- digits
glyph : (upper : Bool) (d : ℕ) → digit_glyph upper d ≢ 10
glyph true d = elim (nat_lt d 10) as (λ b. (if b then 48 + d else 55 + d) ≢ 10) [ true ↦ λ e. omega (arith, e) | false ↦ λ e. omega (arith, e) ]
glyph false d = elim (nat_lt d 10) as (λ b. (if b then 48 + d else 87 + d) ≢ 10) [ true ↦ λ e. omega (arith, e) | false ↦ λ e. omega (arith, e) ]

onto : (k base : ℕ) (upper : Bool) (n : ℕ) (acc : List ℕ) → NoEnd acc → NoEnd (digits_onto k base upper n acc)
onto zero base upper n acc h = h
onto (suc k) base upper n acc h =
    elim (n / base == 0) as (λ b. NoEnd (if b then digit_glyph upper (n % base) ∷ acc else digits_onto k base upper (n / base) (digit_glyph upper (n % base) ∷ acc))) [
      | true ↦ (glyph upper (n % base), h)
      | false ↦ onto k base upper (n / base) (digit_glyph upper (n % base) ∷ acc) (glyph upper (n % base), h)
    ]

in_decimal : (n : ℕ) → NoEnd (decimal n)
unfolding digits
in_decimal n = onto 64 10 false n [] tt

in_signed : (z : ℤ) → NoEnd (signed_decimal z)
in_signed (pos n) = in_decimal n
in_signed (negsuc n) = (λ e. omega (arith, e), in_decimal (suc n))

in_number : (n : Num) → NoEnd (number_text n)
in_number (unsigned n) = in_decimal n
in_number (negative z) = in_signed z
in_number (float x) = tt

-- ---- strings
hex : (d : ℕ) → digit_char d ≢ 10
hex d = elim (nat_lt d 10) as (λ b. cond b (48 + d) (87 + d) ≢ 10) [ true ↦ λ e. omega (arith, e) | false ↦ λ e. omega (arith, e) ]

letter : (x : ℕ) → escape_letter x ≢ 10
letter x = grind (arith, nat_tests)

plain : (x : ℕ) → nat_lt x 32 ≡ false → x ≢ 10
plain x h e = grind (arith, nat_tests)

escaped : (x : ℕ) → NoEnd (escape_byte x)
unfolding escape_byte
escaped x =
    elim (nat_lt 0 (escape_letter x)) as (λ b. NoEnd (cond b (92 ∷ escape_letter x ∷ []) (cond (nat_lt x 32) (92 ∷ 117 ∷ 48 ∷ 48 ∷ digit_char (x / 16) ∷ digit_char (x % 16) ∷ []) (x ∷ [])))) [
      | true ↦ (λ e. omega (arith, e), (letter x, tt))
      | false ↦ small (nat_lt x 32) refl
    ]
  where
    small : (b : Bool) → nat_lt x 32 ≡ b → NoEnd (cond b (92 ∷ 117 ∷ 48 ∷ 48 ∷ digit_char (x / 16) ∷ digit_char (x % 16) ∷ []) (x ∷ []))
    small true h = (λ e. omega (arith, e), (λ e. omega (arith, e), (λ e. omega (arith, e), (λ e. omega (arith, e), (hex (x / 16), (hex (x % 16), tt))))))
    small false h = (plain x h, tt)

in_escape : (s : List ℕ) → NoEnd (escape s)
in_escape [] = tt
in_escape (x ∷ xs) = joined (escape_byte x) (escape xs) (escaped x) (in_escape xs)

in_quoted : (s : List ℕ) → NoEnd (quoted s)
in_quoted s = (λ e. omega (arith, e), joined (escape s) (34 ∷ []) (in_escape s) (λ e. omega (arith, e), tt))

in_comma : (later : Bool) → NoEnd (comma_if later)
in_comma true = (λ e. omega (arith, e), tt)
in_comma false = tt

-- ---- values
mutual
  in_text : (d : Data) → NoEnd (compact_text d)
  in_text null = (λ e. omega (arith, e), (λ e. omega (arith, e), (λ e. omega (arith, e), (λ e. omega (arith, e), tt))))
  in_text (boolean true) = (λ e. omega (arith, e), (λ e. omega (arith, e), (λ e. omega (arith, e), (λ e. omega (arith, e), tt))))
  in_text (boolean false) = (λ e. omega (arith, e), (λ e. omega (arith, e), (λ e. omega (arith, e), (λ e. omega (arith, e), (λ e. omega (arith, e), tt)))))
  in_text (number n) = in_number n
  in_text (string s) = in_quoted s
  in_text (array ds) = (λ e. omega (arith, e), in_items false ds)
  in_text (object ms) = (λ e. omega (arith, e), in_members false ms)

  in_items : (later : Bool) (ds : Items) → NoEnd (items_text later ds)
  in_items later no_items = (λ e. omega (arith, e), tt)
  in_items later (item d ds) = joined (comma_if later) (compact_text d ++ items_text true ds) (in_comma later) (joined (compact_text d) (items_text true ds) (in_text d) (in_items true ds))

  in_members : (later : Bool) (ms : Members) → NoEnd (members_text later ms)
  in_members later no_members = (λ e. omega (arith, e), tt)
  in_members later (member k d ms) =
      joined (comma_if later) (quoted k ++ 58 ∷ (compact_text d ++ members_text true ms)) (in_comma later)
      (joined (quoted k) (58 ∷ (compact_text d ++ members_text true ms)) (in_quoted k)
      (λ e. omega (arith, e), joined (compact_text d) (members_text true ms) (in_text d) (in_members true ms)))

pub no_end_in_text : (d : Data) → ¬ Contains (compact_text d) 10
no_end_in_text d = not_within (compact_text d) (in_text d)
