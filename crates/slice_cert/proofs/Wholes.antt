-- A whole number that fits is read as it is written.
use Rattle.std.proofs.Common.{◌≡◌, ◌∙◌, ◌^◌, ◌∷◌, ℕ, ℤ, pos, negsuc, neg_ℤ, suc, List, refl, ap, subst, arith, sym, Ok, of_z, to_z}
use Rattle.slice_num.proofs.Wrapped.{same_fits}
use Rattle.std.specs.declared.result.Result.{Result}
use Rattle.std.specs.Int.{w128}
use Rattle.std.specs.Str.Parse.{ParsesSigned}
use Rattle.std.specs.Fmt.{signed_decimal, decimal}
use Rattle.std.proofs.lemmas.Fmt.{decimal_is_IsNumeral_wide}
use Rattle.std.proofs.lemmas.Str.Parse.{parse_signed_digits, parse_signed_minus, numerals_by_value, tells_digits}
use Rattle.std.proofs.lemmas.Result.{Ok-from_Ok_iff}
use Rattle.slice_num.specs.Rational.{Fits}

pub parse-signed_wide : {E : Type 0} (z : ℤ) (bs : List ℕ) (r : Result ℤ E) → Fits z → bs ≡ signed_decimal z → ParsesSigned w128 10 bs r → r ≡ Ok z
parse-signed_wide (pos n) bs r f is h =
    let k = decimal_is_IsNumeral_wide n (omega (arith, f)) in
    let read = parse_signed_digits (numerals_by_value _ tells_digits) w128 (decimal n) r (subst (λ (l : List ℕ). ParsesSigned w128 10 l r) is h) k.0.1 in
    Ok-from_Ok_iff r _ _ read (k.0.0, omega (arith, k.1, f)) ∙ ap (λ (m : ℕ). Ok (pos m)) k.1
parse-signed_wide (negsuc n) bs r f is h =
    let k = decimal_is_IsNumeral_wide (suc n) (omega (arith, f)) in
    let read = parse_signed_minus (numerals_by_value _ tells_digits) w128 (45 ∷ decimal (suc n)) r (subst (λ (l : List ℕ). ParsesSigned w128 10 l r) is h) refl in
    Ok-from_Ok_iff r _ _ read (k.0.1, k.0.0, omega (arith, k.1, f)) ∙ ap (λ (m : ℕ). Ok (neg_ℤ (pos m))) k.1

pub ok_same : {E : Type 0} (x y : ℤ) → ◌≡◌ {A = Result ℤ E} (Ok x) (Ok y) → x ≡ y
ok_same x y e = cc

-- a number that fits isn't the least of 128 bits
pub below_least : (z : ℤ) → Fits z → of_z w128 z ≡ 2 ^ 127 → ⊥
below_least z f e =
    let s : z ≡ to_z w128 (2 ^ 127) = sym (same_fits z z refl f) ∙ ap (to_z w128) e in
    let g : Fits (to_z w128 (2 ^ 127)) = subst Fits s f in
    absurd (omega (arith, g))
