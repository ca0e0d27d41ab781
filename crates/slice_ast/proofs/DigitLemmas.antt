-- A number in decimal, from its last digit.
use Rattle.std.proofs.Common.{◌≡◌, ℕ, ◌+◌, ◌/◌, ◌%◌, ◌≤◌, ◌<◌, ◌^◌, List, [], ◌∷◌, ◌++◌, decimal, sym, ap, ◌∙◌, append_assoc}
use Rattle.std.proofs.lemmas.Fmt.{decimal_step, decimal_digit}

-- the digits before, then the last
pub append-decimal : (text : List ℕ) (n : ℕ) → 10 ≤ n → n < 2 ^ 64 → text ++ decimal n ≡ (text ++ decimal (n / 10)) ++ (48 + n % 10) ∷ []
append-decimal text n h b = ap (λ ds. text ++ ds) (decimal_step n h b) ∙ sym (append_assoc text (decimal (n / 10)) ((48 + n % 10) ∷ []))

pub ruleset digit_steps = (append-decimal, decimal_digit)
