-- What a function of the parser answers: what its rule reads, unless memory ran out.
use Rattle.std.specs.Prelude.{◌≡◌, List, ◌++◌, Result, Ok, Err}
use Rattle.slice_parse.specs.declared.cursor.Stop.{Stop}
use Rattle.slice_parse.specs.declared.cursor.Stop.TheVariants as stop
use Rattle.slice_parse.specs.Combinators.{Token, Outcome, Good, Bad, Syntax, Deep, Long, Tired}

-- the rule stops for this reason, and leaves these tokens
abbrev pub Stops : {A : Type 0} → Outcome A → Stop → List Token → Type 0
Stops o stop.Memory left = Unit {0}
Stops o stop.Syntax left = o ≡ Bad Syntax left
Stops o stop.Deep left = o ≡ Bad Deep left
Stops o stop.Long left = o ≡ Bad Long left
Stops o stop.Tired left = o ≡ Bad Tired left

-- the rule gives what the result says in plain data, and leaves these tokens
abbrev pub Reads : {X A : Type 0} → (X → A) → Outcome A → Result X Stop → List Token → Type 0
Reads view o (Ok x) left = o ≡ Good (view x) left
Reads view o (Err e) left = Stops o e left

-- what a loop has found, before what is left to find
abbrev pub with_front : {A : Type 0} → List A → Outcome (List A) → Outcome (List A)
with_front front (Good xs left) = Good (front ++ xs) left
with_front front (Bad f left) = Bad f left
