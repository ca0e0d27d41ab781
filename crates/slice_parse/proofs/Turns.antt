-- A list that a rule reads, beside a loop that counts its items up.
use Rattle.std.proofs.Common.{◌≡◌, ℕ, suc, ◌+◌, ◌-◌, ◌<◌, Bool, List, [], ◌∷◌, ◌++◌, map, true, refl, ap, sym, ◌∙◌, arith, append_assoc}
use Rattle.std.proofs.lemmas.List.{map-append}
use Rattle.slice_parse.specs.declared.cursor.Stop.{Stop}
use Rattle.slice_parse.specs.declared.cursor.Stop.TheVariants as stop
use Rattle.slice_parse.specs.Combinators.{Token, Outcome, Good, Bad, Fault, Syntax, Deep, Long, Tired, Parser, and_then, pure, next_is, many}
use Rattle.slice_parse.specs.Reads.{Stops, with_front}

with_front_push : {A : Type 0} (front : List A) (x : A) (o : Outcome (List A)) → with_front front (and_then o (λ xs. pure (x ∷ xs))) ≡ with_front (front ++ x ∷ []) o
with_front_push front x (Good xs left) = ap (λ ys. Good ys left) (sym (append_assoc front (x ∷ []) xs))
with_front_push front x (Bad f left) = refl

many_turn : {A : Type 0} (fault : Fault) (test : Token → Bool) (item : Parser A) (n : ℕ) (front : List A) (ts rest : List Token) (x : A) → next_is test ts ≡ true → item ts ≡ Good x rest
    → with_front front (many fault test item (suc n) ts) ≡ with_front (front ++ x ∷ []) (many fault test item n rest)
unfolding many
many_turn fault test item n front ts rest x a b = rw (a, b) (with_front_push front x (many fault test item n rest))

-- what an iteration reads moves to what was found
pub turn : {A : Type 0} {o : Outcome (List A)} (fault : Fault) (test : Token → Bool) (item : Parser A) (most at : ℕ) (front : List A) (ts rest : List Token) (x : A)
    → at < most → o ≡ with_front front (many fault test item (most - at) ts) → next_is test ts ≡ true → item ts ≡ Good x rest
    → o ≡ with_front (front ++ x ∷ []) (many fault test item (most - (at + 1)) rest)
turn fault test item most at front ts rest x below e a b =
    let more : most - at ≡ suc (most - (at + 1)) = omega arith in
    e ∙ ap (λ k. with_front front (many fault test item k ts)) more ∙ many_turn fault test item _ front ts rest x a b

many_stop : {A : Type 0} (fault : Fault) (test : Token → Bool) (item : Parser A) (n : ℕ) (front : List A) (ts rest : List Token) (why : Fault) → next_is test ts ≡ true → item ts ≡ Bad why rest
    → with_front front (many fault test item (suc n) ts) ≡ Bad why rest
unfolding many
many_stop fault test item n front ts rest why a b = rw (a, b)

stop_at : {A : Type 0} {o : Outcome (List A)} (fault : Fault) (test : Token → Bool) (item : Parser A) (most at : ℕ) (front : List A) (ts rest : List Token) (why : Fault)
    → at < most → o ≡ with_front front (many fault test item (most - at) ts) → next_is test ts ≡ true → item ts ≡ Bad why rest → o ≡ Bad why rest
stop_at fault test item most at front ts rest why below e a b =
    let more : most - at ≡ suc (most - (at + 1)) = omega arith in
    e ∙ ap (λ k. with_front front (many fault test item k ts)) more ∙ many_stop fault test item _ front ts rest why a b

-- where an item stops, so does the list
pub item_stops : {A : Type 0} {o : Outcome (List A)} (fault : Fault) (test : Token → Bool) (item : Parser A) (most at : ℕ) (front : List A) (ts rest : List Token) (e : Stop)
    → at < most → o ≡ with_front front (many fault test item (most - at) ts) → next_is test ts ≡ true → Stops (item ts) e rest → Stops o e rest
item_stops fault test item most at front ts rest stop.Memory below i a b = tt
item_stops fault test item most at front ts rest stop.Syntax below i a b = stop_at fault test item most at front ts rest Syntax below i a b
item_stops fault test item most at front ts rest stop.Deep below i a b = stop_at fault test item most at front ts rest Deep below i a b
item_stops fault test item most at front ts rest stop.Long below i a b = stop_at fault test item most at front ts rest Long below i a b
item_stops fault test item most at front ts rest stop.Tired below i a b = stop_at fault test item most at front ts rest Tired below i a b

-- the same, where what was found is seen as plain data
pub turn_seen : {X A : Type 0} {o : Outcome (List A)} (view : X → A) (fault : Fault) (test : Token → Bool) (item : Parser A) (most at : ℕ) (found : List X) (ts rest : List Token) (x : X)
    → at < most → o ≡ with_front (map view found) (many fault test item (most - at) ts) → next_is test ts ≡ true → item ts ≡ Good (view x) rest
    → o ≡ with_front (map view (found ++ x ∷ [])) (many fault test item (most - (at + 1)) rest)
turn_seen view fault test item most at found ts rest x below e a b =
    turn fault test item most at (map view found) ts rest (view x) below e a b
    ∙ ap (λ front. with_front front (many fault test item (most - (at + 1)) rest)) (sym (map-append view found (x ∷ [])))
