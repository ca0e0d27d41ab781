-- Two sound tokens with the same text are the same; and how far the limits are, told from texts.
use Rattle.std.proofs.Common.{◌≡◌, ℕ, ◌+◌, ◌-◌, ◌<◌, ◌^◌, ◌%◌, ◌==◌, Bool, true, false, cond, if◌then◌else◌, List, [], ◌∷◌, ◌++◌, fold, codes, decimal, refl, ap, sym, subst, ◌∙◌, arith, IsTrue, ◌⊎◌, inl, inr, bytes_eq, Option, Some, None}
use Rattle.std.proofs.lemmas.Bool.Decides.{nat_tests}
use Rattle.std.proofs.lemmas.Slice.Eq.{bytes_eq-Decides}
use Rattle.std.proofs.lemmas.Bool.{eq-eqb}
use Rattle.std.proofs.lemmas.Fmt.{decimal_is_IsNumeral_wide, decimal_by_steps_wide}
use Rattle.std.specs.Str.Parse.{digits_value}
use Rattle.slice_num.specs.Name.{is_name, is_letter, is_digit}
use Rattle.slice_parse.specs.declared.lexeme.Fixed.{Fixed}
use Rattle.slice_parse.specs.declared.lexeme.Fixed.TheVariants as fixed
use Rattle.slice_parse.specs.declared.lexeme.What.{What}
use Rattle.slice_parse.specs.declared.lexeme.What.TheVariants as what
use Rattle.slice_parse.specs.Combinators.{Token}
use Rattle.slice_parse.specs.Lexemes.{fixed_text, what_text, text_of}
use Rattle.slice_parse.specs.Limits.{open_braces, begins_sum, is_plus_or_minus, signs_of_sum, KeepLimits}
use Rattle.slice_parse.specs.Classes.{texts_of, IsSoundWhat, AreSound}
use Rattle.slice_parse.proofs.Matching.{plain_what, plain_fixed}
use Rattle.slice_parse.proofs.LimitSteps.{Spot, step_fixed, step, on, scan}

-- ---- texts

abbrev starts_digit : List ℕ → Bool
starts_digit [] = false
starts_digit (c ∷ cs) = is_digit c

fixed_no_name : (f : Fixed) → is_name (fixed_text f) ≡ false
fixed_no_name fixed.Agent = refl
fixed_no_name fixed.Agents = refl
fixed_no_name fixed.As = refl
fixed_no_name fixed.At = refl
fixed_no_name fixed.Call = refl
fixed_no_name fixed.Cut = refl
fixed_no_name fixed.Else = refl
fixed_no_name fixed.From = refl
fixed_no_name fixed.Give = refl
fixed_no_name fixed.If = refl
fixed_no_name fixed.Join = refl
fixed_no_name fixed.Let = refl
fixed_no_name fixed.Number = refl
fixed_no_name fixed.Pick = refl
fixed_no_name fixed.Piece = refl
fixed_no_name fixed.Procedure = refl
fixed_no_name fixed.Protocol = refl
fixed_no_name fixed.To = refl
fixed_no_name fixed.Value = refl
fixed_no_name fixed.Yield = refl
fixed_no_name fixed.OpenBrace = refl
fixed_no_name fixed.CloseBrace = refl
fixed_no_name fixed.OpenParen = refl
fixed_no_name fixed.CloseParen = refl
fixed_no_name fixed.Comma = refl
fixed_no_name fixed.Semicolon = refl
fixed_no_name fixed.Plus = refl
fixed_no_name fixed.Minus = refl
fixed_no_name fixed.Star = refl
fixed_no_name fixed.Slash = refl
fixed_no_name fixed.Equals = refl
fixed_no_name fixed.Less = refl
fixed_no_name fixed.AtMost = refl
fixed_no_name fixed.More = refl
fixed_no_name fixed.AtLeast = refl

fixed_no_digit : (f : Fixed) → starts_digit (fixed_text f) ≡ false
fixed_no_digit fixed.Agent = refl
fixed_no_digit fixed.Agents = refl
fixed_no_digit fixed.As = refl
fixed_no_digit fixed.At = refl
fixed_no_digit fixed.Call = refl
fixed_no_digit fixed.Cut = refl
fixed_no_digit fixed.Else = refl
fixed_no_digit fixed.From = refl
fixed_no_digit fixed.Give = refl
fixed_no_digit fixed.If = refl
fixed_no_digit fixed.Join = refl
fixed_no_digit fixed.Let = refl
fixed_no_digit fixed.Number = refl
fixed_no_digit fixed.Pick = refl
fixed_no_digit fixed.Piece = refl
fixed_no_digit fixed.Procedure = refl
fixed_no_digit fixed.Protocol = refl
fixed_no_digit fixed.To = refl
fixed_no_digit fixed.Value = refl
fixed_no_digit fixed.Yield = refl
fixed_no_digit fixed.OpenBrace = refl
fixed_no_digit fixed.CloseBrace = refl
fixed_no_digit fixed.OpenParen = refl
fixed_no_digit fixed.CloseParen = refl
fixed_no_digit fixed.Comma = refl
fixed_no_digit fixed.Semicolon = refl
fixed_no_digit fixed.Plus = refl
fixed_no_digit fixed.Minus = refl
fixed_no_digit fixed.Star = refl
fixed_no_digit fixed.Slash = refl
fixed_no_digit fixed.Equals = refl
fixed_no_digit fixed.Less = refl
fixed_no_digit fixed.AtMost = refl
fixed_no_digit fixed.More = refl
fixed_no_digit fixed.AtLeast = refl

digit_byte : (n : ℕ) → n < 10 → is_digit (48 + n) ≡ true
digit_byte n h = grind (arith, nat_tests)

still_digit : (ds es : List ℕ) → starts_digit ds ≡ true → starts_digit (ds ++ es) ≡ true
still_digit [] es h = cc
still_digit (d ∷ ds) es h = h

small : (n : ℕ) → n < 10 ^ 18 → n < 10 ^ 64
small n h = omega arith

decimal_starts : (n : ℕ) → n < 10 ^ 18 → starts_digit (decimal n) ≡ true
decimal_starts n h = decimal_by_steps_wide (λ m ds. starts_digit ds ≡ true) (λ m l. digit_byte m l) (λ m ds l k. still_digit ds ((48 + m % 10) ∷ []) k) n (small n h)

letter_no_digit : (c : ℕ) → is_digit c ≡ true → is_letter c ≡ false
letter_no_digit c h = grind (arith, nat_tests)

no_word : (t : List ℕ) → starts_digit t ≡ true → is_name t ≡ false
no_word [] h = cc
no_word (c ∷ cs) h = rw (letter_no_digit c h) refl

decimal_one : (n m : ℕ) → n < 10 ^ 18 → m < 10 ^ 18 → decimal n ≡ decimal m → n ≡ m
decimal_one n m h k e = sym (decimal_is_IsNumeral_wide n (small n h)).1 ∙ ap (digits_value 10) e ∙ (decimal_is_IsNumeral_wide m (small m k)).1

fixed_one : (f g : Fixed) → fixed_text f ≡ fixed_text g → f ≡ g
fixed_one f g e = let same : what.Fixed f ≡ what.Fixed g = sym (plain_fixed f) ∙ ap plain_what e ∙ plain_fixed g in cc

no_clash : {Q : Type 0} (b : Bool) → b ≡ true → b ≡ false → Q
no_clash b e h = cc

pub sound_one : (w v : What) → IsSoundWhat w → IsSoundWhat v → what_text w ≡ what_text v → w ≡ v
sound_one (what.Fixed f) (what.Fixed g) s r e = ap (λ x. what.Fixed x) (fixed_one f g e)
sound_one (what.Fixed f) (what.Name v) s r e = no_clash (is_name v) r (ap is_name (sym e) ∙ fixed_no_name f)
sound_one (what.Fixed f) (what.Number n) s r e = no_clash (starts_digit (decimal n)) (decimal_starts n r) (ap starts_digit (sym e) ∙ fixed_no_digit f)
sound_one (what.Name w) (what.Fixed g) s r e = no_clash (is_name w) s (ap is_name e ∙ fixed_no_name g)
sound_one (what.Name w) (what.Name v) s r e = ap (λ x. what.Name x) e
sound_one (what.Name w) (what.Number n) s r e = no_clash (is_name w) s (ap is_name e ∙ no_word (decimal n) (decimal_starts n r))
sound_one (what.Number m) (what.Fixed g) s r e = no_clash (starts_digit (decimal m)) (decimal_starts m s) (ap starts_digit e ∙ fixed_no_digit g)
sound_one (what.Number m) (what.Name v) s r e = no_clash (is_name v) r (ap is_name (sym e) ∙ no_word (decimal m) (decimal_starts m s))
sound_one (what.Number m) (what.Number n) s r e = ap (λ x. what.Number x) (decimal_one m n s r e)

-- ---- limits

abbrev deep_after : ℕ → List ℕ → ℕ
deep_after n t = if bytes_eq t (codes "{") then n + 1 else (if bytes_eq t (codes "}") then n - 1 else n)

abbrev signs_after : ℕ → List ℕ → ℕ
signs_after n t = if begins_sum t then 0 else (if is_plus_or_minus t then n + 1 else n)

-- a text that is no keyword and no sign
Other : List ℕ → Type 0
Other t = (f : Fixed) → bytes_eq t (fixed_text f) ≡ false

differ : (t : List ℕ) (f : Fixed) (b : Bool) → bytes_eq t (fixed_text f) ≡ b → (t ≡ fixed_text f → ⊥) → b ≡ false
differ t f true e h = absurd (h ((bytes_eq-Decides t (fixed_text f)).0 e))
differ t f false e h = refl

other_name : (t : List ℕ) → is_name t ≡ true → Other t
unfolding Other
other_name t h f = differ t f (bytes_eq t (fixed_text f)) refl (λ e. no_clash (is_name t) h (ap is_name e ∙ fixed_no_name f))

other_number : (n : ℕ) → n < 10 ^ 18 → Other (decimal n)
unfolding Other
other_number n h f = differ (decimal n) f (bytes_eq (decimal n) (fixed_text f)) refl (λ e. no_clash (starts_digit (decimal n)) (decimal_starts n h) (ap starts_digit e ∙ fixed_no_digit f))

other_deep : (t : List ℕ) (n : ℕ) → Other t → deep_after n t ≡ n
unfolding Other
other_deep t n h = rw (h fixed.OpenBrace, h fixed.CloseBrace) refl

other_sum : (t : List ℕ) → Other t → begins_sum t ≡ false
unfolding Other
other_sum t h = rw (h fixed.At, h fixed.Equals, h fixed.If, h fixed.Less, h fixed.AtMost, h fixed.More, h fixed.AtLeast, h fixed.Number) refl

other_sign : (t : List ℕ) → Other t → is_plus_or_minus t ≡ false
unfolding Other
other_sign t h = rw (h fixed.Plus, h fixed.Minus) refl

other_signs : (t : List ℕ) (n : ℕ) → Other t → signs_after n t ≡ n
other_signs t n h = ap (λ b. cond b 0 (cond (is_plus_or_minus t) (n + 1) n)) (other_sum t h) ∙ ap (λ b. cond b (n + 1) n) (other_sign t h)

-- where the next spot is
record Spots (s next : Spot) (t : List ℕ) : Type 0 where
  depth : deep_after s.depth t ≡ next.depth
  signs : signs_after s.signs t ≡ next.signs

cond_spot : (b : Bool) (x next : Spot) → cond b None (Some x) ≡ Some next → x ≡ next
cond_spot true x next h = cc
cond_spot false x next h = cc

fixed_spots : (f : Fixed) (s next : Spot) → step_fixed s f ≡ Some next → Spots s next (fixed_text f)
fixed_spots fixed.Agent s next h = let e : s ≡ next = cc in record { depth = ap (λ x. x.depth) e; signs = ap (λ x. x.signs) e }
fixed_spots fixed.Agents s next h = let e : s ≡ next = cc in record { depth = ap (λ x. x.depth) e; signs = ap (λ x. x.signs) e }
fixed_spots fixed.As s next h = let e : s ≡ next = cc in record { depth = ap (λ x. x.depth) e; signs = ap (λ x. x.signs) e }
fixed_spots fixed.At s next h = let e : record { depth = s.depth; signs = 0 } ≡ next = cc in record { depth = ap (λ x. x.depth) e; signs = ap (λ x. x.signs) e }
fixed_spots fixed.Call s next h = let e : s ≡ next = cc in record { depth = ap (λ x. x.depth) e; signs = ap (λ x. x.signs) e }
fixed_spots fixed.Cut s next h = let e : s ≡ next = cc in record { depth = ap (λ x. x.depth) e; signs = ap (λ x. x.signs) e }
fixed_spots fixed.Else s next h = let e : s ≡ next = cc in record { depth = ap (λ x. x.depth) e; signs = ap (λ x. x.signs) e }
fixed_spots fixed.From s next h = let e : s ≡ next = cc in record { depth = ap (λ x. x.depth) e; signs = ap (λ x. x.signs) e }
fixed_spots fixed.Give s next h = let e : s ≡ next = cc in record { depth = ap (λ x. x.depth) e; signs = ap (λ x. x.signs) e }
fixed_spots fixed.If s next h = let e : record { depth = s.depth; signs = 0 } ≡ next = cc in record { depth = ap (λ x. x.depth) e; signs = ap (λ x. x.signs) e }
fixed_spots fixed.Join s next h = let e : s ≡ next = cc in record { depth = ap (λ x. x.depth) e; signs = ap (λ x. x.signs) e }
fixed_spots fixed.Let s next h = let e : s ≡ next = cc in record { depth = ap (λ x. x.depth) e; signs = ap (λ x. x.signs) e }
fixed_spots fixed.Number s next h = let e : record { depth = s.depth; signs = 0 } ≡ next = cc in record { depth = ap (λ x. x.depth) e; signs = ap (λ x. x.signs) e }
fixed_spots fixed.Pick s next h = let e : s ≡ next = cc in record { depth = ap (λ x. x.depth) e; signs = ap (λ x. x.signs) e }
fixed_spots fixed.Piece s next h = let e : s ≡ next = cc in record { depth = ap (λ x. x.depth) e; signs = ap (λ x. x.signs) e }
fixed_spots fixed.Procedure s next h = let e : s ≡ next = cc in record { depth = ap (λ x. x.depth) e; signs = ap (λ x. x.signs) e }
fixed_spots fixed.Protocol s next h = let e : s ≡ next = cc in record { depth = ap (λ x. x.depth) e; signs = ap (λ x. x.signs) e }
fixed_spots fixed.To s next h = let e : s ≡ next = cc in record { depth = ap (λ x. x.depth) e; signs = ap (λ x. x.signs) e }
fixed_spots fixed.Value s next h = let e : s ≡ next = cc in record { depth = ap (λ x. x.depth) e; signs = ap (λ x. x.signs) e }
fixed_spots fixed.Yield s next h = let e : s ≡ next = cc in record { depth = ap (λ x. x.depth) e; signs = ap (λ x. x.signs) e }
fixed_spots fixed.OpenBrace s next h = let e = cond_spot (s.depth == 64) (record { depth = s.depth + 1; signs = s.signs }) next h in record { depth = ap (λ x. x.depth) e; signs = ap (λ x. x.signs) e }
fixed_spots fixed.CloseBrace s next h = let e : record { depth = s.depth - 1; signs = s.signs } ≡ next = cc in record { depth = ap (λ x. x.depth) e; signs = ap (λ x. x.signs) e }
fixed_spots fixed.OpenParen s next h = let e : s ≡ next = cc in record { depth = ap (λ x. x.depth) e; signs = ap (λ x. x.signs) e }
fixed_spots fixed.CloseParen s next h = let e : s ≡ next = cc in record { depth = ap (λ x. x.depth) e; signs = ap (λ x. x.signs) e }
fixed_spots fixed.Comma s next h = let e : s ≡ next = cc in record { depth = ap (λ x. x.depth) e; signs = ap (λ x. x.signs) e }
fixed_spots fixed.Semicolon s next h = let e : s ≡ next = cc in record { depth = ap (λ x. x.depth) e; signs = ap (λ x. x.signs) e }
fixed_spots fixed.Plus s next h = let e = cond_spot (s.signs == 63) (record { depth = s.depth; signs = s.signs + 1 }) next h in record { depth = ap (λ x. x.depth) e; signs = ap (λ x. x.signs) e }
fixed_spots fixed.Minus s next h = let e = cond_spot (s.signs == 63) (record { depth = s.depth; signs = s.signs + 1 }) next h in record { depth = ap (λ x. x.depth) e; signs = ap (λ x. x.signs) e }
fixed_spots fixed.Star s next h = let e : s ≡ next = cc in record { depth = ap (λ x. x.depth) e; signs = ap (λ x. x.signs) e }
fixed_spots fixed.Slash s next h = let e : s ≡ next = cc in record { depth = ap (λ x. x.depth) e; signs = ap (λ x. x.signs) e }
fixed_spots fixed.Equals s next h = let e : record { depth = s.depth; signs = 0 } ≡ next = cc in record { depth = ap (λ x. x.depth) e; signs = ap (λ x. x.signs) e }
fixed_spots fixed.Less s next h = let e : record { depth = s.depth; signs = 0 } ≡ next = cc in record { depth = ap (λ x. x.depth) e; signs = ap (λ x. x.signs) e }
fixed_spots fixed.AtMost s next h = let e : record { depth = s.depth; signs = 0 } ≡ next = cc in record { depth = ap (λ x. x.depth) e; signs = ap (λ x. x.signs) e }
fixed_spots fixed.More s next h = let e : record { depth = s.depth; signs = 0 } ≡ next = cc in record { depth = ap (λ x. x.depth) e; signs = ap (λ x. x.signs) e }
fixed_spots fixed.AtLeast s next h = let e : record { depth = s.depth; signs = 0 } ≡ next = cc in record { depth = ap (λ x. x.depth) e; signs = ap (λ x. x.signs) e }

same_spots : (s next : Spot) (t : List ℕ) → Other t → s ≡ next → Spots s next t
same_spots s next t h e = record { depth = other_deep t s.depth h ∙ ap (λ x. x.depth) e; signs = other_signs t s.signs h ∙ ap (λ x. x.signs) e }

spots : (w : What) (s next : Spot) → IsSoundWhat w → step s w ≡ Some next → Spots s next (what_text w)
spots (what.Fixed f) s next r h = fixed_spots f s next h
spots (what.Name w) s next r h = same_spots s next w (other_name w r) cc
spots (what.Number n) s next r h = same_spots s next (decimal n) (other_number n r) cc

-- the spot behind tokens
pub record Reached (s last : Spot) (ts : List Token) : Type 0 where
  pub depth : fold deep_after s.depth (texts_of ts) ≡ last.depth
  pub signs : fold signs_after s.signs (texts_of ts) ≡ last.signs

reach_on : (t : Token) (ts : List Token) (s last : Spot) (o : Option Spot) → IsSoundWhat t.what → step s t.what ≡ o → on o (λ next. scan next ts) ≡ Some last → ((next : Spot) → scan next ts ≡ Some last → Reached next last ts) → Reached s last (t ∷ ts)
reach_on t ts s last None r e h more = cc
reach_on t ts s last (Some next) r e h more =
    let x = spots t.what s next r e in
    let y = more next h in
    record { depth = ap (λ n. fold deep_after n (texts_of ts)) x.depth ∙ y.depth; signs = ap (λ n. fold signs_after n (texts_of ts)) x.signs ∙ y.signs }

pub reached : (ts : List Token) (s last : Spot) → AreSound ts → scan s ts ≡ Some last → Reached s last ts
reached [] s last r h = let e : s ≡ last = cc in record { depth = ap (λ x. x.depth) e; signs = ap (λ x. x.signs) e }
reached (t ∷ ts) s last r h = reach_on t ts s last (step s t.what) r.0 refl h (λ next k. reached ts next last r.1 k)

-- a token that passes a limit at a spot
abbrev PassesHere : Spot → List ℕ → Type 0
PassesHere s t = ((t ≡ codes "{") × (s.depth ≡ 64)) ⊎ (IsTrue (is_plus_or_minus t) × (s.signs ≡ 63))

stopped_depth : (d k : ℕ) → d ≡ 64 → cond {A = Option Spot} (d == 64) None (Some (record { depth = d + 1; signs = k })) ≡ None
stopped_depth d k e = ap (λ b. cond {A = Option Spot} b None (Some (record { depth = d + 1; signs = k }))) (eq-eqb d 64 e)

stopped_signs : (d k : ℕ) → k ≡ 63 → cond {A = Option Spot} (k == 63) None (Some (record { depth = d; signs = k + 1 })) ≡ None
stopped_signs d k e = ap (λ b. cond {A = Option Spot} b None (Some (record { depth = d; signs = k + 1 }))) (eq-eqb k 63 e)

sign_fixed : (f : Fixed) → IsTrue (is_plus_or_minus (fixed_text f)) → (f ≡ fixed.Plus) ⊎ (f ≡ fixed.Minus)
sign_fixed fixed.Plus h = inl refl
sign_fixed fixed.Minus h = inr refl
sign_fixed f h = cc

signed : (w : What) → IsSoundWhat w → IsTrue (is_plus_or_minus (what_text w)) → (w ≡ what.Fixed fixed.Plus) ⊎ (w ≡ what.Fixed fixed.Minus)
signed (what.Fixed f) r h = elim (sign_fixed f h) [ inl e ↦ inl (ap (λ x. what.Fixed x) e) | inr e ↦ inr (ap (λ x. what.Fixed x) e) ]
signed (what.Name w) r h = no_clash (is_plus_or_minus w) h (other_sign w (other_name w r))
signed (what.Number n) r h = no_clash (is_plus_or_minus (decimal n)) h (other_sign (decimal n) (other_number n r))

stops : (w : What) (s : Spot) → IsSoundWhat w → PassesHere s (what_text w) → step s w ≡ None
stops w s r (inl h) =
    let e : w ≡ what.Fixed fixed.OpenBrace = sound_one w (what.Fixed fixed.OpenBrace) r tt h.0 in
    ap (step s) e ∙ stopped_depth s.depth s.signs h.1
stops w s r (inr h) = elim (signed w r h.0) [ inl e ↦ ap (step s) e ∙ stopped_signs s.depth s.signs h.1 | inr e ↦ ap (step s) e ∙ stopped_signs s.depth s.signs h.1 ]

-- a limit that is passed behind these texts, from a spot on
abbrev PassesBehind : Spot → List (List ℕ) → List ℕ → Type 0
PassesBehind s front t = ((t ≡ codes "{") × (fold deep_after s.depth front ≡ 64)) ⊎ (IsTrue (is_plus_or_minus t) × (fold signs_after s.signs front ≡ 63))

moved : (s next : Spot) (x t : List ℕ) (front : List (List ℕ)) → Spots s next x → PassesBehind s (x ∷ front) t → PassesBehind next front t
moved s next x t front e (inl h) = inl (h.0, ap (λ n. fold deep_after n front) (sym e.depth) ∙ h.1)
moved s next x t front e (inr h) = inr (h.0, ap (λ n. fold signs_after n front) (sym e.signs) ∙ h.1)

keep_first : (u : Token) (s last : Spot) (us : List Token) → IsSoundWhat u.what → scan s (u ∷ us) ≡ Some last → PassesHere s (text_of u) → ⊥
keep_first u s last us r h p = let e : on (step s u.what) (λ next. scan next us) ≡ None = ap (λ o. on o (λ next. scan next us)) (stops u.what s r p) in cc

keep_on : (u : Token) (us : List Token) (s last : Spot) (o : Option Spot) (x t : List ℕ) (front back : List (List ℕ)) → IsSoundWhat u.what → step s u.what ≡ o → on o (λ next. scan next us) ≡ Some last → text_of u ≡ x
    → ((next : Spot) → scan next us ≡ Some last → PassesBehind next front t → ⊥) → PassesBehind s (x ∷ front) t → ⊥
keep_on u us s last None x t front back r e h same more p = cc
keep_on u us s last (Some next) x t front back r e h same more p = more next h (moved s next x t front (subst (λ (y : List ℕ). Spots s next y) same (spots u.what s next r e)) p)

kept : (us : List Token) (s last : Spot) → AreSound us → scan s us ≡ Some last → (front : List (List ℕ)) (t : List ℕ) (back : List (List ℕ)) → texts_of us ≡ front ++ t ∷ back → PassesBehind s front t → ⊥
kept [] s last r h [] t back e p = cc
kept [] s last r h (x ∷ front) t back e p = cc
kept (u ∷ us) s last r h [] t back e p =
    let same : text_of u ≡ t = cc in
    keep_first u s last us r.0 h (subst (λ (y : List ℕ). PassesHere s y) (sym same) p)
kept (u ∷ us) s last r h (x ∷ front) t back e p =
    let same : text_of u ≡ x = cc in
    let rest : texts_of us ≡ front ++ t ∷ back = cc in
    keep_on u us s last (step s u.what) x t front back r.0 refl h same (λ next k q. kept us next last r.1 k front t back rest q) p

unfoldable pub start : Spot
start = record { depth = 0; signs = 0 }

pub keeps_limits : (us : List Token) (last : Spot) → AreSound us → scan start us ≡ Some last → KeepLimits (texts_of us)
unfolding start
keeps_limits us last r h front t back e p = kept us start last r h front t back e p

pub braces_are : (us : List Token) (last : Spot) → AreSound us → scan start us ≡ Some last → open_braces (texts_of us) ≡ last.depth
unfolding start
braces_are us last r h = (reached us start last r h).depth

pub signs_are : (us : List Token) (last : Spot) → AreSound us → scan start us ≡ Some last → signs_of_sum (texts_of us) ≡ last.signs
unfolding start
signs_are us last r h = (reached us start last r h).signs
