-- The tokens of a program that the grammar can spell are tokens, and none is an angle directly before `=`.
use Rattle.std.proofs.Common.{◌≡◌, ℕ, zero, suc, ◌+◌, ◌%◌, ◌≤◌, ◌<◌, ◌^◌, Bool, true, false, ◌&&◌, ◌||◌, not, List, [], ◌∷◌, ◌++◌, length, get_or, map, codes, decimal, Option, Some, None, refl, sym, ap, ◌∙◌, arith, lit<}
use Rattle.std.specs.Prelude.{bytes_eq, nat_le, ◌==◌, IsTrue}
use Rattle.std.specs.List.{list_all}
use Rattle.std.proofs.lemmas.Bool.Decides.{nat_tests}
use Rattle.std.proofs.lemmas.Fmt.{decimal_by_steps, decimal_digit, decimal_nonempty, length-decimal-le, first_decimal}
use Rattle.slice_num.specs.Name.{is_letter, is_digit, is_word, is_name, is_among}
use Rattle.slice_lex.specs.Text.{is_number, is_sign, is_token, is_angle, leads_with_zero, equals_first, no_angle_before_equals, signs}
use Rattle.slice_ast.specs.Code.{Code, End, Cut, Let, Join, Give, If, Pick, Call, PlainBlock, PlainProc, PlainProgram}
use Rattle.slice_ast.specs.Tokens.{Mark, Plain, Spelled, Digits, Final, text_of, listed, more_listed, name_marks, names_after, ref_marks, den_marks, fraction_marks, operand_marks, factor_marks, term_marks, sign, more_marks, terms_marks, sum_marks, cmp_text, arg_marks, kind_text, param_marks, yield_marks, test_marks, if_end, code_marks, open_marks, block_marks, proc_marks, procs_marks, program_marks, tokens}
use Rattle.slice_ast.specs.Spellable.{Each, EachOfSome, HasName, HasDigits, CanSpellRef, CanSpellDen, CanSpellFraction, CanSpellFactor, CanSpellOperand, CanSpellTerm, CanSpellTerms, CanSpellSum, CanSpellArg, CanSpellParam, CanSpellCode, CanSpellBlock, CanSpellProc, IsSpellable}
use Rattle.slice_ast.specs.declared.tree.Name.{Name}
use Rattle.slice_ast.specs.declared.tree.Number.{Number}
use Rattle.slice_ast.specs.declared.tree.AgentRef.{AgentRef}
use Rattle.slice_ast.specs.declared.tree.AgentRef.TheVariants as ref
use Rattle.slice_ast.specs.declared.tree.Fraction.{Fraction}
use Rattle.slice_ast.specs.declared.tree.Operand.{Operand}
use Rattle.slice_ast.specs.declared.tree.Operand.TheVariants as operand
use Rattle.slice_ast.specs.declared.tree.Term.{Term}
use Rattle.slice_ast.specs.declared.tree.Sum.{Sum}
use Rattle.slice_ast.specs.declared.tree.Cmp.{Cmp}
use Rattle.slice_ast.specs.declared.tree.Cmp.TheVariants as cmp
use Rattle.slice_ast.specs.declared.tree.Kind.{Kind}
use Rattle.slice_ast.specs.declared.tree.Kind.TheVariants as kind
use Rattle.slice_ast.specs.declared.tree.Param.{Param}
use Rattle.slice_ast.specs.declared.tree.Arg.{Arg}
use Rattle.slice_ast.specs.declared.tree.Arg.TheVariants as arg

texts : List Mark → List (List ℕ)
texts ms = map text_of ms

-- each is a token, no angle stands directly before `=`, and `=` doesn't come first
record Calm (ms : List Mark) : Type 0 where
  tokens : list_all is_token (map text_of ms) ≡ true
  apart : no_angle_before_equals (map text_of ms) ≡ true
  first : equals_first (map text_of ms) ≡ false

calm-nil : Calm []
calm-nil = record { tokens = refl; apart = refl; first = refl }

and-true : (a b : Bool) → a ≡ true → b ≡ true → (a && b) ≡ true
and-true a b p q = rw (p, q) refl

-- no `=` comes next
apart-cons : (a e n : Bool) → e ≡ false → n ≡ true → (not (a && e) && n) ≡ true
apart-cons true e n p q = rw (p, q) refl
apart-cons false e n p q = q

calm-cons : (m : Mark) (ms : List Mark) → is_token (text_of m) ≡ true → bytes_eq (text_of m) (codes "=") ≡ false → Calm ms → Calm (m ∷ ms)
calm-cons m ms t e c = record {
  tokens = and-true (is_token (text_of m)) (list_all is_token (map text_of ms)) t c.tokens;
  apart = apart-cons (is_angle (text_of m)) (equals_first (map text_of ms)) (no_angle_before_equals (map text_of ms)) c.first c.apart;
  first = e;
}

or-left : (a b : Bool) → a ≡ true → (a || b) ≡ true
or-left a b p = rw p refl

or-right : (a b : Bool) → b ≡ true → (a || b) ≡ true
or-right true b p = refl
or-right false b p = p

-- a keyword, and a sign but `=`
word : (w : List ℕ) (ms : List Mark) → is_word w ≡ true → bytes_eq w (codes "=") ≡ false → Calm ms → Calm (Plain w ∷ ms)
word w ms t e c = calm-cons (Plain w) ms (or-left (is_word w || is_number w) (is_sign w) (or-left (is_word w) (is_number w) t)) e c

is_sign-token : (w : List ℕ) → is_among w signs ≡ true → is_token w ≡ true
unfolding is_sign
is_sign-token w t = or-right (is_word w || is_number w) (is_among w signs) t

mark : (w : List ℕ) (ms : List Mark) → is_among w signs ≡ true → bytes_eq w (codes "=") ≡ false → Calm ms → Calm (Plain w ∷ ms)
mark w ms t e c = calm-cons (Plain w) ms (is_sign-token w t) e c

last : (w : List ℕ) (at : ℕ) (ms : List Mark) → is_among w signs ≡ true → bytes_eq w (codes "=") ≡ false → Calm ms → Calm (Final w at ∷ ms)
last w at ms t e c = calm-cons (Final w at) ms (is_sign-token w t) e c

pub and-left : (a b : Bool) → (a && b) ≡ true → a ≡ true
and-left true b p = refl
and-left false b p = cc

-- a name
pub is_name-word : (w : List ℕ) → IsTrue (is_name w) → is_word w ≡ true
is_name-word w h = and-left (is_word w) _ h

letter-equals : (c : ℕ) (cs : List ℕ) → is_letter c ≡ true → bytes_eq (c ∷ cs) (codes "=") ≡ false
letter-equals c cs h = grind (arith, nat_tests)

word-equals : (w : List ℕ) → is_word w ≡ true → bytes_eq w (codes "=") ≡ false
word-equals [] h = cc
word-equals (c ∷ cs) h = letter-equals c cs (and-left (is_letter c) _ h)

letter-angle : (c : ℕ) (cs : List ℕ) → is_letter c ≡ true → is_angle (c ∷ cs) ≡ false
unfolding is_angle
letter-angle c cs h = grind (arith, nat_tests)

word-angle : (w : List ℕ) → is_word w ≡ true → is_angle w ≡ false
unfolding is_angle
word-angle [] h = cc
word-angle (c ∷ cs) h = letter-angle c cs (and-left (is_letter c) _ h)

name : (n : Name) (ms : List Mark) → HasName n → Calm ms → Calm (Spelled n ∷ ms)
name n ms h c =
    let t = is_name-word n.word h in
    calm-cons (Spelled n) ms (or-left (is_word n.word || is_number n.word) (is_sign n.word) (or-left (is_word n.word) (is_number n.word) t)) (word-equals n.word t) c

-- a number
list_all-append : (p : ℕ → Bool) (xs ys : List ℕ) → list_all p xs ≡ true → list_all p ys ≡ true → list_all p (xs ++ ys) ≡ true
list_all-append p [] ys h k = k
list_all-append p (x ∷ xs) ys h k = and-true (p x) (list_all p (xs ++ ys)) (and-left (p x) _ h) (list_all-append p xs ys (and-right (p x) (list_all p xs) h) k)
  where
    and-right : (a b : Bool) → (a && b) ≡ true → b ≡ true
    and-right true b q = q
    and-right false b q = cc

digit_ok : (d : ℕ) → d < 10 → is_digit (48 + d) ≡ true
digit_ok d h = grind (arith, nat_tests)

decimal-digits : (n : ℕ) → n < 2 ^ 64 → list_all is_digit (decimal n) ≡ true
decimal-digits n h =
    decimal_by_steps (λ m ds. list_all is_digit ds ≡ true)
    (λ m b. and-true (is_digit (48 + m)) true (digit_ok m b) refl)
    (λ m ds b e. list_all-append is_digit ds ((48 + m % 10) ∷ []) e (and-true (is_digit (48 + m % 10)) true (digit_ok (m % 10) (omega arith)) refl))
    n h

leads_not : (ds : List ℕ) → 48 < get_or ds 0 0 → leads_with_zero ds ≡ false
leads_not [] h = refl
leads_not (c ∷ []) h = refl
leads_not (c ∷ d ∷ cs) h = above c h
  where
    above : (c : ℕ) → 48 < c → (c == 48) ≡ false
    above c h = grind (arith, nat_tests)

decimal-leads : (n : ℕ) → n < 2 ^ 64 → leads_with_zero (decimal n) ≡ false
decimal-leads zero h = ap leads_with_zero (decimal_digit 0 (lit< tt))
decimal-leads (suc n) h = leads_not (decimal (suc n)) (first_decimal (suc n) (omega arith) h)

le-true : (m n : ℕ) → m ≤ n → nat_le m n ≡ true
le-true m n h = grind (arith, nat_tests)

not-false : (a : Bool) → a ≡ false → not a ≡ true
not-false a h = rw h refl

pub decimal-number : (n : ℕ) → n < 10 ^ 18 → is_number (decimal n) ≡ true
unfolding is_number
decimal-number n h =
    let b : n < 2 ^ 64 = omega arith in
    and-true (list_all is_digit (decimal n)) _ (decimal-digits n b)
    (and-true (nat_le 1 (length (decimal n))) _ (le-true 1 (length (decimal n)) (omega (arith, decimal_nonempty n b)))
    (and-true (nat_le (length (decimal n)) 18) _ (le-true (length (decimal n)) 18 (length-decimal-le 18 n (lit< tt) h b))
    (not-false (leads_with_zero (decimal n)) (decimal-leads n b))))

number-equals : (ds : List ℕ) → is_number ds ≡ true → bytes_eq ds (codes "=") ≡ false
unfolding is_number
number-equals [] h = cc
number-equals (c ∷ cs) h = digit-equals c cs (and-left (is_digit c) (list_all is_digit cs) (and-left (is_digit c && list_all is_digit cs) _ h))
  where
    digit-equals : (c : ℕ) (cs : List ℕ) → is_digit c ≡ true → bytes_eq (c ∷ cs) (codes "=") ≡ false
    digit-equals c cs h = grind (arith, nat_tests)

number : (n : Number) (ms : List Mark) → HasDigits n → Calm ms → Calm (Digits n ∷ ms)
number n ms h c =
    let t = decimal-number n.value h in
    calm-cons (Digits n) ms (or-left (is_word (decimal n.value) || is_number (decimal n.value)) (is_sign (decimal n.value)) (or-right (is_word (decimal n.value)) (is_number (decimal n.value)) t))
    (number-equals (decimal n.value) t) c

-- lists one after the other
cut-and : (a b : Bool) → (a && b) ≡ true → (a ≡ true) × (b ≡ true)
cut-and true b h = (refl, h)
cut-and false b h = cc

equals_first-append : (xs ys : List Mark) → equals_first (map text_of xs) ≡ false → equals_first (map text_of ys) ≡ false → equals_first (map text_of (xs ++ ys)) ≡ false
equals_first-append [] ys p q = q
equals_first-append (x ∷ xs) ys p q = p

apart-front : (a e n e2 n2 : Bool) → (not (a && e) && n) ≡ true → (e ≡ e2) → n2 ≡ true → (not (a && e2) && n2) ≡ true
apart-front a e n e2 n2 h p q = and-true (not (a && e2)) n2 (ap (λ x. not (a && x)) (sym p) ∙ (cut-and (not (a && e)) n h).0) q

tokens-append : (xs ys : List Mark) → list_all is_token (map text_of xs) ≡ true → list_all is_token (map text_of ys) ≡ true → list_all is_token (map text_of (xs ++ ys)) ≡ true
tokens-append [] ys p q = q
tokens-append (x ∷ xs) ys p q =
    let c = cut-and (is_token (text_of x)) (list_all is_token (map text_of xs)) p in
    and-true (is_token (text_of x)) (list_all is_token (map text_of (xs ++ ys))) c.0 (tokens-append xs ys c.1 q)

apart-append : (xs ys : List Mark) → no_angle_before_equals (map text_of xs) ≡ true → no_angle_before_equals (map text_of ys) ≡ true → equals_first (map text_of ys) ≡ false
    → no_angle_before_equals (map text_of (xs ++ ys)) ≡ true
apart-append [] ys p q e = q
apart-append (x ∷ []) ys p q e = apart-cons (is_angle (text_of x)) (equals_first (map text_of ys)) (no_angle_before_equals (map text_of ys)) e q
apart-append (x ∷ y ∷ xs) ys p q e =
    let c = cut-and (not (is_angle (text_of x) && equals_first (map text_of (y ∷ xs)))) (no_angle_before_equals (map text_of (y ∷ xs))) p in
    and-true (not (is_angle (text_of x) && equals_first (map text_of (y ∷ xs)))) (no_angle_before_equals (map text_of ((y ∷ xs) ++ ys))) c.0 (apart-append (y ∷ xs) ys c.1 q e)

join : (xs ys : List Mark) → Calm xs → Calm ys → Calm (xs ++ ys)
join xs ys c d = record {
  tokens = tokens-append xs ys c.tokens d.tokens;
  apart = apart-append xs ys c.apart d.apart d.first;
  first = equals_first-append xs ys c.first d.first;
}

-- `x =`, where x is a name
named-equals : (n : Name) (ms : List Mark) → HasName n → Calm ms → Calm (Spelled n ∷ Plain (codes "=") ∷ ms)
named-equals n ms h c =
    let t = is_name-word n.word h in
    let e = apart-cons false (equals_first (map text_of ms)) (no_angle_before_equals (map text_of ms)) c.first c.apart in
    let q : is_token (codes "=") ≡ true = is_sign-token (codes "=") refl in
    record {
      tokens = and-true (is_token n.word) _ (or-left (is_word n.word || is_number n.word) (is_sign n.word) (or-left (is_word n.word) (is_number n.word) t)) (and-true (is_token (codes "=")) _ q c.tokens);
      apart = and-true (not (is_angle n.word && true)) _ (ap (λ a. not (a && true)) (word-angle n.word t)) (equals-apart (map text_of ms) c.first c.apart);
      first = word-equals n.word t;
    }
  where
    equals-apart : (ts : List (List ℕ)) → equals_first ts ≡ false → no_angle_before_equals ts ≡ true → no_angle_before_equals (codes "=" ∷ ts) ≡ true
    equals-apart ts e n = apart-cons (is_angle (codes "=")) (equals_first ts) (no_angle_before_equals ts) e n

-- rule by rule
calm_more_listed : {A : Type 0} (item : A → List Mark) (P : A → Type 0) → ((x : A) → P x → Calm (item x)) → (xs : List A) → Each P xs → Calm (more_listed item xs)
calm_more_listed item P f [] h = calm-nil
calm_more_listed item P f (x ∷ xs) h = mark (codes ",") _ refl refl (join (item x) (more_listed item xs) (f x h.0) (calm_more_listed item P f xs h.1))

calm_listed : {A : Type 0} (item : A → List Mark) (P : A → Type 0) → ((x : A) → P x → Calm (item x)) → (xs : List A) → Each P xs → Calm (listed item xs)
calm_listed item P f [] h = calm-nil
calm_listed item P f (x ∷ xs) h = join (item x) (more_listed item xs) (f x h.0) (calm_more_listed item P f xs h.1)

calm_name : (n : Name) → HasName n → Calm (name_marks n)
calm_name n h = name n [] h calm-nil

calm_names : (w : List ℕ) (ns : List Name) → is_word w ≡ true → bytes_eq w (codes "=") ≡ false → Each HasName ns → Calm (names_after w ns)
calm_names w [] t e h = calm-nil
calm_names w (n ∷ ns) t e h = word w _ t e (calm_listed name_marks HasName calm_name (n ∷ ns) h)

pub each-of-some : {A : Type 0} (P : A → Type 0) (xs : List A) → EachOfSome P xs → Each P xs
each-of-some P [] h = absurd h
each-of-some P (x ∷ xs) h = h

calm_ref : (a : AgentRef) → CanSpellRef a → Calm (ref_marks a)
calm_ref (ref.Fixed n) h = number n [] h calm-nil
calm_ref (ref.Named x) h = name x [] h calm-nil

calm_den : (d : Option Number) → CanSpellDen d → Calm (den_marks d)
calm_den None h = calm-nil
calm_den (Some d) h = mark (codes "/") _ refl refl (number d [] h calm-nil)

calm_fraction : (f : Fraction) → CanSpellFraction f → Calm (fraction_marks f)
calm_fraction f h = number f.num _ h.0 (calm_den f.den h.1)

calm_operand : (o : Operand) → CanSpellOperand o → Calm (operand_marks o)
calm_operand (operand.Fraction f) h = calm_fraction f h
calm_operand (operand.Named x) h = name x [] h calm-nil
calm_operand (operand.Value a p) h =
    word (codes "value") _ refl refl (mark (codes "(") _ refl refl (join (ref_marks a) _ (calm_ref a h.0)
    (mark (codes ",") _ refl refl (name p _ h.1 (mark (codes ")") [] refl refl calm-nil)))))

calm_factor : (f : Option Fraction) → CanSpellFactor f → Calm (factor_marks f)
calm_factor None h = calm-nil
calm_factor (Some f) h = join (fraction_marks f) _ (calm_fraction f h) (mark (codes "*") [] refl refl calm-nil)

calm_term : (t : Term) → CanSpellTerm t → Calm (term_marks t)
calm_term t h = join (factor_marks t.factor) (operand_marks t.operand) (calm_factor t.factor h.0) (calm_operand t.operand h.1)

calm_sign : (b : Bool) (ms : List Mark) → Calm ms → Calm (Plain (sign b) ∷ ms)
calm_sign false ms c = mark (codes "+") ms refl refl c
calm_sign true ms c = mark (codes "-") ms refl refl c

calm_more : (ts : List Term) → Each CanSpellTerm ts → Calm (more_marks ts)
calm_more [] h = calm-nil
calm_more (t ∷ ts) h = calm_sign t.minus _ (join (term_marks t) (more_marks ts) (calm_term t h.0) (calm_more ts h.1))

calm_terms : (ts : List Term) → CanSpellTerms ts → Calm (terms_marks ts)
calm_terms [] h = absurd h
calm_terms (t ∷ ts) h = join (term_marks t) (more_marks ts) (calm_term t h.1) (calm_more ts h.2)

calm_sum : (s : Sum) → CanSpellSum s → Calm (sum_marks s)
calm_sum s h = calm_terms s.terms h

calm_cmp : (c : Cmp) (ms : List Mark) → Calm ms → Calm (Plain (cmp_text c) ∷ ms)
calm_cmp cmp.Less ms c = mark (codes "<") ms refl refl c
calm_cmp cmp.AtMost ms c = mark (codes "<=") ms refl refl c
calm_cmp cmp.More ms c = mark (codes ">") ms refl refl c
calm_cmp cmp.AtLeast ms c = mark (codes ">=") ms refl refl c

calm_arg : (a : Arg) → CanSpellArg a → Calm (arg_marks a)
calm_arg (arg.Agent a) h = word (codes "agent") _ refl refl (calm_ref a h)
calm_arg (arg.Piece p) h = word (codes "piece") _ refl refl (name p [] h calm-nil)
calm_arg (arg.Number s) h = word (codes "number") _ refl refl (calm_sum s h)

calm_kind : (k : Kind) (ms : List Mark) → Calm ms → Calm (Plain (kind_text k) ∷ ms)
calm_kind kind.Agent ms c = word (codes "agent") ms refl refl c
calm_kind kind.Piece ms c = word (codes "piece") ms refl refl c
calm_kind kind.Number ms c = word (codes "number") ms refl refl c

calm_param : (p : Param) → CanSpellParam p → Calm (param_marks p)
calm_param p h = calm_kind p.kind _ (name p.name [] h calm-nil)

calm_yield : (ns : List Name) → Each HasName ns → Calm (yield_marks ns)
calm_yield [] h = calm-nil
calm_yield (n ∷ ns) h = join (names_after (codes "yield") (n ∷ ns)) _ (calm_names (codes "yield") (n ∷ ns) refl refl h) (mark (codes ";") [] refl refl calm-nil)

calm_if_end : (ns : List Name) (e : ℕ) → Each HasName ns → Calm (if_end ns e)
calm_if_end [] e h = last (codes "}") e [] refl refl calm-nil
calm_if_end (n ∷ ns) e h =
    mark (codes "}") _ refl refl (join (names_after (codes "as") (n ∷ ns)) _ (calm_names (codes "as") (n ∷ ns) refl refl h) (last (codes ";") e [] refl refl calm-nil))

calm_test : (l : Sum) (o : Cmp) (r : Sum) → CanSpellSum l → CanSpellSum r → Calm (test_marks l o r)
calm_test l o r h k = word (codes "if") _ refl refl (join (sum_marks l) _ (calm_sum l h) (calm_cmp o _ (calm_sum r k)))

calm_code : (c : Code) → CanSpellCode c → Calm (code_marks c)
calm_code End h = calm-nil
calm_code (Cut a p s l r rest) h =
    word (codes "cut") _ refl refl (join (ref_marks a) _ (calm_ref a h.0) (name p _ h.1 (word (codes "at") _ refl refl (join (sum_marks s) _ (calm_sum s h.2)
    (word (codes "as") _ refl refl (name l _ h.3 (mark (codes ",") _ refl refl (name r _ h.4 (mark (codes ";") _ refl refl (calm_code rest h.5))))))))))
calm_code (Let n s rest) h = word (codes "let") _ refl refl (named-equals n _ h.0 (join (sum_marks s) _ (calm_sum s h.1) (mark (codes ";") _ refl refl (calm_code rest h.2))))
calm_code (Join p q n rest) h =
    word (codes "join") _ refl refl (name p _ h.0 (mark (codes ",") _ refl refl (name q _ h.1 (word (codes "as") _ refl refl (name n _ h.2 (mark (codes ";") _ refl refl (calm_code rest h.3)))))))
calm_code (Give p a rest) h =
    word (codes "give") _ refl refl (name p _ h.0 (word (codes "to") _ refl refl (join (ref_marks a) _ (calm_ref a h.1) (mark (codes ";") _ refl refl (calm_code rest h.2)))))
calm_code (If l o r y ys n ns names end rest) h =
    join (test_marks l o r) _ (calm_test l o r h.0 h.1) (mark (codes "{") _ refl refl (join (code_marks y) _ (calm_code y h.2) (join (yield_marks ys) _ (calm_yield ys h.3)
    (mark (codes "}") _ refl refl (word (codes "else") _ refl refl (mark (codes "{") _ refl refl (join (code_marks n) _ (calm_code n h.4) (join (yield_marks ns) _ (calm_yield ns h.5)
    (join (if_end names end) _ (calm_if_end names end h.6) (calm_code rest h.7))))))))))
calm_code (Pick a ps ns end rest) h =
    word (codes "pick") _ refl refl (join (ref_marks a) _ (calm_ref a h.0) (join (names_after (codes "from") ps) _ (calm_names (codes "from") ps refl refl (each-of-some HasName ps h.1))
    (join (names_after (codes "as") ns) _ (calm_names (codes "as") ns refl refl (each-of-some HasName ns h.2)) (last (codes ";") end _ refl refl (calm_code rest h.3)))))
calm_code (Call f xs ns end rest) h =
    word (codes "call") _ refl refl (name f _ h.0 (mark (codes "(") _ refl refl (join (listed arg_marks xs) _ (calm_listed arg_marks CanSpellArg calm_arg xs h.1)
    (mark (codes ")") _ refl refl (join (names_after (codes "as") ns) _ (calm_names (codes "as") ns refl refl h.2) (last (codes ";") end _ refl refl (calm_code rest h.3)))))))

calm_block : (b : PlainBlock) → CanSpellBlock b → Calm (block_marks b)
calm_block b h =
    join (open_marks b) _ (mark (codes "{") _ refl refl (join (code_marks b.code) _ (calm_code b.code h.0) (calm_yield b.yields h.1))) (mark (codes "}") [] refl refl calm-nil)

calm_proc : (p : PlainProc) → CanSpellProc p → Calm (proc_marks p)
calm_proc p h =
    word (codes "procedure") _ refl refl (name p.name _ h.0 (mark (codes "(") _ refl refl (join (listed param_marks p.params) _ (calm_listed param_marks CanSpellParam calm_param p.params h.1)
    (mark (codes ")") _ refl refl (calm_block p.body h.2)))))

calm_procs : (ps : List PlainProc) → Each CanSpellProc ps → Calm (procs_marks ps)
calm_procs [] h = calm-nil
calm_procs (p ∷ ps) h = join (proc_marks p) (procs_marks ps) (calm_proc p h.0) (calm_procs ps h.1)

calm_program : (p : PlainProgram) → IsSpellable p → Calm (program_marks p)
calm_program p h =
    join (procs_marks p.procs) _ (calm_procs p.procs h.0) (word (codes "protocol") _ refl refl (name p.name _ h.1 (word (codes "agents") _ refl refl (number p.agents _ h.2
    (mark (codes "{") _ refl refl (join (code_marks p.body) _ (calm_code p.body h.3) (mark (codes "}") [] refl refl calm-nil)))))))

pub program-tokens : (p : PlainProgram) → IsSpellable p → IsTrue (list_all is_token (tokens p))
program-tokens p h = (calm_program p h).tokens

pub program-apart : (p : PlainProgram) → IsSpellable p → IsTrue (no_angle_before_equals (tokens p))
program-apart p h = (calm_program p h).apart
