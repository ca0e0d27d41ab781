-- The tokens of two terms, sums or lists tell them apart, places aside, whatever comes after them.
use Rattle.std.proofs.Common.{◌≡◌, ℕ, Bool, true, false, ◌&&◌, List, [], ◌∷◌, ◌++◌, map, codes, decimal, Option, Some, None, refl, sym, ap, subst, ◌∙◌, arith}
use Rattle.std.specs.Prelude.{bytes_eq}
use Rattle.std.specs.List.{list_all}
use Rattle.std.proofs.lemmas.Bool.Decides.{nat_tests}
use Rattle.std.proofs.lemmas.Fmt.{decimal_injective}
use Rattle.std.proofs.lemmas.Slice.Eq.{bytes_eq-Decides}
use Rattle.slice_num.specs.Name.{is_letter, is_digit, is_word, is_name}
use Rattle.slice_lex.specs.Text.{is_number}
use Rattle.slice_ast.specs.Tokens.{Mark, Plain, Spelled, text_of, listed, more_listed, name_marks, names_after, ref_marks, den_marks, fraction_marks, operand_marks, factor_marks, term_marks, sign, more_marks, terms_marks, sum_marks, arg_marks, kind_text, param_marks}
use Rattle.slice_ast.specs.Spellable.{Each, HasName, HasDigits, CanSpellRef, CanSpellDen, CanSpellFraction, CanSpellFactor, CanSpellOperand, CanSpellTerm, CanSpellTerms, CanSpellSum, CanSpellArg, CanSpellParam}
use Rattle.slice_ast.specs.Bare.{bare_name, bare_number, bare_ref, bare_den, bare_fraction, bare_factor, bare_operand, bare_term, bare_sum, bare_arg, bare_param}
use Rattle.slice_ast.proofs.CalmLemmas.{decimal-number, is_name-word, and-left}
use Rattle.slice_ast.specs.declared.tree.Name.{Name}
use Rattle.slice_ast.specs.declared.tree.Number.{Number}
use Rattle.slice_ast.specs.declared.tree.AgentRef.{AgentRef}
use Rattle.slice_ast.specs.declared.tree.AgentRef.TheVariants as ref
use Rattle.slice_ast.specs.declared.tree.Fraction.{Fraction}
use Rattle.slice_ast.specs.declared.tree.Operand.{Operand}
use Rattle.slice_ast.specs.declared.tree.Operand.TheVariants as operand
use Rattle.slice_ast.specs.declared.tree.Term.{Term}
use Rattle.slice_ast.specs.declared.tree.Sum.{Sum}
use Rattle.slice_ast.specs.declared.tree.Kind.{Kind}
use Rattle.slice_ast.specs.declared.tree.Kind.TheVariants as kind
use Rattle.slice_ast.specs.declared.tree.Param.{Param}
use Rattle.slice_ast.specs.declared.tree.Arg.{Arg}
use Rattle.slice_ast.specs.declared.tree.Arg.TheVariants as arg

abbrev pub Texts : Type 0
Texts = List (List ℕ)

-- the texts of tokens, before others
abbrev pub onto : List Mark → Texts → Texts
onto [] r = r
onto (m ∷ ms) r = text_of m ∷ onto ms r

pub onto-append : (xs ys : List Mark) (r : Texts) → onto (xs ++ ys) r ≡ onto xs (onto ys r)
onto-append [] ys r = refl
onto-append (x ∷ xs) ys r = ap (λ ts. text_of x ∷ ts) (onto-append xs ys r)

-- both sides in two parts
pub parts : (xs xs2 ys ys2 : List Mark) (r s : Texts) → onto (xs ++ xs2) r ≡ onto (ys ++ ys2) s → onto xs (onto xs2 r) ≡ onto ys (onto ys2 s)
parts xs xs2 ys ys2 r s e = sym (onto-append xs xs2 r) ∙ e ∙ onto-append ys ys2 s

-- the same value, and the same after it
pub record Same {A : Type 0} (a b : A) (r s : Texts) : Type 0 where
  pub value : a ≡ b
  pub rest : r ≡ s

pub head : {t u : List ℕ} {r s : Texts} → t ∷ r ≡ u ∷ s → t ≡ u
head e = cc

pub next : {t u : List ℕ} {r s : Texts} → t ∷ r ≡ u ∷ s → r ≡ s
next e = cc

-- two texts that a test tells apart
pub differs : {t u : List ℕ} → t ≡ u → bytes_eq t u ≡ false → ⊥
differs {t} {u} e f = let q : bytes_eq t u ≡ true = (bytes_eq-Decides t u).1 e in cc

-- this text isn't the next one
abbrev pub first_is : List ℕ → Texts → Bool
first_is w [] = false
first_is w (t ∷ ts) = bytes_eq t w

abbrev pub Lacks : List ℕ → Texts → Type 0
Lacks w r = first_is w r ≡ false

pub lacks : (w : List ℕ) (r t : Texts) → bytes_eq w w ≡ true → Lacks w r → r ≡ w ∷ t → ⊥
lacks w r t self f e = let q : bytes_eq w w ≡ false = subst (λ ts. first_is w ts ≡ false) e f in cc

-- names, numbers and keywords differ
not_both : (t : List ℕ) → is_number t ≡ true → is_word t ≡ true → ⊥
unfolding is_number
not_both [] h k = cc
not_both (c ∷ cs) h k = both c (and-left (is_digit c) (list_all is_digit cs) (and-left (is_digit c && list_all is_digit cs) _ h)) (and-left (is_letter c) _ k)
  where
    both : (c : ℕ) → is_digit c ≡ true → is_letter c ≡ true → ⊥
    both c h k = grind (arith, nat_tests)

number_name : (n : Number) (x : Name) → HasDigits n → HasName x → decimal n.value ≡ x.word → ⊥
number_name n x h k e = not_both (decimal n.value) (decimal-number n.value h) (subst (λ t. is_word t ≡ true) (sym e) (is_name-word x.word k))

pub keyword_name : (w : List ℕ) (x : Name) → is_name w ≡ false → HasName x → x.word ≡ w → ⊥
keyword_name w x f k e = let q : is_name w ≡ true = subst (λ t. is_name t ≡ true) e k in cc

number_keyword : (n : Number) (w : List ℕ) → is_word w ≡ true → HasDigits n → decimal n.value ≡ w → ⊥
number_keyword n w f h e = not_both (decimal n.value) (decimal-number n.value h) (subst (λ t. is_word t ≡ true) (sym e) f)

pub name_same : (n m : Name) (r s : Texts) → n.word ∷ r ≡ m.word ∷ s → Same (bare_name n) (bare_name m) r s
name_same n m r s e = let h = head e in record { value = λ i. record { word = h i; at = 0 }; rest = next e }

pub number_same : (n m : Number) (r s : Texts) → HasDigits n → HasDigits m → decimal n.value ∷ r ≡ decimal m.value ∷ s → Same (bare_number n) (bare_number m) r s
number_same n m r s h k e =
    let v : n.value ≡ m.value = decimal_injective n.value m.value (omega arith) (omega arith) (head e) in
    record { value = λ i. record { value = v i; at = 0 }; rest = next e }

pub ref_same : (a b : AgentRef) (r s : Texts) → CanSpellRef a → CanSpellRef b → onto (ref_marks a) r ≡ onto (ref_marks b) s → Same (bare_ref a) (bare_ref b) r s
ref_same (ref.Fixed n) (ref.Fixed m) r s h k e = let q = number_same n m r s h k e in record { value = λ i. ref.Fixed (q.value i); rest = q.rest }
ref_same (ref.Fixed n) (ref.Named x) r s h k e = absurd (number_name n x h k (head e))
ref_same (ref.Named x) (ref.Fixed n) r s h k e = absurd (number_name n x k h (sym (head e)))
ref_same (ref.Named x) (ref.Named y) r s h k e = let q = name_same x y r s e in record { value = λ i. ref.Named (q.value i); rest = q.rest }

den_same : (c d : Option Number) (r s : Texts) → Lacks (codes "/") r → Lacks (codes "/") s → CanSpellDen c → CanSpellDen d → onto (den_marks c) r ≡ onto (den_marks d) s → Same (bare_den c) (bare_den d) r s
den_same None None r s f g h k e = record { value = refl; rest = e }
den_same None (Some d) r s f g h k e = absurd (lacks (codes "/") r _ refl f e)
den_same (Some c) None r s f g h k e = absurd (lacks (codes "/") s _ refl g (sym e))
den_same (Some c) (Some d) r s f g h k e = let q = number_same c d r s h k (next e) in record { value = λ i. Some (q.value i); rest = q.rest }

fraction_same : (f g : Fraction) (r s : Texts) → Lacks (codes "/") r → Lacks (codes "/") s → CanSpellFraction f → CanSpellFraction g → onto (fraction_marks f) r ≡ onto (fraction_marks g) s
    → Same (bare_fraction f) (bare_fraction g) r s
fraction_same f g r s p q h k e =
    let a = number_same f.num g.num (onto (den_marks f.den) r) (onto (den_marks g.den) s) h.0 k.0 e in
    let b = den_same f.den g.den r s p q h.1 k.1 a.rest in
    record { value = λ i. record { num = a.value i; den = b.value i }; rest = b.rest }

operand_same : (o p : Operand) (r s : Texts) → Lacks (codes "/") r → Lacks (codes "/") s → CanSpellOperand o → CanSpellOperand p → onto (operand_marks o) r ≡ onto (operand_marks p) s
    → Same (bare_operand o) (bare_operand p) r s
operand_same (operand.Fraction f) (operand.Fraction g) r s l m h k e = let q = fraction_same f g r s l m h k e in record { value = λ i. operand.Fraction (q.value i); rest = q.rest }
operand_same (operand.Fraction f) (operand.Named x) r s l m h k e = absurd (number_name f.num x h.0 k (head e))
operand_same (operand.Fraction f) (operand.Value a p) r s l m h k e = absurd (number_keyword f.num (codes "value") refl h.0 (head e))
operand_same (operand.Named x) (operand.Fraction g) r s l m h k e = absurd (number_name g.num x k.0 h (sym (head e)))
operand_same (operand.Named x) (operand.Named y) r s l m h k e = let q = name_same x y r s e in record { value = λ i. operand.Named (q.value i); rest = q.rest }
operand_same (operand.Named x) (operand.Value a p) r s l m h k e = absurd (keyword_name (codes "value") x refl h (head e))
operand_same (operand.Value a p) (operand.Fraction g) r s l m h k e = absurd (number_keyword g.num (codes "value") refl k.0 (sym (head e)))
operand_same (operand.Value a p) (operand.Named y) r s l m h k e = absurd (keyword_name (codes "value") y refl k (sym (head e)))
operand_same (operand.Value a p) (operand.Value b q) r s l m h k e =
    let x = ref_same a b _ _ h.0 k.0 (parts (ref_marks a) (Plain (codes ",") ∷ Spelled p ∷ Plain (codes ")") ∷ []) (ref_marks b) (Plain (codes ",") ∷ Spelled q ∷ Plain (codes ")") ∷ []) r s (next (next e))) in
    let y = name_same p q _ _ (next x.rest) in
    record { value = λ i. operand.Value (x.value i) (y.value i); rest = next y.rest }

-- no factor on one side alone
no_factor : (o : Operand) (g : Fraction) (r s : Texts) → Lacks (codes "/") r → Lacks (codes "*") r → CanSpellOperand o → CanSpellFraction g → onto (operand_marks o) r ≡ onto (fraction_marks g) (codes "*" ∷ s) → ⊥
no_factor (operand.Fraction f) g r s l m h k e = lacks (codes "*") r s refl m (fraction_same f g r (codes "*" ∷ s) l refl h k e).rest
no_factor (operand.Named x) g r s l m h k e = number_name g.num x k.0 h (sym (head e))
no_factor (operand.Value a p) g r s l m h k e = number_keyword g.num (codes "value") refl k.0 (sym (head e))

factor_parts : (f : Fraction) (o : Operand) (r : Texts) → onto ((fraction_marks f ++ Plain (codes "*") ∷ []) ++ operand_marks o) r ≡ onto (fraction_marks f) (codes "*" ∷ onto (operand_marks o) r)
factor_parts f o r = onto-append (fraction_marks f ++ Plain (codes "*") ∷ []) (operand_marks o) r ∙ onto-append (fraction_marks f) (Plain (codes "*") ∷ []) (onto (operand_marks o) r)

record SameTerm (f g : Option Fraction) (o p : Operand) (r s : Texts) : Type 0 where
  factor : bare_factor f ≡ bare_factor g
  operand : bare_operand o ≡ bare_operand p
  rest : r ≡ s

factor_same : (f g : Option Fraction) (o p : Operand) (r s : Texts) → Lacks (codes "/") r → Lacks (codes "*") r → Lacks (codes "/") s → Lacks (codes "*") s
    → CanSpellFactor f → CanSpellFactor g → CanSpellOperand o → CanSpellOperand p → onto (factor_marks f ++ operand_marks o) r ≡ onto (factor_marks g ++ operand_marks p) s → SameTerm f g o p r s
factor_same None None o p r s l m l2 m2 h k ho kp e = let q = operand_same o p r s l l2 ho kp e in record { factor = refl; operand = q.value; rest = q.rest }
factor_same None (Some g) o p r s l m l2 m2 h k ho kp e = absurd (no_factor o g r _ l m ho k (e ∙ factor_parts g p s))
factor_same (Some f) None o p r s l m l2 m2 h k ho kp e = absurd (no_factor p f s _ l2 m2 kp h (sym e ∙ factor_parts f o r))
factor_same (Some f) (Some g) o p r s l m l2 m2 h k ho kp e =
    let a = fraction_same f g (codes "*" ∷ onto (operand_marks o) r) (codes "*" ∷ onto (operand_marks p) s) refl refl h k (sym (factor_parts f o r) ∙ e ∙ factor_parts g p s) in
    let b = operand_same o p r s l l2 ho kp (next a.rest) in
    record { factor = λ i. Some (a.value i); operand = b.value; rest = b.rest }

-- what may come after a sum
pub record EndsSum (r : Texts) : Type 0 where
  pub slash : Lacks (codes "/") r
  pub star : Lacks (codes "*") r
  pub plus : Lacks (codes "+") r
  pub minus : Lacks (codes "-") r

term_same : (t u : Term) (r s : Texts) → Lacks (codes "/") r → Lacks (codes "*") r → Lacks (codes "/") s → Lacks (codes "*") s → CanSpellTerm t → CanSpellTerm u → t.minus ≡ u.minus
    → onto (term_marks t) r ≡ onto (term_marks u) s → Same (bare_term t) (bare_term u) r s
term_same t u r s l m l2 m2 h k b e =
    let q = factor_same t.factor u.factor t.operand u.operand r s l m l2 m2 h.0 k.0 h.1 k.1 e in
    record { value = λ i. record { minus = b i; factor = q.factor i; operand = q.operand i }; rest = q.rest }

signed_slash : (ts : List Term) (r : Texts) → EndsSum r → Lacks (codes "/") (onto (more_marks ts) r)
signed_slash [] r f = f.slash
signed_slash (t ∷ ts) r f = by_sign t.minus
  where
    by_sign : (b : Bool) → bytes_eq (sign b) (codes "/") ≡ false
    by_sign true = refl
    by_sign false = refl

signed_star : (ts : List Term) (r : Texts) → EndsSum r → Lacks (codes "*") (onto (more_marks ts) r)
signed_star [] r f = f.star
signed_star (t ∷ ts) r f = by_sign t.minus
  where
    by_sign : (b : Bool) → bytes_eq (sign b) (codes "*") ≡ false
    by_sign true = refl
    by_sign false = refl

no_sign : (b : Bool) (r s : Texts) → EndsSum r → r ≡ sign b ∷ s → ⊥
no_sign true r s f e = lacks (codes "-") r s refl f.minus e
no_sign false r s f e = lacks (codes "+") r s refl f.plus e

sign_same : (a b : Bool) → sign a ≡ sign b → a ≡ b
sign_same true true e = refl
sign_same true false e = cc
sign_same false true e = cc
sign_same false false e = refl

more_same : (ts us : List Term) (r s : Texts) → EndsSum r → EndsSum s → Each CanSpellTerm ts → Each CanSpellTerm us → onto (more_marks ts) r ≡ onto (more_marks us) s
    → Same (map bare_term ts) (map bare_term us) r s
more_same [] [] r s f g h k e = record { value = refl; rest = e }
more_same [] (u ∷ us) r s f g h k e = absurd (no_sign u.minus r _ f e)
more_same (t ∷ ts) [] r s f g h k e = absurd (no_sign t.minus s _ g (sym e))
more_same (t ∷ ts) (u ∷ us) r s f g h k e =
    let a = term_same t u (onto (more_marks ts) r) (onto (more_marks us) s) (signed_slash ts r f) (signed_star ts r f) (signed_slash us s g) (signed_star us s g) h.0 k.0
    (sign_same t.minus u.minus (head e)) (parts (term_marks t) (more_marks ts) (term_marks u) (more_marks us) r s (next e)) in
    let b = more_same ts us r s f g h.1 k.1 a.rest in
    record { value = λ i. a.value i ∷ b.value i; rest = b.rest }

terms_same : (ts us : List Term) (r s : Texts) → EndsSum r → EndsSum s → CanSpellTerms ts → CanSpellTerms us → onto (terms_marks ts) r ≡ onto (terms_marks us) s
    → Same (map bare_term ts) (map bare_term us) r s
terms_same [] us r s f g h k e = absurd h
terms_same (t ∷ ts) [] r s f g h k e = absurd k
terms_same (t ∷ ts) (u ∷ us) r s f g h k e =
    let a = term_same t u (onto (more_marks ts) r) (onto (more_marks us) s) (signed_slash ts r f) (signed_star ts r f) (signed_slash us s g) (signed_star us s g) h.1 k.1
    (h.0 ∙ sym k.0) (parts (term_marks t) (more_marks ts) (term_marks u) (more_marks us) r s e) in
    let b = more_same ts us r s f g h.2 k.2 a.rest in
    record { value = λ i. a.value i ∷ b.value i; rest = b.rest }

pub sum_same : (a b : Sum) (r s : Texts) → EndsSum r → EndsSum s → CanSpellSum a → CanSpellSum b → onto (sum_marks a) r ≡ onto (sum_marks b) s → Same (bare_sum a) (bare_sum b) r s
sum_same a b r s f g h k e = let q = terms_same a.terms b.terms r s f g h k e in record { value = λ i. record { terms = q.value i }; rest = q.rest }

-- what may come after an item of a list
pub record EndsItem (r : Texts) : Type 0 where
  pub sum : EndsSum r
  pub comma : Lacks (codes ",") r

-- an item is told by its tokens, whatever ends it
abbrev pub IsTold : {A : Type 0} → (A → List Mark) → (A → A) → (A → Type 0) → Type 0
IsTold {A} item bare P = (x y : A) (r s : Texts) → EndsSum r → EndsSum s → P x → P y → onto (item x) r ≡ onto (item y) s → Same (bare x) (bare y) r s

ends-more : {A : Type 0} (item : A → List Mark) (xs : List A) (r : Texts) → EndsItem r → EndsSum (onto (more_listed item xs) r)
ends-more item [] r f = f.sum
ends-more item (x ∷ xs) r f = record { slash = refl; star = refl; plus = refl; minus = refl }

more_listed_same : {A : Type 0} (item : A → List Mark) (bare : A → A) (P : A → Type 0) → IsTold item bare P → (xs ys : List A) (r s : Texts) → EndsItem r → EndsItem s → Each P xs → Each P ys
    → onto (more_listed item xs) r ≡ onto (more_listed item ys) s → Same (map bare xs) (map bare ys) r s
more_listed_same item bare P told [] [] r s f g h k e = record { value = refl; rest = e }
more_listed_same item bare P told [] (y ∷ ys) r s f g h k e = absurd (lacks (codes ",") r _ refl f.comma e)
more_listed_same item bare P told (x ∷ xs) [] r s f g h k e = absurd (lacks (codes ",") s _ refl g.comma (sym e))
more_listed_same item bare P told (x ∷ xs) (y ∷ ys) r s f g h k e =
    let a = told x y (onto (more_listed item xs) r) (onto (more_listed item ys) s) (ends-more item xs r f) (ends-more item ys s g) h.0 k.0
    (parts (item x) (more_listed item xs) (item y) (more_listed item ys) r s (next e)) in
    let b = more_listed_same item bare P told xs ys r s f g h.1 k.1 a.rest in
    record { value = λ i. a.value i ∷ b.value i; rest = b.rest }

cons_same : {A : Type 0} (item : A → List Mark) (bare : A → A) (P : A → Type 0) → IsTold item bare P → (x y : A) (xs ys : List A) (r s : Texts) → EndsItem r → EndsItem s → Each P (x ∷ xs) → Each P (y ∷ ys)
    → onto (listed item (x ∷ xs)) r ≡ onto (listed item (y ∷ ys)) s → Same (map bare (x ∷ xs)) (map bare (y ∷ ys)) r s
cons_same item bare P told x y xs ys r s f g h k e =
    let a = told x y (onto (more_listed item xs) r) (onto (more_listed item ys) s) (ends-more item xs r f) (ends-more item ys s g) h.0 k.0
    (parts (item x) (more_listed item xs) (item y) (more_listed item ys) r s e) in
    let b = more_listed_same item bare P told xs ys r s f g h.1 k.1 a.rest in
    record { value = λ i. a.value i ∷ b.value i; rest = b.rest }

-- a list in parentheses, of items that don't begin with `)`
pub listed_same : {A : Type 0} (item : A → List Mark) (bare : A → A) (P : A → Type 0) → IsTold item bare P → ((x : A) (r : Texts) → Lacks (codes ")") (onto (item x) r)) → (xs ys : List A) (r s : Texts)
    → Each P xs → Each P ys → onto (listed item xs) (codes ")" ∷ r) ≡ onto (listed item ys) (codes ")" ∷ s) → Same (map bare xs) (map bare ys) r s
listed_same item bare P told starts [] [] r s h k e = record { value = refl; rest = next e }
listed_same item bare P told starts [] (y ∷ ys) r s h k e =
    absurd (lacks (codes ")") _ r refl (starts y _) (sym (onto-append (item y) (more_listed item ys) (codes ")" ∷ s)) ∙ sym e))
listed_same item bare P told starts (x ∷ xs) [] r s h k e =
    absurd (lacks (codes ")") _ s refl (starts x _) (sym (onto-append (item x) (more_listed item xs) (codes ")" ∷ r)) ∙ e))
listed_same item bare P told starts (x ∷ xs) (y ∷ ys) r s h k e =
    let f : (t : Texts) → EndsItem (codes ")" ∷ t) = λ t. record { sum = record { slash = refl; star = refl; plus = refl; minus = refl }; comma = refl } in
    let q = cons_same item bare P told x y xs ys (codes ")" ∷ r) (codes ")" ∷ s) (f r) (f s) h k e in
    record { value = q.value; rest = next q.rest }

name_told : IsTold name_marks bare_name HasName
name_told x y r s f g h k e = name_same x y r s e

pub names_same : (w : List ℕ) (xs ys : List Name) (r s : Texts) → bytes_eq w w ≡ true → Lacks w r → Lacks w s → EndsItem r → EndsItem s → Each HasName xs → Each HasName ys
    → onto (names_after w xs) r ≡ onto (names_after w ys) s → Same (map bare_name xs) (map bare_name ys) r s
names_same w [] [] r s self l m f g h k e = record { value = refl; rest = e }
names_same w [] (y ∷ ys) r s self l m f g h k e = absurd (lacks w r _ self l e)
names_same w (x ∷ xs) [] r s self l m f g h k e = absurd (lacks w s _ self m (sym e))
names_same w (x ∷ xs) (y ∷ ys) r s self l m f g h k e = cons_same name_marks bare_name HasName name_told x y xs ys r s f g h k (next e)

pub arg_told : IsTold arg_marks bare_arg CanSpellArg
arg_told (arg.Agent a) (arg.Agent b) r s f g h k e = let q = ref_same a b r s h k (next e) in record { value = λ i. arg.Agent (q.value i); rest = q.rest }
arg_told (arg.Piece x) (arg.Piece y) r s f g h k e = let q = name_same x y r s (next e) in record { value = λ i. arg.Piece (q.value i); rest = q.rest }
arg_told (arg.Number a) (arg.Number b) r s f g h k e = let q = sum_same a b r s f g h k (next e) in record { value = λ i. arg.Number (q.value i); rest = q.rest }
arg_told (arg.Agent a) (arg.Piece y) r s f g h k e = absurd (differs (head e) refl)
arg_told (arg.Agent a) (arg.Number b) r s f g h k e = absurd (differs (head e) refl)
arg_told (arg.Piece x) (arg.Agent b) r s f g h k e = absurd (differs (head e) refl)
arg_told (arg.Piece x) (arg.Number b) r s f g h k e = absurd (differs (head e) refl)
arg_told (arg.Number a) (arg.Agent b) r s f g h k e = absurd (differs (head e) refl)
arg_told (arg.Number a) (arg.Piece y) r s f g h k e = absurd (differs (head e) refl)

pub arg_starts : (a : Arg) (r : Texts) → Lacks (codes ")") (onto (arg_marks a) r)
arg_starts (arg.Agent a) r = refl
arg_starts (arg.Piece x) r = refl
arg_starts (arg.Number s) r = refl

kind_same : (a b : Kind) → kind_text a ≡ kind_text b → a ≡ b
kind_same kind.Agent kind.Agent e = refl
kind_same kind.Agent kind.Piece e = absurd (differs e refl)
kind_same kind.Agent kind.Number e = absurd (differs e refl)
kind_same kind.Piece kind.Agent e = absurd (differs e refl)
kind_same kind.Piece kind.Piece e = refl
kind_same kind.Piece kind.Number e = absurd (differs e refl)
kind_same kind.Number kind.Agent e = absurd (differs e refl)
kind_same kind.Number kind.Piece e = absurd (differs e refl)
kind_same kind.Number kind.Number e = refl

pub param_told : IsTold param_marks bare_param CanSpellParam
param_told p q r s f g h k e =
    let a = kind_same p.kind q.kind (head e) in
    let b = name_same p.name q.name r s (next e) in
    record { value = λ i. record { kind = a i; name = b.value i }; rest = b.rest }

pub param_starts : (p : Param) (r : Texts) → Lacks (codes ")") (onto (param_marks p) r)
param_starts p r = by_kind p.kind
  where
    by_kind : (k : Kind) → bytes_eq (kind_text k) (codes ")") ≡ false
    by_kind kind.Agent = refl
    by_kind kind.Piece = refl
    by_kind kind.Number = refl
