-- What each step of a rule reads: the tokens of these marks, where what follows them is as F says.
use Rattle.std.proofs.Common.{◌≡◌, ℕ, zero, suc, ◌≤◌, Bool, true, false, cond, List, [], ◌∷◌, ◌++◌, length, refl, ap, sym, subst, ◌∙◌, append_assoc, arith, Option, Some}
use Rattle.slice_ast.specs.Tokens.{Mark}
use Rattle.slice_parse.specs.declared.lexeme.What.{What}
use Rattle.slice_parse.specs.Combinators.{Token, Fault, Outcome, Good, Parser, and_then, ◌>>=◌, pure, next_is, when, taken, one, many}
use Rattle.slice_ast.specs.Spellable.{Each}
use Rattle.slice_parse.proofs.Matching.{Is, Matches, also, what_of, Parts, matches_parts}

pub record Got {A : Type 0} (p : Parser A) (us r : List Token) (R : A → Type 0) : Type 0 where
  pub value : A
  pub got : p (us ++ r) ≡ Good value r
  pub is : R value

pub record Done {A : Type 0} (F : List Token → Type 0) (p : Parser A) (ms : List Mark) (R : A → Type 0) : Type 0 where
  pub reads : (us r : List Token) → Matches ms us → F r → Got p us r R

abbrev pub Any : {A : Type 0} → A → Type 0
Any a = Unit {0}

-- anything may follow
abbrev pub Free : List Token → Type 0
Free r = Unit {0}

abbrev pub Not : (Token → Bool) → List Token → Type 0
Not test r = next_is test r ≡ false

pub done_marks : {A : Type 0} {F : List Token → Type 0} {p : Parser A} {R : A → Type 0} (ms ns : List Mark) → ms ≡ ns → Done F p ns R → Done F p ms R
done_marks {F = F} {p = p} {R = R} ms ns e d = subst (λ (xs : List Mark). Done F p xs R) (sym e) d

-- what follows may be less
pub done_less : {A : Type 0} {F G : List Token → Type 0} {p : Parser A} {R : A → Type 0} {ms : List Mark} → ((r : List Token) → G r → F r) → Done F p ms R → Done G p ms R
done_less l d = record { reads = λ us r m g. d.reads us r m (l r g) }

pub done_turn : {A : Type 0} {F : List Token → Type 0} {p : Parser A} {R S : A → Type 0} {ms : List Mark} → ((a : A) → R a → S a) → Done F p ms R → Done F p ms S
done_turn l d = record { reads = λ us r m f. let g = d.reads us r m f in record { value = g.value; got = g.got; is = l g.value g.is } }

module _ {A B : Type 0} {F G : List Token → Type 0} {ms ns : List Mark} {R : A → Type 0} {S : B → Type 0} (p : Parser A) (k : A → Parser B)
    (first : Done F p ms R) (next : (a : A) → R a → Done G (k a) ns S) (follow : (us r : List Token) → Matches ns us → G r → F (us ++ r)) where
  bind_parts : (us r : List Token) → G r → Parts ms ns us → Got (p >>= k) us r S
  bind_parts us r g x =
      let one = first.reads x.front (x.back ++ r) x.first (follow x.back r x.second g) in
      let two = (next one.value one.is).reads x.back r x.second g in
      record {
        value = two.value;
        is = two.is;
        got =
            ap (λ ts. and_then (p ts) k) (ap (λ ts. ts ++ r) x.whole ∙ append_assoc x.front x.back r) ∙ ap (λ o. and_then o k) one.got ∙ two.got;
      }

  pub done_bind : Done G (p >>= k) (ms ++ ns) S
  done_bind = record { reads = λ us r m g. bind_parts us r g (matches_parts ms ns us m) }

pub then_is : {A B : Type 0} {F G : List Token → Type 0} {ms ns : List Mark} {S : B → Type 0} (p : Parser A) (k : A → Parser B) (b : A)
    → Done F p ms (λ a. a ≡ b) → Done G (k b) ns S → ((us r : List Token) → Matches ns us → G r → F (us ++ r)) → Done G (p >>= k) (ms ++ ns) S
then_is {G = G} {ns = ns} {S = S} p k b first next follow = done_bind p k first (λ a e. subst (λ x. Done G (k x) ns S) (sym e) next) follow

pub then_any : {A B : Type 0} {F G : List Token → Type 0} {ms ns : List Mark} {S : B → Type 0} (p : Parser A) (k : A → Parser B)
    → Done F p ms Any → ((a : A) → Done G (k a) ns S) → ((us r : List Token) → Matches ns us → G r → F (us ++ r)) → Done G (p >>= k) (ms ++ ns) S
then_any p k first next follow = done_bind p k first (λ a e. next a) follow

-- the last step: nothing more is read
pub last : {A B : Type 0} {F : List Token → Type 0} {ms : List Mark} {R : A → Type 0} {S : B → Type 0} (p : Parser A) (k : A → Parser B)
    → Done F p ms R → ((a : A) → R a → (r : List Token) → F r → Got (k a) [] r S) → Done F (p >>= k) ms S
last p k first next = record {
  reads = λ us r m f.
      let g = first.reads us r m f in
      let h = next g.value g.is r f in
      record { value = h.value; got = ap (λ o. and_then o k) g.got ∙ h.got; is = h.is };
}

pub last_is : {A B : Type 0} {F : List Token → Type 0} {ms : List Mark} {S : B → Type 0} (p : Parser A) (k : A → Parser B) (b : A) (v : B)
    → Done F p ms (λ a. a ≡ b) → ((r : List Token) → F r → k b r ≡ Good v r) → S v → Done F (p >>= k) ms S
last_is p k b v first next s = last p k first (λ a e r f. record { value = v; got = ap (λ x. k x r) e ∙ next r f; is = s })

pub last_any : {A B : Type 0} {F : List Token → Type 0} {ms : List Mark} {S : B → Type 0} (p : Parser A) (k : A → Parser B) (v : B)
    → Done F p ms Any → ((a : A) (r : List Token) → k a r ≡ Good v r) → S v → Done F (p >>= k) ms S
last_any p k v first next s = last p k first (λ a e r f. record { value = v; got = next a r; is = s })

when_true : {A : Type 0} (test : Token → Bool) (p q : Parser A) (ts : List Token) (o : Outcome A) → next_is test ts ≡ true → p ts ≡ o → when test p q ts ≡ o
when_true test p q ts o t h = ap (λ b. cond b (p ts) (q ts)) t ∙ h

pub when_false : {A : Type 0} (test : Token → Bool) (p q : Parser A) (ts : List Token) (o : Outcome A) → next_is test ts ≡ false → q ts ≡ o → when test p q ts ≡ o
when_false test p q ts o t h = ap (λ b. cond b (p ts) (q ts)) t ∙ h

pub done_true : {A : Type 0} {F : List Token → Type 0} {ms : List Mark} {R : A → Type 0} (test : Token → Bool) (p q : Parser A) → ((us r : List Token) → Matches ms us → F r → next_is test (us ++ r) ≡ true) → Done F p ms R → Done F (when test p q) ms R
done_true test p q t d = record { reads = λ us r m f. let g = d.reads us r m f in record { value = g.value; got = when_true test p q (us ++ r) (Good g.value r) (t us r m f) g.got; is = g.is } }

pub done_false : {A : Type 0} {F : List Token → Type 0} {ms : List Mark} {R : A → Type 0} (test : Token → Bool) (p q : Parser A) → ((us r : List Token) → Matches ms us → F r → next_is test (us ++ r) ≡ false) → Done F q ms R → Done F (when test p q) ms R
done_false test p q t d = record { reads = λ us r m f. let g = d.reads us r m f in record { value = g.value; got = when_false test p q (us ++ r) (Good g.value r) (t us r m f) g.got; is = g.is } }

reads_nothing : {A : Type 0} {F : List Token → Type 0} (p : Parser A) (v : A) (R : A → Type 0) → R v → ((r : List Token) → F r → p r ≡ Good v r) → (us r : List Token) → Matches [] us → F r → Got p us r R
reads_nothing p v R w h [] r m f = record { value = v; got = h r f; is = w }
reads_nothing p v R w h (t ∷ us) r m f = elim m [ ]

-- a rule that reads nothing
pub done_nothing : {A : Type 0} {F : List Token → Type 0} {R : A → Type 0} (p : Parser A) (v : A) → R v → ((r : List Token) → F r → p r ≡ Good v r) → Done F p [] R
done_nothing {R = R} p v w h = record { reads = reads_nothing p v R w h }

-- what the token of a mark passes
pub by_mark : {m : Mark} {ms : List Mark} (test : What → Bool) (b : Bool) → test (what_of m) ≡ b → (us r : List Token) → Matches (m ∷ ms) us → next_is (λ t. test t.what) (us ++ r) ≡ b
by_mark test b e [] r m = elim m [ ]
by_mark test b e (t ∷ us) r (also i m) = ap test i.kind ∙ e

-- one token
pub record Takes {A : Type 0} (f : Token → Option A) (R : A → Type 0) (t : Token) : Type 0 where
  pub value : A
  pub takes : f t ≡ Some value
  pub is : R value

one_got : {A : Type 0} (f : Token → Option A) (m : Mark) (R : A → Type 0) → ((t : Token) → Is m t → Takes f R t) → (us r : List Token) → Matches (m ∷ []) us → Got (one f) us r R
one_got f m R h [] r x = elim x [ ]
one_got f m R h (t ∷ []) r (also i x) = let k = h t i in record { value = k.value; got = ap (λ o. taken o t r) k.takes; is = k.is }
one_got f m R h (t ∷ u ∷ us) r (also i x) = elim x [ ]

pub done_one : {A : Type 0} {R : A → Type 0} (f : Token → Option A) (m : Mark) → ((t : Token) → Is m t → Takes f R t) → Done Free (one f) (m ∷ []) R
done_one {R = R} f m h = record { reads = λ us r x y. one_got f m R h us r x }

-- items in a row
module _ {A : Type 0} {F Fi : List Token → Type 0} (marks : A → List Mark) (V : A → Type 0) (lines : List A → List Mark) (base : lines [] ≡ []) (step : (x : A) (xs : List A) → lines (x ∷ xs) ≡ marks x ++ lines xs)
    (fault : Fault) (test : Token → Bool) (item : Parser A)
    (each : (x : A) → V x → Done Fi item (marks x) (λ y. y ≡ x))
    (begin : (x : A) → V x → (us r : List Token) → Matches (marks x) us → next_is test (us ++ r) ≡ true)
    (after : (x : A) → V x → (us r : List Token) → Matches (marks x) us → Fi (us ++ r))
    (stop : (r : List Token) → F r → next_is test r ≡ false)
    (end : (r : List Token) → F r → Fi r) where
  none_left : (p : Parser (List A)) → Done F (when test p (pure [])) (lines []) (λ ys. ys ≡ [])
  none_left p = done_marks (lines []) [] base (done_nothing _ [] refl (λ r f. when_false test p (pure []) r (Good [] r) (stop r f) refl))

  in_parts : (P : List Token → Type 0) (x : A) (xs : List A) (us r : List Token) → ((vs : List Token) → Matches (marks x) vs → (s : List Token) → P (vs ++ s)) → Matches (lines (x ∷ xs)) us → P (us ++ r)
  in_parts P x xs us r h m =
      let y = matches_parts (marks x) (lines xs) us (subst (λ (ms : List Mark). Matches ms us) (step x xs) m) in
      subst P (sym (ap (λ ts. ts ++ r) y.whole ∙ append_assoc y.front y.back r)) (h y.front y.first (y.back ++ r))

  pub goes_on : (xs : List A) → Each V xs → (us r : List Token) → Matches (lines xs) us → F r → Fi (us ++ r)
  goes_on [] v us r m f = no_more us r (subst (λ (ms : List Mark). Matches ms us) base m) f
    where
      no_more : (us r : List Token) → Matches [] us → F r → Fi (us ++ r)
      no_more [] r m f = end r f
      no_more (t ∷ us) r m f = elim m [ ]
  goes_on (x ∷ xs) v us r m f = in_parts Fi x xs us r (λ vs n s. after x v.0 vs s n) m

  pub done_many : (xs : List A) → Each V xs → (n : ℕ) → length xs ≤ n → Done F (many fault test item n) (lines xs) (λ ys. ys ≡ xs)
  unfolding many
  done_many [] v zero l = none_left _
  done_many [] v (suc n) l = none_left _
  done_many (x ∷ xs) v zero l = absurd (omega arith)
  done_many (x ∷ xs) v (suc n) l =
      done_true test _ _ (λ us r m f. in_parts (λ ts. next_is test ts ≡ true) x xs us r (λ vs y s. begin x v.0 vs s y) m)
      (done_marks (lines (x ∷ xs)) (marks x ++ lines xs) (step x xs)
      (then_is item _ x (each x v.0)
      (last_is _ _ xs (x ∷ xs) (done_many xs v.1 n (omega arith)) (λ r f. refl) refl)
      (goes_on xs v.1)))
