-- The places of tokens are not looked at: where they are set to 0, so are those of what is read.
use Rattle.std.proofs.Common.{◌≡◌, ℕ, zero, suc, Bool, true, false, cond, List, [], ◌∷◌, map, refl, ap, ◌∙◌, Option, Some, None}
use Rattle.slice_parse.specs.Combinators.{Token, Fault, Outcome, Good, Bad, Parser, and_then, ◌>>=◌, pure, fail, next_is, when, taken, one, finish, many}

abbrev pub placeless : Token → Token
placeless t = record { what = t.what; at = 0 }

abbrev pub placeless_all : List Token → List Token
placeless_all ts = map placeless ts

abbrev pub outcome : {A : Type 0} → (A → A) → Outcome A → Outcome A
outcome f (Good a rest) = Good (f a) (placeless_all rest)
outcome f (Bad fault rest) = Bad fault (placeless_all rest)

-- what p reads, q reads where places are 0, as f gives it
pub record Flat {A : Type 0} (f : A → A) (p q : Parser A) : Type 0 where
  pub flat : (ts : List Token) → q (placeless_all ts) ≡ outcome f (p ts)

module _ {A B : Type 0} {f : A → A} {g : B → B} (p q : Parser A) (k l : A → Parser B) (first : Flat f p q) (next : (a b : A) → b ≡ f a → Flat g (k a) (l b)) where
  bind_flat : (ts : List Token) (o : Outcome A) → p ts ≡ o → and_then (q (placeless_all ts)) l ≡ outcome g (and_then o k)
  bind_flat ts (Good a mid) e = ap (λ o. and_then o l) (first.flat ts ∙ ap (outcome f) e) ∙ (next a (f a) refl).flat mid
  bind_flat ts (Bad fault mid) e = ap (λ o. and_then o l) (first.flat ts ∙ ap (outcome f) e)

  pub flat_bind : Flat g (p >>= k) (q >>= l)
  flat_bind = record { flat = λ ts. bind_flat ts (p ts) refl ∙ ap (λ o. outcome g (and_then o k)) refl }

same_next : (test : Token → Bool) → ((t : Token) → test (placeless t) ≡ test t) → (ts : List Token) → next_is test (placeless_all ts) ≡ next_is test ts
same_next test h [] = refl
same_next test h (t ∷ ts) = h t

pub flat_when : {A : Type 0} {f : A → A} (test : Token → Bool) (p q p' q' : Parser A) → ((t : Token) → test (placeless t) ≡ test t) → Flat f p p' → Flat f q q' → Flat f (when test p q) (when test p' q')
flat_when {A = A} {f = f} test p q p' q' h a b = record { flat = λ ts. ap (λ x. cond x (p' (placeless_all ts)) (q' (placeless_all ts))) (same_next test h ts) ∙ pick (next_is test ts) (p ts) (q ts) (p' (placeless_all ts)) (q' (placeless_all ts)) (a.flat ts) (b.flat ts) }
  where
    pick : (c : Bool) (x y x' y' : Outcome A) → x' ≡ outcome f x → y' ≡ outcome f y → cond c x' y' ≡ outcome f (cond c x y)
    pick true x y x' y' d e = d
    pick false x y x' y' d e = e

pub flat_pure : {A : Type 0} {f : A → A} (v w : A) → w ≡ f v → Flat f (pure v) (pure w)
flat_pure v w e = record { flat = λ ts. ap (λ x. Good x (placeless_all ts)) e }

pub flat_fail : {A : Type 0} {f : A → A} (fault : Fault) → Flat f (fail fault) (fail fault)
flat_fail fault = record { flat = λ ts. refl }

abbrev pub option : {A : Type 0} → (A → A) → Option A → Option A
option f None = None
option f (Some a) = Some (f a)

module _ {A : Type 0} (f : A → A) (h : Token → Option A) (same : (t : Token) → h (placeless t) ≡ option f (h t)) where
  taken_flat : (t : Token) (ts : List Token) (o : Option A) → taken (option f o) (placeless t) (placeless_all ts) ≡ outcome f (taken o t ts)
  taken_flat t ts None = refl
  taken_flat t ts (Some a) = refl

  one_flat : (ts : List Token) → one h (placeless_all ts) ≡ outcome f (one h ts)
  one_flat [] = refl
  one_flat (t ∷ ts) = ap (λ o. taken o (placeless t) (placeless_all ts)) (same t) ∙ taken_flat t ts (h t)

  pub flat_one : Flat f (one h) (one h)
  flat_one = record { flat = one_flat }

pub flat_many : {A : Type 0} {f : A → A} (fault : Fault) (test : Token → Bool) (p q : Parser A) → ((t : Token) → test (placeless t) ≡ test t) → Flat f p q → (n : ℕ) → Flat (map f) (many fault test p n) (many fault test q n)
unfolding many
flat_many fault test p q h a zero = flat_when test _ _ _ _ h (flat_fail fault) (flat_pure [] [] refl)
flat_many fault test p q h a (suc n) = flat_when test _ _ _ _ h (flat_bind _ _ _ _ a (λ x y e. flat_bind _ _ _ _ (flat_many fault test p q h a n) (λ xs ys d. flat_pure _ _ (cc)))) (flat_pure [] [] refl)

finish_flat : (ts : List Token) → finish (placeless_all ts) ≡ outcome (λ u. u) (finish ts)
finish_flat [] = refl
finish_flat (t ∷ ts) = refl

pub flat_finish : Flat (λ u. u) finish finish
flat_finish = record { flat = finish_flat }
