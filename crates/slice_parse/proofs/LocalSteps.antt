-- A rule looks at one token past what it reads: what follows that token changes nothing, and neither do wider limits where none of them is met.
use Rattle.std.proofs.Common.{◌≡◌, Bool, true, false, cond, List, [], ◌∷◌, ◌++◌, refl, ap, sym, subst, ◌∙◌, append_assoc, Option, Some, None}
use Rattle.std.proofs.lemmas.List.{append_cancel_right}
use Rattle.slice_parse.specs.Combinators.{Token, Fault, Syntax, Outcome, Good, Bad, Parser, and_then, ◌>>=◌, pure, fail, next_is, when, taken, one, finish}

-- a rest is an end of what was given
abbrev pub Ends : List Token → List Token → Type 0
Ends ts rest = (seen : List Token) × (ts ≡ seen ++ rest)

-- what p gives, q gives too, whatever follows the next token; K says which faults count
pub record Local {A : Type 0} (K : Fault → Type 0) (p q : Parser A) : Type 0 where
  pub end_good : (ts : List Token) (a : A) (rest : List Token) → p ts ≡ Good a rest → Ends ts rest
  pub end_bad : (ts : List Token) (f : Fault) (rest : List Token) → p ts ≡ Bad f rest → Ends ts rest
  pub good : (seen : List Token) (t : Token) (r s : List Token) (a : A) → p (seen ++ t ∷ r) ≡ Good a (t ∷ r) → q (seen ++ t ∷ s) ≡ Good a (t ∷ s)
  pub bad : (seen : List Token) (t : Token) (r s : List Token) (f : Fault) → K f → p (seen ++ t ∷ r) ≡ Bad f (t ∷ r) → q (seen ++ t ∷ s) ≡ Bad f (t ∷ s)
  pub same_good : (ts : List Token) (a : A) (rest : List Token) → p ts ≡ Good a rest → q ts ≡ Good a rest
  pub same_bad : (ts : List Token) (f : Fault) (rest : List Token) → K f → p ts ≡ Bad f rest → q ts ≡ Bad f rest

-- the same where the rest begins later or at t
past : {A : Type 0} {K : Fault → Type 0} (p q : Parser A) → Local K p q → (one two : List Token) (t : Token) (r s : List Token) (a : A) → p (one ++ (two ++ t ∷ r)) ≡ Good a (two ++ t ∷ r) → q (one ++ (two ++ t ∷ s)) ≡ Good a (two ++ t ∷ s)
past p q l one [] t r s a h = l.good one t r s a h
past p q l one (u ∷ two) t r s a h = l.good one u (two ++ t ∷ r) (two ++ t ∷ s) a h

module _ {A B : Type 0} (K : Fault → Type 0) (p q : Parser A) (k l : A → Parser B) (first : Local K p q) (next : (a : A) → Local K (k a) (l a)) where
  through : (ts mid rest : List Token) → Ends ts mid → Ends mid rest → Ends ts rest
  through ts mid rest x y = (x.0 ++ y.0, x.1 ∙ ap (λ xs. x.0 ++ xs) y.1 ∙ sym (append_assoc x.0 y.0 rest))

  ends_good : (ts : List Token) (b : B) (rest : List Token) (o : Outcome A) → p ts ≡ o → and_then o k ≡ Good b rest → Ends ts rest
  ends_good ts b rest (Good a mid) e h = through ts mid rest (first.end_good ts a mid e) ((next a).end_good mid b rest h)
  ends_good ts b rest (Bad f mid) e h = cc

  ends_bad : (ts : List Token) (f : Fault) (rest : List Token) (o : Outcome A) → p ts ≡ o → and_then o k ≡ Bad f rest → Ends ts rest
  ends_bad ts f rest (Good a mid) e h = through ts mid rest (first.end_good ts a mid e) ((next a).end_bad mid f rest h)
  ends_bad ts f rest (Bad g mid) e h = let left : mid ≡ rest = cc in subst (λ (xs : List Token). Ends ts xs) left (first.end_bad ts g mid e)

  -- p read one, and k two
  again : (seen : List Token) (t : Token) (r s : List Token) (a : A) (mid : List Token) → p (seen ++ t ∷ r) ≡ Good a mid → (x : Ends (seen ++ t ∷ r) mid) → (y : Ends mid (t ∷ r))
      → (q (seen ++ t ∷ s) ≡ Good a (y.0 ++ t ∷ s))
  again seen t r s a mid e x y =
      let same : seen ≡ x.0 ++ y.0 = append_cancel_right seen (x.0 ++ y.0) (t ∷ r) (x.1 ∙ ap (λ xs. x.0 ++ xs) y.1 ∙ sym (append_assoc x.0 y.0 (t ∷ r))) in
      let whole : (ss : List Token) → seen ++ ss ≡ x.0 ++ (y.0 ++ ss) = (λ ss. ap (λ xs. xs ++ ss) same ∙ append_assoc x.0 y.0 ss) in
      let read : p (x.0 ++ (y.0 ++ t ∷ r)) ≡ Good a (y.0 ++ t ∷ r) = ap p (sym (whole (t ∷ r))) ∙ e ∙ ap (λ xs. Good a xs) y.1 in
      ap q (whole (t ∷ s)) ∙ past p q first x.0 y.0 t r s a read

  bind_good : (seen : List Token) (t : Token) (r s : List Token) (b : B) (o : Outcome A) → p (seen ++ t ∷ r) ≡ o → and_then o k ≡ Good b (t ∷ r) → (q >>= l) (seen ++ t ∷ s) ≡ Good b (t ∷ s)
  bind_good seen t r s b (Good a mid) e h =
      let y = (next a).end_good mid b (t ∷ r) h in
      ap (λ o. and_then o l) (again seen t r s a mid e (first.end_good _ a mid e) y) ∙ (next a).good y.0 t r s b (ap (k a) (sym y.1) ∙ h)
  bind_good seen t r s b (Bad f mid) e h = cc

  bind_bad : (seen : List Token) (t : Token) (r s : List Token) (f : Fault) (o : Outcome A) → K f → p (seen ++ t ∷ r) ≡ o → and_then o k ≡ Bad f (t ∷ r) → (q >>= l) (seen ++ t ∷ s) ≡ Bad f (t ∷ s)
  bind_bad seen t r s f (Good a mid) w e h =
      let y = (next a).end_bad mid f (t ∷ r) h in
      ap (λ o. and_then o l) (again seen t r s a mid e (first.end_good _ a mid e) y) ∙ (next a).bad y.0 t r s f w (ap (k a) (sym y.1) ∙ h)
  bind_bad seen t r s f (Bad g mid) w e h =
      let fault : g ≡ f = cc in
      let left : mid ≡ t ∷ r = cc in
      ap (λ o. and_then o l) (first.bad seen t r s f w (e ∙ ap (λ x. Bad x mid) fault ∙ ap (λ xs. Bad f xs) left))

  all_good : (ts : List Token) (b : B) (rest : List Token) (o : Outcome A) → p ts ≡ o → and_then o k ≡ Good b rest → (q >>= l) ts ≡ Good b rest
  all_good ts b rest (Good a mid) e h = ap (λ o. and_then o l) (first.same_good ts a mid e) ∙ (next a).same_good mid b rest h
  all_good ts b rest (Bad f mid) e h = cc

  all_bad : (ts : List Token) (f : Fault) (rest : List Token) (o : Outcome A) → K f → p ts ≡ o → and_then o k ≡ Bad f rest → (q >>= l) ts ≡ Bad f rest
  all_bad ts f rest (Good a mid) w e h = ap (λ o. and_then o l) (first.same_good ts a mid e) ∙ (next a).same_bad mid f rest w h
  all_bad ts f rest (Bad g mid) w e h =
      let fault : g ≡ f = cc in
      let left : mid ≡ rest = cc in
      ap (λ o. and_then o l) (first.same_bad ts f rest w (e ∙ ap (λ x. Bad x mid) fault ∙ ap (λ xs. Bad f xs) left))

  pub local_bind : Local K (p >>= k) (q >>= l)
  local_bind = record {
    end_good = λ ts b rest h. ends_good ts b rest (p ts) refl h;
    end_bad = λ ts f rest h. ends_bad ts f rest (p ts) refl h;
    good = λ seen t r s b h. bind_good seen t r s b (p (seen ++ t ∷ r)) refl h;
    bad = λ seen t r s f w h. bind_bad seen t r s f (p (seen ++ t ∷ r)) w refl h;
    same_good = λ ts b rest h. all_good ts b rest (p ts) refl h;
    same_bad = λ ts f rest w h. all_bad ts f rest (p ts) w refl h;
  }

pick : {A : Type 0} (b : Bool) (x y z : A) (Q : Type 0) → (x ≡ z → Q) → (y ≡ z → Q) → cond b x y ≡ z → Q
pick true x y z Q f g h = f h
pick false x y z Q f g h = g h

choose : {A : Type 0} (b c : Bool) → b ≡ c → (x y z x' y' z' : A) → (x ≡ z → x' ≡ z') → (y ≡ z → y' ≡ z') → cond b x y ≡ z → cond c x' y' ≡ z'
choose true true e x y z x' y' z' f g h = f h
choose false false e x y z x' y' z' f g h = g h
choose true false e x y z x' y' z' f g h = cc
choose false true e x y z x' y' z' f g h = cc

same_sight : (test : Token → Bool) (seen : List Token) (t : Token) (r s : List Token) → next_is test (seen ++ t ∷ r) ≡ next_is test (seen ++ t ∷ s)
same_sight test [] t r s = refl
same_sight test (u ∷ seen) t r s = refl

-- a rule that goes by the first token alone
pub local_when : {A : Type 0} {K : Fault → Type 0} (test : Token → Bool) (p q p' q' : Parser A) → Local K p p' → Local K q q' → Local K (when test p q) (when test p' q')
local_when test p q p' q' f g = record {
  end_good = λ ts a rest h. pick (next_is test ts) (p ts) (q ts) (Good a rest) _ (f.end_good ts a rest) (g.end_good ts a rest) h;
  end_bad = λ ts e rest h. pick (next_is test ts) (p ts) (q ts) (Bad e rest) _ (f.end_bad ts e rest) (g.end_bad ts e rest) h;
  good = λ seen t r s a h. choose (next_is test (seen ++ t ∷ r)) (next_is test (seen ++ t ∷ s)) (same_sight test seen t r s) _ _ _ _ _ _ (f.good seen t r s a) (g.good seen t r s a) h;
  bad = λ seen t r s e w h. choose (next_is test (seen ++ t ∷ r)) (next_is test (seen ++ t ∷ s)) (same_sight test seen t r s) _ _ _ _ _ _ (f.bad seen t r s e w) (g.bad seen t r s e w) h;
  same_good = λ ts a rest h. choose (next_is test ts) (next_is test ts) refl _ _ _ _ _ _ (f.same_good ts a rest) (g.same_good ts a rest) h;
  same_bad = λ ts e rest w h. choose (next_is test ts) (next_is test ts) refl _ _ _ _ _ _ (f.same_bad ts e rest w) (g.same_bad ts e rest w) h;
}

-- a seen list that comes before a list that is no longer is empty
pub no_front : (seen : List Token) (x : List Token) → seen ++ x ≡ x → seen ≡ []
no_front seen x h = append_cancel_right seen [] x h

pub local_pure : {A : Type 0} {K : Fault → Type 0} (a : A) → Local K (pure a) (pure a)
local_pure {A = A} a = record {
  end_good = λ ts b rest h. ([], out ts b rest h);
  end_bad = λ ts f rest h. cc;
  good = λ seen t r s b h. here seen t r s b h;
  bad = λ seen t r s f w h. cc;
  same_good = λ ts b rest h. h;
  same_bad = λ ts f rest w h. h;
}
  where
    out : (ts : List Token) (b : A) (rest : List Token) → pure a ts ≡ Good b rest → ts ≡ rest
    out ts b rest h = cc

    here : (seen : List Token) (t : Token) (r s : List Token) (b : A) → pure a (seen ++ t ∷ r) ≡ Good b (t ∷ r) → pure a (seen ++ t ∷ s) ≡ Good b (t ∷ s)
    here seen t r s b h =
        let same : a ≡ b = cc in
        let none : seen ≡ [] = no_front seen (t ∷ r) (out (seen ++ t ∷ r) b (t ∷ r) h) in
        ap (λ x. Good x (seen ++ t ∷ s)) same ∙ ap (λ xs. Good b (xs ++ t ∷ s)) none

fail_out : {A : Type 0} (f : Fault) (ts : List Token) (g : Fault) (rest : List Token) → fail {A = A} f ts ≡ Bad g rest → ts ≡ rest
fail_out f ts g rest h = cc

pub local_fail : {A : Type 0} {K : Fault → Type 0} (f : Fault) → Local K (fail {A = A} f) (fail f)
local_fail {A = A} f = record {
  end_good = λ ts b rest h. cc;
  end_bad = λ ts g rest h. ([], fail_out f ts g rest h);
  good = λ seen t r s b h. cc;
  bad = λ seen t r s g w h. here seen t r s g h;
  same_good = λ ts b rest h. h;
  same_bad = λ ts g rest w h. h;
}
  where
    here : (seen : List Token) (t : Token) (r s : List Token) (g : Fault) → fail {A = A} f (seen ++ t ∷ r) ≡ Bad g (t ∷ r) → fail {A = A} f (seen ++ t ∷ s) ≡ Bad g (t ∷ s)
    here seen t r s g h =
        let same : f ≡ g = cc in
        let none : seen ≡ [] = no_front seen (t ∷ r) (fail_out f (seen ++ t ∷ r) g (t ∷ r) h) in
        ap (λ x. Bad x (seen ++ t ∷ s)) same ∙ ap (λ xs. Bad g (xs ++ t ∷ s)) none

-- a fault that doesn't count
pub local_none : {A : Type 0} {K : Fault → Type 0} (f : Fault) (q : Parser A) → (K f → ⊥) → Local K (fail f) q
local_none {A = A} {K = K} f q none = record {
  end_good = λ ts b rest h. cc;
  end_bad = λ ts g rest h. ([], fail_out f ts g rest h);
  good = λ seen t r s b h. cc;
  bad = λ seen t r s g w h. absurd (none (subst K (sym (same (seen ++ t ∷ r) (t ∷ r) g h)) w));
  same_good = λ ts b rest h. cc;
  same_bad = λ ts g rest w h. absurd (none (subst K (sym (same ts rest g h)) w));
}
  where
    same : (ts rest : List Token) (g : Fault) → fail {A = A} f ts ≡ Bad g rest → f ≡ g
    same ts rest g h = cc

longer : (t : Token) (r : List Token) → r ≡ t ∷ r → ⊥
longer t r h = let e : t ∷ [] ≡ [] = append_cancel_right (t ∷ []) [] r (sym h) in cc

-- one token
module _ {A : Type 0} (f : Token → Option A) where
  taken_bad : (t : Token) (ts : List Token) (g : Fault) (rest : List Token) (o : Option A) → taken o t ts ≡ Bad g rest → t ∷ ts ≡ rest
  taken_bad t ts g rest None h = cc
  taken_bad t ts g rest (Some a) h = cc

  pub one_rest : (ts : List Token) (g : Fault) (rest : List Token) → one f ts ≡ Bad g rest → ts ≡ rest
  one_rest [] g rest h = cc
  one_rest (t ∷ ts) g rest h = taken_bad t ts g rest (f t) h

  ends : (t : Token) (ts : List Token) (a : A) (rest : List Token) (o : Option A) → taken o t ts ≡ Good a rest → Ends (t ∷ ts) rest
  ends t ts a rest None h = cc
  ends t ts a rest (Some b) h = let left : ts ≡ rest = cc in (t ∷ [], ap (λ xs. t ∷ xs) left)

  finds : (ts : List Token) (a : A) (rest : List Token) → one f ts ≡ Good a rest → Ends ts rest
  finds [] a rest h = cc
  finds (t ∷ ts) a rest h = ends t ts a rest (f t) h

  not_none : (t : Token) (r : List Token) (a : A) (o : Option A) → taken o t r ≡ Good a (t ∷ r) → ⊥
  not_none t r a None h = cc
  not_none t r a (Some b) h = longer t r (let e : r ≡ t ∷ r = cc in e)

  after_one : (u : Token) (seen : List Token) (t : Token) (r s : List Token) (a : A) (o : Option A) → taken o u (seen ++ t ∷ r) ≡ Good a (t ∷ r) → taken o u (seen ++ t ∷ s) ≡ Good a (t ∷ s)
  after_one u seen t r s a None h = cc
  after_one u seen t r s a (Some b) h =
      let same : b ≡ a = cc in
      let left : seen ++ t ∷ r ≡ t ∷ r = cc in
      ap (λ x. Good x (seen ++ t ∷ s)) same ∙ ap (λ xs. Good a (xs ++ t ∷ s)) (no_front seen (t ∷ r) left)

  goes : (seen : List Token) (t : Token) (r s : List Token) (a : A) → one f (seen ++ t ∷ r) ≡ Good a (t ∷ r) → one f (seen ++ t ∷ s) ≡ Good a (t ∷ s)
  goes [] t r s a h = absurd (not_none t r a (f t) h)
  goes (u ∷ seen) t r s a h = after_one u seen t r s a (f u) h

  at_first : (t : Token) (r s : List Token) (g : Fault) (o : Option A) → taken o t r ≡ Bad g (t ∷ r) → taken o t s ≡ Bad g (t ∷ s)
  at_first t r s g None h = let same : Syntax ≡ g = cc in ap (λ x. Bad x (t ∷ s)) same
  at_first t r s g (Some b) h = cc

  stays : (seen : List Token) (t : Token) (r s : List Token) (g : Fault) → one f (seen ++ t ∷ r) ≡ Bad g (t ∷ r) → one f (seen ++ t ∷ s) ≡ Bad g (t ∷ s)
  stays [] t r s g h = at_first t r s g (f t) h
  stays (u ∷ seen) t r s g h = let e : u ∷ seen ≡ [] = no_front (u ∷ seen) (t ∷ r) (one_rest _ g _ h) in cc

  pub local_one : {K : Fault → Type 0} → Local K (one f) (one f)
  local_one = record { end_good = finds; end_bad = λ ts g rest h. ([], one_rest ts g rest h); good = goes; bad = λ seen t r s g w h. stays seen t r s g h; same_good = λ ts a rest h. h; same_bad = λ ts g rest w h. h }

finish_good_rest : (ts : List Token) (u : Unit {0}) (rest : List Token) → finish ts ≡ Good u rest → ts ≡ rest
finish_good_rest [] u rest h = cc
finish_good_rest (t ∷ ts) u rest h = cc

finish_bad_rest : (ts : List Token) (f : Fault) (rest : List Token) → finish ts ≡ Bad f rest → ts ≡ rest
finish_bad_rest [] f rest h = cc
finish_bad_rest (t ∷ ts) f rest h = cc

finish_goes : (seen : List Token) (t : Token) (r s : List Token) (u : Unit {0}) → finish (seen ++ t ∷ r) ≡ Good u (t ∷ r) → finish (seen ++ t ∷ s) ≡ Good u (t ∷ s)
finish_goes [] t r s u h = cc
finish_goes (x ∷ seen) t r s u h = cc

finish_stays : (seen : List Token) (t : Token) (r s : List Token) (f : Fault) → finish (seen ++ t ∷ r) ≡ Bad f (t ∷ r) → finish (seen ++ t ∷ s) ≡ Bad f (t ∷ s)
finish_stays [] t r s f h = let same : Syntax ≡ f = cc in ap (λ x. Bad x (t ∷ s)) same
finish_stays (x ∷ seen) t r s f h = let e : x ∷ seen ≡ [] = no_front (x ∷ seen) (t ∷ r) (finish_bad_rest ((x ∷ seen) ++ t ∷ r) f (t ∷ r) h) in cc

pub local_finish : {K : Fault → Type 0} → Local K finish finish
local_finish = record {
  end_good = λ ts u rest h. ([], finish_good_rest ts u rest h);
  end_bad = λ ts f rest h. ([], finish_bad_rest ts f rest h);
  good = finish_goes;
  bad = λ seen t r s f w h. finish_stays seen t r s f h;
  same_good = λ ts u rest h. h;
  same_bad = λ ts f rest w h. h;
}
