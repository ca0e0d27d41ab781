-- What each step of a rule keeps: the tokens before it and those that it reads begin what the rule reads.
use Rattle.std.proofs.Common.{◌≡◌, ℕ, zero, suc, Bool, true, false, cond, List, [], ◌∷◌, ◌++◌, refl, ap, sym, subst, ◌∙◌, append_assoc, append-nil, Option, Some, None}
use Rattle.slice_ast.specs.Tokens.{Mark}
use Rattle.slice_parse.specs.Combinators.{Token, Fault, Syntax, Deep, Long, Tired, Outcome, Good, Bad, Parser, and_then, ◌>>=◌, pure, fail, next_is, when, taken, one, finish, many}
use Rattle.slice_ast.specs.Spellable.{Each}
use Rattle.slice_parse.specs.Classes.{IsSoundWhat, AreSound}
use Rattle.slice_parse.proofs.Matching.{Is, Matches, none, also, matches_append, matches_parts, Looser, looser_parts, looser_matches, sounds_rest}

-- the tokens begin those of some value
pub record Begins {B : Type 0} (marks : B → List Mark) (W : B → Type 0) (us : List Token) : Type 0 where
  pub value : B
  pub front : List Mark
  pub more : List Mark
  pub whole : marks value ≡ front ++ more
  pub same : Matches front us
  pub spelled : W value

-- these marks begin those of some value
pub record Finish {B : Type 0} (marks : B → List Mark) (W : B → Type 0) (before : List Mark) : Type 0 where
  pub value : B
  pub more : List Mark
  pub whole : marks value ≡ before ++ more
  pub spelled : W value

-- b was read from ts, after us
pub record Read {B : Type 0} (marks : B → List Mark) (W : B → Type 0) (us ts : List Token) (b : B) (rest : List Token) : Type 0 where
  pub used : List Token
  pub split : ts ≡ used ++ rest
  pub same : Matches (marks b) (us ++ used)
  pub spelled : W b

abbrev pub IsLimit : Fault → Type 0
IsLimit Syntax = ⊥
IsLimit Deep = Unit {0}
IsLimit Long = Unit {0}
IsLimit Tired = ⊥

-- the first token of the rest goes on so too
pub record Through {B : Type 0} (marks : B → List Mark) (W : B → Type 0) (us rest : List Token) : Type 0 where
  pub wrong : Token
  pub after : List Token
  pub split : rest ≡ wrong ∷ after
  pub begins : Begins marks W (us ++ wrong ∷ [])

-- a fault came in ts, after us
pub record Stopped {B : Type 0} (marks : B → List Mark) (W : B → Type 0) (us ts : List Token) (f : Fault) (rest : List Token) : Type 0 where
  pub used : List Token
  pub split : ts ≡ used ++ rest
  pub begins : Begins marks W (us ++ used)
  pub limit : IsLimit f → Through marks W (us ++ used) rest

-- a rule that goes on after tokens of these marks
pub record From {B : Type 0} (marks : B → List Mark) (W : B → Type 0) (before : List Mark) (p : Parser B) : Type 0 where
  pub good : (us ts : List Token) (b : B) (rest : List Token) → Matches before us → AreSound ts → p ts ≡ Good b rest → Read marks W us ts b rest
  pub bad : (us ts : List Token) (f : Fault) (rest : List Token) → Matches before us → AreSound ts → p ts ≡ Bad f rest → Stopped marks W us ts f rest

module _ {A B : Type 0} {marksA : A → List Mark} {WA : A → Type 0} {marks : B → List Mark} {W : B → Type 0} (before : List Mark) (p : Parser A) (k : A → Parser B)
    (first : From marksA WA [] p) (next : (a : A) → WA a → From marks W (before ++ marksA a) (k a)) (finish : (a : A) → WA a → Finish marks W (before ++ marksA a)) where
  more_used : (us ts mid : List Token) (b : B) (rest : List Token) (one : List Token) → ts ≡ one ++ mid → Read marks W (us ++ one) mid b rest → Read marks W us ts b rest
  more_used us ts mid b rest one e r = record {
    used = one ++ r.used;
    split = e ∙ ap (λ xs. one ++ xs) r.split ∙ sym (append_assoc one r.used rest);
    same = subst (λ (xs : List Token). Matches (marks b) xs) (append_assoc us one r.used) r.same;
    spelled = r.spelled;
  }

  bind_good : (us ts : List Token) (b : B) (rest : List Token) (o : Outcome A) → Matches before us → AreSound ts → p ts ≡ o → and_then o k ≡ Good b rest → Read marks W us ts b rest
  bind_good us ts b rest (Good a mid) m s e h =
      let r = first.good [] ts a mid none s e in
      more_used us ts mid b rest r.used r.split ((next a r.spelled).good (us ++ r.used) mid b rest (matches_append m r.same) (sounds_rest r.used mid (subst AreSound r.split s)) h)
  bind_good us ts b rest (Bad f mid) m s e h = cc

  longer : (us ts mid : List Token) (f : Fault) (rest : List Token) (one : List Token) → ts ≡ one ++ mid → Stopped marks W (us ++ one) mid f rest → Stopped marks W us ts f rest
  longer us ts mid f rest one e r = record {
    used = one ++ r.used;
    split = e ∙ ap (λ xs. one ++ xs) r.split ∙ sym (append_assoc one r.used rest);
    begins = subst (λ (xs : List Token). Begins marks W xs) (append_assoc us one r.used) r.begins;
    limit = λ l. subst (λ (xs : List Token). Through marks W xs rest) (append_assoc us one r.used) (r.limit l);
  }

  -- what begins so in p begins so in the whole rule
  begun : (us one : List Token) → Matches before us → Begins marksA WA one → Begins marks W (us ++ one)
  begun us one m b =
      let v = finish b.value b.spelled in
      record {
        value = v.value;
        front = before ++ b.front;
        more = b.more ++ v.more;
        whole = v.whole ∙ ap (λ xs. (before ++ xs) ++ v.more) b.whole ∙ ap (λ xs. xs ++ v.more) (sym (append_assoc before b.front b.more)) ∙ append_assoc (before ++ b.front) b.more v.more;
        same = matches_append m b.same;
        spelled = v.spelled;
      }

  stopped : (us ts : List Token) (f : Fault) (rest : List Token) → Matches before us → Stopped marksA WA [] ts f rest → Stopped marks W us ts f rest
  stopped us ts f rest m r = record {
    used = r.used;
    split = r.split;
    begins = begun us r.used m r.begins;
    limit = λ l. let t = r.limit l in
        record {
          wrong = t.wrong;
          after = t.after;
          split = t.split;
          begins = subst (λ (xs : List Token). Begins marks W xs) (sym (append_assoc us r.used (t.wrong ∷ []))) (begun us (r.used ++ t.wrong ∷ []) m t.begins);
        };
  }

  bind_bad : (us ts : List Token) (f : Fault) (rest : List Token) (o : Outcome A) → Matches before us → AreSound ts → p ts ≡ o → and_then o k ≡ Bad f rest → Stopped marks W us ts f rest
  bind_bad us ts f rest (Good a mid) m s e h =
      let r = first.good [] ts a mid none s e in
      longer us ts mid f rest r.used r.split ((next a r.spelled).bad (us ++ r.used) mid f rest (matches_append m r.same) (sounds_rest r.used mid (subst AreSound r.split s)) h)
  bind_bad us ts f rest (Bad g mid) m s e h =
      let fault : g ≡ f = cc in
      let left : mid ≡ rest = cc in
      stopped us ts f rest m (first.bad [] ts f rest none s (e ∙ ap (λ x. Bad x mid) fault ∙ ap (λ xs. Bad f xs) left))

  pub from_bind : From marks W before (p >>= k)
  from_bind = record { good = λ us ts b rest m s h. bind_good us ts b rest (p ts) m s refl h; bad = λ us ts f rest m s h. bind_bad us ts f rest (p ts) m s refl h }

cond_cases : {A : Type 0} (b : Bool) (x y z : A) (Q : Type 0) → (b ≡ true → x ≡ z → Q) → (b ≡ false → y ≡ z → Q) → cond b x y ≡ z → Q
cond_cases true x y z Q f g h = f refl h
cond_cases false x y z Q f g h = g refl h

pub from_when : {B : Type 0} {marks : B → List Mark} {W : B → Type 0} {before : List Mark} (test : Token → Bool) (p q : Parser B) → From marks W before p → From marks W before q → From marks W before (when test p q)
from_when test p q f g = record {
  good = λ us ts b rest m s h. cond_cases (next_is test ts) (p ts) (q ts) (Good b rest) _ (λ t. f.good us ts b rest m s) (λ t. g.good us ts b rest m s) h;
  bad = λ us ts e rest m s h. cond_cases (next_is test ts) (p ts) (q ts) (Bad e rest) _ (λ t. f.bad us ts e rest m s) (λ t. g.bad us ts e rest m s) h;
}

-- what was read up to here may be given marks that these tokens have too
pub from_other : {B : Type 0} {marks : B → List Mark} {W : B → Type 0} (one other : List Mark) (p : Parser B) → ((us : List Token) → Matches one us → Matches other us) → From marks W other p → From marks W one p
from_other one other p turn f = record { good = λ us ts b rest m s h. f.good us ts b rest (turn us m) s h; bad = λ us ts e rest m s h. f.bad us ts e rest (turn us m) s h }

pure_good : {B : Type 0} (marks : B → List Mark) (W : B → Type 0) (before : List Mark) (us ts rest : List Token) (b c : B) → before ≡ marks b → W b → Matches before us → pure b ts ≡ Good c rest → Read marks W us ts c rest
pure_good marks W before us ts rest b c e w m h =
    let same : b ≡ c = cc in
    let left : ts ≡ rest = cc in
    record {
      used = [];
      split = left;
      same = subst (λ (xs : List Token). Matches (marks c) xs) (sym (append-nil us)) (subst (λ (ms : List Mark). Matches ms us) (e ∙ ap marks same) m);
      spelled = subst W same w;
    }

pub from_pure : {B : Type 0} {marks : B → List Mark} {W : B → Type 0} {before : List Mark} (b : B) → before ≡ marks b → W b → From marks W before (pure b)
from_pure {marks = marks} {W = W} {before = before} b e w = record { good = λ us ts c rest m s h. pure_good marks W before us ts rest b c e w m h; bad = λ us ts f rest m s h. cc }

-- the tokens of marks that begin those of a value
finished : {B : Type 0} {marks : B → List Mark} {W : B → Type 0} {before : List Mark} {us : List Token} → Finish marks W before → Matches before us → Begins marks W us
finished {before = before} v m = record { value = v.value; front = before; more = v.more; whole = v.whole; same = m; spelled = v.spelled }

fail_bad : {B : Type 0} (marks : B → List Mark) (W : B → Type 0) (before : List Mark) (us ts rest : List Token) (f g : Fault) → (IsLimit f → ⊥) → Finish marks W before → Matches before us → fail {A = B} f ts ≡ Bad g rest → Stopped marks W us ts g rest
fail_bad marks W before us ts rest f g no_limit v m h =
    let left : ts ≡ rest = cc in
    let same : f ≡ g = cc in
    record {
      used = [];
      split = left;
      begins = subst (λ (xs : List Token). Begins marks W xs) (sym (append-nil us)) (finished v m);
      limit = λ l. absurd (no_limit (subst IsLimit (sym same) l));
    }

pub from_fail : {B : Type 0} {marks : B → List Mark} {W : B → Type 0} {before : List Mark} (f : Fault) → (IsLimit f → ⊥) → Finish marks W before → From marks W before (fail f)
from_fail {marks = marks} {W = W} {before = before} f no_limit v = record { good = λ us ts c rest m s h. cc; bad = λ us ts g rest m s h. fail_bad marks W before us ts rest f g no_limit v m h }

-- the next token has a mark that goes on so
pub record Onward {B : Type 0} (marks : B → List Mark) (W : B → Type 0) (before : List Mark) (t : Token) : Type 0 where
  pub mark : Mark
  pub is : Is mark t
  pub finish : Finish marks W (before ++ mark ∷ [])

module _ {B : Type 0} {marks : B → List Mark} {W : B → Type 0} (before : List Mark) (test : Token → Bool) (f : Fault) (q : Parser B) (v : Finish marks W before) (on : IsLimit f → (t : Token) → test t ≡ true → Onward marks W before t) (otherwise : From marks W before q) where
  limit_through : IsLimit f → (us ts : List Token) → Matches before us → next_is test ts ≡ true → Through marks W us ts
  limit_through l us [] m e = cc
  limit_through l us (t ∷ ts) m e = let o = on l t e in record { wrong = t; after = ts; split = refl; begins = finished o.finish (matches_append m (also o.is none)) }

  limit_bad : (us ts rest : List Token) (g : Fault) → Matches before us → next_is test ts ≡ true → fail {A = B} f ts ≡ Bad g rest → Stopped marks W us ts g rest
  limit_bad us ts rest g m e h =
      let left : ts ≡ rest = cc in
      let same : f ≡ g = cc in
      record {
        used = [];
        split = left;
        begins = subst (λ (xs : List Token). Begins marks W xs) (sym (append-nil us)) (finished v m);
        limit = λ l. subst (λ (xs : List Token). Through marks W xs rest) (sym (append-nil us)) (subst (λ (xs : List Token). Through marks W us xs) left (limit_through (subst IsLimit (sym same) l) us ts m e));
      }

  -- a limit that the next token would pass
  pub from_limit : From marks W before (when test (fail f) q)
  from_limit = record {
    good = λ us ts b rest m s h. cond_cases (next_is test ts) (fail {A = B} f ts) (q ts) (Good b rest) _ (λ t e. cc) (λ t. otherwise.good us ts b rest m s) h;
    bad = λ us ts e rest m s h. cond_cases (next_is test ts) (fail {A = B} f ts) (q ts) (Bad e rest) _ (λ t. limit_bad us ts rest e m t) (λ t. otherwise.bad us ts e rest m s) h;
  }

-- one token
pub record Single {A : Type 0} (marks : A → List Mark) (W : A → Type 0) (a : A) (t : Token) : Type 0 where
  pub same : Matches (marks a) (t ∷ [])
  pub spelled : W a

module _ {A : Type 0} {marks : A → List Mark} {W : A → Type 0} (f : Token → Option A) (v : Finish marks W []) (each : (t : Token) (a : A) → f t ≡ Some a → IsSoundWhat t.what → Single marks W a t) where
  taken_good : (t : Token) (ts : List Token) (a : A) (rest : List Token) (o : Option A) → IsSoundWhat t.what → f t ≡ o → taken o t ts ≡ Good a rest → Read marks W [] (t ∷ ts) a rest
  taken_good t ts a rest None s e h = cc
  taken_good t ts a rest (Some b) s e h =
      let same : b ≡ a = cc in
      let left : ts ≡ rest = cc in
      let x = each t a (e ∙ ap (λ x. Some x) same) s in
      record { used = t ∷ []; split = ap (λ xs. t ∷ xs) left; same = x.same; spelled = x.spelled }

  one_good : (us ts : List Token) (a : A) (rest : List Token) → Matches [] us → AreSound ts → one f ts ≡ Good a rest → Read marks W us ts a rest
  one_good us [] a rest m s h = cc
  one_good [] (t ∷ ts) a rest none s h = taken_good t ts a rest (f t) s.0 refl h
  one_good (u ∷ us) (t ∷ ts) a rest m s h = elim m [ ]

  taken_bad : (t : Token) (ts : List Token) (g : Fault) (rest : List Token) (o : Option A) → taken o t ts ≡ Bad g rest → (t ∷ ts ≡ rest) × (g ≡ Syntax)
  taken_bad t ts g rest None h = (cc, cc)
  taken_bad t ts g rest (Some a) h = cc

  one_bad : (ts : List Token) (g : Fault) (rest : List Token) → one f ts ≡ Bad g rest → (ts ≡ rest) × (g ≡ Syntax)
  one_bad [] g rest h = (cc, cc)
  one_bad (t ∷ ts) g rest h = taken_bad t ts g rest (f t) h

  nothing_seen : (us ts : List Token) (g : Fault) (rest : List Token) → Matches [] us → (ts ≡ rest) × (g ≡ Syntax) → Stopped marks W us ts g rest
  nothing_seen [] ts g rest none e = record { used = []; split = e.0; begins = finished v none; limit = λ l. absurd (subst IsLimit e.1 l) }
  nothing_seen (u ∷ us) ts g rest m e = elim m [ ]

  pub from_one : From marks W [] (one f)
  from_one = record { good = one_good; bad = λ us ts g rest m s h. nothing_seen us ts g rest m (one_bad ts g rest h) }

module _ {A : Type 0} (marks : A → List Mark) (W : A → Type 0) (lines : List A → List Mark) (base : lines [] ≡ []) (step : (x : A) (xs : List A) → lines (x ∷ xs) ≡ marks x ++ lines xs) where
  pub from_many : (fault : Fault) (test : Token → Bool) (item : Parser A) → From marks W [] item → (IsLimit fault → (t : Token) → test t ≡ true → Onward lines (Each W) [] t) → (n : ℕ) → From lines (Each W) [] (many fault test item n)
  unfolding many
  from_many fault test item f on zero = from_limit [] test fault (pure []) (record { value = []; more = []; whole = base; spelled = tt }) on (from_pure [] (sym base) tt)
  from_many fault test item f on (suc n) =
      from_when test _ _
      (from_bind [] _ _ f (λ x w.
      from_bind _ _ _ (from_many fault test item f on n) (λ xs ws. from_pure (x ∷ xs) (sym (step x xs)) (w, ws))
      (λ xs ws. record { value = x ∷ xs; more = []; whole = step x xs ∙ sym (append-nil (marks x ++ lines xs)); spelled = (w, ws) }))
      (λ x w. record { value = x ∷ []; more = []; whole = step x [] ∙ ap (λ ms. marks x ++ ms) base; spelled = (w, tt) }))
      (from_pure [] (sym base) tt)

module _ {A B : Type 0} {marksA : A → List Mark} {WA : A → Type 0} {marks : B → List Mark} {W : B → Type 0} (before front : List Mark) (p : Parser A) (k : A → Parser B)
    (first : From marksA WA front p) (next : (a : A) → WA a → From marks W (before ++ marksA a) (k a)) (finish : (a : A) → WA a → Finish marks W (before ++ marksA a)) where
  over_good : (us vs ts : List Token) (b : B) (rest : List Token) (o : Outcome A) → Matches before us → Matches front vs → AreSound ts → p ts ≡ o → and_then o k ≡ Good b rest → Read marks W (us ++ vs) ts b rest
  over_good us vs ts b rest (Good a mid) m n s e h =
      let r = first.good vs ts a mid n s e in
      let x = (next a r.spelled).good (us ++ (vs ++ r.used)) mid b rest (matches_append m r.same) (sounds_rest r.used mid (subst AreSound r.split s)) h in
      record {
        used = r.used ++ x.used;
        split = r.split ∙ ap (λ xs. r.used ++ xs) x.split ∙ sym (append_assoc r.used x.used rest);
        same = subst (λ (xs : List Token). Matches (marks b) xs) (ap (λ xs. xs ++ x.used) (sym (append_assoc us vs r.used)) ∙ append_assoc (us ++ vs) r.used x.used) x.same;
        spelled = x.spelled;
      }
  over_good us vs ts b rest (Bad f mid) m n s e h = cc

  over_begun : (us vs one : List Token) → Matches before us → Begins marksA WA (vs ++ one) → Begins marks W ((us ++ vs) ++ one)
  over_begun us vs one m b =
      let v = finish b.value b.spelled in
      record {
        value = v.value;
        front = before ++ b.front;
        more = b.more ++ v.more;
        whole = v.whole ∙ ap (λ xs. (before ++ xs) ++ v.more) b.whole ∙ ap (λ xs. xs ++ v.more) (sym (append_assoc before b.front b.more)) ∙ append_assoc (before ++ b.front) b.more v.more;
        same = subst (λ (xs : List Token). Matches (before ++ b.front) xs) (sym (append_assoc us vs one)) (matches_append m b.same);
        spelled = v.spelled;
      }

  over_stopped : (us vs ts : List Token) (f : Fault) (rest : List Token) → Matches before us → Stopped marksA WA vs ts f rest → Stopped marks W (us ++ vs) ts f rest
  over_stopped us vs ts f rest m r = record {
    used = r.used;
    split = r.split;
    begins = over_begun us vs r.used m r.begins;
    limit = λ l. let t = r.limit l in
        record {
          wrong = t.wrong;
          after = t.after;
          split = t.split;
          begins = subst (λ (xs : List Token). Begins marks W xs) (sym (append_assoc (us ++ vs) r.used (t.wrong ∷ [])))
              (over_begun us vs (r.used ++ t.wrong ∷ []) m (subst (λ (xs : List Token). Begins marksA WA xs) (append_assoc vs r.used (t.wrong ∷ [])) t.begins));
        };
  }

  over_bad : (us vs ts : List Token) (f : Fault) (rest : List Token) (o : Outcome A) → Matches before us → Matches front vs → AreSound ts → p ts ≡ o → and_then o k ≡ Bad f rest → Stopped marks W (us ++ vs) ts f rest
  over_bad us vs ts f rest (Good a mid) m n s e h =
      let r = first.good vs ts a mid n s e in
      let x = (next a r.spelled).bad (us ++ (vs ++ r.used)) mid f rest (matches_append m r.same) (sounds_rest r.used mid (subst AreSound r.split s)) h in
      let turn : (ys : List Token) → (us ++ (vs ++ r.used)) ++ ys ≡ (us ++ vs) ++ (r.used ++ ys) = (λ ys. ap (λ xs. xs ++ ys) (sym (append_assoc us vs r.used)) ∙ append_assoc (us ++ vs) r.used ys) in
      record {
        used = r.used ++ x.used;
        split = r.split ∙ ap (λ xs. r.used ++ xs) x.split ∙ sym (append_assoc r.used x.used rest);
        begins = subst (λ (xs : List Token). Begins marks W xs) (turn x.used) x.begins;
        limit = λ l. subst (λ (xs : List Token). Through marks W xs rest) (turn x.used) (x.limit l);
      }
  over_bad us vs ts f rest (Bad g mid) m n s e h =
      let fault : g ≡ f = cc in
      let left : mid ≡ rest = cc in
      over_stopped us vs ts f rest m (first.bad vs ts f rest n s (e ∙ ap (λ x. Bad x mid) fault ∙ ap (λ xs. Bad f xs) left))

  -- a rule whose first part goes on after some tokens before it
  pub from_bind_over : From marks W (before ++ front) (p >>= k)
  from_bind_over = record {
    good = λ us ts b rest m s h. let x = matches_parts before front us m in
        subst (λ (xs : List Token). Read marks W xs ts b rest) (sym x.whole) (over_good x.front x.back ts b rest (p ts) x.first x.second s refl h);
    bad = λ us ts f rest m s h. let x = matches_parts before front us m in
        subst (λ (xs : List Token). Stopped marks W xs ts f rest) (sym x.whole) (over_bad x.front x.back ts f rest (p ts) x.first x.second s refl h);
  }

-- a rule whose tokens are told with fewer places
module _ {B : Type 0} (marks other : B → List Mark) (W : B → Type 0) (turn : (b : B) → Looser (marks b) (other b)) where
  looser_begins : (us : List Token) → Begins marks W us → Begins other W us
  looser_begins us b =
      let x = looser_parts b.front b.more (other b.value) (subst (λ (ms : List Mark). Looser ms (other b.value)) b.whole (turn b.value)) in
      record { value = b.value; front = x.front; more = x.back; whole = x.whole; same = looser_matches x.first b.same; spelled = b.spelled }

  looser_read : (us ts : List Token) (b : B) (rest : List Token) → Read marks W us ts b rest → Read other W us ts b rest
  looser_read us ts b rest r = record { used = r.used; split = r.split; same = looser_matches (turn b) r.same; spelled = r.spelled }

  looser_stopped : (us ts : List Token) (f : Fault) (rest : List Token) → Stopped marks W us ts f rest → Stopped other W us ts f rest
  looser_stopped us ts f rest r = record {
    used = r.used;
    split = r.split;
    begins = looser_begins _ r.begins;
    limit = λ l. let t = r.limit l in record { wrong = t.wrong; after = t.after; split = t.split; begins = looser_begins _ t.begins };
  }

  pub from_looser : (before : List Mark) (p : Parser B) → From marks W before p → From other W before p
  from_looser before p f = record {
    good = λ us ts b rest m s h. looser_read us ts b rest (f.good us ts b rest m s h);
    bad = λ us ts e rest m s h. looser_stopped us ts e rest (f.bad us ts e rest m s h);
  }

-- a part that is the last of a rule: the marks before it and its own are those of the whole
module _ {A : Type 0} {marksA : A → List Mark} {WA : A → Type 0} {marks : A → List Mark} {W : A → Type 0} (before : List Mark) (p : Parser A)
    (first : From marksA WA [] p) (grow : (a : A) → WA a → (marks a ≡ before ++ marksA a) × W a) where
  under_begun : (us one : List Token) → Matches before us → Begins marksA WA one → Begins marks W (us ++ one)
  under_begun us one m b =
      let g = grow b.value b.spelled in
      record {
        value = b.value;
        front = before ++ b.front;
        more = b.more;
        whole = g.0 ∙ ap (λ xs. before ++ xs) b.whole ∙ sym (append_assoc before b.front b.more);
        same = matches_append m b.same;
        spelled = g.1;
      }

  under_read : (us ts : List Token) (a : A) (rest : List Token) → Matches before us → Read marksA WA [] ts a rest → Read marks W us ts a rest
  under_read us ts a rest m r =
      let g = grow a r.spelled in
      record { used = r.used; split = r.split; same = subst (λ (ms : List Mark). Matches ms (us ++ r.used)) (sym g.0) (matches_append m r.same); spelled = g.1 }

  under_stopped : (us ts : List Token) (f : Fault) (rest : List Token) → Matches before us → Stopped marksA WA [] ts f rest → Stopped marks W us ts f rest
  under_stopped us ts f rest m r = record {
    used = r.used;
    split = r.split;
    begins = under_begun us r.used m r.begins;
    limit = λ l. let t = r.limit l in
        record {
          wrong = t.wrong;
          after = t.after;
          split = t.split;
          begins = subst (λ (xs : List Token). Begins marks W xs) (sym (append_assoc us r.used (t.wrong ∷ []))) (under_begun us (r.used ++ t.wrong ∷ []) m t.begins);
        };
  }

  pub from_under : From marks W before p
  from_under = record {
    good = λ us ts a rest m s h. under_read us ts a rest m (first.good [] ts a rest none s h);
    bad = λ us ts f rest m s h. under_stopped us ts f rest m (first.bad [] ts f rest none s h);
  }

-- the end of the file
abbrev pub no_marks : Unit {0} → List Mark
no_marks u = []

finish_good : (us ts : List Token) (u : Unit {0}) (rest : List Token) → Matches [] us → finish ts ≡ Good u rest → Read no_marks (λ v. Unit {0}) us ts u rest
finish_good [] [] u rest m h = let left : [] ≡ rest = cc in record { used = []; split = left; same = none; spelled = tt }
finish_good (x ∷ us) [] u rest m h = elim m [ ]
finish_good us (t ∷ ts) u rest m h = cc

finish_bad : (us ts : List Token) (f : Fault) (rest : List Token) → Matches [] us → finish ts ≡ Bad f rest → Stopped no_marks (λ v. Unit {0}) us ts f rest
finish_bad us [] f rest m h = cc
finish_bad [] (t ∷ ts) f rest m h =
    let left : t ∷ ts ≡ rest = cc in
    let same : f ≡ Syntax = cc in
    record { used = []; split = left; begins = record { value = tt; front = []; more = []; whole = refl; same = none; spelled = tt }; limit = λ l. absurd (subst IsLimit same l) }
finish_bad (x ∷ us) (t ∷ ts) f rest m h = elim m [ ]

pub from_finish : From no_marks (λ v. Unit {0}) [] finish
from_finish = record { good = λ us ts u rest m s h. finish_good us ts u rest m h; bad = λ us ts f rest m s h. finish_bad us ts f rest m h }

pub from_same : {B : Type 0} {marks : B → List Mark} {W : B → Type 0} (one other : List Mark) (p : Parser B) → one ≡ other → From marks W other p → From marks W one p
from_same one other p e f = from_other one other p (λ us m. subst (λ (ms : List Mark). Matches ms us) e m) f
