-- How deep in blocks and how far in a sum each step stands, and that no list runs out of turns.
use Rattle.std.proofs.Common.{◌≡◌, ℕ, zero, suc, ◌+◌, ◌-◌, ◌≤◌, ◌==◌, Bool, true, false, cond, if◌then◌else◌, List, [], ◌∷◌, ◌++◌, length, refl, ap, sym, subst, ◌∙◌, append_assoc, arith, Option, Some, None}
use Rattle.slice_parse.specs.declared.lexeme.Fixed.{Fixed}
use Rattle.slice_parse.specs.declared.lexeme.Fixed.TheVariants as fixed
use Rattle.slice_parse.specs.declared.lexeme.What.{What}
use Rattle.slice_parse.specs.declared.lexeme.What.TheVariants as what
use Rattle.slice_parse.specs.Combinators.{Token, Fault, Syntax, Deep, Long, Tired, Outcome, Good, Bad, Parser, and_then, ◌>>=◌, pure, fail, next_is, when, taken, one, finish, many}
use Rattle.slice_parse.specs.Lexemes.{is_sign_what}
use Rattle.slice_ast.specs.Spellable.{Each}

-- how many braces are open, and how many signs the last sum has
pub record Spot : Type 0 where
  pub depth : ℕ
  pub signs : ℕ

abbrev pub step_fixed : Spot → Fixed → Option Spot
step_fixed s fixed.OpenBrace = if s.depth == 64 then None else Some (record { depth = s.depth + 1; signs = s.signs })
step_fixed s fixed.CloseBrace = Some (record { depth = s.depth - 1; signs = s.signs })
step_fixed s fixed.Plus = if s.signs == 63 then None else Some (record { depth = s.depth; signs = s.signs + 1 })
step_fixed s fixed.Minus = if s.signs == 63 then None else Some (record { depth = s.depth; signs = s.signs + 1 })
step_fixed s fixed.At = Some (record { depth = s.depth; signs = 0 })
step_fixed s fixed.Equals = Some (record { depth = s.depth; signs = 0 })
step_fixed s fixed.If = Some (record { depth = s.depth; signs = 0 })
step_fixed s fixed.Less = Some (record { depth = s.depth; signs = 0 })
step_fixed s fixed.AtMost = Some (record { depth = s.depth; signs = 0 })
step_fixed s fixed.More = Some (record { depth = s.depth; signs = 0 })
step_fixed s fixed.AtLeast = Some (record { depth = s.depth; signs = 0 })
step_fixed s fixed.Number = Some (record { depth = s.depth; signs = 0 })
step_fixed s _ = Some s

-- the next spot, where no limit is passed
abbrev pub step : Spot → What → Option Spot
step s (what.Fixed f) = step_fixed s f
step s (what.Name w) = Some s
step s (what.Number n) = Some s

abbrev pub on : {A B : Type 0} → Option A → (A → Option B) → Option B
on None k = None
on (Some a) k = k a

abbrev pub scan : Spot → List Token → Option Spot
scan s [] = Some s
scan s (t ∷ ts) = on (step s t.what) (λ next. scan next ts)

pub scan_append : (us vs : List Token) (s mid last : Spot) → scan s us ≡ Some mid → scan mid vs ≡ Some last → scan s (us ++ vs) ≡ Some last
scan_append [] vs s mid last h k = let e : s ≡ mid = cc in ap (λ x. scan x vs) e ∙ k
scan_append (t ∷ us) vs s mid last h k = go (step s t.what) refl h (λ next g. scan_append us vs next mid last g k)
  where
    go : (o : Option Spot) → step s t.what ≡ o → on o (λ next. scan next us) ≡ Some mid → ((next : Spot) → scan next us ≡ Some mid → scan next (us ++ vs) ≡ Some last) → on (step s t.what) (λ next. scan next (us ++ vs)) ≡ Some last
    go None e h more = cc
    go (Some next) e h more = ap (λ x. on x (λ next. scan next (us ++ vs))) e ∙ more next h

pub record AtToken (P : Token → Type 0) (rest : List Token) : Type 0 where
  pub token : Token
  pub after : List Token
  pub split : rest ≡ token ∷ after
  pub is : P token

-- why a fault comes at this spot
abbrev pub Why : Fault → Spot → List Token → Type 0
Why Syntax s rest = Unit {0}
Why Deep s rest = AtToken (λ t. t.what ≡ what.Fixed fixed.OpenBrace) rest × (s.depth ≡ 64)
Why Long s rest = AtToken (λ t. is_sign_what t.what ≡ true) rest × (s.signs ≡ 63)
Why Tired s rest = ⊥

pub record Went {A : Type 0} (e : ℕ) (V : A → Type 0) (Q : Spot → Type 0) (s : Spot) (ts : List Token) (a : A) (rest : List Token) : Type 0 where
  pub used : List Token
  pub split : ts ≡ used ++ rest
  pub fewer : e + length rest ≤ length ts
  pub last : Spot
  pub scanned : scan s used ≡ Some last
  pub holds : Q last
  pub value : V a

pub record Fell (s : Spot) (ts : List Token) (f : Fault) (rest : List Token) : Type 0 where
  pub used : List Token
  pub split : ts ≡ used ++ rest
  pub last : Spot
  pub scanned : scan s used ≡ Some last
  pub why : Why f last rest

-- from spots as P says to spots as Q says, on at most n tokens, of which at least e are read; what is read is as V says
pub record Steady {A : Type 0} (n e : ℕ) (V : A → Type 0) (P Q : Spot → Type 0) (p : Parser A) : Type 0 where
  pub good : (ts : List Token) (a : A) (rest : List Token) (s : Spot) → length ts ≤ n → P s → p ts ≡ Good a rest → Went e V Q s ts a rest
  pub bad : (ts : List Token) (f : Fault) (rest : List Token) (s : Spot) → length ts ≤ n → P s → p ts ≡ Bad f rest → Fell s ts f rest

module _ {A B : Type 0} {e : ℕ} {V : A → Type 0} {W : B → Type 0} {P Q R : Spot → Type 0} (n m : ℕ) (p : Parser A) (k : A → Parser B)
    (first : Steady n e V P Q p) (l : n ≤ m + e) (next : (a : A) → V a → Steady m 0 W Q R (k a)) where
  both : (ts : List Token) (b : B) (rest : List Token) (s : Spot) (a : A) (mid : List Token) → (w : Went e V Q s ts a mid) → Went 0 W R w.last mid b rest → Went e W R s ts b rest
  both ts b rest s a mid w x = record {
    used = w.used ++ x.used;
    split = w.split ∙ ap (λ xs. w.used ++ xs) x.split ∙ sym (append_assoc w.used x.used rest);
    fewer = let one : e + length mid ≤ length ts = w.fewer in let two : 0 + length rest ≤ length mid = x.fewer in omega arith;
    last = x.last;
    scanned = scan_append w.used x.used s w.last x.last w.scanned x.scanned;
    holds = x.holds;
    value = x.value;
  }

  room : (ts mid : List Token) → length ts ≤ n → e + length mid ≤ length ts → length mid ≤ m
  room ts mid a b = omega arith

  bind_went : (ts : List Token) (b : B) (rest : List Token) (s : Spot) (o : Outcome A) → length ts ≤ n → P s → p ts ≡ o → and_then o k ≡ Good b rest → Went e W R s ts b rest
  bind_went ts b rest s (Good a mid) h q d g =
      let w = first.good ts a mid s h q d in
      both ts b rest s a mid w ((next a w.value).good mid b rest w.last (room ts mid h w.fewer) w.holds g)
  bind_went ts b rest s (Bad f mid) h q d g = cc

  bind_fell : (ts : List Token) (f : Fault) (rest : List Token) (s : Spot) (o : Outcome A) → length ts ≤ n → P s → p ts ≡ o → and_then o k ≡ Bad f rest → Fell s ts f rest
  bind_fell ts f rest s (Good a mid) h q d g =
      let w = first.good ts a mid s h q d in
      let x = (next a w.value).bad mid f rest w.last (room ts mid h w.fewer) w.holds g in
      record {
        used = w.used ++ x.used;
        split = w.split ∙ ap (λ xs. w.used ++ xs) x.split ∙ sym (append_assoc w.used x.used rest);
        last = x.last;
        scanned = scan_append w.used x.used s w.last x.last w.scanned x.scanned;
        why = x.why;
      }
  bind_fell ts f rest s (Bad g mid) h q d i =
      let fault : g ≡ f = cc in
      let left : mid ≡ rest = cc in
      first.bad ts f rest s h q (d ∙ ap (λ x. Bad x mid) fault ∙ ap (λ xs. Bad f xs) left)

  pub bind_at : Steady n e W P R (p >>= k)
  bind_at = record { good = λ ts b rest s h q g. bind_went ts b rest s (p ts) h q refl g; bad = λ ts f rest s h q g. bind_fell ts f rest s (p ts) h q refl g }

pub steady_bind : {A B : Type 0} {V : A → Type 0} {W : B → Type 0} {P Q R : Spot → Type 0} (n e : ℕ) (p : Parser A) (k : A → Parser B)
    → Steady n e V P Q p → ((a : A) → V a → Steady n 0 W Q R (k a)) → Steady n e W P R (p >>= k)
steady_bind n e p k first next = bind_at n n p k first (omega arith) next

-- less is known of it
pub weaker : {A : Type 0} {V : A → Type 0} {P Q : Spot → Type 0} {p : Parser A} (n m e : ℕ) → m ≤ n → Steady n e V P Q p → Steady m 0 V P Q p
weaker {A = A} {V = V} {Q = Q} n m e l x = record {
  good = λ ts a rest s h q g. less ts a rest s (x.good ts a rest s (up ts h) q g);
  bad = λ ts f rest s h q g. x.bad ts f rest s (up ts h) q g;
}
  where
    up : (ts : List Token) → length ts ≤ m → length ts ≤ n
    up ts h = omega arith

    less : (ts : List Token) (a : A) (rest : List Token) (s : Spot) → Went e V Q s ts a rest → Went 0 V Q s ts a rest
    less ts a rest s w = record { used = w.used; split = w.split; fewer = let f : e + length rest ≤ length ts = w.fewer in omega arith; last = w.last; scanned = w.scanned; holds = w.holds; value = w.value }

pub shorter : {A : Type 0} {V : A → Type 0} {P Q : Spot → Type 0} {p : Parser A} (n m e : ℕ) → m ≤ n → Steady n e V P Q p → Steady m e V P Q p
shorter n m e l x = record {
  good = λ ts a rest s h q g. x.good ts a rest s (up ts h) q g;
  bad = λ ts f rest s h q g. x.bad ts f rest s (up ts h) q g;
}
  where
    up : (ts : List Token) → length ts ≤ m → length ts ≤ n
    up ts h = omega arith

-- other facts of the spots and of the value
pub steady_turn : {A : Type 0} {V W : A → Type 0} {P P' Q Q' : Spot → Type 0} {p : Parser A} {n e : ℕ} → ((s : Spot) → P' s → P s) → ((s : Spot) → Q s → Q' s) → ((a : A) → V a → W a) → Steady n e V P Q p → Steady n e W P' Q' p
steady_turn {A = A} {V = V} {W = W} {Q = Q} {Q' = Q'} {e = e} before after value x = record {
  good = λ ts a rest s h q g. other ts a rest s (x.good ts a rest s h (before s q) g);
  bad = λ ts f rest s h q g. x.bad ts f rest s h (before s q) g;
}
  where
    other : (ts : List Token) (a : A) (rest : List Token) (s : Spot) → Went e V Q s ts a rest → Went e W Q' s ts a rest
    other ts a rest s w = record { used = w.used; split = w.split; fewer = w.fewer; last = w.last; scanned = w.scanned; holds = after w.last w.holds; value = value a w.value }

cases : {A : Type 0} (b : Bool) (x y z : A) (Q : Type 0) → (b ≡ true → x ≡ z → Q) → (b ≡ false → y ≡ z → Q) → cond b x y ≡ z → Q
cases true x y z Q f g h = f refl h
cases false x y z Q f g h = g refl h

pub steady_when : {A : Type 0} {V : A → Type 0} {P Q : Spot → Type 0} {n e : ℕ} (test : Token → Bool) (p q : Parser A) → Steady n e V P Q p → Steady n e V P Q q → Steady n e V P Q (when test p q)
steady_when test p q x y = record {
  good = λ ts a rest s h r g. cases (next_is test ts) (p ts) (q ts) (Good a rest) _ (λ t. x.good ts a rest s h r) (λ t. y.good ts a rest s h r) g;
  bad = λ ts f rest s h r g. cases (next_is test ts) (p ts) (q ts) (Bad f rest) _ (λ t. x.bad ts f rest s h r) (λ t. y.bad ts f rest s h r) g;
}

pure_went : {A : Type 0} (V : A → Type 0) (P : Spot → Type 0) (v : A) (ts : List Token) (a : A) (rest : List Token) (s : Spot) → V v → P s → pure v ts ≡ Good a rest → Went 0 V P s ts a rest
pure_went V P v ts a rest s w h g =
    let same : v ≡ a = cc in
    let left : ts ≡ rest = cc in
    record { used = []; split = left; fewer = let e : length ts ≡ length rest = ap length left in omega arith; last = s; scanned = refl; holds = h; value = subst V same w }

pub steady_pure : {A : Type 0} {V : A → Type 0} {P : Spot → Type 0} {n : ℕ} (v : A) → V v → Steady n 0 V P P (pure v)
steady_pure {V = V} {P = P} v w = record { good = λ ts a rest s h q g. pure_went V P v ts a rest s w q g; bad = λ ts f rest s h q g. cc }

fail_fell : {A : Type 0} (f : Fault) (ts : List Token) (g : Fault) (rest : List Token) (s : Spot) → Why f s ts → fail {A = A} f ts ≡ Bad g rest → Fell s ts g rest
fail_fell f ts g rest s w h =
    let same : f ≡ g = cc in
    let left : ts ≡ rest = cc in
    record { used = []; split = left; last = s; scanned = refl; why = subst (λ (x : Fault). Why x s rest) same (subst (λ (xs : List Token). Why f s xs) left w) }

-- a fault where the next token passes a test
pub steady_stop : {A : Type 0} {V : A → Type 0} {P Q : Spot → Type 0} {n : ℕ} (test : Token → Bool) (f : Fault) (q : Parser A) → ((ts : List Token) (s : Spot) → length ts ≤ n → P s → next_is test ts ≡ true → Why f s ts) → Steady n 0 V P Q q → Steady n 0 V P Q (when test (fail f) q)
steady_stop {A = A} test f q why y = record {
  good = λ ts a rest s h r g. cases (next_is test ts) (fail {A = A} f ts) (q ts) (Good a rest) _ (λ t e. cc) (λ t. y.good ts a rest s h r) g;
  bad = λ ts e rest s h r g. cases (next_is test ts) (fail {A = A} f ts) (q ts) (Bad e rest) _ (λ t. fail_fell f ts e rest s (why ts s h r t)) (λ t. y.bad ts e rest s h r) g;
}

pub steady_syntax : {A : Type 0} {V : A → Type 0} {P Q : Spot → Type 0} {n : ℕ} → Steady n 0 V P Q (fail {A = A} Syntax)
steady_syntax = record { good = λ ts a rest s h q g. cc; bad = λ ts f rest s h q g. fail_fell Syntax ts f rest s tt g }

-- the next spot
pub record Steps (Q : Spot → Type 0) (s : Spot) (w : What) : Type 0 where
  pub next : Spot
  pub steps : step s w ≡ Some next
  pub holds : Q next

module _ {A : Type 0} (f : Token → Option A) (V : A → Type 0) (P Q : Spot → Type 0) (each : (s : Spot) (t : Token) (a : A) → P s → f t ≡ Some a → Steps Q s t.what × V a) where
  taken_went : (t : Token) (ts : List Token) (a : A) (rest : List Token) (s : Spot) (o : Option A) → P s → f t ≡ o → taken o t ts ≡ Good a rest → Went 1 V Q s (t ∷ ts) a rest
  taken_went t ts a rest s None q e g = cc
  taken_went t ts a rest s (Some b) q e g =
      let same : b ≡ a = cc in
      let left : ts ≡ rest = cc in
      let x = each s t a q (e ∙ ap (λ y. Some y) same) in
      record { used = t ∷ []; split = ap (λ xs. t ∷ xs) left; fewer = let l : length ts ≡ length rest = ap length left in omega arith; last = x.0.next; scanned = ap (λ o. on o (λ y. Some y)) x.0.steps; holds = x.0.holds; value = x.1 }

  one_went : (n : ℕ) (ts : List Token) (a : A) (rest : List Token) (s : Spot) → length ts ≤ n → P s → one f ts ≡ Good a rest → Went 1 V Q s ts a rest
  one_went n [] a rest s h q g = cc
  one_went n (t ∷ ts) a rest s h q g = taken_went t ts a rest s (f t) q refl g

  taken_fell : (t : Token) (ts : List Token) (g : Fault) (rest : List Token) (o : Option A) → taken o t ts ≡ Bad g rest → (t ∷ ts ≡ rest) × (Syntax ≡ g)
  taken_fell t ts g rest None h = (cc, cc)
  taken_fell t ts g rest (Some a) h = cc

  one_fell : (ts : List Token) (g : Fault) (rest : List Token) → one f ts ≡ Bad g rest → (ts ≡ rest) × (Syntax ≡ g)
  one_fell [] g rest h = (cc, cc)
  one_fell (t ∷ ts) g rest h = taken_fell t ts g rest (f t) h

  fell_one : (ts : List Token) (g : Fault) (rest : List Token) (s : Spot) → (ts ≡ rest) × (Syntax ≡ g) → Fell s ts g rest
  fell_one ts g rest s e = record { used = []; split = e.0; last = s; scanned = refl; why = subst (λ (x : Fault). Why x s rest) e.1 tt }

  pub steady_one : (n : ℕ) → Steady n 1 V P Q (one f)
  steady_one n = record { good = one_went n; bad = λ ts g rest s h q e. fell_one ts g rest s (one_fell ts g rest e) }

no_turn : (test : Token → Bool) (ts : List Token) → length ts ≤ 0 → next_is test ts ≡ true → ⊥
no_turn test [] h e = cc
no_turn test (t ∷ ts) h e = absurd (omega arith)

-- items one after the other
pub steady_many : {A : Type 0} {V : A → Type 0} {P : Spot → Type 0} (n : ℕ) (test : Token → Bool) (item : Parser A) → Steady n 1 V P P item → (j : ℕ) → j ≤ n → Steady j 0 (Each V) P P (many Tired test item j)
unfolding many
steady_many n test item x zero l = steady_stop test Tired (pure []) (λ ts s h q e. no_turn test ts h e) (steady_pure [] tt)
steady_many n test item x (suc j) l =
    steady_when test _ _
    (weaker (suc j) (suc j) 1 (omega arith) (bind_at (suc j) j item _ (shorter n (suc j) 1 l x) (omega arith) (λ a v.
    steady_bind j 0 _ _ (steady_many n test item x j (omega arith)) (λ xs vs. steady_pure (a ∷ xs) (v, vs)))))
    (steady_pure [] tt)

pub steady_finish : {P : Spot → Type 0} (n : ℕ) → Steady n 0 (λ u. Unit {0}) P P finish
steady_finish {P = P} n = record { good = λ ts u rest s h q g. went ts u rest s q g; bad = λ ts f rest s h q g. fell ts f rest s g }
  where
    went : (ts : List Token) (u : Unit {0}) (rest : List Token) (s : Spot) → P s → finish ts ≡ Good u rest → Went 0 (λ u. Unit {0}) P s ts u rest
    went [] u rest s q g = let left : [] ≡ rest = cc in record { used = []; split = left; fewer = let l : 0 ≡ length rest = ap length left in omega arith; last = s; scanned = refl; holds = q; value = tt }
    went (t ∷ ts) u rest s q g = cc

    fell : (ts : List Token) (f : Fault) (rest : List Token) (s : Spot) → finish ts ≡ Bad f rest → Fell s ts f rest
    fell [] f rest s g = cc
    fell (t ∷ ts) f rest s g =
        let left : t ∷ ts ≡ rest = cc in
        let same : Syntax ≡ f = cc in
        record { used = []; split = left; last = s; scanned = refl; why = subst (λ (x : Fault). Why x s rest) same tt }
