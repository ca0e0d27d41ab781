-- Each rule looks at one token past what it reads, and wider limits change nothing where none is met.
use Rattle.std.proofs.Common.{◌≡◌, ℕ, zero, suc, ◌≤◌, Bool, true, false, cond, List, [], ◌∷◌, ◌++◌, refl, ap, sym, subst, ◌∙◌, arith}
use Rattle.slice_ast.specs.declared.tree.Fraction.{Fraction}
use Rattle.slice_parse.specs.declared.lexeme.Fixed.{Fixed}
use Rattle.slice_parse.specs.declared.lexeme.Fixed.TheVariants as fixed
use Rattle.slice_parse.specs.declared.lexeme.What.{What}
use Rattle.slice_parse.specs.declared.lexeme.What.TheVariants as what
use Rattle.slice_parse.specs.Combinators.{Token, Fault, Syntax, Deep, Long, Tired, Outcome, Good, Bad, Parser, and_then, ◌>>=◌, fail, next_is, when, taken, many}
use Rattle.slice_parse.specs.Lexemes.{is, is_sign, starts, expect, place_if}
use Rattle.slice_parse.specs.Rules.{after_comma, listed, in_parens, denominator, fraction, value_operand, named_operand, plain_operand, fraction_operand, operand_rule, after_fraction, fraction_term, plain_term, term, signed_term, more_terms, sum, names, as_names, param, params, agent_arg, piece_arg, number_arg, argument, args, cut_head, let_head, join_head, give_head, pick_head, call_head, if_end, Braced, if_head, head, heads, yields, body, block, proc, procs, program}
use Rattle.slice_parse.proofs.LocalSteps.{Local, local_bind, local_when, local_pure, local_fail, local_none, local_one, local_finish, no_front}

pub local_many : {A : Type 0} {K : Fault → Type 0} (fault : Fault) (test : Token → Bool) (p q : Parser A) → Local K p q → (n m : ℕ) → n ≤ m → (K fault → n ≡ m) → Local K (many fault test p n) (many fault test q m)
unfolding many
local_many fault test p q f zero zero l e = local_when _ _ _ _ _ (local_fail fault) (local_pure _)
local_many fault test p q f zero (suc m) l e = local_when _ _ _ _ _ (local_none fault _ (λ w. let x : 0 ≡ suc m = e w in absurd (omega arith))) (local_pure _)
local_many fault test p q f (suc n) zero l e = absurd (omega arith)
local_many {K = K} fault test p q f (suc n) (suc m) l e =
    local_when _ _ _ _ _
    (local_bind K _ _ _ _ f (λ x. local_bind K _ _ _ _ (local_many fault test p q f n m (omega arith) (λ w. let x : suc n ≡ suc m = e w in omega arith)) (λ xs. local_pure _)))
    (local_pure _)

shut_one : (x : Fixed) (w : What) (at : ℕ) (t : Token) (s : List Token) {B : Type 0} (k : ℕ → Parser B) → is x (record { what = w; at = at }) ≡ false → and_then (taken (place_if x w at) t s) k ≡ Bad Syntax (t ∷ s)
shut_one x (what.Fixed c) at t s k h = rw h refl
shut_one x (what.Name w) at t s k h = refl
shut_one x (what.Number n) at t s k h = refl

cond_of : {A : Type 0} (b : Bool) (x y z : A) (Q : Type 0) → (b ≡ true → x ≡ z → Q) → (b ≡ false → y ≡ z → Q) → cond b x y ≡ z → Q
cond_of true x y z Q f g h = f refl h
cond_of false x y z Q f g h = g refl h

module _ {B : Type 0} (K : Fault → Type 0) (x : Fixed) (f : Fault) (no : K f → ⊥) (k : ℕ → Parser B) where
  shut_bad : (seen : List Token) (t : Token) (r s : List Token) (g : Fault) → K g → when (is x) (fail {A = B} f) (fail Syntax) (seen ++ t ∷ r) ≡ Bad g (t ∷ r) → (expect x >>= k) (seen ++ t ∷ s) ≡ Bad g (t ∷ s)
  shut_bad [] t r s g w h = cond_of (is x t) (Bad f (t ∷ r)) (Bad Syntax (t ∷ r)) (Bad g (t ∷ r)) _
      (λ b e. let same : f ≡ g = cc in absurd (no (subst K (sym same) w)))
      (λ b e. let same : Syntax ≡ g = cc in shut_one x t.what t.at t s k b ∙ ap (λ y. Bad y (t ∷ s)) same) h
  shut_bad (u ∷ seen) t r s g w h =
      let e : u ∷ seen ≡ [] = no_front (u ∷ seen) (t ∷ r) (cond_of (is x u) (Bad f (u ∷ (seen ++ t ∷ r))) (Bad Syntax (u ∷ (seen ++ t ∷ r))) (Bad g (t ∷ r)) _ (λ b i. cc) (λ b i. cc) h) in
      cc

  same_rest : (b : Bool) (ts rest : List Token) (g : Fault) → cond {A = Outcome B} b (Bad f ts) (Bad Syntax ts) ≡ Bad g rest → ts ≡ rest
  same_rest true ts rest g h = cc
  same_rest false ts rest g h = cc

  not_good : (b : Bool) (ts rest : List Token) (a : B) (Q : Type 0) → cond b (Bad f ts) (Bad Syntax ts) ≡ Good a rest → Q
  not_good true ts rest a Q h = cc
  not_good false ts rest a Q h = cc

  shut_all : (ts : List Token) → next_is (is x) ts ≡ false → (expect x >>= k) ts ≡ Bad Syntax ts
  shut_all [] e = refl
  shut_all (t ∷ ts) e = shut_one x t.what t.at t ts k e

  shut_same : (ts : List Token) (g : Fault) (rest : List Token) → K g → when (is x) (fail {A = B} f) (fail Syntax) ts ≡ Bad g rest → (expect x >>= k) ts ≡ Bad g rest
  shut_same ts g rest w h = cond_of (next_is (is x) ts) (Bad f ts) (Bad Syntax ts) (Bad g rest) _
      (λ b e. let same : f ≡ g = cc in absurd (no (subst K (sym same) w)))
      (λ b e. shut_all ts b ∙ e) h

  -- a fault that doesn't count, where a token is wanted
  local_shut : Local K (when (is x) (fail {A = B} f) (fail Syntax)) (expect x >>= k)
  local_shut = record {
    end_good = λ ts a rest h. not_good (next_is (is x) ts) ts rest a _ h;
    end_bad = λ ts g rest h. ([], same_rest (next_is (is x) ts) ts rest g h);
    good = λ seen t r s a h. not_good (next_is (is x) (seen ++ t ∷ r)) (seen ++ t ∷ r) (t ∷ r) a _ h;
    bad = shut_bad;
    same_good = λ ts a rest h. not_good (next_is (is x) ts) ts rest a _ h;
    same_bad = shut_same;
  }

local_denominator : {K : Fault → Type 0} → Local K denominator denominator
unfolding denominator
local_denominator {K = K} = (local_when _ _ _ _ _ (local_bind K _ _ _ _ (local_one _) (λ v0. (local_bind K _ _ _ _ (local_one _) (λ v1. (local_pure _))))) (local_pure _))

local_fraction : {K : Fault → Type 0} → Local K fraction fraction
unfolding fraction
local_fraction {K = K} = (local_bind K _ _ _ _ (local_one _) (λ v0. (local_bind K _ _ _ _ local_denominator (λ v1. (local_pure _)))))

local_plain_operand : {K : Fault → Type 0} → Local K plain_operand plain_operand
unfolding plain_operand value_operand named_operand
local_plain_operand {K = K} = (local_when _ _ _ _ _ (local_bind K _ _ _ _ (local_one _) (λ v0. (local_bind K _ _ _ _ (local_one _) (λ v1. (local_bind K _ _ _ _ (local_one _) (λ v2. (local_bind K _ _ _ _ (local_one _) (λ v3. (local_bind K _ _ _ _ (local_one _) (λ v4. (local_bind K _ _ _ _ (local_one _) (λ v5. (local_pure _))))))))))))) (local_bind K _ _ _ _ (local_one _) (λ v0. (local_pure _))))

local_operand : {K : Fault → Type 0} → Local K operand_rule operand_rule
unfolding operand_rule fraction_operand
local_operand {K = K} = (local_when _ _ _ _ _ (local_bind K _ _ _ _ local_fraction (λ v0. (local_pure _))) local_plain_operand)

local_after : {K : Fault → Type 0} (minus : Bool) (f : Fraction) → Local K (after_fraction minus f) (after_fraction minus f)
unfolding after_fraction
local_after {K = K} minus f = (local_when _ _ _ _ _ (local_bind K _ _ _ _ (local_one _) (λ v0. (local_bind K _ _ _ _ local_operand (λ v1. (local_pure _))))) (local_pure _))

local_term : {K : Fault → Type 0} (minus : Bool) → Local K (term minus) (term minus)
unfolding term fraction_term plain_term
local_term {K = K} minus = (local_when _ _ _ _ _ (local_bind K _ _ _ _ local_fraction (λ f. local_after minus f)) (local_bind K _ _ _ _ local_plain_operand (λ v0. (local_pure _))))

local_signed : {K : Fault → Type 0} → Local K signed_term signed_term
unfolding signed_term
local_signed {K = K} = (local_bind K _ _ _ _ (local_one _) (λ minus. local_term minus))

local_sum : {K : Fault → Type 0} (t u : ℕ) → t ≤ u → (K Long → t ≡ u) → Local K (sum t) (sum u)
unfolding sum more_terms
local_sum {K = K} t u l e = (local_bind K _ _ _ _ (local_term false) (λ v0. (local_bind K _ _ _ _ (local_many Long is_sign _ _ local_signed t u l e) (λ v1. (local_pure _)))))

module _ (K : Fault → Type 0) (n m : ℕ) (l : n ≤ m) (e : K Tired → n ≡ m) where
  local_listed : {A : Type 0} (p q : Parser A) → Local K p q → Local K (listed p n) (listed q m)
  unfolding listed after_comma
  local_listed p q f = (local_bind K _ _ _ _ f (λ v0. (local_bind K _ _ _ _ (local_many Tired (is fixed.Comma) _ _ (local_bind K _ _ _ _ (local_one _) (λ u. f)) n m l e) (λ v1. (local_pure _)))))

  local_parens : {A : Type 0} (p q : Parser A) → Local K p q → Local K (in_parens p n) (in_parens q m)
  unfolding in_parens
  local_parens p q f = (local_bind K _ _ _ _ (local_one _) (λ v0. (local_bind K _ _ _ _ (local_when _ _ _ _ _ (local_pure _) (local_listed p q f)) (λ v1. (local_bind K _ _ _ _ (local_one _) (λ v2. (local_pure _)))))))

  local_names : Local K (names n) (names m)
  unfolding names
  local_names = local_listed _ _ (local_one _)

  local_as_names : Local K (as_names n) (as_names m)
  unfolding as_names
  local_as_names = local_when _ _ _ _ _ (local_bind K _ _ _ _ (local_one _) (λ u. local_names)) (local_pure _)

  local_params : Local K (params n) (params m)
  unfolding params param
  local_params = local_parens _ _ (local_bind K _ _ _ _ (local_one _) (λ v0. (local_bind K _ _ _ _ (local_one _) (λ v1. (local_pure _)))))

  local_yields : Local K (yields n) (yields m)
  unfolding yields
  local_yields = (local_when _ _ _ _ _ (local_bind K _ _ _ _ (local_one _) (λ v0. (local_bind K _ _ _ _ local_names (λ v1. (local_bind K _ _ _ _ (local_one _) (λ v2. (local_pure _))))))) (local_pure _))

  local_if_end : (close : ℕ) → Local K (if_end n close) (if_end m close)
  unfolding if_end
  local_if_end close = (local_when _ _ _ _ _ (local_bind K _ _ _ _ (local_one _) (λ v0. (local_bind K _ _ _ _ local_names (λ v1. (local_bind K _ _ _ _ (local_one _) (λ v2. (local_pure _))))))) (local_pure _))

  local_join : Local K join_head join_head
  unfolding join_head
  local_join = (local_bind K _ _ _ _ (local_one _) (λ v0. (local_bind K _ _ _ _ (local_one _) (λ v1. (local_bind K _ _ _ _ (local_one _) (λ v2. (local_bind K _ _ _ _ (local_one _) (λ v3. (local_bind K _ _ _ _ (local_one _) (λ v4. (local_bind K _ _ _ _ (local_one _) (λ v5. (local_bind K _ _ _ _ (local_one _) (λ v6. (local_pure _)))))))))))))))

  local_give : Local K give_head give_head
  unfolding give_head
  local_give = (local_bind K _ _ _ _ (local_one _) (λ v0. (local_bind K _ _ _ _ (local_one _) (λ v1. (local_bind K _ _ _ _ (local_one _) (λ v2. (local_bind K _ _ _ _ (local_one _) (λ v3. (local_bind K _ _ _ _ (local_one _) (λ v4. (local_pure _)))))))))))

  local_pick : Local K (pick_head n) (pick_head m)
  unfolding pick_head
  local_pick = (local_bind K _ _ _ _ (local_one _) (λ v0. (local_bind K _ _ _ _ (local_one _) (λ v1. (local_bind K _ _ _ _ (local_one _) (λ v2. (local_bind K _ _ _ _ local_names (λ v3. (local_bind K _ _ _ _ (local_one _) (λ v4. (local_bind K _ _ _ _ local_names (λ v5. (local_bind K _ _ _ _ (local_one _) (λ v6. (local_pure _)))))))))))))))

  module _ (t u : ℕ) (tl : t ≤ u) (te : K Long → t ≡ u) where
    local_argument : Local K (argument t) (argument u)
    unfolding argument agent_arg piece_arg number_arg
    local_argument = (local_when _ _ _ _ _ (local_bind K _ _ _ _ (local_one _) (λ v0. (local_bind K _ _ _ _ (local_one _) (λ v1. (local_pure _))))) (local_when _ _ _ _ _ (local_bind K _ _ _ _ (local_one _) (λ v0. (local_bind K _ _ _ _ (local_one _) (λ v1. (local_pure _))))) (local_bind K _ _ _ _ (local_one _) (λ v0. (local_bind K _ _ _ _ (local_sum t u tl te) (λ v1. (local_pure _)))))))

    local_args : Local K (args t n) (args u m)
    unfolding args
    local_args = local_parens _ _ local_argument

    local_cut : Local K (cut_head t) (cut_head u)
    unfolding cut_head
    local_cut = (local_bind K _ _ _ _ (local_one _) (λ v0. (local_bind K _ _ _ _ (local_one _) (λ v1. (local_bind K _ _ _ _ (local_one _) (λ v2. (local_bind K _ _ _ _ (local_one _) (λ v3. (local_bind K _ _ _ _ (local_sum t u tl te) (λ v4. (local_bind K _ _ _ _ (local_one _) (λ v5. (local_bind K _ _ _ _ (local_one _) (λ v6. (local_bind K _ _ _ _ (local_one _) (λ v7. (local_bind K _ _ _ _ (local_one _) (λ v8. (local_bind K _ _ _ _ (local_one _) (λ v9. (local_pure _)))))))))))))))))))))

    local_let : Local K (let_head t) (let_head u)
    unfolding let_head
    local_let = (local_bind K _ _ _ _ (local_one _) (λ v0. (local_bind K _ _ _ _ (local_one _) (λ v1. (local_bind K _ _ _ _ (local_one _) (λ v2. (local_bind K _ _ _ _ (local_sum t u tl te) (λ v3. (local_bind K _ _ _ _ (local_one _) (λ v4. (local_pure _)))))))))))

    local_call : Local K (call_head t n) (call_head u m)
    unfolding call_head
    local_call = (local_bind K _ _ _ _ (local_one _) (λ v0. (local_bind K _ _ _ _ (local_one _) (λ v1. (local_bind K _ _ _ _ local_args (λ v2. (local_bind K _ _ _ _ local_as_names (λ v3. (local_bind K _ _ _ _ (local_one _) (λ v4. (local_pure _)))))))))))

    local_if : (p q : Parser Braced) → Local K p q → Local K (if_head t n p) (if_head u m q)
    unfolding if_head
    local_if p q f = (local_bind K _ _ _ _ (local_one _) (λ v0. (local_bind K _ _ _ _ (local_sum t u tl te) (λ v1. (local_bind K _ _ _ _ (local_one _) (λ v2. (local_bind K _ _ _ _ (local_sum t u tl te) (λ v3. (local_bind K _ _ _ _ f (λ v4. (local_bind K _ _ _ _ (local_one _) (λ v5. (local_bind K _ _ _ _ f (λ v6. (local_bind K _ _ _ _ (local_if_end v6.close) (λ v7. (local_pure _)))))))))))))))))

    local_head : (p q : Parser Braced) → Local K p q → Local K (head t n p) (head u m q)
    unfolding head
    local_head p q f = (local_when _ _ _ _ _ local_cut (local_when _ _ _ _ _ local_let (local_when _ _ _ _ _ local_join (local_when _ _ _ _ _ local_give (local_when _ _ _ _ _ (local_if p q f) (local_when _ _ _ _ _ local_pick local_call))))))

    local_heads : (p q : Parser Braced) → Local K p q → Local K (heads t n p) (heads u m q)
    unfolding heads
    local_heads p q f = local_many Tired starts _ _ (local_head p q f) n m l e

    local_body : (p q : Parser Braced) → Local K p q → Local K (body t n p) (body u m q)
    unfolding body
    local_body p q f = (local_bind K _ _ _ _ (local_one _) (λ v0. (local_bind K _ _ _ _ (local_heads p q f) (λ v1. (local_bind K _ _ _ _ local_yields (λ v2. (local_bind K _ _ _ _ (local_one _) (λ v3. (local_pure _)))))))))

    local_block : (d c : ℕ) → d ≤ c → (K Deep → d ≡ c) → Local K (block t n d) (block u m c)
    unfolding block body
    local_block zero zero dl de = local_when _ _ _ _ _ (local_fail Deep) (local_fail Syntax)
    local_block zero (suc c) dl de = local_shut K fixed.OpenBrace Deep (λ w. let x : 0 ≡ suc c = de w in absurd (omega arith)) _
    local_block (suc d) zero dl de = absurd (omega arith)
    local_block (suc d) (suc c) dl de = local_body _ _ (local_block d c (omega arith) (λ w. let x : suc d ≡ suc c = de w in omega arith))

    local_proc : (d c : ℕ) → d ≤ c → (K Deep → d ≡ c) → Local K (proc t n d) (proc u m c)
    unfolding proc
    local_proc d c dl de = (local_bind K _ _ _ _ (local_one _) (λ v0. (local_bind K _ _ _ _ (local_one _) (λ v1. (local_bind K _ _ _ _ local_params (λ v2. (local_bind K _ _ _ _ (local_block d c dl de) (λ v3. (local_pure _)))))))))

    pub local_program : (d c : ℕ) → d ≤ c → (K Deep → d ≡ c) → Local K (program t n d) (program u m c)
    unfolding program procs
    local_program d c dl de = (local_bind K _ _ _ _ (local_many Tired (is fixed.Procedure) _ _ (local_proc (suc d) (suc c) (omega arith) (λ w. ap suc (de w))) n m l e) (λ v0. (local_bind K _ _ _ _ (local_one _) (λ v1. (local_bind K _ _ _ _ (local_one _) (λ v2. (local_bind K _ _ _ _ (local_one _) (λ v3. (local_bind K _ _ _ _ (local_one _) (λ v4. (local_bind K _ _ _ _ (local_one _) (λ v5. (local_bind K _ _ _ _ (local_heads _ _ (local_block d c dl de)) (λ v6. (local_bind K _ _ _ _ (local_one _) (λ v7. (local_bind K _ _ _ _ local_finish (λ v8. (local_pure _)))))))))))))))))))
