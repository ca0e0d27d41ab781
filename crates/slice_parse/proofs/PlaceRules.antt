-- Each rule reads the same where places are 0, with its places 0.
use Rattle.std.proofs.Common.{◌≡◌, ℕ, zero, suc, Bool, true, false, cond, List, [], ◌∷◌, map, refl, ap, sym, subst, ◌∙◌, Option, Some, None}
use Rattle.slice_ast.specs.Code.{Code, End, PlainBlock, Head, ACut, ALet, AJoin, AGive, AnIf, APick, ACall, put, puts}
use Rattle.slice_ast.specs.declared.tree.Fraction.{Fraction}
use Rattle.slice_ast.specs.declared.tree.Operand.TheVariants as operand
use Rattle.slice_ast.specs.declared.tree.Arg.TheVariants as arg
use Rattle.slice_parse.specs.declared.lexeme.Fixed.{Fixed}
use Rattle.slice_parse.specs.declared.lexeme.Fixed.TheVariants as fixed
use Rattle.slice_parse.specs.declared.lexeme.What.{What}
use Rattle.slice_parse.specs.declared.lexeme.What.TheVariants as what
use Rattle.slice_parse.specs.declared.statements.Ended.{Ended}
use Rattle.slice_parse.specs.Combinators.{Syntax, Deep, Long, Tired, Parser}
use Rattle.slice_parse.specs.Lexemes.{is, is_sign, starts, expect, is_same, place_if, name_in, number_in, ref_in, fixed_as, sign_of, cmp_of, kind_of, name, number, agent_ref, sign, comparison, kind_word}
use Rattle.slice_ast.specs.Bare.{bare_name, bare_number, bare_ref, bare_den, bare_fraction, bare_operand as no_operand, bare_term as no_term, bare_sum, bare_arg, bare_names, bare_code, bare_param, bare_proc, without_places}
use Rattle.slice_parse.specs.Rules.{after_comma, listed, in_parens, denominator, fraction, value_operand, named_operand, plain_operand, fraction_operand, operand_rule, term_of, after_fraction, fraction_term, plain_term, term, signed_term, more_terms, sum, names, as_names, param, params, agent_arg, piece_arg, number_arg, argument, args, cut_head, let_head, join_head, give_head, pick_head, call_head, if_end, Braced, if_head, head, heads, yields, body, block, proc, procs, program}
use Rattle.slice_parse.proofs.PlaceSteps.{Flat, option, flat_bind, flat_when, flat_pure, flat_fail, flat_one, flat_many, flat_finish}

abbrev zero_place : ℕ → ℕ
zero_place at = 0

abbrev itself : {A : Type 0} → A → A
itself a = a

cond_place : (b : Bool) (at : ℕ) → cond b (Some 0) None ≡ option zero_place (cond b (Some at) None)
cond_place true at = refl
cond_place false at = refl

place_flat : (f : Fixed) (w : What) (at : ℕ) → place_if f w 0 ≡ option zero_place (place_if f w at)
place_flat f (what.Fixed c) at = cond_place (is_same c f) at
place_flat f (what.Name w) at = refl
place_flat f (what.Number n) at = refl

flat_expect : (f : Fixed) → Flat zero_place (expect f) (expect f)
flat_expect f = flat_one _ _ (λ t. place_flat f t.what t.at)

name_flat : (w : What) (at : ℕ) → name_in w 0 ≡ option bare_name (name_in w at)
name_flat (what.Fixed c) at = refl
name_flat (what.Name w) at = refl
name_flat (what.Number n) at = refl

flat_name : Flat bare_name name name
flat_name = flat_one _ _ (λ t. name_flat t.what t.at)

number_flat : (w : What) (at : ℕ) → number_in w 0 ≡ option bare_number (number_in w at)
number_flat (what.Fixed c) at = refl
number_flat (what.Name w) at = refl
number_flat (what.Number n) at = refl

flat_number : Flat bare_number number number
flat_number = flat_one _ _ (λ t. number_flat t.what t.at)

ref_flat : (w : What) (at : ℕ) → ref_in w 0 ≡ option bare_ref (ref_in w at)
ref_flat (what.Fixed c) at = refl
ref_flat (what.Name w) at = refl
ref_flat (what.Number n) at = refl

flat_ref : Flat bare_ref agent_ref agent_ref
flat_ref = flat_one _ _ (λ t. ref_flat t.what t.at)

as_flat : {A : Type 0} (o : Option A) → o ≡ option itself o
as_flat None = refl
as_flat (Some a) = refl

flat_sign : Flat itself sign sign
flat_sign = flat_one _ _ (λ t. as_flat (fixed_as sign_of t.what))

flat_cmp : Flat itself comparison comparison
flat_cmp = flat_one _ _ (λ t. as_flat (fixed_as cmp_of t.what))

flat_kind : Flat itself kind_word kind_word
flat_kind = flat_one _ _ (λ t. as_flat (fixed_as kind_of t.what))

flat_denominator : Flat bare_den denominator denominator
unfolding denominator
flat_denominator = (flat_when _ _ _ _ _ (λ t. refl) (flat_bind _ _ _ _ (flat_expect fixed.Slash) (λ v0 x0 e0. (flat_bind _ _ _ _ flat_number (λ v1 x1 e1. (flat_pure (Some v1) (Some x1) (cc)))))) (flat_pure None None refl))

flat_fraction : Flat bare_fraction fraction fraction
unfolding fraction
flat_fraction = (flat_bind _ _ _ _ flat_number (λ v0 x0 e0. (flat_bind _ _ _ _ flat_denominator (λ v1 x1 e1. (flat_pure (record { num = v0; den = v1 }) (record { num = x0; den = x1 }) (cc))))))

flat_plain_operand : Flat no_operand plain_operand plain_operand
unfolding plain_operand value_operand named_operand
flat_plain_operand = (flat_when _ _ _ _ _ (λ t. refl) (flat_bind _ _ _ _ (flat_expect fixed.Value) (λ v0 x0 e0. (flat_bind _ _ _ _ (flat_expect fixed.OpenParen) (λ v1 x1 e1. (flat_bind _ _ _ _ flat_ref (λ v2 x2 e2. (flat_bind _ _ _ _ (flat_expect fixed.Comma) (λ v3 x3 e3. (flat_bind _ _ _ _ flat_name (λ v4 x4 e4. (flat_bind _ _ _ _ (flat_expect fixed.CloseParen) (λ v5 x5 e5. (flat_pure (operand.Value v2 v4) (operand.Value x2 x4) (cc)))))))))))))) (flat_bind _ _ _ _ flat_name (λ v0 x0 e0. (flat_pure (operand.Named v0) (operand.Named x0) (cc)))))

flat_operand : Flat no_operand operand_rule operand_rule
unfolding operand_rule fraction_operand
flat_operand = (flat_when _ _ _ _ _ (λ t. refl) (flat_bind _ _ _ _ flat_fraction (λ v0 x0 e0. (flat_pure (operand.Fraction v0) (operand.Fraction x0) (cc)))) flat_plain_operand)

flat_after : (minus : Bool) (f g : Fraction) → g ≡ bare_fraction f → Flat no_term (after_fraction minus f) (after_fraction minus g)
unfolding after_fraction
flat_after minus f g e = (flat_when _ _ _ _ _ (λ t. refl) (flat_bind _ _ _ _ (flat_expect fixed.Star) (λ v0 x0 e0. (flat_bind _ _ _ _ flat_operand (λ v1 x1 e1. (flat_pure (term_of minus (Some f) v1) (term_of minus (Some g) x1) (cc)))))) (flat_pure (term_of minus None (operand.Fraction f)) (term_of minus None (operand.Fraction g)) (cc)))

flat_term : (minus : Bool) → Flat no_term (term minus) (term minus)
unfolding term fraction_term plain_term
flat_term minus = (flat_when _ _ _ _ _ (λ t. refl) (flat_bind _ _ _ _ flat_fraction (λ f g e. flat_after minus f g e)) (flat_bind _ _ _ _ flat_plain_operand (λ v0 x0 e0. (flat_pure (term_of minus None v0) (term_of minus None x0) (cc)))))

flat_signed : Flat no_term signed_term signed_term
unfolding signed_term
flat_signed = (flat_bind _ _ _ _ flat_sign (λ v x e. subst (λ b. Flat no_term (term v) (term b)) (sym e) (flat_term v)))

flat_sum : (t : ℕ) → Flat bare_sum (sum t) (sum t)
unfolding sum more_terms
flat_sum t = (flat_bind _ _ _ _ (flat_term false) (λ v0 x0 e0. (flat_bind _ _ _ _ (flat_many Long is_sign _ _ (λ t. refl) flat_signed t) (λ v1 x1 e1. (flat_pure (record { terms = v0 ∷ v1 }) (record { terms = x0 ∷ x1 }) (cc))))))

flat_listed : {A : Type 0} {f : A → A} (p q : Parser A) → Flat f p q → (n : ℕ) → Flat (map f) (listed p n) (listed q n)
unfolding listed after_comma
flat_listed p q f n = (flat_bind _ _ _ _ f (λ v0 x0 e0. (flat_bind _ _ _ _ (flat_many Tired (is fixed.Comma) _ _ (λ t. refl) (flat_bind _ _ _ _ (flat_expect fixed.Comma) (λ u x e. f)) n) (λ v1 x1 e1. (flat_pure (v0 ∷ v1) (x0 ∷ x1) (cc))))))

flat_parens : {A : Type 0} {f : A → A} (p q : Parser A) → Flat f p q → (n : ℕ) → Flat (map f) (in_parens p n) (in_parens q n)
unfolding in_parens
flat_parens p q f n = (flat_bind _ _ _ _ (flat_expect fixed.OpenParen) (λ v0 x0 e0. (flat_bind _ _ _ _ (flat_when _ _ _ _ _ (λ t. refl) (flat_pure [] [] refl) (flat_listed p q f n)) (λ v1 x1 e1. (flat_bind _ _ _ _ (flat_expect fixed.CloseParen) (λ v2 x2 e2. (flat_pure (v1) (x1) (cc))))))))

flat_names : (n : ℕ) → Flat bare_names (names n) (names n)
unfolding names
flat_names n = flat_listed _ _ flat_name n

flat_as_names : (n : ℕ) → Flat bare_names (as_names n) (as_names n)
unfolding as_names
flat_as_names n = flat_when _ _ _ _ _ (λ t. refl) (flat_bind _ _ _ _ (flat_expect fixed.As) (λ u x e. flat_names n)) (flat_pure [] [] refl)

flat_params : (n : ℕ) → Flat (map bare_param) (params n) (params n)
unfolding params param
flat_params n = flat_parens _ _ (flat_bind _ _ _ _ flat_kind (λ v0 x0 e0. (flat_bind _ _ _ _ flat_name (λ v1 x1 e1. (flat_pure (record { kind = v0; name = v1 }) (record { kind = x0; name = x1 }) (cc)))))) n

flat_argument : (t : ℕ) → Flat bare_arg (argument t) (argument t)
unfolding argument agent_arg piece_arg number_arg
flat_argument t = (flat_when _ _ _ _ _ (λ t. refl) (flat_bind _ _ _ _ (flat_expect fixed.Agent) (λ v0 x0 e0. (flat_bind _ _ _ _ flat_ref (λ v1 x1 e1. (flat_pure (arg.Agent v1) (arg.Agent x1) (cc)))))) (flat_when _ _ _ _ _ (λ t. refl) (flat_bind _ _ _ _ (flat_expect fixed.Piece) (λ v0 x0 e0. (flat_bind _ _ _ _ flat_name (λ v1 x1 e1. (flat_pure (arg.Piece v1) (arg.Piece x1) (cc)))))) (flat_bind _ _ _ _ (flat_expect fixed.Number) (λ v0 x0 e0. (flat_bind _ _ _ _ (flat_sum t) (λ v1 x1 e1. (flat_pure (arg.Number v1) (arg.Number x1) (cc))))))))

flat_args : (t n : ℕ) → Flat (map bare_arg) (args t n) (args t n)
unfolding args
flat_args t n = flat_parens _ _ (flat_argument t) n

abbrev plain_block : PlainBlock → PlainBlock
plain_block b = record { code = bare_code b.code; yields = bare_names b.yields }

abbrev plain_head : Head → Head
plain_head (ACut a p s l r) = ACut (bare_ref a) (bare_name p) (bare_sum s) (bare_name l) (bare_name r)
plain_head (ALet n s) = ALet (bare_name n) (bare_sum s)
plain_head (AJoin p q n) = AJoin (bare_name p) (bare_name q) (bare_name n)
plain_head (AGive p a) = AGive (bare_name p) (bare_ref a)
plain_head (AnIf l o r y n xs e) = AnIf (bare_sum l) o (bare_sum r) (plain_block y) (plain_block n) (bare_names xs) 0
plain_head (APick a ps ns e) = APick (bare_ref a) (bare_names ps) (bare_names ns) 0
plain_head (ACall f xs ns e) = ACall (bare_name f) (map bare_arg xs) (bare_names ns) 0

plain_put : (h : Head) (c : Code) → put (plain_head h) (bare_code c) ≡ bare_code (put h c)
plain_put (ACut a p s l r) c = refl
plain_put (ALet n s) c = refl
plain_put (AJoin p q n) c = refl
plain_put (AGive p a) c = refl
plain_put (AnIf l o r y n xs e) c = refl
plain_put (APick a ps ns e) c = refl
plain_put (ACall f xs ns e) c = refl

plain_puts : (hs : List Head) → puts (map plain_head hs) End ≡ bare_code (puts hs End)
plain_puts [] = refl
plain_puts (h ∷ hs) = ap (put (plain_head h)) (plain_puts hs) ∙ plain_put h (puts hs End)

abbrev plain_braced : Braced → Braced
plain_braced b = record { block = plain_block b.block; close = 0 }

abbrev plain_ended : Ended → Ended
plain_ended z = record { names = bare_names z.names; end = 0 }

flat_if_end : (n close c : ℕ) → c ≡ 0 → Flat plain_ended (if_end n close) (if_end n c)
unfolding if_end
flat_if_end n close c e = (flat_when _ _ _ _ _ (λ t. refl) (flat_bind _ _ _ _ (flat_expect fixed.As) (λ v0 x0 e0. (flat_bind _ _ _ _ (flat_names n) (λ v1 x1 e1. (flat_bind _ _ _ _ (flat_expect fixed.Semicolon) (λ v2 x2 e2. (flat_pure (record { names = v1; end = v2 }) (record { names = x1; end = x2 }) (cc)))))))) (flat_pure (record { names = []; end = close }) (record { names = []; end = c }) (cc)))

flat_if : (t n : ℕ) (p q : Parser Braced) → Flat plain_braced p q → Flat plain_head (if_head t n p) (if_head t n q)
unfolding if_head
flat_if t n p q f = (flat_bind _ _ _ _ (flat_expect fixed.If) (λ v0 x0 e0. (flat_bind _ _ _ _ (flat_sum t) (λ v1 x1 e1. (flat_bind _ _ _ _ flat_cmp (λ v2 x2 e2. (flat_bind _ _ _ _ (flat_sum t) (λ v3 x3 e3. (flat_bind _ _ _ _ f (λ v4 x4 e4. (flat_bind _ _ _ _ (flat_expect fixed.Else) (λ v5 x5 e5. (flat_bind _ _ _ _ f (λ v6 x6 e6. (flat_bind _ _ _ _ (flat_if_end n v6.close x6.close (ap (λ b. b.close) e6)) (λ v7 x7 e7. (flat_pure (AnIf v1 v2 v3 v4.block v6.block v7.names v7.end) (AnIf x1 x2 x3 x4.block x6.block x7.names x7.end) (cc))))))))))))))))))

flat_cut : (t : ℕ) → Flat plain_head (cut_head t) (cut_head t)
unfolding cut_head
flat_cut t = (flat_bind _ _ _ _ (flat_expect fixed.Cut) (λ v0 x0 e0. (flat_bind _ _ _ _ flat_ref (λ v1 x1 e1. (flat_bind _ _ _ _ flat_name (λ v2 x2 e2. (flat_bind _ _ _ _ (flat_expect fixed.At) (λ v3 x3 e3. (flat_bind _ _ _ _ (flat_sum t) (λ v4 x4 e4. (flat_bind _ _ _ _ (flat_expect fixed.As) (λ v5 x5 e5. (flat_bind _ _ _ _ flat_name (λ v6 x6 e6. (flat_bind _ _ _ _ (flat_expect fixed.Comma) (λ v7 x7 e7. (flat_bind _ _ _ _ flat_name (λ v8 x8 e8. (flat_bind _ _ _ _ (flat_expect fixed.Semicolon) (λ v9 x9 e9. (flat_pure (ACut v1 v2 v4 v6 v8) (ACut x1 x2 x4 x6 x8) (cc))))))))))))))))))))))

flat_let : (t : ℕ) → Flat plain_head (let_head t) (let_head t)
unfolding let_head
flat_let t = (flat_bind _ _ _ _ (flat_expect fixed.Let) (λ v0 x0 e0. (flat_bind _ _ _ _ flat_name (λ v1 x1 e1. (flat_bind _ _ _ _ (flat_expect fixed.Equals) (λ v2 x2 e2. (flat_bind _ _ _ _ (flat_sum t) (λ v3 x3 e3. (flat_bind _ _ _ _ (flat_expect fixed.Semicolon) (λ v4 x4 e4. (flat_pure (ALet v1 v3) (ALet x1 x3) (cc))))))))))))

flat_join : Flat plain_head join_head join_head
unfolding join_head
flat_join = (flat_bind _ _ _ _ (flat_expect fixed.Join) (λ v0 x0 e0. (flat_bind _ _ _ _ flat_name (λ v1 x1 e1. (flat_bind _ _ _ _ (flat_expect fixed.Comma) (λ v2 x2 e2. (flat_bind _ _ _ _ flat_name (λ v3 x3 e3. (flat_bind _ _ _ _ (flat_expect fixed.As) (λ v4 x4 e4. (flat_bind _ _ _ _ flat_name (λ v5 x5 e5. (flat_bind _ _ _ _ (flat_expect fixed.Semicolon) (λ v6 x6 e6. (flat_pure (AJoin v1 v3 v5) (AJoin x1 x3 x5) (cc))))))))))))))))

flat_give : Flat plain_head give_head give_head
unfolding give_head
flat_give = (flat_bind _ _ _ _ (flat_expect fixed.Give) (λ v0 x0 e0. (flat_bind _ _ _ _ flat_name (λ v1 x1 e1. (flat_bind _ _ _ _ (flat_expect fixed.To) (λ v2 x2 e2. (flat_bind _ _ _ _ flat_ref (λ v3 x3 e3. (flat_bind _ _ _ _ (flat_expect fixed.Semicolon) (λ v4 x4 e4. (flat_pure (AGive v1 v3) (AGive x1 x3) (cc))))))))))))

flat_pick : (n : ℕ) → Flat plain_head (pick_head n) (pick_head n)
unfolding pick_head
flat_pick n = (flat_bind _ _ _ _ (flat_expect fixed.Pick) (λ v0 x0 e0. (flat_bind _ _ _ _ flat_ref (λ v1 x1 e1. (flat_bind _ _ _ _ (flat_expect fixed.From) (λ v2 x2 e2. (flat_bind _ _ _ _ (flat_names n) (λ v3 x3 e3. (flat_bind _ _ _ _ (flat_expect fixed.As) (λ v4 x4 e4. (flat_bind _ _ _ _ (flat_names n) (λ v5 x5 e5. (flat_bind _ _ _ _ (flat_expect fixed.Semicolon) (λ v6 x6 e6. (flat_pure (APick v1 v3 v5 v6) (APick x1 x3 x5 x6) (cc))))))))))))))))

flat_call : (t n : ℕ) → Flat plain_head (call_head t n) (call_head t n)
unfolding call_head
flat_call t n = (flat_bind _ _ _ _ (flat_expect fixed.Call) (λ v0 x0 e0. (flat_bind _ _ _ _ flat_name (λ v1 x1 e1. (flat_bind _ _ _ _ (flat_args t n) (λ v2 x2 e2. (flat_bind _ _ _ _ (flat_as_names n) (λ v3 x3 e3. (flat_bind _ _ _ _ (flat_expect fixed.Semicolon) (λ v4 x4 e4. (flat_pure (ACall v1 v2 v3 v4) (ACall x1 x2 x3 x4) (cc))))))))))))

flat_head : (t n : ℕ) (p q : Parser Braced) → Flat plain_braced p q → Flat plain_head (head t n p) (head t n q)
unfolding head
flat_head t n p q f = (flat_when _ _ _ _ _ (λ t. refl) (flat_cut t) (flat_when _ _ _ _ _ (λ t. refl) (flat_let t) (flat_when _ _ _ _ _ (λ t. refl) flat_join (flat_when _ _ _ _ _ (λ t. refl) flat_give (flat_when _ _ _ _ _ (λ t. refl) (flat_if t n p q f) (flat_when _ _ _ _ _ (λ t. refl) (flat_pick n) (flat_call t n)))))))

flat_heads : (t n : ℕ) (p q : Parser Braced) → Flat plain_braced p q → Flat (map plain_head) (heads t n p) (heads t n q)
unfolding heads
flat_heads t n p q f = flat_many Tired starts _ _ (λ t. refl) (flat_head t n p q f) n

flat_yields : (n : ℕ) → Flat bare_names (yields n) (yields n)
unfolding yields
flat_yields n = (flat_when _ _ _ _ _ (λ t. refl) (flat_bind _ _ _ _ (flat_expect fixed.Yield) (λ v0 x0 e0. (flat_bind _ _ _ _ (flat_names n) (λ v1 x1 e1. (flat_bind _ _ _ _ (flat_expect fixed.Semicolon) (λ v2 x2 e2. (flat_pure (v1) (x1) (cc)))))))) (flat_pure [] [] refl))

flat_body : (t n : ℕ) (p q : Parser Braced) → Flat plain_braced p q → Flat plain_braced (body t n p) (body t n q)
unfolding body
flat_body t n p q f = (flat_bind _ _ _ _ (flat_expect fixed.OpenBrace) (λ v0 x0 e0. (flat_bind _ _ _ _ (flat_heads t n p q f) (λ v1 x1 e1. (flat_bind _ _ _ _ (flat_yields n) (λ v2 x2 e2. (flat_bind _ _ _ _ (flat_expect fixed.CloseBrace) (λ v3 x3 e3. (flat_pure (record { block = record { code = puts v1 End; yields = v2 }; close = v3 }) (record { block = record { code = puts x1 End; yields = x2 }; close = x3 }) (cc (plain_puts v1)))))))))))

flat_block : (t n d : ℕ) → Flat plain_braced (block t n d) (block t n d)
unfolding block
flat_block t n zero = flat_when _ _ _ _ _ (λ t. refl) (flat_fail Deep) (flat_fail Syntax)
flat_block t n (suc d) = flat_body t n _ _ (flat_block t n d)

flat_proc : (t n d : ℕ) → Flat bare_proc (proc t n d) (proc t n d)
unfolding proc
flat_proc t n d = (flat_bind _ _ _ _ (flat_expect fixed.Procedure) (λ v0 x0 e0. (flat_bind _ _ _ _ flat_name (λ v1 x1 e1. (flat_bind _ _ _ _ (flat_params n) (λ v2 x2 e2. (flat_bind _ _ _ _ (flat_block t n d) (λ v3 x3 e3. (flat_pure (record { name = v1; params = v2; body = v3.block }) (record { name = x1; params = x2; body = x3.block }) (cc))))))))))

pub flat_program : (t n d : ℕ) → Flat without_places (program t n d) (program t n d)
unfolding program procs
flat_program t n d = (flat_bind _ _ _ _ (flat_many Tired (is fixed.Procedure) _ _ (λ t. refl) (flat_proc t n (suc d)) n) (λ v0 x0 e0. (flat_bind _ _ _ _ (flat_expect fixed.Protocol) (λ v1 x1 e1. (flat_bind _ _ _ _ flat_name (λ v2 x2 e2. (flat_bind _ _ _ _ (flat_expect fixed.Agents) (λ v3 x3 e3. (flat_bind _ _ _ _ flat_number (λ v4 x4 e4. (flat_bind _ _ _ _ (flat_expect fixed.OpenBrace) (λ v5 x5 e5. (flat_bind _ _ _ _ (flat_heads t n _ _ (flat_block t n d)) (λ v6 x6 e6. (flat_bind _ _ _ _ (flat_expect fixed.CloseBrace) (λ v7 x7 e7. (flat_bind _ _ _ _ flat_finish (λ v8 x8 e8. (flat_pure (record { procs = v0; name = v2; agents = v4; body = puts v6 End }) (record { procs = x0; name = x2; agents = x4; body = puts x6 End }) (cc (plain_puts v6)))))))))))))))))))))
