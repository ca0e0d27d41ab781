-- Statements, blocks and programs: what they read, and what begins so.
use Rattle.std.proofs.Common.{◌≡◌, ℕ, zero, suc, true, List, [], ◌∷◌, ◌++◌, refl, ap, sym, ◌∙◌, append_assoc, append-nil, codes}
use Rattle.slice_ast.specs.Code.{Code, End, Head, ACut, ALet, AJoin, AGive, AnIf, APick, ACall, put, puts}
use Rattle.slice_ast.specs.Tokens.{Mark, Plain, Spelled, Digits, Final, listed, name_marks, names_after, ref_marks, sum_marks, cmp_text, yield_marks, test_marks, code_marks, head_marks, open_marks, block_marks, proc_marks, procs_marks, program_marks}
use Rattle.slice_ast.specs.Tokens as tok
use Rattle.slice_ast.specs.declared.tree.Name.{Name}
use Rattle.slice_ast.specs.declared.tree.Sum.{Sum}
use Rattle.slice_ast.specs.declared.tree.Cmp.TheVariants as cmp
use Rattle.slice_parse.specs.declared.lexeme.Fixed.TheVariants as fixed
use Rattle.slice_parse.specs.declared.lexeme.What.{What}
use Rattle.slice_parse.specs.declared.lexeme.What.TheVariants as what
use Rattle.slice_parse.specs.Combinators.{Parser, Syntax, Deep, Tired, ◌>>=◌, fail}
use Rattle.slice_parse.specs.Lexemes.{fixed_text, is, starts}
use Rattle.slice_ast.specs.Spellable.{Each, EachOfSome, HasName, CanSpellCode, CanSpellBlock, CanSpellProc, IsSpellable}
use Rattle.slice_parse.proofs.Matching.{none, also, final_plain, looser_same, looser_append, looser_matches}
use Rattle.slice_parse.proofs.FromSteps.{From, Finish, Onward, from_bind, from_when, from_other, from_pure, from_fail, from_limit, from_many, from_bind_over, from_looser, from_finish, from_same}
use Rattle.slice_parse.proofs.FromLeaves.{by, word_marks, from_expect, from_end, name0, name0_ok, num0, num0_ok, ref0, from_name, from_number, from_ref, cmp_marks, from_cmp}
use Rattle.slice_ast.specs.declared.tree.Cmp.{Cmp}
use Rattle.slice_parse.specs.declared.statements.Ended.{Ended}
use Rattle.slice_parse.specs.Rules.{cut_head, let_head, join_head, give_head, pick_head, call_head, if_end, Braced, if_head, head, heads, yields, body, block, proc, procs, program}
use Rattle.slice_parse.proofs.FromSums.{from_sum, sum0, sum0_ok, from_names, names0, names0_ok, some_names, after_some, from_as_names, params_marks, from_params, args_marks, from_args}

abbrev pub CanSpellHead : Head → Type 0
CanSpellHead h = CanSpellCode (put h End)

-- the same list, grouped from the left and from the right
abbrev left : List Mark → List (List Mark) → List Mark
left acc [] = acc
left acc (x ∷ xs) = left (acc ++ x) xs

abbrev join : List Mark → List (List Mark) → List Mark
join x [] = x
join x (y ∷ ys) = x ++ join y ys

regroup : (acc x : List Mark) (xs : List (List Mark)) → left acc (x ∷ xs) ≡ acc ++ join x xs
regroup acc x [] = refl
regroup acc x (y ∷ ys) = regroup (acc ++ x) y ys ∙ append_assoc acc x (join y ys)

from_cut : (terms : ℕ) → From head_marks CanSpellHead [] (cut_head terms)
unfolding cut_head
from_cut terms =
    (from_bind [] _ _ (from_expect fixed.Cut) (λ u0 w_u0.
    (from_bind _ _ _ from_ref (λ a w_a.
    (from_bind _ _ _ from_name (λ p w_p.
    (from_bind _ _ _ (from_expect fixed.At) (λ u3 w_u3.
    (from_bind _ _ _ (from_sum terms) (λ s w_s.
    (from_bind _ _ _ (from_expect fixed.As) (λ u5 w_u5.
    (from_bind _ _ _ from_name (λ l w_l.
    (from_bind _ _ _ (from_expect fixed.Comma) (λ u7 w_u7.
    (from_bind _ _ _ from_name (λ r w_r.
    (from_bind _ _ _ (from_expect fixed.Semicolon) (λ u9 w_u9.
    (from_pure (ACut a p s l r) (simp append_assoc) (w_a, w_p, w_s, w_l, w_r, tt)))
    (λ u9 w_u9. by (ACut a p s l r) ([]) (simp append_assoc) (w_a, w_p, w_s, w_l, w_r, tt))))
    (λ r w_r. by (ACut a p s l r) (Plain (fixed_text fixed.Semicolon) ∷ []) (simp append_assoc) (w_a, w_p, w_s, w_l, w_r, tt))))
    (λ u7 w_u7. by (ACut a p s l name0) (Spelled name0 ∷ Plain (fixed_text fixed.Semicolon) ∷ []) (simp append_assoc) (w_a, w_p, w_s, w_l, name0_ok, tt))))
    (λ l w_l. by (ACut a p s l name0) (Plain (fixed_text fixed.Comma) ∷ Spelled name0 ∷ Plain (fixed_text fixed.Semicolon) ∷ []) (simp append_assoc) (w_a, w_p, w_s, w_l, name0_ok, tt))))
    (λ u5 w_u5. by (ACut a p s name0 name0) (Spelled name0 ∷ Plain (fixed_text fixed.Comma) ∷ Spelled name0 ∷ Plain (fixed_text fixed.Semicolon) ∷ []) (simp append_assoc) (w_a, w_p, w_s, name0_ok, name0_ok, tt))))
    (λ s w_s. by (ACut a p s name0 name0) (Plain (fixed_text fixed.As) ∷ Spelled name0 ∷ Plain (fixed_text fixed.Comma) ∷ Spelled name0 ∷ Plain (fixed_text fixed.Semicolon) ∷ []) (simp append_assoc) (w_a, w_p, w_s, name0_ok, name0_ok, tt))))
    (λ u3 w_u3. by (ACut a p sum0 name0 name0) ((sum_marks sum0 ++ Plain (fixed_text fixed.As) ∷ Spelled name0 ∷ Plain (fixed_text fixed.Comma) ∷ Spelled name0 ∷ Plain (fixed_text fixed.Semicolon) ∷ [])) (simp append_assoc) (w_a, w_p, sum0_ok, name0_ok, name0_ok, tt))))
    (λ p w_p. by (ACut a p sum0 name0 name0) (Plain (fixed_text fixed.At) ∷ (sum_marks sum0 ++ Plain (fixed_text fixed.As) ∷ Spelled name0 ∷ Plain (fixed_text fixed.Comma) ∷ Spelled name0 ∷ Plain (fixed_text fixed.Semicolon) ∷ [])) (simp append_assoc) (w_a, w_p, sum0_ok, name0_ok, name0_ok, tt))))
    (λ a w_a. by (ACut a name0 sum0 name0 name0) (Spelled name0 ∷ Plain (fixed_text fixed.At) ∷ (sum_marks sum0 ++ Plain (fixed_text fixed.As) ∷ Spelled name0 ∷ Plain (fixed_text fixed.Comma) ∷ Spelled name0 ∷ Plain (fixed_text fixed.Semicolon) ∷ [])) refl (w_a, name0_ok, sum0_ok, name0_ok, name0_ok, tt))))
    (λ u0 w_u0. by (ACut ref0 name0 sum0 name0 name0) ((ref_marks ref0 ++ Spelled name0 ∷ Plain (fixed_text fixed.At) ∷ (sum_marks sum0 ++ Plain (fixed_text fixed.As) ∷ Spelled name0 ∷ Plain (fixed_text fixed.Comma) ∷ Spelled name0 ∷ Plain (fixed_text fixed.Semicolon) ∷ []))) refl (name0_ok, name0_ok, sum0_ok, name0_ok, name0_ok, tt)))

from_let : (terms : ℕ) → From head_marks CanSpellHead [] (let_head terms)
unfolding let_head
from_let terms =
    (from_bind [] _ _ (from_expect fixed.Let) (λ u0 w_u0.
    (from_bind _ _ _ from_name (λ x w_x.
    (from_bind _ _ _ (from_expect fixed.Equals) (λ u2 w_u2.
    (from_bind _ _ _ (from_sum terms) (λ s w_s.
    (from_bind _ _ _ (from_expect fixed.Semicolon) (λ u4 w_u4.
    (from_pure (ALet x s) (simp append_assoc) (w_x, w_s, tt)))
    (λ u4 w_u4. by (ALet x s) ([]) (simp append_assoc) (w_x, w_s, tt))))
    (λ s w_s. by (ALet x s) (Plain (fixed_text fixed.Semicolon) ∷ []) refl (w_x, w_s, tt))))
    (λ u2 w_u2. by (ALet x sum0) ((sum_marks sum0 ++ Plain (fixed_text fixed.Semicolon) ∷ [])) refl (w_x, sum0_ok, tt))))
    (λ x w_x. by (ALet x sum0) (Plain (fixed_text fixed.Equals) ∷ (sum_marks sum0 ++ Plain (fixed_text fixed.Semicolon) ∷ [])) refl (w_x, sum0_ok, tt))))
    (λ u0 w_u0. by (ALet name0 sum0) (Spelled name0 ∷ Plain (fixed_text fixed.Equals) ∷ (sum_marks sum0 ++ Plain (fixed_text fixed.Semicolon) ∷ [])) refl (name0_ok, sum0_ok, tt)))

from_join : From head_marks CanSpellHead [] join_head
unfolding join_head
from_join =
    (from_bind [] _ _ (from_expect fixed.Join) (λ u0 w_u0.
    (from_bind _ _ _ from_name (λ p w_p.
    (from_bind _ _ _ (from_expect fixed.Comma) (λ u2 w_u2.
    (from_bind _ _ _ from_name (λ q w_q.
    (from_bind _ _ _ (from_expect fixed.As) (λ u4 w_u4.
    (from_bind _ _ _ from_name (λ x w_x.
    (from_bind _ _ _ (from_expect fixed.Semicolon) (λ u6 w_u6.
    (from_pure (AJoin p q x) refl (w_p, w_q, w_x, tt)))
    (λ u6 w_u6. by (AJoin p q x) ([]) refl (w_p, w_q, w_x, tt))))
    (λ x w_x. by (AJoin p q x) (Plain (fixed_text fixed.Semicolon) ∷ []) refl (w_p, w_q, w_x, tt))))
    (λ u4 w_u4. by (AJoin p q name0) (Spelled name0 ∷ Plain (fixed_text fixed.Semicolon) ∷ []) refl (w_p, w_q, name0_ok, tt))))
    (λ q w_q. by (AJoin p q name0) (Plain (fixed_text fixed.As) ∷ Spelled name0 ∷ Plain (fixed_text fixed.Semicolon) ∷ []) refl (w_p, w_q, name0_ok, tt))))
    (λ u2 w_u2. by (AJoin p name0 name0) (Spelled name0 ∷ Plain (fixed_text fixed.As) ∷ Spelled name0 ∷ Plain (fixed_text fixed.Semicolon) ∷ []) refl (w_p, name0_ok, name0_ok, tt))))
    (λ p w_p. by (AJoin p name0 name0) (Plain (fixed_text fixed.Comma) ∷ Spelled name0 ∷ Plain (fixed_text fixed.As) ∷ Spelled name0 ∷ Plain (fixed_text fixed.Semicolon) ∷ []) refl (w_p, name0_ok, name0_ok, tt))))
    (λ u0 w_u0. by (AJoin name0 name0 name0) (Spelled name0 ∷ Plain (fixed_text fixed.Comma) ∷ Spelled name0 ∷ Plain (fixed_text fixed.As) ∷ Spelled name0 ∷ Plain (fixed_text fixed.Semicolon) ∷ []) refl (name0_ok, name0_ok, name0_ok, tt)))

from_give : From head_marks CanSpellHead [] give_head
unfolding give_head
from_give =
    (from_bind [] _ _ (from_expect fixed.Give) (λ u0 w_u0.
    (from_bind _ _ _ from_name (λ p w_p.
    (from_bind _ _ _ (from_expect fixed.To) (λ u2 w_u2.
    (from_bind _ _ _ from_ref (λ a w_a.
    (from_bind _ _ _ (from_expect fixed.Semicolon) (λ u4 w_u4.
    (from_pure (AGive p a) (simp append_assoc) (w_p, w_a, tt)))
    (λ u4 w_u4. by (AGive p a) ([]) (simp append_assoc) (w_p, w_a, tt))))
    (λ a w_a. by (AGive p a) (Plain (fixed_text fixed.Semicolon) ∷ []) refl (w_p, w_a, tt))))
    (λ u2 w_u2. by (AGive p ref0) ((ref_marks ref0 ++ Plain (fixed_text fixed.Semicolon) ∷ [])) refl (w_p, name0_ok, tt))))
    (λ p w_p. by (AGive p ref0) (Plain (fixed_text fixed.To) ∷ (ref_marks ref0 ++ Plain (fixed_text fixed.Semicolon) ∷ [])) refl (w_p, name0_ok, tt))))
    (λ u0 w_u0. by (AGive name0 ref0) (Spelled name0 ∷ Plain (fixed_text fixed.To) ∷ (ref_marks ref0 ++ Plain (fixed_text fixed.Semicolon) ∷ [])) refl (name0_ok, name0_ok, tt)))

from_pick : (turns : ℕ) → From head_marks CanSpellHead [] (pick_head turns)
unfolding pick_head
from_pick turns =
    (from_bind [] _ _ (from_expect fixed.Pick) (λ u0 w_u0.
    (from_bind _ _ _ from_ref (λ a w_a.
    (from_bind _ _ _ (from_expect fixed.From) (λ u2 w_u2.
    (from_bind _ _ _ (from_names turns) (λ ps w_ps.
    (from_bind _ _ _ (from_expect fixed.As) (λ u4 w_u4.
    (from_bind _ _ _ (from_names turns) (λ xs w_xs.
    (from_bind _ _ _ (from_end fixed.Semicolon) (λ e w_e.
    (from_pure (APick a ps xs e) (rw (after_some (codes "from") ps w_ps, after_some (codes "as") xs w_xs) (regroup (Plain (fixed_text fixed.Pick) ∷ []) ((ref_marks a)) ((Plain (fixed_text fixed.From) ∷ []) ∷ ((listed name_marks ps)) ∷ (Plain (fixed_text fixed.As) ∷ []) ∷ ((listed name_marks xs)) ∷ (Final (fixed_text fixed.Semicolon) e ∷ []) ∷ []))) (w_a, w_ps, w_xs, tt)))
    (λ e w_e. by (APick a ps xs e) ([]) (rw (after_some (codes "from") ps w_ps, after_some (codes "as") xs w_xs) (sym (regroup (Plain (fixed_text fixed.Pick) ∷ []) ((ref_marks a)) ((Plain (fixed_text fixed.From) ∷ []) ∷ ((listed name_marks ps)) ∷ (Plain (fixed_text fixed.As) ∷ []) ∷ ((listed name_marks xs)) ∷ (Final (fixed_text fixed.Semicolon) e ∷ []) ∷ ([]) ∷ [])))) (w_a, w_ps, w_xs, tt))))
    (λ xs w_xs. by (APick a ps xs 0) (Final (fixed_text fixed.Semicolon) 0 ∷ []) (rw (after_some (codes "from") ps w_ps, after_some (codes "as") xs w_xs) (sym (regroup (Plain (fixed_text fixed.Pick) ∷ []) ((ref_marks a)) ((Plain (fixed_text fixed.From) ∷ []) ∷ ((listed name_marks ps)) ∷ (Plain (fixed_text fixed.As) ∷ []) ∷ ((listed name_marks xs)) ∷ (Final (fixed_text fixed.Semicolon) 0 ∷ []) ∷ [])))) (w_a, w_ps, w_xs, tt))))
    (λ u4 w_u4. by (APick a ps names0 0) ((listed name_marks names0 ++ Final (fixed_text fixed.Semicolon) 0 ∷ [])) (rw (after_some (codes "from") ps w_ps) (sym (regroup (Plain (fixed_text fixed.Pick) ∷ []) ((ref_marks a)) ((Plain (fixed_text fixed.From) ∷ []) ∷ ((listed name_marks ps)) ∷ (Plain (fixed_text fixed.As) ∷ []) ∷ ((listed name_marks names0 ++ Final (fixed_text fixed.Semicolon) 0 ∷ [])) ∷ [])))) (w_a, w_ps, names0_ok, tt))))
    (λ ps w_ps. by (APick a ps names0 0) (Plain (fixed_text fixed.As) ∷ (listed name_marks names0 ++ Final (fixed_text fixed.Semicolon) 0 ∷ [])) (rw (after_some (codes "from") ps w_ps) (sym (regroup (Plain (fixed_text fixed.Pick) ∷ []) ((ref_marks a)) ((Plain (fixed_text fixed.From) ∷ []) ∷ ((listed name_marks ps)) ∷ (Plain (fixed_text fixed.As) ∷ (listed name_marks names0 ++ Final (fixed_text fixed.Semicolon) 0 ∷ [])) ∷ [])))) (w_a, w_ps, names0_ok, tt))))
    (λ u2 w_u2. by (APick a names0 names0 0) ((listed name_marks names0 ++ Plain (fixed_text fixed.As) ∷ (listed name_marks names0 ++ Final (fixed_text fixed.Semicolon) 0 ∷ []))) (sym (regroup (Plain (fixed_text fixed.Pick) ∷ []) ((ref_marks a)) ((Plain (fixed_text fixed.From) ∷ []) ∷ ((listed name_marks names0 ++ Plain (fixed_text fixed.As) ∷ (listed name_marks names0 ++ Final (fixed_text fixed.Semicolon) 0 ∷ []))) ∷ []))) (w_a, names0_ok, names0_ok, tt))))
    (λ a w_a. by (APick a names0 names0 0) (Plain (fixed_text fixed.From) ∷ (listed name_marks names0 ++ Plain (fixed_text fixed.As) ∷ (listed name_marks names0 ++ Final (fixed_text fixed.Semicolon) 0 ∷ []))) refl (w_a, names0_ok, names0_ok, tt))))
    (λ u0 w_u0. by (APick ref0 names0 names0 0) ((ref_marks ref0 ++ Plain (fixed_text fixed.From) ∷ (listed name_marks names0 ++ Plain (fixed_text fixed.As) ∷ (listed name_marks names0 ++ Final (fixed_text fixed.Semicolon) 0 ∷ [])))) refl (name0_ok, names0_ok, names0_ok, tt)))

from_call : (terms turns : ℕ) → From head_marks CanSpellHead [] (call_head terms turns)
unfolding call_head
from_call terms turns =
    (from_bind [] _ _ (from_expect fixed.Call) (λ u0 w_u0.
    (from_bind _ _ _ from_name (λ f w_f.
    (from_bind _ _ _ (from_args terms turns) (λ xs w_xs.
    (from_bind _ _ _ (from_as_names turns) (λ ns w_ns.
    (from_bind _ _ _ (from_end fixed.Semicolon) (λ e w_e.
    (from_pure (ACall f xs ns e) (simp append_assoc) (w_f, w_xs, w_ns, tt)))
    (λ e w_e. by (ACall f xs ns e) ([]) (simp append_assoc) (w_f, w_xs, w_ns, tt))))
    (λ ns w_ns. by (ACall f xs ns 0) (Final (fixed_text fixed.Semicolon) 0 ∷ []) (simp append_assoc) (w_f, w_xs, w_ns, tt))))
    (λ xs w_xs. by (ACall f xs [] 0) ((names_after (codes "as") [] ++ Final (fixed_text fixed.Semicolon) 0 ∷ [])) (simp append_assoc) (w_f, w_xs, tt, tt))))
    (λ f w_f. by (ACall f [] [] 0) ((args_marks [] ++ (names_after (codes "as") [] ++ Final (fixed_text fixed.Semicolon) 0 ∷ []))) refl (w_f, tt, tt, tt))))
    (λ u0 w_u0. by (ACall name0 [] [] 0) (Spelled name0 ∷ (args_marks [] ++ (names_after (codes "as") [] ++ Final (fixed_text fixed.Semicolon) 0 ∷ []))) refl (name0_ok, tt, tt, tt)))

abbrev pub ended_marks : Ended → List Mark
ended_marks z = tok.if_end z.names z.end

abbrev pub CanSpellEnded : Ended → Type 0
CanSpellEnded z = Each HasName z.names

end_some : (xs : List Name) (end : ℕ) → EachOfSome HasName xs → tok.if_end xs end ≡ Plain (codes "}") ∷ Plain (codes "as") ∷ (tok.listed name_marks xs ++ Final (codes ";") end ∷ [])
end_some [] end w = absurd w
end_some (x ∷ xs) end w = refl

from_if_end : (turns close : ℕ) → From ended_marks CanSpellEnded (Final (codes "}") close ∷ []) (if_end turns close)
unfolding if_end
from_if_end turns close =
    from_when _ _ _
    (from_other _ (Plain (codes "}") ∷ []) _ (λ us m. looser_matches (also (final_plain (codes "}") close) none) m)
    (from_bind (Plain (codes "}") ∷ []) _ _ (from_expect fixed.As) (λ u w.
    (from_bind _ _ _ (from_names turns) (λ xs w_xs.
    (from_bind _ _ _ (from_end fixed.Semicolon) (λ e w_e.
    (from_pure (record { names = xs; end = e }) (sym (end_some xs e w_xs)) (some_names xs w_xs)))
    (λ e w_e. by (record { names = xs; end = e }) [] (end_some xs e w_xs ∙ sym (append-nil _)) (some_names xs w_xs))))
    (λ xs w_xs. by (record { names = xs; end = 0 }) (Final (codes ";") 0 ∷ []) (end_some xs 0 w_xs) (some_names xs w_xs))))
    (λ u w. by (record { names = names0; end = 0 }) (Spelled name0 ∷ Final (codes ";") 0 ∷ []) refl names0_ok)))
    (from_pure (record { names = []; end = close }) refl tt)

-- a block, with the place of the brace that closes it
abbrev pub braced_marks : Braced → List Mark
braced_marks a = open_marks a.block ++ Final (codes "}") a.close ∷ []

abbrev pub plain_marks : Braced → List Mark
plain_marks a = block_marks a.block

abbrev pub CanSpellBraced : Braced → Type 0
CanSpellBraced a = CanSpellBlock a.block

pub from_plain : (inner : Parser Braced) → From braced_marks CanSpellBraced [] inner → From plain_marks CanSpellBraced [] inner
from_plain inner f = from_looser braced_marks plain_marks CanSpellBraced (λ a. looser_append (looser_same (open_marks a.block)) (also (final_plain (codes "}") a.close) none)) [] inner f

abbrev pub block0 : Braced
block0 = record { block = record { code = End; yields = [] }; close = 0 }

abbrev pub block0_ok : CanSpellBraced block0
block0_ok = (tt, tt)

from_closed : (before : List Mark) (b : Braced) (turns : ℕ) (k : Ended → Parser Head) → ((z : Ended) → CanSpellEnded z → From head_marks CanSpellHead ((before ++ open_marks b.block) ++ ended_marks z) (k z))
    → ((z : Ended) → CanSpellEnded z → Finish head_marks CanSpellHead ((before ++ open_marks b.block) ++ ended_marks z)) → From head_marks CanSpellHead (before ++ braced_marks b) (if_end turns b.close >>= k)
from_closed before b turns k next fin =
    from_same _ _ _ (sym (append_assoc before (open_marks b.block) (Final (codes "}") b.close ∷ [])))
    (from_bind_over (before ++ open_marks b.block) (Final (codes "}") b.close ∷ []) (if_end turns b.close) k (from_if_end turns b.close) next fin)

left_if : (i sl so sr oa ca ya ea el ob cb yb z : List Mark) → ((((((i ++ sl) ++ so) ++ sr) ++ ((oa ++ (ca ++ ya)) ++ ea)) ++ el) ++ (ob ++ (cb ++ yb))) ++ z ≡ i ++ (sl ++ (so ++ (sr ++ (oa ++ (ca ++ (ya ++ (ea ++ (el ++ (ob ++ (cb ++ (yb ++ z)))))))))))
left_if i sl so sr oa ca ya ea el ob cb yb z = simp append_assoc

right_if : (i sl so sr oa ca ya ea el ob cb yb z : List Mark) → (i ++ (sl ++ (so ++ sr))) ++ (oa ++ (ca ++ (ya ++ (ea ++ (el ++ (ob ++ (cb ++ (yb ++ z)))))))) ≡ i ++ (sl ++ (so ++ (sr ++ (oa ++ (ca ++ (ya ++ (ea ++ (el ++ (ob ++ (cb ++ (yb ++ z)))))))))))
right_if i sl so sr oa ca ya ea el ob cb yb z = simp append_assoc

if_group : (l : Sum) (o : Cmp) (r : Sum) (a b : Braced) (xs : List Name) (end : ℕ) (u v : ℕ) →
    (((((word_marks fixed.If u ++ sum_marks l) ++ cmp_marks o) ++ sum_marks r) ++ plain_marks a) ++ word_marks fixed.Else v) ++ (open_marks b.block ++ tok.if_end xs end) ≡ head_marks (AnIf l o r a.block b.block xs end)
if_group l o r a b xs end u v =
    sym (append_assoc (((((word_marks fixed.If u ++ sum_marks l) ++ cmp_marks o) ++ sum_marks r) ++ plain_marks a) ++ word_marks fixed.Else v) (open_marks b.block) (tok.if_end xs end))
    ∙ left_if (word_marks fixed.If u) (sum_marks l) (cmp_marks o) (sum_marks r) (Plain (codes "{") ∷ []) (code_marks a.block.code) (yield_marks a.block.yields) (Plain (codes "}") ∷ []) (word_marks fixed.Else v) (Plain (codes "{") ∷ []) (code_marks b.block.code) (yield_marks b.block.yields) (tok.if_end xs end)
    ∙ sym (right_if (word_marks fixed.If u) (sum_marks l) (cmp_marks o) (sum_marks r) (Plain (codes "{") ∷ []) (code_marks a.block.code) (yield_marks a.block.yields) (Plain (codes "}") ∷ []) (word_marks fixed.Else v) (Plain (codes "{") ∷ []) (code_marks b.block.code) (yield_marks b.block.yields) (tok.if_end xs end))
    ∙ ap (λ ms. test_marks l o r ++ Plain (codes "{") ∷ (code_marks a.block.code ++ (yield_marks a.block.yields ++ Plain (codes "}") ∷ Plain (codes "else") ∷ Plain (codes "{") ∷ (code_marks b.block.code ++ (yield_marks b.block.yields ++ ms))))) (sym (append-nil (tok.if_end xs end)))

from_if : (terms turns : ℕ) (inner : Parser Braced) → From braced_marks CanSpellBraced [] inner → From head_marks CanSpellHead [] (if_head terms turns inner)
unfolding if_head
from_if terms turns inner within =
    (from_bind [] _ _ (from_expect fixed.If) (λ u0 w_u0.
    (from_bind _ _ _ (from_sum terms) (λ l w_l.
    (from_bind _ _ _ from_cmp (λ o w_o.
    (from_bind _ _ _ (from_sum terms) (λ r w_r.
    (from_bind _ _ _ (from_plain inner within) (λ a w_a.
    (from_bind _ _ _ (from_expect fixed.Else) (λ u5 w_u5.
    (from_bind _ _ _ within (λ b w_b.
    (from_closed ((((((word_marks fixed.If u0) ++ sum_marks l) ++ cmp_marks o) ++ sum_marks r) ++ plain_marks a) ++ word_marks fixed.Else u5) b turns _ (λ z w_z.
    from_pure (AnIf l o r a.block b.block z.names z.end) (append_assoc (((((word_marks fixed.If u0 ++ sum_marks l) ++ cmp_marks o) ++ sum_marks r) ++ plain_marks a) ++ word_marks fixed.Else u5) (open_marks b.block) (ended_marks z) ∙ if_group l o r a b z.names z.end u0 u5) (w_l, w_r, w_a.0, w_a.1, w_b.0, w_b.1, w_z, tt))
    (λ z w_z. by (AnIf l o r a.block b.block z.names z.end) [] (sym (append-nil _ ∙ (append_assoc (((((word_marks fixed.If u0 ++ sum_marks l) ++ cmp_marks o) ++ sum_marks r) ++ plain_marks a) ++ word_marks fixed.Else u5) (open_marks b.block) (ended_marks z) ∙ if_group l o r a b z.names z.end u0 u5))) (w_l, w_r, w_a.0, w_a.1, w_b.0, w_b.1, w_z, tt))))
    (λ b w_b. by (AnIf l o r a.block b.block [] b.close) ([]) (sym (append-nil _ ∙ if_group l o r a b [] b.close u0 u5)) (w_l, w_r, w_a.0, w_a.1, w_b.0, w_b.1, tt, tt))))
    (λ u5 w_u5. by (AnIf l o r a.block block0.block [] block0.close) ((braced_marks block0 ++ [])) (sym (if_group l o r a block0 [] 0 u0 u5)) (w_l, w_r, w_a.0, w_a.1, block0_ok.0, block0_ok.1, tt, tt))))
    (λ a w_a. by (AnIf l o r a.block block0.block [] block0.close) (Plain (fixed_text fixed.Else) ∷ (braced_marks block0 ++ [])) (sym (if_group l o r a block0 [] 0 u0 0) ∙ append_assoc (((((word_marks fixed.If u0) ++ sum_marks l) ++ cmp_marks o) ++ sum_marks r) ++ plain_marks a) (word_marks fixed.Else 0) (braced_marks block0)) (w_l, w_r, w_a.0, w_a.1, block0_ok.0, block0_ok.1, tt, tt))))
    (λ r w_r. by (AnIf l o r block0.block block0.block [] block0.close) ((plain_marks block0 ++ Plain (fixed_text fixed.Else) ∷ (braced_marks block0 ++ []))) (sym (if_group l o r block0 block0 [] 0 u0 0) ∙ append_assoc (((((word_marks fixed.If u0) ++ sum_marks l) ++ cmp_marks o) ++ sum_marks r) ++ plain_marks block0) (word_marks fixed.Else 0) (braced_marks block0) ∙ append_assoc ((((word_marks fixed.If u0) ++ sum_marks l) ++ cmp_marks o) ++ sum_marks r) (plain_marks block0) (word_marks fixed.Else 0 ++ (braced_marks block0))) (w_l, w_r, block0_ok.0, block0_ok.1, block0_ok.0, block0_ok.1, tt, tt))))
    (λ o w_o. by (AnIf l o sum0 block0.block block0.block [] block0.close) ((sum_marks sum0 ++ (plain_marks block0 ++ Plain (fixed_text fixed.Else) ∷ (braced_marks block0 ++ [])))) (sym (if_group l o sum0 block0 block0 [] 0 u0 0) ∙ append_assoc (((((word_marks fixed.If u0) ++ sum_marks l) ++ cmp_marks o) ++ sum_marks sum0) ++ plain_marks block0) (word_marks fixed.Else 0) (braced_marks block0) ∙ append_assoc ((((word_marks fixed.If u0) ++ sum_marks l) ++ cmp_marks o) ++ sum_marks sum0) (plain_marks block0) (word_marks fixed.Else 0 ++ (braced_marks block0)) ∙ append_assoc (((word_marks fixed.If u0) ++ sum_marks l) ++ cmp_marks o) (sum_marks sum0) (plain_marks block0 ++ (word_marks fixed.Else 0 ++ (braced_marks block0)))) (w_l, sum0_ok, block0_ok.0, block0_ok.1, block0_ok.0, block0_ok.1, tt, tt))))
    (λ l w_l. by (AnIf l cmp.Less sum0 block0.block block0.block [] block0.close) (Plain (cmp_text cmp.Less) ∷ (sum_marks sum0 ++ (plain_marks block0 ++ Plain (fixed_text fixed.Else) ∷ (braced_marks block0 ++ [])))) (sym (if_group l cmp.Less sum0 block0 block0 [] 0 u0 0) ∙ append_assoc (((((word_marks fixed.If u0) ++ sum_marks l) ++ cmp_marks cmp.Less) ++ sum_marks sum0) ++ plain_marks block0) (word_marks fixed.Else 0) (braced_marks block0) ∙ append_assoc ((((word_marks fixed.If u0) ++ sum_marks l) ++ cmp_marks cmp.Less) ++ sum_marks sum0) (plain_marks block0) (word_marks fixed.Else 0 ++ (braced_marks block0)) ∙ append_assoc (((word_marks fixed.If u0) ++ sum_marks l) ++ cmp_marks cmp.Less) (sum_marks sum0) (plain_marks block0 ++ (word_marks fixed.Else 0 ++ (braced_marks block0))) ∙ append_assoc ((word_marks fixed.If u0) ++ sum_marks l) (cmp_marks cmp.Less) (sum_marks sum0 ++ (plain_marks block0 ++ (word_marks fixed.Else 0 ++ (braced_marks block0))))) (w_l, sum0_ok, block0_ok.0, block0_ok.1, block0_ok.0, block0_ok.1, tt, tt))))
    (λ u0 w_u0. by (AnIf sum0 cmp.Less sum0 block0.block block0.block [] block0.close) ((sum_marks sum0 ++ Plain (cmp_text cmp.Less) ∷ (sum_marks sum0 ++ (plain_marks block0 ++ Plain (fixed_text fixed.Else) ∷ (braced_marks block0 ++ []))))) (sym (if_group sum0 cmp.Less sum0 block0 block0 [] 0 u0 0) ∙ append_assoc (((((word_marks fixed.If u0) ++ sum_marks sum0) ++ cmp_marks cmp.Less) ++ sum_marks sum0) ++ plain_marks block0) (word_marks fixed.Else 0) (braced_marks block0) ∙ append_assoc ((((word_marks fixed.If u0) ++ sum_marks sum0) ++ cmp_marks cmp.Less) ++ sum_marks sum0) (plain_marks block0) (word_marks fixed.Else 0 ++ (braced_marks block0)) ∙ append_assoc (((word_marks fixed.If u0) ++ sum_marks sum0) ++ cmp_marks cmp.Less) (sum_marks sum0) (plain_marks block0 ++ (word_marks fixed.Else 0 ++ (braced_marks block0))) ∙ append_assoc ((word_marks fixed.If u0) ++ sum_marks sum0) (cmp_marks cmp.Less) (sum_marks sum0 ++ (plain_marks block0 ++ (word_marks fixed.Else 0 ++ (braced_marks block0)))) ∙ append_assoc (word_marks fixed.If u0) (sum_marks sum0) (cmp_marks cmp.Less ++ (sum_marks sum0 ++ (plain_marks block0 ++ (word_marks fixed.Else 0 ++ (braced_marks block0)))))) (sum0_ok, sum0_ok, block0_ok.0, block0_ok.1, block0_ok.0, block0_ok.1, tt, tt)))

pub from_head : (terms turns : ℕ) (inner : Parser Braced) → From braced_marks CanSpellBraced [] inner → From head_marks CanSpellHead [] (head terms turns inner)
unfolding head
from_head terms turns inner within =
    from_when _ _ _ (from_cut terms) (from_when _ _ _ (from_let terms) (from_when _ _ _ from_join (from_when _ _ _ from_give (from_when _ _ _ (from_if terms turns inner within) (from_when _ _ _ (from_pick turns) (from_call terms turns))))))

-- the tokens of a statement before others
pub put_marks : (h : Head) (c : Code) → code_marks (put h c) ≡ head_marks h ++ code_marks c
put_marks (ACut a p s l r) c = simp append_assoc
put_marks (ALet n s) c = simp append_assoc
put_marks (AJoin p q n) c = refl
put_marks (AGive p a) c = simp append_assoc
put_marks (AnIf l o r y n xs e) c = simp append_assoc
put_marks (APick a ps ns e) c = simp append_assoc
put_marks (ACall f xs ns e) c = simp append_assoc

spells_put : (h : Head) (c : Code) → CanSpellHead h → CanSpellCode c → CanSpellCode (put h c)
spells_put (ACut a p s l r) c w v = (w.0, w.1, w.2, w.3, w.4, v)
spells_put (ALet n s) c w v = (w.0, w.1, v)
spells_put (AJoin p q n) c w v = (w.0, w.1, w.2, v)
spells_put (AGive p a) c w v = (w.0, w.1, v)
spells_put (AnIf l o r y n xs e) c w v = (w.0, w.1, w.2, w.3, w.4, w.5, w.6, v)
spells_put (APick a ps ns e) c w v = (w.0, w.1, w.2, v)
spells_put (ACall f xs ns e) c w v = (w.0, w.1, w.2, v)

pub spells_puts : (hs : List Head) → Each CanSpellHead hs → CanSpellCode (puts hs End)
spells_puts [] w = tt
spells_puts (h ∷ hs) w = spells_put h (puts hs End) w.0 (spells_puts hs w.1)

abbrev pub heads_marks : List Head → List Mark
heads_marks hs = code_marks (puts hs End)

pub from_heads : (terms turns : ℕ) (inner : Parser Braced) → From braced_marks CanSpellBraced [] inner → From heads_marks (Each CanSpellHead) [] (heads terms turns inner)
unfolding heads
from_heads terms turns inner within = from_many head_marks CanSpellHead heads_marks refl (λ h hs. put_marks h (puts hs End)) Tired starts (head terms turns inner) (from_head terms turns inner within) (λ l t h. absurd l) turns

yield_some : (xs : List Name) → EachOfSome HasName xs → yield_marks xs ≡ Plain (codes "yield") ∷ (tok.listed name_marks xs ++ Plain (codes ";") ∷ [])
yield_some [] w = absurd w
yield_some (x ∷ xs) w = refl

pub from_yields : (turns : ℕ) → From yield_marks (Each HasName) [] (yields turns)
unfolding yields
from_yields turns =
    from_when _ _ _
    (from_bind [] _ _ (from_expect fixed.Yield) (λ u w_u.
    (from_bind _ _ _ (from_names turns) (λ xs w_xs.
    (from_bind _ _ _ (from_expect fixed.Semicolon) (λ v w_v.
    (from_pure xs (sym (yield_some xs w_xs)) (some_names xs w_xs)))
    (λ v w_v. by xs [] (yield_some xs w_xs ∙ sym (append-nil _)) (some_names xs w_xs))))
    (λ xs w_xs. by xs (Plain (codes ";") ∷ []) (yield_some xs w_xs) (some_names xs w_xs))))
    (λ u w_u. by names0 (Spelled name0 ∷ Plain (codes ";") ∷ []) refl names0_ok))
    (from_pure [] refl tt)

from_body : (terms turns : ℕ) (inner : Parser Braced) → From braced_marks CanSpellBraced [] inner → From braced_marks CanSpellBraced [] (body terms turns inner)
unfolding body
from_body terms turns inner within =
    (from_bind [] _ _ (from_expect fixed.OpenBrace) (λ u w_u.
    (from_bind _ _ _ (from_heads terms turns inner within) (λ hs w_hs.
    (from_bind _ _ _ (from_yields turns) (λ ys w_ys.
    (from_bind _ _ _ (from_end fixed.CloseBrace) (λ e w_e.
    (from_pure (record { block = record { code = puts hs End; yields = ys }; close = e }) refl (spells_puts hs w_hs, w_ys)))
    (λ e w_e. by (record { block = record { code = puts hs End; yields = ys }; close = e }) [] (sym (append-nil _)) (spells_puts hs w_hs, w_ys))))
    (λ ys w_ys. by (record { block = record { code = puts hs End; yields = ys }; close = 0 }) (Final (codes "}") 0 ∷ []) refl (spells_puts hs w_hs, w_ys))))
    (λ hs w_hs. by (record { block = record { code = puts hs End; yields = [] }; close = 0 }) (Final (codes "}") 0 ∷ []) (simp append-nil) (spells_puts hs w_hs, tt))))
    (λ u w_u. by block0 (Final (codes "}") 0 ∷ []) refl (tt, tt)))

open_onward : (w : What) (at : ℕ) → is fixed.OpenBrace (record { what = w; at = at }) ≡ true → Onward braced_marks CanSpellBraced [] (record { what = w; at = at })
open_onward (what.Fixed fixed.OpenBrace) at h = record { mark = Plain (codes "{"); is = record { kind = refl; place = tt }; finish = by block0 (Final (codes "}") 0 ∷ []) refl (tt, tt) }
open_onward (what.Fixed c) at h = cc
open_onward (what.Name w) at h = cc
open_onward (what.Number n) at h = cc

pub from_block : (terms turns depth : ℕ) → From braced_marks CanSpellBraced [] (block terms turns depth)
unfolding block
from_block terms turns zero = from_limit [] _ Deep (fail Syntax) (by block0 (braced_marks block0) refl (tt, tt)) (λ l t h. open_onward t.what t.at h) (from_fail Syntax (λ l. l) (by block0 (braced_marks block0) refl (tt, tt)))
from_block terms turns (suc depth) = from_body terms turns _ (from_block terms turns depth)

from_proc : (terms turns depth : ℕ) → From proc_marks CanSpellProc [] (proc terms turns depth)
unfolding proc
from_proc terms turns depth =
    (from_bind [] _ _ (from_expect fixed.Procedure) (λ u0 w_u0.
    (from_bind _ _ _ from_name (λ x w_x.
    (from_bind _ _ _ (from_params turns) (λ ps w_ps.
    (from_bind _ _ _ (from_plain _ (from_block terms turns depth)) (λ b w_b.
    (from_pure (record { name = x; params = ps; body = b.block }) (simp append_assoc) (w_x, w_ps, w_b)))
    (λ b w_b. by (record { name = x; params = ps; body = b.block }) ([]) (simp (append_assoc, append-nil)) (w_x, w_ps, w_b))))
    (λ ps w_ps. by (record { name = x; params = ps; body = block0.block }) ((plain_marks block0 ++ [])) (simp append_assoc) (w_x, w_ps, block0_ok))))
    (λ x w_x. by (record { name = x; params = []; body = block0.block }) ((params_marks [] ++ (plain_marks block0 ++ []))) refl (w_x, tt, block0_ok))))
    (λ u0 w_u0. by (record { name = name0; params = []; body = block0.block }) (Spelled name0 ∷ (params_marks [] ++ (plain_marks block0 ++ []))) refl (name0_ok, tt, block0_ok)))

pub from_procs : (terms turns depth : ℕ) → From procs_marks (Each CanSpellProc) [] (procs terms turns depth)
unfolding procs
from_procs terms turns depth = from_many proc_marks CanSpellProc procs_marks refl (λ p ps. refl) Tired (is fixed.Procedure) (proc terms turns depth) (from_proc terms turns depth) (λ l t h. absurd l) turns

pub from_program : (terms turns depth : ℕ) → From program_marks IsSpellable [] (program terms turns depth)
unfolding program
from_program terms turns depth =
    (from_bind [] _ _ (from_procs terms turns (suc depth)) (λ ps w_ps.
    (from_bind _ _ _ (from_expect fixed.Protocol) (λ u1 w_u1.
    (from_bind _ _ _ from_name (λ x w_x.
    (from_bind _ _ _ (from_expect fixed.Agents) (λ u3 w_u3.
    (from_bind _ _ _ from_number (λ n w_n.
    (from_bind _ _ _ (from_expect fixed.OpenBrace) (λ u5 w_u5.
    (from_bind _ _ _ (from_heads terms turns _ (from_block terms turns depth)) (λ hs w_hs.
    (from_bind _ _ _ (from_expect fixed.CloseBrace) (λ u7 w_u7.
    (from_bind _ _ _ from_finish (λ z w_z.
    (from_pure (record { procs = ps; name = x; agents = n; body = puts hs End }) (simp append_assoc) (w_ps, w_x, w_n, spells_puts hs w_hs)))
    (λ z w_z. by (record { procs = ps; name = x; agents = n; body = puts hs End }) ([]) (simp append_assoc) (w_ps, w_x, w_n, spells_puts hs w_hs))))
    (λ u7 w_u7. by (record { procs = ps; name = x; agents = n; body = puts hs End }) ([]) (simp append_assoc) (w_ps, w_x, w_n, spells_puts hs w_hs))))
    (λ hs w_hs. by (record { procs = ps; name = x; agents = n; body = puts hs End }) (Plain (fixed_text fixed.CloseBrace) ∷ []) (simp append_assoc) (w_ps, w_x, w_n, spells_puts hs w_hs))))
    (λ u5 w_u5. by (record { procs = ps; name = x; agents = n; body = puts [] End }) ((heads_marks [] ++ Plain (fixed_text fixed.CloseBrace) ∷ [])) (simp append_assoc) (w_ps, w_x, w_n, spells_puts [] tt))))
    (λ n w_n. by (record { procs = ps; name = x; agents = n; body = puts [] End }) (Plain (fixed_text fixed.OpenBrace) ∷ (heads_marks [] ++ Plain (fixed_text fixed.CloseBrace) ∷ [])) (simp append_assoc) (w_ps, w_x, w_n, spells_puts [] tt))))
    (λ u3 w_u3. by (record { procs = ps; name = x; agents = num0; body = puts [] End }) (Digits num0 ∷ Plain (fixed_text fixed.OpenBrace) ∷ (heads_marks [] ++ Plain (fixed_text fixed.CloseBrace) ∷ [])) (simp append_assoc) (w_ps, w_x, num0_ok, spells_puts [] tt))))
    (λ x w_x. by (record { procs = ps; name = x; agents = num0; body = puts [] End }) (Plain (fixed_text fixed.Agents) ∷ Digits num0 ∷ Plain (fixed_text fixed.OpenBrace) ∷ (heads_marks [] ++ Plain (fixed_text fixed.CloseBrace) ∷ [])) (simp append_assoc) (w_ps, w_x, num0_ok, spells_puts [] tt))))
    (λ u1 w_u1. by (record { procs = ps; name = name0; agents = num0; body = puts [] End }) (Spelled name0 ∷ Plain (fixed_text fixed.Agents) ∷ Digits num0 ∷ Plain (fixed_text fixed.OpenBrace) ∷ (heads_marks [] ++ Plain (fixed_text fixed.CloseBrace) ∷ [])) (simp append_assoc) (w_ps, name0_ok, num0_ok, spells_puts [] tt))))
    (λ ps w_ps. by (record { procs = ps; name = name0; agents = num0; body = puts [] End }) (Plain (fixed_text fixed.Protocol) ∷ Spelled name0 ∷ Plain (fixed_text fixed.Agents) ∷ Digits num0 ∷ Plain (fixed_text fixed.OpenBrace) ∷ (heads_marks [] ++ Plain (fixed_text fixed.CloseBrace) ∷ [])) refl (w_ps, name0_ok, num0_ok, spells_puts [] tt)))
