-- What each rule of statements, blocks and programs reads.
use Rattle.std.proofs.Common.{◌≡◌, ℕ, zero, suc, true, false, ◌≤◌, length, List, [], ◌∷◌, ◌++◌, refl, ap, sym, ◌∙◌, append_assoc, append-nil, codes}
use Rattle.slice_ast.specs.Code.{Code, End, Cut, Let, Join, Give, If, Pick, Call, PlainBlock, PlainProc, PlainProgram, Head, ACut, ALet, AJoin, AGive, AnIf, APick, ACall, put, puts}
use Rattle.slice_ast.specs.Tokens.{Mark, Plain, Spelled, Final, listed as listed_marks, name_marks, names_after, ref_marks, sum_marks, cmp_text, arg_marks, param_marks, yield_marks, test_marks, code_marks, head_marks, open_marks, block_marks, proc_marks, procs_marks, program_marks}
use Rattle.slice_ast.specs.Tokens as tok
use Rattle.slice_ast.specs.declared.tree.Name.{Name}
use Rattle.slice_ast.specs.declared.tree.Sum.{Sum}
use Rattle.slice_ast.specs.declared.tree.AgentRef.{AgentRef}
use Rattle.slice_ast.specs.declared.tree.Cmp.{Cmp}
use Rattle.slice_ast.specs.declared.tree.Cmp.TheVariants as cmp
use Rattle.slice_ast.specs.declared.tree.Arg.{Arg}
use Rattle.slice_parse.specs.declared.lexeme.Fixed.TheVariants as fixed
use Rattle.slice_parse.specs.declared.lexeme.What.TheVariants as what
use Rattle.slice_parse.specs.Combinators.{Token, and_then, Good, Parser, Tired, pure, next_is, many, finish}
use Rattle.slice_parse.specs.Lexemes.{is, is_what, starts, starts_what}
use Rattle.slice_ast.specs.Spellable.{Each}
use Rattle.slice_parse.proofs.Matching.{Matches, what_of, is_at}
use Rattle.slice_parse.proofs.DoneSteps.{Done, Free, Not, done_marks, done_less, done_turn, done_bind, then_is, last, done_true, done_false, by_mark, done_many}
use Rattle.slice_parse.proofs.DoneSums.{leaf_is, leaf_any, leaf_last_is, leaf_last_any, done_word, done_end, done_closing, done_name, done_number, done_ref, done_cmp, AfterSum, sum_then, done_absent, SumFits, done_sum, FitsList, FitsSome, done_names, AfterAs, done_as_names, done_params, FitsArg, done_args, absent_is}
use Rattle.slice_parse.proofs.FromStatements.{put_marks}
use Rattle.slice_parse.specs.declared.statements.Ended.{Ended}
use Rattle.slice_parse.specs.Rules.{cut_head, let_head, join_head, give_head, pick_head, call_head, if_end, Braced, if_head, head, heads, yields, body, block, proc, procs, program}

names_then : {m : Mark} {ms : List Mark} (G : List Token → Type 0) → is_what fixed.Comma (what_of m) ≡ false → (us r : List Token) → Matches (m ∷ ms) us → G r → Not (is fixed.Comma) (us ++ r)
names_then G a us r m g = by_mark (is_what fixed.Comma) false a us r m

done_cut : {F : List Token → Type 0} (t : ℕ) (a : AgentRef) (p : Name) (s : Sum) (l r : Name) → SumFits t s.terms → Done F (cut_head t) (head_marks (ACut a p s l r)) (λ h. h ≡ ACut a p s l r)
unfolding cut_head
done_cut t a p s l r ws = (leaf_any _ _ (done_word fixed.Cut) (λ u4. (leaf_is _ _ (a) (done_ref a) (leaf_is _ _ (p) (done_name p) (leaf_any _ _ (done_word fixed.At) (λ u3. (then_is _ _ (s) (done_sum t s ws) (leaf_any _ _ (done_word fixed.As) (λ u2. (leaf_is _ _ (l) (done_name l) (leaf_any _ _ (done_word fixed.Comma) (λ u1. (leaf_is _ _ (r) (done_name r) (leaf_last_any _ _ (ACut a p s l r) (done_word fixed.Semicolon) (λ a r. refl) refl))))))) (sum_then _ refl refl refl))))))))

done_let : {F : List Token → Type 0} (t : ℕ) (x : Name) (s : Sum) → SumFits t s.terms → Done F (let_head t) (head_marks (ALet x s)) (λ h. h ≡ ALet x s)
unfolding let_head
done_let t x s ws = (leaf_any _ _ (done_word fixed.Let) (λ u6. (leaf_is _ _ (x) (done_name x) (leaf_any _ _ (done_word fixed.Equals) (λ u5. (then_is _ _ (s) (done_sum t s ws) (leaf_last_any _ _ (ALet x s) (done_word fixed.Semicolon) (λ a r. refl) refl) (sum_then _ refl refl refl)))))))

done_join : {F : List Token → Type 0} (p q x : Name) → Done F join_head (head_marks (AJoin p q x)) (λ h. h ≡ AJoin p q x)
unfolding join_head
done_join p q x = (leaf_any _ _ (done_word fixed.Join) (λ u9. (leaf_is _ _ (p) (done_name p) (leaf_any _ _ (done_word fixed.Comma) (λ u8. (leaf_is _ _ (q) (done_name q) (leaf_any _ _ (done_word fixed.As) (λ u7. (leaf_is _ _ (x) (done_name x) (leaf_last_any _ _ (AJoin p q x) (done_word fixed.Semicolon) (λ a r. refl) refl))))))))))

done_give : {F : List Token → Type 0} (p : Name) (a : AgentRef) → Done F give_head (head_marks (AGive p a)) (λ h. h ≡ AGive p a)
unfolding give_head
done_give p a = (leaf_any _ _ (done_word fixed.Give) (λ u11. (leaf_is _ _ (p) (done_name p) (leaf_any _ _ (done_word fixed.To) (λ u10. (leaf_is _ _ (a) (done_ref a) (leaf_last_any _ _ (AGive p a) (done_word fixed.Semicolon) (λ a r. refl) refl)))))))

some_after : (n : ℕ) (word : List ℕ) (xs : List Name) → FitsSome n xs → names_after word xs ≡ Plain word ∷ listed_marks name_marks xs
some_after n word [] w = absurd w
some_after n word (x ∷ xs) w = refl

pick_marks : (n : ℕ) (a : AgentRef) (ps xs : List Name) (e : ℕ) → FitsSome n ps → FitsSome n xs → head_marks (APick a ps xs e)
    ≡ Plain (codes "pick") ∷ (ref_marks a ++ (Plain (codes "from") ∷ (listed_marks name_marks ps ++ (Plain (codes "as") ∷ (listed_marks name_marks xs ++ Final (codes ";") e ∷ [])))))
pick_marks n a ps xs e w v =
    ap (λ ms. Plain (codes "pick") ∷ (ref_marks a ++ (ms ++ (names_after (codes "as") xs ++ Final (codes ";") e ∷ [])))) (some_after n (codes "from") ps w)
    ∙ ap (λ ms. Plain (codes "pick") ∷ (ref_marks a ++ (Plain (codes "from") ∷ (listed_marks name_marks ps ++ (ms ++ Final (codes ";") e ∷ []))))) (some_after n (codes "as") xs v)

done_pick : {F : List Token → Type 0} (n : ℕ) (a : AgentRef) (ps xs : List Name) (e : ℕ) → FitsSome n ps → FitsSome n xs → Done F (pick_head n) (head_marks (APick a ps xs e)) (λ h. h ≡ APick a ps xs e)
unfolding pick_head
done_pick n a ps xs e wps wxs = done_marks _ _ (pick_marks n a ps xs e wps wxs) (leaf_any _ _ (done_word fixed.Pick) (λ u14. (leaf_is _ _ (a) (done_ref a) (leaf_any _ _ (done_word fixed.From) (λ u13. (then_is _ _ (ps) (done_names n ps wps) (leaf_any _ _ (done_word fixed.As) (λ u12. (then_is _ _ (xs) (done_names n xs wxs) (leaf_last_is _ _ (e) (APick a ps xs e) (done_end fixed.Semicolon e) (λ r. refl) refl) (names_then _ refl)))) (names_then _ refl)))))))

as_then : {m : Mark} {ms : List Mark} (G : List Token → Type 0) → is_what fixed.As (what_of m) ≡ false → is_what fixed.Comma (what_of m) ≡ false → (us r : List Token) → Matches (m ∷ ms) us → G r → AfterAs (us ++ r)
as_then G a b us r m g = (by_mark (is_what fixed.As) false a us r m, by_mark (is_what fixed.Comma) false b us r m)

call_marks : (f : Name) (xs : List Arg) (ns : List Name) (e : ℕ) → head_marks (ACall f xs ns e)
    ≡ Plain (codes "call") ∷ Spelled f ∷ ((Plain (codes "(") ∷ (listed_marks arg_marks xs ++ Plain (codes ")") ∷ [])) ++ (names_after (codes "as") ns ++ Final (codes ";") e ∷ []))
call_marks f xs ns e = ap (λ ms. Plain (codes "call") ∷ Spelled f ∷ Plain (codes "(") ∷ ms) (sym (append_assoc (listed_marks arg_marks xs) (Plain (codes ")") ∷ []) (names_after (codes "as") ns ++ Final (codes ";") e ∷ [])))

done_call : {F : List Token → Type 0} (t n : ℕ) (f : Name) (xs : List Arg) (ns : List Name) (e : ℕ) → Each (FitsArg t) xs → FitsList n xs → FitsList n ns → Done F (call_head t n) (head_marks (ACall f xs ns e)) (λ h. h ≡ ACall f xs ns e)
unfolding call_head
done_call t n f xs ns e wxs lxs wns = done_marks _ _ (call_marks f xs ns e) (leaf_any _ _ (done_word fixed.Call) (λ u15. (leaf_is _ _ (f) (done_name f) (then_is _ _ (xs) (done_args {F = Free} t n xs wxs lxs) (then_is _ _ (ns) (done_as_names n ns wns) (leaf_last_is _ _ (e) (ACall f xs ns e) (done_end fixed.Semicolon e) (λ r. refl) refl) (as_then _ refl refl)) (λ us r m g. tt)))))

abbrev pub NoAs : List Token → Type 0
NoAs r = Not (is fixed.As) r

-- the end of an `if`, behind the brace that closes its second block
abbrev end_tail : List Name → ℕ → List Mark
end_tail [] e = []
end_tail (x ∷ xs) e = Plain (codes "as") ∷ (listed_marks name_marks (x ∷ xs) ++ Final (codes ";") e ∷ [])

-- that brace
abbrev end_brace : List Name → ℕ → Mark
end_brace [] e = Final (codes "}") e
end_brace (x ∷ xs) e = Plain (codes "}")

end_marks : (xs : List Name) (e : ℕ) → tok.if_end xs e ++ [] ≡ (end_brace xs e ∷ []) ++ end_tail xs e
end_marks [] e = refl
end_marks (x ∷ xs) e = append-nil (tok.if_end (x ∷ xs) e)

brace_closes : (xs : List Name) (e : ℕ) → what_of (end_brace xs e) ≡ what.Fixed fixed.CloseBrace
brace_closes [] e = refl
brace_closes (x ∷ xs) e = refl

abbrev EndIs : List Name → ℕ → Ended → Type 0
EndIs xs e z = (z.names ≡ xs) × (z.end ≡ e)

done_if_end : (n : ℕ) (xs : List Name) (e close : ℕ) → FitsList n xs → is_at (end_brace xs e) close → Done NoAs (if_end n close) (end_tail xs e) (EndIs xs e)
unfolding if_end
done_if_end n [] e close w at = absent_is (is fixed.As) _ (record { names = []; end = close }) (refl, sym at) (λ r f. f)
done_if_end n (x ∷ xs) e close w at =
    done_true (is fixed.As) _ _ (λ us r m f. by_mark (is_what fixed.As) true refl us r m)
    (leaf_any _ _ (done_word fixed.As) (λ u. then_is _ _ (x ∷ xs) (done_names n (x ∷ xs) w)
    (leaf_last_is _ _ e (record { names = x ∷ xs; end = e }) (done_end fixed.Semicolon e) (λ r. refl) (refl, refl)) (names_then _ refl)))

-- a block, whose closing brace has this mark
abbrev pub IsBraced : PlainBlock → Mark → Braced → Type 0
IsBraced b c a = (a.block ≡ b) × is_at c a.close

abbrev closed_marks : PlainBlock → Mark → List Mark
closed_marks b c = open_marks b ++ c ∷ []

shape_if : (i sl so sr oa ca ya ea el ob cb yb zc zz : List Mark) → (i ++ (sl ++ (so ++ sr))) ++ (oa ++ (ca ++ (ya ++ (ea ++ (el ++ (ob ++ (cb ++ (yb ++ (zc ++ zz))))))))) ≡ i ++ (sl ++ (so ++ (sr ++ (((oa ++ (ca ++ ya)) ++ ea) ++ (el ++ (((ob ++ (cb ++ yb)) ++ zc) ++ zz))))))
shape_if i sl so sr oa ca ya ea el ob cb yb zc zz = simp append_assoc

if_marks : (l : Sum) (o : Cmp) (r : Sum) (y n : PlainBlock) (xs : List Name) (e : ℕ) → head_marks (AnIf l o r y n xs e)
    ≡ Plain (codes "if") ∷ (sum_marks l ++ (Plain (cmp_text o) ∷ (sum_marks r ++ (closed_marks y (Plain (codes "}")) ++ (Plain (codes "else") ∷ (closed_marks n (end_brace xs e) ++ end_tail xs e))))))
if_marks l o r y n xs e =
    ap (λ ms. test_marks l o r ++ Plain (codes "{") ∷ (code_marks y.code ++ (yield_marks y.yields ++ Plain (codes "}") ∷ Plain (codes "else") ∷ Plain (codes "{") ∷ (code_marks n.code ++ (yield_marks n.yields ++ ms))))) (end_marks xs e)
    ∙ shape_if (Plain (codes "if") ∷ []) (sum_marks l) (Plain (cmp_text o) ∷ []) (sum_marks r) (Plain (codes "{") ∷ []) (code_marks y.code) (yield_marks y.yields) (Plain (codes "}") ∷ []) (Plain (codes "else") ∷ []) (Plain (codes "{") ∷ []) (code_marks n.code) (yield_marks n.yields) (end_brace xs e ∷ []) (end_tail xs e)

cmp_then : (o : Cmp) {ms : List Mark} (G : List Token → Type 0) (us r : List Token) → Matches (Plain (cmp_text o) ∷ ms) us → G r → AfterSum (us ++ r)
cmp_then cmp.Less G us r m g = sum_then G refl refl refl us r m g
cmp_then cmp.AtMost G us r m g = sum_then G refl refl refl us r m g
cmp_then cmp.More G us r m g = sum_then G refl refl refl us r m g
cmp_then cmp.AtLeast G us r m g = sum_then G refl refl refl us r m g

done_if : (t n : ℕ) (inner : Parser Braced) (l : Sum) (o : Cmp) (r : Sum) (y b : PlainBlock) (xs : List Name) (e : ℕ) → SumFits t l.terms → SumFits t r.terms → FitsList n xs
    → Done Free inner (closed_marks y (Plain (codes "}"))) (IsBraced y (Plain (codes "}"))) → Done Free inner (closed_marks b (end_brace xs e)) (IsBraced b (end_brace xs e))
    → Done NoAs (if_head t n inner) (head_marks (AnIf l o r y b xs e)) (λ h. h ≡ AnIf l o r y b xs e)
unfolding if_head
done_if t n inner l o r y b xs e wl wr wxs first second =
    done_marks _ _ (if_marks l o r y b xs e)
    (leaf_any _ _ (done_word fixed.If) (λ u.
    then_is _ _ l (done_sum t l wl)
    (leaf_is _ _ o (done_cmp o)
    (then_is _ _ r (done_sum t r wr)
    (done_bind _ _ first (λ a is_a.
    leaf_any _ _ (done_word fixed.Else) (λ v.
    done_bind _ _ second (λ c is_c.
    last _ _ (done_if_end n xs e c.close wxs is_c.1) (λ z is_z s f. record {
      value = AnIf l o r a.block c.block z.names z.end;
      got = refl;
      is =
          let p : a.block ≡ y = is_a.0 in let q : c.block ≡ b = is_c.0 in let u : z.names ≡ xs = is_z.0 in let w : z.end ≡ e = is_z.1 in cc;
    }))
    (λ us s m g. tt)))
    (λ us s m g. tt))
    (sum_then _ refl refl refl)))
    (cmp_then o _)))

-- ---- blocks

-- what fits limits: t terms after the first, n turns, d blocks, one inside the other, and k statements in a row
abbrev pub FitsCode : ℕ → ℕ → ℕ → ℕ → Code → Type 0
FitsCode t n d k End = Unit {0}
FitsCode t n d zero (Cut a p s l r rest) = ⊥
FitsCode t n d (suc k) (Cut a p s l r rest) = SumFits t s.terms × FitsCode t n d k rest
FitsCode t n d zero (Let x s rest) = ⊥
FitsCode t n d (suc k) (Let x s rest) = SumFits t s.terms × FitsCode t n d k rest
FitsCode t n d zero (Join p q x rest) = ⊥
FitsCode t n d (suc k) (Join p q x rest) = FitsCode t n d k rest
FitsCode t n d zero (Give p a rest) = ⊥
FitsCode t n d (suc k) (Give p a rest) = FitsCode t n d k rest
FitsCode t n d zero (If l o r y ys b bs xs e rest) = ⊥
FitsCode t n zero (suc k) (If l o r y ys b bs xs e rest) = ⊥
FitsCode t n (suc d) (suc k) (If l o r y ys b bs xs e rest) =
    SumFits t l.terms × (SumFits t r.terms × (FitsCode t n d n y × (FitsList n ys × (FitsCode t n d n b × (FitsList n bs × (FitsList n xs × FitsCode t n (suc d) k rest))))))
FitsCode t n d zero (Pick a ps xs e rest) = ⊥
FitsCode t n d (suc k) (Pick a ps xs e rest) = FitsSome n ps × (FitsSome n xs × FitsCode t n d k rest)
FitsCode t n d zero (Call f xs ns e rest) = ⊥
FitsCode t n d (suc k) (Call f xs ns e rest) = Each (FitsArg t) xs × (FitsList n xs × (FitsList n ns × FitsCode t n d k rest))

-- no statement goes on here
abbrev pub Stops : List Token → Type 0
Stops r = Not starts r × NoAs r

IsCode : Code → List Head → Type 0
IsCode c hs = puts hs End ≡ c

-- whatever statement comes next, it isn't `as`
code_no_as : (c : Code) (us r : List Token) → Matches (code_marks c) us → Stops r → NoAs (us ++ r)
code_no_as End [] r m f = f.1
code_no_as End (t ∷ us) r m f = elim m [ ]
code_no_as (Cut a p s l r1 rest) us r m f = by_mark (is_what fixed.As) false refl us r m
code_no_as (Let x s rest) us r m f = by_mark (is_what fixed.As) false refl us r m
code_no_as (Join p q x rest) us r m f = by_mark (is_what fixed.As) false refl us r m
code_no_as (Give p a rest) us r m f = by_mark (is_what fixed.As) false refl us r m
code_no_as (If l o r1 y ys b bs xs e rest) us r m f = by_mark (is_what fixed.As) false refl us r m
code_no_as (Pick a ps xs e rest) us r m f = by_mark (is_what fixed.As) false refl us r m
code_no_as (Call g xs ns e rest) us r m f = by_mark (is_what fixed.As) false refl us r m

head_starts : (h : Head) (ms : List Mark) (us r : List Token) → Matches (head_marks h ++ ms) us → next_is starts (us ++ r) ≡ true
head_starts (ACut a p s l r1) ms us r m = by_mark starts_what true refl us r m
head_starts (ALet x s) ms us r m = by_mark starts_what true refl us r m
head_starts (AJoin p q x) ms us r m = by_mark starts_what true refl us r m
head_starts (AGive p a) ms us r m = by_mark starts_what true refl us r m
head_starts (AnIf l o r1 y n xs e) ms us r m = by_mark starts_what true refl us r m
head_starts (APick a ps xs e) ms us r m = by_mark starts_what true refl us r m
head_starts (ACall f xs ns e) ms us r m = by_mark starts_what true refl us r m

-- a statement and those after it
turn : (t n k : ℕ) (inner : Parser Braced) (h : Head) (rest : Code) → Done NoAs (head t n inner) (head_marks h) (λ x. x ≡ h)
    → Done Stops (many Tired starts (head t n inner) k) (code_marks rest) (IsCode rest) → Done Stops (many Tired starts (head t n inner) (suc k)) (code_marks (put h rest)) (IsCode (put h rest))
unfolding many IsCode
turn t n k inner h rest one others =
    done_marks _ _ (put_marks h rest)
    (done_true starts _ _ (λ us r m f. head_starts h (code_marks rest) us r m)
    (then_is _ _ h one
    (last _ _ others (λ hs is_hs r f. record { value = h ∷ hs; got = refl; is = ap (put h) is_hs }))
    (code_no_as rest)))

none_more : (t n k : ℕ) (inner : Parser Braced) → Done Stops (many Tired starts (head t n inner) k) [] (IsCode End)
unfolding many IsCode
none_more t n zero inner = done_turn (λ hs e. ap (λ xs. puts xs End) e) (done_absent starts _ [] (λ r f. f.0))
none_more t n (suc k) inner = done_turn (λ hs e. ap (λ xs. puts xs End) e) (done_absent starts _ [] (λ r f. f.0))

-- the tests before this one fail, and this one passes
module _ (t n : ℕ) (inner : Parser Braced) where
  head_cut : (a : AgentRef) (p : Name) (s : Sum) (l r : Name) → SumFits t s.terms → Done NoAs (head t n inner) (head_marks (ACut a p s l r)) (λ h. h ≡ ACut a p s l r)
  unfolding head
  head_cut a p s l r w = done_true (is fixed.Cut) _ _ (λ us r m f. by_mark (is_what fixed.Cut) true refl us r m) (done_cut t a p s l r w)

  head_let : (x : Name) (s : Sum) → SumFits t s.terms → Done NoAs (head t n inner) (head_marks (ALet x s)) (λ h. h ≡ ALet x s)
  unfolding head
  head_let x s w = (done_false (is fixed.Cut) _ _ (λ us r m f. by_mark (is_what fixed.Cut) false refl us r m) (done_true (is fixed.Let) _ _ (λ us r m f. by_mark (is_what fixed.Let) true refl us r m) (done_let t x s w)))

  head_join : (p q x : Name) → Done NoAs (head t n inner) (head_marks (AJoin p q x)) (λ h. h ≡ AJoin p q x)
  unfolding head
  head_join p q x = (done_false (is fixed.Cut) _ _ (λ us r m f. by_mark (is_what fixed.Cut) false refl us r m) (done_false (is fixed.Let) _ _ (λ us r m f. by_mark (is_what fixed.Let) false refl us r m) (done_true (is fixed.Join) _ _ (λ us r m f. by_mark (is_what fixed.Join) true refl us r m) (done_join p q x))))

  head_give : (p : Name) (a : AgentRef) → Done NoAs (head t n inner) (head_marks (AGive p a)) (λ h. h ≡ AGive p a)
  unfolding head
  head_give p a = (done_false (is fixed.Cut) _ _ (λ us r m f. by_mark (is_what fixed.Cut) false refl us r m) (done_false (is fixed.Let) _ _ (λ us r m f. by_mark (is_what fixed.Let) false refl us r m) (done_false (is fixed.Join) _ _ (λ us r m f. by_mark (is_what fixed.Join) false refl us r m) (done_true (is fixed.Give) _ _ (λ us r m f. by_mark (is_what fixed.Give) true refl us r m) (done_give p a)))))

  head_if : (l : Sum) (o : Cmp) (r1 : Sum) (y b : PlainBlock) (xs : List Name) (e : ℕ) → Done NoAs (if_head t n inner) (head_marks (AnIf l o r1 y b xs e)) (λ h. h ≡ AnIf l o r1 y b xs e) → Done NoAs (head t n inner) (head_marks (AnIf l o r1 y b xs e)) (λ h. h ≡ AnIf l o r1 y b xs e)
  unfolding head
  head_if l o r1 y b xs e one = (done_false (is fixed.Cut) _ _ (λ us r m f. by_mark (is_what fixed.Cut) false refl us r m) (done_false (is fixed.Let) _ _ (λ us r m f. by_mark (is_what fixed.Let) false refl us r m) (done_false (is fixed.Join) _ _ (λ us r m f. by_mark (is_what fixed.Join) false refl us r m) (done_false (is fixed.Give) _ _ (λ us r m f. by_mark (is_what fixed.Give) false refl us r m) (done_true (is fixed.If) _ _ (λ us r m f. by_mark (is_what fixed.If) true refl us r m) one)))))

  head_pick : (a : AgentRef) (ps xs : List Name) (e : ℕ) → FitsSome n ps → FitsSome n xs → Done NoAs (head t n inner) (head_marks (APick a ps xs e)) (λ h. h ≡ APick a ps xs e)
  unfolding head
  head_pick a ps xs e w v = (done_false (is fixed.Cut) _ _ (λ us r m f. by_mark (is_what fixed.Cut) false refl us r m) (done_false (is fixed.Let) _ _ (λ us r m f. by_mark (is_what fixed.Let) false refl us r m) (done_false (is fixed.Join) _ _ (λ us r m f. by_mark (is_what fixed.Join) false refl us r m) (done_false (is fixed.Give) _ _ (λ us r m f. by_mark (is_what fixed.Give) false refl us r m) (done_false (is fixed.If) _ _ (λ us r m f. by_mark (is_what fixed.If) false refl us r m) (done_true (is fixed.Pick) _ _ (λ us r m f. by_mark (is_what fixed.Pick) true refl us r m) (done_pick n a ps xs e w v)))))))

  head_call : (f : Name) (xs : List Arg) (ns : List Name) (e : ℕ) → Each (FitsArg t) xs → FitsList n xs → FitsList n ns → Done NoAs (head t n inner) (head_marks (ACall f xs ns e)) (λ h. h ≡ ACall f xs ns e)
  unfolding head
  head_call f xs ns e w l v = (done_false (is fixed.Cut) _ _ (λ us r m f. by_mark (is_what fixed.Cut) false refl us r m) (done_false (is fixed.Let) _ _ (λ us r m f. by_mark (is_what fixed.Let) false refl us r m) (done_false (is fixed.Join) _ _ (λ us r m f. by_mark (is_what fixed.Join) false refl us r m) (done_false (is fixed.Give) _ _ (λ us r m f. by_mark (is_what fixed.Give) false refl us r m) (done_false (is fixed.If) _ _ (λ us r m f. by_mark (is_what fixed.If) false refl us r m) (done_false (is fixed.Pick) _ _ (λ us r m f. by_mark (is_what fixed.Pick) false refl us r m) (done_call t n f xs ns e w l v)))))))

done_yields : (n : ℕ) (xs : List Name) → FitsList n xs → Done (Not (is fixed.Yield)) (yields n) (yield_marks xs) (λ ys. ys ≡ xs)
unfolding yields
done_yields n [] w = done_absent (is fixed.Yield) _ [] (λ r f. f)
done_yields n (x ∷ xs) w = (done_true (is fixed.Yield) _ _ (λ us r m f. by_mark (is_what fixed.Yield) true refl us r m) (leaf_any _ _ (done_word fixed.Yield) (λ u. then_is _ _ (x ∷ xs) (done_names n (x ∷ xs) w) (leaf_last_any _ _ (x ∷ xs) (done_word fixed.Semicolon) (λ a r. refl) refl) (names_then _ refl))))

yield_stops : (xs : List Name) (c : Mark) → what_of c ≡ what.Fixed fixed.CloseBrace → (us r : List Token) → Matches (yield_marks xs ++ c ∷ []) us → Stops (us ++ r)
yield_stops [] c e us r m = (by_mark starts_what false (ap starts_what e) us r m, by_mark (is_what fixed.As) false (ap (is_what fixed.As) e) us r m)
yield_stops (x ∷ xs) c e us r m = (by_mark starts_what false refl us r m, by_mark (is_what fixed.As) false refl us r m)

closed_group : (b : PlainBlock) (c : Mark) → closed_marks b c ≡ Plain (codes "{") ∷ (code_marks b.code ++ (yield_marks b.yields ++ c ∷ []))
closed_group b c = ap (λ ms. Plain (codes "{") ∷ ms) (append_assoc (code_marks b.code) (yield_marks b.yields) (c ∷ []))

done_body : (t n : ℕ) (inner : Parser Braced) (b : PlainBlock) (c : Mark) → what_of c ≡ what.Fixed fixed.CloseBrace → FitsList n b.yields
    → Done Stops (many Tired starts (head t n inner) n) (code_marks b.code) (IsCode b.code) → Done Free (body t n inner) (closed_marks b c) (IsBraced b c)
unfolding body heads IsCode
done_body t n inner b c e w stmts =
    done_marks _ _ (closed_group b c)
    (leaf_any _ _ (done_word fixed.OpenBrace) (λ u.
    done_bind _ _ stmts (λ hs is_hs.
    then_is _ _ b.yields (done_yields n b.yields w)
    (last _ _ (done_closing c e) (λ z is_z r f. record { value = record { block = record { code = puts hs End; yields = b.yields }; close = z }; got = refl; is = (ap (λ x. record { code = x; yields = b.yields }) is_hs, is_z) }))
    (λ us r m g. by_mark (is_what fixed.Yield) false (ap (is_what fixed.Yield) e) us r m))
    (λ us r m g. yield_stops b.yields c e us r m)))

in_block : (t n d : ℕ) (b : PlainBlock) (c : Mark) → what_of c ≡ what.Fixed fixed.CloseBrace → FitsList n b.yields → Done Stops (many Tired starts (head t n (block t n d)) n) (code_marks b.code) (IsCode b.code) → Done Free (block t n (suc d)) (closed_marks b c) (IsBraced b c)
unfolding block
in_block t n d b c e v stmts = done_body t n (block t n d) b c e v stmts

module _ (t n : ℕ) where
  done_code : (c : Code) (d k : ℕ) → FitsCode t n d k c → Done Stops (many Tired starts (head t n (block t n d)) k) (code_marks c) (IsCode c)
  done_code End d k w = none_more t n k (block t n d)
  done_code (Cut a p s l r rest) d zero w = absurd w
  done_code (Cut a p s l r rest) d (suc k) w = turn t n k _ (ACut a p s l r) rest (head_cut t n _ a p s l r w.0) (done_code rest d k w.1)
  done_code (Let x s rest) d zero w = absurd w
  done_code (Let x s rest) d (suc k) w = turn t n k _ (ALet x s) rest (head_let t n _ x s w.0) (done_code rest d k w.1)
  done_code (Join p q x rest) d zero w = absurd w
  done_code (Join p q x rest) d (suc k) w = turn t n k _ (AJoin p q x) rest (head_join t n _ p q x) (done_code rest d k w)
  done_code (Give p a rest) d zero w = absurd w
  done_code (Give p a rest) d (suc k) w = turn t n k _ (AGive p a) rest (head_give t n _ p a) (done_code rest d k w)
  done_code (If l o r y ys b bs xs e rest) d zero w = absurd w
  done_code (If l o r y ys b bs xs e rest) zero (suc k) w = absurd w
  done_code (If l o r y ys b bs xs e rest) (suc d) (suc k) w =
      turn t n k _ (AnIf l o r (record { code = y; yields = ys }) (record { code = b; yields = bs }) xs e) rest
      (head_if t n _ l o r (record { code = y; yields = ys }) (record { code = b; yields = bs }) xs e
      (done_if t n _ l o r (record { code = y; yields = ys }) (record { code = b; yields = bs }) xs e w.0 w.1.0 w.1.1.1.1.1.1.0
      (in_block t n d (record { code = y; yields = ys }) (Plain (codes "}")) refl w.1.1.1.0 (done_code y d n w.1.1.0))
      (in_block t n d (record { code = b; yields = bs }) (end_brace xs e) (brace_closes xs e) w.1.1.1.1.1.0 (done_code b d n w.1.1.1.1.0))))
      (done_code rest (suc d) k w.1.1.1.1.1.1.1)
  done_code (Pick a ps xs e rest) d zero w = absurd w
  done_code (Pick a ps xs e rest) d (suc k) w = turn t n k _ (APick a ps xs e) rest (head_pick t n _ a ps xs e w.0 w.1.0) (done_code rest d k w.1.1)
  done_code (Call f xs ns e rest) d zero w = absurd w
  done_code (Call f xs ns e rest) d (suc k) w = turn t n k _ (ACall f xs ns e) rest (head_call t n _ f xs ns e w.0 w.1.0 w.1.1.0) (done_code rest d k w.1.1.1)

  pub done_block : (d : ℕ) (b : PlainBlock) (c : Mark) → what_of c ≡ what.Fixed fixed.CloseBrace → FitsList n b.yields → FitsCode t n d n b.code → Done Free (block t n (suc d)) (closed_marks b c) (IsBraced b c)
  done_block d b c e v w = in_block t n d b c e v (done_code b.code d n w)

-- ---- programs

abbrev pub FitsProc : ℕ → ℕ → ℕ → PlainProc → Type 0
FitsProc t n d p = FitsList n p.params × (FitsList n p.body.yields × FitsCode t n d n p.body.code)

proc_group : (p : PlainProc) → proc_marks p ≡ Plain (codes "procedure") ∷ Spelled p.name ∷ ((Plain (codes "(") ∷ (listed_marks param_marks p.params ++ Plain (codes ")") ∷ [])) ++ block_marks p.body)
proc_group p = ap (λ ms. Plain (codes "procedure") ∷ Spelled p.name ∷ Plain (codes "(") ∷ ms) (sym (append_assoc (listed_marks param_marks p.params) (Plain (codes ")") ∷ []) (block_marks p.body)))

done_proc : (t n d : ℕ) (p : PlainProc) → FitsProc t n d p → Done Free (proc t n (suc d)) (proc_marks p) (λ q. q ≡ p)
unfolding proc
done_proc t n d p w =
    done_marks _ _ (proc_group p)
    (leaf_any _ _ (done_word fixed.Procedure) (λ u. leaf_is _ _ p.name (done_name p.name) (then_is _ _ p.params (done_params {F = Free} n p.params w.0)
    (last _ _ (done_block t n d p.body (Plain (codes "}")) refl w.1.0 w.1.1) (λ b is_b r f. record { value = record { name = p.name; params = p.params; body = b.block }; got = refl; is = ap (λ x. record { name = p.name; params = p.params; body = x }) is_b.0 }))
    (λ us r m g. tt))))

abbrev pub FitsProgram : ℕ → ℕ → ℕ → PlainProgram → Type 0
FitsProgram t n d p = Each (FitsProc t n d) p.procs × ((length p.procs ≤ n) × FitsCode t n d n p.body)

abbrev NoProc : List Token → Type 0
NoProc r = Not (is fixed.Procedure) r

abbrev AtEnd : List Token → Type 0
AtEnd r = r ≡ []

pub done_program : (t n d : ℕ) (p : PlainProgram) → FitsProgram t n d p → Done AtEnd (program t n d) (program_marks p) (λ q. q ≡ p)
unfolding program procs heads IsCode
done_program t n d p w =
    then_is _ _ p.procs (done_many {F = NoProc} {Fi = Free} proc_marks (FitsProc t n d) procs_marks refl (λ q qs. refl) Tired (is fixed.Procedure) (proc t n (suc d))
    (λ q v. done_proc t n d q v) (λ q v us r m. by_mark (is_what fixed.Procedure) true refl us r m) (λ q v us r m. tt) (λ r f. f) (λ r f. tt) p.procs w.0 n w.1.0)
    (leaf_any _ _ (done_word fixed.Protocol) (λ u0. leaf_is _ _ p.name (done_name p.name) (leaf_any _ _ (done_word fixed.Agents) (λ u1. leaf_is _ _ p.agents (done_number p.agents)
    (leaf_any _ _ (done_word fixed.OpenBrace) (λ u2. done_bind _ _ (done_code t n p.body d n w.1.1) (λ hs is_hs.
    last _ _ (done_less (λ r f. tt) (done_word fixed.CloseBrace)) (λ u3 any r f. record {
      value = record { procs = p.procs; name = p.name; agents = p.agents; body = puts hs End };
      got = ap (λ ts. and_then (finish ts) (λ z. pure (record { procs = p.procs; name = p.name; agents = p.agents; body = puts hs End }))) f ∙ ap (λ ts. Good (record { procs = p.procs; name = p.name; agents = p.agents; body = puts hs End }) ts) (sym f);
      is = ap (λ x. record { procs = p.procs; name = p.name; agents = p.agents; body = x }) is_hs;
    }))
    (λ us r m g. (by_mark starts_what false refl us r m, by_mark (is_what fixed.As) false refl us r m))))))))
    (λ us r m g. by_mark (is_what fixed.Procedure) false refl us r m)
