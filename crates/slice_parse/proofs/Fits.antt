-- Limits that serve a program: those that it is within, and as many turns as it has tokens; or as many of all as it has tokens.
use Rattle.std.proofs.Common.{◌≡◌, ℕ, zero, suc, ◌+◌, ◌≤◌, List, [], ◌∷◌, ◌++◌, length, codes, arith, length-append}
use Rattle.slice_ast.specs.Code.{Code, End, Cut, Let, Join, Give, If, Pick, Call, PlainProc, PlainProgram}
use Rattle.slice_ast.specs.Tokens.{Mark, Plain, more_listed, listed, name_marks, names_after, ref_marks, term_marks, more_marks, terms_marks, sum_marks, cmp_text, arg_marks, param_marks, yield_marks, test_marks, if_end, code_marks, open_marks, block_marks, proc_marks, procs_marks, program_marks}
use Rattle.slice_ast.specs.declared.tree.Name.{Name}
use Rattle.slice_ast.specs.declared.tree.Term.{Term}
use Rattle.slice_ast.specs.declared.tree.Cmp.{Cmp}
use Rattle.slice_ast.specs.declared.tree.Sum.{Sum}
use Rattle.slice_ast.specs.declared.tree.Arg.{Arg}
use Rattle.slice_ast.specs.declared.tree.Arg.TheVariants as arg
use Rattle.slice_ast.specs.Spellable.{Each, EachOfSome, HasName, CanSpellTerms, CanSpellArg, CanSpellCode, CanSpellProc, IsSpellable}
use Rattle.slice_ast.specs.Limits.{IsShortArg, IsCodeWithin, IsWithinLimits}
use Rattle.slice_parse.proofs.DoneSums.{SumFits, FitsList, FitsSome, FitsArg}
use Rattle.slice_parse.proofs.DoneStatements.{FitsCode, FitsProc, FitsProgram}

-- ---- parts are no longer than the whole

-- the marks are at most so many
record Room (xs : List Mark) (n : ℕ) : Type 0 where
  le : length xs ≤ n

left_of : (xs ys : List Mark) (n : ℕ) → Room (xs ++ ys) n → Room xs n
left_of xs ys n h = let e : length (xs ++ ys) ≡ length xs + length ys = length-append xs ys in let k : length (xs ++ ys) ≤ n = h.le in record { le = omega arith }

right_of : (xs ys : List Mark) (n : ℕ) → Room (xs ++ ys) n → Room ys n
right_of xs ys n h = let e : length (xs ++ ys) ≡ length xs + length ys = length-append xs ys in let k : length (xs ++ ys) ≤ n = h.le in record { le = omega arith }

tail_of : (x : Mark) (xs : List Mark) (n : ℕ) → Room (x ∷ xs) n → Room xs n
tail_of x xs n h = let k : length (x ∷ xs) ≤ n = h.le in record { le = omega arith }

pred_of : (x : Mark) (xs : List Mark) (n : ℕ) → Room (x ∷ xs) (suc n) → Room xs n
pred_of x xs n h = let k : length (x ∷ xs) ≤ suc n = h.le in record { le = omega arith }

listed_length : {A : Type 0} (item : A → List Mark) (xs : List A) → length xs ≤ length (more_listed item xs)
listed_length item [] = omega arith
listed_length item (x ∷ xs) =
    let h = listed_length item xs in
    let e : length (item x ++ more_listed item xs) ≡ length (item x) + length (more_listed item xs) = length-append (item x) (more_listed item xs) in
    omega arith

fits_listed : {A : Type 0} (item : A → List Mark) (xs : List A) (n : ℕ) → Room (listed item xs) n → FitsList n xs
fits_listed item [] n h = tt
fits_listed item (x ∷ xs) n h =
    let k : length (more_listed item xs) ≤ n = (right_of (item x) (more_listed item xs) n h).le in
    let l = listed_length item xs in
    omega arith

fits_names : (word : List ℕ) (xs : List Name) (n : ℕ) → Room (names_after word xs) n → FitsList n xs
fits_names word [] n h = tt
fits_names word (x ∷ xs) n h = fits_listed name_marks (x ∷ xs) n (tail_of (Plain word) (listed name_marks (x ∷ xs)) n h)

fits_some : (word : List ℕ) (xs : List Name) (n : ℕ) → EachOfSome HasName xs → Room (names_after word xs) n → FitsSome n xs
fits_some word [] n w h = absurd w
fits_some word (x ∷ xs) n w h = fits_names word (x ∷ xs) n h

fits_yields : (xs : List Name) (n : ℕ) → Room (yield_marks xs) n → FitsList n xs
fits_yields [] n h = tt
fits_yields (x ∷ xs) n h = fits_names (codes "yield") (x ∷ xs) n (left_of (names_after (codes "yield") (x ∷ xs)) _ n h)

fits_end : (xs : List Name) (e n : ℕ) → Room (if_end xs e) n → FitsList n xs
fits_end [] e n h = tt
fits_end (x ∷ xs) e n h = fits_names (codes "as") (x ∷ xs) n (left_of (names_after (codes "as") (x ∷ xs)) _ n (tail_of (Plain (codes "}")) _ n h))

more_length : (ts : List Term) → length ts ≤ length (more_marks ts)
more_length [] = omega arith
more_length (t ∷ ts) =
    let h = more_length ts in
    let e : length (term_marks t ++ more_marks ts) ≡ length (term_marks t) + length (more_marks ts) = length-append (term_marks t) (more_marks ts) in
    omega arith

-- ---- sums

short_fits : (ts : List Term) → CanSpellTerms ts → length ts ≤ 64 → SumFits 63 ts
short_fits [] w h = absurd w
short_fits (t ∷ ts) w h = (w.0, omega arith)

small_fits : (ts : List Term) (n : ℕ) → CanSpellTerms ts → Room (terms_marks ts) n → SumFits n ts
small_fits [] n w h = absurd w
small_fits (t ∷ ts) n w h =
    let k : length (more_marks ts) ≤ n = (right_of (term_marks t) (more_marks ts) n h).le in
    let l = more_length ts in
    (w.0, omega arith)

short_args : (xs : List Arg) → Each CanSpellArg xs → Each IsShortArg xs → Each (FitsArg 63) xs
short_args [] w h = tt
short_args (arg.Agent a ∷ xs) w h = (tt, short_args xs w.1 h.1)
short_args (arg.Piece p ∷ xs) w h = (tt, short_args xs w.1 h.1)
short_args (arg.Number s ∷ xs) w h = (short_fits s.terms w.0 h.0, short_args xs w.1 h.1)

small_more : (xs : List Arg) (n : ℕ) → Each CanSpellArg xs → Room (more_listed arg_marks xs) n → Each (FitsArg n) xs
small_more [] n w h = tt
small_more (arg.Agent a ∷ xs) n w h = (tt, small_more xs n w.1 (right_of (arg_marks (arg.Agent a)) _ n (tail_of (Plain (codes ",")) _ n h)))
small_more (arg.Piece p ∷ xs) n w h = (tt, small_more xs n w.1 (right_of (arg_marks (arg.Piece p)) _ n (tail_of (Plain (codes ",")) _ n h)))
small_more (arg.Number s ∷ xs) n w h =
    (small_fits s.terms n w.0 (tail_of (Plain (codes "number")) (sum_marks s) n (left_of (arg_marks (arg.Number s)) (more_listed arg_marks xs) n (tail_of (Plain (codes ",")) _ n h))), small_more xs n w.1 (right_of (arg_marks (arg.Number s)) (more_listed arg_marks xs) n (tail_of (Plain (codes ",")) _ n h)))

small_first : (x : Arg) (xs : List Arg) (n : ℕ) → Each CanSpellArg (x ∷ xs) → Room (listed arg_marks (x ∷ xs)) n → Each (FitsArg n) (x ∷ xs)
small_first (arg.Agent a) xs n w h = (tt, small_more xs n w.1 (right_of (arg_marks (arg.Agent a)) _ n h))
small_first (arg.Piece p) xs n w h = (tt, small_more xs n w.1 (right_of (arg_marks (arg.Piece p)) _ n h))
small_first (arg.Number s) xs n w h =
    (small_fits s.terms n w.0 (tail_of (Plain (codes "number")) (sum_marks s) n (left_of (arg_marks (arg.Number s)) (more_listed arg_marks xs) n h)), small_more xs n w.1 (right_of (arg_marks (arg.Number s)) (more_listed arg_marks xs) n h))

small_args : (xs : List Arg) (n : ℕ) → Each CanSpellArg xs → Room (listed arg_marks xs) n → Each (FitsArg n) xs
small_args [] n w h = tt
small_args (x ∷ xs) n w h = small_first x xs n w h

no_room : (x : Mark) (xs : List Mark) → Room (x ∷ xs) 0 → ⊥
no_room x xs h = let k : length (x ∷ xs) ≤ 0 = h.le in omega arith

zero_if : (l : Sum) (o : Cmp) (r : Sum) (y : Code) (ys : List Name) (b : Code) (bs xs : List Name) (e : ℕ) (rest : Code) → Room (code_marks (If l o r y ys b bs xs e rest)) 0 → ⊥
zero_if l o r y ys b bs xs e rest h = no_room _ _ h

-- ---- statements

short_code : (c : Code) (b n k : ℕ) → CanSpellCode c → IsCodeWithin b c → Room (code_marks c) n → Room (code_marks c) k → FitsCode 63 n b k c
short_code End b n k w v h hk = tt
short_code (Cut a p s l r rest) b n zero w v h hk = absurd (no_room _ _ hk)
short_code (Cut a p s l r rest) b n (suc k) w v h hk = ((short_fits s.terms w.2 v.0), short_code rest b n k w.5 v.1 (tail_of _ _ n (tail_of _ _ n (tail_of _ _ n (tail_of _ _ n (tail_of _ _ n (right_of (sum_marks s) _ n (tail_of _ _ n (tail_of _ _ n (right_of (ref_marks a) _ n (tail_of _ _ n h)))))))))) (tail_of _ _ k (tail_of _ _ k (tail_of _ _ k (tail_of _ _ k (tail_of _ _ k (right_of (sum_marks s) _ k (tail_of _ _ k (tail_of _ _ k (right_of (ref_marks a) _ k (pred_of _ _ k hk)))))))))))
short_code (Let x s rest) b n zero w v h hk = absurd (no_room _ _ hk)
short_code (Let x s rest) b n (suc k) w v h hk = ((short_fits s.terms w.1 v.0), short_code rest b n k w.2 v.1 (tail_of _ _ n (right_of (sum_marks s) _ n (tail_of _ _ n (tail_of _ _ n (tail_of _ _ n h))))) (tail_of _ _ k (right_of (sum_marks s) _ k (tail_of _ _ k (tail_of _ _ k (pred_of _ _ k hk))))))
short_code (Join p q x rest) b n zero w v h hk = absurd (no_room _ _ hk)
short_code (Join p q x rest) b n (suc k) w v h hk = short_code rest b n k w.3 v (tail_of _ _ n (tail_of _ _ n (tail_of _ _ n (tail_of _ _ n (tail_of _ _ n (tail_of _ _ n (tail_of _ _ n h))))))) (tail_of _ _ k (tail_of _ _ k (tail_of _ _ k (tail_of _ _ k (tail_of _ _ k (tail_of _ _ k (pred_of _ _ k hk)))))))
short_code (Give p a rest) b n zero w v h hk = absurd (no_room _ _ hk)
short_code (Give p a rest) b n (suc k) w v h hk = short_code rest b n k w.2 v (tail_of _ _ n (right_of (ref_marks a) _ n (tail_of _ _ n (tail_of _ _ n (tail_of _ _ n h))))) (tail_of _ _ k (right_of (ref_marks a) _ k (tail_of _ _ k (tail_of _ _ k (pred_of _ _ k hk)))))
short_code (Pick a ps xs e rest) b n zero w v h hk = absurd (no_room _ _ hk)
short_code (Pick a ps xs e rest) b n (suc k) w v h hk = (fits_some (codes "from") ps n w.1 (left_of (names_after (codes "from") ps) _ n (right_of (ref_marks a) _ n (tail_of _ _ n h))), (fits_some (codes "as") xs n w.2 (left_of (names_after (codes "as") xs) _ n (right_of (names_after (codes "from") ps) _ n (right_of (ref_marks a) _ n (tail_of _ _ n h)))), short_code rest b n k w.3 v (tail_of _ _ n (right_of (names_after (codes "as") xs) _ n (right_of (names_after (codes "from") ps) _ n (right_of (ref_marks a) _ n (tail_of _ _ n h))))) (tail_of _ _ k (right_of (names_after (codes "as") xs) _ k (right_of (names_after (codes "from") ps) _ k (right_of (ref_marks a) _ k (pred_of _ _ k hk)))))))
short_code (Call f xs ns e rest) b n zero w v h hk = absurd (no_room _ _ hk)
short_code (Call f xs ns e rest) b n (suc k) w v h hk = (short_args xs w.1 v.0, (fits_listed arg_marks xs n (left_of (listed arg_marks xs) _ n (tail_of _ _ n (tail_of _ _ n (tail_of _ _ n h)))), (fits_names (codes "as") ns n (left_of (names_after (codes "as") ns) _ n (tail_of _ _ n (right_of (listed arg_marks xs) _ n (tail_of _ _ n (tail_of _ _ n (tail_of _ _ n h)))))), short_code rest b n k w.3 v.1 (tail_of _ _ n (right_of (names_after (codes "as") ns) _ n (tail_of _ _ n (right_of (listed arg_marks xs) _ n (tail_of _ _ n (tail_of _ _ n (tail_of _ _ n h))))))) (tail_of _ _ k (right_of (names_after (codes "as") ns) _ k (tail_of _ _ k (right_of (listed arg_marks xs) _ k (tail_of _ _ k (tail_of _ _ k (pred_of _ _ k hk))))))))))
short_code (If l o r y ys b bs xs e rest) d n zero w v h hk = absurd (zero_if l o r y ys b bs xs e rest hk)
short_code (If l o r y ys b bs xs e rest) zero n (suc k) w v h hk = absurd v
short_code (If l o r y ys b bs xs e0 rest) (suc d) n (suc k) w v h hk = (
  short_fits l.terms w.0 v.0,
  (
    short_fits r.terms w.1 v.1,
    (
      short_code y d n n w.2 v.2 (left_of (code_marks y) _ n (tail_of _ _ n (right_of (test_marks l o r) _ n h))) (left_of (code_marks y) _ n (tail_of _ _ n (right_of (test_marks l o r) _ n h))),
      (
        fits_yields ys n (left_of (yield_marks ys) _ n (right_of (code_marks y) _ n (tail_of _ _ n (right_of (test_marks l o r) _ n h)))),
        (
          short_code b d n n w.4 v.3 (left_of (code_marks b) _ n (tail_of _ _ n (tail_of _ _ n (tail_of _ _ n (right_of (yield_marks ys) _ n (right_of (code_marks y) _ n (tail_of _ _ n (right_of (test_marks l o r) _ n h)))))))) (left_of (code_marks b) _ n (tail_of _ _ n (tail_of _ _ n (tail_of _ _ n (right_of (yield_marks ys) _ n (right_of (code_marks y) _ n (tail_of _ _ n (right_of (test_marks l o r) _ n h)))))))),
          (
            fits_yields bs n (left_of (yield_marks bs) _ n (right_of (code_marks b) _ n (tail_of _ _ n (tail_of _ _ n (tail_of _ _ n (right_of (yield_marks ys) _ n (right_of (code_marks y) _ n (tail_of _ _ n (right_of (test_marks l o r) _ n h))))))))),
            (
              fits_end xs e0 n (left_of (if_end xs e0) _ n (right_of (yield_marks bs) _ n (right_of (code_marks b) _ n (tail_of _ _ n (tail_of _ _ n (tail_of _ _ n (right_of (yield_marks ys) _ n (right_of (code_marks y) _ n (tail_of _ _ n (right_of (test_marks l o r) _ n h)))))))))),
              short_code rest (suc d) n k w.7 v.4 (right_of (if_end xs e0) _ n (right_of (yield_marks bs) _ n (right_of (code_marks b) _ n (tail_of _ _ n (tail_of _ _ n (tail_of _ _ n (right_of (yield_marks ys) _ n (right_of (code_marks y) _ n (tail_of _ _ n (right_of (test_marks l o r) _ n h)))))))))) (right_of (if_end xs e0) _ k (right_of (yield_marks bs) _ k (right_of (code_marks b) _ k (tail_of _ _ k (tail_of _ _ k (tail_of _ _ k (right_of (yield_marks ys) _ k (right_of (code_marks y) _ k (tail_of _ _ k (right_of (sum_marks l ++ Plain (cmp_text o) ∷ sum_marks r) _ k (pred_of (Plain (codes "if")) _ k hk))))))))))),
            ),
          ),
        ),
      ),
    ),
  ),
)

small_code : (c : Code) (t n b k : ℕ) → CanSpellCode c → Room (code_marks c) t → Room (code_marks c) n → Room (code_marks c) b → Room (code_marks c) k → FitsCode t n b k c
small_code End t n b k w ht h hb hk = tt
small_code (Cut a p s l r rest) t n b zero w ht h hb hk = absurd (no_room _ _ hk)
small_code (Cut a p s l r rest) t n b (suc k) w ht h hb hk = ((small_fits s.terms t w.2 (left_of (sum_marks s) _ t (tail_of _ _ t (tail_of _ _ t (right_of (ref_marks a) _ t (tail_of _ _ t ht)))))), small_code rest t n b k w.5 (tail_of _ _ t (tail_of _ _ t (tail_of _ _ t (tail_of _ _ t (tail_of _ _ t (right_of (sum_marks s) _ t (tail_of _ _ t (tail_of _ _ t (right_of (ref_marks a) _ t (tail_of _ _ t ht)))))))))) (tail_of _ _ n (tail_of _ _ n (tail_of _ _ n (tail_of _ _ n (tail_of _ _ n (right_of (sum_marks s) _ n (tail_of _ _ n (tail_of _ _ n (right_of (ref_marks a) _ n (tail_of _ _ n h)))))))))) (tail_of _ _ b (tail_of _ _ b (tail_of _ _ b (tail_of _ _ b (tail_of _ _ b (right_of (sum_marks s) _ b (tail_of _ _ b (tail_of _ _ b (right_of (ref_marks a) _ b (tail_of _ _ b hb)))))))))) (tail_of _ _ k (tail_of _ _ k (tail_of _ _ k (tail_of _ _ k (tail_of _ _ k (right_of (sum_marks s) _ k (tail_of _ _ k (tail_of _ _ k (right_of (ref_marks a) _ k (pred_of _ _ k hk)))))))))))
small_code (Let x s rest) t n b zero w ht h hb hk = absurd (no_room _ _ hk)
small_code (Let x s rest) t n b (suc k) w ht h hb hk = ((small_fits s.terms t w.1 (left_of (sum_marks s) _ t (tail_of _ _ t (tail_of _ _ t (tail_of _ _ t ht))))), small_code rest t n b k w.2 (tail_of _ _ t (right_of (sum_marks s) _ t (tail_of _ _ t (tail_of _ _ t (tail_of _ _ t ht))))) (tail_of _ _ n (right_of (sum_marks s) _ n (tail_of _ _ n (tail_of _ _ n (tail_of _ _ n h))))) (tail_of _ _ b (right_of (sum_marks s) _ b (tail_of _ _ b (tail_of _ _ b (tail_of _ _ b hb))))) (tail_of _ _ k (right_of (sum_marks s) _ k (tail_of _ _ k (tail_of _ _ k (pred_of _ _ k hk))))))
small_code (Join p q x rest) t n b zero w ht h hb hk = absurd (no_room _ _ hk)
small_code (Join p q x rest) t n b (suc k) w ht h hb hk = small_code rest t n b k w.3 (tail_of _ _ t (tail_of _ _ t (tail_of _ _ t (tail_of _ _ t (tail_of _ _ t (tail_of _ _ t (tail_of _ _ t ht))))))) (tail_of _ _ n (tail_of _ _ n (tail_of _ _ n (tail_of _ _ n (tail_of _ _ n (tail_of _ _ n (tail_of _ _ n h))))))) (tail_of _ _ b (tail_of _ _ b (tail_of _ _ b (tail_of _ _ b (tail_of _ _ b (tail_of _ _ b (tail_of _ _ b hb))))))) (tail_of _ _ k (tail_of _ _ k (tail_of _ _ k (tail_of _ _ k (tail_of _ _ k (tail_of _ _ k (pred_of _ _ k hk)))))))
small_code (Give p a rest) t n b zero w ht h hb hk = absurd (no_room _ _ hk)
small_code (Give p a rest) t n b (suc k) w ht h hb hk = small_code rest t n b k w.2 (tail_of _ _ t (right_of (ref_marks a) _ t (tail_of _ _ t (tail_of _ _ t (tail_of _ _ t ht))))) (tail_of _ _ n (right_of (ref_marks a) _ n (tail_of _ _ n (tail_of _ _ n (tail_of _ _ n h))))) (tail_of _ _ b (right_of (ref_marks a) _ b (tail_of _ _ b (tail_of _ _ b (tail_of _ _ b hb))))) (tail_of _ _ k (right_of (ref_marks a) _ k (tail_of _ _ k (tail_of _ _ k (pred_of _ _ k hk)))))
small_code (Pick a ps xs e rest) t n b zero w ht h hb hk = absurd (no_room _ _ hk)
small_code (Pick a ps xs e rest) t n b (suc k) w ht h hb hk = (fits_some (codes "from") ps n w.1 (left_of (names_after (codes "from") ps) _ n (right_of (ref_marks a) _ n (tail_of _ _ n h))), (fits_some (codes "as") xs n w.2 (left_of (names_after (codes "as") xs) _ n (right_of (names_after (codes "from") ps) _ n (right_of (ref_marks a) _ n (tail_of _ _ n h)))), small_code rest t n b k w.3 (tail_of _ _ t (right_of (names_after (codes "as") xs) _ t (right_of (names_after (codes "from") ps) _ t (right_of (ref_marks a) _ t (tail_of _ _ t ht))))) (tail_of _ _ n (right_of (names_after (codes "as") xs) _ n (right_of (names_after (codes "from") ps) _ n (right_of (ref_marks a) _ n (tail_of _ _ n h))))) (tail_of _ _ b (right_of (names_after (codes "as") xs) _ b (right_of (names_after (codes "from") ps) _ b (right_of (ref_marks a) _ b (tail_of _ _ b hb))))) (tail_of _ _ k (right_of (names_after (codes "as") xs) _ k (right_of (names_after (codes "from") ps) _ k (right_of (ref_marks a) _ k (pred_of _ _ k hk)))))))
small_code (Call f xs ns e rest) t n b zero w ht h hb hk = absurd (no_room _ _ hk)
small_code (Call f xs ns e rest) t n b (suc k) w ht h hb hk = (small_args xs t w.1 (left_of (listed arg_marks xs) _ t (tail_of _ _ t (tail_of _ _ t (tail_of _ _ t ht)))), (fits_listed arg_marks xs n (left_of (listed arg_marks xs) _ n (tail_of _ _ n (tail_of _ _ n (tail_of _ _ n h)))), (fits_names (codes "as") ns n (left_of (names_after (codes "as") ns) _ n (tail_of _ _ n (right_of (listed arg_marks xs) _ n (tail_of _ _ n (tail_of _ _ n (tail_of _ _ n h)))))), small_code rest t n b k w.3 (tail_of _ _ t (right_of (names_after (codes "as") ns) _ t (tail_of _ _ t (right_of (listed arg_marks xs) _ t (tail_of _ _ t (tail_of _ _ t (tail_of _ _ t ht))))))) (tail_of _ _ n (right_of (names_after (codes "as") ns) _ n (tail_of _ _ n (right_of (listed arg_marks xs) _ n (tail_of _ _ n (tail_of _ _ n (tail_of _ _ n h))))))) (tail_of _ _ b (right_of (names_after (codes "as") ns) _ b (tail_of _ _ b (right_of (listed arg_marks xs) _ b (tail_of _ _ b (tail_of _ _ b (tail_of _ _ b hb))))))) (tail_of _ _ k (right_of (names_after (codes "as") ns) _ k (tail_of _ _ k (right_of (listed arg_marks xs) _ k (tail_of _ _ k (tail_of _ _ k (pred_of _ _ k hk))))))))))
small_code (If l o r y ys b bs xs e rest) t n d zero w ht h hb hk = absurd (zero_if l o r y ys b bs xs e rest hk)
small_code (If l o r y ys b bs xs e rest) t n zero (suc k) w ht h hb hk = absurd (zero_if l o r y ys b bs xs e rest hb)
small_code (If l o r y ys b bs xs e rest) t n (suc d) (suc k) w ht h hb hk = (
  small_fits l.terms t w.0 (left_of (sum_marks l) _ t (tail_of (Plain (codes "if")) _ t (left_of (test_marks l o r) _ t ht))),
  (
    small_fits r.terms t w.1 (tail_of _ _ t (right_of (sum_marks l) _ t (tail_of (Plain (codes "if")) _ t (left_of (test_marks l o r) _ t ht)))),
    (
      small_code y t n d n w.2 (left_of (code_marks y) _ t (tail_of _ _ t (right_of (test_marks l o r) _ t ht))) (left_of (code_marks y) _ n (tail_of _ _ n (right_of (test_marks l o r) _ n h))) (left_of (code_marks y) _ d (tail_of _ _ d (right_of (sum_marks l ++ Plain (cmp_text o) ∷ sum_marks r) _ d (pred_of (Plain (codes "if")) _ d hb)))) (left_of (code_marks y) _ n (tail_of _ _ n (right_of (test_marks l o r) _ n h))),
      (
        fits_yields ys n (left_of (yield_marks ys) _ n (right_of (code_marks y) _ n (tail_of _ _ n (right_of (test_marks l o r) _ n h)))),
        (
          small_code b t n d n w.4 (left_of (code_marks b) _ t (tail_of _ _ t (tail_of _ _ t (tail_of _ _ t (right_of (yield_marks ys) _ t (right_of (code_marks y) _ t (tail_of _ _ t (right_of (test_marks l o r) _ t ht)))))))) (left_of (code_marks b) _ n (tail_of _ _ n (tail_of _ _ n (tail_of _ _ n (right_of (yield_marks ys) _ n (right_of (code_marks y) _ n (tail_of _ _ n (right_of (test_marks l o r) _ n h)))))))) (left_of (code_marks b) _ d (tail_of _ _ d (tail_of _ _ d (tail_of _ _ d (right_of (yield_marks ys) _ d (right_of (code_marks y) _ d (tail_of _ _ d (right_of (sum_marks l ++ Plain (cmp_text o) ∷ sum_marks r) _ d (pred_of (Plain (codes "if")) _ d hb))))))))) (left_of (code_marks b) _ n (tail_of _ _ n (tail_of _ _ n (tail_of _ _ n (right_of (yield_marks ys) _ n (right_of (code_marks y) _ n (tail_of _ _ n (right_of (test_marks l o r) _ n h)))))))),
          (
            fits_yields bs n (left_of (yield_marks bs) _ n (right_of (code_marks b) _ n (tail_of _ _ n (tail_of _ _ n (tail_of _ _ n (right_of (yield_marks ys) _ n (right_of (code_marks y) _ n (tail_of _ _ n (right_of (test_marks l o r) _ n h))))))))),
            (
              fits_end xs e n (left_of (if_end xs e) _ n (right_of (yield_marks bs) _ n (right_of (code_marks b) _ n (tail_of _ _ n (tail_of _ _ n (tail_of _ _ n (right_of (yield_marks ys) _ n (right_of (code_marks y) _ n (tail_of _ _ n (right_of (test_marks l o r) _ n h)))))))))),
              small_code rest t n (suc d) k w.7 (right_of (if_end xs e) _ t (right_of (yield_marks bs) _ t (right_of (code_marks b) _ t (tail_of _ _ t (tail_of _ _ t (tail_of _ _ t (right_of (yield_marks ys) _ t (right_of (code_marks y) _ t (tail_of _ _ t (right_of (test_marks l o r) _ t ht)))))))))) (right_of (if_end xs e) _ n (right_of (yield_marks bs) _ n (right_of (code_marks b) _ n (tail_of _ _ n (tail_of _ _ n (tail_of _ _ n (right_of (yield_marks ys) _ n (right_of (code_marks y) _ n (tail_of _ _ n (right_of (test_marks l o r) _ n h)))))))))) (right_of (if_end xs e) _ (suc d) (right_of (yield_marks bs) _ (suc d) (right_of (code_marks b) _ (suc d) (tail_of _ _ (suc d) (tail_of _ _ (suc d) (tail_of _ _ (suc d) (right_of (yield_marks ys) _ (suc d) (right_of (code_marks y) _ (suc d) (tail_of _ _ (suc d) (right_of (test_marks l o r) _ (suc d) hb)))))))))) (right_of (if_end xs e) _ k (right_of (yield_marks bs) _ k (right_of (code_marks b) _ k (tail_of _ _ k (tail_of _ _ k (tail_of _ _ k (right_of (yield_marks ys) _ k (right_of (code_marks y) _ k (tail_of _ _ k (right_of (sum_marks l ++ Plain (cmp_text o) ∷ sum_marks r) _ k (pred_of (Plain (codes "if")) _ k hk))))))))))),
            ),
          ),
        ),
      ),
    ),
  ),
)

-- ---- programs

parts_of_proc : (p : PlainProc) (n : ℕ) → Room (proc_marks p) n → (Room (listed param_marks p.params) n) × ((Room (code_marks p.body.code) n) × (Room (yield_marks p.body.yields) n))
parts_of_proc p n h =
    let a = tail_of _ _ n (tail_of _ _ n (tail_of _ _ n h)) in
    let b = tail_of (Plain (codes ")")) (block_marks p.body) n (right_of (listed param_marks p.params) _ n a) in
    let c = tail_of (Plain (codes "{")) _ n (left_of (open_marks p.body) _ n b) in
    (left_of (listed param_marks p.params) _ n a, (left_of (code_marks p.body.code) (yield_marks p.body.yields) n c, right_of (code_marks p.body.code) (yield_marks p.body.yields) n c))

short_proc : (p : PlainProc) (n : ℕ) → CanSpellProc p → IsCodeWithin 63 p.body.code → Room (proc_marks p) n → FitsProc 63 n 63 p
short_proc p n w v h = let x = parts_of_proc p n h in (fits_listed param_marks p.params n x.0, (fits_yields p.body.yields n x.1.1, short_code p.body.code 63 n n w.2.0 v x.1.0 x.1.0))

small_proc : (p : PlainProc) (n : ℕ) → CanSpellProc p → Room (proc_marks p) n → FitsProc n n n p
small_proc p n w h = let x = parts_of_proc p n h in (fits_listed param_marks p.params n x.0, (fits_yields p.body.yields n x.1.1, small_code p.body.code n n n n w.2.0 x.1.0 x.1.0 x.1.0 x.1.0))

short_procs : (ps : List PlainProc) (n : ℕ) → Each CanSpellProc ps → Each (λ q. IsCodeWithin 63 q.body.code) ps → Room (procs_marks ps) n → Each (FitsProc 63 n 63) ps
short_procs [] n w v h = tt
short_procs (p ∷ ps) n w v h = (short_proc p n w.0 v.0 (left_of (proc_marks p) (procs_marks ps) n h), short_procs ps n w.1 v.1 (right_of (proc_marks p) (procs_marks ps) n h))

small_procs : (ps : List PlainProc) (n : ℕ) → Each CanSpellProc ps → Room (procs_marks ps) n → Each (FitsProc n n n) ps
small_procs [] n w h = tt
small_procs (p ∷ ps) n w h = (small_proc p n w.0 (left_of (proc_marks p) (procs_marks ps) n h), small_procs ps n w.1 (right_of (proc_marks p) (procs_marks ps) n h))

procs_length : (ps : List PlainProc) → length ps ≤ length (procs_marks ps)
procs_length [] = omega arith
procs_length (p ∷ ps) =
    let h = procs_length ps in
    let e : length (proc_marks p ++ procs_marks ps) ≡ length (proc_marks p) + length (procs_marks ps) = length-append (proc_marks p) (procs_marks ps) in
    omega arith

body_of : (p : PlainProgram) (n : ℕ) → Room (program_marks p) n → Room (code_marks p.body) n
body_of p n h = left_of (code_marks p.body) _ n (tail_of _ _ n (tail_of _ _ n (tail_of _ _ n (tail_of _ _ n (tail_of _ _ n (right_of (procs_marks p.procs) _ n h))))))

room_for : (p : PlainProgram) (n : ℕ) → Room (program_marks p) n → length p.procs ≤ n
room_for p n h = let a : length (procs_marks p.procs) ≤ n = (left_of (procs_marks p.procs) _ n h).le in let b = procs_length p.procs in omega arith

pub fits_within : (p : PlainProgram) (n : ℕ) → IsSpellable p → IsWithinLimits p → length (program_marks p) ≤ n → FitsProgram 63 n 63 p
fits_within p n w v l = let h : Room (program_marks p) n = record { le = l } in (short_procs p.procs n w.0 v.0 (left_of (procs_marks p.procs) _ n h), (room_for p n h, short_code p.body 63 n n w.3 v.1 (body_of p n h) (body_of p n h)))

pub fits_any : (p : PlainProgram) (n : ℕ) → IsSpellable p → length (program_marks p) ≤ n → FitsProgram n n n p
fits_any p n w l = let h : Room (program_marks p) n = record { le = l } in (small_procs p.procs n w.0 (left_of (procs_marks p.procs) _ n h), (room_for p n h, small_code p.body n n n n w.3 (body_of p n h) (body_of p n h) (body_of p n h) (body_of p n h)))
