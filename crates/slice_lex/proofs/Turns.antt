-- The loop that reads a file: what is read so far, and what a turn adds.
use Rattle.std.proofs.Common.{◌≡◌, ℕ, suc, ◌+◌, ◌<◌, ◌≤◌, true, false, List, [], ◌∷◌, ◌++◌, Option, Some, None, length, take, drop, get_or, sym, refl, ap, ◌∙◌, subst, arith, append_assoc, append-nil, length-append}
use Rattle.std.specs.Prelude.{cond, not, Result, is_ok}
use Rattle.std.specs.List.{list_all, prefix_len}
use Rattle.std.proofs.lemmas.Bool.{cond-true, not-false}
use Rattle.std.proofs.lemmas.List.{drop_more, drop_all, drop-drop, take-append-drop, length-drop, length-take-le}
use Rattle.slice_lex.specs.declared.token.Token.{Token}
use Rattle.slice_lex.specs.declared.token.LexFault.{LexFault}
use Rattle.slice_lex.specs.Text.{is_layout, is_line_end, begins, ends_line, no_gap, layout, comment}
use Rattle.slice_lex.specs.Lexing.{BeginsFault, AfterGap, AfterToken, IsRead, Tokens, Fault, IsLexing, IsRestOf}
use Rattle.slice_lex.proofs.Fronts.{prefix_first, prefix_within, front_passes, front_ends}

-- the tokens found so far come first, whatever is read of the file from this place on
pub record IsReadTo (file : List ℕ) (found : List Token) (at : ℕ) : Type 0 where
  pub within : at ≤ length file
  pub so_far : (ts : List Token) (end : Option LexFault) → AfterGap (IsRead ts end) at (drop at file) → AfterGap (IsRead (found ++ ts) end) 0 file

pub nothing_read : (file : List ℕ) → IsReadTo file [] 0
nothing_read file = record { within = omega arith; so_far = λ ts end h. h }

-- a gap of nothing, one byte of layout, a comment before a gap
no_gap_first : (P : ℕ → List ℕ → Type 0) (at : ℕ) (bytes : List ℕ) → P at bytes → AfterGap P at bytes
no_gap_first P at bytes h = record { gap = []; rest = bytes; whole = refl; is_gap = no_gap bytes; after = subst (λ n. P n bytes) (omega arith) h }

layout_first : (P : ℕ → List ℕ → Type 0) (at c : ℕ) (bytes : List ℕ) → is_layout c ≡ true → AfterGap P (at + 1) bytes → AfterGap P at (c ∷ bytes)
layout_first P at c bytes h a = record {
  gap = c ∷ a.gap;
  rest = a.rest;
  whole = ap (λ bs. c ∷ bs) a.whole;
  is_gap = layout c a.gap a.rest h a.is_gap;
  after = let e : (at + 1) + length a.gap ≡ at + length (c ∷ a.gap) = omega arith in subst (λ n. P n a.rest) e a.after;
}

comment_first : (P : ℕ → List ℕ → Type 0) (at n : ℕ) (text bytes : List ℕ) → list_all (λ c. not (is_line_end c)) text ≡ true → ends_line bytes ≡ true → n ≡ at + length (35 ∷ text) → AfterGap P n bytes → AfterGap P at (35 ∷ (text ++ bytes))
comment_first P at n text bytes h end far a = record {
  gap = 35 ∷ (text ++ a.gap);
  rest = a.rest;
  whole = ap (λ bs. 35 ∷ (text ++ bs)) a.whole ∙ ap (λ bs. 35 ∷ bs) (sym (append_assoc text a.gap a.rest));
  is_gap = comment text a.gap a.rest h (subst (λ bs. ends_line bs ≡ true) a.whole end) a.is_gap;
  after = let e : n + length a.gap ≡ at + length (35 ∷ (text ++ a.gap)) = omega (arith, length-append text a.gap, far) in subst (λ k. P k a.rest) e a.after;
}

line_ends : (bytes : List ℕ) → begins (λ c. not (is_line_end c)) bytes ≡ false → ends_line bytes ≡ true
line_ends [] h = refl
line_ends (c ∷ cs) h = not-false (is_line_end c) h

pub turn_layout : (file : List ℕ) (found : List Token) (at : ℕ) → at < length file → is_layout (get_or file at 0) ≡ true → IsReadTo file found at → IsReadTo file found (at + 1)
turn_layout file found at below h r = record {
  within = omega arith;
  so_far = λ ts end a.
      r.so_far ts end (subst (AfterGap (IsRead ts end) at) (sym (drop_more file at 0 below)) (layout_first (IsRead ts end) at (get_or file at 0) (drop (at + 1) file) h a));
}

pub turn_comment : (file : List ℕ) (found : List Token) (at n : ℕ) → at < length file → get_or file at 0 ≡ 35 → n ≡ prefix_len (λ c. not (is_line_end c)) (drop at file) → IsReadTo file found at → IsReadTo file found (at + n)
turn_comment file found at n below h far r =
    let p = λ (c : ℕ). not (is_line_end c) in
    let tail = drop (at + 1) file in
    let m = prefix_len p tail in
    let here : drop at file ≡ 35 ∷ tail = drop_more file at 0 below ∙ ap (λ c. c ∷ tail) h in
    let long : n ≡ suc m = far ∙ ap (prefix_len p) here ∙ prefix_first p 35 tail refl in
    let within = prefix_within p tail in
    let all : at + n ≤ length file = omega (arith, length-drop (at + 1) file, within, long) in
    let front : take m tail ++ drop m tail ≡ tail = take-append-drop m tail in
    let rest : drop (at + n) file ≡ drop m tail = sym (drop-drop m (at + 1) file ∙ ap (λ k. drop k file) (omega (arith, long))) in
    record {
      within = all;
      so_far = λ ts end a.
          r.so_far ts end (subst (AfterGap (IsRead ts end) at) (sym (here ∙ ap (λ bs. 35 ∷ bs) (sym front)))
          (comment_first (IsRead ts end) at (at + n) (take m tail) (drop m tail) (front_passes p tail) (line_ends (drop m tail) (front_ends p tail))
          (let k = length-take-le m tail within in omega (arith, long, k))
          (subst (AfterGap (IsRead ts end) (at + n)) rest a)));
    }

pub turn_token : (file : List ℕ) (found : List Token) (at : ℕ) (t : Token) → AfterToken t (IsRestOf file) at (drop at file) → IsReadTo file found at → IsReadTo file (found ++ t ∷ []) t.to
turn_token file found at t h r = record {
  within = h.after.0;
  so_far = λ ts end a.
      subst (λ us. AfterGap (IsRead us end) 0 file) (sym (append_assoc found (t ∷ []) ts))
      (r.so_far (t ∷ ts) end (no_gap_first (IsRead (t ∷ ts) end) at (drop at file) (record {
        text = h.text;
        rest = h.rest;
        whole = h.whole;
        token = h.token;
        after = subst (AfterGap (IsRead ts end) t.to) (sym h.after.1) a;
      })));
}

pub end_of_file : (file : List ℕ) (found : List Token) (at : ℕ) → length file ≤ at → IsReadTo file found at → IsLexing file (Tokens found)
end_of_file file found at past r =
    subst (λ us. AfterGap (IsRead us None) 0 file) (append-nil found)
    (r.so_far [] None (no_gap_first (IsRead [] None) at (drop at file) (drop_all at file past)))

pub fault_here : (file : List ℕ) (found : List Token) (at : ℕ) (fault : LexFault) → BeginsFault fault at (drop at file) → IsReadTo file found at → IsLexing file (Fault fault)
fault_here file found at fault h r = (found ++ [], r.so_far [] (Some fault) (no_gap_first (IsRead [] (Some fault)) at (drop at file) h))

pub pushed_items : {A E : Type 0} (old new : List A) (r : Result (Unit {0}) E) (x : A) → new ≡ cond (is_ok r) (old ++ x ∷ []) old → is_ok r ≡ true → new ≡ old ++ x ∷ []
pushed_items old new r x e good = e ∙ cond-true (is_ok r) _ _ good
