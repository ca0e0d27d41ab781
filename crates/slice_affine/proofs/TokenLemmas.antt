-- The names among the tokens of a program: each is a name of the language, and names at one place are one name.
use Rattle.std.proofs.Common.{◌≡◌, ℕ, suc, ◌≤◌, List, [], ◌∷◌, ◌++◌, inl, inr, ⊎_elim, Option, Some, None, ap, sym, subst, ◌∙◌, arith, codes}
use Rattle.slice_ast.specs.Code.{Code, End, Cut, Let, Join, Give, If, Pick, Call, PlainProc, PlainProgram}
use Rattle.slice_ast.specs.Tokens.{Mark, Plain, Spelled, Digits, Final, sign, more_listed, listed, name_marks, names_after, ref_marks, den_marks, fraction_marks, operand_marks, factor_marks, term_marks, more_marks, terms_marks, sum_marks, cmp_text, kind_text, arg_marks, param_marks, yield_marks, test_marks, if_end, code_marks, open_marks, proc_marks, procs_marks, program_marks}
use Rattle.slice_ast.specs.Spellable.{Each, EachOfSome, HasName, CanSpellRef, CanSpellOperand, CanSpellTerm, CanSpellTerms, CanSpellArg, CanSpellParam, CanSpellCode, CanSpellProc, IsSpellable}
use Rattle.slice_ast.specs.declared.tree.Name.{Name}
use Rattle.slice_ast.specs.declared.tree.Number.{Number}
use Rattle.slice_ast.specs.declared.tree.AgentRef.{AgentRef}
use Rattle.slice_ast.specs.declared.tree.AgentRef.TheVariants as ref
use Rattle.slice_ast.specs.declared.tree.Fraction.{Fraction}
use Rattle.slice_ast.specs.declared.tree.Operand.{Operand}
use Rattle.slice_ast.specs.declared.tree.Operand.TheVariants as operand
use Rattle.slice_ast.specs.declared.tree.Term.{Term}
use Rattle.slice_ast.specs.declared.tree.Param.{Param}
use Rattle.slice_ast.specs.declared.tree.Arg.{Arg}
use Rattle.slice_ast.specs.declared.tree.Arg.TheVariants as arg
use Rattle.slice_affine.specs.Ways.{IsIn}
use Rattle.slice_affine.specs.Conditions.{places, Rise}
use Rattle.slice_affine.proofs.WayLemmas.{in_parts}

-- ---- the names among these tokens are names
record Named (xs : List Mark) : Type 0 where
  all : (n : Name) → IsIn (Spelled n) xs → HasName n

nil : Named []
nil = record { all = λ n i. absurd i }

not_plain : {A : Type 0} (n : Name) (t : List ℕ) → Spelled n ≡ Plain t → A
not_plain n t e = absurd cc

not_digits : {A : Type 0} (n : Name) (d : Number) → Spelled n ≡ Digits d → A
not_digits n d e = absurd cc

not_final : {A : Type 0} (n : Name) (t : List ℕ) (at : ℕ) → Spelled n ≡ Final t at → A
not_final n t at e = absurd cc

plain : (t : List ℕ) (xs : List Mark) → Named xs → Named (Plain t ∷ xs)
plain t xs h = record { all = λ n i. ⊎_elim (λ e. not_plain n t e) (λ j. h.all n j) i }

digits : (d : Number) (xs : List Mark) → Named xs → Named (Digits d ∷ xs)
digits d xs h = record { all = λ n i. ⊎_elim (λ e. not_digits n d e) (λ j. h.all n j) i }

final : (t : List ℕ) (at : ℕ) (xs : List Mark) → Named xs → Named (Final t at ∷ xs)
final t at xs h = record { all = λ n i. ⊎_elim (λ e. not_final n t at e) (λ j. h.all n j) i }

abbrev spelled_as : Name → Mark → Name
spelled_as d (Spelled n) = n
spelled_as d (Plain t) = d
spelled_as d (Digits k) = d
spelled_as d (Final t at) = d

word : (m : Name) (xs : List Mark) → HasName m → Named xs → Named (Spelled m ∷ xs)
word m xs g h = record { all = λ n i. ⊎_elim (λ e. subst (λ (z : Name). HasName z) (sym (ap (spelled_as m) e)) g) (λ j. h.all n j) i }

join : (xs ys : List Mark) → Named xs → Named ys → Named (xs ++ ys)
join xs ys h k = record { all = λ n i. ⊎_elim (λ a. h.all n a) (λ a. k.all n a) (in_parts (Spelled n) xs ys i) }

ref_named : (a : AgentRef) → CanSpellRef a → Named (ref_marks a)
ref_named (ref.Fixed n) h = digits n [] nil
ref_named (ref.Named x) h = word x [] h nil

den_named : (d : Option Number) → Named (den_marks d)
den_named None = nil
den_named (Some d) = plain (codes "/") (Digits d ∷ []) (digits d [] nil)

fraction_named : (f : Fraction) → Named (fraction_marks f)
fraction_named f = digits f.num (den_marks f.den) (den_named f.den)

operand_named : (o : Operand) → CanSpellOperand o → Named (operand_marks o)
operand_named (operand.Fraction f) h = fraction_named f
operand_named (operand.Named x) h = word x [] h nil
operand_named (operand.Value a p) h = plain (codes "value") _ (plain (codes "(") _ (join (ref_marks a) _ (ref_named a h.0) (plain (codes ",") _ (word p _ h.1 (plain (codes ")") [] nil)))))

factor_named : (f : Option Fraction) → Named (factor_marks f)
factor_named None = nil
factor_named (Some f) = join (fraction_marks f) _ (fraction_named f) (plain (codes "*") [] nil)

term_named : (t : Term) → CanSpellTerm t → Named (term_marks t)
term_named t h = join (factor_marks t.factor) (operand_marks t.operand) (factor_named t.factor) (operand_named t.operand h.1)

more_named : (ts : List Term) → Each CanSpellTerm ts → Named (more_marks ts)
more_named [] h = nil
more_named (t ∷ ts) h = plain (sign t.minus) _ (join (term_marks t) (more_marks ts) (term_named t h.0) (more_named ts h.1))

terms_named : (ts : List Term) → CanSpellTerms ts → Named (terms_marks ts)
terms_named [] h = nil
terms_named (t ∷ ts) h = join (term_marks t) (more_marks ts) (term_named t h.1) (more_named ts h.2)

arg_named : (x : Arg) → CanSpellArg x → Named (arg_marks x)
arg_named (arg.Agent a) h = plain (codes "agent") _ (ref_named a h)
arg_named (arg.Piece p) h = plain (codes "piece") _ (word p [] h nil)
arg_named (arg.Number s) h = plain (codes "number") _ (terms_named s.terms h)

param_named : (p : Param) → CanSpellParam p → Named (param_marks p)
param_named p h = plain (kind_text p.kind) _ (word p.name [] h nil)

more_listed_named : {A : Type 0} (item : A → List Mark) (P : A → Type 0) → ((x : A) → P x → Named (item x)) → (xs : List A) → Each P xs → Named (more_listed item xs)
more_listed_named item P f [] h = nil
more_listed_named item P f (x ∷ xs) h = plain (codes ",") _ (join (item x) (more_listed item xs) (f x h.0) (more_listed_named item P f xs h.1))

listed_named : {A : Type 0} (item : A → List Mark) (P : A → Type 0) → ((x : A) → P x → Named (item x)) → (xs : List A) → Each P xs → Named (listed item xs)
listed_named item P f [] h = nil
listed_named item P f (x ∷ xs) h = join (item x) (more_listed item xs) (f x h.0) (more_listed_named item P f xs h.1)

names_named : (w : List ℕ) (ns : List Name) → Each HasName ns → Named (names_after w ns)
names_named w [] h = nil
names_named w (n ∷ ns) h = plain w _ (listed_named name_marks HasName (λ x k. word x [] k nil) (n ∷ ns) h)

some_named : (w : List ℕ) (ns : List Name) → EachOfSome HasName ns → Named (names_after w ns)
some_named w [] h = nil
some_named w (n ∷ ns) h = names_named w (n ∷ ns) h

yield_named : (ns : List Name) → Each HasName ns → Named (yield_marks ns)
yield_named [] h = nil
yield_named (n ∷ ns) h = join (names_after (codes "yield") (n ∷ ns)) _ (names_named (codes "yield") (n ∷ ns) h) (plain (codes ";") [] nil)

end_named : (ns : List Name) (end : ℕ) → Each HasName ns → Named (if_end ns end)
end_named [] end h = final (codes "}") end [] nil
end_named (n ∷ ns) end h = plain (codes "}") _ (join (names_after (codes "as") (n ∷ ns)) _ (names_named (codes "as") (n ∷ ns) h) (final (codes ";") end [] nil))

code_named : (c : Code) → CanSpellCode c → Named (code_marks c)
code_named End h = nil
code_named (Cut a p s l r rest) h =
    plain (codes "cut") _ (join (ref_marks a) _ (ref_named a h.0) (word p _ h.1 (plain (codes "at") _ (join (sum_marks s) _ (terms_named s.terms h.2)
    (plain (codes "as") _ (word l _ h.3 (plain (codes ",") _ (word r _ h.4 (plain (codes ";") _ (code_named rest h.5))))))))))
code_named (Let n s rest) h = plain (codes "let") _ (word n _ h.0 (plain (codes "=") _ (join (sum_marks s) _ (terms_named s.terms h.1) (plain (codes ";") _ (code_named rest h.2)))))
code_named (Join p q n rest) h =
    plain (codes "join") _ (word p _ h.0 (plain (codes ",") _ (word q _ h.1 (plain (codes "as") _ (word n _ h.2 (plain (codes ";") _ (code_named rest h.3)))))))
code_named (Give p a rest) h = plain (codes "give") _ (word p _ h.0 (plain (codes "to") _ (join (ref_marks a) _ (ref_named a h.1) (plain (codes ";") _ (code_named rest h.2)))))
code_named (If l o r y ys n zs ns end rest) h =
    join (test_marks l o r) _ (plain (codes "if") _ (join (sum_marks l) _ (terms_named l.terms h.0) (plain (cmp_text o) _ (terms_named r.terms h.1))))
    (plain (codes "{") _ (join (code_marks y) _ (code_named y h.2) (join (yield_marks ys) _ (yield_named ys h.3) (plain (codes "}") _ (plain (codes "else") _ (plain (codes "{") _
    (join (code_marks n) _ (code_named n h.4) (join (yield_marks zs) _ (yield_named zs h.5) (join (if_end ns end) _ (end_named ns end h.6) (code_named rest h.7))))))))))
code_named (Pick a ps ns end rest) h =
    plain (codes "pick") _ (join (ref_marks a) _ (ref_named a h.0) (join (names_after (codes "from") ps) _ (some_named (codes "from") ps h.1)
    (join (names_after (codes "as") ns) _ (some_named (codes "as") ns h.2) (final (codes ";") end _ (code_named rest h.3)))))
code_named (Call f xs ns end rest) h =
    plain (codes "call") _ (word f _ h.0 (plain (codes "(") _ (join (listed arg_marks xs) _ (listed_named arg_marks CanSpellArg arg_named xs h.1)
    (plain (codes ")") _ (join (names_after (codes "as") ns) _ (names_named (codes "as") ns h.2) (final (codes ";") end _ (code_named rest h.3)))))))

proc_named : (p : PlainProc) → CanSpellProc p → Named (proc_marks p)
proc_named p h =
    plain (codes "procedure") _ (word p.name _ h.0 (plain (codes "(") _ (join (listed param_marks p.params) _ (listed_named param_marks CanSpellParam param_named p.params h.1)
    (plain (codes ")") _ (join (open_marks p.body) _ (plain (codes "{") _ (join (code_marks p.body.code) _ (code_named p.body.code h.2.0) (yield_named p.body.yields h.2.1))) (plain (codes "}") [] nil))))))

procs_named : (ps : List PlainProc) → Each CanSpellProc ps → Named (procs_marks ps)
procs_named [] h = nil
procs_named (p ∷ ps) h = join (proc_marks p) _ (proc_named p h.0) (procs_named ps h.1)

all_named : (p : PlainProgram) → IsSpellable p → Named (program_marks p)
all_named p h =
    join (procs_marks p.procs) _ (procs_named p.procs h.0)
    (plain (codes "protocol") _ (word p.name _ h.1 (plain (codes "agents") _ (digits p.agents _ (plain (codes "{") _ (join (code_marks p.body) _ (code_named p.body h.3) (plain (codes "}") [] nil)))))))

pub program_named : (p : PlainProgram) → IsSpellable p → (n : Name) → IsIn (Spelled n) (program_marks p) → HasName n
program_named p h = (all_named p h).all

-- ---- names at one place are one name
place_from : (ms : List Mark) (lo : ℕ) (n : Name) → Rise lo (places ms) → IsIn (Spelled n) ms → lo ≤ n.at
place_from [] lo n r i = absurd i
place_from (Plain t ∷ ms) lo n r (inl e) = absurd cc
place_from (Plain t ∷ ms) lo n r (inr i) = place_from ms lo n r i
place_from (Spelled m ∷ ms) lo n r (inl e) =
    let x : n.at ≡ m.at = ap (λ (v : Name). v.at) (ap (spelled_as m) e) in
    let y : lo ≤ m.at = r.0 in omega arith
place_from (Spelled m ∷ ms) lo n r (inr i) = let x : suc m.at ≤ n.at = place_from ms (suc m.at) n r.1 i in let y : lo ≤ m.at = r.0 in omega arith
place_from (Digits d ∷ ms) lo n r (inl e) = absurd cc
place_from (Digits d ∷ ms) lo n r (inr i) = let x : suc d.at ≤ n.at = place_from ms (suc d.at) n r.1 i in let y : lo ≤ d.at = r.0 in omega arith
place_from (Final t at ∷ ms) lo n r (inl e) = absurd cc
place_from (Final t at ∷ ms) lo n r (inr i) = let x : suc at ≤ n.at = place_from ms (suc at) n r.1 i in let y : lo ≤ at = r.0 in omega arith

pub names_unique : (ms : List Mark) (lo : ℕ) → Rise lo (places ms) → (m n : Name) → IsIn (Spelled m) ms → IsIn (Spelled n) ms → m.at ≡ n.at → m ≡ n
names_unique [] lo r m n i j e = absurd i
names_unique (Plain t ∷ ms) lo r m n (inl a) j e = absurd cc
names_unique (Plain t ∷ ms) lo r m n (inr i) (inl b) e = absurd cc
names_unique (Plain t ∷ ms) lo r m n (inr i) (inr j) e = names_unique ms lo r m n i j e
names_unique (Digits d ∷ ms) lo r m n (inl a) j e = absurd cc
names_unique (Digits d ∷ ms) lo r m n (inr i) (inl b) e = absurd cc
names_unique (Digits d ∷ ms) lo r m n (inr i) (inr j) e = names_unique ms (suc d.at) r.1 m n i j e
names_unique (Final t at ∷ ms) lo r m n (inl a) j e = absurd cc
names_unique (Final t at ∷ ms) lo r m n (inr i) (inl b) e = absurd cc
names_unique (Final t at ∷ ms) lo r m n (inr i) (inr j) e = names_unique ms (suc at) r.1 m n i j e
names_unique (Spelled k ∷ ms) lo r m n (inl a) (inl b) e = ap (spelled_as k) a ∙ sym (ap (spelled_as k) b)
names_unique (Spelled k ∷ ms) lo r m n (inl a) (inr j) e =
    let x : m.at ≡ k.at = ap (λ (v : Name). v.at) (ap (spelled_as k) a) in
    let y : suc k.at ≤ n.at = place_from ms (suc k.at) n r.1 j in absurd (omega arith)
names_unique (Spelled k ∷ ms) lo r m n (inr i) (inl b) e =
    let x : n.at ≡ k.at = ap (λ (v : Name). v.at) (ap (spelled_as k) b) in
    let y : suc k.at ≤ m.at = place_from ms (suc k.at) m r.1 i in absurd (omega arith)
names_unique (Spelled k ∷ ms) lo r m n (inr i) (inr j) e = names_unique ms (suc k.at) r.1 m n i j e
