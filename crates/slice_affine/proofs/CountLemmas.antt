-- A program in which no fault stands keeps to the counts.
use Rattle.std.proofs.Common.{◌≡◌, ℕ, ◌≤◌, Bool, true, false, ◌&&◌, ◌==◌, List, [], ◌∷◌, ◌++◌, length, inl, inr, Option, Some, None, refl, arith, eqb-true}
use Rattle.std.specs.Prelude.{if◌then◌else◌, nat_le}
use Rattle.std.specs.List.{flat_map}
use Rattle.std.proofs.lemmas.Bool.Decides.{nat_tests}
use Rattle.slice_ast.specs.Code.{Code, End, Cut, Let, Join, Give, If, Pick, Call, PlainProc, PlainProgram}
use Rattle.slice_ast.specs.Spellable.{Each}
use Rattle.slice_ast.specs.declared.tree.Name.{Name}
use Rattle.slice_ast.specs.declared.tree.Number.{Number}
use Rattle.slice_ast.specs.declared.tree.AgentRef.{AgentRef}
use Rattle.slice_ast.specs.declared.tree.AgentRef.TheVariants as ref
use Rattle.slice_ast.specs.declared.tree.Fraction.{Fraction}
use Rattle.slice_ast.specs.declared.tree.Operand.{Operand}
use Rattle.slice_ast.specs.declared.tree.Operand.TheVariants as operand
use Rattle.slice_ast.specs.declared.tree.Term.{Term}
use Rattle.slice_ast.specs.declared.tree.Arg.{Arg}
use Rattle.slice_ast.specs.declared.tree.Arg.TheVariants as arg
use Rattle.slice_affine.specs.Scope.{Scope, Binding, bind, bind_number, params_scope, cake_scope}
use Rattle.slice_affine.specs.Looks.{unless, fit, procedure, den_faults, ref_faults, operand_faults, factor_faults, term_faults, sum_faults, arg_faults, pieces_faults, if_faults, pick_faults, faults_calling, call_faults}
use Rattle.slice_affine.specs.Ways.{IsIn, HasAlone}
use Rattle.slice_affine.specs.Rules.{block_flow, procs_flow, MeetsRules}
use Rattle.slice_affine.specs.Counts.{IsAgentOf, IsDen, KeepsFactor, KeepsOperand, KeepsTerm, KeepsArg, IsCallOf, CodeKeepsCounts, ProcsKeepCounts, KeepsCounts}
use Rattle.slice_affine.specs.declared.fault.AffineFault.{AffineFault}
use Rattle.slice_affine.specs.declared.fault.AffineFault.TheVariants.{Arity, YieldCount, AgentRange, ZeroDen}

-- ---- lists of faults in which none stands
free : (fs : List AffineFault) → ((f : AffineFault) → IsIn f fs → ⊥) → fs ≡ []
free [] h = refl
free (f ∷ fs) h = absurd (h f (inl refl))

left : (xs ys : List AffineFault) → xs ++ ys ≡ [] → xs ≡ []
left [] ys h = refl
left (x ∷ xs) ys h = absurd cc

right : (xs ys : List AffineFault) → xs ++ ys ≡ [] → ys ≡ []
right [] ys h = h
right (x ∷ xs) ys h = absurd cc

holds : (b : Bool) (f : AffineFault) → unless b f ≡ [] → b ≡ true
holds true f h = refl
holds false f h = absurd cc

both : (a b : Bool) → (a && b) ≡ true → (a ≡ true) × (b ≡ true)
both true b h = (refl, h)
both false b h = absurd cc

-- ---- parts of a statement
range : (count n : ℕ) → (nat_le 1 n && nat_le n count) ≡ true → (1 ≤ n) × (n ≤ count)
range count n h = let t = both (nat_le 1 n) (nat_le n count) h in (grind (arith, nat_tests, t.0), grind (arith, nat_tests, t.1))

agent_kept : (count : ℕ) (scope : Scope Binding) (a : AgentRef) → ref_faults count scope a ≡ [] → IsAgentOf count a
agent_kept count scope (ref.Fixed n) h = range count n.value (holds (nat_le 1 n.value && nat_le n.value count) (AgentRange n.at) h)
agent_kept count scope (ref.Named x) h = record {}

den_kept : (d : Option Number) → den_faults d ≡ [] → IsDen d
den_kept None h = record {}
den_kept (Some d) h = by (d.value == 0) refl h
  where
    by : (b : Bool) → (d.value == 0) ≡ b → (if b then ZeroDen d.at ∷ [] else []) ≡ [] → 1 ≤ d.value
    by true e g = let bad : (ZeroDen d.at ∷ []) ≡ [] = g in absurd cc
    by false e g = grind (arith, nat_tests, e)

operand_kept : (count : ℕ) (scope : Scope Binding) (o : Operand) → operand_faults count scope o ≡ [] → KeepsOperand count o
operand_kept count scope (operand.Fraction f) h = den_kept f.den h
operand_kept count scope (operand.Named x) h = record {}
operand_kept count scope (operand.Value a p) h = agent_kept count scope a (left (ref_faults count scope a) _ h)

factor_kept : (count : ℕ) (scope : Scope Binding) (o : Option Fraction) → factor_faults count scope o ≡ [] → KeepsFactor o
factor_kept count scope None h = record {}
factor_kept count scope (Some f) h = den_kept f.den h

term_kept : (count : ℕ) (scope : Scope Binding) (t : Term) → term_faults count scope t ≡ [] → KeepsTerm count t
term_kept count scope t h = (
  factor_kept count scope t.factor (left (factor_faults count scope t.factor) (operand_faults count scope t.operand) h),
  operand_kept count scope t.operand (right (factor_faults count scope t.factor) (operand_faults count scope t.operand) h),
)

terms_kept : (count : ℕ) (scope : Scope Binding) (ts : List Term) → flat_map (term_faults count scope) ts ≡ [] → Each (KeepsTerm count) ts
terms_kept count scope [] h = record {}
terms_kept count scope (t ∷ ts) h = (
  term_kept count scope t (left (term_faults count scope t) (flat_map (term_faults count scope) ts) h),
  terms_kept count scope ts (right (term_faults count scope t) (flat_map (term_faults count scope) ts) h),
)

arg_kept : (count : ℕ) (scope : Scope Binding) (x : Arg) → arg_faults count scope x ≡ [] → KeepsArg count x
arg_kept count scope (arg.Agent a) h = agent_kept count scope a h
arg_kept count scope (arg.Piece p) h = record {}
arg_kept count scope (arg.Number s) h = terms_kept count scope s.terms h

args_kept : (count : ℕ) (scope : Scope Binding) (xs : List Arg) → flat_map (arg_faults count scope) xs ≡ [] → Each (KeepsArg count) xs
args_kept count scope [] h = record {}
args_kept count scope (x ∷ xs) h = (
  arg_kept count scope x (left (arg_faults count scope x) (flat_map (arg_faults count scope) xs) h),
  args_kept count scope xs (right (arg_faults count scope x) (flat_map (arg_faults count scope) xs) h),
)

call_kept : (procs : List PlainProc) (f : Name) (xs : List Arg) (ns : List Name) (end : ℕ) → call_faults procs f xs ns end ≡ [] → IsCallOf procs f xs ns
call_kept procs f xs ns end h = by (procedure procs f.word) refl h
  where
    by : (o : Option PlainProc) → procedure procs f.word ≡ o → faults_calling o f xs ns end ≡ [] → IsCallOf procs f xs ns
    by None e g = absurd cc
    by (Some q) e g =
        let one = unless (fit xs q.params) (Arity f.at) in
        let other = unless (length ns == length q.body.yields) (YieldCount end) in
        (q, e, holds (fit xs q.params) (Arity f.at) (left one other g), eqb-true (length ns) (length q.body.yields) (holds (length ns == length q.body.yields) (YieldCount end) (right one other g)))

-- ---- statements
code_kept : (count : ℕ) (procs : List PlainProc) (scope : Scope Binding) (c : Code) (ys : List Name) → ((f : AffineFault) → HasAlone (block_flow count procs scope c ys) f → ⊥) → CodeKeepsCounts count procs c
code_kept count procs scope End ys h = record {}
code_kept count procs scope (Cut a p s l r rest) ys h =
    let none = free _ (λ f i. h f (inl i)) in (
      agent_kept count scope a (left (ref_faults count scope a) _ (left (ref_faults count scope a ++ pieces_faults scope (p ∷ [])) (sum_faults count scope s) none)),
      terms_kept count scope s.terms (right (ref_faults count scope a ++ pieces_faults scope (p ∷ [])) (sum_faults count scope s) none),
      code_kept count procs (bind (l ∷ r ∷ []) scope) rest ys (λ f i. h f (inr (inr i))),
    )
code_kept count procs scope (Let n s rest) ys h =
    (terms_kept count scope s.terms (free _ (λ f i. h f (inl i))), code_kept count procs (bind_number n scope) rest ys (λ f i. h f (inr (inr i))))
code_kept count procs scope (Join p q n rest) ys h = code_kept count procs (bind (n ∷ []) scope) rest ys (λ f i. h f (inr (inr i)))
code_kept count procs scope (Give p a rest) ys h = (
  agent_kept count scope a (right (pieces_faults scope (p ∷ [])) (ref_faults count scope a) (free _ (λ f i. h f (inl i)))),
  code_kept count procs scope rest ys (λ f i. h f (inr (inr i))),
)
code_kept count procs scope (If l o r one one_yields other other_yields names end rest) ys h =
    let none = free (sum_faults count scope l ++ sum_faults count scope r) (λ f i. h f (inl i)) in
    let ends = free (if_faults one_yields other_yields names end) (λ f i. h f (inr (inr (inr (inr (inl i)))))) in
    let same = both (length names == length one_yields) (length names == length other_yields) (holds _ (YieldCount end) ends) in (
      terms_kept count scope l.terms (left (sum_faults count scope l) (sum_faults count scope r) none),
      terms_kept count scope r.terms (right (sum_faults count scope l) (sum_faults count scope r) none),
      code_kept count procs scope one one_yields (λ f i. h f (inr (inr (inl i)))),
      code_kept count procs scope other other_yields (λ f i. h f (inr (inr (inr (inl i))))),
      eqb-true (length names) (length one_yields) same.0,
      eqb-true (length names) (length other_yields) same.1,
      code_kept count procs (bind names scope) rest ys (λ f i. h f (inr (inr (inr (inr (inr (inr i))))))),
    )
code_kept count procs scope (Pick a ps ns end rest) ys h =
    let none = free (ref_faults count scope a ++ pieces_faults scope ps ++ pick_faults ps ns end) (λ f i. h f (inl i)) in
    let same = both (nat_le 2 (length ps)) (length ns == length ps) (holds _ (YieldCount end) (right (ref_faults count scope a ++ pieces_faults scope ps) (pick_faults ps ns end) none)) in (
      agent_kept count scope a (left (ref_faults count scope a) (pieces_faults scope ps) (left (ref_faults count scope a ++ pieces_faults scope ps) (pick_faults ps ns end) none)),
      grind (arith, nat_tests, same.0),
      eqb-true (length ns) (length ps) same.1,
      code_kept count procs (bind ns scope) rest ys (λ f i. h f (inr (inr i))),
    )
code_kept count procs scope (Call f xs ns end rest) ys h =
    let none = free (call_faults procs f xs ns end ++ flat_map (arg_faults count scope) xs) (λ g i. h g (inl i)) in (
      args_kept count scope xs (right (call_faults procs f xs ns end) (flat_map (arg_faults count scope) xs) none),
      call_kept procs f xs ns end (left (call_faults procs f xs ns end) (flat_map (arg_faults count scope) xs) none),
      code_kept count procs (bind ns scope) rest ys (λ g i. h g (inr (inr i))),
    )

-- ---- programs
procs_kept : (p : PlainProgram) (earlier qs : List PlainProc) → ((f : AffineFault) → HasAlone (procs_flow p earlier qs) f → ⊥) → (1 ≤ p.agents.value) × (p.agents.value ≤ 16) × ProcsKeepCounts p earlier qs
procs_kept p earlier [] h =
    let t = range 16 p.agents.value (holds (nat_le 1 p.agents.value && nat_le p.agents.value 16) (AgentRange p.agents.at) (free _ (λ f i. h f (inl i)))) in
    (t.0, t.1, code_kept p.agents.value earlier cake_scope p.body [] (λ f i. h f (inr (inr i))))
procs_kept p earlier (q ∷ qs) h =
    let t = procs_kept p (earlier ++ q ∷ []) qs (λ f i. h f (inr (inr (inr (inl i))))) in
    (t.0, t.1, (code_kept p.agents.value earlier (params_scope q.params) q.body.code q.body.yields (λ f i. h f (inr (inr (inl i)))), t.2))

pub counts_kept : (p : PlainProgram) → MeetsRules p → KeepsCounts p
counts_kept p h = procs_kept p [] p.procs (λ f i. h f (inl i))
