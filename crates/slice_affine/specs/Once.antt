-- That a program is parsed is a fact that holds in one way only, so that `Checked` can keep it as it is. It serves that type alone: a reader who believes Conditions needs nothing of this file.
use Rattle.std.specs.Prelude.{ℕ, zero, suc, List, [], ◌∷◌, Option, Some, None}
use Rattle.std.proofs.Props.{props}
use Rattle.slice_ast.specs.Code.{Code, End, Cut, Let, Join, Give, If, Pick, Call, PlainProc, PlainProgram}
use Rattle.slice_ast.specs.Spellable.{Each, EachOfSome, HasName, CanSpellRef, CanSpellDen, CanSpellFactor, CanSpellOperand, CanSpellTerm, CanSpellTerms, CanSpellArg, CanSpellParam, CanSpellCode, CanSpellProc, IsSpellable}
use Rattle.slice_ast.specs.Limits.{IsShortArg, IsCodeWithin, IsWithinLimits}
use Rattle.slice_ast.specs.Tokens.{program_marks}
use Rattle.slice_ast.specs.declared.tree.Name.{Name}
use Rattle.slice_ast.specs.declared.tree.AgentRef.{AgentRef}
use Rattle.slice_ast.specs.declared.tree.AgentRef.TheVariants as ref
use Rattle.slice_ast.specs.declared.tree.Number.{Number}
use Rattle.slice_ast.specs.declared.tree.Fraction.{Fraction}
use Rattle.slice_ast.specs.declared.tree.Operand.{Operand}
use Rattle.slice_ast.specs.declared.tree.Operand.TheVariants as operand
use Rattle.slice_ast.specs.declared.tree.Term.{Term}
use Rattle.slice_ast.specs.declared.tree.Param.{Param}
use Rattle.slice_ast.specs.declared.tree.Arg.{Arg}
use Rattle.slice_ast.specs.declared.tree.Arg.TheVariants as arg
use Rattle.slice_affine.specs.Conditions.{places, Rise, IsParsed}

each-prop : {A : Type 0} (P : A → Type 0) → ((x : A) → IsProp (P x)) → (xs : List A) → IsProp (Each P xs)
each-prop P h [] = hlevel props
each-prop P h (x ∷ xs) = hlevel (props, h x, each-prop P h xs)

some-prop : {A : Type 0} (P : A → Type 0) → ((x : A) → IsProp (P x)) → (xs : List A) → IsProp (EachOfSome P xs)
some-prop P h [] = hlevel props
some-prop P h (x ∷ xs) = hlevel (props, h x, each-prop P h xs)

-- ---- what the grammar can spell
name-prop : (n : Name) → IsProp (HasName n)
name-prop n = hlevel props

ref-prop : (a : AgentRef) → IsProp (CanSpellRef a)
ref-prop (ref.Fixed n) = hlevel props
ref-prop (ref.Named x) = hlevel props

den-prop : (d : Option Number) → IsProp (CanSpellDen d)
den-prop None = hlevel props
den-prop (Some d) = hlevel props

factor-prop : (f : Option Fraction) → IsProp (CanSpellFactor f)
factor-prop None = hlevel props
factor-prop (Some f) = hlevel (props, den-prop f.den)

operand-prop : (o : Operand) → IsProp (CanSpellOperand o)
operand-prop (operand.Fraction f) = hlevel (props, den-prop f.den)
operand-prop (operand.Named x) = hlevel props
operand-prop (operand.Value a p) = hlevel (props, ref-prop a)

term-prop : (t : Term) → IsProp (CanSpellTerm t)
term-prop t = hlevel (props, factor-prop t.factor, operand-prop t.operand)

terms-prop : (ts : List Term) → IsProp (CanSpellTerms ts)
terms-prop [] = hlevel props
terms-prop (t ∷ ts) = hlevel (props, term-prop t, each-prop CanSpellTerm term-prop ts)

arg-prop : (x : Arg) → IsProp (CanSpellArg x)
arg-prop (arg.Agent a) = ref-prop a
arg-prop (arg.Piece p) = name-prop p
arg-prop (arg.Number s) = terms-prop s.terms

code-prop : (c : Code) → IsProp (CanSpellCode c)
code-prop End = hlevel props
code-prop (Cut a p s l r rest) = hlevel (props, ref-prop a, terms-prop s.terms, code-prop rest)
code-prop (Let n s rest) = hlevel (props, terms-prop s.terms, code-prop rest)
code-prop (Join p q n rest) = hlevel (props, code-prop rest)
code-prop (Give p a rest) = hlevel (props, ref-prop a, code-prop rest)
code-prop (If l o r y ys n ns names end rest) =
    hlevel (props, terms-prop l.terms, terms-prop r.terms, code-prop y, each-prop HasName name-prop ys, code-prop n, each-prop HasName name-prop ns, each-prop HasName name-prop names, code-prop rest)
code-prop (Pick a ps ns end rest) = hlevel (props, ref-prop a, some-prop HasName name-prop ps, some-prop HasName name-prop ns, code-prop rest)
code-prop (Call f xs ns end rest) = hlevel (props, each-prop CanSpellArg arg-prop xs, each-prop HasName name-prop ns, code-prop rest)

param-prop : (p : Param) → IsProp (CanSpellParam p)
param-prop p = hlevel props

proc-prop : (p : PlainProc) → IsProp (CanSpellProc p)
proc-prop p = hlevel (props, each-prop CanSpellParam param-prop p.params, code-prop p.body.code, each-prop HasName name-prop p.body.yields)

spellable-prop : (p : PlainProgram) → IsProp (IsSpellable p)
spellable-prop p = hlevel (props, each-prop CanSpellProc proc-prop p.procs, code-prop p.body)

-- ---- limits
short-prop : (x : Arg) → IsProp (IsShortArg x)
short-prop (arg.Agent a) = hlevel props
short-prop (arg.Piece p) = hlevel props
short-prop (arg.Number s) = hlevel props

within-prop : (room : ℕ) (c : Code) → IsProp (IsCodeWithin room c)
within-prop room End = hlevel props
within-prop room (Cut a p s l r rest) = hlevel (props, within-prop room rest)
within-prop room (Let n s rest) = hlevel (props, within-prop room rest)
within-prop room (Join p q n rest) = within-prop room rest
within-prop room (Give p a rest) = within-prop room rest
within-prop zero (If l o r y ys n ns names end rest) = hlevel props
within-prop (suc room) (If l o r y ys n ns names end rest) = hlevel (props, within-prop room y, within-prop room n, within-prop (suc room) rest)
within-prop room (Pick a ps ns end rest) = within-prop room rest
within-prop room (Call f xs ns end rest) = hlevel (props, each-prop IsShortArg short-prop xs, within-prop room rest)

limits-prop : (p : PlainProgram) → IsProp (IsWithinLimits p)
limits-prop p = hlevel (props, each-prop (λ q. IsCodeWithin 63 q.body.code) (λ q. within-prop 63 q.body.code) p.procs, within-prop 63 p.body)

-- ---- places
rise-prop : (lo : ℕ) (xs : List ℕ) → IsProp (Rise lo xs)
rise-prop lo [] = hlevel props
rise-prop lo (x ∷ xs) = hlevel (props, rise-prop (suc x) xs)

pub parsed-prop : (p : PlainProgram) → IsProp (IsParsed p)
parsed-prop p = hlevel (props, spellable-prop p, limits-prop p, rise-prop 0 (places (program_marks p)))
