-- A core is well formed in one way: for proofs alone.
use Rattle.std.specs.Prelude.{ℕ, ◌+◌, Bool, true, List, [], ◌∷◌, ◌++◌}
use Rattle.std.specs.Coded.{Unit-prop, le_prop}
use Rattle.std.proofs.Props.{props}
use Rattle.slice_num.specs.Name.{is_name}
use Rattle.slice_num.specs.Rational.{IsTrue-prop}
use Rattle.slice_core.specs.Tree.{Tree, Core, Ask, Set, Cut, Join, Test, Give, End}
use Rattle.slice_core.specs.Agents.{HasAgents}
use Rattle.slice_core.specs.WellFormed.{IsBound, AreBound, IsSumOver, IsNumbered, spent, IsSingleUse, IsWellFormed}
use Rattle.slice_core.specs.declared.node.LinTerm.{LinTerm}
use Rattle.slice_core.specs.declared.node.Source.{Source}
use Rattle.slice_core.specs.declared.node.Source.TheVariants.{Const, Reg}

IsBound-prop : (r : ℕ) (s : Source) → IsProp (IsBound r s)
IsBound-prop r (Const v) = Unit-prop
IsBound-prop r (Reg n) = le_prop

AreBound-prop : (r : ℕ) (ts : List LinTerm) → IsProp (AreBound r ts)
AreBound-prop r [] = Unit-prop
AreBound-prop r (t ∷ ts) = hlevel (props, IsBound-prop r t.source, AreBound-prop r ts)

IsSumOver-prop : (r : ℕ) (ts : List LinTerm) → IsProp (IsSumOver r ts)
IsSumOver-prop r [] = hlevel props
IsSumOver-prop r (t ∷ ts) = hlevel (props, IsBound-prop r t.source, AreBound-prop r ts)

HasAgents-prop : (n : ℕ) (tree : Tree) → IsProp (HasAgents n tree)
HasAgents-prop n (Ask a p r next) = hlevel (props, HasAgents-prop n next)
HasAgents-prop n (Set r sum next) = HasAgents-prop n next
HasAgents-prop n (Cut a p amount left right next) = hlevel (props, HasAgents-prop n next)
HasAgents-prop n (Join p q new next) = HasAgents-prop n next
HasAgents-prop n (Test left right strict at_yes at_no) = hlevel (props, HasAgents-prop n at_yes, HasAgents-prop n at_no)
HasAgents-prop n (Give p a next) = hlevel (props, HasAgents-prop n next)
HasAgents-prop n End = Unit-prop

IsNumbered-prop : (r k : ℕ) (tree : Tree) → IsProp (IsNumbered r k tree)
IsNumbered-prop r k (Ask a p new next) = hlevel (props, IsNumbered-prop (r + 1) k next)
IsNumbered-prop r k (Set new sum next) = hlevel (props, IsSumOver-prop r sum.terms, IsNumbered-prop (r + 1) k next)
IsNumbered-prop r k (Cut a p amount left right next) = hlevel (props, IsSumOver-prop r amount.terms, IsNumbered-prop r (k + 2) next)
IsNumbered-prop r k (Join p q new next) = hlevel (props, IsNumbered-prop r (k + 1) next)
IsNumbered-prop r k (Test left right strict at_yes at_no) =
    hlevel (props, IsSumOver-prop r left.terms, IsSumOver-prop r right.terms, IsNumbered-prop r k at_yes, IsNumbered-prop r k at_no)
IsNumbered-prop r k (Give p a next) = hlevel (props, IsNumbered-prop r k next)
IsNumbered-prop r k End = Unit-prop

IsSingleUse-prop : (live : List Bool) (tree : Tree) → IsProp (IsSingleUse live tree)
IsSingleUse-prop live (Ask a p new next) = hlevel (props, IsSingleUse-prop live next)
IsSingleUse-prop live (Set new sum next) = IsSingleUse-prop live next
IsSingleUse-prop live (Cut a p amount left right next) = hlevel (props, IsSingleUse-prop (spent live p ++ true ∷ true ∷ []) next)
IsSingleUse-prop live (Join p q new next) = hlevel (props, IsSingleUse-prop (spent (spent live p) q ++ true ∷ []) next)
IsSingleUse-prop live (Test left right strict at_yes at_no) = hlevel (props, IsSingleUse-prop live at_yes, IsSingleUse-prop live at_no)
IsSingleUse-prop live (Give p a next) = hlevel (props, IsSingleUse-prop (spent live p) next)
IsSingleUse-prop live End = Unit-prop

pub IsWellFormed-prop : (core : Core) → IsProp (IsWellFormed core)
IsWellFormed-prop core x y = λ i. record {
  named = IsTrue-prop (is_name core.name) x.named y.named i;
  some_agent = le_prop x.some_agent y.some_agent i;
  few_agents = le_prop x.few_agents y.few_agents i;
  agents_there = HasAgents-prop core.agents core.tree x.agents_there y.agents_there i;
  numbered = IsNumbered-prop 0 1 core.tree x.numbered y.numbered i;
  single_use = IsSingleUse-prop (true ∷ []) core.tree x.single_use y.single_use i;
  few_nodes = le_prop x.few_nodes y.few_nodes i;
  few_deep = le_prop x.few_deep y.few_deep i;
  few_cuts = le_prop x.few_cuts y.few_cuts i;
}
