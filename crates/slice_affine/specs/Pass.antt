-- The pass of the checker: what it keeps of the names in scope, statement by statement. It serves the contracts of private functions: a reader who believes Faults, Scope, Looks, Ways and Rules needs nothing of this file.
use Rattle.std.specs.Prelude.{ℕ, zero, suc, min, nat_lt, is_some, length, if◌then◌else◌, List, [], ◌∷◌, ◌++◌, take, Option, Some, None, bytes_eq}
use Rattle.std.specs.Option.{option_map}
use Rattle.slice_ast.specs.Code.{Code, End, Cut, Let, Join, Give, If, Pick, Call, PlainBlock, PlainProc, Head, ACut, ALet, AJoin, AGive, AnIf, APick, ACall}
use Rattle.slice_ast.specs.declared.tree.Kind.{Kind}
use Rattle.slice_ast.specs.declared.tree.Kind.TheVariants as kind
use Rattle.slice_ast.specs.declared.tree.Name.{Name}
use Rattle.slice_ast.specs.declared.tree.AgentRef.{AgentRef}
use Rattle.slice_ast.specs.declared.tree.Fraction.{Fraction}
use Rattle.slice_ast.specs.declared.tree.Operand.{Operand}
use Rattle.slice_ast.specs.declared.tree.Operand.TheVariants as operand
use Rattle.slice_ast.specs.declared.tree.Term.{Term}
use Rattle.slice_ast.specs.declared.tree.Sum.{Sum}
use Rattle.slice_ast.specs.declared.tree.Arg.{Arg}
use Rattle.slice_ast.specs.declared.tree.Arg.TheVariants as arg
use Rattle.slice_affine.specs.Scope.{Scope, look}
use Rattle.slice_affine.specs.Faults.{is_before}
use Rattle.slice_affine.specs.Looks.{unbound, ref_faults, zero_den, if_faults, pick_faults, call_faults}
use Rattle.slice_affine.specs.declared.trail.Use.{Use}
use Rattle.slice_affine.specs.declared.fault.AffineFault.{AffineFault}
use Rattle.slice_affine.specs.declared.fault.AffineFault.TheVariants.{UsedTwice, Rebound}

-- of two faults, where there are two, the one that is told
unfoldable pub earlier : Option AffineFault → Option AffineFault → Option AffineFault
earlier None g = g
earlier (Some f) None = Some f
earlier (Some f) (Some g) = if is_before g f then Some g else Some f

-- of two places, where there are two, the lesser
abbrev pub lesser : Option ℕ → Option ℕ → Option ℕ
lesser None q = q
lesser (Some p) None = Some p
lesser (Some p) (Some q) = Some (min p q)

-- the names in scope, each with its kind and with the least place of a use on some way so far
abbrev pub Ledger : Type 0
Ledger = Scope (Option ℕ)

-- where the word stands among the names in scope
abbrev pub index_of : {B : Type 0} → List ℕ → Scope B → Option ℕ
index_of word [] = None
index_of word (e ∷ es) = if bytes_eq word e.0 then Some 0 else option_map (λ i. suc i) (index_of word es)

-- a piece that is used at the place
abbrev pub used_by : ℕ → Kind × Option ℕ → Kind × Option ℕ
used_by p m = (m.0, lesser m.1 (Some p))

-- a piece whose use is taken back
abbrev pub unused_by : Kind × Option ℕ → Kind × Option ℕ
unused_by m = (m.0, None)

-- the entry at the index changed so
abbrev pub changed_at : (Kind × Option ℕ → Kind × Option ℕ) → ℕ → Ledger → Ledger
changed_at f i [] = []
changed_at f zero (e ∷ es) = (e.0, f e.1) ∷ es
changed_at f (suc i) (e ∷ es) = e ∷ changed_at f i es

-- what the checker has at a statement: how many agents there are, the names in scope, the uses of this block in order, and the fault that is told of those found in the statement
pub record State : Type 0 where
  pub count : ℕ
  pub names : Ledger
  pub trail : List Use
  pub found : Option AffineFault

-- of one fault and a list, the one that is told
unfoldable pub noted : Option AffineFault → List AffineFault → Option AffineFault
noted o [] = o
noted o (f ∷ fs) = noted (earlier o (Some f)) fs

-- these faults are found
abbrev pub looked : List AffineFault → State → State
looked fs s = record s { found = noted s.found fs }

-- the fault of a name whose piece was used
abbrev pub told_first : Option ℕ → Name → List AffineFault
told_first None n = []
told_first (Some first) n = UsedTwice n.word n.at first ∷ []

-- the least place of a use, where it is a piece that was used
abbrev pub first_of : Option (Kind × Option ℕ) → Option ℕ
first_of (Some (kind.Piece, o)) = o
first_of m = None

-- the fault of a name that stands for a piece that was used
abbrev pub told_at : Option (Kind × Option ℕ) → Name → List AffineFault
told_at m n = told_first (first_of m) n

-- one step for each item, in order
abbrev pub stepped : {A : Type 0} → (A → State → State) → List A → State → State
stepped step [] s = s
stepped step (x ∷ xs) s = stepped step xs (step x s)

-- the pieces of these names are asked
abbrev pub asked_one : Name → State → State
asked_one n s = looked (told_at (look s.names n.word) n) s

abbrev pub asked : List Name → State → State
asked = stepped asked_one

-- a use is noted
abbrev pub marked : Use → State → State
marked u s = record s { names = changed_at (used_by u.place) u.index s.names; trail = s.trail ++ u ∷ [] }

-- the piece of a name is used
abbrev pub used_where : Option (Kind × Option ℕ) → Option ℕ → Name → State → State
used_where (Some (kind.Piece, o)) (Some i) n s = marked (record { index = i; place = n.at }) (looked (told_first o n) s)
used_where m i n s = s

abbrev pub used_one : Name → State → State
used_one n s = used_where (look s.names n.word) (index_of n.word s.names) n s

-- the pieces of these names are used, in order
abbrev pub used : List Name → State → State
used = stepped used_one

-- a name is bound, unless it is in scope
abbrev pub bound_one : Kind → Name → State → State
bound_one k n s = if is_some (look s.names n.word) then looked (Rebound n.word n.at ∷ []) s else record s { names = s.names ++ (n.word, (k, None)) ∷ [] }

-- these names are bound, in order
abbrev pub bound : Kind → List Name → State → State
bound k = stepped (bound_one k)

-- uses that a block made, as far as they are of names outside it
abbrev pub remarked_one : Use → State → State
remarked_one u s = if nat_lt u.index (length s.names) then marked u s else s

abbrev pub remarked : List Use → State → State
remarked = stepped remarked_one

-- uses are taken back
abbrev pub cleared : List Use → Ledger → Ledger
cleared [] l = l
cleared (u ∷ us) l = cleared us (changed_at unused_by u.index l)

pub data Passed : Type 0 where
  Went : (state : State) → Passed
  Failed : (fault : AffineFault) → Passed

abbrev pub then_pass : Passed → (State → Passed) → Passed
then_pass (Went s) go = go s
then_pass (Failed f) go = Failed f

-- the end of a statement: the fault that was found, where there is one
abbrev pub told_of : Option AffineFault → State → Passed
told_of None s = Went s
told_of (Some f) s = Failed f

abbrev pub tell : State → Passed
tell s = told_of s.found s

-- the state at the begin of a block inside, and what is left after it
abbrev pub inside : State → State
inside s = record s { trail = [] }

abbrev pub outside : State → State → State
outside before after = record after { names = take (length before.names) (cleared after.trail after.names); trail = before.trail }

-- what an agent, a name, a fraction, an operand, a term, a sum and an argument look at
abbrev pub looked_ref : AgentRef → State → State
looked_ref a s = looked (ref_faults s.count s.names a) s

abbrev pub looked_name : Kind → Name → State → State
looked_name k n s = looked (unbound s.names k n) s

abbrev pub looked_fraction : Fraction → State → State
looked_fraction f s = looked (zero_den f) s

abbrev pub looked_factor : Option Fraction → State → State
looked_factor None s = s
looked_factor (Some f) s = looked_fraction f s

abbrev pub looked_operand : Operand → State → State
looked_operand (operand.Fraction f) s = looked_fraction f s
looked_operand (operand.Named x) s = looked_name kind.Number x s
looked_operand (operand.Value a p) s = looked_name kind.Piece p (looked_ref a s)

abbrev pub looked_term : Term → State → State
looked_term t s = looked_operand t.operand (looked_factor t.factor s)

abbrev pub looked_sum : Sum → State → State
looked_sum m = stepped looked_term m.terms

abbrev pub looked_arg : Arg → State → State
looked_arg (arg.Agent a) s = looked_ref a s
looked_arg (arg.Piece p) s = looked_name kind.Piece p s
looked_arg (arg.Number m) s = looked_sum m s

abbrev pub looked_args : List Arg → State → State
looked_args = stepped looked_arg

abbrev pub looked_pieces : List Name → State → State
looked_pieces = stepped (looked_name kind.Piece)

-- the pieces that they ask
abbrev pub asked_operand : Operand → State → State
asked_operand (operand.Fraction f) s = s
asked_operand (operand.Named x) s = s
asked_operand (operand.Value a p) s = asked_one p s

abbrev pub asked_term : Term → State → State
asked_term t s = asked_operand t.operand s

abbrev pub asked_sum : Sum → State → State
asked_sum m = stepped asked_term m.terms

abbrev pub asked_arg : Arg → State → State
asked_arg (arg.Agent a) s = s
asked_arg (arg.Piece p) s = s
asked_arg (arg.Number m) s = asked_sum m s

abbrev pub asked_args : List Arg → State → State
asked_args = stepped asked_arg

-- the pieces that they use
abbrev pub used_arg : Arg → State → State
used_arg (arg.Agent a) s = s
used_arg (arg.Piece p) s = used_one p s
used_arg (arg.Number m) s = s

abbrev pub used_args : List Arg → State → State
used_args = stepped used_arg

-- a statement up to its end: what it looks at, asks, uses and binds, in that order
abbrev pub cut_step : AgentRef → Name → Sum → Name → Name → State → State
cut_step a p m l r s = bound_one kind.Piece r (bound_one kind.Piece l (used_one p (asked_sum m (looked_sum m (looked_name kind.Piece p (looked_ref a s))))))

abbrev pub let_step : Name → Sum → State → State
let_step n m s = bound_one kind.Number n (asked_sum m (looked_sum m s))

abbrev pub join_step : Name → Name → Name → State → State
join_step p q n s = bound_one kind.Piece n (used_one q (used_one p (looked_name kind.Piece q (looked_name kind.Piece p s))))

abbrev pub give_step : Name → AgentRef → State → State
give_step p a s = used_one p (looked_ref a (looked_name kind.Piece p s))

abbrev pub test_step : Sum → Sum → State → State
test_step l r s = asked_sum r (asked_sum l (looked_sum r (looked_sum l s)))

abbrev pub end_step : List Name → List Name → List Name → ℕ → State → State
end_step ys ns names end s = bound kind.Piece names (looked (if_faults ys ns names end) s)

abbrev pub pick_step : AgentRef → List Name → List Name → ℕ → State → State
pick_step a ps ns end s = bound kind.Piece ns (used ps (looked (pick_faults ps ns end) (looked_pieces ps (looked_ref a s))))

abbrev pub call_step : List PlainProc → Name → List Arg → List Name → ℕ → State → State
call_step procs f xs ns end s = bound kind.Piece ns (used_args xs (asked_args xs (looked_args xs (looked (call_faults procs f xs ns end) s))))

abbrev pub yield_step : List Name → State → State
yield_step ys s = used ys (looked_pieces ys s)

-- a block inside that was gone through: the uses that it made, and the state that it leaves; or the fault that it has
pub data Closed : Type 0 where
  Left : (uses : List Use) (state : State) → Closed
  Broken : (fault : AffineFault) → Closed

abbrev pub closed : State → Passed → Closed
closed before (Went after) = Left after.trail (outside before after)
closed before (Failed f) = Broken f

abbrev pub then_closed : Closed → (List Use → State → Passed) → Passed
then_closed (Left uses s) go = go uses s
then_closed (Broken f) go = Failed f

-- the statements of a block and what it yields
module _ (procs : List PlainProc) where
  abbrev pub pass : Code → List Name → State → Passed
  pass End ys s = tell (yield_step ys s)
  pass (Cut a p m l r rest) ys s = then_pass (tell (cut_step a p m l r s)) (pass rest ys)
  pass (Let n m rest) ys s = then_pass (tell (let_step n m s)) (pass rest ys)
  pass (Join p q n rest) ys s = then_pass (tell (join_step p q n s)) (pass rest ys)
  pass (Give p a rest) ys s = then_pass (tell (give_step p a s)) (pass rest ys)
  pass (If l o r one one_yields other other_yields names end rest) ys s =
      then_pass (tell (test_step l r s))
      (λ t. then_closed (closed t (pass one one_yields (inside t)))
      (λ uses u. then_closed (closed u (pass other other_yields (inside u)))
      (λ more v. then_pass (tell (end_step one_yields other_yields names end (remarked more (remarked uses v))))
      (pass rest ys))))
  pass (Pick a ps ns end rest) ys s = then_pass (tell (pick_step a ps ns end s)) (pass rest ys)
  pass (Call f xs ns end rest) ys s = then_pass (tell (call_step procs f xs ns end s)) (pass rest ys)

  -- a block inside
  abbrev pub block_pass : PlainBlock → State → Closed
  block_pass b s = closed s (pass b.code b.yields (inside s))

  -- an `if` alone: its test, its blocks, the uses of both, and its end
  abbrev pub choice_pass : Sum → Sum → PlainBlock → PlainBlock → List Name → ℕ → State → Passed
  choice_pass l r y n names end s =
      then_pass (tell (test_step l r s))
      (λ t. then_closed (block_pass y t)
      (λ uses u. then_closed (block_pass n u)
      (λ more v. tell (end_step y.yields n.yields names end (remarked more (remarked uses v))))))

  -- a statement alone
  abbrev pub one_pass : Head → State → Passed
  one_pass (ACut a p m l r) s = tell (cut_step a p m l r s)
  one_pass (ALet n m) s = tell (let_step n m s)
  one_pass (AJoin p q n) s = tell (join_step p q n s)
  one_pass (AGive p a) s = tell (give_step p a s)
  one_pass (AnIf l o r y n names end) s = choice_pass l r y n names end s
  one_pass (APick a ps ns end) s = tell (pick_step a ps ns end s)
  one_pass (ACall f xs ns end) s = tell (call_step procs f xs ns end s)
