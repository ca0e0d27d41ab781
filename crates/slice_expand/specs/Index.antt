-- The tree over the bits of words by which the code finds a name. For clauses of private functions and proofs: a reader of the
-- definitions needs none of it.
use Rattle.std.specs.Prelude.{◌≡◌, ℕ, zero, suc, ◌*◌, ◌/◌, ◌%◌, ◌^◌, ◌==◌, min, Bool, true, false, List, [], ◌∷◌, length, Option, Some, None, slice_index_or}
use Rattle.std.specs.Borrow.{Bor}
use Rattle.std.specs.declared.rc.Rc.{Rc}
use Rattle.std.specs.declared.alloc.Global.{Global}
use Rattle.slice_expand.specs.Scope.{Scope, look}
use Rattle.slice_expand.specs.Stand.{link_scope, scope_of}
use Rattle.slice_expand.specs.declared.names.Link.{Link}
use Rattle.slice_expand.specs.declared.index.Branch.{Branch}
use Rattle.slice_expand.specs.declared.index.Branch.TheOpen.{Branch-F}
use Rattle.slice_expand.specs.declared.index.Branch.TheFolds.{fold-Branch}

-- which names were bound up to the latest that is found here, and what is found by further bits
pub data Index : Type 0 where
  Nowhere : Index
  Fork : (here : Scope ℕ) (at_zero at_one : Index) → Index

abbrev pub here_of : Index → Scope ℕ
here_of Nowhere = []
here_of (Fork here z o) = here

abbrev pub zero_of : Index → Index
zero_of Nowhere = Nowhere
zero_of (Fork here z o) = z

abbrev pub one_of : Index → Index
one_of Nowhere = Nowhere
one_of (Fork here z o) = o

-- what is found by one bit more
abbrev pub child_of : Bool → Index → Index
child_of true t = one_of t
child_of false t = zero_of t

-- what is found by these bits
abbrev pub found : Index → List Bool → Scope ℕ
found t [] = here_of t
found t (b ∷ bits) = found (child_of b t) bits

-- the same tree, where these bits lead to that scope
abbrev pub put : Index → List Bool → Scope ℕ → Index
put t [] scope = Fork scope (zero_of t) (one_of t)
put t (true ∷ bits) scope = Fork (here_of t) (zero_of t) (put (one_of t) bits scope)
put t (false ∷ bits) scope = Fork (here_of t) (put (zero_of t) bits scope) (one_of t)

-- the bit of that number: eight a byte, the lowest first
abbrev pub bit_at : List ℕ → ℕ → Bool
bit_at word i = ((slice_index_or word (i / 8) 0 / 2 ^ (i % 8)) % 2) == 1

-- the first n bits, the last of them first
abbrev pub bits_below : List ℕ → ℕ → List Bool
bits_below word zero = []
bits_below word (suc n) = bit_at word n ∷ bits_below word n

-- how many bits lead to a word: those of its first 64 bytes
abbrev pub count_of : List ℕ → ℕ
count_of word = 8 * min (length word) 64

abbrev pub bits_of : List ℕ → List Bool
bits_of word = bits_below word (count_of word)

-- each word is found among the names up to the latest that its bits lead to
abbrev pub IsIndexed : Index → Scope ℕ → Type 0
IsIndexed t scope = (word : List ℕ) → look (found t (bits_of word)) word ≡ look scope word

-- ---- the code's tree as such data

abbrev pub index_in : Option (Rc Index Global) → Index
index_in None = Nowhere
index_in (Some r) = r.value

abbrev pub branch_step : Branch-F Index → Index
branch_step b = Fork (scope_of b.here) (index_in b.zero) (index_in b.one)

abbrev pub index_below : Branch → Index
index_below = fold-Branch Index branch_step

abbrev pub index_of : Option (Rc Branch Global) → Index
index_of None = Nowhere
index_of (Some r) = index_below r.value

-- a branch that is lent, or none
abbrev pub lent_index : Option (Bor (Rc Branch Global)) → Index
lent_index None = Nowhere
lent_index (Some r) = index_below r.now.value

-- the names up to a link that is lent, or none
abbrev pub lent_scope : Option (Bor (Rc Link Global)) → Scope ℕ
lent_scope None = []
lent_scope (Some r) = link_scope r.now.value
