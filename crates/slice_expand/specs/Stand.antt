-- The code's names as a scope. For clauses of private functions and proofs: a reader of the definitions needs none of it.
use Rattle.std.specs.Prelude.{ℕ, List, [], ◌∷◌, map, Option, Some, None}
use Rattle.std.specs.declared.rc.Rc.{Rc}
use Rattle.std.specs.declared.alloc.Global.{Global}
use Rattle.slice_expand.specs.Scope.{Meaning, AnAgent, APiece, ANumber, Scope}
use Rattle.slice_expand.specs.declared.names.Meaning.TheVariants as code
use Rattle.slice_expand.specs.declared.names.Meaning as declared
use Rattle.slice_expand.specs.declared.names.Link.{Link}
use Rattle.slice_expand.specs.declared.names.Link.TheOpen.{Link-F}
use Rattle.slice_expand.specs.declared.names.Link.TheFolds.{fold-Link}

abbrev pub meaning_of : declared.Meaning → Meaning ℕ
meaning_of (code.Agent a) = AnAgent a
meaning_of (code.Piece p) = APiece p
meaning_of (code.Number r) = ANumber r

abbrev pub meanings_of : List declared.Meaning → List (Meaning ℕ)
meanings_of = map meaning_of

-- a scope that is there, or none
abbrev pub scope_in : Option (Rc (Scope ℕ) Global) → Scope ℕ
scope_in None = []
scope_in (Some r) = r.value

-- a name over the scope of those before it
abbrev pub link_step : Link-F (Scope ℕ) → Scope ℕ
link_step l = record { word = l.word.now; meaning = meaning_of l.meaning } ∷ scope_in l.before

abbrev pub link_scope : Link → Scope ℕ
link_scope = fold-Link (Scope ℕ) link_step

-- the names as a scope
abbrev pub scope_of : Option (Rc Link Global) → Scope ℕ
scope_of None = []
scope_of (Some r) = link_scope r.value
