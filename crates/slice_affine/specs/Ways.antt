-- The ways through a program whose names are resolved, and the faults that stand in it.
use Rattle.std.specs.Prelude.{◌≡◌, ℕ, ◌≤◌, Bool, true, false, List, [], ◌∷◌, ◌++◌, ◌⊎◌}
use Rattle.slice_ast.specs.declared.tree.Name.{Name}
use Rattle.slice_affine.specs.Scope.{Binding}
use Rattle.slice_affine.specs.Faults.{is_before}
use Rattle.slice_affine.specs.declared.fault.AffineFault.{AffineFault}
use Rattle.slice_affine.specs.declared.fault.AffineFault.TheVariants.{UsedTwice}

-- a name stands for a piece that is used, or asked by `value`
pub record Event : Type 0 where
  pub is_use : Bool
  pub piece : Binding
  pub name : Name

-- a stage: what a statement does before others go on. The faults of its parts, whatever was used before; what it asks and then what it uses, each in the order of the text; and the faults of the names that it binds. An `if` has two stages: its test, and its end
pub record Stage : Type 0 where
  pub faults : List AffineFault
  pub events : List Event
  pub rebinds : List AffineFault

-- a flow: stages in a row, and choices of one of two flows before a further one
pub data Flow : Type 0 where
  Stop : Flow
  Then : (stage : Stage) (rest : Flow) → Flow
  Split : (one other rest : Flow) → Flow

-- these are the events of a way through the flow: of each choice it goes through one flow, whatever tests can hold. A `pick` is no choice of this kind: whichever piece is the best, the same names are used and the same are bound. Nor is a binding an event: what a name stands for is told by the text alone
abbrev pub IsWay : Flow → List Event → Type 0
IsWay Stop w = w ≡ []
IsWay (Then stage rest) w = (v : List Event) × (w ≡ stage.events ++ v) × IsWay rest v
IsWay (Split one other rest) w = (u : List Event) × (v : List Event) × (w ≡ u ++ v) × (IsWay one u ⊎ IsWay other u) × IsWay rest v

-- the list has the item
abbrev pub IsIn : {A : Type 0} → A → List A → Type 0
IsIn x [] = ⊥
IsIn x (y ∷ ys) = (x ≡ y) ⊎ IsIn x ys

-- the event uses the piece at this place
abbrev pub Uses : Event → Binding → ℕ → Type 0
Uses e k at = (e.is_use ≡ true) × (e.piece ≡ k) × (e.name.at ≡ at)

-- among these events the late one comes after a use of its piece at this place
abbrev pub ComesAfter : List Event → ℕ → Event → Type 0
ComesAfter [] first late = ⊥
ComesAfter (e ∷ w) first late = (Uses e late.piece first × IsIn late w) ⊎ ComesAfter w first late

-- on some way the late event comes after a use of its piece at this place
abbrev pub ComesAfterOnAWay : Flow → ℕ → Event → Type 0
ComesAfterOnAWay t first late = (w : List Event) × IsWay t w × ComesAfter w first late

-- UsedTwice: a piece is used or asked that was used before on some way, and `first` is the least place of such a use
abbrev pub IsUsedTwice : Flow → AffineFault → Type 0
IsUsedTwice t f = (late : Event) × (first : ℕ) × (f ≡ UsedTwice late.name.word late.name.at first) × ComesAfterOnAWay t first late
    × ((place : ℕ) → ComesAfterOnAWay t place late → first ≤ place)

-- a stage of the flow has the fault, whatever was used before it
abbrev pub HasAlone : Flow → AffineFault → Type 0
HasAlone Stop f = ⊥
HasAlone (Then stage rest) f = IsIn f stage.faults ⊎ (IsIn f stage.rebinds ⊎ HasAlone rest f)
HasAlone (Split one other rest) f = HasAlone one f ⊎ (HasAlone other f ⊎ HasAlone rest f)

-- the fault stands in the flow
abbrev pub Stands : Flow → AffineFault → Type 0
Stands t f = HasAlone t f ⊎ IsUsedTwice t f

-- it is the first that stands there: none that stands there is told before it
pub record IsFirst (t : Flow) (f : AffineFault) : Type 0 where
  pub stands : Stands t f
  pub first : (g : AffineFault) → Stands t g → is_before g f ≡ false
