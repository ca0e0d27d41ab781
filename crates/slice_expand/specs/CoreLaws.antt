-- What the core of a program is that was checked and passes no limit.
use Rattle.std.specs.Prelude.{◌≡◌, None}
use Rattle.slice_ast.specs.Code.{PlainProgram}
use Rattle.slice_ast.specs.Spellable.{IsSpellable}
use Rattle.slice_affine.specs.Conditions.{HasRisingPlaces}
use Rattle.slice_affine.specs.Rules.{MeetsRules}
use Rattle.slice_core.specs.WellFormed.{IsWellFormed}
use Rattle.slice_expand.specs.Expansion.{core_of}
use Rattle.slice_expand.specs.Limits.{first_limit}

-- a program that a text can spell, whose places rise, that meets the rules of single use and passes no limit has a well-formed core
abbrev pub CheckedCoresAreWellFormed : Type 0
CheckedCoresAreWellFormed = (p : PlainProgram) → IsSpellable p → HasRisingPlaces p → MeetsRules p → first_limit p ≡ None → IsWellFormed (core_of p)
