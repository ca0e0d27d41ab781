-- The core that the code made of a program that was checked is well formed.
use Rattle.std.proofs.Common.{◌≡◌, subst, sym}
use Rattle.std.specs.Prelude.{None}
use Rattle.slice_ast.specs.Code.{PlainProgram}
use Rattle.slice_affine.specs.Conditions.{IsParsed}
use Rattle.slice_affine.specs.Rules.{MeetsRules}
use Rattle.slice_core.specs.Tree.{Core}
use Rattle.slice_core.specs.WellFormed.{IsWellFormed}
use Rattle.slice_expand.specs.Expansion.{core_of}
use Rattle.slice_expand.specs.Limits.{first_limit}
use Rattle.slice_expand.proofs.Programs.{checked_cores_are_well_formed}

pub core_is_formed : (p : PlainProgram) (c : Core) → IsParsed p → MeetsRules p → first_limit p ≡ None → c ≡ core_of p → IsWellFormed c
core_is_formed p c parsed meets limits is = subst IsWellFormed (sym is) (checked_cores_are_well_formed p parsed.spellable parsed.places meets limits)
