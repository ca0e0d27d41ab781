-- Where the code stands while it makes a core: the block that is expanded, and those around it that wait for it. For clauses of
-- private functions and proofs: a reader of the definitions needs none of it.
use Rattle.std.specs.Prelude.{ℕ, List, [], ◌∷◌, ◌++◌}
use Rattle.slice_ast.specs.Code.{Code, PlainProc, Head, put}
use Rattle.slice_ast.specs.declared.tree.Name.{Name}
use Rattle.slice_expand.specs.Scope.{Meaning, looks, bind}
use Rattle.slice_expand.specs.Expansion.{Names, expand, no_inline, inline_after}
use Rattle.slice_expand.specs.ProgramRun.{param_names}
use Rattle.slice_expand.specs.Marked.{Marked}
use Rattle.slice_expand.specs.Marked as marked
use Rattle.slice_expand.specs.Trail.{PlainTrail, Building, Made, build}

-- a block: the statements that are left, what its names stand for, what it yields, the names that the yields get in the
-- block around it, and the procedures that it can call
pub record PlainFrame : Type 0 where
  pub code : Code
  pub names : Names
  pub yields : List Name
  pub targets : List Name
  pub procs : List PlainProc

-- what comes after a block: from names for what it yielded, and the next register and piece
abbrev pub Rest : Type 0
Rest = (targets : List Name) (yielded : List (Meaning ℕ)) (reg piece : ℕ) → Marked

-- nothing comes after the protocol's block
abbrev pub rest_end : Rest
rest_end targets yielded r p = marked.End

-- a block goes on, and then what comes after it
abbrev pub rest_with : PlainFrame → Rest → Rest
rest_with f rest targets yielded r p =
    expand (inline_after no_inline f.procs) f.code (bind targets yielded f.names) r p (λ names s u. rest f.targets (looks names f.yields) s u)

-- blocks around each other, the innermost last
abbrev pub rest_from : Rest → List PlainFrame → Rest
rest_from rest [] = rest
rest_from rest (f ∷ fs) = rest_from (rest_with f rest) fs

-- the innermost block, those around it, and the trail
pub record Spot : Type 0 where
  pub top : PlainFrame
  pub outer : List PlainFrame
  pub trail : PlainTrail

-- what is still to be made
abbrev pub to_make : Spot → Marked
to_make s = rest_with s.top (rest_from rest_end s.outer) [] [] s.trail.regs s.trail.pieces

-- what expansion comes to from there
abbrev pub build_at : Spot → Building Made
build_at s = build (to_make s) s.trail

-- the block with other statements
abbrev pub with_code : Code → PlainFrame → PlainFrame
with_code c f = record { code = c; names = f.names; yields = f.yields; targets = f.targets; procs = f.procs }

-- the block with other names
abbrev pub with_names : Names → PlainFrame → PlainFrame
with_names names f = record { code = f.code; names = names; yields = f.yields; targets = f.targets; procs = f.procs }

-- a statement before those that are left
abbrev pub with_head : Head → Spot → Spot
with_head h s = record { top = with_code (put h s.top.code) s.top; outer = s.outer; trail = s.trail }

-- other names and another trail
abbrev pub moved : Names × PlainTrail → Spot → Spot
moved o s = record { top = with_names o.0 s.top; outer = s.outer; trail = o.1 }

-- an arm is expanded inside the block, for these names
abbrev pub inside : Code → (yields targets : List Name) → Spot → Spot
inside c ys xs s = record {
  top = record { code = c; names = s.top.names; yields = ys; targets = xs; procs = s.top.procs };
  outer = s.outer ++ s.top ∷ [];
  trail = s.trail;
}

-- a procedure's statements are expanded inside the block, for these names
abbrev pub inside_call : PlainProc → List PlainProc → List (Meaning ℕ) → (targets : List Name) → Spot → Spot
inside_call d earlier args xs s = record {
  top = record { code = d.body.code; names = bind (param_names d.params) args []; yields = d.body.yields; targets = xs; procs = earlier };
  outer = s.outer ++ s.top ∷ [];
  trail = s.trail;
}
