-- The rows behind the first passed choices of a trace.
use Rattle.std.proofs.Common.{◌≡◌, ◌∙◌, ℕ, sym, ap, List, [], ◌++◌, append-nil}
use Rattle.std.specs.Prelude.{Some, None}
use Rattle.slice_num.specs.declared.choice.Choice.{Choice}
use Rattle.slice_core.specs.Tree.{Core, Tree}
use Rattle.slice_linear.specs.Rows.{LinearRow}
use Rattle.slice_paths.specs.Ahead.{ahead_of}
use Rattle.slice_paths.specs.Fronts.{way_behind, rows_on, rows_where, cover_rows, events_behind, events_after}
use Rattle.slice_paths.specs.Places.{first_way}
use Rattle.slice_paths.specs.Retraced.{StandsAt, IsRetraced, IsTooShort}
use Rattle.slice_paths.specs.Spots.{Known, regs_of, way_of}
use Rattle.slice_paths.specs.declared.frames.Frame.{Frame}
use Rattle.slice_paths.proofs.Depends.{rows_same}
use Rattle.slice_paths.proofs.StepLaws.{same_forms, same_conditions}

stands_itself : (s : Known) → StandsAt s (regs_of s) (way_of s).conditions
stands_itself s = record { regs = same_forms (way_of s).cake (regs_of s); conditions = same_conditions (way_of s).cake (way_of s).conditions }

-- from the first spot
first_way_is : (core : Core) (n passed : ℕ) (root : Tree) (s : Known) (cs : List Choice) → n ≡ core.agents → root ≡ core.tree → regs_of s ≡ [] → way_of s ≡ first_way n
    → way_behind passed core.tree [] (first_way core.agents) cs ≡ way_behind passed root (regs_of s) (way_of s) cs
first_way_is core n passed root s cs a r g w = (λ i. way_behind passed (sym r i) [] (first_way (sym a i)) cs) ∙ (λ i. way_behind passed root (sym g i) (sym w i) cs)

pub cover_none : (core : Core) (n passed : ℕ) (root : Tree) (s : Known) (cs : List Choice) → n ≡ core.agents → root ≡ core.tree → regs_of s ≡ [] → way_of s ≡ first_way n
    → IsTooShort passed root s cs → cover_rows core passed cs ≡ None
cover_none core n passed root s cs a r g w h =
    ap (rows_where core.agents) (first_way_is core n passed root s cs a r g w ∙ h.no_way (regs_of s) (way_of s).conditions (way_of s).cuts (stands_itself s))

pub cover_some : (core : Core) (n passed : ℕ) (root : Tree) (s t : Known) (cs : List Choice) (old new : List Frame) (rows : List LinearRow) → n ≡ core.agents → root ≡ core.tree → regs_of s ≡ [] → way_of s ≡ first_way n
    → IsRetraced n passed root s cs old new t → rows ≡ rows_on n (way_of t) → cover_rows core passed cs ≡ Some rows
cover_some core n passed root s t cs old new rows a r g w h e =
    let y = h.each (regs_of s) (way_of s).conditions (way_of s).cuts (stands_itself s) in
    ap (rows_where core.agents) (first_way_is core n passed root s cs a r g w ∙ y.way)
    ∙ ap Some (sym (rows_same core.agents (way_of t).cake (way_of t).conditions y.conditions y.stands.conditions) ∙ ap (λ (m : ℕ). rows_on m (way_of t)) (sym a) ∙ sym e)

-- the frames of what is behind
pub behind_none : (core : Core) (n passed : ℕ) (root : Tree) (s : Known) (cs : List Choice) → n ≡ core.agents → root ≡ core.tree → regs_of s ≡ [] → way_of s ≡ first_way n
    → IsTooShort passed root s cs → way_behind passed core.tree [] (first_way core.agents) cs ≡ None
behind_none core n passed root s cs a r g w h = first_way_is core n passed root s cs a r g w ∙ h.no_way (regs_of s) (way_of s).conditions (way_of s).cuts (stands_itself s)

pub behind_some : (core : Core) (n passed : ℕ) (root : Tree) (s t : Known) (cs : List Choice) (old new : List Frame) → n ≡ core.agents → root ≡ core.tree → regs_of s ≡ [] → way_of s ≡ first_way n → old ≡ []
    → IsRetraced n passed root s cs old new t → ahead_of core.agents new [] ≡ events_after core passed cs
behind_some core n passed root s t cs old new a r g w o h =
    let y = h.each (regs_of s) (way_of s).conditions (way_of s).cuts (stands_itself s) in
    let here = events_behind n passed root (regs_of s) (way_of s) cs in
    ap (λ (m : ℕ). ahead_of m new []) (sym a)
    ∙ y.ahead
    ∙ ap (λ (fs : List Frame). here ++ ahead_of n fs []) o
    ∙ append-nil here
    ∙ (λ i. events_behind (a i) passed (r i) (g i) ((w ∙ ap first_way a) i) cs)
