use Rattle.std.proofs.Common.{◌≡◌, ◌∙◌, ◌++◌, ℕ, List, map, sym, ap, subst}
use Rattle.std.proofs.lemmas.List.{map-append}
use Rattle.slice_num.specs.declared.key.Key.{Key}
use Rattle.slice_linear.specs.Rows.{LinearRow}
use Rattle.slice_atoms.specs.Numbers.{Numbering, cake_of, all_keys}
use Rattle.slice_paths.specs.Places.{first_conditions}
use Rattle.slice_paths.specs.Goals.{row_of}
use Rattle.slice_paths.specs.Fronts.{rows_on}
use Rattle.slice_paths.specs.Spots.{Known, condition_of, way_of}
use Rattle.slice_paths.specs.RowsMade.{condition_row}
use Rattle.slice_paths.proofs.RowLaws.{conditions_as}
use Rattle.slice_paths.proofs.rows.way_rows.Goals as goal

pub returns-in-Ok-put_conditions : goal.returns-in-Ok-put_conditions
returns-in-Ok-put_conditions c =
    let k : Known = c.args.spot.now in
    let v : Numbering = k.atoms in
    let vi = c.spot.view_is in
    let ag = c.args.agents in
    let keys : List Key = all_keys v.agents v.order in
    let f = row_of v.agents (cake_of v.olds) in
    let o3 : c.as_slice-3.result.now ≡ keys = c.as_slice-3.ensures.value ∙ c.in-Ok.ensures ∙ ap (λ (s : Known). all_keys s.atoms.agents s.atoms.order) vi in
    let cs : c.as_slice-2.result.now ≡ k.conditions = c.as_slice-2.ensures.value ∙ ap (λ (s : Known). s.conditions) vi in
    let first : List LinearRow = c.put_first.new.rows.items in
    let second : List LinearRow = c.put_conditions.new.rows.items in
    let a : first ≡ map f (first_conditions v.agents) =
    subst (λ (n : ℕ). first ≡ map f (first_conditions n)) c.requires.agents
    (subst (λ (s : Known). first ≡ map (row_of s.atoms.agents (cake_of s.atoms.olds)) (first_conditions ag)) vi
    (c.in-Ok-put_first.ensures.ok ∙ ap (λ (rs : List LinearRow). rs ++ map (row_of c.spot.inside.atoms.agents (cake_of c.spot.inside.atoms.olds)) (first_conditions ag)) c.new-rows.ensures.items)) in
    let b : second ≡ first ++ map (condition_row keys) k.conditions = c.in-Ok-put_conditions.ensures.ok ∙ (λ i. first ++ map (condition_row (o3 i)) (cs i)) in
    subst (λ (n : ℕ). second ≡ rows_on n (way_of k)) (sym c.requires.agents)
    (b ∙ (λ i. a i ++ conditions_as v v.agents k.conditions c.requires.numbering i) ∙ sym (map-append f (first_conditions v.agents) (map (condition_of v) k.conditions)))
