use Rattle.std.proofs.Common.{◌≡◌, ◌∙◌, ◌++◌, ◌∷◌, [], ℕ, true, false, refl, List, map, sym, ap, subst}
use Rattle.slice_num.specs.declared.key.Key.{Key}
use Rattle.slice_linear.specs.Rows.{LinearRow}
use Rattle.slice_linear.specs.declared.row.RowKind.TheVariants.{Above}
use Rattle.slice_atoms.specs.Numbers.{Numbering, cake_of, all_keys}
use Rattle.slice_paths.specs.Places.{first_conditions}
use Rattle.slice_paths.specs.Goals.{row_of, rows_of}
use Rattle.slice_paths.specs.Events.{rows_fit}
use Rattle.slice_paths.specs.Spots.{Known, form_of, way_of}
use Rattle.slice_paths.specs.RowsMade.{condition_row, row_at, condition_rows_fit, row_fits_at}
use Rattle.slice_paths.proofs.RowLaws.{rows_as, rows_fit_as}
use Rattle.slice_paths.proofs.rows.rows.Goals as goal

pub returns-in-Err-put_first-clause-err : goal.returns-in-Err-put_first-clause-err
returns-in-Err-put_first-clause-err c = λ h.
    (let k : Known = c.args.spot.now in
    let v : Numbering = k.atoms in
    let vi = c.spot.view_is in
    let own = c.args.own.now in
    let ag = c.args.agents in
    let keys : List Key = all_keys v.agents v.order in
    let a : rows_fit v.agents (cake_of v.olds) (first_conditions v.agents) ≡ false = subst (λ (n : ℕ). rows_fit v.agents (cake_of v.olds) (first_conditions n) ≡ false) c.requires.agents
    (subst (λ (s : Known). rows_fit s.atoms.agents (cake_of s.atoms.olds) (first_conditions ag) ≡ false) vi (c.in-Err-put_first.ensures.err h)) in
    subst (λ (n : ℕ). rows_fit n (cake_of v.olds) ((way_of k).conditions ++ record { kind = Above; form = form_of v own } ∷ []) ≡ false) (sym c.requires.agents) (rows_fit_as v k.conditions own (first_conditions v.agents) false (condition_rows_fit keys k.conditions) (row_fits_at keys own) false c.requires.numbering a refl refl refl))

pub returns-in-Err-put_conditions-clause-err : goal.returns-in-Err-put_conditions-clause-err
returns-in-Err-put_conditions-clause-err c = λ h.
    (let k : Known = c.args.spot.now in
    let v : Numbering = k.atoms in
    let vi = c.spot.view_is in
    let own = c.args.own.now in
    let ag = c.args.agents in
    let keys : List Key = all_keys v.agents v.order in
    let o3 : c.as_slice-3.result.now ≡ keys = c.as_slice-3.ensures.value ∙ c.in-Ok.ensures ∙ ap (λ (s : Known). all_keys s.atoms.agents s.atoms.order) vi in
    let cs : c.as_slice-2.result.now ≡ k.conditions = c.as_slice-2.ensures.value ∙ ap (λ (s : Known). s.conditions) vi in
    let a : rows_fit v.agents (cake_of v.olds) (first_conditions v.agents) ≡ true = subst (λ (n : ℕ). rows_fit v.agents (cake_of v.olds) (first_conditions n) ≡ true) c.requires.agents
    (subst (λ (s : Known). rows_fit s.atoms.agents (cake_of s.atoms.olds) (first_conditions ag) ≡ true) vi (c.in-Ok-put_first.ensures.fit)) in
    let y : condition_rows_fit keys k.conditions ≡ false = (λ i. condition_rows_fit (sym o3 i) (sym cs i)) ∙ c.in-Err-put_conditions.ensures.err h in
    subst (λ (n : ℕ). rows_fit n (cake_of v.olds) ((way_of k).conditions ++ record { kind = Above; form = form_of v own } ∷ []) ≡ false) (sym c.requires.agents) (rows_fit_as v k.conditions own (first_conditions v.agents) true false (row_fits_at keys own) false c.requires.numbering a y refl refl))

pub returns-in-Ok-put_row-clause-fit : goal.returns-in-Ok-put_row-clause-fit
returns-in-Ok-put_row-clause-fit c =
    let k : Known = c.args.spot.now in
    let v : Numbering = k.atoms in
    let vi = c.spot.view_is in
    let own = c.args.own.now in
    let ag = c.args.agents in
    let keys : List Key = all_keys v.agents v.order in
    let o3 : c.as_slice-3.result.now ≡ keys = c.as_slice-3.ensures.value ∙ c.in-Ok.ensures ∙ ap (λ (s : Known). all_keys s.atoms.agents s.atoms.order) vi in
    let cs : c.as_slice-2.result.now ≡ k.conditions = c.as_slice-2.ensures.value ∙ ap (λ (s : Known). s.conditions) vi in
    let o4 : c.as_slice-4.result.now ≡ keys = c.as_slice-4.ensures.value ∙ c.in-Ok.ensures ∙ ap (λ (s : Known). all_keys s.atoms.agents s.atoms.order) vi in
    let a : rows_fit v.agents (cake_of v.olds) (first_conditions v.agents) ≡ true = subst (λ (n : ℕ). rows_fit v.agents (cake_of v.olds) (first_conditions n) ≡ true) c.requires.agents
    (subst (λ (s : Known). rows_fit s.atoms.agents (cake_of s.atoms.olds) (first_conditions ag) ≡ true) vi (c.in-Ok-put_first.ensures.fit)) in
    let y : condition_rows_fit keys k.conditions ≡ true = (λ i. condition_rows_fit (sym o3 i) (sym cs i)) ∙ c.in-Ok-put_conditions.ensures.fit in
    let z : row_fits_at keys own ≡ true = ap (λ (ks : List Key). row_fits_at ks own) (sym o4) ∙ c.in-Ok-put_row.ensures.fit in
    subst (λ (n : ℕ). rows_fit n (cake_of v.olds) ((way_of k).conditions ++ record { kind = Above; form = form_of v own } ∷ []) ≡ true) (sym c.requires.agents) (rows_fit_as v k.conditions own (first_conditions v.agents) true true true true c.requires.numbering a y z refl)

pub returns-clause-err : goal.returns-clause-err
returns-clause-err c = λ h.
    (let k : Known = c.args.spot.now in
    let v : Numbering = k.atoms in
    let vi = c.spot.view_is in
    let own = c.args.own.now in
    let ag = c.args.agents in
    let keys : List Key = all_keys v.agents v.order in
    let o3 : c.as_slice-3.result.now ≡ keys = c.as_slice-3.ensures.value ∙ c.in-Ok.ensures ∙ ap (λ (s : Known). all_keys s.atoms.agents s.atoms.order) vi in
    let cs : c.as_slice-2.result.now ≡ k.conditions = c.as_slice-2.ensures.value ∙ ap (λ (s : Known). s.conditions) vi in
    let o4 : c.as_slice-4.result.now ≡ keys = c.as_slice-4.ensures.value ∙ c.in-Ok.ensures ∙ ap (λ (s : Known). all_keys s.atoms.agents s.atoms.order) vi in
    let a : rows_fit v.agents (cake_of v.olds) (first_conditions v.agents) ≡ true = subst (λ (n : ℕ). rows_fit v.agents (cake_of v.olds) (first_conditions n) ≡ true) c.requires.agents
    (subst (λ (s : Known). rows_fit s.atoms.agents (cake_of s.atoms.olds) (first_conditions ag) ≡ true) vi (c.in-Ok-put_first.ensures.fit)) in
    let y : condition_rows_fit keys k.conditions ≡ true = (λ i. condition_rows_fit (sym o3 i) (sym cs i)) ∙ c.in-Ok-put_conditions.ensures.fit in
    let z : row_fits_at keys own ≡ false = ap (λ (ks : List Key). row_fits_at ks own) (sym o4) ∙ c.in-Err-put_row.ensures.err h in
    subst (λ (n : ℕ). rows_fit n (cake_of v.olds) ((way_of k).conditions ++ record { kind = Above; form = form_of v own } ∷ []) ≡ false) (sym c.requires.agents) (rows_fit_as v k.conditions own (first_conditions v.agents) true true false false c.requires.numbering a y z refl))

pub returns-in-Ok-put_row-clause-ok : goal.returns-in-Ok-put_row-clause-ok
returns-in-Ok-put_row-clause-ok c =
    let k : Known = c.args.spot.now in
    let v : Numbering = k.atoms in
    let vi = c.spot.view_is in
    let own = c.args.own.now in
    let ag = c.args.agents in
    let keys : List Key = all_keys v.agents v.order in
    let o3 : c.as_slice-3.result.now ≡ keys = c.as_slice-3.ensures.value ∙ c.in-Ok.ensures ∙ ap (λ (s : Known). all_keys s.atoms.agents s.atoms.order) vi in
    let cs : c.as_slice-2.result.now ≡ k.conditions = c.as_slice-2.ensures.value ∙ ap (λ (s : Known). s.conditions) vi in
    let o4 : c.as_slice-4.result.now ≡ keys = c.as_slice-4.ensures.value ∙ c.in-Ok.ensures ∙ ap (λ (s : Known). all_keys s.atoms.agents s.atoms.order) vi in
    let first : List LinearRow = c.put_first.new.rows.items in
    let second : List LinearRow = c.put_conditions.new.rows.items in
    let third : List LinearRow = c.put_row.new.rows.items in
    let a : first ≡ map (row_of v.agents (cake_of v.olds)) (first_conditions v.agents) =
    subst (λ (n : ℕ). first ≡ map (row_of v.agents (cake_of v.olds)) (first_conditions n)) c.requires.agents
    (subst (λ (s : Known). first ≡ map (row_of s.atoms.agents (cake_of s.atoms.olds)) (first_conditions ag)) vi
    (c.in-Ok-put_first.ensures.ok ∙ ap (λ (rs : List LinearRow). rs ++ map (row_of c.spot.inside.atoms.agents (cake_of c.spot.inside.atoms.olds)) (first_conditions ag)) c.new-rows.ensures.items)) in
    let b : second ≡ first ++ map (condition_row keys) k.conditions = c.in-Ok-put_conditions.ensures.ok ∙ (λ i. first ++ map (condition_row (o3 i)) (cs i)) in
    let d : third ≡ second ++ row_at keys Above own ∷ [] = c.in-Ok-put_row.ensures.ok ∙ (λ i. second ++ row_at (o4 i) Above own ∷ []) in
    subst (λ (n : ℕ). third ≡ rows_of n (way_of k) (form_of v own)) (sym c.requires.agents)
    (rows_as v k.conditions own (first_conditions v.agents) first second third c.requires.numbering a b d)
