use Rattle.std.proofs.Common.{◌≡◌, ◌∙◌, ◌∷◌, ap, Some, ℕ, arith, rules}
use Rattle.std.proofs.lemmas.Grind.{common_steps}
use Rattle.slice_expand.specs.Scope.{Scope}
use Rattle.slice_expand.specs.Stand.{meaning_of, scope_of, link_scope}
use Rattle.slice_expand.specs.Index.{put, bits_of, index_of}
use Rattle.slice_expand.proofs.Indexed.{indexed_by}
use Rattle.slice_expand.proofs.names.Names.bind.Goals as goal

pub invariant_of-self : goal.invariant_of-self
invariant_of-self c =
    let old = c.self.inside in
    let next = link_scope c.in_ok-link.link.value in
    let same : scope_of c.in_ok-before.before ≡ scope_of old.latest = first_of (search rules, grind (arith, common_steps)) in
    let names : next ≡ record { word = c.args.name.now.word; meaning = meaning_of c.args.meaning } ∷ scope_of old.latest = c.in_ok-link.ensures.link ∙ ap (λ (s : Scope ℕ). record { word = c.args.name.now.word; meaning = meaning_of c.args.meaning } ∷ s) same in
    let tree : index_of (Some c.in_ok-root.root) ≡ put (index_of old.root) (bits_of c.args.name.now.word) next = first_of (search rules, grind (arith, common_steps)) in
    indexed_by (index_of old.root) (index_of (Some c.in_ok-root.root)) (scope_of old.latest) next (record { word = c.args.name.now.word; meaning = meaning_of c.args.meaning }) c.self.invariant names tree
