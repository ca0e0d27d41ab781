use Rattle.std.proofs.Common.{◌≡◌, ◌∙◌, ◌++◌, ◌<◌, ℕ, List, [], length, map, get_or, slice_set, ap, sym, arith}
use Rattle.std.proofs.lemmas.List.{map-set, get_or-map}
use Rattle.std.proofs.Math.Seq.{map-set_same}
use Rattle.std.proofs.lemmas.Grind.{common_steps}
use Rattle.slice_piece.proofs.book.append_at.Goals as goal

-- the list of lists after one of them grew
grown : {V W : Type 0} (f : V → List W) (xs : List V) (i : ℕ) (new old : V) (more : List W) → i < length xs → old ≡ get_or xs i old → f new ≡ f old ++ more
    → map f (slice_set xs i new) ≡ slice_set (map f xs) i (get_or (map f xs) i [] ++ more)
grown f xs i new old more h o n =
    map-set f xs i new ∙ ap (slice_set (map f xs) i) (n ∙ ap (λ zs. zs ++ more) (ap f o ∙ sym (get_or-map f xs i old [] h)))

pub returns-then-is_err-clause-err : goal.returns-then-is_err-clause-err
returns-then-is_err-clause-err c =
    let e : c.extend_from_slice.new.self.items ≡ c.index_mut-list.result.now.items = grind (arith, common_steps) in
    map-set_same (λ s. s.items) c.args.lists.now.items c.args.at c.extend_from_slice.new.self c.index_mut-list.result.now (e ∙ ap (λ s. s.items) c.index_mut-list.ensures.value)

pub returns-clause-ok : goal.returns-clause-ok
returns-clause-ok c =
    let e : c.extend_from_slice.new.self.items ≡ c.index_mut-list.result.now.items ++ c.args.more.now = grind (arith, common_steps) in
    grown (λ s. s.items) c.args.lists.now.items c.args.at c.extend_from_slice.new.self c.index_mut-list.result.now c.args.more.now c.requires c.index_mut-list.ensures.value e
