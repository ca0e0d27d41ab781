use Rattle.std.proofs.Common.{◌≡◌, ◌∙◌, ◌+◌, ◌++◌, ◌∷◌, [], List, get_or, take, drop, ap}
use Rattle.std.proofs.lemmas.List.{take_rest}
use Rattle.slice_num.specs.declared.interval.Interval.{Interval}
use Rattle.slice_piece.proofs.PieceLemmas.{item_is, replaced_last}
use Rattle.slice_num.specs.Rational.{Rational}
use Rattle.slice_piece.proofs.piece.Piece.cut.Goals as goal

-- the stretch up to the point, and from the point on
abbrev before_point : Interval → Rational → Interval
before_point i y = record { from = i.from; to = y }

abbrev after_point : Interval → Rational → Interval
after_point i y = record { from = y; to = i.to }

pub returns-clause-left : goal.returns-clause-left
returns-clause-left c i h =
    let here : c.index-stretch.result.now ≡ i = item_is c.args.self c.args.part c.index-stretch.result.now i (c.index-stretch.ensures ∙ ap (λ (xs : List Interval). get_or xs c.args.part c.index-stretch.result.now) c.self.view_is) h in
    replaced_last c.args.self c.truncate.new.self.items c.args.part (before_point c.index-stretch.result.now c.args.y.now) c.requires.there (c.truncate.ensures.items ∙ ap (take (c.args.part + 1)) c.self.view_is)
    ∙ ap (λ (j : Interval). take c.args.part c.args.self ++ before_point j c.args.y.now ∷ []) here

pub returns-clause-right : goal.returns-clause-right
returns-clause-right c i h =
    let here : c.index-stretch.result.now ≡ i = item_is c.args.self c.args.part c.index-stretch.result.now i (c.index-stretch.ensures ∙ ap (λ (xs : List Interval). get_or xs c.args.part c.index-stretch.result.now) c.self.view_is) h in
    c.in-Ok.ensures ∙ ap (λ (xs : List Interval). after_point c.index-stretch.result.now c.args.y.now ∷ xs) (take_rest c.deref.result.now (c.args.part + 1) ∙ ap (drop (c.args.part + 1)) (c.deref.ensures.value ∙ c.self.view_is)) ∙ ap (λ (j : Interval). after_point j c.args.y.now ∷ drop (c.args.part + 1) c.args.self) here
