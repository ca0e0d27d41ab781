-- A part of a line is taken from what is ahead of a reader.
use Rattle.std.proofs.Common.{◌≡◌, ◌∙◌, ◌+◌, ◌-◌, ◌≤◌, ◌++◌, ℕ, List, take, drop, ap, sym, arith}
use Rattle.std.proofs.lemmas.List.{drop-take, drop-drop}
use Rattle.slice_io.specs.Lines.{Reading, first_line, after_line, line_bytes}

-- what is left of a part of the block
pub rest_ahead : (block : List ℕ) (from to b : ℕ) → b ≤ to - from → take (to - (from + b)) (drop (from + b) block) ≡ drop b (take (to - from) (drop from block))
rest_ahead block from to b le =
    let e : b + (to - (from + b)) ≡ to - from = omega arith in
    ap (take (to - (from + b))) (sym (drop-drop b from block)) ∙ sym (drop-take b (to - (from + b)) (drop from block)) ∙ ap (λ (n : ℕ). drop b (take n (drop from block))) e

pub taken : (r v : Reading) (block part newline : List ℕ) (from to count b : ℕ) → v ≡ r → v.ahead ≡ part → part ≡ take (to - from) (drop from block) → b ≤ to - from → b ≡ line_bytes part → drop b part ≡ after_line part
    → take count part ≡ first_line part → newline ≡ v.line ++ take count part
    → record v { place = v.place + b; line = newline; ahead = take (to - (from + b)) (drop (from + b) block) } ≡ record r { place = r.place + line_bytes r.ahead; line = r.line ++ first_line r.ahead; ahead = after_line r.ahead }
taken r v block part newline from to count b same a p le eb ea el n =
    let e1 : v.place + b ≡ v.place + line_bytes v.ahead = ap (λ (n : ℕ). v.place + n) (eb ∙ ap line_bytes (sym a)) in
    let e2 : newline ≡ v.line ++ first_line v.ahead = n ∙ ap (λ (xs : List ℕ). v.line ++ xs) (el ∙ ap first_line (sym a)) in
    let e3 : take (to - (from + b)) (drop (from + b) block) ≡ after_line v.ahead = rest_ahead block from to b le ∙ ap (drop b) (sym p) ∙ ea ∙ ap after_line (sym a) in
    let here : record v { place = v.place + b; line = newline; ahead = take (to - (from + b)) (drop (from + b) block) } ≡ record v { place = v.place + line_bytes v.ahead; line = v.line ++ first_line v.ahead; ahead = after_line v.ahead } = λ t. record v { place = e1 t; line = e2 t; ahead = e3 t } in
    here ∙ ap (λ (r : Reading). record r { place = r.place + line_bytes r.ahead; line = r.line ++ first_line r.ahead; ahead = after_line r.ahead }) same
