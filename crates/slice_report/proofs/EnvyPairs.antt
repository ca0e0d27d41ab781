-- Envy, an agent at a time.
use Rattle.std.proofs.Common.{◌≡◌, ◌∙◌, ℕ, ◌+◌, List, [], ◌∷◌, ◌++◌, Bool, true, false, map, arith, ap, sym, append-nil, append_assoc}
use Rattle.std.specs.List.{filter, flat_map}
use Rattle.std.proofs.lemmas.List.{map-id, map-append, flat_map_more}
use Rattle.std.proofs.lemmas.List.Elements.{filter-append}
use Rattle.std.proofs.lemmas.List.FromFn.{map-range_with_len_more}
use Rattle.slice_report.specs.RunReport.{agents}

pub one_agent_more : (n : ℕ) → agents (n + 1) ≡ agents n ++ (n + 1) ∷ []
one_agent_more n = simp map-id at (map-range_with_len_more (λ (x : ℕ). x) 1 n (n + 1) (omega arith))

step : {A : Type 0} (p : ℕ → Bool) (f : ℕ → A) (n : ℕ) → map f (filter p (agents (n + 1))) ≡ map f (filter p (agents n)) ++ map f (filter p ((n + 1) ∷ []))
step p f n = ap (λ ns. map f (filter p ns)) (one_agent_more n) ∙ ap (map f) (filter-append p (agents n) ((n + 1) ∷ [])) ∙ map-append f (filter p (agents n)) (filter p ((n + 1) ∷ []))

-- the next agent is among them
pub one_more : {A : Type 0} (p : ℕ → Bool) (f : ℕ → A) (n : ℕ) → p (n + 1) ≡ true → map f (filter p (agents (n + 1))) ≡ map f (filter p (agents n)) ++ f (n + 1) ∷ []
one_more p f n h = rw h at (step p f n)

-- it isn't
pub none_more : {A : Type 0} (p : ℕ → Bool) (f : ℕ → A) (n : ℕ) → p (n + 1) ≡ false → map f (filter p (agents (n + 1))) ≡ map f (filter p (agents n))
none_more p f n h = (rw h at (step p f n)) ∙ append-nil (map f (filter p (agents n)))

-- the pair of the next agent was added
pub added : {A : Type 0} (p : ℕ → Bool) (f : ℕ → A) (n : ℕ) (start before after : List A) → p (n + 1) ≡ true
    → before ≡ start ++ map f (filter p (agents n)) → after ≡ before ++ f (n + 1) ∷ [] → after ≡ start ++ map f (filter p (agents (n + 1)))
added p f n start before after h b a =
    a ∙ ap (λ xs. xs ++ f (n + 1) ∷ []) b ∙ append_assoc start (map f (filter p (agents n))) (f (n + 1) ∷ []) ∙ ap (λ xs. start ++ xs) (sym (one_more p f n h))

-- it wasn't
pub kept : {A : Type 0} (p : ℕ → Bool) (f : ℕ → A) (n : ℕ) (start before after : List A) → p (n + 1) ≡ false
    → before ≡ start ++ map f (filter p (agents n)) → after ≡ before → after ≡ start ++ map f (filter p (agents (n + 1)))
kept p f n start before after h b a = a ∙ b ∙ ap (λ xs. start ++ xs) (sym (none_more p f n h))

-- the pairs of one agent more
pub all_more : {A : Type 0} (f : ℕ → List A) (n : ℕ) (before after : List A) → before ≡ flat_map f (agents n) → after ≡ before ++ f (n + 1) → after ≡ flat_map f (agents (n + 1))
all_more f n before after b a = a ∙ ap (λ xs. xs ++ f (n + 1)) b ∙ flat_map_more f [] (agents n) (n + 1) ∙ ap (flat_map f) (sym (one_agent_more n))
