-- Names stand for the same in a run and in a core.
use Rattle.std.proofs.Common.{◌≡◌, ℕ, Bool, true, false, cond, List, [], ◌∷◌, refl, ap, sym, subst, ◌∙◌, Some, pos}
use Rattle.std.specs.Prelude.{slice_get}
use Rattle.std.proofs.lemmas.Option.{get_or_from_slice_get}
use Rattle.std.specs.Str.{bytes_eq}
use Rattle.slice_num.specs.Rational.{Rational, whole}
use Rattle.slice_ast.specs.declared.tree.Name.{Name}
use Rattle.slice_ast.specs.declared.tree.AgentRef.{AgentRef}
use Rattle.slice_ast.specs.declared.tree.AgentRef.TheVariants as ref
use Rattle.slice_core.specs.Run.{source_value}
use Rattle.slice_expand.specs.Scope.{Meaning, AnAgent, APiece, ANumber, look, looks, bound, bind, agent_of, piece_of, agent_at, piece_named, pieces_named, as_pieces}
use Rattle.slice_expand.specs.ProgramRun.{Env, number_of}
use Rattle.slice_expand.specs.Expansion.{Names, source_of}
use Rattle.slice_expand.proofs.Grows.{Extends}

-- a register that holds the number
abbrev pub Same : List Rational → Meaning ℕ → Meaning Rational → Type 0
Same regs (AnAgent a) (AnAgent b) = a ≡ b
Same regs (APiece p) (APiece q) = p ≡ q
Same regs (ANumber r) (ANumber v) = slice_get regs r ≡ Some v
Same regs (AnAgent a) (APiece q) = ⊥
Same regs (AnAgent a) (ANumber v) = ⊥
Same regs (APiece p) (AnAgent b) = ⊥
Same regs (APiece p) (ANumber v) = ⊥
Same regs (ANumber r) (AnAgent b) = ⊥
Same regs (ANumber r) (APiece q) = ⊥

abbrev pub Agree : List Rational → Names → Env → Type 0
Agree regs [] [] = Unit {0}
Agree regs (b ∷ bs) (c ∷ cs) = (b.word ≡ c.word) × Same regs b.meaning c.meaning × Agree regs bs cs
Agree regs [] (c ∷ cs) = ⊥
Agree regs (b ∷ bs) [] = ⊥

abbrev pub AgreeAll : List Rational → List (Meaning ℕ) → List (Meaning Rational) → Type 0
AgreeAll regs [] [] = Unit {0}
AgreeAll regs (b ∷ bs) (c ∷ cs) = Same regs b c × AgreeAll regs bs cs
AgreeAll regs [] (c ∷ cs) = ⊥
AgreeAll regs (b ∷ bs) [] = ⊥

pub same_later : (xs ys : List Rational) → Extends xs ys → (s : Meaning ℕ) (v : Meaning Rational) → Same xs s v → Same ys s v
same_later xs ys e (AnAgent a) (AnAgent b) h = h
same_later xs ys e (APiece p) (APiece q) h = h
same_later xs ys e (ANumber r) (ANumber v) h = e.kept r v h
same_later xs ys e (AnAgent a) (APiece q) h = h
same_later xs ys e (AnAgent a) (ANumber v) h = h
same_later xs ys e (APiece p) (AnAgent b) h = h
same_later xs ys e (APiece p) (ANumber v) h = h
same_later xs ys e (ANumber r) (AnAgent b) h = h
same_later xs ys e (ANumber r) (APiece q) h = h

pub agree_later : (xs ys : List Rational) → Extends xs ys → (bs : Names) (cs : Env) → Agree xs bs cs → Agree ys bs cs
agree_later xs ys e [] [] h = tt
agree_later xs ys e (b ∷ bs) (c ∷ cs) h = (h.0, same_later xs ys e b.meaning c.meaning h.1, agree_later xs ys e bs cs h.2)
agree_later xs ys e [] (c ∷ cs) h = h
agree_later xs ys e (b ∷ bs) [] h = h

pub agree_all_later : (xs ys : List Rational) → Extends xs ys → (bs : List (Meaning ℕ)) (cs : List (Meaning Rational)) → AgreeAll xs bs cs → AgreeAll ys bs cs
agree_all_later xs ys e [] [] h = tt
agree_all_later xs ys e (b ∷ bs) (c ∷ cs) h = (same_later xs ys e b c h.0, agree_all_later xs ys e bs cs h.1)
agree_all_later xs ys e [] (c ∷ cs) h = h
agree_all_later xs ys e (b ∷ bs) [] h = h

same_cond : (regs : List Rational) (b : Bool) (s t : Meaning ℕ) (v u : Meaning Rational) → Same regs s v → Same regs t u → Same regs (cond b s t) (cond b v u)
same_cond regs true s t v u p q = p
same_cond regs false s t v u p q = q

pub look_same : (regs : List Rational) (bs : Names) (cs : Env) → Agree regs bs cs → (word : List ℕ) → Same regs (look bs word) (look cs word)
look_same regs [] [] h word = refl
look_same regs (b ∷ bs) (c ∷ cs) h word =
    let e : bytes_eq c.word word ≡ bytes_eq b.word word = ap (λ n. bytes_eq n word) (sym h.0) in
    let goal = same_cond regs (bytes_eq b.word word) b.meaning (look bs word) c.meaning (look cs word) h.1 (look_same regs bs cs h.2 word) in
    subst (λ (t : Bool). Same regs (cond (bytes_eq b.word word) b.meaning (look bs word)) (cond t c.meaning (look cs word))) (sym e) goal
look_same regs [] (c ∷ cs) h word = absurd h
look_same regs (b ∷ bs) [] h word = absurd h

pub looks_same : (regs : List Rational) (bs : Names) (cs : Env) → Agree regs bs cs → (names : List Name) → AgreeAll regs (looks bs names) (looks cs names)
looks_same regs bs cs h [] = tt
looks_same regs bs cs h (n ∷ ns) = (look_same regs bs cs h n.word, looks_same regs bs cs h ns)

pub bind_same : (regs : List Rational) (names : List Name) (ss : List (Meaning ℕ)) (vs : List (Meaning Rational)) (bs : Names) (cs : Env) → AgreeAll regs ss vs → Agree regs bs cs → Agree regs (bind names ss bs) (bind names vs cs)
bind_same regs [] ss vs bs cs a h = h
bind_same regs (n ∷ ns) [] [] bs cs a h = h
bind_same regs (n ∷ ns) (s ∷ ss) (v ∷ vs) bs cs a h = bind_same regs ns ss vs (bound n s bs) (bound n v cs) a.1 (refl, a.0, h)
bind_same regs (n ∷ ns) [] (v ∷ vs) bs cs a h = absurd a
bind_same regs (n ∷ ns) (s ∷ ss) [] bs cs a h = absurd a

same_piece : (regs : List Rational) (s : Meaning ℕ) (v : Meaning Rational) → Same regs s v → piece_of s ≡ piece_of v
same_piece regs (AnAgent a) (AnAgent b) h = refl
same_piece regs (APiece p) (APiece q) h = h
same_piece regs (ANumber r) (ANumber v) h = refl
same_piece regs (AnAgent a) (APiece q) h = absurd h
same_piece regs (AnAgent a) (ANumber v) h = absurd h
same_piece regs (APiece p) (AnAgent b) h = absurd h
same_piece regs (APiece p) (ANumber v) h = absurd h
same_piece regs (ANumber r) (AnAgent b) h = absurd h
same_piece regs (ANumber r) (APiece q) h = absurd h

same_agent : (regs : List Rational) (s : Meaning ℕ) (v : Meaning Rational) → Same regs s v → agent_of s ≡ agent_of v
same_agent regs (AnAgent a) (AnAgent b) h = h
same_agent regs (APiece p) (APiece q) h = refl
same_agent regs (ANumber r) (ANumber v) h = refl
same_agent regs (AnAgent a) (APiece q) h = absurd h
same_agent regs (AnAgent a) (ANumber v) h = absurd h
same_agent regs (APiece p) (AnAgent b) h = absurd h
same_agent regs (APiece p) (ANumber v) h = absurd h
same_agent regs (ANumber r) (AnAgent b) h = absurd h
same_agent regs (ANumber r) (APiece q) h = absurd h

pub same_number : (regs : List Rational) (s : Meaning ℕ) (v : Meaning Rational) → Same regs s v → source_value regs (source_of s) ≡ number_of v
same_number regs (AnAgent a) (AnAgent b) h = refl
same_number regs (APiece p) (APiece q) h = refl
same_number regs (ANumber r) (ANumber v) h = get_or_from_slice_get regs r v (whole (pos 0)) h
same_number regs (AnAgent a) (APiece q) h = absurd h
same_number regs (AnAgent a) (ANumber v) h = absurd h
same_number regs (APiece p) (AnAgent b) h = absurd h
same_number regs (APiece p) (ANumber v) h = absurd h
same_number regs (ANumber r) (AnAgent b) h = absurd h
same_number regs (ANumber r) (APiece q) h = absurd h

pub piece_same : (regs : List Rational) (bs : Names) (cs : Env) → Agree regs bs cs → (x : Name) → piece_named bs x ≡ piece_named cs x
piece_same regs bs cs h x = same_piece regs (look bs x.word) (look cs x.word) (look_same regs bs cs h x.word)

pub pieces_same : (regs : List Rational) (bs : Names) (cs : Env) → Agree regs bs cs → (xs : List Name) → pieces_named bs xs ≡ pieces_named cs xs
pieces_same regs bs cs h [] = refl
pieces_same regs bs cs h (x ∷ xs) = ap (λ p. p ∷ pieces_named bs xs) (piece_same regs bs cs h x) ∙ ap (λ ps. piece_named cs x ∷ ps) (pieces_same regs bs cs h xs)

pub agent_same : (regs : List Rational) (bs : Names) (cs : Env) → Agree regs bs cs → (a : AgentRef) → agent_at bs a ≡ agent_at cs a
agent_same regs bs cs h (ref.Fixed n) = refl
agent_same regs bs cs h (ref.Named x) = same_agent regs (look bs x.word) (look cs x.word) (look_same regs bs cs h x.word)

pub as_pieces_same : (regs : List Rational) (ps : List ℕ) → AgreeAll regs (as_pieces ps) (as_pieces ps)
as_pieces_same regs [] = tt
as_pieces_same regs (p ∷ ps) = (refl, as_pieces_same regs ps)
