-- What a text is parsed as, from what its tokens are read as.
use Rattle.std.proofs.Common.{◌≡◌, ℕ, List, [], ◌∷◌, ◌++◌, map, length, refl, sym, ap, subst, ◌∙◌, append-nil, Result, Ok, Err, inl, inr, ◌≢◌}
use Rattle.std.specs.Prelude.{MatchResult, IfOk, IfErr}
use Rattle.std.proofs.lemmas.List.{map-append}
use Rattle.slice_lex.specs.declared.token.Token as lex
use Rattle.slice_lex.specs.declared.token.LexFault.{LexFault}
use Rattle.slice_lex.specs.declared.token.LexFault.TheVariants as lexfault
use Rattle.slice_lex.specs.Lexing as lexing
use Rattle.slice_lex.specs.Lexing.{IsLexing, Tokens}
use Rattle.slice_lex.specs.Text.{Spells}
use Rattle.slice_ast.specs.declared.tree.Program.{Program}
use Rattle.slice_ast.specs.Code.{PlainProgram}
use Rattle.slice_ast.specs.Places.{HasPlaces, IsRead}
use Rattle.slice_ast.specs.Tokens.{tokens}
use Rattle.slice_ast.specs.View.{program_of}
use Rattle.slice_parse.specs.declared.parser.ParseFault.{ParseFault}
use Rattle.slice_parse.specs.declared.parser.ParseFault.TheVariants as fault
use Rattle.slice_parse.specs.Combinators.{Token, Fault, Outcome, Good, Bad, Syntax, Deep, Long, Tired}
use Rattle.slice_parse.specs.Lexemes.{text_of}
use Rattle.slice_parse.specs.Rules.{read}
use Rattle.slice_ast.specs.Spellable.{IsSpellable}
use Rattle.slice_ast.specs.Limits.{IsWithinLimits}
use Rattle.slice_parse.specs.Limits.{KeepLimits, OpensTooDeep, MakesTooLong}
use Rattle.slice_ast.specs.Bare.{without_places}
use Rattle.slice_parse.specs.Classes.{AreSound, texts_of, AreToldApart}
use Rattle.slice_parse.specs.Begins.{Begins, IsWhole}
use Rattle.slice_parse.proofs.Exact.{IsReadFrom, Passes, ReadIsExact}
use Rattle.slice_parse.specs.Parsing.{IsWrong, IsCutShort, PassesAt, IsFaultOf}
use Rattle.slice_parse.specs.Told.{next_place, fault_of, told, of_lexer, Answers}

-- a fault of the lexer
pub lexer_fault : (file : List ℕ) (f : LexFault) → (f ≢ lexfault.Memory → IsLexing file (lexing.Fault f)) → IsFaultOf file (of_lexer f)
lexer_fault file (lexfault.BadByte at) h = h (λ e. cc)
lexer_fault file (lexfault.LongWord at) h = h (λ e. cc)
lexer_fault file (lexfault.LongNumber at) h = h (λ e. cc)
lexer_fault file (lexfault.LeadingZero at) h = h (λ e. cc)
lexer_fault file lexfault.Memory h = tt

good_of : (o : Outcome PlainProgram) (end : ℕ) (p : PlainProgram) → told o end ≡ Ok p → (rest : List Token) × (o ≡ Good p rest)
good_of (Good q rest) end p e = let same : Good q rest ≡ Good p rest = cc in (rest, same)
good_of (Bad f rest) end p e = cc

-- a fault, and the tokens from the wrong one on
record Faulted (o : Outcome PlainProgram) (end : ℕ) (f : ParseFault) : Type 0 where
  why : Fault
  rest : List Token
  is_bad : o ≡ Bad why rest
  is_told : fault_of why (next_place rest end) ≡ f

bad_of : (o : Outcome PlainProgram) (end : ℕ) (f : ParseFault) → told o end ≡ Err f → Faulted o end f
bad_of (Good q rest) end f e = cc
bad_of (Bad why rest) end f e = record { why = why; rest = rest; is_bad = refl; is_told = cc }

-- tokens of a file, parted as those that they are told apart as
record Parted (file : List ℕ) (seen : List Token) (t : Token) (ts : List lex.Token) : Type 0 where
  front : List lex.Token
  wrong : lex.Token
  back : List lex.Token
  whole : ts ≡ front ++ wrong ∷ back
  texts : texts_of seen ≡ lexing.texts_of file front
  text : text_of t ≡ lexing.text_of file wrong
  place : t.at ≡ wrong.from

parted_more : (file : List ℕ) (s : Token) (u : lex.Token) (seen : List Token) (t : Token) (us : List lex.Token) → text_of s ≡ lexing.text_of file u → Parted file seen t us → Parted file (s ∷ seen) t (u ∷ us)
parted_more file s u seen t us first q =
    let whole = q.whole in
    record { front = u ∷ q.front; wrong = q.wrong; back = q.back; whole = ap (λ xs. u ∷ xs) whole; texts = rw (first, q.texts) refl; text = q.text; place = q.place }

parted : (file : List ℕ) (seen : List Token) (t : Token) (more : List Token) (ts : List lex.Token) → texts_of (seen ++ t ∷ more) ≡ lexing.texts_of file ts
    → map (λ (l : Token). l.at) (seen ++ t ∷ more) ≡ map (λ (u : lex.Token). u.from) ts → Parted file seen t ts
parted file [] t more [] e p = cc
parted file [] t more (u ∷ us) e p = record { front = []; wrong = u; back = us; whole = refl; texts = refl; text = cc; place = cc }
parted file (s ∷ seen) t more [] e p = cc
parted file (s ∷ seen) t more (u ∷ us) e p =
    let rest : texts_of (seen ++ t ∷ more) ≡ lexing.texts_of file us = cc in
    let places : map (λ (l : Token). l.at) (seen ++ t ∷ more) ≡ map (λ (v : lex.Token). v.from) us = cc in
    let first : text_of s ≡ lexing.text_of file u = cc in
    parted_more file s u seen t us first (parted file seen t more us rest places)

through : (file : List ℕ) (seen : List Token) (t : Token) (ts : List lex.Token) (q : Parted file seen t ts) → texts_of (seen ++ t ∷ []) ≡ lexing.texts_of file (q.front ++ q.wrong ∷ [])
through file seen t ts q = rw (map-append text_of seen (t ∷ []), map-append (lexing.text_of file) q.front (q.wrong ∷ []), q.texts, q.text) refl

module _ (exact : ReadIsExact) (file : List ℕ) (ts : List lex.Token) (ls : List Token) (lexed : IsLexing file (Tokens ts)) (apart : AreToldApart file ts ls) where
  parts : (seen : List Token) (t : Token) (more : List Token) → ls ≡ seen ++ t ∷ more → Parted file seen t ts
  parts seen t more e = parted file seen t more ts (ap texts_of (sym e) ∙ apart.texts) (ap (map (λ (l : Token). l.at)) (sym e) ∙ apart.places)

  lexed_parts : (seen : List Token) (t : Token) (q : Parted file seen t ts) → IsLexing file (Tokens (q.front ++ q.wrong ∷ q.back))
  lexed_parts seen t q = subst (λ (us : List lex.Token). IsLexing file (Tokens us)) q.whole lexed

  wrong_token : (seen : List Token) (t : Token) (more : List Token) → ls ≡ seen ++ t ∷ more → Begins (texts_of seen) → KeepLimits (texts_of seen) → (Begins (texts_of (seen ++ t ∷ [])) → ⊥) → IsWrong file t.at
  wrong_token seen t more e b k dead =
      let q = parts seen t more e in
      record {
        front = q.front;
        wrong = q.wrong;
        back = q.back;
        lexed = lexed_parts seen t q;
        place = q.place;
        begins = subst Begins q.texts b;
        keep = subst KeepLimits q.texts k;
        dead = λ x. dead (subst Begins (sym (through file seen t ts q)) x);
      }

  passed : (Limit : List (List ℕ) → List ℕ → Type 0) (seen : List Token) (t : Token) (more : List Token) → ls ≡ seen ++ t ∷ more → KeepLimits (texts_of seen) → Passes Limit seen t → PassesAt Limit file t.at
  passed Limit seen t more e k h =
      let q = parts seen t more e in
      let here : Limit (texts_of seen) (lexing.text_of file q.wrong) = subst (λ (x : List ℕ). Limit (texts_of seen) x) q.text h.limit in
      record {
        front = q.front;
        wrong = q.wrong;
        back = q.back;
        lexed = lexed_parts seen t q;
        place = q.place;
        begins = subst Begins (through file seen t ts q) h.begins;
        keep = subst KeepLimits q.texts k;
        limit = subst (λ (xs : List (List ℕ)). Limit xs (lexing.text_of file q.wrong)) q.texts here;
      }

  short_of : read ls ≡ Bad Syntax [] → IsCutShort file (length file)
  short_of e =
      let v = exact.viable ls [] Syntax apart.sound e in
      let whole : v.0 ≡ ls = sym (append-nil v.0) ∙ sym v.1.0 in
      let same : texts_of v.0 ≡ lexing.texts_of file ts = ap texts_of whole ∙ apart.texts in
      record {
        tokens = ts;
        lexed = lexed;
        place = refl;
        begins = subst Begins same v.1.1.0;
        keep = subst KeepLimits same v.1.1.1;
        short = λ w. exact.short ls apart.sound e (subst IsWhole (sym apart.texts) w);
      }

  by_fault : (why : Fault) (rest : List Token) → read ls ≡ Bad why rest → IsFaultOf file (fault_of why (next_place rest (length file)))
  by_fault Tired rest e = absurd (exact.calm ls rest e)
  by_fault Syntax [] e = inr (short_of e)
  by_fault Syntax (t ∷ more) e =
      let v = exact.viable ls (t ∷ more) Syntax apart.sound e in
      let whole : read (v.0 ++ t ∷ more) ≡ Bad Syntax (t ∷ more) = ap read (sym v.1.0) ∙ e in
      inl (wrong_token v.0 t more v.1.0 v.1.1.0 v.1.1.1 (exact.dead v.0 t more (subst AreSound v.1.0 apart.sound) whole))
  by_fault Deep rest e =
      let v = exact.viable ls rest Deep apart.sound e in
      let d = exact.deep v.0 rest (subst AreSound v.1.0 apart.sound) (ap read (sym v.1.0) ∙ e) in
      let at : next_place rest (length file) ≡ d.0.at = ap (λ xs. next_place xs (length file)) d.1.1.0 in
      subst (λ (n : ℕ). PassesAt OpensTooDeep file n) (sym at) (passed OpensTooDeep v.0 d.0 d.1.0 (v.1.0 ∙ ap (λ xs. v.0 ++ xs) d.1.1.0) v.1.1.1 d.1.1.1)
  by_fault Long rest e =
      let v = exact.viable ls rest Long apart.sound e in
      let d = exact.long v.0 rest (subst AreSound v.1.0 apart.sound) (ap read (sym v.1.0) ∙ e) in
      let at : next_place rest (length file) ≡ d.0.at = ap (λ xs. next_place xs (length file)) d.1.1.0 in
      subst (λ (n : ℕ). PassesAt MakesTooLong file n) (sym at) (passed MakesTooLong v.0 d.0 d.1.0 (v.1.0 ∙ ap (λ xs. v.0 ++ xs) d.1.1.0) v.1.1.1 d.1.1.1)

  fault_told : (f : ParseFault) → told (read ls) (length file) ≡ Err f → IsFaultOf file f
  fault_told f e =
      let b = bad_of (read ls) (length file) f e in
      subst (IsFaultOf file) b.is_told (by_fault b.why b.rest b.is_bad)

  read_from : (p : PlainProgram) → told (read ls) (length file) ≡ Ok p → IsReadFrom ls p
  read_from p e = let g = good_of (read ls) (length file) p e in (exact.found ls g.0 p apart.sound g.1).1

  spelled_told : (p : PlainProgram) → Spells file (lexing.texts_of file ts) → told (read ls) (length file) ≡ Ok p → Spells file (tokens p)
  spelled_told p s e = subst (Spells file) (sym apart.texts ∙ (read_from p e).texts) s

  is_read_told : (p : PlainProgram) → told (read ls) (length file) ≡ Ok p → IsRead file p
  is_read_told p e =
      let r = read_from p e in
      (ts, (lexed, sym apart.texts ∙ r.texts, subst (HasPlaces p) apart.places r.places))

  answered : (result : Result Program ParseFault) (p : PlainProgram) → told (read ls) (length file) ≡ Ok p → Answers (told (read ls) (length file)) result
      → MatchResult result (λ q. program_of q ≡ p) (λ f. f ≡ fault.Memory)
  answered (Ok q) p e h = cc
  answered (Err fault.Memory) p e h = refl
  answered (Err (fault.Lex f)) p e h = absurd h
  answered (Err (fault.Syntax at)) p e h = cc
  answered (Err (fault.DeepBlock at)) p e h = cc
  answered (Err (fault.LongSum at)) p e h = cc

  as_same : (result : Result Program ParseFault) (p q : PlainProgram) → without_places q ≡ without_places p → MatchResult result (λ r. program_of r ≡ q) (λ f. f ≡ fault.Memory)
      → MatchResult result (λ r. without_places (program_of r) ≡ without_places p) (λ f. f ≡ fault.Memory)
  as_same (Ok r) p q e h = ap without_places h ∙ e
  as_same (Err f) p q e h = h

  pub complete_told : (p : PlainProgram) → IsSpellable p → IsWithinLimits p → lexing.texts_of file ts ≡ tokens p → (result : Result Program ParseFault) → Answers (told (read ls) (length file)) result
      → MatchResult result (λ q. without_places (program_of q) ≡ without_places p) (λ f. f ≡ fault.Memory)
  complete_told p s w e result h =
      let c = exact.complete ls p apart.sound s w (apart.texts ∙ e) in
      as_same result p c.0 c.1.1 (answered result c.0 (ap (λ o. told o (length file)) c.1.0) h)

  -- ---- the same of an answer

  pub spelled_answer : (result : Result Program ParseFault) → Spells file (lexing.texts_of file ts) → Answers (told (read ls) (length file)) result → IfOk result (λ p. Spells file (tokens (program_of p)))
  spelled_answer (Ok p) s h = spelled_told (program_of p) s h
  spelled_answer (Err f) s h = tt

  pub is_read_answer : (result : Result Program ParseFault) → Answers (told (read ls) (length file)) result → IfOk result (λ p. IsRead file (program_of p))
  is_read_answer (Ok p) h = is_read_told (program_of p) h
  is_read_answer (Err f) h = tt

  pub spellable_answer : (result : Result Program ParseFault) → Answers (told (read ls) (length file)) result → IfOk result (λ p. IsSpellable (program_of p))
  spellable_answer (Ok p) h = (read_from (program_of p) h).spelled
  spellable_answer (Err f) h = tt

  pub within_answer : (result : Result Program ParseFault) → Answers (told (read ls) (length file)) result → IfOk result (λ p. IsWithinLimits (program_of p))
  within_answer (Ok p) h = (read_from (program_of p) h).within
  within_answer (Err f) h = tt

  pub fault_answer : (result : Result Program ParseFault) → Answers (told (read ls) (length file)) result → IfErr result (IsFaultOf file)
  fault_answer (Ok p) h = tt
  fault_answer (Err fault.Memory) h = tt
  fault_answer (Err (fault.Lex f)) h = absurd h
  fault_answer (Err (fault.Syntax at)) h = fault_told (fault.Syntax at) h
  fault_answer (Err (fault.DeepBlock at)) h = fault_told (fault.DeepBlock at) h
  fault_answer (Err (fault.LongSum at)) h = fault_told (fault.LongSum at) h
