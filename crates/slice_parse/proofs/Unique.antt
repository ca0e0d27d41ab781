-- A text has one fault, and then no program; and it has a program or a fault.
use Rattle.std.proofs.Common.{◌≡◌, ◌≢◌, ℕ, true, List, [], ◌∷◌, ◌++◌, length, codes, refl, ap, sym, subst, ◌∙◌, append_assoc, append-nil, arith, ◌⊎◌, inl, inr, Err, Some}
use Rattle.std.proofs.lemmas.List.{map-append}
use Rattle.slice_lex.specs.declared.token.Token.{Token}
use Rattle.slice_lex.specs.declared.token.LexFault.{LexFault}
use Rattle.slice_lex.specs.Text.{Spells}
use Rattle.slice_lex.specs.Lexing.{Lexing, IsLexing, Tokens, Fault, text_of, texts_of}
use Rattle.slice_lex.proofs.Unique.{lexings_unique}
use Rattle.slice_lex.proofs.Exists.{some_lexing}
use Rattle.slice_lex.proofs.Spelled.{spelled_lexed, lexed_spelled}
use Rattle.slice_ast.specs.Code.{PlainProgram}
use Rattle.slice_ast.specs.Places.{HasPlaces}
use Rattle.slice_ast.specs.Tokens.{tokens}
use Rattle.slice_ast.proofs.CalmLemmas.{program-tokens, program-apart}
use Rattle.slice_ast.proofs.Whole.{program_same}
use Rattle.slice_parse.specs.declared.parser.ParseFault.{ParseFault}
use Rattle.slice_parse.specs.declared.parser.ParseFault.TheVariants as fault
use Rattle.slice_parse.specs.Combinators as step
use Rattle.slice_parse.specs.Rules.{read}
use Rattle.slice_parse.specs.Limits.{KeepLimits, OpensTooDeep, MakesTooLong, is_plus_or_minus}
use Rattle.slice_parse.specs.Begins.{Begins, IsWhole}
use Rattle.slice_parse.specs.Classes.{AreSound, texts_of as lexeme_texts, AreToldApart}
use Rattle.slice_parse.specs.Parsing.{IsWrong, IsCutShort, PassesAt, IsFaultOf}
use Rattle.slice_parse.specs.Told.{next_place, told}
use Rattle.slice_parse.specs.Laws.{IsTextOf, IsProgramOf, HasFault, FaultsAreUnique, FaultyTextsHaveNoProgram, ProgramsAreUnique, EachTextIsParsed}
use Rattle.slice_parse.proofs.LimitSteps.{scan}
use Rattle.slice_parse.proofs.LimitRules.{limit_program}
use Rattle.slice_parse.proofs.Words.{start, keeps_limits}
use Rattle.slice_parse.proofs.Parsed.{fault_answer}
use Rattle.slice_parse.proofs.Reading.{read_is_exact}
use Rattle.slice_parse.proofs.Told.{tell}

-- ---- where two fronts of a list end

data Meet {A : Type 0} (front : List A) (wrong : A) (other : List A) (last : A) : Type 0 where
  same : front ≡ other → wrong ≡ last → Meet front wrong other last
  before : (mid : List A) → other ≡ front ++ wrong ∷ mid → Meet front wrong other last
  after : (mid : List A) → front ≡ other ++ last ∷ mid → Meet front wrong other last

meet_more : {A : Type 0} (x y : A) (f : List A) (w : A) (g : List A) (v : A) → x ≡ y → Meet f w g v → Meet (x ∷ f) w (y ∷ g) v
meet_more x y f w g v e (same p q) = same (cc) q
meet_more x y f w g v e (before mid p) = before mid (cc)
meet_more x y f w g v e (after mid p) = after mid (cc)

meet : {A : Type 0} (f : List A) (w : A) (b : List A) (g : List A) (v : A) (c : List A) → f ++ w ∷ b ≡ g ++ v ∷ c → Meet f w g v
meet [] w b [] v c e = same refl (cc)
meet [] w b (y ∷ g) v c e = before g (cc)
meet (x ∷ f) w b [] v c e = after f (cc)
meet (x ∷ f) w b (y ∷ g) v c e =
    let first : x ≡ y = cc in
    let rest : f ++ w ∷ b ≡ g ++ v ∷ c = cc in
    meet_more x y f w g v first (meet f w b g v c rest)

-- ---- one lexing

pub one_list : (file : List ℕ) (ts us : List Token) → IsLexing file (Tokens ts) → IsLexing file (Tokens us) → ts ≡ us
one_list file ts us h k = let e = lexings_unique file (Tokens ts) (Tokens us) h k in cc

one_fault : (file : List ℕ) (f g : LexFault) → IsLexing file (Fault f) → IsLexing file (Fault g) → f ≡ g
one_fault file f g h k = let e = lexings_unique file (Fault f) (Fault g) h k in cc

not_both : (file : List ℕ) (f : LexFault) (ts : List Token) → IsLexing file (Fault f) → IsLexing file (Tokens ts) → ⊥
not_both file f ts h k = let e = lexings_unique file (Fault f) (Tokens ts) h k in cc

-- ---- a token at which reading halts, whatever follows

record Halt (file : List ℕ) (front : List Token) (wrong : Token) : Type 0 where
  back : List Token
  lexed : IsLexing file (Tokens (front ++ wrong ∷ back))
  begins : Begins (texts_of file front)
  keep : KeepLimits (texts_of file front)
  stops : (mid : List Token) → Begins (texts_of file (front ++ wrong ∷ mid)) → KeepLimits (texts_of file (front ++ wrong ∷ mid)) → ⊥

begins_front : (xs ys : List (List ℕ)) → Begins (xs ++ ys) → Begins xs
begins_front xs ys b = record { program = b.program; more = ys ++ b.more; spelled = b.spelled; whole = b.whole ∙ append_assoc xs ys b.more }

-- those through the token, of those with more
begins_through : (file : List ℕ) (front : List Token) (wrong : Token) (mid : List Token) → Begins (texts_of file (front ++ wrong ∷ mid)) → Begins (texts_of file (front ++ wrong ∷ []))
begins_through file front wrong mid b =
    let split : texts_of file (front ++ wrong ∷ mid) ≡ texts_of file (front ++ wrong ∷ []) ++ texts_of file mid =
    ap (texts_of file) (sym (append_assoc front (wrong ∷ []) mid)) ∙ map-append (text_of file) (front ++ wrong ∷ []) mid in
    begins_front (texts_of file (front ++ wrong ∷ [])) (texts_of file mid) (subst Begins split b)

halt_wrong : (file : List ℕ) (at : ℕ) (w : IsWrong file at) → Halt file w.front w.wrong
halt_wrong file at w = record {
  back = w.back;
  lexed = w.lexed;
  begins = w.begins;
  keep = w.keep;
  stops = λ mid b k. w.dead (begins_through file w.front w.wrong mid b);
}

halt_pass : (Limit : List (List ℕ) → List ℕ → Type 0) → ((xs : List (List ℕ)) (t : List ℕ) → Limit xs t → OpensTooDeep xs t ⊎ MakesTooLong xs t) → (file : List ℕ) (at : ℕ) (p : PassesAt Limit file at) → Halt file p.front p.wrong
halt_pass Limit one file at p = record {
  back = p.back;
  lexed = p.lexed;
  begins =
      let split : texts_of file (p.front ++ p.wrong ∷ []) ≡ texts_of file p.front ++ texts_of file (p.wrong ∷ []) = map-append (text_of file) p.front (p.wrong ∷ []) in
      begins_front (texts_of file p.front) (texts_of file (p.wrong ∷ [])) (subst Begins split p.begins);
  keep = p.keep;
  stops = λ mid b k.
      k (texts_of file p.front) (text_of file p.wrong) (texts_of file mid) (map-append (text_of file) p.front (p.wrong ∷ mid)) (one (texts_of file p.front) (text_of file p.wrong) p.limit);
}

halt_deep : (file : List ℕ) (at : ℕ) (p : PassesAt OpensTooDeep file at) → Halt file p.front p.wrong
halt_deep file at p = halt_pass OpensTooDeep (λ xs t h. inl h) file at p

halt_long : (file : List ℕ) (at : ℕ) (p : PassesAt MakesTooLong file at) → Halt file p.front p.wrong
halt_long file at p = halt_pass MakesTooLong (λ xs t h. inr h) file at p

-- where tokens go on behind it, they pass a limit or begin no program
halts : (file : List ℕ) (f : List Token) (w : Token) (us : List Token) (mid : List Token) → Halt file f w → us ≡ f ++ w ∷ mid → Begins (texts_of file us) → KeepLimits (texts_of file us) → ⊥
halts file f w us mid h e b k = h.stops mid (subst (λ (vs : List Token). Begins (texts_of file vs)) e b) (subst (λ (vs : List Token). KeepLimits (texts_of file vs)) e k)

met : (file : List ℕ) (f : List Token) (w : Token) (g : List Token) (v : Token) → Halt file f w → Halt file g v → Meet f w g v → (f ≡ g) × (w ≡ v)
met file f w g v h k (same p q) = (p, q)
met file f w g v h k (before mid p) = absurd (halts file f w g mid h p k.begins k.keep)
met file f w g v h k (after mid p) = absurd (halts file g v f mid k p h.begins h.keep)

-- reading halts at one token
one_halt : (file : List ℕ) (f : List Token) (w : Token) (g : List Token) (v : Token) → Halt file f w → Halt file g v → (f ≡ g) × (w ≡ v)
one_halt file f w g v h k = met file f w g v h k (meet f w h.back g v k.back (one_list file (f ++ w ∷ h.back) (g ++ v ∷ k.back) h.lexed k.lexed))

-- ---- pairs of faults

wrong_passes : (Limit : List (List ℕ) → List ℕ → Type 0) (file : List ℕ) (a b : ℕ) (w : IsWrong file a) (p : PassesAt Limit file b) → (w.front ≡ p.front) × (w.wrong ≡ p.wrong) → ⊥
wrong_passes Limit file a b w p e =
    let same : p.front ++ p.wrong ∷ [] ≡ w.front ++ w.wrong ∷ [] = let x = e.0 in let y = e.1 in cc in
    w.dead (subst (λ (vs : List Token). Begins (texts_of file vs)) same p.begins)

brace_or_sign : (t : List ℕ) → t ≡ codes "{" → is_plus_or_minus t ≡ true → ⊥
brace_or_sign t e h = let x : is_plus_or_minus (codes "{") ≡ true = ap is_plus_or_minus (sym e) ∙ h in cc

deep_long : (file : List ℕ) (a b : ℕ) (p : PassesAt OpensTooDeep file a) (q : PassesAt MakesTooLong file b) → (p.front ≡ q.front) × (p.wrong ≡ q.wrong) → ⊥
deep_long file a b p q e = brace_or_sign (text_of file p.wrong) p.limit.0 (ap (λ (t : Token). is_plus_or_minus (text_of file t)) e.1 ∙ q.limit.0)

cut_halts : (file : List ℕ) (a : ℕ) (s : IsCutShort file a) (f : List Token) (w : Token) → Halt file f w → ⊥
cut_halts file a s f w h = halts file f w s.tokens h.back h (one_list file s.tokens (f ++ w ∷ h.back) s.lexed h.lexed) s.begins s.keep

syntax_lexed : (file : List ℕ) (at : ℕ) → IsWrong file at ⊎ IsCutShort file at → (ts : List Token) × IsLexing file (Tokens ts)
syntax_lexed file at (inl w) = (w.front ++ w.wrong ∷ w.back, w.lexed)
syntax_lexed file at (inr s) = (s.tokens, s.lexed)

syntax_halts : (Limit : List (List ℕ) → List ℕ → Type 0) (file : List ℕ) (a b : ℕ) (p : PassesAt Limit file b) → Halt file p.front p.wrong → IsWrong file a ⊎ IsCutShort file a → ⊥
syntax_halts Limit file a b p h (inl w) = wrong_passes Limit file a b w p (one_halt file w.front w.wrong p.front p.wrong (halt_wrong file a w) h)
syntax_halts Limit file a b p h (inr s) = cut_halts file a s p.front p.wrong h

from_same : (a b : ℕ) (w v : Token) → a ≡ w.from → b ≡ v.from → w ≡ v → a ≡ b
from_same a b w v p q e = p ∙ ap (λ (t : Token). t.from) e ∙ sym q

syntax_same : (file : List ℕ) (a b : ℕ) → IsWrong file a ⊎ IsCutShort file a → IsWrong file b ⊎ IsCutShort file b → a ≡ b
syntax_same file a b (inl w) (inl v) = from_same a b w.wrong v.wrong w.place v.place (one_halt file w.front w.wrong v.front v.wrong (halt_wrong file a w) (halt_wrong file b v)).1
syntax_same file a b (inl w) (inr s) = absurd (cut_halts file b s w.front w.wrong (halt_wrong file a w))
syntax_same file a b (inr s) (inl v) = absurd (cut_halts file a s v.front v.wrong (halt_wrong file b v))
syntax_same file a b (inr s) (inr r) = s.place ∙ sym r.place

faults_same : (file : List ℕ) (f g : ParseFault) → f ≢ fault.Memory → g ≢ fault.Memory → IsFaultOf file f → IsFaultOf file g → f ≡ g
faults_same file fault.Memory g m n h k = absurd (m refl)
faults_same file (fault.Lex f) fault.Memory m n h k = absurd (n refl)
faults_same file (fault.Lex f) (fault.Lex g) m n h k = ap fault.Lex (one_fault file f g h k)
faults_same file (fault.Lex f) (fault.Syntax b) m n h k = let l = syntax_lexed file b k in absurd (not_both file f l.0 h l.1)
faults_same file (fault.Lex f) (fault.DeepBlock b) m n h k = absurd (not_both file f (k.front ++ k.wrong ∷ k.back) h k.lexed)
faults_same file (fault.Lex f) (fault.LongSum b) m n h k = absurd (not_both file f (k.front ++ k.wrong ∷ k.back) h k.lexed)
faults_same file (fault.Syntax a) fault.Memory m n h k = absurd (n refl)
faults_same file (fault.Syntax a) (fault.Lex g) m n h k = let l = syntax_lexed file a h in absurd (not_both file g l.0 k l.1)
faults_same file (fault.Syntax a) (fault.Syntax b) m n h k = ap fault.Syntax (syntax_same file a b h k)
faults_same file (fault.Syntax a) (fault.DeepBlock b) m n h k = absurd (syntax_halts OpensTooDeep file a b k (halt_deep file b k) h)
faults_same file (fault.Syntax a) (fault.LongSum b) m n h k = absurd (syntax_halts MakesTooLong file a b k (halt_long file b k) h)
faults_same file (fault.DeepBlock a) fault.Memory m n h k = absurd (n refl)
faults_same file (fault.DeepBlock a) (fault.Lex g) m n h k = absurd (not_both file g (h.front ++ h.wrong ∷ h.back) k h.lexed)
faults_same file (fault.DeepBlock a) (fault.Syntax b) m n h k = absurd (syntax_halts OpensTooDeep file b a h (halt_deep file a h) k)
faults_same file (fault.DeepBlock a) (fault.DeepBlock b) m n h k =
    ap fault.DeepBlock (from_same a b h.wrong k.wrong h.place k.place (one_halt file h.front h.wrong k.front k.wrong (halt_deep file a h) (halt_deep file b k)).1)
faults_same file (fault.DeepBlock a) (fault.LongSum b) m n h k = absurd (deep_long file a b h k (one_halt file h.front h.wrong k.front k.wrong (halt_deep file a h) (halt_long file b k)))
faults_same file (fault.LongSum a) fault.Memory m n h k = absurd (n refl)
faults_same file (fault.LongSum a) (fault.Lex g) m n h k = absurd (not_both file g (h.front ++ h.wrong ∷ h.back) k h.lexed)
faults_same file (fault.LongSum a) (fault.Syntax b) m n h k = absurd (syntax_halts MakesTooLong file b a h (halt_long file a h) k)
faults_same file (fault.LongSum a) (fault.DeepBlock b) m n h k = absurd (deep_long file b a k h (one_halt file k.front k.wrong h.front h.wrong (halt_deep file b k) (halt_long file a h)))
faults_same file (fault.LongSum a) (fault.LongSum b) m n h k =
    ap fault.LongSum (from_same a b h.wrong k.wrong h.place k.place (one_halt file h.front h.wrong k.front k.wrong (halt_long file a h) (halt_long file b k)).1)

pub faults_unique : FaultsAreUnique
faults_unique text f g h k = faults_same text f g h.own k.own h.first k.first

-- ---- a text of a program

record Lexed (file : List ℕ) (p : PlainProgram) : Type 0 where
  list : List Token
  lexed : IsLexing file (Tokens list)
  texts : texts_of file list ≡ tokens p

text_lexed : (file : List ℕ) (p : PlainProgram) → IsTextOf file p → Lexed file p
text_lexed file p h =
    let one = spelled_lexed file (tokens p) (program-tokens p h.spellable) (program-apart p h.spellable) h.spelled in
    record { list = one.0; lexed = one.1.0; texts = one.1.1 }

pub same_tokens : (file : List ℕ) (p q : PlainProgram) → IsTextOf file p → IsTextOf file q → tokens p ≡ tokens q
same_tokens file p q h k =
    let l = text_lexed file p h in
    let m = text_lexed file q k in
    sym l.texts ∙ ap (texts_of file) (one_list file l.list m.list l.lexed m.lexed) ∙ m.texts

pub programs_unique : ProgramsAreUnique
programs_unique text p q h k = let e = same_tokens text p q h k in (e, program_same p q h.spellable k.spellable e)

-- what is read keeps the limits
read_keeps : (ls : List step.Token) (q : PlainProgram) → AreSound ls → read ls ≡ step.Good q [] → KeepLimits (lexeme_texts ls)
unfolding read start
read_keeps ls q s e =
    let w = (limit_program (length ls)).good ls q [] start (omega arith) refl e in
    let all : w.used ≡ ls = sym (append-nil w.used) ∙ sym w.split in
    keeps_limits ls w.last s (subst (λ (us : List step.Token). scan start us ≡ Some w.last) all w.scanned)

text_keeps : (file : List ℕ) (p : PlainProgram) → IsTextOf file p → (l : Lexed file p) → KeepLimits (texts_of file l.list)
text_keeps file p h l =
    let apart = tell file l.list (lexed_spelled file l.list l.lexed).1 in
    let ls = apart.0 in
    let c = read_is_exact.complete ls p apart.1.sound h.spellable h.within (apart.1.texts ∙ l.texts) in
    subst KeepLimits apart.1.texts (read_keeps ls c.0 apart.1.sound c.1.0)

text_whole : (file : List ℕ) (p : PlainProgram) → IsTextOf file p → (l : Lexed file p) → IsWhole (texts_of file l.list)
text_whole file p h l = record { program = p; spelled = h.spellable; whole = sym l.texts }

text_begins : (file : List ℕ) (p : PlainProgram) → IsTextOf file p → (l : Lexed file p) → Begins (texts_of file l.list)
text_begins file p h l = record { program = p; more = []; spelled = h.spellable; whole = sym l.texts ∙ sym (append-nil (texts_of file l.list)) }

text_halts : (file : List ℕ) (p : PlainProgram) → IsTextOf file p → (f : List Token) (w : Token) → Halt file f w → ⊥
text_halts file p h f w k =
    let l = text_lexed file p h in
    halts file f w l.list k.back k (one_list file l.list (f ++ w ∷ k.back) l.lexed k.lexed) (text_begins file p h l) (text_keeps file p h l)

text_syntax : (file : List ℕ) (p : PlainProgram) (at : ℕ) → IsTextOf file p → IsWrong file at ⊎ IsCutShort file at → ⊥
text_syntax file p at h (inl w) = text_halts file p h w.front w.wrong (halt_wrong file at w)
text_syntax file p at h (inr s) =
    let l = text_lexed file p h in
    s.short (subst (λ (us : List Token). IsWhole (texts_of file us)) (one_list file l.list s.tokens l.lexed s.lexed) (text_whole file p h l))

no_program : (file : List ℕ) (f : ParseFault) (p : PlainProgram) → f ≢ fault.Memory → IsFaultOf file f → IsTextOf file p → ⊥
no_program file fault.Memory p m h t = m refl
no_program file (fault.Lex f) p m h t = let l = text_lexed file p t in not_both file f l.list h l.lexed
no_program file (fault.Syntax at) p m h t = text_syntax file p at t h
no_program file (fault.DeepBlock at) p m h t = text_halts file p t h.front h.wrong (halt_deep file at h)
no_program file (fault.LongSum at) p m h t = text_halts file p t h.front h.wrong (halt_long file at h)

pub faulty_apart : FaultyTextsHaveNoProgram
faulty_apart text f p h t = no_program text f p h.own h.first t

-- ---- each text is parsed

abbrev Parsed : List ℕ → Type 0
Parsed text = ((p : PlainProgram) × IsProgramOf text p) ⊎ ((f : ParseFault) × HasFault text f)

lex_own : (f : LexFault) → fault.Lex f ≢ fault.Memory
lex_own f e = cc

faulted : (file : List ℕ) (f : ParseFault) → f ≢ fault.Memory → IsFaultOf file f → Parsed file
faulted file f m h = inr (f, record { own = m; first = h })

module _ (file : List ℕ) (ts : List Token) (ls : List step.Token) (lexed : IsLexing file (Tokens ts)) (apart : AreToldApart file ts ls) where
  by_read : (o : step.Outcome PlainProgram) → read ls ≡ o → Parsed file
  by_read (step.Good p rest) e =
      let r = (read_is_exact.found ls rest p apart.sound e).1 in
      inl (
        p,
        record {
          spelled = record { spelled = subst (Spells file) (sym apart.texts ∙ r.texts) (lexed_spelled file ts lexed).0; spellable = r.spelled; within = r.within };
          read = (ts, (lexed, sym apart.texts ∙ r.texts, subst (HasPlaces p) apart.places r.places));
        },
      )
  by_read (step.Bad step.Tired rest) e = absurd (read_is_exact.calm ls rest e)
  by_read (step.Bad step.Syntax rest) e =
      faulted file (fault.Syntax (next_place rest (length file))) (λ x. cc)
      (fault_answer read_is_exact file ts ls lexed apart (Err (fault.Syntax (next_place rest (length file)))) (ap (λ o. told o (length file)) e))
  by_read (step.Bad step.Deep rest) e =
      faulted file (fault.DeepBlock (next_place rest (length file))) (λ x. cc)
      (fault_answer read_is_exact file ts ls lexed apart (Err (fault.DeepBlock (next_place rest (length file)))) (ap (λ o. told o (length file)) e))
  by_read (step.Bad step.Long rest) e =
      faulted file (fault.LongSum (next_place rest (length file))) (λ x. cc)
      (fault_answer read_is_exact file ts ls lexed apart (Err (fault.LongSum (next_place rest (length file)))) (ap (λ o. told o (length file)) e))

by_lexing : (file : List ℕ) (l : Lexing) → IsLexing file l → Parsed file
by_lexing file (Fault f) h = faulted file (fault.Lex f) (lex_own f) h
by_lexing file (Tokens ts) h =
    let apart = tell file ts (lexed_spelled file ts h).1 in
    by_read file ts apart.0 h apart.1 (read apart.0) refl

pub each_parsed : EachTextIsParsed
each_parsed text = let l = some_lexing text in by_lexing text l.0 l.1
