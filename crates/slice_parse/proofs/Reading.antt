-- What reading a list of tokens says of the grammar.
use Rattle.std.proofs.Common.{◌≡◌, ℕ, suc, ◌+◌, ◌≤◌, true, List, [], ◌∷◌, ◌++◌, map, length, refl, ap, sym, subst, ◌∙◌, append_assoc, append-nil, arith, Some}
use Rattle.std.proofs.lemmas.List.{append_cancel_right, map-append, length-map}
use Rattle.slice_ast.specs.Code.{End, PlainProgram, puts}
use Rattle.slice_ast.specs.Tokens.{Mark, Plain, Spelled, Digits, Final, text_of as mark_text, program_marks, tokens}
use Rattle.slice_parse.specs.declared.lexeme.What.{What}
use Rattle.slice_parse.specs.declared.lexeme.What.TheVariants as what
use Rattle.slice_parse.specs.declared.lexeme.Fixed.TheVariants as fixed
use Rattle.slice_parse.specs.Combinators.{Token, Fault, Syntax, Deep, Long, Tired, Outcome, Good, Bad, Parser, and_then, ◌>>=◌, pure, finish}
use Rattle.slice_parse.specs.Lexemes.{what_text, text_of, is_sign_what, expect, name, number}
use Rattle.slice_parse.specs.Rules.{procs, heads, block, program, read}
use Rattle.slice_ast.specs.Spellable.{IsSpellable}
use Rattle.slice_ast.specs.Limits.{IsWithinLimits}
use Rattle.slice_parse.specs.Limits.{KeepLimits, OpensTooDeep, MakesTooLong, open_braces, signs_of_sum, is_plus_or_minus}
use Rattle.slice_ast.specs.Bare.{without_places}
use Rattle.slice_parse.specs.Classes.{AreSound, texts_of, IsSoundWhat}
use Rattle.slice_parse.specs.Begins.{Begins, IsWhole}
use Rattle.slice_parse.proofs.Exact.{IsReadFrom, Passes, ReadIsExact}
use Rattle.slice_parse.proofs.Matching.{Matches, none, also, what_of, is_at}
use Rattle.slice_parse.proofs.FromSteps as from
use Rattle.slice_parse.proofs.FromStatements.{from_program}
use Rattle.slice_parse.proofs.LocalRules.{local_program}
use Rattle.slice_parse.proofs.DoneStatements.{FitsProgram, done_program}
use Rattle.slice_parse.proofs.PlaceSteps.{placeless, placeless_all, outcome}
use Rattle.slice_parse.proofs.PlaceRules.{flat_program}
use Rattle.slice_parse.proofs.LimitSteps.{Spot, Why, scan}
use Rattle.slice_parse.proofs.LimitRules.{limit_program}
use Rattle.slice_parse.proofs.Words.{sound_one, start, keeps_limits, braces_are, signs_are}
use Rattle.slice_parse.proofs.Fair.{Fair, AllFair, fair_front, fair_program, matched_texts, matched_places}
use Rattle.slice_parse.proofs.Fits.{fits_within, fits_any}

-- ---- the tokens of marks

pub place_or : Mark → ℕ
place_or (Plain t) = 0
place_or (Spelled x) = x.at
place_or (Digits n) = n.at
place_or (Final t e) = e

abbrev pub lexeme_of : Mark → Token
lexeme_of m = record { what = what_of m; at = place_or m }

abbrev pub lexemes : List Mark → List Token
lexemes ms = map lexeme_of ms

at_place : (m : Mark) → is_at m (place_or m)
unfolding place_or
at_place (Plain t) = tt
at_place (Spelled x) = refl
at_place (Digits n) = refl
at_place (Final t e) = refl

lexemes_match : (ms : List Mark) → Matches ms (lexemes ms)
lexemes_match [] = none
lexemes_match (m ∷ ms) = also (record { kind = refl; place = at_place m }) (lexemes_match ms)

same_token : (u : Token) (m : Mark) → IsSoundWhat u.what → Fair m → text_of u ≡ mark_text m → placeless u ≡ placeless (lexeme_of m)
same_token u m s f e = ap (λ w. record { what = w; at = 0 }) (sound_one u.what (what_of m) s f.sound (e ∙ sym f.text))

pub same_tokens : (us : List Token) (ms : List Mark) → AreSound us → AllFair ms → texts_of us ≡ map mark_text ms → placeless_all us ≡ placeless_all (lexemes ms)
same_tokens [] [] s f e = refl
same_tokens [] (m ∷ ms) s f e = cc
same_tokens (u ∷ us) [] s f e = cc
same_tokens (u ∷ us) (m ∷ ms) s f e =
    let first : text_of u ≡ mark_text m = cc in
    let rest : texts_of us ≡ map mark_text ms = cc in
    let one = same_token u m s.0 f.0 first in
    let others = same_tokens us ms s.1 f.1 rest in
    ap (λ t. t ∷ placeless_all us) one ∙ ap (λ ts. placeless (lexeme_of m) ∷ ts) others

front_tokens : (us : List Token) (ms : List Mark) (more : List (List ℕ)) → AreSound us → AllFair ms → map mark_text ms ≡ texts_of us ++ more → (s : List Token) × (placeless_all (lexemes ms) ≡ placeless_all us ++ s)
front_tokens [] ms more s f e = (placeless_all (lexemes ms), refl)
front_tokens (u ∷ us) [] more s f e = cc
front_tokens (u ∷ us) (m ∷ ms) more s f e =
    let first : text_of u ≡ mark_text m = cc in
    let rest : map mark_text ms ≡ texts_of us ++ more = cc in
    let one = same_token u m s.0 f.0 first in
    let others = front_tokens us ms more s.1 f.1 rest in
    (others.0, ap (λ t. t ∷ placeless_all (lexemes ms)) (sym one) ∙ ap (λ ts. placeless u ∷ ts) others.1)

-- ---- a program from its tokens

read_program : (t n d : ℕ) (p : PlainProgram) → FitsProgram t n d p → program t n d (lexemes (program_marks p)) ≡ Good p []
read_program t n d p w =
    let g = (done_program t n d p w).reads (lexemes (program_marks p)) [] (lexemes_match (program_marks p)) refl in
    ap (program t n d) (sym (append-nil (lexemes (program_marks p)))) ∙ g.got ∙ ap (λ x. Good x []) g.is

pub plain_read : (t n d : ℕ) (p : PlainProgram) → FitsProgram t n d p → program t n d (placeless_all (lexemes (program_marks p))) ≡ Good (without_places p) []
plain_read t n d p w = (flat_program t n d).flat (lexemes (program_marks p)) ∙ ap (outcome without_places) (read_program t n d p w)

none_left : (rest : List Token) → placeless_all rest ≡ [] → rest ≡ []
none_left [] e = refl
none_left (t ∷ rest) e = cc

outcome_is : (o : Outcome PlainProgram) (x : PlainProgram) → outcome without_places o ≡ Good x [] → (q : PlainProgram) × ((o ≡ Good q []) × (without_places q ≡ x))
outcome_is (Good q rest) x e =
    let left : placeless_all rest ≡ [] = cc in
    let same : without_places q ≡ x = cc in
    (q, (ap (λ ts. Good q ts) (none_left rest left), same))
outcome_is (Bad f rest) x e = cc

pub as_many : (ts : List Token) (ms : List Mark) → texts_of ts ≡ map mark_text ms → length ms ≤ length ts
as_many ts ms e =
    let a : length (texts_of ts) ≡ length (map mark_text ms) = ap length e in
    let b : length (texts_of ts) ≡ length ts = length-map ts text_of in
    let c : length (map mark_text ms) ≡ length ms = length-map ms mark_text in
    omega arith

completes : (ts : List Token) (p : PlainProgram) → AreSound ts → IsSpellable p → IsWithinLimits p → texts_of ts ≡ tokens p → (q : PlainProgram) × ((read ts ≡ Good q []) × (without_places q ≡ without_places p))
unfolding read
completes ts p s w v e =
    let n = length ts in
    let same = same_tokens ts (program_marks p) s (fair_program p w) e in
    let fits = fits_within p n w v (as_many ts (program_marks p) e) in
    outcome_is (program 63 n 63 ts) (without_places p) (sym ((flat_program 63 n 63).flat ts) ∙ ap (program 63 n 63) same ∙ plain_read 63 n 63 p fits)

-- ---- a rule that ends with the file

record Closed {A : Type 0} (p : Parser A) : Type 0 where
  closed : (ts : List Token) (a : A) (rest : List Token) → p ts ≡ Good a rest → rest ≡ []

closed_on : {A B : Type 0} (k : A → Parser B) (o : Outcome A) → ((a : A) → Closed (k a)) → (b : B) (rest : List Token) → and_then o k ≡ Good b rest → rest ≡ []
closed_on k (Good a mid) next b rest h = (next a).closed mid b rest h
closed_on k (Bad f mid) next b rest h = cc

closed_bind : {A B : Type 0} (p : Parser A) (k : A → Parser B) → ((a : A) → Closed (k a)) → Closed (p >>= k)
closed_bind p k next = record { closed = λ ts b rest h. closed_on k (p ts) next b rest h }

finish_closed : {A : Type 0} (v : A) (ts : List Token) (a : A) (rest : List Token) → and_then (finish ts) (λ u. pure v) ≡ Good a rest → rest ≡ []
finish_closed v [] a rest h = cc
finish_closed v (t ∷ ts) a rest h = cc

closed_finish : {A : Type 0} (v : A) → Closed (finish >>= (λ u. pure v))
closed_finish v = record { closed = finish_closed v }

closed_program : (t n d : ℕ) → Closed (program t n d)
unfolding program
closed_program t n d =
    closed_bind (procs t n (suc d)) _ (λ ps. closed_bind (expect fixed.Protocol) _ (λ v1. closed_bind name _ (λ x. closed_bind (expect fixed.Agents) _ (λ v3. closed_bind number _ (λ m.
    closed_bind (expect fixed.OpenBrace) _ (λ v5. closed_bind (heads t n (block t n d)) _ (λ hs. closed_bind (expect fixed.CloseBrace) _ (λ v7.
    closed_finish (record { procs = ps; name = x; agents = m; body = puts hs End })))))))))

-- ---- what was read

sounds_front : (us rest : List Token) → AreSound (us ++ rest) → AreSound us
sounds_front [] rest s = tt
sounds_front (u ∷ us) rest s = (s.0, sounds_front us rest s.1)

founds : (ts rest : List Token) (p : PlainProgram) → AreSound ts → read ts ≡ Good p rest → (rest ≡ []) × IsReadFrom ts p
unfolding read start
founds ts rest p s h =
    let n = length ts in
    let r = (from_program 63 n 63).good [] ts p rest none s h in
    let l = (limit_program n).good ts p rest start (omega arith) refl h in
    let end = (closed_program 63 n 63).closed ts p rest h in
    let whole : r.used ≡ ts = sym (r.split ∙ ap (λ xs. r.used ++ xs) end ∙ append-nil r.used) in
    let m : Matches (program_marks p) ts = subst (λ (xs : List Token). Matches (program_marks p) xs) whole r.same in (
      end,
      record {
        spelled = r.spelled;
        within = l.value;
        texts = matched_texts (program_marks p) ts (fair_program p r.spelled) m;
        places = matched_places (program_marks p) ts m;
      },
    )

begins_so : (us : List Token) → from.Begins program_marks IsSpellable us → Begins (texts_of us)
begins_so us b =
    let fair = fair_front b.front b.more (subst AllFair b.whole (fair_program b.value b.spelled)) in
    record {
      program = b.value;
      more = map mark_text b.more;
      spelled = b.spelled;
      whole = ap (map mark_text) b.whole ∙ map-append mark_text b.front b.more ∙ ap (λ xs. xs ++ map mark_text b.more) (sym (matched_texts b.front us fair b.same));
    }

-- ---- faults

-- what stands before a fault, in both ways of telling it
record Before (ts : List Token) (f : Fault) (rest : List Token) : Type 0 where
  seen : List Token
  split : ts ≡ seen ++ rest
  begins : from.Begins program_marks IsSpellable seen
  limit : from.IsLimit f → from.Through program_marks IsSpellable seen rest
  last : Spot
  scanned : scan start seen ≡ Some last
  why : Why f last rest

before : (ts : List Token) (f : Fault) (rest : List Token) → AreSound ts → read ts ≡ Bad f rest → Before ts f rest
unfolding read start
before ts f rest s h =
    let n = length ts in
    let r = (from_program 63 n 63).bad [] ts f rest none s h in
    let l = (limit_program n).bad ts f rest start (omega arith) refl h in
    let same : l.used ≡ r.used = append_cancel_right l.used r.used rest (sym l.split ∙ r.split) in
    record {
      seen = r.used;
      split = r.split;
      begins = r.begins;
      limit = r.limit;
      last = l.last;
      scanned = subst (λ (xs : List Token). scan start xs ≡ Some l.last) same l.scanned;
      why = l.why;
    }

seen_sound : (ts : List Token) (f : Fault) (rest : List Token) → AreSound ts → (b : Before ts f rest) → AreSound b.seen
seen_sound ts f rest s b = sounds_front b.seen rest (subst AreSound b.split s)

viables : (ts rest : List Token) (fault : Fault) → AreSound ts → read ts ≡ Bad fault rest → (seen : List Token) × ((ts ≡ seen ++ rest) × (Begins (texts_of seen) × KeepLimits (texts_of seen)))
viables ts rest f s h =
    let b = before ts f rest s h in
    (b.seen, (b.split, (begins_so b.seen b.begins, keeps_limits b.seen b.last (seen_sound ts f rest s b) b.scanned)))

-- the same, where what was seen is told
seen_is : (seen rest : List Token) (f : Fault) (b : Before (seen ++ rest) f rest) → b.seen ≡ seen
seen_is seen rest f b = append_cancel_right b.seen seen rest (sym b.split)

deeps : (seen rest : List Token) → AreSound (seen ++ rest) → read (seen ++ rest) ≡ Bad Deep rest → (wrong : Token) × ((more : List Token) × ((rest ≡ wrong ∷ more) × Passes OpensTooDeep seen wrong))
deeps seen rest s h =
    let b = before (seen ++ rest) Deep rest s h in
    let same = seen_is seen rest Deep b in
    let t = b.limit tt in
    let here = b.why.0 in
    let one : here.token ≡ t.wrong = let x : here.token ∷ here.after ≡ t.wrong ∷ t.after = sym here.split ∙ t.split in cc in
    let braces : open_braces (texts_of seen) ≡ 64 = ap (λ xs. open_braces (texts_of xs)) (sym same) ∙ braces_are b.seen b.last (seen_sound (seen ++ rest) Deep rest s b) b.scanned ∙ b.why.1 in (
      t.wrong,
      (
        t.after,
        (
          t.split,
          record {
            limit = (ap text_of (sym one) ∙ ap what_text here.is, braces);
            begins = begins_so (seen ++ t.wrong ∷ []) (subst (λ (xs : List Token). from.Begins program_marks IsSpellable (xs ++ t.wrong ∷ [])) same t.begins);
          },
        ),
      ),
    )

sign_is : (w : What) → is_sign_what w ≡ true → is_plus_or_minus (what_text w) ≡ true
sign_is (what.Fixed fixed.Plus) h = refl
sign_is (what.Fixed fixed.Minus) h = refl
sign_is (what.Fixed f) h = cc
sign_is (what.Name w) h = cc
sign_is (what.Number n) h = cc

longs : (seen rest : List Token) → AreSound (seen ++ rest) → read (seen ++ rest) ≡ Bad Long rest → (wrong : Token) × ((more : List Token) × ((rest ≡ wrong ∷ more) × Passes MakesTooLong seen wrong))
longs seen rest s h =
    let b = before (seen ++ rest) Long rest s h in
    let same = seen_is seen rest Long b in
    let t = b.limit tt in
    let here = b.why.0 in
    let one : here.token ≡ t.wrong = let x : here.token ∷ here.after ≡ t.wrong ∷ t.after = sym here.split ∙ t.split in cc in
    let signs : signs_of_sum (texts_of seen) ≡ 63 = ap (λ xs. signs_of_sum (texts_of xs)) (sym same) ∙ signs_are b.seen b.last (seen_sound (seen ++ rest) Long rest s b) b.scanned ∙ b.why.1 in (
      t.wrong,
      (
        t.after,
        (
          t.split,
          record {
            limit = (ap (λ u. is_plus_or_minus (text_of u)) (sym one) ∙ sign_is here.token.what here.is, signs);
            begins = begins_so (seen ++ t.wrong ∷ []) (subst (λ (xs : List Token). from.Begins program_marks IsSpellable (xs ++ t.wrong ∷ [])) same t.begins);
          },
        ),
      ),
    )

-- ---- no program goes on so

abbrev IsSyntax : Fault → Type 0
IsSyntax Syntax = Unit {0}
IsSyntax Deep = ⊥
IsSyntax Long = ⊥
IsSyntax Tired = ⊥

deads : (seen : List Token) (wrong : Token) (rest : List Token) → AreSound (seen ++ wrong ∷ rest) → read (seen ++ wrong ∷ rest) ≡ Bad Syntax (wrong ∷ rest) → Begins (texts_of (seen ++ wrong ∷ [])) → ⊥
unfolding read
deads seen wrong rest s h b =
    let p = b.program in
    let ms = program_marks p in
    let n = length (seen ++ wrong ∷ rest) in
    let wide = n + length ms + 64 in
    let through : seen ++ wrong ∷ rest ≡ (seen ++ wrong ∷ []) ++ rest = sym (append_assoc seen (wrong ∷ []) rest) in
    let x = front_tokens (seen ++ wrong ∷ []) ms b.more (sounds_front (seen ++ wrong ∷ []) rest (subst AreSound through s)) (fair_program p b.spelled) b.whole in
    let spelled : placeless_all (lexemes ms) ≡ placeless_all seen ++ placeless wrong ∷ x.0 =
    x.1 ∙ ap (λ ts. ts ++ x.0) (map-append placeless seen (wrong ∷ [])) ∙ append_assoc (placeless_all seen) (placeless wrong ∷ []) x.0 in
    let stops : program 63 n 63 (placeless_all seen ++ placeless wrong ∷ placeless_all rest) ≡ Bad Syntax (placeless wrong ∷ placeless_all rest) =
    ap (program 63 n 63) (sym (map-append placeless seen (wrong ∷ rest))) ∙ (flat_program 63 n 63).flat (seen ++ wrong ∷ rest) ∙ ap (outcome without_places) h in
    let there : program wide wide wide (placeless_all seen ++ placeless wrong ∷ x.0) ≡ Bad Syntax (placeless wrong ∷ x.0) =
    (local_program IsSyntax n wide (omega arith) (λ w. absurd w) 63 wide (omega arith) (λ w. absurd w) 63 wide (omega arith) (λ w. absurd w)).bad (placeless_all seen) (placeless wrong) (placeless_all rest) x.0 Syntax tt stops in
    let good : program wide wide wide (placeless_all (lexemes ms)) ≡ Good (without_places p) [] = plain_read wide wide wide p (fits_any p wide b.spelled (omega arith)) in
    let clash : Bad Syntax (placeless wrong ∷ x.0) ≡ Good (without_places p) [] = sym there ∙ ap (program wide wide wide) (sym spelled) ∙ good in
    cc

shorts : (ts : List Token) → AreSound ts → read ts ≡ Bad Syntax [] → IsWhole (texts_of ts) → ⊥
unfolding read
shorts ts s h w =
    let p = w.program in
    let ms = program_marks p in
    let n = length ts in
    let wide = n + length ms + 64 in
    let same : placeless_all ts ≡ placeless_all (lexemes ms) = same_tokens ts ms s (fair_program p w.spelled) (sym w.whole) in
    let stops : program 63 n 63 (placeless_all ts) ≡ Bad Syntax [] = (flat_program 63 n 63).flat ts ∙ ap (outcome without_places) h in
    let there : program wide wide wide (placeless_all ts) ≡ Bad Syntax [] =
    (local_program IsSyntax n wide (omega arith) (λ w. absurd w) 63 wide (omega arith) (λ w. absurd w) 63 wide (omega arith) (λ w. absurd w)).same_bad (placeless_all ts) Syntax [] tt stops in
    let good : program wide wide wide (placeless_all (lexemes ms)) ≡ Good (without_places p) [] = plain_read wide wide wide p (fits_any p wide w.spelled (omega arith)) in
    let clash : Bad Syntax [] ≡ Good (without_places p) [] = sym there ∙ ap (program wide wide wide) same ∙ good in
    cc

calms : (ts rest : List Token) → read ts ≡ Bad Tired rest → ⊥
unfolding read start
calms ts rest h = ((limit_program (length ts)).bad ts Tired rest start (omega arith) refl h).why

pub read_is_exact : ReadIsExact
read_is_exact = record {
  found = founds;
  complete = completes;
  viable = viables;
  dead = deads;
  short = shorts;
  deep = deeps;
  long = longs;
  calm = calms;
}
