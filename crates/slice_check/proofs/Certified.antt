-- The lines that are written of a certificate are one.
use Rattle.std.proofs.Common.{◌≡◌, ◌∙◌, ℕ, zero, suc, ◌+◌, ◌<◌, ◌≤◌, arith, refl, sym, ap, subst, List, [], ◌∷◌, ◌++◌, length, map, drop, Option, append_assoc, inl, inr}
use Rattle.std.proofs.lemmas.List.{drop-drop, length-append, length-drop, nil_from_length}
use Rattle.slice_num.specs.Pieces.{joined}
use Rattle.slice_io.specs.Told.{appended}
use Rattle.slice_io.specs.Lines.{lines_of}
use Rattle.slice_io.proofs.Gathering.{lines_joined}
use Rattle.slice_core.specs.Tree.{Core}
use Rattle.slice_core.specs.WellFormed.{IsWellFormed}
use Rattle.slice_paths.specs.Fronts.{ShareFirst}
use Rattle.slice_paths.specs.Goals.{Goal, goals}
use Rattle.slice_cert.specs.declared.line.Line.{Line}
use Rattle.slice_cert.specs.declared.line.Line.TheVariants.{Header, Refutation, Cover, Closing}
use Rattle.slice_cert.specs.CertLines.{line_text}
use Rattle.slice_check.specs.declared.answer.CertAnswer.TheVariants.{Accepted}
use Rattle.slice_check.specs.Certificate.{Accepts, AreLines, AreShort, TakeInOrder, Takes, line_limit}
use Rattle.slice_check.specs.Upgrades.{AreShortened, IsUpgraded, texts_of}
use Rattle.slice_check.specs.Upgrading.{AllBrief, AllReadBack, IsPut, ReadsBack}
use Rattle.slice_check.proofs.LinesOut.{more_out, one_more_out, texts_more}
use Rattle.slice_check.proofs.Short.{closing_short, header_short}

-- ---- the lines take all goals

-- a line that covers goals takes the first
some_share : (core : Core) (passed : ℕ) (g : Goal) (gs : List Goal) (count : ℕ) → ShareFirst core passed g.trace (g ∷ gs) count → 0 < count
some_share core passed g gs zero s = absurd (s.2 0 g (omega arith) refl)
some_share core passed g gs (suc count) s = omega arith

pub takes_some : (core : Core) (n : ℕ) (gs : List Goal) (l : Line) (count : ℕ) → Takes core 2 n gs l count → (0 < count) × (count ≤ length gs)
takes_some core n gs (Header v protocol agents) count t = absurd t
takes_some core n [] (Refutation goal m) count t = absurd t.2
takes_some core n (g ∷ gs) (Refutation goal m) count t = let one = t.1 in (omega (arith, one), omega (arith, one))
takes_some core n [] (Cover goal passed m) count t = absurd t.2
takes_some core n (g ∷ gs) (Cover goal passed m) count t = let share = t.2.3 in (some_share core passed g gs count share, share.0)
takes_some core n gs (Closing total) count t = absurd t

-- the lines for goals from n on take all that aren't taken yet
pub takes_all : (core : Core) (n taken : ℕ) (ls written : List Line) (last : ℕ) → AreShortened core n taken ls written last → n ≤ taken → length (goals core) ≤ last → TakeInOrder core 2 taken (drop taken (goals core)) written
takes_all core n taken [] written last h le all =
    let gs = goals core in
    let e = h.1 in
    let past : length (drop taken gs) ≡ 0 = omega (arith, e, all, length-drop taken gs) in
    subst (TakeInOrder core 2 taken (drop taken gs)) (sym h.0) (nil_from_length (drop taken gs) past)
takes_all core n taken (l ∷ ls) written last (inl h) le all = let lt = h.0 in takes_all core (n + 1) taken ls written last h.1 (omega (arith, lt)) all
takes_all core n taken (l ∷ ls) written last (inr h) le all =
    let gs = goals core in
    let least = h.0 in
    let here : n ≡ taken = omega (arith, le, least) in
    let takes : Takes core 2 taken (drop taken gs) h.1 h.2 = subst (λ (k : ℕ). Takes core 2 k (drop k gs) h.1 h.2) here h.4.3 in
    let some = takes_some core taken (drop taken gs) h.1 h.2 takes in
    let more = some.0 in
    let rest = takes_all core (n + 1) (n + h.2) ls h.3 last h.6 (omega (arith, more)) all in
    let on = subst (λ (k : ℕ). TakeInOrder core 2 (k + h.2) (drop (k + h.2) gs) h.3) here rest in
    let left = subst (λ (hs : List Goal). TakeInOrder core 2 (taken + h.2) hs h.3) (sym (drop-drop h.2 taken gs)) on in
    subst (TakeInOrder core 2 taken (drop taken gs)) (sym h.5) (h.2, some.1, takes, left)

-- ---- the lines of the bytes

-- the texts of lines without their LF
bare : (ls : List Line) → AllReadBack ls → List (List ℕ)
bare [] h = []
bare (l ∷ ls) h = h.0.0 ∷ bare ls h.1

lines_are : (ls : List Line) (h : AllReadBack ls) → lines_of (joined (map line_text ls)) ≡ bare ls h
unfolding bare
lines_are [] h = refl
lines_are (l ∷ ls) h =
    let rest = joined (map line_text ls) in
    ap lines_of (ap (λ (bs : List ℕ). bs ++ rest) h.0.1 ∙ append_assoc h.0.0 (10 ∷ []) rest)
    ∙ (lines_joined h.0.0 rest h.0.2 ∙ ap (λ ts. h.0.0 ∷ ts) (lines_are ls h.1))

each_line : (ls : List Line) (h : AllReadBack ls) → AreLines (bare ls h) ls
unfolding bare
each_line [] h = tt
each_line (l ∷ ls) h = (h.0.3, each_line ls h.1)

-- none is too long
each_short : (ls : List Line) (h : AllReadBack ls) → AllBrief ls → AreShort (bare ls h)
unfolding bare
each_short [] h s = tt
each_short (l ∷ ls) h s =
    let e = ap length h.0.1 in
    let f = length-append h.0.0 (10 ∷ []) in
    let g = s.0 in
    (omega (arith, e, f, g), each_short ls h.1 s.1)

pub read_more : (ls : List Line) (l : Line) → AllReadBack ls → ReadsBack l → AllReadBack (ls ++ l ∷ [])
read_more [] l h r = (r, tt)
read_more (x ∷ ls) l h r = (h.0, read_more ls l h.1 r)

pub brief_more : (ls : List Line) (l : Line) → AllBrief ls → length (line_text l) ≤ line_limit → AllBrief (ls ++ l ∷ [])
brief_more [] l h k = (k, tt)
brief_more (x ∷ ls) l h k = (h.0, brief_more ls l h.1 k)

-- ---- the whole

-- lines that take all goals, between the header and the closing line, are a certificate
pub certified : (core : Core) (ls : List Line) (n : ℕ) → IsWellFormed core → TakeInOrder core 2 0 (goals core) ls → n ≡ length (goals core) → AllReadBack (Header 2 core.name core.agents ∷ ls) → AllBrief ls → ReadsBack (Closing n)
    → Accepts core (joined (texts_of core (ls ++ Closing n ∷ [])))
certified core ls n formed takes all back few close =
    let first : List Line = Header 2 core.name core.agents ∷ ls in
    let lines : List Line = first ++ Closing n ∷ [] in
    let read : AllReadBack lines = read_more first (Closing n) back close in
    let short : AllBrief lines = brief_more first (Closing n) (header_short core.name core.agents formed.named, few) (closing_short n) in
    let texts : lines_of (joined (map line_text lines)) ≡ bare lines read = lines_are lines read in
    let total : lines ≡ first ++ Closing (length (goals core)) ∷ [] = ap (λ (k : ℕ). first ++ Closing k ∷ []) all in
    record {
      short = subst AreShort (sym texts) (each_short lines read short);
      body = ls;
      version = 2;
      known = inr refl;
      takes = takes;
      lines = subst (λ (ts : List (List ℕ)). AreLines ts (first ++ Closing (length (goals core)) ∷ [])) (sym texts) (subst (AreLines (bare lines read)) total (each_line lines read));
    }

-- the bytes that are put behind what was out
pub upgraded : (core : Core) (old first now new : Option (List ℕ)) (n taken : ℕ) (body : List Line) → IsWellFormed core → ReadsBack (Header 2 core.name core.agents) → first ≡ appended old (line_text (Header 2 core.name core.agents))
    → IsPut core first now n taken body → n ≡ length (goals core) → ReadsBack (Closing n) → new ≡ appended now (line_text (Closing n)) → IsUpgraded core old new (Accepted n)
upgraded core old first now new n taken body formed head out p all back closing =
    let some = p.some in
    let takes : TakeInOrder core 2 0 (goals core) p.written = takes_all core 0 0 body p.written p.last p.short (omega arith) (omega (arith, some, all)) in
    let before = more_out old first now (line_text (Header 2 core.name core.agents)) (map line_text p.written) out p.out in (
      joined (texts_of core (p.written ++ Closing n ∷ [])),
      certified core p.written n formed takes all (head, p.read) p.brief back,
      one_more_out old now new (texts_of core p.written) (line_text (Closing n)) before closing ∙ ap (λ (ts : List (List ℕ)). appended old (joined ts)) (sym (texts_more core p.written (Closing n))),
    )
