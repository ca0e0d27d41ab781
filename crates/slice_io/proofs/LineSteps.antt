-- The steps by which a reader gathers a line.
use Rattle.std.proofs.Common.{◌≡◌, ◌≢◌, ◌∙◌, ◌+◌, ◌-◌, ◌<◌, ◌≤◌, ◌++◌, ◌==◌, ℕ, zero, suc, List, [], ◌∷◌, length, take, drop, ap, sym, subst, refl, arith, Bool, true, false, if◌then◌else◌, append_assoc, append-nil, length-append, Some, true≢false, inl, inr}
use Rattle.std.proofs.lemmas.Bool.{cases_lt}
use Rattle.std.proofs.lemmas.List.{drop-drop, take-append-drop}
use Rattle.std.proofs.Math.ListN.{drop_of_length-le}
use Rattle.std.proofs.Math.Seq.{drop-append_seam}
use Rattle.std.specs.declared.option.Option.{Option}
use Rattle.slice_io.specs.Causes.{counted}
use Rattle.slice_io.specs.declared.lines.LineFault.{LineFault}
use Rattle.slice_io.specs.declared.lines.LineFault.TheVariants.{ReadFault, LineTooLong, TooLong, Memory}
use Rattle.slice_io.specs.Gathered.{Gathers, HasGathered, after_part, has_end}
use Rattle.slice_io.specs.Lines.{Reading, StandsIn, LineIs, LineRefused, fresh, first_line, after_line, line_bytes, rest_from, start_of}
use Rattle.slice_io.proofs.Gathering.{first_past, after_past, bytes_past, no_end_in, first_in, after_in, bytes_in, bytes_and_rest, line_in_bytes, some_bytes, first_alone, after_alone, bytes_alone}

-- ---- what is left after some lines is an end of the file
after_line-drop : (xs : List ℕ) → after_line xs ≡ drop (line_bytes xs) xs
after_line-drop [] = refl
after_line-drop (c ∷ cs) = elim (c == 10) as (λ b. (if b then cs else after_line cs) ≡ drop (if b then 1 else suc (line_bytes cs)) (c ∷ cs)) [
  | true ↦ refl
  | false ↦ after_line-drop cs
]

rest_short : (i : ℕ) (file : List ℕ) → length (rest_from i file) ≤ length file
rest_short zero file = omega arith
rest_short (suc i) file = omega (arith, rest_short i file, bytes_and_rest (rest_from i file))

next_start : (i : ℕ) (file : List ℕ) → start_of (suc i) file ≡ start_of i file + line_bytes (rest_from i file)
next_start i file = omega (arith, rest_short i file, bytes_and_rest (rest_from i file))

pub rest_is_drop : (i : ℕ) (file : List ℕ) → rest_from i file ≡ drop (start_of i file) file
rest_is_drop zero file = let e : length file - length file ≡ 0 = omega arith in ap (λ (n : ℕ). drop n file) (sym e)
rest_is_drop (suc i) file =
    after_line-drop (rest_from i file) ∙ ap (drop (line_bytes (rest_from i file))) (rest_is_drop i file)
    ∙ drop-drop (line_bytes (rest_from i file)) (start_of i file) file ∙ ap (λ (n : ℕ). drop n file) (sym (next_start i file))

-- ---- the parts of a line
pub begins : (r : Reading) (file : List ℕ) → StandsIn r file → r.line ≡ [] → Gathers r file
begins r file s e = record {
  later = s.later;
  whole = s.whole ∙ ap (λ (xs : List ℕ). xs ++ (r.ahead ++ s.later)) (sym e);
  no_end = ap has_end e;
  place = omega (arith, s.place, ap length e);
}

-- where nothing is ahead, what is left of the line and the file begins at the reader's place
left_at : (r : Reading) (file : List ℕ) (h : Gathers r file) → r.ahead ≡ [] → h.later ≡ drop r.place file
left_at r file h e =
    let whole : rest_from r.given file ≡ r.line ++ h.later = h.whole ∙ ap (λ (xs : List ℕ). r.line ++ (xs ++ h.later)) e in
    sym (drop-append_seam r.line h.later) ∙ ap (drop (length r.line)) (sym whole ∙ rest_is_drop r.given file)
    ∙ drop-drop (length r.line) (start_of r.given file) file ∙ ap (λ (n : ℕ). drop n file) (sym h.place)

pub filled : (r s : Reading) (file : List ℕ) → Gathers r file → r.ahead ≡ [] → s.given ≡ r.given → s.line ≡ r.line → s.place ≡ r.place
    → s.ahead ≡ take (length s.ahead) (drop r.place file) → Gathers s file
filled r s file h e g l p a = record {
  later = drop (length s.ahead) (drop r.place file);
  whole = ap (λ (i : ℕ). rest_from i file) g ∙ h.whole ∙ ap (λ (xs : List ℕ). r.line ++ (xs ++ h.later)) e
      ∙ ap (λ (xs : List ℕ). r.line ++ xs) (left_at r file h e ∙ sym (take-append-drop (length s.ahead) (drop r.place file)) ∙ ap (λ (xs : List ℕ). xs ++ drop (length s.ahead) (drop r.place file)) (sym a))
      ∙ ap (λ (xs : List ℕ). xs ++ (s.ahead ++ drop (length s.ahead) (drop r.place file))) (sym l);
  no_end = ap has_end l ∙ h.no_end;
  place = omega (arith, p, h.place, ap length l, ap (λ (i : ℕ). start_of i file) g);
}

pub ended : (r : Reading) (file : List ℕ) → Gathers r file → r.ahead ≡ [] → length file ≤ r.place → rest_from r.given file ≡ r.line
ended r file h e le =
    h.whole ∙ ap (λ (xs : List ℕ). r.line ++ (xs ++ h.later)) e ∙ ap (λ (xs : List ℕ). r.line ++ xs) (left_at r file h e ∙ drop_of_length-le file le) ∙ append-nil r.line

-- the file ends with the line
pub last_line : (r : Reading) (file : List ℕ) → Gathers r file → rest_from r.given file ≡ r.line → r.ahead ≡ [] → 0 < length r.line → length r.line ≤ r.line_limit → r.place ≤ r.limit
    → LineIs r.line_limit r.limit file r.given (Some r.line) × HasGathered r file
last_line r file h e none some short within =
    let first : first_line (rest_from r.given file) ≡ r.line = ap first_line e ∙ first_alone r.line h.no_end in
    let bytes : line_bytes (rest_from r.given file) ≡ length r.line = ap line_bytes e ∙ bytes_alone r.line h.no_end in (
      (omega (arith, ap length e), sym first, short, omega (arith, bytes, h.place)),
      record {
        place = omega (arith, next_start r.given file, bytes, h.place);
        later = [];
        whole = ap after_line e ∙ after_alone r.line h.no_end ∙ ap (λ (xs : List ℕ). xs ++ []) (sym none);
      },
    )

pub no_line : (r : Reading) (file : List ℕ) → Gathers r file → rest_from r.given file ≡ r.line → r.ahead ≡ [] → length r.line ≤ 0 → (rest_from r.given file ≡ []) × StandsIn r file
no_line r file h e none le =
    let empty : r.line ≡ [] = nothing r.line le in
    (e ∙ empty, record { place = omega (arith, h.place); later = []; whole = e ∙ empty ∙ ap (λ (xs : List ℕ). xs ++ []) (sym none) })
  where
    nothing : (xs : List ℕ) → length xs ≤ 0 → xs ≡ []
    nothing [] le = refl
    nothing (x ∷ xs) le = absurd (omega (arith, le))

-- the line ended in the part
pub part_ended : (r s : Reading) (file : List ℕ) → Gathers r file → s ≡ after_part r → has_end r.ahead ≡ true → length r.line + length (first_line r.ahead) ≤ r.line_limit → r.place + line_bytes r.ahead ≤ r.limit
    → LineIs r.line_limit r.limit file r.given (Some s.line) × HasGathered s file
part_ended r s file h e t short within =
    let first : first_line (rest_from r.given file) ≡ r.line ++ first_line r.ahead = ap first_line h.whole ∙ first_past r.line (r.ahead ++ h.later) h.no_end ∙ ap (λ (xs : List ℕ). r.line ++ xs) (first_in r.ahead h.later t) in
    let bytes : line_bytes (rest_from r.given file) ≡ length r.line + line_bytes r.ahead = ap line_bytes h.whole ∙ bytes_past r.line (r.ahead ++ h.later) h.no_end ∙ ap (λ (n : ℕ). length r.line + n) (bytes_in r.ahead h.later t) in
    let rest : after_line (rest_from r.given file) ≡ after_line r.ahead ++ h.later = ap after_line h.whole ∙ after_past r.line (r.ahead ++ h.later) h.no_end ∙ after_in r.ahead h.later t in
    let some : 1 ≤ line_bytes r.ahead = has_bytes r.ahead t in
    let more : line_bytes (rest_from r.given file) + length (after_line (rest_from r.given file)) ≡ length (rest_from r.given file) = bytes_and_rest (rest_from r.given file) in
    subst (λ (x : Reading). LineIs r.line_limit r.limit file r.given (Some x.line) × HasGathered x file) (sym e) (
      (omega (arith, more, bytes, some), sym first, omega (arith, length-append r.line (first_line r.ahead), short), omega (arith, bytes, h.place, within)),
      record { place = omega (arith, next_start r.given file, bytes, h.place); later = h.later; whole = rest },
    )
  where
    has_bytes : (xs : List ℕ) → has_end xs ≡ true → 1 ≤ line_bytes xs
    has_bytes [] e = absurd (true≢false (sym e))
    has_bytes (c ∷ cs) e = some_bytes c cs

-- the line goes on past the part
pub part_on : (r s : Reading) (file : List ℕ) → Gathers r file → s ≡ after_part r → has_end r.ahead ≡ false → Gathers s file
part_on r s file h e f =
    subst (λ (x : Reading). Gathers x file) (sym e) (record {
      later = h.later;
      whole = h.whole ∙ sym (append_assoc r.line r.ahead h.later)
          ∙ ap (λ (xs : List ℕ). (r.line ++ xs) ++ h.later) (sym (first_alone r.ahead f))
          ∙ ap (λ (xs : List ℕ). (r.line ++ first_line r.ahead) ++ (xs ++ h.later)) (sym (after_alone r.ahead f));
      no_end = ap (λ (xs : List ℕ). has_end (r.line ++ xs)) (first_alone r.ahead f) ∙ no_end_in r.line r.ahead h.no_end f;
      place = omega (arith, h.place, bytes_alone r.ahead f, length-append r.line (first_line r.ahead), ap length (first_alone r.ahead f));
    })

-- a fault of the part is the line's
pub part_refused : (r : Reading) (file : List ℕ) (e : LineFault) → Gathers r file → length r.line ≤ r.line_limit
    → ((n : ℕ) → e ≡ LineTooLong n → (n ≡ counted r.given) × (r.line_limit < length r.line + length (first_line r.ahead)) × (r.place + (r.line_limit - length r.line) ≤ r.limit))
    → (e ≡ TooLong → (r.limit < r.place + line_bytes r.ahead) × (r.line_limit < length r.line + length (first_line r.ahead) → r.limit < r.place + (r.line_limit - length r.line)))
    → LineRefused r.line_limit r.limit file r.given e
part_refused r file ReadFault h k line long = tt
part_refused r file Memory h k line long = tt
part_refused r file (LineTooLong n) h k line long =
    let f = line n refl in
    let first : length (first_line (rest_from r.given file)) ≡ length r.line + length (first_line (r.ahead ++ h.later)) = ap length (ap first_line h.whole ∙ first_past r.line (r.ahead ++ h.later) h.no_end) ∙ length-append r.line (first_line (r.ahead ++ h.later)) in
    (f.0, omega (arith, f.1, first, first_grows r.ahead h.later), omega (arith, f.2, h.place, k))
  where
    first_grows : (xs ys : List ℕ) → length (first_line xs) ≤ length (first_line (xs ++ ys))
    first_grows [] ys = omega arith
    first_grows (c ∷ cs) ys = elim (c == 10) as (λ b. length (if b then [] else c ∷ first_line cs) ≤ length (if b then [] else c ∷ first_line (cs ++ ys))) [
      | true ↦ omega arith
      | false ↦ omega (arith, first_grows cs ys)
    ]
part_refused r file TooLong h k line long =
    let f = long refl in
    let first : length (first_line (rest_from r.given file)) ≡ length r.line + length (first_line (r.ahead ++ h.later)) = ap length (ap first_line h.whole ∙ first_past r.line (r.ahead ++ h.later) h.no_end) ∙ length-append r.line (first_line (r.ahead ++ h.later)) in
    let bytes : line_bytes (rest_from r.given file) ≡ length r.line + line_bytes (r.ahead ++ h.later) = ap line_bytes h.whole ∙ bytes_past r.line (r.ahead ++ h.later) h.no_end in (
      omega (arith, f.0, bytes, h.place, bytes_grow r.ahead h.later),
      λ lt. first_of_both (has_end r.ahead) refl f.0 f.1 first lt,
    )
  where
    bytes_grow : (xs ys : List ℕ) → line_bytes xs ≤ line_bytes (xs ++ ys)
    bytes_grow [] ys = omega arith
    bytes_grow (c ∷ cs) ys = elim (c == 10) as (λ b. (if b then 1 else suc (line_bytes cs)) ≤ (if b then 1 else suc (line_bytes (cs ++ ys)))) [
      | true ↦ omega arith
      | false ↦ omega (arith, bytes_grow cs ys)
    ]

    first_of_both : (b : Bool) → has_end r.ahead ≡ b → r.limit < r.place + line_bytes r.ahead → (r.line_limit < length r.line + length (first_line r.ahead) → r.limit < r.place + (r.line_limit - length r.line))
        → length (first_line (rest_from r.given file)) ≡ length r.line + length (first_line (r.ahead ++ h.later)) → r.line_limit < length (first_line (rest_from r.given file)) → r.limit < start_of r.given file + r.line_limit
    first_of_both true t past late first lt =
        let same : length (first_line (r.ahead ++ h.later)) ≡ length (first_line r.ahead) = ap length (first_in r.ahead h.later t) in
        let l : r.limit < r.place + (r.line_limit - length r.line) = late (omega (arith, first, same, lt)) in
        omega (arith, l, h.place, k)
    first_of_both false t past late first lt =
        let whole : length (first_line r.ahead) ≡ length r.ahead = ap length (first_alone r.ahead t) in
        let bytes : line_bytes r.ahead ≡ length r.ahead = bytes_alone r.ahead t in
        elim (cases_lt r.line_limit (length r.line + length (first_line r.ahead))) [
          | inl over ↦ let l : r.limit < r.place + (r.line_limit - length r.line) = late over in omega (arith, l, h.place, k)
          | inr not_over ↦ omega (arith, past, whole, bytes, h.place, not_over)
        ]

-- the same of a reader with these limits after as many lines
pub line_moved : (l m i l' m' i' : ℕ) (file : List ℕ) (o : Option (List ℕ)) → l ≡ l' → m ≡ m' → i ≡ i' → LineIs l m file i o → LineIs l' m' file i' o
line_moved l m i l' m' i' file o e f k h = subst (λ (x : ℕ). LineIs x m' file i' o) e (subst (λ (x : ℕ). LineIs l x file i' o) f (subst (λ (x : ℕ). LineIs l m file x o) k h))

pub refused_moved : (l m i l' m' i' : ℕ) (file : List ℕ) (o : LineFault) → l ≡ l' → m ≡ m' → i ≡ i' → LineRefused l m file i o → LineRefused l' m' file i' o
refused_moved l m i l' m' i' file o e f k h = subst (λ (x : ℕ). LineRefused x m' file i' o) e (subst (λ (x : ℕ). LineRefused l x file i' o) f (subst (λ (x : ℕ). LineRefused l m file x o) k h))

-- a part goes on by a byte at least
pub part_moves : (r : Reading) → r.ahead ≢ [] → (r.place < (after_part r).place) × (length (after_part r).line + r.place ≤ (after_part r).place + length r.line)
part_moves r ne = (omega (arith, some r.ahead ne), omega (arith, line_in_bytes r.ahead, length-append r.line (first_line r.ahead)))
  where
    some : (xs : List ℕ) → xs ≢ [] → 1 ≤ line_bytes xs
    some [] ne = absurd (ne refl)
    some (c ∷ cs) ne = some_bytes c cs

-- a reader that looked at nothing stands in each file
pub fresh_stands : (name : List ℕ) (line_limit limit : ℕ) (file : List ℕ) → StandsIn (fresh name line_limit limit) file
fresh_stands name line_limit limit file = record { place = omega arith; later = file; whole = refl }
