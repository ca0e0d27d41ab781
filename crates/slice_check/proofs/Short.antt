-- How long the text of a line is.
use Rattle.std.proofs.Common.{ℕ, ◌+◌, ◌*◌, ◌≤◌, ℤ, List, [], ◌∷◌, ◌++◌, map, length, arith, refl, sym, Bool, true, false, true≢false, codes, ◌&&◌}
use Rattle.std.specs.Prelude.{IsTrue, nat_le, take, if◌then◌else◌}
use Rattle.std.specs.Fmt.{decimal, signed_decimal}
use Rattle.std.proofs.lemmas.Bool.{leb-true}
use Rattle.std.proofs.lemmas.List.{length-append, length-take}
use Rattle.json.specs.Print.{escape_byte, escape, quoted}
use Rattle.serde_json.specs.View.{items_of}
use Rattle.serde_json.specs.Written.{items_text}
use Rattle.slice_num.specs.Name.{is_name, is_word, is_letter, all_word_bytes, is_among, reserved_words}
use Rattle.slice_json.specs.Texts.{signed}
use Rattle.slice_cert.specs.declared.line.Line.TheVariants.{Header, Refutation, Cover, Closing}
use Rattle.slice_cert.specs.CertLines.{line_text}
use Rattle.slice_cert.specs.ShortForms.{needed, short_line}
use Rattle.slice_cert.proofs.Used.{short_is}
use Rattle.slice_check.proofs.TextLength.{decimal_short, signed_short, escape_short, quoted_short}

-- ---- multipliers
items_short : (later : Bool) (ms : List ℤ) → length (items_text later (items_of (map signed ms))) ≤ 400 * length ms + 1
items_short true [] = omega arith
items_short false [] = omega arith
items_short true (m ∷ ms) =
    let h = items_short true ms in
    let q = quoted_short (signed_decimal m) in
    let s = signed_short m in
    let l = length-append (quoted (signed_decimal m)) (items_text true (items_of (map signed ms))) in
    omega (arith, h, q, s, l)
items_short false (m ∷ ms) =
    let h = items_short true ms in
    let q = quoted_short (signed_decimal m) in
    let s = signed_short m in
    let l = length-append (quoted (signed_decimal m)) (items_text true (items_of (map signed ms))) in
    omega (arith, h, q, s, l)

-- ---- names: at most 64 bytes
both : (a b : Bool) → IsTrue (a && b) → IsTrue a × IsTrue b
both true b h = (refl, h)
both false b h = absurd (true≢false (sym h))

word_short : (cs : List ℕ) → IsTrue (is_word cs) → length cs ≤ 64
word_short [] h = omega arith
word_short (c ∷ cs) h =
    let few = leb-true (length cs) 63 (both (all_word_bytes cs) (nat_le (length cs) 63) (both (is_letter c) (all_word_bytes cs && nat_le (length cs) 63) h).1).1 in
    omega (arith, few)

name_short : (name : List ℕ) → IsTrue (is_name name) → length name ≤ 64
name_short name h = word_short name (both (is_word name) (if is_among name reserved_words then false else true) h).0

-- ---- lines
pub closing_short : (goals : ℕ) → length (line_text (Closing goals)) ≤ 1048576
unfolding escape_byte
closing_short goals =
    let n = decimal_short goals in
    let a = length-append (decimal goals) (125 ∷ []) in
    let b = length-append (decimal goals ++ 125 ∷ []) (10 ∷ []) in
    omega (arith, n, a, b)

refutation_short : (goal : ℕ) (ms : List ℤ) → length (line_text (Refutation goal ms)) ≤ 400 * length ms + 1000
unfolding escape_byte
refutation_short goal ms =
    let list : List ℕ = items_text false (items_of (map signed ms)) in
    let rest : List ℕ = codes ",\"multipliers\":[" ++ (list ++ 125 ∷ []) in
    let n = decimal_short goal in
    let i = items_short false ms in
    let a = length-append list (125 ∷ []) in
    let b = length-append (decimal goal) rest in
    let c = length-append (decimal goal ++ rest) (10 ∷ []) in
    omega (arith, n, i, a, b, c)

cover_short : (goal passed : ℕ) (ms : List ℤ) → length (line_text (Cover goal passed ms)) ≤ 400 * length ms + 1000
unfolding escape_byte
cover_short goal passed ms =
    let list : List ℕ = items_text false (items_of (map signed ms)) in
    let last : List ℕ = codes ",\"multipliers\":[" ++ (list ++ 125 ∷ []) in
    let rest : List ℕ = codes ",\"goal\":" ++ (decimal goal ++ last) in
    let n = decimal_short goal in
    let p = decimal_short passed in
    let i = items_short false ms in
    let a = length-append list (125 ∷ []) in
    let b = length-append (decimal goal) last in
    let c = length-append (decimal passed) rest in
    let d = length-append (decimal passed ++ rest) (10 ∷ []) in
    omega (arith, n, p, i, a, b, c, d)

pub short_line_short : (agents goal : ℕ) (ms : List ℤ) → length (line_text (short_line agents goal ms)) ≤ 400 * length ms + 1000
short_line_short agents goal ms =
    short_is (λ l. length (line_text l) ≤ 400 * length ms + 1000) agents goal ms (λ e. refutation_short goal ms)
    (λ lt.
    let k : ℕ = 1 + agents + needed agents ms in
    let c = cover_short goal (needed agents ms) (take k ms) in
    let l = length-take k ms in
    omega (arith, c, l))

pub header_short : (name : List ℕ) (agents : ℕ) → IsTrue (is_name name) → length (line_text (Header 2 name agents)) ≤ 1048576
unfolding escape_byte
header_short name agents h =
    let last : List ℕ = codes ",\"protocol\":\"" ++ ((escape name ++ 34 ∷ []) ++ 125 ∷ []) in
    let rest : List ℕ = codes ",\"certificate\":" ++ (decimal 2 ++ last) in
    let n = decimal_short agents in
    let v = decimal_short 2 in
    let s = name_short name h in
    let e = escape_short name in
    let a = length-append (escape name) (34 ∷ []) in
    let b = length-append (escape name ++ 34 ∷ []) (125 ∷ []) in
    let c = length-append (decimal 2) last in
    let d = length-append (decimal agents) rest in
    let f = length-append (decimal agents ++ rest) (10 ∷ []) in
    omega (arith, n, v, s, e, a, b, c, d, f)
