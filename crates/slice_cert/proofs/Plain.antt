-- A line has no float, and a name is ASCII.
use Rattle.std.proofs.Common.{◌≡◌, ◌<◌, ℕ, zero, suc, List, [], ◌∷◌, length, refl, sym, Bool, true, false, true≢false, if◌then◌else◌, ◌&&◌, arith}
use Rattle.std.specs.Prelude.{IsTrue, nat_le, slice_index}
use Rattle.std.specs.Str.{IsUtf8}
use Rattle.std.proofs.lemmas.Str.{IsUtf8-from_ascii}
use Rattle.std.proofs.lemmas.Bool.Decides.{nat_tests}
use Rattle.slice_num.specs.Name.{is_name, is_word, is_letter, is_word_byte, all_word_bytes, is_among, reserved_words}
use Rattle.serde_json.specs.Written.{has_float}
use Rattle.slice_json.specs.Texts.{signed, plain-list_of}
use Rattle.slice_cert.specs.declared.line.Line.{Line}
use Rattle.slice_cert.specs.declared.line.Line.TheVariants.{Header, Refutation, Cover, Closing}
use Rattle.slice_cert.specs.CertLines.{line_json}

pub plain_line : (l : Line) → has_float (line_json l) ≡ false
plain_line (Header version protocol agents) = refl
plain_line (Refutation goal multipliers) = rw (plain-list_of signed (λ z. refl) multipliers)
plain_line (Cover goal passed multipliers) = rw (plain-list_of signed (λ z. refl) multipliers)
plain_line (Closing goals) = refl

byte_small : (c : ℕ) → IsTrue (is_word_byte c) → c < 128
byte_small c h = grind (arith, nat_tests)

letter_small : (c : ℕ) → IsTrue (is_letter c) → c < 128
letter_small c h = grind (arith, nat_tests)

both : (a b : Bool) → IsTrue (a && b) → IsTrue a × IsTrue b
both true b h = (refl, h)
both false b h = absurd (true≢false (sym h))

all_small : (cs : List ℕ) → IsTrue (all_word_bytes cs) → (i : ℕ) → slice_index cs i < 128
all_small [] h i = omega arith
all_small (c ∷ cs) h zero = byte_small c (both (is_word_byte c) (all_word_bytes cs) h).0
all_small (c ∷ cs) h (suc i) = all_small cs (both (is_word_byte c) (all_word_bytes cs) h).1 i

word_small : (cs : List ℕ) → IsTrue (is_word cs) → (i : ℕ) → slice_index cs i < 128
word_small [] h i = omega arith
word_small (c ∷ cs) h zero = letter_small c (both (is_letter c) (all_word_bytes cs && nat_le (length cs) 63) h).0
word_small (c ∷ cs) h (suc i) = all_small cs (both (all_word_bytes cs) (nat_le (length cs) 63) (both (is_letter c) (all_word_bytes cs && nat_le (length cs) 63) h).1).0 i

pub name_utf8 : (name : List ℕ) → IsTrue (is_name name) → IsUtf8 name
name_utf8 name h = IsUtf8-from_ascii name (word_small name (both (is_word name) (if is_among name reserved_words then false else true) h).0)
