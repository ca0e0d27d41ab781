-- The lines of a certificate are read back.
use Rattle.std.proofs.Common.{◌≡◌, ◌∙◌, ◌≤◌, ◌<◌, ◌^◌, ℕ, zero, suc, ℤ, pos, negsuc, max, List, [], ◌∷◌, ◌++◌, map, Bool, true, false, Some, refl, sym, ap, ap₂, arith, codes, IsUtf8, option_map, append-nil}
use Rattle.std.specs.Prelude.{option_and_then}
use Rattle.std.specs.Fmt.{decimal, signed_decimal}
use Rattle.std.specs.Str.{IsAscii}
use Rattle.std.specs.List.{All, AllByRecursion}
use Rattle.std.proofs.lemmas.Fmt.{IsAscii-decimal, IsAscii-decimal_wide}
use Rattle.std.proofs.lemmas.Str.{IsUtf8-append, IsUtf8-from_ascii}
use Rattle.json.specs.Json as json
use Rattle.json.specs.Lex.{tokens}
use Rattle.json.specs.Print.{quoted}
use Rattle.json.specs.Tree as tree
use Rattle.json.proofs.Printed.Decimals.{IsNumber-decimal}
use Rattle.json.proofs.Printed.Tokens.{tokens-print}
use Rattle.json.proofs.Printed.Trees.{value-json_tokens, ArePrintable-json_tokens}
use Rattle.json.proofs.Printed.Utf8.{IsUtf8-are_ascii, IsUtf8-quoted}
use Rattle.serde_json.specs.Data.{Data, null, boolean, number, string, array, object, Items, no_items, item, Members, no_members, member, depth, items_depth, members_depth, put}
use Rattle.serde_json.specs.Read.{read, of_json, of_items, of_members, max_depth}
use Rattle.serde_json.specs.View.{items_of}
use Rattle.serde_json.specs.Written.{outline, items_outline, members_outline, compact_text, items_text, members_text, comma_if}
use Rattle.serde_json.proofs.Numbers.{number_of-decimal}
use Rattle.serde_json.proofs.Texts.{print-outline}
use Rattle.slice_num.specs.Rational.{Fits}
use Rattle.slice_json.proofs.LineEnds.{no_end_in_text}
use Rattle.slice_json.specs.Texts.{whole, text, signed, list_of}
use Rattle.slice_cert.specs.declared.line.Line.{Line}
use Rattle.slice_cert.specs.declared.line.Line.TheVariants.{Header, Refutation, Cover, Closing}
use Rattle.slice_cert.specs.CertLines.{line_json, line_text, IsWrittenLine, MayStand}
use Rattle.slice_cert.proofs.Plain.{name_utf8}
use Rattle.slice_cert.proofs.Written.{few_levels, written}

-- ---- a value whose text is read as this value

record Back (d : Data) : Type 0 where
  numbers : tree.HasNumbers (outline d)
  same : of_json (outline d) ≡ Some d
  valid : IsUtf8 (compact_text d)

record BackItems (ds : Items) : Type 0 where
  numbers : tree.ItemsHaveNumbers (items_outline ds)
  same : of_items (items_outline ds) ≡ Some ds
  valid : (later : Bool) → IsUtf8 (items_text later ds)

comma : (later : Bool) → IsUtf8 (comma_if later)
comma true = IsUtf8-are_ascii (44 ∷ []) refl
comma false = IsUtf8-are_ascii [] refl

back_whole : (n : ℕ) → n < 2 ^ 64 → Back (whole n)
back_whole n h = record { numbers = IsNumber-decimal n h; same = ap (option_map number) (number_of-decimal n h); valid = IsUtf8-from_ascii (decimal n) (IsAscii-decimal n h) }

back_text : (s : List ℕ) → IsUtf8 s → Back (text s)
back_text s u = record { numbers = tt; same = refl; valid = IsUtf8-quoted s u }

back_items : {A : Type 0} (f : A → Data) (P : A → Type 0) → ((x : A) → P x → Back (f x)) → (xs : List A) → AllByRecursion P xs → BackItems (items_of (map f xs))
back_items f P each [] h = record { numbers = tt; same = refl; valid = λ later. IsUtf8-are_ascii (93 ∷ []) refl }
back_items f P each (x ∷ xs) h =
    let b = each x h.0 in
    let bs = back_items f P each xs h.1 in
    record {
      numbers = (b.numbers, bs.numbers);
      same = ap (option_and_then (λ d. option_map (item d) (of_items (items_outline (items_of (map f xs)))))) b.same ∙ ap (option_map (item (f x))) bs.same;
      valid = λ later. IsUtf8-append (comma_if later) (compact_text (f x) ++ items_text true (items_of (map f xs))) (comma later) (IsUtf8-append (compact_text (f x)) (items_text true (items_of (map f xs))) b.valid (bs.valid true));
    }

back_array : (ds : Items) → BackItems ds → Back (array ds)
back_array ds b = record { numbers = b.numbers; same = ap (option_map array) b.same; valid = IsUtf8-append (91 ∷ []) (items_text false ds) (IsUtf8-are_ascii (91 ∷ []) refl) (b.valid false) }

-- ---- objects

valid_member : (later : Bool) (k : List ℕ) (d : Data) (ms : Members) → IsUtf8 k → Back d → IsUtf8 (members_text true ms) → IsUtf8 (members_text later (member k d ms))
valid_member later k d ms u b rest =
    let tail : IsUtf8 (compact_text d ++ members_text true ms) = IsUtf8-append (compact_text d) (members_text true ms) b.valid rest in
    let named : IsUtf8 (58 ∷ (compact_text d ++ members_text true ms)) = IsUtf8-append (58 ∷ []) (compact_text d ++ members_text true ms) (IsUtf8-are_ascii (58 ∷ []) refl) tail in
    IsUtf8-append (comma_if later) (quoted k ++ 58 ∷ (compact_text d ++ members_text true ms)) (comma later)
    (IsUtf8-append (quoted k) (58 ∷ (compact_text d ++ members_text true ms)) (IsUtf8-quoted k u) named)

valid_end : IsUtf8 (members_text true no_members)
valid_end = IsUtf8-are_ascii (125 ∷ []) refl

-- one more member is read
one_read : (k : List ℕ) (d : Data) (ms found : Members) → Back d → of_members (members_outline (member k d ms)) found ≡ of_members (members_outline ms) (put k d found)
one_read k d ms found b = ap (option_and_then (λ e. of_members (members_outline ms) (put k e found))) b.same

-- two members, or three, in the order of their keys
back_two : (k l : List ℕ) (d e : Data) → IsUtf8 k → IsUtf8 l → put l e (member k d no_members) ≡ member k d (member l e no_members) → Back d → Back e → Back (object (member k d (member l e no_members)))
back_two k l d e u v order b c = record {
  numbers = (b.numbers, (c.numbers, tt));
  same = ap (option_map object) (one_read k d (member l e no_members) no_members b ∙ one_read l e no_members (member k d no_members) c ∙ ap Some order);
  valid = IsUtf8-append (123 ∷ []) (members_text false (member k d (member l e no_members))) (IsUtf8-are_ascii (123 ∷ []) refl) (valid_member false k d (member l e no_members) u b (valid_member true l e no_members v c valid_end));
}

back_three : (k l m : List ℕ) (d e f : Data) → IsUtf8 k → IsUtf8 l → IsUtf8 m → put l e (member k d no_members) ≡ member k d (member l e no_members)
    → put m f (member k d (member l e no_members)) ≡ member k d (member l e (member m f no_members)) → Back d → Back e → Back f → Back (object (member k d (member l e (member m f no_members))))
back_three k l m d e f u v w second third a b c =
    let rest = member m f no_members in
    record {
      numbers = (a.numbers, (b.numbers, (c.numbers, tt)));
      same = ap (option_map object)
          (one_read k d (member l e rest) no_members a
          ∙ (one_read l e rest (member k d no_members) b
          ∙ (ap (of_members (members_outline rest)) second
          ∙ (one_read m f no_members (member k d (member l e no_members)) c ∙ ap Some third))));
      valid = IsUtf8-append (123 ∷ []) (members_text false (member k d (member l e rest))) (IsUtf8-are_ascii (123 ∷ []) refl)
          (valid_member false k d (member l e rest) u a (valid_member true l e rest v b (valid_member true m f no_members w c valid_end)));
    }

-- ---- multipliers

signed_ascii : (z : ℤ) → Fits z → IsAscii (signed_decimal z)
signed_ascii (pos n) h i = IsAscii-decimal_wide n (omega (arith, h)) i
signed_ascii (negsuc n) h zero = omega arith
signed_ascii (negsuc n) h (suc i) = IsAscii-decimal_wide (suc n) (omega (arith, h)) i

back_signed : (z : ℤ) → Fits z → Back (signed z)
back_signed z h = back_text (signed_decimal z) (IsUtf8-from_ascii (signed_decimal z) (signed_ascii z h))

each_fits : (zs : List ℤ) → All Fits zs → AllByRecursion Fits zs
each_fits [] h = tt
each_fits (z ∷ zs) h = (h 0 z (omega arith), each_fits zs (λ k d l. h (suc k) d (omega (arith, l))))

back_list : (zs : List ℤ) → All Fits zs → Back (list_of signed zs)
back_list zs h = back_array (items_of (map signed zs)) (back_items signed Fits back_signed zs (each_fits zs h))

-- ---- the lines

back_line : (l : Line) → MayStand l → Back (line_json l)
back_line (Header version protocol agents) m =
    back_three (codes "agents") (codes "certificate") (codes "protocol") (whole agents) (whole version) (text protocol)
    (IsUtf8-are_ascii (codes "agents") refl) (IsUtf8-are_ascii (codes "certificate") refl) (IsUtf8-are_ascii (codes "protocol") refl) refl refl
    (back_whole agents (let a = m.2 in omega (arith, a))) (back_whole version (let v = m.1 in omega (arith, v))) (back_text protocol (name_utf8 protocol m.0))
back_line (Refutation goal multipliers) m =
    back_two (codes "goal") (codes "multipliers") (whole goal) (list_of signed multipliers) (IsUtf8-are_ascii (codes "goal") refl) (IsUtf8-are_ascii (codes "multipliers") refl) refl
    (back_whole goal m.0) (back_list multipliers m.1)
back_line (Cover goal passed multipliers) m =
    back_three (codes "cover") (codes "goal") (codes "multipliers") (whole passed) (whole goal) (list_of signed multipliers)
    (IsUtf8-are_ascii (codes "cover") refl) (IsUtf8-are_ascii (codes "goal") refl) (IsUtf8-are_ascii (codes "multipliers") refl) refl refl
    (back_whole passed (let p = m.1 in omega (arith, p))) (back_whole goal m.0) (back_list multipliers m.2)
back_line (Closing goals) m =
    back_two (codes "closing") (codes "goals") (text (codes "envy-free")) (whole goals) (IsUtf8-are_ascii (codes "closing") refl) (IsUtf8-are_ascii (codes "goals") refl) refl
    (back_text (codes "envy-free") (IsUtf8-are_ascii (codes "envy-free") refl)) (back_whole goals m)

mutual
  depth_same : (d : Data) → tree.depth (outline d) ≡ depth d
  depth_same null = refl
  depth_same (boolean b) = refl
  depth_same (number n) = refl
  depth_same (string s) = refl
  depth_same (array ds) = ap suc (items_depth_same ds)
  depth_same (object ms) = ap suc (members_depth_same ms)

  items_depth_same : (ds : Items) → tree.items_depth (items_outline ds) ≡ items_depth ds
  items_depth_same no_items = refl
  items_depth_same (item d ds) = ap₂ max (depth_same d) (items_depth_same ds)

  members_depth_same : (ms : Members) → tree.members_depth (members_outline ms) ≡ members_depth ms
  members_depth_same no_members = refl
  members_depth_same (member k d ms) = ap₂ max (depth_same d) (members_depth_same ms)

value_back : (d : Data) → Back d → depth d ≤ max_depth → read (compact_text d) ≡ Some d
value_back d b shallow =
    let j = outline d in
    let again : tokens (compact_text d) ≡ tree.json_tokens j = ap tokens (sym (print-outline d)) ∙ tokens-print (tree.json_tokens j) (ArePrintable-json_tokens j b.numbers) in
    ap (λ ts. option_and_then of_json (option_and_then (λ p. json.if_last p.0 p.1) (json.value max_depth ts))) (again ∙ sym (append-nil (tree.json_tokens j)))
    ∙ ap (λ o. option_and_then of_json (option_and_then (λ p. json.if_last p.0 p.1) o)) (value-json_tokens j max_depth [] (omega (arith, depth_same d, shallow))) ∙ b.same

-- the text of a line that may stand is read as the line
pub line_back : (l : Line) → MayStand l → IsWrittenLine (line_text l) l
line_back l m =
    let b = back_line l m in
    written l (line_text l) m no_end_in_text b.valid (value_back (line_json l) b (few_levels l)) refl
