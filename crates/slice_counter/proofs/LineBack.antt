-- The line of a counterexample is read as the value that it is the text of.
use Rattle.std.proofs.Common.{◌≡◌, ◌∙◌, ℕ, suc, ◌≤◌, ◌<◌, ◌^◌, ◌==◌, pos, max, List, [], ◌∷◌, ◌++◌, map, Bool, true, false, Some, refl, sym, ap, ap₂, subst, arith, codes, IsUtf8, option_map, append-nil}
use Rattle.std.specs.Prelude.{if◌then◌else◌, option_and_then, ⊤}
use Rattle.std.specs.Fmt.{decimal, signed_decimal}
use Rattle.std.specs.List.{All, AllByRecursion}
use Rattle.std.proofs.lemmas.Fmt.{IsAscii-decimal}
use Rattle.std.proofs.lemmas.Str.{IsUtf8-append, IsUtf8-from_ascii}
use Rattle.json.specs.Json as json
use Rattle.json.specs.Lex.{tokens}
use Rattle.json.specs.Print.{print, quoted}
use Rattle.json.specs.Tree as tree
use Rattle.json.proofs.Printed.Decimals.{IsNumber-decimal}
use Rattle.json.proofs.Printed.Tokens.{tokens-print}
use Rattle.json.proofs.Printed.Trees.{value-json_tokens, ArePrintable-json_tokens}
use Rattle.json.proofs.Printed.Utf8.{IsUtf8-are_ascii, IsUtf8-quoted}
use Rattle.serde_json.specs.Data.{Data, null, boolean, number, string, array, object, Items, no_items, item, Members, no_members, member, depth, items_depth, members_depth, put}
use Rattle.serde_json.specs.Read.{read, of_json, of_items, of_members, max_depth}
use Rattle.serde_json.specs.View.{items_of}
use Rattle.serde_json.specs.Written.{outline, items_outline, members_outline, compact_text, items_text, members_text, comma_if}
use Rattle.serde_json.proofs.Numbers.{number_of-decimal}
use Rattle.serde_json.proofs.Texts.{print-outline}
use Rattle.slice_num.specs.FractionText.{fraction_text}
use Rattle.slice_num.specs.Rational.{Rational, whole as whole_number}
use Rattle.slice_num.specs.Valuation.{Valuation, IsSmall}
use Rattle.slice_num.specs.declared.cut_answer.CutAnswer.{CutAnswer}
use Rattle.slice_num.proofs.Whole.{whole_num, whole_den}
use Rattle.slice_json.specs.Texts.{whole, text, list_of, pair_of, fraction, line_of}
use Rattle.slice_json.specs.Reading.{json_of}
use Rattle.slice_paths.specs.declared.goal.GoalKind.{GoalKind}
use Rattle.slice_paths.specs.declared.goal.GoalKind.TheVariants.{Low, High, Envy}
use Rattle.slice_counter.specs.CounterLine.{answer_json, valuation_json, outcome_json, counter_json}
use Rattle.slice_counter.proofs.LineRead.{line_read}
use Rattle.slice_counter.proofs.Replays.{few_levels}

-- ---- a value whose text is read as this value

record Back (d : Data) : Type 0 where
  numbers : tree.HasNumbers (outline d)
  same : of_json (outline d) ≡ Some d
  valid : IsUtf8 (compact_text d)

record BackItems (ds : Items) : Type 0 where
  numbers : tree.ItemsHaveNumbers (items_outline ds)
  same : of_items (items_outline ds) ≡ Some ds
  valid : (later : Bool) → IsUtf8 (items_text later ds)

comma : (later : Bool) → IsUtf8 (comma_if later)
comma true = IsUtf8-are_ascii (44 ∷ []) refl
comma false = IsUtf8-are_ascii [] refl

back_whole : (n : ℕ) → n < 2 ^ 64 → Back (whole n)
back_whole n h = record { numbers = IsNumber-decimal n h; same = ap (option_map number) (number_of-decimal n h); valid = IsUtf8-from_ascii (decimal n) (IsAscii-decimal n h) }

back_text : (s : List ℕ) → IsUtf8 s → Back (text s)
back_text s u = record { numbers = tt; same = refl; valid = IsUtf8-quoted s u }

back_items : {A : Type 0} (f : A → Data) (P : A → Type 0) → ((x : A) → P x → Back (f x)) → (xs : List A) → AllByRecursion P xs → BackItems (items_of (map f xs))
back_items f P each [] h = record { numbers = tt; same = refl; valid = λ later. IsUtf8-are_ascii (93 ∷ []) refl }
back_items f P each (x ∷ xs) h =
    let b = each x h.0 in
    let bs = back_items f P each xs h.1 in
    record {
      numbers = (b.numbers, bs.numbers);
      same = ap (option_and_then (λ d. option_map (item d) (of_items (items_outline (items_of (map f xs)))))) b.same ∙ ap (option_map (item (f x))) bs.same;
      valid = λ later. IsUtf8-append (comma_if later) (compact_text (f x) ++ items_text true (items_of (map f xs))) (comma later) (IsUtf8-append (compact_text (f x)) (items_text true (items_of (map f xs))) b.valid (bs.valid true));
    }

back_array : (ds : Items) → BackItems ds → Back (array ds)
back_array ds b = record { numbers = b.numbers; same = ap (option_map array) b.same; valid = IsUtf8-append (91 ∷ []) (items_text false ds) (IsUtf8-are_ascii (91 ∷ []) refl) (b.valid false) }

-- ---- objects

valid_member : (later : Bool) (k : List ℕ) (d : Data) (ms : Members) → IsUtf8 k → Back d → IsUtf8 (members_text true ms) → IsUtf8 (members_text later (member k d ms))
valid_member later k d ms u b rest =
    let tail : IsUtf8 (compact_text d ++ members_text true ms) = IsUtf8-append (compact_text d) (members_text true ms) b.valid rest in
    let named : IsUtf8 (58 ∷ (compact_text d ++ members_text true ms)) = IsUtf8-append (58 ∷ []) (compact_text d ++ members_text true ms) (IsUtf8-are_ascii (58 ∷ []) refl) tail in
    IsUtf8-append (comma_if later) (quoted k ++ 58 ∷ (compact_text d ++ members_text true ms)) (comma later)
    (IsUtf8-append (quoted k) (58 ∷ (compact_text d ++ members_text true ms)) (IsUtf8-quoted k u) named)

valid_end : IsUtf8 (members_text true no_members)
valid_end = IsUtf8-are_ascii (125 ∷ []) refl

-- one more member is read
one_read : (k : List ℕ) (d : Data) (ms found : Members) → Back d → of_members (members_outline (member k d ms)) found ≡ of_members (members_outline ms) (put k d found)
one_read k d ms found b = ap (option_and_then (λ e. of_members (members_outline ms) (put k e found))) b.same

-- two members in the order of their keys
back_two : (k l : List ℕ) (d e : Data) → IsUtf8 k → IsUtf8 l → put l e (member k d no_members) ≡ member k d (member l e no_members) → Back d → Back e → Back (object (member k d (member l e no_members)))
back_two k l d e u v order b c = record {
  numbers = (b.numbers, (c.numbers, tt));
  same = ap (option_map object) (one_read k d (member l e no_members) no_members b ∙ one_read l e no_members (member k d no_members) c ∙ ap Some order);
  valid = IsUtf8-append (123 ∷ []) (members_text false (member k d (member l e no_members))) (IsUtf8-are_ascii (123 ∷ []) refl) (valid_member false k d (member l e no_members) u b (valid_member true l e no_members v c valid_end));
}

-- ---- the parts of the line

abbrev IsWord : ℕ → Type 0
IsWord n = n < 2 ^ 64

words_below : (b : ℕ) → b < 2 ^ 64 → (ns : List ℕ) → All (λ n. n ≤ b) ns → AllByRecursion IsWord ns
words_below b small [] h = tt
words_below b small (n ∷ ns) h = ((let first : n ≤ b = h 0 n (omega arith) in omega (arith, first, small)), words_below b small ns (λ k d l. h (suc k) d (omega (arith, l))))

back_valuation : (v : Valuation) → IsSmall v → Back (valuation_json v)
back_valuation v s =
    back_two (codes "ends") (codes "heights") (list_of whole v.ends) (list_of whole v.heights) (IsUtf8-are_ascii (codes "ends") refl) (IsUtf8-are_ascii (codes "heights") refl) refl
    (back_array _ (back_items whole IsWord back_whole v.ends (words_below (10 ^ 6) (omega arith) v.ends s.near)))
    (back_array _ (back_items whole IsWord back_whole v.heights (words_below (10 ^ 18) (omega arith) v.heights s.low)))

-- the two numbers by which an outcome tells agents are held as numbers
abbrev pub AreWords : GoalKind → Type 0
AreWords Low = ⊤
AreWords High = ⊤
AreWords (Envy a b) = (a < 2 ^ 64) × (b < 2 ^ 64)

back_outcome : (query : ℕ) (kind : GoalKind) → query < 2 ^ 64 → AreWords kind → Back (outcome_json query kind)
back_outcome query Low h w =
    back_two (codes "query") (codes "side") (whole query) (text (codes "low")) (IsUtf8-are_ascii (codes "query") refl) (IsUtf8-are_ascii (codes "side") refl) refl (back_whole query h) (back_text (codes "low") (IsUtf8-are_ascii (codes "low") refl))
back_outcome query High h w =
    back_two (codes "query") (codes "side") (whole query) (text (codes "high")) (IsUtf8-are_ascii (codes "query") refl) (IsUtf8-are_ascii (codes "side") refl) refl (back_whole query h) (back_text (codes "high") (IsUtf8-are_ascii (codes "high") refl))
back_outcome query (Envy a b) h w =
    back_two (codes "agent") (codes "envies") (whole a) (whole b) (IsUtf8-are_ascii (codes "agent") refl) (IsUtf8-are_ascii (codes "envies") refl) refl (back_whole a w.0) (back_whole b w.1)

-- an answer at a whole point
abbrev pub IsNear : CutAnswer → Type 0
IsNear y = (y.part ≤ 64) × ((n : ℕ) × ((n ≤ 65) × (y.point ≡ whole_number (pos n))))

whole_text : (n : ℕ) → fraction_text (whole_number (pos n)) ≡ decimal n
whole_text n = rw (whole_den (pos n)) (ap signed_decimal (whole_num (pos n)))

back_point : (q : Rational) (n : ℕ) → n ≤ 65 → q ≡ whole_number (pos n) → Back (fraction q)
back_point q n le e =
    let is : fraction_text q ≡ decimal n = ap fraction_text e ∙ whole_text n in
    back_text (fraction_text q) (subst IsUtf8 (sym is) (IsUtf8-from_ascii (decimal n) (IsAscii-decimal n (omega (arith, le)))))

back_pair : (d e : Data) → Back d → Back e → Back (array (item d (item e no_items)))
back_pair d e b c = record {
  numbers = (b.numbers, (c.numbers, tt));
  same = ap (option_map array) (ap (option_and_then (λ x. option_map (item x) (of_items (items_outline (item e no_items))))) b.same ∙ ap (option_map (item d)) (ap (option_and_then (λ x. option_map (item x) (Some no_items))) c.same));
  valid =
      IsUtf8-append (91 ∷ []) (compact_text d ++ (44 ∷ (compact_text e ++ 93 ∷ []))) (IsUtf8-are_ascii (91 ∷ []) refl)
      (IsUtf8-append (compact_text d) (44 ∷ (compact_text e ++ 93 ∷ [])) b.valid
      (IsUtf8-append (44 ∷ []) (compact_text e ++ 93 ∷ []) (IsUtf8-are_ascii (44 ∷ []) refl) (IsUtf8-append (compact_text e) (93 ∷ []) c.valid (IsUtf8-are_ascii (93 ∷ []) refl))));
}

back_answer : (y : CutAnswer) → IsNear y → Back (answer_json y)
back_answer y h = by (y.part == 0)
  where
    point : Back (fraction y.point)
    point = back_point y.point h.1.0 h.1.1.0 h.1.1.1

    by : (b : Bool) → Back (if b then fraction y.point else pair_of whole fraction (y.part, y.point))
    by true = point
    by false = back_pair (whole y.part) (fraction y.point) (back_whole y.part (let le = h.0 in omega (arith, le))) point

-- ---- the line

module _ (goal query : ℕ) (kind : GoalKind) (vs : List Valuation) (ys : List CutAnswer) where
  back_counter : goal < 2 ^ 64 → query < 2 ^ 64 → AreWords kind → AllByRecursion IsSmall vs → AllByRecursion IsNear ys → Back (counter_json goal kind query vs ys)
  back_counter g q w small near =
      let closing = back_text (codes "counterexample") (IsUtf8-are_ascii (codes "counterexample") refl) in
      let cuts = back_array _ (back_items answer_json IsNear back_answer ys near) in
      let number = back_whole goal g in
      let outcome = back_outcome query kind q w in
      let valuations = back_array _ (back_items valuation_json IsSmall back_valuation vs small) in
      let m5 = member (codes "valuations") (list_of valuation_json vs) no_members in
      let m4 = member (codes "outcome") (outcome_json query kind) m5 in
      let m3 = member (codes "goal") (whole goal) m4 in
      let m2 = member (codes "cuts") (list_of answer_json ys) m3 in
      let f1 = member (codes "closing") (text (codes "counterexample")) no_members in
      let f2 = member (codes "closing") (text (codes "counterexample")) (member (codes "cuts") (list_of answer_json ys) no_members) in
      let f3 = member (codes "closing") (text (codes "counterexample")) (member (codes "cuts") (list_of answer_json ys) (member (codes "goal") (whole goal) no_members)) in
      let f4 = member (codes "closing") (text (codes "counterexample")) (member (codes "cuts") (list_of answer_json ys) (member (codes "goal") (whole goal) (member (codes "outcome") (outcome_json query kind) no_members))) in
      record {
        numbers = (closing.numbers, (cuts.numbers, (number.numbers, (outcome.numbers, (valuations.numbers, tt)))));
        same = ap (option_map object)
            (one_read (codes "closing") (text (codes "counterexample")) m2 no_members closing
            ∙ (one_read (codes "cuts") (list_of answer_json ys) m3 f1 cuts
            ∙ (one_read (codes "goal") (whole goal) m4 f2 number
            ∙ (one_read (codes "outcome") (outcome_json query kind) m5 f3 outcome ∙ one_read (codes "valuations") (list_of valuation_json vs) no_members f4 valuations))));
        valid =
            IsUtf8-append (123 ∷ []) (members_text false (member (codes "closing") (text (codes "counterexample")) m2)) (IsUtf8-are_ascii (123 ∷ []) refl)
            (valid_member false (codes "closing") (text (codes "counterexample")) m2 (IsUtf8-are_ascii (codes "closing") refl) closing
            (valid_member true (codes "cuts") (list_of answer_json ys) m3 (IsUtf8-are_ascii (codes "cuts") refl) cuts
            (valid_member true (codes "goal") (whole goal) m4 (IsUtf8-are_ascii (codes "goal") refl) number
            (valid_member true (codes "outcome") (outcome_json query kind) m5 (IsUtf8-are_ascii (codes "outcome") refl) outcome
            (valid_member true (codes "valuations") (list_of valuation_json vs) no_members (IsUtf8-are_ascii (codes "valuations") refl) valuations valid_end)))));
      }

mutual
  depth_same : (d : Data) → tree.depth (outline d) ≡ depth d
  depth_same null = refl
  depth_same (boolean b) = refl
  depth_same (number n) = refl
  depth_same (string s) = refl
  depth_same (array ds) = ap suc (items_depth_same ds)
  depth_same (object ms) = ap suc (members_depth_same ms)

  items_depth_same : (ds : Items) → tree.items_depth (items_outline ds) ≡ items_depth ds
  items_depth_same no_items = refl
  items_depth_same (item d ds) = ap₂ max (depth_same d) (items_depth_same ds)

  members_depth_same : (ms : Members) → tree.members_depth (members_outline ms) ≡ members_depth ms
  members_depth_same no_members = refl
  members_depth_same (member k d ms) = ap₂ max (depth_same d) (members_depth_same ms)

line_back : (d : Data) → Back d → depth d ≤ max_depth → json_of (line_of d) ≡ Some d
line_back d b shallow =
    let j = outline d in
    let printed : compact_text d ≡ print (tree.json_tokens j) = sym (print-outline d) in
    let again : tokens (compact_text d) ≡ tree.json_tokens j = ap tokens printed ∙ tokens-print (tree.json_tokens j) (ArePrintable-json_tokens j b.numbers) in
    let value : read (compact_text d) ≡ Some d =
    ap (λ ts. option_and_then of_json (option_and_then (λ p. json.if_last p.0 p.1) (json.value max_depth ts))) (again ∙ sym (append-nil (tree.json_tokens j)))
    ∙ ap (λ o. option_and_then of_json (option_and_then (λ p. json.if_last p.0 p.1) o)) (value-json_tokens j max_depth [] (omega (arith, depth_same d, shallow))) ∙ b.same in
    line_read (compact_text d) d b.valid (printed ∙ ap print (sym again)) value

pub counter_back : (goal query : ℕ) (kind : GoalKind) (vs : List Valuation) (ys : List CutAnswer) → goal < 2 ^ 64 → query < 2 ^ 64 → AreWords kind → AllByRecursion IsSmall vs → AllByRecursion IsNear ys
    → json_of (line_of (counter_json goal kind query vs ys)) ≡ Some (counter_json goal kind query vs ys)
counter_back goal query kind vs ys g q w small near = line_back (counter_json goal kind query vs ys) (back_counter goal query kind vs ys g q w small near) (few_levels goal kind query vs ys)
