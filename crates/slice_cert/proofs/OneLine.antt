-- A value says one line alone.
use Rattle.std.proofs.Common.{◌≡◌, ◌∙◌, ◌⊎◌, inl, inr, ◌<◌, ◌^◌, ℕ, suc, ℤ, pos, negsuc, List, [], ◌∷◌, map, length, ap, sym, subst, refl, arith, Some, None, codes}
use Rattle.std.specs.List.{All}
use Rattle.std.specs.declared.option.Option.{Option}
use Rattle.std.specs.declared.cmp.Ordering.{Ordering}
use Rattle.std.specs.declared.cmp.Ordering.TheVariants.{Less, Equal, Greater}
use Rattle.std.specs.Ordering.{nat_cmp, match_ordering, is_eq}
use Rattle.std.specs.Str.Parse.{digits_value, AllDigits}
use Rattle.serde_json.specs.Events.{members_len}
use Rattle.std.specs.Cmp.Lexicographic.{slice_cmp}
use Rattle.std.proofs.lemmas.Slice.Eq.{bytes_eq-Decides}
use Rattle.std.proofs.lemmas.Map.Text.{is_eq-slice_cmp}
use Rattle.std.specs.Fmt.{signed_decimal, decimal}
use Rattle.std.proofs.lemmas.Fmt.{decimal_is_IsNumeral_wide}
use Rattle.slice_num.specs.Rational.{Fits}
use Rattle.serde_json.specs.Data.{Data, null, boolean, number, string, array, object, Members, no_members, member}
use Rattle.serde_json.specs.View.{items_of}
use Rattle.serde_json.specs.Find.{get, get_member}
use Rattle.slice_json.specs.Reading.{key_count}
use Rattle.slice_json.specs.Texts.{whole, text, signed, list_of}
use Rattle.slice_cert.specs.declared.line.Line.{Line}
use Rattle.slice_cert.specs.declared.line.Line.TheVariants.{Header, Refutation, Cover, Closing}
use Rattle.slice_cert.specs.CertLines.{Says, IsLine}
use Rattle.slice_cert.proofs.Values.{items_same}

-- ---- two keys can't hold three names
same_at : (k l : List ℕ) (o : Ordering) → slice_cmp nat_cmp k l ≡ o → o ≡ Equal → k ≡ l
same_at k l o e f = (bytes_eq-Decides k l).0 (sym (is_eq-slice_cmp k l) ∙ ap (λ (x : Ordering). is_eq x) (e ∙ f))

found_at : (k l m : List ℕ) (o p : Ordering) (e f x : Data) → slice_cmp nat_cmp k l ≡ o → slice_cmp nat_cmp k m ≡ p
    → match_ordering o (match_ordering p None (Some f) None) (Some e) (match_ordering p None (Some f) None) ≡ Some x → (k ≡ l) ⊎ (k ≡ m)
found_at k l m Equal p e f x a b h = inl (same_at k l Equal a refl)
found_at k l m Less Equal e f x a b h = inr (same_at k m Equal b refl)
found_at k l m Greater Equal e f x a b h = inr (same_at k m Equal b refl)
found_at k l m Less Less e f x a b h = cc
found_at k l m Less Greater e f x a b h = cc
found_at k l m Greater Less e f x a b h = cc
found_at k l m Greater Greater e f x a b h = cc

found : (k l m : List ℕ) (e f x : Data) → get_member k (member l e (member m f no_members)) ≡ Some x → (k ≡ l) ⊎ (k ≡ m)
found k l m e f x h = found_at k l m (slice_cmp nat_cmp k l) (slice_cmp nat_cmp k m) e f x refl refl h

apart : (k l m : List ℕ) → k ≡ m → l ≡ m → length k ≡ length l
apart k l m e f = ap length (e ∙ sym f)

three_of_two : (a b c l m : List ℕ) → (length a ≡ length b → ⊥) → (length a ≡ length c → ⊥) → (length b ≡ length c → ⊥) → (a ≡ l) ⊎ (a ≡ m) → (b ≡ l) ⊎ (b ≡ m) → (c ≡ l) ⊎ (c ≡ m) → ⊥
three_of_two a b c l m ab ac bc (inl x) (inl y) z = ab (apart a b l x y)
three_of_two a b c l m ab ac bc (inr x) (inr y) z = ab (apart a b m x y)
three_of_two a b c l m ab ac bc (inl x) (inr y) (inl z) = ac (apart a c l x z)
three_of_two a b c l m ab ac bc (inl x) (inr y) (inr z) = bc (apart b c m y z)
three_of_two a b c l m ab ac bc (inr x) (inl y) (inl z) = bc (apart b c l y z)
three_of_two a b c l m ab ac bc (inr x) (inl y) (inr z) = ac (apart a c m x z)

no_third : (ms : Members) (x y z : Data) → key_count (object ms) ≡ Some 2 → get_member (codes "goal") ms ≡ Some x → get_member (codes "multipliers") ms ≡ Some y → get_member (codes "closing") ms ≡ Some z → ⊥
no_third no_members x y z n a b c = cc
no_third (member l e no_members) x y z n a b c = let k : ◌≡◌ {A = ℕ} 1 2 = cc in omega (arith, k)
no_third (member l e (member m f no_members)) x y z n a b c =
    three_of_two (codes "goal") (codes "multipliers") (codes "closing") l m (λ e. omega (arith, e)) (λ e. omega (arith, e)) (λ e. omega (arith, e))
    (found (codes "goal") l m e f x a) (found (codes "multipliers") l m e f y b) (found (codes "closing") l m e f z c)
no_third (member l e (member m f (member k g ms))) x y z n a b c = let s : suc (suc (suc (members_len ms))) ≡ 2 = cc in omega (arith, s)

no_third_key : (d : Data) (x y z : Data) → key_count d ≡ Some 2 → get (codes "goal") d ≡ Some x → get (codes "multipliers") d ≡ Some y → get (codes "closing") d ≡ Some z → ⊥
no_third_key null x y z n a b c = cc
no_third_key (boolean t) x y z n a b c = cc
no_third_key (number t) x y z n a b c = cc
no_third_key (string t) x y z n a b c = cc
no_third_key (array t) x y z n a b c = cc
no_third_key (object ms) x y z n a b c = no_third ms x y z n a b c

-- ---- nor three keys four names
first_or : (k l : List ℕ) (o : Ordering) (e x : Data) (rest : Option Data) → slice_cmp nat_cmp k l ≡ o → match_ordering o rest (Some e) rest ≡ Some x → (k ≡ l) ⊎ (rest ≡ Some x)
first_or k l Equal e x rest a h = inl (same_at k l Equal a refl)
first_or k l Less e x rest a h = inr h
first_or k l Greater e x rest a h = inr h

in_three : (k l m n : List ℕ) (e f g x : Data) → get_member k (member l e (member m f (member n g no_members))) ≡ Some x → (k ≡ l) ⊎ ((k ≡ m) ⊎ (k ≡ n))
in_three k l m n e f g x h = elim (first_or k l (slice_cmp nat_cmp k l) e x (get_member k (member m f (member n g no_members))) refl h) [ inl a ↦ inl a | inr b ↦ inr (found k m n f g x b) ]

not_first : (k l m n : List ℕ) → (k ≡ l) ⊎ ((k ≡ m) ⊎ (k ≡ n)) → (k ≡ l → ⊥) → (k ≡ m) ⊎ (k ≡ n)
not_first k l m n (inl a) no_ = absurd (no_ a)
not_first k l m n (inr b) no_ = b

not_second : (k l m n : List ℕ) → (k ≡ l) ⊎ ((k ≡ m) ⊎ (k ≡ n)) → (k ≡ m → ⊥) → (k ≡ l) ⊎ (k ≡ n)
not_second k l m n (inl a) no_ = inl a
not_second k l m n (inr (inl b)) no_ = absurd (no_ b)
not_second k l m n (inr (inr c)) no_ = inr c

not_third : (k l m n : List ℕ) → (k ≡ l) ⊎ ((k ≡ m) ⊎ (k ≡ n)) → (k ≡ n → ⊥) → (k ≡ l) ⊎ (k ≡ m)
not_third k l m n (inl a) no_ = inl a
not_third k l m n (inr (inl b)) no_ = inr b
not_third k l m n (inr (inr c)) no_ = absurd (no_ c)

four_of_three : (a b c d l m n : List ℕ) → (length a ≡ length b → ⊥) → (length a ≡ length c → ⊥) → (length a ≡ length d → ⊥) → (length b ≡ length c → ⊥) → (length b ≡ length d → ⊥) → (length c ≡ length d → ⊥)
    → (a ≡ l) ⊎ ((a ≡ m) ⊎ (a ≡ n)) → (b ≡ l) ⊎ ((b ≡ m) ⊎ (b ≡ n)) → (c ≡ l) ⊎ ((c ≡ m) ⊎ (c ≡ n)) → (d ≡ l) ⊎ ((d ≡ m) ⊎ (d ≡ n)) → ⊥
four_of_three a b c d l m n ab ac ad bc bd cd (inl x) q r s =
    three_of_two b c d m n bc bd cd (not_first b l m n q (λ y. ab (apart a b l x y))) (not_first c l m n r (λ y. ac (apart a c l x y))) (not_first d l m n s (λ y. ad (apart a d l x y)))
four_of_three a b c d l m n ab ac ad bc bd cd (inr (inl x)) q r s =
    three_of_two b c d l n bc bd cd (not_second b l m n q (λ y. ab (apart a b m x y))) (not_second c l m n r (λ y. ac (apart a c m x y))) (not_second d l m n s (λ y. ad (apart a d m x y)))
four_of_three a b c d l m n ab ac ad bc bd cd (inr (inr x)) q r s =
    three_of_two b c d l m bc bd cd (not_third b l m n q (λ y. ab (apart a b n x y))) (not_third c l m n r (λ y. ac (apart a c n x y))) (not_third d l m n s (λ y. ad (apart a d n x y)))

no_fourth : (ms : Members) (w x y z : Data) → key_count (object ms) ≡ Some 3 → get_member (codes "agents") ms ≡ Some w → get_member (codes "certificate") ms ≡ Some x → get_member (codes "protocol") ms ≡ Some y → get_member (codes "cover") ms ≡ Some z → ⊥
no_fourth no_members w x y z n a b c d = cc
no_fourth (member l e no_members) w x y z n a b c d = let k : ◌≡◌ {A = ℕ} 1 3 = cc in omega (arith, k)
no_fourth (member l e (member m f no_members)) w x y z n a b c d = let k : ◌≡◌ {A = ℕ} 2 3 = cc in omega (arith, k)
no_fourth (member l e (member m f (member o g no_members))) w x y z n a b c d =
    four_of_three (codes "agents") (codes "certificate") (codes "protocol") (codes "cover") l m o (λ e. omega (arith, e)) (λ e. omega (arith, e)) (λ e. omega (arith, e)) (λ e. omega (arith, e)) (λ e. omega (arith, e)) (λ e. omega (arith, e))
    (in_three (codes "agents") l m o e f g w a) (in_three (codes "certificate") l m o e f g x b) (in_three (codes "protocol") l m o e f g y c) (in_three (codes "cover") l m o e f g z d)
no_fourth (member l e (member m f (member o g (member k h ms)))) w x y z n a b c d = let s : suc (suc (suc (suc (members_len ms)))) ≡ 3 = cc in omega (arith, s)

no_fourth_key : (d : Data) (w x y z : Data) → key_count d ≡ Some 3 → get (codes "agents") d ≡ Some w → get (codes "certificate") d ≡ Some x → get (codes "protocol") d ≡ Some y → get (codes "cover") d ≡ Some z → ⊥
no_fourth_key null w x y z n a b c d = cc
no_fourth_key (boolean t) w x y z n a b c d = cc
no_fourth_key (number t) w x y z n a b c d = cc
no_fourth_key (string t) w x y z n a b c d = cc
no_fourth_key (array t) w x y z n a b c d = cc
no_fourth_key (object ms) w x y z n a b c d = no_fourth ms w x y z n a b c d

-- ---- texts of numbers
decimal_same : (n m : ℕ) → n < 10 ^ 64 → m < 10 ^ 64 → decimal n ≡ decimal m → n ≡ m
decimal_same n m f g e = sym (decimal_is_IsNumeral_wide n f).1 ∙ ap (digits_value 10) e ∙ (decimal_is_IsNumeral_wide m g).1

no_minus : (n m : ℕ) → n < 10 ^ 64 → decimal n ≡ 45 ∷ decimal m → ⊥
no_minus n m f e = let k = decimal_is_IsNumeral_wide n f in let a = subst (λ (bs : List ℕ). AllDigits 10 bs) e k.0.1 in let h : 36 < 10 = a.0 in absurd (omega (arith, h))

signed_same : (y z : ℤ) → Fits y → Fits z → signed_decimal y ≡ signed_decimal z → y ≡ z
signed_same (pos n) (pos m) f g e = ap pos (decimal_same n m (omega (arith, f)) (omega (arith, g)) e)
signed_same (pos n) (negsuc m) f g e = absurd (no_minus n (suc m) (omega (arith, f)) e)
signed_same (negsuc n) (pos m) f g e = absurd (no_minus m (suc n) (omega (arith, g)) (sym e))
signed_same (negsuc n) (negsuc m) f g e =
    let t : decimal (suc n) ≡ decimal (suc m) = cc in
    let s : suc n ≡ suc m = decimal_same (suc n) (suc m) (omega (arith, f)) (omega (arith, g)) t in
    ap negsuc (let r : n ≡ m = omega (arith, s) in r)

texts_same : (ys zs : List ℤ) → All Fits ys → All Fits zs → map signed ys ≡ map signed zs → ys ≡ zs
texts_same [] [] f g e = refl
texts_same [] (z ∷ zs) f g e = cc
texts_same (y ∷ ys) [] f g e = cc
texts_same (y ∷ ys) (z ∷ zs) f g e =
    let h : signed_decimal y ≡ signed_decimal z = cc in
    let t : map signed ys ≡ map signed zs = cc in
    let a = signed_same y z (f 0 (pos 0) (omega arith)) (g 0 (pos 0) (omega arith)) h in
    let b = texts_same ys zs (λ i d lt. f (suc i) d (omega (arith, lt))) (λ i d lt. g (suc i) d (omega (arith, lt))) t in
    λ i. a i ∷ b i

-- ---- one line
whole_same : (o : Option Data) (n m : ℕ) → o ≡ Some (whole n) → o ≡ Some (whole m) → n ≡ m
whole_same o n m e f = let g : Some (whole n) ≡ Some (whole m) = sym e ∙ f in cc

text_same : (o : Option Data) (n m : List ℕ) → o ≡ Some (text n) → o ≡ Some (text m) → n ≡ m
text_same o n m e f = let g : Some (text n) ≡ Some (text m) = sym e ∙ f in cc

counts_differ : (o : Option ℕ) → o ≡ Some 3 → o ≡ Some 2 → ⊥
counts_differ o e f = let g : ◌≡◌ {A = Option ℕ} (Some 3) (Some 2) = sym e ∙ f in let h : ◌≡◌ {A = ℕ} 3 2 = cc in omega (arith, h)

says_one : (d : Data) (l k : Line) → Says d l → Says d k → l ≡ k
says_one d (Header v p a) (Header w q b) s t =
    let x = whole_same _ a b s.1.0 t.1.0 in
    let y = whole_same _ v w s.1.1.0 t.1.1.0 in
    let z = text_same _ p q s.1.1.1.0 t.1.1.1.0 in
    λ i. Header (y i) (z i) (x i)
says_one d (Header v p a) (Refutation g m) s t = absurd (counts_differ _ s.0 t.0)
says_one d (Header v p a) (Closing n) s t = absurd (counts_differ _ s.0 t.0)
says_one d (Refutation g m) (Header v p a) s t = absurd (counts_differ _ t.0 s.0)
says_one d (Closing n) (Header v p a) s t = absurd (counts_differ _ t.0 s.0)
says_one d (Refutation g m) (Closing n) s t = absurd (no_third_key d _ _ _ s.0 s.1.0 s.1.1.0 t.1.0)
says_one d (Closing n) (Refutation g m) s t = absurd (no_third_key d _ _ _ t.0 t.1.0 t.1.1.0 s.1.0)
says_one d (Header v p a) (Cover g c m) s t = absurd (no_fourth_key d _ _ _ _ s.0 s.1.0 s.1.1.0 s.1.1.1.0 t.1.0)
says_one d (Cover g c m) (Header v p a) s t = absurd (no_fourth_key d _ _ _ _ t.0 t.1.0 t.1.1.0 t.1.1.1.0 s.1.0)
says_one d (Refutation g m) (Cover h c k) s t = absurd (counts_differ _ t.0 s.0)
says_one d (Cover g c m) (Refutation h k) s t = absurd (counts_differ _ s.0 t.0)
says_one d (Cover g c m) (Closing n) s t = absurd (counts_differ _ s.0 t.0)
says_one d (Closing n) (Cover g c m) s t = absurd (counts_differ _ t.0 s.0)
says_one d (Cover g c m) (Cover h b k) s t =
    let w = whole_same _ c b s.1.0 t.1.0 in
    let x = whole_same _ g h s.1.1.0 t.1.1.0 in
    let two : Some (list_of signed m) ≡ Some (list_of signed k) = sym s.1.1.1.0 ∙ t.1.1.1.0 in
    let same : items_of (map signed m) ≡ items_of (map signed k) = cc in
    let y = texts_same m k s.2.2 t.2.2 (items_same (map signed m) (map signed k) same) in
    λ i. Cover (x i) (w i) (y i)
says_one d (Closing n) (Closing k) s t = ap Closing (whole_same _ n k s.1.1.0 t.1.1.0)
says_one d (Refutation g m) (Refutation h k) s t =
    let x = whole_same _ g h s.1.0 t.1.0 in
    let two : Some (list_of signed m) ≡ Some (list_of signed k) = sym s.1.1.0 ∙ t.1.1.0 in
    let same : items_of (map signed m) ≡ items_of (map signed k) = cc in
    let y = texts_same m k s.2.1 t.2.1 (items_same (map signed m) (map signed k) same) in
    λ i. Refutation (x i) (y i)

-- the bytes are one line at most
pub one_line : (bytes : List ℕ) (l k : Line) → IsLine bytes l → IsLine bytes k → l ≡ k
one_line bytes l k a b =
    let e : Some a.0 ≡ Some b.0 = sym a.1 ∙ b.1 in
    let same : b.0 ≡ a.0 = cc in
    says_one a.0 l k a.2 (subst (λ (d : Data). Says d k) same b.2)
