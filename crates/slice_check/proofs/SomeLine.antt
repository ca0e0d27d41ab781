-- Bytes are a line of a certificate, or they are none.
use Rattle.std.proofs.Common.{◌≡◌, ◌∙◌, ℕ, suc, ◌<◌, ◌^◌, inl, inr, List, [], ◌∷◌, map, ap, sym, subst, refl, arith, ℤ, pos, negsuc, Some, None, codes}
use Rattle.std.specs.Prelude.{IsTrue}
use Rattle.std.specs.List.{All}
use Rattle.std.specs.declared.option.Option.{Option}
use Rattle.std.specs.Fmt.{signed_decimal}
use Rattle.std.proofs.lemmas.Bool.{cases_eq}
use Rattle.std.proofs.lemmas.List.Elements.{All-nil, All-cons}
use Rattle.serde_json.specs.Data.{unsigned, negative, float, Data, null, boolean, number, string, array, object, Items, no_items, item}
use Rattle.serde_json.specs.View.{items_of}
use Rattle.serde_json.specs.Find.{get}
use Rattle.slice_num.specs.Rational.{Fits}
use Rattle.slice_num.specs.Name.{is_name}
use Rattle.slice_json.specs.Texts.{whole, text, signed, list_of}
use Rattle.slice_json.specs.Reading.{json_of, key_count}
use Rattle.slice_cert.specs.declared.line.Line.{Line}
use Rattle.slice_cert.specs.declared.line.Line.TheVariants.{Header, Refutation, Cover, Closing}
use Rattle.slice_cert.specs.CertLines.{IsLine, Says}
use Rattle.slice_check.proofs.Telling.{Told, tell_some, tell_both, tell_like, tell_below, tell_true, tell_same, tell_fits}

-- ---- what stands at a key

tell_whole : (o : Option Data) → Told ((n : ℕ) × (o ≡ Some (whole n)))
tell_whole None = inr (λ h. let e = h.1 in cc)
tell_whole (Some null) = inr (λ h. let e = h.1 in cc)
tell_whole (Some (boolean b)) = inr (λ h. let e = h.1 in cc)
tell_whole (Some (number (unsigned n))) = inl (n, refl)
tell_whole (Some (number (negative z))) = inr (λ h. let e = h.1 in cc)
tell_whole (Some (number (float x))) = inr (λ h. let e = h.1 in cc)
tell_whole (Some (string s)) = inr (λ h. let e = h.1 in cc)
tell_whole (Some (array ds)) = inr (λ h. let e = h.1 in cc)
tell_whole (Some (object ms)) = inr (λ h. let e = h.1 in cc)

tell_text : (o : Option Data) → Told ((s : List ℕ) × (o ≡ Some (text s)))
tell_text None = inr (λ h. let e = h.1 in cc)
tell_text (Some null) = inr (λ h. let e = h.1 in cc)
tell_text (Some (boolean b)) = inr (λ h. let e = h.1 in cc)
tell_text (Some (number n)) = inr (λ h. let e = h.1 in cc)
tell_text (Some (string s)) = inl (s, refl)
tell_text (Some (array ds)) = inr (λ h. let e = h.1 in cc)
tell_text (Some (object ms)) = inr (λ h. let e = h.1 in cc)

tell_count : (o : Option ℕ) (n : ℕ) → Told (o ≡ Some n)
tell_count None n = inr (λ e. cc)
tell_count (Some k) n = elim (cases_eq k n) [
  | inl same ↦ inl (ap Some same)
  | inr apart ↦ inr (λ e. apart (let f : k ≡ n = cc in f))
]

whole_same : (o : Option Data) (n k : ℕ) → o ≡ Some (whole n) → o ≡ Some (whole k) → n ≡ k
whole_same o n k e f = let same : Some (whole n) ≡ Some (whole k) = sym e ∙ f in cc

text_same : (o : Option Data) (s t : List ℕ) → o ≡ Some (text s) → o ≡ Some (text t) → s ≡ t
text_same o s t e f = let same : Some (text s) ≡ Some (text t) = sym e ∙ f in cc

-- ---- a header

abbrev HeaderIn : Data → Type 0
HeaderIn d = (version : ℕ) × (protocol : List ℕ) × (agents : ℕ) × Says d (Header version protocol agents)

abbrev MayHead : Data → ℕ → List ℕ → ℕ → Type 0
MayHead d version protocol agents = (key_count d ≡ Some 3) × (IsTrue (is_name protocol) × ((version < 2 ^ 32) × (agents < 2 ^ 32)))

tell_may_head : (d : Data) (version : ℕ) (protocol : List ℕ) (agents : ℕ) → Told (MayHead d version protocol agents)
tell_may_head d version protocol agents =
    tell_both (tell_count (key_count d) 3) (tell_both (tell_true (is_name protocol)) (tell_both (tell_below version (2 ^ 32)) (tell_below agents (2 ^ 32))))

module _ (d : Data) where
  heads : (version : ℕ) (protocol : List ℕ) (agents : ℕ) → get (codes "agents") d ≡ Some (whole agents) → get (codes "certificate") d ≡ Some (whole version) → get (codes "protocol") d ≡ Some (text protocol)
      → Told (MayHead d version protocol agents) → Told (HeaderIn d)
  heads version protocol agents a v p (inl m) = inl (version, protocol, agents, (m.0, (a, (v, (p, tt))), (m.1.0, m.1.1.0, m.1.1.1)))
  heads version protocol agents a v p (inr none) = inr (λ h.
      let is = h.3.1 in
      let may = h.3.2 in
      let ea = whole_same (get (codes "agents") d) h.2 agents is.0 a in
      let ev = whole_same (get (codes "certificate") d) h.0 version is.1.0 v in
      let ep = text_same (get (codes "protocol") d) h.1 protocol is.1.1.0 p in
      none (h.3.0, (subst (λ (s : List ℕ). IsTrue (is_name s)) ep may.0, (subst (λ (n : ℕ). n < 2 ^ 32) ev may.1, subst (λ (n : ℕ). n < 2 ^ 32) ea may.2))))

  tell_header : Told (HeaderIn d)
  tell_header = elim (tell_whole (get (codes "agents") d)) [
    | inr none ↦ inr (λ h. none (h.2, h.3.1.0))
    | inl a ↦ elim (tell_whole (get (codes "certificate") d)) [
      | inr none ↦ inr (λ h. none (h.0, h.3.1.1.0))
      | inl v ↦ elim (tell_text (get (codes "protocol") d)) [
        | inr none ↦ inr (λ h. none (h.1, h.3.1.1.1.0))
        | inl p ↦ heads v.0 p.0 a.0 a.1 v.1 p.1 (tell_may_head d v.0 p.0 a.0)
      ]
    ]
  ]

-- ---- a closing line

abbrev ClosingIn : Data → Type 0
ClosingIn d = (goals : ℕ) × Says d (Closing goals)

module _ (d : Data) where
  tell_ending : Told (get (codes "closing") d ≡ Some (text (codes "envy-free")))
  tell_ending = elim (tell_text (get (codes "closing") d)) [
    | inr none ↦ inr (λ e. none (codes "envy-free", e))
    | inl t ↦ tell_like (λ e. t.1 ∙ ap (λ (s : List ℕ). Some (text s)) e) (λ e. text_same (get (codes "closing") d) t.0 (codes "envy-free") t.1 e) (tell_same t.0 (codes "envy-free"))
  ]

  closes : (goals : ℕ) → get (codes "goals") d ≡ Some (whole goals) → Told ((key_count d ≡ Some 2) × ((get (codes "closing") d ≡ Some (text (codes "envy-free"))) × (goals < 2 ^ 64))) → Told (ClosingIn d)
  closes goals e (inl m) = inl (goals, (m.0, (m.1.0, (e, tt)), m.1.1))
  closes goals e (inr none) = inr (λ h. none (h.1.0, (h.1.1.0, subst (λ (n : ℕ). n < 2 ^ 64) (whole_same (get (codes "goals") d) h.0 goals h.1.1.1.0 e) h.1.2)))

  tell_closing : Told (ClosingIn d)
  tell_closing = elim (tell_whole (get (codes "goals") d)) [
    | inr none ↦ inr (λ h. none (h.0, h.1.1.1.0))
    | inl n ↦ closes n.0 n.1 (tell_both (tell_count (key_count d) 2) (tell_both tell_ending (tell_below n.0 (2 ^ 64))))
  ]

-- ---- multipliers

abbrev IsNumber : List ℕ → ℤ → Type 0
IsNumber s z = Fits z × (s ≡ signed_decimal z)

-- what is below the bound, whatever its sign
tell_number : (s : List ℕ) (bound : ℕ) → ((n : ℕ) → Fits (pos n) → n < bound) → ((n : ℕ) → Fits (negsuc n) → n < bound) → Told ((z : ℤ) × IsNumber s z)
tell_number s bound above below = elim (tell_some (λ n. IsNumber s (pos n)) (λ n. tell_both (tell_fits (pos n)) (tell_same s (signed_decimal (pos n)))) bound) [
  | inl h ↦ inl (pos h.0, h.2)
  | inr none ↦ elim (tell_some (λ n. IsNumber s (negsuc n)) (λ n. tell_both (tell_fits (negsuc n)) (tell_same s (signed_decimal (negsuc n)))) bound) [
    | inl h ↦ inl (negsuc h.0, h.2)
    | inr neg ↦ inr (λ h. neither none neg h.0 h.1)
  ]
]
  where
    neither : ((k : ℕ) × (k < bound) × IsNumber s (pos k) → ⊥) → ((k : ℕ) × (k < bound) × IsNumber s (negsuc k) → ⊥) → (z : ℤ) → IsNumber s z → ⊥
    neither none neg (pos n) h = none (n, above n h.0, h)
    neither none neg (negsuc n) h = neg (n, below n h.0, h)

tell_signed : (d : Data) → Told ((z : ℤ) × (Fits z × (d ≡ signed z)))
tell_signed null = inr (λ h. let e = h.1.1 in cc)
tell_signed (boolean b) = inr (λ h. let e = h.1.1 in cc)
tell_signed (number n) = inr (λ h. let e = h.1.1 in cc)
tell_signed (array ds) = inr (λ h. let e = h.1.1 in cc)
tell_signed (object ms) = inr (λ h. let e = h.1.1 in cc)
tell_signed (string s) =
    tell_like (λ (h : (z : ℤ) × IsNumber s z). (h.0, (h.1.0, ap text h.1.1))) (λ h. (h.0, (h.1.0, (let e : text s ≡ text (signed_decimal h.0) = h.1.1 in let f : s ≡ signed_decimal h.0 = cc in f))))
    (tell_number s (2 ^ 127) (λ n f. omega (arith, f)) (λ n f. omega (arith, f)))

abbrev NumbersIn : Items → Type 0
NumbersIn ds = (zs : List ℤ) × (All Fits zs × (ds ≡ items_of (map signed zs)))

tell_numbers : (ds : Items) → Told (NumbersIn ds)
tell_numbers no_items = inl ([], (All-nil Fits, refl))
tell_numbers (item d ds) = elim (tell_signed d) [
  | inr none ↦ inr (λ h. no_first none h.0 h.1.0 h.1.1)
  | inl z ↦ elim (tell_numbers ds) [
    | inr none ↦ inr (λ h. no_later none h.0 h.1.0 h.1.1)
    | inl zs ↦ inl (z.0 ∷ zs.0, (All-cons Fits z.0 zs.0 z.1.0 zs.1.0, λ i. item (z.1.1 i) (zs.1.1 i)))
  ]
]
  where
    no_first : ((z : ℤ) × (Fits z × (d ≡ signed z)) → ⊥) → (zs : List ℤ) → All Fits zs → item d ds ≡ items_of (map signed zs) → ⊥
    no_first none [] f e = cc
    no_first none (z ∷ zs) f e = let same : d ≡ signed z = cc in none (z, (f 0 z (omega arith), same))

    no_later : (NumbersIn ds → ⊥) → (zs : List ℤ) → All Fits zs → item d ds ≡ items_of (map signed zs) → ⊥
    no_later none [] f e = cc
    no_later none (z ∷ zs) f e = let same : ds ≡ items_of (map signed zs) = cc in none (zs, (λ k x lt. f (suc k) x (omega (arith, lt)), same))

-- ---- a goal's line

abbrev RefutationIn : Data → Type 0
RefutationIn d = (goal : ℕ) × (multipliers : List ℤ) × Says d (Refutation goal multipliers)

tell_array : (o : Option Data) → Told ((ds : Items) × (o ≡ Some (array ds)))
tell_array None = inr (λ h. let e = h.1 in cc)
tell_array (Some null) = inr (λ h. let e = h.1 in cc)
tell_array (Some (boolean b)) = inr (λ h. let e = h.1 in cc)
tell_array (Some (number n)) = inr (λ h. let e = h.1 in cc)
tell_array (Some (string s)) = inr (λ h. let e = h.1 in cc)
tell_array (Some (array ds)) = inl (ds, refl)
tell_array (Some (object ms)) = inr (λ h. let e = h.1 in cc)

array_same : (o : Option Data) (xs ys : Items) → o ≡ Some (array xs) → o ≡ Some (array ys) → xs ≡ ys
array_same o xs ys e f = let same : Some (array xs) ≡ Some (array ys) = sym e ∙ f in cc

module _ (d : Data) where
  refutes : (goal : ℕ) (zs : List ℤ) → get (codes "goal") d ≡ Some (whole goal) → get (codes "multipliers") d ≡ Some (list_of signed zs) → All Fits zs → Told ((key_count d ≡ Some 2) × (goal < 2 ^ 64)) → Told (RefutationIn d)
  refutes goal zs e g f (inl m) = inl (goal, zs, (m.0, (e, (g, tt)), (m.1, f)))
  refutes goal zs e g f (inr none) = inr (λ h. none (h.2.0, subst (λ (n : ℕ). n < 2 ^ 64) (whole_same (get (codes "goal") d) h.0 goal h.2.1.0 e) h.2.2.0))

  multiplied : (goal : ℕ) (ds : Items) → get (codes "goal") d ≡ Some (whole goal) → get (codes "multipliers") d ≡ Some (array ds) → Told (NumbersIn ds) → Told (RefutationIn d)
  multiplied goal ds e g (inl zs) =
      refutes goal zs.0 e (g ∙ ap (λ (xs : Items). Some (array xs)) zs.1.1) zs.1.0 (tell_both (tell_count (key_count d) 2) (tell_below goal (2 ^ 64)))
  multiplied goal ds e g (inr none) =
      inr (λ h. none (h.1, (h.2.2.1, array_same (get (codes "multipliers") d) ds (items_of (map signed h.1)) g h.2.1.1.0)))

  tell_refutation : Told (RefutationIn d)
  tell_refutation = elim (tell_whole (get (codes "goal") d)) [
    | inr none ↦ inr (λ h. none (h.0, h.2.1.0))
    | inl n ↦ elim (tell_array (get (codes "multipliers") d)) [
      | inr none ↦ inr (λ h. none (items_of (map signed h.1), h.2.1.1.0))
      | inl ds ↦ multiplied n.0 ds.0 n.1 ds.1 (tell_numbers ds.0)
    ]
  ]

-- ---- a line for the goals that follow some choices

abbrev CoverIn : Data → Type 0
CoverIn d = (goal : ℕ) × (passed : ℕ) × (multipliers : List ℤ) × Says d (Cover goal passed multipliers)

abbrev MayCover : Data → (goal passed : ℕ) → Type 0
MayCover d goal passed = (key_count d ≡ Some 3) × ((goal < 2 ^ 64) × (passed < 2 ^ 32))

module _ (d : Data) where
  covers : (goal passed : ℕ) (zs : List ℤ) → get (codes "cover") d ≡ Some (whole passed) → get (codes "goal") d ≡ Some (whole goal) → get (codes "multipliers") d ≡ Some (list_of signed zs) → All Fits zs → Told (MayCover d goal passed) → Told (CoverIn d)
  covers goal passed zs c e g f (inl m) = inl (goal, passed, zs, (m.0, (c, (e, (g, tt))), (m.1.0, m.1.1, f)))
  covers goal passed zs c e g f (inr none) = inr (λ h.
      let same_goal = whole_same (get (codes "goal") d) h.0 goal h.3.1.1.0 e in
      let same_passed = whole_same (get (codes "cover") d) h.1 passed h.3.1.0 c in
      none (h.3.0, (subst (λ (n : ℕ). n < 2 ^ 64) same_goal h.3.2.0, subst (λ (n : ℕ). n < 2 ^ 32) same_passed h.3.2.1)))

  covers_with : (goal passed : ℕ) (ds : Items) → get (codes "cover") d ≡ Some (whole passed) → get (codes "goal") d ≡ Some (whole goal) → get (codes "multipliers") d ≡ Some (array ds) → Told (NumbersIn ds) → Told (CoverIn d)
  covers_with goal passed ds c e g (inl zs) =
      covers goal passed zs.0 c e (g ∙ ap (λ (xs : Items). Some (array xs)) zs.1.1) zs.1.0 (tell_both (tell_count (key_count d) 3) (tell_both (tell_below goal (2 ^ 64)) (tell_below passed (2 ^ 32))))
  covers_with goal passed ds c e g (inr none) =
      inr (λ h. none (h.2, (h.3.2.2, array_same (get (codes "multipliers") d) ds (items_of (map signed h.2)) g h.3.1.1.1.0)))

  tell_cover : Told (CoverIn d)
  tell_cover = elim (tell_whole (get (codes "cover") d)) [
    | inr none ↦ inr (λ h. none (h.1, h.3.1.0))
    | inl k ↦ elim (tell_whole (get (codes "goal") d)) [
      | inr none ↦ inr (λ h. none (h.0, h.3.1.1.0))
      | inl n ↦ elim (tell_array (get (codes "multipliers") d)) [
        | inr none ↦ inr (λ h. none (items_of (map signed h.2), h.3.1.1.1.0))
        | inl ds ↦ covers_with n.0 k.0 ds.0 k.1 n.1 ds.1 (tell_numbers ds.0)
      ]
    ]
  ]

-- ---- a line

no_line : (d : Data) → (HeaderIn d → ⊥) → (RefutationIn d → ⊥) → (CoverIn d → ⊥) → (ClosingIn d → ⊥) → (l : Line) → Says d l → ⊥
no_line d h r v c (Header version protocol agents) s = h (version, protocol, agents, s)
no_line d h r v c (Refutation goal multipliers) s = r (goal, multipliers, s)
no_line d h r v c (Cover goal passed multipliers) s = v (goal, passed, multipliers, s)
no_line d h r v c (Closing goals) s = c (goals, s)

tell_said : (d : Data) → Told ((l : Line) × Says d l)
tell_said d = elim (tell_header d) [
  | inl h ↦ inl (Header h.0 h.1 h.2, h.3)
  | inr h ↦ elim (tell_refutation d) [
    | inl r ↦ inl (Refutation r.0 r.1, r.2)
    | inr r ↦ elim (tell_cover d) [
      | inl v ↦ inl (Cover v.0 v.1 v.2, v.3)
      | inr v ↦ elim (tell_closing d) [
        | inl c ↦ inl (Closing c.0, c.1)
        | inr c ↦ inr (λ s. no_line d h r v c s.0 s.1)
      ]
    ]
  ]
]

-- the bytes are a line, or none
pub tell_line : (bytes : List ℕ) → Told ((l : Line) × IsLine bytes l)
tell_line bytes = by (json_of bytes) refl
  where
    by : (o : Option Data) → json_of bytes ≡ o → Told ((l : Line) × IsLine bytes l)
    by None e = inr (λ h. let f : None ≡ Some h.1.0 = sym e ∙ h.1.1 in cc)
    by (Some d) e = elim (tell_said d) [
      | inl s ↦ inl (s.0, (d, e, s.1))
      | inr none ↦ inr (λ h. let f : Some d ≡ Some h.1.0 = sym e ∙ h.1.1 in let same : h.1.0 ≡ d = cc in none (h.0, subst (λ (x : Data). Says x h.0) same h.1.2))
    ]
