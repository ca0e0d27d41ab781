-- What the check of names and pieces keeps of them, and what expansion needs to know.
use Rattle.std.proofs.Common.{◌≡◌, ◌∙◌, ℕ, zero, suc, ◌+◌, ◌-◌, ◌≤◌, ◌++◌, List, [], ◌∷◌, length, drop, map, Bool, true, false, ◌&&◌, ◌||◌, ◌==◌, ◌⊎◌, inl, inr, cond, Option, Some, None, arith, refl, ap, sym, subst, append-nil, append_assoc, bytes_eq}
use Rattle.std.specs.Prelude.{if◌then◌else◌, ⊤}
use Rattle.std.proofs.lemmas.Slice.Eq.{bytes_eq-Decides}
use Rattle.std.proofs.lemmas.List.{length-drop, drop-drop}
use Rattle.std.proofs.lemmas.Bool.Decides.{nat_tests}
use Rattle.slice_num.specs.Name.{is_among}
use Rattle.slice_ast.specs.declared.tree.Kind.{Kind}
use Rattle.slice_ast.specs.declared.tree.Kind.TheVariants as kind
use Rattle.slice_ast.specs.declared.tree.Name.{Name}
use Rattle.slice_affine.specs.Scope.{Scope, Binding, look, entry}
use Rattle.slice_affine.proofs.Scan.{Used, noted}
use Rattle.slice_affine.specs.Pass.{lesser}
use Rattle.slice_affine.specs.Ways.{Event}
use Rattle.slice_affine.specs.Looks.{rebound}
use Rattle.slice_affine.specs.declared.fault.AffineFault.TheVariants.{Rebound}
use Rattle.slice_expand.proofs.Clean.{Sort, AgentSort, NumberSort, Unused, Spent, Sorted, Sorts, sort_at, spend, sorted, kind_sort}

-- ---- bytes
pub eq_is : (a b : List ℕ) → bytes_eq a b ≡ true → a ≡ b
eq_is a b h = (bytes_eq-Decides a b).0 h

pub is_eq : (a b : List ℕ) → a ≡ b → bytes_eq a b ≡ true
is_eq a b h = (bytes_eq-Decides a b).1 h

pub not_both : {A : Type 0} (b : Bool) → b ≡ true → b ≡ false → A
not_both b h k = let e : true ≡ false = sym h ∙ k in absurd cc

pub turned : (a b : List ℕ) → bytes_eq a b ≡ false → bytes_eq b a ≡ false
turned a b h = by (bytes_eq b a) refl
  where
    by : (x : Bool) → bytes_eq b a ≡ x → x ≡ false
    by true e = not_both (bytes_eq a b) (is_eq a b (sym (eq_is b a e))) h
    by false e = refl

-- ---- what a name stands for, after more were bound
pub look_here : (scope : Scope Binding) (w : List ℕ) (m : Kind × Binding) → look scope w ≡ None → look (scope ++ (w, m) ∷ []) w ≡ Some m
look_here [] w m h = ap (λ b. cond b (Some m) None) (is_eq w w refl)
look_here (e ∷ scope) w m h = by (bytes_eq w e.0) h (look_here scope w m)
  where
    by : (b : Bool) → cond b (Some e.1) (look scope w) ≡ None → (look scope w ≡ None → look (scope ++ (w, m) ∷ []) w ≡ Some m) → cond b (Some e.1) (look (scope ++ (w, m) ∷ []) w) ≡ Some m
    by true k f = let bad : Some e.1 ≡ None = k in absurd cc
    by false k f = f k

pub look_other : (scope : Scope Binding) (w : List ℕ) (m : Kind × Binding) (word : List ℕ) → bytes_eq word w ≡ false → look (scope ++ (w, m) ∷ []) word ≡ look scope word
look_other [] w m word h = ap (λ b. cond b (Some m) None) h
look_other (e ∷ scope) w m word h = ap (λ r. cond (bytes_eq word e.0) (Some e.1) r) (look_other scope w m word h)

pub look_old : (scope more : Scope Binding) (word : List ℕ) (m : Kind × Binding) → look scope word ≡ Some m → look (scope ++ more) word ≡ Some m
look_old [] more word m h = let bad : None ≡ Some m = h in absurd cc
look_old (e ∷ scope) more word m h = by (bytes_eq word e.0) h (look_old scope more word m)
  where
    by : (b : Bool) → cond b (Some e.1) (look scope word) ≡ Some m → (look scope word ≡ Some m → look (scope ++ more) word ≡ Some m) → cond b (Some e.1) (look (scope ++ more) word) ≡ Some m
    by true k f = k
    by false k f = f k

-- ---- uses
pub lesser_none : (p q : Option ℕ) → lesser p q ≡ None → (p ≡ None) × (q ≡ None)
lesser_none None q h = (refl, h)
lesser_none (Some p) None h = let bad : Some p ≡ None = h in absurd cc
lesser_none (Some p) (Some q) h = absurd cc

-- what is unused later was unused before
abbrev pub IsLater : Used → Used → Type 0
IsLater us vs = (k : Binding) → vs k ≡ None → us k ≡ None

pub noted_later : (us : Used) (e : Event) → IsLater us (noted us e)
noted_later us e k h = by (e.is_use && (e.piece == k)) h
  where
    by : (b : Bool) → (if b then lesser (us k) (Some e.name.at) else us k) ≡ None → us k ≡ None
    by true g = (lesser_none (us k) (Some e.name.at) g).0
    by false g = g

-- ---- sorts
abbrev pub IsSort : Used → Option (Kind × Binding) → Sort → Type 0
IsSort us None s = ⊤
IsSort us (Some (kind.Agent, b)) s = s ≡ AgentSort
IsSort us (Some (kind.Number, b)) s = s ≡ NumberSort
IsSort us (Some (kind.Piece, b)) s = us b ≡ None → s ≡ Unused

-- what is known of each word in scope
abbrev pub Agrees : Scope Binding → Used → Sorts → Type 0
Agrees scope us ss = (word : List ℕ) → IsSort us (look scope word) (sort_at ss word)

later_sort : (us vs : Used) → IsLater us vs → (o : Option (Kind × Binding)) (s : Sort) → IsSort us o s → IsSort vs o s
later_sort us vs l None s h = tt
later_sort us vs l (Some (kind.Agent, b)) s h = h
later_sort us vs l (Some (kind.Number, b)) s h = h
later_sort us vs l (Some (kind.Piece, b)) s h = λ e. h (l b e)

pub agrees_later : (scope : Scope Binding) (us vs : Used) (ss : Sorts) → IsLater us vs → Agrees scope us ss → Agrees scope vs ss
agrees_later scope us vs ss l a word = later_sort us vs l (look scope word) (sort_at ss word) (a word)

spend_other : (ss : Sorts) (x word : List ℕ) → bytes_eq x word ≡ false → sort_at (spend ss x) word ≡ sort_at ss word
spend_other [] x word h = refl
spend_other (s ∷ ss) x word h = by (spend_other ss x word h) (bytes_eq s.word x) refl
  where
    by : sort_at (spend ss x) word ≡ sort_at ss word → (b : Bool) → bytes_eq s.word x ≡ b → sort_at (if b then record { word = s.word; sort = Spent } ∷ ss else s ∷ spend ss x) word ≡ sort_at (s ∷ ss) word
    by rest true e =
        let f : bytes_eq s.word word ≡ false = ap (λ w. bytes_eq w word) (eq_is s.word x e) ∙ h in
        ap (λ c. if c then Spent else sort_at ss word) f ∙ sym (ap (λ c. if c then s.sort else sort_at ss word) f)
    by rest false e = ap (λ r. if bytes_eq s.word word then s.sort else r) rest

-- the event of a use
abbrev pub use_of : Binding → Name → Event
use_of b x = record { is_use = true; piece = b; name = x }

-- the word stands for that piece, or for nothing
abbrev pub StandsAt : Scope Binding → Name → Binding → Type 0
StandsAt scope x b = (look scope x.word ≡ None) ⊎ (look scope x.word ≡ Some (kind.Piece, b))

used_there : (us : Used) (b : Binding) (x : Name) → noted us (use_of b x) b ≡ None → us b ≡ None → (A : Type 0) → A
used_there us b x h k A = by (b == b) (same b) h
  where
    same : (n : ℕ) → (n == n) ≡ true
    same n = grind (arith, nat_tests)

    by : (c : Bool) → c ≡ true → (if c then lesser (us b) (Some x.at) else us b) ≡ None → A
    by true e g = let bad : Some x.at ≡ None = (lesser_none (us b) (Some x.at) g).1 in absurd cc
    by false e g = not_both false e refl

pub agrees_spend : (scope : Scope Binding) (us : Used) (ss : Sorts) (x : Name) (b : Binding) → StandsAt scope x b → Agrees scope us ss → Agrees scope (noted us (use_of b x)) (spend ss x.word)
agrees_spend scope us ss x b at a word = by (bytes_eq x.word word) refl
  where
    vs : Used
    vs = noted us (use_of b x)

    here : StandsAt scope x b → IsSort vs (look scope x.word) (sort_at (spend ss x.word) x.word)
    here (inl e) = subst (λ o. IsSort vs o (sort_at (spend ss x.word) x.word)) (sym e) tt
    here (inr e) = subst (λ o. IsSort vs o (sort_at (spend ss x.word) x.word)) (sym e) (λ h. used_there us b x h (noted_later us (use_of b x) b h) _)

    by : (c : Bool) → bytes_eq x.word word ≡ c → IsSort vs (look scope word) (sort_at (spend ss x.word) word)
    by true e = subst (λ w. IsSort vs (look scope w) (sort_at (spend ss x.word) w)) (eq_is x.word word e) (here at)
    by false e = subst (λ s. IsSort vs (look scope word) s) (sym (spend_other ss x.word word e)) (later_sort us vs (noted_later us (use_of b x)) (look scope word) (sort_at ss word) (a word))

pub agrees_more : (scope : Scope Binding) (us : Used) (ss : Sorts) (x : Name) (k : Kind) (s : Sort) → IsSort us (Some (k, suc x.at)) s → look scope x.word ≡ None
    → Agrees scope us ss → Agrees (scope ++ entry k x ∷ []) us (sorted x s ss)
agrees_more scope us ss x k s is new a word = by (bytes_eq x.word word) refl
  where
    by : (c : Bool) → bytes_eq x.word word ≡ c → IsSort us (look (scope ++ entry k x ∷ []) word) (if c then s else sort_at ss word)
    by true e =
        let same : word ≡ x.word = sym (eq_is x.word word e) in
        subst (λ o. IsSort us o s) (sym (ap (look (scope ++ entry k x ∷ [])) same ∙ look_here scope x.word (k, suc x.at) new)) is
    by false e = subst (λ o. IsSort us o (sort_at ss word)) (sym (look_other scope x.word (k, suc x.at) word (turned x.word word e))) (a word)

-- ---- new names
-- a word that isn't among these isn't in scope
abbrev pub AreKeys : List (List ℕ) → Scope Binding → Type 0
AreKeys words scope = (word : List ℕ) → is_among word words ≡ false → look scope word ≡ None

or_false : (a b : Bool) → (a || b) ≡ false → (a ≡ false) × (b ≡ false)
or_false false b h = (refl, h)
or_false true b h = not_both true refl h

pub keys_more : (words : List (List ℕ)) (scope : Scope Binding) (k : Kind) (x : Name) → AreKeys words scope → AreKeys (x.word ∷ words) (scope ++ entry k x ∷ [])
keys_more words scope k x a word h = let both = or_false (bytes_eq word x.word) (is_among word words) h in look_other scope x.word (k, suc x.at) word both.0 ∙ a word both.1

pub keys_self : (scope : Scope Binding) → AreKeys (map (λ e. e.0) scope) scope
keys_self [] word h = refl
keys_self (e ∷ scope) word h =
    let both = or_false (bytes_eq word e.0) (is_among word (map (λ x. x.0) scope)) h in
    ap (λ b. cond b (Some e.1) (look scope word)) both.0 ∙ keys_self scope word both.1

-- names that are bound, each by its kind
abbrev pub entries : List (Kind × Name) → Scope Binding
entries [] = []
entries (e ∷ es) = entry e.0 e.1 ∷ entries es

abbrev pub sorts_in : List (Kind × Name) → Sorts → Sorts
sorts_in [] ss = ss
sorts_in (e ∷ es) ss = sorts_in es (sorted e.1 (kind_sort e.0) ss)

abbrev pub names_in : List (Kind × Name) → List Name
names_in [] = []
names_in (e ∷ es) = e.1 ∷ names_in es

kind_is : (us : Used) (k : Kind) (b : Binding) → IsSort us (Some (k, b)) (kind_sort k)
kind_is us kind.Agent b = refl
kind_is us kind.Piece b = λ h. refl
kind_is us kind.Number b = refl

first_new : (words : List (List ℕ)) (x : Name) (xs : List Name) → rebound words (x ∷ xs) ≡ [] → (is_among x.word words ≡ false) × (rebound (x.word ∷ words) xs ≡ [])
first_new words x xs h = by (is_among x.word words) refl h
  where
    by : (b : Bool) → is_among x.word words ≡ b → ((if b then Rebound x.word x.at ∷ [] else []) ++ rebound (x.word ∷ words) xs) ≡ [] → (b ≡ false) × (rebound (x.word ∷ words) xs ≡ [])
    by true e g = absurd cc
    by false e g = (refl, g)

pub agrees_entries : (es : List (Kind × Name)) (words : List (List ℕ)) (scope : Scope Binding) (us : Used) (ss : Sorts) → AreKeys words scope → rebound words (names_in es) ≡ []
    → Agrees scope us ss → Agrees (scope ++ entries es) us (sorts_in es ss)
agrees_entries [] words scope us ss keys new a = subst (λ s. Agrees s us ss) (sym (append-nil scope)) a
agrees_entries (e ∷ es) words scope us ss keys new a =
    let first = first_new words e.1 (names_in es) new in
    subst (λ s. Agrees s us (sorts_in (e ∷ es) ss)) (append_assoc scope (entry e.0 e.1 ∷ []) (entries es))
    (agrees_entries es (e.1.word ∷ words) (scope ++ entry e.0 e.1 ∷ []) us (sorted e.1 (kind_sort e.0) ss) (keys_more words scope e.0 e.1 keys) first.1
    (agrees_more scope us ss e.1 e.0 (kind_sort e.0) (kind_is us e.0 (suc e.1.at)) (keys e.1.word first.0) a))

-- ---- a block in a block: what is known of the names around it
pub record Over (base : Scope Binding) (n : ℕ) (scope : Scope Binding) (us : Used) (ss : Sorts) : Type 0 where
  pub more : Scope Binding
  pub is : scope ≡ base ++ more
  pub long : n ≤ length ss
  pub agrees : Agrees base us (drop (length ss - n) ss)

abbrev pub Reaches : Scope Binding → Used → Sorts → Scope Binding → Used → Sorts → Type 0
Reaches scope us ss scope' us' ss' = (base : Scope Binding) (n : ℕ) → Over base n scope us ss → Over base n scope' us' ss'

no_front : (ss : Sorts) → drop (length ss - length ss) ss ≡ ss
no_front ss = ap (λ n. drop n ss) (let z : length ss - length ss ≡ 0 = omega arith in z)

pub over_self : (scope : Scope Binding) (us : Used) (ss : Sorts) → Agrees scope us ss → Over scope (length ss) scope us ss
over_self scope us ss a = record { more = []; is = sym (append-nil scope); long = omega arith; agrees = subst (Agrees scope us) (sym (no_front ss)) a }

spend_length : (ss : Sorts) (x : List ℕ) → length (spend ss x) ≡ length ss
spend_length [] x = refl
spend_length (s ∷ ss) x = by (spend_length ss x) (bytes_eq s.word x)
  where
    by : length (spend ss x) ≡ length ss → (b : Bool) → length (if b then record { word = s.word; sort = Spent } ∷ ss else s ∷ spend ss x) ≡ suc (length ss)
    by rest true = refl
    by rest false = ap suc rest

spend_drop : (k : ℕ) (ss : Sorts) (x : List ℕ) → (drop k (spend ss x) ≡ drop k ss) ⊎ (drop k (spend ss x) ≡ spend (drop k ss) x)
spend_drop zero ss x = inr refl
spend_drop (suc k) [] x = inl refl
spend_drop (suc k) (s ∷ ss) x = by (spend_drop k ss x) (bytes_eq s.word x)
  where
    by : ((drop k (spend ss x) ≡ drop k ss) ⊎ (drop k (spend ss x) ≡ spend (drop k ss) x)) → (b : Bool) → (drop (suc k) (if b then record { word = s.word; sort = Spent } ∷ ss else s ∷ spend ss x) ≡ drop k ss) ⊎ (drop (suc k) (if b then record { word = s.word; sort = Spent } ∷ ss else s ∷ spend ss x) ≡ spend (drop k ss) x)
    by rest true = inl refl
    by rest false = rest

-- what a name around the block stands for, it stands for in it
stands_out : (base more : Scope Binding) (x : Name) (b : Binding) → look (base ++ more) x.word ≡ Some (kind.Piece, b) → StandsAt base x b
stands_out base more x b h = by (look base x.word) refl
  where
    by : (o : Option (Kind × Binding)) → look base x.word ≡ o → StandsAt base x b
    by None e = inl e
    by (Some m) e = inr (e ∙ sym (look_old base more x.word m e) ∙ h)

pub over_spend : (base : Scope Binding) (n : ℕ) (scope : Scope Binding) (us : Used) (ss : Sorts) (x : Name) (b : Binding) → look scope x.word ≡ Some (kind.Piece, b)
    → Over base n scope us ss → Over base n scope (noted us (use_of b x)) (spend ss x.word)
over_spend base n scope us ss x b at o = record {
  more = o.more;
  is = o.is;
  long = let l = o.long in omega (arith, l, spend_length ss x.word);
  agrees = subst (λ m. Agrees base (noted us (use_of b x)) (drop (m - n) (spend ss x.word))) (sym (spend_length ss x.word)) (by (spend_drop (length ss - n) ss x.word));
}
  where
    k : ℕ
    k = length ss - n

    by : (drop k (spend ss x.word) ≡ drop k ss) ⊎ (drop k (spend ss x.word) ≡ spend (drop k ss) x.word) → Agrees base (noted us (use_of b x)) (drop k (spend ss x.word))
    by (inl e) = subst (Agrees base (noted us (use_of b x))) (sym e) (agrees_later base us (noted us (use_of b x)) (drop k ss) (noted_later us (use_of b x)) o.agrees)
    by (inr e) = subst (Agrees base (noted us (use_of b x))) (sym e)
        (agrees_spend base us (drop k ss) x b (stands_out base o.more x b (ap (λ s. look s x.word) (sym o.is) ∙ at)) o.agrees)

pub over_more : (base : Scope Binding) (n : ℕ) (scope : Scope Binding) (us : Used) (ss : Sorts) (e : List ℕ × (Kind × Binding)) (s : Sorted) → Over base n scope us ss → Over base n (scope ++ e ∷ []) us (s ∷ ss)
over_more base n scope us ss e s o =
    let l = o.long in
    let back : length (s ∷ ss) - n ≡ suc (length ss - n) = omega (arith, l) in
    record {
      more = o.more ++ e ∷ [];
      is = ap (λ x. x ++ e ∷ []) o.is ∙ append_assoc base o.more (e ∷ []);
      long = omega (arith, l);
      agrees = subst (λ m. Agrees base us (drop m (s ∷ ss))) (sym back) o.agrees;
    }

pub over_entries : (es : List (Kind × Name)) (base : Scope Binding) (n : ℕ) (scope : Scope Binding) (us : Used) (ss : Sorts) → Over base n scope us ss → Over base n (scope ++ entries es) us (sorts_in es ss)
over_entries [] base n scope us ss o = subst (λ s. Over base n s us ss) (sym (append-nil scope)) o
over_entries (e ∷ es) base n scope us ss o =
    subst (λ s. Over base n s us (sorts_in (e ∷ es) ss)) (append_assoc scope (entry e.0 e.1 ∷ []) (entries es))
    (over_entries es base n (scope ++ entry e.0 e.1 ∷ []) us (sorted e.1 (kind_sort e.0) ss) (over_more base n scope us ss (entry e.0 e.1) (record { word = e.1.word; sort = kind_sort e.0 }) o))

pub over_later : (base : Scope Binding) (n : ℕ) (scope : Scope Binding) (us vs : Used) (ss : Sorts) → IsLater us vs → Over base n scope us ss → Over base n scope vs ss
over_later base n scope us vs ss l o = record { more = o.more; is = o.is; long = o.long; agrees = agrees_later base us vs (drop (length ss - n) ss) l o.agrees }

drop_twice : (a b : ℕ) (ss : Sorts) → drop a (drop b ss) ≡ drop (b + a) ss
drop_twice a b ss = drop-drop a b ss

-- after the block its names are gone
pub over_out : (base : Scope Binding) (n : ℕ) (scope scope' : Scope Binding) (us vs : Used) (ss after : Sorts) → length ss ≤ length after → Over base n scope us ss → Over base n scope' vs after
    → Over base n scope vs (drop (length after - length ss) after)
over_out base n scope scope' us vs ss after le o p =
    let l = o.long in
    let size : length (drop (length after - length ss) after) ≡ length ss = length-drop (length after - length ss) after ∙ (let e : length after - (length after - length ss) ≡ length ss = omega (arith, le) in e) in
    let sum : (length after - length ss) + (length ss - n) ≡ length after - n = omega (arith, le, l) in
    record {
      more = o.more;
      is = o.is;
      long = omega (arith, l, size);
      agrees = subst (λ m. Agrees base vs (drop (m - n) (drop (length after - length ss) after))) (sym size)
          (subst (Agrees base vs) (sym (drop_twice (length ss - n) (length after - length ss) after ∙ ap (λ m. drop m after) sum)) p.agrees);
    }
