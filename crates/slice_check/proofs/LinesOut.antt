-- Lines that are out, one after another.
use Rattle.std.proofs.Common.{◌≡◌, ◌∙◌, ℕ, suc, ◌+◌, arith, refl, sym, ap, subst, List, [], ◌∷◌, ◌++◌, length, take, map, Option, Some, None, append_assoc, append-nil}
use Rattle.std.proofs.lemmas.List.{length-append}
use Rattle.slice_num.specs.Pieces.{joined}
use Rattle.slice_io.specs.Told.{appended, appended-append, FrontIsOut}
use Rattle.slice_core.specs.Tree.{Core}
use Rattle.slice_cert.specs.declared.line.Line.{Line}
use Rattle.slice_cert.specs.declared.line.Line.TheVariants.{Header}
use Rattle.slice_cert.specs.CertLines.{line_text}
use Rattle.slice_check.specs.Upgrades.{AreOut, texts_of}

joined_more : (ls : List (List ℕ)) (l : List ℕ) → joined (ls ++ l ∷ []) ≡ joined ls ++ l
joined_more [] l = append-nil l
joined_more (x ∷ ls) l = ap (λ ys. x ++ ys) (joined_more ls l) ∙ sym (append_assoc x (joined ls) l)

pub nothing_out : (old : Option (List ℕ)) → AreOut old old []
nothing_out None = refl
nothing_out (Some xs) = ap Some (sym (append-nil xs))

pub one_out : (old new : Option (List ℕ)) (l : List ℕ) → new ≡ appended old l → AreOut old new (l ∷ [])
one_out old new l e = e ∙ ap (appended old) (sym (append-nil l))

pub one_more_out : (old now new : Option (List ℕ)) (ls : List (List ℕ)) (l : List ℕ) → AreOut old now ls → new ≡ appended now l → AreOut old new (ls ++ l ∷ [])
one_more_out old now new ls l out e =
    e ∙ (ap (λ (o : Option (List ℕ)). appended o l) out ∙ (appended-append old (joined ls) l ∙ ap (appended old) (sym (joined_more ls l))))

take_past : (xs ys : List ℕ) (n : ℕ) → take (length xs + n) (xs ++ ys) ≡ xs ++ take n ys
take_past [] ys n = let e : length {A = ℕ} [] + n ≡ n = omega arith in ap (λ (k : ℕ). take k ys) e
take_past (x ∷ xs) ys n = let e : length (x ∷ xs) + n ≡ suc (length xs + n) = omega arith in ap (λ (k : ℕ). take k (x ∷ (xs ++ ys))) e ∙ ap (λ us. x ∷ us) (take_past xs ys n)

pub front_out : (old now new : Option (List ℕ)) (ls : List (List ℕ)) (l : List ℕ) → AreOut old now ls → FrontIsOut now new l → FrontIsOut old new (joined (ls ++ l ∷ []))
front_out old now new ls l out f =
    let same = joined_more ls l in
    record {
      count = length (joined ls) + f.count;
      within = let e = ap length same in let g = length-append (joined ls) l in let w = f.within in omega (arith, e, g, w);
      out =
          f.out
          ∙ (ap (λ (o : Option (List ℕ)). appended o (take f.count l)) out
          ∙ (appended-append old (joined ls) (take f.count l)
          ∙ ap (appended old) (sym (take_past (joined ls) l f.count) ∙ ap (take (length (joined ls) + f.count)) (sym same))));
    }

pub map-append : (ls ks : List Line) → map line_text (ls ++ ks) ≡ map line_text ls ++ map line_text ks
map-append [] ks = refl
map-append (l ∷ ls) ks = ap (λ ts. line_text l ∷ ts) (map-append ls ks)

-- ---- a line more
pub line_out : (old now new : Option (List ℕ)) (ls : List Line) (l : Line) → AreOut old now (map line_text ls) → new ≡ appended now (line_text l) → AreOut old new (map line_text (ls ++ l ∷ []))
line_out old now new ls l out e = subst (AreOut old new) (sym (map-append ls (l ∷ []))) (one_more_out old now new (map line_text ls) (line_text l) out e)

pub front_of_line_out : (old now new : Option (List ℕ)) (ls : List Line) (l : Line) → AreOut old now (map line_text ls) → FrontIsOut now new (line_text l) → FrontIsOut old new (joined (map line_text (ls ++ l ∷ [])))
front_of_line_out old now new ls l out f =
    subst (λ (ts : List (List ℕ)). FrontIsOut old new (joined ts)) (sym (map-append ls (l ∷ []))) (front_out old now new (map line_text ls) (line_text l) out f)

-- ---- behind a first line
pub more_out : (old now new : Option (List ℕ)) (l : List ℕ) (ls : List (List ℕ)) → now ≡ appended old l → AreOut now new ls → AreOut old new (l ∷ ls)
more_out old now new l ls first out = out ∙ (ap (λ (o : Option (List ℕ)). appended o (joined ls)) first ∙ appended-append old l (joined ls))

pub front_behind : (old now new : Option (List ℕ)) (xs ys : List ℕ) → now ≡ appended old xs → FrontIsOut now new ys → FrontIsOut old new (xs ++ ys)
front_behind old now new xs ys first f = record {
  count = length xs + f.count;
  within = let g = length-append xs ys in let w = f.within in omega (arith, g, w);
  out =
      f.out
      ∙ (ap (λ (o : Option (List ℕ)). appended o (take f.count ys)) first
      ∙ (appended-append old xs (take f.count ys) ∙ ap (appended old) (sym (take_past xs ys f.count))));
}

-- ---- the texts with the header
pub texts_more : (core : Core) (ls : List Line) (l : Line) → texts_of core (ls ++ l ∷ []) ≡ texts_of core ls ++ line_text l ∷ []
texts_more core ls l = map-append (Header 2 core.name core.agents ∷ ls) (l ∷ [])
