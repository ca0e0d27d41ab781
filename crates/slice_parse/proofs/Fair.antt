-- The marks of a program that the grammar can spell: each has the text of a sound token.
use Rattle.std.proofs.Common.{◌≡◌, ℕ, Bool, true, false, List, [], ◌∷◌, ◌++◌, map, codes, Option, Some, None, refl, ap, ◌∙◌}
use Rattle.slice_ast.specs.Places.{IsPlace, AreAt}
use Rattle.slice_ast.specs.Code.{Code, End, Cut, Let, Join, Give, If, Pick, Call, PlainBlock, PlainProc, PlainProgram}
use Rattle.slice_ast.specs.Tokens.{Mark, Plain, Spelled, Digits, Final, text_of, place_of, more_listed, listed, name_marks, names_after, ref_marks, den_marks, fraction_marks, operand_marks, factor_marks, term_marks, sign, more_marks, terms_marks, sum_marks, cmp_text, arg_marks, kind_text, param_marks, yield_marks, test_marks, if_end, code_marks, open_marks, block_marks, proc_marks, procs_marks, program_marks}
use Rattle.slice_ast.specs.declared.tree.Name.{Name}
use Rattle.slice_ast.specs.declared.tree.Number.{Number}
use Rattle.slice_ast.specs.declared.tree.AgentRef.{AgentRef}
use Rattle.slice_ast.specs.declared.tree.AgentRef.TheVariants as ref
use Rattle.slice_ast.specs.declared.tree.Fraction.{Fraction}
use Rattle.slice_ast.specs.declared.tree.Operand.{Operand}
use Rattle.slice_ast.specs.declared.tree.Operand.TheVariants as operand
use Rattle.slice_ast.specs.declared.tree.Term.{Term}
use Rattle.slice_ast.specs.declared.tree.Sum.{Sum}
use Rattle.slice_ast.specs.declared.tree.Cmp.{Cmp}
use Rattle.slice_ast.specs.declared.tree.Cmp.TheVariants as cmp
use Rattle.slice_ast.specs.declared.tree.Kind.{Kind}
use Rattle.slice_ast.specs.declared.tree.Kind.TheVariants as kind
use Rattle.slice_ast.specs.declared.tree.Param.{Param}
use Rattle.slice_ast.specs.declared.tree.Arg.{Arg}
use Rattle.slice_ast.specs.declared.tree.Arg.TheVariants as arg
use Rattle.slice_parse.specs.Combinators.{Token}
use Rattle.slice_parse.specs.Lexemes.{what_text, text_of as token_text}
use Rattle.slice_ast.specs.Spellable.{Each, EachOfSome, HasName, HasDigits, CanSpellRef, CanSpellDen, CanSpellFraction, CanSpellOperand, CanSpellFactor, CanSpellTerm, CanSpellTerms, CanSpellSum, CanSpellArg, CanSpellParam, CanSpellCode, CanSpellBlock, CanSpellProc, IsSpellable}
use Rattle.slice_parse.specs.Classes.{texts_of, IsSoundWhat}
use Rattle.slice_parse.proofs.Matching.{Matches, none, also, what_of, is_at}

pub record Fair (m : Mark) : Type 0 where
  pub sound : IsSoundWhat (what_of m)
  pub text : what_text (what_of m) ≡ text_of m

abbrev pub AllFair : List Mark → Type 0
AllFair ms = Each Fair ms

pub fair_append : (ms ns : List Mark) → AllFair ms → AllFair ns → AllFair (ms ++ ns)
fair_append [] ns f g = g
fair_append (m ∷ ms) ns f g = (f.0, fair_append ms ns f.1 g)

pub fair_front : (ms ns : List Mark) → AllFair (ms ++ ns) → AllFair ms
fair_front [] ns f = tt
fair_front (m ∷ ms) ns f = (f.0, fair_front ms ns f.1)

name : (x : Name) → HasName x → Fair (Spelled x)
name x w = record { sound = w; text = refl }

number : (n : Number) → HasDigits n → Fair (Digits n)
number n w = record { sound = w; text = refl }

plus_or_minus : (b : Bool) → Fair (Plain (sign b))
plus_or_minus true = record { sound = tt; text = refl }
plus_or_minus false = record { sound = tt; text = refl }

comparison : (o : Cmp) → Fair (Plain (cmp_text o))
comparison cmp.Less = record { sound = tt; text = refl }
comparison cmp.AtMost = record { sound = tt; text = refl }
comparison cmp.More = record { sound = tt; text = refl }
comparison cmp.AtLeast = record { sound = tt; text = refl }

kind_word : (k : Kind) → Fair (Plain (kind_text k))
kind_word kind.Agent = record { sound = tt; text = refl }
kind_word kind.Piece = record { sound = tt; text = refl }
kind_word kind.Number = record { sound = tt; text = refl }

fair_more : {A : Type 0} (item : A → List Mark) (W : A → Type 0) → ((x : A) → W x → AllFair (item x)) → (xs : List A) → Each W xs → AllFair (more_listed item xs)
fair_more item W f [] w = tt
fair_more item W f (x ∷ xs) w = (record { sound = tt; text = refl }, fair_append (item x) _ (f x w.0) (fair_more item W f xs w.1))

fair_listed : {A : Type 0} (item : A → List Mark) (W : A → Type 0) → ((x : A) → W x → AllFair (item x)) → (xs : List A) → Each W xs → AllFair (listed item xs)
fair_listed item W f [] w = tt
fair_listed item W f (x ∷ xs) w = fair_append (item x) _ (f x w.0) (fair_more item W f xs w.1)

fair_names : (word : List ℕ) → Fair (Plain word) → (xs : List Name) → Each HasName xs → AllFair (names_after word xs)
fair_names word f [] w = tt
fair_names word f (x ∷ xs) w = (f, fair_listed name_marks HasName (λ y v. (name y v, tt)) (x ∷ xs) w)

fair_some : (xs : List Name) → EachOfSome HasName xs → Each HasName xs
fair_some [] w = absurd w
fair_some (x ∷ xs) w = w

fair_ref : (a : AgentRef) → CanSpellRef a → AllFair (ref_marks a)
fair_ref (ref.Fixed n) w = (number n w, tt)
fair_ref (ref.Named x) w = (name x w, tt)

fair_den : (d : Option Number) → CanSpellDen d → AllFair (den_marks d)
fair_den None w = tt
fair_den (Some d) w = (record { sound = tt; text = refl }, (number d w, tt))

fair_fraction : (f : Fraction) → CanSpellFraction f → AllFair (fraction_marks f)
fair_fraction f w = (number f.num w.0, fair_den f.den w.1)

fair_operand : (o : Operand) → CanSpellOperand o → AllFair (operand_marks o)
fair_operand (operand.Fraction f) w = fair_fraction f w
fair_operand (operand.Named x) w = (name x w, tt)
fair_operand (operand.Value a p) w =
    (record { sound = tt; text = refl }, (record { sound = tt; text = refl }, fair_append (ref_marks a) _ (fair_ref a w.0) (record { sound = tt; text = refl }, (name p w.1, (record { sound = tt; text = refl }, tt)))))

fair_factor : (f : Option Fraction) → CanSpellFactor f → AllFair (factor_marks f)
fair_factor None w = tt
fair_factor (Some f) w = fair_append (fraction_marks f) _ (fair_fraction f w) (record { sound = tt; text = refl }, tt)

fair_term : (t : Term) → CanSpellTerm t → AllFair (term_marks t)
fair_term t w = fair_append (factor_marks t.factor) _ (fair_factor t.factor w.0) (fair_operand t.operand w.1)

fair_more_terms : (ts : List Term) → Each CanSpellTerm ts → AllFair (more_marks ts)
fair_more_terms [] w = tt
fair_more_terms (t ∷ ts) w = (plus_or_minus t.minus, fair_append (term_marks t) _ (fair_term t w.0) (fair_more_terms ts w.1))

fair_terms : (ts : List Term) → CanSpellTerms ts → AllFair (terms_marks ts)
fair_terms [] w = absurd w
fair_terms (t ∷ ts) w = fair_append (term_marks t) _ (fair_term t w.1) (fair_more_terms ts w.2)

fair_sum : (s : Sum) → CanSpellSum s → AllFair (sum_marks s)
fair_sum s w = fair_terms s.terms w

fair_arg : (x : Arg) → CanSpellArg x → AllFair (arg_marks x)
fair_arg (arg.Agent a) w = (record { sound = tt; text = refl }, fair_ref a w)
fair_arg (arg.Piece p) w = (record { sound = tt; text = refl }, (name p w, tt))
fair_arg (arg.Number s) w = (record { sound = tt; text = refl }, fair_sum s w)

fair_yield : (xs : List Name) → Each HasName xs → AllFair (yield_marks xs)
fair_yield [] w = tt
fair_yield (x ∷ xs) w = fair_append (names_after (codes "yield") (x ∷ xs)) _ (fair_names (codes "yield") (record { sound = tt; text = refl }) (x ∷ xs) w) (record { sound = tt; text = refl }, tt)

fair_as : (xs : List Name) → Each HasName xs → AllFair (names_after (codes "as") xs)
fair_as xs w = fair_names (codes "as") (record { sound = tt; text = refl }) xs w

fair_if_end : (xs : List Name) (e : ℕ) → Each HasName xs → AllFair (if_end xs e)
fair_if_end [] e w = (record { sound = tt; text = refl }, tt)
fair_if_end (x ∷ xs) e w = (record { sound = tt; text = refl }, fair_append (names_after (codes "as") (x ∷ xs)) _ (fair_as (x ∷ xs) w) (record { sound = tt; text = refl }, tt))

pub fair_code : (c : Code) → CanSpellCode c → AllFair (code_marks c)
fair_code End w = tt
fair_code (Cut a p s l r rest) w = (
  record { sound = tt; text = refl },
  fair_append (ref_marks a) _ (fair_ref a w.0) (
    name p w.1,
    (
      record { sound = tt; text = refl },
      fair_append (sum_marks s) _ (fair_sum s w.2)
          (record { sound = tt; text = refl }, (name l w.3, (record { sound = tt; text = refl }, (name r w.4, (record { sound = tt; text = refl }, fair_code rest w.5))))),
    ),
  ),
)
fair_code (Let x s rest) w =
    (record { sound = tt; text = refl }, (name x w.0, (record { sound = tt; text = refl }, fair_append (sum_marks s) _ (fair_sum s w.1) (record { sound = tt; text = refl }, fair_code rest w.2))))
fair_code (Join p q x rest) w =
    (record { sound = tt; text = refl }, (name p w.0, (record { sound = tt; text = refl }, (name q w.1, (record { sound = tt; text = refl }, (name x w.2, (record { sound = tt; text = refl }, fair_code rest w.3)))))))
fair_code (Give p a rest) w =
    (record { sound = tt; text = refl }, (name p w.0, (record { sound = tt; text = refl }, fair_append (ref_marks a) _ (fair_ref a w.1) (record { sound = tt; text = refl }, fair_code rest w.2))))
fair_code (If l o r y ys n ns xs e rest) w =
    fair_append (test_marks l o r) _
    (record { sound = tt; text = refl }, fair_append (sum_marks l) _ (fair_sum l w.0) (comparison o, fair_sum r w.1)) (
      record { sound = tt; text = refl },
      fair_append (code_marks y) _ (fair_code y w.2) (fair_append (yield_marks ys) _ (fair_yield ys w.3) (
        record { sound = tt; text = refl },
        (
          record { sound = tt; text = refl },
          (
            record { sound = tt; text = refl },
            fair_append (code_marks n) _ (fair_code n w.4) (fair_append (yield_marks ns) _ (fair_yield ns w.5)
                (fair_append (if_end xs e) _ (fair_if_end xs e w.6) (fair_code rest w.7))),
          ),
        ),
      )),
    )
fair_code (Pick a ps xs e rest) w = (
  record { sound = tt; text = refl },
  fair_append (ref_marks a) _ (fair_ref a w.0) (fair_append (names_after (codes "from") ps) _ (fair_names (codes "from") (record { sound = tt; text = refl }) ps (fair_some ps w.1))
      (fair_append (names_after (codes "as") xs) _ (fair_as xs (fair_some xs w.2)) (record { sound = tt; text = refl }, fair_code rest w.3))),
)
fair_code (Call f xs ns e rest) w = (
  record { sound = tt; text = refl },
  (
    name f w.0,
    (
      record { sound = tt; text = refl },
      fair_append (listed arg_marks xs) _ (fair_listed arg_marks CanSpellArg fair_arg xs w.1)
          (record { sound = tt; text = refl }, fair_append (names_after (codes "as") ns) _ (fair_as ns w.2) (record { sound = tt; text = refl }, fair_code rest w.3)),
    ),
  ),
)

fair_param : (p : Param) → CanSpellParam p → AllFair (param_marks p)
fair_param p w = (kind_word p.kind, (name p.name w, tt))

fair_block : (b : PlainBlock) → CanSpellBlock b → AllFair (block_marks b)
fair_block b w =
    fair_append (open_marks b) _ (record { sound = tt; text = refl }, fair_append (code_marks b.code) _ (fair_code b.code w.0) (fair_yield b.yields w.1)) (record { sound = tt; text = refl }, tt)

fair_proc : (p : PlainProc) → CanSpellProc p → AllFair (proc_marks p)
fair_proc p w = (
  record { sound = tt; text = refl },
  (
    name p.name w.0,
    (
      record { sound = tt; text = refl },
      fair_append (listed param_marks p.params) _ (fair_listed param_marks CanSpellParam fair_param p.params w.1)
          (record { sound = tt; text = refl }, fair_block p.body w.2),
    ),
  ),
)

fair_procs : (ps : List PlainProc) → Each CanSpellProc ps → AllFair (procs_marks ps)
fair_procs [] w = tt
fair_procs (p ∷ ps) w = fair_append (proc_marks p) _ (fair_proc p w.0) (fair_procs ps w.1)

pub fair_program : (p : PlainProgram) → IsSpellable p → AllFair (program_marks p)
fair_program p w =
    fair_append (procs_marks p.procs) _ (fair_procs p.procs w.0)
    (record { sound = tt; text = refl }, (name p.name w.1, (record { sound = tt; text = refl }, (number p.agents w.2, (record { sound = tt; text = refl }, fair_append (code_marks p.body) _ (fair_code p.body w.3) (record { sound = tt; text = refl }, tt))))))

-- ---- tokens of fair marks

pub matched_texts : (ms : List Mark) (us : List Token) → AllFair ms → Matches ms us → texts_of us ≡ map text_of ms
matched_texts [] [] f none = refl
matched_texts [] (u ∷ us) f m = elim m [ ]
matched_texts (m ∷ ms) [] f x = elim x [ ]
matched_texts (m ∷ ms) (u ∷ us) f (also i x) =
    let first : token_text u ≡ text_of m = ap what_text i.kind ∙ (f.0).text in
    let rest = matched_texts ms us f.1 x in
    ap (λ t. t ∷ texts_of us) first ∙ ap (λ ts. text_of m ∷ ts) rest

placed : (m : Mark) (at : ℕ) → is_at m at → IsPlace (place_of m) at
placed (Plain t) at h = tt
placed (Spelled x) at h = h
placed (Digits n) at h = h
placed (Final t e) at h = h

pub matched_places : (ms : List Mark) (us : List Token) → Matches ms us → AreAt ms (map (λ t. t.at) us)
matched_places [] [] none = tt
matched_places [] (u ∷ us) m = elim m [ ]
matched_places (m ∷ ms) [] x = elim x [ ]
matched_places (m ∷ ms) (u ∷ us) (also i x) = (placed m u.at i.place, matched_places ms us x)
