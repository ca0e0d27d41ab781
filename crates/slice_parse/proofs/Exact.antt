-- What reading a list of tokens says of the grammar.
use Rattle.std.proofs.Common.{◌≡◌, ℕ, List, [], ◌∷◌, ◌++◌, map}
use Rattle.slice_ast.specs.Code.{PlainProgram}
use Rattle.slice_ast.specs.Places.{HasPlaces}
use Rattle.slice_ast.specs.Tokens.{tokens}
use Rattle.slice_ast.specs.Bare.{without_places}
use Rattle.slice_ast.specs.Spellable.{IsSpellable}
use Rattle.slice_ast.specs.Limits.{IsWithinLimits}
use Rattle.slice_parse.specs.Combinators.{Token, Fault, Good, Bad, Syntax, Deep, Long, Tired}
use Rattle.slice_parse.specs.Lexemes.{text_of}
use Rattle.slice_parse.specs.Rules.{read}
use Rattle.slice_parse.specs.Limits.{KeepLimits, OpensTooDeep, MakesTooLong}
use Rattle.slice_parse.specs.Begins.{Begins, IsWhole}
use Rattle.slice_parse.specs.Classes.{AreSound, texts_of}

-- the program was read from these tokens
pub record IsReadFrom (ts : List Token) (p : PlainProgram) : Type 0 where
  pub spelled : IsSpellable p
  pub within : IsWithinLimits p
  pub texts : texts_of ts ≡ tokens p
  pub places : HasPlaces p (map (λ t. t.at) ts)

-- the token passes a limit, and some program's tokens begin with those through it
pub record Passes (Limit : List (List ℕ) → List ℕ → Type 0) (seen : List Token) (wrong : Token) : Type 0 where
  pub limit : Limit (texts_of seen) (text_of wrong)
  pub begins : Begins (texts_of (seen ++ wrong ∷ []))

pub record ReadIsExact : Type 0 where
  -- what is read is spelled so, and is all that there is
  pub found : (ts rest : List Token) (p : PlainProgram) → AreSound ts → read ts ≡ Good p rest → (rest ≡ []) × IsReadFrom ts p
  -- each program within the limits is read from its tokens, with their places
  pub complete : (ts : List Token) (p : PlainProgram) → AreSound ts → IsSpellable p → IsWithinLimits p → texts_of ts ≡ tokens p
      → (q : PlainProgram) × ((read ts ≡ Good q []) × (without_places q ≡ without_places p))
  -- a fault leaves an end of the tokens, what was seen before it begins some program, and passes no limit
  pub viable : (ts rest : List Token) (fault : Fault) → AreSound ts → read ts ≡ Bad fault rest → (seen : List Token) × ((ts ≡ seen ++ rest) × (Begins (texts_of seen) × KeepLimits (texts_of seen)))
  -- no program's tokens begin with those through a wrong one
  pub dead : (seen : List Token) (wrong : Token) (rest : List Token) → AreSound (seen ++ wrong ∷ rest) → read (seen ++ wrong ∷ rest) ≡ Bad Syntax (wrong ∷ rest) → Begins (texts_of (seen ++ wrong ∷ [])) → ⊥
  -- where more tokens are needed, these are no program's
  pub short : (ts : List Token) → AreSound ts → read ts ≡ Bad Syntax [] → IsWhole (texts_of ts) → ⊥
  pub deep : (seen rest : List Token) → AreSound (seen ++ rest) → read (seen ++ rest) ≡ Bad Deep rest → (wrong : Token) × ((more : List Token) × ((rest ≡ wrong ∷ more) × Passes OpensTooDeep seen wrong))
  pub long : (seen rest : List Token) → AreSound (seen ++ rest) → read (seen ++ rest) ≡ Bad Long rest → (wrong : Token) × ((more : List Token) × ((rest ≡ wrong ∷ more) × Passes MakesTooLong seen wrong))
  -- a list never has more items than there are tokens
  pub calm : (ts rest : List Token) → read ts ≡ Bad Tired rest → ⊥
