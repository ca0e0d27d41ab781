-- A written line says its line.
use Rattle.std.proofs.Common.{◌≡◌, ◌≤◌, ℕ, ℤ, List, [], ◌∷◌, ◌++◌, map, refl, arith, Some}
use Rattle.std.specs.List.{Contains}
use Rattle.std.specs.Str.{IsUtf8}
use Rattle.serde_json.specs.Data.{Data, depth, items_depth}
use Rattle.serde_json.specs.Read.{read, max_depth}
use Rattle.serde_json.specs.View.{items_of}
use Rattle.serde_json.specs.Written.{compact_text}
use Rattle.slice_json.proofs.Steps.{json_of_text}
use Rattle.slice_json.specs.Texts.{signed}
use Rattle.slice_cert.specs.declared.line.Line.{Line}
use Rattle.slice_cert.specs.declared.line.Line.TheVariants.{Header, Refutation, Cover, Closing}
use Rattle.slice_cert.specs.CertLines.{line_json, Says, IsWrittenLine, MayStand}

pub says_itself : (l : Line) → MayStand l → Says (line_json l) l
says_itself (Header version protocol agents) m = (refl, (refl, (refl, (refl, tt))), m)
says_itself (Refutation goal multipliers) m = (refl, (refl, (refl, tt)), m)
says_itself (Cover goal passed multipliers) m = (refl, (refl, (refl, (refl, tt))), m)
says_itself (Closing goals) m = (refl, (refl, (refl, tt)), m)

texts_depth : (zs : List ℤ) → items_depth (items_of (map signed zs)) ≡ 0
texts_depth [] = refl
texts_depth (z ∷ zs) = rw (texts_depth zs) refl

pub few_levels : (l : Line) → depth (line_json l) ≤ max_depth
few_levels (Header version protocol agents) = omega arith
few_levels (Refutation goal multipliers) = rw (texts_depth multipliers) (omega arith)
few_levels (Cover goal passed multipliers) = rw (texts_depth multipliers) (omega arith)
few_levels (Closing goals) = omega arith

-- the text of a line, with its LF, is that line
pub written : (l : Line) (bytes : List ℕ) → MayStand l → ((d : Data) → Contains (compact_text d) 10 → ⊥)
    → IsUtf8 (compact_text (line_json l)) → read (compact_text (line_json l)) ≡ Some (line_json l) → bytes ≡ compact_text (line_json l) ++ 10 ∷ [] → IsWrittenLine bytes l
written l bytes may ends valid same e =
    (compact_text (line_json l), e, ends (line_json l), (line_json l, json_of_text (compact_text (line_json l)) (line_json l) valid same, says_itself l may))
