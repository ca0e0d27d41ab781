-- The lines of a certificate: their JSON, their text, and the bytes that are read as one.
use Rattle.std.specs.Prelude.{◌≡◌, ℕ, ◌<◌, ◌^◌, ⊤, List, [], ◌∷◌, ◌++◌, IsTrue, codes, Some}
use Rattle.std.specs.List.{All, Contains}
use Rattle.serde_json.specs.Data.{Data, object, Members, no_members, member}
use Rattle.serde_json.specs.Find.{get}
use Rattle.serde_json.specs.Events.{members_len}
use Rattle.slice_num.specs.Rational.{Fits}
use Rattle.slice_num.specs.Name.{is_name}
use Rattle.slice_json.specs.Texts.{whole, text, signed, list_of, line_of}
use Rattle.slice_json.specs.Reading.{json_of, key_count}
use Rattle.slice_cert.specs.declared.line.Line.{Line}
use Rattle.slice_cert.specs.declared.line.Line.TheVariants.{Header, Refutation, Cover, Closing}

-- the members of a line, in the order of their keys' bytes: a multiplier is a string, all other numbers are JSON's
abbrev pub line_members : Line → Members
line_members (Header version protocol agents) =
    member (codes "agents") (whole agents) (member (codes "certificate") (whole version) (member (codes "protocol") (text protocol) no_members))
line_members (Refutation goal multipliers) =
    member (codes "goal") (whole goal) (member (codes "multipliers") (list_of signed multipliers) no_members)
line_members (Cover goal passed multipliers) =
    member (codes "cover") (whole passed) (member (codes "goal") (whole goal) (member (codes "multipliers") (list_of signed multipliers) no_members))
line_members (Closing goals) =
    member (codes "closing") (text (codes "envy-free")) (member (codes "goals") (whole goals) no_members)

-- the JSON of a line
abbrev pub line_json : Line → Data
line_json l = object (line_members l)

-- the text of a line, with its LF
abbrev pub line_text : Line → List ℕ
line_text l = line_of (line_json l)

-- what may stand in a line: the protocol's name is a name, numbers keep their width, and multipliers fit
abbrev pub MayStand : Line → Type 0
MayStand (Header version protocol agents) = IsTrue (is_name protocol) × (version < 2 ^ 32) × (agents < 2 ^ 32)
MayStand (Refutation goal multipliers) = (goal < 2 ^ 64) × All Fits multipliers
MayStand (Cover goal passed multipliers) = (goal < 2 ^ 64) × (passed < 2 ^ 32) × All Fits multipliers
MayStand (Closing goals) = goals < 2 ^ 64

-- the value has each of these members
abbrev pub HasEach : Members → Data → Type 0
HasEach no_members d = ⊤
HasEach (member k e ms) d = (get k d ≡ Some e) × HasEach ms d

-- the value says the line: it has its members, and no others, in any order
abbrev pub Says : Data → Line → Type 0
Says d l = (key_count d ≡ Some (members_len (line_members l))) × HasEach (line_members l) d × MayStand l

-- the bytes, without LF, are the line
abbrev pub IsLine : List ℕ → Line → Type 0
IsLine bytes l = (d : Data) × (json_of bytes ≡ Some d) × Says d l

-- the bytes are the line and one LF, which stands at the end alone
abbrev pub IsWrittenLine : List ℕ → Line → Type 0
IsWrittenLine bytes l = (front : List ℕ) × (bytes ≡ front ++ 10 ∷ []) × (Contains front 10 → ⊥) × IsLine front l

-- bytes are one line at most
abbrev pub BytesAreOneLineAtMost : Type 0
BytesAreOneLineAtMost = (bytes : List ℕ) (l k : Line) → IsLine bytes l → IsLine bytes k → l ≡ k
