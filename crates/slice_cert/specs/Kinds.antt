-- The kinds of lines.
use Rattle.std.specs.Prelude.{⊤}
use Rattle.slice_cert.specs.declared.line.Line.{Line}
use Rattle.slice_cert.specs.declared.line.Line.TheVariants.{Header, Refutation, Cover, Closing}

-- the line is a header
abbrev pub IsHeader : Line → Type 0
IsHeader (Header version protocol agents) = ⊤
IsHeader (Refutation goal multipliers) = ⊥
IsHeader (Cover goal passed multipliers) = ⊥
IsHeader (Closing goals) = ⊥

-- the line is a goal's
abbrev pub IsRefutation : Line → Type 0
IsRefutation (Header version protocol agents) = ⊥
IsRefutation (Refutation goal multipliers) = ⊤
IsRefutation (Cover goal passed multipliers) = ⊥
IsRefutation (Closing goals) = ⊥

-- the line is one for a goal and all later ones that follow the same choices
abbrev pub IsCover : Line → Type 0
IsCover (Header version protocol agents) = ⊥
IsCover (Refutation goal multipliers) = ⊥
IsCover (Cover goal passed multipliers) = ⊤
IsCover (Closing goals) = ⊥

-- the line is a closing line
abbrev pub IsClosing : Line → Type 0
IsClosing (Header version protocol agents) = ⊥
IsClosing (Refutation goal multipliers) = ⊥
IsClosing (Cover goal passed multipliers) = ⊥
IsClosing (Closing goals) = ⊤
