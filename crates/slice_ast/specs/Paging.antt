-- A page: the text of the tokens that it took, and what the gap before the next one depends on.
use Rattle.std.specs.Prelude.{ℕ, List, [], ◌∷◌, ◌++◌, codes, if◌then◌else◌, bytes_eq}
use Rattle.slice_num.specs.Name.{is_among}
use Rattle.slice_ast.specs.Layout.{new_line, depth_after}
use Rattle.slice_ast.specs.declared.page.Last.{Last}
use Rattle.slice_ast.specs.declared.page.Last.TheVariants.{Nothing, LineEnd, Brace, Tight, Loose}

pub record Layout : Type 0 where
  pub text : List ℕ
  pub last : Last
  pub depth : ℕ

-- what kind of token it is for the gap after it
abbrev pub last_of : List ℕ → Last
last_of token =
    if is_among token (codes "{" ∷ codes ";" ∷ []) then LineEnd
    else (if bytes_eq token (codes "}") then Brace else (if is_among token (codes "(" ∷ codes "/" ∷ []) then Tight else Loose))

-- the gap after a token of this kind and before the next one
abbrev pub gap_after : Last → ℕ → List ℕ → List ℕ
gap_after Nothing depth next = []
gap_after LineEnd depth next = new_line depth next
gap_after Brace depth next = if is_among next (codes "else" ∷ codes "as" ∷ []) then codes " " else new_line depth next
gap_after Tight depth next = []
gap_after Loose depth next = if is_among next (codes "," ∷ codes ";" ∷ codes ")" ∷ codes "(" ∷ codes "/" ∷ []) then [] else codes " "

-- the page after one more token
abbrev pub placed : Layout → List ℕ → Layout
placed page token = record { text = page.text ++ gap_after page.last page.depth token ++ token; last = last_of token; depth = depth_after page.depth token }
