-- The canonical text of tokens: lines, with one space between two tokens and two spaces more in each block.
use Rattle.std.specs.Prelude.{ℕ, zero, suc, ◌+◌, ◌-◌, Bool, ◌&&◌, ◌||◌, not, List, [], ◌∷◌, ◌++◌, codes, if◌then◌else◌, bytes_eq}
use Rattle.slice_num.specs.Name.{is_among}
use Rattle.slice_ast.specs.Code.{PlainProgram}
use Rattle.slice_ast.specs.Tokens.{tokens}

-- a line ends after the token where this one is next: after `{` and `;`, and after a `}` that is followed neither by `else` nor by `as`
abbrev pub ends_line : List ℕ → List ℕ → Bool
ends_line token next = is_among token (codes "{" ∷ codes ";" ∷ []) || (bytes_eq token (codes "}") && not (is_among next (codes "else" ∷ codes "as" ∷ [])))

-- no space stands between the token and this one on the same line: none before `,` `;` `)` and `(`, none after `(`, none on either side of `/`
abbrev pub touches : List ℕ → List ℕ → Bool
touches token next = is_among token (codes "(" ∷ codes "/" ∷ []) || is_among next (codes "," ∷ codes ";" ∷ codes ")" ∷ codes "(" ∷ codes "/" ∷ [])

-- how many blocks are open after a token, of those before it
abbrev pub depth_after : ℕ → List ℕ → ℕ
depth_after depth token = if bytes_eq token (codes "{") then depth + 1 else (if bytes_eq token (codes "}") then depth - 1 else depth)

-- two spaces for each open block
abbrev pub indent : ℕ → List ℕ
indent zero = []
indent (suc depth) = 32 ∷ 32 ∷ indent depth

-- the end of a line, and the spaces of the next one: a line that begins with `}` counts that block as closed
abbrev pub new_line : ℕ → List ℕ → List ℕ
new_line depth next = 10 ∷ indent (if bytes_eq next (codes "}") then depth - 1 else depth)

-- what stands between a token, after which so many blocks are open, and the next one
abbrev pub gap : ℕ → List ℕ → List ℕ → List ℕ
gap depth token next = if ends_line token next then new_line depth next else (if touches token next then [] else codes " ")

-- the text after a token, after which so many blocks are open; the last line ends as each does
abbrev pub laid_after : ℕ → List ℕ → List (List ℕ) → List ℕ
laid_after depth token [] = 10 ∷ []
laid_after depth token (next ∷ texts) = gap depth token next ++ (next ++ laid_after (depth_after depth next) next texts)

-- the canonical text of tokens
abbrev pub canonical : List (List ℕ) → List ℕ
canonical [] = []
canonical (token ∷ texts) = token ++ laid_after (depth_after 0 token) token texts

-- the canonical text of a program
abbrev pub canonical_text : PlainProgram → List ℕ
canonical_text p = canonical (tokens p)
