-- Sums of unknowns with coefficients: the whole, and what each part of the cake is worth to each agent.
use Rattle.std.specs.Prelude.{ℕ, zero, suc, ◌==◌, if◌then◌else◌, List, [], ◌∷◌, ◌++◌, map, pos}
use Rattle.slice_num.specs.Rational.{Rational, whole, plus, minus, times}
use Rattle.slice_atoms.specs.Addresses.{Address, Cake, atoms, times_held}

-- the coefficient of the whole, and that of each agent's value of the part of an address. Where an atom is cut, both
-- parts have the coefficient that it had
pub record Form : Type 0 where
  pub whole_of : Rational
  pub at : ℕ → Address → Rational

-- so many times the whole
abbrev pub fixed_form : Rational → Form
fixed_form c = record { whole_of = c; at = λ b B. whole (pos 0) }

-- what a piece with these parts is worth to the agent: the sum over all that lies in its parts
abbrev pub piece_form : ℕ → List Address → Form
piece_form a parts = record { whole_of = whole (pos 0); at = λ b B. if b == a then times_held parts B else whole (pos 0) }

abbrev pub add_form : Form → Form → Form
add_form f g = record { whole_of = plus f.whole_of g.whole_of; at = λ b B. plus (f.at b B) (g.at b B) }

abbrev pub sub_form : Form → Form → Form
sub_form f g = record { whole_of = minus f.whole_of g.whole_of; at = λ b B. minus (f.at b B) (g.at b B) }

abbrev pub scale_form : Rational → Form → Form
scale_form c f = record { whole_of = times c f.whole_of; at = λ b B. times c (f.at b B) }

-- the coefficients of the agents' values of the atoms: agent by agent, atoms from left to right
abbrev pub agent_coefs : ℕ → Cake → (ℕ → Address → Rational) → List Rational
agent_coefs zero cake f = []
agent_coefs (suc n) cake f = agent_coefs n cake f ++ map (f (suc n)) (atoms cake)

-- the coefficients of all unknowns in their order: the whole comes first
abbrev pub all_coefs : ℕ → Cake → Form → List Rational
all_coefs agents cake f = f.whole_of ∷ agent_coefs agents cake f.at
