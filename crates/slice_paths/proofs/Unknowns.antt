-- What a form comes to is the sum of its coefficients times the values of the unknowns.
use Rattle.std.proofs.Common.{◌≡◌, ◌∙◌, ℕ, zero, suc, refl, sym, ap, List, [], ◌∷◌, ◌++◌, map, length, length-append}
use Rattle.std.proofs.lemmas.List.{length-map, map-append}
use Rattle.slice_num.specs.Rational.{Rational, plus}
use Rattle.slice_num.specs.declared.interval.Interval.{Interval}
use Rattle.slice_num.proofs.FieldLaws.{times_comm, one_times, plus_zero_right}
use Rattle.slice_core.specs.Run.{Piece, Worth, before_point, after_point}
use Rattle.slice_linear.specs.Proportion.{dot_of}
use Rattle.slice_linear.proofs.Dots.{dot-append}
use Rattle.slice_atoms.specs.Addresses.{Letter, L, R, Address, atoms}
use Rattle.slice_atoms.specs.Forms.{Form, agent_coefs, all_coefs}
use Rattle.slice_paths.specs.Points.{Points, Uncut, At, cake_of, atom_values, agent_values, unknown_values}
use Rattle.slice_paths.proofs.Fits.{one, sum_agents, amount, form_value}

map_map : (f : Address → Rational) (b : Letter) (xs : List Address) → map f (map (λ A. b ∷ A) xs) ≡ map (λ A. f (b ∷ A)) xs
map_map f b [] = refl
map_map f b (x ∷ xs) = ap (λ (ys : List Rational). f (b ∷ x) ∷ ys) (map_map f b xs)

pub length_atoms : (w : Piece → Rational) (t : Points) (c : Interval) → length (atoms (cake_of t)) ≡ length (atom_values w t c)
length_atoms w Uncut c = refl
length_atoms w (At y l r) c = simp (length-append, length-map, length_atoms w l (before_point c y), length_atoms w r (after_point c y))

pub atoms_dot : (w : Piece → Rational) (t : Points) (c : Interval) (f : Address → Rational) → amount w t c f ≡ dot_of (map f (atoms (cake_of t))) (atom_values w t c)
atoms_dot w Uncut c f = sym (plus_zero_right _)
atoms_dot w (At y l r) c f =
    (λ i. plus (atoms_dot w l (before_point c y) (λ A. f (L ∷ A)) i) (atoms_dot w r (after_point c y) (λ A. f (R ∷ A)) i))
    ∙ sym (dot-append (map (λ A. f (L ∷ A)) (atoms (cake_of l))) (map (λ A. f (R ∷ A)) (atoms (cake_of r))) (atom_values w l (before_point c y)) (atom_values w r (after_point c y)) (length-map (atoms (cake_of l)) (λ A. f (L ∷ A)) ∙ length_atoms w l (before_point c y)))
    ∙ ap (λ (xs : List Rational). dot_of xs (atom_values w (At y l r) c)) ((λ i. sym (map_map f L (atoms (cake_of l))) i ++ sym (map_map f R (atoms (cake_of r))) i) ∙ sym (map-append f _ _))

length_agents : (w : Worth) (n : ℕ) (t : Points) (c : Interval) (f : ℕ → Address → Rational) → length (agent_coefs n (cake_of t) f) ≡ length (agent_values w n t c)
length_agents w zero t c f = refl
length_agents w (suc n) t c f = simp (length-append, length-map, length_agents w n t c f, length_atoms (w (suc n)) t c)

agents_dot : (w : Worth) (n : ℕ) (t : Points) (c : Interval) (f : ℕ → Address → Rational) → sum_agents n (λ a. amount (w a) t c (f a)) ≡ dot_of (agent_coefs n (cake_of t) f) (agent_values w n t c)
agents_dot w zero t c f = refl
agents_dot w (suc n) t c f =
    (λ i. plus (agents_dot w n t c f i) (atoms_dot (w (suc n)) t c (f (suc n)) i))
    ∙ sym (dot-append (agent_coefs n (cake_of t) f) (map (f (suc n)) (atoms (cake_of t))) (agent_values w n t c) (atom_values (w (suc n)) t c) (length_agents w n t c f))

pub form_dot : (w : Worth) (n : ℕ) (t : Points) (c : Interval) (f : Form) → form_value w n t c f ≡ dot_of (all_coefs n (cake_of t) f) (unknown_values w n t c)
form_dot w n t c f = λ i. plus (sym (times_comm f.whole_of one ∙ one_times f.whole_of) i) (agents_dot w n t c f.at i)
