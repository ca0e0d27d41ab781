-- The events of a core tell its goals: by induction on the tree.
use Rattle.std.proofs.Common.{◌≡◌, ◌∙◌, ℕ, ◌+◌, refl, sym, ap, subst, Bool, true, false, List, [], ◌∷◌, ◌++◌, append_assoc}
use Rattle.std.specs.Prelude.{⊤, map, ◌&&◌}
use Rattle.slice_num.specs.declared.choice.Choice.TheVariants as choice
use Rattle.slice_core.specs.Tree.{Tree, Ask, Set, Cut, Join, Test, Give, End}
use Rattle.slice_num.specs.Pieces.{piece_at, each_part}
use Rattle.slice_atoms.specs.Addresses.{Address}
use Rattle.slice_atoms.specs.Forms.{Form, piece_form, sub_form}
use Rattle.slice_atoms.specs.FormFits.{sub_fits}
use Rattle.slice_paths.specs.Places.{Way, Place, places, sum_form, first_way, ask_way, cut_way, test_way, join_way, give_way, yes_kind, no_kind}
use Rattle.slice_paths.specs.Goals.{Aim, aims, aims_at, goal_of, numbered, pairs, envy_form}
use Rattle.slice_paths.specs.declared.goal.GoalKind.TheVariants as goal_kind
use Rattle.slice_paths.specs.Events.{Event, Meets, Breaks, goal_at, where_fit, events, events_of, cut_fits, envy_goal, low_goal, high_goal, sum_fits, Tell, EventsTellGoals}

-- the same before goals are numbered
abbrev pub TellAims : ℕ → List Event → List Aim → Type 0
TellAims n [] as_ = as_ ≡ []
TellAims n (Breaks ∷ es) as_ = ⊤
TellAims n (Meets t ∷ es) [] = ⊥
TellAims n (Meets t ∷ es) (a ∷ as_) = ((number : ℕ) → goal_of n number a ≡ goal_at number t) × TellAims n es as_

pub tell_numbered : (n : ℕ) (es : List Event) (as_ : List Aim) (number : ℕ) → TellAims n es as_ → Tell es (numbered n number as_) number
tell_numbered n [] as_ number h = ap (numbered n number) h
tell_numbered n (Breaks ∷ es) as_ number h = tt
tell_numbered n (Meets t ∷ es) [] number h = absurd h
tell_numbered n (Meets t ∷ es) (a ∷ as_) number h = (h.0 number, tell_numbered n es as_ (number + 1) h.1)

pub tell_both : (n : ℕ) (es : List Event) (as_ : List Aim) (fs : List Event) (bs : List Aim) → TellAims n es as_ → TellAims n fs bs → TellAims n (es ++ fs) (as_ ++ bs)
tell_both n [] as_ fs bs h k = subst (λ (xs : List Aim). TellAims n fs (xs ++ bs)) (sym h) k
tell_both n (Breaks ∷ es) as_ fs bs h k = tt
tell_both n (Meets t ∷ es) [] fs bs h k = absurd h
tell_both n (Meets t ∷ es) (a ∷ as_) fs bs h k = (h.0, tell_both n es as_ fs bs h.1 k)

pub tell_where : (n : ℕ) (fit : Bool) (es : List Event) (as_ : List Aim) → TellAims n es as_ → TellAims n (where_fit fit es) as_
tell_where n true es as_ h = h
tell_where n false es as_ h = tt

pub aims_both : (n : ℕ) (ps qs : List Place) → aims n (ps ++ qs) ≡ aims n ps ++ aims n qs
aims_both n [] qs = refl
aims_both n (p ∷ ps) qs = ap (λ (xs : List Aim). aims_at n p.stop p.way ++ xs) (aims_both n ps qs) ∙ sym (append_assoc (aims_at n p.stop p.way) (aims n ps) (aims n qs))

pub tell_parts :
    (n : ℕ) (es : List Address → Address → List Address → List Event) (ps : List Address → Address → List Address → List Place)
    → ((before : List Address) (A : Address) (after : List Address) → TellAims n (es before A after) (aims n (ps before A after)))
    → (before after : List Address) → TellAims n (each_part before after es) (aims n (each_part before after ps))
tell_parts n es ps h before [] = refl
tell_parts n es ps h before (A ∷ after) =
    subst (TellAims n (each_part before (A ∷ after) es)) (sym (aims_both n (ps before A after) (each_part (before ++ A ∷ []) after ps)))
    (tell_both n (es before A after) (aims n (ps before A after)) (each_part (before ++ A ∷ []) after es) (aims n (each_part (before ++ A ∷ []) after ps)) (h before A after)
    (tell_parts n es ps h (before ++ A ∷ []) after))

tell_envies : (n : ℕ) (k : Way) (ps : List (ℕ × ℕ)) → TellAims n (map (envy_goal n k) ps) (map (λ p. record { way = k; kind = goal_kind.Envy p.0 p.1; own = envy_form p.0 p.1 k }) ps ++ [])
tell_envies n k [] = refl
tell_envies n k (p ∷ ps) = (λ number. refl, tell_envies n k ps)

pub tells : (n : ℕ) (t : Tree) (regs : List Form) (k : Way) → TellAims n (events n t regs k) (aims n (places t regs k))
tells n (Ask a p r next) regs k = tells n next (regs ++ piece_form a (piece_at k.pieces p) ∷ []) (ask_way k)
tells n (Set r sum next) regs k =
    let rs = regs ++ sum_form regs sum.terms ∷ [] in
    tell_where n (sum_fits n k.cake regs sum.terms) (events n next rs k) (aims n (places next rs k)) (tells n next rs k)
tells n (Cut a p amount l r next) regs k =
    let f = sum_form regs amount.terms in
    let es : List Address → Address → List Address → List Event = λ before A after. where_fit (cut_fits n a f before A k) (events n next regs (cut_way a p f before A after k)) in
    let ps : List Address → Address → List Address → List Place = λ before A after. places next regs (cut_way a p f before A after k) in
    let later = tell_parts n es ps (λ before A after. tell_where n (cut_fits n a f before A k) (events n next regs (cut_way a p f before A after k)) (aims n (places next regs (cut_way a p f before A after k))) (tells n next regs (cut_way a p f before A after k))) [] (piece_at k.pieces p) in
    let all : TellAims n (low_goal n f k ∷ high_goal n a p f k ∷ each_part [] (piece_at k.pieces p) es) (aims n (places (Cut a p amount l r next) regs k)) = (λ number. refl, (λ number. refl, later)) in
    tell_where n (sum_fits n k.cake regs amount.terms) (low_goal n f k ∷ high_goal n a p f k ∷ each_part [] (piece_at k.pieces p) es) (aims n (places (Cut a p amount l r next) regs k)) all
tells n (Join p q r next) regs k = tells n next regs (join_way p q k)
tells n (Test left right strict y z) regs k =
    let f = sum_form regs left.terms in
    let g = sum_form regs right.terms in
    let yes_way = test_way (yes_kind strict) (sub_form f g) choice.Yes k in
    let no_way = test_way (no_kind strict) (sub_form g f) choice.No k in
    let es = where_fit (sub_fits n k.cake f g) (events n y regs yes_way) in
    let fs = where_fit (sub_fits n k.cake g f) (events n z regs no_way) in
    let yes_tells = tell_where n (sub_fits n k.cake f g) (events n y regs yes_way) (aims n (places y regs yes_way)) (tells n y regs yes_way) in
    let no_tells = tell_where n (sub_fits n k.cake g f) (events n z regs no_way) (aims n (places z regs no_way)) (tells n z regs no_way) in
    let both : TellAims n (es ++ fs) (aims n (places y regs yes_way ++ places z regs no_way)) =
    subst (TellAims n (es ++ fs)) (sym (aims_both n (places y regs yes_way) (places z regs no_way))) (tell_both n es (aims n (places y regs yes_way)) fs (aims n (places z regs no_way)) yes_tells no_tells) in
    tell_where n (sum_fits n k.cake regs left.terms && sum_fits n k.cake regs right.terms) (es ++ fs) (aims n (places y regs yes_way ++ places z regs no_way)) both
tells n (Give p a next) regs k = tells n next regs (give_way p a k)
tells n End regs k = tell_envies n k (pairs n n)

pub events_tell_goals : EventsTellGoals
events_tell_goals core = tell_numbered core.agents (events_of core) _ 0 (tells core.agents core.tree [] (first_way core.agents))
