-- What the frames of a stream have ahead.
use Rattle.std.proofs.Common.{◌≡◌, ◌∙◌, ℕ, ◌+◌, ◌≤◌, arith, refl, sym, ap, subst, true, List, [], ◌∷◌, ◌++◌, length, append_assoc}
use Rattle.std.specs.Prelude.{OnOk, OnErr, Ok, Err}
use Rattle.std.specs.declared.result.Result.{Result}
use Rattle.std.proofs.lemmas.List.{append-nil}
use Rattle.slice_core.specs.Sizes.{depth, most_cuts}
use Rattle.slice_core.specs.Tree.{Core, Tree}
use Rattle.slice_core.specs.WellFormed.{IsWellFormed, IsFormed}
use Rattle.slice_core.proofs.FormedLaws.{core_formed}
use Rattle.slice_linear.specs.declared.forms.FormFault.{FormFault}
use Rattle.slice_linear.specs.declared.forms.FormFault.TheVariants as form_fault
use Rattle.slice_paths.specs.Ahead.{left_at, ahead_of, frames_of, onward_events, BreaksFirst}
use Rattle.slice_paths.specs.Events.{Event, events, events_of, next_goal, Gives, NoMore}
use Rattle.slice_paths.specs.Goals.{Goal}
use Rattle.slice_paths.specs.Places.{first_way}
use Rattle.slice_paths.specs.Spots.{Known, tally_of, regs_of, way_of}
use Rattle.slice_paths.specs.Steps.{IsKnown}
use Rattle.slice_paths.specs.Walking.{CanGo, Ready, AllReady, OnwardReady, RestReady, Leads, GoalTold, IsNoStep, QuietTurn, GoalTurn, steps_at, steps_of, onward_steps, fault_of}
use Rattle.slice_paths.specs.declared.frames.Frame.{Frame}
use Rattle.slice_paths.specs.declared.frames.Onward.{Onward}
use Rattle.slice_paths.specs.declared.frames.Onward.TheVariants.{End, One, Two}
use Rattle.slice_paths.specs.declared.frames.Rest.{Rest}
use Rattle.slice_paths.proofs.WalkSteps.{refused}

-- ---- one frame behind others
pub ahead_put : (n : ℕ) (fs : List Frame) (f : Frame) (es : List Event) → ahead_of n (fs ++ f ∷ []) es ≡ left_at n f.rest f.spot ++ ahead_of n fs es
ahead_put n [] f es = refl
ahead_put n (g ∷ fs) f es = ahead_put n fs f (left_at n g.rest g.spot ++ es)

pub ready_put : (n : ℕ) (fs : List Frame) (f : Frame) → AllReady n fs → RestReady n f.rest f.spot → AllReady n (fs ++ f ∷ [])
ready_put n [] f h r = (r, tt)
ready_put n (g ∷ fs) f h r = (h.0, ready_put n fs f h.1 r)

pub ready_back : (n : ℕ) (fs : List Frame) (f : Frame) → AllReady n (fs ++ f ∷ []) → AllReady n fs × RestReady n f.rest f.spot
ready_back n [] f h = (tt, h.0)
ready_back n (g ∷ fs) f h = let more = ready_back n fs f h.1 in ((h.0, more.0), more.1)

pub steps_put : (n : ℕ) (fs : List Frame) (f : Frame) → steps_of n (fs ++ f ∷ []) ≡ steps_at n f.rest + steps_of n fs
steps_put n [] f = refl
steps_put n (g ∷ fs) f = omega (arith, steps_put n fs f)

-- ---- those that a step leaves
pub two_put : (fs : List Frame) (f g : Frame) → fs ++ f ∷ g ∷ [] ≡ (fs ++ f ∷ []) ++ g ∷ []
two_put fs f g = sym (append_assoc fs (f ∷ []) (g ∷ []))

pub ahead_onward : (n : ℕ) (fs : List Frame) (o : Onward) → ahead_of n (fs ++ frames_of o) [] ≡ onward_events n o ++ ahead_of n fs []
ahead_onward n fs End = ap (λ (gs : List Frame). ahead_of n gs []) (append-nil fs)
ahead_onward n fs (One f) = ahead_put n fs f []
ahead_onward n fs (Two f g) =
    ap (λ (gs : List Frame). ahead_of n gs []) (two_put fs f g)
    ∙ ahead_put n (fs ++ f ∷ []) g []
    ∙ ap (λ (es : List Event). left_at n g.rest g.spot ++ es) (ahead_put n fs f [])
    ∙ sym (append_assoc (left_at n g.rest g.spot) (left_at n f.rest f.spot) (ahead_of n fs []))

pub ready_onward : (n : ℕ) (fs : List Frame) (o : Onward) → AllReady n fs → OnwardReady n o → AllReady n (fs ++ frames_of o)
ready_onward n fs End h r = subst (AllReady n) (sym (append-nil fs)) h
ready_onward n fs (One f) h r = ready_put n fs f h r
ready_onward n fs (Two f g) h r = subst (AllReady n) (sym (two_put fs f g)) (ready_put n (fs ++ f ∷ []) g (ready_put n fs f h r.0) r.1)

pub steps_onward : (n : ℕ) (fs : List Frame) (o : Onward) → steps_of n (fs ++ frames_of o) ≡ onward_steps n o + steps_of n fs
steps_onward n fs End = omega (arith, ap (steps_of n) (append-nil fs))
steps_onward n fs (One f) = steps_put n fs f
steps_onward n fs (Two f g) = omega (arith, ap (steps_of n) (two_put fs f g), steps_put n (fs ++ f ∷ []) g, steps_put n fs f)

-- a frame was put, or none
pub ready_either : {E : Type 0} (n : ℕ) (r : Result (Unit {0}) E) (old new : List Frame) (f : Frame) → OnOk r (new ≡ old ++ f ∷ []) → OnErr r (new ≡ old) → AllReady n old → RestReady n f.rest f.spot → AllReady n new
ready_either n (Ok x) old new f p q h r = subst (AllReady n) (sym p) (ready_put n old f h r)
ready_either n (Err e) old new f p q h r = subst (AllReady n) (sym q) h

-- ---- turns
pub quiet_turn : (n : ℕ) (f : Frame) (old new : List Frame) (o : Onward) → Leads n (left_at n f.rest f.spot) (steps_at n f.rest) o → new ≡ old ++ frames_of o → QuietTurn n f old new
quiet_turn n f old new o l e = record {
  comes = ap (λ (es : List Event). es ++ ahead_of n old []) l.comes ∙ sym (ahead_onward n old o) ∙ ap (λ (gs : List Frame). ahead_of n gs []) (sym e);
  fewer = omega (arith, l.fewer, steps_onward n old o, ap (steps_of n) e);
}

pub goal_turn : (n given : ℕ) (f behind : Frame) (old new : List Frame) (g : Goal) → GoalTold n given f.rest f.spot g behind → new ≡ old ++ behind ∷ [] → GoalTurn n given f old g new
goal_turn n given f behind old new g t e = record {
  comes = t.comes (ahead_of n old []) ∙ ap (Gives g) (sym (ahead_put n old behind []) ∙ ap (λ (gs : List Frame). ahead_of n gs []) (sym e));
  few = t.few;
}

-- ---- refusals
pub form_fails : (n given : ℕ) (r : Rest) (s : Known) (fault : FormFault) → (fault ≡ form_fault.Overflow → BreaksFirst (left_at n r s)) → IsNoStep n given r s (fault_of given fault)
form_fails n given r s form_fault.Overflow h es = (refused (left_at n r s) es given (h refl), refl)
form_fails n given r s form_fault.Memory h es = tt

-- ---- the first frame, and none
pub first_ready : (core : Core) (n : ℕ) (root : Tree) (s : Known) → IsWellFormed core → n ≡ core.agents → root ≡ core.tree → IsKnown s
    → tally_of s ≡ record { agents = n; pieces = 1; cuts = 0; regs = 0; queries = 0; gifts = [] } → Ready n root s
first_ready core n root s w a r k t =
    let few : n ≤ 16 = omega (arith, a, w.few_agents) in
    let cuts : most_cuts root ≤ 64 = omega (arith, ap most_cuts r, w.few_cuts) in
    let deep : depth root ≤ 512 = omega (arith, ap depth r, w.few_deep) in
    let formed : IsFormed n (true ∷ []) 0 root = subst (λ (x : ℕ). IsFormed x (true ∷ []) 0 root) (sym a) (subst (λ (x : Tree). IsFormed core.agents (true ∷ []) 0 x) (sym r) (core_formed core w)) in
    record {
      known = k;
      goes = subst (CanGo n root) (sym t) (record {
        agents_are = refl;
        few_agents = few;
        live = true ∷ [];
        made = refl;
        held = λ p l. tt;
        formed = formed;
        few_cuts = omega (arith, cuts);
        few_queries = omega (arith, deep);
        few_pieces = omega (arith, deep);
      });
    }

pub first_ahead : (core : Core) (n : ℕ) (root : Tree) (s : Known) → n ≡ core.agents → root ≡ core.tree → regs_of s ≡ [] → way_of s ≡ first_way n
    → events n root (regs_of s) (way_of s) ++ [] ≡ events_of core
first_ahead core n root s a r g w =
    append-nil (events n root (regs_of s) (way_of s))
    ∙ (λ i. events n root (g i) (w i))
    ∙ (λ i. events (a i) (r i) [] (first_way (a i)))

pub none_ahead : (n given : ℕ) (fs : List Frame) → length fs ≡ 0 → next_goal (ahead_of n fs []) given ≡ NoMore
none_ahead n given [] e = refl
none_ahead n given (f ∷ fs) e = absurd (omega (arith, e))

-- ---- the last frame is taken
pub popped : (n : ℕ) (all rest : List Frame) (f : Frame) (start : List Event) → all ≡ rest ++ f ∷ [] → ahead_of n all [] ≡ start → left_at n f.rest f.spot ++ ahead_of n rest [] ≡ start
popped n all rest f start e h = sym (ahead_put n rest f []) ∙ ap (λ (fs : List Frame). ahead_of n fs []) (sym e) ∙ h

pub popped_ready : (n : ℕ) (all rest : List Frame) (f : Frame) → all ≡ rest ++ f ∷ [] → AllReady n all → AllReady n rest × RestReady n f.rest f.spot
popped_ready n all rest f e h = ready_back n rest f (subst (AllReady n) e h)

pub popped_steps : (n : ℕ) (all rest : List Frame) (f : Frame) → all ≡ rest ++ f ∷ [] → steps_of n all ≡ steps_at n f.rest + steps_of n rest
popped_steps n all rest f e = ap (steps_of n) e ∙ steps_put n rest f
