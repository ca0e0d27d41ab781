-- Where all goals of a core can be made, what comes up is goals whose rows fit, also behind those that a line covers.
use Rattle.std.proofs.Common.{◌≡◌, ℕ, zero, suc, ◌+◌, ◌≤◌, List, [], ◌∷◌, ◌++◌, length, drop, Bool, true, false, Some, None, ap, sym, subst, refl, arith}
use Rattle.std.specs.Prelude.{⊤, nat_lt, if◌then◌else◌}
use Rattle.std.proofs.lemmas.Bool.Decides.{nat_tests}
use Rattle.std.proofs.lemmas.List.{length-drop}
use Rattle.slice_num.specs.Pieces.{piece_at, each_part}
use Rattle.slice_num.specs.declared.choice.Choice.{Choice}
use Rattle.slice_num.specs.declared.choice.Choice.TheVariants.{Low, High, Go, Yes, No}
use Rattle.slice_core.specs.Tree.{Core, Tree, Ask, Set, Cut, Join, Test, Give, End}
use Rattle.slice_atoms.specs.Addresses.{Address}
use Rattle.slice_atoms.specs.FormFits.{sub_fits}
use Rattle.slice_atoms.specs.Forms.{Form, piece_form, sub_form}
use Rattle.slice_paths.specs.Coming.{AreGoals, fault_ahead, goals_ahead}
use Rattle.slice_paths.specs.Events.{Event, Meets, Breaks, Gives, NoMore, Overflows, OverLimit, Tell, events, events_of, where_fit, cut_fits, sum_fits, goal_at, goal_limit, next_goal}
use Rattle.slice_paths.specs.Fronts.{answered_in, taken_arm, events_behind, events_after}
use Rattle.slice_paths.specs.Goals.{Goal, goals}
use Rattle.slice_paths.specs.Places.{Way, sum_form, yes_kind, no_kind, first_way, ask_way, test_way, join_way, give_way, cut_way}
use Rattle.slice_paths.specs.declared.goal.GoalFault.TheVariants as goal_fault
use Rattle.slice_paths.proofs.GoodRows.{coming_goals_fit}
use Rattle.slice_cert.specs.declared.line.Line.{Line}
use Rattle.slice_cert.specs.declared.line.Line.TheVariants.{Header, Refutation, Cover, Closing}
use Rattle.slice_check.specs.Certificate.{AllPass, Passes}
use Rattle.slice_verify.specs.Report.{AreTaken, LeadsTo}
use Rattle.slice_laws.specs.Completeness.{CanBeMade}
use Rattle.slice_laws.proofs.Complete.{all_goals}

-- each of them is a goal whose rows fit
abbrev pub AllMeet : List Event → Type 0
AllMeet [] = ⊤
AllMeet (Breaks ∷ es) = ⊥
AllMeet (Meets t ∷ es) = (t.fit ≡ true) × AllMeet es

parted : (xs ys : List Event) → AllMeet (xs ++ ys) → AllMeet xs × AllMeet ys
parted [] ys h = (tt, h)
parted (Breaks ∷ xs) ys h = absurd h
parted (Meets t ∷ xs) ys h = let r = parted xs ys h.1 in ((h.0, r.0), r.1)

both : (xs ys : List Event) → AllMeet xs → AllMeet ys → AllMeet (xs ++ ys)
both [] ys h k = k
both (Breaks ∷ xs) ys h k = absurd h
both (Meets t ∷ xs) ys h k = (h.0, both xs ys h.1 k)

made : (b : Bool) (es : List Event) → AllMeet (where_fit b es) → AllMeet es
made true es h = h
made false es h = absurd h

-- what follows a cut in later parts, and in the one that is answered
module _ (F : List Address → Address → List Address → List Event) (On : List Address → Address → List Address → List Choice → List Event)
    (on : (before : List Address) (A : Address) (after : List Address) (cs : List Choice) → AllMeet (F before A after) → AllMeet (On before A after cs)) where
  behind_cut : (before parts : List Address) (cs : List Choice) → AllMeet (each_part before parts F)
      → AllMeet (answered_in (λ b A c cs. On b A c cs ++ each_part (b ++ A ∷ []) c F) [] before parts cs)
  behind_cut before [] cs h = tt
  behind_cut before (A ∷ after) [] h = tt
  behind_cut before (A ∷ after) (Low ∷ cs) h = tt
  behind_cut before (A ∷ after) (High ∷ cs) h = tt
  behind_cut before (A ∷ after) (Yes ∷ cs) h = tt
  behind_cut before (A ∷ after) (No ∷ cs) h = behind_cut (before ++ A ∷ []) after cs (parted (F before A after) (each_part (before ++ A ∷ []) after F) h).1
  behind_cut before (A ∷ after) (Go ∷ cs) h =
      let r = parted (F before A after) (each_part (before ++ A ∷ []) after F) h in
      both (On before A after cs) (each_part (before ++ A ∷ []) after F) (on before A after cs r.0) r.1

-- and a test
behind_test : (yes_events no_events : List Event) (On Off : List Choice → List Event) (cs : List Choice) → AllMeet (yes_events ++ no_events)
    → ((cs : List Choice) → AllMeet yes_events → AllMeet (On cs)) → ((cs : List Choice) → AllMeet no_events → AllMeet (Off cs))
    → AllMeet (taken_arm (λ cs. On cs ++ no_events) Off [] cs)
behind_test ys ns On Off [] h on off = tt
behind_test ys ns On Off (Low ∷ cs) h on off = tt
behind_test ys ns On Off (High ∷ cs) h on off = tt
behind_test ys ns On Off (Go ∷ cs) h on off = tt
behind_test ys ns On Off (Yes ∷ cs) h on off = let r = parted ys ns h in both (On cs) ns (on cs r.0) r.1
behind_test ys ns On Off (No ∷ cs) h on off = off cs (parted ys ns h).1

pub all_behind : (agents k : ℕ) (tree : Tree) (regs : List Form) (w : Way) (cs : List Choice) → AllMeet (events agents tree regs w) → AllMeet (events_behind agents k tree regs w cs)
all_behind agents zero tree regs w cs h = tt
all_behind agents (suc k) (Ask a p r next) regs w cs h = all_behind agents (suc k) next (regs ++ piece_form a (piece_at w.pieces p) ∷ []) (ask_way w) cs h
all_behind agents (suc k) (Set r sum next) regs w cs h =
    all_behind agents (suc k) next (regs ++ sum_form regs sum.terms ∷ []) w cs (made (sum_fits agents w.cake regs sum.terms) (events agents next (regs ++ sum_form regs sum.terms ∷ []) w) h)
all_behind agents (suc k) (Cut a p amount l r next) regs w cs h =
    let form = sum_form regs amount.terms in
    let way = λ (b : List Address) (A : Address) (c : List Address). cut_way a p form b A c w in
    let F = λ (b : List Address) (A : Address) (c : List Address). where_fit (cut_fits agents a form b A w) (events agents next regs (way b A c)) in
    behind_cut F (λ b A c cs. events_behind agents k next regs (way b A c) cs)
    (λ b A c cs h. all_behind agents k next regs (way b A c) cs (made (cut_fits agents a form b A w) (events agents next regs (way b A c)) h))
    [] (piece_at w.pieces p) cs (made (sum_fits agents w.cake regs amount.terms) _ h).1.1
all_behind agents (suc k) (Join p q r next) regs w cs h = all_behind agents (suc k) next regs (join_way p q w) cs h
all_behind agents (suc k) (Test left right strict at_yes at_no) regs w cs h =
    let l = sum_form regs left.terms in
    let r = sum_form regs right.terms in
    let yes_way = test_way (yes_kind strict) (sub_form l r) Yes w in
    let no_way = test_way (no_kind strict) (sub_form r l) No w in
    behind_test (where_fit (sub_fits agents w.cake l r) (events agents at_yes regs yes_way)) (where_fit (sub_fits agents w.cake r l) (events agents at_no regs no_way))
    (λ cs. events_behind agents k at_yes regs yes_way cs) (λ cs. events_behind agents k at_no regs no_way cs) cs (made _ _ h)
    (λ cs h. all_behind agents k at_yes regs yes_way cs (made (sub_fits agents w.cake l r) (events agents at_yes regs yes_way) h))
    (λ cs h. all_behind agents k at_no regs no_way cs (made (sub_fits agents w.cake r l) (events agents at_no regs no_way) h))
all_behind agents (suc k) (Give p a next) regs w cs h = all_behind agents (suc k) next regs (give_way p a w) cs h
all_behind agents (suc k) End regs w cs h = tt

-- where nothing keeps a goal from being made
pub all_meet : (es : List Event) (n : ℕ) → fault_ahead es n ≡ None → AllMeet es
all_meet [] n e = tt
all_meet (Breaks ∷ es) n e = absurd (let bad : Some (goal_fault.Overflow n) ≡ None = e in cc)
all_meet (Meets t ∷ es) n e = by (nat_lt n goal_limit) t.fit refl (all_meet es (n + 1)) e
  where
    by : (x y : Bool) → y ≡ t.fit → (fault_ahead es (n + 1) ≡ None → AllMeet es)
        → (if x then (if y then fault_ahead es (n + 1) else Some (goal_fault.Overflow n)) else Some goal_fault.GoalLimit) ≡ None → (t.fit ≡ true) × AllMeet es
    by true true same later e = (sym same, later e)
    by true false same later e = absurd (let bad : Some (goal_fault.Overflow n) ≡ None = e in cc)
    by false y same later e = absurd (let bad : Some goal_fault.GoalLimit ≡ None = e in cc)

-- ---- what comes next there

-- the goals behind one that comes are such, too
pub meet_on : (ahead : List Event) (n : ℕ) (g : Goal) (later : List Event) → AllMeet ahead → next_goal ahead n ≡ Gives g later → AllMeet later
meet_on [] n g later h e = absurd (let bad : NoMore ≡ Gives g later = e in cc)
meet_on (Breaks ∷ es) n g later h e = absurd h
meet_on (Meets t ∷ es) n g later h e = by (nat_lt n goal_limit) t.fit e
  where
    by : (x y : Bool) → (if x then (if y then Gives (goal_at n t) es else Overflows) else OverLimit) ≡ Gives g later → AllMeet later
    by true true f = let same : es ≡ later = cc in subst AllMeet same h.1
    by true false f = absurd (let bad : Overflows ≡ Gives g later = f in cc)
    by false y f = absurd (let bad : OverLimit ≡ Gives g later = f in cc)

-- every number fits
pub no_overflow : (ahead : List Event) (n : ℕ) → AllMeet ahead → next_goal ahead n ≡ Overflows → ⊥
no_overflow [] n h e = let bad : NoMore ≡ Overflows = e in cc
no_overflow (Breaks ∷ es) n h e = absurd h
no_overflow (Meets t ∷ es) n h e = by (nat_lt n goal_limit) t.fit h.0 e
  where
    by : (x y : Bool) → y ≡ true → (if x then (if y then Gives (goal_at n t) es else Overflows) else OverLimit) ≡ Overflows → ⊥
    by true true r f = let bad : Gives (goal_at n t) es ≡ Overflows = f in cc
    by true false r f = let bad : false ≡ true = r in cc
    by false y r f = let bad : OverLimit ≡ Overflows = f in cc

-- and no goal is one too many, where there are so few
no_limit : (ahead : List Event) (n : ℕ) (gs : List Goal) → AllMeet ahead → Tell ahead gs n → n + length gs ≤ goal_limit → next_goal ahead n ≡ OverLimit → ⊥
no_limit [] n gs h tells few e = let bad : NoMore ≡ OverLimit = e in cc
no_limit (Breaks ∷ es) n gs h tells few e = absurd h
no_limit (Meets t ∷ es) n [] h tells few e = absurd tells
no_limit (Meets t ∷ es) n (g ∷ gs) h tells few e = by (nat_lt n goal_limit) t.fit refl e
  where
    by : (x y : Bool) → nat_lt n goal_limit ≡ x → (if x then (if y then Gives (goal_at n t) es else Overflows) else OverLimit) ≡ OverLimit → ⊥
    by true true r f = let bad : Gives (goal_at n t) es ≡ OverLimit = f in cc
    by true false r f = let bad : Overflows ≡ OverLimit = f in cc
    by false y r f = let late : goal_limit ≤ n = grind (arith, nat_tests) in omega (arith, late, few)

-- ---- of a core

-- all goals can be made: so many are few, and they come one after another
pub few_goals : (core : Core) → CanBeMade core → length (goals core) ≤ goal_limit
few_goals core none =
    let few = count 0 (goals_ahead (events_of core) 0) (omega arith) (coming_goals_fit core) in
    subst (λ (gs : List Goal). length gs ≤ goal_limit) (sym (all_goals core none)) (omega (arith, few))
  where
    count : (k : ℕ) (gs : List Goal) → k ≤ goal_limit → AreGoals k gs → k + length gs ≤ goal_limit
    count k [] le h = omega (arith, le)
    count k (g ∷ gs) le h = let less = h.1 in let rest = count (k + 1) gs (omega (arith, less)) h.3 in omega (arith, rest)

-- none is one too many, whether some are left or none
pub not_over : (core : Core) → CanBeMade core → (n : ℕ) (ahead : List Event) → AllMeet ahead → Tell ahead (drop n (goals core)) n → n ≤ goal_limit → next_goal ahead n ≡ OverLimit → ⊥
not_over core none n ahead h tells few e = by (drop n (goals core)) refl
  where
    told : (gs : List Goal) → drop n (goals core) ≡ gs → n + length gs ≤ goal_limit → ⊥
    told gs same le = no_limit ahead n gs h (subst (λ (hs : List Goal). Tell ahead hs n) same tells) le e

    by : (gs : List Goal) → drop n (goals core) ≡ gs → ⊥
    by [] same = told [] same (omega (arith, few))
    by (g ∷ gs) same =
        let left : length (drop n (goals core)) ≡ suc (length gs) = ap length same in
        let long = length-drop n (goals core) in
        let all = few_goals core none in
        told (g ∷ gs) same (omega (arith, left, long, all))

pub meet_first : (core : Core) → CanBeMade core → AllMeet (events_of core)
meet_first core none = all_meet (events_of core) 0 none

pub meet_after : (core : Core) (passed : ℕ) (trace : List Choice) → CanBeMade core → AllMeet (events_after core passed trace)
meet_after core passed trace none = all_behind core.agents passed core.tree [] (first_way core.agents) trace (meet_first core none)

-- behind lines of `verify`
pub meet_behind : (core : Core) → CanBeMade core → (n : ℕ) (ahead : List Event) (ls : List Line) (m : ℕ) (later : List Event) → AllMeet ahead → AreTaken core n ahead ls m later → AllMeet later
meet_behind core none n ahead [] m later h t = subst AllMeet (sym t.1) h
meet_behind core none n ahead (l ∷ ls) m later h t = meet_behind core none t.1 t.2 ls m later (by l t.0.later t.2 (meet_on ahead n t.0.goal t.0.later h t.0.comes) t.3) t.5
  where
    by : (line : Line) (after mid : List Event) → AllMeet after → LeadsTo core n t.0.goal after line t.1 mid → AllMeet mid
    by (Header version protocol agents) after mid x d = absurd d
    by (Refutation goal ms) after mid x d = subst AllMeet (sym d.1) x
    by (Cover goal passed ms) after mid x d = subst AllMeet (sym d.3) (meet_after core passed t.0.goal.trace none)
    by (Closing total) after mid x d = absurd d

-- and behind lines that a checker passes
pub meet_passed : (core : Core) → CanBeMade core → (version n : ℕ) (ahead : List Event) (ls : List Line) (m : ℕ) (later : List Event) → AllMeet ahead → AllPass core version n ahead ls m later → AllMeet later
meet_passed core none version n ahead [] m later h t = subst AllMeet (sym t.1) h
meet_passed core none version n ahead (l ∷ ls) m later h t = meet_passed core none version t.0 t.1 ls m later (by l t.0 t.1 t.2) t.3
  where
    by : (line : Line) (k : ℕ) (mid : List Event) → Passes core version n ahead line k mid → AllMeet mid
    by (Header v protocol agents) k mid p = absurd p
    by (Refutation goal ms) k mid p = meet_on ahead n p.0 mid h p.1
    by (Cover goal passed ms) k mid p = subst AllMeet (sym p.12) (meet_after core passed p.0.trace none)
    by (Closing total) k mid p = absurd p
