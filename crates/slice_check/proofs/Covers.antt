-- The rows that the short form of a goal's line refutes, and the goals that they refute.
use Rattle.std.proofs.Common.{◌≡◌, ◌∙◌, ℕ, zero, suc, ◌+◌, ◌<◌, arith, refl, sym, ap, subst, List, ◌++◌, length, take, ℤ, Option, Some, None, inr}
use Rattle.std.specs.List.{Contains}
use Rattle.slice_num.specs.declared.choice.Choice.{Choice}
use Rattle.slice_core.specs.Tree.{Core}
use Rattle.slice_linear.specs.Rows.{LinearRow, HaveNoSolution, Refutes}
use Rattle.slice_linear.proofs.Motzkin.{refuted_rows_have_no_solution}
use Rattle.slice_paths.specs.FrontLaws.{CoversAreFronts, GoalsHaveCovers, ShortFormsRefute}
use Rattle.slice_paths.specs.Fronts.{Shares, cover_rows, front_of}
use Rattle.slice_paths.specs.Goals.{Goal, goals}
use Rattle.slice_paths.specs.RunLaws.{IsRefuted}
use Rattle.slice_cert.specs.ShortForms.{needed, used}
use Rattle.slice_cert.proofs.Used.{zero_past}

none_some : {A : Type 0} {P : Type 0} (o : Option A) (x : A) → o ≡ None → o ≡ Some x → P
none_some o x e f = let h : ◌≡◌ {A = Option _} None (Some x) = sym e ∙ f in absurd cc

same_some : {A : Type 0} (o : Option A) (x y : A) → o ≡ Some x → o ≡ Some y → x ≡ y
same_some o x y e f = let h : Some x ≡ Some y = sym e ∙ f in cc

-- the rows behind as many passed choices as the multipliers need
pub record HasCover (core : Core) (g : Goal) (m : List ℤ) : Type 0 where
  pub rows : List LinearRow
  pub are : cover_rows core (needed core.agents m) g.trace ≡ Some rows
  pub long : length rows ≡ 1 + core.agents + needed core.agents m

-- a goal has them where the multiplier of its own row is 0
pub has_cover : GoalsHaveCovers → (core : Core) (g : Goal) (m : List ℤ) → Contains (goals core) g → length m ≡ length g.rows → used m < length m → HasCover core g m
has_cover have core g m is long few = by (cover_rows core (needed core.agents m) g.trace) refl
  where
    some : (k : ℕ) → k ≡ needed core.agents m → cover_rows core k g.trace ≡ None → ⊥
    some zero e h = absurd cc
    some (suc k) e h = (have core g (suc k) is).2 (omega (arith, e, few, long)) h

    by : (o : Option (List LinearRow)) → cover_rows core (needed core.agents m) g.trace ≡ o → HasCover core g m
    by None e = absurd (some (needed core.agents m) refl e)
    by (Some rows) e = record { rows = rows; are = e; long = (have core g (needed core.agents m) is).1 rows e }

-- the multipliers that the short form keeps refute them
pub cover_refuted : ShortFormsRefute → (core : Core) (g : Goal) (m : List ℤ) (c : HasCover core g m) → Contains (goals core) g → Refutes g.rows m → Refutes c.rows (take (1 + core.agents + needed core.agents m) m)
cover_refuted short core g m c is r =
    let long = c.long in
    subst (λ (k : ℕ). Refutes c.rows (take k m)) c.long (short core g (needed core.agents m) c.rows m is c.are r (λ i le. zero_past m i (omega (arith, le, long))))

-- the goal has so many passed choices
pub has_front : CoversAreFronts → (core : Core) (g : Goal) (m : List ℤ) → HasCover core g m → front_of (needed core.agents m) core.tree g.trace ≡ None → ⊥
has_front fronts core g m c e =
    let f = fronts core (needed core.agents m) g.trace c.rows c.are in
    none_some (front_of (needed core.agents m) core.tree g.trace) f.0 e f.2

-- and each goal with the same ones is refuted
pub shared_refuted : CoversAreFronts → GoalsHaveCovers → (core : Core) (passed : ℕ) (trace : List Choice) (rows : List LinearRow) (m : List ℤ) → cover_rows core passed trace ≡ Some rows → Refutes rows m
    → (h : Goal) → Contains (goals core) h → Shares core passed trace h → IsRefuted core h
shared_refuted fronts have core passed trace rows m are r h is share = by (cover_rows core passed h.trace) refl
  where
    front : List Choice
    front = (fronts core passed trace rows are).0

    front_is : front_of passed core.tree h.trace ≡ Some front
    front_is = share ∙ (fronts core passed trace rows are).2

    by : (o : Option (List LinearRow)) → cover_rows core passed h.trace ≡ o → IsRefuted core h
    by None e = none_some (front_of passed core.tree h.trace) front ((have core h passed is).0.0 e) front_is
    by (Some others) e =
        let x = fronts core passed h.trace others e in
        let same : x.0 ≡ front = same_some (front_of passed core.tree h.trace) x.0 front x.2 front_is in
        inr (
          front,
          x.1,
          ap (λ (cs : List Choice). cs ++ x.1) (sym same) ∙ x.3,
          subst HaveNoSolution (fronts core passed trace rows are).4 (refuted_rows_have_no_solution rows m r),
        )
