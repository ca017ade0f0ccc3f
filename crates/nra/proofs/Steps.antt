-- The ways out of the steps of a run, over plain values. Assumes nothing.
use Prim.Native.Nat.{ℕ, zero, suc, ◌+◌, ◌-◌, ◌<◌, ◌≤◌}
use mathlib.Core.Path.{◌≡◌, refl, sym, subst, ◌∙◌}
use mathlib.Core.List.{List}
use native.Mathlib.Nat.{sub-zero}
use native.Mathlib.Numerals.{add-one}
use native.Mathlib.Omega.{arith}
use lib.Ieee.{Float}
use Rattle.settings.specs.declared.Settings.{Settings}
use Rattle.interval.specs.declared.Interval.{Interval}
use Rattle.interval.specs.BoxLaws.{midpoints_set}
use lib.Seq.{set-set}
use Rattle.nra.specs.Answers.{tried}
use Rattle.nra.specs.declared.answer.Stop.{Stop}
use Rattle.nra.specs.Solver.{Problem, Answer, failed, State, Progress, Stopped, Going, begin_in, halve, steps, untried}
use Rattle.nra.specs.RunLaws.{Made, count_of, begin_in_counted, halve_counted, steps_stopped}

-- points that differ in one value
pub ruleset one_changed = (midpoints_set, set-set)

-- ---- a run
module _ (σ : Settings) (p : Problem) where
  pub begin_counts : (b : List Interval) {s : State} → Going s ≡ begin_in σ p b → s.halvings ≡ 0
  begin_counts b e = count_of (subst (Made 0) (sym e) (begin_in_counted σ p b))

  pub halve_counts : (s : State) {s' : State} → Going s' ≡ halve σ p s → s'.halvings ≡ s.halvings + 1
  halve_counts s e = count_of (subst (Made (suc s.halvings)) (sym e) (halve_counted σ p s)) ∙ sym (add-one s.halvings)

  module _ (n i : ℕ) (s : State) {g : Progress} (left : steps σ p (n - i) (Going s) ≡ g) where
    pub runs_on : {x : Progress} → i < n → x ≡ halve σ p s → steps σ p (n - (i + 1)) x ≡ g
    unfolding steps
    runs_on l e = let q : n - i ≡ suc (n - (i + 1)) = omega arith in rw e (rw q at left)

    pub breaks_off : {a : Answer} → i < n → Stopped a ≡ halve σ p s → Stopped a ≡ g
    breaks_off {a} l e = sym (steps_stopped σ p (n - (i + 1)) a) ∙ runs_on l e

    pub runs_out : n ≤ i → Going s ≡ g
    unfolding steps
    runs_out l = let q : n - i ≡ 0 = omega arith in rw q at left

pub ruleset run_steps = (begin_counts, halve_counts, steps_stopped, sub-zero, runs_on, breaks_off, runs_out)

-- ---- under a limit
pub tried_failed : (n : ℕ) (w : Stop) (r : Float) (h : ℕ) → failed w r h ≡ tried n (failed w r h)
unfolding tried untried
tried_failed zero w r h = refl
tried_failed (suc n) w r h = refl
