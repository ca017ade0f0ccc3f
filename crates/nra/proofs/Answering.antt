-- From the answer of a run to that of the whole, over plain values. Assumes nothing.
use Prim.Native.Nat.{ℕ, zero, suc, ◌-◌, ◌≤◌}
use mathlib.Core.Path.{◌≡◌, refl, sym}
use mathlib.Core.List.{List, []}
use native.Mathlib.Omega.{arith}
use Rattle.settings.specs.declared.Settings.{Settings}
use Rattle.interval.specs.declared.Interval.{Interval}
use Rattle.interval.specs.Boxes.{starting}
use Rattle.constraint.specs.Constraint.{num_vars}
use Rattle.constraint.specs.Views.{the_constraint}
use Rattle.constraint.specs.VarLaws.{vars_few}
use Rattle.constraint.specs.declared.records.Records.{Records}
use Rattle.point.specs.Check.{check}
use Rattle.nra.specs.Solver.{Problem, Answer, assignment, failed, Stopped, begin_empty, begin_in, begin_at, begin, steps, finish, run, untried, solve}
use Rattle.nra.specs.Answers.{tried, tried_in}

-- of records that passed, at most 16 variables
pub few_vars : (r : Records) → num_vars (the_constraint r) ≤ 16
few_vars r = vars_few r (r.count - 1) (omega (arith, r.some))

-- ---- the whole
module _ (σ : Settings) (p : Problem) (bounds : List Interval) where
  empty_begun : num_vars p.constraint ≡ 0 → begin σ p bounds ≡ Stopped (begin_empty (check σ [] p.constraint))
  unfolding begin begin_at
  empty_begun e = rw e refl

  pub empty_solved : (limit : ℕ) → num_vars p.constraint ≡ 0 → begin_empty (check σ [] p.constraint) ≡ solve σ p bounds limit
  unfolding solve run steps finish untried
  empty_solved zero e = rw (empty_begun e, e) refl
  empty_solved (suc n) e = rw (empty_begun e) refl

  begun : (n : ℕ) → num_vars p.constraint ≡ suc n → begin σ p bounds ≡ begin_in σ p (starting (suc n) bounds)
  unfolding begin begin_at
  begun n e = rw e refl

  untried_some : (n : ℕ) (a : Answer) → untried 1 a ≡ untried (suc n) a
  unfolding untried
  untried_some n (assignment m exact h) = refl
  untried_some n (failed w r h) = refl

  some_solved : (limit n : ℕ) → num_vars p.constraint ≡ suc n → tried_in σ p limit (starting (suc n) bounds) ≡ solve σ p bounds limit
  unfolding solve tried
  some_solved zero n e = rw (begun n e, e) (untried_some n _)
  some_solved (suc l) n e = rw (begun n e) refl

  pub boxes_solved : (limit n : ℕ) (b : List Interval) → (n ≡ 0 → ⊥) → n ≡ num_vars p.constraint → b ≡ starting n bounds → tried_in σ p limit b ≡ solve σ p bounds limit
  boxes_solved limit zero b k e q = absurd (k refl)
  boxes_solved limit (suc n) b k e q = rw q (some_solved limit n (sym e))

pub ruleset solving = (empty_solved, boxes_solved)
