-- What a run has made at each step: its count of halvings, at which it does not stop with "limit". Assumes nothing.
use Rattle.std.specs.Prelude.{◌≡◌, ℕ, zero, suc, Bool, true, false, List}
use Rattle.std.proofs.Common.{refl, ap}
use Rattle.settings.specs.declared.Settings.{Settings}
use Rattle.interval.specs.declared.Interval.{Interval}
use Rattle.nra.specs.Solver.{Problem, Answer, halvings_of, reached, State, Progress, Stopped, Going, begin_checked, begin_narrowed, begin_in, begin_empty, begin_at, begin, settle_checked, settle_narrowed, settle_in, halve, steps, finish, run}

-- a run that has made h halvings, and has not stopped at the limit
pub data Made (h : ℕ) : Progress → Type 0 where
  stopped : {a : Answer} → halvings_of a ≡ h → reached a ≡ false → Made h (Stopped a)
  going : {s : State} → s.halvings ≡ h → Made h (Going s)

pub count_of : {h : ℕ} {s : State} → Made h (Going s) → s.halvings ≡ h
count_of (going e) = e

module _ (σ : Settings) (p : Problem) where
  -- ---- before the first halving
  begin_checked_counted : (b : List Interval) (passes : Bool) → Made 0 (begin_checked p b passes)
  unfolding begin_checked
  begin_checked_counted b true = stopped refl refl
  begin_checked_counted b false = going refl

  begin_narrowed_counted : (conflict : Bool) (b : List Interval) → Made 0 (begin_narrowed σ p conflict b)
  unfolding begin_narrowed
  begin_narrowed_counted true b = stopped refl refl
  begin_narrowed_counted false b = begin_checked_counted b _

  pub begin_in_counted : (b : List Interval) → Made 0 (begin_in σ p b)
  unfolding begin_in
  begin_in_counted b = begin_narrowed_counted _ _

  begin_empty_counted : (passes : Bool) → Made 0 (Stopped (begin_empty passes))
  unfolding begin_empty
  begin_empty_counted true = stopped refl refl
  begin_empty_counted false = stopped refl refl

  begin_at_counted : (bounds : List Interval) (v : ℕ) → Made 0 (begin_at σ p bounds v)
  unfolding begin_at
  begin_at_counted bounds zero = begin_empty_counted _
  begin_at_counted bounds (suc v) = begin_in_counted _

  pub begin_counted : (bounds : List Interval) → Made 0 (begin σ p bounds)
  unfolding begin
  begin_counted bounds = begin_at_counted bounds _

  -- ---- a halving
  settle_checked_counted : (h : ℕ) (b : List Interval) (passes narrow : Bool) → Made h (settle_checked σ p h b passes narrow)
  unfolding settle_checked
  settle_checked_counted h b true n = stopped refl refl
  settle_checked_counted h b false true = stopped refl refl
  settle_checked_counted h b false false = going refl

  settle_narrowed_counted : (h : ℕ) (conflict : Bool) (b : List Interval) → Made h (settle_narrowed σ p h conflict b)
  unfolding settle_narrowed
  settle_narrowed_counted h true b = stopped refl refl
  settle_narrowed_counted h false b = settle_checked_counted h b _ _

  pub halve_counted : (s : State) → Made (suc s.halvings) (halve σ p s)
  unfolding halve settle_in
  halve_counted s = settle_narrowed_counted (suc s.halvings) _ _

  -- ---- what has stopped stays
  pub steps_stopped : (n : ℕ) (a : Answer) → steps σ p n (Stopped a) ≡ Stopped a
  unfolding steps
  steps_stopped zero a = refl
  steps_stopped (suc n) a = refl

  pub run_stopped : (n : ℕ) (a : Answer) → run σ p n (Stopped a) ≡ a
  unfolding run finish
  run_stopped n a = ap (finish σ p) (steps_stopped n a)
