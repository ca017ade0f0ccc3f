-- A point has no more values than its problem has variables, so no more than there is room for. Assumes nothing.
use Rattle.std.specs.Prelude.{◌≡◌, ℕ, zero, suc, ◌≤◌, Bool, true, false, List, [], length, Float, Result, Ok, Err, IfOk}
use Rattle.std.proofs.Common.{refl, arith, leb-true, length-set}
use Rattle.record.specs.Refusal.{refused_or}
use Rattle.record.specs.RefusalLaws.{none_both, none_unless}
use Rattle.settings.specs.declared.Settings.{Settings}
use Rattle.interval.specs.declared.Interval.{Interval}
use Rattle.interval.specs.Boxes.{intervals}
use Rattle.interval.specs.Choices.{either}
use Rattle.interval.specs.BoxLaws.{starting_length, midpoints_length}
use Rattle.constraint.specs.Constraint.{Constraint, num_vars}
use Rattle.file.specs.File.{Read, Refused, Accepted, read_file, read_given}
use Rattle.narrow.specs.Lengths.{propagate_length}
use Rattle.nra.specs.Solver.{Problem, Answer, assignment, failed, State, Progress, Stopped, Going, begin_checked, begin_narrowed, begin_in, begin_empty, begin_at, begin, halved, settle_checked, settle_narrowed, settle_in, halve, steps, finish, run, untried, solve}
use Rattle.nra.specs.Answers.{problem}
use Rattle.nra.specs.Calls.{task_refusal, boxes_refusal, room_refusal, answered_by, solve_file, solve_given}

abbrev pub point_of : Answer → List Float
point_of (assignment m exact h) = m
point_of (failed w r h) = []

-- halving keeps the number of boxes
halved_keeps : (σ : Settings) (c : Constraint) (b : List Interval) → length (halved σ c b) ≡ length b
unfolding halved
halved_keeps σ c b = either (λ (r : List Interval). length r ≡ length b) _ _ _ (length-set b _ _) (length-set b _ _)

-- ---- a run in n boxes
module _ (σ : Settings) (p : Problem) (n : ℕ) where
  abbrev Few : Answer → Type 0
  Few a = length (point_of a) ≤ n

  abbrev Within : Progress → Type 0
  Within (Stopped a) = Few a
  Within (Going s) = length s.boxes ≤ n

  begin_checked_few : (b : List Interval) (passes : Bool) → length b ≤ n → Within (begin_checked p b passes)
  unfolding begin_checked
  begin_checked_few b true l = omega (arith, midpoints_length b)
  begin_checked_few b false l = l

  begin_narrowed_few : (met : Bool) (b : List Interval) → length b ≤ n → Within (begin_narrowed σ p met b)
  unfolding begin_narrowed
  begin_narrowed_few true b l = omega arith
  begin_narrowed_few false b l = begin_checked_few b _ l

  begin_few : (b : List Interval) → length b ≤ n → Within (begin_in σ p b)
  unfolding begin_in
  begin_few b l = begin_narrowed_few _ _ (omega (arith, propagate_length σ p.constraint b))

  settle_checked_few : (h : ℕ) (b : List Interval) (passes narrow : Bool) → length b ≤ n → Within (settle_checked σ p h b passes narrow)
  unfolding settle_checked
  settle_checked_few h b true narrow l = omega (arith, midpoints_length b)
  settle_checked_few h b false true l = omega arith
  settle_checked_few h b false false l = l

  settle_narrowed_few : (h : ℕ) (met : Bool) (b : List Interval) → length b ≤ n → Within (settle_narrowed σ p h met b)
  unfolding settle_narrowed
  settle_narrowed_few h true b l = omega arith
  settle_narrowed_few h false b l = settle_checked_few h b _ _ l

  halve_few : (s : State) → length s.boxes ≤ n → Within (halve σ p s)
  unfolding halve settle_in
  halve_few s l = settle_narrowed_few _ _ _ (omega (arith, propagate_length σ p.constraint (halved σ p.constraint s.boxes), halved_keeps σ p.constraint s.boxes))

  pub run_few : (limit : ℕ) (g : Progress) → Within g → Few (run σ p limit g)
  unfolding run steps finish
  run_few zero (Stopped a) w = w
  run_few zero (Going s) w = omega arith
  run_few (suc k) (Stopped a) w = w
  run_few (suc k) (Going s) w = run_few k (halve σ p s) (halve_few s w)

  untried_few : (v : ℕ) (a : Answer) → Few a → Few (untried v a)
  unfolding untried
  untried_few zero a f = f
  untried_few (suc v) (assignment m exact h) f = f
  untried_few (suc v) (failed w r h) f = f

-- ---- the whole
module _ (σ : Settings) (p : Problem) (bounds : List Interval) where
  pub begin_empty_few : (passes : Bool) → Within σ p 0 (Stopped (begin_empty passes))
  unfolding begin_empty
  begin_empty_few true = omega arith
  begin_empty_few false = omega arith

  begin_at_few : (v : ℕ) → Within σ p v (begin_at σ p bounds v)
  unfolding begin_at
  begin_at_few zero = begin_empty_few _
  begin_at_few (suc v) = begin_few σ p (suc v) _ (omega (arith, starting_length (suc v) bounds))

  pub solve_few : (limit : ℕ) → length (point_of (solve σ p bounds limit)) ≤ num_vars p.constraint
  unfolding solve begin
  solve_few zero = untried_few σ p _ _ _ (run_few σ p _ 0 _ (begin_at_few _))
  solve_few (suc limit) = run_few σ p _ (suc limit) _ (begin_at_few _)

-- ---- the calls
abbrev pub Fits : ℕ → Result Answer ℕ → Type 0
Fits room x = IfOk x (λ a. length (point_of a) ≤ room)

room_enough : (c : Constraint) (room : ℕ) → room_refusal c room ≡ 0 → num_vars c ≤ room
unfolding room_refusal
room_enough c room e = leb-true _ _ (none_unless 9 _ e)

module _ (room : ℕ) (answer : Constraint → List Interval → Answer) (few : (c : Constraint) (bs : List Interval) → length (point_of (answer c bs)) ≤ num_vars c) where
  or_fits : (c : Constraint) (bs : List Interval) (r : ℕ) → (r ≡ 0 → num_vars c ≤ room) → Fits room (refused_or r Err (Ok (answer c bs)))
  or_fits c bs zero h = omega (arith, few c bs, h refl)
  or_fits c bs (suc r) h = tt

  answered_fits : (x : Read) (later : Constraint → ℕ) → ((c : Constraint) → later c ≡ 0 → num_vars c ≤ room) → Fits room (answered_by x later answer)
  answered_fits (Refused r) later h = tt
  answered_fits (Accepted c bs) later h = or_fits c bs (later c) (h c)

module _ (σ : Settings) (limit : ℕ) (ε : Float) (room : ℕ) where
  pub file_fits : (file : List ℕ) → Fits room (solve_file σ file limit ε room)
  unfolding solve_file
  file_fits file = answered_fits room _ (λ c bs. solve_few σ (problem c ε) bs limit) (read_file file) _ (λ c e. room_enough c room (none_both (task_refusal σ limit ε) _ e).1)

  pub given_fits : (nodes b : List ℕ) (lo hi : List Float) → Fits room (solve_given σ nodes b lo hi limit ε room)
  unfolding solve_given
  given_fits nodes b lo hi =
      answered_fits room _ (λ c bs. solve_few σ (problem c ε) (intervals lo hi) limit) (read_given nodes b) _
      (λ c e. room_enough c room (none_both (boxes_refusal lo hi) _ (none_both (task_refusal σ limit ε) _ e).1).1)
