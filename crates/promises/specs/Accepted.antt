-- What an accepted file says, and accepted records: the problem, that it is fair, and that the calls answer it as the definition does. Assumes nothing.
use Rattle.std.specs.Prelude.{◌≡◌, refl, ℕ, zero, suc, ◌-◌, ◌/◌, ◌≤◌, true, List, [], ◌∷◌, ◌++◌, length, Float, Ok, Err}
use Rattle.std.proofs.Common.{arith}
use Rattle.number.specs.Order.{passed}
use Rattle.record.specs.Refusal.{◌or_else◌, refused_or}
use Rattle.record.specs.RefusalLaws.{none_both, none_unless}
use Rattle.settings.specs.declared.Settings.{Settings}
use Rattle.interval.specs.declared.Interval.{Interval}
use Rattle.interval.specs.Inside.{Sound, Each, boxes_sound}
use Rattle.interval.specs.Boxes.{intervals, are_boxes}
use Rattle.interval.specs.BoxLaws.{boxes_all_sound}
use Rattle.constraint.specs.Constraint.{Constraint}
use Rattle.file.specs.File.{nodes_of, constraints_of, bounds_of, constraint_count, bound_count, bound_at, bounds, refusal, left, Accepted, read_by, read_file, given_refusal, read_given}
use Rattle.file.specs.FileLaws.{bound_sound, read_is, given_is}
use Rattle.narrow.specs.Held.{constraint_held}
use Rattle.nra.specs.Solver.{Problem, Answer, solve}
use Rattle.nra.specs.Answers.{problem}
use Rattle.nra.specs.Calls.{task_refusal, boxes_refusal, room_refusal, answered_by, solve_file, solve_given}
use Rattle.eml.specs.Answers.{number_of}
use Rattle.promises.specs.Assignments.{Fair}

-- an answer is the definition's: nothing was refused
accepted : (r : ℕ) (c : Constraint) (bs : List Interval) (later : Constraint → ℕ) (f : Constraint → List Interval → Answer) (a : Answer) → answered_by (read_by r (Accepted c bs)) later f ≡ Ok a → (r ≡ 0) × (later c ≡ 0)
accepted zero c bs later f a e = (refl, by (later c) e)
  where
    by : (q : ℕ) → refused_or q Err (Ok (f c bs)) ≡ Ok a → q ≡ 0
    by zero e = refl
    by (suc q) e = cc
accepted (suc r) c bs later f a e = cc

-- and what comes back with no refusal's number is an answer
pub not_refused : (r : ℕ) (c : Constraint) (bs : List Interval) (later : Constraint → ℕ) (f : Constraint → List Interval → Answer) → number_of (answered_by (read_by r (Accepted c bs)) later f) ≡ 0 → answered_by (read_by r (Accepted c bs)) later f ≡ Ok (f c bs)
not_refused zero c bs later f e = by (later c) e
  where
    by : (q : ℕ) → number_of (refused_or q Err (Ok (f c bs))) ≡ 0 → refused_or q Err (Ok (f c bs)) ≡ Ok (f c bs)
    by zero e = refl
    by (suc q) e = absurd (omega arith)
not_refused (suc r) c bs later f e = absurd (omega arith)

each_more : (P : Interval → Type 0) (b : List Interval) (i : Interval) → Each P b → P i → Each P (b ++ i ∷ [])
each_more P [] i h k = (k, tt)
each_more P (x ∷ xs) i h k = (h.0, each_more P xs i h.1 k)

-- the bounds of an accepted file are sound
all_bounds : (file : List ℕ) → refusal file ≡ 0 → (n : ℕ) → n ≤ bound_count file → Each Sound (bounds (bounds_of file) n)
unfolding bounds
all_bounds file e zero h = tt
all_bounds file e (suc n) h = each_more Sound (bounds (bounds_of file) n) (bound_at (bounds_of file) n) (all_bounds file e n (omega arith)) (passed (bound_sound file e n h))

-- and so are a caller's boxes
pub given_sound : (lo hi : List Float) → are_boxes lo hi ≡ true → Each Sound (intervals lo hi)
given_sound lo hi e = boxes_sound (intervals lo hi) (passed (boxes_all_sound lo hi e))

-- ---- the call on a file
-- what an accepted file says
unfoldable pub file_problem : List ℕ → Float → Problem
file_problem file ε = problem (left (nodes_of file) (constraints_of file) (constraint_count file)) ε

abbrev pub file_bounds : List ℕ → List Interval
file_bounds file = bounds (bounds_of file) (bound_count file)

module _ (σ : Settings) (file : List ℕ) (ε : Float) (L room : ℕ) {x : Answer} (taken : solve_file σ file L ε room ≡ Ok x) where
  file_accepted : (refusal file ≡ 0) × (task_refusal σ L ε or_else room_refusal (file_problem file ε).constraint room ≡ 0)
  unfolding solve_file read_file file_problem
  file_accepted = accepted (refusal file) _ _ (λ c. task_refusal σ L ε or_else room_refusal c room) _ x taken

  is_solved : solve_file σ file L ε room ≡ Ok (solve σ (file_problem file ε) (file_bounds file) L)
  unfolding solve_file file_problem
  is_solved = rw (read_is file file_accepted.0, file_accepted.1)

  pub file_answer : x ≡ solve σ (file_problem file ε) (file_bounds file) L
  file_answer = cc (is_solved, taken)

  pub file_fair : Fair (file_problem file ε) (file_bounds file)
  unfolding file_problem
  file_fair = record { constants = constraint_held (nodes_of file) (constraints_of file) (constraint_count file - 1); ranges = all_bounds file file_accepted.0 (bound_count file) (omega arith) }

pub file_taken : (σ : Settings) (file : List ℕ) (ε : Float) (L room : ℕ) → number_of (solve_file σ file L ε room) ≡ 0 → solve_file σ file L ε room ≡ Ok (solve σ (file_problem file ε) (file_bounds file) L)
unfolding solve_file read_file file_problem
file_taken σ file ε L room e = not_refused (refusal file) _ _ (λ c. task_refusal σ L ε or_else room_refusal c room) _ e

-- ---- the call on records with bounds
unfoldable pub given_problem : List ℕ → List ℕ → Float → Problem
given_problem nodes b ε = problem (left nodes b (length b / 24)) ε

module _ (σ : Settings) (nodes b : List ℕ) (lo hi : List Float) (ε : Float) (L room : ℕ) {x : Answer} (taken : solve_given σ nodes b lo hi L ε room ≡ Ok x) where
  given_accepted : (given_refusal nodes b ≡ 0) × (task_refusal σ L ε or_else boxes_refusal lo hi or_else room_refusal (given_problem nodes b ε).constraint room ≡ 0)
  unfolding solve_given read_given given_problem
  given_accepted = accepted (given_refusal nodes b) _ _ (λ c. task_refusal σ L ε or_else boxes_refusal lo hi or_else room_refusal c room) _ x taken

  given_solved : solve_given σ nodes b lo hi L ε room ≡ Ok (solve σ (given_problem nodes b ε) (intervals lo hi) L)
  unfolding solve_given given_problem
  given_solved = rw (given_is nodes b given_accepted.0, given_accepted.1)

  pub given_answer : x ≡ solve σ (given_problem nodes b ε) (intervals lo hi) L
  given_answer = cc (given_solved, taken)

  boxes_accepted : are_boxes lo hi ≡ true
  unfolding boxes_refusal
  boxes_accepted = none_unless 8 (are_boxes lo hi) (none_both (boxes_refusal lo hi) _ (none_both (task_refusal σ L ε) _ given_accepted.1).1).0

  pub given_fair : Fair (given_problem nodes b ε) (intervals lo hi)
  unfolding given_problem
  given_fair = record { constants = constraint_held nodes b (length b / 24 - 1); ranges = given_sound lo hi boxes_accepted }

pub given_taken : (σ : Settings) (nodes b : List ℕ) (lo hi : List Float) (ε : Float) (L room : ℕ) → number_of (solve_given σ nodes b lo hi L ε room) ≡ 0 → solve_given σ nodes b lo hi L ε room ≡ Ok (solve σ (given_problem nodes b ε) (intervals lo hi) L)
unfolding solve_given read_given given_problem
given_taken σ nodes b lo hi ε L room e = not_refused (given_refusal nodes b) _ _ (λ c. task_refusal σ L ε or_else boxes_refusal lo hi or_else room_refusal c room) _ e
