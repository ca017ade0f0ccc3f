-- The calls on a file and on records with bounds (document 01, "Refused"; document 02 [8]): the refusals in their order, then the answer.
-- σ are the settings, document 01's calls having `usual`; `room` is how many places there are for a point.
use Rattle.std.specs.Prelude.{ℕ, not, ◌&&◌, List, leb, Float, Result, Ok, Err}
use Rattle.std.specs.Float.Ieee.{is_nan}
use Rattle.record.specs.Refusal.{◌or_else◌, ◌unless◌, refused_or}
use Rattle.settings.specs.Settings.{settings_refusal}
use Rattle.settings.specs.declared.Settings.{Settings}
use Rattle.interval.specs.declared.Interval.{Interval}
use Rattle.interval.specs.Boxes.{intervals, are_boxes}
use Rattle.constraint.specs.Constraint.{Constraint, num_vars}
use Rattle.file.specs.File.{Read, Refused, Accepted, read_file, read_given}
use Rattle.nra.specs.Solver.{Problem, Answer, solve}
use Rattle.nra.specs.Answers.{problem}

-- 8: limit above 1,000,000 or NaN tolerance
unfoldable pub limit_refusal : ℕ → Float → ℕ
limit_refusal limit ε = 8 unless leb limit 1_000_000 && not (is_nan ε)

-- 14, a parameter outside its range, before it
unfoldable pub task_refusal : Settings → ℕ → Float → ℕ
task_refusal σ limit ε = settings_refusal σ or_else limit_refusal limit ε

-- 9: over 16 boxes, not as many lo as hi, or an unsound box
unfoldable pub boxes_refusal : List Float → List Float → ℕ
boxes_refusal lo hi = 9 unless are_boxes lo hi

-- 10: fewer places for a point than there are variables
unfoldable pub room_refusal : Constraint → ℕ → ℕ
room_refusal c room = 10 unless leb (num_vars c) room

abbrev pub answered_in : Settings → Problem → List Interval → ℕ → ℕ → Result Answer ℕ
answered_in σ p bounds limit room = refused_or (room_refusal p.constraint room) Err (Ok (solve σ p bounds limit))

-- what was read, then the later refusals, then the answer
abbrev pub answered_by : Read → (Constraint → ℕ) → (Constraint → List Interval → Answer) → Result Answer ℕ
answered_by (Refused r) later answer = Err r
answered_by (Accepted c bounds) later answer = refused_or (later c) Err (Ok (answer c bounds))

unfoldable pub solve_file : Settings → List ℕ → ℕ → Float → ℕ → Result Answer ℕ
solve_file σ file limit ε room =
    answered_by (read_file file) (λ c. task_refusal σ limit ε or_else room_refusal c room) λ c bounds. solve σ (problem c ε) bounds limit

unfoldable pub solve_given : Settings → List ℕ → List ℕ → List Float → List Float → ℕ → Float → ℕ → Result Answer ℕ
solve_given σ nodes b lo hi limit ε room =
    answered_by (read_given nodes b) (λ c. task_refusal σ limit ε or_else boxes_refusal lo hi or_else room_refusal c room) λ c none. solve σ (problem c ε) (intervals lo hi) limit
