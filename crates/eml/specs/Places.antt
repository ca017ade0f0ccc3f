-- What the calls that answer with a point return and leave: the answer's refusal and the places as they were; or 0, and the answer in them. The
-- point's values come to the first places, and those after them stay.
use Rattle.std.specs.Prelude.{ℕ, Bool, false, ◌≡◌, List, length, Float, Result, Ok, Err}
use Rattle.std.proofs.Math.Seq.{paste}
use Rattle.std.specs.Borrow.{MutBor}
use denote.Triple.Both.{Both}
use Rattle.number.specs.Notation.{whole}
use Rattle.record.specs.Leaving.{Leaving, ◌leaving◌}
use Rattle.nra.specs.Solver.{Answer, assignment, failed}
use Rattle.nra.specs.Answers.{stop_number}
use Rattle.decide.specs.Deciding.{QuantResult, point_of, verdict_number}
use Rattle.record.specs.Views.{old, final}

abbrev pub with_point : List Float → List Float → List Float
with_point values places = paste places 0 values (length values)

-- ---- the solver
pub record Solution : Type 0 where
  pub stop : ℕ
  pub exact : Bool
  pub residual : Float
  pub halvings : ℕ
  pub count : ℕ
  pub point : List Float

-- an assignment has no residual, which is 0 then; any other answer has neither exactness nor point
abbrev pub solution_of : Answer → List Float → Solution
solution_of (assignment m exact h) places =
    record { stop = stop_number (assignment m exact h); exact = exact; residual = whole 0; halvings = h; count = length m; point = with_point m places }
solution_of (failed w r h) places =
    record { stop = stop_number (failed w r h); exact = false; residual = r; halvings = h; count = 0; point = places }

abbrev pub solved : Result Answer ℕ → Solution → Leaving ℕ Solution
solved (Ok a) old = 0 leaving solution_of a old.point
solved (Err r) old = r leaving old

module _ (stop : Both (MutBor ℕ) (MutBor ℕ)) (exact : Both (MutBor Bool) (MutBor Bool)) (residual : Both (MutBor Float) (MutBor Float)) (halvings count : Both (MutBor ℕ) (MutBor ℕ)) (point : Both (MutBor (List Float)) (MutBor (List Float))) where
  abbrev pub solution_before : Solution
  solution_before =
      record { stop = old stop; exact = old exact; residual = old residual; halvings = old halvings; count = old count; point = old point }

  abbrev pub solution_after : Solution
  solution_after =
      record { stop = final stop; exact = final exact; residual = final residual; halvings = final halvings; count = final count; point = final point }

  -- the number r comes back, and the places are left with what s answers
  abbrev pub Solves : ℕ → Result Answer ℕ → Type 0
  Solves r s = (r leaving solution_after) ≡ solved s solution_before

-- ---- a decision
pub record Decision : Type 0 where
  pub verdict : ℕ
  pub count : ℕ
  pub point : List Float

abbrev pub decision_of : QuantResult → List Float → Decision
decision_of q places = record { verdict = verdict_number q; count = length (point_of q); point = with_point (point_of q) places }

abbrev pub decided : Result QuantResult ℕ → Decision → Leaving ℕ Decision
decided (Ok q) old = 0 leaving decision_of q old.point
decided (Err r) old = r leaving old

module _ (verdict count : Both (MutBor ℕ) (MutBor ℕ)) (point : Both (MutBor (List Float)) (MutBor (List Float))) where
  abbrev pub decision_before : Decision
  decision_before = record { verdict = old verdict; count = old count; point = old point }

  abbrev pub decision_after : Decision
  decision_after = record { verdict = final verdict; count = final count; point = final point }

  abbrev pub Decides : ℕ → Result QuantResult ℕ → Type 0
  Decides r d = (r leaving decision_after) ≡ decided d decision_before
