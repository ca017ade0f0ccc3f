-- What the code holds and gives back: what it is asked, where a run stands, and an answer.
use Rattle.std.specs.Prelude.{◌≡◌, ℕ, zero, suc, true, false, List, Float, Result, Ok, Err}
use Rattle.std.specs.declared.ops.ControlFlow.{ControlFlow}
use Rattle.std.specs.declared.ops.ControlFlow.TheVariants.{Break, Continue}
use Rattle.number.specs.Notation.{+∞}
use Rattle.settings.specs.declared.Settings.{Settings}
use Rattle.record.specs.Refused.{number_of}
use Rattle.record.specs.declared.refusal.Refusal.{Refusal}
use Rattle.interval.specs.declared.Interval.{Interval}
use Rattle.interval.specs.declared.domain.Domain.{Domain}
use Rattle.interval.specs.declared.point.Point.{Point}
use Rattle.interval.specs.Boxes.{midpoints}
use Rattle.interval.specs.Views.{intervals_of, values_of}
use Rattle.constraint.specs.Constraint.{Constraint}
use Rattle.constraint.specs.Views.{the_constraint}
use Rattle.narrow.specs.Narrowing.{Narrowed, is_conflict, propagate}
use Rattle.nra.specs.declared.halving.Task.{Task}
use Rattle.nra.specs.declared.run.State as Held
use Rattle.nra.specs.declared.answer.Stop.{Stop}
use Rattle.nra.specs.declared.answer.Solved.{Solved}
use Rattle.nra.specs.Solver.{Problem, Answer, assignment, failed, State, Progress, Stopped, Going, begin_in, run, untried}

abbrev pub problem : Constraint → Float → Problem
problem c ε = record { constraint = c; tolerance = ε }

-- what a task asks
abbrev pub asked : Task → Problem
asked t = problem (the_constraint t.records) t.tolerance

-- it asks of c under that limit and tolerance, with the settings σ
pub record Asks (σ : Settings) (c : Constraint) (most : ℕ) (ε : Float) (t : Task) : Type 0 where
  pub constraint_is : the_constraint t.records ≡ c
  pub settings_are : t.settings ≡ σ
  pub limit_is : t.limit ≡ most
  pub tolerance_is : t.tolerance ≡ ε

-- ---- an answer
abbrev pub answer_of : Solved → Answer
answer_of (Solved.Assignment point exact h) = assignment (values_of point) exact h
answer_of (Solved.Failed stop r h) = failed stop r h

-- an answer, or the number of a refusal
abbrev pub answered : Result Solved Refusal → Result Answer ℕ
answered (Ok s) = Ok (answer_of s)
answered (Err r) = Err (number_of r)

-- where a stop word goes out as a number: document 01's order, of "assignment" and of the others
abbrev pub assignment_word : ℕ
assignment_word = 0

abbrev pub word_number : Stop → ℕ
word_number Stop.Conflict = 1
word_number Stop.Tolerance = 2
word_number Stop.Limit = 3
word_number Stop.Unsatisfied = 4

abbrev pub stop_number : Answer → ℕ
stop_number (assignment m exact h) = assignment_word
stop_number (failed w r h) = word_number w

-- ---- where a run stands
abbrev pub state_of : Held.State → State
state_of s = record { boxes = intervals_of s.boxes; halvings = s.halvings }

abbrev pub progress_of : ControlFlow Solved Held.State → Progress
progress_of (Continue s) = Going (state_of s)
progress_of (Break a) = Stopped (answer_of a)

-- what narrowing answers and leaves
abbrev pub narrowed : Task → Domain → Narrowed
narrowed t d = propagate t.settings (the_constraint t.records) (intervals_of d)

-- from the boxes d it meets no conflict, and leaves as many, e, of which m is the midpoint
pub record Narrows (t : Task) (d e : Domain) (m : Point) : Type 0 where
  pub none : is_conflict (narrowed t d).answer ≡ false
  pub kept : e.count.n ≡ d.count.n
  pub boxes : intervals_of e ≡ (narrowed t d).places
  pub middle : values_of m ≡ midpoints (intervals_of e)

-- it meets a conflict after h halvings, and a says so
pub record Conflicts (t : Task) (d : Domain) (h : ℕ) (a : Solved) : Type 0 where
  pub met : is_conflict (narrowed t d).answer ≡ true
  pub answer : answer_of a ≡ failed Stop.Conflict +∞ h

-- an answer under a limit, where there are variables: under 0 it is never exact
unfoldable pub tried : ℕ → Answer → Answer
tried zero a = untried 1 a
tried (suc n) a = a

-- a whole run in these boxes
abbrev pub tried_in : Settings → Problem → ℕ → List Interval → Answer
tried_in σ p n b = tried n (run σ p n (begin_in σ p b))
