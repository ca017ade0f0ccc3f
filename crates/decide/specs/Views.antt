-- What the code's question and its answers stand for.
use Rattle.std.specs.Prelude.{ℕ, ◌≡◌, Bool, List, [], Float, Result, Ok, Err}
use Rattle.record.specs.Refused.{number_of}
use Rattle.record.specs.declared.refusal.Refusal.{Refusal}
use Rattle.settings.specs.declared.Settings.{Settings}
use Rattle.interval.specs.declared.Interval.{Interval}
use Rattle.interval.specs.Views.{values_of}
use Rattle.constraint.specs.Views.{the_constraint}
use Rattle.file.specs.File.{Accepted, read_given}
use Rattle.point.specs.Check.{check}
use Rattle.decide.specs.declared.Verdict.{Verdict}
use Rattle.decide.specs.declared.question.Question.{Question}
use Rattle.decide.specs.Deciding.{QuantResult, point_at, boxes_at, decide_forall, decide_exists}

-- ---- a question: its points and boxes, the test of a sample, the decisions
abbrev pub sample_of : Question → Float → List Float
sample_of q x = point_at q.count.n q.var x

abbrev pub box_of : Question → List Interval
box_of q = boxes_at q.count.n q.var q.range

-- whether the check passes at a sample
abbrev pub passes_at : Question → Float → Bool
passes_at q x = check q.settings (sample_of q x) (the_constraint q.records)

abbrev pub for_all : Question → QuantResult
for_all q = decide_forall q.settings q.var q.range.lo q.range.hi (the_constraint q.records) q.count.n

abbrev pub exists : Question → QuantResult
exists q = decide_exists q.settings q.var q.range.lo q.range.hi (the_constraint q.records) q.count.n

-- ---- an answer
abbrev pub result_of : Verdict → QuantResult
result_of Verdict.True = QuantResult.True
result_of (Verdict.TrueWithWitness p) = QuantResult.TrueWithWitness (values_of p)
result_of (Verdict.FalseWithCounterexample p) = QuantResult.FalseWithCounterexample (values_of p)
result_of Verdict.Unknown = QuantResult.Unknown

-- a verdict, or the number of a refusal
abbrev pub answered : Result Verdict Refusal → Result QuantResult ℕ
answered (Ok v) = Ok (result_of v)
answered (Err r) = Err (number_of r)

-- ---- a question about given records, with the settings σ
pub record Asks (σ : Settings) (nodes b : List ℕ) (v : ℕ) (i : Interval) (n : ℕ) (q : Question) : Type 0 where
  pub constraint_is : read_given nodes b ≡ Accepted (the_constraint q.records) []
  pub settings_are : q.settings ≡ σ
  pub var_is : q.var ≡ v
  pub range_is : q.range ≡ i
  pub count_is : q.count.n ≡ n
