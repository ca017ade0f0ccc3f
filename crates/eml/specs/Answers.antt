-- What an exported call returns and leaves in the lent places, from the answer of the function behind it: 0 with what the answer holds, or a
-- refusal's number with the places as they were.
use Rattle.std.specs.Prelude.{ℕ, Float, Result, Ok, Err}
use Rattle.std.specs.Borrow.{MutBor}
use denote.Triple.Both.{Both}
use Rattle.record.specs.Leaving.{Leaving, ◌leaving◌}
use Rattle.point.specs.declared.eval.EvalError.{EvalError}
use Rattle.point.specs.Answer.{error_number}
use Rattle.narrow.specs.declared.PropResult.{PropResult}
use Rattle.narrow.specs.Given.{result_number}
use Rattle.record.specs.Views.{old, final}

-- a refusal's number, or 0
abbrev pub number_of : {A : Type 0} → Result A ℕ → ℕ
number_of (Ok x) = 0
number_of (Err r) = r

-- an answer that goes to one place
abbrev pub placed : {A : Type 0} → Result A ℕ → A → Leaving ℕ A
placed (Ok x) old = 0 leaving x
placed (Err r) old = r leaving old

-- the answer of a function that leaves places of its own, written to another
abbrev pub writing : {A B C : Type 0} → (A → C → Leaving ℕ C) → Leaving A B → C → Leaving ℕ (C × B)
writing f x old = (f x.answer old).answer leaving ((f x.answer old).places, x.places)

-- ---- Canonical and the comparisons, which leave their lists as they are to be
abbrev pub appended : {B : Type 0} → Leaving (Result ℕ ℕ) B → Leaving ℕ B
appended x = number_of x.answer leaving x.places

-- ---- a node's value at a point
-- a value, kind 0, or an error with what it carries: a place that the answer has nothing for stays
pub record Evaluation : Type 0 where
  pub kind : ℕ
  pub value : Float
  pub index : ℕ
  pub count : ℕ

abbrev evaluation : ℕ → Float → ℕ → ℕ → Evaluation
evaluation k v i n = record { kind = k; value = v; index = i; count = n }

abbrev pub failed : EvalError → Evaluation → Evaluation
failed (EvalError.VarOutOfBounds i n) old = evaluation (error_number (EvalError.VarOutOfBounds i n)) old.value i n
failed EvalError.NanEncountered old = evaluation (error_number EvalError.NanEncountered) old.value old.index old.count
failed (EvalError.ComplexResult x) old = evaluation (error_number (EvalError.ComplexResult x)) x old.index old.count
failed (EvalError.ExpOverflow x) old = evaluation (error_number (EvalError.ExpOverflow x)) x old.index old.count

abbrev pub evaluated : Result (Result Float EvalError) ℕ → Evaluation → Leaving ℕ Evaluation
evaluated (Ok (Ok v)) old = 0 leaving evaluation 0 v old.index old.count
evaluated (Ok (Err e)) old = 0 leaving failed e old
evaluated (Err r) old = r leaving old

module _ (kind : Both (MutBor ℕ) (MutBor ℕ)) (value : Both (MutBor Float) (MutBor Float)) (index count : Both (MutBor ℕ) (MutBor ℕ)) where
  abbrev pub evaluation_before : Evaluation
  evaluation_before = evaluation (old kind) (old value) (old index) (old count)

  abbrev pub evaluation_after : Evaluation
  evaluation_after = evaluation (final kind) (final value) (final index) (final count)

-- ---- narrowing
abbrev pub propagated : Result PropResult ℕ → ℕ → Leaving ℕ ℕ
propagated (Ok x) old = 0 leaving result_number x
propagated (Err r) old = r leaving old
