-- The calls on records given without a file: the answer with the settings σ, or the number of a refusal. The records are tested in the
-- reader's order, then the settings, 14, then 9 for a point of over 16 values. Document 01's own calls are these with its own settings.
use Rattle.std.specs.Prelude.{ℕ, ◌/◌, ◌%◌, Bool, List, leb, ltb, eqb, Float, length, Result, Ok, Err}
use Rattle.settings.specs.Settings.{settings_refusal}
use Rattle.settings.specs.declared.Settings.{Settings}
use Rattle.record.specs.Refusal.{◌or_else◌, ◌unless◌, refused_or}
use Rattle.tree.specs.Nodes.{tree_at, list_refusal}
use Rattle.constraint.specs.Constraint.{Constraint}
use Rattle.file.specs.File.{left, given_refusal}
use Rattle.point.specs.declared.eval.EvalError.{EvalError}
use Rattle.point.specs.Eval.{eval_real}
use Rattle.point.specs.Check.{check}
use Rattle.point.specs.Residual.{residual}

-- ---- a node of a list: 2 unless the bytes make at most 1024 nodes; each node 3, 4; 3 where the number names no node
unfoldable pub root_refusal : List ℕ → ℕ → ℕ
root_refusal nodes k =
    2 unless eqb (length nodes % 16) 0
    or_else list_refusal nodes (length nodes / 16)
    or_else 3 unless ltb k (length nodes / 16)

-- then 14, 9
unfoldable pub eval_refusal : Settings → List ℕ → ℕ → List Float → ℕ
eval_refusal σ nodes k p = root_refusal nodes k or_else settings_refusal σ or_else 9 unless leb (length p) 16

-- the numbers of the errors; a value has 0
abbrev pub error_number : EvalError → ℕ
error_number (EvalError.VarOutOfBounds i n) = 1
error_number EvalError.NanEncountered = 2
error_number (EvalError.ComplexResult x) = 3
error_number (EvalError.ExpOverflow x) = 4

unfoldable pub eval_answer : Settings → List ℕ → ℕ → List Float → Result (Result Float EvalError) ℕ
eval_answer σ nodes k p = refused_or (eval_refusal σ nodes k p) Err (Ok (eval_real σ p (tree_at nodes k)))

-- ---- node records and constraint records: their own refusals, then 14, 9; else of the constraint that they leave
unfoldable pub point_refusal : Settings → List ℕ → List ℕ → List Float → ℕ
point_refusal σ nodes b p = given_refusal nodes b or_else settings_refusal σ or_else 9 unless leb (length p) 16

abbrev pub answer_of : {A : Type 0} → (Settings → List Float → Constraint → A) → Settings → List ℕ → List ℕ → List Float → Result A ℕ
answer_of f σ nodes b p = refused_or (point_refusal σ nodes b p) Err (Ok (f σ p (left nodes b (length b / 24))))

unfoldable pub check_answer : Settings → List ℕ → List ℕ → List Float → Result Bool ℕ
check_answer σ nodes b p = answer_of check σ nodes b p

unfoldable pub residual_answer : Settings → List ℕ → List ℕ → List Float → Result Float ℕ
residual_answer σ nodes b p = answer_of residual σ nodes b p
