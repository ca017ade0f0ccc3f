-- The stack machine: a tree's instructions in postorder, and what running them leaves.
use Rattle.std.specs.Prelude.{ℕ, ◌+◌, ◌-◌, List, [], ◌∷◌, ◌++◌, Float, Option, Some, None, Result, Ok, Err, ⊤}
use Rattle.number.specs.Notation.{whole}
use Rattle.maths.specs.declared.Complex.{Complex}
use Rattle.settings.specs.declared.Settings.{Settings}
use Rattle.tree.specs.Tree.{Tree}
use Rattle.record.specs.Leaving.{Leaving, ◌leaving◌}
use Rattle.point.specs.declared.eval.Instruction.{Instruction}
use Rattle.point.specs.declared.eval.Instruction.TheVariants.{PushOne, PushConst, PushVar, Eml}
use Rattle.point.specs.declared.eval.EvalError.{EvalError}
use Rattle.point.specs.declared.eval.EvalError.TheVariants.{NanEncountered}
use Rattle.point.specs.Eval.{real, variable, eml_complex, and_then}

-- left, right, then the node
unfoldable pub postorder : Tree → List Instruction
postorder Tree.One = PushOne ∷ []
postorder (Tree.Const v) = PushConst v ∷ []
postorder (Tree.Var i) = PushVar i ∷ []
postorder (Tree.Eml l r) = postorder l ++ postorder r ++ (Eml ∷ [])

-- ---- running: the stack, its top first, or the error that stopped it
abbrev pub Outcome : Type 0
Outcome = Result (List Complex) EvalError

-- a value on top of a stack, or its error
abbrev pub pushed : Result Complex EvalError → List Complex → Outcome
pushed (Ok z) s = Ok (z ∷ s)
pushed (Err e) s = Err e

abbrev pub reduced : Settings → List Complex → Outcome
reduced σ [] = Err NanEncountered
reduced σ (r ∷ []) = Err NanEncountered
reduced σ (r ∷ l ∷ s) = pushed (eml_complex σ l r) s

unfoldable pub step : Settings → List Float → Instruction → List Complex → Outcome
step σ p PushOne s = Ok (real (whole 1) ∷ s)
step σ p (PushConst v) s = Ok (real v ∷ s)
step σ p (PushVar i) s = pushed (variable p i) s
step σ p Eml s = reduced σ s

unfoldable pub run : Settings → List Float → List Instruction → List Complex → Outcome
run σ p [] s = Ok s
run σ p (i ∷ is) s = and_then (step σ p i s) (λ t. run σ p is t)

-- the stack's height after an instruction
abbrev pub height : ℕ → Instruction → ℕ
height h PushOne = h + 1
height h (PushConst v) = h + 1
height h (PushVar i) = h + 1
height h Eml = h - 1

-- ---- what the functions answer, and the stack that they leave
abbrev pub ran : Result ⊤ EvalError → List Complex → Outcome
ran (Ok u) s = Ok s
ran (Err e) s = Err e

abbrev pub popped : List Complex → Leaving (Option Complex) (List Complex)
popped [] = None leaving []
popped (z ∷ s) = Some z leaving s
