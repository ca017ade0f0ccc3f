-- Document 01, "Testing a point": the stack evaluation equals the recursive meaning of the tree. Assumes nothing.
use Rattle.std.specs.Prelude.{◌≡◌, refl, List, [], ◌∷◌, ◌++◌, Float, Result, Ok, Err}
use Rattle.std.proofs.Common.{sym, ◌∙◌}
use Rattle.std.proofs.Math.Path.{ap}
use mathlib.Core.List.{append_assoc, append-nil}
use Rattle.maths.specs.declared.Complex.{Complex}
use Rattle.settings.specs.declared.Settings.{Settings}
use Rattle.tree.specs.Tree.{Tree}
use Rattle.point.specs.declared.eval.Instruction.{Instruction}
use Rattle.point.specs.declared.eval.Instruction.TheVariants.{Eml}
use Rattle.point.specs.declared.eval.EvalError.{EvalError}
use Rattle.point.specs.Eval.{eml_complex, eval_complex, and_then}
use Rattle.point.specs.Machine.{postorder, Outcome, pushed, reduced, step, run}

-- right's outcome, after left's value a, and then the node's
after_right : (σ : Settings) (y : Result Complex EvalError) (a : Complex) (s : List Complex) (f : List Complex → Outcome) →
    and_then (pushed y (a ∷ s)) (λ u. and_then (reduced σ u) f) ≡ and_then (pushed (and_then y (λ b. eml_complex σ a b)) s) f
after_right σ (Ok b) a s f = refl
after_right σ (Err e) a s f = refl

-- left's outcome, right's, and then the node's
after_left : (σ : Settings) (x y : Result Complex EvalError) (s : List Complex) (g f : List Complex → Outcome) →
    ((a : Complex) → g (a ∷ s) ≡ and_then (pushed y (a ∷ s)) (λ u. and_then (reduced σ u) f)) →
    and_then (pushed x s) g ≡ and_then (pushed (and_then x (λ a. and_then y (λ b. eml_complex σ a b))) s) f
after_left σ (Ok a) y s g f e = e a ∙ after_right σ y a s f
after_left σ (Err x) y s g f e = refl

joined : (l r : Tree) (is : List Instruction) → postorder (Tree.Eml l r) ++ is ≡ postorder l ++ (postorder r ++ (Eml ∷ is))
unfolding postorder
joined l r is = simp append_assoc

module _ (σ : Settings) (p : List Float) where
  pub run_postorder : (t : Tree) (is : List Instruction) (s : List Complex) → run σ p (postorder t ++ is) s ≡ and_then (pushed (eval_complex σ p t) s) (λ u. run σ p is u)
  unfolding run step postorder eval_complex
  run_postorder Tree.One is s = refl
  run_postorder (Tree.Const v) is s = refl
  run_postorder (Tree.Var i) is s = refl
  run_postorder (Tree.Eml l r) is s =
      ap (λ (c : List Instruction). run σ p c s) (joined l r is)
      ∙ run_postorder l (postorder r ++ (Eml ∷ is)) s
      ∙ after_left σ (eval_complex σ p l) (eval_complex σ p r) s (λ u. run σ p (postorder r ++ (Eml ∷ is)) u) (λ u. run σ p is u) (λ a. run_postorder r (Eml ∷ is) (a ∷ s))

  -- a tree's instructions put its value on top of the stack
  pub run_means : (t : Tree) (s : List Complex) → run σ p (postorder t) s ≡ pushed (eval_complex σ p t) s
  unfolding run
  run_means t s = ap (λ (c : List Instruction). run σ p c s) (sym (append-nil (postorder t))) ∙ run_postorder t [] s ∙ over (eval_complex σ p t)
    where
      over : (x : Result Complex EvalError) → and_then (pushed x s) (λ u. run σ p [] u) ≡ pushed x s
      over (Ok z) = refl
      over (Err e) = refl
