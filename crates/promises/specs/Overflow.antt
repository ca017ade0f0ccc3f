-- Where evaluation answers ExpOverflow. Laws for `Strict`. Assumes nothing.
use Rattle.std.specs.Prelude.{◌≡◌, refl, ℕ, ◌^◌, Bool, true, false, ◌&&◌, ◌||◌, ◌⊎◌, List, [], ◌∷◌, ◌++◌, length, get_or, ltb, Float, Result, Ok, Err}
use Rattle.std.proofs.Common.{sym, ap, ◌∙◌, subst, inl, inr, ⊎_elim}
use Rattle.std.specs.Float.{nan}
use Rattle.std.specs.Float.Ieee.{is_nan}
use Rattle.number.specs.Notation.{when◌then◌else◌, ◌≺◌, decimal}
use Rattle.number.specs.Sign.{abs_of}
use Rattle.maths.specs.declared.Complex.{Complex}
use Rattle.maths.specs.Cplx.{complex_exp, complex_ln}
use Rattle.settings.specs.declared.Settings.{Settings}
use Rattle.tree.specs.Tree.{Tree}
use Rattle.point.specs.declared.eval.Instruction.{Instruction}
use Rattle.point.specs.declared.eval.Instruction.TheVariants.{PushOne, PushConst, PushVar, Eml}
use Rattle.point.specs.declared.eval.EvalError.{EvalError}
use Rattle.point.specs.declared.eval.EvalError.TheVariants.{VarOutOfBounds, NanEncountered, ComplexResult, ExpOverflow}
use Rattle.point.specs.Eval.{real, difference, clamped, beyond, numeric, eml_complex, variable, and_then, eval_complex, real_part, eval_real}
use Rattle.point.specs.Machine.{postorder, Outcome, pushed, step, run}
use Rattle.point.proofs.Machine.{run_means}

-- ---- the first error in postorder
module _ (σ : Settings) (p : List Float) where
  run_joined : (is js : List Instruction) (s : List Complex) → run σ p (is ++ js) s ≡ and_then (run σ p is s) (λ u. run σ p js u)
  unfolding run
  run_joined [] js s = refl
  run_joined (i ∷ is) js s = by (step σ p i s) (run_joined is js)
    where
      by : (x : Outcome) → ((t : List Complex) → run σ p (is ++ js) t ≡ and_then (run σ p is t) (λ u. run σ p js u))
          → and_then x (λ t. run σ p (is ++ js) t) ≡ and_then (and_then x (λ t. run σ p is t)) (λ u. run σ p js u)
      by (Ok t) rest = rest t
      by (Err e) rest = refl

  -- The nodes of a tree in postorder are its instructions. Where those before the node i have left the stack s, and i fails there, that error is the answer.
  pub first_error : (t : Tree) (before after : List Instruction) (i : Instruction) (s : List Complex) (e : EvalError)
      → postorder t ≡ before ++ (i ∷ after) → run σ p before [] ≡ Ok s → step σ p i s ≡ Err e → eval_real σ p t ≡ Err e
  unfolding eval_real run
  first_error t before after i s e parts ran fails =
      of_run (eval_complex σ p t) (sym (run_means σ p t []) ∙ ap (λ (is : List Instruction). run σ p is []) parts ∙ run_joined before (i ∷ after) [] ∙ rw (ran, fails) refl)
    where
      of_run : (x : Result Complex EvalError) → pushed x [] ≡ Err e → and_then x real_part ≡ Err e
      of_run (Ok z) w = cc
      of_run (Err f) w = cc

  -- ---- where a run that fails stopped: the node i, with the stack s that those before it have left
  record Stopped (is : List Instruction) (s : List Complex) (e : EvalError) : Type 0 where
    before : List Instruction
    after : List Instruction
    node : Instruction
    left_is : List Complex
    parts : is ≡ before ++ (node ∷ after)
    ran : run σ p before s ≡ Ok left_is
    fails : step σ p node left_is ≡ Err e

  stopped : (is : List Instruction) (s : List Complex) (e : EvalError) → run σ p is s ≡ Err e → Stopped is s e
  unfolding run
  stopped [] s e w = cc
  stopped (i ∷ is) s e w = by (step σ p i s) refl w (λ t. stopped is t e)
    where
      by : (x : Outcome) → step σ p i s ≡ x → and_then x (λ t. run σ p is t) ≡ Err e → ((t : List Complex) → run σ p is t ≡ Err e → Stopped is t e) → Stopped (i ∷ is) s e
      by (Err f) u v rest = record { before = []; after = is; node = i; left_is = s; parts = refl; ran = refl; fails = u ∙ v }
      by (Ok t) u v rest =
          let r = rest t v in
          record { before = i ∷ r.before; after = r.after; node = r.node; left_is = r.left_is; parts = ap (λ (js : List Instruction). i ∷ js) r.parts; ran = ap (λ (y : Outcome). and_then y (λ t. run σ p r.before t)) u ∙ r.ran; fails = r.fails }

  -- ---- which node answers ExpOverflow: an Eml node of the tree, at its place in postorder
  -- x is the left real part of such a node, beyond the clamp, and those before it have left their values
  pub record AtNode (t : Tree) (x : Float) : Type 0 where
    pub before : List Instruction
    pub after : List Instruction
    pub left : Complex
    pub right : Complex
    pub rest : List Complex
    pub parts : postorder t ≡ before ++ (Eml ∷ after)
    pub ran : run σ p before [] ≡ Ok (right ∷ left ∷ rest)
    pub is : left.re ≡ x
    pub over : beyond σ.clamp x ≡ true

  not_numeric : (z : Complex) (x : Float) → numeric z ≡ Err (ExpOverflow x) → ⊥
  unfolding numeric when◌then◌else◌
  not_numeric z x e = by (is_nan z.re || is_nan z.im) e
    where
      by : (k : Bool) → when k then Err NanEncountered else Ok z ≡ Err (ExpOverflow x) → ⊥
      by true w = cc
      by false w = cc

  record AtValues (a : Complex) (x : Float) : Type 0 where
    on : σ.strict ≡ true
    is : a.re ≡ x
    over : beyond σ.clamp x ≡ true

  at_values : (a b : Complex) (x : Float) → eml_complex σ a b ≡ Err (ExpOverflow x) → AtValues a x
  unfolding eml_complex when◌then◌else◌
  at_values a b x e = by σ.strict (beyond σ.clamp a.re) refl refl e
    where
      value : Complex
      value = difference (complex_exp (record { re = clamped σ.clamp a.re; im = a.im })) (complex_ln b)

      by : (s k : Bool) → σ.strict ≡ s → beyond σ.clamp a.re ≡ k → when s && k then Err (ExpOverflow a.re) else numeric value ≡ Err (ExpOverflow x) → AtValues a x
      by true true o h w = let is : a.re ≡ x = cc in record { on = o; is = is; over = ap (beyond σ.clamp) (sym is) ∙ h }
      by true false o h w = absurd (not_numeric value x w)
      by false k o h w = absurd (not_numeric value x w)

  not_variable : (i : ℕ) (x : Float) → variable p i ≡ Err (ExpOverflow x) → ⊥
  unfolding variable when◌then◌else◌
  not_variable i x e = by (ltb i (length p)) e
    where
      by : (k : Bool) → when k then Ok (real (get_or p i nan)) else Err (VarOutOfBounds i (length p)) ≡ Err (ExpOverflow x) → ⊥
      by true w = cc
      by false w = cc

  unpushed : (y : Result Complex EvalError) (s : List Complex) (e : EvalError) → pushed y s ≡ Err e → y ≡ Err e
  unpushed (Ok z) s e w = cc
  unpushed (Err f) s e w = let is : f ≡ e = cc in ap Err is

  -- the node at which a run stopped with this error
  at_step : (t : Tree) (before after : List Instruction) (i : Instruction) (s : List Complex) (x : Float)
      → postorder t ≡ before ++ (i ∷ after) → run σ p before [] ≡ Ok s → step σ p i s ≡ Err (ExpOverflow x) → (σ.strict ≡ true) × AtNode t x
  unfolding step
  at_step t before after PushOne s x parts ran e = cc
  at_step t before after (PushConst v) s x parts ran e = cc
  at_step t before after (PushVar i) s x parts ran e = absurd (not_variable i x (unpushed (variable p i) s (ExpOverflow x) e))
  at_step t before after Eml [] x parts ran e = cc
  at_step t before after Eml (b ∷ []) x parts ran e = cc
  at_step t before after Eml (b ∷ a ∷ s) x parts ran e =
      let r = at_values a b x (unpushed (eml_complex σ a b) s (ExpOverflow x) e) in
      (r.on, record { before = before; after = after; left = a; right = b; rest = s; parts = parts; ran = ran; is = r.is; over = r.over })

  pub value_reported : (t : Tree) (x : Float) → eval_real σ p t ≡ Err (ExpOverflow x) → (σ.strict ≡ true) × AtNode t x
  unfolding eval_real real_part when◌then◌else◌
  value_reported t x e = of_value (eval_complex σ p t) refl e
    where
      of_part : (z : Complex) → real_part z ≡ Err (ExpOverflow x) → ⊥
      of_part z w = by (abs_of z.im ≺ decimal 1 (10 ^ 12)) (is_nan z.re) w
        where
          by : (k n : Bool) → when k then when n then Err NanEncountered else Ok z.re else Err (ComplexResult (abs_of z.im)) ≡ Err (ExpOverflow x) → ⊥
          by true true u = cc
          by true false u = cc
          by false n u = cc

      of_value : (y : Result Complex EvalError) → eval_complex σ p t ≡ y → and_then y real_part ≡ Err (ExpOverflow x) → (σ.strict ≡ true) × AtNode t x
      of_value (Ok z) u w = absurd (of_part z w)
      of_value (Err f) u w =
          let is : f ≡ ExpOverflow x = cc in
          let r = stopped (postorder t) [] (ExpOverflow x) (run_means σ p t [] ∙ ap (λ (y : Result Complex EvalError). pushed y []) (u ∙ ap Err is)) in
          at_step t r.before r.after r.node r.left_is x r.parts r.ran r.fails

-- ---- the flag set and the flag off, with the same clamp
-- an evaluation that answers ExpOverflow
pub record Overflowed {A : Type 0} (x : Result A EvalError) : Type 0 where
  pub part : Float
  pub is : x ≡ Err (ExpOverflow part)

abbrev pub Either : {A : Type 0} → Result A EvalError → Result A EvalError → Type 0
Either x y = Overflowed x ⊎ (x ≡ y)

module _ (σ τ : Settings) (on : σ.strict ≡ true) (off : τ.strict ≡ false) (same : σ.clamp ≡ τ.clamp) where
  node_either : (a b : Complex) → Either (eml_complex σ a b) (eml_complex τ a b)
  unfolding eml_complex when◌then◌else◌
  node_either a b = rw (on, off, same) (by (beyond τ.clamp a.re) (numeric (difference (complex_exp (record { re = clamped τ.clamp a.re; im = a.im })) (complex_ln b))))
    where
      by : (k : Bool) (v : Result Complex EvalError) → Either (when true && k then Err (ExpOverflow a.re) else v) (when false && k then Err (ExpOverflow a.re) else v)
      by true v = inl (record { part = a.re; is = refl })
      by false v = inr refl

  then_either : {A B : Type 0} (x y : Result A EvalError) (f g : A → Result B EvalError) → Either x y → ((a : A) → Either (f a) (g a)) → Either (and_then x f) (and_then y g)
  then_either {A = A} {B = B} x y f g e h = ⊎_elim (λ o. inl (record { part = o.part; is = rw o.is refl })) (λ w. by x y w) e
    where
      by : (x y : Result A EvalError) → x ≡ y → Either (and_then x f) (and_then y g)
      by (Ok a) (Ok b) w = let is : a ≡ b = cc in subst (λ (c : A). Either (f a) (g c)) is (h a)
      by (Ok a) (Err f) w = cc
      by (Err f) (Ok b) w = cc
      by (Err f) (Err g) w = inr cc

  module _ (p : List Float) where
    tree_either : (t : Tree) → Either (eval_complex σ p t) (eval_complex τ p t)
    unfolding eval_complex
    tree_either Tree.One = inr refl
    tree_either (Tree.Const v) = inr refl
    tree_either (Tree.Var i) = inr refl
    tree_either (Tree.Eml l r) = then_either _ _ _ _ (tree_either l) (λ a. then_either _ _ _ _ (tree_either r) (λ b. node_either a b))

    pub value_either : (t : Tree) → Either (eval_real σ p t) (eval_real τ p t)
    unfolding eval_real
    value_either t = then_either _ _ _ _ (tree_either t) (λ z. inr refl)
