-- Document 01, "Testing a point" (eval.rs): a tree's value at a point. σ are the settings.
use Rattle.std.specs.Prelude.{ℕ, ◌^◌, Bool, ◌&&◌, ◌||◌, List, length, get_or, ltb, Float, Result, Ok, Err}
use Rattle.std.specs.Float.{nan}
use Rattle.std.specs.Float.Ieee.{neg, is_nan}
use Rattle.number.specs.Notation.{when◌then◌else◌, ◌⊖◌, ◌≺◌, whole, decimal}
use Rattle.number.specs.Sign.{abs_of}
use Rattle.maths.specs.declared.Complex.{Complex}
use Rattle.maths.specs.Cplx.{complex_exp, complex_ln}
use Rattle.settings.specs.declared.Settings.{Settings}
use Rattle.tree.specs.Tree.{Tree}
use Rattle.point.specs.declared.eval.EvalError.{EvalError}
use Rattle.point.specs.declared.eval.EvalError.TheVariants.{VarOutOfBounds, NanEncountered, ComplexResult, ExpOverflow}

abbrev pub real : Float → Complex
real x = record { re = x; im = whole 0 }

abbrev pub difference : Complex → Complex → Complex
difference a b = record { re = a.re ⊖ b.re; im = a.im ⊖ b.im }

-- x clamped to ±most, and whether it is beyond it
unfoldable pub clamped : Float → Float → Float
clamped most x = when most ≺ x then most else when x ≺ neg most then neg most else x

unfoldable pub beyond : Float → Float → Bool
beyond most x = (most ≺ x) || (x ≺ neg most)

-- a value, unless a part of it is a NaN
unfoldable pub numeric : Complex → Result Complex EvalError
numeric z = when is_nan z.re || is_nan z.im then Err NanEncountered else Ok z

-- exp l - ln r: exp's real argument is clamped, and where the settings are strict one beyond the clamp is an error
unfoldable pub eml_complex : Settings → Complex → Complex → Result Complex EvalError
eml_complex σ l r =
    when σ.strict && beyond σ.clamp l.re
    then Err (ExpOverflow l.re)
    else numeric (difference (complex_exp (record { re = clamped σ.clamp l.re; im = l.im })) (complex_ln r))

-- variable i, which the point may lack
unfoldable pub variable : List Float → ℕ → Result Complex EvalError
variable p i = when ltb i (length p) then Ok (real (get_or p i nan)) else Err (VarOutOfBounds i (length p))

-- the recursive meaning of a tree: left, then right, then the node, so that the first error in postorder wins
abbrev pub and_then : {A B : Type 0} → Result A EvalError → (A → Result B EvalError) → Result B EvalError
and_then (Ok x) f = f x
and_then (Err e) f = Err e

unfoldable pub eval_complex : Settings → List Float → Tree → Result Complex EvalError
eval_complex σ p Tree.One = Ok (real (whole 1))
eval_complex σ p (Tree.Const v) = Ok (real v)
eval_complex σ p (Tree.Var i) = variable p i
eval_complex σ p (Tree.Eml l r) = and_then (eval_complex σ p l) λ a. and_then (eval_complex σ p r) λ b. eml_complex σ a b

-- at the end ComplexResult unless |im| < 1e-12
unfoldable pub real_part : Complex → Result Float EvalError
real_part z =
    when abs_of z.im ≺ decimal 1 (10 ^ 12)
    then when is_nan z.re then Err NanEncountered else Ok z.re
    else Err (ComplexResult (abs_of z.im))

unfoldable pub eval_real : Settings → List Float → Tree → Result Float EvalError
eval_real σ p t = and_then (eval_complex σ p t) real_part
