-- What the answers never are: a value that is a NaN, and a residual that is a NaN or below zero. For every settings, point, tree and
-- constraint. Assumes nothing.
use Rattle.std.specs.Prelude.{◌^◌, ◌≡◌, refl, Bool, true, false, List, T, set, Float, Result, Ok, Err}
use Rattle.std.proofs.Common.{sym, subst, arith}
use Rattle.std.specs.Result.{result_unwrap_or}
use Rattle.std.specs.Float.{nan, inf, fin, binary64}
use Rattle.std.specs.Float.Ieee.{add, neg, le, is_nan, of_int}
use Rattle.number.specs.Notation.{when◌then◌else◌, ◌⊕◌, ◌≺◌, ◌≼◌, whole, decimal, +∞}
use Rattle.number.specs.Sign.{abs_of}
use Rattle.number.specs.Order.{number, failed, naught, zeros_le, le_right, le_trans, lt→le, not_lt→le, not_le→lt, neg_le, le_nan_right}
use Rattle.number.specs.MaxMin.{max_of, min_of, max_laws, min_laws, ≤min}
use Rattle.number.specs.Signed.{⊑→le}
use Rattle.number.specs.Halving.{mid}
use Rattle.number.specs.Round.{add_mono}
use Rattle.maths.specs.declared.Complex.{Complex}
use Rattle.settings.specs.declared.Settings.{Settings}
use Rattle.tree.specs.Tree.{Tree}
use Rattle.constraint.specs.declared.Relation.{Relation}
use Rattle.constraint.specs.Constraint.{Constraint, Constraints, Atom, Not, And, Or, ForAll, Exists, end, ◌⨾◌}
use Rattle.point.specs.declared.eval.EvalError.{EvalError}
use Rattle.point.specs.declared.eval.EvalError.TheVariants.{NanEncountered, ComplexResult}
use Rattle.point.specs.Eval.{and_then, eval_complex, real_part, eval_real}
use Rattle.point.specs.Residual.{shortfall, error_value, residual_of_not, of_three, residual, residuals}

-- ---- eval_real never answers a NaN value

-- an answer whose value, if it has one, is no NaN
abbrev pub Numeric : Result Float EvalError → Type 0
Numeric (Ok v) = T (number v)
Numeric (Err e) = Unit {0}

real_part_numeric : (z : Complex) → Numeric (real_part z)
unfolding real_part when◌then◌else◌
real_part_numeric z = go (abs_of z.im ≺ decimal 1 (10 ^ 12)) (is_nan z.re) NanEncountered (ComplexResult (abs_of z.im)) refl
  where
    go : (small n : Bool) (a b : EvalError) → is_nan z.re ≡ n → Numeric (when small then when n then Err a else Ok z.re else Err b)
    go false n a b e = tt
    go true true a b e = tt
    go true false a b e = failed e

pub eval_numeric : (σ : Settings) (p : List Float) (t : Tree) → Numeric (eval_real σ p t)
unfolding eval_real
eval_numeric σ p t = go (eval_complex σ p t)
  where
    go : (x : Result Complex EvalError) → Numeric (and_then x real_part)
    go (Ok z) = real_part_numeric z
    go (Err e) = tt

pub eval_not_nan : (σ : Settings) (p : List Float) (t : Tree) (v : Float) → eval_real σ p t ≡ Ok v → T (number v)
eval_not_nan σ p t v e = subst Numeric e (eval_numeric σ p t)

-- ---- a residual is never a NaN and never below zero

abbrev pub NotNegative : Float → Type 0
NotNegative x = T (whole 0 ≼ x)

zero_is : whole 0 ≡ naught
unfolding of_int
zero_is = refl

from : (x : Float) → T (naught ≼ x) → NotNegative x
from x h = subst (λ (z : Float). T (z ≼ x)) (sym zero_is) h

to : (x : Float) → NotNegative x → T (naught ≼ x)
to x h = subst (λ (z : Float). T (z ≼ x)) zero_is h

zero : NotNegative (whole 0)
zero = from (whole 0) (subst (λ (z : Float). T (naught ≼ z)) (sym zero_is) (zeros_le false false))

one : NotNegative (whole 1)
one = from (whole 1) (unfold of_int le in tt)

infinity : NotNegative +∞
infinity = from +∞ (unfold le in tt)

magnitude : (x : Float) → T (number x) → NotNegative (abs_of x)
unfolding abs_of is_nan
magnitude nan h = absurd h
magnitude (inf s) h = infinity
magnitude (fin s m e) h = from (fin false m e) (⊑→le naught (fin false m e) tt tt (omega arith))

-- a value at most 0, negated
negated : (v : Float) → T (v ≼ whole 0) → NotNegative (neg v)
unfolding neg
negated v h =
    from (neg v) (le_trans naught (neg naught) (neg v) (zeros_le false true) (neg_le v naught (subst (λ (z : Float). T (v ≼ z)) zero_is h)))

sum : (x y : Float) → T (naught ≼ x) → T (naught ≼ y) → T (naught ≼ x ⊕ y)
unfolding add
sum nan y h k = absurd (subst T (le_nan_right naught) h)
sum (inf true) y h k = unfold le in absurd h
sum (inf false) nan h k = absurd (subst T (le_nan_right naught) k)
sum (inf false) (inf true) h k = unfold le in absurd k
sum (inf false) (inf false) h k = unfold le in tt
sum (inf false) (fin t n d) h k = unfold le in tt
sum (fin s m e) nan h k = absurd (subst T (le_nan_right naught) k)
sum (fin s m e) (inf true) h k = unfold le in absurd k
sum (fin s m e) (inf false) h k = unfold le in tt
sum (fin s m e) (fin t n d) h k = add_mono binary64 naught naught (fin s m e) (fin t n d) tt tt tt tt h k

-- an operation on residuals that leads to nothing else
abbrev Keeps : (Float → Float → Float) → Type 0
Keeps f = (x y : Float) → NotNegative x → NotNegative y → NotNegative (f x y)

adds : Keeps ◌⊕◌
adds x y h k = from (x ⊕ y) (sum x y (to x h) (to y k))

greatest : Keeps max_of
greatest x y h k = le_trans (whole 0) x (max_of x y) h (max_laws.left x y (le_right (whole 0) x h))

least : Keeps min_of
least x y h k = ≤min min_of min_laws x y (whole 0) h k

chosen : (t : Bool) (x y : Float) → (t ≡ true → NotNegative x) → (t ≡ false → NotNegative y) → NotNegative (when t then x else y)
unfolding when◌then◌else◌
chosen true x y f g = f refl
chosen false x y f g = g refl

-- ---- an atom's
zero_number : T (number (whole 0))
zero_number = le_right (whole 0) (whole 0) zero

shortfall_not_negative : (rel : Relation) (v : Float) → T (number v) → NotNegative (shortfall rel v)
unfolding shortfall
shortfall_not_negative Relation.EqZero v n = magnitude v n
shortfall_not_negative Relation.GtZero v n = chosen (whole 0 ≺ v) (whole 0) (neg v) (λ t. zero) (λ t. negated v (not_lt→le (whole 0) v zero_number n (failed t)))
shortfall_not_negative Relation.GeZero v n = chosen (whole 0 ≼ v) (whole 0) (neg v) (λ t. zero) (λ t. negated v (lt→le v (whole 0) (not_le→lt (whole 0) v zero_number n (failed t))))
shortfall_not_negative Relation.LtZero v n = chosen (v ≺ whole 0) (whole 0) (abs_of v) (λ t. zero) (λ t. magnitude v n)
shortfall_not_negative Relation.LeZero v n = chosen (v ≼ whole 0) (whole 0) (abs_of v) (λ t. zero) (λ t. magnitude v n)
shortfall_not_negative Relation.NeZero v n = magnitude v n

error_number : (rel : Relation) → T (number (error_value rel))
error_number Relation.EqZero = unfold is_nan in tt
error_number Relation.GtZero = unfold is_nan in tt
error_number Relation.GeZero = unfold is_nan in tt
error_number Relation.LtZero = unfold is_nan in tt
error_number Relation.LeZero = unfold is_nan in tt
error_number Relation.NeZero = zero_number

value_number : (rel : Relation) (x : Result Float EvalError) → Numeric x → T (number (result_unwrap_or x (error_value rel)))
value_number rel (Ok v) n = n
value_number rel (Err e) n = error_number rel

size : (x : Float) → NotNegative x → NotNegative (abs_of x)
size x h = magnitude x (le_right (whole 0) x h)

of_three_keeps : (f : Float → Float → Float) → Keeps f → (x a b c : Float) → NotNegative x → NotNegative a → NotNegative b → NotNegative c → NotNegative (of_three f x a b c)
of_three_keeps f keeps x a b c g h k l = keeps _ _ (keeps _ _ (keeps _ _ g (size a h)) (size b k)) (size c l)

mutual
  unfolding residual residual_of_not

  pub residual_not_negative : (σ : Settings) (p : List Float) (c : Constraint) → NotNegative (residual σ p c)
  residual_not_negative σ p (Atom rel t) = shortfall_not_negative rel (result_unwrap_or (eval_real σ p t) (error_value rel)) (value_number rel (eval_real σ p t) (eval_numeric σ p t))
  residual_not_negative σ p (Not c) = chosen (residual σ p c ≺ decimal 1 (10 ^ 12)) (whole 1) (whole 0) (λ t. one) (λ t. zero)
  residual_not_negative σ p (And cs) = residuals_not_negative σ p ◌⊕◌ adds (whole 0) cs zero
  residual_not_negative σ p (Or cs) = residuals_not_negative σ p min_of least +∞ cs infinity
  residual_not_negative σ p (ForAll v lo hi c) =
      of_three_keeps max_of greatest (whole 0) _ _ _ zero (residual_not_negative σ (set p v lo) c) (residual_not_negative σ (set p v (mid binary64 lo hi)) c) (residual_not_negative σ (set p v hi) c)
  residual_not_negative σ p (Exists v lo hi c) =
      of_three_keeps min_of least +∞ _ _ _ infinity (residual_not_negative σ (set p v lo) c) (residual_not_negative σ (set p v (mid binary64 lo hi)) c) (residual_not_negative σ (set p v hi) c)

  residuals_not_negative : (σ : Settings) (p : List Float) (f : Float → Float → Float) → Keeps f → (x : Float) (cs : Constraints) → NotNegative x → NotNegative (residuals σ p f x cs)
  residuals_not_negative σ p f keeps x end h = h
  residuals_not_negative σ p f keeps x (c ⨾ cs) h = residuals_not_negative σ p f keeps _ cs (keeps x (abs_of (residual σ p c)) h (size (residual σ p c) (residual_not_negative σ p c)))

pub residual_not_nan : (σ : Settings) (p : List Float) (c : Constraint) → T (number (residual σ p c))
residual_not_nan σ p c = le_right (whole 0) (residual σ p c) (residual_not_negative σ p c)
