-- exp and ln of equal ends are the same: such ends are the same value, or two zeros. Assumes nothing.
use mathlib.Core.Path.{◌≡◌, sym, ap, ap₂, ◌∙◌}
use mathlib.Core.Bool.{true}
use mathlib.Core.Logic.{◌⊎◌, ⊎_elim}
use lib.Dec.{T}
use lib.Ieee.{Float, binary64, eq, le, fits, of_int}
use lib.Ieee.Bits.{is_true}
use Rattle.number.specs.Notation.{when◌then◌else◌, whole}
use Rattle.number.specs.Order.{naught, passed, eq→le}
use Rattle.number.specs.Pattern.{eq_same}
use Rattle.maths.specs.Exp.{exp_of}
use Rattle.maths.specs.Ln.{ln_of}
use Rattle.maths.specs.Zeros.{exp_zero}
use Rattle.interval.specs.Interval.{◌‥◌, exp, has_ln, ln}
use Rattle.interval.specs.declared.Interval.{Interval}

above : (i : Interval) → has_ln i ≡ true → T (le i.lo naught) → ⊥
unfolding has_ln of_int
above i g h =
    let e : le i.lo (whole 0) ≡ true = is_true (le i.lo naught) h in
    passed (simp e at g)

module _ (i : Interval) (h : T (fits binary64 i.lo)) (k : T (fits binary64 i.hi)) (e : eq i.lo i.hi ≡ true) (z : Float) where
  same : (i.lo ≡ i.hi) ⊎ (T (eq i.lo naught) × T (eq i.hi naught))
  same = eq_same binary64 i.lo i.hi h k (passed e)

  pub point_exp : z ≡ exp_of i.lo → (z ‥ z) ≡ exp i
  unfolding exp
  point_exp d = ap₂ ◌‥◌ d (d ∙ ⊎_elim (ap exp_of) (λ w. exp_zero i.lo h w.0 ∙ sym (exp_zero i.hi k w.1)) same)

  pub point_ln : has_ln i ≡ true → z ≡ ln_of i.lo → (z ‥ z) ≡ ln i
  unfolding ln when◌then◌else◌
  point_ln g d = rw g (ap₂ ◌‥◌ d (d ∙ ⊎_elim (ap ln_of) (λ w. absurd (above i g (eq→le i.lo naught w.0))) same))
