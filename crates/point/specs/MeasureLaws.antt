-- The check and the residual are the measures that their parts make. Assumes nothing.
use Prim.Native.Nat.{ℕ}
use mathlib.Core.Path.{◌≡◌, refl, sym, ap, ◌∙◌}
use mathlib.Core.Bool.{Bool, true, false, not}
use mathlib.Core.List.{List, [], ◌∷◌, ◌++◌}
use lib.Ieee.{Float}
use lib.ListN.{set}
use Rattle.std.specs.List.{fold}
use Rattle.number.specs.Notation.{◌⊕◌, whole, +∞}
use Rattle.number.specs.Sign.{abs_of}
use Rattle.number.specs.MaxMin.{min_of}
use Rattle.settings.specs.declared.Settings.{Settings}
use Rattle.constraint.specs.Constraint.{Constraint, Constraints, end, ◌⨾◌}
use Rattle.constraint.specs.Records.{gather}
use Rattle.point.specs.declared.helpers.Each.{Each}
use Rattle.point.specs.Check.{passes, check}
use Rattle.point.specs.Residual.{residual, residuals, residual_of_not}
use Rattle.point.specs.Measure.{joined, quantified, samples_of, Measures, passes_none, passes_more, is_decided, residual_of_atom, residual_of_none, residual_with_one, residual_with_sample, never_settled}

-- ---- the check
passes_assoc : (each : Each) (x y z : Bool) → passes_more each (passes_more each x y) z ≡ passes_more each x (passes_more each y z)
passes_assoc Each.All true y z = refl
passes_assoc Each.All false y z = refl
passes_assoc Each.Any true y z = refl
passes_assoc Each.Any false y z = refl

passes_only : (each : Each) (x : Bool) → passes_more each x (passes_none each) ≡ passes_more each (passes_none each) x
passes_only Each.All true = refl
passes_only Each.All false = refl
passes_only Each.Any true = refl
passes_only Each.Any false = refl

decided : (each : Each) (x y : Bool) → is_decided each x ≡ true → passes_more each x y ≡ x
decided Each.All false y e = refl
decided Each.All true y e = cc
decided Each.Any true y e = refl
decided Each.Any false y e = cc

module _ (σ : Settings) (p : List Float) where
  check_none : (each : Each) → check σ p (joined each end) ≡ passes_none each
  unfolding check
  check_none Each.All = refl
  check_none Each.Any = refl

  check_first : (each : Each) (c : Constraint) (cs : Constraints) → check σ p (joined each (c ⨾ cs)) ≡ passes_more each (check σ p c) (check σ p (joined each cs))
  unfolding check
  check_first Each.All c cs = refl
  check_first Each.Any c cs = refl

  check_last : (each : Each) (cs : List Constraint) (c : Constraint) →
      check σ p (joined each (gather (cs ++ c ∷ []))) ≡ passes_more each (check σ p (joined each (gather cs))) (check σ p c)
  unfolding gather
  check_last each [] c =
      check_first each c end ∙ ap (passes_more each (check σ p c)) (check_none each) ∙ passes_only each (check σ p c)
      ∙ sym (ap (λ (t : Bool). passes_more each t (check σ p c)) (check_none each))
  check_last each (x ∷ cs) c =
      check_first each x (gather (cs ++ c ∷ [])) ∙ ap (passes_more each (check σ p x)) (check_last each cs c)
      ∙ sym (ap (λ (t : Bool). passes_more each t (check σ p c)) (check_first each x (gather cs)) ∙ passes_assoc each (check σ p x) (check σ p (joined each (gather cs))) (check σ p c))

  check_samples : (each : Each) (v : ℕ) (lo hi : Float) (c : Constraint) →
      check σ p (quantified each v lo hi c) ≡ fold (λ m x. passes_more each m (check σ (set p v x) c)) (passes_none each) (samples_of lo hi)
  unfolding check
  check_samples Each.All v lo hi c = refl
  check_samples Each.Any v lo hi c = refl

pub check_measures : Measures check passes not passes_none passes_more passes_more is_decided
unfolding check
check_measures = record {
  of_atom = λ σ p rel t. refl;
  of_not = λ σ p c. refl;
  of_none = check_none;
  of_more = check_last;
  of_samples = check_samples;
  settled = λ each m n e. (decided each m n e, decided each m n e);
}

-- ---- the residual
module _ (σ : Settings) (p : List Float) where
  residuals_last : (f : Float → Float → Float) (x : Float) (cs : List Constraint) (c : Constraint) →
      residuals σ p f x (gather (cs ++ c ∷ [])) ≡ f (residuals σ p f x (gather cs)) (abs_of (residual σ p c))
  unfolding gather residuals
  residuals_last f x [] c = refl
  residuals_last f x (d ∷ cs) c = residuals_last f (f x (abs_of (residual σ p d))) cs c

  residual_last : (each : Each) (cs : List Constraint) (c : Constraint) →
      residual σ p (joined each (gather (cs ++ c ∷ []))) ≡ residual_with_one each (residual σ p (joined each (gather cs))) (residual σ p c)
  unfolding residual
  residual_last Each.All cs c = residuals_last ◌⊕◌ (whole 0) cs c
  residual_last Each.Any cs c = residuals_last min_of +∞ cs c

  residual_none : (each : Each) → residual σ p (joined each end) ≡ residual_of_none each
  unfolding residual
  residual_none Each.All = refl
  residual_none Each.Any = refl

  residual_samples : (each : Each) (v : ℕ) (lo hi : Float) (c : Constraint) →
      residual σ p (quantified each v lo hi c) ≡ fold (λ m x. residual_with_sample each m (residual σ (set p v x) c)) (residual_of_none each) (samples_of lo hi)
  unfolding residual
  residual_samples Each.All v lo hi c = refl
  residual_samples Each.Any v lo hi c = refl

pub residual_measures : Measures residual residual_of_atom residual_of_not residual_of_none residual_with_one residual_with_sample never_settled
unfolding residual
residual_measures = record {
  of_atom = λ σ p rel t. refl;
  of_not = λ σ p c. refl;
  of_none = residual_none;
  of_more = residual_last;
  of_samples = residual_samples;
  settled = λ each m n e. cc;
}
