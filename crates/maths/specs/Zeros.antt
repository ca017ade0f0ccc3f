-- exp, ln, sine and cosine where they need no series: at the zeros and at 1. Assumes nothing.
use Rattle.std.specs.Prelude.{ℕ, zero, suc, ◌*◌, ◌^◌, ◌≡◌, refl, Bool, true, false, T, eqb, ℤ, pos, negsuc, Float}
use Rattle.std.proofs.Common.{ap, ◌∙◌, ⊎_elim, mul-pos, pow-suc, zero-lt-suc, zero-mul, pow_pos, arith, eqb→eq}
use Rattle.std.specs.Float.{nan, inf, fin, binary64}
use Rattle.std.specs.Float.Ieee.{eq, up, down, fits}
use Rattle.std.specs.Float.Ieee.Fits.{up_pos, and_l, of_int-fits}
use Rattle.number.specs.Notation.{whole, bits}
use Rattle.number.specs.Order.{naught, passed}
use Rattle.number.specs.Pattern.{eq_same}
use Rattle.maths.specs.Exp.{exp_of}
use Rattle.maths.specs.Ln.{ln_of}
use Rattle.maths.specs.Trig.{sin_of, cos_of}
use Rattle.maths.specs.Computing.{computing}

positive : (m : ℕ) (e : ℤ) → suc m * up e * 1 ≡ 0 * 1 * down e → ⊥
positive m e h = omega (arith, h, mul-pos (zero-lt-suc m) (up_pos e), zero-mul (down e))

-- what holds of both zeros holds of an f64 that equals zero
at_zeros : (P : Float → Type 0) → ((s : Bool) → P (fin s 0 (pos 0))) → (x : Float) → T (fits binary64 x) → T (eq x naught) → P x
unfolding eq fits
at_zeros P p nan h z = absurd z
at_zeros P p (inf s) h z = absurd z
at_zeros P p (fin s zero (pos zero)) h z = p s
at_zeros P p (fin s zero (pos (suc n))) h z = absurd (omega (arith, eqb→eq (2 ^ suc n * 1) 1 h, pow-suc 2 n, pow_pos n))
at_zeros P p (fin s zero (negsuc n)) h z = absurd (omega (arith, eqb→eq (1 * 2 ^ suc n) 1 h, pow-suc 2 n, pow_pos n))
at_zeros P p (fin true (suc m) e) h z = absurd (positive m e (eqb→eq _ _ (and_l (eqb (suc m * up e * 1) (0 * 1 * down e)) _ z)))
at_zeros P p (fin false (suc m) e) h z = absurd (positive m e (eqb→eq _ _ (and_l (eqb (suc m * up e * 1) (0 * 1 * down e)) true z)))

exp_zeros : (s : Bool) → exp_of (fin s 0 (pos 0)) ≡ whole 1
unfolding computing
exp_zeros true = refl
exp_zeros false = refl

cos_zeros : (s : Bool) → cos_of (fin s 0 (pos 0)) ≡ whole 1
unfolding computing
cos_zeros true = refl
cos_zeros false = refl

sin_zeros : (s : Bool) → sin_of (fin s 0 (pos 0)) ≡ fin s 0 (pos 0)
unfolding computing
sin_zeros true = refl
sin_zeros false = refl

module _ (x : Float) (h : T (fits binary64 x)) where
  module _ (z : T (eq x naught)) where
    pub exp_zero : exp_of x ≡ whole 1
    exp_zero = at_zeros (λ (y : Float). exp_of y ≡ whole 1) exp_zeros x h z

    pub cos_zero : cos_of x ≡ whole 1
    cos_zero = at_zeros (λ (y : Float). cos_of y ≡ whole 1) cos_zeros x h z

    pub sin_zero : sin_of x ≡ x
    sin_zero = at_zeros (λ (y : Float). sin_of y ≡ y) sin_zeros x h z

-- ---- at 1
one_fits : T (fits binary64 (whole 1))
one_fits = of_int-fits binary64 (pos 1)

one_not_zero : T (eq (whole 1) naught) → ⊥
unfolding computing
one_not_zero z = z

is_one : (x : Float) → T (fits binary64 x) → eq x (whole 1) ≡ true → x ≡ whole 1
is_one x h e = ⊎_elim (λ d. d) (λ w. absurd (one_not_zero w.1)) (eq_same binary64 x (whole 1) h one_fits (passed e))

exp_of_one : exp_of (whole 1) ≡ bits 0x4005BF0A8B14576A
unfolding computing
exp_of_one = refl

ln_of_one : ln_of (whole 1) ≡ whole 0
unfolding computing
ln_of_one = refl

pub exp_one : (x : Float) → T (fits binary64 x) → eq x (whole 1) ≡ true → exp_of x ≡ bits 0x4005BF0A8B14576A
exp_one x h e = ap exp_of (is_one x h e) ∙ exp_of_one

pub ln_one : (x : Float) → T (fits binary64 x) → eq x (whole 1) ≡ true → ln_of x ≡ whole 0
ln_one x h e = ap ln_of (is_one x h e) ∙ ln_of_one
