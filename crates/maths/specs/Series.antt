-- The sums of document 01 are all of one form: a value that is replaced step by step, each step having its number. Assumes nothing.
use Prim.Native.Nat.{ℕ, zero, suc, ◌≤◌}
use Rattle.std.specs.Prelude.{◌≡◌, Float}
use Rattle.std.proofs.Math.Path.{refl}
use native.Mathlib.Omega.{arith}

-- s after the steps n, n - 1 .. 1
unfoldable pub series : (ℕ → Float → Float) → ℕ → Float → Float
series step zero s = s
series step (suc n) s = series step n (step (suc n) s)

-- ---- a loop that counts n down: what is left of the series, from what the loop has, does not change
module _ (step : ℕ → Float → Float) where
  pub none_left : (n : ℕ) (s : Float) → n ≤ 0 → s ≡ series step n s
  unfolding series
  none_left zero s h = refl
  none_left (suc n) s h = absurd (omega arith)
