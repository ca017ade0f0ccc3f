-- `max` and `min` of the code: two numbers that compare equal are the same, or are the two zeros, whose patterns differ in the sign's bit alone.
-- Assumes nothing.
use Rattle.std.proofs.Common.{◌≡◌, ℕ, Bool, true, false, not, T, pos, sym, ap, ◌∙◌, subst, subst₂, refl, ⊎_elim}
use Rattle.std.proofs.Math.Dec.{T_not, not_T}
use Rattle.std.specs.Int.Bits.{bit_and, bit_or, and_self, or_self}
use lib.Ieee.{Float, fin, binary64, is_nan, lt, le, eq, fits, to_bits, of_bits, nan_bits}
use lib.Ieee.Bits.{of_bits-to_bits, nan_bits_is}
use Rattle.number.specs.Notation.{when◌then◌else◌}
use Rattle.number.specs.Sign.{sign_bit}
use Rattle.number.specs.Order.{number, naught, passed, failed, le_left, le_right, lt→le, le→not_lt, le_split, eq_sym, eq_trans}
use Rattle.number.specs.Pattern.{eq_same, eq_signed}
use Rattle.number.specs.MaxMin.{Bounds, gt, ge, max_of, min_of, max_laws, min_laws, kept, takes_first, takes_second}
use Rattle.number.specs.Computing.{computing}

abbrev pattern : Float → ℕ
pattern x = to_bits binary64 x

abbrev zero : Bool → Float
zero s = fin s 0 (pos 0)

-- what equals zero is one of the two
a_zero : (x : Float) → T (fits binary64 x) → T (eq x naught) → x ≡ zero (sign_bit x)
a_zero x h e = is (sign_bit x) refl
  where
    is : (s : Bool) → sign_bit x ≡ s → x ≡ zero s
    is true p = eq_signed binary64 x (zero true) h (unfold computing in tt) (eq_trans x naught (zero true) e (unfold computing in tt)) (p ∙ unfold computing in refl)
    is false p = eq_signed binary64 x naught h (unfold computing in tt) e (p ∙ unfold computing in refl)

-- The choice `m` by two selections, b where `t a b`, else a, and b where `r a b`, else a. Where they differ, a and b compare equal. `op` of the two
-- patterns is the pattern of `m a b`.
module _ (op : ℕ → ℕ → ℕ) (self : (n : ℕ) → op n n ≡ n) (m : Float → Float → Float) (r t : Float → Float → Bool) (L : Bounds r m)
    (zeros : (u v : Bool) → op (pattern (zero u)) (pattern (zero v)) ≡ pattern (m (zero u) (zero v)))
    (strict : (x y : Float) → T (t x y) → T (not (r y x)) × T (r x y)) (weak : (x y : Float) → T (not (t x y)) → T (r x y) → T (eq x y))
    (right : (x y : Float) → T (r x y) → T (number y)) where
  equals : (x y : Float) → T (fits binary64 x) → T (fits binary64 y) → T (eq x y) → op (pattern x) (pattern y) ≡ pattern (m x y)
  equals x y h k e =
      ⊎_elim
      same
      (λ z. subst₂ (λ (u v : Float). op (pattern u) (pattern v) ≡ pattern (m u v)) (sym (a_zero x h z.0)) (sym (a_zero y k z.1)) (zeros (sign_bit x) (sign_bit y)))
      (eq_same binary64 x y h k e)
    where
      same : x ≡ y → op (pattern x) (pattern y) ≡ pattern (m x y)
      same p = subst (λ (u : Float). op (pattern x) (pattern u) ≡ pattern (m x u)) p (self (pattern x) ∙ ap (to_bits binary64) (sym (⊎_elim (λ q. q) (λ q. q) (L.one_of x x))))

  module _ (a b : Float) (h : T (fits binary64 a)) (k : T (fits binary64 b)) (p : is_nan a ≡ false) where
    joined : op (pattern (when t a b then b else a)) (pattern (when r a b then b else a)) ≡ pattern (m a b)
    unfolding when◌then◌else◌
    joined = by (t a b) (r a b) (strict a b) (weak a b) (λ l. takes_second r m L a b (right a b (strict a b l).1) (strict a b l).0) (takes_first r m L a b (failed p))
      where
        by : (i j : Bool) → (T i → T (not (r b a)) × T j) → (T (not i) → T j → T (eq a b)) → (T i → m a b ≡ b) → (T (not j) → m a b ≡ a) → op (pattern (when i then b else a)) (pattern (when j then b else a)) ≡ pattern (m a b)
        by true true s w f g = subst (λ (x : Float). op (pattern x) (pattern x) ≡ pattern (m a b)) (f tt) (self (pattern (m a b)))
        by true false s w f g = absurd (s tt).1
        by false true s w f g = equals a b h k (w tt tt)
        by false false s w f g = subst (λ (x : Float). op (pattern x) (pattern x) ≡ pattern (m a b)) (g tt) (self (pattern (m a b)))

    read : of_bits binary64 (op (pattern (when t a b then b else a)) (pattern (when r a b then b else a))) ≡ m a b
    read = ap (of_bits binary64) joined ∙ of_bits-to_bits binary64 (m a b) (kept r m L (fits binary64) a b h k)

    no_nan : T (not (nan_bits binary64 (op (pattern (when t a b then b else a)) (pattern (when r a b then b else a)))))
    no_nan = rw (nan_bits_is binary64 (op (pattern (when t a b then b else a)) (pattern (when r a b then b else a))), read) (right a (m a b) (L.left a b (failed p)))

and_zeros : (u v : Bool) → bit_and (pattern (zero u)) (pattern (zero v)) ≡ pattern (max_of (zero u) (zero v))
unfolding computing
and_zeros true true = refl
and_zeros true false = refl
and_zeros false true = refl
and_zeros false false = refl

or_zeros : (u v : Bool) → bit_or (pattern (zero u)) (pattern (zero v)) ≡ pattern (min_of (zero u) (zero v))
unfolding computing
or_zeros true true = refl
or_zeros true false = refl
or_zeros false true = refl
or_zeros false false = refl

above : (x y : Float) → T (lt x y) → T (not (le y x)) × T (le x y)
above x y l = (not_T (le y x) (λ g. le→not_lt y x g l), lt→le x y l)

level : (x y : Float) → T (not (lt x y)) → T (le x y) → T (eq x y)
level x y n l = ⊎_elim (λ g. absurd (T_not (lt x y) n g)) (λ e. e) (le_split x y l)

module _ (a b : Float) (h : T (fits binary64 a)) (k : T (fits binary64 b)) (p : is_nan a ≡ false) where
  pub max_read : of_bits binary64 (bit_and (pattern (when lt a b then b else a)) (pattern (when le a b then b else a))) ≡ max_of a b
  max_read = read bit_and and_self max_of le lt max_laws and_zeros above level le_right a b h k p

  pub max_no_nan : T (not (nan_bits binary64 (bit_and (pattern (when lt a b then b else a)) (pattern (when le a b then b else a)))))
  max_no_nan = no_nan bit_and and_self max_of le lt max_laws and_zeros above level le_right a b h k p

  pub min_read : of_bits binary64 (bit_or (pattern (when lt b a then b else a)) (pattern (when le b a then b else a))) ≡ min_of a b
  min_read = read bit_or or_self min_of ge gt min_laws or_zeros (λ x y. above y x) (λ x y n l. eq_sym y x (level y x n l)) (λ x y. le_left y x) a b h k p

  pub min_no_nan : T (not (nan_bits binary64 (bit_or (pattern (when lt b a then b else a)) (pattern (when le b a then b else a)))))
  min_no_nan = no_nan bit_or or_self min_of ge gt min_laws or_zeros (λ x y. above y x) (λ x y n l. eq_sym y x (level y x n l)) (λ x y. le_left y x) a b h k p

pub ruleset greatest = (passed, max_read, max_no_nan)

pub ruleset least = (passed, min_read, min_no_nan)
