-- max and min of document 02 [3]: maximumNumber and minimumNumber of IEEE 754-2019, clause 9.6, of f64 values. Of a -0 and a +0 max takes +0 and min
-- -0; other operands that compare equal are the same number. The laws of the order of clause 5.11 leave open which zero is taken, so a proof that cites
-- only those does not rest on it. Assumes nothing.
use Rattle.std.specs.Prelude.{◌≡◌, Bool, true, false, not, ◌&&◌, ◌||◌, T, ◌⊎◌, is_nan, refl, Float}
use Rattle.std.proofs.Common.{sym, subst, ◌∙◌, ⊎_elim, inl, inr}
use Rattle.std.proofs.Math.Dec.{not_T, T_not}
use Rattle.std.specs.Float.{nan, Format}
use Rattle.std.specs.Float.Ieee.{lt, le, eq, fits}
use Rattle.std.specs.Float.Ieee.Fits.{and_l, and_r, and_i}
use Rattle.number.specs.Notation.{when◌then◌else◌}
use Rattle.number.specs.Signed.{or_l, or_r, or_split}
use Rattle.number.specs.Order.{number, failed, only_nan, same_test, le_refl, le_trans, le_nan_left, le_nan_right, lt→le, eq→le, le→not_lt, not_lt→le, le_antisym, eq_sym}
use Rattle.number.specs.Sign.{sign_bit}
use Rattle.number.specs.Pattern.{eq_signed}

-- the order of clause 5.11 the other way
abbrev pub gt : Float → Float → Bool
gt x y = lt y x

abbrev pub ge : Float → Float → Bool
ge x y = le y x

-- ---- the definitions
-- less in clause 9.6: as clause 5.11 compares, and -0 is less than +0. Two operands compare equal and the first alone has its sign bit set only where
-- they are these.
abbrev pub first_alone : Float → Float → Bool
first_alone x y = sign_bit x && not (sign_bit y)

abbrev pub less : Float → Float → Bool
less x y = lt x y || (eq x y && first_alone x y)

abbrev pub greater : Float → Float → Bool
greater x y = less y x

-- b where the test t passes, else a; where one is a NaN, the other
abbrev pub choose : (Float → Float → Bool) → Float → Float → Float
choose t a b = when is_nan a then b else when is_nan b then a else when t a b then b else a

unfoldable pub max_of : Float → Float → Float
max_of a b = choose less a b

unfoldable pub min_of : Float → Float → Float
min_of a b = choose greater a b

-- ---- the laws: `op a b` is one of the two, and bounds each that is no NaN
pub record Bounds (r : Float → Float → Bool) (op : Float → Float → Float) : Type 0 where
  pub left : (a b : Float) → T (number a) → T (r a (op a b))
  pub right : (a b : Float) → T (number b) → T (r b (op a b))
  pub one_of : (a b : Float) → (op a b ≡ a) ⊎ (op a b ≡ b)

abbrev pub IsMax : (Float → Float → Float) → Type 0
IsMax op = Bounds le op

abbrev pub IsMin : (Float → Float → Float) → Type 0
IsMin op = Bounds ge op

-- `choose t` has them where t passes only if b is the bound, and fails only if a is
module _ (r t : Float → Float → Bool) (self : (a : Float) → T (number a) → T (r a a))
    (yes-b : (a b : Float) → T (number a) → T (number b) → T (t a b) → T (r a b))
    (no-a : (a b : Float) → T (number a) → T (number b) → T (not (t a b)) → T (r b a)) where
  choose_left : (a b : Float) → T (number a) → T (r a (choose t a b))
  unfolding when◌then◌else◌
  choose_left a b p = go (is_nan a) (is_nan b) (t a b) p (self a) (yes-b a b p)
    where
      go : (i j k : Bool) → T (not i) → (T (not i) → T (r a a)) → (T (not j) → T k → T (r a b)) → T (r a (when i then b else when j then a else when k then b else a))
      go true j k q f g = absurd q
      go false true k q f g = f tt
      go false false true q f g = g tt tt
      go false false false q f g = f tt

  choose_right : (a b : Float) → T (number b) → T (r b (choose t a b))
  unfolding when◌then◌else◌
  choose_right a b p = go (is_nan a) (is_nan b) (t a b) p (self b) (λ n. no-a a b n p)
    where
      go : (i j k : Bool) → T (not j) → (T (not j) → T (r b b)) → (T (not i) → T (not k) → T (r b a)) → T (r b (when i then b else when j then a else when k then b else a))
      go true j k q f g = f q
      go false true k q f g = absurd q
      go false false true q f g = f tt
      go false false false q f g = g tt tt

  choose_one_of : (a b : Float) → (choose t a b ≡ a) ⊎ (choose t a b ≡ b)
  unfolding when◌then◌else◌
  choose_one_of a b = go (is_nan a) (is_nan b) (t a b)
    where
      go : (i j k : Bool) → (when i then b else when j then a else when k then b else a ≡ a) ⊎ (when i then b else when j then a else when k then b else a ≡ b)
      go true j k = inr refl
      go false true k = inl refl
      go false false true = inr refl
      go false false false = inl refl

  pub choose_bounds : Bounds r (choose t)
  choose_bounds = record { left = choose_left; right = choose_right; one_of = choose_one_of }

pub less→le : (x y : Float) → T (less x y) → T (le x y)
less→le x y h = ⊎_elim (lt→le x y) (λ k. eq→le x y (and_l (eq x y) (first_alone x y) k)) (or_split (lt x y) (eq x y && first_alone x y) h)

not_less→not_lt : (x y : Float) → T (not (less x y)) → T (not (lt x y))
not_less→not_lt x y n = not_T (lt x y) (λ h. T_not (less x y) n (or_l (lt x y) (eq x y && first_alone x y) h))

pub max_laws : IsMax max_of
unfolding max_of
max_laws = choose_bounds le less le_refl (λ a b p q h. less→le a b h) (λ a b p q n. not_lt→le a b p q (not_less→not_lt a b n))

pub min_laws : IsMin min_of
unfolding min_of
min_laws = choose_bounds ge greater le_refl (λ a b p q h. less→le b a h) (λ a b p q n. not_lt→le b a q p (not_less→not_lt b a n))

-- ---- the laws of clause 9.6, which tell the zeros apart: no operand but a NaN is above max or below min
abbrev pub at_most : Float → Float → Bool
at_most x y = not (less y x)

abbrev pub at_least : Float → Float → Bool
at_least x y = not (less x y)

pub less_asym : (x y : Float) → T (less x y) → T (not (less y x))
less_asym x y h = not_T (less y x) (λ k. ⊎_elim (λ l. le→not_lt y x (less→le y x k) l) (λ e. equals k e) (or_split (lt x y) (eq x y && first_alone x y) h))
  where
    equals : T (less y x) → T (eq x y && first_alone x y) → ⊥
    equals k e =
        ⊎_elim
        (λ l. le→not_lt x y (less→le x y h) l)
        (λ e'. T_not (sign_bit x) (and_r (sign_bit y) (not (sign_bit x)) (and_r (eq y x) (first_alone y x) e')) (and_l (sign_bit x) (not (sign_bit y)) (and_r (eq x y) (first_alone x y) e)))
        (or_split (lt y x) (eq y x && first_alone y x) k)

not_less_self : (x : Float) → T (number x) → T (not (less x x))
not_less_self x p = not_T (less x x) (λ h. T_not (less x x) (less_asym x x h) h)

pub max_greatest : Bounds at_most max_of
unfolding max_of
max_greatest = choose_bounds at_most less not_less_self (λ a b p q h. less_asym a b h) (λ a b p q n. n)

pub min_least : Bounds at_least min_of
unfolding min_of
min_least = choose_bounds at_least greater not_less_self (λ a b p q h. less_asym b a h) (λ a b p q n. n)

-- of two values of a format that are no NaNs one is less, or they are the same
pub less_total : (f : Format) (x y : Float) → T (fits f x) → T (fits f y) → T (number x) → T (number y) → T (not (less x y)) → T (not (less y x)) → x ≡ y
less_total f x y h k p q n m = eq_signed f x y h k e (same_test (sign_bit x) (sign_bit y) (from x y e n) (from y x (eq_sym x y e) m))
  where
    e : T (eq x y)
    e = le_antisym x y (not_lt→le y x q p (not_less→not_lt y x m)) (not_lt→le x y p q (not_less→not_lt x y n))

    by : (b : Bool) → (T (not b) → ⊥) → T b
    by true f = tt
    by false f = f tt

    from : (x y : Float) → T (eq x y) → T (not (less x y)) → T (sign_bit x) → T (sign_bit y)
    from x y e n s = by (sign_bit y) (λ u. T_not (less x y) n (or_r (lt x y) (eq x y && first_alone x y) (and_i (eq x y) (first_alone x y) e (and_i (sign_bit x) (not (sign_bit y)) s u))))

-- so the operands can change places
module _ (f : Format) (a b : Float) (h : T (fits f a)) (k : T (fits f b)) where
  choose_commutes : (t : Float → Float → Bool) → (T (t a b) → T (not (t b a))) → (T (number a) → T (number b) → T (not (t a b)) → T (not (t b a)) → a ≡ b) → choose t a b ≡ choose t b a
  unfolding when◌then◌else◌
  choose_commutes t asym total = go (is_nan a) (is_nan b) (t a b) (t b a) (λ p q. only_nan a p ∙ sym (only_nan b q)) asym total
    where
      go : (i j k l : Bool) → (i ≡ true → j ≡ true → a ≡ b) → (T k → T (not l)) → (T (not i) → T (not j) → T (not k) → T (not l) → a ≡ b)
          → (when i then b else when j then a else when k then b else a) ≡ (when j then a else when i then b else when l then a else b)
      go true true k l f g h = sym (f refl refl)
      go true false k l f g h = refl
      go false true k l f g h = refl
      go false false true true f g h = absurd (g tt)
      go false false true false f g h = refl
      go false false false true f g h = refl
      go false false false false f g h = h tt tt tt tt

  pub max_commutes : max_of a b ≡ max_of b a
  unfolding max_of
  max_commutes = choose_commutes less (less_asym a b) (less_total f a b h k)

  pub min_commutes : min_of a b ≡ min_of b a
  unfolding min_of
  min_commutes = choose_commutes greater (less_asym b a) (λ p q n m. less_total f a b h k p q m n)

-- ---- what follows from the laws, whatever the choice
-- what holds of both operands holds of the result: that the format holds it, a bound, that it is no NaN
pub kept : (r : Float → Float → Bool) (op : Float → Float → Float) → Bounds r op → (P : Float → Bool) (a b : Float) → T (P a) → T (P b) → T (P (op a b))
kept r op L P a b p q = ⊎_elim (λ e. subst (λ (x : Float). T (P x)) (sym e) p) (λ e. subst (λ (x : Float). T (P x)) (sym e) q) (L.one_of a b)

-- the operand that the other does not bound
pub takes_first : (r : Float → Float → Bool) (op : Float → Float → Float) → Bounds r op → (a b : Float) → T (number a) → T (not (r a b)) → op a b ≡ a
takes_first r op L a b p n = ⊎_elim (λ e. e) (λ e. absurd (T_not (r a b) n (subst (λ (x : Float). T (r a x)) e (L.left a b p)))) (L.one_of a b)

pub takes_second : (r : Float → Float → Bool) (op : Float → Float → Float) → Bounds r op → (a b : Float) → T (number b) → T (not (r b a)) → op a b ≡ b
takes_second r op L a b p n = ⊎_elim (λ e. absurd (T_not (r b a) n (subst (λ (x : Float). T (r b x)) e (L.right a b p)))) (λ e. e) (L.one_of a b)

-- max a b ≤ x exactly where a ≤ x and b ≤ x
pub max≤ : (op : Float → Float → Float) → IsMax op → (a b x : Float) → T (le a x) → T (le b x) → T (le (op a b) x)
max≤ op L a b x h k = kept le op L (λ y. le y x) a b h k

pub max≤_left : (op : Float → Float → Float) → IsMax op → (a b x : Float) → T (number a) → T (le (op a b) x) → T (le a x)
max≤_left op L a b x p h = le_trans a (op a b) x (L.left a b p) h

pub max≤_right : (op : Float → Float → Float) → IsMax op → (a b x : Float) → T (number b) → T (le (op a b) x) → T (le b x)
max≤_right op L a b x p h = le_trans b (op a b) x (L.right a b p) h

-- x ≤ min a b exactly where x ≤ a and x ≤ b
pub ≤min : (op : Float → Float → Float) → IsMin op → (a b x : Float) → T (le x a) → T (le x b) → T (le x (op a b))
≤min op L a b x h k = kept ge op L (λ y. le x y) a b h k

pub ≤min_left : (op : Float → Float → Float) → IsMin op → (a b x : Float) → T (number a) → T (le x (op a b)) → T (le x a)
≤min_left op L a b x p h = le_trans x (op a b) a h (L.left a b p)

pub ≤min_right : (op : Float → Float → Float) → IsMin op → (a b x : Float) → T (number b) → T (le x (op a b)) → T (le x b)
≤min_right op L a b x p h = le_trans x (op a b) b h (L.right a b p)

-- a NaN yields the other operand
pub max_nan_right : (op : Float → Float → Float) → IsMax op → (a : Float) → T (number a) → op a nan ≡ a
max_nan_right op L a p = takes_first le op L a nan p (failed (le_nan_right a))

pub max_nan_left : (op : Float → Float → Float) → IsMax op → (b : Float) → T (number b) → op nan b ≡ b
max_nan_left op L b p = takes_second le op L nan b p (failed (le_nan_right b))

pub min_nan_right : (op : Float → Float → Float) → IsMin op → (a : Float) → T (number a) → op a nan ≡ a
min_nan_right op L a p = takes_first ge op L a nan p (failed (le_nan_left a))

pub min_nan_left : (op : Float → Float → Float) → IsMin op → (b : Float) → T (number b) → op nan b ≡ b
min_nan_left op L b p = takes_second ge op L nan b p (failed (le_nan_left b))
