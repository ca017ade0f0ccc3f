-- Rounding keeps the order of fractions with a sign, so a sum of floats grows with each operand. And it changes nothing at a fraction that
-- the format holds, so doubling is exact where it does not overflow. Assumes nothing.
use Rattle.std.specs.Prelude.{◌≡◌, ℕ, zero, suc, ◌+◌, ◌-◌, ◌*◌, ◌%◌, ◌^◌, ◌<◌, ◌≤◌, Bool, true, false, cond, not, ◌&&◌, T, ltb, ◌⊎◌, ℤ, pos, negsuc, nat_eq, nat_le, nat_lt, Float}
use Rattle.std.proofs.Math.Path.{refl}
use Rattle.std.proofs.Common.{sym, ap, ◌∙◌, ap₂, subst, inl, inr, zero-le, mul-pos, mul_comm, add-mul, sub-add_cancel, zero-mul, le_of_eq, one-mul, le_of_suc-le-suc, lt_of_not-le, not-le_of_lt, mul-le-mul_right, lt_of_lt_of_le, mul-lt-mul_of_pos_right, lt_of_mul-lt-mul_right, arith, true≢false, ltb→lt, leb→le, nltb→le, eqb→eq, pow_pos, pow-add, le-leb}
use Rattle.std.proofs.Math.Nat.{eq_of_mul-eq-mul_right}
use Rattle.std.proofs.lemmas.Bool.{false≢true, lt-leb}
use Rattle.std.proofs.Math.Pow.{pow-lt}
use Rattle.std.specs.Float.{nan, inf, fin, Format}
use Rattle.std.specs.Float.Ieee.{prec, emax, low, up, down, minus as difference, odd, units, round, sum, add, div, neg, le, fits}
use Rattle.std.specs.Float.Ieee.Digits.{minus_val}
use Rattle.std.specs.Float.Ieee.Fits.{up_pos, down_pos, and_l, and_r}
use Rattle.std.specs.Float.Ieee.Exact.{HasValue, round_exact}
use Rattle.std.specs.Float.Ieee.Order.{round_mono}
use Rattle.std.specs.Float.Ieee.Scale.{finite}
use Rattle.std.specs.Float.Ieee.Positive.{den, den_pos}
use Rattle.number.specs.Signed.{Leq, leq_trans, products, plus, minus, le→⊑, ⊑→le}
use Rattle.number.specs.Order.{le_trans, neg_le}

-- ---- a rounded negative is the negative of the rounded
odd_neg : (d q k l : ℕ) → odd d true q k l ≡ neg (odd d false q k l)
unfolding odd neg
odd_neg d zero k l = refl
odd_neg d (suc q) k l = refl

units_neg : (f : Format) (q k : ℕ) → units f true q k ≡ neg (units f false q k)
unfolding units
units_neg f q k = go (nat_lt (q * 2 ^ k) (2 ^ (low f + suc (emax f))))
  where
    go : (b : Bool) → cond b (odd (suc (prec f)) true q k (low f)) (inf true) ≡ neg (cond b (odd (suc (prec f)) false q k (low f)) (inf false))
    go true = odd_neg (suc (prec f)) q k (low f)
    go false = unfold neg in refl

pub round_neg : (f : Format) (a c : ℕ) → round f true a c ≡ neg (round f false a c)
unfolding round
round_neg f a c = units_neg f _ _

-- ---- a float that is ±a / c, as a fraction with a sign
pub value_finite : (x : Float) (s : Bool) (a c : ℕ) → HasValue x s a c → T (finite x)
value_finite nan s a c h = h
value_finite (inf t) s a c h = h
value_finite (fin t m e) s a c h = tt

-- x ≤ ±a / c
value_leq : (x : Float) (s : Bool) (a c : ℕ) → HasValue x s a c → Leq (plus x) (minus x) (den x) (cond s 0 a) (cond s a 0) c
value_leq nan s a c h = absurd h
value_leq (inf t) s a c h = absurd h
value_leq (fin true m e) true a c h = omega (arith, h.1)
value_leq (fin true m e) false a c h = absurd (true≢false h.0)
value_leq (fin false m e) true a c h = absurd (false≢true h.0)
value_leq (fin false m e) false a c h = omega (arith, h.1)

-- ±a / c ≤ x
leq_value : (x : Float) (s : Bool) (a c : ℕ) → HasValue x s a c → Leq (cond s 0 a) (cond s a 0) c (plus x) (minus x) (den x)
leq_value nan s a c h = absurd h
leq_value (inf t) s a c h = absurd h
leq_value (fin true m e) true a c h = omega (arith, h.1)
leq_value (fin true m e) false a c h = absurd (true≢false h.0)
leq_value (fin false m e) true a c h = absurd (false≢true h.0)
leq_value (fin false m e) false a c h = omega (arith, h.1)

pub le_of_values : (x y : Float) (s t : Bool) (a c b d : ℕ) → 0 < c → 0 < d → HasValue x s a c → HasValue y t b d → Leq (cond s 0 a) (cond s a 0) c (cond t 0 b) (cond t b 0) d → T (le x y)
le_of_values x y s t a c b d C D p q h =
    ⊑→le x y (value_finite x s a c p) (value_finite y t b d q)
    (leq_trans (plus x) (minus x) (den x) (cond s 0 a) (cond s a 0) c (plus y) (minus y) (den y) C (value_leq x s a c p)
    (leq_trans (cond s 0 a) (cond s a 0) c (cond t 0 b) (cond t b 0) d (plus y) (minus y) (den y) D h (leq_value y t b d q)))

-- ---- zero
pub round_zero : (f : Format) (s : Bool) (c : ℕ) → 0 < c → HasValue (round f s 0 c) s 0 c
round_zero f s c C = round_exact f s 0 c 0 0 C (pow_pos (prec f)) (pow_pos (low f + suc (emax f))) (omega arith)

-- ---- z is (p - n) / c, rounded. Where that is 0, z may be either zero
abbrev pub Rounded : Format → Float → ℕ → ℕ → ℕ → Type 0
Rounded f z p n c = ((n ≤ p) × (z ≡ round f false (p - n) c)) ⊎ ((p ≤ n) × (z ≡ round f true (n - p) c))

-- (x - y) * k without the difference
times : (x y k : ℕ) → y ≤ x → (x - y) * k + y * k ≡ x * k
times x y k l = sym (add-mul (x - y) y k) ∙ ap (λ (z : ℕ). z * k) (sub-add_cancel l)

no_factor : (k d : ℕ) → 0 < d → k * d ≤ 0 → k ≡ 0
no_factor k d D h = eq_of_mul-eq-mul_right d D k 0 (omega arith)

pos_mono : (f : Format) (p n c q m d : ℕ) → 0 < c → 0 < d → n ≤ p → m ≤ q → Leq p n c q m d → T (le (round f false (p - n) c) (round f false (q - m) d))
pos_mono f p n c q m d C D a b h = round_mono f (p - n) c (q - m) d C D (omega (arith, times p n d a, times q m c b))

neg_mono : (f : Format) (p n c q m d : ℕ) → 0 < c → 0 < d → p ≤ n → q ≤ m → Leq p n c q m d → T (le (round f true (n - p) c) (round f true (m - q) d))
neg_mono f p n c q m d C D a b h =
    rw (round_neg f (n - p) c, round_neg f (m - q) d) (neg_le (round f false (m - q) d) (round f false (n - p) c) (pos_mono f m q d n p c D C b a (omega arith)))

-- the zeros are equal
zeros_le : (f : Format) (s t : Bool) (c d : ℕ) → 0 < c → 0 < d → T (le (round f s 0 c) (round f t 0 d))
zeros_le f s t c d C D = le_of_values (round f s 0 c) (round f t 0 d) s t 0 c 0 d C D (round_zero f s c C) (round_zero f t d D) (level s t)
  where
    level : (s t : Bool) → Leq (cond s 0 0) (cond s 0 0) c (cond t 0 0) (cond t 0 0) d
    level true true = omega arith
    level true false = omega arith
    level false true = omega arith
    level false false = omega arith

-- what is not above zero is at most what is not below it
across : (f : Format) (a c b d : ℕ) → 0 < c → 0 < d → T (le (round f true a c) (round f false b d))
across f a c b d C D =
    le_trans (round f true a c) (round f true 0 c) (round f false b d)
    (rw (round_neg f a c, round_neg f 0 c) (neg_le (round f false 0 c) (round f false a c) (round_mono f 0 c a c C C (omega arith))))
    (le_trans (round f true 0 c) (round f false 0 d) (round f false b d) (zeros_le f true false c d C D) (round_mono f 0 d b d D D (omega arith)))

pub rounded_mono : (f : Format) (z w : Float) (p n c q m d : ℕ) → 0 < c → 0 < d → Rounded f z p n c → Rounded f w q m d → Leq p n c q m d → T (le z w)
rounded_mono f z w p n c q m d C D (inl x) (inl y) h = rw (x.1, y.1) (pos_mono f p n c q m d C D x.0 y.0 h)
rounded_mono f z w p n c q m d C D (inr x) (inr y) h = rw (x.1, y.1) (neg_mono f p n c q m d C D x.0 y.0 h)
rounded_mono f z w p n c q m d C D (inr x) (inl y) h = rw (x.1, y.1) (across f (n - p) c (q - m) d C D)
rounded_mono f z w p n c q m d C D (inl x) (inr y) h =
    let e : p - n ≡ 0 = no_factor (p - n) d D (omega (arith, times p n d x.0, times m q c y.0)) in
    let g : m - q ≡ 0 = no_factor (m - q) c C (omega (arith, times p n d x.0, times m q c y.0)) in
    rw (x.1, y.1, e, g) (zeros_le f false true c d C D)

-- ---- what each operation rounds
-- a - b, and b - a, as `sum` picks the sign
left_less : (f : Format) (a b c p n : ℕ) → p ≡ a → n ≡ b → Rounded f (cond (nat_lt a b) (round f true (b - a) c) (round f false (a - b) c)) p n c
left_less f a b c p n i j = go (nat_lt a b) (ltb→lt a b) (nltb→le a b)
  where
    go : (t : Bool) → (T t → a < b) → (T (not t) → b ≤ a) → Rounded f (cond t (round f true (b - a) c) (round f false (a - b) c)) p n c
    go true l g = let l = l tt in inr (omega arith, ap (λ (k : ℕ). round f true k c) (omega arith))
    go false l g = let g = g tt in inl (omega arith, ap (λ (k : ℕ). round f false k c) (omega arith))

right_less : (f : Format) (a b c p n : ℕ) → p ≡ b → n ≡ a → Rounded f (cond (nat_lt a b) (round f false (b - a) c) (round f (nat_lt b a) (a - b) c)) p n c
right_less f a b c p n i j = go (nat_lt a b) (nat_lt b a) (ltb→lt a b) (nltb→le a b) (ltb→lt b a) (nltb→le b a)
  where
    go : (t u : Bool) → (T t → a < b) → (T (not t) → b ≤ a) → (T u → b < a) → (T (not u) → a ≤ b)
        → Rounded f (cond t (round f false (b - a) c) (round f u (a - b) c)) p n c
    go true u l g r h = let l = l tt in inl (omega arith, ap (λ (k : ℕ). round f false k c) (omega arith))
    go false true l g r h = let g = g tt in inr (omega arith, ap (λ (k : ℕ). round f true k c) (omega arith))
    go false false l g r h = let g = g tt in let h = h tt in inl (omega arith, ap (λ (k : ℕ). round f false k c) (omega arith))

pub add_rounded : (f : Format) (x y : Float) → T (finite x) → T (finite y)
    → Rounded f (add f x y) (plus x * den y + plus y * den x) (minus x * den y + minus y * den x) (den x * den y)
unfolding add sum
add_rounded f nan y p q = absurd p
add_rounded f (inf s) y p q = absurd p
add_rounded f (fin s m e) nan p q = absurd q
add_rounded f (fin s m e) (inf t) p q = absurd q
add_rounded f (fin false m e) (fin false n d) p q = inl (omega arith, ap (λ (k : ℕ). round f false k (down e * down d)) (omega arith))
add_rounded f (fin true m e) (fin true n d) p q = inr (omega arith, ap (λ (k : ℕ). round f true k (down e * down d)) (omega arith))
add_rounded f (fin false m e) (fin true n d) p q =
    left_less f (m * up e * down d) (n * up d * down e) (down e * down d) (m * up e * down d + 0 * down e) (0 * down d + n * up d * down e) (omega arith) (omega arith)
add_rounded f (fin true m e) (fin false n d) p q =
    right_less f (m * up e * down d) (n * up d * down e) (down e * down d) (0 * down d + n * up d * down e) (m * up e * down d + 0 * down e) (omega arith) (omega arith)

-- 2.0
abbrev pub two : Float
two = fin false 1 (pos 1)

pub half_rounded : (f : Format) (x : Float) → T (finite x) → Rounded f (div f x two) (plus x) (minus x) (den x * 2)
unfolding div
half_rounded f nan p = absurd p
half_rounded f (inf s) p = absurd p
half_rounded f (fin false m e) p = inl (zero-le, ap₂ (round f false) (omega arith) (mul_comm 2 (down e)))
half_rounded f (fin true m e) p = inr (zero-le, ap₂ (round f true) (omega arith) (mul_comm 2 (down e)))

-- ---- sums grow with each operand
sum_leq : (p n c q m d r k e s l g : ℕ) → Leq p n c q m d → Leq r k e s l g → Leq (p * e + r * c) (n * e + k * c) (c * e) (q * g + s * d) (m * g + l * d) (d * g)
sum_leq p n c q m d r k e s l g h i =
    let h' = simp products at (mul-le-mul_right (e * g) h) in
    let i' = simp products at (mul-le-mul_right (c * d) i) in
    simp products (omega arith)

pub add_mono : (f : Format) (x y x' y' : Float) → T (finite x) → T (finite y) → T (finite x') → T (finite y') → T (le x x') → T (le y y') → T (le (add f x y) (add f x' y'))
add_mono f x y x' y' p q p' q' h k =
    rounded_mono f (add f x y) (add f x' y') (plus x * den y + plus y * den x) (minus x * den y + minus y * den x) (den x * den y)
    (plus x' * den y' + plus y' * den x') (minus x' * den y' + minus y' * den x') (den x' * den y') (mul-pos (den_pos x) (den_pos y)) (mul-pos (den_pos x') (den_pos y'))
    (add_rounded f x y p q) (add_rounded f x' y' p' q')
    (sum_leq (plus x) (minus x) (den x) (plus x') (minus x') (den x') (plus y) (minus y) (den y) (plus y') (minus y') (den y') (le→⊑ x x' p p' h) (le→⊑ y y' q q' k))

-- ---- exactness: what the format holds, times a power of two, is not changed by rounding as long as it does not overflow
-- e is r - l: 2 ^ e is 2 ^ r of 2 ^ -l
pub exponent_at : (e : ℤ) (l : ℕ) → down e ≤ 2 ^ l → (r : ℕ) × (difference r l ≡ e)
exponent_at (pos k) l h = let s : k + l - l ≡ k = omega arith in (k + l, rw (le-leb l (k + l) (omega arith)) (ap pos s))
exponent_at (negsuc k) l h =
    let g : suc k ≤ l = le_of_suc-le-suc (lt_of_not-le (λ (g : suc l ≤ suc k). not-le_of_lt (pow-lt g) h)) in
    let s : l - suc (l - suc k) ≡ k = omega arith in
    (l - suc k, rw (lt-leb l (l - suc k) (omega arith)) (ap negsuc s))

pub units_at : (e : ℤ) (l r : ℕ) → difference r l ≡ e → (m : ℕ) → m * up e * 2 ^ l ≡ m * 2 ^ r * down e
units_at e l r i m = subst (λ (z : ℤ). m * up z * 2 ^ l ≡ m * 2 ^ r * down z) i (minus_val m r l)

-- what `fits` says of a finite value
pub fits_parts : (f : Format) (s : Bool) (m : ℕ) (e : ℤ) → T (fits f (fin s m e)) → (m < 2 ^ prec f) × (down e ≤ 2 ^ low f) × (m * up e < 2 ^ suc (emax f) * down e)
unfolding fits
fits_parts f s zero e h =
    let one : up e * down e ≡ 1 = eqb→eq (up e * down e) 1 h in
    let small : down e ≤ 1 = omega (arith, one-mul (down e), mul-le-mul_right (down e) (up_pos e)) in
    (pow_pos (prec f), omega (arith, pow_pos (low f)), subst (λ (z : ℕ). z < 2 ^ suc (emax f) * down e) (sym (zero-mul (up e))) (mul-pos (pow_pos (suc (emax f))) (down_pos e)))
fits_parts f s (suc m) e h =
    let a = nat_eq (suc m % 2) 1 in
    let b = ltb (suc m) (2 ^ prec f) in
    let c = nat_le (down e) (2 ^ low f) in
    let d = ltb (suc m * up e) (2 ^ suc (emax f) * down e) in
    let abc = and_l (a && b && c) d h in (
      ltb→lt (suc m) (2 ^ prec f) (and_r a b (and_l (a && b) c abc)),
      leb→le (down e) (2 ^ low f) (and_r (a && b) c abc),
      ltb→lt (suc m * up e) (2 ^ suc (emax f) * down e) (and_r (a && b && c) d h),
    )

pub round_scaled : (f : Format) (s : Bool) (m : ℕ) (e : ℤ) (t : ℕ) → T (fits f (fin s m e)) → m * up e * 2 ^ t < 2 ^ suc (emax f) * down e
    → HasValue (round f s (m * up e * 2 ^ t) (down e)) s (m * up e * 2 ^ t) (down e)
round_scaled f s m e t h k =
    let p = fits_parts f s m e h in
    let g = exponent_at e (low f) p.1 in
    let r = g.0 in
    let same : m * up e * 2 ^ t * 2 ^ low f ≡ m * 2 ^ (r + t) * down e =
    rw (pow-add 2 r t) (simp products (simp products at (ap (λ (z : ℕ). z * 2 ^ t) (units_at e (low f) r g.1 m)))) in
    let under : m * 2 ^ (r + t) * down e < 2 ^ (low f + suc (emax f)) * down e =
    rw (← same, pow-add 2 (low f) (suc (emax f))) (lt_of_lt_of_le (mul-lt-mul_of_pos_right k (pow_pos (low f))) (le_of_eq (simp products))) in
    round_exact f s (m * up e * 2 ^ t) (down e) m (r + t) (down_pos e) p.0 (lt_of_mul-lt-mul_right (down e) under) same
