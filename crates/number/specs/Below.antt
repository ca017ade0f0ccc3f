-- Values of magnitude below a whole number: what is rounded stays there, and so does the nearest whole number. Assumes nothing.
use Rattle.std.specs.Prelude.{◌≡◌, ℕ, zero, suc, ◌+◌, ◌*◌, ◌^◌, ◌<◌, ◌≤◌, Bool, true, false, cond, T, nat_lt, refl, Float}
use Rattle.std.proofs.Common.{ap, sym, ◌∙◌, subst, le_of_eq, le_trans, lt_of_le_of_lt, lt_of_lt_of_le, suc-mul, add-mul, one-mul, le_of_mul-le-mul_right, mul-one, mul_left_comm, mul_right_comm, mul-pos, mul-lt-mul_of_pos_right, mul-le-mul_right, lt_of_mul-lt-mul_right, div-lt_iff_lt-mul, arith, true≢false, lit<, ltb→lt, lt→ltb}
use Rattle.std.specs.Int.Signed.{mag}
use Rattle.std.specs.Float.{nan, inf, fin, Format, binary64}
use Rattle.std.specs.Float.Ieee.{up, down, low, prec, emax, round, units, odd, neg, le}
use Rattle.std.specs.Float.Ieee.Fits.{down_pos, round_is}
use Rattle.std.specs.Float.Ieee.Exact.{HasValue}
use Rattle.std.specs.Float.Ieee.Back.{round_whole}
use Rattle.std.specs.Float.Ieee.Order.{drop, kept, round_mono}
use Rattle.number.specs.Sign.{sign_bit}
use Rattle.number.specs.Near.{nearest, below, half_up}
use Rattle.number.specs.Cast.{mag_sign}
use Rattle.number.specs.Signed.{le→⊑}
use Rattle.number.specs.Round.{round_neg}

-- ---- a fraction up to B rounds to a value below B + 1
units_sign : (f : Format) (q k : ℕ) → sign_bit (units f false q k) ≡ false
unfolding units odd sign_bit
units_sign f q k = go (nat_lt (q * 2 ^ k) (2 ^ (low f + suc (emax f)))) q
  where
    go : (b : Bool) (q : ℕ) → sign_bit (cond b (odd (suc (prec f)) false q k (low f)) (inf false)) ≡ false
    go true zero = refl
    go true (suc q) = refl
    go false q = refl

round_sign : (f : Format) (a c : ℕ) → sign_bit (round f false a c) ≡ false
round_sign f a c = ap sign_bit (round_is f false a c) ∙ units_sign f (kept (prec f) (a * 2 ^ low f) c) (drop (prec f) (a * 2 ^ low f) c)

more : (B d x : ℕ) → 0 < d → x ≤ B * d → x < suc B * d
more B d x h k = rw suc-mul (omega arith)

-- what is no more than a value that is B
below_of_le : (B : ℕ) (y z : Float) → sign_bit y ≡ false → HasValue z false B 1 → T (le y z) → T (below (suc B) y)
unfolding below sign_bit
below_of_le B nan z p v h = unfold le in h
below_of_le B (inf true) z p v h = absurd (true≢false p)
below_of_le B (inf false) nan p v h = absurd v
below_of_le B (inf false) (inf t) p v h = absurd v
below_of_le B (inf false) (fin t n d) p v h = unfold le in h
below_of_le B (fin true m e) z p v h = absurd (true≢false p)
below_of_le B (fin false m e) nan p v h = absurd v
below_of_le B (fin false m e) (inf t) p v h = absurd v
below_of_le B (fin false m e) (fin true n d) p v h = absurd (true≢false v.0)
below_of_le B (fin false m e) (fin false n d) p v h =
    let q : m * up e * down d ≤ n * up d * down e = omega (arith, le→⊑ (fin false m e) (fin false n d) tt tt h) in
    let r : n * up d ≡ B * down d = sym (mul-one (n * up d)) ∙ v.1 in
    let w : m * up e * down d ≤ B * down e * down d = le_trans q (le_of_eq (ap (λ (x : ℕ). x * down e) r ∙ mul_right_comm B (down d) (down e))) in
    lt→ltb (m * up e) (suc B * down e) (more B (down e) (m * up e) (down_pos e) (le_of_mul-le-mul_right w (down_pos d)))

below_neg : (k : ℕ) (x : Float) → T (below k x) → T (below k (neg x))
unfolding below neg
below_neg k nan h = h
below_neg k (inf s) h = h
below_neg k (fin s m e) h = h

positive_below : (B a c : ℕ) → B ≤ 2 ^ 53 → 0 < c → a ≤ B * c → T (below (suc B) (round binary64 false a c))
positive_below B a c b C h =
    below_of_le B (round binary64 false a c) (round binary64 false B 1) (round_sign binary64 a c) (round_whole binary64 false B b)
    (round_mono binary64 a c B 1 C (lit< tt) (subst (λ (z : ℕ). z ≤ B * c) (sym (mul-one a)) h))

pub round_below : (B : ℕ) (s : Bool) (a c : ℕ) → B ≤ 2 ^ 53 → 0 < c → a ≤ B * c → T (below (suc B) (round binary64 s a c))
round_below B false a c b C h = positive_below B a c b C h
round_below B true a c b C h =
    subst (λ (z : Float). T (below (suc B) z)) (sym (round_neg binary64 a c)) (below_neg (suc B) (round binary64 false a c) (positive_below B a c b C h))

-- ---- what has the value a / c
pub below_of_value : (k : ℕ) (y : Float) (s : Bool) (a c : ℕ) → 0 < c → HasValue y s a c → a < k * c → T (below k y)
unfolding below
below_of_value k nan s a c C v h = absurd v
below_of_value k (inf t) s a c C v h = absurd v
below_of_value k (fin t m e) s a c C v h =
    lt→ltb (m * up e) (k * down e)
    (lt_of_mul-lt-mul_right c
    (subst (λ (z : ℕ). z < k * down e * c) (sym v.1)
    (subst (λ (z : ℕ). a * down e < z) (mul_right_comm k c (down e)) (mul-lt-mul_of_pos_right h (down_pos e)))))

-- ---- a larger bound
pub wider : (j k : ℕ) (y : Float) → j ≤ k → T (below j y) → T (below k y)
unfolding below
wider j k nan l h = h
wider j k (inf s) l h = h
wider j k (fin s m e) l h = lt→ltb (m * up e) (k * down e) (lt_of_lt_of_le (ltb→lt (m * up e) (j * down e) h) (mul-le-mul_right (down e) l))

-- ---- the nearest whole number of what is below n is at most n
half_up_le : (n a d : ℕ) → 0 < d → a < n * d → half_up a d < n + 1
half_up_le n a d p h = (div-lt_iff_lt-mul (mul-pos (lit< tt) p)).1 (subst (λ (z : ℕ). 2 * a + d < z) (spread n d) (twice (n * d) a d p h))
  where
    twice : (b a d : ℕ) → 0 < d → a < b → 2 * a + d < 2 * b + 2 * d
    twice b a d p h = omega arith

    spread : (n d : ℕ) → 2 * (n * d) + 2 * d ≡ (n + 1) * (2 * d)
    spread n d = sym (add-mul n 1 (2 * d) ∙ ap (λ (z : ℕ). z + 1 * (2 * d)) (mul_left_comm n 2 d) ∙ ap (λ (z : ℕ). 2 * (n * d) + z) (one-mul (2 * d)))

pub nearest_small : (n : ℕ) (y : Float) → T (below n y) → mag (nearest y) < n + 1
unfolding below nearest
nearest_small n nan h = absurd h
nearest_small n (inf s) h = absurd h
nearest_small n (fin s m e) h = lt_of_le_of_lt (mag_sign s (half_up (m * up e) (down e))) (half_up_le n (m * up e) (down e) (down_pos e) (ltb→lt (m * up e) (n * down e) h))
