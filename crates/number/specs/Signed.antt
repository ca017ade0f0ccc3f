-- Fractions with a sign, as (p - n) / c in natural numbers, and the order of finite floats as the order of such fractions.
-- The other files of this folder turn a comparison of floats into one of these, and prove that with `omega`. Assumes nothing.
use Rattle.std.specs.Prelude.{◌≡◌, ℕ, ◌+◌, ◌*◌, ◌<◌, ◌≤◌, Bool, true, false, cond, ◌&&◌, ◌||◌, T, ltb, ◌⊎◌, ◌==◌, nat_eq, nat_lt, Float}
use Rattle.std.proofs.Common.{sym, inl, inr, ⊎_elim, mul_comm, mul_assoc, mul_left_comm, mul-add, mul-le-mul_left, eq-or-lt_of_le, le_of_lt, le_of_eq, eq-zero-or-pos, arith, ltb→lt, lt→ltb, eqb→eq}
use Rattle.std.proofs.Math.Nat.{le_of_mul-le-mul_left}
use Rattle.std.specs.Float.{nan, inf, fin}
use Rattle.std.specs.Float.Ieee.{up, down, lt, le}
use Rattle.std.specs.Float.Ieee.Fits.{and_l, and_r, and_i, eq→eqb}
use Rattle.std.specs.Float.Ieee.Scale.{finite}
use Rattle.std.specs.Float.Ieee.Positive.{den}

-- ---- the tests' `||`
pub or_l : (a b : Bool) → T a → T (a || b)
or_l true b t = tt
or_l false b t = absurd t

pub or_r : (a b : Bool) → T b → T (a || b)
or_r true b t = tt
or_r false b t = t

pub or_split : (a b : Bool) → T (a || b) → T a ⊎ T b
or_split true b t = inl tt
or_split false b t = inr t

-- ---- (p - n) / c ≤ (q - m) / d, and <
abbrev pub Leq : ℕ → ℕ → ℕ → ℕ → ℕ → ℕ → Type 0
Leq p n c q m d = p * d + m * c ≤ q * c + n * d

abbrev pub Less : ℕ → ℕ → ℕ → ℕ → ℕ → ℕ → Type 0
Less p n c q m d = p * d + m * c < q * c + n * d

-- `simp products` brings products to one form
pub ruleset products = (mul-add, mul_assoc, mul_comm, mul_left_comm)

pub leq_trans : (p n c q m d r k e : ℕ) → 0 < d → Leq p n c q m d → Leq q m d r k e → Leq p n c r k e
leq_trans p n c q m d r k e D g h =
    let g' : d * (p * e) + c * (e * m) ≤ c * (e * q) + d * (n * e) = simp products (simp products at (mul-le-mul_left e g)) in
    let h' : c * (e * q) + d * (k * c) ≤ d * (r * c) + c * (e * m) = simp products (simp products at (mul-le-mul_left c h)) in
    let s : d * (p * e) + d * (k * c) ≤ d * (r * c) + d * (n * e) = omega arith in
    le_of_mul-le-mul_left (simp mul-add s) D

-- ---- a finite float is (plus - minus) / den: one of the two is 0
abbrev pub plus : Float → ℕ
plus nan = 0
plus (inf s) = 0
plus (fin s m e) = cond s 0 (m * up e)

abbrev pub minus : Float → ℕ
minus nan = 0
minus (inf s) = 0
minus (fin s m e) = cond s (m * up e) 0

-- x ≤ y, and x < y, as fractions
infix 20 ◌⊑◌ ◌⊏◌
abbrev pub ◌⊑◌ : Float → Float → Type 0
x ⊑ y = Leq (plus x) (minus x) (den x) (plus y) (minus y) (den y)

abbrev pub ◌⊏◌ : Float → Float → Type 0
x ⊏ y = Less (plus x) (minus x) (den x) (plus y) (minus y) (den y)

-- ---- `le` and `lt` at two finite values say the same as the fractions
-- l is the test of `lt` and a ≡ b the one of `eq`, in the order in which the signs put them
of_either : (l : Bool) (a b : ℕ) (u : Bool) (c d : ℕ) → (T l → c ≤ d) → (a ≡ b → c ≤ d) → T (l || (a == b && u)) → c ≤ d
of_either l a b u c d f g h = ⊎_elim f (λ k. g (eqb→eq a b (and_l (a == b) u k))) (or_split l (a == b && u) h)

to_either : (c d a b : ℕ) → c ≤ d → (c ≡ d → a ≡ b) → T (nat_lt c d || (a == b && true))
to_either c d a b h f =
    let t = a == b && true in
    ⊎_elim (λ e. or_r (nat_lt c d) t (and_i (a == b) true (eq→eqb (f e)) tt)) (λ l. or_l (nat_lt c d) t (lt→ltb c d l)) (eq-or-lt_of_le h)

pub both_zero : (a b : ℕ) → T (a == b && a == 0) → (a ≡ 0) × (b ≡ 0)
both_zero a b h = omega (arith, eqb→eq a b (and_l (a == b) (a == 0) h), eqb→eq a 0 (and_r (a == b) (a == 0) h))

pub zeros : (a b : ℕ) → a ≡ 0 → b ≡ 0 → T (a == b && a == 0)
zeros a b p q = and_i (a == b) (a == 0) (eq→eqb {a = a} {b = b} (omega arith)) (eq→eqb p)

some_or_zeros : (a b : ℕ) → T (nat_lt 0 (a + b) || (a == b && a == 0))
some_or_zeros a b =
    let some = ltb 0 (a + b) in
    let none = a == b && nat_eq a 0 in
    ⊎_elim (λ z. or_r some none (zeros a b (omega arith) (omega arith))) (λ l. or_l some none (lt→ltb 0 (a + b) l)) (eq-zero-or-pos (a + b))

pub le→⊑ : (x y : Float) → T (finite x) → T (finite y) → T (le x y) → x ⊑ y
unfolding le
le→⊑ nan y p q h = absurd p
le→⊑ (inf s) y p q h = absurd p
le→⊑ (fin s m e) nan p q h = absurd q
le→⊑ (fin s m e) (inf t) p q h = absurd q
le→⊑ (fin false m e) (fin false n d) p q h =
    let a = m * up e * down d in
    let b = n * up d * down e in
    omega (arith, of_either (nat_lt a b) a b true a b (λ u. le_of_lt (ltb→lt a b u)) le_of_eq h)
le→⊑ (fin false m e) (fin true n d) p q h = omega (arith, both_zero (m * up e * down d) (n * up d * down e) h)
le→⊑ (fin true m e) (fin false n d) p q h = omega arith
le→⊑ (fin true m e) (fin true n d) p q h =
    let a = m * up e * down d in
    let b = n * up d * down e in
    omega (arith, of_either (nat_lt b a) a b true b a (λ u. le_of_lt (ltb→lt b a u)) (λ i. le_of_eq (sym i)) h)

pub ⊑→le : (x y : Float) → T (finite x) → T (finite y) → x ⊑ y → T (le x y)
unfolding le
⊑→le nan y p q h = absurd p
⊑→le (inf s) y p q h = absurd p
⊑→le (fin s m e) nan p q h = absurd q
⊑→le (fin s m e) (inf t) p q h = absurd q
⊑→le (fin false m e) (fin false n d) p q h =
    let a = m * up e * down d in
    let b = n * up d * down e in
    to_either a b a b (omega arith) (λ i. i)
⊑→le (fin false m e) (fin true n d) p q h = zeros (m * up e * down d) (n * up d * down e) (omega arith) (omega arith)
⊑→le (fin true m e) (fin false n d) p q h = some_or_zeros (m * up e * down d) (n * up d * down e)
⊑→le (fin true m e) (fin true n d) p q h =
    let a = m * up e * down d in
    let b = n * up d * down e in
    to_either b a a b (omega arith) sym

pub lt→⊏ : (x y : Float) → T (finite x) → T (finite y) → T (lt x y) → x ⊏ y
unfolding lt
lt→⊏ nan y p q h = absurd p
lt→⊏ (inf s) y p q h = absurd p
lt→⊏ (fin s m e) nan p q h = absurd q
lt→⊏ (fin s m e) (inf t) p q h = absurd q
lt→⊏ (fin false m e) (fin false n d) p q h = omega (arith, ltb→lt (m * up e * down d) (n * up d * down e) h)
lt→⊏ (fin false m e) (fin true n d) p q h = absurd h
lt→⊏ (fin true m e) (fin false n d) p q h = omega (arith, ltb→lt 0 (m * up e * down d + n * up d * down e) h)
lt→⊏ (fin true m e) (fin true n d) p q h = omega (arith, ltb→lt (n * up d * down e) (m * up e * down d) h)

pub ⊏→lt : (x y : Float) → T (finite x) → T (finite y) → x ⊏ y → T (lt x y)
unfolding lt
⊏→lt nan y p q h = absurd p
⊏→lt (inf s) y p q h = absurd p
⊏→lt (fin s m e) nan p q h = absurd q
⊏→lt (fin s m e) (inf t) p q h = absurd q
⊏→lt (fin false m e) (fin false n d) p q h = lt→ltb (m * up e * down d) (n * up d * down e) (omega arith)
⊏→lt (fin false m e) (fin true n d) p q h = absurd (omega arith)
⊏→lt (fin true m e) (fin false n d) p q h = lt→ltb 0 (m * up e * down d + n * up d * down e) (omega arith)
⊏→lt (fin true m e) (fin true n d) p q h = lt→ltb (n * up d * down e) (m * up e * down d) (omega arith)
