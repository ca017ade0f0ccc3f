-- The order of floats, as IEEE 754's comparisons have it: signs, zeros, subnormals and infinities included, for values of any format.
-- A NaN is neither below nor equal to anything, so `T (le x y)` and `T (lt x y)` say too that neither is a NaN (`le_left`, `le_right`).
-- Where a law needs to be told that x is no NaN, it takes `T (number x)`. Assumes nothing.
use Rattle.std.specs.Prelude.{◌≡◌, ℕ, ◌*◌, Bool, true, false, not, ◌&&◌, T, ◌⊎◌, pos, ◌==◌, refl, Float}
use Rattle.std.proofs.Common.{sym, ap, ◌∙◌, subst, subst₂, inl, inr, ⊎_elim, lt_of_not-le, le_of_suc-le-suc, arith, T_not, eqb→eq}
use Rattle.std.proofs.Math.Bool.{and-true}
use Rattle.std.proofs.Math.Dec.{not_T, eqb_refl}
use Rattle.std.specs.Float.{nan, inf, fin}
use Rattle.std.specs.Float.Ieee.{up, down, level, lt, le, eq, ne, neg, is_nan}
use Rattle.std.specs.Float.Ieee.Fits.{and_l, and_i, eq→eqb}
use Rattle.std.specs.Float.Ieee.Bits.{is_true}
use Rattle.std.specs.Float.Ieee.Scale.{finite}
use Rattle.std.specs.Float.Ieee.Positive.{den, den_pos}
use Rattle.number.specs.Signed.{or_l, or_r, or_split, both_zero, zeros, plus, minus, leq_trans, ◌⊑◌, ◌⊏◌, le→⊑, ⊑→le, lt→⊏, ⊏→lt}

-- no NaN
abbrev pub number : Float → Bool
number x = not (is_nan x)

-- ---- tests
-- a test that is known as an equation, as a branch of the code has it; and of a parameter x the borrow checker tells `fits binary64 x ≡ true`
pub passed : {b : Bool} → b ≡ true → T b
passed e = subst T (sym e) tt

pub failed : {b : Bool} → b ≡ false → T (not b)
failed e = subst (λ (b : Bool). T (not b)) (sym e) tt

-- two that pass together are equal
pub same_test : (a b : Bool) → (T a → T b) → (T b → T a) → a ≡ b
same_test true true f g = refl
same_test true false f g = absurd (f tt)
same_test false true f g = absurd (g tt)
same_test false false f g = refl

level_sym : (s : Bool) (a : ℕ) (t : Bool) (b : ℕ) → T (level s a t b) → T (level t b s a)
level_sym true a true b h = and_i (b == a) true (eq→eqb (sym (eqb→eq a b (and_l (a == b) true h)))) tt
level_sym false a false b h = and_i (b == a) true (eq→eqb (sym (eqb→eq a b (and_l (a == b) true h)))) tt
level_sym true a false b h = let z = both_zero a b h in zeros b a z.1 z.0
level_sym false a true b h = let z = both_zero a b h in zeros b a z.1 z.0

level_self : (a : ℕ) → (a == a) && true ≡ true
level_self a = and-true (a == a) ∙ is_true (a == a) (eqb_refl a)

-- ---- every comparison with a NaN is false, but `ne`
pub lt_nan_left : (y : Float) → lt nan y ≡ false
unfolding lt
lt_nan_left y = refl

pub lt_nan_right : (x : Float) → lt x nan ≡ false
unfolding lt
lt_nan_right nan = refl
lt_nan_right (inf s) = refl
lt_nan_right (fin s m e) = refl

pub eq_nan_left : (y : Float) → eq nan y ≡ false
unfolding eq
eq_nan_left y = refl

pub eq_nan_right : (x : Float) → eq x nan ≡ false
unfolding eq
eq_nan_right nan = refl
eq_nan_right (inf s) = refl
eq_nan_right (fin s m e) = refl

pub le_nan_left : (y : Float) → le nan y ≡ false
unfolding le
le_nan_left y = refl

pub le_nan_right : (x : Float) → le x nan ≡ false
unfolding le
le_nan_right nan = refl
le_nan_right (inf s) = refl
le_nan_right (fin s m e) = refl

-- the code's test for a NaN, `x != x`
pub nan_test : (x : Float) → is_nan x ≡ ne x x
unfolding ne is_nan
nan_test nan = refl
nan_test (inf true) = refl
nan_test (inf false) = refl
nan_test (fin true m e) = sym (ap not (level_self (m * up e * down e)))
nan_test (fin false m e) = sym (ap not (level_self (m * up e * down e)))

-- and what it finds
pub only_nan : (x : Float) → is_nan x ≡ true → x ≡ nan
unfolding is_nan
only_nan nan h = refl
only_nan (inf s) h = cc
only_nan (fin s m e) h = cc

pub number_of : (x : Float) → ne x x ≡ false → T (number x)
number_of x e = failed (nan_test x ∙ e)

-- ---- so what compares is no NaN
pub le_left : (x y : Float) → T (le x y) → T (number x)
unfolding le is_nan
le_left nan y h = h
le_left (inf s) y h = tt
le_left (fin s m e) y h = tt

pub le_right : (x y : Float) → T (le x y) → T (number y)
unfolding is_nan
le_right x nan h = subst T (le_nan_right x) h
le_right x (inf t) h = tt
le_right x (fin t n d) h = tt

-- ---- the laws from which the others follow: `le` is reflexive and transitive, and `lt` is its opposite
pub le_refl : (x : Float) → T (number x) → T (le x x)
le_refl nan p = unfold is_nan in absurd p
le_refl (inf false) p = unfold le in tt
le_refl (inf true) p = unfold le in tt
le_refl (fin s m e) p = ⊑→le (fin s m e) (fin s m e) tt tt (omega arith)

pub le_lowest : (x : Float) → T (number x) → T (le (inf true) x)
unfolding le is_nan
le_lowest nan p = p
le_lowest (inf true) p = tt
le_lowest (inf false) p = tt
le_lowest (fin s m e) p = tt

pub le_highest : (x : Float) → T (number x) → T (le x (inf false))
unfolding le is_nan
le_highest nan p = p
le_highest (inf true) p = tt
le_highest (inf false) p = tt
le_highest (fin s m e) p = tt

fraction_trans : (x y z : Float) → x ⊑ y → y ⊑ z → x ⊑ z
fraction_trans x y z h k = leq_trans (plus x) (minus x) (den x) (plus y) (minus y) (den y) (plus z) (minus z) (den z) (den_pos y) h k

pub le_trans : (x y z : Float) → T (le x y) → T (le y z) → T (le x z)
unfolding le
le_trans nan y z h k = h
le_trans (inf true) y z h k = le_lowest z (le_right y z k)
le_trans (inf false) nan z h k = absurd h
le_trans (inf false) (inf true) z h k = absurd h
le_trans (inf false) (inf false) z h k = k
le_trans (inf false) (fin t n d) z h k = absurd h
le_trans (fin s m e) nan z h k = absurd h
le_trans (fin s m e) (inf true) z h k = absurd h
le_trans (fin s m e) (inf false) nan h k = k
le_trans (fin s m e) (inf false) (inf true) h k = k
le_trans (fin s m e) (inf false) (inf false) h k = h
le_trans (fin s m e) (inf false) (fin u l g) h k = absurd k
le_trans (fin s m e) (fin t n d) nan h k = k
le_trans (fin s m e) (fin t n d) (inf true) h k = k
le_trans (fin s m e) (fin t n d) (inf false) h k = tt
le_trans (fin s m e) (fin t n d) (fin u l g) h k =
    let x = fin s m e in
    let y = fin t n d in
    let z = fin u l g in
    ⊑→le x z tt tt (fraction_trans x y z (le→⊑ x y tt tt h) (le→⊑ y z tt tt k))

finite_not_lt : (x y : Float) → T (finite x) → T (finite y) → not (lt x y) ≡ le y x
finite_not_lt x y p q =
    same_test (not (lt x y)) (le y x) (λ n. ⊑→le y x q p (from (lt x y) (⊏→lt x y p q) n)) (λ h. not_T (lt x y) (λ l. clash (le→⊑ y x q p h) (lt→⊏ x y p q l)))
  where
    from : (b : Bool) → (x ⊏ y → T b) → T (not b) → y ⊑ x
    from b f n = le_of_suc-le-suc (lt_of_not-le (λ h. T_not b n (f h)))

    clash : y ⊑ x → x ⊏ y → ⊥
    clash h l = omega arith

pub not_lt : (x y : Float) → T (number x) → T (number y) → not (lt x y) ≡ le y x
unfolding le is_nan
not_lt nan y p q = absurd p
not_lt (inf s) nan p q = absurd q
not_lt (inf true) (inf true) p q = refl
not_lt (inf true) (inf false) p q = refl
not_lt (inf false) (inf true) p q = refl
not_lt (inf false) (inf false) p q = refl
not_lt (inf true) (fin t n d) p q = refl
not_lt (inf false) (fin t n d) p q = refl
not_lt (fin s m e) nan p q = absurd q
not_lt (fin s m e) (inf true) p q = refl
not_lt (fin s m e) (inf false) p q = refl
not_lt (fin s m e) (fin t n d) p q = finite_not_lt (fin s m e) (fin t n d) tt tt

-- ---- what follows
pub lt→le : (x y : Float) → T (lt x y) → T (le x y)
unfolding le
lt→le x y h = or_l (lt x y) (eq x y) h

pub eq→le : (x y : Float) → T (eq x y) → T (le x y)
unfolding le
eq→le x y h = or_r (lt x y) (eq x y) h

pub le_split : (x y : Float) → T (le x y) → T (lt x y) ⊎ T (eq x y)
unfolding le
le_split x y h = or_split (lt x y) (eq x y) h

pub lt_left : (x y : Float) → T (lt x y) → T (number x)
lt_left x y h = le_left x y (lt→le x y h)

pub lt_right : (x y : Float) → T (lt x y) → T (number y)
lt_right x y h = le_right x y (lt→le x y h)

pub le→not_lt : (x y : Float) → T (le x y) → T (lt y x) → ⊥
le→not_lt x y h k = T_not (lt y x) (subst T (sym (not_lt y x (le_right x y h) (le_left x y h))) h) k

pub not_lt→le : (x y : Float) → T (number x) → T (number y) → T (not (lt x y)) → T (le y x)
not_lt→le x y p q h = subst T (not_lt x y p q) h

pub not_le : (x y : Float) → T (number x) → T (number y) → not (le x y) ≡ lt y x
not_le x y p q = ap not (sym (not_lt y x q p)) ∙ not_not (lt y x)
  where
    not_not : (b : Bool) → not (not b) ≡ b
    not_not true = refl
    not_not false = refl

pub not_le→lt : (x y : Float) → T (number x) → T (number y) → T (not (le x y)) → T (lt y x)
not_le→lt x y p q h = subst T (not_le x y p q) h

pub le_or_lt : (x y : Float) → T (number x) → T (number y) → T (le x y) ⊎ T (lt y x)
le_or_lt x y p q = go (lt y x) (not_lt→le y x q p)
  where
    go : (b : Bool) → (T (not b) → T (le x y)) → T (le x y) ⊎ T b
    go true f = inr tt
    go false f = inl (f tt)

pub eq_sym : (x y : Float) → T (eq x y) → T (eq y x)
unfolding eq
eq_sym nan y h = absurd h
eq_sym (inf s) nan h = h
eq_sym (inf true) (inf true) h = h
eq_sym (inf true) (inf false) h = h
eq_sym (inf false) (inf true) h = h
eq_sym (inf false) (inf false) h = h
eq_sym (inf s) (fin t n d) h = h
eq_sym (fin s m e) nan h = h
eq_sym (fin s m e) (inf t) h = h
eq_sym (fin s m e) (fin t n d) h = level_sym s (m * up e * down d) t (n * up d * down e) h

-- what is neither below nor equal is above
pub above : (x y : Float) → T (number x) → T (number y) → T (not (lt x y)) → T (not (eq x y)) → T (lt y x)
above x y p q h k = ⊎_elim (λ l. l) (λ e. absurd (T_not (eq x y) k (eq_sym y x e))) (le_split y x (not_lt→le x y p q h))

pub lt_irrefl : (x : Float) → T (lt x x) → ⊥
lt_irrefl x h = le→not_lt x x (lt→le x x h) h

pub le_antisym : (x y : Float) → T (le x y) → T (le y x) → T (eq x y)
le_antisym x y h k = ⊎_elim (λ l. absurd (le→not_lt y x k l)) (λ e. e) (le_split x y h)

pub lt_le_trans : (x y z : Float) → T (lt x y) → T (le y z) → T (lt x z)
lt_le_trans x y z h k = ⊎_elim (λ l. absurd (le→not_lt y x (le_trans y z x k l) h)) (λ l. l) (le_or_lt z x (le_right y z k) (lt_left x y h))

pub le_lt_trans : (x y z : Float) → T (le x y) → T (lt y z) → T (lt x z)
le_lt_trans x y z h k = ⊎_elim (λ l. absurd (le→not_lt z y (le_trans z x y l h) k)) (λ l. l) (le_or_lt z x (lt_right y z k) (le_left x y h))

pub lt_trans : (x y z : Float) → T (lt x y) → T (lt y z) → T (lt x z)
lt_trans x y z h k = lt_le_trans x y z h (lt→le y z k)

-- ---- `eq`
pub eq_refl : (x : Float) → T (number x) → T (eq x x)
eq_refl x p = le_antisym x x (le_refl x p) (le_refl x p)

pub eq_trans : (x y z : Float) → T (eq x y) → T (eq y z) → T (eq x z)
eq_trans x y z h k = le_antisym x z (le_trans x y z (eq→le x y h) (eq→le y z k)) (le_trans z y x (eq→le z y (eq_sym y z k)) (eq→le y x (eq_sym x y h)))

-- ---- `neg` turns the order round
pub neg_neg : (x : Float) → neg (neg x) ≡ x
unfolding neg
neg_neg nan = refl
neg_neg (inf true) = refl
neg_neg (inf false) = refl
neg_neg (fin true m e) = refl
neg_neg (fin false m e) = refl

pub neg_le : (x y : Float) → T (le x y) → T (le (neg y) (neg x))
unfolding neg le
neg_le nan y h = absurd h
neg_le (inf s) nan h = h
neg_le (inf true) (inf true) h = h
neg_le (inf true) (inf false) h = h
neg_le (inf false) (inf true) h = h
neg_le (inf false) (inf false) h = h
neg_le (inf true) (fin t n d) h = h
neg_le (inf false) (fin t n d) h = h
neg_le (fin s m e) nan h = h
neg_le (fin s m e) (inf true) h = h
neg_le (fin s m e) (inf false) h = h
neg_le (fin s m e) (fin t n d) h = ⊑→le (fin (not t) n d) (fin (not s) m e) tt tt (turn s t (le→⊑ (fin s m e) (fin t n d) tt tt h))
  where
    turn : (s t : Bool) → fin s m e ⊑ fin t n d → fin (not t) n d ⊑ fin (not s) m e
    turn true true k = omega arith
    turn true false k = omega arith
    turn false true k = omega arith
    turn false false k = omega arith

pub neg_le_back : (x y : Float) → T (le (neg x) (neg y)) → T (le y x)
neg_le_back x y h = subst₂ (λ (a b : Float). T (le a b)) (neg_neg y) (neg_neg x) (neg_le (neg x) (neg y) h)

pub number_neg : (x : Float) → T (number x) → T (number (neg x))
unfolding neg is_nan
number_neg nan p = p
number_neg (inf s) p = tt
number_neg (fin s m e) p = tt

pub neg_lt : (x y : Float) → T (lt x y) → T (lt (neg y) (neg x))
neg_lt x y h = ⊎_elim (λ l. absurd (le→not_lt y x (neg_le_back x y l) h)) (λ l. l) (le_or_lt (neg x) (neg y) (number_neg x (lt_left x y h)) (number_neg y (lt_right x y h)))

-- ---- zero: +0, and either of the two is at most the other
abbrev pub naught : Float
naught = fin false 0 (pos 0)

pub zeros_le : (s t : Bool) → T (le (fin s 0 (pos 0)) (fin t 0 (pos 0)))
unfolding le
zeros_le true true = tt
zeros_le true false = tt
zeros_le false true = tt
zeros_le false false = tt
