-- The digits are what the library writes of a u64 by `{:016X}`. Assumes nothing.
use Rattle.std.specs.Prelude.{ℕ, zero, suc, ◌+◌, ◌-◌, ◌/◌, ◌%◌, ◌^◌, ◌<◌, ◌≤◌, ◌≡◌, refl, Bool, true, false, List, [], ◌∷◌, ◌++◌, length, replicate, ltb, cond, nat_eq}
use Rattle.std.specs.Fmt.{digit_glyph, digits_onto, padded_integral, format_spec, char_count}
use Rattle.std.specs.Fmt as Fmt
use Rattle.std.proofs.Common.{◌∙◌, arith, add-one, append-nil}
use Rattle.std.proofs.lemmas.Bool.{eqb-true, eq-eqb, cond_both}
use Rattle.std.proofs.lemmas.List.{replicate-append-replicate}
use Rattle.std.proofs.Math.Nat.{pow-suc}
use Rattle.std.proofs.Math.Seq.{append_snoc}
use Rattle.number.specs.Notation.{when◌then◌else◌}
use Rattle.eml_solve.specs.Hex.{glyph, digits, hex_of}

glyph_of : (d : ℕ) → digit_glyph true d ≡ glyph d
unfolding when◌then◌else◌
glyph_of d = by (ltb d 10)
  where
    by : (b : Bool) → cond b (48 + d) (55 + d) ≡ (when b then 48 + d else 55 + d)
    by true = refl
    by false = refl

digits_zero : (k : ℕ) → digits k 0 ≡ replicate k 48
unfolding digits when◌then◌else◌
digits_zero zero = refl
digits_zero (suc k) = rw (digits_zero k, replicate-append-replicate {A = ℕ} k 1 48, add-one) refl

last_digit : (k n : ℕ) (acc : List ℕ) → digits (suc k) n ++ acc ≡ digits k (n / 16) ++ digit_glyph true (n % 16) ∷ acc
unfolding digits
last_digit k n acc = rw (glyph_of (n % 16)) (append_snoc (digits k (n / 16)) (glyph (n % 16)) acc)

-- with zeros in front, up to w places
abbrev filled : ℕ → List ℕ → List ℕ
filled w text = replicate (w - length text) 48 ++ text

filled_one : (k w n : ℕ) (acc : List ℕ) → w ≡ suc k + length acc → n / 16 ≡ 0 → filled w (digit_glyph true (n % 16) ∷ acc) ≡ digits (suc k) n ++ acc
filled_one k w n acc places none =
    let fill : w - suc (length acc) ≡ k = omega arith in
    rw (fill, last_digit k n acc, none, digits_zero k) refl

-- The library's digits of n in front of acc, with no zeros before them: filled, they are k + 1 digits of the definition.
filled_digits : (j k w n : ℕ) (acc : List ℕ) → k ≤ j → w ≡ suc k + length acc → n < 16 ^ suc k
    → filled w (digits_onto (suc j) 16 true n acc) ≡ digits (suc k) n ++ acc
filled_digits j zero w n acc fits places small =
    let none : n / 16 ≡ 0 = omega arith in
    rw (eq-eqb (n / 16) 0 none) (filled_one 0 w n acc places none)
filled_digits zero (suc k) w n acc fits places small = absurd (omega arith)
filled_digits (suc j) (suc k) w n acc fits places small =
    let front : n / 16 < 16 ^ suc k = omega (arith, pow-suc 16 (suc k)) in
    cond_both (nat_eq (n / 16) 0) _ _ (λ text. filled w text ≡ digits (suc (suc k)) n ++ acc)
    (λ e. filled_one (suc k) w n acc places (eqb-true (n / 16) 0 e))
    (λ e. rw (last_digit (suc k) n acc) (filled_digits j k w (n / 16) (digit_glyph true (n % 16) ∷ acc) (omega arith) (omega arith) front))

padded_zeros : (numeral : List ℕ) → padded_integral (format_spec 32 0 4 16 (2 ^ 64 - 1)) false [] numeral ≡ filled 16 numeral
unfolding padded_integral char_count
padded_zeros numeral =
    let short : 16 - length numeral - 0 - 0 ≡ 16 - length numeral = omega arith in
    rw (short, append-nil numeral) refl

pub padded_hex : (n : ℕ) → n < 2 ^ 64 → padded_integral (format_spec 32 0 4 16 (2 ^ 64 - 1)) false [] (Fmt.digits 16 true n) ≡ hex_of n
unfolding Fmt.digits
padded_hex n small = padded_zeros (Fmt.digits 16 true n) ∙ filled_digits 63 15 16 n [] (omega arith) refl (omega arith) ∙ append-nil (hex_of n)
