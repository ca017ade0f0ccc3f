-- A pattern is a finite f64's where its exponent's field is not all ones. Assumes nothing.
use Prim.Native.Nat.{ℕ, zero, suc, ◌+◌, ◌%◌, ◌/◌}
use mathlib.Core.Path.{◌≡◌, refl}
use mathlib.Core.Bool.{Bool, true, false, not, cond}
use lib.Dec.{eqb}
use lib.Ieee.{Float, nan, inf, binary64, low, hid, odd, of_fields, of_bits}
use lib.Ieee.Scale.{finite}

odd_finite : (d : ℕ) (s : Bool) (q k l : ℕ) → finite (odd d s q k l) ≡ true
unfolding odd
odd_finite d s zero k l = refl
odd_finite d s (suc q) k l = refl

fields_finite : (a b s : Bool) (v : Float) → finite v ≡ true → finite (cond a (cond b (inf s) nan) v) ≡ not a
fields_finite true true s v h = refl
fields_finite true false s v h = refl
fields_finite false b s v h = h

fields : (s : Bool) (x t : ℕ) → finite (of_fields binary64 s x t) ≡ not (eqb x 2047)
unfolding of_fields
fields s zero t = odd_finite 53 s t 0 (low binary64)
fields s (suc x) t =
    fields_finite (eqb (suc x) 2047) (eqb t 0) s (odd 53 s (hid binary64 + t) x (low binary64)) (odd_finite 53 s (hid binary64 + t) x (low binary64))

pub finite_is : (n : ℕ) → finite (of_bits binary64 n) ≡ not (eqb (n % 0x8000_0000_0000_0000 / 0x0010_0000_0000_0000) 2047)
unfolding of_bits
finite_is n = fields _ (n % 0x8000_0000_0000_0000 / 0x0010_0000_0000_0000) (n % 0x0010_0000_0000_0000)
