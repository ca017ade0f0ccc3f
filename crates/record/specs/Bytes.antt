-- Little-endian numbers in a list of bytes.
use Rattle.std.specs.Prelude.{ℕ, ◌+◌, ◌*◌, ◌/◌, ◌%◌, ◌^◌, List, [], ◌∷◌, ◌++◌, get_or, Float}
use Rattle.std.specs.Float.{binary64}
use Rattle.std.specs.Float.Ieee.{of_bits}

abbrev pub byte_at : List ℕ → ℕ → ℕ
byte_at b at = get_or b at 0

-- the u32, the u64 and the f64 at a place
unfoldable pub u32_at : List ℕ → ℕ → ℕ
u32_at b at = byte_at b at + 256 * (byte_at b (at + 1) + 256 * (byte_at b (at + 2) + 256 * byte_at b (at + 3)))

unfoldable pub u64_at : List ℕ → ℕ → ℕ
u64_at b at = u32_at b at + 2 ^ 32 * u32_at b (at + 4)

unfoldable pub f64_at : List ℕ → ℕ → Float
f64_at b at = of_bits binary64 (u64_at b at)

-- the bytes of a u32 and of a u64
unfoldable pub u32_bytes : ℕ → List ℕ
u32_bytes n = n % 256 ∷ n / 256 % 256 ∷ n / 65536 % 256 ∷ n / 16777216 % 256 ∷ []

unfoldable pub u64_bytes : ℕ → List ℕ
u64_bytes n = u32_bytes (n % 2 ^ 32) ++ u32_bytes (n / 2 ^ 32)
