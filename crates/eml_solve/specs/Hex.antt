-- Bits as document 01 prints them: 16 hexadecimal digits, letters in capitals.
use Rattle.std.specs.Prelude.{ℕ, zero, suc, ◌+◌, ◌/◌, ◌%◌, List, [], ◌∷◌, ◌++◌, ltb}
use Rattle.number.specs.Notation.{when◌then◌else◌}

-- the code of a digit below 16: `0` to `9`, then `A` to `F`
abbrev pub glyph : ℕ → ℕ
glyph d = when ltb d 10 then 48 + d else 55 + d

-- the last k digits of n, the most significant first
unfoldable pub digits : ℕ → ℕ → List ℕ
digits zero n = []
digits (suc k) n = digits k (n / 16) ++ glyph (n % 16) ∷ []

abbrev pub hex_of : ℕ → List ℕ
hex_of n = digits 16 n
