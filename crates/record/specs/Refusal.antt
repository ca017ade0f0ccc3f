-- Refusals are the documents' numbers; 0 stands for no refusal.
use Rattle.std.specs.Prelude.{ℕ, zero, suc, Bool, true, false}

infixr 20 ◌or_else◌
infix 30 ◌unless◌
-- a refusal, or else a later one
abbrev pub ◌or_else◌ : ℕ → ℕ → ℕ
zero or_else r = r
suc n or_else r = suc n

-- a test's refusal
abbrev pub ◌unless◌ : ℕ → Bool → ℕ
r unless true = 0
r unless false = r

-- what a call yields that is refused with r, or else its answer
abbrev pub refused_or : {A : Type 0} → ℕ → (ℕ → A) → A → A
refused_or zero refused answer = answer
refused_or (suc r) refused answer = refused (suc r)

-- the first refusal of the records 0 .. n - 1, each with its own
unfoldable pub first : (ℕ → ℕ) → ℕ → ℕ
first refusal zero = 0
first refusal (suc n) = first refusal n or_else refusal n
