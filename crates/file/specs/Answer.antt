-- A number of what a file says, or the number of its refusal.
use Rattle.std.specs.Prelude.{ℕ, Result, Ok, Err}
use Rattle.constraint.specs.Constraint.{Constraint}
use Rattle.file.specs.File.{Read, Refused, Accepted}

abbrev pub answered : (Constraint → ℕ) → Read → Result ℕ ℕ
answered f (Refused r) = Err r
answered f (Accepted c bs) = Ok (f c)
