-- The documents' numbers of the refusals, and what a call answers with them.
use Rattle.std.specs.Prelude.{ℕ, List, ◌++◌, Result, Ok, Err}
use Rattle.std.specs.Fmt.{decimal}
use Rattle.std.specs.Prelude.{codes}
use Rattle.record.specs.declared.refusal.Refusal.{Refusal}

abbrev pub number_of : Refusal → ℕ
number_of Refusal.Header = 1
number_of Refusal.Counts = 2
number_of Refusal.Node = 3
number_of Refusal.Size = 4
number_of Refusal.Constraint = 5
number_of Refusal.Range = 6
number_of Refusal.Shape = 7
number_of Refusal.Limit = 8
number_of Refusal.Boxes = 9
number_of Refusal.Room = 10
number_of Refusal.Parameter = 14

-- as the printing program writes it
abbrev pub text_of : Refusal → List ℕ
text_of r = codes "refused " ++ decimal (number_of r)

-- an answer, or the number of its refusal
abbrev pub numbered : {A : Type 0} → Result A Refusal → Result A ℕ
numbered (Ok x) = Ok x
numbered (Err r) = Err (number_of r)

-- the number of a refusal, or 0
abbrev pub refusal_of : {A : Type 0} → Result A Refusal → ℕ
refusal_of (Ok x) = 0
refusal_of (Err r) = number_of r
