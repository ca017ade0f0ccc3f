-- Constraint records, computed, over one node: Var 3.
use Rattle.std.specs.Prelude.{ℕ, ◌≡◌, refl, List, [], ◌∷◌, length, set, replicate}
use Rattle.number.specs.Notation.{bits}
use Rattle.tree.specs.Tree.{Tree}
use Rattle.tree.specs.Encoding.{nodes_bytes}
use Rattle.tree.specs.declared.Node.{Node}
use Rattle.constraint.specs.Constraint.{Constraint, Atom, Not, Or, ForAll, end, ◌⨾◌, num_vars}
use Rattle.constraint.specs.Records.{formula_at, constraint_at, records_refusal}
use Rattle.constraint.specs.Starts.{start_at}
use Rattle.constraint.specs.Encoding.{records_bytes, records_of}
use Rattle.constraint.specs.Computing.{computing}
use Rattle.constraint.specs.declared.Relation.{Relation}
use Rattle.constraint.specs.declared.Record.{Record}

abbrev nodes : List ℕ
nodes = nodes_bytes (Node.Var 3 ∷ [])

abbrev refusal : List Record → ℕ
refusal rs = records_refusal 1 (records_bytes rs) (length rs)

abbrev atom : Record
atom = Record.Atom Relation.LtZero 0

-- 0 and 1, as f64
abbrev lo : ℕ
lo = 0

abbrev hi : ℕ
hi = 0x3FF0000000000000

abbrev forall : Record
forall = Record.ForAll 5 (bits lo) (bits hi)

-- Or of an atom and of Not of ForAll of an atom: the records, the starts, the constraint, its variables
abbrev some : List Record
some = atom ∷ atom ∷ forall ∷ Record.Not ∷ Record.Or 2 ∷ []

abbrev constraint : Constraint
constraint = Or (Atom Relation.LtZero (Tree.Var 3) ⨾ Not (ForAll 5 (bits lo) (bits hi) (Atom Relation.LtZero (Tree.Var 3))) ⨾ end)

some_accepted : refusal some ≡ 0
unfolding computing
some_accepted = refl

some_starts : start_at (records_bytes some) 3 ≡ 1
unfolding computing
some_starts = refl

some_constraint : constraint_at nodes (records_bytes some) 4 ≡ constraint
unfolding computing
some_constraint = refl

some_vars : num_vars constraint ≡ 6
unfolding computing
some_vars = refl

-- its formula's records are the same again
some_again : records_of (formula_at (records_bytes some) 4) ≡ some
unfolding computing
some_again = refl

-- an empty And stands alone
empty : refusal (Record.And 0 ∷ []) ≡ 0
unfolding computing
empty = refl

-- 5: a node that is not there, an unused byte, variable 16, too few finished constraints
no_node : refusal (Record.Atom Relation.EqZero 1 ∷ []) ≡ 5
unfolding computing
no_node = refl

unused_byte : records_refusal 1 (set (records_bytes (atom ∷ [])) 23 1) 1 ≡ 5
unfolding computing
unused_byte = refl

variable_16 : refusal (atom ∷ Record.Exists 16 (bits lo) (bits hi) ∷ []) ≡ 5
unfolding computing
variable_16 = refl

too_few : refusal (atom ∷ Record.And 2 ∷ []) ≡ 5
unfolding computing
too_few = refl

-- 6: a reversed range
reversed : refusal (atom ∷ Record.ForAll 5 (bits hi) (bits lo) ∷ []) ≡ 6
unfolding computing
reversed = refl

-- 7: depth 17, five quantifiers on a path, two left, none left
deep : refusal (atom ∷ replicate 16 Record.Not) ≡ 7
unfolding computing
deep = refl

depth_16 : refusal (atom ∷ replicate 15 Record.Not) ≡ 0
unfolding computing
depth_16 = refl

five_quantifiers : refusal (atom ∷ replicate 5 forall) ≡ 7
unfolding computing
five_quantifiers = refl

two_left : refusal (atom ∷ atom ∷ []) ≡ 7
unfolding computing
two_left = refl

none_left : refusal [] ≡ 7
unfolding computing
none_left = refl
