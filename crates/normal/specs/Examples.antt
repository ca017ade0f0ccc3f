-- Normal forms, computed.
use Rattle.std.specs.Prelude.{ℕ, ◌≡◌, refl, Ok, Err, List, [], ◌∷◌, ◌++◌, Float, replicate}
use Rattle.std.specs.Float.Ieee.{to_bits}
use Rattle.number.specs.Notation.{bits}
use Rattle.tree.specs.Tree.{Tree}
use Rattle.record.specs.Leaving.{◌leaving◌}
use Rattle.tree.specs.Encoding.{nodes_bytes}
use Rattle.tree.specs.declared.Node.{Node}
use Rattle.constraint.specs.declared.Relation.{Relation}
use Rattle.constraint.specs.declared.Relation.TheVariants.{EqZero, GtZero, LtZero, LeZero, NeZero}
use Rattle.constraint.specs.declared.Record.{Record}
use Rattle.constraint.specs.Constraint.{Constraint, Atom, Not, And, Or, ForAll, Exists, end, ◌⨾◌}
use Rattle.constraint.specs.Encoding.{record_bytes, records_bytes}
use Rattle.file.specs.Computing.{computing}
use Rattle.normal.specs.NormalForm.{to_nnf}
use Rattle.normal.specs.Given.{nnf_records, nnf_refusal, to_nnf_given}

abbrev atom : Relation → Constraint
atom rel = Atom rel (Tree.Var 3)

-- a range [0,1]
abbrev lo : Float
lo = bits 0

abbrev hi : Float
hi = bits 0x3FF0000000000000

-- Not of And is Or, of ForAll Exists, of an atom the opposite
pushed : to_nnf (Not (And (atom GtZero ⨾ ForAll 5 lo hi (atom EqZero) ⨾ end))) ≡ Or (atom LeZero ⨾ Exists 5 lo hi (atom NeZero) ⨾ end)
unfolding to_nnf
pushed = refl

-- two Nots are none
twice : to_nnf (Not (Not (atom LtZero))) ≡ atom LtZero
unfolding to_nnf
twice = refl

-- `to_nnf` of the records GtZero, Not: one record, and the output's 25th byte stays
abbrev given : List ℕ
given = records_bytes (Record.Atom GtZero 0 ∷ Record.Not ∷ [])

one_record : to_nnf_given (nodes_bytes (Node.Var 3 ∷ [])) given (replicate 25 7) ≡ (Ok 1 leaving record_bytes (Record.Atom LeZero 0) ++ 7 ∷ [])
unfolding computing to_nnf nnf_records nnf_refusal to_nnf_given to_bits
one_record = refl

-- 23 bytes are too few
too_short : to_nnf_given (nodes_bytes (Node.Var 3 ∷ [])) given (replicate 23 7) ≡ (Err 10 leaving replicate 23 7)
unfolding computing to_nnf nnf_records nnf_refusal to_nnf_given to_bits
too_short = refl
