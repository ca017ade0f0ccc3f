-- The encoding of constraint records (document 01, "The file"), and a formula as records in postorder.
use Rattle.std.specs.Prelude.{ℕ, List, [], ◌∷◌, ◌++◌}
use Rattle.std.specs.Float.{binary64}
use Rattle.std.specs.Float.Ieee.{to_bits}
use Rattle.record.specs.Bytes.{u32_bytes, u64_bytes}
use Rattle.constraint.specs.Constraint.{Formula, Formulas, Atom, Not, And, Or, ForAll, Exists, end, ◌⨾◌, number}
use Rattle.constraint.specs.declared.Relation.{Relation}
use Rattle.constraint.specs.declared.Record.{Record}

-- an atom's kind
abbrev pub kind_of : Relation → ℕ
kind_of Relation.EqZero = 0
kind_of Relation.GtZero = 1
kind_of Relation.GeZero = 2
kind_of Relation.LtZero = 3
kind_of Relation.LeZero = 4
kind_of Relation.NeZero = 5

-- a record's bytes
unfoldable pub record_bytes : Record → List ℕ
record_bytes (Record.Atom rel i) = u32_bytes (kind_of rel) ++ u32_bytes i ++ u64_bytes 0 ++ u64_bytes 0
record_bytes Record.Not = u32_bytes 6 ++ u32_bytes 0 ++ u64_bytes 0 ++ u64_bytes 0
record_bytes (Record.And m) = u32_bytes 7 ++ u32_bytes m ++ u64_bytes 0 ++ u64_bytes 0
record_bytes (Record.Or m) = u32_bytes 8 ++ u32_bytes m ++ u64_bytes 0 ++ u64_bytes 0
record_bytes (Record.ForAll v lo hi) = u32_bytes 9 ++ u32_bytes v ++ u64_bytes (to_bits binary64 lo) ++ u64_bytes (to_bits binary64 hi)
record_bytes (Record.Exists v lo hi) = u32_bytes 10 ++ u32_bytes v ++ u64_bytes (to_bits binary64 lo) ++ u64_bytes (to_bits binary64 hi)

-- and of several
unfoldable pub records_bytes : List Record → List ℕ
records_bytes [] = []
records_bytes (r ∷ rs) = record_bytes r ++ records_bytes rs

-- the records of a formula over node numbers
unfoldable mutual
  pub records_of : Formula ℕ → List Record
  records_of (Atom rel i) = Record.Atom rel i ∷ []
  records_of (Not c) = records_of c ++ Record.Not ∷ []
  records_of (And cs) = records_of_all cs ++ Record.And (number cs) ∷ []
  records_of (Or cs) = records_of_all cs ++ Record.Or (number cs) ∷ []
  records_of (ForAll v lo hi c) = records_of c ++ Record.ForAll v lo hi ∷ []
  records_of (Exists v lo hi c) = records_of c ++ Record.Exists v lo hi ∷ []

  pub records_of_all : Formulas ℕ → List Record
  records_of_all end = []
  records_of_all (c ⨾ cs) = records_of c ++ records_of_all cs
