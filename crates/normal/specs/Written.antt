-- What the code writes: the records of the normal form and of the negation of what a record finishes, and of the last m that are finished before record n.
use Rattle.std.specs.Prelude.{ℕ, List}
use Rattle.constraint.specs.declared.Record.{Record}
use Rattle.constraint.specs.declared.records.Records.{Records}
use Rattle.constraint.specs.Records.{gather, formula_at}
use Rattle.constraint.specs.Starts.{formulas_to}
use Rattle.constraint.specs.Encoding.{records_of, records_of_all}
use Rattle.normal.specs.NormalForm.{opposite_of, to_nnf, negate, to_nnf_all, negate_all}

-- a record that is no Not, in the negation
abbrev pub dual_of : Record → Record
dual_of (Record.Atom rel i) = Record.Atom (opposite_of rel) i
dual_of Record.Not = Record.Not
dual_of (Record.And m) = Record.Or m
dual_of (Record.Or m) = Record.And m
dual_of (Record.ForAll v lo hi) = Record.Exists v lo hi
dual_of (Record.Exists v lo hi) = Record.ForAll v lo hi

unfoldable pub nnf_at : Records → ℕ → List Record
nnf_at r k = records_of (to_nnf (formula_at r.constraints.now k))

unfoldable pub negation_at : Records → ℕ → List Record
negation_at r k = records_of (negate (formula_at r.constraints.now k))

unfoldable pub nnf_all : Records → ℕ → ℕ → List Record
nnf_all r m n = records_of_all (to_nnf_all (gather (formulas_to r.constraints.now m n)))

unfoldable pub negation_all : Records → ℕ → ℕ → List Record
negation_all r m n = records_of_all (negate_all (gather (formulas_to r.constraints.now m n)))
