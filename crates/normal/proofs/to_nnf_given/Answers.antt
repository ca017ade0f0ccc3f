-- `normal::to_nnf_given` meets its contract. Assumes nothing.
use native.Mathlib.Omega.{arith}
use borrow.Author.Rules.{rules}
use Rattle.normal.proofs.Calls.{room}
use Rattle.normal.proofs.to_nnf_given.Goals as goal

pub overflow_sub-records : goal.overflow_sub-records
overflow_sub-records c = omega (arith, c.in_ok-records.records.some)

pub to_nnf-requires : goal.to_nnf-requires
to_nnf-requires c = (omega (arith, c.in_ok-records.records.some), search (rules, room))
