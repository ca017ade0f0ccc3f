-- `normal::negate`, `normal::negate_all`, `normal::to_nnf` and `normal::to_nnf_all` meet their contracts: the record's number falls at each call. Assumes nothing.
use native.Mathlib.Omega.{arith}
use borrow.Author.Rules.{rules}
use Rattle.constraint.specs.RecordLaws.{some, last, start_falls}
use Rattle.normal.proofs.Forms.{forms, lengths}
use Rattle.normal.proofs.+negate_negate_all_to_nnf_to_nnf_all.Goals as goal

pub negate-negate_all-next-requires : goal.negate-negate_all-next-requires
negate-negate_all-next-requires t c = (omega arith, (search (rules, forms), grind (arith, lengths)))

pub negate-write_record-requires : goal.negate-write_record-requires
negate-write_record-requires t c = (search (rules, forms), grind (arith, lengths))

pub negate-returns : goal.negate-returns
negate-returns t c = search (rules, forms)

pub negate_all-overflow_sub-last : goal.negate_all-overflow_sub-last
negate_all-overflow_sub-last t c = search (rules, forms)

pub negate_all-invariant_of-last : goal.negate_all-invariant_of-last
negate_all-invariant_of-last t c = record { inside = last c.args.records.now _ _ c.requires.0 c.if-m-eq0.false }

pub negate_all-negate_all-next-requires : goal.negate_all-negate_all-next-requires
negate_all-negate_all-next-requires t c = (omega (arith, start_falls c.args.records.now _ _ c.requires.0 c.if-m-eq0.false _ c.start.ensures), (search (rules, forms), grind (arith, lengths)))

pub negate_all-negate-requires : goal.negate_all-negate-requires
negate_all-negate-requires t c = (omega (arith, some c.args.records.now _ _ c.requires.0 c.if-m-eq0.false), (search (rules, forms), grind (arith, lengths)))

pub negate_all-returns : goal.negate_all-returns
negate_all-returns t c = search (rules, forms)

pub to_nnf-to_nnf_all-next-requires : goal.to_nnf-to_nnf_all-next-requires
to_nnf-to_nnf_all-next-requires t c = (omega arith, (search (rules, forms), grind (arith, lengths)))

pub to_nnf-write_record-requires : goal.to_nnf-write_record-requires
to_nnf-write_record-requires t c = (search (rules, forms), grind (arith, lengths))

pub to_nnf-returns : goal.to_nnf-returns
to_nnf-returns t c = search (rules, forms)

pub to_nnf_all-overflow_sub-last : goal.to_nnf_all-overflow_sub-last
to_nnf_all-overflow_sub-last t c = search (rules, forms)

pub to_nnf_all-invariant_of-last : goal.to_nnf_all-invariant_of-last
to_nnf_all-invariant_of-last t c = record { inside = last c.args.records.now _ _ c.requires.0 c.if-m-eq0.false }

pub to_nnf_all-to_nnf_all-next-requires : goal.to_nnf_all-to_nnf_all-next-requires
to_nnf_all-to_nnf_all-next-requires t c = (omega (arith, start_falls c.args.records.now _ _ c.requires.0 c.if-m-eq0.false _ c.start.ensures), (search (rules, forms), grind (arith, lengths)))

pub to_nnf_all-to_nnf-requires : goal.to_nnf_all-to_nnf-requires
to_nnf_all-to_nnf-requires t c = (omega (arith, some c.args.records.now _ _ c.requires.0 c.if-m-eq0.false), (search (rules, forms), grind (arith, lengths)))

pub to_nnf_all-returns : goal.to_nnf_all-returns
to_nnf_all-returns t c = search (rules, forms)
