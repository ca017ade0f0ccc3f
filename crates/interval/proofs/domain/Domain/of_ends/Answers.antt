-- `interval::Domain::of_ends` meets its contract. Assumes nothing.
use borrow.Author.Rules.{rules}
use Rattle.interval.proofs.Loops.{placed_more}
use Rattle.interval.proofs.domain.Domain.of_ends.Goals as goal

pub loop-i-preserved : goal.loop-i-preserved
loop-i-preserved c = (search rules, search (rules, placed_more))
