-- `maths::cos_sum` meets its contract: the fold is the series. Assumes nothing.
use Rattle.std.proofs.Common.{rules}
use Rattle.number.specs.Literals.{one_is}
use Rattle.maths.proofs.Series.{counted}
use Rattle.maths.proofs.cos_sum.Goals as goal

pub returns : goal.returns
returns c = counted 9 _ c.rev.ensures.runs c.fold.ensures.runs (search (rules, one_is)) one_is
