-- `maths::exp_sum` meets its contract: the fold is the series. Assumes nothing.
use Rattle.std.proofs.Common.{rules}
use Rattle.number.specs.Literals.{one_is}
use Rattle.maths.specs.Exp.{exp_sum}
use Rattle.maths.proofs.Series.{counted}
use Rattle.maths.proofs.exp_sum.Goals as goal

pub returns : goal.returns
unfolding exp_sum
returns c = counted 14 _ c.rev.ensures.runs c.fold.ensures.runs (search (rules, one_is)) one_is
