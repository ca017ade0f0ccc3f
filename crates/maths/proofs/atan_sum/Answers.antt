-- `maths::atan_sum` meets its contract: the fold is the series. Assumes nothing.
use lib.Ieee.{of_bits, of_int}
use Rattle.std.proofs.Common.{rules, refl}
use Rattle.number.specs.Literals.{one_is}
use Rattle.maths.specs.Trig.{atan_sum}
use Rattle.maths.proofs.Series.{counted}
use Rattle.maths.proofs.atan_sum.Goals as goal

pub returns : goal.returns
unfolding atan_sum of_bits of_int
returns c = counted 21 _ c.rev.ensures.runs c.fold.ensures.runs (search (rules, one_is)) refl
