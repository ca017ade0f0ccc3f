-- One name under which a proof by computation opens every definition. A proof by reasoning opens one at a time.
use Rattle.std.specs.Float.Ieee
use Rattle.number.specs.Notation
use Rattle.number.specs.Sign
use Rattle.number.specs.Near
use Rattle.number.specs.MaxMin
use Rattle.number.specs.Next

unfoldable pub computing : Unit {0}
unfolding Ieee.add Ieee.sub Ieee.mul Ieee.div Ieee.neg Ieee.lt Ieee.le Ieee.eq Ieee.is_nan Ieee.fits Ieee.of_int Ieee.of_bits Ieee.to_bits Ieee.round Notation.when◌then◌else◌ Sign.abs_of Sign.sign_bit Near.nearest MaxMin.max_of MaxMin.min_of Next.next_up Next.next_down
computing = tt
