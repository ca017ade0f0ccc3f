-- `maths::exp` meets its contract: k is small enough to be an f64. Assumes nothing.
use Rattle.std.proofs.Common.{◌<◌, ◌^◌, rules, arith}
use Rattle.std.proofs.lemmas.Grind.{common_steps}
use Rattle.std.specs.Int.Signed.{mag}
use Rattle.number.specs.Cast.{again}
use Rattle.maths.proofs.Range.{power_small}
use Rattle.maths.proofs.exp.Goals as goal

pub int_to_float-n : goal.int_to_float-n
int_to_float-n c = let s : mag (again c.nearest-k.result) < 2 ^ 53 = grind (arith, common_steps, power_small) in search rules
