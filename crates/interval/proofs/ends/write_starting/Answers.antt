-- `interval::ends::write_starting` meets its contract: each turn writes one box more. Assumes nothing.
use mathlib.Core.Path.{◌≡◌}
use native.Mathlib.Omega.{arith}
use lib.ListN.{length}
use Rattle.interval.specs.Boxes.{starting, intervals, lows, highs}
use Rattle.interval.specs.BoxLaws.{starting_length, lows_length, highs_length}
use Rattle.interval.proofs.Loops.{pasted_more, started_low, started_high}
use Rattle.interval.proofs.ends.write_starting.Goals as goal

pub loop-i-preserved : goal.loop-i-preserved
loop-i-preserved c =
    let b = starting c.args.n (intervals c.args.lo.now c.args.hi.now) in
    let n : length b ≡ c.args.n = starting_length c.args.n (intervals c.args.lo.now c.args.hi.now) in (
      pasted_more c.args.out_lo.now (lows b) c.loop-i.out_lo c.loop-i.i c.loop-i.invariant.0 (omega (arith, c.requires)) (omega (arith, n, lows_length b)) (started_low _ _ _ c.loop-i-test.true c.bound_at-b.ensures),
      pasted_more c.args.out_hi.now (highs b) c.loop-i.out_hi c.loop-i.i c.loop-i.invariant.1 (omega (arith, c.requires)) (omega (arith, n, highs_length b)) (started_high _ _ _ c.loop-i-test.true c.bound_at-b.ensures),
    )
