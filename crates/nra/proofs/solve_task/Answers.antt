-- `nra::solve_task` meets its contract: no point has more values than there are variables. Assumes nothing.
use Rattle.std.proofs.Common.{ap}
use native.Mathlib.Omega.{arith}
use lib.ListN.{length}
use Rattle.constraint.specs.Constraint.{num_vars}
use Rattle.interval.specs.Views.{intervals_of}
use Rattle.nra.specs.Answers.{asked}
use Rattle.nra.specs.Fits.{point_of, solve_few}
use Rattle.nra.proofs.solve_task.Goals as goal

pub returns-clause-fits : goal.returns-clause-fits
returns-clause-fits c =
    omega (
      arith,
      ap (λ a. length (point_of a)) c.solve_in.ensures,
      solve_few c.args.task.now.settings (asked c.args.task.now) (intervals_of c.args.bounds.now) c.args.task.now.limit,
      c.num_vars-n.ensures,
      ap num_vars c.constraint.ensures.meaning,
      c.if-room-n.false,
    )
