-- One name under which a proof by computation opens every definition, those of the crates below too.
use Rattle.maths.specs.Computing as Below
use Rattle.settings.specs.Settings
use Rattle.point.specs.Eval
use Rattle.point.specs.Check
use Rattle.point.specs.Residual

unfoldable pub computing : Unit {0}
unfolding Below.computing Settings.usual Eval.clamped Eval.beyond Eval.numeric Eval.eml_complex Eval.variable Eval.eval_complex Eval.real_part Eval.eval_real Check.holds Check.check Residual.shortfall Residual.residual_of_not Residual.residual
computing = tt
