-- One name under which a proof by computation opens every definition, those of `number` too.
use Rattle.number.specs.Computing as Below
use Rattle.maths.specs.Series
use Rattle.maths.specs.Exp
use Rattle.maths.specs.Ln
use Rattle.maths.specs.Trig
use Rattle.maths.specs.Cplx

unfoldable pub computing : Unit {0}
unfolding Below.computing Series.series Exp.exp_sum Exp.scaled Exp.exp_at Exp.exp_of Ln.ln_sum Ln.ln_at Ln.ln_from Ln.mantissa Ln.exponent Ln.ln_of
    Trig.turns Trig.rest Trig.sin_at Trig.cos_at Trig.turn_of Trig.sin_by Trig.cos_by Trig.sin_of Trig.cos_of Trig.atan_sum Trig.atan_at Trig.atan_of
    Cplx.complex_exp Cplx.real_ln Cplx.log_size Cplx.angle Cplx.other_ln Cplx.complex_ln
computing = tt
