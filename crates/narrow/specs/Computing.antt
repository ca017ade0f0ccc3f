-- One name under which a proof by computation opens every definition, those below included.
use Rattle.interval.specs.Computing as Below
use Rattle.settings.specs.Settings
use Rattle.normal.specs.NormalForm
use Rattle.narrow.specs.Narrowing

unfoldable pub computing : Unit {0}
unfolding Below.computing Settings.usual NormalForm.to_nnf Narrowing.eml_interval Narrowing.forward Narrowing.eval_interval Narrowing.left_of
    Narrowing.children Narrowing.ask Narrowing.demand Narrowing.ask_both Narrowing.fixed_at Narrowing.narrow_var Narrowing.backward
    Narrowing.fails Narrowing.target_of Narrowing.nudge_var Narrowing.nudge_tree Narrowing.aim Narrowing.narrow_to Narrowing.narrow_atom Narrowing.continue
    Narrowing.hulls Narrowing.hull_with Narrowing.survive Narrowing.tightened Narrowing.adopt Narrowing.adopt_survivors Narrowing.round
    Narrowing.propagate_once Narrowing.again Narrowing.rounds Narrowing.propagate
computing = tt
