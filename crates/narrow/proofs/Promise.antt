-- Demand 3, propagation: for every constraint and every list of sound boxes, a Conflict included, no lo is lowered, no hi is raised and no
-- interval is emptied; so every box stays sound and inside where it was. Theorems about the definition. Assumes nothing.
use Rattle.std.specs.Prelude.{List}
use Rattle.settings.specs.declared.Settings.{Settings}
use Rattle.interval.specs.declared.Interval.{Interval}
use Rattle.interval.specs.Inside.{Proper, Sound, Each, EachInside, Narrower, each_proper, each_sound}
use Rattle.constraint.specs.Constraint.{Constraint}
use Rattle.narrow.specs.Narrowing.{propagate}
use Rattle.narrow.specs.Held.{ConstraintHeld}
use Rattle.narrow.proofs.Shrinking.{rounds_leave}

-- No lo is lowered, no hi is raised, no interval is emptied, whatever the answer.
pub propagate_narrows : (σ : Settings) (c : Constraint) (b : List Interval) → ConstraintHeld c → Each Proper b → Narrower b (propagate σ c b).places
unfolding propagate
propagate_narrows σ c b f g = rounds_leave σ σ.rounds c b f g

-- So of sound boxes every one stays sound, and inside where it was.
pub propagate_keeps : (σ : Settings) (c : Constraint) (b : List Interval) → ConstraintHeld c → Each Sound b → EachInside b (propagate σ c b).places × Each Sound (propagate σ c b).places
propagate_keeps σ c b f h =
    let r = propagate_narrows σ c b f (each_proper b h) in
    (r.inside, each_sound b (propagate σ c b).places r.inside r.proper h)
