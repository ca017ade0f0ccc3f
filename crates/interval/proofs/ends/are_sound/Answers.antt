-- `interval::ends::are_sound` meets its contract: what is tested of each pair of ends is what is asked of each box. Assumes nothing.
use mathlib.Core.Path.{◌∙◌}
use lib.Ieee.{Float}
use Rattle.std.specs.Float.{binary64}
use Rattle.std.proofs.Common.{rules}
use Rattle.std.proofs.lemmas.Iterator.{YieldsList-from_slice, YieldsList-from_zip}
use Rattle.std.proofs.lemmas.Iterator.Search.{all_from_yields_List}
use Rattle.number.specs.Sound.{sound}
use Rattle.interval.specs.Boxes.{all_sound}
use Rattle.interval.proofs.Loops.{sound_ends}
use Rattle.interval.proofs.ends.are_sound.Goals as goal

pub returns : goal.returns
unfolding all_sound
returns c =
    all_from_yields_List (λ (p : Float × Float). sound binary64 p.0 p.1) c.all.new.self _ _ c.all.ensures.ran
    (YieldsList-from_zip {s = c.zip.result} (YieldsList-from_slice c.args.lo.now cc) (YieldsList-from_slice c.args.hi.now cc)) (λ x b q k. search rules)
    ∙ sound_ends c.args.lo.now c.args.hi.now
