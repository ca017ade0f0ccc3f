-- `narrow::propagate_given` meets its contract. Assumes nothing.
use mathlib.Core.Bool.{true}
use mathlib.Core.Path.{◌≡◌, sym, ◌∙◌}
use Rattle.record.specs.RefusalLaws.{none_unless, or_else_none}
use Rattle.interval.specs.Boxes.{are_boxes}
use Rattle.narrow.specs.Given.{propagate_given}
use Rattle.narrow.specs.GivenLaws.{taken}
use Rattle.narrow.proofs.Given.{answers}
use Rattle.narrow.proofs.propagate_given.Goals as goal

pub returns : goal.returns
unfolding propagate_given
returns c =
    let d = c.in_ok-domain.ensures in
    let t : are_boxes c.args.lo.now c.args.hi.now ≡ true = none_unless 8 _ (sym d.refusal) in
    let x = c.narrow-result in
    let s = c.as_slice.ensures in
    taken _ _ _ _ c.in_ok-records.ensures.constraint (sym (d.refusal ∙ or_else_none _ _ (sym c.in_ok-test.ensures)))
    (answers _ _ t _ _ (rw (c.constraint.ensures.meaning, d.value.1, ← s.0) at x.ensures.boxes) (s.1 ∙ x.ensures.count ∙ d.value.0) c.write_ends.ensures.lo_value c.write_ends.ensures.hi_value)
