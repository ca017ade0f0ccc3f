-- `lent::propagate` meets its contract. Assumes nothing.
use mathlib.Core.Path.{◌≡◌, refl, sym, ap, ◌∙◌}
use mathlib.Core.Bool.{true, false}
use Rattle.record.specs.declared.refusal.Refusal.{Refusal}
use Rattle.record.specs.RefusalLaws.{or_else_none}
use Rattle.interval.specs.Boxes.{is_domain}
use Rattle.narrow.specs.GivenLaws.{second_refused, taken}
use Rattle.narrow.specs.Given.{answered}
use Rattle.lent.specs.Lent.{propagate_lent}
use Rattle.lent.proofs.propagate.Goals as goal

pub returns-then-not-is_domain : goal.returns-then-not-is_domain
unfolding propagate_lent
returns-then-not-is_domain c =
    let t : is_domain c.args.boxes.now ≡ false = sym c.is_domain.ensures ∙ c.if-not-is_domain.true in
    second_refused _ _ _ _ c.in_ok-records.ensures.constraint Refusal.Boxes _ _ c.in_ok-test.ensures (rw t refl)

pub returns : goal.returns
unfolding propagate_lent
returns c =
    let t : is_domain c.args.boxes.now ≡ true = sym c.is_domain.ensures ∙ c.if-not-is_domain.false in
    taken _ _ _ _ c.in_ok-records.ensures.constraint (sym (or_else_none _ _ (sym c.in_ok-test.ensures)) ∙ rw t refl)
    (ap (answered (λ x. x)) (rw c.constraint.ensures.meaning at c.propagate.ensures))
