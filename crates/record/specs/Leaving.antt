-- What a call answers, and what it leaves in the places that it was lent.
use Rattle.std.specs.Prelude.{◌≡◌}
use Rattle.std.proofs.Common.{ap}

pub record Leaving (A B : Type 0) : Type 0 where
  pub answer : A
  pub places : B

infix 20 ◌leaving◌
abbrev pub ◌leaving◌ : {A B : Type 0} → A → B → Leaving A B
a leaving b = record { answer = a; places = b }

pub same_answer : {A B : Type 0} {x y : Leaving A B} → x ≡ y → x.answer ≡ y.answer
same_answer e = ap (λ (o : Leaving _ _). o.answer) e

pub same_places : {A B : Type 0} {x y : Leaving A B} → x ≡ y → x.places ≡ y.places
same_places e = ap (λ (o : Leaving _ _). o.places) e
