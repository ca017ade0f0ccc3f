-- What a call that narrows keeps: after an answer each interval lies inside the one that was there, and is sound; after a refusal the places are what they
-- were. Assumes nothing.
use Rattle.std.specs.Prelude.{◌≡◌, List, [], Float, Result}
use Rattle.std.proofs.Math.Path.{refl}
use Prim.Native.Nat.{ℕ, zero, suc}
use Rattle.interval.specs.declared.Interval.{Interval}
use Rattle.interval.specs.Inside.{Sound, Each, EachInside}
use Rattle.interval.specs.Boxes.{intervals}
use Rattle.record.specs.Leaving.{Leaving}
use Rattle.constraint.specs.Constraint.{Constraint}
use Rattle.narrow.specs.declared.PropResult.{PropResult}
use Rattle.narrow.specs.Given.{tested}
use Rattle.eml.specs.Answers.{number_of}
use Rattle.narrow.specs.Held.{ConstraintHeld, constraint_held}
use Rattle.file.specs.File.{Read, read_by, given_refusal, read_given}

-- by the number of the refusal, 0 being none; `boxes` is what a call's places hold
abbrev pub Kept : {B : Type 0} → (B → List Interval) → B → ℕ → B → Type 0
Kept boxes before zero after = EachInside (boxes before) (boxes after) × Each Sound (boxes after)
Kept boxes before (suc r) after = after ≡ before

abbrev pub Keeps : {B : Type 0} → (B → List Interval) → B → Leaving (Result PropResult ℕ) B → Type 0
Keeps boxes before x = Kept boxes before (number_of x.answer) x.places

-- two lists of ends
abbrev pub boxes_in : List Float × List Float → List Interval
boxes_in e = intervals e.0 e.1

module _ {B : Type 0} (boxes : B → List Interval) (nodes constraints : List ℕ) (b : B) (next : Constraint → Leaving (Result PropResult ℕ) B) where
  read_keeps : (later r : ℕ) (c : Constraint) → ConstraintHeld c → ((c : Constraint) → ConstraintHeld c → later ≡ 0 → Keeps boxes b (next c)) → Keeps boxes b (tested (read_by r (Read.Accepted c [])) later b next)
  unfolding tested
  read_keeps (suc n) zero c h f = refl
  read_keeps zero zero c h f = f c h refl
  read_keeps later (suc r) c h f = refl

  pub tested_keeps : (later : ℕ) → ((c : Constraint) → ConstraintHeld c → later ≡ 0 → Keeps boxes b (next c)) → Keeps boxes b (tested (read_given nodes constraints) later b next)
  unfolding read_given
  tested_keeps later f = read_keeps later (given_refusal nodes constraints) _ (constraint_held nodes constraints _) f
