-- `propagate` on records and boxes that a caller gives: the refusals, and the answer with both lists of ends at exit.
use Rattle.std.specs.Prelude.{ℕ, zero, suc, List, Float, Result, Ok, Err}
use Rattle.settings.specs.Settings.{settings_refusal}
use Rattle.settings.specs.declared.Settings.{Settings}
use Rattle.interval.specs.declared.Interval.{Interval}
use Rattle.interval.specs.Boxes.{intervals, lows, highs, are_boxes}
use Rattle.record.specs.Leaving.{Leaving, ◌leaving◌}
use Rattle.record.specs.Refusal.{◌or_else◌, ◌unless◌}
use Rattle.constraint.specs.Constraint.{Constraint}
use Rattle.file.specs.File.{Read, read_given}
use Rattle.narrow.specs.declared.PropResult.{PropResult}
use Rattle.narrow.specs.Narrowing.{Narrowed, propagate}

abbrev pub ends : List Interval → List Float × List Float
ends is = (lows is, highs is)

-- an answer, or the number of its refusal, and what is left in the places
abbrev pub Given : Type 0 → Type 0
Given B = Leaving (Result PropResult ℕ) B

-- the records' own refusal, 2 to 7, then the later ones; a refusal alters nothing
unfoldable pub tested : {B : Type 0} → Read → ℕ → B → (Constraint → Given B) → Given B
tested (Read.Refused r) later b next = Err r leaving b
tested (Read.Accepted c bounds) zero b next = next c
tested (Read.Accepted c bounds) (suc r) b next = Err (suc r) leaving b

-- the numbers of the answers: Changed, Stable, Conflict
abbrev pub result_number : PropResult → ℕ
result_number PropResult.Changed = 0
result_number PropResult.Stable = 1
result_number PropResult.Conflict = 2

-- what the narrowing answers, and the boxes that it leaves, as the call has them
abbrev pub answered : {B : Type 0} → (List Interval → B) → Narrowed → Given B
answered f x = Ok x.answer leaving f x.places

-- 14 for the settings; 9 where what is given is no list of boxes
unfoldable pub propagate_given : Settings → List ℕ → List ℕ → List Float → List Float → Given (List Float × List Float)
propagate_given σ nodes constraints lo hi =
    tested (read_given nodes constraints) (settings_refusal σ or_else 9 unless are_boxes lo hi) (lo, hi) (λ c. answered ends (propagate σ c (intervals lo hi)))
