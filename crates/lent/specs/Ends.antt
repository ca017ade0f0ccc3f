-- The call on two lists of ends and the call on the list of intervals answer alike, and leave the same boxes. Assumes nothing.
use Rattle.std.specs.Prelude.{ℕ, zero, suc, ◌≡◌, List, Float, length}
use Rattle.std.proofs.Math.Path.{refl}
use borrow.Author.Tests.{eq-eqb}
use Rattle.settings.specs.declared.Settings.{Settings}
use Rattle.interval.specs.declared.Interval.{Interval}
use Rattle.interval.specs.Boxes.{lows, highs, are_paired, are_boxes, is_domain}
use Rattle.interval.specs.BoxLaws.{of_ends, lows_length, highs_length}
use Rattle.record.specs.Leaving.{◌leaving◌}
use Rattle.file.specs.File.{Read, read_given}
use Rattle.narrow.specs.Narrowing.{propagate}
use Rattle.narrow.specs.Given.{ends, Given, tested, answered, propagate_given}
use Rattle.lent.specs.Lent.{propagate_lent}

-- what a call leaves, its list as two lists of ends
abbrev pub apart : Given (List Interval) → Given (List Float × List Float)
apart x = x.answer leaving ends x.places

module _ (σ : Settings) (ys : List Interval) where
  boxes_are : are_boxes (lows ys) (highs ys) ≡ is_domain ys
  unfolding are_boxes are_paired
  boxes_are = rw (lows_length ys, highs_length ys, of_ends ys, eq-eqb (length ys) (length ys) refl) refl

  tested_apart : (r : Read) (later : ℕ) → tested r later (ends ys) (λ c. answered ends (propagate σ c ys)) ≡ apart (tested r later ys (λ c. answered (λ x. x) (propagate σ c ys)))
  unfolding tested
  tested_apart (Read.Refused r) later = refl
  tested_apart (Read.Accepted c bounds) zero = refl
  tested_apart (Read.Accepted c bounds) (suc r) = refl

  pub given_lent : (nodes constraints : List ℕ) → propagate_given σ nodes constraints (lows ys) (highs ys) ≡ apart (propagate_lent σ nodes constraints ys)
  unfolding propagate_given propagate_lent
  given_lent nodes constraints = rw (boxes_are, of_ends ys) (tested_apart (read_given nodes constraints) _)
