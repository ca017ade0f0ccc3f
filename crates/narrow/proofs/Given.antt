-- Two lists of ends that were tested, and what the narrowing leaves in them. Assumes nothing.
use Prim.Native.Nat.{ℕ, ◌+◌}
use mathlib.Core.Path.{◌≡◌, refl, sym, ◌∙◌}
use mathlib.Core.Bool.{true}
use mathlib.Core.List.{List}
use native.Mathlib.Omega.{arith}
use lib.Ieee.{Float}
use lib.ListN.{length}
use lib.Seq.{paste}
use Rattle.std.specs.Prelude.{Ok}
use Rattle.std.proofs.Common.{append-nil}
use Rattle.std.proofs.lemmas.List.{drop_all}
use Rattle.std.proofs.lemmas.List.Edits.{paste_all}
use Rattle.settings.specs.declared.Settings.{Settings}
use Rattle.interval.specs.declared.Interval.{Interval}
use Rattle.interval.specs.Boxes.{intervals, lows, highs, are_boxes}
use Rattle.interval.specs.BoxLaws.{as_many, boxes_paired, lows_length, highs_length}
use Rattle.record.specs.Leaving.{◌leaving◌}
use Rattle.constraint.specs.Constraint.{Constraint}
use Rattle.narrow.specs.declared.PropResult.{PropResult}
use Rattle.narrow.specs.Narrowing.{propagate}
use Rattle.record.specs.RefusalLaws.{none_unless}
use Rattle.narrow.specs.Given.{ends, answered}
use Rattle.narrow.specs.GivenLaws.{refusals}

-- as many are written as there are
written : (old new : List Float) (n : ℕ) → length old ≡ n → length new ≡ n → paste old 0 new n ≡ new
written old new n p q = rw (paste_all old 0 new n (sym q), drop_all (0 + n) old (omega arith), append-nil) refl

module _ (lo hi : List Float) (t : are_boxes lo hi ≡ true) where
  pub paired : length hi ≡ length lo
  paired = as_many lo hi (boxes_paired lo hi t)

  pub answers : (c : Constraint) (σ : Settings) {w : PropResult} {is : List Interval} {lo' hi' : List Float} → (w leaving is) ≡ propagate σ c (intervals lo hi)
      → length is ≡ length lo → lo' ≡ paste lo 0 (lows is) (length is) → hi' ≡ paste hi 0 (highs is) (length is) → (Ok w leaving (lo', hi')) ≡ answered ends (propagate σ c (intervals lo hi))
  answers c σ {w = w} {is = is} h e p q =
      rw (p, q, written lo (lows is) (length is) (sym e) (lows_length is), written hi (highs is) (length is) (paired ∙ sym e) (highs_length is), ← h) refl

pub ruleset given = (refusals, none_unless, paired)
