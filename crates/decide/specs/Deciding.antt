-- `decide_forall` and `decide_exists` (document 01, "The rest"; helpers.rs). σ are the settings; variable v of n lies in [lo, hi].
use Rattle.std.specs.Prelude.{ℕ, ◌^◌, Bool, true, false, not, ◌&&◌, List, [], ◌∷◌, Option, Some, None, Result, Ok, Err, leb, replicate, set, Float}
use Rattle.std.specs.List.{find}
use Rattle.std.specs.Float.{binary64}
use Rattle.std.specs.Float.Ieee.{neg}
use Rattle.number.specs.Notation.{whole, decimal, ◌⊕◌, ◌⊖◌, ◌⊗◌}
use Rattle.number.specs.Halving.{mid}
use Rattle.number.specs.Sound.{sound}
use Rattle.settings.specs.Settings.{settings_refusal}
use Rattle.settings.specs.declared.Settings.{Settings}
use Rattle.interval.specs.declared.Interval.{Interval}
use Rattle.interval.specs.Interval.{◌‥◌}
use Rattle.record.specs.Refusal.{◌or_else◌, ◌unless◌, refused_or}
use Rattle.constraint.specs.Constraint.{Constraint, Not}
use Rattle.normal.specs.NormalForm.{to_nnf}
use Rattle.file.specs.File.{Read, Refused, Accepted, read_given}
use Rattle.point.specs.Check.{check}
use Rattle.narrow.specs.Narrowing.{is_conflict, propagate}

-- a witness or a counterexample is its point
pub data QuantResult : Type 0 where
  True : QuantResult
  TrueWithWitness : List Float → QuantResult
  FalseWithCounterexample : List Float → QuantResult
  Unknown : QuantResult

-- ---- the samples, in the Rust's order

-- the point with the variable at x and every other one at 0; a variable beyond the point alters nothing in it
unfoldable pub point_at : ℕ → ℕ → Float → List Float
point_at n v x = set (replicate n (whole 0)) v x

unfoldable pub forall_samples : Float → Float → List Float
forall_samples lo hi =
    let tenth = decimal 1 10 ⊗ (hi ⊖ lo) in
    lo ∷ hi ∷ mid binary64 lo hi ∷ (lo ⊕ tenth) ∷ (hi ⊖ tenth) ∷ []

unfoldable pub exists_samples : Float → Float → List Float
exists_samples lo hi =
    let width = hi ⊖ lo in
    mid binary64 lo hi ∷ lo ∷ hi ∷ (lo ⊕ decimal 1 4 ⊗ width) ∷ (lo ⊕ decimal 3 4 ⊗ width) ∷ []

-- ---- the decisions

-- the variable in its range, every other one in [-1e10, 1e10]
unfoldable pub boxes_at : ℕ → ℕ → Interval → List Interval
boxes_at n v i = set (replicate n (neg (whole (10 ^ 10)) ‥ whole (10 ^ 10))) v i

-- propagating the negation meets a conflict
unfoldable pub refutes : Settings → Constraint → List Interval → Bool
refutes σ c b = is_conflict (propagate σ (to_nnf (Not c)) b).answer

-- by whether the negation is refuted, and the first sample that fails
unfoldable pub forall_by : ℕ → ℕ → Bool → Option Float → QuantResult
forall_by n v true f = True
forall_by n v false None = Unknown
forall_by n v false (Some x) = FalseWithCounterexample (point_at n v x)

unfoldable pub decide_forall : Settings → ℕ → Float → Float → Constraint → ℕ → QuantResult
decide_forall σ v lo hi c n = forall_by n v (refutes σ c (boxes_at n v (lo ‥ hi))) (find (λ x. not (check σ (point_at n v x) c)) (forall_samples lo hi))

-- by the first sample that passes
unfoldable pub exists_by : ℕ → ℕ → Option Float → QuantResult
exists_by n v None = Unknown
exists_by n v (Some x) = TrueWithWitness (point_at n v x)

unfoldable pub decide_exists : Settings → ℕ → Float → Float → Constraint → ℕ → QuantResult
decide_exists σ v lo hi c n = exists_by n v (find (λ x. check σ (point_at n v x) c) (exists_samples lo hi))

-- ---- as a caller receives it
abbrev pub point_of : QuantResult → List Float
point_of True = []
point_of (TrueWithWitness p) = p
point_of (FalseWithCounterexample p) = p
point_of Unknown = []

-- the numbers of the verdicts, in the Rust's order
abbrev pub verdict_number : QuantResult → ℕ
verdict_number True = 0
verdict_number (TrueWithWitness p) = 1
verdict_number (FalseWithCounterexample p) = 2
verdict_number Unknown = 3

-- ---- the calls on records; document 01's have the settings `usual`. `room` is how many places there are for a point.

-- 9: over 16 variables, or an unsound range
unfoldable pub range_refusal : Float → Float → ℕ → ℕ
range_refusal lo hi n = 9 unless leb n 16 && sound binary64 lo hi

-- 14 for the settings; then 9, as above; then 10: fewer places for a point than variables
unfoldable pub later_refusal : Settings → Float → Float → ℕ → ℕ → ℕ
later_refusal σ lo hi n room = settings_refusal σ or_else range_refusal lo hi n or_else 10 unless leb n room

-- the records' own refusal, 2 to 7, then those
abbrev pub decided_by : Read → ℕ → (Constraint → QuantResult) → Result QuantResult ℕ
decided_by (Refused r) later decide = Err r
decided_by (Accepted c bounds) later decide = refused_or later Err (Ok (decide c))

unfoldable pub decide_forall_given : Settings → List ℕ → List ℕ → ℕ → Float → Float → ℕ → ℕ → Result QuantResult ℕ
decide_forall_given σ nodes b v lo hi n room = decided_by (read_given nodes b) (later_refusal σ lo hi n room) λ c. decide_forall σ v lo hi c n

unfoldable pub decide_exists_given : Settings → List ℕ → List ℕ → ℕ → Float → Float → ℕ → ℕ → Result QuantResult ℕ
decide_exists_given σ nodes b v lo hi n room = decided_by (read_given nodes b) (later_refusal σ lo hi n room) λ c. decide_exists σ v lo hi c n
