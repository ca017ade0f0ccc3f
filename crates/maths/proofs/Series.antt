-- A fold over the numbers from n down to 1 is the series of its steps. Assumes nothing.
use Prim.Native.Nat.{ℕ, zero, suc, ◌+◌, ◌-◌, ◌<◌}
use native.Mathlib.Omega.{arith}
use denote.Param.Members.{Mut}
use Rattle.std.specs.Prelude.{◌≡◌, Float, List, [], ◌∷◌, length, get_or}
use Rattle.std.specs.List.{fold}
use Rattle.std.specs.Iterator.{ActsAsOnTwo}
use Rattle.std.specs.Iterator.Runs.{ItemsCountDown, WholeRun}
use Rattle.std.specs.Iterator.Adapters.{RevKeepsRuns, rev_steps}
use Rattle.std.specs.declared.iter.Rev.{Rev}
use Rattle.std.specs.declared.ops.Range.{Range}
use Rattle.std.proofs.Common.{rules, refl, ◌∙◌}
use Rattle.std.proofs.iter.runs.Sources.{nat_range_steps_back, ranges}
use Rattle.maths.specs.Series.{series}

over : (step : ℕ → Float → Float) (xs : List ℕ) (n : ℕ) (s : Float) → length xs ≡ n → ((k : ℕ) → k < n → get_or xs k 0 ≡ n - k)
    → fold (λ a i. step i a) s xs ≡ series step n s
unfolding series
over step [] zero s l h = refl
over step [] (suc n) s l h = absurd (omega arith)
over step (x ∷ xs) zero s l h = absurd (omega arith)
over step (x ∷ xs) (suc n) s l h =
    let e : x ≡ suc n = h 0 (omega arith) ∙ omega arith in
    rw e (over step xs n (step (suc n) s) (omega arith) (λ k b. h (suc k) (omega arith) ∙ omega arith))

-- what a fold over `(1..n + 1).rev()` ensures, where each step is the closure's
pub counted : {F : Type 0} {g : Mut F (Float × (ℕ × Unit {0})) Float} {f : F} {down : Rev (Range ℕ)} {z a b : Float}
    → (n : ℕ) (step : ℕ → Float → Float)
    → RevKeepsRuns nat_range_steps_back (record { start = 1; end = n + 1 }) down
    → WholeRun (rev_steps nat_range_steps_back) down (λ p. (h : Float → ℕ → Float) → ActsAsOnTwo g f h → z ≡ fold h a p.items)
    → ActsAsOnTwo g f (λ s i. step i s)
    → a ≡ b
    → z ≡ series step n b
counted n step e r acts i =
    let d : ItemsCountDown r.0 1 (n + 1) = search (rules, ranges) in
    rw (← i) (r.3 _ acts ∙ over step r.0.items n _ (omega (arith, r.0.long, d.1 r.2)) (λ k b. search (rules, d)))
