-- Demand 3 of what the exported calls leave in the lent places, and the count of halvings. The contract of the calls that solve (`Solves` in
-- eml/specs/Places) says that what is returned and left is `solved s old`, s being what `solve_file` or `solve_given` answers and `old` what the places
-- held: `file_left` and `given_left` below. The numbers of the stop words follow document 01's order. Demand1 has the refusals. Assumes
-- nothing.
use Rattle.std.specs.Prelude.{◌≡◌, ℕ, ◌≤◌, List, Float, length, Result, Ok}
use Rattle.std.proofs.Common.{sym, ◌∙◌}
use Rattle.settings.specs.declared.Settings.{Settings}
use Rattle.record.specs.Leaving.{Leaving}
use Rattle.interval.specs.declared.Interval.{Interval}
use Rattle.interval.specs.Boxes.{intervals}
use Rattle.narrow.specs.Given.{propagate_given}
use Rattle.lent.specs.Lent.{propagate_lent}
use Rattle.nra.specs.Solver.{Answer, solve}
use Rattle.nra.specs.Calls.{solve_file, solve_given}
use Rattle.nra.specs.Answers.{assignment_word}
use Rattle.eml.specs.Answers.{writing, propagated}
use Rattle.eml.specs.Places.{Solution, solved}
use Rattle.promises.specs.Received.{Passes}
use Rattle.promises.specs.Accepted.{file_problem, file_bounds, file_taken, given_problem, given_taken}
use Rattle.promises.specs.Kept.{Kept, boxes_in}
use Rattle.promises.specs.Counts.{file_counted, given_counted}
use Rattle.promises.specs.Written.{limit_word, values_in, Settles, returned, unwritten, counts_left, passes_left, both_left, left_keeps}
use Rattle.promises.specs.Demand3.{file_settled, given_settled, file_passes, given_passes, given_keeps, lent_keeps}

-- ---- eml_solve_file: what it returns and leaves under the limit L, in places that hold `old`
module _ (σ : Settings) (file : List ℕ) (ε : Float) where
  abbrev file_solved : ℕ → Solution → Result Answer ℕ
  file_solved L old = solve_file σ file L ε (length old.point)

  abbrev pub file_left : ℕ → Solution → Leaving ℕ Solution
  file_left L old = solved (file_solved L old) old

  file_is : (L : ℕ) (old : Solution) → (file_left L old).answer ≡ 0 → file_solved L old ≡ Ok (solve σ (file_problem file ε) (file_bounds file) L)
  file_is L old t = file_taken σ file ε L (length old.point) (sym (returned (file_solved L old) old) ∙ t)

  -- "Whatever other accepted limit of at least 1 is given, all else alike, that answer comes back exactly when that limit is at least h: the same
  -- stop word, assignment, exactness, failure residual and count. Below h the answer is 'limit reached', its count that limit." Of two calls that
  -- return 0, with limits of at least 1, of which the first does not leave "limit"; h is the first's count.
  pub file_settles : (L M : ℕ) (a b : Solution) → (file_left L a).answer ≡ 0 → (file_left M b).answer ≡ 0 → 1 ≤ L → 1 ≤ M → ((file_left L a).places.stop ≡ limit_word → ⊥)
      → Settles (file_left L a).places M (file_left M b).places
  file_settles L M a b t u l k n =
      both_left (file_is L a t) a (file_is M b u) b M n (λ o. file_settled σ file ε (length a.point) (length b.point) L M _ _ (file_is L a t) (file_is M b u) l k o)

  -- "Nobody who receives an assignment, whatever the problem, tolerance and limit, 0 included, can find it outside its starting box or failing
  -- document 01's check of the constraint."
  pub file_left_passes : (L : ℕ) (a : Solution) → (file_left L a).answer ≡ 0 → (file_left L a).places.stop ≡ assignment_word → Passes σ (file_problem file ε) (file_bounds file) (values_in (file_left L a).places)
  file_left_passes L a t e = passes_left (file_is L a t) a (Passes σ (file_problem file ε) (file_bounds file)) (λ m exact h i. file_passes σ file ε L (length a.point) m exact h i) e

  -- Document 01: "at most the limit"; and of "limit" it is the limit.
  pub file_left_counts : (L : ℕ) (a : Solution) → (file_left L a).answer ≡ 0 → ((file_left L a).places.halvings ≤ L) × ((file_left L a).places.stop ≡ limit_word → (file_left L a).places.halvings ≡ L)
  file_left_counts L a t = counts_left (file_is L a t) a L (file_counted σ file L ε (length a.point))

  -- A refusal leaves every place as it was.
  pub file_left_refused : (L : ℕ) (a : Solution) → ((file_left L a).answer ≡ 0 → ⊥) → (file_left L a).places ≡ a
  file_left_refused L a n = unwritten (file_solved L a) a n

-- ---- eml_solve, alike
module _ (σ : Settings) (nodes b : List ℕ) (lo hi : List Float) (ε : Float) where
  abbrev given_solved : ℕ → Solution → Result Answer ℕ
  given_solved L old = solve_given σ nodes b lo hi L ε (length old.point)

  abbrev pub given_left : ℕ → Solution → Leaving ℕ Solution
  given_left L old = solved (given_solved L old) old

  given_is : (L : ℕ) (old : Solution) → (given_left L old).answer ≡ 0 → given_solved L old ≡ Ok (solve σ (given_problem nodes b ε) (intervals lo hi) L)
  given_is L old t = given_taken σ nodes b lo hi ε L (length old.point) (sym (returned (given_solved L old) old) ∙ t)

  pub given_settles : (L M : ℕ) (x y : Solution) → (given_left L x).answer ≡ 0 → (given_left M y).answer ≡ 0 → 1 ≤ L → 1 ≤ M → ((given_left L x).places.stop ≡ limit_word → ⊥)
      → Settles (given_left L x).places M (given_left M y).places
  given_settles L M x y t u l k n =
      both_left (given_is L x t) x (given_is M y u) y M n (λ o. given_settled σ nodes b lo hi ε (length x.point) (length y.point) L M _ _ (given_is L x t) (given_is M y u) l k o)

  pub given_left_passes : (L : ℕ) (x : Solution) → (given_left L x).answer ≡ 0 → (given_left L x).places.stop ≡ assignment_word → Passes σ (given_problem nodes b ε) (intervals lo hi) (values_in (given_left L x).places)
  given_left_passes L x t e = passes_left (given_is L x t) x (Passes σ (given_problem nodes b ε) (intervals lo hi)) (λ m exact h i. given_passes σ nodes b lo hi ε L (length x.point) m exact h i) e

  pub given_left_counts : (L : ℕ) (x : Solution) → (given_left L x).answer ≡ 0 → ((given_left L x).places.halvings ≤ L) × ((given_left L x).places.stop ≡ limit_word → (given_left L x).places.halvings ≡ L)
  given_left_counts L x t = counts_left (given_is L x t) x L (given_counted σ nodes b lo hi L ε (length x.point))

  pub given_left_refused : (L : ℕ) (x : Solution) → ((given_left L x).answer ≡ 0 → ⊥) → (given_left L x).places ≡ x
  given_left_refused L x n = unwritten (given_solved L x) x n

-- ---- eml_propagate and eml_propagate_intervals: w is the number that is returned, with the place of the answer and the boxes
-- "Nobody who propagates can lower a lo, raise a hi or empty an interval, whatever boxes and constraint were accepted and whatever the answer,
-- Conflict included." After a refusal the places are what they were.
pub propagate_keeps_ends : (σ : Settings) (nodes constraints : List ℕ) (lo hi : List Float) (old : ℕ)
    → let w = writing propagated (propagate_given σ nodes constraints lo hi) old in Kept boxes_in (lo, hi) w.answer w.places.1
propagate_keeps_ends σ nodes constraints lo hi old = left_keeps boxes_in (lo, hi) (propagate_given σ nodes constraints lo hi) old (given_keeps σ nodes constraints lo hi)

pub propagate_keeps_intervals : (σ : Settings) (nodes constraints : List ℕ) (b : List Interval) (old : ℕ)
    → let w = writing propagated (propagate_lent σ nodes constraints b) old in Kept (λ x. x) b w.answer w.places.1
propagate_keeps_intervals σ nodes constraints b old = left_keeps (λ x. x) b (propagate_lent σ nodes constraints b) old (lent_keeps σ nodes constraints b)
