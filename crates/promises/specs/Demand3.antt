-- Demand 3, sentence by sentence in its order: each of the definitions, for any settings σ, and of what the calls return. Document 01, "The words of
-- demand 3", says what the words mean. Assumes nothing.
use Rattle.std.specs.Prelude.{◌≡◌, refl, ℕ, ◌≤◌, ◌<◌, Bool, true, false, List, leb, Float, length, Ok}
use Rattle.std.proofs.Common.{sym, ap, ◌∙◌, subst, leb-true, leb-false}
use Rattle.std.proofs.lemmas.Bool.{false≢true}
use Rattle.number.specs.Order.{passed}
use Rattle.record.specs.Refusal.{◌or_else◌, ◌unless◌}
use Rattle.record.specs.RefusalLaws.{both, none_both, none_unless}
use Rattle.settings.specs.Settings.{settings_refusal}
use Rattle.settings.specs.declared.Settings.{Settings}
use Rattle.interval.specs.declared.Interval.{Interval}
use Rattle.interval.specs.Inside.{Sound, Each, EachInside, boxes_sound}
use Rattle.interval.specs.BoxLaws.{of_ends}
use Rattle.interval.specs.Boxes.{intervals, all_sound, are_boxes, is_domain}
use Rattle.constraint.specs.Constraint.{Constraint}
use Rattle.point.specs.Check.{check}
use Rattle.narrow.specs.Narrowing.{propagate}
use Rattle.narrow.specs.Given.{ends, answered, propagate_given}
use Rattle.narrow.specs.Held.{ConstraintHeld}
use Rattle.narrow.proofs.Promise.{propagate_keeps}
use Rattle.lent.specs.Lent.{propagate_lent}
use Rattle.nra.specs.Solver.{Problem, Answer, assignment, halvings_of, reached, solve}
use Rattle.nra.specs.Calls.{solve_file, solve_given}
use Rattle.promises.specs.Limit.{raising_the_limit}
use Rattle.promises.specs.Assignments.{Fair, InBox, starting_box, assignment_kept}
use Rattle.promises.specs.Received.{Settled, settled, Passes, passing}
use Rattle.promises.specs.Accepted.{file_problem, file_bounds, file_answer, file_fair, given_sound, given_problem, given_answer, given_fair}
use Rattle.promises.specs.Kept.{Keeps, boxes_in, tested_keeps}

-- "Take any accepted problem and tolerance and any accepted limit of at least 1. Let the answer be other than 'limit reached', with h halvings."
module _ (σ : Settings) (p : Problem) (bounds : List Interval) (L : ℕ) (some : 1 ≤ L) (other : reached (solve σ p bounds L) ≡ false) where
  -- "Whatever other accepted limit of at least 1 is given, all else alike, that answer comes back exactly when that limit is at least h: the same
  -- stop word, assignment, exactness, failure residual and count."
  pub comes_back : (M : ℕ) → 1 ≤ M → (halvings_of (solve σ p bounds L) ≤ M → solve σ p bounds M ≡ solve σ p bounds L) × (solve σ p bounds M ≡ solve σ p bounds L → halvings_of (solve σ p bounds L) ≤ M)
  comes_back M k = ((raising_the_limit σ p bounds L some other).same M k, λ e. by (leb (halvings_of (solve σ p bounds L)) M) refl e)
    where
      by : (t : Bool) → leb (halvings_of (solve σ p bounds L)) M ≡ t → solve σ p bounds M ≡ solve σ p bounds L → halvings_of (solve σ p bounds L) ≤ M
      by true q e = leb-true _ _ q
      by false q e = absurd (false≢true (sym other ∙ ap reached (sym e) ∙ ((raising_the_limit σ p bounds L some other).early M k (leb-false _ _ q)).0))

  -- "Below h the answer is 'limit reached', its count that limit."
  pub below : (M : ℕ) → 1 ≤ M → M < halvings_of (solve σ p bounds L) → (reached (solve σ p bounds M) ≡ true) × (halvings_of (solve σ p bounds M) ≡ M)
  below = (raising_the_limit σ p bounds L some other).early

-- Of what the calls return, under two accepted limits of at least 1, of which the first does not give "limit"; r and s are the places for a point:
module _ (σ : Settings) (file : List ℕ) (ε : Float) (r s : ℕ) where
  pub file_settled : (L M : ℕ) (x y : Answer) → solve_file σ file L ε r ≡ Ok x → solve_file σ file M ε s ≡ Ok y → 1 ≤ L → 1 ≤ M → reached x ≡ false → Settled x M y
  file_settled L M x y t u l k n = settled σ (file_problem file ε) (file_bounds file) L (file_answer σ file ε L r t) M (file_answer σ file ε M s u) l k n

module _ (σ : Settings) (nodes b : List ℕ) (lo hi : List Float) (ε : Float) (r s : ℕ) where
  pub given_settled : (L M : ℕ) (x y : Answer) → solve_given σ nodes b lo hi L ε r ≡ Ok x → solve_given σ nodes b lo hi M ε s ≡ Ok y → 1 ≤ L → 1 ≤ M → reached x ≡ false → Settled x M y
  given_settled L M x y t u l k n = settled σ (given_problem nodes b ε) (intervals lo hi) L (given_answer σ nodes b lo hi ε L r t) M (given_answer σ nodes b lo hi ε M s u) l k n

-- "Nobody who receives an assignment, whatever the problem, tolerance and limit, 0 included, can find it outside its starting box or failing
-- document 01's check of the constraint."
pub assignment_holds : (σ : Settings) (p : Problem) (bounds : List Interval) → Fair p bounds → (L : ℕ) (m : List Float) (exact : Bool) (h : ℕ)
    → solve σ p bounds L ≡ assignment m exact h → InBox (starting_box p bounds) m × (check σ m p.constraint ≡ true)
assignment_holds = assignment_kept

-- Of what the calls return:
module _ (σ : Settings) (file : List ℕ) (ε : Float) (L room : ℕ) where
  pub file_passes : (m : List Float) (exact : Bool) (h : ℕ) → solve_file σ file L ε room ≡ Ok (assignment m exact h) → Passes σ (file_problem file ε) (file_bounds file) m
  file_passes m exact h t = passing σ (file_problem file ε) (file_bounds file) L (file_answer σ file ε L room t) (file_fair σ file ε L room t) m exact h refl

module _ (σ : Settings) (nodes b : List ℕ) (lo hi : List Float) (ε : Float) (L room : ℕ) where
  pub given_passes : (m : List Float) (exact : Bool) (h : ℕ) → solve_given σ nodes b lo hi L ε room ≡ Ok (assignment m exact h) → Passes σ (given_problem nodes b ε) (intervals lo hi) m
  given_passes m exact h t = passing σ (given_problem nodes b ε) (intervals lo hi) L (given_answer σ nodes b lo hi ε L room t) (given_fair σ nodes b lo hi ε L room t) m exact h refl

-- "Nobody who propagates can lower a lo, raise a hi or empty an interval, whatever boxes and constraint were accepted and whatever the answer,
-- Conflict included."
pub propagation_holds : (σ : Settings) (c : Constraint) (b : List Interval) → ConstraintHeld c → Each Sound b → EachInside b (propagate σ c b).places
propagation_holds σ c b f s = (propagate_keeps σ c b f s).0

-- Of what the calls on records and boxes return:
pub given_keeps : (σ : Settings) (nodes constraints : List ℕ) (lo hi : List Float) → Keeps boxes_in (lo, hi) (propagate_given σ nodes constraints lo hi)
unfolding propagate_given
given_keeps σ nodes constraints lo hi =
    let b = intervals lo hi in
    tested_keeps boxes_in nodes constraints (lo, hi) (λ c. answered ends (propagate σ c b)) (settings_refusal σ or_else 9 unless are_boxes lo hi) (λ c h t.
    subst (λ (r : List Interval). EachInside b r × Each Sound r) (sym (of_ends (propagate σ c b).places))
    (propagate_keeps σ c b h (given_sound lo hi (none_unless 8 _ (none_both (settings_refusal σ) _ t).1))))

pub lent_keeps : (σ : Settings) (nodes constraints : List ℕ) (b : List Interval) → Keeps (λ x. x) b (propagate_lent σ nodes constraints b)
unfolding propagate_lent
lent_keeps σ nodes constraints b =
    tested_keeps (λ x. x) nodes constraints b (λ c. answered (λ x. x) (propagate σ c b)) (settings_refusal σ or_else 9 unless is_domain b) (λ c h t.
    propagate_keeps σ c b h (boxes_sound b (passed (both (leb (length b) 16) (all_sound b) (none_unless 8 _ (none_both (settings_refusal σ) _ t).1)).1)))
