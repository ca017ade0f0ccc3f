-- What a caller receives, an answer or a refusal's number, and what is promised of it. Assumes nothing.
use Rattle.std.specs.Prelude.{◌≡◌, ℕ, zero, suc, ◌≤◌, ◌<◌, Bool, true, false, List, leb, Float, Result, Ok, Err}
use Rattle.std.proofs.Math.Path.{refl, sym, ap}
use Rattle.std.proofs.Common.{◌∙◌, arith, leb-true, leb-false}
use Rattle.std.proofs.lemmas.Bool.{false≢true}
use Rattle.settings.specs.declared.Settings.{Settings}
use Rattle.record.specs.Refusal.{refused_or}
use Rattle.interval.specs.declared.Interval.{Interval}
use Rattle.constraint.specs.Constraint.{Constraint}
use Rattle.file.specs.File.{Read, Refused, Accepted}
use Rattle.point.specs.Check.{check}
use Rattle.nra.specs.Solver.{Problem, Answer, assignment, halvings_of, reached, solve}
use Rattle.nra.specs.Calls.{answered_by}
use Rattle.promises.specs.Limit.{solve_counts, raising_the_limit}
use Rattle.promises.specs.Assignments.{Fair, InBox, starting_box, assignment_kept}

-- ---- the count of halvings
-- x is what comes back under the limit L; a refusal has no halvings
pub record Counted (L : ℕ) (x : Result Answer ℕ) : Type 0 where
  pub at_most : (a : Answer) → x ≡ Ok a → halvings_of a ≤ L
  pub limit_itself : (a : Answer) → x ≡ Ok a → reached a ≡ true → halvings_of a ≡ L

refused_counted : (L n : ℕ) → Counted L (Err n)
refused_counted L n = record { at_most = λ a e. cc; limit_itself = λ a e r. cc }

pub solved_counted : (σ : Settings) (p : Problem) (bounds : List Interval) (L : ℕ) → Counted L (Ok (solve σ p bounds L))
solved_counted σ p bounds L =
    let c = solve_counts σ p bounds L in
    record {
      at_most = λ a e. let z : solve σ p bounds L ≡ a = cc in omega (arith, c.at_most, ap halvings_of z);
      limit_itself = λ a e r. let z : solve σ p bounds L ≡ a = cc in sym (ap halvings_of z) ∙ c.limit_itself (ap reached z ∙ r);
    }

or_counted : (L r : ℕ) {x : Result Answer ℕ} → Counted L x → Counted L (refused_or r Err x)
or_counted L zero h = h
or_counted L (suc r) h = refused_counted L (suc r)

pub answered_counted : (L : ℕ) (x : Read) (later : Constraint → ℕ) (answer : Constraint → List Interval → Answer) → ((c : Constraint) (bs : List Interval) → Counted L (Ok (answer c bs))) → Counted L (answered_by x later answer)
answered_counted L (Refused r) later answer h = refused_counted L r
answered_counted L (Accepted c bs) later answer h = or_counted L (later c) (h c bs)

-- ---- two limits
-- x is the answer under a limit, and not "limit"; y is that under the limit M
pub record Settled (x : Answer) (M : ℕ) (y : Answer) : Type 0 where
  -- the same stop word, assignment, exactness, failure residual and count, exactly when M is at least the halvings
  pub comes_back : halvings_of x ≤ M → y ≡ x
  pub only_then : y ≡ x → halvings_of x ≤ M
  pub below : M < halvings_of x → (reached y ≡ true) × (halvings_of y ≡ M)

-- ---- an assignment
-- it lies in the starting box of the problem and passes the check of its constraint
pub record Passes (σ : Settings) (p : Problem) (bs : List Interval) (m : List Float) : Type 0 where
  pub inside : InBox (starting_box p bs) m
  pub passes : check σ m p.constraint ≡ true

module _ (σ : Settings) (p : Problem) (bs : List Interval) (L : ℕ) {x : Answer} (answer : x ≡ solve σ p bs L) where
  pub settled : (M : ℕ) {y : Answer} → y ≡ solve σ p bs M → 1 ≤ L → 1 ≤ M → reached x ≡ false → Settled x M y
  settled M {y} answer-M l k n = record { comes_back = λ h. again h; only_then = λ e. by (leb (halvings_of x) M) refl e; below = λ h. early h }
    where
      counted : halvings_of x ≡ halvings_of (solve σ p bs L)
      counted = ap halvings_of answer

      other : reached (solve σ p bs L) ≡ false
      other = sym (ap reached answer) ∙ n

      again : halvings_of x ≤ M → y ≡ x
      again h = answer-M ∙ (raising_the_limit σ p bs L l other).same M k (omega (arith, counted)) ∙ sym answer

      early : M < halvings_of x → (reached y ≡ true) × (halvings_of y ≡ M)
      early h = let b = (raising_the_limit σ p bs L l other).early M k (omega (arith, counted)) in (ap reached answer-M ∙ b.0, ap halvings_of answer-M ∙ b.1)

      by : (t : Bool) → leb (halvings_of x) M ≡ t → y ≡ x → halvings_of x ≤ M
      by true q e = leb-true _ _ q
      by false q e = absurd (false≢true (sym n ∙ ap reached (sym e) ∙ (early (leb-false _ _ q)).0))

  pub passing : Fair p bs → (m : List Float) (exact : Bool) (h : ℕ) → x ≡ assignment m exact h → Passes σ p bs m
  passing f m exact h e = let r = assignment_kept σ p bs f L m exact h (sym answer ∙ e) in record { inside = r.0; passes = r.1 }
