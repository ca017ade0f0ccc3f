-- What an exported call leaves in the lent places, from what the function behind it answers. Assumes nothing.
use Rattle.std.specs.Prelude.{◌≡◌, refl, ℕ, ◌+◌, ◌≤◌, ◌<◌, Bool, true, false, List, leb, Float, length, take, Result, Ok, Err}
use Rattle.std.proofs.Common.{sym, ap, ◌∙◌, subst, arith, leb-true, leb-false}
use Rattle.std.proofs.Math.Seq.{paste, take-paste, take-length}
use Rattle.record.specs.Leaving.{Leaving}
use Rattle.interval.specs.declared.Interval.{Interval}
use Rattle.narrow.specs.declared.PropResult.{PropResult}
use Rattle.nra.specs.declared.answer.Stop.{Stop}
use Rattle.nra.specs.Solver.{Answer, assignment, failed, halvings_of, reached}
use Rattle.nra.specs.Answers.{assignment_word, word_number}
use Rattle.nra.specs.Fits.{point_of}
use Rattle.eml.specs.Answers.{number_of, writing, propagated}
use Rattle.decide.specs.Deciding.{QuantResult}
use Rattle.eml.specs.Places.{Solution, Decision, solution_of, solved, decided}
use Rattle.promises.specs.Received.{Settled, Counted}
use Rattle.promises.specs.Kept.{Kept, Keeps}

-- ---- what is promised of the places
-- document 01's number of the stop word "limit", as `assignment_word` is that of "assignment"
abbrev pub limit_word : ℕ
limit_word = word_number Stop.Limit

-- the values of the point in them
abbrev pub values_in : Solution → List Float
values_in x = take x.count x.point

-- the same stop word, exactness, residual, count of halvings, and point
pub record Same (x y : Solution) : Type 0 where
  pub stop : x.stop ≡ y.stop
  pub exact : x.exact ≡ y.exact
  pub residual : x.residual ≡ y.residual
  pub halvings : x.halvings ≡ y.halvings
  pub count : x.count ≡ y.count
  pub values : values_in x ≡ values_in y

-- x is left under a limit, and not with "limit"; y is left under the limit M
pub record Settles (x : Solution) (M : ℕ) (y : Solution) : Type 0 where
  pub comes_back : x.halvings ≤ M → Same y x
  pub only_then : Same y x → x.halvings ≤ M
  pub below : M < x.halvings → (y.stop ≡ limit_word) × (y.halvings ≡ M)

-- ---- a call that writes what it answers
pub returned : (x : Result Answer ℕ) (old : Solution) → (solved x old).answer ≡ number_of x
returned (Ok a) old = refl
returned (Err r) old = refl

pub unwritten : (x : Result Answer ℕ) (old : Solution) → ((solved x old).answer ≡ 0 → ⊥) → (solved x old).places ≡ old
unwritten (Ok a) old n = absurd (n refl)
unwritten (Err r) old n = refl

pub undecided : (x : Result QuantResult ℕ) (old : Decision) → ((decided x old).answer ≡ 0 → ⊥) → (decided x old).places ≡ old
undecided (Ok q) old n = absurd (n refl)
undecided (Err r) old n = refl

module _ {x : Result Answer ℕ} {a : Answer} (is : x ≡ Ok a) (old : Solution) where
  pub left_is : (solved x old).places ≡ solution_of a old.point
  left_is = ap (λ (r : Result Answer ℕ). (solved r old).places) is

-- ---- what an answer leaves
pub limit_left : (a : Answer) (places : List Float) → reached a ≡ true → (solution_of a places).stop ≡ limit_word
limit_left (assignment m exact h) places e = cc
limit_left (failed Stop.Conflict r h) places e = cc
limit_left (failed Stop.Tolerance r h) places e = cc
limit_left (failed Stop.Limit r h) places e = refl
limit_left (failed Stop.Unsatisfied r h) places e = cc

pub not_limit_left : (a : Answer) (places : List Float) → ((solution_of a places).stop ≡ limit_word → ⊥) → reached a ≡ false
not_limit_left (assignment m exact h) places n = refl
not_limit_left (failed Stop.Conflict r h) places n = refl
not_limit_left (failed Stop.Tolerance r h) places n = refl
not_limit_left (failed Stop.Limit r h) places n = absurd (n refl)
not_limit_left (failed Stop.Unsatisfied r h) places n = refl

pub limit_reached : (a : Answer) (places : List Float) → (solution_of a places).stop ≡ limit_word → reached a ≡ true
limit_reached (assignment m exact h) places e = absurd (omega arith)
limit_reached (failed Stop.Conflict r h) places e = absurd (omega arith)
limit_reached (failed Stop.Tolerance r h) places e = absurd (omega arith)
limit_reached (failed Stop.Limit r h) places e = refl
limit_reached (failed Stop.Unsatisfied r h) places e = absurd (omega arith)

pub halvings_left : (a : Answer) (places : List Float) → (solution_of a places).halvings ≡ halvings_of a
halvings_left (assignment m exact h) places = refl
halvings_left (failed w r h) places = refl

pub values_left : (a : Answer) (places : List Float) → values_in (solution_of a places) ≡ point_of a
values_left (assignment m exact h) places =
    let z : length m ≡ 0 + length m = omega arith in
    ap (λ (k : ℕ). take k (paste places 0 m (length m))) z ∙ take-paste places 0 m (length m) (omega arith) (omega arith) ∙ take-length m
values_left (failed w r h) places = refl

-- an assignment is left with its values
pub record Assigned (a : Answer) (x : Solution) : Type 0 where
  pub exact : Bool
  pub halvings : ℕ
  pub is : a ≡ assignment (values_in x) exact halvings

pub assignment_left : (a : Answer) (places : List Float) → (solution_of a places).stop ≡ assignment_word → Assigned a (solution_of a places)
assignment_left (assignment m exact h) places e =
    record { exact = exact; halvings = h; is = ap (λ (l : List Float). assignment l exact h) (sym (values_left (assignment m exact h) places)) }
assignment_left (failed Stop.Conflict r h) places e = absurd (omega arith)
assignment_left (failed Stop.Tolerance r h) places e = absurd (omega arith)
assignment_left (failed Stop.Limit r h) places e = absurd (omega arith)
assignment_left (failed Stop.Unsatisfied r h) places e = absurd (omega arith)

pub counted_left : (L : ℕ) (a : Answer) (places : List Float) → Counted L (Ok a) → ((solution_of a places).halvings ≤ L) × ((solution_of a places).stop ≡ limit_word → (solution_of a places).halvings ≡ L)
counted_left L a places c = (omega (arith, halvings_left a places, c.at_most a refl), λ e. halvings_left a places ∙ c.limit_itself a refl (limit_reached a places e))

-- two answers alike are left alike, whatever the places held past the values
same_left : (a : Answer) (p q : List Float) → Same (solution_of a q) (solution_of a p)
same_left a p q = by a
  where
    by : (a : Answer) → Same (solution_of a q) (solution_of a p)
    by (assignment m exact h) = record { stop = refl; exact = refl; residual = refl; halvings = refl; count = refl; values = values_left (assignment m exact h) q ∙ sym (values_left (assignment m exact h) p) }
    by (failed w r h) = record { stop = refl; exact = refl; residual = refl; halvings = refl; count = refl; values = refl }

module _ (a b : Answer) (p q : List Float) where
  pub settles : (M : ℕ) → ((solution_of a p).stop ≡ limit_word → ⊥) → Settled a M b → Settles (solution_of a p) M (solution_of b q)
  settles M n s = record { comes_back = λ h. again (s.comes_back (omega (arith, counted))); only_then = λ e. by (leb (halvings_of a) M) refl e; below = λ h. early (omega (arith, counted)) }
    where
      counted : (solution_of a p).halvings ≡ halvings_of a
      counted = halvings_left a p

      again : b ≡ a → Same (solution_of b q) (solution_of a p)
      again e = subst (λ (x : Answer). Same (solution_of x q) (solution_of a p)) (sym e) (same_left a p q)

      early : M < halvings_of a → ((solution_of b q).stop ≡ limit_word) × ((solution_of b q).halvings ≡ M)
      early h = let r = s.below h in (limit_left b q r.0, halvings_left b q ∙ r.1)

      by : (k : Bool) → leb (halvings_of a) M ≡ k → Same (solution_of b q) (solution_of a p) → (solution_of a p).halvings ≤ M
      by true q e = omega (arith, counted, leb-true (halvings_of a) M q)
      by false q e = absurd (n (sym e.stop ∙ (early (leb-false (halvings_of a) M q)).0))

-- ---- and what a call leaves that answers so
module _ {x : Result Answer ℕ} {a : Answer} (is : x ≡ Ok a) (p : Solution) where
  pub counts_left : (L : ℕ) → Counted L x → ((solved x p).places.halvings ≤ L) × ((solved x p).places.stop ≡ limit_word → (solved x p).places.halvings ≡ L)
  counts_left L c =
      subst (λ (s : Solution). (s.halvings ≤ L) × (s.stop ≡ limit_word → s.halvings ≡ L)) (sym (left_is is p)) (counted_left L a p.point (subst (Counted L) is c))

  pub passes_left : (P : List Float → Type 0) → ((m : List Float) (exact : Bool) (h : ℕ) → x ≡ Ok (assignment m exact h) → P m) → (solved x p).places.stop ≡ assignment_word → P (values_in (solved x p).places)
  passes_left P f e =
      let r = assignment_left a p.point (sym (ap (λ (s : Solution). s.stop) (left_is is p)) ∙ e) in
      subst (λ (s : Solution). P (values_in s)) (sym (left_is is p)) (f (values_in (solution_of a p.point)) r.exact r.halvings (is ∙ ap Ok r.is))

  pub both_left : {y : Result Answer ℕ} {b : Answer} → y ≡ Ok b → (q : Solution) (M : ℕ) → ((solved x p).places.stop ≡ limit_word → ⊥) → (reached a ≡ false → Settled a M b) → Settles (solved x p).places M (solved y q).places
  both_left {y} {b} other q M n s =
      let stops = λ (e : (solution_of a p.point).stop ≡ limit_word). n (ap (λ (s : Solution). s.stop) (left_is is p) ∙ e) in
      subst (λ (r : Solution). Settles r M (solved y q).places) (sym (left_is is p))
      (subst (λ (r : Solution). Settles (solution_of a p.point) M r) (sym (left_is other q)) (settles a b p.point q.point M stops (s (not_limit_left a p.point stops))))

-- ---- a call that narrows: the number that it returns
number_is : (p : Result PropResult ℕ) (old : ℕ) → number_of p ≡ (propagated p old).answer
number_is (Err r) old = refl
number_is (Ok w) old = refl

module _ {B : Type 0} (boxes : B → List Interval) (before : B) (x : Leaving (Result PropResult ℕ) B) (old : ℕ) where
  pub left_keeps : Keeps boxes before x → Kept boxes before (writing propagated x old).answer (writing propagated x old).places.1
  left_keeps k = subst (λ (r : ℕ). Kept boxes before r x.places) (number_is x.answer old) k
