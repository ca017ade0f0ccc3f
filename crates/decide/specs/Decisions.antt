-- What a decision tells: a witness passes the check, a counterexample fails it, True is a conflict of the negation, no more, and a point has
-- at most as many values as there are variables. Of the definitions first, then of what the calls return. Assumes nothing.
use Rattle.std.proofs.Math.Path.{◌≡◌, refl, ap, subst}
use Rattle.std.proofs.Common.{sym, ◌∙◌, leb-true, length-set}
use Prim.Native.Nat.{ℕ, zero, suc, ◌/◌, ◌≤◌}
use Rattle.std.specs.Prelude.{Bool, ◌&&◌, cond, leb, replicate, Float, Option, Some, None, Result, Ok, IfOk}
use Rattle.std.specs.List.{find}
use Rattle.std.proofs.Math.Bool.{true, false, not}
use mathlib.Core.List.{List, [], ◌∷◌}
use native.Mathlib.Omega.{arith}
use Rattle.std.proofs.lemmas.Bool.{not-true}
use Rattle.std.proofs.Math.ListN.{length}
use Rattle.std.proofs.lemmas.List.{length-replicate}
use Rattle.std.specs.Float.{binary64}
use Rattle.number.specs.Notation.{whole}
use Rattle.number.specs.Sound.{sound}
use Rattle.record.specs.Refusal.{◌unless◌}
use Rattle.record.specs.RefusalLaws.{both, none_both, none_unless}
use Rattle.settings.specs.Settings.{settings_refusal}
use Rattle.settings.specs.declared.Settings.{Settings}
use Rattle.interval.specs.Interval.{◌‥◌}
use Rattle.constraint.specs.Constraint.{Constraint, Not}
use Rattle.normal.specs.NormalForm.{to_nnf}
use Rattle.file.specs.File.{Read, Refused, Accepted, left, given_refusal, read_given}
use Rattle.file.specs.FileLaws.{given_refused, given_is}
use Rattle.point.specs.Check.{check}
use Rattle.narrow.specs.declared.PropResult.{PropResult}
use Rattle.narrow.specs.declared.PropResult.TheVariants.{Changed, Stable, Conflict}
use Rattle.narrow.specs.Narrowing.{is_conflict, propagate}
use Rattle.decide.specs.Deciding.{QuantResult, True, TrueWithWitness, FalseWithCounterexample}
use Rattle.decide.specs.Deciding.{point_at, forall_samples, exists_samples, boxes_at, refutes, forall_by, decide_forall, exists_by, decide_exists, point_of, range_refusal, later_refusal, decided_by, decide_forall_given, decide_exists_given}

pub point_length : (n v : ℕ) (x : Float) → length (point_at n v x) ≡ n
unfolding point_at
point_length n v x = length-set (replicate n (whole 0)) v x ∙ length-replicate n (whole 0)

-- the sample that is found meets the test
find_meets : (test : Float → Bool) (xs : List Float) (x : Float) → find test xs ≡ Some x → test x ≡ true
find_meets test [] x e = absurd (let z : ◌≡◌ {A = ℕ} 0 1 = cc in omega arith)
find_meets test (y ∷ ys) x e = by (test y) refl (λ q. find_meets test ys x q) e
  where
    by : (t : Bool) → test y ≡ t → (find test ys ≡ Some x → test x ≡ true) → cond t (Some y) (find test ys) ≡ Some x → test x ≡ true
    by true q later e = let z : y ≡ x = cc in subst (λ (u : Float). test u ≡ true) z q
    by false q later e = later e

module _ (σ : Settings) (v : ℕ) (lo hi : Float) (c : Constraint) (n : ℕ) where
  pub witness_passes : (p : List Float) → decide_exists σ v lo hi c n ≡ TrueWithWitness p → check σ p c ≡ true
  unfolding decide_exists exists_by
  witness_passes p e = by (find (λ x. check σ (point_at n v x) c) (exists_samples lo hi)) refl e
    where
      by : (f : Option Float) → find (λ x. check σ (point_at n v x) c) (exists_samples lo hi) ≡ f → exists_by n v f ≡ TrueWithWitness p → check σ p c ≡ true
      by None q e = absurd (let z : ◌≡◌ {A = ℕ} 0 1 = cc in omega arith)
      by (Some x) q e =
          let z : point_at n v x ≡ p = cc in
          subst (λ (u : List Float). check σ u c ≡ true) z (find_meets (λ x. check σ (point_at n v x) c) (exists_samples lo hi) x q)

  abbrev negation : PropResult
  negation = (propagate σ (to_nnf (Not c)) (boxes_at n v (lo ‥ hi))).answer

  abbrev failing : Option Float
  failing = find (λ x. not (check σ (point_at n v x) c)) (forall_samples lo hi)

  pub counterexample_fails : (p : List Float) → decide_forall σ v lo hi c n ≡ FalseWithCounterexample p → check σ p c ≡ false
  unfolding decide_forall forall_by
  counterexample_fails p e = by (refutes σ c (boxes_at n v (lo ‥ hi))) failing refl e
    where
      by : (t : Bool) (f : Option Float) → failing ≡ f → forall_by n v t f ≡ FalseWithCounterexample p → check σ p c ≡ false
      by true f q e = absurd (let z : ◌≡◌ {A = ℕ} 0 1 = cc in omega arith)
      by false None q e = absurd (let z : ◌≡◌ {A = ℕ} 0 1 = cc in omega arith)
      by false (Some x) q e =
          let z : point_at n v x ≡ p = cc in
          subst (λ (u : List Float). check σ u c ≡ false) z (not-true _ (find_meets (λ x. not (check σ (point_at n v x) c)) (forall_samples lo hi) x q))

  pub true_exactly : (decide_forall σ v lo hi c n ≡ True → negation ≡ Conflict) × (negation ≡ Conflict → decide_forall σ v lo hi c n ≡ True)
  unfolding decide_forall forall_by refutes
  true_exactly = (only negation failing, λ q. ap (λ (r : PropResult). forall_by n v (is_conflict r) failing) q)
    where
      only : (r : PropResult) (f : Option Float) → forall_by n v (is_conflict r) f ≡ True → r ≡ Conflict
      only Conflict f e = refl
      only Changed None e = absurd (let z : ◌≡◌ {A = ℕ} 0 1 = cc in omega arith)
      only Changed (Some x) e = absurd (let z : ◌≡◌ {A = ℕ} 0 1 = cc in omega arith)
      only Stable None e = absurd (let z : ◌≡◌ {A = ℕ} 0 1 = cc in omega arith)
      only Stable (Some x) e = absurd (let z : ◌≡◌ {A = ℕ} 0 1 = cc in omega arith)

  -- the point has as many values as there are variables
  pub forall_values : length (point_of (decide_forall σ v lo hi c n)) ≤ n
  unfolding decide_forall forall_by
  forall_values = by (refutes σ c (boxes_at n v (lo ‥ hi))) failing
    where
      by : (t : Bool) (f : Option Float) → length (point_of (forall_by n v t f)) ≤ n
      by true f = omega arith
      by false None = omega arith
      by false (Some x) = omega (arith, point_length n v x)

  pub exists_values : length (point_of (decide_exists σ v lo hi c n)) ≤ n
  unfolding decide_exists exists_by
  exists_values = by (find (λ x. check σ (point_at n v x) c) (exists_samples lo hi))
    where
      by : (f : Option Float) → length (point_of (exists_by n v f)) ≤ n
      by None = omega arith
      by (Some x) = omega (arith, point_length n v x)

-- ---- the calls
pub later_few : (σ : Settings) (lo hi : Float) (n room : ℕ) → later_refusal σ lo hi n room ≡ 0 → (n ≤ 16) × (n ≤ room)
unfolding later_refusal range_refusal
later_few σ lo hi n room e =
    let w = none_both (9 unless leb n 16 && sound binary64 lo hi) (10 unless leb n room) (none_both (settings_refusal σ) _ e).1 in
    (leb-true n 16 (both (leb n 16) (sound binary64 lo hi) (none_unless 8 (leb n 16 && sound binary64 lo hi) w.0)).0, leb-true n room (none_unless 9 (leb n room) w.1))

-- what a call answers has as many values as there is room for
abbrev pub Fits : ℕ → Result QuantResult ℕ → Type 0
Fits room x = IfOk x (λ q. (length (point_of q) ≤ 16) × (length (point_of q) ≤ room))

module _ (σ : Settings) (lo hi : Float) (n room : ℕ) (decide : Constraint → QuantResult) (few : (c : Constraint) → length (point_of (decide c)) ≤ n) where
  given_values : (x : Read) (r : ℕ) → later_refusal σ lo hi n room ≡ r → Fits room (decided_by x r decide)
  given_values (Refused q) r e = tt
  given_values (Accepted c bounds) zero e = let w = later_few σ lo hi n room e in (omega (arith, few c, w.0), omega (arith, few c, w.1))
  given_values (Accepted c bounds) (suc r) e = tt

module _ (σ : Settings) (nodes b : List ℕ) (v : ℕ) (lo hi : Float) (n room : ℕ) where
  pub forall_given_values : Fits room (decide_forall_given σ nodes b v lo hi n room)
  unfolding decide_forall_given
  forall_given_values = given_values σ lo hi n room (λ c. decide_forall σ v lo hi c n) (λ c. forall_values σ v lo hi c n) (read_given nodes b) (later_refusal σ lo hi n room) refl

  pub exists_given_values : Fits room (decide_exists_given σ nodes b v lo hi n room)
  unfolding decide_exists_given
  exists_given_values = given_values σ lo hi n room (λ c. decide_exists σ v lo hi c n) (λ c. exists_values σ v lo hi c n) (read_given nodes b) (later_refusal σ lo hi n room) refl

-- ---- what a caller receives
module _ (nodes b : List ℕ) where
  abbrev given : Constraint
  given = left nodes b (length b / 24)

  module _ (later : ℕ) (decide : Constraint → QuantResult) where
    received : (q : QuantResult) → decided_by (read_given nodes b) later decide ≡ Ok q → decide given ≡ q
    received q e = by (given_refusal nodes b) later refl refl
      where
        by : (g r : ℕ) → given_refusal nodes b ≡ g → later ≡ r → decide given ≡ q
        by zero zero p w = let z = rw (given_is nodes b p, w) at e in cc
        by zero (suc r) p w = let z = rw (given_is nodes b p, w) at e in absurd (let y : ◌≡◌ {A = ℕ} 0 1 = cc in omega arith)
        by (suc g) r p w = let z = rw (given_refused nodes b (suc g) (sym p) (λ z. omega arith)) at e in absurd (let y : ◌≡◌ {A = ℕ} 0 1 = cc in omega arith)

  module _ (σ : Settings) (v : ℕ) (lo hi : Float) (n room : ℕ) where
    pub witness_received : (p : List Float) → decide_exists_given σ nodes b v lo hi n room ≡ Ok (TrueWithWitness p) → check σ p given ≡ true
    unfolding decide_exists_given
    witness_received p e = witness_passes σ v lo hi given n p (received _ (λ c. decide_exists σ v lo hi c n) _ e)

    pub counterexample_received : (p : List Float) → decide_forall_given σ nodes b v lo hi n room ≡ Ok (FalseWithCounterexample p) → check σ p given ≡ false
    unfolding decide_forall_given
    counterexample_received p e = counterexample_fails σ v lo hi given n p (received _ (λ c. decide_forall σ v lo hi c n) _ e)

    pub true_received : decide_forall_given σ nodes b v lo hi n room ≡ Ok True → (propagate σ (to_nnf (Not given)) (boxes_at n v (lo ‥ hi))).answer ≡ Conflict
    unfolding decide_forall_given
    true_received e = (true_exactly σ v lo hi given n).0 (received _ (λ c. decide_forall σ v lo hi c n) _ e)
