-- Laws of the first refusal, for a loop that meets the records one by one. Assumes nothing.
use Prim.Native.Nat.{ℕ, zero, suc, ◌+◌, ◌<◌}
use Rattle.std.specs.Prelude.{◌≡◌, Bool, true, false, ◌&&◌}
use Rattle.std.proofs.Math.Path.{refl, ap}
use Rattle.std.proofs.Common.{sym, ◌∙◌, true≢false, le_of_suc-le-suc, not-suc-le-zero, eq-or-lt_of_le, add-one, arith}
use Rattle.std.proofs.Math.Logic.{⊎_elim}
use Rattle.record.specs.Refusal.{◌or_else◌, ◌unless◌, refused_or, first}
use Rattle.record.specs.Refused.{number_of}
use Rattle.record.specs.declared.refusal.Refusal.{Refusal}
use Rattle.std.specs.Prelude.{Result, Err}

-- ---- two tests
pub both : (a b : Bool) → (a && b) ≡ true → (a ≡ true) × (b ≡ true)
both true b e = (refl, e)
both false b e = absurd (true≢false (sym e))

-- ---- one refusal or else another
pub none_both : (a r : ℕ) → (a or_else r) ≡ 0 → (a ≡ 0) × (r ≡ 0)
none_both zero r e = (refl, e)
none_both (suc a) r e = absurd (omega arith)

pub or_else_refused : (a r : ℕ) → (a ≡ 0 → ⊥) → a ≡ (a or_else r)
or_else_refused zero r h = absurd (h refl)
or_else_refused (suc a) r h = refl

pub or_else_none : (a r : ℕ) → a ≡ 0 → r ≡ (a or_else r)
or_else_none a r e = sym (ap (λ (x : ℕ). x or_else r) e)

pub none_unless : (r : ℕ) (t : Bool) → (suc r unless t) ≡ 0 → t ≡ true
none_unless r true e = refl
none_unless r false e = absurd (omega arith)

pub refused_or_refuses : {A : Type 0} (r : ℕ) (refused : ℕ → A) (answer : A) → (r ≡ 0 → ⊥) → refused_or r refused answer ≡ refused r
refused_or_refuses zero refused answer h = absurd (h refl)
refused_or_refuses (suc r) refused answer h = refl

-- what a call yields whose test says r where its definition says s
module _ {A : Type 0} (refused : ℕ → A) (answer : A) {r s : ℕ} (e : r ≡ s) where
  pub is_refused : (r ≡ 0 → ⊥) → refused r ≡ refused_or s refused answer
  is_refused h = sym (refused_or_refuses r refused answer h) ∙ ap (λ (n : ℕ). refused_or n refused answer) e

  pub is_answered : r ≡ 0 → {x : A} → x ≡ answer → x ≡ refused_or s refused answer
  is_answered z f = f ∙ ap (λ (n : ℕ). refused_or n refused answer) (sym z ∙ e)

-- what no refusal yields was answered
pub not_refused : {A : Type 0} (r : ℕ) (refused : ℕ → A) (answer : A) {x : A} → ((n : ℕ) → refused n ≡ x → ⊥) → refused_or r refused answer ≡ x → (r ≡ 0) × (answer ≡ x)
not_refused zero refused answer h e = (refl, e)
not_refused (suc r) refused answer h e = absurd (h (suc r) e)

-- ---- n records
module _ (f : ℕ → ℕ) where
  pub none_more : (k : ℕ) → first f k ≡ 0 → f k ≡ 0 → first f (k + 1) ≡ 0
  unfolding first
  none_more k e z = ap (first f) (add-one k) ∙ ap (λ (r : ℕ). r or_else f k) e ∙ z

  pub none_of_each : (n : ℕ) → first f n ≡ 0 → (k : ℕ) → k < n → f k ≡ 0
  unfolding first
  none_of_each zero e k l = absurd (not-suc-le-zero l)
  none_of_each (suc n) e k l =
      let w = none_both (first f n) (f n) e in
      ⊎_elim (λ q. ap f q ∙ w.1) (λ q. none_of_each n w.0 k q) (eq-or-lt_of_le (le_of_suc-le-suc l))

  -- none before record k, and a refusal there
  module _ (r k : ℕ) (none : first f k ≡ 0) (here : f k ≡ suc r) where
    pub first_here : (n : ℕ) → k < n → first f n ≡ suc r
    unfolding first
    first_here zero l = absurd (not-suc-le-zero l)
    first_here (suc n) l =
        ⊎_elim
        (λ q. ap (λ (j : ℕ). first f j or_else f j) (sym q) ∙ ap (λ (x : ℕ). x or_else f k) none ∙ here)
        (λ q. ap (λ (x : ℕ). x or_else f n) (first_here n q))
        (eq-or-lt_of_le (le_of_suc-le-suc l))

-- ---- what a call answers
pub never_none : (r : Refusal) → number_of r ≡ 0 → ⊥
never_none Refusal.Header e = absurd (omega arith)
never_none Refusal.Counts e = absurd (omega arith)
never_none Refusal.Node e = absurd (omega arith)
never_none Refusal.Size e = absurd (omega arith)
never_none Refusal.Constraint e = absurd (omega arith)
never_none Refusal.Range e = absurd (omega arith)
never_none Refusal.Shape e = absurd (omega arith)
never_none Refusal.Limit e = absurd (omega arith)
never_none Refusal.Boxes e = absurd (omega arith)
never_none Refusal.Room e = absurd (omega arith)
never_none Refusal.Parameter e = absurd (omega arith)

-- a test that refuses: so does what begins with it, with the same number
module _ (r : Refusal) {a : ℕ} (e : number_of r ≡ a) where
  pub refuses_first : (b : ℕ) → number_of r ≡ (a or_else b)
  refuses_first b = e ∙ or_else_refused a b (λ z. never_none r (e ∙ z))

  pub refuses : {A : Type 0} (answer : Result A ℕ) → Err (number_of r) ≡ refused_or a Err answer
  refuses answer = ap Err e ∙ sym (refused_or_refuses a Err answer (λ z. never_none r (e ∙ z)))
