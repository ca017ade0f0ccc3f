-- The count of halvings is at most the limit, and raising the limit changes no answer but "limit". Assumes nothing.
use Rattle.std.specs.Prelude.{◌≡◌, List}
use Rattle.std.proofs.Math.Path.{refl}
use Rattle.std.proofs.Common.{sym, ◌∙◌, subst, arith}
use Prim.Native.Nat.{ℕ, zero, suc, ◌+◌, ◌≤◌, ◌<◌}
use Rattle.std.proofs.Math.Bool.{true, false}
use Rattle.std.proofs.lemmas.Bool.{false≢true}
use Rattle.settings.specs.declared.Settings.{Settings}
use Rattle.interval.specs.declared.Interval.{Interval}
use Rattle.nra.specs.Solver.{Problem, Answer, assignment, failed, halvings_of, reached, State, Progress, Stopped, Going, begin, halve, steps, finish, run, untried, solve}
use Rattle.nra.specs.RunLaws.{Made, stopped, going, begin_counted, halve_counted, run_stopped}

module _ (σ : Settings) (p : Problem) (bounds : List Interval) where
  -- ---- the count of halvings, under the limit L
  pub record Counts (L : ℕ) (a : Answer) : Type 0 where
    pub at_most : halvings_of a ≤ L
    pub limit_itself : reached a ≡ true → halvings_of a ≡ L

  run_counts : (n : ℕ) {L h : ℕ} {g : Progress} → L ≡ h + n → Made h g → Counts L (run σ p n g)
  unfolding run steps finish
  run_counts zero q (stopped e l) = record { at_most = omega (arith, e); limit_itself = λ r. absurd (false≢true (sym l ∙ r)) }
  run_counts zero q (going e) = record { at_most = omega (arith, e); limit_itself = λ r. omega (arith, e) }
  run_counts (suc n) q (stopped e l) = record { at_most = omega (arith, e); limit_itself = λ r. absurd (false≢true (sym l ∙ r)) }
  run_counts (suc n) q (going {s} e) = run_counts n (omega arith) (subst (λ (x : ℕ). Made (suc x) (halve σ p s)) e (halve_counted σ p s))

  untried_counts : (v L : ℕ) (a : Answer) → Counts L a → Counts L (untried v a)
  unfolding untried
  untried_counts zero L a c = c
  untried_counts (suc v) L (assignment m exact h) c = record { at_most = c.at_most; limit_itself = c.limit_itself }
  untried_counts (suc v) L (failed w r h) c = c

  pub solve_counts : (L : ℕ) → Counts L (solve σ p bounds L)
  unfolding solve
  solve_counts zero = untried_counts _ 0 _ (run_counts 0 (omega arith) (begin_counted σ p bounds))
  solve_counts (suc L) = run_counts (suc L) (omega arith) (begin_counted σ p bounds)

  -- ---- two limits
  -- Of a run that ends before its limit n, h halvings having been made: how the other limits m compare.
  record Ends (h n : ℕ) (g : Progress) : Type 0 where
    least : h ≤ halvings_of (run σ p n g)
    same : (m : ℕ) → halvings_of (run σ p n g) ≤ h + m → run σ p m g ≡ run σ p n g
    early : (m : ℕ) → h + m < halvings_of (run σ p n g) → (reached (run σ p m g) ≡ true) × (halvings_of (run σ p m g) ≡ h + m)

  ends_stopped : (h n : ℕ) (a : Answer) → halvings_of a ≡ h → Ends h n (Stopped a)
  ends_stopped h n a e = record {
    least = rw (run_stopped σ p n a, e) (omega arith);
    same = λ m k. run_stopped σ p m a ∙ sym (run_stopped σ p n a);
    early = λ m k. absurd (omega (arith, rw (run_stopped σ p n a, e) at k));
  }

  ends_going : (n h : ℕ) (s : State) → s.halvings ≡ h → Ends (suc h) n (halve σ p s) → Ends h (suc n) (Going s)
  unfolding run steps finish
  ends_going n h s c e = record {
    least = omega (arith, e.least);
    same = λ m k. same' m k;
    early = λ m k. early' m k;
  }
    where
      same' : (m : ℕ) → halvings_of (run σ p (suc n) (Going s)) ≤ h + m → run σ p m (Going s) ≡ run σ p (suc n) (Going s)
      same' zero k = absurd (omega (arith, e.least))
      same' (suc m) k = e.same m (omega arith)

      early' : (m : ℕ) → h + m < halvings_of (run σ p (suc n) (Going s)) → (reached (run σ p m (Going s)) ≡ true) × (halvings_of (run σ p m (Going s)) ≡ h + m)
      early' zero k = (refl, omega arith)
      early' (suc m) k = let r = e.early m (omega arith) in (r.0, omega (arith, r.1))

  ends : (n : ℕ) {h : ℕ} {g : Progress} → Made h g → reached (run σ p n g) ≡ false → Ends h n g
  unfolding run steps finish
  ends zero {h} (stopped {a} e l) r = ends_stopped h zero a e
  ends zero (going e) r = absurd (false≢true (sym r))
  ends (suc n) {h} (stopped {a} e l) r = ends_stopped h (suc n) a e
  ends (suc n) {h} (going {s} e) r = ends_going n h s e (ends n (subst (λ (x : ℕ). Made (suc x) (halve σ p s)) e (halve_counted σ p s)) r)

  -- The answer under a limit L of at least 1, where it is not "limit" and has h halvings: under any other limit of at least h the same answer
  -- comes, and under one below h "limit" comes, with that many halvings.
  pub record Raised (L : ℕ) : Type 0 where
    pub same : (M : ℕ) → 1 ≤ M → halvings_of (solve σ p bounds L) ≤ M → solve σ p bounds M ≡ solve σ p bounds L
    pub early : (M : ℕ) → 1 ≤ M → M < halvings_of (solve σ p bounds L) → (reached (solve σ p bounds M) ≡ true) × (halvings_of (solve σ p bounds M) ≡ M)

  pub raising_the_limit : (L : ℕ) → 1 ≤ L → reached (solve σ p bounds L) ≡ false → Raised L
  unfolding solve
  raising_the_limit zero l r = absurd (omega arith)
  raising_the_limit (suc L) l r = record {
    same = λ M k q. same' M k q;
    early = λ M k q. early' M k q;
  }
    where
      e : Ends 0 (suc L) (begin σ p bounds)
      e = ends (suc L) (begin_counted σ p bounds) r

      same' : (M : ℕ) → 1 ≤ M → halvings_of (solve σ p bounds (suc L)) ≤ M → solve σ p bounds M ≡ solve σ p bounds (suc L)
      same' zero k q = absurd (omega arith)
      same' (suc M) k q = e.same (suc M) (omega arith)

      early' : (M : ℕ) → 1 ≤ M → M < halvings_of (solve σ p bounds (suc L)) → (reached (solve σ p bounds M) ≡ true) × (halvings_of (solve σ p bounds M) ≡ M)
      early' zero k q = absurd (omega arith)
      early' (suc M) k q = let r' = e.early (suc M) (omega arith) in (r'.0, omega (arith, r'.1))
