-- How a formula hangs together with those that it takes, by their record numbers. Assumes nothing.
use Prim.Native.Nat.{ℕ, zero, suc, ◌+◌, ◌-◌, ◌≤◌, ◌<◌}
use Rattle.std.specs.Prelude.{◌≡◌}
use Rattle.std.proofs.Math.Path.{refl, sym, ap, ap₂, subst}
use Rattle.std.proofs.Common.{◌∙◌, le_of_suc-le-suc, not-suc-le-zero, eq-or-lt_of_le, le_refl, add-one, length-drop, take_all}
use Rattle.std.proofs.Math.Logic.{⊎_elim}
use mathlib.Core.List.{List, [], ◌∷◌, ◌++◌}
use native.Mathlib.Omega.{arith}
use Rattle.std.proofs.Math.ListN.{length, get_or, take, drop, length-append, length-take, get_or-append, drop_of_length-le}
use Rattle.std.proofs.lemmas.List.{get_or_at}
use Rattle.std.proofs.Math.Seq.{get_or-take, get_or-drop, take-take, take-append-le, take_at, drop-append-le, length-take-le}
use Rattle.constraint.specs.Constraint.{Formula}
use Rattle.constraint.specs.Records.{record_at, takes, finish, finished, formula_at}
use Rattle.constraint.specs.Starts.{begun, start_at, formulas_to}

-- ---- a start is at its own record or before
abbrev Under : ℕ → List ℕ → Type 0
Under k l = (j : ℕ) → j < length l → get_or l j 0 < k

under_drop : (l : List ℕ) (n k : ℕ) → Under k l → get_or (drop n l) 0 k ≤ k
under_drop [] zero k h = le_refl k
under_drop (x ∷ xs) zero k h = omega (arith, h 0 (omega arith))
under_drop [] (suc n) k h = le_refl k
under_drop (x ∷ xs) (suc n) k h = under_drop xs n k (λ j l. h (suc j) (omega arith))

under_one : (s k : ℕ) → s ≤ k → Under (suc k) (s ∷ [])
under_one s k h zero l = omega arith
under_one s k h (suc j) l = absurd (omega arith)

under_snoc : (g : List ℕ) (n s k : ℕ) → Under k g → s ≤ k → Under (suc k) (take n g ++ s ∷ [])
under_snoc g zero s k h e j l = under_one s k e j l
under_snoc [] (suc n) s k h e j l = under_one s k e j l
under_snoc (x ∷ xs) (suc n) s k h e zero l = omega (arith, h 0 (omega arith))
under_snoc (x ∷ xs) (suc n) s k h e (suc j) l = under_snoc xs n s k (λ i q. h (suc i) (omega arith)) e j (le_of_suc-le-suc l)

module _ (b : List ℕ) where
  below : (k : ℕ) → Under k (begun b k)
  unfolding begun
  below zero j h = absurd (not-suc-le-zero h)
  below (suc k) j h =
      let base = length (begun b k) - takes (record_at b k) in
      under_snoc (begun b k) base _ k (below k) (under_drop (begun b k) base k (below k)) j h

  pub start_below : (k : ℕ) → start_at b k ≤ k
  unfolding start_at
  start_below k = under_drop (begun b k) (length (begun b k) - takes (record_at b k)) k (below k)

  -- of each finished formula one start
  same_height : (k : ℕ) → length (begun b k) ≡ length (finished b k)
  unfolding begun finished
  same_height zero = refl
  same_height (suc k) =
      let m = takes (record_at b k) in
      let f = finished b k in
      let g = begun b k in
      length-append (take (length g - m) g) _
      ∙ omega (arith, same_height k, length-take (length g - m) g, length-take (length f - m) f)
      ∙ sym (length-append (take (length f - m) f) _)

  base : ℕ → ℕ
  base k = length (finished b k) - takes (record_at b k)

  base_le : (k : ℕ) → base k ≤ length (finished b k)
  unfolding base
  base_le k = omega arith

  base_is : (k : ℕ) → length (begun b k) - takes (record_at b k) ≡ base k
  unfolding base
  base_is k = ap (λ (n : ℕ). n - takes (record_at b k)) (same_height k)

  start_is : (k : ℕ) → start_at b k ≡ get_or (drop (base k) (begun b k)) 0 k
  unfolding start_at
  start_is k = ap (λ (n : ℕ). get_or (drop n (begun b k)) 0 k) (base_is k)

  begun_is : (k : ℕ) → begun b (suc k) ≡ take (base k) (begun b k) ++ start_at b k ∷ []
  unfolding begun start_at
  begun_is k = ap (λ (n : ℕ). take n (begun b k) ++ start_at b k ∷ []) (base_is k)

  finished_is : (k : ℕ) → finished b (suc k) ≡ take (base k) (finished b k) ++ formula_at b k ∷ []
  unfolding finished formula_at base
  finished_is k = refl

  height_is : (k : ℕ) → length (finished b (suc k)) ≡ base k + 1
  unfolding base
  height_is k = ap length (finished_is k) ∙ length-append (take (base k) (finished b k)) _ ∙ omega (arith, length-take (base k) (finished b k))

  -- a list that grows as they do: what it was where the j-th starts is its first j
  module _ {A : Type 0} (grown : ℕ → List A) (new : ℕ → A) (grows : (k : ℕ) → grown (suc k) ≡ take (base k) (grown k) ++ new k ∷ []) (high : (k : ℕ) → length (grown k) ≡ length (finished b k)) where
    Back : ℕ → Type 0
    Back k = (j : ℕ) → j < length (finished b k) → grown (get_or (begun b k) j 0) ≡ take j (grown k)

    start_from : (k : ℕ) → Back k → grown (start_at b k) ≡ take (base k) (grown k)
    unfolding Back base
    start_from k back =
        let g = begun b k in
        let i : base k ≤ length (finished b k) = omega arith in
        ⊎_elim
        (λ e.
        ap grown (start_is k ∙ ap (λ (l : List ℕ). get_or l 0 k) (drop_of_length-le g {i = base k} (omega (arith, same_height k))))
        ∙ sym (take_all (base k) (grown k) (omega (arith, high k))))
        (λ l.
        ap grown (start_is k ∙ get_or-drop (base k) g 0 k ∙ ap (λ (n : ℕ). get_or g n k) (omega arith) ∙ any g (base k) k 0 (omega (arith, same_height k)))
        ∙ back (base k) l)
        (eq-or-lt_of_le i)
      where
        any : (l : List ℕ) (i d e : ℕ) → i < length l → get_or l i d ≡ get_or l i e
        any [] i d e h = absurd (not-suc-le-zero h)
        any (x ∷ xs) zero d e h = refl
        any (x ∷ xs) (suc i) d e h = any xs i d e (le_of_suc-le-suc h)

    back : (k : ℕ) → Back k
    unfolding Back finished
    back zero j h = absurd (not-suc-le-zero h)
    back (suc k) j h =
        let f = grown k in
        let g = begun b k in
        let lf : length (take (base k) f) ≡ base k = length-take-le (base k) f (omega (arith, high k, base_le k)) in
        let lg : length (take (base k) g) ≡ base k = length-take-le (base k) g (omega (arith, same_height k, base_le k)) in
        let hj : j < base k + 1 = subst (λ (n : ℕ). j < n) (height_is k) h in
        ⊎_elim
        (λ e.
        ap (λ (l : List ℕ). grown (get_or l j 0)) (begun_is k)
        ∙ ap grown (get_or_at (take (base k) g) (start_at b k) [] 0 j (lg ∙ sym e))
        ∙ start_from k (back k)
        ∙ sym (ap (take j) (grows k) ∙ take_at (take (base k) f) (new k ∷ []) j (lf ∙ sym e)))
        (λ l.
        ap (λ (l : List ℕ). grown (get_or l j 0)) (begun_is k)
        ∙ ap grown (get_or-append (take (base k) g) _ 0 j (omega arith) ∙ get_or-take (base k) g j 0 l)
        ∙ back k j (omega (arith, base_le k))
        ∙ sym (ap (take j) (grows k) ∙ take-append-le j (take (base k) f) _ (omega arith) ∙ take-take j (base k) f (omega arith)))
        (eq-or-lt_of_le (le_of_suc-le-suc (subst (λ (n : ℕ). j < n) (add-one (base k)) hj)))

    links : (k : ℕ) → grown (suc k) ≡ grown (start_at b k) ++ new k ∷ []
    links k = grows k ∙ ap (λ (l : List A). l ++ new k ∷ []) (sym (start_from k (back k)))

  -- what is finished before record k + 1 is what was finished where formula k starts, and then formula k
  pub chain : (k : ℕ) → finished b (suc k) ≡ finished b (start_at b k) ++ formula_at b k ∷ []
  chain k = links (finished b) (formula_at b) finished_is (λ j. refl) k

  -- and so for the starts
  begun_chain : (k : ℕ) → begun b (suc k) ≡ begun b (start_at b k) ++ start_at b k ∷ []
  begun_chain k = links (begun b) (start_at b) begun_is same_height k

  -- where the last m that are finished before record k start
  pub start_before : ℕ → ℕ → ℕ
  start_before zero k = k
  start_before (suc m) zero = zero
  start_before (suc m) (suc k) = start_before m (start_at b k)

  -- that of what a record takes is found one by one
  start_taken : (m k : ℕ) → m ≤ length (begun b k) → get_or (drop (length (begun b k) - m) (begun b k)) 0 k ≡ start_before m k
  unfolding start_before begun
  start_taken zero k h = ap (λ (l : List ℕ). get_or l 0 k) (drop_of_length-le (begun b k) {i = length (begun b k) - 0} (omega arith))
  start_taken (suc m) zero h = absurd (not-suc-le-zero h)
  start_taken (suc m) (suc k) h =
      let G = begun b (start_at b k) in
      let n : length (begun b (suc k)) ≡ length G + 1 = ap length (begun_chain k) ∙ length-append G (start_at b k ∷ []) in
      let i : length (begun b (suc k)) - suc m ≡ length G - m = omega (arith, n) in
      ap (λ (i : ℕ). get_or (drop i (begun b (suc k))) 0 (suc k)) i
      ∙ ap (λ (l : List ℕ). get_or (drop (length G - m) l) 0 (suc k)) (begun_chain k)
      ∙ ap (λ (l : List ℕ). get_or l 0 (suc k)) (drop-append-le (length G - m) G (start_at b k ∷ []) (omega arith))
      ∙ head (drop (length G - m) G) (start_at b k) (suc k)
      ∙ start_taken m (start_at b k) (omega (arith, n))
    where
      head : (l : List ℕ) (s d : ℕ) → get_or (l ++ s ∷ []) 0 d ≡ get_or l 0 s
      head [] s d = refl
      head (x ∷ xs) s d = refl

  pub start_of : (k : ℕ) → takes (record_at b k) ≤ length (finished b k) → start_before (takes (record_at b k)) k ≡ start_at b k
  unfolding start_at
  start_of k h = sym (start_taken (takes (record_at b k)) k (omega (arith, same_height k)))

  pub start_none : (k : ℕ) → start_before 0 k ≡ k
  unfolding start_before
  start_none k = refl

  pub start_next : (m k : ℕ) → 0 < m → 0 < k → start_before m k ≡ start_before (m - 1) (start_at b (k - 1))
  start_next zero k h g = absurd (omega arith)
  start_next (suc m) zero h g = absurd (omega arith)
  start_next (suc m) (suc k) h g = unfold start_before in ap₂ (λ (i j : ℕ). start_before i (start_at b j)) (omega arith) (omega arith)

  -- so those that a record takes are found by the numbers where they start
  taken : (m k : ℕ) → m ≤ length (finished b k) → drop (length (finished b k) - m) (finished b k) ≡ formulas_to b m k
  unfolding formulas_to finished
  taken zero k h = drop_of_length-le (finished b k) {i = length (finished b k) - 0} (omega arith)
  taken (suc m) zero h = absurd (not-suc-le-zero h)
  taken (suc m) (suc k) h =
      let F = finished b (start_at b k) in
      let n : length (finished b (suc k)) ≡ length F + 1 = ap length (chain k) ∙ length-append F (formula_at b k ∷ []) in
      let i : length (finished b (suc k)) - suc m ≡ length F - m = omega (arith, n) in
      ap (λ (i : ℕ). drop i (finished b (suc k))) i
      ∙ ap (drop (length F - m)) (chain k)
      ∙ drop-append-le (length F - m) F (formula_at b k ∷ []) (omega arith)
      ∙ ap (λ (l : List (Formula ℕ)). l ++ formula_at b k ∷ []) (taken m (start_at b k) (omega (arith, n)))

  pub length_formulas : (m k : ℕ) → m ≤ length (finished b k) → length (formulas_to b m k) ≡ m
  length_formulas m k h = ap length (sym (taken m k h)) ∙ length-drop (length (finished b k) - m) (finished b k) ∙ omega arith

  -- each record leaves at most one more
  pub height_below : (k : ℕ) → length (finished b k) ≤ k
  unfolding finished
  height_below zero = omega arith
  height_below (suc k) = omega (arith, height_is k, base_le k, height_below k)

  -- formula k, by what its record says and by those that it takes
  pub formula_of : (k : ℕ) → takes (record_at b k) ≤ length (finished b k) → formula_at b k ≡ finish (record_at b k) (formulas_to b (takes (record_at b k)) k)
  unfolding formula_at
  formula_of k h = ap (finish (record_at b k)) (taken (takes (record_at b k)) k h)
