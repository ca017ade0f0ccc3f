-- Formulas whose records can be written: what accepted records leave is one. Assumes nothing.
use Prim.Native.Nat.{ℕ, zero, suc, ◌-◌, ◌≤◌, ◌<◌}
use Rattle.std.specs.Prelude.{◌≡◌, true, T, get_or, take, drop}
use Rattle.std.proofs.Common.{◌∙◌, subst, arith, length-drop}
use mathlib.Core.List.{List, [], ◌∷◌, ◌++◌}
use Rattle.std.specs.Float.{binary64}
use Rattle.std.specs.Float.Ieee.{fits}
use Rattle.std.proofs.Math.ListN.{length}
use Rattle.number.specs.Sound.{sound}
use Rattle.constraint.specs.Constraint.{Formula, Formulas, Atom, Not, And, Or, ForAll, Exists, end, ◌⨾◌, number}
use Rattle.constraint.specs.Records.{record_at, is_ranged, takes, gather, none, finish, finished, formula_at, records_refusal}
use Rattle.constraint.specs.Code.{Writable}
use Rattle.constraint.specs.FormulaLaws.{number_gather}
use Rattle.constraint.specs.RecordLaws.{each_stands, only_left, writable}
use Rattle.constraint.specs.declared.Record.{Record}

module _ (n : ℕ) where
  -- over n nodes
  unfoldable mutual
    pub Fitting : Formula ℕ → Type 0
    Fitting (Atom rel i) = i < n
    Fitting (Not c) = Fitting c
    Fitting (And cs) = (number cs < 1024) × FittingAll cs
    Fitting (Or cs) = (number cs < 1024) × FittingAll cs
    Fitting (ForAll v lo hi c) = (v < 16) × T (fits binary64 lo) × T (fits binary64 hi) × (sound binary64 lo hi ≡ true) × Fitting c
    Fitting (Exists v lo hi c) = (v < 16) × T (fits binary64 lo) × T (fits binary64 hi) × (sound binary64 lo hi ≡ true) × Fitting c

    pub FittingAll : Formulas ℕ → Type 0
    FittingAll end = Unit {0}
    FittingAll (c ⨾ cs) = Fitting c × FittingAll cs

  abbrev Each : List (Formula ℕ) → Type 0
  Each [] = Unit {0}
  Each (c ∷ cs) = Fitting c × Each cs

  each_take : (i : ℕ) (cs : List (Formula ℕ)) → Each cs → Each (take i cs)
  each_take zero cs h = tt
  each_take (suc i) [] h = tt
  each_take (suc i) (c ∷ cs) h = (h.0, each_take i cs h.1)

  each_drop : (i : ℕ) (cs : List (Formula ℕ)) → Each cs → Each (drop i cs)
  each_drop zero cs h = h
  each_drop (suc i) [] h = tt
  each_drop (suc i) (c ∷ cs) h = each_drop i cs h.1

  each_snoc : (cs : List (Formula ℕ)) (c : Formula ℕ) → Each cs → Fitting c → Each (cs ++ c ∷ [])
  each_snoc [] c h g = (g, tt)
  each_snoc (x ∷ cs) c h g = (h.0, each_snoc cs c h.1 g)

  each_first : (cs : List (Formula ℕ)) → length cs ≡ 1 → Each cs → Fitting (get_or cs 0 none)
  each_first [] e h = absurd (omega arith)
  each_first (c ∷ cs) e h = h.0

  each_gathered : (cs : List (Formula ℕ)) → Each cs → FittingAll (gather cs)
  unfolding gather Fitting
  each_gathered [] h = tt
  each_gathered (c ∷ cs) h = (h.0, each_gathered cs h.1)

  finish_fitting : (r : Record) (cs : List (Formula ℕ)) → length cs ≡ takes r → Each cs → Writable n r → is_ranged r ≡ true → Fitting (finish r cs)
  unfolding finish Fitting
  finish_fitting (Record.Atom rel i) cs e h w g = w
  finish_fitting Record.Not cs e h w g = each_first cs e h
  finish_fitting (Record.And m) cs e h w g = (omega (arith, number_gather cs), each_gathered cs h)
  finish_fitting (Record.Or m) cs e h w g = (omega (arith, number_gather cs), each_gathered cs h)
  finish_fitting (Record.ForAll v lo hi) cs e h w g = (w.0, w.1, w.2, g, each_first cs e h)
  finish_fitting (Record.Exists v lo hi) cs e h w g = (w.0, w.1, w.2, g, each_first cs e h)

  all_fitting : (b : List ℕ) (m : ℕ) → m ≤ 1024 → records_refusal n b m ≡ 0 → (k : ℕ) → k ≤ m → Each (finished b k)
  unfolding finished
  all_fitting b m l p zero h = tt
  all_fitting b m l p (suc k) h =
      let before = finished b k in
      let base = length before - takes (record_at b k) in
      let d = all_fitting b m l p k (omega arith) in
      let x = each_stands n b m p k h in
      each_snoc (take base before) _ (each_take base before d)
      (finish_fitting (record_at b k) (drop base before) (length-drop base before ∙ omega (arith, x.enough)) (each_drop base before d) (writable n b k (omega arith) x) x.ranged)

  -- the one that m records leave
  pub left_fitting : (b : List ℕ) (m : ℕ) → m ≤ 1024 → records_refusal n b m ≡ 0 → Fitting (formula_at b (m - 1))
  left_fitting b m l p = (subst Each (only_left n b m p).1 (all_fitting b m l p m (omega arith))).0
