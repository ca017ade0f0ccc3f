-- The number of variables, by what a record says and by what it takes; that of an accepted constraint is at most 16. Assumes nothing.
use Prim.Native.Nat.{ℕ, zero, suc, ◌+◌, ◌-◌, max, ◌≤◌, ◌<◌}
use Rattle.std.specs.Prelude.{◌≡◌, length}
use Rattle.std.proofs.Math.Path.{refl, ap}
use Rattle.std.proofs.Common.{sym, ◌∙◌}
use mathlib.Core.List.{List, [], ◌∷◌, ◌++◌, map}
use native.Mathlib.Omega.{arith}
use Rattle.std.proofs.Math.ListN.{get_or}
use Rattle.tree.specs.Nodes.{tree_at}
use Rattle.tree.specs.NodeLaws.{vars_small}
use Rattle.constraint.specs.Constraint.{Formula, Constraint, map_formula, num_vars, num_vars_all}
use Rattle.constraint.specs.Records.{takes, gather, none, finish, constraint_at}
use Rattle.constraint.specs.Starts.{start_at, formulas_to, up_to}
use Rattle.constraint.specs.Views.{record_of, constraint_of, constraints_before, Taken}
use Rattle.constraint.specs.Code.{own_vars, Named}
use Rattle.constraint.specs.FormulaLaws.{gather_map}
use Rattle.constraint.specs.RecordLaws.{formula_here, writable_here, atom_node, taken_here, few_taken, none_taken, some, start_falls, before_last, last, up_to_last}
use Rattle.constraint.specs.declared.Record.{Record}
use Rattle.constraint.specs.declared.records.Records.{Records}

pub num_vars_snoc : (cs : List Constraint) (c : Constraint) → num_vars_all (gather (cs ++ c ∷ [])) ≡ max (num_vars_all (gather cs)) (num_vars c)
unfolding gather num_vars_all
num_vars_snoc [] c = omega arith
num_vars_snoc (x ∷ cs) c = omega (arith, num_vars_snoc cs c)

-- ---- of what a record finishes: the most of those that it takes, or its own
module _ (nodes : List ℕ) where
  abbrev constraints : List (Formula ℕ) → List Constraint
  constraints cs = map (map_formula (tree_at nodes)) cs

  one_taken : (cs : List (Formula ℕ)) → length cs ≡ 1 → num_vars (map_formula (tree_at nodes) (get_or cs 0 none)) ≡ num_vars_all (gather (constraints cs))
  unfolding gather num_vars
  one_taken [] l = absurd (omega arith)
  one_taken (c ∷ []) l = omega arith
  one_taken (c ∷ d ∷ cs) l = absurd (omega arith)

  of_finished : (x : Record) (cs : List (Formula ℕ)) → length cs ≡ takes x → num_vars (map_formula (tree_at nodes) (finish x cs)) ≡ max (num_vars_all (gather (constraints cs))) (own_vars nodes x)
  unfolding finish map_formula num_vars
  of_finished (Record.Atom rel i) [] l = unfold gather in omega arith
  of_finished (Record.Atom rel i) (c ∷ cs) l = absurd (omega arith)
  of_finished Record.Not cs l = omega (arith, one_taken cs l)
  of_finished (Record.And m) cs l = ap num_vars_all (gather_map (tree_at nodes) cs) ∙ omega arith
  of_finished (Record.Or m) cs l = ap num_vars_all (gather_map (tree_at nodes) cs) ∙ omega arith
  of_finished (Record.ForAll v lo hi) cs l = omega (arith, one_taken cs l)
  of_finished (Record.Exists v lo hi) cs l = omega (arith, one_taken cs l)

module _ (r : Records) (k : ℕ) (l : k < r.count) where
  pub vars_of : (x : Record) → record_of r k ≡ x → (m : ℕ) → m ≡ takes x → num_vars (constraint_of r k) ≡ max (num_vars_all (constraints_before r m k)) (own_vars r.nodes.now x)
  unfolding constraint_at up_to
  vars_of x e m t =
      ap (λ (c : Formula ℕ). num_vars (map_formula (tree_at r.nodes.now) c)) (formula_here r k l x e ∙ ap (λ (m : ℕ). finish x (formulas_to r.constraints.now m k)) (sym t))
      ∙ of_finished r.nodes.now x (formulas_to r.constraints.now m k) ((few_taken r m k (taken_here r k l x e m t)).1 ∙ t)

  pub named : (x : Record) → record_of r k ≡ x → Named r.nodes.now x
  named (Record.Atom rel i) e = atom_node r k l rel i e
  named Record.Not e = tt
  named (Record.And m) e = tt
  named (Record.Or m) e = tt
  named (Record.ForAll v lo hi) e = (writable_here r k l (Record.ForAll v lo hi) e).0
  named (Record.Exists v lo hi) e = (writable_here r k l (Record.Exists v lo hi) e).0

own_few : (nodes : List ℕ) (x : Record) → Named nodes x → own_vars nodes x ≤ 16
own_few nodes (Record.Atom rel i) h = vars_small nodes (i + 1) h i (omega arith)
own_few nodes Record.Not h = omega arith
own_few nodes (Record.And m) h = omega arith
own_few nodes (Record.Or m) h = omega arith
own_few nodes (Record.ForAll v lo hi) h = h
own_few nodes (Record.Exists v lo hi) h = h

-- ---- at most 16
module _ (r : Records) where
  Few : ℕ → Type 0
  Few f =
      ((k : ℕ) → k < f → k < r.count → num_vars (constraint_of r k) ≤ 16)
      × ((m n : ℕ) → n ≤ f → Taken r m n → num_vars_all (constraints_before r m n) ≤ 16)

  few_one : (f k : ℕ) → Few f → k ≤ f → k < r.count → num_vars (constraint_of r k) ≤ 16
  unfolding Few
  few_one f k h l p =
      omega (
        arith,
        vars_of r k p (record_of r k) refl _ refl,
        h.1 (takes (record_of r k)) k l (taken_here r k p (record_of r k) refl _ refl),
        own_few r.nodes.now (record_of r k) (named r k p (record_of r k) refl),
      )

  few_all : (f m n : ℕ) → Few f → n ≤ suc f → Taken r m n → num_vars_all (constraints_before r m n) ≤ 16
  unfolding Few
  few_all f zero n h l q = rw (none_taken r zero n q refl) (unfold gather num_vars_all in omega arith)
  few_all f (suc m) n h l q =
      let z : suc m ≡ 0 → ⊥ = λ e. omega arith in
      let s = start_at r.constraints.now (n - 1) in
      let some = some r (suc m) n q z in
      rw (up_to_last r (suc m) n q z s refl)
      (rw (num_vars_snoc (up_to r.nodes.now r.constraints.now (suc m - 1) s) (constraint_of r (n - 1)))
      (omega (
        arith,
        h.1 (suc m - 1) s (omega (arith, start_falls r (suc m) n q z s refl)) (before_last r (suc m) n q z s refl),
        few_one f (n - 1) h (omega arith) (last r (suc m) n q z),
      )))

  few_none : (m n : ℕ) → n ≤ 0 → Taken r m n → num_vars_all (constraints_before r m n) ≤ 16
  few_none zero n l q = rw (none_taken r zero n q refl) (unfold gather num_vars_all in omega arith)
  few_none (suc m) n l q = absurd (omega (arith, some r (suc m) n q (λ e. omega arith)))

  few_up_to : (f : ℕ) → Few f
  unfolding Few
  few_up_to zero = ((λ k l p. absurd (omega arith)), few_none)
  few_up_to (suc f) =
      let h = few_up_to f in
      ((λ k l p. few_one f k h (omega arith) p), (λ m n l q. few_all f m n h l q))

  pub vars_few : (k : ℕ) → k < r.count → num_vars (constraint_of r k) ≤ 16
  unfolding Few
  vars_few k p = (few_up_to (suc k)).0 k (omega arith) p
