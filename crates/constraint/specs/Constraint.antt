-- Constraints (constraint.rs) over what their atoms hold, what document 01 limits of them, and the number of their variables.
use Rattle.std.specs.Prelude.{ℕ, suc, ◌+◌, max, Float}
use Rattle.tree.specs.Tree.{Tree, tree_vars}
use Rattle.constraint.specs.declared.Relation.{Relation}

-- ForAll and Exists: the variable, lo, hi, the body
infixr 5 ◌⨾◌
mutual
  pub data Formula (A : Type 0) : Type 0 where
    Atom : Relation → A → Formula A
    Not : Formula A → Formula A
    And Or : Formulas A → Formula A
    ForAll Exists : ℕ → Float → Float → Formula A → Formula A

  pub data Formulas (A : Type 0) : Type 0 where
    end : Formulas A
    ◌⨾◌ : Formula A → Formulas A → Formulas A

-- a constraint's atoms hold trees
abbrev pub Constraint : Type 0
Constraint = Formula Tree

abbrev pub Constraints : Type 0
Constraints = Formulas Tree

-- what f makes of an atom's thing, in its place
unfoldable mutual
  pub map_formula : {A B : Type 0} → (A → B) → Formula A → Formula B
  map_formula f (Atom rel x) = Atom rel (f x)
  map_formula f (Not c) = Not (map_formula f c)
  map_formula f (And cs) = And (map_formulas f cs)
  map_formula f (Or cs) = Or (map_formulas f cs)
  map_formula f (ForAll v lo hi c) = ForAll v lo hi (map_formula f c)
  map_formula f (Exists v lo hi c) = Exists v lo hi (map_formula f c)

  pub map_formulas : {A B : Type 0} → (A → B) → Formulas A → Formulas B
  map_formulas f end = end
  map_formulas f (c ⨾ cs) = map_formula f c ⨾ map_formulas f cs

-- how many are in a list
unfoldable pub number : {A : Type 0} → Formulas A → ℕ
number end = 0
number (c ⨾ cs) = suc (number cs)

-- depth: atom, empty And or empty Or: 1; else 1 + the deepest taken
unfoldable mutual
  pub levels : {A : Type 0} → Formula A → ℕ
  levels (Atom rel x) = 1
  levels (Not c) = 1 + levels c
  levels (And cs) = 1 + levels_all cs
  levels (Or cs) = 1 + levels_all cs
  levels (ForAll v lo hi c) = 1 + levels c
  levels (Exists v lo hi c) = 1 + levels c

  pub levels_all : {A : Type 0} → Formulas A → ℕ
  levels_all end = 0
  levels_all (c ⨾ cs) = max (levels c) (levels_all cs)

-- the most quantifiers on a path
unfoldable mutual
  pub quantifiers : {A : Type 0} → Formula A → ℕ
  quantifiers (Atom rel x) = 0
  quantifiers (Not c) = quantifiers c
  quantifiers (And cs) = quantifiers_all cs
  quantifiers (Or cs) = quantifiers_all cs
  quantifiers (ForAll v lo hi c) = 1 + quantifiers c
  quantifiers (Exists v lo hi c) = 1 + quantifiers c

  pub quantifiers_all : {A : Type 0} → Formulas A → ℕ
  quantifiers_all end = 0
  quantifiers_all (c ⨾ cs) = max (quantifiers c) (quantifiers_all cs)

-- one more than the highest index, a quantified one too
unfoldable mutual
  pub num_vars : Constraint → ℕ
  num_vars (Atom rel t) = tree_vars t
  num_vars (Not c) = num_vars c
  num_vars (And cs) = num_vars_all cs
  num_vars (Or cs) = num_vars_all cs
  num_vars (ForAll v lo hi c) = max (num_vars c) (suc v)
  num_vars (Exists v lo hi c) = max (num_vars c) (suc v)

  pub num_vars_all : Constraints → ℕ
  num_vars_all end = 0
  num_vars_all (c ⨾ cs) = max (num_vars c) (num_vars_all cs)
