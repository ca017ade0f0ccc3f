-- Laws of the normal form at any atoms: a map over a formula and the normal form change places; the form has as many in each list, and is no deeper, with no more quantifiers. Assumes nothing.
use Prim.Native.Nat.{ℕ, suc, ◌≤◌}
use Rattle.std.specs.Prelude.{◌≡◌}
use Rattle.std.proofs.Math.Path.{refl, ap}
use Rattle.std.proofs.Common.{ap₂, arith}
use Rattle.constraint.specs.Constraint.{Formula, Formulas, Atom, Not, And, Or, ForAll, Exists, end, ◌⨾◌, map_formula, map_formulas, number, levels, levels_all, quantifiers, quantifiers_all}
use Rattle.constraint.specs.Fitting.{Fitting, FittingAll}
use Rattle.normal.specs.NormalForm.{to_nnf, negate, to_nnf_all, negate_all}

module _ {A B : Type 0} (f : A → B) where
  mutual
    unfolding map_formula to_nnf

    pub nnf_map : (c : Formula A) → to_nnf (map_formula f c) ≡ map_formula f (to_nnf c)
    nnf_map (Atom rel x) = refl
    nnf_map (Not c) = negation_map c
    nnf_map (And cs) = ap And (nnf_all_map cs)
    nnf_map (Or cs) = ap Or (nnf_all_map cs)
    nnf_map (ForAll v lo hi c) = ap (ForAll v lo hi) (nnf_map c)
    nnf_map (Exists v lo hi c) = ap (Exists v lo hi) (nnf_map c)

    negation_map : (c : Formula A) → negate (map_formula f c) ≡ map_formula f (negate c)
    negation_map (Atom rel x) = refl
    negation_map (Not c) = nnf_map c
    negation_map (And cs) = ap Or (negation_all_map cs)
    negation_map (Or cs) = ap And (negation_all_map cs)
    negation_map (ForAll v lo hi c) = ap (Exists v lo hi) (negation_map c)
    negation_map (Exists v lo hi c) = ap (ForAll v lo hi) (negation_map c)

    nnf_all_map : (cs : Formulas A) → to_nnf_all (map_formulas f cs) ≡ map_formulas f (to_nnf_all cs)
    nnf_all_map end = refl
    nnf_all_map (c ⨾ cs) = ap₂ ◌⨾◌ (nnf_map c) (nnf_all_map cs)

    negation_all_map : (cs : Formulas A) → negate_all (map_formulas f cs) ≡ map_formulas f (negate_all cs)
    negation_all_map end = refl
    negation_all_map (c ⨾ cs) = ap₂ ◌⨾◌ (negation_map c) (negation_all_map cs)

module _ {A : Type 0} where
  pub number_nnf : (cs : Formulas A) → number (to_nnf_all cs) ≡ number cs
  unfolding number to_nnf
  number_nnf end = refl
  number_nnf (c ⨾ cs) = ap suc (number_nnf cs)

  pub number_negation : (cs : Formulas A) → number (negate_all cs) ≡ number cs
  unfolding number to_nnf
  number_negation end = refl
  number_negation (c ⨾ cs) = ap suc (number_negation cs)

  mutual
    unfolding to_nnf levels

    pub nnf_levels : (c : Formula A) → levels (to_nnf c) ≤ levels c
    nnf_levels (Atom rel x) = omega arith
    nnf_levels (Not c) = omega (arith, negation_levels c)
    nnf_levels (And cs) = omega (arith, nnf_all_levels cs)
    nnf_levels (Or cs) = omega (arith, nnf_all_levels cs)
    nnf_levels (ForAll v lo hi c) = omega (arith, nnf_levels c)
    nnf_levels (Exists v lo hi c) = omega (arith, nnf_levels c)

    negation_levels : (c : Formula A) → levels (negate c) ≤ levels c
    negation_levels (Atom rel x) = omega arith
    negation_levels (Not c) = omega (arith, nnf_levels c)
    negation_levels (And cs) = omega (arith, negation_all_levels cs)
    negation_levels (Or cs) = omega (arith, negation_all_levels cs)
    negation_levels (ForAll v lo hi c) = omega (arith, negation_levels c)
    negation_levels (Exists v lo hi c) = omega (arith, negation_levels c)

    nnf_all_levels : (cs : Formulas A) → levels_all (to_nnf_all cs) ≤ levels_all cs
    nnf_all_levels end = omega arith
    nnf_all_levels (c ⨾ cs) = omega (arith, nnf_levels c, nnf_all_levels cs)

    negation_all_levels : (cs : Formulas A) → levels_all (negate_all cs) ≤ levels_all cs
    negation_all_levels end = omega arith
    negation_all_levels (c ⨾ cs) = omega (arith, negation_levels c, negation_all_levels cs)

  mutual
    unfolding to_nnf quantifiers

    pub nnf_quantifiers : (c : Formula A) → quantifiers (to_nnf c) ≤ quantifiers c
    nnf_quantifiers (Atom rel x) = omega arith
    nnf_quantifiers (Not c) = negation_quantifiers c
    nnf_quantifiers (And cs) = nnf_all_quantifiers cs
    nnf_quantifiers (Or cs) = nnf_all_quantifiers cs
    nnf_quantifiers (ForAll v lo hi c) = omega (arith, nnf_quantifiers c)
    nnf_quantifiers (Exists v lo hi c) = omega (arith, nnf_quantifiers c)

    negation_quantifiers : (c : Formula A) → quantifiers (negate c) ≤ quantifiers c
    negation_quantifiers (Atom rel x) = omega arith
    negation_quantifiers (Not c) = nnf_quantifiers c
    negation_quantifiers (And cs) = negation_all_quantifiers cs
    negation_quantifiers (Or cs) = negation_all_quantifiers cs
    negation_quantifiers (ForAll v lo hi c) = omega (arith, negation_quantifiers c)
    negation_quantifiers (Exists v lo hi c) = omega (arith, negation_quantifiers c)

    nnf_all_quantifiers : (cs : Formulas A) → quantifiers_all (to_nnf_all cs) ≤ quantifiers_all cs
    nnf_all_quantifiers end = omega arith
    nnf_all_quantifiers (c ⨾ cs) = omega (arith, nnf_quantifiers c, nnf_all_quantifiers cs)

    negation_all_quantifiers : (cs : Formulas A) → quantifiers_all (negate_all cs) ≤ quantifiers_all cs
    negation_all_quantifiers end = omega arith
    negation_all_quantifiers (c ⨾ cs) = omega (arith, negation_quantifiers c, negation_all_quantifiers cs)

-- what can be written can be written as its normal form
module _ (n : ℕ) where
  mutual
    unfolding Fitting to_nnf

    pub nnf_fitting : (c : Formula ℕ) → Fitting n c → Fitting n (to_nnf c)
    nnf_fitting (Atom rel i) h = h
    nnf_fitting (Not c) h = negation_fitting c h
    nnf_fitting (And cs) h = (omega (arith, h.0, number_nnf cs), nnf_all_fitting cs h.1)
    nnf_fitting (Or cs) h = (omega (arith, h.0, number_nnf cs), nnf_all_fitting cs h.1)
    nnf_fitting (ForAll v lo hi c) h = (h.0, h.1, h.2, h.3, nnf_fitting c h.4)
    nnf_fitting (Exists v lo hi c) h = (h.0, h.1, h.2, h.3, nnf_fitting c h.4)

    negation_fitting : (c : Formula ℕ) → Fitting n c → Fitting n (negate c)
    negation_fitting (Atom rel i) h = h
    negation_fitting (Not c) h = nnf_fitting c h
    negation_fitting (And cs) h = (omega (arith, h.0, number_negation cs), negation_all_fitting cs h.1)
    negation_fitting (Or cs) h = (omega (arith, h.0, number_negation cs), negation_all_fitting cs h.1)
    negation_fitting (ForAll v lo hi c) h = (h.0, h.1, h.2, h.3, negation_fitting c h.4)
    negation_fitting (Exists v lo hi c) h = (h.0, h.1, h.2, h.3, negation_fitting c h.4)

    nnf_all_fitting : (cs : Formulas ℕ) → FittingAll n cs → FittingAll n (to_nnf_all cs)
    nnf_all_fitting end h = tt
    nnf_all_fitting (c ⨾ cs) h = (nnf_fitting c h.0, nnf_all_fitting cs h.1)

    negation_all_fitting : (cs : Formulas ℕ) → FittingAll n cs → FittingAll n (negate_all cs)
    negation_all_fitting end h = tt
    negation_all_fitting (c ⨾ cs) h = (negation_fitting c h.0, negation_all_fitting cs h.1)
