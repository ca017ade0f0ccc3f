-- A map over a formula alters neither its depth nor its quantifiers. Assumes nothing.
use Rattle.std.specs.Prelude.{ℕ, suc, ◌+◌, max, ◌≡◌, length}
use Rattle.std.proofs.Math.Path.{refl, ap}
use Rattle.std.proofs.Common.{ap₂}
use mathlib.Core.List.{List, [], ◌∷◌, map}
use Rattle.constraint.specs.Constraint.{Formula, Formulas, Atom, Not, And, Or, ForAll, Exists, end, ◌⨾◌, map_formula, map_formulas, number, levels, levels_all, quantifiers, quantifiers_all}
use Rattle.constraint.specs.Records.{gather}

pub number_gather : {A : Type 0} (cs : List (Formula A)) → number (gather cs) ≡ length cs
unfolding gather number
number_gather [] = refl
number_gather (c ∷ cs) = ap suc (number_gather cs)

module _ {A B : Type 0} (f : A → B) where
  mutual
    unfolding map_formula levels

    pub levels_map : (c : Formula A) → levels (map_formula f c) ≡ levels c
    levels_map (Atom rel x) = refl
    levels_map (Not c) = ap (λ (n : ℕ). 1 + n) (levels_map c)
    levels_map (And cs) = ap (λ (n : ℕ). 1 + n) (levels_all_map cs)
    levels_map (Or cs) = ap (λ (n : ℕ). 1 + n) (levels_all_map cs)
    levels_map (ForAll v lo hi c) = ap (λ (n : ℕ). 1 + n) (levels_map c)
    levels_map (Exists v lo hi c) = ap (λ (n : ℕ). 1 + n) (levels_map c)

    levels_all_map : (cs : Formulas A) → levels_all (map_formulas f cs) ≡ levels_all cs
    levels_all_map end = refl
    levels_all_map (c ⨾ cs) = ap₂ max (levels_map c) (levels_all_map cs)

  mutual
    unfolding map_formula quantifiers

    pub quantifiers_map : (c : Formula A) → quantifiers (map_formula f c) ≡ quantifiers c
    quantifiers_map (Atom rel x) = refl
    quantifiers_map (Not c) = quantifiers_map c
    quantifiers_map (And cs) = quantifiers_all_map cs
    quantifiers_map (Or cs) = quantifiers_all_map cs
    quantifiers_map (ForAll v lo hi c) = ap (λ (n : ℕ). 1 + n) (quantifiers_map c)
    quantifiers_map (Exists v lo hi c) = ap (λ (n : ℕ). 1 + n) (quantifiers_map c)

    quantifiers_all_map : (cs : Formulas A) → quantifiers_all (map_formulas f cs) ≡ quantifiers_all cs
    quantifiers_all_map end = refl
    quantifiers_all_map (c ⨾ cs) = ap₂ max (quantifiers_map c) (quantifiers_all_map cs)

  pub gather_map : (cs : List (Formula A)) → map_formulas f (gather cs) ≡ gather (map (map_formula f) cs)
  unfolding gather map_formula
  gather_map [] = refl
  gather_map (c ∷ cs) = ap (λ (ds : Formulas B). map_formula f c ⨾ ds) (gather_map cs)
