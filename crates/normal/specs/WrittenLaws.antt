-- The records of a normal form: those of what a record takes, and then the record; a Not has none. Assumes nothing.
use Rattle.std.specs.Prelude.{ℕ, ◌≡◌, refl, List, [], ◌∷◌, ◌++◌, length, get_or}
use Rattle.std.proofs.Common.{sym, ap, ◌∙◌, append_assoc, append-nil, arith}
use Rattle.constraint.specs.declared.Record.{Record}
use Rattle.constraint.specs.Constraint.{Formula}
use Rattle.constraint.specs.Records.{takes, gather, none, finish}
use Rattle.constraint.specs.Encoding.{records_of, records_of_all}
use Rattle.constraint.specs.FormulaLaws.{number_gather}
use Rattle.normal.specs.NormalForm.{to_nnf, negate, to_nnf_all, negate_all}
use Rattle.normal.specs.NormalLaws.{number_nnf, number_negation}
use Rattle.normal.specs.Written.{dual_of}

-- ---- one that is taken
nnf_one : (cs : List (Formula ℕ)) → length cs ≡ 1 → records_of (to_nnf (get_or cs 0 none)) ≡ records_of_all (to_nnf_all (gather cs))
unfolding records_of to_nnf gather
nnf_one [] l = absurd (omega arith)
nnf_one (c ∷ []) l = sym (append-nil (records_of (to_nnf c)))
nnf_one (c ∷ d ∷ cs) l = absurd (omega arith)

negation_one : (cs : List (Formula ℕ)) → length cs ≡ 1 → records_of (negate (get_or cs 0 none)) ≡ records_of_all (negate_all (gather cs))
unfolding records_of to_nnf gather
negation_one [] l = absurd (omega arith)
negation_one (c ∷ []) l = sym (append-nil (records_of (negate c)))
negation_one (c ∷ d ∷ cs) l = absurd (omega arith)

-- ---- what record x finishes from cs, where x is no Not
pub nnf_finish : (x : Record) (cs : List (Formula ℕ)) → length cs ≡ takes x → (x ≡ Record.Not → ⊥) → records_of (to_nnf (finish x cs)) ≡ records_of_all (to_nnf_all (gather cs)) ++ x ∷ []
unfolding records_of to_nnf finish gather
nnf_finish (Record.Atom rel i) [] l h = refl
nnf_finish (Record.Atom rel i) (c ∷ cs) l h = absurd (omega arith)
nnf_finish Record.Not cs l h = absurd (h refl)
nnf_finish (Record.And m) cs l h = ap (λ (n : ℕ). records_of_all (to_nnf_all (gather cs)) ++ Record.And n ∷ []) (number_nnf (gather cs) ∙ number_gather cs ∙ l)
nnf_finish (Record.Or m) cs l h = ap (λ (n : ℕ). records_of_all (to_nnf_all (gather cs)) ++ Record.Or n ∷ []) (number_nnf (gather cs) ∙ number_gather cs ∙ l)
nnf_finish (Record.ForAll v lo hi) cs l h = ap (λ (rs : List Record). rs ++ Record.ForAll v lo hi ∷ []) (nnf_one cs l)
nnf_finish (Record.Exists v lo hi) cs l h = ap (λ (rs : List Record). rs ++ Record.Exists v lo hi ∷ []) (nnf_one cs l)

pub negation_finish : (x : Record) (cs : List (Formula ℕ)) → length cs ≡ takes x → (x ≡ Record.Not → ⊥) → records_of (negate (finish x cs)) ≡ records_of_all (negate_all (gather cs)) ++ dual_of x ∷ []
unfolding records_of to_nnf finish gather
negation_finish (Record.Atom rel i) [] l h = refl
negation_finish (Record.Atom rel i) (c ∷ cs) l h = absurd (omega arith)
negation_finish Record.Not cs l h = absurd (h refl)
negation_finish (Record.And m) cs l h = ap (λ (n : ℕ). records_of_all (negate_all (gather cs)) ++ Record.Or n ∷ []) (number_negation (gather cs) ∙ number_gather cs ∙ l)
negation_finish (Record.Or m) cs l h = ap (λ (n : ℕ). records_of_all (negate_all (gather cs)) ++ Record.And n ∷ []) (number_negation (gather cs) ∙ number_gather cs ∙ l)
negation_finish (Record.ForAll v lo hi) cs l h = ap (λ (rs : List Record). rs ++ Record.Exists v lo hi ∷ []) (negation_one cs l)
negation_finish (Record.Exists v lo hi) cs l h = ap (λ (rs : List Record). rs ++ Record.ForAll v lo hi ∷ []) (negation_one cs l)

-- ---- one more at the end
pub nnf_snoc : (cs : List (Formula ℕ)) (c : Formula ℕ) → records_of_all (to_nnf_all (gather (cs ++ c ∷ []))) ≡ records_of_all (to_nnf_all (gather cs)) ++ records_of (to_nnf c)
unfolding records_of to_nnf gather
nnf_snoc [] c = append-nil (records_of (to_nnf c))
nnf_snoc (x ∷ cs) c = ap (λ (l : List Record). records_of (to_nnf x) ++ l) (nnf_snoc cs c) ∙ sym (append_assoc (records_of (to_nnf x)) (records_of_all (to_nnf_all (gather cs))) (records_of (to_nnf c)))

pub negation_snoc : (cs : List (Formula ℕ)) (c : Formula ℕ) → records_of_all (negate_all (gather (cs ++ c ∷ []))) ≡ records_of_all (negate_all (gather cs)) ++ records_of (negate c)
unfolding records_of to_nnf gather
negation_snoc [] c = append-nil (records_of (negate c))
negation_snoc (x ∷ cs) c = ap (λ (l : List Record). records_of (negate x) ++ l) (negation_snoc cs c) ∙ sym (append_assoc (records_of (negate x)) (records_of_all (negate_all (gather cs))) (records_of (negate c)))
