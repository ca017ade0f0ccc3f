-- The records of the normal form and of the negation of what record k finishes, and of the last m that are finished before record n. Assumes nothing.
use Prim.Native.Nat.{ℕ, ◌+◌, ◌-◌, ◌<◌}
use mathlib.Core.Path.{◌≡◌, refl, sym, ap, ◌∙◌, subst}
use mathlib.Core.List.{List, [], ◌∷◌, ◌++◌}
use lib.ListN.{length, length-append}
use Rattle.constraint.specs.declared.Record.{Record}
use Rattle.constraint.specs.declared.records.Records.{Records}
use Rattle.constraint.specs.Constraint.{Formula}
use Rattle.constraint.specs.Records.{takes, gather, finish, formula_at}
use Rattle.constraint.specs.Starts.{start_at, formulas_to}
use Rattle.constraint.specs.Views.{record_of, Taken}
use Rattle.constraint.specs.Encoding.{records_of, records_of_all}
use Rattle.constraint.specs.Code.{Writable, Puts}
use Rattle.constraint.specs.PutLaws.{puts_none, puts_is, puts_then}
use Rattle.constraint.specs.RecordLaws.{some, start_falls, before_last, last, formula_here, writable_here, taken_here, inside, formula_not, few_taken, no_formulas, formulas_to_last}
use Rattle.normal.specs.NormalForm.{to_nnf, negate, to_nnf_all, negate_all}
use Rattle.normal.specs.Written.{dual_of, nnf_at, negation_at, nnf_all, negation_all}
use Rattle.normal.specs.WrittenLaws.{nnf_finish, negation_finish, nnf_snoc, negation_snoc}

-- ---- the records of a whole are those of a part, and then the rest
pub record Ends (whole part rest : List Record) : Type 0 where
  with : whole ≡ part ++ rest

module _ {whole part rest : List Record} (e : Ends whole part rest) where
  pub ends_put : (b : List ℕ) {b₁ b₂ : List ℕ} (at : ℕ) {n m : ℕ} → Puts b b₁ at n part → Puts b₁ b₂ n m rest → Puts b b₂ at m whole
  ends_put b at p q = puts_is e.with (puts_then b at part rest p q)

-- ---- record k, as it was read
small_dual : (x : Record) → Writable 1024 x → Writable 1024 (dual_of x)
small_dual (Record.Atom rel i) h = h
small_dual Record.Not h = h
small_dual (Record.And m) h = h
small_dual (Record.Or m) h = h
small_dual (Record.ForAll v lo hi) h = h
small_dual (Record.Exists v lo hi) h = h

module _ (r : Records) (k : ℕ) (l : k < r.count) (x : Record) (e : x ≡ record_of r k) where
  abbrev b : List ℕ
  b = r.constraints.now

  pub small : Writable 1024 x
  small = writable_here r k l x (sym e)

  pub dual_small : (y : Record) → y ≡ dual_of x → Writable 1024 y
  dual_small y f = subst (Writable 1024) (sym f) (small_dual x small)

  module _ (m : ℕ) (t : m ≡ takes x) where
    pub taken : Taken r m k
    taken = taken_here r k l x (sym e) m t

    -- it is no Not
    module _ (h : x ≡ Record.Not → ⊥) where
      formula : formula_at b k ≡ finish x (formulas_to b m k)
      formula = formula_here r k l x (sym e) ∙ ap (λ (i : ℕ). finish x (formulas_to b i k)) (sym t)

      as_many : length (formulas_to b m k) ≡ takes x
      as_many = (few_taken r m k taken).1 ∙ t

      pub nnf_ends : Ends (nnf_at r k) (nnf_all r m k) (x ∷ [])
      unfolding nnf_at nnf_all
      nnf_ends = record { with = ap (λ (c : Formula ℕ). records_of (to_nnf c)) formula ∙ nnf_finish x (formulas_to b m k) as_many h }

      pub negation_ends : (y : Record) → y ≡ dual_of x → Ends (negation_at r k) (negation_all r m k) (y ∷ [])
      unfolding negation_at negation_all
      negation_ends y f = record { with = ap (λ (c : Formula ℕ). records_of (negate c)) formula ∙ rw f (negation_finish x (formulas_to b m k) as_many h) }

  -- it is one
  module _ (z : x ≡ Record.Not) where
    not : record_of r k ≡ Record.Not
    not = sym e ∙ z

    pub under_not : (0 < k) × (k - 1 < r.count)
    under_not = inside r k l Record.Not not refl

    pub nnf_not : nnf_at r k ≡ negation_at r (k - 1)
    unfolding nnf_at negation_at to_nnf
    nnf_not = ap (λ (c : Formula ℕ). records_of (to_nnf c)) (formula_not r k l not)

    pub negation_not : negation_at r k ≡ nnf_at r (k - 1)
    unfolding nnf_at negation_at to_nnf
    negation_not = ap (λ (c : Formula ℕ). records_of (negate c)) (formula_not r k l not)

-- ---- their lengths
module _ (r : Records) (k : ℕ) (l : k < r.count) (m : ℕ) (t : m ≡ takes (record_of r k)) (h : record_of r k ≡ Record.Not → ⊥) where
  pub nnf_length : length (nnf_all r m k) + 1 ≡ length (nnf_at r k)
  nnf_length = sym (ap length (nnf_ends r k l (record_of r k) refl m t h).with ∙ length-append _ _)

  pub negation_length : length (negation_all r m k) + 1 ≡ length (negation_at r k)
  negation_length = sym (ap length (negation_ends r k l (record_of r k) refl m t h _ refl).with ∙ length-append _ _)

-- ---- those that a record takes: all but the last, and the last
module _ (r : Records) (m n : ℕ) (q : Taken r m n) where
  pub nnf_none : m ≡ 0 → nnf_all r m n ≡ []
  unfolding nnf_all records_of to_nnf gather
  nnf_none e = ap (λ (cs : List (Formula ℕ)). records_of_all (to_nnf_all (gather cs))) (no_formulas r m n q e)

  pub negation_none : m ≡ 0 → negation_all r m n ≡ []
  unfolding negation_all records_of to_nnf gather
  negation_none e = ap (λ (cs : List (Formula ℕ)). records_of_all (negate_all (gather cs))) (no_formulas r m n q e)

  module _ (h : m ≡ 0 → ⊥) (s : ℕ) (e : s ≡ start_at r.constraints.now (n - 1)) where
    pub nnf_more : Ends (nnf_all r m n) (nnf_all r (m - 1) s) (nnf_at r (n - 1))
    unfolding nnf_all nnf_at
    nnf_more = record {
      with = ap (λ (cs : List (Formula ℕ)). records_of_all (to_nnf_all (gather cs))) (formulas_to_last r m n q h s e)
          ∙ nnf_snoc (formulas_to r.constraints.now (m - 1) s) (formula_at r.constraints.now (n - 1));
    }

    pub nnf_all_length : length (nnf_all r m n) ≡ length (nnf_all r (m - 1) s) + length (nnf_at r (n - 1))
    nnf_all_length = ap length nnf_more.with ∙ length-append _ _

    pub negation_more : Ends (negation_all r m n) (negation_all r (m - 1) s) (negation_at r (n - 1))
    unfolding negation_all negation_at
    negation_more = record {
      with = ap (λ (cs : List (Formula ℕ)). records_of_all (negate_all (gather cs))) (formulas_to_last r m n q h s e)
          ∙ negation_snoc (formulas_to r.constraints.now (m - 1) s) (formula_at r.constraints.now (n - 1));
    }

    pub negation_all_length : length (negation_all r m n) ≡ length (negation_all r (m - 1) s) + length (negation_at r (n - 1))
    negation_all_length = ap length negation_more.with ∙ length-append _ _

pub ruleset lengths = (nnf_length, negation_length, nnf_all_length, negation_all_length)

-- what the check tries by itself
pub ruleset steps = (lengths, under_not, nnf_not, negation_not, nnf_none, negation_none, puts_none)

-- what takes a record, and what leaves one
pub ruleset forms = (some, start_falls, before_last, last, ends_put, small, dual_small, taken, nnf_ends, nnf_more, negation_ends, negation_more)
