-- A normal form has as many records as were given that are no Not. Assumes nothing.
use Prim.Native.Nat.{ℕ, zero, suc, ◌+◌, ◌-◌, ◌≤◌}
use Rattle.std.specs.Prelude.{◌≡◌, List, [], ◌∷◌, ◌++◌, get_or, take, drop}
use Rattle.std.proofs.Math.Path.{refl, sym}
use Rattle.std.proofs.Common.{ap, ◌∙◌, add-zero, arith, length-append, length-drop}
use Rattle.std.proofs.Math.ListN.{length}
use Rattle.constraint.specs.declared.Record.{Record}
use Rattle.constraint.specs.Constraint.{Formula, Formulas, Atom, Not, And, Or, ForAll, Exists, end, ◌⨾◌}
use Rattle.constraint.specs.Records.{record_at, takes, gather, none, finish, finished, records_refusal}
use Rattle.constraint.specs.Encoding.{records_of, records_of_all}
use Rattle.constraint.specs.RecordLaws.{each_stands, only_left}
use Rattle.normal.specs.NormalForm.{to_nnf, negate, to_nnf_all, negate_all}
use Rattle.normal.specs.Given.{kept_of, count_kept, nnf_records}
use Rattle.normal.specs.WrittenLaws.{nnf_finish}

-- ---- of records
one_at_most : (r : Record) → kept_of r ≤ 1
one_at_most (Record.Atom rel i) = omega arith
one_at_most Record.Not = omega arith
one_at_most (Record.And m) = omega arith
one_at_most (Record.Or m) = omega arith
one_at_most (Record.ForAll v lo hi) = omega arith
one_at_most (Record.Exists v lo hi) = omega arith

pub kept_few : (b : List ℕ) (k : ℕ) → count_kept b k ≤ k
unfolding count_kept
kept_few b zero = omega arith
kept_few b (suc k) = omega (arith, kept_few b k, one_at_most (record_at b k))

-- ---- a negation has as many as the normal form
one_more : (xs ys : List Record) (x y : Record) → length xs ≡ length ys → length (xs ++ x ∷ []) ≡ length (ys ++ y ∷ [])
one_more xs ys x y e = omega (arith, length-append xs (x ∷ []), length-append ys (y ∷ []))

mutual
  unfolding records_of to_nnf

  as_many : (c : Formula ℕ) → length (records_of (negate c)) ≡ length (records_of (to_nnf c))
  as_many (Atom rel i) = refl
  as_many (Not c) = sym (as_many c)
  as_many (And cs) = one_more (records_of_all (negate_all cs)) (records_of_all (to_nnf_all cs)) _ _ (as_many_all cs)
  as_many (Or cs) = one_more (records_of_all (negate_all cs)) (records_of_all (to_nnf_all cs)) _ _ (as_many_all cs)
  as_many (ForAll v lo hi c) = one_more (records_of (negate c)) (records_of (to_nnf c)) _ _ (as_many c)
  as_many (Exists v lo hi c) = one_more (records_of (negate c)) (records_of (to_nnf c)) _ _ (as_many c)

  as_many_all : (cs : Formulas ℕ) → length (records_of_all (negate_all cs)) ≡ length (records_of_all (to_nnf_all cs))
  as_many_all end = refl
  as_many_all (c ⨾ cs) =
      omega (
        arith,
        length-append (records_of (negate c)) (records_of_all (negate_all cs)),
        length-append (records_of (to_nnf c)) (records_of_all (to_nnf_all cs)),
        as_many c,
        as_many_all cs,
      )

-- ---- of those that are finished
abbrev kept : Formula ℕ → ℕ
kept c = length (records_of (to_nnf c))

total : List (Formula ℕ) → ℕ
total [] = 0
total (c ∷ cs) = kept c + total cs

total_gather : (cs : List (Formula ℕ)) → length (records_of_all (to_nnf_all (gather cs))) ≡ total cs
unfolding total gather records_of to_nnf
total_gather [] = refl
total_gather (c ∷ cs) = length-append (records_of (to_nnf c)) (records_of_all (to_nnf_all (gather cs))) ∙ ap (λ (n : ℕ). kept c + n) (total_gather cs)

total_snoc : (cs : List (Formula ℕ)) (c : Formula ℕ) → total (cs ++ c ∷ []) ≡ total cs + kept c
unfolding total
total_snoc [] c = omega arith
total_snoc (x ∷ cs) c = omega (arith, total_snoc cs c)

total_split : (n : ℕ) (cs : List (Formula ℕ)) → total (take n cs) + total (drop n cs) ≡ total cs
unfolding total
total_split zero cs = omega arith
total_split (suc n) [] = omega arith
total_split (suc n) (c ∷ cs) = omega (arith, total_split n cs)

total_one : (cs : List (Formula ℕ)) → length cs ≡ 1 → kept (get_or cs 0 none) ≡ total cs
unfolding total
total_one [] e = absurd (omega arith)
total_one (c ∷ []) e = omega arith
total_one (c ∷ d ∷ cs) e = absurd (omega arith)

finish_kept : (x : Record) (cs : List (Formula ℕ)) → length cs ≡ takes x → kept (finish x cs) ≡ total cs + kept_of x
finish_kept x cs e = of x e
  where
    kept_too : (x : Record) → length cs ≡ takes x → (x ≡ Record.Not → ⊥) → kept (finish x cs) ≡ total cs + 1
    kept_too x e h = ap length (nnf_finish x cs e h) ∙ length-append (records_of_all (to_nnf_all (gather cs))) (x ∷ []) ∙ ap (λ (n : ℕ). n + 1) (total_gather cs)

    of : (x : Record) → length cs ≡ takes x → kept (finish x cs) ≡ total cs + kept_of x
    of (Record.Atom rel i) e = kept_too (Record.Atom rel i) e (λ z. cc)
    of Record.Not e = unfold finish to_nnf in as_many (get_or cs 0 none) ∙ total_one cs e ∙ sym (add-zero _)
    of (Record.And m) e = kept_too (Record.And m) e (λ z. cc)
    of (Record.Or m) e = kept_too (Record.Or m) e (λ z. cc)
    of (Record.ForAll v lo hi) e = kept_too (Record.ForAll v lo hi) e (λ z. cc)
    of (Record.Exists v lo hi) e = kept_too (Record.Exists v lo hi) e (λ z. cc)

-- ---- of accepted records
module _ (count : ℕ) (b : List ℕ) (n : ℕ) (p : records_refusal count b n ≡ 0) where
  all_kept : (k : ℕ) → k ≤ n → total (finished b k) ≡ count_kept b k
  unfolding finished count_kept total
  all_kept zero h = refl
  all_kept (suc k) h =
      let before = finished b k in
      let base = length before - takes (record_at b k) in
      let e = (each_stands count b n p k h).enough in
      total_snoc (take base before) _
      ∙ omega (arith, total_split base before, all_kept k (omega arith), finish_kept (record_at b k) (drop base before) (length-drop base before ∙ omega arith))

  -- what is left
  pub nnf_count : length (nnf_records b n) ≡ count_kept b n
  unfolding nnf_records total
  nnf_count = sym (add-zero _) ∙ sym (ap total (only_left count b n p).1) ∙ all_kept n (omega arith)
