-- Laws of constraint records that passed: what a function that reads them cites. Assumes nothing.
use Prim.Native.Nat.{ℕ, zero, suc, ◌+◌, ◌*◌, ◌-◌, ◌≤◌, ◌<◌}
use Rattle.std.specs.Prelude.{◌≡◌, refl, Bool, true, false, ◌&&◌, T, leb, ltb, eqb, Float, get_or}
use Rattle.std.proofs.Common.{sym, ◌∙◌, subst, length-append}
use Rattle.std.proofs.Math.Path.{ap, ap₂}
use mathlib.Core.List.{List, [], ◌∷◌, ◌++◌, map, map-append}
use native.Mathlib.Omega.{arith}
use borrow.Author.Tests.{leb-true, ltb-true, eqb-true}
use Rattle.std.specs.Float.{binary64}
use Rattle.std.specs.Float.Ieee.{fits}
use Rattle.std.specs.Float.Ieee.Bits.{of_bits-fits}
use Rattle.std.proofs.Math.ListN.{length}
use Rattle.number.specs.Notation.{when◌then◌else◌}
use Rattle.record.specs.Bytes.{u32_at, u64_at, f64_at}
use Rattle.record.specs.Refusal.{◌unless◌, first}
use Rattle.record.specs.RefusalLaws.{both, none_both, none_unless, none_of_each}
use Rattle.tree.specs.Nodes.{tree_at, Valid}
use Rattle.tree.specs.NodeLaws.{prefix as nodes-prefix}
use Rattle.constraint.specs.Constraint.{Formula, Atom, Not, And, Or, ForAll, Exists, map_formula, levels, quantifiers}
use Rattle.constraint.specs.Records.{record_at, is_record, is_ranged, takes, none, finish, finished, formula_at, constraint_at, record_refusal, records_refusal}
use Rattle.constraint.specs.Starts.{start_at, formulas_to, up_to, Ready}
use Rattle.constraint.specs.Views.{record_of, constraint_of, constraints_before, Taken}
use Rattle.constraint.specs.Code.{Writable}
use Rattle.constraint.specs.FormulaLaws.{levels_map, quantifiers_map, gather_map}
use Rattle.constraint.specs.StartLaws.{chain, formula_of, start_below, length_formulas, height_below}
use Rattle.constraint.specs.declared.Relation.{Relation}
use Rattle.constraint.specs.declared.Record.{Record}
use Rattle.constraint.specs.declared.records.Records.{Records}

-- ---- what a record that is one says
abbrev Right : ℕ → Record → Type 0
Right n (Record.Atom rel i) = i < n
Right n Record.Not = Unit {0}
Right n (Record.And m) = Unit {0}
Right n (Record.Or m) = Unit {0}
Right n (Record.ForAll v lo hi) = (v < 16) × T (fits binary64 lo) × T (fits binary64 hi)
Right n (Record.Exists v lo hi) = (v < 16) × T (fits binary64 lo) × T (fits binary64 hi)

right_of : (n arg : ℕ) (rel : Relation) (lo hi : Float) → T (fits binary64 lo) → T (fits binary64 hi) → (atom not and or forall exists arg0 blank : Bool) →
    (when atom then ltb arg n && blank else when not then arg0 && blank else when and then blank else when or then blank else when forall then ltb arg 16 else when exists then ltb arg 16 else false) ≡ true →
    Right n (when atom then Record.Atom rel arg else when not then Record.Not else when and then Record.And arg else when or then Record.Or arg else when forall then Record.ForAll arg lo hi else Record.Exists arg lo hi)
unfolding when◌then◌else◌
right_of n arg rel lo hi l h true not and or forall exists arg0 blank e = ltb-true arg n (both (ltb arg n) blank e).0
right_of n arg rel lo hi l h false true and or forall exists arg0 blank e = tt
right_of n arg rel lo hi l h false false true or forall exists arg0 blank e = tt
right_of n arg rel lo hi l h false false false true forall exists arg0 blank e = tt
right_of n arg rel lo hi l h false false false false true exists arg0 blank e = (ltb-true arg 16 e, l, h)
right_of n arg rel lo hi l h false false false false false true arg0 blank e = (ltb-true arg 16 e, l, h)
right_of n arg rel lo hi l h false false false false false false arg0 blank e = absurd (subst T (sym e) tt)

right : (n : ℕ) (b : List ℕ) (k : ℕ) → is_record n b k ≡ true → Right n (record_at b k)
unfolding is_record record_at f64_at
right n b k e =
    let at = 24 * k in
    let kind = u32_at b at in
    let arg = u32_at b (at + 4) in
    right_of n arg _ _ _ (of_bits-fits binary64 _) (of_bits-fits binary64 _) (ltb kind 6) (eqb kind 6) (eqb kind 7) (eqb kind 8) (eqb kind 9) (eqb kind 10) (eqb arg 0) (eqb (u64_at b (at + 8)) 0 && eqb (u64_at b (at + 16)) 0) e

-- ---- a record that passed
pub record Stands (n : ℕ) (b : List ℕ) (k : ℕ) : Type 0 where
  formed : is_record n b k ≡ true
  pub enough : takes (record_at b k) ≤ length (finished b k)
  pub ranged : is_ranged (record_at b k) ≡ true
  pub shallow : levels (formula_at b k) ≤ 16
  pub few : quantifiers (formula_at b k) ≤ 4

pub stands : (n : ℕ) (b : List ℕ) (k : ℕ) → record_refusal n b k ≡ 0 → Stands n b k
unfolding record_refusal
stands n b k e =
    let t = leb (takes (record_at b k)) (length (finished b k)) in
    let l = leb (levels (formula_at b k)) 16 in
    let q = leb (quantifiers (formula_at b k)) 4 in
    let w = none_both (5 unless is_record n b k && t) _ e in
    let x = both (is_record n b k) t (none_unless 4 (is_record n b k && t) w.0) in
    let y = none_both (6 unless is_ranged (record_at b k)) _ w.1 in
    let z = both l q (none_unless 6 (l && q) y.1) in
    record { formed = x.0; enough = leb-true _ _ x.1; ranged = none_unless 5 (is_ranged (record_at b k)) y.0; shallow = leb-true _ _ z.0; few = leb-true _ _ z.1 }

-- it can be written again
pub writable : (n : ℕ) (b : List ℕ) (k : ℕ) → k < 1024 → Stands n b k → Writable n (record_at b k)
writable n b k h s = of (record_at b k) refl
  where
    says : (x : Record) → record_at b k ≡ x → Right n x × (takes x ≤ length (finished b k))
    says x e = subst (λ (y : Record). Right n y × (takes y ≤ length (finished b k))) e (right n b k s.formed, s.enough)

    of : (x : Record) → record_at b k ≡ x → Writable n x
    of (Record.Atom rel i) e = (says (Record.Atom rel i) e).0
    of Record.Not e = tt
    of (Record.And m) e = omega (arith, (says (Record.And m) e).1, height_below b k)
    of (Record.Or m) e = omega (arith, (says (Record.Or m) e).1, height_below b k)
    of (Record.ForAll v lo hi) e = (says (Record.ForAll v lo hi) e).0
    of (Record.Exists v lo hi) e = (says (Record.Exists v lo hi) e).0

writable_more : (n m : ℕ) → n ≤ m → (x : Record) → Writable n x → Writable m x
writable_more n m l (Record.Atom rel i) h = omega arith
writable_more n m l Record.Not h = h
writable_more n m l (Record.And k) h = h
writable_more n m l (Record.Or k) h = h
writable_more n m l (Record.ForAll v lo hi) h = h
writable_more n m l (Record.Exists v lo hi) h = h

-- ---- from the tests to each record, and the formula that is left
module _ (count : ℕ) (b : List ℕ) (n : ℕ) (e : records_refusal count b n ≡ 0) where
  tests : (first (record_refusal count b) n ≡ 0) × (length (finished b n) ≡ 1)
  unfolding records_refusal
  tests =
      let w = none_both (first (record_refusal count b) n) _ e in
      (w.0, eqb-true _ _ (none_unless 6 (eqb (length (finished b n)) 1) w.1))

  pub each_stands : (k : ℕ) → k < n → Stands count b k
  each_stands k l = stands count b k (none_of_each (record_refusal count b) n tests.0 k l)

  -- the only one that is left is the last record's
  pub only_left : (0 < n) × (finished b n ≡ formula_at b (n - 1) ∷ [])
  only_left = go n tests.1
    where
      only : (xs : List (Formula ℕ)) (c : Formula ℕ) → length (xs ++ c ∷ []) ≡ 1 → xs ++ c ∷ [] ≡ c ∷ []
      only [] c h = refl
      only (x ∷ xs) c h = absurd (omega (arith, length-append xs (c ∷ [])))

      go : (n : ℕ) → length (finished b n) ≡ 1 → (0 < n) × (finished b n ≡ formula_at b (n - 1) ∷ [])
      go zero h = absurd (unfold finished in omega arith)
      go (suc n) h =
          let m : n ≡ suc n - 1 = omega arith in
          (omega arith, chain b n ∙ only (finished b (start_at b n)) (formula_at b n) (sym (ap length (chain b n)) ∙ h) ∙ ap (λ (i : ℕ). formula_at b i ∷ []) m)

-- what takes one takes formula k - 1
some_before : (b : List ℕ) (n : ℕ) → 1 ≤ length (finished b n) → 0 < n
unfolding finished
some_before b zero h = absurd (omega arith)
some_before b (suc n) h = omega arith

one_taken : (b : List ℕ) (n : ℕ) → 0 < n → get_or (formulas_to b 1 n) 0 none ≡ formula_at b (n - 1)
unfolding formulas_to
one_taken b zero h = absurd (omega arith)
one_taken b (suc n) h = ap (formula_at b) (omega arith)

-- ---- records that passed
pub ready : (count : ℕ) (nodes b : List ℕ) (n : ℕ) → records_refusal count b n ≡ 0 → Valid nodes count → n ≤ 256 → 24 * n ≤ length b → Ready nodes count b n
ready count nodes b n e v few there = record {
  valid = v;
  few = few;
  there = there;
  passed = none_of_each (record_refusal count b) n (tests count b n e).0;
}

pub fewer : {nodes b : List ℕ} {count n : ℕ} → Ready nodes count b n → (m : ℕ) → m ≤ n → Ready nodes count b m
fewer p m h = record {
  valid = p.valid;
  few = omega (arith, p.few);
  there = omega (arith, p.there);
  passed = λ k l. p.passed k (omega arith);
}

module _ (r : Records) where
  abbrev nodes : List ℕ
  nodes = r.nodes.now

  abbrev b : List ℕ
  b = r.constraints.now

  -- record k, by what it says
  module _ (k : ℕ) (l : k < r.count) where
    here : Stands r.node_count b k
    here = stands r.node_count b k (r.ready.passed k l)

    pub record_there : 24 * k + 24 ≤ length b
    record_there = omega (arith, r.ready.there)

    pub levels_few : levels (constraint_of r k) ≤ 16
    unfolding constraint_at
    levels_few = rw (levels_map (tree_at nodes) (formula_at b k)) here.shallow

    pub quantifiers_few : quantifiers (constraint_of r k) ≤ 4
    unfolding constraint_at
    quantifiers_few = rw (quantifiers_map (tree_at nodes) (formula_at b k)) here.few

    -- its constraint, by its formula
    mapped : {c : Formula ℕ} → formula_at b k ≡ c → constraint_of r k ≡ map_formula (tree_at nodes) c
    unfolding constraint_at
    mapped e = ap (map_formula (tree_at nodes)) e

    module _ (x : Record) (e : record_of r k ≡ x) where
      over_count : Writable r.node_count x
      over_count = subst (Writable r.node_count) e (writable r.node_count b k (omega (arith, r.ready.few)) here)

      pub writable_here : Writable 1024 x
      writable_here = writable_more r.node_count 1024 r.ready.valid.few x over_count

      enough_here : takes x ≤ length (finished b k)
      enough_here = subst (λ (y : Record). takes y ≤ length (finished b k)) e here.enough

      pub formula_here : formula_at b k ≡ finish x (formulas_to b (takes x) k)
      formula_here = formula_of b k here.enough ∙ ap (λ (y : Record). finish y (formulas_to b (takes y) k)) e

      pub taken_here : (m : ℕ) → m ≡ takes x → Taken r m k
      taken_here m t = record { within = omega arith; enough = omega (arith, enough_here) }

    module _ (x : Record) (e : record_of r k ≡ x) (one : takes x ≡ 1) where
      pub inside : (0 < k) × (k - 1 < r.count)
      inside =
          let h = some_before b k (omega (arith, enough_here x e)) in
          (h, omega arith)

      pub inside_is : get_or (formulas_to b (takes x) k) 0 none ≡ formula_at b (k - 1)
      inside_is = ap (λ (m : ℕ). get_or (formulas_to b m k) 0 none) one ∙ one_taken b k inside.0

    module _ (rel : Relation) (i : ℕ) (e : record_of r k ≡ Record.Atom rel i) where
      pub at_atom : constraint_of r k ≡ Atom rel (tree_at nodes i)
      unfolding map_formula finish
      at_atom = mapped (formula_here (Record.Atom rel i) e)

      pub atom_node : Valid nodes (i + 1)
      atom_node = nodes-prefix nodes r.node_count r.ready.valid (i + 1) (omega (arith, over_count (Record.Atom rel i) e))

    pub formula_not : record_of r k ≡ Record.Not → formula_at b k ≡ Not (formula_at b (k - 1))
    unfolding finish
    formula_not e = formula_here Record.Not e ∙ ap Not (inside_is Record.Not e refl)

    pub at_not : record_of r k ≡ Record.Not → constraint_of r k ≡ Not (constraint_of r (k - 1))
    unfolding map_formula constraint_at
    at_not e = mapped (formula_not e)

    module _ (m : ℕ) (e : record_of r k ≡ Record.And m) where
      pub at_and : constraint_of r k ≡ And (constraints_before r m k)
      unfolding map_formula up_to finish
      at_and = mapped (formula_here (Record.And m) e) ∙ ap And (gather_map (tree_at nodes) (formulas_to b m k))

      pub and_taken : Taken r m k
      and_taken = taken_here (Record.And m) e m refl

    module _ (m : ℕ) (e : record_of r k ≡ Record.Or m) where
      pub at_or : constraint_of r k ≡ Or (constraints_before r m k)
      unfolding map_formula up_to finish
      at_or = mapped (formula_here (Record.Or m) e) ∙ ap Or (gather_map (tree_at nodes) (formulas_to b m k))

      pub or_taken : Taken r m k
      or_taken = taken_here (Record.Or m) e m refl

    module _ (v : ℕ) (lo hi : Float) (e : record_of r k ≡ Record.ForAll v lo hi) where
      pub at_forall : constraint_of r k ≡ ForAll v lo hi (constraint_of r (k - 1))
      unfolding map_formula constraint_at finish
      at_forall = mapped (formula_here (Record.ForAll v lo hi) e ∙ ap (ForAll v lo hi) (inside_is (Record.ForAll v lo hi) e refl))

    module _ (v : ℕ) (lo hi : Float) (e : record_of r k ≡ Record.Exists v lo hi) where
      pub at_exists : constraint_of r k ≡ Exists v lo hi (constraint_of r (k - 1))
      unfolding map_formula constraint_at finish
      at_exists = mapped (formula_here (Record.Exists v lo hi) e ∙ ap (Exists v lo hi) (inside_is (Record.Exists v lo hi) e refl))

  -- ---- those that a record takes: all but the last, and the last
  module _ (m n : ℕ) (q : Taken r m n) where
    pub few_taken : (m ≤ 256) × (length (formulas_to b m n) ≡ m)
    few_taken = (omega (arith, q.enough, q.within, r.ready.few, height_below b n), length_formulas b m n q.enough)

    pub no_formulas : m ≡ 0 → formulas_to b m n ≡ []
    unfolding formulas_to
    no_formulas e = ap (λ (i : ℕ). formulas_to b i n) e

    pub none_taken : m ≡ 0 → up_to nodes b m n ≡ []
    unfolding up_to
    none_taken e = ap (map (map_formula (tree_at nodes))) (no_formulas e)

    module _ (h : m ≡ 0 → ⊥) where
      pub some : 0 < n
      some = go n q.enough
        where
          go : (n : ℕ) → m ≤ length (finished b n) → 0 < n
          go zero g = absurd (h (unfold finished in omega arith))
          go (suc n) g = omega arith

      pub last : n - 1 < r.count
      last = omega (arith, some, q.within)

      -- at the first record of the last
      module _ (s : ℕ) (is_start : s ≡ start_at b (n - 1)) where
        pub start_falls : s < n
        start_falls = omega (arith, some, is_start, start_below b (n - 1))

        pub before_last : Taken r (m - 1) s
        before_last =
            let c : n ≡ suc (n - 1) = omega (arith, some) in
            let k = ap (λ (i : ℕ). length (finished b i)) c ∙ ap length (chain b (n - 1)) ∙ length-append (finished b (start_at b (n - 1))) (formula_at b (n - 1) ∷ []) in
            let r = ap (λ (i : ℕ). length (finished b i)) is_start in
            record { within = omega (arith, start_falls, q.within); enough = omega (arith, q.enough) }

        pub formulas_to_last : formulas_to b m n ≡ formulas_to b (m - 1) s ++ formula_at b (n - 1) ∷ []
        unfolding formulas_to
        formulas_to_last =
            let a : m ≡ suc (m - 1) = omega arith in
            let c : n ≡ suc (n - 1) = omega (arith, some) in
            ap₂ (formulas_to b) a c ∙ ap (λ (i : ℕ). formulas_to b (m - 1) i ++ formula_at b (n - 1) ∷ []) (sym is_start)

        pub up_to_last : up_to nodes b m n ≡ up_to nodes b (m - 1) s ++ constraint_of r (n - 1) ∷ []
        unfolding up_to constraint_at
        up_to_last = ap (map (map_formula (tree_at nodes))) formulas_to_last ∙ map-append (map_formula (tree_at nodes)) (formulas_to b (m - 1) s) (formula_at b (n - 1) ∷ [])
