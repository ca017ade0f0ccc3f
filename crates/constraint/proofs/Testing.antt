-- What the tests of the records know of the constraints that are finished. Assumes nothing.
use Prim.Native.Nat.{ℕ, zero, suc, ◌+◌, ◌-◌, max, ◌≤◌, ◌<◌}
use mathlib.Core.Path.{◌≡◌, refl, sym, ap, ap₂, ◌∙◌}
use mathlib.Core.Bool.{true, false, ◌&&◌}
use mathlib.Core.List.{List, [], ◌∷◌, ◌++◌, map, map-append}
use native.Mathlib.Numerals.{add-one}
use Rattle.std.proofs.Common.{fold}
use Rattle.std.proofs.lemmas.List.{length-map, take-map, drop-map}
use native.Mathlib.Omega.{arith}
use borrow.Author.Tests.{le-leb, lt-leb, eq-eqb, ne_eqb}
use lib.Dec.{eqb, leb}
use lib.ListN.{length, get_or, take, drop, length-drop, length-append, length-take}
use Rattle.record.specs.Refusal.{◌or_else◌, ◌unless◌, first}
use Rattle.record.specs.Refused.{number_of}
use Rattle.record.specs.RefusalLaws.{none_more, first_here, never_none}
use Rattle.record.specs.declared.refusal.Refusal.{Refusal}
use Rattle.constraint.specs.Constraint.{Formula, levels, levels_all, quantifiers, quantifiers_all}
use Rattle.constraint.specs.Records.{record_at, is_record, is_ranged, takes, gather, none, finish, finished, formula_at, record_refusal, records_refusal}
use Rattle.constraint.specs.Code.{greatest, binds, depths, quantified}
use Rattle.constraint.specs.declared.Record.{Record}
use Rattle.constraint.specs.declared.stack.Finished.{Finished}

-- ---- the greatest, as the code finds it
greatest_from : {A : Type 0} (f : A → ℕ) (a : ℕ) (xs : List A) → fold (λ a x. max a (f x)) a xs ≡ max a (greatest (map f xs))
unfolding greatest
greatest_from f a [] = omega arith
greatest_from f a (x ∷ xs) = greatest_from f (max a (f x)) xs ∙ omega arith

pub greatest_is : {A : Type 0} (f : A → ℕ) (xs : List A) → fold (λ a x. max a (f x)) 0 xs ≡ greatest (map f xs)
greatest_is f xs = greatest_from f 0 xs ∙ omega arith

-- ---- what a record finishes, by the greatest of what it takes
levels_gathered : (cs : List (Formula ℕ)) → levels_all (gather cs) ≡ greatest (map levels cs)
unfolding gather greatest levels_all
levels_gathered [] = refl
levels_gathered (c ∷ cs) = ap (max (levels c)) (levels_gathered cs)

quantifiers_gathered : (cs : List (Formula ℕ)) → quantifiers_all (gather cs) ≡ greatest (map quantifiers cs)
unfolding gather greatest quantifiers_all
quantifiers_gathered [] = refl
quantifiers_gathered (c ∷ cs) = ap (max (quantifiers c)) (quantifiers_gathered cs)

module _ (f : Formula ℕ → ℕ) where
  none_taken : (cs : List (Formula ℕ)) → length cs ≡ 0 → greatest (map f cs) ≡ 0
  unfolding greatest
  none_taken [] e = refl
  none_taken (c ∷ cs) e = absurd (omega arith)

  one_taken : (cs : List (Formula ℕ)) → length cs ≡ 1 → f (get_or cs 0 none) ≡ greatest (map f cs)
  unfolding greatest
  one_taken [] e = absurd (omega arith)
  one_taken (c ∷ []) e = omega arith
  one_taken (c ∷ c' ∷ cs) e = absurd (omega arith)

levels_is : (x : Record) (cs : List (Formula ℕ)) → length cs ≡ takes x → levels (finish x cs) ≡ 1 + greatest (map levels cs)
unfolding levels finish
levels_is (Record.Atom rel i) cs e = omega (arith, none_taken levels cs e)
levels_is Record.Not cs e = omega (arith, one_taken levels cs e)
levels_is (Record.And m) cs e = omega (arith, levels_gathered cs)
levels_is (Record.Or m) cs e = omega (arith, levels_gathered cs)
levels_is (Record.ForAll v lo hi) cs e = omega (arith, one_taken levels cs e)
levels_is (Record.Exists v lo hi) cs e = omega (arith, one_taken levels cs e)

quantifiers_is : (x : Record) (cs : List (Formula ℕ)) → length cs ≡ takes x → quantifiers (finish x cs) ≡ binds x + greatest (map quantifiers cs)
unfolding quantifiers finish
quantifiers_is (Record.Atom rel i) cs e = omega (arith, none_taken quantifiers cs e)
quantifiers_is Record.Not cs e = omega (arith, one_taken quantifiers cs e)
quantifiers_is (Record.And m) cs e = omega (arith, quantifiers_gathered cs)
quantifiers_is (Record.Or m) cs e = omega (arith, quantifiers_gathered cs)
quantifiers_is (Record.ForAll v lo hi) cs e = omega (arith, one_taken quantifiers cs e)
quantifiers_is (Record.Exists v lo hi) cs e = omega (arith, one_taken quantifiers cs e)

-- ---- the test of a depth and of the quantifiers
abbrev Within : ℕ → ℕ → ℕ
Within d q = 7 unless leb d 16 && leb q 4

pub none_yet : (n : ℕ) (b : List ℕ) → first (record_refusal n b) 0 ≡ 0
unfolding first
none_yet n b = refl

pub none_finished : (f : Formula ℕ → ℕ) (b : List ℕ) → map f (finished b 0) ≡ []
unfolding finished
none_finished f b = refl

module _ (n : ℕ) (b : List ℕ) (k : ℕ) (s : List Finished) (none_refused : first (record_refusal n b) k ≡ 0)
    (depths_are : depths s ≡ map levels (finished b k)) (quantified_are : quantified s ≡ map quantifiers (finished b k)) where
  pub height : length (finished b k) ≡ length s
  height = sym (length-map (finished b k) levels) ∙ ap length (sym depths_are) ∙ length-map s (λ (c : Finished). c.depth)

  -- the records before k are all
  pub one_stays : length s ≡ 1 → records_refusal n b k ≡ 0
  unfolding records_refusal
  one_stays e = simp (none_refused, height, eq-eqb _ _ e)

  pub not_one : (length s ≡ 1 → ⊥) → 7 ≡ records_refusal n b k
  unfolding records_refusal
  not_one e = simp (none_refused, height, ne_eqb _ _ e)

  -- record k is refused
  pub record_here : is_record n b k ≡ false → 5 ≡ record_refusal n b k
  unfolding record_refusal
  record_here e = simp e

  module _ (is : is_record n b k ≡ true) where
    pub few_here : length s < takes (record_at b k) → 5 ≡ record_refusal n b k
    unfolding record_refusal
    few_here h = simp (is, height, lt-leb _ _ h)

    pub range_here : takes (record_at b k) ≤ length s → is_ranged (record_at b k) ≡ false → 6 ≡ record_refusal n b k
    unfolding record_refusal
    range_here h e = simp (is, height, le-leb _ _ h, e)

  -- and so are m, of which it is one
  module _ (m : ℕ) (l : k < m) where
    refused : (x : ℕ) → (x ≡ 0 → ⊥) → x ≡ record_refusal n b k → x ≡ records_refusal n b m
    unfolding records_refusal
    refused zero h e = absurd (h refl)
    refused (suc x) h e = sym (ap (λ (y : ℕ). y or_else 7 unless eqb (length (finished b m)) 1) (first_here (record_refusal n b) x k none_refused (sym e) m l))

    pub stop : (r : Refusal) → number_of r ≡ record_refusal n b k → number_of r ≡ records_refusal n b m
    stop r e = refused (number_of r) (never_none r) e

    pub five_record : is_record n b k ≡ false → 5 ≡ records_refusal n b m
    five_record e = stop Refusal.Constraint (record_here e)

    module _ (is : is_record n b k ≡ true) where
      pub five_few : length s < takes (record_at b k) → 5 ≡ records_refusal n b m
      five_few h = stop Refusal.Constraint (few_here is h)

      pub six : takes (record_at b k) ≤ length s → is_ranged (record_at b k) ≡ false → 6 ≡ records_refusal n b m
      six h e = stop Refusal.Range (range_here is h e)

  -- record k is x, and takes m
  module _ (is : is_record n b k ≡ true) (x : Record) (ix : x ≡ record_at b k) (m : ℕ) (im : m ≡ takes x) (enough : m ≤ length s) where
    -- what is taken and what is left
    base_is : length (finished b k) - takes (record_at b k) ≡ length s - m
    base_is = ap₂ (λ (u w : ℕ). u - w) height (sym (im ∙ ap takes ix))

    new_is : formula_at b k ≡ finish x (drop (length s - m) (finished b k))
    unfolding formula_at
    new_is = ap₂ (λ (y : Record) (i : ℕ). finish y (drop i (finished b k))) (sym ix) base_is

    next_is : finished b (k + 1) ≡ take (length s - m) (finished b k) ++ formula_at b k ∷ []
    unfolding finished formula_at
    next_is = ap (finished b) (add-one k) ∙ ap (λ (i : ℕ). take i (finished b k) ++ formula_at b k ∷ []) base_is

    taken_length : length (drop (length s - m) (finished b k)) ≡ takes x
    taken_length = length-drop (length s - m) (finished b k) ∙ omega (arith, height)

    mapped : (g : Finished → ℕ) (f : Formula ℕ → ℕ) → map g s ≡ map f (finished b k) →
        map g (drop (length s - m) s) ≡ map f (drop (length s - m) (finished b k))
    mapped g f e = sym (drop-map g (length s - m) s) ∙ ap (drop (length s - m)) e ∙ drop-map f (length s - m) (finished b k)

    -- those that are taken
    module _ (cs : List Finished) (ec : cs ≡ drop (length s - m) s) where
      told : (g : Finished → ℕ) (f : Formula ℕ → ℕ) → map g s ≡ map f (finished b k) → map g cs ≡ map f (drop (length s - m) (finished b k))
      told g f e = ap (map g) ec ∙ mapped g f e

      depth_told : 1 + greatest (depths cs) ≡ levels (formula_at b k)
      depth_told = ap (λ (l : List ℕ). 1 + greatest l) (told (λ c. c.depth) levels depths_are) ∙ sym (ap levels new_is ∙ levels_is x _ taken_length)

      quantifiers_told : binds x + greatest (quantified cs) ≡ quantifiers (formula_at b k)
      quantifiers_told = ap (λ (l : List ℕ). binds x + greatest l) (told (λ c. c.quantifiers) quantifiers quantified_are) ∙ sym (ap quantifiers new_is ∙ quantifiers_is x _ taken_length)

      module _ (ranged : is_ranged x ≡ true) where
        pub seven : record_refusal n b k ≡ Within (1 + greatest (depths cs)) (binds x + greatest (quantified cs))
        unfolding record_refusal
        seven = simp (is, height, sym ix, sym im, le-leb _ _ enough, ranged, depth_told, quantifiers_told)

        -- it passes, and is finished
        snoc : (g : Finished → ℕ) (f : Formula ℕ → ℕ) (c : Finished) → map g s ≡ map f (finished b k) → g c ≡ f (formula_at b k) →
            map g (take (length s - m) s ++ c ∷ []) ≡ map f (finished b (k + 1))
        snoc g f c e h =
            map-append g (take (length s - m) s) (c ∷ [])
            ∙ ap₂ (λ (l : List ℕ) (i : ℕ). l ++ i ∷ []) (sym (take-map g (length s - m) s) ∙ ap (take (length s - m)) e ∙ take-map f (length s - m) (finished b k)) h
            ∙ sym (ap (map f) next_is ∙ map-append f (take (length s - m) (finished b k)) (formula_at b k ∷ []))

        module _ (c : Finished) (s' : List Finished) (e : s' ≡ take (length s - m) s ++ c ∷ []) where
          pub depths_more : c.depth ≡ 1 + greatest (depths cs) → depths s' ≡ map levels (finished b (k + 1))
          depths_more h = rw e (snoc (λ c. c.depth) levels c depths_are (h ∙ depth_told))

          pub quantified_more : c.quantifiers ≡ binds x + greatest (quantified cs) → quantified s' ≡ map quantifiers (finished b (k + 1))
          quantified_more h = rw e (snoc (λ c. c.quantifiers) quantifiers c quantified_are (h ∙ quantifiers_told))

pub ruleset records_tests = (length-append, length-take, none_yet, none_finished, none_more, five_record, five_few, six, seven, depths_more, quantified_more, stop, one_stays, not_one)
