-- What the tests of the records leave in the list of starts. Assumes nothing.
use Prim.Native.Nat.{ℕ, zero, suc, ◌+◌, ◌*◌, ◌-◌, ◌≤◌, ◌<◌}
use mathlib.Core.Path.{◌≡◌, refl, sym, ap, ap₂, subst, ◌∙◌}
use mathlib.Core.Bool.{Bool}
use mathlib.Core.List.{List, [], ◌∷◌, ◌++◌}
use native.Mathlib.Omega.{arith}
use native.Mathlib.Numerals.{add-one}
use borrow.Author.Tests.{ne_eqb}
use lib.Dec.{eqb}
use lib.ListN.{length, get_or, set, take, drop}
use lib.Seq.{length-take-le}
use Rattle.std.proofs.Common.{eq-or-lt_of_le, le_of_suc-le-suc, not-suc-le-zero}
use Rattle.std.proofs.Math.Logic.{⊎_elim}
use Rattle.std.proofs.lemmas.List.{length-set, get_or-set_same, get_or-set_other, take_more_set, drop-take, take-take}
use Rattle.number.specs.Notation.{when◌then◌else◌}
use Rattle.record.specs.Refusal.{first}
use Rattle.record.specs.RefusalLaws.{first_here, none_both}
use Rattle.tree.specs.Nodes.{Valid}
use Rattle.constraint.specs.Records.{record_at, takes, record_refusal, records_refusal}
use Rattle.constraint.specs.Starts.{begun, start_at, passing, filled, starts_of, Begun, Ready}
use Rattle.constraint.specs.RecordLaws.{ready, only_left}

-- ---- how many tests come before the first that refuses
module _ (f : ℕ → ℕ) where
  passing_all : (n : ℕ) → first f n ≡ 0 → passing f n ≡ n
  unfolding passing when◌then◌else◌
  passing_all zero e = refl
  passing_all (suc n) e = ap (λ (r : ℕ). when eqb r 0 then suc n else passing f n) e

  passing_here : (r k : ℕ) → first f k ≡ 0 → f k ≡ suc r → (n : ℕ) → k < n → passing f n ≡ k
  unfolding passing when◌then◌else◌
  passing_here r k none here zero l = absurd (not-suc-le-zero l)
  passing_here r k none here (suc n) l =
      ap (λ (t : Bool). when t then suc n else passing f n) (ne_eqb (first f (suc n)) 0 (λ z. omega (arith, first_here f r k none here (suc n) l)))
      ∙ ⊎_elim (λ q. ap (passing f) (sym q) ∙ passing_all k none) (λ q. passing_here r k none here n q) (eq-or-lt_of_le (le_of_suc-le-suc l))

-- ---- places that a loop fills
module _ (f : ℕ → ℕ) (old : List ℕ) where
  length_filled : (n : ℕ) → length (filled f n old) ≡ length old
  unfolding filled
  length_filled zero = refl
  length_filled (suc n) = length-set (filled f n old) n (f n) ∙ length_filled n

  pub filled_more : (n : ℕ) → set (filled f n old) n (f n) ≡ filled f (n + 1) old
  unfolding filled
  filled_more n = ap (λ (m : ℕ). filled f m old) (sym (add-one n))

  filled_at : (n k : ℕ) → k < n → n ≤ length old → get_or (filled f n old) k 0 ≡ f k
  unfolding filled
  filled_at zero k l h = absurd (not-suc-le-zero l)
  filled_at (suc n) k l h =
      ⊎_elim
      (λ e. subst (λ (j : ℕ). get_or (set (filled f n old) n (f n)) j 0 ≡ f j) (sym e) (get_or-set_same (filled f n old) n (f n) 0 (omega (arith, length_filled n))))
      (λ q. get_or-set_other (filled f n old) n k (f n) 0 (omega arith) ∙ filled_at n k q (omega arith))
      (eq-or-lt_of_le (le_of_suc-le-suc l))

pub none_filled : (f : ℕ → ℕ) (old : List ℕ) → filled f 0 old ≡ old
unfolding filled
none_filled f old = refl

-- ---- the first records of those that are finished, at the places of the stack
module _ (b : List ℕ) (k : ℕ) (g : List ℕ) (h : ℕ) (firsts : take h g ≡ begun b k) (m : ℕ) (takes_m : m ≡ takes (record_at b k)) (enough : m ≤ h) (room : h ≤ length g)
    (base : ℕ) (here : base ≡ h - m) where
  height_is : length (begun b k) ≡ h
  height_is = ap length (sym firsts) ∙ length-take-le h g room

  base_is : length (begun b k) - takes (record_at b k) ≡ base
  base_is = ap₂ (λ (x y : ℕ). x - y) height_is (sym takes_m) ∙ sym here

  taken_is : take m (drop base g) ≡ drop base (begun b k)
  taken_is = sym (drop-take base m g) ∙ ap (λ (i : ℕ). drop base (take i g)) (omega (arith, here)) ∙ ap (drop base) firsts

  module _ (x : ℕ) (told : x ≡ get_or (take m (drop base g)) 0 k) where
    pub start_told : x ≡ start_at b k
    unfolding start_at
    start_told = told ∙ ap₂ (λ (l : List ℕ) (i : ℕ). get_or l 0 k) taken_is base_is ∙ ap (λ (i : ℕ). get_or (drop i (begun b k)) 0 k) (sym base_is)

    pub firsts_more : base < length g → take (base + 1) (set g base x) ≡ begun b (k + 1)
    unfolding begun start_at
    firsts_more l =
        take_more_set g base x l
        ∙ ap₂ (λ (u : List ℕ) (y : ℕ). u ++ y ∷ []) (sym (take-take base h g (omega (arith, here))) ∙ ap (take base) firsts) start_told
        ∙ ap (λ (i : ℕ). take i (begun b k) ++ start_at b k ∷ []) (sym base_is)
        ∙ sym (ap (begun b) (add-one k))

pub none_begun : {A : Type 0} (b g : List ℕ) (s : List A) → s ≡ [] → take (length s) g ≡ begun b 0
unfolding begun
none_begun b g s e = ap (λ (l : List _). take (length l) g) e

-- ---- of m records over n nodes
module _ (n : ℕ) (b : List ℕ) (m : ℕ) (old : List ℕ) where
  -- record k is refused
  pub refused_at : (k : ℕ) → first (record_refusal n b) k ≡ 0 → k < m → (s : List ℕ) → s ≡ filled (start_at b) k old →
      (r : ℕ) → (r ≡ 0 → ⊥) → r ≡ record_refusal n b k → s ≡ starts_of n b m old
  refused_at k none l s e zero h here = absurd (h refl)
  refused_at k none l s e (suc r) h here = e ∙ ap (λ (i : ℕ). filled (start_at b) i old) (sym (passing_here (record_refusal n b) r k none (sym here) m l))

  -- none is
  pub all_tested : (k : ℕ) (s : List ℕ) → first (record_refusal n b) k ≡ 0 → s ≡ filled (start_at b) k old → k ≤ m → m ≤ k → s ≡ starts_of n b m old
  all_tested k s none e l h =
      let is : k ≡ m = omega arith in
      let none_m = subst (λ (i : ℕ). first (record_refusal n b) i ≡ 0) is none in
      e ∙ ap (λ (i : ℕ). filled (start_at b) i old) (is ∙ sym (passing_all (record_refusal n b) m none_m))

  -- so each place has a start
  pub begun_here : (k : ℕ) → k ≤ 256 → length old ≡ 256 → (s : List ℕ) → s ≡ filled (start_at b) k old → Begun b k s
  begun_here k few room s is = record {
    room = ap length is ∙ length_filled (start_at b) old k ∙ room;
    begins = λ j l. ap (λ (x : List ℕ). get_or x j 0) is ∙ filled_at (start_at b) old k j l (omega (arith, room));
  }

  pub begun_of : first (record_refusal n b) m ≡ 0 → m ≤ 256 → length old ≡ 256 → (s : List ℕ) → s ≡ starts_of n b m old → Begun b m s
  begun_of none few room s e = begun_here m few room s (e ∙ ap (λ (i : ℕ). filled (start_at b) i old) (passing_all (record_refusal n b) m none))

pub none_first : (n : ℕ) (b : List ℕ) (m : ℕ) → records_refusal n b m ≡ 0 → first (record_refusal n b) m ≡ 0
unfolding records_refusal
none_first n b m e = (none_both (first (record_refusal n b) m) _ e).0

-- what `Records::first` makes of records that passed
module _ (nodes : List ℕ) (n : ℕ) (v : Valid nodes n) (b : List ℕ) (m : ℕ) (few : m ≤ 256) (there : 24 * m ≤ length b) (e : 0 ≡ records_refusal n b m) where
  pub ready_first : Ready nodes n b m
  ready_first = ready n nodes b m (sym e) v few there

  pub some_first : 0 < m
  some_first = (only_left n b m (sym e)).0

  pub begun_first : (old s : List ℕ) → length old ≡ 256 → s ≡ starts_of n b m old → Begun b m s
  begun_first old s room is = begun_of n b m old (none_first n b m (sym e)) few room s is
