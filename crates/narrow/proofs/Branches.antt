-- The loops over the boxes of an Or's branches, and how the answers of steps join. Assumes nothing.
use Prim.Native.Nat.{ℕ, ◌+◌, ◌<◌, ◌≤◌, min}
use mathlib.Core.Path.{◌≡◌, refl, sym, ◌∙◌}
use mathlib.Core.List.{List, [], ◌∷◌, ◌++◌}
use Rattle.std.proofs.Common.{◌⊎◌, inl, inr}
use native.Mathlib.Omega.{arith}
use lib.ListN.{length, get_or, set, take, drop}
use Rattle.std.proofs.Common.{append_assoc, length-set}
use Rattle.std.proofs.Math.Seq.{drop-set-lt}
use Rattle.std.proofs.lemmas.List.{take-append-drop, drop_all, take_more_same, take_more_set, drop_more, take-set, get_or-set_same}
use Rattle.std.proofs.lemmas.Simd.{get_or-zip2}
use Rattle.settings.specs.declared.Settings.{Settings}
use Rattle.interval.specs.declared.Interval.{Interval}
use Rattle.interval.specs.Interval.{hull}
use Rattle.record.specs.Leaving.{◌leaving◌}
use Rattle.narrow.specs.declared.PropResult.{PropResult}
use Rattle.narrow.specs.declared.PropResult.TheVariants.{Changed, Stable, Conflict}
use Rattle.narrow.specs.Narrowing.{Narrowed, worse_of, hulls, tightened, adopt}

-- ---- answers
pub worse_twice : (r : PropResult) → worse_of Changed (worse_of Changed r) ≡ worse_of Changed r
worse_twice Conflict = refl
worse_twice Changed = refl
worse_twice Stable = refl

pub worse_stable : (w : PropResult) → worse_of w Stable ≡ w
worse_stable Conflict = refl
worse_stable Changed = refl
worse_stable Stable = refl

pub worse_assoc : (u v w : PropResult) → worse_of (worse_of u v) w ≡ worse_of u (worse_of v w)
worse_assoc Conflict v w = refl
worse_assoc Changed Conflict w = refl
worse_assoc Changed Changed w = sym (worse_twice w)
worse_assoc Changed Stable w = refl
worse_assoc Stable v w = refl

-- ---- the hull of each pair
pub hulls_length : (A B : List Interval) → length (hulls A B) ≡ min (length A) (length B)
unfolding hulls
hulls_length [] B = omega arith
hulls_length (a ∷ A) [] = omega arith
hulls_length (a ∷ A) (b ∷ B) = omega (arith, hulls_length A B)

-- one more of them is written
pub hull_next : (A B X : List Interval) (i : ℕ) (d : Interval) → i < length A → i < length B → i < length X → {v : Interval} → v ≡ hull (get_or A i d) (get_or B i d)
    → take i X ≡ take i (hulls A B) → take (i + 1) (set X i v) ≡ take (i + 1) (hulls A B)
unfolding hulls
hull_next A B X i d f g h {v} e p =
    take_more_same (set X i v) (hulls A B) i d (simp length-set h) (omega (arith, hulls_length A B)) (take-set X i v ∙ p)
    (get_or-set_same X i v d h ∙ e ∙ sym (get_or-zip2 hull A B i d d d f g))

-- ---- the hull is adopted: what is left of it, joined to what was done, is the whole
module _ (σ : Settings) where
  abbrev left : List Interval → List Interval → ℕ → Narrowed
  left H B i = adopt σ (drop i H) (drop i B)

  pub record Adopting (H B₀ B : List Interval) (r : PropResult) (i : ℕ) : Type 0 where
    pub whole : (worse_of r (left H B i).answer leaving take i B ++ (left H B i).places) ≡ adopt σ H B₀

  adopt_none : (H : List Interval) → adopt σ H [] ≡ (Stable leaving [])
  unfolding adopt
  adopt_none [] = refl
  adopt_none (h ∷ H) = refl

  pub adopt_begins : (H B : List Interval) → Adopting H B B Stable 0
  adopt_begins H B = record { whole = refl }

  module _ (H B₀ B : List Interval) (r : PropResult) (i : ℕ) (p : Adopting H B₀ B r i) where
    pub adopt_next : (d : Interval) → i < length H → i < length B → {w u : PropResult} {v : Interval} → (w leaving v) ≡ tightened σ (get_or H i d) (get_or B i d)
        → u ≡ worse_of r w → Adopting H B₀ (set B i v) u (i + 1)
    unfolding adopt
    adopt_next d g h {w} {u} {v} e j =
        let rest = left H B (i + 1) in
        let all : left H B i ≡ (worse_of w rest.answer leaving (v ∷ rest.places)) = rw (drop_more H i d g, drop_more B i d h, ← e) refl in
        let past : drop (i + 1) (set B i v) ≡ drop (i + 1) B = drop-set-lt (i + 1) B i v (omega arith) in
        record { whole = rw (j, past, take_more_set B i v h, worse_assoc, append_assoc) (rw all at p.whole) }

    all_done : (length H ≤ i) ⊎ (length B ≤ i) → left H B i ≡ (Stable leaving drop i B)
    unfolding adopt
    all_done (inl h) = rw (drop_all i H h) refl
    all_done (inr h) = rw (drop_all i B h) (adopt_none (drop i H))

    pub adopt_ends : (length H ≤ i) ⊎ (length B ≤ i) → (r leaving B) ≡ adopt σ H B₀
    adopt_ends h = rw (all_done h, worse_stable, take-append-drop) at p.whole

pub ruleset adopting = (adopt_begins, adopt_ends)
