-- Rounds: what is left of them, joined to what was done, is the whole. Assumes nothing.
use Prim.Native.Nat.{ℕ, suc, ◌+◌, ◌-◌, ◌<◌, ◌≤◌}
use mathlib.Core.Path.{◌≡◌, refl}
use mathlib.Core.Bool.{true, false}
use mathlib.Core.List.{List}
use native.Mathlib.Omega.{arith}
use Rattle.number.specs.Notation.{when◌then◌else◌}
use Rattle.settings.specs.declared.Settings.{Settings}
use Rattle.interval.specs.declared.Interval.{Interval}
use Rattle.constraint.specs.Constraint.{Constraint}
use Rattle.record.specs.Leaving.{◌leaving◌}
use Rattle.narrow.specs.declared.PropResult.{PropResult}
use Rattle.narrow.specs.declared.PropResult.TheVariants.{Stable}
use Rattle.narrow.specs.declared.round.Mode.{Mode}
use Rattle.narrow.specs.Narrowing.{is_changed, worse_of, joined, again, rounds, propagate}
use Rattle.narrow.specs.Modes.{in_mode, pass, pass_is}
use Rattle.narrow.proofs.Branches.{worse_stable, worse_assoc}

module _ (σ : Settings) (w : Mode) (d : Constraint) (b₀ : List Interval) where
  -- after i rounds
  pub record Going (b : List Interval) (done : PropResult) (i : ℕ) : Type 0 where
    pub whole : joined done (rounds σ (σ.rounds - i) (in_mode w d) b) ≡ propagate σ (in_mode w d) b₀

  pub begins : Going b₀ Stable 0
  unfolding propagate
  begins = let z : σ.rounds - 0 ≡ σ.rounds = omega arith in record { whole = rw z refl }

  module _ (b : List Interval) (done : PropResult) (i : ℕ) (p : Going b done i) where
    pub no_more : σ.rounds ≤ i → done leaving b ≡ propagate σ (in_mode w d) b₀
    unfolding rounds
    no_more h =
        let z : σ.rounds - i ≡ 0 = omega arith in
        rw (z, worse_stable) at p.whole

    module _ (h : i < σ.rounds) {b' : List Interval} {r u : PropResult} (e : r leaving b' ≡ pass σ w d b) (j : u ≡ worse_of done r) where
      next : joined done (again (r leaving b') (rounds σ (σ.rounds - (i + 1)) (in_mode w d))) ≡ propagate σ (in_mode w d) b₀
      unfolding rounds
      next =
          let k : σ.rounds - i ≡ suc (σ.rounds - (i + 1)) = omega arith in
          rw (k, ← pass_is, ← e) at p.whole

      pub stays : is_changed r ≡ false → u leaving b' ≡ propagate σ (in_mode w d) b₀
      unfolding again when◌then◌else◌
      stays t = rw j (rw t at next)

      pub changes : is_changed r ≡ true → Going b' u (i + 1)
      unfolding again when◌then◌else◌
      changes t = record { whole = rw (j, worse_assoc) (rw t at next) }

pub ruleset ends = (begins, no_more)
