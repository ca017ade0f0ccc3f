-- What holds of both values of a conditional holds of it. Assumes nothing.
use Rattle.std.specs.Prelude.{Bool, true, false, not, ◌||◌, T}
use Rattle.number.specs.Notation.{when◌then◌else◌}

pub either : {A : Type 0} (P : A → Type 0) (b : Bool) (x y : A) → P x → P y → P (when b then x else y)
unfolding when◌then◌else◌
either P true x y p q = p
either P false x y p q = q

-- with the test known
pub decide : {A : Type 0} (P : A → Type 0) (b : Bool) (x y : A) → (T b → P x) → (T (not b) → P y) → P (when b then x else y)
unfolding when◌then◌else◌
decide P true x y p q = p tt
decide P false x y p q = q tt

pub neither : (a b : Bool) → T (not (a || b)) → T (not a) × T (not b)
neither true b t = absurd t
neither false b t = (tt, t)
