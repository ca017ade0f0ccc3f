-- What the check and the residual have alike, so that one recursion over a constraint's records makes either: a measure of a constraint at a
-- point, by its parts. σ are the settings.
use Rattle.std.specs.Prelude.{◌≡◌, ℕ, Bool, true, false, not, ◌&&◌, ◌||◌, List, [], ◌∷◌, ◌++◌, set, Float, Result}
use Rattle.std.specs.List.{fold}
use Rattle.std.specs.Result.{result_unwrap_or}
use Rattle.std.specs.Float.{binary64}
use Rattle.number.specs.Notation.{◌⊕◌, whole, +∞}
use Rattle.number.specs.Sign.{abs_of}
use Rattle.number.specs.MaxMin.{max_of, min_of}
use Rattle.number.specs.Halving.{mid}
use Rattle.settings.specs.declared.Settings.{Settings}
use Rattle.tree.specs.Tree.{Tree}
use Rattle.constraint.specs.declared.Relation.{Relation}
use Rattle.constraint.specs.Constraint.{Constraint, Constraints, Atom, Not, And, Or, ForAll, Exists, end}
use Rattle.constraint.specs.Records.{gather}
use Rattle.point.specs.declared.eval.EvalError.{EvalError}
use Rattle.point.specs.declared.helpers.Each.{Each}
use Rattle.point.specs.Eval.{eval_real}
use Rattle.point.specs.Residual.{shortfall, error_value}

-- And and ForAll ask of all, Or and Exists of any
abbrev pub joined : Each → Constraints → Constraint
joined Each.All cs = And cs
joined Each.Any cs = Or cs

abbrev pub quantified : Each → ℕ → Float → Float → Constraint → Constraint
quantified Each.All v lo hi c = ForAll v lo hi c
quantified Each.Any v lo hi c = Exists v lo hi c

-- a quantifier's samples
abbrev pub samples_of : Float → Float → List Float
samples_of lo hi = lo ∷ mid binary64 lo hi ∷ hi ∷ []

-- the measure of an atom, by its tree's value; of Not, by what it denies; of none; with one constraint more; with one sample more; and where
-- no more alters it
pub record Measures {A : Type 0}
    (measure : Settings → List Float → Constraint → A)
    (atom : Settings → Relation → Result Float EvalError → A)
    (denied : A → A)
    (none : Each → A)
    (one_more sample_more : Each → A → A → A)
    (is_settled : Each → A → Bool) : Type 0 where
  pub of_atom : (σ : Settings) (p : List Float) (rel : Relation) (t : Tree) → measure σ p (Atom rel t) ≡ atom σ rel (eval_real σ p t)
  pub of_not : (σ : Settings) (p : List Float) (c : Constraint) → measure σ p (Not c) ≡ denied (measure σ p c)
  pub of_none : (σ : Settings) (p : List Float) (each : Each) → measure σ p (joined each end) ≡ none each
  pub of_more : (σ : Settings) (p : List Float) (each : Each) (cs : List Constraint) (c : Constraint) →
      measure σ p (joined each (gather (cs ++ c ∷ []))) ≡ one_more each (measure σ p (joined each (gather cs))) (measure σ p c)
  pub of_samples : (σ : Settings) (p : List Float) (each : Each) (v : ℕ) (lo hi : Float) (c : Constraint) →
      measure σ p (quantified each v lo hi c) ≡ fold (λ m x. sample_more each m (measure σ (set p v x) c)) (none each) (samples_of lo hi)
  pub settled : (each : Each) (m n : A) → is_settled each m ≡ true → (one_more each m n ≡ m) × (sample_more each m n ≡ m)

-- ---- the check's parts
abbrev pub passes_none : Each → Bool
passes_none Each.All = true
passes_none Each.Any = false

abbrev pub passes_more : Each → Bool → Bool → Bool
passes_more Each.All x y = x && y
passes_more Each.Any x y = x || y

abbrev pub is_decided : Each → Bool → Bool
is_decided Each.All x = not x
is_decided Each.Any x = x

-- ---- the residual's
abbrev pub residual_of_atom : Settings → Relation → Result Float EvalError → Float
residual_of_atom σ rel x = shortfall rel (result_unwrap_or x (error_value rel))

abbrev pub residual_of_none : Each → Float
residual_of_none Each.All = whole 0
residual_of_none Each.Any = +∞

abbrev pub residual_with_one : Each → Float → Float → Float
residual_with_one Each.All x y = x ⊕ abs_of y
residual_with_one Each.Any x y = min_of x (abs_of y)

abbrev pub residual_with_sample : Each → Float → Float → Float
residual_with_sample Each.All x y = max_of x (abs_of y)
residual_with_sample Each.Any x y = min_of x (abs_of y)

abbrev pub never_settled : Each → Float → Bool
never_settled each x = false
