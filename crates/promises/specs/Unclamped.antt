-- Evaluation with no clamp at all, and what it means that a constraint is met by some of its atoms without clamping. The laws are for `Strict`.
-- Assumes nothing.
use Rattle.std.specs.Prelude.{◌≡◌, refl, Bool, true, false, not, ◌&&◌, ◌||◌, ◌⊎◌, List, Float, Result, Ok, Err}
use Rattle.std.proofs.Common.{sym, ap, ◌∙◌, inl, inr, ⊎_elim}
use Rattle.std.proofs.lemmas.Bool.{or_parts, not-true}
use Rattle.std.specs.Float.Ieee.{neg}
use Rattle.number.specs.Notation.{when◌then◌else◌, ◌≺◌, whole}
use Rattle.maths.specs.declared.Complex.{Complex}
use Rattle.maths.specs.Cplx.{complex_exp, complex_ln}
use Rattle.record.specs.RefusalLaws.{both}
use Rattle.settings.specs.declared.Settings.{Settings}
use Rattle.tree.specs.Tree.{Tree}
use Rattle.constraint.specs.declared.Relation.{Relation}
use Rattle.constraint.specs.Constraint.{Constraint, Constraints, Atom, Not, And, Or, ForAll, Exists, end, ◌⨾◌}
use Rattle.point.specs.declared.eval.EvalError.{EvalError}
use Rattle.point.specs.Eval.{real, difference, clamped, beyond, numeric, eml_complex, variable, and_then, eval_complex, real_part, eval_real}
use Rattle.point.specs.Check.{holds, passes, check, check_all, check_any}

-- ---- evaluation with no clamp at all: exp of the left value as it is
unfoldable pub eml_unclamped : Complex → Complex → Result Complex EvalError
eml_unclamped l r = numeric (difference (complex_exp l) (complex_ln r))

unfoldable pub unclamped : List Float → Tree → Result Complex EvalError
unclamped p Tree.One = Ok (real (whole 1))
unclamped p (Tree.Const v) = Ok (real v)
unclamped p (Tree.Var i) = variable p i
unclamped p (Tree.Eml l r) = and_then (unclamped p l) λ a. and_then (unclamped p r) λ b. eml_unclamped a b

unfoldable pub unclamped_real : List Float → Tree → Result Float EvalError
unclamped_real p t = and_then (unclamped p t) real_part

-- ---- the nodes beyond the clamp
-- a left value, whose real part is not beyond `most`
abbrev pub left_within : Float → Result Complex EvalError → Bool
left_within most (Ok a) = not (beyond most a.re)
left_within most (Err e) = false

-- each Eml node of the tree has such a left value, in the evaluation with no clamp at all
unfoldable pub none_beyond : Float → List Float → Tree → Bool
none_beyond most p Tree.One = true
none_beyond most p (Tree.Const v) = true
none_beyond most p (Tree.Var i) = true
none_beyond most p (Tree.Eml l r) = left_within most (unclamped p l) && (none_beyond most p l && none_beyond most p r)

-- ---- a constraint that is met by some of its atoms
-- positive and quantifier-free: no Not, no ForAll and no Exists in it
unfoldable mutual
  pub positive : Constraint → Bool
  positive (Atom rel t) = true
  positive (Not c) = false
  positive (And cs) = each_positive cs
  positive (Or cs) = each_positive cs
  positive (ForAll v lo hi c) = false
  positive (Exists v lo hi c) = false

  pub each_positive : Constraints → Bool
  each_positive end = true
  each_positive (c ⨾ cs) = positive c && each_positive cs

-- an atom that made it true, at the point p: it passes by a value; at no node of its tree is the left real part beyond the clamp; and the value is that of
-- the evaluation with no clamp at all
pub record MadeTrue (σ : Settings) (p : List Float) (rel : Relation) (t : Tree) : Type 0 where
  pub value : Float
  pub evaluates : eval_real σ p t ≡ Ok value
  pub passes : holds σ rel value ≡ true
  pub within : none_beyond σ.clamp p t ≡ true
  pub the_same : unclamped_real p t ≡ Ok value

-- And: all of its parts are met so; Or: at least one
abbrev mutual
  pub Met : Settings → List Float → Constraint → Type 0
  Met σ p (Atom rel t) = MadeTrue σ p rel t
  Met σ p (Not c) = ⊥
  Met σ p (And cs) = EachMet σ p cs
  Met σ p (Or cs) = OneMet σ p cs
  Met σ p (ForAll v lo hi c) = ⊥
  Met σ p (Exists v lo hi c) = ⊥

  pub EachMet : Settings → List Float → Constraints → Type 0
  EachMet σ p end = Unit {0}
  EachMet σ p (c ⨾ cs) = Met σ p c × EachMet σ p cs

  pub OneMet : Settings → List Float → Constraints → Type 0
  OneMet σ p end = ⊥
  OneMet σ p (c ⨾ cs) = Met σ p c ⊎ OneMet σ p cs

-- ---- where no node is beyond the clamp, evaluation is that with no clamp at all, strict or not
clamped_within : (most x : Float) → beyond most x ≡ false → clamped most x ≡ x
unfolding beyond clamped when◌then◌else◌
clamped_within most x e = let w = or_parts (most ≺ x) (x ≺ neg most) e in rw (w.0, w.1) refl

module _ (σ : Settings) where
  node_within : (a b : Complex) → beyond σ.clamp a.re ≡ false → eml_complex σ a b ≡ eml_unclamped a b
  unfolding eml_complex eml_unclamped when◌then◌else◌
  node_within a b e = rw (e, clamped_within σ.clamp a.re e) (by σ.strict)
    where
      by : (k : Bool) → when k && false then Err (EvalError.ExpOverflow a.re) else eml_unclamped a b ≡ eml_unclamped a b
      by true = refl
      by false = refl

  both_within : (x y : Result Complex EvalError) → left_within σ.clamp x ≡ true → and_then x (λ a. and_then y (λ b. eml_complex σ a b)) ≡ and_then x (λ a. and_then y (λ b. eml_unclamped a b))
  both_within (Ok a) (Ok b) e = node_within a b (not-true _ e)
  both_within (Ok a) (Err f) e = refl
  both_within (Err f) y e = refl

  module _ (p : List Float) where
    pub tree_within : (t : Tree) → none_beyond σ.clamp p t ≡ true → eval_complex σ p t ≡ unclamped p t
    unfolding none_beyond eval_complex unclamped
    tree_within Tree.One e = refl
    tree_within (Tree.Const v) e = refl
    tree_within (Tree.Var i) e = refl
    tree_within (Tree.Eml l r) e =
        let w = both (left_within σ.clamp (unclamped p l)) _ e in
        let v = both (none_beyond σ.clamp p l) (none_beyond σ.clamp p r) w.1 in
        rw (tree_within l v.0, tree_within r v.1) (both_within (unclamped p l) (unclamped p r) w.0)

    pub value_within : (t : Tree) → none_beyond σ.clamp p t ≡ true → eval_real σ p t ≡ unclamped_real p t
    unfolding eval_real unclamped_real
    value_within t e = ap (λ (x : Result Complex EvalError). and_then x real_part) (tree_within t e)

    -- ---- where a strict evaluation has a value, no node is beyond the clamp
    module _ (on : σ.strict ≡ true) where
      node_value : (a b z : Complex) → eml_complex σ a b ≡ Ok z → beyond σ.clamp a.re ≡ false
      unfolding eml_complex when◌then◌else◌
      node_value a b z e = by σ.strict (beyond σ.clamp a.re) on e
        where
          by : (s k : Bool) → s ≡ true → when s && k then Err (EvalError.ExpOverflow a.re) else numeric (difference (complex_exp (record { re = clamped σ.clamp a.re; im = a.im })) (complex_ln b)) ≡ Ok z → k ≡ false
          by false k o e = cc
          by true true o e = cc
          by true false o e = refl

      pub tree_value : (t : Tree) (z : Complex) → eval_complex σ p t ≡ Ok z → none_beyond σ.clamp p t ≡ true
      unfolding none_beyond eval_complex
      tree_value Tree.One z e = refl
      tree_value (Tree.Const v) z e = refl
      tree_value (Tree.Var i) z e = refl
      tree_value (Tree.Eml l r) z e = made (eval_complex σ p l) (eval_complex σ p r) refl refl e (tree_value l) (tree_value r)
        where
          made : (x y : Result Complex EvalError) → eval_complex σ p l ≡ x → eval_complex σ p r ≡ y → and_then x (λ a. and_then y (λ b. eml_complex σ a b)) ≡ Ok z
              → ((a : Complex) → eval_complex σ p l ≡ Ok a → none_beyond σ.clamp p l ≡ true) → ((b : Complex) → eval_complex σ p r ≡ Ok b → none_beyond σ.clamp p r ≡ true)
              → none_beyond σ.clamp p (Tree.Eml l r) ≡ true
          made (Err f) y u v w left right = cc
          made (Ok a) (Err f) u v w left right = cc
          made (Ok a) (Ok b) u v w left right = rw (sym (tree_within l (left a u)), u, node_value a b z w, left a u, right b v) refl

      -- ---- so what passes a strict check is met by some of its atoms
      atom_met : (rel : Relation) (t : Tree) (x : Result Complex EvalError) → eval_complex σ p t ≡ x → passes σ rel (and_then x real_part) ≡ true → MadeTrue σ p rel t
      unfolding eval_real
      atom_met rel t (Err f) u h = cc
      atom_met rel t (Ok z) u h = of_value (real_part z) refl h
        where
          of_value : (y : Result Float EvalError) → real_part z ≡ y → passes σ rel y ≡ true → MadeTrue σ p rel t
          of_value (Err f) w k = cc
          of_value (Ok v) w k =
              let is : eval_real σ p t ≡ Ok v = ap (λ (q : Result Complex EvalError). and_then q real_part) u ∙ w in
              let i = tree_value t z u in
              record { value = v; evaluates = is; passes = k; within = i; the_same = sym (value_within t i) ∙ is }

      mutual
        unfolding positive check eval_real

        pub met : (c : Constraint) → positive c ≡ true → check σ p c ≡ true → Met σ p c
        met (Atom rel t) q e = atom_met rel t (eval_complex σ p t) refl e
        met (Not c) q e = cc
        met (And cs) q e = each_met cs q e
        met (Or cs) q e = one_met cs q e
        met (ForAll v lo hi c) q e = cc
        met (Exists v lo hi c) q e = cc

        each_met : (cs : Constraints) → each_positive cs ≡ true → check_all σ p cs ≡ true → EachMet σ p cs
        each_met end q e = tt
        each_met (c ⨾ cs) q e =
            let i = both (positive c) (each_positive cs) q in
            let j = both (check σ p c) (check_all σ p cs) e in
            (met c i.0 j.0, each_met cs i.1 j.1)

        one_met : (cs : Constraints) → each_positive cs ≡ true → check_any σ p cs ≡ true → OneMet σ p cs
        one_met end q e = cc
        one_met (c ⨾ cs) q e = let i = both (positive c) (each_positive cs) q in by (check σ p c) refl e (met c i.0) (one_met cs i.1)
          where
            by : (k : Bool) → check σ p c ≡ k → (k || check_any σ p cs) ≡ true → (check σ p c ≡ true → Met σ p c) → (check_any σ p cs ≡ true → OneMet σ p cs) → OneMet σ p (c ⨾ cs)
            by true h o first others = inl (first h)
            by false h o first others = inr (others o)

    -- ---- and what is met so passes the check, under any record
    mutual
      unfolding check

      pub met_passes : (c : Constraint) → Met σ p c → check σ p c ≡ true
      met_passes (Atom rel t) m = rw m.evaluates m.passes
      met_passes (Not c) m = absurd m
      met_passes (And cs) m = each_passes cs m
      met_passes (Or cs) m = one_passes cs m
      met_passes (ForAll v lo hi c) m = absurd m
      met_passes (Exists v lo hi c) m = absurd m

      each_passes : (cs : Constraints) → EachMet σ p cs → check_all σ p cs ≡ true
      each_passes end m = refl
      each_passes (c ⨾ cs) m = rw (met_passes c m.0, each_passes cs m.1) refl

      one_passes : (cs : Constraints) → OneMet σ p cs → check_any σ p cs ≡ true
      one_passes end m = absurd m
      one_passes (c ⨾ cs) m = ⊎_elim (λ h. rw (met_passes c h) refl) (λ h. by (check σ p c) (one_passes cs h)) m
        where
          by : (k : Bool) → check_any σ p cs ≡ true → (k || check_any σ p cs) ≡ true
          by true h = refl
          by false h = h
