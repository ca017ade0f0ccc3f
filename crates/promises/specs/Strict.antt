-- Document 02 [9], no clamped stretch in print, sentence by sentence, of the definitions and then of what the calls return (`answer`). The contracts name the
-- record that their call receives, the flag in it. Assumes nothing.
use Rattle.std.specs.Prelude.{◌≡◌, refl, ℕ, zero, suc, ◌/◌, Bool, true, false, not, ◌||◌, ◌⊎◌, T, List, [], ◌∷◌, ◌++◌, length, Float, Result, Ok, Err}
use Rattle.std.specs.List.{find}
use Rattle.std.proofs.Common.{sym, ap, ◌∙◌, subst₂}
use Rattle.std.proofs.lemmas.Bool.{false_from_ne_true}
use Rattle.std.specs.Float.{nan, inf, fin}
use Rattle.std.specs.Float.Ieee.{neg}
use Rattle.number.specs.Notation.{when◌then◌else◌, ◌≺◌, ◌≼◌, whole, +∞}
use Rattle.number.specs.Order.{passed, lt_nan_left, lt_nan_right, lt_irrefl, le→not_lt, le_trans, neg_le}
use Rattle.number.specs.Computing.{computing}
use Rattle.maths.specs.declared.Complex.{Complex}
use Rattle.settings.specs.declared.Settings.{Settings}
use Rattle.settings.specs.Settings.{usual, in_range, settings_refusal}
use Rattle.interval.specs.declared.Interval.{Interval}
use Rattle.interval.specs.Interval.{◌‥◌}
use Rattle.interval.specs.Boxes.{intervals}
use Rattle.record.specs.RefusalLaws.{not_refused}
use Rattle.normal.specs.NormalForm.{to_nnf}
use Rattle.file.specs.File.{left, Read, Refused, Accepted, read_given}
use Rattle.tree.specs.Tree.{Tree}
use Rattle.tree.specs.Nodes.{tree_at}
use Rattle.constraint.specs.declared.Relation.{Relation}
use Rattle.constraint.specs.declared.Relation.TheVariants.{EqZero, GtZero, GeZero, LtZero, LeZero, NeZero}
use Rattle.constraint.specs.Constraint.{Constraint, Atom, Not}
use Rattle.point.specs.declared.eval.Instruction.{Instruction}
use Rattle.point.specs.declared.eval.Instruction.TheVariants.{Eml}
use Rattle.point.specs.declared.eval.EvalError.{EvalError}
use Rattle.point.specs.declared.eval.EvalError.TheVariants.{ExpOverflow}
use Rattle.point.specs.Eval.{beyond, eml_complex, eval_real}
use Rattle.point.specs.Machine.{postorder, pushed, step, run}
use Rattle.point.specs.Check.{check}
use Rattle.point.specs.Residual.{shortfall, error_value, residual}
use Rattle.point.specs.Answer.{eval_refusal, eval_answer, point_refusal, check_answer, residual_answer}
use Rattle.narrow.specs.declared.PropResult.TheVariants.{Conflict}
use Rattle.narrow.specs.Narrowing.{is_conflict, propagate}
use Rattle.narrow.specs.Given.{ends, Given, tested, answered, propagate_given}
use Rattle.lent.specs.Lent.{propagate_lent}
use Rattle.decide.specs.Deciding.{True, TrueWithWitness, FalseWithCounterexample, decide_forall_given, decide_exists_given}
use Rattle.decide.specs.Decisions.{witness_received, counterexample_received, true_received}
use Rattle.decide.specs.Deciding.{point_at, forall_samples, exists_samples, boxes_at, refutes, forall_by, decide_forall, exists_by, decide_exists}
use Rattle.nra.specs.Solver.{Problem, assignment, State, begin_narrowed, begin_in, halved, settle_narrowed, settle_in, halve, solve}
use Rattle.nra.specs.Calls.{solve_file, solve_given}
use Rattle.nra.specs.Answers.{assignment_word}
use Rattle.eml.specs.Places.{Solution}
use Rattle.promises.specs.Assignments.{Fair, InBox, starting_box}
use Rattle.promises.specs.Accepted.{file_problem, file_bounds, given_problem}
use Rattle.promises.specs.Received.{Passes}
use Rattle.promises.specs.Demand3.{assignment_holds, file_passes, given_passes}
use Rattle.promises.specs.Written.{values_in}
use Rattle.promises.specs.Left.{file_left, file_left_passes, given_left, given_left_passes}
use Rattle.promises.specs.Tuning.{accepted_ranges}
use Rattle.promises.specs.Overflow.{first_error, AtNode, Overflowed, value_reported, value_either}
use Rattle.promises.specs.Unclamped.{positive, Met, met, met_passes}
use Rattle.promises.specs.Reads.{propagate_same}

-- ---- the flag
-- the record σ with the flag at k
abbrev pub flagged : Bool → Settings → Settings
flagged k σ = record { rounds = σ.rounds; equality = σ.equality; slack = σ.slack; clamp = σ.clamp; strict = k }

-- "Add a strict flag to the parameter record." Either value of it is accepted.
pub either_accepted : (σ : Settings) (k : Bool) → settings_refusal (flagged k σ) ≡ settings_refusal σ
unfolding settings_refusal in_range
either_accepted σ k = refl

-- "The flag is off by default"
pub off_by_default : usual.strict ≡ false
unfolding usual
off_by_default = refl

-- ---- the error
-- "When set, an Eml node whose left real part is beyond the clamp makes evaluation answer ExpOverflow with that real part. [...] at one node it goes before
-- NanEncountered." Of a node with the left value a, whatever the right value b is.
pub overflows : (σ : Settings) → σ.strict ≡ true → (a b : Complex) → beyond σ.clamp a.re ≡ true → eml_complex σ a b ≡ Err (ExpOverflow a.re)
unfolding eml_complex when◌then◌else◌
overflows σ on a b e = rw (on, e) refl

-- beyond is above the clamp or below its negative; a NaN is not beyond it, nor is the clamp itself or its negative, and either infinity is
pub beyond_is : (most x : Float) → beyond most x ≡ ((most ≺ x) || (x ≺ neg most))
unfolding beyond
beyond_is most x = refl

pub nan_is_not : (most : Float) → beyond most nan ≡ false
unfolding beyond
nan_is_not most = rw (lt_nan_right most, lt_nan_left (neg most)) refl

module _ (σ : Settings) (accepted : in_range σ ≡ true) where
  clamp_in : T (whole 1 ≼ σ.clamp) × T (σ.clamp ≼ whole 709)
  clamp_in = (accepted_ranges σ accepted).clamp_is

  minus_below : T (neg σ.clamp ≼ σ.clamp)
  unfolding computing
  minus_below = le_trans (neg σ.clamp) (neg (whole 1)) σ.clamp (neg_le (whole 1) σ.clamp clamp_in.0) (le_trans (neg (whole 1)) (whole 1) σ.clamp tt clamp_in.0)

  pub ends_are_not : (beyond σ.clamp σ.clamp ≡ false) × (beyond σ.clamp (neg σ.clamp) ≡ false)
  unfolding beyond
  ends_are_not =
      let never = λ (x y : Float) (n : T (x ≺ y) → ⊥). false_from_ne_true (x ≺ y) (λ e. n (passed e)) in
      let least = never σ.clamp (neg σ.clamp) (le→not_lt (neg σ.clamp) σ.clamp minus_below) in
      (rw (never σ.clamp σ.clamp (lt_irrefl σ.clamp), least) refl, rw (least, never (neg σ.clamp) (neg σ.clamp) (lt_irrefl (neg σ.clamp))) refl)

  pub infinities_are : (s : Bool) → beyond σ.clamp (inf s) ≡ true
  unfolding beyond computing
  infinities_are s = of_clamp σ.clamp s clamp_in.0 clamp_in.1
    where
      of_clamp : (c : Float) (s : Bool) → T (whole 1 ≼ c) → T (c ≼ whole 709) → beyond c (inf s) ≡ true
      of_clamp nan s g h = absurd h
      of_clamp (inf true) s g h = absurd g
      of_clamp (inf false) s g h = absurd h
      of_clamp (fin t m e) true g h = refl
      of_clamp (fin t m e) false g h = refl

-- "This error takes its place in postorder". A tree's nodes in postorder are its instructions, and the first that fails gives the answer, whatever its error is and
-- whatever comes after it: those before it have left the stack s.
module _ (σ : Settings) (p : List Float) where
  pub first_in_postorder : (t : Tree) (before after : List Instruction) (i : Instruction) (s : List Complex) (e : EvalError)
      → postorder t ≡ before ++ (i ∷ after) → run σ p before [] ≡ Ok s → step σ p i s ≡ Err e → eval_real σ p t ≡ Err e
  first_in_postorder = first_error σ p

  -- An Eml node fails so where its left value a and its right value b are there, on top, and a is beyond the clamp.
  pub overflow_first : σ.strict ≡ true → (t : Tree) (before after : List Instruction) (a b : Complex) (s : List Complex)
      → postorder t ≡ before ++ (Eml ∷ after) → run σ p before [] ≡ Ok (b ∷ a ∷ s) → beyond σ.clamp a.re ≡ true → eval_real σ p t ≡ Err (ExpOverflow a.re)
  unfolding step
  overflow_first on t before after a b s parts ran e =
      first_error σ p t before after Eml (b ∷ a ∷ s) (ExpOverflow a.re) parts ran (ap (λ (x : Result Complex EvalError). pushed x s) (overflows σ on a b e))

  -- And nothing else answers it: the flag is set, and x is the left real part of such a node.
  pub only_there : (t : Tree) (x : Float) → eval_real σ p t ≡ Err (ExpOverflow x) → (σ.strict ≡ true) × AtNode σ p t x
  only_there = value_reported σ p

-- Of what the call of an evaluation returns, where it is not a refusal, all three:
module _ (σ : Settings) (nodes : List ℕ) (k : ℕ) (p : List Float) (r : Result Float EvalError) (answer : eval_answer σ nodes k p ≡ Ok r) where
  evaluated : eval_real σ p (tree_at nodes k) ≡ r
  unfolding eval_answer
  evaluated = let e = (not_refused (eval_refusal σ nodes k p) Err _ (λ n e. cc) answer).1 in cc

  pub first_answered : (before after : List Instruction) (i : Instruction) (s : List Complex) (e : EvalError)
      → postorder (tree_at nodes k) ≡ before ++ (i ∷ after) → run σ p before [] ≡ Ok s → step σ p i s ≡ Err e → r ≡ Err e
  first_answered before after i s e parts ran fails = sym evaluated ∙ first_in_postorder σ p (tree_at nodes k) before after i s e parts ran fails

  pub overflow_answered : σ.strict ≡ true → (before after : List Instruction) (a b : Complex) (s : List Complex)
      → postorder (tree_at nodes k) ≡ before ++ (Eml ∷ after) → run σ p before [] ≡ Ok (b ∷ a ∷ s) → beyond σ.clamp a.re ≡ true → r ≡ Err (ExpOverflow a.re)
  overflow_answered on before after a b s parts ran e = sym evaluated ∙ overflow_first σ p on (tree_at nodes k) before after a b s parts ran e

  pub only_there_answered : (x : Float) → r ≡ Err (ExpOverflow x) → (σ.strict ≡ true) × AtNode σ p (tree_at nodes k) x
  only_there_answered x e = only_there σ p (tree_at nodes k) x (evaluated ∙ e)

-- "The flag is off by default, and only for it off does demand 2 claim equality with the Rust." With the flag set, an evaluation answers this error, or what it
-- answers with the flag off.
pub or_as_off : (σ : Settings) (p : List Float) (t : Tree) → Overflowed (eval_real (flagged true σ) p t) ⊎ (eval_real (flagged true σ) p t ≡ eval_real (flagged false σ) p t)
or_as_off σ = value_either (flagged true σ) (flagged false σ) refl refl refl

pub or_answered_as_off : (σ : Settings) (nodes : List ℕ) (k : ℕ) (p : List Float) (r s : Result Float EvalError)
    → eval_answer (flagged true σ) nodes k p ≡ Ok r → eval_answer (flagged false σ) nodes k p ≡ Ok s → Overflowed r ⊎ (r ≡ s)
or_answered_as_off σ nodes k p r s t u =
    let e = evaluated (flagged true σ) nodes k p r t in
    let f = evaluated (flagged false σ) nodes k p s u in
    subst₂ (λ (x y : Result Float EvalError). Overflowed x ⊎ (x ≡ y)) e f (or_as_off σ p (tree_at nodes k))

-- "Check, residual, decisions and halving treat it as any evaluation error". Whatever the error e is, an atom does not pass, and its residual is +inf, of NeZero 0;
abbrev pub of_error : Relation → Float
of_error EqZero = +∞
of_error GtZero = +∞
of_error GeZero = +∞
of_error LtZero = +∞
of_error LeZero = +∞
of_error NeZero = whole 0

module _ (σ : Settings) (p : List Float) (rel : Relation) (t : Tree) (e : EvalError) (fails : eval_real σ p t ≡ Err e) where
  pub check_fails : check σ p (Atom rel t) ≡ false
  unfolding check
  check_fails = rw fails refl

  pub residual_fails : residual σ p (Atom rel t) ≡ of_error rel
  unfolding residual shortfall computing
  residual_fails = rw fails (by rel)
    where
      by : (rel : Relation) → shortfall rel (error_value rel) ≡ of_error rel
      by EqZero = refl
      by GtZero = refl
      by GeZero = refl
      by LtZero = refl
      by LeZero = refl
      by NeZero = refl

-- and so the calls of the check and the residual, of records that leave an atom;
module _ (σ : Settings) (nodes b : List ℕ) (p : List Float) (rel : Relation) (t : Tree) (e : EvalError)
    (atom : left nodes b (length b / 24) ≡ Atom rel t) (fails : eval_real σ p t ≡ Err e) where
  pub check_answers : (r : Bool) → check_answer σ nodes b p ≡ Ok r → r ≡ false
  unfolding check_answer
  check_answers r answer =
      let w = (not_refused (point_refusal σ nodes b p) Err _ (λ n e. cc) answer).1 in
      let is : check σ p (left nodes b (length b / 24)) ≡ r = cc in
      sym is ∙ ap (check σ p) atom ∙ check_fails σ p rel t e fails

  pub residual_answers : (r : Float) → residual_answer σ nodes b p ≡ Ok r → r ≡ of_error rel
  unfolding residual_answer
  residual_answers r answer =
      let w = (not_refused (point_refusal σ nodes b p) Err _ (λ n e. cc) answer).1 in
      let is : residual σ p (left nodes b (length b / 24)) ≡ r = cc in
      sym is ∙ ap (residual σ p) atom ∙ residual_fails σ p rel t e fails

-- narrowing does not read the flag, whatever its value k is (its exp, of intervals, has no clamp);
pub narrowing_untouched : (σ : Settings) (k : Bool) (c : Constraint) (b : List Interval) → propagate (flagged k σ) c b ≡ propagate σ c b
narrowing_untouched σ k = propagate_same (flagged k σ) σ refl refl

-- nor do the calls of `propagate`, refusals and what they leave included;
module _ (σ : Settings) (k : Bool) (nodes b : List ℕ) where
  tested_same : {B : Type 0} (x : Read) (later : ℕ) (old : B) (f g : Constraint → Given B) → ((c : Constraint) → f c ≡ g c) → tested x later old f ≡ tested x later old g
  unfolding tested
  tested_same (Refused r) later old f g h = refl
  tested_same (Accepted c bounds) zero old f g h = h c
  tested_same (Accepted c bounds) (suc r) old f g h = refl

  pub ends_untouched : (lo hi : List Float) → propagate_given (flagged k σ) nodes b lo hi ≡ propagate_given σ nodes b lo hi
  unfolding propagate_given settings_refusal in_range
  ends_untouched lo hi = tested_same (read_given nodes b) _ (lo, hi) _ _ (λ c. ap (answered ends) (narrowing_untouched σ k c (intervals lo hi)))

  pub lent_untouched : (boxes : List Interval) → propagate_lent (flagged k σ) nodes b boxes ≡ propagate_lent σ nodes b boxes
  unfolding propagate_lent settings_refusal in_range
  lent_untouched boxes = tested_same (read_given nodes b) _ boxes _ _ (λ c. ap (answered (λ x. x)) (narrowing_untouched σ k c boxes))

-- so decisions and halving read it in the check and the residual alone. `decide_forall` asks narrowing, and the check of its samples in order, `decide_exists`
-- the check alone;
module _ (σ : Settings) (k : Bool) where
  pub forall_by_check : (v : ℕ) (lo hi : Float) (c : Constraint) (n : ℕ) → decide_forall (flagged k σ) v lo hi c n
      ≡ forall_by n v (refutes σ c (boxes_at n v (lo ‥ hi))) (find (λ x. not (check (flagged k σ) (point_at n v x) c)) (forall_samples lo hi))
  unfolding decide_forall refutes
  forall_by_check v lo hi c n = rw (narrowing_untouched σ k (to_nnf (Not c)) (boxes_at n v (lo ‥ hi))) refl

  pub exists_by_check : (v : ℕ) (lo hi : Float) (c : Constraint) (n : ℕ) → decide_exists (flagged k σ) v lo hi c n
      ≡ exists_by n v (find (λ x. check (flagged k σ) (point_at n v x) c) (exists_samples lo hi))
  unfolding decide_exists
  exists_by_check v lo hi c n = refl

  -- and a halving chooses by the residual (`halved`), narrows, and then tests by the check and gives the residual (`settle_narrowed`). The beginning narrows
  -- and tests by the check (`begin_narrowed`).
  pub halving_by_both : (p : Problem) (s : State) → halve (flagged k σ) p s
      ≡ (let r = propagate σ p.constraint (halved (flagged k σ) p.constraint s.boxes) in settle_narrowed (flagged k σ) p (suc s.halvings) (is_conflict r.answer) r.places)
  unfolding halve settle_in
  halving_by_both p s = rw (narrowing_untouched σ k p.constraint (halved (flagged k σ) p.constraint s.boxes)) refl

  pub beginning_by_check : (p : Problem) (b : List Interval) → begin_in (flagged k σ) p b
      ≡ (let r = propagate σ p.constraint b in begin_narrowed (flagged k σ) p (is_conflict r.answer) r.places)
  unfolding begin_in
  beginning_by_check p b = rw (narrowing_untouched σ k p.constraint b) refl

-- Of what the calls of the decisions return: a witness passes the check and a counterexample fails it, under the record of the call; True is narrowing's.
module _ (σ : Settings) (k : Bool) (nodes b : List ℕ) (v : ℕ) (lo hi : Float) (n room : ℕ) where
  abbrev asked : Constraint
  asked = left nodes b (length b / 24)

  pub witness_answered : (p : List Float) → decide_exists_given (flagged k σ) nodes b v lo hi n room ≡ Ok (TrueWithWitness p) → check (flagged k σ) p asked ≡ true
  witness_answered = witness_received nodes b (flagged k σ) v lo hi n room

  pub counterexample_answered : (p : List Float) → decide_forall_given (flagged k σ) nodes b v lo hi n room ≡ Ok (FalseWithCounterexample p) → check (flagged k σ) p asked ≡ false
  counterexample_answered = counterexample_received nodes b (flagged k σ) v lo hi n room

  pub true_answered : decide_forall_given (flagged k σ) nodes b v lo hi n room ≡ Ok True → (propagate σ (to_nnf (Not asked)) (boxes_at n v (lo ‥ hi))).answer ≡ Conflict
  true_answered answer = rw (sym (narrowing_untouched σ k (to_nnf (Not asked)) (boxes_at n v (lo ‥ hi)))) (true_received nodes b (flagged k σ) v lo hi n room answer)

-- A call that solves answers `solve σ` (`file_answer` and `given_answer` in `Accepted`), whose steps those above are, σ being the record of the call.

-- ---- what a strict assignment is
module _ (σ : Settings) (on : σ.strict ≡ true) where
  -- "in strict mode the check in demand 3 is this one": an assignment lies in its starting box and passes `check σ`, the strict one, of the definition and of what
  -- the calls return. (Demand3 has this, and the rest of the demand, for every record; `Left` has it of what the calls leave.)
  pub strict_check : (p : Problem) (bounds : List Interval) → Fair p bounds → (L : ℕ) (m : List Float) (exact : Bool) (h : ℕ)
      → solve σ p bounds L ≡ assignment m exact h → InBox (starting_box p bounds) m × (check σ m p.constraint ≡ true)
  strict_check = assignment_holds σ

  module _ (ε : Float) (L room : ℕ) (m : List Float) (exact : Bool) (h : ℕ) where
    pub file_strict_check : (file : List ℕ) → solve_file σ file L ε room ≡ Ok (assignment m exact h) → Passes σ (file_problem file ε) (file_bounds file) m
    file_strict_check file t = file_passes σ file ε L room m exact h t

    pub given_strict_check : (nodes b : List ℕ) (lo hi : List Float)
        → solve_given σ nodes b lo hi L ε room ≡ Ok (assignment m exact h) → Passes σ (given_problem nodes b ε) (intervals lo hi) m
    given_strict_check nodes b lo hi t = given_passes σ nodes b lo hi ε L room m exact h t

  -- "In strict mode an assignment's positive, quantifier-free constraint was met without clamping in the atoms that made it true."
  pub met_unclamped : (p : Problem) (bounds : List Interval) → Fair p bounds → (L : ℕ) (m : List Float) (exact : Bool) (h : ℕ)
      → solve σ p bounds L ≡ assignment m exact h → positive p.constraint ≡ true → Met σ m p.constraint
  met_unclamped p bounds f L m exact h e q = met σ m on p.constraint q (assignment_holds σ p bounds f L m exact h e).1

  -- `Met` is no weaker than the check: what is met so passes it, under the same record.
  pub met_alone : (m : List Float) (c : Constraint) → Met σ m c → check σ m c ≡ true
  met_alone m c = met_passes σ m c

  -- Of what the calls return, and of what they leave in the lent places:
  module _ (file : List ℕ) (ε : Float) (positive_file : positive (file_problem file ε).constraint ≡ true) where
    pub file_met : (L room : ℕ) (m : List Float) (exact : Bool) (h : ℕ)
        → solve_file σ file L ε room ≡ Ok (assignment m exact h) → Met σ m (file_problem file ε).constraint
    file_met L room m exact h t = met σ m on (file_problem file ε).constraint positive_file (file_passes σ file ε L room m exact h t).passes

    pub file_left_met : (L : ℕ) (old : Solution)
        → let x = file_left σ file ε L old in x.answer ≡ 0 → x.places.stop ≡ assignment_word → Met σ (values_in x.places) (file_problem file ε).constraint
    file_left_met L old t e = met σ _ on (file_problem file ε).constraint positive_file (file_left_passes σ file ε L old t e).passes

  module _ (nodes b : List ℕ) (ε : Float) (positive_given : positive (given_problem nodes b ε).constraint ≡ true) (lo hi : List Float) where
    pub given_met : (L room : ℕ) (m : List Float) (exact : Bool) (h : ℕ)
        → solve_given σ nodes b lo hi L ε room ≡ Ok (assignment m exact h) → Met σ m (given_problem nodes b ε).constraint
    given_met L room m exact h t = met σ m on (given_problem nodes b ε).constraint positive_given (given_passes σ nodes b lo hi ε L room m exact h t).passes

    pub given_left_met : (L : ℕ) (old : Solution)
        → let x = given_left σ nodes b lo hi ε L old in x.answer ≡ 0 → x.places.stop ≡ assignment_word → Met σ (values_in x.places) (given_problem nodes b ε).constraint
    given_left_met L old t e = met σ _ on (given_problem nodes b ε).constraint positive_given (given_left_passes σ nodes b lo hi ε L old t e).passes

  -- Of a point that passes the strict check, from wherever it is, too:
  pub checked_met : (nodes b : List ℕ) (m : List Float) → check_answer σ nodes b m ≡ Ok true → positive (left nodes b (length b / 24)) ≡ true → Met σ m (left nodes b (length b / 24))
  unfolding check_answer
  checked_met nodes b m t q =
      let w = (not_refused (point_refusal σ nodes b m) Err _ (λ n e. cc) t).1 in
      let is : check σ m (left nodes b (length b / 24)) ≡ true = cc in
      met σ m on (left nodes b (length b / 24)) q is
