-- Document 02 [8], tuning without a rebuild, sentence by sentence. What is said of a record σ holds of every one, of a strict one ([9]) too. Assumes
-- nothing.
use Rattle.std.specs.Prelude.{◌≡◌, refl, ℕ, ◌^◌, ◌≤◌, ◌/◌, Bool, true, false, not, ◌&&◌, T, List, leb, length, get_or, set, Float, Ok, Err}
use Rattle.std.proofs.Common.{leb-true, arith}
use borrow.Author.Tests.{le-leb}
use Rattle.std.specs.Float.Ieee.{neg, is_nan}
use Rattle.std.specs.Float.Ieee.Bits.{is_true}
use Rattle.std.specs.Float.Ieee.Scale.{finite}
use Rattle.number.specs.Notation.{when◌then◌else◌, ◌≺◌, ◌≼◌, whole, decimal}
use Rattle.number.specs.Sign.{abs_of}
use Rattle.number.specs.Order.{number, passed, le_right, lt→le}
use Rattle.number.specs.Computing.{computing}
use Rattle.maths.specs.declared.Complex.{Complex}
use Rattle.maths.specs.Cplx.{complex_exp, complex_ln}
use Rattle.record.specs.Leaving.{◌leaving◌}
use Rattle.record.specs.Refusal.{◌or_else◌, ◌unless◌, refused_or}
use Rattle.record.specs.RefusalLaws.{both}
use Rattle.settings.specs.declared.Settings.{Settings}
use Rattle.settings.specs.Settings.{usual, in_range, settings_refusal}
use Rattle.interval.specs.declared.Interval.{Interval}
use Rattle.interval.specs.Interval.{is_empty, width, intersect, moves}
use Rattle.interval.specs.Boxes.{missing, intervals, is_domain}
use Rattle.tree.specs.Tree.{Tree}
use Rattle.tree.specs.Nodes.{tree_at}
use Rattle.constraint.specs.declared.Relation.TheVariants.{EqZero, GtZero, GeZero, LtZero, LeZero, NeZero}
use Rattle.constraint.specs.Constraint.{Constraint, Not}
use Rattle.file.specs.File.{left, refusal, read_file, given_refusal, read_given}
use Rattle.file.specs.FileLaws.{read_is, given_is}
use Rattle.point.specs.declared.eval.EvalError.TheVariants.{NanEncountered, ComplexResult}
use Rattle.point.specs.Eval.{difference, clamped, numeric, eml_complex, and_then, eval_complex, real_part, eval_real}
use Rattle.point.specs.Check.{holds, check}
use Rattle.point.specs.Residual.{residual_of_not, residual}
use Rattle.point.specs.Answer.{root_refusal, eval_refusal, eval_answer, point_refusal, check_answer, residual_answer}
use Rattle.narrow.specs.declared.PropResult.TheVariants.{Changed, Stable, Conflict}
use Rattle.narrow.specs.Narrowing.{narrow_var, fails, tightened, rounds, propagate}
use Rattle.narrow.specs.Given.{ends, tested, answered, propagate_given}
use Rattle.lent.specs.Lent.{propagate_lent}
use Rattle.nra.specs.Solver.{Problem, Answer, assignment, reached, solve}
use Rattle.nra.specs.Answers.{problem}
use Rattle.nra.specs.Calls.{limit_refusal, task_refusal, boxes_refusal, room_refusal, answered_by, solve_file, solve_given}
use Rattle.decide.specs.Deciding.{range_refusal, later_refusal, decided_by, decide_forall, decide_exists, decide_forall_given, decide_exists_given}
use Rattle.promises.specs.Accepted.{file_problem, given_problem}
use Rattle.promises.specs.Limit.{raising_the_limit}
use Rattle.promises.specs.Counts.{at_most_the_limit, file_counted, given_counted}
use Rattle.promises.specs.Demand3.{file_settled, file_passes, given_settled, given_passes}

-- ---- the record
-- "Put the rounds (20), the equality tolerance (1e-8), the slack (1e-12, in check, NeZero and the moved-end test) and the clamp (709) in one record that
-- every call using them receives." Each contract names the record that its call receives. Where document 01's steps have these numbers, n standing for
-- 20, equality for 1e-8, slack for 1e-12 and clamp for 709 (the definitions read these in no other place, but for the clamp in the test that strict
-- evaluation makes, for which see `Strict`):
pub record Steps (σ : Settings) (n : ℕ) (equality slack clamp : Float) : Type 0 where
  -- "At most 20 rounds."
  pub at_most : (c : Constraint) (b : List Interval) → propagate σ c b ≡ rounds σ n c b
  -- check_constraint (helpers.rs), by an atom's value
  pub eq_zero : (v : Float) → holds σ EqZero v ≡ (abs_of v ≺ equality)
  pub gt_zero : (v : Float) → holds σ GtZero v ≡ (whole 0 ≺ v)
  pub ge_zero : (v : Float) → holds σ GeZero v ≡ (neg slack ≼ v)
  pub lt_zero : (v : Float) → holds σ LtZero v ≡ (v ≺ whole 0)
  pub le_zero : (v : Float) → holds σ LeZero v ≡ (v ≼ slack)
  pub ne_zero : (v : Float) → holds σ NeZero v ≡ (slack ≺ abs_of v)
  -- NeZero's Conflict (interval.rs), by the interval of the atom's values
  pub ne_zero_fails : (v : Interval) → fails σ NeZero v ≡ ((width v ≺ slack) && (abs_of v.lo ≺ slack))
  -- the moved-end test, of a variable and after an Or
  pub moved : (i : ℕ) (out : Interval) (b : List Interval) → let old = get_or b i missing in let new = intersect old out in
      narrow_var σ i out b ≡ (when is_empty new then Conflict leaving b else when moves slack old new then Changed leaving set b i new else Stable leaving b)
  pub moved_by_or : (h old : Interval) → let new = intersect h old in
      tightened σ h old ≡ (when not (is_empty new) && moves slack old new then Changed leaving new else Stable leaving old)
  -- "Exp's real argument is clamped to ±709.", where evaluation is not strict, as it is not under `usual`
  pub clamps : σ.strict ≡ false → (l r : Complex) → eml_complex σ l r ≡ numeric (difference (complex_exp (record { re = clamped clamp l.re; im = l.im })) (complex_ln r))

-- "Rounds are 1 to 100, 0 < slack < equality tolerance, both finite, and the clamp is 1 to 709."
pub record Ranges (σ : Settings) : Type 0 where
  pub rounds_are : (1 ≤ σ.rounds) × (σ.rounds ≤ 100)
  pub ordered : T (whole 0 ≺ σ.slack) × T (σ.slack ≺ σ.equality)
  pub both_finite : T (finite σ.slack) × T (finite σ.equality)
  pub clamp_is : T (whole 1 ≼ σ.clamp) × T (σ.clamp ≼ whole 709)

pub accepted_ranges : (σ : Settings) → in_range σ ≡ true → Ranges σ
unfolding in_range
accepted_ranges σ e =
    let r = both (leb 1 σ.rounds) (leb σ.rounds 100) in
    let o = both (whole 0 ≺ σ.slack) (σ.slack ≺ σ.equality) in
    let f = both (finite σ.slack) (finite σ.equality) in
    let c = both (whole 1 ≼ σ.clamp) (σ.clamp ≼ whole 709) in
    let w = both ((leb 1 σ.rounds && leb σ.rounds 100) && ((whole 0 ≺ σ.slack) && (σ.slack ≺ σ.equality) && (finite σ.slack && finite σ.equality))) _ e in
    let v = both (leb 1 σ.rounds && leb σ.rounds 100) _ w.0 in
    let u = both ((whole 0 ≺ σ.slack) && (σ.slack ≺ σ.equality)) _ v.1 in
    record {
      rounds_are = (leb-true _ _ (r v.0).0, leb-true _ _ (r v.0).1);
      ordered = (passed (o u.0).0, passed (o u.0).1);
      both_finite = (passed (f u.1).0, passed (f u.1).1);
      clamp_is = (passed (c w.1).0, passed (c w.1).1);
    }

pub ranges_accepted : (σ : Settings) → Ranges σ → in_range σ ≡ true
unfolding in_range
ranges_accepted σ r =
    rw (le-leb _ _ r.rounds_are.0, le-leb _ _ r.rounds_are.1, is_true _ r.ordered.0, is_true _ r.ordered.1, is_true _ r.both_finite.0, is_true _ r.both_finite.1, is_true _ r.clamp_is.0, is_true _ r.clamp_is.1) refl

-- a NaN is outside each of them
pub no_nan : (σ : Settings) → Ranges σ → T (number σ.slack) × T (number σ.equality) × T (number σ.clamp)
no_nan σ r = (
  le_right (whole 0) σ.slack (lt→le (whole 0) σ.slack r.ordered.0),
  le_right σ.slack σ.equality (lt→le σ.slack σ.equality r.ordered.1),
  le_right (whole 1) σ.clamp r.clamp_is.0,
)

-- 01's own numbers are inside
pub usual_accepted : in_range usual ≡ true
unfolding usual computing in_range
usual_accepted = refl

-- ---- its numbers
-- "The imaginary threshold and the Not residual's 1e-12 stay fixed." So do four times the f64 epsilon, in narrowing by GtZero and LtZero, and the decisions'
-- 1e10: `target_of` and `boxes_at` receive no record.
pub threshold : (σ : Settings) (p : List Float) (t : Tree) → eval_real σ p t ≡ and_then (eval_complex σ p t) (λ z.
    when abs_of z.im ≺ decimal 1 (10 ^ 12) then when is_nan z.re then Err NanEncountered else Ok z.re else Err (ComplexResult (abs_of z.im)))
unfolding eval_real real_part
threshold σ p t = refl

pub not_residual : (σ : Settings) (p : List Float) (c : Constraint) → residual σ p (Not c) ≡ (when residual σ p c ≺ decimal 1 (10 ^ 12) then whole 1 else whole 0)
unfolding residual residual_of_not
not_residual σ p c = refl

-- "With others it follows 01's steps with the new numbers"
pub tuned_steps : (σ : Settings) → Steps σ σ.rounds σ.equality σ.slack σ.clamp
unfolding propagate holds fails narrow_var tightened eml_complex when◌then◌else◌
tuned_steps σ = record {
  at_most = λ c b. refl;
  eq_zero = λ v. refl;
  gt_zero = λ v. refl;
  ge_zero = λ v. refl;
  lt_zero = λ v. refl;
  le_zero = λ v. refl;
  ne_zero = λ v. refl;
  ne_zero_fails = λ v. refl;
  moved = λ i out b. refl;
  moved_by_or = λ h old. refl;
  clamps = λ off l r. rw off refl;
}

-- "With 01's numbers in the record, every answer is still the Rust's." The steps, and below the calls.
pub usual_steps : Steps usual 20 (decimal 1 (10 ^ 8)) (decimal 1 (10 ^ 12)) (whole 709)
unfolding usual
usual_steps = tuned_steps usual

-- "and raising a limit of at least 1 still changes no answer but 'limit'." Of the definition, and of what the calls return: x under the limit L, y under M.
pub raised : (σ : Settings) (p : Problem) (bounds : List Interval) (L M : ℕ) → 1 ≤ L → L ≤ M → reached (solve σ p bounds L) ≡ false → solve σ p bounds M ≡ solve σ p bounds L
raised σ p bounds L M k l n = (raising_the_limit σ p bounds L k n).same M (omega arith) (omega (arith, at_most_the_limit σ p bounds L))

module _ (σ : Settings) (ε : Float) (r s : ℕ) (L M : ℕ) (x y : Answer) (k : 1 ≤ L) (l : L ≤ M) (n : reached x ≡ false) where
  pub file_raised : (file : List ℕ) → solve_file σ file L ε r ≡ Ok x → solve_file σ file M ε s ≡ Ok y → y ≡ x
  file_raised file t u = (file_settled σ file ε r s L M x y t u k (omega arith) n).comes_back (omega (arith, (file_counted σ file L ε r).at_most x t))

  pub given_raised : (nodes b : List ℕ) (lo hi : List Float) → solve_given σ nodes b lo hi L ε r ≡ Ok x → solve_given σ nodes b lo hi M ε s ≡ Ok y → y ≡ x
  given_raised nodes b lo hi t u =
      (given_settled σ nodes b lo hi ε r s L M x y t u k (omega arith) n).comes_back (omega (arith, (given_counted σ nodes b lo hi L ε r).at_most x t))

-- "The check in demand 3 is then 01's with the record's numbers." An assignment that a call returns passes `check σ`, whose numbers are above. (Demand3 has
-- the rest of it, for every record.)
module _ (σ : Settings) (ε : Float) (L room : ℕ) (m : List Float) (exact : Bool) (h : ℕ) where
  pub file_checked : (file : List ℕ) → solve_file σ file L ε room ≡ Ok (assignment m exact h) → check σ m (file_problem file ε).constraint ≡ true
  file_checked file t = (file_passes σ file ε L room m exact h t).passes

  pub given_checked : (nodes b : List ℕ) (lo hi : List Float) → solve_given σ nodes b lo hi L ε room ≡ Ok (assignment m exact h) → check σ m (given_problem nodes b ε).constraint ≡ true
  given_checked nodes b lo hi t = (given_passes σ nodes b lo hi ε L room m exact h t).passes

-- ---- its refusal
-- "Refused: 14, a parameter outside its range, before 8". After the file's own tests, or the records', and whatever else is given:
module _ (σ : Settings) (out : in_range σ ≡ false) where
  refused : settings_refusal σ ≡ 14
  unfolding settings_refusal
  refused = rw out refl

  pub file_14 : (file : List ℕ) → refusal file ≡ 0 → (L : ℕ) (ε : Float) (room : ℕ) → solve_file σ file L ε room ≡ Err 14
  unfolding solve_file task_refusal
  file_14 file e L ε room = rw (read_is file e, refused) refl

  module _ (nodes b : List ℕ) (e : given_refusal nodes b ≡ 0) where
    pub given_14 : (lo hi : List Float) (L : ℕ) (ε : Float) (room : ℕ) → solve_given σ nodes b lo hi L ε room ≡ Err 14
    unfolding solve_given task_refusal
    given_14 lo hi L ε room = rw (given_is nodes b e, refused) refl

    pub check_14 : (p : List Float) → check_answer σ nodes b p ≡ Err 14
    unfolding check_answer point_refusal
    check_14 p = rw (e, refused) refl

    pub residual_14 : (p : List Float) → residual_answer σ nodes b p ≡ Err 14
    unfolding residual_answer point_refusal
    residual_14 p = rw (e, refused) refl

    pub ends_14 : (lo hi : List Float) → propagate_given σ nodes b lo hi ≡ (Err 14 leaving (lo, hi))
    unfolding propagate_given tested
    ends_14 lo hi = rw (given_is nodes b e, refused) refl

    pub lent_14 : (boxes : List Interval) → propagate_lent σ nodes b boxes ≡ (Err 14 leaving boxes)
    unfolding propagate_lent tested
    lent_14 boxes = rw (given_is nodes b e, refused) refl

    pub forall_14 : (v : ℕ) (lo hi : Float) (n room : ℕ) → decide_forall_given σ nodes b v lo hi n room ≡ Err 14
    unfolding decide_forall_given later_refusal
    forall_14 v lo hi n room = rw (given_is nodes b e, refused) refl

    pub exists_14 : (v : ℕ) (lo hi : Float) (n room : ℕ) → decide_exists_given σ nodes b v lo hi n room ≡ Err 14
    unfolding decide_exists_given later_refusal
    exists_14 v lo hi n room = rw (given_is nodes b e, refused) refl

  pub eval_14 : (nodes : List ℕ) (k : ℕ) → root_refusal nodes k ≡ 0 → (p : List Float) → eval_answer σ nodes k p ≡ Err 14
  unfolding eval_answer eval_refusal
  eval_14 nodes k e p = rw (e, refused) refl

-- And a record inside the ranges, as 01's numbers are, alters no refusal: the calls are 01's with the record's numbers and, where it is strict, with strict
-- evaluation. With `usual` they are document 01's.
module _ (σ : Settings) (accepted : in_range σ ≡ true) where
  taken : settings_refusal σ ≡ 0
  unfolding settings_refusal
  taken = rw accepted refl

  pub file_01 : (file : List ℕ) (L : ℕ) (ε : Float) (room : ℕ)
      → solve_file σ file L ε room ≡ answered_by (read_file file) (λ c. limit_refusal L ε or_else room_refusal c room) (λ c bounds. solve σ (problem c ε) bounds L)
  unfolding solve_file task_refusal
  file_01 file L ε room = rw taken refl

  module _ (nodes b : List ℕ) where
    pub given_01 : (lo hi : List Float) (L : ℕ) (ε : Float) (room : ℕ) → solve_given σ nodes b lo hi L ε room
        ≡ answered_by (read_given nodes b) (λ c. limit_refusal L ε or_else boxes_refusal lo hi or_else room_refusal c room) (λ c none. solve σ (problem c ε) (intervals lo hi) L)
    unfolding solve_given task_refusal
    given_01 lo hi L ε room = rw taken refl

    pub check_01 : (p : List Float) → check_answer σ nodes b p ≡ refused_or (given_refusal nodes b or_else 9 unless leb (length p) 16) Err (Ok (check σ p (left nodes b (length b / 24))))
    unfolding check_answer point_refusal
    check_01 p = rw taken refl

    pub residual_01 : (p : List Float) → residual_answer σ nodes b p ≡ refused_or (given_refusal nodes b or_else 9 unless leb (length p) 16) Err (Ok (residual σ p (left nodes b (length b / 24))))
    unfolding residual_answer point_refusal
    residual_01 p = rw taken refl

    pub ends_01 : (lo hi : List Float) → propagate_given σ nodes b lo hi
        ≡ tested (read_given nodes b) (boxes_refusal lo hi) (lo, hi) (λ c. answered ends (propagate σ c (intervals lo hi)))
    unfolding propagate_given boxes_refusal
    ends_01 lo hi = rw taken refl

    pub lent_01 : (boxes : List Interval) → propagate_lent σ nodes b boxes ≡ tested (read_given nodes b) (9 unless is_domain boxes) boxes (λ c. answered (λ x. x) (propagate σ c boxes))
    unfolding propagate_lent
    lent_01 boxes = rw taken refl

    pub forall_01 : (v : ℕ) (lo hi : Float) (n room : ℕ) → decide_forall_given σ nodes b v lo hi n room
        ≡ decided_by (read_given nodes b) (range_refusal lo hi n or_else 10 unless leb n room) (λ c. decide_forall σ v lo hi c n)
    unfolding decide_forall_given later_refusal
    forall_01 v lo hi n room = rw taken refl

    pub exists_01 : (v : ℕ) (lo hi : Float) (n room : ℕ) → decide_exists_given σ nodes b v lo hi n room
        ≡ decided_by (read_given nodes b) (range_refusal lo hi n or_else 10 unless leb n room) (λ c. decide_exists σ v lo hi c n)
    unfolding decide_exists_given later_refusal
    exists_01 v lo hi n room = rw taken refl

  pub eval_01 : (nodes : List ℕ) (k : ℕ) (p : List Float) → eval_answer σ nodes k p ≡ refused_or (root_refusal nodes k or_else 9 unless leb (length p) 16) Err (Ok (eval_real σ p (tree_at nodes k)))
  unfolding eval_answer eval_refusal
  eval_01 nodes k p = rw taken refl
