-- Demand 1: "The program as a whole ends on every file, box and limit. Malformed input gets its number from document 01, and then nothing lent is
-- altered." That every function ends is part of what the toolchain proves. The second sentence is a theorem for each exported call that can refuse and
-- is lent places to write: the number that comes back is that of the first test that fails, in document 01's order, with 14 of document 02 [8] before 8, or
-- before 9 where a call has no 8, or 0; and where it is not 0, every place is as it was. (eml_read, eml_read_records and eml_test_settings return the number
-- and write nothing; the methods of an interval and the functions refuse nothing.)
-- For any settings σ. Assumes nothing.
use Prim.Native.Nat.{ℕ, zero, suc}
use Rattle.std.specs.Prelude.{◌≡◌, Bool, List, [], Float, length, Result, Ok, Err}
use Rattle.std.proofs.Math.Path.{refl}
use Rattle.std.proofs.Common.{sym}
use Rattle.settings.specs.Settings.{settings_refusal}
use Rattle.settings.specs.declared.Settings.{Settings}
use Rattle.record.specs.Leaving.{Leaving, ◌leaving◌, same_answer, same_places}
use Rattle.record.specs.Refusal.{◌or_else◌, ◌unless◌, refused_or}
use Rattle.interval.specs.declared.Interval.{Interval}
use Rattle.interval.specs.Boxes.{are_paired, is_domain}
use Rattle.interval.specs.Domain.{domain_refusal, domain_new, domain_is_empty}
use Rattle.tree.specs.Canonical.{ln, sub, ln_refusal, sub_refusal}
use Rattle.constraint.specs.declared.Relation.{Relation}
use Rattle.constraint.specs.Constraint.{Constraint, num_vars}
use Rattle.constraint.specs.Comparison.{compared, compare_refusal}
use Rattle.file.specs.File.{Read, Accepted, refusal, given_refusal, read_by, read_file, read_given}
use Rattle.file.specs.Answer.{answered}
use Rattle.point.specs.declared.eval.EvalError.{EvalError}
use Rattle.tree.specs.Nodes.{tree_at}
use Rattle.point.specs.Eval.{eval_real}
use Rattle.point.specs.Answer.{eval_refusal, eval_answer, point_refusal, check_answer, residual_answer}
use Rattle.normal.specs.Given.{nnf_refusal, to_nnf_given}
use Rattle.narrow.specs.declared.PropResult.{PropResult}
use Rattle.narrow.specs.Given.{tested, propagate_given}
use Rattle.lent.specs.Lent.{propagate_lent}
use Rattle.nra.specs.Solver.{Answer as Reached}
use Rattle.nra.specs.Calls.{task_refusal, boxes_refusal, room_refusal, answered_by, solve_file, solve_given}
use Rattle.decide.specs.Deciding.{QuantResult, later_refusal, decided_by, decide_forall_given, decide_exists_given}
use Rattle.eml.specs.Answers.{number_of, placed, writing, appended, Evaluation, evaluated, propagated}
use Rattle.eml.specs.Places.{Solution, solved, Decision, decided}
use Rattle.promises.specs.Accepted.{file_problem, given_problem}

-- r is the number of the first test that fails, or 0; w is what a call returns and leaves in places that held `old`
pub record Refuses {B : Type 0} (r : ℕ) (old : B) (w : Leaving ℕ B) : Type 0 where
  pub number : w.answer ≡ r
  pub unaltered : (r ≡ 0 → ⊥) → w.places ≡ old

-- ---- a call that is refused with r, or else answers
module _ {A B : Type 0} (f : A → Leaving ℕ B) (old : B) (refused : ℕ → A) (answer : A) (returned : (n : ℕ) → f (refused n) ≡ (n leaving old)) (none : (f answer).answer ≡ 0) where
  refuses : (r : ℕ) → Refuses r old (f (refused_or r refused answer))
  refuses zero = record { number = none; unaltered = λ n. absurd (n refl) }
  refuses (suc r) = record { number = same_answer (returned (suc r)); unaltered = λ n. same_places (returned (suc r)) }

-- ---- eml_num_vars and eml_num_vars_records
reads : (r : ℕ) (c : Constraint) (bs : List Interval) (old : ℕ) → Refuses r old (placed (answered num_vars (read_by r (Accepted c bs))) old)
reads r c bs old = refuses (λ x. placed (answered num_vars x) old) old Read.Refused (Accepted c bs) (λ n. refl) refl r

pub num_vars_refuses : (file : List ℕ) (old : ℕ) → Refuses (refusal file) old (placed (answered num_vars (read_file file)) old)
unfolding read_file
num_vars_refuses file old = reads (refusal file) _ _ old

pub num_vars_records : (nodes b : List ℕ) (old : ℕ) → Refuses (given_refusal nodes b) old (placed (answered num_vars (read_given nodes b)) old)
unfolding read_given
num_vars_records nodes b old = reads (given_refusal nodes b) _ _ old

-- ---- eml_canonical_ln and eml_canonical_sub; eml_lt, eml_le, eml_gt and eml_ge
pub ln_refuses : (nodes : List ℕ) (n x : ℕ) → Refuses (ln_refusal nodes n x) nodes (appended (ln nodes n x))
unfolding ln
ln_refuses nodes n x = refuses appended nodes (λ r. Err r leaving nodes) _ (λ r. refl) refl (ln_refusal nodes n x)

pub sub_refuses : (nodes : List ℕ) (n x y : ℕ) → Refuses (sub_refusal nodes n x y) nodes (appended (sub nodes n x y))
unfolding sub
sub_refuses nodes n x y = refuses appended nodes (λ r. Err r leaving nodes) _ (λ r. refl) refl (sub_refusal nodes n x y)

pub compare_refuses : (rel : Relation) (nodes : List ℕ) (n x y : ℕ) (out : List ℕ) → Refuses (compare_refusal nodes n x y out) (nodes, out) (appended (compared rel nodes n x y out))
unfolding compared
compare_refuses rel nodes n x y out = refuses appended (nodes, out) (λ r. Err r leaving (nodes, out)) _ (λ r. refl) refl (compare_refusal nodes n x y out)

-- ---- eml_eval_real, eml_check and eml_residual
pub eval_refuses : (σ : Settings) (nodes : List ℕ) (k : ℕ) (p : List Float) (old : Evaluation) → Refuses (eval_refusal σ nodes k p) old (evaluated (eval_answer σ nodes k p) old)
unfolding eval_answer
eval_refuses σ nodes k p old = refuses (λ x. evaluated x old) old Err _ (λ r. refl) (none (eval_real σ p (tree_at nodes k))) (eval_refusal σ nodes k p)
  where
    none : (e : Result Float EvalError) → (evaluated (Ok e) old).answer ≡ 0
    none (Ok v) = refl
    none (Err e) = refl

pub check_refuses : (σ : Settings) (nodes b : List ℕ) (p : List Float) (old : Bool) → Refuses (point_refusal σ nodes b p) old (placed (check_answer σ nodes b p) old)
unfolding check_answer
check_refuses σ nodes b p old = refuses (λ x. placed x old) old Err _ (λ r. refl) refl (point_refusal σ nodes b p)

pub residual_refuses : (σ : Settings) (nodes b : List ℕ) (p : List Float) (old : Float) → Refuses (point_refusal σ nodes b p) old (placed (residual_answer σ nodes b p) old)
unfolding residual_answer
residual_refuses σ nodes b p old = refuses (λ x. placed x old) old Err _ (λ r. refl) refl (point_refusal σ nodes b p)

-- ---- eml_to_nnf
pub nnf_refuses : (nodes b out : List ℕ) (old : ℕ) → Refuses (nnf_refusal nodes b out) (old, out) (writing placed (to_nnf_given nodes b out) old)
unfolding to_nnf_given
nnf_refuses nodes b out old = refuses (λ x. writing placed x old) (old, out) (λ r. Err r leaving out) _ (λ r. refl) refl (nnf_refusal nodes b out)

-- ---- eml_propagate and eml_propagate_intervals
module _ {B : Type 0} (b : B) (answer : Constraint → PropResult) (left : Constraint → B) (old : ℕ) where
  propagate_refuses : (r later : ℕ) (c : Constraint) → Refuses (r or_else later) (old, b) (writing propagated (tested (read_by r (Accepted c [])) later b (λ c. Ok (answer c) leaving left c)) old)
  unfolding tested
  propagate_refuses zero zero c = record { number = refl; unaltered = λ n. absurd (n refl) }
  propagate_refuses zero (suc n) c = record { number = refl; unaltered = λ k. refl }
  propagate_refuses (suc r) later c = record { number = refl; unaltered = λ n. refl }

pub ends_refuse : (σ : Settings) (nodes b : List ℕ) (lo hi : List Float) (old : ℕ)
    → Refuses (given_refusal nodes b or_else settings_refusal σ or_else boxes_refusal lo hi) (old, (lo, hi)) (writing propagated (propagate_given σ nodes b lo hi) old)
unfolding propagate_given read_given boxes_refusal
ends_refuse σ nodes b lo hi old = propagate_refuses (lo, hi) _ _ old (given_refusal nodes b) _ _

pub intervals_refuse : (σ : Settings) (nodes constraints : List ℕ) (b : List Interval) (old : ℕ)
    → Refuses (given_refusal nodes constraints or_else settings_refusal σ or_else 9 unless is_domain b) (old, b) (writing propagated (propagate_lent σ nodes constraints b) old)
unfolding propagate_lent read_given
intervals_refuse σ nodes constraints b old = propagate_refuses b _ _ old (given_refusal nodes constraints) _ _

-- ---- eml_solve_file and eml_solve
refused_number : {A : Type 0} (m : ℕ) (a : A) → number_of (refused_or m Err (Ok a)) ≡ m
refused_number zero a = refl
refused_number (suc m) a = refl

solver_refusal : (r : ℕ) (c : Constraint) (bs : List Interval) (later : Constraint → ℕ) (answer : Constraint → List Interval → Reached)
    → number_of (answered_by (read_by r (Accepted c bs)) later answer) ≡ (r or_else later c)
solver_refusal zero c bs later answer = refused_number (later c) (answer c bs)
solver_refusal (suc r) c bs later answer = refl

solver_refuses : (s : Result Reached ℕ) (old : Solution) (r : ℕ) → number_of s ≡ r → Refuses r old (solved s old)
solver_refuses (Ok a) old r e = record { number = e; unaltered = λ n. absurd (n (sym e)) }
solver_refuses (Err n) old r e = record { number = e; unaltered = λ n. refl }

pub solve_file_refuses : (σ : Settings) (file : List ℕ) (limit : ℕ) (ε : Float) (old : Solution)
    → let room = length old.point in Refuses (refusal file or_else task_refusal σ limit ε or_else room_refusal (file_problem file ε).constraint room) old (solved (solve_file σ file limit ε room) old)
unfolding solve_file read_file file_problem
solve_file_refuses σ file limit ε old = solver_refuses (solve_file σ file limit ε (length old.point)) old _ (solver_refusal (refusal file) _ _ _ _)

pub solve_refuses : (σ : Settings) (nodes b : List ℕ) (lo hi : List Float) (limit : ℕ) (ε : Float) (old : Solution)
    → let room = length old.point in
    Refuses (given_refusal nodes b or_else task_refusal σ limit ε or_else boxes_refusal lo hi or_else room_refusal (given_problem nodes b ε).constraint room) old
    (solved (solve_given σ nodes b lo hi limit ε room) old)
unfolding solve_given read_given given_problem
solve_refuses σ nodes b lo hi limit ε old = solver_refuses (solve_given σ nodes b lo hi limit ε (length old.point)) old _ (solver_refusal (given_refusal nodes b) _ _ _ _)

-- ---- eml_decide_forall and eml_decide_exists
decider_refusal : (r : ℕ) (c : Constraint) (later : ℕ) (decide : Constraint → QuantResult) → number_of (decided_by (read_by r (Accepted c [])) later decide) ≡ (r or_else later)
decider_refusal zero c later decide = refused_number later (decide c)
decider_refusal (suc r) c later decide = refl

decider_refuses : (d : Result QuantResult ℕ) (old : Decision) (r : ℕ) → number_of d ≡ r → Refuses r old (decided d old)
decider_refuses (Ok q) old r e = record { number = e; unaltered = λ n. absurd (n (sym e)) }
decider_refuses (Err n) old r e = record { number = e; unaltered = λ n. refl }

module _ (σ : Settings) (nodes b : List ℕ) (v : ℕ) (lo hi : Float) (n : ℕ) (old : Decision) where
  pub forall_refuses : let room = length old.point in Refuses (given_refusal nodes b or_else later_refusal σ lo hi n room) old (decided (decide_forall_given σ nodes b v lo hi n room) old)
  unfolding decide_forall_given read_given
  forall_refuses = decider_refuses (decide_forall_given σ nodes b v lo hi n (length old.point)) old _ (decider_refusal (given_refusal nodes b) _ _ _)

  pub exists_refuses : let room = length old.point in Refuses (given_refusal nodes b or_else later_refusal σ lo hi n room) old (decided (decide_exists_given σ nodes b v lo hi n room) old)
  unfolding decide_exists_given read_given
  exists_refuses = decider_refuses (decide_exists_given σ nodes b v lo hi n (length old.point)) old _ (decider_refusal (given_refusal nodes b) _ _ _)

-- ---- eml_domain_new and eml_domain_is_empty
pub domain_new_refuses : (lo hi : List Float) (n : ℕ) (a b : List Float) → Refuses (domain_refusal lo hi n (length a) (length b)) (a, b) (domain_new lo hi n a b)
unfolding domain_new
domain_new_refuses lo hi n a b = refuses (λ x. x) (a, b) (λ r. r leaving (a, b)) _ (λ r. refl) refl (domain_refusal lo hi n (length a) (length b))

pub domain_is_empty_refuses : (lo hi : List Float) (old : Bool) → Refuses (9 unless are_paired lo hi) old (placed (domain_is_empty lo hi) old)
unfolding domain_is_empty
domain_is_empty_refuses lo hi old = refuses (λ x. placed x old) old Err _ (λ r. refl) refl (9 unless are_paired lo hi)
