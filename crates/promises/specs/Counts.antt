-- Document 01, "Halving": "The count of halvings is carried in the result: halves written, also before a conflict; at most the limit." Of the
-- definition, for any settings σ and every limit L, 0 included; and of what the calls return: a refusal has no count. Assumes nothing.
use Rattle.std.specs.Prelude.{◌≡◌, ℕ, ◌≤◌, true, List, Float}
use Rattle.settings.specs.declared.Settings.{Settings}
use Rattle.interval.specs.declared.Interval.{Interval}
use Rattle.interval.specs.Boxes.{intervals}
use Rattle.file.specs.File.{read_file, read_given}
use Rattle.nra.specs.Solver.{Problem, halvings_of, reached, solve}
use Rattle.nra.specs.Answers.{problem}
use Rattle.nra.specs.Calls.{solve_file, solve_given}
use Rattle.promises.specs.Limit.{solve_counts}
use Rattle.promises.specs.Received.{Counted, solved_counted, answered_counted}

-- "at most the limit"
pub at_most_the_limit : (σ : Settings) (p : Problem) (bounds : List Interval) (L : ℕ) → halvings_of (solve σ p bounds L) ≤ L
at_most_the_limit σ p bounds L = (solve_counts σ p bounds L).at_most

-- and an answer "limit" carries the limit itself
pub limit_itself : (σ : Settings) (p : Problem) (bounds : List Interval) (L : ℕ) → reached (solve σ p bounds L) ≡ true → halvings_of (solve σ p bounds L) ≡ L
limit_itself σ p bounds L = (solve_counts σ p bounds L).limit_itself

-- Of what the calls return:
pub file_counted : (σ : Settings) (file : List ℕ) (L : ℕ) (ε : Float) (room : ℕ) → Counted L (solve_file σ file L ε room)
unfolding solve_file
file_counted σ file L ε room = answered_counted L (read_file file) _ _ (λ c bs. solved_counted σ (problem c ε) bs L)

pub given_counted : (σ : Settings) (nodes b : List ℕ) (lo hi : List Float) (L : ℕ) (ε : Float) (room : ℕ) → Counted L (solve_given σ nodes b lo hi L ε room)
unfolding solve_given
given_counted σ nodes b lo hi L ε room = answered_counted L (read_given nodes b) _ _ (λ c none. solved_counted σ (problem c ε) (intervals lo hi) L)
