-- `propagate` on a caller's own list of intervals: the refusals, 14 for the settings and 9 over 16 boxes too, and the answer with the list at exit.
use Rattle.std.specs.Prelude.{ℕ, List}
use Rattle.settings.specs.Settings.{settings_refusal}
use Rattle.settings.specs.declared.Settings.{Settings}
use Rattle.record.specs.Refusal.{◌or_else◌, ◌unless◌}
use Rattle.interval.specs.declared.Interval.{Interval}
use Rattle.interval.specs.Boxes.{is_domain}
use Rattle.file.specs.File.{read_given}
use Rattle.narrow.specs.Narrowing.{propagate}
use Rattle.narrow.specs.Given.{Given, tested, answered}

unfoldable pub propagate_lent : Settings → List ℕ → List ℕ → List Interval → Given (List Interval)
propagate_lent σ nodes constraints b = tested (read_given nodes constraints) (settings_refusal σ or_else 9 unless is_domain b) b (λ c. answered (λ x. x) (propagate σ c b))
