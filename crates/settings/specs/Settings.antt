-- Document 02 [8] and [9]: the record of numbers, and the strict flag, that every call using them receives.
use Rattle.std.specs.Prelude.{ℕ, ◌^◌, Bool, ◌&&◌, leb, false}
use Rattle.std.specs.Float.Ieee.Scale.{finite}
use Rattle.number.specs.Notation.{◌≺◌, ◌≼◌, whole, decimal}
use Rattle.record.specs.Refusal.{◌unless◌}
use Rattle.settings.specs.declared.Settings.{Settings}

-- document 01's numbers: at most 20 rounds, 1e-8, 1e-12, ±709, and no strict evaluation
unfoldable pub usual : Settings
usual = record { rounds = 20; equality = decimal 1 (10 ^ 8); slack = decimal 1 (10 ^ 12); clamp = whole 709; strict = false }

-- "Rounds are 1 to 100, 0 < slack < equality tolerance, both finite, and the clamp is 1 to 709."
unfoldable pub in_range : Settings → Bool
in_range σ =
    (leb 1 σ.rounds && leb σ.rounds 100)
    && ((whole 0 ≺ σ.slack) && (σ.slack ≺ σ.equality) && (finite σ.slack && finite σ.equality))
    && ((whole 1 ≼ σ.clamp) && (σ.clamp ≼ whole 709))

-- "14, a parameter outside its range"
unfoldable pub settings_refusal : Settings → ℕ
settings_refusal σ = 14 unless in_range σ
