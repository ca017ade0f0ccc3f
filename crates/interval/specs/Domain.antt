-- IntervalDomain (interval.rs), `new` and `is_empty`, on lists of ends that a caller gives: what is returned, and what is left in the lent places.
use Rattle.std.specs.Prelude.{ℕ, Bool, ◌&&◌, List, leb, length, Float, Result, Ok, Err}
use Rattle.std.proofs.Math.Seq.{paste}
use Rattle.record.specs.Leaving.{Leaving, ◌leaving◌}
use Rattle.record.specs.Refusal.{◌or_else◌, ◌unless◌, refused_or}
use Rattle.interval.specs.Boxes.{starting, any_empty, intervals, lows, highs, are_paired, are_boxes}

-- 9: what is no list of boxes, or over 16 variables; 10: fewer places for an end than variables
unfoldable pub domain_refusal : List Float → List Float → ℕ → ℕ → ℕ → ℕ
domain_refusal lo hi n room other = 9 unless are_boxes lo hi && leb n 16 or_else 10 unless leb n room && leb n other

-- the boxes of n variables, in the first n places of each list
unfoldable pub domain_new : List Float → List Float → ℕ → List Float → List Float → Leaving ℕ (List Float × List Float)
domain_new lo hi n a b =
    let s = starting n (intervals lo hi) in
    refused_or (domain_refusal lo hi n (length a) (length b)) (λ r. r leaving (a, b)) (0 leaving (paste a 0 (lows s) n, paste b 0 (highs s) n))

-- whether any interval is empty, its ends being any f64. 9: not as many lo as hi, or over 16
unfoldable pub domain_is_empty : List Float → List Float → Result Bool ℕ
domain_is_empty lo hi = refused_or (9 unless are_paired lo hi) Err (Ok (any_empty (intervals lo hi)))
