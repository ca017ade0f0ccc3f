-- A turn of `read_full`: what was read stands behind what stood there. Assumes nothing.
use Rattle.std.proofs.Common.{ℕ, ◌+◌, ◌≤◌, List, ◌++◌, Option, length, take, subst, length-take-le}
use Rattle.std.proofs.Math.Seq.{take-append-add}
use Rattle.std.proofs.lemmas.List.{take-append-le}
use Rattle.std.proofs.KnownBytes.{Consumes-trans}
use Rattle.std.specs.Io.KnownBytes.{Consumes}
use borrow.Rule.Slice.PartMut.{put_mid, post_of}

pub read_more : (a b c : Option (List ℕ)) (i k n : ℕ) (xs ys : List ℕ) → i ≤ length xs → n ≤ length ys → Consumes a b (take i xs) → Consumes b c (take n ys)
    → Consumes a c (take (i + n) (put_mid i k xs ys))
read_more a b c i k n xs ys within fits p q =
    subst (λ (m : ℕ). Consumes a c (take (m + n) (put_mid i k xs ys))) (length-take-le i xs within)
    (rw (take-append-add (take i xs) (ys ++ post_of i k xs) n, take-append-le n ys (post_of i k xs) fits) (Consumes-trans a b c _ _ p q))
