-- A part of a list as the code reads and writes it, and as the definitions of bytes do. Assumes nothing.
use borrow.Rule.Slice.PartMut.{put_mid}
use Rattle.std.proofs.Common.{◌≡◌, ℕ, ◌+◌, ◌-◌, ◌≤◌, List, length, take, sym, refl, ◌∙◌, arith, append_assoc}
use Rattle.std.proofs.lemmas.List.{drop-drop}
use Rattle.std.proofs.lemmas.List.Edits.{sets, sets-eq}
use Rattle.std.specs.Int.{w64, to_le_bytes}
use Rattle.record.specs.Bytes.{u32_bytes, u64_bytes}

-- k bytes written over `b[at..at + k]`
pub put_at : (b zs : List ℕ) {ys : List ℕ} (at k : ℕ) → at + k ≤ length b → length zs ≡ k → ys ≡ zs → put_mid at (at + k - at) b ys ≡ sets b at zs
put_at b zs at k h l e =
    let n : at + k - at ≡ length zs = omega arith in
    rw (e, n, sets-eq zs b at (omega arith), drop-drop) (sym (append_assoc (take at b) zs _))

-- a number of 64 bits, as the bytes of its two halves
pub put_u64 : (b ys : List ℕ) (at n : ℕ) → at + 8 ≤ length b → ys ≡ to_le_bytes w64 n → put_mid at (at + 8 - at) b ys ≡ sets b at (u64_bytes n)
unfolding u64_bytes u32_bytes
put_u64 b ys at n h e = let w : to_le_bytes w64 n ≡ u64_bytes n = grind arith in put_at b _ at 8 h refl (e ∙ w)
