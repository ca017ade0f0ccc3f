-- A record's four numbers, put one after the other. Assumes nothing.
use Rattle.std.specs.Prelude.{ℕ, ◌+◌, ◌≡◌, List, ◌++◌}
use Rattle.std.proofs.Common.{refl}
use Rattle.std.proofs.Math.Seq.{sets}
use Rattle.record.specs.Bytes.{u32_bytes, u64_bytes}
use Rattle.record.specs.ByteLaws.{then_bytes}

pub record_words : (b : List ℕ) {b₁ b₂ b₃ b₄ : List ℕ} (at kind arg lo hi : ℕ) → b₁ ≡ sets b at (u32_bytes kind) → b₂ ≡ sets b₁ (at + 4) (u32_bytes arg) →
    b₃ ≡ sets b₂ (at + 8) (u64_bytes lo) → b₄ ≡ sets b₃ (at + 16) (u64_bytes hi) → b₄ ≡ sets b at (u32_bytes kind ++ u32_bytes arg ++ u64_bytes lo ++ u64_bytes hi)
unfolding u64_bytes u32_bytes
record_words b at kind arg lo hi e₁ e₂ e₃ e₄ =
    let P = u32_bytes kind in
    let Q = u32_bytes arg in
    let R = u64_bytes lo in
    then_bytes b at (at + 16) (P ++ Q ++ R) (u64_bytes hi) (then_bytes b at (at + 8) (P ++ Q) R (then_bytes b at (at + 4) P Q e₁ e₂ refl) e₃ refl) e₄ refl
