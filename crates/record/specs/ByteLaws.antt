-- Laws of bytes: equal bytes are read alike, stores one after the other, and reading back what was stored. Assumes nothing.
use Rattle.std.specs.Prelude.{ℕ, zero, suc, ◌+◌, ◌*◌, ◌/◌, ◌%◌, ◌^◌, ◌≤◌, ◌<◌, ◌≡◌, refl, List, [], ◌∷◌, ◌++◌, length, get_or, set}
use Rattle.std.proofs.Common.{sym, ap, ◌∙◌, add-zero, add-suc, suc-add, arith, length-set, get_or-set_same, get_or-set_other}
use Rattle.std.proofs.Math.Nat.{div-div-eq-div-mul}
use Rattle.std.proofs.lemmas.List.Edits.{sets}
use Rattle.record.specs.Bytes.{u32_at, u32_bytes}

pub u32_same : (b c : List ℕ) (i j : ℕ) → ((o : ℕ) → o < 4 → get_or b (i + o) 0 ≡ get_or c (j + o) 0) → u32_at b i ≡ u32_at c j
unfolding u32_at
u32_same b c i j same =
    let w = ap (λ (m : ℕ). get_or b m 0) (sym (add-zero i)) ∙ same 0 (omega arith) ∙ ap (λ (m : ℕ). get_or c m 0) (add-zero j) in
    let x = same 1 (omega arith) in
    let y = same 2 (omega arith) in
    let z = same 3 (omega arith) in
    omega arith

-- ---- stores one after the other
sets_sets : (b u v : List ℕ) (at next : ℕ) → next ≡ at + length u → sets (sets b at u) next v ≡ sets b at (u ++ v)
sets_sets b [] v at next e = ap (λ (i : ℕ). sets b i v) (e ∙ add-zero at)
sets_sets b (x ∷ u) v at next e = sets_sets (set b at x) u v (suc at) next (e ∙ add-suc at (length u) ∙ sym (suc-add at (length u)))

pub then_bytes : (b : List ℕ) {b₁ b₂ : List ℕ} (at next : ℕ) (us vs : List ℕ) → b₁ ≡ sets b at us → b₂ ≡ sets b₁ next vs → next ≡ at + length us → b₂ ≡ sets b at (us ++ vs)
then_bytes b at next us vs e₁ e₂ h = e₂ ∙ ap (λ (l : List ℕ). sets l next vs) e₁ ∙ sets_sets b us vs at next h

pub four_words : (b : List ℕ) {b₁ b₂ b₃ b₄ : List ℕ} (at p q r s : ℕ) → b₁ ≡ sets b at (u32_bytes p) → b₂ ≡ sets b₁ (at + 4) (u32_bytes q) →
    b₃ ≡ sets b₂ (at + 8) (u32_bytes r) → b₄ ≡ sets b₃ (at + 12) (u32_bytes s) → b₄ ≡ sets b at (u32_bytes p ++ u32_bytes q ++ u32_bytes r ++ u32_bytes s)
unfolding u32_bytes
four_words b at p q r s e₁ e₂ e₃ e₄ =
    let P = u32_bytes p in
    let Q = u32_bytes q in
    let R = u32_bytes r in
    then_bytes b at (at + 12) (P ++ Q ++ R) (u32_bytes s) (then_bytes b at (at + 8) (P ++ Q) R (then_bytes b at (at + 4) P Q e₁ e₂ refl) e₃ refl) e₄ refl

-- ---- what is read after a store
digit : (n : ℕ) → n % 256 + 256 * (n / 256) ≡ n
digit n = omega arith

pub u32_read : (n : ℕ) → n < 2 ^ 32 → n % 256 + 256 * (n / 256 % 256 + 256 * (n / 65536 % 256 + 256 * (n / 16777216 % 256))) ≡ n
u32_read n h =
    let last : n / 16777216 % 256 ≡ n / 16777216 = omega arith in
    rw (last, ← div-div-eq-div-mul n 65536 256, digit (n / 65536), ← div-div-eq-div-mul n 256 256, digit (n / 256), digit n)

pub sets_before : (vs b : List ℕ) (at i : ℕ) → i < at → get_or (sets b at vs) i 0 ≡ get_or b i 0
sets_before [] b at i h = refl
sets_before (v ∷ vs) b at i h = sets_before vs (set b at v) (suc at) i (omega arith) ∙ get_or-set_other b at i v 0 (omega arith)

pub sets_at : (vs b : List ℕ) (at i : ℕ) → i < length vs → at + length vs ≤ length b → get_or (sets b at vs) (at + i) 0 ≡ get_or vs i 0
sets_at [] b at i h g = absurd (omega arith)
sets_at (v ∷ vs) b at zero h g =
    ap (λ (j : ℕ). get_or (sets (set b at v) (suc at) vs) j 0) (add-zero at)
    ∙ sets_before vs (set b at v) (suc at) at (omega arith)
    ∙ get_or-set_same b at v 0 (omega arith)
sets_at (v ∷ vs) b at (suc i) h g =
    ap (λ (j : ℕ). get_or (sets (set b at v) (suc at) vs) j 0) (add-suc at i ∙ sym (suc-add at i))
    ∙ sets_at vs (set b at v) (suc at) i (omega arith) (rw (length-set b at v) (omega arith))
