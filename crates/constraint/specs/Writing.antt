-- Records that are written are read back, and are records. Assumes nothing.
use Rattle.std.specs.Prelude.{ℕ, zero, suc, ◌+◌, ◌*◌, ◌/◌, ◌%◌, ◌^◌, ◌≤◌, ◌<◌, ◌≡◌, true, List, [], ◌∷◌, ◌++◌, T, ltb, Float, length, get_or}
use Rattle.std.proofs.Math.Path.{refl, ap₂}
use Rattle.std.proofs.Common.{ap, ◌∙◌, length-append, get_or-append-add}
use native.Mathlib.Omega.{arith}
use borrow.Author.Tests.{lt-ltb, leb-true}
use Rattle.std.specs.Float.Ieee.{binary64, to_bits, fits}
use Rattle.std.specs.Float.Ieee.Bits.{of_bits-to_bits, to_bits-lt}
use Rattle.std.proofs.Math.ListN.{get_or-append}
use Rattle.number.specs.Notation.{when◌then◌else◌}
use Rattle.record.specs.Bytes.{u32_at, u64_at, f64_at, u32_bytes, u64_bytes}
use Rattle.record.specs.ByteLaws.{u32_same, u32_read}
use Rattle.constraint.specs.Records.{relation_of, record_at, is_record}
use Rattle.constraint.specs.Code.{Writable}
use Rattle.constraint.specs.Encoding.{kind_of, record_bytes, records_bytes}
use Rattle.constraint.specs.declared.Relation.{Relation}
use Rattle.constraint.specs.declared.Record.{Record}

pub length_record : (r : Record) → length (record_bytes r) ≡ 24
unfolding record_bytes u64_bytes u32_bytes
length_record (Record.Atom rel i) = refl
length_record Record.Not = refl
length_record (Record.And m) = refl
length_record (Record.Or m) = refl
length_record (Record.ForAll v lo hi) = refl
length_record (Record.Exists v lo hi) = refl

pub length_records : (rs : List Record) → length (records_bytes rs) ≡ 24 * length rs
unfolding records_bytes
length_records [] = refl
length_records (r ∷ rs) = length-append (record_bytes r) (records_bytes rs) ∙ omega (arith, length_record r, length_records rs)

pub record_byte : (rs : List Record) (j o : ℕ) → j < length rs → o < 24 → get_or (records_bytes rs) (24 * j + o) 0 ≡ get_or (record_bytes (get_or rs j Record.Not)) (24 * 0 + o) 0
unfolding records_bytes
record_byte [] j o h l = absurd (omega arith)
record_byte (r ∷ rs) zero o h l = get_or-append (record_bytes r) (records_bytes rs) 0 (24 * 0 + o) (omega (arith, length_record r))
record_byte (r ∷ rs) (suc j) o h l =
    ap (λ (i : ℕ). get_or (record_bytes r ++ records_bytes rs) i 0) (omega (arith, length_record r))
    ∙ get_or-append-add (record_bytes r) (records_bytes rs) (24 * j + o) 0
    ∙ record_byte rs j o (omega arith) l

-- ---- record k of b is record l of c, where their bytes are the same
module _ (b c : List ℕ) (k l : ℕ) (same : (o : ℕ) → o < 24 → get_or b (24 * k + o) 0 ≡ get_or c (24 * l + o) 0) where
  word_same : (o i j : ℕ) → o + 4 ≤ 24 → i ≡ 24 * k + o → j ≡ 24 * l + o → u32_at b i ≡ u32_at c j
  word_same o i j h p q =
      u32_same b c i j (λ u l. ap (λ (m : ℕ). get_or b m 0) (omega arith) ∙ same (o + u) (omega arith) ∙ ap (λ (m : ℕ). get_or c m 0) (omega arith))

  kind_same : u32_at b (24 * k) ≡ u32_at c (24 * l)
  kind_same = word_same 0 (24 * k) (24 * l) (omega arith) (omega arith) (omega arith)

  arg_same : u32_at b (24 * k + 4) ≡ u32_at c (24 * l + 4)
  arg_same = word_same 4 (24 * k + 4) (24 * l + 4) (omega arith) refl refl

  end_same : (o : ℕ) → o + 8 ≤ 24 → u64_at b (24 * k + o) ≡ u64_at c (24 * l + o)
  unfolding u64_at
  end_same o h =
      ap₂ (λ (x y : ℕ). x + 2 ^ 32 * y) (word_same o (24 * k + o) (24 * l + o) (omega arith) refl refl)
      (word_same (o + 4) (24 * k + o + 4) (24 * l + o + 4) (omega arith) (omega arith) (omega arith))

  pub record_same : record_at b k ≡ record_at c l
  unfolding record_at f64_at
  record_same = rw (kind_same, arg_same, end_same 8 (omega arith), end_same 16 (omega arith))

  pub is_record_same : (n : ℕ) → is_record n b k ≡ is_record n c l
  unfolding is_record
  is_record_same n = rw (kind_same, arg_same, end_same 8 (omega arith), end_same 16 (omega arith))

-- ---- the four numbers of a record
module _ (kind arg lo hi : ℕ) where
  abbrev words : List ℕ
  words = u32_bytes kind ++ u32_bytes arg ++ u64_bytes lo ++ u64_bytes hi

  kind_is : kind < 2 ^ 32 → u32_at words 0 ≡ kind
  unfolding u64_bytes u32_bytes u32_at
  kind_is h = u32_read kind h

  arg_is : arg < 2 ^ 32 → u32_at words 4 ≡ arg
  unfolding u64_bytes u32_bytes u32_at
  arg_is h = u32_read arg h

  lo_is : lo < 2 ^ 64 → u64_at words 8 ≡ lo
  unfolding u64_at u64_bytes u32_bytes u32_at
  lo_is h = ap₂ (λ (x y : ℕ). x + 2 ^ 32 * y) (u32_read (lo % 2 ^ 32) (omega arith)) (u32_read (lo / 2 ^ 32) (omega arith)) ∙ omega arith

  hi_is : hi < 2 ^ 64 → u64_at words 16 ≡ hi
  unfolding u64_at u64_bytes u32_bytes u32_at
  hi_is h = ap₂ (λ (x y : ℕ). x + 2 ^ 32 * y) (u32_read (hi % 2 ^ 32) (omega arith)) (u32_read (hi / 2 ^ 32) (omega arith)) ∙ omega arith

kind_small : (rel : Relation) → ltb (kind_of rel) 6 ≡ true
kind_small Relation.EqZero = refl
kind_small Relation.GtZero = refl
kind_small Relation.GeZero = refl
kind_small Relation.LtZero = refl
kind_small Relation.LeZero = refl
kind_small Relation.NeZero = refl

kind_back : (rel : Relation) → relation_of (kind_of rel) ≡ rel
unfolding relation_of when◌then◌else◌
kind_back Relation.EqZero = refl
kind_back Relation.GtZero = refl
kind_back Relation.GeZero = refl
kind_back Relation.LtZero = refl
kind_back Relation.LeZero = refl
kind_back Relation.NeZero = refl

-- ---- a record over at most 1024 nodes
bits_small : (x : Float) → T (fits binary64 x) → to_bits binary64 x < 2 ^ 64
bits_small x h = to_bits-lt binary64 x h

module _ (n : ℕ) (few : n ≤ 1024) where
  pub read_back : (r : Record) → Writable n r → record_at (record_bytes r) 0 ≡ r
  unfolding record_at record_bytes when◌then◌else◌ f64_at
  read_back (Record.Atom rel i) h =
      let k = kind_of rel in
      rw (kind_is k i 0 0 (omega (arith, leb-true (suc (kind_of rel)) 6 (kind_small rel))), kind_small rel, kind_back rel, arg_is k i 0 0 (omega arith))
  read_back Record.Not h = rw (kind_is 6 0 0 0 (omega arith))
  read_back (Record.And m) h = rw (kind_is 7 m 0 0 (omega arith), arg_is 7 m 0 0 (omega arith))
  read_back (Record.Or m) h = rw (kind_is 8 m 0 0 (omega arith), arg_is 8 m 0 0 (omega arith))
  read_back (Record.ForAll v lo hi) h =
      let x = to_bits binary64 lo in
      let y = to_bits binary64 hi in
      rw (kind_is 9 v x y (omega arith), arg_is 9 v x y (omega (arith, h.0)), lo_is 9 v x y (bits_small lo h.1), hi_is 9 v x y (bits_small hi h.2), of_bits-to_bits binary64 lo h.1, of_bits-to_bits binary64 hi h.2)
  read_back (Record.Exists v lo hi) h =
      let x = to_bits binary64 lo in
      let y = to_bits binary64 hi in
      rw (kind_is 10 v x y (omega arith), arg_is 10 v x y (omega (arith, h.0)), lo_is 10 v x y (bits_small lo h.1), hi_is 10 v x y (bits_small hi h.2), of_bits-to_bits binary64 lo h.1, of_bits-to_bits binary64 hi h.2)

  pub is_record_written : (r : Record) → Writable n r → is_record n (record_bytes r) 0 ≡ true
  unfolding is_record record_bytes when◌then◌else◌
  is_record_written (Record.Atom rel i) h =
      let k = kind_of rel in
      rw (kind_is k i 0 0 (omega (arith, leb-true (suc (kind_of rel)) 6 (kind_small rel))), kind_small rel, arg_is k i 0 0 (omega arith), lo_is k i 0 0 (omega arith), hi_is k i 0 0 (omega arith), lt-ltb i n h)
  is_record_written Record.Not h = rw (kind_is 6 0 0 0 (omega arith), arg_is 6 0 0 0 (omega arith), lo_is 6 0 0 0 (omega arith), hi_is 6 0 0 0 (omega arith))
  is_record_written (Record.And m) h = rw (kind_is 7 m 0 0 (omega arith), lo_is 7 m 0 0 (omega arith), hi_is 7 m 0 0 (omega arith))
  is_record_written (Record.Or m) h = rw (kind_is 8 m 0 0 (omega arith), lo_is 8 m 0 0 (omega arith), hi_is 8 m 0 0 (omega arith))
  is_record_written (Record.ForAll v lo hi) h =
      let x = to_bits binary64 lo in
      let y = to_bits binary64 hi in
      rw (kind_is 9 v x y (omega arith), arg_is 9 v x y (omega (arith, h.0)), lt-ltb v 16 h.0)
  is_record_written (Record.Exists v lo hi) h =
      let x = to_bits binary64 lo in
      let y = to_bits binary64 hi in
      rw (kind_is 10 v x y (omega arith), arg_is 10 v x y (omega (arith, h.0)), lt-ltb v 16 h.0)
