-- Bools set as bits (document 01, "Writing"): eight of them are a byte, and what is set in an image one after the other
-- is one run of bits.
use Prim.Native.Nat.{ℕ, ◌+◌, ◌-◌, ◌*◌, ◌/◌, ◌%◌, ◌^◌, ◌<◌, ◌≤◌}
use native.Mathlib.Omega.{arith}
use mathlib.Core.Path.{◌≡◌, refl, sym, ap, ◌∙◌}
use mathlib.Core.Bool.{Bool}
use mathlib.Core.List.{List}
use lib.Dec.{eqb}
use lib.ListN.{get_or, length, length-set, set}
use Rattle.words.specs.Bits.{Bits, bit_of, digit, flat, from, stamp, val}
use Rattle.words.proofs.BitLaws.{bit_val, flat_set, digit_is}
use Rattle.words.proofs.StampLaws.{stamp_ext, stamp_none, stamp_two}
use Rattle.values.specs.inside.writing.Bools.{AtLeast, Bools, truths}
use Rattle.values.specs.inside.writing.Passes.{Applied, left_at}
use Rattle.values.specs.writing.Writing.{bools_in}
use Rattle.values.proofs.writing.bools.BoolRuns.{Accepts, bools_run, later, least_few, run_byte, truths_from}

-- ---- eight bools as a byte

-- their bytes, each 0 or 1
pub record EightBytes (s : List ℕ) (at : ℕ) : Type 0 where
  pub long : at + 84 < length s
  pub small : at + 84 < 2 ^ 32
  pub b0 : get_or s at 0 < 2
  pub b1 : get_or s (at + 12) 0 < 2
  pub b2 : get_or s (at + 24) 0 < 2
  pub b3 : get_or s (at + 36) 0 < 2
  pub b4 : get_or s (at + 48) 0 < 2
  pub b5 : get_or s (at + 60) 0 < 2
  pub b6 : get_or s (at + 72) 0 < 2
  pub b7 : get_or s (at + 84) 0 < 2

module _ {s : List ℕ} {k : ℕ} (r : AtLeast s k 8) where
  byte_at : (i at : ℕ) → i < 8 → 8 + 12 * (k + i) ≡ at → get_or s at 0 < 2
  byte_at i at l e = rw e at (run_byte r.run i (omega (arith, r.enough)))

  -- the first eight bools of a run of at least eight have their bytes in the stream, each 0 or 1
  pub eight_bytes : EightBytes s (8 + 12 * k)
  eight_bytes =
      let few = least_few r in
      record {
        long = omega arith;
        small = omega arith;
        b0 = byte_at 0 (8 + 12 * k) (omega arith) (omega arith);
        b1 = byte_at 1 (8 + 12 * k + 12) (omega arith) (omega arith);
        b2 = byte_at 2 (8 + 12 * k + 24) (omega arith) (omega arith);
        b3 = byte_at 3 (8 + 12 * k + 36) (omega arith) (omega arith);
        b4 = byte_at 4 (8 + 12 * k + 48) (omega arith) (omega arith);
        b5 = byte_at 5 (8 + 12 * k + 60) (omega arith) (omega arith);
        b6 = byte_at 6 (8 + 12 * k + 72) (omega arith) (omega arith);
        b7 = byte_at 7 (8 + 12 * k + 84) (omega arith) (omega arith);
      }

  truth_at : (i at : ℕ) → i < 8 → 8 + 12 * (k + i) ≡ at → digit (truths s k i) ≡ get_or s at 0
  unfolding truths
  truth_at i at l e = rw e (digit_is (get_or s at 0) (byte_at i at l e))

  -- the sum that code makes of them
  pub eight_val :
      get_or s (8 + 12 * k) 0 + 2 * get_or s (8 + 12 * k + 12) 0 + 4 * get_or s (8 + 12 * k + 24) 0
      + 8 * get_or s (8 + 12 * k + 36) 0
      + 16 * get_or s (8 + 12 * k + 48) 0
      + 32 * get_or s (8 + 12 * k + 60) 0
      + 64 * get_or s (8 + 12 * k + 72) 0
      + 128 * get_or s (8 + 12 * k + 84) 0
      ≡ val 8 (truths s k)
  unfolding val
  eight_val =
      let d0 = truth_at 0 (8 + 12 * k) (omega arith) (omega arith) in
      let d1 = truth_at 1 (8 + 12 * k + 12) (omega arith) (omega arith) in
      let d2 = truth_at 2 (8 + 12 * k + 24) (omega arith) (omega arith) in
      let d3 = truth_at 3 (8 + 12 * k + 36) (omega arith) (omega arith) in
      let d4 = truth_at 4 (8 + 12 * k + 48) (omega arith) (omega arith) in
      let d5 = truth_at 5 (8 + 12 * k + 60) (omega arith) (omega arith) in
      let d6 = truth_at 6 (8 + 12 * k + 72) (omega arith) (omega arith) in
      let d7 = truth_at 7 (8 + 12 * k + 84) (omega arith) (omega arith) in
      omega arith

-- ---- bools set in an image

-- the first n bools from entry k on are set from bit p on
pub record BoolsSet (s : List ℕ) (k p : ℕ) (image : List ℕ) (n : ℕ) (new : List ℕ) : Type 0 where
  pub long : length new ≡ length image
  pub bits : flat new ≡ stamp p n (truths s k) (flat image)

-- before the first bool the image is as it was
pub laid_none : {s : List ℕ} {k p : ℕ} {image : List ℕ} {n : ℕ} → n ≡ 0 → BoolsSet s k p image n image
laid_none {s} {k} {p} {image} {n} e = record { long = refl; bits = rw e (sym (stamp_none p (truths s k) (flat image))) }

-- where the first n bools are set, the n bits from p on are theirs
pub laid_all : {s : List ℕ} {k p : ℕ} {image : List ℕ} {m : ℕ} {new : List ℕ} {n : ℕ} → BoolsSet s k p image m new
    → m ≡ n
    → flat new ≡ stamp p n (truths s k) (flat image)
laid_all {n} a e = rw e at a.bits

-- and some more
laid_more : {s : List ℕ} {k p : ℕ} {image : List ℕ} {m : ℕ} {new : List ℕ} (q n : ℕ) (b : Bits) (newer : List ℕ)
    (sum : ℕ) → BoolsSet s k p image m new → q ≡ p + m → sum ≡ m + n → length newer ≡ length new
    → flat newer ≡ stamp q n b (flat new) → ((i : ℕ) → i < n → b i ≡ truths s k (m + i))
    → BoolsSet s k p image sum newer
laid_more {s} {k} {p} {image} {m} {new} q n b newer sum a e f long h g =
    record {
      long = long ∙ a.long;
      bits = h ∙ stamp_ext q n b (from m (truths s k)) (flat new) g
          ∙ ap (stamp q n (from m (truths s k))) a.bits
          ∙ rw (e, f) (stamp_two p m n (truths s k) (flat image));
    }

-- where a byte of eight bools is stored, eight bools more are set
pub laid_byte : {s : List ℕ} {k : ℕ} {image new : List ℕ} (base b : ℕ) {x : ℕ}
    → BoolsSet s k (8 * base) image (8 * b) new → base + b < length new → x ≡ val 8 (truths s (k + 8 * b))
    → BoolsSet s k (8 * base) image (8 * (b + 1)) (set new (base + b) x)
laid_byte {s} {k} {image} {new} base b {x} a l e =
    laid_more (8 * (base + b)) 8 (bit_of x) (set new (base + b) x) (8 * (b + 1)) a (omega arith) (omega arith)
    (length-set new (base + b) x) (flat_set new (base + b) x l)
    (λ i h. ap (λ y. bit_of y i) e ∙ bit_val 8 (truths s (k + 8 * b)) i h ∙ truths_from s k (8 * b) i)

-- where the bit of a bool is stored, one bool more is set
pub laid_bit : {s : List ℕ} {k : ℕ} {image new : List ℕ} {newer : List ℕ} (at j : ℕ) {v : Bool}
    → BoolsSet s k (8 * at) image j new → length newer ≡ length new
    → flat newer ≡ stamp (8 * at + j) 1 (λ i. v) (flat new) → v ≡ eqb (get_or s (8 + 12 * (k + j)) 0) 1
    → BoolsSet s k (8 * at) image (j + 1) newer
laid_bit {s} {k} {image} {new} {newer} at j {v} a long e t =
    laid_more (8 * at + j) 1 (λ i. v) newer (j + 1) a refl refl long e (λ i h. t ∙ same i h)
  where
    same : (i : ℕ) → i < 1 → eqb (get_or s (8 + 12 * (k + j)) 0) 1 ≡ truths s k (j + i)
    same i h = unfold truths in ap (λ y. eqb (get_or s y 0) 1) (omega arith)

-- ---- the whole

-- a run of m bools as whole bytes and the bits of one more
pub record Parts (s : List ℕ) (k : ℕ) (image : List ℕ) (base m : ℕ) : Type 0 where
  pub small : k + m < 2 ^ 28
  pub whole : AtLeast s k (8 * (m / 8))
  pub room : base + m / 8 ≤ length image
  pub few : AtLeast s (k + 8 * (m / 8)) (m % 8)
  pub last : 0 < m % 8 → base + m / 8 < length image

-- an accepted array of bools is whole bytes and the bits of one more, and they lie in the image
pub parts_of : {s : List ℕ} {k : ℕ} {image : List ℕ} {base : ℕ} (b : Bools s k image base) {m : ℕ}
    → m ≡ (bools_run b).many → Parts s k image base m
parts_of {s} {k} {image} {base} b {m} e =
    let a = bools_run b in
    let all : AtLeast s k m = record { many = a.many; run = a.run; enough = omega arith } in
    let bits : m ≤ 8 * b.bytes = omega (arith, a.few) in
    let room = b.room in
    record {
      small = (least_few all).small;
      whole = record { many = a.many; run = a.run; enough = omega arith };
      room = omega arith;
      few = later all (8 * (m / 8)) (m % 8) (omega arith);
      last = λ l. omega arith;
    }

-- what is set of both is set of the run
pub laid_both : {s : List ℕ} {k : ℕ} {image newer : List ℕ} (new : List ℕ) (base : ℕ) {m : ℕ}
    → length new ≡ length image
    → flat new ≡ stamp (8 * base) (8 * (m / 8)) (truths s k) (flat image) → length newer ≡ length new
    → flat newer ≡ stamp (8 * (base + m / 8)) (m % 8) (truths s (k + 8 * (m / 8))) (flat new)
    → BoolsSet s k (8 * base) image m newer
laid_both {s} {k} {image} {newer} new base {m} long e more f =
    laid_more (8 * (base + m / 8)) (m % 8) (truths s (k + 8 * (m / 8))) newer m (record { long = long; bits = e })
    (omega arith) (omega arith) more f (λ i l. truths_from s k (8 * (m / 8)) i)

-- where all bools of an accepted array are set, the array is set up to its close
pub bools_applied : {s : List ℕ} {k total : ℕ} {image new : List ℕ} (q base : ℕ)
    → BoolsSet s k (8 * base) image (q - k) new → (a : Accepts s k total (8 * base) (flat image)) → q ≡ k + a.many
    → Applied s k (q + 1) image new (bools_in total (8 * base) (left_at s k))
bools_applied {s} {k} {total} {image} {new} q base l a e =
    let many : a.many ≡ q - k = omega arith in
    let after : k + a.many + 1 ≡ q + 1 = omega arith in
    record {
      further = omega arith;
      inside = omega (arith, a.run.inside);
      long = l.long;
      gives = a.gives ∙ rw (after, many, l.bits) refl;
    }
