-- How many entries an atomic and a member that is no structure have (document 01, "Reading"): as many for every image,
-- none of them a text, and few enough to add up.
use Rattle.std.specs.Prelude.{Some, None}
use Prim.Native.Nat.{ℕ, ◌+◌, ◌*◌, ◌^◌, ◌<◌, ◌≤◌}
use native.Mathlib.Nat.{mul-le-mul_right}
use native.Mathlib.Omega.{arith}
use mathlib.Core.Path.{◌≡◌, refl, ◌∙◌}
use mathlib.Core.Bool.{Bool, true, false, cond}
use mathlib.Core.List.{List, []}
use borrow.Author.Tests.{eqb-true, eqb-false, eq-eqb, ne_eqb}
use lib.Dec.{eqb, lit≤}
use Rattle.words.specs.Bits.{Bits, flat}
use Rattle.words.specs.Words.{part}
use Rattle.types.specs.atomics.Atomic.{bit_string, size_of}
use Rattle.types.specs.layout.Placing.{times}
use Rattle.types.specs.declared.atomics.atomic.Atomic.{Atomic}
use Rattle.types.specs.declared.atomics.atomic.Atomic.TheVariants as atomic
use Rattle.types.specs.declared.tables.member.Member.{Member}
use Rattle.types.specs.declared.tables.member.Ty.TheVariants as ty
use Rattle.values.specs.inside.reading.Walk.{up_to, bit_token, bits_out, number_out, element_out, numbers_out}
use Rattle.values.specs.inside.reading.Walk.{atomics_out, leaf_out}
use Rattle.values.specs.inside.stream.Counting.{Counted, TextFree}
use Rattle.values.specs.reading.Leaf.{leaf_of, emit}
use Rattle.values.specs.stream.Stream.{body_of, bodies}
use Rattle.values.proofs.reading.UpLaws.{wrap_length, wrap_bodies, up_length, up_bodies}
use Rattle.values.proofs.stream.CountLaws.{plain_same}

-- ---- atomics

emit_body : (a : Atomic) (b : Bits) → body_of (emit (leaf_of a) b) ≡ []
emit_body atomic.Bool b = refl
emit_body atomic.SInt b = refl
emit_body atomic.Int b = refl
emit_body atomic.DInt b = refl
emit_body atomic.LInt b = refl
emit_body atomic.USInt b = refl
emit_body atomic.UInt b = refl
emit_body atomic.UDInt b = refl
emit_body atomic.ULInt b = refl
emit_body atomic.Real b = refl
emit_body atomic.LReal b = refl
emit_body atomic.Byte b = refl
emit_body atomic.Word b = refl
emit_body atomic.DWord b = refl
emit_body atomic.LWord b = refl

-- an atomic has 1 to 8 bytes
pub size_range : (a : Atomic) → (1 ≤ size_of a) × (size_of a ≤ 8)
unfolding size_of
size_range atomic.Bool = (lit≤ tt, lit≤ tt)
size_range atomic.SInt = (lit≤ tt, lit≤ tt)
size_range atomic.Int = (lit≤ tt, lit≤ tt)
size_range atomic.DInt = (lit≤ tt, lit≤ tt)
size_range atomic.LInt = (lit≤ tt, lit≤ tt)
size_range atomic.USInt = (lit≤ tt, lit≤ tt)
size_range atomic.UInt = (lit≤ tt, lit≤ tt)
size_range atomic.UDInt = (lit≤ tt, lit≤ tt)
size_range atomic.ULInt = (lit≤ tt, lit≤ tt)
size_range atomic.Real = (lit≤ tt, lit≤ tt)
size_range atomic.LReal = (lit≤ tt, lit≤ tt)
size_range atomic.Byte = (lit≤ tt, lit≤ tt)
size_range atomic.Word = (lit≤ tt, lit≤ tt)
size_range atomic.DWord = (lit≤ tt, lit≤ tt)
size_range atomic.LWord = (lit≤ tt, lit≤ tt)

number_bodies : (a : Atomic) (image : List ℕ) → bodies (number_out a image) ≡ []
unfolding bodies
number_bodies a image = rw (emit_body a (flat image))

bits_plain : (n : ℕ) → TextFree (λ image. bits_out image n) (2 + n)
unfolding bits_out
bits_plain n =
    record {
      exact = λ image.
          omega (arith, wrap_length 10 11 (up_to (bit_token image) n), up_length (bit_token image) 1 (λ k. refl) n);
      plain = λ image.
          wrap_bodies 10 11 (up_to (bit_token image) n)
          ∙ up_bodies (bit_token image) (λ k. unfold bodies in refl) n;
    }

numbers_plain : (a : Atomic) (n : ℕ) → TextFree (numbers_out a n) (2 + n)
unfolding numbers_out
numbers_plain a n =
    record {
      exact = λ image.
          omega (
            arith,
            wrap_length 10 11 (up_to (element_out a image) n),
            up_length (element_out a image) 1 (λ k. refl) n,
          );
      plain = λ image.
          wrap_bodies 10 11 (up_to (element_out a image) n)
          ∙ up_bodies (element_out a image) (λ k. number_bodies a (part image (size_of a * k) (size_of a))) n;
    }

module _ (a : Atomic) (n : ℕ) where
  -- bit strings: an entry for each bit and two brackets, none of them a text
  pub atomics_bits : bit_string a ≡ true → TextFree (atomics_out a n) (2 + 8 * (size_of a * times n))
  atomics_bits e = plain_same (bits_plain (8 * (size_of a * times n))) (λ image. unfold atomics_out in rw e)

  -- one atomic that is no bit string: one entry, and no text
  pub atomics_one : bit_string a ≡ false → n ≡ 0 → TextFree (atomics_out a n) 1
  atomics_one e z =
      plain_same {f = number_out a} (record { exact = λ image. refl; plain = number_bodies a })
      (λ image. unfold atomics_out in rw (e, eq-eqb n 0 z))

  -- an array of n atomics that are no bit strings: n entries and two brackets, none of them a text
  pub atomics_many : bit_string a ≡ false → (n ≡ 0 → ⊥) → TextFree (atomics_out a n) (2 + n)
  atomics_many e z = plain_same (numbers_plain a n) (λ image. unfold atomics_out in rw (e, ne_eqb n 0 z))

  times_near : (n ≤ times n) × (times n ≤ n + 1)
  unfolding times
  times_near = go (eqb n 0) refl
    where
      go : (b : Bool) → eqb n 0 ≡ b → (n ≤ cond b 1 n) × (cond b 1 n ≤ n + 1)
      go true e = (omega (arith, eqb-true n 0 e), omega arith)
      go false e = (omega arith, omega arith)

  -- their bytes
  bytes_least : n ≤ size_of a * times n
  bytes_least = omega (arith, times_near.0, mul-le-mul_right {m = 1} {n = size_of a} (times n) (size_range a).0)

  bytes_most : size_of a * times n ≤ 8 * times n
  bytes_most = mul-le-mul_right {m = size_of a} {n = 8} (times n) (size_range a).1

  -- the product of size and count fits
  pub bytes_fit : {s t : ℕ} → s ≡ size_of a → t ≡ times n → n ≤ 2 ^ 32 → s * t ≤ 2 ^ 36
  bytes_fit p q h = rw (p, q) (omega (arith, bytes_most, times_near.1))

  record RunSized : Type 0 where
    pub entries : ℕ
    pub is : TextFree (atomics_out a n) entries
    pub enough : n ≤ entries
    pub few : entries ≤ 2 + 64 * times n

  sized : RunSized
  sized = go (bit_string a) refl (eqb n 0) refl
    where
      go : (b : Bool) → bit_string a ≡ b → (z : Bool) → eqb n 0 ≡ z → RunSized
      go true e z f = record {
        entries = 2 + 8 * (size_of a * times n);
        is = atomics_bits e;
        enough = omega (arith, bytes_least);
        few = omega (arith, bytes_most);
      }
      go false e true f = record {
        entries = 1;
        is = atomics_one e (eqb-true n 0 f);
        enough = omega (arith, eqb-true n 0 f);
        few = omega arith;
      }
      go false e false f = record {
        entries = 2 + n;
        is = atomics_many e (eqb-false n 0 f);
        enough = omega arith;
        few = omega (arith, times_near.0);
      }

  -- there are few enough entries to add one
  pub atomics_few : {r : ℕ} → TextFree (atomics_out a n) r → n ≤ 2 ^ 32 → r ≤ 2 ^ 39
  atomics_few w h = omega (arith, w.exact [], sized.is.exact [], sized.few, times_near.1)

  -- more elements than `most` are more entries
  pub atomics_over : {most : ℕ} {b : Bool} → most < n → Counted most 0 (atomics_out a n) b b (most + 1)
  atomics_over h =
      record {
        exact = λ l. absurd (let z : ⊥ = omega arith in z);
        over = λ l image. omega (arith, sized.is.exact image, sized.enough);
        quiet = λ l. absurd (let z : ⊥ = omega arith in z);
        still = λ e. e;
      }

-- ---- members that are no structures

module _ (m : Member) (j : ℕ) where
  -- a hidden member has no entries
  pub leaf_hidden : m.hidden ≡ true → TextFree (leaf_out j m) 0
  unfolding leaf_out bodies
  leaf_hidden e = record { exact = λ image. rw e; plain = λ image. rw e }

  module _ (shown : m.hidden ≡ false) where
    -- a BOOL of a structure has two entries: its number and its bit
    pub leaf_bit : {k : ℕ} → m.bit ≡ Some k → TextFree (leaf_out j m) 2
    unfolding leaf_out bodies
    leaf_bit b = record { exact = λ image. rw (shown, b); plain = λ image. rw (shown, b) }

    -- a visible member of atomics has one entry more than they have: its number
    pub leaf_atomic : {a : Atomic} {n r : ℕ} → m.bit ≡ None → m.ty ≡ ty.Atomic a → n ≡ m.count
        → TextFree (atomics_out a n) r → TextFree (leaf_out j m) (1 + r)
    unfolding leaf_out bodies
    leaf_atomic {a} {n} b t q w =
        record {
          exact = λ image.
              rw (shown, b, t, ← q) (omega (arith, w.exact (part image m.offset (size_of a * times n))));
          plain = λ image. rw (shown, b, t, ← q) (w.plain (part image m.offset (size_of a * times n)));
        }

    -- a visible structure has one entry here: its number
    pub leaf_struct : {s : ℕ} → m.bit ≡ None → m.ty ≡ ty.Struct s → TextFree (leaf_out j m) 1
    unfolding leaf_out bodies
    leaf_struct b t = record { exact = λ image. rw (shown, b, t); plain = λ image. rw (shown, b, t) }
