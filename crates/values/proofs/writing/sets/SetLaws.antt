-- Atomics, flags and texts set in an image (document 01, "Writing"): the bytes that are stored are the bits that an
-- accepted entry puts.
use Prim.Native.Nat.{ℕ, suc, ◌+◌, ◌-◌, ◌*◌, ◌/◌, ◌%◌, ◌^◌, ◌<◌, ◌≤◌}
use native.Mathlib.Decide.{dec_le, ℕ_discrete}
use native.Mathlib.Nat.{add-zero}
use native.Mathlib.Omega.{arith}
use mathlib.Core.Path.{◌≡◌, refl, sym, ap, ap₂, ◌∙◌}
use mathlib.Core.Bool.{true}
use mathlib.Core.List.{List, ◌++◌}
use mathlib.Core.Logic.{inl, inr}
use lib.Dec.{eqb}
use lib.ListN.{length, set, take, drop, replicate, length-set, length-append, length-replicate}
use lib.Seq.{sets, length-sets}
use borrow.Author.Tests.{eq-eqb, ne_eqb, le-leb, lt-leb}
use Rattle.words.specs.Bits.{Bits, bit_of, flat, stamp}
use Rattle.words.specs.Words.{bytes_of, part}
use Rattle.words.proofs.Lists.{sets_append}
use Rattle.words.proofs.StampLaws.{flat_sets, flat_word, stamp_ext}
use Rattle.words.proofs.WordLaws.{length_bytes}
use Rattle.words.proofs.BitLaws.{truth_bit, flat_zeros}
use Rattle.types.specs.atomics.Atomic.{size_of}
use Rattle.types.specs.declared.atomics.atomic.Atomic.{Atomic}
use Rattle.types.specs.declared.atomics.atomic.Atomic.TheVariants as atomic
use Rattle.values.specs.inside.writing.Effects.{atomic_takes}
use Rattle.values.specs.inside.writing.Passes.{Applied, accepted, first_kind, left_at}
use Rattle.values.specs.inside.writing.Rows.{Width}
use Rattle.values.specs.reading.Leaf.{flag}
use Rattle.values.specs.stream.Form.{base_in}
use Rattle.values.specs.stream.Stream.{Token, kind_of, payload_of, body_of}
use Rattle.values.specs.writing.Effects.{Effect, put, refuse, payload_bits, of_kind, text_bits, as_text, taken}
use Rattle.values.specs.writing.Effects.{or_null}
use Rattle.values.specs.writing.Writing.{on_effect, write_one}
use Rattle.values.proofs.stream.LeftLaws.{EntryThere, TextThere, kind_there, payload_of_entry}
use Rattle.values.proofs.writing.ApplyLaws.{accepted_as, applied_keeps, applied_one, not_accepted}
use Rattle.values.proofs.writing.FitLaws.{above_refused, atomic_sets, not_null, null_keeps}
use Rattle.values.proofs.writing.OutcomeLaws.{one_is}

-- ---- the low bytes of a number

-- the width of an atomic that is not 4, 2 or 1 is 8
pub eight_left : (size : ℕ) → Width size → (size ≡ 4 → ⊥) → (size ≡ 2 → ⊥) → (size ≡ 1 → ⊥) → size ≡ 8
eight_left size (inl e) a b c = absurd (c e)
eight_left size (inr (inl e)) a b c = absurd (b e)
eight_left size (inr (inr (inl e))) a b c = absurd (a e)
eight_left size (inr (inr (inr e))) a b c = e

-- the size of every atomic is 1, 2, 4 or 8
pub width_of : (a : Atomic) → Width (size_of a)
unfolding size_of
width_of atomic.Bool = inl refl
width_of atomic.SInt = inl refl
width_of atomic.Int = inr (inl refl)
width_of atomic.DInt = inr (inr (inl refl))
width_of atomic.LInt = inr (inr (inr refl))
width_of atomic.USInt = inl refl
width_of atomic.UInt = inr (inl refl)
width_of atomic.UDInt = inr (inr (inl refl))
width_of atomic.ULInt = inr (inr (inr refl))
width_of atomic.Real = inr (inr (inl refl))
width_of atomic.LReal = inr (inr (inr refl))
width_of atomic.Byte = inl refl
width_of atomic.Word = inr (inl refl)
width_of atomic.DWord = inr (inr (inl refl))
width_of atomic.LWord = inr (inr (inr refl))

-- ---- zeros: storing all is storing what is left in what stands now

-- the first i of n zeros are stored, and the others are left
pub record Clearing (first : List ℕ) (at n : ℕ) (out : List ℕ) (i : ℕ) : Type 0 where
  pub inside : i ≤ n
  pub long : length out ≡ length first
  pub left : sets first at (replicate n 0) ≡ sets out (at + i) (replicate (n - i) 0)

-- before the first byte all zeros are left to be stored
pub clear_start : (out : List ℕ) (at n : ℕ) → Clearing out at n out 0
clear_start out at n =
    let e : n - 0 ≡ n = omega arith in
    record { inside = omega arith; long = refl; left = rw (add-zero, e) refl }

-- with one more zero stored, one byte more is zero
pub clear_on : {first out : List ℕ} {at n i : ℕ} → Clearing first at n out i → i < n
    → Clearing first at n (set out (at + i) 0) (i + 1)
clear_on {first} {out} {at} {n} {i} w h =
    let e : at + (i + 1) ≡ suc (at + i) = omega arith in
    let f : n - i ≡ suc (n - (i + 1)) = omega arith in
    record {
      inside = omega arith;
      long = length-set out (at + i) 0 ∙ w.long;
      left = w.left ∙ ap (λ (m : ℕ). sets out (at + i) (replicate m 0)) f
          ∙ ap (λ (p : ℕ). sets (set out (at + i) 0) p (replicate (n - (i + 1)) 0)) (sym e);
    }

-- after the last byte all zeros are stored
pub clear_done : {first out : List ℕ} {at n i : ℕ} → Clearing first at n out i → n ≤ i
    → out ≡ sets first at (replicate n 0)
clear_done {first} {out} {at} {n} {i} w h =
    let e : n - i ≡ 0 = omega arith in
    sym (w.left ∙ ap (λ (m : ℕ). sets out (at + i) (replicate m 0)) e)

-- ---- what an entry of another kind does

of_not : (kind : ℕ) (t : Token) → (kind_of t ≡ kind → ⊥) → of_kind kind t ≡ refuse 18
unfolding of_kind
of_not kind t n = rw (ne_eqb (kind_of t) kind n) refl

of_is : (kind : ℕ) (t : Token) → kind_of t ≡ kind → of_kind kind t ≡ put (payload_bits t)
unfolding of_kind
of_is kind t e = rw (eq-eqb (kind_of t) kind e) refl

-- ---- one entry, or null

module _ {s : List ℕ} {k : ℕ} (t : EntryThere s k) (takes : Token → Effect) (w p : ℕ) where
  one_does : (z : Bits) {e : Effect} → or_null takes t.token ≡ e
      → write_one (or_null takes) w p (left_at s k) z ≡ on_effect e w p t.token (left_at s (k + 1)) z
  one_does z q =
      one_is (or_null takes) w p t.token (left_at s (k + 1)) z t.left
      ∙ ap (λ (e : Effect). on_effect e w p t.token (left_at s (k + 1)) z) q

  -- null keeps what stands
  pub one_kept : {image : List ℕ} → first_kind (left_at s k) ≡ 0
      → Applied s k (k + 1) image image (write_one (or_null takes) w p (left_at s k))
  one_kept {image} e =
      applied_keeps t.inside (one_does (flat image) (null_keeps takes t.token (sym (kind_there t) ∙ e)))

  -- an entry that puts some bits
  one_set : {image new : List ℕ} (b : Bits) → or_null takes t.token ≡ put b → length new ≡ length image
      → flat new ≡ stamp p w b (flat image)
      → Applied s k (k + 1) image new (write_one (or_null takes) w p (left_at s k))
  one_set {image} b e long v = applied_one t.inside long (one_does (flat image) e) v

  not_null_token : (first_kind (left_at s k) ≡ 0 → ⊥) → kind_of t.token ≡ 0 → ⊥
  not_null_token n q = n (kind_there t ∙ q)

  -- where it is accepted, and no null, it is not refused
  not_refused : (z : Bits) {number : ℕ} → (first_kind (left_at s k) ≡ 0 → ⊥)
      → accepted (write_one (or_null takes) w p (left_at s k) z) ≡ true → takes t.token ≡ refuse number → ⊥
  not_refused z n h e =
      not_accepted (one_does z (not_null takes t.token (not_null_token n) ∙ e)) h

-- where an accepted number is stored in the bytes of an atomic, that write is applied
pub atomic_set : {s : List ℕ} {k : ℕ} (t : EntryThere s k) (a : Atomic) (base : ℕ) {image new : List ℕ}
    → (first_kind (left_at s k) ≡ 0 → ⊥) → base + size_of a ≤ length image
    → accepted (write_one (or_null (atomic_takes a)) (8 * size_of a) (8 * base) (left_at s k) (flat image)) ≡ true
    → new ≡ sets image base (bytes_of (size_of a) (payload_of_entry s k))
    → Applied s k (k + 1) image new (write_one (or_null (atomic_takes a)) (8 * size_of a) (8 * base) (left_at s k))
atomic_set {s} {k} t a base {image} {new} n room h e =
    let takes : Token → Effect = atomic_takes a in
    let w : ℕ = 8 * size_of a in
    let p : ℕ = 8 * base in
    let six_not : kind_of t.token ≡ 6 → ⊥ =
    λ q. not_refused t takes w p (flat image) n h (above_refused a t.token (omega (arith, q))) in
    let puts : or_null takes t.token ≡ put (payload_bits t.token) =
    atomic_sets a w p t.token (left_at s (k + 1)) (flat image) (not_null_token t takes w p n)
    (accepted_as (one_is (or_null takes) w p t.token (left_at s (k + 1)) (flat image) t.left) h) in
    one_set t takes w p (payload_bits t.token) puts
    (ap length e ∙ length-sets image base (bytes_of (size_of a) (payload_of_entry s k)))
    (ap flat e ∙ flat_word image base (size_of a) (payload_of_entry s k) room
    ∙ ap (λ (x : ℕ). stamp p w (bit_of x) (flat image)) (sym (t.payload six_not)))

-- the truth of an accepted entry that is no null, put in one bit, is what writing the BOOL sets
pub flag_set : {s : List ℕ} {k : ℕ} (t : EntryThere s k) (p x : ℕ) {image new : List ℕ}
    → (first_kind (left_at s k) ≡ 0 → ⊥)
    → accepted (write_one (or_null (taken flag)) 1 p (left_at s k) (flat image)) ≡ true → x ≡ payload_of_entry s k
    → length new ≡ length image → flat new ≡ stamp p 1 (λ j. eqb x 1) (flat image)
    → Applied s k (k + 1) image new (write_one (or_null (taken flag)) 1 p (left_at s k))
flag_set {s} {k} t p x {image} {new} n h d long e = go (ℕ_discrete (kind_of t.token) 1)
  where
    go : Dec (kind_of t.token ≡ 1) → Applied s k (k + 1) image new (write_one (or_null (taken flag)) 1 p (left_at s k))
    go (no q) = absurd (not_refused t (taken flag) 1 p (flat image) n h (of_not 1 t.token q))
    go (yes q) =
        let same : x ≡ payload_of 0 t.token = d ∙ sym (t.payload (λ r. omega arith)) in
        let small : x < 2 = omega (arith, t.truth q) in
        one_set t (taken flag) 1 p (payload_bits t.token)
        (not_null (taken flag) t.token (not_null_token t (taken flag) 1 p n) ∙ of_is 1 t.token q) long
        (e ∙ stamp_ext p 1 (λ j. eqb x 1) (bit_of x) (flat image) (λ j l. truth_bit x j small l)
        ∙ ap (λ (y : ℕ). stamp p 1 (bit_of y) (flat image)) same)

-- ---- texts

module _ (capacity : ℕ) (t : Token) where
  text_other : (kind_of t ≡ 6 → ⊥) → as_text capacity t ≡ refuse 18
  unfolding as_text
  text_other n = rw (ne_eqb (kind_of t) 6 n) refl

  text_over : kind_of t ≡ 6 → capacity < length (body_of t) → as_text capacity t ≡ refuse 21
  unfolding as_text
  text_over e l = rw (eq-eqb (kind_of t) 6 e, lt-leb (length (body_of t)) capacity l) refl

  text_puts : kind_of t ≡ 6 → length (body_of t) ≤ capacity → as_text capacity t ≡ put (text_bits (body_of t))
  unfolding as_text
  text_puts e l = rw (eq-eqb (kind_of t) 6 e, le-leb (length (body_of t)) capacity l) refl

-- an accepted text that is no null: where it lies, and that it has room
pub record TextFits (s : List ℕ) (k capacity : ℕ) (t : Token) : Type 0 where
  pub takes : or_null (as_text capacity) t ≡ put (text_bits (body_of t))
  pub there : TextThere s k t
  pub short : payload_of_entry s k / 2 ^ 32 ≤ capacity

-- an accepted entry that is no null is a text that lies in the stream and is not too long
pub text_fits : {s : List ℕ} {k : ℕ} (t : EntryThere s k) (capacity p : ℕ) (z : Bits)
    → (first_kind (left_at s k) ≡ 0 → ⊥)
    → accepted (write_one (or_null (as_text capacity)) (32 + 8 * capacity) p (left_at s k) z) ≡ true
    → TextFits s k capacity t.token
text_fits {s} {k} t capacity p z n h =
    go (ℕ_discrete (kind_of t.token) 6) (dec_le (length (body_of t.token)) capacity)
  where
    refused : {number : ℕ} → as_text capacity t.token ≡ refuse number → ⊥
    refused e = not_refused t (as_text capacity) (32 + 8 * capacity) p z n h e

    go : Dec (kind_of t.token ≡ 6) → Dec (length (body_of t.token) ≤ capacity) → TextFits s k capacity t.token
    go (no q) d = absurd (refused (text_other capacity t.token q))
    go (yes q) (no l) = absurd (refused (text_over capacity t.token q (omega (arith, l))))
    go (yes q) (yes l) =
        record {
          takes = not_null (as_text capacity) t.token
              (not_null_token t (as_text capacity) (32 + 8 * capacity) p n) ∙ text_puts capacity t.token q l;
          there = t.text q;
          short = omega (arith, (t.text q).long);
        }

-- the part that the code takes
pub body_part : {s : List ℕ} {k : ℕ} {t : Token} (start long : ℕ) → TextThere s k t
    → start ≡ base_in s + payload_of_entry s k % 2 ^ 32 → long ≡ payload_of_entry s k / 2 ^ 32
    → take (start + long - start) (drop start s) ≡ body_of t
unfolding part
body_part {s} {k} {t} start long w d e =
    let f : start + long - start ≡ payload_of_entry s k / 2 ^ 32 = omega arith in
    ap₂ (λ (n b : ℕ). take n (drop b s)) f d ∙ sym w.body

-- LEN, the text, and zeros
text_bits_lem : (image : List ℕ) (base capacity : ℕ) (text : List ℕ) {one two new : List ℕ} → length text ≤ capacity
    → base + 4 + capacity ≤ length image → one ≡ sets image base (bytes_of 4 (length text))
    → two ≡ sets one (base + 4) text
    → new ≡ sets two (base + 4 + length text) (replicate (capacity - length text) 0)
    → (length new ≡ length image)
    × (flat new ≡ stamp (8 * base) (32 + 8 * capacity) (text_bits text) (flat image))
text_bits_lem image base capacity text {one} {two} {new} l room a b c =
    let head : List ℕ = bytes_of 4 (length text) in
    let zeros : List ℕ = replicate (capacity - length text) 0 in
    let four : length head ≡ 4 = length_bytes 4 (length text) in
    let joined : length (head ++ text) ≡ 4 + length text = omega (arith, length-append head text) in
    let long : length ((head ++ text) ++ zeros) ≡ 4 + capacity =
    omega (arith, length-append (head ++ text) zeros, length-replicate {A = ℕ} (capacity - length text) 0) in
    let first : two ≡ sets image base (head ++ text) =
    b ∙ ap₂ (λ (v : List ℕ) (q : ℕ). sets v (base + q) text) a (sym four) ∙ sym (sets_append image base head text) in
    let q : base + 4 + length text ≡ base + length (head ++ text) = omega arith in
    let e : new ≡ sets image base ((head ++ text) ++ zeros) =
    c ∙ ap₂ (λ (v : List ℕ) (i : ℕ). sets v i zeros) first q ∙ sym (sets_append image base (head ++ text) zeros) in
    let wide : 8 * length ((head ++ text) ++ zeros) ≡ 32 + 8 * capacity = omega arith in (
      ap length e ∙ length-sets image base ((head ++ text) ++ zeros),
      ap flat e ∙ flat_sets image base ((head ++ text) ++ zeros) (omega arith)
          ∙ ap₂ (λ (n : ℕ) (v : Bits). stamp (8 * base) n v (flat image)) wide
          (flat_zeros (head ++ text) (capacity - length text)),
    )

-- the three stores of the code, where m and n are the length, and c the capacity
pub text_set : {s : List ℕ} {k : ℕ} (t : EntryThere s k) (capacity base : ℕ) {start n m c : ℕ}
    {image one two new : List ℕ}
    → TextFits s k capacity t.token → start ≡ base_in s + payload_of_entry s k % 2 ^ 32
    → n ≡ payload_of_entry s k / 2 ^ 32
    → m ≡ payload_of_entry s k / 2 ^ 32 → c ≡ capacity → base + 4 + capacity ≤ length image
    → one ≡ sets image base (bytes_of 4 m) → two ≡ sets one (base + 4) (take (start + n - start) (drop start s))
    → new ≡ sets two (base + 4 + n) (replicate (c - n) 0)
    → Applied s k (k + 1) image new (write_one (or_null (as_text capacity)) (32 + 8 * capacity) (8 * base)
    (left_at s k))
text_set {s} {k} t capacity base {start} {n} {m} {c} {image} {one} {two} {new} w d e f g room x y z =
    let text : List ℕ = body_of t.token in
    let long : payload_of_entry s k / 2 ^ 32 ≡ length text = sym w.there.long in
    let r = text_bits_lem image base capacity text (omega (arith, w.short)) room
    (x ∙ ap (λ (v : ℕ). sets image base (bytes_of 4 v)) (f ∙ long))
    (y ∙ ap (sets one (base + 4)) (body_part start n w.there d e))
    (z ∙ ap₂ (λ (v u : ℕ). sets two (base + 4 + v) (replicate (u - v) 0)) (e ∙ long) g) in
    one_set t (as_text capacity) (32 + 8 * capacity) (8 * base) (text_bits text) w.takes r.0 r.1
