-- Which entries an atomic takes (document 01, "Writing"): the code's limits say what `Effects` says, by one law over
-- the width; and what is taken sets the payload's bits. The same for a text.
use Rattle.std.specs.Prelude.{Option, None, Some, Err}
use Prim.Native.Nat.{ℕ, ◌+◌, ◌-◌, ◌*◌, ◌^◌, ◌<◌, ◌≤◌}
use native.Mathlib.Decide.{dec_lt, ℕ_discrete}
use native.Mathlib.Omega.{arith}
use mathlib.Core.Path.{◌≡◌, refl, sym, ap, ◌∙◌}
use mathlib.Core.Bool.{Bool, true, false, cond, true≢false}
use mathlib.Core.List.{List}
use lib.Dec.{eqb, leb, ltb}
use lib.ListN.{length}
use lib.Pow.{pow_pos, pow_mono}
use borrow.Author.Tests.{eq-eqb, ne_eqb, le-leb, lt-leb}
use Rattle.words.specs.Bits.{Bits, bit_of}
use Rattle.words.specs.Words.{Bytes}
use Rattle.words.proofs.WordLaws.{word_below}
use Rattle.words.proofs.ArithLaws.{low_test, below_most}
use Rattle.types.specs.atomics.Atomic.{bit_string, size_of}
use Rattle.types.specs.declared.atomics.atomic.Atomic.{Atomic}
use Rattle.types.specs.declared.atomics.atomic.Atomic.TheVariants as atomic
use Rattle.types.specs.declared.refusals.refusal.Refusal.TheVariants.{EntryMisfit}
use Rattle.values.specs.declared.writing.limits.Misfit.{Misfit}
use Rattle.values.specs.declared.writing.limits.Misfit.TheVariants.{Kind, Range}
use Rattle.values.specs.inside.writing.Effects.{Judged, kept, set, refused, atomic_takes, number_in}
use Rattle.values.specs.inside.writing.Limits.{above_misfit, signed_misfit, whole_misfit, limits_of, misfit, one_kind}
use Rattle.values.specs.inside.writing.Limits.{wholes}
use Rattle.values.specs.inside.writing.Passes.{CheckedFrom, accepted, first_kind, left_at}
use Rattle.values.specs.reading.Leaf.{flag}
use Rattle.values.specs.stream.Form.{count_in, stream_ok}
use Rattle.values.specs.stream.Stream.{Token, kind_of, payload_of, body_of}
use Rattle.values.specs.writing.Effects.{Effect, keep, put, refuse, payload_bits, text_bits, is_whole, of_kind}
use Rattle.values.specs.writing.Effects.{in_range, whole, taken, or_null, as_text}
use Rattle.values.specs.writing.Writing.{on_effect, write_one}
use Rattle.values.specs.declared.writing.limits.Limits.{Limits}
use Rattle.values.proofs.stream.LeftLaws.{EntryThere, kind_there, payload_of_entry, there}
use Rattle.values.proofs.writing.StepLaws.{one_missing, one_refused}

-- ---- null

-- null keeps what stands
pub null_keeps : (takes : Token → Effect) (t : Token) → kind_of t ≡ 0 → or_null takes t ≡ keep
unfolding or_null
null_keeps takes t e = rw (eq-eqb (kind_of t) 0 e) refl

-- an entry that is no null does the same where null is taken as where it is not
pub not_null : (takes : Token → Effect) (t : Token) → (kind_of t ≡ 0 → ⊥) → or_null takes t ≡ takes t
unfolding or_null
not_null takes t e = rw (ne_eqb (kind_of t) 0 e) refl

-- ---- one kind

-- what is set, or a refusal
judged_by : (b : Bits) (why : Misfit) (fits : Bool)
    → Judged (cond fits (put b) (refuse (number_in why))) (cond fits None (Some why))
judged_by b why true = set refl b refl
judged_by b why false = refused why refl refl

kind_judged : (kind : ℕ) (t : Token) (x : ℕ) → (kind ≡ 2 → ⊥) → (kind_of t ≡ 0 → ⊥)
    → Judged (of_kind kind t) (misfit (one_kind kind) (kind_of t) x)
unfolding of_kind misfit
kind_judged kind t x a n =
    rw (ne_eqb (kind_of t) 0 n, ne_eqb kind 2 a) (judged_by (payload_bits t) Kind (eqb (kind_of t) kind))

-- ---- whole numbers in a range

-- the numbers below zero, and the others
two_tests : (b : Bits) (below low high : Bool) → Judged (cond (cond below low high) (put b) (refuse 19))
    (cond below (cond low None (Some Range)) (cond high None (Some Range)))
two_tests b true low high = judged_by b Range low
two_tests b false low high = judged_by b Range high

module _ (low high under most : ℕ) (t : Token) (x : ℕ) (l : x < 2 ^ 64) (e : under + low + 1 ≡ 2 ^ 64)
    (f : most + 1 ≡ high) (p : (kind_of t ≡ 6 → ⊥) → payload_of 0 t ≡ x) where
  signed_judged : kind_of t ≡ 2 → Judged (whole low high t) (whole_misfit (wholes under most) (kind_of t) x)
  unfolding whole in_range whole_misfit signed_misfit above_misfit
  signed_judged k =
      let same = p (λ h. let z : ⊥ = omega arith in z) in
      rw (eq-eqb (kind_of t) 2 k, same, low_test low under x l e, below_most high most x f)
      (two_tests (bit_of x) (leb (2 ^ 63) x) (ltb under x) (leb x most))

  unsigned_judged : (kind_of t ≡ 2 → ⊥) → kind_of t ≡ 3
      → Judged (whole low high t) (whole_misfit (wholes under most) (kind_of t) x)
  unfolding whole in_range whole_misfit signed_misfit above_misfit
  unsigned_judged n k =
      let same = p (λ h. let z : ⊥ = omega arith in z) in
      rw (ne_eqb (kind_of t) 2 n, eq-eqb (kind_of t) 3 k, same, below_most high most x f)
      (judged_by (bit_of x) Range (leb x most))

  other_judged : (kind_of t ≡ 2 → ⊥) → (kind_of t ≡ 3 → ⊥)
      → Judged (whole low high t) (whole_misfit (wholes under most) (kind_of t) x)
  unfolding whole in_range whole_misfit signed_misfit above_misfit
  other_judged n k = rw (ne_eqb (kind_of t) 2 n, ne_eqb (kind_of t) 3 k) (refused Kind refl refl)

  whole_judged : (kind_of t ≡ 0 → ⊥) → Judged (whole low high t) (misfit (wholes under most) (kind_of t) x)
  unfolding misfit
  whole_judged z = rw (ne_eqb (kind_of t) 0 z) (go (ℕ_discrete (kind_of t) 2) (ℕ_discrete (kind_of t) 3))
    where
      go : Dec (kind_of t ≡ 2) → Dec (kind_of t ≡ 3)
          → Judged (whole low high t) (whole_misfit (wholes under most) (kind_of t) x)
      go (yes k) d = signed_judged k
      go (no n) (yes k) = unsigned_judged n k
      go (no n) (no k) = other_judged n k

-- ---- the atomics

-- an atomic takes one kind, or the whole numbers of a range
data TakesBy (takes : Token → Effect) (f : Limits) : Type 0 where
  one : (kind : ℕ) → (kind ≡ 2 → ⊥) → kind < 6 → ((t : Token) → takes t ≡ of_kind kind t) → f ≡ one_kind kind
      → TakesBy takes f
  range : (low high under most : ℕ) → under + low + 1 ≡ 2 ^ 64 → most + 1 ≡ high
      → ((t : Token) → takes t ≡ whole low high t) → f ≡ wholes under most → TakesBy takes f

-- THE LAWS over the width: signed, unsigned, a bit string
signed_shape : (n : ℕ) → n ≤ 64
    → TakesBy (whole (2 ^ (n - 1)) (2 ^ (n - 1))) (wholes (2 ^ 64 - 2 ^ (n - 1) - 1) (2 ^ (n - 1) - 1))
signed_shape n l =
    let pos = pow_pos (n - 1) in
    let low = pow_mono {i = n - 1} {j = 63} (omega arith) in
    range (2 ^ (n - 1)) (2 ^ (n - 1)) (2 ^ 64 - 2 ^ (n - 1) - 1) (2 ^ (n - 1) - 1) (omega arith) (omega arith)
    (λ t. refl) refl

unsigned_shape : (n : ℕ) → TakesBy (whole 0 (2 ^ n)) (wholes (2 ^ 64 - 1) (2 ^ n - 1))
unsigned_shape n =
    let pos = pow_pos n in
    range 0 (2 ^ n) (2 ^ 64 - 1) (2 ^ n - 1) (omega arith) (omega arith) (λ t. refl) refl

bits_shape : (n : ℕ) → n ≤ 64
    → TakesBy (whole (2 ^ (n - 1)) (2 ^ n)) (wholes (2 ^ 64 - 2 ^ (n - 1) - 1) (2 ^ n - 1))
bits_shape n l =
    let pos = pow_pos (n - 1) in
    let most = pow_pos n in
    let low = pow_mono {i = n - 1} {j = 63} (omega arith) in
    range (2 ^ (n - 1)) (2 ^ n) (2 ^ 64 - 2 ^ (n - 1) - 1) (2 ^ n - 1) (omega arith) (omega arith) (λ t. refl) refl

one_shape : (kind : ℕ) → (kind ≡ 2 → ⊥) → kind < 6 → TakesBy (of_kind kind) (one_kind kind)
one_shape kind n l = one kind n l (λ t. refl) refl

shape : (a : Atomic) → TakesBy (atomic_takes a) (limits_of a)
unfolding atomic_takes bit_string size_of
shape atomic.Bool = one_shape 1 (λ h. omega arith) (omega arith)
shape atomic.SInt = signed_shape 8 (omega arith)
shape atomic.Int = signed_shape 16 (omega arith)
shape atomic.DInt = signed_shape 32 (omega arith)
shape atomic.LInt = signed_shape 64 (omega arith)
shape atomic.USInt = unsigned_shape 8
shape atomic.UInt = unsigned_shape 16
shape atomic.UDInt = unsigned_shape 32
shape atomic.ULInt = unsigned_shape 64
shape atomic.Real = one_shape 4 (λ h. omega arith) (omega arith)
shape atomic.LReal = one_shape 5 (λ h. omega arith) (omega arith)
shape atomic.Byte = bits_shape 8 (omega arith)
shape atomic.Word = bits_shape 16 (omega arith)
shape atomic.DWord = bits_shape 32 (omega arith)
shape atomic.LWord = bits_shape 64 (omega arith)

-- ---- no atomic takes a text, a member, or a bracket

-- for a text, a member number or a bracket the limits of every atomic say that it does not fit
pub above_misfits : (a : Atomic) (kind x : ℕ) → 6 ≤ kind → misfit (limits_of a) kind x ≡ Some Kind
unfolding misfit whole_misfit
above_misfits a kind x l = go (shape a)
  where
    not : (j : ℕ) → j < 6 → eqb kind j ≡ false
    not j h = ne_eqb kind j (λ q. let z : ⊥ = omega (arith, l, h, q) in z)

    go : {takes : Token → Effect} {f : Limits} → TakesBy takes f → misfit f kind x ≡ Some Kind
    go (one k n h e g) = rw (g, not 0 (omega arith), ne_eqb k 2 n, not k h) refl
    go (range low high under most a b e g) = rw (g, not 0 (omega arith), not 2 (omega arith), not 3 (omega arith)) refl

-- every atomic refuses a text, a member number or a bracket with 18
pub above_refused : (a : Atomic) (t : Token) → 6 ≤ kind_of t → atomic_takes a t ≡ refuse 18
unfolding of_kind whole
above_refused a t l = go (shape a)
  where
    not : (j : ℕ) → j < 6 → eqb (kind_of t) j ≡ false
    not j h = ne_eqb (kind_of t) j (λ q. let z : ⊥ = omega (arith, l, h, q) in z)

    go : {takes : Token → Effect} {f : Limits} → TakesBy takes f → takes t ≡ refuse 18
    go (one k n h e g) = e t ∙ rw (not k h) refl
    go (range low high under most a b e g) = e t ∙ rw (not 2 (omega arith), not 3 (omega arith)) refl

-- ---- what is taken

shape_judged : {takes : Token → Effect} {f : Limits} → TakesBy takes f → (t : Token) (x : ℕ) → x < 2 ^ 64
    → ((kind_of t ≡ 6 → ⊥) → payload_of 0 t ≡ x) → (kind_of t ≡ 0 → ⊥) → Judged (takes t) (misfit f (kind_of t) x)
shape_judged (one kind n k e g) t x l p z = rw (e t, g) (kind_judged kind t x n z)
shape_judged (range low high under most a b e g) t x l p z =
    rw (e t, g) (whole_judged low high under most t x l a b p z)

misfit_null : (f : Limits) (kind x : ℕ) → kind ≡ 0 → misfit f kind x ≡ None
unfolding misfit
misfit_null f kind x e = rw (eq-eqb kind 0 e) refl

-- the limits tell which entries are taken
pub atomic_judged : (a : Atomic) (t : Token) (x : ℕ) → x < 2 ^ 64 → ((kind_of t ≡ 6 → ⊥) → payload_of 0 t ≡ x)
    → Judged (or_null (atomic_takes a) t) (misfit (limits_of a) (kind_of t) x)
atomic_judged a t x l e = go (ℕ_discrete (kind_of t) 0)
  where
    go : Dec (kind_of t ≡ 0) → Judged (or_null (atomic_takes a) t) (misfit (limits_of a) (kind_of t) x)
    go (yes z) = kept (misfit_null (limits_of a) (kind_of t) x z) (null_keeps (atomic_takes a) t z)
    go (no n) = rw (not_null (atomic_takes a) t n) (shape_judged (shape a) t x l e n)

-- the same of entry k, by what the code reads of it
pub atomic_here : {s : List ℕ} {k : ℕ} → Bytes s → (a : Atomic) (t : EntryThere s k) {f : Limits} {kind x : ℕ}
    {r : Option Misfit} → f ≡ limits_of a → kind ≡ first_kind (left_at s k) → x ≡ payload_of_entry s k
    → r ≡ misfit f kind x → Judged (or_null (atomic_takes a) t.token) r
atomic_here {s} {k} bytes a t e g h i =
    rw (i, e, g, kind_there t, h)
    (atomic_judged a t.token (payload_of_entry s k) (word_below 8 s (8 + 12 * k) bytes) t.payload)

-- what is set is the payload's bits
data Sets (b : Bits) (e : Effect) : Type 0 where
  puts : e ≡ put b → Sets b e
  refuses : (number : ℕ) → e ≡ refuse number → Sets b e

sets_by : (b : Bits) (number : ℕ) (fits : Bool) → Sets b (cond fits (put b) (refuse number))
sets_by b number true = puts refl
sets_by b number false = refuses number refl

whole_sets : (b : Bits) (number fits : Bool) → Sets b (cond number (cond fits (put b) (refuse 19)) (refuse 18))
whole_sets b true fits = sets_by b 19 fits
whole_sets b false fits = refuses 18 refl

shape_sets : {takes : Token → Effect} {f : Limits} → TakesBy takes f → (t : Token) → Sets (payload_bits t) (takes t)
unfolding of_kind whole
shape_sets (one kind n k e g) t = rw (e t) (sets_by (payload_bits t) 18 (eqb (kind_of t) kind))
shape_sets (range low high under most a b e g) t =
    rw (e t) (whole_sets (payload_bits t) (is_whole (kind_of t)) (in_range low high (kind_of t) (payload_of 0 t)))

accepted_sets : {b : Bits} {e : Effect} (w p : ℕ) (t : Token) (ts : List Token) (z : Bits) → Sets b e
    → accepted (on_effect e w p t ts z) ≡ true → e ≡ put b
accepted_sets w p t ts z (puts h) a = h
accepted_sets w p t ts z (refuses number h) a =
    absurd (true≢false (sym a ∙ ap (λ e. accepted (on_effect e w p t ts z)) h))

-- an entry that is accepted and no null sets its payload's bits
pub atomic_sets : (a : Atomic) (w p : ℕ) (t : Token) (ts : List Token) (z : Bits) → (kind_of t ≡ 0 → ⊥)
    → accepted (on_effect (or_null (atomic_takes a) t) w p t ts z) ≡ true
    → or_null (atomic_takes a) t ≡ put (payload_bits t)
atomic_sets a w p t ts z n h =
    accepted_sets w p t ts z (rw (not_null (atomic_takes a) t n) (shape_sets (shape a) t)) h

-- a BOOL of a structure takes what a BOOL takes
pub flag_takes : (t : Token) → atomic_takes atomic.Bool t ≡ taken flag t
unfolding atomic_takes bit_string
flag_takes t = refl

-- ---- texts

module _ (capacity : ℕ) (t : Token) where
  -- null, a text that is not too long, one that is, and another entry
  pub text_null : kind_of t ≡ 0 → Judged (or_null (as_text capacity) t) None
  text_null k = kept refl (null_keeps (as_text capacity) t k)

  -- a text that is not too long is taken
  pub text_fits : kind_of t ≡ 6 → length (body_of t) ≤ capacity → Judged (or_null (as_text capacity) t) None
  unfolding as_text
  text_fits k l =
      rw (not_null (as_text capacity) t (λ h. let z : ⊥ = omega arith in z))
      (set refl (text_bits (body_of t))
      (rw (eq-eqb (kind_of t) 6 k, le-leb (length (body_of t)) capacity l) refl))

  -- a text that is longer than the capacity is refused with 21
  pub text_long : kind_of t ≡ 6 → capacity < length (body_of t) → or_null (as_text capacity) t ≡ refuse 21
  unfolding as_text
  text_long k l =
      rw (not_null (as_text capacity) t (λ h. let z : ⊥ = omega arith in z))
      (rw (eq-eqb (kind_of t) 6 k, lt-leb (length (body_of t)) capacity l) refl)

  text_other : (kind_of t ≡ 0 → ⊥) → (kind_of t ≡ 6 → ⊥) → or_null (as_text capacity) t ≡ refuse 18
  unfolding as_text
  text_other n k = rw (not_null (as_text capacity) t n) (rw (ne_eqb (kind_of t) 6 k) refl)

-- no text and no null stands at entry k
pub no_text : {s : List ℕ} {k : ℕ} (capacity w p : ℕ) → stream_ok s ≡ true → k ≤ count_in s
    → (first_kind (left_at s k) ≡ 0 → ⊥) → (first_kind (left_at s k) ≡ 6 → ⊥)
    → CheckedFrom s k (Err (EntryMisfit k)) (write_one (or_null (as_text capacity)) w p (left_at s k))
no_text {s} {k} capacity w p form l a b = go (dec_lt k (count_in s))
  where
    go : Dec (k < count_in s)
        → CheckedFrom s k (Err (EntryMisfit k)) (write_one (or_null (as_text capacity)) w p (left_at s k))
    go (yes h) =
        let t = there s k form h in
        let kind = kind_there t in
        one_refused form (or_null (as_text capacity)) w p t
        (text_other capacity t.token (λ q. a (kind ∙ q)) (λ q. b (kind ∙ q))) refl
    go (no h) = one_missing form (or_null (as_text capacity)) w p (omega arith)
