-- Runs of atomics set in an image (document 01, "Writing"), where the check accepted: the loop over the entries of an
-- array, and the ways of a bit string.
use Prim.Native.Nat.{ℕ, suc, ◌+◌, ◌-◌, ◌*◌, ◌<◌, ◌≤◌}
use native.Mathlib.Decide.{dec_lt}
use native.Mathlib.Nat.{add-zero, mul-add, mul-one, mul-zero, sub-zero}
use native.Mathlib.Omega.{arith}
use mathlib.Core.Path.{◌≡◌, refl, sym, ap, ◌∙◌, subst}
use mathlib.Core.Bool.{true}
use mathlib.Core.List.{List}
use lib.ListN.{length}
use lib.Seq.{sets, length-sets}
use Rattle.words.specs.Bits.{Bits, bit_of, flat, stamp}
use Rattle.words.specs.Words.{bytes_of}
use Rattle.words.proofs.BitLaws.{bit_none}
use Rattle.words.proofs.StampLaws.{flat_word, stamp_ext}
use Rattle.words.proofs.ArithLaws.{element_room}
use Rattle.types.specs.atomics.Atomic.{bit_string, size_of}
use Rattle.types.specs.layout.Placing.{times}
use Rattle.types.specs.declared.atomics.atomic.Atomic.{Atomic}
use Rattle.types.proofs.Face.{times_one, times_same}
use Rattle.values.specs.inside.writing.Bools.{Bools}
use Rattle.values.specs.inside.writing.Effects.{atomic_takes}
use Rattle.values.specs.inside.writing.Passes.{Applied, accepted, first_kind, left_at}
use Rattle.values.specs.inside.writing.Rows.{run_in}
use Rattle.values.specs.reading.Trees.{atomics_tree}
use Rattle.values.specs.stream.Form.{count_in, stream_ok}
use Rattle.values.specs.stream.Stream.{Token}
use Rattle.values.specs.writing.Effects.{or_null}
use Rattle.values.specs.writing.Writing.{Outcome, and_then, write_one, elements, bools_in, no_bits, write}
use Rattle.values.proofs.stream.LeftLaws.{EntryThere, kind_none, none_left, payload_of_entry, there}
use Rattle.values.proofs.writing.ApplyLaws.{Setting, accepted_as, accepted_first, elements_closed, elements_end}
use Rattle.values.proofs.writing.ApplyLaws.{elements_there, not_accepted, setting_from, setting_on}
use Rattle.values.proofs.writing.ApplyLaws.{setting_start, setting_then}
use Rattle.values.proofs.writing.OutcomeLaws.{elements_none, one_none}
use Rattle.values.proofs.writing.RunInLaws.{bits_bools, bits_number, run_wholes}
use Rattle.values.proofs.writing.StepLaws.{elements_go}
use Rattle.values.proofs.writing.sets.SetLaws.{atomic_set, one_kept}

-- ---- one entry

-- what one entry or null does to one atomic at a bit
abbrev pub one_of : Atomic → ℕ → List Token → Bits → Outcome
one_of a = write_one (or_null (atomic_takes a)) (8 * size_of a)

-- ---- the entries of an array

-- what the entries of an array do to n atomics from a byte on, one entry or null for each
abbrev pub numbers_in : Atomic → ℕ → ℕ → List Token → Bits → Outcome
numbers_in a n base ts z = elements n (one_of a) (8 * size_of a) (8 * base) ts z

-- what the loop counts on, where its atomics have a size
pub record NumbersAsked (a : Atomic) (n : ℕ) (s : List ℕ) (k : ℕ) (image : List ℕ) (base size : ℕ) : Type 0 where
  pub long : size ≡ size_of a
  pub form : stream_ok s ≡ true
  pub room : base + size_of a * n ≤ length image
  pub taken : accepted (numbers_in a n base (left_at s k) (flat image)) ≡ true

-- what is left of n after e of them: the loop knows no more of the atomic than its size
pub record Numbers (n : ℕ) (s : List ℕ) (k : ℕ) (image : List ℕ) (base size : ℕ) (now : List ℕ) (e : ℕ)
    : Type 0 where
  pub each : (a : Atomic) → NumbersAsked a n s k image base size
      → Setting s k image (numbers_in a n base (left_at s k)) (k + e) now
      (numbers_in a (n - e) (base + size_of a * e) (left_at s (k + e)))

-- at the first entry all are left to be set
pub numbers_start : {n : ℕ} {s : List ℕ} {k : ℕ} {image : List ℕ} {base size : ℕ}
    → Numbers n s k image base size image 0
numbers_start {n} {s} {k} {image} {base} {size} =
    record { each = λ a w. simp (sub-zero, mul-zero, add-zero) (setting_start w.taken) }

module _ {n : ℕ} {s : List ℕ} {k : ℕ} {image : List ℕ} {base size : ℕ} {now : List ℕ} {e : ℕ}
    (v : Numbers n s k image base size now e) where
  module _ {a : Atomic} (w : NumbersAsked a n s k image base size) where
    -- where an array of numbers is accepted, its next entry is there
    pub numbers_there : EntryThere s (k + e)
    numbers_there =
        elements_there w.form (n - e) (one_of a) (8 * size_of a) (8 * (base + size_of a * e)) (flat now)
        (v.each a w).taken

    -- the image is as long as it was
    pub numbers_long : length now ≡ length image
    numbers_long = (v.each a w).long

    -- where a place is left, the next atomic lies in the image
    pub numbers_room : e < n → base + size * e + size ≤ length now
    numbers_room l = rw (w.long, numbers_long) (element_room (size_of a) e n base (length image) l w.room)

    -- the close: the places that are left stand as they were
    pub numbers_closed : first_kind (left_at s (k + e)) ≡ 11
        → Applied s k (k + e + 1) image now (numbers_in a n base (left_at s k))
    numbers_closed c =
        (v.each a w).onward (k + e + 1) now
        (elements_closed w.form (one_of a) (8 * size_of a) numbers_there (n - e) (8 * (base + size_of a * e)) c)

    -- past the last place there is nothing else
    pub numbers_end : n ≡ e → Applied s k (k + n + 1) image now (numbers_in a n base (left_at s k))
    numbers_end h =
        let none : n - e ≡ 0 = omega arith in
        subst (λ (m : ℕ). Applied s k (k + m + 1) image now (numbers_in a n base (left_at s k))) (sym h)
        (numbers_closed (elements_end w.form (one_of a) (8 * size_of a) numbers_there (8 * (base + size_of a * e)) now
        (rw none at (v.each a w).taken)))

    next_is : e < n → (first_kind (left_at s (k + e)) ≡ 11 → ⊥)
        → numbers_in a (n - e) (base + size_of a * e) (left_at s (k + e)) (flat now)
        ≡ and_then (one_of a (8 * (base + size_of a * e)) (left_at s (k + e)) (flat now))
        (elements (n - (e + 1)) (one_of a) (8 * size_of a) (8 * (base + size_of a * e) + 8 * size_of a))
    next_is l c =
        let more : n - e ≡ suc (n - (e + 1)) = omega arith in
        rw more (elements_go w.form (one_of a) (8 * size_of a) (n - (e + 1)) (8 * (base + size_of a * e))
        numbers_there c (flat now))

    one_taken : e < n → (first_kind (left_at s (k + e)) ≡ 11 → ⊥)
        → accepted (one_of a (8 * (base + size_of a * e)) (left_at s (k + e)) (flat now)) ≡ true
    one_taken l c =
        accepted_first (one_of a (8 * (base + size_of a * e)) (left_at s (k + e)) (flat now))
        (elements (n - (e + 1)) (one_of a) (8 * size_of a) (8 * (base + size_of a * e) + 8 * size_of a))
        (accepted_as (next_is l c) (v.each a w).taken)

  -- an entry that was set, and the rest
  numbers_on : {new : List ℕ} → e < n → (first_kind (left_at s (k + e)) ≡ 11 → ⊥)
      → ((a : Atomic) → NumbersAsked a n s k image base size
      → Applied s (k + e) (k + e + 1) now new (one_of a (8 * (base + size_of a * e)) (left_at s (k + e))))
      → Numbers n s k image base size new (e + 1)
  numbers_on {new} l c one =
      record {
        each = λ a w.
            let next : k + (e + 1) ≡ k + e + 1 = omega arith in
            let far : 8 * (base + size_of a * e) + 8 * size_of a ≡ 8 * (base + size_of a * (e + 1)) =
            omega (arith, mul-add (size_of a) e 1, mul-one (size_of a)) in
            rw next
            (setting_on (v.each a w)
            (subst (λ (q : ℕ). Setting s (k + e) now (numbers_in a (n - e) (base + size_of a * e) (left_at s (k + e)))
            (k + e + 1) new (elements (n - (e + 1)) (one_of a) (8 * size_of a) q (left_at s (k + e + 1)))) far
            (setting_then
            (elements (n - (e + 1)) (one_of a) (8 * size_of a) (8 * (base + size_of a * e) + 8 * size_of a))
            (next_is w l c) (v.each a w).taken (one a w))));
      }

  -- a null: what stands is kept, and the rest is set from the next entry on
  pub numbers_null : e < n → first_kind (left_at s (k + e)) ≡ 0 → Numbers n s k image base size now (e + 1)
  numbers_null l z =
      numbers_on l (λ h. let x : ⊥ = omega arith in x)
      (λ a w. one_kept (numbers_there w) (atomic_takes a) (8 * size_of a) (8 * (base + size_of a * e)) z)

  -- a number: its bytes are stored, and the rest is set from the next entry on
  pub numbers_put : {x : ℕ} {new : List ℕ} → e < n → (first_kind (left_at s (k + e)) ≡ 11 → ⊥)
      → (first_kind (left_at s (k + e)) ≡ 0 → ⊥) → x ≡ payload_of_entry s (k + e)
      → new ≡ sets now (base + size * e) (bytes_of size x) → Numbers n s k image base size new (e + 1)
  numbers_put {x} {new} l c z d b =
      numbers_on l c
      (λ a w. atomic_set (numbers_there w) a (base + size_of a * e) z
      (subst (λ (m : ℕ). base + m * e + m ≤ length now) w.long (numbers_room w l)) (one_taken w l c)
      (b ∙ rw (w.long, d) refl))

-- ---- one bit string

module _ {s : List ℕ} {k : ℕ} (form : stream_ok s ≡ true) (a : Atomic) (base : ℕ) (bits : bit_string a ≡ true) where
  -- where a bit string is accepted, its entry is there
  pub bits_there : (z : Bits) → accepted (write (atomics_tree a 0) (8 * base) (left_at s k) z) ≡ true → EntryThere s k
  bits_there z h = go (dec_lt k (count_in s))
    where
      go : Dec (k < count_in s) → EntryThere s k
      go (yes l) = there s k form l
      go (no l) =
          let past : count_in s ≤ k = omega arith in
          not_accepted
          (bits_number a (8 * base) (left_at s k) z bits (λ e. let y : ⊥ = omega (arith, kind_none s k past) in y)
          ∙ one_none (or_null (atomic_takes a)) (8 * size_of a) (8 * base) z (none_left s k past)) h

  -- all its bits are cleared, and then bools follow
  pub bits_cleared : {size : ℕ} {image mid : List ℕ} → EntryThere s k → first_kind (left_at s k) ≡ 10
      → accepted (write (atomics_tree a 0) (8 * base) (left_at s k) (flat image)) ≡ true
      → base + size_of a ≤ length image → size ≡ size_of a → mid ≡ sets image base (bytes_of size 0)
      → Setting s k image (write (atomics_tree a 0) (8 * base) (left_at s k)) (k + 1) mid
      (bools_in (8 * size_of a) (8 * base) (left_at s (k + 1)))
  bits_cleared {size} {image} {mid} t e h l w q =
      let m : mid ≡ sets image base (bytes_of (size_of a) 0) = q ∙ rw w refl in
      let zeros : flat mid ≡ stamp (8 * base) (8 * size_of a) no_bits (flat image) =
      ap flat m ∙ flat_word image base (size_of a) 0 l
      ∙ stamp_ext (8 * base) (8 * size_of a) (bit_of 0) no_bits (flat image) (λ i j. bit_none i) in
      setting_from (omega arith) (ap length m ∙ length-sets image base (bytes_of (size_of a) 0))
      (bits_bools a (8 * base) (left_at s k) (flat image) bits e
      ∙ rw (zeros, t.left) refl) h

-- bools that are accepted in so many bytes
pub bools_asked : {s : List ℕ} {k : ℕ} {image : List ℕ} {base : ℕ} (bytes : ℕ) → stream_ok s ≡ true
    → base + bytes ≤ length image → accepted (bools_in (8 * bytes) (8 * base) (left_at s k) (flat image)) ≡ true
    → Bools s k image base
bools_asked bytes form room taken = record { form = form; bytes = bytes; room = room; taken = taken }

-- ---- the inside of an array

-- inside an accepted array of bit strings the next entry is there
pub run_there : {s : List ℕ} {k : ℕ} → stream_ok s ≡ true → (a : Atomic) (n p : ℕ) (z : Bits) → bit_string a ≡ true
    → accepted (run_in a n p (left_at s k) z) ≡ true → EntryThere s k
run_there {s} {k} form a n p z bits h = go (dec_lt k (count_in s))
  where
    go : Dec (k < count_in s) → EntryThere s k
    go (yes l) = there s k form l
    go (no l) =
        let past : count_in s ≤ k = omega arith in
        not_accepted
        (run_wholes a n p (left_at s k) z bits (λ e. let y : ⊥ = omega (arith, kind_none s k past) in y)
        ∙ elements_none (one_of a) (8 * size_of a) n p z (none_left s k past)) h

-- ---- one, or many

module _ (a : Atomic) (n base : ℕ) {long : ℕ} (h : base + size_of a * times n ≤ long) where
  -- count 0: there is room for one atomic
  pub room_one : n ≡ 0 → base + size_of a ≤ long
  room_one e = rw (← times_one n e, mul-one) at h

  -- any other count: there is room for so many atomics
  pub room_some : (n ≡ 0 → ⊥) → base + size_of a * n ≤ long
  room_some e = rw (← times_same n e) at h
