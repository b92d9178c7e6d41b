-- Arrays of bools (document 01, "Writing"): one that is accepted is a run of bools and its close, and sets their
-- truths; the close of a run is the first entry that is one.
use Prim.Native.Nat.{ℕ, zero, suc, ◌+◌, ◌-◌, ◌*◌, ◌/◌, ◌%◌, ◌^◌, ◌<◌, ◌≤◌}
use native.Mathlib.Decide.{dec_lt, ℕ_discrete}
use native.Mathlib.Omega.{arith}
use mathlib.Core.Path.{◌≡◌, refl, sym, ap, ◌∙◌}
use mathlib.Core.Bool.{true}
use mathlib.Core.List.{List, ◌∷◌}
use borrow.Author.Tests.{eq-eqb, ne_eqb}
use lib.Dec.{eqb}
use lib.ListN.{get_or, length}
use Rattle.words.specs.Bits.{Bits, bit_of, flat, from, stamp}
use Rattle.words.proofs.StampLaws.{stamp_ext, stamp_none, stamp_two}
use Rattle.words.proofs.WordLaws.{low_byte}
use Rattle.values.specs.inside.writing.Bools.{AtLeast, Bools, BoolRun, truths}
use Rattle.values.specs.inside.writing.Passes.{accepted, first_kind, left_at}
use Rattle.values.specs.reading.Leaf.{flag}
use Rattle.values.specs.stream.Form.{stream_ok}
use Rattle.values.specs.stream.Stream.{kind_of, payload_of}
use Rattle.values.specs.writing.Effects.{of_kind, payload_bits, taken}
use Rattle.values.specs.writing.Writing.{Outcome, ok, bad, and_then, bools_in, elements, write_one}
use Rattle.values.proofs.stream.LeftLaws.{EntryThere, entries_inside, few_entries, kind_there, payload_of_entry}
use Rattle.values.proofs.stream.LeftLaws.{there}
use Rattle.values.proofs.writing.ApplyLaws.{accepted_as, elements_there, not_accepted}
use Rattle.values.proofs.writing.OutcomeLaws.{elements_close, elements_full, elements_next, one_is}

-- ---- one bool

module _ {s : List ℕ} {k : ℕ} (t : EntryThere s k) (one : kind_of t.token ≡ 1) where
  -- the first byte of its payload is the payload
  bool_byte : get_or s (8 + 12 * k) 0 ≡ payload_of_entry s k
  bool_byte = low_byte 7 s (8 + 12 * k) (t.truth one)

  bool_small : get_or s (8 + 12 * k) 0 < 2
  bool_small = omega (arith, bool_byte, t.truth one)

  -- and the payload's first bit its truth
  bool_bit : payload_bits t.token 0 ≡ truths s k 0
  unfolding bit_of truths
  bool_bit =
      let same : get_or s (8 + 12 * (k + 0)) 0 ≡ get_or s (8 + 12 * k) 0 = ap (λ j. get_or s j 0) (omega arith) in
      let low : payload_of 0 t.token / 2 ^ 0 % 2 ≡ get_or s (8 + 12 * k) 0 =
      omega (arith, bool_byte, t.truth one, t.payload (λ six. omega arith)) in
      ap (λ x. eqb x 1) (low ∙ sym same)

-- the bools from entry k + m on are those from entry k on, m further
pub truths_from : (s : List ℕ) (k m i : ℕ) → truths s (k + m) i ≡ truths s k (m + i)
unfolding truths
truths_from s k m i = ap (λ j. eqb (get_or s j 0) 1) (omega arith)

-- ---- a run

module _ {s : List ℕ} {k m : ℕ} (r : BoolRun s k m) where
  run_there : (i : ℕ) → i < m → EntryThere s (k + i)
  run_there i l = there s (k + i) r.form (omega (arith, r.inside))

  -- each of its bools is a byte 0 or 1
  pub run_byte : (i : ℕ) → i < m → get_or s (8 + 12 * (k + i)) 0 < 2
  run_byte i l = bool_small (run_there i l) (sym (kind_there (run_there i l)) ∙ r.each i l)

  -- its bools from a later one on
  run_tail : (n : ℕ) → n ≤ m → BoolRun s (k + n) (m - n)
  run_tail n l =
      record {
        form = r.form;
        inside = omega (arith, r.inside);
        each = λ i h.
            let here : k + n + i ≡ k + (n + i) = omega arith in
            ap (λ j. first_kind (left_at s j)) here ∙ r.each (n + i) (omega arith);
        close =
            let here : k + n + (m - n) ≡ k + m = omega arith in
            ap (λ j. first_kind (left_at s j)) here ∙ r.close;
      }

-- of a run of at least so many bools, those from a later one on are such a run
pub later : {s : List ℕ} {k n : ℕ} → AtLeast s k n → (j i : ℕ) → j + i ≤ n → AtLeast s (k + j) i
later a j i l =
    let enough = a.enough in
    record { many = a.many - j; run = run_tail a.run j (omega arith); enough = omega arith }

-- there are few entries, and they lie in the stream
pub record Few (s : List ℕ) (k n : ℕ) : Type 0 where
  pub small : k + n < 2 ^ 28
  pub long : 12 * (k + n) + 16 ≤ length s

-- the entries of a run of bools are few, and lie in the stream
pub least_few : {s : List ℕ} {k n : ℕ} → AtLeast s k n → Few s k n
least_few {s} a =
    let enough = a.enough in
    let inside = a.run.inside in
    record {
      small = omega (arith, few_entries s a.run.form);
      long = omega (arith, entries_inside s a.run.form);
    }

-- an entry among the bools of a run, or its close
pub record Among (s : List ℕ) (k p : ℕ) : Type 0 where
  pub after : k ≤ p
  pub upto : (m : ℕ) → BoolRun s k m → p ≤ k + m

-- the first entry of a run is among its bools, or its close
pub among_start : {s : List ℕ} {k : ℕ} → Among s k k
among_start {s} {k} = record { after = omega arith; upto = λ m r. omega arith }

-- so is the entry after one that is no close
pub among_on : {s : List ℕ} {k p : ℕ} → Among s k p → (first_kind (left_at s p) ≡ 11 → ⊥) → Among s k (p + 1)
among_on {s} {k} {p} a other =
    record {
      after = omega (arith, a.after);
      upto = λ m r.
          let not : p ≡ k + m → ⊥ = λ e. other (ap (λ j. first_kind (left_at s j)) e ∙ r.close) in
          omega (arith, a.upto m r);
    }

-- such an entry that is a close is the run's close
pub among_close : {s : List ℕ} {k p : ℕ} → Among s k p → first_kind (left_at s p) ≡ 11 → (m : ℕ) → BoolRun s k m
    → p ≡ k + m
among_close {s} {k} {p} a e m r = go (dec_lt p (k + m))
  where
    go : Dec (p < k + m) → p ≡ k + m
    go (yes l) =
        let after = a.after in
        let same : k + (p - k) ≡ p = omega arith in
        let one : first_kind (left_at s p) ≡ 1 = rw same at (r.each (p - k) (omega arith)) in
        omega arith
    go (no l) = omega (arith, a.upto m r)

-- ---- what is accepted is a run

ok_is : (s : List ℕ) {a b : ℕ} {y z : Bits} → a ≡ b → y ≡ z → ok (left_at s a) y ≡ ok (left_at s b) z
ok_is s e f = rw (e, f) refl

-- bools that are accepted: how many, that they are a run, and that their truths are set
pub record Accepts (s : List ℕ) (k total p : ℕ) (z : Bits) : Type 0 where
  pub many : ℕ
  pub few : many ≤ total
  pub run : BoolRun s k many
  pub gives : bools_in total p (left_at s k) z ≡ ok (left_at s (k + many + 1)) (stamp p many (truths s k) z)

module _ {s : List ℕ} (form : stream_ok s ≡ true) {k : ℕ} (t : EntryThere s k) (p : ℕ) (z : Bits) where
  -- a bool is set, and no other entry fits
  one_set : kind_of t.token ≡ 1
      → write_one (taken flag) 1 p (left_at s k) z ≡ ok (left_at s (k + 1)) (stamp p 1 (payload_bits t.token) z)
  unfolding of_kind
  one_set e =
      one_is (taken flag) 1 p t.token (left_at s (k + 1)) z t.left
      ∙ rw (eq-eqb (kind_of t.token) 1 e) refl

  one_not : (kind_of t.token ≡ 1 → ⊥)
      → write_one (taken flag) 1 p (left_at s k) z ≡ bad 18 (t.token ∷ left_at s (k + 1))
  unfolding of_kind
  one_not e =
      one_is (taken flag) 1 p t.token (left_at s (k + 1)) z t.left
      ∙ rw (ne_eqb (kind_of t.token) 1 e) refl

  -- the close
  accepts_close : (total : ℕ) → kind_of t.token ≡ 11 → Accepts s k total p z
  accepts_close total e =
      let here : k + 0 ≡ k = omega arith in
      record {
        many = 0;
        few = omega arith;
        run = record {
          form = form;
          inside = omega (arith, t.inside);
          each = λ i l. absurd (let z : ⊥ = omega arith in z);
          close = ap (λ j. first_kind (left_at s j)) here ∙ kind_there t ∙ e;
        };
        gives = elements_close (write_one (taken flag) 1) 1 total p t.token (left_at s (k + 1)) z t.left e
            ∙ ok_is s (omega arith) (sym (stamp_none p (truths s k) z));
      }

  -- past the last place there is nothing but the close
  accepts_none : accepted (bools_in 0 p (left_at s k) z) ≡ true → Accepts s k 0 p z
  accepts_none h = go (ℕ_discrete (kind_of t.token) 11)
    where
      go : Dec (kind_of t.token ≡ 11) → Accepts s k 0 p z
      go (yes e) = accepts_close 0 e
      go (no e) =
          not_accepted (elements_full (write_one (taken flag) 1) 1 p t.token (left_at s (k + 1)) z t.left e) h

  -- the truth of the first, and those of the others
  first_set : (n : ℕ) → kind_of t.token ≡ 1
      → stamp (p + 1) n (truths s (k + 1)) (stamp p 1 (payload_bits t.token) z) ≡ stamp p (1 + n) (truths s k) z
  first_set n e =
      ap (stamp (p + 1) n (truths s (k + 1))) (stamp_ext p 1 (payload_bits t.token) (truths s k) z first)
      ∙ stamp_ext (p + 1) n (truths s (k + 1)) (from 1 (truths s k)) (stamp p 1 (truths s k) z)
      (λ i l. truths_from s k 1 i)
      ∙ stamp_two p 1 n (truths s k) z
    where
      first : (i : ℕ) → i < 1 → payload_bits t.token i ≡ truths s k i
      first zero l = bool_bit t e
      first (suc i) l = absurd (let z : ⊥ = omega arith in z)

  first_step : (n : ℕ) {o : Outcome} → (kind_of t.token ≡ 11 → ⊥) → write_one (taken flag) 1 p (left_at s k) z ≡ o
      → bools_in (suc n) p (left_at s k) z ≡ and_then o (elements n (write_one (taken flag) 1) 1 (p + 1))
  first_step n other e =
      elements_next (write_one (taken flag) 1) 1 n p t.token (left_at s (k + 1)) z t.left other
      ∙ ap (λ o. and_then o (elements n (write_one (taken flag) 1) 1 (p + 1))) e

  -- a bool, and a run after it
  accepts_more : (n : ℕ) → kind_of t.token ≡ 1
      → Accepts s (k + 1) n (p + 1) (stamp p 1 (payload_bits t.token) z) → Accepts s k (suc n) p z
  accepts_more n e a =
      record {
        many = 1 + a.many;
        few = omega (arith, a.few);
        run = record {
          form = form;
          inside = omega (arith, a.run.inside);
          each = each;
          close = ap (λ j. first_kind (left_at s j)) (omega arith) ∙ a.run.close;
        };
        gives = first_step n (λ eleven. omega arith) (one_set e) ∙ a.gives
            ∙ ok_is s (omega arith) (first_set a.many e);
      }
    where
      each : (i : ℕ) → i < 1 + a.many → first_kind (left_at s (k + i)) ≡ 1
      each zero l =
          let here : k + 0 ≡ k = omega arith in
          ap (λ j. first_kind (left_at s j)) here ∙ kind_there t ∙ e
      each (suc i) l =
          let here : k + suc i ≡ k + 1 + i = omega arith in
          ap (λ j. first_kind (left_at s j)) here ∙ a.run.each i (omega arith)

  accepts_next : (n : ℕ) → accepted (bools_in (suc n) p (left_at s k) z) ≡ true
      → ((y : Bits) → accepted (bools_in n (p + 1) (left_at s (k + 1)) y) ≡ true → Accepts s (k + 1) n (p + 1) y)
      → Accepts s k (suc n) p z
  accepts_next n h rest = go (ℕ_discrete (kind_of t.token) 11) (ℕ_discrete (kind_of t.token) 1)
    where
      go : Dec (kind_of t.token ≡ 11) → Dec (kind_of t.token ≡ 1) → Accepts s k (suc n) p z
      go (yes e) d = accepts_close (suc n) e
      go (no e) (yes o) = accepts_more n o (rest _ (accepted_as (first_step n e (one_set o)) h))
      go (no e) (no o) = not_accepted (first_step n e (one_not o)) h

-- an array of bools that is accepted is a run, and sets its truths
pub accepts : {s : List ℕ} → stream_ok s ≡ true → (total k p : ℕ) (z : Bits)
    → accepted (bools_in total p (left_at s k) z) ≡ true → Accepts s k total p z
accepts form zero k p z h = accepts_none form (elements_there form 0 (write_one (taken flag) 1) 1 p z h) p z h
accepts form (suc n) k p z h =
    accepts_next form (elements_there form (suc n) (write_one (taken flag) 1) 1 p z h) p z n h
    (λ y b. accepts form n (k + 1) (p + 1) y b)

-- the same of an accepted array of bools over the bytes of an image
pub bools_run : {s : List ℕ} {k : ℕ} {image : List ℕ} {base : ℕ} (b : Bools s k image base)
    → Accepts s k (8 * b.bytes) (8 * base) (flat image)
bools_run {s} {k} {image} {base} b = accepts b.form (8 * b.bytes) k (8 * base) (flat image) b.taken
