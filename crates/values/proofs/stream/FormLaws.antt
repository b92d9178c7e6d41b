-- The form of a value stream (document 01, "Value stream"): the steps of its check, the loop over the entries, and
-- what a stream that is well formed has passed.
use Prim.Native.Nat.{ℕ, zero, suc, ◌+◌, ◌-◌, ◌*◌, ◌/◌, ◌%◌, ◌^◌, ◌<◌, ◌≤◌}
use native.Mathlib.Nat.{add-zero, zero-add, sub-zero}
use native.Mathlib.Decide.{ℕ_discrete}
use native.Mathlib.Omega.{arith}
use mathlib.Core.Path.{◌≡◌, refl, sym, ap, ap₂, ◌∙◌, subst}
use mathlib.Core.Bool.{Bool, true, false, cond, ◌&&◌}
use mathlib.Core.List.{List}
use Rattle.std.specs.Bool.{then_some}
use Rattle.std.specs.Prelude.{Option, Some, None}
use lib.Dec.{eqb, leb}
use lib.ListN.{length, get_or, get_or-eq_default}
use borrow.Author.Tests.{eq-eqb, ne_eqb, eqb-true, le-leb, lt-leb}
use Rattle.words.specs.Words.{word_at}
use Rattle.words.proofs.TestLaws.{clash}
use Rattle.words.proofs.WordLaws.{word_split, word_four}
use Rattle.words.proofs.ArithLaws.{none_most, below_most}
use Rattle.values.specs.inside.stream.Steps.{Moved, most_of, text_step_of}
use Rattle.values.specs.stream.Entry.{is_entry, kind_at, payload_at, payload_right, payloads_right, three_zeros}
use Rattle.values.specs.stream.Form.{TextStep, At, Broken, text_step, entry_step, step_at, on_step, formed, count_in}
use Rattle.values.specs.stream.Form.{base_in, stream_ok}
use Rattle.values.specs.stream.Stream.{most_bytes}

-- ---- one entry

-- steps that are the same go to the same place
at_same : (x y : ℕ) → At x ≡ At y → x ≡ y
at_same x y e = cc

-- one test tells whether a step goes on to a place
pub moved_if : {p : ℕ} {b : Bool} {r : Option ℕ} (place : ℕ) (step : TextStep) (test : Bool) → r ≡ then_some b p
    → b ≡ test → p ≤ place + 2 ^ 32 → (test ≡ true → step ≡ At p) → (test ≡ false → step ≡ Broken)
    → Moved place step r
moved_if place step true e q h on off = rw (e, q) (on refl, h)
moved_if place step false e q h on off = rw (e, q) (off refl)

-- ---- one kind's payloads: the greatest one

-- each kind from one on
infixr 30 ◌then◌
data Each (P : ℕ → Type 0) : ℕ → ℕ → Type 0 where
  none : {k : ℕ} → Each P k 0
  ◌then◌ : {k n : ℕ} → P k → Each P (suc k) n → Each P k (suc n)

each_at : {P : ℕ → Type 0} {k n : ℕ} → Each P k n → (j : ℕ) → j < n → P (k + j)
each_at none j l = absurd (let z : ⊥ = omega arith in z)
each_at (a then b) zero l = rw add-zero a
each_at {P} {k} (a then b) (suc j) l =
    let e : k + suc j ≡ suc k + j = omega arith in
    rw e (each_at b j (omega arith))

-- THE LAW over the kinds: the payloads of one that is no text are right up to the greatest
kind_most : (x : ℕ) → x < 2 ^ 64 → Each (λ kind. (kind ≡ 6 → ⊥) → payload_right kind x ≡ leb x (most_of kind)) 0 12
unfolding payload_right most_of
kind_most x l =
    let whole : true ≡ leb x (2 ^ 64 - 1) = sym (le-leb x (2 ^ 64 - 1) (omega arith)) in
    (λ n. none_most x)
    then (λ n. below_most 2 1 x refl)
    then (λ n. whole)
    then (λ n. whole)
    then (λ n. below_most (2 ^ 32) (2 ^ 32 - 1) x refl)
    then (λ n. whole)
    then (λ n. absurd (n refl))
    then (λ n. below_most (2 ^ 32) (2 ^ 32 - 1) x refl)
    then (λ n. none_most x)
    then (λ n. none_most x)
    then (λ n. none_most x)
    then (λ n. none_most x)
    then none

module _ (kind x place : ℕ) where
  tested : x < 2 ^ 64 → kind < 12 → (kind ≡ 6 → ⊥)
      → text_step_of kind x place ≡ cond (leb x (most_of kind)) (At place) Broken
  unfolding text_step_of
  tested l k n =
      rw (
        subst (λ (i : ℕ). (i ≡ 6 → ⊥) → payload_right i x ≡ leb x (most_of i)) (zero-add kind)
            (each_at (kind_most x l) kind k) n,
        ne_eqb kind 6 n,
      ) refl

  -- no text, and a payload up to the greatest of its kind: the place stays
  pub plain_fits : x < 2 ^ 64 → kind < 12 → (kind ≡ 6 → ⊥) → x ≤ most_of kind
      → text_step_of kind x place ≡ At place
  plain_fits l k n h = tested l k n ∙ rw (le-leb x (most_of kind) h) refl

  -- no text, and a payload above the greatest of its kind: malformed
  pub plain_broken : x < 2 ^ 64 → kind < 12 → (kind ≡ 6 → ⊥) → most_of kind < x
      → text_step_of kind x place ≡ Broken
  plain_broken l k n h = tested l k n ∙ rw (lt-leb x (most_of kind) h) refl

  -- the kinds that are tested first
  module _ (l : x < 2 ^ 64) where
    -- a bool that is 0 or 1: the place stays
    pub bool_fits : kind ≡ 1 → x < 2 → text_step_of kind x place ≡ At place
    unfolding most_of
    bool_fits e h = plain_fits l (omega arith) (λ q. let z : ⊥ = omega arith in z) (rw e (omega arith))

    -- a bool above 1 is malformed
    pub bool_broken : kind ≡ 1 → 2 ≤ x → text_step_of kind x place ≡ Broken
    unfolding most_of
    bool_broken e h = plain_broken l (omega arith) (λ q. let z : ⊥ = omega arith in z) (rw e (omega arith))

    -- a signed number: the place stays
    pub signed_fits : kind ≡ 2 → text_step_of kind x place ≡ At place
    unfolding most_of
    signed_fits e = plain_fits l (omega arith) (λ q. let z : ⊥ = omega arith in z) (rw e (omega arith))

    -- a member number of 32 bits: the place stays
    pub member_fits : kind ≡ 7 → x < 2 ^ 32 → text_step_of kind x place ≡ At place
    unfolding most_of
    member_fits e h = plain_fits l (omega arith) (λ q. let z : ⊥ = omega arith in z) (rw e (omega arith))

    member_broken : kind ≡ 7 → 2 ^ 32 ≤ x → text_step_of kind x place ≡ Broken
    unfolding most_of
    member_broken e h = plain_broken l (omega arith) (λ q. let z : ⊥ = omega arith in z) (rw e (omega arith))

    -- a bracket without payload: the place stays
    pub mark_fits : 8 ≤ kind → kind < 12 → x ≡ 0 → text_step_of kind x place ≡ At place
    mark_fits a b e = plain_fits l b (λ q. let z : ⊥ = omega arith in z) (omega arith)

    -- a bracket with a payload is malformed
    pub mark_broken : 8 ≤ kind → kind < 12 → (x ≡ 0 → ⊥) → text_step_of kind x place ≡ Broken
    unfolding most_of
    mark_broken a b n =
        let not : (j : ℕ) → j < 8 → eqb kind j ≡ false = λ j h. ne_eqb kind j (λ q. let z : ⊥ = omega arith in z) in
        let none : most_of kind ≡ 0 =
        rw (
          not 1 (omega arith),
          not 2 (omega arith),
          not 3 (omega arith),
          not 4 (omega arith),
          not 5 (omega arith),
          not 7 (omega arith),
        ) refl in
        plain_broken l b (λ q. let z : ⊥ = omega arith in z) (omega (arith, n))

    -- members and brackets use no high half
    pub high_broken : 7 ≤ kind → kind < 12 → 2 ^ 32 ≤ x → text_step_of kind x place ≡ Broken
    high_broken a b h = go (ℕ_discrete kind 7)
      where
        go : Dec (kind ≡ 7) → text_step_of kind x place ≡ Broken
        go (yes e) = member_broken e h
        go (no e) = mark_broken (omega (arith, e)) b (λ q. let z : ⊥ = omega arith in z)

  -- a text
  text_step_lem : kind ≡ 6 → text_step_of kind x place ≡ text_step (x % 2 ^ 32) (x / 2 ^ 32) place
  unfolding text_step_of payload_right
  text_step_lem e = rw e refl

  -- a text that begins at the place: the place goes on by its length
  pub text_here : kind ≡ 6 → x % 2 ^ 32 ≡ place → text_step_of kind x place ≡ At (place + x / 2 ^ 32)
  text_here e h = text_step_lem e ∙ rw (eq-eqb (x % 2 ^ 32) place h) refl

  -- a text that begins anywhere else: malformed
  pub text_elsewhere : kind ≡ 6 → (x % 2 ^ 32 ≡ place → ⊥) → text_step_of kind x place ≡ Broken
  text_elsewhere e h = text_step_lem e ∙ rw (ne_eqb (x % 2 ^ 32) place h) refl

  -- a kind from 12 on is malformed
  pub kind_none : 12 ≤ kind → text_step_of kind x place ≡ Broken
  unfolding text_step_of payload_right
  kind_none l = rw (get_or-eq_default (payloads_right x) false {n = kind} l) refl

-- ---- the first four bytes: the kind, and a number above every kind where one of the three is not zero

module _ (s : List ℕ) (at place : ℕ) (inside : at + 12 ≤ length s) where
  no_zeros : three_zeros s at ≡ false → 12 ≤ word_at 4 s at
      → step_at s at place ≡ text_step_of (word_at 4 s at) (payload_at s at) place
  unfolding is_entry
  no_zeros z l = rw (le-leb (at + 12) (length s) inside, z) (sym (kind_none (word_at 4 s at) (payload_at s at) place l))

  head_read : step_at s at place ≡ text_step_of (word_at 4 s at) (payload_at s at) place
  unfolding is_entry three_zeros text_step_of
  head_read =
      go (ℕ_discrete (get_or s (at + 1) 0) 0) (ℕ_discrete (get_or s (at + 2) 0) 0) (ℕ_discrete (get_or s (at + 3) 0) 0)
    where
      go : Dec (get_or s (at + 1) 0 ≡ 0) → Dec (get_or s (at + 2) 0 ≡ 0) → Dec (get_or s (at + 3) 0 ≡ 0)
          → step_at s at place ≡ text_step_of (word_at 4 s at) (payload_at s at) place
      go (no a) d e = no_zeros (simp (ne_eqb _ 0 a)) (omega (arith, word_four s at))
      go (yes a) (no b) e = no_zeros (simp (eq-eqb _ 0 a, ne_eqb _ 0 b)) (omega (arith, word_four s at))
      go (yes a) (yes b) (no d) =
          no_zeros (simp (eq-eqb _ 0 a, eq-eqb _ 0 b, ne_eqb _ 0 d)) (omega (arith, word_four s at))
      go (yes a) (yes b) (yes d) =
          let e : get_or s at 0 ≡ word_at 4 s at = omega (arith, word_four s at) in
          rw (le-leb (at + 12) (length s) inside, eq-eqb _ 0 a, eq-eqb _ 0 b, eq-eqb _ 0 d, e) refl

-- a step by the three words that the code loads is the step of the entry
pub words_moved : {head low high : ℕ} (s : List ℕ) (at place : ℕ) (r : Option ℕ) → at + 12 ≤ length s
    → head ≡ word_at 4 s at → low ≡ word_at 4 s (at + 4) → high ≡ word_at 4 s (at + 8)
    → Moved place (text_step_of head (low + 2 ^ 32 * high) place) r
    → Moved place (step_at s at place) r
words_moved {head} {low} {high} s at place r inside e f g w =
    let far : at + 4 + 4 ≡ at + 8 = omega arith in
    let both : low + 2 ^ 32 * high ≡ payload_at s at
    = ap₂ (λ (x y : ℕ). x + 2 ^ 32 * y) f (g ∙ ap (word_at 4 s) (sym far)) ∙ sym (word_split 4 4 s (at + 4)) in
    subst (λ (step : TextStep). Moved place step r)
    (ap₂ (λ (k x : ℕ). text_step_of k x place) e both ∙ sym (head_read s at place inside)) w

-- ---- the loop: what is left

-- the first k entries are passed: the form is right where the entries that are left are, from a place on
pub record EntriesLeft (s : List ℕ) (base n place k : ℕ) : Type 0 where
  pub inside : k ≤ n
  pub small : place ≤ 4294967296 * k
  pub rest : formed s base 0 n 0 ≡ formed s base k (n - k) place

-- before the first entry all are left
pub left_start : {s : List ℕ} {base n : ℕ} → EntriesLeft s base n 0 0
left_start {s} {base} {n} = record { inside = omega arith; small = omega arith; rest = rw sub-zero }

module _ {s : List ℕ} {base n place k : ℕ} (w : EntriesLeft s base n place k) where
  next : k < n → formed s base k (n - k) place
      ≡ on_step (step_at s (4 + 12 * k) place) (λ p. formed s base (k + 1) (n - (k + 1)) p)
  unfolding formed
  next l = let e : n - k ≡ suc (n - (k + 1)) = omega arith in rw e refl

  -- an entry whose step goes on: one entry less is left
  pub left_on : {p : ℕ} → k < n → Moved place (step_at s (4 + 12 * k) place) (Some p)
      → EntriesLeft s base n p (k + 1)
  left_on l v =
      record {
        inside = omega arith;
        small = omega (arith, w.small, v.1);
        rest = w.rest ∙ next l ∙ rw v.0 refl;
      }

  -- an entry whose step is broken: the form is wrong
  pub left_broken : k < n → Moved place (step_at s (4 + 12 * k) place) None → false ≡ formed s base 0 n 0
  left_broken l v = sym (w.rest ∙ next l ∙ rw v refl)

  -- no entry is left: the form is right where the texts end at the stream's end
  pub left_done : n ≤ k → eqb (base + place) (length s) ≡ formed s base 0 n 0
  unfolding formed
  left_done l = sym (w.rest ∙ (let e : n - k ≡ 0 = omega arith in rw e refl))

-- ---- one entry of a stream that is well formed

-- a step that is not broken: a text begins at the place and ends at the next one, any other entry leaves the place
pub data EntryStepped (kind x place next : ℕ) : Type 0 where
  over : kind ≡ 6 → x % 2 ^ 32 ≡ place → place + x / 2 ^ 32 ≡ next → EntryStepped kind x place next
  still : (kind ≡ 6 → ⊥) → place ≡ next → EntryStepped kind x place next

-- what a step to a place says
stepped : (kind x place next : ℕ) → entry_step kind x place ≡ At next → EntryStepped kind x place next
stepped kind x place next h = go (ℕ_discrete kind 6) (ℕ_discrete (x % 2 ^ 32) place)
  where
    go : Dec (kind ≡ 6) → Dec (x % 2 ^ 32 ≡ place) → EntryStepped kind x place next
    go (no n) d = still n (at_same place next (rw (ne_eqb kind 6 n) at h))
    go (yes e) (yes d) =
        over e d (at_same (place + x / 2 ^ 32) next (rw (eq-eqb kind 6 e, eq-eqb (x % 2 ^ 32) place d) at h))
    go (yes e) (no d) =
        let b : Broken ≡ At next = rw (eq-eqb kind 6 e, ne_eqb (x % 2 ^ 32) place d) at h in
        absurd (let z : ◌≡◌ {A = ℕ} 0 1 = cc in let y : ⊥ = omega arith in y)

-- a text's place only goes on
step_grows : {kind x place next : ℕ} → EntryStepped kind x place next → place ≤ next
step_grows (over e d n) = omega arith
step_grows (still d n) = omega arith

-- the entry is there, and the next text's place goes on
pub data EntryGoes (s : List ℕ) (at place : ℕ) (on : ℕ → Bool) : Type 0 where
  goes : (next : ℕ) → is_entry s at ≡ true → EntryStepped (kind_at s at) (payload_at s at) place next → on next ≡ true
      → EntryGoes s at place on

-- an entry from which the form goes on
pub goes_on : (s : List ℕ) (at place : ℕ) (on : ℕ → Bool) → on_step (step_at s at place) on ≡ true
    → EntryGoes s at place on
goes_on s at place on h = go (is_entry s at) refl h
  where
    step : is_entry s at ≡ true → (r : TextStep) → entry_step (kind_at s at) (payload_at s at) place ≡ r
        → on_step r on ≡ true
        → EntryGoes s at place on
    step e (At next) q g = goes next e (stepped (kind_at s at) (payload_at s at) place next q) g
    step e Broken q g = clash g refl

    go : (b : Bool) → is_entry s at ≡ b
        → on_step (cond b (entry_step (kind_at s at) (payload_at s at) place) Broken) on ≡ true
        → EntryGoes s at place on
    go true e g = step e (entry_step (kind_at s at) (payload_at s at) place) refl g
    go false e g = clash g refl

-- the texts end where the stream does
pub form_end : (s : List ℕ) (base k n place : ℕ) → formed s base k n place ≡ true → base + place ≤ length s
unfolding formed
form_end s base k zero place h = omega (arith, eqb-true (base + place) (length s) h)
form_end s base k (suc n) place h =
    go (λ next. form_end s base (k + 1) n next) (goes_on s (4 + 12 * k) place (λ p. formed s base (k + 1) n p) h)
  where
    go : ((next : ℕ) → formed s base (k + 1) n next ≡ true → base + next ≤ length s)
        → EntryGoes s (4 + 12 * k) place (λ p. formed s base (k + 1) n p) → base + place ≤ length s
    go ends (goes next is g rest) = omega (arith, ends next rest, step_grows g)

-- ---- the whole

module _ (s : List ℕ) where
  -- a stream that is shorter than the entries that it counts is malformed: the texts end where it does
  pub too_many : length s < base_in s → false ≡ stream_ok s
  unfolding stream_ok
  too_many l = go (formed s (base_in s) 0 (count_in s) 0) refl
    where
      first : (b : Bool) → false ≡ (b && false)
      first true = refl
      first false = refl

      go : (b : Bool) → formed s (base_in s) 0 (count_in s) 0 ≡ b → false ≡ (leb (length s) most_bytes && b)
      go true e = absurd (let f = form_end s (base_in s) 0 (count_in s) 0 e in let z : ⊥ = omega arith in z)
      go false e = first (leb (length s) most_bytes)

  -- a stream of fewer than 4 bytes is malformed
  pub too_short : length s < 4 → false ≡ stream_ok s
  too_short l = too_many (omega arith)

  -- a stream of more than 2^31 bytes is malformed
  pub too_long : most_bytes < length s → false ≡ stream_ok s
  unfolding stream_ok
  too_long l = rw (lt-leb (length s) most_bytes l) refl

  -- a stream of at most 2^31 bytes is right where its entries and texts are
  pub all_ok : length s ≤ most_bytes → formed s (base_in s) 0 (count_in s) 0 ≡ stream_ok s
  unfolding stream_ok
  all_ok l = rw (le-leb (length s) most_bytes l) refl
