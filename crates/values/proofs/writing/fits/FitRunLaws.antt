-- The check of runs of atomics (document 01, "Writing"): entries that are taken one by one, up to the close, and what
-- is left of the array after each of them.
use Rattle.std.specs.Prelude.{Option, None, Some, Result, Ok, Err}
use Prim.Native.Nat.{ℕ, suc, ◌+◌, ◌-◌, ◌*◌, ◌^◌, ◌<◌, ◌≤◌, min}
use native.Mathlib.Nat.{add-zero, mul-suc, mul-zero}
use native.Mathlib.Omega.{arith}
use mathlib.Core.Path.{◌≡◌, refl, sym, ap, ◌∙◌, subst}
use mathlib.Core.Bool.{true}
use mathlib.Core.List.{List}
use borrow.Author.Tests.{eq-eqb, ne_eqb}
use Rattle.words.specs.Bits.{Bits}
use Rattle.words.specs.Words.{Bytes, word_at}
use Rattle.words.proofs.WordLaws.{word_below}
use Rattle.types.specs.declared.atomics.atomic.Atomic.{Atomic}
use Rattle.types.specs.refusals.Refusal.{number_of, place_of}
use Rattle.types.specs.declared.refusals.refusal.Refusal.{Refusal}
use Rattle.types.specs.declared.refusals.refusal.Refusal.TheVariants.{EntryMisfit, PastLastPlace}
use Rattle.values.specs.inside.writing.Effects.{Judged, set, atomic_takes, number_in}
use Rattle.values.specs.inside.writing.Limits.{limits_of, misfit}
use Rattle.values.specs.inside.writing.Passes.{CheckedFrom, WellFormed, first_kind, left_at}
use Rattle.values.specs.reading.Leaf.{flag}
use Rattle.values.specs.stream.Form.{count_in, stream_ok}
use Rattle.values.specs.stream.Stream.{Token, kind_of}
use Rattle.values.specs.writing.Effects.{Effect, of_kind, or_null, payload_bits, refuse, taken}
use Rattle.values.specs.writing.Writing.{Outcome, elements, write_one}
use Rattle.values.specs.declared.writing.limits.Limits.{Limits}
use Rattle.values.specs.declared.writing.limits.Misfit.{Misfit}
use Rattle.values.specs.declared.writing.limits.Misfit.TheVariants.{Kind}
use Rattle.values.proofs.stream.LeftLaws.{EntryThere, few_entries, kind_there, there}
use Rattle.values.proofs.writing.FitLaws.{above_misfits, atomic_judged}
use Rattle.values.proofs.writing.StepLaws.{Onward, onward_start, onward_on, onward_then, refused_then}
use Rattle.values.proofs.writing.StepLaws.{judged_refused, one_judged, one_refused, elements_missing, elements_closes}
use Rattle.values.proofs.writing.StepLaws.{elements_refuse, elements_go}

-- ---- entries of a stream of n

module _ {s : List ℕ} {n : ℕ} (told : WellFormed s n) where
  -- a stream has fewer than 2^28 entries
  pub few : n < 2 ^ 28
  few = omega (arith, few_entries s told.form, told.count)

  entry_of : {q : ℕ} → q < n → EntryThere s q
  entry_of {q} l = there s q told.form (omega (arith, told.count))

  -- the stream's form is good, and an entry whose number is below n is one of its entries
  pub asked : {q : ℕ} → q < n → (stream_ok s ≡ true) × (q < count_in s)
  asked {q} l = (told.form, omega (arith, told.count))

-- ---- after the last place

-- only the close fits there; where no entry is left it does not matter whether a place is
abbrev pub AtEnd : List ℕ → ℕ → ℕ → Result ℕ Refusal → Type 0
AtEnd s n k r =
    (m : ℕ) (one : ℕ → List Token → Bits → Outcome) (w p : ℕ) → (k < n → m ≡ 0)
    → CheckedFrom s k r (elements m one w p (left_at s k))

module _ {s : List ℕ} {n k : ℕ} (told : WellFormed s n) where
  -- the way out with 18: no entry is left
  pub end_missing : k ≤ n → n ≤ k → AtEnd s n k (Err (EntryMisfit k))
  end_missing a b m one w p h = elements_missing told.form one w m p (omega (arith, told.count))

  -- the way out at the close: the next entry is answered
  pub end_closes : {kind : ℕ} → kind ≡ first_kind (left_at s k) → kind ≡ 11 → AtEnd s n k (Ok (k + 1))
  end_closes is e m one w p h = elements_closes told.form one w m p (sym is ∙ e)

  -- the way out with 20: an entry that is no close past the last place
  pub end_full : {kind : ℕ} → k < n → kind ≡ first_kind (left_at s k) → (kind ≡ 11 → ⊥)
      → AtEnd s n k (Err (PastLastPlace k))
  end_full l is a m one w p h =
      rw (h l) (elements_refuse told.form one w p (entry_of told l) (λ g. a (is ∙ g)))

-- ---- entries that were taken

-- those from k up to q; what is left of an array of `count`, for every place and width
pub record Walked (s : List ℕ) (takes : Token → Effect) (count k q : ℕ) : Type 0 where
  pub further : k ≤ q
  pub inside : q ≤ count_in s
  pub left : (w p : ℕ)
      → Onward s k (elements count (write_one takes w) w p (left_at s k)) q
      (elements (k + count - q) (write_one takes w) w (p + w * (q - k)) (left_at s q))

-- what an answer says of the whole array
abbrev pub Answers : List ℕ → (Token → Effect) → ℕ → ℕ → Result ℕ Refusal → Type 0
Answers s takes count k r = (w p : ℕ) → CheckedFrom s k r (elements count (write_one takes w) w p (left_at s k))

-- at the first entry none is taken yet
pub walked_start : {s : List ℕ} {n k : ℕ} (takes : Token → Effect) (count : ℕ) → WellFormed s n → k ≤ n
    → Walked s takes count k k
walked_start {s} {n} {k} takes count told l =
    let inside : k ≤ count_in s = omega (arith, told.count) in
    let all : k + count - k ≡ count = omega arith in
    let none : k - k ≡ 0 = omega arith in
    record {
      further = omega arith;
      inside = inside;
      left = λ w p. rw (all, none, mul-zero w, add-zero p) (onward_start inside);
    }

-- after the last entry that an array can have, the answer at its end is that of the whole array
pub walked_done : {s : List ℕ} {takes : Token → Effect} {n count k last q : ℕ} {r : Result ℕ Refusal}
    → Walked s takes count k q → last ≡ min n (k + count) → q ≡ last → AtEnd s n last r
    → Answers s takes count k r
walked_done {s} {takes} {n} {count} {k} {last} {q} {r} walked e l end w p =
    (walked.left w p).onward r
    (subst (λ (m : ℕ). AtEnd s n m r) (sym l) end (k + count - q) (write_one takes w) w (p + w * (q - k))
    (λ h. omega (arith, e, l, h)))

-- an entry before the last
pub record NextFits (s : List ℕ) (takes : Token → Effect) (n count k last q kind : ℕ) : Type 0 where
  pub told : WellFormed s n
  pub walked : Walked s takes count k q
  pub ends : last ≡ min n (k + count)
  pub before : q < last
  pub shows : kind ≡ first_kind (left_at s q)

module _ {s : List ℕ} {takes : Token → Effect} {n count k last q kind : ℕ}
    (e : NextFits s takes n count k last q kind) where
  next_there : EntryThere s q
  next_there = entry_of e.told (omega (arith, e.ends, e.before))

  -- the number of the next entry is below 2^28
  pub next_low : q < 2 ^ 28
  next_low = omega (arith, few e.told, e.ends, e.before)

  next_kind : kind_of next_there.token ≡ kind
  next_kind = sym (kind_there next_there) ∙ sym e.shows

  -- a close before the last place ends the array: the next entry is answered
  pub next_closes : kind ≡ 11 → Answers s takes count k (Ok (q + 1))
  next_closes h w p =
      (e.walked.left w p).onward (Ok (q + 1))
      (elements_closes e.told.form (write_one takes w) w (k + count - q) (p + w * (q - k)) (sym e.shows ∙ h))

  one_less : k + count - q ≡ suc (k + count - (q + 1))
  one_less = omega (arith, e.ends, e.before)

  next_refused : {why : Refusal} → (kind ≡ 11 → ⊥) → takes next_there.token ≡ refuse (number_of why)
      → place_of why ≡ q → Answers s takes count k (Err why)
  next_refused {why} a j is w p =
      let place : ℕ = p + w * (q - k) in
      (e.walked.left w p).onward (Err why)
      (rw one_less
      (refused_then (elements (k + count - (q + 1)) (write_one takes w) w (place + w))
      (elements_go e.told.form (write_one takes w) w (k + count - (q + 1)) place next_there (λ g. a (e.shows ∙ g)))
      (one_refused e.told.form takes w place next_there j is)))

  next_on : (kind ≡ 11 → ⊥) → Judged (takes next_there.token) None → Walked s takes count k (q + 1)
  next_on a j =
      let inside : q + 1 ≤ count_in s = omega (arith, e.told.count, e.ends, e.before) in
      record {
        further = omega (arith, e.walked.further);
        inside = inside;
        left = λ w p.
            let place : ℕ = p + w * (q - k) in
            let one_more : q + 1 - k ≡ suc (q - k) = omega (arith, e.walked.further) in
            let further : p + w * (q + 1 - k) ≡ place + w = rw (one_more, mul-suc w (q - k)) (omega arith) in
            onward_on (e.walked.left w p)
            (rw (one_less, further)
            (onward_then (elements (k + count - (q + 1)) (write_one takes w) w (place + w))
            (elements_go e.told.form (write_one takes w) w (k + count - (q + 1)) place next_there
            (λ g. a (e.shows ∙ g)))
            (one_judged e.told.form takes w place next_there j).says));
      }

-- ---- bools, by their kind

flag_taken : (t : Token) → kind_of t ≡ 1 → Judged (taken flag t) None
flag_taken t e = set refl (payload_bits t) (unfold of_kind in rw (eq-eqb (kind_of t) 1 e) refl)

flag_refused : (t : Token) → (kind_of t ≡ 1 → ⊥) → taken flag t ≡ refuse 18
unfolding of_kind
flag_refused t e = rw (ne_eqb (kind_of t) 1 e) refl

module _ {s : List ℕ} {n count k last q kind : ℕ} (e : NextFits s (taken flag) n count k last q kind) where
  -- a bool is taken, and the rest is left from the next entry on
  pub bool_on : kind ≡ 1 → Walked s (taken flag) count k (q + 1)
  bool_on h =
      next_on e (λ g. let z : ⊥ = omega (arith, g, h) in z) (flag_taken (next_there e).token (next_kind e ∙ h))

  -- the way out with 18: neither a bool nor the close
  pub bool_refused : (kind ≡ 1 → ⊥) → (kind ≡ 11 → ⊥) → Answers s (taken flag) count k (Err (EntryMisfit q))
  bool_refused a b =
      next_refused e b (flag_refused (next_there e).token (λ g. a (sym (next_kind e) ∙ g))) refl

-- ---- numbers, by the limits

-- an entry and what the limits say of it
pub record Judging (s : List ℕ) (a : Atomic) (f : Limits) (q kind x : ℕ) (r : Option Misfit) : Type 0 where
  pub bytes : Bytes s
  pub limits : f ≡ limits_of a
  pub payload : x ≡ word_at 8 s (8 + 12 * q)
  pub judges : r ≡ misfit f kind x

module _ {s : List ℕ} {a : Atomic} {f : Limits} {n count k last q kind x : ℕ} {r : Option Misfit}
    (e : NextFits s (or_null (atomic_takes a)) n count k last q kind) (j : Judging s a f q kind x r) where
  by_limits : r ≡ misfit (limits_of a) kind x
  by_limits = j.judges ∙ ap (λ (g : Limits). misfit g kind x) j.limits

  judged : Judged (or_null (atomic_takes a) (next_there e).token) r
  judged =
      let low : x < 2 ^ 64 = rw j.payload (word_below 8 s (8 + 12 * q) j.bytes) in
      rw (by_limits ∙ ap (λ (m : ℕ). misfit (limits_of a) m x) (sym (next_kind e)))
      (atomic_judged a (next_there e).token x low (λ h. (next_there e).payload h ∙ sym j.payload))

  -- an entry that the limits let in is taken, and the rest is left from the next entry on
  pub number_on : r ≡ None → Walked s (or_null (atomic_takes a)) count k (q + 1)
  number_on z =
      next_on e
      (λ g. let h : r ≡ Some Kind = by_limits ∙ above_misfits a kind x (omega (arith, g)) in
      let w : ⊥ = cc in w)
      (subst (λ (m : Option Misfit). Judged (or_null (atomic_takes a) (next_there e).token) m) z judged)

  -- the way out with the refusal that the limits say of an entry that is no close
  pub number_refused : {m : Misfit} {why : Refusal} → r ≡ Some m → (kind ≡ 11 → ⊥) → number_of why ≡ number_in m
      → place_of why ≡ q → Answers s (or_null (atomic_takes a)) count k (Err why)
  number_refused o b same is = next_refused e b (judged_refused judged o ∙ ap refuse (sym same)) is
