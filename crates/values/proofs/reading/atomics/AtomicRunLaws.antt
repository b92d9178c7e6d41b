-- Atomics and arrays of them (document 01, "Reading"): bit strings give their bits, one other atomic its own entry, an
-- array an entry for each between its brackets.
use Prim.Native.Nat.{ℕ, ◌+◌, ◌*◌}
use native.Mathlib.Omega.{arith}
use mathlib.Core.Path.{◌≡◌, refl, sym, ap, ◌∙◌}
use mathlib.Core.Bool.{true, false}
use mathlib.Core.List.{List, []}
use borrow.Author.Tests.{eq-eqb, ne_eqb}
use lib.ListN.{length, take, drop}
use lib.Seq.{sets, take_all}
use Rattle.words.specs.Bits.{flat}
use Rattle.words.specs.Words.{part}
use Rattle.types.specs.atomics.Atomic.{bit_string, size_of}
use Rattle.types.specs.layout.Placing.{times}
use Rattle.types.specs.declared.atomics.atomic.Atomic.{Atomic}
use Rattle.types.proofs.Face.{times_one, times_same}
use Rattle.values.specs.inside.reading.Walk.{up_to, bits_out, number_out, element_out, numbers_out, atomics_out}
use Rattle.values.specs.inside.stream.Laying.{EntriesPut}
use Rattle.values.specs.stream.Stream.{bodies, entry_bytes}
use Rattle.values.proofs.reading.LeafLaws.{textless_emit}
use Rattle.values.proofs.reading.UpLaws.{up_ones, up_bodies, wrap_length}
use Rattle.values.proofs.stream.PutLaws.{put_wrap}

module _ (a : Atomic) (n : ℕ) (s : List ℕ) where
  elements_plain : bodies (up_to (element_out a s) n) ≡ []
  elements_plain =
      up_bodies (element_out a s) (λ k. (textless_emit a (flat (part s (size_of a * k) (size_of a)))).none) n

  -- n elements have n entries
  pub elements_long : length (up_to (element_out a s) n) ≡ n
  elements_long = up_ones (element_out a s) n (λ k. refl)

  -- an array of n numbers has n entries and two brackets
  pub numbers_long : length (numbers_out a n s) ≡ n + 2
  unfolding numbers_out
  numbers_long = wrap_length 10 11 (up_to (element_out a s) n) ∙ omega (arith, elements_long)

  -- the open bracket, the elements and the close bracket are put: the array
  pub numbers_put : {out first new last : List ℕ} {at p : ℕ} → first ≡ sets out at (entry_bytes 10 0)
      → EntriesPut first (at + 12) (up_to (element_out a s) n) new p → last ≡ sets new p (entry_bytes 11 0)
      → EntriesPut out at (numbers_out a n s) last (p + 12)
  unfolding numbers_out
  numbers_put d v e = put_wrap 10 11 elements_plain d v e

  -- a bit string, or an array of them, gives all its bits between brackets
  pub atomics_bits : bit_string a ≡ true → length s ≡ size_of a * times n
      → bits_out s (8 * length s) ≡ atomics_out a n s
  unfolding atomics_out
  atomics_bits b e = rw (b, e)

  -- with a count of 0 there are as many bytes as one atomic has
  pub one_long : n ≡ 0 → length s ≡ size_of a * times n → length s ≡ size_of a
  one_long h e =
      let f : size_of a * times n ≡ size_of a * 1 = ap (λ (k : ℕ). size_of a * k) (sym (times_one n h)) in
      omega arith

  -- no bit string, and a count of 0: the first element is the whole value
  pub atomics_one : bit_string a ≡ false → n ≡ 0 → length s ≡ size_of a * times n
      → up_to (element_out a s) 1 ≡ atomics_out a n s
  unfolding atomics_out up_to part
  atomics_one b h e =
      let z : size_of a * 0 ≡ 0 = omega arith in
      let w : take (size_of a) (drop (size_of a * 0) s) ≡ s =
      ap (λ (k : ℕ). take (size_of a) (drop k s)) z ∙ take_all (size_of a) s (omega (arith, one_long h e)) in
      rw (b, eq-eqb n 0 h) (ap (number_out a) w)

  -- no bit string, and any other count: the value is the array
  pub atomics_array : bit_string a ≡ false → (n ≡ 0 → ⊥) → numbers_out a n s ≡ atomics_out a n s
  unfolding atomics_out
  atomics_array b h = rw (b, ne_eqb n 0 h)

  -- with any other count there are so many times the bytes of one atomic
  pub array_long : (n ≡ 0 → ⊥) → length s ≡ size_of a * times n → length s ≡ size_of a * n
  array_long h e = e ∙ ap (λ (k : ℕ). size_of a * k) (sym (times_same n h))
