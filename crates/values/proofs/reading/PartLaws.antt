-- Parts of an image (document 01, "Reading"): an element of an array of structures, and the structure or the structures
-- in a row, each with the bytes that its type asks, as the code lends them by start and end.
use Prim.Native.Nat.{ℕ, ◌+◌, ◌-◌, ◌*◌, ◌<◌, ◌≤◌}
use native.Mathlib.Nat.{mul-le-mul_left, mul-one, mul-suc}
use native.Mathlib.Omega.{arith}
use borrow.Author.Tests.{eq-eqb, ne_eqb}
use mathlib.Core.Path.{◌≡◌, sym, ap, ◌∙◌, subst}
use mathlib.Core.List.{List, ◌∷◌}
use lib.ListN.{length, take, drop}
use Rattle.words.specs.Words.{part}
use Rattle.words.proofs.Lists.{lent_part, lent_long}
use Rattle.types.specs.layout.Placing.{times}
use Rattle.types.specs.tables.Lent.{member_at}
use Rattle.types.specs.tables.Limits.{most_types}
use Rattle.types.specs.tables.Sizes.{sizes_in}
use Rattle.types.proofs.Face.{times_one, times_same}
use Rattle.values.specs.inside.reading.Walk.{element_by, elements_by, structs_by, member_by}
use Rattle.values.specs.inside.reading.Walkable.{HeldIn, NestedRow, ImageOf, ImagesOf}
use Rattle.values.specs.stream.Stream.{Token, member}
use Rattle.values.specs.declared.reading.rows.Nested.{Nested}
use Rattle.values.proofs.reading.MemberLaws.{held_low, held_within, member_nested}

-- the bytes from a start to an end
abbrev pub lent : List ℕ → ℕ → ℕ → List ℕ
lent s start stop = take (stop - start) (drop start s)

-- ---- an element of an array

module _ {types image : List ℕ} {i n size : ℕ} (w : ImagesOf types i n image) (e : size ≡ sizes_in types i) where
  -- the code's product is the whole
  all_long : size * n ≡ length image
  all_long = ap (◌* n) e ∙ sym w.long

  -- each element of an array of structures lies in the image
  pub element_fits : (k : ℕ) → k < n → size * k + size ≤ length image
  element_fits k l =
      let h : size * k + size ≤ size * n = subst (◌≤ size * n) (mul-suc size k) (mul-le-mul_left size l) in
      omega (arith, all_long)

  -- the bytes of an element are an image of its structure
  pub element_image : (k : ℕ) → k < n → ImageOf types i (lent image (size * k) (size * k + size))
  element_image k l = record { low = w.low; long = lent_long image (size * k) size (element_fits k l) ∙ e }

  -- what the bytes of an element give is what the walk gives for that element
  pub element_is : (members : List ℕ) (rec : ℕ → List ℕ → List Token) (k : ℕ)
      → rec i (lent image (size * k) (size * k + size)) ≡ element_by types members rec i image k
  element_is members rec k =
      ap (rec i) (lent_part image (size * k) size ∙ ap (λ (z : ℕ). part image (z * k) z) e)

-- ---- a structure, or an array of structures, in a row

-- a row of structure i, read: it holds a structure, or so many of it, each of a size
pub record HeldRow (types members : List ℕ) (i row : ℕ) (image : List ℕ) (r : Nested) (size : ℕ) : Type 0 where
  pub nested : NestedRow types members i row
  pub whole : ImageOf types i image
  pub held : HeldIn (member_at members row) r
  pub long : size ≡ sizes_in types r.structure

module _ {types members : List ℕ} {i row : ℕ} {image : List ℕ} {r : Nested} {size : ℕ}
    (w : HeldRow types members i row image r size) where
  low : r.structure < most_types
  low = held_low w.nested w.held

  -- it lies inside the image
  held_fits : r.start + size * times r.count ≤ length image
  held_fits = rw (w.long, w.whole.long) (held_within w.nested w.held)

  held_is : (rec : ℕ → List ℕ → List Token) (j : ℕ) → member_by types members rec j (member_at members row) image
      ≡ member j
      ∷ structs_by types members rec r.structure r.count (part image r.start (size * times r.count))
  held_is rec j =
      member_nested types members rec j (member_at members row) image r.structure w.nested.nested
      w.held.struct ∙ rw (w.held.at, w.held.count, w.long)

  module _ (none : r.count ≡ 0) where
    one : size * times r.count ≡ size
    one = ap (size *◌) (sym (times_one r.count none)) ∙ mul-one size

    -- one structure in a row: its bytes lie in the image
    pub one_fits : r.start + size ≤ length image
    one_fits = omega (arith, one, held_fits)

    -- one structure in a row: its bytes are an image of it
    pub one_image : ImageOf types r.structure (lent image r.start (r.start + size))
    one_image = record { low = low; long = lent_long image r.start size one_fits ∙ w.long }

    -- one structure in a row: the number and what its bytes give are what the member gives
    pub one_is : (rec : ℕ → List ℕ → List Token) (j : ℕ)
        → member j ∷ rec r.structure (lent image r.start (r.start + size))
        ≡ member_by types members rec j (member_at members row) image
    unfolding structs_by
    one_is rec j = sym (held_is rec j ∙ rw (eq-eqb r.count 0 none, one, lent_part image r.start size))

  module _ (some : r.count ≡ 0 → ⊥) where
    all : size * times r.count ≡ size * r.count
    all = ap (size *◌) (sym (times_same r.count some))

    -- an array of structures in a row: its bytes lie in the image
    pub some_fits : r.start + size * r.count ≤ length image
    some_fits = omega (arith, all, held_fits)

    -- an array of structures in a row: its bytes are an image of so many of them
    pub some_images : ImagesOf types r.structure r.count (lent image r.start (r.start + size * r.count))
    some_images =
        record {
          low = low;
          long = lent_long image r.start (size * r.count) some_fits ∙ ap (◌* r.count) w.long;
        }

    -- an array of structures in a row: the number and its elements are what the member gives
    pub some_is : (rec : ℕ → List ℕ → List Token) (j : ℕ)
        → member j ∷ elements_by types members rec r.structure r.count
        (lent image r.start (r.start + size * r.count))
        ≡ member_by types members rec j (member_at members row) image
    unfolding structs_by
    some_is rec j =
        sym (held_is rec j ∙ rw (ne_eqb r.count 0 some, all, lent_part image r.start (size * r.count)))
