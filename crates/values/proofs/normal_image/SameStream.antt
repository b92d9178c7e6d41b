-- The first half of demand 3 (document 01, "Normal image"), over byte images and byte streams, for tables whose members
-- share no bit: two images of a value whose streams have room give the same stream exactly when their normal images are
-- equal, and normalising again changes nothing.
use Prim.Native.Nat.{ℕ, ◌*◌, ◌≤◌}
use native.Mathlib.Omega.{arith}
use mathlib.Core.Path.{◌≡◌, refl, sym, ap, ap₂, ◌∙◌}
use mathlib.Core.Bool.{Bool, true, false}
use mathlib.Core.List.{List}
use mathlib.Core.Logic.{◌↔◌}
use lib.ListN.{length}
use Rattle.words.specs.Bits.{Bits, flat}
use Rattle.words.specs.Words.{Bytes}
use Rattle.types.specs.inside.tables.Lent.{TyFits}
use Rattle.types.specs.layout.Placing.{times}
use Rattle.types.specs.tables.Sizes.{size_in, sizes_in}
use Rattle.types.specs.declared.tables.member.Ty.{Ty}
use Rattle.values.specs.inside.normal_image.Placed.{Disjoint, TreePlaced}
use Rattle.values.specs.inside.reading.Walk.{value_out}
use Rattle.values.specs.inside.reading.Walkable.{ValueImage, Walkable}
use Rattle.values.specs.normal_image.Normal.{held, normal, normal_image}
use Rattle.values.specs.reading.Leaf.{chars}
use Rattle.values.specs.reading.Read.{stream_of, value_stream}
use Rattle.values.specs.reading.Tree.{Item, Tree, items, read}
use Rattle.values.specs.reading.Trees.{known_in, tree_of_value}
use Rattle.values.specs.stream.Decode.{tokens_in}
use Rattle.values.specs.stream.Form.{stream_ok}
use Rattle.values.specs.stream.Stream.{stream_bytes, most_bytes}
use Rattle.values.proofs.normal_image.CharLaws.{flat_chars, length_chars}
use Rattle.values.proofs.normal_image.DisjointLaws.{disjoint_value}
use Rattle.values.proofs.normal_image.ItemLaws.{HeldApart, AllGood, normal_unheld, same_normal, same_read}
use Rattle.values.proofs.normal_image.ItemLaws.{normal_twice}
use Rattle.values.proofs.normal_image.PlacedLaws.{tree_apart, tree_between, tree_good}
use Rattle.values.proofs.reading.Meaning.{meaning}
use Rattle.values.proofs.reading.ReadingLaws.{stream_is}
use Rattle.values.proofs.reading.SpanLaws.{tree_value_span}
use Rattle.values.proofs.stream.DecodeBack.{DecodedBack}
use Rattle.values.proofs.stream.SayLaws.{reading_back}

module _ {types members : List ℕ} (d : Disjoint types members) (t : Ty) (n : ℕ) (fits : TyFits t) where
  abbrev tree : Tree
  tree = tree_of_value (known_in types members) t n

  abbrev is : List Item
  is = items tree 0

  abbrev size : ℕ
  size = size_in (sizes_in types) t * times n

  walkable : Walkable types members
  walkable = d.walkable

  placed : TreePlaced tree
  placed = disjoint_value d t n fits

  apart : HeldApart is
  apart = tree_apart tree 0 placed

  good : AllGood is
  good = tree_good tree 0 placed

  image_is : (x : List ℕ) → normal_image tree x ≡ chars (length x) (normal is (flat x))
  unfolding normal_image
  image_is x = refl

  stream_read : (x : List ℕ) → value_stream types members t n x ≡ stream_bytes (read is (flat x))
  unfolding stream_of
  stream_read x = refl

  -- no bit past the image is held, so that none is in the normal image
  none_past : (x : Bits) (j : ℕ) → 8 * size ≤ j → normal is x j ≡ false
  none_past x j l = normal_unheld is x j (go (held is j) refl)
    where
      go : (b : Bool) → held is j ≡ b → b ≡ false
      go true e =
          absurd (let z : ⊥ = omega (
            arith,
            l,
            (tree_between tree 0 placed j e).1,
            tree_value_span types members walkable t n fits,
          ) in z)
      go false e = refl

  module _ (x : List ℕ) (v : ValueImage types t n x) (b : Bytes x) where
    entries_are : value_out types members t n x ≡ read is (flat x)
    entries_are = meaning types members walkable t n x v.fits v.long b

    -- the stream's form is good, and it says the entries
    module _ (room : length (value_stream types members t n x) ≤ most_bytes) where
      said : DecodedBack (value_out types members t n x)
      said =
          reading_back types members walkable t n x v.fits
          (rw (stream_is types members walkable t n x v b) at room)

      -- the form of a value's stream is good
      pub stream_ok_lem : stream_ok (value_stream types members t n x) ≡ true
      stream_ok_lem = ap stream_ok (stream_is types members walkable t n x v b) ∙ said.ok

      -- the entries that a value's stream says are the reading of its tree
      pub tokens_are : tokens_in (value_stream types members t n x) ≡ read is (flat x)
      tokens_are = ap tokens_in (stream_is types members walkable t n x v b) ∙ said.tokens ∙ entries_are

    -- the normal image's bits are the normal bits
    pub normal_bits : flat (normal_image tree x) ≡ normal is (flat x)
    unfolding normal_image
    normal_bits =
        flat_chars (length x) (normal is (flat x)) (λ j l. none_past (flat x) j (omega (arith, l, v.long)))

    pub normal_again : normal_image tree (normal_image tree x) ≡ normal_image tree x
    normal_again =
        let long : length (normal_image tree x) ≡ length x
        = ap length (image_is x) ∙ length_chars (length x) (normal is (flat x)) in
        let same : normal is (flat (normal_image tree x)) ≡ normal is (flat x)
        = ap (normal is) normal_bits ∙ normal_twice is apart good (flat x) in
        image_is (normal_image tree x) ∙ ap₂ chars long same ∙ sym (image_is x)

  -- the same stream exactly when the normal images are equal
  pub same_stream : (x y : List ℕ) → ValueImage types t n x → ValueImage types t n y → Bytes x → Bytes y
      → length (value_stream types members t n x) ≤ most_bytes → length (value_stream types members t n y) ≤ most_bytes
      → (value_stream types members t n x ≡ value_stream types members t n y)
      ↔ (normal_image tree x ≡ normal_image tree y)
  same_stream x y v w b c l m = (there, back)
    where
      long : length x ≡ length y
      long = v.long ∙ sym w.long

      there : value_stream types members t n x ≡ value_stream types members t n y
          → normal_image tree x ≡ normal_image tree y
      there e =
          let same : normal is (flat x) ≡ normal is (flat y)
          = same_normal is apart good (flat x) (flat y)
          (sym (tokens_are x v b l) ∙ ap tokens_in e ∙ tokens_are y w c m) in
          image_is x ∙ ap₂ chars long same ∙ sym (image_is y)

      back : normal_image tree x ≡ normal_image tree y
          → value_stream types members t n x ≡ value_stream types members t n y
      back e =
          let same : normal is (flat x) ≡ normal is (flat y)
          = sym (normal_bits x v b) ∙ ap flat e ∙ normal_bits y w c in
          stream_read x ∙ ap stream_bytes (same_read is apart good (flat x) (flat y) same) ∙ sym (stream_read y)
