-- The second half of demand 3 (document 01, "Writing", "Normal image"), over byte images and byte streams, for tables
-- whose members share no bit: the stream of an image of a value, written over any image of that value, is accepted,
-- sets every bit that the value holds to the normal image's, and keeps every other bit.
use Prim.Native.Nat.{ℕ, ◌*◌, ◌<◌, ◌≤◌}
use mathlib.Core.Path.{◌≡◌, refl, sym, ap, ◌∙◌}
use mathlib.Core.Bool.{true, cond}
use mathlib.Core.List.{List, [], append-nil}
use lib.ListN.{length}
use borrow.Author.Tests.{eq-eqb}
use Rattle.words.specs.Bits.{Bits, flat}
use Rattle.words.specs.Words.{Bytes}
use Rattle.types.specs.layout.Placing.{times}
use Rattle.types.specs.refusals.Said.{done}
use Rattle.types.specs.tables.Sizes.{size_in, sizes_in}
use Rattle.types.specs.tables.There.{is_there}
use Rattle.types.specs.declared.tables.member.Ty.{Ty}
use Rattle.values.specs.inside.normal_image.Placed.{Disjoint, TreePlaced}
use Rattle.values.specs.inside.reading.Walkable.{ValueImage}
use Rattle.values.specs.normal_image.Normal.{held, normal_image}
use Rattle.values.specs.reading.Leaf.{chars}
use Rattle.values.specs.reading.Read.{value_stream}
use Rattle.values.specs.reading.Tree.{Item, Tree, items, read}
use Rattle.values.specs.reading.Trees.{known_in, tree_of_value}
use Rattle.values.specs.stream.Form.{count_in}
use Rattle.values.specs.stream.Stream.{Token, most_bytes}
use Rattle.values.specs.writing.Writing.{Outcome, ok, ended, write, written}
use Rattle.values.specs.writing.Written.{WriteResult, taking, value_written, write_result}
use Rattle.values.proofs.normal_image.CharLaws.{length_chars}
use Rattle.values.proofs.normal_image.DisjointLaws.{disjoint_value}
use Rattle.values.proofs.normal_image.OverLaws.{over, over_bit}
use Rattle.values.proofs.normal_image.PlacedLaws.{tree_apart}
use Rattle.values.proofs.normal_image.SameStream.{stream_ok_lem, tokens_are, normal_bits}
use Rattle.values.proofs.normal_image.WriteBack.{tree_back}
use Rattle.values.proofs.writing.WrittenHeld.{bytes_bit}

-- what a write of the stream of x over z answers and leaves
pub record WrittenBack (tree : Tree) (x z : List ℕ) (r : WriteResult) : Type 0 where
  pub accepted : r.answer ≡ done tt
  pub long : length r.image ≡ length z
  pub bits : (k : ℕ) → k < 8 * length z
      → flat r.image k ≡ cond (held (items tree 0) k) (flat (normal_image tree x) k) (flat z k)

-- of a tree whose branches share no bit
whole_back : (tree : Tree) (x z : Bits) → TreePlaced tree
    → written tree (read (items tree 0) x) z ≡ ok [] (over (items tree 0) x z)
unfolding written
whole_back tree x z a =
    ap ended (ap (λ (ts : List Token). write tree 0 ts z) (sym (append-nil (read (items tree 0) x)))
    ∙ tree_back tree 0 x a z [])

module _ {types members : List ℕ} (d : Disjoint types members) (t : Ty) (n : ℕ)
    (there : is_there types t ≡ true) (x z : List ℕ) (v : ValueImage types t n x) (u : ValueImage types t n z)
    (b : Bytes x) (room : length (value_stream types members t n x) ≤ most_bytes) where
  abbrev tree : Tree
  tree = tree_of_value (known_in types members) t n

  abbrev is : List Item
  is = items tree 0

  abbrev stream : List ℕ
  stream = value_stream types members t n x

  placed : TreePlaced tree
  placed = disjoint_value d t n v.fits

  outcome : value_written types members t n stream z ≡ ok [] (over is (flat x) (flat z))
  unfolding value_written
  outcome =
      ap (λ (ts : List Token). written tree ts (flat z)) (tokens_are d t n v.fits x v b room)
      ∙ whole_back tree (flat x) (flat z) placed

  result : write_result types members t n stream z ≡ taking (count_in stream) (ok [] (over is (flat x) (flat z))) z
  unfolding write_result
  result =
      rw (
        there,
        eq-eqb (length z) (size_in (sizes_in types) t * times n) u.long,
        stream_ok_lem d t n v.fits x v b room,
      )
      (ap (λ (w : Outcome). taking (count_in stream) w z) outcome)

  left_bit : (k : ℕ) → k < 8 * length z
      → flat (chars (length z) (over is (flat x) (flat z))) k
      ≡ cond (held is k) (flat (normal_image tree x) k) (flat z k)
  left_bit k l =
      bytes_bit (length z) (over is (flat x) (flat z)) k l
      ∙ over_bit is (flat x) (flat z) (tree_apart tree 0 placed) k
      ∙ ap (λ (y : Bits). cond (held is k) (y k) (flat z k)) (sym (normal_bits d t n v.fits x v b))

  pub written_back : WrittenBack tree x z (write_result types members t n stream z)
  written_back =
      let long = length_chars (length z) (over is (flat x) (flat z)) in
      rw result (record { accepted = refl; long = long; bits = left_bit })
