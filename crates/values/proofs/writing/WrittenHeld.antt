-- A write changes only held bits (document 01, "Normal image": the bits that a value holds), over byte images and byte
-- streams: whatever the call answers, every bit that its value does not hold stands as it stood.
use Prim.Native.Nat.{ℕ, ◌*◌, ◌<◌}
use mathlib.Core.Path.{◌≡◌, refl, ap, ◌∙◌}
use mathlib.Core.Bool.{Bool, true, false, cond, ◌&&◌}
use mathlib.Core.List.{List, [], ◌∷◌}
use lib.ListN.{length}
use borrow.Author.Tests.{lt-ltb}
use Rattle.words.specs.Bits.{Bits, flat}
use Rattle.types.specs.tables.There.{is_there}
use Rattle.types.specs.declared.tables.member.Ty.{Ty}
use Rattle.values.specs.normal_image.Normal.{held}
use Rattle.values.specs.reading.Leaf.{chars}
use Rattle.values.specs.reading.Read.{image_fits}
use Rattle.values.specs.reading.Tree.{Tree, items}
use Rattle.values.specs.reading.Trees.{known_in, tree_of_value}
use Rattle.values.specs.stream.Decode.{tokens_in}
use Rattle.values.specs.stream.Form.{count_in, stream_ok}
use Rattle.values.specs.writing.Writing.{Outcome, ok, bad, ended, write, written}
use Rattle.values.specs.writing.Written.{bytes_after, refusing, taking, value_written, write_result}
use Rattle.values.proofs.normal_image.PutBack.{flat_clip}
use Rattle.values.proofs.writing.OnlyHeld.{only_held}

-- bit k of n bytes made of some bits is the k-th of them
pub bytes_bit : (n : ℕ) (b : Bits) (k : ℕ) → k < 8 * n → flat (chars n b) k ≡ b k
bytes_bit n b k l = flat_clip n b k ∙ ap (◌&& b k) (lt-ltb k (8 * n) l)

module _ (types members : List ℕ) (t : Ty) (n : ℕ) (s image : List ℕ) (k : ℕ) (l : k < 8 * length image) where
  abbrev tree : Tree
  tree = tree_of_value (known_in types members) t n

  abbrev outcome : Outcome
  outcome = write tree 0 (tokens_in s) (flat image)

  module _ (h : held (items tree 0) k ≡ false) where
    after_kept : flat (bytes_after (ended outcome) image) k ≡ flat image k
    after_kept = go outcome refl
      where
        go : (o : Outcome) → outcome ≡ o → flat (bytes_after (ended o) image) k ≡ flat image k
        go (bad number ts) e = refl
        go (ok (u ∷ us) z) e = refl
        go (ok [] z) e =
            bytes_bit (length image) z k l ∙ only_held tree 0 (tokens_in s) [] (flat image) z e k h

    pub write_only_held : flat (write_result types members t n s image).image k ≡ flat image k
    unfolding write_result value_written written
    write_only_held = go (is_there types t) (image_fits types t n image) (stream_ok s)
      where
        go : (a b c : Bool) → flat (cond a (cond b (cond c (taking (count_in s) (ended outcome) image)
            (refusing 17 image)) (refusing 14 image)) (refusing 15 image)).image k
            ≡ flat image k
        go true true true = after_kept
        go true true false = refl
        go true false c = refl
        go false b c = refl
