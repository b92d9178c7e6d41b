-- The reference case of normal images that document 01 marks P, by computation: the image 03 7F FE FF of Chan has the
-- normal image 03 00 FE FF. And a string whose LEN is too large, with bytes after its text.
use Rattle.std.specs.Prelude.{[], ◌∷◌, ◌≡◌, refl}
use Rattle.words.specs.Bits.{bit_of, flat, inside, val}
use Rattle.values.specs.cases.Reading.{chan_image, chan_tree}
use Rattle.values.specs.normal_image.Normal.{normal, normal_image}
use Rattle.values.specs.reading.Leaf.{chars, str}
use Rattle.values.specs.reading.Tree.{leaf, items}

pub chan_normal : normal_image chan_tree chan_image ≡ 0x03 ∷ 0x00 ∷ 0xFE ∷ 0xFF ∷ []
unfolding normal_image normal items chars flat bit_of inside val
chan_normal = refl

-- capacity 2: LEN FFFFFFFF becomes 2, and what stands after the text zero
pub long_normal : normal_image (leaf (str 2)) (0xFF ∷ 0xFF ∷ 0xFF ∷ 0xFF ∷ 65 ∷ 66 ∷ 67 ∷ 68 ∷ [])
    ≡ 2 ∷ 0 ∷ 0 ∷ 0 ∷ 65 ∷ 66 ∷ 0 ∷ 0 ∷ []
unfolding normal_image normal items chars flat bit_of inside val
long_normal = refl
