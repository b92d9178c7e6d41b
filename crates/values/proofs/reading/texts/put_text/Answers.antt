-- `values::put_text` meets its contract: the entry with place and length, and the text's part of the image copied.
use native.Mathlib.Omega.{arith}
use mathlib.Core.Path.{ap}
use lib.ListN.{length}
use Rattle.values.proofs.reading.texts.TextLaws.{text_long, text_part, text_room, text_wrote}
use Rattle.values.proofs.reading.texts.put_text.Goals as goal

pub copy-requires : goal.copy-requires
copy-requires c =
    let a = c.args in
    let inside = c.requires.0 in
    let n = c.text_length-n in
    omega (
      arith,
      text_room a.capacity a.image.now inside c.requires.1,
      ap length (text_part a.capacity a.image.now inside n.result n.ensures),
      text_long a.capacity a.image.now inside,
      c.put_entry.auto.out,
    )

pub returns : goal.returns
returns c =
    let a = c.args in
    text_wrote a.capacity a.image.now c.requires.0 c.text_length-n.ensures
    c.put_entry.ensures c.copy.ensures
