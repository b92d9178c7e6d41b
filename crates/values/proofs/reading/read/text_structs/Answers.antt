-- `values::text_structs` meets its contract.
use mathlib.Core.Path.{sym}
use Rattle.values.proofs.reading.ReadingLaws.{image_one, image_some, value_one, value_some}
use Rattle.values.proofs.stream.TextCountLaws.{texts_as}
use Rattle.values.proofs.reading.read.text_structs.Goals as goal

pub text_struct-requires : goal.text_struct-requires
text_struct-requires c =
    let a = c.args in (
      c.requires.0,
      (
        image_one a.types.now a.i a.n a.image.now c.requires.1.0 c.if-n-eq0.true,
        c.requires.1.1,
      ),
    )

pub returns-then-n-eq0 : goal.returns-then-n-eq0
returns-then-n-eq0 c =
    let a = c.args in
    texts_as (sym (value_one a.types.now a.members.now a.n a.image.now a.i c.if-n-eq0.true))
    c.text_struct.ensures

pub text_elements-requires : goal.text_elements-requires
text_elements-requires c =
    let a = c.args in (
      c.requires.0,
      (
        image_some a.types.now a.i a.n a.image.now c.requires.1.0 c.if-n-eq0.false,
        c.requires.1.1,
      ),
    )

pub returns-else-n-eq0 : goal.returns-else-n-eq0
returns-else-n-eq0 c =
    let a = c.args in
    texts_as (sym (value_some a.types.now a.members.now a.n a.image.now a.i c.if-n-eq0.false))
    c.text_elements.ensures
