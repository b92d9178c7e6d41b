-- `values::text_value` meets its contract.
use mathlib.Core.Path.{◌∙◌, ap, sym}
use Rattle.types.specs.declared.tables.member.Ty.{Ty}
use Rattle.values.specs.inside.reading.Walk.{value_out}
use Rattle.values.specs.stream.Stream.{bodies}
use Rattle.values.proofs.reading.LeafLaws.{textless_atomics}
use Rattle.values.proofs.reading.ReadingLaws.{images, no_texts, value_atomic}
use Rattle.values.proofs.stream.TextCountLaws.{texts_as}
use Rattle.values.proofs.reading.read.text_value.Goals as goal

pub returns-then-not-texts : goal.returns-then-not-texts
returns-then-not-texts c = no_texts (c.requires.textless (c.if-not-texts.true))

pub text_structs-requires : goal.text_structs-requires
text_structs-requires c =
    let a = c.args in (
      c.requires.walkable.0,
      (
        images a.types.now a.ty a.n a.image.now c.in-Struct.is
            c.requires.walkable.1.1,
        c.requires.walkable.1.0,
      ),
    )

pub returns-in-Atomic : goal.returns-in-Atomic
returns-in-Atomic c =
    let a = c.args in
    no_texts (ap bodies (value_atomic a.types.now a.members.now a.n a.image.now a.ty
    c.in-Atomic.is) ∙ (textless_atomics _ a.n a.image.now).none)

pub returns-in-Struct : goal.returns-in-Struct
returns-in-Struct c =
    let a = c.args in
    texts_as (sym (ap (λ (t : Ty). value_out a.types.now a.members.now t a.n a.image.now)
    c.in-Struct.is)) c.text_structs.ensures
