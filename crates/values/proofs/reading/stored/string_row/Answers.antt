-- `values::string_row` meets its contract: 15 on each way out but the last.
use mathlib.Core.Path.{refl, sym, ◌∙◌}
use lib.ListN.{length}
use Rattle.values.proofs.reading.StoredLaws.{number_none, number_atomic, number_struct, no_string}
use Rattle.values.proofs.reading.stored.string_row.Goals as goal

pub returns-then-not-is_there : goal.returns-then-not-is_there
returns-then-not-is_there c =
    let a = c.args in
    (refl, λ image. sym (number_none a.types.now a.ty image (sym c.is_there.ensures ∙ c.if-not-is_there.true)))

pub returns-in_default : goal.returns-in_default
returns-in_default c =
    let a = c.args in
    let there = sym c.is_there.ensures ∙ c.if-not-is_there.false in
    (refl, λ image. sym (number_atomic a.types.now a.ty image there c.in_default.is))

pub returns-then-not-is_string : goal.returns-then-not-is_string
returns-then-not-is_string c =
    let a = c.args in
    let there = sym c.is_there.ensures ∙ c.if-not-is_there.false in
    let other = sym c.is_string.ensures ∙ c.if-not-is_string.true in (
      refl,
      λ image. sym (no_string a.types.now c.in-Struct.i (length image) c.type_row-d.ensures other
          ∙ number_struct a.types.now a.ty image there c.in-Struct.is),
    )
