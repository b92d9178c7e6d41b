-- `types::put_type` meets its contract: eight words are the structure's row.
use Rattle.std.proofs.Common.{◌≡◌, ◌*◌, ◌∙◌, arith, refl}
use Rattle.types.specs.tables.Lent.{type_row}
use Rattle.types.proofs.tables.lent.RowLaws.{row_put}
use Rattle.types.proofs.tables.lent.put_type.Goals as goal

pub returns : goal.returns
unfolding type_row
returns c =
    let a = c.args in
    let row : c.copy_from_slice.new.self ≡ type_row a.d = c.copy_from_slice.ensures.after
    ∙ rw (c.from.ensures, c.from-2.ensures, c.kind_word.ensures) in
    rw row (row_put a.types.now (type_row a.d) (8 * a.i) (omega arith) refl)
