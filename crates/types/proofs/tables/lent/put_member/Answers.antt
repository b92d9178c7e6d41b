-- `types::put_member` meets its contract: eight words are the member's row.
use Rattle.std.proofs.Common.{◌≡◌, ◌*◌, ◌∙◌, arith, refl}
use Rattle.types.specs.tables.Lent.{member_row}
use Rattle.types.proofs.tables.lent.RowLaws.{row_put}
use Rattle.types.proofs.tables.lent.put_member.Goals as goal

pub returns : goal.returns
unfolding member_row
returns c =
    let a = c.args in
    let row : c.copy_from_slice.new.self ≡ member_row a.name a.m = c.copy_from_slice.ensures.after
    ∙ rw (c.ty_word.ensures, c.bit_word.ensures, c.flags_word.ensures, c.from.ensures) in
    rw row (row_put a.members.now (member_row a.name a.m) (8 * a.row) (omega arith) refl)
