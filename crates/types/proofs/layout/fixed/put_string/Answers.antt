-- `types::put_string` meets its contract: LEN's part and then DATA's.
use Rattle.types.proofs.layout.fixed.FixedLaws.{string_rows, string_names}
use Rattle.types.proofs.layout.fixed.put_string.Goals as goal

pub returns : goal.returns
returns c =
    record {
      rows = rw (c.put_part-2.ensures.rows, c.put_part.ensures.rows, c.data_of.ensures, c.dint_at.ensures)
          (string_rows c.args.members.now c.args.row c.args.place c.args.capacity);
      names = rw (c.put_part-2.ensures.names, c.put_part.ensures.names, c.data_of.ensures, c.dint_at.ensures)
          (string_names c.args.names.now c.args.place c.args.capacity);
    }
