-- `types::put_control` meets its contract: the hidden word's part, the two words', and those of the status bits.
use Rattle.types.proofs.layout.fixed.FixedLaws.{control_rows, control_names}
use Rattle.types.proofs.layout.fixed.put_control.Goals as goal

pub returns : goal.returns
returns c =
    record {
      rows = rw (
        c.put_bits.ensures.rows,
        c.put_part-3.ensures.rows,
        c.put_part-2.ensures.rows,
        c.put_part.ensures.rows,
        c.dint_at-2.ensures,
        c.dint_at.ensures,
        c.ctl_at.ensures,
      )
          (control_rows c.args.words.now c.requires.long _ c.args.members.now c.args.row c.args.place);
      names = rw (
        c.put_bits.ensures.names,
        c.put_part-3.ensures.names,
        c.put_part-2.ensures.names,
        c.put_part.ensures.names,
        c.dint_at-2.ensures,
        c.dint_at.ensures,
        c.ctl_at.ensures,
      )
          (control_names c.args.words.now c.requires.long _ c.args.names.now c.args.place);
    }
