-- `types::put_bit_host` meets its contract: two writes are one name.
use Rattle.std.proofs.Common.{◌*◌, ap, ◌∙◌}
use Rattle.std.proofs.lemmas.List.Edits.{sets}
use Rattle.types.specs.inside.layout.Decimals.{TwoDigits}
use Rattle.types.specs.layout.HostNames.{bit_host_name}
use Rattle.types.specs.layout.Structs.{bit_host_at}
use Rattle.types.proofs.layout.DigitLaws.{bit_host_long, bit_host_put}
use Rattle.types.proofs.layout.StoreLaws.{one_row_of, one_name}
use Rattle.types.proofs.layout.aoi.put_bit_host.Goals as goal

pub returns : goal.returns
returns c =
    let i = c.args.i in
    let spelled : TwoDigits i c.two_digits-d.result = rw c.from.ensures at c.two_digits-d.ensures in
    let long = bit_host_long i spelled in
    record {
      long = long;
      rows = c.put_member.ensures
          ∙ ap (sets c.args.members.now (8 * c.args.row))
          (one_row_of c.args.at (bit_host_name i) (bit_host_at i) long);
      names = rw (c.put_bytes-2.ensures, c.put_bytes.ensures, spelled.long)
          (bit_host_put i spelled c.args.names.now c.args.at
          ∙ ap (sets c.args.names.now c.args.at) (one_name (bit_host_name i) (bit_host_at i)));
    }
