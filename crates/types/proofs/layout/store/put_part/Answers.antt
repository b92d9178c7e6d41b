-- `types::put_part` meets its contract.
use Prim.Native.Nat.{◌*◌}
use mathlib.Core.Path.{ap, ◌∙◌}
use lib.Seq.{sets}
use Rattle.types.proofs.layout.StoreLaws.{one_row, one_name}
use Rattle.types.proofs.layout.store.put_part.Goals as goal

pub returns : goal.returns
returns c =
    let a = c.args in record {
      rows = c.put_member.ensures ∙ ap (sets a.members.now (8 * a.row)) (one_row a.at a.name.now a.m);
      names = c.put_bytes.ensures ∙ ap (sets a.names.now a.at) (one_name a.name.now a.m);
    }
