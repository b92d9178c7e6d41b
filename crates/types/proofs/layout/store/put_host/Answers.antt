-- `types::put_host` meets its contract.
use Prim.Native.Nat.{◌*◌}
use mathlib.Core.Path.{ap, ◌∙◌}
use lib.Seq.{sets}
use Rattle.types.specs.layout.HostNames.{host_name}
use Rattle.types.proofs.layout.StoreLaws.{one_row_of, one_name}
use Rattle.types.proofs.layout.store.put_host.Goals as goal

pub returns : goal.returns
returns c =
    let a = c.args in
    let host = host_name a.name.now a.k in record {
      long = c.host_long-long.ensures.is;
      rows = c.put_member.ensures
          ∙ ap (sets a.members.now (8 * a.row))
          (one_row_of a.at host a.m c.host_long-long.ensures.is);
      names = c.put_host_name.ensures ∙ ap (sets a.names.now a.at) (one_name host a.m);
    }
