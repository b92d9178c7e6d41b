-- `types::put_host_name` meets its contract: three writes are one name, for which there is room.
use Rattle.std.proofs.Common.{◌+◌, ◌-◌, ◌≤◌, ◌≡◌, ap, ◌∙◌, arith, length, drop, take, length-take}
use Rattle.types.specs.inside.layout.Decimals.{Spelt}
use Rattle.types.specs.tables.Limits.{most_names}
use Rattle.types.proofs.layout.DigitLaws.{decimal_long, decimal_part, host_long, host_put}
use Rattle.types.proofs.layout.host_names.put_host_name.Goals as goal
use Rattle.types.proofs.layout.host_names.put_host_name.Goals.{After-decimal_of-d}

spelled : (c : After-decimal_of-d) → Spelt c.args.k c.decimal_of-d.result
spelled c = rw c.from.ensures at c.decimal_of-d.ensures

room : (c : After-decimal_of-d) → c.args.at + (10 + c.min-n.result + (20 - c.decimal_of-d.result.from)) ≤ most_names
room c = rw (host_long c.args.name.now c.args.k _ (spelled c) c.min-n.ensures) c.requires.1

rest : (c : After-decimal_of-d)
    → let d = c.decimal_of-d.result in
    length (take (length d.bytes - d.from) (drop d.from d.bytes)) ≡ 20 - d.from
rest c =
    let d = c.decimal_of-d.result in
    let long = (spelled c).long in
    rw long (ap length (decimal_part d long) ∙ decimal_long d long)

pub put_bytes-requires : goal.put_bytes-requires
put_bytes-requires c = omega (arith, room (goal.at.put_bytes-requires c).After-decimal_of-d)

pub put_bytes-requires-2 : goal.put_bytes-requires-2
put_bytes-requires-2 c =
    simp length-take (omega (arith, c.min-n.ensures, room (goal.at.put_bytes-requires-2 c).After-decimal_of-d))

pub put_bytes-requires-3 : goal.put_bytes-requires-3
put_bytes-requires-3 c =
    let decimal = (goal.at.put_bytes-requires-3 c).After-decimal_of-d in
    rw (rest decimal) (omega (arith, room decimal))

pub returns : goal.returns
returns c =
    let long = (spelled (goal.at.returns c).After-decimal_of-d).long in
    rw (c.put_bytes-3.ensures, c.put_bytes-2.ensures, c.put_bytes.ensures, long)
    (host_put c.args.name.now c.args.k _ (spelled (goal.at.returns c).After-decimal_of-d) c.min-n.ensures
    c.args.names.now c.args.at)
