-- `types::measure_udt` meets its contract.
use mathlib.Core.Path.{◌∙◌}
use Rattle.types.proofs.layout.Measuring.{from_start}
use Rattle.types.proofs.layout.udt.measure_udt.Goals as goal

pub measure-requires : goal.measure-requires
measure-requires c =
    rw c.udt_start.ensures (from_start c.requires.0
    c.requires.1)

pub returns : goal.returns
returns c = c.measure.ensures ∙ rw c.udt_start.ensures
