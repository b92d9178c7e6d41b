-- `types::put_refused_line` meets its contract: the line in a buffer of its own, given.
use native.Mathlib.Omega.{arith}
use mathlib.Core.Path.{refl}
use Rattle.types.proofs.refusals.GivenLaws.{line_given, line_inside, line_long, line_short}
use Rattle.types.proofs.listing.lines.put_refused_line.Goals as goal

pub slice_bounds-text-end : goal.slice_bounds-text-end
slice_bounds-text-end c = line_inside c.refused_line-n.ensures

pub slice_bounds-give-end : goal.slice_bounds-give-end
slice_bounds-give-end c = line_long c.refused_line-n.ensures

pub give-requires : goal.give-requires
give-requires c = line_short c.refused_line-n.ensures (omega arith)

pub returns : goal.returns
returns c =
    line_given c.refused_line-n.ensures refl c.give.ensures
