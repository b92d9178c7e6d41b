-- `values::put_flags` meets its contract. What is left after k rows comes to the whole.
use Rattle.std.proofs.Common.{◌*◌}
use Rattle.words.specs.Bits.{flat}
use Rattle.values.proofs.normal_image.FlagRows.{PuttingFlags}
use Rattle.values.proofs.normal_image.flags.put_flags.Given as goal

abbrev pub invariant-loop-k : goal.invariant-loop-k
invariant-loop-k l = PuttingFlags l.members l.first l.n (flat l.kept) (8 * l.base) l.initial.image l.k l.image
