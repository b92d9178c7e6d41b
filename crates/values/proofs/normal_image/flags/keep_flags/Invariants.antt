-- `values::keep_flags` meets its contract. So far: the BOOLs of the first k rows are kept.
use Rattle.values.proofs.normal_image.FlagRows.{Keeping}
use Rattle.values.proofs.normal_image.flags.keep_flags.Given as goal

abbrev pub invariant-loop-k : goal.invariant-loop-k
invariant-loop-k l = Keeping l.members l.first l.base l.image l.initial.kept l.k l.kept
