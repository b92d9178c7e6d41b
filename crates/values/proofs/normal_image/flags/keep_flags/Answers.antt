-- `values::keep_flags` meets its contract. So far: the BOOLs of the first k rows are kept.
use Rattle.std.proofs.Common.{arith, refl}
use Rattle.values.proofs.normal_image.FlagRows.{keeping_more, one_row}
use Rattle.values.proofs.normal_image.flags.keep_flags.Goals as goal

pub keep_flag-requires : goal.keep_flag-requires
keep_flag-requires c = (one_row c.loop-k.k c.requires.0 c.loop-k-test.true refl, omega arith)

pub loop-k-preserved : goal.loop-k-preserved
loop-k-preserved c = keeping_more c.loop-k.invariant c.keep_flag.auto.kept c.keep_flag.ensures
