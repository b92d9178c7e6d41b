-- `values::put_flags` meets its contract. What is left after k rows comes to the whole.
use Rattle.std.proofs.Common.{arith}
use Rattle.values.proofs.normal_image.FlagRows.{one_row, putting_all, putting_more}
use Rattle.values.proofs.normal_image.flags.put_flags.Goals as goal

pub put_flag-requires : goal.put_flag-requires
put_flag-requires c = (
  one_row c.loop-k.k c.requires.0 c.loop-k-test.true c.loop-k.invariant.long,
  omega (arith, c.requires.1),
)

pub loop-k-preserved : goal.loop-k-preserved
loop-k-preserved c =
    putting_more c.loop-k.invariant c.loop-k-test.true c.put_flag.auto.image c.put_flag.ensures

pub returns : goal.returns
returns c = putting_all c.loop-k.invariant (omega arith)
