-- `values::put_run` meets its contract: an arm for each atomic.
use Rattle.std.proofs.Common.{refl}
use Rattle.types.specs.atomics.Atomic.{size_of}
use Rattle.values.proofs.reading.runs.RunLaws.{run_given, truths_given, truths_put}
use Rattle.values.proofs.reading.runs.put_run.Goals as goal

pub put_truths-requires : goal.put_truths-requires
put_truths-requires c = (truths_given c.args.n c.args.s.now c.in-Bool.is c.requires.0, c.requires.1)

pub returns-in-Bool : goal.returns-in-Bool
returns-in-Bool c = truths_put c.args.n c.args.s.now c.in-Bool.is c.put_truths.ensures

pub put_wide-requires-clause-run : goal.put_wide-requires-clause-run
unfolding size_of
put_wide-requires-clause-run c = run_given c.in-SInt.is refl refl c.requires

pub put_wide-requires-in-Int-clause-run : goal.put_wide-requires-in-Int-clause-run
unfolding size_of
put_wide-requires-in-Int-clause-run c = run_given c.in-Int.is refl refl c.requires

pub put_wide-requires-in-DInt-clause-run : goal.put_wide-requires-in-DInt-clause-run
unfolding size_of
put_wide-requires-in-DInt-clause-run c = run_given c.in-DInt.is refl refl c.requires

pub put_wide-requires-in-LInt-clause-run : goal.put_wide-requires-in-LInt-clause-run
unfolding size_of
put_wide-requires-in-LInt-clause-run c = run_given c.in-LInt.is refl refl c.requires

pub put_wide-requires-in-USInt-clause-run : goal.put_wide-requires-in-USInt-clause-run
unfolding size_of
put_wide-requires-in-USInt-clause-run c = run_given c.in-USInt.is refl refl c.requires

pub put_wide-requires-in-UInt-clause-run : goal.put_wide-requires-in-UInt-clause-run
unfolding size_of
put_wide-requires-in-UInt-clause-run c = run_given c.in-UInt.is refl refl c.requires

pub put_wide-requires-in-UDInt-clause-run : goal.put_wide-requires-in-UDInt-clause-run
unfolding size_of
put_wide-requires-in-UDInt-clause-run c = run_given c.in-UDInt.is refl refl c.requires

pub put_wide-requires-in-ULInt-clause-run : goal.put_wide-requires-in-ULInt-clause-run
unfolding size_of
put_wide-requires-in-ULInt-clause-run c = run_given c.in-ULInt.is refl refl c.requires

pub put_wide-requires-in-Real-clause-run : goal.put_wide-requires-in-Real-clause-run
unfolding size_of
put_wide-requires-in-Real-clause-run c = run_given c.in-Real.is refl refl c.requires

pub put_wide-requires-in-LReal-clause-run : goal.put_wide-requires-in-LReal-clause-run
unfolding size_of
put_wide-requires-in-LReal-clause-run c = run_given c.in-LReal.is refl refl c.requires

pub put_wide-requires-in-Byte-clause-run : goal.put_wide-requires-in-Byte-clause-run
unfolding size_of
put_wide-requires-in-Byte-clause-run c = run_given c.in-Byte.is refl refl c.requires

pub put_wide-requires-in-Word-clause-run : goal.put_wide-requires-in-Word-clause-run
unfolding size_of
put_wide-requires-in-Word-clause-run c = run_given c.in-Word.is refl refl c.requires

pub put_wide-requires-in-DWord-clause-run : goal.put_wide-requires-in-DWord-clause-run
unfolding size_of
put_wide-requires-in-DWord-clause-run c = run_given c.in-DWord.is refl refl c.requires

pub put_wide-requires-in-LWord-clause-run : goal.put_wide-requires-in-LWord-clause-run
unfolding size_of
put_wide-requires-in-LWord-clause-run c = run_given c.in-LWord.is refl refl c.requires
