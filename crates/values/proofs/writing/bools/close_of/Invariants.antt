-- `values::close_of` meets its contract. In the loop: the entry lies among the bools of the run, or is its close.
use Prim.Native.Nat.{◌-◌}
use Rattle.values.specs.stream.Form.{count_in}
use Rattle.values.proofs.writing.bools.BoolRuns.{Among}
use Rattle.values.proofs.writing.bools.close_of.Given as goal

abbrev pub invariant-loop-p : goal.invariant-loop-p
invariant-loop-p l = Among l.s l.k l.p

abbrev pub decreases-loop-p : goal.decreases-loop-p
decreases-loop-p l = count_in l.s - l.p
