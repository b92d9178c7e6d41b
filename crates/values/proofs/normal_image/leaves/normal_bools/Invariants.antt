-- `values::normal_bools` meets its contract (document 01, "Normal image"). The invariant: making all normal is making
-- what is left normal in what stands now.
use Rattle.std.proofs.Common.{◌+◌, ◌-◌}
use borrow.Rule.Slice.PartMut.{put_mid}
use Rattle.values.proofs.normal_image.leaves.LeafMade.{Booling}
use Rattle.values.proofs.normal_image.leaves.normal_bools.Given as goal

abbrev pub invariant-loop-x : goal.invariant-loop-x
invariant-loop-x l =
    Booling l.fn.image l.base l.n (put_mid l.base (l.base + l.n - l.base) l.fn.image l.x-items) l.x-index
