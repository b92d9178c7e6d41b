-- `values::leaf_entries` meets its contract (document 01, "Reading"): a hidden member gives nothing, a bit two entries,
-- an atomic its number and its own, and a structure is not counted here but for its number.
use Rattle.std.proofs.Common.{◌^◌, ◌≤◌, refl, arith}
use Rattle.values.proofs.stream.CountLeaves.{atomics_few, leaf_hidden, leaf_bit, leaf_atomic, leaf_struct}
use Rattle.values.proofs.stream.count.leaf_entries.Goals as goal
use Rattle.values.proofs.stream.count.leaf_entries.Goals.{After-atomic_entries}

pub returns-then-m : goal.returns-then-m
returns-then-m c =
    let m = c.member_row-m in
    (λ j. rw (← m.ensures) (leaf_hidden m.result j c.if-m.true), omega arith)

pub returns-in-Some : goal.returns-in-Some
returns-in-Some c =
    let m = c.member_row-m in
    (λ j. rw (← m.ensures) (leaf_bit m.result j c.if-m.false c.in-Some.is), omega arith)

few : (c : After-atomic_entries) → c.atomic_entries.result ≤ 2 ^ 39
few c = atomics_few c.in-Atomic.a _ c.atomic_entries.ensures (omega (arith, c.ranges))

pub overflow_add-result : goal.overflow_add-result
overflow_add-result c = omega (arith, few (goal.at.overflow_add-result c).After-atomic_entries)

pub returns-in-None : goal.returns-in-None
returns-in-None c =
    let m = c.member_row-m in (
      λ j. rw (← m.ensures)
          (leaf_atomic m.result j c.if-m.false c.in-None.is c.in-Atomic.is refl c.atomic_entries.ensures),
      omega (arith, few (goal.at.returns-in-None c).After-atomic_entries),
    )

pub returns-in-Some-bit : goal.returns-in-Some-bit
returns-in-Some-bit c =
    let m = c.member_row-m in
    (λ j. rw (← m.ensures) (leaf_bit m.result j c.if-m.false c.in-Some-bit.is), omega arith)

pub returns-in-None-bit : goal.returns-in-None-bit
returns-in-None-bit c =
    let m = c.member_row-m in
    (λ j. rw (← m.ensures) (leaf_struct m.result j c.if-m.false c.in-None-bit.is c.in-Struct.is), omega arith)
