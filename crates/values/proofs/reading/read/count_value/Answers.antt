-- `values::count_value` meets its contract.
use native.Mathlib.Omega.{arith}
use mathlib.Core.Path.{sym}
use Rattle.values.proofs.reading.ReadingLaws.{value_atomic, value_struct}
use Rattle.values.proofs.stream.CountLaws.{counted_same}
use Rattle.values.proofs.reading.read.count_value.Goals as goal

pub count_atomics-requires : goal.count_atomics-requires
count_atomics-requires c =
    c.requires.1.1

pub count_structs-requires : goal.count_structs-requires
count_structs-requires c =
    let p = c.requires in
    let fits = p.1.0 in
    (p.0, (rw c.in-Struct.is at fits, (p.1.1, omega arith)))

pub returns-in-Atomic : goal.returns-in-Atomic
returns-in-Atomic c =
    let a = c.args in
    counted_same (c.count_atomics.ensures a.texts.now) (λ image. sym
    (value_atomic a.types.now a.members.now a.n image a.ty c.in-Atomic.is))

pub returns-in-Struct : goal.returns-in-Struct
returns-in-Struct c =
    let a = c.args in
    counted_same c.count_structs.ensures (λ image. sym
    (value_struct a.types.now a.members.now a.n image a.ty c.in-Struct.is))
