-- `values::check_value` meets its contract (document 01, "Writing"): atomics, a structure, or an array of structures.
use Rattle.values.specs.inside.writing.Passes.{left_at}
use Rattle.values.proofs.writing.SettingLaws.{atomics_few, atomics_write, value_write, values_write}
use Rattle.values.proofs.writing.StepLaws.{checked_as}
use Rattle.values.proofs.writing.write.check_value.Goals as goal

pub check_atomics-requires-clause-count_bound : goal.check_atomics-requires-clause-count_bound
check_atomics-requires-clause-count_bound c =
    atomics_few c.args.types.now c.args.n c.requires.walkable.1.1 c.in-Atomic.is

pub returns-in-Atomic : goal.returns-in-Atomic
returns-in-Atomic c =
    let a = c.args in
    checked_as (λ z. atomics_write a.types.now a.members.now a.n (left_at a.s.now 0) z c.in-Atomic.is)
    (c.check_atomics.ensures 0)

pub returns-then-n-eq0 : goal.returns-then-n-eq0
returns-then-n-eq0 c =
    let a = c.args in
    checked_as
    (λ z. value_write a.types.now a.members.now a.n (left_at a.s.now 0) z c.in-Struct.is c.if-n-eq0.true)
    (c.check_struct.ensures 0)

pub returns-else-n-eq0 : goal.returns-else-n-eq0
returns-else-n-eq0 c =
    let a = c.args in
    checked_as
    (λ z. values_write a.types.now a.members.now a.n (left_at a.s.now 0) z c.in-Struct.is
    c.if-n-eq0.false)
    (c.check_elements.ensures 0)
