-- `values::fits::check_leaf` meets its contract: a BOOL's bit takes what a BOOL takes, an atomic member what its type
-- and count say (document 01, "Writing").
use native.Mathlib.Omega.{arith}
use mathlib.Core.Path.{◌∙◌, ap}
use Rattle.types.specs.declared.tables.member.Member.{Member}
use Rattle.values.specs.inside.reading.Walk.{is_nested}
use Rattle.values.proofs.writing.fits.FitLeafLaws.{bytes_low, member_bit, member_struct}
use Rattle.values.proofs.writing.fits.FitRunLaws.{few}
use Rattle.values.proofs.writing.fits.check_leaf.Goals as goal

pub returns-in-Some : goal.returns-in-Some
returns-in-Some c =
    let m = c.member_row-m in
    rw (← m.ensures) (member_bit m.result c.in-Some.is c.check_atomic.ensures)

pub check_atomics-requires-clause-count_bound : goal.check_atomics-requires-clause-count_bound
check_atomics-requires-clause-count_bound c =
    bytes_low c.in-Atomic.a c.member_row-m.result.count (omega (arith, c.well_formed))

pub overflow_cast-result : goal.overflow_cast-result
overflow_cast-result c = omega (arith, few c.requires.well_formed.0, c.requires.well_formed.1)

pub returns-in-Struct : goal.returns-in-Struct
returns-in-Struct c =
    let row = c.requires.leaf_row in
    let m = c.member_row-m in
    absurd
    (member_struct m.result (ap (λ (x : Member). x.hidden) m.ensures ∙ row.visible)
    (ap is_nested m.ensures ∙ row.flat) c.in-None.is c.in-Struct.is)
