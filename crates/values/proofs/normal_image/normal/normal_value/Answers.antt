-- `values::normal_value` meets its contract (document 01, "Normal image"): atomics, a structure, or an array of
-- structures, from the first byte on, made normal are the normal image.
use Rattle.std.proofs.Common.{arith, rules}
use Rattle.values.proofs.normal_image.normal.NormalisedLaws.{all_normal, atomics_normal, one_normal}
use Rattle.values.proofs.writing.SettingLaws.{atomics_fit, value_here, values_here}
use Rattle.values.proofs.normal_image.normal.normal_value.Goals as goal

pub normal_atomics-requires : goal.normal_atomics-requires
normal_atomics-requires c =
    omega (arith, atomics_fit c.requires.1 c.in-Atomic.is)

pub normal_struct-requires : goal.normal_struct-requires
normal_struct-requires c =
    let p = c.requires in
    (p.0, value_here p.1 c.in-Struct.is c.if-n-eq0.true)

pub returns-in-Struct : goal.returns-in-Struct
returns-in-Struct c =
    let p = c.requires in
    one_normal p.0 p.1 c.normal_struct.auto.image (search rules)
    c.in-Struct.is c.if-n-eq0.true c.normal_struct.ensures

pub normal_elements-requires : goal.normal_elements-requires
normal_elements-requires c =
    let p = c.requires in
    (p.0, values_here p.1 c.in-Struct-2.is c.if-n-eq0.false)

pub returns-in-Atomic : goal.returns-in-Atomic
returns-in-Atomic c =
    let p = c.requires in
    atomics_normal p.0 p.1 c.normal_atomics.auto.image (search rules)
    c.in-Atomic.is c.normal_atomics.ensures

pub returns-in-Struct-2 : goal.returns-in-Struct-2
returns-in-Struct-2 c =
    let p = c.requires in
    all_normal p.0 p.1 c.normal_elements.auto.image
    (search rules) c.in-Struct-2.is c.if-n-eq0.false
    c.normal_elements.ensures
