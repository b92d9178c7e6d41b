-- `values::apply_value` meets its contract (document 01, "Writing"): atomics, a structure, or an array of structures,
-- from the first byte on.
use native.Mathlib.Omega.{arith}
use Rattle.words.specs.Bits.{flat}
use Rattle.values.specs.inside.writing.Passes.{left_at}
use Rattle.values.proofs.writing.ApplyLaws.{accepted_as, applied_as}
use Rattle.values.proofs.writing.SettingLaws.{atomics_fit, atomics_write, value_here, value_write, values_here}
use Rattle.values.proofs.writing.SettingLaws.{values_write}
use Rattle.values.proofs.writing.write.apply_value.Goals as goal

pub set_atomics-requires : goal.set_atomics-requires
set_atomics-requires c =
    let a = c.args in
    let is = c.in-Atomic.is in record {
      formed = (c.requires.walkable.1.1, omega (arith, atomics_fit c.requires.walkable.1.0 is));
      right = accepted_as (atomics_write a.types.now a.members.now a.n (left_at a.s.now 0)
          (flat a.image.now)
          is) c.requires.right;
    }

pub apply_struct-requires : goal.apply_struct-requires
apply_struct-requires c =
    let a = c.args in
    let is = c.in-Struct.is in
    let p = c.requires.walkable in record {
      walkable = (p.0, (value_here p.1.0 is c.if-n-eq0.true, p.1.1));
      right = accepted_as (value_write a.types.now a.members.now a.n (left_at a.s.now 0)
          (flat a.image.now) is
          c.if-n-eq0.true) c.requires.right;
    }

pub returns-then-n-eq0 : goal.returns-then-n-eq0
returns-then-n-eq0 c =
    let a = c.args in
    applied_as (value_write a.types.now a.members.now a.n (left_at a.s.now 0) (flat a.image.now)
    c.in-Struct.is c.if-n-eq0.true) c.apply_struct.ensures

pub apply_elements-requires : goal.apply_elements-requires
apply_elements-requires c =
    let a = c.args in
    let is = c.in-Struct.is in
    let p = c.requires.walkable in record {
      walkable = (p.0, (values_here p.1.0 is c.if-n-eq0.false, p.1.1));
      right = accepted_as (values_write a.types.now a.members.now a.n (left_at a.s.now 0)
          (flat a.image.now)
          is c.if-n-eq0.false) c.requires.right;
    }

pub returns-else-n-eq0 : goal.returns-else-n-eq0
returns-else-n-eq0 c =
    let a = c.args in
    applied_as (values_write a.types.now a.members.now a.n (left_at a.s.now 0) (flat a.image.now)
    c.in-Struct.is c.if-n-eq0.false) c.apply_elements.ensures

pub returns-in-Atomic : goal.returns-in-Atomic
returns-in-Atomic c =
    let a = c.args in
    applied_as (atomics_write a.types.now a.members.now a.n (left_at a.s.now 0) (flat a.image.now)
    c.in-Atomic.is) c.set_atomics.ensures
