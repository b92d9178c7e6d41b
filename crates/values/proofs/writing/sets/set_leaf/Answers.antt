-- `values::set_leaf` meets its contract: one bit, or atomics; the row holds no structure.
use mathlib.Core.Path.{refl}
use Rattle.values.proofs.writing.ApplyLaws.{accepted_as, applied_as}
use Rattle.values.proofs.writing.sets.SetLeafLaws.{LeafHere, atomics_inside, atomics_is, flag_inside, flag_is}
use Rattle.values.proofs.writing.sets.SetLeafLaws.{nested_never}
use Rattle.values.proofs.writing.sets.set_leaf.Goals as goal
use Rattle.values.proofs.writing.sets.set_leaf.Goals.{After-member_row-m}

-- the member was read
here : (c : After-member_row-m)
    → let m = c.member_row-m.result in
    LeafHere c.args.members.now c.args.row c.args.base c.args.image.now m m.offset m.count
here c = record {
  is = c.member_row-m.ensures;
  leaf = c.requires.formed.1.0;
  sizes = c.requires.formed.1.1.0;
  here = c.requires.formed.1.1.1;
  start = refl;
  count = refl;
}

pub set_flag-requires-clause-formed : goal.set_flag-requires-clause-formed
set_flag-requires-clause-formed c =
    let at_m = (goal.at.set_flag-requires-clause-formed c).After-member_row-m in
    (c.requires.formed.0, flag_inside (here at_m) c.in-Some.is)

pub set_flag-requires-clause-right : goal.set_flag-requires-clause-right
set_flag-requires-clause-right c =
    accepted_as (flag_is (here (goal.at.set_flag-requires-clause-right c).After-member_row-m) c.in-Some.is
    c.requires.right.0 _ _) c.requires.right.1

pub returns-in-Some : goal.returns-in-Some
returns-in-Some c = λ trees.
    applied_as (flag_is (here (goal.at.returns-in-Some c).After-member_row-m) c.in-Some.is trees _ _) c.set_flag.ensures

pub set_atomics-requires-clause-formed : goal.set_atomics-requires-clause-formed
set_atomics-requires-clause-formed c = (
  c.requires.formed.0,
  atomics_inside (here (goal.at.set_atomics-requires-clause-formed c).After-member_row-m) c.in-None.is c.in-Atomic.is,
)

pub set_atomics-requires-clause-right : goal.set_atomics-requires-clause-right
set_atomics-requires-clause-right c =
    accepted_as (atomics_is (here (goal.at.set_atomics-requires-clause-right c).After-member_row-m) c.in-None.is
    c.in-Atomic.is c.requires.right.0 _ _) c.requires.right.1

pub returns-in-Atomic : goal.returns-in-Atomic
returns-in-Atomic c = λ trees.
    applied_as
    (atomics_is (here (goal.at.returns-in-Atomic c).After-member_row-m) c.in-None.is c.in-Atomic.is trees _ _)
    c.set_atomics.ensures

pub overflow_add-result : goal.overflow_add-result
overflow_add-result c =
    absurd (nested_never (here (goal.at.overflow_add-result c).After-member_row-m) c.in-None.is c.in-Struct.is)

pub returns-in-Struct : goal.returns-in-Struct
returns-in-Struct c =
    absurd (nested_never (here (goal.at.returns-in-Struct c).After-member_row-m) c.in-None.is c.in-Struct.is)
