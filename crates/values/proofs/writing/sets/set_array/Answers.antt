-- `values::set_array` meets its contract: null, or an opening and what is inside.
use Prim.Native.Nat.{◌+◌, ◌*◌}
use native.Mathlib.Omega.{arith}
use mathlib.Core.Path.{◌≡◌, sym, ◌∙◌}
use Rattle.words.specs.Bits.{flat}
use Rattle.values.specs.inside.writing.Passes.{left_at}
use Rattle.values.specs.inside.writing.Rows.{run_in}
use Rattle.values.specs.reading.Trees.{atomics_tree}
use Rattle.values.specs.writing.Writing.{opened, write}
use Rattle.values.proofs.stream.LeftLaws.{EntryThere, few_entries}
use Rattle.values.proofs.writing.ApplyLaws.{Setting, accepted_as, applied_as, opened_kept, opened_set}
use Rattle.values.proofs.writing.ApplyLaws.{opened_there}
use Rattle.values.proofs.writing.RunInLaws.{array_is}
use Rattle.values.proofs.writing.sets.set_array.Goals as goal
use Rattle.values.proofs.writing.sets.set_array.Goals.{Else-kind_of-eq-NULL, Start}

is : (c : Start)
    → let a = c.args in
    write (atomics_tree a.a a.count) (8 * a.base) (left_at a.s.now a.k) (flat a.image.now)
    ≡ opened 10 (run_in a.a a.count (8 * a.base)) (left_at a.s.now a.k) (flat a.image.now)
is c = array_is _ _ _ _ _ c.requires.some.0

here : (c : Start) → EntryThere c.args.s.now c.args.k
here c =
    let a = c.args in
    opened_there c.requires.formed.0 10 (run_in a.a a.count (8 * a.base)) (flat a.image.now)
    (accepted_as (array_is _ _ _ _ _ c.requires.some.0) c.requires.some.1)

-- the inside is to be set
opens : (c : Else-kind_of-eq-NULL)
    → let a = c.args in
    Setting a.s.now a.k a.image.now
    (opened 10 (run_in a.a a.count (8 * a.base)) (left_at a.s.now a.k))
    (a.k + 1) a.image.now (run_in a.a a.count (8 * a.base) (left_at a.s.now (a.k + 1)))
opens c =
    let a = c.args in
    let taken = accepted_as (array_is a.a a.count (8 * a.base) (left_at a.s.now a.k) (flat a.image.now)
    c.requires.some.0) c.requires.some.1 in
    opened_set c.requires.formed.0 10 (run_in a.a a.count (8 * a.base))
    (opened_there c.requires.formed.0 10 (run_in a.a a.count (8 * a.base)) (flat a.image.now) taken)
    (λ h. c.if-kind_of-eq-NULL.false (c.kind_of.ensures ∙ h)) taken

pub kind_of-requires : goal.kind_of-requires
kind_of-requires c = (c.requires.formed.0, (here (goal.at.kind_of-requires c).Start).inside)

pub overflow_add-result : goal.overflow_add-result
overflow_add-result c =
    omega (arith, (here (goal.at.overflow_add-result c).Start).inside, few_entries _ c.requires.formed.0)

pub returns-then-kind_of-eq-NULL : goal.returns-then-kind_of-eq-NULL
returns-then-kind_of-eq-NULL c =
    applied_as (is (goal.at.returns-then-kind_of-eq-NULL c).Start)
    (opened_kept c.requires.formed.0 10 _ (here (goal.at.returns-then-kind_of-eq-NULL c).Start)
    (sym c.kind_of.ensures ∙ c.if-kind_of-eq-NULL.true))

pub overflow_add-k : goal.overflow_add-k
overflow_add-k c =
    omega (arith, (here (goal.at.overflow_add-k c).Start).inside, few_entries _ c.requires.formed.0)

pub set_run-requires : goal.set_run-requires
set_run-requires c =
    record {
      formed = c.requires.formed;
      right = (opens (goal.at.set_run-requires c).Else-kind_of-eq-NULL).taken;
    }

pub returns : goal.returns
returns c =
    applied_as (is (goal.at.returns c).Start)
    ((opens (goal.at.returns c).Else-kind_of-eq-NULL).onward _ _ c.set_run.ensures)
