-- `values::set_flag` meets its contract: null keeps what stands, and a bool sets its bit.
use Prim.Native.Nat.{◌+◌, ◌*◌}
use native.Mathlib.Omega.{arith}
use mathlib.Core.Path.{sym, ◌∙◌}
use Rattle.words.specs.Bits.{flat}
use Rattle.values.specs.reading.Leaf.{flag}
use Rattle.values.specs.writing.Effects.{or_null, taken}
use Rattle.values.proofs.stream.LeftLaws.{EntryThere, few_entries}
use Rattle.values.proofs.writing.ApplyLaws.{one_there}
use Rattle.values.proofs.writing.sets.SetLaws.{flag_set, one_kept}
use Rattle.values.proofs.writing.sets.set_flag.Goals as goal
use Rattle.values.proofs.writing.sets.set_flag.Goals.{Start}

-- the entry is there
there : (c : Start) → EntryThere c.args.s.now c.args.k
there c =
    let a = c.args in
    one_there c.requires.formed.0 (or_null (taken flag)) 1 (8 * a.at + a.bit) (flat a.image.now) c.requires.right

pub kind_of-requires : goal.kind_of-requires
kind_of-requires c = (c.requires.formed.0, (there (goal.at.kind_of-requires c).Start).inside)

pub overflow_add-result : goal.overflow_add-result
overflow_add-result c =
    omega (arith, (there (goal.at.overflow_add-result c).Start).inside, few_entries c.args.s.now c.requires.formed.0)

pub returns-then-kind_of-eq-NULL : goal.returns-then-kind_of-eq-NULL
returns-then-kind_of-eq-NULL c =
    let a = c.args in
    one_kept (there (goal.at.returns-then-kind_of-eq-NULL c).Start) (taken flag) 1 (8 * a.at + a.bit)
    (sym c.kind_of.ensures ∙ c.if-kind_of-eq-NULL.true)

pub payload_of-requires : goal.payload_of-requires
payload_of-requires c =
    (c.requires.formed.0, (there (goal.at.payload_of-requires c).Start).inside)

pub overflow_add-result-2 : goal.overflow_add-result-2
overflow_add-result-2 c =
    omega (arith, (there (goal.at.overflow_add-result-2 c).Start).inside, few_entries c.args.s.now c.requires.formed.0)

pub returns : goal.returns
returns c =
    let a = c.args in
    flag_set (there (goal.at.returns c).Start) (8 * a.at + a.bit) c.payload_of.result
    (λ e. c.if-kind_of-eq-NULL.false (c.kind_of.ensures ∙ e)) c.requires.right
    c.payload_of.ensures
    (omega (arith, c.put_bit.auto.image)) c.put_bit.ensures
