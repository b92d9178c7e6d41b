-- `values::set_bits` meets its contract: bools over cleared bits, or one entry.
use Prim.Native.Nat.{◌+◌, ◌*◌}
use native.Mathlib.Omega.{arith}
use mathlib.Core.Path.{◌≡◌, sym, ◌∙◌, subst}
use Rattle.words.specs.Bits.{flat}
use Rattle.types.specs.atomics.Atomic.{size_of}
use Rattle.values.specs.inside.writing.Passes.{left_at}
use Rattle.values.specs.inside.writing.Rows.{Width}
use Rattle.values.specs.reading.Trees.{atomics_tree}
use Rattle.values.specs.writing.Writing.{bools_in, write}
use Rattle.values.proofs.stream.LeftLaws.{EntryThere, few_entries}
use Rattle.values.proofs.writing.ApplyLaws.{Setting, accepted_as, applied_as}
use Rattle.values.proofs.writing.RunInLaws.{bits_number}
use Rattle.values.proofs.writing.sets.SetLaws.{width_of}
use Rattle.values.proofs.writing.sets.SetRunLaws.{bits_cleared, bits_there, bools_asked, one_of}
use Rattle.values.proofs.writing.sets.set_bits.Goals as goal
use Rattle.values.proofs.writing.sets.set_bits.Goals.{After-put_low, Else-kind_of-eq-ARRAY_OPEN, Start}

here : (c : Start) → EntryThere c.args.s.now c.args.k
here c = bits_there c.requires.formed.0 c.args.a c.args.base c.requires.bits.0 _ c.requires.bits.1

-- bools are to be set where nothing is
cleared : (c : After-put_low)
    → let a = c.args in
    Setting a.s.now a.k a.image.now (write (atomics_tree a.a 0) (8 * a.base) (left_at a.s.now a.k))
    (a.k + 1) c.put_low.new.image (bools_in (8 * size_of a.a) (8 * a.base) (left_at a.s.now (a.k + 1)))
cleared c =
    bits_cleared c.requires.formed.0 c.args.a c.args.base c.requires.bits.0
    (bits_there c.requires.formed.0 c.args.a c.args.base c.requires.bits.0 _ c.requires.bits.1)
    (sym c.kind_of.ensures ∙ c.if-kind_of-eq-ARRAY_OPEN.true) c.requires.bits.1 c.requires.formed.1
    c.size.ensures c.put_low.ensures

-- no array is one entry
number : (c : Else-kind_of-eq-ARRAY_OPEN)
    → let a = c.args in
    write (atomics_tree a.a 0) (8 * a.base) (left_at a.s.now a.k) (flat a.image.now)
    ≡ one_of a.a (8 * a.base) (left_at a.s.now a.k) (flat a.image.now)
number c =
    bits_number _ _ _ _ c.requires.bits.0 (λ h. c.if-kind_of-eq-ARRAY_OPEN.false (c.kind_of.ensures ∙ h))

pub kind_of-requires : goal.kind_of-requires
kind_of-requires c = (c.requires.formed.0, (here (goal.at.kind_of-requires c).Start).inside)

pub put_low-requires : goal.put_low-requires
put_low-requires c = (
  omega (arith, c.requires.formed.1, c.size.ensures),
  subst Width (sym c.size.ensures) (width_of c.args.a),
)

pub overflow_add-k : goal.overflow_add-k
overflow_add-k c =
    omega (arith, (here (goal.at.overflow_add-k c).Start).inside, few_entries _ c.requires.formed.0)

pub set_bools-requires : goal.set_bools-requires
set_bools-requires c =
    let w = cleared (goal.at.set_bools-requires c).After-put_low in
    bools_asked (size_of c.args.a) c.requires.formed.0 (omega (arith, c.requires.formed.1, w.long)) w.taken

pub returns-then-kind_of-eq-ARRAY_OPEN : goal.returns-then-kind_of-eq-ARRAY_OPEN
returns-then-kind_of-eq-ARRAY_OPEN c =
    let w = cleared (goal.at.returns-then-kind_of-eq-ARRAY_OPEN c).After-put_low in
    w.onward _ _ (c.set_bools.ensures _ w.taken)

pub set_atomic-requires : goal.set_atomic-requires
set_atomic-requires c =
    record {
      formed = c.requires.formed;
      right = accepted_as (number (goal.at.set_atomic-requires c).Else-kind_of-eq-ARRAY_OPEN) c.requires.bits.1;
    }

pub returns : goal.returns
returns c = applied_as (number (goal.at.returns c).Else-kind_of-eq-ARRAY_OPEN) c.set_atomic.ensures
