-- `values::set_atomic` meets its contract: null keeps what stands, and any other entry sets its payload's low bytes.
use Prim.Native.Nat.{ℕ, ◌*◌}
use native.Mathlib.Omega.{arith}
use mathlib.Core.Path.{sym, ap₂, ◌∙◌}
use lib.Seq.{sets}
use Rattle.words.specs.Bits.{flat}
use Rattle.words.specs.Words.{bytes_of}
use Rattle.types.specs.atomics.Atomic.{size_of}
use Rattle.values.specs.inside.writing.Effects.{atomic_takes}
use Rattle.values.specs.writing.Effects.{or_null}
use Rattle.values.proofs.stream.LeftLaws.{EntryThere, few_entries}
use Rattle.values.proofs.writing.ApplyLaws.{one_there}
use Rattle.values.proofs.writing.sets.SetLaws.{atomic_set, one_kept, width_of}
use Rattle.values.proofs.writing.sets.set_atomic.Goals as goal
use Rattle.values.proofs.writing.sets.set_atomic.Goals.{Start}

-- the entry is there
there : (c : Start) → EntryThere c.args.s.now c.args.k
there c =
    let a = c.args in
    one_there c.requires.formed.0 (or_null (atomic_takes a.a)) (8 * size_of a.a) (8 * a.base) (flat a.image.now)
    c.requires.right

pub kind_of-requires : goal.kind_of-requires
kind_of-requires c = (c.requires.formed.0, (there (goal.at.kind_of-requires c).Start).inside)

pub overflow_add-result : goal.overflow_add-result
overflow_add-result c =
    omega (arith, (there (goal.at.overflow_add-result c).Start).inside, few_entries c.args.s.now c.requires.formed.0)

pub returns-then-kind_of-eq-NULL : goal.returns-then-kind_of-eq-NULL
returns-then-kind_of-eq-NULL c =
    let a = c.args in
    one_kept (there (goal.at.returns-then-kind_of-eq-NULL c).Start) (atomic_takes a.a) (8 * size_of a.a) (8 * a.base)
    (sym c.kind_of.ensures ∙ c.if-kind_of-eq-NULL.true)

pub payload_of-requires : goal.payload_of-requires
payload_of-requires c =
    (c.requires.formed.0, (there (goal.at.payload_of-requires c).Start).inside)

pub put_low-requires : goal.put_low-requires
put_low-requires c =
    let size = c.size.ensures in
    (omega (arith, c.requires.formed.1, size), rw size (width_of c.args.a))

pub overflow_add-result-2 : goal.overflow_add-result-2
overflow_add-result-2 c =
    omega (arith, (there (goal.at.overflow_add-result-2 c).Start).inside, few_entries c.args.s.now c.requires.formed.0)

pub returns : goal.returns
returns c =
    let a = c.args in
    atomic_set (there (goal.at.returns c).Start) a.a a.base (λ e. c.if-kind_of-eq-NULL.false (c.kind_of.ensures ∙ e))
    c.requires.formed.1 c.requires.right
    (c.put_low.ensures
    ∙ ap₂ (λ (n x : ℕ). sets a.image.now a.base (bytes_of n x)) c.size.ensures
    c.payload_of.ensures)
