-- `Atomic::from_name` meets its contract: the first of the fifteen with the name.
use Rattle.std.specs.Prelude.{Some}
use Rattle.std.proofs.Common.{ℕ, List, refl, sym, ap, ◌∙◌, arith}
use Rattle.types.specs.atomics.Atomic.{atomic_at, name_of, atomic_named, said_by}
use Rattle.types.specs.book.Names.{same_name}
use Rattle.types.proofs.atomics.AtomicLaws.{at_is, table_row, row_name, row_five, first_hit, first_miss}
use Rattle.types.proofs.atomics.AtomicLaws.{first_none, named_said}
use Rattle.types.proofs.atomics.atomic.Atomic.from_name.Goals as goal

pub loop-i-init : goal.loop-i-init
unfolding atomic_named
loop-i-init c = refl

pub shared_ref_as_front-same_name : goal.shared_ref_as_front-same_name
shared_ref_as_front-same_name c =
    let l = c.loop-i in
    row_five (atomic_at l.i) (table_row l.i _ c.table.ensures (omega arith))

pub returns-then-same_name : goal.returns-then-same_name
returns-then-same_name c =
    let l = c.loop-i in
    let name = c.args.name.now in
    let row = table_row l.i _ c.table.ensures (omega arith) in
    ap said_by (ap Some (at_is _ c.at.ensures)
    ∙ first_hit (λ a. same_name (name_of a) name) l.i (omega arith) _
    (c.same_name.ensures ∙ ap (λ (s : List ℕ). same_name s name) (row_name (atomic_at l.i) row))
    c.if-same_name.true
    ∙ sym l.invariant) ∙ named_said name

pub loop-i-preserved : goal.loop-i-preserved
loop-i-preserved c =
    let l = c.loop-i in
    let name = c.args.name.now in
    let row = table_row l.i _ c.table.ensures (omega arith) in
    l.invariant
    ∙ first_miss (λ a. same_name (name_of a) name) l.i (omega arith) _
    (c.same_name.ensures ∙ ap (λ (s : List ℕ). same_name s name) (row_name (atomic_at l.i) row)) c.if-same_name.false

pub returns : goal.returns
returns c =
    let l = c.loop-i in
    ap said_by (first_none _ l.i (omega arith) (omega arith) ∙ sym l.invariant) ∙ named_said _
