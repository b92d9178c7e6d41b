-- `types::find_type` meets its contract: the first of all is the first of those that are left.
use Rattle.std.proofs.Common.{sym, ◌∙◌}
use Rattle.types.specs.atomics.Lookup.{row_name}
use Rattle.types.proofs.atomics.lookup.LookupLaws.{named_here, named_later, named_never}
use Rattle.types.proofs.atomics.lookup.find_type.Goals as goal

pub returns-then-row_named : goal.returns-then-row_named
returns-then-row_named c =
    let a = c.args in
    named_here (row_name a.types.now a.names.now) a.name.now a.n c.loop-i.i
    c.loop-i-test.true _ c.row_named.ensures c.if-row_named.true
    ∙ sym c.loop-i.invariant

pub loop-i-preserved : goal.loop-i-preserved
loop-i-preserved c =
    let a = c.args in
    c.loop-i.invariant
    ∙ named_later (row_name a.types.now a.names.now) a.name.now a.n c.loop-i.i
    c.loop-i-test.true _ c.row_named.ensures c.if-row_named.false

pub returns : goal.returns
returns c =
    let a = c.args in
    named_never (row_name a.types.now a.names.now) a.name.now a.n c.loop-i.i c.loop-i-test.false
    ∙ sym c.loop-i.invariant
