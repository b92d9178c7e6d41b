-- `types::in_use` meets its contract: an id is in use among all rows if it is among those that are left.
use Rattle.std.proofs.Common.{sym, ◌∙◌}
use Rattle.types.specs.adding.Ids.{id_word}
use Rattle.types.proofs.adding.IdLaws.{use_here, use_later, use_never}
use Rattle.types.proofs.adding.ids.in_use.Goals as goal

pub returns-then-types-i : goal.returns-then-types-i
returns-then-types-i c =
    sym (c.loop-i.invariant
    ∙ use_here (id_word c.args.types.now) c.args.id c.args.n c.loop-i.i c.loop-i-test.true c.if-types-i.true)

pub loop-i-preserved : goal.loop-i-preserved
loop-i-preserved c =
    c.loop-i.invariant
    ∙ use_later (id_word c.args.types.now) c.args.id c.args.n c.loop-i.i c.loop-i-test.true c.if-types-i.false

pub returns : goal.returns
returns c =
    sym (c.loop-i.invariant ∙ use_never (id_word c.args.types.now) c.args.id c.args.n c.loop-i.i c.loop-i-test.false)
