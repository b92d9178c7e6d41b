-- `types::type_count` meets its contract: as many as were passed and are left.
use Rattle.std.proofs.Common.{sym, ◌∙◌, zero-add, arith}
use Rattle.std.proofs.Math.Nat.{sub-zero}
use Rattle.types.specs.adding.Ids.{id_word}
use Rattle.types.specs.tables.Limits.{most_types}
use Rattle.types.specs.tables.Registry.{type_count}
use Rattle.types.proofs.tables.CountLaws.{count_stop, count_on, count_end}
use Rattle.types.proofs.tables.count.type_count.Goals as goal

pub loop-i-init : goal.loop-i-init
unfolding type_count
loop-i-init c = rw (sub-zero, zero-add)

pub returns-then-types-i-eq0 : goal.returns-then-types-i-eq0
returns-then-types-i-eq0 c =
    sym (c.loop-i.invariant
    ∙ count_stop (id_word c.args.types.now) most_types c.loop-i.i c.loop-i-test.true c.if-types-i-eq0.true)

pub loop-i-preserved : goal.loop-i-preserved
loop-i-preserved c =
    c.loop-i.invariant
    ∙ count_on (id_word c.args.types.now) most_types c.loop-i.i c.loop-i-test.true c.if-types-i-eq0.false

pub returns : goal.returns
returns c =
    omega (arith, c.loop-i.invariant, count_end (id_word c.args.types.now) most_types c.loop-i.i c.loop-i-test.false)
