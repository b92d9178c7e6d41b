-- `types::look` meets its contract: a name whose mark was not seen is new, any other is compared.
use Rattle.types.proofs.adding.checks.CheckLaws.{looked_new}
use Rattle.types.proofs.adding.checks.look.Goals as goal

pub returns-then-seen-m-eq0 : goal.returns-then-seen-m-eq0
returns-then-seen-m-eq0 c =
    looked_new c.args.book.now c.args.at c.args.j c.requires.1.0 c.requires.1.1 c.mark-m.ensures c.if-seen-m-eq0.true
