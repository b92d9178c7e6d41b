-- `cases::accepted` meets its contract.
use Rattle.cases.proofs.ExpectedLaws.{told, told_rest, accepts_rest, accepts_not}
use Rattle.cases.proofs.expected.accepted.Goals as goal

pub returns-then-same : goal.returns-then-same
returns-then-same c =
    let a = c.args in
    accepts_rest a.bytes.now a.answer.now (told _ _ _ c.same.ensures) c.if-same.true
    (told_rest a.answer.now 5 c.same-then-same.ensures)

pub returns : goal.returns
returns c = accepts_not c.args.bytes.now c.args.answer.now (told _ _ _ c.same.ensures) c.if-same.false
