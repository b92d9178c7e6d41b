-- `cases::refused` meets its contract.
use Rattle.cases.proofs.ExpectedLaws.{told_rest, refuses_none, refuses_not, refuses_write, refuses_other}
use Rattle.cases.proofs.expected.refused.Goals as goal

pub returns-then-number-lt1 : goal.returns-then-number-lt1
returns-then-number-lt1 c = refuses_none c.args.kind c.args.image.now c.args.answer.now c.if-number-lt1.true

pub returns-then-number-gt254 : goal.returns-then-number-gt254
returns-then-number-gt254 c =
    refuses_not c.args.kind c.args.image.now c.args.answer.now c.if-number-lt1.false c.if-number-gt254.true

pub returns-then-kind-eq-WRITE : goal.returns-then-kind-eq-WRITE
returns-then-kind-eq-WRITE c =
    let a = c.args in
    refuses_write a.kind a.image.now a.answer.now c.if-number-lt1.false c.if-number-gt254.false c.if-kind-eq-WRITE.true
    (told_rest a.answer.now 5 c.same.ensures)

pub returns : goal.returns
returns c =
    let a = c.args in
    refuses_other a.kind a.image.now a.answer.now c.if-number-lt1.false c.if-number-gt254.false
    c.if-kind-eq-WRITE.false
