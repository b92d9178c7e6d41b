-- `cases::agrees` meets its contract.
use Rattle.std.proofs.Common.{◌∙◌}
use Rattle.words.proofs.Lists.{rest_lent}
use Rattle.cases.proofs.ExpectedLaws.{told, agrees_empty, agrees_short, agrees_bytes, agrees_refused}
use Rattle.cases.proofs.ExpectedLaws.{agrees_exactly, agrees_unknown}
use Rattle.cases.proofs.expected.agrees.Goals as goal

pub returns-then-expected-lt1 : goal.returns-then-expected-lt1
returns-then-expected-lt1 c = agrees_empty c.args.kind c.args.expected.now c.args.answer.now c.if-expected-lt1.true

pub returns-then-answer-lt-HEAD : goal.returns-then-answer-lt-HEAD
returns-then-answer-lt-HEAD c =
    let a = c.args in
    agrees_short a.kind a.expected.now a.answer.now c.if-expected-lt1.false c.if-answer-lt-HEAD.true

pub returns-then-form-eq0 : goal.returns-then-form-eq0
returns-then-form-eq0 c =
    let a = c.args in
    agrees_bytes a.kind a.expected.now a.answer.now c.if-expected-lt1.false c.if-answer-lt-HEAD.false c.if-form-eq0.true
    (c.accepted.ensures ∙ rw rest_lent)

pub returns-then-form-eq1 : goal.returns-then-form-eq1
returns-then-form-eq1 c =
    let a = c.args in
    agrees_refused a.kind a.expected.now a.answer.now c.if-expected-lt1.false c.if-answer-lt-HEAD.false
    c.if-form-eq1.true (c.refused.ensures ∙ rw rest_lent)

pub returns-then-form-eq2 : goal.returns-then-form-eq2
returns-then-form-eq2 c =
    let a = c.args in
    agrees_exactly a.kind a.expected.now a.answer.now c.if-expected-lt1.false c.if-answer-lt-HEAD.false
    c.if-form-eq2.true (told _ _ _ c.same.ensures ∙ rw rest_lent)

pub returns : goal.returns
returns c =
    let a = c.args in
    agrees_unknown a.kind a.expected.now a.answer.now c.if-expected-lt1.false c.if-answer-lt-HEAD.false
    c.if-form-eq0.false c.if-form-eq1.false c.if-form-eq2.false
