-- `values::other_place` meets its contract: no kind, a text, or a payload that is tested by the greatest one.
use Rattle.std.proofs.Common.{◌<◌, ◌^◌, refl, arith}
use borrow.Author.Tests.{eqb-true, eqb-false, leb-true, leb-false}
use Rattle.values.proofs.stream.FormLaws.{kind_none, moved_if, plain_broken, plain_fits, text_elsewhere, text_here}
use Rattle.values.proofs.stream.form.other_place.Goals as goal

pub returns-then-head-ge-NO_KIND : goal.returns-then-head-ge-NO_KIND
returns-then-head-ge-NO_KIND c = let a = c.args in kind_none a.head a.x a.place c.if-head-ge-NO_KIND.true

pub returns-then-head-eq-TEXT : goal.returns-then-head-eq-TEXT
returns-then-head-eq-TEXT c =
    let a = c.args in
    let e = c.if-head-eq-TEXT.true in
    moved_if _ _ _ c.then_some.ensures refl (omega (arith, c.ranges.x))
    (λ t. text_here a.head a.x a.place e (eqb-true _ _ t))
    (λ t. text_elsewhere a.head a.x a.place e (eqb-false _ _ t))

pub returns : goal.returns
returns c =
    let a = c.args in
    let l = c.if-head-ge-NO_KIND.false in
    let n = c.if-head-eq-TEXT.false in
    let small : a.x < 2 ^ 64 = omega (arith, c.ranges.x) in
    moved_if _ _ _ c.then_some-2.ensures refl (omega arith)
    (λ t. plain_fits a.head a.x a.place small l n (omega (arith, leb-true _ _ t, c.most_of.ensures)))
    (λ t. plain_broken a.head a.x a.place small l n (omega (arith, leb-false _ _ t, c.most_of.ensures)))
