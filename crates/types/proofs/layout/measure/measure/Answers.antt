-- `types::measure` meets its contract. The invariant is `Measuring`.
use Rattle.std.proofs.lemmas.Result.{err_from_is_err_and}
use mathlib.Core.Path.{◌≡◌, sym, ap, ◌∙◌}
use mathlib.Core.Bool.{true, false, true≢false}
use Rattle.types.specs.inside.book.Decls.{decl_at}
use Rattle.types.specs.inside.layout.Passes.{measure_one}
use Rattle.types.specs.layout.HostNames.{host_name}
use Rattle.types.proofs.layout.Measuring.{all_done, one_near, refused, goes_on}
use Rattle.types.proofs.layout.measure.measure.Goals as goal
use Rattle.types.proofs.layout.measure.measure.Goals.{After-measure_one}

-- the step at the declared member, which was read from the book
measure : (c : After-measure_one)
    → c.measure_one.result
    ≡ measure_one (host_name c.args.name.now) c.loop-j.c c.loop-j.long
    (decl_at c.args.types.now c.args.book.now c.args.tys.now c.args.at c.loop-j.j)
measure c = c.measure_one.ensures ∙ ap (measure_one _ _ _) c.decl_at.ensures

pub measure_one-requires : goal.measure_one-requires
measure_one-requires c =
    rw c.decl_at.ensures (one_near c.loop-j.invariant c.loop-j-test.true (λ k. (c.type_inv.book k).fits))

pub returns-in_err-next : goal.returns-in_err-next
returns-in_err-next c =
    let p = err_from_is_err_and c.from_residual.result c.from_residual.ensures.1 in
    let refused-so =
    refused c.loop-j.invariant c.loop-j-test.true (λ k. (c.type_inv.book k).fits) _
    (measure (goal.at.returns-in_err-next c).After-measure_one)
    (λ x y e. let z : true ≡ false = (let w = sym c.in_err-next.was ∙ e in cc) in absurd (true≢false z)) in
    rw (p.1, p.2) (sym c.in_err-next.was ∙ refused-so)

pub loop-j-preserved : goal.loop-j-preserved
loop-j-preserved c =
    goes_on c.loop-j.invariant c.loop-j-test.true (λ k. (c.type_inv.book k).fits) _
    (measure (goal.at.loop-j-preserved c).After-measure_one) c.in_ok-next.was

pub returns : goal.returns
returns c = all_done c.loop-j.invariant c.loop-j-test.false
