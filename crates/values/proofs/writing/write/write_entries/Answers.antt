-- `values::write_entries` meets its contract (document 01, "Writing"): the check first, with no image; then the image.
use native.Mathlib.Omega.{arith}
use mathlib.Core.Path.{◌≡◌}
use Rattle.std.proofs.lemmas.Result.{err_from_is_err_and}
use Rattle.values.specs.stream.Form.{count_in}
use Rattle.values.proofs.stream.LeftLaws.{entries_inside}
use Rattle.values.proofs.writing.WrittenLaws.{all_accepted, entered_whole, left_over, refused_entered}
use Rattle.values.proofs.writing.write.write_entries.Goals as goal
use Rattle.values.proofs.writing.write.write_entries.Goals.{After-load-entries}

-- the number of entries
counted : (c : After-load-entries) → c.load-entries.result ≡ count_in c.args.s.now
counted c = c.load-entries.ensures

pub load-entries-requires : goal.load-entries-requires
load-entries-requires c = omega (arith, entries_inside c.args.s.now c.requires.1.1)

pub returns-in_err-next : goal.returns-in_err-next
returns-in_err-next c =
    let a = c.args in
    let p = err_from_is_err_and c.from_residual.result c.from_residual.ensures.1 in
    rw (p.1, p.2)
    (refused_entered a.types.now a.members.now a.ty a.n a.s.now a.image.now c.requires.1.1
    c.in_err-next.ensures)

pub returns-then-next-entries : goal.returns-then-next-entries
returns-then-next-entries c =
    let a = c.args in
    left_over a.types.now a.members.now a.ty a.n a.s.now a.image.now c.requires.1.1 c.in_ok-next.ensures
    (omega (arith, c.if-next-entries.true, counted (goal.at.returns-then-next-entries c).After-load-entries))

pub apply_value-requires-clause-right : goal.apply_value-requires-clause-right
apply_value-requires-clause-right c =
    let a = c.args in
    all_accepted a.types.now a.members.now a.ty a.n a.s.now a.image.now c.requires.1.1
    c.in_ok-next.ensures
    (omega (arith, c.if-next-entries.false, counted (goal.at.apply_value-requires-clause-right c).After-load-entries))

pub returns : goal.returns
returns c =
    let a = c.args in
    entered_whole a.types.now a.members.now a.ty a.n a.s.now a.image.now c.requires.1.1
    c.in_ok-next.ensures
    (omega (arith, c.if-next-entries.false, counted (goal.at.returns c).After-load-entries))
    c.apply_value.ensures (λ k. (c.type_inv.image k).fits)
