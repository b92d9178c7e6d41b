-- `types::store` meets its contract. The invariant is `Storing`.
use Rattle.std.proofs.Common.{◌*◌, ◌≡◌}
use Rattle.std.proofs.lemmas.List.Edits.{sets}
use Rattle.types.specs.inside.book.Decls.{decl_at}
use Rattle.types.specs.inside.layout.Passes.{one_parts, stored_one}
use Rattle.types.specs.layout.Structs.{rows_of, names_of}
use Rattle.types.proofs.layout.store.Storing.{rows_done, names_done, one_fits, rows_stopped, names_stopped, goes_on}
use Rattle.types.proofs.layout.store.store.Goals as goal
use Rattle.types.proofs.layout.store.store.Goals.{After-store_one}

-- the step at the declared member, which was read from the book: what it answers, and what it leaves
next : (c : After-store_one)
    → c.store_one.result
    ≡ stored_one c.args.name.now c.loop-j.next.cursor
    (decl_at c.args.types.now c.args.book.now c.args.tys.now c.args.at c.loop-j.j)
    c.loop-j.next.row c.loop-j.next.place
next c = rw (← c.decl_at-d.ensures) c.store_one.ensures.next

rows : (c : After-store_one)
    → c.store_one.new.members
    ≡ sets c.loop-j.members (8 * c.loop-j.next.row)
    (rows_of c.loop-j.next.place
    (one_parts c.args.book.now c.args.name.now c.loop-j.next.cursor
    (decl_at c.args.types.now c.args.book.now c.args.tys.now c.args.at c.loop-j.j)))
rows c = rw (← c.decl_at-d.ensures) c.store_one.ensures.rows

names : (c : After-store_one)
    → c.store_one.new.names
    ≡ sets c.loop-j.names c.loop-j.next.place
    (names_of
    (one_parts c.args.book.now c.args.name.now c.loop-j.next.cursor
    (decl_at c.args.types.now c.args.book.now c.args.tys.now c.args.at c.loop-j.j)))
names c = rw (← c.decl_at-d.ensures) c.store_one.ensures.names

pub store_one-requires : goal.store_one-requires
store_one-requires c =
    rw c.decl_at-d.ensures (one_fits c.loop-j.invariant c.loop-j-test.true (λ k. (c.type_inv.book k).fits))

pub returns-in_default : goal.returns-in_default
returns-in_default c =
    let one = (goal.at.returns-in_default c).After-store_one in
    let s = c.loop-j.invariant in
    let l = c.loop-j-test.true in
    record {
      rows = rows_stopped s l (λ k. (c.type_inv.book k).fits) _ (next one) c.in_default.is (rows one);
      names = names_stopped s l (λ k. (c.type_inv.book k).fits) _ (next one) c.in_default.is (names one);
    }

pub loop-j-preserved : goal.loop-j-preserved
loop-j-preserved c =
    let one = (goal.at.loop-j-preserved c).After-store_one in
    goes_on c.loop-j.invariant c.loop-j-test.true (λ k. (c.type_inv.book k).fits) _ (next one) c.in-Some.is (rows one)
    (names one)

pub returns : goal.returns
returns c =
    record {
      rows = rows_done c.loop-j.invariant c.loop-j-test.false;
      names = names_done c.loop-j.invariant c.loop-j-test.false;
    }
