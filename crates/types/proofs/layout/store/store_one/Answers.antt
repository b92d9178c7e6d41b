-- `types::store_one` meets its contract: a host's part and the member's, the member's alone, or nothing.
use Rattle.std.proofs.Common.{◌+◌, ◌-◌, ◌≡◌, arith, length, take, drop, refl, ap, Ok, ◌∙◌}
use Rattle.types.specs.tables.Defs.{name_in}
use Rattle.types.proofs.layout.store.StoreOneLaws.{TwoFit, OneFits, two_fit, one_fits, next_hosted, next_alone}
use Rattle.types.proofs.layout.store.StoreOneLaws.{stops, rows_hosted, names_hosted, rows_alone, names_alone}
use Rattle.types.proofs.layout.store.StoreOneLaws.{rows_kept, names_kept}
use Rattle.types.proofs.layout.store.store_one.Goals as goal
use Rattle.types.proofs.layout.store.store_one.Goals.{After-place, In-Ok-Hosted, In-Ok-One}
use Rattle.types.proofs.tables.DefLaws.{lent_name, lent_name_long}

two : (c : In-Ok-Hosted)
    → TwoFit c.args.book.now c.args.name.now c.args.to.cursor c.args.d c.args.to.row c.args.to.place
    c.in-Ok-Hosted.h c.in-Ok-Hosted.m
two c =
    two_fit _ _ _ _ _ _ c.place.ensures c.requires (c.in-Ok-Hosted.is ∙ ap Ok c.in-Ok-Hosted.field-0-is)

one : (c : In-Ok-One) → OneFits c.args.d c.args.to.row c.args.to.place c.in-Ok-One.m
one c =
    one_fits _ _ _ _ _ _ c.place.ensures c.requires (c.in-Ok-One.is ∙ ap Ok c.in-Ok-One.field-0-is)

name : (c : After-place)
    → let s = c.args.d.name.at in
    take (s + c.args.d.name.long - s) (drop s c.args.book.now) ≡ name_in c.args.book.now c.args.d.name
name c = lent_name _ _ refl refl

long : (c : After-place)
    → let s = c.args.d.name.at in
    length (take (s + c.args.d.name.long - s) (drop s c.args.book.now)) ≡ c.args.d.name.long
long c = lent_name_long _ refl refl c.requires.name

pub put_host-host-requires : goal.put_host-host-requires
put_host-host-requires c =
    let f = two (goal.at.put_host-host-requires c).In-Ok-Hosted in
    (omega (arith, f.rows), (c.requires.near.few, (omega (arith, f.names), f.host)))

pub overflow_add-to-in-Ok-Hosted : goal.overflow_add-to-in-Ok-Hosted
overflow_add-to-in-Ok-Hosted c =
    omega (arith, (two (goal.at.overflow_add-to-in-Ok-Hosted c).In-Ok-Hosted).names, c.put_host-host.ensures.long)

pub put_part-requires : goal.put_part-requires
put_part-requires c =
    let f = two (goal.at.put_part-requires c).In-Ok-Hosted in (
      omega (arith, f.rows),
      (
        omega (arith, f.names, c.put_host-host.ensures.long, long (goal.at.put_part-requires c).After-place),
        f.member,
      ),
    )

pub overflow_add-result-in-Ok-Hosted : goal.overflow_add-result-in-Ok-Hosted
overflow_add-result-in-Ok-Hosted c =
    omega (arith, (two (goal.at.overflow_add-result-in-Ok-Hosted c).In-Ok-Hosted).names, c.put_host-host.ensures.long)

pub overflow_add-result-in-Ok-Hosted-2 : goal.overflow_add-result-in-Ok-Hosted-2
overflow_add-result-in-Ok-Hosted-2 c =
    omega (
      arith,
      (two (goal.at.overflow_add-result-in-Ok-Hosted-2 c).In-Ok-Hosted).names,
      c.put_host-host.ensures.long,
    )

pub put_part-requires-in-Ok-One : goal.put_part-requires-in-Ok-One
put_part-requires-in-Ok-One c =
    let f = one (goal.at.put_part-requires-in-Ok-One c).In-Ok-One in (
      omega (arith, f.rows),
      (omega (arith, f.names, long (goal.at.put_part-requires-in-Ok-One c).After-place), f.member),
    )

pub returns-in-Ok-Hosted : goal.returns-in-Ok-Hosted
returns-in-Ok-Hosted c =
    let e = c.place.ensures in
    let q = c.in-Ok-Hosted.is ∙ ap Ok c.in-Ok-Hosted.field-0-is in
    let k = c.put_host-host.ensures in
    let n = name (goal.at.returns-in-Ok-Hosted c).After-place in
    record {
      next = (next_hosted c.args.book.now _ _ _ _ _ e q k.long);
      rows = rw (c.put_part.ensures.rows, k.rows, n) (rows_hosted _ _ _ _ _ _ e c.args.members.now q k.long);
      names = rw (c.put_part.ensures.names, k.names, n)
          (names_hosted _ _ _ _ c.args.to.row _ e c.args.names.now q k.long);
    }

pub returns-in-Ok-One : goal.returns-in-Ok-One
returns-in-Ok-One c =
    let e = c.place.ensures in
    let q = c.in-Ok-One.is ∙ ap Ok c.in-Ok-One.field-0-is in
    let n = name (goal.at.returns-in-Ok-One c).After-place in
    record {
      next = (next_alone c.args.book.now _ _ _ _ _ e q);
      rows = rw (c.put_part-in-Ok-One.ensures.rows, n) (rows_alone _ _ _ _ _ _ e c.args.members.now q);
      names = rw (c.put_part-in-Ok-One.ensures.names, n) (names_alone _ _ _ _ c.args.to.row _ e c.args.names.now q);
    }

pub returns-in-Err : goal.returns-in-Err
returns-in-Err c =
    let e = c.place.ensures in
    let q = c.in-Err.is in
    record {
      next = stops c.args.book.now _ _ _ _ _ e q;
      rows = rows_kept _ _ _ _ _ _ e c.args.members.now q;
      names = names_kept _ _ _ _ c.args.to.row _ e c.args.names.now q;
    }
