-- `types::add_laid` meets its contract, one law for each way out.
use Rattle.std.proofs.Common.{◌≡◌, ◌+◌, sym, ◌∙◌, arith, length, rules}
use Rattle.std.proofs.lemmas.Result.{err_from_is_err_and}
use Rattle.types.proofs.adding.FaultLaws.{mapped_ok, mapped_err}
use Rattle.types.specs.layout.Placing.{fault_number}
use Rattle.types.specs.refusals.Said.{why_of}
use Rattle.words.specs.Words.{Bytes}
use Rattle.types.specs.adding.Add.{room_in_tables}
use Rattle.types.specs.inside.book.Decls.{decls_from}
use Rattle.types.specs.inside.layout.Passes.{parts_of, measured_of, came}
use Rattle.types.specs.layout.Structs.{named_in}
use Rattle.types.proofs.adding.AddLaidLaws.{laid_fault, laid_fitted, laid_counted, laid_near}
use Rattle.types.proofs.adding.AddLaidLaws.{laid_storable}
use Rattle.types.proofs.adding.AddStoreLaws.{Roomy, roomy, PartsCounted, stored_full}
use Rattle.types.proofs.adding.AddStoreLaws.{stored_readable, stored_took, took_no, took_so, took_used}
use Rattle.types.proofs.adding.new_types.add_laid.Goals as goal
use Rattle.types.proofs.adding.new_types.add_laid.Goals.{After-has_room, Else-not-has_room}

laid : (c : After-has_room)
    → came c.in_ok-c.c c.in_ok-c.long
    ≡ measured_of c.args.new.aoi c.args.name.now
    (decls_from c.args.tables.now.types c.args.book.now c.args.tys.now c.args.new.at 0 c.args.new.count)
laid c = sym (mapped_ok _ c.map_err.ensures.cases c.in_ok-c.was) ∙ c.measure_type.ensures

room : (c : After-has_room)
    → c.has_room.result
    ≡ room_in_tables c.args.new.used c.in_ok-c.c.members (length c.args.name.now + c.in_ok-c.long)
room c = c.has_room.ensures

-- its name and parts are counted
counted : (c : After-has_room) → Bytes c.args.book.now
    → PartsCounted c.args.name.now
    (parts_of c.args.new.aoi (named_in c.args.book.now) c.args.name.now
    (decls_from c.args.tables.now.types c.args.book.now c.args.tys.now c.args.new.at 0 c.args.new.count))
    c.args.new.used.types c.in_ok-c.c.members (length c.args.name.now + c.in_ok-c.long)
counted c b = laid_counted c.args.new c.requires.usable c.requires.declared _ (laid c) b

-- there is room
fits : (c : Else-not-has_room)
    → Roomy c.args.new.used c.in_ok-c.c.members (length c.args.name.now + c.in_ok-c.long)
fits c = roomy _ _ _ (sym c.if-not-has_room.false ∙ c.has_room.ensures)

pub returns-in_err-c : goal.returns-in_err-c
returns-in_err-c c =
    let p = err_from_is_err_and c.from_residual.result c.from_residual.ensures.1 in
    let m = mapped_err _ c.map_err.ensures.cases c.in_err-c.was in
    let x = m.2 in
    let w : why_of c.in_err-c.field-0.0 ≡ (fault_number m.0, c.args.new.number) = search rules in
    rw (p.1, p.2) (took_no (laid_fault _ _ _ c.args.new _ m.0 (sym m.1 ∙ c.measure_type.ensures) ∙ rw w))

pub returns-then-not-has_room : goal.returns-then-not-has_room
returns-then-not-has_room c =
    let s = goal.at.returns-then-not-has_room c in
    let a = c.args in
    took_so (laid_fitted _ _ _ a.new _ (laid s.After-has_room))
    (stored_full a.tables.now.types a.tables.now.members a.tables.now.names a.new.used
    (counted s.After-has_room (λ k. (c.type_inv.book k).fits)) _ _ _ (room s.After-has_room) _
    c.if-not-has_room.true)

pub rounded_size-requires : goal.rounded_size-requires
rounded_size-requires c =
    let s = goal.at.rounded_size-requires c in
    laid_near c.args.new c.requires.usable c.requires.declared _ (laid s.After-has_room) (fits s.Else-not-has_room)

pub put_bytes-requires : goal.put_bytes-requires
put_bytes-requires c = omega (arith, (fits (goal.at.put_bytes-requires c).Else-not-has_room).bytes)

pub store_type-requires : goal.store_type-requires
store_type-requires c =
    let s = goal.at.store_type-requires c in
    laid_storable c.args.new c.requires.usable c.requires.declared _ (laid s.After-has_room) (fits s.Else-not-has_room)

pub enter-requires : goal.enter-requires
enter-requires c =
    let s = goal.at.enter-requires c in
    let a = c.args in (
      (fits s.Else-not-has_room).types,
      rw (c.bare_head-head.ensures, c.rounded_size.ensures, c.laid_kind-kind.ensures, c.store_type.ensures.rows)
          (stored_readable a.tables.now.types a.tables.now.members a.tables.now.names a.new.used
          (counted s.After-has_room (λ k. (c.type_inv.book k).fits)) _ _ _ (room s.After-has_room)
          c.if-not-has_room.false c.requires.usable c.requires.rows),
    )

pub used_more-requires : goal.used_more-requires
used_more-requires c =
    let f = fits (goal.at.used_more-requires c).Else-not-has_room in
    (f.types, (omega (arith, f.members), omega (arith, f.bytes)))

pub returns : goal.returns
returns c =
    let s = goal.at.returns c in
    let a = c.args in
    took_used
    c.used_more.ensures
    (took_so (laid_fitted _ _ _ a.new _ (laid s.After-has_room))
    (stored_took a.tables.now.types a.tables.now.members a.tables.now.names a.new.used
    (counted s.After-has_room (λ k. (c.type_inv.book k).fits)) _ _ _ (room s.After-has_room)
    c.if-not-has_room.false c.requires.usable c.requires.rows _ c.requires.bytes
    (c.enter.ensures.members ∙ c.store_type.ensures.rows)
    (c.enter.ensures.names ∙ (c.store_type.ensures.names ∙ rw c.put_bytes.ensures))
    (c.enter.ensures.types ∙ rw (
      c.bare_head-head.ensures,
      c.rounded_size.ensures,
      c.laid_kind-kind.ensures,
      c.enter.ensures.members,
      c.enter.ensures.names,
    ))))
